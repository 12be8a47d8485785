-- What calls in a row do to known bytes.
use Rattle.std.proofs.Common.{◌≡◌, ℕ, ◌+◌, ◌≤◌, length, take_at, length-take-le, take-append-drop, List, ◌++◌, take, drop, sym, ap, ◌∙◌, subst}
use Rattle.std.proofs.Math.Seq.{take-add}
use Rattle.std.proofs.KnownBytes.{Appends-trans}
use Rattle.std.specs.Prelude.{Option}
use Rattle.std.specs.Io.KnownBytes.{Appends}

-- the first w bytes were appended, and then n of the rest
pub Appends-take : (a b c : Option (List ℕ)) (w n : ℕ) (bs : List ℕ) → Appends a b (take w bs) → Appends b c (take n (drop w bs)) → Appends a c (take (w + n) bs)
Appends-take a b c w n bs p q = subst (Appends a c) (sym (take-add w n bs)) (Appends-trans a b c _ _ p q)

-- a read that copied n bytes from the front of what was left
pub copied_front : (left old new : List ℕ) (n : ℕ) → n ≤ length left → new ≡ take n left ++ drop n old → left ≡ take n new ++ drop n left
copied_front left old new n within is =
    let front : take n new ≡ take n left = ap (take n) is ∙ take_at _ _ n (length-take-le n left within) in
    sym (take-append-drop n left) ∙ ap (λ l. l ++ drop n left) (sym front)
