-- Loops over the values of a slice, from its first on.
use Rattle.std.proofs.Common.{◌≡◌, ℕ, ◌+◌, ◌-◌, ◌<◌, List, [], ◌∷◌, ◌++◌, length, map, take, drop, get_or, None, arith, sym, ap, ◌∙◌}
use Rattle.std.specs.Prelude.{Option}
use Rattle.std.specs.Option.{option_or}
use Rattle.std.proofs.lemmas.List.{append_assoc}
use Rattle.std.proofs.Math.Seq.{take-length}
use Rattle.serde_json.specs.Data.{Data}
use Rattle.serde_json.specs.View.{view}
use Rattle.serde_json.specs.declared.value.Value.{Value}
use Rattle.qn_parts.specs.declared.fault.Fault.{Fault}
use Rattle.qn_parts.specs.Faults.{first_from}

-- the first and the rest
cons_is : (rest : List Value) (v : Value) → 0 < length rest → v ≡ get_or rest 0 v → rest ≡ v ∷ take (length rest - 1) (drop 1 rest)
cons_is [] v h is = absurd (omega (arith, h))
cons_is (x ∷ later) v h is =
    let whole : take (length (x ∷ later) - 1) later ≡ later = ap (λ n. take n later) (omega arith) ∙ take-length later in
    ap (λ y. y ∷ later) (sym is) ∙ ap (λ l. v ∷ l) (sym whole)

-- a walk goes on after a member without a fault
pub walk_next : (check : ℕ → Data → Option Fault) (n p : ℕ) (rest : List Value) (v : Value) → 0 < length rest → v ≡ get_or rest 0 v → p ≡ n → check p (view v) ≡ None
    → first_from check (p + 1) (map view (take (length rest - 1) (drop 1 rest))) ≡ first_from check n (map view rest)
walk_next check n p rest v h is place none =
    let tail = take (length rest - 1) (drop 1 rest) in
    sym
    (ap (λ vs. first_from check n (map view vs)) (cons_is rest v h is)
    ∙ (ap (λ k. first_from check k (view v ∷ map view tail)) (sym place) ∙ ap (λ o. option_or o (first_from check (p + 1) (map view tail))) none))

-- what was made, and one more
pub made_next : {A : Type 0} (f : Data → A) (made : List A) (m : A) (rest : List Value) (v : Value) → 0 < length rest → v ≡ get_or rest 0 v → m ≡ f (view v)
    → (made ++ m ∷ []) ++ map f (map view (take (length rest - 1) (drop 1 rest))) ≡ made ++ map f (map view rest)
made_next f made m rest v h is e =
    let tail = take (length rest - 1) (drop 1 rest) in
    append_assoc made (m ∷ []) (map f (map view tail))
    ∙ ap (λ xs. made ++ xs) (ap (λ y. y ∷ map f (map view tail)) e ∙ sym (ap (λ vs. map f (map view vs)) (cons_is rest v h is)))
