-- Four places, of which the first k hold a list and the others what stands for nothing.
use Rattle.std.specs.Prelude.{ℕ, ℤ, pos, ◌-◌, ◌≤◌, ◌≡◌, List, ◌++◌, length, take, drop, replicate, false, zero, suc, negsuc, [], ◌∷◌, refl}
use Rattle.std.specs.Cmp.Lexicographic.{slice_cmp}
use Rattle.std.specs.Ordering.{int_cmp, ordering_then}
use Rattle.std.specs.declared.cmp.Ordering.TheVariants.{Equal}
use Rattle.std.proofs.lemmas.Bool.Decides.{nat_tests}
use Rattle.std.proofs.Common.{subst, sym, ◌∙◌, ap, arith}
use Rattle.std.proofs.lemmas.List.{take-append-drop}
use Rattle.qn_charge.specs.declared.factor.Factor.{Factor}
use Rattle.qn_charge.specs.declared.factor.Factor.TheVariants.{U1}
use Rattle.qn_charge.specs.Charges.{IsGroup}

-- a list of k, at most 4, and after it what stands for nothing up to the fourth place
pub record IsPadded {A : Type 0} (nothing : A) (k : ℕ) (ps : List A) : Type 0 where
  pub few : k ≤ 4
  pub four : length ps ≡ 4
  pub rest : drop k ps ≡ replicate (4 - k) nothing

-- a list, and after its k elements what stands for nothing up to the fourth place
abbrev pub padded : {A : Type 0} → A → ℕ → List A → List A
padded nothing k xs = xs ++ replicate (4 - k) nothing

-- the first k places say what all four are
pub padded-take : {A : Type 0} (nothing : A) (k : ℕ) (ps : List A) → IsPadded nothing k ps → padded nothing k (take k ps) ≡ ps
padded-take nothing k ps h = subst (λ t. take k ps ++ t ≡ ps) h.rest (take-append-drop k ps)

-- the factors of a group, and after them bosonic U(1)
pub record IsGroupPadded (k : ℕ) (fs : List Factor) : Type 0 where
  pub padded : IsPadded (U1 false) k fs
  pub group : IsGroup (take k fs)

-- factors, and after them bosonic U(1)
abbrev pub group_padded : ℕ → List Factor → List Factor
group_padded k fs = padded (U1 false) k fs

pub group_padded-take : (k : ℕ) (fs : List Factor) → IsGroupPadded k fs → group_padded k (take k fs) ≡ fs
group_padded-take k fs h = padded-take (U1 false) k fs h.padded

-- two that hold the same list are the same
pub padded-same : {A : Type 0} (nothing : A) (k : ℕ) (ps qs : List A) → IsPadded nothing k ps → IsPadded nothing k qs → take k ps ≡ take k qs → ps ≡ qs
padded-same nothing k ps qs g h e = sym (padded-take nothing k ps g) ∙ (ap (padded nothing k) e ∙ padded-take nothing k qs h)

same_int : (x : ℤ) → int_cmp x x ≡ Equal
same_int (pos n) = grind (arith, nat_tests)
same_int (negsuc n) = grind (arith, nat_tests)

same_ints : (xs : List ℤ) → slice_cmp int_cmp xs xs ≡ Equal
same_ints [] = refl
same_ints (x ∷ xs) = ap (λ o. ordering_then o (slice_cmp int_cmp xs xs)) (same_int x) ∙ same_ints xs

-- equal places after the first k change nothing
pub cmp_take : (k : ℕ) (ps qs : List ℤ) → length ps ≡ length qs → drop k ps ≡ drop k qs → slice_cmp int_cmp ps qs ≡ slice_cmp int_cmp (take k ps) (take k qs)
cmp_take zero ps qs n e = ap (slice_cmp int_cmp ps) (sym e) ∙ same_ints ps
cmp_take (suc k) [] [] n e = refl
cmp_take (suc k) [] (y ∷ ys) n e = absurd (omega arith)
cmp_take (suc k) (x ∷ xs) [] n e = absurd (omega arith)
cmp_take (suc k) (x ∷ xs) (y ∷ ys) n e = ap (ordering_then (int_cmp x y)) (cmp_take k xs ys (omega arith) e)
