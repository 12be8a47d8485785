-- The first entry of an operator that does not carry its charge, by its place and by a walk over the entries.
use Rattle.std.proofs.Common.{◌≡◌, ℕ, zero, suc, ◌+◌, ◌-◌, ◌<◌, ◌/◌, ◌%◌, ℤ, pos, List, [], ◌∷◌, length, get_or, Bool, true, false, ◌&&◌, ◌||◌, ◌==◌, cond, Some, None, ◌⊎◌, inl, inr, ⊎_elim, refl, sym, ap, ap₂, ◌∙◌, subst, arith, true≢false}
use Rattle.std.specs.Prelude.{Option, not, is_some, bytes_eq}
use Rattle.std.specs.Bool.{Decides}
use Rattle.std.specs.Option.{option_or}
use Rattle.std.specs.Cmp.{signed_Decides, unsigned_Decides}
use Rattle.std.specs.Cmp.Lexicographic.{pointwise}
use Rattle.std.specs.List.{position_from, zip}
use Rattle.std.specs.Ordering.{int_eq}
use Rattle.std.proofs.lemmas.Slice.Eq.{slice_eq-Decides, bytes_eq-Decides}
use Rattle.qn_gauss.specs.Gaussian.{Gaussian, mag, zero_g}
use Rattle.qn_gauss.proofs.Size.{mag_zero, mag-eq-zero}
use Rattle.qn_charge.specs.declared.factor.Factor.{Factor}
use Rattle.qn_charge.specs.Firsts.{IsFirst, HasNone}
use Rattle.qn_charge.specs.Ranges.{OutOfBound}
use Rattle.qn_index.specs.Legs.{LegValue, total}
use Rattle.qn_sites.specs.Operators.{carried}
use Rattle.qn_sites.specs.Sites.{GivenOp, identity_name}
use Rattle.qn_sites.specs.Refusals.{BadEntry, BadHead, IsClean, IsFaultPlace, IsOffCharge}
use Rattle.qn_parts.specs.declared.fault.Fault.{Fault}
use Rattle.qn_parts.specs.Faults.{fault, fault_if, first_from}
use Rattle.qn_parts.specs.Sectors.{first_out, is_part_out}
use Rattle.qn_parts.proofs.Ranges.{part_out, part_in}
use Rattle.qn_sumdoc.specs.Operators.{has_bad_head, is_off_charge, off_charge_fault, charge_fault}
use Rattle.qn_doc.proofs.Limits.{failed}

-- ---- a walk over a list, with a property of each member at its place

module _ {A : Type 0} (check : ℕ → A → Option Fault) (P : ℕ → A → Type 0) (f : ℕ → Fault) (d : A) where
  none_from : ((k : ℕ) (x : A) → (P k x → ⊥) → check (k + 1) x ≡ None) → (n : ℕ) (xs : List A) → ((j : ℕ) → j < length xs → P (n + j) (get_or xs j d) → ⊥)
      → first_from check (n + 1) xs ≡ None
  none_from not_at n [] h = refl
  none_from not_at n (x ∷ xs) h =
      ap₂ option_or (not_at n x (λ p. h 0 (omega arith) (subst (λ k. P k x) (omega arith) p)))
      (none_from not_at (n + 1) xs (λ j lt p. h (suc j) (omega (arith, lt)) (subst (λ k. P k (get_or xs j d)) (omega arith) p)))

  first_at : ((k : ℕ) (x : A) → (P k x → ⊥) → check (k + 1) x ≡ None) → ((k : ℕ) (x : A) → P k x → check (k + 1) x ≡ Some (f k)) → (n i : ℕ) (xs : List A) → i < length xs
      → P (n + i) (get_or xs i d) → ((j : ℕ) → j < i → P (n + j) (get_or xs j d) → ⊥) → first_from check (n + 1) xs ≡ Some (f (n + i))
  first_at not_at at n i [] lt p h = absurd (omega (arith, lt))
  first_at not_at at n zero (x ∷ xs) lt p h =
      ap (λ o. option_or o (first_from check (n + 1 + 1) xs)) (at n x (subst (λ k. P k x) (omega arith) p)) ∙ ap (λ k. Some (f k)) (omega arith)
  first_at not_at at n (suc i) (x ∷ xs) lt p h =
      ap (λ o. option_or o (first_from check (n + 1 + 1) xs)) (not_at n x (λ q. h 0 (omega arith) (subst (λ k. P k x) (omega arith) q)))
      ∙ (first_at not_at at (n + 1) i xs (omega (arith, lt)) (subst (λ k. P k (get_or xs i d)) (omega arith) p)
      (λ j less q. h (suc j) (omega (arith, less)) (subst (λ k. P k (get_or xs j d)) (omega arith) q))
      ∙ ap (λ k. Some (f k)) (omega arith))

-- ---- one entry

turned : (b : Bool) → b ≡ false → not b ≡ true
turned b e = ap not e

both : (a b : Bool) → a ≡ true → b ≡ true → (a && b) ≡ true
both a b p q = ap₂ (λ x y. x && y) p q

halves : (a b : Bool) → (a && b) ≡ true → (a ≡ true) × (b ≡ true)
halves true b e = (refl, e)
halves false b e = absurd (true≢false (sym e))

denied : (b : Bool) → not b ≡ true → b ≡ false
denied true e = absurd (true≢false (sym e))
denied false e = refl

same_charge : (q r : List ℤ) → Decides (pointwise int_eq q r) (q ≡ r)
same_charge q r = slice_eq-Decides signed_Decides q r (pointwise int_eq q r) refl

off_is : (fs : List Factor) (l : LegValue) (q : List ℤ) (k : ℕ) (z : Gaussian) → IsOffCharge fs l q k z → is_off_charge fs l.sectors q k z ≡ true
off_is fs l q k z h =
    let c = carried fs l.sectors (k / total l.sectors) (k % total l.sectors) in
    both (not (mag z == 0)) (not (pointwise int_eq c q))
    (turned (mag z == 0) (failed (mag z == 0) (λ e. h.some (mag-eq-zero z ((unsigned_Decides (mag z) 0).0 e)))))
    (turned (pointwise int_eq c q) (failed (pointwise int_eq c q) (λ e. h.other ((same_charge c q).0 e))))

off_was : (fs : List Factor) (l : LegValue) (q : List ℤ) (k : ℕ) (z : Gaussian) → is_off_charge fs l.sectors q k z ≡ true → IsOffCharge fs l q k z
off_was fs l q k z e =
    let c = carried fs l.sectors (k / total l.sectors) (k % total l.sectors) in
    let h = halves (not (mag z == 0)) (not (pointwise int_eq c q)) e in
    record {
      some = λ is. true≢false (sym ((unsigned_Decides (mag z) 0).1 (ap mag is ∙ mag_zero)) ∙ denied (mag z == 0) h.0);
      other = λ is. true≢false (sym ((same_charge c q).1 is) ∙ denied (pointwise int_eq c q) h.1);
    }

before_next : (k : ℕ) → k + 1 - 1 ≡ k
before_next k = omega arith

found : (fs : List Factor) (l : LegValue) (q : List ℤ) (site op k : ℕ) (z : Gaussian) → IsOffCharge fs l q k z → off_charge_fault fs l.sectors q site op (k + 1) z ≡ Some (fault 32 site op (k + 1))
found fs l q site op k z h =
    ap (λ i. fault_if (is_off_charge fs l.sectors q i z) (fault 32 site op (k + 1))) (before_next k)
    ∙ ap (λ b. fault_if b (fault 32 site op (k + 1))) (off_is fs l q k z h)

missed : (fs : List Factor) (l : LegValue) (q : List ℤ) (site op k : ℕ) (z : Gaussian) → (IsOffCharge fs l q k z → ⊥) → off_charge_fault fs l.sectors q site op (k + 1) z ≡ None
missed fs l q site op k z h =
    ap (λ i. fault_if (is_off_charge fs l.sectors q i z) (fault 32 site op (k + 1))) (before_next k)
    ∙ ap (λ b. fault_if b (fault 32 site op (k + 1))) (failed (is_off_charge fs l.sectors q k z) (λ e. h (off_was fs l q k z e)))

-- ---- the name and the charge

-- where the name and the charge are right, and where they are not
abbrev pub IsHeadTest : List Factor → GivenOp → Type 0
IsHeadTest fs g = Decides (has_bad_head fs g) (BadHead fs g.name g.charge)

either : {P Q : Type 0} (a b : Bool) → Decides a P → Decides b Q → Decides (a || b) (P ⊎ Q)
either true b p q = (λ e. inl (p.0 refl), λ h. refl)
either false b p q = (λ e. inr (q.0 e), λ h. ⊎_elim (λ x. absurd (true≢false (sym (p.1 x)))) (λ y. q.1 y) h)

abbrev out : ℤ → Factor × ℤ → Bool
out bound p = is_part_out bound p.0 p.1

out_test : (bound : ℤ) (fs : List Factor) (xs : List ℤ) (n : ℕ) → length xs ≡ length fs
    → Decides (is_some (position_from (out bound) n (zip fs xs))) ((i : ℕ) × OutOfBound bound fs xs i)
out_test bound [] xs n len = (λ e. absurd (true≢false (sym e)), λ h. absurd (omega (arith, h.1.0)))
out_test bound (f ∷ fs) [] n len = absurd (omega (arith, len))
out_test bound (f ∷ fs) (x ∷ xs) n len = by (is_part_out bound f x) refl (out_test bound fs xs (n + 1) (omega (arith, len)))
  where
    later : is_part_out bound f x ≡ false → (i : ℕ) → OutOfBound bound (f ∷ fs) (x ∷ xs) i → (i : ℕ) × OutOfBound bound fs xs i
    later e zero h = absurd (part_in bound f x e h.1)
    later e (suc i) h = (i, (omega (arith, h.0), h.1))

    by : (b : Bool) → is_part_out bound f x ≡ b → Decides (is_some (position_from (out bound) (n + 1) (zip fs xs))) ((i : ℕ) × OutOfBound bound fs xs i)
        → Decides (is_some (cond b (Some n) (position_from (out bound) (n + 1) (zip fs xs)))) ((i : ℕ) × OutOfBound bound (f ∷ fs) (x ∷ xs) i)
    by true e rest = (λ t. (0, (omega arith, part_out bound f x e)), λ h. refl)
    by false e rest = (λ t. let h = rest.0 t in (suc h.0, (omega (arith, h.1.0), h.1.1)), λ h. rest.1 (later e h.0 h.1))

-- the test of the name and the charge
pub head_test : (fs : List Factor) (g : GivenOp) → length g.charge ≡ length fs → IsHeadTest fs g
head_test fs g len =
    either (bytes_eq g.name identity_name) (is_some (first_out (pos 10000000) fs g.charge))
    (bytes_eq-Decides g.name identity_name) (out_test (pos 10000000) fs g.charge 0 len)

-- ---- the whole operator

entries_right : (fs : List Factor) (l : LegValue) (site op : ℕ) (g : GivenOp) → HasNone (BadEntry fs l g.charge g.entries)
    → first_from (off_charge_fault fs l.sectors g.charge site op) (0 + 1) g.entries ≡ None
entries_right fs l site op g h =
    none_from (off_charge_fault fs l.sectors g.charge site op) (IsOffCharge fs l g.charge) (λ k. fault 32 site op (k + 1)) zero_g
    (missed fs l g.charge site op) 0 g.entries (λ j lt p. h j (lt, subst (λ k. IsOffCharge fs l g.charge k (get_or g.entries j zero_g)) (omega arith) p))

entries_wrong : (fs : List Factor) (l : LegValue) (site op : ℕ) (g : GivenOp) (i : ℕ) → IsFirst (BadEntry fs l g.charge g.entries) i
    → first_from (off_charge_fault fs l.sectors g.charge site op) (0 + 1) g.entries ≡ Some (fault 32 site op (i + 1))
entries_wrong fs l site op g i h =
    first_at (off_charge_fault fs l.sectors g.charge site op) (IsOffCharge fs l g.charge) (λ k. fault 32 site op (k + 1)) zero_g
    (missed fs l g.charge site op) (found fs l g.charge site op) 0 i g.entries h.here.0
    (subst (λ k. IsOffCharge fs l g.charge k (get_or g.entries i zero_g)) (omega arith) h.here.1)
    (λ j less p. h.before j less (omega (arith, less, h.here.0), subst (λ k. IsOffCharge fs l g.charge k (get_or g.entries j zero_g)) (omega arith) p))
    ∙ ap (λ k. Some (fault 32 site op (k + 1))) (omega arith)

-- an operator with nothing at fault
pub charge_right : (fs : List Factor) (l : LegValue) (site op : ℕ) (g : GivenOp) → IsHeadTest fs g → IsClean fs l g → charge_fault fs l site op g ≡ None
unfolding charge_fault
charge_right fs l site op g head h =
    ap₂ option_or (ap (λ b. fault_if b (fault 32 site op 0)) (failed (has_bad_head fs g) (λ e. h.head (head.0 e)))) (entries_right fs l site op g h.entries)

-- and one that is at fault
pub charge_wrong : (fs : List Factor) (l : LegValue) (site op : ℕ) (g : GivenOp) (place : ℕ) → IsHeadTest fs g → IsFaultPlace fs l g place → charge_fault fs l site op g ≡ Some (fault 32 site op place)
unfolding charge_fault
charge_wrong fs l site op g zero head h =
    ap (λ b. option_or (fault_if b (fault 32 site op 0)) (first_from (off_charge_fault fs l.sectors g.charge site op) 1 g.entries)) (head.1 h)
charge_wrong fs l site op g (suc k) head h =
    ap₂ option_or (ap (λ b. fault_if b (fault 32 site op 0)) (failed (has_bad_head fs g) (λ e. h.0 (head.0 e)))) (entries_wrong fs l site op g k h.1)
    ∙ ap (λ i. Some (fault 32 site op i)) (omega arith)
