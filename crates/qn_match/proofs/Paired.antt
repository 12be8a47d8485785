-- What can be contracted: from its parts, and from the tensors.
use Rattle.std.proofs.Common.{◌≡◌, ◌≤◌, ◌^◌, ◌+◌, ℕ, ℤ, Bool, List, length, arith, sym, subst}
use Rattle.std.specs.Prelude.{Result, Ok, Err, IfOk, IsTrue, ◌↔◌}
use Rattle.std.specs.List.{All}
use Rattle.std.proofs.lemmas.List.Elements.{All-append}
use Rattle.qn_charge.specs.declared.factor.Factor.{Factor}
use Rattle.qn_charge.specs.Charges.{IsWithin, sum_charge}
use Rattle.qn_charge.specs.Laws.{within_more, within_sum}
use Rattle.qn_index.specs.Legs.{LegValue, IsLegOf}
use Rattle.qn_index.specs.Tuples.{IsFlux}
use Rattle.qn_block.specs.Blocked.{BlockedValue, IsBlocked}
use Rattle.qn_match.specs.Pairs.{is_first, is_second, marks, joined, ArePaired, IsPair}
use Rattle.qn_match.proofs.Lefts.{all_unmarked}

-- the sum of two fluxes can be made
pub flux_within : (fs : List Factor) (p q : List ℤ) → IsFlux fs p → IsFlux fs q → IsWithin (2 ^ 62) fs (sum_charge fs p q)
flux_within fs p q h k =
    let le : 2 ^ 50 + 2 ^ 50 ≤ 2 ^ 62 = omega arith in
    within_more (2 ^ 50 + 2 ^ 50) (2 ^ 62) fs (sum_charge fs p q) le (within_sum (2 ^ 50) (2 ^ 50) fs p q h.within k.within)

pub joined_legs : (fs : List Factor) (ks ls : List LegValue) (shared : List (ℕ × ℕ)) → All (IsLegOf fs) ks → All (IsLegOf fs) ls → All (IsLegOf fs) (joined shared ks ls)
joined_legs fs ks ls shared h k =
    All-append (IsLegOf fs) _ _ (all_unmarked (IsLegOf fs) (marks (is_first shared) (length ks)) ks h) (all_unmarked (IsLegOf fs) (marks (is_second shared) (length ls)) ls k)

-- the parts of two tensors of one group
pub record AreParts (fs : List Factor) (ks : List LegValue) (p : List ℤ) (ls : List LegValue) (q : List ℤ) : Type 0 where
  pub a_legs : All (IsLegOf fs) ks
  pub a_flux : IsFlux fs p
  pub b_legs : All (IsLegOf fs) ls
  pub b_flux : IsFlux fs q

pub are_parts : (a b : BlockedValue) (fs : List Factor) (ks : List LegValue) (p : List ℤ) (ls : List LegValue) (q : List ℤ) → fs ≡ a.group → ks ≡ a.legs → p ≡ a.flux → ls ≡ b.legs → q ≡ b.flux → a.group ≡ b.group → IsBlocked a → IsBlocked b → AreParts fs ks p ls q
are_parts a b fs ks p ls q e f g h k same ha hb =
    let base : AreParts a.group a.legs a.flux b.legs b.flux = record {
      a_legs = ha.charges;
      a_flux = ha.flux;
      b_legs = subst (λ gs. All (IsLegOf gs) b.legs) (sym same) hb.charges;
      b_flux = subst (λ gs. IsFlux gs b.flux) (sym same) hb.flux;
    } in
    subst (λ x. AreParts x ks p ls q) (sym e) (subst (λ x. AreParts a.group x p ls q) (sym f) (subst (λ x. AreParts a.group a.legs x ls q) (sym g) (subst (λ x. AreParts a.group a.legs a.flux x q) (sym h) (subst (λ x. AreParts a.group a.legs a.flux b.legs x) (sym k) base))))

-- the answer over the parts is that over the tensors
pub pair_answer : {E : Type 0} (a b : BlockedValue) (shared : List (ℕ × ℕ)) (fs : List Factor) (ks : List LegValue) (p : List ℤ) (ls : List LegValue) (q : List ℤ) (r : Result Bool E) →
    fs ≡ a.group → ks ≡ a.legs → p ≡ a.flux → ls ≡ b.legs → q ≡ b.flux → a.group ≡ b.group →
    IfOk r (λ x. IsTrue x ↔ ArePaired fs ks p ls q shared) → IfOk r (λ x. IsTrue x ↔ IsPair a b shared)
pair_answer a b shared fs ks p ls q (Err x) e f g h k same t = tt
pair_answer a b shared fs ks p ls q (Ok x) e f g h k same t = (λ yes. record { group = same; shapes = there (t.0 yes) }, λ pair. t.1 (back pair.shapes))
  where
    there : ArePaired fs ks p ls q shared → ArePaired a.group a.legs a.flux b.legs b.flux shared
    there z = subst (λ x. ArePaired a.group a.legs a.flux b.legs x shared) k (subst (λ x. ArePaired a.group a.legs a.flux x q shared) h (subst (λ x. ArePaired a.group a.legs x ls q shared) g (subst (λ x. ArePaired a.group x p ls q shared) f (subst (λ x. ArePaired x ks p ls q shared) e z))))

    back : ArePaired a.group a.legs a.flux b.legs b.flux shared → ArePaired fs ks p ls q shared
    back z = subst (λ x. ArePaired x ks p ls q shared) (sym e) (subst (λ x. ArePaired a.group x p ls q shared) (sym f) (subst (λ x. ArePaired a.group a.legs x ls q shared) (sym g) (subst (λ x. ArePaired a.group a.legs a.flux x q shared) (sym h) (subst (λ x. ArePaired a.group a.legs a.flux b.legs x shared) (sym k) z))))
