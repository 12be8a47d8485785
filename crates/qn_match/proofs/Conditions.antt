-- What the parts of a pair's tasks ask for follows from what is asked of the pair.
use Rattle.std.proofs.Common.{◌≡◌, ◌∙◌, ℕ, ◌<◌, ◌≤◌, ◌^◌, ℤ, List, [], length, get_or, arith, sym, ap₂, subst}
use Rattle.std.specs.Cmp.Lexicographic.{slice_cmp}
use Rattle.std.specs.Ordering.{nat_cmp}
use Rattle.std.specs.declared.cmp.Ordering.TheVariants.{Less}
use Rattle.std.specs.List.{All, AllPairs}
use Rattle.std.proofs.lemmas.List.{get_or_default}
use Rattle.qn_charge.specs.declared.factor.Factor.{Factor}
use Rattle.qn_charge.specs.Charges.{IsCanonical, IsWithin, sum_charge}
use Rattle.qn_charge.specs.Laws.{within_more}
use Rattle.qn_index.specs.Legs.{LegValue, IsLegOf}
use Rattle.qn_index.specs.Tuples.{IsFlux, count, admitted}
use Rattle.qn_index.proofs.Admitted.{admitted_ascend}
use Rattle.qn_index.proofs.Nets.{tuple_length}
use Rattle.qn_value.specs.Tensors.{BlockValue}
use Rattle.qn_block.specs.Blocked.{BlockedValue, IsBlocked}
use Rattle.qn_match.specs.Pairs.{joined, IsPair}
use Rattle.qn_match.proofs.Paired.{joined_legs}

-- the sum of the fluxes can be made
pub record AreAdded (fs : List Factor) (p q : List ℤ) : Type 0 where
  pub first : IsCanonical fs p
  pub second : IsCanonical fs q
  pub within : IsWithin (2 ^ 62) fs (sum_charge fs p q)

pub are_added : (a b : BlockedValue) (sh : List (ℕ × ℕ)) (fs : List Factor) (p q : List ℤ) → fs ≡ a.group → p ≡ a.flux → q ≡ b.flux → IsBlocked a → IsBlocked b → IsPair a b sh → AreAdded fs p q
are_added a b sh fs p q e f g ha hb h =
    let le : 2 ^ 50 ≤ 2 ^ 62 = omega arith in
    let base : AreAdded a.group a.flux b.flux = record {
      first = ha.flux.canonical;
      second = subst (λ gs. IsCanonical gs b.flux) (sym h.group) hb.flux.canonical;
      within = within_more (2 ^ 50) (2 ^ 62) a.group (sum_charge a.group a.flux b.flux) le h.shapes.flux.within;
    } in
    subst (λ gs. AreAdded gs p q) (sym e) (subst (λ x. AreAdded a.group x q) (sym f) (subst (λ y. AreAdded a.group a.flux y) (sym g) base))

-- the tuples of the result can be listed
pub record AreListed (fs : List Factor) (ls : List LegValue) (q : List ℤ) : Type 0 where
  pub few : length ls ≤ 64
  pub group : All (IsLegOf fs) ls
  pub flux : IsFlux fs q
  pub width : count ls ≤ 2 ^ 20

pub are_listed : (a b : BlockedValue) (sh : List (ℕ × ℕ)) (fs : List Factor) (ls : List LegValue) (q : List ℤ) → fs ≡ a.group → ls ≡ joined sh a.legs b.legs → q ≡ sum_charge a.group a.flux b.flux → IsBlocked a → IsBlocked b → IsPair a b sh → AreListed fs ls q
are_listed a b sh fs ls q e f g ha hb h =
    let sum : List ℤ = sum_charge a.group a.flux b.flux in
    let base : AreListed a.group (joined sh a.legs b.legs) sum = record {
      few = h.shapes.width.legs;
      group = joined_legs a.group a.legs b.legs sh ha.charges (subst (λ gs. All (IsLegOf gs) b.legs) (sym h.group) hb.charges);
      flux = h.shapes.flux;
      width = h.shapes.width.tuples;
    } in
    subst (λ gs. AreListed gs ls q) (sym e) (subst (λ ks. AreListed a.group ks q) (sym f) (subst (λ y. AreListed a.group (joined sh a.legs b.legs) y) (sym g) base))

-- each tuple has a sector for each leg
pub record AreLong (n : ℕ) (bs : List BlockValue) : Type 0 where
  pub counts : (k : ℕ) (d : BlockValue) → k < length bs → length (get_or bs k d).tuple ≡ n

pub are_long : (a : BlockedValue) (bs : List BlockValue) (ls : List LegValue) → bs ≡ a.blocks → ls ≡ a.legs → IsBlocked a → AreLong (length ls) bs
are_long a bs ls e f h =
    let base : AreLong (length a.legs) a.blocks = record { counts = λ k d lt. tuple_length a.legs (get_or a.blocks k d).tuple (h.blocks k d lt).tuple } in
    subst (λ cs. AreLong (length ls) cs) (sym e) (subst (λ ks. AreLong (length ks) a.blocks) (sym f) base)

-- the tuples of the result ascend
pub are_ascending : (fs : List Factor) (ls : List LegValue) (q : List ℤ) (ts : List (List ℕ)) → ts ≡ admitted fs ls q → AllPairs (λ s t. slice_cmp nat_cmp s t ≡ Less) ts
are_ascending fs ls q ts e i j d lt m =
    let k : j < length (admitted fs ls q) = subst (λ us. j < length us) e m in
    subst (λ us. slice_cmp nat_cmp (get_or us i d) (get_or us j d) ≡ Less) (sym e)
    (ap₂ (λ s t. slice_cmp nat_cmp s t) (get_or_default (admitted fs ls q) i d [] (omega arith)) (get_or_default (admitted fs ls q) j d [] k) ∙ admitted_ascend fs ls q i j lt k)
