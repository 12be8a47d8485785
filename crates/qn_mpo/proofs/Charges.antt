-- The total charge of operators, operator by operator.
use Rattle.std.proofs.Common.{◌≡◌, ℕ, ℤ, zero, suc, ◌+◌, ◌*◌, ◌≤◌, ◌<◌, List, [], ◌∷◌, length, get_or, drop, arith, ap, ◌∙◌, sym, subst}
use Rattle.std.proofs.Math.ListN.{drop_of_length-le}
use Rattle.std.proofs.lemmas.List.{get_or_default}
use Rattle.qn_charge.specs.declared.factor.Factor as charge
use Rattle.qn_charge.specs.Charges.{IsCanonical, IsWithin, sum_charge, zero_charge}
use Rattle.qn_charge.specs.Laws.{associative_charge, canonical_sum, canonical_zero, commutative_charge, within_more, within_sum, within_zero, zero_is_neutral}
use Rattle.qn_opsum.specs.Strings.{Factor}
use Rattle.qn_opsum.specs.Sums.{SumValue, no_site, site_at}
use Rattle.qn_opsum.specs.Refusals.{AreSites, IsSum}
use Rattle.qn_sites.specs.Operators.{OpValue}
use Rattle.qn_sites.specs.Sites.{SiteValue, no_operator}
use Rattle.qn_auto.specs.SumAutomaton.{op_charge}
use Rattle.qn_auto.specs.Terms.{AreTermOf, IsFactorOf, charge_in}
use Rattle.qn_auto.proofs.Terms.{flux_fits, list_fits, op_fits}

-- the charges of the first i operators are added
pub record IsAdded (v : SumValue) (fs : List Factor) (i : ℕ) (sum : List ℤ) : Type 0 where
  pub canonical : IsCanonical v.group sum
  pub within : IsWithin (10000000 * i) v.group sum
  pub rest : sum_charge v.group sum (charge_in v (drop i fs)) ≡ charge_in v fs

pub added_first : (v : SumValue) (fs : List Factor) (sum : List ℤ) → AreSites v.group v.sites → AreTermOf v fs → sum ≡ zero_charge v.group → IsAdded v fs 0 sum
added_first v fs sum h t e =
    subst (IsAdded v fs 0) (sym e)
    (record { canonical = canonical_zero v.group h.group; within = within_zero (10000000 * 0) v.group; rest = zero_is_neutral v.group (charge_in v fs) (list_fits v h fs t).0 })

charge_step : (v : SumValue) (fs : List Factor) (i : ℕ) (f : Factor) → i < length fs → f ≡ get_or fs i f →
    charge_in v (drop i fs) ≡ sum_charge v.group (op_charge v.sites f.site f.op) (charge_in v (drop (i + 1) fs))
charge_step v [] i f lt e = absurd (omega arith)
charge_step v (g ∷ fs) zero f lt e = ap (λ (x : Factor). sum_charge v.group (op_charge v.sites x.site x.op) (charge_in v fs)) (sym e)
charge_step v (g ∷ fs) (suc i) f lt e = charge_step v fs i f (omega arith) e ∙ ap (λ k. sum_charge v.group (op_charge v.sites f.site f.op) (charge_in v (drop k (g ∷ fs)))) (next i)
  where
    next : (i : ℕ) → suc (i + 1) ≡ suc i + 1
    next i = omega arith

-- an operator of a list of the sum
pub factor_known : (v : SumValue) (fs : List Factor) (i : ℕ) (f : Factor) → AreTermOf v fs → i < length fs → f ≡ get_or fs i f → IsFactorOf v f
factor_known v fs i f t lt e = subst (IsFactorOf v) (sym e) (t.known i f lt)

pub op_of_sum : (v : SumValue) → AreSites v.group v.sites → (fs : List Factor) (i : ℕ) (f : Factor) → AreTermOf v fs → i < length fs → f ≡ get_or fs i f →
    IsCanonical v.group (op_charge v.sites f.site f.op) × IsWithin 10000000 v.group (op_charge v.sites f.site f.op)
op_of_sum v h fs i f t lt e = op_fits v h f (factor_known v fs i f t lt e)

pub added_more : (v : SumValue) → AreSites v.group v.sites → (fs : List Factor) (i : ℕ) (f : Factor) (q : List ℤ) (sum new : List ℤ) → AreTermOf v fs → i < length fs → f ≡ get_or fs i f →
    q ≡ op_charge v.sites f.site f.op → IsAdded v fs i sum → new ≡ sum_charge v.group sum q → IsAdded v fs (i + 1) new
added_more v h fs i f q sum new t lt is e a n =
    let op = op_of_sum v h fs i f t lt is in
    let c = op_charge v.sites f.site f.op in
    subst (IsAdded v fs (i + 1)) (sym (n ∙ ap (sum_charge v.group sum) e))
    (record {
      canonical = canonical_sum v.group sum c h.group;
      within = within_more (10000000 * i + 10000000) (10000000 * (i + 1)) v.group (sum_charge v.group sum c) (omega arith) (within_sum (10000000 * i) 10000000 v.group sum c a.within op.1);
      rest = associative_charge v.group sum c (charge_in v (drop (i + 1) fs)) h.group ∙ (ap (sum_charge v.group sum) (sym (charge_step v fs i f lt is)) ∙ a.rest);
    })

pub added_all : (v : SumValue) (fs : List Factor) (i : ℕ) (sum : List ℤ) → length fs ≤ i → IsAdded v fs i sum → sum ≡ charge_in v fs
added_all v fs i sum ge a =
    sym (zero_is_neutral v.group sum a.canonical) ∙ (commutative_charge v.group (zero_charge v.group) sum ∙ (ap (λ hs. sum_charge v.group sum (charge_in v hs)) (sym (drop_of_length-le fs ge)) ∙ a.rest))

pub op_charge_is : (ss : List SiteValue) (j k : ℕ) (s : SiteValue) (o : OpValue) (os : List OpValue) → j < length ss → s ≡ get_or ss j s → os ≡ s.ops → k < length (site_at ss j).ops → o ≡ get_or os k o → o.charge ≡ op_charge ss j k
op_charge_is ss j k s o os lt e f at g =
    let site : s ≡ site_at ss j = e ∙ get_or_default ss j s no_site lt in
    let ops : os ≡ (site_at ss j).ops = f ∙ ap (λ (x : SiteValue). x.ops) site in
    ap (λ (x : OpValue). x.charge) (g ∙ (ap (λ xs. get_or xs k o) ops ∙ get_or_default (site_at ss j).ops k o no_operator at))

-- what the sum of charges asks
pub add_fits : (v : SumValue) → AreSites v.group v.sites → (gs : List charge.Factor) → gs ≡ v.group → (fs : List Factor) (i : ℕ) (f : Factor) (q sum : List ℤ) → AreTermOf v fs → i < length fs → f ≡ get_or fs i f →
    q ≡ op_charge v.sites f.site f.op → IsAdded v fs i sum → IsCanonical gs sum × (IsCanonical gs q × IsWithin 4611686018427387904 gs (sum_charge gs sum q))
add_fits v h gs e fs i f q sum t lt is p a =
    let op = op_of_sum v h fs i f t lt is in
    let c = op_charge v.sites f.site f.op in
    let few : i ≤ 32 = omega (arith, t.few) in
    subst (λ hs. IsCanonical hs sum × (IsCanonical hs q × IsWithin 4611686018427387904 hs (sum_charge hs sum q))) (sym e)
    (subst (λ r. IsCanonical v.group sum × (IsCanonical v.group r × IsWithin 4611686018427387904 v.group (sum_charge v.group sum r))) (sym p)
    (a.canonical, (op.0, within_more (10000000 * i + 10000000) 4611686018427387904 v.group (sum_charge v.group sum c) (omega (arith, few)) (within_sum (10000000 * i) 10000000 v.group sum c a.within op.1))))

-- what the difference of flux and charge asks
pub left_fits : (v : SumValue) → IsSum v → (fs : List Factor) → AreTermOf v fs → (gs : List charge.Factor) (q r : List ℤ) → gs ≡ v.group → q ≡ v.flux → r ≡ charge_in v fs →
    IsCanonical gs q × (IsCanonical gs r × (IsWithin 320000000 gs q × IsWithin 320000000 gs r))
left_fits v h fs t gs q r eg eq er =
    let flux = flux_fits v h in
    let list = list_fits v h.sites fs t in
    subst (λ hs. IsCanonical hs q × (IsCanonical hs r × (IsWithin 320000000 hs q × IsWithin 320000000 hs r))) (sym eg)
    (subst (λ z. IsCanonical v.group z × (IsCanonical v.group r × (IsWithin 320000000 v.group z × IsWithin 320000000 v.group r))) (sym eq)
    (subst (λ z. IsCanonical v.group v.flux × (IsCanonical v.group z × (IsWithin 320000000 v.group v.flux × IsWithin 320000000 v.group z))) (sym er) (flux.0, (list.0, (flux.1, list.1)))))
