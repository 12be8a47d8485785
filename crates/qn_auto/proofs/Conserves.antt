-- The operators of a sum's sites carry their charges, and the values of a link's leg have the charges of its states.
use Rattle.std.proofs.Common.{◌≡◌, ◌≢◌, ℕ, ℤ, zero, suc, ◌+◌, ◌-◌, ◌*◌, ◌<◌, ◌≤◌, ◌⊎◌, inl, inr, Bool, true, false, ◌&&◌, ◌==◌, cond, List, [], ◌∷◌, length, get_or, map, refl, sym, ◌∙◌, ap, subst, arith}
use mathlib.Core.Path.{fun_ext}
use Rattle.std.specs.Prelude.{nat_lt}
use Rattle.std.specs.Cmp.Lexicographic.{pointwise}
use Rattle.std.specs.Ordering.{int_eq}
use Rattle.std.specs.Cmp.Rules.{signed_items}
use Rattle.std.proofs.lemmas.Bool.{cases_lt, false≢true}
use Rattle.std.proofs.lemmas.Bool.Decides.{nat_tests}
use Rattle.std.proofs.lemmas.List.{get_or_past}
use Rattle.qn_gauss.specs.Gaussian.{Gaussian, zero_g, mul_g}
use Rattle.qn_charge.specs.declared.factor.Factor as charge
use Rattle.qn_charge.specs.Charges.{IsCanonical, IsGroup, neg_charge, sum_charge, zero_charge}
use Rattle.qn_charge.specs.Laws.{associative_charge, commutative_charge, neg_is_inverse, zero_is_neutral}
use Rattle.qn_index.specs.Legs.{IsLegOf, SectorValue, charge_at, no_sector, sector_at, sector_of, total}
use Rattle.qn_sites.specs.Operators.{IsOperator, OpValue, carried, element}
use Rattle.qn_sites.specs.Sites.{IsSite, SiteValue, no_operator}
use Rattle.qn_value.specs.Networks.{sum_below}
use Rattle.qn_opsum.specs.Strings.{Factor, Sites, matrix}
use Rattle.qn_opsum.specs.Sums.{no_site, op_at, site_at, sites_of}
use Rattle.qn_opsum.specs.Refusals.{AreSites}
use Rattle.qn_opsum.proofs.Products.{same_number}
use Rattle.qn_auto.specs.Flux.{HasCharges, on_site, ops_at}
use Rattle.qn_auto.specs.SumAutomaton.{op_charge}

-- the charge of a value of a site
abbrev pub value_charge : List SiteValue → ℕ → ℕ → List ℤ
value_charge ss j x = charge_at (site_at ss j).leg.sectors x

-- the sector of a value is one of the leg's
sector_below : (ps : List SectorValue) (x : ℕ) → x < total ps → sector_of ps x < length ps
sector_below [] x h = absurd (none x h)
  where
    none : (x : ℕ) → x < 0 → ⊥
    none x h = omega arith
sector_below (p ∷ ps) x h = by (nat_lt x p.dim) refl (sector_below ps (x - p.dim))
  where
    some : (n : ℕ) → 0 < suc n
    some n = omega arith

    more : (k n : ℕ) → k < n → suc k < suc n
    more k n h = omega arith

    left : (x d t : ℕ) → nat_lt x d ≡ false → x < d + t → x - d < t
    left x d t e h = grind (arith, nat_tests)

    by : (b : Bool) → nat_lt x p.dim ≡ b → (x - p.dim < total ps → sector_of ps (x - p.dim) < length ps) → cond b 0 (suc (sector_of ps (x - p.dim))) < suc (length ps)
    by true e ih = some (length ps)
    by false e ih = more (sector_of ps (x - p.dim)) (length ps) (ih (left x p.dim (total ps) e h))

-- a value of a leg has a charge of the group
pub value_canonical : (fs : List charge.Factor) (ps : List SectorValue) (x : ℕ) → ((k : ℕ) → k < length ps → IsCanonical fs (sector_at ps k).charge) → x < total ps → IsCanonical fs (charge_at ps x)
value_canonical fs ps x h lt = h (sector_of ps x) (sector_below ps x lt)

-- from the charge that an entry carries to that of its row
row_from : (fs : List charge.Factor) (r q c : List ℤ) → IsGroup fs → IsCanonical fs r → sum_charge fs r (neg_charge fs c) ≡ q → r ≡ sum_charge fs q c
row_from fs r q c group canonical e =
    sym (ap (λ z. sum_charge fs z c) (sym e)
    ∙ (associative_charge fs r (neg_charge fs c) c group
    ∙ (ap (sum_charge fs r) (neg_is_inverse fs c group) ∙ (commutative_charge fs r (zero_charge fs) ∙ zero_is_neutral fs r canonical))))

-- an entry is 0 out of range
element_past : (o : OpValue) (r c : ℕ) → total o.leg.sectors ≤ r → element o r c ≡ zero_g
element_past o r c h = ap (λ b. cond (b && nat_lt c (total o.leg.sectors)) (get_or o.entries (r * total o.leg.sectors + c) zero_g) zero_g) (past r (total o.leg.sectors) h)
  where
    past : (r n : ℕ) → n ≤ r → nat_lt r n ≡ false
    past r n h = grind (arith, nat_tests)

op_carries : (fs : List charge.Factor) (o : OpValue) (r c : ℕ) → IsOperator o → o.group ≡ fs →
    (charge_at o.leg.sectors r ≡ sum_charge fs o.charge (charge_at o.leg.sectors c)) ⊎ (element o r c ≡ zero_g)
op_carries fs o r c h e = range (cases_lt r (total o.leg.sectors))
  where
    group : IsGroup fs
    group = subst IsGroup e h.group

    canonical : r < total o.leg.sectors → IsCanonical fs (charge_at o.leg.sectors r)
    canonical lt = subst (λ gs. IsCanonical gs (charge_at o.leg.sectors r)) e (value_canonical o.group o.leg.sectors r (λ k kt. (h.leg.charges k no_sector kt).canonical) lt)

    by : (b : Bool) → pointwise int_eq (carried fs o.leg.sectors r c) o.charge ≡ b → r < total o.leg.sectors →
        (charge_at o.leg.sectors r ≡ sum_charge fs o.charge (charge_at o.leg.sectors c)) ⊎ (element o r c ≡ zero_g)
    by true q lt = inl (row_from fs (charge_at o.leg.sectors r) o.charge (charge_at o.leg.sectors c) group (canonical lt) ((signed_items (carried fs o.leg.sectors r c) o.charge).0 q))
    by false q lt = inr (h.conserves r c (λ same. false≢true (sym q ∙ (signed_items (carried fs o.leg.sectors r c) o.charge).1 (subst (λ gs. carried gs o.leg.sectors r c ≡ o.charge) e same))))

    range : (r < total o.leg.sectors) ⊎ (total o.leg.sectors ≤ r) → (charge_at o.leg.sectors r ≡ sum_charge fs o.charge (charge_at o.leg.sectors c)) ⊎ (element o r c ≡ zero_g)
    range (inl lt) = by (pointwise int_eq (carried fs o.leg.sectors r c) o.charge) refl lt
    range (inr ge) = inr (element_past o r c ge)

-- the operators of the sites carry their charges
pub has_charges : (fs : List charge.Factor) (ss : List SiteValue) → AreSites fs ss → HasCharges (sum_charge fs) (value_charge ss) (op_charge ss) (sites_of fs ss)
has_charges fs ss h j k r c = by (cases_lt j (length ss))
  where
    Goal : OpValue → Type 0
    Goal o = (value_charge ss j r ≡ sum_charge fs o.charge (value_charge ss j c)) ⊎ (element o r c ≡ zero_g)

    inside : IsSite (site_at ss j) → (site_at ss j).group ≡ fs → (k < length (site_at ss j).ops) ⊎ (length (site_at ss j).ops ≤ k) → Goal (op_at (site_at ss j).ops k)
    inside site group (inl lt) =
        let on = site.ops k no_operator lt in
        let o = op_at (site_at ss j).ops k in
        subst (λ l. (charge_at l.sectors r ≡ sum_charge fs o.charge (charge_at l.sectors c)) ⊎ (element o r c ≡ zero_g)) on.leg (op_carries fs o r c on.operator (on.group ∙ group))
    inside site group (inr ge) = inr (ap (λ o. element o r c) (get_or_past (site_at ss j).ops k no_operator ge) ∙ element_past no_operator r c (least r))
      where
        least : (n : ℕ) → 0 ≤ n
        least n = omega arith

    by : (j < length ss) ⊎ (length ss ≤ j) → Goal (op_at (site_at ss j).ops k)
    by (inl lt) = inside (h.sites j no_site lt) (h.groups j no_site lt) (cases_lt k (length (site_at ss j).ops))
    by (inr ge) = inr (ap (λ (s : SiteValue). element (op_at s.ops k) r c) (get_or_past ss j no_site ge) ∙ element_past no_operator r c (least r))
      where
        least : (n : ℕ) → 0 ≤ n
        least n = omega arith

-- ---- the operators of a term on one site are its matrix there

pub matrix_ops : (S : Sites) (fs : List Factor) (j x y : ℕ) → matrix S fs j x y ≡ matrix S (on_site j (ops_at j fs)) j x y
matrix_ops S [] j x y = refl
matrix_ops S (f ∷ fs) j x y = by (f.site == j) (λ v. matrix_ops S fs j v y)
  where
    rest : ℕ → Gaussian
    rest v = matrix S (on_site j (ops_at j fs)) j v y

    by : (b : Bool) → ((v : ℕ) → matrix S fs j v y ≡ rest v) →
        cond b (sum_below (S.dim j) (λ v. mul_g (S.table j f.op x v) (matrix S fs j v y))) (matrix S fs j x y) ≡ matrix S (on_site j (cond b (f.op ∷ ops_at j fs) (ops_at j fs))) j x y
    by true ih =
        ap (λ (m : ℕ → Gaussian). sum_below (S.dim j) (λ v. mul_g (S.table j f.op x v) (m v))) (fun_ext ih)
        ∙ sym (ap (λ b. cond b (sum_below (S.dim j) (λ v. mul_g (S.table j f.op x v) (rest v))) (rest x)) (same_number j))
    by false ih = ih x
