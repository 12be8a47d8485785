-- The transitions at a site conserve charge: off the flux of its tensor they are 0.
use Rattle.std.proofs.Common.{◌≡◌, ℕ, ℤ, zero, suc, ◌+◌, ◌-◌, ◌<◌, ◌⊎◌, inl, inr, Bool, true, false, cond, List, [], ◌∷◌, length, get_or, refl, sym, ◌∙◌, ap, ap₂, subst, arith}
use Rattle.std.specs.Prelude.{nat_lt}
use Rattle.std.proofs.lemmas.Bool.Decides.{nat_tests}
use Rattle.std.proofs.lemmas.List.{get_or-map}
use Rattle.qn_gauss.specs.Gaussian.{zero_g}
use Rattle.qn_charge.specs.declared.factor.Factor as charge
use Rattle.qn_charge.specs.Charges.{IsCanonical, IsGroup, neg_charge, sum_charge, zero_charge}
use Rattle.qn_index.specs.declared.leg.Dir.TheVariants.{Out}
use Rattle.qn_index.specs.Legs.{LegValue, SectorValue, charge_at, flipped, no_sector, other_way, sector_at, sector_of, total}
use Rattle.qn_index.specs.Places.{IsValues, sectors_at}
use Rattle.qn_index.specs.Tuples.{net, turned}
use Rattle.qn_opsum.specs.Refusals.{IsSum}
use Rattle.qn_opsum.specs.Sums.{SumValue, no_site, site_at}
use Rattle.qn_auto.specs.Automaton.{Stage, entry_from, stage_at, transition}
use Rattle.qn_auto.specs.Automaton.Stage.{not_begun, done}
use Rattle.qn_auto.specs.LinkOrder.{charges_of, repeated}
use Rattle.qn_auto.specs.SumAutomaton.{charge_lower, entry_at_site, flux_at, is_last, legs_at, link_leg, op_charge, sites_in, state_charge, state_lower, states, terms_in}
use Rattle.qn_auto.proofs.ChargeOrder.{charge_strict}
use Rattle.qn_auto.proofs.Conserves.{has_charges, value_canonical, value_charge}
use Rattle.qn_auto.proofs.FluxLaws.{IsAbelian, LiesFrom, charges_form_group, flux_law, left_lies}
use Rattle.qn_auto.proofs.LinkOrderLaws.{sector_facts, stages_ascend}
use Rattle.qn_auto.proofs.Stages.{stage_at-in}
use Rattle.qn_auto.proofs.Terms.{terms_have_flux}
use Rattle.qn_mpo.specs.Rows.{dim_at}
use Rattle.qn_mpo.proofs.Numbers.{stage_get}
use Rattle.qn_mpo.proofs.Links.{link_total}

-- ---- the charges of a link's values

repeated_at : (q : List ℤ) (n : ℕ) (qs : List (List ℤ)) (v : ℕ) → get_or (repeated q n qs) v [] ≡ cond (nat_lt v n) q (get_or qs (v - n) [])
repeated_at q zero qs v = ap (λ k. get_or qs k []) (whole v) ∙ ap (λ b. cond b q (get_or qs (v - 0) [])) (sym (least v))
  where
    whole : (v : ℕ) → v ≡ v - 0
    whole v = omega arith

    least : (v : ℕ) → nat_lt v 0 ≡ false
    least v = grind (arith, nat_tests)
repeated_at q (suc n) qs zero = ap (λ b. cond b q (get_or qs (0 - suc n) [])) (sym (some n))
  where
    some : (n : ℕ) → nat_lt 0 (suc n) ≡ true
    some n = grind (arith, nat_tests)
repeated_at q (suc n) qs (suc v) = repeated_at q n qs v ∙ ap₂ (λ b k. cond b q (get_or qs k [])) (same v n) (step v n)
  where
    same : (v n : ℕ) → nat_lt v n ≡ nat_lt (suc v) (suc n)
    same v n = grind (arith, nat_tests)

    step : (v n : ℕ) → v - n ≡ suc v - suc n
    step v n = omega arith

charge_is : (ps : List SectorValue) (v : ℕ) → v < total ps → charge_at ps v ≡ get_or (charges_of ps) v []
charge_is [] v lt = absurd (none v lt)
  where
    none : (v : ℕ) → v < 0 → ⊥
    none v h = omega arith
charge_is (p ∷ ps) v lt = by (nat_lt v p.dim) refl (charge_is ps (v - p.dim)) ∙ sym (repeated_at p.charge p.dim (charges_of ps) v)
  where
    left : (v d t : ℕ) → nat_lt v d ≡ false → v < d + t → v - d < t
    left v d t e h = grind (arith, nat_tests)

    by : (b : Bool) → nat_lt v p.dim ≡ b → (v - p.dim < total ps → charge_at ps (v - p.dim) ≡ get_or (charges_of ps) (v - p.dim) []) →
        (sector_at (p ∷ ps) (cond b 0 (suc (sector_of ps (v - p.dim))))).charge ≡ cond b p.charge (get_or (charges_of ps) (v - p.dim) [])
    by true e ih = refl
    by false e ih = ih (left v p.dim (total ps) e lt)

-- a value of a link has the charge of the state with its number
link_charge : (v : SumValue) (j n : ℕ) → n < length (states v j) → charge_at (link_leg v j).sectors n ≡ state_charge v (stage_at (states v j) n)
link_charge v j n lt =
    charge_is (link_leg v j).sectors n (subst (λ k. n < k) (sym (link_total v j)) lt)
    ∙ (ap (λ qs. get_or qs n []) (sector_facts charge_lower charge_strict (state_charge v) (states v j) (stages_ascend charge_lower charge_strict (state_charge v) (terms_in v) j)).1
    ∙ (get_or-map (state_charge v) (states v j) n done [] lt ∙ ap (state_charge v) (stage_get (states v j) n done lt)))

-- ---- net charges

module _ (fs : List charge.Factor) (group : IsGroup fs) where
  abbrev add : List ℤ → List ℤ → List ℤ
  add = sum_charge fs

  abbrev neg : List ℤ → List ℤ
  neg = neg_charge fs

  abbrev none : List ℤ
  none = zero_charge fs

  abelian : IsAbelian (IsCanonical fs) none add neg
  abelian = charges_form_group fs group

  -- what stands left and right of an entry balances
  balance : (l x y r t : List ℤ) → IsCanonical fs t → add l x ≡ add r y → add l (add x (add (neg y) t)) ≡ add r t
  balance l x y r t proper e =
      sym (abelian.assoc l x (add (neg y) t))
      ∙ (ap (λ z. add z (add (neg y) t)) e
      ∙ (abelian.assoc r y (add (neg y) t)
      ∙ ap (add r) (sym (abelian.assoc y (neg y) t) ∙ (ap (λ z. add z t) (abelian.inverse y) ∙ (abelian.comm none t ∙ abelian.unit t proper)))))

  -- the same where nothing stands left
  balance_first : (x y r t : List ℤ) → IsCanonical fs t → add none x ≡ add r y → add x (add (neg y) t) ≡ add r t
  balance_first x y r t proper e =
      sym (abelian.comm none (add x (add (neg y) t)) ∙ abelian.unit (add x (add (neg y) t)) (abelian.sum_proper x (add (neg y) t))) ∙ balance none x y r t proper e

  back : (r : List ℤ) → add r (add (neg r) none) ≡ none
  back r = sym (abelian.assoc r (neg r) none) ∙ (ap (λ z. add z none) (abelian.inverse r) ∙ abelian.unit none abelian.none_proper)

-- ---- the entries of a site

module _ (v : SumValue) (is : IsSum v) (j : ℕ) (within : j < length v.sites) where
  abbrev fs : List charge.Factor
  fs = v.group

  abbrev own : LegValue
  own = (site_at v.sites j).leg

  out : own.arrow ≡ Out
  out = (is.sites.sites j no_site within).leg.out

  proper : (y : ℕ) → y < dim_at v j → IsCanonical fs (value_charge v.sites j y)
  proper y lt =
      value_canonical fs own.sectors y
      (λ k kt. subst (λ gs. IsCanonical gs (sector_at own.sectors k).charge) (is.sites.groups j no_site within) ((is.sites.sites j no_site within).leg.charges k no_sector kt).canonical) lt

  -- charge(left) + charge(row) = charge(right) + charge(column), or the transition is 0
  tells : (l r : Stage) → LiesFrom j l → (x y : ℕ) → y < dim_at v j →
      (sum_charge fs (state_charge v l) (value_charge v.sites j x) ≡ sum_charge fs (state_charge v r) (value_charge v.sites j y)) ⊎ (transition (sites_in v) (terms_in v) j l r x y ≡ zero_g)
  tells l r lies x y lt =
      flux_law (IsCanonical fs) (zero_charge fs) (sum_charge fs) (neg_charge fs) (charges_form_group fs is.sites.group) (value_charge v.sites) (op_charge v.sites) (sites_in v) (has_charges fs v.sites is.sites)
      v.flux is.flux.canonical j r x y (proper y lt) (terms_in v) (terms_have_flux v is) l lies

  -- the legs but the left one, where the site is the last one or not
  abbrev legs_of : Bool → List LegValue
  legs_of b = own ∷ flipped own ∷ cond b [] (link_leg v j ∷ [])

  abbrev flux_of : Bool → List ℤ
  flux_of b = cond b v.flux (zero_charge fs)

  -- an entry at values of these legs: the row, the column, the state right of the site, and what the right leg and the flux add to the net charge
  record IsPlaced (b : Bool) (xs : List ℕ) : Type 0 where
    row : ℕ
    column : ℕ
    right : Stage
    beside : List ℤ
    in_columns : column < dim_at v j
    entry : (l : Stage) → entry_from (state_lower v) (sites_in v) (terms_in v) j l xs ≡ transition (sites_in v) (terms_in v) j l right row column
    net : net fs (legs_of b) (sectors_at (legs_of b) xs) ≡ sum_charge fs (value_charge v.sites j row) (sum_charge fs (neg_charge fs (value_charge v.sites j column)) beside)
    canonical : IsCanonical fs beside
    flux : sum_charge fs (state_charge v right) beside ≡ flux_of b

  none_more : {A : Type 0} (x : A) (xs : List A) → x ∷ xs ≡ [] → ⊥
  none_more x xs e = never (length xs) (ap length e)
    where
      never : (n : ℕ) → suc n ≡ 0 → ⊥
      never n h = omega arith

  placed : (b : Bool) (xs : List ℕ) → IsValues (legs_of b) xs → IsPlaced b xs
  placed b [] h = absurd h
  placed b (x ∷ []) h = absurd h.1
  placed true (x ∷ y ∷ []) h = record {
    row = x;
    column = y;
    right = done;
    beside = zero_charge fs;
    in_columns = h.1.0;
    entry = λ l. refl;
    net = ap₂ (λ a b. sum_charge fs (turned fs a (value_charge v.sites j x)) (sum_charge fs (turned fs (other_way b) (value_charge v.sites j y)) (zero_charge fs))) out out;
    canonical = group.none_proper;
    flux = group.unit v.flux is.flux.canonical;
  }
    where
      group : IsAbelian (IsCanonical fs) (zero_charge fs) (sum_charge fs) (neg_charge fs)
      group = charges_form_group fs is.sites.group
  placed true (x ∷ y ∷ z ∷ zs) h = absurd (none_more z zs h.1.1)
  placed false (x ∷ y ∷ []) h = absurd h.1.1
  placed false (x ∷ y ∷ r ∷ zs) h = record {
    row = x;
    column = y;
    right = stage_at (states v j) r;
    beside = sum_charge fs (neg_charge fs (state_charge v (stage_at (states v j) r))) (zero_charge fs);
    in_columns = h.1.0;
    entry = λ l. refl;
    net = (λ i. sum_charge fs (turned fs (out i) (value_charge v.sites j x)) (sum_charge fs (turned fs (other_way (out i)) (value_charge v.sites j y)) (sum_charge fs (neg_charge fs (charge_at (link_leg v j).sectors r)) (zero_charge fs))))
        ∙ ap (λ q. sum_charge fs (value_charge v.sites j x) (sum_charge fs (neg_charge fs (value_charge v.sites j y)) (sum_charge fs (neg_charge fs q) (zero_charge fs)))) (link_charge v j r (subst (λ k. r < k) (link_total v j) h.1.1.0));
    canonical = (charges_form_group fs is.sites.group).sum_proper (neg_charge fs (state_charge v (stage_at (states v j) r))) (zero_charge fs);
    flux = back fs is.sites.group (state_charge v (stage_at (states v j) r));
  }

-- an entry of the automaton is 0 off the flux of its tensor
pub flux_or_zero : (v : SumValue) → IsSum v → (j : ℕ) → j < length v.sites → (xs : List ℕ) → IsValues (legs_at v j) xs → (net v.group (legs_at v j) (sectors_at (legs_at v j) xs) ≡ flux_at v j) ⊎ (entry_at_site v j xs ≡ zero_g)
flux_or_zero v is zero within xs h = by (tells v is 0 within not_begun p.right tt p.row p.column p.in_columns)
  where
    p : IsPlaced v is 0 within (is_last v 0) xs
    p = placed v is 0 within (is_last v 0) xs h

    by : (sum_charge v.group (zero_charge v.group) (value_charge v.sites 0 p.row) ≡ sum_charge v.group (state_charge v p.right) (value_charge v.sites 0 p.column)) ⊎ (transition (sites_in v) (terms_in v) 0 not_begun p.right p.row p.column ≡ zero_g) →
        (net v.group (legs_at v 0) (sectors_at (legs_at v 0) xs) ≡ flux_at v 0) ⊎ (entry_at_site v 0 xs ≡ zero_g)
    by (inl e) = inl (p.net ∙ (balance_first v.group is.sites.group (value_charge v.sites 0 p.row) (value_charge v.sites 0 p.column) (state_charge v p.right) p.beside p.canonical e ∙ p.flux))
    by (inr e) = inr (p.entry not_begun ∙ e)
flux_or_zero v is (suc i) within [] h = absurd h
flux_or_zero v is (suc i) within (n ∷ xs) h = by (tells v is (suc i) within l p.right lies p.row p.column p.in_columns)
  where
    l : Stage
    l = stage_at (states v i) n

    small : n < length (states v i)
    small = subst (λ k. n < k) (link_total v i) h.0

    lies : LiesFrom (suc i) l
    lies = left_lies (state_lower v) (terms_in v) (suc i) l (stage_at-in (states v i) n small)

    p : IsPlaced v is (suc i) within (is_last v (suc i)) xs
    p = placed v is (suc i) within (is_last v (suc i)) xs h.1

    by : (sum_charge v.group (state_charge v l) (value_charge v.sites (suc i) p.row) ≡ sum_charge v.group (state_charge v p.right) (value_charge v.sites (suc i) p.column)) ⊎ (transition (sites_in v) (terms_in v) (suc i) l p.right p.row p.column ≡ zero_g) →
        (net v.group (legs_at v (suc i)) (sectors_at (legs_at v (suc i)) (n ∷ xs)) ≡ flux_at v (suc i)) ⊎ (entry_at_site v (suc i) (n ∷ xs) ≡ zero_g)
    by (inl e) =
        inl (ap₂ (sum_charge v.group) (link_charge v i n small) p.net
        ∙ (balance v.group is.sites.group (state_charge v l) (value_charge v.sites (suc i) p.row) (value_charge v.sites (suc i) p.column) (state_charge v p.right) p.beside p.canonical e ∙ p.flux))
    by (inr e) = inr (p.entry l ∙ e)
