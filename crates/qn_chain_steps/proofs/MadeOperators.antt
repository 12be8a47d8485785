-- Off the flux the entries of added and turned chains are 0.
use Rattle.std.proofs.Common.{◌≡◌, ◌<◌, ◌==◌, ◌⊎◌, inl, inr, ℕ, zero, suc, ◌+◌, ◌-◌, Bool, true, false, not, ◌&&◌, cond, ℤ, List, [], ◌∷◌, ◌++◌, map, length, refl, sym, ◌∙◌, ap, ap₂, subst, arith}
use Rattle.std.specs.Prelude.{nat_lt}
use Rattle.std.specs.List.{All}
use Rattle.std.proofs.lemmas.Bool.Decides.{nat_tests}
use Rattle.qn_gauss.specs.Gaussian.{zero_g, add_g, conj_g, signed}
use Rattle.qn_gauss.proofs.Ring.{add_zero}
use Rattle.qn_gauss.proofs.Signs.{signed-zero}
use Rattle.qn_gauss.proofs.Conjugate.{conj_zero}
use Rattle.qn_charge.specs.declared.factor.Factor.{Factor}
use Rattle.qn_charge.specs.Charges.{IsGroup, IsCanonical, zero_charge, sum_charge, neg_charge}
use Rattle.qn_charge.specs.Laws.{associative_charge, commutative_charge, neg_of_sum, neg_of_zero, neg_of_neg}
use Rattle.qn_index.specs.Legs.{SectorValue, LegValue, IsOf, IsLegOf, flipped, total, sector_at, sector_of, charge_at}
use Rattle.qn_index.specs.Tuples.{net}
use Rattle.qn_index.specs.Places.{IsValues, sectors_at}
use Rattle.qn_value.specs.Tensors.{entry_of}
use Rattle.qn_value.specs.Rows.{when}
use Rattle.qn_value.proofs.PlacedLemmas.{all_first, all_others}
use Rattle.qn_block.specs.Blocked.{BlockedValue, IsBlocked, tensor_of}
use Rattle.qn_net.proofs.FuseLaws.{all_right}
use Rattle.qn_braket.specs.Chains.{leg_at, tensor_at, no_tensor, operator_legs, IsOperatorChain}
use Rattle.qn_braket.proofs.ChainLists.{site_is}
use Rattle.qn_braket.proofs.ListValues.{last_site}
use Rattle.qn_links.specs.Additions.{are_first, are_later, minus, add_entry}
use Rattle.qn_links.specs.Turns.{turn_sign, right_odd, turn_entry}
use Rattle.qn_links.specs.LinkSums.{odd_of}
use Rattle.qn_algebra.specs.Standard.{IsStandard, AreOver, link_sectors, entries_of}
use Rattle.qn_algebra.specs.Links.{left_legs, right_legs, legs_at, second_legs}
use Rattle.qn_algebra.specs.Widths.{links_of}
use Rattle.qn_algebra.specs.Added.{added_link}
use Rattle.qn_algebra.specs.Turned.{turned_link}
use Rattle.qn_algebra.proofs.Shapes.{legs_are}
use Rattle.qn_algebra.proofs.Sums.{total-both, total_turned}
use Rattle.qn_algebra.proofs.Even.{values-append}
use Rattle.qn_chain_steps.specs.JoinSteps.{out_leg, in_leg}
use Rattle.qn_chain_steps.specs.MadeOperators.{AddedWhereMetLaw, TurnedWhereMetLaw}
use Rattle.qn_chain_steps.proofs.Charges.{net_of, net-append}
use Rattle.qn_chain_steps.proofs.JoinedBySteps.{left_sectors, right_sectors, left_map, right_map, flux_or_zero, next_site}

-- charges of values of two lists of sectors

charge_first : (ps qs : List SectorValue) (v : ℕ) → v < total ps → charge_at (ps ++ qs) v ≡ charge_at ps v
charge_first [] qs v h = absurd (none v h)
  where
    none : (v : ℕ) → v < 0 → ⊥
    none v h = omega (arith, h)
charge_first (p ∷ ps) qs v h = go (nat_lt v p.dim) refl (λ k. charge_first ps qs (v - p.dim) k)
  where
    rest : (v d n : ℕ) → nat_lt v d ≡ false → v < d + n → v - d < n
    rest v d n e h = grind (arith, nat_tests)

    go : (b : Bool) → nat_lt v p.dim ≡ b → (v - p.dim < total ps → charge_at (ps ++ qs) (v - p.dim) ≡ charge_at ps (v - p.dim)) →
        (sector_at (p ∷ (ps ++ qs)) (cond b 0 (suc (sector_of (ps ++ qs) (v - p.dim))))).charge ≡ (sector_at (p ∷ ps) (cond b 0 (suc (sector_of ps (v - p.dim))))).charge
    go true e ih = refl
    go false e ih = ih (rest v p.dim (total ps) e h)

charge_later : (ps qs : List SectorValue) (u : ℕ) → charge_at (ps ++ qs) (total ps + u) ≡ charge_at qs u
charge_later [] qs u = ap (charge_at qs) (none u)
  where
    none : (u : ℕ) → 0 + u ≡ u
    none u = omega arith
charge_later (p ∷ ps) qs u =
    ap₂ (λ b z. (sector_at (p ∷ (ps ++ qs)) (cond b 0 (suc (sector_of (ps ++ qs) z)))).charge) (beyond p.dim (total ps) u) (left p.dim (total ps) u) ∙ charge_later ps qs u
  where
    beyond : (d n u : ℕ) → nat_lt (d + n + u) d ≡ false
    beyond d n u = grind (arith, nat_tests)

    left : (d n u : ℕ) → d + n + u - d ≡ n + u
    left d n u = omega arith

module _ (fs : List Factor) (sites : List LegValue) (ts : List BlockedValue) (over : AreOver fs ts) (chain : IsOperatorChain sites ts) (standard : IsStandard fs ts) (j : ℕ) (h : j < length sites) where
  over_at : IsBlocked (tensor_at ts j) × ((tensor_at ts j).group ≡ fs)
  over_at = over j no_tensor (subst (λ k. j < k) (sym chain.count) h)

  enough : length sites ≡ suc (length sites - 1)
  enough = last_site sites chain.some

  given_legs : (tensor_at ts j).legs ≡ map out_leg (left_sectors ts j) ++ (operator_legs (leg_at sites j) ++ map in_leg (right_sectors ts (length sites) j))
  given_legs =
      legs_are second_legs sites ts (length sites - 1) chain (chain.count ∙ enough) j (subst (λ k. j < k) enough h)
      ∙ ap (λ k. legs_at (links_of ts) (operator_legs (leg_at sites j)) k j) (sym enough)
      ∙ ap₂ (λ us vs. us ++ (operator_legs (leg_at sites j) ++ vs)) (left_map fs ts (length sites) chain.count standard j h) (right_map fs ts (length sites) chain.count standard j h)

less_test : (v d : ℕ) → nat_lt v d ≡ true → v < d
less_test v d e = grind (arith, nat_tests)

parted : (v d : ℕ) → nat_lt v d ≡ false → d + (v - d) ≡ v
parted v d e = grind (arith, nat_tests)

later_below : (v d k n : ℕ) → nat_lt v d ≡ false → v < n → n ≡ d + k → v - d < k
later_below v d k n e h q = grind (arith, nat_tests)

and_first : (p q : Bool) → (p && q) ≡ true → p ≡ true
and_first p q e = grind arith

and_second : (p q : Bool) → (p && q) ≡ true → q ≡ true
and_second p q e = grind arith

not_first : (p q : Bool) → (not p && q) ≡ true → p ≡ false
not_first p q e = grind arith

module _ (fs : List Factor) (g : IsGroup fs) where
  -- values of the legs on one side, as values of the legs of one of the chains
  record IsPart (all part : List LegValue) (ws vs : List ℕ) : Type 0 where
    range : IsValues part vs
    charge : net_of fs g all ws ≡ net_of fs g part vs

  -- the net charge by the parts
  same_net : (lf own rf la ra : List LegValue) (left w right u v : List ℕ) → IsValues lf left → IsValues own w → IsPart lf la left u → IsPart rf ra right v →
      net_of fs g (lf ++ (own ++ rf)) (left ++ (w ++ right)) ≡ net_of fs g (la ++ (own ++ ra)) (u ++ (w ++ v))
  same_net lf own rf la ra left w right u v hl hw pl pr =
      net-append fs g lf (own ++ rf) left (w ++ right) hl
      ∙ ap₂ (sum_charge fs) pl.charge (net-append fs g own rf w right hw ∙ ap (sum_charge fs (net_of fs g own w)) pr.charge ∙ sym (net-append fs g own ra w v hw))
      ∙ sym (net-append fs g la (own ++ ra) u (w ++ v) pl.range)

  module _ (ats bts : List BlockedValue) where
    abbrev da : ℕ → ℕ
    da j = total (link_sectors ats j)

    left_first : (j : ℕ) (left : List ℕ) → IsValues (left_legs (added_link ats bts) j) left → are_first (da j) left ≡ true → IsPart (left_legs (added_link ats bts) j) (map out_leg (left_sectors ats j)) left left
    left_first zero left h e = record { range = h; charge = refl }
    left_first (suc j) [] h e = absurd h
    left_first (suc j) (v ∷ vs) h e = record {
      range = (less_test v (da (suc j)) (and_first _ _ e), h.1);
      charge = ap (λ c. sum_charge fs c (zero_charge fs)) (charge_first (link_sectors ats (suc j)) (link_sectors bts (suc j)) v (less_test v (da (suc j)) (and_first _ _ e)));
    }

    later_charge : (j v : ℕ) → nat_lt v (da j) ≡ false → charge_at (link_sectors ats j ++ link_sectors bts j) v ≡ charge_at (link_sectors bts j) (v - da j)
    later_charge j v e = ap (charge_at (link_sectors ats j ++ link_sectors bts j)) (sym (parted v (da j) e)) ∙ charge_later (link_sectors ats j) (link_sectors bts j) (v - da j)

    left_later : (j : ℕ) (left : List ℕ) → IsValues (left_legs (added_link ats bts) j) left → are_later (da j) left ≡ true →
        IsPart (left_legs (added_link ats bts) j) (map out_leg (left_sectors bts j)) left (minus (da j) left)
    left_later zero left h e = record { range = ap (minus (da 0)) h; charge = refl }
    left_later (suc j) [] h e = absurd h
    left_later (suc j) (v ∷ vs) h e = record {
      range = (later_below v (da (suc j)) (total (link_sectors bts (suc j))) _ (not_first _ _ e) h.0 (total-both (link_sectors ats (suc j)) (link_sectors bts (suc j))), ap (minus (da (suc j))) h.1);
      charge = ap (λ c. sum_charge fs c (zero_charge fs)) (later_charge (suc j) v (not_first _ _ e));
    }

    right_first : (n j : ℕ) (right : List ℕ) → IsValues (right_legs (added_link ats bts) n j) right → are_first (da (suc j)) right ≡ true →
        IsPart (right_legs (added_link ats bts) n j) (map in_leg (right_sectors ats n j)) right right
    right_first n j right = go (suc j == n) right
      where
        go : (b : Bool) (right : List ℕ) → IsValues (cond b [] (flipped (added_link ats bts (suc j)) ∷ [])) right → are_first (da (suc j)) right ≡ true →
            IsPart (cond b [] (flipped (added_link ats bts (suc j)) ∷ [])) (map in_leg (cond b [] (link_sectors ats (suc j) ∷ []))) right right
        go true right h e = record { range = h; charge = refl }
        go false [] h e = absurd h
        go false (v ∷ vs) h e = record {
          range = (less_test v (da (suc j)) (and_first _ _ e), h.1);
          charge = ap (λ c. sum_charge fs (neg_charge fs c) (zero_charge fs)) (charge_first (link_sectors ats (suc j)) (link_sectors bts (suc j)) v (less_test v (da (suc j)) (and_first _ _ e)));
        }

    right_later : (n j : ℕ) (right : List ℕ) → IsValues (right_legs (added_link ats bts) n j) right → are_later (da (suc j)) right ≡ true →
        IsPart (right_legs (added_link ats bts) n j) (map in_leg (right_sectors bts n j)) right (minus (da (suc j)) right)
    right_later n j right = go (suc j == n) right
      where
        go : (b : Bool) (right : List ℕ) → IsValues (cond b [] (flipped (added_link ats bts (suc j)) ∷ [])) right → are_later (da (suc j)) right ≡ true →
            IsPart (cond b [] (flipped (added_link ats bts (suc j)) ∷ [])) (map in_leg (cond b [] (link_sectors bts (suc j) ∷ []))) right (minus (da (suc j)) right)
        go true right h e = record { range = ap (minus (da (suc j))) h; charge = refl }
        go false [] h e = absurd h
        go false (v ∷ vs) h e = record {
          range = (later_below v (da (suc j)) (total (link_sectors bts (suc j))) _ (not_first _ _ e) h.0 (total-both (link_sectors ats (suc j)) (link_sectors bts (suc j))), ap (minus (da (suc j))) h.1);
          charge = ap (λ c. sum_charge fs (neg_charge fs c) (zero_charge fs)) (later_charge (suc j) v (not_first _ _ e));
        }

pub added_where_met : AddedWhereMetLaw
added_where_met fs sites ats bts cts g a_over b_over c_over a_chain a_standard b_chain b_standard same_flux shape flux entries = record {
  shape = shape;
  flux = flux;
  entries = λ j left w right h hl hw hr. at j left w right h hl hw hr;
}
  where
    -- the two chains have one flux on each site
    flux_is : (j : ℕ) → j < length sites → (tensor_at ats j).flux ≡ (tensor_at bts j).flux
    flux_is j h = go (suc j == length sites) refl
      where
        last : (j n k : ℕ) → (suc j == n) ≡ true → k ≡ n → j ≡ k - 1
        last j n k e q = grind (arith, nat_tests)

        go : (b : Bool) → (suc j == length sites) ≡ b → (tensor_at ats j).flux ≡ (tensor_at bts j).flux
        go true e =
            ap (λ i. (tensor_at ats i).flux) (last j (length sites) (length ats) e a_chain.count) ∙ same_flux
            ∙ sym (ap (λ i. (tensor_at bts i).flux) (last j (length sites) (length bts) e b_chain.count))
        go false e =
            a_standard.flux j (subst (λ k. suc j < k) (sym a_chain.count) (next_site j (length sites) h e))
            ∙ sym (b_standard.flux j (subst (λ k. suc j < k) (sym b_chain.count) (next_site j (length sites) h e)))

    at : (j : ℕ) (left w right : List ℕ) → j < length sites →
        IsValues (left_legs (added_link ats bts) j) left → IsValues (operator_legs (leg_at sites j)) w → IsValues (right_legs (added_link ats bts) (length sites) j) right →
        entry_of (tensor_of (tensor_at cts j)) (left ++ (w ++ right)) ≡ add_entry (entries_of fs ats) (entries_of fs bts) j left w right
    at j left w right h hl hw hr =
        go (flux_or_zero fs g c c_legs_are c_over_at.0 c_over_at.1 (shape.legs j h) all) (first_part (are_first (da fs g ats bts j) left && are_first (da fs g ats bts (suc j)) right) refl)
        (second_part (are_later (da fs g ats bts j) left && are_later (da fs g ats bts (suc j)) right) refl)
      where
        n : ℕ
        n = length sites

        own : List LegValue
        own = operator_legs (leg_at sites j)

        lf : List LegValue
        lf = left_legs (added_link ats bts) j

        rf : List LegValue
        rf = right_legs (added_link ats bts) n j

        c : BlockedValue
        c = tensor_at cts j

        c_legs_are : List LegValue
        c_legs_are = lf ++ (own ++ rf)

        all : List ℕ
        all = left ++ (w ++ right)

        c_over_at : IsBlocked c × (c.group ≡ fs)
        c_over_at = c_over j no_tensor (subst (λ k. j < k) (sym shape.count) h)

        Met : Type 0
        Met = net_of fs g (lf ++ (own ++ rf)) all ≡ c.flux

        within : IsValues (lf ++ (own ++ rf)) all
        within = values-append lf (own ++ rf) left (w ++ right) hl (values-append own rf w right hw hr)

        by_entries : Met → entry_of (tensor_of c) all ≡ add_entry (entries_of fs ats) (entries_of fs bts) j left w right
        by_entries e = entries j left w right h hl hw hr (record {
          range = subst (λ ls. IsValues ls all) (sym (shape.legs j h)) within;
          flux = (λ i. net (c_over_at.1 i) (shape.legs j h i) (sectors_at (shape.legs j h i) all)) ∙ e;
        })

        first_part : (p : Bool) → (are_first (da fs g ats bts j) left && are_first (da fs g ats bts (suc j)) right) ≡ p → Met ⊎ (when p (entry_of (tensor_of (tensor_at ats j)) all) ≡ zero_g)
        first_part false e = inr refl
        first_part true e =
            go (flux_or_zero fs g (tensor_at ats j) _ (over_at fs sites ats a_over a_chain a_standard j h).0 (over_at fs sites ats a_over a_chain a_standard j h).1 (given_legs fs sites ats a_over a_chain a_standard j h) all)
          where
            go : (net_of fs g (map out_leg (left_sectors ats j) ++ (own ++ map in_leg (right_sectors ats n j))) all ≡ (tensor_at ats j).flux) ⊎ (entry_of (tensor_of (tensor_at ats j)) all ≡ zero_g) →
                Met ⊎ (entry_of (tensor_of (tensor_at ats j)) all ≡ zero_g)
            go (inl m) = inl
                (same_net fs g lf own rf (map out_leg (left_sectors ats j)) (map in_leg (right_sectors ats n j)) left w right left right hl hw
                (left_first fs g ats bts j left hl (and_first _ _ e)) (right_first fs g ats bts n j right hr (and_second _ _ e)) ∙ m ∙ sym (flux j h))
            go (inr z) = inr z

        later : List ℕ
        later = minus (da fs g ats bts j) left ++ (w ++ minus (da fs g ats bts (suc j)) right)

        second_part : (p : Bool) → (are_later (da fs g ats bts j) left && are_later (da fs g ats bts (suc j)) right) ≡ p → Met ⊎ (when p (entry_of (tensor_of (tensor_at bts j)) later) ≡ zero_g)
        second_part false e = inr refl
        second_part true e =
            go (flux_or_zero fs g (tensor_at bts j) _ (over_at fs sites bts b_over b_chain b_standard j h).0 (over_at fs sites bts b_over b_chain b_standard j h).1 (given_legs fs sites bts b_over b_chain b_standard j h) later)
          where
            go : (net_of fs g (map out_leg (left_sectors bts j) ++ (own ++ map in_leg (right_sectors bts n j))) later ≡ (tensor_at bts j).flux) ⊎ (entry_of (tensor_of (tensor_at bts j)) later ≡ zero_g) →
                Met ⊎ (entry_of (tensor_of (tensor_at bts j)) later ≡ zero_g)
            go (inl m) = inl
                (same_net fs g lf own rf (map out_leg (left_sectors bts j)) (map in_leg (right_sectors bts n j)) left w right _ _ hl hw
                (left_later fs g ats bts j left hl (and_first _ _ e)) (right_later fs g ats bts n j right hr (and_second _ _ e)) ∙ m ∙ sym (flux_is j h) ∙ sym (flux j h))
            go (inr z) = inr z

        go : Met ⊎ (entry_of (tensor_of c) all ≡ zero_g) →
            Met ⊎ (when (are_first (da fs g ats bts j) left && are_first (da fs g ats bts (suc j)) right) (entry_of (tensor_of (tensor_at ats j)) all) ≡ zero_g) →
            Met ⊎ (when (are_later (da fs g ats bts j) left && are_later (da fs g ats bts (suc j)) right) (entry_of (tensor_of (tensor_at bts j)) later) ≡ zero_g) →
            entry_of (tensor_of c) all ≡ add_entry (entries_of fs ats) (entries_of fs bts) j left w right
        go (inl m) _ _ = by_entries m
        go (inr z) (inl m) _ = by_entries m
        go (inr z) (inr x) (inl m) = by_entries m
        go (inr z) (inr x) (inr y) = z ∙ sym (ap₂ add_g x y ∙ add_zero zero_g)

-- turned chains

pub charge_turned : (fs : List Factor) (ps : List SectorValue) (v : ℕ) → v < total ps → charge_at (map (λ (s : SectorValue). record { charge = neg_charge fs s.charge; dim = s.dim }) ps) v ≡ neg_charge fs (charge_at ps v)
charge_turned fs [] v h = absurd (none v h)
  where
    none : (v : ℕ) → v < 0 → ⊥
    none v h = omega (arith, h)
charge_turned fs (p ∷ ps) v h = go (nat_lt v p.dim) refl (charge_turned fs ps (v - p.dim))
  where
    rest : (v d n : ℕ) → nat_lt v d ≡ false → v < d + n → v - d < n
    rest v d n e h = grind (arith, nat_tests)

    others : List SectorValue
    others = map (λ (s : SectorValue). record { charge = neg_charge fs s.charge; dim = s.dim }) ps

    go : (b : Bool) → nat_lt v p.dim ≡ b → (v - p.dim < total ps → charge_at others (v - p.dim) ≡ neg_charge fs (charge_at ps (v - p.dim))) →
        (sector_at (record { charge = neg_charge fs p.charge; dim = p.dim } ∷ others) (cond b 0 (suc (sector_of others (v - p.dim))))).charge ≡
        neg_charge fs (sector_at (p ∷ ps) (cond b 0 (suc (sector_of ps (v - p.dim))))).charge
    go true e ih = refl
    go false e ih = ih (rest v p.dim (total ps) e h)

pub canonical_value : (fs : List Factor) (ps : List SectorValue) → All (IsOf fs) ps → (v : ℕ) → v < total ps → IsCanonical fs (charge_at ps v)
canonical_value fs [] a v h = absurd (none v h)
  where
    none : (v : ℕ) → v < 0 → ⊥
    none v h = omega (arith, h)
canonical_value fs (p ∷ ps) a v h = go (nat_lt v p.dim) refl (canonical_value fs ps (all_others (IsOf fs) p ps a) (v - p.dim))
  where
    rest : (v d n : ℕ) → nat_lt v d ≡ false → v < d + n → v - d < n
    rest v d n e h = grind (arith, nat_tests)

    go : (b : Bool) → nat_lt v p.dim ≡ b → (v - p.dim < total ps → IsCanonical fs (charge_at ps (v - p.dim))) → IsCanonical fs (sector_at (p ∷ ps) (cond b 0 (suc (sector_of ps (v - p.dim))))).charge
    go true e ih = (all_first (IsOf fs) p ps a).canonical
    go false e ih = ih (rest v p.dim (total ps) e h)

module _ (fs : List Factor) (g : IsGroup fs) (ats : List BlockedValue) where
  -- the charges on one side are negated
  record IsNegated (all part : List LegValue) (ws : List ℕ) : Type 0 where
    range : IsValues part ws
    charge : net_of fs g all ws ≡ neg_charge fs (net_of fs g part ws)

  neg_zero : zero_charge fs ≡ neg_charge fs (zero_charge fs)
  neg_zero = sym (neg_of_zero fs g)

  one_neg : (c : List ℤ) → sum_charge fs (neg_charge fs c) (zero_charge fs) ≡ neg_charge fs (sum_charge fs c (zero_charge fs))
  one_neg c = ap (sum_charge fs (neg_charge fs c)) neg_zero ∙ sym (neg_of_sum fs c (zero_charge fs) g)

  left_negated : (j : ℕ) (left : List ℕ) → IsValues (left_legs (turned_link fs ats) j) left → IsNegated (left_legs (turned_link fs ats) j) (map out_leg (left_sectors ats j)) left
  left_negated zero left h = record { range = h; charge = neg_zero }
  left_negated (suc j) [] h = absurd h
  left_negated (suc j) (v ∷ vs) h =
      let b : v < total (link_sectors ats (suc j)) = subst (λ k. v < k) (total_turned fs (link_sectors ats (suc j))) h.0 in
      record { range = (b, h.1); charge = ap (λ c. sum_charge fs c (zero_charge fs)) (charge_turned fs (link_sectors ats (suc j)) v b) ∙ one_neg (charge_at (link_sectors ats (suc j)) v) }

  right_negated : (n j : ℕ) (right : List ℕ) → IsValues (right_legs (turned_link fs ats) n j) right → IsNegated (right_legs (turned_link fs ats) n j) (map in_leg (right_sectors ats n j)) right
  right_negated n j right = go (suc j == n) right
    where
      go : (b : Bool) (right : List ℕ) → IsValues (cond b [] (flipped (turned_link fs ats (suc j)) ∷ [])) right → IsNegated (cond b [] (flipped (turned_link fs ats (suc j)) ∷ [])) (map in_leg (cond b [] (link_sectors ats (suc j) ∷ []))) right
      go true right h = record { range = h; charge = neg_zero }
      go false [] h = absurd h
      go false (v ∷ vs) h =
          let b : v < total (link_sectors ats (suc j)) = subst (λ k. v < k) (total_turned fs (link_sectors ats (suc j))) h.0 in
          record {
            range = (b, h.1);
            charge = ap (λ c. sum_charge fs (neg_charge fs c) (zero_charge fs)) (charge_turned fs (link_sectors ats (suc j)) v b) ∙ one_neg (neg_charge fs (charge_at (link_sectors ats (suc j)) v));
          }

  -- rows and columns exchanged
  own_negated : (ps : List SectorValue) (x y : ℕ) → All (IsOf fs) ps → x < total ps →
      net_of fs g (out_leg ps ∷ in_leg ps ∷ []) (x ∷ y ∷ []) ≡ neg_charge fs (net_of fs g (out_leg ps ∷ in_leg ps ∷ []) (y ∷ x ∷ []))
  own_negated ps x y a h =
      sym (associative_charge fs cx (neg_charge fs cy) (zero_charge fs) g) ∙ ap (λ c. sum_charge fs c (zero_charge fs)) (commutative_charge fs cx (neg_charge fs cy))
      ∙ associative_charge fs (neg_charge fs cy) cx (zero_charge fs) g
      ∙ ap (λ c. sum_charge fs (neg_charge fs cy) (sum_charge fs c (zero_charge fs))) (sym (neg_of_neg fs cx g (canonical_value fs ps a x h)))
      ∙ ap (sum_charge fs (neg_charge fs cy)) (one_neg (neg_charge fs cx))
      ∙ sym (neg_of_sum fs cy (sum_charge fs (neg_charge fs cx) (zero_charge fs)) g)
    where
      cx : List ℤ
      cx = charge_at ps x

      cy : List ℤ
      cy = charge_at ps y

pub turned_where_met : TurnedWhereMetLaw
turned_where_met fs sites ats cts g a_over c_over a_chain a_standard shape flux entries = record {
  shape = shape;
  flux = flux;
  entries = λ j x y left right h hl hw hr. at j x y left right h hl hw hr;
}
  where
    at : (j x y : ℕ) (left right : List ℕ) → j < length sites →
        IsValues (left_legs (turned_link fs ats) j) left → IsValues (operator_legs (leg_at sites j)) (x ∷ y ∷ []) → IsValues (right_legs (turned_link fs ats) (length sites) j) right →
        entry_of (tensor_of (tensor_at cts j)) (left ++ (x ∷ y ∷ right)) ≡ turn_entry (entries_of fs ats) j left x y right
    at j x y left right h hl hw hr =
        go (flux_or_zero fs g c (lf ++ (own ++ rf)) c_over_at.0 c_over_at.1 (shape.legs j h) all) (flux_or_zero fs g a (la ++ (own ++ ra)) a_over_at.0 a_over_at.1 a_legs turned_all)
      where
        n : ℕ
        n = length sites

        own : List LegValue
        own = operator_legs (leg_at sites j)

        ps : List SectorValue
        ps = (leg_at sites j).sectors

        own_is : operator_legs (leg_at sites j) ≡ out_leg ps ∷ in_leg ps ∷ []
        own_is = ap operator_legs (site_is sites a_chain.outward j)

        lf : List LegValue
        lf = left_legs (turned_link fs ats) j

        rf : List LegValue
        rf = right_legs (turned_link fs ats) n j

        la : List LegValue
        la = map out_leg (left_sectors ats j)

        ra : List LegValue
        ra = map in_leg (right_sectors ats n j)

        a : BlockedValue
        a = tensor_at ats j

        c : BlockedValue
        c = tensor_at cts j

        all : List ℕ
        all = left ++ (x ∷ y ∷ right)

        turned_all : List ℕ
        turned_all = left ++ (y ∷ x ∷ right)

        a_over_at : IsBlocked a × (a.group ≡ fs)
        a_over_at = over_at fs sites ats a_over a_chain a_standard j h

        c_over_at : IsBlocked c × (c.group ≡ fs)
        c_over_at = c_over j no_tensor (subst (λ k. j < k) (sym shape.count) h)

        a_legs : a.legs ≡ la ++ (own ++ ra)
        a_legs = given_legs fs sites ats a_over a_chain a_standard j h

        -- the charges of the site's leg are of the group
        site_charges : All (IsOf fs) ps
        site_charges = all_first (IsLegOf fs) (leg_at sites j) (flipped (leg_at sites j) ∷ ra)
            (all_right (IsLegOf fs) la (own ++ ra) (subst (All (IsLegOf fs)) a_legs (subst (λ k. All (IsLegOf k) a.legs) a_over_at.1 a_over_at.0.charges)))

        lefts : IsNegated fs g ats lf la left
        lefts = left_negated fs g ats j left hl

        rights : IsNegated fs g ats rf ra right
        rights = right_negated fs g ats n j right hr

        swapped : IsValues own (y ∷ x ∷ [])
        swapped = (hw.1.0, (hw.0, refl))

        own_charge : net_of fs g own (x ∷ y ∷ []) ≡ neg_charge fs (net_of fs g own (y ∷ x ∷ []))
        own_charge = subst (λ ls. net_of fs g ls (x ∷ y ∷ []) ≡ neg_charge fs (net_of fs g ls (y ∷ x ∷ []))) (sym own_is) (own_negated fs g ats ps x y site_charges hw.0)

        same : net_of fs g (lf ++ (own ++ rf)) all ≡ neg_charge fs (net_of fs g (la ++ (own ++ ra)) turned_all)
        same =
            net-append fs g lf (own ++ rf) left (x ∷ y ∷ right) hl
            ∙ ap₂ (sum_charge fs) lefts.charge
            (net-append fs g own rf (x ∷ y ∷ []) right hw ∙ ap₂ (sum_charge fs) own_charge rights.charge
            ∙ sym (neg_of_sum fs (net_of fs g own (y ∷ x ∷ [])) (net_of fs g ra right) g)
            ∙ ap (neg_charge fs) (sym (net-append fs g own ra (y ∷ x ∷ []) right swapped)))
            ∙ sym (neg_of_sum fs (net_of fs g la left) (net_of fs g (own ++ ra) (y ∷ x ∷ right)) g)
            ∙ ap (neg_charge fs) (sym (net-append fs g la (own ++ ra) left (y ∷ x ∷ right) lefts.range))

        within : IsValues (lf ++ (own ++ rf)) all
        within = values-append lf (own ++ rf) left (x ∷ y ∷ right) hl (values-append own rf (x ∷ y ∷ []) right hw hr)

        by_entries : net_of fs g (lf ++ (own ++ rf)) all ≡ c.flux → entry_of (tensor_of c) all ≡ turn_entry (entries_of fs ats) j left x y right
        by_entries e = entries j x y left right h hl hw hr (record {
          range = subst (λ ls. IsValues ls all) (sym (shape.legs j h)) within;
          flux = (λ i. net (c_over_at.1 i) (shape.legs j h i) (sectors_at (shape.legs j h i) all)) ∙ e;
        })

        sign : Bool
        sign = turn_sign (odd_of ((entries_of fs ats).odd_link j) left) (right_odd (entries_of fs ats) j right) (entries_of fs ats).odd_flux

        go : (net_of fs g (lf ++ (own ++ rf)) all ≡ c.flux) ⊎ (entry_of (tensor_of c) all ≡ zero_g) →
            (net_of fs g (la ++ (own ++ ra)) turned_all ≡ a.flux) ⊎ (entry_of (tensor_of a) turned_all ≡ zero_g) →
            entry_of (tensor_of c) all ≡ turn_entry (entries_of fs ats) j left x y right
        go (inl m) _ = by_entries m
        go (inr z) (inl m) = by_entries (same ∙ ap (neg_charge fs) m ∙ sym (flux j h))
        go (inr z) (inr y) = z ∙ sym (ap (λ e. signed sign (conj_g e)) y ∙ ap (signed sign) conj_zero ∙ signed-zero sign)
