-- The fluxes of the networks of chains.
use Rattle.std.proofs.Common.{◌≡◌, ℕ, suc, ℤ, None, List, [], ◌∷◌, ◌++◌, length, map, reverse, refl, sym, ◌∙◌, ap, ap₂}
use Rattle.std.specs.List.{All}
use Rattle.std.proofs.lemmas.List.{map-append}
use Rattle.qn_charge.specs.declared.factor.Factor.{Factor}
use Rattle.qn_charge.specs.Charges.{IsGroup, IsCanonical, zero_charge, sum_charge, neg_charge}
use Rattle.qn_charge.specs.Laws.{associative_charge, commutative_charge, zero_is_neutral, canonical_zero, canonical_sum, neg_of_sum, neg_of_zero}
use Rattle.qn_value.specs.Fluxes.{sum_flux}
use Rattle.qn_value.proofs.PlacedLemmas.{all_first, all_others}
use Rattle.qn_block.specs.Blocked.{BlockedValue}
use Rattle.qn_block.proofs.Mirror.{reverse_cons}
use Rattle.qn_net.specs.Members.{LabelledMember, member_tensor, placed_member}
use Rattle.qn_net.specs.NetworkValues.{PlacedMember}
use Rattle.qn_net.specs.Refusals.{network_of}
use Rattle.qn_braket.specs.ChainLabels.{overlap_site, overlap_bra, overlap_ket, expect_upper, expect_lower, expect_bra, expect_op, expect_ket, state_labels, operator_labels}
use Rattle.qn_braket.specs.Chains.{AreConjugates, with_labels, back_with_labels, chain_flux}
use Rattle.qn_braket.specs.ChainLaws.{network_flux, OverlapFluxLaw, ExpectFluxLaw}
use Rattle.qn_braket.proofs.Back.{reverse-map}

member_fluxes : (ms : List LabelledMember) → map (λ (m : PlacedMember). m.placed.tensor.flux) (map placed_member ms) ≡ map (λ m. (member_tensor m.member).flux) ms
member_fluxes [] = refl
member_fluxes (m ∷ ms) = ap (λ qs. (member_tensor m.member).flux ∷ qs) (member_fluxes ms)

list_fluxes : (labels : ℕ → List ℤ) (j : ℕ) (ts : List BlockedValue) → map (λ m. (member_tensor m.member).flux) (with_labels labels j ts) ≡ map (λ t. t.flux) ts
list_fluxes labels j [] = refl
list_fluxes labels j (t ∷ ts) = ap (λ qs. t.flux ∷ qs) (list_fluxes labels (suc j) ts)

module _ (fs : List Factor) (group : IsGroup fs) where
  sum_canonical : (qs : List (List ℤ)) → IsCanonical fs (sum_flux fs qs)
  sum_canonical [] = canonical_zero fs group
  sum_canonical (q ∷ qs) = canonical_sum fs q (sum_flux fs qs) group

  flux_both : (ps qs : List (List ℤ)) → sum_flux fs (ps ++ qs) ≡ sum_charge fs (sum_flux fs ps) (sum_flux fs qs)
  flux_both [] qs = sym (zero_is_neutral fs (sum_flux fs qs) (sum_canonical qs))
  flux_both (p ∷ ps) qs = ap (sum_charge fs p) (flux_both ps qs) ∙ sym (associative_charge fs p (sum_flux fs ps) (sum_flux fs qs) group)

  flux_back : (qs : List (List ℤ)) → sum_flux fs (reverse qs) ≡ sum_flux fs qs
  flux_back [] = refl
  flux_back (q ∷ qs) =
      ap (sum_flux fs) (reverse_cons q qs) ∙ flux_both (reverse qs) (q ∷ [])
      ∙ ap₂ (sum_charge fs) (flux_back qs) (commutative_charge fs q (zero_charge fs))
      ∙ commutative_charge fs (sum_flux fs qs) (sum_charge fs (zero_charge fs) q)
      ∙ associative_charge fs (zero_charge fs) q (sum_flux fs qs) group
      ∙ zero_is_neutral fs (sum_charge fs q (sum_flux fs qs)) (canonical_sum fs q (sum_flux fs qs) group)

  -- the conjugates' fluxes are the negative ones
  conjugate_flux : (ts cs : List BlockedValue) → All (λ t. t.group ≡ fs) ts → AreConjugates ts cs → sum_flux fs (map (λ (c : BlockedValue). c.flux) cs) ≡ neg_charge fs (chain_flux fs ts)
  conjugate_flux [] [] g h = sym (neg_of_zero fs group)
  conjugate_flux [] (c ∷ cs) g h = absurd h
  conjugate_flux (t ∷ ts) [] g h = absurd h
  conjugate_flux (t ∷ ts) (c ∷ cs) g h =
      ap₂ (sum_charge fs)
      (h.0.flux ∙ ap (λ k. neg_charge k t.flux) (all_first (λ (t : BlockedValue). t.group ≡ fs) t ts g))
      (conjugate_flux ts cs (all_others (λ (t : BlockedValue). t.group ≡ fs) t ts g) h.1)
      ∙ sym (neg_of_sum fs t.flux (chain_flux fs ts) group)

  back_fluxes : (labels : ℕ → List ℤ) (ts cs : List BlockedValue) → All (λ t. t.group ≡ fs) ts → AreConjugates ts cs →
      sum_flux fs (map (λ m. (member_tensor m.member).flux) (back_with_labels labels cs)) ≡ neg_charge fs (chain_flux fs ts)
  back_fluxes labels ts cs g h =
      ap (sum_flux fs)
      (sym (reverse-map (λ (m : LabelledMember). (member_tensor m.member).flux) (with_labels (λ j. reverse (labels j)) 0 cs))
      ∙ ap reverse (list_fluxes (λ j. reverse (labels j)) 0 cs))
      ∙ flux_back (map (λ (c : BlockedValue). c.flux) cs)
      ∙ conjugate_flux ts cs g h

  -- conjugates, and other members after them
  all_fluxes : (labels : ℕ → List ℤ) (ts cs : List BlockedValue) (ms : List LabelledMember) (q : List ℤ) → All (λ t. t.group ≡ fs) ts → AreConjugates ts cs →
      sum_flux fs (map (λ m. (member_tensor m.member).flux) ms) ≡ q →
      network_flux (network_of fs (back_with_labels labels cs ++ ms) None []) ≡ sum_charge fs q (neg_charge fs (chain_flux fs ts))
  all_fluxes labels ts cs ms q g h e =
      ap (sum_flux fs)
      (member_fluxes (back_with_labels labels cs ++ ms) ∙ map-append (λ (m : LabelledMember). (member_tensor m.member).flux) (back_with_labels labels cs) ms)
      ∙ flux_both (map (λ (m : LabelledMember). (member_tensor m.member).flux) (back_with_labels labels cs)) (map (λ (m : LabelledMember). (member_tensor m.member).flux) ms)
      ∙ ap₂ (sum_charge fs) (back_fluxes labels ts cs g h) e
      ∙ commutative_charge fs (neg_charge fs (chain_flux fs ts)) q

pub overlap_flux : OverlapFluxLaw
overlap_flux fs bra ket net group g h =
    ap network_flux h.2
    ∙ all_fluxes fs group (state_labels overlap_site overlap_bra (length h.0)) bra h.0 (with_labels (state_labels overlap_site overlap_ket (length ket)) 0 ket) (chain_flux fs ket) g h.1
    (ap (sum_flux fs) (list_fluxes (state_labels overlap_site overlap_ket (length ket)) 0 ket))

pub expect_flux : ExpectFluxLaw
expect_flux fs bra op ket net group g h =
    let upper : List LabelledMember = with_labels (operator_labels expect_upper expect_lower expect_op (length op)) 0 op in
    let lower : List LabelledMember = with_labels (state_labels expect_lower expect_ket (length ket)) 0 ket in
    ap network_flux h.2
    ∙ all_fluxes fs group (state_labels expect_upper expect_bra (length h.0)) bra h.0 (upper ++ lower) (sum_charge fs (chain_flux fs op) (chain_flux fs ket)) g h.1
    (ap (sum_flux fs)
    (map-append (λ (m : LabelledMember). (member_tensor m.member).flux) upper lower
    ∙ ap₂ (λ u v. u ++ v) (list_fluxes (operator_labels expect_upper expect_lower expect_op (length op)) 0 op) (list_fluxes (state_labels expect_lower expect_ket (length ket)) 0 ket))
    ∙ flux_both fs group (map (λ (t : BlockedValue). t.flux) op) (map (λ (t : BlockedValue). t.flux) ket))
