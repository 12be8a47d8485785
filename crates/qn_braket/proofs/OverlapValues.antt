-- The value of the network of an overlap of placed tensors.
use Rattle.std.proofs.Common.{◌≡◌, ℕ, zero, suc, ◌+◌, ◌-◌, ◌*◌, ◌/◌, ◌%◌, ◌<◌, ◌==◌, ℤ, pos, negsuc, Bool, true, false, cond, List, [], ◌∷◌, ◌++◌, map, reverse, refl, sym, ◌∙◌, ap, ap₂, subst, append_assoc, arith}
use mathlib.Core.Path.{fun_ext}
use Rattle.std.specs.List.{flat_map}
use Rattle.std.proofs.lemmas.Bool.{false≢true}
use Rattle.std.proofs.lemmas.Bool.Decides.{nat_tests}
use Rattle.std.proofs.lemmas.List.{map-append}
use Rattle.qn_sign.specs.Sign.{Perm}
use Rattle.qn_sign.specs.Sign.Perm.{then_by}
use Rattle.qn_gauss.specs.Gaussian.{conj_g, mul_g}
use Rattle.qn_charge.specs.declared.factor.Factor.{Factor}
use Rattle.qn_index.specs.Legs.{SectorValue, LegValue, total, parity_at}
use Rattle.qn_value.specs.Tensors.{TensorValue}
use Rattle.qn_value.specs.Networks.{Bond, labels, at_values, IsNetwork}
use Rattle.qn_value.specs.Labels.{Placed, Slot, slots, node_of, is_positive, bonds_from, value_of}
use Rattle.qn_sign.proofs.Parity.{perm-sym, perm_under}
use Rattle.qn_value.proofs.NetLaws.{perm_turn}
use Rattle.qn_value.proofs.PlacedLemmas.{HaveSectorsOn}
use Rattle.qn_braket.specs.Conjugates.{conj_nodes}
use Rattle.qn_braket.specs.ChainLabels.{overlap_site, overlap_bra, overlap_ket}
use Rattle.qn_braket.specs.Pieces.{Piece, chain_links, site_lines, state_chain, sum_states, overlap_nodes, overlap_lines}
use Rattle.qn_braket.proofs.Back.{perm_reverse}
use Rattle.qn_braket.proofs.Chained.{numbers, perm_both}
use Rattle.qn_braket.proofs.OverlapNet.{overlap_net_value, overlap_net_network, split_lines}
use Rattle.qn_braket.proofs.SlotLaws.{on_both, on-perm, bonds-append, bonds-perm, ArePositive, AreOpens, plain_value}
use Rattle.qn_braket.proofs.PlacedChains.{AllSame, same_all, same-both, same_flat, same_network, site_leg, IsState, state_placed, amplitude_of, AllLabelled, AllConjugate, conj_all_same, conj_slots, slots-both, slot_at, flip_slot, chain_slots, flip_chain, all_chain, chain_bonds, piece_of, placed_labelled, flipped_links}
use Rattle.qn_braket.proofs.StateValues.{own_legs, state_nodes, state_slots, state_bonds, state_lines, amplitude_is}

-- the conjugates of a state in a larger network

module _ (fs : List Factor) (sites : ℕ → List SectorValue) (right : ℕ → LegValue) (t : ℕ → TensorValue) (m : ℕ) (is : IsState sites right t m) (site link : ℕ → ℤ)
    (qs : List Placed) (conj : AllConjugate (state_placed site link t m) qs) where
  abbrev placed : List Placed
  placed = state_placed site link t m

  pub labelled : AllLabelled placed
  labelled = placed_labelled (own_legs fs sites right t m is) (λ j. site j ∷ []) link right t (λ k. tt) m 0 [] [] tt is

  pub conj_nodes_are : AllSame (map node_of (reverse qs)) (conj_nodes (state_chain site link (piece_of right t) m))
  conj_nodes_are = subst (λ ns. AllSame (map node_of (reverse qs)) (conj_nodes ns)) (state_nodes fs sites right t m is site link) (conj_all_same placed qs labelled conj)

  abbrev flipped : List Slot
  flipped = chain_slots (λ j. flip_slot (slot_at (site_leg sites j) (site j)) ∷ []) (λ k. flip_slot (slot_at (right k) (link k))) [] 0 m

  to_flipped : Perm (slots (reverse qs)) flipped
  to_flipped =
      subst (λ ss. Perm ss flipped) (sym (conj_slots placed qs labelled conj))
      (subst (Perm (reverse (map flip_slot (slots placed))))
      (ap (map flip_slot) (state_slots fs sites right t m is site link) ∙ flip_chain (λ j. slot_at (site_leg sites j) (site j) ∷ []) (λ k. slot_at (right k) (link k)) m 0 [])
      (perm-sym (perm_reverse (map flip_slot (slots placed)))))

  -- the In ends of the sites
  own_lines : ((k : ℕ) → is_positive (site k) ≡ true) → (k j : ℕ) →
      flat_map (λ i. bonds_from [] (flip_slot (slot_at (site_leg sites i) (site i)) ∷ [])) (numbers j k) ≡ site_lines site (λ i. total (sites i)) j k
  own_lines positive zero j = refl
  own_lines positive (suc k) j = go (is_positive (site j)) (positive j) (own_lines positive k (suc j))
    where
      line : Bond
      line = record { label = site j; dim = total (sites j); twisted = false }

      go : (p : Bool) → p ≡ true → flat_map (λ i. bonds_from [] (flip_slot (slot_at (site_leg sites i) (site i)) ∷ [])) (numbers (suc j) k) ≡ site_lines site (λ i. total (sites i)) (suc j) k →
          cond p (record { label = site j; dim = total (sites j); twisted = false } ∷ []) [] ++ flat_map (λ i. bonds_from [] (flip_slot (slot_at (site_leg sites i) (site i)) ∷ [])) (numbers (suc j) k) ≡
          record { label = site j; dim = total (sites j); twisted = false } ∷ site_lines site (λ i. total (sites i)) (suc j) k
      go true e ih = ap (λ bs. record { label = site j; dim = total (sites j); twisted = false } ∷ bs) ih
      go false e ih = absurd (false≢true e)

  pub conj_bonds : ((k : ℕ) → is_positive (link k) ≡ true) → ((k : ℕ) → is_positive (site k) ≡ true) →
      Perm (bonds_from [] (slots (reverse qs))) (chain_links link (piece_of right t) 0 m ++ site_lines site (λ i. total (sites i)) 0 (suc m))
  conj_bonds link_positive site_positive =
      then_by (bonds-perm to_flipped)
      (subst (Perm (bonds_from [] flipped)) (ap₂ (λ u v. u ++ v) (flipped_links link right t m 0) (own_lines site_positive (suc m) 0))
      (chain_bonds (λ j. flip_slot (slot_at (site_leg sites j) (site j)) ∷ []) (λ k. flip_slot (slot_at (right k) (link k))) link_positive m 0 []))

  pub conj_lines : (line : ℤ → List SectorValue) → ((k : ℕ) → line (site k) ≡ sites k) → ((k : ℕ) → line (link k) ≡ (right k).sectors) → HaveSectorsOn line (slots (reverse qs))
  conj_lines line h k =
      on-perm line (perm-sym to_flipped)
      (all_chain line (λ j. flip_slot (slot_at (site_leg sites j) (site j)) ∷ []) (λ i. flip_slot (slot_at (right i) (link i))) (λ i. (h i, tt)) k m 0 [] tt)

pub no_opens : AreOpens [] 0
no_opens = record { once = λ i h. absurd (none i h); not_positive = λ e h. absurd (false≢true h) }
  where
    none : (i : ℕ) → i < 0 → ⊥
    none i h = omega (arith, h)

-- the sectors of the lines of the overlap

abbrev pub overlap_line : (ℕ → List SectorValue) → (ℕ → LegValue) → (ℕ → LegValue) → ℤ → List SectorValue
overlap_line sites bra ket (pos x) = cond (x % 3 == 1) (sites (x / 3)) (cond (x % 3 == 2) (bra (x / 3)).sectors (ket (x / 3 - 1)).sectors)
overlap_line sites bra ket (negsuc x) = []

module _ (fs : List Factor) (sites : ℕ → List SectorValue) (bra_right ket_right : ℕ → LegValue) (bra ket : ℕ → TensorValue) (m : ℕ)
    (bra_is : IsState sites bra_right bra m) (ket_is : IsState sites ket_right ket m)
    (qs : List Placed) (conj : AllConjugate (state_placed overlap_site overlap_bra bra m) qs) where
  abbrev line : ℤ → List SectorValue
  line = overlap_line sites bra_right ket_right

  pub site_line : (k : ℕ) → line (overlap_site k) ≡ sites k
  site_line k = ap₂ (λ b j. cond b (sites j) (cond ((3 * k + 1) % 3 == 2) (bra_right ((3 * k + 1) / 3)).sectors (ket_right ((3 * k + 1) / 3 - 1)).sectors)) (first k) (place k)
    where
      first : (k : ℕ) → ((3 * k + 1) % 3 == 1) ≡ true
      first k = grind (arith, nat_tests)

      place : (k : ℕ) → (3 * k + 1) / 3 ≡ k
      place k = omega arith

  pub bra_line : (k : ℕ) → line (overlap_bra k) ≡ (bra_right k).sectors
  bra_line k =
      λ i. cond (first k i) (sites ((3 * k + 2) / 3)) (cond (second k i) (bra_right (place k i)).sectors (ket_right ((3 * k + 2) / 3 - 1)).sectors)
    where
      first : (k : ℕ) → ((3 * k + 2) % 3 == 1) ≡ false
      first k = grind (arith, nat_tests)

      second : (k : ℕ) → ((3 * k + 2) % 3 == 2) ≡ true
      second k = grind (arith, nat_tests)

      place : (k : ℕ) → (3 * k + 2) / 3 ≡ k
      place k = omega arith

  pub ket_line : (k : ℕ) → line (overlap_ket k) ≡ (ket_right k).sectors
  ket_line k =
      λ i. cond (first k i) (sites ((3 * k + 3) / 3)) (cond (second k i) (bra_right ((3 * k + 3) / 3)).sectors (ket_right (place k i)).sectors)
    where
      first : (k : ℕ) → ((3 * k + 3) % 3 == 1) ≡ false
      first k = grind (arith, nat_tests)

      second : (k : ℕ) → ((3 * k + 3) % 3 == 2) ≡ false
      second k = grind (arith, nat_tests)

      place : (k : ℕ) → (3 * k + 3) / 3 - 1 ≡ k
      place k = omega arith

  abbrev dim : ℕ → ℕ
  dim j = total (sites j)

  abbrev bra_piece : ℕ → Piece
  bra_piece = piece_of bra_right bra

  abbrev ket_piece : ℕ → Piece
  ket_piece = piece_of ket_right ket

  abbrev pub all_lines : List Bond
  all_lines = overlap_lines dim bra_piece ket_piece 0 m

  site_positive : (k : ℕ) → is_positive (overlap_site k) ≡ true
  site_positive k = grind (arith, nat_tests)

  bra_positive : (k : ℕ) → is_positive (overlap_bra k) ≡ true
  bra_positive k = grind (arith, nat_tests)

  ket_positive : (k : ℕ) → is_positive (overlap_ket k) ≡ true
  ket_positive k = grind (arith, nat_tests)

  pub positive_from : (k j : ℕ) → ArePositive (labels (overlap_lines dim bra_piece ket_piece j k))
  positive_from zero j = (site_positive j, tt)
  positive_from (suc k) j = (site_positive j, (bra_positive j, (ket_positive j, positive_from k (suc j))))

  abbrev pub placed_ket : List Placed
  placed_ket = state_placed overlap_site overlap_ket ket m

  -- the network's tensors
  abbrev pub all_placed : List Placed
  all_placed = reverse qs ++ placed_ket

  pub nodes_same : AllSame (map node_of all_placed) (overlap_nodes bra_piece ket_piece m)
  nodes_same =
      subst (λ ns. AllSame ns (overlap_nodes bra_piece ket_piece m)) (sym (map-append node_of (reverse qs) placed_ket))
      (same-both (map node_of (reverse qs)) (conj_nodes (state_chain overlap_site overlap_bra bra_piece m)) (map node_of placed_ket) (state_chain overlap_site overlap_ket ket_piece m)
      (conj_nodes_are fs sites bra_right bra m bra_is overlap_site overlap_bra qs conj)
      (subst (AllSame (map node_of placed_ket)) (state_nodes fs sites ket_right ket m ket_is overlap_site overlap_ket) (same_all (map node_of placed_ket))))

  pub net : IsNetwork (map node_of all_placed) all_lines []
  net = same_network (map node_of all_placed) (overlap_nodes bra_piece ket_piece m) all_lines [] nodes_same (overlap_net_network dim bra_piece ket_piece m)

  pub bonds_are : Perm (bonds_from [] (slots all_placed)) all_lines
  bonds_are =
      let b : List Bond = chain_links overlap_bra bra_piece 0 m in
      let k : List Bond = chain_links overlap_ket ket_piece 0 m in
      let t : List Bond = site_lines overlap_site dim 0 (suc m) in
      subst (λ bs. Perm bs all_lines)
      (sym (ap (bonds_from []) (slots-both (reverse qs) placed_ket) ∙ bonds-append (slots (reverse qs)) (slots placed_ket)))
      (then_by (perm_both (conj_bonds fs sites bra_right bra m bra_is overlap_site overlap_bra qs conj bra_positive site_positive) (state_bonds fs sites ket_right ket m ket_is overlap_site overlap_ket ket_positive))
      (then_by (subst (λ w. Perm w (b ++ (k ++ t))) (sym (append_assoc b t k)) (perm_under b (perm_turn t k)))
      (perm-sym (split_lines dim bra_piece ket_piece m 0))))

  pub lines_are : HaveSectorsOn line (slots all_placed)
  lines_are =
      subst (HaveSectorsOn line) (sym (slots-both (reverse qs) placed_ket))
      (on_both line (slots (reverse qs)) (slots placed_ket)
      (conj_lines fs sites bra_right bra m bra_is overlap_site overlap_bra qs conj line site_line bra_line)
      (state_lines fs sites ket_right ket m ket_is overlap_site overlap_ket line site_line ket_line))

  abbrev par : ℤ → ℕ → Bool
  par l v = parity_at fs (line l) v

  pub overlap_value : value_of fs all_placed [] 0 [] ≡ sum_states dim 0 (suc m) (λ s. mul_g (conj_g (amplitude_of fs bra m s)) (amplitude_of fs ket m s))
  overlap_value =
      plain_value fs all_placed 0 all_lines [] net (positive_from m 0) no_opens refl bonds_are line lines_are par (λ e h v. refl) []
      ∙ same_flat par (map node_of all_placed) (overlap_nodes bra_piece ket_piece m) all_lines [] nodes_same (at_values [] [])
      ∙ overlap_net_value dim bra_piece ket_piece m par (at_values [] [])
      ∙ ap (sum_states dim 0 (suc m)) (fun_ext (λ s. ap₂ (λ x y. mul_g (conj_g x) y)
      (sym (amplitude_is fs sites bra_right bra m bra_is overlap_site overlap_bra line site_line bra_line s))
      (sym (amplitude_is fs sites ket_right ket m ket_is overlap_site overlap_ket line site_line ket_line s))))
