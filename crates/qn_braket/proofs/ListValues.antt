-- The values of the networks of overlap and expectation, for chains as lists of tensors.
use Rattle.std.proofs.Common.{◌≡◌, ◌<◌, ℕ, zero, suc, ◌+◌, ◌-◌, ◌*◌, ℤ, List, [], ◌∷◌, ◌++◌, length, map, reverse, refl, sym, ◌∙◌, ap, ap₂, arith}
use mathlib.Core.Path.{fun_ext}
use Rattle.std.proofs.lemmas.List.{map-append, length-append, length-map, length-reverse}
use Rattle.qn_gauss.specs.Gaussian.{Gaussian, conj_g, mul_g}
use Rattle.qn_charge.specs.declared.factor.Factor.{Factor}
use Rattle.qn_index.specs.Legs.{LegValue, total}
use Rattle.qn_index.specs.Places.{IsValues}
use Rattle.qn_value.specs.Labels.{Placed, slots, ends}
use Rattle.qn_value.proofs.BlockSums.{sum_below-congr}
use Rattle.qn_block.specs.Blocked.{BlockedValue}
use Rattle.qn_net.specs.Members.{placed_member}
use Rattle.qn_net.specs.NetworkValues.{PlacedMember, open_count, value}
use Rattle.qn_braket.specs.Conjugates.{flip}
use Rattle.qn_braket.specs.Brakets.{outs, ins_back}
use Rattle.qn_braket.specs.ChainLabels.{own_link, own_upper, own_lower, overlap_site, overlap_bra, overlap_ket, expect_upper, expect_lower, expect_bra, expect_op, expect_ket, state_labels, operator_labels}
use Rattle.qn_braket.specs.Pieces.{chain_links, site_lines, sum_states}
use Rattle.qn_braket.specs.Chains.{leg_at, IsStateChain, IsOperatorChain, with_labels, back_with_labels, state_members, operator_members, amplitude, element, sum_values, overlap_members, expect_members}
use Rattle.qn_braket.specs.ChainLaws.{OverlapNetworkLaw, ExpectNetworkLaw, ElementsLaw}
use Rattle.qn_braket.proofs.Back.{reverse-map}
use Rattle.qn_braket.proofs.PlacedChains.{IsState, IsOperator, state_placed, operator_placed, amplitude_of, element_of, AllConjugate, piece_of}
use Rattle.qn_braket.proofs.StateValues
use Rattle.qn_braket.proofs.StateValues.{links_positive, state_opens}
use Rattle.qn_braket.proofs.OperatorValues
use Rattle.qn_braket.proofs.OperatorValues.{own_opens, own_are}
use Rattle.qn_braket.proofs.OverlapValues
use Rattle.qn_braket.proofs.OverlapValues.{no_opens}
use Rattle.qn_braket.proofs.ExpectValues
use Rattle.qn_braket.proofs.ChainLists.{tensors, site_sectors, rights, state_is, operator_is, placed_of, members_placed, state_list, operator_list, conjugates_placed, conjugates_are, counted, value_at, sum_sites}

length_outs : (site : ℕ → ℤ) (dim : ℕ → ℕ) (n j : ℕ) → length (outs (site_lines site dim j n)) ≡ n
length_outs site dim zero j = refl
length_outs site dim (suc n) j = ap suc (length_outs site dim n (suc j))

pub last_site : (sites : List LegValue) → 0 < length sites → length sites ≡ suc (length sites - 1)
last_site sites h = count (length sites) h
  where
    count : (n : ℕ) → 0 < n → n ≡ suc (n - 1)
    count n h = omega (arith, h)

module _ (fs : List Factor) (sites : List LegValue) (ts : List BlockedValue) (m : ℕ) (long : length ts ≡ suc m) where
  abbrev dims : ℕ → ℕ
  dims j = total (site_sectors sites j)

  pub amplitude_same : IsStateChain sites ts → (s : List ℕ) → amplitude fs ts s ≡ amplitude_of fs (tensors ts) m s
  amplitude_same c s =
      value_at fs (map (λ (m : PlacedMember). m.placed) (map placed_member (state_members ts))) (state_placed own_upper own_link (tensors ts) m) (suc m)
      (members_placed (state_members ts) ∙ state_list own_upper own_link ts m long) count s
    where
      count : open_count (ends (slots (state_placed own_upper own_link (tensors ts) m))) ≡ suc m
      count =
          counted (state_placed own_upper own_link (tensors ts) m) (chain_links own_link (piece_of (rights ts) (tensors ts)) 0 m) (outs (site_lines own_upper dims 0 (suc m))) (suc m)
          (StateValues.own_net fs (site_sectors sites) (rights ts) (tensors ts) m (state_is sites ts m c long))
          (links_positive (piece_of (rights ts) (tensors ts)) m 0) (state_opens dims (suc m))
          ∙ length_outs own_upper dims (suc m) 0

  pub operator_placed_are : map (λ (m : PlacedMember). m.placed) (map placed_member (operator_members ts)) ≡ operator_placed own_upper (own_lower m) own_link (tensors ts) m
  operator_placed_are =
      members_placed (operator_members ts)
      ∙ operator_list own_upper (own_lower (length ts - 1)) own_link ts m long
      ∙ ap (λ k. operator_placed own_upper (own_lower k) own_link (tensors ts) m) (less (length ts) m long)
    where
      less : (n m : ℕ) → n ≡ suc m → n - 1 ≡ m
      less n m e = omega (arith, e)

  pub element_same : IsOperatorChain sites ts → (u s : List ℕ) → element fs ts u s ≡ element_of fs (tensors ts) m u s
  element_same c u s =
      value_at fs (map (λ (m : PlacedMember). m.placed) (map placed_member (operator_members ts))) (operator_placed own_upper (own_lower m) own_link (tensors ts) m) (2 * m + 2)
      operator_placed_are count (u ++ reverse s)
    where
      twice : (a b n m : ℕ) → n ≡ a + b → a ≡ suc m → b ≡ suc m → n ≡ 2 * m + 2
      twice a b n m e f g = omega (arith, e, f, g)

      lowers_long : length (ins_back (site_lines (own_lower m) dims 0 (suc m))) ≡ suc m
      lowers_long =
          length-reverse (map flip (outs (site_lines (own_lower m) dims 0 (suc m)))) ∙ length-map (outs (site_lines (own_lower m) dims 0 (suc m))) flip ∙ length_outs (own_lower m) dims (suc m) 0

      opens_long : length (own_opens dims m) ≡ 2 * m + 2
      opens_long =
          twice (length (outs (site_lines own_upper dims 0 (suc m)))) (length (ins_back (site_lines (own_lower m) dims 0 (suc m)))) (length (own_opens dims m)) m
          (length-append (outs (site_lines own_upper dims 0 (suc m))) (ins_back (site_lines (own_lower m) dims 0 (suc m)))) (length_outs own_upper dims (suc m) 0) lowers_long

      count : open_count (ends (slots (operator_placed own_upper (own_lower m) own_link (tensors ts) m))) ≡ 2 * m + 2
      count =
          counted (operator_placed own_upper (own_lower m) own_link (tensors ts) m) (chain_links own_link (piece_of (rights ts) (tensors ts)) 0 m) (own_opens dims m) (2 * m + 2)
          (OperatorValues.own_net fs (site_sectors sites) (rights ts) (tensors ts) m (operator_is sites ts m c long))
          (links_positive (piece_of (rights ts) (tensors ts)) m 0) (own_are dims m)
          ∙ opens_long

-- the placed tensors of an overlap

pub overlap_placed : (cs ket : List BlockedValue) (m : ℕ) → length ket ≡ suc m →
    map placed_of (overlap_members cs ket) ≡ reverse (conjugates_placed overlap_site overlap_bra cs) ++ state_placed overlap_site overlap_ket (tensors ket) m
overlap_placed cs ket m long =
    map-append placed_of (back_with_labels (state_labels overlap_site overlap_bra (length cs)) cs) (with_labels (state_labels overlap_site overlap_ket (length ket)) 0 ket)
    ∙ ap₂ (λ u v. u ++ v) (sym (reverse-map placed_of (with_labels (λ j. reverse (state_labels overlap_site overlap_bra (length cs) j)) 0 cs)))
    (state_list overlap_site overlap_ket ket m long)

pub expect_placed : (cs op ket : List BlockedValue) (m : ℕ) → length op ≡ suc m → length ket ≡ suc m →
    map placed_of (expect_members cs op ket) ≡
    reverse (conjugates_placed expect_upper expect_bra cs)
    ++ (operator_placed expect_upper expect_lower expect_op (tensors op) m ++ state_placed expect_lower expect_ket (tensors ket) m)
expect_placed cs op ket m op_long ket_long =
    map-append placed_of (back_with_labels (state_labels expect_upper expect_bra (length cs)) cs)
    (with_labels (operator_labels expect_upper expect_lower expect_op (length op)) 0 op ++ with_labels (state_labels expect_lower expect_ket (length ket)) 0 ket)
    ∙ ap₂ (λ u v. u ++ v) (sym (reverse-map placed_of (with_labels (λ j. reverse (state_labels expect_upper expect_bra (length cs) j)) 0 cs)))
    (map-append placed_of (with_labels (operator_labels expect_upper expect_lower expect_op (length op)) 0 op) (with_labels (state_labels expect_lower expect_ket (length ket)) 0 ket)
    ∙ ap₂ (λ u v. u ++ v) (operator_list expect_upper expect_lower expect_op op m op_long) (state_list expect_lower expect_ket ket m ket_long))

sum_over_sites : (sites : List LegValue) (m : ℕ) → length sites ≡ suc m → (f : List ℕ → Gaussian) → sum_values sites f ≡ sum_states (λ j. total (site_sectors sites j)) 0 (suc m) f
sum_over_sites sites m long f = sum_sites sites (λ j. total (site_sectors sites j)) 0 (suc m) long (λ i b. ap (λ j. total (leg_at sites j).sectors) (to_zero i)) f
  where
    to_zero : (n : ℕ) → n ≡ 0 + n
    to_zero n = omega arith

pub overlap_network_value : OverlapNetworkLaw
overlap_network_value fs sites bra ket net b k h =
    let m : ℕ = length sites - 1 in
    let long : length sites ≡ suc m = last_site sites b.some in
    let bra_long : length bra ≡ suc m = b.count ∙ long in
    let ket_long : length ket ≡ suc m = k.count ∙ long in
    let qs : List Placed = conjugates_placed overlap_site overlap_bra h.0 in
    let sec = site_sectors sites in
    let bra_is : IsState sec (rights bra) (tensors bra) m = state_is sites bra m b bra_long in
    let ket_is : IsState sec (rights ket) (tensors ket) m = state_is sites ket m k ket_long in
    let conj : AllConjugate (state_placed overlap_site overlap_bra (tensors bra) m) qs = conjugates_are overlap_site overlap_bra bra h.0 m h.1 bra_long in
    let all : List Placed = reverse qs ++ state_placed overlap_site overlap_ket (tensors ket) m in
    ap (λ n. value n []) h.2
    ∙ value_at fs (map (λ (m : PlacedMember). m.placed) (map placed_member (overlap_members h.0 ket))) all 0
    (members_placed (overlap_members h.0 ket) ∙ overlap_placed h.0 ket m ket_long)
    (counted all (OverlapValues.all_lines fs sec (rights bra) (rights ket) (tensors bra) (tensors ket) m bra_is ket_is qs conj) [] 0
    (OverlapValues.net fs sec (rights bra) (rights ket) (tensors bra) (tensors ket) m bra_is ket_is qs conj)
    (OverlapValues.positive_from fs sec (rights bra) (rights ket) (tensors bra) (tensors ket) m bra_is ket_is qs conj m 0) no_opens) []
    ∙ OverlapValues.overlap_value fs sec (rights bra) (rights ket) (tensors bra) (tensors ket) m bra_is ket_is qs conj
    ∙ ap (sum_states (λ j. total (sec j)) 0 (suc m)) (fun_ext (λ s. ap₂ (λ x y. mul_g (conj_g x) y)
    (sym (amplitude_same fs sites bra m bra_long b s)) (sym (amplitude_same fs sites ket m ket_long k s))))
    ∙ sym (sum_over_sites sites m long (λ s. mul_g (conj_g (amplitude fs bra s)) (amplitude fs ket s)))

pub expect_network_value : ExpectNetworkLaw
expect_network_value fs sites bra op ket net b o k h =
    let m : ℕ = length sites - 1 in
    let long : length sites ≡ suc m = last_site sites b.some in
    let bra_long : length bra ≡ suc m = b.count ∙ long in
    let op_long : length op ≡ suc m = o.count ∙ long in
    let ket_long : length ket ≡ suc m = k.count ∙ long in
    let qs : List Placed = conjugates_placed expect_upper expect_bra h.0 in
    let sec = site_sectors sites in
    let bra_is : IsState sec (rights bra) (tensors bra) m = state_is sites bra m b bra_long in
    let op_is : IsOperator sec (rights op) (tensors op) m = operator_is sites op m o op_long in
    let ket_is : IsState sec (rights ket) (tensors ket) m = state_is sites ket m k ket_long in
    let conj : AllConjugate (state_placed expect_upper expect_bra (tensors bra) m) qs = conjugates_are expect_upper expect_bra bra h.0 m h.1 bra_long in
    let all : List Placed = reverse qs ++ (operator_placed expect_upper expect_lower expect_op (tensors op) m ++ state_placed expect_lower expect_ket (tensors ket) m) in
    ap (λ n. value n []) h.2
    ∙ value_at fs (map (λ (m : PlacedMember). m.placed) (map placed_member (expect_members h.0 op ket))) all 0
    (members_placed (expect_members h.0 op ket) ∙ expect_placed h.0 op ket m op_long ket_long)
    (counted all (ExpectValues.all_lines fs sec (rights bra) (rights op) (rights ket) (tensors bra) (tensors op) (tensors ket) m bra_is op_is ket_is qs conj) [] 0
    (ExpectValues.net fs sec (rights bra) (rights op) (rights ket) (tensors bra) (tensors op) (tensors ket) m bra_is op_is ket_is qs conj)
    (ExpectValues.positive_from fs sec (rights bra) (rights op) (rights ket) (tensors bra) (tensors op) (tensors ket) m bra_is op_is ket_is qs conj m 0) no_opens) []
    ∙ ExpectValues.expect_value fs sec (rights bra) (rights op) (rights ket) (tensors bra) (tensors op) (tensors ket) m bra_is op_is ket_is qs conj
    ∙ ap (sum_states (λ j. total (sec j)) 0 (suc m)) (fun_ext (λ u. ap (sum_states (λ j. total (sec j)) 0 (suc m)) (fun_ext (λ s. λ i. mul_g
    (conj_g (sym (amplitude_same fs sites bra m bra_long b u) i))
    (mul_g (sym (element_same fs sites op m op_long o u s) i) (sym (amplitude_same fs sites ket m ket_long k s) i))))
    ∙ sym (sum_over_sites sites m long (λ s. mul_g (conj_g (amplitude fs bra u)) (mul_g (element fs op u s) (amplitude fs ket s))))))
    ∙ sym (sum_over_sites sites m long (λ u. sum_values sites (λ s. mul_g (conj_g (amplitude fs bra u)) (mul_g (element fs op u s) (amplitude fs ket s)))))

-- only the values of the sites are summed over

sum_values-agree : (ls : List LegValue) (f g : List ℕ → Gaussian) → ((s : List ℕ) → IsValues ls s → f s ≡ g s) → sum_values ls f ≡ sum_values ls g
sum_values-agree [] f g h = h [] refl
sum_values-agree (l ∷ ls) f g h =
    sum_below-congr (total l.sectors) (λ v. sum_values ls (λ s. f (v ∷ s))) (λ v. sum_values ls (λ s. g (v ∷ s)))
    (λ v b. sum_values-agree ls (λ s. f (v ∷ s)) (λ s. g (v ∷ s)) (λ s k. h (v ∷ s) (b, k)))

pub elements : ElementsLaw
elements fs sites bra ket op other h =
    sum_values-agree sites (λ t. sum_values sites (λ s. mul_g (conj_g (amplitude fs bra t)) (mul_g (op t s) (amplitude fs ket s))))
    (λ t. sum_values sites (λ s. mul_g (conj_g (amplitude fs bra t)) (mul_g (other t s) (amplitude fs ket s))))
    (λ t i. sum_values-agree sites (λ s. mul_g (conj_g (amplitude fs bra t)) (mul_g (op t s) (amplitude fs ket s)))
    (λ s. mul_g (conj_g (amplitude fs bra t)) (mul_g (other t s) (amplitude fs ket s)))
    (λ s j. ap (λ x. mul_g (conj_g (amplitude fs bra t)) (mul_g x (amplitude fs ket s))) (h t s i j)))
