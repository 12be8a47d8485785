-- Nothing is wrong with the labels of the networks of chains.
use Rattle.std.proofs.Common.{◌≡◌, ◌≤◌, ◌<◌, ◌==◌, ℕ, zero, suc, ◌+◌, ◌-◌, ◌*◌, ℤ, pos, Bool, true, false, cond, None, List, [], ◌∷◌, ◌++◌, length, map, reverse, refl, sym, ◌∙◌, ap, ap₂, subst, arith}
use Rattle.std.proofs.lemmas.List.{length-append, length-reverse}
use Rattle.qn_index.specs.Legs.{SectorValue, LegValue, total}
use Rattle.qn_value.specs.Labels.{Placed, slots, ends, node_of, IsWellLabelled}
use Rattle.qn_value.proofs.PlacedLemmas.{HaveSectorsOn}
use Rattle.qn_block.specs.Blocked.{BlockedValue}
use Rattle.qn_block.proofs.Mirror.{conjugate_length}
use Rattle.qn_net.specs.Refusals.{IsLabel, IsFaultless}
use Rattle.qn_net.proofs.LineLemmas.{pos_label, negsuc_label}
use Rattle.qn_braket.specs.Brakets.{outs}
use Rattle.qn_braket.specs.ChainLabels.{own_link, own_upper, own_lower, overlap_site, overlap_bra, overlap_ket, expect_upper, expect_lower, expect_bra, expect_op, expect_ket, left_label, right_label, state_labels, operator_labels}
use Rattle.qn_braket.specs.Pieces.{chain_links, site_lines, state_names, operator_names}
use Rattle.qn_braket.specs.Chains.{leg_at, tensor_at, state_legs, operator_legs, legs_left, legs_right, IsChain, IsStateChain, IsOperatorChain, with_labels, back_with_labels, state_members, operator_members, AreConjugates, overlap_members, expect_members}
use Rattle.qn_braket.specs.ChainLaws.{ChainFaultlessLaw, OverlapFaultlessLaw, ExpectFaultlessLaw}
use Rattle.qn_braket.proofs.Back.{perm_reverse}
use Rattle.qn_braket.proofs.SlotLaws.{well_labelled}
use Rattle.qn_braket.proofs.PlacedChains.{IsState, IsOperator, state_placed, operator_placed, AllConjugate, piece_of}
use Rattle.qn_braket.proofs.StateValues
use Rattle.qn_braket.proofs.StateValues.{links_positive, state_opens}
use Rattle.qn_braket.proofs.OperatorValues
use Rattle.qn_braket.proofs.OperatorValues.{own_opens, own_are}
use Rattle.qn_braket.proofs.OverlapValues
use Rattle.qn_braket.proofs.OverlapValues.{overlap_line, no_opens}
use Rattle.qn_braket.proofs.ExpectValues
use Rattle.qn_braket.proofs.ExpectValues.{expect_line}
use Rattle.qn_braket.proofs.ChainLists.{left_one, tensors, site_sectors, rights, state_is, operator_is, placed_of, state_list, operator_list, conjugates_long, conjugates_placed, conjugates_are}
use Rattle.qn_braket.proofs.ListValues.{last_site, overlap_placed, expect_placed}
use Rattle.qn_braket.proofs.Faultless.{AreLabels, labels-both, labels-perm, AllLabelled, labelled-both, labelled-perm, faultless_from}
use Rattle.qn_value.proofs.LabelLemmas.{word_ends}

-- the labels of one site

abbrev pub ReachLabels : (ℕ → ℤ) → Type 0
ReachLabels f = (j : ℕ) → j < 64 → IsLabel (f j)

left_labels : (link : ℕ → ℤ) (n j : ℕ) → j < n → ((i : ℕ) → i < n → IsLabel (link i)) → AreLabels (left_label link j)
left_labels link n zero b h = tt
left_labels link n (suc j) b h = (h j (less j n b), tt)
  where
    less : (j n : ℕ) → suc j < n → j < n
    less j n b = omega (arith, b)

right_labels : (link : ℕ → ℤ) (n j : ℕ) → IsLabel (link j) → AreLabels (right_label link n j)
right_labels link n j h = go (suc j == n)
  where
    go : (b : Bool) → AreLabels (cond b [] (link j ∷ []))
    go true = tt
    go false = (h, tt)

site_labels : (own : List ℤ) (link : ℕ → ℤ) (n j : ℕ) → j < n → AreLabels own → ((i : ℕ) → i < n → IsLabel (link i)) → AreLabels (left_label link j ++ (own ++ right_label link n j))
site_labels own link n j b o h =
    labels-both (left_label link j) (own ++ right_label link n j) (left_labels link n j b h) (labels-both own (right_label link n j) o (right_labels link n j (h j b)))

left_long : (link : ℕ → ℤ) (j : ℕ) → length (left_label link j) ≡ legs_left j
left_long link zero = refl
left_long link (suc j) = sym (left_one j)

right_long : (link : ℕ → ℤ) (n j : ℕ) → length (right_label link n j) ≡ legs_right n j
right_long link n j = go (suc j == n)
  where
    go : (b : Bool) → length (cond b [] (link j ∷ [])) ≡ cond b 0 1
    go true = refl
    go false = refl

labels_long : (own : List ℤ) (link : ℕ → ℤ) (n j : ℕ) → length (left_label link j ++ (own ++ right_label link n j)) ≡ legs_left j + (length own + legs_right n j)
labels_long own link n j =
    length-append (left_label link j) (own ++ right_label link n j)
    ∙ ap₂ (λ a b. a + b) (left_long link j) (length-append own (right_label link n j) ∙ ap (λ b. length own + b) (right_long link n j))

-- the labels of a list of members

abbrev pub SuitLabels : (ℕ → List ℤ) → List BlockedValue → ℕ → ℕ → Type 0
SuitLabels labels ts j i = (length (labels j) ≡ length (tensor_at ts i).legs) × AreLabels (labels j)

labels_list : (labels : ℕ → List ℤ) (ts : List BlockedValue) (j : ℕ) → ((i : ℕ) → i < length ts → SuitLabels labels ts (j + i) i) → AllLabelled (with_labels labels j ts)
labels_list labels [] j h = tt
labels_list labels (t ∷ ts) j h = (
  subst (λ k. SuitLabels labels (t ∷ ts) k 0) (same j) (h 0 (some (length ts))),
  labels_list labels ts (suc j) (λ i b. subst (λ k. SuitLabels labels ts k i) (shift j i) (h (suc i) (more i (length ts) b))),
)
  where
    some : (n : ℕ) → 0 < suc n
    some n = omega arith

    same : (j : ℕ) → j + 0 ≡ j
    same j = omega arith

    more : (i n : ℕ) → i < n → suc i < suc n
    more i n b = omega (arith, b)

    shift : (j i : ℕ) → j + suc i ≡ suc j + i
    shift j i = omega arith

from_zero : (n : ℕ) → n ≡ 0 + n
from_zero n = omega arith

reach : (j n : ℕ) → j < n → n ≤ 64 → j < 64
reach j n b le = omega (arith, b, le)

module _ (legs : LegValue → List LegValue) (own : ℕ → List ℤ) (link : ℕ → ℤ) (sites : List LegValue) (ts : List BlockedValue) (chain : IsChain legs sites ts) (few : length sites ≤ 64)
    (many : (j : ℕ) (l : LegValue) → length (own j) ≡ length (legs l)) (owns : (j : ℕ) → j < 64 → AreLabels (own j)) (links : ReachLabels link) where
  few_tensors : length ts ≤ 64
  few_tensors = subst (λ n. n ≤ 64) (sym chain.count) few

  abbrev site : ℕ → List ℤ
  site j = left_label link j ++ (own j ++ right_label link (length ts) j)

  suit : (i : ℕ) → i < length ts → SuitLabels site ts i i
  suit i b = (
    labels_long (own i) link (length ts) i ∙ ap (λ k. legs_left i + (k + legs_right (length ts) i)) (many i (leg_at sites i)) ∙ sym (chain.shapes i b).count,
    site_labels (own i) link (length ts) i b (owns i (reach i (length ts) b few_tensors)) (λ k c. links k (reach k (length ts) c few_tensors)),
  )

  pub chain_labelled : AllLabelled (with_labels site 0 ts)
  chain_labelled = labels_list site ts 0 (λ i b. subst (λ k. SuitLabels site ts k i) (from_zero i) (suit i b))

  -- conjugates have as many legs, and the same labels in reversed order
  conjugate_legs_long : (us cs : List BlockedValue) → AreConjugates us cs → (i : ℕ) → i < length cs → length (tensor_at cs i).legs ≡ length (tensor_at us i).legs
  conjugate_legs_long [] [] h i b = refl
  conjugate_legs_long [] (c ∷ cs) h i b = absurd h
  conjugate_legs_long (u ∷ us) [] h i b = absurd h
  conjugate_legs_long (u ∷ us) (c ∷ cs) h zero b = ap (λ (ls : List LegValue). length ls) h.0.legs ∙ conjugate_length u.legs
  conjugate_legs_long (u ∷ us) (c ∷ cs) h (suc i) b = conjugate_legs_long us cs h.1 i (omega (arith, b))

  pub back_labelled : (cs : List BlockedValue) → AreConjugates ts cs → AllLabelled (back_with_labels (λ j. left_label link j ++ (own j ++ right_label link (length cs) j)) cs)
  back_labelled cs h =
      subst (λ n. AllLabelled (back_with_labels (λ j. left_label link j ++ (own j ++ right_label link n j)) cs)) (sym (conjugates_long ts cs h))
      (labelled-perm (perm_reverse (with_labels (λ j. reverse (site j)) 0 cs))
      (labels_list (λ j. reverse (site j)) cs 0 (λ i b. subst (λ k. SuitLabels (λ j. reverse (site j)) cs k i) (from_zero i)
      (let s = suit i (subst (λ n. i < n) (conjugates_long ts cs h) b) in
      (length-reverse (site i) ∙ s.0 ∙ sym (conjugate_legs_long ts cs h i b), labels-perm (perm_reverse (site i)) s.1)))))

-- labels in reach

own_links : ReachLabels own_link
own_links j b = pos_label (suc j) (some j) (most j b)
  where
    some : (j : ℕ) → 0 < suc j
    some j = omega arith

    most : (j : ℕ) → j < 64 → suc j ≤ 1024
    most j b = omega (arith, b)

own_uppers : ReachLabels own_upper
own_uppers j b = negsuc_label j (most j b)
  where
    most : (j : ℕ) → j < 64 → j < 1024
    most j b = omega (arith, b)

own_lowers : (m : ℕ) → m < 64 → ReachLabels (own_lower m)
own_lowers m h j b = negsuc_label (2 * m + 1 - j) (most m j h)
  where
    most : (m j : ℕ) → m < 64 → 2 * m + 1 - j < 1024
    most m j h = omega (arith, h)

by_three : (r : ℕ) → 0 < r → r ≤ 3 → ReachLabels (λ j. pos (3 * j + r))
by_three r p q j b = pos_label (3 * j + r) (some j r p) (most j r q b)
  where
    some : (j r : ℕ) → 0 < r → 0 < 3 * j + r
    some j r p = omega (arith, p)

    most : (j r : ℕ) → r ≤ 3 → j < 64 → 3 * j + r ≤ 1024
    most j r q b = omega (arith, q, b)

by_five : (r : ℕ) → 0 < r → r ≤ 5 → ReachLabels (λ j. pos (5 * j + r))
by_five r p q j b = pos_label (5 * j + r) (some j r p) (most j r q b)
  where
    some : (j r : ℕ) → 0 < r → 0 < 5 * j + r
    some j r p = omega (arith, p)

    most : (j r : ℕ) → r ≤ 5 → j < 64 → 5 * j + r ≤ 1024
    most j r q b = omega (arith, q, b)

last_below : (n : ℕ) → 0 < n → n ≤ 64 → n - 1 < 64
last_below n s le = omega (arith, s, le)

-- the networks of one chain

module _ (sites : List LegValue) (ts : List BlockedValue) (few : length sites ≤ 64) where
  abbrev m : ℕ
  m = length sites - 1

  abbrev sec : ℕ → List SectorValue
  sec = site_sectors sites

  abbrev r : ℕ → LegValue
  r = rights ts

  abbrev line : ℤ → List SectorValue
  line = expect_line sec r r r

  pub state_faultless : IsStateChain sites ts → IsFaultless (state_members ts) None []
  state_faultless c =
      faultless_from (state_members ts) (suc m)
      (chain_labelled state_legs (λ j. own_upper j ∷ []) own_link sites ts c few (λ j l. refl) (λ j b. (own_uppers j b, tt)) own_links)
      (subst (λ qs. IsWellLabelled (ends (slots qs)) (suc m)) (sym path) well)
      (λ l. line (state_names expect_upper expect_bra l)) (subst (λ qs. HaveSectorsOn (λ l. line (state_names expect_upper expect_bra l)) (slots qs)) (sym path) on)
    where
      long : length ts ≡ suc m
      long = c.count ∙ last_site sites c.some

      is : IsState sec r (tensors ts) m
      is = state_is sites ts m c long

      ps : List Placed
      ps = state_placed own_upper own_link (tensors ts) m

      path : map placed_of (state_members ts) ≡ state_placed own_upper own_link (tensors ts) m
      path = state_list own_upper own_link ts m long

      well : IsWellLabelled (ends (slots (state_placed own_upper own_link (tensors ts) m))) (suc m)
      well =
          subst (λ es. IsWellLabelled es (suc m)) (word_ends (state_placed own_upper own_link (tensors ts) m))
          (well_labelled (map node_of (state_placed own_upper own_link (tensors ts) m)) (chain_links own_link (piece_of r (tensors ts)) 0 m)
          (outs (site_lines own_upper (λ j. total (sec j)) 0 (suc m))) (suc m)
          (StateValues.own_net [] sec r (tensors ts) m is) (links_positive (piece_of r (tensors ts)) m 0) (state_opens (λ j. total (sec j)) (suc m)))

      on : HaveSectorsOn (λ l. line (state_names expect_upper expect_bra l)) (slots (state_placed own_upper own_link (tensors ts) m))
      on =
          StateValues.state_lines [] sec r (tensors ts) m is own_upper own_link (λ l. line (state_names expect_upper expect_bra l))
          (λ k. ExpectValues.upper_line sec r r r k) (λ k. ExpectValues.bra_line sec r r r k)

  pub operator_faultless : IsOperatorChain sites ts → IsFaultless (operator_members ts) None []
  operator_faultless c =
      faultless_from (operator_members ts) (2 * m + 2)
      (chain_labelled operator_legs (λ j. own_upper j ∷ own_lower (length ts - 1) j ∷ []) own_link sites ts c few (λ j l. refl)
      (λ j b. (own_uppers j b, (own_lowers (length ts - 1) below j b, tt))) own_links)
      (subst (λ qs. IsWellLabelled (ends (slots qs)) (2 * m + 2)) (sym path) well)
      (λ l. line (operator_names m expect_upper expect_lower expect_op l))
      (subst (λ qs. HaveSectorsOn (λ l. line (operator_names m expect_upper expect_lower expect_op l)) (slots qs)) (sym path) on)
    where
      long : length ts ≡ suc m
      long = c.count ∙ last_site sites c.some

      is : IsOperator sec r (tensors ts) m
      is = operator_is sites ts m c long

      below : length ts - 1 < 64
      below = last_below (length ts) (subst (λ n. 0 < n) (sym c.count) c.some) (subst (λ n. n ≤ 64) (sym c.count) few)

      path : map placed_of (operator_members ts) ≡ operator_placed own_upper (own_lower m) own_link (tensors ts) m
      path =
          operator_list own_upper (own_lower (length ts - 1)) own_link ts m long
          ∙ ap (λ n. operator_placed own_upper (own_lower (n - 1)) own_link (tensors ts) m) c.count

      well : IsWellLabelled (ends (slots (operator_placed own_upper (own_lower m) own_link (tensors ts) m))) (2 * m + 2)
      well =
          subst (λ es. IsWellLabelled es (2 * m + 2)) (word_ends (operator_placed own_upper (own_lower m) own_link (tensors ts) m))
          (well_labelled (map node_of (operator_placed own_upper (own_lower m) own_link (tensors ts) m)) (chain_links own_link (piece_of r (tensors ts)) 0 m)
          (own_opens (λ j. total (sec j)) m) (2 * m + 2)
          (OperatorValues.own_net [] sec r (tensors ts) m is) (links_positive (piece_of r (tensors ts)) m 0) (own_are (λ j. total (sec j)) m))

      on : HaveSectorsOn (λ l. line (operator_names m expect_upper expect_lower expect_op l)) (slots (operator_placed own_upper (own_lower m) own_link (tensors ts) m))
      on =
          OperatorValues.own_lines [] sec r (tensors ts) m is expect_upper expect_lower expect_op line
          (λ k. ExpectValues.upper_line sec r r r k) (λ k. ExpectValues.lower_line sec r r r k) (λ k. ExpectValues.op_line sec r r r k)

pub chain_faultless : ChainFaultlessLaw
chain_faultless sites ts few = (state_faultless sites ts few, operator_faultless sites ts few)

-- the networks of overlap and expectation

three_labels : ReachLabels overlap_site × ReachLabels overlap_bra × ReachLabels overlap_ket
three_labels = (by_three 1 (omega arith) (omega arith), by_three 2 (omega arith) (omega arith), by_three 3 (omega arith) (omega arith))

pub overlap_faultless : OverlapFaultlessLaw
overlap_faultless sites bra cs ket few b h k =
    let m : ℕ = length sites - 1 in
    let bra_long : length bra ≡ suc m = b.count ∙ last_site sites b.some in
    let ket_long : length ket ≡ suc m = k.count ∙ last_site sites k.some in
    let qs : List Placed = conjugates_placed overlap_site overlap_bra cs in
    let sec = site_sectors sites in
    let bra_is : IsState sec (rights bra) (tensors bra) m = state_is sites bra m b bra_long in
    let ket_is : IsState sec (rights ket) (tensors ket) m = state_is sites ket m k ket_long in
    let conj : AllConjugate (state_placed overlap_site overlap_bra (tensors bra) m) qs = conjugates_are overlap_site overlap_bra bra cs m h bra_long in
    let all : List Placed = reverse qs ++ state_placed overlap_site overlap_ket (tensors ket) m in
    let path : map placed_of (overlap_members cs ket) ≡ all = overlap_placed cs ket m ket_long in
    let line = overlap_line sec (rights bra) (rights ket) in
    let on : HaveSectorsOn line (slots all) = OverlapValues.lines_are [] sec (rights bra) (rights ket) (tensors bra) (tensors ket) m bra_is ket_is qs conj in
    let well : IsWellLabelled (ends (slots all)) 0 =
    subst (λ es. IsWellLabelled es 0) (word_ends all)
    (well_labelled (map node_of all) (OverlapValues.all_lines [] sec (rights bra) (rights ket) (tensors bra) (tensors ket) m bra_is ket_is qs conj) [] 0
    (OverlapValues.net [] sec (rights bra) (rights ket) (tensors bra) (tensors ket) m bra_is ket_is qs conj)
    (OverlapValues.positive_from [] sec (rights bra) (rights ket) (tensors bra) (tensors ket) m bra_is ket_is qs conj m 0) no_opens) in
    faultless_from (overlap_members cs ket) 0
    (labelled-both (back_with_labels (state_labels overlap_site overlap_bra (length cs)) cs) (with_labels (state_labels overlap_site overlap_ket (length ket)) 0 ket)
    (back_labelled state_legs (λ j. overlap_site j ∷ []) overlap_bra sites bra b few (λ j l. refl) (λ j c. (three_labels.0 j c, tt)) three_labels.1 cs h)
    (chain_labelled state_legs (λ j. overlap_site j ∷ []) overlap_ket sites ket k few (λ j l. refl) (λ j c. (three_labels.0 j c, tt)) three_labels.2))
    (subst (λ ps. IsWellLabelled (ends (slots ps)) 0) (sym path) well)
    line (subst (λ ps. HaveSectorsOn line (slots ps)) (sym path) on)

upper_labels : ReachLabels expect_upper
upper_labels = by_five 1 (omega arith) (omega arith)

lower_labels : ReachLabels expect_lower
lower_labels = by_five 2 (omega arith) (omega arith)

pub expect_faultless : ExpectFaultlessLaw
expect_faultless sites bra cs op ket few b h o k =
    let m : ℕ = length sites - 1 in
    let bra_long : length bra ≡ suc m = b.count ∙ last_site sites b.some in
    let op_long : length op ≡ suc m = o.count ∙ last_site sites o.some in
    let ket_long : length ket ≡ suc m = k.count ∙ last_site sites k.some in
    let qs : List Placed = conjugates_placed expect_upper expect_bra cs in
    let sec = site_sectors sites in
    let bra_is : IsState sec (rights bra) (tensors bra) m = state_is sites bra m b bra_long in
    let op_is : IsOperator sec (rights op) (tensors op) m = operator_is sites op m o op_long in
    let ket_is : IsState sec (rights ket) (tensors ket) m = state_is sites ket m k ket_long in
    let conj : AllConjugate (state_placed expect_upper expect_bra (tensors bra) m) qs = conjugates_are expect_upper expect_bra bra cs m h bra_long in
    let all : List Placed = reverse qs ++ (operator_placed expect_upper expect_lower expect_op (tensors op) m ++ state_placed expect_lower expect_ket (tensors ket) m) in
    let path : map placed_of (expect_members cs op ket) ≡ all = expect_placed cs op ket m op_long ket_long in
    let line = expect_line sec (rights bra) (rights op) (rights ket) in
    let on : HaveSectorsOn line (slots all) =
    ExpectValues.lines_are [] sec (rights bra) (rights op) (rights ket) (tensors bra) (tensors op) (tensors ket) m bra_is op_is ket_is qs conj in
    let well : IsWellLabelled (ends (slots all)) 0 =
    subst (λ es. IsWellLabelled es 0) (word_ends all)
    (well_labelled (map node_of all) (ExpectValues.all_lines [] sec (rights bra) (rights op) (rights ket) (tensors bra) (tensors op) (tensors ket) m bra_is op_is ket_is qs conj) [] 0
    (ExpectValues.net [] sec (rights bra) (rights op) (rights ket) (tensors bra) (tensors op) (tensors ket) m bra_is op_is ket_is qs conj)
    (ExpectValues.positive_from [] sec (rights bra) (rights op) (rights ket) (tensors bra) (tensors op) (tensors ket) m bra_is op_is ket_is qs conj m 0) no_opens) in
    faultless_from (expect_members cs op ket) 0
    (labelled-both (back_with_labels (state_labels expect_upper expect_bra (length cs)) cs)
    (with_labels (operator_labels expect_upper expect_lower expect_op (length op)) 0 op ++ with_labels (state_labels expect_lower expect_ket (length ket)) 0 ket)
    (back_labelled state_legs (λ j. expect_upper j ∷ []) expect_bra sites bra b few (λ j l. refl) (λ j c. (upper_labels j c, tt)) (by_five 3 (omega arith) (omega arith)) cs h)
    (labelled-both (with_labels (operator_labels expect_upper expect_lower expect_op (length op)) 0 op) (with_labels (state_labels expect_lower expect_ket (length ket)) 0 ket)
    (chain_labelled operator_legs (λ j. expect_upper j ∷ expect_lower j ∷ []) expect_op sites op o few (λ j l. refl) (λ j c. (upper_labels j c, (lower_labels j c, tt))) (by_five 4 (omega arith) (omega arith)))
    (chain_labelled state_legs (λ j. expect_lower j ∷ []) expect_ket sites ket k few (λ j l. refl) (λ j c. (lower_labels j c, tt)) (by_five 5 (omega arith) (omega arith)))))
    (subst (λ ps. IsWellLabelled (ends (slots ps)) 0) (sym path) well)
    line (subst (λ ps. HaveSectorsOn line (slots ps)) (sym path) on)
