-- The value of a network without open legs is a number.
use Rattle.std.proofs.Common.{◌≡◌, ℕ, zero, suc, ◌+◌, ◌*◌, ◌<◌, ℤ, pos, not, cond, true, false, Bool, None, List, [], ◌∷◌, ◌++◌, length, map, filter, reverse, refl, sym, ◌∙◌, ap, subst, zero-add, arith}
use Rattle.std.specs.List.{All}
use Rattle.std.specs.Prelude.{◌==◌}
use Rattle.std.proofs.lemmas.List.Elements.{All-head, All-tail, All-cons, All-nil, All-append}
use Rattle.std.proofs.lemmas.List.Sums.{sum_by-cons}
use Rattle.qn_gauss.specs.Gaussian.{Gaussian}
use Rattle.qn_charge.specs.declared.factor.Factor.{Factor}
use Rattle.qn_index.specs.Legs.{LegValue}
use Rattle.qn_index.specs.Tuples.{admitted}
use Rattle.qn_value.specs.Networks.{End}
use Rattle.qn_value.specs.Labels.{is_inward, Slot, slots_of, slots, ends, opens_of, is_positive}
use Rattle.qn_value.specs.Blocks.{legs_on}
use Rattle.qn_value.specs.Magnitudes.{all_blocks}
use Rattle.qn_block.specs.Blocked.{BlockedValue, is_filled}
use Rattle.qn_block.proofs.Mirror.{reverse_cons}
use Rattle.qn_net.proofs.OpenLemmas.{positive_suc}
use Rattle.qn_net.specs.Members.{LabelledMember, placed_member}
use Rattle.qn_net.specs.Members.MemberValue.{own}
use Rattle.qn_net.specs.Refusals.{network_of}
use Rattle.qn_net.specs.NetworkValues.{NetworkValue, open_count, legs_of, opens, value, sectors}
use Rattle.qn_braket.specs.ChainLabels.{left_label, right_label, state_labels, operator_labels, overlap_site, overlap_bra, overlap_ket, expect_upper, expect_lower, expect_bra, expect_op, expect_ket}
use Rattle.qn_braket.specs.ChainLaws.{network_flux}
use Rattle.qn_braket.specs.Chains.{with_labels, back_with_labels, overlap_members, overlap_network, expect_members, expect_network, IsOverlapNetwork, IsExpectNetwork}
use Rattle.qn_cli.specs.Networks.{value_tensor}
use Rattle.qn_cli.specs.Brakets.{scalar_tensor}
use Rattle.qn_facts.proofs.Lists.{all_reversed}

abbrev Positive : ℤ → Type 0
Positive l = is_positive l ≡ true

abbrev is_open : End → Bool
is_open e = not (is_positive e.label)

-- ---- legs with positive labels are not open

shut : (e : End) (es : List End) → Positive e.label → open_count (e ∷ es) ≡ open_count es
shut e es p = sum_by-cons (λ (x : End). cond (is_open x) 1 0) e es ∙ (ap (λ b. cond (not b) 1 0 + open_count es) p ∙ zero-add (open_count es))

shut_slots : (ls : List LegValue) (ks : List ℤ) (ss : List Slot) → All Positive ks → open_count (ends (slots_of ls ks ++ ss)) ≡ open_count (ends ss)
shut_slots [] ks ss h = refl
shut_slots (l ∷ ls) [] ss h = refl
shut_slots (l ∷ ls) (k ∷ ks) ss h =
    shut (record { label = k; inward = is_inward l.arrow }) (ends (slots_of ls ks ++ ss)) (All-head Positive k ks h)
    ∙ shut_slots ls ks ss (All-tail Positive k ks h)

abbrev HasPositive : LabelledMember → Type 0
HasPositive m = All Positive m.labels

shut_members : (ms : List LabelledMember) → All HasPositive ms → open_count (ends (slots (map (λ m. m.placed) (map placed_member ms)))) ≡ 0
shut_members [] h = refl
shut_members (m ∷ ms) h =
    shut_slots (placed_member m).placed.tensor.legs m.labels (slots (map (λ m. m.placed) (map placed_member ms))) (All-head HasPositive m ms h)
    ∙ shut_members ms (All-tail HasPositive m ms h)

-- ---- the labels of overlaps and expectations are positive

one_label : (l : ℤ) → Positive l → All Positive (l ∷ [])
one_label l p = All-cons Positive l [] p (All-nil Positive)

left_positive : (link : ℕ → ℤ) → ((j : ℕ) → Positive (link j)) → (j : ℕ) → All Positive (left_label link j)
left_positive link p zero = All-nil Positive
left_positive link p (suc j) = one_label (link j) (p j)

right_positive : (link : ℕ → ℤ) → ((j : ℕ) → Positive (link j)) → (n j : ℕ) → All Positive (right_label link n j)
right_positive link p n j = by (suc j == n)
  where
    by : (b : Bool) → All Positive (cond b [] (link j ∷ []))
    by true = All-nil Positive
    by false = one_label (link j) (p j)

state_positive : (site link : ℕ → ℤ) → ((j : ℕ) → Positive (site j)) → ((j : ℕ) → Positive (link j)) → (n j : ℕ) → All Positive (state_labels site link n j)
state_positive site link p q n j =
    All-append Positive (left_label link j) (site j ∷ right_label link n j) (left_positive link q j) (All-cons Positive (site j) (right_label link n j) (p j) (right_positive link q n j))

operator_positive : (upper lower link : ℕ → ℤ) → ((j : ℕ) → Positive (upper j)) → ((j : ℕ) → Positive (lower j)) → ((j : ℕ) → Positive (link j)) → (n j : ℕ) → All Positive (operator_labels upper lower link n j)
operator_positive upper lower link p q r n j =
    All-append Positive (left_label link j) (upper j ∷ lower j ∷ right_label link n j) (left_positive link r j)
    (All-cons Positive (upper j) (lower j ∷ right_label link n j) (p j) (All-cons Positive (lower j) (right_label link n j) (q j) (right_positive link r n j)))

with_positive : (labels : ℕ → List ℤ) → ((j : ℕ) → All Positive (labels j)) → (j : ℕ) (ts : List BlockedValue) → All HasPositive (with_labels labels j ts)
with_positive labels p j [] = All-nil HasPositive
with_positive labels p j (t ∷ ts) = All-cons HasPositive (record { member = own t; labels = labels j }) (with_labels labels (suc j) ts) (p j) (with_positive labels p (suc j) ts)

back_positive : (labels : ℕ → List ℤ) → ((j : ℕ) → All Positive (labels j)) → (ts : List BlockedValue) → All HasPositive (back_with_labels labels ts)
back_positive labels p ts =
    all_reversed HasPositive (with_labels (λ j. reverse (labels j)) 0 ts) (with_positive (λ j. reverse (labels j)) (λ j. all_reversed Positive (labels j) (p j)) 0 ts)

above : (n : ℕ) → 0 < n → Positive (pos n)
above zero p = absurd (omega (arith, p))
above (suc n) p = positive_suc n

overlap_positive : (cs ket : List BlockedValue) → All HasPositive (overlap_members cs ket)
overlap_positive cs ket =
    All-append HasPositive (back_with_labels (state_labels overlap_site overlap_bra (length cs)) cs) (with_labels (state_labels overlap_site overlap_ket (length ket)) 0 ket)
    (back_positive (state_labels overlap_site overlap_bra (length cs)) (state_positive overlap_site overlap_bra (λ j. above (3 * j + 1) (omega arith)) (λ j. above (3 * j + 2) (omega arith)) (length cs)) cs)
    (with_positive (state_labels overlap_site overlap_ket (length ket)) (state_positive overlap_site overlap_ket (λ j. above (3 * j + 1) (omega arith)) (λ j. above (3 * j + 3) (omega arith)) (length ket)) 0 ket)

expect_positive : (cs op ket : List BlockedValue) → All HasPositive (expect_members cs op ket)
expect_positive cs op ket =
    All-append HasPositive (back_with_labels (state_labels expect_upper expect_bra (length cs)) cs)
    (with_labels (operator_labels expect_upper expect_lower expect_op (length op)) 0 op ++ with_labels (state_labels expect_lower expect_ket (length ket)) 0 ket)
    (back_positive (state_labels expect_upper expect_bra (length cs)) (state_positive expect_upper expect_bra (λ j. above (5 * j + 1) (omega arith)) (λ j. above (5 * j + 3) (omega arith)) (length cs)) cs)
    (All-append HasPositive (with_labels (operator_labels expect_upper expect_lower expect_op (length op)) 0 op) (with_labels (state_labels expect_lower expect_ket (length ket)) 0 ket)
    (with_positive (operator_labels expect_upper expect_lower expect_op (length op))
    (operator_positive expect_upper expect_lower expect_op (λ j. above (5 * j + 1) (omega arith)) (λ j. above (5 * j + 2) (omega arith)) (λ j. above (5 * j + 4) (omega arith)) (length op)) 0 op)
    (with_positive (state_labels expect_lower expect_ket (length ket)) (state_positive expect_lower expect_ket (λ j. above (5 * j + 2) (omega arith)) (λ j. above (5 * j + 5) (omega arith)) (length ket)) 0 ket))

-- a network whose labels are all positive has no open leg
closed : (fs : List Factor) (ms : List LabelledMember) → All HasPositive ms → open_count (ends (legs_of (network_of fs ms None []))) ≡ 0
closed fs ms h = shut_members ms h

-- ---- the value as a tensor

-- a network without open legs has as its value the tensor without legs that has this number
abbrev tensor_with : NetworkValue → List End → BlockedValue
tensor_with net es = record {
  group = net.group;
  legs = legs_on (sectors net) es;
  flux = network_flux net;
  blocks = filter is_filled (all_blocks (value net) (legs_on (sectors net) es) (admitted net.group (legs_on (sectors net) es) (network_flux net)));
}

scalar_with : (net : NetworkValue) (es : List End) (fs : List Factor) (q : List ℤ) (x : Gaussian) → es ≡ [] → net.group ≡ fs → network_flux net ≡ q → value net [] ≡ x
    → tensor_with net es ≡ scalar_tensor fs q x
scalar_with net es fs q x none group flux number =
    ap (tensor_with net) none
    ∙ (λ i. record { group = group i; legs = []; flux = flux i; blocks = filter is_filled (all_blocks (λ xs. number i) [] (admitted (group i) [] (flux i))) })

pub scalar_is : (net : NetworkValue) (fs : List Factor) (q : List ℤ) (x : Gaussian) → opens net ≡ [] → net.group ≡ fs → network_flux net ≡ q → value net [] ≡ x → value_tensor net ≡ scalar_tensor fs q x
scalar_is net fs q x none group flux number = scalar_with net (opens net) fs q x none group flux number

no_opens : (net other : NetworkValue) → net ≡ other → open_count (ends (legs_of other)) ≡ 0 → opens net ≡ []
no_opens net other e c = ap opens e ∙ ap (λ n. opens_of (ends (legs_of other)) n) c

pub overlap_closed : (fs : List Factor) (bra ket : List BlockedValue) (net : NetworkValue) → IsOverlapNetwork fs bra ket net → opens net ≡ []
overlap_closed fs bra ket net p = no_opens net (overlap_network fs p.0 ket) p.2 (closed fs (overlap_members p.0 ket) (overlap_positive p.0 ket))

pub expect_closed : (fs : List Factor) (bra op ket : List BlockedValue) (net : NetworkValue) → IsExpectNetwork fs bra op ket net → opens net ≡ []
expect_closed fs bra op ket net p = no_opens net (expect_network fs p.0 op ket) p.2 (closed fs (expect_members p.0 op ket) (expect_positive p.0 op ket))

pub overlap_group : (fs : List Factor) (bra ket : List BlockedValue) (net : NetworkValue) → IsOverlapNetwork fs bra ket net → net.group ≡ fs
overlap_group fs bra ket net p = ap (λ (m : NetworkValue). m.group) p.2

pub expect_group : (fs : List Factor) (bra op ket : List BlockedValue) (net : NetworkValue) → IsExpectNetwork fs bra op ket net → net.group ≡ fs
expect_group fs bra op ket net p = ap (λ (m : NetworkValue). m.group) p.2
