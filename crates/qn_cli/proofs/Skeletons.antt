-- The network with the automaton's skeleton in the operator's place is too wide at the same step as that with the automaton.
use Rattle.std.proofs.Common.{◌≡◌, ◌<◌, ℕ, suc, ℤ, None, List, [], ◌∷◌, ◌++◌, length, map, refl, sym, ap, ap₂, ◌∙◌}
use Rattle.std.proofs.lemmas.List.{map-append}
use Rattle.std.proofs.lemmas.List.FromFn.{fill_by_all}
use Rattle.qn_sign.specs.Positions.{positions}
use Rattle.qn_charge.specs.declared.factor.Factor.{Factor}
use Rattle.qn_value.specs.Labels.{Slot, slots, slots_of, ends}
use Rattle.qn_block.specs.Blocked.{BlockedValue}
use Rattle.qn_opsum.specs.Sums.{SumValue}
use Rattle.qn_auto.specs.SumAutomaton.{IsSkeletonOf}
use Rattle.qn_net.specs.Groups.{Member}
use Rattle.qn_net.specs.Members.{LabelledMember, placed_member, slots_of_members}
use Rattle.qn_net.specs.NetworkValues.{PlacedMember, member_of}
use Rattle.qn_net.specs.Refusals.{network_of, positives}
use Rattle.qn_braket.specs.ChainLabels.{state_labels, operator_labels, expect_upper, expect_lower, expect_bra, expect_op, expect_ket}
use Rattle.qn_braket.specs.Chains.{with_labels, back_with_labels, expect_members, expect_network, tensor_at, no_tensor}
use Rattle.qn_cli.specs.Operators.{site_tensor, automaton}
use Rattle.qn_cli.proofs.BlankSteps.{blank_member, AreSameButEntries}

-- a tensor without its blocks
abbrev pub shape : BlockedValue → BlockedValue
shape t = record { group = t.group; legs = t.legs; flux = t.flux; blocks = [] }

-- what is seen of a member: its legs with their labels, and all but its entries

abbrev slots_here : LabelledMember → List Slot
slots_here m = slots_of (placed_member m).placed.tensor.legs m.labels

abbrev seen : LabelledMember → Member
seen m = blank_member (member_of (placed_member m))

abbrev together : List (List Slot) → List Slot
together [] = []
together (s ∷ ss) = s ++ together ss

legs_told : (ms : List LabelledMember) → slots (map (λ (m : PlacedMember). m.placed) (map placed_member ms)) ≡ together (map slots_here ms)
legs_told [] = refl
legs_told (m ∷ ms) = ap (λ (ss : List Slot). slots_here m ++ ss) (legs_told ms)

slots_told : (ms : List LabelledMember) → slots_of_members ms ≡ together (map slots_here ms)
slots_told [] = refl
slots_told (m ∷ ms) = ap (λ (ss : List Slot). slots_here m ++ ss) (slots_told ms)

members_told : (ms : List LabelledMember) → map blank_member (map member_of (map placed_member ms)) ≡ map seen ms
members_told [] = refl
members_told (m ∷ ms) = ap (λ (ks : List Member). seen m ∷ ks) (members_told ms)

-- networks of members that are seen alike
same_seen : (fs : List Factor) (ms ns : List LabelledMember) → map slots_here ms ≡ map slots_here ns → map seen ms ≡ map seen ns → AreSameButEntries (network_of fs ms None []) (network_of fs ns None [])
same_seen fs ms ns e f = record {
  group = refl;
  order = ap (λ (ss : List Slot). positives (ends ss)) (slots_told ms ∙ (ap together e ∙ sym (slots_told ns)));
  twists = refl;
  legs = legs_told ms ∙ (ap together e ∙ sym (legs_told ns));
  members = members_told ms ∙ (f ∙ sym (members_told ns));
}

-- the labelled tensors of a chain are seen like those without their blocks

slots_without : (labels : ℕ → List ℤ) (j : ℕ) (ts : List BlockedValue) → map slots_here (with_labels labels j ts) ≡ map slots_here (with_labels labels j (map shape ts))
slots_without labels j [] = refl
slots_without labels j (t ∷ ts) = ap (λ (ss : List (List Slot)). slots_of t.legs (labels j) ∷ ss) (slots_without labels (suc j) ts)

seen_without : (labels : ℕ → List ℤ) (j : ℕ) (ts : List BlockedValue) → map seen (with_labels labels j ts) ≡ map seen (with_labels labels j (map shape ts))
seen_without labels j [] = refl
seen_without labels j (t ∷ ts) = ap₂ (λ (k : Member) (ks : List Member). k ∷ ks) refl (seen_without labels (suc j) ts)

abbrev operators : ℕ → List BlockedValue → List LabelledMember
operators n ts = with_labels (operator_labels expect_upper expect_lower expect_op n) 0 ts

shapes_long : (ts : List BlockedValue) → length (map shape ts) ≡ length ts
shapes_long [] = refl
shapes_long (t ∷ ts) = ap suc (shapes_long ts)

long : (ts us : List BlockedValue) → map shape ts ≡ map shape us → length ts ≡ length us
long ts us e = sym (shapes_long ts) ∙ (ap (λ (ks : List BlockedValue). length ks) e ∙ shapes_long us)

operator_slots : (ts us : List BlockedValue) → map shape ts ≡ map shape us → map slots_here (operators (length ts) ts) ≡ map slots_here (operators (length us) us)
operator_slots ts us e =
    slots_without (operator_labels expect_upper expect_lower expect_op (length ts)) 0 ts
    ∙ (ap₂ (λ n (ks : List BlockedValue). map slots_here (operators n ks)) (long ts us e) e
    ∙ sym (slots_without (operator_labels expect_upper expect_lower expect_op (length us)) 0 us))

operator_seen : (ts us : List BlockedValue) → map shape ts ≡ map shape us → map seen (operators (length ts) ts) ≡ map seen (operators (length us) us)
operator_seen ts us e =
    seen_without (operator_labels expect_upper expect_lower expect_op (length ts)) 0 ts
    ∙ (ap₂ (λ n (ks : List BlockedValue). map seen (operators n ks)) (long ts us e) e
    ∙ sym (seen_without (operator_labels expect_upper expect_lower expect_op (length us)) 0 us))

between : {A : Type 0} (f : LabelledMember → A) (xs ys zs ws : List LabelledMember) → map f ys ≡ map f zs → map f (xs ++ (ys ++ ws)) ≡ map f (xs ++ (zs ++ ws))
between f xs ys zs ws e =
    map-append f xs (ys ++ ws) ∙ (ap (λ l. map f xs ++ l) (map-append f ys ws ∙ (ap (λ l. l ++ map f ws) e ∙ sym (map-append f zs ws))) ∙ sym (map-append f xs (zs ++ ws)))

-- the networks of an expectation by operators whose tensors differ at most in their blocks
pub same_expect : (fs : List Factor) (cs ts us ket : List BlockedValue) → map shape ts ≡ map shape us → AreSameButEntries (expect_network fs cs ts ket) (expect_network fs cs us ket)
same_expect fs cs ts us ket e =
    let bras : List LabelledMember = back_with_labels (state_labels expect_upper expect_bra (length cs)) cs in
    let kets : List LabelledMember = with_labels (state_labels expect_lower expect_ket (length ket)) 0 ket in
    same_seen fs (expect_members cs ts ket) (expect_members cs us ket)
    (between slots_here bras (operators (length ts) ts) (operators (length us) us) kets (operator_slots ts us e))
    (between seen bras (operators (length ts) ts) (operators (length us) us) kets (operator_seen ts us e))

-- the skeleton is the automaton without its blocks

shapes_twice : (v : SumValue) (ks : List ℕ) → map shape (map (λ k. shape (site_tensor v k)) ks) ≡ map shape (map (site_tensor v) ks)
shapes_twice v [] = refl
shapes_twice v (k ∷ ks) = ap (λ (ts : List BlockedValue). shape (site_tensor v k) ∷ ts) (shapes_twice v ks)

pub skeleton_shape : (v : SumValue) (ts : List BlockedValue) → IsSkeletonOf v ts → map shape ts ≡ map shape (automaton v)
skeleton_shape v ts h =
    ap (map shape) (fill_by_all (λ k. shape (site_tensor v k)) ts (length v.sites) no_tensor h.count each) ∙ shapes_twice v (positions (length v.sites))
  where
    each : (k : ℕ) → k < length v.sites → tensor_at ts k ≡ shape (site_tensor v k)
    each k lt =
        let s = h.shapes k lt in λ i. record { group = s.group i; legs = s.legs i; flux = s.flux i; blocks = h.empty k lt i }
