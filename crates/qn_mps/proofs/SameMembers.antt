-- Members that differ at most in how the rows of their tensors are listed make the same network.
use Rattle.std.proofs.Common.{◌≡◌, ℕ, suc, ℤ, None, List, [], ◌∷◌, ◌++◌, length, map, reverse, refl, sym, ◌∙◌, ap, ap₂, subst}
use mathlib.Core.Path.{fun_ext}
use Rattle.std.proofs.lemmas.List.{reverse-reverse}
use Rattle.qn_gauss.specs.Gaussian.{Gaussian}
use Rattle.qn_charge.specs.declared.factor.Factor.{Factor}
use Rattle.qn_charge.specs.Charges.{parity}
use Rattle.qn_index.specs.Legs.{LegValue}
use Rattle.qn_value.specs.Networks.{End, Node, flat, at_values}
use Rattle.qn_value.specs.Tensors.{TensorValue, entry_of}
use Rattle.qn_value.specs.Labels.{Slot, slots_of, slots, ends, node_of, parity_of, sectors_on, bonds_of, opens_of}
use Rattle.qn_block.specs.Blocked.{BlockedValue, IsConjugate, tensor_of}
use Rattle.qn_block.proofs.Mirror.{reverse_cons}
use Rattle.qn_net.specs.Groups.{Member}
use Rattle.qn_net.specs.Steps.{Step}
use Rattle.qn_net.specs.Plans.{plan, first_state}
use Rattle.qn_net.specs.Parts.{part}
use Rattle.qn_net.specs.Passing.{first_passing_step}
use Rattle.qn_net.specs.Members.{LabelledMember, placed_member, slots_of_members, ends_of_members}
use Rattle.qn_net.specs.Members.MemberValue.{own}
use Rattle.qn_net.specs.NetworkValues.{NetworkValue, member_of, open_count}
use Rattle.qn_net.specs.Refusals.{network_of, positives}
use Rattle.qn_braket.specs.ChainLabels.{state_labels, operator_labels, overlap_site, overlap_bra, overlap_ket, expect_upper, expect_lower, expect_bra, expect_op, expect_ket}
use Rattle.qn_braket.specs.Chains.{AreConjugates, with_labels, back_with_labels, overlap_members, overlap_network, expect_members, expect_network}
use Rattle.qn_mps.specs.SameNetworks.{IsSameNetwork, SameOverlapLaw, SameExpectLaw}
use Rattle.qn_braket.proofs.ChainLists.{conjugates_long}

-- the legs of a member, each with its label
abbrev slots_here : LabelledMember → List Slot
slots_here m = slots_of (placed_member m).placed.tensor.legs m.labels

record IsSameMember (m n : LabelledMember) : Type 0 where
  slots : slots_here m ≡ slots_here n
  seen : member_of (placed_member m) ≡ member_of (placed_member n)

abbrev AreSame : List LabelledMember → List LabelledMember → Type 0
AreSame [] [] = Unit {0}
AreSame [] (n ∷ ns) = ⊥
AreSame (m ∷ ms) [] = ⊥
AreSame (m ∷ ms) (n ∷ ns) = IsSameMember m n × AreSame ms ns

same_itself : (ms : List LabelledMember) → AreSame ms ms
same_itself [] = tt
same_itself (m ∷ ms) = (record { slots = refl; seen = refl }, same_itself ms)

same-append : (ms ns ks ls : List LabelledMember) → AreSame ms ns → AreSame ks ls → AreSame (ms ++ ks) (ns ++ ls)
same-append [] [] ks ls h k = k
same-append [] (n ∷ ns) ks ls h k = absurd h
same-append (m ∷ ms) [] ks ls h k = absurd h
same-append (m ∷ ms) (n ∷ ns) ks ls h k = (h.0, same-append ms ns ks ls h.1 k)

same-reverse : (ms ns : List LabelledMember) → AreSame ms ns → AreSame (reverse ms) (reverse ns)
same-reverse [] [] h = tt
same-reverse [] (n ∷ ns) h = absurd h
same-reverse (m ∷ ms) [] h = absurd h
same-reverse (m ∷ ms) (n ∷ ns) h =
    subst (λ xs. AreSame xs (reverse (n ∷ ns))) (sym (reverse_cons m ms))
    (subst (AreSame (reverse ms ++ (m ∷ []))) (sym (reverse_cons n ns)) (same-append (reverse ms) (reverse ns) (m ∷ []) (n ∷ []) (same-reverse ms ns h.1) (h.0, tt)))

-- two conjugates of one tensor

same_entries : (t c d : TensorValue) → IsConjugate t c → IsConjugate t d → entry_of c ≡ entry_of d
same_entries t c d h k =
    fun_ext (λ xs. ap (entry_of c) (sym (reverse-reverse xs)) ∙ h.entries (reverse xs) ∙ sym (k.entries (reverse xs)) ∙ ap (entry_of d) (reverse-reverse xs))

same_conjugates : (t c d : BlockedValue) (ls : List ℤ) → IsConjugate (tensor_of t) (tensor_of c) → IsConjugate (tensor_of t) (tensor_of d) →
    IsSameMember (record { member = own c; labels = ls }) (record { member = own d; labels = ls })
same_conjugates t c d ls h k =
    let legs : c.legs ≡ d.legs = h.legs ∙ sym k.legs in
    let group : c.group ≡ d.group = h.group ∙ sym k.group in
    let flux : c.flux ≡ d.flux = h.flux ∙ sym k.flux in
    let entries = same_entries (tensor_of t) (tensor_of c) (tensor_of d) h k in
    record {
      slots = ap (λ (gs : List LegValue). slots_of gs ls) legs;
      seen = λ i. record {
        node = record { ends = ends (slots_of (legs i) ls); entry = entries i; odd = parity (group i) (flux i) };
        flux = flux i;
        role = (member_of (placed_member (record { member = own c; labels = ls }))).role;
      };
    }

same_with : (labels : ℕ → List ℤ) (j : ℕ) (ts cs ds : List BlockedValue) → AreConjugates ts cs → AreConjugates ts ds → AreSame (with_labels labels j cs) (with_labels labels j ds)
same_with labels j [] [] [] h k = tt
same_with labels j [] (c ∷ cs) ds h k = absurd h
same_with labels j [] [] (d ∷ ds) h k = absurd k
same_with labels j (t ∷ ts) [] ds h k = absurd h
same_with labels j (t ∷ ts) (c ∷ cs) [] h k = absurd k
same_with labels j (t ∷ ts) (c ∷ cs) (d ∷ ds) h k = (same_conjugates t c d (labels j) h.0 k.0, same_with labels (suc j) ts cs ds h.1 k.1)

same_back : (site link : ℕ → ℤ) (ts cs ds : List BlockedValue) → AreConjugates ts cs → AreConjugates ts ds →
    AreSame (back_with_labels (state_labels site link (length cs)) cs) (back_with_labels (state_labels site link (length ds)) ds)
same_back site link ts cs ds h k =
    subst (λ n. AreSame (back_with_labels (state_labels site link (length cs)) cs) (back_with_labels (state_labels site link n) ds)) (conjugates_long ts cs h ∙ sym (conjugates_long ts ds k))
    (same-reverse (with_labels (λ j. reverse (state_labels site link (length cs) j)) 0 cs) (with_labels (λ j. reverse (state_labels site link (length cs) j)) 0 ds)
    (same_with (λ j. reverse (state_labels site link (length cs) j)) 0 ts cs ds h k))

-- the same members make the same network

same_slots : (ms ns : List LabelledMember) → AreSame ms ns → slots_of_members ms ≡ slots_of_members ns
same_slots [] [] h = refl
same_slots [] (n ∷ ns) h = absurd h
same_slots (m ∷ ms) [] h = absurd h
same_slots (m ∷ ms) (n ∷ ns) h = ap₂ (λ (xs ys : List Slot). xs ++ ys) h.0.slots (same_slots ms ns h.1)

same_legs : (ms ns : List LabelledMember) → AreSame ms ns → slots (map (λ m. m.placed) (map placed_member ms)) ≡ slots (map (λ m. m.placed) (map placed_member ns))
same_legs [] [] h = refl
same_legs [] (n ∷ ns) h = absurd h
same_legs (m ∷ ms) [] h = absurd h
same_legs (m ∷ ms) (n ∷ ns) h = ap₂ (λ (xs ys : List Slot). xs ++ ys) h.0.slots (same_legs ms ns h.1)

same_members : (ms ns : List LabelledMember) → AreSame ms ns → map member_of (map placed_member ms) ≡ map member_of (map placed_member ns)
same_members [] [] h = refl
same_members [] (n ∷ ns) h = absurd h
same_members (m ∷ ms) [] h = absurd h
same_members (m ∷ ms) (n ∷ ns) h = ap₂ (λ (x : Member) (xs : List Member). x ∷ xs) h.0.seen (same_members ms ns h.1)

same_nodes : (ms ns : List LabelledMember) → AreSame ms ns → map node_of (map (λ m. m.placed) (map placed_member ms)) ≡ map node_of (map (λ m. m.placed) (map placed_member ns))
same_nodes [] [] h = refl
same_nodes [] (n ∷ ns) h = absurd h
same_nodes (m ∷ ms) [] h = absurd h
same_nodes (m ∷ ms) (n ∷ ns) h = ap₂ (λ (x : Node) (xs : List Node). x ∷ xs) (ap (λ (k : Member). k.node) h.0.seen) (same_nodes ms ns h.1)

-- the steps, the value and the passing place, from what is seen of the members

abbrev steps_by : List Factor → List ℤ → List Slot → List Member → List ℤ → List Step
steps_by fs order ss ms tw = plan (parity_of fs ss) order (first_state ms (bonds_of tw ss))

abbrev value_by : List Factor → List Slot → List Node → List ℕ → Gaussian
value_by fs ss ns xs =
    let opens : List End = opens_of (ends ss) (open_count (ends ss)) in
    flat (parity_of fs ss) ns (bonds_of [] ss) opens (at_values opens xs)

same_network : (fs : List Factor) (ms ns : List LabelledMember) → AreSame ms ns → IsSameNetwork (network_of fs ms None []) (network_of fs ns None [])
same_network fs ms ns h =
    let order : positives (ends_of_members ms) ≡ positives (ends_of_members ns) = ap (λ (ss : List Slot). positives (ends ss)) (same_slots ms ns h) in
    let legs = same_legs ms ns h in
    let members = same_members ms ns h in
    let nodes = same_nodes ms ns h in
    record {
      group = refl;
      order = order;
      twists = refl;
      legs = legs;
      members = members;
      values = λ xs i. value_by fs (legs i) (nodes i) xs;
      steps = λ i. steps_by fs (order i) (legs i) (members i) [];
      passing = λ i. first_passing_step (parity_of fs (legs i)) (sectors_on (legs i)) (part (parity_of fs (legs i))) 1 (steps_by fs (order i) (legs i) (members i) []);
    }

same_via : (m n p q : NetworkValue) → m ≡ p → n ≡ q → IsSameNetwork p q → IsSameNetwork m n
same_via m n p q e f h = subst (λ x. IsSameNetwork x n) (sym e) (subst (IsSameNetwork p) (sym f) h)

pub same_overlap : SameOverlapLaw
same_overlap fs bra ket m n h k =
    same_via m n (overlap_network fs h.0 ket) (overlap_network fs k.0 ket) h.2 k.2
    (same_network fs (overlap_members h.0 ket) (overlap_members k.0 ket)
    (same-append (back_with_labels (state_labels overlap_site overlap_bra (length h.0)) h.0) (back_with_labels (state_labels overlap_site overlap_bra (length k.0)) k.0)
    (with_labels (state_labels overlap_site overlap_ket (length ket)) 0 ket) (with_labels (state_labels overlap_site overlap_ket (length ket)) 0 ket)
    (same_back overlap_site overlap_bra bra h.0 k.0 h.1 k.1) (same_itself (with_labels (state_labels overlap_site overlap_ket (length ket)) 0 ket))))

pub same_expect : SameExpectLaw
same_expect fs bra op ket m n h k =
    let others : List LabelledMember =
    with_labels (operator_labels expect_upper expect_lower expect_op (length op)) 0 op ++ with_labels (state_labels expect_lower expect_ket (length ket)) 0 ket in
    same_via m n (expect_network fs h.0 op ket) (expect_network fs k.0 op ket) h.2 k.2
    (same_network fs (expect_members h.0 op ket) (expect_members k.0 op ket)
    (same-append (back_with_labels (state_labels expect_upper expect_bra (length h.0)) h.0) (back_with_labels (state_labels expect_upper expect_bra (length k.0)) k.0)
    others others (same_back expect_upper expect_bra bra h.0 k.0 h.1 k.1) (same_itself others)))
