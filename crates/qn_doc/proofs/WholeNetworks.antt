-- The text of a network is read as the network.
use Rattle.std.proofs.Common.{◌≡◌, ◌<◌, ℕ, zero, suc, List, [], ◌∷◌, ◌++◌, length, map, Some, None, refl, sym, ◌∙◌, ap, ap₂, subst, inl, inr, arith}
use Rattle.std.specs.Prelude.{nat_lt, Result, Ok, Err}
use Rattle.std.specs.Option.{option_map_or, IsSomeAnd}
use Rattle.std.specs.List.{All}
use Rattle.std.proofs.lemmas.Bool.{le-ltb}
use Rattle.std.proofs.lemmas.List.Elements.{All-nil, All-cons, All-head, All-tail}
use Rattle.serde_json.specs.Data.{Data}
use Rattle.qn_charge.specs.declared.factor.Factor.{Factor}
use Rattle.qn_value.specs.Labels.{slots, slots_of, ends, AllPlaced, IsUniform, IsWellLabelled}
use Rattle.qn_block.proofs.Ascending.{filtered_entry}
use Rattle.qn_net.specs.declared.fault.NetFault.{NetFault}
use Rattle.qn_net.specs.declared.fault.NetFault.TheVariants.{Memory as WantOfMemory}
use Rattle.qn_net.specs.Members.{MemberValue, LabelledMember, member_tensor, member_at, placed_member, slots_of_members}
use Rattle.qn_net.specs.Members.MemberValue.{own, fuse, split}
use Rattle.qn_net.specs.NetworkValues.{NetworkValue, PlacedMember, legs_of, open_count, IsOrderOf}
use Rattle.qn_net.specs.Refusals.{IsFaultless, network_of}
use Rattle.qn_net.proofs.OneFault.{no_fault}
use Rattle.qn_parts.specs.declared.fault.Fault.{Fault}
use Rattle.qn_parts.specs.declared.fault.DocFault.{DocFault}
use Rattle.qn_parts.specs.declared.fault.DocFault.TheVariants.{Bad, Memory}
use Rattle.qn_parts.specs.Faults.{fault, fault_if}
use Rattle.qn_parts.specs.Documents.{factors_of}
use Rattle.qn_doc.specs.declared.networks.AnyNet.{AnyNet}
use Rattle.qn_doc.specs.LabelFaults.{placed}
use Rattle.qn_doc.specs.Networks.{members_of, order_of, twist_of, parts_fault, IsLabelFault, IsNetworkOf, ReadsBy, any_network, bytes_fault, IsLabelFaultIn, IsNetworkIn}
use Rattle.qn_doc.specs.NetworkTexts.{network_data}
use Rattle.qn_doc.specs.NetworksReadBack.{IsPrintableMember, IsPrintableValue, canonical_value, canonical_member, HasLabels, IsSameTensor, IsSameMember, AreSameMembers, IsSameNetwork, IsDocumentOf, GivesBack, NetworkTextReadsBack}
use Rattle.qn_doc.proofs.TensorsBack.{none_then}
use Rattle.qn_doc.proofs.NetworksBack.{network_back}
use Rattle.qn_doc.proofs.Faultless.{have_from, good}

-- ---- members without their blocks of zeros

same_legs : (m : MemberValue) → (member_tensor (canonical_value m)).legs ≡ (member_tensor m).legs
same_legs (own t) = refl
same_legs (fuse c) = refl
same_legs (split c) = refl

same_slots : (ms : List LabelledMember) → slots (map (λ (m : PlacedMember). m.placed) (map placed_member ms)) ≡ slots_of_members (map canonical_member ms)
same_slots [] = refl
same_slots (m ∷ ms) = ap₂ (λ ls rest. slots_of ls m.labels ++ rest) (sym (same_legs m.member)) (same_slots ms)

same_arity : (fs : List Factor) (ms : List LabelledMember) → AllPlaced fs (map (λ (m : PlacedMember). m.placed) (map placed_member ms)) → (i : ℕ) → i < length (map canonical_member ms) →
    length (member_at (map canonical_member ms) i).labels ≡ length (member_tensor (member_at (map canonical_member ms) i).member).legs
same_arity fs [] h i l = absurd (omega arith)
same_arity fs (m ∷ ms) h zero l = h.0.labels ∙ ap length (sym (same_legs m.member))
same_arity fs (m ∷ ms) h (suc i) l = same_arity fs ms h.1 i (omega arith)

same_labels : (ms : List LabelledMember) → All HasLabels ms → All HasLabels (map canonical_member ms)
same_labels [] h = All-nil HasLabels
same_labels (m ∷ ms) h = All-cons HasLabels (canonical_member m) (map canonical_member ms) (All-head HasLabels m ms h) (same_labels ms (All-tail HasLabels m ms h))

same_member : (fs : List Factor) (m : LabelledMember) → IsPrintableMember fs m → IsSameMember (placed_member (canonical_member m)) (placed_member m)
same_member fs m h = record { tensor = tensor m.member h.value; labels = refl; role = role m.member }
  where
    tensor : (v : MemberValue) → IsPrintableValue fs v → IsSameTensor (member_tensor (canonical_value v)) (member_tensor v)
    tensor (own t) p = record { group = refl; legs = refl; flux = refl; entries = λ xs. filtered_entry t _ xs p.1.blocked refl }
    tensor (fuse c) p = record { group = refl; legs = refl; flux = refl; entries = λ xs. refl }
    tensor (split c) p = record { group = refl; legs = refl; flux = refl; entries = λ xs. refl }

    role : (v : MemberValue) → (placed_member (record { member = canonical_value v; labels = m.labels })).role ≡ (placed_member (record { member = v; labels = m.labels })).role
    role (own t) = refl
    role (fuse c) = refl
    role (split c) = refl

same_members : (fs : List Factor) (ms : List LabelledMember) → All (IsPrintableMember fs) ms → AreSameMembers (map placed_member (map canonical_member ms)) (map placed_member ms)
same_members fs [] h = tt
same_members fs (m ∷ ms) h =
    (same_member fs m (All-head (IsPrintableMember fs) m ms h), same_members fs ms (All-tail (IsPrintableMember fs) m ms h))

-- ---- the text

module _ (net : NetworkValue) (text : List ℕ) (h : IsDocumentOf net text) where
  abbrev ms : List LabelledMember
  ms = h.written.members

  abbrev ns : List LabelledMember
  ns = map canonical_member ms

  abbrev d : Data
  d = network_data net.group net.order ms net.twists

  back : (parts_fault d ≡ None) × (factors_of d ≡ net.group) × (members_of d ≡ ns) × (order_of d ≡ Some net.order) × (twist_of d ≡ net.twists)
  back = network_back net.group net.order ms net.twists h.printable

  -- the legs of the network with their labels
  legs_are : legs_of net ≡ slots_of_members ns
  legs_are = ap (λ ps. slots (map (λ (m : PlacedMember). m.placed) ps)) (sym h.written.are) ∙ same_slots ms

  faultless : IsFaultless ns (Some net.order) net.twists
  faultless =
      good ns net.order net.twists
      (have_from ns (same_arity net.group ms (subst (λ ps. AllPlaced net.group (map (λ (m : PlacedMember). m.placed) ps)) (sym h.written.are) h.network.placed)) (same_labels ms h.labels))
      (subst (λ ss. IsWellLabelled (ends ss) (open_count (ends ss))) legs_are h.network.labelled)
      (subst IsUniform legs_are h.network.uniform)
      (subst (λ ss. IsOrderOf (ends ss) net.order) legs_are h.network.order)
      h.network.twists h.network.ascending

  means_faultless : IsFaultless (members_of d) (order_of d) (twist_of d)
  means_faultless = subst (λ ks. IsFaultless ks (order_of d) (twist_of d)) (sym back.2) (subst (λ o. IsFaultless ns o (twist_of d)) (sym back.3) (subst (IsFaultless ns (Some net.order)) (sym back.4) faultless))

  no_parts_fault : bytes_fault text ≡ None
  no_parts_fault =
      none_then (fault_if (nat_lt 67108864 (length text)) (fault 1 0 0 0)) _ (ap (λ b. fault_if b (fault 1 0 0 0)) (le-ltb 67108864 (length text) h.short))
      (ap (λ o. option_map_or parts_fault o (Some (fault 2 0 0 0))) h.written.tree ∙ back.0)

  no_label_fault : (f : Fault) → IsLabelFaultIn text f → ⊥
  no_label_fault f w = go (subst (λ o. IsSomeAnd o (λ k. IsLabelFault k f)) h.written.tree w)
    where
      no_memory : (e : NetFault) → placed e ≡ Some f → e ≡ WantOfMemory → ⊥
      no_memory e p q = none (sym (ap placed q) ∙ p)
        where
          none : None ≡ Some f → ⊥
          none r = cc

      go : IsLabelFault d f → ⊥
      go k = no_fault (members_of d) (order_of d) (twist_of d) k.0 (no_memory k.0 k.1) means_faultless k.2

  is_same : (n : NetworkValue) → IsNetworkOf d n → IsSameNetwork n net
  is_same n k = record {
    group = ap (λ (v : NetworkValue). v.group) is;
    members = subst (λ ps. AreSameMembers ps net.members) (sym (ap (λ (v : NetworkValue). v.members) is)) (subst (AreSameMembers (map placed_member ns)) h.written.are (same_members net.group ms h.printable.members));
    order = ap (λ (v : NetworkValue). v.order) is;
    twists = ap (λ (v : NetworkValue). v.twists) is;
  }
    where
      is : n ≡ network_of net.group ns (Some net.order) net.twists
      is = k.is ∙ (λ i. network_of (back.1 i) (back.2 i) (back.3 i) (back.4 i))

  gives_back : (answer : Result AnyNet DocFault) → ReadsBy (bytes_fault text) (IsLabelFaultIn text) (IsNetworkIn text) answer → GivesBack net answer
  gives_back (Ok any) r = is_same (any_network any) (subst (λ o. IsSomeAnd o (λ k. IsNetworkOf k (any_network any))) h.written.tree r.1)
  gives_back (Err (Bad f)) (inl p) = none (sym no_parts_fault ∙ p)
    where
      none : None ≡ Some f → ⊥
      none q = cc
  gives_back (Err (Bad f)) (inr p) = no_label_fault f p.1
  gives_back (Err Memory) r = tt

pub text_reads_back : NetworkTextReadsBack
text_reads_back net text h = gives_back net text h
