-- The networks of overlap and expectation, from their members.
use Rattle.std.proofs.Common.{◌≡◌, ◌≤◌, ◌<◌, ◌+◌, None, List, [], ◌∷◌, ◌++◌, length, append_assoc, refl, sym, ◌∙◌, ap, ap₂, subst, arith}
use Rattle.std.specs.List.{All}
use Rattle.std.proofs.lemmas.List.{length-append}
use Rattle.std.proofs.lemmas.List.Elements.{All-append}
use Rattle.qn_charge.specs.declared.factor.Factor.{Factor}
use Rattle.qn_charge.specs.Charges.{sum_charge, neg_charge}
use Rattle.qn_index.specs.Legs.{LegValue}
use Rattle.qn_block.specs.Blocked.{BlockedValue}
use Rattle.qn_net.specs.Members.{LabelledMember, IsMemberOf}
use Rattle.qn_net.specs.NetworkValues.{NetworkValue, value}
use Rattle.qn_net.specs.Refusals.{IsFaultless, network_of}
use Rattle.qn_braket.specs.ChainLabels.{state_labels, operator_labels, overlap_site, overlap_bra, overlap_ket, expect_upper, expect_lower, expect_bra, expect_op, expect_ket}
use Rattle.qn_braket.specs.Chains.{IsChain, IsStateChain, IsOperatorChain, IsOverlapNetwork, IsExpectNetwork, with_labels, back_with_labels, overlap_members, expect_members, chain_flux, element, overlap, expectation}
use Rattle.qn_braket.specs.ChainLaws.{OverlapNetworkLaw, OverlapFaultlessLaw, OverlapFluxLaw, ExpectNetworkLaw, ExpectFaultlessLaw, ExpectFluxLaw, ChainFaultlessLaw, network_flux}
use Rattle.qn_mps.specs.declared.chain.ChainKind.{ChainKind}
use Rattle.qn_mps.specs.declared.chain.ChainKind.TheVariants.{State, Operator}
use Rattle.qn_mps.specs.declared.labels.Line.TheVariants.{Shared}
use Rattle.qn_mps.specs.Chains.{ChainValue, IsHeld, legs_of}
use Rattle.qn_mps.specs.Labels.{labels_at}
use Rattle.qn_mps.specs.Networks.{HasConjugates, AreOverlapMembers, AreExpectMembers, chain_members, members_of_kind}
use Rattle.qn_mps.proofs.Room.{HasRoom, IsReady, members_are, back_members_are, members_long, back_members_long, conjugates_room, chain_room, chain_long}
use Rattle.qn_braket.proofs.ChainLists.{conjugates_long}

-- the members that the code makes

pub overlap_made : (bra ket : List BlockedValue) (none first second : List LabelledMember) → none ≡ [] →
    HasConjugates (labels_at (Shared 3 1 ∷ []) (Shared 3 2) (length bra)) bra none first →
    second ≡ first ++ with_labels (labels_at (Shared 3 1 ∷ []) (Shared 3 3) (length ket)) 0 ket → AreOverlapMembers bra ket second
overlap_made bra ket none first second z h e = (
  h.0,
  h.1,
  e
      ∙ ap (λ ms. ms ++ with_labels (state_labels overlap_site overlap_ket (length ket)) 0 ket)
      (h.2 ∙ ap (λ ms. ms ++ back_with_labels (state_labels overlap_site overlap_bra (length bra)) h.0) z ∙ ap (λ n. back_with_labels (state_labels overlap_site overlap_bra n) h.0) (sym (conjugates_long bra h.0 h.1))),
)

pub expect_made : (bra op ket : List BlockedValue) (none first second third : List LabelledMember) → none ≡ [] →
    HasConjugates (labels_at (Shared 5 1 ∷ []) (Shared 5 3) (length bra)) bra none first →
    second ≡ first ++ with_labels (labels_at (Shared 5 1 ∷ Shared 5 2 ∷ []) (Shared 5 4) (length op)) 0 op →
    third ≡ second ++ with_labels (labels_at (Shared 5 2 ∷ []) (Shared 5 5) (length ket)) 0 ket → AreExpectMembers bra op ket third
expect_made bra op ket none first second third z h e f = (
  h.0,
  h.1,
  f
      ∙ ap (λ ms. ms ++ with_labels (state_labels expect_lower expect_ket (length ket)) 0 ket)
      (e ∙ ap (λ ms. ms ++ with_labels (operator_labels expect_upper expect_lower expect_op (length op)) 0 op)
      (h.2 ∙ ap (λ ms. ms ++ back_with_labels (state_labels expect_upper expect_bra (length bra)) h.0) z ∙ ap (λ n. back_with_labels (state_labels expect_upper expect_bra n) h.0) (sym (conjugates_long bra h.0 h.1))))
      ∙ append_assoc (back_with_labels (state_labels expect_upper expect_bra (length h.0)) h.0) (with_labels (operator_labels expect_upper expect_lower expect_op (length op)) 0 op)
      (with_labels (state_labels expect_lower expect_ket (length ket)) 0 ket),
)

-- chains that are held are chains

pub as_state : (c : ChainValue) (sites : List LegValue) → IsHeld c → c.kind ≡ State → c.sites ≡ sites → IsStateChain sites c.tensors
as_state c sites h k s = subst (λ (ls : List LegValue). IsStateChain ls c.tensors) s (subst (λ (kind : ChainKind). IsChain (legs_of kind) c.sites c.tensors) k h.chain)

pub as_operator : (c : ChainValue) (sites : List LegValue) → IsHeld c → c.kind ≡ Operator → c.sites ≡ sites → IsOperatorChain sites c.tensors
as_operator c sites h k s = subst (λ (ls : List LegValue). IsOperatorChain ls c.tensors) s (subst (λ (kind : ChainKind). IsChain (legs_of kind) c.sites c.tensors) k h.chain)

same_group : (c : ChainValue) (fs : List Factor) → c.group ≡ fs → IsHeld c → All (λ (t : BlockedValue). t.group ≡ fs) c.tensors
same_group c fs e h k d lt = (h.tensors k d lt).group ∙ e

-- an overlap
module _ (bra ket : ChainValue) (hb : IsHeld bra) (hk : IsHeld ket) (kb : bra.kind ≡ State) (kk : ket.kind ≡ State)
    (g : ket.group ≡ bra.group) (s : ket.sites ≡ bra.sites) (fs : List Factor) (e : fs ≡ bra.group) (ms : List LabelledMember) (made : AreOverlapMembers bra.tensors ket.tensors ms) where
  pub overlap_ready : OverlapFaultlessLaw → IsReady fs ms
  overlap_ready law =
      let cs : List BlockedValue = made.0 in
      let a = back_members_long (state_labels overlap_site overlap_bra (length cs)) cs in
      let b = members_long (state_labels overlap_site overlap_ket (length ket.tensors)) 0 ket.tensors in
      let c = conjugates_long bra.tensors cs made.1 in
      let lb = chain_long bra hb in
      let lk = chain_long ket hk in
      let n : length (overlap_members cs ket.tensors) ≡ length bra.tensors + length ket.tensors =
      length-append (back_with_labels (state_labels overlap_site overlap_bra (length cs)) cs) (with_labels (state_labels overlap_site overlap_ket (length ket.tensors)) 0 ket.tensors) ∙ ap₂ ◌+◌ (a ∙ c) b in
      let some : 0 < length (overlap_members cs ket.tensors) = omega (arith, n, lb.0) in
      let few : length (overlap_members cs ket.tensors) ≤ 256 = omega (arith, n, lb.1, lk.1) in
      subst (IsReady fs) (sym made.2)
      (record {
        some = some;
        few = few;
        members =
            All-append (IsMemberOf fs) (back_with_labels (state_labels overlap_site overlap_bra (length cs)) cs) (with_labels (state_labels overlap_site overlap_ket (length ket.tensors)) 0 ket.tensors)
            (back_members_are fs (state_labels overlap_site overlap_bra (length cs)) cs (conjugates_room fs bra.tensors cs (chain_room bra fs e hb) made.1))
            (members_are fs (state_labels overlap_site overlap_ket (length ket.tensors)) 0 ket.tensors (chain_room ket fs (e ∙ sym g) hk));
        faultless = law bra.sites bra.tensors cs ket.tensors hb.few (as_state bra bra.sites hb kb refl) made.1 (as_state ket bra.sites hk kk s);
      })

  pub overlap_is : (n : NetworkValue) → n ≡ network_of fs ms None [] → IsOverlapNetwork bra.group bra.tensors ket.tensors n
  overlap_is n q = (made.0, made.1, q ∙ ap₂ (λ (gs : List Factor) (xs : List LabelledMember). network_of gs xs None []) e made.2)

  pub overlap_value : OverlapNetworkLaw → (n : NetworkValue) → n ≡ network_of fs ms None [] → value n [] ≡ overlap bra.group bra.sites bra.tensors ket.tensors
  overlap_value law n q = law bra.group bra.sites bra.tensors ket.tensors n (as_state bra bra.sites hb kb refl) (as_state ket bra.sites hk kk s) (overlap_is n q)

  pub overlap_flux : OverlapFluxLaw → (n : NetworkValue) → n ≡ network_of fs ms None [] →
      network_flux n ≡ sum_charge bra.group (chain_flux bra.group ket.tensors) (neg_charge bra.group (chain_flux bra.group bra.tensors))
  overlap_flux law n q = law bra.group bra.tensors ket.tensors n hb.group (same_group bra bra.group refl hb) (overlap_is n q)

-- an expectation
module _ (bra op ket : ChainValue) (hb : IsHeld bra) (ho : IsHeld op) (hk : IsHeld ket) (kb : bra.kind ≡ State) (ko : op.kind ≡ Operator) (kk : ket.kind ≡ State)
    (go : op.group ≡ bra.group) (g : ket.group ≡ bra.group) (so : op.sites ≡ bra.sites) (s : ket.sites ≡ bra.sites) (fs : List Factor) (e : fs ≡ bra.group)
    (ms : List LabelledMember) (made : AreExpectMembers bra.tensors op.tensors ket.tensors ms) where
  pub expect_ready : ExpectFaultlessLaw → IsReady fs ms
  expect_ready law =
      let cs : List BlockedValue = made.0 in
      let first : List LabelledMember = back_with_labels (state_labels expect_upper expect_bra (length cs)) cs in
      let second : List LabelledMember = with_labels (operator_labels expect_upper expect_lower expect_op (length op.tensors)) 0 op.tensors in
      let third : List LabelledMember = with_labels (state_labels expect_lower expect_ket (length ket.tensors)) 0 ket.tensors in
      let a = back_members_long (state_labels expect_upper expect_bra (length cs)) cs in
      let b = members_long (operator_labels expect_upper expect_lower expect_op (length op.tensors)) 0 op.tensors in
      let b' = members_long (state_labels expect_lower expect_ket (length ket.tensors)) 0 ket.tensors in
      let c = conjugates_long bra.tensors cs made.1 in
      let lb = chain_long bra hb in
      let lo = chain_long op ho in
      let lk = chain_long ket hk in
      let n : length (expect_members cs op.tensors ket.tensors) ≡ length bra.tensors + (length op.tensors + length ket.tensors) =
      length-append first (second ++ third) ∙ ap₂ ◌+◌ (a ∙ c) (length-append second third ∙ ap₂ ◌+◌ b b') in
      let some : 0 < length (expect_members cs op.tensors ket.tensors) = omega (arith, n, lb.0) in
      let few : length (expect_members cs op.tensors ket.tensors) ≤ 256 = omega (arith, n, lb.1, lo.1, lk.1) in
      subst (IsReady fs) (sym made.2)
      (record {
        some = some;
        few = few;
        members =
            All-append (IsMemberOf fs) first (second ++ third)
            (back_members_are fs (state_labels expect_upper expect_bra (length cs)) cs (conjugates_room fs bra.tensors cs (chain_room bra fs e hb) made.1))
            (All-append (IsMemberOf fs) second third
            (members_are fs (operator_labels expect_upper expect_lower expect_op (length op.tensors)) 0 op.tensors (chain_room op fs (e ∙ sym go) ho))
            (members_are fs (state_labels expect_lower expect_ket (length ket.tensors)) 0 ket.tensors (chain_room ket fs (e ∙ sym g) hk)));
        faultless =
            law bra.sites bra.tensors cs op.tensors ket.tensors hb.few (as_state bra bra.sites hb kb refl) made.1 (as_operator op bra.sites ho ko so) (as_state ket bra.sites hk kk s);
      })

  pub expect_is : (n : NetworkValue) → n ≡ network_of fs ms None [] → IsExpectNetwork bra.group bra.tensors op.tensors ket.tensors n
  expect_is n q = (made.0, made.1, q ∙ ap₂ (λ (gs : List Factor) (xs : List LabelledMember). network_of gs xs None []) e made.2)

  pub expect_value : ExpectNetworkLaw → (n : NetworkValue) → n ≡ network_of fs ms None [] →
      value n [] ≡ expectation bra.group bra.sites (element bra.group op.tensors) bra.tensors ket.tensors
  expect_value law n q =
      law bra.group bra.sites bra.tensors op.tensors ket.tensors n (as_state bra bra.sites hb kb refl) (as_operator op bra.sites ho ko so) (as_state ket bra.sites hk kk s) (expect_is n q)

  pub expect_flux : ExpectFluxLaw → (n : NetworkValue) → n ≡ network_of fs ms None [] →
      network_flux n ≡ sum_charge bra.group (sum_charge bra.group (chain_flux bra.group op.tensors) (chain_flux bra.group ket.tensors)) (neg_charge bra.group (chain_flux bra.group bra.tensors))
  expect_flux law n q = law bra.group bra.tensors op.tensors ket.tensors n hb.group (same_group bra bra.group refl hb) (expect_is n q)

-- a chain alone

chain_faultless : ChainFaultlessLaw → (kind : ChainKind) (sites : List LegValue) (ts : List BlockedValue) → length sites ≤ 64 → IsChain (legs_of kind) sites ts → IsFaultless (members_of_kind kind ts) None []
chain_faultless law State sites ts l h = (law sites ts l).0 h
chain_faultless law Operator sites ts l h = (law sites ts l).1 h

kind_members : (fs : List Factor) (kind : ChainKind) (ts : List BlockedValue) → All (HasRoom fs) ts → All (IsMemberOf fs) (members_of_kind kind ts) × (length (members_of_kind kind ts) ≡ length ts)
kind_members fs State ts h = (members_are fs _ 0 ts h, members_long _ 0 ts)
kind_members fs Operator ts h = (members_are fs _ 0 ts h, members_long _ 0 ts)

pub chain_ready : ChainFaultlessLaw → (c : ChainValue) → IsHeld c → (fs : List Factor) → fs ≡ c.group → (ms : List LabelledMember) → ms ≡ chain_members c → IsReady fs ms
chain_ready law c h fs e ms q =
    let k = kind_members fs c.kind c.tensors (chain_room c fs e h) in
    let n = k.1 in
    let l = chain_long c h in
    let some : 0 < length (chain_members c) = omega (arith, n, l.0) in
    let few : length (chain_members c) ≤ 256 = omega (arith, n, l.1) in
    subst (IsReady fs) (sym q) (record { some = some; few = few; members = k.0; faultless = chain_faultless law c.kind c.sites c.tensors h.few h.chain })
