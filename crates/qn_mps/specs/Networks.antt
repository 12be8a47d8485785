-- The networks of chains as they are held.
use Rattle.std.specs.Prelude.{◌≡◌, ℕ, ℤ, None, List, [], ◌++◌, reverse}
use Rattle.qn_block.specs.Blocked.{BlockedValue, IsConjugate, tensor_of}
use Rattle.qn_net.specs.Members.{LabelledMember}
use Rattle.qn_net.specs.Members.MemberValue.{own}
use Rattle.qn_net.specs.NetworkValues.{NetworkValue}
use Rattle.qn_net.specs.Refusals.{network_of}
use Rattle.qn_braket.specs.Chains.{AreConjugates, back_with_labels, state_members, operator_members, overlap_members, expect_members}
use Rattle.qn_mps.specs.declared.chain.ChainKind.{ChainKind}
use Rattle.qn_mps.specs.declared.chain.ChainKind.TheVariants.{State, Operator}
use Rattle.qn_mps.specs.Chains.{ChainValue}

abbrev pub members_of_kind : ChainKind → List BlockedValue → List LabelledMember
members_of_kind State ts = state_members ts
members_of_kind Operator ts = operator_members ts

-- the tensors of a chain with the labels of its own network
abbrev pub chain_members : ChainValue → List LabelledMember
chain_members c = members_of_kind c.kind c.tensors

-- the network of a chain alone, whose values are a state's amplitudes, or an operator's matrix elements
abbrev pub chain_network : ChainValue → NetworkValue
chain_network c = network_of c.group (chain_members c) None []

-- the conjugate of a tensor, with these labels in reversed order
abbrev pub IsConjugateMember : BlockedValue → List ℤ → LabelledMember → Type 0
IsConjugateMember t labels m = (c : BlockedValue) × IsConjugate (tensor_of t) (tensor_of c) × (m ≡ record { member = own c; labels = reverse labels })

-- to the members came the conjugates of these tensors, from the last to the first, each with its labels in reversed order
abbrev pub HasConjugates : (ℕ → List ℤ) → List BlockedValue → List LabelledMember → List LabelledMember → Type 0
HasConjugates labels ts old new = (conjugates : List BlockedValue) × AreConjugates ts conjugates × (new ≡ old ++ back_with_labels labels conjugates)

-- the members of the network of an overlap
abbrev pub AreOverlapMembers : List BlockedValue → List BlockedValue → List LabelledMember → Type 0
AreOverlapMembers bra ket ms = (conjugates : List BlockedValue) × AreConjugates bra conjugates × (ms ≡ overlap_members conjugates ket)

-- and of an expectation
abbrev pub AreExpectMembers : List BlockedValue → List BlockedValue → List BlockedValue → List LabelledMember → Type 0
AreExpectMembers bra op ket ms = (conjugates : List BlockedValue) × AreConjugates bra conjugates × (ms ≡ expect_members conjugates op ket)
