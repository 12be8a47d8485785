-- Readers whose later faults are told by a relation.
use Rattle.std.proofs.Common.{◌≡◌, List, inl, subst, ◌∙◌, ℤ}
use Rattle.std.specs.Prelude.{Option, Some, None}
use Rattle.std.specs.Option.{option_or}
use Rattle.qn_parts.specs.declared.fault.Fault.{Fault}
use Rattle.qn_parts.specs.declared.fault.DocFault.{DocFault}
use Rattle.qn_parts.specs.declared.fault.DocFault.TheVariants.{Bad, Memory}
use Rattle.qn_parts.specs.Faults.{Fails}
use Rattle.serde_json.specs.Data.{Data}
use Rattle.qn_charge.specs.declared.factor.Factor.{Factor}
use Rattle.std.specs.List.{All}
use Rattle.std.proofs.lemmas.List.Elements.{All-weaker}
use Rattle.qn_net.specs.Members.{LabelledMember, IsMemberOf}
use Rattle.qn_doc.specs.Members.{IsInNetwork}
use Rattle.qn_net.specs.NetworkValues.{NetworkValue}
use Rattle.qn_net.specs.Refusals.{IsFaultless, network_of}
use Rattle.qn_parts.specs.Documents.{factors_of}
use Rattle.qn_doc.specs.Networks.{FailsBy, members_of, order_of, twist_of, IsNetworkOf}
use Rattle.qn_parts.proofs.BlockWalk.{or_first}

-- a fault of the parts
pub fails_early : (first : Option Fault) (Later : Fault → Type 0) (e : DocFault) → Fails e first → FailsBy first Later e
fails_early first Later (Bad f) h = inl h
fails_early first Later Memory h = tt

-- a fault of the or_first of two walks
pub fails_first : (a b : Option Fault) (Later : Fault → Type 0) (e : DocFault) → Fails e a → FailsBy (option_or a b) Later e
fails_first a b Later (Bad f) h = inl (or_first a b f h)
fails_first a b Later Memory h = tt

-- a fault of the later of two walks, where the or_first finds none
pub fails_then : (a b : Option Fault) (Later : Fault → Type 0) (e : DocFault) → a ≡ None → FailsBy b Later e → FailsBy (option_or a b) Later e
fails_then None b Later e is h = h
fails_then (Some x) b Later e is h = cc

-- members without a fault are the network that is meant
pub network_means : (d : Data) (fs : List Factor) (ms : List LabelledMember) (o : Option (List ℤ)) (tw : List ℤ) (n : NetworkValue) → fs ≡ factors_of d → ms ≡ members_of d → o ≡ order_of d → tw ≡ twist_of d
    → n ≡ network_of fs ms o tw → IsFaultless ms o tw → IsNetworkOf d n
network_means d fs ms o tw n a b c t is h = record {
  is = is ∙ (λ i. network_of (a i) (b i) (c i) (t i));
  faultless = subst (IsFaultless (members_of d) (order_of d)) t (subst (λ x. IsFaultless (members_of d) x tw) c (subst (λ x. IsFaultless x o tw) b h));
}

member_in : (fs : List Factor) (m : LabelledMember) → IsInNetwork fs m → IsMemberOf fs m
unfolding IsInNetwork
member_in fs m h = h

pub all_in_network : (fs : List Factor) (ms : List LabelledMember) → All (IsInNetwork fs) ms → All (IsMemberOf fs) ms
all_in_network fs ms all = All-weaker (IsInNetwork fs) (IsMemberOf fs) (member_in fs) ms all
