-- The text of the network of the chain that was built is that of the automaton.
use Rattle.std.proofs.Common.{[], ◌≡◌, ◌-◌, ℕ, None, List, length, ◌∙◌, ap, subst}
use Rattle.std.specs.List.{All}
use Rattle.qn_charge.specs.declared.factor.Factor.{Factor}
use Rattle.qn_block.specs.Blocked.{BlockedValue, IsBlocked}
use Rattle.qn_opsum.specs.Sums.{SumValue}
use Rattle.qn_braket.specs.Chains.{operator_members, operator_network}
use Rattle.qn_braket.specs.ChainLabels.{operator_labels, own_upper, own_lower, own_link}
use Rattle.qn_mps.specs.Chains.{ChainValue, IsHeld}
use Rattle.qn_mps.specs.Networks.{chain_network, members_of_kind}
use Rattle.qn_mps.specs.declared.chain.ChainKind.{ChainKind}
use Rattle.qn_net.specs.NetworkValues.{NetworkValue}
use Rattle.qn_net.specs.Refusals.{network_of}
use Rattle.qn_json.specs.Texts.{line_of}
use Rattle.qn_doc.specs.NetworkTexts.{network_data, IsTextOf}
use Rattle.qn_mpo.specs.Builds.{IsBuilt}
use Rattle.qn_cli.specs.Operators.{operator_text}
use Rattle.qn_cli.proofs.Automata.{tensors_are, chain_blocked}
use Rattle.qn_cli.proofs.OneText.{text_told}

abbrev text_with : List Factor → List BlockedValue → List ℕ
text_with fs ts = line_of (network_data fs (operator_network fs ts).order (operator_members ts) [])

told_text : (fs : List Factor) (ts : List BlockedValue) (text : List ℕ) → All IsBlocked ts → IsTextOf (operator_network fs ts) text → text ≡ text_with fs ts
told_text fs ts text k w = text_told fs (operator_labels own_upper (own_lower (length ts - 1)) own_link (length ts)) ts text k w

chain_is : (v : SumValue) (c : ChainValue) → IsBuilt v c → chain_network c ≡ operator_network v.group c.tensors
chain_is v c b = ap (λ (k : ChainKind). network_of c.group (members_of_kind k c.tensors) None []) b.on.kind ∙ ap (λ fs. operator_network fs c.tensors) b.on.group

pub built_text : (v : SumValue) (c : ChainValue) (text : List ℕ) → IsHeld c → IsBuilt v c → IsTextOf (chain_network c) text → text ≡ operator_text v
built_text v c text h b w =
    told_text v.group c.tensors text (chain_blocked c h) (subst (λ (n : NetworkValue). IsTextOf n text) (chain_is v c b) w) ∙ ap (text_with v.group) (tensors_are v c h b)
