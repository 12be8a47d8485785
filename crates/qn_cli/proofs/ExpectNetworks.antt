-- What the network of two states with the automaton between them gives, as the outcome of their expectation.
use Rattle.std.proofs.Common.{◌≡◌, inl, inr, ◌+◌, ℕ, zero, suc, ◌≤◌, ◌<◌, ◌^◌, List, [], length, None, refl, sym, ◌∙◌, ap, subst, arith}
use Rattle.std.specs.List.{sum_by}
use Rattle.qn_charge.specs.Charges.{sum_charge, neg_charge}
use Rattle.qn_charge.specs.Firsts.{HasNone}
use Rattle.qn_index.specs.Legs.{LegValue}
use Rattle.qn_block.specs.Blocked.{BlockedValue}
use Rattle.qn_net.specs.NetworkValues.{NetworkValue, passing_place, value}
use Rattle.qn_opsum.specs.Sums.{SumValue}
use Rattle.qn_auto.specs.SumAutomaton.{IsWideAt, made_of}
use Rattle.qn_paths.specs.Sums.{SumExpectationLaw, site_legs as legs_of_sites, sum_element}
use Rattle.qn_opsum.specs.Refusals.{IsSum}
use Rattle.qn_plan.specs.Planned.{StepValue, first_wide, cost_of_plan, planned}
use Rattle.qn_braket.specs.Chains.{IsChain, IsOperatorChain, IsExpectNetwork, chain_flux, element, expectation, expect_network}
use Rattle.qn_braket.specs.ChainLaws.{network_flux}
use Rattle.qn_mps.specs.SameNetworks.{SameExpectLaw}
use Rattle.qn_mps.specs.Chains.{ChainValue, IsHeld, legs_of}
use Rattle.qn_mps.specs.declared.chain.ChainKind.{ChainKind}
use Rattle.qn_mps.specs.declared.chain.ChainKind.TheVariants.{Operator}
use Rattle.qn_mpo.specs.Builds.{IsOnSites, IsBuilt, IsFrame, IsSkeletonFault}
use Rattle.qn_mpo.specs.declared.fault.BuildFault.TheVariants.{Wide}
use Rattle.qn_parts.specs.TensorTexts.{tensor_text}
use Rattle.qn_parts.specs.declared.fault.Fault.{Fault}
use Rattle.qn_parts.specs.Faults.{fault}
use Rattle.qn_cli.specs.declared.status.Status.{Status}
use Rattle.qn_cli.specs.declared.status.Status.TheVariants.{Done, Usage, Malformed, Passed, ReadFault, WriteFault, Memory}
use Rattle.qn_cli.specs.Networks.{value_tensor, IsWideStep}
use Rattle.qn_cli.specs.Operators.{automaton, IsBuildable}
use Rattle.qn_cli.specs.Brakets.{BraketValue, pair_of, IsExpectOf, IsExpectPlan, IsNarrowExpect, IsWideExpect, IsExpectText, scalar_tensor, expect_flux, expect_text, expectation_of}
use Rattle.qn_cli.specs.States.{ArePair, IsOnStates}
use Rattle.qn_cli.specs.Answers.{HasNarrow, IsWidthRefusal, IsExpectRefusal, IsPlanRefusal, IsValueRefusal, IsBuildRefusal, IsWithinBuild, IsWithinPlan, IsWithinExpect}
use Rattle.qn_cli.proofs.Automata.{tensors_are}
use Rattle.qn_cli.proofs.AutomatonFlux.{automaton_flux}
use Rattle.qn_cli.proofs.Scalars.{scalar_is, expect_closed, expect_group}
use Rattle.qn_cli.proofs.Skeletons.{same_expect, skeleton_shape}
use Rattle.qn_cli.proofs.BlankSteps.{same_width_without_entries, same_plan_without_entries}
use Rattle.qn_cli.proofs.SameSteps.{same_width, same_plan}

-- the network with the skeleton stands for that with the automaton

abbrev with_automaton : (b : BraketValue) (v : SumValue) (ts : List BlockedValue) (net : NetworkValue) → IsExpectNetwork b.group b.bra ts b.ket net → NetworkValue
with_automaton b v ts net p = expect_network b.group p.0 (automaton v) b.ket

width_is : (b : BraketValue) (v : SumValue) (c : ChainValue) (net : NetworkValue) (p : IsExpectNetwork b.group b.bra c.tensors b.ket net) → IsFrame v c
    → first_wide net ≡ first_wide (with_automaton b v c.tensors net p)
width_is b v c net p h =
    ap first_wide p.2
    ∙ same_width_without_entries (expect_network b.group p.0 c.tensors b.ket) (with_automaton b v c.tensors net p) (same_expect b.group p.0 c.tensors (automaton v) b.ket (skeleton_shape v c.tensors h.tensors))

-- the plan of the network with the skeleton is that of the expectation
pub expect_plan : SameExpectLaw → (b : BraketValue) (v : SumValue) (c : ChainValue) (net : NetworkValue) (list : List StepValue) → IsFrame v c → IsExpectNetwork b.group b.bra c.tensors b.ket net
    → list ≡ planned net → length list ≤ 8448 → sum_by (λ (s : StepValue). s.cost) list < 2 ^ 64 → first_wide net ≡ None → IsExpectPlan b v list
expect_plan law b v c net list h p told few bounded narrow = record {
  steps = λ other is.
      let built = with_automaton b v c.tensors net p in
      let same = law b.group b.bra (automaton v) b.ket built other (p.0, p.1, refl) is in
      told
      ∙ (ap planned p.2
      ∙ (same_plan_without_entries (expect_network b.group p.0 c.tensors b.ket) built (same_expect b.group p.0 c.tensors (automaton v) b.ket (skeleton_shape v c.tensors h.tensors)) ∙ same_plan built other same));
  narrow = λ other is.
      let built = with_automaton b v c.tensors net p in
      let same = law b.group b.bra (automaton v) b.ket built other (p.0, p.1, refl) is in
      sym (same_width built other same) ∙ (sym (width_is b v c net p h) ∙ narrow);
  few = few;
  bounded = bounded;
}

-- no step of the network is too wide
pub narrow_expect : (b : BraketValue) (v : SumValue) (c : ChainValue) (net : NetworkValue) → IsFrame v c → IsExpectNetwork b.group b.bra c.tensors b.ket net → HasNone (IsWideAt v)
    → first_wide net ≡ None → (other : NetworkValue) × IsNarrowExpect b v other
narrow_expect b v c net h p none narrow =
    (with_automaton b v c.tensors net p, record { sites = none; network = (p.0, p.1, refl); steps = sym (width_is b v c net p h) ∙ narrow })

-- the first step of the network that is too wide
wide_expect : (b : BraketValue) (v : SumValue) (c : ChainValue) (net : NetworkValue) (f : Fault) → IsFrame v c → IsExpectNetwork b.group b.bra c.tensors b.ket net
    → HasNone (IsWideAt v) → IsWideStep net f → IsWideExpect f b v
wide_expect b v c net f h p none wide =
    inr (none, (with_automaton b v c.tensors net p, (p.0, p.1, refl), (wide.0, sym (width_is b v c net p h) ∙ wide.1, wide.2)))

-- the network of the chain that was built is that of the automaton
pub built_network : (b : BraketValue) (v : SumValue) (c : ChainValue) (net : NetworkValue) → IsHeld c → IsBuilt v c → IsExpectNetwork b.group b.bra c.tensors b.ket net → IsExpectOf b v net
built_network b v c net h built p = subst (λ (ts : List BlockedValue). IsExpectNetwork b.group b.bra ts b.ket net) (tensors_are v c h built) p

-- the number is the tensor's
pub expect_scalar : (b : BraketValue) (v : SumValue) (net : NetworkValue) → IsExpectOf b v net → value net [] ≡ expectation_of b v → network_flux net ≡ expect_flux b v
    → tensor_text (value_tensor net) ≡ tensor_text (scalar_tensor b.group (expect_flux b v) (expectation_of b v))
expect_scalar b v net is number flux =
    ap tensor_text
    (scalar_is net b.group (expect_flux b v) (expectation_of b v) (expect_closed b.group b.bra (automaton v) b.ket net is) (expect_group b.group b.bra (automaton v) b.ket net is) flux number)

-- ---- a chain on the sites of the sum stands on those of the states

pub kind_fits : (v : SumValue) (c : ChainValue) → IsOnSites v c → c.kind ≡ Operator
kind_fits v c on = on.kind

pub groups_fit : (first second : ChainValue) (v : SumValue) (c : ChainValue) → ArePair first second → IsOnStates (pair_of first second) v → IsOnSites v c
    → (c.group ≡ first.group) × (second.group ≡ first.group)
groups_fit first second v c pair fits on = (on.group ∙ fits.group, pair.group)

pub sites_fit : (first second : ChainValue) (v : SumValue) (c : ChainValue) → ArePair first second → IsOnStates (pair_of first second) v → IsOnSites v c
    → (c.sites ≡ first.sites) × (second.sites ≡ first.sites)
sites_fit first second v c pair fits on = (on.sites ∙ fits.sites, pair.sites)

pub frame_on : (v : SumValue) (c : ChainValue) → IsFrame v c → IsOnSites v c
frame_on v c h = h.on

pub built_on : (v : SumValue) (c : ChainValue) → IsBuilt v c → IsOnSites v c
built_on v c h = h.on

-- ---- what the parts of the command give

pub frame_refusal : (b : BraketValue) (v : SumValue) (site : ℕ) (s : Status) → IsSkeletonFault v (Wide site) → s ≡ Malformed (fault 27 0 0 site) → IsWidthRefusal b v s
frame_refusal b v zero s p e = absurd p
frame_refusal b v (suc j) s p e = subst (λ (t : Status). IsWidthRefusal b v t) (sym e) (inl (j, p, refl))

pub step_refusal : (b : BraketValue) (v : SumValue) (c : ChainValue) (net : NetworkValue) (s : Status) → IsFrame v c → IsExpectNetwork b.group b.bra c.tensors b.ket net
    → HasNone (IsWideAt v) → IsPlanRefusal net s → IsWidthRefusal b v s
step_refusal b v c net Done h p none r = r
step_refusal b v c net (Usage word) h p none r = r
step_refusal b v c net (Malformed f) h p none r = wide_expect b v c net f h p none r
step_refusal b v c net (Passed step at offset) h p none r = r
step_refusal b v c net ReadFault h p none r = r
step_refusal b v c net WriteFault h p none r = r
step_refusal b v c net Memory h p none r = r

pub built_value : (b : BraketValue) (v : SumValue) (c : ChainValue) (net : NetworkValue) → SumExpectationLaw → IsSum v → IsOnStates b v → IsHeld c → IsBuilt v c
    → value net [] ≡ expectation b.group b.sites (element b.group c.tensors) b.bra b.ket → value net [] ≡ expectation_of b v
built_value b v c net law sum on held built number =
    let chain : IsOperatorChain (legs_of_sites v) c.tensors =
    subst (λ (ls : List LegValue). IsOperatorChain ls c.tensors) built.on.sites (subst (λ (k : ChainKind). IsChain (legs_of k) c.sites c.tensors) built.on.kind held.chain) in
    let told = law v c.tensors b.bra b.ket sum built.tensors chain in
    number
    ∙ ((λ i. expectation (sym on.group i) (sym on.sites i) (element (sym on.group i) c.tensors) b.bra b.ket)
    ∙ (told ∙ (λ i. expectation (on.group i) (on.sites i) (sum_element v) b.bra b.ket)))

pub built_flux : (b : BraketValue) (v : SumValue) (c : ChainValue) (net : NetworkValue) → IsSum v → IsOnStates b v → IsHeld c → IsBuilt v c
    → network_flux net ≡ sum_charge b.group (sum_charge b.group (chain_flux b.group c.tensors) (chain_flux b.group b.ket)) (neg_charge b.group (chain_flux b.group b.bra))
    → network_flux net ≡ expect_flux b v
built_flux b v c net sum on held built flux =
    let op : chain_flux b.group c.tensors ≡ v.flux =
    ap (λ fs. chain_flux fs c.tensors) (sym on.group) ∙ (ap (chain_flux v.group) (tensors_are v c held built) ∙ automaton_flux v sum) in
    flux ∙ ap (λ q. sum_charge b.group (sum_charge b.group q (chain_flux b.group b.ket)) (neg_charge b.group (chain_flux b.group b.bra))) op

pub expect_told : (b : BraketValue) (v : SumValue) (net : NetworkValue) (text : List ℕ) → IsExpectOf b v net → IsBuildable v
    → value net [] ≡ expectation_of b v → network_flux net ≡ expect_flux b v → first_wide net ≡ None → passing_place net ≡ None → text ≡ tensor_text (value_tensor net)
    → IsExpectText expect_text text b v
expect_told b v net text is built number flux narrow clear told =
    (net, record { sites = built.narrow; network = is; steps = narrow }, built.clear, clear, told ∙ expect_scalar b v net is number flux)

pub width_refused : (b : BraketValue) (v : SumValue) (s : Status) → IsWidthRefusal b v s → IsExpectRefusal b v s
width_refused b v Done p = p
width_refused b v (Usage word) p = p
width_refused b v (Malformed f) p = p
width_refused b v (Passed step at offset) p = absurd p
width_refused b v ReadFault p = p
width_refused b v WriteFault p = p
width_refused b v Memory p = p

pub build_refused : (b : BraketValue) (v : SumValue) (s : Status) → HasNarrow b v → IsBuildRefusal v s → IsExpectRefusal b v s
build_refused b v Done n p = p
build_refused b v (Usage word) n p = p
build_refused b v (Malformed f) n p = inl p
build_refused b v (Passed step at offset) n p = (n.0, n.1, inl p)
build_refused b v ReadFault n p = p
build_refused b v WriteFault n p = p
build_refused b v Memory n p = p

pub value_refused : (b : BraketValue) (v : SumValue) (net : NetworkValue) (s : Status) → IsBuildable v → IsExpectOf b v net → IsValueRefusal net s → IsExpectRefusal b v s
value_refused b v net Done built is p = p
value_refused b v net (Usage word) built is p = p
value_refused b v net (Malformed f) built is p = inr (built.narrow, (net, is, p))
value_refused b v net (Passed step at offset) built is p = (net, record { sites = built.narrow; network = is; steps = p.0 }, inr (built.clear, p))
value_refused b v net ReadFault built is p = p
value_refused b v net WriteFault built is p = p
value_refused b v net Memory built is p = p

-- ---- the multiplications

pub no_expect_yet : (b : BraketValue) (v : SumValue) (before : ℕ) → IsWithinExpect b v before before
unfolding IsWithinExpect
no_expect_yet b v before = inl refl

pub within_build_alone : (b : BraketValue) (v : SumValue) (before now : ℕ) → HasNarrow b v → IsWithinBuild v before now → IsWithinExpect b v before now
unfolding IsWithinBuild IsWithinExpect
within_build_alone b v before now n (inl same) = inl same
within_build_alone b v before now n (inr few) = inr (made_of v + cost_of_plan n.0, (n.0, n.1, refl), omega (arith, few.1))

pub within_both : (b : BraketValue) (v : SumValue) (net : NetworkValue) (before between now : ℕ) → HasNarrow b v → IsBuildable v → IsExpectOf b v net
    → IsWithinBuild v before between → IsWithinPlan net between now → IsWithinExpect b v before now
unfolding IsWithinBuild IsWithinPlan IsWithinExpect
within_both b v net before between now n built is (inl same) (inl still) = inl (still ∙ same)
within_both b v net before between now n built is (inl same) (inr few) =
    inr (made_of v + cost_of_plan net, (net, record { sites = built.narrow; network = is; steps = few.0 }, refl), omega (arith, same, few.1))
within_both b v net before between now n built is (inr few) (inl still) = inr (made_of v + cost_of_plan n.0, (n.0, n.1, refl), omega (arith, still, few.1))
within_both b v net before between now n built is (inr few) (inr more) =
    inr (made_of v + cost_of_plan net, (net, record { sites = built.narrow; network = is; steps = more.0 }, refl), omega (arith, few.1, more.1))
