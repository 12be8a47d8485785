-- What the network of two states gives, as the outcome of their overlap.
use Rattle.std.proofs.Common.{◌≡◌, inl, inr, ℕ, List, [], None, Bool, false, refl, sym, ◌∙◌, ap}
use Rattle.std.specs.Prelude.{Option, Some}
use Rattle.std.specs.Option.{IsSomeAnd}
use Rattle.serde_json.specs.Data.{Data}
use Rattle.qn_charge.specs.Charges.{sum_charge, neg_charge}
use Rattle.qn_net.specs.NetworkValues.{NetworkValue, passing_place, value}
use Rattle.qn_plan.specs.Planned.{first_wide, cost_of_plan}
use Rattle.qn_braket.specs.Chains.{chain_flux, overlap}
use Rattle.qn_braket.specs.ChainLaws.{network_flux}
use Rattle.qn_mps.specs.Chains.{ChainValue}
use Rattle.qn_parts.specs.TensorTexts.{tensor_text}
use Rattle.qn_json.specs.Tree.{tree_of}
use Rattle.qn_words.specs.declared.words.Job.TheVariants.{Overlap}
use Rattle.qn_sumdoc.specs.StatesValues.{StatesValue}
use Rattle.qn_sumdoc.specs.States.{AreStatesOf}
use Rattle.qn_cli.specs.declared.status.Status.{Status}
use Rattle.qn_cli.specs.declared.status.Status.TheVariants.{Done, Usage, Malformed, Passed, ReadFault, WriteFault, Memory}
use Rattle.qn_cli.specs.Networks.{value_tensor}
use Rattle.qn_cli.specs.Brakets.{BraketValue, IsOverlapOf, IsOverlapText, overlap_flux}
use Rattle.qn_cli.specs.States.{AreStatesIn, AreTwoStates, braket_of, ComesToOverlap}
use Rattle.qn_cli.specs.Outcomes.{answered}
use Rattle.qn_cli.specs.Jobs.{Multiplies}
use Rattle.qn_cli.specs.Answers.{IsValueRefusal, IsOverlapRefusal, IsStatesRefusal, Refuses, IsWithinPlan, IsWithinOverlap}
use Rattle.qn_cli.proofs.Scalars.{scalar_is, overlap_closed, overlap_group}

-- what a document says are two states on the same sites
pub two_states : (with_sum : Bool) (bytes : List ℕ) (v : StatesValue) → AreStatesIn with_sum bytes v → AreTwoStates v
two_states with_sum bytes v h = by (tree_of bytes) h.states
  where
    of_tree : (d : Data) → AreStatesOf with_sum d v → AreTwoStates v
    of_tree d a = record {
      bra = ap (λ (c : ChainValue). c.kind) a.chains.bra;
      ket = ap (λ (c : ChainValue). c.kind) a.chains.ket;
      group = ap (λ (c : ChainValue). c.group) a.chains.ket ∙ sym (ap (λ (c : ChainValue). c.group) a.chains.bra);
      sites = ap (λ (c : ChainValue). c.sites) a.chains.ket ∙ sym (ap (λ (c : ChainValue). c.sites) a.chains.bra);
    }

    by : (o : Option Data) → IsSomeAnd o (λ d. AreStatesOf with_sum d v) → AreTwoStates v
    by None p = absurd p
    by (Some d) p = of_tree d p

-- the text of the network's value is that of the overlap
pub overlap_told : (b : BraketValue) (net : NetworkValue) (text : List ℕ) → IsOverlapOf b net
    → value net [] ≡ overlap b.group b.sites b.bra b.ket → network_flux net ≡ sum_charge b.group (chain_flux b.group b.ket) (neg_charge b.group (chain_flux b.group b.bra))
    → first_wide net ≡ None → passing_place net ≡ None → text ≡ tensor_text (value_tensor net) → IsOverlapText text b
overlap_told b net text is number flux narrow clear told =
    let scalar = scalar_is net b.group (overlap_flux b) (overlap b.group b.sites b.bra b.ket) (overlap_closed b.group b.bra b.ket net is) (overlap_group b.group b.bra b.ket net is) flux number in
    (net, is, narrow, clear, told ∙ ap tensor_text scalar)

pub overlap_refusal : (b : BraketValue) (net : NetworkValue) (s : Status) → IsOverlapOf b net → IsValueRefusal net s → IsOverlapRefusal b s
overlap_refusal b net Done is p = p
overlap_refusal b net (Usage word) is p = p
overlap_refusal b net (Malformed f) is p = (net, is, p)
overlap_refusal b net (Passed step at offset) is p = (net, is, p)
overlap_refusal b net ReadFault is p = p
overlap_refusal b net WriteFault is p = p
overlap_refusal b net Memory is p = p

pub within_overlap : (b : BraketValue) (net : NetworkValue) (before now : ℕ) → IsOverlapOf b net → IsWithinPlan net before now → IsWithinOverlap b before now
unfolding IsWithinPlan IsWithinOverlap
within_overlap b net before now is (inl same) = inl same
within_overlap b net before now is (inr few) = inr (cost_of_plan net, (net, is, few.0, refl), few.1)

pub no_overlap_yet : (b : BraketValue) (before : ℕ) → IsWithinOverlap b before before
unfolding IsWithinOverlap
no_overlap_yet b before = inl refl

-- what the states that the bytes say come to, the bytes come to

pub overlap_of_bytes : (bytes text : List ℕ) (v : StatesValue) → AreStatesIn false bytes v → IsOverlapText text (braket_of v) → ComesToOverlap bytes (answered text)
overlap_of_bytes bytes text v are p = record { states = braket_of v; says = (v, are, refl); such = p }

pub overlap_refusal_of_bytes : (workers : ℕ) (bytes : List ℕ) (v : StatesValue) (s : Status) → AreStatesIn false bytes v → IsOverlapRefusal (braket_of v) s → Refuses (Overlap workers) bytes s
overlap_refusal_of_bytes workers bytes v Done are p = p
overlap_refusal_of_bytes workers bytes v (Usage word) are p = p
overlap_refusal_of_bytes workers bytes v (Malformed f) are p = inr (record { states = braket_of v; says = (v, are, refl); such = p })
overlap_refusal_of_bytes workers bytes v (Passed step at offset) are p = record { states = braket_of v; says = (v, are, refl); such = p }
overlap_refusal_of_bytes workers bytes v ReadFault are p = p
overlap_refusal_of_bytes workers bytes v WriteFault are p = p
overlap_refusal_of_bytes workers bytes v Memory are p = p

pub states_refused : (workers : ℕ) (bytes : List ℕ) (s : Status) → IsStatesRefusal false bytes s → Refuses (Overlap workers) bytes s
states_refused workers bytes Done p = p
states_refused workers bytes (Usage word) p = p
states_refused workers bytes (Malformed f) p = inl p
states_refused workers bytes (Passed step at offset) p = absurd p
states_refused workers bytes ReadFault p = p
states_refused workers bytes WriteFault p = p
states_refused workers bytes Memory p = p

pub multiplied_in_overlap : (workers : ℕ) (bytes : List ℕ) (v : StatesValue) (before now : ℕ) → AreStatesIn false bytes v → IsWithinOverlap (braket_of v) before now → Multiplies (Overlap workers) bytes before now
unfolding IsWithinOverlap Multiplies
multiplied_in_overlap workers bytes v before now are (inl same) = inl same
multiplied_in_overlap workers bytes v before now are (inr few) = inr (few.0, record { states = braket_of v; says = (v, are, refl); such = few.1 }, few.2)
