use Rattle.qn_engine.proofs.Knowing.{network_ready}
use Rattle.qn_engine.proofs.known.known_steps.Goals as goal

pub returns-clause-ready : goal.returns-clause-ready
returns-clause-ready g c = λ narrow.
    network_ready c.network_value_law.ensures c.steps_law.ensures c.lines_law.ensures c.first_tensors_law.ensures c.steps_within_limits.ensures.groups c.steps_within_limits.ensures.pairs c.never_first_law.ensures c.first_steps_law.ensures
    c.member_tables_law.ensures c.args.net.now c.known.ensures.well_formed c.tensors-members.result.now c.tensors-members.ensures.members c.tensors-members.ensures.each c.tensors-members.ensures.few
    c.known_members.ensures.held c.known_members.ensures.small narrow

pub returns-clause-place : goal.returns-clause-place
returns-clause-place g c = c.network_passing_law.ensures c.args.net.now c.known.ensures.well_formed
