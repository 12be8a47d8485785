use Rattle.std.proofs.lemmas.Result.{IfOk-weaker}
use Rattle.qn_engine.proofs.Knowing.{start_carried}
use Rattle.qn_engine.proofs.evaluation.start.Goals as goal

pub returns : goal.returns
returns g c =
    IfOk-weaker c.parts_of.result _ _
    (λ v e. start_carried c.first_tensors_law.ensures c.args.net.now c.known.ensures.well_formed c.tensors-members.result.now c.tensors-members.ensures.members c.tensors-members.ensures.each v.items e) c.parts_of.ensures
