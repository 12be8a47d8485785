use Rattle.std.proofs.Common.{true, lit<, sym, ◌∙◌, ap, subst}
use Rattle.std.proofs.lemmas.Result.{IfOk-weaker}
use Rattle.qn_net.specs.Members.{IsNarrow}
use Rattle.qn_net.specs.NetworkValues.{sectors}
use Rattle.qn_net.specs.Passing.{takes}
use Rattle.qn_engine.specs.Carrying.{step_at}
use Rattle.qn_engine.specs.Parts.{PartValue}
use Rattle.qn_engine.proofs.Making.{twist_at, labels_at, taken_narrow, taken_long}
use Rattle.qn_engine.proofs.FuseParts.{fuse_first_at, fuse_made}
use Rattle.qn_engine.proofs.steps.fuse_first.Goals as goal

pub twisted-requires : goal.twisted-requires
twisted-requires g c =
    let net = c.requires.step.0 in (
      lit< tt,
      (
        lit< tt,
        (
          subst IsNarrow (sym (ap (λ (p : PartValue). p.member) c.second.view_is)) (taken_narrow net.group (sectors net) c.args.first c.args.second (takes (step_at net c.requires.step.1)) c.requires.step.2.taken).1,
          labels_at c.args.second _ _ (ap (λ (p : PartValue). p.member) c.second.view_is) (c.deref.ensures.value ∙ ap (λ (p : PartValue). p.labels) c.second.view_is)
              (taken_long net.group (sectors net) c.args.first c.args.second (takes (step_at net c.requires.step.1)) c.requires.step.2.taken).1,
        ),
      ),
    )

pub fused-requires : goal.fused-requires
fused-requires g c =
    let k = (fuse_first_at c.plain_step_law.ensures c.requires.step.0 c.requires.step.1 c.args.first c.args.second c.args.between_odd c.args.summed.now c.args.twist.now c.requires.step.2 g.row.K c.args.table c.get-tensor.result.now (c.entries_of_blocks.ensures.tensor c.get-tensor.result.now c.known.ensures)
    c.combiner.result.now c.is_fuse.result c.deref-2.result.now c.deref-3.result.now c.combiner.ensures c.is_fuse.ensures c.requires.table c.requires.meets
    (twist_at true c.args.summed.now c.args.twist.now c.deref.result.now _ _ c.get-tensor.result.now c.args.second c.get-tensor.ensures (ap (λ (p : PartValue). p.member) c.second.view_is)
    (c.deref.ensures.value ∙ ap (λ (p : PartValue). p.labels) c.second.view_is) c.in_ok-other.ensures)
    (c.deref-2.ensures.value ∙ ap (λ (p : PartValue). p.labels) c.first.view_is) (c.deref-3.ensures.value ∙ ap (λ (p : PartValue). p.labels) c.second.view_is)) in
    (lit< tt, (lit< tt, (k.place, k.fusion)))

pub returns : goal.returns
returns g c =
    IfOk-weaker c.made.result _ _
    (λ r e. λ net n w.
    let k = (fuse_first_at c.plain_step_law.ensures net n c.args.first c.args.second c.args.between_odd c.args.summed.now c.args.twist.now w g.row.K c.args.table c.get-tensor.result.now (c.entries_of_blocks.ensures.tensor c.get-tensor.result.now c.known.ensures)
    c.combiner.result.now c.is_fuse.result c.deref-2.result.now c.deref-3.result.now c.combiner.ensures c.is_fuse.ensures c.requires.table c.requires.meets
    (twist_at true c.args.summed.now c.args.twist.now c.deref.result.now _ _ c.get-tensor.result.now c.args.second c.get-tensor.ensures (ap (λ (p : PartValue). p.member) c.second.view_is)
    (c.deref.ensures.value ∙ ap (λ (p : PartValue). p.labels) c.second.view_is) c.in_ok-other.ensures)
    (c.deref-2.ensures.value ∙ ap (λ (p : PartValue). p.labels) c.first.view_is) (c.deref-3.ensures.value ∙ ap (λ (p : PartValue). p.labels) c.second.view_is)) in
    fuse_made net n c.args.first c.args.second c.args.summed.now _ k c.in_ok-t.t r c.first.inside.number c.deref-4.result.now c.deref-5.result.now e (ap (λ (p : PartValue). p.number) c.first.view_is)
    (c.deref-4.ensures.value ∙ ap (λ (p : PartValue). p.labels) c.first.view_is) (c.deref-5.ensures.value ∙ ap (λ (p : PartValue). p.labels) c.second.view_is) (c.in_ok-t.ensures k.place k.fusion))
    c.made.ensures
