use Rattle.std.proofs.lemmas.Result.{IfOk-weaker, IfErr-weaker}
use Rattle.qn_words.specs.declared.words.Job.TheVariants.{Overlap}
use Rattle.qn_sumdoc.specs.States.{any_states}
use Rattle.qn_cli.specs.Outcomes.{answered}
use Rattle.qn_cli.specs.States.{ComesToOverlap}
use Rattle.qn_cli.specs.Answers.{Refuses}
use Rattle.qn_cli.proofs.OverlapNetworks.{overlap_of_bytes, overlap_refusal_of_bytes}
use Rattle.qn_cli.proofs.brakets.overlap.Goals as goal

pub returns-clause-text : goal.returns-clause-text
returns-clause-text g c =
    let bytes = c.args.bytes.now in
    let v = any_states c.in_ok-any.any in
    IfOk-weaker c.any_overlap_text.result _ (λ text. ComesToOverlap bytes (answered text.items))
    (λ text p. overlap_of_bytes bytes text.items v c.in_ok-any.ensures.ok p) c.any_overlap_text.ensures.text

pub returns-clause-status : goal.returns-clause-status
returns-clause-status g c =
    let bytes = c.args.bytes.now in
    let v = any_states c.in_ok-any.any in
    IfErr-weaker c.any_overlap_text.result _ (Refuses (Overlap c.args.workers) bytes)
    (λ s p. overlap_refusal_of_bytes c.args.workers bytes v s c.in_ok-any.ensures.ok p) c.any_overlap_text.ensures.status
