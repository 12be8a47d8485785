use Rattle.std.proofs.Common.{sym, subst}
use Rattle.std.specs.Prelude.{IfOk}
use Rattle.std.proofs.lemmas.Result.{IfOk-weaker}
use Rattle.qn_words.specs.declared.words.Job.{Job}
use Rattle.qn_words.specs.declared.words.Job.TheVariants.{Gen}
use Rattle.qn_cli.specs.Outcomes.{answered}
use Rattle.qn_cli.specs.Jobs.{ComesTo}
use Rattle.qn_cli.proofs.command.text_for.Goals as goal

pub returns-in-Gen-clause-text : goal.returns-in-Gen-clause-text
returns-in-Gen-clause-text g c =
    let bytes = c.args.bytes.items in
    subst (λ (job : Job). IfOk c.summary_of.result (λ text. ComesTo job bytes (answered text.items))) (sym c.in-Gen.is)
    (IfOk-weaker c.summary_of.result _ (λ text. ComesTo (Gen c.in-Gen.seed c.in-Gen.workers) bytes (answered text.items)) (λ text p. p bytes) c.summary_of.ensures.text)
