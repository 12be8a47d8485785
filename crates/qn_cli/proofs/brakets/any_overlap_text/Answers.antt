use Rattle.std.proofs.Common.{sym, subst}
use Rattle.std.specs.Prelude.{IfOk}
use Rattle.qn_sumdoc.specs.States.{any_states}
use Rattle.qn_cli.specs.Brakets.{IsOverlapText}
use Rattle.qn_cli.specs.States.{braket_of}
use Rattle.qn_cli.proofs.brakets.any_overlap_text.Goals as goal

pub returns-in-N0-clause-text : goal.returns-in-N0-clause-text
returns-in-N0-clause-text g c =
    subst (λ any. IfOk c.overlap_text.result (λ text. IsOverlapText text.items (braket_of (any_states any)))) (sym c.in-N0.is) c.overlap_text.ensures.text

pub returns-in-N1-clause-text : goal.returns-in-N1-clause-text
returns-in-N1-clause-text g c =
    subst (λ any. IfOk c.overlap_text-in-N1.result (λ text. IsOverlapText text.items (braket_of (any_states any)))) (sym c.in-N1.is) c.overlap_text-in-N1.ensures.text

pub returns-in-N2-clause-text : goal.returns-in-N2-clause-text
returns-in-N2-clause-text g c =
    subst (λ any. IfOk c.overlap_text-in-N2.result (λ text. IsOverlapText text.items (braket_of (any_states any)))) (sym c.in-N2.is) c.overlap_text-in-N2.ensures.text

pub returns-in-N3-clause-text : goal.returns-in-N3-clause-text
returns-in-N3-clause-text g c =
    subst (λ any. IfOk c.overlap_text-in-N3.result (λ text. IsOverlapText text.items (braket_of (any_states any)))) (sym c.in-N3.is) c.overlap_text-in-N3.ensures.text

pub returns-in-N4-clause-text : goal.returns-in-N4-clause-text
returns-in-N4-clause-text g c =
    subst (λ any. IfOk c.overlap_text-in-N4.result (λ text. IsOverlapText text.items (braket_of (any_states any)))) (sym c.in-N4.is) c.overlap_text-in-N4.ensures.text
