use Rattle.std.proofs.Common.{subst}
use Rattle.std.specs.Prelude.{IfOk}
use Rattle.std.proofs.lemmas.Result.{IfOk-weaker}
use Rattle.qn_sumdoc.specs.StatesValues.{StatesValue}
use Rattle.qn_cli.specs.Brakets.{IsExpectText, expect_text, pair_of}
use Rattle.qn_cli.specs.States.{HasSumSuch, braket_of}
use Rattle.qn_cli.proofs.expectations.states_text.Goals as goal

pub returns-clause-text : goal.returns-clause-text
returns-clause-text g c =
    let b = pair_of c.states.inside.bra c.states.inside.ket in
    subst (λ (v : StatesValue). IfOk c.expect_text.result (λ text. HasSumSuch v (IsExpectText expect_text text.items (braket_of v)))) c.states.view_is
    (IfOk-weaker c.expect_text.result (λ text. IsExpectText expect_text text.items b c.in-Some.sum) _ (λ text p. (c.in-Some.sum, c.in-Some.is, p)) c.expect_text.ensures.text)
