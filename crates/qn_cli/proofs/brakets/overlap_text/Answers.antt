use Rattle.std.proofs.Common.{subst}
use Rattle.std.specs.Prelude.{IfOk}
use Rattle.std.proofs.lemmas.Result.{IfOk-weaker}
use Rattle.qn_sumdoc.specs.StatesValues.{StatesValue}
use Rattle.qn_cli.specs.Brakets.{IsOverlapText, pair_of}
use Rattle.qn_cli.specs.States.{braket_of}
use Rattle.qn_cli.proofs.OverlapNetworks.{overlap_told}
use Rattle.qn_cli.proofs.brakets.overlap_text.Goals as goal

pub returns-clause-text : goal.returns-clause-text
returns-clause-text g c =
    let b = pair_of c.states.inside.bra c.states.inside.ket in
    let on = c.in-Ok.ensures in
    subst (λ (v : StatesValue). IfOk c.value_text.result (λ text. IsOverlapText text.items (braket_of v))) c.states.view_is
    (IfOk-weaker c.value_text.result _ (λ text. IsOverlapText text.items b)
    (λ text p. overlap_told b c.in-Ok.net text.items on.network on.value on.flux p.0 p.1 p.2) c.value_text.ensures.text)
