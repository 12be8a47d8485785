use Rattle.std.proofs.Common.{arith, ◌∙◌, ◌+◌, ◌++◌, ap, drop, ℕ, List}
use Rattle.qn_index.specs.Weights.{finished}
use Rattle.std.specs.List.{flat_map}
use Rattle.qn_index.proofs.Partials.{pieces_more, pieces_all}
use Rattle.qn_index.proofs.partial.finish.Goals as goal

pub loop-p-preserved : goal.loop-p-preserved
loop-p-preserved g c =
    let f = finished c.args.group.now in
    let ps = c.args.partials.now in
    let out = c.loop-p.out.items in
    ap (λ (vs : List (List ℕ)). vs ++ flat_map f (drop (c.loop-p.p-index + 1) ps)) c.in_ok-add_finished.ensures
    ∙ pieces_more f ps c.loop-p.p-index c.p-item.result out (flat_map f ps) c.loop-p-test.true c.p-item.is c.loop-p.invariant

pub returns : goal.returns
returns g c =
    let f = finished c.args.group.now in
    pieces_all f c.args.partials.now c.loop-p.p-index c.loop-p.out.items (flat_map f c.args.partials.now) (omega arith) c.loop-p.invariant
