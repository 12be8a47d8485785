use Rattle.std.proofs.Common.{arith, ◌≡◌, ◌∙◌, ◌+◌, ◌++◌, ap, length, drop, List}
use Rattle.qn_index.specs.Weights.{PartialValue, extensions}
use Rattle.std.specs.List.{flat_map}
use Rattle.qn_index.specs.Tuples.{upward}
use Rattle.qn_index.proofs.Partials.{pieces_more, pieces_all}
use Rattle.qn_index.proofs.partial.extend.Goals as goal

pub loop-p-preserved : goal.loop-p-preserved
loop-p-preserved g c =
    let f = λ (p : PartialValue). extensions c.args.group.now c.args.leg.now c.args.table.now p (upward 0 (length c.args.leg.now.sectors)) in
    let ps = c.args.partials.now in
    let out = c.loop-p.out.items in
    let added : c.add_extensions.new.out.items ≡ out ++ f c.p-item.result = c.in_ok-add_extensions.ensures in
    ap (λ (vs : List PartialValue). vs ++ flat_map f (drop (c.loop-p.p-index + 1) ps)) added
    ∙ pieces_more f ps c.loop-p.p-index c.p-item.result out (flat_map f ps) c.loop-p-test.true c.p-item.is c.loop-p.invariant

pub returns : goal.returns
returns g c =
    let f = λ (p : PartialValue). extensions c.args.group.now c.args.leg.now c.args.table.now p (upward 0 (length c.args.leg.now.sectors)) in
    pieces_all f c.args.partials.now c.loop-p.p-index c.loop-p.out.items (flat_map f c.args.partials.now) (omega arith) c.loop-p.invariant
