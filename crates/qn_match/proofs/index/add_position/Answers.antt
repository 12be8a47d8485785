use Rattle.std.proofs.Common.{arith}
use Rattle.indexmap.specs.Entry.{map_with_value}
use Rattle.qn_match.proofs.Indexing.{position_added}
use Rattle.qn_match.proofs.index.add_position.Goals as goal

pub returns : goal.returns
returns c = λ other.
    let put = c.in_ok-index.ensures in
    let new = map_with_value c.in_ok-index.field-0 c.push.new.self in
    let added = position_added c.args.index.now new c.args.key c.or_default.result.now c.push.new.self c.args.position _ (put.update.0 c.push.new.self) put.value c.or_default.ensures.value c.in_ok-push.ensures.items other in
    grind (arith, added)
