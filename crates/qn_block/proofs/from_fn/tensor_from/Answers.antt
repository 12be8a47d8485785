use Rattle.std.proofs.Common.{◌∙◌, sym, ap, List}
use Rattle.std.specs.Fn.{FnReturnsAt}
use Rattle.qn_index.specs.Legs.{LegValue}
use Rattle.qn_block.specs.Blocked.{BlockedValue}
use Rattle.qn_block.proofs.Sound.{made_entries}
use Rattle.qn_block.proofs.from_fn.tensor_from.Goals as goal

pub returns-clause-entries : goal.returns-clause-entries
returns-clause-entries g c =
    let bs = c.in_ok-blocks.ensures in
    let made : List LegValue → BlockedValue = λ ls. record { group = c.args.group; legs = ls; flux = c.args.flux; blocks = c.in_ok-blocks.blocks.items } in
    made_entries (FnReturnsAt g.F.Fn c.args.f.now) c.of_blocks.result c.args.group c.deref.result.now c.args.flux c.in_ok-blocks.blocks.items (c.of_blocks.ensures ∙ ap made (sym c.deref.ensures.value)) bs.blocks bs.answers
