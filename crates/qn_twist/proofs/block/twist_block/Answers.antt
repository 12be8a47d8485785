use Rattle.std.proofs.Common.{sym, ◌∙◌, ap}
use Rattle.qn_twist.specs.Twisted.{odd_sectors}
use Rattle.qn_twist.proofs.Entries.{block_same}
use Rattle.qn_twist.proofs.block.twist_block.Goals as goal

pub returns-else-is_odd_number : goal.returns-else-is_odd_number
returns-else-is_odd_number g c =
    sym (block_same c.args.group.now c.args.legs.now c.args.places.now c.args.block.now
    (ap (odd_sectors c.args.group.now c.args.legs.now c.args.places.now) (sym c.tuple.ensures) ∙ sym c.is_odd_number.ensures ∙ c.if-is_odd_number.false))
