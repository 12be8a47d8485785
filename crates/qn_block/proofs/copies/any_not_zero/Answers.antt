use Rattle.std.proofs.Common.{arith, false}
use Rattle.qn_block.proofs.Ascending.{any_more, any_found}
use Rattle.qn_block.proofs.copies.any_not_zero.Goals as goal

pub loop-entry-preserved : goal.loop-entry-preserved
loop-entry-preserved c = any_more c.args.entries.now c.loop-entry.entry-index c.entry-item.result false (omega arith) c.entry-item.is c.if-is_not_zero.ensures c.loop-entry.invariant

pub returns-then-is_not_zero : goal.returns-then-is_not_zero
returns-then-is_not_zero c = any_found c.args.entries.now c.loop-entry.entry-index c.entry-item.result (omega arith) c.entry-item.is c.if-is_not_zero.ensures
