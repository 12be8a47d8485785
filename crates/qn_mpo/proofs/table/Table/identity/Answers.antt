use Rattle.std.proofs.Common.{arith}
use Rattle.qn_opsum.specs.Strings.{identity}
use Rattle.qn_mpo.proofs.Tables.{table_from}
use Rattle.qn_mpo.proofs.table.Table.identity.Goals as goal

pub returns : goal.returns
returns c = table_from c.args.dim identity c.loop-place.entries.items c.loop-place.place c.loop-place.invariant.full (omega arith) (omega arith) c.loop-place.invariant.entries
