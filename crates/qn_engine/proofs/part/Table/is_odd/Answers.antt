use Rattle.qn_engine.proofs.FuseParts.{table_even}
use Rattle.qn_engine.proofs.part.Table.is_odd.Goals as goal

pub returns : goal.returns
returns g c = table_even g.row.K c.args.self.now
