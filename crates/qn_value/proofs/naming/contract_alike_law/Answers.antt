use Rattle.qn_value.proofs.AlikeLemmas.{contract_alike, kept_alike}
use Rattle.qn_value.proofs.naming.contract_alike_law.Goals as goal

pub returns : goal.returns
returns c par ns ms bonds h = (kept_alike par ns ms bonds h, contract_alike par ns ms bonds h)
