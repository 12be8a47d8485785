use Rattle.qn_value.proofs.AlikeLemmas.{value_alike, network_alike, homogeneous_alike}
use Rattle.qn_value.proofs.naming.alike_law.Goals as goal

pub returns : goal.returns
returns c par pre x y post bonds opens h = (value_alike par pre x y post bonds opens h, network_alike pre x y post bonds opens h, homogeneous_alike par x y h)
