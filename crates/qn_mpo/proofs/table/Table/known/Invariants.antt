use Rattle.std.proofs.Common.{ℕ, ◌<◌, ◌≤◌, get_or}
use Rattle.qn_gauss.specs.Gaussian.{Gaussian, limit, mag}
use Rattle.qn_mpo.proofs.table.Table.known.Given as goal

abbrev pub invariant-loop-i : goal.invariant-loop-i
invariant-loop-i l = (k : ℕ) (d : Gaussian) → k < l.i → mag (get_or l.self k d) ≤ limit
