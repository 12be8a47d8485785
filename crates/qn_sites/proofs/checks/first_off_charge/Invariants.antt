use Rattle.std.proofs.Common.{ℕ, ◌<◌}
use Rattle.qn_sites.specs.Refusals.{BadEntry}
use Rattle.qn_sites.proofs.checks.first_off_charge.Given as goal

abbrev pub invariant-loop-k : goal.invariant-loop-k
invariant-loop-k g l = (j : ℕ) → j < l.k → BadEntry l.group l.leg l.charge l.entries j → ⊥
