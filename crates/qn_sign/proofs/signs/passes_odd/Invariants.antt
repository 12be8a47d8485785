use Rattle.std.proofs.Common.{◌≡◌, ◌&&◌, nat_lt, take}
use Rattle.qn_sign.specs.Positions.{is_odd_at}
use Rattle.qn_sign.specs.Sign.{block_parity}
use Rattle.qn_sign.proofs.signs.passes_odd.Given as goal

abbrev pub invariant-loop-other : goal.invariant-loop-other
invariant-loop-other l = l.passes ≡ block_parity (λ k. is_odd_at l.odd k && nat_lt k l.position) (take l.other-index l.later)
