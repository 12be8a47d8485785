-- The parts of a sum with one product more.
use Rattle.std.proofs.Common.{◌≤◌, ℕ, ◌+◌, ℤ, ◌+ℤ◌, unsigned_abs, arith}
use Rattle.qn_gauss.proofs.Size.{abs-add}

pub parts_fit : (a b d e : ℤ) (m most : ℕ) → unsigned_abs a + unsigned_abs b + m ≤ most → unsigned_abs d + unsigned_abs e ≤ m → unsigned_abs (a +ℤ d) + unsigned_abs (b +ℤ e) ≤ most
parts_fit a b d e m most h l = omega (arith, abs-add a d, abs-add b e, h, l)
