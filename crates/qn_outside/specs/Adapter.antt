-- What an adapter keeps.
use Rattle.std.specs.Prelude.{ℕ}

-- the reader or writer of std, and how many of its calls failed
pub record AdapterState (T : Type 0) : Type 0 where
  pub inner : T
  pub faults : ℕ
