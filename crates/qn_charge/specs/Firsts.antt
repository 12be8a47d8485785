-- The first place at which something holds.
use Rattle.std.specs.Prelude.{ℕ, ◌<◌}
pub use Rattle.qn_charge.specs.Ranges.{OutOfRange}

-- it holds at i and at no place before i
pub record IsFirst (P : ℕ → Type 0) (i : ℕ) : Type 0 where
  pub here : P i
  pub before : (j : ℕ) → j < i → P j → ⊥

-- it holds nowhere
abbrev pub HasNone : (ℕ → Type 0) → Type 0
HasNone P = (j : ℕ) → P j → ⊥
