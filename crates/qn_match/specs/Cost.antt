-- The cost of a contraction: the number of products of single entries, counted from the two shapes and not from what is stored.
-- Source: Singh, Pfeifer and Vidal 2010; NCON, arXiv:1402.0939.
use Rattle.std.specs.Prelude.{ℕ, ℤ, ◌*◌, cond, List, All}
use Rattle.std.specs.List.{sum_by}
use Rattle.qn_charge.specs.declared.factor.Factor.{Factor}
use Rattle.qn_index.specs.Legs.{LegValue, IsLegOf}
use Rattle.qn_index.specs.Tuples.{admitted, IsFlux}
use Rattle.qn_index.specs.Places.{block_size}
use Rattle.qn_index.specs.Extents.{IsWithinLimits}
use Rattle.qn_match.specs.Pairs.{agree, second_left}

-- a shape: legs and a flux of the group that are not too wide
pub record IsShape (fs : List Factor) (ls : List LegValue) (q : List ℤ) : Type 0 where
  pub charges : All (IsLegOf fs) ls
  pub flux : IsFlux fs q
  pub limits : IsWithinLimits fs ls q

-- the product of the dimensions of all legs in two tuples of sectors, shared ones once: those of the first tensor, and those of the second that are left
abbrev pub pair_size : List (ℕ × ℕ) → List LegValue → List LegValue → List ℕ → List ℕ → ℕ
pair_size shared ks ls t u = block_size ks t * block_size (second_left shared ls) (second_left shared u)

-- the cost: the sum over all pairs of admissible tuples that agree on the shared legs
abbrev pub cost_of : List Factor → List LegValue → List ℤ → List LegValue → List ℤ → List (ℕ × ℕ) → ℕ
cost_of fs ks p ls q shared = sum_by (λ t. sum_by (λ u. cond (agree shared t u) (pair_size shared ks ls t u) 0) (admitted fs ls q)) (admitted fs ks p)
