-- The values of the bonds of a network, numbered from 0: the last bond changes fastest.
use Rattle.std.specs.Prelude.{◌<◌, ℕ, ◌*◌, ◌/◌, ◌%◌, ◌^◌, ℤ, Bool, false, List, [], ◌∷◌, cond, slice_index_or}
use Rattle.std.specs.Ordering.{int_eq}
use Rattle.qn_value.specs.Networks.{End, Node, Bond, Assignment, Parities, at_values}
use Rattle.qn_value.specs.Tensors.{Row, entry_at}

-- the number of summands
abbrev pub summands : List Bond → ℕ
summands [] = 1
summands (b ∷ bs) = b.dim * summands bs

-- the value of an end in the n-th summand, where x is its value if it is no bond's
abbrev pub value_in : List Bond → ℕ → ℕ → End → ℕ
value_in [] n x e = x
value_in (b ∷ bs) n x e = value_in bs (n % summands bs) (cond (int_eq e.label b.label) (n / summands bs) x) e

-- the assignment of the n-th summand
abbrev pub numbered : List Bond → ℕ → Assignment → Assignment
numbered bs n a e = value_in bs n (a e) e

-- the parities of the values of a line
pub record LineValue : Type 0 where
  pub label : ℤ
  pub odd : List Bool

-- the first of the lines with this label gives the parity; all other values are even
abbrev pub parity_in : List LineValue → Parities
parity_in [] l v = false
parity_in (p ∷ ps) l v = cond (int_eq l p.label) (slice_index_or p.odd v false) (parity_in ps l v)

-- a tensor in its network, by its rows
pub record RowsValue : Type 0 where
  pub ends : List End
  pub rows : List Row
  pub odd : Bool

abbrev pub rows_node : RowsValue → Node
rows_node t = record { ends = t.ends; entry = entry_at t.rows; odd = t.odd }

-- a summand: the values of the open ends, and the number of the bonds' values
pub record SummandValue : Type 0 where
  pub bonds : List Bond
  pub opens : List End
  pub values : List ℕ
  pub number : ℕ

pub record IsSummand (s : SummandValue) : Type 0 where
  pub number : s.number < summands s.bonds
  pub few : summands s.bonds < 2 ^ 64

abbrev pub assignment_of : SummandValue → Assignment
assignment_of s = numbered s.bonds s.number (at_values s.opens s.values)
