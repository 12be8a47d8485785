-- Sites: a leg and the operators on it, ascending by name, with the identity `I` among them.
use Rattle.std.specs.Prelude.{◌≡◌, ◌<◌, ◌≤◌, ◌*◌, ◌/◌, ◌%◌, ◌==◌, ℕ, ℤ, List, [], ◌∷◌, length, map, if◌then◌else◌, slice_index_or, Contains, codes}
use Rattle.std.specs.Cmp.Lexicographic.{slice_cmp}
use Rattle.std.specs.Ordering.{nat_cmp, is_lt}
use Rattle.std.specs.declared.cmp.Ordering.TheVariants.{Less}
use Rattle.std.specs.List.{All, range_with_len}
use Rattle.qn_gauss.specs.Gaussian.{Gaussian, zero_g, one_g}
use Rattle.qn_charge.specs.declared.factor.Factor.{Factor}
use Rattle.qn_charge.specs.Charges.{IsGroup, zero_charge}
use Rattle.qn_index.specs.declared.leg.Dir.TheVariants.{Out}
use Rattle.qn_index.specs.Legs.{LegValue, total}
use Rattle.qn_sites.specs.Operators.{OpValue, IsSiteLeg, IsOperator}

-- a site: the group of its charges, its leg and its operators
pub record SiteValue : Type 0 where
  pub group : List Factor
  pub leg : LegValue
  pub ops : List OpValue

-- an operator as it is given: its name, its charge, and its entries, row after row
pub record GivenOp : Type 0 where
  pub name : List ℕ
  pub charge : List ℤ
  pub entries : List Gaussian

-- names ascend, compared byte by byte from the first
abbrev pub AreAscending : List (List ℕ) → Type 0
AreAscending ns = (i j : ℕ) → i < j → j < length ns → slice_cmp nat_cmp (slice_index_or ns i []) (slice_index_or ns j []) ≡ Less

-- the names of operators
abbrev pub names : List OpValue → List (List ℕ)
names os = map (λ (o : OpValue). o.name) os

abbrev pub no_operator : OpValue
no_operator = record { group = []; leg = record { arrow = Out; sectors = [] }; name = []; charge = []; entries = [] }

-- the name of the i-th operator
abbrev pub name_at : List OpValue → ℕ → List ℕ
name_at os i = (slice_index_or os i no_operator).name

-- the name of the identity
abbrev pub identity_name : List ℕ
identity_name = codes "I"

-- the table of the identity: 1 where row and column are the same
abbrev pub unit_table : ℕ → List Gaussian
unit_table dim = map (λ k. if k / dim == k % dim then one_g else zero_g) (range_with_len 0 (dim * dim))

-- the identity on a leg
abbrev pub identity_on : List Factor → LegValue → OpValue
identity_on fs l = record { group = fs; leg = l; name = identity_name; charge = zero_charge fs; entries = unit_table (total l.sectors) }

-- a given operator on a leg
abbrev pub op_on : List Factor → LegValue → GivenOp → OpValue
op_on fs l g = record { group = fs; leg = l; name = g.name; charge = g.charge; entries = g.entries }

-- an operator set before the first one whose name is not below its own
abbrev pub set_in : OpValue → List OpValue → List OpValue
set_in o [] = o ∷ []
set_in o (p ∷ ps) = if is_lt (slice_cmp nat_cmp p.name o.name) then p ∷ set_in o ps else o ∷ p ∷ ps

-- the site with these operators and the identity
abbrev pub site_with : List Factor → LegValue → List GivenOp → SiteValue
site_with fs l gs = record { group = fs; leg = l; ops = set_in (identity_on fs l) (map (op_on fs l) gs) }

-- an operator on this leg, with charges of this group
pub record IsOn (fs : List Factor) (l : LegValue) (o : OpValue) : Type 0 where
  pub group : o.group ≡ fs
  pub leg : o.leg ≡ l
  pub operator : IsOperator o

-- what holds of each site: its operators are on its leg, ascend by name, and have the identity among them
pub record IsSite (s : SiteValue) : Type 0 where
  pub group : IsGroup s.group
  pub leg : IsSiteLeg s.group s.leg
  pub ops : All (IsOn s.group s.leg) s.ops
  pub few : length s.ops ≤ 65
  pub ascending : AreAscending (names s.ops)
  pub identity : Contains s.ops (identity_on s.group s.leg)
