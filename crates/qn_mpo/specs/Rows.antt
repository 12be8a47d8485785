-- The transitions at a site, from each state left of it, as the program holds them.
use Rattle.std.specs.Prelude.{◌≡◌, ◌<◌, ◌+◌, ◌-◌, ◌*◌, ◌^◌, ◌==◌, ℕ, zero, suc, nat_lt, cond, List, [], ◌∷◌, length, map, slice_index_or}
use Rattle.qn_gauss.specs.Gaussian.{Gaussian, zero_g}
use Rattle.qn_index.specs.Legs.{LegValue, flipped, total}
use Rattle.qn_opsum.specs.Refusals.{IsSum}
use Rattle.qn_opsum.specs.Strings.{Sites}
use Rattle.qn_opsum.specs.Sums.{SumValue, site_at}
use Rattle.qn_auto.specs.Automaton.{Stage, Term, begin, stage_at, transition}
use Rattle.qn_auto.specs.Automaton.Stage.{not_begun, rest, done}
use Rattle.qn_auto.specs.Building.{SitePasses, StatePasses, total_over}
use Rattle.qn_auto.specs.Flux.{ops_at}
use Rattle.qn_auto.specs.SumAutomaton.{right_legs, sites_in, state_lower, states, terms_in}
use Rattle.qn_mpo.specs.States.{StateValue, with_charge}
use Rattle.qn_mpo.specs.Tables.{AreTables}

-- what the transitions at a site are made of: the sum, its terms in site order, the site, from 0, the number of its values,
-- the tables of its operators, and the states right of it
pub record SceneValue : Type 0 where
  pub sum : SumValue
  pub terms : List Term
  pub site : ℕ
  pub dim : ℕ
  pub tables : List (List Gaussian)
  pub rights : List StateValue

-- what holds of each
pub record IsScene (s : SceneValue) : Type 0 where
  pub sum : IsSum s.sum
  pub within : s.site < length s.sum.sites
  pub terms : s.terms ≡ terms_in s.sum
  pub dim : s.dim ≡ total (site_at s.sum.sites s.site).leg.sectors
  pub tables : AreTables (site_at s.sum.sites s.site) s.tables
  pub rights : s.rights ≡ map (with_charge s.sum) (states s.sum s.site)

-- the transitions from one state: tables, row after row, for the states right of the site from the first one on; beside them all is 0
pub record RowValue : Type 0 where
  pub first : ℕ
  pub entries : List Gaussian

abbrev pub no_row : RowValue
no_row = record { first = 0; entries = [] }

-- the entry of the transitions to a state, by its number, at a place of its table of so many entries
abbrev pub row_cell : ℕ → RowValue → ℕ → ℕ → Gaussian
row_cell size r right place = cond (nat_lt right r.first) zero_g (slice_index_or r.entries ((right - r.first) * size + place) zero_g)

-- the number of values of site j
abbrev pub dim_at : SumValue → ℕ → ℕ
dim_at v j = (sites_in v).dim j

-- the transitions at site j from one state to all states right of it
abbrev pub IsRowFrom : SumValue → ℕ → Stage → RowValue → Type 0
IsRowFrom v j l r =
    (n x y : ℕ) → n < length (states v j) → x < dim_at v j → y < dim_at v j →
    row_cell (dim_at v j * dim_at v j) r n (x * dim_at v j + y) ≡ transition (sites_in v) (terms_in v) j l (stage_at (states v j) n) x y

-- the states left of site j: before the first site no term has begun
abbrev pub left_stages : SumValue → ℕ → List Stage
left_stages v zero = not_begun ∷ []
left_stages v (suc j) = states v j

-- the transitions at site j from all states left of it
pub record AreRows (v : SumValue) (j : ℕ) (rs : List RowValue) : Type 0 where
  pub count : length rs ≡ length (left_stages v j)
  pub rows : (l : ℕ) → l < length (left_stages v j) → IsRowFrom v j (stage_at (left_stages v j) l) (slice_index_or rs l no_row)

-- the legs of the tensor of site j but the left one
abbrev pub own_legs : SumValue → ℕ → List LegValue
own_legs v j = (site_at v.sites j).leg ∷ flipped (site_at v.sites j).leg ∷ right_legs v j

-- the value of the right leg, the third of them; a site without it counts as done
abbrev pub right_value : List ℕ → ℕ
right_value [] = 0
right_value (x ∷ []) = 0
right_value (x ∷ y ∷ []) = 0
right_value (x ∷ y ∷ r ∷ zs) = r

-- the build passes at the transitions from a state at site j
abbrev pub PassesFrom : SumValue → ℕ → Stage → Type 0
PassesFrom v j l = StatePasses (sites_in v) (terms_in v) j (states v j) l

-- the build passes at one of the transitions at site j
abbrev pub PassesHere : SumValue → ℕ → Type 0
PassesHere v j = SitePasses (state_lower v) (sites_in v) (terms_in v) j

-- how often a term that begins at site j makes the build multiply there at most: the cube of the dimension for each operator, and once the square
abbrev pub begun_steps : Sites → ℕ → Term → ℕ
begun_steps S j w = cond (begin w.factors == j) (length (ops_at j w.factors) * S.dim j ^ 3 + S.dim j ^ 2) 0

-- how often the transitions from a state at site j make it multiply at most
abbrev pub steps_from : Sites → List Term → ℕ → Stage → ℕ
steps_from S ws j not_begun = total_over ws (begun_steps S j)
steps_from S ws j (rest fs) = length (ops_at j fs) * S.dim j ^ 3
steps_from S ws j done = 0

-- how often those from all states left of site j do
abbrev pub steps_at : SumValue → ℕ → ℕ
steps_at v j = total_over (left_stages v j) (steps_from (sites_in v) (terms_in v) j)
