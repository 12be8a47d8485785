-- Sums of products of operators: sites, terms, and what they are worth as operator strings.
-- Source: Jordan and Wigner; Fishman, White and Stoudenmire 2022.
use Rattle.std.specs.Prelude.{◌≡◌, ◌≢◌, ◌<◌, ◌≤◌, ◌-◌, ◌==◌, ◌&&◌, nat_lt, ℕ, ℤ, suc, Bool, false, List, [], ◌∷◌, length, map, filter, slice_index_or, if◌then◌else◌}
use Rattle.std.specs.List.{All}
use Rattle.qn_gauss.specs.Gaussian.{Gaussian, mul_g, zero_g}
use Rattle.qn_charge.specs.declared.factor.Factor.{Factor}
use Rattle.qn_charge.specs.Charges.{IsGroup, parity, sum_charge, zero_charge}
use Rattle.qn_index.specs.declared.leg.Dir.TheVariants.{Out}
use Rattle.qn_index.specs.Legs.{parity_at, total}
use Rattle.qn_index.specs.Tuples.{IsFlux}
use Rattle.qn_sign.specs.Sign.{xor}
use Rattle.qn_value.specs.Rows.{sum_over}
use Rattle.qn_value.specs.Tensors.{same_values}
use Rattle.qn_sites.specs.Operators.{OpValue, element}
use Rattle.qn_sites.specs.Sites.{IsSite, SiteValue, name_at, no_operator}
use Rattle.qn_opsum.specs.Strings.{Sites, State, string}
use Rattle.qn_opsum.specs.Strings as strings

-- a term: its coefficient, and its operators, each by the number of its site, from 1, and its name
pub record TermValue : Type 0 where
  pub coef : Gaussian
  pub factors : List (ℕ × List ℕ)

-- an operator sum: the group of its charges, its sites, its terms and its flux
pub record SumValue : Type 0 where
  pub group : List Factor
  pub sites : List SiteValue
  pub terms : List TermValue
  pub flux : List ℤ

-- a term in site order, and whether its sign is minus
pub record NormalValue : Type 0 where
  pub negative : Bool
  pub factors : List (ℕ × List ℕ)

abbrev pub no_site : SiteValue
no_site = record { group = []; leg = record { arrow = Out; sectors = [] }; ops = [] }

-- the site at a place, from 0
abbrev pub site_at : List SiteValue → ℕ → SiteValue
site_at ss j = slice_index_or ss j no_site

-- the operator at a place
abbrev pub op_at : List OpValue → ℕ → OpValue
op_at os i = slice_index_or os i no_operator

abbrev pub no_term : TermValue
no_term = record { coef = zero_g; factors = [] }

-- the term at a place, from 0
abbrev pub term_at : List TermValue → ℕ → TermValue
term_at ws i = slice_index_or ws i no_term

-- the place of the operator with this name
abbrev pub place_of : List OpValue → List ℕ → ℕ
place_of [] n = 0
place_of (o ∷ os) n = if same_values o.name n then 0 else suc (place_of os n)

-- the operators of the site of a term's operator
abbrev pub ops_for : List SiteValue → ℕ × List ℕ → List OpValue
ops_for ss f = (site_at ss (f.0 - 1)).ops

-- the operator that a term names
abbrev pub op_for : List SiteValue → ℕ × List ℕ → OpValue
op_for ss f = op_at (ops_for ss f) (place_of (ops_for ss f) f.1)

-- the total charge of a term's operators
abbrev pub charge_of : List Factor → List SiteValue → List (ℕ × List ℕ) → List ℤ
charge_of fs ss [] = zero_charge fs
charge_of fs ss (f ∷ gs) = sum_charge fs (op_for ss f).charge (charge_of fs ss gs)

-- the sites as numbers and tables: sites from 0, operators by their places, which ascend with their names
abbrev pub sites_of : List Factor → List SiteValue → Sites
sites_of fs ss = record {
  count = length ss;
  dim = λ j. total (site_at ss j).leg.sectors;
  odd_value = λ j v. parity_at fs (site_at ss j).leg.sectors v;
  odd_op = λ j k. parity fs (op_at (site_at ss j).ops k).charge;
  table = λ j k row column. element (op_at (site_at ss j).ops k) row column;
}

-- an operator of a term by its site and its place there
abbrev pub factor_of : List SiteValue → ℕ × List ℕ → strings.Factor
factor_of ss f = record { site = f.0 - 1; op = place_of (ops_for ss f) f.1 }

-- the operator string of a term
abbrev pub string_of : List Factor → List SiteValue → List (ℕ × List ℕ) → State → State → Gaussian
string_of fs ss gs t s = string (sites_of fs ss) (map (factor_of ss) gs) t s

-- the sum of the coefficients times the strings
abbrev pub value_of : SumValue → State → State → Gaussian
value_of v t s = sum_over v.terms (λ w. mul_g w.coef (string_of v.group v.sites w.factors t s))

-- the second list has the operators of the first in the stable order by site: sites do not descend, and the operators on each site stand in the same order
pub record IsSiteOrder (gs hs : List (ℕ × List ℕ)) : Type 0 where
  pub ascending : (i j : ℕ) (d : ℕ × List ℕ) → i < j → j < length hs → (slice_index_or hs i d).0 ≤ (slice_index_or hs j d).0
  pub stable : (k : ℕ) → filter (λ f. f.0 == k) hs ≡ filter (λ f. f.0 == k) gs

-- whether an odd number of odd operators stand on sites before j: operators as their site and their parity
abbrev pub passes : ℕ → List (ℕ × Bool) → Bool
passes j [] = false
passes j (m ∷ ms) = xor (m.1 && nat_lt m.0 j) (passes j ms)

-- whether an odd number of pairs of odd operators stand in the reverse of their sites' order
abbrev pub turns : List (ℕ × Bool) → Bool
turns [] = false
turns (m ∷ ms) = xor (m.1 && passes m.0 ms) (turns ms)
