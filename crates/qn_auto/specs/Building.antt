-- What a build of the automaton multiplies, and where its sums grow too large to be kept.
-- The magnitude of a + b i is |a| + |b|, and no stored entry has one above 2^127 - 1.
use Rattle.std.specs.Prelude.{◌≡◌, ℕ, zero, suc, ◌+◌, ◌*◌, ◌^◌, ◌<◌, ◌⊎◌, ◌&&◌, ◌==◌, Bool, true, cond, List, [], ◌∷◌}
use Rattle.qn_sign.specs.Sign.{is_in}
use Rattle.qn_gauss.specs.Gaussian.{Gaussian, mag, limit}
use Rattle.qn_value.specs.Magnitudes.{total_below}
use Rattle.qn_opsum.specs.Strings.{Sites, Factor, identity, matrix}
use Rattle.qn_auto.specs.Automaton.{Term, Stage, same_stage, next, begin, stages}
use Rattle.qn_auto.specs.Automaton.Stage.{not_begun, rest, done}
use Rattle.qn_auto.specs.Flux.{StandsLeft, times_op, ops_at}

-- the sum over the elements of a list
abbrev pub total_over : {X : Type 0} → List X → (X → ℕ) → ℕ
total_over [] f = 0
total_over (x ∷ xs) f = f x + total_over xs f

-- the sum of magnitudes at an entry of a product with one operator more: over the middle value, the magnitudes of the two entries multiplied
abbrev pub product_size : Sites → ℕ → (ℕ → ℕ → Gaussian) → ℕ → ℕ → ℕ → ℕ
product_size S k p o x y = total_below (S.dim k) (λ v. mag (p x v) * mag (S.table k o v y))

-- at some row and column of the site the sum of magnitudes is above 2^127 - 1
pub record IsLarge (dim : ℕ) (size : ℕ → ℕ → ℕ) : Type 0 where
  pub row : ℕ
  pub column : ℕ
  pub in_rows : row < dim
  pub in_columns : column < dim
  pub above : limit < size row column

-- a product with more operators on the right passes at one of them
abbrev pub TimesPasses : Sites → ℕ → (ℕ → ℕ → Gaussian) → List ℕ → Type 0
TimesPasses S k p [] = ⊥
TimesPasses S k p (o ∷ os) = IsLarge (S.dim k) (product_size S k p o) ⊎ TimesPasses S k (times_op S k p o) os

-- the product of some operators on site k, from left to right, passes
abbrev pub ProductPasses : Sites → ℕ → List ℕ → Type 0
ProductPasses S k [] = ⊥
ProductPasses S k (o ∷ os) = TimesPasses S k (S.table k o) os

-- the magnitude of what a term that begins at site j gives to the transition from not begun to a state
abbrev pub begun_size : Sites → ℕ → Stage → ℕ → ℕ → Term → ℕ
begun_size S j r x y w = cond (begin w.factors == j && same_stage (next j w.factors) r) (mag w.amount * mag (matrix S w.factors j x y)) 0

-- the sum of magnitudes of the transitions from one state to another at site j
abbrev pub transition_size : Sites → List Term → ℕ → Stage → Stage → ℕ → ℕ → ℕ
transition_size S ws j not_begun r x y = cond (same_stage not_begun r) (mag (identity x y)) 0 + total_over ws (begun_size S j r x y)
transition_size S ws j (rest fs) r x y = cond (same_stage (next j fs) r) (mag (matrix S fs j x y)) 0
transition_size S ws j done r x y = cond (same_stage done r) (mag (identity x y)) 0

-- the product of the operators on site j of some term that begins there passes
abbrev pub BeginPasses : Sites → List Term → ℕ → Type 0
BeginPasses S [] j = ⊥
BeginPasses S (w ∷ ws) j = ((begin w.factors ≡ j) × ProductPasses S j (ops_at j w.factors)) ⊎ BeginPasses S ws j

-- the product of the operators on site j in a transition from a state passes
abbrev pub OpsPass : Sites → List Term → ℕ → Stage → Type 0
OpsPass S ws j not_begun = BeginPasses S ws j
OpsPass S ws j (rest fs) = ProductPasses S j (ops_at j fs)
OpsPass S ws j done = ⊥

-- the sum of the transitions from a state to one of these states passes
pub record SumPasses (S : Sites) (ws : List Term) (j : ℕ) (rights : List Stage) (l : Stage) : Type 0 where
  pub right : Stage
  pub stands : is_in same_stage right rights ≡ true
  pub large : IsLarge (S.dim j) (transition_size S ws j l right)

-- a product or a sum of the transitions from a state to one of these states passes
abbrev pub StatePasses : Sites → List Term → ℕ → List Stage → Stage → Type 0
StatePasses S ws j rights l = OpsPass S ws j l ⊎ SumPasses S ws j rights l

-- the build passes at site j
pub record SitePasses (earlier : Stage → Stage → Bool) (S : Sites) (ws : List Term) (j : ℕ) : Type 0 where
  pub left : Stage
  pub stands : StandsLeft earlier ws j left
  pub passes : StatePasses S ws j (stages earlier ws j) left

-- the cubes of the dimensions of the operators' sites
abbrev pub cubes : Sites → List Factor → ℕ
cubes S [] = 0
cubes S (f ∷ fs) = S.dim f.site ^ 3 + cubes S fs

-- how often the build multiplies at most: for each term the cube of the dimension for each operator's site, and once the square for the site where it begins
abbrev pub made : Sites → List Term → ℕ
made S ws = total_over ws (λ w. cubes S w.factors + S.dim (begin w.factors) ^ 2)
