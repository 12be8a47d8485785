-- Which blocks of two tensors are multiplied in a contraction over shared legs.
-- Source: Singh, Pfeifer and Vidal 2010; Fishman, White and Stoudenmire 2022.
use Rattle.std.specs.Prelude.{◌≡◌, ◌<◌, ◌==◌, ◌&&◌, ◌||◌, ℕ, ℤ, Bool, true, false, cond, List, [], ◌∷◌, ◌++◌, length, map, filter, slice_index_or, All, None}
use Rattle.std.specs.List.{flat_map}
use Rattle.qn_sign.specs.Positions.{positions}
use Rattle.qn_sign.specs.Sign.{IsDistinct}
use Rattle.qn_charge.specs.declared.factor.Factor.{Factor}
use Rattle.qn_charge.specs.Charges.{sum_charge}
use Rattle.qn_index.specs.Legs.{LegValue, Meets}
use Rattle.qn_index.specs.Tuples.{admitted, IsFlux}
use Rattle.qn_index.specs.Extents.{IsWithinLimits}
use Rattle.qn_value.specs.Tensors.{BlockValue, same_values}
use Rattle.qn_value.specs.Local.{no_leg}
use Rattle.qn_block.specs.Blocked.{BlockedValue}
use Rattle.qn_block.specs.Refusals.{block_at}

-- the i-th leg of the first tensor is shared
abbrev pub is_first : List (ℕ × ℕ) → ℕ → Bool
is_first [] i = false
is_first (p ∷ ps) i = (i == p.0) || is_first ps i

-- the i-th leg of the second tensor is shared
abbrev pub is_second : List (ℕ × ℕ) → ℕ → Bool
is_second [] i = false
is_second (p ∷ ps) i = (i == p.1) || is_second ps i

-- a mark for each of n legs that is shared
abbrev pub marks : (ℕ → Bool) → ℕ → List Bool
marks shared n = map shared (positions n)

-- the elements without a mark
abbrev pub unmarked : {A : Type 0} → List Bool → List A → List A
unmarked [] xs = []
unmarked (m ∷ ms) [] = []
unmarked (m ∷ ms) (x ∷ xs) = cond m (unmarked ms xs) (x ∷ unmarked ms xs)

-- what is left of the first tensor's legs, or of a tuple of their sectors, and of the second's
abbrev pub first_left : {A : Type 0} → List (ℕ × ℕ) → List A → List A
first_left shared xs = unmarked (marks (is_first shared) (length xs)) xs

abbrev pub second_left : {A : Type 0} → List (ℕ × ℕ) → List A → List A
second_left shared ys = unmarked (marks (is_second shared) (length ys)) ys

-- what is left of both: first that of the first one
abbrev pub joined : {A : Type 0} → List (ℕ × ℕ) → List A → List A → List A
joined shared xs ys = first_left shared xs ++ second_left shared ys

-- what is left of a block's tuple, in the first tensor and in the second
abbrev pub left_of_first : List (ℕ × ℕ) → BlockValue → List ℕ
left_of_first shared b = first_left shared b.tuple

abbrev pub left_of_second : List (ℕ × ℕ) → BlockValue → List ℕ
left_of_second shared b = second_left shared b.tuple

-- two tuples have one sector on each shared leg
abbrev pub agree : List (ℕ × ℕ) → List ℕ → List ℕ → Bool
agree [] t u = true
agree (p ∷ ps) t u = (slice_index_or t p.0 0 == slice_index_or u p.1 0) && agree ps t u

-- two tuples agree on the shared legs, and give this tuple of the result
abbrev pub give : List (ℕ × ℕ) → List ℕ → List ℕ → List ℕ → Bool
give shared out t u = agree shared t u && same_values (joined shared t u) out

-- all pairs of positions in two lists, ascending, the first position counting before the second
abbrev pub all_pairs : ℕ → ℕ → List (ℕ × ℕ)
all_pairs m n = flat_map (λ i. map (λ j. (i, j)) (positions n)) (positions m)

-- a tuple of the result, and the positions of the blocks that are multiplied for it
pub record TaskValue : Type 0 where
  pub out : List ℕ
  pub pairs : List (ℕ × ℕ)

-- a task without a pair
abbrev pub empty_task : List ℕ → TaskValue
empty_task out = record { out = out; pairs = [] }

abbrev pub no_task : TaskValue
no_task = empty_task []

-- the pairs of stored blocks that agree on the shared legs and give this tuple, ascending
abbrev pub pairs_for : List (ℕ × ℕ) → List BlockValue → List BlockValue → List ℕ → List (ℕ × ℕ)
pairs_for shared firsts seconds out = filter (λ p. give shared out (block_at firsts p.0).tuple (block_at seconds p.1).tuple) (all_pairs (length firsts) (length seconds))

abbrev pub task_for : List (ℕ × ℕ) → List BlockValue → List BlockValue → List ℕ → TaskValue
task_for shared firsts seconds out = record { out = out; pairs = pairs_for shared firsts seconds out }

-- the tasks of a contraction: one for each admissible tuple of the result, ascending
abbrev pub tasks : BlockedValue → BlockedValue → List (ℕ × ℕ) → List TaskValue
tasks a b shared = map (task_for shared a.blocks b.blocks) (admitted a.group (joined shared a.legs b.legs) (sum_charge a.group a.flux b.flux))

-- there are legs at these two places, and they meet
pub record MeetAt (ks ls : List LegValue) (p : ℕ × ℕ) : Type 0 where
  pub first : p.0 < length ks
  pub second : p.1 < length ls
  pub meet : Meets (slice_index_or ks p.0 no_leg) (slice_index_or ls p.1 no_leg) None

-- legs that can be contracted over these pairs: each pair of legs meets, and no leg stands twice
pub record IsShared (ks ls : List LegValue) (shared : List (ℕ × ℕ)) : Type 0 where
  pub first : All (λ p. p.0 < length ks) shared
  pub second : All (λ p. p.1 < length ls) shared
  pub meet : All (λ p. Meets (slice_index_or ks p.0 no_leg) (slice_index_or ls p.1 no_leg) None) shared
  pub first_once : IsDistinct ◌==◌ (map (λ p. p.0) shared)
  pub second_once : IsDistinct ◌==◌ (map (λ p. p.1) shared)

-- two shapes that can be contracted over these pairs of legs: the flux of the result is in range, and the result is not too wide
pub record ArePaired (fs : List Factor) (ks : List LegValue) (p : List ℤ) (ls : List LegValue) (q : List ℤ) (shared : List (ℕ × ℕ)) : Type 0 where
  pub legs : IsShared ks ls shared
  pub flux : IsFlux fs (sum_charge fs p q)
  pub width : IsWithinLimits fs (joined shared ks ls) (sum_charge fs p q)

-- two tensors that can be contracted over these pairs of legs: they have one group, and their shapes can be contracted
pub record IsPair (a b : BlockedValue) (shared : List (ℕ × ℕ)) : Type 0 where
  pub group : a.group ≡ b.group
  pub shapes : ArePaired a.group a.legs a.flux b.legs b.flux shared
