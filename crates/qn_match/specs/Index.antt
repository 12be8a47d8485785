-- An index of a tensor's blocks by their sectors on the shared legs, and how it is used.
-- Source: Singh, Pfeifer and Vidal 2010.
use Rattle.std.specs.Prelude.{◌≡◌, ℕ, cond, List, [], ◌∷◌, ◌++◌, length, map, filter, slice_index_or, nat_eq}
use Rattle.std.specs.Cmp.Lexicographic.{pointwise, slice_cmp}
use Rattle.std.specs.Ordering.{nat_cmp}
use Rattle.std.specs.declared.cmp.Ordering.TheVariants.{Less}
use Rattle.std.specs.List.{AllPairs}
use Rattle.std.specs.Option.{option_map_or}
use Rattle.std.specs.declared.vec.Vec.{Vec}
use Rattle.indexmap.specs.IndexMap.{IndexMap, get_by}
use Rattle.smallvec.specs.SmallVec.{SmallVec}
use Rattle.qn_sign.specs.Positions.{positions}
use Rattle.qn_value.specs.Tensors.{BlockValue, same_values}
use Rattle.qn_block.specs.Refusals.{block_at}
use Rattle.qn_match.specs.Keys.{digits_of}
use Rattle.qn_match.specs.Pairs.{TaskValue}

-- the positions that an index has for a key
abbrev pub positions_of : {A S : Type 0} → IndexMap (SmallVec ℕ) (Vec ℕ A) S → List ℕ → List ℕ
positions_of index key = option_map_or (λ v. v.items) (get_by (λ k. pointwise nat_eq key k.items) index) []

-- the positions of the blocks that have these sectors on the legs at these places, ascending
abbrev pub positions_with : List ℕ → List BlockValue → List ℕ → List ℕ
positions_with places blocks key = filter (λ j. pointwise nat_eq key (digits_of places (block_at blocks j).tuple)) (positions (length blocks))

-- an index of blocks by their sectors on the legs at these places
abbrev pub IsIndex : {A S : Type 0} → List ℕ → List BlockValue → IndexMap (SmallVec ℕ) (Vec ℕ A) S → Type 0
IsIndex places blocks index = (key : List ℕ) → positions_of index key ≡ positions_with places blocks key

-- the tuples of tasks ascend strictly
abbrev pub AreInOrder : List TaskValue → Type 0
AreInOrder tasks = AllPairs (λ s t. slice_cmp nat_cmp s.out t.out ≡ Less) tasks

-- a task with one pair more, where this is its tuple
abbrev pub with_pair : List ℕ → ℕ × ℕ → TaskValue → TaskValue
with_pair out pair task = record { out = task.out; pairs = task.pairs ++ cond (same_values out task.out) (pair ∷ []) [] }

-- a task with the pairs of the i-th block of the first tensor and those at these positions that give its tuple: what is left of the one after what is left of the other
abbrev pub with_row : ℕ → List ℕ → List (List ℕ) → List ℕ → TaskValue → TaskValue
with_row i left lefts js task = record { out = task.out; pairs = task.pairs ++ filter (λ p. same_values (left ++ slice_index_or lefts p.1 []) task.out) (map (λ j. (i, j)) js) }
