-- The sectors of tuples on the shared legs, as keys.
-- Source: Singh, Pfeifer and Vidal 2010.
use Rattle.std.specs.Prelude.{◌≡◌, ℕ, Bool, List, map, slice_index_or, nat_eq}
use Rattle.std.specs.Cmp.Lexicographic.{pointwise}
use Rattle.std.specs.List.{list_any}
use Rattle.indexmap.specs.IndexSet.{IndexSet}
use Rattle.smallvec.specs.SmallVec.{SmallVec}
use Rattle.qn_value.specs.Tensors.{BlockValue}

-- the sectors of a tuple of the first tensor, and of the second, on the shared legs
abbrev pub first_sectors : List (ℕ × ℕ) → List ℕ → List ℕ
first_sectors shared t = map (λ p. slice_index_or t p.0 0) shared

abbrev pub second_sectors : List (ℕ × ℕ) → List ℕ → List ℕ
second_sectors shared u = map (λ p. slice_index_or u p.1 0) shared

-- the set has this key
abbrev pub has_key : {S : Type 0} → IndexSet (SmallVec ℕ) S → List ℕ → Bool
has_key keys key = list_any (λ k. pointwise nat_eq key k.items) keys.keys

-- the keys are those of the blocks
abbrev pub AreKeys : {S : Type 0} → List (ℕ × ℕ) → List BlockValue → IndexSet (SmallVec ℕ) S → Type 0
AreKeys shared blocks keys = (key : List ℕ) → has_key keys key ≡ list_any (λ b. pointwise nat_eq key (second_sectors shared b.tuple)) blocks
