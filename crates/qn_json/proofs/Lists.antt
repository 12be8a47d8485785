-- The items of a tree beside the values of a slice.
use Rattle.std.proofs.Common.{◌≡◌, ℕ, ◌+◌, List, [], ◌∷◌, length, map, Option, Bool, true, false, ◌&&◌, ◌||◌, refl, ap, cond, Some, None}
use Rattle.std.proofs.lemmas.List.{length-map}
use Rattle.std.proofs.lemmas.Option.{slice_get-map}
use Rattle.std.specs.Option.{option_or}
use Rattle.std.specs.List.{list_all, list_any, position_from, zip}
use Rattle.serde_json.specs.Data.{Data}
use Rattle.serde_json.specs.View.{view, items_view}
use Rattle.serde_json.specs.declared.value.Value.{Value}
use Rattle.qn_json.specs.Tree.{listed}

pub listed_view : (vs : List Value) → listed (items_view vs) ≡ map view vs
listed_view [] = refl
listed_view (v ∷ vs) = ap (λ ds. view v ∷ ds) (listed_view vs)

pub length_of_views : (vs : List Value) → length (map view vs) ≡ length vs
length_of_views vs = length-map vs view

pub tests_of_views : (test : Data → Bool) (vs : List Value) → list_all test (map view vs) ≡ list_all (λ v. test (view v)) vs
tests_of_views test [] = refl
tests_of_views test (v ∷ vs) = ap (λ b. test (view v) && b) (tests_of_views test vs)

pub position_of_views : (test : Data → Bool) (n : ℕ) (vs : List Value) → position_from test n (map view vs) ≡ position_from (λ v. test (view v)) n vs
position_of_views test n [] = refl
position_of_views test n (v ∷ vs) = ap (λ r. cond (test (view v)) (Some n) r) (position_of_views test (n + 1) vs)

pub map_of_views : {B : Type 0} (f : Data → B) (vs : List Value) → map f (map view vs) ≡ map (λ v. f (view v)) vs
map_of_views f [] = refl
map_of_views f (v ∷ vs) = ap (λ ys. f (view v) ∷ ys) (map_of_views f vs)

-- a list of values seen as data
pub ruleset places_of_views = (slice_get-map)

pub ruleset views = (listed_view, length_of_views, tests_of_views, position_of_views)

pub parts_none : {A : Type 0} (a b : Option A) → option_or a b ≡ None → (a ≡ None) × (b ≡ None)
parts_none None b e = (refl, e)
parts_none (Some x) b e = cc

pub or_false : (a b : Bool) → (a || b) ≡ false → (a ≡ false) × (b ≡ false)
or_false true b e = cc
or_false false b e = (refl, e)
