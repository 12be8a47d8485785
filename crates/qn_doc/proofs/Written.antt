-- Lists of data that were made from values, one by one.
use Rattle.std.proofs.Common.{◌≡◌, ℕ, ◌+◌, List, [], ◌∷◌, map, Bool, true, false, ◌&&◌, cond, Some, None, refl, ap, ap₂, ◌∙◌}
use Rattle.std.specs.Prelude.{Option}
use Rattle.std.specs.Option.{option_or, option_map}
use Rattle.std.specs.List.{All, list_all, position_from}
use Rattle.std.proofs.lemmas.List.Elements.{All-head, All-tail}
use Rattle.serde_json.specs.Data.{Data}
use Rattle.serde_json.specs.View.{items_of}
use Rattle.qn_parts.specs.declared.fault.Fault.{Fault}
use Rattle.qn_parts.specs.Faults.{first_from, first_bad}
use Rattle.qn_json.specs.Tree.{listed, items}
use Rattle.qn_json.specs.Texts.{list_data}

pub listed_items : (ds : List Data) → listed (items_of ds) ≡ ds
listed_items [] = refl
listed_items (d ∷ ds) = ap (λ es. d ∷ es) (listed_items ds)

pub items_back : (ds : List Data) → items (list_data ds) ≡ ds
items_back ds = listed_items ds

pub all_back : {A : Type 0} (form : Data → Bool) (f : A → Data) (xs : List A) → All (λ x. form (f x) ≡ true) xs → list_all form (map f xs) ≡ true
all_back form f [] h = refl
all_back form f (x ∷ xs) h =
    ap₂ (λ a b. a && b) (All-head (λ y. form (f y) ≡ true) x xs h) (all_back form f xs (All-tail (λ y. form (f y) ≡ true) x xs h))

pub map_back : {A : Type 0} (g : Data → A) (f : A → Data) (xs : List A) → All (λ x. g (f x) ≡ x) xs → map g (map f xs) ≡ xs
map_back g f [] h = refl
map_back g f (x ∷ xs) h = ap₂ (λ y ys. y ∷ ys) (All-head (λ y. g (f y) ≡ y) x xs h) (map_back g f xs (All-tail (λ y. g (f y) ≡ y) x xs h))

none_bad : {A : Type 0} (bad : Data → Bool) (f : A → Data) (n : ℕ) (xs : List A) → All (λ x. bad (f x) ≡ false) xs → position_from bad n (map f xs) ≡ None
none_bad bad f n [] h = refl
none_bad bad f n (x ∷ xs) h =
    ap (λ b. cond b (Some n) (position_from bad (n + 1) (map f xs))) (All-head (λ y. bad (f y) ≡ false) x xs h)
    ∙ none_bad bad f (n + 1) xs (All-tail (λ y. bad (f y) ≡ false) x xs h)

pub first_bad_none : {A : Type 0} (bad : Data → Bool) (at : ℕ → Fault) (f : A → Data) (xs : List A) → All (λ x. bad (f x) ≡ false) xs → first_bad bad at (map f xs) ≡ None
first_bad_none bad at f xs h = ap (option_map (λ i. at (i + 1))) (none_bad bad f 0 xs h)

pub first_from_none : {A : Type 0} (check : ℕ → Data → Option Fault) (f : A → Data) (n : ℕ) (xs : List A) → All (λ x. (k : ℕ) → check k (f x) ≡ None) xs
    → first_from check n (map f xs) ≡ None
first_from_none check f n [] h = refl
first_from_none check f n (x ∷ xs) h =
    ap (λ o. option_or o (first_from check (n + 1) (map f xs))) (All-head (λ y. (k : ℕ) → check k (f y) ≡ None) x xs h n)
    ∙ first_from_none check f (n + 1) xs (All-tail (λ y. (k : ℕ) → check k (f y) ≡ None) x xs h)
