-- Lists of shapes: an element by its place, and lists cut at a place or two.
use Rattle.std.proofs.Common.{◌≡◌, ◌<◌, ℕ, zero, suc, List, [], ◌∷◌, ◌++◌, refl, ◌∙◌, ap, map, length, take, drop, get_or, arith}
use Rattle.std.specs.Prelude.{slice_set}
use Rattle.std.specs.List.{remove}
use Rattle.std.proofs.lemmas.List.{get_or_default}
use Rattle.qn_plan.specs.Shapes.{ShapeValue, no_shape, shape_at}

-- an element that was read stands at its place
pub shape_read : (ss : List ShapeValue) (i : ℕ) (s : ShapeValue) → i < length ss → s ≡ get_or ss i s → s ≡ shape_at ss i
shape_read ss i s lt e = e ∙ get_or_default ss i s no_shape lt

module _ {A B : Type 0} (f : A → B) where
  -- the place after a first part
  pub get_mapped : (before : List A) (g : A) (behind : List A) (d : B) → get_or (map f (before ++ (g ∷ behind))) (length before) d ≡ f g
  get_mapped [] g behind d = refl
  get_mapped (b ∷ before) g behind d = get_mapped before g behind d

  pub set_mapped : (before : List A) (g : A) (behind : List A) (x : B) → slice_set (map f (before ++ (g ∷ behind))) (length before) x ≡ map f before ++ (x ∷ map f behind)
  set_mapped [] g behind x = refl
  set_mapped (b ∷ before) g behind x = ap (λ ys. f b ∷ ys) (set_mapped before g behind x)

  pub removed_mapped : (before : List A) (g : A) (behind : List A) → remove (map f (before ++ (g ∷ behind))) (length before) ≡ map f (before ++ behind)
  removed_mapped [] g behind = refl
  removed_mapped (b ∷ before) g behind = ap (λ ys. f b ∷ ys) (removed_mapped before g behind)

-- a list is cut at a place
module _ {A : Type 0} where
  pub cut : (xs : List A) (i : ℕ) (d : A) → i < length xs → xs ≡ take i xs ++ (get_or xs i d ∷ drop (suc i) xs)
  cut [] i d h = absurd (omega arith)
  cut (x ∷ xs) zero d h = refl
  cut (x ∷ xs) (suc i) d h = ap (λ ys. x ∷ ys) (cut xs i d (omega arith))

  pub cut_length : (xs : List A) (i : ℕ) → i < length xs → length (take i xs) ≡ i
  cut_length [] i h = absurd (omega arith)
  cut_length (x ∷ xs) zero h = refl
  cut_length (x ∷ xs) (suc i) h = ap suc (cut_length xs i (omega arith))
