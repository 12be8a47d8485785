-- Labels of legs, and their places.
use Rattle.std.specs.Prelude.{ℕ, zero, suc, ◌+◌, ℤ, negsuc, not, List, [], ◌∷◌, length, map, filter, drop, if◌then◌else◌}
use Rattle.std.specs.Ordering.{int_eq}
use Rattle.qn_sign.specs.Sign.{is_in}
use Rattle.qn_sign.specs.Positions.{positions}

-- the place of the first leg with the label, or the number of legs
abbrev pub place_in : ℤ → List ℤ → ℕ
place_in l [] = zero
place_in l (k ∷ ks) = if int_eq l k then zero else suc (place_in l ks)

-- the places of the first two legs with the label
abbrev pub couple_in : ℤ → List ℤ → ℕ × ℕ
couple_in l ks = (place_in l ks, suc (place_in l ks) + place_in l (drop (suc (place_in l ks)) ks))

-- the places of the two legs of each of these labels, on two tensors
abbrev pub shared_labels : List ℤ → List ℤ → List ℤ → List (ℕ × ℕ)
shared_labels ks ls summed = map (λ l. (place_in l ks, place_in l ls)) summed

-- and on one tensor
abbrev pub coupled_labels : List ℤ → List ℤ → List (ℕ × ℕ)
coupled_labels ks summed = map (λ l. couple_in l ks) summed

-- the labels that are left where these are summed
abbrev pub labels_without : List ℤ → List ℤ → List ℤ
labels_without summed ls = filter (λ l. not (is_in int_eq l summed)) ls

-- the places of the labels -1, -2, ..
abbrev pub open_places : List ℤ → List ℕ
open_places ls = map (λ i. place_in (negsuc i) ls) (positions (length ls))
