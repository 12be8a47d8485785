-- The open legs of a contraction, and the values at the places of its blocks.
use Rattle.std.proofs.Common.{◌≡◌, ℕ, zero, suc, ◌+◌, ℤ, List, [], ◌∷◌, ◌++◌, refl, sym, ◌∙◌, ap, ap₂, subst, map, length, append-nil}
use Rattle.std.proofs.lemmas.List.FromFn.{length-map-range_with_len}
use Rattle.qn_sign.specs.Sign.{IsDistinct}
use Rattle.qn_sign.proofs.Order.{distinct-perm, distinct_second}
use Rattle.qn_index.specs.Legs.{LegValue, SectorValue}
use Rattle.qn_index.specs.Tuples.{IsTuple}
use Rattle.qn_index.specs.Places.{values_at}
use Rattle.qn_value.specs.Networks.{End, same_end, goal, pairs_of}
use Rattle.qn_value.specs.Labels.{ends, open_end, opens_of, IsWellLabelled}
use Rattle.qn_value.specs.Blocks.{legs_on}
use Rattle.qn_value.specs.Local.{IsCoupling}
use Rattle.qn_value.proofs.NetLaws.{end_test}
use Rattle.qn_value.proofs.CoupleLemmas.{open_before}
use Rattle.qn_value.proofs.CoupledLemmas.{leg_at, well_labelled}
use Rattle.qn_strides.specs.Strides.{open_places}
use Rattle.qn_strides.proofs.Goal.{bonds_at, end_at, all_ends, opens_at}
use Rattle.qn_strides.proofs.Lines.{all_slots, ends_all, FitLines, legs_on_places, open_within, goal_perm}
pub use Rattle.qn_value.proofs.TensorBlocks.{values_by_inner as place_same}
use Rattle.qn_value.proofs.TensorBlocks.{values_long}

pub length_maps : {A B : Type 0} (f : ℕ → A) (g : ℕ → B) (xs : List ℕ) → length (map f xs) ≡ length (map g xs)
length_maps f g [] = refl
length_maps f g (x ∷ xs) = ap suc (length_maps f g xs)

pub ends_distinct : (ls : List LegValue) (cs : List (ℕ × ℕ)) → IsCoupling ls cs → IsDistinct same_end (all_ends ls cs)
ends_distinct ls cs good = let w : IsWellLabelled (all_ends ls cs) (open_before cs (length ls)) = well_labelled ls cs good in w.distinct

-- the legs that stay open
abbrev pub left_legs : List LegValue → List (ℕ × ℕ) → List LegValue
left_legs ls cs = map (leg_at ls) (open_places cs (length ls))

abbrev pub left_ends : List LegValue → List (ℕ × ℕ) → List End
left_ends ls cs = map (end_at ls cs) (open_places cs (length ls))

opens_long : (es : List End) (n : ℕ) → length (opens_of es n) ≡ n
opens_long es zero = refl
opens_long es (suc n) = length_last (opens_of es n) (open_end es n) ∙ ap suc (opens_long es n)
  where
    length_last : (xs : List End) (x : End) → length (xs ++ x ∷ []) ≡ suc (length xs)
    length_last [] x = refl
    length_last (y ∷ ys) x = ap suc (length_last ys x)

pub left_count : (ls : List LegValue) (cs : List (ℕ × ℕ)) → IsCoupling ls cs → length (left_legs ls cs) ≡ open_before cs (length ls)
left_count ls cs good =
    length_maps (leg_at ls) (end_at ls cs) (open_places cs (length ls)) ∙ ap length (opens_at ls cs good) ∙ opens_long (all_ends ls cs) (open_before cs (length ls))

pub ends_long : (ls : List LegValue) (cs : List (ℕ × ℕ)) → length (all_ends ls cs) ≡ length ls
ends_long ls cs = length-map-range_with_len (end_at ls cs) 0 (length ls)

-- the open legs have their places on the lines
pub left_is : (sectors : ℤ → List SectorValue) (ls : List LegValue) (cs : List (ℕ × ℕ)) → FitLines ls cs sectors → legs_on sectors (left_ends ls cs) ≡ left_legs ls cs
left_is sectors ls cs fit = legs_on_places ls cs sectors (open_places cs (length ls)) fit (open_within ls cs)

pub left_distinct : (ls : List LegValue) (cs : List (ℕ × ℕ)) → IsCoupling ls cs → IsDistinct same_end (left_ends ls cs)
left_distinct ls cs good =
    distinct_second same_end (goal (bonds_at 1 ls cs) []) (left_ends ls cs)
    (subst (IsDistinct same_end) (ap (λ es. es ++ left_ends ls cs) (sym (append-nil (pairs_of (bonds_at 1 ls cs))))) (distinct-perm same_end end_test (goal_perm ls cs good) (ends_distinct ls cs good)))

-- the open ends by their labels
pub opens_eq : (ls : List LegValue) (cs : List (ℕ × ℕ)) → IsCoupling ls cs → (ss : List ℕ) (n : ℕ) → IsTuple (left_legs ls cs) ss →
    opens_of (ends (all_slots ls cs)) (length (values_at (left_legs ls cs) ss n)) ≡ left_ends ls cs
opens_eq ls cs good ss n h = ap₂ opens_of (ends_all ls cs) (values_long (left_legs ls cs) ss n h ∙ left_count ls cs good) ∙ sym (opens_at ls cs good)
