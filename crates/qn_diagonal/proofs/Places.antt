-- The word of a diagonal tensor's legs and those of the tensor that it is contracted with, by places.
use Rattle.std.proofs.Common.{◌≡◌, ◌≢◌, ◌<◌, ℕ, zero, suc, ◌+◌, ◌==◌, pos, Bool, true, false, not, ◌||◌, cond, None, List, [], ◌∷◌, ◌++◌, refl, sym, ◌∙◌, ap, ap₂, map, filter, length, get_or, eq-eqb, int_eq, arith}
use Rattle.std.specs.List.{range_with_len}
use Rattle.std.proofs.lemmas.Bool.{ne_eqb, or_left, or_right}
use Rattle.std.proofs.lemmas.List.{map-append, get_or-append-add}
use Rattle.std.proofs.lemmas.List.Elements.{filter-append}
use Rattle.qn_sign.specs.Sign.{is_in}
use Rattle.qn_sign.specs.Positions.{positions}
use Rattle.qn_index.specs.declared.leg.Dir.{Dir}
use Rattle.qn_index.specs.declared.leg.Dir.TheVariants.{Out, In}
use Rattle.qn_index.specs.Legs.{LegValue, Meets, flipped, other_way, total}
use Rattle.qn_value.specs.Networks.{End, Bond, Assignment, assign, values}
use Rattle.qn_value.specs.Local.{no_leg, is_coupled, label_at, IsCoupling}
use Rattle.qn_value.proofs.BlockRows.{all-nil, all-cons}
use Rattle.qn_value.proofs.CoupledLemmas.{leg_at}
use Rattle.qn_match.specs.Pairs.{IsShared}
use Rattle.qn_strides.specs.Strides.{open_places}
use Rattle.qn_strides.proofs.Goal.{of_positions, open_label, end_at, all_ends, AreEnds, numbered_ends, numbered}
use Rattle.qn_strides.proofs.Opens.{left_ends}
use Rattle.qn_kernel.proofs.Places.{range_append}
use Rattle.qn_pair.proofs.Words.{coupling}

-- lists over ranges

pub map_range : {A : Type 0} (f g : ℕ → A) (a b n : ℕ) → ((i : ℕ) → i < n → f (a + i) ≡ g (b + i)) → map f (range_with_len a n) ≡ map g (range_with_len b n)
map_range f g a b zero h = refl
map_range f g a b (suc n) h = ap₂ ◌∷◌ (ap f (here a) ∙ h 0 (omega arith) ∙ ap g (sym (here b))) (map_range f g (a + 1) (b + 1) n (λ i l. ap f (next a i) ∙ h (suc i) (omega arith) ∙ ap g (sym (next b i))))
  where
    here : (c : ℕ) → c ≡ c + 0
    here c = omega arith

    next : (c i : ℕ) → c + 1 + i ≡ c + suc i
    next c i = omega arith

filter_all : (p : ℕ → Bool) (xs : List ℕ) → ((i : ℕ) → is_in ◌==◌ i xs ≡ true → p i ≡ true) → filter p xs ≡ xs
filter_all p [] h = refl
filter_all p (x ∷ xs) h = ap (λ b. cond b (x ∷ filter p xs) (filter p xs)) (h x (or_left (x == x) (is_in ◌==◌ x xs) (eq-eqb x x refl))) ∙ ap (λ ys. x ∷ ys) (filter_all p xs (λ i l. h i (or_right (i == x) (is_in ◌==◌ i xs) l)))

other_arrow : (d : Dir) → other_way d ≢ d
other_arrow Out e = absurd (cc e)
other_arrow In e = absurd (cc e)

-- the places of leg m of a tensor with n legs, n being m + 1 + k
module _ (ls : List LegValue) (m k : ℕ) (count : length ls ≡ m + suc k) where
  abbrev pub leg : LegValue
  leg = leg_at ls m

  abbrev pub firsts : List LegValue
  firsts = leg_at ls m ∷ flipped (leg_at ls m) ∷ []

  abbrev pub whole : List LegValue
  whole = (leg_at ls m ∷ flipped (leg_at ls m) ∷ []) ++ ls

  abbrev pub couples : List (ℕ × ℕ)
  couples = (1, 2 + m) ∷ []

  pub shared : IsShared (leg_at ls m ∷ flipped (leg_at ls m) ∷ []) ls ((1, m) ∷ [])
  shared = record {
    first = all-cons (λ (p : ℕ × ℕ). p.0 < 2) (1, m) [] (omega arith) (all-nil (λ (p : ℕ × ℕ). p.0 < 2));
    second = all-cons (λ (p : ℕ × ℕ). p.1 < length ls) (1, m) [] (omega (arith, count)) (all-nil (λ (p : ℕ × ℕ). p.1 < length ls));
    meet = all-cons (λ (p : ℕ × ℕ). Meets (get_or (leg_at ls m ∷ flipped (leg_at ls m) ∷ []) p.0 no_leg) (get_or ls p.1 no_leg) None) (1, m) [] (other_arrow (leg_at ls m).arrow, refl)
        (all-nil (λ (p : ℕ × ℕ). Meets (get_or (leg_at ls m ∷ flipped (leg_at ls m) ∷ []) p.0 no_leg) (get_or ls p.1 no_leg) None));
    first_once = (refl, tt);
    second_once = (refl, tt);
  }

  pub good : IsCoupling ((leg_at ls m ∷ flipped (leg_at ls m) ∷ []) ++ ls) ((1, 2 + m) ∷ [])
  good = coupling firsts ls ((1, m) ∷ []) shared

  pub leg_later : (i : ℕ) → leg_at ((leg_at ls m ∷ flipped (leg_at ls m) ∷ []) ++ ls) (2 + i) ≡ leg_at ls i
  leg_later i = get_or-append-add firsts ls i no_leg

  -- the open places
  pub uncoupled : (i : ℕ) → (i ≡ 1 → ⊥) → (i ≡ 2 + m → ⊥) → is_coupled ((1, 2 + m) ∷ []) i ≡ false
  uncoupled i f g = ap₂ (λ a b. a || (b || false)) (ne_eqb i 1 f) (ne_eqb i (2 + m) g)

  abbrev pub lefts : List ℕ
  lefts = range_with_len 2 m

  abbrev pub rights : List ℕ
  rights = range_with_len (3 + m) k

  pub first_open : is_coupled ((1, 2 + m) ∷ []) 0 ≡ false
  first_open = uncoupled 0 (λ e. absurd (omega (arith, e))) (λ e. absurd (omega (arith, e)))

  pub lefts_open : (i : ℕ) → is_in ◌==◌ i (range_with_len 2 m) ≡ true → is_coupled ((1, 2 + m) ∷ []) i ≡ false
  lefts_open i h = let r = of_positions 2 m i h in uncoupled i (λ e. absurd (omega (arith, e, r.0))) (λ e. absurd (omega (arith, e, r.1)))

  pub rights_open : (i : ℕ) → is_in ◌==◌ i (range_with_len (3 + m) k) ≡ true → is_coupled ((1, 2 + m) ∷ []) i ≡ false
  rights_open i h = let r = of_positions (3 + m) k i h in uncoupled i (λ e. absurd (omega (arith, e, r.0))) (λ e. absurd (omega (arith, e, r.0)))

  all_places : positions (length ((leg_at ls m ∷ flipped (leg_at ls m) ∷ []) ++ ls)) ≡ 0 ∷ 1 ∷ (range_with_len 2 m ++ ((2 + m) ∷ range_with_len (3 + m) k))
  all_places =
      ap positions sizes ∙ range_append 0 2 (m + suc k)
      ∙ ap (λ xs. 0 ∷ 1 ∷ xs) (range_append 2 m (suc k) ∙ ap (λ a. range_with_len 2 m ++ ((2 + m) ∷ range_with_len a k)) next)
    where
      sizes : length ((leg_at ls m ∷ flipped (leg_at ls m) ∷ []) ++ ls) ≡ 2 + (m + suc k)
      sizes = omega (arith, count)

      next : 2 + m + 1 ≡ 3 + m
      next = omega arith

  pub open_is : open_places ((1, 2 + m) ∷ []) (length ((leg_at ls m ∷ flipped (leg_at ls m) ∷ []) ++ ls)) ≡ 0 ∷ (range_with_len 2 m ++ range_with_len (3 + m) k)
  open_is =
      ap (filter stays) all_places
      ∙ ap (λ b. cond (not b) (0 ∷ later) later) first_open
      ∙ ap (λ xs. 0 ∷ xs)
      (filter-append stays lefts ((2 + m) ∷ rights)
      ∙ ap₂ (λ xs ys. xs ++ ys) (filter_all stays lefts (λ i h. ap not (lefts_open i h)))
      (ap (λ b. cond (not b) ((2 + m) ∷ filter stays rights) (filter stays rights)) there ∙ filter_all stays rights (λ i h. ap not (rights_open i h))))
    where
      stays : ℕ → Bool
      stays i = not (is_coupled ((1, 2 + m) ∷ []) i)

      later : List ℕ
      later = filter (λ i. not (is_coupled ((1, 2 + m) ∷ []) i)) (range_with_len 2 m ++ ((2 + m) ∷ range_with_len (3 + m) k))

      there : is_coupled ((1, 2 + m) ∷ []) (2 + m) ≡ true
      there = or_right (2 + m == 1) ((2 + m == 2 + m) || false) (or_left (2 + m == 2 + m) false (eq-eqb (2 + m) (2 + m) refl))

  -- the ends
  abbrev pub end : ℕ → End
  end i = end_at ((leg_at ls m ∷ flipped (leg_at ls m) ∷ []) ++ ls) ((1, 2 + m) ∷ []) i

  abbrev pub left : List End
  left = map (end_at ((leg_at ls m ∷ flipped (leg_at ls m) ∷ []) ++ ls) ((1, 2 + m) ∷ [])) (range_with_len 2 m)

  abbrev pub right : List End
  right = map (end_at ((leg_at ls m ∷ flipped (leg_at ls m) ∷ []) ++ ls) ((1, 2 + m) ∷ [])) (range_with_len (3 + m) k)

  pub all_is : all_ends ((leg_at ls m ∷ flipped (leg_at ls m) ∷ []) ++ ls) ((1, 2 + m) ∷ []) ≡ end 0 ∷ end 1 ∷ (left ++ (end (2 + m) ∷ right))
  all_is = ap (map end) all_places ∙ ap (λ es. end 0 ∷ end 1 ∷ es) (map-append end lefts ((2 + m) ∷ rights))

  pub ends_left : left_ends ((leg_at ls m ∷ flipped (leg_at ls m) ∷ []) ++ ls) ((1, 2 + m) ∷ []) ≡ end 0 ∷ (left ++ right)
  ends_left = ap (map end) open_is ∙ ap (λ es. end 0 ∷ es) (map-append end lefts rights)

  abbrev pub bond : Bond
  bond = record { label = pos 1; dim = total (leg_at ls m).sectors; twisted = false }

  -- one end of the bond is that of the diagonal tensor's second leg, the other that of leg m
  pub bond_ends : AreEnds 1 ((leg_at ls m ∷ flipped (leg_at ls m) ∷ []) ++ ls) (1, 2 + m) (label_at ((1, 2 + m) ∷ []))
  bond_ends = numbered_ends 1 whole (1, 2 + m) [] (label_at couples) (numbered whole couples good)

  -- the label of an open place is not that of the bond
  pub label_apart : (i : ℕ) → is_coupled ((1, 2 + m) ∷ []) i ≡ false → int_eq (label_at ((1, 2 + m) ∷ []) i) (pos 1) ≡ false
  label_apart i h = ap (λ l. int_eq l (pos 1)) (open_label couples i h)

  pub values_apart : (is : List ℕ) → ((i : ℕ) → is_in ◌==◌ i is ≡ true → is_coupled ((1, 2 + m) ∷ []) i ≡ false) → (a : Assignment) (u : ℕ) →
      values (map (end_at ((leg_at ls m ∷ flipped (leg_at ls m) ∷ []) ++ ls) ((1, 2 + m) ∷ [])) is) (assign a (pos 1) u)
      ≡ values (map (end_at ((leg_at ls m ∷ flipped (leg_at ls m) ∷ []) ++ ls) ((1, 2 + m) ∷ [])) is) a
  values_apart [] h a u = refl
  values_apart (i ∷ is) h a u =
      ap₂ ◌∷◌ (ap (λ b. cond b u (a (end i))) (label_apart i (h i (or_left (i == i) (is_in ◌==◌ i is) (eq-eqb i i refl)))))
      (values_apart is (λ j l. h j (or_right (j == i) (is_in ◌==◌ j is) l)) a u)
