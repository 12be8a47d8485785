-- A tensor weighed by a diagonal one.
use Rattle.std.proofs.Common.{◌≡◌, ◌<◌, ℕ, suc, ◌+◌, ◌-◌, ◌*◌, ◌==◌, pos, true, false, ◌&&◌, cond, List, [], ◌∷◌, ◌++◌, refl, sym, ◌∙◌, ap, ap₂, subst, map, length, drop, get_or, append-nil, zero-add, eqb-true, eq-eqb, ◌⊎◌, inl, inr, arith}
use Rattle.std.specs.List.{All, range_with_len}
use Rattle.std.proofs.lemmas.Bool.{or_left, or_right, or_cases}
use Rattle.std.proofs.lemmas.List.{map-append, length-append, get_or-append-add}
use Rattle.std.proofs.lemmas.List.FromFn.{length-map-range_with_len}
use Rattle.std.proofs.Math.ListN.{get_or-append}
use Rattle.qn_sign.specs.Sign.{is_in, is_odd, exchange_sign, IsDistinct, Perm}
use Rattle.qn_sign.specs.Sign.Perm.{none, keep, swap, then_by}
use Rattle.qn_sign.specs.Positions.{positions, is_odd_at}
use Rattle.qn_sign.proofs.Positions.{positions_stand_for_things}
use Rattle.qn_sign.proofs.Order.{is_in-append}
use Rattle.qn_sign.proofs.Parity.{perm-sym, perm_blocks}
use Rattle.qn_gauss.specs.Gaussian.{Gaussian, zero_g, mul_g, mag, signed}
use Rattle.qn_charge.specs.Charges.{parity, zero_charge}
use Rattle.qn_index.specs.declared.leg.Dir.{Dir}
use Rattle.qn_index.specs.declared.leg.Dir.TheVariants.{Out, In}
use Rattle.qn_index.specs.Legs.{LegValue, total, flipped, other_way, parity_at}
use Rattle.qn_index.specs.Places.{IsValues}
use Rattle.qn_value.specs.Networks.{End, Node, Bond, Assignment, Parities, same_end, odd_end, in_end, out_end, goal, word, values, at_values, flat, IsNetwork}
use Rattle.qn_value.specs.Tensors.{Row, TensorValue, entry_of}
use Rattle.qn_value.specs.Labels.{Slot, is_inward, ends, node_of, sectors_on, parity_of, bonds_of, opens_of}
use Rattle.qn_value.specs.Local.{no_leg, label_at, picked, parities, moving_sign, open_from, open_legs, pair_network, pair_entry, IsCoupling}
use Rattle.qn_value.specs.Magnitudes.{total as total_of, magnitudes, pair_magnitude}
use Rattle.qn_value.proofs.NetLaws.{end_test}
use Rattle.qn_value.proofs.RowsLemmas.{values_back, append_parts}
use Rattle.qn_value.proofs.OrderLaws.{opens_law}
use Rattle.qn_value.proofs.CoupledLemmas.{leg_at}
use Rattle.qn_strides.proofs.Goal.{of_positions, all_ends, bonds_perm, opens_at, AreEnds}
use Rattle.qn_strides.proofs.Lines.{all_slots, ends_all, all_within, goal_perm, lines_fit, open_at, open_within}
use Rattle.qn_strides.proofs.Opens.{left_legs, left_count, left_distinct, ends_distinct}
use Rattle.qn_kernel.proofs.Places.{range_append}
use Rattle.qn_pair.proofs.Contracted.{slots_two, first_labelled, second_labelled}
use Rattle.qn_unmet.proofs.Alike.{first_count, ends_whole}
use Rattle.qn_diagonal.specs.Diagonal.{diagonal_entry, put_back}
use Rattle.qn_diagonal.proofs.Nodes.{nodes, Turned, IsWeighing, weighs, sizes}
use Rattle.qn_diagonal.proofs.Places.{map_range, shared, good, leg_later, first_open, lefts_open, rights_open, open_is, all_is, ends_left, bond_ends, label_apart, values_apart, end, left, right, bond}

-- ---- lists

map_get : {A : Type 0} (d : A) (xs : List A) → map (λ i. get_or xs i d) (range_with_len 0 (length xs)) ≡ xs
map_get d [] = refl
map_get {A} d (x ∷ xs) = ap (λ ys. x ∷ ys) (map_range (λ i. get_or (x ∷ xs) i d) (λ i. get_or xs i d) 1 0 (length xs) (λ i l. get_or-append-add (x ∷ []) xs i d ∙ ap (λ j. get_or xs j d) (sym (zero-add i))) ∙ map_get d xs)

-- the first thing is put behind the others before it
picks : {A : Type 0} (d x : A) (us vs : List A) → map (λ i. get_or (x ∷ (us ++ vs)) i d) (range_with_len 1 (length us) ++ 0 ∷ range_with_len (length us + 1) (length vs)) ≡ us ++ x ∷ vs
picks {A} d x us vs =
    map-append (λ i. get_or (x ∷ (us ++ vs)) i d) (range_with_len 1 (length us)) (0 ∷ range_with_len (length us + 1) (length vs))
    ∙ ap₂ (λ ys zs. ys ++ x ∷ zs)
    (map_range (λ i. get_or (x ∷ (us ++ vs)) i d) (λ i. get_or us i d) 1 0 (length us) (λ i l. get_or-append-add (x ∷ []) (us ++ vs) i d ∙ get_or-append us vs d i l ∙ ap (λ j. get_or us j d) (sym (zero-add i))) ∙ map_get d us)
    (map_range (λ i. get_or (x ∷ (us ++ vs)) i d) (λ i. get_or vs i d) (length us + 1) 0 (length vs) (λ i l. ap (λ j. get_or (x ∷ (us ++ vs)) j d) (next (length us) i) ∙ get_or-append-add (x ∷ []) (us ++ vs) (length us + i) d ∙ get_or-append-add us vs i d ∙ ap (λ j. get_or vs j d) (sym (zero-add i))) ∙ map_get d vs)
  where
    next : (n i : ℕ) → n + 1 + i ≡ 1 + (n + i)
    next n i = omega arith

-- a list of two at the front
two_first : (us vs : List End) (x y : End) (zs : List End) → length us ≡ 2 → us ++ vs ≡ x ∷ y ∷ zs → (us ≡ x ∷ y ∷ []) × (vs ≡ zs)
two_first [] vs x y zs n e = absurd (omega (arith, n))
two_first (u ∷ []) vs x y zs n e = absurd (omega (arith, n))
two_first (u ∷ w ∷ []) vs x y zs n e =
    (ap₂ (λ p q. p ∷ q ∷ []) (ap (λ (es : List End). get_or es 0 u) e) (ap (λ (es : List End). get_or es 1 u) e), ap (drop 2) e)
two_first (u ∷ w ∷ t ∷ us) vs x y zs n e = absurd (omega (arith, n))

-- a list by its first m things, the next one, and the others
module _ {A : Type 0} (d : A) (xs : List A) (m k : ℕ) (count : length xs ≡ m + suc k) where
  abbrev pub before : List A
  before = map (λ i. get_or xs i d) (range_with_len 0 m)

  abbrev pub after : List A
  after = map (λ i. get_or xs i d) (range_with_len (m + 1) k)

  pub split_is : before ++ get_or xs m d ∷ after ≡ xs
  split_is =
      sym (map-append (λ i. get_or xs i d) (range_with_len 0 m) (m ∷ range_with_len (m + 1) k))
      ∙ ap (map (λ i. get_or xs i d)) (ap (λ a. range_with_len 0 m ++ range_with_len a (suc k)) (sym (zero-add m)) ∙ sym (range_append 0 m (suc k)))
      ∙ ap (λ n. map (λ i. get_or xs i d) (range_with_len 0 n)) (sym count) ∙ map_get d xs

  pub before_count : length before ≡ m
  before_count = length-map-range_with_len (λ i. get_or xs i d) 0 m

  pub after_count : length after ≡ k
  after_count = length-map-range_with_len (λ i. get_or xs i d) (m + 1) k

-- values in range, one of them brought to the front
values_first : (gs : List LegValue) (l : LegValue) (hs : List LegValue) (us : List ℕ) (x : ℕ) (vs : List ℕ) → length us ≡ length gs → IsValues (gs ++ l ∷ hs) (us ++ x ∷ vs) → IsValues (l ∷ (gs ++ hs)) (x ∷ (us ++ vs))
values_first [] l hs [] x vs n h = h
values_first [] l hs (u ∷ us) x vs n h = absurd (omega (arith, n))
values_first (g ∷ gs) l hs [] x vs n h = absurd (omega (arith, n))
values_first (g ∷ gs) l hs (u ∷ us) x vs n h = let r = values_first gs l hs us x vs (omega (arith, n)) h.1 in (r.0, (h.0, r.1))

empty_perm : {A : Type 0} {xs ys : List A} → Perm xs ys → length xs ≡ 0 → ys ≡ []
empty_perm none n = refl
empty_perm (keep p) n = absurd (omega (arith, n))
empty_perm swap n = absurd (omega (arith, n))
empty_perm (then_by p q) n = empty_perm q (ap (λ xs. length xs) (empty_perm p n))

single_perm : {A : Type 0} {xs ys : List A} → Perm xs ys → length xs ≡ 1 → xs ≡ ys
single_perm none n = absurd (omega (arith, n))
single_perm (keep {x = x} {xs = []} p) n = ap (λ zs. x ∷ zs) (sym (empty_perm p refl))
single_perm (keep {x = x} {xs = z ∷ zs} p) n = absurd (omega (arith, n))
single_perm swap n = absurd (omega (arith, n))
single_perm (then_by p q) n = single_perm p n ∙ single_perm q (ap (λ xs. length xs) (sym (single_perm p n)) ∙ n)

-- ---- the contraction

module _ (rs : List Row) (t : TensorValue) (m k : ℕ) (count : length t.legs ≡ m + suc k) where
  -- the diagonal tensor with these rows
  abbrev pub diagonal : TensorValue
  diagonal = record { group = t.group; legs = leg_at t.legs m ∷ flipped (leg_at t.legs m) ∷ []; flux = zero_charge t.group; rows = rs }

  abbrev cs : List (ℕ × ℕ)
  cs = (1, 2 + m) ∷ []

  abbrev ws : List LegValue
  ws = (leg_at t.legs m ∷ flipped (leg_at t.legs m) ∷ []) ++ t.legs

  abbrev E : ℕ → End
  E = end t.legs m k count

  abbrev L : List End
  L = left t.legs m k count

  abbrev R : List End
  R = right t.legs m k count

  abbrev B : Bond
  B = bond t.legs m k count

  abbrev S : List Slot
  S = all_slots ((leg_at t.legs m ∷ flipped (leg_at t.legs m) ∷ []) ++ t.legs) ((1, 2 + m) ∷ [])

  abbrev par : Parities
  par = parity_of t.group S

  abbrev two : List Node
  two = nodes par (E 0) (E 1) (E (2 + m)) L R (entry_of diagonal) (entry_of t) (parity t.group (zero_charge t.group)) (parity t.group t.flux) B

  -- the open legs: that of the diagonal tensor first, or in the place of leg m
  abbrev O : List End
  O = E 0 ∷ (L ++ R)

  abbrev P : List End
  P = L ++ (E 0 ∷ R)

  ok : IsCoupling ((leg_at t.legs m ∷ flipped (leg_at t.legs m) ∷ []) ++ t.legs) ((1, 2 + m) ∷ [])
  ok = good t.legs m k count

  ends_two : ((node_of (first_labelled diagonal t cs)).ends ≡ E 0 ∷ E 1 ∷ []) × ((node_of (second_labelled diagonal t cs)).ends ≡ L ++ (E (2 + m) ∷ R))
  ends_two =
      two_first (node_of (first_labelled diagonal t cs)).ends (node_of (second_labelled diagonal t cs)).ends (E 0) (E 1) (L ++ (E (2 + m) ∷ R))
      (first_count diagonal t ((1, m) ∷ []) (shared t.legs m k count))
      (ends_whole diagonal t ((1, m) ∷ []) (shared t.legs m k count) ∙ all_is t.legs m k count)

  nodes_are : map node_of (pair_network diagonal t ((1, m) ∷ [])) ≡ two
  nodes_are = λ i.
      record { ends = ends_two.0 i; entry = entry_of diagonal; odd = parity t.group (zero_charge t.group) }
      ∷ record { ends = ends_two.1 i; entry = entry_of t; odd = parity t.group t.flux } ∷ []

  word_is : word two ≡ E 0 ∷ E 1 ∷ (L ++ (E (2 + m) ∷ R))
  word_is = ap (λ es. E 0 ∷ E 1 ∷ es) (append-nil (L ++ (E (2 + m) ∷ R)))

  apart_ends : IsDistinct same_end (E 0 ∷ E 1 ∷ (L ++ (E (2 + m) ∷ R)))
  apart_ends = subst (IsDistinct same_end) (all_is t.legs m k count) (ends_distinct ws cs ok)

  network : IsNetwork two (B ∷ []) O
  network = record {
    distinct = subst (IsDistinct same_end) (sym word_is) apart_ends;
    complete = subst (λ es. Perm es (goal (B ∷ []) O)) (all_is t.legs m k count ∙ sym word_is) (subst (λ es. Perm (all_ends ws cs) (goal (B ∷ []) es)) (ends_left t.legs m k count) (goal_perm ws cs ok));
  }

  bonds_are : bonds_of [] S ≡ B ∷ []
  bonds_are = sym (single_perm (perm-sym (bonds_perm ws cs ok)) refl)

  opens_are : (ys : List ℕ) → length ys ≡ length (left_legs ws cs) → opens_of (ends S) (length ys) ≡ O
  opens_are ys n = ap₂ opens_of (ends_all ws cs) (n ∙ left_count ws cs ok) ∙ sym (opens_at ws cs ok) ∙ ends_left t.legs m k count

  value_is : (ys : List ℕ) → length ys ≡ length (left_legs ws cs) → pair_entry diagonal t ((1, m) ∷ []) false ys ≡ flat par two (B ∷ []) O (at_values O ys)
  value_is ys n =
      ap (λ (sl : List Slot). flat (parity_of t.group sl) (map node_of (pair_network diagonal t ((1, m) ∷ []))) (bonds_of [] sl) (opens_of (ends sl) (length ys)) (at_values (opens_of (ends sl) (length ys)) ys)) (slots_two diagonal t cs)
      ∙ (λ i. flat par (nodes_are i) (bonds_are i) (opens_are ys n i) (at_values (opens_are ys n i) ys))

  size_is : (ys : List ℕ) → length ys ≡ length (left_legs ws cs) → pair_magnitude diagonal t ((1, m) ∷ []) ys ≡ total_of (B ∷ []) (magnitudes two) (at_values O ys)
  size_is ys n =
      ap (λ (sl : List Slot). total_of (bonds_of [] sl) (magnitudes (map node_of (pair_network diagonal t ((1, m) ∷ [])))) (at_values (opens_of (ends sl) (length ys)) ys)) (slots_two diagonal t cs)
      ∙ (λ i. total_of (bonds_are i) (magnitudes (nodes_are i)) (at_values (opens_are ys n i) ys))

  -- ---- legs

  abbrev l : LegValue
  l = leg_at t.legs m

  abbrev gs : List LegValue
  gs = before no_leg t.legs m k count

  abbrev hs : List LegValue
  hs = after no_leg t.legs m k count

  abbrev places : List ℕ
  places = 0 ∷ (range_with_len 2 m ++ range_with_len (3 + m) k)

  legs_at : map (leg_at ws) places ≡ l ∷ (gs ++ hs)
  legs_at =
      ap (λ zs. l ∷ zs) (map-append (leg_at ws) (range_with_len 2 m) (range_with_len (3 + m) k)
      ∙ ap₂ (λ zs us. zs ++ us)
      (map_range (leg_at ws) (leg_at t.legs) 2 0 m (λ i n. leg_later t.legs m k count i ∙ ap (leg_at t.legs) (sym (zero-add i))))
      (map_range (leg_at ws) (leg_at t.legs) (3 + m) (m + 1) k (λ i n. ap (leg_at ws) (next i) ∙ leg_later t.legs m k count (m + 1 + i))))
    where
      next : (i : ℕ) → 3 + m + i ≡ 2 + (m + 1 + i)
      next i = omega arith

  legs_left : left_legs ws cs ≡ l ∷ (gs ++ hs)
  legs_left = ap (map (leg_at ws)) (open_is t.legs m k count) ∙ legs_at

  pub legs_open : open_legs (diagonal ∷ t ∷ []) ((1, 2 + m) ∷ []) ≡ l ∷ (gs ++ hs)
  legs_open = ap (λ zs. open_from 0 cs ((l ∷ flipped l ∷ []) ++ zs)) (append-nil t.legs) ∙ open_at ws cs ∙ legs_left

  left_long : length (left_legs ws cs) ≡ suc (m + k)
  left_long = ap (λ (zs : List LegValue). length zs) legs_left ∙ ap suc (length-append gs hs ∙ ap₂ ◌+◌ (before_count no_leg t.legs m k count) (after_count no_leg t.legs m k count))

  L_long : length L ≡ m
  L_long = length-map-range_with_len E 2 m

  R_long : length R ≡ k
  R_long = length-map-range_with_len E (3 + m) k

  O_long : length O ≡ suc (m + k)
  O_long = ap suc (length-append L R ∙ ap₂ ◌+◌ L_long R_long)

  O_distinct : IsDistinct same_end O
  O_distinct = subst (IsDistinct same_end) (ends_left t.legs m k count) (left_distinct ws cs ok)

  -- ---- the order

  order_for : (n j : ℕ) → n ≡ m → j ≡ k → put_back m (length t.legs) ≡ range_with_len 1 n ++ 0 ∷ range_with_len (n + 1) j
  order_for n j e f = λ i. range_with_len 1 (sym e i) ++ 0 ∷ range_with_len (sym e i + 1) (rest i)
    where
      rest : length t.legs - m - 1 ≡ j
      rest = omega (arith, count, f)

  pub legs_back : picked no_leg (l ∷ (gs ++ hs)) (put_back m (length t.legs)) ≡ t.legs
  legs_back =
      ap (picked no_leg (l ∷ (gs ++ hs))) (order_for (length gs) (length hs) (before_count no_leg t.legs m k count) (after_count no_leg t.legs m k count))
      ∙ picks no_leg l gs hs ∙ split_is no_leg t.legs m k count

  ends_back : (d : End) → map (λ i. get_or O i d) (put_back m (length t.legs)) ≡ P
  ends_back d = ap (map (λ i. get_or O i d)) (order_for (length L) (length R) L_long R_long) ∙ picks d (E 0) L R

  order_within : All (λ i. i < length O) (put_back m (length t.legs))
  order_within = all_within (length O) (put_back m (length t.legs)) (λ i h. by i (or_cases (is_in ◌==◌ i (range_with_len 1 m)) (is_in ◌==◌ i (0 ∷ range_with_len (m + 1) k)) (sym (is_in-append ◌==◌ i (range_with_len 1 m) (0 ∷ range_with_len (m + 1) k)) ∙ ap (is_in ◌==◌ i) (sym (order_for m k refl refl)) ∙ h)))
    where
      later : (i : ℕ) → ((i == 0) ≡ true) ⊎ (is_in ◌==◌ i (range_with_len (m + 1) k) ≡ true) → i < length O
      later i (inl e) = omega (arith, eqb-true i 0 e, O_long)
      later i (inr h) = let r = of_positions (m + 1) k i h in omega (arith, r.1, O_long)

      by : (i : ℕ) → (is_in ◌==◌ i (range_with_len 1 m) ≡ true) ⊎ (is_in ◌==◌ i (0 ∷ range_with_len (m + 1) k) ≡ true) → i < length O
      by i (inl h) = let r = of_positions 1 m i h in omega (arith, r.1, O_long)
      by i (inr h) = later i (or_cases (i == 0) (is_in ◌==◌ i (range_with_len (m + 1) k)) h)

  -- the sectors of the lines are those of the legs
  fits : (i : ℕ) → i < length ws → sectors_on S (label_at cs i) ≡ (leg_at ws i).sectors
  fits i n = lines_fit ws cs ok i n

  parities_by : (a : Assignment) (is : List ℕ) → ((i : ℕ) → is_in ◌==◌ i is ≡ true → i < length ws) → map (odd_end par a) (map E is) ≡ parities t.group (map (leg_at ws) is) (map a (map E is))
  parities_by a [] h = refl
  parities_by a (i ∷ is) h =
      ap₂ ◌∷◌ (ap (λ ss. parity_at t.group ss (a (E i))) (fits i (h i (or_left (i == i) (is_in ◌==◌ i is) (eq-eqb i i refl)))))
      (parities_by a is (λ j n. h j (or_right (j == i) (is_in ◌==◌ j is) n)))

  places_within : (i : ℕ) → is_in ◌==◌ i places ≡ true → i < length ws
  places_within i h = open_within ws cs i (ap (is_in ◌==◌ i) (open_is t.legs m k count) ∙ h)

  ends_at : map E places ≡ O
  ends_at = ap (λ es. E 0 ∷ es) (map-append E (range_with_len 2 m) (range_with_len (3 + m) k))

  turned_by : (d : Dir) → E (cond (is_inward (other_way d)) 1 (2 + m)) ≡ in_end B → E (cond (is_inward (other_way d)) (2 + m) 1) ≡ out_end B →
      Turned par (E 0) (E 1) (E (2 + m)) L R (entry_of diagonal) (entry_of t) (parity t.group (zero_charge t.group)) (parity t.group t.flux) B (is_inward d)
  turned_by Out e f = (e, f)
  turned_by In e f = (e, f)

  -- ---- values of the tensor's legs

  module _ (xs : List ℕ) (long : length xs ≡ m + suc k) (range : IsValues t.legs xs) where
    abbrev x : ℕ
    x = get_or xs m 0

    abbrev us : List ℕ
    us = before 0 xs m k long

    abbrev vs : List ℕ
    vs = after 0 xs m k long

    -- the value of leg m first
    abbrev pub ys : List ℕ
    ys = get_or xs m 0 ∷ (before 0 xs m k long ++ after 0 xs m k long)

    ys_long : length ys ≡ suc (m + k)
    ys_long = ap suc (length-append us vs ∙ ap₂ ◌+◌ (before_count 0 xs m k long) (after_count 0 xs m k long))

    pub ys_range : IsValues (l ∷ (gs ++ hs)) ys
    ys_range =
        values_first gs l hs us x vs (before_count 0 xs m k long ∙ sym (before_count no_leg t.legs m k count))
        (subst (λ ls. IsValues ls (us ++ x ∷ vs)) (sym (split_is no_leg t.legs m k count)) (subst (IsValues t.legs) (sym (split_is 0 xs m k long)) range))

    pub values_put_back : picked 0 ys (put_back m (length t.legs)) ≡ xs
    values_put_back =
        ap (picked 0 ys) (order_for (length us) (length vs) (before_count 0 xs m k long) (after_count 0 xs m k long))
        ∙ picks 0 x us vs ∙ split_is 0 xs m k long

    abbrev a : Assignment
    a = at_values O ys

    back : values O a ≡ ys
    back = values_back O ys O_distinct (ys_long ∙ sym O_long)

    a_first : a (E 0) ≡ x
    a_first = ap (λ zs. get_or zs 0 0) back

    a_parts : (values L a ≡ us) × (values R a ≡ vs)
    a_parts =
        append_parts (values L a) (values R a) us vs (values_count L ∙ L_long ∙ sym (before_count 0 xs m k long)) (sym (map-append a L R) ∙ ap rest back)
      where
        rest : List ℕ → List ℕ
        rest [] = []
        rest (z ∷ zs) = zs

        values_count : (es : List End) → length (map (at_values O ys) es) ≡ length es
        values_count [] = refl
        values_count (e ∷ es) = ap suc (values_count es)

    moved_sign : moving_sign t.group (l ∷ (gs ++ hs)) ys (put_back m (length t.legs)) ≡ exchange_sign same_end (odd_end par a) O P
    moved_sign = sym (
        ap (exchange_sign same_end (odd_end par a) O) (sym (ends_back (E 0)))
        ∙ ap is_odd (positions_stand_for_things same_end end_test (odd_end par a) O (E 0) (put_back m (length t.legs)) O_distinct order_within)
        ∙ ap₂ (λ bs n. exchange_sign ◌==◌ (is_odd_at bs) (positions n) (put_back m (length t.legs)))
        (ap (map (odd_end par a)) (sym ends_at) ∙ parities_by a places places_within ∙ ap₂ (parities t.group) legs_at (ap (map a) ends_at ∙ back))
        (O_long ∙ sym left_long ∙ ap (λ (zs : List LegValue). length zs) legs_left))

    module _ (weight : ℕ → Gaussian) (entries : (v w : ℕ) → v < total l.sectors → w < total l.sectors → entry_of diagonal (v ∷ w ∷ []) ≡ diagonal_entry t.group l weight v w) where
      weighing : IsWeighing par (E 0) (E 1) (E (2 + m)) L R (entry_of diagonal) (entry_of t) (parity t.group (zero_charge t.group)) (parity t.group t.flux) B (is_inward l.arrow) (weight x) x a
      weighing = record {
        distinct = apart_ends;
        turned = let e : AreEnds 1 ws (1, 2 + m) (label_at cs) = bond_ends t.legs m k count in turned_by l.arrow e.first e.second;
        plain = refl;
        within = ys_range.0;
        value = a_first;
        x_apart = label_apart t.legs m k count 0 (first_open t.legs m k count);
        left_apart = λ u. values_apart t.legs m k count (range_with_len 2 m) (lefts_open t.legs m k count) a u;
        right_apart = λ u. values_apart t.legs m k count (range_with_len (3 + m) k) (rights_open t.legs m k count) a u;
        parity = ap (λ ss. parity_at t.group ss x) (fits 0 (omega arith)) ∙ sym line;
        entry = λ w n. entries x w ys_range.0 n ∙ ap (λ b. cond (x == w) (signed (is_inward l.arrow && b) (weight x)) zero_g) (sym line);
      }
        where
          line : parity_at t.group (sectors_on S (pos 1)) x ≡ parity_at t.group (leg_at t.legs m).sectors x
          line = ap (λ ss. parity_at t.group ss x) (fits 1 (omega arith))

      again : values L a ++ (x ∷ values R a) ≡ xs
      again = (λ i. a_parts.0 i ++ (x ∷ a_parts.1 i)) ∙ split_is 0 xs m k long

      pub entry_back : signed (moving_sign t.group (l ∷ (gs ++ hs)) ys (put_back m (length t.legs))) (pair_entry diagonal t ((1, m) ∷ []) false ys) ≡ mul_g (weight (get_or xs m 0)) (entry_of t xs)
      entry_back =
          ap₂ signed moved_sign (value_is ys (ys_long ∙ sym left_long))
          ∙ sym (opens_law par two (B ∷ []) O P network (perm_blocks (E 0 ∷ []) L R) a)
          ∙ weighs par (E 0) (E 1) (E (2 + m)) L R (entry_of diagonal) (entry_of t) (parity t.group (zero_charge t.group)) (parity t.group t.flux) B (is_inward l.arrow) (weight x) x a weighing
          ∙ ap (λ zs. mul_g (weight x) (entry_of t zs)) again

      pub size_back : pair_magnitude diagonal t ((1, m) ∷ []) ys ≡ mag (weight (get_or xs m 0)) * mag (entry_of t xs)
      size_back =
          size_is ys (ys_long ∙ sym left_long)
          ∙ sizes par (E 0) (E 1) (E (2 + m)) L R (entry_of diagonal) (entry_of t) (parity t.group (zero_charge t.group)) (parity t.group t.flux) B (is_inward l.arrow) (weight x) x a weighing
          ∙ ap (λ zs. mag (weight x) * mag (entry_of t zs)) again
