-- Entries of a contraction and their sums of magnitudes, by the blocks that are multiplied.
use Rattle.std.proofs.Common.{◌≡◌, ◌<◌, ℕ, zero, suc, ◌+◌, ◌*◌, ◌==◌, ℤ, Bool, true, false, ◌&&◌, cond, List, [], ◌∷◌, ◌++◌, refl, sym, ◌∙◌, ap, ap₂, subst, map, filter, length, take, drop, get_or, append-nil, zero-add, arith}
use mathlib.Core.Path.{fun_ext}
use Rattle.std.specs.List.{range_with_len, flat_map, sum_by}
use Rattle.std.proofs.Math.Nat.{add-mul}
use Rattle.std.proofs.Math.Seq.{take-append_seam, drop-append_seam}
use Rattle.std.proofs.lemmas.List.{map-append, length-append}
use Rattle.std.proofs.lemmas.List.Sums.{sum_by-cons}
use Rattle.std.proofs.lemmas.List.FromFn.{length-map-range_with_len}
use Rattle.std.proofs.Math.ListN.{get_or-append}
use Rattle.std.proofs.lemmas.List.{get_or-append-add}
use Rattle.qn_sign.specs.Sign.{exchange_sign}
use Rattle.qn_sign.specs.Positions.{positions, is_odd_at}
use Rattle.qn_gauss.specs.Gaussian.{Gaussian, zero_g, one_g, add_g, mul_g, signed}
use Rattle.qn_gauss.proofs.Ring.{add_assoc, one_mul, zero_mul, mul_add_right}
use Rattle.qn_charge.specs.Charges.{parity}
use Rattle.qn_index.specs.Legs.{LegValue, SectorValue}
use Rattle.qn_index.specs.Tuples.{IsTuple}
use Rattle.qn_index.specs.Places.{block_size, values_at}
use Rattle.qn_index.proofs.Nets.{tuple_length}
use Rattle.qn_value.specs.Networks.{End, Node, Parities, at_values, flat, sum_below, AreAlike}
use Rattle.qn_value.specs.Tensors.{BlockValue, TensorValue, no_block, entry_in}
use Rattle.qn_value.specs.Labels.{Placed, Slot, is_inward, slots_of, slots, ends, node_of, sectors_on, parity_of, bonds_of, opens_of}
use Rattle.qn_value.specs.Blocks.{blocked_node, HaveTuples}
use Rattle.qn_value.specs.Rows.{sum_over, when}
use Rattle.qn_value.specs.Local.{no_leg, label_at, labels_of, coupled, pair_entry, IsCoupling}
use Rattle.qn_value.proofs.NetLaws.{signed-xor}
use Rattle.qn_value.proofs.RowsLemmas.{zero_add, over-congr, over-signed}
use Rattle.qn_value.proofs.BlockRows.{block_rows}
use Rattle.qn_value.proofs.CoupledLemmas.{leg_at, slot_at, slots_coupled}
use Rattle.qn_block.specs.Blocked.{BlockedValue, IsBlocked, tensor_of}
use Rattle.qn_block.specs.Refusals.{block_at}
use Rattle.qn_match.specs.Pairs.{give, all_pairs, pairs_for, IsShared}
use Rattle.qn_strides.specs.Strides.{open_places, goal_places, strides, kept_axes, start_of, sector_parities}
use Rattle.qn_strides.proofs.Goal.{end_at, all_ends, bonds_perm}
use Rattle.qn_strides.proofs.Lines.{all_slots, FitLines, lines_fit, gives_tuple, sector_parity, parities_are}
use Rattle.qn_strides.proofs.Opens.{left_legs, opens_eq}
use Rattle.qn_strides.proofs.Blocks.{over_tuples, have_tuples, distinct_blocks}
use Rattle.qn_strides.proofs.Reals.{real, real_add, real_zero, real_below}
use Rattle.qn_kernel.specs.Sources.{couples_of, PairedValue, paired_axes, sum_both, total_both, product_at, source_of, sources, source_term, entry_sum}
use Rattle.qn_kernel.proofs.Frames.{tuple_joined}
use Rattle.qn_pair.proofs.Words.{coupling}
use Rattle.qn_pair.proofs.Weighed.{first_ends, second_ends, shifted}
use Rattle.qn_pair.proofs.Terms.{pair_term, first_blocked, second_blocked, legs_first, legs_second, flat_pairs}
use Rattle.qn_kernel.proofs.Places.{range_append}

-- ---- sums over pairs of positions

sum_append : {X : Type 0} (xs ys : List X) (f : X → Gaussian) → sum_over (xs ++ ys) f ≡ add_g (sum_over xs f) (sum_over ys f)
sum_append [] ys f = sym (zero_add (sum_over ys f))
sum_append (x ∷ xs) ys f = ap (add_g (f x)) (sum_append xs ys f) ∙ sym (add_assoc (f x) (sum_over xs f) (sum_over ys f))

pub sum_map : {X Y : Type 0} (h : X → Y) (xs : List X) (f : Y → Gaussian) → sum_over (map h xs) f ≡ sum_over xs (λ x. f (h x))
sum_map h [] f = refl
sum_map h (x ∷ xs) f = ap (add_g (f (h x))) (sum_map h xs f)

sum_flat : {X Y : Type 0} (h : X → List Y) (xs : List X) (f : Y → Gaussian) → sum_over (flat_map h xs) f ≡ sum_over xs (λ x. sum_over (h x) f)
sum_flat h [] f = refl
sum_flat h (x ∷ xs) f = sum_append (h x) (flat_map h xs) f ∙ ap (add_g (sum_over (h x) f)) (sum_flat h xs f)

sum_filter : {X : Type 0} (t : X → Bool) (xs : List X) (f : X → Gaussian) → sum_over (filter t xs) f ≡ sum_over xs (λ x. when (t x) (f x))
sum_filter t [] f = refl
sum_filter {X} t (x ∷ xs) f = go (t x) (sum_filter t xs f)
  where
    go : (b : Bool) → sum_over (filter t xs) f ≡ sum_over xs (λ x. when (t x) (f x)) → sum_over (cond b (x ∷ filter t xs) (filter t xs)) f ≡ add_g (when b (f x)) (sum_over xs (λ x. when (t x) (f x)))
    go true e = ap (add_g (f x)) e
    go false e = e ∙ sym (zero_add (sum_over xs (λ x. when (t x) (f x))))

sum_range : (g : ℕ → Gaussian) (f : BlockValue → Gaussian) (a : ℕ) (bs : List BlockValue) → ((k : ℕ) → k < length bs → g (a + k) ≡ f (get_or bs k no_block)) → sum_over (range_with_len a (length bs)) g ≡ sum_over bs f
sum_range g f a [] h = refl
sum_range g f a (b ∷ bs) h = ap₂ add_g (ap g here ∙ h 0 (omega arith)) (sum_range g f (a + 1) bs (λ k l. ap g (next k) ∙ h (suc k) (omega arith)))
  where
    here : a ≡ a + 0
    here = omega arith

    next : (k : ℕ) → a + 1 + k ≡ a + suc k
    next k = omega arith

sum_blocks : (f : BlockValue → Gaussian) (bs : List BlockValue) → sum_over (positions (length bs)) (λ i. f (block_at bs i)) ≡ sum_over bs f
sum_blocks f bs = sum_range (λ i. f (block_at bs i)) f 0 bs (λ k l. ap (λ i. f (block_at bs i)) (zero-add k))

-- the sum over all pairs of blocks that give a tuple
pub sum_pairs : (ps : List (ℕ × ℕ)) (bs ds : List BlockValue) (ss : List ℕ) (f : BlockValue → BlockValue → Gaussian) →
    sum_over bs (λ b. sum_over ds (λ d. when (give ps ss b.tuple d.tuple) (f b d))) ≡ sum_over (pairs_for ps bs ds ss) (λ p. f (block_at bs p.0) (block_at ds p.1))
sum_pairs ps bs ds ss f = sym (
    sum_filter test (all_pairs (length bs) (length ds)) (λ p. f (block_at bs p.0) (block_at ds p.1))
    ∙ sum_flat (λ i. map (λ j. (i, j)) (positions (length ds))) (positions (length bs)) (λ p. when (test p) (f (block_at bs p.0) (block_at ds p.1)))
    ∙ over-congr (positions (length bs)) _ _ (λ i. sum_map (λ (j : ℕ). (i, j)) (positions (length ds)) (λ p. when (test p) (f (block_at bs p.0) (block_at ds p.1))) ∙ sum_blocks (λ d. when (give ps ss (block_at bs i).tuple d.tuple) (f (block_at bs i) d)) ds)
    ∙ sum_blocks (λ b. sum_over ds (λ d. when (give ps ss b.tuple d.tuple) (f b d))) bs)
  where
    test : ℕ × ℕ → Bool
    test p = give ps ss (block_at bs p.0).tuple (block_at ds p.1).tuple

-- ---- the ends of the two tensors

ends_range : (gs : List LegValue) (f : ℕ → ℤ) (g : ℕ → LegValue) (a : ℕ) → ((k : ℕ) → k < length gs → g (a + k) ≡ get_or gs k no_leg) →
    ends (slots_of gs (map f (range_with_len a (length gs)))) ≡ map (λ i. record { label = f i; inward = is_inward (g i).arrow }) (range_with_len a (length gs))
ends_range [] f g a h = refl
ends_range (x ∷ gs) f g a h = λ i. record { label = f a; inward = is_inward (first i).arrow } ∷ ends_range gs f g (a + 1) (λ k l. ap g (next k) ∙ h (suc k) (omega arith)) i
  where
    first : x ≡ g a
    first = sym (ap g here ∙ h 0 (omega arith))
      where
        here : a ≡ a + 0
        here = omega arith

    next : (k : ℕ) → a + 1 + k ≡ a + suc k
    next k = omega arith

labels_split : (cs : List (ℕ × ℕ)) (m n : ℕ) → labels_of cs (m + n) ≡ map (label_at cs) (positions m) ++ map (label_at cs) (range_with_len m n)
labels_split cs m n =
    ap (map (label_at cs)) (range_append 0 m n ∙ ap (λ k. positions m ++ range_with_len k n) (zero-add m)) ∙ map-append (label_at cs) (positions m) (range_with_len m n)

labels_first : (cs : List (ℕ × ℕ)) (m n : ℕ) → take m (labels_of cs (m + n)) ≡ map (label_at cs) (positions m)
labels_first cs m n =
    ap (take m) (labels_split cs m n)
    ∙ ap (λ k. take k (map (label_at cs) (positions m) ++ map (label_at cs) (range_with_len m n))) (sym (length-map-range_with_len (label_at cs) 0 m))
    ∙ take-append_seam (map (label_at cs) (positions m)) (map (label_at cs) (range_with_len m n))

labels_second : (cs : List (ℕ × ℕ)) (m n : ℕ) → take n (drop m (labels_of cs (m + n))) ≡ map (label_at cs) (range_with_len m n)
labels_second cs m n =
    ap (take n) (
    ap (drop m) (labels_split cs m n)
    ∙ ap (λ k. drop k (map (label_at cs) (positions m) ++ map (label_at cs) (range_with_len m n))) (sym (length-map-range_with_len (label_at cs) 0 m))
    ∙ drop-append_seam (map (label_at cs) (positions m)) (map (label_at cs) (range_with_len m n))
    ∙ sym (append-nil (map (label_at cs) (range_with_len m n))))
    ∙ ap (λ k. take k (map (label_at cs) (range_with_len m n) ++ [])) (sym (length-map-range_with_len (label_at cs) m n))
    ∙ take-append_seam (map (label_at cs) (range_with_len m n)) []

-- ---- natural numbers as Gaussian integers

pub unit : real 1 ≡ one_g
unfolding one_g
unit = refl

pub real_mul : (m n : ℕ) → real (m * n) ≡ mul_g (real m) (real n)
real_mul zero n = ap real none ∙ real_zero ∙ sym (ap (λ z. mul_g z (real n)) real_zero ∙ zero_product (real n))
  where
    none : zero * n ≡ 0
    none = omega arith

    zero_product : (z : Gaussian) → mul_g zero_g z ≡ zero_g
    zero_product z = zero_mul z
real_mul (suc m) n =
    ap real (one_more m n) ∙ real_add (m * n) n ∙ ap₂ add_g (real_mul m n) (sym (one_mul (real n)))
    ∙ sym (mul_add_right (real m) one_g (real n)) ∙ ap (λ z. mul_g z (real n)) (sym (ap real (next m) ∙ real_add m 1 ∙ ap (add_g (real m)) unit))
  where
    one_more : (a b : ℕ) → suc a * b ≡ a * b + b
    one_more a b = ap (λ k. k * b) (next a) ∙ add-mul a 1 b ∙ single (a * b) b
      where
        next : (c : ℕ) → suc c ≡ c + 1
        next c = omega arith

        single : (c d : ℕ) → c + 1 * d ≡ c + d
        single c d = omega arith

    next : (c : ℕ) → suc c ≡ c + 1
    next c = omega arith

pub real_both : (g : ℕ → ℕ → ℕ) (xs : List PairedValue) (p q : ℕ) → real (total_both g xs p q) ≡ sum_both (λ i j. real (g i j)) xs p q
real_both g [] p q = refl
real_both g (x ∷ xs) p q =
    real_below x.len (λ v. total_both g xs (p + v * x.first) (q + v * x.second)) ∙ ap (sum_below x.len) (fun_ext (λ v. real_both g xs (p + v * x.first) (q + v * x.second)))

pub real_sum : {X : Type 0} (f : X → ℕ) (xs : List X) → real (sum_by f xs) ≡ sum_over xs (λ x. real (f x))
real_sum f [] = real_zero
real_sum f (x ∷ xs) = ap real (sum_by-cons f x xs) ∙ real_add (f x) (sum_by f xs) ∙ ap (add_g (real (f x))) (real_sum f xs)

-- ---- the network of two tensors

pub slots_two : (s t : TensorValue) (cs : List (ℕ × ℕ)) → slots (coupled (s ∷ t ∷ []) cs) ≡ all_slots (s.legs ++ t.legs) cs
slots_two s t cs =
    subst (λ gs. slots (coupled (s ∷ t ∷ []) cs) ≡ map (slot_at (label_at cs) (leg_at (s.legs ++ gs))) (positions (length (s.legs ++ gs)))) (append-nil t.legs) (slots_coupled (s ∷ t ∷ []) cs)

-- the two tensors with their labels
abbrev pub first_labelled : TensorValue → TensorValue → List (ℕ × ℕ) → Placed
first_labelled s t cs = record { tensor = s; labels = take (length s.legs) (labels_of cs (length (s.legs ++ (t.legs ++ [])))) }

abbrev pub second_labelled : TensorValue → TensorValue → List (ℕ × ℕ) → Placed
second_labelled s t cs = record { tensor = t; labels = take (length t.legs) (drop (length s.legs) (labels_of cs (length (s.legs ++ (t.legs ++ []))))) }

word_length : (ks ls : List LegValue) → length (ks ++ (ls ++ [])) ≡ length ks + length ls
word_length ks ls = ap (λ (gs : List LegValue). length (ks ++ gs)) (append-nil ls) ∙ length-append ks ls

-- what is computed of a contraction
module _ (a b : BlockedValue) (ps : List (ℕ × ℕ)) (ha : IsBlocked a) (hb : IsBlocked b) (sh : IsShared a.legs b.legs ps) where
  abbrev word : List LegValue
  word = a.legs ++ b.legs

  abbrev cs : List (ℕ × ℕ)
  cs = couples_of (length a.legs) ps

  pub good : IsCoupling (a.legs ++ b.legs) (couples_of (length a.legs) ps)
  good = coupling a.legs b.legs ps sh

  abbrev pub lines : ℤ → List SectorValue
  lines = sectors_on (all_slots (a.legs ++ b.legs) (couples_of (length a.legs) ps))

  pub fit : FitLines (a.legs ++ b.legs) (couples_of (length a.legs) ps) lines
  fit = lines_fit word cs good

  abbrev pub first_node : Node
  first_node = node_of (first_labelled (tensor_of a) (tensor_of b) (couples_of (length a.legs) ps))

  abbrev pub second_node : Node
  second_node = node_of (second_labelled (tensor_of a) (tensor_of b) (couples_of (length a.legs) ps))

  first_ends_are : first_node.ends ≡ first_ends a.legs b.legs ps
  first_ends_are =
      ap (λ ns. ends (slots_of a.legs ns)) (ap (λ n. take (length a.legs) (labels_of cs n)) (word_length a.legs b.legs) ∙ labels_first cs (length a.legs) (length b.legs))
      ∙ ends_range a.legs (label_at cs) (leg_at word) 0 (λ k l. ap (leg_at word) (zero-add k) ∙ get_or-append a.legs b.legs no_leg k l)

  second_ends_are : second_node.ends ≡ second_ends a.legs b.legs ps
  second_ends_are =
      ap (λ ns. ends (slots_of b.legs ns)) (ap (λ n. take (length b.legs) (drop (length a.legs) (labels_of cs n))) (word_length a.legs b.legs) ∙ labels_second cs (length a.legs) (length b.legs))
      ∙ ends_range b.legs (label_at cs) (leg_at word) (length a.legs) (λ k l. get_or-append-add a.legs b.legs k no_leg)

  pub first_alike : (par : Parities) → AreAlike first_node (blocked_node lines (first_blocked par lines a.legs b.legs ps good fit sh.first a.blocks b.blocks (parity a.group a.flux) (parity b.group b.flux)))
  first_alike par = record {
    ends = first_ends_are;
    odd = refl;
    entry = λ xs l.
        block_rows a.group a.legs a.flux a.blocks ha.blocks xs (l ∙ ap (λ (es : List End). length es) first_ends_are ∙ length-map-range_with_len (end_at word cs) 0 (length a.legs))
        ∙ ap (λ gs. entry_in gs a.blocks xs) (sym (legs_first par lines a.legs b.legs ps good fit sh.first a.blocks b.blocks (parity a.group a.flux) (parity b.group b.flux)));
  }

  pub second_alike : (par : Parities) → AreAlike second_node (blocked_node lines (second_blocked par lines a.legs b.legs ps good fit sh.first a.blocks b.blocks (parity a.group a.flux) (parity b.group b.flux)))
  second_alike par = record {
    ends = second_ends_are;
    odd = refl;
    entry = λ xs l.
        block_rows b.group b.legs b.flux b.blocks hb.blocks xs (l ∙ ap (λ (es : List End). length es) second_ends_are ∙ length-map-range_with_len (end_at word cs) (length a.legs) (length b.legs))
        ∙ ap (λ gs. entry_in gs b.blocks xs) (sym (legs_second par lines a.legs b.legs ps good fit sh.first a.blocks b.blocks (parity a.group a.flux) (parity b.group b.flux)));
  }

  pub have_first : HaveTuples a.legs a.blocks
  have_first = have_tuples a.group a.legs a.flux a.blocks ha.blocks

  pub have_second : HaveTuples b.legs b.blocks
  have_second = have_tuples b.group b.legs b.flux b.blocks hb.blocks

  -- an entry, before its sign for what stands between
  value_is : (ss : List ℕ) (n : ℕ) → IsTuple (left_legs (a.legs ++ b.legs) (couples_of (length a.legs) ps)) ss → n < block_size (left_legs (a.legs ++ b.legs) (couples_of (length a.legs) ps)) ss →
      pair_entry (tensor_of a) (tensor_of b) ps false (values_at (left_legs (a.legs ++ b.legs) (couples_of (length a.legs) ps)) ss n)
      ≡ sum_over a.blocks (λ x. sum_over b.blocks (pair_term a.legs b.legs ps (sector_parities a.group (a.legs ++ b.legs)) ss n x))
  value_is ss n h lt =
      let xs : List ℕ = values_at (left_legs word cs) ss n in
      let par : Parities = sector_parity a.group lines in
      ap (λ (sl : List Slot). flat (parity_of a.group sl) (first_node ∷ second_node ∷ []) (bonds_of [] sl) (opens_of (ends sl) (length xs)) (at_values (opens_of (ends sl) (length xs)) xs)) (slots_two (tensor_of a) (tensor_of b) cs)
      ∙ ap (λ (os : List End). flat (parity_of a.group (all_slots word cs)) (first_node ∷ second_node ∷ []) (bonds_of [] (all_slots word cs)) os (at_values os xs)) (opens_eq word cs good ss n h)
      ∙ flat_pairs par lines a.legs b.legs ps good fit sh.first a.blocks b.blocks (parity a.group a.flux) (parity b.group b.flux) first_node second_node (first_alike par) (second_alike par)
      (bonds_of [] (all_slots word cs)) (bonds_perm word cs good) (distinct_blocks a.blocks ha.ascending) (distinct_blocks b.blocks hb.ascending) have_first have_second ss n h lt
      ∙ over_tuples a.legs a.blocks _ _ have_first (λ x tx. over_tuples b.legs b.blocks _ (pair_term a.legs b.legs ps (sector_parities a.group word) ss n x) have_second (λ y ty.
      let t : List ℕ = x.tuple ++ y.tuple in
      let long : length t ≡ length word = tuple_length word t (tuple_joined a.legs b.legs x.tuple y.tuple tx ty) in
      ap (λ (o : List Bool). when (give ps ss x.tuple y.tuple) (signed (exchange_sign ◌==◌ (is_odd_at o) (positions (length word)) (goal_places word cs))
      (sum_both (product_at x.entries y.entries) (paired_axes a.legs x.tuple (strides a.legs x.tuple) (strides b.legs y.tuple) ps)
      (start_of (kept_axes (strides a.legs x.tuple) (left_legs word cs) ss (open_places cs (length word))) n)
      (start_of (kept_axes (shifted a.legs b.legs y.tuple) (left_legs word cs) ss (open_places cs (length word))) n))))
      (parities_are a.group word cs lines t (at_values (all_ends word cs) t) fit (gives_tuple word cs good t long) long)))

  -- an entry of the contraction, by the blocks that are multiplied
  pub entry_is : (between : Bool) (ss : List ℕ) (n : ℕ) → IsTuple (left_legs (a.legs ++ b.legs) (couples_of (length a.legs) ps)) ss → n < block_size (left_legs (a.legs ++ b.legs) (couples_of (length a.legs) ps)) ss →
      pair_entry (tensor_of a) (tensor_of b) ps between (values_at (left_legs (a.legs ++ b.legs) (couples_of (length a.legs) ps)) ss n)
      ≡ entry_sum (sources a.group a.legs b.legs ps (between && parity b.group b.flux) (left_legs (a.legs ++ b.legs) (couples_of (length a.legs) ps)) ss a.blocks b.blocks (pairs_for ps a.blocks b.blocks ss)) n
  entry_is between ss n h lt =
      let turned : Bool = between && parity b.group b.flux in
      let inner : BlockValue → BlockValue → Gaussian = λ x y. signed (exchange_sign ◌==◌ (is_odd_at (sector_parities a.group word (x.tuple ++ y.tuple))) (positions (length word)) (goal_places word cs))
      (sum_both (product_at x.entries y.entries) (paired_axes a.legs x.tuple (strides a.legs x.tuple) (strides b.legs y.tuple) ps)
      (start_of (kept_axes (strides a.legs x.tuple) (left_legs word cs) ss (open_places cs (length word))) n)
      (start_of (kept_axes (shifted a.legs b.legs y.tuple) (left_legs word cs) ss (open_places cs (length word))) n)) in
      ap (signed turned) (value_is ss n h lt ∙ sum_pairs ps a.blocks b.blocks ss inner)
      ∙ over-signed turned (pairs_for ps a.blocks b.blocks ss) (λ p. inner (block_at a.blocks p.0) (block_at b.blocks p.1))
      ∙ over-congr (pairs_for ps a.blocks b.blocks ss) _ _ (λ p. sym (signed-xor turned _ _))
      ∙ sym (sum_map (λ (p : ℕ × ℕ). source_of a.group a.legs b.legs ps turned (left_legs word cs) ss (block_at a.blocks p.0) (block_at b.blocks p.1)) (pairs_for ps a.blocks b.blocks ss) (source_term n))
