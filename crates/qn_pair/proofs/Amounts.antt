-- Sums of magnitudes of a contraction, by the blocks that are multiplied: they are a contraction of magnitudes, without signs.
use Rattle.std.proofs.Common.{◌≡◌, ◌<◌, ℕ, ◌*◌, ◌==◌, ℤ, Bool, false, List, [], ◌∷◌, ◌++◌, refl, sym, ◌∙◌, ap, ap₂, map, length, get_or}
use mathlib.Core.Path.{fun_ext}
use Rattle.qn_sign.specs.Sign.{exchange_sign}
use Rattle.qn_sign.specs.Positions.{positions, is_odd_at}
use Rattle.qn_gauss.specs.Gaussian.{Gaussian, zero_g, mul_g, mag, signed}
use Rattle.qn_charge.specs.Charges.{parity}
use Rattle.qn_index.specs.Legs.{LegValue, SectorValue}
use Rattle.qn_index.specs.Tuples.{IsTuple}
use Rattle.qn_index.specs.Places.{block_size, values_at}
use Rattle.qn_value.specs.Networks.{End, Node, Bond, Assignment, at_values, flat, product, sums, sign, AreAlike}
use Rattle.qn_value.specs.Tensors.{BlockValue}
use Rattle.qn_value.specs.Labels.{Slot, ends, bonds_of, opens_of}
use Rattle.qn_value.specs.Blocks.{legs_on, blocked_node}
use Rattle.qn_value.specs.Rows.{when}
use Rattle.qn_value.specs.Magnitudes.{total, magnitudes, pair_magnitude}
use Rattle.qn_value.specs.Local.{IsCoupling}
use Rattle.qn_value.proofs.RowsLemmas.{over-congr}
use Rattle.qn_block.specs.Blocked.{BlockedValue, IsBlocked, tensor_of}
use Rattle.qn_block.specs.Refusals.{block_at}
use Rattle.qn_match.specs.Pairs.{give, pairs_for, IsShared}
use Rattle.qn_strides.specs.Strides.{open_places, goal_places, strides, kept_axes, start_of}
use Rattle.qn_strides.proofs.Goal.{bonds_perm}
use Rattle.qn_strides.proofs.Lines.{all_slots}
use Rattle.qn_strides.proofs.Opens.{left_legs, left_ends, opens_eq}
use Rattle.qn_strides.proofs.Blocks.{distinct_blocks}
use Rattle.qn_strides.proofs.Reals.{real, real_one, real_total, no_parity, sign_none, exchange_none, odd_none, size_of, size_block, size_entry, size_in, size_have, size_distinct, size_node}
use Rattle.qn_kernel.specs.Sources.{couples_of, PairedValue, SourceValue, paired_axes, sum_both, total_both, product_at, size_at, source_of, sources, source_size, size_sum}
use Rattle.qn_pair.proofs.Weighed.{first_ends, second_ends, shifted}
use Rattle.qn_pair.proofs.Terms.{pair_term, first_blocked, second_blocked, flat_pairs}
use Rattle.qn_pair.proofs.Contracted.{sum_map, sum_pairs, unit, real_mul, real_both, real_sum, slots_two, first_node, second_node, lines, good, fit, first_alike, second_alike, have_first, have_second}

-- the product of the magnitudes of two entries
product_none : (x y : Node) (bonds : List Bond) (opens : List End) (c : Assignment) →
    real (magnitudes (x ∷ y ∷ []) c) ≡ signed (sign no_parity (size_node x ∷ size_node y ∷ []) bonds opens c) (product (size_node x ∷ size_node y ∷ []) c)
product_none x y bonds opens c =
    real_mul (mag (x.entry (map c x.ends))) (mag (y.entry (map c y.ends)) * 1)
    ∙ ap (mul_g (size_of (x.entry (map c x.ends)))) (real_mul (mag (y.entry (map c y.ends))) 1 ∙ ap (mul_g (size_of (y.entry (map c y.ends)))) unit)
    ∙ ap (λ b. signed b (product (size_node x ∷ size_node y ∷ []) c)) (sym (sign_none (size_node x ∷ size_node y ∷ []) bonds opens c))

real_magnitude : (x y : Node) (bonds : List Bond) (opens : List End) (a : Assignment) → real (total bonds (magnitudes (x ∷ y ∷ [])) a) ≡ flat no_parity (size_node x ∷ size_node y ∷ []) bonds opens a
real_magnitude x y bonds opens a =
    real_total bonds (magnitudes (x ∷ y ∷ [])) a ∙ ap (λ (f : Assignment → Gaussian). sums bonds f a) (fun_ext (product_none x y bonds opens))

-- sums of magnitudes of two blocks
real_sizes : (es fs : List Gaussian) (xs : List PairedValue) (p q : ℕ) → real (total_both (size_at es fs) xs p q) ≡ sum_both (product_at (map size_of es) (map size_of fs)) xs p q
real_sizes es fs xs p q =
    real_both (size_at es fs) xs p q
    ∙ ap (λ (g : ℕ → ℕ → Gaussian). sum_both g xs p q) (fun_ext (λ i. fun_ext (λ j.
    real_mul (mag (get_or es i zero_g)) (mag (get_or fs j zero_g)) ∙ ap₂ mul_g (size_entry es i) (size_entry fs j))))

module _ (a b : BlockedValue) (ps : List (ℕ × ℕ)) (ha : IsBlocked a) (hb : IsBlocked b) (sh : IsShared a.legs b.legs ps) where
  abbrev word : List LegValue
  word = a.legs ++ b.legs

  abbrev cs : List (ℕ × ℕ)
  cs = couples_of (length a.legs) ps

  abbrev sectors : ℤ → List SectorValue
  sectors = lines a b ps ha hb sh

  abbrev coupled_well : IsCoupling (a.legs ++ b.legs) (couples_of (length a.legs) ps)
  coupled_well = good a b ps ha hb sh

  first_sizes : AreAlike (size_node (first_node a b ps ha hb sh)) (blocked_node sectors (first_blocked no_parity sectors a.legs b.legs ps coupled_well (fit a b ps ha hb sh) sh.first (map size_block a.blocks) (map size_block b.blocks) (parity a.group a.flux) (parity b.group b.flux)))
  first_sizes = let e = first_alike a b ps ha hb sh no_parity in record {
    ends = e.ends;
    odd = refl;
    entry = λ xs l. ap size_of (e.entry xs l) ∙ size_in (legs_on sectors (first_ends a.legs b.legs ps)) a.blocks xs;
  }

  second_sizes : AreAlike (size_node (second_node a b ps ha hb sh)) (blocked_node sectors (second_blocked no_parity sectors a.legs b.legs ps coupled_well (fit a b ps ha hb sh) sh.first (map size_block a.blocks) (map size_block b.blocks) (parity a.group a.flux) (parity b.group b.flux)))
  second_sizes = let e = second_alike a b ps ha hb sh no_parity in record {
    ends = e.ends;
    odd = refl;
    entry = λ xs l. ap size_of (e.entry xs l) ∙ size_in (legs_on sectors (second_ends a.legs b.legs ps)) b.blocks xs;
  }

  quiet : exchange_sign ◌==◌ (is_odd_at (map (λ i. false) (positions (length (a.legs ++ b.legs))))) (positions (length (a.legs ++ b.legs))) (goal_places (a.legs ++ b.legs) (couples_of (length a.legs) ps)) ≡ false
  quiet = exchange_none ◌==◌ (is_odd_at (map (λ i. false) (positions (length word)))) (positions (length word)) (goal_places word cs) (λ i. odd_none i (positions (length word)))

  -- what two blocks add to a sum of magnitudes
  abbrev amount : List ℕ → ℕ → BlockValue → BlockValue → ℕ
  amount ss n x y =
      total_both (size_at x.entries y.entries) (paired_axes a.legs x.tuple (strides a.legs x.tuple) (strides b.legs y.tuple) ps)
      (start_of (kept_axes (strides a.legs x.tuple) (left_legs (a.legs ++ b.legs) (couples_of (length a.legs) ps)) ss (open_places (couples_of (length a.legs) ps) (length (a.legs ++ b.legs)))) n)
      (start_of (kept_axes (shifted a.legs b.legs y.tuple) (left_legs (a.legs ++ b.legs) (couples_of (length a.legs) ps)) ss (open_places (couples_of (length a.legs) ps) (length (a.legs ++ b.legs)))) n)

  size_term : (ss : List ℕ) (n : ℕ) (x y : BlockValue) →
      pair_term a.legs b.legs ps (λ t. map (λ i. false) (positions (length (a.legs ++ b.legs)))) ss n (size_block x) (size_block y) ≡ when (give ps ss x.tuple y.tuple) (real (amount ss n x y))
  size_term ss n x y =
      ap (when (give ps ss x.tuple y.tuple)) (
      ap (λ s. signed s (sum_both (product_at (map size_of x.entries) (map size_of y.entries)) (paired_axes a.legs x.tuple (strides a.legs x.tuple) (strides b.legs y.tuple) ps)
      (start_of (kept_axes (strides a.legs x.tuple) (left_legs word cs) ss (open_places cs (length word))) n)
      (start_of (kept_axes (shifted a.legs b.legs y.tuple) (left_legs word cs) ss (open_places cs (length word))) n))) quiet
      ∙ sym (real_sizes x.entries y.entries _ _ _))

  -- a sum of magnitudes of the contraction, by the blocks that are multiplied
  pub amount_is : (turned : Bool) (ss : List ℕ) (n : ℕ) → IsTuple (left_legs (a.legs ++ b.legs) (couples_of (length a.legs) ps)) ss → n < block_size (left_legs (a.legs ++ b.legs) (couples_of (length a.legs) ps)) ss →
      pair_magnitude (tensor_of a) (tensor_of b) ps (values_at (left_legs (a.legs ++ b.legs) (couples_of (length a.legs) ps)) ss n)
      ≡ size_sum (sources a.group a.legs b.legs ps turned (left_legs (a.legs ++ b.legs) (couples_of (length a.legs) ps)) ss a.blocks b.blocks (pairs_for ps a.blocks b.blocks ss)) n
  amount_is turned ss n h lt =
      let xs : List ℕ = values_at (left_legs word cs) ss n in
      let x : Node = first_node a b ps ha hb sh in
      let y : Node = second_node a b ps ha hb sh in
      let found : List SourceValue = sources a.group a.legs b.legs ps turned (left_legs word cs) ss a.blocks b.blocks (pairs_for ps a.blocks b.blocks ss) in
      real_one (pair_magnitude (tensor_of a) (tensor_of b) ps xs) (size_sum found n) (
      ap (λ (sl : List Slot). real (total (bonds_of [] sl) (magnitudes (x ∷ y ∷ [])) (at_values (opens_of (ends sl) (length xs)) xs))) (slots_two (tensor_of a) (tensor_of b) cs)
      ∙ ap (λ (os : List End). real (total (bonds_of [] (all_slots word cs)) (magnitudes (x ∷ y ∷ [])) (at_values os xs))) (opens_eq word cs coupled_well ss n h)
      ∙ real_magnitude x y (bonds_of [] (all_slots word cs)) (left_ends word cs) (at_values (left_ends word cs) xs)
      ∙ flat_pairs no_parity sectors a.legs b.legs ps coupled_well (fit a b ps ha hb sh) sh.first (map size_block a.blocks) (map size_block b.blocks) (parity a.group a.flux) (parity b.group b.flux) (size_node x) (size_node y) first_sizes second_sizes
      (bonds_of [] (all_slots word cs)) (bonds_perm word cs coupled_well) (size_distinct a.blocks (distinct_blocks a.blocks ha.ascending)) (size_distinct b.blocks (distinct_blocks b.blocks hb.ascending))
      (size_have a.legs a.blocks (have_first a b ps ha hb sh)) (size_have b.legs b.blocks (have_second a b ps ha hb sh)) ss n h lt
      ∙ sum_map size_block a.blocks _
      ∙ over-congr a.blocks _ _ (λ p. sum_map size_block b.blocks _ ∙ over-congr b.blocks _ (λ q. when (give ps ss p.tuple q.tuple) (real (amount ss n p q))) (λ q. size_term ss n p q))
      ∙ sum_pairs ps a.blocks b.blocks ss (λ p q. real (amount ss n p q))
      ∙ sym (real_sum (source_size n) found ∙ sum_map (λ (p : ℕ × ℕ). source_of a.group a.legs b.legs ps turned (left_legs word cs) ss (block_at a.blocks p.0) (block_at b.blocks p.1)) (pairs_for ps a.blocks b.blocks ss) (λ s. real (source_size n s))))
