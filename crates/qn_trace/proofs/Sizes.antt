-- Sums of magnitudes of a trace, by the blocks that count: they are a trace of magnitudes, without signs.
use Rattle.std.proofs.Common.{◌≡◌, ◌<◌, ℕ, ◌*◌, ◌==◌, ℤ, Bool, true, false, cond, List, [], ◌∷◌, refl, sym, ◌∙◌, ap, ap₂, map, length, get_or, arith}
use mathlib.Core.Path.{fun_ext}
use Rattle.std.specs.List.{All}
use Rattle.std.proofs.lemmas.List.Sums.{sum_by-cons}
use Rattle.qn_sign.specs.Sign.{exchange_sign}
use Rattle.qn_sign.specs.Positions.{positions, is_odd_at}
use Rattle.qn_gauss.specs.Gaussian.{Gaussian, zero_g, add_g, mag, signed}
use Rattle.qn_gauss.proofs.Ring.{mul_one}
use Rattle.qn_charge.specs.declared.factor.Factor.{Factor}
use Rattle.qn_charge.specs.Charges.{parity}
use Rattle.qn_index.specs.Legs.{LegValue}
use Rattle.qn_index.specs.Tuples.{IsTuple}
use Rattle.qn_index.specs.Places.{block_size, values_at}
use Rattle.qn_value.specs.Networks.{End, Node, Bond, Assignment, sign, product, sums, at_values, flat, AreAlike}
use Rattle.qn_value.specs.Tensors.{BlockValue, TensorValue, IsBlock, AreAscending}
use Rattle.qn_value.specs.Labels.{Slot, ends, node_of, bonds_of, opens_of}
use Rattle.qn_value.specs.Blocks.{legs_on, blocked_node, HaveTuples}
use Rattle.qn_value.specs.Rows.{sum_over, when}
use Rattle.qn_value.specs.Magnitudes.{total, magnitudes, trace_magnitude}
use Rattle.qn_value.specs.Local.{IsCoupling}
use Rattle.qn_value.proofs.RowsLemmas.{zero_add}
use Rattle.qn_strides.specs.Strides.{goal_places, open_places, summed_axes, strides, kept_axes, start_of, sum_along}
use Rattle.qn_trace.specs.Sources.{SourceValue, fits, source_of, sources, source_size, size_sum}
use Rattle.qn_strides.proofs.Goal.{all_ends, bonds_perm}
use Rattle.qn_strides.proofs.Lines.{all_slots, lines_fit}
use Rattle.qn_strides.proofs.Opens.{left_legs, left_ends}
use Rattle.qn_trace.proofs.Traces.{block_term, blocked}
use Rattle.qn_trace.proofs.Entries.{slots_are, labelled, tensor_from, flat_terms, alike, lines}
use Rattle.qn_strides.proofs.Opens.{opens_eq}
use Rattle.qn_strides.proofs.Reals.{real, real_add, real_zero, real_one, real_total, real_along, no_parity, exchange_none, sign_none, odd_none, size_of, size_block, size_entry, size_in, size_have, size_distinct, size_node}
use Rattle.qn_value.proofs.TensorBlocks.{tuples_there, blocks_distinct}

term_none : (m : Node) (bonds : List Bond) (opens : List End) (c : Assignment) →
    real (magnitudes (m ∷ []) c) ≡ signed (sign no_parity (size_node m ∷ []) bonds opens c) (product (size_node m ∷ []) c)
term_none m bonds opens c =
    ap real (once (mag (m.entry (map c m.ends))))
    ∙ sym (mul_one (size_of (m.entry (map c m.ends))))
    ∙ ap (λ b. signed b (product (size_node m ∷ []) c)) (sym (sign_none (size_node m ∷ []) bonds opens c))
  where
    once : (k : ℕ) → k * 1 ≡ k
    once k = omega arith

real_magnitude : (m : Node) (bonds : List Bond) (opens : List End) (a : Assignment) → real (total bonds (magnitudes (m ∷ [])) a) ≡ flat no_parity (size_node m ∷ []) bonds opens a
real_magnitude m bonds opens a =
    real_total bonds (magnitudes (m ∷ [])) a ∙ ap (λ (f : Assignment → Gaussian). sums bonds f a) (fun_ext (term_none m bonds opens))

module _ (fs : List Factor) (ls : List LegValue) (cs : List (ℕ × ℕ)) (ss : List ℕ) (n : ℕ) where
  abbrev quiet : List ℕ → List Bool
  quiet tuple = map (λ i. false) (positions (length ls))

  quiet_sign : exchange_sign ◌==◌ (is_odd_at (quiet [])) (positions (length ls)) (goal_places ls cs) ≡ false
  quiet_sign = exchange_none ◌==◌ (is_odd_at (quiet [])) (positions (length ls)) (goal_places ls cs) (λ i. odd_none i (positions (length ls)))

  size_term : (b : BlockValue) → real (source_size n (source_of fs ls cs (left_legs ls cs) ss b))
      ≡ signed (exchange_sign ◌==◌ (is_odd_at (quiet [])) (positions (length ls)) (goal_places ls cs))
      (sum_along (λ p. get_or (map size_of b.entries) p zero_g) (summed_axes ls b.tuple cs) (start_of (kept_axes (strides ls b.tuple) (left_legs ls cs) ss (open_places cs (length ls))) n))
  size_term b =
      real_along (λ p. mag (get_or b.entries p zero_g)) (summed_axes ls b.tuple cs) (start_of (kept_axes (strides ls b.tuple) (left_legs ls cs) ss (open_places cs (length ls))) n)
      ∙ ap (λ (g : ℕ → Gaussian). sum_along g (summed_axes ls b.tuple cs) (start_of (kept_axes (strides ls b.tuple) (left_legs ls cs) ss (open_places cs (length ls))) n)) (fun_ext (size_entry b.entries))
      ∙ ap (λ s. signed s (sum_along (λ p. get_or (map size_of b.entries) p zero_g) (summed_axes ls b.tuple cs) (start_of (kept_axes (strides ls b.tuple) (left_legs ls cs) ss (open_places cs (length ls))) n))) (sym quiet_sign)

  over_sizes : (bs : List BlockValue) → real (size_sum (sources fs ls cs (left_legs ls cs) ss bs) n) ≡ sum_over (map size_block bs) (block_term ls cs quiet ss n)
  over_sizes [] = real_zero
  over_sizes (b ∷ bs) = go (fits cs ss (open_places cs (length ls)) b) (over_sizes bs)
    where
      x : SourceValue
      x = source_of fs ls cs (left_legs ls cs) ss b

      rest : List SourceValue
      rest = sources fs ls cs (left_legs ls cs) ss bs

      value : Gaussian
      value = signed (exchange_sign ◌==◌ (is_odd_at (quiet [])) (positions (length ls)) (goal_places ls cs))
          (sum_along (λ p. get_or (map size_of b.entries) p zero_g) (summed_axes ls b.tuple cs) (start_of (kept_axes (strides ls b.tuple) (left_legs ls cs) ss (open_places cs (length ls))) n))

      go : (c : Bool) → real (size_sum rest n) ≡ sum_over (map size_block bs) (block_term ls cs quiet ss n) →
          real (size_sum (cond c (x ∷ rest) rest) n) ≡ add_g (when c value) (sum_over (map size_block bs) (block_term ls cs quiet ss n))
      go true e = ap real (sum_by-cons (source_size n) x rest) ∙ real_add (source_size n x) (size_sum rest n) ∙ ap₂ add_g (size_term b) e
      go false e = e ∙ sym (zero_add (sum_over (map size_block bs) (block_term ls cs quiet ss n)))

module _ (fs : List Factor) (ls : List LegValue) (q : List ℤ) (bs : List BlockValue) (cs : List (ℕ × ℕ)) (good : IsCoupling ls cs) (blocks : All (IsBlock fs ls q) bs) (rises : AreAscending bs) where
  abbrev t : TensorValue
  t = tensor_from fs ls q bs

  size_alike : AreAlike (size_node (node_of (labelled t cs))) (blocked_node (lines fs ls q bs cs good blocks rises) (blocked no_parity (lines fs ls q bs cs good blocks rises) ls cs good (lines_fit ls cs good) (map size_block bs) (parity fs q)))
  size_alike = let a = alike fs ls q bs cs good blocks rises in record {
    ends = a.ends;
    odd = refl;
    entry = λ xs l. ap size_of (a.entry xs l) ∙ size_in (legs_on (lines fs ls q bs cs good blocks rises) (all_ends ls cs)) bs xs;
  }

  pub size_is : (ss : List ℕ) (n : ℕ) → IsTuple (left_legs ls cs) ss → n < block_size (left_legs ls cs) ss →
      trace_magnitude t cs (values_at (left_legs ls cs) ss n) ≡ size_sum (sources fs ls cs (left_legs ls cs) ss bs) n
  size_is ss n h lt =
      let xs : List ℕ = values_at (left_legs ls cs) ss n in
      let have : HaveTuples ls bs = tuples_there fs ls q bs blocks in
      real_one (trace_magnitude t cs xs) (size_sum (sources fs ls cs (left_legs ls cs) ss bs) n) (
      ap (λ (sl : List Slot). real (total (bonds_of [] sl) (magnitudes (node_of (labelled t cs) ∷ [])) (at_values (opens_of (ends sl) (length xs)) xs))) (slots_are t cs)
      ∙ ap (λ (os : List End). real (total (bonds_of [] (all_slots ls cs)) (magnitudes (node_of (labelled t cs) ∷ [])) (at_values os xs))) (opens_eq ls cs good ss n h)
      ∙ real_magnitude (node_of (labelled t cs)) (bonds_of [] (all_slots ls cs)) (left_ends ls cs) (at_values (left_ends ls cs) xs)
      ∙ flat_terms no_parity (lines fs ls q bs cs good blocks rises) ls cs good (lines_fit ls cs good) (map size_block bs) (parity fs q) (size_node (node_of (labelled t cs))) size_alike (bonds_of [] (all_slots ls cs)) (bonds_perm ls cs good)
      (size_distinct bs (blocks_distinct bs rises)) (size_have ls bs have) ss n h lt
      ∙ sym (over_sizes fs ls cs ss n bs))
