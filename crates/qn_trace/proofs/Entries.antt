-- Entries of a trace and their sums of magnitudes, by the blocks that count.
use Rattle.std.proofs.Common.{◌≡◌, ◌<◌, ℕ, ◌==◌, ℤ, Bool, true, false, cond, List, [], ◌∷◌, ◌++◌, refl, sym, ◌∙◌, ap, subst, map, length, take, get_or, append-nil}
use Rattle.std.specs.List.{All}
use Rattle.qn_sign.specs.Sign.{exchange_sign, Perm}
use Rattle.qn_sign.specs.Positions.{positions, is_odd_at}
use Rattle.qn_sign.proofs.Parity.{perm-sym}
use Rattle.qn_gauss.specs.Gaussian.{zero_g, add_g, signed}
use Rattle.qn_charge.specs.declared.factor.Factor.{Factor}
use Rattle.qn_charge.specs.Charges.{parity}
use Rattle.qn_index.specs.Legs.{LegValue, SectorValue}
use Rattle.qn_index.specs.Tuples.{IsTuple}
use Rattle.qn_index.specs.Places.{block_size, values_at}
use Rattle.qn_index.proofs.Nets.{tuple_length}
use Rattle.qn_value.specs.Networks.{End, Node, Bond, Parities, at_values, flat, AreAlike}
use Rattle.qn_value.specs.Tensors.{BlockValue, TensorValue, entry_in, rows_of, IsBlock, AreAscending}
use Rattle.qn_value.specs.Labels.{Placed, Slot, slots_of, slots, ends, node_of, sectors_on, parity_of, bonds_of, opens_of}
use Rattle.qn_value.specs.Blocks.{blocked_node, by_sector, HaveTuples, AreDistinctBlocks}
use Rattle.qn_value.specs.Rows.{sum_over, when}
use Rattle.qn_value.specs.Local.{label_at, labels_of, coupled, IsCoupling, trace_entry}
use Rattle.qn_value.proofs.RowsLemmas.{zero_add}
use Rattle.qn_value.proofs.AlikeLemmas.{contract_alike}
use Rattle.qn_value.proofs.Steps.{order_law, order_network}
use Rattle.qn_value.proofs.BlockRows.{block_rows}
use Rattle.qn_value.proofs.CoupledLemmas.{leg_at, slot_at, slots_coupled}
use Rattle.qn_strides.specs.Strides.{goal_places, open_places, sector_parities, summed_axes, strides, kept_axes, start_of, sum_along}
use Rattle.qn_trace.specs.Sources.{SourceValue, fits, source_of, sources, source_term, entry_sum}
use Rattle.qn_strides.proofs.Goal.{bonds_at, all_ends, bonds_perm}
use Rattle.qn_strides.proofs.Lines.{all_slots, ends_all, FitLines, lines_fit, gives_tuple, legs_on_all, sector_parity, parities_are}
use Rattle.qn_strides.proofs.Blocks.{over_tuples}
use Rattle.qn_strides.proofs.Opens.{left_legs, left_ends, ends_long, opens_eq}
use Rattle.qn_trace.proofs.Traces.{block_term, blocked, lines_odd, network, entry_by_terms}
use Rattle.qn_value.proofs.TensorBlocks.{tuples_there, blocks_distinct}

pub slots_are : (t : TensorValue) (cs : List (ℕ × ℕ)) → slots (coupled (t ∷ []) cs) ≡ all_slots t.legs cs
slots_are t cs =
    subst (λ gs. slots (coupled (t ∷ []) cs) ≡ map (slot_at (label_at cs) (leg_at gs)) (positions (length gs))) (append-nil t.legs) (slots_coupled (t ∷ []) cs)

-- the tensor with its labels
abbrev pub labelled : TensorValue → List (ℕ × ℕ) → Placed
labelled t cs = record { tensor = t; labels = take (length t.legs) (labels_of cs (length (t.legs ++ []))) }

node_ends : (t : TensorValue) (cs : List (ℕ × ℕ)) → (node_of (labelled t cs)).ends ≡ all_ends t.legs cs
node_ends t cs = ap ends (sym (append-nil (slots_of t.legs (labelled t cs).labels)) ∙ slots_are t cs) ∙ ends_all t.legs cs

-- the tensor by its rows
abbrev pub tensor_from : List Factor → List LegValue → List ℤ → List BlockValue → TensorValue
tensor_from fs ls q bs = record { group = fs; legs = ls; flux = q; rows = rows_of ls bs }

-- ---- a network of one tensor that is like one in blocks

module _ (par : Parities) (sectors : ℤ → List SectorValue) (ls : List LegValue) (cs : List (ℕ × ℕ)) (good : IsCoupling ls cs) (fit : FitLines ls cs sectors) (bs : List BlockValue) (odd : Bool) where
  pub flat_terms : (m : Node) → AreAlike m (blocked_node sectors (blocked par sectors ls cs good fit bs odd)) → (bonds : List Bond) → Perm bonds (bonds_at 1 ls cs) →
      AreDistinctBlocks bs → HaveTuples ls bs → (ss : List ℕ) (n : ℕ) → IsTuple (left_legs ls cs) ss → n < block_size (left_legs ls cs) ss →
      flat (by_sector sectors par) (m ∷ []) bonds (left_ends ls cs) (at_values (left_ends ls cs) (values_at (left_legs ls cs) ss n))
      ≡ sum_over bs (block_term ls cs (lines_odd par sectors ls cs good fit bs odd) ss n)
  flat_terms m alike bonds perm d have ss n h lt =
      let x : Node = blocked_node sectors (blocked par sectors ls cs good fit bs odd) in
      ap (λ (y : Node). y.entry (values_at (left_legs ls cs) ss n)) (contract_alike (by_sector sectors par) (m ∷ []) (x ∷ []) bonds (alike, tt) (left_ends ls cs))
      ∙ order_law (by_sector sectors par) (x ∷ []) bonds (bonds_at 1 ls cs) (left_ends ls cs)
      (order_network (x ∷ []) (bonds_at 1 ls cs) bonds (left_ends ls cs) (network par sectors ls cs good fit bs odd) (perm-sym perm)) perm
      (at_values (left_ends ls cs) (values_at (left_legs ls cs) ss n))
      ∙ entry_by_terms par sectors ls cs good fit bs odd d have ss n h lt

-- ---- the blocks that count

over_sources : (fs : List Factor) (ls : List LegValue) (cs : List (ℕ × ℕ)) (ss : List ℕ) (n : ℕ) (bs : List BlockValue) →
    sum_over bs (block_term ls cs (sector_parities fs ls) ss n) ≡ entry_sum (sources fs ls cs (left_legs ls cs) ss bs) n
over_sources fs ls cs ss n [] = refl
over_sources fs ls cs ss n (b ∷ bs) = go (fits cs ss (open_places cs (length ls)) b) (over_sources fs ls cs ss n bs)
  where
    x : SourceValue
    x = source_of fs ls cs (left_legs ls cs) ss b

    rest : List SourceValue
    rest = sources fs ls cs (left_legs ls cs) ss bs

    go : (c : Bool) → sum_over bs (block_term ls cs (sector_parities fs ls) ss n) ≡ entry_sum rest n →
        add_g (when c (source_term n x)) (sum_over bs (block_term ls cs (sector_parities fs ls) ss n)) ≡ entry_sum (cond c (x ∷ rest) rest) n
    go true e = ap (add_g (source_term n x)) e
    go false e = zero_add (sum_over bs (block_term ls cs (sector_parities fs ls) ss n)) ∙ e

-- what is computed of a trace
module _ (fs : List Factor) (ls : List LegValue) (q : List ℤ) (bs : List BlockValue) (cs : List (ℕ × ℕ)) (good : IsCoupling ls cs) (blocks : All (IsBlock fs ls q) bs) (rises : AreAscending bs) where
  abbrev pub t : TensorValue
  t = tensor_from fs ls q bs

  abbrev pub lines : ℤ → List SectorValue
  lines = sectors_on (all_slots ls cs)

  abbrev pub places : List ℕ
  places = open_places cs (length ls)

  pub alike : AreAlike (node_of (labelled t cs)) (blocked_node lines (blocked (sector_parity fs lines) lines ls cs good (lines_fit ls cs good) bs (parity fs q)))
  alike = record {
    ends = node_ends t cs;
    odd = refl;
    entry = λ xs l.
        block_rows fs ls q bs blocks xs (l ∙ ap (λ (es : List End). length es) (node_ends t cs) ∙ ends_long ls cs)
        ∙ ap (λ gs. entry_in gs bs xs) (sym (legs_on_all ls cs lines (lines_fit ls cs good)));
  }

  pub entry_is : (ss : List ℕ) (n : ℕ) → IsTuple (left_legs ls cs) ss → n < block_size (left_legs ls cs) ss →
      trace_entry t cs (values_at (left_legs ls cs) ss n) ≡ entry_sum (sources fs ls cs (left_legs ls cs) ss bs) n
  entry_is ss n h lt =
      let xs : List ℕ = values_at (left_legs ls cs) ss n in
      let have : HaveTuples ls bs = tuples_there fs ls q bs blocks in
      ap (λ (sl : List Slot). flat (parity_of fs sl) (node_of (labelled t cs) ∷ []) (bonds_of [] sl) (opens_of (ends sl) (length xs)) (at_values (opens_of (ends sl) (length xs)) xs)) (slots_are t cs)
      ∙ ap (λ (os : List End). flat (parity_of fs (all_slots ls cs)) (node_of (labelled t cs) ∷ []) (bonds_of [] (all_slots ls cs)) os (at_values os xs)) (opens_eq ls cs good ss n h)
      ∙ flat_terms (sector_parity fs lines) lines ls cs good (lines_fit ls cs good) bs (parity fs q) (node_of (labelled t cs)) alike (bonds_of [] (all_slots ls cs)) (bonds_perm ls cs good)
      (blocks_distinct bs rises) have ss n h lt
      ∙ over_tuples ls bs _ (block_term ls cs (sector_parities fs ls) ss n) have (λ b tuple.
      ap (λ (o : List Bool). when (fits cs ss places b) (signed (exchange_sign ◌==◌ (is_odd_at o) (positions (length ls)) (goal_places ls cs)) (sum_along (λ p. get_or b.entries p zero_g) (summed_axes ls b.tuple cs) (start_of (kept_axes (strides ls b.tuple) (left_legs ls cs) ss places) n))))
      (parities_are fs ls cs lines b.tuple (at_values (all_ends ls cs) b.tuple) (lines_fit ls cs good) (gives_tuple ls cs good b.tuple (tuple_length ls b.tuple tuple)) (tuple_length ls b.tuple tuple)))
      ∙ over_sources fs ls cs ss n bs
