-- An entry of a trace, as a sum over the blocks.
use Rattle.std.proofs.Common.{◌≡◌, ◌<◌, ℕ, ◌==◌, ℤ, Bool, ◌&&◌, List, [], ◌∷◌, sym, ◌∙◌, ap, subst, map, length, get_or, append-nil}
use Rattle.qn_sign.specs.Sign.{exchange_sign, xor, IsDistinct, Perm}
use Rattle.qn_sign.specs.Positions.{positions, is_odd_at}
use Rattle.qn_gauss.specs.Gaussian.{Gaussian, zero_g, signed}
use Rattle.qn_index.specs.Legs.{LegValue, SectorValue}
use Rattle.qn_index.specs.Tuples.{IsTuple}
use Rattle.qn_index.specs.Places.{block_size, inner_of, values_at, IsInner}
use Rattle.qn_index.proofs.Places.{inner_in, inner_length}
use Rattle.qn_index.proofs.Nets.{tuple_length}
use Rattle.qn_value.specs.Networks.{Assignment, Parities, same_end, goal, odd_end, order_sign, sign, sums, values, at_values, contract, IsNetwork}
use Rattle.qn_value.specs.Tensors.{BlockValue, same_values}
use Rattle.qn_value.specs.Blocks.{Blocked, legs_on, values_in, inside, blocked_node, by_sector, bonds_in, HaveTuples, AreDistinctBlocks}
use Rattle.qn_value.specs.Rows.{sum_over, when, meet_on}
use Rattle.qn_value.specs.Local.{IsCoupling, picked}
use Rattle.qn_value.proofs.RowsLemmas.{values_back}
use Rattle.qn_value.proofs.BlocksLemmas.{one_law}
use Rattle.qn_value.proofs.CoupledLemmas.{leg_at}
use Rattle.qn_strides.specs.Strides.{open_places, goal_places, couples_meet, summed_axes, strides, kept_axes, start_of, sum_along}
use Rattle.qn_strides.proofs.Goal.{bonds_at, end_at, all_ends, numbered}
use Rattle.qn_strides.proofs.Along.{block_along}
use Rattle.qn_strides.proofs.Blocks.{over_tuples}
use Rattle.qn_strides.proofs.Opens.{length_maps, ends_distinct, left_legs, left_ends, left_is, left_distinct}
use Rattle.qn_strides.proofs.Lines.{FitLines, GivesTuple, gives_tuple, legs_on_all, bonds_fit, dims_fit, meets_are, opens_are, not_twisted, goal_perm, sign_at}
use Rattle.qn_value.proofs.TensorBlocks.{values_by_inner}

-- what a block adds to an entry of the trace; `odd` gives the parities of its sectors
abbrev pub block_term : List LegValue → List (ℕ × ℕ) → (List ℕ → List Bool) → List ℕ → ℕ → BlockValue → Gaussian
block_term ls cs odd ss n b =
    when (couples_meet cs b.tuple && same_values ss (picked 0 b.tuple (open_places cs (length ls))))
    (signed (exchange_sign ◌==◌ (is_odd_at (odd b.tuple)) (positions (length ls)) (goal_places ls cs))
    (sum_along (λ p. get_or b.entries p zero_g) (summed_axes ls b.tuple cs) (start_of (kept_axes (strides ls b.tuple) (left_legs ls cs) ss (open_places cs (length ls))) n)))

module _ (par : Parities) (sectors : ℤ → List SectorValue) (ls : List LegValue) (cs : List (ℕ × ℕ)) (good : IsCoupling ls cs) (fit : FitLines ls cs sectors) (bs : List BlockValue) (odd : Bool) where
  abbrev pub blocked : Blocked
  blocked = record { ends = all_ends ls cs; blocks = bs; odd = odd }

  abbrev pub lines_odd : List ℕ → List Bool
  lines_odd t = map (λ i. odd_end par (at_values (all_ends ls cs) t) (end_at ls cs i)) (positions (length ls))

  pub network : IsNetwork (blocked_node sectors blocked ∷ []) (bonds_at 1 ls cs) (left_ends ls cs)
  network = record {
    distinct = subst (IsDistinct same_end) (sym (append-nil (all_ends ls cs))) (ends_distinct ls cs good);
    complete = subst (λ es. Perm es (goal (bonds_at 1 ls cs) (left_ends ls cs))) (sym (append-nil (all_ends ls cs))) (goal_perm ls cs good);
  }

  term_is : (ss : List ℕ) (n : ℕ) → IsTuple (left_legs ls cs) ss → n < block_size (left_legs ls cs) ss → (b : BlockValue) → IsTuple ls b.tuple →
      (let k = at_values (all_ends ls cs) b.tuple in
      when (meet_on (bonds_at 1 ls cs) k && same_values ss (values (left_ends ls cs) k))
      (signed (sign par (blocked_node sectors blocked ∷ []) (bonds_at 1 ls cs) (left_ends ls cs) k)
      (sums (bonds_in sectors k (bonds_at 1 ls cs)) (λ o. inside (legs_on sectors (all_ends ls cs)) b (values (all_ends ls cs) o)) (at_values (left_ends ls cs) (inner_of (left_legs ls cs) ss n)))))
      ≡ block_term ls cs lines_odd ss n b
  term_is ss n h lt b tuple = λ i. when (meet i && same_values ss (opened i)) (signed (signs i) (summed i))
    where
      k : Assignment
      k = at_values (all_ends ls cs) b.tuple

      long : length b.tuple ≡ length ls
      long = tuple_length ls b.tuple tuple

      gives : GivesTuple ls cs b.tuple k
      gives = gives_tuple ls cs good b.tuple long

      os : List ℕ
      os = inner_of (left_legs ls cs) ss n

      meet : meet_on (bonds_at 1 ls cs) k ≡ couples_meet cs b.tuple
      meet = meets_are 1 ls cs cs b.tuple k gives (numbered ls cs good)

      opened : values (left_ends ls cs) k ≡ picked 0 b.tuple (open_places cs (length ls))
      opened = opens_are ls cs b.tuple k gives

      signs : sign par (blocked_node sectors blocked ∷ []) (bonds_at 1 ls cs) (left_ends ls cs) k ≡ exchange_sign ◌==◌ (is_odd_at (lines_odd b.tuple)) (positions (length ls)) (goal_places ls cs)
      signs =
          ap (λ t. xor t (order_sign par (blocked_node sectors blocked ∷ []) (bonds_at 1 ls cs) (left_ends ls cs) k)) (not_twisted par 1 ls cs k)
          ∙ ap (λ es. exchange_sign same_end (odd_end par k) es (goal (bonds_at 1 ls cs) (left_ends ls cs))) (append-nil (all_ends ls cs))
          ∙ sign_at ls cs good (odd_end par k)

      back : values (left_ends ls cs) (at_values (left_ends ls cs) os) ≡ os
      back = values_back (left_ends ls cs) os (left_distinct ls cs good) (inner_length (left_legs ls cs) ss os (inner_in (left_legs ls cs) ss n h lt) ∙ length_maps (leg_at ls) (end_at ls cs) (open_places cs (length ls)))

      summed : sums (bonds_in sectors k (bonds_at 1 ls cs)) (λ o. inside (legs_on sectors (all_ends ls cs)) b (values (all_ends ls cs) o)) (at_values (left_ends ls cs) os)
          ≡ sum_along (λ p. get_or b.entries p zero_g) (summed_axes ls b.tuple cs) (start_of (kept_axes (strides ls b.tuple) (left_legs ls cs) ss (open_places cs (length ls))) n)
      summed =
          ap (λ gs. sums (bonds_in sectors k (bonds_at 1 ls cs)) (λ o. inside gs b (values (all_ends ls cs) o)) (at_values (left_ends ls cs) os)) (legs_on_all ls cs sectors fit)
          ∙ block_along sectors k ls b.tuple cs (λ p. get_or b.entries p zero_g) (left_legs ls cs) ss n (at_values (left_ends ls cs) os) good long (dims_fit 1 ls cs cs sectors b.tuple k fit gives (numbered ls cs good)) back

  pub entry_by_terms : AreDistinctBlocks bs → HaveTuples ls bs → (ss : List ℕ) (n : ℕ) → IsTuple (left_legs ls cs) ss → n < block_size (left_legs ls cs) ss →
      (contract (by_sector sectors par) (blocked_node sectors blocked ∷ []) (bonds_at 1 ls cs) (left_ends ls cs)).entry (values_at (left_legs ls cs) ss n)
      ≡ sum_over bs (block_term ls cs lines_odd ss n)
  entry_by_terms d have ss n h lt =
      ap (contract (by_sector sectors par) (blocked_node sectors blocked ∷ []) (bonds_at 1 ls cs) (left_ends ls cs)).entry
      (values_by_inner (left_legs ls cs) ss n ∙ ap (λ gs. values_in gs ss (inner_of (left_legs ls cs) ss n)) (sym (left_is sectors ls cs fit)))
      ∙ one_law par sectors blocked (bonds_at 1 ls cs) (left_ends ls cs) ss (inner_of (left_legs ls cs) ss n) network (bonds_fit 1 ls cs cs sectors fit (numbered ls cs good))
      (record { distinct = d; tuples = subst (λ gs. HaveTuples gs bs) (sym (legs_on_all ls cs sectors fit)) have })
      (subst (λ gs. IsTuple gs ss) (sym (left_is sectors ls cs fit)) h)
      (subst (λ gs. IsInner gs ss (inner_of (left_legs ls cs) ss n)) (sym (left_is sectors ls cs fit)) (inner_in (left_legs ls cs) ss n h lt))
      ∙ over_tuples ls bs _ (block_term ls cs lines_odd ss n) have (term_is ss n h lt)
