-- A rule of one leg can be contracted with a tensor, and what comes of it.
use Rattle.std.proofs.Common.{◌≡◌, ◌≤◌, ◌<◌, ℕ, suc, ◌+◌, ◌-◌, ◌^◌, false, List, [], ◌∷◌, ◌++◌, sym, ◌∙◌, ap, subst, length, arith}
use Rattle.std.proofs.lemmas.List.{append_assoc}
use Rattle.std.specs.List.{range_with_len}
use Rattle.qn_sign.specs.Sign.{Perm}
use Rattle.qn_sign.specs.Positions.{positions, IsOrder}
use Rattle.qn_sign.proofs.Positions.{orders_are_permutations, length-perm}
use Rattle.qn_sign.proofs.Parity.{perm_blocks}
use Rattle.qn_charge.specs.Charges.{IsGroup, zero_charge, sum_charge}
use Rattle.qn_charge.specs.Laws.{zero_is_neutral}
use Rattle.qn_index.specs.Legs.{LegValue, IsLegOf, IsSound, flipped}
use Rattle.qn_index.specs.Tuples.{IsFlux}
use Rattle.qn_index.specs.Extents.{IsWithinLimits}
use Rattle.qn_value.specs.Tensors.{TensorValue}
use Rattle.qn_value.specs.Local.{no_leg, Moved, Pairwise}
use Rattle.qn_value.proofs.CoupledLemmas.{leg_at}
use Rattle.qn_block.specs.Blocked.{BlockedValue, IsBlocked, tensor_of}
use Rattle.qn_block.proofs.Entries.{is_tensor}
use Rattle.qn_permute.proofs.Widths.{count_perm, entries_perm}
use Rattle.qn_match.specs.Pairs.{joined, ArePaired}
use Rattle.qn_match.proofs.OpenLegs.{legs_open}
use Rattle.qn_kernel.proofs.Places.{range_append}
use Rattle.qn_diagonal.specs.Diagonal.{put_back, Weighed}
use Rattle.qn_diagonal.proofs.Places.{shared}
use Rattle.qn_diagonal.proofs.Weighing.{before, after, split_is, diagonal, legs_open as diagonal_open}
use Rattle.qn_lazy.specs.Asked.{IsTable}
use Rattle.qn_lazy.specs.LegRules.{LegRuleValue, legs_of, weight_of, rule_table}
use Rattle.qn_lazy.specs.Meaning.{answers_of, as_rule}
use Rattle.qn_lazy.proofs.Meanings.{leg_rule_law}
use Rattle.qn_lazy.proofs.Tables.{has_table_law}

-- a range that was appended, and the number after it
pub range_more : (before out new : List ℕ) (first i : ℕ) → out ≡ before ++ range_with_len first i → new ≡ out ++ (first + i) ∷ [] → new ≡ before ++ range_with_len first (i + 1)
range_more before out new first i e f =
    f
    ∙ ap (λ (xs : List ℕ). xs ++ (first + i) ∷ []) e
    ∙ append_assoc before (range_with_len first i) ((first + i) ∷ [])
    ∙ ap (λ xs. before ++ xs) (sym (range_append first i 1))

-- putting the first leg back is an order of the legs
pub put_back_order : (m n : ℕ) → m < n → IsOrder n (put_back m n)
put_back_order m n lt =
    (orders_are_permutations n (put_back m n)).0
    (subst (λ ps. Perm ps (put_back m n)) (sym places) (perm_blocks (0 ∷ []) (range_with_len 1 m) (range_with_len (m + 1) (n - m - 1))))
  where
    long : n ≡ suc (m + (n - m - 1))
    long = omega (arith, lt)

    next : 1 + m ≡ m + 1
    next = omega arith

    places : positions n ≡ 0 ∷ (range_with_len 1 m ++ range_with_len (m + 1) (n - m - 1))
    places =
        ap positions long
        ∙ ap (λ xs. 0 ∷ xs) (range_append 1 m (n - m - 1) ∙ ap (λ a. range_with_len 1 m ++ range_with_len a (n - m - 1)) next)

module _ (t : BlockedValue) (m : ℕ) (h : IsBlocked t) (lt : m < length t.legs) where
  abbrev k : ℕ
  k = length t.legs - m - 1

  count : length t.legs ≡ m + suc (length t.legs - m - 1)
  count = omega (arith, lt)

  abbrev gs : List LegValue
  gs = before no_leg t.legs m k count

  abbrev hs : List LegValue
  hs = after no_leg t.legs m k count

  abbrev firsts : List LegValue
  firsts = leg_at t.legs m ∷ flipped (leg_at t.legs m) ∷ []

  first_perm : Perm (leg_at t.legs m ∷ (gs ++ hs)) t.legs
  first_perm = subst (λ ls. Perm (leg_at t.legs m ∷ (gs ++ hs)) ls) (split_is no_leg t.legs m k count) (perm_blocks (leg_at t.legs m ∷ []) gs hs)

  legs_are : joined ((1, m) ∷ []) firsts t.legs ≡ leg_at t.legs m ∷ (gs ++ hs)
  legs_are =
      legs_open (diagonal [] (tensor_of t) m k count) (tensor_of t) ((1, m) ∷ []) (shared t.legs m k count)
      ∙ diagonal_open [] (tensor_of t) m k count

  limits : IsWithinLimits t.group (leg_at t.legs m ∷ (gs ++ hs)) t.flux
  limits = record {
    legs = subst (λ n. n ≤ 64) (sym (length-perm first_perm)) h.shape.legs;
    tuples = subst (λ n. n ≤ 2 ^ 20) (sym (count_perm first_perm)) h.shape.tuples;
    entries = subst (λ n. n ≤ 2 ^ 22) (sym (entries_perm t.group t.flux h.group h.flux.canonical first_perm)) h.shape.entries;
  }

  neutral : sum_charge t.group (zero_charge t.group) t.flux ≡ t.flux
  neutral = zero_is_neutral t.group t.flux h.flux.canonical

  paired : ArePaired t.group (leg_at t.legs m ∷ flipped (leg_at t.legs m) ∷ []) (zero_charge t.group) t.legs t.flux ((1, m) ∷ [])
  paired = record {
    legs = shared t.legs m k count;
    flux = subst (IsFlux t.group) (sym neutral) h.flux;
    width = subst (λ ls. IsWithinLimits t.group ls (sum_charge t.group (zero_charge t.group) t.flux)) (sym legs_are) (subst (IsWithinLimits t.group (leg_at t.legs m ∷ (gs ++ hs))) (sym neutral) limits);
  }

  module _ (r : LegRuleValue) (group : r.group ≡ t.group) (leg : r.leg ≡ leg_at t.legs m) where
    pub rule_paired : ArePaired r.group (legs_of r.leg) (zero_charge r.group) t.legs t.flux ((1, m) ∷ [])
    rule_paired =
        subst (λ fs. ArePaired fs (legs_of r.leg) (zero_charge fs) t.legs t.flux ((1, m) ∷ [])) (sym group)
        (subst (λ l. ArePaired t.group (legs_of l) (zero_charge t.group) t.legs t.flux ((1, m) ∷ [])) (sym leg) paired)

    pub table : IsTable answers_of (as_rule r) (rule_table r)
    table = has_table_law r
        (subst IsGroup (sym group) h.group)
        (subst IsSound (sym leg) (h.sound m no_leg lt))
        (subst (λ fs. IsLegOf fs r.leg) (sym group) (subst (IsLegOf t.group) (sym leg) (h.charges m no_leg lt)))

    -- the legs before the first is put back are as many as those of the tensor
    pub as_many : (p : TensorValue) → Pairwise (rule_table r) (tensor_of t) ((1, m) ∷ []) false p → length p.legs ≡ length t.legs
    as_many p pair =
        ap (λ (ls : List LegValue). length ls)
        (pair.legs ∙ sym (legs_open (rule_table r) (tensor_of t) ((1, m) ∷ []) rule_paired.legs) ∙ (λ i. joined ((1, m) ∷ []) (legs_of (leg i)) t.legs) ∙ legs_are)
        ∙ length-perm first_perm

    pub weighed : (p q : TensorValue) → Pairwise (rule_table r) (tensor_of t) ((1, m) ∷ []) false p → Moved p (put_back m (length t.legs)) q →
        Weighed (tensor_of t) m (weight_of r.leg r.part) q
    weighed p q pair moved = leg_rule_law r (rule_table r) (tensor_of t) p q m (is_tensor t h) lt group leg table pair moved
