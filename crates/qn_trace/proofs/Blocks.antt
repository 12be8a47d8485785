-- Blocks of a trace, made for the admissible tuples of its open legs.
use Rattle.std.proofs.Common.{◌≡◌, ◌≤◌, ◌<◌, ℕ, ℤ, List, None, Some, refl, sym, ◌∙◌, ap, subst, map, length, get_or, drop, zero-add, arith}
use Rattle.std.proofs.lemmas.List.{get_or_default}
use Rattle.std.proofs.lemmas.List.FromFn.{get_or-map-range_with_len, length-map-range_with_len}
use Rattle.qn_sign.specs.Positions.{positions}
use Rattle.qn_gauss.specs.Gaussian.{Gaussian, zero_g, limit}
use Rattle.qn_charge.specs.declared.factor.Factor.{Factor}
use Rattle.qn_index.specs.Legs.{LegValue}
use Rattle.qn_index.specs.Tuples.{IsTuple, admitted}
use Rattle.qn_index.specs.Extents.{IsWithinLimits}
use Rattle.qn_index.specs.Places.{block_size, values_at}
use Rattle.std.specs.List.{All}
use Rattle.qn_value.specs.Tensors.{BlockValue, IsBlock}
use Rattle.qn_value.specs.Local.{IsCoupling, trace_entry}
use Rattle.qn_value.specs.Magnitudes.{passing_offset, first_passing, trace_magnitude}
use Rattle.qn_block.specs.Blocked.{BlockedValue, IsBlocked, tensor_of}
use Rattle.qn_block.specs.Steps.{IsStepFault}
use Rattle.qn_block.specs.declared.step.StepFault.{StepFault}
use Rattle.qn_block.specs.declared.step.StepFault.TheVariants.{Passed, Memory}
use Rattle.qn_block.proofs.Written.{IsFilled, IsListed, listed_at}
use Rattle.qn_trace.specs.Sources.{SourceValue, sources, entry_sum, size_sum, IsPassing, IsReadable, HasBlock}
use Rattle.qn_strides.proofs.Opens.{left_legs}
use Rattle.qn_trace.proofs.Entries
use Rattle.qn_trace.proofs.Sizes
use Rattle.qn_strides.proofs.Passing.{clear_block, passing_block, passing_here}

-- the entry of the trace at these values
abbrev pub Answers : BlockedValue → List (ℕ × ℕ) → List ℕ → Gaussian → Type 0
Answers t cs xs z = trace_entry (tensor_of t) cs xs ≡ z

-- a tuple of the result, the blocks that count for it, and the size of its block
pub record IsMade (t : BlockedValue) (cs : List (ℕ × ℕ)) (ls : List LegValue) (ss : List ℕ) (xs : List SourceValue) (len : ℕ) : Type 0 where
  pub blocked : IsBlocked t
  pub good : IsCoupling t.legs cs
  pub left : ls ≡ left_legs t.legs cs
  pub listed : IsListed t.group ls t.flux ss
  pub sources : xs ≡ sources t.group t.legs cs ls ss t.blocks
  pub len_is : len ≡ block_size ls ss

entries_are : (t : BlockedValue) (cs : List (ℕ × ℕ)) (ls : List LegValue) (ss : List ℕ) (xs : List SourceValue) (len o : ℕ) → IsMade t cs ls ss xs len → o < len → trace_entry (tensor_of t) cs (values_at ls ss o) ≡ entry_sum xs o
entries_are t cs ls ss xs len o m lt =
    subst (λ ks. IsTuple ks ss → o < block_size ks ss → xs ≡ sources t.group t.legs cs ks ss t.blocks → trace_entry (tensor_of t) cs (values_at ks ss o) ≡ entry_sum xs o) (sym m.left)
    (λ a b e. Entries.entry_is t.group t.legs t.flux t.blocks cs m.good m.blocked.blocks m.blocked.ascending ss o a b ∙ ap (λ (ys : List SourceValue). entry_sum ys o) (sym e))
    m.listed.admissible.tuple (subst (λ n. o < n) m.len_is lt) m.sources

sizes_are : (t : BlockedValue) (cs : List (ℕ × ℕ)) (ls : List LegValue) (ss : List ℕ) (xs : List SourceValue) (len o : ℕ) → IsMade t cs ls ss xs len → o < len → trace_magnitude (tensor_of t) cs (values_at ls ss o) ≡ size_sum xs o
sizes_are t cs ls ss xs len o m lt =
    subst (λ ks. IsTuple ks ss → o < block_size ks ss → xs ≡ sources t.group t.legs cs ks ss t.blocks → trace_magnitude (tensor_of t) cs (values_at ks ss o) ≡ size_sum xs o) (sym m.left)
    (λ a b e. Sizes.size_is t.group t.legs t.flux t.blocks cs m.good m.blocked.blocks m.blocked.ascending ss o a b ∙ ap (λ (ys : List SourceValue). size_sum ys o) (sym e))
    m.listed.admissible.tuple (subst (λ n. o < n) m.len_is lt) m.sources

pub filled_is : (t : BlockedValue) (cs : List (ℕ × ℕ)) (ls : List LegValue) (ss : List ℕ) (xs : List SourceValue) (len : ℕ) (b : BlockValue) → IsMade t cs ls ss xs len →
    b ≡ record { tuple = ss; entries = map (entry_sum xs) (positions len) } → IsFilled (Answers t cs) t.group ls t.flux ss b
filled_is t cs ls ss xs len b m g = subst (IsFilled (Answers t cs) t.group ls t.flux ss) (sym g) record {
  tuple = refl;
  block = record {
    tuple = m.listed.admissible.tuple;
    flux = m.listed.admissible.flux;
    full = length-map-range_with_len (entry_sum xs) 0 len ∙ m.len_is;
    small = m.listed.small;
  };
  answers = λ o lt.
      let below : o < len = subst (λ n. o < n) (sym m.len_is) lt in
      entries_are t cs ls ss xs len o m below ∙ sym (get_or-map-range_with_len (entry_sum xs) 0 len o o zero_g below (zero-add o));
}

-- a tuple at which nothing passes
pub clear_is : (t : BlockedValue) (cs : List (ℕ × ℕ)) (ls : List LegValue) (ss : List ℕ) (xs : List SourceValue) (len : ℕ) → IsMade t cs ls ss xs len →
    ((o : ℕ) → o < len → size_sum xs o ≤ limit) → passing_offset (trace_magnitude (tensor_of t) cs) ls ss ≡ None
clear_is t cs ls ss xs len m k =
    clear_block (trace_magnitude (tensor_of t) cs) ls ss (λ o lt.
    let below : o < len = subst (λ n. o < n) (sym m.len_is) lt in
    subst (λ n. n ≤ limit) (sym (sizes_are t cs ls ss xs len o m below)) (k o below))

-- the first tuple at which something passes
pub fault_is : (t : BlockedValue) (cs : List (ℕ × ℕ)) (ls : List LegValue) (ts : List (List ℕ)) (i : ℕ) (ss : List ℕ) (xs : List SourceValue) (len : ℕ) (e : StepFault) → IsMade t cs ls ss xs len → i < length ts → ss ≡ get_or ts i ss →
    first_passing (trace_magnitude (tensor_of t) cs) ls ts ≡ first_passing (trace_magnitude (tensor_of t) cs) ls (drop i ts) → IsPassing xs ss len e → IsStepFault (first_passing (trace_magnitude (tensor_of t) cs) ls ts) e
fault_is t cs ls ts i ss xs len Memory m lt is k p = tt
fault_is t cs ls ts i ss xs len (Passed at offset) m lt is k p =
    let size : List ℕ → ℕ = trace_magnitude (tensor_of t) cs in
    passing_here size ls ts i ss offset lt is k (
    passing_block size ls ss offset (subst (λ n. offset < n) m.len_is p.1) (subst (λ n. limit < n) (sym (sizes_are t cs ls ss xs len offset m p.1)) p.2)
    (λ j q. subst (λ n. n ≤ limit) (sym (sizes_are t cs ls ss xs len j m (omega (arith, q, p.1)))) (p.3 j q)))
    ∙ ap (λ u. Some (record { tuple = u; offset = offset })) (sym p.0)

-- the blocks of a tensor can be gone through
pub readable : (t : BlockedValue) → IsBlocked t → All (IsReadable t.legs) t.blocks
readable t h k d lt = by (h.blocks k d lt)
  where
    by : IsBlock t.group t.legs t.flux (get_or t.blocks k d) → IsReadable t.legs (get_or t.blocks k d)
    by b = (b.tuple, b.small)

-- each listed tuple has a small block
pub have_blocks : (fs : List Factor) (ls : List LegValue) (q : List ℤ) (ts : List (List ℕ)) → IsWithinLimits fs ls q → ts ≡ admitted fs ls q → All (HasBlock ls) ts
have_blocks fs ls q ts w e k d lt =
    let a : IsListed fs ls q (get_or ts k d) = listed_at fs ls q ts k (get_or ts k d) w e lt (get_or_default ts k d (get_or ts k d) lt) in
    (a.admissible.tuple, a.small)

pub tuples_are : (fs gs : List Factor) (ls : List LegValue) (q r : List ℤ) (ts : List (List ℕ)) → ts ≡ admitted gs ls r → gs ≡ fs → r ≡ q → ts ≡ admitted fs ls q
tuples_are fs gs ls q r ts e f g = e ∙ (λ i. admitted (f i) ls (g i))
