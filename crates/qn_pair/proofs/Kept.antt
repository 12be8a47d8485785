-- The blocks that the result keeps, and the places that pass.
use Rattle.std.proofs.Common.{◌≡◌, ◌<◌, ◌≤◌, ℕ, zero, suc, ◌⊎◌, inl, inr, Bool, true, false, not, ◌&&◌, cond, None, Some, List, [], ◌∷◌, refl, sym, ◌∙◌, ap, subst, map, filter, length, get_or, zero-add, arith}
use Rattle.std.specs.Prelude.{Option}
use Rattle.std.specs.List.{All}
use Rattle.std.specs.Cmp.Lexicographic.{slice_cmp}
use Rattle.std.specs.Ordering.{nat_cmp}
use Rattle.std.specs.declared.cmp.Ordering.TheVariants.{Less}
use Rattle.std.proofs.lemmas.Bool.{cases_lt, true≢false}
use Rattle.std.proofs.lemmas.List.{get_or_default}
use Rattle.std.proofs.lemmas.List.Elements.{All-filter}
use Rattle.std.proofs.lemmas.List.FromFn.{get_or-map-range_with_len, length-map-range_with_len}
use Rattle.qn_sign.specs.Positions.{positions}
use Rattle.qn_gauss.specs.Gaussian.{Gaussian, zero_g}
use Rattle.qn_charge.specs.Charges.{parity}
use Rattle.qn_index.specs.Legs.{LegValue}
use Rattle.qn_index.specs.Places.{block_size, values_at, sectors_at, offset_at}
use Rattle.qn_index.proofs.Places.{forth}
use Rattle.qn_index.proofs.Admitted.{listed}
use Rattle.qn_value.specs.Tensors.{BlockValue, IsBlock, AreAscending, same_values, entry_in, no_block}
use Rattle.qn_value.specs.Local.{pair_entry}
use Rattle.qn_value.specs.Magnitudes.{first_passing, passing_offset, pair_magnitude}
use Rattle.qn_value.proofs.Values.{same_values-equal}
use Rattle.qn_block.specs.Blocked.{MeetFlux, tensor_of}
use Rattle.qn_block.specs.Refusals.{block_at}
use Rattle.qn_block.specs.Steps.{IsStepFault}
use Rattle.qn_block.specs.declared.step.StepFault.{StepFault}
use Rattle.qn_block.specs.declared.step.StepFault.TheVariants.{Passed, Memory}
use Rattle.qn_block.proofs.Written.{IsFilled, IsListed, admitted_pairs, filled_ascend, filled_answer}
use Rattle.qn_block.proofs.Ascending.{filter_ascends}
use Rattle.qn_block.proofs.Lookup.{not_below_itself, entry_nowhere}
use Rattle.qn_match.specs.Pairs.{pairs_for}
use Rattle.qn_kernel.specs.Sources.{sources, entry_sum}
use Rattle.qn_pair.specs.Steps.{result_flux, passing_in, IsEntry, IsTaskFault}
use Rattle.qn_pair.specs.Jobs.{JobValue, IsKnown, legs_of, tuples_of, tuple_at, task_block, sources_at, Passes, passing_of_job}
use Rattle.qn_pair.specs.Workers.{IsFirst, is_empty, has_pairs, kept_blocks}
use Rattle.qn_pair.proofs.Listed.{listed_tuple}
use Rattle.qn_pair.proofs.Tasks.{entry_at}

-- ---- the places that pass

no_value : (r : Option ℕ) → ((o : ℕ) → r ≡ Some o → ⊥) → r ≡ None
no_value None h = refl
no_value (Some o) h = absurd (h o refl)

pub clear_is : (j : JobValue) (t : ℕ) → ¬ Passes j t → passing_in j.first j.second j.shared (tuple_at j t) ≡ None
clear_is j t h = no_value (passing_in j.first j.second j.shared (tuple_at j t)) (λ o e. h (o, e))

none_in : (size : List ℕ → ℕ) (ls : List LegValue) (ts : List (List ℕ)) → ((t : ℕ) → t < length ts → passing_offset size ls (get_or ts t []) ≡ None) → first_passing size ls ts ≡ None
none_in size ls [] h = refl
none_in size ls (u ∷ ts) h = rw (h 0 (omega arith)) (none_in size ls ts (λ t lt. h (suc t) (omega (arith, lt))))

first_in : (size : List ℕ → ℕ) (ls : List LegValue) (ts : List (List ℕ)) (t o : ℕ) → t < length ts → ((u : ℕ) → u < t → passing_offset size ls (get_or ts u []) ≡ None) → passing_offset size ls (get_or ts t []) ≡ Some o →
    first_passing size ls ts ≡ Some (record { tuple = get_or ts t []; offset = o })
first_in size ls [] t o lt before here = absurd (omega (arith, lt))
first_in size ls (u ∷ ts) zero o lt before here = rw here refl
first_in size ls (u ∷ ts) (suc t) o lt before here = rw (before 0 (omega arith)) (first_in size ls ts t o (omega (arith, lt)) (λ k le. before (suc k) (omega (arith, le))) here)

pub none_passes : (j : JobValue) → ((t : ℕ) → t < length (tuples_of j) → ¬ Passes j t) → passing_of_job j ≡ None
none_passes j h = none_in (pair_magnitude (tensor_of j.first) (tensor_of j.second) j.shared) (legs_of j) (tuples_of j) (λ t lt. clear_is j t (h t lt))

pub first_passes : (j : JobValue) (t o : ℕ) → IsFirst j t → passing_in j.first j.second j.shared (tuple_at j t) ≡ Some o → passing_of_job j ≡ Some (record { tuple = tuple_at j t; offset = o })
first_passes j t o f here = first_in (pair_magnitude (tensor_of j.first) (tensor_of j.second) j.shared) (legs_of j) (tuples_of j) t o f.task (λ u lt. clear_is j u (f.before u lt)) here

pub fault_first : (j : JobValue) (t : ℕ) (f : StepFault) → IsFirst j t → IsTaskFault j.first j.second j.shared (tuple_at j t) f → IsStepFault (passing_of_job j) f
fault_first j t (Passed at offset) first h = subst (λ (u : List ℕ). passing_of_job j ≡ Some (record { tuple = u; offset = offset })) (sym h.0) (first_passes j t offset first h.1)
fault_first j t Memory first h = tt

-- ---- the blocks of all tasks

module _ (j : JobValue) (h : IsKnown j) where
  abbrev pub all_of : List BlockValue
  all_of = map (task_block j) (positions (length (tuples_of j)))

  long : length all_of ≡ length (tuples_of j)
  long = length-map-range_with_len (task_block j) 0 (length (tuples_of j))

  there : (k : ℕ) → k < length (tuples_of j) → block_at all_of k ≡ task_block j k
  there k lt = get_or-map-range_with_len (task_block j) 0 (length (tuples_of j)) k k no_block lt (zero-add k)

  block_filled : (k : ℕ) → k < length (tuples_of j) → IsFilled (IsEntry j.first j.second j.shared j.between) j.first.group (legs_of j) (result_flux j.first j.second) (tuple_at j k) (task_block j k)
  block_filled k lt =
      let l : IsListed j.first.group (legs_of j) (result_flux j.first j.second) (tuple_at j k) = listed_tuple j k h.pair lt in
      let f : ℕ → Gaussian = λ o. pair_entry (tensor_of j.first) (tensor_of j.second) j.shared j.between (values_at (legs_of j) (tuple_at j k) o) in
      record {
        tuple = refl;
        block = record {
          tuple = l.admissible.tuple;
          flux = l.admissible.flux;
          full = length-map-range_with_len f 0 (block_size (legs_of j) (tuple_at j k));
          small = l.small;
        };
        answers = λ o le. sym (get_or-map-range_with_len f 0 (block_size (legs_of j) (tuple_at j k)) o o zero_g le (zero-add o));
      }

  filled : (k : ℕ) → k < length all_of → IsFilled (IsEntry j.first j.second j.shared j.between) j.first.group (legs_of j) (result_flux j.first j.second) (get_or (tuples_of j) k []) (block_at all_of k)
  filled k lt =
      let le : k < length (tuples_of j) = omega (arith, lt, long) in
      subst (λ b. IsFilled (IsEntry j.first j.second j.shared j.between) j.first.group (legs_of j) (result_flux j.first j.second) (get_or (tuples_of j) k []) b) (sym (there k le)) (block_filled k le)

  all_ascend : AreAscending all_of
  all_ascend =
      filled_ascend (IsEntry j.first j.second j.shared j.between) j.first.group (legs_of j) (result_flux j.first j.second) (tuples_of j) all_of (sym long) (admitted_pairs j.first.group (legs_of j) (result_flux j.first j.second)) filled

  all_blocks : All (IsBlock j.first.group (legs_of j) (result_flux j.first j.second)) all_of
  all_blocks k d lt = subst (IsBlock j.first.group (legs_of j) (result_flux j.first j.second)) (get_or_default all_of k no_block d lt) (filled k lt).block

  all_answer : (xs : List ℕ) → MeetFlux j.first.group (legs_of j) (result_flux j.first j.second) xs → IsEntry j.first j.second j.shared j.between xs (entry_in (legs_of j) all_of xs)
  all_answer xs m =
      filled_answer (IsEntry j.first j.second j.shared j.between) j.first.group (legs_of j) (result_flux j.first j.second) (tuples_of j) all_of xs (sym long) all_ascend filled m.range
      (listed j.first.group (legs_of j) (result_flux j.first j.second) (sectors_at (legs_of j) xs) record { tuple = (forth (legs_of j) xs m.range).tuple; flux = m.flux })

-- ---- blocks of zeros

past_end : {A : Type 0} (xs : List A) (o : ℕ) (d : A) → length xs ≤ o → get_or xs o d ≡ d
past_end [] o d le = refl
past_end (x ∷ xs) zero d le = absurd (omega (arith, le))
past_end (x ∷ xs) (suc o) d le = past_end xs o d (omega (arith, le))

empty_is : {A : Type 0} (xs : List A) → not (is_empty xs) ≡ false → xs ≡ []
empty_is [] e = refl
empty_is (x ∷ xs) e = absurd (true≢false e)

-- a task without a pair of blocks has zeros alone
zeros_in : (j : JobValue) (h : IsKnown j) (t : ℕ) → t < length (tuples_of j) → has_pairs j (task_block j t) ≡ false → (o : ℕ) → get_or (task_block j t).entries o zero_g ≡ zero_g
zeros_in j h t lt e o = by (cases_lt o (block_size (legs_of j) (tuple_at j t)))
  where
    f : ℕ → Gaussian
    f k = pair_entry (tensor_of j.first) (tensor_of j.second) j.shared j.between (values_at (legs_of j) (tuple_at j t) k)

    none : pairs_for j.shared j.first.blocks j.second.blocks (tuple_at j t) ≡ []
    none = empty_is (pairs_for j.shared j.first.blocks j.second.blocks (tuple_at j t)) e

    nothing : entry_sum (sources_at j t) o ≡ zero_g
    nothing = ap (λ ps. entry_sum (sources j.first.group j.first.legs j.second.legs j.shared (j.between && parity j.second.group j.second.flux) (legs_of j) (tuple_at j t) j.first.blocks j.second.blocks ps) o) none

    by : (o < block_size (legs_of j) (tuple_at j t)) ⊎ (block_size (legs_of j) (tuple_at j t) ≤ o) → get_or (task_block j t).entries o zero_g ≡ zero_g
    by (inl le) =
        get_or-map-range_with_len f 0 (block_size (legs_of j) (tuple_at j t)) o o zero_g le (zero-add o)
        ∙ entry_at j t h.first h.second h.pair (listed_tuple j t h.pair lt).admissible.tuple o le
        ∙ nothing
    by (inr ge) = past_end (task_block j t).entries o zero_g (omega (arith, ge, length-map-range_with_len f 0 (block_size (legs_of j) (tuple_at j t))))

-- blocks of zeros count for nothing
entry_kept : (ls : List LegValue) (keep : BlockValue → Bool) (bs : List BlockValue) (xs : List ℕ) → AreAscending bs → All (λ b. keep b ≡ false → (o : ℕ) → get_or b.entries o zero_g ≡ zero_g) bs → entry_in ls (filter keep bs) xs ≡ entry_in ls bs xs
entry_kept ls keep [] xs a zeros = refl
entry_kept ls keep (b ∷ bs) xs a zeros =
    by (keep b) refl (same_values b.tuple (sectors_at ls xs)) refl (entry_kept ls keep bs xs (λ i k lt le. a (suc i) (suc k) (omega (arith, lt)) (omega (arith, le))) (λ k d lt. zeros (suc k) d (omega (arith, lt))))
  where
    rest : List BlockValue
    rest = filter keep bs

    here : Gaussian
    here = get_or b.entries (offset_at ls xs) zero_g

    by : (f : Bool) → keep b ≡ f → (s : Bool) → same_values b.tuple (sectors_at ls xs) ≡ s → entry_in ls rest xs ≡ entry_in ls bs xs → entry_in ls (cond f (b ∷ rest) rest) xs ≡ cond s here (entry_in ls bs xs)
    by true f s e more = ap (λ y. cond y here (entry_in ls rest xs)) e ∙ ap (λ z. cond s here z) more
    by false f false e more = more
    by false f true e more =
        let same : b.tuple ≡ sectors_at ls xs = same_values-equal b.tuple (sectors_at ls xs) e in
        let none : entry_in ls bs xs ≡ zero_g = entry_nowhere ls bs xs (λ k lt q. not_below_itself b.tuple (subst (λ t. slice_cmp nat_cmp b.tuple t ≡ Less) (q ∙ sym same) (a 0 (suc k) (omega arith) (omega (arith, lt))))) in
        more ∙ (none ∙ sym (zeros 0 b (omega arith) f (offset_at ls xs)))

-- ---- the blocks that are kept

module _ (j : JobValue) (h : IsKnown j) where
  pub kept_ascend : AreAscending (kept_blocks j)
  kept_ascend = filter_ascends (has_pairs j) (map (task_block j) (positions (length (tuples_of j)))) (all_ascend j h)

  pub kept_are_blocks : All (IsBlock j.first.group (legs_of j) (result_flux j.first j.second)) (kept_blocks j)
  kept_are_blocks = All-filter (has_pairs j) (IsBlock j.first.group (legs_of j) (result_flux j.first j.second)) (map (task_block j) (positions (length (tuples_of j)))) (all_blocks j h)

  zeros_all : All (λ b. has_pairs j b ≡ false → (o : ℕ) → get_or b.entries o zero_g ≡ zero_g) (map (task_block j) (positions (length (tuples_of j))))
  zeros_all k d lt =
      let le : k < length (tuples_of j) = omega (arith, lt, length-map-range_with_len (task_block j) 0 (length (tuples_of j))) in
      subst (λ b. has_pairs j b ≡ false → (o : ℕ) → get_or b.entries o zero_g ≡ zero_g) (sym (get_or-map-range_with_len (task_block j) 0 (length (tuples_of j)) k k d le (zero-add k))) (zeros_in j h k le)

  pub kept_answer : (xs : List ℕ) → MeetFlux j.first.group (legs_of j) (result_flux j.first j.second) xs → IsEntry j.first j.second j.shared j.between xs (entry_in (legs_of j) (kept_blocks j) xs)
  kept_answer xs m =
      subst (IsEntry j.first j.second j.shared j.between xs) (sym (entry_kept (legs_of j) (has_pairs j) (map (task_block j) (positions (length (tuples_of j)))) xs (all_ascend j h) zeros_all)) (all_answer j h xs m)
