-- The blocks of the tasks of a contraction.
use Rattle.std.proofs.Common.{◌≡◌, ◌≤◌, ◌<◌, ℕ, zero, suc, ◌+◌, ◌*◌, ℤ, Bool, ◌&&◌, None, Some, List, [], ◌∷◌, ◌++◌, refl, sym, ◌∙◌, ap, ap₂, subst, map, length, get_or, add-zero, zero-add, arith}
use Rattle.std.specs.Prelude.{Option, Result, Ok, Err, IfOk, IfErr, OnOk, MatchOption}
use Rattle.std.specs.List.{All, range_with_len, flat_map, sum_by}
use Rattle.std.proofs.Math.Nat.{mul-add}
use Rattle.std.proofs.lemmas.List.Sums.{sum_by-cons}
use Rattle.std.proofs.lemmas.List.Elements.{All-nil, All-cons, All-append, All-filter, All-map}
use Rattle.qn_sign.specs.Positions.{positions}
use Rattle.qn_gauss.specs.Gaussian.{Gaussian, limit}
use Rattle.qn_charge.specs.declared.factor.Factor.{Factor}
use Rattle.qn_charge.specs.Charges.{parity}
use Rattle.qn_index.specs.Legs.{LegValue, sector_at}
use Rattle.qn_index.specs.Tuples.{IsTuple}
use Rattle.qn_index.specs.Places.{block_size, values_at}
use Rattle.qn_value.specs.Tensors.{BlockValue, IsBlock}
use Rattle.qn_value.specs.Local.{no_leg, pair_entry}
use Rattle.qn_value.specs.Magnitudes.{pair_magnitude}
use Rattle.qn_block.specs.Blocked.{BlockedValue, IsBlocked, tensor_of}
use Rattle.qn_block.specs.Refusals.{block_at}
use Rattle.qn_block.specs.declared.step.StepFault.{StepFault}
use Rattle.qn_block.specs.declared.step.StepFault.TheVariants.{Passed, Memory}
use Rattle.qn_match.specs.Pairs.{give, all_pairs, pairs_for, TaskValue, task_for, IsPair}
use Rattle.qn_match.specs.Shares.{shared_size}
use Rattle.qn_strides.proofs.Opens.{left_legs}
use Rattle.qn_strides.proofs.Passing.{clear_block, passing_block}
use Rattle.qn_kernel.specs.Sources.{couples_of, SourceValue, paired_axes, all_values, source_of, sources, entry_sum, size_sum, products, IsFrame, IsReadable, IsPassing, IsFirstAbove}
use Rattle.qn_pair.specs.Steps.{passing_in, IsTaskFault, IsEntry}
use Rattle.qn_pair.specs.Jobs.{JobValue, legs_of, tuple_at, task_block, sources_at, products_at, Passes}
use Rattle.qn_pair.proofs.Words.{result_is}
use Rattle.qn_pair.proofs.Listed.{left_same}
use Rattle.qn_pair.proofs.Contracted.{entry_is}
use Rattle.qn_pair.proofs.Amounts.{amount_is}
use Rattle.qn_kernel.proofs.Splits.{below_all}

pub if_ok : {A E : Type 0} (P Q : A → Type 0) (r : Result A E) → ((x : A) → P x → Q x) → IfOk r P → IfOk r Q
if_ok P Q (Ok x) f h = f x h
if_ok P Q (Err e) f h = tt

pub if_err : {A E : Type 0} (P Q : E → Type 0) (r : Result A E) → ((x : E) → P x → Q x) → IfErr r P → IfErr r Q
if_err P Q (Ok x) f h = tt
if_err P Q (Err e) f h = f e h

pub in_ok : {A E : Type 0} (P : A → Type 0) (r : Result A E) (x : A) → r ≡ Ok x → IfOk r P → P x
in_ok P r x e h = subst (λ q. IfOk q P) e h

-- the arms of a search
pub found_none : {A : Type 0} (p : Option A) (P : Type 0) (Q : A → Type 0) → p ≡ None → MatchOption p P Q → P
found_none p P Q e h = subst (λ q. MatchOption q P Q) e h

pub found_some : {A : Type 0} (p : Option A) (P : Type 0) (Q : A → Type 0) (x : A) → p ≡ Some x → MatchOption p P Q → Q x
found_some p P Q x e h = subst (λ q. MatchOption q P Q) e h

-- ---- the pairs of a task

all_flat : {X Y : Type 0} (P : Y → Type 0) (f : X → List Y) (xs : List X) → All (λ x. All P (f x)) xs → All P (flat_map f xs)
all_flat P f [] h = All-nil P
all_flat P f (x ∷ xs) h = All-append P (f x) (flat_map f xs) (h 0 x (omega arith)) (all_flat P f xs (λ k d l. h (suc k) d (omega arith)))

pub first_there : (ps : List (ℕ × ℕ)) (bs ds : List BlockValue) (ss : List ℕ) → All (λ p. p.0 < length bs) (pairs_for ps bs ds ss)
first_there ps bs ds ss =
    All-filter (λ p. give ps ss (block_at bs p.0).tuple (block_at ds p.1).tuple) (λ (p : ℕ × ℕ). p.0 < length bs) (all_pairs (length bs) (length ds))
    (all_flat (λ (p : ℕ × ℕ). p.0 < length bs) (λ i. map (λ j. (i, j)) (positions (length ds))) (positions (length bs))
    (λ k d l. let i : ℕ = get_or (positions (length bs)) k d in
    All-map (λ (p : ℕ × ℕ). p.0 < length bs) (λ (j : ℕ). (i, j)) (positions (length ds)) (λ m e n. let r : i < 0 + length bs = below_all 0 (length bs) k d l in omega (arith, r))))

pub second_there : (ps : List (ℕ × ℕ)) (bs ds : List BlockValue) (ss : List ℕ) → All (λ p. p.1 < length ds) (pairs_for ps bs ds ss)
second_there ps bs ds ss =
    All-filter (λ p. give ps ss (block_at bs p.0).tuple (block_at ds p.1).tuple) (λ (p : ℕ × ℕ). p.1 < length ds) (all_pairs (length bs) (length ds))
    (all_flat (λ (p : ℕ × ℕ). p.1 < length ds) (λ i. map (λ j. (i, j)) (positions (length ds))) (positions (length bs))
    (λ k d l. let i : ℕ = get_or (positions (length bs)) k d in
    All-map (λ (p : ℕ × ℕ). p.1 < length ds) (λ (j : ℕ). (i, j)) (positions (length ds)) (λ m e n. let r : get_or (positions (length ds)) m e < 0 + length ds = below_all 0 (length ds) m e n in omega (arith, r))))

pub readable : (fs : List Factor) (ls : List LegValue) (q : List ℤ) (bs : List BlockValue) → All (IsBlock fs ls q) bs → All (IsReadable ls) bs
readable fs ls q bs h k d l = let b : IsBlock fs ls q (get_or bs k d) = h k d l in (b.tuple, b.small)

-- ---- the products of a task

values_are : (ks : List LegValue) (t ws us : List ℕ) (ps : List (ℕ × ℕ)) → all_values (paired_axes ks t ws us ps) ≡ shared_size ps ks t
values_are ks t ws us [] = refl
values_are ks t ws us (p ∷ ps) = ap (λ n. (paired_axes_len ks t p) * n) (values_are ks t ws us ps)
  where
    paired_axes_len : List LegValue → List ℕ → ℕ × ℕ → ℕ
    paired_axes_len gs s r = (sector_at (get_or gs r.0 no_leg).sectors (get_or s r.0 0)).dim

work_over : (fs : List Factor) (ks ls : List LegValue) (ps : List (ℕ × ℕ)) (turned : Bool) (rs : List LegValue) (ss : List ℕ) (bs ds : List BlockValue) (size : ℕ) (pairs : List (ℕ × ℕ)) →
    sum_by (λ (p : ℕ × ℕ). size * shared_size ps ks (block_at bs p.0).tuple) pairs ≡ size * products (sources fs ks ls ps turned rs ss bs ds pairs)
work_over fs ks ls ps turned rs ss bs ds size [] = nothing size
  where
    nothing : (n : ℕ) → 0 ≡ n * 0
    nothing n = omega arith
work_over fs ks ls ps turned rs ss bs ds size (p ∷ pairs) =
    let x : SourceValue = source_of fs ks ls ps turned rs ss (block_at bs p.0) (block_at ds p.1) in
    let rest : List SourceValue = sources fs ks ls ps turned rs ss bs ds pairs in
    sum_by-cons (λ (q : ℕ × ℕ). size * shared_size ps ks (block_at bs q.0).tuple) p pairs
    ∙ ap₂ ◌+◌ (ap (λ n. size * n) (sym (values_are ks (block_at bs p.0).tuple _ _ ps))) (work_over fs ks ls ps turned rs ss bs ds size pairs)
    ∙ sym (mul-add size (all_values x.paired) (products rest))
    ∙ ap (λ n. size * n) (sym (sum_by-cons (λ (y : SourceValue). all_values y.paired) x rest))

-- ---- the block of a task

map_same : {A : Type 0} (f g : ℕ → A) (a n : ℕ) → ((k : ℕ) → k < n → f (a + k) ≡ g (a + k)) → map f (range_with_len a n) ≡ map g (range_with_len a n)
map_same f g a zero h = refl
map_same f g a (suc n) h =
    let first : f a ≡ g a = subst (λ k. f k ≡ g k) (add-zero a) (h 0 (omega arith)) in
    let rest : map f (range_with_len (a + 1) n) ≡ map g (range_with_len (a + 1) n) =
    map_same f g (a + 1) n (λ k lt. let same : a + suc k ≡ a + 1 + k = omega arith in subst (λ m. f m ≡ g m) same (h (suc k) (omega arith))) in
    λ i. first i ∷ rest i

module _ (j : JobValue) (t : ℕ) (ha : IsBlocked j.first) (hb : IsBlocked j.second) (pair : IsPair j.first j.second j.shared) (tuple : IsTuple (legs_of j) (tuple_at j t)) where
  same : left_legs (j.first.legs ++ j.second.legs) (couples_of (length j.first.legs) j.shared) ≡ legs_of j
  same = sym (result_is j.first j.second j.shared)

  turned : Bool
  turned = j.between && parity j.second.group j.second.flux

  pub entry_at : (o : ℕ) → o < block_size (legs_of j) (tuple_at j t) → pair_entry (tensor_of j.first) (tensor_of j.second) j.shared j.between (values_at (legs_of j) (tuple_at j t) o) ≡ entry_sum (sources_at j t) o
  entry_at o lt =
      subst (λ ls. IsTuple ls (tuple_at j t) → o < block_size ls (tuple_at j t) → IsEntry j.first j.second j.shared j.between (values_at ls (tuple_at j t) o) (entry_sum (sources j.first.group j.first.legs j.second.legs j.shared (j.between && parity j.second.group j.second.flux) ls (tuple_at j t) j.first.blocks j.second.blocks (pairs_for j.shared j.first.blocks j.second.blocks (tuple_at j t))) o)) same
      (λ h l. entry_is j.first j.second j.shared ha hb pair.shapes.legs j.between (tuple_at j t) o h l) tuple lt

  pub amount_at : (o : ℕ) → o < block_size (legs_of j) (tuple_at j t) → pair_magnitude (tensor_of j.first) (tensor_of j.second) j.shared (values_at (legs_of j) (tuple_at j t) o) ≡ size_sum (sources_at j t) o
  amount_at o lt =
      subst (λ ls. IsTuple ls (tuple_at j t) → o < block_size ls (tuple_at j t) → pair_magnitude (tensor_of j.first) (tensor_of j.second) j.shared (values_at ls (tuple_at j t) o) ≡ size_sum (sources j.first.group j.first.legs j.second.legs j.shared (j.between && parity j.second.group j.second.flux) ls (tuple_at j t) j.first.blocks j.second.blocks (pairs_for j.shared j.first.blocks j.second.blocks (tuple_at j t))) o) same
      (λ h l. amount_is j.first j.second j.shared ha hb pair.shapes.legs (j.between && parity j.second.group j.second.flux) (tuple_at j t) o h l) tuple lt

  pub block_is : ◌≡◌ {A = BlockValue} (record { tuple = tuple_at j t; entries = map (entry_sum (sources_at j t)) (positions (block_size (legs_of j) (tuple_at j t))) }) (task_block j t)
  block_is =
      let f : ℕ → Gaussian = entry_sum (sources_at j t) in
      let g : ℕ → Gaussian = λ o. pair_entry (tensor_of j.first) (tensor_of j.second) j.shared j.between (values_at (legs_of j) (tuple_at j t) o) in
      let es : map f (positions (block_size (legs_of j) (tuple_at j t))) ≡ map g (positions (block_size (legs_of j) (tuple_at j t))) =
      map_same f g 0 (block_size (legs_of j) (tuple_at j t)) (λ k lt. subst (λ m. f m ≡ g m) (sym (zero-add k)) (sym (entry_at k lt))) in
      λ i. record { tuple = tuple_at j t; entries = es i }

  pub clear_at : ((o : ℕ) → o < block_size (legs_of j) (tuple_at j t) → size_sum (sources_at j t) o ≤ limit) → passing_in j.first j.second j.shared (tuple_at j t) ≡ None
  clear_at h = clear_block (pair_magnitude (tensor_of j.first) (tensor_of j.second) j.shared) (legs_of j) (tuple_at j t) (λ o lt. subst (λ n. n ≤ limit) (sym (amount_at o lt)) (h o lt))

  pub passes_at : (o : ℕ) → o < block_size (legs_of j) (tuple_at j t) → limit < size_sum (sources_at j t) o → ((k : ℕ) → k < o → size_sum (sources_at j t) k ≤ limit) → passing_in j.first j.second j.shared (tuple_at j t) ≡ Some o
  passes_at o lt above before =
      passing_block (pair_magnitude (tensor_of j.first) (tensor_of j.second) j.shared) (legs_of j) (tuple_at j t) o lt (subst (λ n. limit < n) (sym (amount_at o lt)) above)
      (λ k le. subst (λ n. n ≤ limit) (sym (amount_at k (omega (arith, le, lt)))) (before k le))

  pub work_at : products_at j t ≡ block_size (legs_of j) (tuple_at j t) * products (sources_at j t)
  work_at =
      ap (λ (ls : List LegValue). sum_by (λ (p : ℕ × ℕ). block_size ls (tuple_at j t) * shared_size j.shared j.first.legs (block_at j.first.blocks p.0).tuple) (pairs_for j.shared j.first.blocks j.second.blocks (tuple_at j t))) (left_same j pair)
      ∙ work_over j.first.group j.first.legs j.second.legs j.shared (j.between && parity j.second.group j.second.flux) (legs_of j) (tuple_at j t) j.first.blocks j.second.blocks (block_size (legs_of j) (tuple_at j t)) (pairs_for j.shared j.first.blocks j.second.blocks (tuple_at j t))

-- a task passes exactly where it has a first passing place
pub clear_fails : (j : JobValue) (t : ℕ) → passing_in j.first j.second j.shared (tuple_at j t) ≡ None → ¬ Passes j t
clear_fails j t e p = none_some p.0 (sym e ∙ p.1)
  where
    none_some : (o : ℕ) → None ≡ Some o → ⊥
    none_some o h = cc

-- what is known of the block of a task
pub record IsMade (j : JobValue) (t : ℕ) (r : Result BlockValue StepFault) (later start : ℕ) : Type 0 where
  pub block : IfOk r (λ c. c ≡ task_block j t)
  pub clear : OnOk r (¬ Passes j t)
  pub err : IfErr r (IsTaskFault j.first j.second j.shared (tuple_at j t))
  pub steps_are : later ≤ start + products_at j t

pub block_made : (j : JobValue) (t : ℕ) → IsBlocked j.first → IsBlocked j.second → IsPair j.first j.second j.shared → IsTuple (legs_of j) (tuple_at j t) →
    (xs : List SourceValue) → xs ≡ sources_at j t → (len : ℕ) → len ≡ block_size (legs_of j) (tuple_at j t) → (u : List ℕ) → u ≡ tuple_at j t →
    (r : Result BlockValue StepFault) → IfOk r (λ c. c ≡ record { tuple = u; entries = map (entry_sum xs) (positions len) }) → OnOk r ((o : ℕ) → o < len → size_sum xs o ≤ limit) → IfErr r (IsPassing xs u len) →
    (later start : ℕ) → later ≤ start + len * products xs → IsMade j t r later start
block_made j t ha hb pair tuple xs e1 len e2 u e3 r hok hclear herr later start steps = record {
  block = if_ok _ _ r (λ c e. e ∙ path ∙ block_is j t ha hb pair tuple) hok;
  clear = if_ok _ _ r (λ c h. clear_fails j t (clear_at j t ha hb pair tuple (λ o lt. subst (λ (ys : List SourceValue). size_sum ys o ≤ limit) e1 (h o (omega (arith, lt, e2)))))) hclear;
  err = if_err _ _ r fault herr;
  steps_are = omega (arith, steps, amount, work_at j t ha hb pair tuple);
}
  where
    path : ◌≡◌ {A = BlockValue} (record { tuple = u; entries = map (entry_sum xs) (positions len) }) (record { tuple = tuple_at j t; entries = map (entry_sum (sources_at j t)) (positions (block_size (legs_of j) (tuple_at j t))) })
    path = λ i. record { tuple = e3 i; entries = map (entry_sum (e1 i)) (positions (e2 i)) }

    amount : len * products xs ≡ block_size (legs_of j) (tuple_at j t) * products (sources_at j t)
    amount = λ i. e2 i * products (e1 i)

    fault : (f : StepFault) → IsPassing xs u len f → IsTaskFault j.first j.second j.shared (tuple_at j t) f
    fault (Passed at offset) h =
        let k : IsPassing (sources_at j t) (tuple_at j t) (block_size (legs_of j) (tuple_at j t)) (Passed at offset) = subst (λ p. p) (λ i. IsPassing (e1 i) (e3 i) (e2 i) (Passed at offset)) h in
        (k.0, passes_at j t ha hb pair tuple offset k.1 k.2 k.3)
    fault Memory h = tt

-- the first passing place of a task
pub place_made : (j : JobValue) (t : ℕ) → IsBlocked j.first → IsBlocked j.second → IsPair j.first j.second j.shared → IsTuple (legs_of j) (tuple_at j t) →
    (xs : List SourceValue) → xs ≡ sources_at j t → (len : ℕ) → len ≡ block_size (legs_of j) (tuple_at j t) → (o : ℕ) → IsFirstAbove xs len o → passing_in j.first j.second j.shared (tuple_at j t) ≡ Some o
place_made j t ha hb pair tuple xs e1 len e2 o h =
    let k : IsFirstAbove (sources_at j t) (block_size (legs_of j) (tuple_at j t)) o = subst (λ p. p) (λ i. IsFirstAbove (e1 i) (e2 i) o) h in
    passes_at j t ha hb pair tuple o k.inside k.above k.before

pub place_none : (j : JobValue) (t : ℕ) → IsBlocked j.first → IsBlocked j.second → IsPair j.first j.second j.shared → IsTuple (legs_of j) (tuple_at j t) →
    (xs : List SourceValue) → xs ≡ sources_at j t → (len : ℕ) → len ≡ block_size (legs_of j) (tuple_at j t) → ((o : ℕ) → o < len → size_sum xs o ≤ limit) → ¬ Passes j t
place_none j t ha hb pair tuple xs e1 len e2 h =
    let k : (o : ℕ) → o < block_size (legs_of j) (tuple_at j t) → size_sum (sources_at j t) o ≤ limit = subst (λ p. p) (λ i. (o : ℕ) → o < e2 i → size_sum (e1 i) o ≤ limit) h in
    clear_fails j t (clear_at j t ha hb pair tuple k)

-- what the sources of a task ask for
pub record AreAsked (ks ls : List LegValue) (ps : List (ℕ × ℕ)) (word : List LegValue) (goal places : List ℕ) (left : List LegValue) (sectors : List ℕ) (bs ds : List BlockValue) (pairs : List (ℕ × ℕ)) : Type 0 where
  pub frame : IsFrame ks ls ps word goal places left
  pub tuple : IsTuple left sectors
  pub small : block_size left sectors ≤ 4194304
  pub first : All (IsReadable ks) bs
  pub second : All (IsReadable ls) ds
  pub first_there : All (λ p. p.0 < length bs) pairs
  pub second_there : All (λ p. p.1 < length ds) pairs

pub sources_asked : (a b : BlockedValue) (ps : List (ℕ × ℕ)) (word : List LegValue) (goal places : List ℕ) (left : List LegValue) (task : TaskValue) → IsBlocked a → IsBlocked b → IsFrame a.legs b.legs ps word goal places left →
    task ≡ task_for ps a.blocks b.blocks task.out → IsTuple left task.out → block_size left task.out ≤ 4194304 →
    (ks ls : List LegValue) (sectors : List ℕ) (bs ds : List BlockValue) (pairs : List (ℕ × ℕ)) → ks ≡ a.legs → ls ≡ b.legs → sectors ≡ task.out → bs ≡ a.blocks → ds ≡ b.blocks → pairs ≡ task.pairs →
    AreAsked ks ls ps word goal places left sectors bs ds pairs
sources_asked a b ps word goal places left task ha hb frame et tuple small ks ls sectors bs ds pairs e1 e2 e3 e4 e5 e6 =
    let q : AreAsked a.legs b.legs ps word goal places left task.out a.blocks b.blocks task.pairs = record {
      frame = frame;
      tuple = tuple;
      small = small;
      first = readable a.group a.legs a.flux a.blocks ha.blocks;
      second = readable b.group b.legs b.flux b.blocks hb.blocks;
      first_there = subst (λ (rs : List (ℕ × ℕ)). All (λ p. p.0 < length a.blocks) rs) (sym (ap (λ (u : TaskValue). u.pairs) et)) (first_there ps a.blocks b.blocks task.out);
      second_there = subst (λ (rs : List (ℕ × ℕ)). All (λ p. p.1 < length b.blocks) rs) (sym (ap (λ (u : TaskValue). u.pairs) et)) (second_there ps a.blocks b.blocks task.out);
    } in
    subst (λ gs. AreAsked gs ls ps word goal places left sectors bs ds pairs) (sym e1)
    (subst (λ gs. AreAsked a.legs gs ps word goal places left sectors bs ds pairs) (sym e2)
    (subst (λ ss. AreAsked a.legs b.legs ps word goal places left ss bs ds pairs) (sym e3)
    (subst (λ cs. AreAsked a.legs b.legs ps word goal places left task.out cs ds pairs) (sym e4)
    (subst (λ cs. AreAsked a.legs b.legs ps word goal places left task.out a.blocks cs pairs) (sym e5)
    (subst (λ rs. AreAsked a.legs b.legs ps word goal places left task.out a.blocks b.blocks rs) (sym e6) q)))))
