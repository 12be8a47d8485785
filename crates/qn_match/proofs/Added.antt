-- Pairs of blocks put to the tasks of their tuples.
use Rattle.std.proofs.Common.{◌≡◌, ◌≢◌, ℕ, zero, suc, ◌+◌, ◌<◌, ◌≤◌, ◌&&◌, Bool, false, cond, List, [], ◌∷◌, ◌++◌, length, map, filter, get_or, set, arith, refl, sym, ap, ap₂, subst, ◌∙◌, append_assoc}
use Rattle.std.specs.Prelude.{MatchResult, Result, Ok, Err, nat_eq}
use Rattle.std.specs.Cmp.Lexicographic.{pointwise, slice_cmp}
use Rattle.std.specs.Ordering.{nat_cmp, ordering_index}
use Rattle.std.specs.List.{All, AllPairs}
use Rattle.std.specs.List.Sorted.{IsSearchInRange, IsBinarySearchResult}
use Rattle.std.specs.declared.cmp.Ordering.TheVariants.{Less}
use Rattle.std.proofs.lemmas.List.{append-nil, get_or-map, length-map, map-append}
use Rattle.std.proofs.lemmas.List.Elements.{All-tail, filter-append}
use Rattle.qn_sign.specs.Positions.{positions}
use Rattle.qn_value.specs.Tensors.{BlockValue, no_block, same_values, AreAscending}
use Rattle.qn_block.specs.Refusals.{block_at}
use Rattle.qn_block.proofs.Lookup.{looked_up, same_tuple, not_below_itself}
use Rattle.qn_block.proofs.Rows.{same_from, differ_from}
use Rattle.qn_match.specs.Keys.{digits_of}
use Rattle.qn_match.specs.Index.{positions_with, AreInOrder, with_pair, with_row}
use Rattle.qn_match.specs.Pairs.{first_left, second_left, left_of_second, give, all_pairs, TaskValue, no_task}
use Rattle.qn_match.proofs.Indexing.{keys_agree, row_kept}
use Rattle.qn_match.proofs.Lefts.{row_done}

-- ---- tasks in order

-- what has ascending tuples makes tasks in order
pub in_order : {X : Type 0} (out : X → List ℕ) (f : X → TaskValue) (xs : List X) → ((x : X) → (f x).out ≡ out x) → AllPairs (λ x y. slice_cmp nat_cmp (out x) (out y) ≡ Less) xs → AreInOrder (map f xs)
in_order out f [] e a i j d lt m = absurd (omega arith)
in_order {X} out f (x ∷ xs) e a i j d lt m =
    let long : j < length (x ∷ xs) = omega (arith, length-map (x ∷ xs) f) in
    let at : (k : ℕ) → k < length (x ∷ xs) → (get_or (map f (x ∷ xs)) k d).out ≡ out (get_or (x ∷ xs) k x) =
    λ k l. ap (λ (t : TaskValue). t.out) (get_or-map f (x ∷ xs) k x d l) ∙ e (get_or (x ∷ xs) k x) in
    ap₂ (λ t u. slice_cmp nat_cmp t u) (at i (omega arith)) (at j long) ∙ a i j x lt long

-- ---- the task of a tuple

abbrev block_of : TaskValue → BlockValue
block_of t = record { tuple = t.out; entries = [] }

tuple_at : (ts : List TaskValue) (i : ℕ) (b : BlockValue) (t : TaskValue) → i < length ts → (get_or (map block_of ts) i b).tuple ≡ (get_or ts i t).out
tuple_at ts i b t lt = ap (λ (c : BlockValue). c.tuple) (get_or-map block_of ts i t b lt)

long : (ts : List TaskValue) → length (map block_of ts) ≡ length ts
long ts = length-map ts block_of

-- what a binary search for the task of a tuple answers
pub task_found : (ts : List TaskValue) (out : List ℕ) (r : Result ℕ ℕ) → AreInOrder ts → IsSearchInRange r (length ts) → IsBinarySearchResult (λ t. slice_cmp nat_cmp t.out out) ts r →
    MatchResult r (λ k. (k < length ts) × ((get_or ts k no_task).out ≡ out)) (λ _. All (λ t. same_values out t.out ≡ false) ts)
task_found ts out (Ok k) a range found = (range, same_tuple (get_or ts k no_task).out out (found no_task))
task_found ts out (Err k) a range found = λ j d lt.
    let ascend : AreAscending (map block_of ts) =
    λ m n l h.
    let s : n < length ts = omega (arith, long ts) in
    ap₂ (λ t u. slice_cmp nat_cmp t u) (tuple_at ts m no_block no_task (omega arith)) (tuple_at ts n no_block no_task s) ∙ a m n no_task l s in
    let none = looked_up (map block_of ts) out (Err k) ascend (omega (arith, range, long ts)) (λ rises.
    let parted = found (λ m n t le l.
    subst (λ u. ordering_index (slice_cmp nat_cmp u out) ≤ ordering_index (slice_cmp nat_cmp (get_or ts n t).out out)) (tuple_at ts m no_block t (omega arith))
    (subst (λ u. ordering_index (slice_cmp nat_cmp (get_or (map block_of ts) m no_block).tuple out) ≤ ordering_index (slice_cmp nat_cmp u out)) (tuple_at ts n no_block t l) (rises m n no_block le (omega (arith, long ts))))) in (
      (λ m b l p. ap (λ u. slice_cmp nat_cmp u out) (tuple_at ts m b no_task (omega (arith, long ts))) ∙ parted.0 m no_task (omega (arith, long ts)) p),
      (λ m b p l. ap (λ u. slice_cmp nat_cmp u out) (tuple_at ts m b no_task (omega (arith, long ts))) ∙ parted.1 m no_task p (omega (arith, long ts))),
    )) in
    differ_from out (get_or ts j d).out (λ e. none j (omega (arith, long ts)) (tuple_at ts j no_block d lt ∙ sym e))

-- ---- one pair

-- a pair of which no task has the tuple
pub none_added : (ts : List TaskValue) (out : List ℕ) (pair : ℕ × ℕ) → All (λ t. same_values out t.out ≡ false) ts → ts ≡ map (with_pair out pair) ts
none_added [] out pair h = refl
none_added (t ∷ ts) out pair h =
    let same : with_pair out pair t ≡ t =
    ap (λ b. record { out = t.out; pairs = t.pairs ++ cond b (pair ∷ []) [] }) (h 0 t (omega arith)) ∙ ap (λ ps. record { out = t.out; pairs = ps }) (append-nil t.pairs) in
    ap₂ (λ u us. u ∷ us) (sym same) (none_added ts out pair (All-tail (λ u. same_values out u.out ≡ false) t ts h))

apart : (t u : List ℕ) → slice_cmp nat_cmp t u ≡ Less → t ≢ u
apart t u less e = not_below_itself u (subst (λ s. slice_cmp nat_cmp s u ≡ Less) e less)

-- a pair of which a task has the tuple
pub one_added : (ts : List TaskValue) (out : List ℕ) (pair : ℕ × ℕ) (k : ℕ) (new : TaskValue) → AreInOrder ts → k < length ts → (get_or ts k no_task).out ≡ out →
    new ≡ record { out = (get_or ts k no_task).out; pairs = (get_or ts k no_task).pairs ++ pair ∷ [] } → set ts k new ≡ map (with_pair out pair) ts
one_added [] out pair k new a lt e n = absurd (omega arith)
one_added (t ∷ ts) out pair zero new a lt e n =
    let first : with_pair out pair t ≡ new = ap (λ b. record { out = t.out; pairs = t.pairs ++ cond b (pair ∷ []) [] }) (same_from out t.out (sym e)) ∙ sym n in
    let others : All (λ u. same_values out u.out ≡ false) ts =
    λ j d l. differ_from out (get_or ts j d).out (λ f. apart t.out (get_or ts j d).out (a 0 (suc j) d (omega arith) (omega arith)) (e ∙ f)) in
    ap₂ (λ u us. u ∷ us) (sym first) (none_added ts out pair others)
one_added (t ∷ ts) out pair (suc k) new a lt e n =
    let differ : same_values out t.out ≡ false = differ_from out t.out (λ f. apart t.out (get_or ts k no_task).out (a 0 (suc k) no_task (omega arith) lt) (sym f ∙ sym e)) in
    let first : with_pair out pair t ≡ t =
    ap (λ b. record { out = t.out; pairs = t.pairs ++ cond b (pair ∷ []) [] }) differ ∙ ap (λ ps. record { out = t.out; pairs = ps }) (append-nil t.pairs) in
    ap₂ (λ u us. u ∷ us) (sym first) (one_added ts out pair k new (λ i j d l m. a (suc i) (suc j) d (omega arith) (omega arith)) (omega arith) e n)

-- ---- the pairs of one first block

pub row_none : (ts : List TaskValue) (i : ℕ) (left : List ℕ) (lefts : List (List ℕ)) → ts ≡ map (with_row i left lefts []) ts
row_none [] i left lefts = refl
row_none (t ∷ ts) i left lefts = ap₂ (λ u us. u ∷ us) (ap (λ ps. record { out = t.out; pairs = ps }) (sym (append-nil t.pairs))) (row_none ts i left lefts)

pub row_more : (ts : List TaskValue) (i : ℕ) (left : List ℕ) (lefts : List (List ℕ)) (js : List ℕ) (j : ℕ) →
    map (with_pair (left ++ get_or lefts j []) (i, j)) (map (with_row i left lefts js) ts) ≡ map (with_row i left lefts (js ++ j ∷ [])) ts
row_more [] i left lefts js j = refl
row_more (t ∷ ts) i left lefts js j = ap₂ (λ u us. u ∷ us) (ap (λ ps. record { out = t.out; pairs = ps }) more) (row_more ts i left lefts js j)
  where
    p : ℕ × ℕ → Bool
    p q = same_values (left ++ get_or lefts q.1 []) t.out

    row : ℕ → ℕ × ℕ
    row k = (i, k)

    more : (t.pairs ++ filter p (map row js)) ++ filter p ((i, j) ∷ []) ≡ t.pairs ++ filter p (map row (js ++ j ∷ []))
    more =
        append_assoc t.pairs (filter p (map row js)) (filter p ((i, j) ∷ []))
        ∙ ap (λ ps. t.pairs ++ ps) (sym (ap (filter p) (map-append row js (j ∷ [])) ∙ filter-append p (map row js) ((i, j) ∷ [])))

-- ---- all pairs

-- the tasks of tuples with the pairs of the first i blocks
abbrev pub task_so_far : List (ℕ × ℕ) → List BlockValue → List BlockValue → ℕ → List ℕ → TaskValue
task_so_far shared firsts seconds i out = record { out = out; pairs = filter (λ p. give shared out (block_at firsts p.0).tuple (block_at seconds p.1).tuple) (all_pairs i (length seconds)) }

left_at : (shared : List (ℕ × ℕ)) (seconds : List BlockValue) (lefts : List (List ℕ)) (j : ℕ) → lefts ≡ map (left_of_second shared) seconds → get_or lefts j [] ≡ second_left shared (block_at seconds j).tuple
left_at shared seconds lefts j e = ap (λ ls. get_or ls j []) e ∙ by seconds j
  where
    by : (bs : List BlockValue) (k : ℕ) → get_or (map (left_of_second shared) bs) k [] ≡ second_left shared (block_at bs k).tuple
    by [] k = refl
    by (b ∷ bs) zero = refl
    by (b ∷ bs) (suc k) = by bs k

pub tasks_more : (shared : List (ℕ × ℕ)) (firsts seconds : List BlockValue) (i : ℕ) (tuple left : List ℕ) (lefts : List (List ℕ)) (found : List ℕ) (tuples : List (List ℕ)) →
    tuple ≡ (block_at firsts i).tuple → left ≡ first_left shared tuple → lefts ≡ map (left_of_second shared) seconds →
    found ≡ positions_with (map (λ p. p.1) shared) seconds (digits_of (map (λ p. p.0) shared) tuple) →
    map (with_row i left lefts found) (map (task_so_far shared firsts seconds i) tuples) ≡ map (task_so_far shared firsts seconds (i + 1)) tuples
tasks_more shared firsts seconds i tuple left lefts found [] h l m f = refl
tasks_more shared firsts seconds i tuple left lefts found (out ∷ outs) h l m f =
    ap₂ (λ u us. u ∷ us) (ap (λ ps. record { out = out; pairs = ps }) more) (tasks_more shared firsts seconds i tuple left lefts found outs h l m f)
  where
    p : ℕ × ℕ → Bool
    p q = give shared out (block_at firsts q.0).tuple (block_at seconds q.1).tuple

    r : ℕ × ℕ → Bool
    r q = give shared out tuple (block_at seconds q.1).tuple

    s : ℕ × ℕ → Bool
    s q = same_values (left ++ get_or lefts q.1 []) out

    test : ℕ → Bool
    test j = pointwise nat_eq (digits_of (map (λ p. p.0) shared) tuple) (digits_of (map (λ p. p.1) shared) (block_at seconds j).tuple)

    given : (j : ℕ) → r (i, j) ≡ (test j && s (i, j))
    given j =
        let u : List ℕ = (block_at seconds j).tuple in
        ap₂ (λ b c. b && c) (sym (keys_agree shared tuple u)) (ap₂ (λ x y. same_values (x ++ y) out) (sym l) (sym (left_at shared seconds lefts j m)))

    before : List (ℕ × ℕ)
    before = filter p (all_pairs i (length seconds))

    more : before ++ filter s (map (λ j. (i, j)) found) ≡ filter p (all_pairs (i + 1) (length seconds))
    more =
        row_done p r before (before ++ filter s (map (λ j. (i, j)) found)) i (length seconds) (λ j. ap (λ t. give shared out t (block_at seconds j).tuple) h) refl
        (ap (λ ks. before ++ filter s (map (λ j. (i, j)) ks)) f ∙ ap (λ ps. before ++ ps) (row_kept s r test i (positions (length seconds)) given))
