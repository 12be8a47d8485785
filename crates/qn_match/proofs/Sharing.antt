-- The products of all tasks are a part of the cost: each pair of stored blocks is a pair of admissible tuples, and gives one tuple of the result.
use Rattle.std.proofs.Common.{◌≡◌, ◌≤◌, ◌<◌, ◌+◌, ◌*◌, ◌&&◌, ℕ, ℤ, Bool, true, false, cond, zero, suc, List, [], ◌∷◌, ◌++◌, length, map, filter, get_or, Contains, arith, refl, sym, ap, ap₂, subst, ◌∙◌}
use Rattle.std.specs.List.{All, sum_by, range_with_len, flat_map}
use Rattle.std.specs.Cmp.Lexicographic.{slice_cmp}
use Rattle.std.specs.Ordering.{nat_cmp}
use Rattle.std.specs.declared.cmp.Ordering.TheVariants.{Less, Equal}
use Rattle.std.proofs.Math.Nat.{mul_assoc}
use Rattle.std.proofs.lemmas.List.{get_or_default}
use Rattle.std.proofs.lemmas.List.Sums.{sum_by-cons, sum_by-append}
use Rattle.std.proofs.lemmas.Cmp.{tied_itself, nat_list_cmp_total}
use Rattle.qn_sign.specs.Positions.{positions}
use Rattle.qn_charge.specs.declared.factor.Factor.{Factor}
use Rattle.qn_charge.specs.Charges.{sum_charge}
use Rattle.qn_index.specs.Legs.{LegValue, sector_at}
use Rattle.qn_index.specs.Tuples.{IsTuple, admitted}
use Rattle.qn_index.specs.Places.{block_size}
use Rattle.qn_index.proofs.Admitted.{listed, admitted_ascend, same_tests}
use Rattle.qn_index.proofs.Nets.{tuple_length}
use Rattle.qn_value.specs.Tensors.{BlockValue, no_block, same_values, IsBlock}
use Rattle.qn_value.proofs.Values.{same_values-equal}
use Rattle.qn_value.proofs.RowsLemmas.{same_values-itself}
use Rattle.qn_block.specs.Blocked.{BlockedValue, IsBlocked}
use Rattle.qn_block.specs.Refusals.{block_at}
use Rattle.qn_match.specs.Pairs.{is_first, marks, unmarked, first_left, second_left, joined, agree, give, all_pairs, task_for, tasks, IsShared, IsPair}
use Rattle.qn_match.specs.Cost.{pair_size, cost_of}
use Rattle.qn_match.specs.Shares.{shared_size, share_of, products_of}
use Rattle.qn_match.proofs.Radix.{size_shared}
use Rattle.qn_match.proofs.Summing.{sum_less, sum_same, sum_swap, sum_zero}

-- ---- sums over lists made of lists

pub sum_map : {X Y : Type 0} (f : Y → ℕ) (g : X → Y) (xs : List X) → sum_by f (map g xs) ≡ sum_by (λ x. f (g x)) xs
sum_map f g [] = refl
sum_map f g (x ∷ xs) = sum_by-cons f (g x) (map g xs) ∙ (ap (λ n. f (g x) + n) (sum_map f g xs) ∙ sym (sum_by-cons (λ y. f (g y)) x xs))

sum_filter : {X : Type 0} (f : X → ℕ) (p : X → Bool) (xs : List X) → sum_by f (filter p xs) ≡ sum_by (λ x. cond (p x) (f x) 0) xs
sum_filter f p [] = refl
sum_filter {X} f p (x ∷ xs) = by (p x) ∙ (ap (λ n. cond (p x) (f x) 0 + n) (sum_filter f p xs) ∙ sym (sum_by-cons (λ y. cond (p y) (f y) 0) x xs))
  where
    by : (b : Bool) → sum_by f (cond b (x ∷ filter p xs) (filter p xs)) ≡ cond b (f x) 0 + sum_by f (filter p xs)
    by true = sum_by-cons f x (filter p xs)
    by false = omega arith

sum_flat : {X Y : Type 0} (f : Y → ℕ) (g : X → List Y) (xs : List X) → sum_by f (flat_map g xs) ≡ sum_by (λ x. sum_by f (g x)) xs
sum_flat f g [] = refl
sum_flat f g (x ∷ xs) =
    sum_by-append f (g x) (flat_map g xs) ∙ (ap (λ n. sum_by f (g x) + n) (sum_flat f g xs) ∙ sym (sum_by-cons (λ y. sum_by f (g y)) x xs))

sum_from : {X : Type 0} (f : X → ℕ) (at : ℕ → X) (d : X) (xs : List X) (a : ℕ) → ((k : ℕ) → k < length xs → at (a + k) ≡ get_or xs k d) → sum_by (λ i. f (at i)) (range_with_len a (length xs)) ≡ sum_by f xs
sum_from f at d [] a h = refl
sum_from f at d (x ∷ xs) a h =
    let z : a + 0 ≡ a = omega arith in
    let first : at a ≡ x = ap at (sym z) ∙ h 0 (omega arith) in
    sum_by-cons (λ i. f (at i)) a (range_with_len (a + 1) (length xs))
    ∙ (ap₂ (λ m n. f m + n) first (sum_from f at d xs (a + 1) (λ k lt. let e : a + 1 + k ≡ a + suc k = omega arith in ap at e ∙ h (suc k) (omega arith))) ∙ sym (sum_by-cons f x xs))

-- a sum over the positions of blocks is one over the blocks
sum_blocks : (f : BlockValue → ℕ) (bs : List BlockValue) → sum_by (λ i. f (block_at bs i)) (positions (length bs)) ≡ sum_by f bs
sum_blocks f bs = sum_from f (block_at bs) no_block bs 0 (λ k lt. let z : 0 + k ≡ k = omega arith in ap (block_at bs) z)

-- ---- each tuple counts once

-- the tuples of these elements ascend
abbrev Ascend : {X : Type 0} → (X → List ℕ) → X → List X → Type 0
Ascend g d xs = (i j : ℕ) → i < j → j < length xs → slice_cmp nat_cmp (g (get_or xs i d)) (g (get_or xs j d)) ≡ Less

ascend_tail : {X : Type 0} (g : X → List ℕ) (d x : X) (xs : List X) → Ascend g d (x ∷ xs) → Ascend g d xs
ascend_tail g d x xs h = λ i j lt small. h (suc i) (suc j) (omega arith) (omega arith)

less_not_same : (t u : List ℕ) → slice_cmp nat_cmp t u ≡ Less → same_values t u ≡ true → ⊥
less_not_same t u lt same =
    let e : t ≡ u = same_values-equal t u same in
    let itself : slice_cmp nat_cmp u u ≡ Less = subst (λ s. slice_cmp nat_cmp s u ≡ Less) e lt in
    never (sym itself ∙ tied_itself nat_list_cmp_total u)
  where
    never : Less ≡ Equal → ⊥
    never q = cc

bool_false : (b : Bool) → (b ≡ true → ⊥) → b ≡ false
bool_false true h = absurd (h refl)
bool_false false h = refl

-- at most one of them is this tuple
sum_once : {X : Type 0} (g : X → List ℕ) (d : X) (j : List ℕ) (n : ℕ) (xs : List X) → Ascend g d xs → sum_by (λ x. cond (same_values j (g x)) n 0) xs ≤ n
sum_once g d j n [] h = omega arith
sum_once {X} g d j n (x ∷ xs) h = by (same_values j (g x)) refl (sum_once g d j n xs (ascend_tail g d x xs h))
  where
    f : X → ℕ
    f y = cond (same_values j (g y)) n 0

    others : same_values j (g x) ≡ true → All (λ y. f y ≡ 0) xs
    others e = λ k c lt.
        let y : X = get_or xs k c in
        let below : slice_cmp nat_cmp (g x) (g y) ≡ Less = subst (λ z. slice_cmp nat_cmp (g x) (g z) ≡ Less) (get_or_default xs k d c lt) (h 0 (suc k) (omega arith) (omega arith)) in
        let differ : same_values j (g y) ≡ false = bool_false (same_values j (g y)) (λ s. less_not_same (g x) (g y) below (subst (λ t. same_values t (g y) ≡ true) (same_values-equal j (g x) e) s)) in
        ap (λ b. cond b n 0) differ

    by : (b : Bool) → same_values j (g x) ≡ b → sum_by f xs ≤ n → sum_by f (x ∷ xs) ≤ n
    by true e le = omega (arith, sum_by-cons f x xs, ap (λ b. cond b n 0) e, sum_same f (λ y. 0) xs (others e), sum_zero xs)
    by false e le = omega (arith, sum_by-cons f x xs, ap (λ b. cond b n 0) e, le)

-- one of them is this tuple
sum_has : (j : List ℕ) (n : ℕ) (ts : List (List ℕ)) → Contains ts j → n ≤ sum_by (λ t. cond (same_values j t) n 0) ts
sum_has j n [] (k, lt, e) = absurd (omega arith)
sum_has j n (t ∷ ts) (zero, lt, e) =
    let f : List ℕ → ℕ = λ u. cond (same_values j u) n 0 in
    let here : f t ≡ n = ap (λ b. cond b n 0) (subst (λ u. same_values j u ≡ true) (sym e) (same_values-itself j)) in
    omega (arith, sum_by-cons f t ts, here)
sum_has j n (t ∷ ts) (suc k, lt, e) =
    let f : List ℕ → ℕ = λ u. cond (same_values j u) n 0 in
    omega (arith, sum_by-cons f t ts, sum_has j n ts (k, omega arith, e))

-- blocks whose tuples ascend and stand in a list: a sum over them is at most one over the list
sum_part : (w : List ℕ → ℕ) (bs : List BlockValue) (ts : List (List ℕ)) → Ascend (λ b. b.tuple) no_block bs → All (λ b. Contains ts b.tuple) bs → sum_by (λ b. w b.tuple) bs ≤ sum_by w ts
sum_part w bs ts up there =
    let f : BlockValue → List ℕ → ℕ = λ b t. cond (same_values b.tuple t) (w t) 0 in
    let one : sum_by (λ b. w b.tuple) bs ≤ sum_by (λ b. sum_by (f b) ts) bs = sum_less (λ b. w b.tuple) (λ b. sum_by (f b) ts) bs (λ k d lt. has (get_or bs k d) (there k d lt)) in
    let turn : sum_by (λ b. sum_by (f b) ts) bs ≡ sum_by (λ t. sum_by (λ b. f b t) bs) ts = sum_swap f bs ts in
    let once : sum_by (λ t. sum_by (λ b. f b t) bs) ts ≤ sum_by w ts = sum_less (λ t. sum_by (λ b. f b t) bs) w ts (λ k d lt. at_most (get_or ts k d)) in
    omega (arith, one, turn, once)
  where
    has : (b : BlockValue) → Contains ts b.tuple → w b.tuple ≤ sum_by (λ t. cond (same_values b.tuple t) (w t) 0) ts
    has b c =
        let e : sum_by (λ t. cond (same_values b.tuple t) (w b.tuple) 0) ts ≡ sum_by (λ t. cond (same_values b.tuple t) (w t) 0) ts =
        sum_same (λ t. cond (same_values b.tuple t) (w b.tuple) 0) (λ t. cond (same_values b.tuple t) (w t) 0) ts (λ k d lt. same (same_values b.tuple (get_or ts k d)) b.tuple (get_or ts k d) refl) in
        omega (arith, e, sum_has b.tuple (w b.tuple) ts c)
      where
        same : (q : Bool) (s t : List ℕ) → same_values s t ≡ q → cond q (w s) 0 ≡ cond q (w t) 0
        same true s t e = ap w (same_values-equal s t e)
        same false s t e = refl

    at_most : (t : List ℕ) → sum_by (λ b. cond (same_values b.tuple t) (w t) 0) bs ≤ w t
    at_most t =
        let e : sum_by (λ b. cond (same_values b.tuple t) (w t) 0) bs ≡ sum_by (λ b. cond (same_values t b.tuple) (w t) 0) bs =
        sum_same (λ b. cond (same_values b.tuple t) (w t) 0) (λ b. cond (same_values t b.tuple) (w t) 0) bs (λ k d lt. ap (λ q. cond q (w t) 0) (symmetric (get_or bs k d).tuple t)) in
        omega (arith, e, sum_once (λ b. b.tuple) no_block t (w t) bs up)
      where
        symmetric : (s u : List ℕ) → same_values s u ≡ same_values u s
        symmetric s u = same_tests (same_values s u) (same_values u s) (λ q. subst (λ v. same_values u v ≡ true) (sym (same_values-equal s u q)) (same_values-itself u)) (λ q. subst (λ v. same_values s v ≡ true) (sym (same_values-equal u s q)) (same_values-itself s))

-- ---- the shares of all tuples of the result

module _ (fs : List Factor) (ks : List LegValue) (p : List ℤ) (ls : List LegValue) (q : List ℤ) (shared : List (ℕ × ℕ)) where
  abbrev given : List ℕ → List ℕ → List ℕ → ℕ
  given out t u = cond (give shared out t u) (pair_size shared ks ls t u) 0

  abbrev agreeing : List ℕ → List ℕ → ℕ
  agreeing t u = cond (agree shared t u) (pair_size shared ks ls t u) 0

  one_result : (outs : List (List ℕ)) (t u : List ℕ) → Ascend (λ s. s) [] outs → sum_by (λ out. given out t u) outs ≤ agreeing t u
  one_result outs t u up = by (agree shared t u)
    where
      by : (b : Bool) → sum_by (λ out. cond (b && same_values (joined shared t u) out) (pair_size shared ks ls t u) 0) outs ≤ cond b (pair_size shared ks ls t u) 0
      by true = sum_once (λ s. s) [] (joined shared t u) (pair_size shared ks ls t u) outs up
      by false = omega (arith, sum_zero outs)

  shares_within : (outs : List (List ℕ)) → Ascend (λ s. s) [] outs → sum_by (share_of fs ks p ls q shared) outs ≤ cost_of fs ks p ls q shared
  shares_within outs up =
      let ts : List (List ℕ) = admitted fs ks p in
      let us : List (List ℕ) = admitted fs ls q in
      let turn : sum_by (share_of fs ks p ls q shared) outs ≡ sum_by (λ t. sum_by (λ out. sum_by (given out t) us) outs) ts = sum_swap (λ out t. sum_by (given out t) us) outs ts in
      let row : (t : List ℕ) → sum_by (λ out. sum_by (given out t) us) outs ≤ sum_by (agreeing t) us =
      λ t.
      let swap : sum_by (λ out. sum_by (given out t) us) outs ≡ sum_by (λ u. sum_by (λ out. given out t u) outs) us = sum_swap (λ out u. given out t u) outs us in
      omega (arith, swap, sum_less (λ u. sum_by (λ out. given out t u) outs) (agreeing t) us (λ k d lt. one_result outs t (get_or us k d) up)) in
      omega (arith, turn, sum_less (λ t. sum_by (λ out. sum_by (given out t) us) outs) (λ t. sum_by (agreeing t) us) ts (λ k d lt. row (get_or ts k d)))

pub shares_law : (a b : BlockedValue) (shared : List (ℕ × ℕ)) →
    sum_by (λ task. share_of a.group a.legs a.flux b.legs b.flux shared task.out) (tasks a b shared) ≤ cost_of a.group a.legs a.flux b.legs b.flux shared
shares_law a b shared =
    let rs : List LegValue = joined shared a.legs b.legs in
    let q : List ℤ = sum_charge a.group a.flux b.flux in
    let share : List ℕ → ℕ = share_of a.group a.legs a.flux b.legs b.flux shared in
    let e : sum_by (λ task. share task.out) (tasks a b shared) ≡ sum_by share (admitted a.group rs q) = sum_map (λ task. share task.out) (task_for shared a.blocks b.blocks) (admitted a.group rs q) in
    omega (arith, e, shares_within a.group a.legs a.flux b.legs b.flux shared (admitted a.group rs q) (admitted_ascend a.group rs q))

-- ---- one task

size_append : (ks ls : List LegValue) (t u : List ℕ) → length t ≡ length ks → block_size (ks ++ ls) (t ++ u) ≡ block_size ks t * block_size ls u
size_append [] ls [] u e = omega arith
size_append [] ls (s ∷ ss) u e = absurd (omega arith)
size_append (k ∷ ks) ls [] u e = absurd (omega arith)
size_append (k ∷ ks) ls (s ∷ ss) u e =
    ap (λ n. (sector_at k.sectors s).dim * n) (size_append ks ls ss u (omega arith)) ∙ sym (mul_assoc (sector_at k.sectors s).dim (block_size ks ss) (block_size ls u))

left_length : (ms : List Bool) (ks : List LegValue) (t : List ℕ) → length t ≡ length ks → length (unmarked ms t) ≡ length (unmarked ms ks)
left_length [] ks t e = refl
left_length (m ∷ ms) [] [] e = refl
left_length (m ∷ ms) [] (s ∷ ss) e = absurd (omega arith)
left_length (m ∷ ms) (k ∷ ks) [] e = absurd (omega arith)
left_length (true ∷ ms) (k ∷ ks) (s ∷ ss) e = left_length ms ks ss (omega arith)
left_length (false ∷ ms) (k ∷ ks) (s ∷ ss) e = ap suc (left_length ms ks ss (omega arith))

first_left_length : (shared : List (ℕ × ℕ)) (ks : List LegValue) (t : List ℕ) → length t ≡ length ks → length (first_left shared t) ≡ length (first_left shared ks)
first_left_length shared ks t e = ap (λ n. length (unmarked (marks (is_first shared) n) t)) e ∙ left_length (marks (is_first shared) (length ks)) ks t e

-- the entries of the result's block times the values of the shared legs are the dimensions of all legs
joined_size : (shared : List (ℕ × ℕ)) (ks ls : List LegValue) (t u : List ℕ) → IsTuple ks t → IsShared ks ls shared →
    block_size (joined shared ks ls) (joined shared t u) * shared_size shared ks t ≡ pair_size shared ks ls t u
joined_size shared ks ls t u v h =
    let a : ℕ = block_size (first_left shared ks) (first_left shared t) in
    let b : ℕ = block_size (second_left shared ls) (second_left shared u) in
    let c : ℕ = shared_size shared ks t in
    let whole : c * a ≡ block_size ks t = size_shared shared ks t v h.first h.first_once in
    ap (λ n. n * c) (size_append (first_left shared ks) (second_left shared ls) (first_left shared t) (second_left shared u) (first_left_length shared ks t (tuple_length ks t v)))
    ∙ (turn a b c ∙ ap (λ n. n * b) whole)
  where
    turn : (x y z : ℕ) → x * y * z ≡ z * x * y
    turn x y z = grind arith

given_products : (shared : List (ℕ × ℕ)) (ks ls : List LegValue) (out t u : List ℕ) → IsTuple ks t → IsShared ks ls shared →
    cond (give shared out t u) (block_size (joined shared ks ls) out * shared_size shared ks t) 0 ≡ cond (give shared out t u) (pair_size shared ks ls t u) 0
given_products shared ks ls out t u v h = by (agree shared t u) (same_values (joined shared t u) out) refl
  where
    by : (b c : Bool) → same_values (joined shared t u) out ≡ c → cond (b && c) (block_size (joined shared ks ls) out * shared_size shared ks t) 0 ≡ cond (b && c) (pair_size shared ks ls t u) 0
    by true true e = ap (λ s. block_size (joined shared ks ls) s * shared_size shared ks t) (sym (same_values-equal (joined shared t u) out e)) ∙ joined_size shared ks ls t u v h
    by true false e = refl
    by false c e = refl

block_listed : (fs : List Factor) (ls : List LegValue) (q : List ℤ) (bs : List BlockValue) → All (IsBlock fs ls q) bs → All (λ b. Contains (admitted fs ls q) b.tuple) bs
block_listed fs ls q bs h = λ k d lt. listed fs ls q (get_or bs k d).tuple (record { tuple = (h k d lt).tuple; flux = (h k d lt).flux })

pub task_law : (a b : BlockedValue) (shared : List (ℕ × ℕ)) (out : List ℕ) → IsBlocked a → IsBlocked b → IsPair a b shared →
    products_of a b shared (task_for shared a.blocks b.blocks out) ≤ share_of a.group a.legs a.flux b.legs b.flux shared out
task_law a b shared out ha hb h =
    let bs : List BlockValue = a.blocks in
    let ds : List BlockValue = b.blocks in
    let ts : List (List ℕ) = admitted a.group a.legs a.flux in
    let us : List (List ℕ) = admitted a.group b.legs b.flux in
    let size : List ℕ → ℕ = λ t. block_size (joined shared a.legs b.legs) out * shared_size shared a.legs t in
    let test : BlockValue → BlockValue → Bool = λ x y. give shared out x.tuple y.tuple in
    let term : BlockValue → BlockValue → ℕ = λ x y. cond (test x y) (size x.tuple) 0 in
    let w : List ℕ → List ℕ → ℕ = λ t u. cond (give shared out t u) (pair_size shared a.legs b.legs t u) 0 in
    let f : ℕ × ℕ → ℕ = λ p. size (block_at bs p.0).tuple in
    let p : ℕ × ℕ → Bool = λ p. test (block_at bs p.0) (block_at ds p.1) in
    let g : ℕ × ℕ → ℕ = λ p. term (block_at bs p.0) (block_at ds p.1) in
    let all : List (ℕ × ℕ) = all_pairs (length bs) (length ds) in
    let filtered : sum_by f (filter p all) ≡ sum_by g all = sum_filter f p all in
    let flat : sum_by g all ≡ sum_by (λ i. sum_by g (map (λ j. (i, j)) (positions (length ds)))) (positions (length bs)) = sum_flat g (λ i. map (λ j. (i, j)) (positions (length ds))) (positions (length bs)) in
    let inner : (i : ℕ) → sum_by g (map (λ j. (i, j)) (positions (length ds))) ≡ sum_by (term (block_at bs i)) ds =
    λ i. sum_map g (λ j. (i, j)) (positions (length ds)) ∙ sum_blocks (term (block_at bs i)) ds in
    let rows : sum_by (λ i. sum_by g (map (λ j. (i, j)) (positions (length ds)))) (positions (length bs)) ≡ sum_by (λ i. sum_by (term (block_at bs i)) ds) (positions (length bs)) =
    sum_same (λ i. sum_by g (map (λ j. (i, j)) (positions (length ds)))) (λ i. sum_by (term (block_at bs i)) ds) (positions (length bs)) (λ k d lt. inner (get_or (positions (length bs)) k d)) in
    let blocks : sum_by (λ i. sum_by (term (block_at bs i)) ds) (positions (length bs)) ≡ sum_by (λ x. sum_by (term x) ds) bs = sum_blocks (λ x. sum_by (term x) ds) bs in
    let sizes : sum_by (λ x. sum_by (term x) ds) bs ≡ sum_by (λ x. sum_by (λ y. w x.tuple y.tuple) ds) bs =
    sum_same (λ x. sum_by (term x) ds) (λ x. sum_by (λ y. w x.tuple y.tuple) ds) bs
    (λ k d lt. sum_same (term (get_or bs k d)) (λ y. w (get_or bs k d).tuple y.tuple) ds
    (λ m e small. given_products shared a.legs b.legs out (get_or bs k d).tuple (get_or ds m e).tuple (ha.blocks k d lt).tuple h.shapes.legs)) in
    let second : (t : List ℕ) → sum_by (λ y. w t y.tuple) ds ≤ sum_by (w t) us =
    λ t. sum_part (w t) ds us hb.ascending (subst (λ gs. All (λ y. Contains (admitted gs b.legs b.flux) y.tuple) ds) (sym h.group) (block_listed b.group b.legs b.flux ds hb.blocks)) in
    let seconds : sum_by (λ x. sum_by (λ y. w x.tuple y.tuple) ds) bs ≤ sum_by (λ x. sum_by (w x.tuple) us) bs =
    sum_less (λ x. sum_by (λ y. w x.tuple y.tuple) ds) (λ x. sum_by (w x.tuple) us) bs (λ k d lt. second (get_or bs k d).tuple) in
    let firsts : sum_by (λ x. sum_by (w x.tuple) us) bs ≤ sum_by (λ t. sum_by (w t) us) ts = sum_part (λ t. sum_by (w t) us) bs ts ha.ascending (block_listed a.group a.legs a.flux bs ha.blocks) in
    omega (arith, filtered, flat, rows, blocks, sizes, seconds, firsts)
