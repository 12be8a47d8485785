-- Blocks put in the order of their tasks' numbers.
use Rattle.std.proofs.Common.{◌≡◌, ℕ, zero, suc, ◌+◌, ◌<◌, ◌≢◌, List, [], ◌∷◌, ◌++◌, length, map, filter, set, get_or, refl, sym, ap, ◌∙◌, ⊎_elim, add-zero, zero-add, arith, subst, get_or-set_other, get_or-set_same, Bool, true, false, not, cond, eq-eqb, None, Some}
use Rattle.std.specs.Prelude.{◌==◌, Option, option_to_list}
use Rattle.std.specs.List.{All, flat_map, range_with_len}
use lib.ListN.{length-set}
use Rattle.std.proofs.lemmas.Bool.{eqb-true, false≢true}
use Rattle.qn_sign.specs.Positions.{positions}
use Rattle.qn_value.specs.Tensors.{BlockValue}
use Rattle.qn_board.specs.Lists.{IsIn}
use Rattle.qn_board.proofs.Counting.{in_either, in_one}
use Rattle.qn_match.specs.Pairs.{pairs_for}
use Rattle.qn_pair.specs.Jobs.{JobValue, tuples_of, tuple_at, task_block}
use Rattle.qn_pair.specs.Work.{numbers}
use Rattle.qn_pair.specs.Workers.{IsComplete, is_empty, has_pairs, kept_blocks, slot_of}

-- these results are in their slots
pub record IsPlaced (j : JobValue) (ds : List (ℕ × BlockValue)) (row : List (Option BlockValue)) : Type 0 where
  pub size : length row ≡ length (tuples_of j)
  pub there : (t : ℕ) → IsIn t (numbers ds) → get_or row t None ≡ slot_of j t

pub placed_more : (j : JobValue) (d : ℕ × BlockValue) (ds : List (ℕ × BlockValue)) (row : List (Option BlockValue)) (v : Option BlockValue) → d.0 < length (tuples_of j) → v ≡ slot_of j d.0 → IsPlaced j ds row → IsPlaced j (d ∷ ds) (set row d.0 v)
placed_more j d ds row v lt is p = record { size = length-set row d.0 v ∙ p.size; there = λ t h. go t (t == d.0) refl h }
  where
    go : (t : ℕ) (b : Bool) → (t == d.0) ≡ b → IsIn t (numbers (d ∷ ds)) → get_or (set row d.0 v) t None ≡ slot_of j t
    go t true e h =
        let same : t ≡ d.0 = eqb-true t d.0 e in
        let inside : d.0 < length row = omega (arith, lt, p.size) in
        subst (λ k. get_or (set row d.0 v) k None ≡ slot_of j k) (sym same) (get_or-set_same row d.0 v None inside ∙ is)
    go t false e h =
        let ne : t ≢ d.0 = (λ same. false≢true (sym e ∙ eq-eqb t d.0 same)) in
        let old : IsIn t (numbers ds) = ⊎_elim (λ a. absurd (ne (sym (in_one t d.0 a)))) (λ a. a) (in_either t (d.0 ∷ []) (numbers ds) h) in
        get_or-set_other row d.0 t v None ne ∙ p.there t old

-- an element in the middle
pub in_middle : {A : Type 0} (P : A → Type 0) (xs ys : List A) (x : A) → All P (xs ++ x ∷ ys) → P x
in_middle P [] ys x h = h 0 x (omega arith)
in_middle P (y ∷ xs) ys x h = in_middle P xs ys x (λ k d l. h (suc k) d (omega (arith, l)))

list_of : {A : Type 0} (f : ℕ → A) (d : A) (a n : ℕ) (xs : List A) → length xs ≡ n → ((k : ℕ) → k < n → get_or xs k d ≡ f (a + k)) → xs ≡ map f (range_with_len a n)
list_of f d a zero [] e h = refl
list_of f d a zero (x ∷ xs) e h = absurd (omega (arith, e))
list_of f d a (suc n) [] e h = absurd (omega (arith, e))
list_of f d a (suc n) (x ∷ xs) e h =
    let first : x ≡ f a = h 0 (omega arith) ∙ ap f (add-zero a) in
    let rest : xs ≡ map f (range_with_len (a + 1) n) = list_of f d (a + 1) n xs (omega (arith, e)) (λ k lt. let same : a + suc k ≡ a + 1 + k = omega arith in h (suc k) (omega (arith, lt)) ∙ ap f same) in
    λ i. first i ∷ rest i

pub placed_all : (j : JobValue) (ds : List (ℕ × BlockValue)) (row : List (Option BlockValue)) → IsComplete j ds → IsPlaced j ds row → row ≡ map (slot_of j) (positions (length (tuples_of j)))
placed_all j ds row c p = list_of (slot_of j) None 0 (length (tuples_of j)) row p.size (λ k lt. p.there k (c.every k lt) ∙ ap (slot_of j) (sym (zero-add k)))

-- ---- the slots that are filled

slots_kept : (j : JobValue) (ts : List ℕ) → flat_map option_to_list (map (slot_of j) ts) ≡ filter (has_pairs j) (map (task_block j) ts)
slots_kept j [] = refl
slots_kept j (t ∷ ts) = by (is_empty (pairs_for j.shared j.first.blocks j.second.blocks (tuple_at j t))) (slots_kept j ts)
  where
    by : (b : Bool) → flat_map option_to_list (map (slot_of j) ts) ≡ filter (has_pairs j) (map (task_block j) ts) →
        option_to_list (cond b None (Some (task_block j t))) ++ flat_map option_to_list (map (slot_of j) ts) ≡ cond (not b) (task_block j t ∷ filter (has_pairs j) (map (task_block j) ts)) (filter (has_pairs j) (map (task_block j) ts))
    by true e = e
    by false e = ap (λ (bs : List BlockValue). task_block j t ∷ bs) e

pub kept_are : (j : JobValue) (row : List (Option BlockValue)) (bs : List BlockValue) → row ≡ map (slot_of j) (positions (length (tuples_of j))) → bs ≡ flat_map option_to_list row → bs ≡ kept_blocks j
kept_are j row bs e f = f ∙ ap (flat_map option_to_list) e ∙ slots_kept j (positions (length (tuples_of j)))
