-- What is left beside marked elements, and pairs of positions one by one.
use Rattle.std.proofs.Common.{◌≡◌, ℕ, zero, suc, ◌+◌, ◌<◌, ◌≤◌, Bool, true, false, cond, List, [], ◌∷◌, ◌++◌, length, map, filter, get_or, drop, arith, refl, ap, ap₂, ◌∙◌, sym, subst, add-one, append_assoc}
use Rattle.std.specs.List.{All, flat_map}
use Rattle.std.proofs.lemmas.List.{append-nil, drop_all}
use Rattle.std.proofs.lemmas.List.Elements.{All-nil, All-cons, All-tail, filter-append}
use Rattle.std.proofs.lemmas.Grind.{flat_map-append}
use Rattle.qn_sign.specs.Positions.{positions}
use Rattle.std.specs.Prelude.{Result, Ok, Err, IfOk}
use Rattle.std.proofs.Common.{Vec, Global}
use Rattle.std.proofs.lemmas.List.FromFn.{length-map-range_with_len}
use Rattle.qn_value.specs.Tensors.{BlockValue}
use Rattle.qn_match.specs.Pairs.{all_pairs, marks, unmarked}
use Rattle.qn_value.proofs.OpenLegs.{range-last}

-- some elements have been looked at, and those without a mark appended
pub record AreLeft {A : Type 0} (ms : List Bool) (xs before out : List A) (i : ℕ) : Type 0 where
  pub made : out ++ unmarked (drop i ms) (drop i xs) ≡ before ++ unmarked ms xs

unmarked_suc : {A : Type 0} (ms : List Bool) (xs : List A) (i : ℕ) (d : A) → i < length xs → length ms ≡ length xs →
    unmarked (drop i ms) (drop i xs) ≡ cond (get_or ms i false) (unmarked (drop (suc i) ms) (drop (suc i) xs)) (get_or xs i d ∷ unmarked (drop (suc i) ms) (drop (suc i) xs))
unmarked_suc ms [] i d lt e = absurd (omega arith)
unmarked_suc [] (x ∷ xs) i d lt e = absurd (omega arith)
unmarked_suc (m ∷ ms) (x ∷ xs) zero d lt e = refl
unmarked_suc (m ∷ ms) (x ∷ xs) (suc i) d lt e = unmarked_suc ms xs i d (omega arith) (omega arith)

unmarked_step : {A : Type 0} (ms : List Bool) (xs : List A) (i : ℕ) (d : A) → i < length xs → length ms ≡ length xs →
    unmarked (drop i ms) (drop i xs) ≡ cond (get_or ms i false) (unmarked (drop (i + 1) ms) (drop (i + 1) xs)) (get_or xs i d ∷ unmarked (drop (i + 1) ms) (drop (i + 1) xs))
unmarked_step ms xs i d lt e =
    subst (λ k. unmarked (drop i ms) (drop i xs) ≡ cond (get_or ms i false) (unmarked (drop k ms) (drop k xs)) (get_or xs i d ∷ unmarked (drop k ms) (drop k xs))) (sym (add-one i)) (unmarked_suc ms xs i d lt e)

pub left_kept : {A : Type 0} (ms : List Bool) (xs before out new : List A) (i : ℕ) (x : A) → i < length xs → length ms ≡ length xs → get_or ms i false ≡ false → x ≡ get_or xs i x → new ≡ out ++ x ∷ [] → AreLeft ms xs before out i → AreLeft ms xs before new (i + 1)
left_kept {A} ms xs before out new i x lt e m is n h = record {
  made =
      let rest : List A = unmarked (drop (i + 1) ms) (drop (i + 1) xs) in
      let step : unmarked (drop i ms) (drop i xs) ≡ x ∷ rest =
      unmarked_step ms xs i x lt e ∙ (ap (λ b. cond b rest (get_or xs i x ∷ rest)) m ∙ ap (λ y. y ∷ rest) (sym is)) in
      ap (λ ys. ys ++ rest) n ∙ (append_assoc out (x ∷ []) rest ∙ (ap (λ ys. out ++ ys) (sym step) ∙ h.made));
}

pub left_out : {A : Type 0} (ms : List Bool) (xs before out : List A) (i : ℕ) (d : A) → i < length xs → length ms ≡ length xs → get_or ms i false ≡ true → AreLeft ms xs before out i → AreLeft ms xs before out (i + 1)
left_out {A} ms xs before out i d lt e m h = record {
  made =
      let rest : List A = unmarked (drop (i + 1) ms) (drop (i + 1) xs) in
      let step : unmarked (drop i ms) (drop i xs) ≡ rest = unmarked_step ms xs i d lt e ∙ ap (λ b. cond b rest (get_or xs i d ∷ rest)) m in
      ap (λ ys. out ++ ys) (sym step) ∙ h.made;
}

pub all_unmarked : {A : Type 0} (P : A → Type 0) (ms : List Bool) (xs : List A) → All P xs → All P (unmarked ms xs)
all_unmarked P [] xs h = All-nil P
all_unmarked P (m ∷ ms) [] h = All-nil P
all_unmarked P (true ∷ ms) (x ∷ xs) h = all_unmarked P ms xs (All-tail P x xs h)
all_unmarked P (false ∷ ms) (x ∷ xs) h = All-cons P x (unmarked ms xs) (h 0 x (omega arith)) (all_unmarked P ms xs (All-tail P x xs h))

-- ---- positions

pub positions_more : (n : ℕ) → positions (n + 1) ≡ positions n ++ n ∷ []
positions_more n = ap positions (add-one n) ∙ (range-last 0 n ∙ ap (λ k. positions n ++ k ∷ []) (omega arith))

-- the pairs with one first position more
pairs_more : (p : (ℕ × ℕ) → Bool) (i n : ℕ) → filter p (all_pairs (i + 1) n) ≡ filter p (all_pairs i n) ++ filter p (map (λ j. (i, j)) (positions n))
pairs_more p i n =
    let row : ℕ → List (ℕ × ℕ) = λ k. map (λ j. (k, j)) (positions n) in
    ap (λ ks. filter p (flat_map row ks)) (positions_more i)
    ∙ (ap (filter p) (flat_map-append row (positions i) (i ∷ []) ∙ ap (λ xs. flat_map row (positions i) ++ xs) (append-nil (row i)))
    ∙ filter-append p (flat_map row (positions i)) (row i))

row_same : (p q : (ℕ × ℕ) → Bool) (i : ℕ) (ks : List ℕ) → ((j : ℕ) → q (i, j) ≡ p (i, j)) → filter q (map (λ j. (i, j)) ks) ≡ filter p (map (λ j. (i, j)) ks)
row_same p q i [] e = refl
row_same p q i (k ∷ ks) e = ap₂ (λ b xs. cond b ((i, k) ∷ xs) xs) (e k) (row_same p q i ks e)

-- one first position more
pub row_done : (p q : (ℕ × ℕ) → Bool) (before new : List (ℕ × ℕ)) (i n : ℕ) → ((j : ℕ) → q (i, j) ≡ p (i, j)) → before ≡ filter p (all_pairs i n) → new ≡ before ++ filter q (map (λ j. (i, j)) (positions n)) → new ≡ filter p (all_pairs (i + 1) n)
row_done p q before new i n e h m =
    m ∙ (ap₂ (λ xs ys. xs ++ ys) h (row_same p q i (positions n) e) ∙ sym (pairs_more p i n))

pub marks_length : (f : ℕ → Bool) (n : ℕ) → length (marks f n) ≡ n
marks_length f n = length-map-range_with_len f 0 n

pub lefts_alike : (f : List (ℕ × ℕ) → ℕ → Bool) (shared : List (ℕ × ℕ)) (n : ℕ) (bs : List BlockValue) → All (λ b. length b.tuple ≡ n) bs →
    map (λ (b : BlockValue). unmarked (marks (f shared) n) b.tuple) bs ≡ map (λ (b : BlockValue). unmarked (marks (f shared) (length b.tuple)) b.tuple) bs
lefts_alike f shared n [] h = refl
lefts_alike f shared n (b ∷ bs) h =
    ap₂ (λ x xs. x ∷ xs) (ap (λ k. unmarked (marks (f shared) k) b.tuple) (sym (h 0 b (omega arith)))) (lefts_alike f shared n bs (λ k d lt. h (suc k) d (omega arith)))

-- the answer of a call whose lists are the same
pub lefts_from : {E : Type 0} (xs : List (List ℕ)) (ys : List (List ℕ)) (r : Result (Vec (List ℕ) Global) E) → xs ≡ ys → IfOk r (λ v. v.items ≡ xs) → IfOk r (λ v. v.items ≡ ys)
lefts_from xs ys (Ok v) e h = h ∙ e
lefts_from xs ys (Err x) e h = tt
