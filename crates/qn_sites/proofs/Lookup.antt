-- Things found by their names, where the names ascend.
use Rattle.std.proofs.Common.{◌≡◌, ◌≢◌, ℕ, ◌≤◌, ◌<◌, List, [], length, get_or, arith, ◌∙◌, sym, subst, ◌⊎◌, inl, inr, ⊎_elim}
use Rattle.std.specs.Cmp.Lexicographic.{slice_cmp}
use Rattle.std.specs.Ordering.{nat_cmp, ordering_index}
use Rattle.std.specs.List.Sorted.{IsSearchInRange, IsBinarySearchResult, IsNonDecreasingBy}
use Rattle.std.specs.Prelude.{MatchResult, Result, Ok, Err}
use Rattle.std.specs.declared.cmp.Ordering.TheVariants.{Less, Equal, Greater}
use Rattle.std.proofs.lemmas.Cmp.{nat_list_cmp_total, tied_itself, alike_right}
use Rattle.std.proofs.lemmas.Bool.{cases_lt}
use Rattle.std.proofs.lemmas.List.{get_or_default, get_or-map, length-map}
use Rattle.qn_sites.specs.Operators.{OpValue}
use Rattle.qn_sites.specs.Sites.{AreAscending, names, name_at, no_operator}
use Rattle.qn_facts.proofs.Orderings.{index_rises, same_list}

less_not_equal : Less ≡ Equal → ⊥
less_not_equal e = cc

greater_not_equal : Greater ≡ Equal → ⊥
greater_not_equal e = cc

module _ {X : Type 0} (key : X → List ℕ) (nothing : X) where
  -- the keys ascend
  abbrev pub KeysAscend : List X → Type 0
  KeysAscend xs = (i j : ℕ) → i < j → j < length xs → slice_cmp nat_cmp (key (get_or xs i nothing)) (key (get_or xs j nothing)) ≡ Less

  -- how the keys stand to a key rises
  keys_rise : (xs : List X) (t : List ℕ) → KeysAscend xs → IsNonDecreasingBy (λ x. ordering_index (slice_cmp nat_cmp (key x) t)) xs
  keys_rise xs t a i j d le lt = by (cases_lt i j)
    where
      at : ℕ → List ℕ
      at k = key (get_or xs k d)

      by : (i < j) ⊎ (j ≤ i) → ordering_index (slice_cmp nat_cmp (at i) t) ≤ ordering_index (slice_cmp nat_cmp (at j) t)
      by (inr ge) = let e : i ≡ j = omega arith in subst (λ k. ordering_index (slice_cmp nat_cmp (at i) t) ≤ ordering_index (slice_cmp nat_cmp (at k) t)) e (omega arith)
      by (inl less) =
          let here : get_or xs i nothing ≡ get_or xs i d = get_or_default xs i nothing d (omega arith) in
          let there : get_or xs j nothing ≡ get_or xs j d = get_or_default xs j nothing d lt in
          let below : slice_cmp nat_cmp (at i) (at j) ≡ Less =
          subst (λ x. slice_cmp nat_cmp (key x) (at j) ≡ Less) here (subst (λ x. slice_cmp nat_cmp (key (get_or xs i nothing)) (key x) ≡ Less) there (a i j less lt)) in
          index_rises (slice_cmp nat_cmp (at i) t) (slice_cmp nat_cmp (at j) t)
          (λ e. nat_list_cmp_total.trans (at i) (at j) t below e)
          (λ e. sym (alike_right nat_list_cmp_total (at j) t (at i) e) ∙ below)

  -- what a binary search for a key answers
  pub looked_up : (xs : List X) (t : List ℕ) (r : Result ℕ ℕ) → KeysAscend xs → IsSearchInRange r (length xs) → IsBinarySearchResult (λ x. slice_cmp nat_cmp (key x) t) xs r →
      MatchResult r (λ i. (i < length xs) × (key (get_or xs i nothing) ≡ t)) (λ i. (j : ℕ) → j < length xs → key (get_or xs j nothing) ≢ t)
  looked_up xs t (Ok i) a range found = (range, same_list (key (get_or xs i nothing)) t (found nothing))
  looked_up xs t (Err i) a range found = λ j lt e.
      let parted = found (keys_rise xs t a) in
      let tied : slice_cmp nat_cmp (key (get_or xs j nothing)) t ≡ Equal = subst (λ u. slice_cmp nat_cmp u t ≡ Equal) (sym e) (tied_itself nat_list_cmp_total t) in
      ⊎_elim
      (λ (l : j < i). less_not_equal (sym (parted.0 j nothing (omega arith) l) ∙ tied))
      (λ (g : i ≤ j). greater_not_equal (sym (parted.1 j nothing g lt) ∙ tied))
      (cases_lt j i)

-- operators found by their names
pub op_found : (os : List OpValue) (t : List ℕ) (r : Result ℕ ℕ) → AreAscending (names os) → IsSearchInRange r (length os) → IsBinarySearchResult (λ (o : OpValue). slice_cmp nat_cmp o.name t) os r →
    MatchResult r (λ i. (i < length os) × (name_at os i ≡ t)) (λ i. (j : ℕ) → j < length os → name_at os j ≢ t)
op_found os t r a = looked_up (λ (o : OpValue). o.name) no_operator os t r ascend
  where
    ascend : (i j : ℕ) → i < j → j < length os → slice_cmp nat_cmp (name_at os i) (name_at os j) ≡ Less
    ascend i j lt h =
        subst (λ n. slice_cmp nat_cmp n (name_at os j) ≡ Less) (get_or-map (λ (o : OpValue). o.name) os i no_operator [] (omega arith))
        (subst (λ n. slice_cmp nat_cmp (get_or (names os) i []) n ≡ Less) (get_or-map (λ (o : OpValue). o.name) os j no_operator [] h)
        (a i j lt (subst (λ n. j < n) (sym (length-map os (λ (o : OpValue). o.name))) h)))
