-- The first passing place of a trace, found block by block.
use Rattle.std.proofs.Common.{◌≡◌, ◌≤◌, ◌<◌, ℕ, zero, suc, ◌+◌, ◌==◌, Bool, true, false, cond, Some, None, List, [], ◌∷◌, refl, sym, ◌∙◌, ap, length, get_or, drop, eqb-true, arith}
use Rattle.std.specs.List.{range_with_len}
use Rattle.std.proofs.lemmas.Bool.Decides.{nat_tests}
use Rattle.qn_gauss.specs.Gaussian.{limit}
use Rattle.qn_index.specs.Legs.{LegValue}
use Rattle.qn_index.specs.Places.{block_size, values_at}
use Rattle.qn_value.specs.Magnitudes.{passes, first_where, passing_offset, place_or, first_passing}

first_none : (test : ℕ → Bool) (a n : ℕ) → ((j : ℕ) → a ≤ j → j < a + n → test j ≡ false) → first_where test (range_with_len a n) ≡ None
first_none test a zero h = refl
first_none test a (suc n) h =
    ap (λ b. cond b (Some a) (first_where test (range_with_len (a + 1) n))) (h a (omega arith) (omega arith))
    ∙ first_none test (a + 1) n (λ j l m. h j (omega arith) (omega arith))

first_some : (test : ℕ → Bool) (a n o : ℕ) → a ≤ o → o < a + n → test o ≡ true → ((j : ℕ) → a ≤ j → j < o → test j ≡ false) → first_where test (range_with_len a n) ≡ Some o
first_some test a zero o l m e h = absurd (omega arith)
first_some test a (suc n) o l m e h = go (o == a) refl (λ k. first_some test (a + 1) n o k (omega arith) e (λ j p q. h j (omega arith) q))
  where
    go : (b : Bool) → (o == a) ≡ b → (a + 1 ≤ o → first_where test (range_with_len (a + 1) n) ≡ Some o) → cond (test a) (Some a) (first_where test (range_with_len (a + 1) n)) ≡ Some o
    go true f ih =
        let at : o ≡ a = eqb-true o a f in
        ap (λ b. cond b (Some a) (first_where test (range_with_len (a + 1) n))) (ap test (sym at) ∙ e) ∙ ap Some (sym at)
    go false f ih =
        let less : a < o = grind (arith, nat_tests) in
        ap (λ b. cond b (Some a) (first_where test (range_with_len (a + 1) n))) (h a (omega arith) less) ∙ ih (omega (arith, less))

small_test : (m : ℕ) → m ≤ limit → passes m ≡ false
small_test m h = grind (arith, nat_tests)

large_test : (m : ℕ) → limit < m → passes m ≡ true
large_test m h = grind (arith, nat_tests)

-- a block in which nothing passes
pub clear_block : (size : List ℕ → ℕ) (ls : List LegValue) (t : List ℕ) → ((o : ℕ) → o < block_size ls t → size (values_at ls t o) ≤ limit) → passing_offset size ls t ≡ None
clear_block size ls t h = first_none (λ o. passes (size (values_at ls t o))) 0 (block_size ls t) (λ j l m. small_test (size (values_at ls t j)) (h j (omega (arith, m))))

-- a block whose first passing entry is known
pub passing_block : (size : List ℕ → ℕ) (ls : List LegValue) (t : List ℕ) (o : ℕ) → o < block_size ls t → limit < size (values_at ls t o) → ((j : ℕ) → j < o → size (values_at ls t j) ≤ limit) → passing_offset size ls t ≡ Some o
passing_block size ls t o lt p h =
    first_some (λ j. passes (size (values_at ls t j))) 0 (block_size ls t) o (omega arith) (omega (arith, lt)) (large_test (size (values_at ls t o)) p) (λ j l m. small_test (size (values_at ls t j)) (h j m))

drop_next : (ts : List (List ℕ)) (i : ℕ) (t : List ℕ) → i < length ts → t ≡ get_or ts i t → drop i ts ≡ t ∷ drop (suc i) ts
drop_next [] i t lt e = absurd (omega arith)
drop_next (u ∷ ts) zero t lt e = ap (λ v. v ∷ ts) (sym e)
drop_next (u ∷ ts) (suc i) t lt e = drop_next ts i t (omega arith) e

-- nothing passes in the blocks of the first tuples
pub passing_next : (size : List ℕ → ℕ) (ls : List LegValue) (ts : List (List ℕ)) (i : ℕ) (t : List ℕ) → i < length ts → t ≡ get_or ts i t → first_passing size ls ts ≡ first_passing size ls (drop i ts) →
    passing_offset size ls t ≡ None → first_passing size ls ts ≡ first_passing size ls (drop (suc i) ts)
passing_next size ls ts i t lt e h n =
    h ∙ ap (first_passing size ls) (drop_next ts i t lt e) ∙ ap (λ o. place_or t o (first_passing size ls (drop (suc i) ts))) n

pub passing_here : (size : List ℕ → ℕ) (ls : List LegValue) (ts : List (List ℕ)) (i : ℕ) (t : List ℕ) (o : ℕ) → i < length ts → t ≡ get_or ts i t → first_passing size ls ts ≡ first_passing size ls (drop i ts) →
    passing_offset size ls t ≡ Some o → first_passing size ls ts ≡ Some (record { tuple = t; offset = o })
passing_here size ls ts i t o lt e h n =
    h ∙ ap (first_passing size ls) (drop_next ts i t lt e) ∙ ap (λ p. place_or t p (first_passing size ls (drop (suc i) ts))) n
