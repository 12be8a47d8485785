-- Blocks that are sorted by their tuples.
use Rattle.std.proofs.Common.{◌≡◌, ◌≢◌, ◌⊎◌, inl, inr, ℕ, ◌<◌, false, List, length, get_or, arith, refl, ap, ◌∙◌, sym}
use Rattle.std.specs.Cmp.Lexicographic.{slice_cmp}
use Rattle.std.specs.Ordering.{nat_cmp, is_lt, ordering_reverse}
use Rattle.std.specs.declared.cmp.Ordering.{Ordering}
use Rattle.std.specs.declared.cmp.Ordering.TheVariants.{Less, Equal, Greater}
use Rattle.std.specs.List.Sorted.{IsPermutation, IsSortedBy}
use Rattle.std.proofs.lemmas.Cmp.{nat_list_cmp_total}
use Rattle.std.proofs.lemmas.Bool.{cases_eq}
use Rattle.std.proofs.lemmas.List.Sorted.{IsPermutation-keeps, ranks_by, sorted_far}
use Rattle.std.proofs.lemmas.List.Edits.{Swapped, swapped_from_swap, length-swap}
use Rattle.std.specs.List.{swap}
use Rattle.qn_value.specs.Tensors.{BlockValue, no_block, AreAscending}
use Rattle.qn_block.specs.Refusals.{block_at}
use Rattle.qn_block.proofs.Lookup.{same_tuple}
use Rattle.qn_permute.specs.Moved.{is_before}

-- no two blocks have the same tuple
pub record AreApart (bs : List BlockValue) : Type 0 where
  pub apart : (i j : ℕ) → i < length bs → j < length bs → (block_at bs i).tuple ≡ (block_at bs j).tuple → i ≡ j

-- where an element stood before two changed places
data Stood (a b k m : ℕ) : Type 0 where
  first : k ≡ a → m ≡ b → Stood a b k m
  second : k ≡ b → m ≡ a → Stood a b k m
  other : k ≢ a → k ≢ b → m ≡ k → Stood a b k m

stood_same : (a b i j m n : ℕ) → Stood a b i m → Stood a b j n → m ≡ n → i ≡ j
stood_same a b i j m n (first p q) (first r s) e = omega arith
stood_same a b i j m n (first p q) (second r s) e = omega arith
stood_same a b i j m n (first p q) (other r s t) e = absurd (omega arith)
stood_same a b i j m n (second p q) (first r s) e = omega arith
stood_same a b i j m n (second p q) (second r s) e = omega arith
stood_same a b i j m n (second p q) (other r s t) e = absurd (omega arith)
stood_same a b i j m n (other p q u) (first r s) e = absurd (omega arith)
stood_same a b i j m n (other p q u) (second r s) e = absurd (omega arith)
stood_same a b i j m n (other p q u) (other r s t) e = omega arith

record HasStood (l : List BlockValue) (a b k : ℕ) : Type 0 where
  place : ℕ
  below : place < length l
  stood : Stood a b k place
  same : block_at (swap l a b) k ≡ block_at l place

has_stood : (l : List BlockValue) (a b k : ℕ) → a < length l → b < length l → k < length l → HasStood l a b k
has_stood l a b k p q h = by (cases_eq k a) (cases_eq k b)
  where
    sw : Swapped (λ i. get_or l i no_block) (λ i. get_or (swap l a b) i no_block) a b
    sw = swapped_from_swap l (swap l a b) a b no_block p q refl

    by : (k ≡ a) ⊎ (k ≢ a) → (k ≡ b) ⊎ (k ≢ b) → HasStood l a b k
    by (inl e) r = record { place = b; below = q; stood = first e refl; same = ap (block_at (swap l a b)) e ∙ sw.0 }
    by (inr n) (inl e) = record { place = a; below = p; stood = second e refl; same = ap (block_at (swap l a b)) e ∙ sw.1 }
    by (inr n) (inr m) = record { place = k; below = h; stood = other n m refl; same = sw.2 k n m }

apart_swap : (l : List BlockValue) (a b : ℕ) → a < length l → b < length l → AreApart l → AreApart (swap l a b)
apart_swap l a b p q h = record {
  apart = λ i j hi hj e.
      let long : length (swap l a b) ≡ length l = length-swap l a b in
      let r : HasStood l a b i = has_stood l a b i p q (omega arith) in
      let s : HasStood l a b j = has_stood l a b j p q (omega arith) in
      stood_same a b i j r.place s.place r.stood s.stood
      (h.apart r.place s.place r.below s.below (sym (ap (λ (x : BlockValue). x.tuple) r.same) ∙ (e ∙ ap (λ (x : BlockValue). x.tuple) s.same)));
}

pub apart_perm : (bs cs : List BlockValue) → IsPermutation bs cs → AreApart bs → AreApart cs
apart_perm bs cs p h = IsPermutation-keeps bs AreApart h (λ l a b q r k. apart_swap l a b q r k) cs p

less_from : (o p : Ordering) → p ≡ ordering_reverse o → is_lt o ≡ false → o ≢ Equal → p ≡ Less
less_from Less p e f n = absurd (cc f)
less_from Equal p e f n = absurd (n refl)
less_from Greater p e f n = e

-- sorted blocks with tuples of their own ascend
pub sorted_ascend : (bs : List BlockValue) → AreApart bs → IsSortedBy is_before bs → AreAscending bs
sorted_ascend bs h s i j lt below =
    let t : List ℕ = (block_at bs i).tuple in
    let u : List ℕ = (block_at bs j).tuple in
    less_from (slice_cmp nat_cmp u t) (slice_cmp nat_cmp t u) (nat_list_cmp_total.antisymm t u)
    (sorted_far is_before (ranks_by nat_list_cmp_total (λ (b : BlockValue). b.tuple)) bs s i j no_block (omega arith) below)
    (λ e. let same : j ≡ i = h.apart j i below (omega arith) (same_tuple u t e) in omega arith)
