-- How many products of single entries a task takes.
use Rattle.std.proofs.Common.{◌≡◌, ◌≤◌, ◌<◌, ◌^◌, ℕ, zero, suc, ◌+◌, ◌*◌, ◌-◌, List, [], ◌∷◌, length, get_or, take, drop, sym, ◌∙◌, ap, subst, arith}
use Rattle.std.specs.List.{All, sum_by}
use Rattle.std.proofs.lemmas.List.{take_all, get_or_default}
use Rattle.std.proofs.lemmas.List.Sums.{sum_by-cons}
use Rattle.std.proofs.Math.Nat.{mul_assoc}
use Rattle.qn_index.specs.Legs.{LegValue, sector_at, IsSound}
use Rattle.qn_index.specs.Tuples.{IsTuple}
use Rattle.qn_value.specs.Local.{no_leg}
use Rattle.qn_match.specs.Shares.{shared_size}
use Rattle.qn_index.specs.Places.{block_size}
use Rattle.qn_value.specs.Tensors.{BlockValue}
use Rattle.qn_block.specs.Refusals.{block_at}
use Rattle.qn_match.specs.Pairs.{pairs_for, IsPair}
use Rattle.qn_strides.proofs.Striding.{dim_good}
use Rattle.qn_pair.specs.Jobs.{JobValue, legs_of, tuples_of, tuple_at, share_at, products_at, ArePriced}
use Rattle.qn_pair.proofs.Listed.{left_same}
use Rattle.qn_pair.proofs.Loops.{once_more}

-- the number of values of a leg's sector
abbrev pub dim_of : List LegValue → List ℕ → ℕ → ℕ
dim_of ks t k = (sector_at (get_or ks k no_leg).sectors (get_or t k 0)).dim

pub dim_some : (ks : List LegValue) (t : List ℕ) (k : ℕ) → All IsSound ks → IsTuple ks t → k < length ks → 1 ≤ dim_of ks t k
dim_some ks t k sound h lt = (dim_good ks t k (get_or ks k no_leg) sound h lt (get_or_default ks k no_leg (get_or ks k no_leg) lt)).0

more_than_none : (d n : ℕ) → 1 ≤ d → 1 ≤ n → 1 ≤ d * n
more_than_none zero n h k = absurd (omega (arith, h))
more_than_none (suc d) n h k = omega (arith, k)

size_some : (ks : List LegValue) (t : List ℕ) (ps : List (ℕ × ℕ)) → All IsSound ks → IsTuple ks t → All (λ p. p.0 < length ks) ps → 1 ≤ shared_size ps ks t
size_some ks t [] sound h there = omega arith
size_some ks t (p ∷ ps) sound h there = more_than_none (dim_of ks t p.0) (shared_size ps ks t) (dim_some ks t p.0 sound h (there 0 p (omega arith))) (size_some ks t ps sound h (λ k d lt. there (suc k) d (omega (arith, lt))))

-- the values so far times those of the rest are all values
pub record IsTimed (ks : List LegValue) (t : List ℕ) (total : ℕ) (rest : List (ℕ × ℕ)) (values : ℕ) : Type 0 where
  pub places : All (λ p. p.0 < length ks) rest
  pub values_are : values * shared_size rest ks t ≡ total

pub record IsNextTimed (ks : List LegValue) (t : List ℕ) (total : ℕ) (rest : List (ℕ × ℕ)) (values : ℕ) : Type 0 where
  pub fits : values ≤ total
  pub timed : IsTimed ks t total rest values

grows : (v n : ℕ) → 1 ≤ n → v ≤ v * n
grows v zero h = absurd (omega (arith, h))
grows v (suc n) h = omega arith

pub timed_step : (ks : List LegValue) (t : List ℕ) (total : ℕ) (rest : List (ℕ × ℕ)) (values d later : ℕ) → All IsSound ks → IsTuple ks t → 1 ≤ length rest → IsTimed ks t total rest values →
    d ≡ dim_of ks t (get_or rest 0 (0, 0)).0 → later ≡ values * d → IsNextTimed ks t total (take (length rest - 1) (drop 1 rest)) later
timed_step ks t total [] values d later sound h some k f g = absurd (omega (arith, some))
timed_step ks t total (p ∷ ps) values d later sound h some k f g =
    let there : All (λ q. q.0 < length ks) ps = λ i x lt. k.places (suc i) x (omega (arith, lt)) in
    let same : later * shared_size ps ks t ≡ total =
    ap (λ n. n * shared_size ps ks t) (g ∙ ap (λ n. values * n) f) ∙ mul_assoc values (dim_of ks t p.0) (shared_size ps ks t) ∙ k.values_are in
    subst (λ qs. IsNextTimed ks t total qs later) (sym (take_all (length (p ∷ ps) - 1) ps (omega arith))) record {
      fits = omega (arith, same, grows later (shared_size ps ks t) (size_some ks t ps sound h there));
      timed = record { places = there; values_are = same };
    }

-- the products so far and those of the rest are all products
pub record IsSummed (f : ℕ × ℕ → ℕ) (n total : ℕ) (rest : List (ℕ × ℕ)) (products : ℕ) : Type 0 where
  pub there : All (λ p. p.0 < n) rest
  pub sum : products + sum_by f rest ≡ total

pub summed_step : (f : ℕ × ℕ → ℕ) (n total : ℕ) (rest : List (ℕ × ℕ)) (products x later : ℕ) → 1 ≤ length rest → IsSummed f n total rest products → x ≡ f (get_or rest 0 (0, 0)) → later ≡ products + x →
    IsSummed f n total (take (length rest - 1) (drop 1 rest)) later
summed_step f n total [] products x later some k e g = absurd (omega (arith, some))
summed_step f n total (p ∷ ps) products x later some k e g =
    subst (λ qs. IsSummed f n total qs later) (sym (take_all (length (p ∷ ps) - 1) ps (omega arith))) record {
      there = λ i d lt. k.there (suc i) d (omega (arith, lt));
      sum = omega (arith, g, e, k.sum, sum_by-cons f p ps);
    }

-- ---- the products of a task

pub products_are : (j : JobValue) (t : ℕ) → IsPair j.first j.second j.shared → (size : ℕ) (ks : List LegValue) (bs : List BlockValue) (ps prs : List (ℕ × ℕ)) → size ≡ block_size (legs_of j) (tuple_at j t) → ks ≡ j.first.legs → bs ≡ j.first.blocks → ps ≡ j.shared →
    prs ≡ pairs_for j.shared j.first.blocks j.second.blocks (tuple_at j t) → sum_by (λ p. size * shared_size ps ks (block_at bs p.0).tuple) prs ≡ products_at j t
products_are j t pair size ks bs ps prs e1 e2 e3 e4 e5 =
    (λ i. sum_by (λ (p : ℕ × ℕ). e1 i * shared_size (e4 i) (e2 i) (block_at (e3 i) p.0).tuple) (e5 i))
    ∙ sym (ap (λ (ls : List LegValue). sum_by (λ (p : ℕ × ℕ). block_size ls (tuple_at j t) * shared_size j.shared j.first.legs (block_at j.first.blocks p.0).tuple) (pairs_for j.shared j.first.blocks j.second.blocks (tuple_at j t))) (left_same j pair))

pub products_small : (j : JobValue) (t : ℕ) → ArePriced j → t < length (tuples_of j) → products_at j t ≤ 2 ^ 44
products_small j t priced lt =
    omega (arith, priced.each t, sum_by-cons (share_at j) t [], priced.all (t ∷ []) (once_more (length (tuples_of j)) t [] lt (λ x h. absurd (omega (arith, h))) (λ x. omega arith)), priced.small)
