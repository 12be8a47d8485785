-- Where the sums of one contraction grow too large to be kept.
-- The magnitude of a + b i is |a| + |b|, and no stored entry has one above 2^127 - 1; every partial sum of a contraction is at most the sum of magnitudes.
use Rattle.std.specs.Prelude.{◌≡◌, ◌≤◌, ℕ, zero, suc, ◌+◌, ◌*◌, Bool, false, cond, Option, Some, None, List, [], ◌∷◌, length, map, filter, nat_lt}
use Rattle.std.specs.Ordering.{int_eq}
use Rattle.qn_sign.specs.Sign.{IsDistinct}
use Rattle.qn_gauss.specs.Gaussian.{Gaussian, mag, limit}
use Rattle.qn_index.specs.Legs.{LegValue}
use Rattle.qn_index.specs.Places.{values_at, block_size}
use Rattle.qn_sign.specs.Positions.{positions}
use Rattle.qn_value.specs.Networks.{End, Node, Bond, Assignment, Parities, assign, in_end, labels, values, at_values, flat}
use Rattle.qn_value.specs.Tensors.{TensorValue, BlockValue}
use Rattle.qn_value.specs.Labels.{Placed, slots, ends, node_of, bonds_of, opens_of}
use Rattle.qn_value.specs.Local.{coupled, pair_network}

-- the sum over the numbers below n
abbrev pub total_below : ℕ → (ℕ → ℕ) → ℕ
total_below zero f = 0
total_below (suc n) f = total_below n f + f n

-- the sum over all values of the bonds
abbrev pub total : List Bond → (Assignment → ℕ) → Assignment → ℕ
total [] f a = f a
total (b ∷ bs) f a = total_below b.dim (λ v. total bs f (assign a b.label v))

-- the magnitude of the tensor's entry
abbrev pub mag_at : Node → Assignment → ℕ
mag_at x a = mag (x.entry (values x.ends a))

-- the product of the magnitudes of the tensors' entries
abbrev pub magnitudes : List Node → Assignment → ℕ
magnitudes [] a = 1
magnitudes (n ∷ ns) a = mag_at n a * magnitudes ns a

-- the sum of magnitudes of a network at values of its n open legs: as its value, with magnitudes in place of entries and without signs
abbrev pub magnitude_of : List Placed → ℕ → List ℕ → ℕ
magnitude_of ps n xs = total (bonds_of [] (slots ps)) (magnitudes (map node_of ps)) (at_values (opens_of (ends (slots ps)) n) xs)

-- the sum of magnitudes of a trace at an entry of its result
abbrev pub trace_magnitude : TensorValue → List (ℕ × ℕ) → List ℕ → ℕ
trace_magnitude t couples xs = magnitude_of (coupled (t ∷ []) couples) (length xs) xs

-- the sum of magnitudes of a contraction of two tensors at an entry of its result
abbrev pub pair_magnitude : TensorValue → TensorValue → List (ℕ × ℕ) → List ℕ → ℕ
pair_magnitude a b shared xs = magnitude_of (pair_network a b shared) (length xs) xs

-- above 2^127 - 1
abbrev pub passes : ℕ → Bool
passes m = nat_lt limit m

-- a place of a tensor: a tuple of sectors, and an offset in its block
pub record Place : Type 0 where
  pub tuple : List ℕ
  pub offset : ℕ

abbrev pub first_where : {A : Type 0} → (A → Bool) → List A → Option A
first_where test [] = None
first_where test (x ∷ xs) = cond (test x) (Some x) (first_where test xs)

-- the first offset in the block of a tuple at which the sum of magnitudes passes
abbrev pub passing_offset : (List ℕ → ℕ) → List LegValue → List ℕ → Option ℕ
passing_offset size ls t = first_where (λ o. passes (size (values_at ls t o))) (positions (block_size ls t))

abbrev pub place_or : List ℕ → Option ℕ → Option Place → Option Place
place_or t None p = p
place_or t (Some o) p = Some (record { tuple = t; offset = o })

-- the first passing place of these tuples' blocks, by the order of the tuples, and in a block by the offset
abbrev pub first_passing : (List ℕ → ℕ) → List LegValue → List (List ℕ) → Option Place
first_passing size ls [] = None
first_passing size ls (t ∷ ts) = place_or t (passing_offset size ls t) (first_passing size ls ts)

-- the tasks of a contraction are the admissible tuples of its result, ascending, numbered from 0

-- the block of a task
abbrev pub block_at : (List ℕ → Gaussian) → List LegValue → List ℕ → BlockValue
block_at entry ls t = record { tuple = t; entries = map (λ o. entry (values_at ls t o)) (positions (block_size ls t)) }

-- the blocks of all tasks in order
abbrev pub all_blocks : (List ℕ → Gaussian) → List LegValue → List (List ℕ) → List BlockValue
all_blocks entry ls ts = map (block_at entry ls) ts

-- the values that k gives to the bonds
abbrev pub IsAt : Assignment → List Bond → Assignment → Type 0
IsAt k [] c = Unit {0}
IsAt k (b ∷ bs) c = (c (in_end b) ≡ k (in_end b)) × IsAt k bs c

-- a sum of which one summand at most is not 0, as in a contraction with the table of a combiner, is no larger than this summand
abbrev pub SingleLaw : Type 0
SingleLaw =
    (bonds : List Bond) (f : Assignment → ℕ) (k : Assignment) (bound : ℕ) (a : Assignment) → IsDistinct int_eq (labels bonds) →
    ((c : Assignment) → f c ≤ bound) → ((c : Assignment) → (IsAt k bonds c → ⊥) → f c ≡ 0) → total bonds f a ≤ bound

-- tuples in whose blocks nothing passes may be left out
abbrev pub FirstPassingLaw : Type 0
FirstPassingLaw =
    (size : List ℕ → ℕ) (ls : List LegValue) (keep : List ℕ → Bool) (ts : List (List ℕ)) →
    ((t : List ℕ) → keep t ≡ false → passing_offset size ls t ≡ None) → first_passing size ls ts ≡ first_passing size ls (filter keep ts)

-- the sum of magnitudes bounds the magnitude of the value
abbrev pub MagnitudeLaw : Type 0
MagnitudeLaw =
    (par : Parities) (ns : List Node) (bonds : List Bond) (opens : List End) (a : Assignment) → mag (flat par ns bonds opens a) ≤ total bonds (magnitudes ns) a
