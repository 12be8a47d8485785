-- Parts of a charge that are out of range: for U(1) outside -bound to bound, for Z_n outside 0 to n - 1.
use Rattle.std.specs.Prelude.{ℕ, ℤ, pos, neg_ℤ, ◌<◌, ◌⊎◌, ◌<ℤ◌, ◌≤ℤ◌, List, length, slice_index_or, false}
use Rattle.qn_charge.specs.declared.factor.Factor.{Factor}
use Rattle.qn_charge.specs.declared.factor.Factor.TheVariants.{U1, Zn}

-- a part is out of range
abbrev pub IsOutOfBound : ℤ → Factor → ℤ → Type 0
IsOutOfBound bound (U1 fermion) x = (x <ℤ neg_ℤ bound) ⊎ (bound <ℤ x)
IsOutOfBound bound (Zn n fermion) x = (x <ℤ pos 0) ⊎ (pos n ≤ℤ x)

-- the i-th part is out of range
abbrev pub OutOfBound : ℤ → List Factor → List ℤ → ℕ → Type 0
OutOfBound bound fs a i = (i < length fs) × IsOutOfBound bound (slice_index_or fs i (U1 false)) (slice_index_or a i (pos 0))

-- the i-th part is out of range, for a bound that is not negative
abbrev pub OutOfRange : ℕ → List Factor → List ℤ → ℕ → Type 0
OutOfRange bound fs a i = OutOfBound (pos bound) fs a i
