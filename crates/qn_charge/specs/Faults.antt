-- What keeps factors from being a group, in the order in which it is looked for.
use Rattle.std.specs.Prelude.{ℕ, ◌<◌, ◌≡◌, ◌%◌, ◌⊎◌, List, length, true, false, slice_index_or}
use Rattle.qn_charge.specs.declared.factor.Factor.{Factor}
use Rattle.qn_charge.specs.declared.factor.Factor.TheVariants.{U1, Zn}
use Rattle.qn_charge.specs.declared.fault.GroupFault.{GroupFault}
use Rattle.qn_charge.specs.declared.fault.GroupFault.TheVariants.{Modulus, OddFermion}
use Rattle.qn_charge.specs.Firsts.{IsFirst, HasNone}

-- n is outside 2 to 1,000
abbrev pub IsBadModulus : Factor → Type 0
IsBadModulus (U1 fermion) = ⊥
IsBadModulus (Zn n fermion) = (n < 2) ⊎ (1000 < n)

-- the factor is fermionic and n is odd
abbrev pub IsOddFermion : Factor → Type 0
IsOddFermion (U1 fermion) = ⊥
IsOddFermion (Zn n fermion) = (fermion ≡ true) × (n % 2 ≡ 1)

-- the n of the i-th factor is outside 2 to 1,000
abbrev pub BadModulusAt : List Factor → ℕ → Type 0
BadModulusAt fs i = (i < length fs) × IsBadModulus (slice_index_or fs i (U1 false))

-- the i-th factor is fermionic and its n is odd
abbrev pub OddFermionAt : List Factor → ℕ → Type 0
OddFermionAt fs i = (i < length fs) × IsOddFermion (slice_index_or fs i (U1 false))

-- the fault that factors have: a bad modulus comes before any odd fermionic factor, and the first of a kind before the others
abbrev pub IsFirstFault : List Factor → GroupFault → Type 0
IsFirstFault fs (Modulus i) = IsFirst (BadModulusAt fs) i
IsFirstFault fs (OddFermion i) = HasNone (BadModulusAt fs) × IsFirst (OddFermionAt fs) i
