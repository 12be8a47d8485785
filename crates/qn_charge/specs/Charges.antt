-- Charges of a product of factors U(1) and Z_n, as lists of whole numbers, one part for each factor.
-- Source: Singh, Pfeifer and Vidal 2010; the parity as in super vector spaces.
use Rattle.std.specs.Prelude.{ℕ, ℤ, pos, ◌+ℤ◌, ◌≤◌, ◌%◌, ◌≡◌, ◌≤ℤ◌, ◌<ℤ◌, neg_ℤ, unsigned_abs, List, [], ◌∷◌, Bool, true, false, not, ◌==◌}
use Rattle.std.specs.Int.{int_rem_euclid}
use Rattle.qn_charge.specs.declared.factor.Factor.{Factor}
use Rattle.qn_charge.specs.declared.factor.Factor.TheVariants.{U1, Zn}

-- a factor is fermionic
abbrev pub is_fermion : Factor → Bool
is_fermion (U1 fermion) = fermion
is_fermion (Zn n fermion) = fermion

-- n is from 2 to 1,000, and even where the factor is fermionic
abbrev pub IsFactor : Factor → Type 0
IsFactor (U1 fermion) = Unit {0}
IsFactor (Zn n fermion) = (2 ≤ n) × (n ≤ 1000) × (fermion ≡ true → n % 2 ≡ 0)

-- a group is a product of factors
abbrev pub IsGroup : List Factor → Type 0
IsGroup [] = Unit {0}
IsGroup (f ∷ fs) = IsFactor f × IsGroup fs

-- a whole number as a part of a factor: itself for U(1), and its remainder from 0 to n - 1 for Z_n
abbrev pub reduced : Factor → ℤ → ℤ
reduced (U1 fermion) x = x
reduced (Zn n fermion) x = int_rem_euclid x (pos n)

-- the first part of a charge, 0 where there is none
abbrev pub head : List ℤ → ℤ
head [] = pos 0
head (x ∷ xs) = x

-- the parts after the first
abbrev pub tail : List ℤ → List ℤ
tail [] = []
tail (x ∷ xs) = xs

-- the charge whose parts are all 0
abbrev pub zero_charge : List Factor → List ℤ
zero_charge [] = []
zero_charge (f ∷ fs) = pos 0 ∷ zero_charge fs

-- the sum of two charges, part by part
abbrev pub sum_charge : List Factor → List ℤ → List ℤ → List ℤ
sum_charge [] a b = []
sum_charge (f ∷ fs) a b = reduced f (head a +ℤ head b) ∷ sum_charge fs (tail a) (tail b)

-- the negative of a charge, part by part
abbrev pub neg_charge : List Factor → List ℤ → List ℤ
neg_charge [] a = []
neg_charge (f ∷ fs) a = reduced f (neg_ℤ (head a)) ∷ neg_charge fs (tail a)

-- the canonical form of a charge, part by part
abbrev pub canon_charge : List Factor → List ℤ → List ℤ
canon_charge [] a = []
canon_charge (f ∷ fs) a = reduced f (head a) ∷ canon_charge fs (tail a)

-- a whole number is odd
abbrev pub is_odd : ℤ → Bool
is_odd x = unsigned_abs x % 2 == 1

-- a part where its factor is fermionic, and 0 where it is bosonic
abbrev pub fermion_part : Factor → ℤ → ℤ
fermion_part (U1 true) x = x
fermion_part (U1 false) x = pos 0
fermion_part (Zn n true) x = x
fermion_part (Zn n false) x = pos 0

-- the sum of the fermionic parts of a charge
abbrev pub fermion_sum : List Factor → List ℤ → ℤ
fermion_sum [] a = pos 0
fermion_sum (f ∷ fs) a = fermion_part f (head a) +ℤ fermion_sum fs (tail a)

-- the parity of a charge, true for odd: the sum of its fermionic parts modulo 2
abbrev pub parity : List Factor → List ℤ → Bool
parity fs a = is_odd (fermion_sum fs a)

-- the sum of two parities
abbrev pub xor : Bool → Bool → Bool
xor true b = not b
xor false b = b

-- a Z_n part is from 0 to n - 1
abbrev pub IsCanonicalPart : Factor → ℤ → Type 0
IsCanonicalPart (U1 fermion) x = Unit {0}
IsCanonicalPart (Zn n fermion) x = (pos 0 ≤ℤ x) × (x <ℤ pos n)

-- a charge has one part for each factor, and each Z_n part is from 0 to n - 1
abbrev pub IsCanonical : List Factor → List ℤ → Type 0
IsCanonical [] a = a ≡ []
IsCanonical (f ∷ fs) [] = ⊥
IsCanonical (f ∷ fs) (x ∷ xs) = IsCanonicalPart f x × IsCanonical fs xs

-- a U(1) part is from -bound to bound
abbrev pub IsPartWithin : ℕ → Factor → ℤ → Type 0
IsPartWithin bound (U1 fermion) x = unsigned_abs x ≤ bound
IsPartWithin bound (Zn n fermion) x = Unit {0}

-- each U(1) part of a charge is from -bound to bound
abbrev pub IsWithin : ℕ → List Factor → List ℤ → Type 0
IsWithin bound [] a = Unit {0}
IsWithin bound (f ∷ fs) a = IsPartWithin bound f (head a) × IsWithin bound fs (tail a)
