-- Tuples of sectors, one for each leg, and the tuples that a flux admits.
-- Source: Singh, Pfeifer and Vidal 2010.
use Rattle.std.specs.Prelude.{ℕ, ℤ, ◌+◌, ◌*◌, ◌^◌, ◌<◌, ◌≡◌, List, [], ◌∷◌, length, map, Bool, zero, suc, filter}
use Rattle.std.specs.Cmp.Lexicographic.{pointwise}
use Rattle.std.specs.Ordering.{int_eq}
use Rattle.std.specs.List.{flat_map}
use Rattle.qn_charge.specs.declared.factor.Factor.{Factor}
use Rattle.qn_charge.specs.Charges.{zero_charge, sum_charge, neg_charge, IsCanonical, IsWithin}
use Rattle.qn_index.specs.declared.leg.Dir.{Dir}
use Rattle.qn_index.specs.declared.leg.Dir.TheVariants.{Out, In}
use Rattle.qn_index.specs.Legs.{LegValue, sector_at}

-- a charge with the sign of its arrow: Out counts for it, In against it
abbrev pub turned : List Factor → Dir → List ℤ → List ℤ
turned fs Out c = c
turned fs In c = neg_charge fs c

-- what a sector of a leg adds to the net charge
abbrev pub signed : List Factor → LegValue → ℕ → List ℤ
signed fs l s = turned fs l.arrow (sector_at l.sectors s).charge

abbrev pub first : List ℕ → ℕ
first [] = 0
first (s ∷ ss) = s

abbrev pub rest : List ℕ → List ℕ
rest [] = []
rest (s ∷ ss) = ss

-- the net charge of a tuple: the charges of the Out legs minus those of the In legs
abbrev pub net : List Factor → List LegValue → List ℕ → List ℤ
net fs [] t = zero_charge fs
net fs (l ∷ ls) t = sum_charge fs (signed fs l (first t)) (net fs ls (rest t))

-- one sector for each leg
abbrev pub IsTuple : List LegValue → List ℕ → Type 0
IsTuple [] t = t ≡ []
IsTuple (l ∷ ls) [] = ⊥
IsTuple (l ∷ ls) (s ∷ ss) = (s < length l.sectors) × IsTuple ls ss

-- a tuple whose net charge is the flux
pub record IsAdmissible (fs : List Factor) (ls : List LegValue) (q : List ℤ) (t : List ℕ) : Type 0 where
  pub tuple : IsTuple ls t
  pub flux : net fs ls t ≡ q

-- a flux: a charge of the group with U(1) parts of size at most 2^50
pub record IsFlux (fs : List Factor) (q : List ℤ) : Type 0 where
  pub canonical : IsCanonical fs q
  pub within : IsWithin (2 ^ 50) fs q

-- the numbers from i on, n of them
abbrev pub upward : ℕ → ℕ → List ℕ
upward i zero = []
upward i (suc n) = i ∷ upward (i + 1) n

-- all tuples, ascending, compared leg by leg from the first
abbrev pub tuples : List LegValue → List (List ℕ)
tuples [] = [] ∷ []
tuples (l ∷ ls) = flat_map (λ s. map (λ t. s ∷ t) (tuples ls)) (upward 0 (length l.sectors))

-- how many tuples there are
abbrev pub count : List LegValue → ℕ
count [] = 1
count (l ∷ ls) = length l.sectors * count ls

-- whether the net charge of a tuple is the flux
abbrev pub admits : List Factor → List LegValue → List ℤ → List ℕ → Bool
admits fs ls q t = pointwise int_eq (net fs ls t) q

-- the admissible tuples, ascending
abbrev pub admitted : List Factor → List LegValue → List ℤ → List (List ℕ)
admitted fs ls q = filter (admits fs ls q) (tuples ls)
