-- Counts by charge, and the flux that is left to the legs after a sector: how tuples are counted and found leg by leg.
use Rattle.std.specs.Prelude.{ℕ, ℤ, ◌+◌, ◌*◌, ◌^◌, ◌≡◌, List, [], ◌∷◌, ◌++◌, length, map, filter, Bool, true, false, if◌then◌else◌}
use Rattle.std.specs.Cmp.Lexicographic.{pointwise}
use Rattle.std.specs.Ordering.{int_eq}
use Rattle.std.specs.List.{All, flat_map}
use Rattle.qn_charge.specs.declared.factor.Factor.{Factor}
use Rattle.qn_charge.specs.Charges.{sum_charge, neg_charge, zero_charge, IsCanonical, IsWithin}
use Rattle.qn_index.specs.Legs.{LegValue, sector_at}
use Rattle.qn_index.specs.Tuples.{signed}
use Rattle.qn_index.specs.Extents.{capped, entries}

-- a charge, and a number of entries there
pub record WeightValue : Type 0 where
  pub charge : List ℤ
  pub count : ℕ

-- the number of entries at a charge
abbrev pub weight : List WeightValue → List ℤ → ℕ
weight [] c = 0
weight (w ∷ ws) c = (if pointwise int_eq w.charge c then w.count else 0) + weight ws c

-- whether some row has the charge
abbrev pub has_charge : List WeightValue → List ℤ → Bool
has_charge [] c = false
has_charge (w ∷ ws) c = if pointwise int_eq w.charge c then true else has_charge ws c

-- the count after one sector more, with this charge and dimension
abbrev pub moved : List Factor → List ℤ → ℕ → WeightValue → WeightValue
moved fs own dim w = record { charge = sum_charge fs own w.charge; count = capped (2 ^ 22) (dim * w.count) }

-- the counts after one of these sectors of the leg more
abbrev pub spread : List Factor → LegValue → List WeightValue → List ℕ → List WeightValue
spread fs l ws ss = flat_map (λ s. map (moved fs (signed fs l s) (sector_at l.sectors s).dim) ws) ss

-- a charge of the group with U(1) parts of size at most n
pub record IsChargeWithin (n : ℕ) (fs : List Factor) (q : List ℤ) : Type 0 where
  pub canonical : IsCanonical fs q
  pub within : IsWithin n fs q

-- the charge of a row is of the group
abbrev pub IsRow : ℕ → List Factor → WeightValue → Type 0
IsRow n fs w = IsChargeWithin n fs w.charge

-- the counts of all tuples of these legs by their net charge
pub record IsTable (fs : List Factor) (ls : List LegValue) (ws : List WeightValue) : Type 0 where
  pub weights : (c : List ℤ) → IsCanonical fs c → capped (2 ^ 22) (weight ws c) ≡ capped (2 ^ 22) (entries fs ls c)
  pub rows : All (IsRow (1000000000 * length ls) fs) ws

-- the flux that is left to the other legs beside this charge
abbrev pub remaining : List Factor → List ℤ → List ℤ → List ℤ
remaining fs own q = sum_charge fs (neg_charge fs own) q

-- the first sectors of a tuple, and the flux that is left to the legs after them
pub record PartialValue : Type 0 where
  pub list : List ℕ
  pub flux : List ℤ

-- one sector more
abbrev pub extended : List Factor → LegValue → PartialValue → ℕ → PartialValue
extended fs l p s = record { list = p.list ++ s ∷ []; flux = remaining fs (signed fs l s) p.flux }

-- the ways to go on by one of these sectors, to a flux that some row has
abbrev pub extensions : List Factor → LegValue → List WeightValue → PartialValue → List ℕ → List PartialValue
extensions fs l ws p ss = filter (λ e. has_charge ws e.flux) (map (extended fs l p) ss)

-- the tuple, where no flux is left
abbrev pub finished : List Factor → PartialValue → List (List ℕ)
finished fs p = if pointwise int_eq (zero_charge fs) p.flux then p.list ∷ [] else []
