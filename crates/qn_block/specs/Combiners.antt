-- Combiners: some legs made into one, and the two tables that put the one in the place of the others.
-- Source: Singh, Pfeifer and Vidal 2010; combiners as in Fishman, White and Stoudenmire 2022.
use Rattle.std.specs.Prelude.{◌≡◌, ◌≤◌, ◌<◌, ℕ, zero, suc, ◌+◌, ◌*◌, ℤ, Bool, false, List, [], ◌∷◌, length, map, filter, flat_map, slice_index_or}
use Rattle.std.specs.List.{All}
use Rattle.std.specs.Cmp.Lexicographic.{slice_cmp, pointwise}
use Rattle.std.specs.Ordering.{int_cmp, int_eq}
use Rattle.std.specs.declared.cmp.Ordering.{Ordering}
use Rattle.std.specs.declared.cmp.Ordering.TheVariants.{Less, Equal, Greater}
use Rattle.qn_charge.specs.declared.factor.Factor.{Factor}
use Rattle.qn_charge.specs.Charges.{IsGroup}
use Rattle.qn_index.specs.declared.leg.Dir.{Dir}
use Rattle.qn_index.specs.Legs.{LegValue, SectorValue, IsLeg, IsSound, IsLegOf, total}
use Rattle.qn_index.specs.Tuples.{net, turned, tuples, upward, count, IsTuple}
use Rattle.qn_index.proofs.Shapes.{rank}
use Rattle.qn_index.specs.Places.{block_size, values_at}
use Rattle.qn_value.specs.Tensors.{same_values}

-- the charge of a tuple of the legs as the fused leg counts it: the Out charges minus the In charges, negated where the arrow is In
abbrev pub fused_charge : List Factor → List LegValue → Dir → List ℕ → List ℤ
fused_charge fs ls arrow t = turned fs arrow (net fs ls t)

-- a charge put in its place in an ascending list, unless it is there; charges are compared part by part
abbrev pub put_by : Ordering → List ℤ → List ℤ → List (List ℤ) → List (List ℤ) → List (List ℤ)
put_by Less c d ds more = c ∷ d ∷ ds
put_by Equal c d ds more = d ∷ ds
put_by Greater c d ds more = d ∷ more

abbrev pub put : List ℤ → List (List ℤ) → List (List ℤ)
put c [] = c ∷ []
put c (d ∷ ds) = put_by (slice_cmp int_cmp c d) c d ds (put c ds)

-- the charges of a list, ascending, each once
abbrev pub ascending_once : List (List ℤ) → List (List ℤ)
ascending_once [] = []
ascending_once (c ∷ cs) = put c (ascending_once cs)

-- the charges that occur
abbrev pub fused_charges : List Factor → List LegValue → Dir → List (List ℤ)
fused_charges fs ls arrow = ascending_once (map (fused_charge fs ls arrow) (tuples ls))

-- the tuples with this charge, ascending
abbrev pub tuples_with : List Factor → List LegValue → Dir → List ℤ → List (List ℕ)
tuples_with fs ls arrow c = filter (λ t. pointwise int_eq (fused_charge fs ls arrow t) c) (tuples ls)

-- the values of the legs in a tuple of sectors, row-major
abbrev pub values_in : List LegValue → List ℕ → List (List ℕ)
values_in ls t = map (values_at ls t) (upward 0 (block_size ls t))

-- the values of the legs with this charge: tuple by tuple, and in each row-major
abbrev pub values_with : List Factor → List LegValue → Dir → List ℤ → List (List ℕ)
values_with fs ls arrow c = flat_map (values_in ls) (tuples_with fs ls arrow c)

-- the sector of a charge has as many values as the legs have with this charge
abbrev pub sector_with : List Factor → List LegValue → Dir → List ℤ → SectorValue
sector_with fs ls arrow c = record { charge = c; dim = length (values_with fs ls arrow c) }

-- the fused leg has one sector for each charge that occurs, ascending
abbrev pub fused_sectors : List Factor → List LegValue → Dir → List SectorValue
fused_sectors fs ls arrow = map (sector_with fs ls arrow) (fused_charges fs ls arrow)

abbrev pub fused_leg : List Factor → List LegValue → Dir → LegValue
fused_leg fs ls arrow = record { arrow = arrow; sectors = fused_sectors fs ls arrow }

-- the values of the legs in the order of the values of the fused leg: the w-th of them match its value w
abbrev pub fused_values : List Factor → List LegValue → Dir → List (List ℕ)
fused_values fs ls arrow = flat_map (values_with fs ls arrow) (fused_charges fs ls arrow)

-- whether the w-th of a list are these values
abbrev pub stands_at : List (List ℕ) → ℕ → List ℕ → Bool
stands_at [] w vs = false
stands_at (us ∷ uss) zero vs = same_values us vs
stands_at (us ∷ uss) (suc w) vs = stands_at uss w vs

-- the number of values of all legs together
abbrev pub number_of_values : List LegValue → ℕ
number_of_values [] = 1
number_of_values (l ∷ ls) = total l.sectors * number_of_values ls

-- a combiner: the group, the legs, and the arrow of the fused leg
pub record CombinerValue : Type 0 where
  pub group : List Factor
  pub legs : List LegValue
  pub arrow : Dir

-- the legs can be fused: the fused leg keeps the limits of a leg
pub record IsFusable (fs : List Factor) (ls : List LegValue) (arrow : Dir) : Type 0 where
  pub leg : IsLeg (fused_sectors fs ls arrow)
  pub charges : IsLegOf fs (fused_leg fs ls arrow)

-- what holds of each combiner
pub record IsCombiner (c : CombinerValue) : Type 0 where
  pub group : IsGroup c.group
  pub some : 0 < length c.legs
  pub few : length c.legs ≤ 63
  pub sound : All IsSound c.legs
  pub charges : All (IsLegOf c.group) c.legs
  pub fusable : IsFusable c.group c.legs c.arrow

-- a tuple of the legs, and the value of the fused leg at which its values begin
pub record StartValue : Type 0 where
  pub tuple : List ℕ
  pub start : ℕ

abbrev pub start_at : List StartValue → ℕ → StartValue
start_at ss i = slice_index_or ss i (record { tuple = []; start = 0 })

-- the tuples in the order of the values of the fused leg, each with the value at which its values begin
abbrev pub starts_from : List LegValue → ℕ → List (List ℕ) → List StartValue
starts_from ls n [] = []
starts_from ls n (t ∷ ts) = record { tuple = t; start = n } ∷ starts_from ls (n + block_size ls t) ts

abbrev pub fused_starts : List Factor → List LegValue → Dir → List StartValue
fused_starts fs ls arrow = starts_from ls 0 (flat_map (tuples_with fs ls arrow) (fused_charges fs ls arrow))

-- each of these is a tuple of the legs, and no two are the same
pub record AreTuples (ls : List LegValue) (ss : List StartValue) : Type 0 where
  pub tuples : (i : ℕ) → i < length ss → IsTuple ls (start_at ss i).tuple
  pub once : (i j : ℕ) → i < length ss → j < length ss → (start_at ss i).tuple ≡ (start_at ss j).tuple → i ≡ j

-- by the number of each tuple among all tuples, the value at which its values begin
pub record IsIndex (ls : List LegValue) (ss : List StartValue) (ns : List ℕ) : Type 0 where
  pub long : length ns ≡ count ls
  pub starts : (i : ℕ) → i < length ss → slice_index_or ns (rank ls (start_at ss i).tuple) 0 ≡ (start_at ss i).start
