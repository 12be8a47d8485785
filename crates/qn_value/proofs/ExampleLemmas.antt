-- The worked tensor meets what the laws ask for.
use Rattle.std.proofs.Common.{◌≢◌, zero, suc, ℤ, pos, List, [], ◌∷◌, refl, map, arith}
use Rattle.std.specs.List.{All}
use Rattle.qn_sign.specs.Sign.Perm.{none, keep}
use Rattle.qn_index.specs.declared.leg.Dir.{Dir}
use Rattle.qn_index.specs.declared.leg.Dir.TheVariants.{Out, In}
use Rattle.qn_index.specs.Legs.{SectorValue, LegValue, HasDim, IsSound, IsOf, IsLegOf}
use Rattle.qn_value.specs.Networks.{IsNetwork}
use Rattle.qn_value.specs.Tensors.{BlockValue, IsTensor, IsBlock, AreAscending}
use Rattle.qn_value.specs.Labels.{IsUniform, AllPlaced, slots, node_of, bonds_of}
use Rattle.qn_value.specs.Local.{IsCouple, IsCoupling}
use Rattle.qn_value.specs.TensorBlocks.{HasBlocks}
use Rattle.qn_value.specs.Examples.{fermions, mode, single, diagonal, placed}
use Rattle.qn_value.proofs.BlockRows.{block_tensor}
use Rattle.qn_facts.proofs.Lists.{all_two, all_one}

abbrev even : SectorValue
even = record { charge = pos 0 ∷ []; dim = 1 }

abbrev odd : SectorValue
odd = record { charge = pos 1 ∷ []; dim = 1 }

sound : (d : Dir) → IsSound (mode d)
sound d = record {
  some = omega arith;
  few = omega arith;
  dims = all_two HasDim even odd (omega arith, omega arith) (omega arith, omega arith);
  bound = omega arith;
}

of_group : (d : Dir) → IsLegOf fermions (mode d)
of_group d = all_two (IsOf fermions) even odd (record { canonical = (tt, refl); within = (omega arith, tt) }) (record { canonical = (tt, refl); within = (omega arith, tt) })

abbrev legs : List LegValue
legs = mode In ∷ mode Out ∷ []

abbrev flux : List ℤ
flux = pos 0 ∷ []

abbrev first : BlockValue
first = single (0 ∷ 0 ∷ []) 2

abbrev second : BlockValue
second = single (1 ∷ 1 ∷ []) 3

blocks : All (IsBlock fermions legs flux) (first ∷ second ∷ [])
blocks =
    all_two (IsBlock fermions legs flux) first second
    (record { tuple = (omega arith, (omega arith, refl)); flux = refl; full = refl; small = omega arith })
    (record { tuple = (omega arith, (omega arith, refl)); flux = refl; full = refl; small = omega arith })

ascending : AreAscending (first ∷ second ∷ [])
ascending zero zero l m = absurd (omega (arith, l))
ascending zero (suc zero) l m = refl
ascending zero (suc (suc j)) l m = absurd (omega (arith, m))
ascending (suc i) zero l m = absurd (omega (arith, l))
ascending (suc i) (suc zero) l m = absurd (omega (arith, l))
ascending (suc i) (suc (suc j)) l m = absurd (omega (arith, m))

pub has_blocks : HasBlocks (diagonal In Out) (first ∷ second ∷ [])
has_blocks = record { rows = refl; blocks = blocks; order = ascending }

pub is_tensor : IsTensor (diagonal In Out)
is_tensor =
    let r = block_tensor fermions legs flux (first ∷ second ∷ []) blocks ascending in
    record {
      group = (tt, tt);
      legs = all_two IsSound (mode In) (mode Out) (sound In) (sound Out);
      charges = all_two (IsLegOf fermions) (mode In) (mode Out) (of_group In) (of_group Out);
      flux = (tt, refl);
      rows = r.0;
      distinct = r.1;
    }

apart : In ≢ Out
apart e = absurd (cc e)

pub is_coupling : IsCoupling legs ((0, 1) ∷ [])
is_coupling = record { meet = all_one (IsCouple legs) (0, 1) (record { first = omega arith; second = omega arith; meets = (apart, refl) }); distinct = (refl, (refl, tt)) }

pub is_placed : AllPlaced fermions (placed (diagonal In Out) (pos 1 ∷ pos 1 ∷ []) ∷ [])
is_placed = (record { group = refl; tensor = is_tensor; labels = refl }, tt)

pub is_uniform : IsUniform (slots (placed (diagonal In Out) (pos 1 ∷ pos 1 ∷ []) ∷ []))
is_uniform = (((λ e. refl), tt), (tt, tt))

pub is_network : IsNetwork (map node_of (placed (diagonal In Out) (pos 1 ∷ pos 1 ∷ []) ∷ [])) (bonds_of [] (slots (placed (diagonal In Out) (pos 1 ∷ pos 1 ∷ []) ∷ []))) []
is_network = record { distinct = (refl, (refl, tt)); complete = keep (keep none) }
