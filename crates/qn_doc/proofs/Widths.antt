-- The shape of a table: within the limits, or which limit it breaks first.
use Rattle.std.proofs.Common.{◌≡◌, ℕ, ◌≤◌, ◌<◌, ◌^◌, ℤ, List, length, Some, None, arith, refl, sym, subst}
use Rattle.std.proofs.lemmas.Bool.{le-ltb, lt-ltb}
use Rattle.qn_charge.specs.declared.factor.Factor.{Factor}
use Rattle.qn_index.specs.Legs.{LegValue}
use Rattle.qn_index.specs.Tuples.{count}
use Rattle.qn_index.specs.Extents.{entries, IsWithinLimits}
use Rattle.qn_block.specs.declared.fault.BlockFault.{BlockFault}
use Rattle.qn_block.specs.declared.fault.BlockFault.TheVariants.{TooManyLegs, TooManyTuples, TooManyEntries, Arity, BlockRange, OffFlux, NotAscending, DataLen, Memory}
use Rattle.qn_block.specs.Refusals.{IsShapeFault}
use Rattle.qn_parts.specs.declared.fault.DocFault.{DocFault}
use Rattle.qn_parts.specs.Faults.{Fails, fault}
use Rattle.qn_parts.specs.Tensors.{width_fault, placed}
use Rattle.qn_doc.proofs.Wanting.{wanting}

pub width_right : (fs : List Factor) (tensor : ℕ) (ls : List LegValue) (q : List ℤ) → IsWithinLimits fs ls q → width_fault fs tensor ls q ≡ None
width_right fs tensor ls q h = rw (le-ltb (2 ^ 20) (count ls) h.tuples, le-ltb (2 ^ 22) (entries fs ls q) h.entries) refl

many_tuples : (fs : List Factor) (tensor : ℕ) (ls : List LegValue) (q : List ℤ) → 2 ^ 20 < count ls → width_fault fs tensor ls q ≡ Some (fault 13 tensor 0 0)
many_tuples fs tensor ls q h = rw (lt-ltb (2 ^ 20) (count ls) h) refl

many_entries : (fs : List Factor) (tensor : ℕ) (ls : List LegValue) (q : List ℤ) → count ls ≤ 2 ^ 20 → 2 ^ 22 < entries fs ls q → width_fault fs tensor ls q ≡ Some (fault 14 tensor 0 0)
many_entries fs tensor ls q h k = rw (le-ltb (2 ^ 20) (count ls) h, lt-ltb (2 ^ 22) (entries fs ls q) k) refl

pub width_wrong : (fs : List Factor) (tensor : ℕ) (ls : List LegValue) (q : List ℤ) (e : BlockFault) (r : DocFault) → length ls ≤ 32 → IsShapeFault fs ls q e → Fails r (placed tensor e)
    → Fails r (width_fault fs tensor ls q)
width_wrong fs tensor ls q TooManyLegs r few h p = absurd (omega (arith, few, h))
width_wrong fs tensor ls q TooManyTuples r few h p = subst (Fails r) (sym (many_tuples fs tensor ls q h.1)) p
width_wrong fs tensor ls q TooManyEntries r few h p = subst (Fails r) (sym (many_entries fs tensor ls q h.1 h.2)) p
width_wrong fs tensor ls q (Arity i) r few h p = absurd h
width_wrong fs tensor ls q (BlockRange i j) r few h p = absurd h
width_wrong fs tensor ls q (OffFlux i) r few h p = absurd h
width_wrong fs tensor ls q (NotAscending i) r few h p = absurd h
width_wrong fs tensor ls q (DataLen i) r few h p = absurd h
width_wrong fs tensor ls q Memory r few h p = wanting r (width_fault fs tensor ls q) p
