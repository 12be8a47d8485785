-- Why there is no site of a kind, and why operators are none of a site.
use Rattle.std.specs.Prelude.{◌≡◌, ◌≢◌, ◌<◌, ◌*◌, ◌/◌, ◌%◌, ◌⊎◌, ℕ, suc, zero, ℤ, List, [], length, slice_index_or, Contains}
use Rattle.qn_gauss.specs.Gaussian.{Gaussian, zero_g}
use Rattle.qn_charge.specs.declared.factor.Factor.{Factor}
use Rattle.qn_charge.specs.Firsts.{IsFirst, HasNone, OutOfRange}
use Rattle.qn_index.specs.Legs.{LegValue, total}
use Rattle.qn_sites.specs.declared.fault.SiteFault.{SiteFault}
use Rattle.qn_sites.specs.declared.fault.SiteFault.TheVariants.{SiteKind, OpCharge, Memory}
use Rattle.qn_sites.specs.Operators.{carried}
use Rattle.qn_sites.specs.Sites.{GivenOp, identity_name}
use Rattle.qn_sites.specs.Kinds.{KindRow, kinds}

-- an operator's name is that of the identity, or a part of its charge is out of range: a U(1) part outside -10^7 to 10^7, a Z_n part outside 0 to n - 1
abbrev pub BadHead : List Factor → List ℕ → List ℤ → Type 0
BadHead fs name q = (name ≡ identity_name) ⊎ ((i : ℕ) × OutOfRange 10000000 fs q i)

-- an entry, the k-th row after row, is not 0 and does not carry the charge
pub record IsOffCharge (fs : List Factor) (l : LegValue) (q : List ℤ) (k : ℕ) (z : Gaussian) : Type 0 where
  pub some : z ≢ zero_g
  pub other : carried fs l.sectors (k / total l.sectors) (k % total l.sectors) ≢ q

-- the k-th entry, row after row, is not 0 and does not carry the operator's charge
abbrev pub BadEntry : List Factor → LegValue → List ℤ → List Gaussian → ℕ → Type 0
BadEntry fs l q es k = (k < length es) × IsOffCharge fs l q k (slice_index_or es k zero_g)

-- nothing is at fault in an operator
pub record IsClean (fs : List Factor) (l : LegValue) (g : GivenOp) : Type 0 where
  pub head : BadHead fs g.name g.charge → ⊥
  pub entries : HasNone (BadEntry fs l g.charge g.entries)

abbrev pub no_op : GivenOp
no_op = record { name = []; charge = []; entries = [] }

-- the i-th operator is none of the site
abbrev pub BadOp : List Factor → LegValue → List GivenOp → ℕ → Type 0
BadOp fs l gs i = (i < length gs) × (IsClean fs l (slice_index_or gs i no_op) → ⊥)

-- where an operator is at fault: 0 for its name or its charge, and else the number, from 1, of the first entry off the charge
abbrev pub IsFaultPlace : List Factor → LegValue → GivenOp → ℕ → Type 0
IsFaultPlace fs l g zero = BadHead fs g.name g.charge
IsFaultPlace fs l g (suc k) = (BadHead fs g.name g.charge → ⊥) × IsFirst (BadEntry fs l g.charge g.entries) k

-- the first operator at fault, from 0, and where
abbrev pub IsOwnFault : List Factor → LegValue → List GivenOp → SiteFault → Type 0
IsOwnFault fs l gs SiteKind = ⊥
IsOwnFault fs l gs (OpCharge i place) = IsFirst (BadOp fs l gs) i × IsFaultPlace fs l (slice_index_or gs i no_op) place
IsOwnFault fs l gs Memory = Unit {0}

-- a kind of this name, whose group is this one
pub record IsKindOf (called : List ℕ) (fs : List Factor) (k : KindRow) : Type 0 where
  pub listed : Contains kinds k
  pub name : k.name ≡ called
  pub group : k.factors ≡ fs

-- no kind has this name and this group
abbrev pub IsBuiltinFault : List ℕ → List Factor → SiteFault → Type 0
IsBuiltinFault name fs SiteKind = (k : KindRow) → IsKindOf name fs k → ⊥
IsBuiltinFault name fs (OpCharge i place) = ⊥
IsBuiltinFault name fs Memory = Unit {0}
