-- What holds of the terms of an operator sum when they stand in site order.
use Rattle.std.specs.Prelude.{◌≡◌, ◌<◌, ◌≤◌, ℤ, List, length}
use Rattle.std.specs.List.{All}
use Rattle.qn_charge.specs.Charges.{zero_charge, sum_charge}
use Rattle.qn_opsum.specs.Strings.{AreOrdered, Factor}
use Rattle.qn_opsum.specs.Sums.{SumValue, site_at}
use Rattle.qn_auto.specs.Automaton.{Stage, Term}
use Rattle.qn_auto.specs.Automaton.Stage.{not_begun, rest, done}
use Rattle.qn_auto.specs.Flux.{charge_of}
use Rattle.qn_auto.specs.SumAutomaton.{op_charge}

-- an operator on one of the sites, that is one of those there
pub record IsFactorOf (v : SumValue) (f : Factor) : Type 0 where
  pub site : f.site < length v.sites
  pub op : f.op < length (site_at v.sites f.site).ops

-- at most 32 operators on the sites of a sum
pub record AreTermOf (v : SumValue) (fs : List Factor) : Type 0 where
  pub few : length fs ≤ 32
  pub known : All (IsFactorOf v) fs

-- the charge of operators on the sites of a sum
abbrev pub charge_in : SumValue → List Factor → List ℤ
charge_in v fs = charge_of (zero_charge v.group) (sum_charge v.group) (op_charge v.sites) fs

-- a term in site order with the charge of the sum
pub record IsTermOf (v : SumValue) (w : Term) : Type 0 where
  pub known : AreTermOf v w.factors
  pub ordered : AreOrdered w.factors
  pub charge : charge_in v w.factors ≡ v.flux

-- what a state has still to come is of the sum
abbrev pub IsStageOf : SumValue → Stage → Type 0
IsStageOf v not_begun = Unit {0}
IsStageOf v (rest fs) = AreTermOf v fs
IsStageOf v done = Unit {0}
