-- The states of a link as the program holds them.
use Rattle.std.specs.Prelude.{ℤ, Bool, cond, List, map}
use Rattle.std.specs.declared.cmp.Ordering.{Ordering}
use Rattle.std.specs.declared.cmp.Ordering.TheVariants.{Less, Equal, Greater}
use Rattle.qn_opsum.specs.Strings.{Factor}
use Rattle.qn_opsum.specs.Sums.{SumValue}
use Rattle.qn_auto.specs.Automaton.{Stage, to_come}
use Rattle.qn_auto.specs.Automaton.Stage.{not_begun}
use Rattle.qn_auto.specs.LinkOrder.{lexical, kind_lower}
use Rattle.qn_auto.specs.SumAutomaton.{charge_lower, state_charge}

-- the state of a term that has begun, with these operators to come, or has not
abbrev pub stage_with : Bool → List Factor → Stage
stage_with begun fs = cond begun (to_come fs) not_begun

-- a state with a charge
pub record StateValue : Type 0 where
  pub charge : List ℤ
  pub stage : Stage

-- a state with its charge in the automaton of a sum
abbrev pub with_charge : SumValue → Stage → StateValue
with_charge v q = record { charge = state_charge v q; stage = q }

-- by charge, then by kind
abbrev pub value_lower : StateValue → StateValue → Bool
value_lower a b = lexical charge_lower a.charge b.charge (kind_lower a.stage b.stage)

-- how two elements stand to each other by a test of what comes before
abbrev pub order_by : {A : Type 0} → (A → A → Bool) → A → A → Ordering
order_by lower x y = cond (lower x y) Less (cond (lower y x) Greater Equal)

-- the charges of states
abbrev pub charges : List StateValue → List (List ℤ)
charges ss = map (λ (s : StateValue). s.charge) ss
