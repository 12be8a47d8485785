-- What the network of the automaton of an operator sum is worth.
-- Source: Jordan and Wigner for the strings; after Crosswhite and Bacon 2008 for the automaton.
use Rattle.std.specs.Prelude.{◌≡◌, ℕ, List, map}
use Rattle.qn_gauss.specs.Gaussian.{Gaussian}
use Rattle.qn_index.specs.Legs.{LegValue}
use Rattle.qn_index.specs.Places.{IsValues}
use Rattle.qn_block.specs.Blocked.{BlockedValue}
use Rattle.qn_opsum.specs.Refusals.{IsSum}
use Rattle.qn_opsum.specs.Sums.{SumValue, value_of}
use Rattle.qn_auto.specs.SumAutomaton.{IsAutomatonOf}
use Rattle.qn_braket.specs.Chains.{IsOperatorChain, element, expectation}
use Rattle.qn_paths.specs.Paths.{state_of}

-- the legs of the sites
abbrev pub site_legs : SumValue → List LegValue
site_legs v = map (λ s. s.leg) v.sites

-- the matrix element of the sum at values u of the rows s' and s of the columns: the sum of the coefficients times the operator strings
abbrev pub sum_element : SumValue → List ℕ → List ℕ → Gaussian
sum_element v u s = value_of v (state_of u) (state_of s)

-- the tensors of the automaton, as a chain, have the matrix elements of the sum
abbrev pub SumElementLaw : Type 0
SumElementLaw =
    (v : SumValue) (ts : List BlockedValue) → IsSum v → IsAutomatonOf v ts → IsOperatorChain (site_legs v) ts → (u s : List ℕ) →
    IsValues (site_legs v) u → IsValues (site_legs v) s → element v.group ts u s ≡ sum_element v u s

-- so their expectation is that of the sum
abbrev pub SumExpectationLaw : Type 0
SumExpectationLaw =
    (v : SumValue) (ts bra ket : List BlockedValue) → IsSum v → IsAutomatonOf v ts → IsOperatorChain (site_legs v) ts →
    expectation v.group (site_legs v) (element v.group ts) bra ket ≡ expectation v.group (site_legs v) (sum_element v) bra ket
