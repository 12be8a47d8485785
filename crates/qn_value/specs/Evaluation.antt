-- Why the plain program gives no value.
use Rattle.std.specs.Prelude.{ℕ, ◌^◌, ◌<◌, ◌≤◌, List}
use Rattle.qn_gauss.specs.Gaussian.{limit}
use Rattle.qn_value.specs.declared.plain.EvaluationFault.{EvaluationFault}
use Rattle.qn_value.specs.declared.plain.EvaluationFault.TheVariants.{TooManySummands, TooLarge, Memory}
use Rattle.qn_value.specs.Networks.{End, Node, Bond, at_values}
use Rattle.qn_value.specs.Magnitudes.{total, magnitudes}
use Rattle.qn_value.specs.Numbering.{summands}

-- the value is computed: it has fewer than 2^64 summands, and its sum of magnitudes is at most 2^127 - 1
pub record IsInRange (ns : List Node) (bs : List Bond) (opens : List End) (xs : List ℕ) : Type 0 where
  pub few : summands bs < 2 ^ 64
  pub small : total bs (magnitudes ns) (at_values opens xs) ≤ limit

abbrev pub IsEvaluationFault : List Node → List Bond → List End → List ℕ → EvaluationFault → Type 0
IsEvaluationFault ns bs opens xs TooManySummands = 2 ^ 64 ≤ summands bs
IsEvaluationFault ns bs opens xs TooLarge = (summands bs < 2 ^ 64) × (limit < total bs (magnitudes ns) (at_values opens xs))
IsEvaluationFault ns bs opens xs Memory = Unit {0}
