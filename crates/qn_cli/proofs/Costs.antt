-- How many multiplications were done.
use Rattle.std.proofs.Common.{◌≡◌, ◌⊎◌, inl, inr, ℕ, ◌+◌, ◌≤◌, List, None, refl}
use Rattle.qn_charge.specs.Firsts.{HasNone}
use Rattle.qn_net.specs.NetworkValues.{NetworkValue}
use Rattle.qn_plan.specs.Planned.{first_wide, cost_of_plan}
use Rattle.qn_opsum.specs.Sums.{SumValue}
use Rattle.qn_auto.specs.SumAutomaton.{IsWideAt, made_of}
use Rattle.qn_words.specs.declared.words.Job.{Job}
use Rattle.qn_words.specs.declared.words.Job.TheVariants.{Contract, Mpo}
use Rattle.qn_cli.specs.Networks.{IsNetworkIn}
use Rattle.qn_cli.specs.Operators.{IsSumIn}
use Rattle.qn_cli.specs.Jobs.{Multiplies}
use Rattle.qn_cli.specs.Answers.{IsWithinPlan, IsWithinBuild}

pub within_narrow : (net : NetworkValue) (before now : ℕ) → first_wide net ≡ None → now ≤ before + cost_of_plan net → IsWithinPlan net before now
unfolding IsWithinPlan
within_narrow net before now narrow few = inr (narrow, few)

pub no_value_yet : (net : NetworkValue) (before : ℕ) → IsWithinPlan net before before
unfolding IsWithinPlan
no_value_yet net before = inl refl

pub multiplied : (workers : ℕ) (bytes : List ℕ) (net : NetworkValue) (before now : ℕ) → IsNetworkIn bytes net → IsWithinPlan net before now → Multiplies (Contract workers) bytes before now
unfolding IsWithinPlan Multiplies
multiplied workers bytes net before now is (inl same) = inl same
multiplied workers bytes net before now is (inr few) = inr (cost_of_plan net, (net, is, few.0, refl), few.1)

pub multiplied_in_build : (bytes : List ℕ) (v : SumValue) (before now : ℕ) → IsSumIn bytes v → IsWithinBuild v before now → Multiplies Mpo bytes before now
unfolding IsWithinBuild Multiplies
multiplied_in_build bytes v before now is (inl same) = inl same
multiplied_in_build bytes v before now is (inr few) = inr (made_of v, (v, is, few.0, refl), few.1)

pub within_build : (v : SumValue) (before now : ℕ) → ((now ≡ before) ⊎ (HasNone (IsWideAt v) × (now ≤ before + made_of v))) → IsWithinBuild v before now
unfolding IsWithinBuild
within_build v before now e = e

pub not_built : (v : SumValue) (before : ℕ) → IsWithinBuild v before before
unfolding IsWithinBuild
not_built v before = inl refl

pub nothing : (job : Job) (bytes : List ℕ) (before : ℕ) → Multiplies job bytes before before
unfolding Multiplies
nothing job bytes before = inl refl
