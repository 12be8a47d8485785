-- What a job comes to on the bytes of its document, and how often it multiplies.
use Rattle.std.specs.Prelude.{◌≡◌, ◌⊎◌, ◌+◌, ◌≤◌, ℕ, List, [], Option, Some, None, Bool, true, false, if◌then◌else◌}
use Rattle.qn_charge.specs.Firsts.{HasNone}
use Rattle.qn_net.specs.NetworkValues.{NetworkValue}
use Rattle.qn_plan.specs.Planned.{first_wide, cost_of_plan}
use Rattle.qn_opsum.specs.Sums.{SumValue}
use Rattle.qn_auto.specs.SumAutomaton.{IsWideAt, made_of}
use Rattle.qn_words.specs.declared.words.Job.{Job}
use Rattle.qn_words.specs.declared.words.Job.TheVariants.{Contract, Plan, Mpo, Overlap, Expect, Gen}
use Rattle.qn_cli.specs.Outcomes.{Outcome}
use Rattle.qn_cli.specs.Networks.{IsNetworkIn, Contracts, Plans}
use Rattle.qn_cli.specs.Operators.{IsSumIn, Writes}
use Rattle.qn_cli.specs.Brakets.{SaysSuch, SaysSuchSum, IsOverlapCost, IsExpectCost}
use Rattle.qn_cli.specs.States.{SaysStates, SaysStatesAndSum, ComesToOverlap, ComesToExpect}
use Rattle.qn_cli.specs.Generated.{IsGenerated, Generates}

-- whether the job reads its document; that of a generated workload is told by its number
abbrev pub is_read : Job → Bool
is_read (Contract workers) = true
is_read Plan = true
is_read Mpo = true
is_read (Overlap workers) = true
is_read (Expect workers) = true
is_read (Gen seed workers) = false

-- the bytes of the job's document, where they are known: those that the source has left, and none where it is not read
abbrev pub document : Job → Option (List ℕ) → Option (List ℕ)
document job left = if is_read job then left else Some []

-- what the job comes to on these bytes, which play no part in that of a generated workload
abbrev pub ComesTo : Job → List ℕ → Outcome → Type 0
ComesTo (Contract workers) bytes o = Contracts bytes o
ComesTo Plan bytes o = Plans bytes o
ComesTo Mpo bytes o = Writes bytes o
ComesTo (Overlap workers) bytes o = ComesToOverlap bytes o
ComesTo (Expect workers) bytes o = ComesToExpect bytes o
ComesTo (Gen seed workers) bytes o = Generates seed o

-- the most multiplications of the job, where its document is well formed
abbrev pub Costs : Job → List ℕ → ℕ → Type 0
Costs (Contract workers) bytes n = (net : NetworkValue) × IsNetworkIn bytes net × (first_wide net ≡ None) × (n ≡ cost_of_plan net)
Costs Plan bytes n = ⊥
Costs Mpo bytes n = (v : SumValue) × IsSumIn bytes v × HasNone (IsWideAt v) × (n ≡ made_of v)
Costs (Overlap workers) bytes n = SaysSuch (SaysStates bytes) (IsOverlapCost n)
Costs (Expect workers) bytes n = SaysSuchSum (SaysStatesAndSum bytes) (IsExpectCost n)
Costs (Gen seed workers) bytes n = SaysSuchSum (IsGenerated seed) (IsExpectCost n)

-- how many multiplications were done: none, or where the document is well formed at most its cost
unfoldable pub Multiplies : Job → List ℕ → ℕ → ℕ → Type 0
Multiplies job bytes before now = (now ≡ before) ⊎ ((n : ℕ) × Costs job bytes n × (now ≤ before + n))
