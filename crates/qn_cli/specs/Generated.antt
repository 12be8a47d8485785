-- What the generated workload comes to: the expectation of its sum between its states, as a summary.
use Rattle.std.specs.Prelude.{◌≡◌, ℕ, List, length}
use Rattle.qn_net.specs.NetworkValues.{NetworkValue, steps}
use Rattle.qn_plan.specs.Planned.{cost_of_plan}
use Rattle.qn_opsum.specs.Sums.{SumValue}
use Rattle.qn_texts.specs.SummaryTexts.{summary_text}
use Rattle.qn_gen.specs.Workload.{generated_sum, generated_bra, generated_ket}
use Rattle.qn_cli.specs.Outcomes.{Outcome}
use Rattle.qn_cli.specs.Brakets.{BraketValue, pair_of, expectation_of, Expects}

-- the states of this seed
abbrev pub generated_states : ℕ → BraketValue
generated_states seed = pair_of (generated_bra seed) (generated_ket seed)

-- the line that sums up an expectation: the number of sites, its value, the number of steps of its network and what they cost
abbrev pub text_for : BraketValue → SumValue → NetworkValue → List ℕ
text_for b v net = summary_text (record { sites = length b.sites; scalar = expectation_of b v; steps = length (steps net); cost = cost_of_plan net })

-- the states and the sum are those of the seed
abbrev pub IsGenerated : ℕ → BraketValue → SumValue → Type 0
IsGenerated seed b v = (b ≡ generated_states seed) × (v ≡ generated_sum seed)

-- the summary of the workload of this seed, or its first fault, or its first passing place; it has no fault but F27
abbrev pub Generates : ℕ → Outcome → Type 0
Generates seed o = Expects (λ f. ⊥) (IsGenerated seed) text_for o
