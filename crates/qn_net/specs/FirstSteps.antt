-- The first steps of a network, and where they pass.
use Rattle.std.specs.Prelude.{◌≡◌, List, ◌++◌}
use Rattle.qn_net.specs.Steps.{Step}
use Rattle.qn_net.specs.Passing.{first_passing_step, first_admissible_step, made}
use Rattle.qn_net.specs.NetworkValues.{NetworkValue, IsWellFormed, parities, sectors, steps}

-- the first passing place of the first steps of a network is found over the admissible tuples of their results
abbrev pub FirstStepsLaw : Type 0
FirstStepsLaw =
    (net : NetworkValue) (ts us : List Step) → IsWellFormed net → steps net ≡ ts ++ us →
    first_passing_step (parities net) (sectors net) made 1 ts ≡ first_admissible_step (parities net) net.group (sectors net) 1 ts
