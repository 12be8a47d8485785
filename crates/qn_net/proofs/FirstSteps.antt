-- The first steps of a network.
use Rattle.std.proofs.Common.{List, [], ◌∷◌, ◌++◌, subst, map}
use Rattle.qn_value.specs.Networks.{End, Parities}
use Rattle.qn_net.specs.Steps.{Step, State, after}
use Rattle.qn_net.specs.Carried.{IsSoundState, AllSound}
use Rattle.qn_net.specs.NetworkValues.{parities, sectors, opens, begin, member_of}
use Rattle.qn_net.specs.FirstSteps.{FirstStepsLaw}
use Rattle.qn_net.proofs.PassingLemmas.{start_keep, admissible_same}
use Rattle.qn_net.proofs.NetworkLemmas.{members_conserve, network_value}

sound_first : (par : Parities) (os : List End) (ts us : List Step) (s : State) → AllSound par os (ts ++ us) s → AllSound par os ts s
sound_first par os [] us s k = of_state us k
  where
    of_state : (us : List Step) → AllSound par os us s → IsSoundState par os s
    of_state [] k = k
    of_state (u ∷ us) k = k.0
sound_first par os (t ∷ ts) us s k = (k.0, k.1, sound_first par os ts us (after par t) k.2)

pub first_steps : FirstStepsLaw
first_steps net ts us w whole =
    admissible_same net.group w.group (sectors net) (parities net) (opens net) 1 ts (begin net)
    (sound_first (parities net) (opens net) ts us (begin net) (subst (λ all. AllSound (parities net) (opens net) all (begin net)) whole (network_value net w).0))
    (start_keep net.group w.group (sectors net) 1 (map member_of net.members) (members_conserve net w))
