-- The network of an expectation where tensors of one site are replaced by others with the same legs and fluxes. Sites are numbered from 0 here.
-- Fishman, White and Stoudenmire 2022.
use Rattle.std.specs.Prelude.{◌≡◌, ◌≢◌, ◌<◌, ◌≤◌, ℕ, None, List, length, take}
use Rattle.qn_charge.specs.declared.factor.Factor.{Factor}
use Rattle.qn_block.specs.Blocked.{BlockedValue}
use Rattle.qn_net.specs.Groups.{TensorGroup}
use Rattle.qn_net.specs.NetworkValues.{NetworkValue, IsWellFormed, parities, sectors, begin, steps, passing_place}
use Rattle.qn_net.specs.Passing.{first_admissible_step}
use Rattle.qn_plan.specs.Planned.{planned, first_wide}
use Rattle.qn_plan.specs.Reached.{state_after}
use Rattle.qn_braket.specs.Chains.{tensor_at, IsExpectNetwork}
use Rattle.qn_replace.specs.Replaced.{IsReplaced}
use Rattle.qn_sweep.specs.LeftToRight.{of_site, steps_before, HoldsSites, rest_cost}

-- the tensors are the same but for the one of site j, whose legs and flux stay
pub record IsPut (j : ℕ) (old new : List BlockedValue) : Type 0 where
  pub count : length new ≡ length old
  pub group : (i : ℕ) → (tensor_at old i).group ≡ (tensor_at new i).group
  pub legs : (i : ℕ) → (tensor_at old i).legs ≡ (tensor_at new i).legs
  pub flux : (i : ℕ) → (tensor_at old i).flux ≡ (tensor_at new i).flux
  pub others : (i : ℕ) → i ≢ j → tensor_at old i ≡ tensor_at new i

-- two networks of expectations whose chains differ at most on site j differ at most in the tensors of this site
abbrev pub PutLaw : Type 0
PutLaw =
    (fs : List Factor) (bra op ket bra' ket' : List BlockedValue) (j : ℕ) (old new : NetworkValue) → IsExpectNetwork fs bra op ket old → IsExpectNetwork fs bra' op ket' new →
    length op ≡ length bra → length ket ≡ length bra → j < length bra → IsPut j bra bra' → IsPut j ket ket' → IsReplaced (of_site (length bra) j) old new

-- what stays where the tensors of site j are replaced: the plan, the first step that is too wide, what the steps from the first that touches the site on cost;
-- before these steps the groups of the sites before it or an earlier one, which are in their places; and no step passes before them if none did
pub record StaysBefore (n j : ℕ) (old new : NetworkValue) : Type 0 where
  pub group : old.group ≡ new.group
  pub lines : sectors old ≡ sectors new
  pub plan : planned old ≡ planned new
  pub width : first_wide old ≡ first_wide new
  pub rest : rest_cost old n j ≡ rest_cost new n j
  pub held : (i : ℕ) → 0 < i → i ≤ j → (g : TensorGroup) × HoldsSites n i (begin old).groups (state_after old (take (steps_before i) (steps old))).groups g
      × HoldsSites n i (begin new).groups (state_after new (take (steps_before i) (steps new))).groups g
  pub passing : passing_place old ≡ None → first_admissible_step (parities new) new.group (sectors new) 1 (take (steps_before j) (steps new)) ≡ None

abbrev pub StaysBeforeLaw : Type 0
StaysBeforeLaw =
    (fs : List Factor) (bra op ket bra' ket' : List BlockedValue) (j : ℕ) (old new : NetworkValue) → IsWellFormed old → IsWellFormed new →
    IsExpectNetwork fs bra op ket old → IsExpectNetwork fs bra' op ket' new → length bra ≤ 64 → length op ≡ length bra → length ket ≡ length bra → j < length bra → IsPut j bra bra' → IsPut j ket ket' →
    StaysBefore (length bra) j old new
