-- How far the steps of an expectation have come, and the tensors of the sites before one that are kept. Sites are numbered from 0 here.
-- NCON, arXiv:1402.0939; Fishman, White and Stoudenmire 2022.
use Rattle.std.specs.Prelude.{◌≡◌, ℕ, suc, ◌+◌, ◌-◌, ◌*◌, List, [], ◌∷◌, ◌++◌, take, drop, slice_index_or}
use Rattle.qn_net.specs.Groups.{TensorGroup}
use Rattle.qn_net.specs.NetworkValues.{NetworkValue, IsWellFormed, sectors, begin, steps}
use Rattle.qn_plan.specs.Planned.{StepValue}
use Rattle.qn_plan.specs.Reached.{state_after}
use Rattle.qn_engine.specs.Parts.{PartValue, IsPartOf}
use Rattle.qn_engine.specs.Carrying.{IsCarried, IsOnWay}
use Rattle.qn_sweep.specs.LeftToRight.{steps_before, HoldsSites, IsLeftToRight}

-- the steps before site j are taken, on a network whose plan goes from left to right
pub record IsSweepAt (net : NetworkValue) (plan : List StepValue) (n j : ℕ) (parts : List PartValue) : Type 0 where
  pub formed : IsWellFormed net
  pub sweep : IsLeftToRight net n
  pub way : IsOnWay net plan [] (steps_before j) parts

-- the part is the tensor of all sites before j
abbrev pub IsEnvironment : NetworkValue → ℕ → ℕ → PartValue → Type 0
IsEnvironment net n j p =
    (g : TensorGroup) × HoldsSites n j (begin net).groups (state_after net (take (steps_before j) (steps net))).groups g × IsPartOf net.group (sectors net) p g

-- the parts before the first step, with this one in the place of those of all sites before j
abbrev pub with_environment : ℕ → ℕ → List PartValue → PartValue → List PartValue
with_environment n j ps p = take (n - j) ps ++ (p ∷ (take (n - j) (drop (n + j) ps) ++ drop (2 * n + j) ps))

-- the parts are such, of tensors that were kept
pub record IsResumed (net : NetworkValue) (kept : List PartValue) (n j : ℕ) (parts : List PartValue) : Type 0 where
  pub begins : List PartValue
  pub part : PartValue
  pub carried : IsCarried net 0 begins
  pub was_kept : part ≡ slice_index_or kept (j - 1) part
  pub parts_are : parts ≡ with_environment n j begins part

-- the parts are those of the sites before j, before the next site, and so on
abbrev pub AreEnvironments : NetworkValue → ℕ → ℕ → List PartValue → Type 0
AreEnvironments net n j [] = Unit {0}
AreEnvironments net n j (p ∷ ps) = IsEnvironment net n j p × AreEnvironments net n (suc j) ps
