-- All networks of one expectation agree on what a correlator says of them.
use Rattle.std.proofs.Common.{◌≡◌, ℕ, suc, false, Option, None, List, [], ◌∷◌, map, refl, ◌∙◌, subst}
use Rattle.qn_gauss.specs.Gaussian.{Gaussian}
use Rattle.qn_charge.specs.declared.factor.Factor.{Factor}
use Rattle.qn_block.specs.Blocked.{BlockedValue}
use Rattle.qn_net.specs.Groups.{Member}
use Rattle.qn_net.specs.Passing.{StepPlace}
use Rattle.qn_net.specs.NetworkValues.{NetworkValue, member_of, passing_place}
use Rattle.qn_plan.specs.Planned.{StepValue, first_wide}
use Rattle.qn_braket.specs.Chains.{IsExpectNetwork}
use Rattle.qn_mps.specs.SameNetworks.{IsSameNetwork, SameExpectLaw}
use Rattle.qn_engine.specs.Parts.{PartValue}
use Rattle.qn_replace.specs.Replaced.{AreReplaced, IsReplaced, StaysSo, ReplacedLaw}
use Rattle.qn_corr.specs.Correlators.{CorrValue, IsNetworkOf, IsClear, IsKept}

all_stay : (n : ℕ) (ms : List Member) → AreReplaced (λ k. false) n ms ms
all_stay n [] = tt
all_stay n (m ∷ ms) = (refl, refl, refl, refl, (λ _. refl), all_stay (suc n) ms)

same_replaced : (m n : NetworkValue) → IsSameNetwork m n → IsReplaced (λ k. false) m n
same_replaced m n h = record {
  group = h.group;
  order = h.order;
  twists = h.twists;
  legs = h.legs;
  members = subst (AreReplaced (λ k. false) 1 (map member_of m.members)) h.members (all_stay 1 (map member_of m.members));
}

pub record Agree (m n : NetworkValue) : Type 0 where
  pub wide : first_wide m ≡ first_wide n
  pub passing : passing_place m ≡ passing_place n

pub agree : SameExpectLaw → ReplacedLaw → (fs : List Factor) (bra op ket : List BlockedValue) (m n : NetworkValue) → IsExpectNetwork fs bra op ket m → IsExpectNetwork fs bra op ket n → Agree m n
agree same replaced fs bra op ket m n x y =
    let h : IsSameNetwork m n = same fs bra op ket m n x y in
    let s : StaysSo (λ k. false) m n = replaced (λ k. false) m n (same_replaced m n h) in
    record { wide = s.width; passing = h.passing }

-- what one network of an expectation says, all of them say
module _ (same : SameExpectLaw) (replaced : ReplacedLaw) (c : CorrValue) (net : NetworkValue) (x : IsNetworkOf c net) where
  agrees : (m : NetworkValue) → IsNetworkOf c m → Agree m net
  agrees m y = agree same replaced c.bra.group c.bra.tensors c.op.tensors c.ket.tensors m net y x

  pub wide_in : (o : Option ℕ) → first_wide net ≡ o → (m : NetworkValue) → IsNetworkOf c m → first_wide m ≡ o
  wide_in o e m y = (agrees m y).wide ∙ e

  pub passing_in : (o : Option StepPlace) → passing_place net ≡ o → (m : NetworkValue) → IsNetworkOf c m → passing_place m ≡ o
  passing_in o e m y = (agrees m y).passing ∙ e

  pub clear_in : first_wide net ≡ None → passing_place net ≡ None → IsClear c
  clear_in n p m y = (wide_in None n m y, passing_in None p m y)

-- no step of an expectation that is kept is too wide, and none passes
pub clear_kept : SameExpectLaw → ReplacedLaw → (c : CorrValue) (plan : List StepValue) (kept : List PartValue) (v : Gaussian) → IsKept c plan kept v → IsClear c
clear_kept same replaced c plan kept v k = clear_in same replaced c k.net k.network k.narrow k.clear
