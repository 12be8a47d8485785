-- Steps over twisted lines: a tensor is twisted before the step, which then sums lines that are not.
use Rattle.std.specs.Prelude.{◌≡◌, ℕ, Bool, true, false, ◌&&◌, not, List, ◌∷◌, ◌++◌, map}
use Rattle.std.specs.Ordering.{int_eq}
use Rattle.qn_sign.specs.Sign.{is_in, IsDistinct}
use Rattle.qn_gauss.specs.Gaussian.{signed}
use Rattle.qn_value.specs.Networks.{End, Node, Bond, Parities, same_end, labels, pairwise, traced, odd_flux, IsHomogeneous}
use Rattle.qn_value.specs.Twists.{twisted_at, is_twisted, untwist, HasOneEnd}
use Rattle.qn_net.specs.Groups.{TensorGroup, nodes, pairwise_past, joined, closed}
use Rattle.qn_net.specs.Steps.{Step, State, result, IsStepAt}
use Rattle.qn_net.specs.Steps.Step.{pair, trace}
use Rattle.qn_net.specs.Carried.{IsSoundState}
use Rattle.qn_net.specs.Passing.{result_magnitude, made}

-- the group, its tensor twisted at the ends that pass the test
abbrev pub twisted_group : Parities → (End → Bool) → TensorGroup → TensorGroup
twisted_group par test g = record { number = g.number; node = twisted_at par test g.node; members = g.members; summed = g.summed; role = g.role }

-- before a pair step: the one of its two groups that is to be twisted, at its ends of the twisted lines
abbrev pub twisted_where : Bool → Parities → List Bond → TensorGroup → TensorGroup
twisted_where true par bonds g = twisted_group par (is_twisted bonds) g
twisted_where false par bonds g = g

-- before a trace step: the group, twisted at the inward ends of the twisted lines
abbrev pub twisted_inward : Parities → List Bond → TensorGroup → TensorGroup
twisted_inward par bonds g = twisted_group par (λ e. e.inward && is_twisted bonds e) g

-- what a step makes, from a tensor that was twisted before: of two the earlier one or the later one, at its ends of the twisted lines; of one at the inward ends
abbrev pub IsTwistedBefore : Parities → Step → Type 0
IsTwistedBefore par (pair before g between h behind bonds left) =
    let b : Bool = odd_flux (nodes between) in
    ((joined par b g h bonds).node ≡ pairwise_past par b (twisted_at par (is_twisted bonds) g.node) h.node (map untwist bonds))
    × ((joined par b g h bonds).node ≡ pairwise_past par b g.node (twisted_at par (is_twisted bonds) h.node) (map untwist bonds))
IsTwistedBefore par (trace before g behind bonds left) =
    (closed par g bonds).node ≡ traced par (twisted_at par (λ e. e.inward && is_twisted bonds e) g.node) (map untwist bonds)

-- a twisted line is summed by twisting a tensor first
abbrev pub TwistedStepLaw : Type 0
TwistedStepLaw =
    (par : Parities) (opens : List End) (s : State) (t : Step) → IsSoundState par opens s → IsStepAt s t → IsTwistedBefore par t

-- the step over lines that are not twisted, after the earlier or the later group of two was twisted, or the one of a trace step
abbrev pub plain_step : Parities → Bool → Step → Step
plain_step par earlier (pair before g between h behind bonds left) =
    pair before (twisted_where earlier par bonds g) between (twisted_where (not earlier) par bonds h) behind (map untwist bonds) (map untwist left)
plain_step par earlier (trace before g behind bonds left) = trace before (twisted_inward par bonds g) behind (map untwist bonds) (map untwist left)

-- the groups that a step finds, and all its lines
abbrev pub found_by : Step → State
found_by (pair before g between h behind bonds left) = record { groups = before ++ (g ∷ (between ++ (h ∷ behind))); left = bonds ++ left }
found_by (trace before g behind bonds left) = record { groups = before ++ (g ∷ behind); left = bonds ++ left }

-- the step u makes what t makes: from a sound state it leads to the same tensor, with the same sums of magnitudes
pub record IsLikeStep (par : Parities) (opens : List End) (t u : Step) : Type 0 where
  pub sound : IsSoundState par opens (found_by u)
  pub step : IsStepAt (found_by u) u
  pub node : (result par u).node ≡ (result par t).node
  pub members : (result par u).members ≡ (result par t).members
  pub magnitude : (xs : List ℕ) → result_magnitude par made u xs ≡ result_magnitude par made t xs

-- a step over twisted lines is one over lines that are not, of a state in which a tensor was twisted
abbrev pub PlainStepLaw : Type 0
PlainStepLaw =
    (par : Parities) (opens : List End) (s : State) (t : Step) (earlier : Bool) → IsSoundState par opens s → IsStepAt s t → IsLikeStep par opens t (plain_step par earlier t)

abbrev pub twist : Bond → Bond
twist b = record { label = b.label; dim = b.dim; twisted = true }

-- all lines of a tensor that has no other legs, twisted together, change nothing but by the parity of its flux
abbrev pub AllTwistedLaw : Type 0
AllTwistedLaw =
    (par : Parities) (x y : Node) (shared : List Bond) → IsDistinct same_end x.ends → IsDistinct int_eq (labels shared) → HasOneEnd (λ e. true) x shared →
    ((e : End) → is_in same_end e x.ends ≡ true → is_in int_eq e.label (labels shared) ≡ true) → IsHomogeneous par x → (xs : List ℕ) →
    (pairwise par x y (map twist shared)).entry xs ≡ signed x.odd ((pairwise par x y (map untwist shared)).entry xs)
