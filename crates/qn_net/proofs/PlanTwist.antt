-- Steps over twisted lines, and networks of lists and records.
use Rattle.std.proofs.Common.{◌≡◌, Bool, ◌&&◌, List, [], ◌∷◌, ◌++◌, refl, sym, ◌∙◌, ap, subst, int_eq, append_assoc}
use Rattle.qn_sign.specs.Sign.{IsDistinct, Perm}
use Rattle.qn_value.specs.Networks.{End, Node, Bond, same_end, word, pairs_of, labels, odd_flux, IsNetwork, Parities}
use Rattle.qn_net.specs.Groups.{TensorGroup, nodes}
use Rattle.qn_net.specs.Steps.{State, Step, after, carry, IsStepAt}
use Rattle.qn_net.specs.Carried.{IsSoundState, AllSound}
use Rattle.qn_net.specs.TwistedSteps.{IsTwistedBefore}
use Rattle.qn_net.specs.Steps.Step.{pair, trace}
use Rattle.qn_net.specs.Parts.{AreMadeAsParts}
use Rattle.qn_sign.proofs.Order.{distinct-perm, distinct_first, distinct_second}
use Rattle.qn_value.proofs.Sums.{label_test, perm-map}
use Rattle.qn_value.proofs.NetLaws.{end_test, word-append, labels_distinct}
use Rattle.qn_net.proofs.PlanSteps.{signed_node}
use Rattle.qn_value.proofs.TwistLemmas.{twist_pair_law, twist_second_law, twist_trace_law}
use Rattle.std.proofs.lemmas.List.{map-append}

-- the legs of one of the groups are distinct
pub ends_distinct : (before : List TensorGroup) (g : TensorGroup) (behind : List TensorGroup) → IsDistinct same_end (word (nodes (before ++ (g ∷ behind)))) → IsDistinct same_end g.node.ends
ends_distinct before g behind d =
    distinct_first same_end g.node.ends (word (nodes behind))
    (distinct_second same_end (word (nodes before)) (g.node.ends ++ word (nodes behind))
    (subst (IsDistinct same_end) (ap word (map-append (λ x. x.node) before (g ∷ behind)) ∙ word-append (nodes before) (g.node ∷ nodes behind)) d))

labels-append : (bs cs : List Bond) → labels (bs ++ cs) ≡ labels bs ++ labels cs
labels-append bs cs = map-append (λ b. b.label) bs cs

-- the labels of a step are distinct
pub bonds_distinct : (ns : List Node) (all bonds left : List Bond) (opens : List End) → IsNetwork ns all opens → Perm all (bonds ++ left) → IsDistinct int_eq (labels bonds)
bonds_distinct ns all bonds left opens net p =
    distinct_first int_eq (labels bonds) (labels left)
    (subst (IsDistinct int_eq) (labels-append bonds left)
    (distinct-perm int_eq label_test (perm-map (λ b. b.label) p)
    (labels_distinct all (distinct_first same_end (pairs_of all) opens (distinct-perm same_end end_test net.complete net.distinct)))))

pub untwisted : (par : Parities) (opens : List End) (s : State) (t : Step) → IsSoundState par opens s → IsStepAt s t → IsTwistedBefore par t
untwisted par opens s (pair before g between h behind bonds left) k at =
    let d : IsDistinct same_end (word (nodes (before ++ (g ∷ (between ++ (h ∷ behind)))))) = subst (λ gs. IsDistinct same_end (word (nodes gs))) at.0 k.network.distinct in
    let dg : IsDistinct same_end g.node.ends = ends_distinct before g (between ++ (h ∷ behind)) d in
    let dh : IsDistinct same_end h.node.ends =
    ends_distinct (before ++ (g ∷ between)) h behind (subst (λ gs. IsDistinct same_end (word (nodes gs))) (sym (append_assoc before (g ∷ between) (h ∷ behind))) d) in
    let db : IsDistinct int_eq (labels bonds) = bonds_distinct (nodes s.groups) s.left bonds left opens k.network at.1 in
    (ap (signed_node past) (twist_pair_law par g.node h.node bonds dg db at.3), ap (signed_node past) (twist_second_law par g.node h.node bonds dh db at.4))
  where
    past : Bool
    past = odd_flux (nodes between) && h.node.odd
untwisted par opens s (trace before g behind bonds left) k at =
    let d : IsDistinct same_end (word (nodes (before ++ (g ∷ behind)))) = subst (λ gs. IsDistinct same_end (word (nodes gs))) at.0 k.network.distinct in
    twist_trace_law par g.node bonds (ends_distinct before g behind d) (bonds_distinct (nodes s.groups) s.left bonds left opens k.network at.1) at.2

-- after some of the steps
pub steps_sound : (par : Parities) (opens : List End) (ts us : List Step) (s : State) → AllSound par opens (ts ++ us) s → AllSound par opens us (carry par ts s)
steps_sound par opens [] us s k = k
steps_sound par opens (t ∷ ts) us s k = steps_sound par opens ts us (after par t) k.2

pub steps_carry : (par : Parities) (ts us : List Step) (s : State) → carry par (ts ++ us) s ≡ carry par us (carry par ts s)
steps_carry par [] us s = refl
steps_carry par (t ∷ ts) us s = steps_carry par ts us (after par t)

-- a sound state has the parts
pub parts_of : (par : Parities) (opens : List End) (us : List Step) (s : State) → AllSound par opens us s → AreMadeAsParts par s.groups
parts_of par opens [] s k = k.parts
parts_of par opens (t ∷ us) s k = k.0.parts
