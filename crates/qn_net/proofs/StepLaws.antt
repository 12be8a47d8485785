-- The steps of a plan on tensors.
use Rattle.std.proofs.Common.{◌≡◌, ℕ, ℤ, true, false, ◌&&◌, not, List, [], ◌∷◌, ◌++◌, sym, ◌∙◌, ap, ap₂, subst, map, filter, length, append-nil, int_eq}
use mathlib.Core.Path.{fun_ext}
use Rattle.qn_sign.specs.Sign.{is_in}
use Rattle.qn_gauss.specs.Gaussian.{signed}
use Rattle.qn_charge.specs.declared.factor.Factor.{Factor}
use Rattle.qn_charge.specs.Charges.{IsGroup, sum_charge, parity}
use Rattle.qn_index.specs.Legs.{SectorValue, LegValue}
use Rattle.qn_index.specs.Tuples.{admitted}
use Rattle.qn_value.specs.Networks.{End, Node, Bond, Parities, kept, odd_flux, IsNetwork}
use Rattle.qn_value.specs.Twists.{untwist}
use Rattle.qn_value.specs.Tensors.{TensorValue}
use Rattle.qn_value.specs.Fluxes.{sum_flux}
use Rattle.qn_value.proofs.TwistLemmas.{labels-untwist}
use Rattle.qn_value.specs.Labels.{Placed, value_of}
use Rattle.qn_value.specs.Blocks.{legs_on}
use Rattle.qn_value.specs.Local.{coupled, pair_network, open_legs, shared_couples, IsCoupling}
use Rattle.qn_value.specs.Magnitudes.{first_passing, pair_magnitude, trace_magnitude}
use Rattle.qn_net.specs.Groups.{Listed, TensorGroup, nodes, flux_of}
use Rattle.qn_net.specs.Steps.{State, Step, result, IsStepAt}
use Rattle.qn_net.specs.Steps.Step.{pair, trace}
use Rattle.qn_net.specs.Carried.{IsSoundState}
use Rattle.qn_net.specs.Passing.{result_magnitude, result_legs, made}
use Rattle.qn_net.specs.TwistedSteps.{twisted_where, twisted_inward, plain_step, found_by, IsLikeStep}
use Rattle.qn_net.specs.Operations.{AreLines, AreCouplesOf, ArePairsOf, IsNodeOf, IsTensorOf, IsPairMade, IsTraceMade, labels_left, parities_on, PairStepLaw, TraceStepLaw, LinesLaw}
use Rattle.qn_net.proofs.PlainSteps.{plain_step_law, plain_lines}
use Rattle.qn_net.proofs.PassingLemmas.{local_pair, local_trace, one_flux, two_fluxes}
use Rattle.qn_net.proofs.Held.{AreNodesOf}
use Rattle.qn_net.proofs.CoupledNodes.{open_legs_are}
use Rattle.qn_net.proofs.StepTensors.{passing_same, tuples_admitted, magnitude_same, node_made, lines_perm, lines_first, lines_second, two_coupling, two_coupled, one_coupling, one_coupled, odd_one, odd_two}

pub lines_law : LinesLaw
lines_law tw sectors par s (pair before g between h behind bonds left) h' at = lines_second tw sectors bonds left (lines_perm tw sectors at.1 h')
lines_law tw sectors par s (trace before g behind bonds left) h at = lines_second tw sectors bonds left (lines_perm tw sectors at.1 h)

-- a pair step over lines that are not twisted
pair_plain : (fs : List Factor) (sectors : ℤ → List SectorValue) (opens : List End) (s : State)
    (before : List TensorGroup) (g : TensorGroup) (between : List TensorGroup) (h : TensorGroup) (behind : List TensorGroup) (bonds left : List Bond) (p q : Placed) (shared : List (ℕ × ℕ)) →
    IsSoundState (parities_on fs sectors) opens s → IsStepAt s (pair before g between h behind bonds left) → AreLines sectors s.left → IsTensorOf fs sectors p g → IsTensorOf fs sectors q h →
    ArePairsOf p.labels q.labels bonds shared → IsPairMade fs sectors (pair before g between h behind bonds left) bonds (odd_flux (nodes between)) p q shared
pair_plain fs sectors opens s before g between h behind bonds left p q shared sound at lines hp hq named =
    let par : Parities = parities_on fs sectors in
    let ns : List Node = g.node ∷ h.node ∷ [] in
    let ps : List Placed = p ∷ q ∷ [] in
    let cs : List (ℕ × ℕ) = shared_couples p.tensor shared in
    let legs : List LegValue = open_legs (p.tensor ∷ q.tensor ∷ []) cs in
    let group : IsGroup fs = subst IsGroup hp.node.group hp.node.tensor.group in
    let net : IsNetwork ns bonds (kept ns bonds) =
    local_pair par opens before g between h behind s.left bonds left (subst (λ gs. IsNetwork (nodes gs) s.left opens) at.0 sound.network) at.1 at.2 in
    let plain : AreLines sectors bonds = lines_first [] sectors bonds left (lines_perm [] sectors at.1 lines) in
    let good : IsCoupling (p.tensor.legs ++ (q.tensor.legs ++ [])) cs = two_coupling fs sectors p q g.node h.node hp.node hq.node bonds shared named net in
    let by = two_coupled fs sectors p q g.node h.node hp.node hq.node bonds shared named net in
    let held : AreNodesOf fs sectors (p ∷ q ∷ []) (g.node ∷ h.node ∷ []) = (hp.node, (hq.node, tt)) in
    let legs_are : legs ≡ legs_on sectors (kept ns bonds) = open_legs_are fs sectors ps ns held cs bonds net plain good by in
    let flux : sum_charge fs p.tensor.flux q.tensor.flux ≡ flux_of fs (result par (pair before g between h behind bonds left)) =
    ap₂ (sum_charge fs) hp.flux (hq.flux ∙ sym (one_flux fs group sectors h.members)) ∙ two_fluxes fs group sectors g.members h.members in
    let size : (xs : List ℕ) → length xs ≡ length legs → pair_magnitude p.tensor q.tensor shared xs ≡ result_magnitude par made (pair before g between h behind bonds left) xs =
    magnitude_same fs sectors ps ns held cs bonds net plain good by in (
      good,
      (λ r tensor made_so. record {
        node =
            subst (λ ls. IsNodeOf fs sectors (record { tensor = r; labels = labels_left (p.labels ++ ls) bonds }) (result par (pair before g between h behind bonds left)).node) (append-nil q.labels)
            (node_made fs sectors ps ns held cs bonds net plain good by r (odd_flux (nodes between) && h.node.odd) (made_so.group ∙ hp.node.group) tensor made_so.legs
            (ap (parity fs) (made_so.flux ∙ ap (λ gs. sum_charge gs p.tensor.flux q.tensor.flux) hp.node.group) ∙ odd_two fs sectors p q g.node h.node hp.node hq.node)
            (λ xs v. made_so.entries xs v
            ∙ ap₂ (λ gs b. signed (odd_flux (nodes between) && b) (value_of gs (pair_network p.tensor q.tensor shared) [] (length xs) xs)) hp.node.group
            (ap (λ gs. parity gs q.tensor.flux) hq.node.group ∙ hq.node.odd)));
        flux = made_so.flux ∙ ap (λ gs. sum_charge gs p.tensor.flux q.tensor.flux) hp.node.group ∙ flux;
      }),
      legs_are,
      flux,
      passing_same (pair_magnitude p.tensor q.tensor shared) (result_magnitude par made (pair before g between h behind bonds left)) legs (admitted fs legs (sum_charge fs p.tensor.flux q.tensor.flux))
          (tuples_admitted fs legs (sum_charge fs p.tensor.flux q.tensor.flux)) size
          ∙ ap₂ (λ ls c. first_passing (result_magnitude par made (pair before g between h behind bonds left)) ls (admitted fs ls c)) legs_are flux,
    )

-- a trace step over lines that are not twisted
trace_plain : (fs : List Factor) (sectors : ℤ → List SectorValue) (opens : List End) (s : State)
    (before : List TensorGroup) (g : TensorGroup) (behind : List TensorGroup) (bonds left : List Bond) (p : Placed) (couples : List (ℕ × ℕ)) →
    IsSoundState (parities_on fs sectors) opens s → IsStepAt s (trace before g behind bonds left) → AreLines sectors s.left → IsTensorOf fs sectors p g →
    AreCouplesOf p.labels bonds couples → IsTraceMade fs sectors (trace before g behind bonds left) bonds p couples
trace_plain fs sectors opens s before g behind bonds left p cs sound at lines hp named =
    let par : Parities = parities_on fs sectors in
    let ns : List Node = g.node ∷ [] in
    let ps : List Placed = p ∷ [] in
    let legs : List LegValue = open_legs (p.tensor ∷ []) cs in
    let group : IsGroup fs = subst IsGroup hp.node.group hp.node.tensor.group in
    let net : IsNetwork ns bonds (kept ns bonds) =
    local_trace opens before g behind s.left bonds left (subst (λ gs. IsNetwork (nodes gs) s.left opens) at.0 sound.network) at.1 at.2 in
    let plain : AreLines sectors bonds = lines_first [] sectors bonds left (lines_perm [] sectors at.1 lines) in
    let good : IsCoupling (p.tensor.legs ++ []) cs = one_coupling fs sectors p g.node hp.node bonds cs named net in
    let by = one_coupled fs sectors p g.node hp.node bonds cs named net in
    let held : AreNodesOf fs sectors (p ∷ []) (g.node ∷ []) = (hp.node, tt) in
    let legs_are : legs ≡ legs_on sectors (kept ns bonds) = open_legs_are fs sectors ps ns held cs bonds net plain good by in
    let size : (xs : List ℕ) → length xs ≡ length legs → trace_magnitude p.tensor cs xs ≡ result_magnitude par made (trace before g behind bonds left) xs =
    magnitude_same fs sectors ps ns held cs bonds net plain good by in (
      subst (λ gs. IsCoupling gs cs) (append-nil p.tensor.legs) good,
      (λ r tensor made_so. record {
        node =
            subst (λ ls. IsNodeOf fs sectors (record { tensor = r; labels = labels_left ls bonds }) (result par (trace before g behind bonds left)).node) (append-nil p.labels)
            (node_made fs sectors ps ns held cs bonds net plain good by r false (made_so.group ∙ hp.node.group) tensor made_so.legs
            (ap (parity fs) made_so.flux ∙ odd_one fs sectors p g.node hp.node)
            (λ xs v. made_so.entries xs v ∙ ap (λ gs. value_of gs (coupled (p.tensor ∷ []) cs) [] (length xs) xs) hp.node.group));
        flux = made_so.flux ∙ hp.flux;
      }),
      legs_are,
      hp.flux,
      passing_same (trace_magnitude p.tensor cs) (result_magnitude par made (trace before g behind bonds left)) legs (admitted fs legs p.tensor.flux) (tuples_admitted fs legs p.tensor.flux) size
          ∙ ap₂ (λ ls c. first_passing (result_magnitude par made (trace before g behind bonds left)) ls (admitted fs ls c)) legs_are hp.flux,
    )

-- from a like step

pub moved_to : (fs : List Factor) (sectors : ℤ → List SectorValue) (opens : List End) (t u : Step) (bonds : List Bond) (r : TensorValue) (ls : List ℤ) → IsLikeStep (parities_on fs sectors) opens t u →
    IsTensorOf fs sectors (record { tensor = r; labels = labels_left ls (map untwist bonds) }) (result (parities_on fs sectors) u) →
    IsTensorOf fs sectors (record { tensor = r; labels = labels_left ls bonds }) (result (parities_on fs sectors) t)
moved_to fs sectors opens t u bonds r ls like h = record {
  node =
      subst (IsNodeOf fs sectors (record { tensor = r; labels = labels_left ls bonds })) like.node
      (subst (λ ks. IsNodeOf fs sectors (record { tensor = r; labels = filter (λ l. not (is_in int_eq l ks)) ls }) (result (parities_on fs sectors) u).node) (labels-untwist bonds) h.node);
  flux = h.flux ∙ ap (λ (ms : List Listed). sum_flux fs (map (λ m. m.flux) ms)) like.members;
}

place_like : (fs : List Factor) (sectors : ℤ → List SectorValue) (opens : List End) (t u : Step) → IsLikeStep (parities_on fs sectors) opens t u →
    first_passing (result_magnitude (parities_on fs sectors) made u) (result_legs (parities_on fs sectors) sectors u) (admitted fs (result_legs (parities_on fs sectors) sectors u) (flux_of fs (result (parities_on fs sectors) u))) ≡
    first_passing (result_magnitude (parities_on fs sectors) made t) (result_legs (parities_on fs sectors) sectors t) (admitted fs (result_legs (parities_on fs sectors) sectors t) (flux_of fs (result (parities_on fs sectors) t)))
place_like fs sectors opens t u like =
    ap (λ f. first_passing f (result_legs (parities_on fs sectors) sectors u) (admitted fs (result_legs (parities_on fs sectors) sectors u) (flux_of fs (result (parities_on fs sectors) u)))) (fun_ext like.magnitude)
    ∙ ap₂ (λ (n : Node) (ms : List Listed). first_passing (result_magnitude (parities_on fs sectors) made t) (legs_on sectors n.ends) (admitted fs (legs_on sectors n.ends) (sum_flux fs (map (λ m. m.flux) ms)))) like.node like.members

pub pair_step : PairStepLaw
pair_step fs sectors opens s before g between h behind bonds left tw earlier p q shared sound at lines hp hq named =
    let par : Parities = parities_on fs sectors in
    let t : Step = pair before g between h behind bonds left in
    let u : Step = plain_step par earlier t in
    let like : IsLikeStep par opens t u = plain_step_law par opens s t earlier sound at in
    let m : IsPairMade fs sectors u (map untwist bonds) (odd_flux (nodes between)) p q shared =
    pair_plain fs sectors opens (found_by u) before (twisted_where earlier par bonds g) between (twisted_where (not earlier) par bonds h) behind (map untwist bonds) (map untwist left) p q shared
    like.sound like.step (plain_lines tw sectors bonds left (lines_perm tw sectors at.1 lines)) hp hq
    (record { first = named.first ∙ sym (labels-untwist bonds); second = named.second ∙ sym (labels-untwist bonds); within = named.within }) in (
      m.0,
      (λ r ok w. moved_to fs sectors opens t u bonds r (p.labels ++ q.labels) like (m.1 r ok w)),
      m.2 ∙ ap (λ (n : Node). legs_on sectors n.ends) like.node,
      m.3 ∙ ap (λ (ms : List Listed). sum_flux fs (map (λ m. m.flux) ms)) like.members,
      m.4 ∙ place_like fs sectors opens t u like,
    )

pub trace_step : TraceStepLaw
trace_step fs sectors opens s before g behind bonds left tw p couples sound at lines hp named =
    let par : Parities = parities_on fs sectors in
    let t : Step = trace before g behind bonds left in
    let u : Step = plain_step par true t in
    let like : IsLikeStep par opens t u = plain_step_law par opens s t true sound at in
    let m : IsTraceMade fs sectors u (map untwist bonds) p couples =
    trace_plain fs sectors opens (found_by u) before (twisted_inward par bonds g) behind (map untwist bonds) (map untwist left) p couples
    like.sound like.step (plain_lines tw sectors bonds left (lines_perm tw sectors at.1 lines)) hp
    (record { first = named.first ∙ sym (labels-untwist bonds); second = named.second ∙ sym (labels-untwist bonds); within = named.within }) in (
      m.0,
      (λ r ok w. moved_to fs sectors opens t u bonds r p.labels like (m.1 r ok w)),
      m.2 ∙ ap (λ (n : Node). legs_on sectors n.ends) like.node,
      m.3 ∙ ap (λ (ms : List Listed). sum_flux fs (map (λ m. m.flux) ms)) like.members,
      m.4 ∙ place_like fs sectors opens t u like,
    )
