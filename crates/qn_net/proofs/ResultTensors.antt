-- A tensor with the legs, the flux and the entries of a step's result is the tensor of the result.
use Rattle.std.proofs.Common.{◌≡◌, ℕ, ℤ, ◌&&◌, List, [], ◌∷◌, ◌++◌, refl, sym, ◌∙◌, ap, ap₂, subst, map, length, append-nil, ◌⊎◌, inl, inr}
use Rattle.std.proofs.lemmas.List.{length-map}
use Rattle.qn_sign.specs.Sign.{IsDistinct}
use Rattle.qn_sign.proofs.Order.{distinct-perm, distinct_second}
use Rattle.qn_gauss.specs.Gaussian.{zero_g, signed}
use Rattle.qn_charge.specs.declared.factor.Factor.{Factor}
use Rattle.qn_charge.specs.Charges.{IsGroup, sum_charge, parity}
use Rattle.qn_index.specs.Legs.{SectorValue, LegValue}
use Rattle.qn_index.specs.Tuples.{net}
use Rattle.qn_index.specs.Places.{IsValues, sectors_at}
use Rattle.qn_value.specs.Networks.{End, Node, Parities, same_end, pairs_of, kept, odd_flux, values, at_values, contract, pairwise, IsNetwork}
use Rattle.qn_value.specs.Tensors.{TensorValue, IsTensor, entry_of}
use Rattle.qn_value.specs.Labels.{Placed, IsPlaced, slots_of, ends}
use Rattle.qn_value.specs.Blocks.{legs_on}
use Rattle.qn_value.specs.Fluxes.{net_at, Conserves, AllConserve, charge_on}
use Rattle.qn_value.proofs.NetLaws.{end_test, signed-zero}
use Rattle.qn_value.proofs.RowsLemmas.{values_back}
use Rattle.qn_value.proofs.BoundsLemmas.{contract_bounded}
use Rattle.qn_value.proofs.FluxLemmas.{flux_law}
use Rattle.qn_value.proofs.PlacedLemmas.{HaveSectorsOn, placed_conserves, net_by_legs}
use Rattle.qn_block.specs.Blocked.{MeetFlux}
use Rattle.qn_net.specs.Groups.{nodes, flux_of}
use Rattle.qn_net.specs.Steps.{result}
use Rattle.qn_net.specs.Steps.Step.{pair}
use Rattle.qn_net.specs.Operations.{parities_on, labels_left, IsNodeOf}
use Rattle.qn_net.specs.Results.{ResultTensorLaw}
use Rattle.qn_net.proofs.PassingLemmas.{local_pair, one_flux, two_fluxes}
use Rattle.qn_net.proofs.Held.{IsBeyond, AreNodesOf, entry_range, range_of, dims, all_bounded, all_labels, labels_kept, node_ends, ends_on, sectors_on_lines}
use Rattle.qn_net.proofs.StepTensors.{odd_two}

-- a tensor of a network conserves charge
node_conserves : (fs : List Factor) (sectors : ℤ → List SectorValue) (p : Placed) (x : Node) → IsNodeOf fs sectors p x → Conserves fs (charge_on sectors) x p.tensor.flux
node_conserves fs sectors p x h a =
    on_node (subst (λ es. (net_at fs (charge_on sectors) es a ≡ p.tensor.flux) ⊎ (entry_of p.tensor (values es a) ≡ zero_g)) (node_ends fs sectors p x h) (placed_conserves fs sectors p placed fit a))
  where
    long : length p.labels ≡ length p.tensor.legs
    long = ap (λ (ls : List ℤ). length ls) h.labels ∙ length-map x.ends _ ∙ sym (length-map x.ends _) ∙ ap (λ (gs : List LegValue). length gs) (sym h.legs)

    placed : IsPlaced fs p
    placed = record { group = h.group; tensor = h.tensor; labels = long }

    fit : HaveSectorsOn sectors (slots_of p.tensor.legs p.labels)
    fit =
        subst (λ gs. HaveSectorsOn sectors (slots_of gs p.labels)) (sym h.legs)
        (subst (λ ls. HaveSectorsOn sectors (slots_of (legs_on sectors x.ends) ls)) (sym h.labels) (sectors_on_lines sectors x.ends))

    on_node : (net_at fs (charge_on sectors) x.ends a ≡ p.tensor.flux) ⊎ (entry_of p.tensor (values x.ends a) ≡ zero_g) →
        (net_at fs (charge_on sectors) x.ends a ≡ p.tensor.flux) ⊎ (x.entry (values x.ends a) ≡ zero_g)
    on_node (inl e) = inl e
    on_node (inr z) = inr (sym (h.entry (values x.ends a) (length-map x.ends a)) ∙ z)

-- a tensor with these legs and a flux, and a function of values that is 0 out of range and off the flux, and agrees with its entries elsewhere
module _ (fs : List Factor) (sectors : ℤ → List SectorValue) (es : List End) (d : IsDistinct same_end es) (r : TensorValue) (tensor : IsTensor r) (group : r.group ≡ fs)
    (legs : r.legs ≡ legs_on sectors es) (n : Node) (here : n.ends ≡ es) (keeps : Conserves fs (charge_on sectors) n r.flux)
    (beyond : (xs : List ℕ) → length xs ≡ length es → IsBeyond sectors es xs → n.entry xs ≡ zero_g)
    (entries : (xs : List ℕ) → MeetFlux fs r.legs r.flux xs → entry_of r xs ≡ n.entry xs) where
  abbrev placed : Placed
  placed = record { tensor = r; labels = map (λ e. e.label) es }

  placed_ends : ends (slots_of r.legs (map (λ (e : End). e.label) es)) ≡ es
  placed_ends = ap (λ gs. ends (slots_of gs (map (λ (e : End). e.label) es))) legs ∙ ends_on sectors es

  fit : HaveSectorsOn sectors (slots_of r.legs (map (λ (e : End). e.label) es))
  fit = subst (λ gs. HaveSectorsOn sectors (slots_of gs (map (λ (e : End). e.label) es))) (sym legs) (sectors_on_lines sectors es)

  many : length (map (λ (e : End). e.label) es) ≡ length r.legs
  many = length-map es _ ∙ sym (length-map es _) ∙ ap (λ (gs : List LegValue). length gs) (sym legs)

  meets : (xs : List ℕ) → length xs ≡ length es → IsValues r.legs xs → net_at fs (charge_on sectors) es (at_values es xs) ≡ r.flux → MeetFlux fs r.legs r.flux xs
  meets xs long v e = record {
    range = v;
    flux =
        ap (λ ys. net fs r.legs (sectors_at r.legs ys)) (sym (values_back es xs d long) ∙ ap (λ fs. values fs (at_values es xs)) (sym placed_ends))
        ∙ sym (net_by_legs fs sectors r.legs (map (λ (e : End). e.label) es) many fit (at_values es xs))
        ∙ ap (λ fs2. net_at fs (charge_on sectors) fs2 (at_values es xs)) placed_ends ∙ e;
  }

  inside : (xs : List ℕ) → length xs ≡ length es → IsValues r.legs xs → entry_of r xs ≡ n.entry xs
  inside xs long v =
      go
      (subst (λ fs2. (net_at fs (charge_on sectors) fs2 (at_values es xs) ≡ r.flux) ⊎ (entry_of r (values fs2 (at_values es xs)) ≡ zero_g)) placed_ends
      (placed_conserves fs sectors placed (record { group = group; tensor = tensor; labels = many }) fit (at_values es xs)))
      (subst (λ fs2. (net_at fs (charge_on sectors) fs2 (at_values es xs) ≡ r.flux) ⊎ (n.entry (values fs2 (at_values es xs)) ≡ zero_g)) here (keeps (at_values es xs)))
    where
      back : values es (at_values es xs) ≡ xs
      back = values_back es xs d long

      go : (net_at fs (charge_on sectors) es (at_values es xs) ≡ r.flux) ⊎ (entry_of r (values es (at_values es xs)) ≡ zero_g) →
          (net_at fs (charge_on sectors) es (at_values es xs) ≡ r.flux) ⊎ (n.entry (values es (at_values es xs)) ≡ zero_g) → entry_of r xs ≡ n.entry xs
      go (inl e) k = entries xs (meets xs long v e)
      go (inr z) (inl e) = entries xs (meets xs long v e)
      go (inr z) (inr w) = ap (entry_of r) (sym back) ∙ z ∙ sym (ap n.entry (sym back) ∙ w)

  same_entries : (xs : List ℕ) → length xs ≡ length es → entry_of r xs ≡ n.entry xs
  same_entries xs long = go (entry_range r tensor xs) (range_of sectors es d xs long)
    where
      go : IsValues r.legs xs ⊎ (entry_of r xs ≡ zero_g) → IsValues (legs_on sectors es) xs ⊎ IsBeyond sectors es xs → entry_of r xs ≡ n.entry xs
      go (inl v) w = inside xs long v
      go (inr z) (inl v) = inside xs long (subst (λ gs. IsValues gs xs) (sym legs) v)
      go (inr z) (inr w) = z ∙ sym (beyond xs long w)

pub result_tensor : ResultTensorLaw
result_tensor fs sectors opens s before g between h behind bonds left p q sound at hp hq = (
  flux,
  (λ r tensor group_is legs flux_is entries. record {
    node = record {
      group = group_is;
      tensor = tensor;
      labels =
          ap (λ ls. labels_left (p.labels ++ ls) bonds) (sym (append-nil q.labels))
          ∙ ap (λ ls. labels_left ls bonds) (all_labels fs sectors (p ∷ q ∷ []) ns held) ∙ labels_kept ns bonds;
      legs = legs;
      odd = ap (parity fs) (flux_is ∙ sym flux) ∙ odd_two fs sectors p q g.node h.node hp.node hq.node;
      entry =
          same_entries fs sectors (kept ns bonds) kept_distinct r tensor group_is legs (result par (pair before g between h behind bonds left)).node refl
          (subst (Conserves fs (charge_on sectors) (result par (pair before g between h behind bonds left)).node) (sym flux_is) keeps) beyond entries;
    };
    flux = flux_is;
  }),
)
  where
    par : Parities
    par = parities_on fs sectors

    ns : List Node
    ns = g.node ∷ h.node ∷ []

    group : IsGroup fs
    group = subst IsGroup hp.node.group hp.node.tensor.group

    network : IsNetwork (g.node ∷ h.node ∷ []) bonds (kept (g.node ∷ h.node ∷ []) bonds)
    network = local_pair par opens before g between h behind s.left bonds left (subst (λ gs. IsNetwork (nodes gs) s.left opens) at.0 sound.network) at.1 at.2

    kept_distinct : IsDistinct same_end (kept (g.node ∷ h.node ∷ []) bonds)
    kept_distinct = distinct_second same_end (pairs_of bonds) (kept (g.node ∷ h.node ∷ []) bonds) (distinct-perm same_end end_test network.complete network.distinct)

    held : AreNodesOf fs sectors (p ∷ q ∷ []) (g.node ∷ h.node ∷ [])
    held = (hp.node, (hq.node, tt))

    flux : sum_charge fs p.tensor.flux q.tensor.flux ≡ flux_of fs (result par (pair before g between h behind bonds left))
    flux = ap₂ (sum_charge fs) hp.flux (hq.flux ∙ sym (one_flux fs group sectors h.members)) ∙ two_fluxes fs group sectors g.members h.members

    two : AllConserve fs (charge_on sectors) (g.node ∷ h.node ∷ []) (flux_of fs g ∷ flux_of fs h ∷ [])
    two = (
      subst (Conserves fs (charge_on sectors) g.node) hp.flux (node_conserves fs sectors p g.node hp.node),
      (subst (Conserves fs (charge_on sectors) h.node) hq.flux (node_conserves fs sectors q h.node hq.node), tt),
    )

    keeps : Conserves fs (charge_on sectors) (result par (pair before g between h behind bonds left)).node (flux_of fs (result par (pair before g between h behind bonds left)))
    keeps a =
        go
        (subst (Conserves fs (charge_on sectors) (pairwise par g.node h.node bonds)) (two_fluxes fs group sectors g.members h.members)
        (flux_law fs group (charge_on sectors) par (g.node ∷ h.node ∷ []) (flux_of fs g ∷ flux_of fs h ∷ []) bonds (kept (g.node ∷ h.node ∷ []) bonds) network two) a)
      where
        go : (net_at fs (charge_on sectors) (kept (g.node ∷ h.node ∷ []) bonds) a ≡ flux_of fs (result par (pair before g between h behind bonds left)))
            ⊎ ((pairwise par g.node h.node bonds).entry (values (kept (g.node ∷ h.node ∷ []) bonds) a) ≡ zero_g) →
            (net_at fs (charge_on sectors) (kept (g.node ∷ h.node ∷ []) bonds) a ≡ flux_of fs (result par (pair before g between h behind bonds left)))
            ⊎ (signed (odd_flux (nodes between) && h.node.odd) ((pairwise par g.node h.node bonds).entry (values (kept (g.node ∷ h.node ∷ []) bonds) a)) ≡ zero_g)
        go (inl e) = inl e
        go (inr z) = inr (ap (signed (odd_flux (nodes between) && h.node.odd)) z ∙ signed-zero (odd_flux (nodes between) && h.node.odd))

    beyond : (xs : List ℕ) → length xs ≡ length (kept (g.node ∷ h.node ∷ []) bonds) → IsBeyond sectors (kept (g.node ∷ h.node ∷ []) bonds) xs →
        (result par (pair before g between h behind bonds left)).node.entry xs ≡ zero_g
    beyond xs long w =
        ap (signed (odd_flux (nodes between) && h.node.odd))
        (ap (contract par (g.node ∷ h.node ∷ []) bonds (kept (g.node ∷ h.node ∷ []) bonds)).entry (sym (values_back (kept (g.node ∷ h.node ∷ []) bonds) xs kept_distinct long))
        ∙ contract_bounded (dims fs sectors) par (g.node ∷ h.node ∷ []) bonds (kept (g.node ∷ h.node ∷ []) bonds) network (all_bounded fs sectors (p ∷ q ∷ []) (g.node ∷ h.node ∷ []) held)
        (at_values (kept (g.node ∷ h.node ∷ []) bonds) xs) w.0 w.1 w.2)
        ∙ signed-zero (odd_flux (nodes between) && h.node.odd)
