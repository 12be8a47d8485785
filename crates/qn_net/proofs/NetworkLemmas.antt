-- Networks as they are given.
use Rattle.std.proofs.Common.{◌≡◌, ◌<◌, ℕ, ℤ, Bool, true, false, ◌&&◌, cond, List, [], ◌∷◌, refl, sym, ◌∙◌, ap, ap₂, subst, map, length, int_eq, arith}
use Rattle.std.specs.Prelude.{int_lt}
use Rattle.std.proofs.lemmas.Bool.{or_cases, or_left, or_right, false≢true}
use Rattle.std.proofs.Common.{◌⊎◌, inl, inr}
use Rattle.qn_sign.specs.Sign.{is_in}
use Rattle.qn_sign.proofs.Order.{is_in-append, is_in-perm}
use Rattle.qn_value.specs.Networks.{End, Bond, Parities, same_end, pairs_of, labels, flat, at_values, moved, AreHomogeneous, IsNetwork}
use Rattle.qn_value.specs.Fluxes.{AllConserve, charge_on}
use Rattle.qn_value.specs.Labels.{Placed, Slot, ends, node_of, is_positive, bond_at, bonds_from, place_bond, in_label_order}
use Rattle.qn_value.proofs.Sums.{label_test}
use Rattle.qn_value.proofs.NetLaws.{ends-labels}
use Rattle.qn_value.proofs.LabelLemmas.{plain_network}
use Rattle.qn_value.proofs.PlacedLemmas.{placed_law}
use Rattle.qn_net.specs.Groups.{Member, TensorGroup}
use Rattle.qn_net.specs.Steps.{carry}
use Rattle.qn_net.specs.Plans.{plan, first_state}
use Rattle.qn_net.specs.Carried.{AllSound, Covers}
use Rattle.qn_net.specs.Passing.{first_admissible_step}
use Rattle.qn_net.specs.NetworkValues.{PlacedMember, NetworkValue, placed, legs_of, parities, sectors, bonds, open_count, opens, value, member_of, begin, steps, passing_place, IsWellFormed}
use Rattle.qn_net.proofs.PlanLemmas.{plan_start, first_nodes}
use Rattle.qn_net.proofs.PassLemmas.{first_same}
use Rattle.qn_net.proofs.PassingLemmas.{admissible_same, start_keep}
use Rattle.qn_value.proofs.LabelLemmas.{word_ends}

-- the nodes of the members

same_nodes : (ms : List PlacedMember) → map node_of (map (λ m. m.placed) ms) ≡ map (λ k. k.node) (map member_of ms)
same_nodes [] = refl
same_nodes (m ∷ ms) = ap (λ ns. node_of m.placed ∷ ns) (same_nodes ms)

same_fluxes : (ms : List PlacedMember) → map (λ (p : Placed). p.tensor.flux) (map (λ m. m.placed) ms) ≡ map (λ k. k.flux) (map member_of ms)
same_fluxes [] = refl
same_fluxes (m ∷ ms) = ap (λ qs. m.placed.tensor.flux ∷ qs) (same_fluxes ms)

-- the labels of the lines are positive, and each stands on a leg

positive_from : (tw : List ℤ) (ss : List Slot) (l : ℤ) → is_in int_eq l (labels (bonds_from tw ss)) ≡ true → is_positive l ≡ true
positive_from tw [] l h = absurd (false≢true h)
positive_from tw (s ∷ ss) l h = go s.end.inward (is_positive s.end.label) refl h (positive_from tw ss l)
  where
    go : (i b : Bool) → is_positive s.end.label ≡ b → is_in int_eq l (labels (cond (i && b) (bond_at tw s ∷ bonds_from tw ss) (bonds_from tw ss))) ≡ true →
        (is_in int_eq l (labels (bonds_from tw ss)) ≡ true → is_positive l ≡ true) → is_positive l ≡ true
    go true true e k ih = at (or_cases (int_eq l s.end.label) (is_in int_eq l (labels (bonds_from tw ss))) k)
      where
        at : (int_eq l s.end.label ≡ true) ⊎ (is_in int_eq l (labels (bonds_from tw ss)) ≡ true) → is_positive l ≡ true
        at (inl q) = ap is_positive (label_test.equal l s.end.label q) ∙ e
        at (inr q) = ih q
    go true false e k ih = ih k
    go false b e k ih = ih k

positive_placed : (b : Bond) (bs : List Bond) (l : ℤ) → is_positive b.label ≡ true → (is_in int_eq l (labels bs) ≡ true → is_positive l ≡ true) →
    is_in int_eq l (labels (place_bond b bs)) ≡ true → is_positive l ≡ true
positive_placed b [] l p f h = at (or_cases (int_eq l b.label) false h)
  where
    at : (int_eq l b.label ≡ true) ⊎ (false ≡ true) → is_positive l ≡ true
    at (inl q) = ap is_positive (label_test.equal l b.label q) ∙ p
    at (inr q) = absurd (false≢true q)
positive_placed b (c ∷ cs) l p f h = go (int_lt b.label c.label) h (positive_placed b cs l p (λ k. f (or_right (int_eq l c.label) (is_in int_eq l (labels cs)) k)))
  where
    here : is_in int_eq l (labels (b ∷ c ∷ cs)) ≡ true → is_positive l ≡ true
    here k = at (or_cases (int_eq l b.label) (is_in int_eq l (labels (c ∷ cs))) k)
      where
        at : (int_eq l b.label ≡ true) ⊎ (is_in int_eq l (labels (c ∷ cs)) ≡ true) → is_positive l ≡ true
        at (inl q) = ap is_positive (label_test.equal l b.label q) ∙ p
        at (inr q) = f q

    behind : is_in int_eq l (labels (c ∷ place_bond b cs)) ≡ true → (is_in int_eq l (labels (place_bond b cs)) ≡ true → is_positive l ≡ true) → is_positive l ≡ true
    behind k ih = at (or_cases (int_eq l c.label) (is_in int_eq l (labels (place_bond b cs))) k)
      where
        at : (int_eq l c.label ≡ true) ⊎ (is_in int_eq l (labels (place_bond b cs)) ≡ true) → is_positive l ≡ true
        at (inl q) = f (or_left (int_eq l c.label) (is_in int_eq l (labels cs)) q)
        at (inr q) = ih q

    go : (t : Bool) → is_in int_eq l (labels (cond t (b ∷ c ∷ cs) (c ∷ place_bond b cs))) ≡ true →
        (is_in int_eq l (labels (place_bond b cs)) ≡ true → is_positive l ≡ true) → is_positive l ≡ true
    go true k ih = here k
    go false k ih = behind k ih

positive_ordered : (bs : List Bond) → ((l : ℤ) → is_in int_eq l (labels bs) ≡ true → is_positive l ≡ true) → (l : ℤ) →
    is_in int_eq l (labels (in_label_order bs)) ≡ true → is_positive l ≡ true
positive_ordered [] f l h = f l h
positive_ordered (b ∷ bs) f l h =
    positive_placed b (in_label_order bs) l (f b.label (or_left (int_eq b.label b.label) (is_in int_eq b.label (labels bs)) (label_test.itself b.label)))
    (positive_ordered bs (λ k i. f k (or_right (int_eq k b.label) (is_in int_eq k (labels bs)) i)) l) h

module _ (net : NetworkValue) (w : IsWellFormed net) where
  network : IsNetwork (map node_of (placed net)) (bonds net) (opens net)
  network = plain_network (placed net) net.twists (open_count (ends (legs_of net))) w.labelled

  covers : Covers net.order (bonds net)
  covers l h =
      w.order.positive l
      ∙ ap₂ ◌&&◌ (positive_ordered (bonds_from net.twists (legs_of net)) (positive_from net.twists (legs_of net)) l h)
      (subst (λ es. is_in same_end (record { label = l; inward = true }) es ≡ true) (word_ends (placed net))
      (is_in-perm same_end (record { label = l; inward = true }) network.complete
      ∙ is_in-append same_end (record { label = l; inward = true }) (pairs_of (bonds net)) (opens net)
      ∙ or_left (is_in same_end (record { label = l; inward = true }) (pairs_of (bonds net))) (is_in same_end (record { label = l; inward = true }) (opens net))
      (ends-labels (record { label = l; inward = true }) (bonds net) ∙ h)))

  members_network : IsNetwork (map (λ k. k.node) (map member_of net.members)) (bonds net) (opens net)
  members_network = subst (λ ns. IsNetwork ns (bonds net) (opens net)) (same_nodes net.members) network

  members_homogeneous : AreHomogeneous (parities net) (map (λ k. k.node) (map member_of net.members))
  members_homogeneous = subst (AreHomogeneous (parities net)) (same_nodes net.members) (placed_law net.group (placed net) w.group w.placed w.uniform).1

  pub members_conserve : AllConserve net.group (charge_on (sectors net)) (map (λ k. k.node) (map member_of net.members)) (map (λ k. k.flux) (map member_of net.members))
  members_conserve =
      subst (λ ns. AllConserve net.group (charge_on (sectors net)) ns (map (λ k. k.flux) (map member_of net.members))) (same_nodes net.members)
      (subst (AllConserve net.group (charge_on (sectors net)) (map node_of (placed net))) (same_fluxes net.members)
      (placed_law net.group (placed net) w.group w.placed w.uniform).0)

-- for the list of members as one with a first
module _ (par : Parities) (bs : List Bond) (os : List End) (order : List ℤ) where
  value_from : (ms : List Member) → 0 < length ms → IsNetwork (map (λ k. k.node) ms) bs os → AreHomogeneous par (map (λ k. k.node) ms) → Covers order bs →
      AllSound par os (plan par order (first_state ms bs)) (first_state ms bs)
      × ((last : TensorGroup) × (carry par (plan par order (first_state ms bs)) (first_state ms bs) ≡ record { groups = last ∷ []; left = [] })
      × ((xs : List ℕ) → flat par (map (λ k. k.node) ms) bs os (at_values os xs) ≡ (moved par last.node os).entry xs))
  value_from [] some net h cover = absurd (omega arith)
  value_from (m ∷ ms) some net h cover =
      let w = plan_start par m ms bs os order net h cover in
      (w.0, (w.1.0, w.1.1, (λ xs. ap (λ ns. flat par ns bs os (at_values os xs)) (sym (first_nodes m ms)) ∙ w.1.2 (at_values os xs))))

pub network_value : (net : NetworkValue) → IsWellFormed net →
    AllSound (parities net) (opens net) (steps net) (begin net)
    × ((last : TensorGroup) × (carry (parities net) (steps net) (begin net) ≡ record { groups = last ∷ []; left = [] })
    × ((xs : List ℕ) → value net xs ≡ (moved (parities net) last.node (opens net)).entry xs))
network_value net w =
    let some : 0 < length (map member_of net.members) = subst (λ n. 0 < n) (sym (lengths net.members)) w.some in
    let v = value_from (parities net) (bonds net) (opens net) net.order (map member_of net.members) some (members_network net w) (members_homogeneous net w) (covers net w) in
    (v.0, (v.1.0, v.1.1, (λ xs. ap (λ ns. flat (parities net) ns (bonds net) (opens net) (at_values (opens net) xs)) (same_nodes net.members) ∙ v.1.2 xs)))
  where
    lengths : (ms : List PlacedMember) → length (map member_of ms) ≡ length ms
    lengths [] = refl
    lengths (m ∷ ms) = let e : length (map member_of ms) ≡ length ms = lengths ms in omega arith

pub network_passing : (net : NetworkValue) → IsWellFormed net → passing_place net ≡ first_admissible_step (parities net) net.group (sectors net) 1 (steps net)
network_passing net w =
    let sound = (network_value net w).0 in
    first_same (parities net) (opens net) (sectors net) 1 (steps net) (begin net) sound
    ∙ admissible_same net.group w.group (sectors net) (parities net) (opens net) 1 (steps net) (begin net) sound
    (start_keep net.group w.group (sectors net) 1 (map member_of net.members) (members_conserve net w))
