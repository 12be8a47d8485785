-- Passing places over admissible tuples.
use Rattle.std.proofs.Common.{◌≡◌, ℕ, zero, suc, ◌+◌, ◌<◌, ℤ, Bool, true, false, ◌&&◌, cond, Some, None, List, [], ◌∷◌, ◌++◌, refl, sym, ◌∙◌, ap, ap₂, subst, map, filter, nat_lt, ◌⊎◌, inl, inr, int_eq, arith}
use Rattle.std.specs.List.{All, range_with_len}
use Rattle.std.specs.Cmp.Lexicographic.{pointwise}
use Rattle.std.proofs.lemmas.Bool.{false≢true}
use Rattle.std.proofs.lemmas.Bool.Decides.{nat_tests}
use Rattle.std.proofs.lemmas.List.Elements.{All-contains_itself}
use Rattle.qn_sign.specs.Sign.{IsDistinct, Perm}
use Rattle.qn_sign.specs.Sign.Perm.{none, keep, swap, then_by}
use Rattle.qn_gauss.specs.Gaussian.{zero_g, signed, limit}
use Rattle.qn_charge.specs.declared.factor.Factor.{Factor}
use Rattle.qn_charge.specs.Charges.{IsGroup, zero_charge, sum_charge}
use Rattle.qn_charge.specs.Laws.{associative_charge, commutative_charge, zero_is_neutral, canonical_zero, canonical_sum}
use Rattle.qn_index.specs.Legs.{SectorValue, LegValue, charge_at}
use Rattle.qn_index.specs.Tuples.{turned, net, IsTuple, tuples, admits}
use Rattle.qn_index.specs.Places.{sectors_at, values_at, block_size}
use Rattle.qn_index.proofs.Places.{back, values_in}
use Rattle.qn_index.proofs.Shapes.{tuple_contained}
use Rattle.qn_value.specs.Networks.{End, Node, Bond, Assignment, Parities, same_end, odd_flux, values, at_values, kept as kept_legs, pairwise, traced, AreWithin, IsNetwork}
use Rattle.qn_value.specs.Blocks.{legs_on}
use Rattle.qn_value.specs.Fluxes.{arrow_of, net_at, Conserves, AllConserve, sum_flux, charge_on}
use Rattle.qn_value.specs.Magnitudes.{passes, first_where, passing_offset, place_or, first_passing}
use Rattle.qn_value.proofs.NetLaws.{signed-zero}
use Rattle.qn_value.proofs.Sums.{label_test}
use Rattle.qn_value.proofs.Steps.{order_network, block_whole, mid_distinct, net_moved}
use Rattle.qn_value.proofs.FluxLemmas.{net_reduced, flux_law}
use Rattle.qn_value.proofs.MagnitudeLemmas.{silent}
use Rattle.qn_value.proofs.PlacedLemmas.{all_first, all_others}
use Rattle.qn_value.proofs.RowsLemmas.{values_back}
use Rattle.qn_net.specs.Groups.{Member, Listed, TensorGroup, nodes, merged, joined, closed, flux_of}
use Rattle.qn_net.specs.Steps.{Step, State, result, after, IsStepAt}
use Rattle.qn_net.specs.Steps.Step.{pair, trace}
use Rattle.qn_net.specs.Plans.{start}
use Rattle.qn_net.specs.Carried.{IsSoundState, AllSound}
use Rattle.qn_net.specs.Passing.{result_magnitude, result_legs, step_magnitude, place_of_step, first_passing_step, first_admissible_step, made}
use Rattle.qn_net.proofs.PartLemmas.{perm_merged}
use Rattle.qn_net.proofs.PlanSteps.{signed_node}
use Rattle.qn_net.proofs.PlanTwist.{ends_distinct}
use Rattle.qn_block.proofs.Lookup.{values_length}
use Rattle.qn_value.proofs.BlocksLemmas.{length-legs}
use Rattle.std.proofs.lemmas.List.{map-append}

-- the networks of a step alone

pub local_pair : (par : Parities) (opens : List End) (before : List TensorGroup) (g : TensorGroup) (between : List TensorGroup) (h : TensorGroup) (behind : List TensorGroup) (all bonds left : List Bond) →
    IsNetwork (nodes (before ++ (g ∷ (between ++ (h ∷ behind))))) all opens → Perm all (bonds ++ left) → AreWithin bonds (g.node ∷ h.node ∷ []) →
    IsNetwork (g.node ∷ h.node ∷ []) bonds (kept_legs (g.node ∷ h.node ∷ []) bonds)
local_pair par opens before g between h behind all bonds left k split within =
    let net : IsNetwork (nodes before ++ (g.node ∷ (nodes between ++ (h.node ∷ nodes behind)))) all opens =
    subst (λ ns. IsNetwork ns all opens)
    (map-append (λ x. x.node) before (g ∷ (between ++ (h ∷ behind))) ∙ ap (λ ns. nodes before ++ (g.node ∷ ns)) (map-append (λ x. x.node) between (h ∷ behind))) k in
    let m = net_moved par (nodes before) g.node (nodes between) h.node (nodes behind) all bonds left opens net split within in
    let w = block_whole (nodes before) (g.node ∷ h.node ∷ []) (nodes between ++ nodes behind) bonds left opens m within in
    record {
      distinct = mid_distinct (nodes before) (g.node ∷ h.node ∷ []) (nodes between ++ nodes behind) bonds left (kept_legs (g.node ∷ h.node ∷ []) bonds) opens m w;
      complete = w;
    }

pub local_trace : (opens : List End) (before : List TensorGroup) (g : TensorGroup) (behind : List TensorGroup) (all bonds left : List Bond) →
    IsNetwork (nodes (before ++ (g ∷ behind))) all opens → Perm all (bonds ++ left) → AreWithin bonds (g.node ∷ []) →
    IsNetwork (g.node ∷ []) bonds (kept_legs (g.node ∷ []) bonds)
local_trace opens before g behind all bonds left k split within =
    let net : IsNetwork (nodes before ++ (g.node ∷ nodes behind)) (bonds ++ left) opens =
    order_network (nodes before ++ (g.node ∷ nodes behind)) all (bonds ++ left) opens (subst (λ ns. IsNetwork ns all opens) (map-append (λ x. x.node) before (g ∷ behind)) k) split in
    let w = block_whole (nodes before) (g.node ∷ []) (nodes behind) bonds left opens net within in
    record {
      distinct = mid_distinct (nodes before) (g.node ∷ []) (nodes behind) bonds left (kept_legs (g.node ∷ []) bonds) opens net w;
      complete = w;
    }

module _ (fs : List Factor) (group : IsGroup fs) (sectors : ℤ → List SectorValue) where
  abbrev pub flux : List Listed → List ℤ
  flux ms = sum_flux fs (map (λ m. m.flux) ms)

  abbrev Keeps : Node → List ℤ → Type 0
  Keeps n q = Conserves fs (charge_on sectors) n q

  pub flux_reduced : (ms : List Listed) → sum_charge fs (zero_charge fs) (flux ms) ≡ flux ms
  flux_reduced [] = zero_is_neutral fs (zero_charge fs) (canonical_zero fs group)
  flux_reduced (m ∷ ms) = zero_is_neutral fs (sum_charge fs m.flux (flux ms)) (canonical_sum fs m.flux (flux ms) group)

  pub flux-append : (ms ns : List Listed) → flux (ms ++ ns) ≡ sum_charge fs (flux ms) (flux ns)
  flux-append [] ns = sym (flux_reduced ns)
  flux-append (m ∷ ms) ns = ap (sum_charge fs m.flux) (flux-append ms ns) ∙ sym (associative_charge fs m.flux (flux ms) (flux ns) group)

  pub flux-perm : {ms ns : List Listed} → Perm ms ns → flux ms ≡ flux ns
  flux-perm none = refl
  flux-perm (keep {x = m} p) = ap (sum_charge fs m.flux) (flux-perm p)
  flux-perm (swap {x = m} {y = n} {xs = ms}) =
      sym (associative_charge fs m.flux n.flux (flux ms) group)
      ∙ ap (λ c. sum_charge fs c (flux ms)) (commutative_charge fs m.flux n.flux)
      ∙ associative_charge fs n.flux m.flux (flux ms) group
  flux-perm (then_by p q) = flux-perm p ∙ flux-perm q

  pub one_flux : (ms : List Listed) → sum_flux fs (flux ms ∷ []) ≡ flux ms
  one_flux ms = commutative_charge fs (flux ms) (zero_charge fs) ∙ flux_reduced ms

  pub two_fluxes : (ms ns : List Listed) → sum_flux fs (flux ms ∷ flux ns ∷ []) ≡ flux (merged ms ns)
  two_fluxes ms ns = ap (sum_charge fs (flux ms)) (one_flux ns) ∙ sym (flux-append ms ns) ∙ flux-perm (perm_merged ms ns)

  signed_keeps : (s : Bool) (z : Node) (q : List ℤ) → Keeps z q → Keeps (signed_node s z) q
  signed_keeps s z q h a = go (h a)
    where
      go : (net_at fs (charge_on sectors) z.ends a ≡ q) ⊎ (z.entry (values z.ends a) ≡ zero_g) →
          (net_at fs (charge_on sectors) z.ends a ≡ q) ⊎ (signed s (z.entry (values z.ends a)) ≡ zero_g)
      go (inl e) = inl e
      go (inr e) = inr (ap (signed s) e ∙ signed-zero s)

  -- each group conserves charge
  abbrev pub GroupsKeep : List TensorGroup → Type 0
  GroupsKeep [] = Unit {0}
  GroupsKeep (g ∷ gs) = Keeps g.node (flux g.members) × GroupsKeep gs

  keep_first : (gs hs : List TensorGroup) → GroupsKeep (gs ++ hs) → GroupsKeep gs
  keep_first [] hs k = tt
  keep_first (g ∷ gs) hs k = (k.0, keep_first gs hs k.1)

  keep_second : (gs hs : List TensorGroup) → GroupsKeep (gs ++ hs) → GroupsKeep hs
  keep_second [] hs k = k
  keep_second (g ∷ gs) hs k = keep_second gs hs k.1

  keep-append : (gs hs : List TensorGroup) → GroupsKeep gs → GroupsKeep hs → GroupsKeep (gs ++ hs)
  keep-append [] hs k l = l
  keep-append (g ∷ gs) hs k l = (k.0, keep-append gs hs k.1 l)

  -- off the flux of its result a step has no summand
  abbrev pub IsSilent : Parities → Step → Type 0
  IsSilent par t =
      (a : Assignment) → (net_at fs (charge_on sectors) (result par t).node.ends a ≡ flux_of fs (result par t) → ⊥) → step_magnitude made t a ≡ 0

  pub step_keeps : (par : Parities) (opens : List End) (s : State) (t : Step) → IsSoundState par opens s → IsStepAt s t → GroupsKeep s.groups →
      GroupsKeep (after par t).groups × IsSilent par t
  step_keeps par opens s (pair before g between h behind bonds left) k at gk =
      let gk2 : GroupsKeep (before ++ (g ∷ (between ++ (h ∷ behind)))) = subst GroupsKeep at.0 gk in
      let rest = keep_second before (g ∷ (between ++ (h ∷ behind))) gk2 in
      let last = keep_second between (h ∷ behind) rest.1 in
      let net : IsNetwork (g.node ∷ h.node ∷ []) bonds (kept_legs (g.node ∷ h.node ∷ []) bonds) =
      local_pair par opens before g between h behind s.left bonds left (subst (λ gs. IsNetwork (nodes gs) s.left opens) at.0 k.network) at.1 at.2 in
      let two : AllConserve fs (charge_on sectors) (g.node ∷ h.node ∷ []) (flux g.members ∷ flux h.members ∷ []) = (rest.0, (last.0, tt)) in
      let whole : Keeps (pairwise par g.node h.node bonds) (flux (merged g.members h.members)) =
      subst (Keeps (pairwise par g.node h.node bonds)) (two_fluxes g.members h.members)
      (flux_law fs group (charge_on sectors) par (g.node ∷ h.node ∷ []) (flux g.members ∷ flux h.members ∷ []) bonds (kept_legs (g.node ∷ h.node ∷ []) bonds) net two) in (
        keep-append before (joined par (odd_flux (nodes between)) g h bonds ∷ (between ++ behind)) (keep_first before (g ∷ (between ++ (h ∷ behind))) gk2) (
          signed_keeps (odd_flux (nodes between) && h.node.odd) (pairwise par g.node h.node bonds) (flux (merged g.members h.members)) whole,
          keep-append between behind (keep_first between (h ∷ behind) rest.1) last.1,
        ),
        (λ a off. silent fs group (charge_on sectors) (g.node ∷ h.node ∷ []) (flux g.members ∷ flux h.members ∷ []) bonds (kept_legs (g.node ∷ h.node ∷ []) bonds) a two net
            (λ e. off (e ∙ two_fluxes g.members h.members))),
      )
  step_keeps par opens s (trace before g behind bonds left) k at gk =
      let gk2 : GroupsKeep (before ++ (g ∷ behind)) = subst GroupsKeep at.0 gk in
      let rest = keep_second before (g ∷ behind) gk2 in
      let net : IsNetwork (g.node ∷ []) bonds (kept_legs (g.node ∷ []) bonds) =
      local_trace opens before g behind s.left bonds left (subst (λ gs. IsNetwork (nodes gs) s.left opens) at.0 k.network) at.1 at.2 in
      let one : AllConserve fs (charge_on sectors) (g.node ∷ []) (flux g.members ∷ []) = (rest.0, tt) in
      let whole : Keeps (traced par g.node bonds) (flux g.members) =
      subst (Keeps (traced par g.node bonds)) (one_flux g.members)
      (flux_law fs group (charge_on sectors) par (g.node ∷ []) (flux g.members ∷ []) bonds (kept_legs (g.node ∷ []) bonds) net one) in (
        keep-append before (closed par g bonds ∷ behind) (keep_first before (g ∷ behind) gk2) (whole, rest.1),
        (λ a off. silent fs group (charge_on sectors) (g.node ∷ []) (flux g.members ∷ []) bonds (kept_legs (g.node ∷ []) bonds) a one net
            (λ e. off (e ∙ one_flux g.members))),
      )

  pub start_keep : (n : ℕ) (ms : List Member) → AllConserve fs (charge_on sectors) (map (λ m. m.node) ms) (map (λ m. m.flux) ms) → GroupsKeep (start n ms)
  start_keep n [] h = tt
  start_keep n (m ∷ ms) h = ((λ a. go a (h.0 a)), start_keep (suc n) ms h.1)
    where
      go : (a : Assignment) → (net_at fs (charge_on sectors) m.node.ends a ≡ m.flux) ⊎ (m.node.entry (values m.node.ends a) ≡ zero_g) →
          (net_at fs (charge_on sectors) m.node.ends a ≡ sum_charge fs m.flux (zero_charge fs)) ⊎ (m.node.entry (values m.node.ends a) ≡ zero_g)
      go a (inl e) =
          inl (sym (net_reduced fs group (charge_on sectors) m.node.ends a) ∙ ap (sum_charge fs (zero_charge fs)) e ∙ commutative_charge fs (zero_charge fs) m.flux)
      go a (inr e) = inr e

-- the net charge of the ends is that of their legs at the sectors of their values
net_on : (fs : List Factor) (sectors : ℤ → List SectorValue) (es : List End) (a : Assignment) →
    net_at fs (charge_on sectors) es a ≡ net fs (legs_on sectors es) (sectors_at (legs_on sectors es) (values es a))
net_on fs sectors [] a = refl
net_on fs sectors (e ∷ es) a = ap (sum_charge fs (turned fs (arrow_of e.inward) (charge_at (sectors e.label) (a e)))) (net_on fs sectors es a)

same_charges : (c : List ℤ) → pointwise int_eq c c ≡ true
same_charges [] = refl
same_charges (x ∷ c) = ap₂ ◌&&◌ (label_test.itself x) (same_charges c)

-- no number of a range passes the test
none_where : (test : ℕ → Bool) (i n : ℕ) → ((k : ℕ) → k < i + n → test k ≡ false) → first_where test (range_with_len i n) ≡ None
none_where test i zero h = refl
none_where test i (suc n) h =
    ap (λ b. cond b (Some i) (first_where test (range_with_len (i + 1) n))) (h i (omega arith)) ∙ none_where test (i + 1) n (λ k l. h k (omega (arith, l)))

-- tuples in whose blocks nothing passes may be left out
kept_passing : (size : List ℕ → ℕ) (ls : List LegValue) (test : List ℕ → Bool) (ts : List (List ℕ)) →
    All (λ t. test t ≡ false → passing_offset size ls t ≡ None) ts → first_passing size ls ts ≡ first_passing size ls (filter test ts)
kept_passing size ls test [] h = refl
kept_passing size ls test (t ∷ ts) h = go (test t) refl (kept_passing size ls test ts (all_others (λ t. test t ≡ false → passing_offset size ls t ≡ None) t ts h))
  where
    go : (b : Bool) → test t ≡ b → first_passing size ls ts ≡ first_passing size ls (filter test ts) →
        place_or t (passing_offset size ls t) (first_passing size ls ts) ≡ first_passing size ls (cond b (t ∷ filter test ts) (filter test ts))
    go true e ih = ap (place_or t (passing_offset size ls t)) ih
    go false e ih = ap (λ o. place_or t o (first_passing size ls ts)) (all_first (λ t. test t ≡ false → passing_offset size ls t ≡ None) t ts h e) ∙ ih

module _ (fs : List Factor) (group : IsGroup fs) (sectors : ℤ → List SectorValue) (par : Parities) (opens : List End) where
  -- no place in the block of a tuple off the flux
  silent_tuple : (t : Step) → IsSilent fs group sectors par t → IsDistinct same_end (result par t).node.ends → (u : List ℕ) → IsTuple (result_legs par sectors t) u →
      admits fs (result_legs par sectors t) (flux_of fs (result par t)) u ≡ false → passing_offset (result_magnitude par made t) (result_legs par sectors t) u ≡ None
  silent_tuple t quiet d u hu off = none_where (λ o. passes (result_magnitude par made t (values_at legs u o))) 0 (block_size legs u) (λ o l. at o (omega (arith, l)))
    where
      es : List End
      es = (result par t).node.ends

      legs : List LegValue
      legs = result_legs par sectors t

      -- the net charge of the place is that of the tuple
      net_is : (o : ℕ) → o < block_size legs u → net_at fs (charge_on sectors) (result par t).node.ends (at_values (result par t).node.ends (values_at legs u o)) ≡ net fs legs u
      net_is o l =
          net_on fs sectors (result par t).node.ends (at_values (result par t).node.ends (values_at legs u o))
          ∙ ap (λ vs. net fs legs (sectors_at legs vs))
          (values_back (result par t).node.ends (values_at legs u o) d (values_length legs (values_at legs u o) (values_in legs u o hu l) ∙ length-legs sectors (result par t).node.ends))
          ∙ ap (net fs legs) (back legs u o hu l).sectors

      not_above : nat_lt limit 0 ≡ false
      not_above = grind (arith, nat_tests)

      at : (o : ℕ) → o < block_size legs u → passes (result_magnitude par made t (values_at legs u o)) ≡ false
      at o l =
          ap passes
          (quiet (at_values (result par t).node.ends (values_at legs u o))
          (λ e. false≢true (sym off ∙ ap (λ c. pointwise int_eq c (flux_of fs (result par t))) (sym (net_is o l) ∙ e) ∙ same_charges (flux_of fs (result par t)))))
          ∙ not_above

  sound_of : (ts : List Step) (s : State) → AllSound par opens ts s → IsSoundState par opens s
  sound_of [] s k = k
  sound_of (t ∷ ts) s k = k.0

  pub result_distinct : (t : Step) → IsSoundState par opens (after par t) → IsDistinct same_end (result par t).node.ends
  result_distinct (pair before g between h behind bonds left) k = ends_distinct before (joined par (odd_flux (nodes between)) g h bonds) (between ++ behind) k.network.distinct
  result_distinct (trace before g behind bonds left) k = ends_distinct before (closed par g bonds) behind k.network.distinct

  pub admissible_same : (n : ℕ) (ts : List Step) (s : State) → AllSound par opens ts s → GroupsKeep fs group sectors s.groups →
      first_passing_step par sectors made n ts ≡ first_admissible_step par fs sectors n ts
  admissible_same n [] s k keeps = refl
  admissible_same n (t ∷ ts) s k keeps =
      let next = step_keeps fs group sectors par opens s t k.0 k.1 keeps in
      let legs : List LegValue = result_legs par sectors t in
      let flux : List ℤ = flux_of fs (result par t) in
      ap₂ (place_of_step n)
      (kept_passing (result_magnitude par made t) legs (admits fs legs flux) (tuples legs)
      (λ i d l off. silent_tuple t next.1 (result_distinct t (sound_of ts (after par t) k.2)) _ (tuple_contained legs _ (All-contains_itself (tuples legs) i d l)) off))
      (admissible_same (suc n) ts (after par t) k.2 next.0)
