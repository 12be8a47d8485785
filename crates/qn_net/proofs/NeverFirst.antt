-- A step that fuses never passes before another step did.
use Rattle.std.proofs.Common.{◌≡◌, ◌≤◌, ◌<◌, ℕ, zero, suc, ◌+◌, ℤ, Bool, true, false, ◌&&◌, ◌||◌, cond, Some, None, Option, List, [], ◌∷◌, ◌++◌, refl, sym, ◌∙◌, ap, subst, map, nat_lt, ◌⊎◌, inl, inr, arith}
use Rattle.std.specs.List.{All, Contains, range_with_len}
use Rattle.std.proofs.lemmas.Bool.{false≢true}
use Rattle.std.proofs.lemmas.Bool.Decides.{nat_tests}
use Rattle.std.proofs.lemmas.List.{length-map}
use Rattle.qn_sign.specs.Sign.{IsDistinct}
use Rattle.qn_gauss.specs.Gaussian.{signed, mag, limit}
use Rattle.qn_charge.specs.declared.factor.Factor.{Factor}
use Rattle.qn_index.specs.Legs.{SectorValue, LegValue, total as total_of}
use Rattle.qn_index.specs.Tuples.{tuples}
use Rattle.qn_index.specs.Places.{IsValues, values_at, block_size, sectors_at, offset_at}
use Rattle.qn_index.proofs.Places.{Forth, forth}
use Rattle.qn_index.proofs.Shapes.{contains_tuple}
use Rattle.qn_value.specs.Networks.{End, Node, Bond, Assignment, Parities, same_end, pairs_of, labels, kept, values, at_values, odd_flux, contract, IsNetwork}
use Rattle.qn_value.specs.Labels.{Placed, node_of}
use Rattle.qn_value.specs.Blocks.{legs_on}
use Rattle.qn_value.specs.Bounds.{IsBounded, AllBounded}
use Rattle.qn_value.specs.Magnitudes.{total, magnitudes, passes, first_where, passing_offset, place_or, Place, first_passing}
use Rattle.qn_sign.proofs.Order.{distinct-perm, distinct_second}
use Rattle.qn_value.proofs.NetLaws.{end_test, signed-zero, at_values-values}
use Rattle.qn_value.proofs.BlockRows.{all-nil, all-cons}
use Rattle.qn_value.proofs.PlacedLemmas.{all_first, all_others}
use Rattle.qn_value.proofs.BoundsLemmas.{contract_bounded}
use Rattle.qn_value.proofs.MagnitudeLemmas.{mag_zero, value_within}
use Rattle.qn_block.specs.Combiners.{CombinerValue, IsCombiner}
use Rattle.qn_net.specs.Groups.{Role, TensorGroup, nodes}
use Rattle.qn_net.specs.Groups.Role.{tensor}
use Rattle.qn_net.specs.Steps.{Step, State, result, after, carry, fuses, meets_condition, written, IsStepAt}
use Rattle.qn_net.specs.Steps.Kind.{pair_step, trace_step, fuse_step}
use Rattle.qn_net.specs.Steps.Step.{pair, trace}
use Rattle.qn_net.specs.Plans.{start}
use Rattle.qn_net.specs.Carried.{IsSoundState, AllSound}
use Rattle.qn_net.specs.Passing.{result_magnitude, result_legs, place_of_step, StepPlace, first_passing_step, made}
use Rattle.qn_net.specs.NetworkValues.{PlacedMember, parities, sectors, opens, begin, member_of}
use Rattle.qn_net.specs.Members.{placed_member, IsHeld, MemberValue}
use Rattle.qn_net.specs.Members.MemberValue.{own, fuse, split}
use Rattle.qn_net.specs.Operations.{parities_on, IsNodeOf, AreTensorsOf}
use Rattle.qn_net.specs.FuseSteps.{IsTableOf, IsBoundedBy, AreTables, MemberTablesLaw, NeverFirstLaw}
use Rattle.qn_net.proofs.PlanTwist.{steps_sound}
use Rattle.qn_net.proofs.PassingLemmas.{local_pair, local_trace}
use Rattle.qn_net.proofs.NetworkLemmas.{network_value}
use Rattle.qn_net.proofs.Held.{IsBeyond, dims, node_bounded, range_of}
use Rattle.qn_net.proofs.FirstTensors.{first_tensors}
use Rattle.qn_net.proofs.FuseLaws.{all_right, groups_after, fuse_step as fuse_law}
use Rattle.qn_facts.proofs.Options.{none_head}
use Rattle.qn_gauss.proofs.Signs.{mag_signed}

-- where nothing passes

none_at : (test : ℕ → Bool) (a n : ℕ) → first_where test (range_with_len a n) ≡ None → (k : ℕ) → a ≤ k → k < a + n → test k ≡ false
none_at test a zero e k l m = absurd (omega (arith, l, m))
none_at test a (suc n) e k l m =
    let p = none_head (test a) a (first_where test (range_with_len (a + 1) n)) e in
    go (nat_lt a k) refl p.0 (λ h. none_at test (a + 1) n p.1 k h (omega (arith, m)))
  where
    go : (b : Bool) → nat_lt a k ≡ b → test a ≡ false → (a + 1 ≤ k → test k ≡ false) → test k ≡ false
    go true q here ih = ih (grind (arith, nat_tests))
    go false q here ih = let same : a ≡ k = grind (arith, nat_tests) in subst (λ j. test j ≡ false) same here

pub none_place : (t : List ℕ) (o : Option ℕ) (p : Option Place) → place_or t o p ≡ None → (o ≡ None) × (p ≡ None)
none_place t None p e = (refl, e)
none_place t (Some o) p e = absurd (cc e)

none_offsets : (size : List ℕ → ℕ) (ls : List LegValue) (ts : List (List ℕ)) → first_passing size ls ts ≡ None → All (λ t. passing_offset size ls t ≡ None) ts
none_offsets size ls [] e = all-nil (λ t. passing_offset size ls t ≡ None)
none_offsets size ls (t ∷ ts) e =
    let p = none_place t (passing_offset size ls t) (first_passing size ls ts) e in
    all-cons (λ t. passing_offset size ls t ≡ None) t ts p.0 (none_offsets size ls ts p.1)

-- values in range have sums within the limit
size_within : (size : List ℕ → ℕ) (ls : List LegValue) → first_passing size ls (tuples ls) ≡ None → (xs : List ℕ) → IsValues ls xs → size xs ≤ limit
size_within size ls e xs v =
    let f : Forth ls xs = forth ls xs v in
    let c : Contains (tuples ls) (sectors_at ls xs) = contains_tuple ls (sectors_at ls xs) f.tuple in
    let none : passing_offset size ls (sectors_at ls xs) ≡ None = subst (λ t. passing_offset size ls t ≡ None) c.2 (none_offsets size ls (tuples ls) e c.0 (sectors_at ls xs) c.1) in
    subst (λ ys. size ys ≤ limit) f.values
    (within (size (values_at ls (sectors_at ls xs) (offset_at ls xs)))
    (none_at (λ o. passes (size (values_at ls (sectors_at ls xs) o))) 0 (block_size ls (sectors_at ls xs)) none (offset_at ls xs) (omega arith) (below (offset_at ls xs) (block_size ls (sectors_at ls xs)) f.below)))
  where
    within : (m : ℕ) → nat_lt limit m ≡ false → m ≤ limit
    within m h = grind (arith, nat_tests)

    below : (o n : ℕ) → o < n → o < 0 + n
    below o n l = omega (arith, l)

-- a contraction none of whose sums passes has entries within the limit
contraction_within : (fs : List Factor) (sectors : ℤ → List SectorValue) (par : Parities) (ns : List Node) (bonds : List Bond) → IsNetwork ns bonds (kept ns bonds) → AllBounded (dims fs sectors) ns →
    ((xs : List ℕ) → IsValues (legs_on sectors (kept ns bonds)) xs → total bonds (magnitudes ns) (at_values (kept ns bonds) xs) ≤ limit) → (a : Assignment) →
    mag ((contract par ns bonds (kept ns bonds)).entry (values (kept ns bonds) a)) ≤ limit
contraction_within fs sectors par ns bonds net bounded small a = go (range_of sectors (kept ns bonds) distinct (values (kept ns bonds) a) (length-map (kept ns bonds) a))
  where
    distinct : IsDistinct same_end (kept ns bonds)
    distinct = distinct_second same_end (pairs_of bonds) (kept ns bonds) (distinct-perm same_end end_test net.complete net.distinct)

    through : (m n k : ℕ) → m ≤ n → n ≤ k → m ≤ k
    through m n k p q = omega (arith, p, q)

    go : IsValues (legs_on sectors (kept ns bonds)) (values (kept ns bonds) a) ⊎ IsBeyond sectors (kept ns bonds) (values (kept ns bonds) a) →
        mag ((contract par ns bonds (kept ns bonds)).entry (values (kept ns bonds) a)) ≤ limit
    go (inl v) = through _ _ limit (value_within par ns bonds (kept ns bonds) (at_values (kept ns bonds) (values (kept ns bonds) a))) (small (values (kept ns bonds) a) v)
    go (inr w) =
        subst (λ z. mag z ≤ limit)
        (sym (contract_bounded (dims fs sectors) par ns bonds (kept ns bonds) net bounded a w.0 w.1 (subst (λ v. total_of (sectors w.0.label) ≤ v) (at_values-values (kept ns bonds) a w.0 w.1) w.2)))
        (subst (λ m. m ≤ limit) (sym mag_zero) (omega arith))

-- what holds of each group: its tensor is 0 out of range and within the limit, and where it has the role of a table it is one
pub record IsKeepable (fs : List Factor) (sectors : ℤ → List SectorValue) (g : TensorGroup) : Type 0 where
  pub bounded : IsBounded (dims fs sectors) g.node
  pub small : IsBoundedBy limit g.node
  pub table : (g.role ≡ tensor) ⊎ ((c : CombinerValue) × (p : Placed) × IsCombiner c × IsNodeOf fs sectors p g.node × IsTableOf c g.role p.tensor)

module _ (fs : List Factor) (sectors : ℤ → List SectorValue) where
  abbrev par : Parities
  par = parities_on fs sectors

  -- the result of a step that does not pass
  result_keepable : (opens : List End) (s : State) (t : Step) → IsSoundState par opens s → IsStepAt s t → All (IsKeepable fs sectors) s.groups →
      first_passing (result_magnitude par made t) (result_legs par sectors t) (tuples (result_legs par sectors t)) ≡ None → IsKeepable fs sectors (result par t)
  result_keepable opens s (pair before g between h behind bonds left) sound at all none =
      let parts : All (IsKeepable fs sectors) (before ++ (g ∷ (between ++ (h ∷ behind)))) = subst (All (IsKeepable fs sectors)) at.0 all in
      let from_g : All (IsKeepable fs sectors) (g ∷ (between ++ (h ∷ behind))) = all_right (IsKeepable fs sectors) before (g ∷ (between ++ (h ∷ behind))) parts in
      let kg : IsKeepable fs sectors g = all_first (IsKeepable fs sectors) g (between ++ (h ∷ behind)) from_g in
      let kh : IsKeepable fs sectors h = all_first (IsKeepable fs sectors) h behind (all_right (IsKeepable fs sectors) between (h ∷ behind) (all_others (IsKeepable fs sectors) g (between ++ (h ∷ behind)) from_g)) in
      let ns : List Node = g.node ∷ h.node ∷ [] in
      let past : Bool = (odd_flux (nodes between) && h.node.odd) in
      let net : IsNetwork ns bonds (kept ns bonds) =
      local_pair par opens before g between h behind s.left bonds left (subst (λ gs. IsNetwork (nodes gs) s.left opens) at.0 sound.network) at.1 at.2 in
      let both : AllBounded (dims fs sectors) ns = (kg.bounded, (kh.bounded, tt)) in
      record {
        bounded = λ a e i l. ap (signed past) (contract_bounded (dims fs sectors) par ns bonds (kept ns bonds) net both a e i l) ∙ signed-zero past;
        small = λ a. subst (λ m. m ≤ limit) (sym (mag_signed past _))
            (contraction_within fs sectors par ns bonds net both (size_within (result_magnitude par made (pair before g between h behind bonds left)) (legs_on sectors (kept ns bonds)) none) a);
        table = inl refl;
      }
  result_keepable opens s (trace before g behind bonds left) sound at all none =
      let parts : All (IsKeepable fs sectors) (before ++ (g ∷ behind)) = subst (All (IsKeepable fs sectors)) at.0 all in
      let kg : IsKeepable fs sectors g = all_first (IsKeepable fs sectors) g behind (all_right (IsKeepable fs sectors) before (g ∷ behind) parts) in
      let ns : List Node = g.node ∷ [] in
      let net : IsNetwork ns bonds (kept ns bonds) =
      local_trace opens before g behind s.left bonds left (subst (λ gs. IsNetwork (nodes gs) s.left opens) at.0 sound.network) at.1 at.2 in
      let one : AllBounded (dims fs sectors) ns = (kg.bounded, tt) in
      record {
        bounded = λ a e i l. contract_bounded (dims fs sectors) par ns bonds (kept ns bonds) net one a e i l;
        small = contraction_within fs sectors par ns bonds net one (size_within (result_magnitude par made (trace before g behind bonds left)) (legs_on sectors (kept ns bonds)) none);
        table = inl refl;
      }

  none_step : (n : ℕ) (p : Option Place) (q : Option StepPlace) → place_of_step n p q ≡ None → (p ≡ None) × (q ≡ None)
  none_step n None q e = (refl, e)
  none_step n (Some p) q e = absurd (cc e)

  carried_keepable : (opens : List End) (n : ℕ) (ts us : List Step) (s : State) → AllSound par opens (ts ++ us) s → All (IsKeepable fs sectors) s.groups →
      first_passing_step par sectors made n ts ≡ None → All (IsKeepable fs sectors) (carry par ts s).groups
  carried_keepable opens n [] us s k all none = all
  carried_keepable opens n (t ∷ ts) us s k all none =
      let p = none_step n (first_passing (result_magnitude par made t) (result_legs par sectors t) (tuples (result_legs par sectors t))) (first_passing_step par sectors made (suc n) ts) none in
      carried_keepable opens (suc n) ts us (after par t) k.2 (groups_after (IsKeepable fs sectors) par s t k.1 (result_keepable opens s t k.0 k.1 all p.0) all) p.1

  -- a step that fuses
  fusing_none : (opens : List End) (s : State) (t : Step) → IsSoundState par opens s → IsStepAt s t → All (IsKeepable fs sectors) s.groups → (written t).kind ≡ fuse_step →
      first_passing (result_magnitude par made t) (result_legs par sectors t) (tuples (result_legs par sectors t)) ≡ None
  fusing_none opens s (trace before g behind bonds left) sound at all k = absurd (other k)
    where
      other : trace_step ≡ fuse_step → ⊥
      other e = absurd (cc e)
  fusing_none opens s (pair before g between h behind bonds left) sound at all k =
      let parts : All (IsKeepable fs sectors) (before ++ (g ∷ (between ++ (h ∷ behind)))) = subst (All (IsKeepable fs sectors)) at.0 all in
      let from_g : All (IsKeepable fs sectors) (g ∷ (between ++ (h ∷ behind))) = all_right (IsKeepable fs sectors) before (g ∷ (between ++ (h ∷ behind))) parts in
      let kg : IsKeepable fs sectors g = all_first (IsKeepable fs sectors) g (between ++ (h ∷ behind)) from_g in
      let kh : IsKeepable fs sectors h = all_first (IsKeepable fs sectors) h behind (all_right (IsKeepable fs sectors) between (h ∷ behind) (all_others (IsKeepable fs sectors) g (between ++ (h ∷ behind)) from_g)) in
      go kg kh (fuses g bonds) refl (fuses h bonds) refl k
    where
      no_table : (role : Role) (ls ks : List ℤ) → role ≡ tensor → meets_condition role ls ks ≡ true → ⊥
      no_table role ls ks e m = false≢true (sym (ap (λ r. meets_condition r ls ks) e) ∙ m)

      by_first : IsKeepable fs sectors g → IsKeepable fs sectors h → fuses g bonds ≡ true →
          first_passing (result_magnitude par made (pair before g between h behind bonds left)) (result_legs par sectors (pair before g between h behind bonds left)) (tuples (result_legs par sectors (pair before g between h behind bonds left))) ≡ None
      by_first kg kh m = at_table kg.table
        where
          at_table : (g.role ≡ tensor) ⊎ ((c : CombinerValue) × (p : Placed) × IsCombiner c × IsNodeOf fs sectors p g.node × IsTableOf c g.role p.tensor) →
              first_passing (result_magnitude par made (pair before g between h behind bonds left)) (result_legs par sectors (pair before g between h behind bonds left)) (tuples (result_legs par sectors (pair before g between h behind bonds left))) ≡ None
          at_table (inl e) = absurd (no_table g.role (map (λ e. e.label) g.node.ends) (labels bonds) e m)
          at_table (inr w) =
              ((fuse_law fs sectors opens s before g between h behind bonds left w.0 w.1 limit sound at w.2).0 w.3 w.4 m kh.small).1 (omega arith)
              (result_legs par sectors (pair before g between h behind bonds left)) (tuples (result_legs par sectors (pair before g between h behind bonds left)))

      by_second : IsKeepable fs sectors g → IsKeepable fs sectors h → fuses h bonds ≡ true →
          first_passing (result_magnitude par made (pair before g between h behind bonds left)) (result_legs par sectors (pair before g between h behind bonds left)) (tuples (result_legs par sectors (pair before g between h behind bonds left))) ≡ None
      by_second kg kh m = at_table kh.table
        where
          at_table : (h.role ≡ tensor) ⊎ ((c : CombinerValue) × (p : Placed) × IsCombiner c × IsNodeOf fs sectors p h.node × IsTableOf c h.role p.tensor) →
              first_passing (result_magnitude par made (pair before g between h behind bonds left)) (result_legs par sectors (pair before g between h behind bonds left)) (tuples (result_legs par sectors (pair before g between h behind bonds left))) ≡ None
          at_table (inl e) = absurd (no_table h.role (map (λ e. e.label) h.node.ends) (labels bonds) e m)
          at_table (inr w) =
              ((fuse_law fs sectors opens s before g between h behind bonds left w.0 w.1 limit sound at w.2).1 w.3 w.4 m kg.small).1 (omega arith)
              (result_legs par sectors (pair before g between h behind bonds left)) (tuples (result_legs par sectors (pair before g between h behind bonds left)))

      other : pair_step ≡ fuse_step → ⊥
      other e = absurd (cc e)

      go : IsKeepable fs sectors g → IsKeepable fs sectors h → (a : Bool) → fuses g bonds ≡ a → (b : Bool) → fuses h bonds ≡ b → cond (a || b) fuse_step pair_step ≡ fuse_step →
          first_passing (result_magnitude par made (pair before g between h behind bonds left)) (result_legs par sectors (pair before g between h behind bonds left)) (tuples (result_legs par sectors (pair before g between h behind bonds left))) ≡ None
      go kg kh true m b n e = by_first kg kh m
      go kg kh false m true n e = by_second kg kh n
      go kg kh false m false n e = absurd (other e)

  -- the members
  start_keepable : (ms : List PlacedMember) (n : ℕ) → AreTensorsOf fs sectors (map (λ m. m.placed) ms) (start n (map member_of ms)) → AreTables ms → All (λ m. IsBoundedBy limit (node_of m.placed)) ms →
      All (IsKeepable fs sectors) (start n (map member_of ms))
  start_keepable [] n h tables small = all-nil (IsKeepable fs sectors)
  start_keepable (m ∷ ms) n h tables small =
      all-cons (IsKeepable fs sectors) _ (start (suc n) (map member_of ms)) (record {
        bounded = node_bounded fs sectors m.placed (node_of m.placed) h.0.node;
        small = all_first (λ m. IsBoundedBy limit (node_of m.placed)) m ms small;
        table = at (all_first (λ m. (m.role ≡ tensor) ⊎ ((c : CombinerValue) × IsCombiner c × IsTableOf c m.role m.placed.tensor)) m ms tables);
      })
      (start_keepable ms (suc n) h.1 (all_others (λ m. (m.role ≡ tensor) ⊎ ((c : CombinerValue) × IsCombiner c × IsTableOf c m.role m.placed.tensor)) m ms tables)
      (all_others (λ m. IsBoundedBy limit (node_of m.placed)) m ms small))
    where
      at : (m.role ≡ tensor) ⊎ ((c : CombinerValue) × IsCombiner c × IsTableOf c m.role m.placed.tensor) →
          (m.role ≡ tensor) ⊎ ((c : CombinerValue) × (p : Placed) × IsCombiner c × IsNodeOf fs sectors p (node_of m.placed) × IsTableOf c m.role p.tensor)
      at (inl e) = inl e
      at (inr w) = inr (w.0, m.placed, w.1, h.0.node, w.2)

pub never_first : NeverFirstLaw
never_first net ts us t w tables small whole kind none n =
    let sound : AllSound (parities net) (opens net) (ts ++ (t ∷ us)) (begin net) = subst (λ all. AllSound (parities net) (opens net) all (begin net)) whole (network_value net w).0 in
    let here : AllSound (parities net) (opens net) (t ∷ us) (carry (parities net) ts (begin net)) = steps_sound (parities net) (opens net) ts (t ∷ us) (begin net) sound in
    let first : All (IsKeepable net.group (sectors net)) (begin net).groups = start_keepable net.group (sectors net) net.members 1 (first_tensors net w).0 tables small in
    let keep : All (IsKeepable net.group (sectors net)) (carry (parities net) ts (begin net)).groups = carried_keepable net.group (sectors net) (opens net) 1 ts (t ∷ us) (begin net) sound first none in
    ap (λ p. place_of_step n p None) (fusing_none net.group (sectors net) (opens net) (carry (parities net) ts (begin net)) t here.0 here.1 keep kind)

table_of_member : (m : MemberValue) (ls : List ℤ) → IsHeld m → let p : PlacedMember = placed_member (record { member = m; labels = ls }) in
    (p.role ≡ tensor) ⊎ ((c : CombinerValue) × IsCombiner c × IsTableOf c p.role p.placed.tensor)
table_of_member (own t) ls h = inl refl
table_of_member (fuse c) ls h = inr (c, h, refl)
table_of_member (split c) ls h = inr (c, h, refl)

pub member_tables : MemberTablesLaw
member_tables [] h = all-nil (λ m. (m.role ≡ tensor) ⊎ ((c : CombinerValue) × IsCombiner c × IsTableOf c m.role m.placed.tensor))
member_tables (m ∷ ms) h =
    all-cons (λ m. (m.role ≡ tensor) ⊎ ((c : CombinerValue) × IsCombiner c × IsTableOf c m.role m.placed.tensor)) (placed_member m) (map placed_member ms)
    (table_of_member m.member m.labels (all_first (λ m. IsHeld m.member) m ms h)) (member_tables ms (all_others (λ m. IsHeld m.member) m ms h))
