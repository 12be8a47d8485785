-- The next step of a plan, where a program has found its groups.
use Rattle.std.proofs.Common.{◌≡◌, ◌≤◌, ◌<◌, ℕ, suc, ◌+◌, ◌-◌, ℤ, true, false, not, ◌&&◌, None, List, [], ◌∷◌, ◌++◌, refl, sym, ◌∙◌, ap, ap₂, subst, map, length, filter, append-nil, drop, get_or, drop-cons, add-one, int_eq, arith}
use Rattle.std.proofs.lemmas.Bool.{false≢true}
use Rattle.std.proofs.lemmas.List.{length-map, length-append}
use Rattle.qn_sign.specs.Sign.{is_in}
use Rattle.qn_sign.proofs.Members.{is_in-filter}
use Rattle.qn_charge.specs.declared.factor.Factor.{Factor}
use Rattle.qn_index.specs.Legs.{SectorValue}
use Rattle.qn_value.specs.Networks.{Bond, Parities, labels, IsNetwork}
use Rattle.qn_value.proofs.Sums.{label_test}
use Rattle.qn_match.specs.Shares.{LegsLeftAreOpen}
use Rattle.qn_net.specs.Groups.{TensorGroup, nodes}
use Rattle.qn_net.specs.Steps.{Step as GroupStep, State, after, carry}
use Rattle.qn_net.specs.Steps.Step.{pair, trace}
use Rattle.qn_net.specs.Plans.{plan, taken, select, shared, coupled, all_products, NoneHave}
use Rattle.qn_net.specs.Carried.{IsSoundState, AllSound}
use Rattle.qn_net.specs.NetworkValues.{NetworkValue, parities, sectors, opens, steps, IsWellFormed}
use Rattle.qn_net.proofs.PlanFind.{taken_none, taken_trace, taken_pair, both_on, bond_ends, none_word, labels-select}
use Rattle.qn_plan.specs.Shapes.{ShapeValue, WalkValue, shape_of, shape_at, is_on, is_couple}
use Rattle.qn_plan.specs.Planned.{StepValue, planned_step, planned, first_wide_from, first_wide}
use Rattle.qn_plan.specs.Reached.{state_after, IsReached}
use Rattle.qn_plan.specs.Taking.{IsPairNext, IsTraceNext}
use Rattle.qn_plan.proofs.Finding.{shapes, FoundAt, found_at, none_found, shape_past, shape_here}
use Rattle.qn_plan.proofs.Reaching.{filter_parts, some_in, pair_next, trace_next}

-- the labels that are still to be taken
pub rest_at : (order : List ℤ) (i : ℕ) (d : ℤ) → i < length order → drop i order ≡ get_or order i d ∷ drop (i + 1) order
rest_at order i d h = drop-cons order i d h ∙ ap (λ k. get_or order i d ∷ drop k order) (sym (add-one i))

module _ (law : LegsLeftAreOpen) (net : NetworkValue) (wf : IsWellFormed net) where
  abbrev fs : List Factor
  fs = net.group

  abbrev sec : ℤ → List SectorValue
  sec = sectors net

  abbrev par : Parities
  par = parities net

  sound_of : (ts : List GroupStep) (s : State) → AllSound par (opens net) ts s → IsSoundState par (opens net) s
  sound_of [] s k = k
  sound_of (t ∷ ts) s k = k.0

  next_of : (l : ℤ) (ls : List ℤ) (s : State) (t : GroupStep) → taken l s ≡ t ∷ [] → plan par (l ∷ ls) s ≡ t ∷ plan par ls (after par t)
  next_of l ls s t e = ap (λ ts. ts ++ plan par ls (carry par ts s)) e

  module _ (l : ℤ) (rest : List ℤ) (list : List StepValue) (w : WalkValue) (r : IsReached net (l ∷ rest) list w) where
    abbrev s : State
    s = state_after net r.done

    left_is : w.left ≡ labels s.left
    left_is = ap (λ (v : WalkValue). v.left) r.walk

    shapes_are : w.shapes ≡ shapes fs sec s.groups
    shapes_are = ap (λ (v : WalkValue). v.shapes) r.walk

    many : length w.shapes ≡ length s.groups
    many = ap (λ (ss : List ShapeValue). length ss) shapes_are ∙ length-map s.groups (shape_of fs sec)

    network : IsNetwork (nodes s.groups) s.left (opens net)
    network = (sound_of (plan par (l ∷ rest) s) s r.sound).network

    passed : taken l s ≡ [] → IsReached net rest list w
    passed e =
        let same : plan par (l ∷ rest) s ≡ plan par rest s = ap (λ ts. ts ++ plan par rest (carry par ts s)) e in
        record {
          done = r.done;
          planned = r.planned;
          narrow = r.narrow;
          steps = r.steps ∙ ap (λ ts. r.done ++ ts) same;
          sound = subst (λ ts. AllSound par (opens net) ts s) same r.sound;
          walk = r.walk;
          fitting = r.fitting;
          members = r.members;
          cheap = r.cheap;
          few = r.few;
        }

    -- the label was already summed
    pub label_past : is_in int_eq l w.left ≡ false → IsReached net rest list w
    label_past e = passed (taken_none l s.left s.groups (ap (is_in int_eq l) (sym left_is) ∙ e))

    -- a label that is left stands on a group
    pub label_nowhere : is_in int_eq l w.left ≡ true → ((k : ℕ) → 0 ≤ k → k < length w.shapes → is_on l (shape_at w.shapes k).ends ≡ false) → ⊥
    label_nowhere e f =
        false≢true (sym (none_word l s.groups none true) ∙ bond_ends s.groups s.left (opens net) network l (ap (is_in int_eq l) (sym left_is) ∙ e) true)
      where
        none : NoneHave l s.groups
        none = none_found fs sec l s.groups (λ k lt. ap (λ (ss : List ShapeValue). is_on l (shape_at ss k).ends) (sym shapes_are) ∙ f k (omega arith) (omega (arith, lt, many)))

    module _ (e : is_in int_eq l w.left ≡ true) (i : ℕ) (within : i < length w.shapes) (on : is_on l (shape_at w.shapes i).ends ≡ true)
        (first : (k : ℕ) → 0 ≤ k → k < i → is_on l (shape_at w.shapes k).ends ≡ false) where
      found : FoundAt fs sec l s.groups i
      found = found_at fs sec l s.groups i (omega (arith, within, many)) (ap (λ (ss : List ShapeValue). is_on l (shape_at ss i).ends) (sym shapes_are) ∙ on)
          (λ k lt. ap (λ (ss : List ShapeValue). is_on l (shape_at ss k).ends) (sym shapes_are) ∙ first k (omega arith) lt)

      left_has : is_in int_eq l (labels s.left) ≡ true
      left_has = ap (is_in int_eq l) (sym left_is) ∙ e

      behind_at : (k : ℕ) → shape_at (shapes fs sec found.behind) k ≡ shape_at w.shapes (i + suc k)
      behind_at k =
          sym (shape_past fs sec found.before found.group found.behind k)
          ∙ ap₂ (λ (gs : List TensorGroup) (n : ℕ). shape_at (shapes fs sec gs) (n + suc k)) (sym found.parts) found.place
          ∙ ap (λ (ss : List ShapeValue). shape_at ss (i + suc k)) (sym shapes_are)

      behind_many : length w.shapes ≡ i + suc (length found.behind)
      behind_many =
          let a : length s.groups ≡ length (found.before ++ (found.group ∷ found.behind)) = ap (λ (gs : List TensorGroup). length gs) found.parts in
          let b = length-append found.before (found.group ∷ found.behind) in
          let c : length found.before ≡ i = found.place in
          omega (arith, many, a, b, c)

      first_is : shape_at w.shapes i ≡ shape_of fs sec found.group
      first_is =
          ap₂ (λ (ss : List ShapeValue) (n : ℕ). shape_at ss n) (shapes_are ∙ ap (shapes fs sec) found.parts) (sym found.place)
          ∙ shape_here fs sec found.before found.group found.behind

      -- another group has the label
      pub label_pair : (j : ℕ) → i + 1 ≤ j → j < length w.shapes → is_on l (shape_at w.shapes j).ends ≡ true → ((k : ℕ) → i + 1 ≤ k → k < j → is_on l (shape_at w.shapes k).ends ≡ false) →
          IsPairNext net rest list w i j (filter (λ k. is_on k (shape_at w.shapes i).ends && is_on k (shape_at w.shapes j).ends) w.left)
          (filter (λ k. not (is_on k (shape_at w.shapes i).ends && is_on k (shape_at w.shapes j).ends)) w.left)
      label_pair j above below has between =
          pair_next law net wf (l ∷ rest) rest list w r found.before found.group other.before other.group other.behind bonds left next i j _ _ found.place place summed_is left_after shorter
        where
          m : ℕ
          m = j - (i + 1)

          at_j : i + suc (j - (i + 1)) ≡ j
          at_j = omega (arith, above)

          other : FoundAt fs sec l found.behind (j - (i + 1))
          other = found_at fs sec l found.behind (j - (i + 1)) (omega (arith, behind_many, below, above))
              (ap (λ (x : ShapeValue). is_on l x.ends) (behind_at (j - (i + 1)) ∙ ap (λ n. shape_at w.shapes n) at_j) ∙ has)
              (λ k lt. ap (λ (x : ShapeValue). is_on l x.ends) (behind_at k) ∙ between (i + suc k) (omega arith) (omega (arith, lt, above)))

          bonds : List Bond
          bonds = select (shared found.group other.group) s.left

          left : List Bond
          left = select (λ k. not (shared found.group other.group k)) s.left

          parts : s.groups ≡ found.before ++ (found.group ∷ (other.before ++ (other.group ∷ other.behind)))
          parts = found.parts ∙ ap (λ gs. found.before ++ (found.group ∷ gs)) other.parts

          next : plan par (l ∷ rest) s ≡ pair found.before found.group other.before other.group other.behind bonds left ∷ plan par rest (after par (pair found.before found.group other.before other.group other.behind bonds left))
          next = next_of l rest s (pair found.before found.group other.before other.group other.behind bonds left)
              (ap (λ (gs : List TensorGroup). taken l (record { groups = gs; left = s.left })) parts
              ∙ taken_pair l s.left found.before found.group other.before other.group other.behind left_has found.none found.has other.none other.has)

          place : length found.before + suc (length other.before) ≡ j
          place = let a : length found.before ≡ i = found.place in let b : length other.before ≡ j - (i + 1) = other.place in omega (arith, a, b, above)

          second_is : shape_at w.shapes j ≡ shape_of fs sec other.group
          second_is =
              ap (λ n. shape_at w.shapes n) (sym at_j) ∙ sym (behind_at (j - (i + 1)))
              ∙ ap₂ (λ (gs : List TensorGroup) (n : ℕ). shape_at (shapes fs sec gs) n) other.parts (sym other.place)
              ∙ shape_here fs sec other.before other.group other.behind

          summed_is : labels bonds ≡ filter (λ k. is_on k (shape_at w.shapes i).ends && is_on k (shape_at w.shapes j).ends) w.left
          summed_is =
              labels-select (shared found.group other.group) s.left
              ∙ ap (filter (shared found.group other.group)) (sym left_is)
              ∙ ap₂ (λ (x y : ShapeValue). filter (λ k. is_on k x.ends && is_on k y.ends) w.left) (sym first_is) (sym second_is)

          left_after : labels left ≡ filter (λ k. not (is_on k (shape_at w.shapes i).ends && is_on k (shape_at w.shapes j).ends)) w.left
          left_after =
              labels-select (λ k. not (shared found.group other.group k)) s.left
              ∙ ap (filter (λ k. not (shared found.group other.group k))) (sym left_is)
              ∙ ap₂ (λ (x y : ShapeValue). filter (λ k. not (is_on k x.ends && is_on k y.ends)) w.left) (sym first_is) (sym second_is)

          shorter : length (filter (λ k. not (is_on k (shape_at w.shapes i).ends && is_on k (shape_at w.shapes j).ends)) w.left) ≤ length w.left
          shorter = let p = filter_parts (λ k. is_on k (shape_at w.shapes i).ends && is_on k (shape_at w.shapes j).ends) w.left in omega (arith, p)

      -- no other group has the label
      pub label_trace : ((k : ℕ) → i + 1 ≤ k → k < length w.shapes → is_on l (shape_at w.shapes k).ends ≡ false) →
          IsTraceNext net rest list w i (filter (λ k. is_couple k (shape_at w.shapes i).ends) w.left) (filter (λ k. not (is_couple k (shape_at w.shapes i).ends)) w.left)
      label_trace none = trace_next law net wf (l ∷ rest) rest list w r found.before found.group found.behind bonds left next i _ _ found.place summed_is left_after shorter
        where
          bonds : List Bond
          bonds = select (coupled found.group) s.left

          left : List Bond
          left = select (λ k. not (coupled found.group k)) s.left

          none_behind : NoneHave l found.behind
          none_behind = none_found fs sec l found.behind (λ k lt. ap (λ (x : ShapeValue). is_on l x.ends) (behind_at k) ∙ none (i + suc k) (omega arith) (omega (arith, lt, behind_many)))

          next : plan par (l ∷ rest) s ≡ trace found.before found.group found.behind bonds left ∷ plan par rest (after par (trace found.before found.group found.behind bonds left))
          next = next_of l rest s (trace found.before found.group found.behind bonds left)
              (ap (λ (gs : List TensorGroup). taken l (record { groups = gs; left = s.left })) found.parts
              ∙ taken_trace l s.left found.before found.group found.behind left_has found.none found.has none_behind)

          summed_is : labels bonds ≡ filter (λ k. is_couple k (shape_at w.shapes i).ends) w.left
          summed_is =
              labels-select (coupled found.group) s.left ∙ ap (filter (coupled found.group)) (sym left_is)
              ∙ ap (λ (x : ShapeValue). filter (λ k. is_couple k x.ends) w.left) (sym first_is)

          left_after : labels left ≡ filter (λ k. not (is_couple k (shape_at w.shapes i).ends)) w.left
          left_after =
              labels-select (λ k. not (coupled found.group k)) s.left ∙ ap (filter (λ k. not (coupled found.group k))) (sym left_is)
              ∙ ap (λ (x : ShapeValue). filter (λ k. not (is_couple k x.ends)) w.left) (sym first_is)

          both : is_couple l (shape_at w.shapes i).ends ≡ true
          both =
              ap (λ (x : ShapeValue). is_couple l x.ends) first_is
              ∙ both_on l found.before found.group found.behind s.left (opens net) (subst (λ gs. IsNetwork (nodes gs) s.left (opens net)) found.parts network) left_has found.none none_behind

          shorter : length (filter (λ k. not (is_couple k (shape_at w.shapes i).ends)) w.left) + 1 ≤ length w.left
          shorter =
              let p = filter_parts (λ k. is_couple k (shape_at w.shapes i).ends) w.left in
              let q = some_in l (filter (λ k. is_couple k (shape_at w.shapes i).ends) w.left)
              (is_in-filter int_eq label_test (λ k. is_couple k (shape_at w.shapes i).ends) l w.left ∙ ap₂ ◌&&◌ both e) in
              omega (arith, p, q)

  -- no label is left to be taken
  module _ (list : List StepValue) (w : WalkValue) (r : IsReached net [] list w) where
    abbrev z : State
    z = state_after net r.done

    shapes_of_groups : w.shapes ≡ shapes fs sec z.groups
    shapes_of_groups = ap (λ (v : WalkValue). v.shapes) r.walk

    groups_many : length w.shapes ≡ length z.groups
    groups_many = ap (λ (ss : List ShapeValue). length ss) shapes_of_groups ∙ length-map z.groups (shape_of fs sec)

    -- the first two are multiplied
    pub product_next : 1 < length w.shapes → IsPairNext net [] list w 0 1 [] w.left
    product_next h = go z.groups refl
      where
        go : (gs : List TensorGroup) → z.groups ≡ gs → IsPairNext net [] list w 0 1 [] w.left
        go [] e = absurd (omega (arith, h, groups_many, ap (λ (hs : List TensorGroup). length hs) e))
        go (g ∷ []) e = absurd (omega (arith, h, groups_many, ap (λ (hs : List TensorGroup). length hs) e))
        go (g ∷ k ∷ gs) e =
            pair_next law net wf [] [] list w r [] g [] k gs [] z.left (ap (all_products par z.left) e) 0 1 [] w.left refl refl refl (sym (ap (λ (v : WalkValue). v.left) r.walk)) (omega arith)
