-- A step on the list of parts: the parts that it takes, and the list with its result.
use Rattle.std.proofs.Common.{ℤ, ◌≡◌, ◌≢◌, ◌≤◌, ◌<◌, ◌-◌, ℕ, suc, ◌+◌, Bool, true, false, ◌||◌, if◌then◌else◌, List, [], ◌∷◌, ◌++◌, refl, sym, ◌∙◌, ap, ap₂, subst, length, append_assoc, add-one, get_or, take, drop, arith}
use Rattle.std.specs.List.{remove, insert}
use Rattle.std.proofs.lemmas.List.{length-append}
use Rattle.qn_value.specs.Networks.{labels}
use Rattle.qn_net.specs.Groups.{AreInOrder}
use Rattle.qn_net.specs.Steps.{Step, State, result, after, written, fuses, IsStepAt}
use Rattle.qn_net.specs.Steps.Kind.{pair_step, trace_step, fuse_step}
use Rattle.qn_net.specs.Steps.Step.{pair, trace}
use Rattle.qn_net.specs.Passing.{takes, sums_over}
use Rattle.qn_net.specs.NetworkValues.{NetworkValue, parities, sectors}
use Rattle.qn_plan.specs.Planned.{StepValue}
use Rattle.qn_engine.specs.Parts.{PartValue, ArePartsOf, IsPartOf, place_of, is_odd_number}
use Rattle.qn_engine.specs.Carrying.{step_at, state_at, is_odd_between, IsReady, IsMadeAt, IsNext}
use Rattle.qn_engine.proofs.PartLists.{removed_at, inserted_at, read_at, taken_at, Sided, sided, Headed, headed, parts-append, part_place, odd_parts}

-- the labels of a step as it is written down
pub labels_written : (t : Step) → (written t).labels ≡ labels (sums_over t)
labels_written (pair before g between h behind bonds left) = refl
labels_written (trace before g behind bonds left) = refl

-- the part of a trace step, between the parts before and behind it
pub record TraceCut (net : NetworkValue) (n : ℕ) (parts : List PartValue) (i : ℕ) : Type 0 where
  pub first : List PartValue
  pub part : PartValue
  pub last : List PartValue
  pub within : i < length parts
  pub part_is : (d : PartValue) → get_or parts i d ≡ part
  pub removed : remove parts i ≡ first ++ last
  pub put : (r : PartValue) → insert (first ++ last) i r ≡ first ++ (r ∷ last)
  pub place : i ≡ length first
  pub taken : ArePartsOf net.group (sectors net) (part ∷ []) (takes (step_at net n))
  pub after_it : (r : PartValue) → IsMadeAt net n r → ArePartsOf net.group (sectors net) (first ++ (r ∷ last)) (state_at net (n + 1)).groups

within_cut : (xs : List PartValue) (x : PartValue) (ys : List PartValue) → length xs < length (xs ++ (x ∷ ys))
within_cut xs x ys = let e = length-append xs (x ∷ ys) in omega (arith, e)

not_trace : (b : Bool) → (if b then fuse_step else pair_step) ≡ trace_step → ⊥
not_trace true e = cc e
not_trace false e = cc e

pub trace_cut : (net : NetworkValue) (n : ℕ) (parts : List PartValue) (step : StepValue) (twist : List ℤ) → IsNext net n parts step twist → step.kind ≡ trace_step → TraceCut net n parts (place_of step.first parts)
trace_cut net n parts step twist k kind = go (step_at net n) refl
  where
    go : (t : Step) → step_at net n ≡ t → TraceCut net n parts (place_of step.first parts)
    go (pair before g between h behind bonds left) e =
        absurd (not_trace (fuses g bonds || fuses h bonds) (ap (λ (u : Step). (written u).kind) (sym e) ∙ sym (ap (λ (s : StepValue). s.kind) k.step_is) ∙ kind))
    go (trace before g behind bonds left) e = record {
      first = s.first;
      part = h.head;
      last = h.tail;
      within = subst (λ ps. place_of step.first parts < length ps) (sym whole) (subst (λ j. j < length (s.first ++ (h.head ∷ h.tail))) (sym place) (within_cut s.first h.head h.tail));
      part_is = λ d. ap₂ (λ (ps : List PartValue) (j : ℕ). get_or ps j d) whole place ∙ read_at s.first h.head h.tail d;
      removed = ap₂ (λ (ps : List PartValue) (j : ℕ). remove ps j) whole place ∙ removed_at s.first h.head h.tail;
      put = λ r. ap (λ j. insert (s.first ++ h.tail) j r) place ∙ inserted_at s.first r h.tail;
      place = place;
      taken = subst (λ u. ArePartsOf net.group (sectors net) (h.head ∷ []) (takes u)) (sym e) (h.first, tt);
      after_it = λ r m.
          subst (λ (u : State). ArePartsOf net.group (sectors net) (s.first ++ (r ∷ h.tail)) u.groups) (sym (ready.next ∙ ap (after (parities net)) e))
          (parts-append net.group (sectors net) s.first (r ∷ h.tail) before (result (parities net) (trace before g behind bonds left) ∷ behind) s.firsts
          (subst (λ u. IsPartOf net.group (sectors net) r (result (parities net) u)) e m, h.others));
    }
      where
        ready : IsReady net n
        ready = k.ready n k.within

        at : IsStepAt (state_at net n) (trace before g behind bonds left)
        at = subst (IsStepAt (state_at net n)) e ready.step

        s : Sided net.group (sectors net) parts before (g ∷ behind)
        s = sided net.group (sectors net) parts before (g ∷ behind) (subst (ArePartsOf net.group (sectors net) parts) at.0 k.carried.parts_of)

        h : Headed net.group (sectors net) s.second g behind
        h = headed net.group (sectors net) s.second g behind s.seconds

        whole : parts ≡ s.first ++ (h.head ∷ h.tail)
        whole = s.whole ∙ ap (λ ps. s.first ++ ps) h.whole

        number : step.first ≡ g.number
        number = ap (λ (s : StepValue). s.first) k.step_is ∙ ap (λ (u : Step). (written u).first) e

        place : place_of step.first parts ≡ length s.first
        place =
            ap₂ (λ (m : ℕ) (ps : List PartValue). place_of m ps) number whole
            ∙ part_place net.group (sectors net) s.first before h.head h.tail g behind s.firsts h.first (subst AreInOrder at.0 ready.sound.ordered)

-- the two parts of a pair step, between the parts before, between and behind them
pub record PairCut (net : NetworkValue) (n : ℕ) (parts : List PartValue) (i j : ℕ) : Type 0 where
  pub first : List PartValue
  pub one : PartValue
  pub middle : List PartValue
  pub two : PartValue
  pub last : List PartValue
  pub ordered : i < j
  pub within : j < length parts
  pub between : take (j - (i + 1)) (drop (i + 1) parts) ≡ middle
  pub odd : is_odd_number middle ≡ is_odd_between (step_at net n)
  pub two_is : (d : PartValue) → get_or parts j d ≡ two
  pub without_two : remove parts j ≡ first ++ (one ∷ (middle ++ last))
  pub one_within : i < length (first ++ (one ∷ (middle ++ last)))
  pub one_is : (d : PartValue) → get_or (first ++ (one ∷ (middle ++ last))) i d ≡ one
  pub without_one : remove (first ++ (one ∷ (middle ++ last))) i ≡ first ++ (middle ++ last)
  pub put_within : i ≤ length (first ++ (middle ++ last))
  pub put : (r : PartValue) → insert (first ++ (middle ++ last)) i r ≡ first ++ (r ∷ (middle ++ last))
  pub taken : ArePartsOf net.group (sectors net) (one ∷ two ∷ []) (takes (step_at net n))
  pub after_it : (r : PartValue) → IsMadeAt net n r → ArePartsOf net.group (sectors net) (first ++ (r ∷ (middle ++ last))) (state_at net (n + 1)).groups

pub pair_cut : (net : NetworkValue) (n : ℕ) (parts : List PartValue) (step : StepValue) (twist : List ℤ) → IsNext net n parts step twist → step.kind ≢ trace_step → PairCut net n parts (place_of step.first parts) (place_of step.second parts)
pair_cut net n parts step twist k kind = go (step_at net n) refl
  where
    go : (t : Step) → step_at net n ≡ t → PairCut net n parts (place_of step.first parts) (place_of step.second parts)
    go (trace before g behind bonds left) e = absurd (kind (ap (λ (s : StepValue). s.kind) k.step_is ∙ ap (λ (u : Step). (written u).kind) e))
    go (pair before g between h behind bonds left) e = record {
      first = s.first;
      one = p.head;
      middle = m.first;
      two = q.head;
      last = q.tail;
      ordered = subst (λ a. a < place_of step.second parts) (sym place_one) (subst (λ b. length s.first < b) (sym place_two) (omega arith));
      within = subst (λ b. b < length parts) (sym place_two) (subst (λ ps. length s.first + suc (length m.first) < length ps) (sym whole) (long s.first p.head m.first q.head q.tail));
      between =
          ap₂ (λ (a b : ℕ). take (b - (a + 1)) (drop (a + 1) parts)) place_one place_two
          ∙ ap (λ ps. take ((length s.first + suc (length m.first)) - (length s.first + 1)) (drop (length s.first + 1) ps)) whole
          ∙ middle_of s.first p.head m.first (q.head ∷ q.tail);
      odd = odd_parts net.group (sectors net) m.first between m.firsts ∙ ap is_odd_between (sym e);
      two_is = λ d. ap₂ (λ (ps : List PartValue) (b : ℕ). get_or ps b d) regrouped place_late ∙ read_at (s.first ++ (p.head ∷ m.first)) q.head q.tail d;
      without_two =
          ap₂ (λ (ps : List PartValue) (b : ℕ). remove ps b) regrouped place_late
          ∙ removed_at (s.first ++ (p.head ∷ m.first)) q.head q.tail
          ∙ append_assoc s.first (p.head ∷ m.first) q.tail;
      one_within = subst (λ a. a < length (s.first ++ (p.head ∷ (m.first ++ q.tail)))) (sym place_one) (within_cut s.first p.head (m.first ++ q.tail));
      one_is = λ d. ap (λ a. get_or (s.first ++ (p.head ∷ (m.first ++ q.tail))) a d) place_one ∙ read_at s.first p.head (m.first ++ q.tail) d;
      without_one = ap (λ a. remove (s.first ++ (p.head ∷ (m.first ++ q.tail))) a) place_one ∙ removed_at s.first p.head (m.first ++ q.tail);
      put_within = subst (λ a. a ≤ length (s.first ++ (m.first ++ q.tail))) (sym place_one) (let l = length-append s.first (m.first ++ q.tail) in omega (arith, l));
      put = λ r. ap (λ a. insert (s.first ++ (m.first ++ q.tail)) a r) place_one ∙ inserted_at s.first r (m.first ++ q.tail);
      taken = subst (λ u. ArePartsOf net.group (sectors net) (p.head ∷ q.head ∷ []) (takes u)) (sym e) (p.first, (q.first, tt));
      after_it = λ r y.
          subst (λ (u : State). ArePartsOf net.group (sectors net) (s.first ++ (r ∷ (m.first ++ q.tail))) u.groups) (sym (ready.next ∙ ap (after (parities net)) e))
          (parts-append net.group (sectors net) s.first (r ∷ (m.first ++ q.tail)) before (result (parities net) (pair before g between h behind bonds left) ∷ (between ++ behind)) s.firsts (
            subst (λ u. IsPartOf net.group (sectors net) r (result (parities net) u)) e y,
            parts-append net.group (sectors net) m.first q.tail between behind m.firsts q.others,
          ));
    }
      where
        ready : IsReady net n
        ready = k.ready n k.within

        at : IsStepAt (state_at net n) (pair before g between h behind bonds left)
        at = subst (IsStepAt (state_at net n)) e ready.step

        order : AreInOrder (before ++ (g ∷ (between ++ (h ∷ behind))))
        order = subst AreInOrder at.0 ready.sound.ordered

        s : Sided net.group (sectors net) parts before (g ∷ (between ++ (h ∷ behind)))
        s = sided net.group (sectors net) parts before (g ∷ (between ++ (h ∷ behind))) (subst (ArePartsOf net.group (sectors net) parts) at.0 k.carried.parts_of)

        p : Headed net.group (sectors net) s.second g (between ++ (h ∷ behind))
        p = headed net.group (sectors net) s.second g (between ++ (h ∷ behind)) s.seconds

        m : Sided net.group (sectors net) p.tail between (h ∷ behind)
        m = sided net.group (sectors net) p.tail between (h ∷ behind) p.others

        q : Headed net.group (sectors net) m.second h behind
        q = headed net.group (sectors net) m.second h behind m.seconds

        whole : parts ≡ s.first ++ (p.head ∷ (m.first ++ (q.head ∷ q.tail)))
        whole = s.whole ∙ ap (λ ps. s.first ++ ps) (p.whole ∙ ap (λ ps. p.head ∷ ps) (m.whole ∙ ap (λ ps. m.first ++ ps) q.whole))

        regrouped : parts ≡ (s.first ++ (p.head ∷ m.first)) ++ (q.head ∷ q.tail)
        regrouped = whole ∙ sym (append_assoc s.first (p.head ∷ m.first) (q.head ∷ q.tail))

        first_number : step.first ≡ g.number
        first_number = ap (λ (s : StepValue). s.first) k.step_is ∙ ap (λ (u : Step). (written u).first) e

        second_number : step.second ≡ h.number
        second_number = ap (λ (s : StepValue). s.second) k.step_is ∙ ap (λ (u : Step). (written u).second) e

        place_one : place_of step.first parts ≡ length s.first
        place_one =
            ap₂ (λ (x : ℕ) (ps : List PartValue). place_of x ps) first_number whole
            ∙ part_place net.group (sectors net) s.first before p.head (m.first ++ (q.head ∷ q.tail)) g (between ++ (h ∷ behind)) s.firsts p.first order

        place_late : place_of step.second parts ≡ length (s.first ++ (p.head ∷ m.first))
        place_late =
            ap₂ (λ (x : ℕ) (ps : List PartValue). place_of x ps) second_number regrouped
            ∙ part_place net.group (sectors net) (s.first ++ (p.head ∷ m.first)) (before ++ (g ∷ between)) q.head q.tail h behind
            (parts-append net.group (sectors net) s.first (p.head ∷ m.first) before (g ∷ between) s.firsts (p.first, m.firsts)) q.first
            (subst AreInOrder (sym (append_assoc before (g ∷ between) (h ∷ behind))) order)

        place_two : place_of step.second parts ≡ length s.first + suc (length m.first)
        place_two = place_late ∙ length-append s.first (p.head ∷ m.first)

        long : (xs : List PartValue) (x : PartValue) (ys : List PartValue) (y : PartValue) (zs : List PartValue) → length xs + suc (length ys) < length (xs ++ (x ∷ (ys ++ (y ∷ zs))))
        long xs x ys y zs = let a = length-append xs (x ∷ (ys ++ (y ∷ zs))) in let b = length-append ys (y ∷ zs) in omega (arith, a, b)

        middle_of : (xs : List PartValue) (x : PartValue) (ys zs : List PartValue) → take ((length xs + suc (length ys)) - (length xs + 1)) (drop (length xs + 1) (xs ++ (x ∷ (ys ++ zs)))) ≡ ys
        middle_of xs x ys zs =
            ap (λ a. take a (drop (length xs + 1) (xs ++ (x ∷ (ys ++ zs))))) (count (length xs) (length ys))
            ∙ ap (take (length ys)) (ap (λ b. drop b (xs ++ (x ∷ (ys ++ zs)))) (add-one (length xs)) ∙ past xs)
            ∙ taken_at ys zs
          where
            count : (a b : ℕ) → (a + suc b) - (a + 1) ≡ b
            count a b = omega arith

            past : (ws : List PartValue) → drop (suc (length ws)) (ws ++ (x ∷ (ys ++ zs))) ≡ ys ++ zs
            past [] = refl
            past (w ∷ ws) = past ws
