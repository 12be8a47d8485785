-- The whole plan.
use Rattle.std.proofs.Common.{◌≡◌, ℕ, suc, ℤ, Bool, true, false, not, ◌&&◌, ◌||◌, cond, List, [], ◌∷◌, ◌++◌, refl, sym, ◌∙◌, ap, ap₂, subst, map, append-nil, int_eq}
use Rattle.std.proofs.lemmas.Bool.{or_left, or_parts, and_parts, false≢true}
use Rattle.qn_sign.specs.Sign.{exchanges, is_in, is_odd, IsDistinct, Perm}
use Rattle.qn_sign.specs.Sign.Perm.{none}
use Rattle.qn_gauss.specs.Gaussian.{signed}
use Rattle.qn_value.specs.Networks.{End, Bond, Assignment, same_end, odd_end, word, labels, flat, values, AreWithin, AreHomogeneous, IsNetwork, Parities}
use Rattle.qn_value.specs.Twists.{HasOneEnd}
use Rattle.qn_net.specs.Groups.{Member, TensorGroup, nodes, tensors, joined, closed}
use Rattle.qn_net.specs.Steps.{State, Step, after, carry}
use Rattle.qn_net.specs.Plans.{has_label, Found, find, select, shared, coupled, meet_second, meet_first, products, plan, start, first_state, NoneHave}
use Rattle.qn_net.specs.Parts.{AreMadeAsParts}
use Rattle.qn_net.specs.Carried.{IsSoundState, AllSound}
use Rattle.qn_net.specs.Steps.Step.{pair, trace}
use Rattle.qn_net.specs.Plans.Found.{nowhere, found}
use Rattle.qn_sign.proofs.Parity.{perm-refl}
use Rattle.qn_sign.proofs.Order.{is_in-append, distinct_first, distinct_second, distinct_parts}
use Rattle.qn_sign.proofs.OrderSigns.{sign_itself}
use Rattle.qn_value.proofs.Sums.{label_test}
use Rattle.qn_value.proofs.NetLaws.{end_test, exchanges-pairs, word-append}
use Rattle.qn_value.proofs.Steps.{final_law}
use Rattle.qn_net.proofs.PartLemmas.{made_as_part}
use Rattle.qn_net.proofs.PlanSteps.{all_tensors, AreMade, IsKeeping, pair_value, pair_keeps}
use Rattle.qn_net.proofs.PlanTrace.{trace_value, trace_keeps}
use Rattle.qn_net.proofs.Numbers.{start_ordered}
use Rattle.qn_net.proofs.PlanFind.{none_word, FindsFirst, finds, select_is, select_split, shared_within, shared_once, coupled_within, bond_ends, both_on}
use Rattle.std.proofs.lemmas.List.{map-append}

made_parts : (par : Parities) (gs : List TensorGroup) → AreMade par gs → IsDistinct same_end (word (all_tensors gs)) → AreMadeAsParts par gs
made_parts par [] m d = tt
made_parts par (g ∷ gs) m d =
    let p : IsDistinct same_end (word (tensors g) ++ word (all_tensors gs)) = subst (IsDistinct same_end) (word-append (tensors g) (all_tensors gs)) d in (
      made_as_part par g m.0 (distinct_first same_end (word (tensors g)) (word (all_tensors gs)) p),
      made_parts par gs m.1 (distinct_second same_end (word (tensors g)) (word (all_tensors gs)) p),
    )

pub sound : (par : Parities) (opens : List End) (groups : List TensorGroup) (left : List Bond) → IsKeeping par opens groups left →
    IsSoundState par opens (record { groups = groups; left = left })
sound par opens groups left k = record { network = k.network; homogeneous = k.homogeneous; parts = made_parts par groups k.made k.apart; ordered = k.ordered }

-- the steps end with one tensor, which has the value
abbrev pub Works : Parities → List End → List Step → State → Type 0
Works par opens ts s =
    AllSound par opens ts s
    × ((result : TensorGroup) × (carry par ts s ≡ record { groups = result ∷ []; left = [] })
    × ((a : Assignment) → flat par (nodes s.groups) s.left opens a ≡
    signed (is_odd (exchanges same_end (odd_end par a) result.node.ends opens)) (result.node.entry (values result.node.ends a))))

abbrev IsFilled : List TensorGroup → Type 0
IsFilled [] = ⊥
IsFilled (g ∷ gs) = Unit {0}

filled-append : (before : List TensorGroup) (g : TensorGroup) (behind : List TensorGroup) → IsFilled (before ++ (g ∷ behind))
filled-append [] g behind = tt
filled-append (h ∷ before) g behind = tt

module _ (par : Parities) (opens : List End) where
  works_pair : (before : List TensorGroup) (g : TensorGroup) (between : List TensorGroup) (h : TensorGroup) (behind : List TensorGroup) (all bonds left : List Bond) →
      IsKeeping par opens (before ++ (g ∷ (between ++ (h ∷ behind)))) all → Perm all (bonds ++ left) → AreWithin bonds (g.node ∷ h.node ∷ []) →
      HasOneEnd (λ e. true) g.node bonds × HasOneEnd (λ e. true) h.node bonds → (ts : List Step) → Works par opens ts (after par (pair before g between h behind bonds left)) →
      Works par opens (pair before g between h behind bonds left ∷ ts) (record { groups = before ++ (g ∷ (between ++ (h ∷ behind))); left = all })
  works_pair before g between h behind all bonds left k split within once ts w = (
    (sound par opens (before ++ (g ∷ (between ++ (h ∷ behind)))) all k, (refl, split, within, once.0, once.1), w.0),
    (w.1.0, w.1.1, (λ a. pair_value par opens before g between h behind all bonds left k split within a ∙ w.1.2 a)),
  )

  works_trace : (before : List TensorGroup) (g : TensorGroup) (behind : List TensorGroup) (all bonds left : List Bond) →
      IsKeeping par opens (before ++ (g ∷ behind)) all → Perm all (bonds ++ left) → AreWithin bonds (g.node ∷ []) →
      (ts : List Step) → Works par opens ts (after par (trace before g behind bonds left)) →
      Works par opens (trace before g behind bonds left ∷ ts) (record { groups = before ++ (g ∷ behind); left = all })
  works_trace before g behind all bonds left k split within ts w = (
    (sound par opens (before ++ (g ∷ behind)) all k, (refl, split, within), w.0),
    (w.1.0, w.1.1, (λ a. trace_value par opens before g behind all bonds left k split within a ∙ w.1.2 a)),
  )

  -- when no label is left
  products_work : (g : TensorGroup) (hs : List TensorGroup) → IsKeeping par opens (g ∷ hs) [] → Works par opens (products par [] g hs) (record { groups = g ∷ hs; left = [] })
  products_work g [] k = (sound par opens (g ∷ []) [] k, (g, refl, (λ a. final_law par g.node opens a)))
  products_work g (h ∷ hs) k =
      let within : AreWithin [] (g.node ∷ h.node ∷ []) = λ e l. absurd (false≢true l) in
      works_pair [] g [] h hs [] [] [] k none within (tt, tt) (products par [] (joined par false g h []) hs)
      (products_work (joined par false g h []) hs (pair_keeps par opens [] g [] h hs [] [] [] k none within))

  -- what is left of the labels
  covered : (q : ℤ → Bool) (left : List Bond) (l : ℤ) (ls : List ℤ) → q l ≡ true →
      ((m : ℤ) → is_in int_eq m (labels left) ≡ true → is_in int_eq m (l ∷ ls) ≡ true) →
      (m : ℤ) → is_in int_eq m (labels (select (λ l. not (q l)) left)) ≡ true → is_in int_eq m ls ≡ true
  covered q left l ls e c m k =
      let p = and_parts (not (q m)) (is_in int_eq m (labels left)) (sym (select_is (λ l. not (q l)) left m) ∙ k) in
      go (int_eq m l) refl (c m p.1) p.0
    where
      go : (b : Bool) → int_eq m l ≡ b → (b || is_in int_eq m ls) ≡ true → not (q m) ≡ true → is_in int_eq m ls ≡ true
      go false f h n = h
      go true f h n = absurd (false≢true (sym (ap not (ap q (label_test.equal m l f) ∙ e)) ∙ n))

  groups_apart : (before : List TensorGroup) (g : TensorGroup) (between : List TensorGroup) (h : TensorGroup) (behind : List TensorGroup) (left : List Bond) →
      IsNetwork (nodes (before ++ (g ∷ (between ++ (h ∷ behind))))) left opens →
      (e : End) → is_in same_end e g.node.ends ≡ true → is_in same_end e h.node.ends ≡ false
  groups_apart before g between h behind left net e k =
      let d : IsDistinct same_end (word (nodes before) ++ (g.node.ends ++ word (nodes (between ++ (h ∷ behind))))) =
      subst (IsDistinct same_end) (ap word (map-append (λ x. x.node) before (g ∷ (between ++ (h ∷ behind)))) ∙ word-append (nodes before) (g.node ∷ nodes (between ++ (h ∷ behind)))) net.distinct in
      let f : is_in same_end e (word (nodes (between ++ (h ∷ behind)))) ≡ false =
      distinct_parts same_end end_test e g.node.ends (word (nodes (between ++ (h ∷ behind)))) (distinct_second same_end (word (nodes before)) (g.node.ends ++ word (nodes (between ++ (h ∷ behind)))) d) k in
      let r = or_parts (is_in same_end e (word (nodes between))) (is_in same_end e (h.node.ends ++ word (nodes behind)))
      (sym (is_in-append same_end e (word (nodes between)) (h.node.ends ++ word (nodes behind)))
      ∙ ap (is_in same_end e) (sym (ap word (map-append (λ x. x.node) between (h ∷ behind)) ∙ word-append (nodes between) (h.node ∷ nodes behind))) ∙ f) in
      (or_parts (is_in same_end e h.node.ends) (is_in same_end e (word (nodes behind))) (sym (is_in-append same_end e h.node.ends (word (nodes behind))) ∙ r.1)).0

  -- the plan works from every state that is left
  abbrev Rest : List ℤ → Type 0
  Rest ls = (gs : List TensorGroup) (bs : List Bond) → IsKeeping par opens gs bs → IsFilled gs → ((m : ℤ) → is_in int_eq m (labels bs) ≡ true → is_in int_eq m ls ≡ true) →
      Works par opens (plan par ls (record { groups = gs; left = bs })) (record { groups = gs; left = bs })

  pub plan_works : (ls : List ℤ) (groups : List TensorGroup) (left : List Bond) → IsKeeping par opens groups left → IsFilled groups →
      ((m : ℤ) → is_in int_eq m (labels left) ≡ true → is_in int_eq m ls ≡ true) →
      Works par opens (plan par ls (record { groups = groups; left = left })) (record { groups = groups; left = left })
  plan_works [] [] left k f c = absurd f
  plan_works [] (g ∷ hs) [] k f c = products_work g hs k
  plan_works [] (g ∷ hs) (b ∷ left) k f c =
      absurd (false≢true (c b.label (or_left (int_eq b.label b.label) (is_in int_eq b.label (labels left)) (label_test.itself b.label))))
  plan_works (l ∷ ls) groups left k f c =
      go (is_in int_eq l (labels left)) refl (find l groups) (finds l groups)
      (λ gs bs. plan_works ls gs bs)
    where
      second : (ih : Rest ls) → is_in int_eq l (labels left) ≡ true → (before : List TensorGroup) (g : TensorGroup) (behind : List TensorGroup) → IsKeeping par opens (before ++ (g ∷ behind)) left →
          has_label l g ≡ true → NoneHave l before → (f2 : Found) → FindsFirst l behind f2 →
          let t : Step = meet_second left before g behind f2 in
          Works par opens (t ∷ plan par ls (after par t)) (record { groups = before ++ (g ∷ behind); left = left })
      second ih e before g behind kk hg nb nowhere n2 =
          let q : coupled g l ≡ true = both_on l before g behind left opens kk.network e nb n2 in
          let split = select_split (coupled g) left in
          let within = coupled_within g left in
          works_trace before g behind left (select (coupled g) left) (select (λ l. not (coupled g l)) left) kk split within
          (plan par ls (after par (trace before g behind (select (coupled g) left) (select (λ l. not (coupled g l)) left))))
          (ih (before ++ (closed par g (select (coupled g) left) ∷ behind)) (select (λ l. not (coupled g l)) left)
          (trace_keeps par opens before g behind left (select (coupled g) left) (select (λ l. not (coupled g l)) left) kk split within)
          (filled-append before (closed par g (select (coupled g) left)) behind)
          (covered (coupled g) left l ls q c))
      second ih e before g behind kk hg nb (found between h rest) n2 =
          let k2 : IsKeeping par opens (before ++ (g ∷ (between ++ (h ∷ rest)))) left = subst (λ hs. IsKeeping par opens (before ++ (g ∷ hs)) left) n2.0 kk in
          let q : shared g h l ≡ true = ap₂ ◌&&◌ hg n2.1 in
          let split = select_split (shared g h) left in
          let ga = groups_apart before g between h rest left k2.network in
          let within = shared_within g h ga left in
          subst (λ hs. Works par opens
          (pair before g between h rest (select (shared g h) left) (select (λ l. not (shared g h l)) left) ∷ plan par ls (after par (pair before g between h rest (select (shared g h) left) (select (λ l. not (shared g h l)) left))))
          (record { groups = before ++ (g ∷ hs); left = left })) (sym n2.0)
          (works_pair before g between h rest left (select (shared g h) left) (select (λ l. not (shared g h l)) left) k2 split within (shared_once g h ga left)
          (plan par ls (after par (pair before g between h rest (select (shared g h) left) (select (λ l. not (shared g h l)) left))))
          (ih (after par (pair before g between h rest (select (shared g h) left) (select (λ l. not (shared g h l)) left))).groups (select (λ l. not (shared g h l)) left)
          (pair_keeps par opens before g between h rest left (select (shared g h) left) (select (λ l. not (shared g h l)) left) k2 split within)
          (filled-append before _ (between ++ rest))
          (covered (shared g h) left l ls q c)))

      first : (ih : Rest ls) → is_in int_eq l (labels left) ≡ true → (fd : Found) → FindsFirst l groups fd →
          Works par opens (meet_first l left fd ++ plan par ls (carry par (meet_first l left fd) (record { groups = groups; left = left }))) (record { groups = groups; left = left })
      first ih e nowhere n = absurd (false≢true (sym (none_word l groups n true) ∙ bond_ends groups left opens k.network l e true))
      first ih e (found before g behind) n =
          subst (λ hs. Works par opens (meet_second left before g behind (find l behind) ∷ plan par ls (after par (meet_second left before g behind (find l behind)))) (record { groups = hs; left = left })) (sym n.0)
          (second ih e before g behind (subst (λ hs. IsKeeping par opens hs left) n.0 k) n.1 n.2 (find l behind) (finds l behind))

      skip : is_in int_eq l (labels left) ≡ false → (m : ℤ) → is_in int_eq m (labels left) ≡ true → is_in int_eq m ls ≡ true
      skip e m h = at (int_eq m l) refl (c m h)
        where
          at : (b : Bool) → int_eq m l ≡ b → (b || is_in int_eq m ls) ≡ true → is_in int_eq m ls ≡ true
          at false u v = v
          at true u v = absurd (false≢true (sym e ∙ subst (λ w. is_in int_eq w (labels left) ≡ true) (label_test.equal m l u) h))

      go : (b : Bool) → is_in int_eq l (labels left) ≡ b → (fd : Found) → FindsFirst l groups fd → Rest ls →
          Works par opens (cond b (meet_first l left fd) [] ++ plan par ls (carry par (cond b (meet_first l left fd) []) (record { groups = groups; left = left }))) (record { groups = groups; left = left })
      go true e fd n ih = first ih e fd n
      go false e fd n ih = ih groups left k f (skip e)

-- the first state

start_nodes : (n : ℕ) (ms : List Member) → nodes (start n ms) ≡ map (λ m. m.node) ms
start_nodes n [] = refl
start_nodes n (m ∷ ms) = ap (λ ns. m.node ∷ ns) (start_nodes (suc n) ms)

start_tensors : (n : ℕ) (ms : List Member) → all_tensors (start n ms) ≡ map (λ m. m.node) ms
start_tensors n [] = refl
start_tensors n (m ∷ ms) = ap (λ ns. m.node ∷ ns) (start_tensors (suc n) ms)

start_made : (par : Parities) (n : ℕ) (ms : List Member) → IsDistinct same_end (word (map (λ m. m.node) ms)) → AreHomogeneous par (map (λ m. m.node) ms) → AreMade par (start n ms)
start_made par n [] d h = tt
start_made par n (m ∷ ms) d h = (
  record {
    whole = subst (λ w. Perm w m.node.ends) (sym (append-nil m.node.ends)) (perm-refl m.node.ends);
    homogeneous = (h.0, tt);
    value = (
      false,
      λ a. sym (final_law par m.node m.node.ends a
          ∙ ap (λ b. signed b (m.node.entry (values m.node.ends a)))
          (exchanges-pairs same_end (odd_end par a) m.node.ends m.node.ends
          ∙ sign_itself same_end end_test (odd_end par a) m.node.ends (distinct_first same_end m.node.ends (word (map (λ m. m.node) ms)) d))),
    );
  },
  start_made par (suc n) ms (distinct_second same_end m.node.ends (word (map (λ m. m.node) ms)) d) h.1,
)

pub start_keeps : (par : Parities) (opens : List End) (ms : List Member) (bonds : List Bond) → IsNetwork (map (λ m. m.node) ms) bonds opens →
    AreHomogeneous par (map (λ m. m.node) ms) → IsKeeping par opens (start 1 ms) bonds
start_keeps par opens ms bonds net h = record {
  network = subst (λ ns. IsNetwork ns bonds opens) (sym (start_nodes 1 ms)) net;
  homogeneous = subst (AreHomogeneous par) (sym (start_nodes 1 ms)) h;
  made = start_made par 1 ms net.distinct h;
  apart = subst (λ ns. IsDistinct same_end (word ns)) (sym (start_tensors 1 ms)) net.distinct;
  ordered = start_ordered 1 ms;
}

pub plan_start : (par : Parities) (m : Member) (ms : List Member) (bonds : List Bond) (opens : List End) (order : List ℤ) →
    IsNetwork (map (λ k. k.node) (m ∷ ms)) bonds opens → AreHomogeneous par (map (λ k. k.node) (m ∷ ms)) →
    ((l : ℤ) → is_in int_eq l (labels bonds) ≡ true → is_in int_eq l order ≡ true) →
    Works par opens (plan par order (first_state (m ∷ ms) bonds)) (first_state (m ∷ ms) bonds)
plan_start par m ms bonds opens order net h c =
    plan_works par opens order (start 1 (m ∷ ms)) bonds (start_keeps par opens (m ∷ ms) bonds net h) tt c

pub first_nodes : (m : Member) (ms : List Member) → nodes (start 1 (m ∷ ms)) ≡ map (λ k. k.node) (m ∷ ms)
first_nodes m ms = start_nodes 1 (m ∷ ms)
