-- The two legs of a line among all legs.
use Rattle.std.proofs.Common.{◌≡◌, ◌≢◌, ◌≤◌, ◌<◌, ◌-◌, ℕ, zero, suc, ◌+◌, ℤ, pos, Bool, true, false, not, cond, List, [], ◌∷◌, ◌++◌, length, drop, get_or, IsTrue, refl, sym, ◌∙◌, ap, subst, ◌⊎◌, inl, inr, int_eq, add-one, arith}
use Rattle.std.proofs.lemmas.Bool.{false≢true, cases_eq}
use Rattle.std.proofs.lemmas.List.Sums.{sum_by-cons}
use Rattle.std.proofs.lemmas.List.{length-map, get_or_default}
use Rattle.std.proofs.Math.ListN.{get_or-map}
use Rattle.qn_charge.specs.Firsts.{HasNone}
use Rattle.qn_index.specs.Legs.{LegValue, SectorValue}
use Rattle.qn_value.specs.Networks.{End, same_end}
use Rattle.qn_value.specs.Labels.{Slot, slots_of, ends}
use Rattle.qn_value.proofs.Sums.{label_test}
use Rattle.qn_value.proofs.NetLaws.{end_test}
use Rattle.qn_net.specs.Members.{LabelledMember, member_tensor, member_at, no_member, slots_of_members, no_leg, leg_at}
use Rattle.qn_net.specs.Refusals.{BadArity, HaveLabels, tally, legs_with, IsMiscounted, HasEqualArrows, no_slot, slot_at, HasUnequalSectors}
use Rattle.qn_net.specs.Tables.{end_at}
use Rattle.qn_net.proofs.TableLemmas.{legs_are_ends}

-- members have a label for each leg
pub labels_long : (ms : List LabelledMember) → HaveLabels ms → (i : ℕ) (m : LabelledMember) → i < length ms → get_or ms i m ≡ m → length m.labels ≡ length (member_tensor m.member).legs
labels_long ms h i m l e = go (cases_eq (length m.labels) (length (member_tensor m.member).legs))
  where
    here : member_at ms i ≡ m
    here = get_or_default ms i no_member m l ∙ e

    go : (length m.labels ≡ length (member_tensor m.member).legs) ⊎ (length m.labels ≢ length (member_tensor m.member).legs) → length m.labels ≡ length (member_tensor m.member).legs
    go (inl q) = q
    go (inr n) = absurd (h i (l, inl (subst BadArity (sym here) n)))

-- the legs from a member on
slots_suc : (ms : List LabelledMember) (i : ℕ) (m : LabelledMember) → i < length ms → get_or ms i m ≡ m →
    slots_of_members (drop i ms) ≡ slots_of (member_tensor m.member).legs m.labels ++ slots_of_members (drop (suc i) ms)
slots_suc [] i m l e = absurd (omega arith)
slots_suc (k ∷ ms) zero m l e = ap (λ (x : LabelledMember). slots_of (member_tensor x.member).legs x.labels ++ slots_of_members ms) e
slots_suc (k ∷ ms) (suc i) m l e = slots_suc ms i m (omega arith) e

pub slots_from : (ms : List LabelledMember) (i : ℕ) (m : LabelledMember) → i < length ms → get_or ms i m ≡ m →
    slots_of_members (drop i ms) ≡ slots_of (member_tensor m.member).legs m.labels ++ slots_of_members (drop (i + 1) ms)
slots_from ms i m l e = subst (λ k. slots_of_members (drop i ms) ≡ slots_of (member_tensor m.member).legs m.labels ++ slots_of_members (drop k ms)) (sym (add-one i)) (slots_suc ms i m l e)

slot_here : (gs : List LegValue) (ls : List ℤ) (rest : List Slot) (j : ℕ) → j < length gs → length ls ≡ length gs → (slot_at (slots_of gs ls ++ rest) j).sectors ≡ (get_or gs j no_leg).sectors
slot_here [] ls rest j l n = absurd (omega arith)
slot_here (g ∷ gs) [] rest j l n = absurd (omega arith)
slot_here (g ∷ gs) (k ∷ ls) rest zero l n = refl
slot_here (g ∷ gs) (k ∷ ls) rest (suc j) l n = slot_here gs ls rest j (omega arith) (omega arith)

slot_past : (gs : List LegValue) (ls : List ℤ) (rest : List Slot) (j : ℕ) → length gs ≤ j → length ls ≡ length gs → j < length (slots_of gs ls ++ rest) →
    (slot_at (slots_of gs ls ++ rest) j ≡ slot_at rest (j - length gs)) × (j - length gs < length rest)
slot_past [] ls rest j l n h = let e : j - 0 ≡ j = omega arith in (ap (slot_at rest) (sym e), omega arith)
slot_past (g ∷ gs) [] rest j l n h = absurd (omega arith)
slot_past (g ∷ gs) (k ∷ ls) rest zero l n h = absurd (omega arith)
slot_past (g ∷ gs) (k ∷ ls) rest (suc j) l n h =
    let r = slot_past gs ls rest j (omega arith) (omega arith) (omega arith) in
    let e : suc j - suc (length gs) ≡ j - length gs = omega arith in
    (r.0 ∙ ap (slot_at rest) (sym e), subst (λ d. d < length rest) (sym e) r.1)

-- the sectors of the leg at a place from a member on, where the leg is this member's
pub sectors_here : (ms : List LabelledMember) → HaveLabels ms → (i : ℕ) (m : LabelledMember) (j k : ℕ) → i < length ms → get_or ms i m ≡ m → j < length (member_tensor m.member).legs →
    slot_at (slots_of_members (drop i ms)) j ≡ slot_at (slots_of_members ms) k → (leg_at m j).sectors ≡ (slot_at (slots_of_members ms) k).sectors
sectors_here ms h i m j k l e w same =
    sym (slot_here (member_tensor m.member).legs m.labels (slots_of_members (drop (i + 1) ms)) j w (labels_long ms h i m l e))
    ∙ ap (λ ss. (slot_at ss j).sectors) (sym (slots_from ms i m l e)) ∙ ap (λ (s : Slot). s.sectors) same

-- and where it is behind
pub sectors_past : (ms : List LabelledMember) → HaveLabels ms → (i : ℕ) (m : LabelledMember) (j : ℕ) → i < length ms → get_or ms i m ≡ m → length (member_tensor m.member).legs ≤ j →
    j < length (slots_of_members (drop i ms)) →
    (j - length (member_tensor m.member).legs < length (slots_of_members (drop (i + 1) ms)))
    × (slot_at (slots_of_members (drop (i + 1) ms)) (j - length (member_tensor m.member).legs) ≡ slot_at (slots_of_members (drop i ms)) j)
sectors_past ms h i m j l e w long =
    let split = slots_from ms i m l e in
    let r = slot_past (member_tensor m.member).legs m.labels (slots_of_members (drop (i + 1) ms)) j w (labels_long ms h i m l e) (subst (λ ss. j < length ss) split long) in
    (r.1, sym r.0 ∙ ap (λ ss. slot_at ss j) (sym split))

-- ends that stand, and ends that stand once

abbrev pub weight : Bool → ℕ
weight b = cond b 1 0

pub counts : (b : Bool) → b ≡ true → weight b ≡ 1
counts true t = refl
counts false t = absurd (false≢true t)

pub tally-cons : (e x : End) (es : List End) → tally e (x ∷ es) ≡ weight (same_end x e) + tally e es
tally-cons e x es = sum_by-cons (λ f. cond (same_end f e) 1 0) x es

pub with-cons : (l : ℤ) (x : End) (es : List End) → legs_with l (x ∷ es) ≡ weight (int_eq x.label l) + legs_with l es
with-cons l x es = sum_by-cons (λ f. cond (int_eq f.label l) 1 0) x es

pub stands_there : (es : List End) (e : End) (j : ℕ) → j < length es → end_at es j ≡ e → 0 < tally e es
stands_there [] e j l h = absurd (omega arith)
stands_there (x ∷ es) e zero l h =
    let s : tally e (x ∷ es) ≡ weight (same_end x e) + tally e es = tally-cons e x es in
    let t : same_end x e ≡ true = ap (λ f. same_end f e) h ∙ end_test.itself e in
    let u : weight (same_end x e) ≡ 1 = counts (same_end x e) t in
    omega arith
stands_there (x ∷ es) e (suc j) l h =
    let s : tally e (x ∷ es) ≡ weight (same_end x e) + tally e es = tally-cons e x es in
    let r : 0 < tally e es = stands_there es e j (omega arith) h in
    omega arith

standing_twice : (x : End) (es : List End) (e : End) (j : ℕ) → tally e (x ∷ es) ≤ 1 → j < length es → x ≡ e → end_at es j ≡ e → ⊥
standing_twice x es e j t m h k =
    let s : tally e (x ∷ es) ≡ weight (same_end x e) + tally e es = tally-cons e x es in
    let u : weight (same_end x e) ≡ 1 = counts (same_end x e) (ap (λ f. same_end f e) h ∙ end_test.itself e) in
    let r : 0 < tally e es = stands_there es e j m k in
    absurd (omega arith)

pub stands_once : (es : List End) (e : End) (i j : ℕ) → tally e es ≤ 1 → i < length es → j < length es → end_at es i ≡ e → end_at es j ≡ e → i ≡ j
stands_once [] e i j t l m h k = absurd (omega arith)
stands_once (x ∷ es) e zero zero t l m h k = refl
stands_once (x ∷ es) e zero (suc j) t l m h k = absurd (standing_twice x es e j t (omega arith) h k)
stands_once (x ∷ es) e (suc i) zero t l m h k = absurd (standing_twice x es e i t (omega arith) k h)
stands_once (x ∷ es) e (suc i) (suc j) t l m h k =
    let s : tally e (x ∷ es) ≡ weight (same_end x e) + tally e es = tally-cons e x es in
    let r : i ≡ j = stands_once es e i j (omega arith) (omega arith) (omega arith) h k in
    omega arith

pub label_there : (es : List End) (l : ℤ) (j : ℕ) → j < length es → (end_at es j).label ≡ l → 0 < legs_with l es
label_there [] l j m h = absurd (omega arith)
label_there (x ∷ es) l zero m h =
    let s : legs_with l (x ∷ es) ≡ weight (int_eq x.label l) + legs_with l es = with-cons l x es in
    let u : weight (int_eq x.label l) ≡ 1 = counts (int_eq x.label l) (ap (λ k. int_eq k l) h ∙ label_test.itself l) in
    omega arith
label_there (x ∷ es) l (suc j) m h =
    let s : legs_with l (x ∷ es) ≡ weight (int_eq x.label l) + legs_with l es = with-cons l x es in
    let r : 0 < legs_with l es = label_there es l j (omega arith) h in
    omega arith

-- a positive label that stands has one inward and one outward leg
pub one_each : (es : List End) (n : ℕ) → HasNone (IsMiscounted es) → HasNone (HasEqualArrows es) → 0 < legs_with (pos n) es →
    (tally (record { label = pos n; inward = true }) es ≡ 1) × (tally (record { label = pos n; inward = false }) es ≡ 1)
one_each es n counted arrows stands =
    let s = legs_are_ends (pos n) es in
    let two : legs_with (pos n) es ≡ 2 = go (cases_eq (legs_with (pos n) es) 2) in
    let a : tally (record { label = pos n; inward = true }) es ≤ 1 = low (tally (record { label = pos n; inward = true }) es) (λ t. arrows n (inl t)) in
    let b : tally (record { label = pos n; inward = false }) es ≤ 1 = low (tally (record { label = pos n; inward = false }) es) (λ t. arrows n (inr t)) in
    (omega (arith, s, two, a, b), omega (arith, s, two, a, b))
  where
    go : (legs_with (pos n) es ≡ 2) ⊎ (legs_with (pos n) es ≢ 2) → legs_with (pos n) es ≡ 2
    go (inl e) = e
    go (inr k) = absurd (counted n ((λ z. absurd (omega (arith, z, stands))), k))

    low : (m : ℕ) → (1 < m → ⊥) → m ≤ 1
    low m h = omega (arith, h)

pub slot_end : (ss : List Slot) (p : ℕ) → end_at (ends ss) p ≡ (slot_at ss p).end
slot_end ss p = get_or-map (λ (s : Slot). s.end) ss p no_slot

pub ends_long : (ss : List Slot) → length (ends ss) ≡ length ss
ends_long ss = length-map ss (λ s. s.end)

pub unequal_off : (ss : List Slot) (n : ℕ) → legs_with (pos n) (ends ss) ≡ 0 → HasUnequalSectors ss n → ⊥
unequal_off ss n z w =
    let s = label_there (ends ss) (pos n) w.0 (subst (λ k. w.0 < k) (sym (ends_long ss)) w.2) (ap (λ (e : End). e.label) (slot_end ss w.0) ∙ w.4) in
    absurd (omega (arith, z, s))

-- where the inward leg stands at p and the outward one at q, the two are the only legs of the line
module _ (ss : List Slot) (n p q : ℕ) (once : (tally (record { label = pos n; inward = true }) (ends ss) ≡ 1) × (tally (record { label = pos n; inward = false }) (ends ss) ≡ 1))
    (lp : p < length (ends ss)) (lq : q < length (ends ss)) (at_p : end_at (ends ss) p ≡ record { label = pos n; inward = true }) (at_q : end_at (ends ss) q ≡ record { label = pos n; inward = false }) where
  one_of : (i : ℕ) → i < length ss → (slot_at ss i).end.label ≡ pos n → ((slot_at ss i).sectors ≡ (slot_at ss p).sectors) ⊎ ((slot_at ss i).sectors ≡ (slot_at ss q).sectors)
  one_of i l h = go (slot_at ss i).end.inward refl
    where
      there : i < length (ends ss)
      there = subst (λ k. i < k) (sym (ends_long ss)) l

      here : (b : Bool) → (slot_at ss i).end.inward ≡ b → end_at (ends ss) i ≡ record { label = pos n; inward = b }
      here b e = slot_end ss i ∙ (λ j. record { label = h j; inward = e j })

      go : (b : Bool) → (slot_at ss i).end.inward ≡ b → ((slot_at ss i).sectors ≡ (slot_at ss p).sectors) ⊎ ((slot_at ss i).sectors ≡ (slot_at ss q).sectors)
      go true e = inl (ap (λ k. (slot_at ss k).sectors) (stands_once (ends ss) (record { label = pos n; inward = true }) i p (omega (arith, once.0)) there lp (here true e) at_p))
      go false e = inr (ap (λ k. (slot_at ss k).sectors) (stands_once (ends ss) (record { label = pos n; inward = false }) i q (omega (arith, once.1)) there lq (here false e) at_q))

  pub equal_all : (slot_at ss p).sectors ≡ (slot_at ss q).sectors → HasUnequalSectors ss n → ⊥
  equal_all e w = w.6 (go (one_of w.0 w.2 w.4) (one_of w.1 w.3 w.5))
    where
      go : ((slot_at ss w.0).sectors ≡ (slot_at ss p).sectors) ⊎ ((slot_at ss w.0).sectors ≡ (slot_at ss q).sectors) →
          ((slot_at ss w.1).sectors ≡ (slot_at ss p).sectors) ⊎ ((slot_at ss w.1).sectors ≡ (slot_at ss q).sectors) → (slot_at ss w.0).sectors ≡ (slot_at ss w.1).sectors
      go (inl a) (inl b) = a ∙ sym b
      go (inl a) (inr b) = a ∙ e ∙ sym b
      go (inr a) (inl b) = a ∙ sym e ∙ sym b
      go (inr a) (inr b) = a ∙ sym b

  pub unequal_here : ((slot_at ss p).sectors ≡ (slot_at ss q).sectors → ⊥) → HasUnequalSectors ss n
  unequal_here d = (
    p,
    q,
    subst (λ k. p < k) (ends_long ss) lp,
    subst (λ k. q < k) (ends_long ss) lq,
    ap (λ (e : End). e.label) (sym (slot_end ss p) ∙ at_p),
    ap (λ (e : End). e.label) (sym (slot_end ss q) ∙ at_q),
    d,
  )

-- a test that fails exactly where two lists of sectors are the same
pub tells_apart : (b : Bool) (x y : List SectorValue) (P : Type 0) → (IsTrue b → x ≡ y) × (x ≡ y → IsTrue b) → (x ≡ y → P → ⊥) → ((x ≡ y → ⊥) → P) →
    (IsTrue (not b) → P) × (P → IsTrue (not b))
tells_apart true x y P h f g = ((λ t. absurd (false≢true t)), (λ p. absurd (f (h.0 refl) p)))
tells_apart false x y P h f g = ((λ t. g (λ e. false≢true (h.1 e))), (λ p. refl))
