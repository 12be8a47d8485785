-- Members whose labels pair up legs that meet, and number the open legs, have no fault.
use Rattle.std.proofs.Common.{◌≡◌, ◌≢◌, ◌≤◌, ◌<◌, ℕ, zero, suc, ◌+◌, ℤ, pos, negsuc, Bool, true, false, not, ◌||◌, ◌⊎◌, inl, inr, None, List, [], ◌∷◌, ◌++◌, length, refl, sym, ◌∙◌, ap, ap₂, subst, arith}
use Rattle.std.proofs.lemmas.Bool.{false≢true, cases_lt}
use Rattle.qn_sign.specs.Sign.{is_in, IsDistinct, Perm}
use Rattle.qn_sign.specs.Sign.Perm.{none, keep, swap, then_by}
use Rattle.qn_charge.specs.Firsts.{HasNone}
use Rattle.qn_index.specs.Legs.{SectorValue}
use Rattle.qn_value.specs.Networks.{End, same_end}
use Rattle.qn_value.specs.Labels.{Slot, is_positive, IsWellLabelled}
use Rattle.qn_sign.proofs.Order.{same_symm}
use Rattle.qn_value.proofs.NetLaws.{end_test}
use Rattle.qn_value.proofs.PlacedLemmas.{HaveSectorsOn}
use Rattle.qn_net.specs.Members.{LabelledMember, member_tensor, ends_of_members, slots_of_members}
use Rattle.qn_net.specs.Refusals.{IsLabel, legs_with, tally, slot_at, BadLabelAt, IsMiscounted, IsRepeated, HasEqualArrows, HasUnequalSectors, IsGap, HaveLabels, IsFaultless}
use Rattle.qn_net.proofs.TableLemmas.{legs_are_ends}
use Rattle.qn_net.proofs.MeetingLemmas.{weight, tally-cons}

-- how often an end stands in a list without repetitions

tally_one : (e : End) (es : List End) → IsDistinct same_end es → tally e es ≡ weight (is_in same_end e es)
tally_one e [] d = refl
tally_one e (x ∷ es) d = tally-cons e x es ∙ go (same_end x e) refl (tally_one e es d.1)
  where
    one : (n w : ℕ) → n ≡ 0 → w ≡ 1 → 1 + n ≡ w
    one n w p q = omega (arith, p, q)

    none_more : (n w v : ℕ) → n ≡ v → w ≡ v → 0 + n ≡ w
    none_more n w v p q = omega (arith, p, q)

    go : (b : Bool) → same_end x e ≡ b → tally e es ≡ weight (is_in same_end e es) → weight b + tally e es ≡ weight (same_end e x || is_in same_end e es)
    go true p ih =
        let q : x ≡ e = end_test.equal x e p in
        one (tally e es) (weight (same_end e x || is_in same_end e es)) (ih ∙ ap weight (ap (λ u. is_in same_end u es) (sym q) ∙ d.0))
        (ap (λ b. weight (b || is_in same_end e es)) (ap (same_end e) q ∙ end_test.itself e))
    go false p ih =
        none_more (tally e es) (weight (same_end e x || is_in same_end e es)) (weight (is_in same_end e es)) ih
        (ap (λ b. weight (b || is_in same_end e es)) (same_symm same_end end_test x e p))

small : (b : Bool) → weight b ≤ 1
small true = omega arith
small false = omega arith

module _ (es : List End) (n : ℕ) (w : IsWellLabelled es n) where
  at_most : (e : End) → tally e es ≤ 1
  at_most e = subst (λ k. k ≤ 1) (sym (tally_one e es w.distinct)) (small (is_in same_end e es))

  by_ends : (l : ℤ) → legs_with l es ≡ weight (is_in same_end (record { label = l; inward = true }) es) + weight (is_in same_end (record { label = l; inward = false }) es)
  by_ends l = legs_are_ends l es ∙ ap₂ ◌+◌ (tally_one (record { label = l; inward = true }) es w.distinct) (tally_one (record { label = l; inward = false }) es w.distinct)

  -- a label that is neither positive nor among those of the open legs stands nowhere
  nowhere : (l : ℤ) → is_positive l ≡ false → ((i : ℕ) → i < n → l ≡ negsuc i → ⊥) → legs_with l es ≡ 0
  nowhere l p h = by_ends l ∙ ap₂ (λ a b. weight a + weight b) (off true) (off false)
    where
      clash : (b : Bool) → (is_positive l ≡ true) ⊎ ((i : ℕ) × (i < n) × (l ≡ negsuc i)) → b ≡ false
      clash b (inl q) = absurd (false≢true (sym p ∙ q))
      clash b (inr t) = absurd (h t.0 t.1 t.2)

      at : (i b : Bool) → is_in same_end (record { label = l; inward = i }) es ≡ b → b ≡ false
      at i false e = refl
      at i true e = clash true (w.no_more (record { label = l; inward = i }) e)

      off : (i : Bool) → is_in same_end (record { label = l; inward = i }) es ≡ false
      off i = at i (is_in same_end (record { label = l; inward = i }) es) refl

  -- an open leg's label stands once
  once : (k : ℕ) → k < n → legs_with (negsuc k) es ≡ 1
  once k lt =
      by_ends (negsuc k)
      ∙ odd (is_in same_end (record { label = negsuc k; inward = true }) es) (is_in same_end (record { label = negsuc k; inward = false }) es) (w.open_once k lt)
    where
      odd : (a b : Bool) → a ≡ not b → weight a + weight b ≡ 1
      odd true true e = absurd (false≢true (sym e))
      odd true false e = refl
      odd false true e = refl
      odd false false e = absurd (false≢true e)

  beyond : (k : ℕ) → n ≤ k → legs_with (negsuc k) es ≡ 0
  beyond k le = nowhere (negsuc k) refl (λ i lt e. let q : k ≡ i = number e in absurd (omega (arith, le, lt, q)))
    where
      number : {i j : ℕ} → negsuc i ≡ negsuc j → i ≡ j
      number e = cc

  counted : HasNone (IsMiscounted es)
  counted k m = go (is_positive (pos k)) refl
    where
      even : (a b : Bool) → a ≡ b → (weight a + weight b ≡ 0) ⊎ (weight a + weight b ≡ 2)
      even true true e = inr refl
      even true false e = absurd (false≢true (sym e))
      even false true e = absurd (false≢true e)
      even false false e = inl refl

      other : (i : ℕ) → pos k ≡ negsuc i → ⊥
      other i e = cc

      count : {A : Type 0} → (x y : ℕ) → x ≡ y → (y ≡ 0) ⊎ (y ≡ 2) → (x ≢ 0) × (x ≢ 2) → A
      count x y e (inl z) h = absurd (h.0 (e ∙ z))
      count x y e (inr z) h = absurd (h.1 (e ∙ z))

      go : (b : Bool) → is_positive (pos k) ≡ b → ⊥
      go false p = m.0 (nowhere (pos k) p (λ i lt e. other i e))
      go true p =
          count (legs_with (pos k) es) _ (by_ends (pos k))
          (even (is_in same_end (record { label = pos k; inward = true }) es) (is_in same_end (record { label = pos k; inward = false }) es) (w.paired (pos k) p)) (m.0, m.1)

  repeated : HasNone (IsRepeated es)
  repeated k m = go (cases_lt k n)
    where
      go : (k < n) ⊎ (n ≤ k) → ⊥
      go (inl lt) = let e : legs_with (negsuc k) es ≡ 1 = once k lt in omega (arith, e, m)
      go (inr le) = let e : legs_with (negsuc k) es ≡ 0 = beyond k le in omega (arith, e, m)

  arrows : HasNone (HasEqualArrows es)
  arrows k (inl m) = let e : tally (record { label = pos k; inward = true }) es ≤ 1 = at_most (record { label = pos k; inward = true }) in omega (arith, e, m)
  arrows k (inr m) = let e : tally (record { label = pos k; inward = false }) es ≤ 1 = at_most (record { label = pos k; inward = false }) in omega (arith, e, m)

  gaps : HasNone (IsGap es)
  gaps k m = go (cases_lt m.1.0 n)
    where
      go : (m.1.0 < n) ⊎ (n ≤ m.1.0) → ⊥
      go (inl lt) = let e : legs_with (negsuc k) es ≡ 1 = once k (omega (arith, lt, m.1.1)) in let z : legs_with (negsuc k) es ≡ 0 = m.0 in omega (arith, e, z)
      go (inr le) = let e : legs_with (negsuc m.1.0) es ≡ 0 = beyond m.1.0 le in let s : 0 < legs_with (negsuc m.1.0) es = m.1.2 in omega (arith, e, s)

-- legs of one line have one sector list

on_at : (line : ℤ → List SectorValue) (ss : List Slot) → HaveSectorsOn line ss → (i : ℕ) → i < length ss → line (slot_at ss i).end.label ≡ (slot_at ss i).sectors
on_at line [] h i lt = absurd (omega (arith, lt))
on_at line (s ∷ ss) h zero lt = h.0
on_at line (s ∷ ss) h (suc i) lt = on_at line ss h.1 i (omega (arith, lt))

sectors_meet : (line : ℤ → List SectorValue) (ss : List Slot) → HaveSectorsOn line ss → HasNone (HasUnequalSectors ss)
sectors_meet line ss h k m =
    m.6 (sym (on_at line ss h m.0 m.2) ∙ ap line (m.4 ∙ sym m.5) ∙ on_at line ss h m.1 m.3)

-- labels, as many as legs

abbrev pub AreLabels : List ℤ → Type 0
AreLabels [] = Unit {0}
AreLabels (l ∷ ls) = IsLabel l × AreLabels ls

pub labels-both : (ls ks : List ℤ) → AreLabels ls → AreLabels ks → AreLabels (ls ++ ks)
labels-both [] ks h k = k
labels-both (l ∷ ls) ks h k = (h.0, labels-both ls ks h.1 k)

pub labels-perm : {ls ks : List ℤ} → Perm ls ks → AreLabels ls → AreLabels ks
labels-perm none h = h
labels-perm (keep p) h = (h.0, labels-perm p h.1)
labels-perm swap h = (h.1.0, (h.0, h.1.1))
labels-perm (then_by p q) h = labels-perm q (labels-perm p h)

label_in : (ls : List ℤ) → AreLabels ls → HasNone (BadLabelAt ls)
label_in [] h j b = absurd (omega (arith, b.0))
label_in (l ∷ ls) h zero b = b.1 h.0
label_in (l ∷ ls) h (suc j) b = label_in ls h.1 j (omega (arith, b.0), b.1)

abbrev pub IsLabelled : LabelledMember → Type 0
IsLabelled m = (length m.labels ≡ length (member_tensor m.member).legs) × AreLabels m.labels

abbrev pub AllLabelled : List LabelledMember → Type 0
AllLabelled [] = Unit {0}
AllLabelled (m ∷ ms) = IsLabelled m × AllLabelled ms

pub labelled-both : (ms ns : List LabelledMember) → AllLabelled ms → AllLabelled ns → AllLabelled (ms ++ ns)
labelled-both [] ns h k = k
labelled-both (m ∷ ms) ns h k = (h.0, labelled-both ms ns h.1 k)

pub labelled-perm : {ms ns : List LabelledMember} → Perm ms ns → AllLabelled ms → AllLabelled ns
labelled-perm none h = h
labelled-perm (keep p) h = (h.0, labelled-perm p h.1)
labelled-perm swap h = (h.1.0, (h.0, h.1.1))
labelled-perm (then_by p q) h = labelled-perm q (labelled-perm p h)

have_labels : (ms : List LabelledMember) → AllLabelled ms → HaveLabels ms
have_labels [] h i b = absurd (omega (arith, b.0))
have_labels (m ∷ ms) h zero b = go b.1
  where
    go : (length m.labels ≢ length (member_tensor m.member).legs) ⊎ ((j : ℕ) × BadLabelAt m.labels j) → ⊥
    go (inl n) = n h.0.0
    go (inr t) = label_in m.labels h.0.1 t.0 t.1
have_labels (m ∷ ms) h (suc i) b = have_labels ms h.1 i (omega (arith, b.0), b.1)

pub faultless_from : (ms : List LabelledMember) (n : ℕ) → AllLabelled ms → IsWellLabelled (ends_of_members ms) n → (line : ℤ → List SectorValue) → HaveSectorsOn line (slots_of_members ms) →
    IsFaultless ms None []
faultless_from ms n h w line on =
    let es : List End = ends_of_members ms in
    (((((have_labels ms h, counted es n w, repeated es n w), arrows es n w), sectors_meet line (slots_of_members ms) on), gaps es n w), tt, (λ i b. absurd (omega (arith, b.0))))
