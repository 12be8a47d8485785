-- The first fault of members with labels, an order and twisted labels is one.
use Rattle.std.proofs.Common.{◌≡◌, ◌≢◌, ◌≤◌, ◌<◌, ℕ, zero, suc, ℤ, pos, negsuc, Option, Some, None, List, length, refl, sym, ◌∙◌, ap, subst, ◌⊎◌, inl, inr, arith}
use Rattle.std.proofs.lemmas.Bool.{cases_lt, cases_eq}
use Rattle.qn_charge.specs.Firsts.{IsFirst, HasNone}
use Rattle.qn_value.specs.Networks.{End}
use Rattle.qn_net.specs.declared.fault.NetFault.{NetFault}
use Rattle.qn_net.specs.declared.fault.NetFault.TheVariants.{LabelArity, LabelRange, LabelCount, Arrow, Sectors, OpenLabels, Order, Twist, Memory}
use Rattle.qn_net.specs.Members.{LabelledMember, member_at, member_tensor, ends_of_members, slots_of_members}
use Rattle.qn_net.specs.Refusals.{BadLabelAt, BadArity, BadMemberAt, BadPlaceAt, BadTwistAt, IsMiscounted, IsRepeated, HasEqualArrows, HasUnequalSectors, IsGap, IsGoodOrder, IsOrderFault, AreCounted, AreOpposite, AreMeeting, AreLabelled, IsFaultless, IsNetFault}

-- the first place is one
pub first_once : (P : ℕ → Type 0) (i j : ℕ) → IsFirst P i → IsFirst P j → i ≡ j
first_once P i j p q = by (cases_lt i j) (cases_lt j i)
  where
    by : (i < j) ⊎ (j ≤ i) → (j < i) ⊎ (i ≤ j) → i ≡ j
    by (inl lt) d = absurd (q.before i lt p.here)
    by (inr ge) (inl lt) = absurd (p.before j lt q.here)
    by (inr ge) (inr le) = omega (arith, ge, le)

-- the order's fault is one
order_once : (es : List End) (order : List ℤ) (i j : ℕ) → IsOrderFault es order i → IsOrderFault es order j → i ≡ j
order_once es order i j (inl p) (inl q) = first_once (BadPlaceAt es order) i j p q
order_once es order i j (inl p) (inr q) = absurd (q.0 i p.here)
order_once es order i j (inr p) (inl q) = absurd (p.0 j q.here)
order_once es order i j (inr p) (inr q) = p.1 ∙ sym q.1

-- a fault of the order, where one is given
abbrev IsOrderFaultOf : List End → Option (List ℤ) → ℕ → Type 0
IsOrderFaultOf es None p = ⊥
IsOrderFaultOf es (Some order) p = IsOrderFault es order p

no_order : (es : List End) (order : Option (List ℤ)) → IsGoodOrder es order → HasNone (IsOrderFaultOf es order)
no_order es None g i p = p
no_order es (Some order) g i (inl p) = g.0 i p.here
no_order es (Some order) g i (inr p) = g.1 p.2

-- what the k-th check looks for
abbrev Check : List LabelledMember → Option (List ℤ) → List ℤ → ℕ → ℕ → Type 0
Check ms order tw zero = BadMemberAt ms
Check ms order tw (suc zero) = IsMiscounted (ends_of_members ms)
Check ms order tw (suc (suc zero)) = IsRepeated (ends_of_members ms)
Check ms order tw (suc (suc (suc zero))) = HasEqualArrows (ends_of_members ms)
Check ms order tw (suc (suc (suc (suc zero)))) = HasUnequalSectors (slots_of_members ms)
Check ms order tw (suc (suc (suc (suc (suc zero))))) = IsGap (ends_of_members ms)
Check ms order tw (suc (suc (suc (suc (suc (suc zero)))))) = IsOrderFaultOf (ends_of_members ms) order
Check ms order tw (suc (suc (suc (suc (suc (suc (suc k))))))) = BadTwistAt (ends_of_members ms) tw

-- the checks before the k-th find nothing
abbrev IsClear : List LabelledMember → Option (List ℤ) → List ℤ → ℕ → Type 0
IsClear ms order tw k = (j : ℕ) → j < k → HasNone (Check ms order tw j)

clear_more : (ms : List LabelledMember) (order : Option (List ℤ)) (tw : List ℤ) (k : ℕ) → IsClear ms order tw k → HasNone (Check ms order tw k) → IsClear ms order tw (suc k)
clear_more ms order tw k c h j lt = by (cases_eq j k)
  where
    by : (j ≡ k) ⊎ (j ≢ k) → HasNone (Check ms order tw j)
    by (inl e) = subst (λ i. HasNone (Check ms order tw i)) (sym e) h
    by (inr n) = c j (omega (arith, lt, n))

clear_none : (ms : List LabelledMember) (order : Option (List ℤ)) (tw : List ℤ) → IsClear ms order tw 0
clear_none ms order tw j lt = absurd (omega (arith, lt))

counted : (ms : List LabelledMember) (order : Option (List ℤ)) (tw : List ℤ) → AreCounted ms → IsClear ms order tw 3
counted ms order tw h = clear_more ms order tw 2 (clear_more ms order tw 1 (clear_more ms order tw 0 (clear_none ms order tw) h.0) h.1) h.2

opposite : (ms : List LabelledMember) (order : Option (List ℤ)) (tw : List ℤ) → AreOpposite ms → IsClear ms order tw 4
opposite ms order tw h = clear_more ms order tw 3 (counted ms order tw h.0) h.1

meeting : (ms : List LabelledMember) (order : Option (List ℤ)) (tw : List ℤ) → AreMeeting ms → IsClear ms order tw 5
meeting ms order tw h = clear_more ms order tw 4 (opposite ms order tw h.0) h.1

labelled : (ms : List LabelledMember) (order : Option (List ℤ)) (tw : List ℤ) → AreLabelled ms → IsClear ms order tw 6
labelled ms order tw h = clear_more ms order tw 5 (meeting ms order tw h.0) h.1

ordered : (ms : List LabelledMember) (order : Option (List ℤ)) (tw : List ℤ) → AreLabelled ms → IsGoodOrder (ends_of_members ms) order → IsClear ms order tw 7
ordered ms order tw h g = clear_more ms order tw 6 (labelled ms order tw h) (no_order (ends_of_members ms) order g)

-- the fault that the k-th check names where it first finds something at i
abbrev Named : List LabelledMember → ℕ → ℕ → NetFault → Type 0
Named ms zero i e =
    ((e ≡ LabelArity i) × BadArity (member_at ms i))
    ⊎ ((j : ℕ) × (e ≡ LabelRange i j) × (length (member_at ms i).labels ≡ length (member_tensor (member_at ms i).member).legs) × IsFirst (BadLabelAt (member_at ms i).labels) j)
Named ms (suc zero) i e = e ≡ LabelCount (pos i)
Named ms (suc (suc zero)) i e = e ≡ LabelCount (negsuc i)
Named ms (suc (suc (suc zero))) i e = e ≡ Arrow (pos i)
Named ms (suc (suc (suc (suc zero)))) i e = e ≡ Sectors (pos i)
Named ms (suc (suc (suc (suc (suc zero))))) i e = e ≡ OpenLabels (negsuc i)
Named ms (suc (suc (suc (suc (suc (suc zero)))))) i e = e ≡ Order i
Named ms (suc (suc (suc (suc (suc (suc (suc k))))))) i e = e ≡ Twist i

named_once : (ms : List LabelledMember) (k i : ℕ) (e f : NetFault) → Named ms k i e → Named ms k i f → e ≡ f
named_once ms zero i e f (inl p) (inl q) = p.0 ∙ sym q.0
named_once ms zero i e f (inl p) (inr q) = absurd (p.1 q.2)
named_once ms zero i e f (inr p) (inl q) = absurd (q.1 p.2)
named_once ms zero i e f (inr p) (inr q) = p.1 ∙ (ap (LabelRange i) (first_once (BadLabelAt (member_at ms i).labels) p.0 q.0 p.3 q.3) ∙ sym q.1)
named_once ms (suc zero) i e f p q = p ∙ sym q
named_once ms (suc (suc zero)) i e f p q = p ∙ sym q
named_once ms (suc (suc (suc zero))) i e f p q = p ∙ sym q
named_once ms (suc (suc (suc (suc zero)))) i e f p q = p ∙ sym q
named_once ms (suc (suc (suc (suc (suc zero))))) i e f p q = p ∙ sym q
named_once ms (suc (suc (suc (suc (suc (suc zero)))))) i e f p q = p ∙ sym q
named_once ms (suc (suc (suc (suc (suc (suc (suc k))))))) i e f p q = p ∙ sym q

-- a fault: the check that finds it, and where
record IsFound (ms : List LabelledMember) (order : Option (List ℤ)) (tw : List ℤ) (e : NetFault) : Type 0 where
  check : ℕ
  at : ℕ
  clear : IsClear ms order tw check
  first : IsFirst (Check ms order tw check) at
  named : Named ms check at e

found : (ms : List LabelledMember) (order : Option (List ℤ)) (tw : List ℤ) (e : NetFault) → e ≢ Memory → IsNetFault ms order tw e → IsFound ms order tw e
found ms order tw (LabelArity t) n h = record { check = 0; at = t; clear = clear_none ms order tw; first = h.0; named = inl (refl, h.1) }
found ms order tw (LabelRange t j) n h = record { check = 0; at = t; clear = clear_none ms order tw; first = h.0; named = inr (j, refl, h.1, h.2) }
found ms order tw (LabelCount (pos i)) n h = record { check = 1; at = i; clear = clear_more ms order tw 0 (clear_none ms order tw) h.0; first = h.1; named = refl }
found ms order tw (LabelCount (negsuc i)) n h =
    record { check = 2; at = i; clear = clear_more ms order tw 1 (clear_more ms order tw 0 (clear_none ms order tw) h.0) h.1; first = h.2; named = refl }
found ms order tw (Arrow (pos i)) n h = record { check = 3; at = i; clear = counted ms order tw h.0; first = h.1; named = refl }
found ms order tw (Arrow (negsuc i)) n h = absurd h
found ms order tw (Sectors (pos i)) n h = record { check = 4; at = i; clear = opposite ms order tw h.0; first = h.1; named = refl }
found ms order tw (Sectors (negsuc i)) n h = absurd h
found ms order tw (OpenLabels (pos i)) n h = absurd h
found ms order tw (OpenLabels (negsuc i)) n h = record { check = 5; at = i; clear = meeting ms order tw h.0; first = h.1; named = refl }
found ms None tw (Order p) n h = absurd h
found ms (Some order) tw (Order p) n h =
    record {
      check = 6;
      at = p;
      clear = labelled ms (Some order) tw h.0;
      first = record { here = h.1; before = λ j lt q. absurd (omega (arith, lt, order_once (ends_of_members ms) order j p q h.1)) };
      named = refl;
    }
found ms order tw (Twist p) n h = record { check = 7; at = p; clear = ordered ms order tw h.0 h.1; first = h.2; named = refl }
found ms order tw Memory n h = absurd (n refl)

pub one_fault : (ms : List LabelledMember) (order : Option (List ℤ)) (tw : List ℤ) (e f : NetFault) → e ≢ Memory → f ≢ Memory → IsNetFault ms order tw e → IsNetFault ms order tw f → e ≡ f
one_fault ms order tw e f n m h k = by (cases_lt x.check y.check) (cases_lt y.check x.check)
  where
    x : IsFound ms order tw e
    x = found ms order tw e n h

    y : IsFound ms order tw f
    y = found ms order tw f m k

    same : x.check ≡ y.check → e ≡ f
    same c =
        let first : IsFirst (Check ms order tw x.check) y.at = subst (λ i. IsFirst (Check ms order tw i) y.at) (sym c) y.first in
        let at : x.at ≡ y.at = first_once (Check ms order tw x.check) x.at y.at x.first first in
        let named : Named ms x.check y.at f = subst (λ i. Named ms i y.at f) (sym c) y.named in
        named_once ms x.check x.at e f x.named (subst (λ i. Named ms x.check i f) (sym at) named)

    by : (x.check < y.check) ⊎ (y.check ≤ x.check) → (y.check < x.check) ⊎ (x.check ≤ y.check) → e ≡ f
    by (inl lt) d = absurd (y.clear x.check lt x.at x.first.here)
    by (inr ge) (inl lt) = absurd (x.clear y.check lt y.at y.first.here)
    by (inr ge) (inr le) = same (omega (arith, ge, le))

pub no_fault : (ms : List LabelledMember) (order : Option (List ℤ)) (tw : List ℤ) (e : NetFault) → e ≢ Memory → IsFaultless ms order tw → IsNetFault ms order tw e → ⊥
no_fault ms order tw e n g h = by (cases_lt x.check 7)
  where
    x : IsFound ms order tw e
    x = found ms order tw e n h

    -- after the last check nothing is named
    last : (k i : ℕ) → 7 ≤ k → Check ms order tw k i → ⊥
    last zero i ge c = absurd (omega (arith, ge))
    last (suc zero) i ge c = absurd (omega (arith, ge))
    last (suc (suc zero)) i ge c = absurd (omega (arith, ge))
    last (suc (suc (suc zero))) i ge c = absurd (omega (arith, ge))
    last (suc (suc (suc (suc zero)))) i ge c = absurd (omega (arith, ge))
    last (suc (suc (suc (suc (suc zero))))) i ge c = absurd (omega (arith, ge))
    last (suc (suc (suc (suc (suc (suc zero)))))) i ge c = absurd (omega (arith, ge))
    last (suc (suc (suc (suc (suc (suc (suc k))))))) i ge c = g.2 i c

    by : (x.check < 7) ⊎ (7 ≤ x.check) → ⊥
    by (inl lt) = ordered ms order tw g.0 g.1 x.check lt x.at x.first.here
    by (inr ge) = last x.check x.at ge x.first.here
