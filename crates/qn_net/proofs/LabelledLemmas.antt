-- The labels of members whose labels have no fault.
use Rattle.std.proofs.Common.{◌≢◌, ◌≤◌, ◌<◌, zero, suc, ℤ, pos, negsuc, Option, Some, None, List, [], ◌∷◌, ◌++◌, refl, sym, subst, ◌⊎◌, inl, inr, arith}
use Rattle.std.specs.List.{All}
use Rattle.std.proofs.lemmas.Bool.{cases_lt}
use Rattle.qn_charge.specs.Firsts.{HasNone}
use Rattle.qn_index.specs.Legs.{LegValue}
use Rattle.qn_value.specs.Networks.{End}
use Rattle.qn_value.specs.Labels.{slots_of, ends}
use Rattle.qn_net.specs.Members.{LabelledMember, member_tensor, slots_of_members, ends_of_members}
use Rattle.qn_net.specs.declared.fault.NetFault.{NetFault}
use Rattle.qn_net.specs.declared.fault.NetFault.TheVariants.{LabelArity, LabelRange, LabelCount, Arrow, Sectors, OpenLabels, Order, Twist, Memory}
use Rattle.qn_net.specs.Refusals.{IsLabel, BadLabelAt, HaveLabels, AreLabelled, IsChoiceFault, IsNetFault}
use Rattle.qn_net.specs.Tables.{HasLabel}
use Rattle.std.proofs.lemmas.List.{map-append}

-- a number is a label, or it is none
label_or_not : (l : ℤ) → IsLabel l ⊎ (IsLabel l → ⊥)
label_or_not (pos zero) = inr (λ h. h.0 refl)
label_or_not (pos (suc n)) = go (cases_lt 1024 (suc n))
  where
    some : pos (suc n) ≢ pos 0
    some e = cc

    go : (1024 < suc n) ⊎ (suc n ≤ 1024) → IsLabel (pos (suc n)) ⊎ (IsLabel (pos (suc n)) → ⊥)
    go (inl l) = inr (λ h. absurd (omega (arith, h.1, l)))
    go (inr l) = inl (some, l)
label_or_not (negsuc n) = go (cases_lt 1024 (suc n))
  where
    some : negsuc n ≢ pos 0
    some e = cc

    go : (1024 < suc n) ⊎ (suc n ≤ 1024) → IsLabel (negsuc n) ⊎ (IsLabel (negsuc n) → ⊥)
    go (inl l) = inr (λ h. absurd (omega (arith, h.1, l)))
    go (inr l) = inl (some, l)

-- each end has a label

abbrev AllLabels : List End → Type 0
AllLabels [] = Unit {0}
AllLabels (e ∷ es) = HasLabel e × AllLabels es

all_labels-append : (es fs : List End) → AllLabels es → AllLabels fs → AllLabels (es ++ fs)
all_labels-append [] fs h k = k
all_labels-append (e ∷ es) fs h k = (h.0, all_labels-append es fs h.1 k)

all_labels-all : (es : List End) → AllLabels es → All HasLabel es
all_labels-all [] h k d l = absurd (omega (arith, l))
all_labels-all (e ∷ es) h zero d l = h.0
all_labels-all (e ∷ es) h (suc k) d l = all_labels-all es h.1 k d (omega (arith, l))

labels_of_legs : (gs : List LegValue) (ls : List ℤ) → HasNone (BadLabelAt ls) → AllLabels (ends (slots_of gs ls))
labels_of_legs [] ls h = tt
labels_of_legs (g ∷ gs) [] h = tt
labels_of_legs (g ∷ gs) (l ∷ ls) h = (go (label_or_not l), labels_of_legs gs ls (λ j b. h (suc j) (omega (arith, b.0), b.1)))
  where
    go : IsLabel l ⊎ (IsLabel l → ⊥) → IsLabel l
    go (inl k) = k
    go (inr n) = absurd (h 0 (omega arith, n))

labels_of_members : (ms : List LabelledMember) → HaveLabels ms → AllLabels (ends_of_members ms)
labels_of_members [] h = tt
labels_of_members (m ∷ ms) h =
    subst AllLabels (sym (map-append (λ s. s.end) (slots_of (member_tensor m.member).legs m.labels) (slots_of_members ms)))
    (all_labels-append (ends (slots_of (member_tensor m.member).legs m.labels)) (ends_of_members ms)
    (labels_of_legs (member_tensor m.member).legs m.labels (λ j b. h 0 (omega arith, inr (j, b))))
    (labels_of_members ms (λ i b. h (suc i) (omega (arith, b.0), b.1))))

pub have_labels : (ms : List LabelledMember) → HaveLabels ms → All HasLabel (ends_of_members ms)
have_labels ms h = all_labels-all (ends_of_members ms) (labels_of_members ms h)

-- where the labels have no fault, that of the order is the first one
pub choice_fault : (ms : List LabelledMember) (order : Option (List ℤ)) (twist : List ℤ) (f : NetFault) → AreLabelled ms → IsChoiceFault (ends_of_members ms) order f → IsNetFault ms order twist f
choice_fault ms (Some order) twist (Order place) l h = (l, h)
choice_fault ms None twist (Order place) l h = h
choice_fault ms None twist Memory l h = tt
choice_fault ms (Some order) twist Memory l h = tt
choice_fault ms None twist (LabelArity t) l h = absurd h
choice_fault ms (Some order) twist (LabelArity t) l h = absurd h
choice_fault ms None twist (LabelRange t j) l h = absurd h
choice_fault ms (Some order) twist (LabelRange t j) l h = absurd h
choice_fault ms None twist (LabelCount k) l h = absurd h
choice_fault ms (Some order) twist (LabelCount k) l h = absurd h
choice_fault ms None twist (Arrow k) l h = absurd h
choice_fault ms (Some order) twist (Arrow k) l h = absurd h
choice_fault ms None twist (Sectors k) l h = absurd h
choice_fault ms (Some order) twist (Sectors k) l h = absurd h
choice_fault ms None twist (OpenLabels k) l h = absurd h
choice_fault ms (Some order) twist (OpenLabels k) l h = absurd h
choice_fault ms None twist (Twist place) l h = absurd h
choice_fault ms (Some order) twist (Twist place) l h = absurd h
