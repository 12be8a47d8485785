-- Why members with labels, an order and twisted labels are no network, in the order in which it is looked for.
use Rattle.std.specs.Prelude.{◌≡◌, ◌≢◌, ◌≤◌, ◌<◌, ◌⊎◌, ◌++◌, ◌∷◌, [], if◌then◌else◌, ℕ, zero, suc, ℤ, pos, negsuc, unsigned_abs, true, Option, Some, None, List, length, take, map, count_by, nat_lt, int_lt, false, slice_index_or, Vec}
use Rattle.std.specs.Global.{Global}
use Rattle.std.specs.List.{All, Contains}
use Rattle.std.specs.Ordering.{int_eq}
use Rattle.qn_charge.specs.declared.factor.Factor.{Factor}
use Rattle.qn_charge.specs.Charges.{IsGroup}
use Rattle.qn_charge.specs.Firsts.{IsFirst, HasNone}
use Rattle.qn_value.specs.Networks.{End, same_end}
use Rattle.qn_value.specs.Labels.{Slot}
use Rattle.qn_net.specs.declared.fault.NetFault.{NetFault}
use Rattle.qn_net.specs.declared.fault.NetFault.TheVariants.{LabelArity, LabelRange, LabelCount, Arrow, Sectors, OpenLabels, Order, Twist, Memory}
use Rattle.qn_net.specs.Members.{LabelledMember, member_tensor, member_at, placed_member, slots_of_members, ends_of_members, IsHeld, IsMemberOf}
use Rattle.qn_net.specs.NetworkValues.{NetworkValue, IsWellFormed}

-- a label is from -1,024 to 1,024 and not 0
abbrev pub IsLabel : ℤ → Type 0
IsLabel l = (l ≢ pos 0) × (unsigned_abs l ≤ 1024)

abbrev pub label_at : List ℤ → ℕ → ℤ
label_at ls j = slice_index_or ls j (pos 0)

-- the j-th label is none
abbrev pub BadLabelAt : List ℤ → ℕ → Type 0
BadLabelAt ls j = (j < length ls) × (IsLabel (label_at ls j) → ⊥)

-- not one label for each leg
abbrev pub BadArity : LabelledMember → Type 0
BadArity m = length m.labels ≢ length (member_tensor m.member).legs

-- the i-th member has not one label for each leg, or a label that is none
abbrev pub BadMemberAt : List LabelledMember → ℕ → Type 0
BadMemberAt ms i = (i < length ms) × (BadArity (member_at ms i) ⊎ ((j : ℕ) × BadLabelAt (member_at ms i).labels j))

-- how many legs have the label
abbrev pub legs_with : ℤ → List End → ℕ
legs_with l es = count_by (λ e. int_eq e.label l) es

-- the label n stands, but not on two legs
abbrev pub IsMiscounted : List End → ℕ → Type 0
IsMiscounted es n = (legs_with (pos n) es ≢ 0) × (legs_with (pos n) es ≢ 2)

-- the label -1 - n stands on more than one leg
abbrev pub IsRepeated : List End → ℕ → Type 0
IsRepeated es n = 1 < legs_with (negsuc n) es

-- how many legs are this end of a line
abbrev pub tally : End → List End → ℕ
tally e es = count_by (λ f. same_end f e) es

-- two legs with the label n have the same arrow
abbrev pub HasEqualArrows : List End → ℕ → Type 0
HasEqualArrows es n = (1 < tally (record { label = pos n; inward = true }) es) ⊎ (1 < tally (record { label = pos n; inward = false }) es)

abbrev pub no_slot : Slot
no_slot = record { end = record { label = pos 0; inward = true }; sectors = [] }

abbrev pub slot_at : List Slot → ℕ → Slot
slot_at ss i = slice_index_or ss i no_slot

-- two legs with the label n have different sectors
abbrev pub HasUnequalSectors : List Slot → ℕ → Type 0
HasUnequalSectors ss n =
    (i : ℕ) × (j : ℕ) × (i < length ss) × (j < length ss) × ((slot_at ss i).end.label ≡ pos n) × ((slot_at ss j).end.label ≡ pos n)
    × ((slot_at ss i).sectors ≢ (slot_at ss j).sectors)

-- the label -1 - n is missing above one that stands
abbrev pub IsGap : List End → ℕ → Type 0
IsGap es n = (legs_with (negsuc n) es ≡ 0) × ((k : ℕ) × (n < k) × (0 < legs_with (negsuc k) es))

-- the label is no positive one that stands
abbrev pub IsNoPositive : List End → ℤ → Type 0
IsNoPositive es (pos n) = legs_with (pos n) es ≡ 0
IsNoPositive es (negsuc n) = Unit {0}

-- the i-th label of the order is no positive one that stands, or stands before in the order
abbrev pub BadPlaceAt : List End → List ℤ → ℕ → Type 0
BadPlaceAt es order i = (i < length order) × (IsNoPositive es (label_at order i) ⊎ Contains (take i order) (label_at order i))

-- a positive label that stands is not in the order
abbrev pub LacksLabel : List End → List ℤ → Type 0
LacksLabel es order = (n : ℕ) × (0 < legs_with (pos n) es) × (Contains order (pos n) → ⊥)

-- the first bad place of the order, or one past its end where it lacks a label
abbrev pub IsOrderFault : List End → List ℤ → ℕ → Type 0
IsOrderFault es order place =
    IsFirst (BadPlaceAt es order) place ⊎ (HasNone (BadPlaceAt es order) × (place ≡ length order) × LacksLabel es order)

-- the i-th label is not above the one before it
abbrev pub IsNotAbove : List ℤ → ℕ → Type 0
IsNotAbove ls zero = ⊥
IsNotAbove ls (suc i) = int_lt (label_at ls i) (label_at ls (suc i)) ≡ false

-- the i-th twisted label is no positive one that stands, or is not above the one before it
abbrev pub BadTwistAt : List End → List ℤ → ℕ → Type 0
BadTwistAt es twist i = (i < length twist) × (IsNoPositive es (label_at twist i) ⊎ IsNotAbove twist i)

-- each member has a label for each leg
abbrev pub HaveLabels : List LabelledMember → Type 0
HaveLabels ms = HasNone (BadMemberAt ms)

-- and positive labels stand on two legs each, negative ones on one at most
abbrev pub AreCounted : List LabelledMember → Type 0
AreCounted ms = HaveLabels ms × HasNone (IsMiscounted (ends_of_members ms)) × HasNone (IsRepeated (ends_of_members ms))

-- and the two have opposite arrows
abbrev pub AreOpposite : List LabelledMember → Type 0
AreOpposite ms = AreCounted ms × HasNone (HasEqualArrows (ends_of_members ms))

-- and the same sectors
abbrev pub AreMeeting : List LabelledMember → Type 0
AreMeeting ms = AreOpposite ms × HasNone (HasUnequalSectors (slots_of_members ms))

-- and no negative label is missing
abbrev pub AreLabelled : List LabelledMember → Type 0
AreLabelled ms = AreMeeting ms × HasNone (IsGap (ends_of_members ms))

-- the order, where one is given, has each positive label that stands, once
abbrev pub IsGoodOrder : List End → Option (List ℤ) → Type 0
IsGoodOrder es None = Unit {0}
IsGoodOrder es (Some order) = HasNone (BadPlaceAt es order) × (LacksLabel es order → ⊥)

-- the twisted labels ascend, and each is a positive one that stands
abbrev pub AreGoodTwists : List End → List ℤ → Type 0
AreGoodTwists es twist = HasNone (BadTwistAt es twist)

-- nothing is wrong
abbrev pub IsFaultless : List LabelledMember → Option (List ℤ) → List ℤ → Type 0
IsFaultless ms order twist = AreLabelled ms × IsGoodOrder (ends_of_members ms) order × AreGoodTwists (ends_of_members ms) twist

-- the first fault: member by member the number of labels and their range; then the counts of the positive labels, ascending, and of -1, -2, ..;
-- the arrows, and then the sectors, each by ascending label; a gap among the negative labels; the order; and the twisted labels
abbrev pub IsNetFault : List LabelledMember → Option (List ℤ) → List ℤ → NetFault → Type 0
IsNetFault ms order twist (LabelArity t) = IsFirst (BadMemberAt ms) t × BadArity (member_at ms t)
IsNetFault ms order twist (LabelRange t j) =
    IsFirst (BadMemberAt ms) t × (length (member_at ms t).labels ≡ length (member_tensor (member_at ms t).member).legs) × IsFirst (BadLabelAt (member_at ms t).labels) j
IsNetFault ms order twist (LabelCount (pos n)) = HaveLabels ms × IsFirst (IsMiscounted (ends_of_members ms)) n
IsNetFault ms order twist (LabelCount (negsuc n)) = HaveLabels ms × HasNone (IsMiscounted (ends_of_members ms)) × IsFirst (IsRepeated (ends_of_members ms)) n
IsNetFault ms order twist (Arrow (pos n)) = AreCounted ms × IsFirst (HasEqualArrows (ends_of_members ms)) n
IsNetFault ms order twist (Arrow (negsuc n)) = ⊥
IsNetFault ms order twist (Sectors (pos n)) = AreOpposite ms × IsFirst (HasUnequalSectors (slots_of_members ms)) n
IsNetFault ms order twist (Sectors (negsuc n)) = ⊥
IsNetFault ms order twist (OpenLabels (pos n)) = ⊥
IsNetFault ms order twist (OpenLabels (negsuc n)) = AreMeeting ms × IsFirst (IsGap (ends_of_members ms)) n
IsNetFault ms None twist (Order place) = ⊥
IsNetFault ms (Some order) twist (Order place) = AreLabelled ms × IsOrderFault (ends_of_members ms) order place
IsNetFault ms order twist (Twist place) = AreLabelled ms × IsGoodOrder (ends_of_members ms) order × IsFirst (BadTwistAt (ends_of_members ms) twist) place
IsNetFault ms order twist Memory = Unit {0}

-- the positive labels below n that stand, ascending
abbrev pub positives_below : List End → ℕ → List ℤ
positives_below es zero = []
positives_below es (suc n) = positives_below es n ++ (if nat_lt 0 (legs_with (pos n) es) then pos n ∷ [] else [])

-- the positive labels that stand, ascending
unfoldable pub positives : List End → List ℤ
positives es = positives_below es 1025

-- the given order; without one, the positive labels ascending
abbrev pub order_or : List End → Option (List ℤ) → List ℤ
order_or es None = positives es
order_or es (Some order) = order

-- the order, where one is given
abbrev pub given : Option (Vec ℤ Global) → Option (List ℤ)
given None = None
given (Some v) = Some v.items

-- what is wrong with the order alone
abbrev pub IsChoiceFault : List End → Option (List ℤ) → NetFault → Type 0
IsChoiceFault es (Some order) (Order place) = IsOrderFault es order place
IsChoiceFault es order Memory = Unit {0}
IsChoiceFault es order fault = ⊥

-- the network of these members
abbrev pub network_of : List Factor → List LabelledMember → Option (List ℤ) → List ℤ → NetworkValue
network_of fs ms order twist = record { group = fs; members = map placed_member ms; order = order_or (ends_of_members ms) order; twists = twist }

-- members whose labels, order and twisted labels have no fault are a well-formed network
abbrev pub WellFormedLaw : Type 0
WellFormedLaw =
    (fs : List Factor) (ms : List LabelledMember) (order : Option (List ℤ)) (twist : List ℤ) → IsGroup fs → 0 < length ms → All (IsMemberOf fs) ms → All (λ m. IsHeld m.member) ms →
    IsFaultless ms order twist → IsWellFormed (network_of fs ms order twist)
