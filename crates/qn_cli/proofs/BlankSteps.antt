-- A plan does not depend on the entries of the tensors, nor does the step that is too wide: both go by their legs, their fluxes and their roles.
use Rattle.std.proofs.Common.{◌≡◌, ℕ, suc, ◌||◌, ℤ, List, [], ◌∷◌, ◌++◌, map, Bool, true, false, Option, Some, None, if◌then◌else◌, nat_lt, refl, sym, ap, ap₂, ◌∙◌}
use Rattle.std.proofs.lemmas.List.{map-append}
use Rattle.std.specs.Ordering.{int_eq}
use Rattle.qn_sign.specs.Sign.{is_in, xor}
use Rattle.qn_gauss.specs.Gaussian.{zero_g}
use Rattle.qn_charge.specs.declared.factor.Factor.{Factor}
use Rattle.qn_index.specs.Legs.{SectorValue}
use Rattle.qn_value.specs.Networks.{Node, Bond, Parities, labels, odd_flux}
use Rattle.qn_value.specs.Fluxes.{sum_flux}
use Rattle.qn_value.specs.Blocks.{legs_on}
use Rattle.qn_value.specs.Labels.{Slot, sectors_on, parity_of, bonds_of}
use Rattle.qn_match.specs.Cost.{cost_of}
use Rattle.qn_net.specs.Groups.{Member, Listed, TensorGroup, nodes, flux_of, place_member, merged, joined, closed}
use Rattle.qn_net.specs.Steps.{Step, State, result, after, carry, fuses, written}
use Rattle.qn_net.specs.Steps.Step.{pair, trace}
use Rattle.qn_net.specs.Plans.{Found, has_label, past, find, meet_second, meet_first, taken, products, all_products, plan, start, first_state}
use Rattle.qn_net.specs.Plans.Found.{nowhere, found}
use Rattle.qn_net.specs.NetworkValues.{NetworkValue, legs_of, member_of, begin, bonds, parities, sectors, steps}
use Rattle.qn_plan.specs.Planned.{StepValue, is_too_wide, first_wide_from, first_wide, planned}
use Rattle.qn_plan.specs.Shapes.{shared_places}
use Rattle.qn_cli.proofs.SameSteps.{planned_by, plan_is}

-- ---- without entries

abbrev blank : Node → Node
blank x = record { ends = x.ends; entry = λ xs. zero_g; odd = x.odd }

abbrev blank_listed : Listed → Listed
blank_listed m = record { number = m.number; node = blank m.node; flux = m.flux }

abbrev blank_group : TensorGroup → TensorGroup
blank_group g = record { number = g.number; node = blank g.node; members = map blank_listed g.members; summed = g.summed; role = g.role }

abbrev blank_state : State → State
blank_state s = record { groups = map blank_group s.groups; left = s.left }

abbrev blank_step : Step → Step
blank_step (pair before g between h behind bonds left) =
    pair (map blank_group before) (blank_group g) (map blank_group between) (blank_group h) (map blank_group behind) bonds left
blank_step (trace before g behind bonds left) = trace (map blank_group before) (blank_group g) (map blank_group behind) bonds left

abbrev blank_found : Found → Found
blank_found nowhere = nowhere
blank_found (found before g behind) = found (map blank_group before) (blank_group g) (map blank_group behind)

abbrev pub blank_member : Member → Member
blank_member m = record { node = blank m.node; flux = m.flux; role = m.role }

listed_twice : (ms : List Listed) → map blank_listed (map blank_listed ms) ≡ map blank_listed ms
listed_twice [] = refl
listed_twice (m ∷ ms) = ap (λ (ns : List Listed). blank_listed m ∷ ns) (listed_twice ms)

abbrev group_with : TensorGroup → List Listed → TensorGroup
group_with g ms = record { number = g.number; node = blank g.node; members = ms; summed = g.summed; role = g.role }

groups_twice : (gs : List TensorGroup) → map blank_group (map blank_group gs) ≡ map blank_group gs
groups_twice [] = refl
groups_twice (g ∷ gs) = ap₂ (λ (x : TensorGroup) (xs : List TensorGroup). x ∷ xs) (ap (group_with g) (listed_twice g.members)) (groups_twice gs)

-- ---- groups that steps make

place_blank : (m : Listed) (ns : List Listed) → map blank_listed (place_member m ns) ≡ place_member (blank_listed m) (map blank_listed ns)
place_blank m [] = refl
place_blank m (n ∷ ns) = by (nat_lt m.number n.number) (place_blank m ns)
  where
    by : (b : Bool) → map blank_listed (place_member m ns) ≡ place_member (blank_listed m) (map blank_listed ns)
        → map blank_listed (if b then m ∷ n ∷ ns else n ∷ place_member m ns)
        ≡ (if b then blank_listed m ∷ blank_listed n ∷ map blank_listed ns else blank_listed n ∷ place_member (blank_listed m) (map blank_listed ns))
    by true e = refl
    by false e = ap (λ (ks : List Listed). blank_listed n ∷ ks) e

merged_blank : (ms ns : List Listed) → map blank_listed (merged ms ns) ≡ merged (map blank_listed ms) (map blank_listed ns)
merged_blank [] ns = refl
merged_blank (m ∷ ms) ns = place_blank m (merged ms ns) ∙ ap (place_member (blank_listed m)) (merged_blank ms ns)

joined_blank : (par : Parities) (b : Bool) (g h : TensorGroup) (bonds : List Bond) → blank_group (joined par b (blank_group g) (blank_group h) bonds) ≡ blank_group (joined par b g h bonds)
joined_blank par b g h bonds =
    ap (group_with (joined par b g h bonds))
    (merged_blank (map blank_listed g.members) (map blank_listed h.members)
    ∙ (ap₂ merged (listed_twice g.members) (listed_twice h.members) ∙ sym (merged_blank g.members h.members)))

closed_blank : (par : Parities) (g : TensorGroup) (bonds : List Bond) → blank_group (closed par (blank_group g) bonds) ≡ blank_group (closed par g bonds)
closed_blank par g bonds = ap (group_with (closed par g bonds)) (listed_twice g.members)

joined_same : (par : Parities) (b : Bool) (g k h l : TensorGroup) (bonds : List Bond) → blank_group g ≡ blank_group k → blank_group h ≡ blank_group l
    → blank_group (joined par b g h bonds) ≡ blank_group (joined par b k l bonds)
joined_same par b g k h l bonds e f =
    sym (joined_blank par b g h bonds) ∙ (ap₂ (λ (x y : TensorGroup). blank_group (joined par b x y bonds)) e f ∙ joined_blank par b k l bonds)

odd_blank : (gs : List TensorGroup) → odd_flux (nodes (map blank_group gs)) ≡ odd_flux (nodes gs)
odd_blank [] = refl
odd_blank (g ∷ gs) = ap (xor g.node.odd) (odd_blank gs)

result_blank : (par : Parities) (t : Step) → blank_group (result par (blank_step t)) ≡ blank_group (result par t)
result_blank par (pair before g between h behind bonds left) =
    ap (λ b. blank_group (joined par b (blank_group g) (blank_group h) bonds)) (odd_blank between) ∙ joined_blank par (odd_flux (nodes between)) g h bonds
result_blank par (trace before g behind bonds left) = closed_blank par g bonds

placed_blank : (before behind : List TensorGroup) (r s : TensorGroup) → blank_group r ≡ blank_group s
    → map blank_group (map blank_group before ++ (r ∷ map blank_group behind)) ≡ map blank_group (before ++ (s ∷ behind))
placed_blank before behind r s e =
    map-append blank_group (map blank_group before) (r ∷ map blank_group behind)
    ∙ (ap₂ (λ (xs ys : List TensorGroup). xs ++ ys) (groups_twice before) (ap₂ (λ (x : TensorGroup) (xs : List TensorGroup). x ∷ xs) e (groups_twice behind))
    ∙ sym (map-append blank_group before (s ∷ behind)))

abbrev state_with : List Bond → List TensorGroup → State
state_with left gs = record { groups = gs; left = left }

after_blank : (par : Parities) (t : Step) → blank_state (after par (blank_step t)) ≡ blank_state (after par t)
after_blank par (pair before g between h behind bonds left) =
    let r = joined par (odd_flux (nodes (map blank_group between))) (blank_group g) (blank_group h) bonds in
    ap (state_with left)
    (ap (λ (ks : List TensorGroup). map blank_group (map blank_group before ++ (r ∷ ks))) (sym (map-append blank_group between behind))
    ∙ placed_blank before (between ++ behind) r (joined par (odd_flux (nodes between)) g h bonds) (result_blank par (pair before g between h behind bonds left)))
after_blank par (trace before g behind bonds left) =
    ap (state_with left) (placed_blank before behind (closed par (blank_group g) bonds) (closed par g bonds) (closed_blank par g bonds))

after_same : (par : Parities) (t u : Step) → blank_step t ≡ blank_step u → blank_state (after par t) ≡ blank_state (after par u)
after_same par t u e = sym (after_blank par t) ∙ (ap (λ (k : Step). blank_state (after par k)) e ∙ after_blank par u)

-- ---- steps

past_blank : (g : TensorGroup) (f : Found) → past (blank_group g) (blank_found f) ≡ blank_found (past g f)
past_blank g nowhere = refl
past_blank g (found before h behind) = refl

find_blank : (l : ℤ) (gs : List TensorGroup) → find l (map blank_group gs) ≡ blank_found (find l gs)
find_blank l [] = refl
find_blank l (g ∷ gs) = by (has_label l g) (find_blank l gs)
  where
    by : (b : Bool) → find l (map blank_group gs) ≡ blank_found (find l gs)
        → (if b then found [] (blank_group g) (map blank_group gs) else past (blank_group g) (find l (map blank_group gs))) ≡ blank_found (if b then found [] g gs else past g (find l gs))
    by true e = refl
    by false e = ap (past (blank_group g)) e ∙ past_blank g (find l gs)

second_blank : (left : List Bond) (before : List TensorGroup) (g : TensorGroup) (behind : List TensorGroup) (f : Found)
    → meet_second left (map blank_group before) (blank_group g) (map blank_group behind) (blank_found f) ≡ blank_step (meet_second left before g behind f)
second_blank left before g behind nowhere = refl
second_blank left before g behind (found between h rest) = refl

first_blank : (l : ℤ) (left : List Bond) (f : Found) → meet_first l left (blank_found f) ≡ map blank_step (meet_first l left f)
first_blank l left nowhere = refl
first_blank l left (found before g behind) =
    ap (λ (f : Found). meet_second left (map blank_group before) (blank_group g) (map blank_group behind) f ∷ []) (find_blank l behind)
    ∙ ap (λ (t : Step). t ∷ []) (second_blank left before g behind (find l behind))

taken_blank : (l : ℤ) (s : State) → taken l (blank_state s) ≡ map blank_step (taken l s)
taken_blank l s = by (is_in int_eq l (labels s.left))
  where
    by : (b : Bool) → (if b then meet_first l s.left (find l (map blank_group s.groups)) else []) ≡ map blank_step (if b then meet_first l s.left (find l s.groups) else [])
    by true = ap (meet_first l s.left) (find_blank l s.groups) ∙ first_blank l s.left (find l s.groups)
    by false = refl

taken_same : (l : ℤ) (s z : State) → blank_state s ≡ blank_state z → map blank_step (taken l s) ≡ map blank_step (taken l z)
taken_same l s z e = sym (taken_blank l s) ∙ (ap (taken l) e ∙ taken_blank l z)

-- what the steps make, without entries
abbrev results : Parities → List Step → List TensorGroup
results par ts = map (λ t. blank_group (result par t)) ts

results_blank : (par : Parities) (ts : List Step) → results par (map blank_step ts) ≡ results par ts
results_blank par [] = refl
results_blank par (t ∷ ts) = ap₂ (λ (x : TensorGroup) (xs : List TensorGroup). x ∷ xs) (result_blank par t) (results_blank par ts)

results_same : (par : Parities) (ts us : List Step) → map blank_step ts ≡ map blank_step us → results par ts ≡ results par us
results_same par ts us e = sym (results_blank par ts) ∙ (ap (results par) e ∙ results_blank par us)

abbrev head_or : {A : Type 0} → A → List A → A
head_or d [] = d
head_or d (x ∷ xs) = x

abbrev tail_of : {A : Type 0} → List A → List A
tail_of [] = []
tail_of (x ∷ xs) = xs

carry_same : (par : Parities) (ts us : List Step) (s z : State) → map blank_step ts ≡ map blank_step us → blank_state s ≡ blank_state z → blank_state (carry par ts s) ≡ blank_state (carry par us z)
carry_same par [] [] s z e h = h
carry_same par [] (u ∷ us) s z e h = absurd (cc e)
carry_same par (t ∷ ts) [] s z e h = absurd (cc e)
carry_same par (t ∷ ts) (u ∷ us) s z e h =
    carry_same par ts us (after par t) (after par u) (ap tail_of e) (after_same par t u (ap (head_or (blank_step t)) e))

products_same : (par : Parities) (left : List Bond) (g k : TensorGroup) (hs ls : List TensorGroup) → blank_group g ≡ blank_group k → map blank_group hs ≡ map blank_group ls
    → map blank_step (products par left g hs) ≡ map blank_step (products par left k ls)
products_same par left g k [] [] e f = refl
products_same par left g k [] (l ∷ ls) e f = absurd (cc f)
products_same par left g k (h ∷ hs) [] e f = absurd (cc f)
products_same par left g k (h ∷ hs) (l ∷ ls) e f =
    let made = joined_same par false g k h l [] e (ap (head_or (blank_group h)) f) in
    ap₂ (λ (t : Step) (ts : List Step). t ∷ ts) (λ i. pair [] (e i) [] (head_or (blank_group h) (f i)) (tail_of (f i)) [] left)
    (products_same par left (joined par false g h []) (joined par false k l []) hs ls made (ap tail_of f))

all_same : (par : Parities) (left : List Bond) (gs hs : List TensorGroup) → map blank_group gs ≡ map blank_group hs → map blank_step (all_products par left gs) ≡ map blank_step (all_products par left hs)
all_same par left [] [] e = refl
all_same par left [] (h ∷ hs) e = absurd (cc e)
all_same par left (g ∷ gs) [] e = absurd (cc e)
all_same par left (g ∷ gs) (h ∷ hs) e = products_same par left g h gs hs (ap (head_or (blank_group g)) e) (ap tail_of e)

plan_same : (par : Parities) (order : List ℤ) (s z : State) → blank_state s ≡ blank_state z → map blank_step (plan par order s) ≡ map blank_step (plan par order z)
plan_same par [] s z e =
    all_same par s.left s.groups z.groups (ap (λ (k : State). k.groups) e) ∙ ap (λ (bs : List Bond). map blank_step (all_products par bs z.groups)) (ap (λ (k : State). k.left) e)
plan_same par (l ∷ ls) s z e =
    let steps_are = taken_same l s z e in
    map-append blank_step (taken l s) (plan par ls (carry par (taken l s) s))
    ∙ (ap₂ (λ (xs ys : List Step). xs ++ ys) steps_are (plan_same par ls (carry par (taken l s) s) (carry par (taken l z) z) (carry_same par (taken l s) (taken l z) s z steps_are e))
    ∙ sym (map-append blank_step (taken l z) (plan par ls (carry par (taken l z) z))))

-- ---- the first wide step

abbrev wide_of : List Factor → (ℤ → List SectorValue) → TensorGroup → Bool
wide_of fs sectors r = is_too_wide fs (legs_on sectors r.node.ends) (flux_of fs r)

abbrev wide_in : List Factor → (ℤ → List SectorValue) → ℕ → List TensorGroup → Option ℕ
wide_in fs sectors n [] = None
wide_in fs sectors n (r ∷ rs) = if wide_of fs sectors r then Some n else wide_in fs sectors (suc n) rs

fluxes_blank : (ms : List Listed) → map (λ (m : Listed). m.flux) (map blank_listed ms) ≡ map (λ (m : Listed). m.flux) ms
fluxes_blank [] = refl
fluxes_blank (m ∷ ms) = ap (λ (qs : List (List ℤ)). m.flux ∷ qs) (fluxes_blank ms)

wide_blank : (fs : List Factor) (sectors : ℤ → List SectorValue) (r : TensorGroup) → wide_of fs sectors (blank_group r) ≡ wide_of fs sectors r
wide_blank fs sectors r = ap (λ (qs : List (List ℤ)). is_too_wide fs (legs_on sectors r.node.ends) (sum_flux fs qs)) (fluxes_blank r.members)

wide_is : (net : NetworkValue) (n : ℕ) (ts : List Step) → first_wide_from net n ts ≡ wide_in net.group (sectors net) n (results (parities net) ts)
wide_is net n [] = refl
wide_is net n (t ∷ ts) =
    ap₂ (λ b (o : Option ℕ). if b then Some n else o) (sym (wide_blank net.group (sectors net) (result (parities net) t))) (wide_is net (suc n) ts)

abbrev first_group : ℕ → Member → TensorGroup
first_group n m = record { number = n; node = m.node; members = record { number = n; node = m.node; flux = m.flux } ∷ []; summed = []; role = m.role }

start_blank : (n : ℕ) (ms : List Member) → map blank_group (start n ms) ≡ start n (map blank_member ms)
start_blank n [] = refl
start_blank n (m ∷ ms) = ap (λ (gs : List TensorGroup). blank_group (first_group n m) ∷ gs) (start_blank (suc n) ms)

start_same : (bs : List Bond) (ms ns : List Member) → map blank_member ms ≡ map blank_member ns → blank_state (first_state ms bs) ≡ blank_state (first_state ns bs)
start_same bs ms ns e = ap (state_with bs) (start_blank 1 ms ∙ (ap (start 1) e ∙ sym (start_blank 1 ns)))

-- networks with the same group, order, twisted labels and legs, whose members differ at most in their entries
pub record AreSameButEntries (m n : NetworkValue) : Type 0 where
  pub group : m.group ≡ n.group
  pub order : m.order ≡ n.order
  pub twists : m.twists ≡ n.twists
  pub legs : legs_of m ≡ legs_of n
  pub members : map blank_member (map member_of m.members) ≡ map blank_member (map member_of n.members)

steps_same : (m n : NetworkValue) → AreSameButEntries m n → map blank_step (steps m) ≡ map blank_step (steps n)
steps_same m n s =
    plan_same (parities m) m.order (begin m) (first_state (map member_of n.members) (bonds m)) (start_same (bonds m) (map member_of m.members) (map member_of n.members) s.members)
    ∙ (λ i. map blank_step (plan (parity_of (s.group i) (s.legs i)) (s.order i) (first_state (map member_of n.members) (bonds_of (s.twists i) (s.legs i)))))

pub same_width_without_entries : (m n : NetworkValue) → AreSameButEntries m n → first_wide m ≡ first_wide n
same_width_without_entries m n s =
    wide_is m 1 (steps m)
    ∙ (ap (wide_in m.group (sectors m) 1) (results_same (parities m) (steps m) (steps n) (steps_same m n s))
    ∙ ((λ i. wide_in (s.group i) (sectors_on (s.legs i)) 1 (results (parity_of (s.group i) (s.legs i)) (steps n))) ∙ sym (wide_is n 1 (steps n))))

-- ---- the plan

flux_blank : (fs : List Factor) (g : TensorGroup) → flux_of fs (blank_group g) ≡ flux_of fs g
flux_blank fs g = ap (λ (qs : List (List ℤ)). sum_flux fs qs) (fluxes_blank g.members)

planned_blank : (fs : List Factor) (ss : List Slot) (t : Step) → planned_by fs ss (blank_step t) ≡ planned_by fs ss t
planned_blank fs ss (pair before g between h behind bonds left) =
    let cost : ℕ → StepValue = λ n. record { kind = (written (pair before g between h behind bonds left)).kind; first = g.number; second = h.number; labels = labels bonds; cost = n } in
    ap₂ (λ (p q : List ℤ). cost (if fuses g bonds || fuses h bonds then 0 else
    cost_of fs (legs_on (sectors_on ss) g.node.ends) p (legs_on (sectors_on ss) h.node.ends) q (shared_places g.node.ends h.node.ends (labels bonds)))) (flux_blank fs g) (flux_blank fs h)
planned_blank fs ss (trace before g behind bonds left) = refl

all_blank : (fs : List Factor) (ss : List Slot) (ts : List Step) → map (planned_by fs ss) (map blank_step ts) ≡ map (planned_by fs ss) ts
all_blank fs ss [] = refl
all_blank fs ss (t ∷ ts) = ap₂ (λ (k : StepValue) (ks : List StepValue). k ∷ ks) (planned_blank fs ss t) (all_blank fs ss ts)

pub same_plan_without_entries : (m n : NetworkValue) → AreSameButEntries m n → planned m ≡ planned n
same_plan_without_entries m n s =
    let fs = m.group in
    let ss = legs_of m in
    plan_is m (steps m)
    ∙ (sym (all_blank fs ss (steps m))
    ∙ (ap (map (planned_by fs ss)) (steps_same m n s) ∙ (all_blank fs ss (steps n) ∙ ((λ i. map (planned_by (s.group i) (s.legs i)) (steps n)) ∙ sym (plan_is n (steps n))))))
