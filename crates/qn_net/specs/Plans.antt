-- The plan of a network: the steps that an order of its labels gives.
-- NCON, arXiv:1402.0939.
use Rattle.std.specs.Prelude.{◌≡◌, ℕ, suc, ℤ, Bool, true, false, ◌&&◌, ◌||◌, not, List, [], ◌∷◌, ◌++◌, filter, if◌then◌else◌}
use Rattle.std.specs.Ordering.{int_eq}
use Rattle.qn_sign.specs.Sign.{is_in}
use Rattle.qn_value.specs.Networks.{Bond, Parities, same_end, labels}
use Rattle.qn_net.specs.Groups.{Member, TensorGroup, joined}
use Rattle.qn_net.specs.Steps.{Step, State, carry}
use Rattle.qn_net.specs.Steps.Step.{pair, trace}

-- one end of a line is a leg of the group
abbrev pub has_end : ℤ → Bool → TensorGroup → Bool
has_end l inward g = is_in same_end (record { label = l; inward = inward }) g.node.ends

abbrev pub has_label : ℤ → TensorGroup → Bool
has_label l g = has_end l true g || has_end l false g

-- the first group with a label, what stands before it and what stands behind it
pub data Found : Type 0 where
  nowhere : Found
  found : (before : List TensorGroup) (group : TensorGroup) (behind : List TensorGroup) → Found

abbrev pub past : TensorGroup → Found → Found
past g nowhere = nowhere
past g (found before h behind) = found (g ∷ before) h behind

abbrev pub find : ℤ → List TensorGroup → Found
find l [] = nowhere
find l (g ∷ gs) = if has_label l g then found [] g gs else past g (find l gs)

-- the lines whose labels pass the test
abbrev pub select : (ℤ → Bool) → List Bond → List Bond
select test bs = filter (λ b. test b.label) bs

-- whether two groups share a line
abbrev pub shared : TensorGroup → TensorGroup → ℤ → Bool
shared g h l = has_label l g && has_label l h

-- whether both ends of a line are legs of one group
abbrev pub coupled : TensorGroup → ℤ → Bool
coupled g l = has_end l true g && has_end l false g

-- where another group has the label, the two are contracted over all lines that they share; else the one is summed over all lines of its own
abbrev pub meet_second : List Bond → List TensorGroup → TensorGroup → List TensorGroup → Found → Step
meet_second left before g behind nowhere = trace before g behind (select (coupled g) left) (select (λ l. not (coupled g l)) left)
meet_second left before g behind (found between h rest) =
    pair before g between h rest (select (shared g h) left) (select (λ l. not (shared g h l)) left)

abbrev pub meet_first : ℤ → List Bond → Found → List Step
meet_first l left nowhere = []
meet_first l left (found before g behind) = meet_second left before g behind (find l behind) ∷ []

-- the step at a label; none where it was already summed
abbrev pub taken : ℤ → State → List Step
taken l s = if is_in int_eq l (labels s.left) then meet_first l s.left (find l s.groups) else []

-- what is not connected: the first two are multiplied, until one is left
abbrev pub products : Parities → List Bond → TensorGroup → List TensorGroup → List Step
products par left g [] = []
products par left g (h ∷ hs) = pair [] g [] h hs [] left ∷ products par left (joined par false g h []) hs

abbrev pub all_products : Parities → List Bond → List TensorGroup → List Step
all_products par left [] = []
all_products par left (g ∷ gs) = products par left g gs

-- the steps: the labels are taken in order, and then what is left is multiplied
abbrev pub plan : Parities → List ℤ → State → List Step
plan par [] s = all_products par s.left s.groups
plan par (l ∷ ls) s = taken l s ++ plan par ls (carry par (taken l s) s)

-- each member is a group of its own, numbered from n
abbrev pub start : ℕ → List Member → List TensorGroup
start n [] = []
start n (m ∷ ms) =
    record { number = n; node = m.node; members = record { number = n; node = m.node; flux = m.flux } ∷ []; summed = []; role = m.role } ∷ start (suc n) ms

-- before the first step
abbrev pub first_state : List Member → List Bond → State
first_state ms bonds = record { groups = start 1 ms; left = bonds }

-- no group has a leg with the label
abbrev pub NoneHave : ℤ → List TensorGroup → Type 0
NoneHave l [] = Unit {0}
NoneHave l (g ∷ gs) = (has_label l g ≡ false) × NoneHave l gs

-- the step at a label, where the first group that has it was found, and another one or none
abbrev pub TakenLaw : Type 0
TakenLaw =
    (l : ℤ) (left : List Bond) →
    ((gs : List TensorGroup) → is_in int_eq l (labels left) ≡ false → taken l (record { groups = gs; left = left }) ≡ [])
    × ((before : List TensorGroup) (g : TensorGroup) (behind : List TensorGroup) → is_in int_eq l (labels left) ≡ true → NoneHave l before → has_label l g ≡ true → NoneHave l behind →
    taken l (record { groups = before ++ (g ∷ behind); left = left }) ≡
    trace before g behind (select (coupled g) left) (select (λ k. not (coupled g k)) left) ∷ [])
    × ((before : List TensorGroup) (g : TensorGroup) (between : List TensorGroup) (h : TensorGroup) (behind : List TensorGroup) → is_in int_eq l (labels left) ≡ true →
    NoneHave l before → has_label l g ≡ true → NoneHave l between → has_label l h ≡ true →
    taken l (record { groups = before ++ (g ∷ (between ++ (h ∷ behind))); left = left }) ≡
    pair before g between h behind (select (shared g h) left) (select (λ k. not (shared g h k)) left) ∷ [])
