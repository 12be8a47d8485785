-- Steps that fuse or split: one of the two tensors is the table of a combiner, summed over just the legs that it combines.
-- Singh, Pfeifer and Vidal 2010; combiners as in Fishman, White and Stoudenmire 2022.
use Rattle.std.specs.Prelude.{◌≡◌, ◌≢◌, ◌≤◌, ◌<◌, ◌⊎◌, ◌==◌, ◌&&◌, ℕ, ℤ, true, None, List, [], ◌∷◌, ◌++◌, length, map}
use Rattle.std.specs.List.{All, Contains}
use Rattle.qn_sign.specs.Sign.{IsDistinct, exchange_sign}
use Rattle.qn_sign.specs.Positions.{positions, is_odd_at}
use Rattle.qn_gauss.specs.Gaussian.{zero_g, mul_g, signed, limit}
use Rattle.qn_charge.specs.declared.factor.Factor.{Factor}
use Rattle.qn_index.specs.Legs.{SectorValue, LegValue}
use Rattle.qn_index.specs.Places.{IsValues}
use Rattle.qn_value.specs.Networks.{End, Node, Bond, Assignment, Parities, same_end, word, goal, sign, values, at_values, kept, odd_flux}
use Rattle.qn_value.specs.Tensors.{TensorValue, entry_of}
use Rattle.qn_value.specs.Labels.{Placed, node_of}
use Rattle.qn_value.specs.Blocks.{legs_on}
use Rattle.qn_value.specs.Local.{picked, parities as leg_parities}
use Rattle.qn_value.specs.Rows.{meet_on}
use Rattle.qn_value.specs.Magnitudes.{mag_at, first_passing}
use Rattle.qn_block.specs.Combiners.{CombinerValue, IsCombiner}
use Rattle.qn_block.specs.Tables.{fuse_tensor, split_tensor}
use Rattle.qn_net.specs.Groups.{Role, TensorGroup, nodes}
use Rattle.qn_net.specs.Groups.Role.{tensor, fuse_table, split_table}
use Rattle.qn_net.specs.Steps.{Step, State, result, carry, fuses, written, IsStepAt}
use Rattle.qn_net.specs.Steps.Kind.{fuse_step}
use Rattle.qn_net.specs.Steps.Step.{pair}
use Rattle.qn_net.specs.Tables.{no_end}
use Rattle.qn_net.specs.Carried.{IsSoundState, AllSound}
use Rattle.qn_net.specs.Passing.{step_magnitude, result_magnitude, first_passing_step, made}
use Rattle.qn_net.specs.NetworkValues.{PlacedMember, NetworkValue, IsWellFormed, parities, sectors, steps}
use Rattle.qn_net.specs.Members.{LabelledMember, placed_member, IsHeld}
use Rattle.qn_net.specs.Operations.{parities_on, IsNodeOf, AreLines}

-- the tensor is the table of the combiner that the role names
abbrev pub IsTableOf : CombinerValue → Role → TensorValue → Type 0
IsTableOf c tensor t = ⊥
IsTableOf c fuse_table t = t ≡ fuse_tensor c
IsTableOf c split_table t = t ≡ split_tensor c

-- no entry has a magnitude above the bound
abbrev pub IsBoundedBy : ℕ → Node → Type 0
IsBoundedBy bound n = (a : Assignment) → mag_at n a ≤ bound

-- a step that fuses or splits never passes: its sum of magnitudes is at most a bound of the other tensor's entries, so within the limit it has no passing place
abbrev pub NeverPasses : Parities → ℕ → Step → Type 0
NeverPasses par bound t =
    ((a : Assignment) → step_magnitude made t a ≤ bound)
    × (bound ≤ limit → (legs : List LegValue) (ts : List (List ℕ)) → first_passing (result_magnitude par made t) legs ts ≡ None)

abbrev pub FuseStepLaw : Type 0
FuseStepLaw =
    (fs : List Factor) (sectors : ℤ → List SectorValue) (opens : List End) (s : State)
    (before : List TensorGroup) (g : TensorGroup) (between : List TensorGroup) (h : TensorGroup) (behind : List TensorGroup) (bonds left : List Bond)
    (c : CombinerValue) (p : Placed) (bound : ℕ) →
    let par : Parities = parities_on fs sectors in
    let t : Step = pair before g between h behind bonds left in
    IsSoundState par opens s → IsStepAt s t → IsCombiner c →
    (IsNodeOf fs sectors p g.node → IsTableOf c g.role p.tensor → fuses g bonds ≡ true → IsBoundedBy bound h.node → NeverPasses par bound t)
    × (IsNodeOf fs sectors p h.node → IsTableOf c h.role p.tensor → fuses h bonds ≡ true → IsBoundedBy bound g.node → NeverPasses par bound t)

-- each member with the role of a table is the table of a combiner
abbrev pub AreTables : List PlacedMember → Type 0
AreTables ms = All (λ m. (m.role ≡ tensor) ⊎ ((c : CombinerValue) × IsCombiner c × IsTableOf c m.role m.placed.tensor)) ms

-- the tables of members are those of their combiners
abbrev pub MemberTablesLaw : Type 0
MemberTablesLaw = (ms : List LabelledMember) → All (λ m. IsHeld m.member) ms → AreTables (map placed_member ms)

-- where no step before it passes, a step that fuses or splits does not pass, in a network whose members' entries are within the limit
abbrev pub NeverFirstLaw : Type 0
NeverFirstLaw =
    (net : NetworkValue) (ts us : List Step) (t : Step) → IsWellFormed net → AreTables net.members → All (λ m. IsBoundedBy limit (node_of m.placed)) net.members →
    steps net ≡ ts ++ (t ∷ us) → (written t).kind ≡ fuse_step → first_passing_step (parities net) (sectors net) made 1 ts ≡ None →
    (n : ℕ) → first_passing_step (parities net) (sectors net) made n (t ∷ []) ≡ None

-- after any steps a group with the role of a table is one that no step has touched
abbrev pub RolesLaw : Type 0
RolesLaw =
    (par : Parities) (opens : List End) (ts us : List Step) (s : State) → AllSound par opens (ts ++ us) s →
    All (λ g. (g.role ≡ tensor) ⊎ Contains s.groups g) (carry par ts s).groups

-- of the two tensors, one is the table of a combiner that the step fuses or splits by, and its entry at these values is not 0
abbrev pub IsFusedAt : CombinerValue → List Bond → TensorGroup → Placed → List ℕ → Type 0
IsFusedAt c bonds g p us = IsTableOf c g.role p.tensor × (fuses g bonds ≡ true) × (entry_of p.tensor us ≢ zero_g)

-- the entry of a step that fuses or splits: at values that meet, where the table's entry is not 0, it is the one summand
abbrev pub FuseEntryLaw : Type 0
FuseEntryLaw =
    (fs : List Factor) (sectors : ℤ → List SectorValue) (opens : List End) (s : State)
    (before : List TensorGroup) (g : TensorGroup) (between : List TensorGroup) (h : TensorGroup) (behind : List TensorGroup) (bonds left : List Bond)
    (c : CombinerValue) (p q : Placed) (us vs : List ℕ) →
    let par : Parities = parities_on fs sectors in
    let t : Step = pair before g between h behind bonds left in
    let ns : List Node = g.node ∷ h.node ∷ [] in
    let k : Assignment = at_values (word ns) (us ++ vs) in
    IsSoundState par opens s → IsStepAt s t → AreLines sectors s.left → IsCombiner c → IsNodeOf fs sectors p g.node → IsNodeOf fs sectors q h.node →
    IsValues p.tensor.legs us → IsValues q.tensor.legs vs → meet_on bonds k ≡ true →
    IsFusedAt c bonds g p us ⊎ IsFusedAt c bonds h q vs →
    (result par t).node.entry (values (result par t).node.ends k) ≡
    signed (odd_flux (nodes between) && h.node.odd) (signed (sign par ns bonds (kept ns bonds) k) (mul_g (entry_of p.tensor us) (entry_of q.tensor vs)))

-- the sign of a contraction by the places of the legs: `order` has for each line the place of its inward end and then that of its outward end, and after these the places of the legs that are kept
abbrev pub PlacesSignLaw : Type 0
PlacesSignLaw =
    (fs : List Factor) (sectors : ℤ → List SectorValue) (ns : List Node) (bonds : List Bond) (xs order : List ℕ) →
    let par : Parities = parities_on fs sectors in
    IsDistinct same_end (word ns) → AreLines sectors bonds → length xs ≡ length (word ns) → All (λ i. i < length (word ns)) order →
    picked no_end (word ns) order ≡ goal bonds (kept ns bonds) →
    sign par ns bonds (kept ns bonds) (at_values (word ns) xs) ≡
    exchange_sign ◌==◌ (is_odd_at (leg_parities fs (legs_on sectors (word ns)) xs)) (positions (length (word ns))) order
