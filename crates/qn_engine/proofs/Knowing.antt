-- What is known of each step of a network.
use Rattle.std.proofs.Common.{◌≡◌, ◌≤◌, ℕ, suc, ◌+◌, ℤ, None, List, [], ◌∷◌, ◌++◌, refl, sym, ◌∙◌, subst, map, length, take, drop}
use Rattle.std.specs.List.{All}
use Rattle.std.proofs.lemmas.List.{take-append-drop}
use Rattle.qn_gauss.specs.Gaussian.{limit}
use Rattle.qn_charge.specs.declared.factor.Factor.{Factor}
use Rattle.qn_index.specs.Legs.{SectorValue}
use Rattle.qn_value.specs.Labels.{node_of}
use Rattle.qn_value.proofs.PlacedLemmas.{all_first, all_others}
use Rattle.qn_net.specs.Steps.{Step, State, result, after}
use Rattle.qn_net.specs.Steps.Step.{pair, trace}
use Rattle.qn_net.specs.Plans.{start}
use Rattle.qn_net.specs.Carried.{StepsLaw}
use Rattle.qn_net.specs.Members.{LabelledMember, placed_member, IsHeld, IsMemberOf}
use Rattle.qn_net.specs.NetworkValues.{NetworkValue, PlacedMember, IsWellFormed, parities, sectors, begin, steps, member_of, NetworkValueLaw}
use Rattle.qn_net.specs.Operations.{LinesLaw, AreTensorsOf, FirstTensorsLaw}
use Rattle.qn_net.specs.FuseSteps.{IsBoundedBy, AreTables, MemberTablesLaw, NeverFirstLaw}
use Rattle.qn_net.specs.FirstSteps.{FirstStepsLaw}
use Rattle.qn_plan.specs.Planned.{first_wide}
use Rattle.qn_plan.specs.Limits.{IsNarrowNetwork, GroupsWithinLimits, PairsWithinLimits}
use Rattle.qn_plan.specs.Reached.{IsFitting, AreFitting}
use Rattle.qn_plan.proofs.Fitting.{fit_second}
use Rattle.qn_engine.specs.Parts.{PartValue, member_parts, ArePartsOf, IsSmallMember}
use Rattle.qn_engine.proofs.Sizes.{small_members}
use Rattle.qn_engine.specs.Carrying.{step_at, CanTake, AreReady, IsCarried}
use Rattle.qn_engine.proofs.Walking.{whole, here, next_state, lines_at, silent_admitted}

-- the result of a step is one of the groups after it
fit_result : (net : NetworkValue) → IsWellFormed net → (t : Step) → AreFitting net.group (sectors net) (after (parities net) t).groups → IsFitting net.group (sectors net) (result (parities net) t)
fit_result net w (pair before g between h behind bonds left) k = (fit_second net.group w.group (sectors net) before (result (parities net) (pair before g between h behind bonds left) ∷ (between ++ behind)) k).0
fit_result net w (trace before g behind bonds left) k = (fit_second net.group w.group (sectors net) before (result (parities net) (trace before g behind bonds left) ∷ behind) k).0

can_take : PairsWithinLimits → (net : NetworkValue) → IsNarrowNetwork net → (done rest : List Step) (t : Step) → steps net ≡ done ++ (t ∷ rest) → CanTake net t
can_take law net w done rest (pair before g between h behind bonds left) e = law net w done rest before g between h behind bonds left e
can_take law net w done rest (trace before g behind bonds left) e = tt

module _ (value : NetworkValueLaw) (laws : StepsLaw) (lines : LinesLaw) (first : FirstTensorsLaw) (groups : GroupsWithinLimits) (pairs : PairsWithinLimits) (never : NeverFirstLaw) (passing : FirstStepsLaw) where
  pub are_ready : (net : NetworkValue) → IsWellFormed net → AreTables net.members → All (λ m. IsBoundedBy limit (node_of m.placed)) net.members → IsNarrowNetwork net → AreReady net
  are_ready net w tables small narrow n lt = record {
    sound = (here net n lt laws value w).0;
    step = (here net n lt laws value w).1;
    next = next_state net n lt laws value w;
    lines = lines_at net n lt laws value w lines (first net w).1;
    can = can_take pairs net narrow (take n (steps net)) (drop (suc n) (steps net)) (step_at net n) (whole net n lt);
    fitting =
        fit_result net w (step_at net n)
        (subst (λ (s : State). AreFitting net.group (sectors net) s.groups) (next_state net n lt laws value w)
        (groups net narrow (take (n + 1) (steps net)) (drop (n + 1) (steps net)) (sym (take-append-drop (n + 1) (steps net)))).0);
    silent = λ kind clear.
        silent_admitted net n (n + 1)
        (never net (take n (steps net)) (drop (suc n) (steps net)) (step_at net n) w tables small (whole net n lt) kind
        (passing net (take n (steps net)) (step_at net n ∷ drop (suc n) (steps net)) w (whole net n lt) ∙ clear) (n + 1));
  }

-- all that is known of a network's members makes its steps ready
pub network_ready : NetworkValueLaw → StepsLaw → LinesLaw → FirstTensorsLaw → GroupsWithinLimits → PairsWithinLimits → NeverFirstLaw → FirstStepsLaw → MemberTablesLaw → (net : NetworkValue) → IsWellFormed net →
    (ms : List LabelledMember) → map placed_member ms ≡ net.members → All (IsMemberOf net.group) ms → length ms ≤ 256 → All (λ m. IsHeld m.member) ms → All (λ m. IsSmallMember m.member) ms → first_wide net ≡ None → AreReady net
network_ready value laws lines first groups pairs never passing tables net w ms e each few held small narrow =
    are_ready value laws lines first groups pairs never passing net w (subst AreTables e (tables ms held)) (subst (λ ps. All (λ m. IsBoundedBy limit (node_of m.placed)) ps) e (small_members ms small))
    (record { formed = w; members = ms; placed = e; each = each; held = held; few = few; narrow = narrow })

-- before the first step
start_parts : (fs : List Factor) (sec : ℤ → List SectorValue) (n : ℕ) (ms : List LabelledMember) → AreTensorsOf fs sec (map (λ m. m.placed) (map placed_member ms)) (start n (map member_of (map placed_member ms))) →
    All (IsMemberOf fs) ms → ArePartsOf fs sec (member_parts n ms) (start n (map member_of (map placed_member ms)))
start_parts fs sec n [] h each = tt
start_parts fs sec n (m ∷ ms) h each = (
  record { number = refl; role = refl; tensor = h.0; narrow = (all_first (IsMemberOf fs) m ms each).narrow },
  start_parts fs sec (suc n) ms h.1 (all_others (IsMemberOf fs) m ms each),
)

pub start_carried : FirstTensorsLaw → (net : NetworkValue) → IsWellFormed net → (ms : List LabelledMember) → map placed_member ms ≡ net.members → All (IsMemberOf net.group) ms → (ps : List PartValue) → ps ≡ member_parts 1 ms → IsCarried net 0 ps
start_carried first net w ms e each ps eq = record {
  parts_of =
      subst (λ qs. ArePartsOf net.group (sectors net) qs (begin net).groups) (sym eq)
      (subst (λ ks. ArePartsOf net.group (sectors net) (member_parts 1 ms) (start 1 (map member_of ks))) e
      (start_parts net.group (sectors net) 1 ms (subst (λ ks. AreTensorsOf net.group (sectors net) (map (λ (m : PlacedMember). m.placed) ks) (start 1 (map member_of ks))) (sym e) (first net w).0) each));
  clear = refl;
}
