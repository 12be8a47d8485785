-- The tensors that the steps made pass where the parts do.
use Rattle.std.proofs.Common.{◌≡◌, ℕ, suc, ◌*◌, ℤ, List, [], ◌∷◌, ◌++◌, refl, sym, ◌∙◌, ap, ap₂, subst}
use mathlib.Core.Path.{fun_ext}
use Rattle.qn_gauss.specs.Gaussian.{mag}
use Rattle.qn_index.specs.Legs.{SectorValue, LegValue}
use Rattle.qn_index.specs.Tuples.{tuples}
use Rattle.qn_value.specs.Networks.{End, Assignment, Parities, values, at_values}
use Rattle.qn_value.specs.Magnitudes.{total, mag_at, first_passing}
use Rattle.qn_net.specs.Groups.{TensorGroup}
use Rattle.qn_net.specs.Steps.{Step, State, result, after, IsStepAt}
use Rattle.qn_net.specs.Steps.Step.{pair, trace}
use Rattle.qn_net.specs.Parts.{part, IsMadeAsPart, AreMadeAsParts}
use Rattle.qn_net.specs.Carried.{IsSoundState, AllSound}
use Rattle.qn_net.specs.Passing.{step_magnitude, result_legs, place_of_step, first_passing_step, made}
use Rattle.qn_gauss.proofs.Signs.{mag_signed}

-- a group is seen as it is made, or as its part
pub mag_part : (par : Parities) (g : TensorGroup) → IsMadeAsPart par g → (a : Assignment) → mag_at (part par g) a ≡ mag_at g.node a
mag_part par g m a =
    let e = m.entry a in
    sym (ap mag e.1 ∙ mag_signed e.0 ((part par g).entry (values (part par g).ends a)))

parts_first : (par : Parities) (before : List TensorGroup) (g : TensorGroup) (behind : List TensorGroup) → AreMadeAsParts par (before ++ (g ∷ behind)) →
    IsMadeAsPart par g × AreMadeAsParts par behind
parts_first par [] g behind m = m
parts_first par (h ∷ before) g behind m = parts_first par before g behind m.1

magnitude_same : (par : Parities) (opens : List End) (s : State) (t : Step) → IsSoundState par opens s → IsStepAt s t → (a : Assignment) →
    step_magnitude (part par) t a ≡ step_magnitude made t a
magnitude_same par opens s (pair before g between h behind bonds left) k at a =
    let p = parts_first par before g (between ++ (h ∷ behind)) (subst (AreMadeAsParts par) at.0 k.parts) in
    let q = parts_first par between h behind p.1 in
    ap (λ (f : Assignment → ℕ). total bonds f a) (fun_ext (λ c. ap₂ (λ m n. m * (n * 1)) (mag_part par g p.0 c) (mag_part par h q.0 c)))
magnitude_same par opens s (trace before g behind bonds left) k at a =
    let p = parts_first par before g behind (subst (AreMadeAsParts par) at.0 k.parts) in
    ap (λ (f : Assignment → ℕ). total bonds f a) (fun_ext (λ c. ap (λ m. m * 1) (mag_part par g p.0 c)))

pub first_same : (par : Parities) (opens : List End) (sectors : ℤ → List SectorValue) (n : ℕ) (ts : List Step) (s : State) → AllSound par opens ts s →
    first_passing_step par sectors (part par) n ts ≡ first_passing_step par sectors made n ts
first_same par opens sectors n [] s k = refl
first_same par opens sectors n (t ∷ ts) s k =
    let es : List End = (result par t).node.ends in
    let legs : List LegValue = result_legs par sectors t in
    ap₂ (place_of_step n)
    (ap (λ (f : List ℕ → ℕ). first_passing f legs (tuples legs)) (fun_ext (λ xs. magnitude_same par opens s t k.0 k.1 (at_values es xs))))
    (first_same par opens sectors (suc n) ts (after par t) k.2)
