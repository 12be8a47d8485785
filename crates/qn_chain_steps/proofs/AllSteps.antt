-- The step for each kind of site.
use Rattle.std.proofs.Common.{◌≡◌, ◌<◌, ℕ, Bool, true, false, List, [], ◌∷◌, ◌++◌, map, length, ◌∙◌, ap, subst}
use Rattle.qn_gauss.specs.Gaussian.{mul_g, signed}
use Rattle.qn_charge.specs.declared.factor.Factor.{Factor}
use Rattle.qn_index.specs.Legs.{SectorValue, LegValue, total, parity_at}
use Rattle.qn_index.specs.Places.{IsValues}
use Rattle.qn_value.specs.Tensors.{TensorValue, entry_of}
use Rattle.qn_value.specs.Networks.{sum_below}
use Rattle.qn_value.specs.Local.{Moved, Pairwise, picked, no_leg}
use Rattle.qn_links.specs.Joins.{join_sign}
use Rattle.qn_algebra.proofs.Worked.{of_none}
use Rattle.qn_chain_steps.specs.JoinSteps.{JoinStepLaw, out_leg, in_leg, AreLinks, second_leg, odd_values, summed, joined_order}
use Rattle.qn_chain_steps.proofs.InnerOperator.{inner_operator}
use Rattle.qn_chain_steps.proofs.InnerState.{inner_state}
use Rattle.qn_chain_steps.proofs.FirstOperator.{first_operator}
use Rattle.qn_chain_steps.proofs.FirstState.{first_state}
use Rattle.qn_chain_steps.proofs.LastOperator.{last_operator}
use Rattle.qn_chain_steps.proofs.LastState.{last_state}
use Rattle.qn_chain_steps.proofs.OnlyOperator.{only_operator}
use Rattle.qn_chain_steps.proofs.OnlyState.{only_state}

-- a list of values of no leg, and of one leg

of_one : (l : LegValue) (P : List ℕ → Type 0) → ((v : ℕ) → v < total l.sectors → P (v ∷ [])) → (xs : List ℕ) → IsValues (l ∷ []) xs → P xs
of_one l P f [] h = absurd h
of_one l P f (v ∷ vs) h = of_none (λ ys. P (v ∷ ys)) (f v h.0) vs h.1

-- what is claimed, at values
abbrev At : List Factor → List SectorValue → List (List SectorValue) → List (List SectorValue) → List (List SectorValue) → List (List SectorValue) → Bool → TensorValue → TensorValue → TensorValue → ℕ → List ℕ → List ℕ → List ℕ → List ℕ → List ℕ → Type 0
At fs ps left_a left_b right_a right_b two a b p x va vb s wa wb =
    entry_of p (va ++ (vb ++ (x ∷ (s ++ (wb ++ wa))))) ≡
    sum_below (total ps) (λ t. signed
    (join_sign (parity_at fs ps t) (parity_at fs ps x) (odd_values fs (second_leg two ps) s) (odd_values fs (map out_leg left_b) vb) (odd_values fs (map in_leg right_a) wa) (odd_values fs (map in_leg right_b) wb))
    (mul_g (entry_of a (va ++ (x ∷ t ∷ wa))) (entry_of b (vb ++ (t ∷ (s ++ wb))))))

with_legs : List Factor → List LegValue → TensorValue → TensorValue
with_legs fs ls a = record { group = fs; legs = ls; flux = a.flux; rows = a.rows }

is_with : (fs : List Factor) (ls : List LegValue) (a : TensorValue) → a.group ≡ fs → a.legs ≡ ls → a ≡ with_legs fs ls a
unfolding with_legs
is_with fs ls a g h = λ i. record { group = g i; legs = h i; flux = a.flux; rows = a.rows }

as_given : (fs : List Factor) (la lb : List LegValue) (shared : List (ℕ × ℕ)) (a b r : TensorValue) → a.group ≡ fs → b.group ≡ fs → a.legs ≡ la → b.legs ≡ lb →
    Pairwise a b shared false r → Pairwise (with_legs fs la a) (with_legs fs lb b) shared false r
as_given fs la lb shared a b r ga gb ea eb pairwise =
    subst (λ c. Pairwise c (with_legs fs lb b) shared false r) (is_with fs la a ga ea) (subst (λ c. Pairwise a c shared false r) (is_with fs lb b gb eb) pairwise)

pub steps : JoinStepLaw
unfolding with_legs
steps fs ps (pa ∷ []) (pb ∷ []) (qa ∷ []) (qb ∷ []) true a b r p hl hr ga gb ea eb pairwise moved x va vb s wa wb iva ivb hx is iwa iwb =
    of_one (out_leg pa) (λ e. At fs ps (pa ∷ []) (pb ∷ []) (qa ∷ []) (qb ∷ []) true a b p x e vb s wa wb) (λ v hv.
    of_one (out_leg pb) (λ e. At fs ps (pa ∷ []) (pb ∷ []) (qa ∷ []) (qb ∷ []) true a b p x (v ∷ []) e s wa wb) (λ u hu.
    of_one (in_leg ps) (λ e. At fs ps (pa ∷ []) (pb ∷ []) (qa ∷ []) (qb ∷ []) true a b p x (v ∷ []) (u ∷ []) e wa wb) (λ y hy.
    of_one (in_leg qa) (λ e. At fs ps (pa ∷ []) (pb ∷ []) (qa ∷ []) (qb ∷ []) true a b p x (v ∷ []) (u ∷ []) (y ∷ []) e wb) (λ w hw.
    of_one (in_leg qb) (λ e. At fs ps (pa ∷ []) (pb ∷ []) (qa ∷ []) (qb ∷ []) true a b p x (v ∷ []) (u ∷ []) (y ∷ []) (w ∷ []) e) (λ z hz.
    inner_operator fs pa pb ps qa qb a.flux b.flux a.rows b.rows r p
    (as_given fs (map out_leg (pa ∷ []) ++ (out_leg ps ∷ in_leg ps ∷ map in_leg (qa ∷ []))) (map out_leg (pb ∷ []) ++ (out_leg ps ∷ (second_leg true ps ++ map in_leg (qb ∷ [])))) (summed (length {A = List SectorValue} (pa ∷ []))) a b r ga gb ea eb pairwise) moved v x w u y z hv hx hw hu hy hz) wb iwb) wa iwa) s is) vb ivb) va iva
steps fs ps (pa ∷ []) (pb ∷ []) (qa ∷ []) (qb ∷ []) false a b r p hl hr ga gb ea eb pairwise moved x va vb s wa wb iva ivb hx is iwa iwb =
    of_one (out_leg pa) (λ e. At fs ps (pa ∷ []) (pb ∷ []) (qa ∷ []) (qb ∷ []) false a b p x e vb s wa wb) (λ v hv.
    of_one (out_leg pb) (λ e. At fs ps (pa ∷ []) (pb ∷ []) (qa ∷ []) (qb ∷ []) false a b p x (v ∷ []) e s wa wb) (λ u hu.
    of_none (λ e. At fs ps (pa ∷ []) (pb ∷ []) (qa ∷ []) (qb ∷ []) false a b p x (v ∷ []) (u ∷ []) e wa wb) (
    of_one (in_leg qa) (λ e. At fs ps (pa ∷ []) (pb ∷ []) (qa ∷ []) (qb ∷ []) false a b p x (v ∷ []) (u ∷ []) [] e wb) (λ w hw.
    of_one (in_leg qb) (λ e. At fs ps (pa ∷ []) (pb ∷ []) (qa ∷ []) (qb ∷ []) false a b p x (v ∷ []) (u ∷ []) [] (w ∷ []) e) (λ z hz.
    inner_state fs pa pb ps qa qb a.flux b.flux a.rows b.rows r p
    (as_given fs (map out_leg (pa ∷ []) ++ (out_leg ps ∷ in_leg ps ∷ map in_leg (qa ∷ []))) (map out_leg (pb ∷ []) ++ (out_leg ps ∷ (second_leg false ps ++ map in_leg (qb ∷ [])))) (summed (length {A = List SectorValue} (pa ∷ []))) a b r ga gb ea eb pairwise) moved v x w u z hv hx hw hu hz) wb iwb) wa iwa) s is) vb ivb) va iva
steps fs ps [] [] (qa ∷ []) (qb ∷ []) true a b r p hl hr ga gb ea eb pairwise moved x va vb s wa wb iva ivb hx is iwa iwb =
    of_none (λ e. At fs ps [] [] (qa ∷ []) (qb ∷ []) true a b p x e vb s wa wb) (
    of_none (λ e. At fs ps [] [] (qa ∷ []) (qb ∷ []) true a b p x [] e s wa wb) (
    of_one (in_leg ps) (λ e. At fs ps [] [] (qa ∷ []) (qb ∷ []) true a b p x [] [] e wa wb) (λ y hy.
    of_one (in_leg qa) (λ e. At fs ps [] [] (qa ∷ []) (qb ∷ []) true a b p x [] [] (y ∷ []) e wb) (λ w hw.
    of_one (in_leg qb) (λ e. At fs ps [] [] (qa ∷ []) (qb ∷ []) true a b p x [] [] (y ∷ []) (w ∷ []) e) (λ z hz.
    first_operator fs ps qa qb a.flux b.flux a.rows b.rows r p
    (as_given fs (map out_leg [] ++ (out_leg ps ∷ in_leg ps ∷ map in_leg (qa ∷ []))) (map out_leg [] ++ (out_leg ps ∷ (second_leg true ps ++ map in_leg (qb ∷ [])))) (summed (length {A = List SectorValue} [])) a b r ga gb ea eb pairwise) moved x w y z hx hw hy hz) wb iwb) wa iwa) s is) vb ivb) va iva
steps fs ps [] [] (qa ∷ []) (qb ∷ []) false a b r p hl hr ga gb ea eb pairwise moved x va vb s wa wb iva ivb hx is iwa iwb =
    of_none (λ e. At fs ps [] [] (qa ∷ []) (qb ∷ []) false a b p x e vb s wa wb) (
    of_none (λ e. At fs ps [] [] (qa ∷ []) (qb ∷ []) false a b p x [] e s wa wb) (
    of_none (λ e. At fs ps [] [] (qa ∷ []) (qb ∷ []) false a b p x [] [] e wa wb) (
    of_one (in_leg qa) (λ e. At fs ps [] [] (qa ∷ []) (qb ∷ []) false a b p x [] [] [] e wb) (λ w hw.
    of_one (in_leg qb) (λ e. At fs ps [] [] (qa ∷ []) (qb ∷ []) false a b p x [] [] [] (w ∷ []) e) (λ z hz.
    first_state fs ps qa qb a.flux b.flux a.rows b.rows r p
    (as_given fs (map out_leg [] ++ (out_leg ps ∷ in_leg ps ∷ map in_leg (qa ∷ []))) (map out_leg [] ++ (out_leg ps ∷ (second_leg false ps ++ map in_leg (qb ∷ [])))) (summed (length {A = List SectorValue} [])) a b r ga gb ea eb pairwise) moved x w z hx hw hz) wb iwb) wa iwa) s is) vb ivb) va iva
steps fs ps (pa ∷ []) (pb ∷ []) [] [] true a b r p hl hr ga gb ea eb pairwise moved x va vb s wa wb iva ivb hx is iwa iwb =
    of_one (out_leg pa) (λ e. At fs ps (pa ∷ []) (pb ∷ []) [] [] true a b p x e vb s wa wb) (λ v hv.
    of_one (out_leg pb) (λ e. At fs ps (pa ∷ []) (pb ∷ []) [] [] true a b p x (v ∷ []) e s wa wb) (λ u hu.
    of_one (in_leg ps) (λ e. At fs ps (pa ∷ []) (pb ∷ []) [] [] true a b p x (v ∷ []) (u ∷ []) e wa wb) (λ y hy.
    of_none (λ e. At fs ps (pa ∷ []) (pb ∷ []) [] [] true a b p x (v ∷ []) (u ∷ []) (y ∷ []) e wb) (
    of_none (λ e. At fs ps (pa ∷ []) (pb ∷ []) [] [] true a b p x (v ∷ []) (u ∷ []) (y ∷ []) [] e) (
    last_operator fs pa pb ps a.flux b.flux a.rows b.rows r p
    (as_given fs (map out_leg (pa ∷ []) ++ (out_leg ps ∷ in_leg ps ∷ map in_leg [])) (map out_leg (pb ∷ []) ++ (out_leg ps ∷ (second_leg true ps ++ map in_leg []))) (summed (length {A = List SectorValue} (pa ∷ []))) a b r ga gb ea eb pairwise) moved v x u y hv hx hu hy) wb iwb) wa iwa) s is) vb ivb) va iva
steps fs ps (pa ∷ []) (pb ∷ []) [] [] false a b r p hl hr ga gb ea eb pairwise moved x va vb s wa wb iva ivb hx is iwa iwb =
    of_one (out_leg pa) (λ e. At fs ps (pa ∷ []) (pb ∷ []) [] [] false a b p x e vb s wa wb) (λ v hv.
    of_one (out_leg pb) (λ e. At fs ps (pa ∷ []) (pb ∷ []) [] [] false a b p x (v ∷ []) e s wa wb) (λ u hu.
    of_none (λ e. At fs ps (pa ∷ []) (pb ∷ []) [] [] false a b p x (v ∷ []) (u ∷ []) e wa wb) (
    of_none (λ e. At fs ps (pa ∷ []) (pb ∷ []) [] [] false a b p x (v ∷ []) (u ∷ []) [] e wb) (
    of_none (λ e. At fs ps (pa ∷ []) (pb ∷ []) [] [] false a b p x (v ∷ []) (u ∷ []) [] [] e) (
    last_state fs pa pb ps a.flux b.flux a.rows b.rows r p
    (as_given fs (map out_leg (pa ∷ []) ++ (out_leg ps ∷ in_leg ps ∷ map in_leg [])) (map out_leg (pb ∷ []) ++ (out_leg ps ∷ (second_leg false ps ++ map in_leg []))) (summed (length {A = List SectorValue} (pa ∷ []))) a b r ga gb ea eb pairwise) moved v x u hv hx hu) wb iwb) wa iwa) s is) vb ivb) va iva
steps fs ps [] [] [] [] true a b r p hl hr ga gb ea eb pairwise moved x va vb s wa wb iva ivb hx is iwa iwb =
    of_none (λ e. At fs ps [] [] [] [] true a b p x e vb s wa wb) (
    of_none (λ e. At fs ps [] [] [] [] true a b p x [] e s wa wb) (
    of_one (in_leg ps) (λ e. At fs ps [] [] [] [] true a b p x [] [] e wa wb) (λ y hy.
    of_none (λ e. At fs ps [] [] [] [] true a b p x [] [] (y ∷ []) e wb) (
    of_none (λ e. At fs ps [] [] [] [] true a b p x [] [] (y ∷ []) [] e) (
    only_operator fs ps a.flux b.flux a.rows b.rows r p
    (as_given fs (map out_leg [] ++ (out_leg ps ∷ in_leg ps ∷ map in_leg [])) (map out_leg [] ++ (out_leg ps ∷ (second_leg true ps ++ map in_leg []))) (summed (length {A = List SectorValue} [])) a b r ga gb ea eb pairwise) moved x y hx hy) wb iwb) wa iwa) s is) vb ivb) va iva
steps fs ps [] [] [] [] false a b r p hl hr ga gb ea eb pairwise moved x va vb s wa wb iva ivb hx is iwa iwb =
    of_none (λ e. At fs ps [] [] [] [] false a b p x e vb s wa wb) (
    of_none (λ e. At fs ps [] [] [] [] false a b p x [] e s wa wb) (
    of_none (λ e. At fs ps [] [] [] [] false a b p x [] [] e wa wb) (
    of_none (λ e. At fs ps [] [] [] [] false a b p x [] [] [] e wb) (
    of_none (λ e. At fs ps [] [] [] [] false a b p x [] [] [] [] e) (
    only_state fs ps a.flux b.flux a.rows b.rows r p
    (as_given fs (map out_leg [] ++ (out_leg ps ∷ in_leg ps ∷ map in_leg [])) (map out_leg [] ++ (out_leg ps ∷ (second_leg false ps ++ map in_leg []))) (summed (length {A = List SectorValue} [])) a b r ga gb ea eb pairwise) moved x hx) wb iwb) wa iwa) s is) vb ivb) va iva
steps fs ps [] (q ∷ qs) right_a right_b two a b r p hl hr ga gb ea eb pairwise moved x va vb s wa wb iva ivb hx is iwa iwb = absurd hl
steps fs ps (o ∷ []) [] right_a right_b two a b r p hl hr ga gb ea eb pairwise moved x va vb s wa wb iva ivb hx is iwa iwb = absurd hl
steps fs ps (o ∷ []) (q ∷ q' ∷ qs) right_a right_b two a b r p hl hr ga gb ea eb pairwise moved x va vb s wa wb iva ivb hx is iwa iwb = absurd hl
steps fs ps (o ∷ o' ∷ os) left_b right_a right_b two a b r p hl hr ga gb ea eb pairwise moved x va vb s wa wb iva ivb hx is iwa iwb = absurd hl
steps fs ps [] [] [] (q ∷ qs) true a b r p hl hr ga gb ea eb pairwise moved x va vb s wa wb iva ivb hx is iwa iwb = absurd hr
steps fs ps [] [] (o ∷ []) [] true a b r p hl hr ga gb ea eb pairwise moved x va vb s wa wb iva ivb hx is iwa iwb = absurd hr
steps fs ps [] [] (o ∷ []) (q ∷ q' ∷ qs) true a b r p hl hr ga gb ea eb pairwise moved x va vb s wa wb iva ivb hx is iwa iwb = absurd hr
steps fs ps [] [] (o ∷ o' ∷ os) right_b true a b r p hl hr ga gb ea eb pairwise moved x va vb s wa wb iva ivb hx is iwa iwb = absurd hr
steps fs ps [] [] [] (q ∷ qs) false a b r p hl hr ga gb ea eb pairwise moved x va vb s wa wb iva ivb hx is iwa iwb = absurd hr
steps fs ps [] [] (o ∷ []) [] false a b r p hl hr ga gb ea eb pairwise moved x va vb s wa wb iva ivb hx is iwa iwb = absurd hr
steps fs ps [] [] (o ∷ []) (q ∷ q' ∷ qs) false a b r p hl hr ga gb ea eb pairwise moved x va vb s wa wb iva ivb hx is iwa iwb = absurd hr
steps fs ps [] [] (o ∷ o' ∷ os) right_b false a b r p hl hr ga gb ea eb pairwise moved x va vb s wa wb iva ivb hx is iwa iwb = absurd hr
steps fs ps (pa ∷ []) (pb ∷ []) [] (q ∷ qs) true a b r p hl hr ga gb ea eb pairwise moved x va vb s wa wb iva ivb hx is iwa iwb = absurd hr
steps fs ps (pa ∷ []) (pb ∷ []) (o ∷ []) [] true a b r p hl hr ga gb ea eb pairwise moved x va vb s wa wb iva ivb hx is iwa iwb = absurd hr
steps fs ps (pa ∷ []) (pb ∷ []) (o ∷ []) (q ∷ q' ∷ qs) true a b r p hl hr ga gb ea eb pairwise moved x va vb s wa wb iva ivb hx is iwa iwb = absurd hr
steps fs ps (pa ∷ []) (pb ∷ []) (o ∷ o' ∷ os) right_b true a b r p hl hr ga gb ea eb pairwise moved x va vb s wa wb iva ivb hx is iwa iwb = absurd hr
steps fs ps (pa ∷ []) (pb ∷ []) [] (q ∷ qs) false a b r p hl hr ga gb ea eb pairwise moved x va vb s wa wb iva ivb hx is iwa iwb = absurd hr
steps fs ps (pa ∷ []) (pb ∷ []) (o ∷ []) [] false a b r p hl hr ga gb ea eb pairwise moved x va vb s wa wb iva ivb hx is iwa iwb = absurd hr
steps fs ps (pa ∷ []) (pb ∷ []) (o ∷ []) (q ∷ q' ∷ qs) false a b r p hl hr ga gb ea eb pairwise moved x va vb s wa wb iva ivb hx is iwa iwb = absurd hr
steps fs ps (pa ∷ []) (pb ∷ []) (o ∷ o' ∷ os) right_b false a b r p hl hr ga gb ea eb pairwise moved x va vb s wa wb iva ivb hx is iwa iwb = absurd hr

-- the legs of the result, in order
pub step_legs : (fs : List Factor) (ps : List SectorValue) (left_a left_b right_a right_b : List (List SectorValue)) (two : Bool) (a b r p : TensorValue) → AreLinks left_a left_b → AreLinks right_a right_b →
    a.group ≡ fs → b.group ≡ fs →
    a.legs ≡ map out_leg left_a ++ (out_leg ps ∷ in_leg ps ∷ map in_leg right_a) → b.legs ≡ map out_leg left_b ++ (out_leg ps ∷ (second_leg two ps ++ map in_leg right_b)) →
    Pairwise a b (summed (length left_a)) false r → Moved r (joined_order (length left_a) (length (second_leg two ps)) (length right_a)) p →
    p.legs ≡ map out_leg left_a ++ (map out_leg left_b ++ (out_leg ps ∷ (second_leg two ps ++ (map in_leg right_b ++ map in_leg right_a))))
unfolding with_legs
step_legs fs ps (pa ∷ []) (pb ∷ []) (qa ∷ []) (qb ∷ []) true a b r p hl hr ga gb ea eb pairwise moved = moved.legs ∙ ap (λ ls. picked no_leg ls (joined_order (length {A = List SectorValue} (pa ∷ [])) (length (second_leg true ps)) (length {A = List SectorValue} (qa ∷ [])))) (as_given fs (map out_leg (pa ∷ []) ++ (out_leg ps ∷ in_leg ps ∷ map in_leg (qa ∷ []))) (map out_leg (pb ∷ []) ++ (out_leg ps ∷ (second_leg true ps ++ map in_leg (qb ∷ [])))) (summed (length {A = List SectorValue} (pa ∷ []))) a b r ga gb ea eb pairwise).legs
step_legs fs ps (pa ∷ []) (pb ∷ []) (qa ∷ []) (qb ∷ []) false a b r p hl hr ga gb ea eb pairwise moved = moved.legs ∙ ap (λ ls. picked no_leg ls (joined_order (length {A = List SectorValue} (pa ∷ [])) (length (second_leg false ps)) (length {A = List SectorValue} (qa ∷ [])))) (as_given fs (map out_leg (pa ∷ []) ++ (out_leg ps ∷ in_leg ps ∷ map in_leg (qa ∷ []))) (map out_leg (pb ∷ []) ++ (out_leg ps ∷ (second_leg false ps ++ map in_leg (qb ∷ [])))) (summed (length {A = List SectorValue} (pa ∷ []))) a b r ga gb ea eb pairwise).legs
step_legs fs ps [] [] (qa ∷ []) (qb ∷ []) true a b r p hl hr ga gb ea eb pairwise moved = moved.legs ∙ ap (λ ls. picked no_leg ls (joined_order (length {A = List SectorValue} []) (length (second_leg true ps)) (length {A = List SectorValue} (qa ∷ [])))) (as_given fs (map out_leg [] ++ (out_leg ps ∷ in_leg ps ∷ map in_leg (qa ∷ []))) (map out_leg [] ++ (out_leg ps ∷ (second_leg true ps ++ map in_leg (qb ∷ [])))) (summed (length {A = List SectorValue} [])) a b r ga gb ea eb pairwise).legs
step_legs fs ps [] [] (qa ∷ []) (qb ∷ []) false a b r p hl hr ga gb ea eb pairwise moved = moved.legs ∙ ap (λ ls. picked no_leg ls (joined_order (length {A = List SectorValue} []) (length (second_leg false ps)) (length {A = List SectorValue} (qa ∷ [])))) (as_given fs (map out_leg [] ++ (out_leg ps ∷ in_leg ps ∷ map in_leg (qa ∷ []))) (map out_leg [] ++ (out_leg ps ∷ (second_leg false ps ++ map in_leg (qb ∷ [])))) (summed (length {A = List SectorValue} [])) a b r ga gb ea eb pairwise).legs
step_legs fs ps (pa ∷ []) (pb ∷ []) [] [] true a b r p hl hr ga gb ea eb pairwise moved = moved.legs ∙ ap (λ ls. picked no_leg ls (joined_order (length {A = List SectorValue} (pa ∷ [])) (length (second_leg true ps)) (length {A = List SectorValue} []))) (as_given fs (map out_leg (pa ∷ []) ++ (out_leg ps ∷ in_leg ps ∷ map in_leg [])) (map out_leg (pb ∷ []) ++ (out_leg ps ∷ (second_leg true ps ++ map in_leg []))) (summed (length {A = List SectorValue} (pa ∷ []))) a b r ga gb ea eb pairwise).legs
step_legs fs ps (pa ∷ []) (pb ∷ []) [] [] false a b r p hl hr ga gb ea eb pairwise moved = moved.legs ∙ ap (λ ls. picked no_leg ls (joined_order (length {A = List SectorValue} (pa ∷ [])) (length (second_leg false ps)) (length {A = List SectorValue} []))) (as_given fs (map out_leg (pa ∷ []) ++ (out_leg ps ∷ in_leg ps ∷ map in_leg [])) (map out_leg (pb ∷ []) ++ (out_leg ps ∷ (second_leg false ps ++ map in_leg []))) (summed (length {A = List SectorValue} (pa ∷ []))) a b r ga gb ea eb pairwise).legs
step_legs fs ps [] [] [] [] true a b r p hl hr ga gb ea eb pairwise moved = moved.legs ∙ ap (λ ls. picked no_leg ls (joined_order (length {A = List SectorValue} []) (length (second_leg true ps)) (length {A = List SectorValue} []))) (as_given fs (map out_leg [] ++ (out_leg ps ∷ in_leg ps ∷ map in_leg [])) (map out_leg [] ++ (out_leg ps ∷ (second_leg true ps ++ map in_leg []))) (summed (length {A = List SectorValue} [])) a b r ga gb ea eb pairwise).legs
step_legs fs ps [] [] [] [] false a b r p hl hr ga gb ea eb pairwise moved = moved.legs ∙ ap (λ ls. picked no_leg ls (joined_order (length {A = List SectorValue} []) (length (second_leg false ps)) (length {A = List SectorValue} []))) (as_given fs (map out_leg [] ++ (out_leg ps ∷ in_leg ps ∷ map in_leg [])) (map out_leg [] ++ (out_leg ps ∷ (second_leg false ps ++ map in_leg []))) (summed (length {A = List SectorValue} [])) a b r ga gb ea eb pairwise).legs
step_legs fs ps [] (q ∷ qs) right_a right_b two a b r p hl hr ga gb ea eb pairwise moved = absurd hl
step_legs fs ps (o ∷ []) [] right_a right_b two a b r p hl hr ga gb ea eb pairwise moved = absurd hl
step_legs fs ps (o ∷ []) (q ∷ q' ∷ qs) right_a right_b two a b r p hl hr ga gb ea eb pairwise moved = absurd hl
step_legs fs ps (o ∷ o' ∷ os) left_b right_a right_b two a b r p hl hr ga gb ea eb pairwise moved = absurd hl
step_legs fs ps [] [] [] (q ∷ qs) true a b r p hl hr ga gb ea eb pairwise moved = absurd hr
step_legs fs ps [] [] (o ∷ []) [] true a b r p hl hr ga gb ea eb pairwise moved = absurd hr
step_legs fs ps [] [] (o ∷ []) (q ∷ q' ∷ qs) true a b r p hl hr ga gb ea eb pairwise moved = absurd hr
step_legs fs ps [] [] (o ∷ o' ∷ os) right_b true a b r p hl hr ga gb ea eb pairwise moved = absurd hr
step_legs fs ps [] [] [] (q ∷ qs) false a b r p hl hr ga gb ea eb pairwise moved = absurd hr
step_legs fs ps [] [] (o ∷ []) [] false a b r p hl hr ga gb ea eb pairwise moved = absurd hr
step_legs fs ps [] [] (o ∷ []) (q ∷ q' ∷ qs) false a b r p hl hr ga gb ea eb pairwise moved = absurd hr
step_legs fs ps [] [] (o ∷ o' ∷ os) right_b false a b r p hl hr ga gb ea eb pairwise moved = absurd hr
step_legs fs ps (pa ∷ []) (pb ∷ []) [] (q ∷ qs) true a b r p hl hr ga gb ea eb pairwise moved = absurd hr
step_legs fs ps (pa ∷ []) (pb ∷ []) (o ∷ []) [] true a b r p hl hr ga gb ea eb pairwise moved = absurd hr
step_legs fs ps (pa ∷ []) (pb ∷ []) (o ∷ []) (q ∷ q' ∷ qs) true a b r p hl hr ga gb ea eb pairwise moved = absurd hr
step_legs fs ps (pa ∷ []) (pb ∷ []) (o ∷ o' ∷ os) right_b true a b r p hl hr ga gb ea eb pairwise moved = absurd hr
step_legs fs ps (pa ∷ []) (pb ∷ []) [] (q ∷ qs) false a b r p hl hr ga gb ea eb pairwise moved = absurd hr
step_legs fs ps (pa ∷ []) (pb ∷ []) (o ∷ []) [] false a b r p hl hr ga gb ea eb pairwise moved = absurd hr
step_legs fs ps (pa ∷ []) (pb ∷ []) (o ∷ []) (q ∷ q' ∷ qs) false a b r p hl hr ga gb ea eb pairwise moved = absurd hr
step_legs fs ps (pa ∷ []) (pb ∷ []) (o ∷ o' ∷ os) right_b false a b r p hl hr ga gb ea eb pairwise moved = absurd hr
