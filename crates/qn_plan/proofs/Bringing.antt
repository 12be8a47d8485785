-- The steps of a program along its plan.
use Rattle.std.proofs.Common.{◌≡◌, ◌≤◌, ◌<◌, ℕ, ◌+◌, ℤ, pos, true, false, not, ◌&&◌, List, [], ◌∷◌, ◌++◌, sym, ◌∙◌, ap, ap₂, subst, length, filter, drop, get_or, int_eq, Ok, Err}
use Rattle.std.specs.Prelude.{Result, OnOk}
use Rattle.qn_sign.specs.Sign.{is_in}
use Rattle.qn_charge.specs.declared.factor.Factor.{Factor}
use Rattle.qn_match.specs.Shares.{LegsLeftAreOpen}
use Rattle.qn_net.specs.NetworkValues.{NetworkValue, IsWellFormed}
use Rattle.qn_plan.specs.Shapes.{ShapeValue, WalkValue, shape_at, is_on, is_couple, joined_shape}
use Rattle.qn_plan.specs.Planned.{StepValue, is_too_wide}
use Rattle.qn_plan.specs.ShapeSteps.{joined_step, joined_shapes}
use Rattle.qn_plan.specs.Reached.{IsReached}
use Rattle.qn_plan.specs.Taking.{IsPairNext, IsTraceNext}
use Rattle.qn_plan.proofs.Listing.{shape_read}
use Rattle.qn_plan.proofs.NextSteps.{rest_at, label_past, label_nowhere, label_pair, label_trace}

pub on_ok : {X E : Type 0} (r : Result X E) {P Q : Type 0} → (P → Q) → OnOk r P → OnOk r Q
on_ok (Ok x) f p = f p
on_ok (Err e) f p = tt

pub bring_done : (net : NetworkValue) (rest : List ℤ) (list new : List StepValue) (w : WalkValue) (i j : ℕ) (summed left : List ℤ) (fs : List Factor) (ss made : List ShapeValue) (t : StepValue) → fs ≡ net.group → ss ≡ w.shapes →
    is_too_wide fs (joined_shape fs (shape_at ss i) (shape_at ss j) summed).legs (joined_shape fs (shape_at ss i) (shape_at ss j) summed).flux ≡ false → t ≡ joined_step fs (shape_at ss i) (shape_at ss j) summed →
    new ≡ list ++ t ∷ [] → made ≡ joined_shapes fs ss i j summed → IsPairNext net rest list w i j summed left → IsReached net rest new (record { shapes = made; left = left })
bring_done net rest list new w i j summed left fs ss made t ef es narrow et en em p =
    subst (λ ks. IsReached net rest ks (record { shapes = made; left = left })) (sym (en ∙ ap (λ (k : StepValue). list ++ k ∷ []) step))
    (subst (λ xs. IsReached net rest (list ++ joined_step net.group (shape_at w.shapes i) (shape_at w.shapes j) summed ∷ []) (record { shapes = xs; left = left })) (sym shapes)
    (p.done (ap₂ (λ (gs : List Factor) (xs : List ShapeValue). is_too_wide gs (joined_shape gs (shape_at xs i) (shape_at xs j) summed).legs (joined_shape gs (shape_at xs i) (shape_at xs j) summed).flux) (sym ef) (sym es) ∙ narrow)))
  where
    step : t ≡ joined_step net.group (shape_at w.shapes i) (shape_at w.shapes j) summed
    step = et ∙ ap₂ (λ (gs : List Factor) (xs : List ShapeValue). joined_step gs (shape_at xs i) (shape_at xs j) summed) ef es

    shapes : made ≡ joined_shapes net.group w.shapes i j summed
    shapes = em ∙ ap₂ (λ (gs : List Factor) (xs : List ShapeValue). joined_shapes gs xs i j summed) ef es

module _ (law : LegsLeftAreOpen) (net : NetworkValue) (wf : IsWellFormed net) (place : ℕ) (l : ℤ) (list : List StepValue) (w : WalkValue) (within : place < length net.order) (is : l ≡ get_or net.order place (pos 0))
    (r : IsReached net (drop place net.order) list w) where
  taken : IsReached net (l ∷ drop (place + 1) net.order) list w
  taken = subst (λ ls. IsReached net ls list w) (rest_at net.order place (pos 0) within ∙ ap (λ k. k ∷ drop (place + 1) net.order) (sym is)) r

  pub nowhere_here : (left : List ℤ) → left ≡ w.left → is_in int_eq l left ≡ true → (ss : List ShapeValue) → ss ≡ w.shapes → ((k : ℕ) → 0 ≤ k → k < length ss → is_on l (shape_at ss k).ends ≡ false) → ⊥
  nowhere_here left e h ss es f =
      label_nowhere law net wf l (drop (place + 1) net.order) list w taken (ap (is_in int_eq l) (sym e) ∙ h)
      (subst (λ xs. (k : ℕ) → 0 ≤ k → k < length xs → is_on l (shape_at xs k).ends ≡ false) es f)

  module _ (e : is_in int_eq l w.left ≡ true) (i : ℕ) (lt : i < length w.shapes) (on : is_on l (shape_at w.shapes i).ends ≡ true) (first : (k : ℕ) → 0 ≤ k → k < i → is_on l (shape_at w.shapes k).ends ≡ false) where
    pub pair_here : (m : ℤ) → m ≡ l → (ss : List ShapeValue) → ss ≡ w.shapes → (j : ℕ) →
        (i + 1 ≤ j) × (j < length ss) × (is_on m (shape_at ss j).ends ≡ true) × ((k : ℕ) → i + 1 ≤ k → k < j → is_on m (shape_at ss k).ends ≡ false) →
        (xs : List ShapeValue) → xs ≡ w.shapes → (a b : ShapeValue) → a ≡ get_or xs i a → b ≡ get_or xs j b → (ks : List ℤ) → ks ≡ w.left → (summed left : List ℤ) →
        summed ≡ filter (λ k. is_on k a.ends && is_on k b.ends) ks → left ≡ filter (λ k. not (is_on k a.ends && is_on k b.ends)) ks →
        IsPairNext net (drop (place + 1) net.order) list w i j summed left
    pair_here m em ss es j f xs ex a b ea eb ks ek summed left eq el =
        subst (λ ls. IsPairNext net (drop (place + 1) net.order) list w i j summed ls) (sym (el ∙ both (λ (x y : ShapeValue) (ls : List ℤ). filter (λ k. not (is_on k x.ends && is_on k y.ends)) ls)))
        (subst (λ ls. IsPairNext net (drop (place + 1) net.order) list w i j ls (filter (λ k. not (is_on k (shape_at w.shapes i).ends && is_on k (shape_at w.shapes j).ends)) w.left))
        (sym (eq ∙ both (λ (x y : ShapeValue) (ls : List ℤ). filter (λ k. is_on k x.ends && is_on k y.ends) ls)))
        (label_pair law net wf l (drop (place + 1) net.order) list w taken e i lt on first j g.0 g.1 g.2 g.3))
      where
        g : (i + 1 ≤ j) × (j < length w.shapes) × (is_on l (shape_at w.shapes j).ends ≡ true) × ((k : ℕ) → i + 1 ≤ k → k < j → is_on l (shape_at w.shapes k).ends ≡ false)
        g = subst (λ n. (i + 1 ≤ j) × (j < length w.shapes) × (is_on n (shape_at w.shapes j).ends ≡ true) × ((k : ℕ) → i + 1 ≤ k → k < j → is_on n (shape_at w.shapes k).ends ≡ false)) em
            (subst (λ ys. (i + 1 ≤ j) × (j < length ys) × (is_on m (shape_at ys j).ends ≡ true) × ((k : ℕ) → i + 1 ≤ k → k < j → is_on m (shape_at ys k).ends ≡ false)) es f)

        a_is : a ≡ shape_at w.shapes i
        a_is = shape_read xs i a (subst (λ (ys : List ShapeValue). i < length ys) (sym ex) lt) ea ∙ ap (λ (ys : List ShapeValue). shape_at ys i) ex

        b_is : b ≡ shape_at w.shapes j
        b_is = shape_read xs j b (subst (λ (ys : List ShapeValue). j < length ys) (sym ex) g.1) eb ∙ ap (λ (ys : List ShapeValue). shape_at ys j) ex

        both : (f : ShapeValue → ShapeValue → List ℤ → List ℤ) → f a b ks ≡ f (shape_at w.shapes i) (shape_at w.shapes j) w.left
        both f = λ p. f (a_is p) (b_is p) (ek p)

    pub trace_here : (m : ℤ) → m ≡ l → (ss : List ShapeValue) → ss ≡ w.shapes → ((k : ℕ) → i + 1 ≤ k → k < length ss → is_on m (shape_at ss k).ends ≡ false) →
        (xs : List ShapeValue) → xs ≡ w.shapes → (a : ShapeValue) → a ≡ get_or xs i a → (ks : List ℤ) → ks ≡ w.left → (summed left : List ℤ) →
        summed ≡ filter (λ k. is_couple k a.ends) ks → left ≡ filter (λ k. not (is_couple k a.ends)) ks →
        IsTraceNext net (drop (place + 1) net.order) list w i summed left
    trace_here m em ss es f xs ex a ea ks ek summed left eq el =
        subst (λ ls. IsTraceNext net (drop (place + 1) net.order) list w i summed ls) (sym (el ∙ both (λ (x : ShapeValue) (ls : List ℤ). filter (λ k. not (is_couple k x.ends)) ls)))
        (subst (λ ls. IsTraceNext net (drop (place + 1) net.order) list w i ls (filter (λ k. not (is_couple k (shape_at w.shapes i).ends)) w.left))
        (sym (eq ∙ both (λ (x : ShapeValue) (ls : List ℤ). filter (λ k. is_couple k x.ends) ls)))
        (label_trace law net wf l (drop (place + 1) net.order) list w taken e i lt on first
        (subst (λ n. (k : ℕ) → i + 1 ≤ k → k < length w.shapes → is_on n (shape_at w.shapes k).ends ≡ false) em
        (subst (λ ys. (k : ℕ) → i + 1 ≤ k → k < length ys → is_on m (shape_at ys k).ends ≡ false) es f))))
      where
        a_is : a ≡ shape_at w.shapes i
        a_is = shape_read xs i a (subst (λ (ys : List ShapeValue). i < length ys) (sym ex) lt) ea ∙ ap (λ (ys : List ShapeValue). shape_at ys i) ex

        both : (f : ShapeValue → List ℤ → List ℤ) → f a ks ≡ f (shape_at w.shapes i) w.left
        both f = λ p. f (a_is p) (ek p)
