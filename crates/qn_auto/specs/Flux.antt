-- The charges of the automaton's states, the entries off the flux, and products of operators on one site.
-- Source: Singh, Pfeifer and Vidal 2010, for the flux.
use Rattle.std.specs.Prelude.{◌≡◌, ℕ, zero, suc, ◌<◌, ℤ, ◌⊎◌, ◌==◌, cond, Bool, true, List, [], ◌∷◌, map}
use Rattle.qn_sign.specs.Sign.{is_in}
use Rattle.qn_gauss.specs.Gaussian.{Gaussian, zero_g, mul_g}
use Rattle.qn_charge.specs.declared.factor.Factor as charge
use Rattle.qn_charge.specs.Charges.{IsGroup, IsCanonical, zero_charge, sum_charge, neg_charge}
use Rattle.qn_value.specs.Networks.{sum_below}
use Rattle.qn_opsum.specs.Strings.{Sites, Factor, matrix, AreOrdered}
use Rattle.qn_auto.specs.Automaton.{Term, Stage, same_stage, stages, transition, normal}
use Rattle.qn_auto.specs.Automaton.Stage.{not_begun, rest, done}

-- an entry is 0 unless charge(row) = charge of the operator + charge(column)
abbrev pub HasCharges : {Q : Type 0} → (Q → Q → Q) → (ℕ → ℕ → Q) → (ℕ → ℕ → Q) → Sites → Type 0
HasCharges add value op S =
    (site o row column : ℕ) → (value site row ≡ add (op site o) (value site column)) ⊎ (S.table site o row column ≡ zero_g)

-- the charge of some operators
abbrev pub charge_of : {Q : Type 0} → Q → (Q → Q → Q) → (ℕ → ℕ → Q) → List Factor → Q
charge_of none add op [] = none
charge_of none add op (f ∷ fs) = add (op f.site f.op) (charge_of none add op fs)

-- the charge of a state of the automaton, where `flux` is the charge of each term: that of the operators placed so far
abbrev pub stage_charge : {Q : Type 0} → Q → (Q → Q → Q) → (Q → Q) → (ℕ → ℕ → Q) → Q → Stage → Q
stage_charge none add neg op flux not_begun = none
stage_charge none add neg op flux (rest fs) = add flux (neg (charge_of none add op fs))
stage_charge none add neg op flux done = flux

-- the terms are in site order and have this charge
abbrev pub HaveFlux : {Q : Type 0} → Q → (Q → Q → Q) → (ℕ → ℕ → Q) → Q → List Term → Type 0
HaveFlux none add op flux [] = Unit {0}
HaveFlux none add op flux (w ∷ ws) = AreOrdered w.factors × (charge_of none add op w.factors ≡ flux) × HaveFlux none add op flux ws

-- the states that stand left of site j
abbrev pub StandsLeft : (Stage → Stage → Bool) → List Term → ℕ → Stage → Type 0
StandsLeft earlier ws zero l = l ≡ not_begun
StandsLeft earlier ws (suc j) l = is_in same_stage l (stages earlier ws j) ≡ true

-- an entry of the automaton is 0 unless charge(left) + charge(row) = charge(right) + charge(column); done has the charge of the flux
abbrev pub FluxLaw : Type 0
FluxLaw =
    (group : List charge.Factor) → IsGroup group → (value op : ℕ → ℕ → List ℤ) (S : Sites) → HasCharges (sum_charge group) value op S →
    (flux : List ℤ) → IsCanonical group flux → (ws : List Term) → HaveFlux (zero_charge group) (sum_charge group) op flux ws →
    (earlier : Stage → Stage → Bool) (j : ℕ) (l r : Stage) → StandsLeft earlier ws j l → (x y : ℕ) → IsCanonical group (value j y) →
    let held : Stage → List ℤ = stage_charge (zero_charge group) (sum_charge group) (neg_charge group) op flux in
    (sum_charge group (held l) (value j x) ≡ sum_charge group (held r) (value j y)) ⊎ (transition S ws j l r x y ≡ zero_g)

-- the product of operators on one site with one operator more on the right
abbrev pub times_op : Sites → ℕ → (ℕ → ℕ → Gaussian) → ℕ → ℕ → ℕ → Gaussian
times_op S k p o x y = sum_below (S.dim k) (λ v. mul_g (p x v) (S.table k o v y))

-- a product with more operators on the right, from left to right
abbrev pub left_product : Sites → ℕ → (ℕ → ℕ → Gaussian) → List ℕ → ℕ → ℕ → Gaussian
left_product S k p [] = p
left_product S k p (o ∷ os) = left_product S k (times_op S k p o) os

-- the operators of a term that are all on one site
abbrev pub on_site : ℕ → List ℕ → List Factor
on_site k [] = []
on_site k (o ∷ os) = record { site = k; op = o } ∷ on_site k os

-- made from left to right, the product of a first operator and others is the matrix, at columns of the site
abbrev pub LeftProductLaw : Type 0
LeftProductLaw =
    (S : Sites) (k o : ℕ) (os : List ℕ) (x y : ℕ) → y < S.dim k →
    left_product S k (S.table k o) os x y ≡ matrix S (on_site k (o ∷ os)) k x y

-- the operators of a term on site j, by their numbers, in the order of the term
abbrev pub ops_at : ℕ → List Factor → List ℕ
ops_at j [] = []
ops_at j (f ∷ fs) = cond (f.site == j) (f.op ∷ ops_at j fs) (ops_at j fs)

-- the terms have this charge, in whatever order they are written
abbrev pub HaveCharge : {Q : Type 0} → Q → (Q → Q → Q) → (ℕ → ℕ → Q) → Q → List Term → Type 0
HaveCharge none add op flux [] = Unit {0}
HaveCharge none add op flux (w ∷ ws) = (charge_of none add op w.factors ≡ flux) × HaveCharge none add op flux ws

-- terms of one charge have it in site order too
abbrev pub NormalFluxLaw : Type 0
NormalFluxLaw =
    (group : List charge.Factor) → IsGroup group → (op : ℕ → ℕ → List ℤ) (S : Sites) (flux : List ℤ) (ws : List Term) →
    HaveCharge (zero_charge group) (sum_charge group) op flux ws → HaveFlux (zero_charge group) (sum_charge group) op flux (map (normal S) ws)
