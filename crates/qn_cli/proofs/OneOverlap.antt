-- An overlap comes to one outcome at most.
use Rattle.std.proofs.Common.{◌≡◌, ◌⊎◌, inl, inr, refl, ap, subst}
use Rattle.qn_net.specs.NetworkValues.{NetworkValue}
use Rattle.qn_mps.specs.SameNetworks.{IsSameNetwork, SameOverlapLaw}
use Rattle.qn_parts.specs.declared.fault.Fault.{Fault}
use Rattle.qn_cli.specs.Outcomes.{Outcome, refused, passed, answered}
use Rattle.qn_cli.specs.Brakets.{BraketValue, SaysSuch, IsOverlapOf, Overlaps, overlap_text}
use Rattle.qn_cli.proofs.OneNetwork.{NetworkComes, one_of_network}
use Rattle.qn_cli.proofs.SameSteps.{same_width}

-- the outcome is a fault of the document
abbrev pub IsFaultOutcome : (Fault → Type 0) → Outcome → Type 0
IsFaultOutcome IsFault (refused f) = IsFault f
IsFaultOutcome IsFault (passed step at offset) = ⊥
IsFaultOutcome IsFault (answered text) = ⊥

pub one_fault_outcome : (IsFault : Fault → Type 0) → ((f g : Fault) → IsFault f → IsFault g → f ≡ g) → (o p : Outcome) → IsFaultOutcome IsFault o → IsFaultOutcome IsFault p → o ≡ p
one_fault_outcome IsFault one (refused f) (refused g) a b = ap refused (one f g a b)
one_fault_outcome IsFault one (refused f) (passed step at offset) a b = absurd b
one_fault_outcome IsFault one (refused f) (answered text) a b = absurd b
one_fault_outcome IsFault one (passed step at offset) p a b = absurd a
one_fault_outcome IsFault one (answered text) p a b = absurd a

pub no_fault_outcome : (IsFault : Fault → Type 0) → ((f : Fault) → IsFault f → ⊥) → (o : Outcome) → IsFaultOutcome IsFault o → ⊥
no_fault_outcome IsFault none (refused f) a = none f a
no_fault_outcome IsFault none (passed step at offset) a = a
no_fault_outcome IsFault none (answered text) a = a

-- what two states come to
abbrev OverlapsOn : Outcome → BraketValue → Type 0
OverlapsOn o b = (net : NetworkValue) × IsOverlapOf b net × NetworkComes net (overlap_text b) o

of_overlap : (IsFault : Fault → Type 0) (Says : BraketValue → Type 0) (o : Outcome) → Overlaps IsFault Says o → IsFaultOutcome IsFault o ⊎ SaysSuch Says (OverlapsOn o)
of_overlap IsFault Says (refused f) (inl p) = inl p
of_overlap IsFault Says (refused f) (inr p) = inr (record { states = p.states; says = p.says; such = (p.such.0, p.such.1, p.such.2) })
of_overlap IsFault Says (passed step at offset) p = inr (record { states = p.states; says = p.says; such = (p.such.0, p.such.1, p.such.2) })
of_overlap IsFault Says (answered text) p = inr (record { states = p.states; says = p.says; such = (p.such.0, p.such.1, (p.such.2, p.such.3, p.such.4)) })

one_on : SameOverlapLaw → (b : BraketValue) (o p : Outcome) → OverlapsOn o b → OverlapsOn p b → o ≡ p
one_on law b o p x y =
    let same : IsSameNetwork x.0 y.0 = law b.group b.bra b.ket x.0 y.0 x.1 y.1 in
    one_of_network x.0 y.0 (same_width x.0 y.0 same) same.passing (overlap_text b) (overlap_text b) refl o p x.2 y.2

pub one_overlap : SameOverlapLaw → (IsFault : Fault → Type 0) (Says : BraketValue → Type 0) → ((f g : Fault) → IsFault f → IsFault g → f ≡ g)
    → ((b : BraketValue) (f : Fault) → Says b → IsFault f → ⊥) → ((b c : BraketValue) → Says b → Says c → b ≡ c)
    → (o p : Outcome) → Overlaps IsFault Says o → Overlaps IsFault Says p → o ≡ p
one_overlap law IsFault Says one none said o p a b = by (of_overlap IsFault Says o a) (of_overlap IsFault Says p b)
  where
    by : IsFaultOutcome IsFault o ⊎ SaysSuch Says (OverlapsOn o) → IsFaultOutcome IsFault p ⊎ SaysSuch Says (OverlapsOn p) → o ≡ p
    by (inl x) (inl y) = one_fault_outcome IsFault one o p x y
    by (inl x) (inr y) = absurd (no_fault_outcome IsFault (λ f. none y.states f y.says) o x)
    by (inr x) (inl y) = absurd (no_fault_outcome IsFault (λ f. none x.states f x.says) p y)
    by (inr x) (inr y) = one_on law y.states o p (subst (OverlapsOn o) (said x.states y.states x.says y.says) x.such) y.such
