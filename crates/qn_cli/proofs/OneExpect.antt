-- An expectation comes to one outcome at most.
use Rattle.std.proofs.Common.{◌≡◌, ◌⊎◌, inl, inr, ℕ, suc, List, [], ◌∷◌, sym, ap, subst, ◌∙◌}
use Rattle.qn_charge.specs.Firsts.{HasNone}
use Rattle.qn_net.specs.NetworkValues.{NetworkValue}
use Rattle.qn_opsum.specs.Sums.{SumValue}
use Rattle.qn_auto.specs.SumAutomaton.{IsWideAt, PassesAt}
use Rattle.qn_mps.specs.SameNetworks.{IsSameNetwork, SameExpectLaw}
use Rattle.qn_parts.specs.declared.fault.Fault.{Fault}
use Rattle.qn_parts.specs.Faults.{fault}
use Rattle.qn_cli.specs.Outcomes.{Outcome, refused, passed, answered}
use Rattle.qn_cli.specs.Networks.{IsPassingPlace}
use Rattle.qn_cli.specs.Operators.{IsWideSite, IsPassingSite, automaton}
use Rattle.qn_cli.specs.Brakets.{BraketValue, SaysSuchSum, IsExpectOf, IsWideExpect, IsNarrowExpect, IsPassingExpect, IsExpectText, Expects}
use Rattle.qn_cli.proofs.OneNetwork.{one_wide_step, no_wide_step, one_place, no_place}
use Rattle.qn_cli.proofs.OneOverlap.{IsFaultOutcome, one_fault_outcome, no_fault_outcome}
use Rattle.qn_cli.proofs.SameSteps.{same_width}
use Rattle.qn_net.proofs.OneFault.{first_once}

-- a build passes first at one place
pub one_passing_site : (v : SumValue) (s1 s2 : ℕ) (a1 a2 : List ℕ) (o1 o2 : ℕ) → IsPassingSite v s1 a1 o1 → IsPassingSite v s2 a2 o2 → passed s1 a1 o1 ≡ passed s2 a2 o2
one_passing_site v s1 s2 a1 a2 o1 o2 p q =
    let site = first_once (PassesAt v) p.0 q.0 p.2 q.2 in
    let step = p.3 ∙ sym q.3 in
    let at = p.4 ∙ (ap (λ j. suc j ∷ []) site ∙ sym q.4) in
    let offset = p.5 ∙ sym q.5 in
    ap (λ s. passed s a1 o1) step ∙ (ap (λ a. passed s2 a o1) at ∙ ap (passed s2 a2) offset)

pub one_wide_site : (v : SumValue) (f g : Fault) → IsWideSite v f → IsWideSite v g → f ≡ g
one_wide_site v f g p q = p.2 ∙ (ap (λ j. fault 27 0 0 (suc j)) (first_once (IsWideAt v) p.0 q.0 p.1 q.1) ∙ sym q.2)

no_wide_site : (v : SumValue) (f : Fault) → IsWideSite v f → HasNone (IsWideAt v) → ⊥
no_wide_site v f p none = none p.0 p.1.here

no_passing_site : (v : SumValue) (s : ℕ) (a : List ℕ) (o : ℕ) → IsPassingSite v s a o → HasNone (PassesAt v) → ⊥
no_passing_site v s a o p none = none p.0 p.2.here

-- what two states and a sum come to
abbrev pub ExpectsOn : (BraketValue → SumValue → NetworkValue → List ℕ) → Outcome → BraketValue → SumValue → Type 0
ExpectsOn text_of (refused f) b v = IsWideExpect f b v
ExpectsOn text_of (passed step at offset) b v = IsPassingExpect step at offset b v
ExpectsOn text_of (answered text) b v = IsExpectText text_of text b v

of_expect : (IsFault : Fault → Type 0) (Says : BraketValue → SumValue → Type 0) (text_of : BraketValue → SumValue → NetworkValue → List ℕ) (o : Outcome)
    → Expects IsFault Says text_of o → IsFaultOutcome IsFault o ⊎ SaysSuchSum Says (ExpectsOn text_of o)
of_expect IsFault Says text_of (refused f) (inl p) = inl p
of_expect IsFault Says text_of (refused f) (inr p) = inr p
of_expect IsFault Says text_of (passed step at offset) p = inr p
of_expect IsFault Says text_of (answered text) p = inr p

module _ (law : SameExpectLaw) (b : BraketValue) (v : SumValue) where
  same : (m n : NetworkValue) → IsExpectOf b v m → IsExpectOf b v n → IsSameNetwork m n
  same m n p q = law b.group b.bra (automaton v) b.ket m n p q

  one_wide : (f g : Fault) → IsWideExpect f b v → IsWideExpect g b v → f ≡ g
  one_wide f g (inl p) (inl q) = one_wide_site v f g p q
  one_wide f g (inl p) (inr q) = absurd (no_wide_site v f p q.0)
  one_wide f g (inr p) (inl q) = absurd (no_wide_site v g q p.0)
  one_wide f g (inr p) (inr q) =
      let s = same p.1.0 q.1.0 p.1.1 q.1.1 in one_wide_step p.1.0 q.1.0 (same_width p.1.0 q.1.0 s) s.passing f g p.1.2 q.1.2

  no_wide : (f : Fault) (net : NetworkValue) → IsWideExpect f b v → IsNarrowExpect b v net → ⊥
  no_wide f net (inl p) q = no_wide_site v f p q.sites
  no_wide f net (inr p) q =
      let s = same p.1.0 net p.1.1 q.network in no_wide_step p.1.0 net (same_width p.1.0 net s) s.passing f p.1.2 q.steps

  one_passing : (s1 s2 : ℕ) (a1 a2 : List ℕ) (o1 o2 : ℕ) → IsPassingExpect s1 a1 o1 b v → IsPassingExpect s2 a2 o2 b v → passed s1 a1 o1 ≡ passed s2 a2 o2
  one_passing s1 s2 a1 a2 o1 o2 p q = by p.2 q.2
    where
      by : IsPassingSite v s1 a1 o1 ⊎ (HasNone (PassesAt v) × IsPassingPlace p.0 s1 a1 o1) → IsPassingSite v s2 a2 o2 ⊎ (HasNone (PassesAt v) × IsPassingPlace q.0 s2 a2 o2) → passed s1 a1 o1 ≡ passed s2 a2 o2
      by (inl x) (inl y) = one_passing_site v s1 s2 a1 a2 o1 o2 x y
      by (inl x) (inr y) = absurd (no_passing_site v s1 a1 o1 x y.0)
      by (inr x) (inl y) = absurd (no_passing_site v s2 a2 o2 y x.0)
      by (inr x) (inr y) =
          let s = same p.0 q.0 p.1.network q.1.network in one_place p.0 q.0 (same_width p.0 q.0 s) s.passing s1 s2 a1 a2 o1 o2 x.1 y.1

  no_passing : (text_of : BraketValue → SumValue → NetworkValue → List ℕ) (step : ℕ) (at : List ℕ) (offset : ℕ) (text : List ℕ)
      → IsPassingExpect step at offset b v → IsExpectText text_of text b v → ⊥
  no_passing text_of step at offset text p q = by p.2
    where
      by : IsPassingSite v step at offset ⊎ (HasNone (PassesAt v) × IsPassingPlace p.0 step at offset) → ⊥
      by (inl x) = no_passing_site v step at offset x q.2
      by (inr x) = let s = same p.0 q.0 p.1.network q.1.network in no_place p.0 q.0 (same_width p.0 q.0 s) s.passing step at offset x.1 q.3

  one_on : (text_of : BraketValue → SumValue → NetworkValue → List ℕ) → ((m n : NetworkValue) → IsSameNetwork m n → text_of b v m ≡ text_of b v n)
      → (o p : Outcome) → ExpectsOn text_of o b v → ExpectsOn text_of p b v → o ≡ p
  one_on text_of texts (refused f) (refused g) x y = ap refused (one_wide f g x y)
  one_on text_of texts (refused f) (passed step at offset) x y = absurd (no_wide f y.0 x y.1)
  one_on text_of texts (refused f) (answered text) x y = absurd (no_wide f y.0 x y.1)
  one_on text_of texts (passed step at offset) (refused g) x y = absurd (no_wide g x.0 y x.1)
  one_on text_of texts (passed s1 a1 o1) (passed s2 a2 o2) x y = one_passing s1 s2 a1 a2 o1 o2 x y
  one_on text_of texts (passed step at offset) (answered text) x y = absurd (no_passing text_of step at offset text x y)
  one_on text_of texts (answered text) (refused g) x y = absurd (no_wide g x.0 y x.1)
  one_on text_of texts (answered text) (passed step at offset) x y = absurd (no_passing text_of step at offset text y x)
  one_on text_of texts (answered text) (answered other) x y =
      ap answered (x.4 ∙ (texts x.0 y.0 (same x.0 y.0 x.1.network y.1.network) ∙ sym y.4))

pub one_expect : SameExpectLaw → (IsFault : Fault → Type 0) (Says : BraketValue → SumValue → Type 0) (text_of : BraketValue → SumValue → NetworkValue → List ℕ)
    → ((b : BraketValue) (v : SumValue) (m n : NetworkValue) → IsSameNetwork m n → text_of b v m ≡ text_of b v n)
    → ((f g : Fault) → IsFault f → IsFault g → f ≡ g) → ((b : BraketValue) (v : SumValue) (f : Fault) → Says b v → IsFault f → ⊥)
    → ((b c : BraketValue) (v w : SumValue) → Says b v → Says c w → (b ≡ c) × (v ≡ w))
    → (o p : Outcome) → Expects IsFault Says text_of o → Expects IsFault Says text_of p → o ≡ p
one_expect law IsFault Says text_of texts one none said o p a b = by (of_expect IsFault Says text_of o a) (of_expect IsFault Says text_of p b)
  where
    by : IsFaultOutcome IsFault o ⊎ SaysSuchSum Says (ExpectsOn text_of o) → IsFaultOutcome IsFault p ⊎ SaysSuchSum Says (ExpectsOn text_of p) → o ≡ p
    by (inl x) (inl y) = one_fault_outcome IsFault one o p x y
    by (inl x) (inr y) = absurd (no_fault_outcome IsFault (λ f. none y.states y.sum f y.says) o x)
    by (inr x) (inl y) = absurd (no_fault_outcome IsFault (λ f. none x.states x.sum f x.says) p y)
    by (inr x) (inr y) =
        let same = said x.states y.states x.sum y.sum x.says y.says in
        one_on law y.states y.sum text_of (texts y.states y.sum) o p
        (subst (λ (c : BraketValue). ExpectsOn text_of o c y.sum) same.0 (subst (λ (w : SumValue). ExpectsOn text_of o x.states w) same.1 x.such)) y.such
