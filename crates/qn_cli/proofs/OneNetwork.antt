-- A network comes to one outcome at most.
use Rattle.std.proofs.Common.{◌≡◌, ℕ, List, None, sym, ap, ◌∙◌}
use Rattle.qn_net.specs.Passing.{StepPlace}
use Rattle.qn_net.specs.NetworkValues.{NetworkValue, passing_place}
use Rattle.qn_plan.specs.Planned.{first_wide}
use Rattle.qn_parts.specs.declared.fault.Fault.{Fault}
use Rattle.qn_parts.specs.Faults.{fault}
use Rattle.qn_cli.specs.Outcomes.{Outcome, refused, passed, answered}
use Rattle.qn_cli.specs.Networks.{IsWideStep, IsPassingPlace}
use Rattle.qn_cli.proofs.OneDocument.{some_same, none_some}

-- what a network comes to, where this is its text
abbrev pub NetworkComes : NetworkValue → List ℕ → Outcome → Type 0
NetworkComes net text (refused f) = IsWideStep net f
NetworkComes net text (passed step at offset) = IsPassingPlace net step at offset
NetworkComes net text (answered t) = (first_wide net ≡ None) × (passing_place net ≡ None) × (t ≡ text)

-- networks with the same first wide step and the same passing place

module _ (m n : NetworkValue) (wide : first_wide m ≡ first_wide n) (passing : passing_place m ≡ passing_place n) where
  pub one_wide_step : (f g : Fault) → IsWideStep m f → IsWideStep n g → f ≡ g
  one_wide_step f g p q = p.2 ∙ (ap (λ k. fault 27 0 k 0) (some_same p.0 q.0 (sym p.1 ∙ (wide ∙ q.1))) ∙ sym q.2)

  pub no_wide_step : (f : Fault) → IsWideStep m f → first_wide n ≡ None → ⊥
  no_wide_step f p q = none_some (first_wide m) p.0 (wide ∙ q) p.1

  pub none_wide_step : (f : Fault) → first_wide m ≡ None → IsWideStep n f → ⊥
  none_wide_step f p q = none_some (first_wide n) q.0 (sym wide ∙ p) q.1

  pub one_place : (s1 s2 : ℕ) (a1 a2 : List ℕ) (o1 o2 : ℕ) → IsPassingPlace m s1 a1 o1 → IsPassingPlace n s2 a2 o2 → passed s1 a1 o1 ≡ passed s2 a2 o2
  one_place s1 s2 a1 a2 o1 o2 p q =
      let first : StepPlace = record { step = s1; tuple = a1; offset = o1 } in
      let second : StepPlace = record { step = s2; tuple = a2; offset = o2 } in
      ap (λ (k : StepPlace). passed k.step k.tuple k.offset) (some_same first second (sym p.1 ∙ (passing ∙ q.1)))

  pub no_place : (s : ℕ) (a : List ℕ) (o : ℕ) → IsPassingPlace m s a o → passing_place n ≡ None → ⊥
  no_place s a o p q = none_some (passing_place m) (record { step = s; tuple = a; offset = o }) (passing ∙ q) p.1

  pub none_place : (s : ℕ) (a : List ℕ) (o : ℕ) → passing_place m ≡ None → IsPassingPlace n s a o → ⊥
  none_place s a o p q = none_some (passing_place n) (record { step = s; tuple = a; offset = o }) (sym passing ∙ p) q.1

  pub one_of_network : (x y : List ℕ) → x ≡ y → (o p : Outcome) → NetworkComes m x o → NetworkComes n y p → o ≡ p
  one_of_network x y e (refused f) (refused g) a b = ap refused (one_wide_step f g a b)
  one_of_network x y e (refused f) (passed step at offset) a b = absurd (no_wide_step f a b.0)
  one_of_network x y e (refused f) (answered text) a b = absurd (no_wide_step f a b.0)
  one_of_network x y e (passed step at offset) (refused g) a b = absurd (none_wide_step g a.0 b)
  one_of_network x y e (passed s1 a1 o1) (passed s2 a2 o2) a b = one_place s1 s2 a1 a2 o1 o2 a b
  one_of_network x y e (passed step at offset) (answered text) a b = absurd (no_place step at offset a b.1)
  one_of_network x y e (answered text) (refused g) a b = absurd (none_wide_step g a.0 b)
  one_of_network x y e (answered text) (passed step at offset) a b = absurd (none_place step at offset a.1 b)
  one_of_network x y e (answered text) (answered other) a b = ap answered (a.2 ∙ (e ∙ sym b.2))
