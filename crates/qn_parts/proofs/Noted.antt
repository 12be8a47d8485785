-- The first bad place of a list, noted on the way through it.
use Rattle.std.proofs.Common.{◌≡◌, ℕ, ◌+◌, ◌<◌, List, ◌∷◌, Bool, true, false, cond, Some, None, refl, ap, ◌∙◌, arith}
use Rattle.std.specs.Prelude.{Option, IfSome}
use Rattle.std.specs.Option.{option_or}
use Rattle.std.specs.List.{position_from}

pub or_assoc : {A : Type 0} (a b c : Option A) → option_or (option_or a b) c ≡ option_or a (option_or b c)
or_assoc (Some x) b c = refl
or_assoc None b c = refl

chosen : (t : Bool) (n : ℕ) (r : Option ℕ) → option_or (cond t (Some n) None) r ≡ cond t (Some n) r
chosen true n r = refl
chosen false n r = refl

pub noted_on : {A : Type 0} (test : A → Bool) (bad : Option ℕ) (n : ℕ) (x : A) (xs : List A)
    → option_or (option_or bad (cond (test x) (Some n) None)) (position_from test (n + 1) xs) ≡ option_or bad (position_from test n (x ∷ xs))
noted_on test bad n x xs = or_assoc bad (cond (test x) (Some n) None) (position_from test (n + 1) xs) ∙ ap (option_or bad) (chosen (test x) n (position_from test (n + 1) xs))

within_chosen : (t : Bool) (n : ℕ) → IfSome (cond t (Some n) None) (λ i. i < n + 1)
within_chosen true n = omega arith
within_chosen false n = tt

pub noted_within : (bad : Option ℕ) (t : Bool) (n : ℕ) → IfSome bad (λ i. i < n) → IfSome (option_or bad (cond t (Some n) None)) (λ i. i < n + 1)
noted_within (Some i) t n h = omega (arith, h)
noted_within None t n h = within_chosen t n
