-- Facts on options.
use Rattle.std.proofs.Common.{◌≡◌, Bool, true, false, cond, None, Some, refl}
use Rattle.std.specs.Prelude.{Option}

-- neither the first of two answers nor the second
pub none_head : {A : Type 0} (b : Bool) (x : A) (o : Option A) → cond b (Some x) o ≡ None → (b ≡ false) × (o ≡ None)
none_head true x o e = absurd (cc e)
none_head false x o e = (refl, e)
