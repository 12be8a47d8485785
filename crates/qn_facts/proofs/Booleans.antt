-- Facts on booleans.
use Rattle.std.proofs.Common.{◌≡◌, Bool, true, false, refl, sym}

-- two truth values that follow from each other
pub same_tests : (s t : Bool) → (s ≡ true → t ≡ true) → (t ≡ true → s ≡ true) → s ≡ t
same_tests true t f g = sym (f refl)
same_tests false true f g = g refl
same_tests false false f g = refl
