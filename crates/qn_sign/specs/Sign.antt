-- The exchange sign of odd things that are brought into another order: the exchange rule of super vector spaces.
-- The word is the order in which the things stand, the goal the order into which they are brought.
use Rattle.std.specs.Prelude.{◌≡◌, ℕ, zero, suc, ◌+◌, Bool, true, false, ◌&&◌, ◌||◌, not, List, [], ◌∷◌, count_by}

-- a test that tells whether two things are the same
pub record IsTest {E : Type 0} (same : E → E → Bool) : Type 0 where
  pub itself : (x : E) → same x x ≡ true
  pub equal : (x y : E) → same x y ≡ true → x ≡ y

-- x is in the list
abbrev pub is_in : {E : Type 0} → (E → E → Bool) → E → List E → Bool
is_in same x [] = false
is_in same x (z ∷ zs) = same x z || is_in same x zs

-- no element stands twice
abbrev pub IsDistinct : {E : Type 0} → (E → E → Bool) → List E → Type 0
IsDistinct same [] = Unit {0}
IsDistinct same (z ∷ zs) = (is_in same z zs ≡ false) × IsDistinct same zs

-- walking along the list, x is met, and y is not met before it
abbrev pub stands_before : {E : Type 0} → (E → E → Bool) → List E → E → E → Bool
stands_before same [] x y = false
stands_before same (z ∷ zs) x y = not (same y z) && (same x z || stands_before same zs x y)

-- the number of pairs of odd elements that stand in the goal in the reverse of their order in the word
abbrev pub exchanges : {E : Type 0} → (E → E → Bool) → (E → Bool) → List E → List E → ℕ
exchanges same odd word [] = 0
exchanges same odd word (x ∷ goal) =
    count_by (λ y. odd x && odd y && stands_before same word y x) goal + exchanges same odd word goal

-- one or the other, and not both: the product of two signs
abbrev pub xor : Bool → Bool → Bool
xor true b = not b
xor false b = b

-- the number is odd
abbrev pub is_odd : ℕ → Bool
is_odd zero = false
is_odd (suc n) = not (is_odd n)

-- the sign of the rearrangement is minus: the number of exchanges is odd
abbrev pub exchange_sign : {E : Type 0} → (E → E → Bool) → (E → Bool) → List E → List E → Bool
exchange_sign same odd word goal = is_odd (exchanges same odd word goal)

-- the parity of a block of things: the number of its odd ones is odd
abbrev pub block_parity : {E : Type 0} → (E → Bool) → List E → Bool
block_parity odd block = is_odd (count_by odd block)

-- the second list has the elements of the first in some order
pub data Perm {E : Type 0} : List E → List E → Type 0 where
  none : Perm [] []
  keep : {x : E} {xs ys : List E} → Perm xs ys → Perm (x ∷ xs) (x ∷ ys)
  swap : {x y : E} {xs : List E} → Perm (x ∷ y ∷ xs) (y ∷ x ∷ xs)
  then_by : {xs ys zs : List E} → Perm xs ys → Perm ys zs → Perm xs zs
