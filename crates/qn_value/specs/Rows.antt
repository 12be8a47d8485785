-- A contraction of two tensors, row by row, as a program does it.
use Rattle.std.specs.Prelude.{◌≡◌, ℕ, ◌<◌, ◌==◌, ℤ, Bool, true, false, ◌&&◌, List, [], ◌∷◌, ◌++◌, length}
use Rattle.qn_gauss.specs.Gaussian.{Gaussian, zero_g, add_g, mul_g, signed}
use Rattle.qn_value.specs.Networks.{Parities, End, Node, Bond, Assignment, in_end, out_end, sign, values, at_values, contract, IsNetwork}
use Rattle.qn_value.specs.Tensors.{Row, same_values, entry_at, AreDistinct}

abbrev pub sum_over : {X : Type 0} → List X → (X → Gaussian) → Gaussian
sum_over [] f = zero_g
sum_over (x ∷ xs) f = add_g (f x) (sum_over xs f)

-- the value, or 0 where the test fails
abbrev pub when : Bool → Gaussian → Gaussian
when true x = x
when false x = zero_g

-- the values that a row of the first and a row of the second give to their ends
abbrev pub joined : List End → List End → Row → Row → Assignment
joined es fs r s = at_values (es ++ fs) (r.values ++ s.values)

-- both ends of each bond have one value
abbrev pub meet_on : List Bond → Assignment → Bool
meet_on [] c = true
meet_on (b ∷ bs) c = (c (in_end b) == c (out_end b)) && meet_on bs c

-- the two rows have one value on each bond, and leave these values open
abbrev pub meet : List End → List End → List Bond → List End → List ℕ → Row → Row → Bool
meet es fs bonds opens xs r s =
    let c = joined es fs r s in
    meet_on bonds c && same_values xs (values opens c)

-- the values are in the range of their lines
abbrev pub AreBelow : (ℤ → ℕ) → List End → List ℕ → Type 0
AreBelow dims [] [] = Unit {0}
AreBelow dims [] (v ∷ vs) = ⊥
AreBelow dims (e ∷ es) [] = ⊥
AreBelow dims (e ∷ es) (v ∷ vs) = (v < dims e.label) × AreBelow dims es vs

abbrev pub AllBelow : (ℤ → ℕ) → List End → List Row → Type 0
AllBelow dims es [] = Unit {0}
AllBelow dims es (r ∷ rs) = AreBelow dims es r.values × AllBelow dims es rs

abbrev pub HaveDims : (ℤ → ℕ) → List Bond → Type 0
HaveDims dims [] = Unit {0}
HaveDims dims (b ∷ bs) = (b.dim ≡ dims b.label) × HaveDims dims bs

abbrev pub RowsLaw : Type 0
RowsLaw =
    (par : Parities) (dims : ℤ → ℕ) (es fs : List End) (rs ss : List Row) (p q : Bool) (bonds : List Bond) (opens : List End) (xs : List ℕ) →
    let ns : List Node = record { ends = es; entry = entry_at rs; odd = p } ∷ record { ends = fs; entry = entry_at ss; odd = q } ∷ [] in
    IsNetwork ns bonds opens → length xs ≡ length opens →
    AreDistinct rs → AreDistinct ss → AllBelow dims es rs → AllBelow dims fs ss → HaveDims dims bonds →
    (contract par ns bonds opens).entry xs ≡
    sum_over rs (λ r. sum_over ss (λ s. when (meet es fs bonds opens xs r s) (signed (sign par ns bonds opens (joined es fs r s)) (mul_g r.entry s.entry))))

-- the row gives one value to both ends of each bond, and leaves these values open
abbrev pub fits : List End → List Bond → List End → List ℕ → Row → Bool
fits es bonds opens xs r =
    let c = at_values es r.values in
    meet_on bonds c && same_values xs (values opens c)

-- a contraction of one tensor, row by row
abbrev pub TraceRowsLaw : Type 0
TraceRowsLaw =
    (par : Parities) (dims : ℤ → ℕ) (es : List End) (rs : List Row) (p : Bool) (bonds : List Bond) (opens : List End) (xs : List ℕ) →
    let ns : List Node = record { ends = es; entry = entry_at rs; odd = p } ∷ [] in
    IsNetwork ns bonds opens → length xs ≡ length opens →
    AreDistinct rs → AllBelow dims es rs → HaveDims dims bonds →
    (contract par ns bonds opens).entry xs ≡
    sum_over rs (λ r. when (fits es bonds opens xs r) (signed (sign par ns bonds opens (at_values es r.values)) r.entry))
