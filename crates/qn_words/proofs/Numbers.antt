-- Numbers in range, as their decimals write them.
use Rattle.std.proofs.Common.{◌≡◌, ◌<◌, ◌^◌, ℕ, ℤ, Bool, true, false, ◌&&◌, Option, Some, None, List, arith, ◌∙◌, ap, refl, nat_le, bytes_eq, if◌then◌else◌}
use Rattle.std.specs.Fmt.{decimal}
use Rattle.std.specs.Str.Parse.{digits_value, AllDigits}
use Rattle.std.proofs.lemmas.Fmt.{digits_value-decimal}
use Rattle.std.proofs.lemmas.Slice.Eq.{bytes_eq-Decides}
use Rattle.std.proofs.lemmas.Bool.{and_parts, leb-true}
use Rattle.qn_words.specs.Words.{number_in}

abbrev value_or : ℤ → Option ℤ → ℤ
value_or d None = d
value_or d (Some x) = x

pub same_value : (x y : ℤ) → Some x ≡ Some y → x ≡ y
same_value x y e = ap (value_or x) e

value_of_decimal : (n : ℕ) → n < 2 ^ 64 → digits_value 10 (decimal n) ≡ n
value_of_decimal n h = digits_value-decimal {P = AllDigits 10} {v = digits_value 10} (record { to = λ ds p. p; from = λ ds p. p; same = λ ds p. refl }) n h

-- the word's number is n, where it is in range
abbrev tested : ℕ → ℕ → List ℕ → ℕ → Option ℕ
tested low high w n = if bytes_eq w (decimal n) && (nat_le low n && nat_le n high) then Some n else None

-- the number of a decimal
pub number_of_decimal : (low high n : ℕ) (w : List ℕ) → n < 2 ^ 64 → w ≡ decimal n → number_in low high w ≡ (if nat_le low n && nat_le n high then Some n else None)
number_of_decimal low high n w h e =
    ap (tested low high w) (ap (digits_value 10) e ∙ value_of_decimal n h)
    ∙ ap (λ b. if b && (nat_le low n && nat_le n high) then Some n else None) ((bytes_eq-Decides w (decimal n)).1 e)

-- what is no decimal has no number
pub no_number : (low high : ℕ) (w : List ℕ) → high < 2 ^ 64 → ((n : ℕ) → n < 2 ^ 64 → w ≡ decimal n → ⊥) → number_in low high w ≡ None
no_number low high w h no_decimal = by_test (bytes_eq w (decimal v) && (nat_le low v && nat_le v high)) refl
  where
    v : ℕ
    v = digits_value 10 w

    by_test : (b : Bool) → (bytes_eq w (decimal v) && (nat_le low v && nat_le v high)) ≡ b → (if b then Some v else None) ≡ None
    by_test false e = refl
    by_test true e =
        let p = and_parts (bytes_eq w (decimal v)) (nat_le low v && nat_le v high) e in
        let q = and_parts (nat_le low v) (nat_le v high) p.1 in
        absurd (no_decimal v (grind (arith, leb-true v high q.1)) ((bytes_eq-Decides w (decimal v)).0 p.0))
