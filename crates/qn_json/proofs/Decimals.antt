-- The number whose decimal a text is.
use Rattle.std.proofs.Common.{◌≡◌, ℕ, suc, ◌≤◌, ℤ, pos, negsuc, neg_ℤ, List, [], ◌∷◌, Bool, true, false, ◌&&◌, ◌==◌, cond, Some, None, refl, sym, ap, subst, ◌∙◌, arith, unsigned_abs}
use Rattle.std.specs.Prelude.{nat_le, bytes_eq}
use Rattle.std.specs.Fmt.{decimal, signed_decimal}
use Rattle.std.specs.Str.Parse.{IsNumeral, digits_value}
use Rattle.std.specs.Int.{IsInRange}
use Rattle.std.proofs.lemmas.Fmt.{decimal_is_IsNumeral_wide}
use Rattle.std.proofs.lemmas.Str.Parse.{digit_at}
use Rattle.std.proofs.lemmas.Slice.Eq.{bytes_eq-Decides}
use Rattle.std.proofs.lemmas.Bool.{eqb-true, leb-true, le-leb}
use Rattle.qn_gauss.specs.Gaussian.{limit}
use Rattle.qn_json.specs.Entries.{digits_number, number_written, decimal_of}

numeral_of : (bs : List ℕ) (n : ℕ) → n ≤ limit → bs ≡ decimal n → IsNumeral 10 bs × (digits_value 10 bs ≡ n)
numeral_of bs n h e = subst (λ xs. IsNumeral 10 xs × (digits_value 10 xs ≡ n)) (sym e) (decimal_is_IsNumeral_wide n (omega arith))

no_minus : (b : ℕ) (ds : List ℕ) (n : ℕ) → 48 ≤ b → digits_value 10 (b ∷ ds) ≡ n → (t : Bool) → (b == 45) ≡ t
    → cond t (neg_ℤ (pos (digits_value 10 ds))) (pos (digits_value 10 (b ∷ ds))) ≡ pos n
no_minus b ds n low e true q = absurd (omega (arith, eqb-true b 45 q, low))
no_minus b ds n low e false q = ap pos e

digits_positive : (bs : List ℕ) (n : ℕ) → n ≤ limit → bs ≡ decimal n → digits_number bs ≡ pos n
digits_positive [] n h e = absurd (omega (arith, (numeral_of [] n h e).0.0))
digits_positive (b ∷ ds) n h e =
    let numeral = numeral_of (b ∷ ds) n h e in
    let range : IsInRange 48 57 b = digit_at (b ∷ ds) 0 numeral.0.1 (omega arith) in
    no_minus b ds n range.0 numeral.1 (b == 45) refl

digits_signed : (x : ℤ) → unsigned_abs x ≤ limit → digits_number (signed_decimal x) ≡ x
digits_signed (pos n) h = digits_positive (decimal n) n h refl
digits_signed (negsuc n) h = ap (λ k. neg_ℤ (pos k)) (decimal_is_IsNumeral_wide (suc n) (omega arith)).1

written : (x : ℤ) → unsigned_abs x ≤ limit → number_written (signed_decimal x) x ≡ Some x
written x h = rw (le-leb (unsigned_abs x) limit h, (bytes_eq-Decides (signed_decimal x) (signed_decimal x)).1 refl) refl

-- the bytes of a number's decimal say this number
pub decimal_found : (x : ℤ) (bytes : List ℕ) → unsigned_abs x ≤ limit → bytes ≡ signed_decimal x → decimal_of bytes ≡ Some x
unfolding decimal_of
decimal_found x bytes h e =
    subst (λ bs. number_written bs (digits_number bs) ≡ Some x) (sym e)
    (ap (number_written (signed_decimal x)) (digits_signed x h) ∙ written x h)

not_written : (bytes : List ℕ) (x : ℤ) → (unsigned_abs x ≤ limit → bytes ≡ signed_decimal x → ⊥)
    → (a b : Bool) → nat_le (unsigned_abs x) limit ≡ a → bytes_eq (signed_decimal x) bytes ≡ b → cond (a && b) (Some x) None ≡ None
not_written bytes x h true true p q = absurd (h (leb-true (unsigned_abs x) limit p) (sym ((bytes_eq-Decides (signed_decimal x) bytes).0 q)))
not_written bytes x h true false p q = refl
not_written bytes x h false b p q = refl

-- bytes that are the decimal of no number say none
pub decimal_none : (bytes : List ℕ) → ((x : ℤ) → unsigned_abs x ≤ limit → bytes ≡ signed_decimal x → ⊥) → decimal_of bytes ≡ None
unfolding decimal_of
decimal_none bytes h = let x : ℤ = digits_number bytes in not_written bytes x (h x) _ _ refl refl
