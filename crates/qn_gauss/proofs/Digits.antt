-- Decimals of numbers of up to 64 digits, digit by digit.
use Rattle.std.proofs.Common.{◌≡◌, ◌≢◌, ℕ, ◌+◌, ◌*◌, ◌/◌, ◌%◌, ◌≤◌, ◌<◌, ◌-◌, List, [], ◌∷◌, ◌++◌, length, get_or, take, arith, sym, ◌∙◌, ap, subst, ◌⊎◌, inl, inr, ⊎_elim, ℤ, pos, negsuc, ◌-ℤ◌, unsigned_abs, drop}
use Rattle.std.specs.Fmt.{decimal, signed_decimal}
use Rattle.std.proofs.lemmas.Int.{ints}
use Rattle.std.specs.Str.Parse.{IsNumeral, digits_value}
use Rattle.std.specs.Int.{IsInRange}
use Rattle.std.proofs.lemmas.Fmt.{decimal_step_wide, decimal_by_steps_wide, decimal_is_IsNumeral_wide, decimal_digit}
use Rattle.std.proofs.lemmas.Str.{digit_value_digit}
use Rattle.std.proofs.lemmas.Str.Parse.{digit_at, digits_value-take-le}
use Rattle.std.proofs.lemmas.Int.Digits.{digits_value_more}
use Rattle.std.proofs.lemmas.Grind.{common_steps}
use Rattle.std.proofs.lemmas.List.{take_more, get_or-take, length-take}
use Rattle.std.proofs.lemmas.Bool.{cases_eq}
use Rattle.std.proofs.Math.Seq.{take-length}
use Rattle.qn_gauss.specs.Gaussian.{limit}

-- one digit more
pub decimal-push : (n d : ℕ) → 0 < n → d < 10 → n ≤ limit → decimal (n * 10 + d) ≡ decimal n ++ (48 + d) ∷ []
decimal-push n d p s h =
    let q : (n * 10 + d) / 10 ≡ n = omega arith in
    let r : (n * 10 + d) % 10 ≡ d = omega arith in
    subst (λ k. decimal (n * 10 + d) ≡ decimal k ++ (48 + (n * 10 + d) % 10) ∷ []) q (decimal_step_wide (n * 10 + d) (omega arith) (omega arith))
    ∙ ap (λ k. decimal n ++ (48 + k) ∷ []) r

Leads : ℕ → List ℕ → Type 0
Leads n ds = (0 < length ds) × (0 < n → 48 < get_or ds 0 0)

-- a decimal of two digits or more begins with no zero
pub decimal-leads : (n : ℕ) → n ≤ limit → (0 < length (decimal n)) × (0 < n → 48 < get_or (decimal n) 0 0)
unfolding Leads
decimal-leads n h = decimal_by_steps_wide Leads (λ m p. (omega arith, λ z. omega arith)) (λ m ds p l. (grind (arith, common_steps), λ z. grind (arith, common_steps))) n (omega arith)

-- the digits so far
pub record IsRead (bytes : List ℕ) (i n : ℕ) : Type 0 where
  pub small : n ≤ limit
  pub none : i ≡ 0 → n ≡ 0
  pub text : 0 < i → take i bytes ≡ decimal n

pub read-more : (bytes : List ℕ) (i n m b : ℕ) → (get_or bytes 0 0 ≡ 48 → length bytes ≤ 1) → IsRead bytes i n → i < length bytes → b ≡ get_or bytes i 0 → 48 ≤ b → b ≤ 57 → m ≡ n * 10 + (b - 48) → m ≤ limit → IsRead bytes (i + 1) m
read-more bytes i n m b zero_alone r lt is low high e small = record { small = small; none = λ z. absurd (omega arith); text = λ z. by (cases_eq i 0) }
  where
    more : take (i + 1) bytes ≡ take i bytes ++ b ∷ []
    more = subst (λ x. take (i + 1) bytes ≡ take i bytes ++ x ∷ []) (sym is) (take_more bytes i 0 lt)

    -- the first digit
    first : i ≡ 0 → take (i + 1) bytes ≡ decimal m
    first z =
        let n0 = r.none z in
        let m0 : 48 + m ≡ b = omega arith in
        let small_m : m < 10 = omega arith in
        more ∙ (ap (λ k. take k bytes ++ b ∷ []) z ∙ sym (decimal_digit m small_m ∙ ap (λ x. x ∷ []) m0))

    -- a further one, where the number so far is not 0
    later : 0 < i → 0 < n → take (i + 1) bytes ≡ decimal m
    later p q =
        let d : b - 48 < 10 = omega arith in
        let back : 48 + (b - 48) ≡ b = omega arith in
        more ∙ (ap (λ xs. xs ++ b ∷ []) (r.text p) ∙ sym (ap decimal e ∙ (decimal-push n (b - 48) q d r.small ∙ ap (λ x. decimal n ++ x ∷ []) back)))

    -- only the digit 0 alone is the number 0
    never : 0 < i → n ≡ 0 → ⊥
    never p z =
        let t : take i bytes ≡ 48 ∷ [] = r.text p ∙ (ap decimal z ∙ decimal_digit 0 (omega arith)) in
        let one : length (take i bytes) ≡ 1 = ap length t in
        let h : get_or (take i bytes) 0 0 ≡ 48 = ap (λ xs. get_or xs 0 0) t in
        let g = get_or-take i bytes 0 0 p in
        omega (arith, zero_alone (sym g ∙ h), length-take {A = ℕ})

    some : 0 < i → 0 < n
    some p = ⊎_elim (λ z. absurd (never p z)) (λ z. omega arith) (cases_eq n 0)

    by : (i ≡ 0) ⊎ (i ≢ 0) → take (i + 1) bytes ≡ decimal m
    by (inl z) = first z
    by (inr z) = later (omega arith) (some (omega arith))

-- a number that continues past the limit is no beginning of a decimal within it
pub read-past : (bytes : List ℕ) (i n k : ℕ) → k ≤ limit → bytes ≡ decimal k → IsRead bytes i n → i < length bytes → (48 ≤ get_or bytes i 0 → get_or bytes i 0 ≤ 57 → limit < n * 10 + (get_or bytes i 0 - 48)) → ⊥
read-past bytes i n k small e r lt none = by (cases_eq i 0)
  where
    numeral : IsNumeral 10 bytes × (digits_value 10 bytes ≡ k)
    numeral = subst (λ xs. IsNumeral 10 xs × (digits_value 10 xs ≡ k)) (sym e) (decimal_is_IsNumeral_wide k (omega arith))

    so_far : digits_value 10 (take i bytes) ≡ n
    so_far = ⊎_elim (λ z. ap (λ j. digits_value 10 (take j bytes)) z ∙ sym (r.none z)) (λ z. ap (digits_value 10) (r.text (omega arith)) ∙ (decimal_is_IsNumeral_wide n (omega (arith, r.small))).1) (cases_eq i 0)

    by : (i ≡ 0) ⊎ (i ≢ 0) → ⊥
    by _ =
        let range : IsInRange 48 57 (get_or bytes i 0) = digit_at bytes i numeral.0.1 lt in
        let value = digit_value_digit (get_or bytes i 0) range in
        omega (arith, digits_value-take-le 10 bytes (i + 1) (omega arith), digits_value_more 10 bytes i lt, so_far, numeral.1, value, none range.0 range.1)

-- the decimal of a number tells it
pub decimal-same : (m n : ℕ) → m ≤ limit → n ≤ limit → decimal m ≡ decimal n → m ≡ n
decimal-same m n p q e = sym (decimal_is_IsNumeral_wide m (omega arith)).1 ∙ (ap (digits_value 10) e ∙ (decimal_is_IsNumeral_wide n (omega arith)).1)

-- a decimal that begins with 0 is 0
pub zero-alone : (bytes : List ℕ) (n : ℕ) → n ≤ limit → bytes ≡ decimal n → get_or bytes 0 0 ≡ 48 → length bytes ≤ 1
zero-alone bytes n h e z = by (cases_eq n 0)
  where
    by : (n ≡ 0) ⊎ (n ≢ 0) → length bytes ≤ 1
    by (inl o) = let k : length bytes ≡ 1 = ap length (e ∙ (ap decimal o ∙ decimal_digit 0 (omega arith))) in omega arith
    by (inr o) = let s = (decimal-leads n h).1 (omega arith) in let k : get_or bytes 0 0 ≡ get_or (decimal n) 0 0 = ap (λ xs. get_or xs 0 0) e in absurd (omega arith)

-- all bytes read
pub read-all : (bytes : List ℕ) (i n k : ℕ) → k ≤ limit → bytes ≡ decimal k → IsRead bytes i n → i ≡ length bytes → n ≡ k
read-all bytes i n k h e r all =
    let p : 0 < length bytes = subst (λ xs. 0 < length xs) (sym e) (decimal-leads k h).0 in
    decimal-same n k r.small h (sym (r.text (omega arith)) ∙ (ap (λ j. take j bytes) all ∙ (take-length bytes ∙ e)))

-- what stands behind a minus
pub minus-value : (ds : List ℕ) (x : ℤ) → unsigned_abs x ≤ limit → 45 ∷ ds ≡ signed_decimal x → (0 < unsigned_abs x) × (ds ≡ decimal (unsigned_abs x)) × (x ≡ pos 0 -ℤ pos (unsigned_abs x))
minus-value ds (pos n) h e =
    let first : 45 ≡ get_or (decimal n) 0 0 = ap (λ xs. get_or xs 0 0) e in
    absurd (⊎_elim (λ z. let k : 45 ≡ 48 = first ∙ (ap (λ m. get_or (decimal m) 0 0) z ∙ ap (λ xs. get_or xs 0 0) (decimal_digit 0 (omega arith))) in omega arith) (λ z. omega (arith, (decimal-leads n h).1 (omega arith))) (cases_eq n 0))
minus-value ds (negsuc n) h e = (omega arith, ap (λ xs. drop 1 xs) e, omega (arith, ints))
