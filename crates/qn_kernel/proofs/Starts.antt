-- Where the entries of a row and of a column of the result's block begin in the two blocks.
use Rattle.std.proofs.Common.{◌≡◌, ◌≤◌, ◌<◌, ◌/◌, ◌%◌, ℕ, zero, suc, ◌+◌, ◌*◌, List, [], ◌∷◌, refl, sym, ◌∙◌, ap, ap₂, subst, length, get_or, drop, take, arith}
use Rattle.std.specs.List.{All}
use Rattle.std.proofs.lemmas.Nat.{div-mul-add, mod-mul-add}
use Rattle.std.proofs.Math.Arith.{mod-mul}
use Rattle.std.proofs.lemmas.List.Elements.{All-cons, All-tail}
use Rattle.std.proofs.Math.Nat.{mod-lt, mul-le-mul_right, le-mul_of_pos_right, mod-eq_of_lt, div-div-eq-div-mul}
use Rattle.qn_index.specs.Legs.{LegValue, IsSound, sector_at}
use Rattle.qn_index.specs.Tuples.{IsTuple}
use Rattle.qn_index.specs.Places.{block_size}
use Rattle.qn_index.proofs.Admitted.{block_some}
use Rattle.qn_strides.proofs.Striding.{product_grows}
use Rattle.qn_strides.specs.Strides.{kept_axes, start_of, IsKept}

both_none : (a b m : ℕ) → a ≡ m * 0 → b ≡ 0 → a + b ≡ 0
both_none a b m e f = omega (arith, e, f)

-- where all legs are at rest nothing moves
pub at_rest : (ws : List ℕ) (rs : List LegValue) (ss ps : List ℕ) (n : ℕ) → ((k d : ℕ) → k < length ps → get_or ws (get_or ps k d) 0 ≡ 0) → start_of (kept_axes ws rs ss ps) n ≡ 0
at_rest ws [] ss ps n h = refl
at_rest ws (r ∷ rs) [] ps n h = refl
at_rest ws (r ∷ rs) (s ∷ ss) [] n h = refl
at_rest ws (r ∷ rs) (s ∷ ss) (p ∷ ps) n h =
    both_none (n / block_size rs ss * get_or ws p 0) (start_of (kept_axes ws rs ss ps) (n % block_size rs ss)) (n / block_size rs ss)
    (ap (λ w. n / block_size rs ss * w) (h 0 0 (omega arith))) (at_rest ws rs ss ps (n % block_size rs ss) (λ k d l. h (suc k) d (omega arith)))

-- the block of some legs is that of the first ones by that of the others
pub size_parts : (i : ℕ) (rs : List LegValue) (ss : List ℕ) → IsTuple rs ss → block_size rs ss ≡ block_size (take i rs) (take i ss) * block_size (drop i rs) (drop i ss)
size_parts zero rs ss h = one (block_size rs ss)
  where
    one : (n : ℕ) → n ≡ 1 * n
    one n = omega arith
size_parts (suc i) [] ss h = refl
size_parts (suc i) (r ∷ rs) [] h = absurd h
size_parts (suc i) (r ∷ rs) (s ∷ ss) h =
    ap (λ k. (sector_at r.sectors s).dim * k) (size_parts i rs ss h.1) ∙ again (sector_at r.sectors s).dim (block_size (take i rs) (take i ss)) (block_size (drop i rs) (drop i ss))
  where
    again : (a b c : ℕ) → a * (b * c) ≡ a * b * c
    again a b c = omega arith

size_split : (i : ℕ) (rs : List LegValue) (ss : List ℕ) → IsTuple rs ss → (m : ℕ) × (block_size rs ss ≡ m * block_size (drop i rs) (drop i ss))
size_split i rs ss h = (block_size (take i rs) (take i ss), size_parts i rs ss h)

-- and both are tuples of their own
pub tuple_taken : (i : ℕ) (rs : List LegValue) (ss : List ℕ) → IsTuple rs ss → IsTuple (take i rs) (take i ss)
tuple_taken zero rs ss h = refl
tuple_taken (suc i) [] ss h = ap (take (suc i)) h
tuple_taken (suc i) (r ∷ rs) [] h = absurd h
tuple_taken (suc i) (r ∷ rs) (s ∷ ss) h = (h.0, tuple_taken i rs ss h.1)

pub tuple_dropped : (i : ℕ) (rs : List LegValue) (ss : List ℕ) → IsTuple rs ss → IsTuple (drop i rs) (drop i ss)
tuple_dropped zero rs ss h = h
tuple_dropped (suc i) [] ss h = ap (drop (suc i)) h
tuple_dropped (suc i) (r ∷ rs) [] h = absurd h
tuple_dropped (suc i) (r ∷ rs) (s ∷ ss) h = tuple_dropped i rs ss h.1

sound_taken : (i : ℕ) (rs : List LegValue) → All IsSound rs → All IsSound (take i rs)
sound_taken zero rs h = λ k d l. absurd (omega arith)
sound_taken (suc i) [] h = h
sound_taken (suc i) (r ∷ rs) h = All-cons IsSound r (take i rs) (h 0 r (omega arith)) (sound_taken i rs (All-tail IsSound r rs h))

sound_dropped : (i : ℕ) (rs : List LegValue) → All IsSound rs → All IsSound (drop i rs)
sound_dropped zero rs h = h
sound_dropped (suc i) [] h = λ k d l. absurd (omega arith)
sound_dropped (suc i) (r ∷ rs) h = sound_dropped i rs (All-tail IsSound r rs h)

-- each is at most as large as the whole
pub parts_small : (i : ℕ) (rs : List LegValue) (ss : List ℕ) (m : ℕ) → All IsSound rs → IsTuple rs ss → block_size rs ss ≤ m → (block_size (take i rs) (take i ss) ≤ m) × (block_size (drop i rs) (drop i ss) ≤ m)
parts_small i rs ss m sound h l =
    let one : block_size (take i rs) (take i ss) ≤ block_size (take i rs) (take i ss) * block_size (drop i rs) (drop i ss) =
    le-mul_of_pos_right (block_size (take i rs) (take i ss)) (block_some (drop i rs) (drop i ss) (sound_dropped i rs sound) (tuple_dropped i rs ss h)) in
    let two : block_size (drop i rs) (drop i ss) ≤ block_size (take i rs) (take i ss) * block_size (drop i rs) (drop i ss) =
    product_grows (block_size (take i rs) (take i ss)) (block_size (drop i rs) (drop i ss)) (block_some (take i rs) (take i ss) (sound_taken i rs sound) (tuple_taken i rs ss h)) in
    (omega (arith, l, one, size_parts i rs ss h), omega (arith, l, two, size_parts i rs ss h))

pub rest_tuple : (i : ℕ) (rs : List LegValue) (ss : List ℕ) (m : ℕ) (ks : List LegValue) (ts : List ℕ) → ks ≡ drop i rs → ts ≡ drop i ss → All IsSound rs → IsTuple rs ss → block_size rs ss ≤ m → IsTuple ks ts × (block_size ks ts ≤ m)
rest_tuple i rs ss m ks ts e f sound h l =
    subst (λ js. IsTuple js ts × (block_size js ts ≤ m)) (sym e) (subst (λ us. IsTuple (drop i rs) us × (block_size (drop i rs) us ≤ m)) (sym f) (tuple_dropped i rs ss h, (parts_small i rs ss m sound h l).1))

-- a place of a row, by legs whose neighbouring values stand some rows apart
quotient : (x y cols m : ℕ) → y < cols → (x * cols + y) / (m * cols) ≡ x / m
quotient x y cols m l = ap (λ n. (x * cols + y) / n) (turned m cols) ∙ sym (div-div-eq-div-mul (x * cols + y) cols m) ∙ ap (λ n. n / m) (div-mul-add x cols y l)
  where
    turned : (a b : ℕ) → a * b ≡ b * a
    turned a b = omega arith

remainder : (x y cols m : ℕ) → y < cols → 0 < m → (x * cols + y) % (m * cols) ≡ (x % m) * cols + y
remainder x y cols m l h = mod-mul (x * cols + y) h (omega (arith, l)) ∙ ap₂ (λ a b. (a % m) * cols + b) (div-mul-add x cols y l) (mod-mul-add x cols y l)

factor : (m n : ℕ) → 0 < m * n → 0 < m
factor zero n h = absurd (omega (arith, h))
factor (suc m) n h = omega arith

-- in the first block all entries of a row begin at one place
pub row_start : (i : ℕ) (ws : List ℕ) (rs : List LegValue) (ss ps : List ℕ) (x y : ℕ) → IsTuple rs ss → All IsKept (kept_axes ws rs ss ps) → ((k d : ℕ) → i ≤ k → k < length ps → get_or ws (get_or ps k d) 0 ≡ 0) → y < block_size (drop i rs) (drop i ss) →
    start_of (kept_axes ws rs ss ps) (x * block_size (drop i rs) (drop i ss) + y) ≡ start_of (kept_axes ws rs ss ps) (x * block_size (drop i rs) (drop i ss))
row_start zero ws rs ss ps x y h kept rest l =
    at_rest ws rs ss ps (x * block_size rs ss + y) (λ k d lt. rest k d (omega arith) lt) ∙ sym (at_rest ws rs ss ps (x * block_size rs ss) (λ k d lt. rest k d (omega arith) lt))
row_start (suc i) ws [] ss ps x y h kept rest l = refl
row_start (suc i) ws (r ∷ rs) [] ps x y h kept rest l = refl
row_start (suc i) ws (r ∷ rs) (s ∷ ss) [] x y h kept rest l = refl
row_start (suc i) ws (r ∷ rs) (s ∷ ss) (p ∷ ps) x y h kept rest l = go (λ z. row_start i ws rs ss ps z y h.1 (λ k d lt. kept (suc k) d (omega arith)) (λ k d le lt. rest (suc k) d (omega arith) (omega arith)) l) (size_split i rs ss h.1)
  where
    go : ((z : ℕ) → start_of (kept_axes ws rs ss ps) (z * block_size (drop i rs) (drop i ss) + y) ≡ start_of (kept_axes ws rs ss ps) (z * block_size (drop i rs) (drop i ss))) → ((m : ℕ) × (block_size rs ss ≡ m * block_size (drop i rs) (drop i ss))) →
        (x * block_size (drop i rs) (drop i ss) + y) / block_size rs ss * get_or ws p 0 + start_of (kept_axes ws rs ss ps) ((x * block_size (drop i rs) (drop i ss) + y) % block_size rs ss)
        ≡ (x * block_size (drop i rs) (drop i ss)) / block_size rs ss * get_or ws p 0 + start_of (kept_axes ws rs ss ps) ((x * block_size (drop i rs) (drop i ss)) % block_size rs ss)
    go ih (m, e) =
        ap₂ (λ a b. a * get_or ws p 0 + start_of (kept_axes ws rs ss ps) b) (there y l) (after y l)
        ∙ ap (λ b. x / m * get_or ws p 0 + b) (ih (x % m))
        ∙ sym (ap₂ (λ a b. a * get_or ws p 0 + start_of (kept_axes ws rs ss ps) b) (ap (λ n. n / block_size rs ss) (same (x * block_size (drop i rs) (drop i ss))) ∙ there 0 (omega (arith, l)))
        (ap (λ n. n % block_size rs ss) (same (x * block_size (drop i rs) (drop i ss))) ∙ after 0 (omega (arith, l)) ∙ sym (same ((x % m) * block_size (drop i rs) (drop i ss)))))
      where
        same : (n : ℕ) → n ≡ n + 0
        same n = omega arith

        whole : 0 < block_size rs ss
        whole = (kept 0 (record { size = 0; stride = 0 }) (omega arith)).0

        some : 0 < m
        some = factor m (block_size (drop i rs) (drop i ss)) (subst (λ n. 0 < n) e whole)

        there : (v : ℕ) → v < block_size (drop i rs) (drop i ss) → (x * block_size (drop i rs) (drop i ss) + v) / block_size rs ss ≡ x / m
        there v lt = ap (λ n. (x * block_size (drop i rs) (drop i ss) + v) / n) e ∙ quotient x v (block_size (drop i rs) (drop i ss)) m lt

        after : (v : ℕ) → v < block_size (drop i rs) (drop i ss) → (x * block_size (drop i rs) (drop i ss) + v) % block_size rs ss ≡ (x % m) * block_size (drop i rs) (drop i ss) + v
        after v lt = ap (λ n. (x * block_size (drop i rs) (drop i ss) + v) % n) e ∙ remainder x v (block_size (drop i rs) (drop i ss)) m lt some

-- in the second block all entries of a column begin at one place
pub col_start : (i : ℕ) (ws : List ℕ) (rs : List LegValue) (ss ps : List ℕ) (x y : ℕ) → IsTuple rs ss → All IsKept (kept_axes ws rs ss ps) → ((k d : ℕ) → k < i → k < length ps → get_or ws (get_or ps k d) 0 ≡ 0) → y < block_size (drop i rs) (drop i ss) →
    x * block_size (drop i rs) (drop i ss) + y < block_size rs ss → start_of (kept_axes ws rs ss ps) (x * block_size (drop i rs) (drop i ss) + y) ≡ start_of (kept_axes ws rs ss ps) y
col_start zero ws rs ss ps x y h kept rest l below = ap (start_of (kept_axes ws rs ss ps)) (alone x (block_size rs ss) y below)
  where
    alone : (a n b : ℕ) → a * n + b < n → a * n + b ≡ b
    alone zero n b lt = omega arith
    alone (suc a) n b lt = absurd (omega (arith, lt))
col_start (suc i) ws [] ss ps x y h kept rest l below = refl
col_start (suc i) ws (r ∷ rs) [] ps x y h kept rest l below = refl
col_start (suc i) ws (r ∷ rs) (s ∷ ss) [] x y h kept rest l below = refl
col_start (suc i) ws (r ∷ rs) (s ∷ ss) (p ∷ ps) x y h kept rest l below = go (λ z lt. col_start i ws rs ss ps z y h.1 (λ k d n. kept (suc k) d (omega arith)) (λ k d n m. rest (suc k) d (omega arith) (omega arith)) l lt) (size_split i rs ss h.1)
  where
    go : ((z : ℕ) → z * block_size (drop i rs) (drop i ss) + y < block_size rs ss → start_of (kept_axes ws rs ss ps) (z * block_size (drop i rs) (drop i ss) + y) ≡ start_of (kept_axes ws rs ss ps) y) → ((m : ℕ) × (block_size rs ss ≡ m * block_size (drop i rs) (drop i ss))) →
        (x * block_size (drop i rs) (drop i ss) + y) / block_size rs ss * get_or ws p 0 + start_of (kept_axes ws rs ss ps) ((x * block_size (drop i rs) (drop i ss) + y) % block_size rs ss)
        ≡ y / block_size rs ss * get_or ws p 0 + start_of (kept_axes ws rs ss ps) (y % block_size rs ss)
    go ih (m, e) =
        ap₂ (λ w b. (x * block_size (drop i rs) (drop i ss) + y) / block_size rs ss * w + start_of (kept_axes ws rs ss ps) b) still (ap (λ n. (x * block_size (drop i rs) (drop i ss) + y) % n) e ∙ remainder x y (block_size (drop i rs) (drop i ss)) m l some)
        ∙ none ((x * block_size (drop i rs) (drop i ss) + y) / block_size rs ss) (y / block_size rs ss) (start_of (kept_axes ws rs ss ps) ((x % m) * block_size (drop i rs) (drop i ss) + y)) (start_of (kept_axes ws rs ss ps) y)
        (ih (x % m) (subst (λ n. (x % m) * block_size (drop i rs) (drop i ss) + y < n) (sym e) within))
        ∙ sym (ap₂ (λ w b. y / block_size rs ss * w + start_of (kept_axes ws rs ss ps) b) still (mod-eq_of_lt small))
      where
        still : get_or ws p 0 ≡ 0
        still = rest 0 0 (omega arith) (omega arith)

        none : (a b c d : ℕ) → c ≡ d → a * 0 + c ≡ b * 0 + d
        none a b c d f = omega (arith, f)

        whole : 0 < block_size rs ss
        whole = (kept 0 (record { size = 0; stride = 0 }) (omega arith)).0

        some : 0 < m
        some = factor m (block_size (drop i rs) (drop i ss)) (subst (λ n. 0 < n) e whole)

        within : (x % m) * block_size (drop i rs) (drop i ss) + y < m * block_size (drop i rs) (drop i ss)
        within =
            let all : suc (x % m) * block_size (drop i rs) (drop i ss) ≤ m * block_size (drop i rs) (drop i ss) = mul-le-mul_right (block_size (drop i rs) (drop i ss)) (mod-lt x some) in
            omega (arith, all, l)

        small : y < block_size rs ss
        small =
            let all : 1 * block_size (drop i rs) (drop i ss) ≤ m * block_size (drop i rs) (drop i ss) = mul-le-mul_right (block_size (drop i rs) (drop i ss)) (omega (arith, some)) in
            omega (arith, all, l, e)
