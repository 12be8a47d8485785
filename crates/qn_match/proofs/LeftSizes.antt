-- Sizes of blocks beside marked legs.
use Rattle.std.proofs.Common.{◌≡◌, ◌≤◌, ◌<◌, ◌-◌, ◌*◌, ℕ, Bool, true, false, cond, zero, suc, List, [], ◌∷◌, length, get_or, drop, arith, refl, sym, ap, ap₂, ◌∙◌}
use Rattle.std.specs.List.{All}
use Rattle.std.proofs.Math.Nat.{mul_comm, mul-le-mul_left}
use Rattle.std.proofs.lemmas.List.Elements.{All-tail}
use Rattle.qn_index.specs.Legs.{LegValue, IsSound, sector_at, no_sector}
use Rattle.qn_index.specs.Tuples.{IsTuple}
use Rattle.qn_index.specs.Places.{block_size}
use Rattle.qn_index.proofs.Nets.{tuple_length}
use Rattle.qn_index.proofs.Places.{block_drop_le}
use Rattle.qn_match.specs.Pairs.{unmarked}

-- the size that is left beside the marked legs, from the i-th leg on
abbrev pub left_from : List Bool → List LegValue → List ℕ → ℕ → ℕ
left_from ms ls t i = block_size (unmarked (drop i ms) (drop i ls)) (unmarked (drop i ms) (drop i t))

left_suc : (ms : List Bool) (ls : List LegValue) (t : List ℕ) (i : ℕ) (l : LegValue) → i < length ls → length ms ≡ length ls → length t ≡ length ls → left_from ms ls t i ≡ cond (get_or ms i false) 1 (sector_at (get_or ls i l).sectors (get_or t i 0)).dim * left_from ms ls t (suc i)
left_suc ms [] t i l lt e f = absurd (omega arith)
left_suc [] (k ∷ ls) t i l lt e f = absurd (omega arith)
left_suc (m ∷ ms) (k ∷ ls) [] i l lt e f = absurd (omega arith)
left_suc (true ∷ ms) (k ∷ ls) (s ∷ ss) zero l lt e f = omega arith
left_suc (false ∷ ms) (k ∷ ls) (s ∷ ss) zero l lt e f = refl
left_suc (m ∷ ms) (k ∷ ls) (s ∷ ss) (suc i) l lt e f = left_suc ms ls ss i l (omega arith) (omega arith) (omega arith)

-- one leg more, from the last
pub left_back : (ms : List Bool) (ls : List LegValue) (t : List ℕ) (i : ℕ) (l : LegValue) (m : Bool) (size d : ℕ) → IsTuple ls t → length ms ≡ length ls → 0 < i → i - 1 < length ls → l ≡ get_or ls (i - 1) l → m ≡ get_or ms (i - 1) false →
    d ≡ cond m 1 (sector_at l.sectors (get_or t (i - 1) 0)).dim → size ≡ left_from ms ls t i → size * d ≡ left_from ms ls t (i - 1)
left_back ms ls t i l m size d h e p lt is mark dim made =
    let back : suc (i - 1) ≡ i = omega arith in
    let to : d ≡ cond (get_or ms (i - 1) false) 1 (sector_at (get_or ls (i - 1) l).sectors (get_or t (i - 1) 0)).dim =
    dim ∙ ap₂ (λ (b : Bool) (k : LegValue). cond b 1 (sector_at k.sectors (get_or t (i - 1) 0)).dim) mark is in
    mul_comm size d ∙ (ap₂ (λ a b. a * b) to (made ∙ ap (left_from ms ls t) (sym back)) ∙ sym (left_suc ms ls t (i - 1) l lt e (tuple_length ls t h)))

-- no more is left than there was
pub left_le : (ms : List Bool) (ls : List LegValue) (t : List ℕ) → All IsSound ls → IsTuple ls t → length ms ≡ length ls → block_size (unmarked ms ls) (unmarked ms t) ≤ block_size ls t
left_le [] [] t sound h e = omega arith
left_le (m ∷ ms) [] t sound h e = absurd (omega arith)
left_le [] (l ∷ ls) t sound h e = absurd (omega arith)
left_le (m ∷ ms) (l ∷ ls) [] sound h e = absurd h
left_le (true ∷ ms) (l ∷ ls) (s ∷ ss) sound h e =
    let some = ((sound 0 l (omega arith)).dims s no_sector h.0).0 in
    let c = block_size ls ss in
    let le = mul-le-mul_left c some in
    let flip = mul_comm c (sector_at l.sectors s).dim in
    omega (arith, le, flip, left_le ms ls ss (All-tail IsSound l ls sound) h.1 (omega arith))
left_le (false ∷ ms) (l ∷ ls) (s ∷ ss) sound h e =
    mul-le-mul_left (sector_at l.sectors s).dim (left_le ms ls ss (All-tail IsSound l ls sound) h.1 (omega arith))

tuple_drop : (ls : List LegValue) (t : List ℕ) (i : ℕ) → IsTuple ls t → IsTuple (drop i ls) (drop i t)
tuple_drop ls t zero h = h
tuple_drop [] t (suc i) h = ap (λ s. drop (suc i) s) h
tuple_drop (l ∷ ls) [] (suc i) h = absurd h
tuple_drop (l ∷ ls) (s ∷ ss) (suc i) h = tuple_drop ls ss i h.1

-- no more is left than there was, from the i-th leg on
pub left_from_le : (ms : List Bool) (ls : List LegValue) (t : List ℕ) (i : ℕ) → All IsSound ls → IsTuple ls t → length ms ≡ length ls → left_from ms ls t i ≤ block_size ls t
left_from_le ms ls t i sound h e =
    let le : block_size (drop i ls) (drop i t) ≤ block_size ls t = block_drop_le ls t i sound h in
    let less : left_from ms ls t i ≤ block_size (drop i ls) (drop i t) = left_le (drop i ms) (drop i ls) (drop i t) (dropped ls i sound) (tuple_drop ls t i h) (same ms ls i e) in
    omega (arith, le, less)
  where
    dropped : (ks : List LegValue) (n : ℕ) → All IsSound ks → All IsSound (drop n ks)
    dropped ks zero all = all
    dropped [] (suc n) all = λ k d lt. absurd (omega arith)
    dropped (k ∷ ks) (suc n) all = dropped ks n (All-tail IsSound k ks all)

    same : (ns : List Bool) (ks : List LegValue) (n : ℕ) → length ns ≡ length ks → length (drop n ns) ≡ length (drop n ks)
    same ns ks zero q = q
    same [] [] (suc n) q = refl
    same [] (k ∷ ks) (suc n) q = absurd (omega arith)
    same (b ∷ ns) [] (suc n) q = absurd (omega arith)
    same (b ∷ ns) (k ∷ ks) (suc n) q = same ns ks n (omega arith)
