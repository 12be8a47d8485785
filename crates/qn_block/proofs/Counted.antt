-- Numbers of tuples and of values, and tuples by their numbers.
use Rattle.std.proofs.Common.{◌≡◌, ℕ, zero, suc, ◌+◌, ◌*◌, ◌/◌, ◌%◌, ◌-◌, ◌≤◌, ◌<◌, List, [], ◌∷◌, ◌++◌, length, get_or, take, drop, set, arith, refl, ap, ◌∙◌, sym, subst, add-one, append_assoc}
use Rattle.std.proofs.Math.Nat.{mul-div_cancel_left, mul_comm, mul_assoc, mul-le-mul_left}
use Rattle.std.specs.List.{All}
use Rattle.std.proofs.Math.ListN.{drop_of_length-le}
use Rattle.std.proofs.lemmas.List.{length-set, take_more_set}
use Rattle.qn_index.specs.Legs.{LegValue, IsLeg, IsSound}
use Rattle.qn_index.specs.Tuples.{count, IsTuple}
use Rattle.qn_index.proofs.Shapes.{nth_tuple, below_product, rank, rank_is}
use Rattle.qn_index.proofs.Nets.{tuple_length}
use Rattle.qn_index.proofs.Admitted.{mul_add}
use Rattle.qn_index.proofs.Shapes.{count_suc}

-- ---- the n-th tuple

nth_suc : (ls : List LegValue) (i n : ℕ) → i < length ls → nth_tuple (drop i ls) n ≡ (n / count (drop (suc i) ls)) ∷ nth_tuple (drop (suc i) ls) (n % count (drop (suc i) ls))
nth_suc [] i n lt = absurd (omega arith)
nth_suc (k ∷ ls) zero n lt = refl
nth_suc (k ∷ ls) (suc i) n lt = nth_suc ls i n (omega arith)

-- the first i numbers are written, and s and r are what is left to the legs from i on
pub record IsCounted (ls : List LegValue) (i n s r : ℕ) (t : List ℕ) : Type 0 where
  pub long : length t ≡ length ls
  pub size : s ≡ count (drop i ls)
  pub below : r < s
  pub tuple : take i t ++ nth_tuple (drop i ls) r ≡ nth_tuple ls n

pub record IsNextTuple (ls : List LegValue) (i n s r d : ℕ) (t : List ℕ) : Type 0 where
  pub some : 0 < d
  pub size : 0 < s / d
  pub inner : r / (s / d) < d
  pub next : IsCounted ls (i + 1) n (s / d) (r % (s / d)) (set t i (r / (s / d)))

pub counted_more : (ls : List LegValue) (i n s r d : ℕ) (t : List ℕ) (l : LegValue) → i < length ls → l ≡ get_or ls i l → d ≡ length l.sectors → IsCounted ls i n s r t → IsNextTuple ls i n s r d t
counted_more ls i n s r d t l lt is e m =
    let c = count (drop (i + 1) ls) in
    let one : count (drop (suc i) ls) ≡ c = ap (λ k. count (drop k ls)) (sym (add-one i)) in
    let dim : length (get_or ls i l).sectors ≡ d = ap (λ (k : LegValue). length k.sectors) (sym is) ∙ sym e in
    let whole : s ≡ d * c = m.size ∙ (count_suc ls i l lt ∙ (ap (λ k. k * count (drop (suc i) ls)) dim ∙ ap (λ k. d * k) one)) in
    let b = below_product r d c (subst (λ k. r < k) whole m.below) in
    let p : 0 < d = omega (arith, b.1) in
    let q : s / d ≡ c = ap (λ k. k / d) whole ∙ mul-div_cancel_left c p in
    let step : nth_tuple (drop i ls) r ≡ (r / c) ∷ nth_tuple (drop (i + 1) ls) (r % c) =
    nth_suc ls i r lt ∙ ap (λ k. (r / count (drop k ls)) ∷ nth_tuple (drop k ls) (r % count (drop k ls))) (sym (add-one i)) in
    let there : i < length t = omega (arith, m.long) in
    let made : IsCounted ls (i + 1) n c (r % c) (set t i (r / c)) = record {
      long = length-set t i (r / c) ∙ m.long;
      size = refl;
      below = b.2;
      tuple =
          ap (λ ys. ys ++ nth_tuple (drop (i + 1) ls) (r % c)) (take_more_set t i (r / c) there)
          ∙ (append_assoc (take i t) ((r / c) ∷ []) (nth_tuple (drop (i + 1) ls) (r % c))
          ∙ (ap (λ ys. take i t ++ ys) (sym step) ∙ m.tuple));
    } in
    record {
      some = p;
      size = subst (λ k. 0 < k) (sym q) b.0;
      inner = subst (λ k. r / k < d) (sym q) b.1;
      next = subst (λ k. IsCounted ls (i + 1) n k (r % k) (set t i (r / k))) (sym q) made;
    }

-- ---- the number of a tuple

-- what the first i legs give, and what is left to the legs from i on
pub record IsNumbered (ls : List LegValue) (t : List ℕ) (i n : ℕ) : Type 0 where
  pub number : n * count (drop i ls) + rank (drop i ls) (drop i t) ≡ rank ls t

rank_suc : (ls : List LegValue) (t : List ℕ) (i : ℕ) → i < length ls → length t ≡ length ls → rank (drop i ls) (drop i t) ≡ get_or t i 0 * count (drop (suc i) ls) + rank (drop (suc i) ls) (drop (suc i) t)
rank_suc [] t i lt n = absurd (omega arith)
rank_suc (k ∷ ls) [] i lt n = absurd (omega arith)
rank_suc (k ∷ ls) (s ∷ t) zero lt n = refl
rank_suc (k ∷ ls) (s ∷ t) (suc i) lt n = rank_suc ls t i (omega arith) (omega arith)

count_some : (ls : List LegValue) → All IsSound ls → 0 < count ls
count_some [] h = omega arith
count_some (l ∷ ls) h =
    let own : IsLeg l.sectors = h 0 l (omega arith) in
    let some = own.some in
    let rest = count_some ls (λ k d lt. h (suc k) d (omega arith)) in
    let a = mul-le-mul_left (length l.sectors) rest in
    omega (arith, a, some)

drop_sound : (ls : List LegValue) (i : ℕ) → All IsSound ls → All IsSound (drop i ls)
drop_sound ls zero h = h
drop_sound [] (suc i) h = h
drop_sound (l ∷ ls) (suc i) h = drop_sound ls i (λ k d lt. h (suc k) d (omega arith))

pub record IsNextNumber (ls : List LegValue) (t : List ℕ) (i n d s : ℕ) : Type 0 where
  pub there : i < length t
  pub small : n * d < 2097152
  pub below : n * d + s < 2097152
  pub next : IsNumbered ls t (i + 1) (n * d + s)

pub number_more : (ls : List LegValue) (t : List ℕ) (i n d s : ℕ) (l : LegValue) → All IsSound ls → IsTuple ls t → count ls ≤ 1048576 → i < length ls → l ≡ get_or ls i l → d ≡ length l.sectors → s ≡ get_or t i 0 → IsNumbered ls t i n → IsNextNumber ls t i n d s
number_more ls t i n d s l sound h few lt is e at m =
    let long = tuple_length ls t h in
    let c = count (drop (i + 1) ls) in
    let r = rank (drop (i + 1) ls) (drop (i + 1) t) in
    let one : suc i ≡ i + 1 = sym (add-one i) in
    let dim : length (get_or ls i l).sectors ≡ d = ap (λ (k : LegValue). length k.sectors) (sym is) ∙ sym e in
    let size : count (drop i ls) ≡ d * c = count_suc ls i l lt ∙ (ap (λ k. k * count (drop (suc i) ls)) dim ∙ ap (λ k. d * count (drop k ls)) one) in
    let step : rank (drop i ls) (drop i t) ≡ s * c + r = rank_suc ls t i lt long ∙ (ap (λ k. get_or t i 0 * count (drop k ls) + rank (drop k ls) (drop k t)) one ∙ ap (λ k. k * c + r) (sym at)) in
    let some : 0 < c = count_some (drop (i + 1) ls) (drop_sound ls (i + 1) sound) in
    let whole = (rank_is ls t h).0 in
    let a : n * count (drop i ls) ≡ n * d * c = ap (λ k. n * k) size ∙ sym (mul_assoc n d c) in
    let both : (n * d + s) * c ≡ n * d * c + s * c = add_mul (n * d) s c in
    let all : (n * d + s) * c + r ≡ rank ls t = omega (arith, both, a, step, m.number) in
    let over = mul-le-mul_left (n * d + s) some in
    let bound : n * d + s < 2097152 = omega (arith, all, whole, few, over) in
    record { there = omega (arith, long); small = omega (arith, bound); below = bound; next = record { number = all } }
  where
    add_mul : (a b d : ℕ) → (a + b) * d ≡ a * d + b * d
    add_mul a b d = mul_comm (a + b) d ∙ (mul_add d a b ∙ (ap (λ m. m + d * b) (mul_comm d a) ∙ ap (λ m. a * d + m) (mul_comm d b)))

pub number_all : (ls : List LegValue) (t : List ℕ) (i n : ℕ) → i ≡ length ls → IsNumbered ls t i n → n ≡ rank ls t
number_all ls t i n e m =
    let none : drop i ls ≡ [] = drop_of_length-le ls (omega arith) in
    let is = m.number in
    let size : n * count (drop i ls) ≡ n * 1 = ap (λ (ks : List LegValue). n * count ks) none in
    let rest : rank (drop i ls) (drop i t) ≡ 0 = ap (λ (ks : List LegValue). rank ks (drop i t)) none in
    omega (arith, is, size, rest)
