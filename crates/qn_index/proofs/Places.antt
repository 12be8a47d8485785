-- Places in a block: an offset and the offsets inside the sectors, taken apart and put together.
use Rattle.std.proofs.Common.{◌≡◌, ℕ, zero, suc, ◌+◌, ◌*◌, ◌/◌, ◌%◌, ◌≤◌, ◌<◌, ◌-◌, ◌^◌, List, [], ◌∷◌, ◌++◌, length, get_or, drop, arith, refl, ap, ◌∙◌, sym, subst, add-one, append_assoc}
use Rattle.std.specs.List.{All}
use Rattle.std.proofs.lemmas.List.{drop_all, append-nil}
use Rattle.std.proofs.Math.Nat.{mul_comm, mul-le-mul_left, mul-le-mul_right, mul-div_cancel_left}
use Rattle.std.proofs.lemmas.Nat.{div-mul-add, mod-mul-add}
use Rattle.qn_index.specs.Legs.{LegValue, IsSound, no_sector, sector_at, before, sector_of, offset_in}
use Rattle.qn_index.specs.Tuples.{IsTuple}
use Rattle.qn_index.specs.Places.{block_size, IsInner, offset_of, inner_of, IsValues, sectors_at, offset_at, values_at}
use Rattle.qn_index.proofs.Nets.{tuple_length}
use Rattle.qn_index.proofs.Sectors.{sector_from_place, place_of_value, place_bound}
use Rattle.qn_index.proofs.Shapes.{below_product}

place_in : (d q c r : ℕ) → r < c → q < d → (q * c + r < d * c) × ((q * c + r) / c ≡ q) × ((q * c + r) % c ≡ r)
place_in d q c r lt h =
    let le = mul-le-mul_right c h in
    let e : suc q * c ≡ q * c + c = omega arith in
    (omega (arith, le, e), div-mul-add q c r lt, mod-mul-add q c r lt)

-- ---- offsets inside the sectors

pub inner_in : (ls : List LegValue) (t : List ℕ) (n : ℕ) → IsTuple ls t → n < block_size ls t → IsInner ls t (inner_of ls t n)
inner_in [] t n h lt = refl
inner_in (l ∷ ls) [] n h lt = absurd h
inner_in (l ∷ ls) (s ∷ ss) n h lt =
    let b = below_product n (sector_at l.sectors s).dim (block_size ls ss) lt in
    (b.1, inner_in ls ss (n % block_size ls ss) h.1 b.2)

pub offset_of_inner : (ls : List LegValue) (t : List ℕ) (n : ℕ) → IsTuple ls t → n < block_size ls t → offset_of ls t (inner_of ls t n) ≡ n
offset_of_inner [] t n h lt = omega arith
offset_of_inner (l ∷ ls) [] n h lt = absurd h
offset_of_inner (l ∷ ls) (s ∷ ss) n h lt =
    let c = block_size ls ss in
    let b = below_product n (sector_at l.sectors s).dim c lt in
    omega (arith, offset_of_inner ls ss (n % c) h.1 b.2)

pub inner_of_offset : (ls : List LegValue) (t os : List ℕ) → IsTuple ls t → IsInner ls t os → (offset_of ls t os < block_size ls t) × (inner_of ls t (offset_of ls t os) ≡ os)
inner_of_offset [] t os h i = (omega arith, sym i)
inner_of_offset (l ∷ ls) [] os h i = absurd h
inner_of_offset (l ∷ ls) (s ∷ ss) [] h i = absurd i
inner_of_offset (l ∷ ls) (s ∷ ss) (o ∷ os) h i =
    let c = block_size ls ss in
    let r = inner_of_offset ls ss os h.1 i.1 in
    let m = place_in (sector_at l.sectors s).dim o c (offset_of ls ss os) r.0 i.0 in
    (m.0, ap (λ k. k ∷ inner_of ls ss ((o * c + offset_of ls ss os) % c)) m.1 ∙ (ap (λ k. o ∷ inner_of ls ss k) m.2 ∙ ap (λ ys. o ∷ ys) r.1))

pub inner_length : (ls : List LegValue) (t os : List ℕ) → IsInner ls t os → length os ≡ length ls
inner_length [] t os h = ap length h
inner_length (l ∷ ls) [] os h = absurd h
inner_length (l ∷ ls) (s ∷ ss) [] h = absurd h
inner_length (l ∷ ls) (s ∷ ss) (o ∷ os) h = ap suc (inner_length ls ss os h.1)

pub inner_at : (ls : List LegValue) (t os : List ℕ) (i : ℕ) (l : LegValue) → IsInner ls t os → i < length ls → get_or os i 0 < (sector_at (get_or ls i l).sectors (get_or t i 0)).dim
inner_at [] t os i l h lt = absurd (omega arith)
inner_at (k ∷ ls) [] os i l h lt = absurd h
inner_at (k ∷ ls) (s ∷ ss) [] i l h lt = absurd h
inner_at (k ∷ ls) (s ∷ ss) (o ∷ os) zero l h lt = h.0
inner_at (k ∷ ls) (s ∷ ss) (o ∷ os) (suc i) l h lt = inner_at ls ss os i l h.1 (omega arith)

-- ---- values

-- from a place to its values and back
pub record Back (ls : List LegValue) (t : List ℕ) (o : ℕ) : Type 0 where
  pub sectors : sectors_at ls (values_at ls t o) ≡ t
  pub offset : offset_at ls (values_at ls t o) ≡ o

pub back : (ls : List LegValue) (t : List ℕ) (o : ℕ) → IsTuple ls t → o < block_size ls t → Back ls t o
back [] t o h lt = record { sectors = sym h; offset = omega arith }
back (l ∷ ls) [] o h lt = absurd h
back (l ∷ ls) (s ∷ ss) o h lt =
    let c = block_size ls ss in
    let b = below_product o (sector_at l.sectors s).dim c lt in
    let r = back ls ss (o % c) h.1 b.2 in
    let p = sector_from_place l.sectors s (o / c) h.0 b.1 in
    record {
      sectors = ap (λ x. x ∷ sectors_at ls (values_at ls ss (o % c))) p.0 ∙ ap (λ xs. s ∷ xs) r.sectors;
      offset =
          let size : block_size ls (sectors_at ls (values_at ls ss (o % c))) ≡ c = ap (block_size ls) r.sectors in
          let one : offset_in l.sectors (before l.sectors s + o / c) * block_size ls (sectors_at ls (values_at ls ss (o % c))) ≡ o / c * c = ap (λ x. x * block_size ls (sectors_at ls (values_at ls ss (o % c)))) p.1 ∙ ap (λ x. o / c * x) size in
          omega (arith, one, r.offset);
    }

-- from values to their place and back
pub record Forth (ls : List LegValue) (xs : List ℕ) : Type 0 where
  pub tuple : IsTuple ls (sectors_at ls xs)
  pub below : offset_at ls xs < block_size ls (sectors_at ls xs)
  pub values : values_at ls (sectors_at ls xs) (offset_at ls xs) ≡ xs

pub forth : (ls : List LegValue) (xs : List ℕ) → IsValues ls xs → Forth ls xs
forth [] xs h = record { tuple = refl; below = omega arith; values = sym h }
forth (l ∷ ls) [] h = absurd h
forth (l ∷ ls) (x ∷ xs) h =
    let r = forth ls xs h.1 in
    let p = place_of_value l.sectors x h.0 in
    let c = block_size ls (sectors_at ls xs) in
    let m = place_in (sector_at l.sectors (sector_of l.sectors x)).dim (offset_in l.sectors x) c (offset_at ls xs) r.below p.1 in
    record {
      tuple = (p.0, r.tuple);
      below = m.0;
      values =
          ap (λ k. (before l.sectors (sector_of l.sectors x) + k) ∷ values_at ls (sectors_at ls xs) ((offset_in l.sectors x * c + offset_at ls xs) % c)) m.1
          ∙ (ap (λ k. k ∷ values_at ls (sectors_at ls xs) ((offset_in l.sectors x * c + offset_at ls xs) % c)) p.2
          ∙ (ap (λ k. x ∷ values_at ls (sectors_at ls xs) k) m.2 ∙ ap (λ ys. x ∷ ys) r.values));
    }

pub values_in : (ls : List LegValue) (t : List ℕ) (o : ℕ) → IsTuple ls t → o < block_size ls t → IsValues ls (values_at ls t o)
values_in [] t o h lt = refl
values_in (l ∷ ls) [] o h lt = absurd h
values_in (l ∷ ls) (s ∷ ss) o h lt =
    let b = below_product o (sector_at l.sectors s).dim (block_size ls ss) lt in
    (place_bound l.sectors s _ h.0 b.1, values_in ls ss _ h.1 b.2)

-- ---- leg by leg

pub size_suc : (ls : List LegValue) (t : List ℕ) (i : ℕ) (l : LegValue) → i < length ls → length t ≡ length ls → block_size (drop i ls) (drop i t) ≡ (sector_at (get_or ls i l).sectors (get_or t i 0)).dim * block_size (drop (suc i) ls) (drop (suc i) t)
size_suc [] t i l lt e = absurd (omega arith)
size_suc (k ∷ ls) [] i l lt e = absurd (omega arith)
size_suc (k ∷ ls) (s ∷ ss) zero l lt e = refl
size_suc (k ∷ ls) (s ∷ ss) (suc i) l lt e = size_suc ls ss i l (omega arith) (omega arith)

offset_suc : (ls : List LegValue) (t os : List ℕ) (i : ℕ) → i < length ls → length t ≡ length ls → length os ≡ length ls → offset_of (drop i ls) (drop i t) (drop i os) ≡ get_or os i 0 * block_size (drop (suc i) ls) (drop (suc i) t) + offset_of (drop (suc i) ls) (drop (suc i) t) (drop (suc i) os)
offset_suc [] t os i lt e f = absurd (omega arith)
offset_suc (k ∷ ls) [] os i lt e f = absurd (omega arith)
offset_suc (k ∷ ls) (s ∷ ss) [] i lt e f = absurd (omega arith)
offset_suc (k ∷ ls) (s ∷ ss) (o ∷ os) zero lt e f = refl
offset_suc (k ∷ ls) (s ∷ ss) (o ∷ os) (suc i) lt e f = offset_suc ls ss os i (omega arith) (omega arith) (omega arith)

inner_suc : (ls : List LegValue) (t : List ℕ) (i n : ℕ) → i < length ls → length t ≡ length ls → inner_of (drop i ls) (drop i t) n ≡ (n / block_size (drop (suc i) ls) (drop (suc i) t)) ∷ inner_of (drop (suc i) ls) (drop (suc i) t) (n % block_size (drop (suc i) ls) (drop (suc i) t))
inner_suc [] t i n lt e = absurd (omega arith)
inner_suc (k ∷ ls) [] i n lt e = absurd (omega arith)
inner_suc (k ∷ ls) (s ∷ ss) zero n lt e = refl
inner_suc (k ∷ ls) (s ∷ ss) (suc i) n lt e = inner_suc ls ss i n (omega arith) (omega arith)

-- fewer legs have no larger block
pub block_drop_le : (ls : List LegValue) (t : List ℕ) (i : ℕ) → All IsSound ls → IsTuple ls t → block_size (drop i ls) (drop i t) ≤ block_size ls t
block_drop_le ls t zero h v = omega arith
block_drop_le [] t (suc i) h v = omega arith
block_drop_le (l ∷ ls) [] (suc i) h v = absurd v
block_drop_le (l ∷ ls) (s ∷ ss) (suc i) h v =
    let some = ((h 0 l (omega arith)).dims s no_sector v.0).0 in
    let c = block_size ls ss in
    let le = mul-le-mul_left c some in
    let flip = mul_comm c (sector_at l.sectors s).dim in
    omega (arith, block_drop_le ls ss i (λ k d lt. h (suc k) d (omega arith)) v.1)

-- one leg more, from the last
size_step : (ls : List LegValue) (t : List ℕ) (j : ℕ) (l : LegValue) (s d : ℕ) → IsTuple ls t → j < length ls → l ≡ get_or ls j l → d ≡ (sector_at l.sectors (get_or t j 0)).dim → s ≡ block_size (drop (suc j) ls) (drop (suc j) t) → d * s ≡ block_size (drop j ls) (drop j t)
size_step ls t j l s d h lt is e m =
    let dim : d ≡ (sector_at (get_or ls j l).sectors (get_or t j 0)).dim = e ∙ ap (λ (k : LegValue). (sector_at k.sectors (get_or t j 0)).dim) is in
    ap (λ k. k * s) dim ∙ (ap (λ k. (sector_at (get_or ls j l).sectors (get_or t j 0)).dim * k) m ∙ sym (size_suc ls t j l lt (tuple_length ls t h)))

pub size_back : (ls : List LegValue) (t : List ℕ) (i : ℕ) (l : LegValue) (s d : ℕ) → IsTuple ls t → 0 < i → i - 1 < length ls → l ≡ get_or ls (i - 1) l → d ≡ (sector_at l.sectors (get_or t (i - 1) 0)).dim → s ≡ block_size (drop i ls) (drop i t) → s * d ≡ block_size (drop (i - 1) ls) (drop (i - 1) t)
size_back ls t i l s d h p lt is e m =
    let back : i ≡ suc (i - 1) = omega arith in
    mul_comm s d ∙ size_step ls t (i - 1) l s d h lt is e (m ∙ ap (λ k. block_size (drop k ls) (drop k t)) back)

-- the block and the offset over the legs from i on
pub record IsOffset (ls : List LegValue) (t os : List ℕ) (i s p : ℕ) : Type 0 where
  pub size : s ≡ block_size (drop i ls) (drop i t)
  pub offset : p ≡ offset_of (drop i ls) (drop i t) (drop i os)
  pub below : p < s
  pub small : s ≤ 2 ^ 22

offset_step : (ls : List LegValue) (t os : List ℕ) (j : ℕ) (l : LegValue) (s p d o : ℕ) → All IsSound ls → IsTuple ls t → IsInner ls t os → block_size ls t ≤ 2 ^ 22 → j < length ls → l ≡ get_or ls j l → d ≡ (sector_at l.sectors (get_or t j 0)).dim → o ≡ get_or os j 0 → IsOffset ls t os (suc j) s p → IsOffset ls t os j (s * d) (p + o * s)
offset_step ls t os j l s p d o sound v inner small lt is dis ois h =
    let size : s * d ≡ block_size (drop j ls) (drop j t) = mul_comm s d ∙ size_step ls t j l s d v lt is dis h.size in
    let one : o * s ≡ get_or os j 0 * block_size (drop (suc j) ls) (drop (suc j) t) = ap (λ k. k * s) ois ∙ ap (λ k. get_or os j 0 * k) h.size in
    let all = offset_suc ls t os j lt (tuple_length ls t v) (inner_length ls t os inner) in
    let dim : (sector_at (get_or ls j l).sectors (get_or t j 0)).dim ≡ d = ap (λ (k : LegValue). (sector_at k.sectors (get_or t j 0)).dim) (sym is) ∙ sym dis in
    let below : o < d = omega (arith, inner_at ls t os j l inner lt, dim, ois) in
    let m = place_in d o s p h.below below in
    let flip = mul_comm s d in
    record {
      size = size;
      offset = omega (arith, one, all, h.offset);
      below = omega (arith, m.0, flip);
      small = omega (arith, size, block_drop_le ls t j sound v);
    }

pub offset_more : (ls : List LegValue) (t os : List ℕ) (i : ℕ) (l : LegValue) (s p d o : ℕ) → All IsSound ls → IsTuple ls t → IsInner ls t os → block_size ls t ≤ 2 ^ 22 → 0 < i → i - 1 < length ls → l ≡ get_or ls (i - 1) l → d ≡ (sector_at l.sectors (get_or t (i - 1) 0)).dim → o ≡ get_or os (i - 1) 0 → IsOffset ls t os i s p → IsOffset ls t os (i - 1) (s * d) (p + o * s)
offset_more ls t os i l s p d o sound v inner small pos lt is dis ois h =
    let back : i ≡ suc (i - 1) = omega arith in
    offset_step ls t os (i - 1) l s p d o sound v inner small lt is dis ois (subst (λ k. IsOffset ls t os k s p) back h)

-- one leg less, from the first
pub record IsMade (ls : List LegValue) (t : List ℕ) (i n s r : ℕ) (v : List ℕ) : Type 0 where
  pub size : s ≡ block_size (drop i ls) (drop i t)
  pub below : r < s
  pub made : v ++ inner_of (drop i ls) (drop i t) r ≡ inner_of ls t n

pub made_more : (ls : List LegValue) (t : List ℕ) (i n s r : ℕ) (v : List ℕ) (l : LegValue) (d : ℕ) → IsTuple ls t → i < length ls → l ≡ get_or ls i l → d ≡ (sector_at l.sectors (get_or t i 0)).dim → IsMade ls t i n s r v → (0 < d) × (0 < s / d) × (r / (s / d) < d) × IsMade ls t (i + 1) n (s / d) (r % (s / d)) (v ++ r / (s / d) ∷ [])
made_more ls t i n s r v l d h lt is e m =
    let c = block_size (drop (i + 1) ls) (drop (i + 1) t) in
    let one : c ≡ block_size (drop (suc i) ls) (drop (suc i) t) = ap (λ k. block_size (drop k ls) (drop k t)) (add-one i) in
    let whole : s ≡ d * c = m.size ∙ sym (size_step ls t i l c d h lt is e one) in
    let b = below_product r d c (subst (λ k. r < k) whole m.below) in
    let p : 0 < d = omega (arith, b.1) in
    let q : s / d ≡ c = ap (λ k. k / d) whole ∙ mul-div_cancel_left c p in
    let step : inner_of (drop i ls) (drop i t) r ≡ (r / c) ∷ inner_of (drop (i + 1) ls) (drop (i + 1) t) (r % c) =
    inner_suc ls t i r lt (tuple_length ls t h) ∙ ap (λ k. (r / block_size (drop k ls) (drop k t)) ∷ inner_of (drop k ls) (drop k t) (r % block_size (drop k ls) (drop k t))) (sym (add-one i)) in
    let made : IsMade ls t (i + 1) n c (r % c) (v ++ (r / c) ∷ []) = record {
      size = refl;
      below = b.2;
      made = append_assoc v ((r / c) ∷ []) (inner_of (drop (i + 1) ls) (drop (i + 1) t) (r % c)) ∙ (ap (λ xs. v ++ xs) (sym step) ∙ m.made);
    } in
    (p, subst (λ k. 0 < k) (sym q) b.0, subst (λ k. r / k < d) (sym q) b.1, subst (λ k. IsMade ls t (i + 1) n k (r % k) (v ++ (r / k) ∷ [])) (sym q) made)

-- nothing is left after the last leg
pub made_all : (ls : List LegValue) (t : List ℕ) (i n s r : ℕ) (v : List ℕ) → length ls ≤ i → IsMade ls t i n s r v → v ≡ inner_of ls t n
made_all ls t i n s r v le m = sym (ap (λ ks. v ++ inner_of ks (drop i t) r) (drop_all i ls le) ∙ append-nil v) ∙ m.made
