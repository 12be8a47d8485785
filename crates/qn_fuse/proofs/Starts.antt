-- Where the tuples of a combiner stand among those of all sectors of its fused leg.
use Rattle.std.proofs.Common.{◌≡◌, ℕ, ℤ, zero, suc, ◌+◌, ◌-◌, ◌*◌, ◌/◌, ◌%◌, ◌≤◌, ◌<◌, List, [], ◌∷◌, ◌++◌, length, get_or, take, drop, map, flat_map, true, false, nat_lt, arith, refl, ap, ap₂, ◌∙◌, sym, subst, ◌⊎◌, inl, inr, append_assoc}
use Rattle.std.specs.List.{All}
use Rattle.std.specs.List.Sorted.{IsPartitionPoint}
use Rattle.std.proofs.lemmas.Grind.{flat_map-append}
use Rattle.std.proofs.Math.Seq.{take-append_seam, drop-append_seam}
use Rattle.std.proofs.lemmas.Bool.{cases_lt, ltb-true, ltb-false}
use Rattle.std.proofs.lemmas.List.{get_or_default, length-append, length-map, take_more, take_all}
use Rattle.std.proofs.lemmas.Nat.{div-mul-add, mod-mul-add}
use Rattle.qn_charge.specs.declared.factor.Factor.{Factor}
use Rattle.qn_index.specs.declared.leg.Dir.{Dir}
use Rattle.qn_index.specs.Legs.{LegValue, IsSound, SectorValue, sector_at, before, total}
use Rattle.qn_index.specs.Tuples.{IsTuple}
use Rattle.qn_index.specs.Places.{IsValues, block_size, values_at}
use Rattle.qn_index.specs.Extents.{size_of}
use Rattle.qn_index.proofs.Admitted.{size_append, block_some}
use Rattle.qn_index.proofs.Nets.{tuple_length}
use Rattle.qn_index.proofs.Places.{back, values_in as values_in_range}
use Rattle.qn_block.specs.Combiners.{CombinerValue, IsCombiner, StartValue, start_at, starts_from, fused_starts, fused_charges, fused_leg, fused_sectors, fused_values, sector_with, tuples_with, stands_at}
use Rattle.qn_block.proofs.Rows.{same_from}
use Rattle.qn_block.proofs.Partition.{values_size}
use Rattle.qn_block.proofs.Matching.{start_is, starts_length, stands_block, values_flat, take_grows}
use Rattle.qn_block.proofs.Located.{turns, turn_at, matched, stands_below, values_total}
use Rattle.qn_fuse.specs.Pieces.{IsCount, IsPlace, tuples_in}
use Rattle.qn_fuse.proofs.Flat.{get_map}
use Rattle.qn_fuse.proofs.Widened.{values_count}

pub count_is : (ss : List StartValue) (value n : ℕ) → n ≤ length ss → IsPartitionPoint (λ (s : StartValue). nat_lt s.start value ≡ true) (λ (s : StartValue). nat_lt s.start value ≡ false) ss n → IsCount ss value n
count_is ss value n le p = record {
  within = le;
  below = λ i lt. ltb-true _ value (p.0 i (record { tuple = []; start = 0 }) (omega arith) lt);
  above = λ i ge lt. ltb-false _ value (p.1 i (record { tuple = []; start = 0 }) ge lt);
}

one_count : (ss : List StartValue) (value m n : ℕ) → IsCount ss value m → IsCount ss value n → m ≡ n
one_count ss value m n a b = by (cases_lt m n)
  where
    by : (m < n) ⊎ (n ≤ m) → m ≡ n
    by (inl lt) = let p = a.above m (omega arith) (omega (arith, b.within)) in let q = b.below m lt in absurd (omega arith)
    by (inr le) = upto (cases_lt n m)
      where
        upto : (n < m) ⊎ (m ≤ n) → m ≡ n
        upto (inl lt) = let p = b.above n (omega arith) (omega (arith, a.within)) in let q = a.below n lt in absurd (omega arith)
        upto (inr ge) = omega arith

size_next : (ls : List LegValue) (ts : List (List ℕ)) (i : ℕ) → i < length ts → size_of ls (take (i + 1) ts) ≡ size_of ls (take i ts) + block_size ls (get_or ts i [])
size_next ls ts i lt =
    ap (size_of ls) (take_more ts i [] lt) ∙ size_append ls (take i ts) (get_or ts i [] ∷ []) ∙ last (size_of ls (take i ts)) (block_size ls (get_or ts i []))
  where
    last : (m n : ℕ) → m + (n + 0) ≡ m + n
    last m n = omega arith

-- the tuples before those of a charge, these, and those after them
pub record AreParted (fs : List Factor) (ls : List LegValue) (arrow : Dir) (w : ℕ) : Type 0 where
  pub earlier : List (List ℕ)
  pub own : List (List ℕ)
  pub later : List (List ℕ)
  pub all : turns fs ls arrow ≡ earlier ++ (own ++ later)
  pub start : before (fused_sectors fs ls arrow) w ≡ size_of ls earlier
  pub size : (sector_at (fused_sectors fs ls arrow) w).dim ≡ size_of ls own
  pub charge : own ≡ tuples_with fs ls arrow (sector_at (fused_sectors fs ls arrow) w).charge

size_before : (fs : List Factor) (ls : List LegValue) (arrow : Dir) (cs : List (List ℤ)) (w : ℕ) → before (map (sector_with fs ls arrow) cs) w ≡ size_of ls (flat_map (tuples_with fs ls arrow) (take w cs))
size_before fs ls arrow cs zero = refl
size_before fs ls arrow [] (suc w) = refl
size_before fs ls arrow (d ∷ cs) (suc w) =
    ap₂ ◌+◌ (values_size ls (tuples_with fs ls arrow d)) (size_before fs ls arrow cs w)
    ∙ sym (size_append ls (tuples_with fs ls arrow d) (flat_map (tuples_with fs ls arrow) (take w cs)))

around : (cs : List (List ℤ)) (w : ℕ) → w < length cs → cs ≡ take w cs ++ (get_or cs w [] ∷ drop (w + 1) cs)
around [] w lt = absurd (omega arith)
around (c ∷ cs) zero lt = refl
around (c ∷ cs) (suc w) lt = ap (λ ds. c ∷ ds) (around cs w (omega arith)) ∙ ap (λ n. c ∷ (take w cs ++ (get_or cs w [] ∷ drop n (c ∷ cs)))) (one w)
  where
    one : (n : ℕ) → suc (n + 1) ≡ suc n + 1
    one n = omega arith

pub parted : (fs : List Factor) (ls : List LegValue) (arrow : Dir) (w : ℕ) → w < length (fused_sectors fs ls arrow) → AreParted fs ls arrow w
parted fs ls arrow w lt =
    let cs = fused_charges fs ls arrow in
    let there : w < length cs = omega (arith, lt, length-map cs (sector_with fs ls arrow)) in
    let is : sector_at (fused_sectors fs ls arrow) w ≡ sector_with fs ls arrow (get_or cs w []) = get_map (sector_with fs ls arrow) cs w [] _ there in
    record {
      earlier = flat_map (tuples_with fs ls arrow) (take w cs);
      own = tuples_with fs ls arrow (get_or cs w []);
      later = flat_map (tuples_with fs ls arrow) (drop (w + 1) cs);
      all = ap (flat_map (tuples_with fs ls arrow)) (around cs w there) ∙ flat_map-append (tuples_with fs ls arrow) (take w cs) (get_or cs w [] ∷ drop (w + 1) cs);
      start = size_before fs ls arrow cs w;
      size = ap (λ (p : SectorValue). p.dim) is ∙ values_size ls (tuples_with fs ls arrow (get_or cs w []));
      charge = ap (λ (p : SectorValue). tuples_with fs ls arrow p.charge) (sym is);
    }

tuples_are : (ls : List LegValue) (n : ℕ) (ts : List (List ℕ)) → map (λ (s : StartValue). s.tuple) (starts_from ls n ts) ≡ ts
tuples_are ls n [] = refl
tuples_are ls n (t ∷ ts) = ap (λ us. t ∷ us) (tuples_are ls (n + block_size ls t) ts)

map-take : {A B : Type 0} (f : A → B) (xs : List A) (n : ℕ) → map f (take n xs) ≡ take n (map f xs)
map-take f xs zero = refl
map-take f [] (suc n) = refl
map-take f (x ∷ xs) (suc n) = ap (λ ys. f x ∷ ys) (map-take f xs n)

map-drop : {A B : Type 0} (f : A → B) (xs : List A) (n : ℕ) → map f (drop n xs) ≡ drop n (map f xs)
map-drop f xs zero = refl
map-drop f [] (suc n) = refl
map-drop f (x ∷ xs) (suc n) = map-drop f xs n

take_own : (xs ys zs : List (List ℕ)) → take (length ys) (drop (length xs) (xs ++ (ys ++ zs))) ≡ ys
take_own xs ys zs = ap (take (length ys)) (drop-append_seam xs (ys ++ zs)) ∙ take-append_seam ys zs

-- counted by where they begin
counted : (ls : List LegValue) (ts xs ys : List (List ℕ)) (ss : List StartValue) → All (λ t. 0 < block_size ls t) ts → ss ≡ starts_from ls 0 ts → ts ≡ xs ++ ys → IsCount ss (size_of ls xs) (length xs)
counted ls ts xs ys ss some e is =
    let many : length ss ≡ length ts = ap length e ∙ starts_length ls 0 ts in
    let long : length ts ≡ length xs + length ys = ap length is ∙ length-append xs ys in
    let whole : size_of ls (take (length xs) ts) ≡ size_of ls xs = ap (λ us. size_of ls (take (length xs) us)) is ∙ ap (size_of ls) (take-append_seam xs ys) in
    record {
      within = omega (arith, many, long);
      below = λ i lt.
          let at : i < length ts = omega (arith, long) in
          let s = start i at in
          let n = size_next ls ts i at in
          let m = take_grows ls ts (i + 1) (length xs) (omega arith) in
          let p : 0 < block_size ls (get_or ts i []) = some i [] at in
          omega (arith, s, n, m, p, whole);
      above = λ i ge lt.
          let at : i < length ts = omega (arith, lt, many) in
          let s = start i at in
          let m = take_grows ls ts (length xs) i ge in
          omega (arith, s, m, whole);
    }
  where
    start : (i : ℕ) → i < length ts → (start_at ss i).start ≡ size_of ls (take i ts)
    start i at = ap (λ (us : List StartValue). (start_at us i).start) e ∙ (start_is ls 0 ts i at).1 ∙ plain (size_of ls (take i ts))
      where
        plain : (n : ℕ) → 0 + n ≡ n
        plain n = omega arith

blocks_some : (c : CombinerValue) → IsCombiner c → All (λ t. 0 < block_size c.legs t) (turns c.group c.legs c.arrow)
blocks_some c hc i d lt =
    subst (λ t. 0 < block_size c.legs t) (get_or_default (turns c.group c.legs c.arrow) i [] d lt) (block_some c.legs (get_or (turns c.group c.legs c.arrow) i []) hc.sound (turn_at c.group c.legs c.arrow i hc.group lt))

-- the tuples of a sector, found
pub record IsPart (c : CombinerValue) (ss : List StartValue) (w low high : ℕ) : Type 0 where
  pub order : low ≤ high
  pub within : high ≤ length ss
  pub tuples : map (λ (s : StartValue). s.tuple) (take (high - low) (drop low ss)) ≡ tuples_in c w

pub part_is : (c : CombinerValue) (ss : List StartValue) (w first end low high : ℕ) → IsCombiner c → ss ≡ fused_starts c.group c.legs c.arrow → w < length (fused_sectors c.group c.legs c.arrow) →
    first ≡ before (fused_sectors c.group c.legs c.arrow) w + 0 → end ≡ first + (sector_at (fused_sectors c.group c.legs c.arrow) w).dim → IsCount ss first low → IsCount ss end high → IsPart c ss w low high
part_is c ss w first end low high hc e lt f g a b =
    let ls = c.legs in
    let ts = turns c.group c.legs c.arrow in
    let p = parted c.group c.legs c.arrow w lt in
    let some = blocks_some c hc in
    let at_low : first ≡ size_of ls p.earlier = omega (arith, f, p.start) in
    let joined : ts ≡ (p.earlier ++ p.own) ++ p.later = p.all ∙ sym (append_assoc p.earlier p.own p.later) in
    let at_high : end ≡ size_of ls (p.earlier ++ p.own) = omega (arith, g, at_low, p.size, size_append ls p.earlier p.own) in
    let l : low ≡ length p.earlier = one_count ss first low (length p.earlier) a (subst (λ v. IsCount ss v (length p.earlier)) (sym at_low) (counted ls ts p.earlier (p.own ++ p.later) ss some e p.all)) in
    let h : high ≡ length (p.earlier ++ p.own) = one_count ss end high (length (p.earlier ++ p.own)) b (subst (λ v. IsCount ss v (length (p.earlier ++ p.own))) (sym at_high) (counted ls ts (p.earlier ++ p.own) p.later ss some e joined)) in
    let d : high - low ≡ length p.own = omega (arith, l, h, length-append p.earlier p.own) in
    record {
      order = omega (arith, l, h, length-append p.earlier p.own);
      within = b.within;
      tuples =
          map-take (λ (s : StartValue). s.tuple) (drop low ss) (high - low)
          ∙ ap (take (high - low)) (map-drop (λ (s : StartValue). s.tuple) ss low ∙ ap (drop low) (ap (map (λ (s : StartValue). s.tuple)) e ∙ tuples_are ls 0 ts ∙ p.all))
          ∙ ap₂ (λ m n. take m (drop n (p.earlier ++ (p.own ++ p.later)))) d l
          ∙ take_own p.earlier p.own p.later
          ∙ p.charge;
    }

-- the place of a tuple, found by its first values
pub place_is : (c : CombinerValue) (t : List ℕ) (value sector offset : ℕ) → IsCombiner c → IsTuple c.legs t → stands_at (fused_values c.group c.legs c.arrow) value (values_at c.legs t 0) ≡ true →
    sector < length (fused_sectors c.group c.legs c.arrow) → offset < (sector_at (fused_sectors c.group c.legs c.arrow) sector).dim → before (fused_sectors c.group c.legs c.arrow) sector + offset ≡ value → IsPlace c t sector offset
place_is c t value sector offset hc ht st lt inner sum =
    let fs = c.group in
    let ls = c.legs in
    let ts = turns fs ls c.arrow in
    let some : 0 < block_size ls t = block_some ls t hc.sound ht in
    let bk = back ls t 0 ht some in
    let m = matched fs ls c.arrow value (values_at ls t 0) hc.group st in
    let i = m.located.number in
    let is : get_or ts i [] ≡ t = sym m.sectors ∙ bk.sectors in
    let none : m.located.offset ≡ 0 = sym m.offset ∙ bk.offset in
    let at : value ≡ size_of ls (take i ts) = omega (arith, m.located.place, none) in
    let p = parted fs ls c.arrow sector lt in
    let next : size_of ls (take (i + 1) ts) ≡ size_of ls (take i ts) + block_size ls t = size_next ls ts i m.located.within ∙ ap (λ u. size_of ls (take i ts) + block_size ls u) is in
    let two : turns fs ls c.arrow ≡ (p.earlier ++ p.own) ++ p.later = p.all ∙ sym (append_assoc p.earlier p.own p.later) in
    let upto_low : size_of ls (take (length p.earlier) ts) ≡ size_of ls p.earlier = ap (λ us. size_of ls (take (length p.earlier) us)) p.all ∙ ap (size_of ls) (take-append_seam p.earlier (p.own ++ p.later)) in
    let upto_high : size_of ls (take (length (p.earlier ++ p.own)) ts) ≡ size_of ls p.earlier + size_of ls p.own =
    ap (λ us. size_of ls (take (length (p.earlier ++ p.own)) us)) two ∙ ap (size_of ls) (take-append_seam (p.earlier ++ p.own) p.later) ∙ size_append ls p.earlier p.own in
    record {
      there = lt;
      within = fits i (length (p.earlier ++ p.own)) at next (size_of ls p.earlier) (size_of ls p.own) upto_high p.start p.size (cases_lt i (length (p.earlier ++ p.own)));
      values = λ o less.
          ap₂ (λ uss n. stands_at uss n (values_at ls t o)) (values_flat fs ls c.arrow) (place i o at)
          ∙ stands_block ls ts i o (values_at ls t o) m.located.within (subst (λ u. o < block_size ls u) (sym is) less)
          ∙ same_from (values_at ls (get_or ts i []) o) (values_at ls t o) (ap (λ u. values_at ls u o) is);
    }
  where
    place : (i o : ℕ) → value ≡ size_of c.legs (take i (turns c.group c.legs c.arrow)) → before (fused_sectors c.group c.legs c.arrow) sector + (offset + o) ≡ size_of c.legs (take i (turns c.group c.legs c.arrow)) + o
    place i o e = omega (arith, sum, e)

    fits : (i n : ℕ) → value ≡ size_of c.legs (take i (turns c.group c.legs c.arrow)) →
        size_of c.legs (take (i + 1) (turns c.group c.legs c.arrow)) ≡ size_of c.legs (take i (turns c.group c.legs c.arrow)) + block_size c.legs t →
        (x y : ℕ) → size_of c.legs (take n (turns c.group c.legs c.arrow)) ≡ x + y → before (fused_sectors c.group c.legs c.arrow) sector ≡ x → (sector_at (fused_sectors c.group c.legs c.arrow) sector).dim ≡ y →
        (i < n) ⊎ (n ≤ i) → offset + block_size c.legs t ≤ (sector_at (fused_sectors c.group c.legs c.arrow) sector).dim
    fits i n at next x y high start size (inl less) =
        let m = take_grows c.legs (turns c.group c.legs c.arrow) (i + 1) n (omega arith) in
        omega (arith, at, next, high, start, size, m, sum)
    fits i n at next x y high start size (inr ge) =
        let m = take_grows c.legs (turns c.group c.legs c.arrow) n i ge in
        absurd (omega (arith, at, high, start, size, m, sum, inner))

-- first values, one leg more
first_at : (ls : List LegValue) (t : List ℕ) (i : ℕ) (l : LegValue) → All IsSound ls → IsTuple ls t → i < length ls → l ≡ get_or ls i l → get_or (values_at ls t 0) i 0 ≡ before l.sectors (get_or t i 0) + 0
first_at [] t i l h v lt is = absurd (omega arith)
first_at (k ∷ ls) [] i l h v lt is = absurd v
first_at (k ∷ ls) (s ∷ ss) i l h v lt is =
    let n = block_size ls ss in
    let some : 0 < n = block_some ls ss (λ j d less. h (suc j) d (omega arith)) v.1 in
    let over : 0 / n ≡ 0 = ap (λ m. m / n) (nothing n) ∙ div-mul-add 0 n 0 some in
    let rest : 0 % n ≡ 0 = ap (λ m. m % n) (nothing n) ∙ mod-mul-add 0 n 0 some in
    ap₂ (λ p q. get_or ((before k.sectors s + p) ∷ values_at ls ss q) i 0) over rest ∙ go i lt is (λ j less e. first_at ls ss j l (λ a d m. h (suc a) d (omega arith)) v.1 less e)
  where
    nothing : (n : ℕ) → 0 ≡ 0 * n + 0
    nothing n = omega arith

    go : (i : ℕ) → i < length (k ∷ ls) → l ≡ get_or (k ∷ ls) i l → ((j : ℕ) → j < length ls → l ≡ get_or ls j l → get_or (values_at ls ss 0) j 0 ≡ before l.sectors (get_or ss j 0) + 0) →
        get_or ((before k.sectors s + 0) ∷ values_at ls ss 0) i 0 ≡ before l.sectors (get_or (s ∷ ss) i 0) + 0
    go zero less e more = ap (λ (m : LegValue). before m.sectors s + 0) (sym e)
    go (suc j) less e more = more j (omega arith) e

pub first_more : (ls : List LegValue) (t : List ℕ) (i : ℕ) (l : LegValue) (v : ℕ) (out new : List ℕ) → All IsSound ls → IsTuple ls t → i < length ls → l ≡ get_or ls i l → v ≡ before l.sectors (get_or t i 0) + 0 →
    out ≡ take i (values_at ls t 0) → new ≡ out ++ v ∷ [] → new ≡ take (i + 1) (values_at ls t 0)
first_more ls t i l v out new h ht lt is e o q =
    let long : length (values_at ls t 0) ≡ length ls = values_count ls t 0 (tuple_length ls t ht) in
    q ∙ ap₂ (λ ys z. ys ++ z ∷ []) o (e ∙ sym (first_at ls t i l h ht lt is)) ∙ sym (take_more (values_at ls t 0) i 0 (omega (arith, lt, long)))

pub first_all : (ls : List LegValue) (t : List ℕ) (i : ℕ) (out : List ℕ) → IsTuple ls t → length ls ≤ i → out ≡ take i (values_at ls t 0) → out ≡ values_at ls t 0
first_all ls t i out ht le e = e ∙ take_all i (values_at ls t 0) (omega (arith, values_count ls t 0 (tuple_length ls t ht)))

-- the first values are in range, their value of the fused leg is too, and it tells the place
pub first_in : (c : CombinerValue) (t vs : List ℕ) → IsCombiner c → IsTuple c.legs t → vs ≡ values_at c.legs t 0 → IsValues c.legs vs
first_in c t vs hc ht e = subst (IsValues c.legs) (sym e) (values_in_range c.legs t 0 ht (block_some c.legs t hc.sound ht))

pub value_below : (c : CombinerValue) (value : ℕ) (vs : List ℕ) (f : LegValue) → f ≡ fused_leg c.group c.legs c.arrow → stands_at (fused_values c.group c.legs c.arrow) value vs ≡ true → value < total f.sectors
value_below c value vs f e st =
    subst (λ (l : LegValue). value < total l.sectors) (sym e) (omega (arith, stands_below (fused_values c.group c.legs c.arrow) value vs st, values_total c.group c.legs c.arrow))

pub place_found : (c : CombinerValue) (t vs : List ℕ) (f : LegValue) (value sector offset : ℕ) → IsCombiner c → IsTuple c.legs t → vs ≡ values_at c.legs t 0 → f ≡ fused_leg c.group c.legs c.arrow →
    stands_at (fused_values c.group c.legs c.arrow) value vs ≡ true → sector < length f.sectors → offset < (sector_at f.sectors sector).dim → before f.sectors sector + offset ≡ value → IsPlace c t sector offset
place_found c t vs f value sector offset hc ht e l st lt inner sum =
    place_is c t value sector offset hc ht (ap (stands_at (fused_values c.group c.legs c.arrow) value) (sym e) ∙ st)
    (subst (λ (k : LegValue). sector < length k.sectors) l lt) (subst (λ (k : LegValue). offset < (sector_at k.sectors sector).dim) l inner)
    (subst (λ (k : LegValue). before k.sectors sector + offset ≡ value) l sum)
