-- A fused tensor is no wider than the one that it is made of.
use Rattle.std.proofs.Common.{◌≡◌, ℕ, ℤ, suc, ◌+◌, ◌*◌, ◌≤◌, ◌<◌, List, [], ◌∷◌, ◌++◌, length, map, filter, flat_map, Bool, true, false, cond, arith, refl, ap, ap₂, ◌∙◌, sym, subst}
use Rattle.std.specs.List.{All}
use Rattle.std.specs.Cmp.Lexicographic.{slice_cmp, pointwise}
use Rattle.std.specs.Cmp.Rules.{signed_items}
use Rattle.std.specs.Ordering.{int_cmp, int_eq}
use Rattle.std.specs.declared.cmp.Ordering.{Ordering}
use Rattle.std.specs.declared.cmp.Ordering.TheVariants.{Less, Equal, Greater}
use Rattle.std.proofs.Math.Nat.{add-mul, mul-le-mul_left, mul-le-mul_right, mul_assoc}
use Rattle.std.proofs.lemmas.Cmp.{tied_itself}
use Rattle.std.proofs.lemmas.List.{length-append, length-map}
use Rattle.qn_charge.specs.declared.factor.Factor.{Factor}
use Rattle.qn_charge.specs.Charges.{IsGroup, IsCanonical, sum_charge, neg_charge, zero_charge}
use Rattle.qn_charge.specs.Laws.{associative_charge, commutative_charge, zero_is_neutral, neg_of_sum, neg_of_zero, canonical_sum}
use Rattle.qn_index.specs.Legs.{LegValue, SectorValue, sector_at}
use Rattle.qn_index.specs.Tuples.{net, signed, turned, tuples, upward, count}
use Rattle.qn_index.specs.Places.{block_size}
use Rattle.qn_index.specs.Extents.{entries, size_of, IsWithinLimits}
use Rattle.qn_index.specs.Weights.{remaining}
use Rattle.qn_index.proofs.Admitted.{entries_step, total_over, total_same, mul_add, net_canonical}
use Rattle.qn_index.proofs.Shapes.{length_tuples}
use Rattle.qn_block.specs.Combiners.{CombinerValue, IsCombiner, fused_leg, fused_charge, fused_charges, put, put_by, ascending_once, tuples_with, values_with, sector_with}
use Rattle.qn_block.proofs.Partition.{Ascends, once_ascends, charges_total, sum_over, values_size, sum_zero, sum_add, part_none}
use Rattle.qn_block.proofs.Located.{turned_twice}
use Rattle.qn_fuse.specs.Fused.{wide_legs, narrow_legs}

-- ---- tuples

count-append : (ks ls : List LegValue) → count (ks ++ ls) ≡ count ks * count ls
count-append [] ls = one (count ls)
  where
    one : (n : ℕ) → n ≡ 1 * n
    one n = omega arith
count-append (k ∷ ks) ls = ap (λ n. length k.sectors * n) (count-append ks ls) ∙ sym (mul_assoc (length k.sectors) (count ks) (count ls))

put_length : (c : List ℤ) (ds : List (List ℤ)) → length (put c ds) ≤ suc (length ds)
put_length c [] = omega arith
put_length c (d ∷ ds) = by (slice_cmp int_cmp c d) (put_length c ds)
  where
    by : (o : Ordering) → length (put c ds) ≤ suc (length ds) → length (put_by o c d ds (put c ds)) ≤ suc (length (d ∷ ds))
    by Less h = omega arith
    by Equal h = omega arith
    by Greater h = omega (arith, h)

once_length : (cs : List (List ℤ)) → length (ascending_once cs) ≤ length cs
once_length [] = omega arith
once_length (c ∷ cs) = omega (arith, put_length c (ascending_once cs), once_length cs)

sectors_few : (c : CombinerValue) → length (fused_leg c.group c.legs c.arrow).sectors ≤ count c.legs
sectors_few c =
    let ts = tuples c.legs in
    omega (
      arith,
      once_length (map (fused_charge c.group c.legs c.arrow) ts),
      length-map (fused_charges c.group c.legs c.arrow) (sector_with c.group c.legs c.arrow),
      length-map ts (fused_charge c.group c.legs c.arrow),
      length_tuples c.legs,
    )

count_fused : (c : CombinerValue) (A B : List LegValue) → count (narrow_legs c A B) ≤ count (wide_legs c A B)
count_fused c A B =
    let f = fused_leg c.group c.legs c.arrow in
    let l : length f.sectors * count B ≤ count c.legs * count B = mul-le-mul_right (count B) (sectors_few c) in
    let m : count (f ∷ B) ≤ count (c.legs ++ B) = subst (λ n. length f.sectors * count B ≤ n) (sym (count-append c.legs B)) l in
    let n : count A * count (f ∷ B) ≤ count A * count (c.legs ++ B) = mul-le-mul_left (count A) m in
    omega (arith, count-append A (f ∷ B), count-append A (c.legs ++ B), n)

-- ---- entries

total_grows : (f g : ℕ → ℕ) (ss : List ℕ) → ((s : ℕ) → f s ≤ g s) → total_over f ss ≤ total_over g ss
total_grows f g [] h = omega arith
total_grows f g (s ∷ ss) h = omega (arith, h s, total_grows f g ss h)

-- the same legs before both
entries_before : (fs : List Factor) (A X Y : List LegValue) → IsGroup fs → ((q : List ℤ) → IsCanonical fs q → entries fs X q ≤ entries fs Y q) → (q : List ℤ) → IsCanonical fs q → entries fs (A ++ X) q ≤ entries fs (A ++ Y) q
entries_before fs [] X Y g h q k = h q k
entries_before fs (l ∷ A) X Y g h q k =
    let grows = total_grows (λ s. (sector_at l.sectors s).dim * entries fs (A ++ X) (remaining fs (signed fs l s) q)) (λ s. (sector_at l.sectors s).dim * entries fs (A ++ Y) (remaining fs (signed fs l s) q)) (upward 0 (length l.sectors))
    (λ s. mul-le-mul_left (sector_at l.sectors s).dim (entries_before fs A X Y g h (remaining fs (signed fs l s) q) (canonical_sum fs (neg_charge fs (signed fs l s)) q g))) in
    omega (arith, entries_step fs l (A ++ X) q g k, entries_step fs l (A ++ Y) q g k, grows)

sum_same : {A : Type 0} (f g : A → ℕ) (xs : List A) → ((x : A) → f x ≡ g x) → sum_over f xs ≡ sum_over g xs
sum_same f g [] h = refl
sum_same f g (x ∷ xs) h = ap₂ ◌+◌ (h x) (sum_same f g xs h)

sum-append : {A : Type 0} (f : A → ℕ) (xs ys : List A) → sum_over f (xs ++ ys) ≡ sum_over f xs + sum_over f ys
sum-append f [] ys = none (sum_over f ys)
  where
    none : (n : ℕ) → n ≡ 0 + n
    none n = omega arith
sum-append f (x ∷ xs) ys = omega (arith, sum-append f xs ys)

sum-map : {A B : Type 0} (f : B → ℕ) (g : A → B) (xs : List A) → sum_over f (map g xs) ≡ sum_over (λ x. f (g x)) xs
sum-map f g [] = refl
sum-map f g (x ∷ xs) = ap (λ n. f (g x) + n) (sum-map f g xs)

sum-flat : {B : Type 0} (f : B → ℕ) (g : ℕ → List B) (ss : List ℕ) → sum_over f (flat_map g ss) ≡ total_over (λ s. sum_over f (g s)) ss
sum-flat f g [] = refl
sum-flat f g (s ∷ ss) = sum-append f (g s) (flat_map g ss) ∙ ap (λ n. sum_over f (g s) + n) (sum-flat f g ss)

sum-times : {A : Type 0} (d : ℕ) (f : A → ℕ) (xs : List A) → d * sum_over f xs ≡ sum_over (λ x. d * f x) xs
sum-times d f [] = omega arith
sum-times d f (x ∷ xs) = mul_add d (f x) (sum_over f xs) ∙ ap (λ n. d * f x + n) (sum-times d f xs)

-- what is left by legs one after the other
left_zero : (fs : List Factor) (q : List ℤ) → IsGroup fs → IsCanonical fs q → remaining fs (zero_charge fs) q ≡ q
left_zero fs q g k = ap (λ z. sum_charge fs z q) (neg_of_zero fs g) ∙ zero_is_neutral fs q k

left_both : (fs : List Factor) (a b q : List ℤ) → IsGroup fs → remaining fs b (remaining fs a q) ≡ remaining fs (sum_charge fs a b) q
left_both fs a b q g =
    sym (associative_charge fs (neg_charge fs b) (neg_charge fs a) q g)
    ∙ ap (λ z. sum_charge fs z q) (commutative_charge fs (neg_charge fs b) (neg_charge fs a) ∙ sym (neg_of_sum fs a b g))

-- the entries tuple by tuple of the first legs
entries_by : (fs : List Factor) (ls B : List LegValue) (q : List ℤ) → IsGroup fs → IsCanonical fs q →
    entries fs (ls ++ B) q ≡ sum_over (λ t. block_size ls t * entries fs B (remaining fs (net fs ls t) q)) (tuples ls)
entries_by fs [] B q g k = ap (entries fs B) (sym (left_zero fs q g k)) ∙ plain (entries fs B (remaining fs (zero_charge fs) q))
  where
    plain : (n : ℕ) → n ≡ 1 * n + 0
    plain n = omega arith
entries_by fs (l ∷ ls) B q g k =
    entries_step fs l (ls ++ B) q g k
    ∙ total_same (λ s. (sector_at l.sectors s).dim * entries fs (ls ++ B) (remaining fs (signed fs l s) q)) (λ s. sum_over whole (map (λ t. s ∷ t) (tuples ls))) (upward 0 (length l.sectors)) (at (λ p e. entries_by fs ls B p g e))
    ∙ sym (sum-flat whole (λ s. map (λ t. s ∷ t) (tuples ls)) (upward 0 (length l.sectors)))
  where
    whole : List ℕ → ℕ
    whole t = block_size (l ∷ ls) t * entries fs B (remaining fs (net fs (l ∷ ls) t) q)

    at : ((p : List ℤ) → IsCanonical fs p → entries fs (ls ++ B) p ≡ sum_over (λ t. block_size ls t * entries fs B (remaining fs (net fs ls t) p)) (tuples ls)) →
        (s : ℕ) → (sector_at l.sectors s).dim * entries fs (ls ++ B) (remaining fs (signed fs l s) q) ≡ sum_over whole (map (λ t. s ∷ t) (tuples ls))
    at more s =
        let d = (sector_at l.sectors s).dim in
        let p = remaining fs (signed fs l s) q in
        ap (λ n. d * n) (more p (canonical_sum fs (neg_charge fs (signed fs l s)) q g))
        ∙ sum-times d (λ t. block_size ls t * entries fs B (remaining fs (net fs ls t) p)) (tuples ls)
        ∙ sum_same (λ t. d * (block_size ls t * entries fs B (remaining fs (net fs ls t) p))) (λ t. whole (s ∷ t)) (tuples ls)
        (λ t. sym (mul_assoc d (block_size ls t) (entries fs B (remaining fs (net fs ls t) p))) ∙ ap (λ z. d * block_size ls t * entries fs B z) (left_both fs (signed fs l s) (net fs ls t) q g))
        ∙ sym (sum-map whole (λ t. s ∷ t) (tuples ls))

part_once : (x : List ℤ) (n : ℕ) (cs : List (List ℤ)) → Ascends cs → sum_over (λ c. cond (pointwise int_eq x c) n 0) cs ≤ n
part_once x n [] a = omega arith
part_once x n (c ∷ cs) a = by (pointwise int_eq x c) refl (part_once x n cs a.1)
  where
    by : (b : Bool) → pointwise int_eq x c ≡ b → sum_over (λ d. cond (pointwise int_eq x d) n 0) cs ≤ n → cond b n 0 + sum_over (λ d. cond (pointwise int_eq x d) n 0) cs ≤ n
    by true e more =
        let none : sum_over (λ d. cond (pointwise int_eq x d) n 0) cs ≡ 0 = part_none x n cs (subst (λ y. All (λ d. slice_cmp int_cmp y d ≡ Less) cs) (sym ((signed_items x c).0 e)) a.0) in
        omega (arith, none)
    by false e more = omega (arith, more)

-- charge by charge there is no more than in all
parts_within : (key : List ℕ → List ℤ) (h : List ℕ → ℕ) (ts : List (List ℕ)) (cs : List (List ℤ)) → Ascends cs →
    sum_over (λ c. sum_over h (filter (λ t. pointwise int_eq (key t) c) ts)) cs ≤ sum_over h ts
parts_within key h [] cs a = omega (arith, sum_zero cs)
parts_within key h (t ∷ ts) cs a =
    let step = sum_same (λ c. sum_over h (filter (λ u. pointwise int_eq (key u) c) (t ∷ ts))) (λ c. cond (pointwise int_eq (key t) c) (h t) 0 + sum_over h (filter (λ u. pointwise int_eq (key u) c) ts)) cs first in
    omega (arith, step, sum_add (λ c. cond (pointwise int_eq (key t) c) (h t) 0) (λ c. sum_over h (filter (λ u. pointwise int_eq (key u) c) ts)) cs, part_once (key t) (h t) cs a, parts_within key h ts cs a)
  where
    first : (c : List ℤ) → sum_over h (filter (λ u. pointwise int_eq (key u) c) (t ∷ ts)) ≡ cond (pointwise int_eq (key t) c) (h t) 0 + sum_over h (filter (λ u. pointwise int_eq (key u) c) ts)
    first c = by (pointwise int_eq (key t) c)
      where
        rest : List (List ℕ)
        rest = filter (λ u. pointwise int_eq (key u) c) ts

        by : (b : Bool) → sum_over h (cond b (t ∷ rest) rest) ≡ cond b (h t) 0 + sum_over h rest
        by true = refl
        by false = omega arith

-- where each tuple has the charge, the sizes times one number are a sum over the tuples
same_part : (key : List ℕ → List ℤ) (c : List ℤ) (ls : List LegValue) (g : List ℤ → ℕ) (h : List ℕ → ℕ) → ((t : List ℕ) → key t ≡ c → h t ≡ block_size ls t * g c) → (ts : List (List ℕ)) →
    size_of ls (filter (λ t. pointwise int_eq (key t) c) ts) * g c ≡ sum_over h (filter (λ t. pointwise int_eq (key t) c) ts)
same_part key c ls g h e [] = omega arith
same_part key c ls g h e (t ∷ ts) = by (pointwise int_eq (key t) c) refl (same_part key c ls g h e ts)
  where
    rest : List (List ℕ)
    rest = filter (λ u. pointwise int_eq (key u) c) ts

    by : (b : Bool) → pointwise int_eq (key t) c ≡ b → size_of ls rest * g c ≡ sum_over h rest → size_of ls (cond b (t ∷ rest) rest) * g c ≡ sum_over h (cond b (t ∷ rest) rest)
    by true q more =
        let one : h t ≡ block_size ls t * g c = e t ((signed_items (key t) c).0 q) in
        let two : (block_size ls t + size_of ls rest) * g c ≡ block_size ls t * g c + size_of ls rest * g c = add-mul (block_size ls t) (size_of ls rest) (g c) in
        omega (arith, one, two, more)
    by false q more = more

-- sectors in order
by_sectors : (h : SectorValue → ℕ) (ps : List SectorValue) (i : ℕ) (at : ℕ → SectorValue) → ((k : ℕ) → k < length ps → at (i + k) ≡ sector_at ps k) → total_over (λ s. h (at s)) (upward i (length ps)) ≡ sum_over h ps
by_sectors h [] i at e = refl
by_sectors h (p ∷ ps) i at e =
    ap₂ ◌+◌ (ap h (ap at (plain i) ∙ e 0 (omega arith))) (by_sectors h ps (i + 1) at (λ k lt. ap at (next i k) ∙ e (suc k) (omega arith)))
  where
    plain : (i : ℕ) → i ≡ i + 0
    plain i = omega arith

    next : (i k : ℕ) → i + 1 + k ≡ i + suc k
    next i k = omega arith

entries_fused : (c : CombinerValue) (B : List LegValue) (q : List ℤ) → IsGroup c.group → IsCanonical c.group q → entries c.group (fused_leg c.group c.legs c.arrow ∷ B) q ≤ entries c.group (c.legs ++ B) q
entries_fused c B q g k =
    let one = entries_step fs f B q g k in
    let two = by_sectors (λ p. p.dim * entries fs B (remaining fs (turned fs c.arrow p.charge) q)) f.sectors 0 (sector_at f.sectors) (λ j lt. ap (sector_at f.sectors) (plain j)) in
    let three = sum-map (λ p. p.dim * entries fs B (remaining fs (turned fs c.arrow p.charge) q)) (sector_with fs c.legs c.arrow) (fused_charges fs c.legs c.arrow) in
    let four = sum_same (λ d. length (values_with fs c.legs c.arrow d) * rest d) (λ d. sum_over h (tuples_with fs c.legs c.arrow d)) (fused_charges fs c.legs c.arrow) part in
    let five = parts_within (fused_charge fs c.legs c.arrow) h (tuples c.legs) (fused_charges fs c.legs c.arrow) (once_ascends (map (fused_charge fs c.legs c.arrow) (tuples c.legs))) in
    omega (arith, one, two, three, four, five, entries_by fs c.legs B q g k)
  where
    fs : List Factor
    fs = c.group

    f : LegValue
    f = fused_leg fs c.legs c.arrow

    plain : (j : ℕ) → 0 + j ≡ j
    plain j = omega arith

    rest : List ℤ → ℕ
    rest d = entries fs B (remaining fs (turned fs c.arrow d) q)

    h : List ℕ → ℕ
    h t = block_size c.legs t * entries fs B (remaining fs (net fs c.legs t) q)

    part : (d : List ℤ) → length (values_with fs c.legs c.arrow d) * rest d ≡ sum_over h (tuples_with fs c.legs c.arrow d)
    part d =
        ap (λ n. n * rest d) (values_size c.legs (tuples_with fs c.legs c.arrow d))
        ∙ same_part (fused_charge fs c.legs c.arrow) d c.legs rest h
        (λ t e. ap (λ z. block_size c.legs t * entries fs B (remaining fs z q)) (sym (turned_twice fs c.arrow (net fs c.legs t) g (net_canonical fs c.legs t g)) ∙ ap (turned fs c.arrow) e)) (tuples c.legs)

length_fused : (c : CombinerValue) (A B : List LegValue) → 0 < length c.legs → length (narrow_legs c A B) ≤ length (wide_legs c A B)
length_fused c A B some = omega (arith, length-append A (fused_leg c.group c.legs c.arrow ∷ B), length-append A (c.legs ++ B), length-append c.legs B)

-- the fused tensor is within the limits
pub fused_within : (c : CombinerValue) (A B : List LegValue) (q : List ℤ) → IsCombiner c → IsCanonical c.group q → IsWithinLimits c.group (wide_legs c A B) q → IsWithinLimits c.group (narrow_legs c A B) q
fused_within c A B q hc k w = record {
  legs = omega (arith, length_fused c A B hc.some, w.legs);
  tuples = let m = w.tuples in omega (arith, count_fused c A B, m);
  entries =
      let m = w.entries in
      let l = entries_before c.group A (fused_leg c.group c.legs c.arrow ∷ B) (c.legs ++ B) hc.group (λ p e. entries_fused c B p hc.group e) q k in
      omega (arith, l, m);
}
