-- Reversed and turned legs.
use Rattle.std.proofs.Common.{◌≡◌, ℕ, ℤ, zero, suc, ◌+◌, ◌*◌, ◌/◌, ◌%◌, ◌≤◌, ◌<◌, List, [], ◌∷◌, ◌++◌, length, get_or, drop, map, reverse, true, cond, arith, refl, ap, ◌∙◌, sym, subst, add-one}
use Rattle.std.specs.List.{All}
use Rattle.std.specs.Cmp.Lexicographic.{pointwise}
use Rattle.std.specs.Ordering.{int_eq}
use Rattle.std.specs.Cmp.Rules.{signed_items}
use Rattle.std.proofs.lemmas.List.{reverse-append, length-reverse, length-map}
use Rattle.std.proofs.lemmas.List.Elements.{All-map}
use Rattle.std.proofs.lemmas.List.Sorted.{All-permutation, IsPermutation-reverse}
use Rattle.std.proofs.Math.ListN.{drop_of_length-le}
use Rattle.std.proofs.lemmas.Nat.{div-mul-add, mod-mul-add}
use Rattle.std.proofs.Math.Nat.{mul_comm, mul_assoc, mul-le-mul_left, mul-le-mul_right}
use Rattle.qn_charge.specs.declared.factor.Factor.{Factor}
use Rattle.qn_charge.specs.Charges.{IsGroup, IsCanonical, sum_charge, neg_charge, zero_charge}
use Rattle.qn_charge.specs.Laws.{associative_charge, commutative_charge, canonical_sum, canonical_neg, neg_of_neg, neg_of_sum, neg_of_zero}
use Rattle.qn_index.specs.declared.leg.Dir.{Dir}
use Rattle.qn_index.specs.declared.leg.Dir.TheVariants.{Out, In}
use Rattle.qn_index.specs.Legs.{LegValue, SectorValue, IsSound, IsLegOf, IsOf, no_sector, other_way, flipped, sector_at, sector_of, offset_in, total}
use Rattle.qn_index.specs.Tuples.{IsTuple, net, signed, turned, count, upward}
use Rattle.qn_index.specs.Places.{IsInner, IsValues, block_size, offset_of, sectors_at}
use Rattle.qn_index.specs.Extents.{entries, size_of}
use Rattle.qn_index.specs.Weights.{remaining}
use Rattle.qn_index.proofs.Nets.{tuple_length}
use Rattle.qn_index.proofs.Places.{inner_length, inner_of_offset}
use Rattle.qn_index.proofs.Admitted.{entries_step, total_over, mul_add}
use Rattle.qn_block.specs.Blocked.{conjugate_legs, offsets_at}
use Rattle.qn_block.proofs.Lookup.{values_length}
use Rattle.qn_index.proofs.Admitted.{total_same}
use Rattle.qn_facts.proofs.Booleans.{same_tests}

-- ---- lists backwards

reverse_one : {A : Type 0} (x : A) → reverse (x ∷ []) ≡ x ∷ []
reverse_one x = refl

pub reverse_cons : {A : Type 0} (x : A) (xs : List A) → reverse (x ∷ xs) ≡ reverse xs ++ (x ∷ [])
reverse_cons x xs = reverse-append (x ∷ []) xs ∙ ap (λ ys. reverse xs ++ ys) (reverse_one x)

pub conjugate_cons : (l : LegValue) (ls : List LegValue) → conjugate_legs (l ∷ ls) ≡ conjugate_legs ls ++ (flipped l ∷ [])
conjugate_cons l ls = reverse_cons (flipped l) (map flipped ls)

-- ---- one leg more at the end

tuple_snoc : (ls : List LegValue) (l : LegValue) (t : List ℕ) (s : ℕ) → IsTuple ls t → s < length l.sectors → IsTuple (ls ++ (l ∷ [])) (t ++ (s ∷ []))
tuple_snoc [] l [] s h lt = (lt, refl)
tuple_snoc [] l (x ∷ t) s h lt = absurd (let e : x ∷ t ≡ [] = h in cc)
tuple_snoc (k ∷ ls) l [] s h lt = absurd h
tuple_snoc (k ∷ ls) l (x ∷ t) s h lt = (h.0, tuple_snoc ls l t s h.1 lt)

size_snoc : (ls : List LegValue) (l : LegValue) (t : List ℕ) (s : ℕ) → length t ≡ length ls → block_size (ls ++ (l ∷ [])) (t ++ (s ∷ [])) ≡ block_size ls t * (sector_at l.sectors s).dim
size_snoc [] l [] s n = omega arith
size_snoc [] l (x ∷ t) s n = absurd (omega arith)
size_snoc (k ∷ ls) l [] s n = absurd (omega arith)
size_snoc (k ∷ ls) l (x ∷ t) s n =
    ap (λ m. (sector_at k.sectors x).dim * m) (size_snoc ls l t s (omega arith)) ∙ sym (mul_assoc (sector_at k.sectors x).dim (block_size ls t) (sector_at l.sectors s).dim)

offset_snoc : (ls : List LegValue) (l : LegValue) (t os : List ℕ) (s o : ℕ) → length t ≡ length ls → length os ≡ length ls → offset_of (ls ++ (l ∷ [])) (t ++ (s ∷ [])) (os ++ (o ∷ [])) ≡ offset_of ls t os * (sector_at l.sectors s).dim + o
offset_snoc [] l [] [] s o n m = omega arith
offset_snoc [] l [] (x ∷ os) s o n m = absurd (omega arith)
offset_snoc [] l (x ∷ t) os s o n m = absurd (omega arith)
offset_snoc (k ∷ ls) l [] os s o n m = absurd (omega arith)
offset_snoc (k ∷ ls) l (x ∷ t) [] s o n m = absurd (omega arith)
offset_snoc (k ∷ ls) l (x ∷ t) (p ∷ os) s o n m =
    let d = (sector_at l.sectors s).dim in
    let size : block_size (ls ++ (l ∷ [])) (t ++ (s ∷ [])) ≡ block_size ls t * d = size_snoc ls l t s (omega arith) in
    let rest : offset_of (ls ++ (l ∷ [])) (t ++ (s ∷ [])) (os ++ (o ∷ [])) ≡ offset_of ls t os * d + o = offset_snoc ls l t os s o (omega arith) (omega arith) in
    let first : p * block_size (ls ++ (l ∷ [])) (t ++ (s ∷ [])) ≡ p * block_size ls t * d = ap (λ m. p * m) size ∙ sym (mul_assoc p (block_size ls t) d) in
    let both : (p * block_size ls t + offset_of ls t os) * d ≡ p * block_size ls t * d + offset_of ls t os * d = add_mul (p * block_size ls t) (offset_of ls t os) d in
    omega (arith, rest, first, both)
  where
    add_mul : (a b d : ℕ) → (a + b) * d ≡ a * d + b * d
    add_mul a b d = mul_comm (a + b) d ∙ (mul_add d a b ∙ (ap (λ m. m + d * b) (mul_comm d a) ∙ ap (λ m. a * d + m) (mul_comm d b)))

pub net_snoc : (fs : List Factor) (ls : List LegValue) (l : LegValue) (t : List ℕ) (s : ℕ) → IsGroup fs → length t ≡ length ls → net fs (ls ++ (l ∷ [])) (t ++ (s ∷ [])) ≡ sum_charge fs (net fs ls t) (signed fs l s)
net_snoc fs [] l [] s g n = commutative_charge fs (signed fs l s) (zero_charge fs)
net_snoc fs [] l (x ∷ t) s g n = absurd (omega arith)
net_snoc fs (k ∷ ls) l [] s g n = absurd (omega arith)
net_snoc fs (k ∷ ls) l (x ∷ t) s g n =
    ap (sum_charge fs (signed fs k x)) (net_snoc fs ls l t s g (omega arith)) ∙ sym (associative_charge fs (signed fs k x) (net fs ls t) (signed fs l s) g)

count_snoc : (ls : List LegValue) (l : LegValue) → count (ls ++ (l ∷ [])) ≡ count ls * length l.sectors
count_snoc [] l = omega arith
count_snoc (k ∷ ls) l = ap (λ m. length k.sectors * m) (count_snoc ls l) ∙ sym (mul_assoc (length k.sectors) (count ls) (length l.sectors))

pub sectors_snoc : (ls : List LegValue) (l : LegValue) (xs : List ℕ) (x : ℕ) → length xs ≡ length ls → sectors_at (ls ++ (l ∷ [])) (xs ++ (x ∷ [])) ≡ sectors_at ls xs ++ (sector_of l.sectors x ∷ [])
sectors_snoc [] l [] x n = refl
sectors_snoc [] l (y ∷ xs) x n = absurd (omega arith)
sectors_snoc (k ∷ ls) l [] x n = absurd (omega arith)
sectors_snoc (k ∷ ls) l (y ∷ xs) x n = ap (λ ys. sector_of k.sectors y ∷ ys) (sectors_snoc ls l xs x (omega arith))

offsets_snoc : (ls : List LegValue) (l : LegValue) (xs : List ℕ) (x : ℕ) → length xs ≡ length ls → offsets_at (ls ++ (l ∷ [])) (xs ++ (x ∷ [])) ≡ offsets_at ls xs ++ (offset_in l.sectors x ∷ [])
offsets_snoc [] l [] x n = refl
offsets_snoc [] l (y ∷ xs) x n = absurd (omega arith)
offsets_snoc (k ∷ ls) l [] x n = absurd (omega arith)
offsets_snoc (k ∷ ls) l (y ∷ xs) x n = ap (λ ys. offset_in k.sectors y ∷ ys) (offsets_snoc ls l xs x (omega arith))

pub values_snoc : (ls : List LegValue) (l : LegValue) (xs : List ℕ) (x : ℕ) → IsValues ls xs → x < total l.sectors → IsValues (ls ++ (l ∷ [])) (xs ++ (x ∷ []))
values_snoc [] l [] x h lt = (lt, refl)
values_snoc [] l (y ∷ xs) x h lt = absurd (let e : y ∷ xs ≡ [] = h in cc)
values_snoc (k ∷ ls) l [] x h lt = absurd h
values_snoc (k ∷ ls) l (y ∷ xs) x h lt = (h.0, values_snoc ls l xs x h.1 lt)

-- ---- legs, tuples and values backwards

pub conjugate_all : (P : LegValue → Type 0) (ls : List LegValue) → ((l : LegValue) → P l → P (flipped l)) → All P ls → All P (conjugate_legs ls)
conjugate_all P ls keep all = All-permutation P (map flipped ls) (conjugate_legs ls) (IsPermutation-reverse (map flipped ls)) (All-map P flipped ls (λ k d lt. keep (get_or ls k d) (all k d lt)))

pub conjugate_length : (ls : List LegValue) → length (conjugate_legs ls) ≡ length ls
conjugate_length ls = length-reverse (map flipped ls) ∙ length-map ls flipped

pub conjugate_tuple : (ls : List LegValue) (t : List ℕ) → IsTuple ls t → IsTuple (conjugate_legs ls) (reverse t)
conjugate_tuple [] t h = ap reverse h
conjugate_tuple (l ∷ ls) [] h = absurd h
conjugate_tuple (l ∷ ls) (s ∷ t) h =
    subst (λ ks. IsTuple ks (reverse (s ∷ t))) (sym (conjugate_cons l ls))
    (subst (IsTuple (conjugate_legs ls ++ (flipped l ∷ []))) (sym (reverse_cons s t)) (tuple_snoc (conjugate_legs ls) (flipped l) (reverse t) s (conjugate_tuple ls t h.1) h.0))

back_long : (ls : List LegValue) (t : List ℕ) → length t ≡ length ls → length (reverse t) ≡ length (conjugate_legs ls)
back_long ls t n = length-reverse t ∙ (n ∙ sym (conjugate_length ls))

pub conjugate_size : (ls : List LegValue) (t : List ℕ) → length t ≡ length ls → block_size (conjugate_legs ls) (reverse t) ≡ block_size ls t
conjugate_size [] t n = refl
conjugate_size (l ∷ ls) [] n = absurd (omega arith)
conjugate_size (l ∷ ls) (s ∷ t) n =
    let m : length t ≡ length ls = omega arith in
    ap (λ ks. block_size ks (reverse (s ∷ t))) (conjugate_cons l ls)
    ∙ (ap (block_size (conjugate_legs ls ++ (flipped l ∷ []))) (reverse_cons s t)
    ∙ (size_snoc (conjugate_legs ls) (flipped l) (reverse t) s (back_long ls t m)
    ∙ (ap (λ k. k * (sector_at l.sectors s).dim) (conjugate_size ls t m) ∙ mul_comm (block_size ls t) (sector_at l.sectors s).dim)))

pub conjugate_offset : (l : LegValue) (ls : List LegValue) (s o : ℕ) (t os : List ℕ) → length t ≡ length ls → length os ≡ length ls →
    offset_of (conjugate_legs (l ∷ ls)) (reverse (s ∷ t)) (reverse (o ∷ os)) ≡ offset_of (conjugate_legs ls) (reverse t) (reverse os) * (sector_at l.sectors s).dim + o
conjugate_offset l ls s o t os n m =
    ap (λ ks. offset_of ks (reverse (s ∷ t)) (reverse (o ∷ os))) (conjugate_cons l ls)
    ∙ (ap (λ u. offset_of (conjugate_legs ls ++ (flipped l ∷ [])) u (reverse (o ∷ os))) (reverse_cons s t)
    ∙ (ap (offset_of (conjugate_legs ls ++ (flipped l ∷ [])) (reverse t ++ (s ∷ []))) (reverse_cons o os)
    ∙ offset_snoc (conjugate_legs ls) (flipped l) (reverse t) (reverse os) s o (back_long ls t n) (back_long ls os m)))

pub conjugate_sectors : (ls : List LegValue) (xs : List ℕ) → length xs ≡ length ls → sectors_at (conjugate_legs ls) (reverse xs) ≡ reverse (sectors_at ls xs)
conjugate_sectors [] xs n = refl
conjugate_sectors (l ∷ ls) [] n = absurd (omega arith)
conjugate_sectors (l ∷ ls) (x ∷ xs) n =
    let m : length xs ≡ length ls = omega arith in
    ap (λ ks. sectors_at ks (reverse (x ∷ xs))) (conjugate_cons l ls)
    ∙ (ap (sectors_at (conjugate_legs ls ++ (flipped l ∷ []))) (reverse_cons x xs)
    ∙ (sectors_snoc (conjugate_legs ls) (flipped l) (reverse xs) x (back_long ls xs m)
    ∙ (ap (λ ys. ys ++ (sector_of l.sectors x ∷ [])) (conjugate_sectors ls xs m) ∙ sym (reverse_cons (sector_of l.sectors x) (sectors_at ls xs)))))

pub conjugate_offsets : (ls : List LegValue) (xs : List ℕ) → length xs ≡ length ls → offsets_at (conjugate_legs ls) (reverse xs) ≡ reverse (offsets_at ls xs)
conjugate_offsets [] xs n = refl
conjugate_offsets (l ∷ ls) [] n = absurd (omega arith)
conjugate_offsets (l ∷ ls) (x ∷ xs) n =
    let m : length xs ≡ length ls = omega arith in
    ap (λ ks. offsets_at ks (reverse (x ∷ xs))) (conjugate_cons l ls)
    ∙ (ap (offsets_at (conjugate_legs ls ++ (flipped l ∷ []))) (reverse_cons x xs)
    ∙ (offsets_snoc (conjugate_legs ls) (flipped l) (reverse xs) x (back_long ls xs m)
    ∙ (ap (λ ys. ys ++ (offset_in l.sectors x ∷ [])) (conjugate_offsets ls xs m) ∙ sym (reverse_cons (offset_in l.sectors x) (offsets_at ls xs)))))

pub conjugate_values : (ls : List LegValue) (xs : List ℕ) → IsValues ls xs → IsValues (conjugate_legs ls) (reverse xs)
conjugate_values [] xs h = ap reverse h
conjugate_values (l ∷ ls) [] h = absurd h
conjugate_values (l ∷ ls) (x ∷ xs) h =
    subst (λ ks. IsValues ks (reverse (x ∷ xs))) (sym (conjugate_cons l ls))
    (subst (IsValues (conjugate_legs ls ++ (flipped l ∷ []))) (sym (reverse_cons x xs)) (values_snoc (conjugate_legs ls) (flipped l) (reverse xs) x (conjugate_values ls xs h.1) h.0))

snoc_back : (ls : List LegValue) (l : LegValue) (xs : List ℕ) (x : ℕ) → length xs ≡ length ls → IsValues (ls ++ (l ∷ [])) (xs ++ (x ∷ [])) → IsValues ls xs × (x < total l.sectors)
snoc_back [] l [] x n h = (refl, h.0)
snoc_back [] l (y ∷ xs) x n h = absurd (omega arith)
snoc_back (k ∷ ls) l [] x n h = absurd (omega arith)
snoc_back (k ∷ ls) l (y ∷ xs) x n h = let r = snoc_back ls l xs x (omega arith) h.1 in ((h.0, r.0), r.1)

values_back_from : (ls : List LegValue) (xs : List ℕ) → length xs ≡ length ls → IsValues (conjugate_legs ls) (reverse xs) → IsValues ls xs
values_back_from [] [] n h = refl
values_back_from [] (x ∷ xs) n h = absurd (omega arith)
values_back_from (l ∷ ls) [] n h = absurd (omega arith)
values_back_from (l ∷ ls) (x ∷ xs) n h =
    let m : length xs ≡ length ls = omega arith in
    let at : IsValues (conjugate_legs ls ++ (flipped l ∷ [])) (reverse xs ++ (x ∷ [])) = subst (IsValues (conjugate_legs ls ++ (flipped l ∷ []))) (reverse_cons x xs) (subst (λ ks. IsValues ks (reverse (x ∷ xs))) (conjugate_cons l ls) h) in
    let r = snoc_back (conjugate_legs ls) (flipped l) (reverse xs) x (back_long ls xs m) at in
    (r.1, values_back_from ls xs m r.0)

-- reversed values in range of the reversed legs
pub values_back : (ls : List LegValue) (xs : List ℕ) → IsValues (conjugate_legs ls) (reverse xs) → IsValues ls xs
values_back ls xs h = values_back_from ls xs (sym (length-reverse xs) ∙ (values_length (conjugate_legs ls) (reverse xs) h ∙ conjugate_length ls)) h

-- ---- charges

pub canonical_at : (fs : List Factor) (ps : List SectorValue) (s : ℕ) → All (IsOf fs) ps → s < length ps → IsCanonical fs (sector_at ps s).charge
canonical_at fs ps s h lt = (h s _ lt).canonical

pub signed_flipped : (fs : List Factor) (l : LegValue) (s : ℕ) → IsGroup fs → IsCanonical fs (sector_at l.sectors s).charge → signed fs (flipped l) s ≡ neg_charge fs (signed fs l s)
signed_flipped fs l s g h = by l.arrow
  where
    c : List ℤ
    c = (sector_at l.sectors s).charge

    by : (a : Dir) → turned fs (other_way a) c ≡ neg_charge fs (turned fs a c)
    by Out = refl
    by In = sym (neg_of_neg fs c g h)

pub conjugate_net : (fs : List Factor) (ls : List LegValue) (t : List ℕ) → IsGroup fs → All (IsLegOf fs) ls → IsTuple ls t → net fs (conjugate_legs ls) (reverse t) ≡ neg_charge fs (net fs ls t)
conjugate_net fs [] t g h v = ap (net fs (conjugate_legs [])) (ap reverse v) ∙ sym (neg_of_zero fs g)
conjugate_net fs (l ∷ ls) [] g h v = absurd v
conjugate_net fs (l ∷ ls) (s ∷ t) g h v =
    let m : length t ≡ length ls = tuple_length ls t v.1 in
    let own : IsLegOf fs l = h 0 l (omega arith) in
    ap (λ ks. net fs ks (reverse (s ∷ t))) (conjugate_cons l ls)
    ∙ (ap (net fs (conjugate_legs ls ++ (flipped l ∷ []))) (reverse_cons s t)
    ∙ (net_snoc fs (conjugate_legs ls) (flipped l) (reverse t) s g (back_long ls t m)
    ∙ (ap (λ c. sum_charge fs c (signed fs (flipped l) s)) (conjugate_net fs ls t g (λ k d lt. h (suc k) d (omega arith)) v.1)
    ∙ (ap (sum_charge fs (neg_charge fs (net fs ls t))) (signed_flipped fs l s g (canonical_at fs l.sectors s own v.0))
    ∙ (commutative_charge fs (neg_charge fs (net fs ls t)) (neg_charge fs (signed fs l s))
    ∙ sym (neg_of_sum fs (signed fs l s) (net fs ls t) g))))))

-- ---- how wide

pub conjugate_count : (ls : List LegValue) → count (conjugate_legs ls) ≡ count ls
conjugate_count [] = refl
conjugate_count (l ∷ ls) =
    ap count (conjugate_cons l ls) ∙ (count_snoc (conjugate_legs ls) (flipped l) ∙ (ap (λ k. k * length l.sectors) (conjugate_count ls) ∙ mul_comm (count ls) (length l.sectors)))

pub total_zero : (ss : List ℕ) → total_over (λ s. 0) ss ≡ 0
total_zero [] = refl
total_zero (s ∷ ss) = omega (arith, total_zero ss)

pub total_add : (f g : ℕ → ℕ) (ss : List ℕ) → total_over (λ s. f s + g s) ss ≡ total_over f ss + total_over g ss
total_add f g [] = refl
total_add f g (s ∷ ss) = omega (arith, total_add f g ss)

total_times : (d : ℕ) (f : ℕ → ℕ) (ss : List ℕ) → total_over (λ s. d * f s) ss ≡ d * total_over f ss
total_times d f [] = omega arith
total_times d f (s ∷ ss) = omega (arith, total_times d f ss, mul_add d (f s) (total_over f ss))

-- a sum over two numbers, in either order
pub total_swap : (f : ℕ → ℕ → ℕ) (ss us : List ℕ) → total_over (λ s. total_over (f s) us) ss ≡ total_over (λ u. total_over (λ s. f s u) ss) us
total_swap f [] us = sym (total_zero us)
total_swap f (s ∷ ss) us = ap (λ n. total_over (f s) us + n) (total_swap f ss us) ∙ sym (total_add (f s) (λ u. total_over (λ s. f s u) ss) us)

remaining_swap : (fs : List Factor) (a b q : List ℤ) → IsGroup fs → remaining fs a (remaining fs b q) ≡ remaining fs b (remaining fs a q)
remaining_swap fs a b q g =
    let x = neg_charge fs a in
    let y = neg_charge fs b in
    sym (associative_charge fs x y q g) ∙ (ap (λ c. sum_charge fs c q) (commutative_charge fs x y) ∙ associative_charge fs y x q g)

remaining_canonical : (fs : List Factor) (a q : List ℤ) → IsGroup fs → IsCanonical fs (remaining fs a q)
remaining_canonical fs a q g = canonical_sum fs (neg_charge fs a) q g

-- the entries, by the sector of the last leg
entries_snoc : (fs : List Factor) (ls : List LegValue) (l : LegValue) (q : List ℤ) → IsGroup fs → IsCanonical fs q →
    entries fs (ls ++ (l ∷ [])) q ≡ total_over (λ s. (sector_at l.sectors s).dim * entries fs ls (remaining fs (signed fs l s) q)) (upward 0 (length l.sectors))
entries_snoc fs [] l q g h = entries_step fs l [] q g h
entries_snoc fs (k ∷ ls) l q g h =
    let here : List ℕ = upward 0 (length k.sectors) in
    let last : List ℕ = upward 0 (length l.sectors) in
    let d : ℕ → ℕ = λ s. (sector_at k.sectors s).dim in
    let e : ℕ → ℕ = λ u. (sector_at l.sectors u).dim in
    let left : ℕ → List ℤ = λ s. remaining fs (signed fs k s) q in
    let both : ℕ → ℕ → ℕ = λ s u. d s * (e u * entries fs ls (remaining fs (signed fs l u) (left s))) in
    let split : entries fs (k ∷ (ls ++ (l ∷ []))) q ≡ total_over (λ s. total_over (both s) last) here =
    entries_step fs k (ls ++ (l ∷ [])) q g h
    ∙ total_same (λ s. d s * entries fs (ls ++ (l ∷ [])) (left s)) (λ s. total_over (both s) last) here
    (λ s. ap (λ n. d s * n) (entries_snoc fs ls l (left s) g (remaining_canonical fs (signed fs k s) q g)) ∙ sym (total_times (d s) (λ u. e u * entries fs ls (remaining fs (signed fs l u) (left s))) last)) in
    let join : (u : ℕ) → total_over (λ s. both s u) here ≡ e u * entries fs (k ∷ ls) (remaining fs (signed fs l u) q) = λ u.
    total_same (λ s. both s u) (λ s. e u * (d s * entries fs ls (remaining fs (signed fs k s) (remaining fs (signed fs l u) q)))) here
    (λ s. swap_factors (d s) (e u) (entries fs ls (remaining fs (signed fs l u) (left s))) ∙ ap (λ c. e u * (d s * entries fs ls c)) (remaining_swap fs (signed fs l u) (signed fs k s) q g))
    ∙ (total_times (e u) (λ s. d s * entries fs ls (remaining fs (signed fs k s) (remaining fs (signed fs l u) q))) here
    ∙ ap (λ n. e u * n) (sym (entries_step fs k ls (remaining fs (signed fs l u) q) g (remaining_canonical fs (signed fs l u) q g)))) in
    split ∙ (total_swap both here last ∙ total_same (λ u. total_over (λ s. both s u) here) (λ u. e u * entries fs (k ∷ ls) (remaining fs (signed fs l u) q)) last join)
  where
    swap_factors : (a b c : ℕ) → a * (b * c) ≡ b * (a * c)
    swap_factors a b c = sym (mul_assoc a b c) ∙ (ap (λ m. m * c) (mul_comm a b) ∙ mul_assoc b a c)

-- a sum over the sectors of a leg, where the summands agree at each of them
total_below : (f g : ℕ → ℕ) (i n : ℕ) → ((s : ℕ) → s < i + n → f s ≡ g s) → total_over f (upward i n) ≡ total_over g (upward i n)
total_below f g i zero h = refl
total_below f g i (suc n) h = omega (arith, h i (omega arith), total_below f g (i + 1) n (λ s lt. h s (omega arith)))

pub conjugate_entries : (fs : List Factor) (ls : List LegValue) (q : List ℤ) → IsGroup fs → All (IsLegOf fs) ls → IsCanonical fs q → entries fs (conjugate_legs ls) (neg_charge fs q) ≡ entries fs ls q
conjugate_entries fs [] q g h c = ap (λ b. size_of [] (cond b ([] ∷ []) [])) (same_tests (pointwise int_eq (zero_charge fs) (neg_charge fs q)) (pointwise int_eq (zero_charge fs) q) to from)
  where
    to : pointwise int_eq (zero_charge fs) (neg_charge fs q) ≡ true → pointwise int_eq (zero_charge fs) q ≡ true
    to e = (signed_items (zero_charge fs) q).1 (sym (neg_of_zero fs g) ∙ (ap (neg_charge fs) ((signed_items (zero_charge fs) (neg_charge fs q)).0 e) ∙ neg_of_neg fs q g c))

    from : pointwise int_eq (zero_charge fs) q ≡ true → pointwise int_eq (zero_charge fs) (neg_charge fs q) ≡ true
    from e = (signed_items (zero_charge fs) (neg_charge fs q)).1 (sym (neg_of_zero fs g) ∙ ap (neg_charge fs) ((signed_items (zero_charge fs) q).0 e))
conjugate_entries fs (l ∷ ls) q g h c =
    let own : IsLegOf fs l = h 0 l (omega arith) in
    let d : ℕ → ℕ = λ s. (sector_at l.sectors s).dim in
    ap (λ ks. entries fs ks (neg_charge fs q)) (conjugate_cons l ls)
    ∙ (entries_snoc fs (conjugate_legs ls) (flipped l) (neg_charge fs q) g (canonical_neg fs q g)
    ∙ (total_below (λ s. d s * entries fs (conjugate_legs ls) (remaining fs (signed fs (flipped l) s) (neg_charge fs q))) (λ s. d s * entries fs ls (remaining fs (signed fs l s) q)) 0 (length l.sectors)
    (λ s lt. ap (λ n. d s * n)
    (ap (entries fs (conjugate_legs ls))
    (ap (λ a. remaining fs a (neg_charge fs q)) (signed_flipped fs l s g (canonical_at fs l.sectors s own (omega arith))) ∙ sym (neg_of_sum fs (neg_charge fs (signed fs l s)) q g))
    ∙ conjugate_entries fs ls (remaining fs (signed fs l s) q) g (λ k e lt. h (suc k) e (omega arith)) (remaining_canonical fs (signed fs l s) q g)))
    ∙ sym (entries_step fs l ls q g c)))

-- ---- entries backwards

-- the offset in a block of the offset in the mirrored block, leg by leg: p is left of the mirrored one, s is found
abbrev pub mirrored : List LegValue → List ℕ → ℕ → ℕ → ℕ
mirrored [] t p s = s
mirrored (l ∷ ls) [] p s = s
mirrored (l ∷ ls) (x ∷ t) p s = let d = (sector_at l.sectors x).dim in mirrored ls t (p / d) (s * d + p % d)

pub mirrored_is : (ls : List LegValue) (t os : List ℕ) (s : ℕ) → IsTuple ls t → IsInner ls t os → mirrored ls t (offset_of (conjugate_legs ls) (reverse t) (reverse os)) s ≡ s * block_size ls t + offset_of ls t os
mirrored_is [] t os s h i = omega arith
mirrored_is (l ∷ ls) [] os s h i = absurd h
mirrored_is (l ∷ ls) (x ∷ t) [] s h i = absurd i
mirrored_is (l ∷ ls) (x ∷ t) (o ∷ os) s h i =
    let d = (sector_at l.sectors x).dim in
    let q = offset_of (conjugate_legs ls) (reverse t) (reverse os) in
    let p = offset_of (conjugate_legs (l ∷ ls)) (reverse (x ∷ t)) (reverse (o ∷ os)) in
    let at : p ≡ q * d + o = conjugate_offset l ls x o t os (tuple_length ls t h.1) (inner_length ls t os i.1) in
    let quotient : p / d ≡ q = ap (λ k. k / d) at ∙ div-mul-add q d o i.0 in
    let remainder : p % d ≡ o = ap (λ k. k % d) at ∙ mod-mul-add q d o i.0 in
    let c = block_size ls t in
    let rest : mirrored ls t q (s * d + o) ≡ (s * d + o) * c + offset_of ls t os = mirrored_is ls t os (s * d + o) h.1 i.1 in
    let both : (s * d + o) * c ≡ s * d * c + o * c = mul_comm (s * d + o) c ∙ (mul_add c (s * d) o ∙ (ap (λ k. k + c * o) (mul_comm c (s * d)) ∙ ap (λ k. s * d * c + k) (mul_comm c o))) in
    let size : s * d * c ≡ s * (d * c) = mul_assoc s d c in
    ap (λ k. mirrored ls t k (s * d + p % d)) quotient ∙ (ap (λ k. mirrored ls t q (s * d + k)) remainder ∙ (rest ∙ omega (arith, both, size)))

-- the loop over the legs: what is found and what is left give the same in the end
pub record IsMirroring (ls : List LegValue) (t : List ℕ) (i p found left : ℕ) : Type 0 where
  pub same : mirrored (drop i ls) (drop i t) left found ≡ mirrored ls t p 0
  pub below : (found + 1) * block_size (drop i ls) (drop i t) ≤ block_size ls t

mirror_suc : (ls : List LegValue) (t : List ℕ) (i p s : ℕ) (l : LegValue) → i < length ls → length t ≡ length ls →
    (mirrored (drop i ls) (drop i t) p s ≡ mirrored (drop (suc i) ls) (drop (suc i) t) (p / (sector_at (get_or ls i l).sectors (get_or t i 0)).dim) (s * (sector_at (get_or ls i l).sectors (get_or t i 0)).dim + p % (sector_at (get_or ls i l).sectors (get_or t i 0)).dim))
    × (block_size (drop i ls) (drop i t) ≡ (sector_at (get_or ls i l).sectors (get_or t i 0)).dim * block_size (drop (suc i) ls) (drop (suc i) t))
mirror_suc [] t i p s l lt n = absurd (omega arith)
mirror_suc (k ∷ ls) [] i p s l lt n = absurd (omega arith)
mirror_suc (k ∷ ls) (x ∷ t) zero p s l lt n = (refl, refl)
mirror_suc (k ∷ ls) (x ∷ t) (suc i) p s l lt n = mirror_suc ls t i p s l (omega arith) (omega arith)

pub record IsMirrorStep (ls : List LegValue) (t : List ℕ) (i p found left d : ℕ) : Type 0 where
  pub some : 0 < d
  pub fits : found * d + left % d < block_size ls t
  pub next : IsMirroring ls t (i + 1) p (found * d + left % d) (left / d)

pub mirror_more : (ls : List LegValue) (t : List ℕ) (i p found left d : ℕ) (l : LegValue) → All IsSound ls → IsTuple ls t → i < length ls → l ≡ get_or ls i l → d ≡ (sector_at l.sectors (get_or t i 0)).dim → IsMirroring ls t i p found left → IsMirrorStep ls t i p found left d
mirror_more ls t i p found left d l sound h lt is e m =
    let n = tuple_length ls t h in
    let at : (sector_at (get_or ls i l).sectors (get_or t i 0)).dim ≡ d = ap (λ (k : LegValue). (sector_at k.sectors (get_or t i 0)).dim) (sym is) ∙ sym e in
    let step = mirror_suc ls t i left found l lt n in
    let c = block_size (drop (i + 1) ls) (drop (i + 1) t) in
    let one : block_size (drop (suc i) ls) (drop (suc i) t) ≡ c = ap (λ k. block_size (drop k ls) (drop k t)) (sym (add-one i)) in
    let size : block_size (drop i ls) (drop i t) ≡ d * c = step.1 ∙ (ap (λ k. k * block_size (drop (suc i) ls) (drop (suc i) t)) at ∙ ap (λ k. d * k) one) in
    let some : 0 < d = subst (λ k. 0 < k) at (dim_some ls t i l sound h lt) in
    let new = found * d + left % d in
    let wide : (new + 1) * c ≤ (found + 1) * d * c = mul-le-mul_right c (bound found d (left % d) (omega (arith, some))) in
    let whole : (found + 1) * d * c ≤ block_size ls t = subst (λ k. k ≤ block_size ls t) (sym (mul_assoc (found + 1) d c)) (subst (λ k. (found + 1) * k ≤ block_size ls t) size m.below) in
    let rest : 0 < c = block_left ls t (i + 1) sound h in
    let grown : new + 1 ≤ (new + 1) * c = at_least (new + 1) c rest in
    record {
      some = some;
      fits = omega (arith, wide, whole, grown);
      next = record {
        same = ap (λ k. mirrored (drop k ls) (drop k t) (left / d) new) (add-one i)
            ∙ (ap (λ k. mirrored (drop (suc i) ls) (drop (suc i) t) (left / k) (found * k + left % k)) (sym at) ∙ (sym step.0 ∙ m.same));
        below = omega (arith, wide, whole);
      };
    }
  where
    bound : (f d r : ℕ) → r < d → f * d + r + 1 ≤ (f + 1) * d
    bound f d r lt = let e : (f + 1) * d ≡ f * d + d = mul_comm (f + 1) d ∙ (mul_add d f 1 ∙ (ap (λ k. k + d * 1) (mul_comm d f) ∙ omega arith)) in omega (arith, e)

    at_least : (a c : ℕ) → 0 < c → a ≤ a * c
    at_least a c lt = let le = mul-le-mul_left a lt in omega (arith, le)

    dim_some : (ls : List LegValue) (t : List ℕ) (i : ℕ) (l : LegValue) → All IsSound ls → IsTuple ls t → i < length ls → 0 < (sector_at (get_or ls i l).sectors (get_or t i 0)).dim
    dim_some [] t i l h v lt = absurd (omega arith)
    dim_some (k ∷ ls) [] i l h v lt = absurd v
    dim_some (k ∷ ls) (x ∷ t) zero l h v lt = ((h 0 k (omega arith)).dims x no_sector v.0).0
    dim_some (k ∷ ls) (x ∷ t) (suc i) l h v lt = dim_some ls t i l (λ j d m. h (suc j) d (omega arith)) v.1 (omega arith)

    block_some : (ls : List LegValue) (t : List ℕ) → All IsSound ls → IsTuple ls t → 0 < block_size ls t
    block_some [] t h v = omega arith
    block_some (k ∷ ls) [] h v = absurd v
    block_some (k ∷ ls) (x ∷ t) h v =
        let some = ((h 0 k (omega arith)).dims x no_sector v.0).0 in
        let rest = block_some ls t (λ j d m. h (suc j) d (omega arith)) v.1 in
        let le = mul-le-mul_right (block_size ls t) some in
        omega (arith, le, rest)

    block_left : (ls : List LegValue) (t : List ℕ) (i : ℕ) → All IsSound ls → IsTuple ls t → 0 < block_size (drop i ls) (drop i t)
    block_left ls t zero h v = block_some ls t h v
    block_left [] t (suc i) h v = omega arith
    block_left (k ∷ ls) [] (suc i) h v = absurd v
    block_left (k ∷ ls) (x ∷ t) (suc i) h v = block_left ls t i (λ j d m. h (suc j) d (omega arith)) v.1

pub mirror_end : (ls : List LegValue) (t : List ℕ) (i p found left : ℕ) → i ≡ length ls → IsMirroring ls t i p found left → (found ≡ mirrored ls t p 0) × (found < block_size ls t)
mirror_end ls t i p found left e m =
    let none : drop i ls ≡ [] = drop_of_length-le ls (omega arith) in
    let same : mirrored (drop i ls) (drop i t) left found ≡ found = ap (λ ks. mirrored ks (drop i t) left found) none in
    let size : block_size (drop i ls) (drop i t) ≡ 1 = ap (λ ks. block_size ks (drop i t)) none in
    let below : (found + 1) * 1 ≤ block_size ls t = subst (λ k. (found + 1) * k ≤ block_size ls t) size m.below in
    (sym same ∙ m.same, omega (arith, below))

pub mirror_place : (ls : List LegValue) (t : List ℕ) (p found : ℕ) → IsTuple ls t → found ≡ mirrored ls t p 0 → (os : List ℕ) → IsInner ls t os → p ≡ offset_of (conjugate_legs ls) (reverse t) (reverse os) → found ≡ offset_of ls t os
mirror_place ls t p found h e os i at =
    let found_at = mirrored_is ls t os 0 h i in
    let none : 0 * block_size ls t + offset_of ls t os ≡ offset_of ls t os = omega arith in
    e ∙ (ap (λ k. mirrored ls t k 0) at ∙ (found_at ∙ none))

inner_snoc : (ls : List LegValue) (l : LegValue) (t os : List ℕ) (s o : ℕ) → IsInner ls t os → o < (sector_at l.sectors s).dim → length t ≡ length ls → IsInner (ls ++ (l ∷ [])) (t ++ (s ∷ [])) (os ++ (o ∷ []))
inner_snoc [] l [] [] s o h lt n = (lt, refl)
inner_snoc [] l [] (p ∷ os) s o h lt n = absurd (let e : p ∷ os ≡ [] = h in cc)
inner_snoc [] l (x ∷ t) os s o h lt n = absurd (omega arith)
inner_snoc (k ∷ ls) l [] os s o h lt n = absurd h
inner_snoc (k ∷ ls) l (x ∷ t) [] s o h lt n = absurd h
inner_snoc (k ∷ ls) l (x ∷ t) (p ∷ os) s o h lt n = (h.0, inner_snoc ls l t os s o h.1 lt (omega arith))

conjugate_inner : (ls : List LegValue) (t os : List ℕ) → IsTuple ls t → IsInner ls t os → IsInner (conjugate_legs ls) (reverse t) (reverse os)
conjugate_inner [] t os h i = ap reverse i
conjugate_inner (l ∷ ls) [] os h i = absurd h
conjugate_inner (l ∷ ls) (x ∷ t) [] h i = absurd i
conjugate_inner (l ∷ ls) (x ∷ t) (o ∷ os) h i =
    subst (λ ks. IsInner ks (reverse (x ∷ t)) (reverse (o ∷ os))) (sym (conjugate_cons l ls))
    (subst (λ u. IsInner (conjugate_legs ls ++ (flipped l ∷ [])) u (reverse (o ∷ os))) (sym (reverse_cons x t))
    (subst (IsInner (conjugate_legs ls ++ (flipped l ∷ [])) (reverse t ++ (x ∷ []))) (sym (reverse_cons o os))
    (inner_snoc (conjugate_legs ls) (flipped l) (reverse t) (reverse os) x o (conjugate_inner ls t os h.1 i.1) i.0 (back_long ls t (tuple_length ls t h.1)))))

-- the offset in the mirrored block is within it
pub place_below : (ls : List LegValue) (t os : List ℕ) → IsTuple ls t → IsInner ls t os → offset_of (conjugate_legs ls) (reverse t) (reverse os) < block_size ls t
place_below ls t os h i =
    let below = inner_of_offset (conjugate_legs ls) (reverse t) (reverse os) (conjugate_tuple ls t h) (conjugate_inner ls t os h i) in
    omega (arith, below.0, conjugate_size ls t (tuple_length ls t h))
