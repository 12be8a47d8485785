-- The values of some legs, parted by their charges.
use Rattle.std.proofs.Common.{Contains, ◌≡◌, ℕ, ℤ, zero, suc, ◌+◌, ◌*◌, ◌≤◌, ◌<◌, List, [], ◌∷◌, ◌++◌, length, get_or, take, map, filter, flat_map, arith, refl, ap, ◌∙◌, sym, subst, Bool, true, false, cond, add-zero, zero-add}
use Rattle.std.specs.List.{All}
use Rattle.std.specs.Cmp.Lexicographic.{slice_cmp, pointwise}
use Rattle.std.specs.Cmp.{IsTotalOrder}
use Rattle.std.specs.Ordering.{int_cmp, int_eq, ordering_reverse}
use Rattle.std.specs.Cmp.Rules.{signed_items}
use Rattle.std.specs.declared.cmp.Ordering.{Ordering}
use Rattle.std.specs.declared.cmp.Ordering.TheVariants.{Less, Equal, Greater}
use Rattle.std.proofs.Math.Nat.{mul_comm}
use Rattle.std.proofs.lemmas.Cmp.{int_cmp_total, lists_total, int_ranked, tied_itself}
use Rattle.std.proofs.lemmas.Bool.{false_from_ne_true}
use Rattle.qn_block.proofs.Occurring.{put_all}
use Rattle.std.proofs.lemmas.List.{length-append, length-map, take_more}
use Rattle.std.proofs.lemmas.List.Elements.{All-nil, All-cons}
use Rattle.qn_charge.specs.declared.factor.Factor.{Factor}
use Rattle.qn_index.specs.declared.leg.Dir.{Dir}
use Rattle.qn_index.specs.declared.leg.Dir.TheVariants.{Out, In}
use Rattle.qn_index.specs.Legs.{LegValue, SectorValue, sector_at, total}
use Rattle.qn_index.specs.Tuples.{IsTuple, tuples, upward, turned, net, admits, admitted}
use Rattle.qn_index.specs.Places.{block_size, values_at}
use Rattle.qn_index.specs.Extents.{size_of}
use Rattle.qn_charge.specs.Charges.{IsGroup, IsCanonical, neg_charge}
use Rattle.qn_charge.specs.Laws.{neg_of_neg}
use Rattle.qn_index.proofs.Admitted.{mul_add, net_canonical}
use Rattle.qn_block.specs.Combiners.{fused_charge, fused_charges, put_by, put, ascending_once, tuples_with, values_in, sector_with, fused_sectors, number_of_values, starts_from}
use Rattle.qn_index.proofs.Admitted.{size_append}
use Rattle.qn_index.proofs.Admitted.{size_first}
use Rattle.qn_facts.proofs.Booleans.{same_tests}
use Rattle.qn_facts.proofs.Orderings.{both_equal}

-- ---- charges ascend, and so each stands once

-- each charge is before all later ones
abbrev pub Ascends : List (List ℤ) → Type 0
Ascends [] = Unit {0}
Ascends (c ∷ cs) = All (λ d. slice_cmp int_cmp c d ≡ Less) cs × Ascends cs

pub same_charges : (c d : List ℤ) → slice_cmp int_cmp c d ≡ Equal → c ≡ d
same_charges [] [] e = refl
same_charges [] (y ∷ d) e = absurd (cc e)
same_charges (x ∷ c) [] e = absurd (cc e)
same_charges (x ∷ c) (y ∷ d) e =
    let b = both_equal (int_cmp x y) (slice_cmp int_cmp c d) e in
    let first : x ≡ y = int_ranked x y Equal (sym b.0) in
    let rest : c ≡ d = same_charges c d b.1 in
    cc

pub charges_total : IsTotalOrder (slice_cmp int_cmp)
charges_total = lists_total int_cmp_total

put_ascends : (c : List ℤ) (ds : List (List ℤ)) → Ascends ds → Ascends (put c ds)
put_ascends c [] h = (All-nil (λ d. slice_cmp int_cmp c d ≡ Less), tt)
put_ascends c (d ∷ ds) h = by (slice_cmp int_cmp c d) refl (put_ascends c ds h.1)
  where
    After : List ℤ → List ℤ → Type 0
    After x y = slice_cmp int_cmp x y ≡ Less

    by : (o : Ordering) → slice_cmp int_cmp c d ≡ o → Ascends (put c ds) → Ascends (put_by o c d ds (put c ds))
    by Less e more = (All-cons (After c) d ds e (λ k x lt. charges_total.trans c d (get_or ds k x) e (h.0 k x lt)), h)
    by Equal e more = h
    by Greater e more = (put_all (After d) c ds (charges_total.antisymm d c ∙ ap ordering_reverse e) h.0, more)

pub once_ascends : (cs : List (List ℤ)) → Ascends (ascending_once cs)
once_ascends [] = tt
once_ascends (c ∷ cs) = put_ascends c (ascending_once cs) (once_ascends cs)

-- a charge that was put is there, and so are the others
put_there : (c : List ℤ) (ds : List (List ℤ)) → Contains (put c ds) c
put_there c [] = (0, omega arith, refl)
put_there c (d ∷ ds) = by (slice_cmp int_cmp c d) refl (put_there c ds)
  where
    by : (o : Ordering) → slice_cmp int_cmp c d ≡ o → Contains (put c ds) c → Contains (put_by o c d ds (put c ds)) c
    by Less e more = (0, omega arith, refl)
    by Equal e more = (0, omega arith, sym (same_charges c d e))
    by Greater e more = (suc more.0, omega (arith, more.1), more.2)

put_keeps : (c x : List ℤ) (ds : List (List ℤ)) → Contains ds x → Contains (put c ds) x
put_keeps c x [] h = absurd (omega (arith, h.1))
put_keeps c x (d ∷ ds) h = by (slice_cmp int_cmp c d) h (λ k. put_keeps c x ds k)
  where
    by : (o : Ordering) → Contains (d ∷ ds) x → (Contains ds x → Contains (put c ds) x) → Contains (put_by o c d ds (put c ds)) x
    by Less k more = (suc k.0, omega (arith, k.1), k.2)
    by Equal k more = k
    by Greater (zero, lt, e) more = (0, omega arith, e)
    by Greater (suc j, lt, e) more = let r = more (j, omega arith, e) in (suc r.0, omega (arith, r.1), r.2)

pub charge_occurs : (f : List ℕ → List ℤ) (ts : List (List ℕ)) (t : List ℕ) → Contains ts t → Contains (ascending_once (map f ts)) (f t)
charge_occurs f [] t h = absurd (omega (arith, h.1))
charge_occurs f (u ∷ ts) t (zero, lt, e) = subst (λ v. Contains (ascending_once (map f (u ∷ ts))) (f v)) e (put_there (f u) (ascending_once (map f ts)))
charge_occurs f (u ∷ ts) t (suc k, lt, e) = put_keeps (f u) (f t) (ascending_once (map f ts)) (charge_occurs f ts t (k, omega arith, e))

-- ---- sums over the charges

abbrev pub sum_over : {A : Type 0} → (A → ℕ) → List A → ℕ
sum_over f [] = 0
sum_over f (x ∷ xs) = f x + sum_over f xs

pub sum_take : {A : Type 0} (f : A → ℕ) (xs : List A) (i : ℕ) → sum_over f (take i xs) ≤ sum_over f xs
sum_take f xs zero = omega arith
sum_take f [] (suc i) = omega arith
sum_take f (x ∷ xs) (suc i) = omega (arith, sum_take f xs i)

-- where the charge is c, else 0
abbrev part : (List ℕ → List ℤ) → (List ℕ → ℕ) → List ℕ → List ℤ → ℕ
part f g t c = cond (pointwise int_eq (f t) c) (g t) 0

-- the sizes of the tuples with this charge
part_of : (ls : List LegValue) (f : List ℕ → List ℤ) (t : List ℕ) (ts : List (List ℕ)) (c : List ℤ) → size_of ls (filter (λ u. pointwise int_eq (f u) c) (t ∷ ts)) ≡ part f (block_size ls) t c + size_of ls (filter (λ u. pointwise int_eq (f u) c) ts)
part_of ls f t ts c = by (pointwise int_eq (f t) c)
  where
    rest : List (List ℕ)
    rest = filter (λ u. pointwise int_eq (f u) c) ts

    by : (b : Bool) → size_of ls (cond b (t ∷ rest) rest) ≡ cond b (block_size ls t) 0 + size_of ls rest
    by true = refl
    by false = omega arith

pub sum_zero : (cs : List (List ℤ)) → sum_over (λ c. 0) cs ≡ 0
sum_zero [] = refl
sum_zero (c ∷ cs) = omega (arith, sum_zero cs)

pub sum_add : (f g : List ℤ → ℕ) (cs : List (List ℤ)) → sum_over (λ c. f c + g c) cs ≡ sum_over f cs + sum_over g cs
sum_add f g [] = refl
sum_add f g (c ∷ cs) = omega (arith, sum_add f g cs)

sum_alike : (f g : List ℤ → ℕ) (cs : List (List ℤ)) → ((c : List ℤ) → f c ≡ g c) → sum_over f cs ≡ sum_over g cs
sum_alike f g [] h = refl
sum_alike f g (c ∷ cs) h = omega (arith, h c, sum_alike f g cs h)

-- a charge that is not there counts for nothing, and one that is there counts once
pub part_none : (x : List ℤ) (n : ℕ) (cs : List (List ℤ)) → All (λ d. slice_cmp int_cmp x d ≡ Less) cs → sum_over (λ c. cond (pointwise int_eq x c) n 0) cs ≡ 0
part_none x n [] h = refl
part_none x n (c ∷ cs) h = by (pointwise int_eq x c) refl (part_none x n cs (λ k d lt. h (suc k) d (omega arith)))
  where
    by : (b : Bool) → pointwise int_eq x c ≡ b → sum_over (λ c. cond (pointwise int_eq x c) n 0) cs ≡ 0 → cond b n 0 + sum_over (λ c. cond (pointwise int_eq x c) n 0) cs ≡ 0
    by true e more =
        let same : x ≡ c = (signed_items x c).0 e in
        absurd (less_tied (sym (h 0 c (omega arith)) ∙ subst (λ y. slice_cmp int_cmp x y ≡ Equal) same (tied_itself charges_total x)))
      where
        less_tied : Less ≡ Equal → ⊥
        less_tied e = cc
    by false e more = omega (arith, more)

part_once : (x : List ℤ) (n : ℕ) (cs : List (List ℤ)) → Ascends cs → Contains cs x → sum_over (λ c. cond (pointwise int_eq x c) n 0) cs ≡ n
part_once x n [] a h = absurd (omega (arith, h.1))
part_once x n (c ∷ cs) a (zero, lt, e) =
    let same : x ≡ c = sym e in
    let here : pointwise int_eq x c ≡ true = (signed_items x c).1 same in
    let none : sum_over (λ d. cond (pointwise int_eq x d) n 0) cs ≡ 0 = part_none x n cs (subst (λ y. All (λ d. slice_cmp int_cmp y d ≡ Less) cs) e a.0) in
    ap (λ b. cond b n 0 + sum_over (λ d. cond (pointwise int_eq x d) n 0) cs) here ∙ omega (arith, none)
part_once x n (c ∷ cs) a (suc k, lt, e) =
    let there : Contains cs x = (k, omega arith, e) in
    let less : slice_cmp int_cmp c x ≡ Less = subst (λ y. slice_cmp int_cmp c y ≡ Less) e (a.0 k x (omega arith)) in
    let other : pointwise int_eq x c ≡ false = false_from_ne_true _ (λ t. less_tied (sym less ∙ subst (λ y. slice_cmp int_cmp c y ≡ Equal) (sym ((signed_items x c).0 t)) (tied_itself charges_total c))) in
    ap (λ b. cond b n 0 + sum_over (λ d. cond (pointwise int_eq x d) n 0) cs) other ∙ omega (arith, part_once x n cs a.1 there)
  where
    less_tied : Less ≡ Equal → ⊥
    less_tied e = cc

-- the sizes of all tuples, charge by charge
pub parts_sum : (ls : List LegValue) (f : List ℕ → List ℤ) (ts : List (List ℕ)) (cs : List (List ℤ)) → Ascends cs → ((t : List ℕ) → Contains ts t → Contains cs (f t)) → sum_over (λ c. size_of ls (filter (λ u. pointwise int_eq (f u) c) ts)) cs ≡ size_of ls ts
parts_sum ls f [] cs a h = sum_zero cs
parts_sum ls f (t ∷ ts) cs a h =
    sum_alike (λ c. size_of ls (filter (λ u. pointwise int_eq (f u) c) (t ∷ ts))) (λ c. part f (block_size ls) t c + size_of ls (filter (λ u. pointwise int_eq (f u) c) ts)) cs (part_of ls f t ts)
    ∙ (sum_add (part f (block_size ls) t) (λ c. size_of ls (filter (λ u. pointwise int_eq (f u) c) ts)) cs
    ∙ (ap (λ n. n + sum_over (λ c. size_of ls (filter (λ u. pointwise int_eq (f u) c) ts)) cs) (part_once (f t) (block_size ls t) cs a (h t (0, omega arith, refl)))
    ∙ ap (λ n. block_size ls t + n) (parts_sum ls f ts cs a (λ u c. h u (suc c.0, omega (arith, c.1), c.2)))))

-- ---- how many values there are

pub all_sizes : (ls : List LegValue) → size_of ls (tuples ls) ≡ number_of_values ls
all_sizes [] = omega arith
all_sizes (l ∷ ls) = from_sector (all_sizes ls) 0 (length l.sectors) l.sectors (λ k lt. ap (sector_at l.sectors) (zero-add k)) refl
  where
    n : ℕ
    n = size_of ls (tuples ls)

    from_sector : size_of ls (tuples ls) ≡ number_of_values ls → (i m : ℕ) (ps : List SectorValue) → ((k : ℕ) → k < length ps → sector_at l.sectors (i + k) ≡ sector_at ps k) → m ≡ length ps →
        size_of (l ∷ ls) (flat_map (λ s. map (λ t. s ∷ t) (tuples ls)) (upward i m)) ≡ total ps * number_of_values ls
    from_sector a i zero [] h e = omega arith
    from_sector a i zero (p ∷ ps) h e = absurd (omega arith)
    from_sector a i (suc m) [] h e = absurd (omega arith)
    from_sector a i (suc m) (p ∷ ps) h e =
        let dim : (sector_at l.sectors i).dim ≡ p.dim = ap (λ k. (sector_at l.sectors k).dim) (sym (add-zero i)) ∙ ap (λ (q : SectorValue). q.dim) (h 0 (omega arith)) in
        let here : size_of (l ∷ ls) (map (λ t. i ∷ t) (tuples ls)) ≡ p.dim * number_of_values ls = size_first l ls i (tuples ls) ∙ (ap (λ k. k * n) dim ∙ ap (λ k. p.dim * k) a) in
        let rest : size_of (l ∷ ls) (flat_map (λ s. map (λ t. s ∷ t) (tuples ls)) (upward (i + 1) m)) ≡ total ps * number_of_values ls =
        from_sector a (i + 1) m ps (λ k lt. ap (sector_at l.sectors) (one_more i k) ∙ h (suc k) (omega arith)) (omega arith) in
        let both : (p.dim + total ps) * number_of_values ls ≡ p.dim * number_of_values ls + total ps * number_of_values ls = add_mul p.dim (total ps) (number_of_values ls) in
        size_append (l ∷ ls) (map (λ t. i ∷ t) (tuples ls)) (flat_map (λ s. map (λ t. s ∷ t) (tuples ls)) (upward (i + 1) m)) ∙ omega (arith, here, rest, both)
      where
        one_more : (i k : ℕ) → i + 1 + k ≡ i + suc k
        one_more i k = omega arith

        add_mul : (a b d : ℕ) → (a + b) * d ≡ a * d + b * d
        add_mul a b d = mul_comm (a + b) d ∙ (mul_add d a b ∙ (ap (λ m. m + d * b) (mul_comm d a) ∙ ap (λ m. a * d + m) (mul_comm d b)))

length_upward : (i n : ℕ) → length (upward i n) ≡ n
length_upward i zero = refl
length_upward i (suc n) = ap suc (length_upward (i + 1) n)

pub values_long : (ls : List LegValue) (t : List ℕ) → length (values_in ls t) ≡ block_size ls t
values_long ls t = length-map (upward 0 (block_size ls t)) (values_at ls t) ∙ length_upward 0 (block_size ls t)

pub values_size : (ls : List LegValue) (ts : List (List ℕ)) → length (flat_map (values_in ls) ts) ≡ size_of ls ts
values_size ls [] = refl
values_size ls (t ∷ ts) = length-append (values_in ls t) (flat_map (values_in ls) ts) ∙ omega (arith, values_long ls t, values_size ls ts)

sectors_sum : (fs : List Factor) (ls : List LegValue) (arrow : Dir) (cs : List (List ℤ)) → total (map (sector_with fs ls arrow) cs) ≡ sum_over (λ c. size_of ls (tuples_with fs ls arrow c)) cs
sectors_sum fs ls arrow [] = refl
sectors_sum fs ls arrow (c ∷ cs) = omega (arith, values_size ls (tuples_with fs ls arrow c), sectors_sum fs ls arrow cs)

-- the sizes of the tuples of all charges are those of all tuples
pub charges_sum : (fs : List Factor) (ls : List LegValue) (arrow : Dir) → sum_over (λ c. size_of ls (tuples_with fs ls arrow c)) (fused_charges fs ls arrow) ≡ number_of_values ls
charges_sum fs ls arrow =
    parts_sum ls (fused_charge fs ls arrow) (tuples ls) (fused_charges fs ls arrow) (once_ascends (map (fused_charge fs ls arrow) (tuples ls))) (charge_occurs (fused_charge fs ls arrow) (tuples ls))
    ∙ all_sizes ls

-- the fused leg has as many values as the legs together
pub fused_total : (fs : List Factor) (ls : List LegValue) (arrow : Dir) → total (fused_sectors fs ls arrow) ≡ number_of_values ls
fused_total fs ls arrow = sectors_sum fs ls arrow (fused_charges fs ls arrow) ∙ charges_sum fs ls arrow

-- ---- tuples of one charge

same_filter : (p q : List ℕ → Bool) (ts : List (List ℕ)) → ((t : List ℕ) → p t ≡ q t) → filter p ts ≡ filter q ts
same_filter p q [] h = refl
same_filter p q (t ∷ ts) h = ap (λ b. cond b (t ∷ filter p ts) (filter p ts)) (h t) ∙ ap (λ us. cond (q t) (t ∷ us) us) (same_filter p q ts h)

turned_test : (fs : List Factor) (arrow : Dir) (n c : List ℤ) → IsGroup fs → IsCanonical fs n → IsCanonical fs c → pointwise int_eq (turned fs arrow n) c ≡ pointwise int_eq n (turned fs arrow c)
turned_test fs Out n c g h k = refl
turned_test fs In n c g h k =
    same_tests (pointwise int_eq (neg_charge fs n) c) (pointwise int_eq n (neg_charge fs c))
    (λ e. (signed_items n (neg_charge fs c)).1 (sym (neg_of_neg fs n g h) ∙ ap (neg_charge fs) ((signed_items (neg_charge fs n) c).0 e)))
    (λ e. (signed_items (neg_charge fs n) c).1 (ap (neg_charge fs) ((signed_items n (neg_charge fs c)).0 e) ∙ neg_of_neg fs c g k))

-- the tuples with a charge are those that the charge, turned back, admits
pub tuples_admitted : (fs : List Factor) (ls : List LegValue) (arrow : Dir) (c : List ℤ) → IsGroup fs → IsCanonical fs c → admitted fs ls (turned fs arrow c) ≡ tuples_with fs ls arrow c
tuples_admitted fs ls arrow c g k =
    same_filter (admits fs ls (turned fs arrow c)) (λ t. pointwise int_eq (fused_charge fs ls arrow t) c) (tuples ls)
    (λ t. sym (turned_test fs arrow (net fs ls t) c g (net_canonical fs ls t g) k))

-- ---- where the values of tuples begin

pub starts_more : (ls : List LegValue) (n : ℕ) (ts : List (List ℕ)) (t : List ℕ) → starts_from ls n (ts ++ (t ∷ [])) ≡ starts_from ls n ts ++ (record { tuple = t; start = n + size_of ls ts } ∷ [])
starts_more ls n [] t = ap (λ k. record { tuple = t; start = k } ∷ []) (sym (add-zero n))
starts_more ls n (u ∷ ts) t =
    ap (λ ss. record { tuple = u; start = n } ∷ ss)
    (starts_more ls (n + block_size ls u) ts t ∙ ap (λ k. starts_from ls (n + block_size ls u) ts ++ (record { tuple = t; start = k } ∷ [])) (regroup n (block_size ls u) (size_of ls ts)))
  where
    regroup : (a b c : ℕ) → a + b + c ≡ a + (b + c)
    regroup a b c = omega arith

pub starts_append : (ls : List LegValue) (n : ℕ) (ts us : List (List ℕ)) → starts_from ls n (ts ++ us) ≡ starts_from ls n ts ++ starts_from ls (n + size_of ls ts) us
starts_append ls n [] us = ap (λ k. starts_from ls k us) (sym (add-zero n))
starts_append ls n (t ∷ ts) us =
    ap (λ ss. record { tuple = t; start = n } ∷ ss)
    (starts_append ls (n + block_size ls t) ts us ∙ ap (λ k. starts_from ls (n + block_size ls t) ts ++ starts_from ls k us) (regroup n (block_size ls t) (size_of ls ts)))
  where
    regroup : (a b c : ℕ) → a + b + c ≡ a + (b + c)
    regroup a b c = omega arith

size_one : (ls : List LegValue) (ts : List (List ℕ)) (t : List ℕ) → size_of ls (ts ++ (t ∷ [])) ≡ size_of ls ts + block_size ls t
size_one ls ts t = size_append ls ts (t ∷ []) ∙ omega arith

pub size_take : (ls : List LegValue) (ts : List (List ℕ)) (i : ℕ) → size_of ls (take i ts) ≤ size_of ls ts
size_take ls ts zero = omega arith
size_take ls [] (suc i) = omega arith
size_take ls (t ∷ ts) (suc i) = omega (arith, size_take ls ts i)

-- one tuple more
pub size_more : (ls : List LegValue) (ts : List (List ℕ)) (i : ℕ) (t : List ℕ) → i < length ts → t ≡ get_or ts i t → size_of ls (take (i + 1) ts) ≡ size_of ls (take i ts) + block_size ls t
size_more ls ts i t lt e = ap (size_of ls) (take_more ts i t lt ∙ ap (λ u. take i ts ++ (u ∷ [])) (sym e)) ∙ size_one ls (take i ts) t

pub starts_next : (ls : List LegValue) (n : ℕ) (ts : List (List ℕ)) (i : ℕ) (t : List ℕ) (m : ℕ) → i < length ts → t ≡ get_or ts i t → m ≡ n + size_of ls (take i ts) →
    starts_from ls n (take (i + 1) ts) ≡ starts_from ls n (take i ts) ++ (record { tuple = t; start = m } ∷ [])
starts_next ls n ts i t m lt e at =
    ap (starts_from ls n) (take_more ts i t lt ∙ ap (λ u. take i ts ++ (u ∷ [])) (sym e))
    ∙ (starts_more ls n (take i ts) t ∙ ap (λ k. starts_from ls n (take i ts) ++ (record { tuple = t; start = k } ∷ [])) (sym at))

-- the i-th tuple, and that its block fits
pub record IsFitting (ls : List LegValue) (ts : List (List ℕ)) (i : ℕ) (t : List ℕ) : Type 0 where
  pub tuple : IsTuple ls t
  pub more : size_of ls (take (i + 1) ts) ≡ size_of ls (take i ts) + block_size ls t
  pub below : size_of ls (take i ts) + block_size ls t ≤ size_of ls ts

pub fitting : (ls : List LegValue) (ts : List (List ℕ)) (i : ℕ) (t u : List ℕ) → All (IsTuple ls) ts → i < length ts → t ≡ get_or ts i t → u ≡ t → IsFitting ls ts i u
fitting ls ts i t u h lt e same =
    let more = size_more ls ts i t lt e in
    let at : IsFitting ls ts i t = record {
      tuple = subst (IsTuple ls) (sym e) (h i t lt);
      more = more;
      below = subst (λ n. n ≤ size_of ls ts) more (size_take ls ts (i + 1));
    } in
    subst (IsFitting ls ts i) (sym same) at
