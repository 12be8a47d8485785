-- Legs and what belongs to them, column by column, in another order.
use Rattle.std.proofs.Common.{◌≡◌, ◌==◌, ℕ, suc, ◌+◌, ◌*◌, ◌<◌, ℤ, Bool, true, false, List, [], ◌∷◌, length, map, get_or, All, arith, refl, ap, ap₂, ◌∙◌, sym, subst, ◌||◌}
use Rattle.std.specs.List.{range_with_len}
use Rattle.std.proofs.lemmas.List.FromFn.{get_or-range_with_len, length-range_with_len}
use Rattle.std.proofs.lemmas.Bool.{eqb-true}
use Rattle.qn_sign.specs.Sign.{is_in, Perm}
use Rattle.qn_sign.specs.Sign.Perm.{none, keep, swap, then_by}
use Rattle.qn_sign.specs.Positions.{positions}
use Rattle.qn_sign.proofs.Positions.{nat_test, is_in-at}
use Rattle.qn_sign.proofs.Order.{is_in-perm}
use Rattle.qn_charge.specs.declared.factor.Factor.{Factor}
use Rattle.qn_charge.specs.Charges.{sum_charge, IsGroup}
use Rattle.qn_charge.specs.Laws.{associative_charge, commutative_charge}
use Rattle.qn_index.specs.Legs.{LegValue, sector_at, sector_of, offset_in, total}
use Rattle.qn_index.specs.Tuples.{net, signed, IsTuple}
use Rattle.qn_index.specs.Places.{block_size, IsInner, IsValues, sectors_at}
use Rattle.qn_value.specs.Local.{picked}
use Rattle.qn_block.specs.Blocked.{offsets_at}

-- all elements in their own order
pub picked_all : {A : Type 0} (d : A) (xs : List A) → picked d xs (positions (length xs)) ≡ xs
picked_all {A} d xs = from xs (λ i. get_or xs i d) 0 (λ i h. ap (λ k. get_or xs k d) (omega arith))
  where
    from : (ys : List A) (f : ℕ → A) (a : ℕ) → ((i : ℕ) → i < length ys → f (a + i) ≡ get_or ys i d) → map f (range_with_len a (length ys)) ≡ ys
    from [] f a h = refl
    from (y ∷ ys) f a h =
        ap₂ (λ z zs. z ∷ zs) (ap f (omega arith) ∙ h 0 (omega arith))
        (from ys f (a + 1) (λ i l. ap f (omega arith) ∙ h (suc i) (omega arith)))

positions_below : (n : ℕ) → All (λ k. k < n) (positions n)
positions_below n i j lt = let m : i < n = omega (arith, length-range_with_len 0 n) in omega (arith, get_or-range_with_len 0 n i j m)

-- the same elements at positions below n
pub map_within : {A : Type 0} (n : ℕ) (f g : ℕ → A) (ks : List ℕ) → All (λ k. k < n) ks → ((k : ℕ) → k < n → f k ≡ g k) → map f ks ≡ map g ks
map_within n f g [] h e = refl
map_within n f g (k ∷ ks) h e = ap₂ (λ z zs. z ∷ zs) (e k (h 0 0 (omega arith))) (map_within n f g ks (λ i d lt. h (suc i) d (omega arith)) e)

-- lists that are the same at each position of an order are the same
same_there : {A : Type 0} (f g : ℕ → A) (ks : List ℕ) (k : ℕ) → map f ks ≡ map g ks → is_in ◌==◌ k ks ≡ true → f k ≡ g k
same_there f g [] k e h = absurd (cc h)
same_there f g (m ∷ ks) k e h = go (k == m) refl h (λ i. same_there f g ks k (cc e) i)
  where
    go : (b : Bool) → (k == m) ≡ b → (b || is_in ◌==◌ k ks) ≡ true → (is_in ◌==◌ k ks ≡ true → f k ≡ g k) → f k ≡ g k
    go true s i more = let at : k ≡ m = eqb-true k m s in ap f at ∙ (cc e ∙ ap g (sym at))
    go false s i more = more i

pub picked_only : {A : Type 0} (d : A) (xs ys : List A) (order : List ℕ) → length ys ≡ length xs → Perm (positions (length xs)) order → picked d xs order ≡ picked d ys order → xs ≡ ys
picked_only d xs ys order len p e =
    let n : ℕ = length xs in
    sym (picked_all d xs)
    ∙ (map_within n (λ k. get_or xs k d) (λ k. get_or ys k d) (positions n)
    (positions_below n)
    (λ k lt.
    let here : get_or (positions n) k 0 ≡ k = get_or-range_with_len 0 n k 0 lt ∙ omega arith in
    same_there (λ j. get_or xs j d) (λ j. get_or ys j d) order k e
    (sym (is_in-perm ◌==◌ k p) ∙ subst (λ j. is_in ◌==◌ j (positions n) ≡ true) here (is_in-at ◌==◌ nat_test (positions n) k 0 (omega (arith, length-range_with_len 0 n)))))
    ∙ (ap (λ m. picked d ys (positions m)) (sym len) ∙ picked_all d ys))

pub swap_times : (a b c : ℕ) → a * (b * c) ≡ b * (a * c)
swap_times a b c = grind arith

pub swap_charges : (fs : List Factor) (a b c : List ℤ) → IsGroup fs → sum_charge fs a (sum_charge fs b c) ≡ sum_charge fs b (sum_charge fs a c)
swap_charges fs a b c g =
    sym (associative_charge fs a b c g) ∙ (ap (λ x. sum_charge fs x c) (commutative_charge fs a b) ∙ associative_charge fs b a c g)

-- the net charge does not depend on the order of the legs
pub net_perm : (fs : List Factor) (l : ℕ → LegValue) (s : ℕ → ℕ) {ks ms : List ℕ} → IsGroup fs → Perm ks ms → net fs (map l ks) (map s ks) ≡ net fs (map l ms) (map s ms)
net_perm fs l s g none = refl
net_perm fs l s g (keep {x = k} p) = ap (sum_charge fs (signed fs (l k) (s k))) (net_perm fs l s g p)
net_perm fs l s g (swap {x = x} {y = y} {xs = ks}) = swap_charges fs (signed fs (l x) (s x)) (signed fs (l y) (s y)) (net fs (map l ks) (map s ks)) g
net_perm fs l s g (then_by p q) = net_perm fs l s g p ∙ net_perm fs l s g q

-- nor does the size of a block
pub size_perm : (l : ℕ → LegValue) (s : ℕ → ℕ) {ks ms : List ℕ} → Perm ks ms → block_size (map l ks) (map s ks) ≡ block_size (map l ms) (map s ms)
size_perm l s none = refl
size_perm l s (keep {x = k} p) = ap (λ n. (sector_at (l k).sectors (s k)).dim * n) (size_perm l s p)
size_perm l s (swap {x = x} {y = y} {xs = ks}) = swap_times (sector_at (l x).sectors (s x)).dim (sector_at (l y).sectors (s y)).dim (block_size (map l ks) (map s ks))
size_perm l s (then_by p q) = size_perm l s p ∙ size_perm l s q

-- tuples, offsets and values in another order
pub tuple_columns : (n : ℕ) (l : ℕ → LegValue) (s : ℕ → ℕ) (ks : List ℕ) → All (λ k. k < n) ks → ((k : ℕ) → k < n → s k < length (l k).sectors) → IsTuple (map l ks) (map s ks)
tuple_columns n l s [] h t = refl
tuple_columns n l s (k ∷ ks) h t = (t k (h 0 0 (omega arith)), tuple_columns n l s ks (λ i d lt. h (suc i) d (omega arith)) t)

pub inner_columns : (n : ℕ) (l : ℕ → LegValue) (s o : ℕ → ℕ) (ks : List ℕ) → All (λ k. k < n) ks → ((k : ℕ) → k < n → o k < (sector_at (l k).sectors (s k)).dim) → IsInner (map l ks) (map s ks) (map o ks)
inner_columns n l s o [] h t = refl
inner_columns n l s o (k ∷ ks) h t = (t k (h 0 0 (omega arith)), inner_columns n l s o ks (λ i d lt. h (suc i) d (omega arith)) t)

pub values_columns : (n : ℕ) (l : ℕ → LegValue) (x : ℕ → ℕ) (ks : List ℕ) → All (λ k. k < n) ks → ((k : ℕ) → k < n → x k < total (l k).sectors) → IsValues (map l ks) (map x ks)
values_columns n l x [] h t = refl
values_columns n l x (k ∷ ks) h t = (t k (h 0 0 (omega arith)), values_columns n l x ks (λ i d lt. h (suc i) d (omega arith)) t)

pub sectors_columns : (l : ℕ → LegValue) (x : ℕ → ℕ) (ks : List ℕ) → sectors_at (map l ks) (map x ks) ≡ map (λ k. sector_of (l k).sectors (x k)) ks
sectors_columns l x [] = refl
sectors_columns l x (k ∷ ks) = ap (λ ys. sector_of (l k).sectors (x k) ∷ ys) (sectors_columns l x ks)

pub offsets_columns : (l : ℕ → LegValue) (x : ℕ → ℕ) (ks : List ℕ) → offsets_at (map l ks) (map x ks) ≡ map (λ k. offset_in (l k).sectors (x k)) ks
offsets_columns l x [] = refl
offsets_columns l x (k ∷ ks) = ap (λ ys. offset_in (l k).sectors (x k) ∷ ys) (offsets_columns l x ks)

map_itself : (ks : List ℕ) → map (λ k. k) ks ≡ ks
map_itself [] = refl
map_itself (k ∷ ks) = ap (λ ms. k ∷ ms) (map_itself ks)

-- positions in their own order
pub in_order_from : (ks : List ℕ) → ((k : ℕ) → k < length ks → get_or ks k 0 ≡ k) → ks ≡ positions (length ks)
in_order_from ks h =
    sym (picked_all 0 ks) ∙ (map_within (length ks) (λ k. get_or ks k 0) (λ k. k) (positions (length ks)) (positions_below (length ks)) h ∙ map_itself (positions (length ks)))

pub in_order_at : (ks : List ℕ) (k : ℕ) → ks ≡ positions (length ks) → k < length ks → get_or ks k 0 ≡ k
in_order_at ks k e lt = ap (λ ms. get_or ms k 0) e ∙ (get_or-range_with_len 0 (length ks) k 0 lt ∙ omega arith)
