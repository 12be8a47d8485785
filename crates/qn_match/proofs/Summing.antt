-- Sums over lists.
use Rattle.std.proofs.Common.{◌≡◌, ◌≢◌, ◌≤◌, ◌<◌, ◌+◌, ◌*◌, ◌==◌, ℕ, Bool, true, false, cond, zero, suc, List, [], ◌∷◌, length, get_or, set, take, arith, refl, sym, ap, ap₂, ◌∙◌, ◌⊎◌, inl, inr}
use Rattle.std.specs.List.{All, sum_by}
use Rattle.std.proofs.Math.Nat.{mul-le-mul_left, mul_comm}
use Rattle.std.proofs.lemmas.Bool.Decides.{eqb_tells}
use Rattle.std.proofs.lemmas.List.{get_or-set_same, get_or-set_other, length-set}
use Rattle.std.proofs.lemmas.List.Sums.{sum_by-cons, sum_by_more, sum_by_more_le}
use Rattle.std.proofs.lemmas.List.Elements.{All-tail, All-take}
use Rattle.qn_match.specs.Keys.{AreSums}

pub sum_less : {X : Type 0} (f g : X → ℕ) (xs : List X) → All (λ x. f x ≤ g x) xs → sum_by f xs ≤ sum_by g xs
sum_less f g [] h = omega arith
sum_less f g (x ∷ xs) h = omega (arith, sum_by-cons f x xs, sum_by-cons g x xs, h 0 x (omega arith), sum_less f g xs (All-tail (λ y. f y ≤ g y) x xs h))

pub sum_same : {X : Type 0} (f g : X → ℕ) (xs : List X) → All (λ x. f x ≡ g x) xs → sum_by f xs ≡ sum_by g xs
sum_same f g [] h = refl
sum_same f g (x ∷ xs) h = omega (arith, sum_by-cons f x xs, sum_by-cons g x xs, h 0 x (omega arith), sum_same f g xs (All-tail (λ y. f y ≡ g y) x xs h))

pub sum_scaled : {X : Type 0} (c : ℕ) (f : X → ℕ) (xs : List X) → sum_by (λ x. c * f x) xs ≡ c * sum_by f xs
sum_scaled c f [] = omega arith
sum_scaled c f (x ∷ xs) =
    let e : c * (f x + sum_by f xs) ≡ c * f x + c * sum_by f xs = mul_add c (f x) (sum_by f xs) in
    omega (arith, sum_by-cons (λ y. c * f y) x xs, ap (λ n. c * n) (sum_by-cons f x xs), e, sum_scaled c f xs)
  where
    mul_add : (a b d : ℕ) → a * (b + d) ≡ a * b + a * d
    mul_add a b d = grind arith

pub sum_zero : {X : Type 0} (xs : List X) → sum_by (λ (x : X). 0) xs ≡ 0
sum_zero {X} [] = refl
sum_zero {X} (x ∷ xs) = omega (arith, sum_by-cons (λ (y : X). 0) x xs, sum_zero xs)

sum_plus : {X : Type 0} (f g : X → ℕ) (xs : List X) → sum_by (λ x. f x + g x) xs ≡ sum_by f xs + sum_by g xs
sum_plus f g [] = refl
sum_plus f g (x ∷ xs) = omega (arith, sum_by-cons (λ y. f y + g y) x xs, sum_by-cons f x xs, sum_by-cons g x xs, sum_plus f g xs)

-- the order of two sums
pub sum_swap : {X Y : Type 0} (f : X → Y → ℕ) (xs : List X) (ys : List Y) → sum_by (λ x. sum_by (f x) ys) xs ≡ sum_by (λ y. sum_by (λ x. f x y) xs) ys
sum_swap f [] ys = sym (sum_zero ys)
sum_swap {X} {Y} f (x ∷ xs) ys =
    sum_by-cons (λ z. sum_by (f z) ys) x xs
    ∙ (ap (λ n. sum_by (f x) ys + n) (sum_swap f xs ys)
    ∙ (sym (sum_plus (f x) (λ y. sum_by (λ z. f z y) xs) ys)
    ∙ sum_same (λ y. f x y + sum_by (λ z. f z y) xs) (λ y. sum_by (λ z. f z y) (x ∷ xs)) ys (λ k d lt. sym (sum_by-cons (λ z. f z (get_or ys k d)) x xs))))

-- ---- sums by key

-- the sums after one tuple more
pub sums_more : (key size : List ℕ → ℕ) (n : ℕ) (us : List (List ℕ)) (i : ℕ) (u : List ℕ) (sums new : List ℕ) (k s : ℕ) → i < length us → u ≡ get_or us i u → k ≡ key u → s ≡ size u → k < n →
    new ≡ set sums k (get_or sums k 0 + s) → AreSums key size n (take i us) sums → AreSums key size n (take (i + 1) us) new
sums_more key size n us i u sums new k s lt is e f small m h = record {
  count = ap (λ xs. length xs) m ∙ (length-set sums k (get_or sums k 0 + s) ∙ h.count);
  each = λ j below.
      let f_j : List ℕ → ℕ = λ v. cond (key v == j) (size v) 0 in
      let step : sum_by f_j (take (i + 1) us) ≡ sum_by f_j (take i us) + f_j (get_or us i u) = sum_by_more f_j us i u lt in
      let at : f_j (get_or us i u) ≡ cond (k == j) s 0 = ap f_j (sym is) ∙ ap₂ (λ a b. cond (a == j) b 0) (sym e) (sym f) in
      ap (λ xs. get_or xs j 0) m ∙ (now j below (eqb_tells k j) ∙ (ap (λ a. get_or sums j 0 + a) (sym at) ∙ (ap (λ a. a + f_j (get_or us i u)) (h.each j below) ∙ sym step)));
}
  where
    now : (j : ℕ) → j < n → ((k == j) ≡ true) × (k ≡ j) ⊎ ((k == j) ≡ false) × (k ≢ j) → get_or (set sums k (get_or sums k 0 + s)) j 0 ≡ get_or sums j 0 + cond (k == j) s 0
    now j below (inl p) =
        let small : k < length sums = omega (arith, h.count) in
        ap (λ a. get_or (set sums k (get_or sums k 0 + s)) a 0) (sym p.1) ∙ (get_or-set_same sums k (get_or sums k 0 + s) 0 small ∙ ap₂ (λ a b. get_or sums a 0 + cond b s 0) p.1 (sym p.0))
    now j below (inr p) =
        let same : get_or sums j 0 ≡ get_or sums j 0 + 0 = omega arith in
        get_or-set_other sums k j (get_or sums k 0 + s) 0 (λ q. p.1 (sym q)) ∙ (same ∙ ap (λ b. get_or sums j 0 + cond b s 0) (sym p.0))

-- a sum by key and one size more are within the whole sum
pub sums_small : (key size whole : List ℕ → ℕ) (n c : ℕ) (us : List (List ℕ)) (i : ℕ) (u : List ℕ) (sums : List ℕ) (k s : ℕ) → i < length us → u ≡ get_or us i u → s ≤ whole u → All (λ v. size v ≤ whole v) us → sum_by whole us ≤ c → k < n →
    AreSums key size n (take i us) sums → get_or sums k 0 + s ≤ c
sums_small key size whole n c us i u sums k s lt is less all bound below h =
    let f : List ℕ → ℕ = λ v. cond (key v == k) (size v) 0 in
    let some : sum_by f (take i us) ≤ sum_by whole (take i us) = sum_less f whole (take i us) (λ j d small. part (key (get_or (take i us) j d) == k) (size (get_or (take i us) j d)) (whole (get_or (take i us) j d)) (taken j d small)) in
    let step : sum_by whole (take i us) + whole (get_or us i u) ≤ sum_by whole us = sum_by_more_le whole us i u lt in
    omega (arith, h.each k below, some, step, ap whole is, less, bound)
  where
    part : (b : Bool) (m w : ℕ) → m ≤ w → cond b m 0 ≤ w
    part true m w le = le
    part false m w le = omega arith

    taken : (j : ℕ) (d : List ℕ) → j < length (take i us) → size (get_or (take i us) j d) ≤ whole (get_or (take i us) j d)
    taken j d small = All-take (λ v. size v ≤ whole v) i us all j d small

-- a sum of products and one product more
pub products_small : (a b : List ℕ → ℕ) (m c : ℕ) (us : List (List ℕ)) (i : ℕ) (u : List ℕ) → i < length us → u ≡ get_or us i u → ((t : List ℕ) → b t ≤ m) → sum_by a us ≤ c → sum_by (λ t. a t * b t) (take i us) + a u * b u ≤ m * c
products_small a b m c us i u lt is small bound =
    let f : List ℕ → ℕ = λ t. a t * b t in
    let more : sum_by f (take i us) + f (get_or us i u) ≤ sum_by f us = sum_by_more_le f us i u lt in
    let less : sum_by f us ≤ sum_by (λ t. m * a t) us = sum_less f (λ t. m * a t) us (λ k d below. both (a (get_or us k d)) (b (get_or us k d)) m (small (get_or us k d))) in
    let scaled : sum_by (λ t. m * a t) us ≡ m * sum_by a us = sum_scaled m a us in
    let top : m * sum_by a us ≤ m * c = mul-le-mul_left m bound in
    omega (arith, more, ap f is, less, scaled, top)
  where
    both : (x y n : ℕ) → y ≤ n → x * y ≤ n * x
    both x y n le = let e : x * y ≤ x * n = mul-le-mul_left x le in omega (arith, e, mul_comm x n)

pub read_small : (ns : List ℕ) (c k : ℕ) → All (λ n. n ≤ c) ns → get_or ns k 0 ≤ c
read_small [] c k h = omega arith
read_small (n ∷ ns) c zero h = h 0 n (omega arith)
read_small (n ∷ ns) c (suc k) h = read_small ns c k (All-tail (λ m. m ≤ c) n ns h)
