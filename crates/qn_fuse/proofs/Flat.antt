-- Lists of lists, and numbers row by row.
use Rattle.std.proofs.Common.{◌≡◌, ℕ, zero, suc, ◌+◌, ◌*◌, ◌≤◌, ◌<◌, List, [], ◌∷◌, ◌++◌, length, get_or, map, flat_map, arith, refl, ap, ap₂, ◌∙◌, sym}
use Rattle.std.proofs.Math.Nat.{add-mul}
use Rattle.std.proofs.lemmas.Grind.{flat_map-append}
use Rattle.qn_index.specs.Tuples.{upward}

pub map-map : {A B C : Type 0} (g : B → C) (f : A → B) (xs : List A) → map g (map f xs) ≡ map (λ x. g (f x)) xs
map-map g f [] = refl
map-map g f (x ∷ xs) = ap (λ ys. g (f x) ∷ ys) (map-map g f xs)

map-append : {A B : Type 0} (f : A → B) (xs ys : List A) → map f (xs ++ ys) ≡ map f xs ++ map f ys
map-append f [] ys = refl
map-append f (x ∷ xs) ys = ap (λ zs. f x ∷ zs) (map-append f xs ys)

pub map-flat : {A B C : Type 0} (g : B → C) (f : A → List B) (xs : List A) → map g (flat_map f xs) ≡ flat_map (λ x. map g (f x)) xs
map-flat g f [] = refl
map-flat g f (x ∷ xs) = map-append g (f x) (flat_map f xs) ∙ ap (λ ys. map g (f x) ++ ys) (map-flat g f xs)

pub flat-map : {A B C : Type 0} (g : B → List C) (f : A → B) (xs : List A) → flat_map g (map f xs) ≡ flat_map (λ x. g (f x)) xs
flat-map g f [] = refl
flat-map g f (x ∷ xs) = ap (λ ys. g (f x) ++ ys) (flat-map g f xs)

pub flat-flat : {A B C : Type 0} (g : B → List C) (f : A → List B) (xs : List A) → flat_map g (flat_map f xs) ≡ flat_map (λ x. flat_map g (f x)) xs
flat-flat g f [] = refl
flat-flat g f (x ∷ xs) = flat_map-append g (f x) (flat_map f xs) ∙ ap (λ ys. flat_map g (f x) ++ ys) (flat-flat g f xs)

pub map_same : {A B : Type 0} (f g : A → B) (xs : List A) → ((x : A) → f x ≡ g x) → map f xs ≡ map g xs
map_same f g [] h = refl
map_same f g (x ∷ xs) h = ap₂ ◌∷◌ (h x) (map_same f g xs h)

pub map_upward : {A : Type 0} (f g : ℕ → A) (i n : ℕ) → ((k : ℕ) → i ≤ k → k < i + n → f k ≡ g k) → map f (upward i n) ≡ map g (upward i n)
map_upward f g i zero h = refl
map_upward f g i (suc n) h = ap₂ ◌∷◌ (h i (omega arith) (omega arith)) (map_upward f g (i + 1) n (λ k l u. h k (omega arith) (omega arith)))

pub flat_upward : {A : Type 0} (f g : ℕ → List A) (i n : ℕ) → ((k : ℕ) → i ≤ k → k < i + n → f k ≡ g k) → flat_map f (upward i n) ≡ flat_map g (upward i n)
flat_upward f g i zero h = refl
flat_upward f g i (suc n) h = ap₂ ◌++◌ (h i (omega arith) (omega arith)) (flat_upward f g (i + 1) n (λ k l u. h k (omega arith) (omega arith)))

pub upward_shift : (a i n : ℕ) → map (λ k. a + k) (upward i n) ≡ upward (a + i) n
upward_shift a i zero = refl
upward_shift a i (suc n) = ap (λ ks. (a + i) ∷ ks) (upward_shift a (i + 1) n ∙ ap (λ m. upward m n) (same a i))
  where
    same : (a i : ℕ) → a + (i + 1) ≡ a + i + 1
    same a i = omega arith

pub upward-append : (i m n : ℕ) → upward i (m + n) ≡ upward i m ++ upward (i + m) n
upward-append i zero n = ap₂ upward (plain i) (none n)
  where
    plain : (i : ℕ) → i ≡ i + 0
    plain i = omega arith

    none : (n : ℕ) → 0 + n ≡ n
    none n = omega arith
upward-append i (suc m) n = ap (upward i) (one m n) ∙ ap (λ ks. i ∷ ks) (upward-append (i + 1) m n ∙ ap (λ k. upward (i + 1) m ++ upward k n) (next i m))
  where
    one : (m n : ℕ) → suc m + n ≡ suc (m + n)
    one m n = omega arith

    next : (i m : ℕ) → i + 1 + m ≡ i + suc m
    next i m = omega arith

-- s rows of m numbers, the first of them the i-th
pub upward_rows : (i s m : ℕ) → upward (i * m) (s * m) ≡ flat_map (λ k. upward (k * m) m) (upward i s)
upward_rows i zero m = ap (upward (i * m)) (nothing m)
  where
    nothing : (m : ℕ) → 0 * m ≡ 0
    nothing m = omega arith
upward_rows i (suc s) m =
    ap (upward (i * m)) (more s m) ∙ upward-append (i * m) m (s * m)
    ∙ ap (λ ks. upward (i * m) m ++ ks) (ap (λ k. upward k (s * m)) (next i m) ∙ upward_rows (i + 1) s m)
  where
    more : (s m : ℕ) → suc s * m ≡ m + s * m
    more s m = omega arith

    next : (i m : ℕ) → i * m + m ≡ (i + 1) * m
    next i m = let e : (i + 1) * m ≡ i * m + 1 * m = add-mul i 1 m in omega (arith, e)

pub at_upward : {A : Type 0} (f : ℕ → A) (i n k : ℕ) (d : A) → k < n → get_or (map f (upward i n)) k d ≡ f (i + k)
at_upward f i zero k d lt = absurd (omega arith)
at_upward f i (suc n) zero d lt = ap f (plain i)
  where
    plain : (i : ℕ) → i ≡ i + 0
    plain i = omega arith
at_upward f i (suc n) (suc k) d lt = at_upward f (i + 1) n k d (omega arith) ∙ ap f (next i k)
  where
    next : (i k : ℕ) → i + 1 + k ≡ i + suc k
    next i k = omega arith

pub get_map : {A B : Type 0} (f : A → B) (xs : List A) (k : ℕ) (d : A) (e : B) → k < length xs → get_or (map f xs) k e ≡ f (get_or xs k d)
get_map f [] k d e lt = absurd (omega arith)
get_map f (x ∷ xs) zero d e lt = refl
get_map f (x ∷ xs) (suc k) d e lt = get_map f xs k d e (omega arith)

-- a list read place by place
pub read_all : {A : Type 0} (xs : List A) (d : A) → map (λ k. get_or xs k d) (upward 0 (length xs)) ≡ xs
read_all [] d = refl
read_all (x ∷ xs) d =
    ap (λ ys. x ∷ ys) (ap (map (λ k. get_or (x ∷ xs) k d)) (sym (upward_shift 1 0 (length xs))) ∙ map-map (λ k. get_or (x ∷ xs) k d) (λ k. 1 + k) (upward 0 (length xs))
    ∙ map_same (λ k. get_or (x ∷ xs) (1 + k) d) (λ k. get_or xs k d) (upward 0 (length xs)) (λ k. ap (λ n. get_or (x ∷ xs) n d) (one k)) ∙ read_all xs d)
  where
    one : (k : ℕ) → 1 + k ≡ suc k
    one k = omega arith
