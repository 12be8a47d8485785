-- Magnitudes as Gaussian integers: a sum of magnitudes is a contraction without signs.
use Rattle.std.proofs.Common.{◌≡◌, ℕ, zero, suc, ◌+◌, ◌*◌, pos, Bool, true, false, ◌&&◌, cond, List, [], ◌∷◌, refl, sym, ◌∙◌, ap, ap₂, map, get_or, count_by, arith}
use mathlib.Core.Path.{fun_ext}
use Rattle.std.proofs.lemmas.List.Sums.{sum_by-cons}
use Rattle.qn_sign.specs.Sign.{exchange_sign, exchanges, is_odd, xor, stands_before}
use Rattle.qn_sign.specs.Positions.{is_odd_at}
use Rattle.qn_gauss.specs.Gaussian.{Gaussian, zero_g, add_g, mag, signed}
use Rattle.qn_index.specs.Legs.{LegValue}
use Rattle.qn_index.specs.Places.{offset_at, sectors_at}
use Rattle.qn_value.specs.Networks.{End, Node, Bond, Assignment, Parities, assign, same_end, odd_end, twist_sign, sign, word, goal, sums, sum_below}
use Rattle.qn_value.specs.Tensors.{BlockValue, same_values, entry_in}
use Rattle.qn_value.specs.Blocks.{HaveTuples, IsNewBlock, AreDistinctBlocks}
use Rattle.qn_value.specs.Magnitudes.{total_below, total}
use Rattle.qn_strides.specs.Strides.{SummedValue, sum_along, total_along}

-- ---- natural numbers as Gaussian integers

abbrev pub real : ℕ → Gaussian
real n = record { re = pos n; im = pos 0 }

pub real_add : (m n : ℕ) → real (m + n) ≡ add_g (real m) (real n)
unfolding add_g
real_add m n = refl

pub real_zero : real 0 ≡ zero_g
unfolding zero_g
real_zero = refl

pub real_one : (m n : ℕ) → real m ≡ real n → m ≡ n
real_one m n e = number (ap (λ (z : Gaussian). z.re) e)
  where
    number : {i j : ℕ} → pos i ≡ pos j → i ≡ j
    number p = cc p

pub real_below : (n : ℕ) (f : ℕ → ℕ) → real (total_below n f) ≡ sum_below n (λ v. real (f v))
real_below zero f = real_zero
real_below (suc n) f = real_add (total_below n f) (f n) ∙ ap (λ z. add_g z (real (f n))) (real_below n f)

pub real_total : (bs : List Bond) (f : Assignment → ℕ) (a : Assignment) → real (total bs f a) ≡ sums bs (λ c. real (f c)) a
real_total [] f a = refl
real_total (b ∷ bs) f a =
    real_below b.dim (λ v. total bs f (assign a b.label v)) ∙ ap (sum_below b.dim) (fun_ext (λ v. real_total bs f (assign a b.label v)))

pub real_along : (g : ℕ → ℕ) (xs : List SummedValue) (p : ℕ) → real (total_along g xs p) ≡ sum_along (λ k. real (g k)) xs p
real_along g [] p = refl
real_along g (x ∷ xs) p =
    real_below x.len (λ v. total_along g xs (p + v * x.stride)) ∙ ap (sum_below x.len) (fun_ext (λ v. real_along g xs (p + v * x.stride)))

-- ---- without odd values there is no sign

abbrev pub no_parity : Parities
no_parity l v = false

pub count_none : {A : Type 0} (p : A → Bool) (xs : List A) → ((x : A) → p x ≡ false) → count_by p xs ≡ 0
count_none p [] h = refl
count_none p (x ∷ xs) h = sum_by-cons (λ y. cond (p y) 1 0) x xs ∙ both (ap (λ b. cond b 1 0) (h x)) (count_none p xs h)
  where
    both : {a b : ℕ} → a ≡ 0 → b ≡ 0 → a + b ≡ 0
    both e f = omega (arith, e, f)

pub exchanges_none : {E : Type 0} (same : E → E → Bool) (odd : E → Bool) (w g : List E) → ((e : E) → odd e ≡ false) → exchanges same odd w g ≡ 0
exchanges_none same odd w [] h = refl
exchanges_none same odd w (x ∷ g) h = both (count_none (λ y. odd x && odd y && stands_before same w y x) g (λ y. λ i. h x i && odd y && stands_before same w y x)) (exchanges_none same odd w g h)
  where
    both : {a b : ℕ} → a ≡ 0 → b ≡ 0 → a + b ≡ 0
    both e f = omega (arith, e, f)

pub exchange_none : {E : Type 0} (same : E → E → Bool) (odd : E → Bool) (w g : List E) → ((e : E) → odd e ≡ false) → exchange_sign same odd w g ≡ false
exchange_none same odd w g h = ap is_odd (exchanges_none same odd w g h)

pub twist_none : (bs : List Bond) (a : Assignment) → twist_sign no_parity bs a ≡ false
twist_none [] a = refl
twist_none (b ∷ bs) a = none_of b.twisted (twist_sign no_parity bs a) (twist_none bs a)
  where
    none_of : (p r : Bool) → r ≡ false → xor (p && false) r ≡ false
    none_of p r e = grind arith

pub sign_none : (ns : List Node) (bs : List Bond) (opens : List End) (a : Assignment) → sign no_parity ns bs opens a ≡ false
sign_none ns bs opens a =
    ap₂ xor (twist_none bs a) (exchange_none same_end (odd_end no_parity a) (word ns) (goal bs opens) (λ e. refl))

pub odd_none : (n : ℕ) (xs : List ℕ) → is_odd_at (map (λ i. false) xs) n ≡ false
odd_none n [] = refl
odd_none zero (x ∷ xs) = refl
odd_none (suc n) (x ∷ xs) = odd_none n xs

-- ---- magnitudes in place of entries

abbrev pub size_of : Gaussian → Gaussian
size_of z = real (mag z)

pub size_zero : size_of zero_g ≡ zero_g
unfolding zero_g
size_zero = refl

abbrev pub size_block : BlockValue → BlockValue
size_block b = record { tuple = b.tuple; entries = map size_of b.entries }

pub size_entry : (es : List Gaussian) (k : ℕ) → size_of (get_or es k zero_g) ≡ get_or (map size_of es) k zero_g
size_entry [] k = size_zero
size_entry (e ∷ es) zero = refl
size_entry (e ∷ es) (suc k) = size_entry es k

pub size_in : (ls : List LegValue) (bs : List BlockValue) (xs : List ℕ) → size_of (entry_in ls bs xs) ≡ entry_in ls (map size_block bs) xs
size_in ls [] xs = size_zero
size_in ls (b ∷ bs) xs = go (same_values b.tuple (sectors_at ls xs)) (size_in ls bs xs)
  where
    go : (c : Bool) → size_of (entry_in ls bs xs) ≡ entry_in ls (map size_block bs) xs →
        size_of (cond c (get_or b.entries (offset_at ls xs) zero_g) (entry_in ls bs xs)) ≡ cond c (get_or (map size_of b.entries) (offset_at ls xs) zero_g) (entry_in ls (map size_block bs) xs)
    go true e = size_entry b.entries (offset_at ls xs)
    go false e = e

pub size_have : (ls : List LegValue) (bs : List BlockValue) → HaveTuples ls bs → HaveTuples ls (map size_block bs)
size_have ls [] h = tt
size_have ls (b ∷ bs) h = (h.0, size_have ls bs h.1)

pub size_new : (b : BlockValue) (bs : List BlockValue) → IsNewBlock b bs → IsNewBlock (size_block b) (map size_block bs)
size_new b [] h = tt
size_new b (c ∷ cs) h = (h.0, size_new b cs h.1)

pub size_distinct : (bs : List BlockValue) → AreDistinctBlocks bs → AreDistinctBlocks (map size_block bs)
size_distinct [] h = tt
size_distinct (b ∷ bs) h = (size_new b bs h.0, size_distinct bs h.1)

-- the node with magnitudes in place of entries
abbrev pub size_node : Node → Node
size_node m = record { ends = m.ends; entry = λ xs. size_of (m.entry xs); odd = m.odd }
