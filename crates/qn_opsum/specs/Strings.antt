-- Operators, terms, and the value of a term as a sum over paths (Jordan and Wigner).
use Rattle.std.specs.Prelude.{◌≡◌, ℕ, zero, suc, ◌+◌, ◌<◌, ◌⊎◌, Bool, false, ◌&&◌, ◌==◌, nat_lt, cond, List, [], ◌∷◌, count_by}
use Rattle.qn_sign.specs.Sign.{is_odd, xor}
use Rattle.qn_gauss.specs.Gaussian.{Gaussian, zero_g, one_g, mul_g, signed}
use Rattle.qn_value.specs.Networks.{sum_below}

-- the sites 0 to count - 1, with the operators on each, which are numbered too
pub record Sites : Type 0 where
  pub count : ℕ
  pub dim : ℕ → ℕ  -- the number of values of a site
  pub odd_value : ℕ → ℕ → Bool  -- the parity of a value of a site
  pub odd_op : ℕ → ℕ → Bool  -- the parity of an operator on a site
  pub table : ℕ → ℕ → ℕ → ℕ → Gaussian  -- the entry of an operator on a site, at a row and a column

-- an entry is 0 unless parity(row) + parity(column) is the parity of the operator
abbrev pub HasParities : Sites → Type 0
HasParities S =
    (site op row column : ℕ) → (xor (S.odd_value site row) (S.odd_value site column) ≡ S.odd_op site op) ⊎ (S.table site op row column ≡ zero_g)

-- an operator of a term
pub record Factor : Type 0 where
  pub site : ℕ
  pub op : ℕ

-- a basis state: the value of each site
abbrev pub State : Type 0
State = ℕ → ℕ

-- the state with this value at site j
abbrev pub put : State → ℕ → ℕ → State
put s j v k = cond (k == j) v (s k)

-- whether an odd number of the sites before j have odd values
abbrev pub odd_before : Sites → ℕ → State → Bool
odd_before S zero s = false
odd_before S (suc j) s = xor (odd_before S j s) (S.odd_value j (s j))

-- the product over the numbers below n
abbrev pub product_below : ℕ → (ℕ → Gaussian) → Gaussian
product_below zero f = one_g
product_below (suc n) f = mul_g (product_below n f) (f n)

abbrev pub identity : ℕ → ℕ → Gaussian
identity x y = cond (x == y) one_g zero_g

abbrev pub odd_factor : Sites → Factor → Bool
odd_factor S f = S.odd_op f.site f.op

-- the operator string: the sum over the paths from t to s. A step of an operator on site j goes to the state t with v at j,
-- with the entry at row t_j and column v, and -1 where the operator is odd and an odd number of values before j are odd
abbrev pub string : Sites → List Factor → State → State → Gaussian
string S [] t s = product_below S.count (λ k. identity (t k) (s k))
string S (f ∷ fs) t s =
    sum_below (S.dim f.site) (λ v.
    signed (odd_factor S f && odd_before S f.site (put t f.site v)) (mul_g (S.table f.site f.op (t f.site) v) (string S fs (put t f.site v) s)))

-- the product of the term's operators on site k, from left to right, and of the identity
abbrev pub matrix : Sites → List Factor → ℕ → ℕ → ℕ → Gaussian
matrix S [] k x y = identity x y
matrix S (f ∷ fs) k x y = cond (f.site == k) (sum_below (S.dim k) (λ v. mul_g (S.table k f.op x v) (matrix S fs k v y))) (matrix S fs k x y)

-- the parity of the term's operators on site k
abbrev pub odd_at : Sites → List Factor → ℕ → Bool
odd_at S [] k = false
odd_at S (f ∷ fs) k = xor (f.site == k && odd_factor S f) (odd_at S fs k)

-- the parity of the number of pairs of an odd value of s and an odd product of operators on a later site below n
abbrev pub crossing : Sites → List Factor → State → ℕ → Bool
crossing S fs s zero = false
crossing S fs s (suc n) = xor (crossing S fs s n) (odd_at S fs n && odd_before S n s)

-- the number of pairs of odd operators of which the earlier one is on the later site
abbrev pub inversions : Sites → List Factor → ℕ
inversions S [] = 0
inversions S (f ∷ fs) = count_by (λ g. odd_factor S f && odd_factor S g && nat_lt g.site f.site) fs + inversions S fs

-- the stable sort by site

abbrev pub place : Factor → List Factor → List Factor
place f [] = f ∷ []
place f (g ∷ gs) = cond (nat_lt g.site f.site) (g ∷ place f gs) (f ∷ g ∷ gs)

abbrev pub in_site_order : List Factor → List Factor
in_site_order [] = []
in_site_order (f ∷ fs) = place f (in_site_order fs)

-- the operators are on sites below n
abbrev pub AreBelow : ℕ → List Factor → Type 0
AreBelow n [] = Unit {0}
AreBelow n (f ∷ fs) = (f.site < n) × AreBelow n fs

-- no operator is on a site before j
abbrev pub AreFrom : ℕ → List Factor → Type 0
AreFrom j [] = Unit {0}
AreFrom j (f ∷ fs) = (nat_lt f.site j ≡ false) × AreFrom j fs

-- the operators stand in site order
abbrev pub AreOrdered : List Factor → Type 0
AreOrdered [] = Unit {0}
AreOrdered (f ∷ fs) = AreFrom f.site fs × AreOrdered fs

-- a term is the product of its sites' matrices, with the sign of its inversions and of its odd operators after odd values
abbrev pub StringLaw : Type 0
StringLaw =
    (S : Sites) → HasParities S → (term : List Factor) → AreBelow S.count term → (t s : State) →
    string S term t s ≡
    signed (xor (crossing S term s S.count) (is_odd (inversions S term))) (product_below S.count (λ k. matrix S term k (t k) (s k)))

-- the same for a term in site order
abbrev pub OrderedStringLaw : Type 0
OrderedStringLaw =
    (S : Sites) → HasParities S → (term : List Factor) → AreBelow S.count term → AreOrdered term → (t s : State) →
    string S term t s ≡ signed (crossing S term s S.count) (product_below S.count (λ k. matrix S term k (t k) (s k)))

-- a term is its sorted term, negated where the permutation of its odd operators is odd
abbrev pub NormalLaw : Type 0
NormalLaw =
    (S : Sites) → HasParities S → (term : List Factor) → AreBelow S.count term → (t s : State) →
    (string S term t s ≡ signed (is_odd (inversions S term)) (string S (in_site_order term) t s))
    × AreOrdered (in_site_order term)
    × AreBelow S.count (in_site_order term)
