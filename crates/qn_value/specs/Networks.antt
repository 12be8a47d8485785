-- Networks of tensors whose values are even or odd, and what they are worth.
-- NCON, arXiv:1402.0939, for the lines; the exchange rule of super vector spaces for the sign; twisted lines are this project's own.
use Rattle.std.specs.Prelude.{length, ◌≡◌, ℕ, zero, suc, ℤ, Bool, true, false, ◌&&◌, ◌⊎◌, List, [], ◌∷◌, ◌++◌, map, cond, count_by, filter, not}
use Rattle.std.specs.List.{flat_map}
use Rattle.std.specs.Ordering.{int_eq}
use Rattle.qn_sign.specs.Sign.{exchange_sign, is_in, is_odd, xor, IsDistinct, Perm}
use Rattle.qn_gauss.specs.Gaussian.{Gaussian, zero_g, one_g, add_g, mul_g, signed}

-- one end of a line: the label of the line, and whether the arrow of the leg points into its tensor
pub record End : Type 0 where
  pub label : ℤ
  pub inward : Bool

abbrev pub same_bool : Bool → Bool → Bool
same_bool true b = b
same_bool false true = false
same_bool false false = true

abbrev pub same_end : End → End → Bool
same_end x y = int_eq x.label y.label && same_bool x.inward y.inward

-- a tensor in its network: which end each leg is, the entry at each list of values, the parity of its flux
pub record Node : Type 0 where
  pub ends : List End
  pub entry : List ℕ → Gaussian
  pub odd : Bool

-- a line that is summed over, with the number of its values; a twisted line multiplies by -1 where its value is odd
pub record Bond : Type 0 where
  pub label : ℤ
  pub dim : ℕ
  pub twisted : Bool

-- an assignment: a value for every end
abbrev pub Assignment : Type 0
Assignment = End → ℕ

-- the parity of each value of each line
abbrev pub Parities : Type 0
Parities = ℤ → ℕ → Bool

-- both ends of the line l get the value v
abbrev pub assign : Assignment → ℤ → ℕ → Assignment
assign a l v e = cond (int_eq e.label l) v (a e)

-- the word: the legs, tensor by tensor
abbrev pub word : List Node → List End
word ns = flat_map (λ n. n.ends) ns

abbrev pub in_end : Bond → End
in_end b = record { label = b.label; inward = true }

abbrev pub out_end : Bond → End
out_end b = record { label = b.label; inward = false }

-- the two ends of each bond, the inward one first
abbrev pub pairs_of : List Bond → List End
pairs_of [] = []
pairs_of (b ∷ bs) = in_end b ∷ out_end b ∷ pairs_of bs

-- the goal, into which the legs are brought: the bonds, and after them the open legs
abbrev pub goal : List Bond → List End → List End
goal bs opens = pairs_of bs ++ opens

-- whether the value of an end is odd
abbrev pub odd_end : Parities → Assignment → End → Bool
odd_end par a e = par e.label (a e)

-- whether an odd number of pairs of odd legs stand in the goal in the reverse of their order in the word
abbrev pub order_sign : Parities → List Node → List Bond → List End → Assignment → Bool
order_sign par ns bs opens a = exchange_sign same_end (odd_end par a) (word ns) (goal bs opens)

-- whether an odd number of twisted bonds have an odd value
abbrev pub twist_sign : Parities → List Bond → Assignment → Bool
twist_sign par [] a = false
twist_sign par (b ∷ bs) a = xor (b.twisted && par b.label (a (in_end b))) (twist_sign par bs a)

-- the sign of an assignment: minus one to the number of exchanges of odd legs and of odd twisted bonds
abbrev pub sign : Parities → List Node → List Bond → List End → Assignment → Bool
sign par ns bs opens a = xor (twist_sign par bs a) (order_sign par ns bs opens a)

-- the values of the ends
abbrev pub values : List End → Assignment → List ℕ
values es a = map a es

-- the product of the tensors' entries
abbrev pub product : List Node → Assignment → Gaussian
product [] a = one_g
product (n ∷ ns) a = mul_g (n.entry (values n.ends a)) (product ns a)

-- the sum over the numbers below n
abbrev pub sum_below : ℕ → (ℕ → Gaussian) → Gaussian
sum_below zero f = zero_g
sum_below (suc n) f = add_g (sum_below n f) (f n)

-- the sum over all values of the bonds
abbrev pub sums : List Bond → (Assignment → Gaussian) → Assignment → Gaussian
sums [] f a = f a
sums (b ∷ bs) f a = sum_below b.dim (λ v. sums bs f (assign a b.label v))

-- the value of a network, where the open ends have the values that a gives: the sum, over all values of the bonds, of the sign times the product of the entries
abbrev pub flat : Parities → List Node → List Bond → List End → Assignment → Gaussian
flat par ns bs opens a = sums bs (λ c. signed (sign par ns bs opens c) (product ns c)) a

-- the assignment that gives the ends these values
abbrev pub at_values : List End → List ℕ → Assignment
at_values [] xs m = 0
at_values (e ∷ es) [] m = 0
at_values (e ∷ es) (x ∷ xs) m = cond (same_end m e) x (at_values es xs m)

-- whether an odd number of the tensors have odd flux
abbrev pub odd_flux : List Node → Bool
odd_flux [] = false
odd_flux (n ∷ ns) = xor n.odd (odd_flux ns)

-- some tensors contracted over the bonds among them, the other legs staying open in the order `opens`
abbrev pub contract : Parities → List Node → List Bond → List End → Node
contract par ns bs opens = record {
  ends = opens;
  entry = λ xs. flat par ns bs opens (at_values opens xs);
  odd = odd_flux ns;
}

-- each bond has its two ends among the legs, and each other leg is open
pub record IsNetwork (ns : List Node) (bs : List Bond) (opens : List End) : Type 0 where
  pub distinct : IsDistinct same_end (word ns)
  pub complete : Perm (word ns) (goal bs opens)

-- where the entry is not 0, the number of odd legs has the parity of the flux
abbrev pub IsHomogeneous : Parities → Node → Type 0
IsHomogeneous par n =
    (a : Assignment) → (is_odd (count_by (odd_end par a) n.ends) ≡ n.odd) ⊎ (n.entry (values n.ends a) ≡ zero_g)

abbrev pub AreHomogeneous : Parities → List Node → Type 0
AreHomogeneous par [] = Unit {0}
AreHomogeneous par (n ∷ ns) = IsHomogeneous par n × AreHomogeneous par ns

abbrev pub labels : List Bond → List ℤ
labels bs = map (λ b. b.label) bs

-- the legs that stay open where these bonds are summed over
abbrev pub kept : List Node → List Bond → List End
kept ns bs = filter (λ e. not (is_in int_eq e.label (labels bs))) (word ns)

-- two tensors contracted over the lines that they share: the legs of the first that are left, then those of the second
abbrev pub pairwise : Parities → Node → Node → List Bond → Node
pairwise par x y shared = contract par (x ∷ y ∷ []) shared (kept (x ∷ y ∷ []) shared)

-- a tensor whose couples of legs are summed over
abbrev pub traced : Parities → Node → List Bond → Node
traced par x couples = contract par (x ∷ []) couples (kept (x ∷ []) couples)

-- the tensor with its legs in this order, each entry with the sign of the rearrangement
abbrev pub moved : Parities → Node → List End → Node
moved par x order = record {
  ends = order;
  entry = λ xs. let a = at_values order xs in signed (exchange_sign same_end (odd_end par a) x.ends order) (x.entry (values x.ends a));
  odd = x.odd;
}

-- both ends of each of the bonds are legs of these tensors
abbrev pub AreWithin : List Bond → List Node → Type 0
AreWithin bs ns = (e : End) → is_in same_end e (pairs_of bs) ≡ true → is_in same_end e (word ns) ≡ true

-- the two differ at most in their entries at lists that are no values of the legs
pub record AreAlike (n m : Node) : Type 0 where
  pub ends : n.ends ≡ m.ends
  pub odd : n.odd ≡ m.odd
  pub entry : (xs : List ℕ) → length xs ≡ length n.ends → n.entry xs ≡ m.entry xs

abbrev pub AllAlike : List Node → List Node → Type 0
AllAlike [] [] = Unit {0}
AllAlike [] (m ∷ ms) = ⊥
AllAlike (n ∷ ns) [] = ⊥
AllAlike (n ∷ ns) (m ∷ ms) = AreAlike n m × AllAlike ns ms

-- the same network with other labels

abbrev pub relabel : (ℤ → ℤ) → End → End
relabel f e = record { label = f e.label; inward = e.inward }

abbrev pub relabel_node : (ℤ → ℤ) → Node → Node
relabel_node f n = record { ends = map (relabel f) n.ends; entry = n.entry; odd = n.odd }

abbrev pub relabel_bond : (ℤ → ℤ) → Bond → Bond
relabel_bond f b = record { label = f b.label; dim = b.dim; twisted = b.twisted }

-- the renamed ends are all different; two open legs may come to one line, with opposite arrows
abbrev pub KeepsApart : (ℤ → ℤ) → List End → Type 0
KeepsApart f es = IsDistinct same_end (map (relabel f) es)
