-- Twisted lines, and tensors that are twisted in place of them.
use Rattle.std.specs.Prelude.{◌≡◌, ℕ, Bool, true, false, ◌&&◌, List, [], ◌∷◌, ◌++◌, map, filter}
use Rattle.std.specs.Ordering.{int_eq}
use Rattle.qn_sign.specs.Sign.{is_in, xor, IsDistinct}
use Rattle.qn_gauss.specs.Gaussian.{signed}
use Rattle.qn_value.specs.Networks.{Parities, End, Node, Bond, same_end, labels, contract, pairwise, traced, AreWithin, IsHomogeneous}

-- whether an odd number of the ends that pass the test have odd values
abbrev pub odd_among : Parities → (End → Bool) → List End → List ℕ → Bool
odd_among par test [] xs = false
odd_among par test (e ∷ es) [] = false
odd_among par test (e ∷ es) (x ∷ xs) = xor (test e && par e.label x) (odd_among par test es xs)

-- the tensor, times -1 where an odd number of the legs that pass the test have odd values
abbrev pub twisted_at : Parities → (End → Bool) → Node → Node
twisted_at par test n = record { ends = n.ends; entry = λ xs. signed (odd_among par test n.ends xs) (n.entry xs); odd = n.odd }

-- the end of a twisted bond
abbrev pub is_twisted : List Bond → End → Bool
is_twisted bs e = is_in int_eq e.label (labels (filter (λ b. b.twisted) bs))

abbrev pub untwist : Bond → Bond
untwist b = record { label = b.label; dim = b.dim; twisted = false }

-- of the two ends of each bond, the tensor has one that passes the test
abbrev pub HasOneEnd : (End → Bool) → Node → List Bond → Type 0
HasOneEnd test x [] = Unit {0}
HasOneEnd test x (b ∷ bs) =
    let has : Bool → Bool = λ i. let e : End = record { label = b.label; inward = i } in test e && is_in same_end e x.ends in
    (xor (has true) (has false) ≡ true) × HasOneEnd test x bs

-- in place of the bonds one tensor is twisted, at one end of each
abbrev pub TwistLaw : Type 0
TwistLaw =
    (par : Parities) (pre : List Node) (x : Node) (post : List Node) (bonds : List Bond) (opens : List End) (test : End → Bool) →
    IsDistinct same_end x.ends → IsDistinct int_eq (labels bonds) → HasOneEnd test x bonds →
    contract par (pre ++ (x ∷ post)) bonds opens ≡
    contract par (pre ++ (twisted_at par (λ e. test e && is_twisted bonds e) x ∷ post)) (map untwist bonds) opens

-- a pair step: the earlier tensor is twisted at its ends of the twisted bonds
abbrev pub TwistPairLaw : Type 0
TwistPairLaw =
    (par : Parities) (x y : Node) (shared : List Bond) →
    IsDistinct same_end x.ends → IsDistinct int_eq (labels shared) → HasOneEnd (λ e. true) x shared →
    pairwise par x y shared ≡ pairwise par (twisted_at par (is_twisted shared) x) y (map untwist shared)

-- or the later one
abbrev pub TwistSecondLaw : Type 0
TwistSecondLaw =
    (par : Parities) (x y : Node) (shared : List Bond) →
    IsDistinct same_end y.ends → IsDistinct int_eq (labels shared) → HasOneEnd (λ e. true) y shared →
    pairwise par x y shared ≡ pairwise par x (twisted_at par (is_twisted shared) y) (map untwist shared)

-- a trace step: the tensor is twisted at the inward end of each twisted couple
abbrev pub TwistTraceLaw : Type 0
TwistTraceLaw =
    (par : Parities) (x : Node) (couples : List Bond) →
    IsDistinct same_end x.ends → IsDistinct int_eq (labels couples) → AreWithin couples (x ∷ []) →
    traced par x couples ≡ traced par (twisted_at par (λ e. e.inward && is_twisted couples e) x) (map untwist couples)

-- a twisted tensor has the same flux
abbrev pub TwistFluxLaw : Type 0
TwistFluxLaw = (par : Parities) (test : End → Bool) (x : Node) → IsHomogeneous par x → IsHomogeneous par (twisted_at par test x)
