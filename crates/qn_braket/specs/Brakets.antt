-- Overlap and expectation of any networks.
-- The signs are those of the exchange rule of super vector spaces.
use Rattle.std.specs.Prelude.{◌≡◌, false, List, [], ◌∷◌, ◌++◌, map}
use Rattle.qn_sign.specs.Sign.{Perm}
use Rattle.qn_gauss.specs.Gaussian.{conj_g, mul_g}
use Rattle.qn_value.specs.Networks.{End, Node, Bond, Assignment, Parities, out_end, sums, flat, IsNetwork}
use Rattle.qn_braket.specs.Conjugates.{across, conj_ends, conj_nodes}

-- the outward ends of these lines, in order
abbrev pub outs : List Bond → List End
outs bs = map out_end bs

-- the inward ends of these lines, the last line's first
abbrev pub ins_back : List Bond → List End
ins_back bs = conj_ends (outs bs)

-- none of these lines is twisted
abbrev pub AreUntwisted : List Bond → Type 0
AreUntwisted [] = Unit {0}
AreUntwisted (b ∷ bs) = (b.twisted ≡ false) × AreUntwisted bs

-- the conjugates, the last tensor's first, are a network with the same lines and the conjugate value; its open ends are the other ends of the same lines
abbrev pub ConjLaw : Type 0
ConjLaw =
    (par : Parities) (tensors : List Node) (bonds : List Bond) (opens : List End) → IsNetwork tensors bonds opens →
    IsNetwork (conj_nodes tensors) bonds (conj_ends opens)
    × ((a : Assignment) → flat par (conj_nodes tensors) bonds (conj_ends opens) a ≡ conj_g (flat par tensors bonds opens (across a)))

-- the network of a bra's conjugates and a ket is the sum over the lines that they share of conj(bra) times ket
abbrev pub OverlapLaw : Type 0
OverlapLaw =
    (par : Parities) (bra ket : List Node) (bra_bonds ket_bonds sites bonds : List Bond) →
    IsNetwork bra bra_bonds (outs sites) → IsNetwork ket ket_bonds (outs sites) →
    IsNetwork (conj_nodes bra ++ ket) bonds [] → Perm bonds (bra_bonds ++ (ket_bonds ++ sites)) → AreUntwisted sites → (a : Assignment) →
    flat par (conj_nodes bra ++ ket) bonds [] a ≡
    sums sites (λ s. mul_g (conj_g (flat par bra bra_bonds (outs sites) s)) (flat par ket ket_bonds (outs sites) s)) a

-- with an operator between: the sum over s' and s of conj(bra at s') times the operator at s' and s times ket at s
abbrev pub ExpectLaw : Type 0
ExpectLaw =
    (par : Parities) (bra op ket : List Node) (bra_bonds op_bonds ket_bonds primed sites bonds : List Bond) →
    IsNetwork bra bra_bonds (outs primed) → IsNetwork op op_bonds (outs primed ++ ins_back sites) → IsNetwork ket ket_bonds (outs sites) →
    IsNetwork (conj_nodes bra ++ (op ++ ket)) bonds [] → Perm bonds (bra_bonds ++ (op_bonds ++ (ket_bonds ++ (primed ++ sites)))) →
    AreUntwisted primed → AreUntwisted sites → (a : Assignment) →
    flat par (conj_nodes bra ++ (op ++ ket)) bonds [] a ≡
    sums primed (λ s'. sums sites (λ s.
    mul_g (conj_g (flat par bra bra_bonds (outs primed) s)) (mul_g (flat par op op_bonds (outs primed ++ ins_back sites) s) (flat par ket ket_bonds (outs sites) s))) s') a
