-- Charges of legs that stand one after the other, and of fused ones.
use Rattle.std.proofs.Common.{◌≡◌, ℕ, suc, List, [], ◌∷◌, ◌++◌, length, arith, refl, ap, ◌∙◌, sym}
use Rattle.qn_charge.specs.declared.factor.Factor.{Factor}
use Rattle.qn_charge.specs.Charges.{IsGroup, sum_charge}
use Rattle.qn_charge.specs.Laws.{associative_charge, zero_is_neutral}
use Rattle.qn_index.specs.Legs.{LegValue, sector_at, sector_of}
use Rattle.qn_index.specs.Tuples.{net, signed, turned}
use Rattle.qn_index.specs.Places.{sectors_at}
use Rattle.qn_index.proofs.Admitted.{net_canonical}
use Rattle.qn_block.specs.Combiners.{CombinerValue, fused_leg, fused_charge}
use Rattle.qn_block.proofs.Located.{turned_twice}
use Rattle.qn_fuse.specs.Fused.{wide_legs, narrow_legs}

pub net-append : (fs : List Factor) (ks ls : List LegValue) (a x : List ℕ) → IsGroup fs → length a ≡ length ks → net fs (ks ++ ls) (a ++ x) ≡ sum_charge fs (net fs ks a) (net fs ls x)
net-append fs [] ls [] x g h = sym (zero_is_neutral fs (net fs ls x) (net_canonical fs ls x g))
net-append fs [] ls (s ∷ a) x g h = absurd (omega arith)
net-append fs (k ∷ ks) ls [] x g h = absurd (omega arith)
net-append fs (k ∷ ks) ls (s ∷ a) x g h =
    ap (sum_charge fs (signed fs k s)) (net-append fs ks ls a x g (omega arith)) ∙ sym (associative_charge fs (signed fs k s) (net fs ks a) (net fs ls x) g)

pub sectors-append : (ks ls : List LegValue) (ps us : List ℕ) → length ps ≡ length ks → sectors_at (ks ++ ls) (ps ++ us) ≡ sectors_at ks ps ++ sectors_at ls us
sectors-append [] ls [] us h = refl
sectors-append [] ls (p ∷ ps) us h = absurd (omega arith)
sectors-append (k ∷ ks) ls [] us h = absurd (omega arith)
sectors-append (k ∷ ks) ls (p ∷ ps) us h = ap (λ ss. sector_of k.sectors p ∷ ss) (sectors-append ks ls ps us (omega arith))

pub sectors_length : (ls : List LegValue) (xs : List ℕ) → length xs ≡ length ls → length (sectors_at ls xs) ≡ length ls
sectors_length [] [] h = refl
sectors_length [] (x ∷ xs) h = absurd (omega arith)
sectors_length (l ∷ ls) [] h = absurd (omega arith)
sectors_length (l ∷ ls) (x ∷ xs) h = ap suc (sectors_length ls xs (omega arith))

-- the net charge is the same with the legs fused
pub fused_net : (c : CombinerValue) (A B : List LegValue) (a s b : List ℕ) (w : ℕ) → IsGroup c.group → length a ≡ length A → length s ≡ length c.legs →
    (sector_at (fused_leg c.group c.legs c.arrow).sectors w).charge ≡ fused_charge c.group c.legs c.arrow s →
    net c.group (narrow_legs c A B) (a ++ (w ∷ b)) ≡ net c.group (wide_legs c A B) (a ++ (s ++ b))
fused_net c A B a s b w g la ls e =
    let fs = c.group in
    let f = fused_leg c.group c.legs c.arrow in
    net-append fs A (f ∷ B) a (w ∷ b) g la
    ∙ ap (sum_charge fs (net fs A a))
    (ap (λ q. sum_charge fs q (net fs B b)) (ap (turned fs c.arrow) e ∙ turned_twice fs c.arrow (net fs c.legs s) g (net_canonical fs c.legs s g))
    ∙ sym (net-append fs c.legs B s b g ls))
    ∙ sym (net-append fs A (c.legs ++ B) a (s ++ b) g la)
