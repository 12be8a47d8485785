-- The legs and the shape of members.
use Rattle.std.proofs.Common.{◌≡◌, ◌<◌, ◌-◌, ◌^◌, ◌==◌, ℕ, zero, suc, false, cond, List, ◌∷◌, sym, ◌∙◌, ap, subst, map, length, get_or, arith}
use Rattle.std.proofs.lemmas.Bool.{false≢true}
use Rattle.std.proofs.lemmas.List.{get_or-reverse, get_or-map, length-map, length-reverse}
use Rattle.qn_charge.specs.Laws.{canonical_zero, within_zero}
use Rattle.qn_index.specs.Legs.{LegValue, flipped}
use Rattle.qn_block.specs.Blocked.{conjugate_legs}
use Rattle.qn_net.specs.Members.{MemberValue, member_tensor, no_leg, IsHeld, IsNarrow, HasShape, MemberLaw}
use Rattle.qn_net.specs.Members.MemberValue.{own, fuse, split}
use Rattle.qn_net.proofs.WellFormed.{tensor_held}

pub flipped_leg : (f : LegValue) (ls : List LegValue) (k : ℕ) (r : LegValue) → (k == 0) ≡ false → k < length (f ∷ conjugate_legs ls) → get_or ls (length ls - k) r ≡ r →
    get_or (f ∷ conjugate_legs ls) k no_leg ≡ cond (k == 0) r (flipped r)
flipped_leg f ls zero r e l h = absurd (false≢true (sym e))
flipped_leg f ls (suc j) r e l h =
    let many : length (map flipped ls) ≡ length ls = length-map ls flipped in
    let below : j < length (map flipped ls) = subst (λ n. j < n) (length-reverse (map flipped ls)) (omega (arith, l)) in
    get_or-reverse (map flipped ls) j no_leg below
    ∙ ap (λ n. get_or (map flipped ls) n no_leg) (place (length (map flipped ls)) (length ls) j many)
    ∙ get_or-map flipped ls (length ls - suc j) r no_leg (inside (length (map flipped ls)) (length ls) j many below)
    ∙ ap flipped h
    ∙ sym (ap (λ b. cond b r (flipped r)) e)
  where
    place : (m n j : ℕ) → m ≡ n → m - 1 - j ≡ n - suc j
    place m n j e = omega (arith, e)

    inside : (m n j : ℕ) → m ≡ n → j < m → n - suc j < n
    inside m n j e l = omega (arith, e, l)

shape_of : (m : MemberValue) → IsHeld m → IsNarrow m → HasShape (member_tensor m)
shape_of (own t) h k = record { tensor = tensor_held (own t) h; flux = h.flux; shape = h.shape }
shape_of (fuse c) h k = record { tensor = tensor_held (fuse c) h; flux = record { canonical = canonical_zero c.group h.group; within = within_zero (2 ^ 50) c.group }; shape = k }
shape_of (split c) h k = record { tensor = tensor_held (split c) h; flux = record { canonical = canonical_zero c.group h.group; within = within_zero (2 ^ 50) c.group }; shape = k }

pub member_law : MemberLaw
member_law fs m h k = shape_of m.member h k.narrow
