-- The first part of a charge that is out of range, by its place and by a search from the front.
use Rattle.std.proofs.Common.{◌≡◌, ℕ, suc, zero, ◌+◌, ℤ, pos, neg_ℤ, List, [], ◌∷◌, length, Bool, true, false, ◌||◌, cond, Some, None, ◌⊎◌, inl, inr, refl, sym, ap, ◌∙◌, arith, T, subst, ◌^◌}
use Rattle.std.specs.Prelude.{Option, int_lt, int_le, MatchOption}
use Rattle.std.specs.Int.Signed.{lt_z_yes, le_z_yes}
use Rattle.std.specs.List.{position_from, zip}
use Rattle.qn_charge.specs.declared.factor.Factor.{Factor}
use Rattle.qn_charge.specs.declared.factor.Factor.TheVariants.{U1, Zn}
use Rattle.qn_charge.specs.Ranges.{IsOutOfBound, OutOfBound}
use Rattle.qn_charge.specs.Firsts.{IsFirst, HasNone}
use Rattle.qn_charge.specs.Charges.{IsWithin}
use Rattle.qn_charge.specs.Laws.{in_range, within_more}
use Rattle.qn_index.specs.Tuples.{IsFlux}
use Rattle.qn_parts.specs.Sectors.{is_part_out, first_out}

told : (a b : Bool) → (a || b) ≡ true → T a ⊎ T b
told true b e = inl tt
told false b e = inr (subst T (sym e) tt)

untold : (a b : Bool) → (a || b) ≡ false → (T a → ⊥) × (T b → ⊥)
untold true b e = cc
untold false b e = (λ t. t, λ t. subst T e t)

pub part_out : (bound : ℤ) (f : Factor) (x : ℤ) → is_part_out bound f x ≡ true → IsOutOfBound bound f x
part_out bound (U1 fermion) x e =
    elim (told (int_lt x (neg_ℤ bound)) (int_lt bound x) e) [ inl t ↦ inl (lt_z_yes t) | inr t ↦ inr (lt_z_yes t) ]
part_out bound (Zn n fermion) x e =
    elim (told (int_lt x (pos 0)) (int_le (pos n) x) e) [ inl t ↦ inl (lt_z_yes t) | inr t ↦ inr (le_z_yes t) ]

pub part_in : (bound : ℤ) (f : Factor) (x : ℤ) → is_part_out bound f x ≡ false → IsOutOfBound bound f x → ⊥
part_in bound (U1 fermion) x e o =
    let no = untold (int_lt x (neg_ℤ bound)) (int_lt bound x) e in
    elim o [ inl t ↦ no.0 t.lt | inr t ↦ no.1 t.lt ]
part_in bound (Zn n fermion) x e o =
    let no = untold (int_lt x (pos 0)) (int_le (pos n) x) e in
    elim o [ inl t ↦ no.0 t.lt | inr t ↦ no.1 t.le ]

abbrev out : ℤ → Factor × ℤ → Bool
out bound p = is_part_out bound p.0 p.1

-- the parts after the first
none_after : (bound : ℤ) (f : Factor) (fs : List Factor) (x : ℤ) (xs : List ℤ) → HasNone (OutOfBound bound (f ∷ fs) (x ∷ xs)) → HasNone (OutOfBound bound fs xs)
none_after bound f fs x xs h = λ j o. h (suc j) (omega (arith, o.0), o.1)

none_at : (bound : ℤ) (f : Factor) (fs : List Factor) (x : ℤ) (xs : List ℤ) (n : ℕ) (b : Bool) → is_part_out bound f x ≡ b → HasNone (OutOfBound bound (f ∷ fs) (x ∷ xs))
    → position_from (out bound) (n + 1) (zip fs xs) ≡ None → cond b (Some n) (position_from (out bound) (n + 1) (zip fs xs)) ≡ None
none_at bound f fs x xs n true e h later = absurd (h 0 (omega arith, part_out bound f x e))
none_at bound f fs x xs n false e h later = later

none_out : (bound : ℤ) (fs : List Factor) (xs : List ℤ) (n : ℕ) → HasNone (OutOfBound bound fs xs) → position_from (out bound) n (zip fs xs) ≡ None
none_out bound [] xs n h = refl
none_out bound (f ∷ fs) [] n h = refl
none_out bound (f ∷ fs) (x ∷ xs) n h = none_at bound f fs x xs n _ refl h (none_out bound fs xs (n + 1) (none_after bound f fs x xs h))

first_after : (bound : ℤ) (f : Factor) (fs : List Factor) (x : ℤ) (xs : List ℤ) (i : ℕ) → IsFirst (OutOfBound bound (f ∷ fs) (x ∷ xs)) (suc i) → IsFirst (OutOfBound bound fs xs) i
first_after bound f fs x xs i h = record {
  here = (omega (arith, h.here.0), h.here.1);
  before = λ j lt o. h.before (suc j) (omega (arith, lt)) (omega (arith, o.0), o.1);
}

first_here : (bound : ℤ) (f : Factor) (fs : List Factor) (x : ℤ) (xs : List ℤ) (n : ℕ) (b : Bool) → is_part_out bound f x ≡ b → IsFirst (OutOfBound bound (f ∷ fs) (x ∷ xs)) 0
    → cond b (Some n) (position_from (out bound) (n + 1) (zip fs xs)) ≡ Some (n + 0)
first_here bound f fs x xs n true e h = ap Some (omega arith)
first_here bound f fs x xs n false e h = absurd (part_in bound f x e h.here.1)

first_later : (bound : ℤ) (f : Factor) (fs : List Factor) (x : ℤ) (xs : List ℤ) (n i : ℕ) (b : Bool) → is_part_out bound f x ≡ b → IsFirst (OutOfBound bound (f ∷ fs) (x ∷ xs)) (suc i)
    → position_from (out bound) (n + 1) (zip fs xs) ≡ Some (n + 1 + i) → cond b (Some n) (position_from (out bound) (n + 1) (zip fs xs)) ≡ Some (n + suc i)
first_later bound f fs x xs n i true e h later = absurd (h.before 0 (omega arith) (omega arith, part_out bound f x e))
first_later bound f fs x xs n i false e h later = later ∙ ap Some (omega arith)

first_is_out : (bound : ℤ) (fs : List Factor) (xs : List ℤ) (n i : ℕ) → length xs ≡ length fs → IsFirst (OutOfBound bound fs xs) i → position_from (out bound) n (zip fs xs) ≡ Some (n + i)
first_is_out bound [] xs n i len h = absurd (omega (arith, h.here.0))
first_is_out bound (f ∷ fs) [] n i len h = absurd (omega (arith, len))
first_is_out bound (f ∷ fs) (x ∷ xs) n zero len h = first_here bound f fs x xs n _ refl h
first_is_out bound (f ∷ fs) (x ∷ xs) n (suc i) len h =
    first_later bound f fs x xs n i _ refl h (first_is_out bound fs xs (n + 1) i (omega (arith, len)) (first_after bound f fs x xs i h))

-- where the first part out of range is known, it is the one that the search finds
pub first_out_is : (o : Option ℕ) (bound : ℤ) (fs : List Factor) (xs : List ℤ) → length xs ≡ length fs
    → MatchOption o (HasNone (OutOfBound bound fs xs)) (IsFirst (OutOfBound bound fs xs)) → o ≡ first_out bound fs xs
first_out_is None bound fs xs len h = sym (none_out bound fs xs 0 h)
first_out_is (Some i) bound fs xs len h = sym (first_is_out bound fs xs 0 i len h ∙ ap Some (omega arith))

pub first_out_is_at : (o : Option ℕ) (b bound : ℤ) (fs : List Factor) (xs : List ℤ) → b ≡ bound → length xs ≡ length fs
    → MatchOption o (HasNone (OutOfBound b fs xs)) (IsFirst (OutOfBound b fs xs)) → o ≡ first_out bound fs xs
first_out_is_at o b bound fs xs e len h = first_out_is o b fs xs len h ∙ ap (λ z. first_out z fs xs) e

-- a flux with no part out of range is one, and within the bound
pub is_flux : (fs : List Factor) (xs : List ℤ) → length xs ≡ length fs → HasNone (OutOfBound (pos 1000000000000) fs xs) → IsFlux fs xs × IsWithin 1000000000000 fs xs
is_flux fs xs len h =
    let both = in_range 1000000000000 fs xs len h in
    (record { canonical = both.0; within = within_more 1000000000000 (2 ^ 50) fs xs (omega arith) both.1 }, both.1)
