-- Values of a leg, sector after sector.
use Rattle.std.proofs.Common.{◌≡◌, ℕ, ℤ, zero, suc, ◌+◌, ◌≤◌, ◌<◌, ◌-◌, List, [], ◌∷◌, length, get_or, take, arith, refl, ap, ◌∙◌, sym, subst, cond, ltb, Bool, true, false, add-one, ◌^◌, ◌⊎◌, inl, inr, ⊎_elim}
use Rattle.std.proofs.lemmas.List.{length-take, get_or-take, get_or_default}
use Rattle.std.proofs.lemmas.Bool.Decides.{nat_tests}
use Rattle.qn_index.specs.Legs.{SectorValue, before, total, no_sector, sector_at, sector_of, offset_in, IsOf}
use Rattle.qn_index.specs.Refusals.{BadDim}
use Rattle.qn_charge.specs.Firsts.{HasNone, OutOfRange}
use Rattle.qn_charge.specs.declared.factor.Factor.{Factor}
use Rattle.qn_charge.specs.Charges.{IsCanonical, IsWithin}
use Rattle.qn_charge.specs.Laws.{in_range}
use Rattle.std.proofs.lemmas.Bool.{cases_lt, ltb-true, ltb-false}

before_suc : (ps : List SectorValue) (i : ℕ) → i < length ps → before ps (suc i) ≡ before ps i + (sector_at ps i).dim
before_suc [] i lt = absurd (omega arith)
before_suc (p ∷ ps) zero lt = omega arith
before_suc (p ∷ ps) (suc i) lt = omega (arith, before_suc ps i (omega arith))

pub before_more : (ps : List SectorValue) (i : ℕ) → i < length ps → before ps (i + 1) ≡ before ps i + (sector_at ps i).dim
before_more ps i lt = ap (before ps) (add-one i) ∙ before_suc ps i lt

pub before_le : (ps : List SectorValue) (i : ℕ) → before ps i ≤ total ps
before_le [] zero = omega arith
before_le [] (suc i) = omega arith
before_le (p ∷ ps) zero = omega arith
before_le (p ∷ ps) (suc i) = omega (arith, before_le ps i)

-- a sector read at an index
pub record IsRead (ps : List SectorValue) (i d : ℕ) : Type 0 where
  pub within : i < length ps
  pub dim : (sector_at ps i).dim ≡ d
  pub next : before ps (i + 1) ≡ before ps i + d
  pub bound : before ps i + d ≤ total ps

pub at_read : (ps : List SectorValue) (i : ℕ) (p : SectorValue) → i < length ps → p ≡ get_or ps i p → p ≡ sector_at ps i
at_read ps i p lt is = is ∙ get_or_default ps i p no_sector lt

pub read_is : (ps : List SectorValue) (i : ℕ) (p : SectorValue) (d : ℕ) → i < length ps → p ≡ get_or ps i p → d ≡ p.dim → IsRead ps i d
read_is ps i p d lt is e =
    let dim : (sector_at ps i).dim ≡ d = ap (λ (q : SectorValue). q.dim) (sym (at_read ps i p lt is)) ∙ sym e in
    let next : before ps (i + 1) ≡ before ps i + d = omega (arith, before_more ps i lt) in
    record { within = lt; dim = dim; next = next; bound = omega (arith, before_le ps (i + 1)) }

pub before_all : (ps : List SectorValue) (i : ℕ) → length ps ≤ i → before ps i ≡ total ps
before_all [] zero e = refl
before_all [] (suc i) e = refl
before_all (p ∷ ps) zero e = absurd (omega arith)
before_all (p ∷ ps) (suc i) e = ap (λ n. p.dim + n) (before_all ps i (omega arith))

-- the value at a place of a sector, taken apart again
pub sector_from_place : (ps : List SectorValue) (i o : ℕ) → i < length ps → o < (sector_at ps i).dim → (sector_of ps (before ps i + o) ≡ i) × (offset_in ps (before ps i + o) ≡ o)
sector_from_place [] i o lt h = absurd (omega arith)
sector_from_place (p ∷ ps) zero o lt h = here p.dim o (sector_of ps) (offset_in ps) h
  where
    here : (d o : ℕ) (f g : ℕ → ℕ) → o < d → (cond (ltb (0 + o) d) 0 (suc (f (0 + o - d))) ≡ 0) × (cond (ltb (0 + o) d) (0 + o) (g (0 + o - d)) ≡ o)
    here d o f g h = (grind (arith, nat_tests), grind (arith, nat_tests))
sector_from_place (p ∷ ps) (suc i) o lt h = there p.dim (before ps i) o i (sector_of ps) (offset_in ps) (sector_from_place ps i o (omega arith) h)
  where
    there : (d b o i : ℕ) (f g : ℕ → ℕ) → (f (b + o) ≡ i) × (g (b + o) ≡ o) → (cond (ltb (d + b + o) d) 0 (suc (f (d + b + o - d))) ≡ suc i) × (cond (ltb (d + b + o) d) (d + b + o) (g (d + b + o - d)) ≡ o)
    there d b o i f g r = let e : d + b + o - d ≡ b + o = omega arith in (grind (arith, nat_tests), grind (arith, nat_tests))

pub charge_read : (ps : List SectorValue) (i : ℕ) (p : SectorValue) (q : List ℤ) → i < length ps → p ≡ get_or ps i p → q ≡ p.charge → (sector_at ps i).charge ≡ q
charge_read ps i p q lt is e = ap (λ (s : SectorValue). s.charge) (sym (at_read ps i p lt is)) ∙ sym e

-- the same where the list has another name
pub read_via : (qs ps : List SectorValue) (i : ℕ) (p : SectorValue) (d : ℕ) → qs ≡ ps → i < length qs → p ≡ get_or qs i p → d ≡ p.dim → IsRead ps i d
read_via qs ps i p d e lt is f = subst (λ (rs : List SectorValue). IsRead rs i d) e (read_is qs i p d lt is f)

-- and of a sector among the first n
pub read_in : (qs ps : List SectorValue) (n i : ℕ) (p : SectorValue) (d : ℕ) → qs ≡ ps → n ≤ length qs → i < length (take n qs) → p ≡ get_or (take n qs) i p → d ≡ p.dim → IsRead ps i d
read_in qs ps n i p d e le lt is f = let short : i < n = omega (arith, length-take n qs) in read_via qs ps i p d e (omega arith) (is ∙ get_or-take n qs i p short) f

pub place_bound : (ps : List SectorValue) (i o : ℕ) → i < length ps → o < (sector_at ps i).dim → before ps i + o < total ps
place_bound ps i o lt h = omega (arith, before_more ps i lt, before_le ps (i + 1))

-- what the code tests of a sector
pub to_bad_dim : (ps : List SectorValue) (i sum d : ℕ) → IsRead ps i d → sum ≡ before ps i → (d ≡ 0) ⊎ (65536 < d) ⊎ (2 ^ 20 < sum + d) → BadDim ps i
to_bad_dim ps i sum d r e h = (r.within, ⊎_elim (λ z. inl (omega (arith, r.dim))) (λ m. inr (⊎_elim (λ a. inl (omega (arith, r.dim))) (λ b. inr (omega (arith, r.next))) m)) h)

pub from_bad_dim : (ps : List SectorValue) (i sum d : ℕ) → IsRead ps i d → sum ≡ before ps i → BadDim ps i → (d ≡ 0) ⊎ (65536 < d) ⊎ (2 ^ 20 < sum + d)
from_bad_dim ps i sum d r e h = ⊎_elim (λ z. inl (omega (arith, r.dim))) (λ m. inr (⊎_elim (λ a. inl (omega (arith, r.dim))) (λ b. inr (omega (arith, r.next))) m)) h.1

-- a value, taken apart and put together
abbrev Placed : List SectorValue → ℕ → Type 0
Placed ps v = (sector_of ps v < length ps) × (offset_in ps v < (sector_at ps (sector_of ps v)).dim) × (before ps (sector_of ps v) + offset_in ps v ≡ v)

pub place_of_value : (ps : List SectorValue) (v : ℕ) → v < total ps → Placed ps v
place_of_value [] v h = absurd (omega arith)
place_of_value (p ∷ ps) v h = by (ltb v p.dim) refl (λ k. place_of_value ps (v - p.dim) k)
  where
    by : (t : Bool) → ltb v p.dim ≡ t → (v - p.dim < total ps → Placed ps (v - p.dim)) → (cond t 0 (suc (sector_of ps (v - p.dim))) < suc (length ps)) × (cond t v (offset_in ps (v - p.dim)) < (sector_at (p ∷ ps) (cond t 0 (suc (sector_of ps (v - p.dim))))).dim) × (before (p ∷ ps) (cond t 0 (suc (sector_of ps (v - p.dim)))) + cond t v (offset_in ps (v - p.dim)) ≡ v)
    by true e more = let lt = ltb-true v p.dim e in (omega arith, lt, omega arith)
    by false e more =
        let le = ltb-false v p.dim e in
        let r = more (omega arith) in
        (omega (arith, r.0), r.1, omega (arith, r.2))

-- one sector more whose charge is of the group
pub of_more : (fs : List Factor) (ps : List SectorValue) (i : ℕ) (p : SectorValue) (q : List ℤ) → i < length ps → p ≡ get_or ps i p → q ≡ p.charge → length q ≡ length fs → HasNone (OutOfRange 1000000000 fs q) → ((k : ℕ) (d : SectorValue) → k < i → IsOf fs (get_or ps k d)) → (k : ℕ) (d : SectorValue) → k < i + 1 → IsOf fs (get_or ps k d)
of_more fs ps i p q lt is e n none old k d le = by (cases_lt k i)
  where
    by : (k < i) ⊎ (i ≤ k) → IsOf fs (get_or ps k d)
    by (inl low) = old k d low
    by (inr high) =
        let same : i ≡ k = omega arith in
        let r = in_range 1000000000 fs q n none in
        let one : IsOf fs p = record { canonical = subst (λ (x : List ℤ). IsCanonical fs x) e r.0; within = subst (λ (x : List ℤ). IsWithin 1000000000 fs x) e r.1 } in
        subst (λ j. IsOf fs (get_or ps j d)) same (subst (IsOf fs) (is ∙ get_or_default ps i p d lt) one)
