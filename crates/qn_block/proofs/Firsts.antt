-- The first block that is not as it should be.
use Rattle.std.proofs.Common.{◌≡◌, ◌≢◌, ℕ, zero, suc, ◌+◌, ◌≤◌, ◌<◌, List, [], ◌∷◌, length, get_or, arith, refl, ap, ◌∙◌, sym, subst, ◌⊎◌, inl, inr}
use Rattle.std.proofs.lemmas.Bool.{cases_lt, cases_eq}
use Rattle.std.proofs.lemmas.List.{get_or_default}
use Rattle.qn_charge.specs.Firsts.{IsFirst, HasNone}
use Rattle.qn_index.specs.Legs.{LegValue}
use Rattle.qn_index.specs.Tuples.{IsTuple}
use Rattle.qn_index.proofs.Nets.{tuple_length}
use Rattle.qn_value.specs.Tensors.{BlockValue, no_block}
use Rattle.qn_block.specs.Refusals.{block_at, BadTupleAt, IsNoSector}

-- none up to i
abbrev pub NoneBefore : (ℕ → Type 0) → ℕ → Type 0
NoneBefore P i = (j : ℕ) → j < i → P j → ⊥

pub none_more : (P : ℕ → Type 0) (i : ℕ) → NoneBefore P i → (P i → ⊥) → NoneBefore P (i + 1)
none_more P i old new j lt h = by (cases_eq j i)
  where
    by : (j ≡ i) ⊎ (j ≢ i) → ⊥
    by (inl e) = new (subst P e h)
    by (inr n) = old j (omega arith) h

pub none_at_all : (P : ℕ → Type 0) (n i : ℕ) → n ≤ i → ((j : ℕ) → P j → j < n) → NoneBefore P i → HasNone P
none_at_all P n i le below old j h = let lt : j < n = below j h in old j (omega arith) h

-- the block read at i
pub block_read : (bs : List BlockValue) (i : ℕ) (b : BlockValue) → i < length bs → b ≡ get_or bs i b → b ≡ block_at bs i
block_read bs i b lt is = is ∙ get_or_default bs i b no_block lt

-- a tuple as long as the legs, with no number that is no sector
pub tuple_from : (ls : List LegValue) (t : List ℕ) → length t ≡ length ls → HasNone (IsNoSector ls t) → IsTuple ls t
tuple_from [] [] n h = refl
tuple_from [] (s ∷ ss) n h = absurd (omega arith)
tuple_from (l ∷ ls) [] n h = absurd (omega arith)
tuple_from (l ∷ ls) (s ∷ ss) n h = (by (cases_lt s (length l.sectors)), tuple_from ls ss (omega arith) (λ j b. h (suc j) b))
  where
    by : (s < length l.sectors) ⊎ (length l.sectors ≤ s) → s < length l.sectors
    by (inl lt) = lt
    by (inr ge) = absurd (h 0 ge)

-- and a tuple has none
pub sector_there : (ls : List LegValue) (t : List ℕ) (j : ℕ) → IsTuple ls t → IsNoSector ls t j → ⊥
sector_there [] t j h b = b
sector_there (l ∷ ls) [] j h b = b
sector_there (l ∷ ls) (s ∷ ss) zero h b = let lt : s < length l.sectors = h.0 in omega arith
sector_there (l ∷ ls) (s ∷ ss) (suc j) h b = sector_there ls ss j h.1 b

-- by place
pub no_sector_at : (ls : List LegValue) (t : List ℕ) (i : ℕ) (l : LegValue) → length t ≡ length ls → i < length ls → l ≡ get_or ls i l → length l.sectors ≤ get_or t i 0 → IsNoSector ls t i
no_sector_at [] t i l n lt e le = absurd (omega arith)
no_sector_at (k ∷ ls) [] i l n lt e le = absurd (omega arith)
no_sector_at (k ∷ ls) (s ∷ ss) zero l n lt e le = subst (λ (m : LegValue). length m.sectors ≤ s) e le
no_sector_at (k ∷ ls) (s ∷ ss) (suc i) l n lt e le = no_sector_at ls ss i l (omega arith) (omega arith) e le

pub sector_at_place : (ls : List LegValue) (t : List ℕ) (i : ℕ) (l : LegValue) → i < length ls → l ≡ get_or ls i l → get_or t i 0 < length l.sectors → IsNoSector ls t i → ⊥
sector_at_place [] t i l lt e h b = b
sector_at_place (k ∷ ls) [] i l lt e h b = b
sector_at_place (k ∷ ls) (s ∷ ss) zero l lt e h b = let same : length l.sectors ≡ length k.sectors = ap (λ (m : LegValue). length m.sectors) e in omega arith
sector_at_place (k ∷ ls) (s ∷ ss) (suc i) l lt e h b = sector_at_place ls ss i l (omega arith) e h b

pub no_sector_below : (ls : List LegValue) (t : List ℕ) (j : ℕ) → IsNoSector ls t j → j < length ls
no_sector_below [] t j b = absurd b
no_sector_below (l ∷ ls) [] j b = absurd b
no_sector_below (l ∷ ls) (s ∷ ss) zero b = omega arith
no_sector_below (l ∷ ls) (s ∷ ss) (suc j) b = let r = no_sector_below ls ss j b in omega (arith, r)

pub tuple_or_not : (ls : List LegValue) (t : List ℕ) → IsTuple ls t ⊎ (IsTuple ls t → ⊥)
tuple_or_not [] [] = inl refl
tuple_or_not [] (s ∷ ss) = inr (λ e. cons_not_nil e)
  where
    cons_not_nil : s ∷ ss ≡ [] → ⊥
    cons_not_nil e = cc
tuple_or_not (l ∷ ls) [] = inr (λ h. h)
tuple_or_not (l ∷ ls) (s ∷ ss) = by (cases_lt s (length l.sectors)) (tuple_or_not ls ss)
  where
    by : (s < length l.sectors) ⊎ (length l.sectors ≤ s) → IsTuple ls ss ⊎ (IsTuple ls ss → ⊥) → IsTuple (l ∷ ls) (s ∷ ss) ⊎ (IsTuple (l ∷ ls) (s ∷ ss) → ⊥)
    by (inl lt) (inl h) = inl (lt, h)
    by (inl lt) (inr n) = inr (λ h. n h.1)
    by (inr ge) r = inr (λ h. let less : s < length l.sectors = h.0 in omega arith)

-- where no block has a bad tuple, each has a tuple of the legs
pub tuple_good : (ls : List LegValue) (bs : List BlockValue) (i : ℕ) → HasNone (BadTupleAt ls bs) → i < length bs → IsTuple ls (block_at bs i).tuple
tuple_good ls bs i none lt = by (tuple_or_not ls (block_at bs i).tuple)
  where
    by : IsTuple ls (block_at bs i).tuple ⊎ (IsTuple ls (block_at bs i).tuple → ⊥) → IsTuple ls (block_at bs i).tuple
    by (inl h) = h
    by (inr n) = absurd (none i (lt, n))

-- and of the block that is read at i
pub tuple_read : (ls : List LegValue) (bs : List BlockValue) (i : ℕ) (b : BlockValue) (t : List ℕ) → HasNone (BadTupleAt ls bs) → i < length bs → b ≡ get_or bs i b → t ≡ b.tuple → IsTuple ls t
tuple_read ls bs i b t none lt is e =
    let there : (block_at bs i).tuple ≡ t = ap (λ (k : BlockValue). k.tuple) (sym (block_read bs i b lt is)) ∙ sym e in
    subst (IsTuple ls) there (tuple_good ls bs i none lt)

-- a tuple that is not as long as the legs is none of them
pub bad_by_length : (ls : List LegValue) (bs : List BlockValue) (i : ℕ) (b : BlockValue) (t : List ℕ) → i < length bs → b ≡ get_or bs i b → t ≡ b.tuple → length t ≢ length ls → BadTupleAt ls bs i × (length (block_at bs i).tuple ≢ length ls)
bad_by_length ls bs i b t lt is e n =
    let there : t ≡ (block_at bs i).tuple = e ∙ ap (λ (k : BlockValue). k.tuple) (block_read bs i b lt is) in
    let long : length (block_at bs i).tuple ≢ length ls = subst (λ u. length u ≢ length ls) there n in
    ((lt, λ h. long (tuple_length ls (block_at bs i).tuple h)), long)

-- nor is one with a number that is no sector
pub bad_by_sector : (ls : List LegValue) (bs : List BlockValue) (i j : ℕ) (b : BlockValue) (t : List ℕ) → i < length bs → b ≡ get_or bs i b → t ≡ b.tuple → length t ≡ length ls → IsFirst (IsNoSector ls t) j →
    BadTupleAt ls bs i × (length (block_at bs i).tuple ≡ length ls) × IsFirst (IsNoSector ls (block_at bs i).tuple) j
bad_by_sector ls bs i j b t lt is e n first =
    let there : t ≡ (block_at bs i).tuple = e ∙ ap (λ (k : BlockValue). k.tuple) (block_read bs i b lt is) in
    let at : IsFirst (IsNoSector ls (block_at bs i).tuple) j = subst (λ u. IsFirst (IsNoSector ls u) j) there first in
    ((lt, λ h. sector_there ls (block_at bs i).tuple j h at.here), subst (λ u. length u ≡ length ls) there n, at)
