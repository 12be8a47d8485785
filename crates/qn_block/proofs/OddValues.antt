-- Odd values of inward legs, and values backwards.
use Rattle.std.proofs.Common.{◌≡◌, ℕ, zero, suc, ◌-◌, ◌<◌, ◌&&◌, Bool, List, [], ◌∷◌, length, get_or, drop, reverse, arith, refl, ap, ◌∙◌, sym, subst}
use Rattle.std.proofs.lemmas.List.{get_or-reverse}
use Rattle.qn_charge.specs.declared.factor.Factor.{Factor}
use Rattle.qn_charge.specs.Charges.{xor}
use Rattle.qn_index.specs.Legs.{LegValue, parity_at, total}
use Rattle.qn_index.specs.Places.{IsValues}
use Rattle.qn_block.specs.Tables.{is_inward, odd_inward}
use Rattle.qn_block.proofs.Lookup.{values_length, value_at}

-- whether the leg is In and its value odd
abbrev pub is_odd_inward : List Factor → LegValue → ℕ → Bool
is_odd_inward fs l v = is_inward l.arrow && parity_at fs l.sectors v

odd_suc : (fs : List Factor) (ls : List LegValue) (vs : List ℕ) (i : ℕ) (l : LegValue) → i < length ls → length vs ≡ length ls → odd_inward fs (drop i ls) (drop i vs) ≡ xor (is_odd_inward fs (get_or ls i l) (get_or vs i 0)) (odd_inward fs (drop (suc i) ls) (drop (suc i) vs))
odd_suc fs [] vs i l lt n = absurd (omega arith)
odd_suc fs (k ∷ ls) [] i l lt n = absurd (omega arith)
odd_suc fs (k ∷ ls) (v ∷ vs) zero l lt n = refl
odd_suc fs (k ∷ ls) (v ∷ vs) (suc i) l lt n = odd_suc fs ls vs i l (omega arith) (omega arith)

-- one leg more, from the last
pub record IsOddBack (fs : List Factor) (ls : List LegValue) (vs : List ℕ) (i : ℕ) (l : LegValue) (v : ℕ) (b : Bool) : Type 0 where
  pub there : i - 1 < length vs
  pub below : v < total l.sectors
  pub next : xor (is_odd_inward fs l v) b ≡ odd_inward fs (drop (i - 1) ls) (drop (i - 1) vs)

pub odd_back : (fs : List Factor) (ls : List LegValue) (vs : List ℕ) (i : ℕ) (l : LegValue) (v : ℕ) (b : Bool) → IsValues ls vs → 0 < i → i - 1 < length ls → l ≡ get_or ls (i - 1) l → v ≡ get_or vs (i - 1) 0 → b ≡ odd_inward fs (drop i ls) (drop i vs) → IsOddBack fs ls vs i l v b
odd_back fs ls vs i l v b h pos lt is at e =
    let n = values_length ls vs h in
    let back : suc (i - 1) ≡ i = omega arith in
    record {
      there = omega (arith, n);
      below = subst (λ k. k < total l.sectors) (sym at) (value_at ls vs (i - 1) l h lt is);
      next = ap (xor (is_odd_inward fs l v)) e
          ∙ (ap (λ k. xor (is_odd_inward fs l v) (odd_inward fs (drop k ls) (drop k vs))) (sym back)
          ∙ (ap (λ (k : LegValue). xor (is_odd_inward fs k v) (odd_inward fs (drop (suc (i - 1)) ls) (drop (suc (i - 1)) vs))) is
          ∙ (ap (λ k. xor (is_odd_inward fs (get_or ls (i - 1) l) k) (odd_inward fs (drop (suc (i - 1)) ls) (drop (suc (i - 1)) vs))) at
          ∙ sym (odd_suc fs ls vs (i - 1) l lt n))));
    }

pub backwards_at : (xs : List ℕ) (i : ℕ) → i < length xs → get_or (reverse xs) i 0 ≡ get_or xs (length xs - 1 - i) 0
backwards_at xs i lt = get_or-reverse xs i 0 lt
