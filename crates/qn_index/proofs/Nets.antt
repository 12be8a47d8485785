-- The charge of a tuple, leg by leg from the last.
use Rattle.std.proofs.Common.{◌≡◌, ℕ, zero, suc, ◌+◌, ◌*◌, ◌⊎◌, inl, inr, ◌≤◌, ◌<◌, ◌-◌, ℤ, List, [], ◌∷◌, length, get_or, drop, arith, refl, ap, ◌∙◌, sym, subst, add-one}
use Rattle.qn_charge.specs.declared.factor.Factor.{Factor}
use Rattle.qn_charge.specs.Charges.{sum_charge, zero_charge, IsWithin, IsCanonical}
use Rattle.std.proofs.Math.Seq.{drop-length}
use Rattle.std.proofs.lemmas.Bool.{cases_lt}
use Rattle.std.proofs.lemmas.List.{get_or_default}
use Rattle.qn_charge.specs.Laws.{within_sum, within_more, within_zero}
use Rattle.qn_index.specs.Legs.{LegValue}
use Rattle.qn_index.specs.Tuples.{signed, net, IsTuple}

pub tuple_length : (ls : List LegValue) (t : List ℕ) → IsTuple ls t → length t ≡ length ls
tuple_length [] t h = ap length h
tuple_length (l ∷ ls) [] h = absurd h
tuple_length (l ∷ ls) (s ∷ ss) h = ap suc (tuple_length ls ss h.1)

pub tuple_at : (ls : List LegValue) (t : List ℕ) (i : ℕ) (l : LegValue) → IsTuple ls t → i < length ls → get_or t i 0 < length (get_or ls i l).sectors
tuple_at [] t i l h lt = absurd (omega arith)
tuple_at (k ∷ ls) [] i l h lt = absurd h
tuple_at (k ∷ ls) (s ∷ ss) zero l h lt = h.0
tuple_at (k ∷ ls) (s ∷ ss) (suc i) l h lt = tuple_at ls ss i l h.1 (omega arith)

-- one sector more in range
pub tuple_more : (ls : List LegValue) (t : List ℕ) (i : ℕ) (l : LegValue) → i < length ls → l ≡ get_or ls i l → get_or t i 0 < length l.sectors → ((k : ℕ) (d : LegValue) → k < i → get_or t k 0 < length (get_or ls k d).sectors) → (k : ℕ) (d : LegValue) → k < i + 1 → get_or t k 0 < length (get_or ls k d).sectors
tuple_more ls t i l lt is here old k d le = by (cases_lt k i)
  where
    by : (k < i) ⊎ (i ≤ k) → get_or t k 0 < length (get_or ls k d).sectors
    by (inl low) = old k d low
    by (inr high) =
        let same : i ≡ k = omega arith in
        subst (λ j. get_or t j 0 < length (get_or ls j d).sectors) same (subst (λ (m : LegValue). get_or t i 0 < length m.sectors) (is ∙ get_or_default ls i l d lt) here)

-- sectors in range, one for each leg
pub tuple_from : (ls : List LegValue) (t : List ℕ) → length t ≡ length ls → ((k : ℕ) (d : LegValue) → k < length ls → get_or t k 0 < length (get_or ls k d).sectors) → IsTuple ls t
tuple_from [] [] e h = refl
tuple_from [] (s ∷ ss) e h = absurd (omega arith)
tuple_from (l ∷ ls) [] e h = absurd (omega arith)
tuple_from (l ∷ ls) (s ∷ ss) e h = (h 0 l (omega arith), tuple_from ls ss (omega arith) (λ k d lt. h (suc k) d (omega arith)))

net_suc : (fs : List Factor) (ls : List LegValue) (t : List ℕ) (i : ℕ) (l : LegValue) → i < length ls → length t ≡ length ls → net fs (drop i ls) (drop i t) ≡ sum_charge fs (signed fs (get_or ls i l) (get_or t i 0)) (net fs (drop (suc i) ls) (drop (suc i) t))
net_suc fs [] t i l lt e = absurd (omega arith)
net_suc fs (k ∷ ls) [] i l lt e = absurd (omega arith)
net_suc fs (k ∷ ls) (s ∷ ss) zero l lt e = refl
net_suc fs (k ∷ ls) (s ∷ ss) (suc i) l lt e = net_suc fs ls ss i l (omega arith) (omega arith)

pub net_step : (fs : List Factor) (ls : List LegValue) (t : List ℕ) (i : ℕ) (l : LegValue) → i < length ls → length t ≡ length ls → net fs (drop i ls) (drop i t) ≡ sum_charge fs (signed fs (get_or ls i l) (get_or t i 0)) (net fs (drop (i + 1) ls) (drop (i + 1) t))
net_step fs ls t i l lt e = subst (λ k. net fs (drop i ls) (drop i t) ≡ sum_charge fs (signed fs (get_or ls i l) (get_or t i 0)) (net fs (drop k ls) (drop k t))) (sym (add-one i)) (net_suc fs ls t i l lt e)

-- the sum so far, over the legs from i on
pub record IsNet (fs : List Factor) (ls : List LegValue) (t : List ℕ) (i : ℕ) (sum : List ℤ) : Type 0 where
  pub value : sum ≡ net fs (drop i ls) (drop i t)
  pub canonical : IsCanonical fs sum
  pub within : IsWithin (1000000000 * (length ls - i)) fs sum

-- nothing is left after the last leg
net_end : (fs : List Factor) (ls : List LegValue) (t : List ℕ) → net fs (drop (length ls) ls) (drop (length ls) t) ≡ zero_charge fs
net_end fs ls t = ap (λ ks. net fs ks (drop (length ls) t)) (drop-length ls)

pub net_init : (fs : List Factor) (ls : List LegValue) (t : List ℕ) (sum : List ℤ) → sum ≡ zero_charge fs → IsCanonical fs sum → IsNet fs ls t (length ls) sum
net_init fs ls t sum e h = record {
  value = e ∙ sym (net_end fs ls t);
  canonical = h;
  within = subst (IsWithin (1000000000 * (length ls - length ls)) fs) (sym e) (within_zero (1000000000 * (length ls - length ls)) fs);
}

-- one leg more
pub net_more : (fs : List Factor) (ls : List LegValue) (t : List ℕ) (i : ℕ) (l : LegValue) (own sum all : List ℤ) → IsTuple ls t → i < length ls → IsNet fs ls t (i + 1) sum → l ≡ get_or ls i l → own ≡ signed fs l (get_or t i 0) → IsWithin 1000000000 fs own → all ≡ sum_charge fs own sum → IsCanonical fs all → IsNet fs ls t i all
net_more fs ls t i l own sum all h lt n is e w a k = record {
  value = a ∙ (ap (sum_charge fs own) n.value ∙ (ap (λ x. sum_charge fs x (net fs (drop (i + 1) ls) (drop (i + 1) t))) (e ∙ ap (λ m. signed fs m (get_or t i 0)) is) ∙ sym (net_step fs ls t i l lt (tuple_length ls t h))));
  canonical = k;
  within = subst (IsWithin (1000000000 * (length ls - i)) fs) (sym a) (within_more (1000000000 + 1000000000 * (length ls - (i + 1))) (1000000000 * (length ls - i)) fs (sum_charge fs own sum) (omega arith) (within_sum 1000000000 (1000000000 * (length ls - (i + 1))) fs own sum w n.within));
}
