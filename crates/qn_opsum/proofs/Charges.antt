-- The total charge of a term, operator by operator.
use Rattle.std.proofs.Common.{◌≡◌, ℕ, ℤ, zero, suc, ◌+◌, ◌*◌, ◌≤◌, ◌<◌, ◌^◌, List, [], ◌∷◌, length, get_or, drop, arith, refl, ap, ◌∙◌, sym, subst, add-one}
use Rattle.std.proofs.Math.Seq.{drop-length}
use Rattle.std.proofs.Math.ListN.{drop_of_length-le}
use Rattle.qn_charge.specs.declared.factor.Factor.{Factor}
use Rattle.qn_charge.specs.Charges.{IsCanonical, IsGroup, IsWithin, sum_charge, zero_charge}
use Rattle.qn_charge.specs.Laws.{associative_charge, canonical_sum, canonical_zero, commutative_charge, within_more, within_sum, within_zero, zero_is_neutral}
use Rattle.qn_index.specs.Tuples.{IsFlux}
use Rattle.qn_sites.specs.Operators.{OpValue}
use Rattle.qn_sites.specs.Sites.{SiteValue}
use Rattle.qn_opsum.specs.Sums.{charge_of, op_for}

-- the charges of the first i operators are added
pub record IsAdded (fs : List Factor) (ss : List SiteValue) (gs : List (ℕ × List ℕ)) (i : ℕ) (sum : List ℤ) : Type 0 where
  pub canonical : IsCanonical fs sum
  pub within : IsWithin (10000000 * i) fs sum
  pub rest : sum_charge fs sum (charge_of fs ss (drop i gs)) ≡ charge_of fs ss gs

charge_canonical : (fs : List Factor) (ss : List SiteValue) (gs : List (ℕ × List ℕ)) → IsGroup fs → IsCanonical fs (charge_of fs ss gs)
charge_canonical fs ss [] h = canonical_zero fs h
charge_canonical fs ss (f ∷ gs) h = canonical_sum fs (op_for ss f).charge (charge_of fs ss gs) h

pub added_first : (fs : List Factor) (ss : List SiteValue) (gs : List (ℕ × List ℕ)) (sum : List ℤ) → IsGroup fs → sum ≡ zero_charge fs → IsAdded fs ss gs 0 sum
added_first fs ss gs sum h e =
    subst (IsAdded fs ss gs 0) (sym e)
    (record { canonical = canonical_zero fs h; within = within_zero (10000000 * 0) fs; rest = zero_is_neutral fs (charge_of fs ss gs) (charge_canonical fs ss gs h) })

charge_step : (fs : List Factor) (ss : List SiteValue) (gs : List (ℕ × List ℕ)) (i : ℕ) (f : ℕ × List ℕ) → i < length gs → f ≡ get_or gs i f →
    charge_of fs ss (drop i gs) ≡ sum_charge fs (op_for ss f).charge (charge_of fs ss (drop (i + 1) gs))
charge_step fs ss [] i f lt e = absurd (omega arith)
charge_step fs ss (g ∷ gs) zero f lt e = ap (λ x. sum_charge fs (op_for ss x).charge (charge_of fs ss gs)) (sym e)
charge_step fs ss (g ∷ gs) (suc i) f lt e = charge_step fs ss gs i f (omega arith) e ∙ ap (λ k. sum_charge fs (op_for ss f).charge (charge_of fs ss (drop k (g ∷ gs)))) (next i)
  where
    next : (i : ℕ) → suc (i + 1) ≡ suc i + 1
    next i = omega arith

pub sum_fits : (fs : List Factor) (i : ℕ) (a b : List ℤ) → i ≤ 32 → IsWithin (10000000 * i) fs a → IsWithin 10000000 fs b → IsWithin (2 ^ 62) fs (sum_charge fs a b)
sum_fits fs i a b le v w = within_more (10000000 * i + 10000000) (2 ^ 62) fs (sum_charge fs a b) (omega arith) (within_sum (10000000 * i) 10000000 fs a b v w)

pub added_more : (fs : List Factor) (ss : List SiteValue) (gs : List (ℕ × List ℕ)) (i : ℕ) (f : ℕ × List ℕ) (o : OpValue) (sum new : List ℤ) → IsGroup fs → i < length gs → f ≡ get_or gs i f →
    o ≡ op_for ss f → IsWithin 10000000 fs o.charge → IsAdded fs ss gs i sum → new ≡ sum_charge fs sum o.charge → IsAdded fs ss gs (i + 1) new
added_more fs ss gs i f o sum new h lt is e w t n =
    subst (IsAdded fs ss gs (i + 1)) (sym n)
    (record {
      canonical = canonical_sum fs sum o.charge h;
      within = within_more (10000000 * i + 10000000) (10000000 * (i + 1)) fs (sum_charge fs sum o.charge) (omega arith) (within_sum (10000000 * i) 10000000 fs sum o.charge t.within w);
      rest =
          associative_charge fs sum o.charge (charge_of fs ss (drop (i + 1) gs)) h
          ∙ (ap (λ (p : OpValue). sum_charge fs sum (sum_charge fs p.charge (charge_of fs ss (drop (i + 1) gs)))) e
          ∙ (ap (sum_charge fs sum) (sym (charge_step fs ss gs i f lt is)) ∙ t.rest));
    })

pub added_all : (fs : List Factor) (ss : List SiteValue) (gs : List (ℕ × List ℕ)) (i : ℕ) (sum : List ℤ) → IsGroup fs → length gs ≤ i → i ≤ 32 → IsAdded fs ss gs i sum →
    (sum ≡ charge_of fs ss gs) × IsFlux fs sum
added_all fs ss gs i sum h ge le t = (
  sym (zero_is_neutral fs sum t.canonical) ∙ (commutative_charge fs (zero_charge fs) sum ∙ (ap (λ hs. sum_charge fs sum (charge_of fs ss hs)) (sym (drop_of_length-le gs ge)) ∙ t.rest)),
  record { canonical = t.canonical; within = within_more (10000000 * i) (2 ^ 50) fs sum (omega arith) t.within },
)
