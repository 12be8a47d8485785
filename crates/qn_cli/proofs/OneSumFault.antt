-- The first fault of the terms of an operator sum is one, and an operator sum has none.
use Rattle.std.proofs.Common.{◌≡◌, ◌≤◌, ◌<◌, ℕ, zero, suc, List, length, refl, sym, ◌∙◌, ap, subst, ◌⊎◌, inl, inr, arith}
use Rattle.std.proofs.lemmas.Bool.{cases_lt}
use Rattle.qn_charge.specs.declared.factor.Factor.{Factor}
use Rattle.qn_charge.specs.Firsts.{IsFirst}
use Rattle.qn_sites.specs.Sites.{SiteValue}
use Rattle.qn_opsum.specs.declared.fault.SumFault.{SumFault}
use Rattle.qn_opsum.specs.declared.fault.SumFault.TheVariants.{TermCount, SiteRange, UnknownOp, MixedFlux, Memory}
use Rattle.qn_opsum.specs.Sums.{SumValue, TermValue, term_at}
use Rattle.qn_opsum.specs.Refusals.{BadSite, BadName, IsGood, IsTermFault, IsFirstTermFault, AllGood, OtherCharge, IsSumFault, IsSum}
use Rattle.qn_net.proofs.OneFault.{first_once}
use Rattle.qn_gen.proofs.FermionSums.{not_good}

too_many : (n : ℕ) → 32 < n → n ≤ 32 → ⊥
too_many n p q = omega (arith, p, q)

-- what is at fault in a term is one
one_in_term : (ss : List SiteValue) (gs : List (ℕ × List ℕ)) (t : ℕ) (e f : SumFault) → IsTermFault ss gs t e → IsTermFault ss gs t f → e ≡ f
one_in_term ss gs t TermCount f p q = absurd p
one_in_term ss gs t (MixedFlux u) f p q = absurd p
one_in_term ss gs t Memory f p q = absurd p
one_in_term ss gs t (UnknownOp u zero) f p q = absurd p
one_in_term ss gs t (SiteRange u zero) TermCount p q = absurd q
one_in_term ss gs t (SiteRange u zero) (SiteRange v zero) p q = ap (λ k. SiteRange k zero) (p.0 ∙ sym q.0)
one_in_term ss gs t (SiteRange u zero) (SiteRange v (suc j)) p q = absurd (too_many (length gs) p.1 q.1)
one_in_term ss gs t (SiteRange u zero) (UnknownOp v zero) p q = absurd q
one_in_term ss gs t (SiteRange u zero) (UnknownOp v (suc j)) p q = absurd (too_many (length gs) p.1 q.1)
one_in_term ss gs t (SiteRange u zero) (MixedFlux v) p q = absurd q
one_in_term ss gs t (SiteRange u zero) Memory p q = absurd q
one_in_term ss gs t (SiteRange u (suc i)) TermCount p q = absurd q
one_in_term ss gs t (SiteRange u (suc i)) (SiteRange v zero) p q = absurd (too_many (length gs) q.1 p.1)
one_in_term ss gs t (SiteRange u (suc i)) (SiteRange v (suc j)) p q =
    ap (λ k. SiteRange k (suc i)) (p.0 ∙ sym q.0) ∙ ap (λ k. SiteRange v (suc k)) (first_once (BadSite (length ss) gs) i j p.2 q.2)
one_in_term ss gs t (SiteRange u (suc i)) (UnknownOp v zero) p q = absurd q
one_in_term ss gs t (SiteRange u (suc i)) (UnknownOp v (suc j)) p q = absurd (q.2 i p.2.here)
one_in_term ss gs t (SiteRange u (suc i)) (MixedFlux v) p q = absurd q
one_in_term ss gs t (SiteRange u (suc i)) Memory p q = absurd q
one_in_term ss gs t (UnknownOp u (suc i)) TermCount p q = absurd q
one_in_term ss gs t (UnknownOp u (suc i)) (SiteRange v zero) p q = absurd (too_many (length gs) q.1 p.1)
one_in_term ss gs t (UnknownOp u (suc i)) (SiteRange v (suc j)) p q = absurd (p.2 j q.2.here)
one_in_term ss gs t (UnknownOp u (suc i)) (UnknownOp v zero) p q = absurd q
one_in_term ss gs t (UnknownOp u (suc i)) (UnknownOp v (suc j)) p q =
    ap (λ k. UnknownOp k (suc i)) (p.0 ∙ sym q.0) ∙ ap (λ k. UnknownOp v (suc k)) (first_once (BadName ss gs) i j p.3 q.3)
one_in_term ss gs t (UnknownOp u (suc i)) (MixedFlux v) p q = absurd q
one_in_term ss gs t (UnknownOp u (suc i)) Memory p q = absurd q

-- the first term at fault is one, and so is its fault
one_term_fault : (ss : List SiteValue) (ws : List TermValue) (e f : SumFault) → IsFirstTermFault ss ws e → IsFirstTermFault ss ws f → e ≡ f
one_term_fault ss ws e f p q = by (cases_lt p.term q.term) (cases_lt q.term p.term)
  where
    same : p.term ≡ q.term → e ≡ f
    same is = one_in_term ss (term_at ws q.term).factors q.term e f (subst (λ k. IsTermFault ss (term_at ws k).factors k e) is p.fault) q.fault

    by : (p.term < q.term) ⊎ (q.term ≤ p.term) → (q.term < p.term) ⊎ (p.term ≤ q.term) → e ≡ f
    by (inl lt) d = absurd (not_good ss (term_at ws p.term).factors p.term e p.fault (q.before p.term lt))
    by (inr ge) (inl lt) = absurd (not_good ss (term_at ws q.term).factors q.term f q.fault (p.before q.term lt))
    by (inr ge) (inr le) = same (omega (arith, ge, le))

no_term_fault : (ss : List SiteValue) (ws : List TermValue) (e : SumFault) → AllGood ss ws → IsFirstTermFault ss ws e → ⊥
no_term_fault ss ws e good p = not_good ss (term_at ws p.term).factors p.term e p.fault (good p.term p.within)

-- the first fault of the terms is one
pub one_sum_fault : (fs : List Factor) (ss : List SiteValue) (ws : List TermValue) (e f : SumFault) → IsSumFault fs ss ws e → IsSumFault fs ss ws f → e ≡ f
one_sum_fault fs ss ws TermCount TermCount p q = refl
one_sum_fault fs ss ws TermCount (SiteRange u i) p q = absurd (q.0 p)
one_sum_fault fs ss ws TermCount (UnknownOp u i) p q = absurd (q.0 p)
one_sum_fault fs ss ws TermCount (MixedFlux u) p q = absurd (q.0 p)
one_sum_fault fs ss ws TermCount Memory p q = absurd q
one_sum_fault fs ss ws (SiteRange t i) TermCount p q = absurd (p.0 q)
one_sum_fault fs ss ws (SiteRange t i) (SiteRange u j) p q = one_term_fault ss ws (SiteRange t i) (SiteRange u j) p.1 q.1
one_sum_fault fs ss ws (SiteRange t i) (UnknownOp u j) p q = one_term_fault ss ws (SiteRange t i) (UnknownOp u j) p.1 q.1
one_sum_fault fs ss ws (SiteRange t i) (MixedFlux u) p q = absurd (no_term_fault ss ws (SiteRange t i) q.1 p.1)
one_sum_fault fs ss ws (SiteRange t i) Memory p q = absurd q
one_sum_fault fs ss ws (UnknownOp t i) TermCount p q = absurd (p.0 q)
one_sum_fault fs ss ws (UnknownOp t i) (SiteRange u j) p q = one_term_fault ss ws (UnknownOp t i) (SiteRange u j) p.1 q.1
one_sum_fault fs ss ws (UnknownOp t i) (UnknownOp u j) p q = one_term_fault ss ws (UnknownOp t i) (UnknownOp u j) p.1 q.1
one_sum_fault fs ss ws (UnknownOp t i) (MixedFlux u) p q = absurd (no_term_fault ss ws (UnknownOp t i) q.1 p.1)
one_sum_fault fs ss ws (UnknownOp t i) Memory p q = absurd q
one_sum_fault fs ss ws (MixedFlux t) TermCount p q = absurd (p.0 q)
one_sum_fault fs ss ws (MixedFlux t) (SiteRange u j) p q = absurd (no_term_fault ss ws (SiteRange u j) p.1 q.1)
one_sum_fault fs ss ws (MixedFlux t) (UnknownOp u j) p q = absurd (no_term_fault ss ws (UnknownOp u j) p.1 q.1)
one_sum_fault fs ss ws (MixedFlux t) (MixedFlux u) p q = ap MixedFlux (first_once (OtherCharge fs ss ws) t u p.2 q.2)
one_sum_fault fs ss ws (MixedFlux t) Memory p q = absurd q
one_sum_fault fs ss ws Memory f p q = absurd p

-- the terms of an operator sum have no fault
pub no_sum_fault : (v : SumValue) (e : SumFault) → IsSum v → IsSumFault v.group v.sites v.terms e → ⊥
no_sum_fault v TermCount s p = s.count p
no_sum_fault v (SiteRange t i) s p = no_term_fault v.sites v.terms (SiteRange t i) s.good p.1
no_sum_fault v (UnknownOp t i) s p = no_term_fault v.sites v.terms (UnknownOp t i) s.good p.1
no_sum_fault v (MixedFlux t) s p = p.2.here.1 (s.charges t p.2.here.0 ∙ sym (s.charges 0 (omega (arith, p.2.here.0))))
no_sum_fault v Memory s p = p
