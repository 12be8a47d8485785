use Rattle.std.proofs.Common.{lit<, ◌≡◌, ◌⊎◌, ◌≤◌, ◌<◌, ◌∙◌, inl, inr, ap, arith, length, sym}
use Rattle.std.proofs.lemmas.Bool.{cases_lt, false≢true}
use Rattle.std.proofs.lemmas.List.{get_or_default}
use Rattle.qn_opsum.specs.Sums.{TermValue, charge_of, no_term, term_at}
use Rattle.qn_opsum.specs.Refusals.{BadCount}
use Rattle.qn_opsum.proofs.Lookups.{same_charges, some_terms}
use Rattle.qn_opsum.proofs.checks.checked.Goals as goal

pub term_charge-charge-requires : goal.term_charge-charge-requires
term_charge-charge-requires g c =
    let counted = λ (bad : BadCount c.args.terms.now). false≢true (c.if-is_bad_count.ensures.1 bad) in
    let lt = some_terms c.args.terms.now counted in (
      lit< tt,
      (
        lit< tt,
        (
          lit< tt,
          (
            c.requires,
            rw (c.factors.ensures, c.index-terms-0.is ∙ get_or_default c.args.terms.now 0 c.index-terms-0.result no_term lt) (c.in-None.ensures 0 lt),
          ),
        ),
      ),
    )

pub returns-clause-ok : goal.returns-clause-ok
returns-clause-ok g c =
    let counted = λ (bad : BadCount c.args.terms.now). false≢true (c.if-is_bad_count.ensures.1 bad) in
    let lt = some_terms c.args.terms.now counted in
    let first : c.factors.result.now ≡ (term_at c.args.terms.now 0).factors =
    c.factors.ensures ∙ ap (λ (w : TermValue). w.factors) (c.index-terms-0.is ∙ get_or_default c.args.terms.now 0 c.index-terms-0.result no_term lt) in
    let value : c.term_charge-charge.result ≡ charge_of c.args.group.now c.args.sites.now (term_at c.args.terms.now 0).factors =
    c.term_charge-charge.ensures.value ∙ ap (charge_of c.args.group.now c.args.sites.now) first in
    record {
      sites = c.requires;
      count = counted;
      good = c.in-None.ensures;
      charges = λ j within.
          same_charges (charge_of c.args.group.now c.args.sites.now (term_at c.args.terms.now j).factors) (charge_of c.args.group.now c.args.sites.now (term_at c.args.terms.now 0).factors)
          (λ other. c.in-None-first_other.ensures j (within, other)) ∙ sym value;
      flux = c.term_charge-charge.ensures.flux;
    }
