use Rattle.std.proofs.Common.{lit<, ◌∙◌, ap, subst}
use Rattle.std.proofs.lemmas.List.{get_or_default}
use Rattle.qn_opsum.specs.Sums.{TermValue, no_term}
use Rattle.qn_opsum.specs.Refusals.{IsGood}
use Rattle.qn_opsum.proofs.checks.first_other.Goals as goal

pub term_charge-requires : goal.term_charge-requires
term_charge-requires g c = (
  lit< tt,
  (
    lit< tt,
    (
      lit< tt,
      (
        c.requires.sites,
        rw (c.factors.ensures, c.index-terms-i.is ∙ get_or_default c.args.terms.now c.loop-i.i c.index-terms-i.result no_term c.loop-i-test.true) (c.requires.good c.loop-i.i c.loop-i-test.true),
      ),
    ),
  ),
)
