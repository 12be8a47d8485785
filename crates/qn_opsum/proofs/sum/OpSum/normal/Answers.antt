use Rattle.std.proofs.Common.{lit<, ◌≡◌, ◌∙◌, ap, get_or}
use Rattle.std.proofs.lemmas.List.{get_or_default}
use Rattle.qn_opsum.specs.Sums.{no_term, term_at}
use Rattle.qn_opsum.proofs.sum.OpSum.normal.Goals as goal

pub normal_of-requires : goal.normal_of-requires
normal_of-requires g c =
    let same : c.index-terms-term.result ≡ term_at c.args.self.now.terms c.args.term =
    c.index-terms-term.is
    ∙ (ap (λ ws. get_or ws c.args.term c.index-terms-term.result) c.terms.ensures ∙ get_or_default c.args.self.now.terms c.args.term c.index-terms-term.result no_term c.requires) in
    (lit< tt, (lit< tt, (rw (c.group.ensures, c.sites.ensures) c.known.ensures.sites, rw (c.sites.ensures, c.factors.ensures, same) (c.known.ensures.good c.args.term c.requires))))
