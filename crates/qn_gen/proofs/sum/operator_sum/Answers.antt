use Rattle.std.proofs.Common.{◌≡◌, ◌∙◌, ap, arith, length, lit<, subst, sym, List}
use Rattle.std.specs.List.{All}
use Rattle.qn_sites.specs.Sites.{SiteValue}
use Rattle.qn_gen.proofs.FermionSums.{flux_is, groups_of, length_sites, no_fault_of}
use Rattle.qn_gen.specs.Workload.{sites}
use Rattle.qn_gen.proofs.sum.operator_sum.Goals as goal

pub new-requires : goal.new-requires
new-requires c =
    let e : c.in_ok-sites.sites.items ≡ sites c.args.count = c.in_ok-sites.ensures in
    let long : length c.in_ok-sites.sites.items ≡ c.args.count = ap (λ (ss : List SiteValue). length ss) e ∙ length_sites c.args.count in
    (lit< tt, (lit< tt, (lit< tt, (omega (arith, long), (omega (arith, long), subst (λ (ss : List SiteValue). All (λ (s : SiteValue). s.group ≡ c.args.group.now) ss) (sym e) (groups_of c.args.count c.args.group.now c.requires.group))))))

pub unreachable-requires : goal.unreachable-requires
unreachable-requires c =
    no_fault_of c.args.draws.now.x c.args.count c.in-Err.field-0 c.args.group.now c.in_ok-sites.sites.items c.in_ok-terms.terms.items c.requires.group c.in_ok-sites.ensures c.in_ok-terms.ensures.terms (omega arith) (omega arith) c.in-Err.ensures.err

pub returns-clause-value : goal.returns-clause-value
returns-clause-value c =
    let flux = flux_is c.args.draws.now.x c.args.count c.args.group.now c.in_ok-sites.sites.items c.in_ok-terms.terms.items c.requires.group c.in_ok-sites.ensures c.in_ok-terms.ensures.terms (omega arith) in
    let group = c.requires.group in
    let sites = c.in_ok-sites.ensures in
    let terms = c.in_ok-terms.ensures.terms in
    let made = c.in-Ok.ensures.ok in
    cc
