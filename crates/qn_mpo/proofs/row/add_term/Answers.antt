use Rattle.std.proofs.Common.{rules, refl, lit<, ◌≡◌, ◌≢◌}
use Rattle.qn_auto.specs.Automaton.{begin}
use Rattle.qn_auto.specs.SumAutomaton.{sites_in, states}
use Rattle.qn_mpo.proofs.Products.{if_err, on_ok}
use Rattle.qn_mpo.proofs.Sums.{stops_here, term_elsewhere}
use Rattle.qn_mpo.proofs.row.add_term.Goals as goal

pub returns-then-begin-site-clause-ok : goal.returns-then-begin-site-clause-ok
returns-then-begin-site-clause-ok g c =
    let apart : begin c.args.term.now.factors ≢ c.args.scene.now.site = search rules in
    term_elsewhere (sites_in c.args.scene.now.sum) c.args.scene.now.site (states c.args.scene.now.sum c.args.scene.now.site) c.args.term.now c.args.sums.now c.args.sums.now refl apart

pub returns-then-begin-site-clause-none : goal.returns-then-begin-site-clause-none
returns-then-begin-site-clause-none g c = let apart : begin c.args.term.now.factors ≢ c.args.scene.now.site = search rules in λ p. apart p.0

pub add_begun-requires : goal.add_begun-requires
add_begun-requires g c = let same : begin c.args.term.now.factors ≡ c.args.scene.now.site = search rules in (lit< tt, (c.requires.known, (same, c.requires.count)))

pub returns-clause-ok : goal.returns-clause-ok
returns-clause-ok g c = c.add_begun.ensures.ok

pub returns-clause-length : goal.returns-clause-length
returns-clause-length g c = c.add_begun.ensures.length

pub returns-clause-none : goal.returns-clause-none
returns-clause-none g c = on_ok (λ f p. f p.1) c.add_begun.result c.add_begun.ensures.none

pub returns-clause-err : goal.returns-clause-err
returns-clause-err g c =
    let same : begin c.args.term.now.factors ≡ c.args.scene.now.site = search rules in
    if_err (stops_here (sites_in c.args.scene.now.sum) c.args.scene.now.site (states c.args.scene.now.sum c.args.scene.now.site) c.args.term.now c.args.sums.now same) c.add_begun.result c.add_begun.ensures.err

pub returns-clause-ticks : goal.returns-clause-ticks
returns-clause-ticks g c = c.add_begun.ensures.ticks
