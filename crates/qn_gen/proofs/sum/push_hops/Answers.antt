use Rattle.std.proofs.Common.{◌≡◌, ◌∙◌, ◌-◌, ◌++◌, ap, arith, ℕ}
use Rattle.std.specs.List.{flat_map, range_with_len}
use Rattle.qn_gen.specs.Workload.{hops}
use Rattle.qn_gen.proofs.TermLists.{hops_more}
use Rattle.qn_gen.proofs.sum.push_hops.Goals as goal

pub loop-site-preserved : goal.loop-site-preserved
loop-site-preserved c = record {
  some = omega arith;
  within = omega arith;
  terms = hops_more c.args.terms.now.items c.loop-site.terms.items c.push.new.self.items c.push-in-loop-site.new.self.items c.in_ok-hop.field-0 c.in_ok-hop-2.field-0 c.loop-site.site c.loop-site.invariant.some c.loop-site.invariant.terms c.in_ok-hop.ensures c.in_ok-push.ensures.items c.in_ok-hop-2.ensures c.in_ok-push-2.ensures.items;
}

pub returns : goal.returns
returns c =
    let e : c.loop-site.site - 1 ≡ c.args.count - 1 = omega arith in
    c.loop-site.invariant.terms ∙ ap (λ (k : ℕ). c.args.terms.now.items ++ flat_map hops (range_with_len 1 k)) e
