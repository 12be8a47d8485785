use Rattle.std.proofs.Common.{◌<◌, negsuc, arith}
use Rattle.qn_net.specs.Refusals.{legs_with}
use Rattle.qn_net.proofs.LineLemmas.{stands_not}
use Rattle.qn_net.proofs.lines.first_missing.Goals as goal
use Rattle.qn_facts.proofs.Numbers.{one_more}

pub returns-then-not-has_negative-clause-some : goal.returns-then-not-has_negative-clause-some
returns-then-not-has_negative-clause-some c = record {
  here = stands_not (legs_with (negsuc c.loop-n.n) c.args.table.now) c.has_negative.result c.if-not-has_negative.true c.has_negative.ensures.1;
  before = λ j l z. let s = c.loop-n.invariant j l in absurd (omega (arith, s, z));
}

pub loop-n-preserved : goal.loop-n-preserved
loop-n-preserved c = one_more (λ k. 0 < legs_with (negsuc k) c.args.table.now) c.loop-n.n c.loop-n.invariant (c.has_negative.ensures.0 c.if-not-has_negative.false)
