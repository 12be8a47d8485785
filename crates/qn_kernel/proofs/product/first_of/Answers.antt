use Rattle.std.proofs.Common.{rules, arith}
use Rattle.qn_kernel.proofs.Places.{passing_at, clear_all, clear_more}
use Rattle.qn_kernel.proofs.product.first_of.Goals as goal

pub returns-in-Some-clause-some : goal.returns-in-Some-clause-some
returns-in-Some-clause-some c = passing_at c.args.products.now c.args.rows c.args.cols c.loop-x.x c.in-Some.y c.requires.shape c.loop-x.invariant c.loop-x-test.true c.in-Some.ensures.some

pub loop-x-preserved : goal.loop-x-preserved
loop-x-preserved c = clear_more c.args.products.now c.args.cols c.loop-x.x c.loop-x.invariant (search rules)

pub returns-clause-none : goal.returns-clause-none
returns-clause-none c = λ e. clear_all c.args.products.now c.args.rows c.args.cols c.requires.shape (λ i l. c.loop-x.invariant i (omega (arith, l)))
