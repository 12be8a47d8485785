use Rattle.std.proofs.Common.{rules}
use Rattle.std.proofs.lemmas.Fn.{always_returns_same}
use Rattle.qn_block.proofs.Dagger.{below_test, below_order, sorted_ascending}
use Rattle.qn_block.proofs.conjugate.sort_blocks.Goals as goal

pub returns-clause-ascending : goal.returns-clause-ascending
returns-clause-ascending c = λ apart.
    let sorted = c.sort_unstable_by.ensures.sorted below_test below_order (always_returns_same _ _ _ (λ a r g called. search rules)) in
    sorted_ascending c.args.blocks.now.items c.sort_unstable_by.new.self.items apart c.sort_unstable_by.ensures.permutation sorted
