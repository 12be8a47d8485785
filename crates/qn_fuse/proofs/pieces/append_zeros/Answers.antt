use Rattle.std.proofs.Common.{rules, ◌≡◌, ◌++◌, ◌∷◌, []}
use Rattle.qn_fuse.proofs.Loops.{zeros_more}
use Rattle.qn_fuse.proofs.pieces.append_zeros.Goals as goal

pub loop-preserved : goal.loop-preserved
loop-preserved c =
    let pushed : c.push.new.self.items ≡ c.loop.out.items ++ c.zero.result ∷ [] = search rules in
    zeros_more c.loop.counter c.zero.result c.args.out.now.items c.loop.out.items c.push.new.self.items c.loop.invariant pushed c.zero.ensures
