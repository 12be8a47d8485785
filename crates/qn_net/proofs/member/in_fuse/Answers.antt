use Rattle.std.proofs.Common.{rules}
use Rattle.qn_block.specs.Combiners.{fused_leg}
use Rattle.qn_net.proofs.MemberLemmas.{flipped_leg}
use Rattle.qn_net.proofs.member.in_fuse.Goals as goal

-- src/member.rt:60:1
pub returns : goal.returns
returns g c =
    flipped_leg (fused_leg c.args.c.now.group c.args.c.now.legs c.args.c.now.arrow) c.args.c.now.legs c.args.leg c.index-legs-legs.result (search rules) c.requires (search rules)
