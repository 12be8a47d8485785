use Rattle.std.proofs.Common.{◌+◌, ◌∙◌, ap, length, take, drop}
use Rattle.qn_block.specs.Blocked.{BlockedValue}
use Rattle.qn_fuse.proofs.Parts.{are_fused, fused_placed, take_length}
use Rattle.qn_fuse.proofs.fusing.fuse.Goals as goal

pub returns-clause-fused : goal.returns-clause-fused
returns-clause-fused g c =
    are_fused c.args.c.now c.args.first c.args.t.now c.in_ok-result.result c.canonical.result c.known-2.ensures c.known.ensures c.known-3.ensures c.requires.group c.requires.legs c.in_ok-result.ensures (record {
      group = ap (λ (r : BlockedValue). r.group) c.canonical.ensures.blocks;
      legs = ap (λ (r : BlockedValue). r.legs) c.canonical.ensures.blocks;
      flux = ap (λ (r : BlockedValue). r.flux) c.canonical.ensures.blocks;
      entries = c.canonical.ensures.entries;
    })

pub returns-clause-leg : goal.returns-clause-leg
returns-clause-leg g c =
    fused_placed c.args.c.now c.args.first (take c.args.first c.args.t.now.legs) (drop (c.args.first + length c.args.c.now.legs) c.args.t.now.legs) c.canonical.result.legs
    (take_length c.args.first c.args.t.now.legs c.requires.legs.within) (ap (λ (r : BlockedValue). r.legs) c.canonical.ensures.blocks ∙ c.in_ok-result.ensures.legs)
