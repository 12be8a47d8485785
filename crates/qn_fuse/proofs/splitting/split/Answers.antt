use Rattle.std.proofs.Common.{◌+◌, ◌∙◌, ap, take, drop}
use Rattle.qn_block.specs.Blocked.{BlockedValue}
use Rattle.qn_fuse.proofs.Parts.{are_split, wide_placed, take_length}
use Rattle.qn_fuse.proofs.splitting.split.Goals as goal

pub returns-clause-fused : goal.returns-clause-fused
returns-clause-fused g c =
    are_split c.args.c.now c.args.at c.args.t.now c.in_ok-result.result c.canonical.result c.known-2.ensures c.known.ensures c.known-3.ensures c.requires.group c.requires.leg c.in_ok-result.ensures.value (record {
      group = ap (λ (r : BlockedValue). r.group) c.canonical.ensures.blocks;
      legs = ap (λ (r : BlockedValue). r.legs) c.canonical.ensures.blocks;
      flux = ap (λ (r : BlockedValue). r.flux) c.canonical.ensures.blocks;
      entries = c.canonical.ensures.entries;
    })

pub returns-clause-legs : goal.returns-clause-legs
returns-clause-legs g c =
    wide_placed c.args.c.now c.args.at (take c.args.at c.args.t.now.legs) (drop (c.args.at + 1) c.args.t.now.legs) c.canonical.result.legs
    (take_length c.args.at c.args.t.now.legs c.requires.leg.within) (ap (λ (r : BlockedValue). r.legs) c.canonical.ensures.blocks ∙ c.in_ok-result.ensures.value.legs)
