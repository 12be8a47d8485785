use Rattle.std.proofs.Common.{lit<}
use Rattle.qn_block.proofs.Sound.{small_at, sound_blocks, sound_ascending}
use Rattle.qn_block.proofs.new.check_blocks.Goals as goal

pub first_bad_length-requires : goal.first_bad_length-requires
first_bad_length-requires g c =
    (lit< tt, (c.in-None.ensures, λ i lt. small_at c.args.group.now c.args.legs.now c.args.flux.now c.args.blocks.now i c.requires.shape c.in-None.ensures c.in-None-first_off_flux.ensures lt))

pub returns-clause-blocks : goal.returns-clause-blocks
returns-clause-blocks g c =
    sound_blocks c.args.group.now c.args.legs.now c.args.flux.now c.args.blocks.now c.requires.shape c.in-None.ensures c.in-None-first_off_flux.ensures c.in-None-first_bad_length.ensures

pub returns-clause-ascending : goal.returns-clause-ascending
returns-clause-ascending g c = sound_ascending c.args.blocks.now c.in-None-first_not_ascending.ensures
