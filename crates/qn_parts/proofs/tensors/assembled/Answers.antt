use Rattle.std.proofs.Common.{subst, sym}
use Rattle.qn_block.specs.Blocked.{IsBlocked}
use Rattle.qn_parts.specs.Tensors.{IsOfDocument}
use Rattle.qn_parts.proofs.BlockWalk.{made_right, made_wrong}
use Rattle.qn_parts.proofs.tensors.assembled.Goals as goal

pub returns-in-Ok : goal.returns-in-Ok
returns-in-Ok g c = (
  made_right c.args.group.now c.args.number c.args.legs.items c.args.flux c.args.blocks.items (subst IsBlocked c.in-Ok.ensures.ok c.known.ensures),
  (c.in-Ok.ensures.ok, subst IsOfDocument (sym c.in-Ok.ensures.ok) (record { few = c.requires.few; flux = c.requires.within })),
)

pub returns-in-Err : goal.returns-in-Err
returns-in-Err g c =
    made_wrong c.args.group.now c.args.number c.args.legs.items c.args.flux c.args.blocks.items c.in-Err.fault c.place.result c.requires.few c.in-Err.ensures.err c.place.ensures
