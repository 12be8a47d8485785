use Rattle.std.proofs.Common.{◌∙◌, sym}
use Rattle.qn_fuse.proofs.Stored.{found_at, none_at}
use Rattle.qn_fuse.proofs.lookup.entries_at.Goals as goal

pub returns-in-Some : goal.returns-in-Some
returns-in-Some g c = c.entries.ensures ∙ sym (found_at c.args.t.now.blocks c.in-Some.block.now c.args.tuple.now c.known.ensures.ascending c.in-Some.ensures.0 c.in-Some.ensures.1)

pub returns-in-None : goal.returns-in-None
returns-in-None g c = sym (none_at c.args.t.now.blocks c.args.tuple.now c.in-None.ensures)
