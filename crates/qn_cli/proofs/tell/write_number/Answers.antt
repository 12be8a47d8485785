use Rattle.std.specs.Prelude.{decimal}
use Rattle.qn_cli.proofs.Pieces.{some_front}
use Rattle.qn_cli.proofs.tell.write_number.Goals as goal

pub returns-else-later-clause-part : goal.returns-else-later-clause-part
returns-else-later-clause-part g c =
    rw c.if-later.false (some_front c.write_all.result (g.E.Sink.held c.args.err.now) (g.E.Sink.held c.write_all.new.out) (decimal c.args.n) (rw (c.as_bytes-number.ensures.value, c.format.ensures.text) at c.write_all.ensures.part))
