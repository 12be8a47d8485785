use Rattle.std.proofs.Common.{◌++◌, arith, length-append}
use Rattle.std.proofs.KnownBytes.{Consumes-trans}
use Rattle.qn_outside.proofs.read_whole.read_all.Goals as goal
use Rattle.qn_facts.proofs.Results.{on_err}

pub returns-in_err-read_more-clause-part : goal.returns-in_err-read_more-clause-part
returns-in_err-read_more-clause-part g c =
    let all = c.loop-chunk.all.items in
    let more = c.in_err-read_more.ensures.part in
    on_err c.from_residual.result _ (
      all ++ more.0,
      Consumes-trans (g.S.Source.left c.args.source.now) (g.S.Source.left c.loop-chunk.source) (g.S.Source.left c.read_more.new.source) all more.0 c.loop-chunk.invariant.consumed more.1,
      omega (arith, length-append all more.0, more.2, c.loop-chunk.invariant.within),
    )
