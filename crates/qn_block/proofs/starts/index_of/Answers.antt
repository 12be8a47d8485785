use Rattle.std.proofs.Common.{arith, ◌∙◌, ap}
use Rattle.std.proofs.lemmas.List.{length-set}
use Rattle.qn_index.proofs.Shapes.{rank}
use Rattle.qn_block.proofs.Located.{index_more}
use Rattle.qn_block.proofs.starts.index_of.Goals as goal

pub loop-i-preserved : goal.loop-i-preserved
loop-i-preserved g c = record {
  long = length-set c.loop-i.index.items c.tuple_number-number.result c.start.result ∙ c.loop-i.invariant.long;
  starts = index_more c.args.legs.now c.args.starts.now c.loop-i.index.items c.loop-i.i c.tuple_number-number.result c.start.result c.index-starts-i.result c.requires.tuples c.loop-i.invariant.long (omega arith) c.index-starts-i.is
      (c.tuple_number-number.ensures.number ∙ ap (rank c.args.legs.now) c.tuple.ensures) c.start.ensures c.loop-i.invariant.starts;
}
