use Rattle.std.proofs.Common.{arith, sym, ◌∙◌, map}
use Rattle.std.proofs.lemmas.List.{length-map}
use Rattle.qn_engine.specs.Fusing.{source_value}
use Rattle.qn_engine.proofs.FusedArrays.{filled_more, mapped_at}
use Rattle.qn_engine.proofs.fusing.tensor_values.Goals as goal

pub loop-i-preserved : goal.loop-i-preserved
loop-i-preserved c =
    filled_more 0 64 c.loop-i.i c.source_value.result c.loop-i.values (map (source_value c.args.table.now c.args.left.now) c.args.sources.now) (omega (arith, c.requires.few, c.loop-i-test.true))
    (omega (arith, c.loop-i-test.true, length-map c.args.sources.now (source_value c.args.table.now c.args.left.now)))
    (mapped_at (source_value c.args.table.now c.args.left.now) c.args.sources.now c.loop-i.i _ c.loop-i-test.true ∙ sym c.source_value.ensures) c.loop-i.invariant
