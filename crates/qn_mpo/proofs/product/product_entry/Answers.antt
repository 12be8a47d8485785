use Rattle.std.proofs.Common.{arith, refl}
use Rattle.qn_gauss.specs.Gaussian.{zero_g}
use Rattle.qn_mpo.specs.Tables.{cell}
use Rattle.qn_mpo.proofs.Tables.{entry_passes, nothing_more, size_more, value_more}
use Rattle.qn_mpo.proofs.product.product_entry.Goals as goal

pub loop-v-init : goal.loop-v-init
unfolding zero_g
loop-v-init g c = record { value = refl; size = refl; ticks = omega arith }

pub returns-in-None-clause-value : goal.returns-in-None-clause-value
returns-in-None-clause-value g c =
    entry_passes c.args.dim c.args.left.now c.args.right.now c.args.row c.args.column c.loop-v.v c.loop-v.sum c.cell-first.result c.cell-second.result (omega arith) c.loop-v.invariant.size c.cell-first.ensures c.cell-second.ensures c.in-None.ensures.value

pub loop-v-preserved : goal.loop-v-preserved
loop-v-preserved g c = record {
  value = value_more c.args.dim c.args.left.now c.args.right.now c.args.row c.args.column c.loop-v.v c.loop-v.sum c.in-Some.more c.cell-first.result c.cell-second.result c.loop-v.invariant.value c.cell-first.ensures c.cell-second.ensures c.in-Some.ensures.value;
  size = size_more c.args.dim c.args.left.now c.args.right.now c.args.row c.args.column c.loop-v.v c.loop-v.sum c.in-Some.more c.cell-first.result c.cell-second.result c.loop-v.invariant.size c.cell-first.ensures c.cell-second.ensures c.in-Some.ensures.value;
  ticks = omega (arith, c.loop-v.invariant.ticks, c.plus.ensures.ticks);
}

pub loop-v-preserved-then-is_zero : goal.loop-v-preserved-then-is_zero
loop-v-preserved-then-is_zero g c =
    let second = cell c.args.dim c.args.right.now c.loop-v.v c.args.column in
    let same = nothing_more c.loop-v.sum c.cell-first.result second (c.is_zero.ensures.0 c.if-is_zero.true) in
    record {
      value = value_more c.args.dim c.args.left.now c.args.right.now c.args.row c.args.column c.loop-v.v c.loop-v.sum c.loop-v.sum c.cell-first.result second c.loop-v.invariant.value c.cell-first.ensures refl same;
      size = size_more c.args.dim c.args.left.now c.args.right.now c.args.row c.args.column c.loop-v.v c.loop-v.sum c.loop-v.sum c.cell-first.result second c.loop-v.invariant.size c.cell-first.ensures refl same;
      ticks = omega (arith, c.loop-v.invariant.ticks);
    }
