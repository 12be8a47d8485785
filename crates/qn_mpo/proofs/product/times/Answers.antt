use Rattle.std.proofs.Common.{arith, subst, sym}
use Rattle.qn_mpo.specs.Tables.{IsTableOf, entry_size, entry_sum}
use Rattle.qn_mpo.proofs.Tables.{none_large, table_from, ticks_within}
use Rattle.qn_mpo.proofs.product.times.Goals as goal

pub returns-in_err-push-in-Some-clause-ticks : goal.returns-in_err-push-in-Some-clause-ticks
returns-in_err-push-in-Some-clause-ticks g c =
    ticks_within c.args.steps.now c.args.dim c.loop-place.place c.loop-place.steps c.product_entry.new.steps (omega arith) c.loop-place.invariant.ticks c.product_entry.ensures.ticks

pub returns-in-None-clause-ticks : goal.returns-in-None-clause-ticks
returns-in-None-clause-ticks g c =
    ticks_within c.args.steps.now c.args.dim c.loop-place.place c.loop-place.steps c.product_entry.new.steps (omega arith) c.loop-place.invariant.ticks c.product_entry.ensures.ticks

pub returns-clause-ok : goal.returns-clause-ok
returns-clause-ok g c =
    subst (IsTableOf c.args.dim (entry_sum c.args.dim c.args.left.now c.args.right.now)) (sym c.new.ensures)
    (table_from c.args.dim (entry_sum c.args.dim c.args.left.now c.args.right.now) c.loop-place.entries.items c.loop-place.place c.loop-place.invariant.full (omega arith) (omega arith) c.loop-place.invariant.entries)

pub returns-clause-fits : goal.returns-clause-fits
returns-clause-fits g c =
    none_large c.args.dim (entry_size c.args.dim c.args.left.now c.args.right.now) c.loop-place.place (omega arith) c.loop-place.invariant.fits
