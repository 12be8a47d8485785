use Rattle.qn_charge.specs.Charges.{zero_charge}
use Rattle.qn_doc.specs.Combiners.{table_legs}
use Rattle.qn_doc.proofs.Placing.{table_count}
use Rattle.qn_doc.proofs.Widths.{width_right, width_wrong}
use Rattle.qn_doc.proofs.tables.check_width.Goals as goal

pub returns-in-Ok : goal.returns-in-Ok
returns-in-Ok g c =
    let t = c.args.c.now in (
      width_right t.group c.args.tensor (table_legs c.args.split t) (zero_charge t.group) c.in-Ok.ensures.ok,
      record { few = c.requires.few; shape = c.in-Ok.ensures.ok },
    )

pub returns-in-Err : goal.returns-in-Err
returns-in-Err g c =
    let t = c.args.c.now in
    width_wrong t.group c.args.tensor (table_legs c.args.split t) (zero_charge t.group) c.in-Err.fault c.place.result (table_count c.args.split t c.requires.few) c.in-Err.ensures.err c.place.ensures
