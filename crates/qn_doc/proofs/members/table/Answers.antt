use Rattle.std.proofs.Common.{rules, ◌≡◌, true, false}
use Rattle.serde_json.specs.View.{view}
use Rattle.qn_doc.specs.Combiners.{is_split}
use Rattle.qn_doc.proofs.Placing.{table_is, table_is_placed}
use Rattle.qn_doc.proofs.members.table.Goals as goal

pub returns-then-is_split : goal.returns-then-is_split
returns-then-is_split g c =
    let h = c.in_ok-combiner.ensures in
    let mode : is_split (view c.args.v.now) ≡ true = search rules in (
      h.0,
      (
        table_is c.args.group.now (view c.args.v.now) true c.in_ok-combiner.combiner mode h.1.0,
        table_is_placed c.args.group.now (view c.args.v.now) true c.in_ok-combiner.combiner mode h.1.0 h.1.1,
      ),
    )

pub returns-else-is_split : goal.returns-else-is_split
returns-else-is_split g c =
    let h = c.in_ok-combiner.ensures in
    let mode : is_split (view c.args.v.now) ≡ false = search rules in (
      h.0,
      (
        table_is c.args.group.now (view c.args.v.now) false c.in_ok-combiner.combiner mode h.1.0,
        table_is_placed c.args.group.now (view c.args.v.now) false c.in_ok-combiner.combiner mode h.1.0 h.1.1,
      ),
    )
