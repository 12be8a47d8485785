use Rattle.std.proofs.Common.{rules, ◌≡◌, ◌+◌, ◌-◌, ◌++◌, take, drop, length, map, ap, ◌∙◌}
use Rattle.serde_json.specs.View.{view}
use Rattle.qn_parts.specs.declared.fault.DocFault.{DocFault}
use Rattle.qn_parts.specs.Faults.{Fails, first_from, first_of}
use Rattle.qn_parts.specs.Tensors.{entry_or_zero}
use Rattle.qn_sumdoc.specs.Operators.{entries_data, entry_fault}
use Rattle.qn_sumdoc.proofs.Rows.{row_added, row_fails, row_passed, rows_next}
use Rattle.qn_sumdoc.proofs.operators.entries.Goals as goal

pub returns-in_err-push_entries : goal.returns-in_err-push_entries
returns-in_err-push_entries c =
    let check = entry_fault c.args.site c.args.op in
    let rest = c.loop-rest.rest.now in
    let row = map view c.items.result.now in
    let rows = entries_data (map view (take (length rest - 1) (drop 1 rest))) in
    let is : entries_data (map view rest) ≡ row ++ rows = rows_next rest c.row-item.result c.in-len1-up.len_at_least c.row-item.is ∙ ap (λ ds. ds ++ rows) (search rules) in
    let fails : (e : DocFault) → Fails e (first_from check (length c.loop-rest.made.items + 1) row) → Fails e (first_of check (entries_data (map view c.args.rows.now))) =
    λ e h. row_fails check (length c.loop-rest.made.items + 1) row rows (entries_data (map view rest)) (first_of check (entries_data (map view c.args.rows.now))) e is c.loop-rest.invariant.walk h in
    search (rules, fails)

pub loop-rest-preserved : goal.loop-rest-preserved
loop-rest-preserved c =
    let check = entry_fault c.args.site c.args.op in
    let rest = c.loop-rest.rest.now in
    let row = map view c.items.result.now in
    let rows = entries_data (map view (take (length rest - 1) (drop 1 rest))) in
    let is : entries_data (map view rest) ≡ row ++ rows = rows_next rest c.row-item.result c.in-len1-up.len_at_least c.row-item.is ∙ ap (λ ds. ds ++ rows) (search rules) in
    let added = c.in_ok-push_entries.ensures in
    record {
      walk = row_passed check c.loop-rest.made.items c.push_entries.new.made.items row rows (entries_data (map view rest)) (first_of check (entries_data (map view c.args.rows.now))) added.1 is added.0 c.loop-rest.invariant.walk;
      made = row_added c.loop-rest.made.items c.push_entries.new.made.items (map entry_or_zero (entries_data (map view c.args.rows.now))) row rows (entries_data (map view rest)) added.1 is c.loop-rest.invariant.made;
    }
