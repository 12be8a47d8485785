use Rattle.std.proofs.Common.{◌≡◌, ◌*◌, length, map, ap, ap₂, ◌∙◌, None}
use Rattle.std.specs.Option.{option_or}
use Rattle.std.proofs.lemmas.List.{length-map}
use Rattle.serde_json.specs.View.{view}
use Rattle.qn_parts.specs.Faults.{first_of}
use Rattle.qn_parts.specs.Tensors.{entry_or_zero}
use Rattle.qn_sumdoc.specs.Operators.{entries_data, entry_fault, rows_data, rows_fault}
use Rattle.qn_sumdoc.proofs.Rows.{full_table}
use Rattle.qn_sumdoc.proofs.operators.table.Goals as goal

pub returns : goal.returns
returns c =
    let rows = rows_data (view c.args.v.now) in
    let dim = c.args.dim in
    let is : map view c.items_at-rows.result.now ≡ rows = c.items_at-rows.ensures in
    let shape : rows_fault dim c.args.site c.args.op rows ≡ None = rw is at c.in_ok-check_rows.ensures.0 in
    let made = c.in_ok-made.ensures in
    let items : c.in_ok-made.made.items ≡ map entry_or_zero (entries_data rows) = made.1 ∙ ap (λ ds. map entry_or_zero (entries_data ds)) is in
    let none : first_of (entry_fault c.args.site c.args.op) (entries_data rows) ≡ None = rw is at made.0 in
    let full : length c.in_ok-made.made.items ≡ dim * dim = ap length items ∙ (length-map (entries_data rows) entry_or_zero ∙ full_table dim c.args.site c.args.op rows shape) in
    (ap₂ option_or shape none, (items, full))
