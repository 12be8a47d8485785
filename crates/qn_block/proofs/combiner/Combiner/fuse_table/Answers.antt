use Rattle.std.proofs.Common.{rules, of_calls, ◌≡◌, ◌∙◌, ap, sym, lit<}
use Rattle.qn_charge.specs.Charges.{zero_charge}
use Rattle.qn_value.specs.Tensors.{entry_of}
use Rattle.qn_block.specs.Blocked.{tensor_of}
use Rattle.qn_block.specs.Tables.{fuse_tensor, fuse_entry}
use Rattle.qn_block.proofs.TableRows.{fuse_is_tensor, fuse_entries}
use Rattle.qn_block.proofs.TableEntries.{is_table_of, all_entries}
use Rattle.qn_block.proofs.combiner.Combiner.fuse_table.Goals as goal

pub tensor_from-requires : goal.tensor_from-requires
tensor_from-requires g c =
    let r = is_table_of (fuse_tensor c.args.self.now) c.group-2.result.now c.group.result.now c.in_ok-legs.legs.items c.zero-flux.result (fuse_is_tensor c.args.self.now c.known.ensures) c.requires.shape c.group-2.ensures c.group.ensures c.in_ok-legs.ensures c.zero-flux.ensures.value in
    (lit< tt, (lit< tt, (lit< tt, (lit< tt, (r.charges, (r.flux, (r.shape, λ x m. (lit< tt, r.range x.now m))))))))

pub returns-clause-entries : goal.returns-clause-entries
returns-clause-entries g c =
    let fs = c.args.self.now.group in
    let t = c.in_ok-table.table in
    all_entries t (fuse_tensor c.args.self.now) c.known-2.ensures (fuse_is_tensor c.args.self.now c.known.ensures) (c.in_ok-table.ensures.group ∙ c.group-2.ensures) (c.in_ok-table.ensures.legs ∙ c.in_ok-legs.ensures)
    (c.in_ok-table.ensures.flux ∙ (c.zero-flux.ensures.value ∙ ap zero_charge c.group.ensures))
    (λ xs m.
    let a = c.in_ok-table.ensures.entries xs m in
    let made : entry_of (tensor_of t) xs ≡ fuse_entry fs c.args.self.now.legs c.args.self.now.arrow xs = search (rules, of_calls, a.says.met, a.shows) in
    made ∙ sym (fuse_entries c.args.self.now xs))
