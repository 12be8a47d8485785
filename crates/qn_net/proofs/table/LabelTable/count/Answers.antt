use Rattle.std.proofs.Common.{ℕ, List, ◌∙◌, ap, ap₂, slice_index_or}
use Rattle.qn_net.specs.Refusals.{tally}
use Rattle.qn_net.proofs.table.LabelTable.count.Goals as goal

pub returns : goal.returns
returns c =
    ap₂ (λ (ns : List ℕ) (k : ℕ). slice_index_or ns k 0) c.as_slice-counts.ensures.value c.cell_of.ensures.cell
    ∙ c.self.invariant.1.counted c.args.end c.requires ∙ ap (tally c.args.end) c.self.view_is
