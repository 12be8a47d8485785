use Rattle.std.proofs.Common.{ℕ, List, [], sym, ◌∙◌, subst₂}
use Rattle.qn_net.specs.Tables.{IsFilled}
use Rattle.qn_net.proofs.TableLemmas.{fill_none}
use Rattle.qn_net.proofs.table.LabelTable.new.Goals as goal

pub fill-requires-clause-empty : goal.fill-requires-clause-empty
fill-requires-clause-empty c =
    subst₂ (λ (ns ms : List ℕ). IsFilled c.deref.result.now [] ns ms)
    (sym (c.deref_mut.ensures.value ∙ c.in_ok-counts.ensures)) (sym (c.deref_mut-2.ensures.value ∙ c.in_ok-spots.ensures))
    (fill_none c.deref.result.now)
