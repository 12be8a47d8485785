use Rattle.std.proofs.Common.{◌≡◌, ◌∙◌, ◌++◌, ◌∷◌, [], ap, sym, subst, ℤ, List}
use Rattle.qn_index.specs.Weights.{WeightValue, IsTable}
use Rattle.qn_index.proofs.Counts.{row, table_end}
use Rattle.qn_index.proofs.table.Table.end.Goals as goal

pub returns : goal.returns
returns g c =
    let fs = c.args.group.now in
    let items : c.push.new.self.items ≡ row c.zero.result 1 ∷ [] = c.in_ok-push.ensures.items ∙ ap (λ (ws : List WeightValue). ws ++ row c.zero.result 1 ∷ []) c.new-rows.ensures.items in
    subst (λ (ws : List WeightValue). IsTable fs [] ws) (sym (items ∙ ap (λ (z : List ℤ). row z 1 ∷ []) c.zero.ensures.value)) (table_end fs c.known.ensures.group)
