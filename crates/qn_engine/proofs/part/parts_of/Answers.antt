use Rattle.std.proofs.Common.{List, [], ◌∷◌, ◌++◌, sym, ◌∙◌, ap₂}
use Rattle.qn_engine.specs.Parts.{PartValue}
use Rattle.qn_engine.proofs.Members.{parts_more}
use Rattle.qn_engine.proofs.part.parts_of.Goals as goal

pub loop-i-preserved : goal.loop-i-preserved
loop-i-preserved g c =
    c.in_ok-push.ensures.items
    ∙ ap₂ (λ (ps : List PartValue) (p : PartValue). ps ++ p ∷ []) c.loop-i.invariant c.in_ok-part_of.ensures
    ∙ sym (parts_more c.loop-i.i c.number_of.result c.args.members.now c.index-members-i.result c.loop-i-test.true c.index-members-i.is c.number_of.ensures)
