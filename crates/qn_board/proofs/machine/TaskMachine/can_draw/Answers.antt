use Rattle.qn_board.proofs.Acting.{can_draw}
use Rattle.qn_board.proofs.machine.TaskMachine.can_draw.Goals as goal

pub returns-in-Some : goal.returns-in-Some
returns-in-Some c =
    let l = can_draw c.args.self.now c.args.k c.in-Some.s.now c.in-Some.ensures.some in
    ((λ h. l.0 (c.has_unspent.ensures.0 h)), (λ h. c.has_unspent.ensures.1 (l.1 h)))
