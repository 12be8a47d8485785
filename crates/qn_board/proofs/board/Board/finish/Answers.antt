use Rattle.std.proofs.Common.{refl}
use Rattle.qn_board.proofs.Boarding.{IsEnd, whole_end, end_some, end_none}
use Rattle.qn_board.proofs.board.Board.finish.Goals as goal

pub returns-then-least-clause-none : goal.returns-then-least-clause-none
returns-then-least-clause-none c =
    let e : IsEnd c.args.self.n c.last_words-next.result.0 c.last_words-next.result.1 c.args.seat.state = whole_end c.args.self.n c.args.self.whole c.last_words-next.result.0 c.last_words-next.result.1 c.args.seat.state c.last_words-next.ensures c.requires.whole in
    ((λ h. (end_none c.args.self.n c.last_words-next.result.0 c.last_words-next.result.1 c.args.seat.state e c.if-least.true).0), (λ h. refl))

pub returns-then-least-clause-drawn : goal.returns-then-least-clause-drawn
returns-then-least-clause-drawn c =
    let e : IsEnd c.args.self.n c.last_words-next.result.0 c.last_words-next.result.1 c.args.seat.state = whole_end c.args.self.n c.args.self.whole c.last_words-next.result.0 c.last_words-next.result.1 c.args.seat.state c.last_words-next.ensures c.requires.whole in
    e.drawn

pub returns-then-least-clause-spent : goal.returns-then-least-clause-spent
returns-then-least-clause-spent c =
    let e : IsEnd c.args.self.n c.last_words-next.result.0 c.last_words-next.result.1 c.args.seat.state = whole_end c.args.self.n c.args.self.whole c.last_words-next.result.0 c.last_words-next.result.1 c.args.seat.state c.last_words-next.ensures c.requires.whole in
    e.spent

pub returns-then-least-clause-all : goal.returns-then-least-clause-all
returns-then-least-clause-all c =
    let e : IsEnd c.args.self.n c.last_words-next.result.0 c.last_words-next.result.1 c.args.seat.state = whole_end c.args.self.n c.args.self.whole c.last_words-next.result.0 c.last_words-next.result.1 c.args.seat.state c.last_words-next.ensures c.requires.whole in
    e.all

pub returns-clause-none : goal.returns-clause-none
returns-clause-none c =
    let e : IsEnd c.args.self.n c.last_words-next.result.0 c.last_words-next.result.1 c.args.seat.state = whole_end c.args.self.n c.args.self.whole c.last_words-next.result.0 c.last_words-next.result.1 c.args.seat.state c.last_words-next.ensures c.requires.whole in
    ((λ h. absurd (cc h)), (λ h. absurd ((end_some c.args.self.n c.last_words-next.result.0 c.last_words-next.result.1 c.args.seat.state e c.if-least.false).1 h)))

pub returns-clause-least : goal.returns-clause-least
returns-clause-least c =
    let e : IsEnd c.args.self.n c.last_words-next.result.0 c.last_words-next.result.1 c.args.seat.state = whole_end c.args.self.n c.args.self.whole c.last_words-next.result.0 c.last_words-next.result.1 c.args.seat.state c.last_words-next.ensures c.requires.whole in
    (end_some c.args.self.n c.last_words-next.result.0 c.last_words-next.result.1 c.args.seat.state e c.if-least.false).0

pub returns-clause-drawn : goal.returns-clause-drawn
returns-clause-drawn c =
    let e : IsEnd c.args.self.n c.last_words-next.result.0 c.last_words-next.result.1 c.args.seat.state = whole_end c.args.self.n c.args.self.whole c.last_words-next.result.0 c.last_words-next.result.1 c.args.seat.state c.last_words-next.ensures c.requires.whole in
    e.drawn

pub returns-clause-spent : goal.returns-clause-spent
returns-clause-spent c =
    let e : IsEnd c.args.self.n c.last_words-next.result.0 c.last_words-next.result.1 c.args.seat.state = whole_end c.args.self.n c.args.self.whole c.last_words-next.result.0 c.last_words-next.result.1 c.args.seat.state c.last_words-next.ensures c.requires.whole in
    e.spent

pub returns-clause-all : goal.returns-clause-all
returns-clause-all c =
    let e : IsEnd c.args.self.n c.last_words-next.result.0 c.last_words-next.result.1 c.args.seat.state = whole_end c.args.self.n c.args.self.whole c.last_words-next.result.0 c.last_words-next.result.1 c.args.seat.state c.last_words-next.ensures c.requires.whole in
    e.all
