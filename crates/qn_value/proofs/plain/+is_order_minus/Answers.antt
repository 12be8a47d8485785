use Rattle.std.proofs.Common.{rules}
use Rattle.qn_value.specs.Networks.{same_end, odd_end}
use Rattle.qn_value.specs.Numbering.{parity_in, assignment_of}
use Rattle.qn_value.proofs.PlainLemmas.{order_step}
use Rattle.qn_value.proofs.plain.+is_order_minus.Goals as goal

pub returns-in-Some : goal.returns-in-Some
returns-in-Some t c =
    order_step same_end (odd_end (parity_in c.args.parities.now) (assignment_of c.args.summand.now)) c.args.word.now c.in-Some.end.now c.in-Some.later.now c.args.goal.now
    c.is_passed_oddly.result c.is_order_minus.result (search rules) (search rules) (search rules)
