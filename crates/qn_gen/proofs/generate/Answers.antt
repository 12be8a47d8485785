use Rattle.qn_gen.proofs.Wholes.{is_bra, is_ket, is_sum}
use Rattle.qn_gen.proofs.generate.Goals as goal

pub returns-clause-sum : goal.returns-clause-sum
returns-clause-sum c = is_sum c.args.seed c.site_count-count.result c.new-draws.result.x c.in_ok-sum.sum c.site_count-count.ensures.value c.new-draws.ensures c.in_ok-sum.ensures.value

pub returns-clause-bra : goal.returns-clause-bra
returns-clause-bra c = is_bra c.args.seed c.site_count-count.result c.new-draws.result.x c.operator_sum.new.draws.x c.in_ok-bra.bra c.site_count-count.ensures.value c.new-draws.ensures c.in_ok-sum.ensures.state c.in_ok-bra.ensures.state

pub returns-clause-ket : goal.returns-clause-ket
returns-clause-ket c =
    is_ket c.args.seed c.site_count-count.result c.new-draws.result.x c.operator_sum.new.draws.x c.drawn_state.new.draws.x c.in_ok-ket.ket c.site_count-count.ensures.value c.new-draws.ensures c.in_ok-sum.ensures.state c.in_ok-bra.ensures.draws c.in_ok-ket.ensures.state
