use Rattle.qn_sumdoc.specs.States.{any_states}
use Rattle.qn_cli.proofs.ExpectBytes.{states_with_sum}
use Rattle.qn_cli.proofs.expectations.expect.Goals as goal

pub any_expect_text-requires-clause-sum : goal.any_expect_text-requires-clause-sum
any_expect_text-requires-clause-sum g c κs within = states_with_sum c.args.bytes.now (any_states c.in_ok-any.any) c.in_ok-any.ensures.ok
