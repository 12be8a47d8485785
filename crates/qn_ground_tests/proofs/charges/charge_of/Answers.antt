use Rattle.std.proofs.Common.{arith, ap, ◌∙◌, ◌≡◌, ◌^◌, length}
use Rattle.qn_charge.specs.Laws.{in_range}
use Rattle.qn_ground_tests.proofs.charges.charge_of.Goals as goal

pub returns-clause-canonical : goal.returns-clause-canonical
returns-clause-canonical g c =
    let whole : length c.args.parts.now ≡ length c.args.group.now = omega arith in
    let same = ap length c.new-charge.ensures ∙ whole in
    (in_range (2 ^ 60) c.args.group.now c.new-charge.result same c.in-None.ensures).0

pub returns-clause-within : goal.returns-clause-within
returns-clause-within g c =
    let whole : length c.args.parts.now ≡ length c.args.group.now = omega arith in
    let same = ap length c.new-charge.ensures ∙ whole in
    (in_range (2 ^ 60) c.args.group.now c.new-charge.result same c.in-None.ensures).1
