use Rattle.std.proofs.Common.{lit<, ◌≡◌, ◌∙◌, ap}
use Rattle.qn_sites.specs.Operators.{op_legs}
use Rattle.qn_sites.proofs.operator.OpTable.rule.Goals as goal

pub new-requires : goal.new-requires
new-requires g c =
    let facts = c.known_as_rule.ensures in
    let legs : c.in_ok-legs.legs.items ≡ op_legs c.args.self.leg = c.in_ok-legs.ensures ∙ ap op_legs c.leg.ensures in (
      lit< tt,
      (
        lit< tt,
        (
          lit< tt,
          (
            lit< tt,
            (
              rw (legs, c.group.ensures) facts.charges,
              (
                rw (c.group.ensures, c.charge.ensures) facts.flux,
                (
                  (λ xs values. rw legs at values),
                  rw (legs, c.group.ensures, c.charge.ensures) facts.conserves,
                ),
              ),
            ),
          ),
        ),
      ),
    )
