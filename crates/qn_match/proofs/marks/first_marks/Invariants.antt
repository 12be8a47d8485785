use Rattle.std.proofs.Common.{◌≡◌}
use Rattle.qn_match.specs.Pairs.{is_first, marks}
use Rattle.qn_match.proofs.marks.first_marks.Given as goal

abbrev pub invariant-loop-leg : goal.invariant-loop-leg
invariant-loop-leg l = l.out.items ≡ marks (is_first l.shared) l.leg
