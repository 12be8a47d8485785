use Rattle.std.proofs.Common.{◌≡◌, map, take}
use Rattle.qn_match.specs.Index.{with_row}
use Rattle.qn_match.proofs.filling.add_row.Given as goal

abbrev pub invariant-loop-j : goal.invariant-loop-j
invariant-loop-j l = l.tasks.items ≡ map (with_row l.i l.left l.lefts (take l.j-index l.positions)) l.initial.tasks.items
