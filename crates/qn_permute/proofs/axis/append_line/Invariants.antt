use Rattle.qn_permute.specs.Axes.{places, entry_at_place}
use Rattle.std.proofs.Common.{◌+◌, ◌*◌, []}
use Rattle.qn_permute.proofs.Lines.{IsAppended}
use Rattle.qn_permute.proofs.axis.append_line.Given as goal

abbrev pub invariant-loop-i : goal.invariant-loop-i
invariant-loop-i l = IsAppended (entry_at_place l.source l.minus) (λ i. places [] (l.start + i * l.axis.stride)) l.initial.out.items l.out.items l.axis.len l.i
