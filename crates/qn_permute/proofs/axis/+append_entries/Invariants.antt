use Rattle.std.proofs.Common.{◌+◌, ◌*◌, length}
use Rattle.qn_permute.specs.Axes.{places, entry_at_place}
use Rattle.qn_permute.proofs.Lines.{IsAppended}
use Rattle.qn_permute.proofs.axis.+append_entries.Given as goal

abbrev pub decreases-append_entries : goal.decreases-append_entries
decreases-append_entries l = length l.axes.now

abbrev pub invariant-loop-i : goal.invariant-loop-i
invariant-loop-i l = IsAppended (entry_at_place l.source l.minus) (λ i. places l.rest (l.start + i * l.axis.stride)) l.initial.out.items l.out.items l.axis.len l.i
