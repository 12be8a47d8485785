use Rattle.std.proofs.Common.{◌≡◌, ◌-◌, ◌≤◌, length}
use Rattle.std.specs.Io.KnownBytes.{Consumes}
use Rattle.qn_outside.proofs.read_whole.read_all.Given as goal

-- all that came so far, at most one byte too many
abbrev pub invariant-loop-chunk : goal.invariant-loop-chunk
invariant-loop-chunk g l = record {
  within : length l.all.items ≤ 67108865;
  chunk : length l.chunk ≡ 65536;
  consumed : Consumes (g.S.Source.left l.initial.source) (g.S.Source.left l.source) l.all.items;
  count : g.S.Source.faults l.initial.source ≤ g.S.Source.faults l.source;
}

-- each read but the last takes a byte
abbrev pub decreases-loop-chunk : goal.decreases-loop-chunk
decreases-loop-chunk g l = 67108865 - length l.all.items
