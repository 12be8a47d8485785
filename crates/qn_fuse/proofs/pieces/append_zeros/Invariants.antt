use Rattle.std.proofs.Common.{◌≡◌, ◌++◌, []}
use Rattle.qn_fuse.specs.Pieces.{piece}
use Rattle.qn_fuse.proofs.pieces.append_zeros.Given as goal

abbrev pub invariant-loop : goal.invariant-loop
invariant-loop l = l.out.items ≡ l.initial.out.items ++ piece [] 0 l.counter
