use Rattle.std.proofs.Common.{◌≡◌, ◌+◌, ◌*◌, ◌++◌, length}
use Rattle.std.specs.List.{flat_map}
use Rattle.qn_sign.specs.Positions.{positions}
use Rattle.qn_kernel.specs.Sources.{shared_places, stride_in}
use Rattle.qn_kernel.proofs.layout.+append_shared.Given as goal

abbrev pub decreases-append_shared : goal.decreases-append_shared
decreases-append_shared l = length l.axes.now

abbrev pub invariant-loop-value : goal.invariant-loop-value
invariant-loop-value l = l.out.items ≡ l.fn.out.items ++ flat_map (λ v. shared_places (stride_in l.second) l.rest (l.at + v * l.stride)) (positions l.value)
