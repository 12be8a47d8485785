use Rattle.std.proofs.Common.{◌≡◌, ◌++◌, drop}
use Rattle.std.specs.List.{flat_map}
use Rattle.qn_index.specs.Weights.{finished}
use Rattle.qn_index.proofs.partial.finish.Given as goal

abbrev pub invariant-loop-p : goal.invariant-loop-p
invariant-loop-p g l = l.out.items ++ flat_map (finished l.group) (drop l.p-index l.partials) ≡ flat_map (finished l.group) l.partials
