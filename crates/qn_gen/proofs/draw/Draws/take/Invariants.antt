use Rattle.std.proofs.Common.{◌≡◌, map}
use Rattle.std.specs.List.{range_with_len}
use Rattle.qn_gen.specs.Workload.{drawn, turned}
use Rattle.qn_gen.proofs.draw.Draws.take.Given as goal

abbrev pub invariant-loop : goal.invariant-loop
invariant-loop l = record {
  values : l.numbers.items ≡ map (drawn l.fn.self.x) (range_with_len 0 l.counter);
  state : l.self.x ≡ turned l.fn.self.x l.counter;
}
