use Rattle.std.proofs.Common.{◌≡◌, drop, length, map}
use Rattle.qn_sites.proofs.Made.{IsTested}
use Rattle.qn_sites.proofs.given.tested.Given as goal

abbrev pub invariant-loop-name : goal.invariant-loop-name
invariant-loop-name g l =
    (goal.iterator-loop-name g).can_next l.name-iterator
    × (goal.iterator-loop-name g).is_finite l.name-iterator
    × (l.name-iterator.rest.items ≡ drop (length l.tables.items) l.fn.ops.items)
    × IsTested l.group l.leg (map (λ o. record { name = o.0; charge = o.1; entries = o.2.items }) l.fn.ops.items) (length l.tables.items) l.tables.items
