use Rattle.std.proofs.Common.{rules}
use Rattle.std.specs.Cmp.Lexicographic.{slice_cmp}
use Rattle.std.specs.Ordering.{nat_cmp}
use Rattle.std.proofs.lemmas.Fn.{always_returns_same}
use Rattle.qn_trace.proofs.Numbering.{tuple_found}
use Rattle.qn_trace.proofs.numbers.find.Goals as goal

pub returns-in-Ok : goal.returns-in-Ok
returns-in-Ok c =
    let facts = c.binary_search_by.ensures in
    let ordered = facts.position (λ u. slice_cmp nat_cmp u c.args.sectors.now) (always_returns_same _ _ _ (λ a r g called. search rules)) in
    let found = tuple_found c.args.tuples.now c.args.sectors.now c.binary_search_by.result c.requires facts.bound ordered in
    rw c.in-Ok.is at found

pub returns-in-Err : goal.returns-in-Err
returns-in-Err c =
    let facts = c.binary_search_by.ensures in
    let ordered = facts.position (λ u. slice_cmp nat_cmp u c.args.sectors.now) (always_returns_same _ _ _ (λ a r g called. search rules)) in
    let found = tuple_found c.args.tuples.now c.args.sectors.now c.binary_search_by.result c.requires facts.bound ordered in
    rw c.in-Err.is at found
