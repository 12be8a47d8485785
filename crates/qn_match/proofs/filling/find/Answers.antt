use Rattle.std.proofs.Common.{rules}
use Rattle.std.specs.Cmp.Lexicographic.{slice_cmp}
use Rattle.std.specs.Ordering.{nat_cmp}
use Rattle.std.proofs.lemmas.Fn.{always_returns_same}
use Rattle.qn_match.specs.Pairs.{TaskValue}
use Rattle.qn_match.proofs.Added.{task_found}
use Rattle.qn_match.proofs.filling.find.Goals as goal

pub returns-in-Ok : goal.returns-in-Ok
returns-in-Ok c =
    let facts = c.binary_search_by.ensures in
    let ordered = facts.position (λ (t : TaskValue). slice_cmp nat_cmp t.out c.args.out.now) (always_returns_same _ _ _ (λ a r g called. search rules)) in
    let found = task_found c.args.tasks.now c.args.out.now c.binary_search_by.result c.requires facts.bound ordered in
    rw c.in-Ok.is at found

pub returns-in-Err : goal.returns-in-Err
returns-in-Err c =
    let facts = c.binary_search_by.ensures in
    let ordered = facts.position (λ (t : TaskValue). slice_cmp nat_cmp t.out c.args.out.now) (always_returns_same _ _ _ (λ a r g called. search rules)) in
    let found = task_found c.args.tasks.now c.args.out.now c.binary_search_by.result c.requires facts.bound ordered in
    rw c.in-Err.is at found
