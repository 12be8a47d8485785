use Rattle.std.proofs.Common.{rules, arith}
use Rattle.std.specs.Cmp.Lexicographic.{slice_cmp}
use Rattle.std.specs.Ordering.{nat_cmp}
use Rattle.std.proofs.lemmas.Fn.{always_returns_same}
use Rattle.qn_sites.specs.Operators.{OpValue}
use Rattle.qn_sites.proofs.Lookup.{op_found}
use Rattle.qn_sites.proofs.site.find.Goals as goal

pub returns-in-Ok : goal.returns-in-Ok
returns-in-Ok g c =
    let facts = c.binary_search_by-found.ensures in
    let ordered = facts.position (λ (o : OpValue). slice_cmp nat_cmp o.name c.args.name.now) (always_returns_same _ _ _ (λ a r q called. search rules)) in
    let found = op_found c.args.ops.now c.args.name.now c.binary_search_by-found.result c.requires facts.bound ordered in
    rw c.in-Ok.is at found

pub returns-in-Err : goal.returns-in-Err
returns-in-Err g c =
    let facts = c.binary_search_by-found.ensures in
    let ordered = facts.position (λ (o : OpValue). slice_cmp nat_cmp o.name c.args.name.now) (always_returns_same _ _ _ (λ a r q called. search rules)) in
    let found = op_found c.args.ops.now c.args.name.now c.binary_search_by-found.result c.requires facts.bound ordered in
    rw c.in-Err.is at found
