use Rattle.std.proofs.Common.{rules}
use Rattle.std.proofs.lemmas.Fn.{always_returns_same}
use Rattle.qn_mpo.specs.States.{StateValue, order_by, value_lower}
use Rattle.qn_mpo.proofs.Numbers.{looked_up}
use Rattle.qn_mpo.proofs.row.place_of.Goals as goal

pub returns-in-Ok : goal.returns-in-Ok
returns-in-Ok g c =
    let facts = c.binary_search_by-found.ensures in
    let ordered = facts.position (λ (x : StateValue). order_by value_lower x c.args.state.now) (always_returns_same _ _ _ (λ a r g called. search rules)) in
    let found = looked_up c.args.states.now c.args.state.now c.binary_search_by-found.result c.requires facts.bound ordered in
    rw c.in-Ok.is at found

pub returns-in-Err : goal.returns-in-Err
returns-in-Err g c =
    let facts = c.binary_search_by-found.ensures in
    let ordered = facts.position (λ (x : StateValue). order_by value_lower x c.args.state.now) (always_returns_same _ _ _ (λ a r g called. search rules)) in
    let found = looked_up c.args.states.now c.args.state.now c.binary_search_by-found.result c.requires facts.bound ordered in
    rw c.in-Err.is at found
