use Rattle.std.proofs.Common.{◌≡◌, None, true≢false, sym, refl}
use Rattle.serde_json.specs.View.{view}
use Rattle.qn_json.specs.Tree.{tree_of}
use Rattle.qn_json.proofs.Trees.{tree_found, tree_none}
use Rattle.qn_parts.proofs.tree.read_tree.Goals as goal

pub returns-in-Ok : goal.returns-in-Ok
returns-in-Ok c =
    let found = tree_found c.args.bytes.now (view c.in-Ok.value) c.in-Ok.ensures.ok.0 c.in-Ok.ensures.ok.1 in
    (rw found refl, found)

pub returns-else-is_memory : goal.returns-else-is_memory
returns-else-is_memory c =
    let none : tree_of c.args.bytes.now ≡ None = tree_none c.args.bytes.now (c.in-Err.ensures.err (λ m. true≢false (sym (c.if-is_memory.ensures.1 m)))) in
    rw (c.of_code.ensures, none) refl
