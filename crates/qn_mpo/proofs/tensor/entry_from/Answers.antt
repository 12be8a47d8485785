use Rattle.std.proofs.Common.{rules, arith, subst, sym, ap, ◌∙◌, ◌≤◌, ◌+◌, ◌*◌, get_or}
use Rattle.std.proofs.lemmas.List.{get_or_default}
use Rattle.qn_mpo.specs.Rows.{row_cell}
use Rattle.qn_mpo.proofs.LeftStates.{entry_read, own_small, own_values}
use Rattle.qn_mpo.proofs.tensor.entry_from.Goals as goal

pub bounds-values-0 : goal.bounds-values-0
bounds-values-0 g c = let long = (own_values c.args.scene.now.sum c.known.ensures.sum c.args.scene.now.site c.args.values.now c.requires.values).long in omega (arith, long)

pub bounds-values-1 : goal.bounds-values-1
bounds-values-1 g c = let long = (own_values c.args.scene.now.sum c.known.ensures.sum c.args.scene.now.site c.args.values.now c.requires.values).long in omega (arith, long)

pub overflow_mul-place : goal.overflow_mul-place
overflow_mul-place g c =
    let v = c.args.scene.now.sum in
    let j = c.args.scene.now.site in
    let xs = c.args.values.now in
    let long = (own_values v c.known.ensures.sum j xs c.requires.values).long in
    let small = own_small v c.known.ensures.sum j c.dim-dim.result xs (get_or xs 0 0) (get_or xs 1 0) c.known.ensures.within (c.dim-dim.ensures ∙ c.known.ensures.dim) c.requires.values (get_or_default xs 0 0 (get_or xs 0 0) (omega (arith, long)))
    (get_or_default xs 1 0 (get_or xs 1 0) (omega (arith, long))) in
    let fits = small.start in
    search rules

pub overflow_add-place : goal.overflow_add-place
overflow_add-place g c =
    let v = c.args.scene.now.sum in
    let j = c.args.scene.now.site in
    let xs = c.args.values.now in
    let long = (own_values v c.known.ensures.sum j xs c.requires.values).long in
    let small = own_small v c.known.ensures.sum j c.dim-dim.result xs (get_or xs 0 0) (get_or xs 1 0) c.known.ensures.within (c.dim-dim.ensures ∙ c.known.ensures.dim) c.requires.values (get_or_default xs 0 0 (get_or xs 0 0) (omega (arith, long)))
    (get_or_default xs 1 0 (get_or xs 1 0) (omega (arith, long))) in
    let fits = small.place in
    search rules

pub overflow_mul-dim : goal.overflow_mul-dim
overflow_mul-dim g c =
    let v = c.args.scene.now.sum in
    let j = c.args.scene.now.site in
    let xs = c.args.values.now in
    let long = (own_values v c.known.ensures.sum j xs c.requires.values).long in
    let small = own_small v c.known.ensures.sum j c.dim-dim.result xs (get_or xs 0 0) (get_or xs 1 0) c.known.ensures.within (c.dim-dim.ensures ∙ c.known.ensures.dim) c.requires.values (get_or_default xs 0 0 (get_or xs 0 0) (omega (arith, long)))
    (get_or_default xs 1 0 (get_or xs 1 0) (omega (arith, long))) in
    let fits = small.size in
    search rules

pub entry-requires-clause-size : goal.entry-requires-clause-size
entry-requires-clause-size g c =
    let v = c.args.scene.now.sum in
    let j = c.args.scene.now.site in
    let xs = c.args.values.now in
    let long = (own_values v c.known.ensures.sum j xs c.requires.values).long in
    let small = own_small v c.known.ensures.sum j c.dim-dim.result xs (get_or xs 0 0) (get_or xs 1 0) c.known.ensures.within (c.dim-dim.ensures ∙ c.known.ensures.dim) c.requires.values (get_or_default xs 0 0 (get_or xs 0 0) (omega (arith, long)))
    (get_or_default xs 1 0 (get_or xs 1 0) (omega (arith, long))) in
    small.size

pub entry-requires-clause-right : goal.entry-requires-clause-right
entry-requires-clause-right g c = subst (λ n. n ≤ 2000) (sym c.right_of.ensures) (own_values c.args.scene.now.sum c.known.ensures.sum c.args.scene.now.site c.args.values.now c.requires.values).right

pub entry-requires-clause-place : goal.entry-requires-clause-place
entry-requires-clause-place g c =
    let v = c.args.scene.now.sum in
    let j = c.args.scene.now.site in
    let xs = c.args.values.now in
    let long = (own_values v c.known.ensures.sum j xs c.requires.values).long in
    let small = own_small v c.known.ensures.sum j c.dim-dim.result xs (get_or xs 0 0) (get_or xs 1 0) c.known.ensures.within (c.dim-dim.ensures ∙ c.known.ensures.dim) c.requires.values (get_or_default xs 0 0 (get_or xs 0 0) (omega (arith, long)))
    (get_or_default xs 1 0 (get_or xs 1 0) (omega (arith, long))) in
    small.place

pub returns : goal.returns
returns g c = λ l h.
    let v = c.args.scene.now.sum in
    let j = c.args.scene.now.site in
    let xs = c.args.values.now in
    let d = c.dim-dim.result in
    let long = (own_values v c.known.ensures.sum j xs c.requires.values).long in
    c.entry.ensures
    ∙ (ap (λ n. row_cell (d * d) c.args.row.now n (get_or xs 0 0 * d + get_or xs 1 0)) c.right_of.ensures
    ∙ entry_read v c.known.ensures.sum j d l c.args.row.now xs (get_or xs 0 0) (get_or xs 1 0) (c.dim-dim.ensures ∙ c.known.ensures.dim) c.requires.values h (get_or_default xs 0 0 (get_or xs 0 0) (omega (arith, long)))
    (get_or_default xs 1 0 (get_or xs 1 0) (omega (arith, long))))
