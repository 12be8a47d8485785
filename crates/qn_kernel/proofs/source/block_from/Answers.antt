use Rattle.std.proofs.Common.{rules, ◌≡◌, map, sym, subst}
use Rattle.qn_sign.specs.Positions.{positions}
use Rattle.qn_kernel.specs.Sources.{entry_sum}
use Rattle.qn_kernel.specs.Laid.{AreProductsOf}
use Rattle.qn_kernel.proofs.Layouts.{products_are, entries_same, clear_same, passing_same, steps_within}
use Rattle.qn_kernel.proofs.source.block_from.Goals as goal

pub entries_from-requires-clause-products : goal.entries_from-requires-clause-products
entries_from-requires-clause-products g c =
    products_are c.args.len c.args.sources.now c.deref.result.now c.requires.sources (subst (AreProductsOf c.args.sources.now) (sym c.deref.ensures.value) c.in_ok-products.ensures)

pub returns-in-Err-clause-err : goal.returns-in-Err-clause-err
returns-in-Err-clause-err g c =
    passing_same c.args.len c.args.sources.now c.deref.result.now c.requires.sources (subst (AreProductsOf c.args.sources.now) (sym c.deref.ensures.value) c.in_ok-products.ensures) c.args.tuple.now c.in-Err.fault c.in-Err.ensures.err

pub returns-in-Err-clause-steps : goal.returns-in-Err-clause-steps
returns-in-Err-clause-steps g c =
    steps_within c.args.len c.args.sources.now c.deref.result.now c.requires.sources (subst (AreProductsOf c.args.sources.now) (sym c.deref.ensures.value) c.in_ok-products.ensures) c.args.steps.now c.entries_from.new.steps c.entries_from.ensures.steps

pub returns-in_err-copy-clause-steps : goal.returns-in_err-copy-clause-steps
returns-in_err-copy-clause-steps g c =
    steps_within c.args.len c.args.sources.now c.deref.result.now c.requires.sources (subst (AreProductsOf c.args.sources.now) (sym c.deref.ensures.value) c.in_ok-products.ensures) c.args.steps.now c.entries_from.new.steps c.entries_from.ensures.steps

pub returns-clause-block : goal.returns-clause-block
returns-clause-block g c =
    let entries : c.in-Ok.entries.items ≡ map (entry_sum c.args.sources.now) (positions c.args.len) =
    entries_same c.args.len c.args.sources.now c.deref.result.now c.requires.sources (subst (AreProductsOf c.args.sources.now) (sym c.deref.ensures.value) c.in_ok-products.ensures) c.in-Ok.entries.items c.in-Ok.ensures.entries in
    search rules

pub returns-clause-clear : goal.returns-clause-clear
returns-clause-clear g c = clear_same c.args.len c.args.sources.now c.deref.result.now c.requires.sources (subst (AreProductsOf c.args.sources.now) (sym c.deref.ensures.value) c.in_ok-products.ensures) c.in-Ok.ensures.clear

pub returns-clause-steps : goal.returns-clause-steps
returns-clause-steps g c =
    steps_within c.args.len c.args.sources.now c.deref.result.now c.requires.sources (subst (AreProductsOf c.args.sources.now) (sym c.deref.ensures.value) c.in_ok-products.ensures) c.args.steps.now c.entries_from.new.steps c.entries_from.ensures.steps
