use Rattle.std.proofs.Common.{arith, ◌≡◌, ◌∙◌, ◌≤◌, ◌-◌, ◌+◌, ◌^◌, ◌++◌, ◌∷◌, [], ap, sym, subst, length, lit<, get_or, drop, take, List}
use Rattle.qn_index.specs.Weights.{WeightValue, IsTable, PartialValue, extensions, finished}
use Rattle.std.specs.List.{All, flat_map}
use Rattle.std.proofs.lemmas.List.{length-drop}
use Rattle.std.proofs.lemmas.List.Elements.{All-drop}
use Rattle.qn_index.specs.Legs.{LegValue, IsLegOf}
use Rattle.qn_index.specs.Tuples.{upward}
use Rattle.qn_index.proofs.Counts.{rest_of, table_after, signed_within}
use Rattle.qn_index.proofs.Partials.{IsOpen, IsPartial, fluxes_few, open_first, open_more, open_last}
use Rattle.qn_index.proofs.shape.admissible.Goals as goal

pub tables_of-requires : goal.tables_of-requires
tables_of-requires g c =
    let ls = c.args.legs.now in
    let m = c.min.result in
    let e = rest_of ls m in
    let few : length (drop m ls) ≤ 64 = omega (arith, length-drop m ls, c.requires.few) in
    (lit< tt, (lit< tt, (lit< tt, (subst (λ (ks : List LegValue). length ks ≤ 64) (sym e) few, subst (λ (ks : List LegValue). All (IsLegOf c.args.group.now) ks) (sym e) (All-drop (IsLegOf c.args.group.now) m ls c.requires.group)))))

pub loop-i-init : goal.loop-i-init
loop-i-init g c =
    let items = c.in_ok-push.ensures.items ∙ (ap (λ (ps : List PartialValue). ps ++ c.start.result ∷ []) c.new-open.ensures.items ∙ ap (λ (p : PartialValue). p ∷ []) c.start.ensures) in
    subst (λ (ps : List PartialValue). IsOpen c.args.group.now c.args.legs.now c.args.flux.now 0 ps) (sym items) (open_first c.args.group.now c.args.legs.now c.args.flux.now (record { canonical = c.requires.flux.canonical; within = c.requires.flux.within }))

pub bounds-made-legs : goal.bounds-made-legs
bounds-made-legs g c = omega (arith, ap length c.as_slice-made.ensures.value, c.in_ok-tables.ensures.many, ap length (rest_of c.args.legs.now c.min.result), length-drop c.min.result c.args.legs.now, c.min.ensures)

pub extend-requires : goal.extend-requires
extend-requires g c =
    let fs = c.args.group.now in
    let i = c.loop-i.i in
    let few : i ≤ 64 = omega (arith, c.loop-i-test.true, c.requires.few) in
    (lit< tt, (lit< tt, (lit< tt, (lit< tt, (subst (λ (l : LegValue). IsLegOf fs l) (sym c.index-legs-i.is) (c.requires.group i c.index-legs-i.result c.loop-i-test.true), subst (λ (ps : List PartialValue). All (IsPartial (2 ^ 51) fs) ps) (sym c.deref.ensures.value) (fluxes_few fs i c.loop-i.open.items few c.loop-i.invariant.fluxes))))))

pub loop-i-preserved : goal.loop-i-preserved
loop-i-preserved g c =
    let fs = c.args.group.now in
    let ls = c.args.legs.now in
    let i = c.loop-i.i in
    let l = c.index-legs-i.result in
    let t = c.index-made-legs.result in
    let leg : IsLegOf fs l = subst (λ (k : LegValue). IsLegOf fs k) (sym c.index-legs-i.is) (c.requires.group i l c.loop-i-test.true) in
    let is : t ≡ get_or c.in_ok-tables.tables.items (length ls - 1 - i) t = c.index-made-legs.is ∙ ap (λ (ts : List (List WeightValue)). get_or ts (length ls - 1 - i) t) c.as_slice-made.ensures.value in
    let table : IsTable fs (drop (i + 1) ls) t = table_after fs ls (take (length ls - c.min.result) (drop c.min.result ls)) c.min.result i c.in_ok-tables.tables.items t (rest_of ls c.min.result) c.min.ensures c.loop-i-test.true c.in_ok-tables.ensures.many c.in_ok-tables.ensures.tables is in
    let made : c.in_ok-open.open.items ≡ flat_map (λ (p : PartialValue). extensions fs l t p (upward 0 (length l.sectors))) c.loop-i.open.items = c.in_ok-open.ensures ∙ ap (λ (ps : List PartialValue). flat_map (λ (p : PartialValue). extensions fs l t p (upward 0 (length l.sectors))) ps) c.deref.ensures.value in
    open_more fs ls c.args.flux.now i l t c.loop-i.open.items c.in_ok-open.open.items c.known.ensures.group c.known_all.ensures c.loop-i-test.true c.index-legs-i.is (λ s lt. signed_within fs l s leg lt) table made c.loop-i.invariant

pub returns : goal.returns
returns g c =
    let fs = c.args.group.now in
    c.in_ok-tuples.ensures
    ∙ (ap (λ (ps : List PartialValue). flat_map (finished fs) ps) c.deref-2.ensures.value
    ∙ open_last fs c.args.legs.now c.args.flux.now c.loop-i.i c.loop-i.open.items (omega arith) c.loop-i.invariant)
