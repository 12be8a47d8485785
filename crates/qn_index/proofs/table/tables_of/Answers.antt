use Rattle.std.proofs.Common.{arith, ◌≡◌, ◌∙◌, ◌<◌, ◌≤◌, ◌-◌, ◌++◌, ◌∷◌, [], ap, sym, subst, length, lit<, get_or, drop, take, ℕ, List}
use Rattle.qn_index.specs.Weights.{WeightValue, IsTable}
use Rattle.std.specs.List.{All}
use Rattle.std.proofs.lemmas.List.{length-drop}
use Rattle.std.proofs.lemmas.List.Elements.{All-drop}
use Rattle.qn_index.specs.Legs.{LegValue, IsLegOf}
use Rattle.qn_index.proofs.Counts.{IsTables, rest_of, tables_end, tables_last, tables_more}
use Rattle.qn_index.proofs.table.tables_of.Goals as goal

pub loop-i-init : goal.loop-i-init
loop-i-init g c =
    tables_end c.args.group.now c.args.legs.now c.push.new.self.items c.in_ok-end.field-0 (c.in_ok-push.ensures.items ∙ ap (λ (ts : List (List WeightValue)). ts ++ c.in_ok-end.field-0 ∷ []) c.new-tables.ensures.items) c.in_ok-end.ensures

pub bounds-made-last : goal.bounds-made-last
bounds-made-last g c = omega (arith, ap length c.as_slice-made.ensures.value, c.loop-i.invariant.many)

pub with_first-requires : goal.with_first-requires
with_first-requires g c =
    let fs = c.args.group.now in
    let ls = c.args.legs.now in
    let i = c.loop-i.i in
    let t = c.index-made-last.result in
    let made = c.as_slice-made.result.now in
    let le : i ≤ length ls = c.loop-i.auto.i in
    let e : take (length ls - (i - 1)) (drop (i - 1) ls) ≡ drop (i - 1) ls = rest_of ls (i - 1) in
    let n = length-drop (i - 1) ls in
    let some : 0 < length (drop (i - 1) ls) = omega (arith, n, le, c.loop-i-test.true) in
    let few : length (drop (i - 1) ls) ≤ 64 = omega (arith, n, c.requires.few) in
    let last : length made - 1 ≡ length c.loop-i.tables.items - 1 = omega (arith, ap length c.as_slice-made.ensures.value) in
    let is : t ≡ get_or c.loop-i.tables.items (length made - 1) t = c.index-made-last.is ∙ ap (λ (ts : List (List WeightValue)). get_or ts (length made - 1) t) c.as_slice-made.ensures.value in
    let table : IsTable fs (drop 1 (drop (i - 1) ls)) t = tables_last fs ls i c.loop-i.tables.items (length made - 1) t c.loop-i-test.true le last is c.loop-i.invariant in
    (lit< tt, (lit< tt, (lit< tt, (subst (λ (ks : List LegValue). 0 < length ks) (sym e) some, (subst (λ (ks : List LegValue). length ks ≤ 64) (sym e) few, (subst (λ (ks : List LegValue). All (IsLegOf fs) ks) (sym e) (All-drop (IsLegOf fs) (i - 1) ls c.requires.group), subst (λ (ks : List LegValue). IsTable fs (drop 1 ks) t) (sym e) table))))))

pub loop-i-preserved : goal.loop-i-preserved
loop-i-preserved g c =
    let fs = c.args.group.now in
    let ls = c.args.legs.now in
    let i = c.loop-i.i in
    let le : i ≤ length ls = c.loop-i.auto.i in
    let one : IsTable fs (drop (i - 1) ls) c.in_ok-table.table = subst (λ (ks : List LegValue). IsTable fs ks c.in_ok-table.table) (rest_of ls (i - 1)) c.in_ok-table.ensures in
    tables_more fs ls i c.loop-i.tables.items c.push-in-loop-i.new.self.items c.in_ok-table.table c.loop-i-test.true le c.in_ok-push-2.ensures.items one c.loop-i.invariant

pub returns : goal.returns
returns g c =
    let z : c.loop-i.i ≡ 0 = omega arith in
    let h : IsTables c.args.group.now c.args.legs.now 0 c.loop-i.tables.items = subst (λ (k : ℕ). IsTables c.args.group.now c.args.legs.now k c.loop-i.tables.items) z c.loop-i.invariant in
    record { many = omega (arith, h.many); tables = λ k le. h.tables k (omega arith) le }
