use Rattle.std.proofs.Common.{◌≡◌, ◌≤◌, ◌<◌, [], ◌∷◌, ◌++◌, length, arith, rules, sym, subst, ◌∙◌, ap}
use Rattle.qn_index.specs.Legs.{LegValue, total}
use Rattle.qn_sites.specs.Operators.{element}
use Rattle.qn_opsum.specs.Sums.{op_at}
use Rattle.qn_mpo.specs.Tables.{IsTableOf}
use Rattle.qn_mpo.proofs.Asked.{asked_fits, table_of_op, tables_are}
use Rattle.qn_mpo.proofs.Tables.{list_more, more_long}
use Rattle.qn_mpo.proofs.table.asked_all.Goals as goal

pub bounds-ops-i : goal.bounds-ops-i
bounds-ops-i g c = let n = c.requires.count in let m = ap length c.ops.ensures in omega (arith, n, m)

pub asked-requires : goal.asked-requires
asked-requires g c =
    let dim : c.dim-dim.result ≡ total c.args.site.now.leg.sectors = c.dim-dim.ensures ∙ ap (λ (l : LegValue). total l.sectors) c.leg.ensures in
    let few : c.dim-dim.result ≤ 64 = subst (λ n. n ≤ 64) (sym dim) c.known.ensures.leg.small in
    let fits = asked_fits g.F.EntryFunction.answers c.args.site.now c.args.rules.now c.requires c.loop-i.i c.dim-dim.result c.index-rules-i.result c.ops.result.now c.index-ops-i.result (omega arith) c.index-rules-i.is dim c.ops.ensures c.index-ops-i.is in
    let rows = fits.0 in
    let entries = fits.1 in
    search rules

pub loop-i-preserved : goal.loop-i-preserved
loop-i-preserved g c =
    let s = c.args.site.now in
    let i = c.loop-i.i in
    let dim : c.dim-dim.result ≡ total s.leg.sectors = c.dim-dim.ensures ∙ ap (λ (l : LegValue). total l.sectors) c.leg.ensures in
    let lt : i < length s.ops = omega (arith, c.requires.count) in
    let pushed : c.push.new.self.items ≡ c.loop-i.tables.items ++ (c.in_ok-asked.field-0 ∷ []) = search rules in
    let made = table_of_op s i c.dim-dim.result c.ops.result.now c.index-ops-i.result c.in_ok-asked.field-0 c.ops.ensures c.index-ops-i.is lt dim c.in_ok-asked.ensures in
    record {
      count = more_long c.loop-i.tables.items c.push.new.self.items i c.in_ok-asked.field-0 c.loop-i.invariant.count pushed;
      tables = list_more (λ o t. IsTableOf (total s.leg.sectors) (element (op_at s.ops o)) t) [] c.loop-i.tables.items c.push.new.self.items i c.in_ok-asked.field-0 c.loop-i.invariant.count pushed c.loop-i.invariant.tables made;
    }

pub returns : goal.returns
returns g c = tables_are c.args.site.now c.loop-i.i c.loop-i.tables.items c.loop-i.invariant.count (omega (arith, c.requires.count)) c.loop-i.invariant.tables
