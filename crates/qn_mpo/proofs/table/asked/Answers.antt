use Rattle.std.proofs.Common.{◌≡◌, ◌/◌, ◌%◌, [], ◌∷◌, ◌++◌, arith, rules}
use Rattle.qn_gauss.specs.Gaussian.{zero_g}
use Rattle.qn_index.specs.Places.{IsValues}
use Rattle.qn_sites.specs.Operators.{element}
use Rattle.qn_mpo.proofs.Tables.{in_columns, in_rows, list_more, more_long, table_from}
use Rattle.qn_mpo.proofs.table.asked.Goals as goal

pub ask-requires : goal.ask-requires
ask-requires g c =
    let p = c.loop-place.place in
    let d = c.args.dim in
    let h : IsValues c.args.rule.now.legs ((p / d) ∷ (p % d) ∷ []) = c.requires.rows (p / d) (p % d) (in_rows d p (omega arith)) (in_columns d p (omega arith)) in
    search rules

pub loop-place-preserved : goal.loop-place-preserved
loop-place-preserved g c =
    let p = c.loop-place.place in
    let d = c.args.dim in
    let e : c.ask.result ≡ element c.args.op.now (p / d) (p % d) = c.requires.entries (p / d) (p % d) c.ask.result (in_rows d p (omega arith)) (in_columns d p (omega arith)) c.ask.ensures.answer in
    let pushed : c.push.new.self.items ≡ c.loop-place.entries.items ++ (c.ask.result ∷ []) = search rules in
    record {
      full = more_long c.loop-place.entries.items c.push.new.self.items p c.ask.result c.loop-place.invariant.full pushed;
      entries = list_more (λ k z. z ≡ element c.args.op.now (k / d) (k % d)) zero_g c.loop-place.entries.items c.push.new.self.items p c.ask.result c.loop-place.invariant.full pushed c.loop-place.invariant.entries e;
    }

pub returns : goal.returns
returns g c = table_from c.args.dim (element c.args.op.now) c.loop-place.entries.items c.loop-place.place c.loop-place.invariant.full (omega arith) (omega arith) c.loop-place.invariant.entries
