use Rattle.std.proofs.Common.{rules, arith, map, length, ◌≤◌, ◌*◌, ◌+◌, ◌≡◌, ap₂, sym, ◌∙◌, subst}
use Rattle.std.proofs.lemmas.List.{map-set, length-map}
use Rattle.qn_gauss.specs.Gaussian.{mag, add_g, mul_g}
use Rattle.qn_kernel.specs.Matrices.{number_at}
use Rattle.qn_kernel.proofs.Rows.{AreAdded, value_at, one_added, nothing_added}
use Rattle.qn_kernel.proofs.row.add_multiple.Goals as goal

pub returns-then-is_zero-clause-sums : goal.returns-then-is_zero-clause-sums
returns-then-is_zero-clause-sums g c =
    nothing_added (length c.args.row.now) (g.A.Number.value c.args.factor) (map g.B.Number.value c.args.line.now) (map g.S.Total.total c.args.row.now) (c.is_zero.ensures.0 c.if-is_zero.true)

pub add_product-requires : goal.add_product-requires
add_product-requires g c =
    let one : number_at (map g.S.Total.total c.loop-y.row) c.loop-y.y ≡ g.S.Total.total c.index-row-y.result = value_at g.S.Total.total c.loop-y.row c.loop-y.y c.index-row-y.result (search rules) (search rules) in
    let two : number_at (map g.B.Number.value c.args.line.now) c.loop-y.y ≡ g.B.Number.value c.index-line-y.result = value_at g.B.Number.value c.args.line.now c.loop-y.y c.index-line-y.result (search rules) (search rules) in
    let old : number_at (map g.S.Total.total c.loop-y.row) c.loop-y.y ≡ number_at (map g.S.Total.total c.args.row.now) c.loop-y.y = c.loop-y.invariant.added.rest c.loop-y.y (omega arith) in
    let room : mag (number_at (map g.S.Total.total c.args.row.now) c.loop-y.y) + mag (g.A.Number.value c.args.factor) * mag (number_at (map g.B.Number.value c.args.line.now) c.loop-y.y) ≤ g.S.Total.most = c.requires.room c.loop-y.y (search rules) in
    subst (λ n. n ≤ g.S.Total.most) (ap₂ (λ p q. mag p + mag (g.A.Number.value c.args.factor) * mag q) (sym old ∙ one) two) room

pub loop-y-preserved : goal.loop-y-preserved
loop-y-preserved g c =
    let one : number_at (map g.S.Total.total c.loop-y.row) c.loop-y.y ≡ g.S.Total.total c.index-row-y.result = value_at g.S.Total.total c.loop-y.row c.loop-y.y c.index-row-y.result (search rules) (search rules) in
    let two : number_at (map g.B.Number.value c.args.line.now) c.loop-y.y ≡ g.B.Number.value c.index-line-y.result = value_at g.B.Number.value c.args.line.now c.loop-y.y c.index-line-y.result (search rules) (search rules) in
    record {
      added =
          subst (λ new. AreAdded (g.A.Number.value c.args.factor) (map g.B.Number.value c.args.line.now) (map g.S.Total.total c.args.row.now) new (c.loop-y.y + 1)) (sym (map-set g.S.Total.total c.loop-y.row c.loop-y.y c.add_product.result))
          (one_added (g.A.Number.value c.args.factor) (map g.B.Number.value c.args.line.now) (map g.S.Total.total c.args.row.now) (map g.S.Total.total c.loop-y.row) c.loop-y.y (g.S.Total.total c.add_product.result) (search (rules, length-map))
          (c.add_product.ensures.value ∙ ap₂ (λ p q. add_g p (mul_g (g.A.Number.value c.args.factor) q)) (sym one) (sym two)) c.loop-y.invariant.added);
      steps_are = omega (arith, c.loop-y.invariant.steps_are, c.add_product.ensures.steps);
    }
