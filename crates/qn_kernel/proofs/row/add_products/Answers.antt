use Rattle.std.proofs.Common.{rules, arith, ◌≡◌, ◌<◌, ℕ, ◌+◌, ◌-◌, ◌*◌, List, refl, sym, ◌∙◌, ap, map, length, take, drop}
use Rattle.qn_gauss.specs.Gaussian.{Gaussian, add_g, mul_g}
use Rattle.qn_kernel.specs.Matrices.{number_at}
use Rattle.qn_kernel.proofs.Rows.{value_at, line_at, no_products, products_more, products_room}
use Rattle.qn_kernel.proofs.row.add_products.Goals as goal

pub loop-z-init : goal.loop-z-init
loop-z-init g c = record {
  added = no_products (map g.A.Number.value c.args.firsts.now) (map g.B.Number.value c.args.seconds.now) c.args.inner (length c.args.row.now) c.args.x c.args.minus (map g.S.Total.total c.args.row.now);
  steps_are = omega arith;
  width = refl;
}

-- a row of the second matrix
line : {X : Type 0} (f : X → Gaussian) (xs : List X) (z n y : ℕ) → y < n → number_at (map f (take (z * n + n - z * n) (drop (z * n) xs))) y ≡ number_at (map f xs) (z * n + y)
line f xs z n y l = ap (λ k. number_at (map f (take k (drop (z * n) xs))) y) same ∙ line_at f xs (z * n) n y l
  where
    same : z * n + n - z * n ≡ n
    same = omega arith

pub add_multiple-requires-clause-room : goal.add_multiple-requires-clause-room
add_multiple-requires-clause-room g c y l =
    products_room (map g.A.Number.value c.args.firsts.now) (map g.B.Number.value c.args.seconds.now) c.args.inner (length c.args.row.now) c.args.x c.args.minus (map g.S.Total.total c.args.row.now) c.loop-z.z g.S.Total.most
    (map g.S.Total.total c.loop-z.row) _ (g.A.Number.value c.index-firsts-x.result) (g.A.Number.value c.signed.result) c.requires.room c.loop-z-test.true c.loop-z.invariant.added c.signed.ensures
    (sym (value_at g.A.Number.value c.args.firsts.now (c.args.x * c.args.inner + c.loop-z.z) c.index-firsts-x.result (omega (arith, c.requires.first, c.loop-z-test.true)) c.index-firsts-x.is))
    (line g.B.Number.value c.args.seconds.now c.loop-z.z (length c.args.row.now)) y (omega (arith, l, c.loop-z.invariant.width))

pub loop-z-preserved : goal.loop-z-preserved
loop-z-preserved g c = record {
  added =
      products_more (map g.A.Number.value c.args.firsts.now) (map g.B.Number.value c.args.seconds.now) c.args.inner (length c.args.row.now) c.args.x c.args.minus (map g.S.Total.total c.args.row.now) c.loop-z.z
      (map g.S.Total.total c.loop-z.row) (map g.S.Total.total c.add_multiple.new.row) (map g.B.Number.value (take (c.loop-z.z * length c.args.row.now + length c.args.row.now - c.loop-z.z * length c.args.row.now) (drop (c.loop-z.z * length c.args.row.now) c.args.seconds.now)))
      (g.A.Number.value c.index-firsts-x.result) c.loop-z.invariant.added
      (λ y l. c.add_multiple.ensures.sums y (omega (arith, l, c.loop-z.invariant.width)) ∙ ap (λ f. add_g (number_at (map g.S.Total.total c.loop-z.row) y) (mul_g f (number_at (map g.B.Number.value (take (c.loop-z.z * length c.args.row.now + length c.args.row.now - c.loop-z.z * length c.args.row.now) (drop (c.loop-z.z * length c.args.row.now) c.args.seconds.now))) y))) c.signed.ensures)
      (sym (value_at g.A.Number.value c.args.firsts.now (c.args.x * c.args.inner + c.loop-z.z) c.index-firsts-x.result (omega (arith, c.requires.first, c.loop-z-test.true)) c.index-firsts-x.is))
      (line g.B.Number.value c.args.seconds.now c.loop-z.z (length c.args.row.now));
  steps_are = omega (arith, c.add_multiple.ensures.steps, c.loop-z.invariant.steps_are, c.loop-z.invariant.width);
  width = search rules;
}
