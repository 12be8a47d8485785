use Rattle.std.proofs.Common.{rules, ◌≡◌, ◌*◌, refl, get_or, arith}
use Rattle.qn_match.specs.Shares.{shared_size}
use Rattle.qn_pair.proofs.Products.{dim_of, timed_step}
use Rattle.qn_pair.proofs.frame.values_times.Goals as goal

pub overflow_mul-values : goal.overflow_mul-values
overflow_mul-values g c =
    let dim : c.dim_in-values.result ≡ dim_of c.args.legs.now c.args.tuple.now (get_or c.loop-rest.rest.now 0 (0, 0)).0 = search (rules, c.dim_in-values.ensures) in
    let s = timed_step c.args.legs.now c.args.tuple.now (c.args.size * shared_size c.args.shared.now c.args.legs.now c.args.tuple.now) c.loop-rest.rest.now c.loop-rest.values c.dim_in-values.result (c.loop-rest.values * c.dim_in-values.result) c.known_all.ensures c.requires.tuple c.in-len1-up.len_at_least c.loop-rest.invariant dim refl in
    omega (arith, s.fits, c.requires.small)

pub loop-rest-preserved : goal.loop-rest-preserved
loop-rest-preserved g c =
    let dim : c.dim_in-values.result ≡ dim_of c.args.legs.now c.args.tuple.now (get_or c.loop-rest.rest.now 0 (0, 0)).0 = search (rules, c.dim_in-values.ensures) in
    (timed_step c.args.legs.now c.args.tuple.now (c.args.size * shared_size c.args.shared.now c.args.legs.now c.args.tuple.now) c.loop-rest.rest.now c.loop-rest.values c.dim_in-values.result _ c.known_all.ensures c.requires.tuple c.in-len1-up.len_at_least c.loop-rest.invariant dim refl).timed
