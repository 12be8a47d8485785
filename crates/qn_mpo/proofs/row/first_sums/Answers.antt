use Rattle.std.proofs.Common.{rules, arith, subst, sym, ap, ◌∙◌, ◌≡◌, ◌≤◌, ◌==◌, ◌*◌, ◌/◌, ◌%◌, [], ◌∷◌, ◌++◌, length}
use Rattle.qn_auto.specs.SumAutomaton.{states}
use Rattle.qn_mpo.specs.Rows.{dim_at}
use Rattle.qn_mpo.specs.Sums.{first_value, no_sum}
use Rattle.qn_mpo.proofs.Products.{scene_count, scene_few, scene_small}
use Rattle.qn_mpo.proofs.Sums.{first_from}
use Rattle.qn_mpo.proofs.Tables.{list_more, more_long, places_small, square_small}
use Rattle.qn_mpo.proofs.row.first_sums.Goals as goal

pub overflow_mul-size : goal.overflow_mul-size
overflow_mul-size g c =
    let few : c.dim-dim.result ≤ 64 = subst (λ n. n ≤ 64) (sym c.dim-dim.ensures) (scene_small c.args.scene.now c.known.ensures) in
    let small = square_small c.dim-dim.result few in
    search rules

pub overflow_mul-count : goal.overflow_mul-count
overflow_mul-count g c =
    let few : c.dim-dim.result ≤ 64 = subst (λ n. n ≤ 64) (sym c.dim-dim.ensures) (scene_small c.args.scene.now c.known.ensures) in
    let count = subst (λ rs. length rs ≤ 2000) (sym c.rights-count.ensures) (scene_few c.args.scene.now c.known.ensures) in
    let small = places_small (length c.rights-count.result.now) 2000 (c.dim-dim.result * c.dim-dim.result) count (omega arith) (square_small c.dim-dim.result few) in
    search rules

pub loop-place-preserved : goal.loop-place-preserved
loop-place-preserved g c =
    let d = c.dim-dim.result in
    let pushed : c.push.new.self.items ≡ c.loop-place.sums.items ++ (c.first_sum.result ∷ []) = search rules in
    record {
      full = more_long c.loop-place.sums.items c.push.new.self.items c.loop-place.place c.first_sum.result c.loop-place.invariant.full pushed;
      sums = list_more (λ k s. s ≡ first_value (k / (d * d) == c.waiting_of-waiting.result) ((k % (d * d)) / d) ((k % (d * d)) % d)) no_sum c.loop-place.sums.items c.push.new.self.items c.loop-place.place c.first_sum.result
          c.loop-place.invariant.full pushed c.loop-place.invariant.sums c.first_sum.ensures;
    }

pub returns : goal.returns
returns g c =
    first_from (dim_at c.args.scene.now.sum c.args.scene.now.site) c.waiting_of-waiting.result (states c.args.scene.now.sum c.args.scene.now.site) c.loop-place.sums.items c.loop-place.place (length c.rights-count.result.now) c.dim-dim.result
    (c.dim-dim.ensures ∙ c.known.ensures.dim) (ap length c.rights-count.ensures ∙ scene_count c.args.scene.now c.known.ensures) c.loop-place.invariant.full (omega arith) c.waiting_of-waiting.ensures c.loop-place.invariant.sums
