use Rattle.std.proofs.Common.{arith, ◌≡◌, ◌∙◌, ◌<◌, ◌-◌, ◌+◌, ◌++◌, ap, length, map, ℕ, ℤ, List}
use Rattle.qn_index.specs.Weights.{WeightValue, moved, spread}
use Rattle.qn_index.specs.Legs.{sector_at}
use Rattle.qn_index.specs.Tuples.{signed, upward}
use Rattle.qn_index.proofs.Counts.{spread_more}
use Rattle.qn_index.proofs.table.spread.Goals as goal

pub loop-s-preserved : goal.loop-s-preserved
loop-s-preserved g c =
    let fs = c.args.group.now in
    let l = c.args.leg.now in
    let ws = c.args.rows.now in
    let out = c.loop-s.out.items in
    let d = (sector_at l.sectors c.loop-s.s).dim in
    let n = length l.sectors in
    let lt : c.loop-s.s < n = omega (arith, ap length c.sectors.ensures) in
    let added : c.add_moved.new.out.items ≡ out ++ map (moved fs c.signed_charge-own.result c.dim_at.result) ws = c.in_ok-add_moved.ensures in
    let same : out ++ map (moved fs c.signed_charge-own.result c.dim_at.result) ws ≡ out ++ map (moved fs (signed fs l c.loop-s.s) d) ws = ap (λ (q : List ℤ). out ++ map (moved fs q c.dim_at.result) ws) c.signed_charge-own.ensures.value ∙ ap (λ (k : ℕ). out ++ map (moved fs (signed fs l c.loop-s.s) k) ws) c.dim_at.ensures in
    ap (λ (vs : List WeightValue). vs ++ spread fs l ws (upward (c.loop-s.s + 1) (n - (c.loop-s.s + 1)))) (added ∙ same)
    ∙ spread_more fs l ws out (spread fs l ws (upward 0 n)) c.loop-s.s n lt c.loop-s.invariant
