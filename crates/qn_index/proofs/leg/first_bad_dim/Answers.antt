use Rattle.std.proofs.Common.{rules, arith, ap, ◌≡◌, ◌<◌, ◌+◌, below_more, ◌⊎◌, inr, ⊎_elim, ◌^◌}
use Rattle.std.proofs.lemmas.Bool.{false≢true, cases_lt}
use Rattle.qn_index.specs.Legs.{SectorValue}
use Rattle.qn_index.proofs.Sectors.{read_is, to_bad_dim, from_bad_dim}
use Rattle.qn_index.proofs.leg.first_bad_dim.Goals as goal

pub loop-i-preserved : goal.loop-i-preserved
loop-i-preserved g c =
    let d = c.s.inside.dim in
    let r = read_is c.args.sectors.now c.loop-i.i c.index-sectors-i.result c.s.inside.dim (omega arith) c.index-sectors-i.is (ap (λ (p : SectorValue). p.dim) c.s.view_is) in
    let fine : (d ≡ 0) ⊎ (65536 < d) ⊎ (2 ^ 20 < c.loop-i.total + d) → ⊥ = λ h. false≢true (c.if-is_bad_dim.ensures.1 h) in
    record {
      sum = omega (arith, r.next);
      small = ⊎_elim (λ over. absurd (fine (inr (inr over)))) (λ within. within) (cases_lt (2 ^ 20) (c.loop-i.total + d));
      dims = below_more _ _ c.loop-i.invariant.dims (λ b. fine (from_bad_dim c.args.sectors.now c.loop-i.i c.loop-i.total d r c.loop-i.invariant.sum b));
    }

pub returns-then-is_bad_dim : goal.returns-then-is_bad_dim
returns-then-is_bad_dim g c =
    let r = read_is c.args.sectors.now c.loop-i.i c.index-sectors-i.result c.s.inside.dim (omega arith) c.index-sectors-i.is (ap (λ (p : SectorValue). p.dim) c.s.view_is) in
    record {
      here = to_bad_dim c.args.sectors.now c.loop-i.i c.loop-i.total c.s.inside.dim r c.loop-i.invariant.sum (c.if-is_bad_dim.ensures.0 (search rules));
      before = c.loop-i.invariant.dims;
    }
