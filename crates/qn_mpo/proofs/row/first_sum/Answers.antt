use Rattle.std.proofs.Common.{◌≡◌, ◌/◌, ◌%◌, ◌∙◌, sym, false, rules}
use Rattle.std.proofs.lemmas.Bool.{false≢true}
use Rattle.qn_gauss.specs.Gaussian.{one_g, zero_g}
use Rattle.qn_mpo.proofs.Sums.{first_none, first_one}
use Rattle.qn_mpo.proofs.row.first_sum.Goals as goal

pub returns-then-not-waits : goal.returns-then-not-waits
unfolding zero_g
returns-then-not-waits c =
    let w : c.args.waits ≡ false = search rules in
    first_none c.args.waits (c.args.place / c.args.dim) (c.args.place % c.args.dim) (λ t. absurd (false≢true (sym w ∙ t)))

pub returns-then-place-dim : goal.returns-then-place-dim
unfolding one_g
returns-then-place-dim c = first_one c.args.waits (c.args.place / c.args.dim) (c.args.place % c.args.dim) (search rules) c.if-place-dim.true

pub returns : goal.returns
unfolding zero_g
returns c = first_none c.args.waits (c.args.place / c.args.dim) (c.args.place % c.args.dim) (λ t. c.if-place-dim.false)
