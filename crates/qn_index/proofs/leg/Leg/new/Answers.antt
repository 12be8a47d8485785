use Rattle.std.proofs.Common.{arith, subst, List}
use Rattle.qn_charge.specs.Firsts.{HasNone, IsFirst}
use Rattle.qn_index.specs.declared.leg.Sector.{Sector}
use Rattle.std.specs.List.{All}
use Rattle.qn_index.specs.Legs.{IsOf}
use Rattle.qn_index.specs.Refusals.{BadCharge, BadDim}
use Rattle.qn_index.proofs.leg.Leg.new.Goals as goal

pub returns-in-Some-first_bad_dim-clause-err : goal.returns-in-Some-first_bad_dim-clause-err
returns-in-Some-first_bad_dim-clause-err g c = (
  subst (λ (ss : List (Sector g.row.K)). HasNone (BadCharge c.args.group.now ss)) c.deref.ensures.value c.in-None.ensures.first,
  subst (λ (ss : List (Sector g.row.K)). IsFirst (BadDim ss) c.in-Some-first_bad_dim.i) c.deref-2.ensures.value c.in-Some-first_bad_dim.ensures,
)

pub returns-then-len-gt-MAX_SECTORS-clause-err : goal.returns-then-len-gt-MAX_SECTORS-clause-err
returns-then-len-gt-MAX_SECTORS-clause-err g c = (
  subst (λ (ss : List (Sector g.row.K)). HasNone (BadCharge c.args.group.now ss)) c.deref.ensures.value c.in-None.ensures.first,
  subst (λ (ss : List (Sector g.row.K)). HasNone (BadDim ss)) c.deref-2.ensures.value c.in-None-first_bad_dim.ensures,
  omega (arith, c.len.ensures),
)

pub returns-clause-charges : goal.returns-clause-charges
returns-clause-charges g c =
    subst (λ (ss : List (Sector g.row.K)). HasNone (BadCharge c.args.group.now ss)) c.deref.ensures.value c.in-None.ensures.first

pub returns-clause-group : goal.returns-clause-group
returns-clause-group g c =
    subst (λ (ss : List (Sector g.row.K)). All (IsOf c.args.group.now) ss) c.deref.ensures.value c.in-None.ensures.group
