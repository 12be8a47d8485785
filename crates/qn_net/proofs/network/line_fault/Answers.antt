use Rattle.std.proofs.Common.{List, lit<, sym, subst}
use Rattle.qn_charge.specs.Firsts.{IsFirst, HasNone}
use Rattle.qn_value.specs.Networks.{End}
use Rattle.qn_net.specs.Refusals.{IsMiscounted, IsRepeated, HasEqualArrows, IsGap, IsNetFault}
use Rattle.qn_net.proofs.network.line_fault.Goals as goal

pub returns-in-Some-clause-fault : goal.returns-in-Some-clause-fault
returns-in-Some-clause-fault g c order twist =
    subst (IsNetFault c.args.tensors.now order twist) (sym c.miscounted.ensures) (c.requires.labels, subst (λ (es : List End). IsFirst (IsMiscounted es) c.in-Some.n) c.requires.table c.in-Some.ensures)

pub returns-in-Some-first_repeated-clause-fault : goal.returns-in-Some-first_repeated-clause-fault
returns-in-Some-first_repeated-clause-fault g c order twist =
    subst (IsNetFault c.args.tensors.now order twist) (sym c.repeated.ensures) (c.requires.labels, subst (λ (es : List End). HasNone (IsMiscounted es)) c.requires.table c.in-None.ensures, subst (λ (es : List End). IsFirst (IsRepeated es) c.in-Some-first_repeated.n) c.requires.table c.in-Some-first_repeated.ensures)

pub returns-in-Some-first_equal_arrows-clause-fault : goal.returns-in-Some-first_equal_arrows-clause-fault
returns-in-Some-first_equal_arrows-clause-fault g c order twist =
    subst (IsNetFault c.args.tensors.now order twist) (sym c.equal_arrows.ensures) ((c.requires.labels, subst (λ (es : List End). HasNone (IsMiscounted es)) c.requires.table c.in-None.ensures, subst (λ (es : List End). HasNone (IsRepeated es)) c.requires.table c.in-None-first_repeated.ensures), subst (λ (es : List End). IsFirst (HasEqualArrows es) c.in-Some-first_equal_arrows.n) c.requires.table c.in-Some-first_equal_arrows.ensures)

pub first_unequal_sectors-requires : goal.first_unequal_sectors-requires
first_unequal_sectors-requires g c = (lit< tt, (((c.requires.labels, subst (λ (es : List End). HasNone (IsMiscounted es)) c.requires.table c.in-None.ensures, subst (λ (es : List End). HasNone (IsRepeated es)) c.requires.table c.in-None-first_repeated.ensures), subst (λ (es : List End). HasNone (HasEqualArrows es)) c.requires.table c.in-None-first_equal_arrows.ensures), c.requires.table))

pub returns-in-Some-first_unequal_sectors-clause-fault : goal.returns-in-Some-first_unequal_sectors-clause-fault
returns-in-Some-first_unequal_sectors-clause-fault g c order twist =
    subst (IsNetFault c.args.tensors.now order twist) (sym c.unequal_sectors.ensures) (((c.requires.labels, subst (λ (es : List End). HasNone (IsMiscounted es)) c.requires.table c.in-None.ensures, subst (λ (es : List End). HasNone (IsRepeated es)) c.requires.table c.in-None-first_repeated.ensures), subst (λ (es : List End). HasNone (HasEqualArrows es)) c.requires.table c.in-None-first_equal_arrows.ensures), c.in-Some-first_unequal_sectors.ensures)

pub returns-in-Some-first_gap-clause-fault : goal.returns-in-Some-first_gap-clause-fault
returns-in-Some-first_gap-clause-fault g c order twist =
    subst (IsNetFault c.args.tensors.now order twist) (sym c.missing.ensures) ((((c.requires.labels, subst (λ (es : List End). HasNone (IsMiscounted es)) c.requires.table c.in-None.ensures, subst (λ (es : List End). HasNone (IsRepeated es)) c.requires.table c.in-None-first_repeated.ensures), subst (λ (es : List End). HasNone (HasEqualArrows es)) c.requires.table c.in-None-first_equal_arrows.ensures), c.in-None-first_unequal_sectors.ensures), subst (λ (es : List End). IsFirst (IsGap es) c.in-Some-first_gap.n) c.requires.table c.in-Some-first_gap.ensures)

pub returns-clause-none : goal.returns-clause-none
returns-clause-none g c e = ((((c.requires.labels, subst (λ (es : List End). HasNone (IsMiscounted es)) c.requires.table c.in-None.ensures, subst (λ (es : List End). HasNone (IsRepeated es)) c.requires.table c.in-None-first_repeated.ensures), subst (λ (es : List End). HasNone (HasEqualArrows es)) c.requires.table c.in-None-first_equal_arrows.ensures), c.in-None-first_unequal_sectors.ensures), subst (λ (es : List End). HasNone (IsGap es)) c.requires.table c.in-None-first_gap.ensures)
