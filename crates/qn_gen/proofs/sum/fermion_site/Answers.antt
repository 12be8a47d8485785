use Rattle.std.proofs.Common.{codes, subst}
use Rattle.qn_sites.specs.Kinds.{fermion}
use Rattle.qn_sites.specs.Refusals.{IsBuiltinFault}
use Rattle.qn_gen.proofs.FermionSums.{fermion_known}
use Rattle.qn_gen.proofs.sum.fermion_site.Goals as goal

pub unreachable-requires : goal.unreachable-requires
unreachable-requires c =
    subst (IsBuiltinFault (codes "fermion") c.args.group.now) c.in-Err-SiteKind.field-0-is c.in-Err-SiteKind.ensures.err fermion (fermion_known c.args.group.now c.requires)
