-- What the faults of a build stand for.
use Rattle.std.proofs.Common.{◌≡◌, ℕ, zero, suc, refl, sym, subst}
use Rattle.qn_opsum.specs.Sums.{SumValue}
use Rattle.qn_parts.specs.Faults.{fault}
use Rattle.qn_mpo.specs.declared.fault.BuildFault.TheVariants.{Wide, Passed as PassedAt}
use Rattle.qn_mpo.specs.Builds.{IsBuildFault}
use Rattle.qn_cli.specs.declared.status.Status.{Status}
use Rattle.qn_cli.specs.declared.status.Status.TheVariants.{Done, Usage, Malformed, Passed, ReadFault, WriteFault, Memory}
use Rattle.qn_cli.specs.Answers.{IsBuildRefusal, IsPassedAt}

pub wide_refusal : (v : SumValue) (site : ℕ) (s : Status) → IsBuildFault v (Wide site) → s ≡ Malformed (fault 27 0 0 site) → IsBuildRefusal v s
wide_refusal v zero s p e = absurd p
wide_refusal v (suc j) s p e = subst (λ (t : Status). IsBuildRefusal v t) (sym e) (j, p, refl)

pub passed_refusal : (v : SumValue) (site : ℕ) (s : Status) → IsBuildFault v (PassedAt site) → IsPassedAt site s → IsBuildRefusal v s
passed_refusal v zero s p q = absurd p
passed_refusal v (suc j) Done p q = q
passed_refusal v (suc j) (Usage word) p q = q
passed_refusal v (suc j) (Malformed f) p q = absurd q
passed_refusal v (suc j) (Passed step at offset) p q = (j, p.0, p.1, q.0, q.1, q.2)
passed_refusal v (suc j) ReadFault p q = q
passed_refusal v (suc j) WriteFault p q = q
passed_refusal v (suc j) Memory p q = tt
