-- An error that tells no fault is want of memory.
use Rattle.std.proofs.Common.{None}
use Rattle.std.specs.Prelude.{Option}
use Rattle.qn_parts.specs.declared.fault.Fault.{Fault}
use Rattle.qn_parts.specs.declared.fault.DocFault.{DocFault}
use Rattle.qn_parts.specs.declared.fault.DocFault.TheVariants.{Bad, Memory}
use Rattle.qn_parts.specs.Faults.{Fails}

pub wanting : (r : DocFault) (first : Option Fault) → Fails r None → Fails r first
wanting (Bad f) first p = cc
wanting Memory first p = tt
