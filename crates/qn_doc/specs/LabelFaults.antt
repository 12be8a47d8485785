-- The place in a document of what keeps its members from being a network.
use Rattle.std.specs.Prelude.{ℕ, ◌+◌, ℤ, Option, Some, None}
use Rattle.qn_net.specs.declared.fault.NetFault.{NetFault}
use Rattle.qn_net.specs.declared.fault.NetFault.TheVariants.{LabelArity, LabelRange, LabelCount, Arrow, Sectors, OpenLabels, Order, Twist, Memory}
use Rattle.qn_parts.specs.declared.fault.Fault.{Fault}
use Rattle.qn_parts.specs.Faults.{fault}

-- the fault of this code at this label
abbrev pub label_fault : ℕ → ℤ → Fault
label_fault code label = record { code = code; tensor = 0; part = 0; item = label }

-- the place in the document of what keeps members from being a network: F20 to F26 and F36
abbrev pub placed : NetFault → Option Fault
placed (LabelArity t) = Some (fault 20 (t + 1) 0 0)
placed (LabelRange t j) = Some (fault 21 (t + 1) (j + 1) 0)
placed (LabelCount l) = Some (label_fault 22 l)
placed (Arrow l) = Some (label_fault 23 l)
placed (Sectors l) = Some (label_fault 24 l)
placed (OpenLabels l) = Some (label_fault 25 l)
placed (Order p) = Some (fault 26 0 0 (p + 1))
placed (Twist p) = Some (fault 36 0 0 (p + 1))
placed Memory = None
