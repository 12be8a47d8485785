-- Members with labels, an order and twisted labels have at most one first fault, and none where nothing is wrong with them.
use Rattle.std.specs.Prelude.{◌≡◌, ◌≢◌, ℤ, Option, List}
use Rattle.qn_net.specs.declared.fault.NetFault.{NetFault}
use Rattle.qn_net.specs.declared.fault.NetFault.TheVariants.{Memory}
use Rattle.qn_net.specs.Members.{LabelledMember}
use Rattle.qn_net.specs.Refusals.{IsFaultless, IsNetFault}

abbrev pub OneFaultLaw : Type 0
OneFaultLaw =
    (ms : List LabelledMember) (order : Option (List ℤ)) (twist : List ℤ) (e f : NetFault) → e ≢ Memory → f ≢ Memory → IsNetFault ms order twist e → IsNetFault ms order twist f → e ≡ f

abbrev pub NoFaultLaw : Type 0
NoFaultLaw = (ms : List LabelledMember) (order : Option (List ℤ)) (twist : List ℤ) (e : NetFault) → e ≢ Memory → IsFaultless ms order twist → IsNetFault ms order twist e → ⊥
