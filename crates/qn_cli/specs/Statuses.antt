-- The numbers with which the program ends.
use Rattle.std.specs.Prelude.{ℕ}
use Rattle.qn_cli.specs.declared.status.Status.{Status}
use Rattle.qn_cli.specs.declared.status.Status.TheVariants.{Done, Usage, Malformed, Passed, ReadFault, WriteFault, Memory}

abbrev pub exit_number : Status → ℕ
exit_number Done = 0
exit_number (Usage word) = 2
exit_number (Malformed f) = 3
exit_number (Passed step at offset) = 4
exit_number ReadFault = 5
exit_number WriteFault = 6
exit_number Memory = 7
