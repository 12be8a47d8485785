-- Bytes that are no JSON text (RFC 8259, as serde_json reads it).
use Rattle.std.specs.Prelude.{ℕ, List, Option, Some, None, is_some, if◌then◌else◌}
use Rattle.qn_json.specs.Tree.{tree_of}
use Rattle.qn_parts.specs.Faults.{fault}
use Rattle.qn_parts.specs.declared.fault.Fault.{Fault}

-- F2, where there is no tree
abbrev pub json_fault : List ℕ → Option Fault
json_fault bytes = if is_some (tree_of bytes) then None else Some (fault 2 0 0 0)
