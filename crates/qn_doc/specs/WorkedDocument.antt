-- A worked document: one matrix with both ends of a line, whose trace is 5.
use Rattle.std.specs.Prelude.{ℕ, pos, List, [], ◌∷◌}
use Rattle.qn_index.specs.declared.leg.Dir.TheVariants.{Out, In}
use Rattle.qn_value.specs.Examples.{fermions, mode, single}
use Rattle.qn_block.specs.Blocked.{BlockedValue}
use Rattle.qn_net.specs.Members.{LabelledMember}
use Rattle.qn_net.specs.Members.MemberValue.{own}
use Rattle.qn_json.specs.Texts.{line_of}
use Rattle.qn_doc.specs.NetworkTexts.{network_data}

abbrev pub worked_matrix : BlockedValue
worked_matrix = record { group = fermions; legs = mode In ∷ mode Out ∷ []; flux = pos 0 ∷ []; blocks = single (0 ∷ 0 ∷ []) 2 ∷ single (1 ∷ 1 ∷ []) 3 ∷ [] }

abbrev pub worked_member : LabelledMember
worked_member = record { member = own worked_matrix; labels = pos 1 ∷ pos 1 ∷ [] }

abbrev pub worked_text : List ℕ
worked_text = line_of (network_data fermions (pos 1 ∷ []) (worked_member ∷ []) [])
