-- A worked document meets what the laws ask for.
use Rattle.std.proofs.Common.{◌≡◌, ◌≢◌, ◌≤◌, pos, [], ◌∷◌, length, Some, refl, arith}
use Rattle.std.specs.Str.{is_utf8, chars}
use Rattle.std.specs.Fmt.{digits}
use Rattle.std.specs.List.{All}
use Rattle.std.proofs.lemmas.List.Elements.{All-nil, All-cons}
use Rattle.serde_json.proofs.OnLiterals.{serde_json_on_literals}
use Rattle.qn_gauss.specs.Gaussian.{Gaussian, mag, limit}
use Rattle.qn_value.specs.Examples.{fermions, single, whole}
use Rattle.qn_value.proofs.ExampleLemmas.{is_tensor, has_blocks}
use Rattle.qn_block.specs.Blocked.{IsBlocked}
use Rattle.qn_net.specs.Members.{LabelledMember, IsHeld}
use Rattle.qn_net.specs.Refusals.{IsLabel}
use Rattle.qn_net.specs.Examples.{trace_alone}
use Rattle.qn_net.proofs.WorkedPremises.{well_formed}
use Rattle.qn_json.specs.Tree.{tree_of}
use Rattle.qn_doc.specs.NetworkTexts.{network_data}
use Rattle.qn_doc.specs.TensorsReadBack.{HasGaussians, IsPrintable}
use Rattle.qn_doc.specs.NetworksReadBack.{IsNumber, IsPrintableMember, IsPrintableNetwork, HasLabels, IsDocumentOf}
use Rattle.qn_doc.specs.WorkedDocument.{worked_matrix, worked_member, worked_text}
use Rattle.qn_facts.proofs.Lists.{all_one, all_two}

blocked : IsBlocked worked_matrix
blocked = record {
  group = is_tensor.group;
  sound = is_tensor.legs;
  charges = is_tensor.charges;
  flux = record { canonical = is_tensor.flux; within = (omega arith, tt) };
  shape = record { legs = omega arith; tuples = omega arith; entries = omega arith };
  blocks = has_blocks.blocks;
  ascending = has_blocks.order;
}

entries : All HasGaussians worked_matrix.blocks
entries =
    all_two HasGaussians (single (0 ∷ 0 ∷ []) 2) (single (1 ∷ 1 ∷ []) 3)
    (all_one (λ (z : Gaussian). mag z ≤ limit) (whole 2) (omega arith)) (all_one (λ (z : Gaussian). mag z ≤ limit) (whole 3) (omega arith))

pub printable : IsPrintable worked_matrix
printable = record {
  blocked = blocked;
  factors = omega arith;
  limits = record { few = omega arith; flux = (omega arith, tt) };
  entries = entries;
}

some : pos 1 ≢ pos 0
some e = cc

document : IsPrintableNetwork fermions (pos 1 ∷ []) (worked_member ∷ []) []
document = record {
  group = (tt, tt);
  factors = omega arith;
  some = omega arith;
  few = omega arith;
  members = all_one (IsPrintableMember fermions) worked_member (record { value = (refl, printable); labels = all_two IsNumber (pos 1) (pos 1) (omega arith) (omega arith) });
  ordered = all_one IsNumber (pos 1) (omega arith);
  twisted = All-nil IsNumber;
}

labels : All HasLabels (worked_member ∷ [])
labels = all_one HasLabels worked_member (all_two IsLabel (pos 1) (pos 1) (some, omega arith) (some, omega arith))

tree : tree_of worked_text ≡ Some (network_data fermions (pos 1 ∷ []) (worked_member ∷ []) [])
unfolding serde_json_on_literals is_utf8 chars digits
tree = refl

long : length worked_text ≡ 236
unfolding serde_json_on_literals digits
long = refl

pub worked : IsDocumentOf trace_alone worked_text
worked = record {
  network = well_formed;
  written = record { members = worked_member ∷ []; held = all_one (λ (m : LabelledMember). IsHeld m.member) worked_member printable.blocked; are = refl; is = refl; tree = tree };
  printable = document;
  labels = labels;
  short = omega (arith, long);
}
