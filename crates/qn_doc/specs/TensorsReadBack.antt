-- What is written is read again: the text of a tensor means the tensor.
use Rattle.std.specs.Prelude.{◌≡◌, ◌≤◌, ℕ, List, length, filter, None, Some}
use Rattle.std.specs.List.{All}
use Rattle.qn_gauss.specs.Gaussian.{Gaussian, mag, limit}
use Rattle.qn_value.specs.Tensors.{BlockValue}
use Rattle.qn_block.specs.Blocked.{BlockedValue, IsBlocked, is_filled}
use Rattle.qn_parts.specs.Tensors.{IsOfDocument, tensor_of}
use Rattle.qn_parts.specs.TensorTexts.{tensor_data}
use Rattle.qn_parts.specs.Documents.{factors_of, tensor_document_fault, text_fault, IsTensorIn, any_value}
use Rattle.qn_json.specs.Tree.{tree_of}
use Rattle.qn_parts.specs.declared.documents.AnyTensor.{AnyTensor}

-- the entries of a block have magnitudes within the limit
abbrev pub HasGaussians : BlockValue → Type 0
HasGaussians b = All (λ (z : Gaussian). mag z ≤ limit) b.entries

-- a tensor within the limits of a document
pub record IsPrintable (t : BlockedValue) : Type 0 where
  pub blocked : IsBlocked t
  pub factors : length t.group ≤ 4
  pub limits : IsOfDocument t
  pub entries : All HasGaussians t.blocks

-- the tensor without the blocks that are all zeros
abbrev pub canonical : BlockedValue → BlockedValue
canonical t = record { group = t.group; legs = t.legs; flux = t.flux; blocks = filter is_filled t.blocks }

-- the tree of a tensor's text has no fault, and means the tensor without its blocks of zeros
abbrev pub TensorReadsBack : Type 0
TensorReadsBack = (t : BlockedValue) → IsPrintable t →
    (tensor_document_fault (tensor_data t) ≡ None) × (tensor_of (factors_of (tensor_data t)) (tensor_data t) ≡ canonical t)

-- bytes that are read as the tree of a tensor's text, as those that are written, have no fault where they are not too many, and mean the tensor without its blocks of zeros
abbrev pub TensorTextReadsBack : Type 0
TensorTextReadsBack = (t : BlockedValue) (bytes : List ℕ) → IsPrintable t → tree_of bytes ≡ Some (tensor_data t) → length bytes ≤ 67108864 →
    (text_fault tensor_document_fault bytes ≡ None) × ((any : AnyTensor) → IsTensorIn bytes any → any_value any ≡ canonical t)
