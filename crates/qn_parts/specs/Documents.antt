-- Documents as bytes: their first fault, and what they stand for.
use Rattle.std.specs.Prelude.{◌≡◌, ℕ, pos, List, length, Bool, true, not, ◌&&◌, nat_lt, Option, Some, option_map, unwrap_or, codes, map}
use Rattle.std.specs.Option.{option_map_or, IsSomeAnd}
use Rattle.serde_json.specs.Data.{Data}
use Rattle.serde_json.specs.Find.{get}
use Rattle.qn_charge.specs.declared.factor.Factor.{Factor}
use Rattle.qn_block.specs.Blocked.{BlockedValue}
use Rattle.qn_parts.specs.Faults.{fault, fault_if, ◌then◌}
use Rattle.qn_json.specs.Forms.{has, is_between}
use Rattle.qn_json.specs.Tree.{tree_of, items, member_of}
use Rattle.qn_parts.specs.Groups.{is_group, group_fault, factor_of}
use Rattle.qn_parts.specs.Tensors.{is_tensor, tensor_of, tensor_fault}
use Rattle.qn_parts.specs.declared.fault.Fault.{Fault}
use Rattle.qn_parts.specs.declared.documents.AnyTensor.{AnyTensor}
use Rattle.qn_parts.specs.declared.documents.AnyTensor.TheVariants.{N0, N1, N2, N3, N4}

-- there is no version, or it is 1
abbrev pub has_version : Data → Bool
has_version d = unwrap_or (option_map (is_between (pos 1) (pos 1)) (get (codes "version") d)) true

abbrev pub group_data : Data → List Data
group_data d = items (member_of (codes "group") d)

abbrev pub factors_of : Data → List Factor
factors_of d = map factor_of (group_data d)

-- the keys of a tensor, and its group
abbrev pub is_tensor_document : Data → Bool
is_tensor_document d = has_version d && (has is_group (get (codes "group") d) && is_tensor (length (group_data d)) d)

-- F3 over the whole tree, then the faults of the group, then those of the tensor, which has the number 1
abbrev pub tensor_document_fault : Data → Option Fault
tensor_document_fault d =
    fault_if (not (is_tensor_document d)) (fault 3 0 0 0)
    then group_fault (group_data d)
    then tensor_fault (factors_of d) 1 d

-- F1, then F2, then the faults of the tree
abbrev pub text_fault : (Data → Option Fault) → List ℕ → Option Fault
text_fault tree_fault bytes =
    fault_if (nat_lt 67108864 (length bytes)) (fault 1 0 0 0)
    then option_map_or tree_fault (tree_of bytes) (Some (fault 2 0 0 0))

-- the tensor, for any number of factors
abbrev pub any_value : AnyTensor → BlockedValue
any_value (N0 t) = t
any_value (N1 t) = t
any_value (N2 t) = t
any_value (N3 t) = t
any_value (N4 t) = t

-- the tensor that the tree means
abbrev pub IsTensorOf : Data → AnyTensor → Type 0
IsTensorOf d any = any_value any ≡ tensor_of (factors_of d) d

-- the tensor that the bytes mean
abbrev pub IsTensorIn : List ℕ → AnyTensor → Type 0
IsTensorIn bytes any = IsSomeAnd (tree_of bytes) (λ d. IsTensorOf d any)
