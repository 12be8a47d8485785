-- Two states on the same sites in a document, where wanted with an operator sum: their form, their first fault, and what they stand for.
use Rattle.std.specs.Prelude.{◌≡◌, ◌⊎◌, ℕ, List, length, Bool, true, false, not, ◌&&◌, ◌||◌, Option, Some, None, if◌then◌else◌, codes}
use Rattle.std.specs.Option.{IsSomeAnd}
use Rattle.serde_json.specs.Data.{Data}
use Rattle.serde_json.specs.Find.{get}
use Rattle.qn_mps.specs.Chains.{ChainValue}
use Rattle.qn_opsum.specs.Sums.{SumValue}
use Rattle.qn_parts.specs.declared.fault.Fault.{Fault}
use Rattle.qn_parts.specs.Faults.{fault, fault_if, ◌then◌}
use Rattle.qn_json.specs.Forms.{has, is_list}
use Rattle.qn_json.specs.Tree.{tree_of}
use Rattle.qn_parts.specs.Groups.{is_group, group_fault}
use Rattle.qn_parts.specs.Tensors.{is_tensor}
use Rattle.qn_parts.specs.Documents.{has_version, group_data, text_fault}
use Rattle.qn_sumdoc.specs.Sites.{is_site, sites_of, sites_fault}
use Rattle.qn_sumdoc.specs.Terms.{is_term, coefs_fault, IsTermsFault}
use Rattle.qn_sumdoc.specs.Sums.{IsSumOf}
use Rattle.qn_sumdoc.specs.Chains.{chain_of, IsFaultOfChain, IsRightChain}
use Rattle.qn_sumdoc.specs.StatesValues.{StatesValue}
use Rattle.qn_sumdoc.specs.declared.states.AnyStates.{AnyStates}
use Rattle.qn_sumdoc.specs.declared.states.AnyStates.TheVariants.{N0, N1, N2, N3, N4}

-- ---- the form

-- a list of tensors
abbrev pub are_tensors : ℕ → Data → Bool
are_tensors n d = is_list (is_tensor n) d

-- the sites, and where wanted the terms
unfoldable pub has_sum_form : Bool → ℕ → Data → Bool
has_sum_form with_sum n d = has (is_list (is_site n)) (get (codes "sites") d) && (not with_sum || has (is_list is_term) (get (codes "terms") d))

-- {"group":group,"sites":[site,..],"bra":[tensor,..],"ket":[tensor,..]}, and where wanted "terms":[term,..]
unfoldable pub is_states_document : Bool → Data → Bool
is_states_document with_sum d =
    has_version d
    && (has is_group (get (codes "group") d)
    && (has_sum_form with_sum (length (group_data d)) d
    && (has (are_tensors (length (group_data d))) (get (codes "bra") d) && has (are_tensors (length (group_data d))) (get (codes "ket") d))))

-- ---- what it stands for

-- the sum that is meant, where one is wanted
abbrev pub IsOptionalSum : Bool → Data → Option SumValue → Type 0
IsOptionalSum true d None = ⊥
IsOptionalSum true d (Some v) = IsSumOf d v
IsOptionalSum false d None = Unit {0}
IsOptionalSum false d (Some v) = ⊥

-- the chains that are meant, with nothing at fault
pub record AreChainsOf (d : Data) (first second : ChainValue) : Type 0 where
  pub bra : first ≡ chain_of (codes "bra") d
  pub ket : second ≡ chain_of (codes "ket") d
  pub right_bra : IsRightChain (codes "bra") 100 d
  pub right_ket : IsRightChain (codes "ket") 200 d

-- the states that the tree means: nothing is at fault in them
pub record AreStatesOf (with_sum : Bool) (d : Data) (v : StatesValue) : Type 0 where
  pub sites : v.sites ≡ sites_of d
  pub sum : IsOptionalSum with_sum d v.sum
  pub chains : AreChainsOf d v.bra v.ket

-- ---- its first fault

-- F3 over the whole tree, then the faults of the group
abbrev pub head_fault : Bool → Data → Option Fault
head_fault with_sum d = fault_if (not (is_states_document with_sum d)) (fault 3 0 0 0) then group_fault (group_data d)

-- the faults of the sites, and where a sum is wanted F29 and F19 of all coefficients
abbrev pub body_fault : Bool → Data → Option Fault
body_fault with_sum d = sites_fault d then (if with_sum then coefs_fault d else None)

-- F3 to F32, and where a sum is wanted F29 and F19 of its coefficients
abbrev pub parts_fault : Bool → Data → Option Fault
parts_fault with_sum d = head_fault with_sum d then body_fault with_sum d

-- the first fault of the bra, or else of the ket
abbrev pub IsFaultOfChains : Data → Fault → Type 0
IsFaultOfChains d f = IsFaultOfChain (codes "bra") 100 d f ⊎ (IsRightChain (codes "bra") 100 d × IsFaultOfChain (codes "ket") 200 d f)

-- the first fault of the terms, where a sum is wanted
abbrev pub IsSumFault : Bool → Data → Fault → Type 0
IsSumFault true d f = IsTermsFault d f
IsSumFault false d f = ⊥

-- the first fault after these: one of the terms, or else one of the chains
abbrev pub IsLaterFault : Bool → Data → Fault → Type 0
IsLaterFault with_sum d f = IsSumFault with_sum d f ⊎ (((v : Option SumValue) × IsOptionalSum with_sum d v) × IsFaultOfChains d f)

-- the states, for any number of factors
abbrev pub any_states : AnyStates → StatesValue
any_states (N0 s) = s
any_states (N1 s) = s
any_states (N2 s) = s
any_states (N3 s) = s
any_states (N4 s) = s

-- the first fault of the bytes: F1, F2, then those of the parts
abbrev pub bytes_fault : Bool → List ℕ → Option Fault
bytes_fault with_sum bytes = text_fault (parts_fault with_sum) bytes

-- the faults after these, in the tree of the bytes
abbrev pub IsLaterFaultIn : Bool → List ℕ → Fault → Type 0
IsLaterFaultIn with_sum bytes f = IsSomeAnd (tree_of bytes) (λ d. IsLaterFault with_sum d f)

-- the states that the bytes mean
abbrev pub AreStatesIn : Bool → List ℕ → AnyStates → Type 0
AreStatesIn with_sum bytes any = IsSomeAnd (tree_of bytes) (λ d. AreStatesOf with_sum d (any_states any))
