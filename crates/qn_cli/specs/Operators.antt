-- What an operator sum in a document comes to: its automaton as a network, whose value is the sum of the operator strings.
-- Source: after Crosswhite and Bacon 2008; Jordan and Wigner.
use Rattle.std.specs.Prelude.{◌≡◌, ◌⊎◌, ℕ, suc, List, [], ◌∷◌, length, map, filter, None, Some}
use Rattle.std.specs.Option.{IsSomeAnd}
use Rattle.qn_charge.specs.Firsts.{IsFirst, HasNone}
use Rattle.qn_sign.specs.Positions.{positions}
use Rattle.qn_index.specs.Tuples.{admitted}
use Rattle.qn_value.specs.Magnitudes.{all_blocks}
use Rattle.qn_block.specs.Blocked.{BlockedValue, is_filled}
use Rattle.qn_opsum.specs.Sums.{SumValue}
use Rattle.qn_auto.specs.SumAutomaton.{legs_at, flux_at, entry_at_site, IsWideAt, PassesAt}
use Rattle.qn_index.specs.Places.{IsValues}
use Rattle.qn_paths.specs.Sums.{site_legs, sum_element}
use Rattle.qn_braket.specs.Chains.{element, operator_members, operator_network}
use Rattle.qn_parts.specs.declared.fault.Fault.{Fault}
use Rattle.qn_parts.specs.Faults.{fault}
use Rattle.qn_json.specs.Texts.{line_of}
use Rattle.qn_json.specs.Tree.{tree_of}
use Rattle.qn_doc.specs.NetworkTexts.{network_data}
use Rattle.qn_sumdoc.specs.Sums.{IsSumOf, IsTermsFaultIn, bytes_fault}
use Rattle.qn_cli.specs.Outcomes.{Outcome, refused, passed, answered}

-- the operator sum that the bytes say, which has none of the faults before F27
pub record IsSumIn (bytes : List ℕ) (v : SumValue) : Type 0 where
  pub faultless : bytes_fault bytes ≡ None
  pub sum : IsSomeAnd (tree_of bytes) (λ d. IsSumOf d v)

-- the first fault before F27: of the bytes, the tree, the sites and the coefficients; and where these have none, of the terms
abbrev pub IsSumFaultIn : List ℕ → Fault → Type 0
IsSumFaultIn bytes f = (bytes_fault bytes ≡ Some f) ⊎ ((bytes_fault bytes ≡ None) × IsTermsFaultIn bytes f)

-- F27: the first site at which the automaton is too wide
abbrev pub IsWideSite : SumValue → Fault → Type 0
IsWideSite v f = (j : ℕ) × IsFirst (IsWideAt v) j × (f ≡ fault 27 0 0 (suc j))

-- no site is too wide, and this is the first at which the build passes; the build is step 0, and its place the number of the site
abbrev pub IsPassingSite : SumValue → ℕ → List ℕ → ℕ → Type 0
IsPassingSite v step at offset = (j : ℕ) × HasNone (IsWideAt v) × IsFirst (PassesAt v) j × (step ≡ 0) × (at ≡ suc j ∷ []) × (offset ≡ 0)

-- the automaton is nowhere too wide, and its build does not pass
pub record IsBuildable (v : SumValue) : Type 0 where
  pub narrow : HasNone (IsWideAt v)
  pub clear : HasNone (PassesAt v)

-- the tensor of site j of the automaton, from 0; its blocks are those of its entries that are not all zeros
abbrev pub site_tensor : SumValue → ℕ → BlockedValue
site_tensor v j = record {
  group = v.group;
  legs = legs_at v j;
  flux = flux_at v j;
  blocks = filter is_filled (all_blocks (entry_at_site v j) (legs_at v j) (admitted v.group (legs_at v j) (flux_at v j)));
}

-- the automaton as a chain of tensors
abbrev pub automaton : SumValue → List BlockedValue
automaton v = map (site_tensor v) (positions (length v.sites))

-- the network of the automaton has the matrix elements of the sum of the operator strings
abbrev pub HasElements : SumValue → Type 0
HasElements v = (u s : List ℕ) → IsValues (site_legs v) u → IsValues (site_legs v) s → element v.group (automaton v) u s ≡ sum_element v u s

-- the operator sum that the bytes say has an automaton with its matrix elements
abbrev pub HasElementsIn : List ℕ → Type 0
HasElementsIn bytes = (v : SumValue) → IsSumIn bytes v → HasElements v

-- the text of the automaton's network
abbrev pub operator_text : SumValue → List ℕ
operator_text v = line_of (network_data v.group (operator_network v.group (automaton v)).order (operator_members (automaton v)) [])

-- the network of the automaton of the operator sum that the bytes say, or their first fault, or the first site at which the build passes
abbrev pub Writes : List ℕ → Outcome → Type 0
Writes bytes (refused f) = IsSumFaultIn bytes f ⊎ ((v : SumValue) × IsSumIn bytes v × IsWideSite v f)
Writes bytes (passed step at offset) = (v : SumValue) × IsSumIn bytes v × IsPassingSite v step at offset
Writes bytes (answered text) = (v : SumValue) × IsSumIn bytes v × IsBuildable v × (text ≡ operator_text v)
