-- An operator sum in a document: its form, its first fault, and what it stands for.
use Rattle.std.specs.Prelude.{◌≡◌, ℕ, List, length, Bool, not, ◌&&◌, Option, codes}
use Rattle.std.specs.Option.{IsSomeAnd}
use Rattle.serde_json.specs.Data.{Data}
use Rattle.serde_json.specs.Find.{get}
use Rattle.qn_opsum.specs.Sums.{SumValue, charge_of, term_at}
use Rattle.qn_opsum.specs.Refusals.{IsSum}
use Rattle.qn_parts.specs.declared.fault.Fault.{Fault}
use Rattle.qn_parts.specs.Faults.{fault, fault_if, ◌then◌}
use Rattle.qn_json.specs.Forms.{has, is_list}
use Rattle.qn_json.specs.Tree.{tree_of}
use Rattle.qn_parts.specs.Groups.{is_group, group_fault}
use Rattle.qn_parts.specs.Documents.{has_version, group_data, factors_of, text_fault}
use Rattle.qn_sumdoc.specs.Sites.{is_site, sites_of, sites_fault}
use Rattle.qn_sumdoc.specs.Terms.{is_term, terms_of, coefs_fault, IsTermsFault}
use Rattle.qn_sumdoc.specs.declared.sums.AnySum.{AnySum}
use Rattle.qn_sumdoc.specs.declared.sums.AnySum.TheVariants.{N0, N1, N2, N3, N4}

-- {"group":group,"sites":[site,..],"terms":[term,..]}
unfoldable pub is_sum_document : Data → Bool
is_sum_document d =
    has_version d
    && (has is_group (get (codes "group") d)
    && (has (is_list (is_site (length (group_data d)))) (get (codes "sites") d) && has (is_list is_term) (get (codes "terms") d)))

-- the operator sum that the tree means: its terms have no fault
pub record IsSumOf (d : Data) (v : SumValue) : Type 0 where
  pub group : v.group ≡ factors_of d
  pub sites : v.sites ≡ sites_of d
  pub terms : v.terms ≡ terms_of d
  pub flux : v.flux ≡ charge_of (factors_of d) (sites_of d) (term_at (terms_of d) 0).factors
  pub faultless : IsSum v

-- F3 over the whole tree, then the faults of the group
abbrev pub head_fault : Data → Option Fault
head_fault d = fault_if (not (is_sum_document d)) (fault 3 0 0 0) then group_fault (group_data d)

-- the faults of the sites, then F29, then F19 of all coefficients
abbrev pub body_fault : Data → Option Fault
body_fault d = sites_fault d then coefs_fault d

-- F3 to F29 of an operator sum, and F19 of its coefficients
abbrev pub parts_fault : Data → Option Fault
parts_fault d = head_fault d then body_fault d

-- the operator sum, for any number of factors
abbrev pub any_sum : AnySum → SumValue
any_sum (N0 s) = s
any_sum (N1 s) = s
any_sum (N2 s) = s
any_sum (N3 s) = s
any_sum (N4 s) = s

-- the first fault of the bytes: F1, F2, then those of the parts
abbrev pub bytes_fault : List ℕ → Option Fault
bytes_fault bytes = text_fault parts_fault bytes

-- F30, F31 and F33, in the tree of the bytes
abbrev pub IsTermsFaultIn : List ℕ → Fault → Type 0
IsTermsFaultIn bytes f = IsSomeAnd (tree_of bytes) (λ d. IsTermsFault d f)

-- the operator sum that the bytes mean
abbrev pub IsSumIn : List ℕ → AnySum → Type 0
IsSumIn bytes any = IsSomeAnd (tree_of bytes) (λ d. IsSumOf d (any_sum any))
