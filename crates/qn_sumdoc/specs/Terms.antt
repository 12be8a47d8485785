-- The terms of an operator sum in a document: their form, their first fault, and what they stand for.
use Rattle.std.specs.Prelude.{◌≡◌, ℕ, ◌+◌, ℤ, pos, int_lt, unsigned_abs, List, map, length, Bool, ◌&&◌, ◌||◌, ◌==◌, nat_lt, is_none, if◌then◌else◌, Option, Some, None, codes}
use Rattle.serde_json.specs.Data.{Data}
use Rattle.serde_json.specs.Find.{get}
use Rattle.qn_opsum.specs.declared.fault.SumFault.{SumFault}
use Rattle.qn_opsum.specs.declared.fault.SumFault.TheVariants.{TermCount, SiteRange, UnknownOp, MixedFlux, Memory}
use Rattle.qn_opsum.specs.Sums.{TermValue}
use Rattle.qn_opsum.specs.Refusals.{IsSumFault}
use Rattle.qn_parts.specs.declared.fault.Fault.{Fault}
use Rattle.qn_parts.specs.Faults.{fault, fault_if, first_bad, ◌then◌}
use Rattle.qn_json.specs.Forms.{has, is_list, is_pair, is_whole}
use Rattle.qn_json.specs.Tree.{items, member_of}
use Rattle.qn_parts.specs.Sectors.{number_of, first_of_pair, second_of_pair}
use Rattle.qn_json.specs.Entries.{is_entry, entry_of}
use Rattle.qn_parts.specs.Tensors.{entry_or_zero}
use Rattle.qn_parts.specs.Documents.{factors_of}
use Rattle.qn_sumdoc.specs.Objects.{is_text, text_of}
use Rattle.qn_sumdoc.specs.Sites.{sites_of}

-- ---- the form

-- an operator of a term: the number of its site and its name
abbrev pub is_factor : Data → Bool
is_factor d = is_pair is_whole is_text d

-- {"coef":entry,"ops":[[whole,name],..]}
unfoldable pub is_term : Data → Bool
is_term d = has is_entry (get (codes "coef") d) && has (is_list is_factor) (get (codes "ops") d)

-- ---- what it stands for

-- the number of a site; one that is negative or above 2^32 - 1 stands for 0, which is no site
abbrev pub site_number : ℤ → ℕ
site_number z = if int_lt z (pos 0) || int_lt (pos 4294967295) z then 0 else unsigned_abs z

-- the operator of a term that is meant
abbrev pub factor_of : Data → ℕ × List ℕ
factor_of d = (site_number (number_of (first_of_pair (items d))), text_of (second_of_pair (items d)))

abbrev pub coef_data : Data → Data
coef_data d = member_of (codes "coef") d

-- the term that is meant
unfoldable pub term_of : Data → TermValue
term_of d = record { coef = entry_or_zero (coef_data d); factors = map factor_of (items (member_of (codes "ops") d)) }

abbrev pub terms_data : Data → List Data
terms_data d = items (member_of (codes "terms") d)

-- the terms that are meant
abbrev pub terms_of : Data → List TermValue
terms_of d = map term_of (terms_data d)

-- ---- its first fault

abbrev pub has_bad_coef : Data → Bool
has_bad_coef d = is_none (entry_of (coef_data d))

-- F29: no term or more than 2,000; then F19 of all coefficients
abbrev pub coefs_fault : Data → Option Fault
coefs_fault d =
    fault_if (length (terms_data d) == 0 || nat_lt 2000 (length (terms_data d))) (fault 29 0 0 0)
    then first_bad has_bad_coef (λ k. fault 19 0 k 0) (terms_data d)

-- the place in the document of what keeps terms from being an operator sum: F29 to F33
abbrev pub placed : SumFault → Option Fault
placed TermCount = Some (fault 29 0 0 0)
placed (SiteRange t i) = Some (fault 30 0 (t + 1) i)
placed (UnknownOp t i) = Some (fault 31 0 (t + 1) i)
placed (MixedFlux t) = Some (fault 33 0 (t + 1) 0)
placed Memory = None

-- the first fault of the operators of the terms: term by term F30 and F31, then F33
abbrev pub IsTermsFault : Data → Fault → Type 0
IsTermsFault d f = (e : SumFault) × (placed e ≡ Some f) × IsSumFault (factors_of d) (sites_of d) (terms_of d) e
