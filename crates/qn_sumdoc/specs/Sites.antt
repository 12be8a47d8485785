-- The sites of a document: their form, their first fault, and what they stand for.
-- Source: Fishman, White and Stoudenmire 2022.
use Rattle.std.specs.Prelude.{◌≡◌, ◌<◌, ◌≤◌, ◌*◌, ℕ, List, [], ◌∷◌, length, map, Bool, false, not, ◌&&◌, ◌||◌, ◌==◌, nat_lt, if◌then◌else◌, Option, Some, None, bytes_eq, codes}
use Rattle.std.specs.Bool.{beq}
use Rattle.std.specs.List.{All, list_all}
use Rattle.std.specs.Cmp.Lexicographic.{pointwise}
use Rattle.std.specs.Option.{option_map_or}
use Rattle.serde_json.specs.Data.{Data}
use Rattle.serde_json.specs.Find.{get}
use Rattle.qn_charge.specs.declared.factor.Factor.{Factor}
use Rattle.qn_charge.specs.declared.factor.Factor.TheVariants.{U1, Zn}
use Rattle.qn_index.specs.declared.leg.Dir.TheVariants.{Out}
use Rattle.qn_index.specs.Legs.{LegValue, total}
use Rattle.qn_sites.specs.Kinds.{KindRow, kinds, kind_site}
use Rattle.qn_sites.specs.Refusals.{IsClean}
use Rattle.qn_sites.specs.Sites.{GivenOp, SiteValue, AreAscending, site_with}
use Rattle.qn_opsum.specs.Sums.{no_site}
use Rattle.qn_parts.specs.declared.fault.Fault.{Fault}
use Rattle.qn_parts.specs.Faults.{fault, fault_if, first_of, ◌then◌}
use Rattle.qn_json.specs.Forms.{has, is_word}
use Rattle.qn_json.specs.Tree.{items, member_of}
use Rattle.qn_parts.specs.Sectors.{is_sectors, sector_of, sectors_fault}
use Rattle.qn_parts.specs.Tensors.{sectors_data}
use Rattle.qn_parts.specs.Documents.{factors_of}
use Rattle.qn_sumdoc.specs.Objects.{Named, members_at, members, is_text, text_of}
use Rattle.qn_sumdoc.specs.Operators.{is_operator, given_of, operator_fault}

-- ---- the form

-- a site of one's own
abbrev pub is_own : Data → Bool
is_own d = has (is_word (codes "own")) (get (codes "kind") d)

-- {name:operator,..}
abbrev pub are_operators : ℕ → Data → Bool
are_operators n d = option_map_or (list_all (λ (m : Named). is_operator n m.1)) (members_at d) false

-- "sectors":[sector,..],"ops":operators
unfoldable pub is_own_site : ℕ → Data → Bool
is_own_site n d = has (is_sectors n) (get (codes "sectors") d) && has (are_operators n) (get (codes "ops") d)

-- "kind":text, and where it is "own" the sectors and the operators
unfoldable pub is_site : ℕ → Data → Bool
is_site n d = has is_text (get (codes "kind") d) && (not (is_own d) || is_own_site n d)

-- ---- what it stands for

abbrev pub kind_name : Data → List ℕ
kind_name d = text_of (member_of (codes "kind") d)

abbrev pub ops_data : Data → List Named
ops_data d = members (member_of (codes "ops") d)

-- the leg of a site of one's own
abbrev pub leg_of : List Factor → Data → LegValue
leg_of fs d = record { arrow = Out; sectors = map (sector_of fs) (sectors_data d) }

-- the site of one's own that is meant
unfoldable pub own_site : List Factor → Data → SiteValue
own_site fs d = site_with fs (leg_of fs d) (map (given_of fs) (ops_data d))

-- the kind of this name
abbrev pub named_kind : List ℕ → List KindRow → Option KindRow
named_kind name [] = None
named_kind name (k ∷ ks) = if bytes_eq k.name name then Some k else named_kind name ks

abbrev pub kind_of : Data → Option KindRow
kind_of d = named_kind (kind_name d) kinds

-- the site that is meant
unfoldable pub site_of : List Factor → Data → SiteValue
site_of fs d = if is_own d then own_site fs d else option_map_or kind_site (kind_of d) no_site

abbrev pub sites_data : Data → List Data
sites_data d = items (member_of (codes "sites") d)

-- the sites that are meant
abbrev pub sites_of : Data → List SiteValue
sites_of d = map (site_of (factors_of d)) (sites_data d)

-- ---- its first fault

abbrev pub same_factor : Factor → Factor → Bool
same_factor (U1 a) (U1 b) = beq a b
same_factor (U1 a) (Zn n b) = false
same_factor (Zn n a) (U1 b) = false
same_factor (Zn m a) (Zn n b) = m == n && beq a b

-- the kind's group is this one
abbrev pub has_group : List Factor → KindRow → Bool
has_group fs k = pointwise same_factor k.factors fs

-- F28: an unknown kind, or one whose group isn't the document's
abbrev pub kind_fault : List Factor → ℕ → Data → Option Fault
kind_fault fs site d = fault_if (not (option_map_or (has_group fs) (kind_of d) false)) (fault 28 site 0 0)

-- F32: more than 64 operators; then operator by operator, ascending by name
abbrev pub ops_fault : List Factor → LegValue → ℕ → List Named → Option Fault
ops_fault fs l site ms = fault_if (nat_lt 64 (length ms)) (fault 32 site 0 0) then first_of (operator_fault fs l site) ms

-- F9, F10, F11 of the leg, whose dimensions add up to at most 64; then the faults of the operators
unfoldable pub own_fault : List Factor → ℕ → Data → Option Fault
own_fault fs site d = sectors_fault fs site 0 64 (sectors_data d) then ops_fault fs (leg_of fs d) site (ops_data d)

-- the operators that are meant, with nothing at fault on a site with this leg
pub record AreOperatorsOf (fs : List Factor) (l : LegValue) (ms : List Named) (gs : List GivenOp) : Type 0 where
  pub are : gs ≡ map (given_of fs) ms
  pub full : All (λ (g : GivenOp). length g.entries ≡ total l.sectors * total l.sectors) gs
  pub clean : All (IsClean fs l) gs

-- and at most 64 of them, which ascend by name
pub record AreSiteOperators (fs : List Factor) (l : LegValue) (ms : List Named) (gs : List GivenOp) : Type 0 where
  pub operators : AreOperatorsOf fs l ms gs
  pub few : length gs ≤ 64
  pub ascending : AreAscending (map (λ (g : GivenOp). g.name) gs)

-- F28, and for a site of one's own the faults of its leg and of its operators
unfoldable pub site_fault : List Factor → ℕ → Data → Option Fault
site_fault fs site d = if is_own d then own_fault fs site d else kind_fault fs site d

-- F28: no site or more than 64
abbrev pub count_fault : Data → Option Fault
count_fault d = fault_if (length (sites_data d) == 0 || nat_lt 64 (length (sites_data d))) (fault 28 0 0 0)

-- F28 for the count, then site by site
abbrev pub sites_fault : Data → Option Fault
sites_fault d = count_fault d then first_of (site_fault (factors_of d)) (sites_data d)

-- the sites that are meant, 1 to 64 of the document's group
pub record AreSitesOf (d : Data) (ss : List SiteValue) : Type 0 where
  pub are : ss ≡ sites_of d
  pub some : 0 < length ss
  pub few : length ss ≤ 64
  pub groups : All (λ (s : SiteValue). s.group ≡ factors_of d) ss
