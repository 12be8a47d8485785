-- The automaton of an operator sum, as a chain of tensors that conserve charge.
-- Source: after Crosswhite and Bacon 2008; the states of the automaton are this project's own.
use Rattle.std.specs.Prelude.{◌≡◌, ◌<◌, ◌⊎◌, ◌==◌, ℕ, zero, suc, ℤ, Bool, List, [], ◌∷◌, ◌++◌, length, map, filter, if◌then◌else◌, slice_index_or}
use Rattle.std.specs.Cmp.Lexicographic.{slice_cmp}
use Rattle.std.specs.Ordering.{int_cmp, is_lt}
use Rattle.qn_gauss.specs.Gaussian.{Gaussian}
use Rattle.qn_charge.specs.Charges.{zero_charge, sum_charge, neg_charge}
use Rattle.qn_index.specs.declared.leg.Dir.TheVariants.{In}
use Rattle.qn_index.specs.Legs.{LegValue, flipped}
use Rattle.qn_index.specs.Places.{IsValues}
use Rattle.qn_index.specs.Extents.{IsTooWide}
use Rattle.qn_value.specs.Tensors.{entry_of}
use Rattle.qn_block.specs.Blocked.{BlockedValue, tensor_of, is_filled}
use Rattle.qn_sites.specs.Sites.{SiteValue}
use Rattle.qn_opsum.specs.Strings.{Sites}
use Rattle.qn_opsum.specs.Sums.{SumValue, TermValue, factor_of, op_at, site_at, sites_of}
use Rattle.qn_auto.specs.Automaton.{Stage, Term, normal, site_entry, stages}
use Rattle.qn_auto.specs.LinkOrder.{link_order, sectors_of}
use Rattle.qn_auto.specs.Flux.{stage_charge}
use Rattle.qn_auto.specs.Building.{SitePasses, made}

-- the sites of a sum as numbers and tables
abbrev pub sites_in : SumValue → Sites
sites_in v = sites_of v.group v.sites

-- a term with its operators as numbers
abbrev pub term_in : List SiteValue → TermValue → Term
term_in ss w = record { amount = w.coef; factors = map (factor_of ss) w.factors }

-- the terms of a sum, each in site order
abbrev pub terms_in : SumValue → List Term
terms_in v = map (λ w. normal (sites_in v) (term_in v.sites w)) v.terms

-- the charge of an operator on a site
abbrev pub op_charge : List SiteValue → ℕ → ℕ → List ℤ
op_charge ss j k = (op_at (site_at ss j).ops k).charge

-- charges in order, part by part
abbrev pub charge_lower : List ℤ → List ℤ → Bool
charge_lower a b = is_lt (slice_cmp int_cmp a b)

-- the charge of a state: that of the operators placed so far
abbrev pub state_charge : SumValue → Stage → List ℤ
state_charge v q = stage_charge (zero_charge v.group) (sum_charge v.group) (neg_charge v.group) (op_charge v.sites) v.flux q

-- the order of the states: by charge, then not begun, then the lists ascending, then done
abbrev pub state_lower : SumValue → Stage → Stage → Bool
state_lower v = link_order charge_lower (state_charge v)

-- the states at the link right of site j, the first site being 0
abbrev pub states : SumValue → ℕ → List Stage
states v j = stages (state_lower v) (terms_in v) j

-- the leg of the link right of site j: one sector a charge
abbrev pub link_leg : SumValue → ℕ → LegValue
link_leg v j = record { arrow = In; sectors = sectors_of charge_lower (map (state_charge v) (states v j)) }

-- whether site j is the last
abbrev pub is_last : SumValue → ℕ → Bool
is_last v j = suc j == length v.sites

abbrev pub left_legs : SumValue → ℕ → List LegValue
left_legs v zero = []
left_legs v (suc j) = flipped (link_leg v j) ∷ []

abbrev pub right_legs : SumValue → ℕ → List LegValue
right_legs v j = if is_last v j then [] else link_leg v j ∷ []

-- the legs of the tensor of site j: left Out, the site's twice, Out and In, and right In; the first site has no left leg, the last no right one
abbrev pub legs_at : SumValue → ℕ → List LegValue
legs_at v j = left_legs v j ++ ((site_at v.sites j).leg ∷ flipped (site_at v.sites j).leg ∷ right_legs v j)

-- the flux of the tensor of site j: that of the sum at the last site, and zero before
abbrev pub flux_at : SumValue → ℕ → List ℤ
flux_at v j = if is_last v j then v.flux else zero_charge v.group

-- the entries of the tensor of site j
abbrev pub entry_at_site : SumValue → ℕ → List ℕ → Gaussian
entry_at_site v j = site_entry (state_lower v) (sites_in v) (terms_in v) j

-- the automaton is too wide at site j: the link right of it has more than 64 charges, or its tensor is too wide
abbrev pub IsWideAt : SumValue → ℕ → Type 0
IsWideAt v j = (j < length v.sites) × ((64 < length (link_leg v j).sectors) ⊎ IsTooWide v.group (legs_at v j) (flux_at v j))

-- the build passes at site j
abbrev pub PassesAt : SumValue → ℕ → Type 0
PassesAt v j = (j < length v.sites) × SitePasses (state_lower v) (sites_in v) (terms_in v) j

-- how often the build multiplies at most
abbrev pub made_of : SumValue → ℕ
made_of v = made (sites_in v) (terms_in v)

abbrev pub no_tensor : BlockedValue
no_tensor = record { group = []; legs = []; flux = []; blocks = [] }

-- the tensor at a place
abbrev pub tensor_at : List BlockedValue → ℕ → BlockedValue
tensor_at ts j = slice_index_or ts j no_tensor

-- the shape of the tensor of site j
pub record HasShapeAt (v : SumValue) (j : ℕ) (t : BlockedValue) : Type 0 where
  pub group : t.group ≡ v.group
  pub legs : t.legs ≡ legs_at v j
  pub flux : t.flux ≡ flux_at v j

-- the tensor of site j, without blocks of zeros
pub record IsTensorAt (v : SumValue) (j : ℕ) (t : BlockedValue) : Type 0 where
  pub shape : HasShapeAt v j t
  pub entries : (xs : List ℕ) → IsValues (legs_at v j) xs → entry_of (tensor_of t) xs ≡ entry_at_site v j xs
  pub canonical : filter is_filled t.blocks ≡ t.blocks

-- the tensors of the automaton of the sum, one for each site
pub record IsAutomatonOf (v : SumValue) (ts : List BlockedValue) : Type 0 where
  pub count : length ts ≡ length v.sites
  pub tensors : (j : ℕ) → j < length v.sites → IsTensorAt v j (tensor_at ts j)

-- tensors with the legs and the fluxes of the automaton, without blocks
pub record IsSkeletonOf (v : SumValue) (ts : List BlockedValue) : Type 0 where
  pub count : length ts ≡ length v.sites
  pub shapes : (j : ℕ) → j < length v.sites → HasShapeAt v j (tensor_at ts j)
  pub empty : (j : ℕ) → j < length v.sites → (tensor_at ts j).blocks ≡ []
