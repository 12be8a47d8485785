-- Chains of tensors, a tensor for each site: matrix-product states and operators, with amplitude, overlap and expectation.
-- Fishman, White and Stoudenmire 2022. Sites are numbered from 0 here.
use Rattle.std.specs.Prelude.{◌≡◌, ◌==◌, ◌<◌, ℕ, suc, ◌+◌, ◌-◌, ℤ, cond, None, List, [], ◌∷◌, ◌++◌, length, map, reverse, slice_index_or, take, drop}
use Rattle.std.specs.List.{All}
use Rattle.qn_gauss.specs.Gaussian.{Gaussian, conj_g, mul_g}
use Rattle.qn_charge.specs.declared.factor.Factor.{Factor}
use Rattle.qn_index.specs.declared.leg.Dir.TheVariants.{Out}
use Rattle.qn_index.specs.Legs.{LegValue, Meets, flipped, total}
use Rattle.qn_value.specs.Networks.{sum_below}
use Rattle.qn_value.specs.Fluxes.{sum_flux}
use Rattle.qn_block.specs.Blocked.{BlockedValue, IsConjugate, tensor_of}
use Rattle.qn_net.specs.Members.{LabelledMember, no_leg}
use Rattle.qn_net.specs.Members.MemberValue.{own}
use Rattle.qn_net.specs.NetworkValues.{NetworkValue, value}
use Rattle.qn_net.specs.Refusals.{network_of}
use Rattle.qn_braket.specs.ChainLabels.{own_link, own_upper, own_lower, overlap_site, overlap_bra, overlap_ket, expect_upper, expect_lower, expect_bra, expect_op, expect_ket, state_labels, operator_labels}

-- the j-th leg of a list, and the j-th tensor

abbrev pub leg_at : List LegValue → ℕ → LegValue
leg_at ls j = slice_index_or ls j no_leg

abbrev pub no_tensor : BlockedValue
no_tensor = record { group = []; legs = []; flux = []; blocks = [] }

abbrev pub tensor_at : List BlockedValue → ℕ → BlockedValue
tensor_at ts j = slice_index_or ts j no_tensor

-- the legs of a site in a state: s
abbrev pub state_legs : LegValue → List LegValue
state_legs l = l ∷ []

-- the legs of a site in an operator: s', which is the site's leg, and s, which is its flip
abbrev pub operator_legs : LegValue → List LegValue
operator_legs l = l ∷ flipped l ∷ []

-- how many legs a tensor has before those of its site: a leg left but on the first site
abbrev pub legs_left : ℕ → ℕ
legs_left j = cond (j == 0) 0 1

-- how many it has after them: a leg right but on the last of n sites
abbrev pub legs_right : ℕ → ℕ → ℕ
legs_right n j = cond (suc j == n) 0 1

-- these are the legs of the tensor on site j of n, where the site has these legs: left, those of the site, right
pub record AreLegsOf (site : List LegValue) (n j : ℕ) (ls : List LegValue) : Type 0 where
  pub count : length ls ≡ legs_left j + (length site + legs_right n j)
  pub own : take (length site) (drop (legs_left j) ls) ≡ site

-- the leg left of a tensor that has one, and its leg right

abbrev pub first_leg : BlockedValue → LegValue
first_leg t = leg_at t.legs 0

abbrev pub last_leg : BlockedValue → LegValue
last_leg t = leg_at t.legs (length t.legs - 1)

-- the link right of site j: the leg right of j and the leg left of j + 1 meet
abbrev pub HasLink : List BlockedValue → ℕ → Type 0
HasLink ts j = Meets (last_leg (tensor_at ts j)) (first_leg (tensor_at ts (suc j))) None

-- a chain: at least one site, each with its Out leg; one tensor for each site, with the legs of its place; and tensors that are neighbours have a link
pub record IsChain (legs : LegValue → List LegValue) (sites : List LegValue) (ts : List BlockedValue) : Type 0 where
  pub some : 0 < length sites
  pub outward : All (λ l. l.arrow ≡ Out) sites
  pub count : length ts ≡ length sites
  pub shapes : (j : ℕ) → j < length ts → AreLegsOf (legs (leg_at sites j)) (length ts) j (tensor_at ts j).legs
  pub links : (j : ℕ) → suc j < length ts → HasLink ts j

abbrev pub IsStateChain : List LegValue → List BlockedValue → Type 0
IsStateChain sites ts = IsChain state_legs sites ts

abbrev pub IsOperatorChain : List LegValue → List BlockedValue → Type 0
IsOperatorChain sites ts = IsChain operator_legs sites ts

-- the flux of a chain: the sum of its tensors' fluxes
abbrev pub chain_flux : List Factor → List BlockedValue → List ℤ
chain_flux fs ts = sum_flux fs (map (λ t. t.flux) ts)

-- the tensors of site j and the sites after it, each with the labels of its site
abbrev pub with_labels : (ℕ → List ℤ) → ℕ → List BlockedValue → List LabelledMember
with_labels labels j [] = []
with_labels labels j (t ∷ ts) = record { member = own t; labels = labels j } ∷ with_labels labels (suc j) ts

-- the tensors of the conjugate of a chain, given in site order: from the last site to the first, each with its labels in reversed order
abbrev pub back_with_labels : (ℕ → List ℤ) → List BlockedValue → List LabelledMember
back_with_labels labels cs = reverse (with_labels (λ j. reverse (labels j)) 0 cs)

-- the network of a state

abbrev pub state_members : List BlockedValue → List LabelledMember
state_members ts = with_labels (state_labels own_upper own_link (length ts)) 0 ts

abbrev pub state_network : List Factor → List BlockedValue → NetworkValue
state_network fs ts = network_of fs (state_members ts) None []

-- the network of an operator

abbrev pub operator_members : List BlockedValue → List LabelledMember
operator_members ts = with_labels (operator_labels own_upper (own_lower (length ts - 1)) own_link (length ts)) 0 ts

abbrev pub operator_network : List Factor → List BlockedValue → NetworkValue
operator_network fs ts = network_of fs (operator_members ts) None []

-- the amplitude of a state at the values s of its sites: the value of its network
abbrev pub amplitude : List Factor → List BlockedValue → List ℕ → Gaussian
amplitude fs ts s = value (state_network fs ts) s

-- the matrix element of an operator at the values t (of s') and s of its sites: the value of its network
abbrev pub element : List Factor → List BlockedValue → List ℕ → List ℕ → Gaussian
element fs ts t s = value (operator_network fs ts) (t ++ reverse s)

-- the sum over the values of the sites
abbrev pub sum_values : List LegValue → (List ℕ → Gaussian) → Gaussian
sum_values [] f = f []
sum_values (l ∷ ls) f = sum_below (total l.sectors) (λ v. sum_values ls (λ s. f (v ∷ s)))

-- the overlap: the sum over s of conj(bra's amplitude at s) times ket's amplitude at s
abbrev pub overlap : List Factor → List LegValue → List BlockedValue → List BlockedValue → Gaussian
overlap fs sites bra ket = sum_values sites (λ s. mul_g (conj_g (amplitude fs bra s)) (amplitude fs ket s))

-- the expectation of an operator with these matrix elements:
-- the sum over t and s of conj(bra's amplitude at t) times the matrix element at t and s times ket's amplitude at s
abbrev pub expectation : List Factor → List LegValue → (List ℕ → List ℕ → Gaussian) → List BlockedValue → List BlockedValue → Gaussian
expectation fs sites op bra ket =
    sum_values sites (λ t. sum_values sites (λ s. mul_g (conj_g (amplitude fs bra t)) (mul_g (op t s) (amplitude fs ket s))))

-- the second list has the conjugates of the tensors of the first
abbrev pub AreConjugates : List BlockedValue → List BlockedValue → Type 0
AreConjugates [] [] = Unit {0}
AreConjugates [] (c ∷ cs) = ⊥
AreConjugates (t ∷ ts) [] = ⊥
AreConjugates (t ∷ ts) (c ∷ cs) = IsConjugate (tensor_of t) (tensor_of c) × AreConjugates ts cs

-- the network of an overlap: the conjugates of the bra's tensors, from the last site to the first, and then the ket's tensors

abbrev pub overlap_members : List BlockedValue → List BlockedValue → List LabelledMember
overlap_members conjugates ket =
    back_with_labels (state_labels overlap_site overlap_bra (length conjugates)) conjugates
    ++ with_labels (state_labels overlap_site overlap_ket (length ket)) 0 ket

abbrev pub overlap_network : List Factor → List BlockedValue → List BlockedValue → NetworkValue
overlap_network fs conjugates ket = network_of fs (overlap_members conjugates ket) None []

-- the network of an expectation: the conjugates of the bra's tensors, from the last site to the first, then the operator's tensors, and then the ket's

abbrev pub expect_members : List BlockedValue → List BlockedValue → List BlockedValue → List LabelledMember
expect_members conjugates op ket =
    back_with_labels (state_labels expect_upper expect_bra (length conjugates)) conjugates
    ++ (with_labels (operator_labels expect_upper expect_lower expect_op (length op)) 0 op
    ++ with_labels (state_labels expect_lower expect_ket (length ket)) 0 ket)

abbrev pub expect_network : List Factor → List BlockedValue → List BlockedValue → List BlockedValue → NetworkValue
expect_network fs conjugates op ket = network_of fs (expect_members conjugates op ket) None []

-- the network is that of the overlap of bra and ket
abbrev pub IsOverlapNetwork : List Factor → List BlockedValue → List BlockedValue → NetworkValue → Type 0
IsOverlapNetwork fs bra ket net = (conjugates : List BlockedValue) × AreConjugates bra conjugates × (net ≡ overlap_network fs conjugates ket)

-- the network is that of the expectation of the operator between bra and ket
abbrev pub IsExpectNetwork : List Factor → List BlockedValue → List BlockedValue → List BlockedValue → NetworkValue → Type 0
IsExpectNetwork fs bra op ket net = (conjugates : List BlockedValue) × AreConjugates bra conjugates × (net ≡ expect_network fs conjugates op ket)
