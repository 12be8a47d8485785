-- The generated workload: two states and an operator sum on a row of fermion sites, from a seed. It is this project's own.
use Rattle.std.specs.Prelude.{◌==◌, ◌+◌, ◌-◌, ◌*◌, ◌/◌, ◌%◌, ◌^◌, ◌-ℤ◌, ℕ, zero, suc, ℤ, pos, nat_le, max, min, List, [], ◌∷◌, ◌++◌, map, flat_map, codes, true, if◌then◌else◌}
use Rattle.std.specs.List.{range_with_len, sum_by}
use Rattle.qn_gauss.specs.Gaussian.{Gaussian, one_g}
use Rattle.qn_charge.specs.declared.factor.Factor.{Factor}
use Rattle.qn_charge.specs.declared.factor.Factor.TheVariants.{U1}
use Rattle.qn_index.specs.declared.leg.Dir.TheVariants.{Out, In}
use Rattle.qn_index.specs.Legs.{LegValue, SectorValue}
use Rattle.qn_index.specs.Tuples.{admitted}
use Rattle.qn_index.specs.Places.{block_size}
use Rattle.qn_value.specs.Tensors.{BlockValue}
use Rattle.qn_block.specs.Blocked.{BlockedValue}
use Rattle.qn_sites.specs.Sites.{SiteValue}
use Rattle.qn_sites.specs.Kinds.{fermion, kind_site}
use Rattle.qn_opsum.specs.Sums.{SumValue, TermValue}
use Rattle.qn_mps.specs.declared.chain.ChainKind.TheVariants.{State}
use Rattle.qn_mps.specs.Chains.{ChainValue}

-- ---- the draws

abbrev pub next : ℕ → ℕ
next x = (1103515245 * x + 12345) % 2 ^ 31

-- x after some draws
abbrev pub turned : ℕ → ℕ → ℕ
turned seed zero = seed % 2 ^ 31
turned seed (suc i) = next (turned seed i)

-- the i-th draw, from 0: a number from -2 to 2
abbrev pub draw : ℕ → ℕ → ℤ
draw seed i = pos (turned seed (suc i) / 65536 % 5) -ℤ pos 2

abbrev pub drawn : ℕ → ℕ → Gaussian
drawn seed i = record { re = draw seed i; im = pos 0 }

-- ---- the sizes

-- the number of sites, and half of it, rounded down: the number of fermions in both states
abbrev pub site_count : ℕ → ℕ
site_count seed = 8 + seed % 25

abbrev pub particles : ℕ → ℕ
particles n = n / 2

-- the dimension of the sectors of the links
abbrev pub link_dim : ℕ → ℕ
link_dim n = if nat_le n 12 then 8 else (if nat_le n 16 then 4 else (if nat_le n 22 then 2 else 1))

-- ---- the sum

abbrev pub group : List Factor
group = U1 true ∷ []

abbrev pub sites : ℕ → List SiteValue
sites n = map (λ j. kind_site fermion) (range_with_len 1 n)

-- a fermion goes from site k to site j
abbrev pub hop : ℕ → ℕ → TermValue
hop j k = record { coef = one_g; factors = (j, codes "Cdag") ∷ (k, codes "C") ∷ [] }

-- the number of fermions on site j, with a drawn coefficient
abbrev pub density : ℕ → ℕ → TermValue
density seed j = record { coef = drawn seed (j - 1); factors = (j, codes "N") ∷ [] }

-- both ways between site j and the next
abbrev pub hops : ℕ → List TermValue
hops j = hop j (j + 1) ∷ hop (j + 1) j ∷ []

-- hopping to the neighbours, both ways, and then a drawn potential
abbrev pub terms : ℕ → ℕ → List TermValue
terms seed n = flat_map hops (range_with_len 1 (n - 1)) ++ map (density seed) (range_with_len 1 n)

-- the sum on n sites
abbrev pub sum_on : ℕ → ℕ → SumValue
sum_on seed n = record { group = group; sites = sites n; terms = terms seed n; flux = pos 0 ∷ [] }

abbrev pub generated_sum : ℕ → SumValue
generated_sum seed = sum_on seed (site_count seed)

-- ---- the states

-- the least and the greatest charge on link j: the fermions that fit on its left and leave room on its right, near half filling
abbrev pub least : ℕ → ℕ → ℕ
least n j = max (j - (n - particles n)) (j / 2 - 1)

abbrev pub greatest : ℕ → ℕ → ℕ
greatest n j = min (min j (particles n)) (j / 2 + 1)

abbrev pub link_sectors : ℕ → ℕ → List SectorValue
link_sectors n j = map (λ q. record { charge = pos q ∷ []; dim = link_dim n }) (range_with_len (least n j) (suc (greatest n j) - least n j))

abbrev pub site_leg : LegValue
site_leg = (kind_site fermion).leg

-- the leg left of site j, from 1, which the first site has not
abbrev pub left_legs : ℕ → ℕ → List LegValue
left_legs n j = if j == 1 then [] else record { arrow = Out; sectors = link_sectors n (j - 1) } ∷ []

-- the leg right of site j, which the last site has not
abbrev pub right_legs : ℕ → ℕ → List LegValue
right_legs n j = if j == n then [] else record { arrow = In; sectors = link_sectors n j } ∷ []

-- the legs of the tensor on site j: left Out, s Out, right In
abbrev pub legs_at : ℕ → ℕ → List LegValue
legs_at n j = left_legs n j ++ (site_leg ∷ right_legs n j)

abbrev pub flux_at : ℕ → ℕ → List ℤ
flux_at n j = (if j == n then pos (particles n) else pos 0) ∷ []

-- the admissible tuples of the tensor on site j
abbrev pub tuples_at : ℕ → ℕ → List (List ℕ)
tuples_at n j = admitted group (legs_at n j) (flux_at n j)

-- the blocks of these tuples, with entries drawn from the i-th draw on
abbrev pub drawn_blocks : ℕ → ℕ → List LegValue → List (List ℕ) → List BlockValue
drawn_blocks seed i ls [] = []
drawn_blocks seed i ls (t ∷ ts) =
    record { tuple = t; entries = map (drawn seed) (range_with_len i (block_size ls t)) } ∷ drawn_blocks seed (i + block_size ls t) ls ts

-- how many entries the tensor on site j has
abbrev pub entries_at : ℕ → ℕ → ℕ
entries_at n j = sum_by (block_size (legs_at n j)) (tuples_at n j)

abbrev pub drawn_tensor : ℕ → ℕ → ℕ → ℕ → BlockedValue
drawn_tensor seed n i j = record { group = group; legs = legs_at n j; flux = flux_at n j; blocks = drawn_blocks seed i (legs_at n j) (tuples_at n j) }

-- the tensors on these sites, with entries drawn from the i-th draw on
abbrev pub drawn_chain : ℕ → ℕ → ℕ → List ℕ → List BlockedValue
drawn_chain seed n i [] = []
drawn_chain seed n i (j ∷ js) = drawn_tensor seed n i j ∷ drawn_chain seed n (i + entries_at n j) js

-- how many entries a state has
abbrev pub entries_in : ℕ → ℕ
entries_in n = sum_by (entries_at n) (range_with_len 1 n)

-- the bra is drawn after the coefficients, the ket after the bra
abbrev pub bra : ℕ → ℕ → List BlockedValue
bra seed n = drawn_chain seed n n (range_with_len 1 n)

abbrev pub ket : ℕ → ℕ → List BlockedValue
ket seed n = drawn_chain seed n (n + entries_in n) (range_with_len 1 n)

-- the legs of the sites
abbrev pub leg_list : ℕ → List LegValue
leg_list n = map (λ (s : SiteValue). s.leg) (sites n)

-- a state on n sites with these tensors
abbrev pub state_on : ℕ → List BlockedValue → ChainValue
state_on n ts = record { group = group; kind = State; sites = leg_list n; tensors = ts }

abbrev pub generated_bra : ℕ → ChainValue
generated_bra seed = state_on (site_count seed) (bra seed (site_count seed))

abbrev pub generated_ket : ℕ → ChainValue
generated_ket seed = state_on (site_count seed) (ket seed (site_count seed))
