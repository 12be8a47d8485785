-- A fermion moves from one site to another, as an operator sum.
use Rattle.std.specs.Prelude.{ℕ, pos, List, [], ◌∷◌, codes}
use Rattle.qn_gauss.specs.Gaussian.{Gaussian}
use Rattle.qn_index.specs.declared.leg.Dir.TheVariants.{Out}
use Rattle.qn_index.specs.Legs.{parity_at}
use Rattle.qn_value.specs.Examples.{fermions, mode, whole}
use Rattle.qn_value.specs.Networks.{Parities}
use Rattle.qn_sites.specs.Sites.{SiteValue}
use Rattle.qn_sites.specs.Kinds.{fermion, kind_site}
use Rattle.qn_opsum.specs.Sums.{SumValue}
use Rattle.qn_auto.specs.SumAutomaton.{sites_in, state_lower, terms_in}
use Rattle.qn_braket.specs.Pieces.{piece_element}
use Rattle.qn_paths.specs.Paths.{automaton}

-- a site that is built in: value 0 is empty, 1 is a fermion
abbrev pub site : SiteValue
site = kind_site fermion

-- one product of operators of charge 0 in all
abbrev pub one_term : List SiteValue → List (ℕ × List ℕ) → SumValue
one_term ss fs = record { group = fermions; sites = ss; terms = record { coef = whole 1; factors = fs } ∷ []; flux = pos 0 ∷ [] }

-- from the second of two sites to the first
abbrev pub hopping : SumValue
hopping = one_term (site ∷ site ∷ []) ((1, codes "Cdag") ∷ (2, codes "C") ∷ [])

-- the same operators in the other order
abbrev pub turned_hopping : SumValue
turned_hopping = one_term (site ∷ site ∷ []) ((2, codes "C") ∷ (1, codes "Cdag") ∷ [])

-- from the third of three sites to the first
abbrev pub far_hopping : SumValue
far_hopping = one_term (site ∷ site ∷ site ∷ []) ((1, codes "Cdag") ∷ (3, codes "C") ∷ [])

-- on each line value 1 alone is odd
abbrev pub fermion_lines : Parities
fermion_lines l = parity_at fermions (mode Out).sectors

-- the matrix element of the automaton's network on the sites 0 to m
abbrev pub network_element : SumValue → ℕ → List ℕ → List ℕ → Gaussian
network_element v m = piece_element fermion_lines (sites_in v).dim (automaton (state_lower v) (sites_in v) (terms_in v) m) m
