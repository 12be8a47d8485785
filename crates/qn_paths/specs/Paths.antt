-- The chain of the automaton of an operator sum, and what its network is worth.
-- Source: Jordan and Wigner for the strings; after Crosswhite and Bacon 2008 for the automaton.
use Rattle.std.specs.Prelude.{◌≡◌, ℕ, suc, ◌<◌, Bool, true, false, ◌&&◌, ◌==◌, cond, List, [], ◌∷◌, length, map}
use Rattle.qn_sign.specs.Sign.{xor}
use Rattle.qn_value.specs.Networks.{Parities}
use Rattle.qn_opsum.specs.Strings.{Sites, HasParities, Factor, State, odd_factor}
use Rattle.qn_auto.specs.Automaton.{Term, Stage, normal, stages, site_entry, sum_of, AllBelow}
use Rattle.qn_braket.specs.ChainLabels.{own_upper, own_lower}
use Rattle.qn_braket.specs.Pieces.{Piece, piece_element}

abbrev pub odd_factors : Sites → List Factor → Bool
odd_factors S [] = false
odd_factors S (f ∷ fs) = xor (odd_factor S f) (odd_factors S fs)

-- the parity of the flux of the sum, which all its terms have; it is the flux of the last tensor
abbrev pub odd_sum : Sites → List Term → Bool
odd_sum S [] = false
odd_sum S (w ∷ ws) = odd_factors S w.factors

-- the tensor of site j, of the sites 0 to m; the flux is that of the sum at site m, else 0
abbrev pub automaton : (Stage → Stage → Bool) → Sites → List Term → ℕ → ℕ → Piece
automaton earlier S ws m j = record {
  entry = site_entry earlier S ws j;
  odd = j == m && odd_sum S ws;
  right_in = true;
  right_dim = length (stages earlier ws j);
}

-- the lines of the sites have the parities of the sites' values
pub record SuitSites (par : Parities) (S : Sites) (m : ℕ) : Type 0 where
  pub upper : (j v : ℕ) → j < S.count → par (own_upper j) v ≡ S.odd_value j v
  pub lower : (j v : ℕ) → j < S.count → par (own_lower m j) v ≡ S.odd_value j v

-- the state with these values at the sites from i on
abbrev pub state_from : ℕ → List ℕ → State
state_from i [] j = 0
state_from i (x ∷ xs) j = cond (j == i) x (state_from (suc i) xs j)

-- the state with these values at the sites
abbrev pub state_of : List ℕ → State
state_of xs = state_from 0 xs

-- the value of the automaton's network at s'_1 .. s'_n, s_n .. s_1 is the operator sum, in whatever order the links have their states
abbrev pub AutomatonLaw : Type 0
AutomatonLaw =
    (earlier : Stage → Stage → Bool) (par : Parities) (S : Sites) (ws : List Term) (m : ℕ) →
    HasParities S → S.count ≡ suc m → AllBelow S.count ws → SuitSites par S m → (t s : List ℕ) → length t ≡ suc m → length s ≡ suc m →
    piece_element par S.dim (automaton earlier S (map (normal S) ws) m) m t s ≡ sum_of S ws (state_of t) (state_of s)
