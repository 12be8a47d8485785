-- Chains of tensors that are given by their entries, with any labels: a state or an operator of the sites 0 to m.
use Rattle.std.specs.Prelude.{◌≡◌, ℕ, zero, suc, ◌+◌, ◌-◌, ◌*◌, ℤ, pos, negsuc, Bool, false, true, not, nat_lt, cond, reverse, List, [], ◌∷◌, ◌++◌}
use Rattle.qn_gauss.specs.Gaussian.{Gaussian, conj_g, mul_g}
use Rattle.qn_value.specs.Networks.{End, Node, Bond, Assignment, Parities, sum_below, flat, contract}
use Rattle.qn_braket.specs.Conjugates.{conj_nodes}
use Rattle.qn_braket.specs.Brakets.{outs, ins_back}
use Rattle.qn_braket.specs.ChainLabels.{own_link, own_upper, own_lower, overlap_site, overlap_bra, overlap_ket, expect_upper, expect_lower, expect_bra, expect_op, expect_ket}

-- a tensor of a chain: its entries at the values of the legs left, those of the site, right; the parity of its flux;
-- the arrow and the number of values of the leg right (which the last tensor has not)
pub record Piece : Type 0 where
  pub entry : List ℕ → Gaussian
  pub odd : Bool
  pub right_in : Bool
  pub right_dim : ℕ

-- the tensors of site j and the m sites after it. `own` are the legs of each site, `left` the leg left of site j, if there is one
abbrev pub chain : (ℕ → List End) → (ℕ → ℤ) → (ℕ → Piece) → List End → ℕ → ℕ → List Node
chain own link c left j zero = record { ends = left ++ own j; entry = (c j).entry; odd = (c j).odd } ∷ []
chain own link c left j (suc m) =
    record { ends = left ++ (own j ++ record { label = link j; inward = (c j).right_in } ∷ []); entry = (c j).entry; odd = (c j).odd }
    ∷ chain own link c (record { label = link j; inward = not (c j).right_in } ∷ []) (suc j) m

-- the links right of site j and of the next sites, m of them
abbrev pub chain_links : (ℕ → ℤ) → (ℕ → Piece) → ℕ → ℕ → List Bond
chain_links link c j zero = []
chain_links link c j (suc m) = record { label = link j; dim = (c j).right_dim; twisted = false } ∷ chain_links link c (suc j) m

-- the lines of m sites from j on
abbrev pub site_lines : (ℕ → ℤ) → (ℕ → ℕ) → ℕ → ℕ → List Bond
site_lines site dim j zero = []
site_lines site dim j (suc m) = record { label = site j; dim = dim j; twisted = false } ∷ site_lines site dim (suc j) m

-- the tensors of a state: the leg of a site is Out
abbrev pub state_chain : (ℕ → ℤ) → (ℕ → ℤ) → (ℕ → Piece) → ℕ → List Node
state_chain site link c m = chain (λ j. record { label = site j; inward = false } ∷ []) link c [] 0 m

-- the tensors of an operator: the legs of a site are s' Out, s In
abbrev pub operator_chain : (ℕ → ℤ) → (ℕ → ℤ) → (ℕ → ℤ) → (ℕ → Piece) → ℕ → List Node
operator_chain upper lower link c m =
    chain (λ j. record { label = upper j; inward = false } ∷ record { label = lower j; inward = true } ∷ []) link c [] 0 m

-- the amplitude of a state at the values s of its sites
abbrev pub piece_amplitude : Parities → (ℕ → ℕ) → (ℕ → Piece) → ℕ → List ℕ → Gaussian
piece_amplitude par dim c m s =
    (contract par (state_chain own_upper own_link c m) (chain_links own_link c 0 m) (outs (site_lines own_upper dim 0 (suc m)))).entry s

-- the matrix element of an operator at the values t (of s') and s of its sites
abbrev pub piece_element : Parities → (ℕ → ℕ) → (ℕ → Piece) → ℕ → List ℕ → List ℕ → Gaussian
piece_element par dim c m t s =
    (contract par (operator_chain own_upper (own_lower m) own_link c m) (chain_links own_link c 0 m)
    (outs (site_lines own_upper dim 0 (suc m)) ++ ins_back (site_lines (own_lower m) dim 0 (suc m)))).entry (t ++ reverse s)

-- the sum over the values of m sites from j on
abbrev pub sum_states : (ℕ → ℕ) → ℕ → ℕ → (List ℕ → Gaussian) → Gaussian
sum_states dim j zero f = f []
sum_states dim j (suc m) f = sum_below (dim j) (λ v. sum_states dim (suc j) m (λ s. f (v ∷ s)))

-- an overlap: the conjugates of the bra's tensors, the last site's first, and then the ket's tensors
abbrev pub overlap_nodes : (ℕ → Piece) → (ℕ → Piece) → ℕ → List Node
overlap_nodes bra ket m = conj_nodes (state_chain overlap_site overlap_bra bra m) ++ state_chain overlap_site overlap_ket ket m

-- its lines by ascending label, from site j with m sites after it
abbrev pub overlap_lines : (ℕ → ℕ) → (ℕ → Piece) → (ℕ → Piece) → ℕ → ℕ → List Bond
overlap_lines dim bra ket j zero = record { label = overlap_site j; dim = dim j; twisted = false } ∷ []
overlap_lines dim bra ket j (suc m) =
    record { label = overlap_site j; dim = dim j; twisted = false }
    ∷ record { label = overlap_bra j; dim = (bra j).right_dim; twisted = false }
    ∷ record { label = overlap_ket j; dim = (ket j).right_dim; twisted = false }
    ∷ overlap_lines dim bra ket (suc j) m

-- a state's own labels, and those that it has in a larger network
abbrev pub state_names : (ℕ → ℤ) → (ℕ → ℤ) → ℤ → ℤ
state_names site link (pos zero) = pos zero
state_names site link (pos (suc j)) = link j
state_names site link (negsuc j) = site j

-- the value of the overlap's network is the sum over s of conj(bra's amplitude) times ket's amplitude
abbrev pub OverlapChainLaw : Type 0
OverlapChainLaw =
    (par : Parities) (dim : ℕ → ℕ) (bra ket : ℕ → Piece) (m : ℕ) (a : Assignment) →
    flat par (overlap_nodes bra ket m) (overlap_lines dim bra ket 0 m) [] a ≡
    sum_states dim 0 (suc m) (λ s.
    mul_g (conj_g (piece_amplitude (λ l. par (state_names overlap_site overlap_bra l)) dim bra m s))
    (piece_amplitude (λ l. par (state_names overlap_site overlap_ket l)) dim ket m s))

-- an expectation: the conjugates of the bra's tensors, the last site's first, then the operator's, then the ket's
abbrev pub expect_nodes : (ℕ → Piece) → (ℕ → Piece) → (ℕ → Piece) → ℕ → List Node
expect_nodes bra op ket m =
    conj_nodes (state_chain expect_upper expect_bra bra m)
    ++ (operator_chain expect_upper expect_lower expect_op op m ++ state_chain expect_lower expect_ket ket m)

-- its lines by ascending label
abbrev pub expect_lines : (ℕ → ℕ) → (ℕ → Piece) → (ℕ → Piece) → (ℕ → Piece) → ℕ → ℕ → List Bond
expect_lines dim bra op ket j zero = record { label = expect_upper j; dim = dim j; twisted = false } ∷ record { label = expect_lower j; dim = dim j; twisted = false } ∷ []
expect_lines dim bra op ket j (suc m) =
    record { label = expect_upper j; dim = dim j; twisted = false }
    ∷ record { label = expect_lower j; dim = dim j; twisted = false }
    ∷ record { label = expect_bra j; dim = (bra j).right_dim; twisted = false }
    ∷ record { label = expect_op j; dim = (op j).right_dim; twisted = false }
    ∷ record { label = expect_ket j; dim = (ket j).right_dim; twisted = false }
    ∷ expect_lines dim bra op ket (suc j) m

-- the own labels of an operator on the sites 0 to m, and those in a larger network
abbrev pub operator_names : ℕ → (ℕ → ℤ) → (ℕ → ℤ) → (ℕ → ℤ) → ℤ → ℤ
operator_names m upper lower link (pos zero) = pos zero
operator_names m upper lower link (pos (suc j)) = link j
operator_names m upper lower link (negsuc i) = cond (nat_lt i (m + 1)) (upper i) (cond (nat_lt i (2 * m + 2)) (lower (2 * m + 1 - i)) (negsuc i))

-- the value of the expectation's network is the sum over t and s of conj(bra's amplitude at t) times the operator's element at t and s times ket's amplitude at s
abbrev pub ExpectChainLaw : Type 0
ExpectChainLaw =
    (par : Parities) (dim : ℕ → ℕ) (bra op ket : ℕ → Piece) (m : ℕ) (a : Assignment) →
    flat par (expect_nodes bra op ket m) (expect_lines dim bra op ket 0 m) [] a ≡
    sum_states dim 0 (suc m) (λ t. sum_states dim 0 (suc m) (λ s.
    mul_g (conj_g (piece_amplitude (λ l. par (state_names expect_upper expect_bra l)) dim bra m t))
    (mul_g (piece_element (λ l. par (operator_names m expect_upper expect_lower expect_op l)) dim op m t s)
    (piece_amplitude (λ l. par (state_names expect_lower expect_ket l)) dim ket m s))))
