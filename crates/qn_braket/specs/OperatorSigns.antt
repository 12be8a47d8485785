-- The sign of an operator chain: the links drop out of it, and what is left depends on the open legs alone.
-- The signs are those of the exchange rule of super vector spaces.
use Rattle.std.specs.Prelude.{◌≡◌, ◌<◌, ◌&&◌, ℕ, zero, suc, ℤ, Bool, true, false, ◌++◌}
use Rattle.std.specs.Ordering.{int_eq}
use Rattle.qn_sign.specs.Sign.{xor}
use Rattle.qn_gauss.specs.Gaussian.{signed}
use Rattle.qn_value.specs.Networks.{End, Assignment, Parities, odd_end, sums, product, flat, IsNetwork}
use Rattle.qn_braket.specs.Brakets.{outs, ins_back}
use Rattle.qn_braket.specs.ChainLabels.{own_link, own_upper, own_lower}
use Rattle.qn_braket.specs.Pieces.{Piece, chain_links, site_lines, operator_chain}

-- different lines of n sites have different labels
pub record AreApart (upper lower link : ℕ → ℤ) (n : ℕ) : Type 0 where
  pub uppers : (j k : ℕ) → j < k → k < n → int_eq (upper j) (upper k) ≡ false
  pub lowers : (j k : ℕ) → j < k → k < n → int_eq (lower j) (lower k) ≡ false
  pub links : (j k : ℕ) → j < k → int_eq (link j) (link k) ≡ false
  pub upper_link : (j k : ℕ) → int_eq (upper j) (link k) ≡ false
  pub lower_link : (j k : ℕ) → int_eq (lower j) (link k) ≡ false

-- the legs s'_j and s_j of an operator
abbrev pub up : (ℕ → ℤ) → ℕ → End
up upper j = record { label = upper j; inward = false }

abbrev pub down : (ℕ → ℤ) → ℕ → End
down lower j = record { label = lower j; inward = true }

-- whether an odd number of the legs s' and s of m sites from j on have odd values
abbrev pub odd_from : Parities → (ℕ → ℤ) → (ℕ → ℤ) → Assignment → ℕ → ℕ → Bool
odd_from par upper lower a j zero = false
odd_from par upper lower a j (suc m) = xor (xor (odd_end par a (up upper j)) (odd_end par a (down lower j))) (odd_from par upper lower a (suc j) m)

-- the parity of the number of pairs of an odd leg s_j, of m sites from j on, and an odd leg of a later site
abbrev pub crossings : Parities → (ℕ → ℤ) → (ℕ → ℤ) → Assignment → ℕ → ℕ → Bool
crossings par upper lower a j zero = false
crossings par upper lower a j (suc m) = xor (odd_from par upper lower a (suc j) m && odd_end par a (down lower j)) (crossings par upper lower a (suc j) m)

-- where the leg right of each site is In, the value of an operator chain is the sum of its entries' products over the links, with one sign: each s_j passes the legs of later sites
abbrev pub OperatorSignLaw : Type 0
OperatorSignLaw =
    (par : Parities) (upper lower link : ℕ → ℤ) (dim : ℕ → ℕ) (c : ℕ → Piece) (m : ℕ) → AreApart upper lower link (suc m) → ((j : ℕ) → (c j).right_in ≡ true) →
    IsNetwork (operator_chain upper lower link c m) (chain_links link c 0 m) (outs (site_lines upper dim 0 (suc m)) ++ ins_back (site_lines lower dim 0 (suc m)))
    × ((a : Assignment) →
    flat par (operator_chain upper lower link c m) (chain_links link c 0 m) (outs (site_lines upper dim 0 (suc m)) ++ ins_back (site_lines lower dim 0 (suc m))) a ≡
    signed (crossings par upper lower a 0 (suc m)) (sums (chain_links link c 0 m) (product (operator_chain upper lower link c m)) a))

-- an operator's own labels differ
abbrev pub OwnLabelsLaw : Type 0
OwnLabelsLaw = (m : ℕ) → AreApart own_upper (own_lower m) own_link (suc m)
