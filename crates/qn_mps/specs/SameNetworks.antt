-- Networks that differ at most in how the rows of their tensors are listed.
use Rattle.std.specs.Prelude.{◌≡◌, ℕ, List, map}
use Rattle.qn_charge.specs.declared.factor.Factor.{Factor}
use Rattle.qn_block.specs.Blocked.{BlockedValue}
use Rattle.qn_net.specs.NetworkValues.{NetworkValue, legs_of, member_of, value, steps, passing_place}
use Rattle.qn_braket.specs.Chains.{IsOverlapNetwork, IsExpectNetwork}

-- the same group, order and twisted labels; tensors with the same legs, labels, fluxes and entries; and so the same value, steps and passing place
pub record IsSameNetwork (m n : NetworkValue) : Type 0 where
  pub group : m.group ≡ n.group
  pub order : m.order ≡ n.order
  pub twists : m.twists ≡ n.twists
  pub legs : legs_of m ≡ legs_of n
  pub members : map member_of m.members ≡ map member_of n.members
  pub values : (xs : List ℕ) → value m xs ≡ value n xs
  pub steps : steps m ≡ steps n
  pub passing : passing_place m ≡ passing_place n

-- two networks of one overlap are the same
abbrev pub SameOverlapLaw : Type 0
SameOverlapLaw =
    (fs : List Factor) (bra ket : List BlockedValue) (m n : NetworkValue) → IsOverlapNetwork fs bra ket m → IsOverlapNetwork fs bra ket n → IsSameNetwork m n

-- and so are two networks of one expectation
abbrev pub SameExpectLaw : Type 0
SameExpectLaw =
    (fs : List Factor) (bra op ket : List BlockedValue) (m n : NetworkValue) →
    IsExpectNetwork fs bra op ket m → IsExpectNetwork fs bra op ket n → IsSameNetwork m n
