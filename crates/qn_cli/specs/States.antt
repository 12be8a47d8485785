-- What the commands on two states come to: their overlap, and the expectation of an operator sum between them.
use Rattle.std.specs.Prelude.{◌≡◌, ◌⊎◌, ℕ, List, map, Bool, true, false, None, Some}
use Rattle.std.specs.Option.{IsSomeAnd}
use Rattle.qn_sites.specs.Sites.{SiteValue}
use Rattle.qn_opsum.specs.Sums.{SumValue}
use Rattle.qn_mps.specs.Chains.{ChainValue}
use Rattle.qn_mps.specs.declared.chain.ChainKind.TheVariants.{State}
use Rattle.qn_parts.specs.declared.fault.Fault.{Fault}
use Rattle.qn_json.specs.Tree.{tree_of}
use Rattle.qn_sumdoc.specs.StatesValues.{StatesValue}
use Rattle.qn_sumdoc.specs.States.{AreStatesOf, IsLaterFaultIn, bytes_fault}
use Rattle.qn_cli.specs.Outcomes.{Outcome}
use Rattle.qn_cli.specs.Brakets.{BraketValue, pair_of, Overlaps, Expects, expect_text}

-- the first fault before F27 of a document of states, where wanted with an operator sum
abbrev pub IsStatesFaultIn : Bool → List ℕ → Fault → Type 0
IsStatesFaultIn with_sum bytes f = (bytes_fault with_sum bytes ≡ Some f) ⊎ ((bytes_fault with_sum bytes ≡ None) × IsLaterFaultIn with_sum bytes f)

-- the states that the bytes say, where wanted with an operator sum; they have none of the faults before F27
pub record AreStatesIn (with_sum : Bool) (bytes : List ℕ) (v : StatesValue) : Type 0 where
  pub faultless : bytes_fault with_sum bytes ≡ None
  pub states : IsSomeAnd (tree_of bytes) (λ d. AreStatesOf with_sum d v)

-- the two states
abbrev pub braket_of : StatesValue → BraketValue
braket_of v = pair_of v.bra v.ket

-- two states on the same sites
pub record ArePair (first second : ChainValue) : Type 0 where
  pub bra : first.kind ≡ State
  pub ket : second.kind ≡ State
  pub group : second.group ≡ first.group
  pub sites : second.sites ≡ first.sites

abbrev pub AreTwoStates : StatesValue → Type 0
AreTwoStates v = ArePair v.bra v.ket

-- the sum stands on the sites of the states
pub record IsOnStates (b : BraketValue) (v : SumValue) : Type 0 where
  pub group : v.group ≡ b.group
  pub sites : map (λ (s : SiteValue). s.leg) v.sites ≡ b.sites

-- the bytes say these two states
abbrev pub SaysStates : List ℕ → BraketValue → Type 0
SaysStates bytes b = (v : StatesValue) × AreStatesIn false bytes v × (b ≡ braket_of v)

-- the bytes say these two states and this operator sum
abbrev pub SaysStatesAndSum : List ℕ → BraketValue → SumValue → Type 0
SaysStatesAndSum bytes b s = (v : StatesValue) × AreStatesIn true bytes v × (b ≡ braket_of v) × (v.sum ≡ Some s)

-- there is a sum, and this holds of it
abbrev pub HasSumSuch : StatesValue → (SumValue → Type 0) → Type 0
HasSumSuch v P = (s : SumValue) × (v.sum ≡ Some s) × P s

-- the overlap of the states that the bytes say, or their first fault, or the first step that passes
abbrev pub ComesToOverlap : List ℕ → Outcome → Type 0
ComesToOverlap bytes o = Overlaps (IsStatesFaultIn false bytes) (SaysStates bytes) o

-- the expectation of the sum between the states that the bytes say, or their first fault, or the first place that passes: that of the build is step 0
abbrev pub ComesToExpect : List ℕ → Outcome → Type 0
ComesToExpect bytes o = Expects (IsStatesFaultIn true bytes) (SaysStatesAndSum bytes) expect_text o
