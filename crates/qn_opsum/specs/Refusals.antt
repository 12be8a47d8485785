-- Why terms are no operator sum.
use Rattle.std.specs.Prelude.{◌≡◌, ◌≢◌, ◌<◌, ◌≤◌, ◌⊎◌, ℕ, zero, suc, List, [], length, slice_index_or}
use Rattle.std.specs.List.{All}
use Rattle.qn_charge.specs.declared.factor.Factor.{Factor}
use Rattle.qn_charge.specs.Charges.{IsGroup}
use Rattle.qn_charge.specs.Firsts.{IsFirst, HasNone}
use Rattle.qn_index.specs.Tuples.{IsFlux}
use Rattle.qn_sites.specs.Sites.{IsSite, SiteValue, name_at}
use Rattle.qn_opsum.specs.declared.fault.SumFault.{SumFault}
use Rattle.qn_opsum.specs.declared.fault.SumFault.TheVariants.{TermCount, SiteRange, UnknownOp, MixedFlux, Memory}
use Rattle.qn_opsum.specs.Sums.{SumValue, TermValue, charge_of, ops_for, term_at}

abbrev pub factor_at : List (ℕ × List ℕ) → ℕ → ℕ × List ℕ
factor_at gs i = slice_index_or gs i (0, [])

-- the i-th operator's site is outside 1 to n
abbrev pub BadSite : ℕ → List (ℕ × List ℕ) → ℕ → Type 0
BadSite n gs i = (i < length gs) × (((factor_at gs i).0 ≡ 0) ⊎ (n < (factor_at gs i).0))

-- the site of an operator has none of its name
abbrev pub IsUnknown : List SiteValue → ℕ × List ℕ → Type 0
IsUnknown ss f = (i : ℕ) → i < length (ops_for ss f) → name_at (ops_for ss f) i ≢ f.1

-- the site of the i-th operator has none of its name
abbrev pub BadName : List SiteValue → List (ℕ × List ℕ) → ℕ → Type 0
BadName ss gs i = (i < length gs) × IsUnknown ss (factor_at gs i)

-- a term of at most 32 operators, each on one of the sites and known there
pub record IsGood (ss : List SiteValue) (gs : List (ℕ × List ℕ)) : Type 0 where
  pub few : length gs ≤ 32
  pub sites : HasNone (BadSite (length ss) gs)
  pub names : HasNone (BadName ss gs)

-- what is at fault in the t-th term: sites come before names, and each names the first operator, from 1, or 0 where there are too many
abbrev pub IsTermFault : List SiteValue → List (ℕ × List ℕ) → ℕ → SumFault → Type 0
IsTermFault ss gs t TermCount = ⊥
IsTermFault ss gs t (SiteRange u zero) = (u ≡ t) × (32 < length gs)
IsTermFault ss gs t (SiteRange u (suc i)) = (u ≡ t) × (length gs ≤ 32) × IsFirst (BadSite (length ss) gs) i
IsTermFault ss gs t (UnknownOp u zero) = ⊥
IsTermFault ss gs t (UnknownOp u (suc i)) = (u ≡ t) × (length gs ≤ 32) × HasNone (BadSite (length ss) gs) × IsFirst (BadName ss gs) i
IsTermFault ss gs t (MixedFlux u) = ⊥
IsTermFault ss gs t Memory = ⊥

-- the first term at fault
pub record IsFirstTermFault (ss : List SiteValue) (ws : List TermValue) (e : SumFault) : Type 0 where
  pub term : ℕ
  pub within : term < length ws
  pub fault : IsTermFault ss (term_at ws term).factors term e
  pub before : (j : ℕ) → j < term → IsGood ss (term_at ws j).factors

-- no term, or more than 2,000
abbrev pub BadCount : List TermValue → Type 0
BadCount ws = (length ws ≡ 0) ⊎ (2000 < length ws)

-- all terms are good
abbrev pub AllGood : List SiteValue → List TermValue → Type 0
AllGood ss ws = (j : ℕ) → j < length ws → IsGood ss (term_at ws j).factors

-- the t-th term has another charge than the first
abbrev pub OtherCharge : List Factor → List SiteValue → List TermValue → ℕ → Type 0
OtherCharge fs ss ws t = (t < length ws) × (charge_of fs ss (term_at ws t).factors ≢ charge_of fs ss (term_at ws 0).factors)

-- the first fault: the number of terms, then term by term, then their charges
abbrev pub IsSumFault : List Factor → List SiteValue → List TermValue → SumFault → Type 0
IsSumFault fs ss ws TermCount = BadCount ws
IsSumFault fs ss ws (SiteRange t i) = (BadCount ws → ⊥) × IsFirstTermFault ss ws (SiteRange t i)
IsSumFault fs ss ws (UnknownOp t i) = (BadCount ws → ⊥) × IsFirstTermFault ss ws (UnknownOp t i)
IsSumFault fs ss ws (MixedFlux t) = (BadCount ws → ⊥) × AllGood ss ws × IsFirst (OtherCharge fs ss ws) t
IsSumFault fs ss ws Memory = ⊥

-- sites of one group
pub record AreSites (fs : List Factor) (ss : List SiteValue) : Type 0 where
  pub group : IsGroup fs
  pub some : 0 < length ss
  pub few : length ss ≤ 64
  pub sites : All IsSite ss
  pub groups : All (λ (s : SiteValue). s.group ≡ fs) ss

-- what holds of each operator sum: sites of its group, good terms, and one flux
pub record IsSum (v : SumValue) : Type 0 where
  pub sites : AreSites v.group v.sites
  pub count : BadCount v.terms → ⊥
  pub good : AllGood v.sites v.terms
  pub charges : (j : ℕ) → j < length v.terms → charge_of v.group v.sites (term_at v.terms j).factors ≡ v.flux
  pub flux : IsFlux v.group v.flux
