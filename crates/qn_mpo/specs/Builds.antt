-- What a build answers.
use Rattle.std.specs.Prelude.{◌≡◌, ◌<◌, ℕ, zero, suc, List, length, map, slice_index_or}
use Rattle.qn_gauss.specs.Gaussian.{Gaussian}
use Rattle.qn_charge.specs.Firsts.{IsFirst, HasNone}
use Rattle.qn_index.specs.Places.{IsValues}
use Rattle.qn_rule.specs.Rules.{RuleValue}
use Rattle.qn_sites.specs.Operators.{column_of, element, op_legs, row_of}
use Rattle.qn_opsum.specs.Sums.{SumValue, op_at}
use Rattle.qn_sites.specs.Sites.{SiteValue}
use Rattle.qn_auto.specs.SumAutomaton.{IsAutomatonOf, IsSkeletonOf, IsWideAt, PassesAt}
use Rattle.qn_mps.specs.Chains.{ChainValue}
use Rattle.qn_mps.specs.declared.chain.ChainKind.TheVariants.{Operator}
use Rattle.qn_mpo.specs.declared.fault.BuildFault.{BuildFault}
use Rattle.qn_mpo.specs.declared.fault.BuildFault.TheVariants.{Wide, Passed, Memory}

-- the rules of a site, one for each operator in its order, answer the operators' entries
pub record AnswersSite {F : Type 0} (answers : F → List ℕ → Gaussian → Type 0) (s : SiteValue) (rs : List (RuleValue F)) : Type 0 where
  pub count : length rs ≡ length s.ops
  pub legs : (o : ℕ) (d : RuleValue F) → o < length rs → (slice_index_or rs o d).legs ≡ op_legs s.leg
  pub entries : (o : ℕ) (d : RuleValue F) → o < length rs → (xs : List ℕ) (z : Gaussian) → IsValues (op_legs s.leg) xs →
      answers (slice_index_or rs o d).function xs z → z ≡ element (op_at s.ops o) (row_of xs) (column_of xs)

-- an operator chain on the sites of a sum
pub record IsOnSites (v : SumValue) (c : ChainValue) : Type 0 where
  pub group : c.group ≡ v.group
  pub kind : c.kind ≡ Operator
  pub sites : c.sites ≡ map (λ (s : SiteValue). s.leg) v.sites

-- the chain of the automaton of a sum
pub record IsBuilt (v : SumValue) (c : ChainValue) : Type 0 where
  pub on : IsOnSites v c
  pub tensors : IsAutomatonOf v c.tensors

-- the same without blocks
pub record IsFrame (v : SumValue) (c : ChainValue) : Type 0 where
  pub on : IsOnSites v c
  pub tensors : IsSkeletonOf v c.tensors

-- why there is no skeleton: the first site that is too wide, from 1
abbrev pub IsSkeletonFault : SumValue → BuildFault → Type 0
IsSkeletonFault v (Wide zero) = ⊥
IsSkeletonFault v (Wide (suc j)) = IsFirst (IsWideAt v) j
IsSkeletonFault v (Passed j) = ⊥
IsSkeletonFault v Memory = Unit {0}

-- why there is no build: the first site that is too wide, and where there is none the first at which the build passes
abbrev pub IsBuildFault : SumValue → BuildFault → Type 0
IsBuildFault v (Wide zero) = ⊥
IsBuildFault v (Wide (suc j)) = IsFirst (IsWideAt v) j
IsBuildFault v (Passed zero) = ⊥
IsBuildFault v (Passed (suc j)) = HasNone (IsWideAt v) × IsFirst (PassesAt v) j
IsBuildFault v Memory = Unit {0}

-- why there is no tensor of site j: the build passes there
abbrev pub IsSiteStop : SumValue → ℕ → BuildFault → Type 0
IsSiteStop v j (Wide site) = ⊥
IsSiteStop v j (Passed site) = (site ≡ suc j) × PassesAt v j
IsSiteStop v j Memory = Unit {0}

-- why there are no tensors where no site is too wide: the first site at which the build passes, from 1
abbrev pub IsPassing : SumValue → BuildFault → Type 0
IsPassing v (Wide site) = ⊥
IsPassing v (Passed zero) = ⊥
IsPassing v (Passed (suc j)) = IsFirst (PassesAt v) j
IsPassing v Memory = Unit {0}
