-- Tensors with some legs fused into one, and the faults of parting them.
-- Source: Singh, Pfeifer and Vidal 2010; combiners as in Fishman, White and Stoudenmire 2022.
use Rattle.std.specs.Prelude.{◌≡◌, ◌≤◌, ◌+◌, ℕ, ℤ, true, List, ◌∷◌, ◌++◌, length, take, drop}
use Rattle.qn_charge.specs.declared.factor.Factor.{Factor}
use Rattle.qn_index.specs.Legs.{LegValue}
use Rattle.qn_index.specs.Extents.{IsTooWide}
use Rattle.qn_value.specs.Tensors.{TensorValue, IsTensor, entry_of}
use Rattle.qn_block.specs.Combiners.{CombinerValue, IsCombiner, fused_leg, fused_values, stands_at}
use Rattle.qn_fuse.specs.declared.fault.SplitFault.{SplitFault}
use Rattle.qn_fuse.specs.declared.fault.SplitFault.TheVariants.{TooWide, Memory}

-- the legs of the combiner between these legs, and the fused leg in their place
abbrev pub wide_legs : CombinerValue → List LegValue → List LegValue → List LegValue
wide_legs c before behind = before ++ (c.legs ++ behind)

abbrev pub narrow_legs : CombinerValue → List LegValue → List LegValue → List LegValue
narrow_legs c before behind = before ++ (fused_leg c.group c.legs c.arrow ∷ behind)

-- `narrow` is `wide` with the combiner's legs made into one: where values of the legs match a value of the fused leg the entries are the same
pub record AreFused (c : CombinerValue) (before behind : List LegValue) (wide narrow : TensorValue) : Type 0 where
  pub group : narrow.group ≡ wide.group
  pub flux : narrow.flux ≡ wide.flux
  pub wide_legs : wide.legs ≡ wide_legs c before behind
  pub narrow_legs : narrow.legs ≡ narrow_legs c before behind
  pub entries : (ps us qs : List ℕ) (w : ℕ) → length ps ≡ length before → stands_at (fused_values c.group c.legs c.arrow) w us ≡ true →
      entry_of narrow (ps ++ (w ∷ qs)) ≡ entry_of wide (ps ++ (us ++ qs))

-- from a place on, the legs of the combiner stand among these legs
pub record HasLegsAt (c : CombinerValue) (first : ℕ) (ls : List LegValue) : Type 0 where
  pub within : first ≤ length ls
  pub legs : ls ≡ wide_legs c (take first ls) (drop (first + length c.legs) ls)

-- at a place the fused leg stands among these legs
pub record HasFusedAt (c : CombinerValue) (at : ℕ) (ls : List LegValue) : Type 0 where
  pub within : at ≤ length ls
  pub legs : ls ≡ narrow_legs c (take at ls) (drop (at + 1) ls)

-- the legs with those of the combiner fused, and with the fused leg parted
abbrev pub fused_at : CombinerValue → ℕ → List LegValue → List LegValue
fused_at c first ls = narrow_legs c (take first ls) (drop (first + length c.legs) ls)

abbrev pub split_at : CombinerValue → ℕ → List LegValue → List LegValue
split_at c at ls = wide_legs c (take at ls) (drop (at + 1) ls)

-- why the fused leg of a tensor can't be split: the result would be too wide
abbrev pub IsSplitFault : List Factor → List LegValue → List ℤ → SplitFault → Type 0
IsSplitFault fs ls q TooWide = IsTooWide fs ls q
IsSplitFault fs ls q Memory = Unit {0}

-- two tensors with the same legs, flux and entries
pub record AreSame (t r : TensorValue) : Type 0 where
  pub group : r.group ≡ t.group
  pub legs : r.legs ≡ t.legs
  pub flux : r.flux ≡ t.flux
  pub entries : (xs : List ℕ) → entry_of r xs ≡ entry_of t xs

-- to split what was fused gives it back
abbrev pub SplitAfterFuseLaw : Type 0
SplitAfterFuseLaw =
    (c : CombinerValue) (before behind : List LegValue) (t r s : TensorValue) → IsCombiner c → IsTensor t → IsTensor s →
    AreFused c before behind t r → AreFused c before behind s r → AreSame t s

-- to fuse what was split gives it back
abbrev pub FuseAfterSplitLaw : Type 0
FuseAfterSplitLaw =
    (c : CombinerValue) (before behind : List LegValue) (t r s : TensorValue) → IsCombiner c → IsTensor t → IsTensor s →
    AreFused c before behind r t → AreFused c before behind r s → AreSame t s
