-- A combiner's table contracted with a tensor over the legs that it takes: the new legs stand in the place of the old ones.
-- NCON, arXiv:1402.0939; Singh, Pfeifer and Vidal 2010; combiners as in Fishman, White and Stoudenmire 2022.
use Rattle.std.specs.Prelude.{◌≡◌, ℕ, ℤ, false, not, List, [], ◌∷◌, ◌++◌, map}
use Rattle.qn_sign.specs.Sign.{IsDistinct}
use Rattle.qn_charge.specs.Charges.{parity}
use Rattle.qn_index.specs.Legs.{LegValue, SectorValue, parity_at, total}
use Rattle.qn_index.specs.Places.{IsValues}
use Rattle.qn_value.specs.Networks.{End, Node, Bond, same_end, contract}
use Rattle.qn_value.specs.Blocks.{legs_on}
use Rattle.qn_value.specs.Tensors.{TensorValue, entry_of}
use Rattle.qn_block.specs.Combiners.{CombinerValue, IsCombiner, fused_leg}
use Rattle.qn_block.specs.Tables.{fuse_tensor, split_tensor}
use Rattle.qn_fuse.specs.Fused.{AreFused}

abbrev pub flip : End → End
flip e = record { label = e.label; inward = not e.inward }

-- last first
abbrev pub backwards : {A : Type 0} → List A → List A
backwards [] = []
backwards (x ∷ xs) = backwards xs ++ (x ∷ [])

-- the legs of a table: the new ones, and then the flipped old ones, last first
abbrev pub table_ends : List End → List End → List End
table_ends new old = new ++ backwards (map flip old)

-- the lines of these legs
abbrev pub bonds_over : (ℤ → ℕ) → List End → List Bond
bonds_over dims [] = []
bonds_over dims (e ∷ es) = record { label = e.label; dim = dims e.label; twisted = false } ∷ bonds_over dims es

-- each leg is an end of a line with its sectors: those before the combiner's legs, the combiner's own, the fused leg, and those behind
pub record AreLines (c : CombinerValue) (before behind : List LegValue) (sectors : ℤ → List SectorValue) (first own rest : List End) (fused : End) : Type 0 where
  pub before_legs : legs_on sectors first ≡ before
  pub own_legs : legs_on sectors own ≡ c.legs
  pub fused_leg : legs_on sectors (fused ∷ []) ≡ fused_leg c.group c.legs c.arrow ∷ []
  pub behind_legs : legs_on sectors rest ≡ behind

abbrev pub table_node : List End → List End → TensorValue → Node
table_node new old table = record { ends = table_ends new old; entry = entry_of table; odd = false }

abbrev pub tensor_node : List End → TensorValue → Node
tensor_node es t = record { ends = es; entry = entry_of t; odd = parity t.group t.flux }

-- an entry of a table contracted with a tensor over all its old legs, the new ones standing in their place
abbrev pub contracted : CombinerValue → (ℤ → List SectorValue) → TensorValue → TensorValue → List End → List End → List End → List End → Node
contracted c sectors table t first new old rest =
    contract (λ l v. parity_at c.group (sectors l) v) (table_node new old table ∷ tensor_node (first ++ (old ++ rest)) t ∷ []) (bonds_over (λ l. total (sectors l)) old) (first ++ (new ++ rest))

abbrev pub AreApart : List End → List End → List End → List End → Type 0
AreApart first new old rest = IsDistinct same_end (table_ends new old ++ (first ++ (old ++ rest)))

-- the fused tensor is the fuse table contracted with the wide one
abbrev pub FuseContractionLaw : Type 0
FuseContractionLaw =
    (c : CombinerValue) (before behind : List LegValue) (wide narrow : TensorValue) (sectors : ℤ → List SectorValue) (first own rest : List End) (fused : End) (xs : List ℕ) →
    IsCombiner c → AreFused c before behind wide narrow → AreLines c before behind sectors first own rest fused → AreApart first (fused ∷ []) own rest → IsValues narrow.legs xs →
    entry_of narrow xs ≡ (contracted c sectors (fuse_tensor c) wide first (fused ∷ []) own rest).entry xs

-- and the wide one is the split table contracted with the fused one
abbrev pub SplitContractionLaw : Type 0
SplitContractionLaw =
    (c : CombinerValue) (before behind : List LegValue) (wide narrow : TensorValue) (sectors : ℤ → List SectorValue) (first own rest : List End) (fused : End) (xs : List ℕ) →
    IsCombiner c → AreFused c before behind wide narrow → AreLines c before behind sectors first own rest fused → AreApart first own (fused ∷ []) rest → IsValues wide.legs xs →
    entry_of wide xs ≡ (contracted c sectors (split_tensor c) narrow first own (fused ∷ []) rest).entry xs
