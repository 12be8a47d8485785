-- Values out of range.
use Rattle.std.specs.Prelude.{◌≡◌, ℕ, ◌≤◌, ℤ, true, List, [], ◌∷◌}
use Rattle.qn_sign.specs.Sign.{is_in}
use Rattle.qn_gauss.specs.Gaussian.{zero_g}
use Rattle.qn_index.specs.Legs.{SectorValue, total}
use Rattle.qn_value.specs.Networks.{End, Node, Bond, Assignment, Parities, same_end, values, contract, IsNetwork}
use Rattle.qn_value.specs.Blocks.{Blocked, legs_on, blocked_node, HaveTuples}

-- the entry is 0 where a leg's value is out of the range of its line
abbrev pub IsBounded : (ℤ → ℕ) → Node → Type 0
IsBounded dims n = (a : Assignment) (e : End) → is_in same_end e n.ends ≡ true → dims e.label ≤ a e → n.entry (values n.ends a) ≡ zero_g

abbrev pub AllBounded : (ℤ → ℕ) → List Node → Type 0
AllBounded dims [] = Unit {0}
AllBounded dims (n ∷ ns) = IsBounded dims n × AllBounded dims ns

-- contractions of such tensors are such
abbrev pub BoundsLaw : Type 0
BoundsLaw =
    (dims : ℤ → ℕ) (par : Parities) (ns : List Node) (bonds : List Bond) (opens : List End) →
    IsNetwork ns bonds opens → AllBounded dims ns → IsBounded dims (contract par ns bonds opens)

-- and so is a tensor held in blocks
abbrev pub BlockBoundsLaw : Type 0
BlockBoundsLaw =
    (sectors : ℤ → List SectorValue) (n : Blocked) → HaveTuples (legs_on sectors n.ends) n.blocks → IsBounded (λ l. total (sectors l)) (blocked_node sectors n)
