-- The state 2i|10> + 3|01> of two fermion sites, and the operator that moves a fermion from the second site to the first.
use Rattle.std.specs.Prelude.{ℕ, ℤ, pos, negsuc, List, [], ◌∷◌}
use Rattle.qn_gauss.specs.Gaussian.{Gaussian}
use Rattle.qn_index.specs.declared.leg.Dir.TheVariants.{Out, In}
use Rattle.qn_index.specs.Legs.{LegValue}
use Rattle.qn_value.specs.Tensors.{BlockValue}
use Rattle.qn_value.specs.Examples.{fermions, mode, odd_leg}
use Rattle.qn_block.specs.Blocked.{BlockedValue}

abbrev pub number : ℤ → ℤ → Gaussian
number x y = record { re = x; im = y }

-- a block with one entry
abbrev pub block : List ℕ → ℤ → ℤ → BlockValue
block t x y = record { tuple = t; entries = number x y ∷ [] }

abbrev pub tensor : List LegValue → ℤ → List BlockValue → BlockedValue
tensor ls q bs = record { group = fermions; legs = ls; flux = q ∷ []; blocks = bs }

-- the two sites: 0 is empty, 1 is a fermion
abbrev pub two_sites : List LegValue
two_sites = mode Out ∷ mode Out ∷ []

abbrev pub state : List BlockedValue
state =
    tensor (mode Out ∷ mode In ∷ []) (pos 0) (block (0 ∷ 0 ∷ []) (pos 1) (pos 0) ∷ block (1 ∷ 1 ∷ []) (pos 0) (pos 1) ∷ [])
    ∷ tensor (mode Out ∷ mode Out ∷ []) (pos 1) (block (0 ∷ 1 ∷ []) (pos 3) (pos 0) ∷ block (1 ∷ 0 ∷ []) (pos 2) (pos 0) ∷ []) ∷ []

-- the same state with the other arrow first on the link; there a fermion on the link gives a sign
abbrev pub turned_state : List BlockedValue
turned_state =
    tensor (mode Out ∷ mode Out ∷ []) (pos 1) (block (0 ∷ 1 ∷ []) (pos 1) (pos 0) ∷ block (1 ∷ 0 ∷ []) (pos 0) (pos 1) ∷ [])
    ∷ tensor (mode In ∷ mode Out ∷ []) (pos 0) (block (0 ∷ 0 ∷ []) (pos 2) (pos 0) ∷ block (1 ∷ 1 ∷ []) (negsuc 2) (pos 0) ∷ []) ∷ []

-- the operator that takes the fermion from the second site to the first
abbrev pub hop : List BlockedValue
hop =
    tensor (mode Out ∷ mode In ∷ odd_leg In ∷ []) (pos 0) (block (1 ∷ 0 ∷ 0 ∷ []) (pos 1) (pos 0) ∷ [])
    ∷ tensor (odd_leg Out ∷ mode Out ∷ mode In ∷ []) (pos 0) (block (0 ∷ 0 ∷ 1 ∷ []) (pos 1) (pos 0) ∷ []) ∷ []

-- the conjugates of the state's tensors, in site order
abbrev pub conjugates : List BlockedValue
conjugates =
    tensor (mode Out ∷ mode In ∷ []) (pos 0) (block (0 ∷ 0 ∷ []) (pos 1) (pos 0) ∷ block (1 ∷ 1 ∷ []) (pos 0) (negsuc 0) ∷ [])
    ∷ tensor (mode In ∷ mode In ∷ []) (negsuc 0) (block (0 ∷ 1 ∷ []) (pos 2) (pos 0) ∷ block (1 ∷ 0 ∷ []) (pos 3) (pos 0) ∷ []) ∷ []
