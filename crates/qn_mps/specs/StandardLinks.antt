-- A standard chain, link by link.
-- Fishman, White and Stoudenmire 2022.
use Rattle.std.specs.Prelude.{◌≡◌, ℕ, suc, ℤ, List}
use Rattle.qn_index.specs.declared.leg.Dir.TheVariants.{Out, In}
use Rattle.qn_block.specs.Blocked.{BlockedValue}
use Rattle.qn_braket.specs.Chains.{tensor_at, first_leg, last_leg}

-- the link right of site j has the arrows of a standard chain, and the tensor there has the flux zero
abbrev pub IsStandardAt : List ℤ → List BlockedValue → ℕ → Type 0
IsStandardAt zero ts j = ((last_leg (tensor_at ts j)).arrow ≡ In) × ((first_leg (tensor_at ts (suc j))).arrow ≡ Out) × ((tensor_at ts j).flux ≡ zero)
