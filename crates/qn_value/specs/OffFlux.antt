-- Contractions off their flux.
-- Singh, Pfeifer and Vidal 2010.
use Rattle.std.specs.Prelude.{◌≡◌, ℕ, List, [], length, map}
use Rattle.std.specs.List.{flat_map}
use Rattle.qn_gauss.specs.Gaussian.{zero_g}
use Rattle.qn_charge.specs.declared.factor.Factor.{Factor}
use Rattle.qn_charge.specs.Charges.{IsGroup}
use Rattle.qn_index.specs.Tuples.{net}
use Rattle.qn_index.specs.Places.{sectors_at}
use Rattle.qn_value.specs.Tensors.{TensorValue}
use Rattle.qn_value.specs.Labels.{value_of}
use Rattle.qn_value.specs.Local.{coupled, open_legs, IsCoupling, AllTensors}
use Rattle.qn_value.specs.Fluxes.{sum_flux}
use Rattle.qn_value.specs.Magnitudes.{magnitude_of}

-- off the flux a contraction of coupled tensors is 0, and so is its sum of magnitudes
abbrev pub OffFluxLaw : Type 0
OffFluxLaw =
    (fs : List Factor) (ts : List TensorValue) (couples : List (ℕ × ℕ)) → IsGroup fs → AllTensors fs ts → IsCoupling (flat_map (λ t. t.legs) ts) couples →
    (xs : List ℕ) → length xs ≡ length (open_legs ts couples) →
    (net fs (open_legs ts couples) (sectors_at (open_legs ts couples) xs) ≡ sum_flux fs (map (λ t. t.flux) ts) → ⊥) →
    (value_of fs (coupled ts couples) [] (length xs) xs ≡ zero_g) × (magnitude_of (coupled ts couples) (length xs) xs ≡ 0)
