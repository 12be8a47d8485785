-- The tensors of an automaton have the flux of the sum together.
use Rattle.std.proofs.Common.{◌≡◌, ◌<◌, ◌+◌, ℕ, zero, suc, ℤ, List, length, map, if◌then◌else◌, eq-eqb, refl, ap, ap₂, ◌∙◌, arith}
use Rattle.std.proofs.lemmas.Bool.{ne_eqb}
use Rattle.std.specs.List.{range_with_len}
use Rattle.qn_charge.specs.Charges.{sum_charge, zero_charge}
use Rattle.qn_charge.specs.Laws.{commutative_charge, zero_is_neutral}
use Rattle.qn_value.specs.Fluxes.{sum_flux}
use Rattle.qn_block.specs.Blocked.{BlockedValue}
use Rattle.qn_opsum.specs.Sums.{SumValue}
use Rattle.qn_opsum.specs.Refusals.{IsSum}
use Rattle.qn_auto.specs.SumAutomaton.{flux_at}
use Rattle.qn_braket.specs.Chains.{chain_flux}
use Rattle.qn_cli.specs.Operators.{site_tensor, automaton}

abbrev fluxes : SumValue → List ℕ → List (List ℤ)
fluxes v ks = map (λ (t : BlockedValue). t.flux) (map (site_tensor v) ks)

module _ (v : SumValue) (s : IsSum v) where
  last : (j : ℕ) → suc j ≡ length v.sites → flux_at v j ≡ v.flux
  last j e = ap (λ b. if b then v.flux else zero_charge v.group) (eq-eqb (suc j) (length v.sites) e)

  earlier : (j k : ℕ) → j + suc (suc k) ≡ length v.sites → flux_at v j ≡ zero_charge v.group
  earlier j k e = ap (λ b. if b then v.flux else zero_charge v.group) (ne_eqb (suc j) (length v.sites) (λ same. omega (arith, e, same)))

  from : (j k : ℕ) → j + suc k ≡ length v.sites → sum_flux v.group (fluxes v (range_with_len j (suc k))) ≡ v.flux
  from j zero e =
      ap (λ q. sum_charge v.group q (zero_charge v.group)) (last j (omega (arith, e)))
      ∙ (commutative_charge v.group v.flux (zero_charge v.group) ∙ zero_is_neutral v.group v.flux s.flux.canonical)
  from j (suc k) e =
      ap₂ (sum_charge v.group) (earlier j k e) (from (j + 1) k (omega (arith, e))) ∙ zero_is_neutral v.group v.flux s.flux.canonical

  pub automaton_flux : chain_flux v.group (automaton v) ≡ v.flux
  automaton_flux = by (length v.sites) refl s.sites.some
    where
      by : (n : ℕ) → length v.sites ≡ n → 0 < length v.sites → sum_flux v.group (fluxes v (range_with_len 0 n)) ≡ v.flux
      by zero e some = absurd (none (length v.sites) e some)
        where
          none : (n : ℕ) → n ≡ 0 → 0 < n → ⊥
          none n is more = omega (arith, is, more)
      by (suc k) e some = from 0 k (omega (arith, e))
