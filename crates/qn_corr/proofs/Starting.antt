-- Before the first step of an expectation.
use Rattle.std.proofs.Common.{◌≡◌, ◌≤◌, ◌<◌, ℕ, None, List, [], length, sym, ◌∙◌, ap, subst}
use Rattle.qn_index.specs.Legs.{LegValue}
use Rattle.qn_net.specs.Passing.{first_admissible_step}
use Rattle.qn_net.specs.NetworkValues.{NetworkValue, IsWellFormed, parities, sectors, steps, passing_place}
use Rattle.qn_plan.specs.Planned.{StepValue, planned, first_wide}
use Rattle.qn_mps.specs.Chains.{IsHeld}
use Rattle.qn_engine.specs.Parts.{PartValue}
use Rattle.qn_engine.specs.Carrying.{AreReady, IsCarried}
use Rattle.qn_engine.proofs.Evaluating.{on_start}
use Rattle.qn_sweep.specs.LeftToRight.{LeftToRightLaw}
use Rattle.qn_corr.specs.Sweeping.{IsSweepAt}
use Rattle.qn_corr.specs.Correlators.{CorrValue, AreMatched, IsNetworkOf}

-- no label of the network is twisted
pub no_twists : (c : CorrValue) (net : NetworkValue) → IsNetworkOf c net → [] ≡ net.twists
no_twists c net x = sym (ap (λ (z : NetworkValue). z.twists) x.2)

-- the chains have as many tensors as sites, and so as many as each other
module _ (c : CorrValue) (m : AreMatched c.bra c.op c.ket) (hb : IsHeld c.bra) (ho : IsHeld c.op) (hk : IsHeld c.ket) where
  pub ops_long : length c.op.tensors ≡ length c.bra.tensors
  ops_long = ho.chain.count ∙ ap (λ (ls : List LegValue). length ls) m.sites.0 ∙ sym hb.chain.count

  pub kets_long : length c.ket.tensors ≡ length c.bra.tensors
  kets_long = hk.chain.count ∙ ap (λ (ls : List LegValue). length ls) m.sites.1 ∙ sym hb.chain.count

  pub some_sites : 0 < length c.bra.tensors
  some_sites = subst (λ n. 0 < n) (sym hb.chain.count) hb.chain.some

  pub few_sites : length c.bra.tensors ≤ 64
  few_sites = subst (λ n. n ≤ 64) (sym hb.chain.count) hb.few

  pub sweep_start : LeftToRightLaw → (net : NetworkValue) → IsNetworkOf c net → IsWellFormed net → (plan : List StepValue) (ps : List PartValue) → plan ≡ planned net → (first_wide net ≡ None → AreReady net) → first_wide net ≡ None →
      passing_place net ≡ first_admissible_step (parities net) net.group (sectors net) 1 (steps net) → IsCarried net 0 ps → IsSweepAt net plan (length c.bra.tensors) 0 ps
  sweep_start law net x w plan ps e ready narrow place k = record {
    formed = w;
    sweep = law c.bra.group c.bra.tensors c.op.tensors c.ket.tensors net w x some_sites few_sites ops_long kets_long;
    way = on_start net plan [] ps e (no_twists c net x) ready narrow place k;
  }

  -- however the sites are counted
  pub sweep_begin : LeftToRightLaw → (net : NetworkValue) → IsNetworkOf c net → IsWellFormed net → (plan : List StepValue) (ps : List PartValue) → plan ≡ planned net → (first_wide net ≡ None → AreReady net) → first_wide net ≡ None →
      passing_place net ≡ first_admissible_step (parities net) net.group (sectors net) 1 (steps net) → IsCarried net 0 ps → (n : ℕ) → n ≡ length c.bra.tensors → IsSweepAt net plan n 0 ps
  sweep_begin law net x w plan ps e ready narrow place k n q = subst (λ m. IsSweepAt net plan m 0 ps) (sym q) (sweep_start law net x w plan ps e ready narrow place k)
