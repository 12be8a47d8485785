-- The automaton of the generated sum stands on the sites of the generated states.
use Rattle.std.proofs.Common.{◌≡◌, ℕ, map, sym, ◌∙◌, ap}
use Rattle.qn_sites.specs.Sites.{SiteValue}
use Rattle.qn_opsum.specs.Sums.{SumValue}
use Rattle.qn_mps.specs.Chains.{ChainValue}
use Rattle.qn_mpo.specs.Builds.{IsBuilt}
use Rattle.qn_gen.specs.Workload.{generated_sum, generated_bra, generated_ket}
use Rattle.qn_corr.specs.Correlators.{AreMatched}

pub matched_of_seed : (seed : ℕ) (first op second : ChainValue) (v : SumValue) → first ≡ generated_bra seed → second ≡ generated_ket seed → v ≡ generated_sum seed → IsBuilt v op → AreMatched first op second
matched_of_seed seed first op second v p q r i = record {
  bra_kind = ap (λ (c : ChainValue). c.kind) p;
  op_kind = i.on.kind;
  ket_kind = ap (λ (c : ChainValue). c.kind) q;
  groups = (
    i.on.group ∙ ap (λ (w : SumValue). w.group) r ∙ sym (ap (λ (c : ChainValue). c.group) p),
    ap (λ (c : ChainValue). c.group) q ∙ sym (ap (λ (c : ChainValue). c.group) p),
  );
  sites = (
    i.on.sites ∙ ap (λ (w : SumValue). map (λ (x : SiteValue). x.leg) w.sites) r ∙ sym (ap (λ (c : ChainValue). c.sites) p),
    ap (λ (c : ChainValue). c.sites) q ∙ sym (ap (λ (c : ChainValue). c.sites) p),
  );
}
