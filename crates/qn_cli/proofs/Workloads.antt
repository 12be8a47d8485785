-- What the states and the sum of a seed come to, the job of this seed comes to.
use Rattle.std.proofs.Common.{◌≡◌, inl, inr, ℕ, List, map, sym, ◌∙◌, ap}
use Rattle.qn_opsum.specs.Sums.{SumValue}
use Rattle.qn_sites.specs.Sites.{SiteValue}
use Rattle.qn_mps.specs.Chains.{ChainValue}
use Rattle.qn_gen.specs.Workload.{generated_sum, generated_bra, generated_ket}
use Rattle.qn_words.specs.declared.words.Job.TheVariants.{Gen}
use Rattle.qn_cli.specs.declared.status.Status.{Status}
use Rattle.qn_cli.specs.declared.status.Status.TheVariants.{Done, Usage, Malformed, Passed, ReadFault, WriteFault, Memory}
use Rattle.qn_cli.specs.Outcomes.{answered}
use Rattle.qn_cli.specs.Brakets.{IsExpectText, pair_of}
use Rattle.qn_cli.specs.States.{ArePair, IsOnStates}
use Rattle.qn_cli.specs.Generated.{text_for, IsGenerated}
use Rattle.qn_cli.specs.Jobs.{ComesTo, Multiplies}
use Rattle.qn_cli.specs.Answers.{IsExpectRefusal, IsWithinExpect, Refuses}

-- the states stand on the same sites
pub pair_of_seed : (seed : ℕ) (first second : ChainValue) → first ≡ generated_bra seed → second ≡ generated_ket seed → ArePair first second
pair_of_seed seed first second p q = record {
  bra = ap (λ (c : ChainValue). c.kind) p;
  ket = ap (λ (c : ChainValue). c.kind) q;
  group = ap (λ (c : ChainValue). c.group) q ∙ sym (ap (λ (c : ChainValue). c.group) p);
  sites = ap (λ (c : ChainValue). c.sites) q ∙ sym (ap (λ (c : ChainValue). c.sites) p);
}

-- and so does the sum
pub sum_of_seed : (seed : ℕ) (first second : ChainValue) (v : SumValue) → first ≡ generated_bra seed → v ≡ generated_sum seed → IsOnStates (pair_of first second) v
sum_of_seed seed first second v p r = record {
  group = ap (λ (w : SumValue). w.group) r ∙ sym (ap (λ (c : ChainValue). c.group) p);
  sites = ap (λ (w : SumValue). map (λ (x : SiteValue). x.leg) w.sites) r ∙ sym (ap (λ (c : ChainValue). c.sites) p);
}

generated : (seed : ℕ) (first second : ChainValue) (v : SumValue) → first ≡ generated_bra seed → second ≡ generated_ket seed → v ≡ generated_sum seed → IsGenerated seed (pair_of first second) v
generated seed first second v p q r = (ap (λ (c : ChainValue). pair_of c second) p ∙ ap (pair_of (generated_bra seed)) q, r)

pub summary_of_seed : (seed workers : ℕ) (bytes text : List ℕ) (first second : ChainValue) (v : SumValue)
    → first ≡ generated_bra seed → second ≡ generated_ket seed → v ≡ generated_sum seed
    → IsExpectText text_for text (pair_of first second) v → ComesTo (Gen seed workers) bytes (answered text)
summary_of_seed seed workers bytes text first second v p q r such = record { states = pair_of first second; sum = v; says = generated seed first second v p q r; such = such }

pub refusal_of_seed : (seed workers : ℕ) (bytes : List ℕ) (first second : ChainValue) (v : SumValue) (s : Status)
    → first ≡ generated_bra seed → second ≡ generated_ket seed → v ≡ generated_sum seed → IsExpectRefusal (pair_of first second) v s → Refuses (Gen seed workers) bytes s
refusal_of_seed seed workers bytes first second v Done p q r such = such
refusal_of_seed seed workers bytes first second v (Usage word) p q r such = such
refusal_of_seed seed workers bytes first second v (Malformed f) p q r such =
    inr (record { states = pair_of first second; sum = v; says = generated seed first second v p q r; such = such })
refusal_of_seed seed workers bytes first second v (Passed step at offset) p q r such =
    record { states = pair_of first second; sum = v; says = generated seed first second v p q r; such = such }
refusal_of_seed seed workers bytes first second v ReadFault p q r such = such
refusal_of_seed seed workers bytes first second v WriteFault p q r such = such
refusal_of_seed seed workers bytes first second v Memory p q r such = such

pub multiplied_for_seed : (seed workers : ℕ) (bytes : List ℕ) (first second : ChainValue) (v : SumValue) (before now : ℕ)
    → first ≡ generated_bra seed → second ≡ generated_ket seed → v ≡ generated_sum seed → IsWithinExpect (pair_of first second) v before now → Multiplies (Gen seed workers) bytes before now
unfolding IsWithinExpect Multiplies
multiplied_for_seed seed workers bytes first second v before now p q r (inl same) = inl same
multiplied_for_seed seed workers bytes first second v before now p q r (inr few) =
    inr (few.0, record { states = pair_of first second; sum = v; says = generated seed first second v p q r; such = few.1 }, few.2)
