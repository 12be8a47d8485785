-- What the states and the sum that the bytes say come to, the bytes come to.
use Rattle.std.proofs.Common.{◌≡◌, inl, inr, ℕ, List, None, map, refl, sym, ◌∙◌, ap}
use Rattle.std.specs.Prelude.{Option, Some, true}
use Rattle.std.specs.Option.{IsSomeAnd}
use Rattle.serde_json.specs.Data.{Data}
use Rattle.qn_sites.specs.Sites.{SiteValue}
use Rattle.qn_opsum.specs.Sums.{SumValue}
use Rattle.qn_mps.specs.Chains.{ChainValue}
use Rattle.qn_json.specs.Tree.{tree_of}
use Rattle.qn_sumdoc.specs.StatesValues.{StatesValue}
use Rattle.qn_sumdoc.specs.States.{AreStatesOf, IsOptionalSum}
use Rattle.qn_words.specs.declared.words.Job.TheVariants.{Expect}
use Rattle.qn_cli.specs.declared.status.Status.{Status}
use Rattle.qn_cli.specs.declared.status.Status.TheVariants.{Done, Usage, Malformed, Passed, ReadFault, WriteFault, Memory}
use Rattle.qn_cli.specs.Outcomes.{answered}
use Rattle.qn_cli.specs.Brakets.{IsExpectText, expect_text}
use Rattle.qn_cli.specs.States.{AreStatesIn, HasSumSuch, IsOnStates, braket_of, ComesToExpect}
use Rattle.qn_cli.specs.Jobs.{Multiplies}
use Rattle.qn_cli.specs.Answers.{IsExpectRefusal, IsStatesRefusal, IsWithinExpect, Refuses}

-- the sum stands on the sites of the states
pub states_with_sum : (bytes : List ℕ) (v : StatesValue) → AreStatesIn true bytes v → HasSumSuch v (IsOnStates (braket_of v))
states_with_sum bytes v h = by (tree_of bytes) h.states
  where
    of_sum : (d : Data) (o : Option SumValue) → v.sum ≡ o → AreStatesOf true d v → IsOptionalSum true d o → HasSumSuch v (IsOnStates (braket_of v))
    of_sum d None e a p = absurd p
    of_sum d (Some s) e a p = (
      s,
      e,
      record {
        group = p.group ∙ sym (ap (λ (c : ChainValue). c.group) a.chains.bra);
        sites = ap (λ (ss : List SiteValue). map (λ (x : SiteValue). x.leg) ss) p.sites ∙ sym (ap (λ (c : ChainValue). c.sites) a.chains.bra);
      },
    )

    by : (o : Option Data) → IsSomeAnd o (λ d. AreStatesOf true d v) → HasSumSuch v (IsOnStates (braket_of v))
    by None p = absurd p
    by (Some d) p = of_sum d v.sum refl p p.sum

pub expect_of_bytes : (bytes text : List ℕ) (v : StatesValue) → AreStatesIn true bytes v → HasSumSuch v (IsExpectText expect_text text (braket_of v)) → ComesToExpect bytes (answered text)
expect_of_bytes bytes text v are p = record { states = braket_of v; sum = p.0; says = (v, are, refl, p.1); such = p.2 }

pub expect_refusal_of_bytes : (workers : ℕ) (bytes : List ℕ) (v : StatesValue) (s : Status) → AreStatesIn true bytes v → HasSumSuch v (λ sum. IsExpectRefusal (braket_of v) sum s) → Refuses (Expect workers) bytes s
expect_refusal_of_bytes workers bytes v Done are p = p.2
expect_refusal_of_bytes workers bytes v (Usage word) are p = p.2
expect_refusal_of_bytes workers bytes v (Malformed f) are p = inr (record { states = braket_of v; sum = p.0; says = (v, are, refl, p.1); such = p.2 })
expect_refusal_of_bytes workers bytes v (Passed step at offset) are p = record { states = braket_of v; sum = p.0; says = (v, are, refl, p.1); such = p.2 }
expect_refusal_of_bytes workers bytes v ReadFault are p = p.2
expect_refusal_of_bytes workers bytes v WriteFault are p = p.2
expect_refusal_of_bytes workers bytes v Memory are p = p.2

pub states_refused : (workers : ℕ) (bytes : List ℕ) (s : Status) → IsStatesRefusal true bytes s → Refuses (Expect workers) bytes s
states_refused workers bytes Done p = p
states_refused workers bytes (Usage word) p = p
states_refused workers bytes (Malformed f) p = inl p
states_refused workers bytes (Passed step at offset) p = absurd p
states_refused workers bytes ReadFault p = p
states_refused workers bytes WriteFault p = p
states_refused workers bytes Memory p = p

pub multiplied_in_expect : (workers : ℕ) (bytes : List ℕ) (v : StatesValue) (before now : ℕ) → AreStatesIn true bytes v → HasSumSuch v (λ sum. IsWithinExpect (braket_of v) sum before now)
    → Multiplies (Expect workers) bytes before now
unfolding IsWithinExpect Multiplies
multiplied_in_expect workers bytes v before now are (s, e, inl same) = inl same
multiplied_in_expect workers bytes v before now are (s, e, inr few) = inr (few.0, record { states = braket_of v; sum = s; says = (v, are, refl, e); such = few.1 }, few.2)
