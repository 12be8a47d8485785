-- What a status says of the bytes that came, of the source and of the sink.
use Rattle.std.specs.Prelude.{◌≡◌, ◌⊎◌, ℕ, ◌+◌, ◌≤◌, ◌<◌, List, [], ◌∷◌, length, take, Bool, true, Option, None, Ok, Err}
use Rattle.std.specs.Io.KnownBytes.{Keeps, Consumes, Appends, IsAtEnd}
use Rattle.qn_net.specs.NetworkValues.{NetworkValue}
use Rattle.qn_parts.specs.declared.fault.Fault.{Fault}
use Rattle.qn_words.specs.declared.words.Job.{Job}
use Rattle.qn_words.specs.declared.words.Job.TheVariants.{Mpo}
use Rattle.qn_words.specs.Words.{job_of}
use Rattle.qn_cli.specs.declared.status.Status.{Status}
use Rattle.qn_cli.specs.declared.status.Status.TheVariants.{Done, Usage, Malformed, Passed, ReadFault, WriteFault, Memory}
use Rattle.qn_charge.specs.Firsts.{HasNone}
use Rattle.qn_plan.specs.Planned.{first_wide, cost_of_plan}
use Rattle.qn_opsum.specs.Sums.{SumValue}
use Rattle.qn_auto.specs.SumAutomaton.{IsWideAt, made_of}
use Rattle.qn_cli.specs.Outcomes.{Outcome, refused, passed, answered, most_bytes}
use Rattle.qn_cli.specs.Networks.{IsBytesFault, IsWideStep, IsPassingPlace}
use Rattle.qn_cli.specs.Operators.{HasElementsIn, IsSumFaultIn, IsWideSite, IsPassingSite}
use Rattle.qn_cli.specs.Brakets.{BraketValue, IsWideOverlap, IsPassingOverlap, IsOverlapCost, IsNarrowExpect, IsWideExpect, IsPassingExpect, IsExpectCost}
use Rattle.qn_cli.specs.States.{IsStatesFaultIn}
use Rattle.qn_cli.specs.Jobs.{is_read, ComesTo, Multiplies}

-- a status in the place of a text: with a fault of this kind, or a passing place of this kind; want of memory is free
abbrev pub Stops : (Fault → Type 0) → (ℕ → List ℕ → ℕ → Type 0) → Status → Type 0
Stops Faulty Passes Done = ⊥
Stops Faulty Passes (Usage word) = ⊥
Stops Faulty Passes (Malformed f) = Faulty f
Stops Faulty Passes (Passed step at offset) = Passes step at offset
Stops Faulty Passes ReadFault = ⊥
Stops Faulty Passes WriteFault = ⊥
Stops Faulty Passes Memory = Unit {0}

abbrev pub NoPlace : ℕ → List ℕ → ℕ → Type 0
NoPlace step at offset = ⊥

-- a status in the place of the job's text
abbrev pub Refuses : Job → List ℕ → Status → Type 0
Refuses job bytes s = Stops (λ f. ComesTo job bytes (refused f)) (λ step at offset. ComesTo job bytes (passed step at offset)) s

-- a status for bytes that say no network
abbrev pub IsReadFault : List ℕ → Status → Type 0
IsReadFault bytes s = Stops (IsBytesFault bytes) NoPlace s

-- a status for a network without a plan: the first step whose result is too wide
abbrev pub IsPlanRefusal : NetworkValue → Status → Type 0
IsPlanRefusal net s = Stops (IsWideStep net) NoPlace s

-- a status for a network without a value: the first step whose result is too wide, or the first passing place
abbrev pub IsValueRefusal : NetworkValue → Status → Type 0
IsValueRefusal net s = Stops (IsWideStep net) (IsPassingPlace net) s

-- a status for bytes that say no operator sum
abbrev pub IsSumRefusal : List ℕ → Status → Type 0
IsSumRefusal bytes s = Stops (IsSumFaultIn bytes) NoPlace s

-- a status for an operator sum without an automaton: the first site that is too wide, or the first at which the build passes
abbrev pub IsBuildRefusal : SumValue → Status → Type 0
IsBuildRefusal v s = Stops (IsWideSite v) (IsPassingSite v) s

-- a status for a build that passes at this site, from 1; the build is step 0
abbrev pub IsPassedAt : ℕ → Status → Type 0
IsPassedAt site s = Stops (λ f. ⊥) (λ step at offset. (step ≡ 0) × (at ≡ site ∷ []) × (offset ≡ 0)) s

-- a status for bytes that say no states, where wanted with an operator sum
abbrev pub IsStatesRefusal : Bool → List ℕ → Status → Type 0
IsStatesRefusal with_sum bytes s = Stops (IsStatesFaultIn with_sum bytes) NoPlace s

-- a status for two states without an overlap: the first step whose result is too wide, or the first passing place
abbrev pub IsOverlapRefusal : BraketValue → Status → Type 0
IsOverlapRefusal b s = Stops (λ f. IsWideOverlap f b) (λ step at offset. IsPassingOverlap step at offset b) s

-- some network of the expectation is narrow, and so is the automaton
abbrev pub HasNarrow : BraketValue → SumValue → Type 0
HasNarrow b v = (net : NetworkValue) × IsNarrowExpect b v net

-- a status for an expectation that is too wide: the first site of the automaton, or the first step
abbrev pub IsWidthRefusal : BraketValue → SumValue → Status → Type 0
IsWidthRefusal b v s = Stops (λ f. IsWideExpect f b v) NoPlace s

-- a status for states and a sum without an expectation: the first place that is too wide, or the first that passes
abbrev pub IsExpectRefusal : BraketValue → SumValue → Status → Type 0
IsExpectRefusal b v s = Stops (λ f. IsWideExpect f b v) (λ step at offset. IsPassingExpect step at offset b v) s

-- how many multiplications a network takes: none where a step is too wide, and at most the cost of its plan
unfoldable pub IsWithinPlan : NetworkValue → ℕ → ℕ → Type 0
IsWithinPlan net before now = (now ≡ before) ⊎ ((first_wide net ≡ None) × (now ≤ before + cost_of_plan net))

-- how many an overlap takes: none where a step of its network is too wide, and at most the cost of its plan
unfoldable pub IsWithinOverlap : BraketValue → ℕ → ℕ → Type 0
IsWithinOverlap b before now = (now ≡ before) ⊎ ((n : ℕ) × IsOverlapCost n b × (now ≤ before + n))

-- how many an expectation takes: none where anything is too wide, and at most those of the build and the cost of the plan
unfoldable pub IsWithinExpect : BraketValue → SumValue → ℕ → ℕ → Type 0
IsWithinExpect b v before now = (now ≡ before) ⊎ ((n : ℕ) × IsExpectCost n b v × (now ≤ before + n))

-- how many a build takes: none where a site is too wide, and at most those of the products and the sums
unfoldable pub IsWithinBuild : SumValue → ℕ → ℕ → Type 0
IsWithinBuild v before now = (now ≡ before) ⊎ (HasNone (IsWideAt v) × (now ≤ before + made_of v))

-- a part of the text was taken, and not the whole
abbrev pub AppendsPart : Option (List ℕ) → Option (List ℕ) → List ℕ → Type 0
AppendsPart old new text = (n : ℕ) × (n < length text) × Appends old new (take n text)

-- what a status stands for, and what was written: the text behind what the sink held with Done, a part of it with WriteFault, else nothing.
-- A read fault comes where the document is read, before too many bytes did.
abbrev pub Tells : Job → List ℕ → Option (List ℕ) → Option (List ℕ) → Status → Type 0
Tells job bytes old new Done = (text : List ℕ) × ComesTo job bytes (answered text) × Appends old new text
Tells job bytes old new (Usage word) = ⊥
Tells job bytes old new (Malformed f) = ComesTo job bytes (refused f) × Keeps old new
Tells job bytes old new (Passed step at offset) = ComesTo job bytes (passed step at offset) × Keeps old new
Tells job bytes old new ReadFault = (is_read job ≡ true) × (length bytes ≤ most_bytes) × Keeps old new
Tells job bytes old new WriteFault = (text : List ℕ) × ComesTo job bytes (answered text) × AppendsPart old new text
Tells job bytes old new Memory = Keeps old new

-- the status is the one that the outcome asks for; an answer may end in a fault of the sink
abbrev pub IsStatusOf : Outcome → Status → Type 0
IsStatusOf (refused f) s = s ≡ Malformed f
IsStatusOf (passed step at offset) s = s ≡ Passed step at offset
IsStatusOf (answered text) s = (s ≡ Done) ⊎ (s ≡ WriteFault)

-- the source was read to its end, save where too many bytes came, a read failed or memory was wanting
abbrev pub ReadsToEnd : Status → List ℕ → Option (List ℕ) → Type 0
ReadsToEnd Done bytes left = IsAtEnd left
ReadsToEnd (Usage word) bytes left = ⊥
ReadsToEnd (Malformed f) bytes left = IsAtEnd left ⊎ (most_bytes < length bytes)
ReadsToEnd (Passed step at offset) bytes left = IsAtEnd left
ReadsToEnd ReadFault bytes left = Unit {0}
ReadsToEnd WriteFault bytes left = IsAtEnd left
ReadsToEnd Memory bytes left = Unit {0}

-- how a call ends where these bytes came, which are none where the document is not read: from the source's bytes and the sink's before and after, and the steps before and after
pub record EndsOn (job : Job) (left_old left_new held_old held_new : Option (List ℕ)) (steps_old steps_new : ℕ) (result : Status) (bytes : List ℕ) : Type 0 where
  pub came : Consumes left_old left_new bytes
  -- at most one byte more than a document may have is taken
  pub within : length bytes ≤ most_bytes + 1
  pub end : is_read job ≡ true → ReadsToEnd result bytes left_new
  pub tells : Tells job bytes held_old held_new result
  pub cost : Multiplies job bytes steps_old steps_new
  -- the network that is written has the matrix elements of the operator sum
  pub elements : result ≡ Done → job ≡ Mpo → HasElementsIn bytes

-- how a call ends on these words: with the first that doesn't fit, or as their job and the bytes that came ask
pub record Ends (words : List (List ℕ)) (left_old left_new held_old held_new : Option (List ℕ)) (steps_old steps_new : ℕ) (result : Status) : Type 0 where
  pub usage : (place : ℕ) → job_of words ≡ Err place → result ≡ Usage place
  pub bytes : (job : Job) → job_of words ≡ Ok job → (bytes : List ℕ) × EndsOn job left_old left_new held_old held_new steps_old steps_new result bytes
