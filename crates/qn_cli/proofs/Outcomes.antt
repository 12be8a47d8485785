-- A command comes to one outcome at most.
use Rattle.std.proofs.Common.{◌≡◌, ◌≢◌, ◌⊎◌, inl, inr, ℕ, suc, ◌<◌, List, length, Some, None, true, false, refl, sym, ap, subst, ◌∙◌}
use Rattle.std.proofs.lemmas.Bool.{lt-ltb}
use Rattle.serde_json.specs.Data.{Data}
use Rattle.qn_net.specs.declared.fault.NetFault.{NetFault}
use Rattle.qn_net.specs.declared.fault.NetFault.TheVariants.{Memory as OutOfMemory}
use Rattle.qn_net.specs.NetworkValues.{NetworkValue, passing_place}
use Rattle.qn_net.specs.Passing.{StepPlace}
use Rattle.qn_net.proofs.OneFault.{one_fault, no_fault, first_once}
use Rattle.qn_plan.specs.Planned.{planned, first_wide}
use Rattle.qn_parts.specs.declared.fault.Fault.{Fault}
use Rattle.qn_parts.specs.Faults.{fault}
use Rattle.qn_json.specs.Tree.{tree_of}
use Rattle.qn_parts.specs.TensorTexts.{tensor_text}
use Rattle.qn_doc.specs.LabelFaults.{placed}
use Rattle.qn_doc.specs.Networks.{IsLabelFault, bytes_fault, members_of, order_of, twist_of}
use Rattle.qn_texts.specs.PlanTexts.{plan_text}
use Rattle.qn_words.specs.declared.words.Job.{Job}
use Rattle.qn_words.specs.declared.words.Job.TheVariants.{Contract, Plan, Mpo, Overlap, Expect, Gen}
use Rattle.qn_charge.specs.Firsts.{IsFirst, HasNone}
use Rattle.qn_opsum.specs.Sums.{SumValue}
use Rattle.qn_auto.specs.SumAutomaton.{IsWideAt, PassesAt}
use Rattle.qn_sumdoc.specs.Sums.{bytes_fault as sum_bytes_fault}
use Rattle.qn_cli.specs.Outcomes.{Outcome, refused, passed, answered, most_bytes}
use Rattle.qn_cli.specs.Networks.{IsNetworkIn, IsBytesFault, IsFirstFault, value_tensor, Contracts, Plans}
use Rattle.qn_cli.specs.Operators.{IsSumIn, IsSumFaultIn, IsWideSite, IsPassingSite, operator_text, Writes}
use Rattle.qn_cli.specs.States.{IsStatesFaultIn, SaysStates, SaysStatesAndSum, ComesToOverlap, ComesToExpect}
use Rattle.qn_cli.specs.Brakets.{expect_text}
use Rattle.qn_cli.specs.Generated.{IsGenerated, text_for}
use Rattle.qn_cli.specs.Jobs.{ComesTo, is_read}
use Rattle.qn_cli.proofs.Summaries.{same_summary}
use Rattle.qn_cli.proofs.OneDocument.{some_same, none_some, both, sum_told, same_terms_fault, no_terms_fault}
use Rattle.qn_mps.specs.SameNetworks.{SameOverlapLaw, SameExpectLaw}
use Rattle.qn_cli.proofs.OneStates.{one_states_fault, no_pair_fault, one_pair, no_pair_with_sum_fault, one_pair_with_sum, long_states_fault}
use Rattle.qn_cli.proofs.OneOverlap.{one_overlap}
use Rattle.qn_cli.proofs.OneExpect.{one_passing_site, one_expect}

-- a place in the document has a cause other than want of memory
caused : (e : NetFault) (f : Fault) → placed e ≡ Some f → e ≢ OutOfMemory
caused e f p m = none_some (placed e) f (ap placed m) p

one_network : (bytes : List ℕ) (m n : NetworkValue) → IsNetworkIn bytes m → IsNetworkIn bytes n → m ≡ n
one_network bytes m n p q = both (tree_of bytes) p.network q.network (λ d a b. a.is ∙ sym b.is)

no_bytes_fault : (bytes : List ℕ) (net : NetworkValue) (f : Fault) → IsNetworkIn bytes net → IsBytesFault bytes f → ⊥
no_bytes_fault bytes net f p (inl e) = none_some (bytes_fault bytes) f p.faultless e
no_bytes_fault bytes net f p (inr q) = both (tree_of bytes) p.network q.1 (λ d a b. no_fault (members_of d) (order_of d) (twist_of d) b.0 (caused b.0 f b.1) a.faultless b.2)

same_label_fault : (d : Data) (f g : Fault) → IsLabelFault d f → IsLabelFault d g → f ≡ g
same_label_fault d f g a b =
    let same : a.0 ≡ b.0 = one_fault (members_of d) (order_of d) (twist_of d) a.0 b.0 (caused a.0 f a.1) (caused b.0 g b.1) a.2 b.2 in
    some_same f g (sym a.1 ∙ (ap placed same ∙ b.1))

one_bytes_fault : (bytes : List ℕ) (f g : Fault) → IsBytesFault bytes f → IsBytesFault bytes g → f ≡ g
one_bytes_fault bytes f g (inl p) (inl q) = some_same f g (sym p ∙ q)
one_bytes_fault bytes f g (inl p) (inr q) = absurd (none_some (bytes_fault bytes) f q.0 p)
one_bytes_fault bytes f g (inr p) (inl q) = absurd (none_some (bytes_fault bytes) g p.0 q)
one_bytes_fault bytes f g (inr p) (inr q) = both (tree_of bytes) p.1 q.1 (λ d a b. same_label_fault d f g a b)

one_first_fault : (bytes : List ℕ) (f g : Fault) → IsFirstFault bytes f → IsFirstFault bytes g → f ≡ g
one_first_fault bytes f g (inl p) (inl q) = one_bytes_fault bytes f g p q
one_first_fault bytes f g (inl p) (inr q) = absurd (no_bytes_fault bytes q.0 f q.1 p)
one_first_fault bytes f g (inr p) (inl q) = absurd (no_bytes_fault bytes p.0 g p.1 q)
one_first_fault bytes f g (inr p) (inr q) =
    let net : p.0 ≡ q.0 = one_network bytes p.0 q.0 p.1 q.1 in
    let step = some_same p.2.0 q.2.0 (sym p.2.1 ∙ (ap first_wide net ∙ q.2.1)) in
    p.2.2 ∙ (ap (λ k. fault 27 0 k 0) step ∙ sym q.2.2)

-- a network without a wide step has no first fault
no_first_fault : (bytes : List ℕ) (net : NetworkValue) (f : Fault) → IsNetworkIn bytes net → first_wide net ≡ None → IsFirstFault bytes f → ⊥
no_first_fault bytes net f p n (inl q) = no_bytes_fault bytes net f p q
no_first_fault bytes net f p n (inr q) = none_some (first_wide q.0) q.2.0 (ap first_wide (one_network bytes q.0 net q.1 p) ∙ n) q.2.1

one_contraction : (bytes : List ℕ) (o p : Outcome) → Contracts bytes o → Contracts bytes p → o ≡ p
one_contraction bytes (refused f) (refused g) a b = ap refused (one_first_fault bytes f g a b)
one_contraction bytes (refused f) (passed step at offset) a b = absurd (no_first_fault bytes b.0 f b.1 b.2.0 a)
one_contraction bytes (refused f) (answered text) a b = absurd (no_first_fault bytes b.0 f b.1 b.2 a)
one_contraction bytes (passed step at offset) (refused g) a b = absurd (no_first_fault bytes a.0 g a.1 a.2.0 b)
one_contraction bytes (passed step at offset) (passed step2 at2 offset2) a b =
    let net : a.0 ≡ b.0 = one_network bytes a.0 b.0 a.1 b.1 in
    let first : StepPlace = record { step = step; tuple = at; offset = offset } in
    let second : StepPlace = record { step = step2; tuple = at2; offset = offset2 } in
    ap (λ (k : StepPlace). passed k.step k.tuple k.offset) (some_same first second (sym a.2.1 ∙ (ap passing_place net ∙ b.2.1)))
one_contraction bytes (passed step at offset) (answered text) a b =
    absurd (none_some (passing_place b.0) (record { step = step; tuple = at; offset = offset }) b.3 (ap passing_place (one_network bytes b.0 a.0 b.1 a.1) ∙ a.2.1))
one_contraction bytes (answered text) (refused g) a b = absurd (no_first_fault bytes a.0 g a.1 a.2 b)
one_contraction bytes (answered text) (passed step at offset) a b =
    absurd (none_some (passing_place a.0) (record { step = step; tuple = at; offset = offset }) a.3 (ap passing_place (one_network bytes a.0 b.0 a.1 b.1) ∙ b.2.1))
one_contraction bytes (answered text) (answered other) a b =
    ap answered (a.4 ∙ (ap (λ net. tensor_text (value_tensor net)) (one_network bytes a.0 b.0 a.1 b.1) ∙ sym b.4))

one_plan : (bytes : List ℕ) (o p : Outcome) → Plans bytes o → Plans bytes p → o ≡ p
one_plan bytes (refused f) (refused g) a b = ap refused (one_first_fault bytes f g a b)
one_plan bytes (refused f) (passed step at offset) a b = absurd b
one_plan bytes (refused f) (answered text) a b = absurd (no_first_fault bytes b.0 f b.1 b.2 a)
one_plan bytes (passed step at offset) p a b = absurd a
one_plan bytes (answered text) (refused g) a b = absurd (no_first_fault bytes a.0 g a.1 a.2 b)
one_plan bytes (answered text) (passed step at offset) a b = absurd b
one_plan bytes (answered text) (answered other) a b = ap answered (a.3 ∙ (ap (λ net. plan_text (planned net)) (one_network bytes a.0 b.0 a.1 b.1) ∙ sym b.3))

-- ---- operator sums

-- the operator sum that the bytes say is one
pub one_sum : (bytes : List ℕ) (v w : SumValue) → IsSumIn bytes v → IsSumIn bytes w → v ≡ w
one_sum bytes v w p q = both (tree_of bytes) p.sum q.sum (λ d a b. sum_told d v a ∙ sym (sum_told d w b))

no_sum_bytes_fault : (bytes : List ℕ) (v : SumValue) (f : Fault) → IsSumIn bytes v → IsSumFaultIn bytes f → ⊥
no_sum_bytes_fault bytes v f p (inl e) = none_some (sum_bytes_fault bytes) f p.faultless e
no_sum_bytes_fault bytes v f p (inr q) = both (tree_of bytes) p.sum q.1 (λ d a b. no_terms_fault d v f a b)

one_sum_bytes_fault : (bytes : List ℕ) (f g : Fault) → IsSumFaultIn bytes f → IsSumFaultIn bytes g → f ≡ g
one_sum_bytes_fault bytes f g (inl p) (inl q) = some_same f g (sym p ∙ q)
one_sum_bytes_fault bytes f g (inl p) (inr q) = absurd (none_some (sum_bytes_fault bytes) f q.0 p)
one_sum_bytes_fault bytes f g (inr p) (inl q) = absurd (none_some (sum_bytes_fault bytes) g p.0 q)
one_sum_bytes_fault bytes f g (inr p) (inr q) = both (tree_of bytes) p.1 q.1 (λ d a b. same_terms_fault d f g a b)

-- the fault of a document of an operator sum
abbrev IsWritingFault : List ℕ → Fault → Type 0
IsWritingFault bytes f = IsSumFaultIn bytes f ⊎ ((v : SumValue) × IsSumIn bytes v × IsWideSite v f)

one_writing_fault : (bytes : List ℕ) (f g : Fault) → IsWritingFault bytes f → IsWritingFault bytes g → f ≡ g
one_writing_fault bytes f g (inl p) (inl q) = one_sum_bytes_fault bytes f g p q
one_writing_fault bytes f g (inl p) (inr q) = absurd (no_sum_bytes_fault bytes q.0 f q.1 p)
one_writing_fault bytes f g (inr p) (inl q) = absurd (no_sum_bytes_fault bytes p.0 g p.1 q)
one_writing_fault bytes f g (inr p) (inr q) =
    let v : p.0 ≡ q.0 = one_sum bytes p.0 q.0 p.1 q.1 in
    let site = first_once (IsWideAt q.0) p.2.0 q.2.0 (subst (λ u. IsFirst (IsWideAt u) p.2.0) v p.2.1) q.2.1 in
    p.2.2 ∙ (ap (λ j. fault 27 0 0 (suc j)) site ∙ sym q.2.2)

-- an automaton that is nowhere too wide has no fault
no_writing_fault : (bytes : List ℕ) (v : SumValue) (f : Fault) → IsSumIn bytes v → HasNone (IsWideAt v) → IsWritingFault bytes f → ⊥
no_writing_fault bytes v f p n (inl q) = no_sum_bytes_fault bytes v f p q
no_writing_fault bytes v f p n (inr q) = n q.2.0 (subst (λ u. IsWideAt u q.2.0) (one_sum bytes q.0 v q.1 p) q.2.1.here)

one_writing : (bytes : List ℕ) (o p : Outcome) → Writes bytes o → Writes bytes p → o ≡ p
one_writing bytes (refused f) (refused g) a b = ap refused (one_writing_fault bytes f g a b)
one_writing bytes (refused f) (passed step at offset) a b = absurd (no_writing_fault bytes b.0 f b.1 b.2.1 a)
one_writing bytes (refused f) (answered text) a b = absurd (no_writing_fault bytes b.0 f b.1 b.2.narrow a)
one_writing bytes (passed step at offset) (refused g) a b = absurd (no_writing_fault bytes a.0 g a.1 a.2.1 b)
one_writing bytes (passed step at offset) (passed step2 at2 offset2) a b =
    one_passing_site b.0 step step2 at at2 offset offset2 (subst (λ u. IsPassingSite u step at offset) (one_sum bytes a.0 b.0 a.1 b.1) a.2) b.2
one_writing bytes (passed step at offset) (answered text) a b =
    absurd (b.2.clear a.2.0 (subst (λ u. PassesAt u a.2.0) (one_sum bytes a.0 b.0 a.1 b.1) a.2.2.here))
one_writing bytes (answered text) (refused g) a b = absurd (no_writing_fault bytes a.0 g a.1 a.2.narrow b)
one_writing bytes (answered text) (passed step at offset) a b =
    absurd (a.2.clear b.2.0 (subst (λ u. PassesAt u b.2.0) (one_sum bytes b.0 a.0 b.1 a.1) b.2.2.here))
one_writing bytes (answered text) (answered other) a b = ap answered (a.3 ∙ (ap operator_text (one_sum bytes a.0 b.0 a.1 b.1) ∙ sym b.3))

pub one_outcome : SameOverlapLaw × SameExpectLaw → (job : Job) (bytes : List ℕ) (o p : Outcome) → ComesTo job bytes o → ComesTo job bytes p → o ≡ p
one_outcome law (Contract workers) bytes o p a b = one_contraction bytes o p a b
one_outcome law Plan bytes o p a b = one_plan bytes o p a b
one_outcome law Mpo bytes o p a b = one_writing bytes o p a b
one_outcome law (Overlap workers) bytes o p a b =
    one_overlap law.0 (IsStatesFaultIn false bytes) (SaysStates bytes) (one_states_fault false bytes) (no_pair_fault bytes) (one_pair bytes) o p a b
one_outcome law (Expect workers) bytes o p a b =
    one_expect law.1 (IsStatesFaultIn true bytes) (SaysStatesAndSum bytes) expect_text (λ b v m n same. refl)
    (one_states_fault true bytes) (no_pair_with_sum_fault bytes) (one_pair_with_sum bytes) o p a b
one_outcome law (Gen seed workers) bytes o p a b =
    one_expect law.1 (λ f. ⊥) (IsGenerated seed) text_for same_summary (λ f g x y. absurd x) (λ b v f says x. x)
    (λ b c v w p q. (p.0 ∙ sym q.0, p.1 ∙ sym q.1)) o p a b

-- the bytes play no part where the document is not read
pub unread_bytes : (job : Job) (some all : List ℕ) (o : Outcome) → is_read job ≡ false → ComesTo job some o → ComesTo job all o
unread_bytes (Contract workers) some all o e p = absurd (cc e)
unread_bytes Plan some all o e p = absurd (cc e)
unread_bytes Mpo some all o e p = absurd (cc e)
unread_bytes (Overlap workers) some all o e p = absurd (cc e)
unread_bytes (Expect workers) some all o e p = absurd (cc e)
unread_bytes (Gen seed workers) some all o e p = p

-- too many bytes are refused by their first fault, whatever follows
long_fault : (bytes : List ℕ) → most_bytes < length bytes → bytes_fault bytes ≡ Some (fault 1 0 0 0)
long_fault bytes long = rw (lt-ltb most_bytes (length bytes) long) refl

long_first_fault : (some all : List ℕ) (f : Fault) → most_bytes < length some → most_bytes < length all → IsFirstFault some f → IsFirstFault all f
long_first_fault some all f short long p =
    let is : fault 1 0 0 0 ≡ f = one_first_fault some (fault 1 0 0 0) f (inl (inl (long_fault some short))) p in
    inl (inl (long_fault all long ∙ ap (λ g. Some g) is))

long_sum_fault : (bytes : List ℕ) → most_bytes < length bytes → sum_bytes_fault bytes ≡ Some (fault 1 0 0 0)
long_sum_fault bytes long = rw (lt-ltb most_bytes (length bytes) long) refl

long_writing_fault : (some all : List ℕ) (f : Fault) → most_bytes < length some → most_bytes < length all → IsWritingFault some f → IsWritingFault all f
long_writing_fault some all f short long p =
    let is : fault 1 0 0 0 ≡ f = one_writing_fault some (fault 1 0 0 0) f (inl (inl (long_sum_fault some short))) p in
    inl (inl (long_sum_fault all long ∙ ap (λ g. Some g) is))

long_overlap_fault : (some all : List ℕ) (f : Fault) → most_bytes < length some → most_bytes < length all → ComesToOverlap some (refused f) → ComesToOverlap all (refused f)
long_overlap_fault some all f short long (inl p) =
    let is : fault 1 0 0 0 ≡ f = one_states_fault false some (fault 1 0 0 0) f (inl (long_states_fault false some short)) p in
    inl (inl (long_states_fault false all long ∙ ap (λ g. Some g) is))
long_overlap_fault some all f short long (inr p) = absurd (no_pair_fault some p.states (fault 1 0 0 0) p.says (inl (long_states_fault false some short)))

long_expect_fault : (some all : List ℕ) (f : Fault) → most_bytes < length some → most_bytes < length all → ComesToExpect some (refused f) → ComesToExpect all (refused f)
long_expect_fault some all f short long (inl p) =
    let is : fault 1 0 0 0 ≡ f = one_states_fault true some (fault 1 0 0 0) f (inl (long_states_fault true some short)) p in
    inl (inl (long_states_fault true all long ∙ ap (λ g. Some g) is))
long_expect_fault some all f short long (inr p) = absurd (no_pair_with_sum_fault some p.states p.sum (fault 1 0 0 0) p.says (inl (long_states_fault true some short)))

pub long_refused : (job : Job) (some all : List ℕ) (f : Fault) → most_bytes < length some → most_bytes < length all → ComesTo job some (refused f) → ComesTo job all (refused f)
long_refused (Contract workers) some all f short long p = long_first_fault some all f short long p
long_refused Plan some all f short long p = long_first_fault some all f short long p
long_refused Mpo some all f short long p = long_writing_fault some all f short long p
long_refused (Overlap workers) some all f short long p = long_overlap_fault some all f short long p
long_refused (Expect workers) some all f short long p = long_expect_fault some all f short long p
long_refused (Gen seed workers) some all f short long p = p
