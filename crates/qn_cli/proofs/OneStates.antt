-- A document of states has one first fault, or says one pair of states with one operator sum.
use Rattle.std.proofs.Common.{◌≡◌, ◌<◌, inl, inr, ℕ, List, length, Option, Some, None, Bool, true, false, refl, sym, ap, subst, ◌∙◌}
use Rattle.std.specs.Prelude.{codes}
use Rattle.std.proofs.lemmas.Bool.{lt-ltb}
use Rattle.serde_json.specs.Data.{Data}
use Rattle.qn_mps.specs.Chains.{ChainValue}
use Rattle.qn_mps.specs.declared.chain.ChainKind.TheVariants.{State}
use Rattle.qn_mps.specs.declared.fault.ChainFault.{ChainFault}
use Rattle.qn_mps.specs.declared.fault.ChainFault.TheVariants.{ChainShape, LinkClash, Memory as OutOfMemory}
use Rattle.qn_opsum.specs.Sums.{SumValue}
use Rattle.qn_parts.specs.declared.fault.Fault.{Fault}
use Rattle.qn_parts.specs.Faults.{fault}
use Rattle.qn_json.specs.Tree.{tree_of}
use Rattle.qn_sumdoc.specs.Sites.{sites_of}
use Rattle.qn_sumdoc.specs.Sums.{IsSumOf}
use Rattle.qn_sumdoc.specs.Chains.{site_legs, tensors_of, tensors_fault, placed, IsFaultOfChain, IsRightChain}
use Rattle.qn_sumdoc.specs.StatesValues.{StatesValue}
use Rattle.qn_sumdoc.specs.States.{AreStatesOf, IsFaultOfChains, IsSumFault, IsLaterFault, IsOptionalSum, bytes_fault}
use Rattle.qn_cli.specs.Outcomes.{most_bytes}
use Rattle.qn_cli.specs.Brakets.{BraketValue, pair_of}
use Rattle.qn_cli.specs.States.{AreStatesIn, IsStatesFaultIn, SaysStates, SaysStatesAndSum, braket_of}
use Rattle.qn_cli.proofs.OneChainFault.{IsCause, one_chain_fault, no_chain_fault}
use Rattle.qn_cli.proofs.OneDocument.{some_same, none_some, both, sum_told, same_terms_fault, no_terms_fault}

-- a place in the document has a cause other than want of memory
caused : (base : ℕ) (e : ChainFault) (f : Fault) → placed base e ≡ Some f → IsCause e
caused base (ChainShape j) f p = tt
caused base (LinkClash j) f p = tt
caused base OutOfMemory f p = none_some (placed base OutOfMemory) f refl p

-- ---- the faults of one chain

one_of_chain : (key : List ℕ) (base : ℕ) (d : Data) (f g : Fault) → IsFaultOfChain key base d f → IsFaultOfChain key base d g → f ≡ g
one_of_chain key base d f g (inl p) (inl q) = some_same f g (sym p ∙ q)
one_of_chain key base d f g (inl p) (inr q) = absurd (none_some (tensors_fault key base d) f q.0 p)
one_of_chain key base d f g (inr p) (inl q) = absurd (none_some (tensors_fault key base d) g p.0 q)
one_of_chain key base d f g (inr p) (inr q) =
    let same : p.1.0 ≡ q.1.0 =
    one_chain_fault State (site_legs (sites_of d)) (tensors_of key d) p.1.0 q.1.0 (caused base p.1.0 f p.1.1) (caused base q.1.0 g q.1.1) p.1.2 q.1.2 in
    some_same f g (sym p.1.1 ∙ (ap (placed base) same ∙ q.1.1))

none_of_chain : (key : List ℕ) (base : ℕ) (d : Data) (f : Fault) → IsRightChain key base d → IsFaultOfChain key base d f → ⊥
none_of_chain key base d f h (inl p) = none_some (tensors_fault key base d) f h.tensors p
none_of_chain key base d f h (inr p) = no_chain_fault State (site_legs (sites_of d)) (tensors_of key d) p.1.0 (caused base p.1.0 f p.1.1) h.legs p.1.2

-- ---- the faults of both chains

one_of_chains : (d : Data) (f g : Fault) → IsFaultOfChains d f → IsFaultOfChains d g → f ≡ g
one_of_chains d f g (inl p) (inl q) = one_of_chain (codes "bra") 100 d f g p q
one_of_chains d f g (inl p) (inr q) = absurd (none_of_chain (codes "bra") 100 d f q.0 p)
one_of_chains d f g (inr p) (inl q) = absurd (none_of_chain (codes "bra") 100 d g p.0 q)
one_of_chains d f g (inr p) (inr q) = one_of_chain (codes "ket") 200 d f g p.1 q.1

none_of_chains : (d : Data) (f : Fault) → IsRightChain (codes "bra") 100 d → IsRightChain (codes "ket") 200 d → IsFaultOfChains d f → ⊥
none_of_chains d f bra ket (inl p) = none_of_chain (codes "bra") 100 d f bra p
none_of_chains d f bra ket (inr p) = none_of_chain (codes "ket") 200 d f ket p.1

-- ---- the faults of the terms, where a sum is wanted

one_of_sum : (with_sum : Bool) (d : Data) (f g : Fault) → IsSumFault with_sum d f → IsSumFault with_sum d g → f ≡ g
one_of_sum true d f g p q = same_terms_fault d f g p q
one_of_sum false d f g p q = absurd p

none_of_sum : (with_sum : Bool) (d : Data) (o : Option SumValue) (f : Fault) → IsOptionalSum with_sum d o → IsSumFault with_sum d f → ⊥
none_of_sum true d None f h p = h
none_of_sum true d (Some v) f h p = no_terms_fault d v f h p
none_of_sum false d o f h p = p

-- ---- the faults of the document

one_later : (with_sum : Bool) (d : Data) (f g : Fault) → IsLaterFault with_sum d f → IsLaterFault with_sum d g → f ≡ g
one_later with_sum d f g (inl p) (inl q) = one_of_sum with_sum d f g p q
one_later with_sum d f g (inl p) (inr q) = absurd (none_of_sum with_sum d q.0.0 f q.0.1 p)
one_later with_sum d f g (inr p) (inl q) = absurd (none_of_sum with_sum d p.0.0 g p.0.1 q)
one_later with_sum d f g (inr p) (inr q) = one_of_chains d f g p.1 q.1

none_later : (with_sum : Bool) (d : Data) (v : StatesValue) (f : Fault) → AreStatesOf with_sum d v → IsLaterFault with_sum d f → ⊥
none_later with_sum d v f h (inl p) = none_of_sum with_sum d v.sum f h.sum p
none_later with_sum d v f h (inr p) = none_of_chains d f h.chains.right_bra h.chains.right_ket p.1

pub one_states_fault : (with_sum : Bool) (bytes : List ℕ) (f g : Fault) → IsStatesFaultIn with_sum bytes f → IsStatesFaultIn with_sum bytes g → f ≡ g
one_states_fault with_sum bytes f g (inl p) (inl q) = some_same f g (sym p ∙ q)
one_states_fault with_sum bytes f g (inl p) (inr q) = absurd (none_some (bytes_fault with_sum bytes) f q.0 p)
one_states_fault with_sum bytes f g (inr p) (inl q) = absurd (none_some (bytes_fault with_sum bytes) g p.0 q)
one_states_fault with_sum bytes f g (inr p) (inr q) = both (tree_of bytes) p.1 q.1 (λ d a b. one_later with_sum d f g a b)

no_states_fault : (with_sum : Bool) (bytes : List ℕ) (v : StatesValue) (f : Fault) → AreStatesIn with_sum bytes v → IsStatesFaultIn with_sum bytes f → ⊥
no_states_fault with_sum bytes v f h (inl p) = none_some (bytes_fault with_sum bytes) f h.faultless p
no_states_fault with_sum bytes v f h (inr p) = both (tree_of bytes) h.states p.1 (λ d a b. none_later with_sum d v f a b)

-- ---- the states and the sum

same_pair : (with_sum : Bool) (bytes : List ℕ) (v w : StatesValue) → AreStatesIn with_sum bytes v → AreStatesIn with_sum bytes w → braket_of v ≡ braket_of w
same_pair with_sum bytes v w h k =
    both (tree_of bytes) h.states k.states
    (λ d a b. ap (λ (c : ChainValue). pair_of c v.ket) (a.chains.bra ∙ sym b.chains.bra) ∙ ap (pair_of w.bra) (a.chains.ket ∙ sym b.chains.ket))

same_sum : (bytes : List ℕ) (v w : StatesValue) (s t : SumValue) → AreStatesIn true bytes v → AreStatesIn true bytes w → v.sum ≡ Some s → w.sum ≡ Some t → s ≡ t
same_sum bytes v w s t h k p q =
    both (tree_of bytes) h.states k.states
    (λ d a b.
    let first : IsSumOf d s = subst (IsOptionalSum true d) p a.sum in
    let second : IsSumOf d t = subst (IsOptionalSum true d) q b.sum in
    sum_told d s first ∙ sym (sum_told d t second))

pub one_pair : (bytes : List ℕ) (b c : BraketValue) → SaysStates bytes b → SaysStates bytes c → b ≡ c
one_pair bytes b c p q = p.2 ∙ (same_pair false bytes p.0 q.0 p.1 q.1 ∙ sym q.2)

pub no_pair_fault : (bytes : List ℕ) (b : BraketValue) (f : Fault) → SaysStates bytes b → IsStatesFaultIn false bytes f → ⊥
no_pair_fault bytes b f p q = no_states_fault false bytes p.0 f p.1 q

pub one_pair_with_sum : (bytes : List ℕ) (b c : BraketValue) (s t : SumValue) → SaysStatesAndSum bytes b s → SaysStatesAndSum bytes c t → (b ≡ c) × (s ≡ t)
one_pair_with_sum bytes b c s t p q = (p.2 ∙ (same_pair true bytes p.0 q.0 p.1 q.1 ∙ sym q.2), same_sum bytes p.0 q.0 s t p.1 q.1 p.3 q.3)

pub no_pair_with_sum_fault : (bytes : List ℕ) (b : BraketValue) (s : SumValue) (f : Fault) → SaysStatesAndSum bytes b s → IsStatesFaultIn true bytes f → ⊥
no_pair_with_sum_fault bytes b s f p q = no_states_fault true bytes p.0 f p.1 q

-- ---- too many bytes

pub long_states_fault : (with_sum : Bool) (bytes : List ℕ) → most_bytes < length bytes → bytes_fault with_sum bytes ≡ Some (fault 1 0 0 0)
long_states_fault with_sum bytes long = rw (lt-ltb most_bytes (length bytes) long) refl
