-- After the last step: one part is left, and its labels are those of the open legs.
use Rattle.std.proofs.Common.{◌≡◌, ◌<◌, ◌≤◌, ℕ, zero, suc, ◌+◌, ℤ, pos, negsuc, Bool, true, false, ◌||◌, List, [], ◌∷◌, ◌++◌, refl, sym, ◌∙◌, ap, ap₂, subst, map, filter, cond, length, take, get_or, append-nil, int_eq, add-one, arith}
use Rattle.std.specs.List.{All, range_with_len}
use Rattle.std.proofs.lemmas.Bool.{false≢true}
use Rattle.std.proofs.lemmas.List.{length-map}
use Rattle.std.proofs.lemmas.List.FromFn.{length-range_with_len}
use Rattle.qn_sign.specs.Positions.{positions, IsOrder}
use Rattle.qn_sign.specs.Sign.{is_in, Perm}
use Rattle.qn_sign.specs.Sign.Perm.{none, keep, swap, then_by}
use Rattle.qn_sign.proofs.Order.{is_in-perm}
use Rattle.qn_index.specs.Places.{IsValues}
use Rattle.qn_value.specs.Networks.{End}
use Rattle.qn_value.specs.Labels.{ends}
use Rattle.qn_value.specs.Tensors.{TensorValue, BlockValue, IsTensor, entry_of}
use Rattle.qn_value.specs.Local.{picked, Moved}
use Rattle.qn_value.proofs.Sums.{perm-map, label_test}
use Rattle.qn_value.proofs.BlockRows.{all-nil, all-cons}
use Rattle.qn_block.specs.Blocked.{BlockedValue, tensor_of, is_filled}
use Rattle.qn_net.specs.Groups.{TensorGroup}
use Rattle.qn_net.specs.Steps.{Step, State, carry}
use Rattle.qn_net.specs.Carried.{IsSoundState, AllSound}
use Rattle.qn_net.specs.Members.{member_tensor, IsNarrow}
use Rattle.qn_net.proofs.PartLemmas.{map-append}
use Rattle.qn_net.specs.NetworkValues.{NetworkValue, parities, sectors, opens, begin, steps, open_count, legs_of, NetworkValueLaw}
use Rattle.qn_net.specs.Operations.{open_labels, LastTensorLaw}
use Rattle.qn_net.proofs.LastTensor.{labels_of_opens}
use Rattle.qn_engine.specs.Evaluated.{IsValueOf}
use Rattle.qn_engine.specs.Labels.{place_in, open_places}
use Rattle.qn_engine.specs.Parts.{PartValue, ArePartsOf, IsPartOf, IsSameTensor}
use Rattle.qn_engine.specs.Carrying.{state_at, IsFinished}
use Rattle.qn_engine.proofs.Naming.{names, place_stands}
use Rattle.qn_engine.proofs.Making.{settled_tensor}

take_whole : {A : Type 0} (xs : List A) → take (length xs) xs ≡ xs
take_whole [] = refl
take_whole (x ∷ xs) = ap (λ ys. x ∷ ys) (take_whole xs)

perm_length : {A : Type 0} {xs ys : List A} → Perm xs ys → length xs ≡ length ys
perm_length none = refl
perm_length (keep p) = ap suc (perm_length p)
perm_length swap = refl
perm_length (then_by p q) = perm_length p ∙ perm_length q

-- the one part that is left
pub record IsLast (net : NetworkValue) (parts : List PartValue) : Type 0 where
  pub group : TensorGroup
  pub part : PartValue
  pub whole : parts ≡ part ∷ []
  pub is : IsPartOf net.group (sectors net) part group
  pub ended : carry (parities net) (steps net) (begin net) ≡ record { groups = group ∷ []; left = [] }
  pub labelled : Perm part.labels (open_labels (open_count (ends (legs_of net))))

module _ (value_law : NetworkValueLaw) (net : NetworkValue) (parts : List PartValue) (w : IsFinished net parts) where
  groups_end : (state_at net (length (steps net))).groups ≡ (value_law net w.formed).1.0 ∷ []
  groups_end = ap (λ ts. (carry (parities net) ts (begin net)).groups) (take_whole (steps net)) ∙ ap (λ (s : State). s.groups) (value_law net w.formed).1.1

  sound_end : (ts : List Step) (s : State) → AllSound (parities net) (opens net) ts s → IsSoundState (parities net) (opens net) (carry (parities net) ts s)
  sound_end [] s k = k
  sound_end (t ∷ ts) s k = sound_end ts _ k.2

  pub last_part : IsLast net parts
  last_part = go parts (subst (ArePartsOf net.group (sectors net) parts) groups_end w.carried.parts_of)
    where
      last : TensorGroup
      last = (value_law net w.formed).1.0

      sound : IsSoundState (parities net) (opens net) (record { groups = (value_law net w.formed).1.0 ∷ []; left = [] })
      sound = subst (IsSoundState (parities net) (opens net)) (value_law net w.formed).1.1 (sound_end (steps net) (begin net) (value_law net w.formed).0)

      named : Perm (names (value_law net w.formed).1.0.node.ends) (open_labels (open_count (ends (legs_of net))))
      named =
          subst (Perm (names (value_law net w.formed).1.0.node.ends)) (labels_of_opens (ends (legs_of net)) (open_count (ends (legs_of net))))
          (perm-map (λ (e : End). e.label) (subst (λ es. Perm es (opens net)) (append-nil (value_law net w.formed).1.0.node.ends) sound.network.complete))

      go : (ps : List PartValue) → ArePartsOf net.group (sectors net) ps ((value_law net w.formed).1.0 ∷ []) → IsLast net ps
      go [] k = absurd k
      go (p ∷ q ∷ ps) k = absurd k.1
      go (p ∷ []) k = record {
        group = (value_law net w.formed).1.0;
        part = p;
        whole = refl;
        is = k.0;
        ended = (value_law net w.formed).1.1;
        labelled = subst (λ ls. Perm ls (open_labels (open_count (ends (legs_of net))))) (sym k.0.tensor.node.labels) named;
      }

-- the places of -1, -2, .. among these labels in any order
module _ (ls : List ℤ) where
  stand_all : (i n : ℕ) → ((k : ℕ) → i ≤ k → k < i + n → is_in int_eq (negsuc k) ls ≡ true) →
      All (λ k. k < length ls) (map (λ k. place_in (negsuc k) ls) (range_with_len i n)) × (picked (pos 0) ls (map (λ k. place_in (negsuc k) ls) (range_with_len i n)) ≡ map negsuc (range_with_len i n))
  stand_all i zero h = (all-nil (λ k. k < length ls), refl)
  stand_all i (suc n) h =
      let here = place_stands (negsuc i) ls (h i (omega arith) (omega arith)) in
      let ih = stand_all (i + 1) n (λ k le lt. h k (omega (arith, le)) (omega (arith, lt))) in
      (all-cons (λ k. k < length ls) (place_in (negsuc i) ls) (map (λ k. place_in (negsuc k) ls) (range_with_len (i + 1) n)) here.0 ih.0, ap₂ ◌∷◌ here.1 ih.1)

listed : (i n k : ℕ) → i ≤ k → k < i + n → is_in int_eq (negsuc k) (map negsuc (range_with_len i n)) ≡ true
listed i zero k le lt = absurd (omega (arith, le, lt))
listed i (suc n) k le lt = go (int_eq (negsuc k) (negsuc i)) refl (λ above. listed (i + 1) n k above (omega (arith, lt)))
  where
    go : (b : Bool) → int_eq (negsuc k) (negsuc i) ≡ b → (i + 1 ≤ k → is_in int_eq (negsuc k) (map negsuc (range_with_len (i + 1) n)) ≡ true) → (b || is_in int_eq (negsuc k) (map negsuc (range_with_len (i + 1) n))) ≡ true
    go true e ih = refl
    go false e ih = ih (above (λ j. false≢true (sym e ∙ ap (λ m. int_eq (negsuc m) (negsuc i)) j ∙ label_test.itself (negsuc i))))
      where
        above : (k ≡ i → ⊥) → i + 1 ≤ k
        above f = omega (arith, le, f)

pub open_placed : (n : ℕ) (ls : List ℤ) → Perm ls (open_labels n) → All (λ k. k < length ls) (open_places ls) × (picked (pos 0) ls (open_places ls) ≡ open_labels n)
open_placed n ls p =
    subst (λ m. All (λ k. k < length ls) (map (λ i. place_in (negsuc i) ls) (positions m)) × (picked (pos 0) ls (map (λ i. place_in (negsuc i) ls) (positions m)) ≡ open_labels n)) (sym many)
    (stand_all ls 0 n (λ k le lt. is_in-perm int_eq (negsuc k) p ∙ listed 0 n k le lt))
  where
    many : length ls ≡ n
    many = perm_length p ∙ length-map (positions n) negsuc ∙ length-range_with_len 0 n

-- the tensor in the order of the open labels is the value
pub record LastFacts (net : NetworkValue) (parts : List PartValue) (labels : List ℤ) (a : TensorValue) : Type 0 where
  pub order : IsOrder (length a.legs) (open_places labels)
  pub value_is : (r s : BlockedValue) → Moved a (open_places labels) (tensor_of r) → s.group ≡ r.group → s.legs ≡ r.legs → s.flux ≡ r.flux → ((xs : List ℕ) → entry_of (tensor_of s) xs ≡ entry_of (tensor_of r) xs) → IsValueOf net s

pub last_facts : NetworkValueLaw → LastTensorLaw → (net : NetworkValue) (parts : List PartValue) → IsFinished net parts → (p : PartValue) → p ≡ get_or parts 0 p → (a : TensorValue) → IsTensor a → IsSameTensor a (member_tensor p.member) →
    LastFacts net parts p.labels a
last_facts value_law law net parts w p e a good same =
    let last = last_part value_law net parts w in
    let here : p ≡ last.part = e ∙ ap (λ (ps : List PartValue). get_or ps 0 p) last.whole in
    let part : IsPartOf net.group (sectors net) p last.group = subst (λ q. IsPartOf net.group (sectors net) q last.group) (sym here) last.is in
    let placed = open_placed (open_count (ends (legs_of net))) p.labels (subst (λ (q : PartValue). Perm q.labels (open_labels (open_count (ends (legs_of net))))) (sym here) last.labelled) in
    let facts = law net last.group (record { tensor = a; labels = p.labels }) (open_places p.labels) w.formed last.ended (settled_tensor net.group (sectors net) p last.group a part good same) placed.0 placed.1 in
    record {
      order = facts.0;
      value_is = λ r s m eg el ef ee.
          let k = facts.1 (tensor_of r) m in
          record {
            group = eg ∙ m.group ∙ same.group ∙ part.tensor.node.group;
            legs = el ∙ k.0;
            flux = ef ∙ k.1;
            entries = λ xs v. ee xs ∙ k.2 xs (subst (λ ls. IsValues ls xs) el v);
          };
    }

-- in the terms of a program

pub last_read : NetworkValueLaw → (net : NetworkValue) (parts : List PartValue) → IsFinished net parts → length parts ≡ 1
last_read value_law net parts w = ap (λ (ps : List PartValue). length ps) (last_part value_law net parts w).whole

pub last_narrow : NetworkValueLaw → (net : NetworkValue) (parts : List PartValue) → IsFinished net parts → (p : PartValue) → p ≡ get_or parts 0 p → IsNarrow p.member
last_narrow value_law net parts w p e =
    let last = last_part value_law net parts w in
    let here : p ≡ last.part = e ∙ ap (λ (ps : List PartValue). get_or ps 0 p) last.whole in
    subst (λ (q : PartValue). IsNarrow q.member) (sym here) last.is.narrow

range_more : (a n : ℕ) → range_with_len a (suc n) ≡ range_with_len a n ++ (a + n) ∷ []
range_more a zero = ap (λ k. k ∷ []) (omega arith)
range_more a (suc n) = ap (λ ks. a ∷ ks) (range_more (a + 1) n ∙ ap (λ k. range_with_len (a + 1) n ++ k ∷ []) (omega arith))

pub order_more : (ls : List ℤ) (i : ℕ) (items new : List ℕ) (x : ℕ) (l : ℤ) → items ≡ map (λ k. place_in (negsuc k) ls) (positions i) → new ≡ items ++ x ∷ [] → x ≡ place_in l ls → l ≡ negsuc i →
    new ≡ map (λ k. place_in (negsuc k) ls) (positions (i + 1))
order_more ls i items new x l e en ex el =
    en ∙ ap₂ (λ (ks : List ℕ) (k : ℕ). ks ++ k ∷ []) e (ex ∙ ap (λ k. place_in k ls) el)
    ∙ sym (ap (λ n. map (λ k. place_in (negsuc k) ls) (positions n)) (add-one i)
    ∙ ap (map (λ k. place_in (negsuc k) ls)) (range_more 0 i)
    ∙ map-append (λ k. place_in (negsuc k) ls) (positions i) ((0 + i) ∷ [])
    ∙ ap (λ k. map (λ k. place_in (negsuc k) ls) (positions i) ++ place_in (negsuc k) ls ∷ []) (nothing i))
  where
    nothing : (n : ℕ) → 0 + n ≡ n
    nothing n = omega arith

-- blocks that are left where those of zeros are taken out
pub filled : (bs : List BlockValue) → All (λ b. is_filled b ≡ true) (filter is_filled bs)
filled [] = all-nil (λ b. is_filled b ≡ true)
filled (b ∷ bs) = go (is_filled b) refl (filled bs)
  where
    go : (t : Bool) → is_filled b ≡ t → All (λ c. is_filled c ≡ true) (filter is_filled bs) → All (λ c. is_filled c ≡ true) (cond t (b ∷ filter is_filled bs) (filter is_filled bs))
    go true e h = all-cons (λ c. is_filled c ≡ true) b (filter is_filled bs) e h
    go false e h = h
