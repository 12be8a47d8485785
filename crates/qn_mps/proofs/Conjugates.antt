-- The conjugates of a chain's tensors, made from the last to the first.
use Rattle.std.proofs.Common.{◌≡◌, ◌<◌, ℕ, suc, ℤ, List, [], ◌∷◌, ◌++◌, length, drop, get_or, reverse, append_assoc, sym, ◌∙◌, ap, subst}
use Rattle.std.proofs.Math.Seq.{drop-cons}
use Rattle.qn_block.specs.Blocked.{BlockedValue}
use Rattle.qn_block.proofs.Mirror.{reverse_cons}
use Rattle.qn_net.specs.Members.{LabelledMember}
use Rattle.qn_net.specs.Members.MemberValue.{own}
use Rattle.qn_braket.specs.Chains.{AreConjugates, with_labels}
use Rattle.qn_mps.specs.Networks.{IsConjugateMember}

-- to the members came the conjugates of the tensors from place j on
abbrev pub HasConjugatesFrom : (ℕ → List ℤ) → ℕ → List BlockedValue → List LabelledMember → List LabelledMember → Type 0
HasConjugatesFrom labels j ts old new =
    (conjugates : List BlockedValue) × AreConjugates (drop j ts) conjugates × (new ≡ old ++ reverse (with_labels (λ i. reverse (labels i)) j conjugates))

-- one more
conjugates_suc : (labels : ℕ → List ℤ) (ts : List BlockedValue) (j : ℕ) (old now new : List LabelledMember) (t : BlockedValue) (ls : List ℤ) (m : LabelledMember) →
    j < length ts → t ≡ get_or ts j t → ls ≡ labels j → IsConjugateMember t ls m → new ≡ now ++ m ∷ [] →
    HasConjugatesFrom labels (suc j) ts old now → HasConjugatesFrom labels j ts old new
conjugates_suc labels ts j old now new t ls m lt is e h f i =
    let cs : List BlockedValue = i.0 in
    let more : List LabelledMember = with_labels (λ k. reverse (labels k)) (suc j) cs in
    let n : LabelledMember = record { member = own h.0; labels = reverse (labels j) } in (
      h.0 ∷ cs,
      subst (λ (us : List BlockedValue). AreConjugates us (h.0 ∷ cs)) (sym (drop-cons ts j t lt ∙ ap (λ u. u ∷ drop (suc j) ts) (sym is))) (h.1, i.1),
      f
          ∙ ap (λ (k : LabelledMember). now ++ k ∷ []) (h.2 ∙ ap (λ (ks : List ℤ). record { member = own h.0; labels = reverse ks }) e)
          ∙ ap (λ ms. ms ++ n ∷ []) i.2
          ∙ append_assoc old (reverse more) (n ∷ [])
          ∙ ap (λ ms. old ++ ms) (sym (reverse_cons n more)),
    )

pub conjugates_more : (labels : ℕ → List ℤ) (ts : List BlockedValue) (j k : ℕ) (old now new : List LabelledMember) (t : BlockedValue) (ls : List ℤ) (m : LabelledMember) →
    suc k ≡ j → k < length ts → t ≡ get_or ts k t → ls ≡ labels k → IsConjugateMember t ls m → new ≡ now ++ m ∷ [] →
    HasConjugatesFrom labels j ts old now → HasConjugatesFrom labels k ts old new
conjugates_more labels ts j k old now new t ls m e lt is r h f i =
    conjugates_suc labels ts k old now new t ls m lt is r h f (subst (λ n. HasConjugatesFrom labels n ts old now) (sym e) i)
