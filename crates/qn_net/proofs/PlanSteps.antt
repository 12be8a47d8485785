-- One step of the plan.
use Rattle.std.proofs.Common.{◌≡◌, Bool, ◌&&◌, List, [], ◌∷◌, ◌++◌, refl, sym, ◌∙◌, ap, ap₂, subst, subst₂, append_assoc, ◌⊎◌, inl, inr, count_by}
use mathlib.Core.Path.{fun_ext}
use Rattle.qn_sign.specs.Sign.{exchanges, is_odd, xor, IsDistinct, Perm}
use Rattle.qn_gauss.specs.Gaussian.{Gaussian, signed}
use Rattle.qn_gauss.specs.Gaussian.{zero_g, mul_g}
use Rattle.qn_value.specs.Networks.{End, Node, Bond, Assignment, sums, same_end, word, goal, odd_end, twist_sign, sign, values, product, flat, odd_flux, kept as kept_legs, pairwise, AreWithin, IsNetwork, IsHomogeneous, AreHomogeneous, Parities}
use Rattle.qn_net.specs.Groups.{AreInOrder, TensorGroup, nodes, tensors, joined}
use Rattle.qn_sign.proofs.Parity.{perm_under, perm_before, perm_blocks}
use Rattle.qn_sign.proofs.Order.{distinct-perm, distinct_first, distinct_second}
use Rattle.qn_value.proofs.NetLaws.{end_test, word-append, product-append, signed-mul, mul-signed, sums-signed, signed-zero}
use Rattle.qn_value.proofs.Steps.{block_whole, mid_distinct, perm_word, step_value, step_network, step_homogeneous, net_moved}
use Rattle.qn_net.proofs.Homogeneous.{homogeneous_first, homogeneous_second, homogeneous-append}
use Rattle.qn_net.proofs.Numbers.{order_pair}
use Rattle.qn_net.proofs.PartLemmas.{signed-comm, tensors_joined, IsMade, joined_made}
use Rattle.std.proofs.lemmas.List.{map-append}

-- a sign that a tensor takes up

abbrev pub signed_node : Bool → Node → Node
signed_node s z = record { ends = z.ends; entry = λ xs. signed s (z.entry xs); odd = z.odd }

module _ (par : Parities) (s : Bool) (pre : List Node) (z : Node) (post : List Node) (bs : List Bond) (opens : List End) where
  same_word : word (pre ++ (z ∷ post)) ≡ word (pre ++ (signed_node s z ∷ post))
  same_word = word-append pre (z ∷ post) ∙ sym (word-append pre (signed_node s z ∷ post))

  term_signed : (c : Assignment) →
      signed s (signed (sign par (pre ++ (z ∷ post)) bs opens c) (product (pre ++ (z ∷ post)) c)) ≡
      signed (sign par (pre ++ (signed_node s z ∷ post)) bs opens c) (product (pre ++ (signed_node s z ∷ post)) c)
  term_signed c =
      signed-comm s (sign par (pre ++ (z ∷ post)) bs opens c) (product (pre ++ (z ∷ post)) c)
      ∙ ap₂ (λ w v. signed (xor (twist_sign par bs c) (is_odd (exchanges same_end (odd_end par c) w (goal bs opens)))) v) same_word
      (ap (signed s) (product-append pre (z ∷ post) c)
      ∙ sym (product-append pre (signed_node s z ∷ post) c
      ∙ ap (mul_g (product pre c)) (signed-mul s (z.entry (values z.ends c)) (product post c))
      ∙ mul-signed s (product pre c) (mul_g (z.entry (values z.ends c)) (product post c))))

  pub signed_value : (a : Assignment) → signed s (flat par (pre ++ (z ∷ post)) bs opens a) ≡ flat par (pre ++ (signed_node s z ∷ post)) bs opens a
  signed_value a =
      sym (sums-signed s bs (λ c. signed (sign par (pre ++ (z ∷ post)) bs opens c) (product (pre ++ (z ∷ post)) c)) a)
      ∙ ap (λ (f : Assignment → Gaussian). sums bs f a) (fun_ext term_signed)

  pub signed_network : IsNetwork (pre ++ (z ∷ post)) bs opens → IsNetwork (pre ++ (signed_node s z ∷ post)) bs opens
  signed_network net = record {
    distinct = subst (IsDistinct same_end) same_word net.distinct;
    complete = subst (λ w. Perm w (goal bs opens)) same_word net.complete;
  }

  pub signed_homogeneous : IsHomogeneous par z → IsHomogeneous par (signed_node s z)
  signed_homogeneous h a = go (h a)
    where
      go : (is_odd (count_by (odd_end par a) z.ends) ≡ z.odd) ⊎ (z.entry (values z.ends a) ≡ zero_g) →
          (is_odd (count_by (odd_end par a) z.ends) ≡ z.odd) ⊎ (signed s (z.entry (values z.ends a)) ≡ zero_g)
      go (inl e) = inl e
      go (inr e) = inr (ap (signed s) e ∙ signed-zero s)

-- the tensors of all groups

abbrev pub all_tensors : List TensorGroup → List Node
all_tensors [] = []
all_tensors (g ∷ gs) = tensors g ++ all_tensors gs

pub all_tensors-append : (gs hs : List TensorGroup) → all_tensors (gs ++ hs) ≡ all_tensors gs ++ all_tensors hs
all_tensors-append [] hs = refl
all_tensors-append (g ∷ gs) hs = ap (λ ts. tensors g ++ ts) (all_tensors-append gs hs) ∙ sym (append_assoc (tensors g) (all_tensors gs) (all_tensors hs))

abbrev pub AreMade : Parities → List TensorGroup → Type 0
AreMade par [] = Unit {0}
AreMade par (g ∷ gs) = IsMade par g × AreMade par gs

pub made_first : (par : Parities) (gs hs : List TensorGroup) → AreMade par (gs ++ hs) → AreMade par gs
made_first par [] hs m = tt
made_first par (g ∷ gs) hs m = (m.0, made_first par gs hs m.1)

pub made_second : (par : Parities) (gs hs : List TensorGroup) → AreMade par (gs ++ hs) → AreMade par hs
made_second par [] hs m = m
made_second par (g ∷ gs) hs m = made_second par gs hs m.1

pub made-append : (par : Parities) (gs hs : List TensorGroup) → AreMade par gs → AreMade par hs → AreMade par (gs ++ hs)
made-append par [] hs m k = k
made-append par (g ∷ gs) hs m k = (m.0, made-append par gs hs m.1 k)

-- what the steps keep
pub record IsKeeping (par : Parities) (opens : List End) (groups : List TensorGroup) (left : List Bond) : Type 0 where
  pub network : IsNetwork (nodes groups) left opens
  pub homogeneous : AreHomogeneous par (nodes groups)
  pub made : AreMade par groups
  pub apart : IsDistinct same_end (word (all_tensors groups))
  pub ordered : AreInOrder groups

-- two lists of tensors stand together in the middle
pub middle_distinct : (pre mid post : List Node) → IsDistinct same_end (word (pre ++ (mid ++ post))) → IsDistinct same_end (word mid)
middle_distinct pre mid post d =
    distinct_first same_end (word mid) (word post)
    (distinct_second same_end (word pre) (word mid ++ word post)
    (subst (IsDistinct same_end) (word-append pre (mid ++ post) ∙ ap (λ w. word pre ++ w) (word-append mid post)) d))

module _ (par : Parities) (opens : List End) (before : List TensorGroup) (g : TensorGroup) (between : List TensorGroup) (h : TensorGroup) (behind : List TensorGroup) (all bonds left : List Bond)
    (k : IsKeeping par opens (before ++ (g ∷ (between ++ (h ∷ behind)))) all) (split : Perm all (bonds ++ left)) (within : AreWithin bonds (g.node ∷ h.node ∷ [])) where
  abbrev made : TensorGroup
  made = joined par (odd_flux (nodes between)) g h bonds

  abbrev now : List TensorGroup
  now = before ++ (made ∷ (between ++ behind))

  old_nodes : nodes (before ++ (g ∷ (between ++ (h ∷ behind)))) ≡ nodes before ++ (g.node ∷ (nodes between ++ (h.node ∷ nodes behind)))
  old_nodes =
      map-append (λ x. x.node) before (g ∷ (between ++ (h ∷ behind)))
      ∙ ap (λ ns. nodes before ++ (g.node ∷ ns)) (map-append (λ x. x.node) between (h ∷ behind))

  new_nodes : nodes now ≡ nodes before ++ (made.node ∷ (nodes between ++ nodes behind))
  new_nodes =
      map-append (λ x. x.node) before (made ∷ (between ++ behind))
      ∙ ap (λ ns. nodes before ++ (made.node ∷ ns)) (map-append (λ x. x.node) between behind)

  net : IsNetwork (nodes before ++ (g.node ∷ (nodes between ++ (h.node ∷ nodes behind)))) all opens
  net = subst (λ ns. IsNetwork ns all opens) old_nodes k.network

  h_all : AreHomogeneous par (nodes before ++ (g.node ∷ (nodes between ++ (h.node ∷ nodes behind))))
  h_all = subst (AreHomogeneous par) old_nodes k.homogeneous

  h_rest : AreHomogeneous par (g.node ∷ (nodes between ++ (h.node ∷ nodes behind)))
  h_rest = homogeneous_second par (nodes before) (g.node ∷ (nodes between ++ (h.node ∷ nodes behind))) h_all

  h_between : AreHomogeneous par (nodes between)
  h_between = homogeneous_first par (nodes between) (h.node ∷ nodes behind) h_rest.1

  h_after : AreHomogeneous par (h.node ∷ nodes behind)
  h_after = homogeneous_second par (nodes between) (h.node ∷ nodes behind) h_rest.1

  abbrev past_sign : Bool
  past_sign = odd_flux (nodes between) && h.node.odd

  pub pair_value : (a : Assignment) → flat par (nodes (before ++ (g ∷ (between ++ (h ∷ behind))))) all opens a ≡ flat par (nodes now) left opens a
  pair_value a =
      ap (λ ns. flat par ns all opens a) old_nodes
      ∙ step_value par (nodes before) g.node (nodes between) h.node (nodes behind) all bonds left opens net split within h_between h_after.0 a
      ∙ signed_value par past_sign (nodes before) (pairwise par g.node h.node bonds) (nodes between ++ nodes behind) left opens a
      ∙ ap (λ ns. flat par ns left opens a) (sym new_nodes)

  local_net : IsNetwork (g.node ∷ h.node ∷ []) bonds (kept_legs (g.node ∷ h.node ∷ []) bonds)
  local_net =
      let m = net_moved par (nodes before) g.node (nodes between) h.node (nodes behind) all bonds left opens net split within in
      let w = block_whole (nodes before) (g.node ∷ h.node ∷ []) (nodes between ++ nodes behind) bonds left opens m within in
      record {
        distinct = mid_distinct (nodes before) (g.node ∷ h.node ∷ []) (nodes between ++ nodes behind) bonds left (kept_legs (g.node ∷ h.node ∷ []) bonds) opens m w;
        complete = w;
      }

  m_rest : AreMade par (g ∷ (between ++ (h ∷ behind)))
  m_rest = made_second par before (g ∷ (between ++ (h ∷ behind))) k.made

  m_after : AreMade par (h ∷ behind)
  m_after = made_second par between (h ∷ behind) m_rest.1

  -- the two groups' tensors, brought together
  old_tensors : Perm (all_tensors (before ++ (g ∷ (between ++ (h ∷ behind))))) (all_tensors before ++ ((tensors g ++ tensors h) ++ all_tensors (between ++ behind)))
  old_tensors =
      subst₂ Perm
      (sym (all_tensors-append before (g ∷ (between ++ (h ∷ behind))) ∙ ap (λ ts. all_tensors before ++ (tensors g ++ ts)) (all_tensors-append between (h ∷ behind))))
      (ap (λ ts. all_tensors before ++ ts) (sym (append_assoc (tensors g) (tensors h) (all_tensors between ++ all_tensors behind))
      ∙ ap (λ ts. (tensors g ++ tensors h) ++ ts) (sym (all_tensors-append between behind))))
      (perm_under (all_tensors before) (perm_under (tensors g) (perm_blocks (all_tensors between) (tensors h) (all_tensors behind))))

  old_apart : IsDistinct same_end (word (all_tensors before ++ ((tensors g ++ tensors h) ++ all_tensors (between ++ behind))))
  old_apart = distinct-perm same_end end_test (perm_word old_tensors) k.apart

  new_tensors : Perm (all_tensors before ++ ((tensors g ++ tensors h) ++ all_tensors (between ++ behind))) (all_tensors now)
  new_tensors =
      subst (λ ts. Perm (all_tensors before ++ ((tensors g ++ tensors h) ++ all_tensors (between ++ behind))) ts) (sym (all_tensors-append before (made ∷ (between ++ behind))))
      (perm_under (all_tensors before) (perm_before (all_tensors (between ++ behind)) (tensors_joined g h)))

  pub pair_keeps : IsKeeping par opens now left
  pair_keeps = record {
    network = subst (λ ns. IsNetwork ns left opens) (sym new_nodes)
        (signed_network par past_sign (nodes before) (pairwise par g.node h.node bonds) (nodes between ++ nodes behind) left opens
        (step_network par (nodes before) g.node (nodes between) h.node (nodes behind) all bonds left opens net split within));
    homogeneous = subst (AreHomogeneous par) (sym new_nodes)
        (homogeneous-append par (nodes before) (made.node ∷ (nodes between ++ nodes behind)) (homogeneous_first par (nodes before) (g.node ∷ (nodes between ++ (h.node ∷ nodes behind))) h_all) (
          signed_homogeneous par past_sign (nodes before) (pairwise par g.node h.node bonds) (nodes between ++ nodes behind) left opens
              (step_homogeneous par (nodes before) g.node (nodes between) h.node (nodes behind) all bonds left opens net split within h_rest.0 h_after.0),
          homogeneous-append par (nodes between) (nodes behind) h_between h_after.1,
        ));
    made = made-append par before (made ∷ (between ++ behind)) (made_first par before (g ∷ (between ++ (h ∷ behind))) k.made) (
      joined_made par (odd_flux (nodes between)) g h bonds m_rest.0 m_after.0 local_net
          (middle_distinct (all_tensors before) (tensors g ++ tensors h) (all_tensors (between ++ behind)) old_apart),
      made-append par between behind (made_first par between (h ∷ behind) m_rest.1) m_after.1,
    );
    apart = distinct-perm same_end end_test (perm_word new_tensors) old_apart;
    ordered = order_pair before g made between h behind refl k.ordered;
  }
