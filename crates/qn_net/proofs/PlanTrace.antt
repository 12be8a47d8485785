-- One trace of the plan.
use Rattle.std.proofs.Common.{refl, ◌≡◌, List, [], ◌∷◌, ◌++◌, sym, ◌∙◌, ap, subst}
use Rattle.qn_sign.specs.Sign.{IsDistinct, Perm}
use Rattle.qn_value.specs.Networks.{End, Bond, Assignment, same_end, word, flat, kept as kept_legs, AreWithin, IsNetwork, AreHomogeneous, Parities}
use Rattle.qn_net.specs.Groups.{TensorGroup, nodes, tensors, closed}
use Rattle.qn_value.proofs.Steps.{order_law, order_network, block_value, block_network, block_homogeneous, block_whole, mid_distinct}
use Rattle.qn_net.proofs.Homogeneous.{homogeneous_first, homogeneous_second, homogeneous-append}
use Rattle.qn_net.proofs.Numbers.{order_trace}
use Rattle.qn_net.proofs.PartLemmas.{closed_made}
use Rattle.qn_net.proofs.PlanSteps.{all_tensors, all_tensors-append, AreMade, made_first, made_second, made-append, middle_distinct, IsKeeping}
use Rattle.std.proofs.lemmas.List.{map-append}

module _ (par : Parities) (opens : List End) (before : List TensorGroup) (g : TensorGroup) (behind : List TensorGroup) (all bonds left : List Bond)
    (k : IsKeeping par opens (before ++ (g ∷ behind)) all) (split : Perm all (bonds ++ left)) (within : AreWithin bonds (g.node ∷ [])) where
  abbrev made : TensorGroup
  made = closed par g bonds

  old_nodes : nodes (before ++ (g ∷ behind)) ≡ nodes before ++ (g.node ∷ nodes behind)
  old_nodes = map-append (λ x. x.node) before (g ∷ behind)

  new_nodes : nodes (before ++ (made ∷ behind)) ≡ nodes before ++ (made.node ∷ nodes behind)
  new_nodes = map-append (λ x. x.node) before (made ∷ behind)

  net : IsNetwork (nodes before ++ (g.node ∷ nodes behind)) (bonds ++ left) opens
  net = order_network (nodes before ++ (g.node ∷ nodes behind)) all (bonds ++ left) opens (subst (λ ns. IsNetwork ns all opens) old_nodes k.network) split

  h_all : AreHomogeneous par (nodes before ++ (g.node ∷ nodes behind))
  h_all = subst (AreHomogeneous par) old_nodes k.homogeneous

  h_rest : AreHomogeneous par (g.node ∷ nodes behind)
  h_rest = homogeneous_second par (nodes before) (g.node ∷ nodes behind) h_all

  pub trace_value : (a : Assignment) → flat par (nodes (before ++ (g ∷ behind))) all opens a ≡ flat par (nodes (before ++ (made ∷ behind))) left opens a
  trace_value a =
      ap (λ ns. flat par ns all opens a) old_nodes
      ∙ order_law par (nodes before ++ (g.node ∷ nodes behind)) all (bonds ++ left) opens (subst (λ ns. IsNetwork ns all opens) old_nodes k.network) split a
      ∙ block_value (nodes before) (g.node ∷ []) (nodes behind) bonds left opens net within par a
      ∙ ap (λ ns. flat par ns left opens a) (sym new_nodes)

  local_net : IsNetwork (g.node ∷ []) bonds (kept_legs (g.node ∷ []) bonds)
  local_net =
      let w = block_whole (nodes before) (g.node ∷ []) (nodes behind) bonds left opens net within in
      record {
        distinct = mid_distinct (nodes before) (g.node ∷ []) (nodes behind) bonds left (kept_legs (g.node ∷ []) bonds) opens net w;
        complete = w;
      }

  m_rest : AreMade par (g ∷ behind)
  m_rest = made_second par before (g ∷ behind) k.made

  pub trace_keeps : IsKeeping par opens (before ++ (made ∷ behind)) left
  trace_keeps = record {
    network = subst (λ ns. IsNetwork ns left opens) (sym new_nodes) (block_network (nodes before) (g.node ∷ []) (nodes behind) bonds left opens net within par);
    homogeneous = subst (AreHomogeneous par) (sym new_nodes)
        (homogeneous-append par (nodes before) (made.node ∷ nodes behind) (homogeneous_first par (nodes before) (g.node ∷ nodes behind) h_all)
        (block_homogeneous (nodes before) (g.node ∷ []) (nodes behind) bonds left opens net within par (h_rest.0, tt), h_rest.1));
    made = made-append par before (made ∷ behind) (made_first par before (g ∷ behind) k.made) (
      closed_made par g bonds m_rest.0 local_net
          (middle_distinct (all_tensors before) (tensors g) (all_tensors behind) (subst (λ ts. IsDistinct same_end (word ts)) (all_tensors-append before (g ∷ behind)) k.apart)),
      m_rest.1,
    );
    apart = subst (λ ts. IsDistinct same_end (word ts)) (all_tensors-append before (g ∷ behind) ∙ sym (all_tensors-append before (made ∷ behind))) k.apart;
    ordered = order_trace before g made behind refl k.ordered;
  }
