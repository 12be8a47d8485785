-- The same tensors with other labels.
use Rattle.std.proofs.Common.{◌≡◌, ℤ, List, [], ◌∷◌, refl, ◌∙◌, ap, ap₂, map}
use Rattle.qn_charge.specs.Charges.{parity}
use Rattle.qn_index.specs.Legs.{LegValue}
use Rattle.qn_value.specs.Networks.{relabel, relabel_node}
use Rattle.qn_value.specs.Tensors.{entry_of}
use Rattle.qn_value.specs.Labels.{Placed, slots_of, ends, node_of, is_inward, AreRenamed}

ends_renamed : (f : ℤ → ℤ) (legs : List LegValue) (ls : List ℤ) → map (relabel f) (ends (slots_of legs ls)) ≡ ends (slots_of legs (map f ls))
ends_renamed f [] ls = refl
ends_renamed f (g ∷ gs) [] = refl
ends_renamed f (g ∷ gs) (l ∷ ls) = ap (λ es. record { label = f l; inward = is_inward g.arrow } ∷ es) (ends_renamed f gs ls)

pub renamed_nodes : (f : ℤ → ℤ) (ps qs : List Placed) → AreRenamed f ps qs → map (relabel_node f) (map node_of ps) ≡ map node_of qs
renamed_nodes f [] [] h = refl
renamed_nodes f [] (q ∷ qs) h = absurd h
renamed_nodes f (p ∷ ps) [] h = absurd h
renamed_nodes f (p ∷ ps) (q ∷ qs) h =
    ap₂ ◌∷◌
    (ap (λ es. record { ends = es; entry = entry_of p.tensor; odd = parity p.tensor.group p.tensor.flux }) (ends_renamed f p.tensor.legs p.labels)
    ∙ (λ i. node_of (record { tensor = h.0 i; labels = h.1 i })))
    (renamed_nodes f ps qs h.2)
