-- The tensors of the members, before the first step.
use Rattle.std.proofs.Common.{◌≡◌, ℕ, suc, ℤ, List, [], ◌∷◌, refl, sym, ◌∙◌, ap, subst, map, length, arith}
use Rattle.qn_charge.specs.declared.factor.Factor.{Factor}
use Rattle.qn_charge.specs.Charges.{IsCanonical, zero_charge, parity}
use Rattle.qn_charge.specs.Laws.{commutative_charge, zero_is_neutral}
use Rattle.qn_index.specs.Legs.{SectorValue, LegValue}
use Rattle.qn_value.specs.Networks.{End}
use Rattle.qn_value.specs.Labels.{Placed, AllPlaced, IsPlaced, slots_of, slots, ends, node_of, bonds_of}
use Rattle.qn_value.proofs.PlacedLemmas.{HaveSectorsOn, sectors_fit, on_first, on_second}
use Rattle.qn_value.proofs.TensorBlocks.{legs_by_ends, bonds_sectors}
use Rattle.qn_net.specs.Plans.{start}
use Rattle.qn_net.specs.NetworkValues.{PlacedMember, legs_of, sectors, member_of}
use Rattle.qn_net.specs.Operations.{AreTensorsOf, IsNodeOf, FirstTensorsLaw}
use Rattle.qn_net.proofs.CoupledNodes.{bonds_marked, lines_from}

labels_of_slots : (gs : List LegValue) (ls : List ℤ) → length ls ≡ length gs → ls ≡ map (λ (e : End). e.label) (ends (slots_of gs ls))
labels_of_slots [] [] n = refl
labels_of_slots [] (l ∷ ls) n = absurd (omega (arith, n))
labels_of_slots (g ∷ gs) [] n = absurd (omega (arith, n))
labels_of_slots (g ∷ gs) (l ∷ ls) n = ap (λ ks. l ∷ ks) (labels_of_slots gs ls (omega (arith, n)))

pub one_node : (fs : List Factor) (sectors : ℤ → List SectorValue) (p : Placed) → IsPlaced fs p → HaveSectorsOn sectors (slots_of p.tensor.legs p.labels) → IsNodeOf fs sectors p (node_of p)
one_node fs sectors p h k = record {
  group = h.group;
  tensor = h.tensor;
  labels = labels_of_slots p.tensor.legs p.labels h.labels;
  legs = sym (legs_by_ends sectors p.tensor.legs p.labels h.labels k);
  odd = ap (λ gs. parity gs p.tensor.flux) (sym h.group);
  entry = λ xs long. refl;
}

start_tensors : (fs : List Factor) (sectors : ℤ → List SectorValue) (ms : List PlacedMember) → AllPlaced fs (map (λ m. m.placed) ms) → HaveSectorsOn sectors (slots (map (λ m. m.placed) ms)) → (n : ℕ) →
    AreTensorsOf fs sectors (map (λ m. m.placed) ms) (start n (map member_of ms))
start_tensors fs sectors [] h k n = tt
start_tensors fs sectors (m ∷ ms) h k n = (
  record {
    node = one_node fs sectors m.placed h.0 (on_first sectors (slots_of m.placed.tensor.legs m.placed.labels) (slots (map (λ m. m.placed) ms)) k);
    flux = sym (commutative_charge fs m.placed.tensor.flux (zero_charge fs) ∙ zero_is_neutral fs m.placed.tensor.flux (subst (λ gs. IsCanonical gs m.placed.tensor.flux) h.0.group h.0.tensor.flux));
  },
  start_tensors fs sectors ms h.1 (on_second sectors (slots_of m.placed.tensor.legs m.placed.labels) (slots (map (λ m. m.placed) ms)) k) (suc n),
)

pub first_tensors : FirstTensorsLaw
first_tensors net w =
    let fit : HaveSectorsOn (sectors net) (legs_of net) = sectors_fit (legs_of net) w.uniform in (
      start_tensors net.group (sectors net) net.members w.placed fit 1,
      lines_from net.twists (sectors net) (bonds_of net.twists (legs_of net)) (bonds_sectors (sectors net) net.twists (legs_of net) fit) (bonds_marked net.twists (legs_of net)),
    )
