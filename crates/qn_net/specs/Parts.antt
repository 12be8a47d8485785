-- Parts of a network: the sub-network of the tensors of a group.
use Rattle.std.specs.Prelude.{◌≡◌, Bool, List, [], ◌∷◌}
use Rattle.qn_sign.specs.Sign.{Perm}
use Rattle.qn_gauss.specs.Gaussian.{signed}
use Rattle.qn_value.specs.Networks.{Node, Assignment, Parities, values, contract, kept}
use Rattle.qn_value.specs.Magnitudes.{mag_at}
use Rattle.qn_net.specs.Groups.{TensorGroup, tensors}

-- the value of the group's tensors in listed order, with the lines summed inside the group, all other legs open in the order of the word
abbrev pub part : Parities → TensorGroup → Node
part par g = contract par (tensors g) g.summed (kept (tensors g) g.summed)

-- the tensor that the steps made has the entries of the part, but for signs and the order of its legs
pub record IsMadeAsPart (par : Parities) (g : TensorGroup) : Type 0 where
  pub legs : Perm g.node.ends (part par g).ends
  pub entry : (a : Assignment) → (s : Bool) × (g.node.entry (values g.node.ends a) ≡ signed s ((part par g).entry (values (part par g).ends a)))

abbrev pub AreMadeAsParts : Parities → List TensorGroup → Type 0
AreMadeAsParts par [] = Unit {0}
AreMadeAsParts par (g ∷ gs) = IsMadeAsPart par g × AreMadeAsParts par gs

-- so its entries have the magnitudes of the part's
abbrev pub PartMagnitudeLaw : Type 0
PartMagnitudeLaw = (par : Parities) (g : TensorGroup) → IsMadeAsPart par g → (a : Assignment) → mag_at (part par g) a ≡ mag_at g.node a
