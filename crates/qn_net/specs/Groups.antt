-- Groups of tensors of a network that steps have brought together.
-- NCON, arXiv:1402.0939.
use Rattle.std.specs.Prelude.{ℕ, ℤ, ◌<◌, Bool, ◌&&◌, List, [], ◌∷◌, ◌++◌, map, nat_lt, if◌then◌else◌}
use Rattle.qn_gauss.specs.Gaussian.{signed}
use Rattle.qn_charge.specs.declared.factor.Factor.{Factor}
use Rattle.qn_value.specs.Networks.{Node, Bond, Parities, pairwise, traced}
use Rattle.qn_value.specs.Fluxes.{sum_flux}

-- what a member of a network is: a tensor of its own, or the fuse table or the split table of a combiner
pub data Role : Type 0 where
  tensor : Role
  fuse_table : Role
  split_table : Role

-- a member of a network: its tensor, with the flux, and its role
pub record Member : Type 0 where
  pub node : Node
  pub flux : List ℤ
  pub role : Role

-- a tensor as listed, with its place in the list, from 1
pub record Listed : Type 0 where
  pub number : ℕ
  pub node : Node
  pub flux : List ℤ

-- a group: the number of its earliest tensor, the tensor that the steps made of it, the listed tensors themselves,
-- the lines summed so far, and the role of a member that no step has touched
pub record TensorGroup : Type 0 where
  pub number : ℕ
  pub node : Node
  pub members : List Listed
  pub summed : List Bond
  pub role : Role

-- the tensors that the steps made
abbrev pub nodes : List TensorGroup → List Node
nodes gs = map (λ g. g.node) gs

-- the tensors of the group as listed
abbrev pub tensors : TensorGroup → List Node
tensors g = map (λ m. m.node) g.members

-- the flux of a group: the sum of the fluxes of its tensors
abbrev pub flux_of : List Factor → TensorGroup → List ℤ
flux_of fs g = sum_flux fs (map (λ m. m.flux) g.members)

abbrev pub place_member : Listed → List Listed → List Listed
place_member m [] = m ∷ []
place_member m (n ∷ ns) = if nat_lt m.number n.number then m ∷ n ∷ ns else n ∷ place_member m ns

-- the tensors of two groups in listed order
abbrev pub merged : List Listed → List Listed → List Listed
merged [] ns = ns
merged (m ∷ ms) ns = place_member m (merged ms ns)

-- two tensors contracted, times -1 where the later one and what stands between the two are odd
abbrev pub pairwise_past : Parities → Bool → Node → Node → List Bond → Node
pairwise_past par between x y shared =
    let z : Node = pairwise par x y shared in
    record { ends = z.ends; entry = λ xs. signed (between && y.odd) (z.entry xs); odd = z.odd }

-- two groups brought together over these lines; whether what stands between them is odd
abbrev pub joined : Parities → Bool → TensorGroup → TensorGroup → List Bond → TensorGroup
joined par between g h bonds = record {
  number = g.number;
  node = pairwise_past par between g.node h.node bonds;
  members = merged g.members h.members;
  summed = h.summed ++ (g.summed ++ bonds);
  role = tensor;
}

-- a group whose tensor is summed over lines of its own
abbrev pub closed : Parities → TensorGroup → List Bond → TensorGroup
closed par g bonds = record {
  number = g.number;
  node = traced par g.node bonds;
  members = g.members;
  summed = g.summed ++ bonds;
  role = tensor;
}

abbrev pub AllAbove : ℕ → List TensorGroup → Type 0
AllAbove n [] = Unit {0}
AllAbove n (g ∷ gs) = (n < g.number) × AllAbove n gs

-- the groups stand in the order of their numbers
abbrev pub AreInOrder : List TensorGroup → Type 0
AreInOrder [] = Unit {0}
AreInOrder (g ∷ gs) = AllAbove g.number gs × AreInOrder gs
