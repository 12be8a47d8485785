-- The conjugate of a network of tensors.
-- The conjugate of a tensor has its legs in reversed order, each with the other arrow, and conjugated entries.
use Rattle.std.specs.Prelude.{List, map, not, reverse}
use Rattle.qn_gauss.specs.Gaussian.{conj_g}
use Rattle.qn_value.specs.Networks.{End, Node, Assignment}

-- the other end of the line
abbrev pub flip : End → End
flip e = record { label = e.label; inward = not e.inward }

-- the values that the other ends of the lines have
abbrev pub across : Assignment → Assignment
across a e = a (flip e)

-- the ends of a conjugate: in reversed order, each the other end of its line
abbrev pub conj_ends : List End → List End
conj_ends es = reverse (map flip es)

-- the conjugate of a tensor in its network; its flux, the negative one, has the same parity
abbrev pub conj_node : Node → Node
conj_node n = record {
  ends = conj_ends n.ends;
  entry = λ xs. conj_g (n.entry (reverse xs));
  odd = n.odd;
}

-- the conjugates, the last tensor's first
abbrev pub conj_nodes : List Node → List Node
conj_nodes ns = reverse (map conj_node ns)
