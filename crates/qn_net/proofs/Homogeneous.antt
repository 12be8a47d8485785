-- Lists of tensors whose entries have the parity of the flux.
use Rattle.std.specs.Prelude.{List, [], ◌∷◌, ◌++◌}
use Rattle.qn_value.specs.Networks.{Node, Parities, AreHomogeneous}

pub homogeneous_first : (par : Parities) (ns ms : List Node) → AreHomogeneous par (ns ++ ms) → AreHomogeneous par ns
homogeneous_first par [] ms h = tt
homogeneous_first par (n ∷ ns) ms h = (h.0, homogeneous_first par ns ms h.1)

pub homogeneous_second : (par : Parities) (ns ms : List Node) → AreHomogeneous par (ns ++ ms) → AreHomogeneous par ms
homogeneous_second par [] ms h = h
homogeneous_second par (n ∷ ns) ms h = homogeneous_second par ns ms h.1

pub homogeneous-append : (par : Parities) (ns ms : List Node) → AreHomogeneous par ns → AreHomogeneous par ms → AreHomogeneous par (ns ++ ms)
homogeneous-append par [] ms h k = k
homogeneous-append par (n ∷ ns) ms h k = (h.0, homogeneous-append par ns ms h.1 k)
