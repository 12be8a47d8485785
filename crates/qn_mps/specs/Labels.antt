-- The labels of a chain's legs in a network, by the kind of leg.
use Rattle.std.specs.Prelude.{ℕ, ◌+◌, ◌*◌, ℤ, pos, List, ◌++◌, map}
use Rattle.qn_braket.specs.ChainLabels.{own_link, own_upper, own_lower, left_label, right_label}
use Rattle.qn_mps.specs.declared.labels.Line.{Line}
use Rattle.qn_mps.specs.declared.labels.Line.TheVariants.{OwnLink, OwnUpper, OwnLower, Shared}

-- the label of such a leg at site j, from 0
abbrev pub label : Line → ℕ → ℤ
label OwnLink j = own_link j
label OwnUpper j = own_upper j
label (OwnLower last) j = own_lower last j
label (Shared step first) j = pos (step * j + first)

-- the labels of a tensor on site j of n: that of the link left, those of the site, that of the link right
abbrev pub labels_at : List Line → Line → ℕ → ℕ → List ℤ
labels_at own link n j = left_label (label link) j ++ (map (λ l. label l j) own ++ right_label (label link) n j)
