-- The labels of the legs in the networks of chains: of a chain alone, of an overlap, of an expectation.
-- Sites are numbered from 0 here; the site and the link after it have the same number.
use Rattle.std.specs.Prelude.{◌==◌, ℕ, zero, suc, ◌+◌, ◌-◌, ◌*◌, ℤ, pos, negsuc, cond, List, [], ◌∷◌, ◌++◌}

-- a chain alone: link j has the label j + 1
abbrev pub own_link : ℕ → ℤ
own_link j = pos (suc j)

-- s_j of a state, and s'_j of an operator, has the label -(j + 1)
abbrev pub own_upper : ℕ → ℤ
own_upper j = negsuc j

-- s_j of an operator on the sites 0 to m has the label -(2n - j), where n = m + 1 is the number of sites
abbrev pub own_lower : ℕ → ℕ → ℤ
own_lower m j = negsuc (2 * m + 1 - j)

-- an overlap: s_j, the bra's link j and the ket's link j

abbrev pub overlap_site : ℕ → ℤ
overlap_site j = pos (3 * j + 1)

abbrev pub overlap_bra : ℕ → ℤ
overlap_bra j = pos (3 * j + 2)

abbrev pub overlap_ket : ℕ → ℤ
overlap_ket j = pos (3 * j + 3)

-- an expectation: s'_j, s_j, and the links j of the bra, of the operator and of the ket

abbrev pub expect_upper : ℕ → ℤ
expect_upper j = pos (5 * j + 1)

abbrev pub expect_lower : ℕ → ℤ
expect_lower j = pos (5 * j + 2)

abbrev pub expect_bra : ℕ → ℤ
expect_bra j = pos (5 * j + 3)

abbrev pub expect_op : ℕ → ℤ
expect_op j = pos (5 * j + 4)

abbrev pub expect_ket : ℕ → ℤ
expect_ket j = pos (5 * j + 5)

-- the label of the link on the left of a site; the first site has none
abbrev pub left_label : (ℕ → ℤ) → ℕ → List ℤ
left_label link zero = []
left_label link (suc j) = link j ∷ []

-- the label of the link on the right of a site; the last of n sites has none
abbrev pub right_label : (ℕ → ℤ) → ℕ → ℕ → List ℤ
right_label link n j = cond (suc j == n) [] (link j ∷ [])

-- the labels of the legs left, s, right of a state's tensor on site j of n
abbrev pub state_labels : (ℕ → ℤ) → (ℕ → ℤ) → ℕ → ℕ → List ℤ
state_labels site link n j = left_label link j ++ (site j ∷ right_label link n j)

-- the labels of the legs left, s', s, right of an operator's tensor on site j of n
abbrev pub operator_labels : (ℕ → ℤ) → (ℕ → ℤ) → (ℕ → ℤ) → ℕ → ℕ → List ℤ
operator_labels upper lower link n j = left_label link j ++ (upper j ∷ lower j ∷ right_label link n j)
