-- Contractions of tensors, block by block: one sign for each pair of blocks.
-- Fishman, White and Stoudenmire 2022; the signs by the exchange rule of super vector spaces.
use Rattle.std.specs.Prelude.{◌≡◌, ◌<◌, ℕ, ℤ, Bool, ◌&&◌, List, [], ◌∷◌, ◌++◌, map, length}
use Rattle.std.specs.List.{All, flat_map}
use Rattle.qn_gauss.specs.Gaussian.{Gaussian, mul_g, signed}
use Rattle.qn_charge.specs.declared.factor.Factor.{Factor}
use Rattle.qn_charge.specs.Charges.{parity}
use Rattle.qn_index.specs.Legs.{LegValue, SectorValue, sector_at}
use Rattle.qn_index.specs.Tuples.{IsTuple}
use Rattle.qn_index.specs.Places.{block_size, values_at, inner_of}
use Rattle.qn_value.specs.Tensors.{BlockValue, TensorValue, same_values, rows_of, IsBlock, AreAscending}
use Rattle.qn_value.specs.Networks.{End, Bond, Assignment, Parities, word, sums, sign, values, at_values}
use Rattle.qn_value.specs.Rows.{sum_over, when, meet_on}
use Rattle.qn_value.specs.Labels.{Placed, slots, ends, node_of, sectors_on, bonds_of, opens_of}
use Rattle.qn_value.specs.Blocks.{inside, bonds_in}
use Rattle.qn_value.specs.Local.{coupled, open_legs, shared_couples, pair_network, pair_entry, trace_entry, IsCoupling}

-- the tensor has these blocks, ascending
pub record HasBlocks (t : TensorValue) (bs : List BlockValue) : Type 0 where
  pub rows : t.rows ≡ rows_of t.legs bs
  pub blocks : All (IsBlock t.group t.legs t.flux) bs
  pub order : AreAscending bs

-- the parity of each sector of each line
abbrev pub sector_parity : List Factor → (ℤ → List SectorValue) → Parities
sector_parity fs sectors l s = parity fs (sector_at (sectors l) s).charge

-- what blocks with these sectors, in word order, add to the block of a tuple at offsets in its sectors: nothing where they disagree on a bond or leave another tuple open,
-- and else, with one sign, the sum over the offsets of the bonds; `product` is the product of the blocks' entries
abbrev pub block_share : List Factor → List Placed → ℕ → List ℕ → (Assignment → Gaussian) → List ℕ → List ℕ → Gaussian
block_share fs ps n joint product t os =
    let bonds : List Bond = bonds_of [] (slots ps) in
    let opens : List End = opens_of (ends (slots ps)) n in
    let sectors : ℤ → List SectorValue = sectors_on (slots ps) in
    let k : Assignment = at_values (word (map node_of ps)) joint in
    when (meet_on bonds k && same_values t (values opens k))
    (signed (sign (sector_parity fs sectors) (map node_of ps) bonds opens k) (sums (bonds_in sectors k bonds) product (at_values opens os)))

-- the first and the second tensor's ends in a network of two
abbrev pub first_ends : List Placed → List End
first_ends [] = []
first_ends (p ∷ ps) = (node_of p).ends

abbrev pub second_ends : List Placed → List End
second_ends [] = []
second_ends (p ∷ ps) = first_ends ps

-- an entry of a contraction of two tensors is a sum over pairs of their blocks
abbrev pub PairBlocksLaw : Type 0
PairBlocksLaw =
    (a b : TensorValue) (firsts seconds : List BlockValue) (shared : List (ℕ × ℕ)) (between : Bool) (t : List ℕ) (n : ℕ) →
    HasBlocks a firsts → HasBlocks b seconds → IsCoupling (flat_map (λ s. s.legs) (a ∷ b ∷ [])) (shared_couples a shared) →
    let ls : List LegValue = open_legs (a ∷ b ∷ []) (shared_couples a shared) in
    let ps : List Placed = pair_network a b shared in
    IsTuple ls t → n < block_size ls t →
    pair_entry a b shared between (values_at ls t n) ≡
    signed (between && parity b.group b.flux)
    (sum_over firsts (λ x. sum_over seconds (λ y.
    block_share a.group ps (length ls) (x.tuple ++ y.tuple) (λ o. mul_g (inside a.legs x (values (first_ends ps) o)) (inside b.legs y (values (second_ends ps) o))) t (inner_of ls t n))))

-- an entry of a trace is a sum over the blocks
abbrev pub TraceBlocksLaw : Type 0
TraceBlocksLaw =
    (a : TensorValue) (firsts : List BlockValue) (couples : List (ℕ × ℕ)) (t : List ℕ) (n : ℕ) →
    HasBlocks a firsts → IsCoupling (flat_map (λ s. s.legs) (a ∷ [])) couples →
    let ls : List LegValue = open_legs (a ∷ []) couples in
    let ps : List Placed = coupled (a ∷ []) couples in
    IsTuple ls t → n < block_size ls t →
    trace_entry a couples (values_at ls t n) ≡
    sum_over firsts (λ x. block_share a.group ps (length ls) x.tuple (λ o. inside a.legs x (values (first_ends ps) o)) t (inner_of ls t n))
