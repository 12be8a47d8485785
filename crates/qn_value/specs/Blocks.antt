-- Tensors held in blocks, and contractions block by block.
-- Fishman, White and Stoudenmire 2022.
use Rattle.std.specs.Prelude.{◌≡◌, ℕ, ◌+◌, ℤ, Bool, false, ◌&&◌, List, [], ◌∷◌, ◌++◌, map, length, slice_index_or}
use Rattle.qn_gauss.specs.Gaussian.{Gaussian, zero_g, one_g, mul_g, signed}
use Rattle.qn_index.specs.Legs.{SectorValue, LegValue, before, total, sector_at, sector_of, offset_in}
use Rattle.qn_index.specs.Tuples.{IsTuple}
use Rattle.qn_index.specs.Places.{IsInner, offset_of}
use Rattle.std.specs.List.{All}
use Rattle.qn_charge.specs.declared.factor.Factor.{Factor}
use Rattle.qn_value.specs.Tensors.{BlockValue, same_values, entry_at, entry_in, rows_of, IsRow, IsBlock, AreDistinct, AreAscending}
use Rattle.qn_value.specs.Networks.{End, Node, Bond, Assignment, Parities, in_end, sums, sign, word, values, at_values, flat, contract, IsNetwork}
use Rattle.qn_value.specs.Twists.{odd_among, twisted_at}
use Rattle.qn_value.specs.Fluxes.{arrow_of}
use Rattle.qn_value.specs.Rows.{sum_over, when, meet_on}

-- a tensor in its network, held in blocks
pub record Blocked : Type 0 where
  pub ends : List End
  pub blocks : List BlockValue
  pub odd : Bool

-- the legs with these ends, each with the sectors of its line
abbrev pub legs_on : (ℤ → List SectorValue) → List End → List LegValue
legs_on sectors es = map (λ e. record { arrow = arrow_of e.inward; sectors = sectors e.label }) es

-- the sectors and the offsets of the values of all ends
abbrev pub to_sectors : (ℤ → List SectorValue) → Assignment → Assignment
to_sectors sectors a e = sector_of (sectors e.label) (a e)

abbrev pub to_offsets : (ℤ → List SectorValue) → Assignment → Assignment
to_offsets sectors a e = offset_in (sectors e.label) (a e)

-- the values at a tuple of sectors and offsets in them
abbrev pub values_in : List LegValue → List ℕ → List ℕ → List ℕ
values_in [] t os = []
values_in (l ∷ ls) [] os = []
values_in (l ∷ ls) (s ∷ t) [] = []
values_in (l ∷ ls) (s ∷ t) (o ∷ os) = (before l.sectors s + o) ∷ values_in ls t os

-- the block's entry at offsets in its sectors
abbrev pub inside : List LegValue → BlockValue → List ℕ → Gaussian
inside ls b os = slice_index_or b.entries (offset_of ls b.tuple os) zero_g

-- the tensor by its ends, its entries and the parity of its flux
abbrev pub blocked_node : (ℤ → List SectorValue) → Blocked → Node
blocked_node sectors n = record { ends = n.ends; entry = entry_in (legs_on sectors n.ends) n.blocks; odd = n.odd }

-- the parity of a value is that of its sector
abbrev pub by_sector : (ℤ → List SectorValue) → Parities → Parities
by_sector sectors par l v = par l (sector_of (sectors l) v)

-- the bonds inside chosen sectors: their values are the offsets
abbrev pub bonds_in : (ℤ → List SectorValue) → Assignment → List Bond → List Bond
bonds_in sectors k bs = map (λ b. record { label = b.label; dim = (sector_at (sectors b.label) (k (in_end b))).dim; twisted = b.twisted }) bs

-- one block of each tensor, in all ways
abbrev pub sum_choices : List Blocked → (List BlockValue → Gaussian) → Gaussian
sum_choices [] f = f []
sum_choices (n ∷ ns) f = sum_over n.blocks (λ b. sum_choices ns (λ bs. f (b ∷ bs)))

abbrev pub all_sectors : List BlockValue → List ℕ
all_sectors [] = []
all_sectors (b ∷ bs) = b.tuple ++ all_sectors bs

-- the product of the blocks' entries at offsets
abbrev pub inner_product : (ℤ → List SectorValue) → List Blocked → List BlockValue → Assignment → Gaussian
inner_product sectors [] bs o = one_g
inner_product sectors (n ∷ ns) [] o = one_g
inner_product sectors (n ∷ ns) (b ∷ bs) o = mul_g (inside (legs_on sectors n.ends) b (values n.ends o)) (inner_product sectors ns bs o)

-- no block has this block's tuple
abbrev pub IsNewBlock : BlockValue → List BlockValue → Type 0
IsNewBlock b [] = Unit {0}
IsNewBlock b (c ∷ cs) = (same_values c.tuple b.tuple ≡ false) × IsNewBlock b cs

-- no two blocks have the same tuple
abbrev pub AreDistinctBlocks : List BlockValue → Type 0
AreDistinctBlocks [] = Unit {0}
AreDistinctBlocks (b ∷ bs) = IsNewBlock b bs × AreDistinctBlocks bs

-- each tuple has a sector for each leg
abbrev pub HaveTuples : List LegValue → List BlockValue → Type 0
HaveTuples ls [] = Unit {0}
HaveTuples ls (b ∷ bs) = IsTuple ls b.tuple × HaveTuples ls bs

pub record AreBlocks (sectors : ℤ → List SectorValue) (n : Blocked) : Type 0 where
  pub distinct : AreDistinctBlocks n.blocks
  pub tuples : HaveTuples (legs_on sectors n.ends) n.blocks

abbrev pub AllBlocks : (ℤ → List SectorValue) → List Blocked → Type 0
AllBlocks sectors [] = Unit {0}
AllBlocks sectors (n ∷ ns) = AreBlocks sectors n × AllBlocks sectors ns

-- each bond has the values of its line's sectors
abbrev pub HaveSectors : (ℤ → List SectorValue) → List Bond → Type 0
HaveSectors sectors [] = Unit {0}
HaveSectors sectors (b ∷ bs) = (b.dim ≡ total (sectors b.label)) × HaveSectors sectors bs

-- a network whose tensors are held in blocks: a sum over one block of each, with one sign for each choice, of sums over the offsets of the bonds
abbrev pub ChoicesLaw : Type 0
ChoicesLaw =
    (par : Parities) (sectors : ℤ → List SectorValue) (ns : List Blocked) (bonds : List Bond) (opens : List End) →
    let ms : List Node = map (blocked_node sectors) ns in
    IsNetwork ms bonds opens → HaveSectors sectors bonds → AllBlocks sectors ns → (a : Assignment) →
    flat (by_sector sectors par) ms bonds opens a ≡
    sum_choices ns (λ bs. let k = at_values (word ms) (all_sectors bs) in
    when (meet_on bonds k && same_values (values opens (to_sectors sectors a)) (values opens k))
    (signed (sign par ms bonds opens k) (sums (bonds_in sectors k bonds) (inner_product sectors ns bs) (to_offsets sectors a))))

-- an entry of a contraction of two tensors, at a tuple and offsets of the result: a sum over pairs of blocks, with one sign for each pair
abbrev pub BlockPairsLaw : Type 0
BlockPairsLaw =
    (par : Parities) (sectors : ℤ → List SectorValue) (x y : Blocked) (bonds : List Bond) (opens : List End) (t os : List ℕ) →
    let ns : List Node = blocked_node sectors x ∷ blocked_node sectors y ∷ [] in
    IsNetwork ns bonds opens → HaveSectors sectors bonds → AreBlocks sectors x → AreBlocks sectors y →
    IsTuple (legs_on sectors opens) t → IsInner (legs_on sectors opens) t os →
    (contract (by_sector sectors par) ns bonds opens).entry (values_in (legs_on sectors opens) t os) ≡
    sum_over x.blocks (λ b. sum_over y.blocks (λ c. let k = at_values (x.ends ++ y.ends) (b.tuple ++ c.tuple) in
    when (meet_on bonds k && same_values t (values opens k))
    (signed (sign par ns bonds opens k)
    (sums (bonds_in sectors k bonds) (λ o. mul_g (inside (legs_on sectors x.ends) b (values x.ends o)) (inside (legs_on sectors y.ends) c (values y.ends o))) (at_values opens os)))))

-- an entry of a contraction of one tensor: a sum over its blocks
abbrev pub BlockTraceLaw : Type 0
BlockTraceLaw =
    (par : Parities) (sectors : ℤ → List SectorValue) (x : Blocked) (bonds : List Bond) (opens : List End) (t os : List ℕ) →
    let ns : List Node = blocked_node sectors x ∷ [] in
    IsNetwork ns bonds opens → HaveSectors sectors bonds → AreBlocks sectors x →
    IsTuple (legs_on sectors opens) t → IsInner (legs_on sectors opens) t os →
    (contract (by_sector sectors par) ns bonds opens).entry (values_in (legs_on sectors opens) t os) ≡
    sum_over x.blocks (λ b. let k = at_values x.ends b.tuple in
    when (meet_on bonds k && same_values t (values opens k))
    (signed (sign par ns bonds opens k) (sums (bonds_in sectors k bonds) (λ o. inside (legs_on sectors x.ends) b (values x.ends o)) (at_values opens os))))

-- the block is negated where an odd number of the legs that pass the test have odd sectors
abbrev pub twisted_block : Parities → (End → Bool) → List End → BlockValue → BlockValue
twisted_block par test es b = record { tuple = b.tuple; entries = map (signed (odd_among par test es b.tuple)) b.entries }

-- a tensor is twisted block by block
abbrev pub BlockTwistLaw : Type 0
BlockTwistLaw =
    (par : Parities) (sectors : ℤ → List SectorValue) (test : End → Bool) (n : Blocked) →
    blocked_node sectors (record { ends = n.ends; blocks = map (twisted_block par test n.ends) n.blocks; odd = n.odd }) ≡
    twisted_at (by_sector sectors par) test (blocked_node sectors n)

-- an entry of a tensor's rows is that of the block of its sectors
abbrev pub BlockRowsLaw : Type 0
BlockRowsLaw =
    (fs : List Factor) (ls : List LegValue) (q : List ℤ) (bs : List BlockValue) → All (IsBlock fs ls q) bs → (xs : List ℕ) → length xs ≡ length ls →
    entry_at (rows_of ls bs) xs ≡ entry_in ls bs xs

-- the rows of ascending blocks are those of a tensor: each conserves charge, and no two have the same values
abbrev pub BlockTensorLaw : Type 0
BlockTensorLaw =
    (fs : List Factor) (ls : List LegValue) (q : List ℤ) (bs : List BlockValue) → All (IsBlock fs ls q) bs → AreAscending bs →
    All (IsRow fs ls q) (rows_of ls bs) × AreDistinct (rows_of ls bs)
