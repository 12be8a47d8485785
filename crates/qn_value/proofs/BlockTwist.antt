-- Twisted blocks.
use Rattle.std.proofs.Common.{◌≡◌, ℕ, zero, suc, ℤ, Bool, true, false, ◌&&◌, cond, List, [], ◌∷◌, refl, sym, ◌∙◌, ap, map, slice_index_or}
use Rattle.qn_sign.specs.Sign.{xor}
use Rattle.qn_gauss.specs.Gaussian.{Gaussian, zero_g, signed}
use Rattle.qn_index.specs.Legs.{SectorValue, sector_of}
use Rattle.qn_index.specs.Places.{sectors_at, offset_at}
use Rattle.qn_value.specs.Tensors.{BlockValue, same_values, entry_in}
use Rattle.qn_value.specs.Networks.{End}
use Rattle.qn_value.specs.Twists.{odd_among, twisted_at}
use Rattle.qn_value.specs.Blocks.{Blocked, legs_on, blocked_node, by_sector, twisted_block}
use Rattle.qn_value.proofs.NetLaws.{signed-zero, node_path}
use Rattle.qn_value.proofs.Values.{same_values-equal}

index-signed : (s : Bool) (xs : List Gaussian) (n : ℕ) → slice_index_or (map (signed s) xs) n zero_g ≡ signed s (slice_index_or xs n zero_g)
index-signed s [] n = sym (signed-zero s)
index-signed s (x ∷ xs) zero = refl
index-signed s (x ∷ xs) (suc n) = index-signed s xs n

-- the parity of values is that of their sectors
among_sectors : (par : ℤ → ℕ → Bool) (sectors : ℤ → List SectorValue) (test : End → Bool) (es : List End) (xs : List ℕ) →
    odd_among (by_sector sectors par) test es xs ≡ odd_among par test es (sectors_at (legs_on sectors es) xs)
among_sectors par sectors test [] xs = refl
among_sectors par sectors test (e ∷ es) [] = refl
among_sectors par sectors test (e ∷ es) (x ∷ xs) = ap (xor (test e && par e.label (sector_of (sectors e.label) x))) (among_sectors par sectors test es xs)

entry_twist : (par : ℤ → ℕ → Bool) (sectors : ℤ → List SectorValue) (test : End → Bool) (es : List End) (bs : List BlockValue) (xs : List ℕ) →
    entry_in (legs_on sectors es) (map (twisted_block par test es) bs) xs ≡ signed (odd_among (by_sector sectors par) test es xs) (entry_in (legs_on sectors es) bs xs)
entry_twist par sectors test es [] xs = sym (signed-zero (odd_among (by_sector sectors par) test es xs))
entry_twist par sectors test es (b ∷ bs) xs = go (same_values b.tuple (sectors_at (legs_on sectors es) xs)) refl (entry_twist par sectors test es bs xs)
  where
    s : Bool
    s = odd_among (by_sector sectors par) test es xs

    go : (p : Bool) → same_values b.tuple (sectors_at (legs_on sectors es) xs) ≡ p → entry_in (legs_on sectors es) (map (twisted_block par test es) bs) xs ≡ signed s (entry_in (legs_on sectors es) bs xs) →
        cond p (slice_index_or (twisted_block par test es b).entries (offset_at (legs_on sectors es) xs) zero_g) (entry_in (legs_on sectors es) (map (twisted_block par test es) bs) xs)
        ≡ signed s (cond p (slice_index_or b.entries (offset_at (legs_on sectors es) xs) zero_g) (entry_in (legs_on sectors es) bs xs))
    go true e ih =
        index-signed (odd_among par test es b.tuple) b.entries (offset_at (legs_on sectors es) xs)
        ∙ ap (λ t. signed t (slice_index_or b.entries (offset_at (legs_on sectors es) xs) zero_g))
        (ap (odd_among par test es) (same_values-equal b.tuple (sectors_at (legs_on sectors es) xs) e) ∙ sym (among_sectors par sectors test es xs))
    go false e ih = ih

pub block_twist : (par : ℤ → ℕ → Bool) (sectors : ℤ → List SectorValue) (test : End → Bool) (n : Blocked) →
    blocked_node sectors (record { ends = n.ends; blocks = map (twisted_block par test n.ends) n.blocks; odd = n.odd }) ≡
    twisted_at (by_sector sectors par) test (blocked_node sectors n)
block_twist par sectors test n =
    node_path (blocked_node sectors (record { ends = n.ends; blocks = map (twisted_block par test n.ends) n.blocks; odd = n.odd }))
    (twisted_at (by_sector sectors par) test (blocked_node sectors n)) refl (entry_twist par sectors test n.ends n.blocks) refl
