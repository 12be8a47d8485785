-- Worked examples of the exchange sign and its laws: things are numbers, and all but 3 are odd.
-- Each premise of a law is met and its two sides are computed, so no law speaks of nothing.
use Rattle.std.proofs.Common.{◌≡◌, ◌==◌, ◌+◌, ℕ, Bool, true, false, not, List, [], ◌∷◌, refl, map, length, get_or}
use Rattle.qn_sign.specs.Sign.{exchanges, exchange_sign, block_parity, IsDistinct, Perm}
use Rattle.qn_sign.specs.Sign.Perm.{keep, swap, then_by}
use Rattle.qn_sign.specs.Positions.{positions, is_odd_at}
use Rattle.qn_sign.proofs.Parity.{perm_blocks}

abbrev odd : ℕ → Bool
odd x = not (x == 3)

abbrev sign : List ℕ → List ℕ → Bool
sign word goal = exchange_sign ◌==◌ odd word goal

abbrev IsReordered : List ℕ → List ℕ → Type 0
IsReordered word goal = Perm word goal

-- three odd things in the reverse order: three exchanges
reversed : exchanges ◌==◌ odd (1 ∷ 2 ∷ 4 ∷ []) (4 ∷ 2 ∷ 1 ∷ []) ≡ 3
reversed = refl

-- even things count for nothing
one_even : exchanges ◌==◌ odd (1 ∷ 3 ∷ 4 ∷ []) (4 ∷ 3 ∷ 1 ∷ []) ≡ 1
one_even = refl

-- pairs that aren't neighbours count: 1 and 4 here, past 3
not_neighbours : exchanges ◌==◌ odd (1 ∷ 3 ∷ 4 ∷ []) (3 ∷ 4 ∷ 1 ∷ []) ≡ 1
not_neighbours = refl

-- by positions: the same three
reversed_positions : exchanges ◌==◌ (is_odd_at (true ∷ false ∷ true ∷ [])) (positions 3) (2 ∷ 1 ∷ 0 ∷ []) ≡ 1
reversed_positions = refl

-- 1 2 4 becomes 2 1 4 and then 2 4 1: minus times minus
composed : IsDistinct ◌==◌ (1 ∷ 2 ∷ 4 ∷ []) × IsReordered (1 ∷ 2 ∷ 4 ∷ []) (2 ∷ 1 ∷ 4 ∷ []) × IsReordered (2 ∷ 1 ∷ 4 ∷ []) (2 ∷ 4 ∷ 1 ∷ [])
    × (sign (1 ∷ 2 ∷ 4 ∷ []) (2 ∷ 1 ∷ 4 ∷ []) ≡ true) × (sign (2 ∷ 1 ∷ 4 ∷ []) (2 ∷ 4 ∷ 1 ∷ []) ≡ true) × (sign (1 ∷ 2 ∷ 4 ∷ []) (2 ∷ 4 ∷ 1 ∷ []) ≡ false)
composed = ((refl, (refl, (refl, tt))), swap, keep swap, refl, refl, refl)

-- there and back: minus both times
turned_back : (sign (1 ∷ 2 ∷ 4 ∷ []) (4 ∷ 2 ∷ 1 ∷ []) ≡ true) × (sign (4 ∷ 2 ∷ 1 ∷ []) (1 ∷ 2 ∷ 4 ∷ []) ≡ true)
turned_back = (refl, refl)

-- 2 and 4 are neighbours in both: what is left is 1 5 and 5 1, as minus as the whole
pair_removed : IsDistinct ◌==◌ (1 ∷ 2 ∷ 4 ∷ 5 ∷ []) × IsReordered (1 ∷ 2 ∷ 4 ∷ 5 ∷ []) (5 ∷ 2 ∷ 4 ∷ 1 ∷ []) × (odd 2 ≡ odd 4)
    × (sign (1 ∷ 2 ∷ 4 ∷ 5 ∷ []) (5 ∷ 2 ∷ 4 ∷ 1 ∷ []) ≡ true) × (sign (1 ∷ 5 ∷ []) (5 ∷ 1 ∷ []) ≡ true)
pair_removed = (
  (refl, (refl, (refl, (refl, tt)))),
  then_by (perm_blocks (1 ∷ 2 ∷ 4 ∷ []) (5 ∷ []) []) (keep (perm_blocks (1 ∷ []) (2 ∷ 4 ∷ []) [])),
  refl,
  refl,
  refl,
)

-- it does not hold of 2 and 3, of which one is odd
unequal_pair : (sign (1 ∷ 2 ∷ 3 ∷ []) (2 ∷ 3 ∷ 1 ∷ []) ≡ true) × (sign (1 ∷ []) (1 ∷ []) ≡ false)
unequal_pair = (refl, refl)

-- the odd blocks 1 and 2 3 of the goal change places, and of the word: the sign turns
blocks_moved : IsDistinct ◌==◌ (2 ∷ 1 ∷ 3 ∷ []) × IsReordered (2 ∷ 1 ∷ 3 ∷ []) (1 ∷ 2 ∷ 3 ∷ [])
    × (block_parity odd (1 ∷ []) ≡ true) × (block_parity odd (2 ∷ 3 ∷ []) ≡ true)
    × (sign (2 ∷ 1 ∷ 3 ∷ []) (1 ∷ 2 ∷ 3 ∷ []) ≡ true) × (sign (2 ∷ 1 ∷ 3 ∷ []) (2 ∷ 3 ∷ 1 ∷ []) ≡ false) × (sign (2 ∷ 3 ∷ 1 ∷ []) (2 ∷ 1 ∷ 3 ∷ []) ≡ false)
blocks_moved = ((refl, (refl, (refl, tt))), swap, refl, refl, refl, refl, refl)

-- 2 4 becomes 4 2 between 1 and 5
moved_inside : IsDistinct ◌==◌ (1 ∷ 2 ∷ 4 ∷ 5 ∷ []) × IsReordered (2 ∷ 4 ∷ []) (4 ∷ 2 ∷ [])
    × (sign (1 ∷ 2 ∷ 4 ∷ 5 ∷ []) (1 ∷ 4 ∷ 2 ∷ 5 ∷ []) ≡ true) × (sign (2 ∷ 4 ∷ []) (4 ∷ 2 ∷ []) ≡ true)
moved_inside = ((refl, (refl, (refl, (refl, tt)))), swap, refl, refl)

-- the block 2 5 4 gives up 4 and 2, and leaves 5; then 1 5 becomes 5 1: minus times minus
taken : IsDistinct ◌==◌ (1 ∷ 2 ∷ 5 ∷ 4 ∷ []) × IsReordered (2 ∷ 5 ∷ 4 ∷ []) (4 ∷ 2 ∷ 5 ∷ []) × IsReordered (1 ∷ 5 ∷ []) (5 ∷ 1 ∷ [])
    × (block_parity odd (4 ∷ 2 ∷ []) ≡ false) × (sign (1 ∷ 2 ∷ 5 ∷ 4 ∷ []) (4 ∷ 2 ∷ 5 ∷ 1 ∷ []) ≡ true)
    × (sign (2 ∷ 5 ∷ 4 ∷ []) (4 ∷ 2 ∷ 5 ∷ []) ≡ false) × (sign (1 ∷ 5 ∷ []) (5 ∷ 1 ∷ []) ≡ true)
taken = ((refl, (refl, (refl, (refl, tt)))), perm_blocks (2 ∷ 5 ∷ []) (4 ∷ []) [], swap, refl, refl, refl, refl)

-- what is not in the goal may have any parity
other_parity : exchanges ◌==◌ odd (1 ∷ 2 ∷ 4 ∷ []) (2 ∷ 1 ∷ []) ≡ exchanges ◌==◌ (λ x. not (x == 4)) (1 ∷ 2 ∷ 4 ∷ []) (2 ∷ 1 ∷ [])
other_parity = refl

-- 1, 2, 4 are called 11, 12, 14
renamed : exchanges ◌==◌ (λ x. not (x == 13)) (map (λ x. x + 10) (1 ∷ 2 ∷ 4 ∷ [])) (map (λ x. x + 10) (4 ∷ 1 ∷ 2 ∷ [])) ≡ 2
renamed = refl

-- 1, 3, 4 stand at the positions 0, 1, 2
by_position : IsDistinct ◌==◌ (1 ∷ 3 ∷ 4 ∷ []) × (map {B = ℕ} (λ i. get_or (1 ∷ 3 ∷ 4 ∷ []) i 0) (2 ∷ 0 ∷ 1 ∷ []) ≡ 4 ∷ 1 ∷ 3 ∷ [])
    × (exchanges ◌==◌ odd (1 ∷ 3 ∷ 4 ∷ []) (4 ∷ 1 ∷ 3 ∷ []) ≡ 1)
    × (exchanges ◌==◌ (is_odd_at (map odd (1 ∷ 3 ∷ 4 ∷ []))) (positions (length {A = ℕ} (1 ∷ 3 ∷ 4 ∷ []))) (2 ∷ 0 ∷ 1 ∷ []) ≡ 1)
by_position = ((refl, (refl, (refl, tt))), refl, refl, refl)
