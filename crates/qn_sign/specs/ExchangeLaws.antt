-- Laws of the exchange sign: the exchange rule of super vector spaces. A law holds for any test that tells whether two things are the same.
use Rattle.std.specs.Prelude.{◌≡◌, ◌==◌, ◌<◌, ◌↔◌, ℕ, Bool, true, false, ◌&&◌, List, ◌∷◌, ◌++◌, map, length, All, slice_index_or}
use Rattle.qn_sign.specs.Sign.{is_in, xor, exchanges, exchange_sign, block_parity, IsDistinct, Perm}
use Rattle.qn_sign.specs.Positions.{is_odd_at, positions, IsOrder}

-- from one order to a second and from there to a third: the signs are multiplied
abbrev pub SignsCompose : {E : Type 0} → (E → E → Bool) → Type 0
SignsCompose {E} same =
    (odd : E → Bool) (word middle goal : List E) → IsDistinct same word → Perm word middle → Perm middle goal →
    exchange_sign same odd word goal ≡ xor (exchange_sign same odd word middle) (exchange_sign same odd middle goal)

-- the way back has the same sign
abbrev pub SignTurnsBack : {E : Type 0} → (E → E → Bool) → Type 0
SignTurnsBack {E} same =
    (odd : E → Bool) (word goal : List E) → IsDistinct same word → Perm word goal →
    exchange_sign same odd word goal ≡ exchange_sign same odd goal word

-- two things of equal parity that are neighbours in the word and in the goal, in the same order, may be left out
abbrev pub PairIsRemoved : {E : Type 0} → (E → E → Bool) → Type 0
PairIsRemoved {E} same =
    (odd : E → Bool) (x y : E) (before after left right : List E) →
    IsDistinct same (before ++ (x ∷ y ∷ after)) → Perm (before ++ (x ∷ y ∷ after)) (left ++ (x ∷ y ∷ right)) → odd x ≡ odd y →
    exchange_sign same odd (before ++ (x ∷ y ∷ after)) (left ++ (x ∷ y ∷ right)) ≡ exchange_sign same odd (before ++ after) (left ++ right)

-- two neighbouring blocks of the goal change places: the sign turns where both are odd
abbrev pub BlocksMoveInGoal : {E : Type 0} → (E → E → Bool) → Type 0
BlocksMoveInGoal {E} same =
    (odd : E → Bool) (word before first second after : List E) →
    IsDistinct same word → Perm word (before ++ (first ++ (second ++ after))) →
    exchange_sign same odd word (before ++ (first ++ (second ++ after))) ≡
    xor (block_parity odd first && block_parity odd second) (exchange_sign same odd word (before ++ (second ++ (first ++ after))))

-- two neighbouring blocks of the word change places: the sign turns where both are odd
abbrev pub BlocksMoveInWord : {E : Type 0} → (E → E → Bool) → Type 0
BlocksMoveInWord {E} same =
    (odd : E → Bool) (before first second after goal : List E) →
    IsDistinct same (before ++ (first ++ (second ++ after))) → Perm (before ++ (first ++ (second ++ after))) goal →
    exchange_sign same odd (before ++ (first ++ (second ++ after))) goal ≡
    xor (block_parity odd first && block_parity odd second) (exchange_sign same odd (before ++ (second ++ (first ++ after))) goal)

-- a first part that stays may be left out
abbrev pub CommonFirstPart : {E : Type 0} → (E → E → Bool) → Type 0
CommonFirstPart {E} same =
    (odd : E → Bool) (first word goal : List E) → IsDistinct same (first ++ word) → Perm word goal →
    exchange_sign same odd (first ++ word) (first ++ goal) ≡ exchange_sign same odd word goal

-- a last part that stays may be left out
abbrev pub CommonLastPart : {E : Type 0} → (E → E → Bool) → Type 0
CommonLastPart {E} same =
    (odd : E → Bool) (word goal last : List E) → IsDistinct same (word ++ last) → Perm word goal →
    exchange_sign same odd (word ++ last) (goal ++ last) ≡ exchange_sign same odd word goal

-- a part that is rearranged where it stands, between two parts that stay, has its own sign
abbrev pub LocalSign : {E : Type 0} → (E → E → Bool) → Type 0
LocalSign {E} same =
    (odd : E → Bool) (before part rearranged after : List E) →
    IsDistinct same (before ++ (part ++ after)) → Perm part rearranged →
    exchange_sign same odd (before ++ (part ++ after)) (before ++ (rearranged ++ after)) ≡ exchange_sign same odd part rearranged

-- a block of the word brings its things `taken`, which are even together, to the front of the goal, and leaves the things `left` in its place:
-- the sign is that of the block alone, times that of what remains
abbrev pub BlockIsTaken : {E : Type 0} → (E → E → Bool) → Type 0
BlockIsTaken {E} same =
    (odd : E → Bool) (before block after taken left rest : List E) →
    IsDistinct same (before ++ (block ++ after)) → Perm block (taken ++ left) → Perm (before ++ (left ++ after)) rest →
    block_parity odd taken ≡ false →
    exchange_sign same odd (before ++ (block ++ after)) (taken ++ rest) ≡
    xor (exchange_sign same odd block (taken ++ left)) (exchange_sign same odd (before ++ (left ++ after)) rest)

-- only the parities of the things in the goal matter
abbrev pub OtherParitiesDoNotMatter : {E : Type 0} → (E → E → Bool) → Type 0
OtherParitiesDoNotMatter {E} same =
    (odd other : E → Bool) (word goal : List E) → ((x : E) → is_in same x goal ≡ true → odd x ≡ other x) →
    exchanges same odd word goal ≡ exchanges same other word goal

-- things may be called by other names, as long as names that differ stay different
abbrev pub NamesDoNotMatter : {E F : Type 0} → (E → E → Bool) → (F → F → Bool) → Type 0
NamesDoNotMatter {E} {F} same alike =
    (name : E → F) (odd : F → Bool) (word goal : List E) →
    ((x y : E) → is_in same x goal ≡ true → is_in same y word ≡ true → alike (name x) (name y) ≡ same x y) →
    exchanges alike odd (map name word) (map name goal) ≡ exchanges same (λ x. odd (name x)) word goal

-- things may be called by their positions in the word
abbrev pub PositionsStandForThings : {E : Type 0} → (E → E → Bool) → Type 0
PositionsStandForThings {E} same =
    (odd : E → Bool) (word : List E) (nothing : E) (goal : List ℕ) → IsDistinct same word → All (λ k. k < length word) goal →
    exchanges same odd word (map (λ i. slice_index_or word i nothing) goal) ≡
    exchanges ◌==◌ (is_odd_at (map odd word)) (positions (length word)) goal

-- a list is a permutation of the positions exactly where each position stands in it once
abbrev pub OrdersArePermutations : Type 0
OrdersArePermutations = (n : ℕ) (order : List ℕ) → Perm (positions n) order ↔ IsOrder n order
