-- Blocks found by their tuples.
use Rattle.std.proofs.Common.{◌≡◌, ◌≢◌, ℕ, zero, suc, ◌+◌, ◌*◌, ◌≤◌, ◌<◌, List, [], ◌∷◌, ◌++◌, length, get_or, take, drop, set, arith, refl, ap, ◌∙◌, sym, subst, ◌⊎◌, inl, inr, ⊎_elim, cond}
use Rattle.std.specs.Cmp.Lexicographic.{slice_cmp}
use Rattle.std.specs.Ordering.{nat_cmp, ordering_index}
use Rattle.std.specs.List.Sorted.{IsSearchInRange, IsBinarySearchResult, IsNonDecreasingBy}
use Rattle.std.specs.Prelude.{MatchResult, Result, Ok, Err}
use Rattle.std.specs.declared.cmp.Ordering.TheVariants.{Less, Equal, Greater}
use Rattle.std.proofs.lemmas.Cmp.{nat_list_cmp_total, tied_itself, alike_right}
use Rattle.std.proofs.lemmas.Bool.{cases_lt}
use Rattle.std.proofs.lemmas.List.{get_or_default, length-set, take_more, take_more_set, take_all}
use Rattle.qn_gauss.specs.Gaussian.{zero_g}
use Rattle.qn_index.specs.Legs.{LegValue, total, sector_of, offset_in}
use Rattle.qn_index.specs.Places.{IsValues, IsInner, sectors_at, offset_at, offset_of, block_size}
use Rattle.qn_index.proofs.Sectors.{place_of_value}
use Rattle.qn_value.specs.Tensors.{BlockValue, no_block, entry_in, AreAscending}
use Rattle.qn_block.specs.Blocked.{offsets_at}
use Rattle.qn_block.specs.Refusals.{block_at}
use Rattle.qn_block.proofs.Rows.{same_from, differ_from}
use Rattle.qn_facts.proofs.Orderings.{index_rises, same_list}
pub use Rattle.qn_facts.proofs.Orderings.{same_list as same_tuple}

less_not_equal : Less ≡ Equal → ⊥
less_not_equal e = cc

greater_not_equal : Greater ≡ Equal → ⊥
greater_not_equal e = cc

-- no tuple is below itself
pub not_below_itself : (t : List ℕ) → slice_cmp nat_cmp t t ≡ Less → ⊥
not_below_itself t e = less_not_equal (sym e ∙ tied_itself nat_list_cmp_total t)

-- at each tuple there is one block at most
pub one_block : (bs : List BlockValue) (i j : ℕ) → AreAscending bs → i < length bs → j < length bs → (block_at bs i).tuple ≡ (block_at bs j).tuple → i ≡ j
one_block bs i j a hi hj e = by (cases_lt i j)
  where
    by : (i < j) ⊎ (j ≤ i) → i ≡ j
    by (inl lt) = absurd (not_below_itself (block_at bs j).tuple (subst (λ t. slice_cmp nat_cmp t (block_at bs j).tuple ≡ Less) e (a i j lt hj)))
    by (inr le) = upto (cases_lt j i)
      where
        upto : (j < i) ⊎ (i ≤ j) → i ≡ j
        upto (inl lt) = absurd (not_below_itself (block_at bs i).tuple (subst (λ t. slice_cmp nat_cmp t (block_at bs i).tuple ≡ Less) (sym e) (a j i lt hi)))
        upto (inr ge) = omega arith

-- the entry in the first block at the values' sectors
pub entry_there : (ls : List LegValue) (bs : List BlockValue) (xs : List ℕ) (i : ℕ) → i < length bs → (block_at bs i).tuple ≡ sectors_at ls xs → ((j : ℕ) → j < i → (block_at bs j).tuple ≢ sectors_at ls xs) → entry_in ls bs xs ≡ get_or (block_at bs i).entries (offset_at ls xs) zero_g
entry_there ls [] xs i lt e n = absurd (omega arith)
entry_there ls (b ∷ bs) xs zero lt e n = ap (λ y. cond y (get_or b.entries (offset_at ls xs) zero_g) (entry_in ls bs xs)) (same_from b.tuple (sectors_at ls xs) e)
entry_there ls (b ∷ bs) xs (suc i) lt e n =
    ap (λ y. cond y (get_or b.entries (offset_at ls xs) zero_g) (entry_in ls bs xs)) (differ_from b.tuple (sectors_at ls xs) (n 0 (omega arith)))
    ∙ entry_there ls bs xs i (omega arith) e (λ j h. n (suc j) (omega arith))

-- the entry is 0 where there is no block at the values' sectors
pub entry_nowhere : (ls : List LegValue) (bs : List BlockValue) (xs : List ℕ) → ((j : ℕ) → j < length bs → (block_at bs j).tuple ≢ sectors_at ls xs) → entry_in ls bs xs ≡ zero_g
entry_nowhere ls [] xs n = refl
entry_nowhere ls (b ∷ bs) xs n =
    ap (λ y. cond y (get_or b.entries (offset_at ls xs) zero_g) (entry_in ls bs xs)) (differ_from b.tuple (sectors_at ls xs) (n 0 (omega arith)))
    ∙ entry_nowhere ls bs xs (λ j h. n (suc j) (omega arith))

-- the entry in the block at the values' sectors
pub entry_found : (ls : List LegValue) (bs : List BlockValue) (xs : List ℕ) (i : ℕ) → AreAscending bs → i < length bs → (block_at bs i).tuple ≡ sectors_at ls xs → entry_in ls bs xs ≡ get_or (block_at bs i).entries (offset_at ls xs) zero_g
entry_found ls bs xs i a lt e =
    entry_there ls bs xs i lt e (λ j h s. let same : j ≡ i = one_block bs j i a (omega arith) lt (s ∙ sym e) in omega arith)

-- how the blocks' tuples stand to a tuple rises
tuples_rise : (bs : List BlockValue) (t : List ℕ) → AreAscending bs → IsNonDecreasingBy (λ (b : BlockValue). ordering_index (slice_cmp nat_cmp b.tuple t)) bs
tuples_rise bs t a i j d le lt = by (cases_lt i j)
  where
    at : ℕ → List ℕ
    at k = (get_or bs k d).tuple

    by : (i < j) ⊎ (j ≤ i) → ordering_index (slice_cmp nat_cmp (at i) t) ≤ ordering_index (slice_cmp nat_cmp (at j) t)
    by (inr ge) = let e : i ≡ j = omega arith in subst (λ k. ordering_index (slice_cmp nat_cmp (at i) t) ≤ ordering_index (slice_cmp nat_cmp (at k) t)) e (omega arith)
    by (inl less) =
        let here : block_at bs i ≡ get_or bs i d = get_or_default bs i no_block d (omega arith) in
        let there : block_at bs j ≡ get_or bs j d = get_or_default bs j no_block d lt in
        let below : slice_cmp nat_cmp (at i) (at j) ≡ Less =
        subst (λ (b : BlockValue). slice_cmp nat_cmp b.tuple (at j) ≡ Less) here (subst (λ (b : BlockValue). slice_cmp nat_cmp (block_at bs i).tuple b.tuple ≡ Less) there (a i j less lt)) in
        index_rises (slice_cmp nat_cmp (at i) t) (slice_cmp nat_cmp (at j) t)
        (λ e. nat_list_cmp_total.trans (at i) (at j) t below e)
        (λ e. sym (alike_right nat_list_cmp_total (at j) t (at i) e) ∙ below)

-- what a binary search for a tuple answers
pub looked_up : (bs : List BlockValue) (t : List ℕ) (r : Result ℕ ℕ) → AreAscending bs → IsSearchInRange r (length bs) → IsBinarySearchResult (λ b. slice_cmp nat_cmp b.tuple t) bs r →
    MatchResult r (λ i. (i < length bs) × ((block_at bs i).tuple ≡ t)) (λ i. (j : ℕ) → j < length bs → (block_at bs j).tuple ≢ t)
looked_up bs t (Ok i) a range found = (range, same_list (block_at bs i).tuple t (found no_block))
looked_up bs t (Err i) a range found = λ j lt e.
    let parted = found (tuples_rise bs t a) in
    let tied : slice_cmp nat_cmp (block_at bs j).tuple t ≡ Equal = subst (λ u. slice_cmp nat_cmp u t ≡ Equal) (sym e) (tied_itself nat_list_cmp_total t) in
    ⊎_elim
    (λ (l : j < i). less_not_equal (sym (parted.0 j no_block (omega arith) l) ∙ tied))
    (λ (g : i ≤ j). greater_not_equal (sym (parted.1 j no_block g lt) ∙ tied))
    (cases_lt j i)

-- ---- values leg by leg

pub values_length : (ls : List LegValue) (xs : List ℕ) → IsValues ls xs → length xs ≡ length ls
values_length [] xs h = ap length h
values_length (l ∷ ls) [] h = absurd h
values_length (l ∷ ls) (x ∷ xs) h = ap suc (values_length ls xs h.1)

pub value_at : (ls : List LegValue) (xs : List ℕ) (i : ℕ) (l : LegValue) → IsValues ls xs → i < length ls → l ≡ get_or ls i l → get_or xs i 0 < total l.sectors
value_at [] xs i l h lt e = absurd (omega arith)
value_at (k ∷ ls) [] i l h lt e = absurd h
value_at (k ∷ ls) (x ∷ xs) zero l h lt e = subst (λ (m : LegValue). x < total m.sectors) (sym e) h.0
value_at (k ∷ ls) (x ∷ xs) (suc i) l h lt e = value_at ls xs i l h.1 (omega arith) e

pub sectors_length : (ls : List LegValue) (xs : List ℕ) → IsValues ls xs → length (sectors_at ls xs) ≡ length ls
sectors_length [] xs h = refl
sectors_length (l ∷ ls) [] h = absurd h
sectors_length (l ∷ ls) (x ∷ xs) h = ap suc (sectors_length ls xs h.1)

pub offsets_length : (ls : List LegValue) (xs : List ℕ) → IsValues ls xs → length (offsets_at ls xs) ≡ length ls
offsets_length [] xs h = refl
offsets_length (l ∷ ls) [] h = absurd h
offsets_length (l ∷ ls) (x ∷ xs) h = ap suc (offsets_length ls xs h.1)

pub sector_is : (ls : List LegValue) (xs : List ℕ) (i : ℕ) (l : LegValue) → IsValues ls xs → i < length ls → l ≡ get_or ls i l → get_or (sectors_at ls xs) i 0 ≡ sector_of l.sectors (get_or xs i 0)
sector_is [] xs i l h lt e = absurd (omega arith)
sector_is (k ∷ ls) [] i l h lt e = absurd h
sector_is (k ∷ ls) (x ∷ xs) zero l h lt e = ap (λ (m : LegValue). sector_of m.sectors x) (sym e)
sector_is (k ∷ ls) (x ∷ xs) (suc i) l h lt e = sector_is ls xs i l h.1 (omega arith) e

pub offset_is : (ls : List LegValue) (xs : List ℕ) (i : ℕ) (l : LegValue) → IsValues ls xs → i < length ls → l ≡ get_or ls i l → get_or (offsets_at ls xs) i 0 ≡ offset_in l.sectors (get_or xs i 0)
offset_is [] xs i l h lt e = absurd (omega arith)
offset_is (k ∷ ls) [] i l h lt e = absurd h
offset_is (k ∷ ls) (x ∷ xs) zero l h lt e = ap (λ (m : LegValue). offset_in m.sectors x) (sym e)
offset_is (k ∷ ls) (x ∷ xs) (suc i) l h lt e = offset_is ls xs i l h.1 (omega arith) e

-- an array of 64 whose first i places are those of a list
pub record IsFilledTo (i : ℕ) (array all : List ℕ) : Type 0 where
  pub long : length array ≡ 64
  pub first : take i array ≡ take i all

pub filled_more : (i v : ℕ) (array all : List ℕ) → i < 64 → i < length all → get_or all i 0 ≡ v → IsFilledTo i array all → IsFilledTo (i + 1) (set array i v) all
filled_more i v array all small lt e h = record {
  long = length-set array i v ∙ h.long;
  first = take_more_set array i v (omega (arith, h.long)) ∙ (ap (λ k. k ++ v ∷ []) h.first ∙ (ap (λ y. take i all ++ y ∷ []) (sym e) ∙ sym (take_more all i 0 lt)));
}

-- the offset of values is that of their offsets in their sectors
pub offset_same : (ls : List LegValue) (xs : List ℕ) → IsValues ls xs → IsInner ls (sectors_at ls xs) (offsets_at ls xs) × (offset_of ls (sectors_at ls xs) (offsets_at ls xs) ≡ offset_at ls xs)
offset_same [] xs h = (refl, refl)
offset_same (l ∷ ls) [] h = absurd h
offset_same (l ∷ ls) (x ∷ xs) h =
    let p = place_of_value l.sectors x h.0 in
    let r = offset_same ls xs h.1 in
    ((p.1, r.0), ap (λ k. offset_in l.sectors x * block_size ls (sectors_at ls xs) + k) r.1)

pub filled_all : (n i : ℕ) (array all : List ℕ) → i ≡ n → length all ≡ n → IsFilledTo i array all → take n array ≡ all
filled_all n i array all e long h = subst (λ k. take k array ≡ take k all) e h.first ∙ take_all n all (omega (arith, long))

-- ---- values in range

-- the values from i on are in range just where all are
pub record IsSameRange (ls : List LegValue) (xs : List ℕ) (i : ℕ) : Type 0 where
  pub to : IsValues (drop i ls) (drop i xs) → IsValues ls xs
  pub from : IsValues ls xs → IsValues (drop i ls) (drop i xs)
