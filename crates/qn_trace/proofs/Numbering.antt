-- The tuple of the result for which a block counts.
use Rattle.std.proofs.Common.{◌≡◌, ◌≢◌, ◌≤◌, ◌<◌, ℕ, zero, suc, ◌+◌, Bool, true, false, ◌&&◌, Some, None, Option, List, [], ◌∷◌, ◌++◌, refl, sym, ◌∙◌, ap, subst, map, length, get_or, set, ◌⊎◌, inl, inr, arith}
use Rattle.std.specs.Prelude.{MatchResult, MatchOption, Result, Ok, Err}
use Rattle.std.specs.List.{All, AllPairs}
use Rattle.std.specs.List.Sorted.{IsSearchInRange, IsBinarySearchResult}
use Rattle.std.specs.Cmp.Lexicographic.{slice_cmp}
use Rattle.std.specs.Ordering.{nat_cmp, ordering_index}
use Rattle.std.specs.declared.cmp.Ordering.TheVariants.{Less, Equal, Greater}
use Rattle.std.proofs.lemmas.Bool.{cases_lt, and_from}
use Rattle.std.proofs.lemmas.List.{length-set, get_or-set_same, get_or-set_other}
use Rattle.qn_charge.specs.declared.factor.Factor.{Factor}
use Rattle.qn_index.specs.Legs.{LegValue}
use Rattle.qn_index.specs.Tuples.{IsTuple}
use Rattle.qn_index.proofs.Nets.{tuple_length}
use Rattle.qn_value.specs.Tensors.{BlockValue, no_block, same_values, AreAscending}
use Rattle.qn_value.specs.Local.{picked}
use Rattle.qn_block.proofs.Lookup.{looked_up, not_below_itself}
use Rattle.qn_block.proofs.Rows.{same_from, differ_from}
use Rattle.qn_strides.specs.Strides.{couples_meet, open_places}
use Rattle.qn_trace.specs.Sources.{SourceValue, source_of, IsSource, IsBelow, IsNumberOf}
use Rattle.qn_trace.proofs.Filling.{open_below, AreGathered, gathered_more, gathered_passed}

-- blocks without entries at these tuples
abbrev blank : List (List ℕ) → List BlockValue
blank ts = map (λ t. record { tuple = t; entries = [] }) ts

blank_long : (ts : List (List ℕ)) → length (blank ts) ≡ length ts
blank_long [] = refl
blank_long (t ∷ ts) = ap suc (blank_long ts)

blank_at : (ts : List (List ℕ)) (j : ℕ) (d : BlockValue) (e : List ℕ) → j < length ts → (get_or (blank ts) j d).tuple ≡ get_or ts j e
blank_at [] j d e lt = absurd (omega arith)
blank_at (t ∷ ts) zero d e lt = refl
blank_at (t ∷ ts) (suc j) d e lt = blank_at ts j d e (omega arith)

blank_ascend : (ts : List (List ℕ)) → AllPairs IsBelow ts → AreAscending (blank ts)
blank_ascend ts a i j lt le =
    let m : j < length ts = omega (arith, le, blank_long ts) in
    subst (λ t. slice_cmp nat_cmp t (get_or (blank ts) j no_block).tuple ≡ Less) (sym (blank_at ts i no_block [] (omega arith)))
    (subst (λ t. slice_cmp nat_cmp (get_or ts i []) t ≡ Less) (sym (blank_at ts j no_block [] m)) (a i j [] lt m))

-- what a binary search for sectors answers
pub tuple_found : (ts : List (List ℕ)) (t : List ℕ) (r : Result ℕ ℕ) → AllPairs IsBelow ts → IsSearchInRange r (length ts) → IsBinarySearchResult (λ u. slice_cmp nat_cmp u t) ts r →
    MatchResult r (λ i. (i < length ts) × (get_or ts i [] ≡ t)) (λ i. (j : ℕ) → j < length ts → get_or ts j [] ≢ t)
tuple_found ts t (Ok i) a range found =
    let there = looked_up (blank ts) t (Ok i) (blank_ascend ts a) (omega (arith, range, blank_long ts)) (λ d. subst (λ u. slice_cmp nat_cmp u t ≡ Equal) (sym (blank_at ts i d [] range)) (found [])) in
    (range, sym (blank_at ts i no_block [] range) ∙ there.1)
tuple_found ts t (Err i) a range found = λ j lt e.
    let none = looked_up (blank ts) t (Err i) (blank_ascend ts a) (omega (arith, range, blank_long ts)) (λ rises.
    let parted = found (λ m n d le l.
    subst (λ u. ordering_index (slice_cmp nat_cmp u t) ≤ ordering_index (slice_cmp nat_cmp (get_or ts n d) t)) (blank_at ts m no_block d (omega arith))
    (subst (λ u. ordering_index (slice_cmp nat_cmp (get_or (blank ts) m no_block).tuple t) ≤ ordering_index (slice_cmp nat_cmp u t)) (blank_at ts n no_block d l) (rises m n no_block le (omega (arith, blank_long ts))))) in (
      (λ k d l p. subst (λ u. slice_cmp nat_cmp u t ≡ Less) (sym (blank_at ts k d [] (omega (arith, blank_long ts)))) (parted.0 k [] (omega (arith, blank_long ts)) p)),
      (λ k d p l. subst (λ u. slice_cmp nat_cmp u t ≡ Greater) (sym (blank_at ts k d [] (omega (arith, blank_long ts)))) (parted.1 k [] p (omega (arith, blank_long ts)))),
    )) in
    none j (omega (arith, blank_long ts)) (blank_at ts j no_block [] lt ∙ e)

-- ---- the number of a block

apart : (ts : List (List ℕ)) (i j : ℕ) → AllPairs IsBelow ts → i < length ts → j < length ts → i ≢ j → get_or ts i [] ≢ get_or ts j []
apart ts i j a l m n e = by (cases_lt i j)
  where
    by : (i < j) ⊎ (j ≤ i) → ⊥
    by (inl lt) = not_below_itself (get_or ts i []) (subst (λ u. slice_cmp nat_cmp (get_or ts i []) u ≡ Less) (sym e) (a i j [] lt m))
    by (inr ge) = by_second (cases_lt j i)
      where
        by_second : (j < i) ⊎ (i ≤ j) → ⊥
        by_second (inl lt) = not_below_itself (get_or ts j []) (subst (λ u. slice_cmp nat_cmp (get_or ts j []) u ≡ Less) e (a j i [] lt l))
        by_second (inr le) = n (omega arith)

and_second : (a b : Bool) → b ≡ false → (a && b) ≡ false
and_second a b e = grind arith

-- a block whose couples meet, by where its open sectors stand
pub number_is : (cs : List (ℕ × ℕ)) (ps : List ℕ) (ts : List (List ℕ)) (b : BlockValue) (t : List ℕ) (o : Option ℕ) → AllPairs IsBelow ts → couples_meet cs b.tuple ≡ true → t ≡ picked 0 b.tuple ps →
    MatchOption o ((k : ℕ) → k < length ts → get_or ts k [] ≢ t) (λ k. (k < length ts) × (get_or ts k [] ≡ t)) → IsNumberOf cs ps ts b o
number_is cs ps ts b t None a e f h = λ k lt.
    and_second (couples_meet cs b.tuple) (same_values (get_or ts k []) (picked 0 b.tuple ps)) (differ_from (get_or ts k []) (picked 0 b.tuple ps) (λ s. h k lt (s ∙ sym f)))
number_is cs ps ts b t (Some n) a e f h = (
  h.0,
  and_from (couples_meet cs b.tuple) (same_values (get_or ts n []) (picked 0 b.tuple ps)) e (same_from (get_or ts n []) (picked 0 b.tuple ps) (h.1 ∙ f)),
  (λ k lt ne.
      and_second (couples_meet cs b.tuple) (same_values (get_or ts k []) (picked 0 b.tuple ps)) (differ_from (get_or ts k []) (picked 0 b.tuple ps) (λ s. apart ts k n a lt h.0 ne (s ∙ sym (h.1 ∙ f))))),
)

-- ---- the blocks that count for each tuple, among the first

pub record AreSorted (fs : List Factor) (ls : List LegValue) (cs : List (ℕ × ℕ)) (rs : List LegValue) (ts : List (List ℕ)) (bs : List BlockValue) (i : ℕ) (out : List (List SourceValue)) : Type 0 where
  pub long : length out ≡ length ts
  pub each : (k : ℕ) → k < length ts → AreGathered fs ls cs rs (get_or ts k []) bs i (get_or out k [])

pub sorted_passed : (fs : List Factor) (ls : List LegValue) (cs : List (ℕ × ℕ)) (rs : List LegValue) (ts : List (List ℕ)) (bs : List BlockValue) (i : ℕ) (b : BlockValue) (out : List (List SourceValue)) (ps : List ℕ) → i < length bs → b ≡ get_or bs i b →
    ps ≡ open_places cs (length ls) → IsNumberOf cs ps ts b None → AreSorted fs ls cs rs ts bs i out → AreSorted fs ls cs rs ts bs (i + 1) out
sorted_passed fs ls cs rs ts bs i b out ps lt e p f h = record {
  long = h.long;
  each = λ k m. gathered_passed fs ls cs rs (get_or ts k []) bs i b (get_or out k []) ps lt e p (f k m) (h.each k m);
}

pub sorted_more : (fs : List Factor) (ls : List LegValue) (cs : List (ℕ × ℕ)) (rs : List LegValue) (ts : List (List ℕ)) (bs : List BlockValue) (i : ℕ) (b : BlockValue) (out new : List (List SourceValue)) (ps : List ℕ) (n : ℕ) (x : SourceValue) → i < length bs → b ≡ get_or bs i b →
    ps ≡ open_places cs (length ls) → IsNumberOf cs ps ts b (Some n) → x ≡ source_of fs ls cs rs (get_or ts n []) b → IsSource x → new ≡ set out n (get_or out n [] ++ x ∷ []) → AreSorted fs ls cs rs ts bs i out → AreSorted fs ls cs rs ts bs (i + 1) new
sorted_more fs ls cs rs ts bs i b out new ps n x lt e p f g s made h = subst (AreSorted fs ls cs rs ts bs (i + 1)) (sym made) record {
  long = length-set out n (get_or out n [] ++ x ∷ []) ∙ h.long;
  each = λ k m. by k m (cases_lt k n);
}
  where
    all : List SourceValue
    all = get_or out n [] ++ x ∷ []

    other : (k : ℕ) → k < length ts → k ≢ n → AreGathered fs ls cs rs (get_or ts k []) bs (i + 1) (get_or (set out n all) k [])
    other k m ne =
        subst (AreGathered fs ls cs rs (get_or ts k []) bs (i + 1)) (sym (get_or-set_other out n k all [] ne)) (gathered_passed fs ls cs rs (get_or ts k []) bs i b (get_or out k []) ps lt e p (f.2 k m ne) (h.each k m))

    here : (k : ℕ) → k ≡ n → AreGathered fs ls cs rs (get_or ts k []) bs (i + 1) (get_or (set out n all) k [])
    here k same =
        subst (λ j. AreGathered fs ls cs rs (get_or ts j []) bs (i + 1) (get_or (set out n all) j [])) (sym same)
        (subst (AreGathered fs ls cs rs (get_or ts n []) bs (i + 1)) (sym (get_or-set_same out n all [] (omega (arith, h.long, f.0)))) (gathered_more fs ls cs rs (get_or ts n []) bs i b (get_or out n []) x ps lt e p f.1 g s (h.each n f.0)))

    by : (k : ℕ) → k < length ts → (k < n) ⊎ (n ≤ k) → AreGathered fs ls cs rs (get_or ts k []) bs (i + 1) (get_or (set out n all) k [])
    by k m (inl l) = other k m (λ q. absurd (omega arith))
    by k m (inr ge) = by_second (cases_lt n k)
      where
        by_second : (n < k) ⊎ (k ≤ n) → AreGathered fs ls cs rs (get_or ts k []) bs (i + 1) (get_or (set out n all) k [])
        by_second (inl l) = other k m (λ q. absurd (omega arith))
        by_second (inr le) = here k (omega arith)

-- the open legs have sectors in the tuple of each block
pub open_in : (ls : List LegValue) (cs : List (ℕ × ℕ)) (ps t : List ℕ) → ps ≡ open_places cs (length ls) → IsTuple ls t → All (λ p. p < length t) ps
open_in ls cs ps t e h =
    subst (All (λ p. p < length t)) (sym e) (subst (λ n. All (λ p. p < n) (open_places cs (length ls))) (sym (tuple_length ls t h)) (open_below ls cs))
