-- Operators that ascend by name, and one more set in among them.
use Rattle.std.proofs.Common.{◌≡◌, ◌≢◌, ℕ, zero, suc, ◌≤◌, ◌<◌, List, [], ◌∷◌, length, get_or, arith, refl, ap, ◌∙◌, sym, subst, Bool, true, false, cond, Contains}
use Rattle.std.specs.Cmp.Lexicographic.{slice_cmp, nat_list_cmp_total}
use Rattle.std.specs.Ordering.{nat_cmp, is_lt, ordering_reverse}
use Rattle.std.specs.declared.cmp.Ordering.{Ordering}
use Rattle.std.specs.declared.cmp.Ordering.TheVariants.{Less, Equal, Greater}
use Rattle.std.specs.List.{All, AllPairs, insert}
use Rattle.std.proofs.lemmas.Bool.{false≢true}
use Rattle.std.proofs.lemmas.List.{get_or_default}
use Rattle.std.proofs.lemmas.List.Elements.{All-nil, All-cons, All-tail}
use Rattle.std.proofs.lemmas.List.Kept.{AllPairs-cons}
use Rattle.qn_sites.specs.Operators.{OpValue}
use Rattle.qn_sites.specs.Sites.{AreAscending, names, set_in}
use Rattle.qn_facts.proofs.Orderings.{is_less, same_list}

-- one name is below another
abbrev pub IsBelow : List ℕ → List ℕ → Type 0
IsBelow m n = slice_cmp nat_cmp m n ≡ Less

pub to_pairs : (ns : List (List ℕ)) → AreAscending ns → AllPairs IsBelow ns
to_pairs ns a i j d lt h =
    subst (λ n. IsBelow n (get_or ns j d)) (get_or_default ns i [] d (omega arith))
    (subst (λ n. IsBelow (get_or ns i []) n) (get_or_default ns j [] d h) (a i j lt h))

pub from_pairs : (ns : List (List ℕ)) → AllPairs IsBelow ns → AreAscending ns
from_pairs ns p i j lt h = p i j [] lt h

all_after : (n : List ℕ) (ns : List (List ℕ)) → AllPairs IsBelow (n ∷ ns) → All (IsBelow n) ns
all_after n ns p k d lt = p 0 (suc k) d (omega arith) (omega arith)

pairs_after : (n : List ℕ) (ns : List (List ℕ)) → AllPairs IsBelow (n ∷ ns) → AllPairs IsBelow ns
pairs_after n ns p i j d lt h = p (suc i) (suc j) d (omega arith) (omega arith)

-- of two names that differ, one is below the other
other_below : (m n : List ℕ) → is_lt (slice_cmp nat_cmp m n) ≡ false → m ≢ n → IsBelow n m
other_below m n e ne = nat_list_cmp_total.antisymm n m ∙ by (slice_cmp nat_cmp m n) refl
  where
    by : (o : Ordering) → slice_cmp nat_cmp m n ≡ o → ordering_reverse (slice_cmp nat_cmp m n) ≡ Less
    by Less h = absurd (false≢true (sym e ∙ ap is_lt h))
    by Equal h = absurd (ne (same_list m n h))
    by Greater h = ap ordering_reverse h

-- ---- an operator set in

pub set_all : (P : List ℕ → Type 0) (o : OpValue) (ps : List OpValue) → P o.name → All P (names ps) → All P (names (set_in o ps))
set_all P o [] h a = All-cons P o.name [] h (All-nil P)
set_all P o (p ∷ ps) h a = go (is_lt (slice_cmp nat_cmp p.name o.name)) (set_all P o ps h (All-tail P p.name (names ps) a))
  where
    go : (b : Bool) → All P (names (set_in o ps)) → All P (names (cond b (p ∷ set_in o ps) (o ∷ p ∷ ps)))
    go true ih = All-cons P p.name (names (set_in o ps)) (a 0 [] (omega arith)) ih
    go false ih = All-cons P o.name (names (p ∷ ps)) h a

-- what holds of operators
pub set_ops : (P : OpValue → Type 0) (o : OpValue) (ps : List OpValue) → P o → All P ps → All P (set_in o ps)
set_ops P o [] h a = All-cons P o [] h (All-nil P)
set_ops P o (p ∷ ps) h a = go (is_lt (slice_cmp nat_cmp p.name o.name)) (set_ops P o ps h (All-tail P p ps a))
  where
    go : (b : Bool) → All P (set_in o ps) → All P (cond b (p ∷ set_in o ps) (o ∷ p ∷ ps))
    go true ih = All-cons P p (set_in o ps) (a 0 p (omega arith)) ih
    go false ih = All-cons P o (p ∷ ps) h a

pub set_length : (o : OpValue) (ps : List OpValue) → length (set_in o ps) ≡ suc (length ps)
set_length o [] = refl
set_length o (p ∷ ps) = go (is_lt (slice_cmp nat_cmp p.name o.name)) (set_length o ps)
  where
    go : (b : Bool) → length (set_in o ps) ≡ suc (length ps) → length (cond b (p ∷ set_in o ps) (o ∷ p ∷ ps)) ≡ suc (suc (length ps))
    go true ih = ap suc ih
    go false ih = refl

pub set_contains : (o : OpValue) (ps : List OpValue) → Contains (set_in o ps) o
set_contains o [] = (0, omega arith, refl)
set_contains o (p ∷ ps) = go (is_lt (slice_cmp nat_cmp p.name o.name)) (set_contains o ps)
  where
    go : (b : Bool) → Contains (set_in o ps) o → Contains (cond b (p ∷ set_in o ps) (o ∷ p ∷ ps)) o
    go true ih = (suc ih.0, omega (arith, ih.1), ih.2)
    go false ih = (0, omega arith, refl)

pub set_rises : (o : OpValue) (ps : List OpValue) → AllPairs IsBelow (names ps) → All (λ n. n ≢ o.name) (names ps) → AllPairs IsBelow (names (set_in o ps))
set_rises o [] p d = AllPairs-cons IsBelow o.name [] (All-nil (IsBelow o.name)) p
set_rises o (q ∷ qs) p d =
    go (is_lt (slice_cmp nat_cmp q.name o.name)) refl (set_rises o qs (pairs_after q.name (names qs) p) (All-tail (λ n. n ≢ o.name) q.name (names qs) d))
  where
    go : (b : Bool) → is_lt (slice_cmp nat_cmp q.name o.name) ≡ b → AllPairs IsBelow (names (set_in o qs)) → AllPairs IsBelow (names (cond b (q ∷ set_in o qs) (o ∷ q ∷ qs)))
    go true e ih = AllPairs-cons IsBelow q.name (names (set_in o qs)) (set_all (IsBelow q.name) o qs (is_less (slice_cmp nat_cmp q.name o.name) e) (all_after q.name (names qs) p)) ih
    go false e ih = AllPairs-cons IsBelow o.name (names (q ∷ qs)) (All-cons (IsBelow o.name) q.name (names qs) first later) p
      where
        first : IsBelow o.name q.name
        first = other_below q.name o.name e (d 0 [] (omega arith))

        later : All (IsBelow o.name) (names qs)
        later k n lt = nat_list_cmp_total.trans o.name q.name (get_or (names qs) k n) first (all_after q.name (names qs) p k n lt)

-- the operator set in stands after those that are below it
pub set_is_insert : (o : OpValue) (ps : List OpValue) (i : ℕ) → i ≤ length ps → ((k : ℕ) (d : OpValue) → k < i → is_lt (slice_cmp nat_cmp (get_or ps k d).name o.name) ≡ true) →
    ((d : OpValue) → i < length ps → is_lt (slice_cmp nat_cmp (get_or ps i d).name o.name) ≡ false) → set_in o ps ≡ insert ps i o
set_is_insert o [] zero le below above = refl
set_is_insert o [] (suc i) le below above = absurd (omega arith)
set_is_insert o (p ∷ ps) zero le below above = ap (λ b. cond b (p ∷ set_in o ps) (o ∷ p ∷ ps)) (above p (omega arith))
set_is_insert o (p ∷ ps) (suc i) le below above =
    ap (λ b. cond b (p ∷ set_in o ps) (o ∷ p ∷ ps)) (below 0 p (omega arith))
    ∙ ap (λ qs. p ∷ qs) (set_is_insert o ps i (omega arith) (λ k d lt. below (suc k) d (omega arith)) (λ d lt. above d (omega arith)))
