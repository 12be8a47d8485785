-- The places of labels on legs.
use Rattle.std.proofs.Common.{◌≡◌, ◌≢◌, ◌<◌, ◌≤◌, ◌-◌, ℕ, zero, suc, ◌+◌, ℤ, pos, Bool, true, false, ◌&&◌, ◌||◌, if◌then◌else◌, List, [], ◌∷◌, refl, sym, ◌∙◌, ap, ap₂, length, map, drop, get_or, int_eq, add-one, arith}
use Rattle.std.specs.List.{All}
use Rattle.std.proofs.lemmas.Bool.{false≢true}
use Rattle.std.proofs.lemmas.List.{get_or-drop, length-drop}
use Rattle.qn_sign.specs.Sign.{is_in}
use Rattle.qn_value.specs.Networks.{End, Bond, same_bool, same_end, pairs_of, labels}
use Rattle.qn_value.proofs.Sums.{label_test}
use Rattle.qn_value.proofs.NetLaws.{end_test}
use Rattle.qn_value.proofs.BlockRows.{all-nil, all-cons}
use Rattle.qn_net.specs.Operations.{AreCouplesOf}
use Rattle.qn_plan.specs.Shapes.{place_of, shared_places}
use Rattle.qn_engine.specs.Labels.{place_in, couple_in, shared_labels, coupled_labels}

abbrev pub names : List End → List ℤ
names es = map (λ (e : End). e.label) es

-- by labels as by ends
place_named : (l : ℤ) (es : List End) → place_in l (names es) ≡ place_of l es
place_named l [] = refl
place_named l (e ∷ es) = ap (λ n. if int_eq l e.label then zero else suc n) (place_named l es)

pub shared_named : (es ds : List End) (ls : List ℤ) → shared_labels (names es) (names ds) ls ≡ shared_places es ds ls
shared_named es ds [] = refl
shared_named es ds (l ∷ ls) = ap₂ (λ (p : ℕ × ℕ) (ps : List (ℕ × ℕ)). p ∷ ps) (ap₂ (λ (i j : ℕ). (i, j)) (place_named l es) (place_named l ds)) (shared_named es ds ls)

-- a label that stands has a place
pub place_stands : (l : ℤ) (ls : List ℤ) → is_in int_eq l ls ≡ true → (place_in l ls < length ls) × (get_or ls (place_in l ls) (pos 0) ≡ l)
place_stands l [] h = absurd (false≢true h)
place_stands l (k ∷ ks) h = go (int_eq l k) refl h (place_stands l ks)
  where
    go : (b : Bool) → int_eq l k ≡ b → (b || is_in int_eq l ks) ≡ true → (is_in int_eq l ks ≡ true → (place_in l ks < length ks) × (get_or ks (place_in l ks) (pos 0) ≡ l)) →
        ((if b then zero else suc (place_in l ks)) < length (k ∷ ks)) × (get_or (k ∷ ks) (if b then zero else suc (place_in l ks)) (pos 0) ≡ l)
    go true q t ih = (omega arith, sym (label_test.equal l k q))
    go false q t ih = let r = ih t in (omega (arith, r.0), r.1)

-- one end of a line among ends, and its label among theirs
named_one : (e : End) (es : List End) → is_in same_end e es ≡ true → is_in int_eq e.label (names es) ≡ true
named_one e [] h = absurd (false≢true h)
named_one e (d ∷ es) h = go (int_eq e.label d.label) (same_bool e.inward d.inward) h (named_one e es)
  where
    go : (b c : Bool) → ((b && c) || is_in same_end e es) ≡ true → (is_in same_end e es ≡ true → is_in int_eq e.label (names es) ≡ true) → (b || is_in int_eq e.label (names es)) ≡ true
    go true c k ih = refl
    go false c k ih = ih k

abbrev end_of : ℤ → Bool → End
end_of l i = record { label = l; inward = i }

-- where both ends of a line are among ends, its label stands again behind its first place
again : (l : ℤ) (es : List End) → is_in same_end (end_of l true) es ≡ true → is_in same_end (end_of l false) es ≡ true → is_in int_eq l (drop (suc (place_in l (names es))) (names es)) ≡ true
again l [] h k = absurd (false≢true h)
again l (e ∷ es) h k = go (int_eq l e.label) e.inward h k (again l es)
  where
    go : (b i : Bool) → ((b && same_bool true i) || is_in same_end (end_of l true) es) ≡ true → ((b && same_bool false i) || is_in same_end (end_of l false) es) ≡ true →
        (is_in same_end (end_of l true) es ≡ true → is_in same_end (end_of l false) es ≡ true → is_in int_eq l (drop (suc (place_in l (names es))) (names es)) ≡ true) →
        is_in int_eq l (drop (suc (if b then zero else suc (place_in l (names es)))) (e.label ∷ names es)) ≡ true
    go true true h k ih = named_one (end_of l false) es k
    go true false h k ih = named_one (end_of l true) es h
    go false i h k ih = ih h k

-- an element of what is left behind a place
behind_read : (ls : List ℤ) (n i : ℕ) (d : ℤ) → get_or (drop n ls) i d ≡ get_or ls (n + i) d
behind_read ls n i d = get_or-drop n ls i d

behind_within : (ls : List ℤ) (n i : ℕ) → i < length (drop n ls) → n + i < length ls
behind_within ls n i h = let e : length (drop n ls) ≡ length ls - n = length-drop n ls in omega (arith, e, h)

-- the ends of bonds
later_end : (b : Bond) (bs : List Bond) (e : End) → is_in same_end e (pairs_of bs) ≡ true → is_in same_end e (pairs_of (b ∷ bs)) ≡ true
later_end b bs e h = go (same_end e (end_of b.label true)) (same_end e (end_of b.label false))
  where
    go : (p q : Bool) → (p || (q || is_in same_end e (pairs_of bs))) ≡ true
    go true q = refl
    go false true = refl
    go false false = h

first_end : (b : Bond) (bs : List Bond) → is_in same_end (end_of b.label true) (pairs_of (b ∷ bs)) ≡ true
first_end b bs = ap (λ p. p || (same_end (end_of b.label true) (end_of b.label false) || is_in same_end (end_of b.label true) (pairs_of bs))) (end_test.itself (end_of b.label true))

second_end : (b : Bond) (bs : List Bond) → is_in same_end (end_of b.label false) (pairs_of (b ∷ bs)) ≡ true
second_end b bs = go (same_end (end_of b.label false) (end_of b.label true)) (end_test.itself (end_of b.label false))
  where
    go : (p : Bool) → same_end (end_of b.label false) (end_of b.label false) ≡ true → (p || (same_end (end_of b.label false) (end_of b.label false) || is_in same_end (end_of b.label false) (pairs_of bs))) ≡ true
    go true e = refl
    go false e = ap (λ q. q || is_in same_end (end_of b.label false) (pairs_of bs)) e

-- the couples of places of the labels of bonds that are within one tensor
module _ (es : List End) where
  couple_named : (l : ℤ) → is_in same_end (end_of l true) es ≡ true → is_in same_end (end_of l false) es ≡ true → let c : ℕ × ℕ = couple_in l (names es) in
      (c.0 < length (names es)) × (c.1 < length (names es)) × (c.0 ≢ c.1) × (get_or (names es) c.0 (pos 0) ≡ l) × (get_or (names es) c.1 (pos 0) ≡ l)
  couple_named l h k =
      let first = place_stands l (names es) (named_one (end_of l true) es h) in
      let second = place_stands l (drop (suc (place_in l (names es))) (names es)) (again l es h k) in
      let i : ℕ = place_in l (names es) in
      let j : ℕ = place_in l (drop (suc (place_in l (names es))) (names es)) in (
        first.0,
        behind_within (names es) (suc (place_in l (names es))) (place_in l (drop (suc (place_in l (names es))) (names es))) second.0,
        apart (place_in l (names es)) (place_in l (drop (suc (place_in l (names es))) (names es))),
        first.1,
        sym (behind_read (names es) (suc (place_in l (names es))) (place_in l (drop (suc (place_in l (names es))) (names es))) (pos 0)) ∙ second.1,
      )
    where
      apart : (i j : ℕ) → i ≢ suc i + j
      apart i j e = omega (arith, e)

  pub couples_named : (bonds : List Bond) → ((e : End) → is_in same_end e (pairs_of bonds) ≡ true → is_in same_end e es ≡ true) → AreCouplesOf (names es) bonds (coupled_labels (names es) (labels bonds))
  couples_named [] within = record { first = refl; second = refl; within = all-nil (λ (c : ℕ × ℕ). (c.0 < length (names es)) × (c.1 < length (names es)) × (c.0 ≢ c.1)) }
  couples_named (b ∷ bs) within =
      let ih = couples_named bs (λ e h. within e (later_end b bs e h)) in
      let c = couple_named b.label (within (end_of b.label true) (first_end b bs)) (within (end_of b.label false) (second_end b bs)) in
      record {
        first = ap₂ ◌∷◌ c.3 ih.first;
        second = ap₂ ◌∷◌ c.4 ih.second;
        within = all-cons (λ (c : ℕ × ℕ). (c.0 < length (names es)) × (c.1 < length (names es)) × (c.0 ≢ c.1)) (couple_in b.label (names es)) (coupled_labels (names es) (labels bs)) (c.0, c.1, c.2) ih.within;
      }

  -- all labels of bonds within one tensor stand on it
  pub all_stand : (bonds : List Bond) → ((e : End) → is_in same_end e (pairs_of bonds) ≡ true → is_in same_end e es ≡ true) → All (λ l. is_in int_eq l (names es) ≡ true) (labels bonds)
  all_stand [] within = all-nil (λ l. is_in int_eq l (names es) ≡ true)
  all_stand (b ∷ bs) within =
      all-cons (λ l. is_in int_eq l (names es) ≡ true) b.label (labels bs) (named_one (end_of b.label true) es (within (end_of b.label true) (first_end b bs)))
      (all_stand bs (λ e h. within e (later_end b bs e h)))

-- places from the first one on
pub from_first : (l : ℤ) (ls : List ℤ) → 0 + place_in l (drop 0 ls) ≡ place_in l ls
from_first l ls = omega arith

-- the couple of places by a first place and what is behind it
pub couple_is : (l : ℤ) (ls : List ℤ) (i j : ℕ) → i ≡ place_in l ls → j ≡ (i + 1) + place_in l (drop (i + 1) ls) → (i, j) ≡ couple_in l ls
couple_is l ls i j e k =
    ap₂ (λ (x y : ℕ). (x, y)) e
    (k ∙ ap (λ n. n + place_in l (drop n ls)) (add-one i) ∙ ap (λ n. suc n + place_in l (drop (suc n) ls)) e)

pub couple_room : (l : ℤ) (ls : List ℤ) (i : ℕ) → i ≡ place_in l ls → is_in int_eq l ls ≡ true → i + 1 ≤ length ls
couple_room l ls i e h = let p = place_stands l ls h in omega (arith, e, p.0)
