-- The word of two tensors' legs: its coupled places are the shared legs, and its open places are the legs that are left.
use Rattle.std.proofs.Common.{◌≡◌, ◌<◌, ℕ, zero, suc, ◌+◌, ◌==◌, Bool, true, false, not, ◌||◌, ◌&&◌, cond, None, List, [], ◌∷◌, ◌++◌, refl, sym, ◌∙◌, ap, ap₂, subst, map, filter, length, get_or, zero-add, append-nil, eqb-true, arith}
use Rattle.std.specs.List.{All, range_with_len}
use Rattle.std.proofs.lemmas.List.{map-append, length-append, get_or-append-add}
use Rattle.std.proofs.lemmas.List.Elements.{filter-append, All-map}
use Rattle.std.proofs.Math.ListN.{get_or-append}
use Rattle.qn_sign.specs.Sign.{is_in, IsDistinct}
use Rattle.qn_sign.specs.Positions.{positions}
use Rattle.qn_index.specs.Legs.{LegValue, Meets}
use Rattle.qn_value.specs.Local.{no_leg, places_of, is_coupled, picked, IsCouple, IsCoupling, open_legs, shared_couples}
use Rattle.qn_value.specs.Tensors.{same_values}
use Rattle.qn_block.specs.Blocked.{BlockedValue, tensor_of}
use Rattle.qn_match.specs.Pairs.{is_first, is_second, marks, unmarked, joined, agree, give, IsShared}
use Rattle.qn_strides.specs.Strides.{open_places, couples_meet}
use Rattle.qn_strides.proofs.Lines.{open_at}
use Rattle.qn_strides.proofs.Opens.{left_legs}
use Rattle.qn_kernel.specs.Sources.{couples_of}
use Rattle.qn_pair.specs.Steps.{result_legs}
use Rattle.qn_match.proofs.OpenLegs.{shifted}
use Rattle.qn_value.proofs.PlacedLemmas.{all_others}
use Rattle.qn_value.proofs.PlacedLemmas.{all_first}
use Rattle.qn_block.proofs.Dagger.{same_flips}
use Rattle.qn_kernel.proofs.Places.{range_append}

apart : (i j : ℕ) → (i ≡ j → ⊥) → (i == j) ≡ false
apart i j h = go (i == j) refl
  where
    go : (b : Bool) → (i == j) ≡ b → b ≡ false
    go true e = absurd (h (eqb-true i j e))
    go false e = refl

-- a place of the first tensor is coupled where its leg is shared
pub coupled_first : (n : ℕ) (ps : List (ℕ × ℕ)) (i : ℕ) → i < n → is_coupled (couples_of n ps) i ≡ is_first ps i
coupled_first n [] i l = refl
coupled_first n (p ∷ ps) i l =
    ap (λ b. (i == p.0) || (b || is_coupled (couples_of n ps) i)) (apart i (n + p.1) (λ e. absurd (omega (arith, e, l))))
    ∙ ap (λ b. (i == p.0) || b) (coupled_first n ps i l)

pub coupled_second : (n : ℕ) (ps : List (ℕ × ℕ)) (j : ℕ) → All (λ p. p.0 < n) ps → is_coupled (couples_of n ps) (n + j) ≡ is_second ps j
coupled_second n [] j h = refl
coupled_second n (p ∷ ps) j h =
    let l : p.0 < n = all_first (λ (q : ℕ × ℕ). q.0 < n) p ps h in
    ap (λ b. b || ((n + j == n + p.1) || is_coupled (couples_of n ps) (n + j))) (apart (n + j) p.0 (λ e. absurd (omega (arith, e, l))))
    ∙ ap₂ (λ a b. a || b) (shifted n j p.1) (coupled_second n ps j (all_others (λ (q : ℕ × ℕ). q.0 < n) p ps h))

unmarked_range : {A : Type 0} (d : A) (g : ℕ → A) (test mark : ℕ → Bool) (a b : ℕ) (xs : List A) → ((k : ℕ) → k < length xs → g (a + k) ≡ get_or xs k d) → ((k : ℕ) → k < length xs → test (a + k) ≡ mark (b + k)) →
    unmarked (map mark (range_with_len b (length xs))) xs ≡ map g (filter (λ i. not (test i)) (range_with_len a (length xs)))
unmarked_range d g test mark a b [] h k = refl
unmarked_range {A} d g test mark a b (x ∷ xs) h k =
    go (test a) refl (mark b) refl (unmarked_range d g test mark (a + 1) (b + 1) xs (λ j l. ap g (next a j) ∙ h (suc j) (omega arith)) (λ j l. ap test (next a j) ∙ k (suc j) (omega arith) ∙ ap mark (sym (next b j))))
  where
    next : (c j : ℕ) → c + 1 + j ≡ c + suc j
    next c j = omega arith

    here : (c : ℕ) → c ≡ c + 0
    here c = omega arith

    same : test a ≡ mark b
    same = ap test (here a) ∙ k 0 (omega arith) ∙ ap mark (sym (here b))

    value : g a ≡ x
    value = ap g (here a) ∙ h 0 (omega arith)

    tail : List A
    tail = unmarked (map mark (range_with_len (b + 1) (length xs))) xs

    go : (p : Bool) → test a ≡ p → (q : Bool) → mark b ≡ q → tail ≡ map g (filter (λ i. not (test i)) (range_with_len (a + 1) (length xs))) →
        cond (mark b) tail (x ∷ tail) ≡ map g (cond (not (test a)) (a ∷ filter (λ i. not (test i)) (range_with_len (a + 1) (length xs))) (filter (λ i. not (test i)) (range_with_len (a + 1) (length xs))))
    go true e q f ih = ap (λ c. cond c tail (x ∷ tail)) (sym same ∙ e) ∙ ih ∙ sym (ap (λ c. map g (cond (not c) (a ∷ filter (λ i. not (test i)) (range_with_len (a + 1) (length xs))) (filter (λ i. not (test i)) (range_with_len (a + 1) (length xs))))) e)
    go false e q f ih =
        ap (λ c. cond c tail (x ∷ tail)) (sym same ∙ e) ∙ ap₂ (λ y ys. y ∷ ys) (sym value) ih
        ∙ sym (ap (λ c. map g (cond (not c) (a ∷ filter (λ i. not (test i)) (range_with_len (a + 1) (length xs))) (filter (λ i. not (test i)) (range_with_len (a + 1) (length xs))))) e)

-- what stands at the open places is what is left of the two lists
pub picked_joined : {A : Type 0} (d : A) (xs ys : List A) (ps : List (ℕ × ℕ)) → All (λ p. p.0 < length xs) ps →
    picked d (xs ++ ys) (open_places (couples_of (length xs) ps) (length (xs ++ ys))) ≡ joined ps xs ys
picked_joined {A} d xs ys ps h =
    ap (λ k. map g (filter stays (positions k))) (length-append xs ys)
    ∙ ap (λ ks. map g (filter stays ks)) (range_append 0 (length xs) (length ys) ∙ ap (λ k. positions (length xs) ++ range_with_len k (length ys)) (zero-add (length xs)))
    ∙ ap (map g) (filter-append stays (positions (length xs)) (range_with_len (length xs) (length ys)))
    ∙ map-append g (filter stays (positions (length xs))) (filter stays (range_with_len (length xs) (length ys)))
    ∙ sym (ap₂ (λ us vs. us ++ vs) one two)
  where
    g : ℕ → A
    g k = get_or (xs ++ ys) k d

    stays : ℕ → Bool
    stays i = not (is_coupled (couples_of (length xs) ps) i)

    one : unmarked (marks (is_first ps) (length xs)) xs ≡ map (λ k. get_or (xs ++ ys) k d) (filter (λ i. not (is_coupled (couples_of (length xs) ps) i)) (positions (length xs)))
    one = unmarked_range d (λ k. get_or (xs ++ ys) k d) (is_coupled (couples_of (length xs) ps)) (is_first ps) 0 0 xs
        (λ k l. ap (λ m. get_or (xs ++ ys) m d) (zero-add k) ∙ get_or-append xs ys d k l)
        (λ k l. coupled_first (length xs) ps (0 + k) (omega (arith, l)))

    two : unmarked (marks (is_second ps) (length ys)) ys ≡ map (λ k. get_or (xs ++ ys) k d) (filter (λ i. not (is_coupled (couples_of (length xs) ps) i)) (range_with_len (length xs) (length ys)))
    two = unmarked_range d (λ k. get_or (xs ++ ys) k d) (is_coupled (couples_of (length xs) ps)) (is_second ps) (length xs) 0 ys
        (λ k l. get_or-append-add xs ys k d)
        (λ k l. coupled_second (length xs) ps k h ∙ ap (is_second ps) (sym (zero-add k)))

-- the couples meet in two tuples where the tuples agree on the shared legs
pub couples_agree : (t u : List ℕ) (ps : List (ℕ × ℕ)) → All (λ p. p.0 < length t) ps → couples_meet (couples_of (length t) ps) (t ++ u) ≡ agree ps t u
couples_agree t u [] h = refl
couples_agree t u (p ∷ ps) h =
    ap₂ (λ a b. a && b)
    (ap₂ (λ v w. v == w) (get_or-append t u 0 p.0 (all_first (λ (q : ℕ × ℕ). q.0 < length t) p ps h)) (get_or-append-add t u p.1 0))
    (couples_agree t u ps (all_others (λ (q : ℕ × ℕ). q.0 < length t) p ps h))

-- two blocks are multiplied for a tuple where their tuples give it
pub gives_are : (n m : ℕ) (ps : List (ℕ × ℕ)) (ss t u : List ℕ) → length t ≡ n → length u ≡ m → All (λ p. p.0 < n) ps →
    (couples_meet (couples_of n ps) (t ++ u) && same_values ss (picked 0 (t ++ u) (open_places (couples_of n ps) (n + m)))) ≡ give ps ss t u
gives_are n m ps ss t u e f h =
    let k : All (λ p. p.0 < length t) ps = subst (λ j. All (λ (p : ℕ × ℕ). p.0 < j) ps) (sym e) h in
    subst (λ j. (couples_meet (couples_of j ps) (t ++ u) && same_values ss (picked 0 (t ++ u) (open_places (couples_of j ps) (j + m)))) ≡ give ps ss t u) e
    (subst (λ j. (couples_meet (couples_of (length t) ps) (t ++ u) && same_values ss (picked 0 (t ++ u) (open_places (couples_of (length t) ps) (length t + j)))) ≡ give ps ss t u) f
    (ap (λ j. couples_meet (couples_of (length t) ps) (t ++ u) && same_values ss (picked 0 (t ++ u) (open_places (couples_of (length t) ps) j))) (sym (length-append t u))
    ∙ ap₂ (λ a b. a && b) (couples_agree t u ps k) (ap (same_values ss) (picked_joined 0 t u ps k) ∙ same_flips ss (joined ps t u))))

-- ---- the couples

distinct_firsts : (n : ℕ) (ps : List (ℕ × ℕ)) (i : ℕ) → is_in ◌==◌ i (map (λ (p : ℕ × ℕ). p.0) ps) ≡ is_first ps i
distinct_firsts n [] i = refl
distinct_firsts n (p ∷ ps) i = ap (λ b. (i == p.0) || b) (distinct_firsts n ps i)

distinct_seconds : (n : ℕ) (ps : List (ℕ × ℕ)) (i : ℕ) → is_in ◌==◌ i (map (λ (p : ℕ × ℕ). p.1) ps) ≡ is_second ps i
distinct_seconds n [] i = refl
distinct_seconds n (p ∷ ps) i = ap (λ b. (i == p.1) || b) (distinct_seconds n ps i)

distinct_couples : (n : ℕ) (ps : List (ℕ × ℕ)) → All (λ p. p.0 < n) ps → IsDistinct ◌==◌ (map (λ (p : ℕ × ℕ). p.0) ps) → IsDistinct ◌==◌ (map (λ (p : ℕ × ℕ). p.1) ps) → IsDistinct ◌==◌ (places_of (couples_of n ps))
distinct_couples n [] h d e = tt
distinct_couples n (p ∷ ps) h d e = (
  ap₂ (λ a b. a || b) (apart p.0 (n + p.1) (λ f. absurd (omega (arith, f, below)))) (coupled_first n ps p.0 below ∙ sym (distinct_firsts n ps p.0) ∙ d.0),
  (
    coupled_second n ps p.1 (all_others (λ (q : ℕ × ℕ). q.0 < n) p ps h) ∙ sym (distinct_seconds n ps p.1) ∙ e.0,
    distinct_couples n ps (all_others (λ (q : ℕ × ℕ). q.0 < n) p ps h) d.1 e.1,
  ),
)
  where
    below : p.0 < n
    below = all_first (λ (q : ℕ × ℕ). q.0 < n) p ps h

-- the shared legs are couples of the word
pub coupling : (ks ls : List LegValue) (ps : List (ℕ × ℕ)) → IsShared ks ls ps → IsCoupling (ks ++ ls) (couples_of (length ks) ps)
coupling ks ls ps h = record {
  meet = All-map (IsCouple (ks ++ ls)) (λ (p : ℕ × ℕ). (p.0, length ks + p.1)) ps (λ i d l. record {
    first = omega (arith, h.first i d l, length-append ks ls);
    second = omega (arith, h.second i d l, length-append ks ls);
    meets =
        subst (λ k. Meets k (get_or (ks ++ ls) (length ks + (get_or ps i d).1) no_leg) None) (sym (get_or-append ks ls no_leg (get_or ps i d).0 (h.first i d l)))
        (subst (λ k. Meets (get_or ks (get_or ps i d).0 no_leg) k None) (sym (get_or-append-add ks ls (get_or ps i d).1 no_leg)) (h.meet i d l));
  });
  distinct = distinct_couples (length ks) ps h.first h.first_once h.second_once;
}

-- the legs of the result, by the word and by what is left of each tensor
pub legs_left : (ks ls : List LegValue) (ps : List (ℕ × ℕ)) → IsShared ks ls ps → left_legs (ks ++ ls) (couples_of (length ks) ps) ≡ joined ps ks ls
legs_left ks ls ps h = picked_joined no_leg ks ls ps h.first

pub result_is : (a b : BlockedValue) (ps : List (ℕ × ℕ)) → result_legs a b ps ≡ left_legs (a.legs ++ b.legs) (couples_of (length a.legs) ps)
result_is a b ps =
    subst (λ gs. open_legs (tensor_of a ∷ tensor_of b ∷ []) (shared_couples (tensor_of a) ps) ≡ left_legs (a.legs ++ gs) (couples_of (length a.legs) ps)) (append-nil b.legs)
    (open_at (a.legs ++ (b.legs ++ [])) (couples_of (length a.legs) ps))
