-- How often a build multiplies: over the states left of a site, and over the sites.
use Rattle.std.proofs.Common.{◌≡◌, ℕ, zero, suc, ◌+◌, ◌*◌, ◌<◌, ◌≤◌, ◌^◌, ◌==◌, Bool, true, false, ◌||◌, cond, List, [], ◌∷◌, length, refl, sym, ◌∙◌, ap, ap₂, subst, arith}
use Rattle.std.specs.Prelude.{nat_lt}
use Rattle.std.proofs.lemmas.Bool.Decides.{nat_tests}
use Rattle.qn_sign.specs.Sign.{is_in}
use Rattle.qn_value.specs.Magnitudes.{total_below}
use Rattle.qn_opsum.specs.Strings.{Factor, Sites}
use Rattle.qn_opsum.specs.Sums.{SumValue}
use Rattle.qn_auto.specs.Automaton.{Stage, Term, after, begin, enter, next, same_stage, stage, stages, to_come}
use Rattle.qn_auto.specs.Automaton.Stage.{not_begun, rest, done}
use Rattle.qn_auto.specs.Building.{cubes, total_over}
use Rattle.qn_auto.specs.Flux.{ops_at}
use Rattle.qn_auto.specs.SumAutomaton.{made_of, sites_in, state_lower, terms_in}
use Rattle.qn_auto.proofs.Stages.{in-stages}
use Rattle.qn_mpo.specs.Rows.{begun_steps, steps_at, steps_from}
use Rattle.qn_value.proofs.MagnitudeLemmas.{below_zero}

-- ---- sums over lists

over_less : {X : Type 0} (f g : X → ℕ) → ((x : X) → f x ≤ g x) → (xs : List X) → total_over xs f ≤ total_over xs g
over_less f g h [] = omega arith
over_less f g h (x ∷ xs) = both (f x) (g x) (total_over xs f) (total_over xs g) (h x) (over_less f g h xs)
  where
    both : (a b c d : ℕ) → a ≤ b → c ≤ d → a + c ≤ b + d
    both a b c d p q = omega arith

over_both : {X : Type 0} (f g h : X → ℕ) → ((x : X) → f x + g x ≤ h x) → (xs : List X) → total_over xs f + total_over xs g ≤ total_over xs h
over_both f g h k [] = omega arith
over_both f g h k (x ∷ xs) = all (f x) (g x) (h x) (total_over xs f) (total_over xs g) (total_over xs h) (k x) (over_both f g h k xs)
  where
    all : (a b c d e i : ℕ) → a + b ≤ c → d + e ≤ i → (a + d) + (b + e) ≤ c + i
    all a b c d e i p q = omega arith

-- ---- over the states left of a site

-- what a state of a term that has begun costs
abbrev later : (Stage → ℕ) → Stage → ℕ
later g not_begun = 0
later g (rest fs) = g (rest fs)
later g done = g done

over_enter : (earlier : Stage → Stage → Bool) (g : Stage → ℕ) (x : Stage) (ys : List Stage) → total_over (enter earlier x ys) g ≡ g x + total_over ys g
over_enter earlier g x [] = refl
over_enter earlier g x (y ∷ ys) = at (earlier x y) (over_enter earlier g x ys)
  where
    turn : (a b c d : ℕ) → c ≡ a + d → b + c ≡ a + (b + d)
    turn a b c d e = omega arith

    at : (b : Bool) → total_over (enter earlier x ys) g ≡ g x + total_over ys g → total_over (cond b (x ∷ y ∷ ys) (y ∷ enter earlier x ys)) g ≡ g x + (g y + total_over ys g)
    at true e = refl
    at false e = turn (g x) (g y) (total_over (enter earlier x ys) g) (total_over ys g) e

-- equal states count once: each term has one, and not begun counts once at most
over_stages : (earlier : Stage → Stage → Bool) (g : Stage → ℕ) (ws : List Term) (i : ℕ) →
    total_over (stages earlier ws i) g ≤ cond (is_in same_stage not_begun (stages earlier ws i)) (g not_begun) 0 + total_over ws (λ w. later g (stage i w.factors))
over_stages earlier g [] i = omega arith
over_stages earlier g (w ∷ ws) i =
    subst (λ b. total_over (stages earlier (w ∷ ws) i) g ≤ cond b (g not_begun) 0 + (later g (stage i w.factors) + rests)) (sym (in-stages earlier not_begun w ws i))
    (at (stage i w.factors) (is_in same_stage (stage i w.factors) ys) refl (over_stages earlier g ws i))
  where
    ys : List Stage
    ys = stages earlier ws i

    rests : ℕ
    rests = total_over ws (λ w. later g (stage i w.factors))

    more : (t a r l : ℕ) → t ≤ a + r → t ≤ a + (l + r)
    more t a r l h = omega arith

    none : (t a r : ℕ) → t ≤ 0 + r → a + t ≤ a + (0 + r)
    none t a r h = omega arith

    one : (t a r l : ℕ) → t ≤ a + r → l + t ≤ a + (l + r)
    one t a r l h = omega arith

    wider : (t a r l : ℕ) (b : Bool) → t ≤ cond b a 0 + r → t ≤ a + (l + r)
    wider t a r l true h = omega arith
    wider t a r l false h = omega arith

    entered : (x : Stage) (t : ℕ) → t ≡ g x + total_over ys g → (k : ℕ) → g x + total_over ys g ≤ k → t ≤ k
    entered x t e k h = omega arith

    at : (x : Stage) (b : Bool) → is_in same_stage x ys ≡ b → total_over ys g ≤ cond (is_in same_stage not_begun ys) (g not_begun) 0 + rests →
        total_over (cond b ys (enter earlier x ys)) g ≤ cond (same_stage not_begun x || is_in same_stage not_begun ys) (g not_begun) 0 + (later g x + rests)
    at not_begun true e h = wider (total_over ys g) (g not_begun) rests 0 (is_in same_stage not_begun ys) h
    at not_begun false e h =
        entered not_begun (total_over (enter earlier not_begun ys) g) (over_enter earlier g not_begun ys) (g not_begun + (0 + rests))
        (none (total_over ys g) (g not_begun) rests (subst (λ c. total_over ys g ≤ cond c (g not_begun) 0 + rests) e h))
    at (rest fs) true e h = more (total_over ys g) (cond (is_in same_stage not_begun ys) (g not_begun) 0) rests (g (rest fs)) h
    at (rest fs) false e h =
        entered (rest fs) (total_over (enter earlier (rest fs) ys) g) (over_enter earlier g (rest fs) ys) (cond (is_in same_stage not_begun ys) (g not_begun) 0 + (g (rest fs) + rests))
        (one (total_over ys g) (cond (is_in same_stage not_begun ys) (g not_begun) 0) rests (g (rest fs)) h)
    at done true e h = more (total_over ys g) (cond (is_in same_stage not_begun ys) (g not_begun) 0) rests (g done) h
    at done false e h =
        entered done (total_over (enter earlier done ys) g) (over_enter earlier g done ys) (cond (is_in same_stage not_begun ys) (g not_begun) 0 + (g done + rests))
        (one (total_over ys g) (cond (is_in same_stage not_begun ys) (g not_begun) 0) rests (g done) h)

-- what a term makes the build multiply at site j: for each operator there the cube of the dimension, and once the square where it begins
abbrev term_steps : Sites → ℕ → Term → ℕ
term_steps S j w = length (ops_at j w.factors) * S.dim j ^ 3 + cond (begin w.factors == j) (S.dim j ^ 2) 0

begun_within : (S : Sites) (j : ℕ) (w : Term) → begun_steps S j w ≤ term_steps S j w
begun_within S j w = at (begin w.factors == j) (length (ops_at j w.factors) * S.dim j ^ 3) (S.dim j ^ 2)
  where
    at : (b : Bool) (a c : ℕ) → cond b (a + c) 0 ≤ a + cond b c 0
    at true a c = omega arith
    at false a c = omega arith

-- the operators on a site are among those after an earlier one
ops_after : (i k : ℕ) → i < k → (fs : List Factor) → ops_at k (after i fs) ≡ ops_at k fs
ops_after i k lt [] = refl
ops_after i k lt (f ∷ fs) = at (nat_lt i f.site) refl (ops_after i k lt fs)
  where
    other : (s : ℕ) → nat_lt i s ≡ false → (s == k) ≡ false
    other s e = grind (arith, nat_tests)

    at : (b : Bool) → nat_lt i f.site ≡ b → ops_at k (after i fs) ≡ ops_at k fs → ops_at k (cond b (f ∷ after i fs) (after i fs)) ≡ cond (f.site == k) (f.op ∷ ops_at k fs) (ops_at k fs)
    at true e h = ap (λ os. cond (f.site == k) (f.op ∷ os) os) h
    at false e h = h ∙ sym (ap (λ b. cond b (f.op ∷ ops_at k fs) (ops_at k fs)) (other f.site e))

-- the state of a term that has begun, and the term where it begins, cost what the term does
one_term : (S : Sites) (ws : List Term) (i : ℕ) (w : Term) → later (steps_from S ws (suc i)) (stage i w.factors) + begun_steps S (suc i) w ≤ term_steps S (suc i) w
one_term S ws i w = at (nat_lt i (begin w.factors)) refl
  where
    c : ℕ
    c = S.dim (suc i) ^ 3

    q : ℕ
    q = S.dim (suc i) ^ 2

    not_here : (b : ℕ) → nat_lt i b ≡ false → (b == suc i) ≡ false
    not_here b e = grind (arith, nat_tests)

    least : (n : ℕ) → 0 ≤ n
    least n = omega arith

    same : (n : ℕ) → n ≤ n
    same n = omega arith

    listed : (fs : List Factor) → later (steps_from S ws (suc i)) (to_come fs) ≤ length (ops_at (suc i) fs) * c
    listed [] = least (length (ops_at (suc i) []) * c)
    listed (f ∷ fs) = same (length (ops_at (suc i) (f ∷ fs)) * c)

    zero_first : (a b : ℕ) → a ≤ b → 0 + a ≤ b
    zero_first a b h = omega arith

    none_begun : (l a : ℕ) (b : Bool) → b ≡ false → l ≤ a → l + cond b (a + q) 0 ≤ a + cond b q 0
    none_begun l a true e h = cc
    none_begun l a false e h = omega arith

    before : (i k : ℕ) → i < suc i
    before i k = omega arith

    at : (b : Bool) → nat_lt i (begin w.factors) ≡ b → later (steps_from S ws (suc i)) (cond b not_begun (next i w.factors)) + begun_steps S (suc i) w ≤ term_steps S (suc i) w
    at true e = zero_first (begun_steps S (suc i) w) (term_steps S (suc i) w) (begun_within S (suc i) w)
    at false e =
        none_begun (later (steps_from S ws (suc i)) (next i w.factors)) (length (ops_at (suc i) w.factors) * c) (begin w.factors == suc i) (not_here (begin w.factors) e)
        (subst (λ os. later (steps_from S ws (suc i)) (next i w.factors) ≤ length os * c) (ops_after i (suc i) (before i i) w.factors) (listed (after i w.factors)))

-- the transitions at a site cost what the terms do there
pub site_steps : (v : SumValue) (j : ℕ) → steps_at v j ≤ total_over (terms_in v) (term_steps (sites_in v) j)
site_steps v zero = last (total_over (terms_in v) (begun_steps (sites_in v) 0)) (total_over (terms_in v) (term_steps (sites_in v) 0)) (over_less (begun_steps (sites_in v) 0) (term_steps (sites_in v) 0) (begun_within (sites_in v) 0) (terms_in v))
  where
    last : (a b : ℕ) → a ≤ b → a + 0 ≤ b
    last a b h = omega arith
site_steps v (suc i) =
    joined (steps_at v (suc i)) (total_over ws (begun_steps S (suc i))) (total_over ws (λ w. later g (stage i w.factors))) (total_over ws (term_steps S (suc i))) (is_in same_stage not_begun (stages (state_lower v) ws i))
    (over_stages (state_lower v) g ws i) (over_both (λ w. later g (stage i w.factors)) (begun_steps S (suc i)) (term_steps S (suc i)) (one_term S ws i) ws)
  where
    S : Sites
    S = sites_in v

    ws : List Term
    ws = terms_in v

    g : Stage → ℕ
    g = steps_from S ws (suc i)

    joined : (t a l k : ℕ) (b : Bool) → t ≤ cond b a 0 + l → l + a ≤ k → t ≤ k
    joined t a l k true h m = omega arith
    joined t a l k false h m = omega arith

-- ---- over the sites

below_add : (n : ℕ) (f g : ℕ → ℕ) → total_below n (λ j. f j + g j) ≡ total_below n f + total_below n g
below_add zero f g = refl
below_add (suc n) f g = four (total_below n (λ j. f j + g j)) (total_below n f) (total_below n g) (f n) (g n) (below_add n f g)
  where
    four : (t a b c d : ℕ) → t ≡ a + b → t + (c + d) ≡ (a + c) + (b + d)
    four t a b c d e = omega arith

below_less : (n : ℕ) (f g : ℕ → ℕ) → ((j : ℕ) → f j ≤ g j) → total_below n f ≤ total_below n g
below_less zero f g h = omega arith
below_less (suc n) f g h = both (total_below n f) (total_below n g) (f n) (g n) (below_less n f g h) (h n)
  where
    both : (a b c d : ℕ) → a ≤ b → c ≤ d → a + c ≤ b + d
    both a b c d p q = omega arith

below_over : {X : Type 0} (n : ℕ) (f : ℕ → X → ℕ) (xs : List X) → total_below n (λ j. total_over xs (f j)) ≡ total_over xs (λ x. total_below n (λ j. f j x))
below_over n f [] = below_zero n (λ j. 0) (λ j. refl)
below_over n f (x ∷ xs) = below_add n (λ j. f j x) (λ j. total_over xs (f j)) ∙ ap (λ t. total_below n (λ j. f j x) + t) (below_over n f xs)

-- one place is picked out of a sum
pick_none : (n s : ℕ) (f : ℕ → ℕ) → n ≤ s → total_below n (λ j. cond (s == j) (f j) 0) ≡ 0
pick_none zero s f le = refl
pick_none (suc n) s f le = ap₂ (λ a b. a + b) (pick_none n s f (less n s le)) (ap (λ b. cond b (f n) 0) (other n s le))
  where
    less : (n s : ℕ) → suc n ≤ s → n ≤ s
    less n s h = omega arith

    other : (n s : ℕ) → suc n ≤ s → (s == n) ≡ false
    other n s h = grind (arith, nat_tests)

pick : (n s : ℕ) (f : ℕ → ℕ) → total_below n (λ j. cond (s == j) (f j) 0) ≤ f s
pick zero s f = omega arith
pick (suc n) s f = at (s == n) refl (pick n s f)
  where
    equal : (n s : ℕ) → (s == n) ≡ true → n ≡ s
    equal n s e = grind (arith, nat_tests)

    own : (t a b : ℕ) → t ≡ 0 → a ≡ b → t + a ≤ b
    own t a b p q = omega arith

    less : (t b : ℕ) → t ≤ b → t + 0 ≤ b
    less t b h = omega arith

    reach : (n s : ℕ) → n ≡ s → n ≤ s
    reach n s e = omega arith

    at : (b : Bool) → (s == n) ≡ b → total_below n (λ j. cond (s == j) (f j) 0) ≤ f s → total_below n (λ j. cond (s == j) (f j) 0) + cond b (f n) 0 ≤ f s
    at true e h = own (total_below n (λ j. cond (s == j) (f j) 0)) (f n) (f s) (pick_none n s f (reach n s (equal n s e))) (ap f (equal n s e))
    at false e h = less (total_below n (λ j. cond (s == j) (f j) 0)) (f s) h

-- each operator of a term is on one site
ops_once : (n : ℕ) (c : ℕ → ℕ) (fs : List Factor) → total_below n (λ j. length (ops_at j fs) * c j) ≤ total_over fs (λ (f : Factor). c f.site)
ops_once n c [] = nothing (total_below n (λ j. length (ops_at j []) * c j)) (below_zero n (λ j. length (ops_at j []) * c j) (λ j. no (c j)))
  where
    no : (k : ℕ) → 0 * k ≡ 0
    no k = omega arith

    nothing : (t : ℕ) → t ≡ 0 → t ≤ 0
    nothing t e = omega arith
ops_once n c (f ∷ fs) =
    chain (total_below n (λ j. length (ops_at j (f ∷ fs)) * c j)) (total_below n (λ j. cond (f.site == j) (c j) 0)) (total_below n (λ j. length (ops_at j fs) * c j)) (c f.site) (total_over fs (λ (f : Factor). c f.site))
    (below_less n (λ j. length (ops_at j (f ∷ fs)) * c j) (λ j. cond (f.site == j) (c j) 0 + length (ops_at j fs) * c j) (λ j. at (f.site == j) (ops_at j fs) (c j)))
    (below_add n (λ j. cond (f.site == j) (c j) 0) (λ j. length (ops_at j fs) * c j)) (pick n f.site c) (ops_once n c fs)
  where
    chain : (t a b p q : ℕ) {u : ℕ} → t ≤ u → u ≡ a + b → a ≤ p → b ≤ q → t ≤ p + q
    chain t a b p q h e k l = omega arith

    one_more : (n k : ℕ) → suc n * k ≤ k + n * k
    one_more n k = grind arith

    at : (b : Bool) (os : List ℕ) (k : ℕ) → length (cond b (f.op ∷ os) os) * k ≤ cond b k 0 + length os * k
    at true os k = one_more (length os) k
    at false os k = omega arith

cubes_are : (S : Sites) (fs : List Factor) → total_over fs (λ (f : Factor). S.dim f.site ^ 3) ≡ cubes S fs
cubes_are S [] = refl
cubes_are S (f ∷ fs) = ap (λ t. S.dim f.site ^ 3 + t) (cubes_are S fs)

term_total : (n : ℕ) (S : Sites) (w : Term) → total_below n (λ j. term_steps S j w) ≤ cubes S w.factors + S.dim (begin w.factors) ^ 2
term_total n S w =
    chain (total_below n (λ j. term_steps S j w)) (total_below n (λ j. length (ops_at j w.factors) * S.dim j ^ 3)) (total_below n (λ j. cond (begin w.factors == j) (S.dim j ^ 2) 0))
    (total_over w.factors (λ (f : Factor). S.dim f.site ^ 3)) (cubes S w.factors) (S.dim (begin w.factors) ^ 2)
    (below_add n (λ j. length (ops_at j w.factors) * S.dim j ^ 3) (λ j. cond (begin w.factors == j) (S.dim j ^ 2) 0))
    (ops_once n (λ j. S.dim j ^ 3) w.factors) (cubes_are S w.factors) (pick n (begin w.factors) (λ j. S.dim j ^ 2))
  where
    chain : (t a b c d q : ℕ) → t ≡ a + b → a ≤ c → c ≡ d → b ≤ q → t ≤ d + q
    chain t a b c d q e h k l = omega arith

all_steps : (v : SumValue) (n : ℕ) → total_below n (steps_at v) ≤ made_of v
all_steps v n =
    chain (total_below n (steps_at v)) (total_below n (λ j. total_over (terms_in v) (term_steps (sites_in v) j))) (total_over (terms_in v) (λ w. total_below n (λ j. term_steps (sites_in v) j w))) (made_of v)
    (below_less n (steps_at v) (λ j. total_over (terms_in v) (term_steps (sites_in v) j)) (site_steps v))
    (below_over n (λ j w. term_steps (sites_in v) j w) (terms_in v))
    (over_less (λ w. total_below n (λ j. term_steps (sites_in v) j w)) (λ w. cubes (sites_in v) w.factors + (sites_in v).dim (begin w.factors) ^ 2) (term_total n (sites_in v)) (terms_in v))
  where
    chain : (a b c d : ℕ) → a ≤ b → b ≡ c → c ≤ d → a ≤ d
    chain a b c d h e k = omega arith

-- ---- in the build

-- no more is counted than the build may
pub within_made : (v : SumValue) (j old now : ℕ) → now ≤ old + total_below j (steps_at v) → now ≤ old + made_of v
within_made v j old now h = up now old (total_below j (steps_at v)) (made_of v) h (all_steps v j)
  where
    up : (n o t m : ℕ) → n ≤ o + t → t ≤ m → n ≤ o + m
    up n o t m h k = omega arith

pub steps_more : (v : SumValue) (j old now new : ℕ) → now ≤ old + total_below j (steps_at v) → new ≤ now + steps_at v j → new ≤ old + total_below (j + 1) (steps_at v)
steps_more v j old now new h k = subst (λ n. new ≤ old + total_below n (steps_at v)) (next j) (up old now new (total_below j (steps_at v)) (steps_at v j) h k)
  where
    next : (j : ℕ) → suc j ≡ j + 1
    next j = omega arith

    up : (o n m t s : ℕ) → n ≤ o + t → m ≤ n + s → m ≤ o + (t + s)
    up o n m t s h k = omega arith
