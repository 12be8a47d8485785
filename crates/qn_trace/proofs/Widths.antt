-- The shape of a trace is no wider than that of its tensor: each tuple of the open legs is one of all legs, with the first sector at the coupled ones.
use Rattle.std.proofs.Common.{◌≡◌, ◌≢◌, ◌≤◌, ◌<◌, ℕ, zero, suc, ◌+◌, ◌*◌, ◌==◌, ℤ, Bool, true, false, not, ◌||◌, cond, List, [], ◌∷◌, ◌++◌, refl, sym, ◌∙◌, ap, ap₂, subst, map, filter, length, get_or, eq-eqb, zero-add, arith}
use Rattle.std.specs.Cmp.Lexicographic.{pointwise}
use Rattle.std.specs.Ordering.{int_eq}
use Rattle.std.specs.List.{All, flat_map, range_with_len}
use Rattle.std.proofs.lemmas.Bool.{or_left, or_right}
use Rattle.std.proofs.lemmas.List.{get_or_default, length-map}
use Rattle.std.proofs.Math.Nat.{mul-le-mul_left}
use Rattle.qn_sign.specs.Sign.{Perm}
use Rattle.qn_sign.specs.Sign.Perm.{none, keep, swap, then_by}
use Rattle.qn_charge.specs.declared.factor.Factor.{Factor}
use Rattle.qn_charge.specs.Charges.{IsGroup, IsCanonical, zero_charge, sum_charge}
use Rattle.qn_charge.specs.Laws.{associative_charge, commutative_charge, zero_is_neutral, neg_is_inverse, canonical_sum, canonical_zero}
use Rattle.qn_index.specs.declared.leg.Dir.{Dir}
use Rattle.qn_index.specs.declared.leg.Dir.TheVariants.{Out, In}
use Rattle.qn_index.specs.Legs.{LegValue, SectorValue, IsSound, IsLeg, sector_at}
use Rattle.qn_index.specs.Tuples.{IsTuple, net, signed, turned, first, rest, upward, tuples, count, admits}
use Rattle.qn_index.specs.Places.{block_size}
use Rattle.qn_index.specs.Extents.{size_of, entries, IsWithinLimits}
use Rattle.qn_index.proofs.Shapes.{tuple_contained}
use Rattle.qn_value.specs.Labels.{is_inward}
use Rattle.qn_value.specs.Local.{no_leg, is_coupled, IsCouple, IsCoupling, open_from}
use Rattle.qn_value.proofs.CoupledLemmas.{leg_at}
use Rattle.qn_strides.specs.Strides.{goal_couples, open_places}
use Rattle.qn_strides.proofs.Goal.{perm_goal}
use Rattle.qn_strides.proofs.Lines.{open_at}
use Rattle.qn_strides.proofs.Striding.{product_grows}
use Rattle.qn_strides.proofs.Counts.{few_open}
use Rattle.qn_strides.proofs.Opens.{left_legs}

-- the tuple of all legs with the first sector at the coupled ones, the first leg having the place i
abbrev lifted : ℕ → List (ℕ × ℕ) → List LegValue → List ℕ → List ℕ
lifted i cs [] t = []
lifted i cs (l ∷ ls) t = cond (is_coupled cs i) (0 ∷ lifted (suc i) cs ls t) (first t ∷ lifted (suc i) cs ls (rest t))

some_times : (d n m : ℕ) → 0 < d → n ≤ m → n ≤ d * m
some_times d n m p h = omega (arith, h, product_grows d m p)

tail_sound : (l : LegValue) (ls : List LegValue) → All IsSound (l ∷ ls) → All IsSound ls
tail_sound l ls h k d lt = h (suc k) d (omega arith)

head_sound : (l : LegValue) (ls : List LegValue) → All IsSound (l ∷ ls) → IsLeg l.sectors
head_sound l ls h = h 0 l (omega arith)

-- ---- tuples

pub count_open : (i : ℕ) (cs : List (ℕ × ℕ)) (ls : List LegValue) → All IsSound ls → count (open_from i cs ls) ≤ count ls
count_open i cs [] h = omega arith
count_open i cs (l ∷ ls) h = go (is_coupled cs i) (count_open (suc i) cs ls (tail_sound l ls h))
  where
    leg : IsLeg l.sectors
    leg = head_sound l ls h

    go : (b : Bool) → count (open_from (suc i) cs ls) ≤ count ls → count (cond b (open_from (suc i) cs ls) (l ∷ open_from (suc i) cs ls)) ≤ length l.sectors * count ls
    go true k = some_times (length l.sectors) (count (open_from (suc i) cs ls)) (count ls) leg.some k
    go false k = mul-le-mul_left (length l.sectors) k

-- ---- sums over tuples

abbrev sum_all : (List ℕ → ℕ) → List (List ℕ) → ℕ
sum_all f [] = 0
sum_all f (t ∷ ts) = f t + sum_all f ts

all_append : (f : List ℕ → ℕ) (ts us : List (List ℕ)) → sum_all f (ts ++ us) ≡ sum_all f ts + sum_all f us
all_append f [] us = omega arith
all_append f (t ∷ ts) us = omega (arith, all_append f ts us)

all_map : (f : List ℕ → ℕ) (g : List ℕ → List ℕ) (ts : List (List ℕ)) → sum_all f (map g ts) ≡ sum_all (λ t. f (g t)) ts
all_map f g [] = refl
all_map f g (t ∷ ts) = ap (λ n. f (g t) + n) (all_map f g ts)

all_below : (f g : List ℕ → ℕ) (ts : List (List ℕ)) → ((k : ℕ) → k < length ts → f (get_or ts k []) ≤ g (get_or ts k [])) → sum_all f ts ≤ sum_all g ts
all_below f g [] h = omega arith
all_below f g (t ∷ ts) h = omega (arith, h 0 (omega arith), all_below f g ts (λ k lt. h (suc k) (omega arith)))

size_filter : (ls : List LegValue) (p : List ℕ → Bool) (ts : List (List ℕ)) → size_of ls (filter p ts) ≡ sum_all (λ t. cond (p t) (block_size ls t) 0) ts
size_filter ls p [] = refl
size_filter ls p (t ∷ ts) = go (p t) (size_filter ls p ts)
  where
    go : (b : Bool) → size_of ls (filter p ts) ≡ sum_all (λ u. cond (p u) (block_size ls u) 0) ts →
        size_of ls (cond b (t ∷ filter p ts) (filter p ts)) ≡ cond b (block_size ls t) 0 + sum_all (λ u. cond (p u) (block_size ls u) 0) ts
    go true e = ap (λ n. block_size ls t + n) e
    go false e = omega (arith, e)

-- the tuples that begin with a sector
abbrev begun : List (List ℕ) → ℕ → List (List ℕ)
begun ts s = map (λ t. s ∷ t) ts

all_begun : (f : List ℕ → ℕ) (ts : List (List ℕ)) (s : ℕ) (ss : List ℕ) → sum_all f (flat_map (begun ts) (s ∷ ss)) ≡ sum_all (λ t. f (s ∷ t)) ts + sum_all f (flat_map (begun ts) ss)
all_begun f ts s ss = all_append f (begun ts s) (flat_map (begun ts) ss) ∙ ap (λ n. n + sum_all f (flat_map (begun ts) ss)) (all_map f (λ t. s ∷ t) ts)

first_begun : (f : List ℕ → ℕ) (ts : List (List ℕ)) (n : ℕ) → 0 < n → sum_all (λ t. f (0 ∷ t)) ts ≤ sum_all f (flat_map (begun ts) (upward 0 n))
first_begun f ts zero h = absurd (omega arith)
first_begun f ts (suc n) h = omega (arith, all_begun f ts 0 (upward 1 n))

each_begun : (f : List ℕ → ℕ) (up : List ℕ → List ℕ) (ts us : List (List ℕ)) (ss : List ℕ) → ((g : List ℕ → ℕ) → sum_all (λ t. g (up t)) us ≤ sum_all g ts) →
    sum_all (λ t. f (first t ∷ up (rest t))) (flat_map (begun us) ss) ≤ sum_all f (flat_map (begun ts) ss)
each_begun f up ts us [] h = omega arith
each_begun f up ts us (s ∷ ss) h =
    omega (arith, all_begun (λ t. f (first t ∷ up (rest t))) us s ss, all_begun f ts s ss, h (λ t. f (s ∷ t)), each_begun f up ts us ss h)

-- a sum over the tuples of the open legs is part of one over the tuples of all legs
sum_lifted : (i : ℕ) (cs : List (ℕ × ℕ)) (ls : List LegValue) → All IsSound ls → (f : List ℕ → ℕ) → sum_all (λ t. f (lifted i cs ls t)) (tuples (open_from i cs ls)) ≤ sum_all f (tuples ls)
sum_lifted i cs [] h f = omega arith
sum_lifted i cs (l ∷ ls) h f = go (is_coupled cs i) (sum_lifted (suc i) cs ls (tail_sound l ls h))
  where
    left : List LegValue
    left = open_from (suc i) cs ls

    up : List ℕ → List ℕ
    up = lifted (suc i) cs ls

    leg : IsLeg l.sectors
    leg = head_sound l ls h

    go : (b : Bool) → ((g : List ℕ → ℕ) → sum_all (λ t. g (up t)) (tuples left) ≤ sum_all g (tuples ls)) →
        sum_all (λ t. f (cond b (0 ∷ up t) (first t ∷ up (rest t)))) (tuples (cond b left (l ∷ left))) ≤ sum_all f (flat_map (begun (tuples ls)) (upward 0 (length l.sectors)))
    go true k = omega (arith, k (λ t. f (0 ∷ t)), first_begun f (tuples ls) (length l.sectors) leg.some)
    go false k = each_begun f up (tuples ls) (tuples left) (upward 0 (length l.sectors)) k

-- ---- sizes of blocks

first_dim : (l : LegValue) → IsLeg l.sectors → 0 < (sector_at l.sectors 0).dim
first_dim l h = (h.dims 0 _ h.some).0

size_lifted : (i : ℕ) (cs : List (ℕ × ℕ)) (ls : List LegValue) → All IsSound ls → (t : List ℕ) → IsTuple (open_from i cs ls) t → block_size (open_from i cs ls) t ≤ block_size ls (lifted i cs ls t)
size_lifted i cs [] h t k = omega arith
size_lifted i cs (l ∷ ls) h t k = go (is_coupled cs i) t k (size_lifted (suc i) cs ls (tail_sound l ls h))
  where
    left : List LegValue
    left = open_from (suc i) cs ls

    up : List ℕ → List ℕ
    up = lifted (suc i) cs ls

    go : (b : Bool) (u : List ℕ) → IsTuple (cond b left (l ∷ left)) u → ((v : List ℕ) → IsTuple left v → block_size left v ≤ block_size ls (up v)) →
        block_size (cond b left (l ∷ left)) u ≤ block_size (l ∷ ls) (cond b (0 ∷ up u) (first u ∷ up (rest u)))
    go true u k more = some_times (sector_at l.sectors 0).dim (block_size left u) (block_size ls (up u)) (first_dim l (head_sound l ls h)) (more u k)
    go false [] k more = absurd k
    go false (s ∷ ss) k more = mul-le-mul_left (sector_at l.sectors s).dim (more ss k.1)

-- ---- net charges

module _ (fs : List Factor) (group : IsGroup fs) where
  abbrev sum_at : (ℕ → List ℤ) → List ℕ → List ℤ
  sum_at g [] = zero_charge fs
  sum_at g (k ∷ ks) = sum_charge fs (g k) (sum_at g ks)

  at_canonical : (g : ℕ → List ℤ) (ks : List ℕ) → IsCanonical fs (sum_at g ks)
  at_canonical g [] = canonical_zero fs group
  at_canonical g (k ∷ ks) = canonical_sum fs (g k) (sum_at g ks) group

  at_perm : (g : ℕ → List ℤ) {ks ms : List ℕ} → Perm ks ms → sum_at g ks ≡ sum_at g ms
  at_perm g none = refl
  at_perm g (keep {x = k} p) = ap (sum_charge fs (g k)) (at_perm g p)
  at_perm g (swap {x = x} {y = y} {xs = ks}) =
      sym (associative_charge fs (g x) (g y) (sum_at g ks) group)
      ∙ ap (λ c. sum_charge fs c (sum_at g ks)) (commutative_charge fs (g x) (g y))
      ∙ associative_charge fs (g y) (g x) (sum_at g ks) group
  at_perm g (then_by p q) = at_perm g p ∙ at_perm g q

  -- two legs that meet take nothing together
  opposite : (d f : Dir) (a b : List ℤ) → d ≢ f → a ≡ b → sum_charge fs (turned fs d a) (turned fs f b) ≡ zero_charge fs
  opposite Out Out a b n e = absurd (n refl)
  opposite In In a b n e = absurd (n refl)
  opposite In Out a b n e = ap (λ c. sum_charge fs (turned fs In a) c) (sym e) ∙ neg_is_inverse fs a group
  opposite Out In a b n e = commutative_charge fs a (turned fs In b) ∙ ap (λ c. sum_charge fs (turned fs In b) c) e ∙ neg_is_inverse fs b group

  -- the charges at the places of the couples cancel
  couples_cancel : (ls : List LegValue) (g : ℕ → List ℤ) (cs : List (ℕ × ℕ)) (ks : List ℕ) → ((k : ℕ) (d : ℕ × ℕ) → k < length cs → sum_charge fs (g (get_or cs k d).0) (g (get_or cs k d).1) ≡ zero_charge fs) →
      sum_at g (goal_couples ls cs ++ ks) ≡ sum_at g ks
  couples_cancel ls g [] ks h = refl
  couples_cancel ls g (c ∷ cs) ks h = go (is_inward (leg_at ls c.0).arrow) ∙ couples_cancel ls g cs ks (λ k d lt. h (suc k) d (omega arith))
    where
      others : List ℕ
      others = goal_couples ls cs ++ ks

      gone : (a b : List ℤ) → sum_charge fs a b ≡ zero_charge fs → sum_charge fs a (sum_charge fs b (sum_at g others)) ≡ sum_at g others
      gone a b e = sym (associative_charge fs a b (sum_at g others) group) ∙ ap (λ z. sum_charge fs z (sum_at g others)) e ∙ zero_is_neutral fs (sum_at g others) (at_canonical g others)

      both : sum_charge fs (g c.0) (g c.1) ≡ zero_charge fs
      both = h 0 c (omega arith)

      go : (b : Bool) → sum_charge fs (g (cond b c.0 c.1)) (sum_charge fs (g (cond b c.1 c.0)) (sum_at g others)) ≡ sum_at g others
      go true = gone (g c.0) (g c.1) both
      go false = gone (g c.1) (g c.0) (commutative_charge fs (g c.1) (g c.0) ∙ both)

  -- a net charge as a sum over the places
  net_places : (g : ℕ → List ℤ) (a : ℕ) (ls : List LegValue) (t : List ℕ) → ((k : ℕ) → k < length ls → g (a + k) ≡ signed fs (get_or ls k no_leg) (get_or t k 0)) → net fs ls t ≡ sum_at g (range_with_len a (length ls))
  net_places g a [] t h = refl
  net_places g a (l ∷ ls) t h = by t h (λ u k. net_places g (a + 1) ls u k)
    where
      here : a ≡ a + 0
      here = omega arith

      next : (k : ℕ) → a + 1 + k ≡ a + suc k
      next k = omega arith

      by : (u : List ℕ) → ((k : ℕ) → k < suc (length ls) → g (a + k) ≡ signed fs (get_or (l ∷ ls) k no_leg) (get_or u k 0)) →
          ((v : List ℕ) → ((k : ℕ) → k < length ls → g (a + 1 + k) ≡ signed fs (get_or ls k no_leg) (get_or v k 0)) → net fs ls v ≡ sum_at g (range_with_len (a + 1) (length ls))) →
          sum_charge fs (signed fs l (first u)) (net fs ls (rest u)) ≡ sum_charge fs (g a) (sum_at g (range_with_len (a + 1) (length ls)))
      by [] k more = ap₂ (sum_charge fs) (sym (ap g here ∙ k 0 (omega arith))) (more [] (λ j lt. ap g (next j) ∙ k (suc j) (omega arith)))
      by (s ∷ ss) k more = ap₂ (sum_charge fs) (sym (ap g here ∙ k 0 (omega arith))) (more ss (λ j lt. ap g (next j) ∙ k (suc j) (omega arith)))

  -- the part of the open legs
  open_places_net : (g : ℕ → List ℤ) (a : ℕ) (cs : List (ℕ × ℕ)) (ls : List LegValue) (t : List ℕ) → ((k : ℕ) → k < length ls → g (a + k) ≡ signed fs (get_or ls k no_leg) (get_or (lifted a cs ls t) k 0)) →
      sum_at g (filter (λ i. not (is_coupled cs i)) (range_with_len a (length ls))) ≡ net fs (open_from a cs ls) t
  open_places_net g a cs [] t h = refl
  open_places_net g a cs (l ∷ ls) t h = go (is_coupled cs a) h (λ u k. open_places_net g (a + 1) cs ls u k)
    where
      here : a ≡ a + 0
      here = omega arith

      suc_is : suc a ≡ a + 1
      suc_is = omega arith

      next : (k : ℕ) → a + 1 + k ≡ a + suc k
      next k = omega arith

      places : List ℕ
      places = filter (λ i. not (is_coupled cs i)) (range_with_len (a + 1) (length ls))

      go : (b : Bool) → ((k : ℕ) → k < suc (length ls) → g (a + k) ≡ signed fs (get_or (l ∷ ls) k no_leg) (get_or (cond b (0 ∷ lifted (suc a) cs ls t) (first t ∷ lifted (suc a) cs ls (rest t))) k 0)) →
          ((u : List ℕ) → ((k : ℕ) → k < length ls → g (a + 1 + k) ≡ signed fs (get_or ls k no_leg) (get_or (lifted (a + 1) cs ls u) k 0)) → sum_at g places ≡ net fs (open_from (a + 1) cs ls) u) →
          sum_at g (cond (not b) (a ∷ places) places) ≡ net fs (cond b (open_from (suc a) cs ls) (l ∷ open_from (suc a) cs ls)) t
      go true k more =
          more t (λ j lt. ap g (next j) ∙ k (suc j) (omega arith) ∙ ap (λ m. signed fs (get_or ls j no_leg) (get_or (lifted m cs ls t) j 0)) suc_is)
          ∙ ap (λ m. net fs (open_from m cs ls) t) (sym suc_is)
      go false k more =
          ap₂ (sum_charge fs) (ap g here ∙ k 0 (omega arith))
          (more (rest t) (λ j lt. ap g (next j) ∙ k (suc j) (omega arith) ∙ ap (λ m. signed fs (get_or ls j no_leg) (get_or (lifted m cs ls (rest t)) j 0)) suc_is)
          ∙ ap (λ m. net fs (open_from m cs ls) (rest t)) (sym suc_is))

-- the first sector at the coupled places
coupled_zero : (a : ℕ) (cs : List (ℕ × ℕ)) (ls : List LegValue) (t : List ℕ) (k : ℕ) → is_coupled cs (a + k) ≡ true → get_or (lifted a cs ls t) k 0 ≡ 0
coupled_zero a cs [] t k e = refl
coupled_zero a cs (l ∷ ls) t k e = go (is_coupled cs a) refl k e (λ u j h. coupled_zero (suc a) cs ls u j h)
  where
    here : a + 0 ≡ a
    here = omega arith

    next : (j : ℕ) → a + suc j ≡ suc a + j
    next j = omega arith

    go : (b : Bool) → is_coupled cs a ≡ b → (j : ℕ) → is_coupled cs (a + j) ≡ true → ((u : List ℕ) (m : ℕ) → is_coupled cs (suc a + m) ≡ true → get_or (lifted (suc a) cs ls u) m 0 ≡ 0) → get_or (cond b (0 ∷ lifted (suc a) cs ls t) (first t ∷ lifted (suc a) cs ls (rest t))) j 0 ≡ 0
    go true f zero h more = refl
    go true f (suc j) h more = more t j (ap (is_coupled cs) (sym (next j)) ∙ h)
    go false f zero h more = absurd (true_false (sym (ap (is_coupled cs) here ∙ f) ∙ h))
      where
        true_false : false ≡ true → ⊥
        true_false p = cc
    go false f (suc j) h more = more (rest t) j (ap (is_coupled cs) (sym (next j)) ∙ h)

in_couple : (cs : List (ℕ × ℕ)) (k : ℕ) (d : ℕ × ℕ) → k < length cs → (is_coupled cs (get_or cs k d).0 ≡ true) × (is_coupled cs (get_or cs k d).1 ≡ true)
in_couple [] k d lt = absurd (omega arith)
in_couple (c ∷ cs) zero d lt = (
  or_left (c.0 == c.0) ((c.0 == c.1) || is_coupled cs c.0) (eq-eqb c.0 c.0 refl),
  or_right (c.1 == c.0) ((c.1 == c.1) || is_coupled cs c.1) (or_left (c.1 == c.1) (is_coupled cs c.1) (eq-eqb c.1 c.1 refl)),
)
in_couple (c ∷ cs) (suc k) d lt =
    let r = in_couple cs k d (omega arith) in
    let x : ℕ = (get_or cs k d).0 in
    let y : ℕ = (get_or cs k d).1 in
    (or_right (x == c.0) ((x == c.1) || is_coupled cs x) (or_right (x == c.1) (is_coupled cs x) r.0), or_right (y == c.0) ((y == c.1) || is_coupled cs y) (or_right (y == c.1) (is_coupled cs y) r.1))

pub net_lifted : (fs : List Factor) (ls : List LegValue) (cs : List (ℕ × ℕ)) (t : List ℕ) → IsGroup fs → IsCoupling ls cs → net fs ls (lifted 0 cs ls t) ≡ net fs (open_from 0 cs ls) t
net_lifted fs ls cs t group good =
    net_places fs group g 0 ls up (λ k lt. ap g (zero-add k))
    ∙ at_perm fs group g (perm_goal ls cs good)
    ∙ couples_cancel fs group ls g cs (open_places cs (length ls)) cancel
    ∙ open_places_net fs group g 0 cs ls t (λ k lt. ap g (zero-add k))
  where
    up : List ℕ
    up = lifted 0 cs ls t

    g : ℕ → List ℤ
    g k = signed fs (get_or ls k no_leg) (get_or up k 0)

    at_zero : (k : ℕ) → is_coupled cs k ≡ true → g k ≡ signed fs (get_or ls k no_leg) 0
    at_zero k e = ap (signed fs (get_or ls k no_leg)) (coupled_zero 0 cs ls t k (ap (is_coupled cs) (zero-add k) ∙ e))

    cancel : (k : ℕ) (d : ℕ × ℕ) → k < length cs → sum_charge fs (g (get_or cs k d).0) (g (get_or cs k d).1) ≡ zero_charge fs
    cancel k d lt =
        let c : ℕ × ℕ = get_or cs k d in
        let two = in_couple cs k d lt in
        let m : IsCouple ls c = good.meet k d lt in
        ap₂ (sum_charge fs) (at_zero c.0 two.0) (at_zero c.1 two.1)
        ∙ opposite fs group (get_or ls c.0 no_leg).arrow (get_or ls c.1 no_leg).arrow _ _ m.meets.0 (ap (λ (ps : List SectorValue). (sector_at ps 0).charge) m.meets.1)

-- ---- entries

pub entries_open : (fs : List Factor) (ls : List LegValue) (q : List ℤ) (cs : List (ℕ × ℕ)) → IsGroup fs → All IsSound ls → IsCoupling ls cs → entries fs (open_from 0 cs ls) q ≤ entries fs ls q
entries_open fs ls q cs group sound good =
    let left : List LegValue = open_from 0 cs ls in
    let whole : List ℕ → ℕ = λ t. cond (admits fs ls q t) (block_size ls t) 0 in
    let part : List ℕ → ℕ = λ t. cond (admits fs left q t) (block_size left t) 0 in
    let below : sum_all part (tuples left) ≤ sum_all (λ t. whole (lifted 0 cs ls t)) (tuples left) = all_below part (λ t. whole (lifted 0 cs ls t)) (tuples left) (λ k lt. one (get_or (tuples left) k []) (tuple_contained left (get_or (tuples left) k []) (k, lt, get_or_default (tuples left) k (get_or (tuples left) k []) [] lt))) in
    omega (arith, size_filter left (admits fs left q) (tuples left), size_filter ls (admits fs ls q) (tuples ls), below, sum_lifted 0 cs ls sound whole)
  where
    one : (t : List ℕ) → IsTuple (open_from 0 cs ls) t → cond (admits fs (open_from 0 cs ls) q t) (block_size (open_from 0 cs ls) t) 0 ≤ cond (admits fs ls q (lifted 0 cs ls t)) (block_size ls (lifted 0 cs ls t)) 0
    one t h =
        subst (λ (n : List ℤ). cond (admits fs (open_from 0 cs ls) q t) (block_size (open_from 0 cs ls) t) 0 ≤ cond (pointwise int_eq n q) (block_size ls (lifted 0 cs ls t)) 0) (sym (net_lifted fs ls cs t group good))
        (go (admits fs (open_from 0 cs ls) q t) (size_lifted 0 cs ls sound t h))
      where
        go : (b : Bool) {m n : ℕ} → m ≤ n → cond b m 0 ≤ cond b n 0
        go true l = l
        go false l = omega arith

-- a trace is within the limits
pub trace_within : (fs : List Factor) (ls : List LegValue) (q : List ℤ) (cs : List (ℕ × ℕ)) → IsGroup fs → All IsSound ls → IsCoupling ls cs → IsWithinLimits fs ls q → IsWithinLimits fs (left_legs ls cs) q
trace_within fs ls q cs group sound good w = subst (λ ks. IsWithinLimits fs ks q) (open_at ls cs) record {
  legs = omega (arith, w.legs, few_open ls cs good, long);
  tuples = omega (arith, w.tuples, count_open 0 cs ls sound);
  entries = omega (arith, w.entries, entries_open fs ls q cs group sound good);
}
  where
    long : length (open_from 0 cs ls) ≡ length (open_places cs (length ls))
    long = ap (λ (ks : List LegValue). length ks) (open_at ls cs) ∙ length-map (open_places cs (length ls)) (leg_at ls)

-- what holds of all legs holds of the open ones
open_all : (P : LegValue → Type 0) (i : ℕ) (cs : List (ℕ × ℕ)) (ls : List LegValue) → All P ls → All P (open_from i cs ls)
open_all P i cs [] h = h
open_all P i cs (l ∷ ls) h = by (is_coupled cs i) (open_all P (suc i) cs ls (λ n d lt. h (suc n) d (omega arith)))
  where
    by : (b : Bool) → All P (open_from (suc i) cs ls) → All P (cond b (open_from (suc i) cs ls) (l ∷ open_from (suc i) cs ls))
    by true a = a
    by false a = λ n d lt. at n d lt
      where
        at : (n : ℕ) (d : LegValue) → n < suc (length (open_from (suc i) cs ls)) → P (get_or (l ∷ open_from (suc i) cs ls) n d)
        at zero d lt = h 0 d (omega arith)
        at (suc n) d lt = a n d (omega arith)

pub left_all : (P : LegValue → Type 0) (ls : List LegValue) (cs : List (ℕ × ℕ)) → All P ls → All P (left_legs ls cs)
left_all P ls cs h = subst (All P) (open_at ls cs) (open_all P 0 cs ls h)
