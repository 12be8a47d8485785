use Rattle.std.proofs.Common.{◌≡◌, Bool, true, false, not, ◌&&◌, ◌||◌, List, [], ◌∷◌, ◌++◌, refl, sym, ◌∙◌, ap, subst, map, arith}
use Rattle.std.proofs.lemmas.Bool.{or_parts, or_from, or_left, or_right, false≢true}
use Rattle.qn_sign.specs.Sign.{is_in, stands_before, IsTest, IsDistinct, Perm}
use Rattle.qn_sign.specs.Sign.Perm.{none, keep, swap, then_by}

or_assoc : (a b c : Bool) → (a || (b || c)) ≡ ((a || b) || c)
or_assoc a b c = grind arith

or_swap : (a b c : Bool) → (a || (b || c)) ≡ (b || (a || c))
or_swap a b c = grind arith

pub is_in-append : {E : Type 0} (same : E → E → Bool) (x : E) (u v : List E) → is_in same x (u ++ v) ≡ (is_in same x u || is_in same x v)
is_in-append same x [] v = refl
is_in-append same x (z ∷ u) v = rw (is_in-append same x u v) (or_assoc (same x z) (is_in same x u) (is_in same x v))

pub is_in-perm : {E : Type 0} (same : E → E → Bool) (x : E) {u v : List E} → Perm u v → is_in same x u ≡ is_in same x v
is_in-perm same x none = refl
is_in-perm same x (keep {x = z} p) = ap (λ b. same x z || b) (is_in-perm same x p)
is_in-perm same x (swap {x = z} {y = y} {xs = xs}) = or_swap (same x z) (same x y) (is_in same x xs)
is_in-perm same x (then_by p q) = is_in-perm same x p ∙ is_in-perm same x q

-- one step of each lemma below, at Booleans
out_id : (yz xz r s : Bool) → xz ≡ false → yz ≡ false → r ≡ s → (not yz && (xz || r)) ≡ s
out_id yz xz r s e f h = grind arith

pub before_out : {E : Type 0} (same : E → E → Bool) (x y : E) (u v : List E) →
    is_in same x u ≡ false → is_in same y u ≡ false → stands_before same (u ++ v) x y ≡ stands_before same v x y
before_out same x y [] v hx hy = refl
before_out same x y (z ∷ u) v hx hy =
    let px = or_parts (same x z) (is_in same x u) hx in
    let py = or_parts (same y z) (is_in same y u) hy in
    out_id (same y z) (same x z) (stands_before same (u ++ v) x y) (stands_before same v x y) px.0 py.0
    (before_out same x y u v px.1 py.1)

-- what stands in the first part, before what follows it
pub before_in : {E : Type 0} (same : E → E → Bool) (x y : E) (u v : List E) →
    (is_in same x u || is_in same y u) ≡ true → stands_before same (u ++ v) x y ≡ stands_before same u x y
before_in same x y [] v h = grind arith
before_in same x y (z ∷ u) v h =
    in_id (same y z) (same x z) (is_in same x u) (is_in same y u) (stands_before same (u ++ v) x y) (stands_before same u x y)
    h (before_in same x y u v)
  where
    in_id : (yz xz xu yu r s : Bool) → ((xz || xu) || (yz || yu)) ≡ true → ((xu || yu) ≡ true → r ≡ s) →
        (not yz && (xz || r)) ≡ (not yz && (xz || s))
    in_id true xz xu yu r s h k = refl
    in_id false true xu yu r s h k = refl
    in_id false false xu yu r s h k = k h

pub before_absent : {E : Type 0} (same : E → E → Bool) (x y : E) (u : List E) → is_in same x u ≡ false → stands_before same u x y ≡ false
before_absent same x y [] h = refl
before_absent same x y (z ∷ u) h =
    let p = or_parts (same x z) (is_in same x u) h in
    step (same y z) (same x z) (stands_before same u x y) p.0 (before_absent same x y u p.1)
  where
    step : (yz xz r : Bool) → xz ≡ false → r ≡ false → (not yz && (xz || r)) ≡ false
    step yz xz r e f = grind arith

pub before_alone : {E : Type 0} (same : E → E → Bool) (x y : E) (u : List E) →
    is_in same x u ≡ true → is_in same y u ≡ false → stands_before same u x y ≡ true
before_alone same x y [] h k = h
before_alone same x y (z ∷ u) h k =
    let p = or_parts (same y z) (is_in same y u) k in
    step (same y z) (same x z) (is_in same x u) (stands_before same u x y) p.0 h (λ e. before_alone same x y u e p.1)
  where
    step : (yz xz xu r : Bool) → yz ≡ false → (xz || xu) ≡ true → (xu ≡ true → r ≡ true) → (not yz && (xz || r)) ≡ true
    step yz true xu r e f g = grind arith
    step yz false xu r e f g = rw (e, g f) refl

pub before_self : {E : Type 0} (same : E → E → Bool) (x : E) (u : List E) → stands_before same u x x ≡ false
before_self same x [] = refl
before_self same x (z ∷ u) = step (same x z) (stands_before same u x x) (before_self same x u)
  where
    step : (xz r : Bool) → r ≡ false → (not xz && (xz || r)) ≡ false
    step xz r e = grind arith

-- of two different elements, of which one is in the list, one stands before the other
pub before_flip : {E : Type 0} (same : E → E → Bool) (law : IsTest same) (x y : E) (u : List E) →
    same x y ≡ false → (is_in same x u || is_in same y u) ≡ true → stands_before same u y x ≡ not (stands_before same u x y)
before_flip same law x y [] d h = grind arith
before_flip same law x y (z ∷ u) d h =
    step (same y z) (same x z) (is_in same x u) (is_in same y u) (stands_before same u x y) (stands_before same u y x)
    (λ e f. sym d ∙ subst (λ (w : _). same x w ≡ true) (law.equal x z f ∙ sym (law.equal y z e)) (law.itself x)) h (before_flip same law x y u d)
  where
    step : (yz xz xu yu r s : Bool) → (yz ≡ true → xz ≡ true → false ≡ true) → ((xz || xu) || (yz || yu)) ≡ true → ((xu || yu) ≡ true → s ≡ not r) →
        (not xz && (yz || s)) ≡ not (not yz && (xz || r))
    step true true xu yu r s a h k = a refl refl
    step true false xu yu r s a h k = refl
    step false true xu yu r s a h k = refl
    step false false xu yu r s a h k = k h

-- what stands before another is not that other
pub before_apart : {E : Type 0} (same : E → E → Bool) (law : IsTest same) (x y : E) (u : List E) → stands_before same u x y ≡ true → same x y ≡ false
before_apart same law x y u h =
    go (same x y) refl
  where
    go : (b : Bool) → same x y ≡ b → b ≡ false
    go false e = refl
    go true e = sym h ∙ subst (λ w. stands_before same u x w ≡ false) (law.equal x y e) (before_self same x u)

-- it is in the list
pub before_is_in : {E : Type 0} (same : E → E → Bool) (x y : E) (u : List E) → stands_before same u x y ≡ true → is_in same x u ≡ true
before_is_in same x y [] h = h
before_is_in same x y (z ∷ u) h =
    step (same y z) (same x z) (is_in same x u) (stands_before same u x y) h (before_is_in same x y u)
  where
    step : (yz xz xu r : Bool) → (not yz && (xz || r)) ≡ true → (r ≡ true → xu ≡ true) → (xz || xu) ≡ true
    step yz true xu r h k = refl
    step false false xu r h k = k h
    step true false xu r h k = absurd (false≢true h)

-- lists with no repeats

pub same_symm : {E : Type 0} (same : E → E → Bool) (law : IsTest same) (x y : E) → same x y ≡ false → same y x ≡ false
same_symm same law x y d = go (same y x) refl
  where
    go : (b : Bool) → same y x ≡ b → b ≡ false
    go false e = refl
    go true e = sym (law.itself x) ∙ subst (λ z. same x z ≡ false) (law.equal y x e) d

pub distinct-perm : {E : Type 0} (same : E → E → Bool) (law : IsTest same) {xs ys : List E} → Perm xs ys → IsDistinct same xs → IsDistinct same ys
distinct-perm same law none d = d
distinct-perm same law (keep {x = x} p) d = (sym (is_in-perm same x p) ∙ d.0, distinct-perm same law p d.1)
distinct-perm same law (swap {x = x} {y = y} {xs = xs}) d =
    let o = or_parts (same x y) (is_in same x xs) d.0 in
    (or_from (same y x) (is_in same y xs) (same_symm same law x y o.0) d.1.0, (o.1, d.1.1))
distinct-perm same law (then_by p q) d = distinct-perm same law q (distinct-perm same law p d)

pub distinct_second : {E : Type 0} (same : E → E → Bool) (u v : List E) → IsDistinct same (u ++ v) → IsDistinct same v
distinct_second same [] v d = d
distinct_second same (x ∷ u) v d = distinct_second same u v d.1

pub distinct_first : {E : Type 0} (same : E → E → Bool) (u v : List E) → IsDistinct same (u ++ v) → IsDistinct same u
distinct_first same [] v d = tt
distinct_first same (x ∷ u) v d =
    ((or_parts (is_in same x u) (is_in same x v) (sym (is_in-append same x u v) ∙ d.0)).0, distinct_first same u v d.1)

-- what is in the first part is not in the second
pub distinct_parts : {E : Type 0} (same : E → E → Bool) (law : IsTest same) (x : E) (u v : List E) → IsDistinct same (u ++ v) →
    is_in same x u ≡ true → is_in same x v ≡ false
distinct_parts same law x [] v d h = absurd (false≢true h)
distinct_parts same law x (z ∷ u) v d h = go (same x z) refl (distinct_parts same law x u v d.1) h
  where
    go : (b : Bool) → same x z ≡ b → (is_in same x u ≡ true → is_in same x v ≡ false) → (b || is_in same x u) ≡ true → is_in same x v ≡ false
    go true e ih k =
        subst (λ w. is_in same w v ≡ false) (sym (law.equal x z e))
        (or_parts (is_in same z u) (is_in same z v) (sym (is_in-append same z u v) ∙ d.0)).1
    go false e ih k = ih k

-- what is in the list and what is not differ
pub apart_by : {E : Type 0} (same : E → E → Bool) (law : IsTest same) (x y : E) (u : List E) → is_in same x u ≡ true → is_in same y u ≡ false → same x y ≡ false
apart_by same law x y u h k = go (same x y) refl
  where
    go : (b : Bool) → same x y ≡ b → b ≡ false
    go false e = refl
    go true e = sym h ∙ subst (λ w. is_in same w u ≡ false) (sym (law.equal x y e)) k

pub distinct_parts_back : {E : Type 0} (same : E → E → Bool) (law : IsTest same) (x : E) (u v : List E) → IsDistinct same (u ++ v) →
    is_in same x v ≡ true → is_in same x u ≡ false
distinct_parts_back same law x u v d h = go (is_in same x u) refl
  where
    go : (b : Bool) → is_in same x u ≡ b → b ≡ false
    go false e = refl
    go true e = sym h ∙ distinct_parts same law x u v d e

-- things that are called by other names stand as before
pub before-map : {A B : Type 0} (same : A → A → Bool) (alike : B → B → Bool) (name : A → B) (x y : A) (w : List A) → IsTest same →
    ((z : A) → is_in same z w ≡ true → alike (name x) (name z) ≡ same x z) → ((z : A) → is_in same z w ≡ true → alike (name y) (name z) ≡ same y z) →
    stands_before alike (map name w) (name x) (name y) ≡ stands_before same w x y
before-map same alike name x y [] law hx hy = refl
before-map same alike name x y (z ∷ w) law hx hy =
    let here : is_in same z (z ∷ w) ≡ true = or_left (same z z) (is_in same z w) (law.itself z) in
    step (alike (name y) (name z)) (same y z) (alike (name x) (name z)) (same x z) _ _ (hy z here) (hx z here)
    (before-map same alike name x y w law (λ v k. hx v (or_right (same v z) (is_in same v w) k)) (λ v k. hy v (or_right (same v z) (is_in same v w) k)))
  where
    step : (p q p' q' r s : Bool) → p ≡ q → p' ≡ q' → r ≡ s → (not p && (p' || r)) ≡ (not q && (q' || s))
    step p q p' q' r s e g h = λ i. not (e i) && (g i || h i)
