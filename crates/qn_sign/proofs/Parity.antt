use Rattle.std.proofs.Common.{◌≡◌, ℕ, zero, suc, ◌+◌, Bool, true, false, not, ◌&&◌, cond, List, [], ◌∷◌, ◌++◌, refl, sym, ◌∙◌, ap, ap₂, count_by, zero-add, suc-add, arith}
use mathlib.Core.Bool.{beq}
use Rattle.std.proofs.lemmas.List.Sums.{sum_by-cons}
use Rattle.qn_sign.specs.Sign.{xor, is_odd, block_parity, Perm}
use Rattle.qn_sign.specs.Sign.Perm.{none, keep, swap, then_by}

-- Booleans

pub xor_assoc : (a b c : Bool) → xor (xor a b) c ≡ xor a (xor b c)
xor_assoc a b c = grind arith

pub xor_comm : (a b : Bool) → xor a b ≡ xor b a
xor_comm a b = grind arith

pub xor_false : (a : Bool) → xor a false ≡ a
xor_false a = grind arith

-- as the program computes it
pub xor_beq : (a b : Bool) → xor a b ≡ not (beq a b)
xor_beq a b = grind arith

pub xor_left : (a b c : Bool) → xor a (xor b c) ≡ xor b (xor a c)
xor_left a b c = grind arith

-- (a + b) + (c + d) = (a + c) + (b + d)
pub xor_middle : (a b c d : Bool) → xor (xor a b) (xor c d) ≡ xor (xor a c) (xor b d)
xor_middle a b c d = grind arith

-- the parity of the number of elements that pass
abbrev pub tally : {A : Type 0} → (A → Bool) → List A → Bool
tally f [] = false
tally f (x ∷ xs) = xor (f x) (tally f xs)

-- the parity of the number of pairs, in the order of the list, that pass
abbrev pub pairs : {A : Type 0} → (A → A → Bool) → List A → Bool
pairs r [] = false
pairs r (x ∷ xs) = xor (tally (r x) xs) (pairs r xs)

-- the parity of the number of pairs of one element of each list that pass
abbrev pub cross : {A : Type 0} → (A → A → Bool) → List A → List A → Bool
cross r xs ys = tally (λ x. tally (r x) ys) xs

pub tally-append : {A : Type 0} (f : A → Bool) (xs ys : List A) → tally f (xs ++ ys) ≡ xor (tally f xs) (tally f ys)
tally-append f [] ys = refl
tally-append f (x ∷ xs) ys = rw (tally-append f xs ys) (sym (xor_assoc (f x) (tally f xs) (tally f ys)))

pub tally-xor : {A : Type 0} (f g : A → Bool) (xs : List A) → tally (λ x. xor (f x) (g x)) xs ≡ xor (tally f xs) (tally g xs)
tally-xor f g [] = refl
tally-xor f g (x ∷ xs) = rw (tally-xor f g xs) (xor_middle (f x) (g x) (tally f xs) (tally g xs))

pub tally_none : {A : Type 0} (xs : List A) → tally (λ x. false) xs ≡ false
tally_none [] = refl
tally_none (x ∷ xs) = tally_none xs

-- a factor that all share
pub tally-and : {A : Type 0} (b : Bool) (f : A → Bool) (xs : List A) → tally (λ x. b && f x) xs ≡ (b && tally f xs)
tally-and true f xs = refl
tally-and false f xs = tally_none xs

pub perm-refl : {A : Type 0} (xs : List A) → Perm xs xs
perm-refl [] = none
perm-refl (x ∷ xs) = keep (perm-refl xs)

pub perm-sym : {A : Type 0} {xs ys : List A} → Perm xs ys → Perm ys xs
perm-sym none = none
perm-sym (keep p) = keep (perm-sym p)
perm-sym swap = swap
perm-sym (then_by p q) = then_by (perm-sym q) (perm-sym p)

pub pairs-xor : {A : Type 0} (r s : A → A → Bool) (xs : List A) → pairs (λ x y. xor (r x y) (s x y)) xs ≡ xor (pairs r xs) (pairs s xs)
pairs-xor r s [] = refl
pairs-xor r s (x ∷ xs) =
    rw (tally-xor (r x) (s x) xs, pairs-xor r s xs) (xor_middle (tally (r x) xs) (tally (s x) xs) (pairs r xs) (pairs s xs))

pub tally-perm : {A : Type 0} (f : A → Bool) {xs ys : List A} → Perm xs ys → tally f xs ≡ tally f ys
tally-perm f none = refl
tally-perm f (keep {x = x} p) = ap (xor (f x)) (tally-perm f p)
tally-perm f (swap {x = x} {y = y} {xs = xs}) = xor_left (f x) (f y) (tally f xs)
tally-perm f (then_by p q) = tally-perm f p ∙ tally-perm f q

append_id : (a b p c q : Bool) → xor (xor a b) (xor (xor p c) q) ≡ xor (xor (xor a p) (xor b c)) q
append_id a b p c q = grind arith

pub pairs-append : {A : Type 0} (r : A → A → Bool) (xs ys : List A) → pairs r (xs ++ ys) ≡ xor (xor (pairs r xs) (cross r xs ys)) (pairs r ys)
pairs-append r [] ys = refl
pairs-append r (x ∷ xs) ys =
    rw (tally-append (r x) xs ys, pairs-append r xs ys)
    (append_id (tally (r x) xs) (tally (r x) ys) (pairs r xs) (cross r xs ys) (pairs r ys))

pub pairs-perm : {A : Type 0} (r : A → A → Bool) → ((x y : A) → r x y ≡ r y x) → {xs ys : List A} → Perm xs ys → pairs r xs ≡ pairs r ys
pairs-perm r symm none = refl
pairs-perm r symm (keep {x = x} {xs = xs} {ys = ys} p) = rw (tally-perm (r x) p, pairs-perm r symm p) refl
pairs-perm r symm (swap {x = x} {y = y} {xs = xs}) =
    rw (symm x y) (xor_middle (r y x) (tally (r x) xs) (tally (r y) xs) (pairs r xs))
pairs-perm r symm (then_by p q) = pairs-perm r symm p ∙ pairs-perm r symm q

-- the other way round: a double tally in the other order
pub cross-flip : {A : Type 0} (r : A → A → Bool) (xs ys : List A) → cross r xs ys ≡ cross (λ y x. r x y) ys xs
cross-flip r [] ys = sym (tally_none ys)
cross-flip r (x ∷ xs) ys =
    rw (cross-flip r xs ys) (sym (tally-xor (λ y. r x y) (λ y. tally (λ z. r z y) xs) ys))

pub cross-append : {A : Type 0} (r : A → A → Bool) (xs ys zs : List A) → cross r xs (ys ++ zs) ≡ xor (cross r xs ys) (cross r xs zs)
cross-append r [] ys zs = refl
cross-append r (x ∷ xs) ys zs =
    rw (tally-append (r x) ys zs, cross-append r xs ys zs)
    (xor_middle (tally (r x) ys) (tally (r x) zs) (cross r xs ys) (cross r xs zs))

pub cross-perm : {A : Type 0} (r : A → A → Bool) (xs : List A) {ys zs : List A} → Perm ys zs → cross r xs ys ≡ cross r xs zs
cross-perm r [] p = refl
cross-perm r (x ∷ xs) p = rw (tally-perm (r x) p, cross-perm r xs p) refl

pub perm_under : {A : Type 0} (us : List A) {xs ys : List A} → Perm xs ys → Perm (us ++ xs) (us ++ ys)
perm_under [] p = p
perm_under (u ∷ us) p = keep (perm_under us p)

perm_middle : {A : Type 0} (x : A) (us vs : List A) → Perm (x ∷ (us ++ vs)) (us ++ (x ∷ vs))
perm_middle x [] vs = perm-refl (x ∷ vs)
perm_middle x (u ∷ us) vs = then_by swap (keep (perm_middle x us vs))

pub perm_blocks : {A : Type 0} (us vs ws : List A) → Perm (us ++ (vs ++ ws)) (vs ++ (us ++ ws))
perm_blocks [] vs ws = perm-refl (vs ++ ws)
perm_blocks (u ∷ us) vs ws = then_by (keep (perm_blocks us vs ws)) (perm_middle u vs (us ++ ws))

pub cross-xor : {A : Type 0} (r s : A → A → Bool) (xs ys : List A) → cross (λ x y. xor (r x y) (s x y)) xs ys ≡ xor (cross r xs ys) (cross s xs ys)
cross-xor r s [] ys = refl
cross-xor r s (x ∷ xs) ys =
    rw (tally-xor (r x) (s x) ys, cross-xor r s xs ys) (xor_middle (tally (r x) ys) (tally (s x) ys) (cross r xs ys) (cross s xs ys))

and_distr : (a b c : Bool) → xor (a && c) (b && c) ≡ (xor a b && c)
and_distr a b c = grind arith

pub cross_product : {A : Type 0} (odd : A → Bool) (xs ys : List A) → cross (λ x y. odd x && odd y) xs ys ≡ (tally odd xs && tally odd ys)
cross_product odd [] ys = refl
cross_product odd (x ∷ xs) ys =
    rw (tally-and (odd x) odd ys, cross_product odd xs ys) (and_distr (odd x) (tally odd xs) (tally odd ys))

pub cross_none : {A : Type 0} (xs ys : List A) → cross (λ x y. false) xs ys ≡ false
cross_none xs ys = ap (λ b. tally (λ x. b) xs) (tally_none ys) ∙ tally_none xs

exchange_id : (p u u' a b c ab ac ba bc : Bool) → u ≡ u' →
    xor (xor p u) (xor (xor a (xor ab ac)) (xor (xor b bc) c)) ≡ xor (xor ab ba) (xor (xor p u') (xor (xor b (xor ba bc)) (xor (xor a ac) c)))
exchange_id p u u' a b c ab ac ba bc e = grind arith

-- two neighbouring blocks change places
pub pairs-exchange : {A : Type 0} (r : A → A → Bool) (p a b q : List A) →
    pairs r (p ++ (a ++ (b ++ q))) ≡ xor (xor (cross r a b) (cross r b a)) (pairs r (p ++ (b ++ (a ++ q))))
pairs-exchange r p a b q =
    rw (pairs-append r p (a ++ (b ++ q)), pairs-append r p (b ++ (a ++ q)), pairs-append r a (b ++ q), pairs-append r b (a ++ q), pairs-append r b q, pairs-append r a q, cross-append r a b q, cross-append r b a q)
    (exchange_id (pairs r p) (cross r p (a ++ (b ++ q))) (cross r p (b ++ (a ++ q))) (pairs r a) (pairs r b) (pairs r q) (cross r a b) (cross r a q) (cross r b a) (cross r b q)
    (cross-perm r p (perm_blocks a b q)))

pub perm_before : {A : Type 0} (us : List A) {xs ys : List A} → Perm xs ys → Perm (xs ++ us) (ys ++ us)
perm_before us none = perm-refl us
perm_before us (keep p) = keep (perm_before us p)
perm_before us swap = swap
perm_before us (then_by p q) = then_by (perm_before us p) (perm_before us q)

-- the parity of a count

pub is_odd-add : (n m : ℕ) → is_odd (n + m) ≡ xor (is_odd n) (is_odd m)
is_odd-add zero m = ap is_odd (zero-add m)
is_odd-add (suc n) m = ap is_odd (suc-add n m) ∙ ap not (is_odd-add n m) ∙ not_xor (is_odd n) (is_odd m)
  where
    not_xor : (a b : Bool) → not (xor a b) ≡ xor (not a) b
    not_xor a b = grind arith

pub is_odd-count : {A : Type 0} (p : A → Bool) (xs : List A) → block_parity p xs ≡ tally p xs
is_odd-count p [] = refl
is_odd-count p (x ∷ xs) =
    ap is_odd (sum_by-cons (λ x. cond (p x) 1 0) x xs) ∙ is_odd-add (cond (p x) 1 0) (count_by p xs) ∙ ap₂ xor (one (p x)) (is_odd-count p xs)
  where
    one : (b : Bool) → is_odd (cond b 1 0) ≡ b
    one true = refl
    one false = refl
