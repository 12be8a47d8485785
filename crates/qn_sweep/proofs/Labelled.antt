-- Members with their labels as groups: which labels they have, and their numbers.
use Rattle.std.proofs.Common.{◌≡◌, ℕ, zero, suc, ◌+◌, ◌-◌, ◌*◌, ◌<◌, ◌≤◌, ℤ, pos, Bool, true, false, ◌||◌, ◌&&◌, cond, List, [], ◌∷◌, ◌++◌, length, map, reverse, refl, sym, ◌∙◌, ap, ap₂, subst, int_eq, arith, count_by, not}
use Rattle.std.specs.Prelude.{nat_lt}
use Rattle.std.proofs.lemmas.Bool.Decides.{nat_tests}
use Rattle.std.proofs.lemmas.List.{map-append, length-append}
use Rattle.std.proofs.lemmas.List.Sums.{sum_by-cons}
use Rattle.qn_sign.specs.Sign.{is_in}
use Rattle.qn_sign.proofs.Order.{is_in-append, is_in-perm, same_symm}
use Rattle.qn_index.specs.Legs.{LegValue}
use Rattle.qn_value.specs.Networks.{End, Bond, same_end, labels}
use Rattle.qn_value.specs.Labels.{Slot, slots_of, slots, ends, node_of, is_inward, is_positive, bond_at, bonds_from, in_label_order}
use Rattle.qn_value.proofs.Sums.{label_test, perm-map}
use Rattle.qn_value.proofs.LabelLemmas.{perm_order}
use Rattle.qn_block.proofs.Mirror.{reverse_cons}
use Rattle.qn_net.specs.Groups.{TensorGroup}
use Rattle.qn_net.specs.Plans.{start}
use Rattle.qn_net.specs.Members.{LabelledMember, member_tensor, placed_member, role_of}
use Rattle.qn_net.specs.NetworkValues.{member_of}
use Rattle.qn_net.specs.Refusals.{legs_with, positives_below, positives}
use Rattle.qn_sweep.proofs.Walk.{lab, turned, run}

-- a member as a group of its own
abbrev pub group_of : ℕ → LabelledMember → TensorGroup
group_of n x = record {
  number = n;
  node = node_of (placed_member x).placed;
  members = record { number = n; node = node_of (placed_member x).placed; flux = (placed_member x).placed.tensor.flux } ∷ [];
  summed = [];
  role = role_of x.member;
}

abbrev pub starts : ℕ → List LabelledMember → List TensorGroup
starts n [] = []
starts n (x ∷ xs) = group_of n x ∷ starts (suc n) xs

pub starts_are : (n : ℕ) (xs : List LabelledMember) → start n (map member_of (map placed_member xs)) ≡ starts n xs
starts_are n [] = refl
starts_are n (x ∷ xs) = ap (λ gs. group_of n x ∷ gs) (starts_are (suc n) xs)

pub starts-append : (n : ℕ) (xs ys : List LabelledMember) → starts n (xs ++ ys) ≡ starts n xs ++ starts (n + length xs) ys
starts-append n [] ys = ap (λ k. starts k ys) (omega arith)
starts-append n (x ∷ xs) ys = ap (λ gs. group_of n x ∷ gs) (starts-append (suc n) xs ys ∙ ap (λ k. starts (suc n) xs ++ starts k ys) (omega arith))

-- numbered from their number down to 1
abbrev pub down : List LabelledMember → List TensorGroup
down [] = []
down (x ∷ xs) = group_of (suc (length xs)) x ∷ down xs

length_reverse : (xs : List LabelledMember) → length (reverse xs) ≡ length xs
length_reverse [] = refl
length_reverse (x ∷ xs) =
    ap (λ ys. length ys) (reverse_cons x xs) ∙ length-append (reverse xs) (x ∷ []) ∙ ap (λ k. k + 1) (length_reverse xs) ∙ omega arith

pub starts_back : (xs : List LabelledMember) → starts 1 (reverse xs) ≡ turned (down xs)
starts_back [] = refl
starts_back (x ∷ xs) =
    ap (starts 1) (reverse_cons x xs) ∙ starts-append 1 (reverse xs) (x ∷ [])
    ∙ ap₂ (λ gs k. gs ++ (group_of k x ∷ [])) (starts_back xs) (ap (λ k. 1 + k) (length_reverse xs) ∙ omega arith)

pub back_long : (xs : List LabelledMember) → length (reverse xs) ≡ length xs
back_long = length_reverse

pub down_long : (xs : List LabelledMember) → length (down xs) ≡ length xs
down_long [] = refl
down_long (x ∷ xs) = ap suc (down_long xs)

pub starts_long : (n : ℕ) (xs : List LabelledMember) → length (starts n xs) ≡ length xs
starts_long n [] = refl
starts_long n (x ∷ xs) = ap suc (starts_long (suc n) xs)

-- as many labels as legs

abbrev pub HaveLabels : List LabelledMember → Type 0
HaveLabels [] = Unit {0}
HaveLabels (x ∷ xs) = (length x.labels ≡ length (member_tensor x.member).legs) × HaveLabels xs

pub have_first : (xs ys : List LabelledMember) → HaveLabels (xs ++ ys) → HaveLabels xs
have_first [] ys h = tt
have_first (x ∷ xs) ys h = (h.0, have_first xs ys h.1)

pub have_second : (xs ys : List LabelledMember) → HaveLabels (xs ++ ys) → HaveLabels ys
have_second [] ys h = h
have_second (x ∷ xs) ys h = have_second xs ys h.1

pub have_back : (xs : List LabelledMember) → HaveLabels (reverse xs) → HaveLabels xs
have_back [] h = tt
have_back (x ∷ xs) h =
    let k : HaveLabels (reverse xs ++ (x ∷ [])) = subst HaveLabels (reverse_cons x xs) h in
    ((have_second (reverse xs) (x ∷ []) k).0, have_back xs (have_first (reverse xs) (x ∷ []) k))

-- whether a label stands, with either arrow
abbrev pub stands : ℤ → List End → Bool
stands l es = is_in same_end (record { label = l; inward = true }) es || is_in same_end (record { label = l; inward = false }) es

pub stands_on : (l : ℤ) (gs : List LegValue) (ls : List ℤ) → length ls ≡ length gs → stands l (ends (slots_of gs ls)) ≡ is_in int_eq l ls
stands_on l [] [] e = refl
stands_on l [] (k ∷ ls) e = absurd (omega (arith, e))
stands_on l (g ∷ gs) [] e = absurd (omega (arith, e))
stands_on l (g ∷ gs) (k ∷ ls) e = go (is_inward g.arrow) ∙ ap (λ b. int_eq l k || b) (stands_on l gs ls (omega (arith, e)))
  where
    inner : (a x y : Bool) → (((a && true) || x) || ((a && false) || y)) ≡ (a || (x || y))
    inner a x y = grind arith

    outer : (a x y : Bool) → (((a && false) || x) || ((a && true) || y)) ≡ (a || (x || y))
    outer a x y = grind arith

    go : (i : Bool) → stands l (record { label = k; inward = i } ∷ ends (slots_of gs ls)) ≡ (int_eq l k || stands l (ends (slots_of gs ls)))
    go true = inner (int_eq l k) (is_in same_end (record { label = l; inward = true }) (ends (slots_of gs ls))) (is_in same_end (record { label = l; inward = false }) (ends (slots_of gs ls)))
    go false = outer (int_eq l k) (is_in same_end (record { label = l; inward = true }) (ends (slots_of gs ls))) (is_in same_end (record { label = l; inward = false }) (ends (slots_of gs ls)))

stands-append : (l : ℤ) (es fs : List End) → stands l (es ++ fs) ≡ (stands l es || stands l fs)
stands-append l es fs =
    ap₂ ◌||◌ (is_in-append same_end (record { label = l; inward = true }) es fs) (is_in-append same_end (record { label = l; inward = false }) es fs)
    ∙ turn (is_in same_end (record { label = l; inward = true }) es) (is_in same_end (record { label = l; inward = true }) fs)
    (is_in same_end (record { label = l; inward = false }) es) (is_in same_end (record { label = l; inward = false }) fs)
  where
    turn : (a b c d : Bool) → ((a || b) || (c || d)) ≡ ((a || c) || (b || d))
    turn a b c d = grind arith

-- whether one of the members has the label
abbrev pub any_has : ℤ → List LabelledMember → Bool
any_has l [] = false
any_has l (x ∷ xs) = is_in int_eq l x.labels || any_has l xs

pub any-append : (l : ℤ) (xs ys : List LabelledMember) → any_has l (xs ++ ys) ≡ (any_has l xs || any_has l ys)
any-append l [] ys = refl
any-append l (x ∷ xs) ys = ap (λ b. is_in int_eq l x.labels || b) (any-append l xs ys) ∙ turn (is_in int_eq l x.labels) (any_has l xs) (any_has l ys)
  where
    turn : (a b c : Bool) → (a || (b || c)) ≡ ((a || b) || c)
    turn a b c = grind arith

pub any-back : (l : ℤ) (xs : List LabelledMember) → any_has l (reverse xs) ≡ any_has l xs
any-back l [] = refl
any-back l (x ∷ xs) =
    ap (any_has l) (reverse_cons x xs) ∙ any-append l (reverse xs) (x ∷ []) ∙ ap (λ b. b || (is_in int_eq l x.labels || false)) (any-back l xs)
    ∙ turn (any_has l xs) (is_in int_eq l x.labels)
  where
    turn : (a b : Bool) → (a || (b || false)) ≡ (b || a)
    turn a b = grind arith

pub stands_all : (l : ℤ) (xs : List LabelledMember) → HaveLabels xs → stands l (ends (slots (map (λ m. m.placed) (map placed_member xs)))) ≡ any_has l xs
stands_all l [] h = refl
stands_all l (x ∷ xs) h =
    ap (stands l) (map-append (λ (s : Slot). s.end) (slots_of (member_tensor x.member).legs x.labels) (slots (map (λ m. m.placed) (map placed_member xs))))
    ∙ stands-append l (ends (slots_of (member_tensor x.member).legs x.labels)) (ends (slots (map (λ m. m.placed) (map placed_member xs))))
    ∙ ap₂ ◌||◌ (stands_on l (member_tensor x.member).legs x.labels h.0) (stands_all l xs h.1)

-- how many legs have the label
pub counted : (l : ℤ) (es : List End) → nat_lt 0 (legs_with l es) ≡ stands l es
counted l [] = refl
counted l (e ∷ es) =
    ap (nat_lt 0) (sum_by-cons (λ (f : End). cond (int_eq f.label l) 1 0) e es) ∙ go (int_eq e.label l) refl (counted l es)
  where
    other : int_eq e.label l ≡ false → int_eq l e.label ≡ false
    other h = same_symm int_eq label_test e.label l h

    some : (k : ℕ) → nat_lt 0 (1 + k) ≡ true
    some k = grind (arith, nat_tests)

    none : (k : ℕ) → nat_lt 0 (0 + k) ≡ nat_lt 0 k
    none k = ap (nat_lt 0) (omega arith)

    met : (i : Bool) (a x y : Bool) → a ≡ true → stands l (record { label = l; inward = i } ∷ es) ≡ true
    met true a x y e = first (int_eq l l) (is_in same_end (record { label = l; inward = true }) es) (is_in same_end (record { label = l; inward = false }) es) (label_test.itself l)
      where
        first : (a x y : Bool) → a ≡ true → (((a && true) || x) || ((a && false) || y)) ≡ true
        first a x y h = grind arith
    met false a x y e = second (int_eq l l) (is_in same_end (record { label = l; inward = true }) es) (is_in same_end (record { label = l; inward = false }) es) (label_test.itself l)
      where
        second : (a x y : Bool) → a ≡ true → (((a && false) || x) || ((a && true) || y)) ≡ true
        second a x y h = grind arith

    skip : (a : Bool) (s t x y : Bool) → a ≡ false → (((a && s) || x) || ((a && t) || y)) ≡ (x || y)
    skip a s t x y h = grind arith

    go : (b : Bool) → int_eq e.label l ≡ b → nat_lt 0 (legs_with l es) ≡ stands l es → nat_lt 0 (cond b 1 0 + legs_with l es) ≡ stands l (e ∷ es)
    go true h ih = some (legs_with l es) ∙ sym (ap (λ k. stands l (record { label = k; inward = e.inward } ∷ es)) (label_test.equal e.label l h) ∙ met e.inward true false false refl)
    go false h ih = none (legs_with l es) ∙ ih ∙ sym (skip (int_eq l e.label) _ _ (is_in same_end (record { label = l; inward = true }) es) (is_in same_end (record { label = l; inward = false }) es) (other h))

-- the labels with the numbers below k
abbrev pub up : ℕ → List ℤ
up zero = []
up (suc k) = up k ++ (lab k ∷ [])

pub order_is : (es : List End) (q : ℕ) → legs_with (pos 0) es ≡ 0 → ((y : ℕ) → stands (lab y) es ≡ nat_lt y q) → q ≤ 1024 → positives es ≡ up q
unfolding positives
order_is es q zero_off on le = ap (positives_below es) (number q le) ∙ many (1024 - q)
  where
    number : (q : ℕ) → q ≤ 1024 → 1025 ≡ suc (q + (1024 - q))
    number q h = omega (arith, h)

    none_more : (q : ℕ) → q + 0 ≡ q
    none_more q = omega arith

    one_more : (q r : ℕ) → q + suc r ≡ suc (q + r)
    one_more q r = omega arith

    append_nil : (xs : List ℤ) → xs ++ [] ≡ xs
    append_nil [] = refl
    append_nil (x ∷ xs) = ap (λ ys. x ∷ ys) (append_nil xs)

    inside : (y : ℕ) → y < q → nat_lt 0 (legs_with (lab y) es) ≡ true
    inside y lt = counted (lab y) es ∙ on y ∙ grind (arith, nat_tests)

    outside : (y : ℕ) → q ≤ y → nat_lt 0 (legs_with (lab y) es) ≡ false
    outside y h = counted (lab y) es ∙ on y ∙ grind (arith, nat_tests)

    few : (k : ℕ) → k ≤ q → positives_below es (suc k) ≡ up k
    few zero h = ap (λ k. [] ++ cond (nat_lt 0 k) (pos 0 ∷ []) []) zero_off
    few (suc k) h = ap₂ (λ xs b. xs ++ cond b (lab k ∷ []) []) (few k (omega (arith, h))) (inside k h)

    many : (r : ℕ) → positives_below es (suc (q + r)) ≡ up q
    many zero = ap (λ k. positives_below es (suc k)) (none_more q) ∙ few q (omega arith)
    many (suc r) =
        ap (λ k. positives_below es (suc k)) (one_more q r)
        ∙ ap₂ (λ xs b. xs ++ cond b (lab (q + r) ∷ []) []) (many r) (outside (q + r) (omega arith))
        ∙ append_nil (up q)

-- and as the labels of sites

ups : ℕ → ℕ → List ℤ
ups y zero = []
ups y (suc k) = lab y ∷ ups (suc y) k

ups_more : (y k : ℕ) → ups y (suc k) ≡ ups y k ++ (lab (y + k) ∷ [])
unfolding ups
ups_more y zero = ap (λ i. lab i ∷ []) (omega arith)
ups_more y (suc k) = ap (λ ls. lab y ∷ ls) (ups_more (suc y) k ∙ ap (λ i. ups (suc y) k ++ (lab i ∷ [])) (omega arith))

up_is : (k : ℕ) → up k ≡ ups 0 k
unfolding ups
up_is zero = refl
up_is (suc k) = ap₂ (λ ls i. ls ++ (lab i ∷ [])) (up_is k) (omega arith) ∙ sym (ups_more 0 k)

ups_run : (p m : ℕ) → ups p (5 * m) ≡ run p m
unfolding ups
ups_run p zero = refl
ups_run p (suc m) =
    ap (ups p) (five m)
    ∙ (λ i. lab p ∷ lab (suc_is p 1 (add1 p) i) ∷ lab (suc_is p 2 (add2 p) i) ∷ lab (suc_is p 3 (add3 p) i) ∷ lab (suc_is p 4 (add4 p) i) ∷ ups (add5 p i) (5 * m))
    ∙ ap (λ ls. lab p ∷ lab (p + 1) ∷ lab (p + 2) ∷ lab (p + 3) ∷ lab (p + 4) ∷ ls) (ups_run (p + 5) m)
  where
    suc_is : (p k : ℕ) {x : ℕ} → x ≡ p + k → x ≡ p + k
    suc_is p k e = e

    five : (m : ℕ) → 5 * suc m ≡ suc (suc (suc (suc (suc (5 * m)))))
    five m = omega arith

    add1 : (p : ℕ) → suc p ≡ p + 1
    add1 p = omega arith

    add2 : (p : ℕ) → suc (suc p) ≡ p + 2
    add2 p = omega arith

    add3 : (p : ℕ) → suc (suc (suc p)) ≡ p + 3
    add3 p = omega arith

    add4 : (p : ℕ) → suc (suc (suc (suc p))) ≡ p + 4
    add4 p = omega arith

    add5 : (p : ℕ) → suc (suc (suc (suc (suc p)))) ≡ p + 5
    add5 p = omega arith

pub up_run : (q m : ℕ) → q ≡ 2 + 5 * m → up q ≡ lab 0 ∷ lab 1 ∷ run 2 m
unfolding ups
up_run q m e = ap up (e ∙ two m) ∙ up_is (suc (suc (5 * m))) ∙ ap (λ ls. lab 0 ∷ lab 1 ∷ ls) (ups_run 2 m)
  where
    two : (m : ℕ) → 2 + 5 * m ≡ suc (suc (5 * m))
    two m = omega arith

-- the labels of the lines that are summed

bonds_labels : (tw : List ℤ) (ss : List Slot) (l : ℤ) → is_in int_eq l (labels (bonds_from tw ss)) ≡ (is_positive l && is_in same_end (record { label = l; inward = true }) (ends ss))
bonds_labels tw [] l = nothing (is_positive l)
  where
    nothing : (p : Bool) → false ≡ (p && false)
    nothing p = grind arith
bonds_labels tw (s ∷ ss) l =
    go s.end.inward (is_positive s.end.label) refl (bonds_labels tw ss l)
  where
    same_sign : int_eq l s.end.label ≡ true → is_positive l ≡ is_positive s.end.label
    same_sign e = ap is_positive (label_test.equal l s.end.label e)

    kept : (q p r r' : Bool) → (q ≡ true → p ≡ true) → r ≡ (p && r') → (q || r) ≡ (p && ((q && true) || r'))
    kept true p r r' h e = sym (ap (λ b. b && true) (h refl))
    kept false p r r' h e = e

    passed : (q p r r' : Bool) → r ≡ (p && r') → r ≡ (p && ((q && false) || r'))
    passed q p r r' e = grind arith

    dropped : (q p r r' : Bool) → (q ≡ true → p ≡ false) → r ≡ (p && r') → r ≡ (p && ((q && true) || r'))
    dropped true p r r' h e = e ∙ ap (λ b. b && r') (h refl) ∙ sym (ap (λ b. b && true) (h refl))
    dropped false p r r' h e = e

    go : (i b : Bool) → is_positive s.end.label ≡ b → is_in int_eq l (labels (bonds_from tw ss)) ≡ (is_positive l && is_in same_end (record { label = l; inward = true }) (ends ss)) →
        is_in int_eq l (labels (cond (i && b) (bond_at tw s ∷ bonds_from tw ss) (bonds_from tw ss)))
        ≡ (is_positive l && ((int_eq l s.end.label && i) || is_in same_end (record { label = l; inward = true }) (ends ss)))
    go true true e ih = kept (int_eq l s.end.label) (is_positive l) _ _ (λ q. same_sign q ∙ e) ih
    go true false e ih = dropped (int_eq l s.end.label) (is_positive l) _ _ (λ q. same_sign q ∙ e) ih
    go false b e ih = passed (int_eq l s.end.label) (is_positive l) _ _ ih

pub lines_are : (tw : List ℤ) (ss : List Slot) (y : ℕ) → is_in int_eq (lab y) (labels (in_label_order (bonds_from tw ss))) ≡ is_in same_end (record { label = lab y; inward = true }) (ends ss)
lines_are tw ss y =
    sym (is_in-perm int_eq (lab y) (perm-map (λ (b : Bond). b.label) (perm_order (bonds_from tw ss))))
    ∙ bonds_labels tw ss (lab y) ∙ ap (λ b. b && is_in same_end (record { label = lab y; inward = true }) (ends ss)) (above y)
  where
    above : (y : ℕ) → is_positive (lab y) ≡ true
    above y = grind (arith, nat_tests)

-- labels that are all positive

abbrev pub ArePositive : List ℤ → Type 0
ArePositive [] = Unit {0}
ArePositive (l ∷ ls) = (is_positive l ≡ true) × ArePositive ls

abbrev pub HavePositive : List LabelledMember → Type 0
HavePositive [] = Unit {0}
HavePositive (x ∷ xs) = ArePositive x.labels × HavePositive xs

pub positive-append : (ls ks : List ℤ) → ArePositive ls → ArePositive ks → ArePositive (ls ++ ks)
positive-append [] ks h k = k
positive-append (l ∷ ls) ks h k = (h.0, positive-append ls ks h.1 k)

pub positives-both : (xs ys : List LabelledMember) → HavePositive xs → HavePositive ys → HavePositive (xs ++ ys)
positives-both [] ys h k = k
positives-both (x ∷ xs) ys h k = (h.0, positives-both xs ys h.1 k)

pub positives-back : (xs : List LabelledMember) → HavePositive xs → HavePositive (reverse xs)
positives-back [] h = tt
positives-back (x ∷ xs) h = subst HavePositive (sym (reverse_cons x xs)) (positives-both (reverse xs) (x ∷ []) (positives-back xs h.1) (h.0, tt))

pub positive-reverse : (ls : List ℤ) → ArePositive ls → ArePositive (reverse ls)
positive-reverse [] h = tt
positive-reverse (l ∷ ls) h = subst ArePositive (sym (reverse_cons l ls)) (positive-append (reverse ls) (l ∷ []) (positive-reverse ls h.1) (h.0, tt))

abbrev open_number : List End → ℕ
open_number es = count_by (λ e. not (is_positive e.label)) es

open-append : (es fs : List End) → open_number es ≡ 0 → open_number fs ≡ 0 → open_number (es ++ fs) ≡ 0
open-append [] fs h k = k
open-append (e ∷ es) fs h k =
    let a = sum_by-cons (λ (f : End). cond (not (is_positive f.label)) 1 0) e (es ++ fs) in
    let b = sum_by-cons (λ (f : End). cond (not (is_positive f.label)) 1 0) e es in
    go (cond (not (is_positive e.label)) 1 0) (open_number es) (open_number (es ++ fs)) (open_number (e ∷ es)) (open_number (e ∷ (es ++ fs))) a b h (λ z. open-append es fs z k)
  where
    go : (w x y u v : ℕ) → v ≡ w + y → u ≡ w + x → u ≡ 0 → (x ≡ 0 → y ≡ 0) → v ≡ 0
    go w x y u v a b h f = let z : x ≡ 0 = omega (arith, b, h) in let r = f z in omega (arith, a, b, h, r)

closed_slots : (gs : List LegValue) (ls : List ℤ) → ArePositive ls → open_number (ends (slots_of gs ls)) ≡ 0
closed_slots [] ls h = refl
closed_slots (g ∷ gs) [] h = refl
closed_slots (g ∷ gs) (l ∷ ls) h =
    sum_by-cons (λ (f : End). cond (not (is_positive f.label)) 1 0) (record { label = l; inward = is_inward g.arrow }) (ends (slots_of gs ls))
    ∙ ap₂ (λ b k. cond (not b) 1 0 + k) h.0 (closed_slots gs ls h.1)

pub closed_all : (xs : List LabelledMember) → HavePositive xs → open_number (ends (slots (map (λ m. m.placed) (map placed_member xs)))) ≡ 0
closed_all [] h = refl
closed_all (x ∷ xs) h =
    ap open_number (map-append (λ (s : Slot). s.end) (slots_of (member_tensor x.member).legs x.labels) (slots (map (λ m. m.placed) (map placed_member xs))))
    ∙ open-append (ends (slots_of (member_tensor x.member).legs x.labels)) (ends (slots (map (λ m. m.placed) (map placed_member xs))))
    (closed_slots (member_tensor x.member).legs x.labels h.0) (closed_all xs h.1)
