-- A table contracted with a tensor, at values of the open legs that match values of the old ones.
use Rattle.std.proofs.Common.{◌≡◌, ℕ, ℤ, Bool, true, false, not, ◌&&◌, List, [], ◌∷◌, ◌++◌, refl, sym, ◌∙◌, ap, ap₂, subst, append-nil, map, arith, int_eq}
use Rattle.std.proofs.lemmas.Bool.{or_left, or_right}
use Rattle.qn_sign.specs.Sign.{is_in, xor, IsDistinct, Perm}
use Rattle.qn_gauss.specs.Gaussian.{Gaussian, zero_g, one_g, mul_g, signed}
use Rattle.qn_value.specs.Networks.{End, Node, Bond, Assignment, Parities, same_end, pairs_of, word, goal, odd_end, twist_sign, sign, values, product, flat, labels, IsNetwork}
use Rattle.qn_value.specs.Tensors.{same_values}
use Rattle.qn_value.specs.Rows.{when, AreBelow}
use Rattle.qn_value.specs.Twists.{odd_among}
use Rattle.qn_fuse.specs.Contractions.{flip, backwards, bonds_over}
use Rattle.qn_sign.proofs.Parity.{tally, pairs, tally-append}
use Rattle.qn_sign.proofs.Order.{is_in-append, distinct-perm, distinct_first, distinct_second, distinct_parts_back}
use Rattle.qn_sign.proofs.SignLaws.{turned}
use Rattle.qn_gauss.proofs.Ring.{mul_comm, mul_one, mul_zero}
use Rattle.qn_gauss.proofs.Signs.{signed-mul, signed-twice, signed-zero}
use Rattle.qn_value.proofs.Sums.{Meets}
use Rattle.qn_value.proofs.NetLaws.{end_test, sign-pairs, ends-labels, labels_distinct, bonds_even, values-agree}
use Rattle.qn_value.proofs.Values.{same_values-equal}
use Rattle.qn_value.proofs.RowsLemmas.{values-append}
use Rattle.qn_fuse.proofs.TableSigns.{AreEven, table_sign, start_perm}
use Rattle.qn_fuse.proofs.TableSums.{Off, at_one}

flip_value : (l : ℤ) (i : Bool) (c : Assignment) → c (record { label = l; inward = true }) ≡ c (record { label = l; inward = false }) →
    c (record { label = l; inward = not i }) ≡ c (record { label = l; inward = i })
flip_value l true c e = sym e
flip_value l false c e = e

pub flip_values : (dims : ℤ → ℕ) (es : List End) (c : Assignment) → Meets (bonds_over dims es) c → values (map flip es) c ≡ values es c
flip_values dims [] c m = refl
flip_values dims (e ∷ es) c m = ap₂ ◌∷◌ (flip_value e.label e.inward c m.0) (flip_values dims es c m.1)

flip_even : (par : Parities) (dims : ℤ → ℕ) (es : List End) (c : Assignment) → Meets (bonds_over dims es) c → AreEven dims (odd_end par c) es
flip_even par dims [] c m = tt
flip_even par dims (e ∷ es) c m = (ap (par e.label) (flip_value e.label e.inward c m.0), flip_even par dims es c m.1)

among_tally : (par : Parities) (test : End → Bool) (es : List End) (c : Assignment) → odd_among par test es (values es c) ≡ tally (λ e. test e && odd_end par c e) es
among_tally par test [] c = refl
among_tally par test (e ∷ es) c = ap (xor (test e && odd_end par c e)) (among_tally par test es c)

tally-back : (dims : ℤ → ℕ) (odd : End → Bool) (es : List End) → AreEven dims odd es → tally odd (backwards (map flip es)) ≡ tally odd es
tally-back dims odd [] h = refl
tally-back dims odd (e ∷ es) h =
    tally-append odd (backwards (map flip es)) (flip e ∷ []) ∙ turn (tally odd (backwards (map flip es))) (tally odd es) (odd (flip e)) (odd e) (tally-back dims odd es h.1) h.0
  where
    turn : (p q r s : Bool) → p ≡ q → r ≡ s → xor p (xor r false) ≡ xor s q
    turn p q r s e f = grind arith

untwisted : (par : Parities) (dims : ℤ → ℕ) (es : List End) (c : Assignment) → twist_sign par (bonds_over dims es) c ≡ false
untwisted par dims [] c = refl
untwisted par dims (e ∷ es) c = untwisted par dims es c

-- a table whose entry at these values of its new legs is 1 where the old legs have just these values, or -1 by its inward old legs
pub record IsTable (par : Parities) (dims : ℤ → ℕ) (new old : List End) (tab : Node) (us vs : List ℕ) : Type 0 where
  pub legs : tab.ends ≡ new ++ backwards (map flip old)
  pub entry : (c : Assignment) → values new c ≡ us → tab.entry (values tab.ends c) ≡
      when (same_values vs (values (map flip old) c)) (signed (odd_among par (λ e. e.inward) old (values (map flip old) c)) one_g)
  pub below : AreBelow dims old vs
  pub even : odd_among par (λ e. true) new us ≡ odd_among par (λ e. true) old vs

module _ (par : Parities) (dims : ℤ → ℕ) (first new old rest : List End) (tab t : Node) (legs : t.ends ≡ first ++ (old ++ rest)) (us vs : List ℕ) (is : IsTable par dims new old tab us vs) where
  abbrev opens : List End
  opens = first ++ (new ++ rest)

  abbrev bs : List Bond
  bs = bonds_over dims old

  module _ (net : IsNetwork (tab ∷ t ∷ []) bs opens) (a : Assignment) (at : values new a ≡ us) where
    goal_distinct : IsDistinct same_end (goal bs opens)
    goal_distinct = distinct-perm same_end end_test net.complete net.distinct

    bonds_distinct : IsDistinct int_eq (labels bs)
    bonds_distinct = labels_distinct bs (distinct_first same_end (pairs_of bs) opens goal_distinct)

    open_label : (x : End) → is_in same_end x opens ≡ true → is_in int_eq x.label (labels bs) ≡ false
    open_label x l = sym (ends-labels x bs) ∙ distinct_parts_back same_end end_test x (pairs_of bs) opens goal_distinct l

    in_first : (x : End) → is_in same_end x first ≡ true → is_in same_end x opens ≡ true
    in_first x l = is_in-append same_end x first (new ++ rest) ∙ or_left (is_in same_end x first) (is_in same_end x (new ++ rest)) l

    in_new : (x : End) → is_in same_end x new ≡ true → is_in same_end x opens ≡ true
    in_new x l =
        is_in-append same_end x first (new ++ rest)
        ∙ or_right (is_in same_end x first) (is_in same_end x (new ++ rest)) (is_in-append same_end x new rest ∙ or_left (is_in same_end x new) (is_in same_end x rest) l)

    in_rest : (x : End) → is_in same_end x rest ≡ true → is_in same_end x opens ≡ true
    in_rest x l =
        is_in-append same_end x first (new ++ rest)
        ∙ or_right (is_in same_end x first) (is_in same_end x (new ++ rest)) (is_in-append same_end x new rest ∙ or_right (is_in same_end x new) (is_in same_end x rest) l)

    -- the open legs' values stay
    stay : (es : List End) → ((x : End) → is_in same_end x es ≡ true → is_in same_end x opens ≡ true) → (c : Assignment) → Off dims old a c → values es c ≡ values es a
    stay es h c o = values-agree es c a (λ x l. o x (open_label x (h x l)))

    abbrev term : Assignment → Gaussian
    term c = signed (sign par (tab ∷ t ∷ []) bs opens c) (product (tab ∷ t ∷ []) c)

    -- where an entry counts, the sign of the order is that of the table
    sign_is : (c : Assignment) → Off dims old a c → Meets bs c → values old c ≡ vs → sign par (tab ∷ t ∷ []) bs opens c ≡ odd_among par (λ e. e.inward) old (values old c)
    sign_is c o m f =
        let even : AreEven dims (odd_end par c) old = flip_even par dims old c m in
        let all : tally (odd_end par c) new ≡ tally (odd_end par c) old =
        sym (among_tally par (λ e. true) new c) ∙ ap (odd_among par (λ e. true) new) (stay new in_new c o ∙ at) ∙ is.even ∙ ap (odd_among par (λ e. true) old) (sym f) ∙ among_tally par (λ e. true) old c in
        let split : tab.ends ++ (t.ends ++ []) ≡ (new ++ backwards (map flip old)) ++ (first ++ (old ++ rest)) = ap₂ ◌++◌ is.legs (append-nil t.ends ∙ legs) in
        ap₂ xor (untwisted par dims old c) (sign-pairs par (tab ∷ t ∷ []) bs opens c)
        ∙ ap (λ (w : List End). pairs (turned same_end (odd_end par c) w) (goal bs opens)) split
        ∙ table_sign dims (odd_end par c) first new old rest (subst (IsDistinct same_end) split net.distinct) even
        (tally-append (odd_end par c) new (backwards (map flip old))
        ∙ none (tally (odd_end par c) new) (tally (odd_end par c) old) (tally (odd_end par c) (backwards (map flip old))) all (tally-back dims (odd_end par c) old even))
        (bonds_even par c bs m)
        ∙ sym (among_tally par (λ e. e.inward) old c)
      where
        none : (p q r : Bool) → p ≡ q → r ≡ q → xor p r ≡ false
        none p q r e f = grind arith

    entry_is : (c : Assignment) → Off dims old a c → t.entry (values t.ends c) ≡ t.entry (values first a ++ (values old c ++ values rest a))
    entry_is c o =
        ap t.entry (ap (λ es. values es c) legs ∙ values-append first (old ++ rest) c
        ∙ ap₂ ◌++◌ (stay first in_first c o) (values-append old rest c ∙ ap (λ ys. values old c ++ ys) (stay rest in_rest c o)))

    table_is : (c : Assignment) → Off dims old a c → Meets bs c → tab.entry (values tab.ends c) ≡ when (same_values vs (values old c)) (signed (odd_among par (λ e. e.inward) old (values old c)) one_g)
    table_is c o m =
        is.entry c (stay new in_new c o ∙ at)
        ∙ ap (λ ys. when (same_values vs ys) (signed (odd_among par (λ e. e.inward) old ys) one_g)) (flip_values dims old c m)

    one_term : (c : Assignment) → Off dims old a c → Meets bs c → term c ≡ when (same_values vs (values old c)) (t.entry (values first a ++ (vs ++ values rest a)))
    one_term c o m =
        ap₂ (λ x y. signed (sign par (tab ∷ t ∷ []) bs opens c) (mul_g x (mul_g y one_g))) (table_is c o m) (entry_is c o) ∙ go (same_values vs (values old c)) refl
      where
        own : Bool
        own = odd_among par (λ e. e.inward) old (values old c)

        value : List ℕ → Gaussian
        value ys = t.entry (values first a ++ (ys ++ values rest a))

        cancel : (s : Bool) (x : Gaussian) → signed s (mul_g (signed s one_g) (mul_g x one_g)) ≡ x
        cancel s x =
            ap (signed s) (signed-mul s one_g (mul_g x one_g) ∙ ap (signed s) (mul_comm one_g (mul_g x one_g) ∙ mul_one (mul_g x one_g) ∙ mul_one x))
            ∙ signed-twice s x

        go : (b : Bool) → same_values vs (values old c) ≡ b →
            signed (sign par (tab ∷ t ∷ []) bs opens c) (mul_g (when b (signed own one_g)) (mul_g (value (values old c)) one_g)) ≡ when b (value vs)
        go false e =
            ap (signed (sign par (tab ∷ t ∷ []) bs opens c)) (mul_comm zero_g (mul_g (value (values old c)) one_g) ∙ mul_zero (mul_g (value (values old c)) one_g))
            ∙ signed-zero (sign par (tab ∷ t ∷ []) bs opens c)
        go true e =
            let same : vs ≡ values old c = same_values-equal vs (values old c) e in
            ap (λ s. signed s (mul_g (signed own one_g) (mul_g (value (values old c)) one_g))) (sign_is c o m (sym same))
            ∙ cancel own (value (values old c))
            ∙ ap value (sym same)

    -- the value of the network
    pub table_value : flat par (tab ∷ t ∷ []) bs opens a ≡ t.entry (values first a ++ (vs ++ values rest a))
    table_value = at_one dims old term a vs (t.entry (values first a ++ (vs ++ values rest a))) bonds_distinct is.below (λ c o m. one_term c o m)

-- a table and a tensor are a network if no leg stands twice
pub table_network : (dims : ℤ → ℕ) (first new old rest : List End) (tab t : Node) → tab.ends ≡ new ++ backwards (map flip old) → t.ends ≡ first ++ (old ++ rest) → IsDistinct same_end (word (tab ∷ t ∷ [])) →
    IsNetwork (tab ∷ t ∷ []) (bonds_over dims old) (first ++ (new ++ rest))
table_network dims first new old rest tab t e l d = record {
  distinct = d;
  complete = subst (λ (w : List End). Perm w (goal (bonds_over dims old) (first ++ (new ++ rest)))) (sym (ap₂ ◌++◌ e (append-nil t.ends ∙ l))) (start_perm dims (λ x. true) first new old rest);
}

-- the open legs of a network are all different
pub goal_opens : (dims : ℤ → ℕ) (first new old rest : List End) (tab t : Node) → IsNetwork (tab ∷ t ∷ []) (bonds_over dims old) (first ++ (new ++ rest)) → IsDistinct same_end (first ++ (new ++ rest))
goal_opens dims first new old rest tab t net =
    distinct_second same_end (pairs_of (bonds_over dims old)) (first ++ (new ++ rest)) (distinct-perm same_end end_test net.complete net.distinct)
