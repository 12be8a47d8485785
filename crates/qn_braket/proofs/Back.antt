-- A word and a goal read from the last to the first have the same sign.
use Rattle.std.proofs.Common.{◌≡◌, Bool, true, false, not, ◌&&◌, ◌||◌, List, [], ◌∷◌, ◌++◌, refl, sym, ◌∙◌, ap, ap₂, subst, append-nil, map, reverse, arith}
use Rattle.std.proofs.lemmas.Bool.{or_left, or_right, false≢true}
use Rattle.qn_sign.specs.Sign.{xor, is_in, stands_before, IsTest, IsDistinct, Perm}
use Rattle.qn_sign.specs.Sign.Perm.{none, then_by}
use Rattle.qn_sign.proofs.Parity.{tally, pairs, tally-append, tally-perm, perm-sym, perm_blocks, perm_under}
use Rattle.qn_sign.proofs.Order.{is_in-perm, before_in, before_absent, before_alone, before_apart, before_is_in}
use Rattle.qn_sign.proofs.SignLaws.{turned, pairs-congr}
use Rattle.qn_block.proofs.Mirror.{reverse_cons}

pub reverse-map : {A B : Type 0} (f : A → B) (xs : List A) → reverse (map f xs) ≡ map f (reverse xs)
reverse-map f [] = refl
reverse-map {A = A} f (x ∷ xs) =
    reverse_cons (f x) (map f xs) ∙ ap (λ zs. zs ++ f x ∷ []) (reverse-map f xs) ∙ sym (snoc (reverse xs)) ∙ ap (map f) (sym (reverse_cons x xs))
  where
    snoc : (ys : List A) → map f (ys ++ x ∷ []) ≡ map f ys ++ f x ∷ []
    snoc [] = refl
    snoc (y ∷ ys) = ap (λ zs. f y ∷ zs) (snoc ys)

pub perm_reverse : {A : Type 0} (xs : List A) → Perm xs (reverse xs)
perm_reverse [] = none
perm_reverse (x ∷ xs) =
    subst (Perm (x ∷ xs)) (sym (reverse_cons x xs))
    (then_by (perm_under (x ∷ []) (perm_reverse xs)) (subst (λ zs. Perm (x ∷ zs) (reverse xs ++ x ∷ [])) (append-nil (reverse xs)) (perm_blocks (x ∷ []) (reverse xs) [])))

pub pairs-reverse : {A : Type 0} (r : A → A → Bool) (xs : List A) → pairs r (reverse xs) ≡ pairs (λ x y. r y x) xs
pairs-reverse r [] = refl
pairs-reverse {A = A} r (x ∷ xs) =
    ap (pairs r) (reverse_cons x xs) ∙ snoc (reverse xs) ∙ ap₂ xor (tally-perm (λ y. r y x) (perm-sym (perm_reverse xs))) (pairs-reverse r xs)
  where
    move : (t y p q : Bool) → xor (xor t (xor y false)) (xor p q) ≡ xor (xor y p) (xor t q)
    move t y p q = grind arith

    snoc : (ys : List A) → pairs r (ys ++ x ∷ []) ≡ xor (tally (λ y. r y x) ys) (pairs r ys)
    snoc [] = refl
    snoc (y ∷ ys) = rw (tally-append (r y) ys (x ∷ []), snoc ys) (move (tally (r y) ys) (r y x) (tally (λ y. r y x) ys) (pairs r ys))

module _ {E : Type 0} (same : E → E → Bool) (law : IsTest same) where
  is_in-reverse : (x : E) (w : List E) → is_in same x (reverse w) ≡ is_in same x w
  is_in-reverse x w = sym (is_in-perm same x (perm_reverse w))

  -- two different elements of the list
  before-reverse : (x y : E) (w : List E) → IsDistinct same w → is_in same x w ≡ true → is_in same y w ≡ true → same x y ≡ false →
      stands_before same (reverse w) x y ≡ stands_before same w y x
  before-reverse x y [] d h k n = refl
  before-reverse x y (z ∷ w) d h k n =
      ap (λ v. stands_before same v x y) (reverse_cons z w) ∙ go (same x z) refl (same y z) refl h k (λ i j. before-reverse x y w d.1 i j n)
    where
      absent : (u : E) → same u z ≡ true → is_in same u (reverse w) ≡ false
      absent u e = is_in-reverse u w ∙ subst (λ v. is_in same v w ≡ false) (sym (law.equal u z e)) d.0

      go : (p : Bool) → same x z ≡ p → (q : Bool) → same y z ≡ q → (p || is_in same x w) ≡ true → (q || is_in same y w) ≡ true →
          (is_in same x w ≡ true → is_in same y w ≡ true → stands_before same (reverse w) x y ≡ stands_before same w y x) →
          stands_before same (reverse w ++ z ∷ []) x y ≡ (not p && (q || stands_before same w y x))
      go true e true f i j ih = absurd (false≢true (sym n ∙ subst (λ v. same x v ≡ true) (law.equal x z e ∙ sym (law.equal y z f)) (law.itself x)))
      go true e false f i j ih =
          before_in same x y (reverse w) (z ∷ []) (or_right (is_in same x (reverse w)) (is_in same y (reverse w)) (is_in-reverse y w ∙ j))
          ∙ before_absent same x y (reverse w) (absent x e)
      go false e true f i j ih =
          before_in same x y (reverse w) (z ∷ []) (or_left (is_in same x (reverse w)) (is_in same y (reverse w)) (is_in-reverse x w ∙ i))
          ∙ before_alone same x y (reverse w) (is_in-reverse x w ∙ i) (absent y f)
      go false e false f i j ih =
          before_in same x y (reverse w) (z ∷ []) (or_left (is_in same x (reverse w)) (is_in same y (reverse w)) (is_in-reverse x w ∙ i))
          ∙ ih i j

  pub back_word : (odd : E → Bool) (w g : List E) → IsDistinct same w → IsDistinct same g → Perm w g →
      pairs (turned same odd (reverse w)) (reverse g) ≡ pairs (turned same odd w) g
  back_word odd w g dw dg m =
      pairs-reverse (turned same odd (reverse w)) g
      ∙ pairs-congr same law (λ x y. turned same odd (reverse w) y x) (turned same odd w) g dg
      (λ x y b k. at_pair (odd x) (odd y) (stands_before same (reverse w) x y) (stands_before same w y x)
      (before-reverse x y w dw (is_in-perm same x m ∙ before_is_in same x y g b) (is_in-perm same y m ∙ k) (before_apart same law x y g b)))
    where
      at_pair : (a b u v : Bool) → u ≡ v → ((b && a) && u) ≡ ((a && b) && v)
      at_pair a b u v e = grind arith
