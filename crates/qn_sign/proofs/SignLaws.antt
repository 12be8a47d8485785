use Rattle.std.proofs.Common.{◌≡◌, Bool, true, false, not, ◌&&◌, ◌||◌, List, [], ◌∷◌, ◌++◌, refl, sym, ◌∙◌, ap, ap₂, count_by, subst, arith}
use Rattle.std.proofs.lemmas.Bool.{or_parts, or_left, or_right}
use Rattle.qn_sign.specs.Sign.{xor, is_in, stands_before, exchanges, exchange_sign, IsTest, IsDistinct, Perm}
use Rattle.qn_sign.specs.Sign.Perm.{then_by}
use Rattle.qn_sign.proofs.Parity.{is_odd-add, is_odd-count, tally, pairs, cross, xor_comm, tally_none, perm-refl, perm-sym, pairs-xor, pairs-perm, cross-flip, cross-xor, cross_product, perm_under, perm_blocks, pairs-exchange}
use Rattle.qn_sign.proofs.Order.{is_in-append, is_in-perm, before_absent, before_flip, before_apart, same_symm, distinct-perm, distinct_second, distinct_parts, apart_by}

-- x, y stand in this order in the list of pairs, and in the other in the word
abbrev pub turned : {E : Type 0} → (E → E → Bool) → (E → Bool) → List E → E → E → Bool
turned same odd w x y = (odd x && odd y) && stands_before same w y x

-- the sign, as the parity of the number of turned pairs
pub exchanges-pairs : {E : Type 0} (same : E → E → Bool) (odd : E → Bool) (w g : List E) → exchange_sign same odd w g ≡ pairs (turned same odd w) g
exchanges-pairs same odd w [] = refl
exchanges-pairs same odd w (x ∷ g) =
    is_odd-add (count_by (turned same odd w x) g) (exchanges same odd w g) ∙ ap₂ xor (is_odd-count (turned same odd w x) g) (exchanges-pairs same odd w g)

-- the two lists have x, y in different orders
abbrev pub differ : {E : Type 0} → (E → E → Bool) → (E → Bool) → List E → List E → E → E → Bool
differ same odd w g x y = (odd x && odd y) && xor (stands_before same w x y) (stands_before same g x y)

module _ {E : Type 0} (same : E → E → Bool) (law : IsTest same) where
  pub tally-congr : (f g : E → Bool) (xs : List E) → ((x : E) → is_in same x xs ≡ true → f x ≡ g x) → tally f xs ≡ tally g xs
  tally-congr f g [] h = refl
  tally-congr f g (x ∷ xs) h =
      rw (h x (or_left (same x x) (is_in same x xs) (law.itself x)), tally-congr f g xs (λ y k. h y (or_right (same y x) (is_in same y xs) k))) refl

  -- two elements of a list with no repeats, in its order
  pub pairs-congr : (r s : E → E → Bool) (xs : List E) → IsDistinct same xs →
      ((x y : E) → stands_before same xs x y ≡ true → is_in same y xs ≡ true → r x y ≡ s x y) → pairs r xs ≡ pairs s xs
  pairs-congr r s [] d h = refl
  pairs-congr r s (z ∷ xs) d h =
      rw (
        tally-congr (r z) (s z) xs
            (λ y k. h z y (head_first (same y z) (same z z) (stands_before same xs z y) (law.itself z) (apart y k)) (or_right (same y z) (is_in same y xs) k)),
        pairs-congr r s xs d.1
            (λ x y b k. h x y (tail_first (same y z) (same x z) (stands_before same xs x y) b (apart y k)) (or_right (same y z) (is_in same y xs) k)),
      )
      refl
    where
      head_first : (a b c : Bool) → b ≡ true → a ≡ false → (not a && (b || c)) ≡ true
      head_first a b c e f = grind arith

      tail_first : (a b c : Bool) → c ≡ true → a ≡ false → (not a && (b || c)) ≡ true
      tail_first a b c e f = grind arith

      apart : (y : E) → is_in same y xs ≡ true → same y z ≡ false
      apart y k = go (same y z) refl
        where
          go : (b : Bool) → same y z ≡ b → b ≡ false
          go false e = refl
          go true e = sym k ∙ subst (λ (w : E). is_in same w xs ≡ false) (sym (law.equal y z e)) d.0

  differ_symm : (odd : E → Bool) (w g : List E) → ((x : E) → is_in same x w ≡ is_in same x g) → (x y : E) →
      differ same odd w g x y ≡ differ same odd w g y x
  differ_symm odd w g m x y = go (same x y) refl (is_in same x w || is_in same y w) refl
    where
      both_turn : (a b u v u' v' : Bool) → u' ≡ not u → v' ≡ not v → ((a && b) && xor u v) ≡ ((b && a) && xor u' v')
      both_turn a b u v u' v' e f = grind arith

      none_stands : (a b u v u' v' : Bool) → u ≡ false → v ≡ false → u' ≡ false → v' ≡ false → ((a && b) && xor u v) ≡ ((b && a) && xor u' v')
      none_stands a b u v u' v' e f e' f' = grind arith

      go : (b : Bool) → same x y ≡ b → (c : Bool) → (is_in same x w || is_in same y w) ≡ c →
          differ same odd w g x y ≡ differ same odd w g y x
      go true e c k = subst (λ z. differ same odd w g x z ≡ differ same odd w g z x) (law.equal x y e) refl
      go false e true k =
          both_turn (odd x) (odd y) (stands_before same w x y) (stands_before same g x y) (stands_before same w y x) (stands_before same g y x)
          (before_flip same law x y w e k)
          (before_flip same law x y g e (rw (← m x, ← m y) k))
      go false e false k =
          let o = or_parts (is_in same x w) (is_in same y w) k in
          none_stands (odd x) (odd y) (stands_before same w x y) (stands_before same g x y) (stands_before same w y x) (stands_before same g y x)
          (before_absent same x y w o.0) (before_absent same x y g (sym (m x) ∙ o.0))
          (before_absent same y x w o.1) (before_absent same y x g (sym (m y) ∙ o.1))

  -- the sign by the pairs of the goal, or by those of any list with its elements
  pub sign_by : (odd : E → Bool) (w g l : List E) → IsDistinct same g → Perm w g → Perm g l →
      pairs (turned same odd w) g ≡ pairs (differ same odd w g) l
  sign_by odd w g l dg p q =
      pairs-congr (turned same odd w) (differ same odd w g) g dg
      (λ x y b k.
      at_pair (odd x) (odd y) (stands_before same w x y) (stands_before same g x y) (stands_before same w y x) b
      (before_flip same law x y w (before_apart same law x y g b)
      (or_right (is_in same x w) (is_in same y w) (is_in-perm same y p ∙ k))))
      ∙ pairs-perm (differ same odd w g) (differ_symm odd w g (λ x. is_in-perm same x p)) q
    where
      at_pair : (a b u v u' : Bool) → v ≡ true → u' ≡ not u → ((a && b) && u') ≡ ((a && b) && xor u v)
      at_pair a b u v u' e f = grind arith

  -- the word and the goal may change roles
  pub sign_flip : (odd : E → Bool) (w g : List E) → IsDistinct same w → IsDistinct same g → Perm w g → Perm g w →
      pairs (turned same odd w) g ≡ pairs (turned same odd g) w
  sign_flip odd w g dw dg p q =
      sign_by odd w g w dg p q
      ∙ pairs-congr (differ same odd w g) (differ same odd g w) w dw
      (λ x y b k. ap (λ c. (odd x && odd y) && c) (xor_comm (stands_before same w x y) (stands_before same g x y)))
      ∙ sym (sign_by odd g w w dw q (perm-refl w))

  -- from one order to a second and from there to a third
  pub sign-compose : (odd : E → Bool) (w m g : List E) → IsDistinct same m → IsDistinct same g → Perm w m → Perm m g →
      pairs (turned same odd w) g ≡ xor (pairs (turned same odd w) m) (pairs (turned same odd m) g)
  sign-compose odd w m g dm dg p q =
      sign_by odd w g g dg (then_by p q) (perm-refl g)
      ∙ pairs-split g
      ∙ ap₂ xor (sym (sign_by odd w m g dm p q)) (sym (sign_by odd m g g dg q (perm-refl g)))
    where
      at_pair : (c u v t : Bool) → (c && xor u t) ≡ xor (c && xor u v) (c && xor v t)
      at_pair c u v t = grind arith

      pairs-split : (l : List E) → pairs (differ same odd w g) l ≡ xor (pairs (differ same odd w m) l) (pairs (differ same odd m g) l)
      pairs-split l =
          (λ i. pairs (λ x y. at_pair (odd x && odd y) (stands_before same w x y) (stands_before same m x y) (stands_before same g x y) i) l)
          ∙ pairs-xor (differ same odd w m) (differ same odd m g) l

  pub cross-congr : (r s : E → E → Bool) (xs ys : List E) →
      ((x y : E) → is_in same x xs ≡ true → is_in same y ys ≡ true → r x y ≡ s x y) → cross r xs ys ≡ cross s xs ys
  cross-congr r s xs ys h =
      tally-congr (λ x. tally (r x) ys) (λ x. tally (s x) ys) xs (λ x k. tally-congr (r x) (s x) ys (λ y l. h x y k l))

  -- every pair of the two blocks is turned in one direction or the other
  pub cross_turned : (odd : E → Bool) (g a b : List E) →
      ((x y : E) → is_in same x a ≡ true → is_in same y b ≡ true → same x y ≡ false) →
      ((x : E) → is_in same x a ≡ true → is_in same x g ≡ true) →
      xor (cross (turned same odd g) a b) (cross (turned same odd g) b a) ≡ (tally odd a && tally odd b)
  cross_turned odd g a b apart inside =
      ap (xor (cross (turned same odd g) a b)) (cross-flip (turned same odd g) b a)
      ∙ sym (cross-xor (turned same odd g) (λ y x. turned same odd g x y) a b)
      ∙ cross-congr (λ x y. xor (turned same odd g x y) (turned same odd g y x)) (λ x y. odd x && odd y) a b
      (λ x y h k. at_pair (odd x) (odd y) (stands_before same g y x) (stands_before same g x y)
      (before_flip same law x y g (apart x y h k) (or_left (is_in same x g) (is_in same y g) (inside x h))))
      ∙ cross_product odd a b
    where
      at_pair : (a b u v : Bool) → u ≡ not v → xor ((a && b) && u) ((b && a) && v) ≡ (a && b)
      at_pair a b u v e = grind arith

  pub blocks_apart : (p a b q : List E) → IsDistinct same (p ++ (a ++ (b ++ q))) → (x y : E) → is_in same x a ≡ true → is_in same y b ≡ true → same x y ≡ false
  blocks_apart p a b q d x y h k =
      same_symm same law y x
      (apart_by same law y x b k
      ((or_parts (is_in same x b) (is_in same x q)
      (sym (is_in-append same x b q) ∙ distinct_parts same law x a (b ++ q) (distinct_second same p (a ++ (b ++ q)) d) h)).0))

  -- two neighbouring blocks of the goal change places
  pub goal_exchange : (odd : E → Bool) (w p a b q : List E) → IsDistinct same (p ++ (a ++ (b ++ q))) →
      ((x : E) → is_in same x a ≡ true → is_in same x w ≡ true) →
      pairs (turned same odd w) (p ++ (a ++ (b ++ q))) ≡ xor (tally odd a && tally odd b) (pairs (turned same odd w) (p ++ (b ++ (a ++ q))))
  goal_exchange odd w p a b q d inside =
      pairs-exchange (turned same odd w) p a b q
      ∙ ap (λ c. xor c (pairs (turned same odd w) (p ++ (b ++ (a ++ q))))) (cross_turned odd w a b (blocks_apart p a b q d) inside)

  -- two neighbouring blocks of the word change places
  pub word_exchange : (odd : E → Bool) (p a b q g : List E) → IsDistinct same (p ++ (a ++ (b ++ q))) → IsDistinct same g → Perm (p ++ (a ++ (b ++ q))) g →
      pairs (turned same odd (p ++ (a ++ (b ++ q)))) g ≡ xor (tally odd a && tally odd b) (pairs (turned same odd (p ++ (b ++ (a ++ q)))) g)
  word_exchange odd p a b q g d dg m =
      let moved : Perm (p ++ (a ++ (b ++ q))) (p ++ (b ++ (a ++ q))) = perm_under p (perm_blocks a b q) in
      let m' : Perm (p ++ (b ++ (a ++ q))) g = then_by (perm-sym moved) m in
      sign_flip odd (p ++ (a ++ (b ++ q))) g d dg m (perm-sym m)
      ∙ goal_exchange odd g p a b q d (λ x h. sym (is_in-perm same x m) ∙ within p a b q x h)
      ∙ ap (xor (tally odd a && tally odd b))
      (sym (sign_flip odd (p ++ (b ++ (a ++ q))) g (distinct-perm same law moved d) dg m' (perm-sym m')))
    where
      within : (p a b q : List E) (x : E) → is_in same x a ≡ true → is_in same x (p ++ (a ++ (b ++ q))) ≡ true
      within p a b q x h = rw (is_in-append same x p (a ++ (b ++ q)), is_in-append same x a (b ++ q), h) (or_right (is_in same x p) true refl)

  pub tally-zero : (f : E → Bool) (xs : List E) → ((x : E) → is_in same x xs ≡ true → f x ≡ false) → tally f xs ≡ false
  tally-zero f xs h = tally-congr f (λ x. false) xs h ∙ tally_none xs

  pub pairs-same : (r s : E → E → Bool) (xs : List E) →
      ((x y : E) → is_in same x xs ≡ true → is_in same y xs ≡ true → r x y ≡ s x y) → pairs r xs ≡ pairs s xs
  pairs-same r s [] h = refl
  pairs-same r s (z ∷ xs) h =
      rw (
        tally-congr (r z) (s z) xs (λ y k. h z y (or_left (same z z) (is_in same z xs) (law.itself z)) (or_right (same y z) (is_in same y xs) k)),
        pairs-same r s xs (λ x y k l. h x y (or_right (same x z) (is_in same x xs) k) (or_right (same y z) (is_in same y xs) l)),
      )
      refl

  -- the order of even couples in the goal does not matter
  pub couple_exchange : (odd : E → Bool) (w : List E) (i o i' o' : E) (q : List E) → IsDistinct same (i ∷ o ∷ i' ∷ o' ∷ q) →
      ((x : E) → is_in same x (i ∷ o ∷ i' ∷ o' ∷ q) ≡ true → is_in same x w ≡ true) → odd i ≡ odd o →
      pairs (turned same odd w) (i ∷ o ∷ i' ∷ o' ∷ q) ≡ pairs (turned same odd w) (i' ∷ o' ∷ i ∷ o ∷ q)
  couple_exchange odd w i o i' o' q d inside e =
      goal_exchange odd w [] (i ∷ o ∷ []) (i' ∷ o' ∷ []) q d (λ x h. inside x (front (same x i) (same x o) (is_in same x (i' ∷ o' ∷ q)) h))
      ∙ ap (λ b. xor (b && tally odd (i' ∷ o' ∷ [])) (pairs (turned same odd w) (i' ∷ o' ∷ i ∷ o ∷ q))) (even (odd i) (odd o) e)
    where
      front : (a b c : Bool) → (a || (b || false)) ≡ true → (a || (b || c)) ≡ true
      front a b c h = grind arith

      even : (a b : Bool) → a ≡ b → xor a (xor b false) ≡ false
      even a b h = grind arith

  -- a block of the word has the elements `shared`, and the others, which are kept in their order
  pub record IsKept (mid shared kept : List E) : Type 0 where
    pub perm : Perm mid (shared ++ kept)
    pub order : (x y : E) → is_in same x shared ≡ false → is_in same y shared ≡ false →
        stands_before same kept x y ≡ stands_before same mid x y
