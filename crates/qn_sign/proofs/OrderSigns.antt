-- Signs of parts that stand as they are, and of a block whose open elements stand in any order.
use Rattle.std.proofs.Common.{◌≡◌, Bool, true, false, not, ◌&&◌, ◌||◌, List, [], ◌∷◌, ◌++◌, refl, sym, ◌∙◌, ap, ap₂, append-nil, append_assoc, subst, arith}
use Rattle.std.proofs.lemmas.Bool.{or_left, or_right}
use Rattle.qn_sign.specs.Sign.{is_in, stands_before, xor, IsTest, IsDistinct, Perm}
use Rattle.qn_sign.specs.Sign.Perm.{none, then_by}
use Rattle.qn_sign.proofs.Parity.{tally, pairs, pairs-append, perm_under, perm_before, cross_none, perm_blocks}
use Rattle.qn_sign.proofs.Order.{is_in-perm, before_in, before_out, before_absent, distinct-perm, distinct_second, distinct_parts_back, apart_by}
use Rattle.qn_sign.proofs.SignLaws.{turned, pairs-same, tally-zero, cross-congr, sign-compose, word_exchange, IsKept}

module _ {E : Type 0} (same : E → E → Bool) (law : IsTest same) (odd : E → Bool) where
  -- a common first part
  pub sign_prefix : (p u v : List E) → IsDistinct same (p ++ u) → Perm u v → pairs (turned same odd (p ++ u)) (p ++ v) ≡ pairs (turned same odd u) v
  sign_prefix [] u v d m = refl
  sign_prefix (x ∷ p) u v d m =
      ap₂ xor
      (tally-zero same law (turned same odd (x ∷ (p ++ u)) x) (p ++ v) (λ y k. never (odd x && odd y) (same x x) (same y x) (stands_before same (p ++ u) y x) (law.itself x)))
      (pairs-same same law (turned same odd (x ∷ (p ++ u))) (turned same odd (p ++ u)) (p ++ v)
      (λ y z k l. ap (λ b. (odd y && odd z) && b) (skip (same y x) (same z x) (stands_before same (p ++ u) z y) (other y k) (other z l))))
      ∙ sign_prefix p u v d.1 m
    where
      never : (o s t r : Bool) → s ≡ true → (o && (not s && (t || r))) ≡ false
      never o s t r e = grind arith

      skip : (s t r : Bool) → s ≡ false → t ≡ false → (not s && (t || r)) ≡ r
      skip s t r e f = grind arith

      other : (y : E) → is_in same y (p ++ v) ≡ true → same y x ≡ false
      other y k = apart_by same law y x (p ++ u) (is_in-perm same y (perm_under p m) ∙ k) d.0

  pub sign_itself : (q : List E) → IsDistinct same q → pairs (turned same odd q) q ≡ false
  sign_itself q d =
      ap (λ (l : List E). pairs (turned same odd l) l) (sym (append-nil q))
      ∙ sign_prefix q [] [] (subst (IsDistinct same) (sym (append-nil q)) d) none

  -- a common last part
  pub sign_suffix : (u v q : List E) → IsDistinct same (u ++ q) → Perm u v → pairs (turned same odd (u ++ q)) (v ++ q) ≡ pairs (turned same odd u) v
  sign_suffix u v q d m =
      pairs-append (turned same odd (u ++ q)) v q
      ∙ three _ _ _ _
      (pairs-same same law (turned same odd (u ++ q)) (turned same odd u) v
      (λ x y k l. ap (λ b. (odd x && odd y) && b) (before_in same y x u q (or_left (is_in same y u) (is_in same x u) (inside y l)))))
      (cross-congr same law (turned same odd (u ++ q)) (λ x y. false) v q
      (λ x y k l. all_false (odd x && odd y) (stands_before same (u ++ q) y x)
      (before_in same y x u q (or_right (is_in same y u) (is_in same x u) (inside x k))
      ∙ before_absent same y x u (distinct_parts_back same law y u q d l)))
      ∙ cross_none v q)
      (pairs-same same law (turned same odd (u ++ q)) (turned same odd q) q
      (λ x y k l. ap (λ b. (odd x && odd y) && b)
      (before_out same y x u q (distinct_parts_back same law y u q d l) (distinct_parts_back same law x u q d k)))
      ∙ sign_itself q (distinct_second same u q d))
    where
      inside : (x : E) → is_in same x v ≡ true → is_in same x u ≡ true
      inside x k = is_in-perm same x m ∙ k

      all_false : (a b : Bool) → b ≡ false → (a && b) ≡ false
      all_false a b e = grind arith

      three : (a b c r : Bool) → a ≡ r → b ≡ false → c ≡ false → xor (xor a b) c ≡ r
      three a b c r e f g = grind arith

  pub sign_inside : (p u v q : List E) → IsDistinct same (p ++ (u ++ q)) → Perm u v →
      pairs (turned same odd (p ++ (u ++ q))) (p ++ (v ++ q)) ≡ pairs (turned same odd u) v
  sign_inside p u v q d m =
      sign_prefix p (u ++ q) (v ++ q) d (perm_before q m) ∙ sign_suffix u v q (distinct_second same p (u ++ q) d) m

  -- a block of the word brings the elements `taken`, which are even together, to the front of the goal, and leaves the others in its place
  pub sign_taken : (pre mid post taken left rest : List E) → tally odd taken ≡ false → IsDistinct same (pre ++ (mid ++ post)) →
      Perm mid (taken ++ left) → Perm (pre ++ (left ++ post)) rest →
      pairs (turned same odd (pre ++ (mid ++ post))) (taken ++ rest) ≡
      xor (pairs (turned same odd mid) (taken ++ left)) (pairs (turned same odd (pre ++ (left ++ post))) rest)
  sign_taken pre mid post taken left rest even d p m =
      let here : Perm (pre ++ (mid ++ post)) (pre ++ ((taken ++ left) ++ post)) = perm_under pre (perm_before post p) in
      let dm : IsDistinct same (pre ++ ((taken ++ left) ++ post)) = distinct-perm same law here d in
      let df : IsDistinct same (taken ++ (pre ++ (left ++ post))) = distinct-perm same law (perm_blocks pre taken (left ++ post)) (regroup dm) in
      let dg : IsDistinct same (taken ++ rest) = distinct-perm same law (perm_under taken m) df in
      let front : Perm (pre ++ (taken ++ (left ++ post))) (taken ++ rest) = then_by (perm_blocks pre taken (left ++ post)) (perm_under taken m) in
      sign-compose same law odd (pre ++ (mid ++ post)) (pre ++ ((taken ++ left) ++ post)) (taken ++ rest) dm dg here
      (subst (λ w. Perm (pre ++ w) (taken ++ rest)) (sym (append_assoc taken left post)) front)
      ∙ ap₂ xor (sign_inside pre mid (taken ++ left) post d p)
      (ap (λ w. pairs (turned same odd (pre ++ w)) (taken ++ rest)) (append_assoc taken left post)
      ∙ word_exchange same law odd [] pre taken (left ++ post) (taken ++ rest) (regroup dm) dg front
      ∙ even_block (tally odd pre) (tally odd taken) (pairs (turned same odd (taken ++ (pre ++ (left ++ post)))) (taken ++ rest)) even
      ∙ sign_prefix taken (pre ++ (left ++ post)) rest df m)
    where
      regroup : IsDistinct same (pre ++ ((taken ++ left) ++ post)) → IsDistinct same (pre ++ (taken ++ (left ++ post)))
      regroup u = subst (λ w. IsDistinct same (pre ++ w)) (append_assoc taken left post) u

      even_block : (a b c : Bool) → b ≡ false → xor (a && b) c ≡ c
      even_block a b c e = grind arith

  -- the same, where the others are kept in their order first, and then come in any order
  pub sign_block_any : (pre mid post shared kept order rest : List E) → tally odd shared ≡ false → IsDistinct same (pre ++ (mid ++ post)) →
      IsKept same law mid shared kept → Perm kept order → Perm (pre ++ (order ++ post)) rest →
      pairs (turned same odd (pre ++ (mid ++ post))) (shared ++ rest) ≡
      xor (pairs (turned same odd mid) (shared ++ order)) (pairs (turned same odd (pre ++ (order ++ post))) rest)
  sign_block_any pre mid post shared kept order rest even d k p m =
      sign_taken pre mid post shared order rest even d (then_by k.perm (perm_under shared p)) m
