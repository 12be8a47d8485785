use Rattle.std.proofs.Common.{◌≡◌, ℕ, ℤ, Bool, true, false, ◌||◌, List, ◌∷◌, ◌++◌, sym, ◌∙◌, ap, ap₂, subst, append_assoc, arith, int_eq}
use mathlib.Core.Path.{fun_ext}
use Rattle.std.proofs.lemmas.Bool.{or_left, or_right}
use Rattle.qn_sign.specs.Sign.{is_in, xor, IsDistinct, Perm}
use Rattle.qn_sign.specs.Sign.Perm.{then_by}
use Rattle.qn_gauss.specs.Gaussian.{Gaussian, mul_g, signed}
use Rattle.qn_value.specs.Networks.{End, Node, Bond, Assignment, sums, same_end, word, pairs_of, goal, odd_end, order_sign, twist_sign, sign, values, product, flat, at_values, contract, IsNetwork, labels, kept as kept_legs}
use Rattle.qn_sign.proofs.Order.{distinct-perm, distinct_first, distinct_second, distinct_parts_back, is_in-append, is_in-perm}
use Rattle.qn_sign.proofs.Parity.{pairs, xor_middle, perm-refl, perm-sym, perm_under, perm_before, perm_blocks}
use Rattle.qn_sign.proofs.SignLaws.{turned, IsKept}
use Rattle.qn_sign.proofs.OrderSigns.{sign_block_any}
use Rattle.qn_value.proofs.KeptLemmas.{kept_from}
use Rattle.qn_sign.proofs.Members.{perm_cancel}
use Rattle.qn_value.proofs.Sums.{Meets, sums-meet, sums-append, sums-perm, sums-scale, sums-agree, steady_from, IsSteady, DependsOn}
use Rattle.qn_value.proofs.NetLaws.{end_test, word-append, product-append, sign-pairs, twist-append, ends-labels, labels_distinct, pairs_of-append, bonds_even, perm_turn, product-agree, sign-agree, at_values-values, algebra}

module _ (par : ℤ → ℕ → Bool) (pre mid post : List Node) (shared rest : List Bond) (kept opens : List End)
    (net : IsNetwork (pre ++ (mid ++ post)) (shared ++ rest) opens)
    (whole : Perm (word mid) (pairs_of shared ++ kept))
    (left : Perm (word pre ++ (kept ++ word post)) (goal rest opens)) where
  abbrev block : Node
  block = contract par mid shared kept

  word_split : word (pre ++ (mid ++ post)) ≡ word pre ++ (word mid ++ word post)
  word_split = word-append pre (mid ++ post) ∙ ap (λ w. word pre ++ w) (word-append mid post)

  left_split : word (pre ++ (block ∷ post)) ≡ word pre ++ (kept ++ word post)
  left_split = word-append pre (block ∷ post)

  goal_split : goal (shared ++ rest) opens ≡ pairs_of shared ++ goal rest opens
  goal_split = ap (λ es. es ++ opens) (pairs_of-append shared rest) ∙ append_assoc (pairs_of shared) (pairs_of rest) opens

  distinct : IsDistinct same_end (word pre ++ (word mid ++ word post))
  distinct = subst (IsDistinct same_end) word_split net.distinct

  mid_distinct : IsDistinct same_end (word mid)
  mid_distinct = distinct_first same_end (word mid) (word post) (distinct_second same_end (word pre) (word mid ++ word post) distinct)

  parts_distinct : IsDistinct same_end (pairs_of shared ++ kept)
  parts_distinct = distinct-perm same_end end_test whole mid_distinct

  -- the block's open legs in the order of its word
  in_word_order : IsKept same_end end_test (word mid) (pairs_of shared) (kept_legs mid shared)
  in_word_order =
      kept_from mid shared mid_distinct (distinct_first same_end (pairs_of shared) kept parts_distinct)
      (λ e h. is_in-perm same_end e whole ∙ is_in-append same_end e (pairs_of shared) kept ∙ or_left (is_in same_end e (pairs_of shared)) (is_in same_end e kept) h)

  reorder : Perm (kept_legs mid shared) kept
  reorder =
      perm_cancel same_end end_test (pairs_of shared) (kept_legs mid shared) kept
      (distinct-perm same_end end_test in_word_order.perm mid_distinct) (then_by (perm-sym in_word_order.perm) whole)

  -- the word, with the shared ends first
  shared_first : Perm (word pre ++ (word mid ++ word post)) (pairs_of shared ++ (word pre ++ (kept ++ word post)))
  shared_first =
      then_by (perm_under (word pre) (perm_before (word post) whole))
      (then_by (subst (λ w. Perm (word pre ++ ((pairs_of shared ++ kept) ++ word post)) (word pre ++ w)) (append_assoc (pairs_of shared) kept (word post)) (perm-refl (word pre ++ ((pairs_of shared ++ kept) ++ word post))))
      (perm_blocks (word pre) (pairs_of shared) (kept ++ word post)))

  order_split : (a : Assignment) → Meets shared a → order_sign par (pre ++ (mid ++ post)) (shared ++ rest) opens a ≡
      xor (order_sign par mid shared kept a) (order_sign par (pre ++ (block ∷ post)) rest opens a)
  order_split a m =
      sign-pairs par (pre ++ (mid ++ post)) (shared ++ rest) opens a
      ∙ ap₂ (λ w g. pairs (turned same_end (odd_end par a) w) g) word_split goal_split
      ∙ sign_block_any same_end end_test (odd_end par a) (word pre) (word mid) (word post) (pairs_of shared) (kept_legs mid shared) kept (goal rest opens)
      (bonds_even par a shared m) distinct in_word_order reorder left
      ∙ sym (ap₂ xor (sign-pairs par mid shared kept a)
      (sign-pairs par (pre ++ (block ∷ post)) rest opens a ∙ ap (λ w. pairs (turned same_end (odd_end par a) w) (goal rest opens)) left_split))

  sign_split : (a : Assignment) → Meets shared a → sign par (pre ++ (mid ++ post)) (shared ++ rest) opens a ≡
      xor (sign par mid shared kept a) (sign par (pre ++ (block ∷ post)) rest opens a)
  sign_split a m =
      ap₂ xor (twist-append par shared rest a) (order_split a m)
      ∙ xor_middle (twist_sign par shared a) (twist_sign par rest a) (order_sign par mid shared kept a) (order_sign par (pre ++ (block ∷ post)) rest opens a)

  -- what does not concern the block, and what does
  abbrev outside : Assignment → Gaussian
  outside a = signed (sign par (pre ++ (block ∷ post)) rest opens a) (mul_g (product pre a) (product post a))

  abbrev inside : Assignment → Gaussian
  inside a = signed (sign par mid shared kept a) (product mid a)

  term_split : (a : Assignment) → Meets shared a →
      signed (sign par (pre ++ (mid ++ post)) (shared ++ rest) opens a) (product (pre ++ (mid ++ post)) a) ≡ mul_g (outside a) (inside a)
  term_split a m =
      ap₂ signed (sign_split a m) (product-append pre (mid ++ post) a ∙ ap (mul_g (product pre a)) (product-append mid post a))
      ∙ algebra (sign par mid shared kept a) (sign par (pre ++ (block ∷ post)) rest opens a) (product pre a) (product mid a) (product post a)

  outside_depends : DependsOn (word pre ++ (kept ++ word post)) outside
  outside_depends a c h =
      ap₂ signed
      (sign-agree par (pre ++ (block ∷ post)) rest opens a c (λ e l. h e (is_in-perm same_end e left ∙ l)))
      (ap₂ mul_g
      (product-agree pre a c (λ e l. h e (is_in-append same_end e (word pre) (kept ++ word post) ∙ or_left (is_in same_end e (word pre)) (is_in same_end e (kept ++ word post)) l)))
      (product-agree post a c (λ e l. h e (is_in-append same_end e (word pre) (kept ++ word post)
      ∙ or_right (is_in same_end e (word pre)) (is_in same_end e (kept ++ word post))
      (is_in-append same_end e kept (word post) ∙ or_right (is_in same_end e kept) (is_in same_end e (word post)) l)))))

  outside_steady : IsSteady outside shared
  outside_steady =
      steady_from shared (word pre ++ (kept ++ word post)) outside outside_depends
      (λ e l. sym (ends-labels e shared)
      ∙ distinct_parts_back same_end end_test e (pairs_of shared) (word pre ++ (kept ++ word post)) (distinct-perm same_end end_test shared_first distinct) l)

  inside_depends : DependsOn (word mid) inside
  inside_depends a c h =
      ap₂ signed (sign-agree par mid shared kept a c (λ e l. h e (is_in-perm same_end e whole ∙ l))) (product-agree mid a c h)

  inside_sum : (a : Assignment) → sums shared inside a ≡ block.entry (values kept a)
  inside_sum a =
      sums-agree shared (word mid) inside inside_depends a (at_values kept (values kept a))
      (λ e l f. sym (at_values-values kept a e
      (part (is_in same_end e (pairs_of shared)) (is_in same_end e kept) (sym (is_in-append same_end e (pairs_of shared) kept) ∙ sym (is_in-perm same_end e whole) ∙ l)
      (ends-labels e shared ∙ f))))
    where
      part : (p q : Bool) → (p || q) ≡ true → p ≡ false → q ≡ true
      part p q e f = grind arith

  term_block : (a : Assignment) → mul_g (outside a) (block.entry (values kept a)) ≡
      signed (sign par (pre ++ (block ∷ post)) rest opens a) (product (pre ++ (block ∷ post)) a)
  term_block a =
      sym (algebra false (sign par (pre ++ (block ∷ post)) rest opens a) (product pre a) (block.entry (values kept a)) (product post a))
      ∙ ap (signed (sign par (pre ++ (block ∷ post)) rest opens a)) (sym (product-append pre (block ∷ post) a))

  bonds_distinct : IsDistinct int_eq (labels (shared ++ rest))
  bonds_distinct = labels_distinct (shared ++ rest) (distinct_first same_end (pairs_of (shared ++ rest)) opens (distinct-perm same_end end_test net.complete net.distinct))

  pub block_law : (a : Assignment) →
      flat par (pre ++ (mid ++ post)) (shared ++ rest) opens a ≡ flat par (pre ++ (block ∷ post)) rest opens a
  block_law a =
      sums-perm (perm_turn shared rest) bonds_distinct (λ c. signed (sign par (pre ++ (mid ++ post)) (shared ++ rest) opens c) (product (pre ++ (mid ++ post)) c)) a
      ∙ sums-append rest shared (λ c. signed (sign par (pre ++ (mid ++ post)) (shared ++ rest) opens c) (product (pre ++ (mid ++ post)) c)) a
      ∙ ap (λ (f : Assignment → Gaussian). sums rest f a) (fun_ext (λ c.
      sums-meet shared (λ c. signed (sign par (pre ++ (mid ++ post)) (shared ++ rest) opens c) (product (pre ++ (mid ++ post)) c)) (λ c. mul_g (outside c) (inside c)) term_split c
      ∙ sums-scale shared outside inside outside_steady c
      ∙ ap (mul_g (outside c)) (inside_sum c)
      ∙ term_block c))
