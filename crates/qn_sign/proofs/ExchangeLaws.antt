-- The laws of the exchange sign, from their forms modulo two.
use Rattle.std.proofs.Common.{◌≡◌, Bool, true, false, ◌&&◌, ◌||◌, List, [], ◌∷◌, ◌++◌, sym, ◌∙◌, ap, ap₂, arith}
use Rattle.qn_sign.specs.Sign.{is_in, xor, exchange_sign, block_parity, IsTest, IsDistinct, Perm}
use Rattle.qn_sign.specs.Sign.Perm.{then_by}
use Rattle.qn_sign.specs.ExchangeLaws.{SignsCompose, SignTurnsBack, PairIsRemoved, BlocksMoveInGoal, BlocksMoveInWord, CommonFirstPart, CommonLastPart, LocalSign, BlockIsTaken}
use Rattle.qn_sign.proofs.Parity.{is_odd-count, perm-sym, perm_blocks}
use Rattle.qn_sign.proofs.Order.{is_in-perm, is_in-append, distinct-perm}
use Rattle.qn_sign.proofs.SignLaws.{exchanges-pairs, sign-compose, sign_flip, goal_exchange, word_exchange}
use Rattle.qn_sign.proofs.OrderSigns.{sign_prefix, sign_suffix, sign_inside, sign_taken}
use Rattle.qn_sign.proofs.Members.{perm_cancel}

module _ {E : Type 0} (same : E → E → Bool) (law : IsTest same) where
  pub signs_compose : SignsCompose same
  signs_compose odd word middle goal d p q =
      let dm : IsDistinct same middle = distinct-perm same law p d in
      exchanges-pairs same odd word goal
      ∙ sign-compose same law odd word middle goal dm (distinct-perm same law q dm) p q
      ∙ sym (ap₂ xor (exchanges-pairs same odd word middle) (exchanges-pairs same odd middle goal))

  pub sign_turns_back : SignTurnsBack same
  sign_turns_back odd word goal d p =
      exchanges-pairs same odd word goal
      ∙ sign_flip same law odd word goal d (distinct-perm same law p d) p (perm-sym p)
      ∙ sym (exchanges-pairs same odd goal word)

  pub blocks_move_in_goal : BlocksMoveInGoal same
  blocks_move_in_goal odd word before first second after d p =
      exchanges-pairs same odd word (before ++ (first ++ (second ++ after)))
      ∙ goal_exchange same law odd word before first second after (distinct-perm same law p d)
      (λ x h. is_in-perm same x p ∙ within x h)
      ∙ sym (ap₂ xor (ap₂ (λ a b. a && b) (is_odd-count odd first) (is_odd-count odd second))
      (exchanges-pairs same odd word (before ++ (second ++ (first ++ after)))))
    where
      within : (x : E) → is_in same x first ≡ true → is_in same x (before ++ (first ++ (second ++ after))) ≡ true
      within x h = is_in-append same x before (first ++ (second ++ after)) ∙ ap (λ b. is_in same x before || b) (is_in-append same x first (second ++ after) ∙ ap (λ b. b || is_in same x (second ++ after)) h) ∙ last (is_in same x before)
        where
          last : (b : Bool) → (b || true) ≡ true
          last b = grind arith

  pub blocks_move_in_word : BlocksMoveInWord same
  blocks_move_in_word odd before first second after goal d p =
      exchanges-pairs same odd (before ++ (first ++ (second ++ after))) goal
      ∙ word_exchange same law odd before first second after goal d (distinct-perm same law p d) p
      ∙ sym (ap₂ xor (ap₂ (λ a b. a && b) (is_odd-count odd first) (is_odd-count odd second))
      (exchanges-pairs same odd (before ++ (second ++ (first ++ after))) goal))

  pub local_sign : LocalSign same
  local_sign odd before part rearranged after d p =
      exchanges-pairs same odd (before ++ (part ++ after)) (before ++ (rearranged ++ after))
      ∙ sign_inside same law odd before part rearranged after d p
      ∙ sym (exchanges-pairs same odd part rearranged)

  pub common_first_part : CommonFirstPart same
  common_first_part odd first word goal d p =
      exchanges-pairs same odd (first ++ word) (first ++ goal) ∙ sign_prefix same law odd first word goal d p ∙ sym (exchanges-pairs same odd word goal)

  pub common_last_part : CommonLastPart same
  common_last_part odd word goal last d p =
      exchanges-pairs same odd (word ++ last) (goal ++ last) ∙ sign_suffix same law odd word goal last d p ∙ sym (exchanges-pairs same odd word goal)

  even_second : (a b : Bool) → b ≡ false → (a && b) ≡ false
  even_second a b e = grind arith

  pub pair_is_removed : PairIsRemoved same
  pair_is_removed odd x y before after left right d p e =
      let pair : List E = x ∷ y ∷ [] in
      let to_front : Perm (before ++ (pair ++ after)) (pair ++ (before ++ after)) = perm_blocks before pair after in
      let goal_front : Perm (left ++ (pair ++ right)) (pair ++ (left ++ right)) = perm_blocks left pair right in
      let word_rest : Perm (pair ++ (before ++ after)) (left ++ (pair ++ right)) = then_by (perm-sym to_front) p in
      let dw : IsDistinct same (pair ++ (before ++ after)) = distinct-perm same law to_front d in
      blocks_move_in_word odd [] before pair after (left ++ (pair ++ right)) d p
      ∙ ap (λ b. xor b (exchange_sign same odd (pair ++ (before ++ after)) (left ++ (pair ++ right)))) (even_second (block_parity odd before) (block_parity odd pair) even)
      ∙ blocks_move_in_goal odd (pair ++ (before ++ after)) [] left pair right dw word_rest
      ∙ ap (λ b. xor b (exchange_sign same odd (pair ++ (before ++ after)) (pair ++ (left ++ right)))) (even_second (block_parity odd left) (block_parity odd pair) even)
      ∙ common_first_part odd pair (before ++ after) (left ++ right) dw (perm_cancel same law pair (before ++ after) (left ++ right) dw (then_by word_rest goal_front))
    where
      both : (a b : Bool) → a ≡ b → xor a (xor b false) ≡ false
      both a b h = grind arith

      even : block_parity odd (x ∷ y ∷ []) ≡ false
      even = is_odd-count odd (x ∷ y ∷ []) ∙ both (odd x) (odd y) e

  pub block_is_taken : BlockIsTaken same
  block_is_taken odd before block after taken left rest d p m even =
      exchanges-pairs same odd (before ++ (block ++ after)) (taken ++ rest)
      ∙ sign_taken same law odd before block after taken left rest (sym (is_odd-count odd taken) ∙ even) d p m
      ∙ sym (ap₂ xor (exchanges-pairs same odd block (taken ++ left)) (exchanges-pairs same odd (before ++ (left ++ after)) rest))
