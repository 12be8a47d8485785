-- Other orders of legs.
use Rattle.std.proofs.Common.{◌≡◌, ℕ, ℤ, Bool, true, false, ◌&&◌, ◌||◌, List, [], ◌∷◌, ◌++◌, refl, sym, ◌∙◌, ap, ap₂, subst, append-nil, arith, int_eq}
use mathlib.Core.Path.{fun_ext}
use Rattle.qn_sign.specs.Sign.{exchanges, is_in, is_odd, xor, IsDistinct, Perm, stands_before}
use Rattle.qn_gauss.specs.Gaussian.{Gaussian, one_g, mul_g, signed}
use Rattle.qn_value.specs.Networks.{End, Node, Bond, Assignment, sums, same_end, word, pairs_of, goal, odd_end, order_sign, twist_sign, sign, values, product, flat, at_values, contract, labels, IsNetwork, IsHomogeneous}
use Rattle.qn_value.specs.Networks.{moved}
use Rattle.qn_sign.proofs.Parity.{xor_comm, xor_false, perm_under}
use Rattle.qn_sign.proofs.Order.{is_in-append, is_in-perm, distinct-perm, distinct_parts_back}
use Rattle.qn_sign.proofs.SignLaws.{turned, pairs-same, sign-compose}
use Rattle.qn_sign.proofs.OrderSigns.{sign_prefix}
use Rattle.qn_gauss.proofs.Ring.{mul_comm, mul_one}
use Rattle.qn_value.proofs.Sums.{sums-scale, sums-agree, steady_from, DependsOn}
use Rattle.qn_value.proofs.NetLaws.{end_test, exchanges-pairs, sign-pairs, signed-xor, signed-mul, ends-labels, product-agree, sign-agree, at_values-values, node_path}
use Rattle.qn_value.proofs.Steps.{any_block_value, any_block_network, contract_homogeneous, mid_distinct}

-- the entry of a contraction, at an assignment
pub contract_at : (par : ℤ → ℕ → Bool) (ns : List Node) (bs : List Bond) (es : List End) → Perm (word ns) (pairs_of bs ++ es) → (a : Assignment) →
    flat par ns bs es a ≡ (contract par ns bs es).entry (values es a)
contract_at par ns bs es m a =
    sums-agree bs (word ns) (λ c. signed (sign par ns bs es c) (product ns c))
    (λ a c h. ap₂ signed (sign-agree par ns bs es a c (λ e l. h e (is_in-perm same_end e m ∙ l))) (product-agree ns a c h))
    a (at_values es (values es a))
    (λ e l f. sym (at_values-values es a e
    (part (is_in same_end e (pairs_of bs)) (is_in same_end e es) (sym (is_in-append same_end e (pairs_of bs) es) ∙ sym (is_in-perm same_end e m) ∙ l)
    (ends-labels e bs ∙ f))))
  where
    part : (p q : Bool) → (p || q) ≡ true → p ≡ false → q ≡ true
    part p q e f = grind arith

module _ (par : ℤ → ℕ → Bool) (ns : List Node) (bs : List Bond) (others opens : List End) (net : IsNetwork ns bs others) (m : Perm others opens) where
  goal_distinct : IsDistinct same_end (goal bs others)
  goal_distinct = distinct-perm same_end end_test net.complete net.distinct

  -- the sign of the open legs alone
  abbrev turn : Assignment → Bool
  turn a = is_odd (exchanges same_end (odd_end par a) others opens)

  order_opens : (a : Assignment) → order_sign par ns bs opens a ≡ xor (turn a) (order_sign par ns bs others a)
  order_opens a =
      sign-pairs par ns bs opens a
      ∙ sign-compose same_end end_test (odd_end par a) (word ns) (goal bs others) (goal bs opens) goal_distinct
      (distinct-perm same_end end_test (perm_under (pairs_of bs) m) goal_distinct) net.complete (perm_under (pairs_of bs) m)
      ∙ ap₂ xor (sym (sign-pairs par ns bs others a))
      (sign_prefix same_end end_test (odd_end par a) (pairs_of bs) others opens goal_distinct m ∙ sym (exchanges-pairs same_end (odd_end par a) others opens))
      ∙ xor_comm (order_sign par ns bs others a) (turn a)

  turn_depends : DependsOn opens turn
  turn_depends a c h =
      exchanges-pairs same_end (odd_end par a) others opens
      ∙ pairs-same same_end end_test (turned same_end (odd_end par a) others) (turned same_end (odd_end par c) others) opens
      (λ x y k l. ap₂ (λ p q. (p && q) && stands_before same_end others y x) (ap (par x.label) (h x k)) (ap (par y.label) (h y l)))
      ∙ sym (exchanges-pairs same_end (odd_end par c) others opens)

  open_label : (e : End) → is_in same_end e opens ≡ true → is_in int_eq e.label (labels bs) ≡ false
  open_label e l =
      sym (ends-labels e bs) ∙ distinct_parts_back same_end end_test e (pairs_of bs) others goal_distinct (is_in-perm same_end e m ∙ l)

  term_opens : (a : Assignment) →
      signed (sign par ns bs opens a) (product ns a) ≡ mul_g (signed (turn a) one_g) (signed (sign par ns bs others a) (product ns a))
  term_opens a =
      ap (λ b. signed b (product ns a)) (ap (xor (twist_sign par bs a)) (order_opens a) ∙ out (twist_sign par bs a) (turn a) (order_sign par ns bs others a))
      ∙ signed-xor (turn a) (sign par ns bs others a) (product ns a)
      ∙ sym (signed-mul (turn a) one_g (signed (sign par ns bs others a) (product ns a))
      ∙ ap (signed (turn a)) (mul_comm one_g (signed (sign par ns bs others a) (product ns a)) ∙ mul_one (signed (sign par ns bs others a) (product ns a))))
    where
      out : (p q r : Bool) → xor p (xor q r) ≡ xor q (xor p r)
      out p q r = grind arith

  pub opens_law : (a : Assignment) → flat par ns bs opens a ≡ signed (turn a) (flat par ns bs others a)
  opens_law a =
      ap (λ (f : Assignment → Gaussian). sums bs f a) (fun_ext term_opens)
      ∙ sums-scale bs (λ c. signed (turn c) one_g) (λ c. signed (sign par ns bs others c) (product ns c))
      (steady_from bs opens (λ c. signed (turn c) one_g) (λ a c h. ap (λ b. signed b one_g) (turn_depends a c h)) open_label) a
      ∙ signed-mul (turn a) one_g (flat par ns bs others a)
      ∙ ap (signed (turn a)) (mul_comm one_g (flat par ns bs others a) ∙ mul_one (flat par ns bs others a))

-- a tensor with its legs in another order

pub moved_is : (par : ℤ → ℕ → Bool) (x : Node) (order : List End) → contract par (x ∷ []) [] order ≡ moved par x order
moved_is par x order =
    node_path (contract par (x ∷ []) [] order) (moved par x order) refl
    (λ xs. ap₂ (λ w v. signed (is_odd (exchanges same_end (odd_end par (at_values order xs)) w order)) v) (append-nil x.ends) (mul_one (x.entry (values x.ends (at_values order xs)))))
    (xor_false x.odd)

module _ (par : ℤ → ℕ → Bool) (pre : List Node) (x : Node) (post : List Node) (bs : List Bond) (order opens : List End)
    (net : IsNetwork (pre ++ (x ∷ post)) bs opens) (m : Perm x.ends order) where
  whole : Perm (word (x ∷ [])) order
  whole = subst (λ w. Perm w order) (sym (append-nil x.ends)) m

  pub moved_value : (a : Assignment) → flat par (pre ++ (x ∷ post)) bs opens a ≡ flat par (pre ++ (moved par x order ∷ post)) bs opens a
  moved_value a =
      any_block_value pre (x ∷ []) post [] bs order opens net whole par a
      ∙ ap (λ n. flat par (pre ++ (n ∷ post)) bs opens a) (moved_is par x order)

  pub moved_network : IsNetwork (pre ++ (moved par x order ∷ post)) bs opens
  moved_network =
      subst (λ n. IsNetwork (pre ++ (n ∷ post)) bs opens) (moved_is par x order) (any_block_network pre (x ∷ []) post [] bs order opens net whole par)

  pub moved_homogeneous : IsHomogeneous par x → IsHomogeneous par (moved par x order)
  moved_homogeneous h =
      subst (IsHomogeneous par) (moved_is par x order)
      (contract_homogeneous par (x ∷ []) [] order (mid_distinct pre (x ∷ []) post [] bs order opens net whole) whole (h, tt))
