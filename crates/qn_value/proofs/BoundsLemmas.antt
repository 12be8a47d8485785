-- Values out of range.
use Rattle.std.proofs.Common.{◌≡◌, ℕ, suc, ◌+◌, ◌-◌, ◌<◌, ◌≤◌, ◌==◌, ℤ, Bool, true, false, ◌&&◌, ◌||◌, cond, List, [], ◌∷◌, refl, sym, ◌∙◌, ap, subst, length, slice_index_or, nat_lt, ne_eqb, ◌⊎◌, inl, inr, arith, int_eq}
use Rattle.std.proofs.lemmas.Bool.{or_cases, or_right, false≢true}
use Rattle.std.proofs.lemmas.Bool.Decides.{nat_tests}
use Rattle.qn_sign.specs.Sign.{is_in}
use Rattle.qn_gauss.specs.Gaussian.{zero_g, mul_g, signed}
use Rattle.qn_value.specs.Networks.{End, Node, Bond, Assignment, same_end, word, pairs_of, sign, values, product, at_values, contract, labels, IsNetwork}
use Rattle.qn_index.specs.Legs.{SectorValue, total, sector_of}
use Rattle.qn_index.specs.Tuples.{IsTuple}
use Rattle.qn_index.specs.Places.{sectors_at, offset_at}
use Rattle.qn_value.specs.Tensors.{BlockValue, same_values, entry_in}
use Rattle.qn_value.specs.Blocks.{Blocked, legs_on, blocked_node, HaveTuples}
use Rattle.qn_value.specs.Bounds.{IsBounded, AllBounded}
use Rattle.qn_sign.proofs.Order.{is_in-append, is_in-perm, distinct-perm, distinct_parts_back}
use Rattle.qn_gauss.proofs.Ring.{mul_comm, mul_zero}
use Rattle.qn_value.proofs.Sums.{steady_from, sums-vanish}
use Rattle.qn_value.proofs.NetLaws.{end_test, signed-zero, ends-labels, at_values-values}

module _ (dims : ℤ → ℕ) where
  product_bounded : (ns : List Node) → AllBounded dims ns → (c : Assignment) (e : End) → is_in same_end e (word ns) ≡ true → dims e.label ≤ c e → product ns c ≡ zero_g
  product_bounded [] h c e i l = absurd (false≢true i)
  product_bounded (n ∷ ns) h c e i l =
      go (or_cases (is_in same_end e n.ends) (is_in same_end e (word ns)) (sym (is_in-append same_end e n.ends (word ns)) ∙ i)) (λ j. product_bounded ns h.1 c e j l)
    where
      go : (is_in same_end e n.ends ≡ true) ⊎ (is_in same_end e (word ns) ≡ true) → (is_in same_end e (word ns) ≡ true → product ns c ≡ zero_g) →
          mul_g (n.entry (values n.ends c)) (product ns c) ≡ zero_g
      go (inl j) ih = ap (λ x. mul_g x (product ns c)) (h.0 c e j l) ∙ mul_comm zero_g (product ns c) ∙ mul_zero (product ns c)
      go (inr j) ih = ap (mul_g (n.entry (values n.ends c))) (ih j) ∙ mul_zero (n.entry (values n.ends c))

  pub contract_bounded : (par : ℤ → ℕ → Bool) (ns : List Node) (bs : List Bond) (opens : List End) → IsNetwork ns bs opens → AllBounded dims ns → IsBounded dims (contract par ns bs opens)
  contract_bounded par ns bs opens net h a e i l =
      sums-vanish bs test (λ c. signed (sign par ns bs opens c) (product ns c)) (steady_from bs opens test (λ a c k. ap (λ v. nat_lt v (dims e.label)) (k e i)) open_label) false
      (λ c m t. ap (signed (sign par ns bs opens c)) (product_bounded ns h c e in_word (below (c e) (dims e.label) t)) ∙ signed-zero (sign par ns bs opens c))
      (at_values opens (values opens a))
      (ap (λ v. nat_lt v (dims e.label)) (at_values-values opens a e i) ∙ above (a e) (dims e.label) l)
    where
      test : Assignment → Bool
      test c = nat_lt (c e) (dims e.label)

      in_word : is_in same_end e (word ns) ≡ true
      in_word = is_in-perm same_end e net.complete ∙ is_in-append same_end e (pairs_of bs) opens ∙ or_right (is_in same_end e (pairs_of bs)) (is_in same_end e opens) i

      open_label : (x : End) → is_in same_end x opens ≡ true → is_in int_eq x.label (labels bs) ≡ false
      open_label x k = sym (ends-labels x bs) ∙ distinct_parts_back same_end end_test x (pairs_of bs) opens (distinct-perm same_end end_test net.complete net.distinct) k

      below : (v d : ℕ) → nat_lt v d ≡ false → d ≤ v
      below v d t = grind (arith, nat_tests)

      above : (v d : ℕ) → d ≤ v → nat_lt v d ≡ false
      above v d t = grind (arith, nat_tests)

-- a value out of range is in no sector
pub sector_outside : (ds : List SectorValue) (v : ℕ) → total ds ≤ v → sector_of ds v ≡ length ds
sector_outside [] v h = refl
sector_outside (p ∷ ds) v h = ap (λ b. cond b 0 (suc (sector_of ds (v - p.dim)))) (far v p.dim h) ∙ ap suc (sector_outside ds (v - p.dim) (omega (arith, h)))
  where
    far : (v d : ℕ) → d + total ds ≤ v → nat_lt v d ≡ false
    far v d h = grind (arith, nat_tests)

-- so no tuple has it
no_tuple : (sectors : ℤ → List SectorValue) (es : List End) (t : List ℕ) (a : Assignment) (e : End) → IsTuple (legs_on sectors es) t → is_in same_end e es ≡ true →
    total (sectors e.label) ≤ a e → same_values t (sectors_at (legs_on sectors es) (values es a)) ≡ false
no_tuple sectors [] t a e h i l = absurd (false≢true i)
no_tuple sectors (z ∷ es) [] a e h i l = absurd h
no_tuple sectors (z ∷ es) (j ∷ t) a e h i l = go (same_end e z) refl i (λ k. no_tuple sectors es t a e h.1 k l)
  where
    first_false : (b c : Bool) → b ≡ false → (b && c) ≡ false
    first_false b c e = grind arith

    second_false : (b c : Bool) → c ≡ false → (b && c) ≡ false
    second_false b c e = grind arith

    go : (b : Bool) → same_end e z ≡ b → (b || is_in same_end e es) ≡ true →
        (is_in same_end e es ≡ true → same_values t (sectors_at (legs_on sectors es) (values es a)) ≡ false) →
        ((j == sector_of (sectors z.label) (a z)) && same_values t (sectors_at (legs_on sectors es) (values es a))) ≡ false
    go true f k ih =
        let w : e ≡ z = end_test.equal e z f in
        let out : sector_of (sectors z.label) (a z) ≡ length (sectors z.label) =
        sector_outside (sectors z.label) (a z) (subst (λ (x : End). total (sectors x.label) ≤ a x) w l) in
        first_false (j == sector_of (sectors z.label) (a z)) (same_values t (sectors_at (legs_on sectors es) (values es a)))
        (ap (λ m. j == m) out ∙ ne_eqb j (length (sectors z.label)) (λ g. less j (length (sectors z.label)) h.0 g))
      where
        less : (m n : ℕ) → m < n → m ≡ n → ⊥
        less m n p q = omega arith
    go false f k ih = second_false (j == sector_of (sectors z.label) (a z)) (same_values t (sectors_at (legs_on sectors es) (values es a))) (ih k)

pub blocks_bounded : (sectors : ℤ → List SectorValue) (n : Blocked) → HaveTuples (legs_on sectors n.ends) n.blocks → IsBounded (λ l. total (sectors l)) (blocked_node sectors n)
blocks_bounded sectors n h a e i l = go n.blocks h
  where
    go : (bs : List BlockValue) → HaveTuples (legs_on sectors n.ends) bs → entry_in (legs_on sectors n.ends) bs (values n.ends a) ≡ zero_g
    go [] h = refl
    go (b ∷ bs) h =
        ap (λ p. cond p (slice_index_or b.entries (offset_at (legs_on sectors n.ends) (values n.ends a)) zero_g) (entry_in (legs_on sectors n.ends) bs (values n.ends a)))
        (no_tuple sectors n.ends b.tuple a e h.0 i l)
        ∙ go bs h.1
