-- The sign of an operator chain: the links drop out.
use Rattle.std.proofs.Common.{◌≡◌, ℕ, zero, suc, ◌+◌, ◌-◌, ◌*◌, ◌<◌, ◌==◌, ℤ, Bool, true, false, not, ◌&&◌, ◌||◌, cond, List, [], ◌∷◌, ◌++◌, refl, sym, ◌∙◌, ap, ap₂, subst, append_assoc, append-nil, arith, int_eq}
use Rattle.std.proofs.lemmas.Bool.{or_from, or_right}
use Rattle.std.proofs.lemmas.Bool.Decides.{nat_tests}
use Rattle.qn_sign.specs.Sign.{xor, is_in, IsDistinct, Perm}
use Rattle.qn_sign.specs.Sign.Perm.{none, keep, then_by}
use Rattle.qn_gauss.specs.Gaussian.{signed}
use Rattle.qn_value.specs.Networks.{End, Bond, Assignment, assign, same_bool, same_end, word, pairs_of, odd_end, sums, sign, product, flat, IsNetwork}
use Rattle.qn_sign.proofs.Parity.{tally, pairs, tally-append, perm-refl, perm_blocks}
use Rattle.qn_sign.proofs.Order.{same_symm, distinct-perm, distinct_second, is_in-append, is_in-perm}
use Rattle.qn_sign.proofs.SignLaws.{turned, goal_exchange}
use Rattle.qn_sign.proofs.OrderSigns.{sign_prefix, sign_itself, sign_taken}
use Rattle.qn_value.proofs.Sums.{label_test, Meets, sums-meet, IsSteady}
use Rattle.qn_value.proofs.NetLaws.{end_test, bonds_even, perm_turn, sign-pairs, sums-signed}
use Rattle.qn_braket.specs.Brakets.{outs, ins_back, AreUntwisted}
use Rattle.qn_braket.specs.Pieces.{Piece, chain, chain_links, site_lines, operator_chain}
use Rattle.qn_braket.specs.OperatorSigns.{AreApart, up, down, odd_from, crossings, OperatorSignLaw, OwnLabelsLaw}
use Rattle.qn_braket.proofs.Conjugate.{conj_ends_cons}
use Rattle.qn_braket.proofs.Overlap.{untwisted}
use Rattle.qn_braket.proofs.Chained.{pos_test, neg_test, sums-keep}

module _ (upper lower link : ℕ → ℤ) (dim : ℕ → ℕ) (c : ℕ → Piece) (n : ℕ) (apart : AreApart upper lower link n) where
  -- the legs right of site j and left of site j + 1
  abbrev into : ℕ → End
  into j = record { label = link j; inward = true }

  abbrev out : ℕ → End
  out j = record { label = link j; inward = false }

  -- the word of the sites from j on, without the left leg
  abbrev pub line : ℕ → ℕ → List End
  line j zero = up upper j ∷ down lower j ∷ []
  line j (suc m) = up upper j ∷ down lower j ∷ into j ∷ out j ∷ line (suc j) m

  abbrev bonds : ℕ → ℕ → List Bond
  bonds j m = chain_links link c j m

  abbrev opens : ℕ → ℕ → List End
  opens j m = outs (site_lines upper dim j m) ++ ins_back (site_lines lower dim j m)

  opens_is : (j m : ℕ) → opens j (suc m) ≡ up upper j ∷ (opens (suc j) m ++ down lower j ∷ [])
  opens_is j m =
      ap (λ es. up upper j ∷ es)
      (ap (λ es. outs (site_lines upper dim (suc j) m) ++ es) (conj_ends_cons (record { label = lower j; inward = false }) (outs (site_lines lower dim (suc j) m)))
      ∙ sym (append_assoc (outs (site_lines upper dim (suc j) m)) (ins_back (site_lines lower dim (suc j) m)) (down lower j ∷ [])))

  pub line_perm : (j m : ℕ) → Perm (line j m) (pairs_of (bonds j m) ++ opens j (suc m))
  line_perm j zero = perm-refl (up upper j ∷ down lower j ∷ [])
  line_perm j (suc m) =
      subst (λ o. Perm (line j (suc m)) (into j ∷ out j ∷ (pairs_of (bonds (suc j) m) ++ o))) (sym (opens_is j (suc m)))
      (then_by (perm_blocks (up upper j ∷ down lower j ∷ []) (into j ∷ out j ∷ []) (line (suc j) m))
      (keep (keep (then_by (keep (keep (line_perm (suc j) m)))
      (outer (up upper j) (down lower j) (pairs_of (bonds (suc j) m)) (opens (suc j) (suc m)))))))
    where
      outer : (u d : End) (p o : List End) → Perm (u ∷ d ∷ (p ++ o)) (p ++ (u ∷ (o ++ d ∷ [])))
      outer u d p o =
          then_by (keep (subst (Perm (d ∷ (p ++ o))) (append_assoc p o (d ∷ [])) (perm_turn (d ∷ []) (p ++ o))))
          (perm_blocks (u ∷ []) p (o ++ d ∷ []))

  -- labels

  and_false : (a : Bool) → (a && false) ≡ false
  and_false a = grind arith

  other_label : (x y : End) → int_eq x.label y.label ≡ false → same_end x y ≡ false
  other_label x y h = ap (λ b. b && same_bool x.inward y.inward) h

  absent : (e : End) (i m j : ℕ) → i < j → j + m < n →
      ((k : ℕ) → i < k → k < n → same_end e (up upper k) ≡ false) → ((k : ℕ) → i < k → k < n → same_end e (down lower k) ≡ false) →
      ((k : ℕ) → i < k → int_eq e.label (link k) ≡ false) → is_in same_end e (line j m) ≡ false
  absent e i zero j b r hu hd hl =
      or_from (same_end e (up upper j)) (same_end e (down lower j) || false) (hu j b (small j n r))
      (or_from (same_end e (down lower j)) false (hd j b (small j n r)) refl)
    where
      small : (j n : ℕ) → j + 0 < n → j < n
      small j n r = omega (arith, r)
  absent e i (suc m) j b r hu hd hl =
      let tail_absent : is_in same_end e (line (suc j) m) ≡ false = absent e i m (suc j) (more i j b) (move j m n r) hu hd hl in
      or_from (same_end e (up upper j)) _ (hu j b (small j m n r))
      (or_from (same_end e (down lower j)) _ (hd j b (small j m n r))
      (or_from (same_end e (into j)) _ (other_label e (into j) (hl j b))
      (or_from (same_end e (out j)) (is_in same_end e (line (suc j) m)) (other_label e (out j) (hl j b)) tail_absent)))
    where
      more : (i j : ℕ) → i < j → i < suc j
      more i j b = omega arith

      move : (j m n : ℕ) → j + suc m < n → suc j + m < n
      move j m n r = omega (arith, r)

      small : (j m n : ℕ) → j + suc m < n → j < n
      small j m n r = omega (arith, r)

  pub line_distinct : (m j : ℕ) → j + m < n → IsDistinct same_end (line j m)
  line_distinct zero j r = (or_from (same_end (up upper j) (down lower j)) false (and_false (int_eq (upper j) (lower j))) refl, (refl, tt))
  line_distinct (suc m) j r =
      let r' : suc j + m < n = move j m n r in
      let up_absent : is_in same_end (up upper j) (line (suc j) m) ≡ false =
      absent (up upper j) j m (suc j) (here j) r' (λ k b c. other_label (up upper j) (up upper k) (apart.uppers j k b c))
      (λ k b c. and_false (int_eq (upper j) (lower k))) (λ k b. apart.upper_link j k) in
      let down_absent : is_in same_end (down lower j) (line (suc j) m) ≡ false =
      absent (down lower j) j m (suc j) (here j) r' (λ k b c. and_false (int_eq (lower j) (upper k)))
      (λ k b c. other_label (down lower j) (down lower k) (apart.lowers j k b c)) (λ k b. apart.lower_link j k) in
      let link_absent : (e : End) → e.label ≡ link j → is_in same_end e (line (suc j) m) ≡ false = λ e f.
      absent e j m (suc j) (here j) r'
      (λ k b c. other_label e (up upper k) (ap (λ l. int_eq l (upper k)) f ∙ same_symm int_eq label_test (upper k) (link j) (apart.upper_link k j)))
      (λ k b c. other_label e (down lower k) (ap (λ l. int_eq l (lower k)) f ∙ same_symm int_eq label_test (lower k) (link j) (apart.lower_link k j)))
      (λ k b. ap (λ l. int_eq l (link k)) f ∙ apart.links j k b) in (
        or_from (same_end (up upper j) (down lower j)) _ (and_false (int_eq (upper j) (lower j)))
            (or_from (same_end (up upper j) (into j)) _ (other_label (up upper j) (into j) (apart.upper_link j j))
            (or_from (same_end (up upper j) (out j)) _ (other_label (up upper j) (out j) (apart.upper_link j j)) up_absent)),
        (
          or_from (same_end (down lower j) (into j)) _ (other_label (down lower j) (into j) (apart.lower_link j j))
              (or_from (same_end (down lower j) (out j)) _ (other_label (down lower j) (out j) (apart.lower_link j j)) down_absent),
          (
            or_from (same_end (into j) (out j)) _ (and_false (int_eq (link j) (link j))) (link_absent (into j) refl),
            (link_absent (out j) refl, line_distinct m (suc j) r'),
          ),
        ),
      )
    where
      here : (j : ℕ) → j < suc j
      here j = omega arith

      move : (j m n : ℕ) → j + suc m < n → suc j + m < n
      move j m n r = omega (arith, r)

  -- the sign

  module _ (par : ℤ → ℕ → Bool) (a : Assignment) where
    abbrev odd : End → Bool
    odd = odd_end par a

    opens_odd : (j m : ℕ) → tally odd (opens j m) ≡ odd_from par upper lower a j m
    opens_odd j zero = refl
    opens_odd j (suc m) =
        ap (tally odd) (opens_is j m)
        ∙ ap (xor (odd (up upper j))) (tally-append odd (opens (suc j) m) (down lower j ∷ []) ∙ ap (λ b. xor b (xor (odd (down lower j)) false)) (opens_odd (suc j) m))
        ∙ turn (odd (up upper j)) (odd (down lower j)) (odd_from par upper lower a (suc j) m)
      where
        turn : (u d r : Bool) → xor u (xor r (xor d false)) ≡ xor (xor u d) r
        turn u d r = grind arith

    -- one site: the word up, down, rest, and the goal bonds, up, opens, down
    module _ (u d : End) (w p o : List End) (even : tally odd p ≡ false) (dw : IsDistinct same_end (u ∷ d ∷ w)) (m : Perm w (p ++ o)) where
      inner_1 : Perm (d ∷ w) (p ++ (o ++ d ∷ []))
      inner_1 = subst (Perm (d ∷ w)) (append_assoc p o (d ∷ [])) (then_by (keep m) (perm_turn (d ∷ []) (p ++ o)))

      goal_1 : Perm (u ∷ d ∷ w) (u ∷ (p ++ (o ++ d ∷ [])))
      goal_1 = keep inner_1

      goal_2 : Perm (u ∷ d ∷ w) (p ++ (u ∷ (o ++ d ∷ [])))
      goal_2 = then_by goal_1 (perm_blocks (u ∷ []) p (o ++ d ∷ []))

      d_1 : IsDistinct same_end (u ∷ (p ++ (o ++ d ∷ [])))
      d_1 = distinct-perm same_end end_test goal_1 dw

      d_2 : IsDistinct same_end (p ++ (u ∷ (o ++ d ∷ [])))
      d_2 = distinct-perm same_end end_test goal_2 dw

      d_3 : IsDistinct same_end ((p ++ o) ++ (d ∷ []))
      d_3 = subst (IsDistinct same_end) (sym (append_assoc p o (d ∷ []))) d_1.1

      member : (x : End) → is_in same_end x p ≡ true → is_in same_end x (u ∷ d ∷ w) ≡ true
      member x h = is_in-perm same_end x goal_2 ∙ is_in-append same_end x p (u ∷ (o ++ d ∷ [])) ∙ ap (λ b. b || is_in same_end x (u ∷ (o ++ d ∷ []))) h

      member_2 : (x : End) → is_in same_end x (p ++ o) ≡ true → is_in same_end x (d ∷ w) ≡ true
      member_2 x h = or_right (same_end x d) (is_in same_end x w) (is_in-perm same_end x m ∙ h)

      pub site_sign : pairs (turned same_end odd (u ∷ d ∷ w)) (p ++ (u ∷ (o ++ d ∷ []))) ≡ xor (tally odd o && odd d) (pairs (turned same_end odd w) (p ++ o))
      site_sign =
          goal_exchange same_end end_test odd (u ∷ d ∷ w) [] p (u ∷ []) (o ++ d ∷ []) d_2 member
          ∙ ap (λ b. xor (b && tally odd (u ∷ [])) (pairs (turned same_end odd (u ∷ d ∷ w)) (u ∷ (p ++ (o ++ d ∷ []))))) even
          ∙ sign_prefix same_end end_test odd (u ∷ []) (d ∷ w) (p ++ (o ++ d ∷ [])) dw inner_1
          ∙ ap (pairs (turned same_end odd (d ∷ w))) (sym (append_assoc p o (d ∷ [])))
          ∙ goal_exchange same_end end_test odd (d ∷ w) [] (p ++ o) (d ∷ []) [] d_3 member_2
          ∙ ap₂ xor
          (ap₂ (λ x y. x && y) (tally-append odd p o ∙ ap (λ b. xor b (tally odd o)) even) (last (odd d)))
          (sign_prefix same_end end_test odd (d ∷ []) w ((p ++ o) ++ []) dw.1 (subst (Perm w) (sym (append-nil (p ++ o))) m) ∙ ap (pairs (turned same_end odd w)) (append-nil (p ++ o)))
        where
          last : (b : Bool) → xor b false ≡ b
          last b = grind arith

    pub line_sign : (m j : ℕ) → j + m < n → Meets (bonds j m) a → pairs (turned same_end odd (line j m)) (pairs_of (bonds j m) ++ opens j (suc m)) ≡ crossings par upper lower a j (suc m)
    line_sign zero j r meets = site_sign (up upper j) (down lower j) [] [] [] refl (line_distinct zero j r) none
    line_sign (suc m) j r meets =
        let w : List End = line (suc j) m in
        let p : List End = pairs_of (bonds (suc j) m) in
        let o : List End = opens (suc j) (suc m) in
        let couple : List End = into j ∷ out j ∷ [] in
        let rest : List End = p ++ (up upper j ∷ (o ++ down lower j ∷ [])) in
        let d : IsDistinct same_end (line j (suc m)) = line_distinct (suc m) j r in
        let dw : IsDistinct same_end (up upper j ∷ down lower j ∷ w) = distinct_second_of couple (up upper j ∷ down lower j ∷ []) w d in
        let even : tally odd p ≡ false = bonds_even par a (bonds (suc j) m) meets.1 in
        ap (λ g. pairs (turned same_end odd (line j (suc m))) (into j ∷ out j ∷ (p ++ g))) (opens_is j (suc m))
        ∙ sign_taken same_end end_test odd (up upper j ∷ down lower j ∷ []) couple w couple [] rest (bonds_even par a (record { label = link j; dim = 0; twisted = false } ∷ []) (meets.0, tt)) d (perm-refl couple)
        (goal_2 (up upper j) (down lower j) w p o even dw (line_perm (suc j) m))
        ∙ ap₂ xor
        (sign_itself same_end end_test odd couple (or_from (same_end (into j) (out j)) false (and_false (int_eq (link j) (link j))) refl, (refl, tt)))
        (site_sign (up upper j) (down lower j) w p o even dw (line_perm (suc j) m)
        ∙ ap₂ (λ b c. xor (b && odd (down lower j)) c) (opens_odd (suc j) (suc m)) (line_sign m (suc j) (move j m n r) meets.1))
      where
        move : (j m n : ℕ) → j + suc m < n → suc j + m < n
        move j m n r = omega (arith, r)

        distinct_second_of : (c p q : List End) → IsDistinct same_end (p ++ (c ++ q)) → IsDistinct same_end (p ++ q)
        distinct_second_of c p q d = distinct_second same_end c (p ++ q) (distinct-perm same_end end_test (perm_blocks p c q) d)

-- the value of an operator chain

module _ (par : ℤ → ℕ → Bool) (upper lower link : ℕ → ℤ) (dim : ℕ → ℕ) (c : ℕ → Piece) (m : ℕ) (apart : AreApart upper lower link (suc m)) (inward : (j : ℕ) → (c j).right_in ≡ true) where
  abbrev own : ℕ → List End
  own j = up upper j ∷ down lower j ∷ []

  abbrev links : List Bond
  links = chain_links link c 0 m

  abbrev open_ends : List End
  open_ends = outs (site_lines upper dim 0 (suc m)) ++ ins_back (site_lines lower dim 0 (suc m))

  abbrev the_line : ℕ → ℕ → List End
  the_line j k = line upper lower link dim c (suc m) apart j k

  chain_word : (k j : ℕ) (left : List End) → word (chain own link c left j k) ≡ left ++ the_line j k
  chain_word zero j left = append-nil (left ++ own j)
  chain_word (suc k) j left =
      append_assoc left (own j ++ record { label = link j; inward = (c j).right_in } ∷ []) (word (chain own link c (record { label = link j; inward = not (c j).right_in } ∷ []) (suc j) k))
      ∙ ap (λ es. left ++ (up upper j ∷ down lower j ∷ record { label = link j; inward = (c j).right_in } ∷ es))
      (chain_word k (suc j) (record { label = link j; inward = not (c j).right_in } ∷ []))
      ∙ ap (λ b. left ++ (up upper j ∷ down lower j ∷ record { label = link j; inward = b } ∷ record { label = link j; inward = not b } ∷ the_line (suc j) k)) (inward j)

  word_is : word (operator_chain upper lower link c m) ≡ the_line 0 m
  word_is = chain_word m 0 []

  below : (m : ℕ) → 0 + m < suc m
  below m = omega arith

  pub operator_net : IsNetwork (operator_chain upper lower link c m) links open_ends
  operator_net = record {
    distinct = subst (IsDistinct same_end) (sym word_is) (line_distinct upper lower link dim c (suc m) apart m 0 (below m));
    complete = subst (λ w. Perm w (pairs_of links ++ open_ends)) (sym word_is) (line_perm upper lower link dim c (suc m) apart 0 m);
  }

  -- the sign does not depend on the values of the links

  odd_agree : (a b : Assignment) → ((k : ℕ) → a (up upper k) ≡ b (up upper k)) → ((k : ℕ) → a (down lower k) ≡ b (down lower k)) →
      (k j : ℕ) → odd_from par upper lower a j k ≡ odd_from par upper lower b j k
  odd_agree a b h l zero j = refl
  odd_agree a b h l (suc k) j = ap₂ xor (ap₂ xor (ap (par (upper j)) (h j)) (ap (par (lower j)) (l j))) (odd_agree a b h l k (suc j))

  crossings_agree : (a b : Assignment) → ((k : ℕ) → a (up upper k) ≡ b (up upper k)) → ((k : ℕ) → a (down lower k) ≡ b (down lower k)) →
      (k j : ℕ) → crossings par upper lower a j k ≡ crossings par upper lower b j k
  crossings_agree a b h l zero j = refl
  crossings_agree a b h l (suc k) j = ap₂ xor (ap₂ (λ x y. x && y) (odd_agree a b h l k (suc j)) (ap (par (lower j)) (l j))) (crossings_agree a b h l k (suc j))

  steady : (j k : ℕ) → IsSteady (λ a. crossings par upper lower a 0 (suc m)) (chain_links link c j k)
  steady j zero = tt
  steady j (suc k) = (
    (λ a v. crossings_agree (assign a (link j) v) a (λ i. ap (λ b. cond b v (a (up upper i))) (apart.upper_link i j)) (λ i. ap (λ b. cond b v (a (down lower i))) (apart.lower_link i j)) (suc m) 0),
    steady (suc j) k,
  )

  plain : (j k : ℕ) → AreUntwisted (chain_links link c j k)
  plain j zero = tt
  plain j (suc k) = (refl, plain (suc j) k)

  pub operator_value : (a : Assignment) → flat par (operator_chain upper lower link c m) links open_ends a ≡
      signed (crossings par upper lower a 0 (suc m)) (sums links (product (operator_chain upper lower link c m)) a)
  operator_value a =
      sums-meet links (λ b. signed (sign par (operator_chain upper lower link c m) links open_ends b) (product (operator_chain upper lower link c m) b))
      (λ b. signed (crossings par upper lower b 0 (suc m)) (product (operator_chain upper lower link c m) b))
      (λ b meets. ap (λ s. signed s (product (operator_chain upper lower link c m) b))
      (ap₂ xor (untwisted par links b (plain 0 m))
      (sign-pairs par (operator_chain upper lower link c m) links open_ends b
      ∙ ap (λ w. pairs (turned same_end (odd_end par b) w) (pairs_of links ++ open_ends)) word_is
      ∙ line_sign upper lower link dim c (suc m) apart par b m 0 (below m) meets))) a
      ∙ sums-keep links (λ b. crossings par upper lower b 0 (suc m)) (steady 0 m) (λ s b. signed s (product (operator_chain upper lower link c m) b)) a
      ∙ sums-signed (crossings par upper lower a 0 (suc m)) links (product (operator_chain upper lower link c m)) a

pub operator_sign : OperatorSignLaw
operator_sign par upper lower link dim c m apart inward = (
  operator_net par upper lower link dim c m apart inward,
  operator_value par upper lower link dim c m apart inward,
)

pub own_apart : OwnLabelsLaw
own_apart m = record {
  uppers = λ j k b h. neg_test j k ∙ differ j k b;
  lowers = λ j k b h. neg_test (2 * m + 1 - j) (2 * m + 1 - k) ∙ mirror j k m b h;
  links = λ j k b. pos_test (suc j) (suc k) ∙ differ_suc j k b;
  upper_link = λ j k. refl;
  lower_link = λ j k. refl;
}
  where
    differ : (j k : ℕ) → j < k → (j == k) ≡ false
    differ j k b = grind (arith, nat_tests)

    differ_suc : (j k : ℕ) → j < k → (suc j == suc k) ≡ false
    differ_suc j k b = grind (arith, nat_tests)

    mirror : (j k m : ℕ) → j < k → k < suc m → (2 * m + 1 - j == 2 * m + 1 - k) ≡ false
    mirror j k m b h = grind (arith, nat_tests)
