-- The sign of a contraction with a table.
use Rattle.std.proofs.Common.{◌≡◌, ℕ, ℤ, Bool, true, false, not, ◌&&◌, ◌||◌, List, [], ◌∷◌, ◌++◌, refl, sym, ◌∙◌, ap, ap₂, subst, subst₂, append_assoc, map, arith}
use Rattle.qn_sign.specs.Sign.{is_in, xor, IsDistinct, Perm}
use Rattle.qn_sign.specs.Sign.Perm.{none, swap, then_by}
use Rattle.qn_value.specs.Networks.{End, same_end, pairs_of}
use Rattle.qn_fuse.specs.Contractions.{flip, backwards, bonds_over}
use Rattle.qn_sign.proofs.Parity.{tally, pairs, perm-refl, perm_under, perm_before, perm_blocks}
use Rattle.std.proofs.lemmas.Bool.{or_left}
use Rattle.qn_sign.proofs.Order.{is_in-append, is_in-perm, distinct-perm, distinct_first, distinct_second}
use Rattle.qn_sign.proofs.SignLaws.{turned, sign-compose, word_exchange, goal_exchange}
use Rattle.qn_sign.proofs.OrderSigns.{sign_prefix, sign_suffix, sign_itself, sign_inside}
use Rattle.qn_value.proofs.NetLaws.{end_test}

module _ (dims : ℤ → ℕ) where
  abbrev ends_of : List End → List End
  ends_of es = pairs_of (bonds_over dims es)

  abbrev nested : List End → List End
  nested es = backwards (map flip es) ++ es

  -- an end and its partner, as they stand in the goal
  couple : (l : ℤ) (i : Bool) → Perm {E = End} (record { label = l; inward = not i } ∷ record { label = l; inward = i } ∷ []) (record { label = l; inward = true } ∷ record { label = l; inward = false } ∷ [])
  couple l true = swap
  couple l false = perm-refl _

  opened : (e : End) (es : List End) → nested (e ∷ es) ≡ backwards (map flip es) ++ ((flip e ∷ e ∷ []) ++ es)
  opened e es = append_assoc (backwards (map flip es)) (flip e ∷ []) (e ∷ es)

  nested_front : (e : End) (es : List End) → Perm (backwards (map flip es) ++ ((flip e ∷ e ∷ []) ++ es)) ((flip e ∷ e ∷ []) ++ nested es)
  nested_front e es = perm_blocks (backwards (map flip es)) (flip e ∷ e ∷ []) es

  pub nested_perm : (es : List End) → Perm (nested es) (ends_of es)
  nested_perm [] = none
  nested_perm (e ∷ es) =
      subst (λ w. Perm w (ends_of (e ∷ es))) (sym (opened e es))
      (then_by (nested_front e es)
      (then_by (perm_under (flip e ∷ e ∷ []) (nested_perm es)) (perm_before (ends_of es) (couple e.label e.inward))))

  module _ (odd : End → Bool) where
    -- the partners have the parities of the ends
    abbrev pub AreEven : List End → Type 0
    AreEven [] = Unit {0}
    AreEven (e ∷ es) = (odd (flip e) ≡ odd e) × AreEven es

    couple_sign : (l : ℤ) (i : Bool) → odd (record { label = l; inward = not i }) ≡ odd (record { label = l; inward = i }) →
        IsDistinct same_end (record { label = l; inward = not i } ∷ record { label = l; inward = i } ∷ []) →
        pairs (turned same_end odd (record { label = l; inward = not i } ∷ record { label = l; inward = i } ∷ []))
        (record { label = l; inward = true } ∷ record { label = l; inward = false } ∷ []) ≡ (i && odd (record { label = l; inward = i }))
    couple_sign l false e d = sign_itself same_end end_test odd (record { label = l; inward = true } ∷ record { label = l; inward = false } ∷ []) d
    couple_sign l true e d =
        let x : End = record { label = l; inward = true } in
        let y : End = record { label = l; inward = false } in
        goal_exchange same_end end_test odd (y ∷ x ∷ []) [] (x ∷ []) (y ∷ []) [] (distinct-perm same_end end_test (swap {x = y} {y = x} {xs = []}) d)
        (λ z h. sym (is_in-perm same_end z (swap {x = x} {y = y} {xs = []})) ∙ first (same_end z x) (same_end z y) h)
        ∙ both (odd x) (odd y) (pairs (turned same_end odd (y ∷ x ∷ [])) (y ∷ x ∷ [])) e (sign_itself same_end end_test odd (y ∷ x ∷ []) d)
      where
        first : (p q : Bool) → (p || false) ≡ true → (p || (q || false)) ≡ true
        first p q h = grind arith

        both : (p q r : Bool) → q ≡ p → r ≡ false → xor (xor p false && xor q false) r ≡ p
        both p q r h k = grind arith

    -- the nested couples: each is met with its inward end last where the end is inward
    pub nested_sign : (es : List End) → IsDistinct same_end (nested es) → AreEven es →
        pairs (turned same_end odd (nested es)) (ends_of es) ≡ tally (λ e. e.inward && odd e) es
    nested_sign [] d h = refl
    nested_sign (e ∷ es) d h =
        let two : List End = flip e ∷ e ∷ [] in
        let goal_two : List End = record { label = e.label; inward = true } ∷ record { label = e.label; inward = false } ∷ [] in
        let back : List End = backwards (map flip es) in
        let d1 : IsDistinct same_end (back ++ (two ++ es)) = subst (IsDistinct same_end) (opened e es) d in
        let d2 : IsDistinct same_end (two ++ nested es) = distinct-perm same_end end_test (nested_front e es) d1 in
        let p : Perm (two ++ nested es) (two ++ ends_of es) = perm_under two (nested_perm es) in
        let q : Perm (two ++ ends_of es) (goal_two ++ ends_of es) = perm_before (ends_of es) (couple e.label e.inward) in
        let d3 : IsDistinct same_end (two ++ ends_of es) = distinct-perm same_end end_test p d2 in
        let d4 : IsDistinct same_end (goal_two ++ ends_of es) = distinct-perm same_end end_test q d3 in
        ap (λ (w : List End). pairs (turned same_end odd w) (ends_of (e ∷ es))) (opened e es)
        ∙ word_exchange same_end end_test odd [] back two es (ends_of (e ∷ es)) d1 d4 (then_by (nested_front e es) (then_by p q))
        ∙ even (tally odd back) (odd (flip e)) (odd e) (pairs (turned same_end odd (two ++ nested es)) (goal_two ++ ends_of es)) h.0
        ∙ sign-compose same_end end_test odd (two ++ nested es) (two ++ ends_of es) (goal_two ++ ends_of es) d3 d4 p q
        ∙ joined
        (sign_prefix same_end end_test odd two (nested es) (ends_of es) d2 (nested_perm es) ∙ nested_sign es (distinct_second same_end two (nested es) d2) h.1)
        (sign_suffix same_end end_test odd two goal_two (ends_of es) d3 (couple e.label e.inward)
        ∙ couple_sign e.label e.inward h.0 (distinct_first same_end two (nested es) d2))
      where
        even : (t p q r : Bool) → p ≡ q → xor (t && xor p (xor q false)) r ≡ r
        even t p q r h = grind arith

        joined : {p q u v : Bool} → p ≡ u → q ≡ v → xor p q ≡ xor v u
        joined {p = p} {q = q} {u = u} {v = v} e f = grind arith

    module _ (first new old rest : List End) where
      abbrev back : List End
      back = backwards (map flip old)

      abbrev start : List End
      start = (new ++ back) ++ (first ++ (old ++ rest))

      abbrev moved : List End
      moved = first ++ ((new ++ back) ++ (old ++ rest))

      abbrev inner : List End
      inner = (first ++ new) ++ (nested old ++ rest)

      abbrev end : List End
      end = ends_of old ++ (first ++ (new ++ rest))

      same_inner : moved ≡ inner
      same_inner = simp append_assoc

      same_end_list : end ≡ ends_of old ++ ((first ++ new) ++ rest)
      same_end_list = simp append_assoc

      to_moved : Perm start moved
      to_moved = perm_blocks (new ++ back) first (old ++ rest)

      to_inner : Perm inner ((first ++ new) ++ (ends_of old ++ rest))
      to_inner = perm_under (first ++ new) (perm_before rest (nested_perm old))

      to_end : Perm ((first ++ new) ++ (ends_of old ++ rest)) (ends_of old ++ ((first ++ new) ++ rest))
      to_end = perm_blocks (first ++ new) (ends_of old) rest

      pub start_perm : Perm start end
      start_perm =
          then_by to_moved (subst₂ Perm (sym same_inner) (sym same_end_list) (then_by to_inner to_end))

      pub table_sign : IsDistinct same_end start → AreEven old → tally odd (new ++ back) ≡ false → tally odd (ends_of old) ≡ false →
          pairs (turned same_end odd start) end ≡ tally (λ e. e.inward && odd e) old
      table_sign d h even flat =
          let dm : IsDistinct same_end moved = distinct-perm same_end end_test to_moved d in
          let di : IsDistinct same_end inner = subst (IsDistinct same_end) same_inner dm in
          let de : IsDistinct same_end end = distinct-perm same_end end_test start_perm d in
          let dg : IsDistinct same_end (ends_of old ++ ((first ++ new) ++ rest)) = subst (IsDistinct same_end) same_end_list de in
          word_exchange same_end end_test odd [] (new ++ back) first (old ++ rest) end d de start_perm
          ∙ ap (λ b. xor (b && tally odd first) (pairs (turned same_end odd moved) end)) even
          ∙ ap₂ (λ (w g : List End). pairs (turned same_end odd w) g) same_inner same_end_list
          ∙ goal_exchange same_end end_test odd inner [] (ends_of old) (first ++ new) rest dg
          (λ x k. is_in-perm same_end x (then_by to_inner to_end) ∙ (is_in-append same_end x (ends_of old) ((first ++ new) ++ rest) ∙ or_left (is_in same_end x (ends_of old)) _ k))
          ∙ ap (λ b. xor (b && tally odd (first ++ new)) (pairs (turned same_end odd inner) ((first ++ new) ++ (ends_of old ++ rest)))) flat
          ∙ sign_inside same_end end_test odd (first ++ new) (nested old) (ends_of old) rest di (nested_perm old)
          ∙ nested_sign old (distinct_first same_end (nested old) rest (distinct_second same_end (first ++ new) (nested old ++ rest) di)) h
