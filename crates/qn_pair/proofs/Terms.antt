-- An entry of a contraction of two tensors, as a sum over pairs of their blocks.
use Rattle.std.proofs.Common.{◌≡◌, ◌<◌, ℕ, ◌==◌, ℤ, Bool, true, false, ◌&&◌, List, [], ◌∷◌, ◌++◌, refl, sym, ◌∙◌, ap, ap₂, subst, map, length, append-nil, zero-add, arith}
use Rattle.std.specs.List.{All, range_with_len}
use Rattle.std.proofs.lemmas.List.{map-append, length-append, get_or-append-add}
use Rattle.std.proofs.Math.ListN.{get_or-append}
use Rattle.qn_sign.specs.Sign.{exchange_sign, xor, IsDistinct, Perm}
use Rattle.qn_sign.specs.Positions.{positions, is_odd_at}
use Rattle.qn_sign.proofs.Parity.{perm-sym}
use Rattle.qn_gauss.specs.Gaussian.{Gaussian, mul_g, signed}
use Rattle.qn_index.specs.Legs.{LegValue, SectorValue}
use Rattle.qn_index.specs.Tuples.{IsTuple}
use Rattle.qn_index.specs.Places.{block_size, inner_of, values_at, IsInner}
use Rattle.qn_index.proofs.Places.{inner_in, inner_length}
use Rattle.qn_index.proofs.Nets.{tuple_length}
use Rattle.qn_value.specs.Networks.{End, Node, Bond, Assignment, Parities, same_end, goal, odd_end, order_sign, sign, sums, values, at_values, contract, flat, AreAlike, IsNetwork}
use Rattle.qn_value.specs.Tensors.{BlockValue, same_values}
use Rattle.qn_value.specs.Blocks.{Blocked, legs_on, values_in, inside, blocked_node, by_sector, bonds_in, HaveTuples, AreDistinctBlocks}
use Rattle.qn_value.specs.Rows.{sum_over, when, meet_on}
use Rattle.qn_value.specs.Local.{no_leg, IsCoupling, picked}
use Rattle.qn_value.proofs.RowsLemmas.{values_back}
use Rattle.qn_value.proofs.BlocksLemmas.{pairs_law}
use Rattle.qn_value.proofs.AlikeLemmas.{contract_alike}
use Rattle.qn_value.proofs.Steps.{order_law, order_network}
use Rattle.qn_value.proofs.CoupledLemmas.{leg_at}
use Rattle.qn_match.specs.Pairs.{agree, joined, give}
use Rattle.qn_strides.specs.Strides.{open_places, goal_places, couples_meet, strides, kept_axes, start_of}
use Rattle.qn_strides.proofs.Goal.{below_positions, of_positions, bonds_at, end_at, all_ends, numbered}
use Rattle.qn_strides.proofs.Lines.{FitLines, GivesTuple, AreWithin, gives_tuple, legs_from, legs_on_places, bonds_fit, dims_fit, meets_are, opens_are, not_twisted, goal_perm, sign_at}
use Rattle.qn_strides.proofs.Opens.{place_same, length_maps, ends_distinct, left_legs, left_ends, left_is, left_distinct}
use Rattle.qn_strides.proofs.Blocks.{over_tuples}
use Rattle.qn_kernel.specs.Sources.{couples_of, paired_axes, sum_both, product_at}
use Rattle.qn_kernel.proofs.Frames.{tuple_joined}
use Rattle.qn_pair.proofs.Words.{gives_are}
use Rattle.qn_pair.proofs.Weighed.{both_axes, first_ends, second_ends, shifted, both_along, axes_agree}
use Rattle.qn_kernel.proofs.Places.{range_append}

-- what two blocks add to an entry of the contraction; `odd` gives the parities of their sectors
abbrev pub pair_term : List LegValue → List LegValue → List (ℕ × ℕ) → (List ℕ → List Bool) → List ℕ → ℕ → BlockValue → BlockValue → Gaussian
pair_term ks ls ps odd ss n b c =
    let cs : List (ℕ × ℕ) = couples_of (length ks) ps in
    let word : List LegValue = ks ++ ls in
    when (give ps ss b.tuple c.tuple)
    (signed (exchange_sign ◌==◌ (is_odd_at (odd (b.tuple ++ c.tuple))) (positions (length word)) (goal_places word cs))
    (sum_both (product_at b.entries c.entries) (paired_axes ks b.tuple (strides ks b.tuple) (strides ls c.tuple) ps)
    (start_of (kept_axes (strides ks b.tuple) (left_legs word cs) ss (open_places cs (length word))) n)
    (start_of (kept_axes (shifted ks ls c.tuple) (left_legs word cs) ss (open_places cs (length word))) n)))

module _ (par : Parities) (sectors : ℤ → List SectorValue) (ks ls : List LegValue) (ps : List (ℕ × ℕ)) (good : IsCoupling (ks ++ ls) (couples_of (length ks) ps)) (fit : FitLines (ks ++ ls) (couples_of (length ks) ps) sectors) (below : All (λ p. p.0 < length ks) ps) (bs ds : List BlockValue) (odd1 odd2 : Bool) where
  abbrev word : List LegValue
  word = ks ++ ls

  abbrev cs : List (ℕ × ℕ)
  cs = couples_of (length ks) ps

  abbrev firsts : List End
  firsts = first_ends ks ls ps

  abbrev seconds : List End
  seconds = second_ends ks ls ps

  abbrev pub first_blocked : Blocked
  first_blocked = record { ends = first_ends ks ls ps; blocks = bs; odd = odd1 }

  abbrev pub second_blocked : Blocked
  second_blocked = record { ends = second_ends ks ls ps; blocks = ds; odd = odd2 }

  abbrev nodes : List Node
  nodes = blocked_node sectors first_blocked ∷ blocked_node sectors second_blocked ∷ []

  abbrev pub word_odd : List ℕ → List Bool
  word_odd t = map (λ i. odd_end par (at_values (all_ends (ks ++ ls) (couples_of (length ks) ps)) t) (end_at (ks ++ ls) (couples_of (length ks) ps) i)) (positions (length (ks ++ ls)))

  ends_are : first_ends ks ls ps ++ second_ends ks ls ps ≡ all_ends (ks ++ ls) (couples_of (length ks) ps)
  ends_are =
      sym (map-append (end_at word cs) (positions (length ks)) (range_with_len (length ks) (length ls)))
      ∙ ap (map (end_at word cs)) (sym (ap positions (length-append ks ls) ∙ range_append 0 (length ks) (length ls) ∙ ap (λ m. positions (length ks) ++ range_with_len m (length ls)) (zero-add (length ks))))

  whole : first_ends ks ls ps ++ (second_ends ks ls ps ++ []) ≡ all_ends (ks ++ ls) (couples_of (length ks) ps)
  whole = ap (λ es. firsts ++ es) (append-nil seconds) ∙ ends_are

  pub pair_network : IsNetwork (blocked_node sectors first_blocked ∷ blocked_node sectors second_blocked ∷ []) (bonds_at 1 (ks ++ ls) (couples_of (length ks) ps)) (left_ends (ks ++ ls) (couples_of (length ks) ps))
  pair_network = record {
    distinct = subst (IsDistinct same_end) (sym whole) (ends_distinct word cs good);
    complete = subst (λ es. Perm es (goal (bonds_at 1 word cs) (left_ends word cs))) (sym whole) (goal_perm word cs good);
  }

  first_within : AreWithin (ks ++ ls) (positions (length ks))
  first_within i h = omega (arith, below_positions (length ks) i h, length-append ks ls)

  second_within : AreWithin (ks ++ ls) (range_with_len (length ks) (length ls))
  second_within i h = let r = of_positions (length ks) (length ls) i h in omega (arith, r.1, length-append ks ls)

  pub legs_first : legs_on sectors (first_ends ks ls ps) ≡ ks
  legs_first =
      legs_on_places word cs sectors (positions (length ks)) fit first_within
      ∙ legs_from (leg_at word) 0 ks (λ k l. ap (leg_at word) (zero-add k) ∙ get_or-append ks ls no_leg k l)

  pub legs_second : legs_on sectors (second_ends ks ls ps) ≡ ls
  legs_second =
      legs_on_places word cs sectors (range_with_len (length ks) (length ls)) fit second_within
      ∙ legs_from (leg_at word) (length ks) ls (λ k l. get_or-append-add ks ls k no_leg)

  term_is : (ss : List ℕ) (n : ℕ) → IsTuple (left_legs (ks ++ ls) (couples_of (length ks) ps)) ss → n < block_size (left_legs (ks ++ ls) (couples_of (length ks) ps)) ss →
      (b : BlockValue) → IsTuple ks b.tuple → (c : BlockValue) → IsTuple ls c.tuple →
      (let k = at_values (first_ends ks ls ps ++ second_ends ks ls ps) (b.tuple ++ c.tuple) in
      when (meet_on (bonds_at 1 (ks ++ ls) (couples_of (length ks) ps)) k && same_values ss (values (left_ends (ks ++ ls) (couples_of (length ks) ps)) k))
      (signed (sign par (blocked_node sectors first_blocked ∷ blocked_node sectors second_blocked ∷ []) (bonds_at 1 (ks ++ ls) (couples_of (length ks) ps)) (left_ends (ks ++ ls) (couples_of (length ks) ps)) k)
      (sums (bonds_in sectors k (bonds_at 1 (ks ++ ls) (couples_of (length ks) ps)))
      (λ o. mul_g (inside (legs_on sectors (first_ends ks ls ps)) b (values (first_ends ks ls ps) o)) (inside (legs_on sectors (second_ends ks ls ps)) c (values (second_ends ks ls ps) o)))
      (at_values (left_ends (ks ++ ls) (couples_of (length ks) ps)) (inner_of (left_legs (ks ++ ls) (couples_of (length ks) ps)) ss n)))))
      ≡ pair_term ks ls ps word_odd ss n b c
  term_is ss n h lt b hb c hc =
      (λ i. let k : Assignment = at_values (ends_are i) (b.tuple ++ c.tuple) in
      when (meet_on (bonds_at 1 word cs) k && same_values ss (values (left_ends word cs) k))
      (signed (sign par nodes (bonds_at 1 word cs) (left_ends word cs) k)
      (sums (bonds_in sectors k (bonds_at 1 word cs)) (λ o. mul_g (inside (legs_first i) b (values firsts o)) (inside (legs_second i) c (values seconds o)))
      (at_values (left_ends word cs) os))))
      ∙ (λ i. when (test i) (signed (signs i) (summed i)))
      ∙ go (give ps ss b.tuple c.tuple) refl
    where
      t : List ℕ
      t = b.tuple ++ c.tuple

      k : Assignment
      k = at_values (all_ends (ks ++ ls) (couples_of (length ks) ps)) (b.tuple ++ c.tuple)

      long : length (b.tuple ++ c.tuple) ≡ length (ks ++ ls)
      long = tuple_length (ks ++ ls) (b.tuple ++ c.tuple) (tuple_joined ks ls b.tuple c.tuple hb hc)

      gives : GivesTuple (ks ++ ls) (couples_of (length ks) ps) (b.tuple ++ c.tuple) k
      gives = gives_tuple word cs good (b.tuple ++ c.tuple) long

      os : List ℕ
      os = inner_of (left_legs (ks ++ ls) (couples_of (length ks) ps)) ss n

      test : (meet_on (bonds_at 1 (ks ++ ls) (couples_of (length ks) ps)) k && same_values ss (values (left_ends (ks ++ ls) (couples_of (length ks) ps)) k)) ≡ give ps ss b.tuple c.tuple
      test =
          ap₂ (λ p q. p && same_values ss q) (meets_are 1 word cs cs (b.tuple ++ c.tuple) k gives (numbered word cs good)) (opens_are word cs (b.tuple ++ c.tuple) k gives)
          ∙ ap (λ m. couples_meet cs (b.tuple ++ c.tuple) && same_values ss (picked 0 (b.tuple ++ c.tuple) (open_places cs m))) (length-append ks ls)
          ∙ gives_are (length ks) (length ls) ps ss b.tuple c.tuple (tuple_length ks b.tuple hb) (tuple_length ls c.tuple hc) below

      signs : sign par (blocked_node sectors first_blocked ∷ blocked_node sectors second_blocked ∷ []) (bonds_at 1 (ks ++ ls) (couples_of (length ks) ps)) (left_ends (ks ++ ls) (couples_of (length ks) ps)) k
          ≡ exchange_sign ◌==◌ (is_odd_at (word_odd (b.tuple ++ c.tuple))) (positions (length (ks ++ ls))) (goal_places (ks ++ ls) (couples_of (length ks) ps))
      signs =
          ap (λ x. xor x (order_sign par nodes (bonds_at 1 word cs) (left_ends word cs) k)) (not_twisted par 1 word cs k)
          ∙ ap (λ es. exchange_sign same_end (odd_end par k) es (goal (bonds_at 1 word cs) (left_ends word cs))) whole
          ∙ sign_at word cs good (odd_end par k)

      back : values (left_ends (ks ++ ls) (couples_of (length ks) ps)) (at_values (left_ends (ks ++ ls) (couples_of (length ks) ps)) os) ≡ os
      back = values_back (left_ends word cs) os (left_distinct word cs good) (inner_length (left_legs word cs) ss os (inner_in (left_legs word cs) ss n h lt) ∙ length_maps (leg_at word) (end_at word cs) (open_places cs (length word)))

      summed : sums (bonds_in sectors k (bonds_at 1 (ks ++ ls) (couples_of (length ks) ps))) (λ o. mul_g (inside ks b (values (first_ends ks ls ps) o)) (inside ls c (values (second_ends ks ls ps) o))) (at_values (left_ends (ks ++ ls) (couples_of (length ks) ps)) os)
          ≡ sum_both (product_at b.entries c.entries) (both_axes (ks ++ ls) (b.tuple ++ c.tuple) (strides ks b.tuple) (shifted ks ls c.tuple) (couples_of (length ks) ps))
          (start_of (kept_axes (strides ks b.tuple) (left_legs (ks ++ ls) (couples_of (length ks) ps)) ss (open_places (couples_of (length ks) ps) (length (ks ++ ls)))) n)
          (start_of (kept_axes (shifted ks ls c.tuple) (left_legs (ks ++ ls) (couples_of (length ks) ps)) ss (open_places (couples_of (length ks) ps) (length (ks ++ ls)))) n)
      summed =
          both_along sectors k ks ls b.tuple c.tuple ps good hb hc (product_at b.entries c.entries) (left_legs word cs) ss n (at_values (left_ends word cs) os)
          (dims_fit 1 word cs cs sectors (b.tuple ++ c.tuple) k fit gives (numbered word cs good)) back

      none : (p : Bool) → p ≡ false → (v w : Gaussian) → when p v ≡ when p w
      none p e v w = ap (λ q. when q v) e ∙ sym (ap (λ q. when q w) e)

      agreed : (p q : Bool) → (p && q) ≡ true → p ≡ true
      agreed p q e = grind arith

      go : (p : Bool) → give ps ss b.tuple c.tuple ≡ p →
          when (give ps ss b.tuple c.tuple) (signed (exchange_sign ◌==◌ (is_odd_at (word_odd (b.tuple ++ c.tuple))) (positions (length (ks ++ ls))) (goal_places (ks ++ ls) (couples_of (length ks) ps)))
          (sum_both (product_at b.entries c.entries) (both_axes (ks ++ ls) (b.tuple ++ c.tuple) (strides ks b.tuple) (shifted ks ls c.tuple) (couples_of (length ks) ps))
          (start_of (kept_axes (strides ks b.tuple) (left_legs (ks ++ ls) (couples_of (length ks) ps)) ss (open_places (couples_of (length ks) ps) (length (ks ++ ls)))) n)
          (start_of (kept_axes (shifted ks ls c.tuple) (left_legs (ks ++ ls) (couples_of (length ks) ps)) ss (open_places (couples_of (length ks) ps) (length (ks ++ ls)))) n)))
          ≡ pair_term ks ls ps word_odd ss n b c
      go true e =
          ap (λ xs. when (give ps ss b.tuple c.tuple) (signed (exchange_sign ◌==◌ (is_odd_at (word_odd (b.tuple ++ c.tuple))) (positions (length word)) (goal_places word cs))
          (sum_both (product_at b.entries c.entries) xs
          (start_of (kept_axes (strides ks b.tuple) (left_legs word cs) ss (open_places cs (length word))) n)
          (start_of (kept_axes (shifted ks ls c.tuple) (left_legs word cs) ss (open_places cs (length word))) n))))
          (axes_agree ks ls b.tuple c.tuple ps hb hc good.meet below (agreed (agree ps b.tuple c.tuple) (same_values (joined ps b.tuple c.tuple) ss) e))
      go false e = none (give ps ss b.tuple c.tuple) e _ _

  pub flat_pairs : (x y : Node) → AreAlike x (blocked_node sectors first_blocked) → AreAlike y (blocked_node sectors second_blocked) → (bonds : List Bond) → Perm bonds (bonds_at 1 (ks ++ ls) (couples_of (length ks) ps)) →
      AreDistinctBlocks bs → AreDistinctBlocks ds → HaveTuples ks bs → HaveTuples ls ds → (ss : List ℕ) (n : ℕ) → IsTuple (left_legs (ks ++ ls) (couples_of (length ks) ps)) ss → n < block_size (left_legs (ks ++ ls) (couples_of (length ks) ps)) ss →
      flat (by_sector sectors par) (x ∷ y ∷ []) bonds (left_ends (ks ++ ls) (couples_of (length ks) ps)) (at_values (left_ends (ks ++ ls) (couples_of (length ks) ps)) (values_at (left_legs (ks ++ ls) (couples_of (length ks) ps)) ss n))
      ≡ sum_over bs (λ b. sum_over ds (pair_term ks ls ps word_odd ss n b))
  flat_pairs x y ax ay bonds perm d e hb hd ss n h lt =
      ap (λ (z : Node). z.entry (values_at (left_legs word cs) ss n)) (contract_alike (by_sector sectors par) (x ∷ y ∷ []) nodes bonds (ax, (ay, tt)) (left_ends word cs))
      ∙ order_law (by_sector sectors par) nodes bonds (bonds_at 1 word cs) (left_ends word cs)
      (order_network nodes (bonds_at 1 word cs) bonds (left_ends word cs) pair_network (perm-sym perm)) perm
      (at_values (left_ends word cs) (values_at (left_legs word cs) ss n))
      ∙ ap (contract (by_sector sectors par) nodes (bonds_at 1 word cs) (left_ends word cs)).entry
      (place_same (left_legs word cs) ss n ∙ ap (λ gs. values_in gs ss (inner_of (left_legs word cs) ss n)) (sym (left_is sectors word cs fit)))
      ∙ pairs_law par sectors first_blocked second_blocked (bonds_at 1 word cs) (left_ends word cs) ss (inner_of (left_legs word cs) ss n) pair_network (bonds_fit 1 word cs cs sectors fit (numbered word cs good))
      (record { distinct = d; tuples = subst (λ gs. HaveTuples gs bs) (sym legs_first) hb })
      (record { distinct = e; tuples = subst (λ gs. HaveTuples gs ds) (sym legs_second) hd })
      (subst (λ gs. IsTuple gs ss) (sym (left_is sectors word cs fit)) h)
      (subst (λ gs. IsInner gs ss (inner_of (left_legs word cs) ss n)) (sym (left_is sectors word cs fit)) (inner_in (left_legs word cs) ss n h lt))
      ∙ over_tuples ks bs _ _ hb (λ b tb. over_tuples ls ds _ (pair_term ks ls ps word_odd ss n b) hd (λ c tc. term_is ss n h lt b tb c tc))
