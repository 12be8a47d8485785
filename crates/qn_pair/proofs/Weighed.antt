-- Sums over the shared legs of two blocks, by strides.
use Rattle.std.proofs.Common.{◌≡◌, ◌≤◌, ◌<◌, ℕ, zero, suc, ◌+◌, ◌*◌, ◌==◌, ℤ, pos, negsuc, Bool, true, false, ◌&&◌, cond, List, [], ◌∷◌, ◌++◌, refl, sym, ◌∙◌, ap, ap₂, map, length, replicate, get_or, zero-add, eqb-true, arith}
use mathlib.Core.Path.{fun_ext}
use Rattle.std.specs.List.{All, range_with_len}
use Rattle.std.proofs.lemmas.List.{length-append, get_or-append-add, length-replicate, get_or-replicate}
use Rattle.std.proofs.Math.ListN.{get_or-append}
use Rattle.qn_sign.specs.Sign.{is_in}
use Rattle.qn_sign.specs.Positions.{positions}
use Rattle.qn_gauss.specs.Gaussian.{Gaussian}
use Rattle.qn_index.specs.Legs.{LegValue, SectorValue, sector_at}
use Rattle.qn_index.specs.Tuples.{IsTuple}
use Rattle.qn_index.specs.Places.{offset_of, inner_of}
use Rattle.qn_index.proofs.Nets.{tuple_length}
use Rattle.qn_value.specs.Networks.{End, Assignment, assign, values, sums, sum_below}
use Rattle.qn_value.specs.Labels.{is_inward}
use Rattle.qn_value.specs.Blocks.{bonds_in}
use Rattle.qn_value.specs.Local.{no_leg, label_at, IsCouple, IsCoupling}
use Rattle.qn_value.proofs.Sums.{label_test, IsSteady, Meets, sums-meet}
use Rattle.qn_value.proofs.CoupleLemmas.{open_before}
use Rattle.qn_value.proofs.CoupledLemmas.{leg_at}
use Rattle.qn_match.specs.Pairs.{agree}
use Rattle.qn_strides.specs.Strides.{in_place, goal_couples, open_places, strides, kept_axes, start_of}
use Rattle.qn_strides.proofs.Goal.{perm_goal, bonds_at, end_at, numbered, open_label, is_open, in_sectors}
use Rattle.qn_strides.proofs.Along.{weigh, weigh-perm, weigh-append, map-map, offset_weigh, coupled_sum, couple_weigh, bonds, AreDims, earlier, steady-add, open_steady, start_weigh}
use Rattle.qn_strides.proofs.Striding.{strides_long}
use Rattle.qn_kernel.specs.Sources.{PairedValue, paired_axes, sum_both, couples_of}
use Rattle.qn_kernel.proofs.Places.{range_append}

-- past the end there is no stride
get_past : (ws : List ℕ) (i : ℕ) → length ws ≤ i → get_or ws i 0 ≡ 0
get_past [] i h = refl
get_past (w ∷ ws) zero h = absurd (omega arith)
get_past (w ∷ ws) (suc i) h = get_past ws i (omega arith)

weigh_none : (f w : ℕ → ℕ) (a n : ℕ) → ((k : ℕ) → k < n → w (a + k) ≡ 0) → weigh (λ i. f i * w i) (range_with_len a n) ≡ 0
weigh_none f w a zero h = refl
weigh_none f w a (suc n) h =
    both (ap (λ k. f a * k) (ap w here ∙ h 0 (omega arith)) ∙ nothing (f a)) (weigh_none f w (a + 1) n (λ k l. ap w (next k) ∙ h (suc k) (omega arith)))
  where
    here : a ≡ a + 0
    here = omega arith

    next : (k : ℕ) → a + 1 + k ≡ a + suc k
    next k = omega arith

    nothing : (m : ℕ) → m * 0 ≡ 0
    nothing m = omega arith

    both : {x y : ℕ} → x ≡ 0 → y ≡ 0 → x + y ≡ 0
    both p q = omega (arith, p, q)

-- the shared pairs by the strides at their two places
abbrev pub both_axes : List LegValue → List ℕ → List ℕ → List ℕ → List (ℕ × ℕ) → List PairedValue
both_axes ls t ws us [] = []
both_axes ls t ws us (c ∷ cs) =
    record {
      len = (sector_at (leg_at ls (in_place ls c)).sectors (get_or t (in_place ls c) 0)).dim;
      first = get_or ws c.0 0 + get_or ws c.1 0;
      second = get_or us c.0 0 + get_or us c.1 0;
    } ∷ both_axes ls t ws us cs

module _ (sectors : ℤ → List SectorValue) (k : Assignment) (ls : List LegValue) (t : List ℕ) (ws us : List ℕ) where
  abbrev w : ℕ → ℕ
  w i = get_or ws i 0

  abbrev u : ℕ → ℕ
  u i = get_or us i 0

  -- a sum over the values of the couples goes through both blocks by strides
  sums_both : (n : ℕ) (cs : List (ℕ × ℕ)) (g : ℕ → ℕ → Gaussian) (r q : Assignment → ℕ) → AreDims sectors k ls t n cs → IsSteady r (bonds sectors k ls t n cs) → IsSteady q (bonds sectors k ls t n cs) → (a : Assignment) →
      sums (bonds sectors k ls t n cs) (λ o. g (coupled_sum n w cs o + r o) (coupled_sum n u cs o + q o)) a ≡ sum_both g (both_axes ls t ws us cs) (r a) (q a)
  sums_both n [] g r q d s m a = ap₂ g (zero-add (r a)) (zero-add (q a))
  sums_both n (c ∷ cs) g r q d s m a =
      ap (λ z. sum_below z (λ v. sums (bonds sectors k ls t (suc n) cs) (λ o. g ((o x * i + coupled_sum (suc n) w cs o) + r o) ((o x * j + coupled_sum (suc n) u cs o) + q o)) (assign a (pos n) v))) d.0
      ∙ ap (sum_below (sector_at (leg_at ls (in_place ls c)).sectors (get_or t (in_place ls c) 0)).dim) (fun_ext (λ v.
      ap (λ (f : Assignment → Gaussian). sums (bonds sectors k ls t (suc n) cs) f (assign a (pos n) v)) (fun_ext (λ o. ap₂ g (regroup (o x * i) (coupled_sum (suc n) w cs o) (r o)) (regroup (o x * j) (coupled_sum (suc n) u cs o) (q o))))
      ∙ sums_both (suc n) cs g (λ o. r o + o x * i) (λ o. q o + o x * j) d.1
      (steady-add sectors k ls t r (λ o. o x) i (bonds sectors k ls t (suc n) cs) s.1 (earlier sectors k ls t n (suc n) cs (omega arith)))
      (steady-add sectors k ls t q (λ o. o x) j (bonds sectors k ls t (suc n) cs) m.1 (earlier sectors k ls t n (suc n) cs (omega arith)))
      (assign a (pos n) v)
      ∙ ap₂ (sum_both g (both_axes ls t ws us cs)) (ap₂ (λ y z. y + z * i) (s.0 a v) (at v)) (ap₂ (λ y z. y + z * j) (m.0 a v) (at v))))
    where
      x : End
      x = record { label = pos n; inward = true }

      i : ℕ
      i = get_or ws c.0 0 + get_or ws c.1 0

      j : ℕ
      j = get_or us c.0 0 + get_or us c.1 0

      at : (v : ℕ) → assign a (pos n) v (record { label = pos n; inward = true }) ≡ v
      at v = ap (λ b. cond b v (a (record { label = pos n; inward = true }))) (label_test.itself (pos n))

      regroup : (y p z : ℕ) → (y + p) + z ≡ p + (z + y)
      regroup y p z = omega arith

-- the ends of the first tensor, and of the second
abbrev pub first_ends : List LegValue → List LegValue → List (ℕ × ℕ) → List End
first_ends ks ls ps = map (end_at (ks ++ ls) (couples_of (length ks) ps)) (positions (length ks))

abbrev pub second_ends : List LegValue → List LegValue → List (ℕ × ℕ) → List End
second_ends ks ls ps = map (end_at (ks ++ ls) (couples_of (length ks) ps)) (range_with_len (length ks) (length ls))

abbrev pub shifted : List LegValue → List LegValue → List ℕ → List ℕ
shifted ks ls u = replicate (length ks) 0 ++ strides ls u

shifted_first : (ks ls : List LegValue) (u : List ℕ) (i : ℕ) → i < length ks → get_or (shifted ks ls u) i 0 ≡ 0
shifted_first ks ls us i l = get_or-append (replicate (length ks) 0) (strides ls us) 0 i (omega (arith, l, length-replicate {A = ℕ} (length ks) 0)) ∙ get_or-replicate {A = ℕ} (length ks) i 0 0 l

shifted_second : (ks ls : List LegValue) (u : List ℕ) (j : ℕ) → get_or (shifted ks ls u) (length ks + j) 0 ≡ get_or (strides ls u) j 0
shifted_second ks ls u j =
    ap (λ m. get_or (shifted ks ls u) (m + j) 0) (sym (length-replicate {A = ℕ} (length ks) 0)) ∙ get_or-append-add (replicate (length ks) 0) (strides ls u) j 0

strides_past : (ks : List LegValue) (t : List ℕ) (j : ℕ) → IsTuple ks t → get_or (strides ks t) (length ks + j) 0 ≡ 0
strides_past ks t j h = get_past (strides ks t) (length ks + j) (omega (arith, strides_long ks t h))

module _ (sectors : ℤ → List SectorValue) (k : Assignment) (ks ls : List LegValue) (t u : List ℕ) (ps : List (ℕ × ℕ)) (good : IsCoupling (ks ++ ls) (couples_of (length ks) ps)) (ht : IsTuple ks t) (hu : IsTuple ls u) where
  abbrev word : List LegValue
  word = ks ++ ls

  abbrev cs : List (ℕ × ℕ)
  cs = couples_of (length ks) ps

  -- the offset in the first block is a sum over all places
  first_offset : (f : ℕ → ℕ) → offset_of ks t (map f (positions (length ks))) ≡ weigh (λ i. f i * get_or (strides ks t) i 0) (positions (length (ks ++ ls)))
  first_offset f =
      offset_weigh ks t f (λ i. get_or (strides ks t) i 0) 0 (tuple_length ks t ht) (λ i l. ap (λ m. get_or (strides ks t) m 0) (zero-add i))
      ∙ none (weigh (λ i. f i * get_or (strides ks t) i 0) (positions (length ks))) (weigh (λ i. f i * get_or (strides ks t) i 0) (range_with_len (length ks) (length ls)))
      (weigh_none f (λ i. get_or (strides ks t) i 0) (length ks) (length ls) (λ j l. strides_past ks t j ht))
      ∙ sym (weigh-append (λ i. f i * get_or (strides ks t) i 0) (positions (length ks)) (range_with_len (length ks) (length ls)))
      ∙ ap (weigh (λ i. f i * get_or (strides ks t) i 0)) (sym whole)
    where
      none : (x y : ℕ) → y ≡ 0 → x ≡ x + y
      none x y e = omega (arith, e)

      whole : positions (length (ks ++ ls)) ≡ positions (length ks) ++ range_with_len (length ks) (length ls)
      whole = ap positions (length-append ks ls) ∙ range_append 0 (length ks) (length ls) ∙ ap (λ m. positions (length ks) ++ range_with_len m (length ls)) (zero-add (length ks))

  second_offset : (f : ℕ → ℕ) → offset_of ls u (map f (range_with_len (length ks) (length ls))) ≡ weigh (λ i. f i * get_or (shifted ks ls u) i 0) (positions (length (ks ++ ls)))
  second_offset f =
      offset_weigh ls u f (λ i. get_or (shifted ks ls u) i 0) (length ks) (tuple_length ls u hu) (λ j l. shifted_second ks ls u j)
      ∙ none (weigh (λ i. f i * get_or (shifted ks ls u) i 0) (range_with_len (length ks) (length ls))) (weigh (λ i. f i * get_or (shifted ks ls u) i 0) (positions (length ks)))
      (weigh_none f (λ i. get_or (shifted ks ls u) i 0) 0 (length ks) (λ j l. ap (λ m. get_or (shifted ks ls u) m 0) (zero-add j) ∙ shifted_first ks ls u j l))
      ∙ sym (weigh-append (λ i. f i * get_or (shifted ks ls u) i 0) (positions (length ks)) (range_with_len (length ks) (length ls)))
      ∙ ap (weigh (λ i. f i * get_or (shifted ks ls u) i 0)) (sym whole)
    where
      none : (x y : ℕ) → y ≡ 0 → x ≡ y + x
      none x y e = omega (arith, e)

      whole : positions (length (ks ++ ls)) ≡ positions (length ks) ++ range_with_len (length ks) (length ls)
      whole = ap positions (length-append ks ls) ∙ range_append 0 (length ks) (length ls) ∙ ap (λ m. positions (length ks) ++ range_with_len m (length ls)) (zero-add (length ks))

  -- the sum over the values of the shared legs, at the n-th entry of the result's block
  pub both_along : (g : ℕ → ℕ → Gaussian) (rs : List LegValue) (ss : List ℕ) (n : ℕ) (a : Assignment) → AreDims sectors k (ks ++ ls) (t ++ u) 1 (couples_of (length ks) ps) →
      map a (map (end_at (ks ++ ls) (couples_of (length ks) ps)) (open_places (couples_of (length ks) ps) (length (ks ++ ls)))) ≡ inner_of rs ss n →
      sums (bonds_in sectors k (bonds_at 1 (ks ++ ls) (couples_of (length ks) ps))) (λ o. g (offset_of ks t (values (first_ends ks ls ps) o)) (offset_of ls u (values (second_ends ks ls ps) o))) a
      ≡ sum_both g (both_axes (ks ++ ls) (t ++ u) (strides ks t) (shifted ks ls u) (couples_of (length ks) ps))
      (start_of (kept_axes (strides ks t) rs ss (open_places (couples_of (length ks) ps) (length (ks ++ ls)))) n)
      (start_of (kept_axes (shifted ks ls u) rs ss (open_places (couples_of (length ks) ps) (length (ks ++ ls)))) n)
  both_along g rs ss n a dims at =
      sums-meet (bonds_in sectors k (bonds_at 1 word cs)) _ (λ o. g (coupled_sum 1 (λ i. get_or (strides ks t) i 0) cs o + rest (strides ks t) o) (coupled_sum 1 (λ i. get_or (shifted ks ls u) i 0) cs o + rest (shifted ks ls u) o))
      (λ o m. ap₂ g
      (ap (offset_of ks t) (map-map (end_at word cs) o (positions (length ks))) ∙ first_offset (λ i. o (end_at word cs i)) ∙ split (strides ks t) o m)
      (ap (offset_of ls u) (map-map (end_at word cs) o (range_with_len (length ks) (length ls))) ∙ second_offset (λ i. o (end_at word cs i)) ∙ split (shifted ks ls u) o m)) a
      ∙ sums_both sectors k word (t ++ u) (strides ks t) (shifted ks ls u) 1 cs g (rest (strides ks t)) (rest (shifted ks ls u)) dims (steady (strides ks t)) (steady (shifted ks ls u)) a
      ∙ ap₂ (sum_both g (both_axes word (t ++ u) (strides ks t) (shifted ks ls u) cs))
      (start_weigh (strides ks t) (λ i. a (end_at word cs i)) rs ss (open_places cs (length word)) n (sym (map-map (end_at word cs) a (open_places cs (length word))) ∙ at))
      (start_weigh (shifted ks ls u) (λ i. a (end_at word cs i)) rs ss (open_places cs (length word)) n (sym (map-map (end_at word cs) a (open_places cs (length word))) ∙ at))
    where
      rest : List ℕ → Assignment → ℕ
      rest ws o = weigh (λ i. o (end_at (ks ++ ls) (couples_of (length ks) ps) i) * get_or ws i 0) (open_places (couples_of (length ks) ps) (length (ks ++ ls)))

      split : (ws : List ℕ) (o : Assignment) → Meets (bonds_in sectors k (bonds_at 1 (ks ++ ls) (couples_of (length ks) ps))) o →
          weigh (λ i. o (end_at (ks ++ ls) (couples_of (length ks) ps) i) * get_or ws i 0) (positions (length (ks ++ ls)))
          ≡ coupled_sum 1 (λ i. get_or ws i 0) (couples_of (length ks) ps) o + rest ws o
      split ws o m =
          weigh-perm (λ i. o (end_at word cs i) * get_or ws i 0) (perm_goal word cs good)
          ∙ weigh-append (λ i. o (end_at word cs i) * get_or ws i 0) (goal_couples word cs) (open_places cs (length word))
          ∙ ap (λ x. x + rest ws o) (couple_weigh sectors k word (t ++ u) 1 cs (label_at cs) (λ i. get_or ws i 0) o (numbered word cs good) m)

      apart : (m j : ℕ) → negsuc j ≡ pos m → ⊥
      apart m j e = absurd (cc e)

      open_only : (i : ℕ) → is_in ◌==◌ i (open_places (couples_of (length ks) ps) (length (ks ++ ls))) ≡ true → (m : ℕ) → label_at (couples_of (length ks) ps) i ≡ pos m → ⊥
      open_only i h m e = apart m (open_before cs i) (sym (open_label cs i (is_open cs (positions (length word)) i h)) ∙ e)

      steady : (ws : List ℕ) → IsSteady (rest ws) (bonds_in sectors k (bonds_at 1 (ks ++ ls) (couples_of (length ks) ps)))
      steady ws = open_steady sectors k word (t ++ u) (label_at cs) (λ i. get_or ws i 0) (open_places cs (length word)) open_only 1 cs

-- where two tuples agree, the shared pairs are those of the first tensor
pub axes_agree : (ks ls : List LegValue) (t u : List ℕ) (ps : List (ℕ × ℕ)) → IsTuple ks t → IsTuple ls u → All (IsCouple (ks ++ ls)) (couples_of (length ks) ps) → All (λ p. p.0 < length ks) ps → agree ps t u ≡ true →
    both_axes (ks ++ ls) (t ++ u) (strides ks t) (shifted ks ls u) (couples_of (length ks) ps) ≡ paired_axes ks t (strides ks t) (strides ls u) ps
axes_agree ks ls t u [] ht hu good below h = refl
axes_agree ks ls t u (p ∷ ps) ht hu good below h = λ i. record {
  len = (sector_at (legs i) (tuple i)).dim;
  first = one i;
  second = two i;
} ∷ axes_agree ks ls t u ps ht hu (λ j d l. good (suc j) d (omega arith)) (λ j d l. below (suc j) d (omega arith)) (second (get_or t p.0 0 == get_or u p.1 0) (agree ps t u) h) i
  where
    first : (a b : Bool) → (a && b) ≡ true → a ≡ true
    first a b e = grind arith

    second : (a b : Bool) → (a && b) ≡ true → b ≡ true
    second a b e = grind arith

    c : ℕ × ℕ
    c = (p.0, length ks + p.1)

    here : p.0 < length ks
    here = below 0 p (omega arith)

    here_t : p.0 < length t
    here_t = omega (arith, below 0 p (omega arith), tuple_length ks t ht)

    legs : (leg_at (ks ++ ls) (in_place (ks ++ ls) (p.0, length ks + p.1))).sectors ≡ (leg_at ks p.0).sectors
    legs = in_sectors (ks ++ ls) (p.0, length ks + p.1) (good 0 (p.0, length ks + p.1) (omega arith)) ∙ ap (λ (l : LegValue). l.sectors) (get_or-append ks ls no_leg p.0 (below 0 p (omega arith)))

    at_first : get_or (t ++ u) p.0 0 ≡ get_or t p.0 0
    at_first = get_or-append t u 0 p.0 (omega (arith, below 0 p (omega arith), tuple_length ks t ht))

    at_second : get_or (t ++ u) (length ks + p.1) 0 ≡ get_or t p.0 0
    at_second =
        ap (λ m. get_or (t ++ u) (m + p.1) 0) (sym (tuple_length ks t ht)) ∙ get_or-append-add t u p.1 0
        ∙ sym (eqb-true (get_or t p.0 0) (get_or u p.1 0) (first (get_or t p.0 0 == get_or u p.1 0) (agree ps t u) h))

    by : (b : Bool) → get_or (t ++ u) (cond b p.0 (length ks + p.1)) 0 ≡ get_or t p.0 0
    by true = at_first
    by false = at_second

    tuple : get_or (t ++ u) (in_place (ks ++ ls) (p.0, length ks + p.1)) 0 ≡ get_or t p.0 0
    tuple = by (is_inward (leg_at (ks ++ ls) p.0).arrow)

    one : get_or (strides ks t) p.0 0 + get_or (strides ks t) (length ks + p.1) 0 ≡ get_or (strides ks t) p.0 0
    one = omega (arith, strides_past ks t p.1 ht)

    two : get_or (shifted ks ls u) p.0 0 + get_or (shifted ks ls u) (length ks + p.1) 0 ≡ get_or (strides ls u) p.1 0
    two = omega (arith, shifted_first ks ls u p.0 (below 0 p (omega arith)), shifted_second ks ls u p.1)
