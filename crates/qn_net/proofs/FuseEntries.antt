-- Entries of steps that fuse or split: one summand counts.
use Rattle.std.proofs.Common.{◌≡◌, ◌≢◌, ◌<◌, ℕ, ◌==◌, ℤ, Bool, true, false, ◌&&◌, not, cond, filter, List, [], ◌∷◌, refl, sym, ◌∙◌, ap, ap₂, subst, map, length, ◌⊎◌, inl, inr, int_eq, eqb-true, eq-eqb}
use mathlib.Core.Path.{fun_ext}
use Rattle.std.proofs.lemmas.Bool.{or_cases, or_left, or_right, and_parts, false≢true}
use Rattle.qn_sign.specs.Sign.{is_in, is_odd, xor, exchange_sign, IsDistinct}
use Rattle.qn_sign.specs.Positions.{positions, is_odd_at}
use Rattle.qn_sign.proofs.Order.{is_in-append, is_in-perm}
use Rattle.qn_sign.proofs.Positions.{positions_stand_for_things}
use Rattle.qn_gauss.specs.Gaussian.{Gaussian, zero_g, signed}
use Rattle.qn_index.specs.Legs.{SectorValue}
use Rattle.qn_value.specs.Networks.{End, Node, Bond, Assignment, Parities, assign, in_end, out_end, same_end, odd_end, word, pairs_of, goal, labels, kept, sign, twist_sign, values, product, sum_below, sums, at_values, IsNetwork}
use Rattle.qn_value.specs.Blocks.{legs_on}
use Rattle.qn_value.specs.Local.{parities as leg_parities}
use Rattle.qn_value.specs.Rows.{when, meet_on}
use Rattle.qn_value.specs.Magnitudes.{IsAt}
use Rattle.qn_value.proofs.NetLaws.{end_test, ends-labels, product-agree, sign-agree, signed-zero, at_values-values}
use Rattle.qn_value.proofs.Sums.{label_test, Meets, assign_both, sum_below-zero}
use Rattle.qn_value.proofs.RowsLemmas.{sum_below-one, values_back}
use Rattle.qn_net.specs.Tables.{no_end}
use Rattle.qn_net.specs.Operations.{parities_on, AreLines}
use Rattle.qn_net.specs.FuseSteps.{PlacesSignLaw}
use Rattle.qn_net.proofs.SingleSums.{inward_end, at_line}
use Rattle.qn_net.proofs.LastTensor.{parities_by_ends}

-- a sum of zeros
sums_none : (P : Assignment → Type 0) (bs : List Bond) (f : Assignment → Gaussian) → ((c : Assignment) → P c → Meets bs c → f c ≡ zero_g) →
    ((b : Bond) → is_in int_eq b.label (labels bs) ≡ true → (c : Assignment) (v : ℕ) → P c → P (assign c b.label v)) → (a : Assignment) → P a → sums bs f a ≡ zero_g
sums_none P [] f h stable a p = h a p tt
sums_none P (b ∷ bs) f h stable a p =
    ap (sum_below b.dim) (fun_ext (λ v.
    sums_none (λ c. P c × (c (in_end b) ≡ c (out_end b))) bs f (λ c q m. h c q.0 (q.1, m))
    (λ g i c u q. (stable g (or_right (int_eq g.label b.label) (is_in int_eq g.label (labels bs)) i) c u q.0, ap (cond (int_eq b.label g.label) u) q.1))
    (assign a b.label v) (stable b (or_left (int_eq b.label b.label) (is_in int_eq b.label (labels bs)) (label_test.itself b.label)) a v p, assign_both b a v)))
    ∙ sum_below-zero b.dim

-- the values at the bonds are in range
abbrev pub InRange : Assignment → List Bond → Type 0
InRange k [] = Unit {0}
InRange k (b ∷ bs) = (k (in_end b) < b.dim) × InRange k bs

-- a sum of which one summand counts is this summand
single_sum : (P : Assignment → Type 0) (bs : List Bond) (f : Assignment → Gaussian) (k : Assignment) (x : Gaussian) → IsDistinct int_eq (labels bs) → InRange k bs →
    ((c : Assignment) → P c → Meets bs c → IsAt k bs c → f c ≡ x) → ((c : Assignment) → P c → Meets bs c → (IsAt k bs c → ⊥) → f c ≡ zero_g) →
    ((b : Bond) → is_in int_eq b.label (labels bs) ≡ true → (c : Assignment) (v : ℕ) → P c → P (assign c b.label v)) → (a : Assignment) → P a → sums bs f a ≡ x
single_sum P [] f k x d r h z stable a p = h a p tt tt
single_sum P (b ∷ bs) f k x d r h z stable a p =
    ap (sum_below b.dim) (fun_ext (λ v. at v (v == k (in_end b)) refl (single_sum (λ c. P c × (c (in_end b) ≡ c (out_end b)) × (c (in_end b) ≡ v)) bs f k x d.1 r.1)))
    ∙ sum_below-one b.dim (k (in_end b)) x r.0
  where
    first : (v : ℕ) → P (assign a b.label v)
    first v = stable b (or_left (int_eq b.label b.label) (is_in int_eq b.label (labels bs)) (label_test.itself b.label)) a v p

    later : (g : Bond) → is_in int_eq g.label (labels bs) ≡ true → (c : Assignment) (u : ℕ) → P c → P (assign c g.label u)
    later g i c u q = stable g (or_right (int_eq g.label b.label) (is_in int_eq g.label (labels bs)) i) c u q

    stays : (g : Bond) → is_in int_eq g.label (labels bs) ≡ true → (t : Bool) → int_eq b.label g.label ≡ t → (c : Assignment) (u : ℕ) → cond t u (c (in_end b)) ≡ c (in_end b)
    stays g i false e c u = refl
    stays g i true e c u = absurd (false≢true (sym d.0 ∙ subst (λ l. is_in int_eq l (labels bs) ≡ true) (sym (label_test.equal b.label g.label e)) i))

    start : (v : ℕ) → P (assign a b.label v) × (assign a b.label v (in_end b) ≡ assign a b.label v (out_end b)) × (assign a b.label v (in_end b) ≡ v)
    start v = (first v, assign_both b a v, ap (λ t. cond t v (a (in_end b))) (label_test.itself b.label))

    next : (v : ℕ) (g : Bond) → is_in int_eq g.label (labels bs) ≡ true → (c : Assignment) (u : ℕ) → P c × (c (in_end b) ≡ c (out_end b)) × (c (in_end b) ≡ v) →
        P (assign c g.label u) × (assign c g.label u (in_end b) ≡ assign c g.label u (out_end b)) × (assign c g.label u (in_end b) ≡ v)
    next v g i c u q = (later g i c u q.0, ap (cond (int_eq b.label g.label) u) q.1, stays g i (int_eq b.label g.label) refl c u ∙ q.2)

    at : (v : ℕ) (t : Bool) → (v == k (in_end b)) ≡ t →
        (((c : Assignment) → P c × (c (in_end b) ≡ c (out_end b)) × (c (in_end b) ≡ v) → Meets bs c → IsAt k bs c → f c ≡ x) →
        ((c : Assignment) → P c × (c (in_end b) ≡ c (out_end b)) × (c (in_end b) ≡ v) → Meets bs c → (IsAt k bs c → ⊥) → f c ≡ zero_g) →
        ((g : Bond) → is_in int_eq g.label (labels bs) ≡ true → (c : Assignment) (u : ℕ) → P c × (c (in_end b) ≡ c (out_end b)) × (c (in_end b) ≡ v) →
        P (assign c g.label u) × (assign c g.label u (in_end b) ≡ assign c g.label u (out_end b)) × (assign c g.label u (in_end b) ≡ v)) →
        (y : Assignment) → P y × (y (in_end b) ≡ y (out_end b)) × (y (in_end b) ≡ v) → sums bs f y ≡ x) →
        sums bs f (assign a b.label v) ≡ when t x
    at v true e ih =
        ih (λ c q m g. h c q.0 (q.1, m) (q.2 ∙ eqb-true v (k (in_end b)) e, g)) (λ c q m n. z c q.0 (q.1, m) (λ g. n g.1)) (next v) (assign a b.label v) (start v)
    at v false e ih =
        sums_none (λ c. P c × (c (in_end b) ≡ c (out_end b)) × (c (in_end b) ≡ v)) bs f
        (λ c q m. z c q.0 (q.1, m) (λ g. false≢true (sym e ∙ eq-eqb v (k (in_end b)) (sym q.2 ∙ g.0)))) (next v) (assign a b.label v) (start v)

-- a tensor whose entries count only where some ends, on all bonds, have values that the other ends determine
pub record IsSingle (x : Node) (bonds : List Bond) : Type 0 where
  pub es : List End
  pub covers : (l : ℤ) → is_in int_eq l (labels bonds) ≡ true → is_in int_eq l (map (λ (e : End). e.label) es) ≡ true
  pub pick : Assignment → List ℕ
  pub same : (a c : Assignment) → ((e : End) → is_in same_end e x.ends ≡ true → is_in int_eq e.label (labels bonds) ≡ false → a e ≡ c e) → pick a ≡ pick c
  pub counts : (c : Assignment) → (x.entry (values x.ends c) ≡ zero_g) ⊎ (values es c ≡ pick c)

pub meets_from : (bs : List Bond) (k : Assignment) → meet_on bs k ≡ true → Meets bs k
meets_from [] k h = tt
meets_from (b ∷ bs) k h = let p = and_parts (k (in_end b) == k (out_end b)) (meet_on bs k) h in (eqb-true (k (in_end b)) (k (out_end b)) p.0, meets_from bs k p.1)

-- both ends of a bond
ends_agree : (bs : List Bond) (k c : Assignment) → Meets bs k → Meets bs c → IsAt k bs c → (e : End) → is_in same_end e (pairs_of bs) ≡ true → c e ≡ k e
ends_agree [] k c mk mc at e i = absurd (false≢true i)
ends_agree (b ∷ bs) k c mk mc at e i = go (or_cases (same_end e (in_end b)) (is_in same_end e (out_end b ∷ pairs_of bs)) i) (ends_agree bs k c mk.1 mc.1 at.1 e)
  where
    go : (same_end e (in_end b) ≡ true) ⊎ (is_in same_end e (out_end b ∷ pairs_of bs) ≡ true) → (is_in same_end e (pairs_of bs) ≡ true → c e ≡ k e) → c e ≡ k e
    go (inl q) ih = subst (λ x. c x ≡ k x) (sym (end_test.equal e (in_end b) q)) at.0
    go (inr j) ih = second (or_cases (same_end e (out_end b)) (is_in same_end e (pairs_of bs)) j)
      where
        second : (same_end e (out_end b) ≡ true) ⊎ (is_in same_end e (pairs_of bs) ≡ true) → c e ≡ k e
        second (inl q) = subst (λ x. c x ≡ k x) (sym (end_test.equal e (out_end b) q)) (sym mc.0 ∙ at.0 ∙ mk.0)
        second (inr q) = ih q

at_from : (x : Node) (all bonds : List Bond) (s : IsSingle x all) → ((l : ℤ) → is_in int_eq l (labels bonds) ≡ true → is_in int_eq l (map (λ (e : End). e.label) s.es) ≡ true) →
    (k c : Assignment) → Meets bonds k → Meets bonds c → values s.es c ≡ values s.es k → IsAt k bonds c
at_from x all [] s covers k c mk mc e = tt
at_from x all (b ∷ bs) s covers k c mk mc e =
    let here : is_in int_eq b.label (map (λ (e : End). e.label) s.es) ≡ true = covers b.label (or_left (int_eq b.label b.label) (is_in int_eq b.label (labels bs)) (label_test.itself b.label)) in (
      sym (at_line c s.es b.label mc.0 here) ∙ ap (λ vs. at_values (map inward_end s.es) vs (in_end b)) e ∙ at_line k s.es b.label mk.0 here,
      at_from x all bs s (λ l i. covers l (or_right (int_eq l b.label) (is_in int_eq l (labels bs)) i)) k c mk.1 mc.1 e,
    )

-- a contraction of which one summand counts is this summand
module _ (par : Parities) (ns : List Node) (bonds : List Bond) (net : IsNetwork ns bonds (kept ns bonds)) (db : IsDistinct int_eq (labels bonds)) (x : Node) (s : IsSingle x bonds)
    (within : (e : End) → is_in same_end e x.ends ≡ true → is_in same_end e (word ns) ≡ true) (factor : (c : Assignment) → x.entry (values x.ends c) ≡ zero_g → product ns c ≡ zero_g)
    (k : Assignment) (meets : Meets bonds k) (range : InRange k bonds) (some : x.entry (values x.ends k) ≢ zero_g) where
  kept_open : (es : List End) (e : End) → is_in same_end e (filter (λ (f : End). not (is_in int_eq f.label (labels bonds))) es) ≡ true → is_in int_eq e.label (labels bonds) ≡ false
  kept_open [] e i = absurd (false≢true i)
  kept_open (f ∷ es) e i = go (is_in int_eq f.label (labels bonds)) refl i (kept_open es e)
    where
      go : (b : Bool) → is_in int_eq f.label (labels bonds) ≡ b → is_in same_end e (cond (not b) (f ∷ filter (λ (f : End). not (is_in int_eq f.label (labels bonds))) es) (filter (λ (f : End). not (is_in int_eq f.label (labels bonds))) es)) ≡ true →
          (is_in same_end e (filter (λ (f : End). not (is_in int_eq f.label (labels bonds))) es) ≡ true → is_in int_eq e.label (labels bonds) ≡ false) → is_in int_eq e.label (labels bonds) ≡ false
      go true q j ih = ih j
      go false q j ih = at (or_cases (same_end e f) (is_in same_end e (filter (λ (f : End). not (is_in int_eq f.label (labels bonds))) es)) j)
        where
          at : (same_end e f ≡ true) ⊎ (is_in same_end e (filter (λ (f : End). not (is_in int_eq f.label (labels bonds))) es) ≡ true) → is_in int_eq e.label (labels bonds) ≡ false
          at (inl t) = subst (λ (g : End). is_in int_eq g.label (labels bonds) ≡ false) (sym (end_test.equal e f t)) q
          at (inr t) = ih t

  -- off the bonds an end of the word is kept
  open_kept : (e : End) → is_in same_end e (word ns) ≡ true → is_in int_eq e.label (labels bonds) ≡ false → is_in same_end e (kept ns bonds) ≡ true
  open_kept e i o =
      go (or_cases (is_in same_end e (pairs_of bonds)) (is_in same_end e (kept ns bonds)) (sym (is_in-append same_end e (pairs_of bonds) (kept ns bonds)) ∙ sym (is_in-perm same_end e net.complete) ∙ i))
    where
      go : (is_in same_end e (pairs_of bonds) ≡ true) ⊎ (is_in same_end e (kept ns bonds) ≡ true) → is_in same_end e (kept ns bonds) ≡ true
      go (inl p) = absurd (false≢true (sym o ∙ sym (ends-labels e bonds) ∙ p))
      go (inr p) = p

  abbrev Stands : Assignment → Type 0
  Stands c = (e : End) → is_in same_end e (kept ns bonds) ≡ true → c e ≡ k e

  stands_stable : (b : Bond) → is_in int_eq b.label (labels bonds) ≡ true → (c : Assignment) (v : ℕ) → Stands c → Stands (assign c b.label v)
  stands_stable b i c v h e j = apart (int_eq e.label b.label) refl ∙ h e j
    where
      apart : (t : Bool) → int_eq e.label b.label ≡ t → cond t v (c e) ≡ c e
      apart false q = refl
      apart true q = absurd (false≢true (sym (kept_open (word ns) e j) ∙ subst (λ l. is_in int_eq l (labels bonds) ≡ true) (sym (label_test.equal e.label b.label q)) i))

  -- the table's values at c, where they count, are those at k
  counted : (c : Assignment) → Stands c → Meets bonds c → (x.entry (values x.ends c) ≡ zero_g) ⊎ IsAt k bonds c
  counted c h m = go (s.counts c) (s.counts k)
    where
      go : (x.entry (values x.ends c) ≡ zero_g) ⊎ (values s.es c ≡ s.pick c) → (x.entry (values x.ends k) ≡ zero_g) ⊎ (values s.es k ≡ s.pick k) → (x.entry (values x.ends c) ≡ zero_g) ⊎ IsAt k bonds c
      go (inl e) q = inl e
      go (inr e) (inl f) = absurd (some f)
      go (inr e) (inr f) =
          inr (at_from x bonds bonds s s.covers k c meets m (e ∙ s.same c k (λ y i o. h y (open_kept y (within y i) o)) ∙ sym f))

  abbrev summand : Assignment → Gaussian
  summand c = signed (sign par ns bonds (kept ns bonds) c) (product ns c)

  agree : (c : Assignment) → Stands c → Meets bonds c → IsAt k bonds c → (e : End) → is_in same_end e (goal bonds (kept ns bonds)) ≡ true → c e ≡ k e
  agree c h m at e i = go (or_cases (is_in same_end e (pairs_of bonds)) (is_in same_end e (kept ns bonds)) (sym (is_in-append same_end e (pairs_of bonds) (kept ns bonds)) ∙ i))
    where
      go : (is_in same_end e (pairs_of bonds) ≡ true) ⊎ (is_in same_end e (kept ns bonds) ≡ true) → c e ≡ k e
      go (inl p) = ends_agree bonds k c meets m at e p
      go (inr p) = h e p

  pub one_summand : sums bonds (λ c. signed (sign par ns bonds (kept ns bonds) c) (product ns c)) (at_values (kept ns bonds) (values (kept ns bonds) k))
      ≡ signed (sign par ns bonds (kept ns bonds) k) (product ns k)
  one_summand =
      single_sum Stands bonds summand k (summand k) db range
      (λ c h m at. ap₂ signed (sign-agree par ns bonds (kept ns bonds) c k (agree c h m at)) (product-agree ns c k (λ e i. agree c h m at e (sym (is_in-perm same_end e net.complete) ∙ i))))
      (λ c h m off. zero_at c (counted c h m) off)
      stands_stable (at_values (kept ns bonds) (values (kept ns bonds) k)) (λ e i. at_values-values (kept ns bonds) k e i)
    where
      zero_at : (c : Assignment) → (x.entry (values x.ends c) ≡ zero_g) ⊎ IsAt k bonds c → (IsAt k bonds c → ⊥) → summand c ≡ zero_g
      zero_at c (inl e) off = ap (signed (sign par ns bonds (kept ns bonds) c)) (factor c e) ∙ signed-zero (sign par ns bonds (kept ns bonds) c)
      zero_at c (inr at) off = absurd (off at)

-- the sign by places

no_twist : (par : Parities) (sectors : ℤ → List SectorValue) (bs : List Bond) (a : Assignment) → AreLines sectors bs → twist_sign par bs a ≡ false
no_twist par sectors [] a h = refl
no_twist par sectors (b ∷ bs) a h = ap₂ xor (ap (λ t. t && par b.label (a (in_end b))) h.1) (no_twist par sectors bs a h.2)

pub places_sign : PlacesSignLaw
places_sign fs sectors ns bonds xs order d lines long within named =
    let par : Parities = parities_on fs sectors in
    let k : Assignment = at_values (word ns) xs in
    ap (λ t. xor t (exchange_sign same_end (odd_end par k) (word ns) (goal bonds (kept ns bonds)))) (no_twist par sectors bonds k lines)
    ∙ ap (exchange_sign same_end (odd_end par k) (word ns)) (sym named)
    ∙ ap is_odd (positions_stand_for_things same_end end_test (odd_end par k) (word ns) no_end order d within)
    ∙ ap (λ bs. exchange_sign ◌==◌ (is_odd_at bs) (positions (length (word ns))) order)
    (parities_by_ends fs sectors (word ns) k ∙ ap (leg_parities fs (legs_on sectors (word ns))) (values_back (word ns) xs d long))
