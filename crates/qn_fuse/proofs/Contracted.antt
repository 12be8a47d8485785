-- Fused and split tensors as contractions with the combiner's tables.
use Rattle.std.proofs.Common.{◌≡◌, ℕ, ℤ, zero, suc, ◌+◌, ◌==◌, ◌<◌, Bool, true, false, ◌&&◌, List, [], ◌∷◌, ◌++◌, length, get_or, map, reverse, refl, sym, ◌∙◌, ap, ap₂, subst, append-nil, arith, eqb-true, eq-eqb}
use Rattle.std.proofs.lemmas.Bool.{and_parts}
use Rattle.std.proofs.lemmas.List.{reverse-append, length-append, length-map}
use Rattle.qn_sign.specs.Sign.{xor, IsDistinct}
use Rattle.qn_gauss.specs.Gaussian.{one_g, signed}
use Rattle.qn_charge.specs.declared.factor.Factor.{Factor}
use Rattle.qn_charge.specs.Charges
use Rattle.qn_charge.specs.Charges.{IsGroup, parity}
use Rattle.qn_charge.specs.Laws.{parity_of_zero}
use Rattle.qn_index.specs.Legs.{LegValue, SectorValue, parity_at, charge_at, total}
use Rattle.qn_index.specs.Tuples.{net, turned}
use Rattle.qn_index.specs.Places.{IsValues, sectors_at}
use Rattle.qn_value.specs.Networks.{End, Assignment, Parities, same_end, values, at_values}
use Rattle.qn_value.specs.Blocks.{legs_on}
use Rattle.qn_value.specs.Fluxes.{arrow_of}
use Rattle.qn_value.specs.Tensors.{same_values, entry_of}
use Rattle.qn_value.specs.Rows.{when, AreBelow}
use Rattle.qn_value.specs.Twists.{odd_among}
use Rattle.qn_value.proofs.BlocksLemmas.{length-legs}
use Rattle.qn_value.proofs.FluxLemmas.{parity-add, parity-turned, xor_same}
use Rattle.qn_value.proofs.RowsLemmas.{values-append, values_back, append_parts}
use Rattle.qn_value.proofs.Values.{both_ways}
use Rattle.qn_block.specs.Combiners.{CombinerValue, IsCombiner, fused_leg, fused_sectors, fused_values, stands_at}
use Rattle.qn_block.specs.Tables.{fuse_tensor, split_tensor, matching, is_inward, odd_inward, split_entry_backwards}
use Rattle.qn_block.proofs.Located.{values_total, stands_below}
use Rattle.qn_block.proofs.TableRows.{fuse_entries, split_entries, is_matching}
use Rattle.qn_fuse.specs.Contractions.{flip, backwards, table_ends, contracted, table_node, tensor_node, FuseContractionLaw, SplitContractionLaw}
use Rattle.qn_fuse.proofs.Moved.{stands_there, values_parts}
use Rattle.qn_block.proofs.Lookup.{values_length}
use Rattle.qn_fuse.proofs.TableValues.{IsTable, table_value, table_network, goal_opens}

when_is : (b o : Bool) → matching b o ≡ when b (signed o one_g)
when_is true o = refl
when_is false o = refl

-- ---- values backwards

reverse_values : (es : List End) (a : Assignment) → reverse (values (backwards es) a) ≡ values es a
reverse_values [] a = refl
reverse_values (e ∷ es) a =
    ap (λ (ys : List ℕ). reverse ys) (values-append (backwards es) (e ∷ []) a) ∙ reverse-append (values (backwards es) a) (a e ∷ []) ∙ ap (λ ys. a e ∷ ys) (reverse_values es a)

reverse_twice : (xs : List ℕ) → reverse (reverse xs) ≡ xs
reverse_twice [] = refl
reverse_twice (x ∷ xs) =
    ap (λ (ys : List ℕ). reverse ys) (reverse-append (x ∷ []) xs) ∙ reverse-append (reverse xs) (x ∷ []) ∙ ap (λ ys. x ∷ ys) (reverse_twice xs)

stands_same : (uss : List (List ℕ)) (w : ℕ) (xs : List ℕ) → w < length uss → stands_at uss w xs ≡ same_values (get_or uss w []) xs
stands_same [] w xs lt = absurd (omega arith)
stands_same (us ∷ uss) zero xs lt = refl
stands_same (us ∷ uss) (suc w) xs lt = stands_same uss w xs (omega arith)

-- ---- parities

module _ (fs : List Factor) (g : IsGroup fs) (sectors : ℤ → List SectorValue) where
  abbrev par : Parities
  par l v = parity_at fs (sectors l) v

  arrow_is : (b : Bool) → is_inward (arrow_of b) ≡ b
  arrow_is true = refl
  arrow_is false = refl

  inward_is : (es : List End) (xs : List ℕ) → odd_inward fs (legs_on sectors es) xs ≡ odd_among par (λ e. e.inward) es xs
  inward_is [] xs = refl
  inward_is (e ∷ es) [] = refl
  inward_is (e ∷ es) (x ∷ xs) =
      xor_same (is_inward (arrow_of e.inward) && parity_at fs (sectors e.label) x) (odd_inward fs (legs_on sectors es) xs)
      ∙ ap₂ xor (ap (λ b. b && parity_at fs (sectors e.label) x) (arrow_is e.inward)) (inward_is es xs)

  net_parity : (es : List End) (xs : List ℕ) → IsValues (legs_on sectors es) xs → parity fs (net fs (legs_on sectors es) (sectors_at (legs_on sectors es) xs)) ≡ odd_among par (λ e. true) es xs
  net_parity [] xs h = parity_of_zero fs
  net_parity (e ∷ es) [] h = absurd h
  net_parity (e ∷ es) (x ∷ xs) h =
      parity-add fs (turned fs (arrow_of e.inward) (charge_at (sectors e.label) x)) (net fs (legs_on sectors es) (sectors_at (legs_on sectors es) xs)) g
      ∙ ap₂ xor (parity-turned fs (arrow_of e.inward) (charge_at (sectors e.label) x) g) (net_parity es xs h.1)

  below_is : (es : List End) (xs : List ℕ) → IsValues (legs_on sectors es) xs → AreBelow (λ l. total (sectors l)) es xs
  below_is [] [] h = tt
  below_is [] (x ∷ xs) h = absurd (some h)
    where
      some : x ∷ xs ≡ [] → ⊥
      some e = cc
  below_is (e ∷ es) [] h = absurd h
  below_is (e ∷ es) (x ∷ xs) h = (h.0, below_is es xs h.1)

module _ (c : CombinerValue) (hc : IsCombiner c) (sectors : ℤ → List SectorValue) (own : List End) (fused : End) (own_legs : legs_on sectors own ≡ c.legs)
    (fused_is : legs_on sectors (fused ∷ []) ≡ fused_leg c.group c.legs c.arrow ∷ []) where
  abbrev F : List (List ℕ)
  F = fused_values c.group c.legs c.arrow

  abbrev q : Parities
  q l v = parity_at c.group (sectors l) v

  abbrev first_leg : LegValue → List LegValue → LegValue
  first_leg d [] = d
  first_leg d (l ∷ ls) = l

  leg_is : record { arrow = arrow_of fused.inward; sectors = sectors fused.label } ≡ fused_leg c.group c.legs c.arrow
  leg_is = ap (first_leg (fused_leg c.group c.legs c.arrow)) fused_is

  sectors_are : sectors fused.label ≡ fused_sectors c.group c.legs c.arrow
  sectors_are = ap (λ (l : LegValue). l.sectors) leg_is

  inward_same : is_inward c.arrow ≡ fused.inward
  inward_same = sym (ap (λ (l : LegValue). is_inward l.arrow) leg_is) ∙ arrow_is c.group hc.group sectors fused.inward

  -- the parity of matching values
  even : (w : ℕ) (vs : List ℕ) → stands_at F w vs ≡ true → odd_among q (λ e. true) (fused ∷ []) (w ∷ []) ≡ odd_among q (λ e. true) own vs
  even w vs st =
      let m = is_matching c hc in
      last (parity_at c.group (sectors fused.label) w)
      ∙ ap (λ ps. parity_at c.group ps w) sectors_are
      ∙ ap (parity c.group) (m.charge w vs st)
      ∙ parity-turned c.group c.arrow (net c.group c.legs (sectors_at c.legs vs)) hc.group
      ∙ ap (λ ls. parity c.group (net c.group ls (sectors_at ls vs))) (sym own_legs)
      ∙ net_parity c.group hc.group sectors own vs (subst (λ ls. IsValues ls vs) (sym own_legs) (m.values w vs st))
    where
      last : (b : Bool) → xor (true && b) false ≡ b
      last true = refl
      last false = refl

  below_own : (w : ℕ) (vs : List ℕ) → stands_at F w vs ≡ true → AreBelow (λ l. total (sectors l)) own vs
  below_own w vs st = below_is c.group hc.group sectors own vs (subst (λ ls. IsValues ls vs) (sym own_legs) ((is_matching c hc).values w vs st))

  fuse_is : (w : ℕ) → w < length F → IsTable q (λ l. total (sectors l)) (fused ∷ []) own (table_node (fused ∷ []) own (fuse_tensor c)) (w ∷ []) (get_or F w [])
  fuse_is w lt = record {
    legs = refl;
    entry = λ a h.
        let xs = values (backwards (map flip own)) a in
        let is : a fused ≡ w = head_is (a fused) w h in
        fuse_entries c (a fused ∷ xs)
        ∙ ap₂ matching
        (ap₂ (λ k ys. stands_at F k ys) is (reverse_values (map flip own) a) ∙ stands_same F w (values (map flip own) a) lt)
        (ap₂ (odd_inward c.group) (sym own_legs) (reverse_values (map flip own) a) ∙ inward_is c.group hc.group sectors own (values (map flip own) a))
        ∙ when_is (same_values (get_or F w []) (values (map flip own) a)) (odd_among q (λ e. e.inward) own (values (map flip own) a));
    below = below_own w (get_or F w []) (stands_there F w lt);
    even = even w (get_or F w []) (stands_there F w lt);
  }
    where
      head_is : (x y : ℕ) → x ∷ [] ≡ y ∷ [] → x ≡ y
      head_is x y e = cc

  split_is : (w : ℕ) (vs : List ℕ) → stands_at F w vs ≡ true → w < length F → IsTable q (λ l. total (sectors l)) own (fused ∷ []) (table_node own (fused ∷ []) (split_tensor c)) vs (w ∷ [])
  split_is w vs st lt = record {
    legs = refl;
    entry = λ a h.
        let x = a (flip fused) in
        let all : values (table_ends own (fused ∷ [])) a ≡ vs ++ (x ∷ []) = values-append own (flip fused ∷ []) a ∙ ap (λ ys. ys ++ (x ∷ [])) h in
        ap (entry_of (split_tensor c)) all ∙ split_entries c (vs ++ (x ∷ []))
        ∙ ap (split_entry_backwards c.group c.legs c.arrow) (reverse-append vs (x ∷ []))
        ∙ ap₂ matching (ap (stands_at F x) (reverse_twice vs) ∙ match x) (sign x)
        ∙ when_is (same_values (w ∷ []) (x ∷ [])) (odd_among q (λ e. e.inward) (fused ∷ []) (x ∷ []));
    below = (subst (λ ps. w < total ps) (sym sectors_are) (omega (arith, lt, values_total c.group c.legs c.arrow)), tt);
    even = sym (even w vs st);
  }
    where
      match : (x : ℕ) → stands_at F x vs ≡ same_values (w ∷ []) (x ∷ [])
      match x =
          both_ways (stands_at F x vs) (same_values (w ∷ []) (x ∷ []))
          (λ s. ap (λ b. b && true) (eq-eqb w x ((is_matching c hc).one w x vs st s)))
          (λ s. ap (λ k. stands_at F k vs) (sym (eqb-true w x (and_parts (w == x) true s).0)) ∙ st)

      sign : (x : ℕ) → (is_inward c.arrow && parity_at c.group (fused_sectors c.group c.legs c.arrow) x) ≡ odd_among q (λ e. e.inward) (fused ∷ []) (x ∷ [])
      sign x = ap₂ (λ b ps. b && parity_at c.group ps x) inward_same (sym sectors_are) ∙ last (fused.inward && parity_at c.group (sectors fused.label) x)
        where
          last : (b : Bool) → b ≡ xor b false
          last true = refl
          last false = refl

-- values of legs that stand one after the other
three_parts : (first new rest : List End) (ps us qs : List ℕ) (a : Assignment) → values (first ++ (new ++ rest)) a ≡ ps ++ (us ++ qs) → length ps ≡ length first → length us ≡ length new →
    (values first a ≡ ps) × (values new a ≡ us) × (values rest a ≡ qs)
three_parts first new rest ps us qs a e lp lu =
    let one = append_parts (values first a) (values (new ++ rest) a) ps (us ++ qs) (length-map first a ∙ sym lp) (sym (values-append first (new ++ rest) a) ∙ e) in
    let two = append_parts (values new a) (values rest a) us qs (length-map new a ∙ sym lu) (sym (values-append new rest a) ∙ one.1) in
    (one.0, two.0, two.1)

pub fuse_contraction : FuseContractionLaw
fuse_contraction c before behind wide narrow sectors first own rest fused xs hc f h apart v =
    let r = values_parts before (fused_leg c.group c.legs c.arrow ∷ behind) xs (subst (λ ls. IsValues ls xs) f.narrow_legs v) in
    at r.0 r.1 r.2 r.3 r.5
  where
    lf : length before ≡ length first
    lf = ap (λ (ls : List LegValue). length ls) (sym h.before_legs) ∙ length-legs sectors first

    opens : List End
    opens = first ++ ((fused ∷ []) ++ rest)

    at : (ps ks : List ℕ) → xs ≡ ps ++ ks → length ps ≡ length before → IsValues (fused_leg c.group c.legs c.arrow ∷ behind) ks →
        entry_of narrow xs ≡ (contracted c sectors (fuse_tensor c) wide first (fused ∷ []) own rest).entry xs
    at ps [] e lp k = absurd k
    at ps (w ∷ qs) e lp k =
        let F = fused_values c.group c.legs c.arrow in
        let below : w < length F = omega (arith, k.0, values_total c.group c.legs c.arrow) in
        let lq : length qs ≡ length rest = values_length behind qs k.1 ∙ ap (λ (ls : List LegValue). length ls) (sym h.behind_legs) ∙ length-legs sectors rest in
        let tab = table_node (fused ∷ []) own (fuse_tensor c) in
        let t = tensor_node (first ++ (own ++ rest)) wide in
        let distinct = subst (λ w. IsDistinct same_end (tab.ends ++ w)) (sym (append-nil t.ends)) apart in
        let net = table_network (λ l. total (sectors l)) first (fused ∷ []) own rest tab t refl refl distinct in
        let long : length xs ≡ length (first ++ ((fused ∷ []) ++ rest)) =
        ap (λ (ys : List ℕ). length ys) e ∙ length-append ps (w ∷ qs) ∙ ap₂ ◌+◌ (lp ∙ lf) (ap suc lq) ∙ sym (length-append first (fused ∷ rest)) in
        let a = at_values (first ++ ((fused ∷ []) ++ rest)) xs in
        let back : values (first ++ ((fused ∷ []) ++ rest)) a ≡ ps ++ ((w ∷ []) ++ qs) = values_back (first ++ ((fused ∷ []) ++ rest)) xs (goal_opens (λ l. total (sectors l)) first (fused ∷ []) own rest tab t net) long ∙ e in
        let p = three_parts first (fused ∷ []) rest ps (w ∷ []) qs a back (lp ∙ lf) refl in
        ap (entry_of narrow) e ∙ f.entries ps (get_or F w []) qs w lp (stands_there F w below)
        ∙ sym (table_value (λ l v. parity_at c.group (sectors l) v) (λ l. total (sectors l)) first (fused ∷ []) own rest tab t refl (w ∷ []) (get_or F w [])
        (fuse_is c hc sectors own fused h.own_legs h.fused_leg w below) net a p.1
        ∙ ap₂ (λ x y. entry_of wide (x ++ (get_or F w [] ++ y))) p.0 p.2)

pub split_contraction : SplitContractionLaw
split_contraction c before behind wide narrow sectors first own rest fused xs hc f h apart v =
    let F = fused_values c.group c.legs c.arrow in
    let m = is_matching c hc in
    let r = values_parts before (c.legs ++ behind) xs (subst (λ ls. IsValues ls xs) f.wide_legs v) in
    let s = values_parts c.legs behind r.1 r.5 in
    let ps = r.0 in
    let us = s.0 in
    let qs = s.1 in
    let e : xs ≡ ps ++ (us ++ qs) = r.2 ∙ ap (λ ys. ps ++ ys) s.2 in
    let some = m.some us s.4 in
    let w = some.0 in
    let st = some.1 in
    let below : w < length F = stands_below F w us st in
    let lf : length ps ≡ length first = r.3 ∙ ap (λ (ls : List LegValue). length ls) (sym h.before_legs) ∙ length-legs sectors first in
    let lu : length us ≡ length own = s.3 ∙ ap (λ (ls : List LegValue). length ls) (sym h.own_legs) ∙ length-legs sectors own in
    let lq : length qs ≡ length rest = values_length behind qs s.5 ∙ ap (λ (ls : List LegValue). length ls) (sym h.behind_legs) ∙ length-legs sectors rest in
    let tab = table_node own (fused ∷ []) (split_tensor c) in
    let t = tensor_node (first ++ ((fused ∷ []) ++ rest)) narrow in
    let distinct = subst (λ w. IsDistinct same_end (tab.ends ++ w)) (sym (append-nil t.ends)) apart in
    let net = table_network (λ l. total (sectors l)) first own (fused ∷ []) rest tab t refl refl distinct in
    let long : length xs ≡ length (first ++ (own ++ rest)) =
    ap (λ (ys : List ℕ). length ys) e ∙ length-append ps (us ++ qs) ∙ ap₂ ◌+◌ lf (length-append us qs ∙ ap₂ ◌+◌ lu lq ∙ sym (length-append own rest)) ∙ sym (length-append first (own ++ rest)) in
    let a = at_values (first ++ (own ++ rest)) xs in
    let back : values (first ++ (own ++ rest)) a ≡ ps ++ (us ++ qs) = values_back (first ++ (own ++ rest)) xs (goal_opens (λ l. total (sectors l)) first own (fused ∷ []) rest tab t net) long ∙ e in
    let p = three_parts first own rest ps us qs a back lf lu in
    ap (entry_of wide) e ∙ sym (f.entries ps us qs w r.3 st)
    ∙ sym (table_value (λ l v. parity_at c.group (sectors l) v) (λ l. total (sectors l)) first own (fused ∷ []) rest tab t refl us (w ∷ [])
    (split_is c hc sectors own fused h.own_legs h.fused_leg w us st below) net a p.1
    ∙ ap₂ (λ x y. entry_of narrow (x ++ ((w ∷ []) ++ y))) p.0 p.2)
