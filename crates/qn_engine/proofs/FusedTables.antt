-- The table of a combiner in a step that fuses or splits by it: which of its legs are left, and its entry where the values match.
use Rattle.std.proofs.Common.{◌≡◌, ◌≢◌, ◌<◌, ℕ, ℤ, Bool, true, false, not, ◌||◌, cond, List, [], ◌∷◌, ◌++◌, refl, sym, ◌∙◌, ap, ap₂, subst, length, reverse, int_eq, arith}
use Rattle.std.specs.List.{list_all}
use Rattle.std.proofs.lemmas.Bool.{or_left, or_right, and_parts, false≢true}
use Rattle.std.proofs.lemmas.List.{reverse-append, reverse-reverse}
use Rattle.qn_sign.specs.Sign.{is_in, IsDistinct}
use Rattle.qn_sign.proofs.Order.{is_in-append, distinct_parts}
use Rattle.qn_gauss.specs.Gaussian.{zero_g, one_g, signed, mag}
use Rattle.qn_index.specs.Legs.{total}
use Rattle.qn_index.specs.Places.{IsValues}
use Rattle.qn_value.specs.Networks.{End, Node, Bond, same_end, labels}
use Rattle.qn_value.specs.Tensors.{entry_of}
use Rattle.qn_value.specs.Twists.{HasOneEnd}
use Rattle.qn_value.proofs.NetLaws.{end_test}
use Rattle.qn_value.proofs.Sums.{label_test}
use Rattle.qn_value.proofs.MagnitudeLemmas.{mag_zero, mag_signed}
use Rattle.qn_block.specs.Combiners.{CombinerValue, IsCombiner, fused_values, fused_leg, stands_at}
use Rattle.qn_block.specs.Tables.{matching, fuse_tensor, split_tensor, fuse_legs, split_legs, split_entry_backwards, odd_inward}
use Rattle.qn_block.proofs.TableRows.{fuse_entries, split_entries, is_matching}
use Rattle.qn_block.proofs.Mirror.{conjugate_values, values_snoc}
use Rattle.qn_block.proofs.Located.{stands_below}
use Rattle.qn_net.specs.Steps.{same_labels, all_but_first, last_one}
use Rattle.qn_net.proofs.FuseLaws.{all_there, end_with, two_ends, apart_from, parts_of, last_of}
use Rattle.qn_engine.specs.Fusing.{ends_left, IsFuseMatch, IsSplitMatch}
use Rattle.qn_engine.proofs.FusedLines.{labels_on, label_there}

-- an entry of a table where the values match is not 0

one_is_some : (o : Bool) → signed o one_g ≢ zero_g
unfolding one_g
one_is_some o e =
    let size : mag (signed o one_g) ≡ 1 = mag_signed o one_g in
    let none : mag zero_g ≡ 0 = mag_zero in
    let same : mag (signed o one_g) ≡ mag zero_g = ap mag e in
    absurd (omega (arith, size, none, same))

-- of the legs of a fuse table all but the first are summed
pub record IsFuseShape (es : List End) (summed : List ℤ) : Type 0 where
  pub first : End
  pub rest : List End
  pub is : es ≡ first ∷ rest
  pub is_left : is_in int_eq first.label summed ≡ false
  pub apart : is_in int_eq first.label (labels_on rest) ≡ false
  pub closed : (e : End) → is_in same_end e rest ≡ true → is_in int_eq e.label summed ≡ true
  pub covers : (l : ℤ) → is_in int_eq l summed ≡ true → is_in int_eq l (labels_on rest) ≡ true
  pub distinct : IsDistinct int_eq (labels_on rest)

-- of the legs of a split table the last one is summed
pub record IsSplitShape (es : List End) (summed : List ℤ) : Type 0 where
  pub front : List End
  pub last : End
  pub is : es ≡ front ++ (last ∷ [])
  pub opens : (e : End) → is_in same_end e front ≡ true → is_in int_eq e.label summed ≡ false
  pub apart : is_in int_eq last.label (labels_on front) ≡ false
  pub closed : is_in int_eq last.label summed ≡ true
  pub covers : (l : ℤ) → is_in int_eq l summed ≡ true → is_in int_eq l (labels_on es) ≡ true

module _ (x : Node) (d : IsDistinct same_end x.ends) (bonds : List Bond) (he : HasOneEnd (λ e. true) x bonds) where
  -- ends of some of the tensor's legs whose labels are summed have different labels
  some_distinct : (es : List End) → IsDistinct same_end es → ((e : End) → is_in same_end e es ≡ true → is_in same_end e x.ends ≡ true) →
      ((e : End) → is_in same_end e es ≡ true → is_in int_eq e.label (labels bonds) ≡ true) → IsDistinct int_eq (labels_on es)
  some_distinct [] de among closed = tt
  some_distinct (e ∷ es) de among closed = (
    alone (is_in int_eq e.label (labels_on es)) refl,
    some_distinct es de.1 (λ f i. among f (or_right (same_end f e) (is_in same_end f es) i)) (λ f i. closed f (or_right (same_end f e) (is_in same_end f es) i)),
  )
    where
      here : is_in same_end e (e ∷ es) ≡ true
      here = or_left (same_end e e) (is_in same_end e es) (end_test.itself e)

      alone : (b : Bool) → is_in int_eq e.label (labels_on es) ≡ b → b ≡ false
      alone false q = refl
      alone true q =
          let r = end_with es e.label q in
          absurd (false≢true (sym (two_ends x bonds he e r.0 (apart_from e es de.0 r.0 r.1) (among e here) (among r.0 (or_right (same_end r.0 e) (is_in same_end r.0 es) r.1)) (sym r.2)) ∙ closed e here))

  -- the label of a leg that is among those that are summed is that of no other leg
  open_label : (w : End) (es : List End) → is_in same_end w es ≡ false → is_in same_end w x.ends ≡ true → ((e : End) → is_in same_end e es ≡ true → is_in same_end e x.ends ≡ true) →
      is_in int_eq w.label (labels_on es) ≡ true → is_in int_eq w.label (labels bonds) ≡ false
  open_label w es n i among h = let r = end_with es w.label h in two_ends x bonds he w r.0 (apart_from w es n r.0 r.1) i (among r.0 r.1) (sym r.2)

  pub fuse_shape : 0 < length x.ends → same_labels (labels bonds) (all_but_first (labels_on x.ends)) ≡ true → IsFuseShape x.ends (labels bonds)
  fuse_shape some h = by x.ends refl
    where
      by : (es : List End) → x.ends ≡ es → IsFuseShape x.ends (labels bonds)
      by [] q = let none : length x.ends ≡ 0 = ap (λ (ys : List End). length ys) q in absurd (omega (arith, some, none))
      by (w ∷ es) q =
          let two = and_parts (list_all (λ k. is_in int_eq k (labels_on es)) (labels bonds)) (list_all (λ l. is_in int_eq l (labels bonds)) (labels_on es))
          (subst (λ ys. same_labels (labels bonds) (all_but_first (labels_on ys)) ≡ true) q h) in
          let de : IsDistinct same_end (w ∷ es) = subst (IsDistinct same_end) q d in
          let among : (e : End) → is_in same_end e es ≡ true → is_in same_end e x.ends ≡ true = λ e i. subst (λ ys. is_in same_end e ys ≡ true) (sym q) (or_right (same_end e w) (is_in same_end e es) i) in
          let here : is_in same_end w x.ends ≡ true = subst (λ ys. is_in same_end w ys ≡ true) (sym q) (or_left (same_end w w) (is_in same_end w es) (end_test.itself w)) in
          let closed : (e : End) → is_in same_end e es ≡ true → is_in int_eq e.label (labels bonds) ≡ true = λ e i. all_there (labels_on es) (labels bonds) two.1 e.label (label_there es e i) in
          let covers : (l : ℤ) → is_in int_eq l (labels bonds) ≡ true → is_in int_eq l (labels_on es) ≡ true = all_there (labels bonds) (labels_on es) two.0 in
          let open_first : is_in int_eq w.label (labels bonds) ≡ false = not_summed (is_in int_eq w.label (labels bonds)) refl (covers w.label) (open_label w es de.0 here among) in
          record {
            first = w;
            rest = es;
            is = q;
            is_left = open_first;
            apart = not_there (is_in int_eq w.label (labels_on es)) refl (λ i. all_there (labels_on es) (labels bonds) two.1 w.label i) open_first;
            closed = closed;
            covers = covers;
            distinct = some_distinct es de.1 among closed;
          }
        where
          not_summed : (b : Bool) → is_in int_eq w.label (labels bonds) ≡ b → (is_in int_eq w.label (labels bonds) ≡ true → is_in int_eq w.label (labels_on es) ≡ true) →
              (is_in int_eq w.label (labels_on es) ≡ true → is_in int_eq w.label (labels bonds) ≡ false) → is_in int_eq w.label (labels bonds) ≡ false
          not_summed false t f g = t
          not_summed true t f g = g (f t)

          not_there : (b : Bool) → is_in int_eq w.label (labels_on es) ≡ b → (is_in int_eq w.label (labels_on es) ≡ true → is_in int_eq w.label (labels bonds) ≡ true) →
              is_in int_eq w.label (labels bonds) ≡ false → b ≡ false
          not_there false t f o = refl
          not_there true t f o = absurd (false≢true (sym o ∙ f t))

  pub split_shape : 0 < length x.ends → same_labels (labels bonds) (last_one (labels_on x.ends)) ≡ true → IsSplitShape x.ends (labels bonds)
  split_shape some h = by x.ends refl
    where
      by_parts : (us : List End) (u : End) → x.ends ≡ us ++ u ∷ [] → IsSplitShape x.ends (labels bonds)
      by_parts us u q =
          let two = and_parts (list_all (λ k. is_in int_eq k (u.label ∷ [])) (labels bonds)) (list_all (λ l. is_in int_eq l (labels bonds)) (u.label ∷ []))
          (subst (λ ls. same_labels (labels bonds) ls ≡ true) (ap (λ (ys : List End). last_one (labels_on ys)) q ∙ last_of us u) h) in
          let closed : is_in int_eq u.label (labels bonds) ≡ true = all_there (u.label ∷ []) (labels bonds) two.1 u.label (or_left (int_eq u.label u.label) false (label_test.itself u.label)) in
          record {
            front = us;
            last = u;
            is = q;
            opens = λ e i. open_leg two.0 e i (is_in int_eq e.label (labels bonds)) refl;
            apart = not_there (is_in int_eq u.label (labels_on us)) refl closed;
            closed = closed;
            covers = λ l i. subst (λ ys. is_in int_eq l (labels_on ys) ≡ true) (sym q) (last_there us l (all_there (labels bonds) (u.label ∷ []) two.0 l i));
          }
        where
          among : (y : End) → is_in same_end y us ≡ true → is_in same_end y x.ends ≡ true
          among y i = subst (λ ys. is_in same_end y ys ≡ true) (sym q) (is_in-append same_end y us (u ∷ []) ∙ or_left (is_in same_end y us) (is_in same_end y (u ∷ [])) i)

          there : is_in same_end u x.ends ≡ true
          there = subst (λ ys. is_in same_end u ys ≡ true) (sym q) (is_in-append same_end u us (u ∷ []) ∙ or_right (is_in same_end u us) (is_in same_end u (u ∷ [])) (or_left (same_end u u) false (end_test.itself u)))

          differ : (y : End) → is_in same_end y us ≡ true → same_end y u ≡ false
          differ y i = first_of (same_end y u) false (distinct_parts same_end end_test y us (u ∷ []) (subst (IsDistinct same_end) q d) i)
            where
              first_of : (a b : Bool) → (a || b) ≡ false → a ≡ false
              first_of false b e = refl
              first_of true b e = e

          alone : (b : Bool) → (b || false) ≡ true → b ≡ true
          alone true e = refl
          alone false e = e

          open_leg : list_all (λ k. is_in int_eq k (u.label ∷ [])) (labels bonds) ≡ true → (y : End) → is_in same_end y us ≡ true → (b : Bool) → is_in int_eq y.label (labels bonds) ≡ b →
              is_in int_eq y.label (labels bonds) ≡ false
          open_leg g y i false t = t
          open_leg g y i true t =
              two_ends x bonds he y u (differ y i) (among y i) there
              (label_test.equal y.label u.label (alone (int_eq y.label u.label) (all_there (labels bonds) (u.label ∷ []) g y.label t)))

          not_there : (b : Bool) → is_in int_eq u.label (labels_on us) ≡ b → is_in int_eq u.label (labels bonds) ≡ true → b ≡ false
          not_there false t s = refl
          not_there true t s =
              let r = end_with us u.label t in
              absurd (false≢true (sym (two_ends x bonds he r.0 u (differ r.0 r.1) (among r.0 r.1) there r.2) ∙ subst (λ l. is_in int_eq l (labels bonds) ≡ true) (sym r.2) s))

          last_there : (ys : List End) (l : ℤ) → is_in int_eq l (u.label ∷ []) ≡ true → is_in int_eq l (labels_on (ys ++ u ∷ [])) ≡ true
          last_there [] l i = i
          last_there (y ∷ ys) l i = or_right (int_eq l y.label) (is_in int_eq l (labels_on (ys ++ u ∷ []))) (last_there ys l i)

      by : (es : List End) → x.ends ≡ es → IsSplitShape x.ends (labels bonds)
      by [] q = let none : length x.ends ≡ 0 = ap (λ (ys : List End). length ys) q in absurd (omega (arith, some, none))
      by (y ∷ es) q = let r = parts_of y es in by_parts r.0 r.1 (q ∙ r.2)

-- the ends that are left of those of a table

none_left : (summed : List ℤ) (es : List End) → ((e : End) → is_in same_end e es ≡ true → is_in int_eq e.label summed ≡ true) → ends_left summed es ≡ []
none_left summed [] h = refl
none_left summed (e ∷ es) h =
    ap (λ b. cond (not b) (e ∷ ends_left summed es) (ends_left summed es)) (h e (or_left (same_end e e) (is_in same_end e es) (end_test.itself e)))
    ∙ none_left summed es (λ f i. h f (or_right (same_end f e) (is_in same_end f es) i))

all_left : (summed : List ℤ) (es : List End) → ((e : End) → is_in same_end e es ≡ true → is_in int_eq e.label summed ≡ false) → ends_left summed es ≡ es
all_left summed [] h = refl
all_left summed (e ∷ es) h =
    ap (λ b. cond (not b) (e ∷ ends_left summed es) (ends_left summed es)) (h e (or_left (same_end e e) (is_in same_end e es) (end_test.itself e)))
    ∙ ap (λ ys. e ∷ ys) (all_left summed es (λ f i. h f (or_right (same_end f e) (is_in same_end f es) i)))

pub left-append : (summed : List ℤ) (es fs : List End) → ends_left summed (es ++ fs) ≡ ends_left summed es ++ ends_left summed fs
left-append summed [] fs = refl
left-append summed (e ∷ es) fs = go (is_in int_eq e.label summed) (left-append summed es fs)
  where
    go : (b : Bool) → ends_left summed (es ++ fs) ≡ ends_left summed es ++ ends_left summed fs →
        cond (not b) (e ∷ ends_left summed (es ++ fs)) (ends_left summed (es ++ fs)) ≡ cond (not b) (e ∷ ends_left summed es) (ends_left summed es) ++ ends_left summed fs
    go true ih = ih
    go false ih = ap (λ ys. e ∷ ys) ih

pub fuse_left : (es : List End) (summed : List ℤ) (s : IsFuseShape es summed) → ends_left summed es ≡ s.first ∷ []
fuse_left es summed s =
    ap (ends_left summed) s.is ∙ ap (λ b. cond (not b) (s.first ∷ ends_left summed s.rest) (ends_left summed s.rest)) s.is_left
    ∙ ap (λ ys. s.first ∷ ys) (none_left summed s.rest s.closed)

pub split_left : (es : List End) (summed : List ℤ) (s : IsSplitShape es summed) → ends_left summed es ≡ s.front
split_left es summed s =
    ap (ends_left summed) s.is ∙ left-append summed s.front (s.last ∷ []) ∙ ap₂ ◌++◌ (all_left summed s.front s.opens) none ∙ append-none s.front
  where
    none : ends_left summed (s.last ∷ []) ≡ []
    none = ap (λ b. cond (not b) (s.last ∷ []) []) s.closed

    append-none : (ys : List End) → ys ++ [] ≡ ys
    append-none [] = refl
    append-none (y ∷ ys) = ap (λ zs. y ∷ zs) (append-none ys)

-- values that match: they are in range, and the entry of the table there is 1 or -1

pub record IsOneAt (c : CombinerValue) (is_fuse : Bool) (us : List ℕ) (minus : Bool) : Type 0 where
  pub range : IsValues (cond is_fuse (fuse_tensor c) (split_tensor c)).legs us
  pub entry : entry_of (cond is_fuse (fuse_tensor c) (split_tensor c)) us ≡ signed minus one_g
  pub some : entry_of (cond is_fuse (fuse_tensor c) (split_tensor c)) us ≢ zero_g

pub below_total : (c : CombinerValue) → IsCombiner c → (w : ℕ) (vs : List ℕ) → stands_at (fused_values c.group c.legs c.arrow) w vs ≡ true → w < total (fused_leg c.group c.legs c.arrow).sectors
below_total c hc w vs h = subst (λ n. w < n) (is_matching c hc).long (stands_below (fused_values c.group c.legs c.arrow) w vs h)

pub fuse_one : (c : CombinerValue) → IsCombiner c → (left us : List ℕ) (minus : Bool) → IsFuseMatch c left us minus → IsOneAt c true us minus
fuse_one c hc left us minus m =
    let range : IsValues (fuse_legs c.group c.legs c.arrow) us =
    subst (IsValues (fuse_legs c.group c.legs c.arrow)) (sym m.all) (below_total c hc m.value m.found m.match, conjugate_values c.legs m.found ((is_matching c hc).values m.value m.found m.match)) in
    let entry : entry_of (fuse_tensor c) us ≡ signed minus one_g =
    ap (entry_of (fuse_tensor c)) m.all ∙ fuse_entries c (m.value ∷ reverse m.found)
    ∙ ap (λ vs. matching (stands_at (fused_values c.group c.legs c.arrow) m.value vs) (odd_inward c.group c.legs vs)) (reverse-reverse m.found)
    ∙ ap₂ matching m.match (sym m.sign) in
    record { range = range; entry = entry; some = λ z. one_is_some minus (sym entry ∙ z) }

pub split_one : (c : CombinerValue) → IsCombiner c → (left us : List ℕ) (minus : Bool) → IsSplitMatch c left us minus → IsOneAt c false us minus
split_one c hc left us minus m =
    let range : IsValues (split_legs c.group c.legs c.arrow) us =
    subst (IsValues (split_legs c.group c.legs c.arrow)) (sym m.all) (values_snoc c.legs _ left m.value ((is_matching c hc).values m.value left m.match) (below_total c hc m.value left m.match)) in
    let entry : entry_of (split_tensor c) us ≡ signed minus one_g =
    ap (entry_of (split_tensor c)) m.all ∙ split_entries c (left ++ (m.value ∷ []))
    ∙ ap (split_entry_backwards c.group c.legs c.arrow) (reverse-append left (m.value ∷ []))
    ∙ ap₂ matching (ap (stands_at (fused_values c.group c.legs c.arrow) m.value) (reverse-reverse left) ∙ m.match) (sym m.sign) in
    record { range = range; entry = entry; some = λ z. one_is_some minus (sym entry ∙ z) }
