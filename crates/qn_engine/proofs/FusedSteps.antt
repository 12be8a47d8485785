-- An entry of a step that fuses or splits: the values of all legs at which its one summand stands.
use Rattle.std.proofs.Common.{◌≡◌, ◌<◌, ℕ, suc, ◌+◌, ℤ, Bool, true, false, ◌&&◌, not, cond, List, [], ◌∷◌, ◌++◌, refl, sym, ◌∙◌, ap, ap₂, subst, map, length, get_or, reverse, append-nil, ◌⊎◌, inl, inr, int_eq, eq-eqb, arith}
use Rattle.std.specs.List.{All}
use Rattle.std.proofs.lemmas.Bool.{or_cases, or_left, or_right, false≢true}
use Rattle.std.proofs.lemmas.List.{length-append, length-map}
use Rattle.qn_sign.specs.Sign.{is_in, IsDistinct}
use Rattle.qn_charge.specs.declared.factor.Factor.{Factor}
use Rattle.qn_index.specs.Legs.{SectorValue, LegValue, total}
use Rattle.qn_index.specs.Places.{IsValues}
use Rattle.qn_value.specs.Networks.{End, Node, Bond, Assignment, same_end, in_end, out_end, word, pairs_of, labels, kept, values, at_values, AreWithin}
use Rattle.qn_value.specs.Labels.{Placed}
use Rattle.qn_value.specs.Blocks.{legs_on}
use Rattle.qn_value.specs.Twists.{HasOneEnd}
use Rattle.qn_value.specs.Rows.{meet_on}
use Rattle.qn_value.proofs.NetLaws.{end_test, ends-labels, at_values-values}
use Rattle.qn_value.proofs.RowsLemmas.{values-append}
use Rattle.qn_value.proofs.BlocksLemmas.{length-legs}
use Rattle.qn_block.specs.Combiners.{CombinerValue, IsCombiner, fused_leg}
use Rattle.qn_block.specs.Tables.{fuse_tensor, split_tensor, fuse_legs, split_legs}
use Rattle.qn_block.specs.Blocked.{conjugate_legs}
use Rattle.qn_net.specs.Groups.Role.{fuse_table, split_table}
use Rattle.qn_net.specs.Steps.{meets_condition}
use Rattle.qn_net.specs.Operations.{IsNodeOf}
use Rattle.qn_net.proofs.Held.{legs-append}
use Rattle.qn_net.proofs.LastTensor.{values_below, values_count, values_from}
use Rattle.qn_engine.specs.Labels.{place_in}
use Rattle.qn_engine.specs.Fusing.{ends_left, sources_from, source_value, IsSourceIn, table_left, IsMatch}
use Rattle.qn_engine.proofs.FusedLines.{labels_on, values_same, read_behind, read_last, read_range, gathered, sources_in}
use Rattle.qn_engine.proofs.FusedTables.{IsFuseShape, IsSplitShape, fuse_shape, split_shape, fuse_left, split_left, IsOneAt, fuse_one, split_one}

-- two lists end to end
pub append_same : {A : Type 0} (xs ys us vs : List A) → length xs ≡ length us → xs ++ ys ≡ us ++ vs → (xs ≡ us) × (ys ≡ vs)
append_same [] ys [] vs n e = (refl, e)
append_same [] ys (u ∷ us) vs n e = absurd (omega (arith, n))
append_same (x ∷ xs) ys [] vs n e = absurd (omega (arith, n))
append_same (x ∷ xs) ys (u ∷ us) vs n e =
    let first : x ≡ u = cc in
    let rest : xs ++ ys ≡ us ++ vs = cc in
    let r = append_same xs ys us vs (omega (arith, n)) rest in
    (ap₂ ◌∷◌ first r.0, r.1)

pub in_left : (summed : List ℤ) (es : List End) (e : End) → is_in same_end e es ≡ true → is_in int_eq e.label summed ≡ false → is_in same_end e (ends_left summed es) ≡ true
in_left summed [] e i o = i
in_left summed (x ∷ es) e i o = go (is_in int_eq x.label summed) refl (or_cases (same_end e x) (is_in same_end e es) i) (λ j. in_left summed es e j o)
  where
    go : (b : Bool) → is_in int_eq x.label summed ≡ b → (same_end e x ≡ true) ⊎ (is_in same_end e es ≡ true) → (is_in same_end e es ≡ true → is_in same_end e (ends_left summed es) ≡ true) →
        is_in same_end e (cond (not b) (x ∷ ends_left summed es) (ends_left summed es)) ≡ true
    go true q (inl t) ih = absurd (false≢true (sym o ∙ subst (λ (y : End). is_in int_eq y.label summed ≡ true) (sym (end_test.equal e x t)) q))
    go true q (inr j) ih = ih j
    go false q (inl t) ih = or_left (same_end e x) (is_in same_end e (ends_left summed es)) t
    go false q (inr j) ih = or_right (same_end e x) (is_in same_end e (ends_left summed es)) (ih j)

pub left_open : (summed : List ℤ) (es : List End) (e : End) → is_in same_end e (ends_left summed es) ≡ true → is_in int_eq e.label summed ≡ false
left_open summed [] e i = absurd (false≢true i)
left_open summed (x ∷ es) e i = go (is_in int_eq x.label summed) refl i (left_open summed es e)
  where
    go : (b : Bool) → is_in int_eq x.label summed ≡ b → is_in same_end e (cond (not b) (x ∷ ends_left summed es) (ends_left summed es)) ≡ true →
        (is_in same_end e (ends_left summed es) ≡ true → is_in int_eq e.label summed ≡ false) → is_in int_eq e.label summed ≡ false
    go true q j ih = ih j
    go false q j ih = at (or_cases (same_end e x) (is_in same_end e (ends_left summed es)) j)
      where
        at : (same_end e x ≡ true) ⊎ (is_in same_end e (ends_left summed es) ≡ true) → is_in int_eq e.label summed ≡ false
        at (inl t) = subst (λ (y : End). is_in int_eq y.label summed ≡ false) (sym (end_test.equal e x t)) q
        at (inr k) = ih k

pub left_among : (summed : List ℤ) (es : List End) (e : End) → is_in same_end e (ends_left summed es) ≡ true → is_in same_end e es ≡ true
left_among summed [] e i = i
left_among summed (x ∷ es) e i = go (is_in int_eq x.label summed) i (left_among summed es e)
  where
    go : (b : Bool) → is_in same_end e (cond (not b) (x ∷ ends_left summed es) (ends_left summed es)) ≡ true →
        (is_in same_end e (ends_left summed es) ≡ true → is_in same_end e es ≡ true) → is_in same_end e (x ∷ es) ≡ true
    go true j ih = or_right (same_end e x) (is_in same_end e es) (ih j)
    go false j ih = at (or_cases (same_end e x) (is_in same_end e (ends_left summed es)) j)
      where
        at : (same_end e x ≡ true) ⊎ (is_in same_end e (ends_left summed es) ≡ true) → is_in same_end e (x ∷ es) ≡ true
        at (inl t) = or_left (same_end e x) (is_in same_end e es) t
        at (inr k) = or_right (same_end e x) (is_in same_end e es) (ih k)

-- the values of all legs: on a line that is summed the table's value, else what is given
abbrev pub line_values : List ℤ → List End → List ℕ → Assignment → Assignment
line_values summed es us a e = cond (is_in int_eq e.label summed) (get_or us (place_in e.label (labels_on es)) 0) (a e)

-- the table of a combiner that a step fuses or splits by
module _ (fs : List Factor) (sectors : ℤ → List SectorValue) (p : Placed) (x : Node) (hp : IsNodeOf fs sectors p x) (d : IsDistinct same_end x.ends) (bonds : List Bond)
    (he : HasOneEnd (λ e. true) x bonds) (c : CombinerValue) (hc : IsCombiner c) where
  abbrev pub IsTable : Bool → Type 0
  IsTable is_fuse = (p.tensor ≡ cond is_fuse (fuse_tensor c) (split_tensor c)) × (meets_condition (cond is_fuse fuse_table split_table) (labels_on x.ends) (labels bonds) ≡ true)

  ends_long : length x.ends ≡ length p.tensor.legs
  ends_long = sym (ap (λ (ls : List LegValue). length ls) hp.legs ∙ length-legs sectors x.ends)

  fuse_legs_are : p.tensor ≡ fuse_tensor c → legs_on sectors x.ends ≡ fuse_legs c.group c.legs c.arrow
  fuse_legs_are e = sym hp.legs ∙ ap (λ t. t.legs) e

  split_legs_are : p.tensor ≡ split_tensor c → legs_on sectors x.ends ≡ split_legs c.group c.legs c.arrow
  split_legs_are e = sym hp.legs ∙ ap (λ t. t.legs) e

  some_fuse : p.tensor ≡ fuse_tensor c → 0 < length x.ends
  some_fuse e =
      let many : length x.ends ≡ suc (length (conjugate_legs c.legs)) = ends_long ∙ ap (λ t. length t.legs) e in
      omega (arith, many)

  split_long : p.tensor ≡ split_tensor c → length x.ends ≡ length c.legs + 1
  split_long e = ends_long ∙ ap (λ t. length t.legs) e ∙ length-append c.legs _

  some_split : p.tensor ≡ split_tensor c → 0 < length x.ends
  some_split e = let many = split_long e in omega (arith, many)

  fuse_is : IsTable true → IsFuseShape x.ends (labels bonds)
  fuse_is t = fuse_shape x d bonds he (some_fuse t.0) t.1

  split_is : IsTable false → IsSplitShape x.ends (labels bonds)
  split_is t = split_shape x d bonds he (some_split t.0) t.1

  pub table_covers : (is_fuse : Bool) → IsTable is_fuse → (l : ℤ) → is_in int_eq l (labels bonds) ≡ true → is_in int_eq l (labels_on x.ends) ≡ true
  table_covers true t l i =
      let s = fuse_is t in
      subst (λ es. is_in int_eq l (labels_on es) ≡ true) (sym s.is) (or_right (int_eq l s.first.label) (is_in int_eq l (labels_on s.rest)) (s.covers l i))
  table_covers false t l i = (split_is t).covers l i

  -- the legs that are left
  pub left_legs_are : (is_fuse : Bool) → IsTable is_fuse → legs_on sectors (ends_left (labels bonds) x.ends) ≡ table_left c is_fuse
  left_legs_are true t =
      let s = fuse_is t in
      ap (legs_on sectors) (fuse_left x.ends (labels bonds) s)
      ∙ (append_same (legs_on sectors (s.first ∷ [])) (legs_on sectors s.rest) (fused_leg c.group c.legs c.arrow ∷ []) (conjugate_legs c.legs) refl
      (sym (ap (legs_on sectors) s.is) ∙ fuse_legs_are t.0)).0
  left_legs_are false t =
      let s = split_is t in
      let many : length s.front + 1 ≡ length c.legs + 1 = sym (length-append s.front (s.last ∷ [])) ∙ ap (λ (es : List End). length es) (sym s.is) ∙ split_long t.0 in
      ap (legs_on sectors) (split_left x.ends (labels bonds) s)
      ∙ (append_same (legs_on sectors s.front) (legs_on sectors (s.last ∷ [])) c.legs _ (length-legs sectors s.front ∙ omega (arith, many))
      (sym (legs-append sectors s.front (s.last ∷ [])) ∙ sym (ap (legs_on sectors) s.is) ∙ split_legs_are t.0)).0

  -- values that match
  pub one_at : (is_fuse : Bool) (left us : List ℕ) (minus : Bool) → IsMatch c is_fuse left us minus → IsOneAt c is_fuse us minus
  one_at true left us minus m = fuse_one c hc left us minus m
  one_at false left us minus m = split_one c hc left us minus m

  module _ (is_fuse : Bool) (t : IsTable is_fuse) (a : Assignment) (left us : List ℕ) (minus : Bool) (match : IsMatch c is_fuse left us minus) (given : values (ends_left (labels bonds) x.ends) a ≡ left) where
    pub table_range : IsValues p.tensor.legs us
    table_range = subst (λ u. IsValues u.legs us) (sym t.0) (one_at is_fuse left us minus match).range

    pub table_on_lines : IsValues (legs_on sectors x.ends) us
    table_on_lines = subst (λ ls. IsValues ls us) hp.legs table_range

    table_long : length us ≡ length x.ends
    table_long = values_count sectors x.ends us table_on_lines

    on : (e : End) → is_in int_eq e.label (labels bonds) ≡ true → line_values (labels bonds) x.ends us a e ≡ get_or us (place_in e.label (labels_on x.ends)) 0
    on e q = ap (λ b. cond b (get_or us (place_in e.label (labels_on x.ends)) 0) (a e)) q

    off : (e : End) → is_in int_eq e.label (labels bonds) ≡ false → line_values (labels bonds) x.ends us a e ≡ a e
    off e q = ap (λ b. cond b (get_or us (place_in e.label (labels_on x.ends)) 0) (a e)) q

    -- a list of one
    one_value : (v w : ℕ) → v ∷ [] ≡ w ∷ [] → v ≡ w
    one_value v w e = cc

    fuse_back : IsFuseShape x.ends (labels bonds) → (v : ℕ) (ts : List ℕ) → left ≡ v ∷ [] → us ≡ v ∷ ts → values x.ends (line_values (labels bonds) x.ends us a) ≡ us
    fuse_back s v ts l u =
        let many : length (v ∷ ts) ≡ length (s.first ∷ s.rest) = ap (λ (ys : List ℕ). length ys) (sym u) ∙ table_long ∙ ap (λ (es : List End). length es) s.is in
        ap (λ (es : List End). values es (line_values (labels bonds) x.ends us a)) s.is
        ∙ ap₂ ◌∷◌ (off s.first s.is_left ∙ one_value (a s.first) v (sym (ap (λ (es : List End). values es a) (fuse_left x.ends (labels bonds) s)) ∙ given ∙ l))
        (values_same s.rest (line_values (labels bonds) x.ends us a) (λ e. get_or (v ∷ ts) (place_in e.label (labels_on (s.first ∷ s.rest))) 0)
        (λ e i. on e (s.closed e i) ∙ ap₂ (λ (ys : List ℕ) (es : List End). get_or ys (place_in e.label (labels_on es)) 0) u s.is)
        ∙ read_behind s.first s.rest v ts s.apart s.distinct (omega (arith, many)))
        ∙ sym u

    split_back : IsSplitShape x.ends (labels bonds) → (v : ℕ) → us ≡ left ++ (v ∷ []) → values x.ends (line_values (labels bonds) x.ends us a) ≡ us
    split_back s v u =
        let front_is : values s.front a ≡ left = sym (ap (λ (es : List End). values es a) (split_left x.ends (labels bonds) s)) ∙ given in
        let many : length left ≡ length s.front = ap (λ (ys : List ℕ). length ys) (sym front_is) ∙ length-map s.front a in
        ap (λ (es : List End). values es (line_values (labels bonds) x.ends us a)) s.is
        ∙ values-append s.front (s.last ∷ []) (line_values (labels bonds) x.ends us a)
        ∙ ap₂ ◌++◌ (values_same s.front (line_values (labels bonds) x.ends us a) a (λ e i. off e (s.opens e i)) ∙ front_is)
        (ap (λ n. n ∷ []) (on s.last s.closed ∙ ap₂ (λ (ys : List ℕ) (es : List End). get_or ys (place_in s.last.label (labels_on es)) 0) u s.is ∙ read_last s.front s.last left v s.apart many))
        ∙ sym u

    by_kind : (b : Bool) → IsTable b → IsMatch c b left us minus → values x.ends (line_values (labels bonds) x.ends us a) ≡ us
    by_kind true s m = fuse_back (fuse_is s) m.value (reverse m.found) m.left_is m.all
    by_kind false s m = split_back (split_is s) m.value m.all

    -- the table's legs have their values
    pub table_back : values x.ends (line_values (labels bonds) x.ends us a) ≡ us
    table_back = by_kind is_fuse t match

    -- the other tensor
    module _ (es : List End) (vs : List ℕ) (rest : values (ends_left (labels bonds) es) a ≡ vs) where
      rest_is : vs ≡ values (ends_left (labels bonds) es) (line_values (labels bonds) x.ends us a)
      rest_is = sym rest ∙ sym (values_same (ends_left (labels bonds) es) (line_values (labels bonds) x.ends us a) a (λ e i. off e (left_open (labels bonds) es e i)))

      pub tensor_back : map (source_value us vs) (sources_from (labels_on x.ends) (labels bonds) 0 (labels_on es)) ≡ values es (line_values (labels bonds) x.ends us a)
      tensor_back = gathered (labels bonds) (labels_on x.ends) us vs (line_values (labels bonds) x.ends us a) on 0 es rest_is

      pub tensor_sources : All (IsSourceIn (length (labels_on x.ends)) (length vs)) (sources_from (labels_on x.ends) (labels bonds) 0 (labels_on es))
      tensor_sources = sources_in (labels bonds) (labels_on x.ends) us vs (line_values (labels bonds) x.ends us a) on (table_covers is_fuse t) 0 es rest_is

      pub tensor_range : IsValues (legs_on sectors (ends_left (labels bonds) es)) vs → IsValues (legs_on sectors es) (values es (line_values (labels bonds) x.ends us a))
      tensor_range r = values_from sectors es (line_values (labels bonds) x.ends us a) (λ e i. at e i (is_in int_eq e.label (labels bonds)) refl)
        where
          at : (e : End) → is_in same_end e es ≡ true → (b : Bool) → is_in int_eq e.label (labels bonds) ≡ b → line_values (labels bonds) x.ends us a e < total (sectors e.label)
          at e i true q = subst (λ n. n < total (sectors e.label)) (sym (on e q)) (read_range sectors x.ends us table_on_lines e.label (table_covers is_fuse t e.label q))
          at e i false q =
              subst (λ n. n < total (sectors e.label)) (sym (off e q))
              (values_below sectors (ends_left (labels bonds) es) a (subst (IsValues (legs_on sectors (ends_left (labels bonds) es))) (sym rest) r) e (in_left (labels bonds) es e i q))

-- two tensors in their order, all of whose legs have values that agree on the lines that are summed
module _ (x y : Node) (bonds : List Bond) (within : AreWithin bonds (x ∷ y ∷ [])) (k a : Assignment) (off : (e : End) → is_in int_eq e.label (labels bonds) ≡ false → k e ≡ a e)
    (on : (b : Bond) → is_in int_eq b.label (labels bonds) ≡ true → k (in_end b) ≡ k (out_end b)) (us vs : List ℕ) (first : values x.ends k ≡ us) (second : values y.ends k ≡ vs) where
  abbrev pub all_values : Assignment
  all_values = at_values (word (x ∷ y ∷ [])) (us ++ vs)

  whole : values (word (x ∷ y ∷ [])) k ≡ us ++ vs
  whole = values-append x.ends (y.ends ++ []) k ∙ ap₂ ◌++◌ first (ap (λ (es : List End). values es k) (append-nil y.ends) ∙ second)

  pub same_at : (e : End) → is_in same_end e (word (x ∷ y ∷ [])) ≡ true → all_values e ≡ k e
  same_at e i = ap (λ (ws : List ℕ). at_values (word (x ∷ y ∷ [])) ws e) (sym whole) ∙ at_values-values (word (x ∷ y ∷ [])) k e i

  meets_all : (bs : List Bond) → ((e : End) → is_in same_end e (pairs_of bs) ≡ true → is_in same_end e (pairs_of bonds) ≡ true) → meet_on bs all_values ≡ true
  meets_all [] h = refl
  meets_all (b ∷ bs) h =
      ap₂ ◌&&◌ (eq-eqb (all_values (in_end b)) (all_values (out_end b)) (same_at (in_end b) (within (in_end b) inward) ∙ on b (sym (ends-labels (in_end b) bonds) ∙ inward) ∙ sym (same_at (out_end b) (within (out_end b) outward))))
      (meets_all bs (λ e i. h e (or_right (same_end e (in_end b)) (is_in same_end e (out_end b ∷ pairs_of bs)) (or_right (same_end e (out_end b)) (is_in same_end e (pairs_of bs)) i))))
    where
      inward : is_in same_end (in_end b) (pairs_of bonds) ≡ true
      inward = h (in_end b) (or_left (same_end (in_end b) (in_end b)) (is_in same_end (in_end b) (out_end b ∷ pairs_of bs)) (end_test.itself (in_end b)))

      outward : is_in same_end (out_end b) (pairs_of bonds) ≡ true
      outward = h (out_end b) (or_right (same_end (out_end b) (in_end b)) (is_in same_end (out_end b) (out_end b ∷ pairs_of bs)) (or_left (same_end (out_end b) (out_end b)) (is_in same_end (out_end b) (pairs_of bs)) (end_test.itself (out_end b))))

  pub all_meet : meet_on bonds all_values ≡ true
  all_meet = meets_all bonds (λ e i. i)

  pub left_values : values (kept (x ∷ y ∷ []) bonds) all_values ≡ values (kept (x ∷ y ∷ []) bonds) a
  left_values =
      values_same (kept (x ∷ y ∷ []) bonds) all_values a
      (λ e i. same_at e (left_among (labels bonds) (word (x ∷ y ∷ [])) e i) ∙ off e (left_open (labels bonds) (word (x ∷ y ∷ [])) e i))
