-- Steps that fuse or split: their sums of magnitudes have one summand at most.
use Rattle.std.proofs.Common.{◌≡◌, ◌≢◌, ◌≤◌, ◌<◌, ℕ, zero, suc, ◌+◌, ◌*◌, ℤ, Bool, true, false, ◌&&◌, ◌||◌, cond, Some, None, append_assoc, append-nil, List, [], ◌∷◌, ◌++◌, refl, sym, ◌∙◌, ap, ap₂, subst, map, length, get_or, reverse, ◌⊎◌, inl, inr, int_eq, nat_lt, arith}
use mathlib.Core.Path.{fun_ext}
use Rattle.std.specs.List.{All, Contains, list_all}
use Rattle.std.proofs.lemmas.Bool.{or_cases, or_parts, or_left, or_right, and_parts, false≢true}
use Rattle.std.proofs.lemmas.Bool.Decides.{nat_tests}
use Rattle.std.proofs.lemmas.List.Elements.{All-append, All-contains_itself}
use Rattle.std.proofs.lemmas.List.{reverse-append, length-append, length-map}
use Rattle.qn_sign.specs.Sign.{is_in, xor, IsDistinct}
use Rattle.qn_sign.specs.Positions.{positions}
use Rattle.qn_gauss.specs.Gaussian.{zero_g, one_g, mul_g, signed, mag, limit}
use Rattle.qn_gauss.proofs.Ring.{mul_zero, mul_one}
use Rattle.qn_charge.specs.declared.factor.Factor.{Factor}
use Rattle.qn_index.specs.declared.leg.Dir.{Dir}
use Rattle.qn_index.specs.Legs.{SectorValue, LegValue, total as total_of}
use Rattle.qn_index.specs.Places.{IsValues, values_at, block_size}
use Rattle.qn_value.specs.Networks.{End, Node, Bond, Assignment, Parities, in_end, out_end, same_end, word, pairs_of, labels, kept, sign, odd_flux, values, product, at_values, contract, IsNetwork}
use Rattle.qn_value.specs.Tensors.{same_values, entry_of}
use Rattle.qn_value.specs.Labels.{Placed}
use Rattle.qn_value.specs.Blocks.{legs_on}
use Rattle.qn_value.specs.Rows.{meet_on}
use Rattle.qn_value.specs.Twists.{HasOneEnd}
use Rattle.qn_value.specs.Magnitudes.{total, mag_at, passes, first_where, place_or, first_passing}
use Rattle.qn_sign.proofs.Order.{is_in-append, is_in-perm, distinct_parts}
use Rattle.qn_value.proofs.Values.{same_values-equal}
use Rattle.qn_value.proofs.RowsLemmas.{zero_mul, values_back, append_parts}
use Rattle.qn_value.proofs.NetLaws.{end_test}
use Rattle.qn_value.proofs.Sums.{label_test}
use Rattle.qn_value.proofs.MagnitudeLemmas.{mag_zero}
use Rattle.qn_value.proofs.BlockRows.{all-nil, all-cons}
use Rattle.qn_value.proofs.PlacedLemmas.{all_first, all_others}
use Rattle.qn_value.proofs.BlocksLemmas.{length-legs}
use Rattle.qn_block.specs.Combiners.{CombinerValue, IsCombiner, fused_values, stands_at}
use Rattle.qn_block.specs.Tables.{fuse_tensor, split_tensor, fuse_entry, split_entry, split_entry_backwards, matching, fuse_legs, split_legs}
use Rattle.qn_block.proofs.TableRows.{fuse_entries, split_entries, is_matching}
use Rattle.qn_net.specs.Groups.{Role, TensorGroup, nodes}
use Rattle.qn_net.specs.Groups.Role.{tensor, fuse_table, split_table}
use Rattle.qn_net.specs.Steps.{Step, State, result, after, carry, meets_condition, same_labels, all_but_first, last_one, IsStepAt}
use Rattle.qn_net.specs.Steps.Step.{pair, trace}
use Rattle.qn_net.specs.Carried.{AllSound}
use Rattle.qn_net.specs.Passing.{step_magnitude, result_magnitude, made}
use Rattle.qn_net.specs.Operations.{parities_on, IsNodeOf, AreLines}
use Rattle.qn_net.specs.FuseSteps.{IsTableOf, IsFusedAt, NeverPasses, FuseStepLaw, FuseEntryLaw, RolesLaw}
use Rattle.qn_net.proofs.PlanTwist.{ends_distinct, bonds_distinct}
use Rattle.qn_net.proofs.SingleSums.{AgreesOff, sum_within}
use Rattle.qn_net.proofs.FuseEntries.{IsSingle, InRange, meets_from, one_summand}
use Rattle.qn_net.proofs.Held.{legs-append, value_below}
use Rattle.qn_net.proofs.LastTensor.{values_count}
use Rattle.qn_net.proofs.PassingLemmas.{local_pair}
use Rattle.qn_net.proofs.StepTensors.{lines_perm, lines_first}
use Rattle.qn_value.proofs.RowsLemmas.{values-append}
use Rattle.qn_gauss.proofs.Signs.{mag_signed}

-- the values that stand at a place of a list

stands_is : (uss : List (List ℕ)) (w : ℕ) (vs : List ℕ) → stands_at uss w vs ≡ true → vs ≡ get_or uss w []
stands_is [] w vs h = absurd (false≢true h)
stands_is (us ∷ uss) zero vs h = sym (same_values-equal us vs h)
stands_is (us ∷ uss) (suc w) vs h = stands_is uss w vs h

-- the first place of these values
abbrev place_in : List (List ℕ) → List ℕ → ℕ
place_in [] vs = 0
place_in (us ∷ uss) vs = cond (same_values us vs) 0 (suc (place_in uss vs))

stands_there : (uss : List (List ℕ)) (w : ℕ) (vs : List ℕ) → stands_at uss w vs ≡ true → stands_at uss (place_in uss vs) vs ≡ true
stands_there [] w vs h = absurd (false≢true h)
stands_there (us ∷ uss) w vs h = go w h (same_values us vs) refl (λ k. stands_there uss k vs)
  where
    go : (w : ℕ) → stands_at (us ∷ uss) w vs ≡ true → (b : Bool) → same_values us vs ≡ b → ((k : ℕ) → stands_at uss k vs ≡ true → stands_at uss (place_in uss vs) vs ≡ true) →
        stands_at (us ∷ uss) (cond b 0 (suc (place_in uss vs))) vs ≡ true
    go w h true e ih = e
    go zero h false e ih = absurd (false≢true (sym e ∙ h))
    go (suc k) h false e ih = ih k h

mag_one : mag one_g ≡ 1
unfolding one_g
mag_one = refl

-- an entry of a table is 0, or the values match and it has magnitude 1
matching_size : (b o : Bool) → mag (matching b o) ≤ 1
matching_size true o = let e : mag (signed o one_g) ≡ 1 = mag_signed o one_g ∙ mag_one in omega (arith, e)
matching_size false o = let e : mag zero_g ≡ 0 = mag_zero in omega (arith, e)

matching_none : (b o : Bool) → b ≡ false → matching b o ≡ zero_g
matching_none b o e = ap (λ t. matching t o) e

fuse_small : (fs : List Factor) (ls : List LegValue) (d : Dir) (xs : List ℕ) → mag (fuse_entry fs ls d xs) ≤ 1
fuse_small fs ls d [] = let e : mag zero_g ≡ 0 = mag_zero in omega (arith, e)
fuse_small fs ls d (w ∷ us) = matching_size _ _

split_small : (fs : List Factor) (ls : List LegValue) (d : Dir) (xs : List ℕ) → mag (split_entry fs ls d xs) ≤ 1
split_small fs ls d xs = go (reverse xs)
  where
    go : (ys : List ℕ) → mag (split_entry_backwards fs ls d ys) ≤ 1
    go [] = let e : mag zero_g ≡ 0 = mag_zero in omega (arith, e)
    go (w ∷ us) = matching_size _ _

-- labels

pub all_there : (ks ls : List ℤ) → list_all (λ k. is_in int_eq k ls) ks ≡ true → (l : ℤ) → is_in int_eq l ks ≡ true → is_in int_eq l ls ≡ true
all_there [] ls h l i = absurd (false≢true i)
all_there (k ∷ ks) ls h l i =
    let p = and_parts (is_in int_eq k ls) (list_all (λ k. is_in int_eq k ls) ks) h in
    go (or_cases (int_eq l k) (is_in int_eq l ks) i) p.0 (all_there ks ls p.1 l)
  where
    go : (int_eq l k ≡ true) ⊎ (is_in int_eq l ks ≡ true) → is_in int_eq k ls ≡ true → (is_in int_eq l ks ≡ true → is_in int_eq l ls ≡ true) → is_in int_eq l ls ≡ true
    go (inl e) here ih = subst (λ m. is_in int_eq m ls ≡ true) (sym (label_test.equal l k e)) here
    go (inr e) here ih = ih e

-- an end with the label
pub end_with : (es : List End) (l : ℤ) → is_in int_eq l (map (λ (e : End). e.label) es) ≡ true → (e : End) × (is_in same_end e es ≡ true) × (e.label ≡ l)
end_with [] l h = absurd (false≢true h)
end_with (x ∷ es) l h = go (or_cases (int_eq l x.label) (is_in int_eq l (map (λ (e : End). e.label) es)) h) (end_with es l)
  where
    go : (int_eq l x.label ≡ true) ⊎ (is_in int_eq l (map (λ (e : End). e.label) es) ≡ true) →
        (is_in int_eq l (map (λ (e : End). e.label) es) ≡ true → (e : End) × (is_in same_end e es ≡ true) × (e.label ≡ l)) → (e : End) × (is_in same_end e (x ∷ es) ≡ true) × (e.label ≡ l)
    go (inl q) ih = (x, or_left (same_end x x) (is_in same_end x es) (end_test.itself x), sym (label_test.equal l x.label q))
    go (inr q) ih = let r = ih q in (r.0, or_right (same_end r.0 x) (is_in same_end r.0 es) r.1, r.2)

-- of each bond the tensor has one end, so two of its legs on one line are not summed over
one_end : (x : Node) (bs : List Bond) → HasOneEnd (λ e. true) x bs → (l : ℤ) → is_in int_eq l (labels bs) ≡ true →
    is_in same_end (record { label = l; inward = true }) x.ends ≡ true → is_in same_end (record { label = l; inward = false }) x.ends ≡ true → ⊥
one_end x [] h l i p q = false≢true i
one_end x (b ∷ bs) h l i p q = go (or_cases (int_eq l b.label) (is_in int_eq l (labels bs)) i) (λ j. one_end x bs h.1 l j p q)
  where
    both : (s t : Bool) → s ≡ true → t ≡ true → xor (true && s) (true && t) ≡ true → ⊥
    both true true e f g = false≢true g
    both true false e f g = false≢true f
    both false t e f g = false≢true e

    go : (int_eq l b.label ≡ true) ⊎ (is_in int_eq l (labels bs) ≡ true) → (is_in int_eq l (labels bs) ≡ true → ⊥) → ⊥
    go (inl e) ih =
        let same : l ≡ b.label = label_test.equal l b.label e in
        both _ _ (subst (λ k. is_in same_end (record { label = k; inward = true }) x.ends ≡ true) same p) (subst (λ k. is_in same_end (record { label = k; inward = false }) x.ends ≡ true) same q) h.0
    go (inr e) ih = ih e

pub two_ends : (x : Node) (bs : List Bond) → HasOneEnd (λ e. true) x bs → (e f : End) → same_end e f ≡ false → is_in same_end e x.ends ≡ true → is_in same_end f x.ends ≡ true → e.label ≡ f.label →
    is_in int_eq e.label (labels bs) ≡ false
two_ends x bs h e f n i j s = go (is_in int_eq e.label (labels bs)) refl
  where
    here : (b : Bool) (g : End) → g.label ≡ e.label → g.inward ≡ b → is_in same_end g x.ends ≡ true → is_in same_end (record { label = e.label; inward = b }) x.ends ≡ true
    here b g q r k = subst (λ y. is_in same_end y x.ends ≡ true) (λ t. record { label = q t; inward = r t }) k

    arrows : (b c : Bool) → e.inward ≡ b → f.inward ≡ c → is_in int_eq e.label (labels bs) ≡ true → ⊥
    arrows true false p q t = one_end x bs h e.label t (here true e refl p i) (here false f (sym s) q j)
    arrows false true p q t = one_end x bs h e.label t (here true f (sym s) q j) (here false e refl p i)
    arrows true true p q t = false≢true (sym n ∙ subst (λ y. same_end e y ≡ true) (λ u. record { label = s u; inward = (p ∙ sym q) u }) (end_test.itself e))
    arrows false false p q t = false≢true (sym n ∙ subst (λ y. same_end e y ≡ true) (λ u. record { label = s u; inward = (p ∙ sym q) u }) (end_test.itself e))

    go : (b : Bool) → is_in int_eq e.label (labels bs) ≡ b → is_in int_eq e.label (labels bs) ≡ false
    go false t = t
    go true t = absurd (arrows e.inward f.inward refl refl t)

pub apart_from : (x : End) (es : List End) → is_in same_end x es ≡ false → (e : End) → is_in same_end e es ≡ true → same_end x e ≡ false
apart_from x es n e i = go (same_end x e) refl
  where
    go : (b : Bool) → same_end x e ≡ b → b ≡ false
    go false q = refl
    go true q = absurd (false≢true (sym n ∙ subst (λ y. is_in same_end y es ≡ true) (sym (end_test.equal x e q)) i))

reverse_twice : (xs : List ℕ) → reverse (reverse xs) ≡ xs
reverse_twice [] = refl
reverse_twice (x ∷ xs) =
    ap (λ (ys : List ℕ). reverse ys) (reverse-append (x ∷ []) xs) ∙ reverse-append (reverse xs) (x ∷ []) ∙ ap (λ ys. x ∷ ys) (reverse_twice xs)

pub values_off : (vs : List End) (k a : Assignment) → ((y : End) → is_in same_end y vs ≡ true → k y ≡ a y) → values vs k ≡ values vs a
values_off [] k a h = refl
values_off (v ∷ vs) k a h =
    ap₂ ◌∷◌ (h v (or_left (same_end v v) (is_in same_end v vs) (end_test.itself v))) (values_off vs k a (λ y i. h y (or_right (same_end y v) (is_in same_end y vs) i)))

-- a list that is not empty has a last element
pub parts_of : (x : End) (es : List End) → (us : List End) × (u : End) × (x ∷ es ≡ us ++ u ∷ [])
parts_of x [] = ([], x, refl)
parts_of x (e ∷ es) = let r = parts_of e es in (x ∷ r.0, r.1, ap (λ ys. x ∷ ys) r.2)

pub last_of : (us : List End) (u : End) → last_one (map (λ (e : End). e.label) (us ++ u ∷ [])) ≡ u.label ∷ []
last_of [] u = refl
last_of (x ∷ []) u = refl
last_of (x ∷ y ∷ us) u = last_of (y ∷ us) u

-- the table of a combiner in a network, summed over just the legs that it combines: its entries count only where these have the values that match
module _ (fs : List Factor) (sectors : ℤ → List SectorValue) (p : Placed) (x : Node) (hp : IsNodeOf fs sectors p x) (d : IsDistinct same_end x.ends) (bonds : List Bond)
    (he : HasOneEnd (λ e. true) x bonds) (c : CombinerValue) (hc : IsCombiner c) where
  abbrev F : List (List ℕ)
  F = fused_values c.group c.legs c.arrow

  entry_is : (a : Assignment) → x.entry (values x.ends a) ≡ entry_of p.tensor (values x.ends a)
  entry_is a = sym (hp.entry (values x.ends a) (length-map x.ends a))

  fuse_entry_is : p.tensor ≡ fuse_tensor c → (a : Assignment) → x.entry (values x.ends a) ≡ fuse_entry c.group c.legs c.arrow (values x.ends a)
  fuse_entry_is e a = entry_is a ∙ ap (λ t. entry_of t (values x.ends a)) e ∙ fuse_entries c (values x.ends a)

  split_entry_is : p.tensor ≡ split_tensor c → (a : Assignment) → x.entry (values x.ends a) ≡ split_entry c.group c.legs c.arrow (values x.ends a)
  split_entry_is e a = entry_is a ∙ ap (λ t. entry_of t (values x.ends a)) e ∙ split_entries c (values x.ends a)

  fuse_single : p.tensor ≡ fuse_tensor c → same_labels (labels bonds) (all_but_first (map (λ (e : End). e.label) x.ends)) ≡ true → IsSingle x bonds
  fuse_single e cond_ok = by x.ends refl
    where
      by : (es : List End) → x.ends ≡ es → IsSingle x bonds
      by [] q =
          let many : length (fuse_legs c.group c.legs c.arrow) ≡ 0 = ap (λ (ls : List LegValue). length ls) (sym (ap (λ t. t.legs) e) ∙ hp.legs) ∙ length-legs sectors x.ends ∙ ap (λ (ys : List End). length ys) q in
          absurd (omega (arith, many))
      by (w ∷ es) q =
          let two = and_parts (list_all (λ k. is_in int_eq k (map (λ (y : End). y.label) es)) (labels bonds)) (list_all (λ l. is_in int_eq l (labels bonds)) (map (λ (y : End). y.label) es))
          (subst (λ ys. same_labels (labels bonds) (all_but_first (map (λ (y : End). y.label) ys)) ≡ true) q cond_ok) in
          let de : IsDistinct same_end (w ∷ es) = subst (IsDistinct same_end) q d in
          record {
            es = es;
            covers = all_there (labels bonds) (map (λ (y : End). y.label) es) two.0;
            pick = λ a. reverse (get_or F (a w) []);
            same = λ a k h. ap (λ n. reverse (get_or F n [])) (h w first_there (open_first two.0 de (is_in int_eq w.label (labels bonds)) refl));
            counts = λ k. at k (stands_at F (k w) (reverse (values es k))) refl;
          }
        where
          first_there : is_in same_end w x.ends ≡ true
          first_there = subst (λ ys. is_in same_end w ys ≡ true) (sym q) (or_left (same_end w w) (is_in same_end w es) (end_test.itself w))

          open_first : list_all (λ k. is_in int_eq k (map (λ (y : End). y.label) es)) (labels bonds) ≡ true → IsDistinct same_end (w ∷ es) →
              (b : Bool) → is_in int_eq w.label (labels bonds) ≡ b → is_in int_eq w.label (labels bonds) ≡ false
          open_first h de false t = t
          open_first h de true t =
              let r = end_with es w.label (all_there (labels bonds) (map (λ (y : End). y.label) es) h w.label t) in
              two_ends x bonds he w r.0 (apart_from w es de.0 r.0 r.1) first_there
              (subst (λ ys. is_in same_end r.0 ys ≡ true) (sym q) (or_right (same_end r.0 w) (is_in same_end r.0 es) r.1)) (sym r.2)

          at : (k : Assignment) (b : Bool) → stands_at F (k w) (reverse (values es k)) ≡ b → (x.entry (values x.ends k) ≡ zero_g) ⊎ (values es k ≡ reverse (get_or F (k w) []))
          at k false h = inl (fuse_entry_is e k ∙ ap (λ ys. fuse_entry c.group c.legs c.arrow (values ys k)) q ∙ matching_none (stands_at F (k w) (reverse (values es k))) _ h)
          at k true h = inr (sym (reverse_twice (values es k)) ∙ ap (λ (ys : List ℕ). reverse ys) (stands_is F (k w) (reverse (values es k)) h))

  split_single : p.tensor ≡ split_tensor c → same_labels (labels bonds) (last_one (map (λ (e : End). e.label) x.ends)) ≡ true → IsSingle x bonds
  split_single e cond_ok = by x.ends refl
    where
      by_parts : (us : List End) (u : End) → x.ends ≡ us ++ u ∷ [] → IsSingle x bonds
      by_parts us u q =
          let two = and_parts (list_all (λ k. is_in int_eq k (u.label ∷ [])) (labels bonds)) (list_all (λ l. is_in int_eq l (labels bonds)) (u.label ∷ []))
          (subst (λ ls. same_labels (labels bonds) ls ≡ true) (ap (λ (ys : List End). last_one (map (λ (y : End). y.label) ys)) q ∙ last_of us u) cond_ok) in
          record {
            es = u ∷ [];
            covers = all_there (labels bonds) (u.label ∷ []) two.0;
            pick = λ a. place_in F (values us a) ∷ [];
            same = λ a k h. ap (λ ys. place_in F ys ∷ []) (values_off us a k (λ y i. h y (among y i) (open_leg two.0 y i (is_in int_eq y.label (labels bonds)) refl)));
            counts = λ k. at k (stands_at F (k u) (values us k)) refl;
          }
        where
          among : (y : End) → is_in same_end y us ≡ true → is_in same_end y x.ends ≡ true
          among y i = subst (λ ys. is_in same_end y ys ≡ true) (sym q) (is_in-append same_end y us (u ∷ []) ∙ or_left (is_in same_end y us) (is_in same_end y (u ∷ [])) i)

          alone : (b : Bool) → (b || false) ≡ true → b ≡ true
          alone b e = grind arith

          open_leg : list_all (λ k. is_in int_eq k (u.label ∷ [])) (labels bonds) ≡ true → (y : End) → is_in same_end y us ≡ true → (b : Bool) → is_in int_eq y.label (labels bonds) ≡ b →
              is_in int_eq y.label (labels bonds) ≡ false
          open_leg h y i false t = t
          open_leg h y i true t =
              two_ends x bonds he y u
              ((or_parts (same_end y u) false (distinct_parts same_end end_test y us (u ∷ []) (subst (IsDistinct same_end) q d) i)).0) (among y i)
              (subst (λ ys. is_in same_end u ys ≡ true) (sym q) (is_in-append same_end u us (u ∷ []) ∙ or_right (is_in same_end u us) (is_in same_end u (u ∷ [])) (or_left (same_end u u) false (end_test.itself u))))
              (label_test.equal y.label u.label (alone (int_eq y.label u.label) (all_there (labels bonds) (u.label ∷ []) h y.label t)))

          backwards : (k : Assignment) → reverse (values x.ends k) ≡ k u ∷ reverse (values us k)
          backwards k = ap (λ (ys : List End). reverse (values ys k)) q ∙ ap (λ (ys : List ℕ). reverse ys) (values-append us (u ∷ []) k) ∙ reverse-append (values us k) (k u ∷ [])

          at : (k : Assignment) (b : Bool) → stands_at F (k u) (values us k) ≡ b → (x.entry (values x.ends k) ≡ zero_g) ⊎ (values (u ∷ []) k ≡ place_in F (values us k) ∷ [])
          at k false h =
              inl (split_entry_is e k ∙ ap (λ (ys : List ℕ). split_entry_backwards c.group c.legs c.arrow ys) (backwards k)
              ∙ matching_none (stands_at F (k u) (reverse (reverse (values us k)))) _ (ap (stands_at F (k u)) (reverse_twice (values us k)) ∙ h))
          at k true h =
              inr (ap (λ n. n ∷ []) ((is_matching c hc).one (k u) (place_in F (values us k)) (values us k) h (stands_there F (k u) (values us k) h)))

      by : (es : List End) → x.ends ≡ es → IsSingle x bonds
      by [] q =
          let many : length (split_legs c.group c.legs c.arrow) ≡ 0 = ap (λ (ls : List LegValue). length ls) (sym (ap (λ t. t.legs) e) ∙ hp.legs) ∙ length-legs sectors x.ends ∙ ap (λ (ys : List End). length ys) q in
          let parts : length (split_legs c.group c.legs c.arrow) ≡ length c.legs + 1 = length-append c.legs _ in
          absurd (omega (arith, many, parts))
      by (y ∷ es) q = let r = parts_of y es in by_parts r.0 r.1 (q ∙ r.2)

  -- the table of the role
  pub table_single : (role : Role) → IsTableOf c role p.tensor → meets_condition role (map (λ (e : End). e.label) x.ends) (labels bonds) ≡ true → IsSingle x bonds
  table_single tensor t m = absurd t
  table_single fuse_table t m = fuse_single t m
  table_single split_table t m = split_single t m

  table_small : (role : Role) → IsTableOf c role p.tensor → (a : Assignment) → mag_at x a ≤ 1
  table_small tensor t a = absurd t
  table_small fuse_table t a = subst (λ z. mag z ≤ 1) (sym (fuse_entry_is t a)) (fuse_small c.group c.legs c.arrow (values x.ends a))
  table_small split_table t a = subst (λ z. mag z ≤ 1) (sym (split_entry_is t a)) (split_small c.group c.legs c.arrow (values x.ends a))

  table_within : (role : Role) → IsTableOf c role p.tensor → meets_condition role (map (λ (e : End). e.label) x.ends) (labels bonds) ≡ true → IsDistinct int_eq (labels bonds) →
      (g : Assignment → ℕ) (bound : ℕ) → ((a : Assignment) → g a ≤ bound) → (a : Assignment) → total bonds (λ k. mag_at x k * g k) a ≤ bound
  table_within role t m db g bound small a =
      let s : IsSingle x bonds = table_single role t m in
      sum_within (mag_at x) g bonds db s.es (s.pick a) bound a s.covers (table_small role t) small (λ k off. at s k off (s.counts k))
    where
      at : (s : IsSingle x bonds) (k : Assignment) → AgreesOff bonds a k → (x.entry (values x.ends k) ≡ zero_g) ⊎ (values s.es k ≡ s.pick k) → (mag_at x k ≡ 0) ⊎ (values s.es k ≡ s.pick a)
      at s k off (inl z) = inl (ap mag z ∙ mag_zero)
      at s k off (inr v) = inr (v ∙ s.same k a (λ e i o. off e o))

-- sums that stay within the limit never pass

none_first : (test : ℕ → Bool) → ((k : ℕ) → test k ≡ false) → (ks : List ℕ) → first_where test ks ≡ None
none_first test h [] = refl
none_first test h (k ∷ ks) = ap (λ b. cond b (Some k) (first_where test ks)) (h k) ∙ none_first test h ks

none_passes : (size : List ℕ → ℕ) → ((xs : List ℕ) → size xs ≤ limit) → (ls : List LegValue) (ts : List (List ℕ)) → first_passing size ls ts ≡ None
none_passes size h ls [] = refl
none_passes size h ls (t ∷ ts) =
    ap₂ (place_or t) (none_first (λ o. passes (size (values_at ls t o))) (λ o. below (size (values_at ls t o)) (h (values_at ls t o))) (positions (block_size ls t))) (none_passes size h ls ts)
  where
    below : (m : ℕ) → m ≤ limit → nat_lt limit m ≡ false
    below m l = grind (arith, nat_tests)

le_through : (m n k : ℕ) → m ≤ n → n ≤ k → m ≤ k
le_through m n k p q = omega (arith, p, q)

never : (par : Parities) (bound : ℕ) (t : Step) → ((a : Assignment) → step_magnitude made t a ≤ bound) → NeverPasses par bound t
never par bound t h = (h, (λ l ls ts. none_passes (result_magnitude par made t) (λ xs. le_through _ bound limit (h _) l) ls ts))

pub fuse_step : FuseStepLaw
fuse_step fs sectors opens s before g between h behind bonds left c p bound sound at hc = (
  (λ hp table meets small.
      never (parities_on fs sectors) bound (pair before g between h behind bonds left) (λ a.
      subst (λ (f : Assignment → ℕ). total bonds f a ≤ bound) (fun_ext (λ k. ap (λ n. mag_at g.node k * n) (sym (plain (mag_at h.node k)))))
      (table_within fs sectors p g.node hp dg bonds at.3 c hc g.role table meets db (mag_at h.node) bound small a))),
  (λ hp table meets small.
      never (parities_on fs sectors) bound (pair before g between h behind bonds left) (λ a.
      subst (λ (f : Assignment → ℕ). total bonds f a ≤ bound) (fun_ext (λ k. turn (mag_at h.node k) (mag_at g.node k)))
      (table_within fs sectors p h.node hp dh bonds at.4 c hc h.role table meets db (mag_at g.node) bound small a))),
)
  where
    d : IsDistinct same_end (word (nodes (before ++ (g ∷ (between ++ (h ∷ behind))))))
    d = subst (λ gs. IsDistinct same_end (word (nodes gs))) at.0 sound.network.distinct

    dg : IsDistinct same_end g.node.ends
    dg = ends_distinct before g (between ++ (h ∷ behind)) d

    dh : IsDistinct same_end h.node.ends
    dh = ends_distinct (before ++ (g ∷ between)) h behind (subst (λ gs. IsDistinct same_end (word (nodes gs))) (sym (append_assoc before (g ∷ between) (h ∷ behind))) d)

    db : IsDistinct int_eq (labels bonds)
    db = bonds_distinct (nodes s.groups) s.left bonds left opens sound.network at.1

    plain : (n : ℕ) → n * 1 ≡ n
    plain n = omega arith

    turn : (m n : ℕ) → m * n ≡ n * (m * 1)
    turn m n = omega arith

-- roles

abbrev Stays : List TensorGroup → TensorGroup → Type 0
Stays gs g = (g.role ≡ tensor) ⊎ Contains gs g

pub all_left : {A : Type 0} (P : A → Type 0) (xs ys : List A) → All P (xs ++ ys) → All P xs
all_left P [] ys h = all-nil P
all_left P (x ∷ xs) ys h = all-cons P x xs (all_first P x (xs ++ ys) h) (all_left P xs ys (all_others P x (xs ++ ys) h))

pub all_right : {A : Type 0} (P : A → Type 0) (xs ys : List A) → All P (xs ++ ys) → All P ys
all_right P [] ys h = h
all_right P (x ∷ xs) ys h = all_right P xs ys (all_others P x (xs ++ ys) h)

-- what holds of the groups and of the step's result holds after the step
pub groups_after : (P : TensorGroup → Type 0) (par : Parities) (s : State) (t : Step) → IsStepAt s t → P (result par t) → All P s.groups → All P (after par t).groups
groups_after P par s (pair before g between h behind bonds left) at made_so all =
    let parts : All P (before ++ (g ∷ (between ++ (h ∷ behind)))) = subst (All P) at.0 all in
    let rest : All P (between ++ (h ∷ behind)) = all_others P g (between ++ (h ∷ behind)) (all_right P before (g ∷ (between ++ (h ∷ behind))) parts) in
    All-append P before (result par (pair before g between h behind bonds left) ∷ (between ++ behind)) (all_left P before (g ∷ (between ++ (h ∷ behind))) parts)
    (all-cons P (result par (pair before g between h behind bonds left)) (between ++ behind) made_so
    (All-append P between behind (all_left P between (h ∷ behind) rest) (all_others P h behind (all_right P between (h ∷ behind) rest))))
groups_after P par s (trace before g behind bonds left) at made_so all =
    let parts : All P (before ++ (g ∷ behind)) = subst (All P) at.0 all in
    All-append P before (result par (trace before g behind bonds left) ∷ behind) (all_left P before (g ∷ behind) parts)
    (all-cons P (result par (trace before g behind bonds left)) behind made_so (all_others P g behind (all_right P before (g ∷ behind) parts)))

pub result_role : (par : Parities) (t : Step) → (result par t).role ≡ tensor
result_role par (pair before g between h behind bonds left) = refl
result_role par (trace before g behind bonds left) = refl

carried_roles : (gs : List TensorGroup) (par : Parities) (opens : List End) (ts us : List Step) (s : State) → AllSound par opens (ts ++ us) s → All (Stays gs) s.groups → All (Stays gs) (carry par ts s).groups
carried_roles gs par opens [] us s k all = all
carried_roles gs par opens (t ∷ ts) us s k all = carried_roles gs par opens ts us (after par t) k.2 (groups_after (Stays gs) par s t k.1 (inl (result_role par t)) all)

pub roles : RolesLaw
roles par opens ts us s k = carried_roles s.groups par opens ts us s k (λ i d l. inr (All-contains_itself s.groups i d l))

-- the one summand of a step that fuses

pub values-join : (ls ms : List LegValue) (us vs : List ℕ) → IsValues ls us → IsValues ms vs → IsValues (ls ++ ms) (us ++ vs)
values-join [] ms us vs h k = subst (λ ws. IsValues ms (ws ++ vs)) (sym h) k
values-join (l ∷ ls) ms [] vs h k = absurd h
values-join (l ∷ ls) ms (u ∷ us) vs h k = (h.0, values-join ls ms us vs h.1 k)

range_from : (sectors : ℤ → List SectorValue) (k : Assignment) (bs : List Bond) → AreLines sectors bs → ((e : End) → is_in same_end e (pairs_of bs) ≡ true → k e < total_of (sectors e.label)) → InRange k bs
range_from sectors k [] h below = tt
range_from sectors k (b ∷ bs) h below = (
  subst (λ n. k (in_end b) < n) (sym h.0) (below (in_end b) (or_left (same_end (in_end b) (in_end b)) (is_in same_end (in_end b) (out_end b ∷ pairs_of bs)) (end_test.itself (in_end b)))),
  range_from sectors k bs h.2 (λ e i. below e (or_right (same_end e (in_end b)) (is_in same_end e (out_end b ∷ pairs_of bs)) (or_right (same_end e (out_end b)) (is_in same_end e (pairs_of bs)) i))),
)

-- two tensors of which one is such a table
module _ (fs : List Factor) (sectors : ℤ → List SectorValue) (x y : Node) (p q : Placed) (hp : IsNodeOf fs sectors p x) (hq : IsNodeOf fs sectors q y) (bonds : List Bond)
    (net : IsNetwork (x ∷ y ∷ []) bonds (kept (x ∷ y ∷ []) bonds)) (lines : AreLines sectors bonds) (db : IsDistinct int_eq (labels bonds)) (us vs : List ℕ)
    (ru : IsValues p.tensor.legs us) (rv : IsValues q.tensor.legs vs) where
  abbrev both : List Node
  both = x ∷ y ∷ []

  abbrev par : Parities
  par = parities_on fs sectors

  abbrev k : Assignment
  k = at_values (word (x ∷ y ∷ [])) (us ++ vs)

  first_range : IsValues (legs_on sectors x.ends) us
  first_range = subst (λ gs. IsValues gs us) hp.legs ru

  second_range : IsValues (legs_on sectors y.ends) vs
  second_range = subst (λ gs. IsValues gs vs) hq.legs rv

  first_long : length us ≡ length x.ends
  first_long = values_count sectors x.ends us first_range

  second_long : length vs ≡ length y.ends
  second_long = values_count sectors y.ends vs second_range

  word_is : word (x ∷ y ∷ []) ≡ x.ends ++ y.ends
  word_is = ap (λ es. x.ends ++ es) (append-nil y.ends)

  all_range : IsValues (legs_on sectors (word (x ∷ y ∷ []))) (us ++ vs)
  all_range =
      subst (λ es. IsValues (legs_on sectors es) (us ++ vs)) (sym word_is)
      (subst (λ gs. IsValues gs (us ++ vs)) (sym (legs-append sectors x.ends y.ends)) (values-join (legs_on sectors x.ends) (legs_on sectors y.ends) us vs first_range second_range))

  back : values (word (x ∷ y ∷ [])) k ≡ us ++ vs
  back = values_back (word (x ∷ y ∷ [])) (us ++ vs) net.distinct (values_count sectors (word (x ∷ y ∷ [])) (us ++ vs) all_range)

  halves : (values x.ends k ≡ us) × (values y.ends k ≡ vs)
  halves =
      append_parts (values x.ends k) (values y.ends k) us vs (length-map x.ends k ∙ sym first_long)
      (sym (values-append x.ends y.ends k) ∙ ap (λ (es : List End). values es k) (sym word_is) ∙ back)

  below : (e : End) → is_in same_end e (word (x ∷ y ∷ [])) ≡ true → k e < total_of (sectors e.label)
  below e i = value_below sectors (word (x ∷ y ∷ [])) k (subst (IsValues (legs_on sectors (word (x ∷ y ∷ [])))) (sym back) all_range) e i

  range : InRange k bonds
  range =
      range_from sectors k bonds lines
      (λ e i. below e (is_in-perm same_end e net.complete ∙ is_in-append same_end e (pairs_of bonds) (kept (x ∷ y ∷ []) bonds) ∙ or_left (is_in same_end e (pairs_of bonds)) (is_in same_end e (kept (x ∷ y ∷ []) bonds)) i))

  first_entry : x.entry (values x.ends k) ≡ entry_of p.tensor us
  first_entry = ap x.entry halves.0 ∙ sym (hp.entry us first_long)

  second_entry : y.entry (values y.ends k) ≡ entry_of q.tensor vs
  second_entry = ap y.entry halves.1 ∙ sym (hq.entry vs second_long)

  product_is : product (x ∷ y ∷ []) k ≡ mul_g (entry_of p.tensor us) (entry_of q.tensor vs)
  product_is = ap₂ mul_g first_entry (mul_one (y.entry (values y.ends k)) ∙ second_entry)

  abbrev Result : Type 0
  Result =
      (contract (parities_on fs sectors) (x ∷ y ∷ []) bonds (kept (x ∷ y ∷ []) bonds)).entry (values (kept (x ∷ y ∷ []) bonds) k)
      ≡ signed (sign (parities_on fs sectors) (x ∷ y ∷ []) bonds (kept (x ∷ y ∷ []) bonds) k) (mul_g (entry_of p.tensor us) (entry_of q.tensor vs))

  pub by_first : IsSingle x bonds → meet_on bonds k ≡ true → entry_of p.tensor us ≢ zero_g → Result
  by_first s m some =
      one_summand (parities_on fs sectors) (x ∷ y ∷ []) bonds net db x s
      (λ e i. is_in-append same_end e x.ends (y.ends ++ []) ∙ or_left (is_in same_end e x.ends) (is_in same_end e (y.ends ++ [])) i)
      (λ c z. ap (λ u. mul_g u (mul_g (y.entry (values y.ends c)) one_g)) z ∙ zero_mul (mul_g (y.entry (values y.ends c)) one_g))
      k (meets_from bonds k m) range (λ z. some (sym first_entry ∙ z))
      ∙ ap (signed (sign (parities_on fs sectors) (x ∷ y ∷ []) bonds (kept (x ∷ y ∷ []) bonds) k)) product_is

  pub by_second : IsSingle y bonds → meet_on bonds k ≡ true → entry_of q.tensor vs ≢ zero_g → Result
  by_second s m some =
      one_summand (parities_on fs sectors) (x ∷ y ∷ []) bonds net db y s
      (λ e i. is_in-append same_end e x.ends (y.ends ++ []) ∙ or_right (is_in same_end e x.ends) (is_in same_end e (y.ends ++ [])) (ap (is_in same_end e) (append-nil y.ends) ∙ i))
      (λ c z. ap (mul_g (x.entry (values x.ends c))) (ap (λ u. mul_g u one_g) z ∙ zero_mul one_g) ∙ mul_zero (x.entry (values x.ends c)))
      k (meets_from bonds k m) range (λ z. some (sym second_entry ∙ z))
      ∙ ap (signed (sign (parities_on fs sectors) (x ∷ y ∷ []) bonds (kept (x ∷ y ∷ []) bonds) k)) product_is

pub fuse_entry_law : FuseEntryLaw
fuse_entry_law fs sectors opens s before g between h behind bonds left c p q us vs sound at lines hc hp hq ru rv m which =
    ap (signed (odd_flux (nodes between) && h.node.odd)) (by which)
  where
    d : IsDistinct same_end (word (nodes (before ++ (g ∷ (between ++ (h ∷ behind))))))
    d = subst (λ gs. IsDistinct same_end (word (nodes gs))) at.0 sound.network.distinct

    dg : IsDistinct same_end g.node.ends
    dg = ends_distinct before g (between ++ (h ∷ behind)) d

    dh : IsDistinct same_end h.node.ends
    dh = ends_distinct (before ++ (g ∷ between)) h behind (subst (λ gs. IsDistinct same_end (word (nodes gs))) (sym (append_assoc before (g ∷ between) (h ∷ behind))) d)

    db : IsDistinct int_eq (labels bonds)
    db = bonds_distinct (nodes s.groups) s.left bonds left opens sound.network at.1

    net : IsNetwork (g.node ∷ h.node ∷ []) bonds (kept (g.node ∷ h.node ∷ []) bonds)
    net = local_pair (parities_on fs sectors) opens before g between h behind s.left bonds left (subst (λ gs. IsNetwork (nodes gs) s.left opens) at.0 sound.network) at.1 at.2

    plain : AreLines sectors bonds
    plain = lines_first [] sectors bonds left (lines_perm [] sectors at.1 lines)

    by : IsFusedAt c bonds g p us ⊎ IsFusedAt c bonds h q vs → Result fs sectors g.node h.node p q hp hq bonds net plain db us vs ru rv
    by (inl f) = by_first fs sectors g.node h.node p q hp hq bonds net plain db us vs ru rv (table_single fs sectors p g.node hp dg bonds at.3 c hc g.role f.0 f.1) m f.2
    by (inr f) = by_second fs sectors g.node h.node p q hp hq bonds net plain db us vs ru rv (table_single fs sectors q h.node hq dh bonds at.4 c hc h.role f.0 f.1) m f.2
