-- Operators and sites that are made from what was tested.
use Rattle.std.proofs.Common.{◌≡◌, ◌≢◌, ℕ, ℤ, pos, zero, suc, ◌+◌, ◌*◌, ◌/◌, ◌%◌, ◌==◌, ◌&&◌, ◌≤◌, ◌<◌, List, [], ◌∷◌, ◌++◌, ◌⊎◌, inl, inr, length, get_or, map, take, drop, arith, refl, ap, ap₂, ◌∙◌, sym, subst, Bool, true, false, cond}
use Rattle.std.specs.Prelude.{nat_lt}
use Rattle.std.specs.Cmp.{signed_Decides, unsigned_Decides}
use Rattle.std.specs.Ordering.{int_eq}
use Rattle.std.specs.List.{All, range_with_len}
use Rattle.std.proofs.lemmas.Bool.{false≢true, cases_lt}
use Rattle.std.proofs.lemmas.Bool.Decides.{nat_tests}
use Rattle.std.proofs.lemmas.Nat.{div-mul-add, mod-mul-add, mul-add-lt}
use Rattle.std.proofs.lemmas.List.{get_or_default, get_or-map, length-map, length-take-le, map-append, map_more, take_all}
use Rattle.std.proofs.lemmas.List.Elements.{All-append, All-cons, All-map, All-nil}
use Rattle.std.proofs.lemmas.List.FromFn.{get_or-map-range_with_len, length-map-range_with_len, map-range_with_len_more}
use Rattle.qn_gauss.specs.Gaussian.{Gaussian, zero_g, one_g}
use Rattle.qn_charge.specs.declared.factor.Factor.{Factor}
use Rattle.qn_charge.specs.Charges.{IsGroup, IsCanonical, IsWithin, sum_charge, neg_charge, zero_charge}
use Rattle.qn_charge.specs.Firsts.{HasNone, OutOfRange}
use Rattle.qn_charge.specs.Laws.{in_range, canonical_zero, within_zero, commutative_charge, neg_is_inverse}
use Rattle.qn_index.specs.Legs.{LegValue, SectorValue, IsLeg, charge_at, total}
use Rattle.qn_sites.specs.Operators.{OpValue, IsSiteLeg, IsOperator, carried, element}
use Rattle.qn_sites.specs.Sites.{GivenOp, AreAscending, IsOn, IsSite, identity_name, identity_on, names, op_on, set_in, site_with, unit_table}
use Rattle.qn_sites.specs.declared.fault.SiteFault.TheVariants.{OpCharge}
use Rattle.qn_sites.specs.Refusals.{BadEntry, BadHead, IsClean, IsFaultPlace, IsOffCharge, IsOwnFault, no_op}
use Rattle.qn_sites.proofs.Ascents.{from_pairs, set_contains, set_length, set_ops, set_rises, to_pairs}

-- a number that can't differ from 0 is 0
pub zero_stable : (z : Gaussian) → (z ≢ zero_g → ⊥) → z ≡ zero_g
unfolding zero_g
zero_stable z h = by (int_eq z.re (pos 0)) refl (int_eq z.im (pos 0)) refl
  where
    by : (b : Bool) → int_eq z.re (pos 0) ≡ b → (c : Bool) → int_eq z.im (pos 0) ≡ c → z ≡ record { re = pos 0; im = pos 0 }
    by true e true k =
        let re : z.re ≡ pos 0 = (signed_Decides z.re (pos 0)).0 e in
        let im : z.im ≡ pos 0 = (signed_Decides z.im (pos 0)).0 k in
        let first : ℤ → Gaussian = λ x. record { re = x; im = z.im } in
        let second : ℤ → Gaussian = λ y. record { re = pos 0; im = y } in
        ap first re ∙ ap second im
    by true e false k = absurd (h (λ q. false≢true (sym k ∙ (signed_Decides z.im (pos 0)).1 (ap (λ (x : Gaussian). x.im) q))))
    by false e c k = absurd (h (λ q. false≢true (sym e ∙ (signed_Decides z.re (pos 0)).1 (ap (λ (x : Gaussian). x.re) q))))

in_square : (r c d : ℕ) → r < d → c < d → r * d + c < d * d
in_square r c d l h = mul-add-lt r d c d l h

-- the entry of a table given by a function of its rows and columns
table_at : (f : ℕ → ℕ → Gaussian) (d r c : ℕ) → r < d → c < d → get_or (map (λ k. f (k / d) (k % d)) (range_with_len 0 (d * d))) (r * d + c) zero_g ≡ f r c
table_at f d r c l h =
    get_or-map-range_with_len (λ k. f (k / d) (k % d)) 0 (d * d) (r * d + c) (r * d + c) zero_g (in_square r c d l h) (omega arith)
    ∙ (ap (λ x. f x ((r * d + c) % d)) (div-mul-add r d c h) ∙ ap (f r) (mod-mul-add r d c h))

-- an entry in the table, or 0
element_in : (o : OpValue) (r c : ℕ) → (P : Gaussian → Type 0) → P zero_g →
    (r < total o.leg.sectors → c < total o.leg.sectors → P (get_or o.entries (r * total o.leg.sectors + c) zero_g)) → P (element o r c)
element_in o r c P out inside = by (nat_lt r (total o.leg.sectors)) refl (nat_lt c (total o.leg.sectors)) refl
  where
    below : (x y : ℕ) → nat_lt x y ≡ true → x < y
    below x y e = grind (arith, nat_tests)

    by : (a : Bool) → nat_lt r (total o.leg.sectors) ≡ a → (b : Bool) → nat_lt c (total o.leg.sectors) ≡ b →
        P (cond (a && b) (get_or o.entries (r * total o.leg.sectors + c) zero_g) zero_g)
    by true e true h = inside (below r (total o.leg.sectors) e) (below c (total o.leg.sectors) h)
    by true e false h = out
    by false e b h = out

-- an operator in which nothing is at fault
pub clean_operator : (fs : List Factor) (l : LegValue) (g : GivenOp) → IsGroup fs → IsSiteLeg fs l → length g.charge ≡ length fs →
    length g.entries ≡ total l.sectors * total l.sectors → IsClean fs l g → IsOperator (op_on fs l g)
clean_operator fs l g group leg arity full clean =
    let charge = in_range 10000000 fs g.charge arity (λ i out. clean.head (inr (i, out))) in
    record {
      group = group;
      leg = leg;
      canonical = charge.0;
      within = charge.1;
      full = full;
      conserves = λ r c ne. element_in (op_on fs l g) r c (λ z. z ≡ zero_g) refl (λ lr lc.
          zero_stable (get_or g.entries (r * total l.sectors + c) zero_g)
          (λ some. clean.entries (r * total l.sectors + c) (
            subst (λ n. r * total l.sectors + c < n) (sym full) (in_square r c (total l.sectors) lr lc),
            record {
              some = some;
              other = subst (λ x. carried fs l.sectors x ((r * total l.sectors + c) % total l.sectors) ≢ g.charge) (sym (div-mul-add r (total l.sectors) c lc))
                  (subst (λ y. carried fs l.sectors r y ≢ g.charge) (sym (mod-mul-add r (total l.sectors) c lc)) ne);
            },
          )));
    }

-- an entry of the identity
pub unit_at : (d r c : ℕ) → r < d → c < d → get_or (unit_table d) (r * d + c) zero_g ≡ cond (r == c) one_g zero_g
unit_at d r c l h = table_at (λ x y. cond (x == y) one_g zero_g) d r c l h

-- the identity is an operator
pub identity_operator : (fs : List Factor) (l : LegValue) → IsGroup fs → IsSiteLeg fs l → IsOperator (identity_on fs l)
identity_operator fs l group leg =
    record {
      group = group;
      leg = leg;
      canonical = canonical_zero fs group;
      within = within_zero 10000000 fs;
      full = length-map-range_with_len (λ k. cond (k / total l.sectors == k % total l.sectors) one_g zero_g) 0 (total l.sectors * total l.sectors);
      conserves = λ r c ne. element_in (identity_on fs l) r c (λ z. z ≡ zero_g) refl (λ lr lc.
          unit_at (total l.sectors) r c lr lc ∙ ap (λ b. cond b one_g zero_g) (differ r c ne));
    }
  where
    same_charge : (r : ℕ) → carried fs l.sectors r r ≡ zero_charge fs
    same_charge r = commutative_charge fs (charge_at l.sectors r) (neg_charge fs (charge_at l.sectors r)) ∙ neg_is_inverse fs (charge_at l.sectors r) group

    differ : (r c : ℕ) → carried fs l.sectors r c ≢ zero_charge fs → (r == c) ≡ false
    differ r c ne = test (r == c) refl
      where
        test : (b : Bool) → (r == c) ≡ b → b ≡ false
        test false e = refl
        test true e = absurd (ne (subst (λ x. carried fs l.sectors r x ≡ zero_charge fs) ((unsigned_Decides r c).0 e) (same_charge r)))

-- operators, none of them called as the identity, and the identity set in: a site
pub site_is : (fs : List Factor) (l : LegValue) (os : List OpValue) → IsGroup fs → IsSiteLeg fs l → length os ≤ 64 → AreAscending (names os) →
    All (IsOn fs l) os → All (λ n. n ≢ identity_name) (names os) → IsSite (record { group = fs; leg = l; ops = set_in (identity_on fs l) os })
site_is fs l os group leg few rise on named =
    record {
      group = group;
      leg = leg;
      ops = set_ops (IsOn fs l) (identity_on fs l) os (record { group = refl; leg = refl; operator = identity_operator fs l group leg }) on;
      few = let n = set_length (identity_on fs l) os in omega arith;
      ascending = from_pairs (names (set_in (identity_on fs l) os)) (set_rises (identity_on fs l) os (to_pairs (names os) rise) named);
      identity = set_contains (identity_on fs l) os;
    }

-- a leg has a value
pub leg_some : (ps : List SectorValue) → IsLeg ps → 0 < total ps
leg_some [] h = absurd (omega (arith, h.some))
leg_some (p ∷ ps) h = let first : 0 < p.dim = (h.dims 0 p (omega arith)).0 in omega arith

-- one entry more of a table given by a function
pub table_more : (f : ℕ → Gaussian) (n : ℕ) (zs : List Gaussian) (z : Gaussian) → zs ≡ map f (range_with_len 0 n) → z ≡ f n → zs ++ z ∷ [] ≡ map f (range_with_len 0 (n + 1))
table_more f n zs z e h = ap₂ (λ ys y. ys ++ y ∷ []) e h ∙ sym (map-range_with_len_more f 0 n n (omega arith))

-- the entry of the identity
pub unit_same : (r c : ℕ) → r ≡ c → one_g ≡ cond (r == c) one_g zero_g
unit_same r c e = ap (λ b. cond b one_g zero_g) (sym ((unsigned_Decides r c).1 e))

pub unit_other : (r c : ℕ) → r ≢ c → zero_g ≡ cond (r == c) one_g zero_g
unit_other r c ne = by (r == c) refl
  where
    by : (b : Bool) → (r == c) ≡ b → zero_g ≡ cond b one_g zero_g
    by true e = absurd (ne ((unsigned_Decides r c).0 e))
    by false e = refl

-- ---- operators tested one after another

-- the first n of these operators are tested, and these were made of them
pub record IsTested (fs : List Factor) (l : LegValue) (gs : List GivenOp) (n : ℕ) (os : List OpValue) : Type 0 where
  pub items : os ≡ map (op_on fs l) (take n gs)
  pub on : All (IsOn fs l) os
  pub named : All (λ m. m ≢ identity_name) (names os)
  pub clean : (j : ℕ) → j < n → IsClean fs l (get_or gs j no_op)

pub tested_first : (fs : List Factor) (l : LegValue) (gs : List GivenOp) (os : List OpValue) → os ≡ [] → IsTested fs l gs 0 os
tested_first fs l gs os e =
    record {
      items = e;
      on = subst (All (IsOn fs l)) (sym e) (All-nil (IsOn fs l));
      named = subst (λ ps. All (λ m. m ≢ identity_name) (names ps)) (sym e) (All-nil (λ m. m ≢ identity_name));
      clean = λ j lt. absurd (omega arith);
    }

pub tested_more : (fs : List Factor) (l : LegValue) (gs : List GivenOp) (n : ℕ) (g : GivenOp) (os new : List OpValue) → IsTested fs l gs n os → n < length gs → g ≡ get_or gs n g →
    IsClean fs l g → IsOperator (op_on fs l g) → new ≡ os ++ op_on fs l g ∷ [] → IsTested fs l gs (n + 1) new
tested_more fs l gs n g os new t lt is clean op e =
    record {
      items = e ∙ (ap₂ (λ ps h. ps ++ op_on fs l h ∷ []) t.items is ∙ sym (map_more (op_on fs l) gs n g lt));
      on = subst (All (IsOn fs l)) (sym e) (All-append (IsOn fs l) os (op_on fs l g ∷ []) t.on (All-cons (IsOn fs l) (op_on fs l g) [] (record { group = refl; leg = refl; operator = op }) (All-nil (IsOn fs l))));
      named = subst (λ ps. All (λ m. m ≢ identity_name) (names ps)) (sym e)
          (subst (All (λ m. m ≢ identity_name)) (sym (map-append (λ (o : OpValue). o.name) os (op_on fs l g ∷ [])))
          (All-append (λ m. m ≢ identity_name) (names os) (g.name ∷ []) t.named
          (All-cons (λ m. m ≢ identity_name) g.name [] (λ same. clean.head (inl same)) (All-nil (λ m. m ≢ identity_name)))));
      clean = λ j less. by j less (cases_lt j n);
    }
  where
    here : IsClean fs l (get_or gs n no_op)
    here = subst (IsClean fs l) (is ∙ get_or_default gs n g no_op lt) clean

    by : (j : ℕ) → j < n + 1 → (j < n) ⊎ (n ≤ j) → IsClean fs l (get_or gs j no_op)
    by j less (inl low) = t.clean j low
    by j less (inr high) = let same : n ≡ j = omega arith in subst (λ k. IsClean fs l (get_or gs k no_op)) same here

pub tested_all : (fs : List Factor) (l : LegValue) (gs : List GivenOp) (n : ℕ) (os : List OpValue) → IsTested fs l gs n os → n ≡ length gs → os ≡ map (op_on fs l) gs
tested_all fs l gs n os t e = t.items ∙ ap (map (op_on fs l)) (ap (λ k. take k gs) e ∙ take_all (length gs) gs (omega arith))

faulty : (fs : List Factor) (l : LegValue) (g : GivenOp) (p : ℕ) → IsFaultPlace fs l g p → IsClean fs l g → ⊥
faulty fs l g zero f clean = clean.head f
faulty fs l g (suc k) f clean = clean.entries k f.1.here

pub tested_fault : (fs : List Factor) (l : LegValue) (gs : List GivenOp) (n : ℕ) (g : GivenOp) (os : List OpValue) (p : ℕ) → IsTested fs l gs n os → n < length gs → g ≡ get_or gs n g →
    IsFaultPlace fs l g p → IsOwnFault fs l gs (OpCharge (length os) p)
tested_fault fs l gs n g os p t lt is f =
    subst (λ k. IsOwnFault fs l gs (OpCharge k p)) (sym count)
    (record { here = (lt, faulty fs l (get_or gs n no_op) p place); before = λ j less bad. bad.1 (t.clean j less) }, place)
  where
    place : IsFaultPlace fs l (get_or gs n no_op) p
    place = subst (λ h. IsFaultPlace fs l h p) (is ∙ get_or_default gs n g no_op lt) f

    count : length os ≡ n
    count = ap length t.items ∙ (length-map (take n gs) (op_on fs l) ∙ length-take-le n gs (omega arith))

-- the first of what is left
pub drop_head : {X : Type 0} (xs : List X) (n : ℕ) (z : X) (zs : List X) → z ∷ zs ≡ drop n xs → (n < length xs) × (z ≡ get_or xs n z) × (zs ≡ drop (n + 1) xs)
drop_head [] zero z zs e = absurd (omega (arith, ap length e))
drop_head [] (suc n) z zs e = absurd (omega (arith, ap length e))
drop_head (x ∷ xs) zero z zs e = (omega arith, ap (λ l. get_or l 0 z) e, ap (drop 1) e)
drop_head (x ∷ xs) (suc n) z zs e = let ih = drop_head xs n z zs e in (omega (arith, ih.0), ih.1, subst (λ k. zs ≡ drop k (x ∷ xs)) (next n) ih.2)
  where
    next : (n : ℕ) → suc (n + 1) ≡ suc n + 1
    next n = omega arith

-- the same of a list that is read by a function
pub read_head : {X Y : Type 0} (xs : List X) (f : X → Y) (n : ℕ) (z : X) (zs : List X) → z ∷ zs ≡ drop n xs → (n < length (map f xs)) × (f z ≡ get_or (map f xs) n (f z))
read_head xs f n z zs e =
    let head = drop_head xs n z zs e in
    (subst (λ k. n < k) (sym (length-map xs f)) head.0, ap f head.1 ∙ sym (get_or-map f xs n z (f z) head.0))

-- the names of operators on a leg are those that were given
pub names_given : {X : Type 0} (fs : List Factor) (l : LegValue) (xs : List X) (f : X → GivenOp) → names (map (op_on fs l) (map f xs)) ≡ map (λ x. (f x).name) xs
names_given fs l [] f = refl
names_given fs l (x ∷ xs) f = ap (λ ns. (f x).name ∷ ns) (names_given fs l xs f)
