-- The states at a link ascend, and make the sectors of its leg.
use Rattle.std.proofs.Common.{◌≡◌, ℕ, suc, ℤ, ◌⊎◌, inl, inr, Bool, true, false, not, ◌&&◌, ◌||◌, cond, List, [], ◌∷◌, map, refl, sym, ◌∙◌, ap, ap₂, subst, arith}
use Rattle.std.specs.Prelude.{nat_lt}
use Rattle.std.proofs.lemmas.Bool.{or_parts, false≢true}
use Rattle.std.proofs.lemmas.Bool.Decides.{nat_tests}
use Rattle.qn_sign.specs.Sign.{is_in}
use Rattle.qn_index.specs.Legs.{SectorValue}
use Rattle.qn_opsum.specs.Strings.{Factor}
use Rattle.qn_auto.specs.Automaton.{Term, Stage, same_stage, stage, enter, stages}
use Rattle.qn_auto.specs.Automaton.Stage.{not_begun, rest, done}
use Rattle.qn_auto.specs.LinkOrder.{IsStrict, lexical, factor_lower, list_lower, kind_lower, link_order, AllLater, IsAscending, add_value, sectors_of, charges_of}
use Rattle.qn_auto.proofs.Stages.{stage_test}

-- lexical orders

module _ {A : Type 0} (lower : A → A → Bool) (strict : IsStrict lower) where
  first_tells : (a b : A) (p : Bool) → lexical lower a b p ≡ true → (lower a b ≡ true) ⊎ ((a ≡ b) × (p ≡ true))
  first_tells a b p h = go (lower a b) refl (lower b a) refl h
    where
      go : (u : Bool) → lower a b ≡ u → (v : Bool) → lower b a ≡ v → (u || (not v && p)) ≡ true → (lower a b ≡ true) ⊎ ((a ≡ b) × (p ≡ true))
      go true e v f k = inl e
      go false e true f k = absurd (false≢true k)
      go false e false f k = inr (strict.total a b e f, k)

  by_first : (a b : A) (p : Bool) → lower a b ≡ true → lexical lower a b p ≡ true
  by_first a b p e = ap (λ u. u || (not (lower b a) && p)) e

  by_rest : (a b : A) (p : Bool) → a ≡ b → p ≡ true → lexical lower a b p ≡ true
  by_rest a b p e f = subst (λ (c : A). lexical lower a c p ≡ true) e (rw (strict.itself a, f) refl)

  pub lexical_trans : (a b c : A) (p q r : Bool) → (p ≡ true → q ≡ true → r ≡ true) → lexical lower a b p ≡ true → lexical lower b c q ≡ true → lexical lower a c r ≡ true
  lexical_trans a b c p q r h k l = go (first_tells a b p k) (first_tells b c q l)
    where
      go : (lower a b ≡ true) ⊎ ((a ≡ b) × (p ≡ true)) → (lower b c ≡ true) ⊎ ((b ≡ c) × (q ≡ true)) → lexical lower a c r ≡ true
      go (inl e) (inl f) = by_first a c r (strict.trans a b c e f)
      go (inl e) (inr f) = by_first a c r (subst (λ (x : A). lower a x ≡ true) f.0 e)
      go (inr e) (inl f) = by_first a c r (subst (λ (x : A). lower x c ≡ true) (sym e.0) f)
      go (inr e) (inr f) = by_rest a c r (e.0 ∙ f.0) (h e.1 f.1)

  pub lexical_total : (a b : A) (p q : Bool) → lexical lower a b p ≡ false → lexical lower b a q ≡ false → (a ≡ b) × (p ≡ false) × (q ≡ false)
  lexical_total a b p q h k = go (lower a b) refl (lower b a) refl h k
    where
      go : (u : Bool) → lower a b ≡ u → (v : Bool) → lower b a ≡ v → (u || (not v && p)) ≡ false → (v || (not u && q)) ≡ false → (a ≡ b) × (p ≡ false) × (q ≡ false)
      go true e v f i j = absurd (false≢true (sym i))
      go false e true f i j = absurd (false≢true (sym j))
      go false e false f i j = (strict.total a b e f, i, j)

  pub lexical_itself : (a : A) (p : Bool) → p ≡ false → lexical lower a a p ≡ false
  lexical_itself a p e = rw (strict.itself a, e) refl

number_strict : IsStrict nat_lt
number_strict = record {
  itself = λ x. itself x;
  trans = λ x y z e f. trans x y z e f;
  total = λ x y e f. total x y e f;
}
  where
    itself : (x : ℕ) → nat_lt x x ≡ false
    itself x = grind (arith, nat_tests)

    trans : (x y z : ℕ) → nat_lt x y ≡ true → nat_lt y z ≡ true → nat_lt x z ≡ true
    trans x y z e f = grind (arith, nat_tests)

    total : (x y : ℕ) → nat_lt x y ≡ false → nat_lt y x ≡ false → x ≡ y
    total x y e f = grind (arith, nat_tests)

factor_strict : IsStrict factor_lower
factor_strict = record {
  itself = λ f. lexical_itself nat_lt number_strict f.site (nat_lt f.op f.op) (number_strict.itself f.op);
  trans = λ f g h d e. lexical_trans nat_lt number_strict f.site g.site h.site (nat_lt f.op g.op) (nat_lt g.op h.op) (nat_lt f.op h.op) (number_strict.trans f.op g.op h.op) d e;
  total = λ f g d e.
      let t = lexical_total nat_lt number_strict f.site g.site (nat_lt f.op g.op) (nat_lt g.op f.op) d e in
      let a = t.0 in
      let b = number_strict.total f.op g.op t.1 t.2 in
      λ i. record { site = a i; op = b i };
}

list_itself : (fs : List Factor) → list_lower fs fs ≡ false
list_itself [] = refl
list_itself (f ∷ fs) = lexical_itself factor_lower factor_strict f (list_lower fs fs) (list_itself fs)

list_trans : (fs gs hs : List Factor) → list_lower fs gs ≡ true → list_lower gs hs ≡ true → list_lower fs hs ≡ true
list_trans [] [] hs d e = absurd (false≢true d)
list_trans [] (g ∷ gs) [] d e = absurd (false≢true e)
list_trans [] (g ∷ gs) (h ∷ hs) d e = refl
list_trans (f ∷ fs) [] hs d e = absurd (false≢true d)
list_trans (f ∷ fs) (g ∷ gs) [] d e = absurd (false≢true e)
list_trans (f ∷ fs) (g ∷ gs) (h ∷ hs) d e =
    lexical_trans factor_lower factor_strict f g h (list_lower fs gs) (list_lower gs hs) (list_lower fs hs) (list_trans fs gs hs) d e

list_total : (fs gs : List Factor) → list_lower fs gs ≡ false → list_lower gs fs ≡ false → fs ≡ gs
list_total [] [] d e = refl
list_total [] (g ∷ gs) d e = absurd (false≢true (sym d))
list_total (f ∷ fs) [] d e = absurd (false≢true (sym e))
list_total (f ∷ fs) (g ∷ gs) d e =
    let t = lexical_total factor_lower factor_strict f g (list_lower fs gs) (list_lower gs fs) d e in
    ap₂ ◌∷◌ t.0 (list_total fs gs t.1 t.2)

pub kind_itself : (x : Stage) → kind_lower x x ≡ false
kind_itself not_begun = refl
kind_itself (rest fs) = list_itself fs
kind_itself done = refl

pub kind_trans : (x y z : Stage) → kind_lower x y ≡ true → kind_lower y z ≡ true → kind_lower x z ≡ true
kind_trans not_begun not_begun z d e = absurd (false≢true d)
kind_trans not_begun (rest gs) not_begun d e = absurd (false≢true e)
kind_trans not_begun (rest gs) (rest hs) d e = refl
kind_trans not_begun (rest gs) done d e = refl
kind_trans not_begun done not_begun d e = absurd (false≢true e)
kind_trans not_begun done (rest hs) d e = absurd (false≢true e)
kind_trans not_begun done done d e = absurd (false≢true e)
kind_trans (rest fs) not_begun z d e = absurd (false≢true d)
kind_trans (rest fs) (rest gs) not_begun d e = absurd (false≢true e)
kind_trans (rest fs) (rest gs) (rest hs) d e = list_trans fs gs hs d e
kind_trans (rest fs) (rest gs) done d e = refl
kind_trans (rest fs) done not_begun d e = absurd (false≢true e)
kind_trans (rest fs) done (rest hs) d e = absurd (false≢true e)
kind_trans (rest fs) done done d e = absurd (false≢true e)
kind_trans done not_begun z d e = absurd (false≢true d)
kind_trans done (rest gs) z d e = absurd (false≢true d)
kind_trans done done z d e = absurd (false≢true d)

pub kind_total : (x y : Stage) → kind_lower x y ≡ false → kind_lower y x ≡ false → x ≡ y
kind_total not_begun not_begun d e = refl
kind_total not_begun (rest gs) d e = absurd (false≢true (sym d))
kind_total not_begun done d e = absurd (false≢true (sym d))
kind_total (rest fs) not_begun d e = absurd (false≢true (sym e))
kind_total (rest fs) (rest gs) d e = ap rest (list_total fs gs d e)
kind_total (rest fs) done d e = absurd (false≢true (sym d))
kind_total done not_begun d e = absurd (false≢true (sym e))
kind_total done (rest gs) d e = absurd (false≢true (sym e))
kind_total done done d e = refl

module _ (lower : List ℤ → List ℤ → Bool) (strict : IsStrict lower) (charge : Stage → List ℤ) where
  abbrev order : Stage → Stage → Bool
  order = link_order lower charge

  pub order_strict : IsStrict order
  order_strict = record {
    itself = λ x. lexical_itself lower strict (charge x) (kind_lower x x) (kind_itself x);
    trans = λ x y z d e. lexical_trans lower strict (charge x) (charge y) (charge z) (kind_lower x y) (kind_lower y z) (kind_lower x z) (kind_trans x y z) d e;
    total = λ x y d e.
        let t = lexical_total lower strict (charge x) (charge y) (kind_lower x y) (kind_lower y x) d e in
        kind_total x y t.1 t.2;
  }

  -- a state in its place

  later_trans : (x y : Stage) (zs : List Stage) → order x y ≡ true → AllLater order y zs → AllLater order x zs
  later_trans x y [] e h = tt
  later_trans x y (z ∷ zs) e h = (order_strict.trans x y z e h.0, later_trans x y zs e h.1)

  later_enter : (y x : Stage) (zs : List Stage) → order y x ≡ true → AllLater order y zs → AllLater order y (enter order x zs)
  later_enter y x [] e h = (e, tt)
  later_enter y x (z ∷ zs) e h = go (order x z) (later_enter y x zs e h.1)
    where
      go : (b : Bool) → AllLater order y (enter order x zs) → AllLater order y (cond b (x ∷ z ∷ zs) (z ∷ enter order x zs))
      go true ih = (e, h)
      go false ih = (h.0, ih)

  ascending_enter : (x : Stage) (ys : List Stage) → is_in same_stage x ys ≡ false → IsAscending order ys → IsAscending order (enter order x ys)
  ascending_enter x [] n a = (tt, tt)
  ascending_enter x (y ∷ ys) n a =
      let p = or_parts (same_stage x y) (is_in same_stage x ys) n in
      go (order x y) refl (order y x) refl p.0 (ascending_enter x ys p.1 a.1)
    where
      go : (b : Bool) → order x y ≡ b → (c : Bool) → order y x ≡ c → same_stage x y ≡ false → IsAscending order (enter order x ys) →
          IsAscending order (cond b (x ∷ y ∷ ys) (y ∷ enter order x ys))
      go true e c f s ih = ((e, later_trans x y ys e a.0), a)
      go false e true f s ih = (later_enter y x ys f a.0, ih)
      go false e false f s ih =
          absurd (false≢true (sym s ∙ subst (λ z. same_stage x z ≡ true) (order_strict.total x y e f) (stage_test.itself x)))

  pub stages_ascend : (ws : List Term) (j : ℕ) → IsAscending order (stages order ws j)
  stages_ascend [] j = tt
  stages_ascend (w ∷ ws) j = go (is_in same_stage (stage j w.factors) (stages order ws j)) refl (stages_ascend ws j)
    where
      go : (b : Bool) → is_in same_stage (stage j w.factors) (stages order ws j) ≡ b → IsAscending order (stages order ws j) →
          IsAscending order (cond b (stages order ws j) (enter order (stage j w.factors) (stages order ws j)))
      go true e ih = ih
      go false e ih = ascending_enter (stage j w.factors) (stages order ws j) e ih

  -- the sectors

  -- the first sector does not come before the charge q
  abbrev NotBefore : List ℤ → List SectorValue → Type 0
  NotBefore q [] = Unit {0}
  NotBefore q (s ∷ ss) = lower s.charge q ≡ false

  abbrev BeginsWith : List ℤ → List SectorValue → Type 0
  BeginsWith q [] = ⊥
  BeginsWith q (s ∷ ss) = s.charge ≡ q

  abbrev sector_charges : List SectorValue → List (List ℤ)
  sector_charges ss = map (λ (s : SectorValue). s.charge) ss

  charges_later : (q p : List ℤ) (ps : List (List ℤ)) → lower q p ≡ true → AllLater lower p ps → AllLater lower q ps
  charges_later q p [] e h = tt
  charges_later q p (r ∷ ps) e h = (strict.trans q p r e h.0, charges_later q p ps e h.1)

  one_value : (q : List ℤ) (ss : List SectorValue) (qs : List (List ℤ)) → NotBefore q ss → IsAscending lower (sector_charges ss) → charges_of ss ≡ qs →
      BeginsWith q (add_value lower q ss) × IsAscending lower (sector_charges (add_value lower q ss)) × (charges_of (add_value lower q ss) ≡ q ∷ qs)
  one_value q [] qs n a e = (refl, (tt, tt), ap (λ ps. q ∷ ps) e)
  one_value q (s ∷ ss) qs n a e = go (lower q s.charge) refl
    where
      go : (b : Bool) → lower q s.charge ≡ b →
          BeginsWith q (cond b (record { charge = q; dim = 1 } ∷ s ∷ ss) (record { charge = s.charge; dim = suc s.dim } ∷ ss))
          × IsAscending lower (sector_charges (cond b (record { charge = q; dim = 1 } ∷ s ∷ ss) (record { charge = s.charge; dim = suc s.dim } ∷ ss)))
          × (charges_of (cond b (record { charge = q; dim = 1 } ∷ s ∷ ss) (record { charge = s.charge; dim = suc s.dim } ∷ ss)) ≡ q ∷ qs)
      go true f = (refl, ((f, charges_later q s.charge (sector_charges ss) f a.0), a), ap (λ ps. q ∷ ps) e)
      go false f = (strict.total s.charge q n f, a, ap₂ ◌∷◌ (strict.total s.charge q n f) e)

  -- a later state has no lower charge
  not_lower : (x y : Stage) → order x y ≡ true → lower (charge y) (charge x) ≡ false
  not_lower x y h = tells (lower (charge x) (charge y)) refl (lower (charge y) (charge x)) refl h
    where
      tells : (u : Bool) → lower (charge x) (charge y) ≡ u → (v : Bool) → lower (charge y) (charge x) ≡ v → (u || (not v && kind_lower x y)) ≡ true → v ≡ false
      tells u e false f k = refl
      tells true e true f k = absurd (false≢true (sym (strict.itself (charge x)) ∙ strict.trans (charge x) (charge y) (charge x) e f))
      tells false e true f k = absurd (false≢true k)

  abbrev sectors : List Stage → List SectorValue
  sectors xs = sectors_of lower (map charge xs)

  -- the sectors of a list begin with the charge of its first state
  starts : (y : Stage) (ys : List Stage) → IsAscending order (y ∷ ys) → BeginsWith (charge y) (sectors (y ∷ ys))
  starts y [] a = refl
  starts y (z ∷ zs) a = go (sectors (z ∷ zs)) (starts z zs a.1)
    where
      go : (ss : List SectorValue) → BeginsWith (charge z) ss → BeginsWith (charge y) (add_value lower (charge y) ss)
      go [] b = refl
      go (s ∷ ss) b = at (lower (charge y) s.charge) refl
        where
          at : (c : Bool) → lower (charge y) s.charge ≡ c →
              BeginsWith (charge y) (cond c (record { charge = charge y; dim = 1 } ∷ s ∷ ss) (record { charge = s.charge; dim = suc s.dim } ∷ ss))
          at true e = refl
          at false e = strict.total s.charge (charge y) (ap (λ q. lower q (charge y)) b ∙ not_lower y z a.0.0) e

  pub sector_facts : (xs : List Stage) → IsAscending order xs →
      IsAscending lower (sector_charges (sectors xs)) × (charges_of (sectors xs) ≡ map charge xs)
  sector_facts [] a = (tt, refl)
  sector_facts (x ∷ xs) a =
      let ih = sector_facts xs a.1 in
      let f = one_value (charge x) (sectors xs) (map charge xs) (before xs a) ih.0 ih.1 in
      (f.1, f.2)
    where
      begins : (y : Stage) (ys : List Stage) (ss : List SectorValue) → BeginsWith (charge y) ss → order x y ≡ true → NotBefore (charge x) ss
      begins y ys [] b h = tt
      begins y ys (s ∷ ss) b h = ap (λ q. lower q (charge x)) b ∙ not_lower x y h

      before : (ys : List Stage) → AllLater order x ys × IsAscending order ys → NotBefore (charge x) (sectors ys)
      before [] h = tt
      before (y ∷ ys) h = begins y ys (sectors (y ∷ ys)) (starts y ys h.1) h.0.0
