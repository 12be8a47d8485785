use Rattle.std.proofs.Common.{◌≡◌, Bool, true, false, not, ◌&&◌, ◌||◌, cond, List, [], ◌∷◌, ◌++◌, refl, sym, ◌∙◌, ap, subst, filter, arith}
use Rattle.std.proofs.lemmas.Bool.{or_left, or_right, false≢true}
use Rattle.qn_sign.specs.Sign.{is_in, stands_before, IsTest, IsDistinct, Perm}
use Rattle.qn_sign.specs.Sign.Perm.{none, keep, swap, then_by}
use Rattle.qn_sign.proofs.Parity.{perm_blocks, perm-refl, perm-sym}
use Rattle.qn_sign.proofs.Order.{is_in-append, is_in-perm, distinct-perm, distinct_second, distinct_parts}

-- the list without the first x
abbrev pub without : {E : Type 0} → (E → E → Bool) → E → List E → List E
without same x [] = []
without same x (z ∷ zs) = cond (same x z) zs (z ∷ without same x zs)

module _ {E : Type 0} (same : E → E → Bool) (law : IsTest same) where
  pub perm-without : (x : E) (zs : List E) → is_in same x zs ≡ true → Perm zs (x ∷ without same x zs)
  perm-without x [] h = absurd (false≢true h)
  perm-without x (z ∷ zs) h = go (same x z) refl (perm-without x zs) h
    where
      go : (b : Bool) → same x z ≡ b → (is_in same x zs ≡ true → Perm zs (x ∷ without same x zs)) → (b || is_in same x zs) ≡ true →
          Perm (z ∷ zs) (x ∷ cond b zs (z ∷ without same x zs))
      go true e ih k = subst (λ w. Perm (z ∷ zs) (w ∷ zs)) (sym (law.equal x z e)) (perm-refl (z ∷ zs))
      go false e ih k = then_by (keep (ih k)) swap

  -- two lists with no repeats that have the same elements
  pub perm_from_members : (xs ys : List E) → IsDistinct same xs → IsDistinct same ys → ((e : E) → is_in same e xs ≡ is_in same e ys) → Perm xs ys
  perm_from_members [] [] dx dy h = none
  perm_from_members [] (y ∷ ys) dx dy h = absurd (false≢true (h y ∙ or_left (same y y) (is_in same y ys) (law.itself y)))
  perm_from_members (x ∷ xs) ys dx dy h =
      let inside : is_in same x ys ≡ true = sym (h x) ∙ or_left (same x x) (is_in same x xs) (law.itself x) in
      let p = perm-without x ys inside in
      let d = distinct-perm same law p dy in
      then_by (keep (perm_from_members xs (without same x ys) dx.1 d.1 (λ e. members (without same x ys) d (λ w. h w ∙ is_in-perm same w p) e))) (perm-sym p)
    where
      members : (zs : List E) → IsDistinct same (x ∷ zs) → ((e : E) → (same e x || is_in same e xs) ≡ (same e x || is_in same e zs)) → (e : E) → is_in same e xs ≡ is_in same e zs
      members zs d g e = go (same e x) refl (g e)
        where
          go : (b : Bool) → same e x ≡ b → (b || is_in same e xs) ≡ (b || is_in same e zs) → is_in same e xs ≡ is_in same e zs
          go false f k = k
          go true f k =
              subst (λ w. is_in same w xs ≡ is_in same w zs) (sym (law.equal e x f)) (dx.0 ∙ sym d.0)

  -- a common first part may be left out
  pub perm_cancel : (s u v : List E) → IsDistinct same (s ++ u) → Perm (s ++ u) (s ++ v) → Perm u v
  perm_cancel s u v d p =
      perm_from_members u v (distinct_second same s u d) (distinct_second same s v dv) (λ e. go e (is_in same e s) refl)
    where
      dv : IsDistinct same (s ++ v)
      dv = distinct-perm same law p d

      go : (e : E) (b : Bool) → is_in same e s ≡ b → is_in same e u ≡ is_in same e v
      go e true f = distinct_parts same law e s u d f ∙ sym (distinct_parts same law e s v dv f)
      go e false f =
          rest e u f ∙ is_in-perm same e p ∙ sym (rest e v f)
        where
          rest : (e : E) (l : List E) → is_in same e s ≡ false → is_in same e l ≡ is_in same e (s ++ l)
          rest e l f = sym (is_in-append same e s l ∙ ap (λ b. b || is_in same e l) f)

  -- what passes a test

  pub is_in-filter : (p : E → Bool) (e : E) (zs : List E) → is_in same e (filter p zs) ≡ (p e && is_in same e zs)
  is_in-filter p e [] = and_false (p e)
    where
      and_false : (b : Bool) → false ≡ (b && false)
      and_false b = grind arith
  is_in-filter p e (z ∷ zs) = go (p z) refl (is_in-filter p e zs)
    where
      keep_it : (a b c r : Bool) → r ≡ (b && c) → (a ≡ true → b ≡ true) → (a || r) ≡ (b && (a || c))
      keep_it true b c r e h = rw (h refl) refl
      keep_it false b c r e h = e

      drop_it : (a b c r : Bool) → r ≡ (b && c) → (a ≡ true → b ≡ false) → r ≡ (b && (a || c))
      drop_it true b c r e h = e ∙ ap (λ x. x && c) (h refl) ∙ sym (ap (λ x. x && true) (h refl))
      drop_it false b c r e h = e

      tells : (b : Bool) → p z ≡ b → same e z ≡ true → p e ≡ b
      tells b f g = ap p (law.equal e z g) ∙ f

      go : (b : Bool) → p z ≡ b → is_in same e (filter p zs) ≡ (p e && is_in same e zs) →
          is_in same e (cond b (z ∷ filter p zs) (filter p zs)) ≡ (p e && (same e z || is_in same e zs))
      go true f ih = keep_it (same e z) (p e) (is_in same e zs) (is_in same e (filter p zs)) ih (tells true f)
      go false f ih = drop_it (same e z) (p e) (is_in same e zs) (is_in same e (filter p zs)) ih (tells false f)

  pub distinct-filter : (p : E → Bool) (zs : List E) → IsDistinct same zs → IsDistinct same (filter p zs)
  distinct-filter p [] d = tt
  distinct-filter p (z ∷ zs) d = go (p z) (distinct-filter p zs d.1)
    where
      none_of : (a b : Bool) → b ≡ false → (a && b) ≡ false
      none_of a b e = grind arith

      go : (b : Bool) → IsDistinct same (filter p zs) → IsDistinct same (cond b (z ∷ filter p zs) (filter p zs))
      go true ih = (is_in-filter p z zs ∙ none_of (p z) (is_in same z zs) d.0, ih)
      go false ih = ih

  pub before-filter : (p : E → Bool) (x y : E) (zs : List E) → p x ≡ true → p y ≡ true → stands_before same (filter p zs) x y ≡ stands_before same zs x y
  before-filter p x y [] h k = refl
  before-filter p x y (z ∷ zs) h k = go (p z) refl (before-filter p x y zs h k)
    where
      other : (w : E) → p w ≡ true → p z ≡ false → same w z ≡ false
      other w e f = at (same w z) refl
        where
          at : (b : Bool) → same w z ≡ b → b ≡ false
          at false g = refl
          at true g = sym e ∙ ap p (law.equal w z g) ∙ f

      skip : (a b r s : Bool) → a ≡ false → b ≡ false → r ≡ s → r ≡ (not a && (b || s))
      skip a b r s e f g = grind arith

      go : (b : Bool) → p z ≡ b → stands_before same (filter p zs) x y ≡ stands_before same zs x y →
          stands_before same (cond b (z ∷ filter p zs) (filter p zs)) x y ≡ (not (same y z) && (same x z || stands_before same zs x y))
      go true f ih = ap (λ r. not (same y z) && (same x z || r)) ih
      go false f ih = skip (same y z) (same x z) (stands_before same (filter p zs) x y) (stands_before same zs x y) (other y k f) (other x h f) ih

  -- the elements of a list with no repeats are some of them, and the others in order
  pub perm_pick : (zs s : List E) → IsDistinct same zs → IsDistinct same s → ((e : E) → is_in same e s ≡ true → is_in same e zs ≡ true) →
      Perm zs (s ++ filter (λ e. not (is_in same e s)) zs)
  perm_pick zs s dz ds h = perm_from_members zs (s ++ filter (λ e. not (is_in same e s)) zs) dz (joined s ds (λ e k. k)) members
    where
      members : (e : E) → is_in same e zs ≡ is_in same e (s ++ filter (λ x. not (is_in same x s)) zs)
      members e =
          split (is_in same e zs) (is_in same e s) (h e)
          ∙ ap (λ b. is_in same e s || b) (sym (is_in-filter (λ x. not (is_in same x s)) e zs))
          ∙ sym (is_in-append same e s (filter (λ x. not (is_in same x s)) zs))
        where
          split : (a b : Bool) → (b ≡ true → a ≡ true) → a ≡ (b || (not b && a))
          split a true k = k refl
          split a false k = refl

      joined : (t : List E) → IsDistinct same t → ((e : E) → is_in same e t ≡ true → is_in same e s ≡ true) → IsDistinct same (t ++ filter (λ x. not (is_in same x s)) zs)
      joined [] d k = distinct-filter (λ x. not (is_in same x s)) zs dz
      joined (x ∷ t) d k = (
        is_in-append same x t (filter (λ w. not (is_in same w s)) zs)
            ∙ ap (λ b. b || is_in same x (filter (λ w. not (is_in same w s)) zs)) d.0
            ∙ is_in-filter (λ w. not (is_in same w s)) x zs
            ∙ gone (is_in same x s) (is_in same x zs) (k x (or_left (same x x) (is_in same x t) (law.itself x))),
        joined t d.1 (λ e l. k e (or_right (same e x) (is_in same e t) l)),
      )
        where
          gone : (a b : Bool) → a ≡ true → (not a && b) ≡ false
          gone a b e = grind arith

-- a test cuts a list in two
pub perm_split : {E : Type 0} (p : E → Bool) (zs : List E) → Perm zs (filter p zs ++ filter (λ z. not (p z)) zs)
perm_split p [] = none
perm_split p (z ∷ zs) = go (p z) (perm_split p zs)
  where
    go : (b : Bool) → Perm zs (filter p zs ++ filter (λ z. not (p z)) zs) →
        Perm (z ∷ zs) (cond b (z ∷ filter p zs) (filter p zs) ++ cond (not b) (z ∷ filter (λ z. not (p z)) zs) (filter (λ z. not (p z)) zs))
    go true ih = keep ih
    go false ih = then_by (keep ih) (perm_blocks (z ∷ []) (filter p zs) (filter (λ z. not (p z)) zs))
