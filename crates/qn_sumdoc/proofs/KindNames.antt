-- The kind that a name and a group tell, by a search and by what holds of it.
use Rattle.std.proofs.Common.{◌≡◌, ℕ, zero, suc, ◌<◌, List, [], ◌∷◌, length, get_or, Bool, true, false, ◌&&◌, ◌==◌, cond, Some, None, refl, sym, ap, ap₂, ◌∙◌, arith, true≢false, Contains}
use Rattle.std.specs.Prelude.{Option, bytes_eq}
use Rattle.std.specs.Bool.{Decides, beq}
use Rattle.std.specs.Option.{option_map_or}
use Rattle.std.specs.Cmp.{booleans_Decides, unsigned_Decides}
use Rattle.std.proofs.lemmas.Slice.Eq.{slice_eq-Decides, bytes_eq-Decides}
use Rattle.qn_charge.specs.declared.factor.Factor.{Factor}
use Rattle.qn_charge.specs.declared.factor.Factor.TheVariants.{U1, Zn}
use Rattle.qn_sites.specs.Sites.{SiteValue}
use Rattle.qn_sites.specs.Kinds.{KindRow, kinds, kind_site}
use Rattle.qn_sites.specs.Refusals.{IsKindOf}
use Rattle.qn_sites.proofs.KindFacts.{one_kind}
use Rattle.qn_opsum.specs.Sums.{no_site}
use Rattle.qn_sumdoc.specs.Sites.{has_group, named_kind, same_factor}
use Rattle.qn_doc.proofs.Limits.{failed}

-- ---- equal factors

factor_test : (f g : Factor) → Decides (same_factor f g) (f ≡ g)
factor_test (U1 a) (U1 b) = let d = booleans_Decides a b in (λ e. ap U1 (d.0 e), λ h. d.1 (ap flag h))
  where
    flag : Factor → Bool
    flag (U1 c) = c
    flag (Zn n c) = c
factor_test (U1 a) (Zn n b) = (λ e. absurd (true≢false (sym e)), λ h. cc)
factor_test (Zn n a) (U1 b) = (λ e. absurd (true≢false (sym e)), λ h. cc)
factor_test (Zn m a) (Zn n b) = by (m == n) (unsigned_Decides m n)
  where
    flag : Factor → Bool
    flag (U1 c) = c
    flag (Zn k c) = c

    size : Factor → ℕ
    size (U1 c) = 0
    size (Zn k c) = k

    by : (t : Bool) → Decides t (m ≡ n) → Decides (t && beq a b) (Zn m a ≡ Zn n b)
    by true d = (λ e. ap₂ Zn (d.0 refl) ((booleans_Decides a b).0 e), λ h. (booleans_Decides a b).1 (ap flag h))
    by false d = (λ e. absurd (true≢false (sym e)), λ h. d.1 (ap size h))

group_test : (fs : List Factor) (k : KindRow) → Decides (has_group fs k) (k.factors ≡ fs)
group_test fs k = slice_eq-Decides factor_test k.factors fs (has_group fs k) refl

-- ---- the search

later : (k r : KindRow) (rs : List KindRow) → Contains rs k → Contains (r ∷ rs) k
later k r rs h = (suc h.0, omega (arith, h.1), h.2)

-- what the search finds is in the list and has the name
found : (name : List ℕ) (k : KindRow) (rs : List KindRow) → named_kind name rs ≡ Some k → Contains rs k × (k.name ≡ name)
found name k [] e = cc
found name k (r ∷ rs) e = by (bytes_eq r.name name) refl e (found name k rs)
  where
    by : (b : Bool) → bytes_eq r.name name ≡ b → cond b (Some r) (named_kind name rs) ≡ Some k → (named_kind name rs ≡ Some k → Contains rs k × (k.name ≡ name))
        → Contains (r ∷ rs) k × (k.name ≡ name)
    by true t h rest = let same : r ≡ k = cc in ((0, omega arith, same), ap (λ (x : KindRow). x.name) (sym same) ∙ (bytes_eq-Decides r.name name).0 t)
    by false t h rest = let f = rest h in (later k r rs f.0, f.1)

-- it finds a kind of the name where there is one
finds : (name : List ℕ) (k : KindRow) (rs : List KindRow) (i : ℕ) → i < length rs → get_or rs i k ≡ k → k.name ≡ name → (m : KindRow) × (named_kind name rs ≡ Some m)
finds name k [] i lt is named = absurd (omega (arith, lt))
finds name k (r ∷ rs) i lt is named = by (bytes_eq r.name name) refl i lt is (finds name k rs)
  where
    by : (b : Bool) → bytes_eq r.name name ≡ b → (i : ℕ) → i < length (r ∷ rs) → get_or (r ∷ rs) i k ≡ k
        → ((j : ℕ) → j < length rs → get_or rs j k ≡ k → k.name ≡ name → (m : KindRow) × (named_kind name rs ≡ Some m)) → (m : KindRow) × (cond b (Some r) (named_kind name rs) ≡ Some m)
    by true t i lt is rest = (r, refl)
    by false t zero lt is rest = absurd (true≢false (sym ((bytes_eq-Decides r.name name).1 (ap (λ (x : KindRow). x.name) is ∙ named)) ∙ t))
    by false t (suc j) lt is rest = rest j (omega (arith, lt)) is named

kind_found : (name : List ℕ) (fs : List Factor) (k : KindRow) → IsKindOf name fs k → named_kind name kinds ≡ Some k
kind_found name fs k h =
    let m = finds name k kinds h.listed.0 h.listed.1 h.listed.2 h.name in
    let f = found name m.0 kinds m.1 in
    m.1 ∙ ap Some (one_kind m.0 k f.0 h.listed (f.1 ∙ sym h.name))

-- the kind has the group
pub kind_accepted : (name : List ℕ) (fs : List Factor) (k : KindRow) → IsKindOf name fs k → option_map_or (has_group fs) (named_kind name kinds) false ≡ true
kind_accepted name fs k h = ap (λ o. option_map_or (has_group fs) o false) (kind_found name fs k h) ∙ (group_test fs k).1 h.group

-- and is the one that is meant
pub kind_means : (name : List ℕ) (fs : List Factor) (k : KindRow) (s : SiteValue) → IsKindOf name fs k → s ≡ kind_site k → s ≡ option_map_or kind_site (named_kind name kinds) no_site
kind_means name fs k s h e = e ∙ sym (ap (λ o. option_map_or kind_site o no_site) (kind_found name fs k h))

-- there is no kind of the name with the group
pub kind_refused : (name : List ℕ) (fs : List Factor) → ((k : KindRow) → IsKindOf name fs k → ⊥) → option_map_or (has_group fs) (named_kind name kinds) false ≡ false
kind_refused name fs none = by (named_kind name kinds) refl
  where
    by : (o : Option KindRow) → named_kind name kinds ≡ o → option_map_or (has_group fs) o false ≡ false
    by None e = refl
    by (Some k) e =
        let f = found name k kinds e in
        failed (has_group fs k) (λ t. none k (record { listed = f.0; name = f.1; group = (group_test fs k).0 t }))
