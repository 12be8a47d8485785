-- The links and the tensors without blocks, site by site.
use Rattle.std.proofs.Common.{◌≡◌, ℕ, ℤ, zero, suc, ◌+◌, ◌<◌, ◌≤◌, ◌⊎◌, inl, inr, Bool, true, false, if◌then◌else◌, List, [], ◌∷◌, ◌++◌, length, get_or, sym, ◌∙◌, ap, subst, arith}
use Rattle.std.specs.List.{All}
use Rattle.std.proofs.lemmas.Bool.{cases_lt}
use Rattle.std.proofs.lemmas.List.{get_or_append_left, get_or_push, length_push}
use Rattle.qn_charge.specs.declared.factor.Factor as charge
use Rattle.qn_index.specs.Extents.{IsTooWide}
use Rattle.qn_index.specs.Legs.{IsLegOf, IsOf, LegValue, SectorValue, flipped}
use Rattle.qn_index.specs.Tuples.{IsFlux}
use Rattle.qn_block.specs.Blocked.{BlockedValue}
use Rattle.qn_opsum.specs.Sums.{SumValue, no_site, site_at}
use Rattle.qn_opsum.specs.Refusals.{IsSum}
use Rattle.qn_auto.specs.SumAutomaton.{HasShapeAt, IsWideAt, flux_at, is_last, left_legs, legs_at, link_leg, no_tensor, right_legs}
use Rattle.qn_auto.proofs.Ordered.{all_from}
use Rattle.qn_auto.proofs.Stages.{AllOf}
use Rattle.qn_mpo.specs.Links.{AreEmpty, AreLinks, LinkValue, link_value}
use Rattle.qn_mpo.proofs.Links.{Fits, link_charges}
use Rattle.qn_facts.proofs.Numbers.{one_more}

-- ---- one more element

-- what holds of the first n elements at their places, and of one more
pub push_at : {A : Type 0} (P : ℕ → A → Type 0) (xs : List A) (y d : A) (n : ℕ) → length xs ≡ n → ((j : ℕ) → j < n → P j (get_or xs j d)) → P n y →
    (j : ℕ) → j < n + 1 → P j (get_or (xs ++ (y ∷ [])) j d)
push_at P xs y d n e h p j lt = by (cases_lt j n)
  where
    by : (j < n) ⊎ (n ≤ j) → P j (get_or (xs ++ (y ∷ [])) j d)
    by (inl less) = subst (P j) (sym (get_or_append_left xs (y ∷ []) d j (omega (arith, less, e)))) (h j less)
    by (inr le) =
        let same : n ≡ j = omega (arith, le, lt) in
        subst (P j) (sym (get_or_push xs y d j (e ∙ same))) (subst (λ k. P k y) same p)

pub links_more : (v : SumValue) (n : ℕ) (ls new : List LinkValue) (l : LinkValue) → AreLinks v n ls → l ≡ link_value v n → new ≡ ls ++ (l ∷ []) → AreLinks v (n + 1) new
links_more v n ls new l h e p =
    subst (AreLinks v (n + 1)) (sym p) (record {
      count = length_push ls l ∙ ap (λ k. k + 1) h.count;
      links = λ j d lt. push_at (λ k x. x ≡ link_value v k) ls l d n h.count (λ k less. h.links k d less) e j lt;
    })

pub empty_more : (v : SumValue) (n : ℕ) (ts new : List BlockedValue) (t : BlockedValue) → AreEmpty v n ts → HasShapeAt v n t → t.blocks ≡ [] → new ≡ ts ++ (t ∷ []) → AreEmpty v (n + 1) new
empty_more v n ts new t h s b p =
    subst (AreEmpty v (n + 1)) (sym p) (record {
      count = length_push ts t ∙ ap (λ k. k + 1) h.count;
      shapes = λ j lt. push_at (HasShapeAt v) ts t no_tensor n h.count h.shapes s j lt;
      empty = λ j lt. push_at (λ k x. x.blocks ≡ []) ts t no_tensor n h.count h.empty b j lt;
    })

-- ---- what is too wide

abbrev pub NarrowBelow : SumValue → ℕ → Type 0
NarrowBelow v n = (j : ℕ) → j < n → IsWideAt v j → ⊥

pub narrow_more : (v : SumValue) (n : ℕ) → NarrowBelow v n → length (link_leg v n).sectors ≤ 64 → (IsTooWide v.group (legs_at v n) (flux_at v n) → ⊥) → NarrowBelow v (n + 1)
narrow_more v n h few fits = one_more (λ j. IsWideAt v j → ⊥) n h here
  where
    here : IsWideAt v n → ⊥
    here (lt, inl many) = absurd (omega (arith, many, few))
    here (lt, inr wide) = fits wide

pub few_charges : (v : SumValue) (n : ℕ) (l : LinkValue) (x : LegValue) → l ≡ link_value v n → x ≡ l.leg → length x.sectors ≤ 64 → length (link_leg v n).sectors ≤ 64
few_charges v n l x e p h = subst (λ (y : LegValue). length y.sectors ≤ 64) (p ∙ ap (λ (k : LinkValue). k.leg) e) h

-- ---- the charges of the legs

all_append : {A : Type 0} (P : A → Type 0) (xs ys : List A) → AllOf P xs → AllOf P ys → AllOf P (xs ++ ys)
all_append P [] ys a b = b
all_append P (x ∷ xs) ys a b = (a.0, all_append P xs ys a.1 b)

link_fits : (v : SumValue) → IsSum v → (j : ℕ) → IsLegOf v.group (link_leg v j)
link_fits v h j = all_from (IsOf v.group) (link_leg v j).sectors (go (link_leg v j).sectors (link_charges v h j))
  where
    go : (ps : List SectorValue) → AllOf (λ (s : SectorValue). Fits v s.charge) ps → AllOf (IsOf v.group) ps
    go [] a = tt
    go (p ∷ ps) a = (record { canonical = a.0.0; within = a.0.1 }, go ps a.1)

site_fits : (v : SumValue) → IsSum v → (j : ℕ) → j < length v.sites → IsLegOf v.group (site_at v.sites j).leg
site_fits v h j lt =
    subst (λ gs. IsLegOf gs (site_at v.sites j).leg) (h.sites.groups j no_site lt) (h.sites.sites j no_site lt).leg.charges

pub legs_known : (v : SumValue) → IsSum v → (j : ℕ) → j < length v.sites → All (IsLegOf v.group) (legs_at v j)
legs_known v h j lt =
    all_from (IsLegOf v.group) (legs_at v j)
    (all_append (IsLegOf v.group) (left_legs v j) ((site_at v.sites j).leg ∷ flipped (site_at v.sites j).leg ∷ right_legs v j) (left j) (site_fits v h j lt, (site_fits v h j lt, right (is_last v j))))
  where
    left : (j : ℕ) → AllOf (IsLegOf v.group) (left_legs v j)
    left zero = tt
    left (suc i) = (link_fits v h i, tt)

    right : (b : Bool) → AllOf (IsLegOf v.group) (if b then [] else link_leg v j ∷ [])
    right true = tt
    right false = (link_fits v h j, tt)

-- what the tensor asks
pub shape_fits : (v : SumValue) → IsSum v → (j : ℕ) → j < length v.sites → (gs : List charge.Factor) (ls : List LegValue) (q : List ℤ) → gs ≡ v.group → ls ≡ legs_at v j → IsFlux v.group q →
    All (IsLegOf gs) ls × IsFlux gs q
shape_fits v h j lt gs ls q eg el f =
    subst (λ hs. All (IsLegOf hs) ls × IsFlux hs q) (sym eg) (subst (All (IsLegOf v.group)) (sym el) (legs_known v h j lt), f)
