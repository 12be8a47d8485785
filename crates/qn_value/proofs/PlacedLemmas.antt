-- Tensors in a network: their charges and parities.
use Rattle.std.proofs.Common.{◌≡◌, ℕ, suc, ℤ, Bool, true, false, cond, List, [], ◌∷◌, ◌++◌, refl, sym, ◌∙◌, ap, ap₂, subst, map, length, ◌⊎◌, inl, inr, arith, int_eq}
use Rattle.std.specs.List.{All}
use Rattle.qn_gauss.specs.Gaussian.{zero_g}
use Rattle.qn_charge.specs.declared.factor.Factor.{Factor}
use Rattle.qn_charge.specs.Charges.{IsGroup, sum_charge, parity}
use Rattle.qn_index.specs.declared.leg.Dir.{Dir}
use Rattle.qn_index.specs.declared.leg.Dir.TheVariants.{Out, In}
use Rattle.qn_index.specs.Legs.{LegValue, SectorValue}
use Rattle.qn_index.specs.Tuples.{turned, net}
use Rattle.qn_index.specs.Places.{sectors_at}
use Rattle.qn_index.specs.Legs.{charge_at}
use Rattle.qn_value.specs.Networks.{End, Assignment, values, AreHomogeneous}
use Rattle.qn_value.specs.Tensors.{Row, same_values, entry_at, entry_of, IsRow}
use Rattle.qn_value.specs.Labels.{Placed, Slot, is_inward, slots_of, slots, ends, node_of, sectors_on, parity_of, SuitsAll, IsUniform, IsPlaced, AllPlaced}
use Rattle.qn_value.specs.Fluxes.{arrow_of, net_at, Conserves, AllConserve, charge_on}
use Rattle.qn_value.proofs.Sums.{label_test}
use Rattle.qn_value.proofs.Values.{same_values-equal}
use Rattle.qn_value.proofs.FluxLemmas.{conserved_homogeneous}

-- the first of the elements, and the others
pub all_first : {A : Type 0} (P : A → Type 0) (x : A) (xs : List A) → All P (x ∷ xs) → P x
all_first P x xs h = h 0 x (omega arith)

pub all_others : {A : Type 0} (P : A → Type 0) (x : A) (xs : List A) → All P (x ∷ xs) → All P xs
all_others P x xs h k d l = h (suc k) d (omega arith)

-- the entry is 0, or the values are those of a row
pub rows_flux : (fs : List Factor) (ls : List LegValue) (q : List ℤ) (rows : List Row) → All (IsRow fs ls q) rows → (xs : List ℕ) →
    (net fs ls (sectors_at ls xs) ≡ q) ⊎ (entry_at rows xs ≡ zero_g)
rows_flux fs ls q [] h xs = inr refl
rows_flux fs ls q (r ∷ rs) h xs = go (same_values r.values xs) refl (rows_flux fs ls q rs (all_others (IsRow fs ls q) r rs h) xs)
  where
    go : (b : Bool) → same_values r.values xs ≡ b → (net fs ls (sectors_at ls xs) ≡ q) ⊎ (entry_at rs xs ≡ zero_g) →
        (net fs ls (sectors_at ls xs) ≡ q) ⊎ (cond b r.entry (entry_at rs xs) ≡ zero_g)
    go true e ih = inl (ap (λ ys. net fs ls (sectors_at ls ys)) (sym (same_values-equal r.values xs e)) ∙ (all_first (IsRow fs ls q) r rs h).flux)
    go false e ih = ih

-- each leg has the sectors of its line
abbrev pub HaveSectorsOn : (ℤ → List SectorValue) → List Slot → Type 0
HaveSectorsOn sectors [] = Unit {0}
HaveSectorsOn sectors (s ∷ ss) = (sectors s.end.label ≡ s.sectors) × HaveSectorsOn sectors ss

on_behind : (sectors : ℤ → List SectorValue) (s : Slot) (ts : List Slot) → SuitsAll s ts → HaveSectorsOn sectors ts →
    HaveSectorsOn (λ l. cond (int_eq l s.end.label) s.sectors (sectors l)) ts
on_behind sectors s [] h k = tt
on_behind sectors s (t ∷ ts) h k = (go (int_eq t.end.label s.end.label) refl, on_behind sectors s ts h.1 k.1)
  where
    go : (b : Bool) → int_eq t.end.label s.end.label ≡ b → cond b s.sectors (sectors t.end.label) ≡ t.sectors
    go true e = sym (h.0 (label_test.equal t.end.label s.end.label e))
    go false e = k.0

pub sectors_fit : (ss : List Slot) → IsUniform ss → HaveSectorsOn (sectors_on ss) ss
sectors_fit [] h = tt
sectors_fit (s ∷ ss) h =
    (ap (λ b. cond b s.sectors (sectors_on ss s.end.label)) (label_test.itself s.end.label), on_behind (sectors_on ss) s ss h.0 (sectors_fit ss h.1))

pub on_first : (sectors : ℤ → List SectorValue) (ss ts : List Slot) → HaveSectorsOn sectors (ss ++ ts) → HaveSectorsOn sectors ss
on_first sectors [] ts h = tt
on_first sectors (s ∷ ss) ts h = (h.0, on_first sectors ss ts h.1)

pub on_second : (sectors : ℤ → List SectorValue) (ss ts : List Slot) → HaveSectorsOn sectors (ss ++ ts) → HaveSectorsOn sectors ts
on_second sectors [] ts h = h
on_second sectors (s ∷ ss) ts h = on_second sectors ss ts h.1

pub arrow_back : (d : Dir) → arrow_of (is_inward d) ≡ d
arrow_back In = refl
arrow_back Out = refl

-- the net charge of the legs' values, by the lines and by the legs
pub net_by_legs : (fs : List Factor) (sectors : ℤ → List SectorValue) (legs : List LegValue) (ls : List ℤ) → length ls ≡ length legs → HaveSectorsOn sectors (slots_of legs ls) → (a : Assignment) →
    net_at fs (charge_on sectors) (ends (slots_of legs ls)) a ≡ net fs legs (sectors_at legs (values (ends (slots_of legs ls)) a))
net_by_legs fs sectors [] ls n h a = refl
net_by_legs fs sectors (g ∷ gs) [] n h a = absurd (omega arith)
net_by_legs fs sectors (g ∷ gs) (l ∷ ls) n h a =
    let e : End = record { label = l; inward = is_inward g.arrow } in
    ap₂ (sum_charge fs)
    (ap (λ d. turned fs d (charge_at (sectors l) (a e))) (arrow_back g.arrow) ∙ ap (λ ss. turned fs g.arrow (charge_at ss (a e))) h.0)
    (net_by_legs fs sectors gs ls (omega arith) h.1 a)

pub placed_conserves : (fs : List Factor) (sectors : ℤ → List SectorValue) (p : Placed) → IsPlaced fs p → HaveSectorsOn sectors (slots_of p.tensor.legs p.labels) →
    Conserves fs (charge_on sectors) (node_of p) p.tensor.flux
placed_conserves fs sectors p h k a = go (rows_flux fs p.tensor.legs p.tensor.flux p.tensor.rows rows (values (node_of p).ends a))
  where
    rows : All (IsRow fs p.tensor.legs p.tensor.flux) p.tensor.rows
    rows = subst (λ gs. All (IsRow gs p.tensor.legs p.tensor.flux) p.tensor.rows) h.group h.tensor.rows

    go : (net fs p.tensor.legs (sectors_at p.tensor.legs (values (node_of p).ends a)) ≡ p.tensor.flux) ⊎ (entry_of p.tensor (values (node_of p).ends a) ≡ zero_g) →
        (net_at fs (charge_on sectors) (node_of p).ends a ≡ p.tensor.flux) ⊎ (entry_of p.tensor (values (node_of p).ends a) ≡ zero_g)
    go (inr z) = inr z
    go (inl e) = inl (net_by_legs fs sectors p.tensor.legs p.labels h.labels k a ∙ e)

pub all_conserve : (fs : List Factor) (sectors : ℤ → List SectorValue) (ps : List Placed) → AllPlaced fs ps → HaveSectorsOn sectors (slots ps) →
    AllConserve fs (charge_on sectors) (map node_of ps) (map (λ p. p.tensor.flux) ps)
all_conserve fs sectors [] h k = tt
all_conserve fs sectors (p ∷ ps) h k = (
  placed_conserves fs sectors p h.0 (on_first sectors (slots_of p.tensor.legs p.labels) (slots ps) k),
  all_conserve fs sectors ps h.1 (on_second sectors (slots_of p.tensor.legs p.labels) (slots ps) k),
)

pub all_homogeneous : (fs : List Factor) (sectors : ℤ → List SectorValue) (ps : List Placed) → IsGroup fs → AllPlaced fs ps → HaveSectorsOn sectors (slots ps) →
    AreHomogeneous (λ l v. parity fs (charge_on sectors l v)) (map node_of ps)
all_homogeneous fs sectors [] group h k = tt
all_homogeneous fs sectors (p ∷ ps) group h k = (
  conserved_homogeneous fs group (charge_on sectors) (node_of p) p.tensor.flux
      (placed_conserves fs sectors p h.0 (on_first sectors (slots_of p.tensor.legs p.labels) (slots ps) k))
      (ap (λ gs. parity gs p.tensor.flux) (sym h.0.group)),
  all_homogeneous fs sectors ps group h.1 (on_second sectors (slots_of p.tensor.legs p.labels) (slots ps) k),
)

pub placed_law : (fs : List Factor) (ps : List Placed) → IsGroup fs → AllPlaced fs ps → IsUniform (slots ps) →
    AllConserve fs (charge_on (sectors_on (slots ps))) (map node_of ps) (map (λ p. p.tensor.flux) ps)
    × AreHomogeneous (parity_of fs (slots ps)) (map node_of ps)
placed_law fs ps group h u = (
  all_conserve fs (sectors_on (slots ps)) ps h (sectors_fit (slots ps) u),
  all_homogeneous fs (sectors_on (slots ps)) ps group h (sectors_fit (slots ps) u),
)
