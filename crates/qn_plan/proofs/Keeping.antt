-- The legs and the flux of what a step makes.
use Rattle.std.proofs.Common.{◌≡◌, ℤ, Bool, true, false, not, cond, if◌then◌else◌, List, [], ◌∷◌, ◌++◌, refl, sym, ◌∙◌, ap, ap₂, map, filter, append-nil, int_eq}
use Rattle.std.proofs.lemmas.List.Elements.{filter-append}
use Rattle.qn_sign.specs.Sign.{is_in}
use Rattle.qn_charge.specs.declared.factor.Factor.{Factor}
use Rattle.qn_charge.specs.Charges.{IsGroup, sum_charge}
use Rattle.qn_index.specs.Legs.{SectorValue, LegValue}
use Rattle.qn_value.specs.Networks.{End, Node, Bond, Parities, labels, kept}
use Rattle.qn_value.specs.Blocks.{legs_on}
use Rattle.qn_value.specs.Fluxes.{arrow_of, sum_flux}
use Rattle.qn_net.specs.Groups.{TensorGroup, joined, closed, flux_of, merged}
use Rattle.qn_net.specs.Groups.Role.{tensor}
use Rattle.qn_net.specs.Plans.{select}
use Rattle.qn_net.proofs.PartLemmas.{map-append}
use Rattle.qn_net.proofs.PassingLemmas.{one_flux, two_fluxes}
use Rattle.qn_plan.specs.Shapes.{ShapeValue, shape_of, ends_left, legs_left, joined_shape, closed_shape}

pub legs_left_on : (sectors : ℤ → List SectorValue) (summed : List ℤ) (es : List End) → legs_left summed es (legs_on sectors es) ≡ legs_on sectors (ends_left summed es)
legs_left_on sectors summed [] = refl
legs_left_on sectors summed (e ∷ es) = go (is_in int_eq e.label summed) (legs_left_on sectors summed es)
  where
    go : (b : Bool) → legs_left summed es (legs_on sectors es) ≡ legs_on sectors (ends_left summed es) →
        (if b then legs_left summed es (legs_on sectors es) else record { arrow = arrow_of e.inward; sectors = sectors e.label } ∷ legs_left summed es (legs_on sectors es))
        ≡ legs_on sectors (cond (not b) (e ∷ ends_left summed es) (ends_left summed es))
    go true ih = ih
    go false ih = ap (λ ls. record { arrow = arrow_of e.inward; sectors = sectors e.label } ∷ ls) ih

pub kept_two : (x y : Node) (bonds : List Bond) → kept (x ∷ y ∷ []) bonds ≡ ends_left (labels bonds) x.ends ++ ends_left (labels bonds) y.ends
kept_two x y bonds =
    ap (λ es. ends_left (labels bonds) (x.ends ++ es)) (append-nil y.ends)
    ∙ filter-append (λ (e : End). not (is_in int_eq e.label (labels bonds))) x.ends y.ends

pub kept_one : (x : Node) (bonds : List Bond) → kept (x ∷ []) bonds ≡ ends_left (labels bonds) x.ends
kept_one x bonds = ap (ends_left (labels bonds)) (append-nil x.ends)

module _ (fs : List Factor) (group : IsGroup fs) (sectors : ℤ → List SectorValue) where
  pub flux_joined : (g h : TensorGroup) → sum_charge fs (flux_of fs g) (flux_of fs h) ≡ sum_flux fs (map (λ m. m.flux) (merged g.members h.members))
  flux_joined g h = ap (sum_charge fs (flux_of fs g)) (sym (one_flux fs group sectors h.members)) ∙ two_fluxes fs group sectors g.members h.members

  pub joined_is : (par : Parities) (b : Bool) (g h : TensorGroup) (bonds : List Bond) →
      joined_shape fs (shape_of fs sectors g) (shape_of fs sectors h) (labels bonds) ≡ shape_of fs sectors (joined par b g h bonds)
  joined_is par b g h bonds = λ i. mk (ends i) (legs i) (flux i)
    where
      mk : List End → List LegValue → List ℤ → ShapeValue
      mk es ls q = record { number = g.number; ends = es; legs = ls; flux = q; role = tensor }

      ends : ends_left (labels bonds) g.node.ends ++ ends_left (labels bonds) h.node.ends ≡ kept (g.node ∷ h.node ∷ []) bonds
      ends = sym (kept_two g.node h.node bonds)

      legs : legs_left (labels bonds) g.node.ends (legs_on sectors g.node.ends) ++ legs_left (labels bonds) h.node.ends (legs_on sectors h.node.ends) ≡ legs_on sectors (kept (g.node ∷ h.node ∷ []) bonds)
      legs =
          ap₂ ◌++◌ (legs_left_on sectors (labels bonds) g.node.ends) (legs_left_on sectors (labels bonds) h.node.ends)
          ∙ sym (map-append (λ (e : End). let l : LegValue = record { arrow = arrow_of e.inward; sectors = sectors e.label } in l) (ends_left (labels bonds) g.node.ends) (ends_left (labels bonds) h.node.ends))
          ∙ ap (legs_on sectors) ends

      flux : sum_charge fs (flux_of fs g) (flux_of fs h) ≡ flux_of fs (joined par b g h bonds)
      flux = flux_joined g h

  pub closed_is : (par : Parities) (g : TensorGroup) (bonds : List Bond) → closed_shape (shape_of fs sectors g) (labels bonds) ≡ shape_of fs sectors (closed par g bonds)
  closed_is par g bonds = λ i. mk (ends i) (legs i)
    where
      mk : List End → List LegValue → ShapeValue
      mk es ls = record { number = g.number; ends = es; legs = ls; flux = flux_of fs g; role = tensor }

      ends : ends_left (labels bonds) g.node.ends ≡ kept (g.node ∷ []) bonds
      ends = sym (kept_one g.node bonds)

      legs : legs_left (labels bonds) g.node.ends (legs_on sectors g.node.ends) ≡ legs_on sectors (kept (g.node ∷ []) bonds)
      legs = legs_left_on sectors (labels bonds) g.node.ends ∙ ap (legs_on sectors) ends
