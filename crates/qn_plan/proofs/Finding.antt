-- The groups that a search by places finds.
use Rattle.std.proofs.Common.{◌≡◌, ◌<◌, ℕ, zero, suc, ◌+◌, ℤ, true, false, List, [], ◌∷◌, ◌++◌, refl, sym, ◌∙◌, ap, ap₂, map, length, append_assoc, arith}
use Rattle.std.specs.Prelude.{slice_set}
use Rattle.std.specs.List.{remove}
use Rattle.std.proofs.lemmas.List.{get_or-append-add, length-map, length-append}
use Rattle.qn_charge.specs.declared.factor.Factor.{Factor}
use Rattle.qn_index.specs.Legs.{SectorValue}
use Rattle.qn_net.specs.Groups.{TensorGroup}
use Rattle.qn_net.specs.Plans.{has_label, NoneHave}
use Rattle.qn_net.proofs.PartLemmas.{map-append}
use Rattle.qn_plan.specs.Shapes.{ShapeValue, shape_of, is_on, no_shape, shape_at, joined_shape, closed_shape}
use Rattle.qn_plan.specs.ShapeSteps.{joined_shapes, closed_shapes}
use Rattle.qn_plan.proofs.Listing.{get_mapped, set_mapped, removed_mapped}

module _ (fs : List Factor) (sectors : ℤ → List SectorValue) where
  abbrev pub shapes : List TensorGroup → List ShapeValue
  shapes gs = map (shape_of fs sectors) gs

  -- the first group with the label, at this place
  pub record FoundAt (l : ℤ) (gs : List TensorGroup) (i : ℕ) : Type 0 where
    pub before : List TensorGroup
    pub group : TensorGroup
    pub behind : List TensorGroup
    pub parts : gs ≡ before ++ (group ∷ behind)
    pub place : length before ≡ i
    pub none : NoneHave l before
    pub has : has_label l group ≡ true

  pub found_at : (l : ℤ) (gs : List TensorGroup) (i : ℕ) → i < length gs → is_on l (shape_at (shapes gs) i).ends ≡ true →
      ((k : ℕ) → k < i → is_on l (shape_at (shapes gs) k).ends ≡ false) → FoundAt l gs i
  found_at l [] i h e f = absurd (omega arith)
  found_at l (g ∷ gs) zero h e f = record { before = []; group = g; behind = gs; parts = refl; place = refl; none = tt; has = e }
  found_at l (g ∷ gs) (suc i) h e f =
      let r = found_at l gs i (omega arith) e (λ k lt. f (suc k) (omega (arith, lt))) in
      record { before = g ∷ r.before; group = r.group; behind = r.behind; parts = ap (λ hs. g ∷ hs) r.parts; place = ap suc r.place; none = (f 0 (omega arith), r.none); has = r.has }

  pub none_found : (l : ℤ) (gs : List TensorGroup) → ((k : ℕ) → k < length gs → is_on l (shape_at (shapes gs) k).ends ≡ false) → NoneHave l gs
  none_found l [] f = tt
  none_found l (g ∷ gs) f = (f 0 (omega arith), none_found l gs (λ k lt. f (suc k) (omega (arith, lt))))

  -- places behind a first part and a group
  pub shape_past : (before : List TensorGroup) (g : TensorGroup) (behind : List TensorGroup) (k : ℕ) → shape_at (shapes (before ++ (g ∷ behind))) (length before + suc k) ≡ shape_at (shapes behind) k
  shape_past before g behind k =
      ap₂ (λ (ss : List ShapeValue) (n : ℕ). shape_at ss (n + suc k)) (map-append (shape_of fs sectors) before (g ∷ behind)) (sym (length-map before (shape_of fs sectors)))
      ∙ get_or-append-add (shapes before) (shapes (g ∷ behind)) (suc k) no_shape

  pub shape_here : (before : List TensorGroup) (g : TensorGroup) (behind : List TensorGroup) → shape_at (shapes (before ++ (g ∷ behind))) (length before) ≡ shape_of fs sectors g
  shape_here before g behind = get_mapped (shape_of fs sectors) before g behind no_shape

  pub shape_there : (before : List TensorGroup) (g : TensorGroup) (between : List TensorGroup) (h : TensorGroup) (behind : List TensorGroup) →
      shape_at (shapes (before ++ (g ∷ (between ++ (h ∷ behind))))) (length before + suc (length between)) ≡ shape_of fs sectors h
  shape_there before g between h behind = shape_past before g (between ++ (h ∷ behind)) (length between) ∙ shape_here between h behind

  -- the shapes after a step
  pub joined_at : (before : List TensorGroup) (g : TensorGroup) (between : List TensorGroup) (h : TensorGroup) (behind : List TensorGroup) (summed : List ℤ) →
      joined_shapes fs (shapes (before ++ (g ∷ (between ++ (h ∷ behind))))) (length before) (length before + suc (length between)) summed ≡
      shapes before ++ (joined_shape fs (shape_of fs sectors g) (shape_of fs sectors h) summed ∷ shapes (between ++ behind))
  joined_at before g between h behind summed =
      ap₂ (λ (ss : List ShapeValue) (s : ShapeValue). slice_set ss (length before) s) removed
      (ap₂ (λ (x y : ShapeValue). joined_shape fs x y summed) (shape_here before g (between ++ (h ∷ behind))) (shape_there before g between h behind))
      ∙ set_mapped (shape_of fs sectors) before g (between ++ behind) (joined_shape fs (shape_of fs sectors g) (shape_of fs sectors h) summed)
    where
      place : length before + suc (length between) ≡ length (before ++ (g ∷ between))
      place = sym (length-append before (g ∷ between))

      removed : remove (shapes (before ++ (g ∷ (between ++ (h ∷ behind))))) (length before + suc (length between)) ≡ shapes (before ++ (g ∷ (between ++ behind)))
      removed =
          ap₂ (λ (gs : List TensorGroup) (n : ℕ). remove (shapes gs) n) (sym (append_assoc before (g ∷ between) (h ∷ behind))) place
          ∙ removed_mapped (shape_of fs sectors) (before ++ (g ∷ between)) h behind
          ∙ ap shapes (append_assoc before (g ∷ between) behind)

  pub closed_at : (before : List TensorGroup) (g : TensorGroup) (behind : List TensorGroup) (summed : List ℤ) →
      closed_shapes (shapes (before ++ (g ∷ behind))) (length before) summed ≡ shapes before ++ (closed_shape (shape_of fs sectors g) summed ∷ shapes behind)
  closed_at before g behind summed =
      ap (λ (s : ShapeValue). slice_set (shapes (before ++ (g ∷ behind))) (length before) (closed_shape s summed)) (shape_here before g behind)
      ∙ set_mapped (shape_of fs sectors) before g behind (closed_shape (shape_of fs sectors g) summed)
