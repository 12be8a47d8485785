-- Parts of groups side by side, and the places of a step's parts.
use Rattle.std.proofs.Common.{◌≡◌, ◌<◌, ◌==◌, ℕ, zero, suc, ℤ, false, if◌then◌else◌, List, [], ◌∷◌, ◌++◌, refl, ◌∙◌, ap, ap₂, length, eq-eqb, get_or, take, arith}
use Rattle.std.specs.List.{remove, insert}
use Rattle.std.proofs.lemmas.Bool.Decides.{nat_tests}
use Rattle.qn_sign.specs.Sign.{xor}
use Rattle.qn_charge.specs.declared.factor.Factor.{Factor}
use Rattle.qn_charge.specs.Charges.{parity}
use Rattle.qn_index.specs.Legs.{SectorValue}
use Rattle.qn_value.specs.Networks.{odd_flux}
use Rattle.qn_net.specs.Groups.{TensorGroup, nodes, AllAbove, AreInOrder}
use Rattle.qn_net.specs.Members.{member_tensor}
use Rattle.qn_engine.specs.Parts.{PartValue, ArePartsOf, IsPartOf, place_of, is_odd_number}

-- an element between two lists
module _ {A : Type 0} where
  pub removed_at : (xs : List A) (x : A) (ys : List A) → remove (xs ++ (x ∷ ys)) (length xs) ≡ xs ++ ys
  removed_at [] x ys = refl
  removed_at (z ∷ xs) x ys = ap (λ zs. z ∷ zs) (removed_at xs x ys)

  pub inserted_at : (xs : List A) (x : A) (ys : List A) → insert (xs ++ ys) (length xs) x ≡ xs ++ (x ∷ ys)
  inserted_at [] x ys = refl
  inserted_at (z ∷ xs) x ys = ap (λ zs. z ∷ zs) (inserted_at xs x ys)

  pub read_at : (xs : List A) (x : A) (ys : List A) (d : A) → get_or (xs ++ (x ∷ ys)) (length xs) d ≡ x
  read_at [] x ys d = refl
  read_at (z ∷ xs) x ys d = read_at xs x ys d

  pub taken_at : (xs : List A) (ys : List A) → take (length xs) (xs ++ ys) ≡ xs
  taken_at [] ys = refl
  taken_at (z ∷ xs) ys = ap (λ zs. z ∷ zs) (taken_at xs ys)

module _ (fs : List Factor) (sectors : ℤ → List SectorValue) where
  -- the parts of two lists of groups
  pub record Sided (ps : List PartValue) (gs hs : List TensorGroup) : Type 0 where
    pub first : List PartValue
    pub second : List PartValue
    pub whole : ps ≡ first ++ second
    pub firsts : ArePartsOf fs sectors first gs
    pub seconds : ArePartsOf fs sectors second hs
    pub long : length first ≡ length gs

  pub sided : (ps : List PartValue) (gs hs : List TensorGroup) → ArePartsOf fs sectors ps (gs ++ hs) → Sided ps gs hs
  sided ps [] hs k = record { first = []; second = ps; whole = refl; firsts = tt; seconds = k; long = refl }
  sided [] (g ∷ gs) hs k = absurd k
  sided (p ∷ ps) (g ∷ gs) hs k =
      let r = sided ps gs hs k.1 in
      record { first = p ∷ r.first; second = r.second; whole = ap (λ qs. p ∷ qs) r.whole; firsts = (k.0, r.firsts); seconds = r.seconds; long = ap suc r.long }

  -- the parts of a group and those that follow it
  pub record Headed (ps : List PartValue) (g : TensorGroup) (gs : List TensorGroup) : Type 0 where
    pub head : PartValue
    pub tail : List PartValue
    pub whole : ps ≡ head ∷ tail
    pub first : IsPartOf fs sectors head g
    pub others : ArePartsOf fs sectors tail gs

  pub headed : (ps : List PartValue) (g : TensorGroup) (gs : List TensorGroup) → ArePartsOf fs sectors ps (g ∷ gs) → Headed ps g gs
  headed [] g gs k = absurd k
  headed (p ∷ ps) g gs k = record { head = p; tail = ps; whole = refl; first = k.0; others = k.1 }

  pub parts-append : (ps qs : List PartValue) (gs hs : List TensorGroup) → ArePartsOf fs sectors ps gs → ArePartsOf fs sectors qs hs → ArePartsOf fs sectors (ps ++ qs) (gs ++ hs)
  parts-append [] qs [] hs k l = l
  parts-append [] qs (g ∷ gs) hs k l = absurd k
  parts-append (p ∷ ps) qs [] hs k l = absurd k
  parts-append (p ∷ ps) qs (g ∷ gs) hs k l = (k.0, parts-append ps qs gs hs k.1 l)

  -- the place of a group's part: no earlier group has its number
  above_later : (n : ℕ) (gs : List TensorGroup) (h : TensorGroup) (hs : List TensorGroup) → AllAbove n (gs ++ (h ∷ hs)) → n < h.number
  above_later n [] h hs k = k.0
  above_later n (g ∷ gs) h hs k = above_later n gs h hs k.1

  pub part_place : (ps : List PartValue) (gs : List TensorGroup) (p : PartValue) (rest : List PartValue) (g : TensorGroup) (hs : List TensorGroup) →
      ArePartsOf fs sectors ps gs → IsPartOf fs sectors p g → AreInOrder (gs ++ (g ∷ hs)) → place_of g.number (ps ++ (p ∷ rest)) ≡ length ps
  part_place [] [] p rest g hs k here order = ap (λ b. if b then zero else suc (place_of g.number rest)) (eq-eqb p.number g.number here.number)
  part_place [] (h ∷ gs) p rest g hs k here order = absurd k
  part_place (q ∷ ps) [] p rest g hs k here order = absurd k
  part_place (q ∷ ps) (h ∷ gs) p rest g hs k here order =
      ap (λ b. if b then zero else suc (place_of g.number (ps ++ (p ∷ rest)))) (other q.number h.number g.number k.0.number (above_later h.number gs g hs order.0))
      ∙ ap suc (part_place ps gs p rest g hs k.1 here order.1)
    where
      other : (m n o : ℕ) → m ≡ n → n < o → (m == o) ≡ false
      other m n o e l = grind (arith, nat_tests)

  -- whether an odd number of parts have odd flux
  pub odd_parts : (ps : List PartValue) (gs : List TensorGroup) → ArePartsOf fs sectors ps gs → is_odd_number ps ≡ odd_flux (nodes gs)
  odd_parts [] [] k = refl
  odd_parts [] (g ∷ gs) k = absurd k
  odd_parts (p ∷ ps) [] k = absurd k
  odd_parts (p ∷ ps) (g ∷ gs) k =
      ap₂ xor (ap (λ (qs : List Factor). parity qs (member_tensor p.member).flux) k.0.tensor.node.group ∙ k.0.tensor.node.odd) (odd_parts ps gs k.1)
