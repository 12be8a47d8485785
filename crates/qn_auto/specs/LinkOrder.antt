-- The order of the states at a link, and the sectors of its leg.
-- The order is this project's own: by charge, then not begun, then what is to come, ascending, then done.
use Rattle.std.specs.Prelude.{◌≡◌, ℕ, zero, suc, ℤ, Bool, true, false, ◌||◌, not, ◌&&◌, nat_lt, cond, List, [], ◌∷◌, ◌++◌, map}
use Rattle.qn_index.specs.Legs.{SectorValue}
use Rattle.qn_opsum.specs.Strings.{Factor}
use Rattle.qn_auto.specs.Automaton.{Term, Stage, stages}
use Rattle.qn_auto.specs.Automaton.Stage.{not_begun, rest, done}

-- a strict total order, as a test
pub record IsStrict {A : Type 0} (lower : A → A → Bool) : Type 0 where
  pub itself : (x : A) → lower x x ≡ false
  pub trans : (x y z : A) → lower x y ≡ true → lower y z ≡ true → lower x z ≡ true
  pub total : (x y : A) → lower x y ≡ false → lower y x ≡ false → x ≡ y

-- by a first key, and then as the rest tells
abbrev pub lexical : {A : Type 0} → (A → A → Bool) → A → A → Bool → Bool
lexical lower a b then = lower a b || (not (lower b a) && then)

-- by site, then by the operator's number, which follows the bytes of its name
abbrev pub factor_lower : Factor → Factor → Bool
factor_lower f g = lexical nat_lt f.site g.site (nat_lt f.op g.op)

-- element by element; a list that is a prefix of another comes first
abbrev pub list_lower : List Factor → List Factor → Bool
list_lower [] [] = false
list_lower [] (g ∷ gs) = true
list_lower (f ∷ fs) [] = false
list_lower (f ∷ fs) (g ∷ gs) = lexical factor_lower f g (list_lower fs gs)

-- not begun, then the lists, then done
abbrev pub kind_lower : Stage → Stage → Bool
kind_lower not_begun not_begun = false
kind_lower not_begun (rest gs) = true
kind_lower not_begun done = true
kind_lower (rest fs) not_begun = false
kind_lower (rest fs) (rest gs) = list_lower fs gs
kind_lower (rest fs) done = true
kind_lower done not_begun = false
kind_lower done (rest gs) = false
kind_lower done done = false

-- the order of the states at a link: by charge, then by kind
abbrev pub link_order : (List ℤ → List ℤ → Bool) → (Stage → List ℤ) → Stage → Stage → Bool
link_order lower charge x y = lexical lower (charge x) (charge y) (kind_lower x y)

-- each element comes before all later ones
abbrev pub AllLater : {A : Type 0} → (A → A → Bool) → A → List A → Type 0
AllLater lower x [] = Unit {0}
AllLater lower x (y ∷ ys) = (lower x y ≡ true) × AllLater lower x ys

abbrev pub IsAscending : {A : Type 0} → (A → A → Bool) → List A → Type 0
IsAscending lower [] = Unit {0}
IsAscending lower (x ∷ xs) = AllLater lower x xs × IsAscending lower xs

-- a list in order of which equal neighbours are brought together

-- whether x may stand at the end of a list: it is empty, or its last element is below x
abbrev pub is_next : {A : Type 0} → (A → A → Bool) → List A → A → Bool
is_next lower [] x = true
is_next lower (y ∷ []) x = lower y x
is_next lower (y ∷ z ∷ ys) x = is_next lower (z ∷ ys) x

abbrev pub pushed : {A : Type 0} → (A → A → Bool) → List A → A → List A
pushed lower out x = cond (is_next lower out x) (out ++ (x ∷ [])) out

-- a list in order, equal elements once
abbrev pub squeeze : {A : Type 0} → (A → A → Bool) → List A → List A → List A
squeeze lower out [] = out
squeeze lower out (x ∷ xs) = squeeze lower (pushed lower out x) xs

-- the sectors of neighbouring values of one charge
abbrev pub add_value : (List ℤ → List ℤ → Bool) → List ℤ → List SectorValue → List SectorValue
add_value lower q [] = record { charge = q; dim = 1 } ∷ []
add_value lower q (s ∷ ss) = cond (lower q s.charge) (record { charge = q; dim = 1 } ∷ s ∷ ss) (record { charge = s.charge; dim = suc s.dim } ∷ ss)

abbrev pub sectors_of : (List ℤ → List ℤ → Bool) → List (List ℤ) → List SectorValue
sectors_of lower [] = []
sectors_of lower (q ∷ qs) = add_value lower q (sectors_of lower qs)

-- the charges of the values of a leg with these sectors
abbrev pub repeated : List ℤ → ℕ → List (List ℤ) → List (List ℤ)
repeated q zero qs = qs
repeated q (suc n) qs = q ∷ repeated q n qs

abbrev pub charges_of : List SectorValue → List (List ℤ)
charges_of [] = []
charges_of (s ∷ ss) = repeated s.charge s.dim (charges_of ss)

-- the states at a link ascend; the leg's sectors have ascending charges, one sector a charge; and its values have the charges of the states
abbrev pub LinkLaw : Type 0
LinkLaw =
    (lower : List ℤ → List ℤ → Bool) → IsStrict lower → (charge : Stage → List ℤ) (ws : List Term) (j : ℕ) →
    IsAscending (link_order lower charge) (stages (link_order lower charge) ws j)
    × IsAscending lower (map (λ (s : SectorValue). s.charge) (sectors_of lower (map charge (stages (link_order lower charge) ws j))))
    × (charges_of (sectors_of lower (map charge (stages (link_order lower charge) ws j))) ≡ map charge (stages (link_order lower charge) ws j))
