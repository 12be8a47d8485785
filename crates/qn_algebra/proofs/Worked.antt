-- The worked examples: what the definitions and the laws ask for is met.
use Rattle.std.proofs.Common.{◌≡◌, ℕ, zero, suc, ◌<◌, pos, List, [], ◌∷◌, ◌++◌, refl, sym, subst, arith}
use Rattle.qn_facts.proofs.Numbers.{below_two}
use Rattle.qn_gauss.specs.Gaussian.{zero_g, one_g, add_g, mul_g, neg_g, conj_g}
use Rattle.qn_charge.specs.Charges.{sum_charge, neg_charge}
use Rattle.qn_index.specs.declared.leg.Dir.TheVariants.{Out, In}
use Rattle.qn_index.specs.Legs.{LegValue, flipped, total}
use Rattle.qn_index.specs.Places.{IsValues}
use Rattle.qn_value.specs.Examples.{fermions, mode}
use Rattle.qn_value.specs.Tensors.{entry_of}
use Rattle.qn_block.specs.Blocked.{tensor_of}
use Rattle.qn_braket.specs.Chains.{leg_at, tensor_at, first_leg, last_leg, operator_legs, amplitude, element}
use Rattle.qn_braket.specs.Examples.{number, two_sites, state, hop}
use Rattle.qn_links.specs.Additions.{add_entry}
use Rattle.qn_links.specs.Turns.{turn_entry}
use Rattle.qn_algebra.specs.Standard.{IsStandard, entries_of}
use Rattle.qn_algebra.specs.Links.{left_legs, right_legs, legs_at, second_legs, no_legs}
use Rattle.qn_algebra.specs.Joined.{joined_link, joined_entry, IsProduct, IsApplied}
use Rattle.qn_algebra.specs.Added.{added_link, IsAdded}
use Rattle.qn_algebra.specs.Turned.{turned_link, IsTurned}
use Rattle.qn_algebra.specs.Examples.{back, there_and_back, doubled, hopped}

pub adjoint_1 : element fermions back (0 ∷ 1 ∷ []) (1 ∷ 0 ∷ []) ≡ number (pos 1) (pos 0)
unfolding zero_g one_g add_g mul_g neg_g
adjoint_1 = refl

pub product_1 : element fermions there_and_back (1 ∷ 0 ∷ []) (1 ∷ 0 ∷ []) ≡ number (pos 1) (pos 0)
unfolding zero_g one_g add_g mul_g neg_g
product_1 = refl

pub sum_2 : element fermions doubled (1 ∷ 0 ∷ []) (0 ∷ 1 ∷ []) ≡ number (pos 2) (pos 0)
unfolding zero_g one_g add_g mul_g neg_g
sum_2 = refl

pub applied_3 : amplitude fermions hopped (1 ∷ 0 ∷ []) ≡ number (pos 3) (pos 0)
unfolding zero_g one_g add_g mul_g neg_g
applied_3 = refl

-- cases

one_link : (P : ℕ → Type 0) → P 0 → (j : ℕ) → suc j < 2 → P j
one_link P a zero h = a
one_link P a (suc j) h = absurd (omega (arith, h))

-- a list of values of no leg, of a leg with one value, with two

pub of_none : (P : List ℕ → Type 0) → P [] → (xs : List ℕ) → xs ≡ [] → P xs
of_none P a xs e = subst P (sym e) a

below_one : (P : ℕ → Type 0) → P 0 → (v : ℕ) → v < 1 → P v
below_one P a zero h = a
below_one P a (suc v) h = absurd (omega (arith, h))

of_one : (l : LegValue) → total l.sectors ≡ 1 → (P : List ℕ → Type 0) → P (0 ∷ []) → (xs : List ℕ) → IsValues (l ∷ []) xs → P xs
of_one l n P a [] h = absurd h
of_one l n P a (v ∷ vs) h = of_none (λ ys. P (v ∷ ys)) (below_one (λ w. P (w ∷ [])) a v (subst (λ k. v < k) n h.0)) vs h.1

of_two : (l : LegValue) → total l.sectors ≡ 2 → (P : List ℕ → Type 0) → P (0 ∷ []) → P (1 ∷ []) → (xs : List ℕ) → IsValues (l ∷ []) xs → P xs
of_two l n P a b [] h = absurd h
of_two l n P a b (v ∷ vs) h = of_none (λ ys. P (v ∷ ys)) (below_two (λ w. P (w ∷ [])) a b v (subst (λ k. v < k) n h.0)) vs h.1

pub is_hop : IsStandard fermions hop
is_hop = record {
  left = one_link (λ j. (first_leg (tensor_at hop (suc j))).arrow ≡ Out) refl;
  right = one_link (λ j. (last_leg (tensor_at hop j)).arrow ≡ In) refl;
  flux = one_link (λ j. (tensor_at hop j).flux ≡ pos 0 ∷ []) refl;
}

pub is_state : IsStandard fermions state
is_state = record {
  left = one_link (λ j. (first_leg (tensor_at state (suc j))).arrow ≡ Out) refl;
  right = one_link (λ j. (last_leg (tensor_at state j)).arrow ≡ In) refl;
  flux = one_link (λ j. (tensor_at state j).flux ≡ pos 0 ∷ []) refl;
}

-- the entries of each example, for all values

abbrev TurnedAt : ℕ → ℕ → ℕ → List ℕ → List ℕ → Type 0
TurnedAt j x y left right = entry_of (tensor_of (tensor_at back j)) (left ++ (x ∷ y ∷ right)) ≡ turn_entry (entries_of fermions hop) j left x y right

turned_first : (x y : ℕ) → x < 2 → y < 2 → TurnedAt 0 x y [] (0 ∷ [])
unfolding zero_g one_g add_g mul_g neg_g conj_g
turned_first x y hx hy =
    below_two (λ x. (y : ℕ) → y < 2 → TurnedAt 0 x y [] (0 ∷ [])) (below_two (λ y. TurnedAt 0 0 y [] (0 ∷ [])) refl refl) (below_two (λ y. TurnedAt 0 1 y [] (0 ∷ [])) refl refl) x hx y hy

turned_second : (x y : ℕ) → x < 2 → y < 2 → TurnedAt 1 x y (0 ∷ []) []
unfolding zero_g one_g add_g mul_g neg_g conj_g
turned_second x y hx hy =
    below_two (λ x. (y : ℕ) → y < 2 → TurnedAt 1 x y (0 ∷ []) []) (below_two (λ y. TurnedAt 1 0 y (0 ∷ []) []) refl refl) (below_two (λ y. TurnedAt 1 1 y (0 ∷ []) []) refl refl) x hx y hy

pub is_turned : IsTurned fermions two_sites hop back
is_turned = record {
  shape = record { count = refl; legs = below_two (λ j. (tensor_at back j).legs ≡ legs_at (turned_link fermions hop) (leg_at two_sites j ∷ second_legs (leg_at two_sites j)) 2 j) refl refl };
  flux = below_two (λ j. (tensor_at back j).flux ≡ neg_charge fermions (tensor_at hop j).flux) refl refl;
  entries = λ j x y left right h hl hw hr. below_two
      (λ j. IsValues (left_legs (turned_link fermions hop) j) left → IsValues (operator_legs (leg_at two_sites j)) (x ∷ y ∷ []) → IsValues (right_legs (turned_link fermions hop) 2 j) right →
      TurnedAt j x y left right)
      (λ l w r. of_none (λ u. TurnedAt 0 x y u right) (of_one (flipped (turned_link fermions hop 1)) refl (λ u. TurnedAt 0 x y [] u) (turned_first x y w.0 w.1.0) right r) left l)
      (λ l w r. of_one (turned_link fermions hop 1) refl (λ u. TurnedAt 1 x y u right) (of_none (λ u. TurnedAt 1 x y (0 ∷ []) u) (turned_second x y w.0 w.1.0) right r) left l)
      j h hl hw hr;
}

abbrev ProductAt : ℕ → List ℕ → ℕ → List ℕ → List ℕ → Type 0
ProductAt j left x r right = entry_of (tensor_of (tensor_at there_and_back j)) (left ++ (x ∷ (r ++ right))) ≡ joined_entry fermions two_sites hop back j left x r right

product_first : (x : ℕ) (r : List ℕ) → x < 2 → IsValues (second_legs (leg_at two_sites 0)) r → ProductAt 0 [] x r (0 ∷ [])
unfolding zero_g one_g add_g mul_g neg_g
product_first x r hx hr =
    below_two (λ x. ProductAt 0 [] x r (0 ∷ []))
    (of_two (mode In) refl (λ r. ProductAt 0 [] 0 r (0 ∷ [])) refl refl r hr)
    (of_two (mode In) refl (λ r. ProductAt 0 [] 1 r (0 ∷ [])) refl refl r hr) x hx

product_second : (x : ℕ) (r : List ℕ) → x < 2 → IsValues (second_legs (leg_at two_sites 1)) r → ProductAt 1 (0 ∷ []) x r []
unfolding zero_g one_g add_g mul_g neg_g
product_second x r hx hr =
    below_two (λ x. ProductAt 1 (0 ∷ []) x r [])
    (of_two (mode In) refl (λ r. ProductAt 1 (0 ∷ []) 0 r []) refl refl r hr)
    (of_two (mode In) refl (λ r. ProductAt 1 (0 ∷ []) 1 r []) refl refl r hr) x hx

pub is_product : IsProduct fermions two_sites hop back there_and_back
is_product = record {
  shape = record { count = refl; legs = below_two (λ j. (tensor_at there_and_back j).legs ≡ legs_at (joined_link fermions hop back) (leg_at two_sites j ∷ second_legs (leg_at two_sites j)) 2 j) refl refl };
  flux = below_two (λ j. (tensor_at there_and_back j).flux ≡ sum_charge fermions (tensor_at hop j).flux (tensor_at back j).flux) refl refl;
  entries = λ j x left r right h hl hw hr. below_two
      (λ j. IsValues (left_legs (joined_link fermions hop back) j) left → IsValues (leg_at two_sites j ∷ second_legs (leg_at two_sites j)) (x ∷ r) →
      IsValues (right_legs (joined_link fermions hop back) 2 j) right → ProductAt j left x r right)
      (λ l w q. of_none (λ u. ProductAt 0 u x r right) (of_one (flipped (joined_link fermions hop back 1)) refl (λ u. ProductAt 0 [] x r u) (product_first x r w.0 w.1) right q) left l)
      (λ l w q. of_one (joined_link fermions hop back 1) refl (λ u. ProductAt 1 u x r right) (of_none (λ u. ProductAt 1 (0 ∷ []) x r u) (product_second x r w.0 w.1) right q) left l)
      j h hl hw hr;
}

abbrev AddedAt : ℕ → List ℕ → ℕ → ℕ → List ℕ → Type 0
AddedAt j left x y right = entry_of (tensor_of (tensor_at doubled j)) (left ++ ((x ∷ y ∷ []) ++ right)) ≡ add_entry (entries_of fermions hop) (entries_of fermions hop) j left (x ∷ y ∷ []) right

added_first : (x y : ℕ) → x < 2 → y < 2 → AddedAt 0 [] x y (0 ∷ []) × AddedAt 0 [] x y (1 ∷ [])
unfolding zero_g one_g add_g mul_g neg_g
added_first x y hx hy =
    below_two (λ x. (y : ℕ) → y < 2 → AddedAt 0 [] x y (0 ∷ []) × AddedAt 0 [] x y (1 ∷ []))
    (below_two (λ y. AddedAt 0 [] 0 y (0 ∷ []) × AddedAt 0 [] 0 y (1 ∷ [])) (refl, refl) (refl, refl))
    (below_two (λ y. AddedAt 0 [] 1 y (0 ∷ []) × AddedAt 0 [] 1 y (1 ∷ [])) (refl, refl) (refl, refl)) x hx y hy

added_second : (x y : ℕ) → x < 2 → y < 2 → AddedAt 1 (0 ∷ []) x y [] × AddedAt 1 (1 ∷ []) x y []
unfolding zero_g one_g add_g mul_g neg_g
added_second x y hx hy =
    below_two (λ x. (y : ℕ) → y < 2 → AddedAt 1 (0 ∷ []) x y [] × AddedAt 1 (1 ∷ []) x y [])
    (below_two (λ y. AddedAt 1 (0 ∷ []) 0 y [] × AddedAt 1 (1 ∷ []) 0 y []) (refl, refl) (refl, refl))
    (below_two (λ y. AddedAt 1 (0 ∷ []) 1 y [] × AddedAt 1 (1 ∷ []) 1 y []) (refl, refl) (refl, refl)) x hx y hy

pair_of : (d : ℕ) (P : List ℕ → Type 0) → ((x y : ℕ) → x < d → y < d → P (x ∷ y ∷ [])) → (a b : LegValue) → total a.sectors ≡ d → total b.sectors ≡ d → (w : List ℕ) → IsValues (a ∷ b ∷ []) w → P w
pair_of d P f a b e k [] h = absurd h
pair_of d P f a b e k (x ∷ []) h = absurd h.1
pair_of d P f a b e k (x ∷ y ∷ zs) h = of_none (λ u. P (x ∷ y ∷ u)) (f x y (subst (λ n. x < n) e h.0) (subst (λ n. y < n) k h.1.0)) zs h.1.1

abbrev AddedBy : ℕ → List ℕ → List ℕ → List ℕ → Type 0
AddedBy j left w right = entry_of (tensor_of (tensor_at doubled j)) (left ++ (w ++ right)) ≡ add_entry (entries_of fermions hop) (entries_of fermions hop) j left w right

pub is_added : IsAdded fermions two_sites hop hop doubled
is_added = record {
  shape = record { count = refl; legs = below_two (λ j. (tensor_at doubled j).legs ≡ legs_at (added_link hop hop) (leg_at two_sites j ∷ second_legs (leg_at two_sites j)) 2 j) refl refl };
  flux = below_two (λ j. (tensor_at doubled j).flux ≡ (tensor_at hop j).flux) refl refl;
  entries = λ j left w right h hl hw hr. below_two
      (λ j. IsValues (left_legs (added_link hop hop) j) left → IsValues (operator_legs (leg_at two_sites j)) w → IsValues (right_legs (added_link hop hop) 2 j) right → AddedBy j left w right)
      (λ l v r. pair_of 2 (λ u. AddedBy 0 left u right) (λ x y hx hy. of_none (λ u. AddedBy 0 u (x ∷ y ∷ []) right)
      (of_two (flipped (added_link hop hop 1)) refl (λ u. AddedBy 0 [] (x ∷ y ∷ []) u) (added_first x y hx hy).0 (added_first x y hx hy).1 right r) left l) (mode Out) (mode In) refl refl w v)
      (λ l v r. pair_of 2 (λ u. AddedBy 1 left u right) (λ x y hx hy. of_two (added_link hop hop 1) refl (λ u. AddedBy 1 u (x ∷ y ∷ []) right)
      (of_none (λ u. AddedBy 1 (0 ∷ []) (x ∷ y ∷ []) u) (added_second x y hx hy).0 right r)
      (of_none (λ u. AddedBy 1 (1 ∷ []) (x ∷ y ∷ []) u) (added_second x y hx hy).1 right r) left l) (mode Out) (mode In) refl refl w v)
      j h hl hw hr;
}

abbrev AppliedAt : ℕ → List ℕ → ℕ → List ℕ → List ℕ → Type 0
AppliedAt j left x r right = entry_of (tensor_of (tensor_at hopped j)) (left ++ (x ∷ (r ++ right))) ≡ joined_entry fermions two_sites hop state j left x r right

applied_first : (x : ℕ) → x < 2 → AppliedAt 0 [] x [] (0 ∷ []) × AppliedAt 0 [] x [] (1 ∷ [])
unfolding zero_g one_g add_g mul_g neg_g
applied_first x hx = below_two (λ x. AppliedAt 0 [] x [] (0 ∷ []) × AppliedAt 0 [] x [] (1 ∷ [])) (refl, refl) (refl, refl) x hx

applied_second : (x : ℕ) → x < 2 → AppliedAt 1 (0 ∷ []) x [] [] × AppliedAt 1 (1 ∷ []) x [] []
unfolding zero_g one_g add_g mul_g neg_g
applied_second x hx = below_two (λ x. AppliedAt 1 (0 ∷ []) x [] [] × AppliedAt 1 (1 ∷ []) x [] []) (refl, refl) (refl, refl) x hx

pub is_applied : IsApplied fermions two_sites hop state hopped
is_applied = record {
  shape = record { count = refl; legs = below_two (λ j. (tensor_at hopped j).legs ≡ legs_at (joined_link fermions hop state) (leg_at two_sites j ∷ no_legs (leg_at two_sites j)) 2 j) refl refl };
  flux = below_two (λ j. (tensor_at hopped j).flux ≡ sum_charge fermions (tensor_at hop j).flux (tensor_at state j).flux) refl refl;
  entries = λ j x left r right h hl hw hr. below_two
      (λ j. IsValues (left_legs (joined_link fermions hop state) j) left → IsValues (leg_at two_sites j ∷ no_legs (leg_at two_sites j)) (x ∷ r) →
      IsValues (right_legs (joined_link fermions hop state) 2 j) right → AppliedAt j left x r right)
      (λ l w q. of_none (λ u. AppliedAt 0 u x r right) (of_none (λ u. AppliedAt 0 [] x u right)
      (of_two (flipped (joined_link fermions hop state 1)) refl (λ u. AppliedAt 0 [] x [] u) (applied_first x w.0).0 (applied_first x w.0).1 right q) r w.1) left l)
      (λ l w q. of_none (λ u. AppliedAt 1 left x u right) (of_two (joined_link fermions hop state 1) refl (λ u. AppliedAt 1 u x [] right)
      (of_none (λ u. AppliedAt 1 (0 ∷ []) x [] u) (applied_second x w.0).0 right q)
      (of_none (λ u. AppliedAt 1 (1 ∷ []) x [] u) (applied_second x w.0).1 right q) left l) r w.1)
      j h hl hw hr;
}
