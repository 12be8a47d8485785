-- What a step makes of tensors with labels is the tensor of its result.
use Rattle.std.proofs.lemmas.Simd.{map-map}
use mathlib.Core.Path.{fun_ext}
use Rattle.std.proofs.Common.{◌≡◌, ◌≢◌, ◌<◌, ℕ, ◌+◌, ℤ, pos, Bool, true, false, List, [], ◌∷◌, ◌++◌, refl, sym, ◌∙◌, ap, ap₂, subst, map, length, get_or, append-nil, ◌⊎◌, inl, inr, arith}
use Rattle.std.specs.List.{All, flat_map}
use Rattle.std.proofs.lemmas.List.{length-map, length-append, get_or_append_left, get_or-append-add}
use Rattle.std.proofs.lemmas.List.Elements.{All-filter, All-map, All-contains_itself}
use Rattle.qn_sign.specs.Sign.{xor, IsDistinct, Perm}
use Rattle.qn_sign.specs.Sign.Perm.{none, keep, swap, then_by}
use Rattle.qn_sign.specs.Positions.{positions}
use Rattle.qn_gauss.specs.Gaussian.{zero_g, signed}
use Rattle.qn_charge.specs.declared.factor.Factor.{Factor}
use Rattle.qn_charge.specs.Charges.{IsGroup, sum_charge, parity, xor as xor_charge}
use Rattle.qn_charge.specs.Laws.{parity_adds}
use Rattle.qn_index.specs.Legs.{SectorValue, LegValue}
use Rattle.qn_index.specs.Tuples.{IsTuple, tuples, admits, admitted}
use Rattle.qn_index.specs.Places.{IsValues, values_at, block_size}
use Rattle.qn_index.proofs.Shapes.{tuple_contained}
use Rattle.qn_value.specs.Networks.{Node, Bond, same_end, word, pairs_of, labels, odd_flux, kept, at_values, contract, IsNetwork}
use Rattle.qn_value.specs.Tensors.{TensorValue, IsTensor, entry_of}
use Rattle.qn_value.specs.Labels.{Placed, value_of}
use Rattle.qn_value.specs.Blocks.{legs_on}
use Rattle.qn_value.specs.Local.{coupled, open_legs, shared_couples, IsCoupling}
use Rattle.qn_value.specs.Magnitudes.{passes, first_where, place_or, first_passing, magnitudes, magnitude_of, total}
use Rattle.qn_sign.proofs.Order.{distinct-perm, distinct_second}
use Rattle.qn_value.proofs.NetLaws.{end_test, signed-zero}
use Rattle.qn_value.proofs.PlacedLemmas.{all_first, all_others}
use Rattle.qn_value.proofs.RowsLemmas.{values_back}
use Rattle.qn_value.proofs.BoundsLemmas.{contract_bounded}
use Rattle.qn_value.proofs.CoupledLemmas.{word_of}
use Rattle.qn_net.specs.Refusals.{label_at}
use Rattle.qn_net.specs.Operations.{parities_on, labels_left, IsNodeOf, AreTwistedLines, AreLines, AreCouplesOf, ArePairsOf}
use Rattle.qn_net.proofs.PlanSteps.{signed_node}
use Rattle.qn_net.proofs.Held.{AreNodesOf, IsBeyond, entry_range, range_of, dims, all_bounded, all_labels, labels_kept}
use Rattle.qn_net.proofs.CoupledNodes.{label_in, longs, IsCoupledBy, local, local_bonds, local_opens, names, alike, apart, local_net, bonds_are, opens_are, open_legs_are, same_entry}
use Rattle.qn_net.proofs.NamedCouples.{coupled_by, coupling, label_among}
use Rattle.qn_net.proofs.SizedNodes.{same_magnitude}
use Rattle.qn_value.proofs.TensorBlocks.{values_long}

-- maps that agree at each element
pub map_all : {A B : Type 0} (f g : A → B) (xs : List A) → All (λ x. f x ≡ g x) xs → map f xs ≡ map g xs
map_all f g [] h = refl
map_all f g (x ∷ xs) h = ap₂ ◌∷◌ (all_first (λ x. f x ≡ g x) x xs h) (map_all f g xs (all_others (λ x. f x ≡ g x) x xs h))

-- places of a tensor

-- sums of magnitudes that agree pass at the same place
pub passing_same : (f g : List ℕ → ℕ) (ls : List LegValue) (ts : List (List ℕ)) → All (IsTuple ls) ts → ((xs : List ℕ) → length xs ≡ length ls → f xs ≡ g xs) →
    first_passing f ls ts ≡ first_passing g ls ts
passing_same f g ls [] h e = refl
passing_same f g ls (t ∷ ts) h e =
    ap₂ (place_or t)
    (ap (λ (p : ℕ → Bool). first_where p (positions (block_size ls t))) (fun_ext (λ o. ap passes (e (values_at ls t o) (values_long ls t o (all_first (IsTuple ls) t ts h))))))
    (passing_same f g ls ts (all_others (IsTuple ls) t ts h) e)

pub tuples_admitted : (fs : List Factor) (ls : List LegValue) (q : List ℤ) → All (IsTuple ls) (admitted fs ls q)
tuples_admitted fs ls q = All-filter (admits fs ls q) (IsTuple ls) (tuples ls) (λ k d l. tuple_contained ls (get_or (tuples ls) k d) (All-contains_itself (tuples ls) k d l))

-- some tensors contracted

module _ (fs : List Factor) (sectors : ℤ → List SectorValue) (ps : List Placed) (ns : List Node) (held : AreNodesOf fs sectors ps ns) (cs : List (ℕ × ℕ)) (bonds : List Bond)
    (net : IsNetwork ns bonds (kept ns bonds)) (lines : AreLines sectors bonds) (good : IsCoupling (word_of (map (λ p. p.tensor) ps)) cs) (by : IsCoupledBy ns bonds cs) where
  kept_distinct : IsDistinct same_end (kept ns bonds)
  kept_distinct = distinct_second same_end (pairs_of bonds) (kept ns bonds) (distinct-perm same_end end_test net.complete net.distinct)

  legs_long : length (open_legs (map (λ p. p.tensor) ps) cs) ≡ length (kept ns bonds)
  legs_long = ap (λ (gs : List LegValue). length gs) (open_legs_are fs sectors ps ns held cs bonds net lines good by) ∙ length-map (kept ns bonds) _

  pub value_same : (xs : List ℕ) → length xs ≡ length (open_legs (map (λ p. p.tensor) ps) cs) →
      value_of fs (coupled (map (λ p. p.tensor) ps) cs) [] (length xs) xs ≡ (contract (parities_on fs sectors) ns bonds (kept ns bonds)).entry xs
  value_same xs long =
      ap (λ n. value_of fs (coupled (map (λ p. p.tensor) ps) cs) [] n xs) long
      ∙ same_entry fs sectors ps ns held cs bonds net lines good by xs

  pub magnitude_same : (xs : List ℕ) → length xs ≡ length (open_legs (map (λ p. p.tensor) ps) cs) →
      magnitude_of (coupled (map (λ p. p.tensor) ps) cs) (length xs) xs ≡ total bonds (magnitudes ns) (at_values (kept ns bonds) xs)
  magnitude_same xs long =
      ap (λ n. magnitude_of (coupled (map (λ p. p.tensor) ps) cs) n xs) long
      ∙ same_magnitude (names fs sectors ps ns held cs bonds net lines good by) (local fs sectors ps ns held cs bonds net lines good by) ns
      (local_bonds fs sectors ps ns held cs bonds net lines good by) bonds (local_opens fs sectors ps ns held cs bonds net lines good by)
      (alike fs sectors ps ns held cs bonds net lines good by) (local_net fs sectors ps ns held cs bonds net lines good by) (apart fs sectors ps ns held cs bonds net lines good by)
      (bonds_are fs sectors ps ns held cs bonds net lines good by) (opens_are fs sectors ps ns held cs bonds net lines good by) xs

  -- a tensor with the entries of the contraction, but for a sign, is this tensor of the network
  pub node_made : (r : TensorValue) (s : Bool) → r.group ≡ fs → IsTensor r → r.legs ≡ open_legs (map (λ p. p.tensor) ps) cs → parity fs r.flux ≡ odd_flux ns →
      ((xs : List ℕ) → IsValues r.legs xs → entry_of r xs ≡ signed s (value_of fs (coupled (map (λ p. p.tensor) ps) cs) [] (length xs) xs)) →
      IsNodeOf fs sectors (record { tensor = r; labels = labels_left (flat_map (λ (p : Placed). p.labels) ps) bonds }) (signed_node s (contract (parities_on fs sectors) ns bonds (kept ns bonds)))
  node_made r s group tensor legs odd entries = record {
    group = group;
    tensor = tensor;
    labels = ap (λ ls. labels_left ls bonds) (all_labels fs sectors ps ns held) ∙ labels_kept ns bonds;
    legs = legs ∙ open_legs_are fs sectors ps ns held cs bonds net lines good by;
    odd = odd;
    entry = λ xs long. at xs long (entry_range r tensor xs) (range_of sectors (kept ns bonds) kept_distinct xs long);
  }
    where
      legs_are : r.legs ≡ legs_on sectors (kept ns bonds)
      legs_are = legs ∙ open_legs_are fs sectors ps ns held cs bonds net lines good by

      inside : (xs : List ℕ) → length xs ≡ length (kept ns bonds) → IsValues r.legs xs → entry_of r xs ≡ signed s ((contract (parities_on fs sectors) ns bonds (kept ns bonds)).entry xs)
      inside xs long v = entries xs v ∙ ap (signed s) (value_same xs (long ∙ sym legs_long))

      at : (xs : List ℕ) → length xs ≡ length (kept ns bonds) → IsValues r.legs xs ⊎ (entry_of r xs ≡ zero_g) → IsValues (legs_on sectors (kept ns bonds)) xs ⊎ IsBeyond sectors (kept ns bonds) xs →
          entry_of r xs ≡ signed s ((contract (parities_on fs sectors) ns bonds (kept ns bonds)).entry xs)
      at xs long (inl v) w = inside xs long v
      at xs long (inr z) (inl v) = inside xs long (subst (λ gs. IsValues gs xs) (sym legs_are) v)
      at xs long (inr z) (inr w) =
          z ∙ sym (ap (signed s)
          (ap (contract (parities_on fs sectors) ns bonds (kept ns bonds)).entry (sym (values_back (kept ns bonds) xs kept_distinct long))
          ∙ contract_bounded (dims fs sectors) (parities_on fs sectors) ns bonds (kept ns bonds) net (all_bounded fs sectors ps ns held) (at_values (kept ns bonds) xs) w.0 w.1 w.2)
          ∙ signed-zero s)

-- lines in another order, and some of them

pub lines_perm : (tw : List ℤ) (sectors : ℤ → List SectorValue) {bs cs : List Bond} → Perm bs cs → AreTwistedLines tw sectors bs → AreTwistedLines tw sectors cs
lines_perm tw sectors none h = h
lines_perm tw sectors (keep p) h = (h.0, h.1, lines_perm tw sectors p h.2)
lines_perm tw sectors swap h = (h.2.0, h.2.1, (h.0, h.1, h.2.2))
lines_perm tw sectors (then_by p q) h = lines_perm tw sectors q (lines_perm tw sectors p h)

pub lines_first : (tw : List ℤ) (sectors : ℤ → List SectorValue) (bs cs : List Bond) → AreTwistedLines tw sectors (bs ++ cs) → AreTwistedLines tw sectors bs
lines_first tw sectors [] cs h = tt
lines_first tw sectors (b ∷ bs) cs h = (h.0, h.1, lines_first tw sectors bs cs h.2)

pub lines_second : (tw : List ℤ) (sectors : ℤ → List SectorValue) (bs cs : List Bond) → AreTwistedLines tw sectors (bs ++ cs) → AreTwistedLines tw sectors cs
lines_second tw sectors [] cs h = h
lines_second tw sectors (b ∷ bs) cs h = lines_second tw sectors bs cs h.2

-- the places of a word

many_labels : (fs : List Factor) (sectors : ℤ → List SectorValue) (ps : List Placed) (ns : List Node) → AreNodesOf fs sectors ps ns → length (flat_map (λ (p : Placed). p.labels) ps) ≡ length (word ns)
many_labels fs sectors ps ns held = ap (λ (ls : List ℤ). length ls) (all_labels fs sectors ps ns held) ∙ length-map (word ns) (λ e. e.label)

-- one tensor
module _ (fs : List Factor) (sectors : ℤ → List SectorValue) (p : Placed) (x : Node) (hp : IsNodeOf fs sectors p x) (bonds : List Bond) (cs : List (ℕ × ℕ)) (named : AreCouplesOf p.labels bonds cs)
    (net : IsNetwork (x ∷ []) bonds (kept (x ∷ []) bonds)) where
  label_one : (i : ℕ) → label_in (x ∷ []) i ≡ label_at p.labels i
  label_one i = sym (label_among fs sectors (p ∷ []) (x ∷ []) (hp, tt) i) ∙ ap (λ ls. get_or ls i (pos 0)) (append-nil p.labels)

  one_first : map (λ c. label_in (x ∷ []) c.0) cs ≡ labels bonds
  one_first = map_all (λ c. label_in (x ∷ []) c.0) (λ c. label_at p.labels c.0) cs (λ k d l. label_one (get_or cs k d).0) ∙ named.first

  one_second : map (λ c. label_in (x ∷ []) c.1) cs ≡ labels bonds
  one_second = map_all (λ c. label_in (x ∷ []) c.1) (λ c. label_at p.labels c.1) cs (λ k d l. label_one (get_or cs k d).1) ∙ named.second

  one_within : All (λ c. (c.0 < length (word (x ∷ []))) × (c.1 < length (word (x ∷ []))) × (c.0 ≢ c.1)) cs
  one_within =
      subst (λ n. All (λ c. (c.0 < n) × (c.1 < n) × (c.0 ≢ c.1)) cs)
      (ap (λ (ls : List ℤ). length ls) (sym (append-nil p.labels)) ∙ many_labels fs sectors (p ∷ []) (x ∷ []) (hp, tt)) named.within

  pub one_coupling : IsCoupling (p.tensor.legs ++ []) cs
  one_coupling = coupling fs sectors (p ∷ []) (x ∷ []) (hp, tt) cs bonds net one_first one_second one_within

  pub one_coupled : IsCoupledBy (x ∷ []) bonds cs
  one_coupled = coupled_by fs sectors (p ∷ []) (x ∷ []) (hp, tt) cs bonds net one_first one_second one_within

-- two tensors
module _ (fs : List Factor) (sectors : ℤ → List SectorValue) (p q : Placed) (x y : Node) (hp : IsNodeOf fs sectors p x) (hq : IsNodeOf fs sectors q y) (bonds : List Bond) (shared : List (ℕ × ℕ))
    (named : ArePairsOf p.labels q.labels bonds shared) (net : IsNetwork (x ∷ y ∷ []) bonds (kept (x ∷ y ∷ []) bonds)) where
  long_first : length p.labels ≡ length p.tensor.legs
  long_first = all_first (λ (r : Placed). length r.labels ≡ length r.tensor.legs) p (q ∷ []) (longs fs sectors (p ∷ q ∷ []) (x ∷ y ∷ []) (hp, (hq, tt)))

  label_first : (i : ℕ) → i < length p.labels → label_in (x ∷ y ∷ []) i ≡ label_at p.labels i
  label_first i l = sym (label_among fs sectors (p ∷ q ∷ []) (x ∷ y ∷ []) (hp, (hq, tt)) i) ∙ get_or_append_left p.labels (q.labels ++ []) (pos 0) i l

  label_second : (j : ℕ) → label_in (x ∷ y ∷ []) (length p.tensor.legs + j) ≡ label_at q.labels j
  label_second j =
      ap (λ n. label_in (x ∷ y ∷ []) (n + j)) (sym long_first)
      ∙ sym (label_among fs sectors (p ∷ q ∷ []) (x ∷ y ∷ []) (hp, (hq, tt)) (length p.labels + j))
      ∙ get_or-append-add p.labels (q.labels ++ []) j (pos 0)
      ∙ ap (λ ls. get_or ls j (pos 0)) (append-nil q.labels)

  two_first : map (λ c. label_in (x ∷ y ∷ []) c.0) (shared_couples p.tensor shared) ≡ labels bonds
  two_first =
      map-map (λ (c : ℕ × ℕ). label_in (x ∷ y ∷ []) c.0) (λ (c : ℕ × ℕ). (c.0, length p.tensor.legs + c.1)) shared
      ∙ map_all (λ c. label_in (x ∷ y ∷ []) c.0) (λ c. label_at p.labels c.0) shared (λ k d l. label_first (get_or shared k d).0 (named.within k d l).0)
      ∙ named.first

  two_second : map (λ c. label_in (x ∷ y ∷ []) c.1) (shared_couples p.tensor shared) ≡ labels bonds
  two_second =
      map-map (λ (c : ℕ × ℕ). label_in (x ∷ y ∷ []) c.1) (λ (c : ℕ × ℕ). (c.0, length p.tensor.legs + c.1)) shared
      ∙ map_all (λ (c : ℕ × ℕ). label_in (x ∷ y ∷ []) (length p.tensor.legs + c.1)) (λ c. label_at q.labels c.1) shared (λ k d l. label_second (get_or shared k d).1)
      ∙ named.second

  two_within : All (λ c. (c.0 < length (word (x ∷ y ∷ []))) × (c.1 < length (word (x ∷ y ∷ []))) × (c.0 ≢ c.1)) (shared_couples p.tensor shared)
  two_within =
      let many : length (p.labels ++ (q.labels ++ [])) ≡ length (word (x ∷ y ∷ [])) = many_labels fs sectors (p ∷ q ∷ []) (x ∷ y ∷ []) (hp, (hq, tt)) in
      let parts : length (p.labels ++ (q.labels ++ [])) ≡ length p.labels + length q.labels = ap (λ ls. length (p.labels ++ ls)) (append-nil q.labels) ∙ length-append p.labels q.labels in
      All-map (λ c. (c.0 < length (word (x ∷ y ∷ []))) × (c.1 < length (word (x ∷ y ∷ []))) × (c.0 ≢ c.1)) (λ (c : ℕ × ℕ). (c.0, length p.tensor.legs + c.1)) shared
      (λ k d l. let w = named.within k d l in (
        omega (arith, w.0, many, parts),
        omega (arith, w.1, many, parts, long_first),
        (λ e. differ _ _ _ w.0 long_first e),
      ))
    where
      differ : (i j m : ℕ) → i < m → m ≡ length p.tensor.legs → i ≡ length p.tensor.legs + j → ⊥
      differ i j m l e f = absurd (omega (arith, l, e, f))

  pub two_coupling : IsCoupling (p.tensor.legs ++ (q.tensor.legs ++ [])) (shared_couples p.tensor shared)
  two_coupling = coupling fs sectors (p ∷ q ∷ []) (x ∷ y ∷ []) (hp, (hq, tt)) (shared_couples p.tensor shared) bonds net two_first two_second two_within

  pub two_coupled : IsCoupledBy (x ∷ y ∷ []) bonds (shared_couples p.tensor shared)
  two_coupled = coupled_by fs sectors (p ∷ q ∷ []) (x ∷ y ∷ []) (hp, (hq, tt)) (shared_couples p.tensor shared) bonds net two_first two_second two_within

same_xor : (a b : Bool) → xor_charge a b ≡ xor a (xor b false)
same_xor true true = refl
same_xor true false = refl
same_xor false true = refl
same_xor false false = refl

pub odd_two : (fs : List Factor) (sectors : ℤ → List SectorValue) (p q : Placed) (x y : Node) → IsNodeOf fs sectors p x → IsNodeOf fs sectors q y →
    parity fs (sum_charge fs p.tensor.flux q.tensor.flux) ≡ odd_flux (x ∷ y ∷ [])
odd_two fs sectors p q x y hp hq =
    parity_adds fs p.tensor.flux q.tensor.flux (subst IsGroup hp.group hp.tensor.group)
    ∙ ap₂ xor_charge hp.odd hq.odd ∙ same_xor x.odd y.odd

pub odd_one : (fs : List Factor) (sectors : ℤ → List SectorValue) (p : Placed) (x : Node) → IsNodeOf fs sectors p x → parity fs p.tensor.flux ≡ odd_flux (x ∷ [])
odd_one fs sectors p x hp = hp.odd ∙ plain x.odd
  where
    plain : (a : Bool) → a ≡ xor a false
    plain true = refl
    plain false = refl
