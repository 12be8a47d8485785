-- A step that fuses or splits, made ready: what holds of its order, its sources and the values that they lead to.
use Rattle.std.proofs.Common.{◌≡◌, ◌<◌, ◌≤◌, ℕ, suc, ◌+◌, ◌==◌, ℤ, Bool, true, false, cond, List, [], ◌∷◌, ◌++◌, refl, sym, ◌∙◌, ap, ap₂, subst, map, length, get_or, arith}
use Rattle.std.specs.List.{All}
use Rattle.std.proofs.lemmas.List.{length-append, length-map}
use Rattle.std.proofs.lemmas.List.Elements.{All-append, All-map}
use Rattle.qn_sign.specs.Sign.{is_in, xor, exchange_sign}
use Rattle.qn_sign.specs.Positions.{positions, is_odd_at}
use Rattle.qn_gauss.specs.Gaussian.{signed}
use Rattle.qn_charge.specs.declared.factor.Factor.{Factor}
use Rattle.qn_charge.specs.Charges.{sum_charge, zero_charge, IsCanonical}
use Rattle.qn_charge.specs.Laws.{commutative_charge, zero_is_neutral}
use Rattle.qn_index.specs.Legs.{LegValue, SectorValue, IsLegOf}
use Rattle.qn_index.specs.Extents.{IsWithinLimits}
use Rattle.qn_index.specs.Places.{IsValues}
use Rattle.qn_value.specs.Networks.{End, Node, same_end, kept, word}
use Rattle.qn_value.specs.Tensors.{TensorValue, IsTensor, entry_of}
use Rattle.qn_value.specs.Labels.{Placed}
use Rattle.qn_value.specs.Blocks.{legs_on}
use Rattle.qn_value.specs.Local.{parities, no_leg}
use Rattle.qn_value.proofs.BlocksLemmas.{length-legs}
use Rattle.qn_block.specs.Blocked.{BlockedValue, IsBlocked, MeetFlux, tensor_of}
use Rattle.qn_block.proofs.Entries.{is_tensor}
use Rattle.qn_block.specs.Combiners.{CombinerValue, IsCombiner}
use Rattle.qn_block.specs.Tables.{fuse_tensor, split_tensor}
use Rattle.qn_block.proofs.Lookup.{values_length}
use Rattle.qn_block.proofs.Mirror.{conjugate_length}
use Rattle.qn_net.specs.Groups.{TensorGroup, flux_of}
use Rattle.qn_net.specs.Passing.{result_legs}
use Rattle.qn_net.specs.Operations.{parities_on, labels_left, IsNodeOf, IsTensorOf}
use Rattle.qn_net.proofs.ResultTensors.{result_tensor}
use Rattle.qn_engine.specs.declared.fusing.Source.{Source}
use Rattle.qn_engine.specs.Fusing.{PairAt, FusionValue, step_of, made_by, table, other, earlier, later, IsFusion, IsFused, word_legs, word_labels, ends_of, line_ends, line_places, places_left, legs_left, order_of, IsOrderOf, next_after, source_of, sources_from, source_value, IsSourceIn, table_left, IsMatch, IsWiring}
use Rattle.qn_engine.proofs.FusedLines.{labels_on}
use Rattle.qn_engine.proofs.FusedPairs.{left_within, bond_ends, ends_are, legs_are, labels_are, left_are}
use Rattle.qn_engine.proofs.FusedEntries.{AreGiven, given_values, first_given, second_given, sources_within, us_range, entry_at, count_small, table_flux, table_of_group}
use Rattle.qn_engine.proofs.FusedArrays.{order_there}

node_long : (fs : List Factor) (sectors : ℤ → List SectorValue) (p : Placed) (n : Node) → IsNodeOf fs sectors p n → length p.labels ≡ length p.tensor.legs
node_long fs sectors p n h =
    ap (λ (ls : List ℤ). length ls) h.labels ∙ length-map n.ends _ ∙ sym (length-legs sectors n.ends) ∙ ap (λ (gs : List LegValue). length gs) (sym h.legs)

-- as many labels as legs
pub word_long : (f : FusionValue) (k : PairAt) → IsFusion f k → length (word_legs f) ≡ length (word_labels f)
word_long f k h =
    length-append (earlier f).tensor.legs (later f).tensor.legs
    ∙ ap₂ ◌+◌ (sym (node_long k.group k.sectors (earlier f) k.first.node h.earlier.node)) (sym (node_long k.group k.sectors (later f) k.second.node h.later.node))
    ∙ sym (length-append (earlier f).labels (later f).labels)

sources_long : (ts summed : List ℤ) (n : ℕ) (ls : List ℤ) → length (sources_from ts summed n ls) ≡ length ls
sources_long ts summed n [] = refl
sources_long ts summed n (l ∷ ls) = ap suc (sources_long ts summed (next_after (source_of ts summed n l) n) ls)

table_long : (c : CombinerValue) (b : Bool) → length (cond b (fuse_tensor c) (split_tensor c)).legs ≡ length c.legs + 1
table_long c true = let n : length _ ≡ length c.legs = conjugate_length c.legs in omega (arith, n)
table_long c false = length-append c.legs _

values_join : (ls ms : List LegValue) (us vs : List ℕ) → IsValues ls us → IsValues ms vs → IsValues (ls ++ ms) (us ++ vs)
values_join [] ms us vs h k = subst (λ ws. IsValues ms (ws ++ vs)) (sym h) k
values_join (l ∷ ls) ms [] vs h k = absurd h
values_join (l ∷ ls) ms (u ∷ us) vs h k = (h.0, values_join ls ms us vs h.1 k)

-- the other tensor in its place
other_group : (f : FusionValue) (k : PairAt) → IsFusion f k → (x : TensorGroup) × IsTensorOf k.group k.sectors (other f) x
other_group f k h = by f.is_first refl
  where
    by : (b : Bool) → f.is_first ≡ b → (x : TensorGroup) × IsTensorOf k.group k.sectors (other f) x
    by true e = (k.second, subst (λ b. IsTensorOf k.group k.sectors (cond b (other f) (table f)) k.second) e h.later)
    by false e = (k.first, subst (λ b. IsTensorOf k.group k.sectors (cond b (table f) (other f)) k.first) e h.earlier)

-- the order of the legs
pub order_holds : (f : FusionValue) (k : PairAt) → IsFusion f k → IsOrderOf f.summed (ends_of (word_legs f) (word_labels f)) (order_of f)
order_holds f k h =
    subst (λ ls. IsOrderOf f.summed (ends_of (word_legs f) (word_labels f)) (line_places (ends_of (word_legs f) (word_labels f)) f.summed ++ places_left f.summed 0 ls)) same_labels
    (order_there f.summed (ends_of (word_legs f) (word_labels f)) (λ e i.
    subst (λ es. is_in same_end e es ≡ true) (sym words) (h.at.2 e (subst (λ es. is_in same_end e es ≡ true) (ap line_ends h.summed ∙ bond_ends k.bonds) i))))
  where
    words : ends_of (word_legs f) (word_labels f) ≡ word (k.first.node ∷ k.second.node ∷ [])
    words = ends_are k h.sound h.at h.lines (earlier f) (later f) h.earlier.node h.later.node

    same_labels : labels_on (ends_of (word_legs f) (word_labels f)) ≡ word_labels f
    same_labels = ap (λ es. labels_on es) words ∙ sym (labels_are k h.sound h.at h.lines (earlier f) (later f) h.earlier.node h.later.node)

ends_long : (f : FusionValue) (k : PairAt) → IsFusion f k → length (ends_of (word_legs f) (word_labels f)) ≡ length (word_legs f)
ends_long f k h =
    ap (λ (es : List End). length es) (ends_are k h.sound h.at h.lines (earlier f) (later f) h.earlier.node h.later.node)
    ∙ sym (length-legs k.sectors (word (k.first.node ∷ k.second.node ∷ [])))
    ∙ ap (λ (gs : List LegValue). length gs) (sym (legs_are k h.sound h.at h.lines (earlier f) (later f) h.earlier.node h.later.node))

-- values of all legs that are right
pub record IsRight (f : FusionValue) (legs : List LegValue) (order : List ℕ) (past : Bool) (xs us vs : List ℕ) (minus : Bool) : Type 0 where
  pub range : IsValues legs (cond f.is_first (us ++ vs) (vs ++ us))
  pub tensor : IsValues f.tensor.legs vs
  pub entry : (k : PairAt) → IsFusion f k → (made_by k).node.entry xs ≡
      signed (xor past (xor (exchange_sign ◌==◌ (is_odd_at (parities f.tensor.group legs (cond f.is_first (us ++ vs) (vs ++ us)))) (positions (length legs)) order) minus)) (entry_of (tensor_of f.tensor) vs)

-- the values that are given are in two parts, of which the first are those of the table
pub record AreParts (f : FusionValue) (xs left rest : List ℕ) : Type 0 where
  pub whole : cond f.is_first (left ++ rest) (rest ++ left) ≡ xs
  pub count : length left ≡ length (table_left f.combiner f.is_fuse)

module _ (f : FusionValue) (legs : List LegValue) (order : List ℕ) (sources : List Source) (past : Bool) (w : IsWiring f legs order sources past) (k : PairAt) (h : IsFusion f k) (hc : IsCombiner f.combiner) (ht : IsBlocked f.tensor) where
  pub few_sources : length sources ≤ 64
  few_sources =
      let o = other_group f k h in
      let n : length sources ≡ length f.tensor.legs =
      ap (λ (ss : List Source). length ss) w.sources_are ∙ sources_long f.table_labels f.summed 0 f.tensor_labels ∙ node_long k.group k.sectors (other f) o.0.node o.1.node in
      omega (arith, n, ht.shape.legs)

  pub few_legs : length legs ≤ 128
  few_legs =
      let n : length legs ≡ length (table f).tensor.legs + length f.tensor.legs = ap (λ (gs : List LegValue). length gs) w.legs_are ∙ by f.is_first in
      let m : length (table f).tensor.legs ≡ length f.combiner.legs + 1 = table_long f.combiner f.is_fuse in
      omega (arith, n, m, ht.shape.legs, hc.few)
    where
      turn : (a b c : ℕ) → a ≡ b + c → a ≡ c + b
      turn a b c e = omega (arith, e)

      by : (b : Bool) → length ((cond b (table f) (other f)).tensor.legs ++ (cond b (other f) (table f)).tensor.legs) ≡ length (table f).tensor.legs + length f.tensor.legs
      by true = length-append (table f).tensor.legs f.tensor.legs
      by false = turn _ (length f.tensor.legs) (length (table f).tensor.legs) (length-append f.tensor.legs (table f).tensor.legs)

  pub places_in : All (λ i. i < length legs) order
  places_in =
      subst (All (λ i. i < length legs)) (sym w.order_is)
      (subst (λ n. All (λ i. i < n) (order_of f)) (ends_long f k h ∙ ap (λ (gs : List LegValue). length gs) (sym w.legs_are)) (order_holds f k h).within)

  module _ (xs : List ℕ) (range : IsValues (legs_left f) xs) where
    pub count_in : length (table_left f.combiner f.is_fuse) ≤ length xs
    count_in = count_small f k h hc xs range

    given : (left rest : List ℕ) → AreParts f xs left rest → (x : TensorGroup) × ((y : TensorGroup) × AreGiven f k x y (given_values f k h hc xs range) left rest)
    given left rest p = by f.is_first refl
      where
        by : (b : Bool) → f.is_first ≡ b → (x : TensorGroup) × ((y : TensorGroup) × AreGiven f k x y (given_values f k h hc xs range) left rest)
        by true e = (k.first, (k.second, first_given f k h hc xs range e left rest (sym (ap (λ b. cond b (left ++ rest) (rest ++ left)) e) ∙ p.whole) p.count))
        by false e = (k.second, (k.first, second_given f k h hc xs range e left rest (sym (ap (λ b. cond b (left ++ rest) (rest ++ left)) e) ∙ p.whole) p.count))

    pub left_in : (left rest : List ℕ) → AreParts f xs left rest → IsValues (table_left f.combiner f.is_fuse) left
    left_in left rest p = (given left rest p).1.1.left_range

    pub sources_in : (left rest us : List ℕ) (minus : Bool) → AreParts f xs left rest → IsMatch f.combiner f.is_fuse left us minus → All (IsSourceIn (length us) (length rest)) sources
    sources_in left rest us minus p m =
        let g = given left rest p in
        let n : length us ≡ length f.table_labels =
        values_length (table f).tensor.legs us (us_range f k h hc g.0 g.1.0 (given_values f k h hc xs range) left rest g.1.1 us minus m)
        ∙ sym (node_long k.group k.sectors (table f) g.0.node g.1.1.table_node) in
        subst (All (IsSourceIn (length us) (length rest))) (sym w.sources_are)
        (subst (λ j. All (IsSourceIn j (length rest)) (sources_from f.table_labels f.summed 0 f.tensor_labels)) (sym n)
        (sources_within f k h hc g.0 g.1.0 (given_values f k h hc xs range) left rest g.1.1 us minus m))

    pub is_right : (left rest us vs : List ℕ) (minus : Bool) → AreParts f xs left rest → IsMatch f.combiner f.is_fuse left us minus → vs ≡ map (source_value us rest) sources → IsRight f legs order past xs us vs minus
    is_right left rest us vs minus p m v =
        let gathered : vs ≡ map (source_value us rest) (sources_from f.table_labels f.summed 0 f.tensor_labels) = v ∙ ap (map (source_value us rest)) w.sources_are in
        let in_order : (j : PairAt) → IsFusion f j → IsOrderOf f.summed (ends_of (word_legs f) (word_labels f)) order = λ j i. subst (IsOrderOf f.summed (ends_of (word_legs f) (word_labels f))) (sym w.order_is) (order_holds f j i) in
        let r = entry_at f k h hc xs range left rest us vs minus order p.whole p.count m gathered (in_order k h) in
        record {
          range = subst (λ gs. IsValues gs (cond f.is_first (us ++ vs) (vs ++ us))) (sym w.legs_are) (by f.is_first r.table_range r.tensor_range);
          tensor = r.tensor_range;
          entry = λ j i.
              (entry_at f j i hc xs range left rest us vs minus order p.whole p.count m gathered (in_order j i)).entry
              ∙ (λ t. signed (xor (sym w.past_is t) (xor (exchange_sign ◌==◌ (is_odd_at (parities (sym (other_group f j i).1.node.group t) (sym w.legs_are t) (cond f.is_first (us ++ vs) (vs ++ us)))) (positions (length (sym w.legs_are t))) order) minus))
              (entry_of (tensor_of f.tensor) vs));
        }
      where
        by : (b : Bool) → IsValues (table f).tensor.legs us → IsValues f.tensor.legs vs → IsValues ((cond b (table f) (other f)).tensor.legs ++ (cond b (other f) (table f)).tensor.legs) (cond b (us ++ vs) (vs ++ us))
        by true ru rv = values_join (table f).tensor.legs f.tensor.legs us vs ru rv
        by false ru rv = values_join f.tensor.legs (table f).tensor.legs vs us rv ru

-- what the result is made of

all_join : (P : LegValue → Type 0) (xs ys : List LegValue) → All P xs → All P ys → All P (xs ++ ys)
all_join P xs ys h k = All-append P xs ys h k

module _ (f : FusionValue) (k : PairAt) (h : IsFusion f k) (hc : IsCombiner f.combiner) (ht : IsBlocked f.tensor) where
  tensor_group : f.tensor.group ≡ k.group
  tensor_group = (other_group f k h).1.node.group

  word_charged : All (IsLegOf k.group) (word_legs f)
  word_charged =
      all_join (IsLegOf k.group) (earlier f).tensor.legs (later f).tensor.legs
      (subst (λ gs. All (IsLegOf gs) (earlier f).tensor.legs) h.earlier.node.group h.earlier.node.tensor.charges)
      (subst (λ gs. All (IsLegOf gs) (later f).tensor.legs) h.later.node.group h.later.node.tensor.charges)

  left_charged : All (IsLegOf f.tensor.group) (legs_left f)
  left_charged =
      subst (λ gs. All (IsLegOf gs) (legs_left f)) (sym tensor_group)
      (All-map (IsLegOf k.group) (λ i. get_or (word_legs f) i no_leg) (places_left f.summed 0 (word_labels f))
      (λ i d lt. word_charged (get_or (places_left f.summed 0 (word_labels f)) i d) no_leg (left_within f.summed (word_labels f) 0 (length (word_legs f)) (omega (arith, many)) i d lt)))
    where
      many : length (word_legs f) ≡ length (word_labels f)
      many = word_long f k h

  pub legs_charged : (fs : List Factor) (ls : List LegValue) → fs ≡ f.tensor.group → ls ≡ legs_left f → All (IsLegOf fs) ls
  legs_charged fs ls e l = subst (λ gs. All (IsLegOf gs) ls) (sym e) (subst (All (IsLegOf f.tensor.group)) (sym l) left_charged)

  result_legs_left : legs_left f ≡ legs_on k.sectors (kept (k.first.node ∷ k.second.node ∷ []) k.bonds)
  result_legs_left = ap (λ ls. legs_left (record f { summed = ls })) h.summed ∙ left_are k h.sound h.at h.lines (earlier f) (later f) h.earlier.node h.later.node

  canonical_flux : IsCanonical k.group f.tensor.flux
  canonical_flux = subst (λ gs. IsCanonical gs f.tensor.flux) tensor_group ht.flux.canonical

  sum_is : sum_charge k.group (earlier f).tensor.flux (later f).tensor.flux ≡ f.tensor.flux
  sum_is = by f.is_first refl
    where
      by : (b : Bool) → f.is_first ≡ b → sum_charge k.group (earlier f).tensor.flux (later f).tensor.flux ≡ f.tensor.flux
      by true e =
          let tables : IsTensorOf k.group k.sectors (table f) k.first = subst (λ b. IsTensorOf k.group k.sectors (cond b (table f) (other f)) k.first) e h.earlier in
          ap (λ b. sum_charge k.group (cond b (table f) (other f)).tensor.flux (cond b (other f) (table f)).tensor.flux) e
          ∙ ap (λ q. sum_charge k.group q f.tensor.flux) (table_flux f.combiner f.is_fuse ∙ ap zero_charge (sym (table_of_group f.combiner f.is_fuse) ∙ tables.node.group))
          ∙ zero_is_neutral k.group f.tensor.flux canonical_flux
      by false e =
          let tables : IsTensorOf k.group k.sectors (table f) k.second = subst (λ b. IsTensorOf k.group k.sectors (cond b (other f) (table f)) k.second) e h.later in
          ap (λ b. sum_charge k.group (cond b (table f) (other f)).tensor.flux (cond b (other f) (table f)).tensor.flux) e
          ∙ ap (sum_charge k.group f.tensor.flux) (table_flux f.combiner f.is_fuse ∙ ap zero_charge (sym (table_of_group f.combiner f.is_fuse) ∙ tables.node.group))
          ∙ commutative_charge k.group f.tensor.flux (zero_charge k.group)
          ∙ zero_is_neutral k.group f.tensor.flux canonical_flux

  law : (sum_charge k.group (earlier f).tensor.flux (later f).tensor.flux ≡ flux_of k.group (made_by k))
      × ((r : TensorValue) → IsTensor r → r.group ≡ k.group → r.legs ≡ result_legs (parities_on k.group k.sectors) k.sectors (step_of k) → r.flux ≡ flux_of k.group (made_by k) →
      ((xs : List ℕ) → MeetFlux k.group r.legs r.flux xs → entry_of r xs ≡ (made_by k).node.entry xs) →
      IsTensorOf k.group k.sectors (record { tensor = r; labels = labels_left ((earlier f).labels ++ (later f).labels) k.bonds }) (made_by k))
  law = result_tensor k.group k.sectors k.opens k.state k.before k.first k.between k.second k.behind k.bonds k.left (earlier f) (later f) h.sound h.at h.earlier h.later

  flux_is : f.tensor.flux ≡ flux_of k.group (made_by k)
  flux_is = sym sum_is ∙ law.0

  pub shape_is : (fs : List Factor) (ls : List LegValue) (q : List ℤ) → fs ≡ f.tensor.group → ls ≡ legs_left f → q ≡ f.tensor.flux → IsWithinLimits fs ls q
  shape_is fs ls q e l u =
      subst (λ gs. IsWithinLimits gs ls q) (sym (e ∙ tensor_group))
      (subst (λ ms. IsWithinLimits k.group ms q) (sym (l ∙ result_legs_left)) (subst (IsWithinLimits k.group (legs_on k.sectors (kept (k.first.node ∷ k.second.node ∷ []) k.bonds))) (sym (u ∙ flux_is)) h.shape))

  pub fused_is : (r : BlockedValue) → IsBlocked r → r.group ≡ f.tensor.group → r.legs ≡ legs_left f → r.flux ≡ f.tensor.flux →
      ((xs : List ℕ) → MeetFlux r.group r.legs r.flux xs → entry_of (tensor_of r) xs ≡ (made_by k).node.entry xs) → IsFused f k r
  fused_is r hr e l u entries =
      law.1 (tensor_of r) (is_tensor r hr) (e ∙ tensor_group) (l ∙ result_legs_left) (u ∙ flux_is) (λ xs m. entries xs (subst (λ gs. MeetFlux gs r.legs r.flux xs) (sym (e ∙ tensor_group)) m))
