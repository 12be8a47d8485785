-- A step that fuses or splits: the values that its legs have, and the entry that it makes.
use Rattle.std.proofs.Common.{◌≡◌, ◌≢◌, ◌<◌, ◌≤◌, ℕ, ◌+◌, ◌==◌, ℤ, Bool, true, false, ◌&&◌, cond, List, [], ◌∷◌, ◌++◌, refl, sym, ◌∙◌, ap, ap₂, subst, map, length, get_or, inl, inr, int_eq, arith}
use Rattle.std.specs.List.{All}
use Rattle.std.proofs.lemmas.Bool.{or_left, or_right}
use Rattle.std.proofs.lemmas.List.{length-append, length-map}
use Rattle.qn_sign.specs.Sign.{is_in, xor, exchange_sign, IsDistinct}
use Rattle.qn_sign.specs.Positions.{positions, is_odd_at}
use Rattle.qn_sign.proofs.Order.{is_in-append}
use Rattle.qn_gauss.specs.Gaussian.{Gaussian, zero_g, one_g, mul_g, signed}
use Rattle.qn_gauss.proofs.Ring.{mul_comm, mul_one}
use Rattle.qn_charge.specs.Charges.{parity, zero_charge}
use Rattle.qn_charge.specs.Laws.{parity_of_zero}
use Rattle.qn_index.specs.Legs.{LegValue, total}
use Rattle.qn_index.specs.Places.{IsValues}
use Rattle.qn_value.specs.Networks.{End, Bond, Assignment, same_end, in_end, out_end, labels, kept, values, at_values, odd_flux}
use Rattle.qn_value.specs.Tensors.{entry_of}
use Rattle.qn_value.specs.Blocks.{legs_on}
use Rattle.qn_value.specs.Twists.{HasOneEnd}
use Rattle.qn_value.specs.Local.{parities as leg_parities}
use Rattle.qn_value.proofs.NetLaws.{signed-xor, mul-signed, signed-mul}
use Rattle.qn_value.proofs.RowsLemmas.{values-append, values_back}
use Rattle.qn_value.proofs.BlocksLemmas.{length-legs}
use Rattle.qn_block.specs.Combiners.{CombinerValue, IsCombiner}
use Rattle.qn_block.specs.Tables.{fuse_tensor, split_tensor}
use Rattle.qn_net.specs.Groups.{TensorGroup, nodes}
use Rattle.qn_net.specs.Groups.Role.{fuse_table, split_table}
use Rattle.qn_net.specs.Steps.{fuses, meets_condition}
use Rattle.qn_net.specs.Operations.{IsNodeOf, IsTensorOf}
use Rattle.qn_net.specs.FuseSteps.{IsTableOf, IsFusedAt}
use Rattle.qn_net.proofs.LastTensor.{values_below, values_count, values_from}
use Rattle.qn_engine.specs.Labels.{place_in}
use Rattle.qn_engine.specs.Fusing.{PairAt, FusionValue, made_by, table, other, earlier, later, role as table_role, IsFusion, word_legs, word_labels, ends_of, ends_left, legs_left, IsOrderOf, sources_from, source_value, IsSourceIn, table_left, IsMatch}
use Rattle.qn_engine.proofs.FusedLines.{labels_on}
use Rattle.qn_engine.proofs.FusedTables.{left-append}
use Rattle.qn_engine.proofs.FusedSteps.{append_same, line_values, left_legs_are, one_at, table_range, table_back, tensor_back, tensor_sources, tensor_range}
use Rattle.qn_engine.proofs.FusedPairs.{word_is, first_distinct, second_distinct, kept_distinct, left_are, entry_by}

-- a list of values in two parts
values_parts : (es fs : List End) (a : Assignment) (us vs : List ℕ) → values (es ++ fs) a ≡ us ++ vs → length us ≡ length es → (values es a ≡ us) × (values fs a ≡ vs)
values_parts es fs a us vs e n = append_same (values es a) (values fs a) us vs (length-map es a ∙ sym n) (sym (values-append es fs a) ∙ e)

second_long : {A : Type 0} (es fs : List A) (us vs : List ℕ) → length (es ++ fs) ≡ length (us ++ vs) → length vs ≡ length fs → length us ≡ length es
second_long es fs us vs e n =
    let p : length (es ++ fs) ≡ length es + length fs = length-append es fs in
    let q : length (us ++ vs) ≡ length us + length vs = length-append us vs in
    omega (arith, e, n, p, q)

-- the table of a combiner
pub table_flux : (c : CombinerValue) (b : Bool) → (cond b (fuse_tensor c) (split_tensor c)).flux ≡ zero_charge c.group
table_flux c true = refl
table_flux c false = refl

pub table_of_group : (c : CombinerValue) (b : Bool) → (cond b (fuse_tensor c) (split_tensor c)).group ≡ c.group
table_of_group c true = refl
table_of_group c false = refl

table_is : (c : CombinerValue) (b : Bool) → IsTableOf c (cond b fuse_table split_table) (cond b (fuse_tensor c) (split_tensor c))
table_is c true = refl
table_is c false = refl

-- the table and the tensor of the step, with the values of their legs that are left
pub record AreGiven (f : FusionValue) (k : PairAt) (x y : TensorGroup) (a : Assignment) (left rest : List ℕ) : Type 0 where
  pub table_node : IsNodeOf k.group k.sectors (table f) x.node
  pub other_node : IsNodeOf k.group k.sectors (other f) y.node
  pub distinct : IsDistinct same_end x.node.ends
  pub one : HasOneEnd (λ e. true) x.node k.bonds
  pub role : x.role ≡ table_role f
  pub fused : fuses x k.bonds ≡ true
  pub left_is : values (ends_left (labels k.bonds) x.node.ends) a ≡ left
  pub rest_is : values (ends_left (labels k.bonds) y.node.ends) a ≡ rest
  pub left_range : IsValues (table_left f.combiner f.is_fuse) left
  pub rest_range : IsValues (legs_on k.sectors (ends_left (labels k.bonds) y.node.ends)) rest

-- whether the table fuses or splits, in the words of the table's lemmas
is_table : (f : FusionValue) (k : PairAt) (x : TensorGroup) → x.role ≡ table_role f → fuses x k.bonds ≡ true →
    ((table f).tensor ≡ cond f.is_fuse (fuse_tensor f.combiner) (split_tensor f.combiner)) × (meets_condition (cond f.is_fuse fuse_table split_table) (labels_on x.node.ends) (labels k.bonds) ≡ true)
is_table f k x role fused = (refl, subst (λ r. meets_condition r (labels_on x.node.ends) (labels k.bonds) ≡ true) role fused)

module _ (f : FusionValue) (k : PairAt) (hc : IsCombiner f.combiner) (x y : TensorGroup) (table_node : IsNodeOf k.group k.sectors (table f) x.node) (other_node : IsNodeOf k.group k.sectors (other f) y.node)
    (distinct : IsDistinct same_end x.node.ends) (one : HasOneEnd (λ e. true) x.node k.bonds) (role : x.role ≡ table_role f) (fused : fuses x k.bonds ≡ true) where
  legs_are : legs_on k.sectors (ends_left (labels k.bonds) x.node.ends) ≡ table_left f.combiner f.is_fuse
  legs_are = left_legs_are k.group k.sectors (table f) x.node table_node distinct k.bonds one f.combiner hc f.is_fuse (is_table f k x role fused)

  pub left_long : (left : List ℕ) → length left ≡ length (table_left f.combiner f.is_fuse) → length left ≡ length (ends_left (labels k.bonds) x.node.ends)
  left_long left n = n ∙ ap (λ (gs : List LegValue). length gs) (sym legs_are) ∙ length-legs k.sectors (ends_left (labels k.bonds) x.node.ends)

  pub left_count : length (table_left f.combiner f.is_fuse) ≡ length (ends_left (labels k.bonds) x.node.ends)
  left_count = ap (λ (gs : List LegValue). length gs) (sym legs_are) ∙ length-legs k.sectors (ends_left (labels k.bonds) x.node.ends)

  pub are_given : (a : Assignment) (left rest : List ℕ) → values (ends_left (labels k.bonds) x.node.ends) a ≡ left → values (ends_left (labels k.bonds) y.node.ends) a ≡ rest →
      ((e : End) → is_in same_end e (ends_left (labels k.bonds) x.node.ends) ≡ true → a e < total (k.sectors e.label)) →
      ((e : End) → is_in same_end e (ends_left (labels k.bonds) y.node.ends) ≡ true → a e < total (k.sectors e.label)) → AreGiven f k x y a left rest
  are_given a left rest l r below_left below_rest = record {
    table_node = table_node;
    other_node = other_node;
    distinct = distinct;
    one = one;
    role = role;
    fused = fused;
    left_is = l;
    rest_is = r;
    left_range = subst (λ gs. IsValues gs left) legs_are (subst (IsValues (legs_on k.sectors (ends_left (labels k.bonds) x.node.ends))) l (values_from k.sectors (ends_left (labels k.bonds) x.node.ends) a below_left));
    rest_range = subst (IsValues (legs_on k.sectors (ends_left (labels k.bonds) y.node.ends))) r (values_from k.sectors (ends_left (labels k.bonds) y.node.ends) a below_rest);
  }

-- the values that are given for the legs of the result
module _ (f : FusionValue) (k : PairAt) (h : IsFusion f k) (hc : IsCombiner f.combiner) (xs : List ℕ) (range : IsValues (legs_left f) xs) where
  abbrev ends_kept : List End
  ends_kept = kept (k.first.node ∷ k.second.node ∷ []) k.bonds

  abbrev pub given_values : Assignment
  given_values = at_values (kept (k.first.node ∷ k.second.node ∷ []) k.bonds) xs

  pub result_legs_are : legs_left f ≡ legs_on k.sectors (kept (k.first.node ∷ k.second.node ∷ []) k.bonds)
  result_legs_are =
      ap (λ ls. legs_left (record f { summed = ls })) h.summed
      ∙ left_are k h.sound h.at h.lines (earlier f) (later f) h.earlier.node h.later.node

  in_range : IsValues (legs_on k.sectors (kept (k.first.node ∷ k.second.node ∷ []) k.bonds)) xs
  in_range = subst (λ gs. IsValues gs xs) result_legs_are range

  pub given_back : values (kept (k.first.node ∷ k.second.node ∷ []) k.bonds) (at_values (kept (k.first.node ∷ k.second.node ∷ []) k.bonds) xs) ≡ xs
  given_back =
      values_back (kept (k.first.node ∷ k.second.node ∷ []) k.bonds) xs (kept_distinct k h.sound h.at h.lines (earlier f) (later f) h.earlier.node h.later.node)
      (values_count k.sectors (kept (k.first.node ∷ k.second.node ∷ []) k.bonds) xs in_range)

  kept_is : kept (k.first.node ∷ k.second.node ∷ []) k.bonds ≡ ends_left (labels k.bonds) k.first.node.ends ++ ends_left (labels k.bonds) k.second.node.ends
  kept_is =
      ap (ends_left (labels k.bonds)) (word_is k h.sound h.at h.lines (earlier f) (later f) h.earlier.node h.later.node)
      ∙ left-append (labels k.bonds) k.first.node.ends k.second.node.ends

  parts_back : values (ends_left (labels k.bonds) k.first.node.ends ++ ends_left (labels k.bonds) k.second.node.ends) given_values ≡ xs
  parts_back = ap (λ (es : List End). values es given_values) (sym kept_is) ∙ given_back

  many : length (ends_left (labels k.bonds) k.first.node.ends ++ ends_left (labels k.bonds) k.second.node.ends) ≡ length xs
  many = sym (length-map (ends_left (labels k.bonds) k.first.node.ends ++ ends_left (labels k.bonds) k.second.node.ends) given_values) ∙ ap (λ (ws : List ℕ). length ws) parts_back

  below : (e : End) → is_in same_end e (ends_left (labels k.bonds) k.first.node.ends ++ ends_left (labels k.bonds) k.second.node.ends) ≡ true → given_values e < total (k.sectors e.label)
  below e i =
      values_below k.sectors (kept (k.first.node ∷ k.second.node ∷ []) k.bonds) given_values
      (subst (IsValues (legs_on k.sectors (kept (k.first.node ∷ k.second.node ∷ []) k.bonds))) (sym given_back) in_range) e (subst (λ es. is_in same_end e es ≡ true) (sym kept_is) i)

  below_first : (e : End) → is_in same_end e (ends_left (labels k.bonds) k.first.node.ends) ≡ true → given_values e < total (k.sectors e.label)
  below_first e i =
      below e (is_in-append same_end e (ends_left (labels k.bonds) k.first.node.ends) (ends_left (labels k.bonds) k.second.node.ends)
      ∙ or_left (is_in same_end e (ends_left (labels k.bonds) k.first.node.ends)) (is_in same_end e (ends_left (labels k.bonds) k.second.node.ends)) i)

  below_second : (e : End) → is_in same_end e (ends_left (labels k.bonds) k.second.node.ends) ≡ true → given_values e < total (k.sectors e.label)
  below_second e i =
      below e (is_in-append same_end e (ends_left (labels k.bonds) k.first.node.ends) (ends_left (labels k.bonds) k.second.node.ends)
      ∙ or_right (is_in same_end e (ends_left (labels k.bonds) k.first.node.ends)) (is_in same_end e (ends_left (labels k.bonds) k.second.node.ends)) i)

  pub first_given : f.is_first ≡ true → (left rest : List ℕ) → left ++ rest ≡ xs → length left ≡ length (table_left f.combiner f.is_fuse) → AreGiven f k k.first k.second given_values left rest
  first_given e left rest w n =
      let tables : IsTensorOf k.group k.sectors (table f) k.first = subst (λ b. IsTensorOf k.group k.sectors (cond b (table f) (other f)) k.first) e h.earlier in
      let others : IsTensorOf k.group k.sectors (other f) k.second = subst (λ b. IsTensorOf k.group k.sectors (cond b (other f) (table f)) k.second) e h.later in
      let role : k.first.role ≡ table_role f = subst (λ b. (cond b k.first k.second).role ≡ table_role f) e h.role in
      let fused : fuses k.first k.bonds ≡ true = subst (λ b. fuses (cond b k.first k.second) k.bonds ≡ true) e h.fuses in
      let d = first_distinct k h.sound h.at h.lines (earlier f) (later f) h.earlier.node h.later.node in
      let r =
      values_parts (ends_left (labels k.bonds) k.first.node.ends) (ends_left (labels k.bonds) k.second.node.ends) given_values left rest (parts_back ∙ sym w)
      (left_long f k hc k.first k.second tables.node others.node d h.at.3 role fused left n) in
      are_given f k hc k.first k.second tables.node others.node d h.at.3 role fused given_values left rest r.0 r.1 below_first below_second

  pub second_given : f.is_first ≡ false → (left rest : List ℕ) → rest ++ left ≡ xs → length left ≡ length (table_left f.combiner f.is_fuse) → AreGiven f k k.second k.first given_values left rest
  second_given e left rest w n =
      let tables : IsTensorOf k.group k.sectors (table f) k.second = subst (λ b. IsTensorOf k.group k.sectors (cond b (other f) (table f)) k.second) e h.later in
      let others : IsTensorOf k.group k.sectors (other f) k.first = subst (λ b. IsTensorOf k.group k.sectors (cond b (table f) (other f)) k.first) e h.earlier in
      let role : k.second.role ≡ table_role f = subst (λ b. (cond b k.first k.second).role ≡ table_role f) e h.role in
      let fused : fuses k.second k.bonds ≡ true = subst (λ b. fuses (cond b k.first k.second) k.bonds ≡ true) e h.fuses in
      let d = second_distinct k h.sound h.at h.lines (earlier f) (later f) h.earlier.node h.later.node in
      let r =
      values_parts (ends_left (labels k.bonds) k.first.node.ends) (ends_left (labels k.bonds) k.second.node.ends) given_values rest left (parts_back ∙ sym w)
      (second_long (ends_left (labels k.bonds) k.first.node.ends) (ends_left (labels k.bonds) k.second.node.ends) rest left (many ∙ ap (λ (ws : List ℕ). length ws) (sym w))
      (left_long f k hc k.second k.first tables.node others.node d h.at.4 role fused left n)) in
      are_given f k hc k.second k.first tables.node others.node d h.at.4 role fused given_values left rest r.1 r.0 below_second below_first

  pub count_small : length (table_left f.combiner f.is_fuse) ≤ length xs
  count_small = by f.is_first refl
    where
      total_long : length (ends_left (labels k.bonds) k.first.node.ends) + length (ends_left (labels k.bonds) k.second.node.ends) ≡ length xs
      total_long = sym (length-append (ends_left (labels k.bonds) k.first.node.ends) (ends_left (labels k.bonds) k.second.node.ends)) ∙ many

      first_part : (m i j n : ℕ) → m ≡ i → i + j ≡ n → m ≤ n
      first_part m i j n e s = omega (arith, e, s)

      second_part : (m i j n : ℕ) → m ≡ j → i + j ≡ n → m ≤ n
      second_part m i j n e s = omega (arith, e, s)

      by : (b : Bool) → f.is_first ≡ b → length (table_left f.combiner f.is_fuse) ≤ length xs
      by true e =
          first_part _ _ _ _
          (left_count f k hc k.first k.second (subst (λ b. IsTensorOf k.group k.sectors (cond b (table f) (other f)) k.first) e h.earlier).node
          (subst (λ b. IsTensorOf k.group k.sectors (cond b (other f) (table f)) k.second) e h.later).node
          (first_distinct k h.sound h.at h.lines (earlier f) (later f) h.earlier.node h.later.node) h.at.3
          (subst (λ b. (cond b k.first k.second).role ≡ table_role f) e h.role) (subst (λ b. fuses (cond b k.first k.second) k.bonds ≡ true) e h.fuses)) total_long
      by false e =
          second_part _ _ _ _
          (left_count f k hc k.second k.first (subst (λ b. IsTensorOf k.group k.sectors (cond b (other f) (table f)) k.second) e h.later).node
          (subst (λ b. IsTensorOf k.group k.sectors (cond b (table f) (other f)) k.first) e h.earlier).node
          (second_distinct k h.sound h.at h.lines (earlier f) (later f) h.earlier.node h.later.node) h.at.4
          (subst (λ b. (cond b k.first k.second).role ≡ table_role f) e h.role) (subst (λ b. fuses (cond b k.first k.second) k.bonds ≡ true) e h.fuses)) total_long

-- what follows from what is given
module _ (f : FusionValue) (k : PairAt) (h : IsFusion f k) (hc : IsCombiner f.combiner) (x y : TensorGroup) (a : Assignment) (left rest : List ℕ) (g : AreGiven f k x y a left rest) where
  t : ((table f).tensor ≡ cond f.is_fuse (fuse_tensor f.combiner) (split_tensor f.combiner)) × (meets_condition (cond f.is_fuse fuse_table split_table) (labels_on x.node.ends) (labels k.bonds) ≡ true)
  t = is_table f k x g.role g.fused

  sources_on : sources_from (labels_on x.node.ends) (labels k.bonds) 0 (labels_on y.node.ends) ≡ sources_from f.table_labels f.summed 0 f.tensor_labels
  sources_on = λ i. sources_from (sym g.table_node.labels i) (sym h.summed i) 0 (sym g.other_node.labels i)

  module _ (us : List ℕ) (minus : Bool) (match : IsMatch f.combiner f.is_fuse left us minus) where
    pub us_range : IsValues (table f).tensor.legs us
    us_range = table_range k.group k.sectors (table f) x.node g.table_node g.distinct k.bonds g.one f.combiner hc f.is_fuse t a left us minus match g.left_is

    pub us_entry : entry_of (table f).tensor us ≡ signed minus one_g
    us_entry = (one_at k.group k.sectors (table f) x.node g.table_node g.distinct k.bonds g.one f.combiner hc f.is_fuse left us minus match).entry

    us_some : entry_of (table f).tensor us ≢ zero_g
    us_some = (one_at k.group k.sectors (table f) x.node g.table_node g.distinct k.bonds g.one f.combiner hc f.is_fuse left us minus match).some

    pub us_back : values x.node.ends (line_values (labels k.bonds) x.node.ends us a) ≡ us
    us_back = table_back k.group k.sectors (table f) x.node g.table_node g.distinct k.bonds g.one f.combiner hc f.is_fuse t a left us minus match g.left_is

    pub sources_within : All (IsSourceIn (length f.table_labels) (length rest)) (sources_from f.table_labels f.summed 0 f.tensor_labels)
    sources_within =
        subst (λ n. All (IsSourceIn n (length rest)) (sources_from f.table_labels f.summed 0 f.tensor_labels)) (ap (λ (ls : List ℤ). length ls) (sym g.table_node.labels))
        (subst (All (IsSourceIn (length (labels_on x.node.ends)) (length rest))) sources_on
        (tensor_sources k.group k.sectors (table f) x.node g.table_node g.distinct k.bonds g.one f.combiner hc f.is_fuse t a left us minus match g.left_is y.node.ends rest g.rest_is))

    module _ (vs : List ℕ) (gathered : vs ≡ map (source_value us rest) (sources_from f.table_labels f.summed 0 f.tensor_labels)) where
      pub vs_back : values y.node.ends (line_values (labels k.bonds) x.node.ends us a) ≡ vs
      vs_back =
          sym (tensor_back k.group k.sectors (table f) x.node g.table_node g.distinct k.bonds g.one f.combiner hc f.is_fuse t a left us minus match g.left_is y.node.ends rest g.rest_is)
          ∙ ap (map (source_value us rest)) sources_on ∙ sym gathered

      pub vs_range : IsValues f.tensor.legs vs
      vs_range =
          subst (λ ls. IsValues ls vs) (sym g.other_node.legs)
          (subst (IsValues (legs_on k.sectors y.node.ends)) vs_back
          (tensor_range k.group k.sectors (table f) x.node g.table_node g.distinct k.bonds g.one f.combiner hc f.is_fuse t a left us minus match g.left_is y.node.ends rest g.rest_is g.rest_range))

    pub off_lines : (e : End) → is_in int_eq e.label (labels k.bonds) ≡ false → line_values (labels k.bonds) x.node.ends us a e ≡ a e
    off_lines e q = ap (λ b. cond b (get_or us (place_in e.label (labels_on x.node.ends)) 0) (a e)) q

    pub on_lines : (b : Bond) → is_in int_eq b.label (labels k.bonds) ≡ true → line_values (labels k.bonds) x.node.ends us a (in_end b) ≡ line_values (labels k.bonds) x.node.ends us a (out_end b)
    on_lines b q =
        ap (λ s. cond s (get_or us (place_in b.label (labels_on x.node.ends)) 0) (a (in_end b))) q
        ∙ sym (ap (λ s. cond s (get_or us (place_in b.label (labels_on x.node.ends)) 0) (a (out_end b))) q)

    pub is_fused_at : IsFusedAt f.combiner k.bonds x (table f) us
    is_fused_at = (subst (λ r. IsTableOf f.combiner r (table f).tensor) (sym g.role) (table_is f.combiner f.is_fuse), g.fused, us_some)

-- signs
one_first : (m : Bool) (z : Gaussian) → mul_g (signed m one_g) z ≡ signed m z
one_first m z = signed-mul m one_g z ∙ ap (signed m) (mul_comm one_g z ∙ mul_one z)

one_second : (m : Bool) (z : Gaussian) → mul_g z (signed m one_g) ≡ signed m z
one_second m z = mul-signed m z one_g ∙ ap (signed m) (mul_one z)

three_signs : (p s m : Bool) (z : Gaussian) → signed p (signed s (signed m z)) ≡ signed (xor p (xor s m)) z
three_signs p s m z = ap (signed p) (sym (signed-xor s m z)) ∙ sym (signed-xor p (xor s m) z)

-- the sign of the order at values of all legs
abbrev pub exchanged_at : FusionValue → PairAt → List ℕ → List ℕ → Bool
exchanged_at f k order ws = exchange_sign ◌==◌ (is_odd_at (leg_parities k.group (word_legs f) ws)) (positions (length (word_legs f))) order

-- the values of all legs, and the entry of the result there
pub record IsEntryAt (f : FusionValue) (k : PairAt) (xs us vs : List ℕ) (minus : Bool) (order : List ℕ) : Type 0 where
  pub table_range : IsValues (table f).tensor.legs us
  pub tensor_range : IsValues f.tensor.legs vs
  pub entry : (made_by k).node.entry xs ≡
      signed (xor (f.is_first && (f.between_odd && parity f.tensor.group f.tensor.flux))
      (xor (exchange_sign ◌==◌ (is_odd_at (leg_parities k.group (word_legs f) (cond f.is_first (us ++ vs) (vs ++ us)))) (positions (length (word_legs f))) order) minus))
      (entry_of (other f).tensor vs)

pub entry_at : (f : FusionValue) (k : PairAt) → IsFusion f k → IsCombiner f.combiner → (xs : List ℕ) → IsValues (legs_left f) xs →
    (left rest us vs : List ℕ) (minus : Bool) (order : List ℕ) → cond f.is_first (left ++ rest) (rest ++ left) ≡ xs → length left ≡ length (table_left f.combiner f.is_fuse) →
    IsMatch f.combiner f.is_fuse left us minus → vs ≡ map (source_value us rest) (sources_from f.table_labels f.summed 0 f.tensor_labels) →
    IsOrderOf f.summed (ends_of (word_legs f) (word_labels f)) order → IsEntryAt f k xs us vs minus order
entry_at f k h hc xs range left rest us vs minus order whole n match gathered ho = by f.is_first refl
  where
    in_order : IsOrderOf (labels k.bonds) (ends_of (word_legs f) (word_labels f)) order
    in_order = subst (λ ls. IsOrderOf ls (ends_of (word_legs f) (word_labels f)) order) h.summed ho

    by : (b : Bool) → f.is_first ≡ b → IsEntryAt f k xs us vs minus order
    by true e =
        let g = first_given f k h hc xs range e left rest (sym (ap (λ b. cond b (left ++ rest) (rest ++ left)) e) ∙ whole) n in
        let a = given_values f k h hc xs range in
        let p_is : (earlier f).tensor ≡ (table f).tensor = ap (λ b. (cond b (table f) (other f)).tensor) e in
        let q_is : (later f).tensor ≡ (other f).tensor = ap (λ b. (cond b (other f) (table f)).tensor) e in
        let ru = us_range f k h hc k.first k.second a left rest g us minus match in
        let rv = vs_range f k h hc k.first k.second a left rest g us minus match vs gathered in
        let past : (f.is_first && (f.between_odd && parity f.tensor.group f.tensor.flux)) ≡ (odd_flux (nodes k.between) && k.second.node.odd) =
        ap (λ b. b && (f.between_odd && parity f.tensor.group f.tensor.flux)) e
        ∙ ap₂ ◌&&◌ h.between (ap (λ gs. parity gs f.tensor.flux) g.other_node.group ∙ g.other_node.odd) in
        record {
          table_range = ru;
          tensor_range = rv;
          entry =
              entry_by k h.sound h.at h.lines (earlier f) (later f) h.earlier.node h.later.node f.combiner hc (line_values (labels k.bonds) k.first.node.ends us a) a
              (off_lines f k h hc k.first k.second a left rest g us minus match) (on_lines f k h hc k.first k.second a left rest g us minus match) us vs
              (us_back f k h hc k.first k.second a left rest g us minus match) (vs_back f k h hc k.first k.second a left rest g us minus match vs gathered)
              (subst (λ u. IsValues u.legs us) (sym p_is) ru) (subst (λ u. IsValues u.legs vs) (sym q_is) rv) xs (given_back f k h hc xs range)
              (inl (subst (λ b. IsFusedAt f.combiner k.bonds k.first (cond b (table f) (other f)) us) (sym e) (is_fused_at f k h hc k.first k.second a left rest g us minus match))) order in_order
              ∙ ap (λ z. signed (odd_flux (nodes k.between) && k.second.node.odd) (signed (exchanged_at f k order (us ++ vs)) z))
              (ap₂ mul_g (ap (λ u. entry_of u us) p_is ∙ us_entry f k h hc k.first k.second a left rest g us minus match) (ap (λ u. entry_of u vs) q_is) ∙ one_first minus (entry_of (other f).tensor vs))
              ∙ three_signs (odd_flux (nodes k.between) && k.second.node.odd) (exchanged_at f k order (us ++ vs)) minus (entry_of (other f).tensor vs)
              ∙ ap₂ (λ s ws. signed (xor s (xor (exchanged_at f k order ws) minus)) (entry_of (other f).tensor vs)) (sym past) (sym (ap (λ b. cond b (us ++ vs) (vs ++ us)) e));
        }
    by false e =
        let g = second_given f k h hc xs range e left rest (sym (ap (λ b. cond b (left ++ rest) (rest ++ left)) e) ∙ whole) n in
        let a = given_values f k h hc xs range in
        let p_is : (earlier f).tensor ≡ (other f).tensor = ap (λ b. (cond b (table f) (other f)).tensor) e in
        let q_is : (later f).tensor ≡ (table f).tensor = ap (λ b. (cond b (other f) (table f)).tensor) e in
        let ru = us_range f k h hc k.second k.first a left rest g us minus match in
        let rv = vs_range f k h hc k.second k.first a left rest g us minus match vs gathered in
        let even : k.second.node.odd ≡ false =
        sym g.table_node.odd ∙ ap₂ parity (sym g.table_node.group ∙ table_of_group f.combiner f.is_fuse) (table_flux f.combiner f.is_fuse) ∙ parity_of_zero f.combiner.group in
        let past : (f.is_first && (f.between_odd && parity f.tensor.group f.tensor.flux)) ≡ (odd_flux (nodes k.between) && k.second.node.odd) =
        ap (λ b. b && (f.between_odd && parity f.tensor.group f.tensor.flux)) e ∙ sym (ap (λ b. odd_flux (nodes k.between) && b) even ∙ never (odd_flux (nodes k.between))) in
        record {
          table_range = ru;
          tensor_range = rv;
          entry =
              entry_by k h.sound h.at h.lines (earlier f) (later f) h.earlier.node h.later.node f.combiner hc (line_values (labels k.bonds) k.second.node.ends us a) a
              (off_lines f k h hc k.second k.first a left rest g us minus match) (on_lines f k h hc k.second k.first a left rest g us minus match) vs us
              (vs_back f k h hc k.second k.first a left rest g us minus match vs gathered) (us_back f k h hc k.second k.first a left rest g us minus match)
              (subst (λ u. IsValues u.legs vs) (sym p_is) rv) (subst (λ u. IsValues u.legs us) (sym q_is) ru) xs (given_back f k h hc xs range)
              (inr (subst (λ b. IsFusedAt f.combiner k.bonds k.second (cond b (other f) (table f)) us) (sym e) (is_fused_at f k h hc k.second k.first a left rest g us minus match))) order in_order
              ∙ ap (λ z. signed (odd_flux (nodes k.between) && k.second.node.odd) (signed (exchanged_at f k order (vs ++ us)) z))
              (ap₂ mul_g (ap (λ u. entry_of u vs) p_is) (ap (λ u. entry_of u us) q_is ∙ us_entry f k h hc k.second k.first a left rest g us minus match) ∙ one_second minus (entry_of (other f).tensor vs))
              ∙ three_signs (odd_flux (nodes k.between) && k.second.node.odd) (exchanged_at f k order (vs ++ us)) minus (entry_of (other f).tensor vs)
              ∙ ap₂ (λ s ws. signed (xor s (xor (exchanged_at f k order ws) minus)) (entry_of (other f).tensor vs)) (sym past) (sym (ap (λ b. cond b (us ++ vs) (vs ++ us)) e));
        }
      where
        never : (b : Bool) → (b && false) ≡ false
        never true = refl
        never false = refl
