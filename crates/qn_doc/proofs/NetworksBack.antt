-- The text of a network means its members, its labels, its order and its twisted labels.
use Rattle.std.proofs.Common.{◌≡◌, ℕ, zero, suc, ◌≤◌, ◌<◌, ℤ, List, [], ◌∷◌, length, map, Bool, true, false, ◌&&◌, ◌||◌, ◌==◌, not, Some, None, refl, sym, ap, ap₂, subst, ◌∙◌, arith}
use Rattle.std.specs.Prelude.{nat_lt, unwrap_or, codes}
use Rattle.std.specs.Option.{option_map_or}
use Rattle.std.specs.List.{All, list_all}
use Rattle.std.proofs.Math.Dec.{eqb-suc-zero}
use Rattle.std.proofs.lemmas.Bool.{le-ltb}
use Rattle.std.proofs.lemmas.List.{length-map}
use Rattle.std.proofs.lemmas.List.Elements.{All-head, All-tail, All-weaker}
use Rattle.serde_json.specs.Data.{Data, null}
use Rattle.serde_json.specs.Find.{get}
use Rattle.qn_charge.specs.declared.factor.Factor.{Factor}
use Rattle.qn_charge.specs.Charges.{zero_charge}
use Rattle.qn_index.specs.declared.leg.Dir.{Dir}
use Rattle.qn_index.specs.Legs.{LegValue}
use Rattle.qn_block.specs.Blocked.{BlockedValue}
use Rattle.qn_block.specs.Combiners.{CombinerValue, IsCombiner}
use Rattle.qn_net.specs.Members.{MemberValue, LabelledMember}
use Rattle.qn_net.specs.Members.MemberValue.{own, fuse, split}
use Rattle.qn_parts.specs.Faults.{fault, fault_if, first_of}
use Rattle.qn_json.specs.Forms.{has, is_whole, is_list, are_numbers}
use Rattle.qn_parts.specs.Groups.{factor_of, group_fault}
use Rattle.qn_parts.specs.Sectors.{number_of}
use Rattle.qn_parts.specs.Tensors.{is_tensor, tensor_of, tensor_fault, legs_data, leg_of, leg_fault}
use Rattle.qn_json.specs.Texts.{list_data, whole_data}
use Rattle.qn_parts.specs.TensorTexts.{factor_data, leg_data}
use Rattle.qn_parts.specs.Documents.{has_version, group_data, factors_of}
use Rattle.qn_doc.specs.Combiners.{is_combiner, is_split, combiner_of, has_fused_leg, table_legs, table_fault, combiner_fault, IsTable}
use Rattle.qn_doc.specs.Members.{is_member, numbers_of, member_value_of, labelled_of, member_fault}
use Rattle.qn_doc.specs.Networks.{is_network_document, members_data, members_of, order_of, has_twist, twist_of, count_fault, head_fault, members_fault, parts_fault}
use Rattle.qn_doc.specs.NetworkTexts.{labels_data, own_data, combine_data, labelled_data, member_data, network_data}
use Rattle.qn_doc.specs.TensorsReadBack.{canonical}
use Rattle.qn_doc.specs.NetworksReadBack.{IsNumber, IsPrintableValue, IsPrintableMember, IsPrintableNetwork, canonical_value, canonical_member, NetworkReadsBack}
use Rattle.qn_doc.proofs.Limits.{kept}
use Rattle.qn_doc.proofs.Widths.{width_right}
use Rattle.qn_doc.proofs.Written.{listed_items, items_back, all_back, map_back, first_from_none}
use Rattle.qn_doc.proofs.NumbersBack.{number_back, is_whole_back}
use Rattle.qn_doc.proofs.GroupsBack.{is_group_back, group_back, group_sound}
use Rattle.qn_doc.proofs.LegsBack.{IsKnownLeg, known_legs, is_arrow_back, arrow_back, are_legs_back, legs_back, legs_sound}
use Rattle.qn_doc.proofs.TensorsBack.{HasParts, none_then, form, tensor_sound, tensor_means}

-- ---- labels

are_labels_back : (ls : List ℤ) → All IsNumber ls → are_numbers (labels_data ls) ≡ true
are_labels_back ls h =
    ap (list_all is_whole) (listed_items (map whole_data ls))
    ∙ all_back is_whole whole_data ls (All-weaker IsNumber (λ l. is_whole (whole_data l) ≡ true) is_whole_back ls h)

labels_back : (ls : List ℤ) → All IsNumber ls → numbers_of (labels_data ls) ≡ ls
labels_back ls h =
    ap (map number_of) (items_back (map whole_data ls))
    ∙ map_back number_of whole_data ls (All-weaker IsNumber (λ l. number_of (whole_data l) ≡ l) number_back ls h)

-- ---- tensors

own_parts : (t : BlockedValue) (ls : List ℤ) → HasParts t (own_data t ls)
own_parts t ls = record { legs = refl; flux = refl; blocks = refl }

-- ---- combiners

-- the word of a table
abbrev mode_word : Bool → List ℕ
mode_word true = codes "split"
mode_word false = codes "fuse"

mode_back : (b : Bool) (c : CombinerValue) → is_split (combine_data c (mode_word b)) ≡ b
mode_back true c = refl
mode_back false c = refl

module _ (b : Bool) (c : CombinerValue) (few : length c.group ≤ 4) (h : IsCombiner c) (k : IsTable b c) where
  abbrev d : Data
  d = combine_data c (mode_word b)

  legs : All (IsKnownLeg c.group) c.legs
  legs = known_legs c.group c.legs h.group few h.sound h.charges

  legs_is : legs_data d ≡ map leg_data c.legs
  legs_is = items_back (map leg_data c.legs)

  abbrev combiner_made : List LegValue → Dir → CombinerValue
  combiner_made ls a = record { group = c.group; legs = ls; arrow = a }

  pub combiner_back : combiner_of c.group d ≡ c
  combiner_back = ap₂ combiner_made (ap (map (leg_of c.group)) legs_is ∙ legs_back c.group c.legs legs) (arrow_back c.arrow)

  table_sound : (n : ℕ) → table_fault n b c ≡ None
  table_sound n =
      none_then (fault_if (not (has_fused_leg c)) (fault 11 n 0 0)) _ (ap (λ x. fault_if (not x) (fault 11 n 0 0)) (kept c h.fusable))
      (width_right c.group n (table_legs b c) (zero_charge c.group) k.shape)

  count : (length (legs_data d) == 0 || nat_lt 31 (length (legs_data d))) ≡ false
  count = out (length (legs_data d)) (omega (arith, ap length legs_is, length-map c.legs leg_data, h.some)) (omega (arith, ap length legs_is, length-map c.legs leg_data, k.few))
    where
      out : (n : ℕ) → 0 < n → n ≤ 31 → (n == 0 || nat_lt 31 n) ≡ false
      out zero p q = absurd (omega (arith, p))
      out (suc n) p q = ap₂ (λ x y. x || y) (eqb-suc-zero n) (le-ltb 31 (suc n) q)

  pub combiner_sound : (n : ℕ) → combiner_fault c.group n d ≡ None
  combiner_sound n =
      none_then (fault_if (length (legs_data d) == 0 || nat_lt 31 (length (legs_data d))) (fault 8 n 0 0)) _ (ap (λ x. fault_if x (fault 8 n 0 0)) count)
      (none_then (first_of (leg_fault c.group n) (legs_data d)) _ (ap (first_of (leg_fault c.group n)) legs_is ∙ legs_sound c.group n c.legs legs)
      (ap₂ (table_fault n) (mode_back b c) combiner_back ∙ table_sound n))

is_combiner_back : (b : Bool) (c : CombinerValue) → All (IsKnownLeg c.group) c.legs → is_combiner (length c.group) (combine_data c (mode_word b)) ≡ true
unfolding is_combiner
is_combiner_back true c all = ap₂ (λ x y. x && (y && true)) (is_arrow_back c.arrow) (are_legs_back c.group c.legs all)
is_combiner_back false c all = ap₂ (λ x y. x && (y && true)) (is_arrow_back c.arrow) (are_legs_back c.group c.legs all)

-- ---- members

value_form : (fs : List Factor) (m : MemberValue) (ls : List ℤ) → length fs ≤ 4 → IsPrintableValue fs m
    → option_map_or (is_combiner (length fs)) (get (codes "combine") (labelled_data m ls)) (is_tensor (length fs) (labelled_data m ls)) ≡ true
value_form fs (own t) ls few h = subst (λ g. is_tensor (length g) (own_data t ls) ≡ true) h.0 (form t (own_data t ls) h.1 (own_parts t ls))
value_form fs (fuse c) ls few h =
    subst (λ g. is_combiner (length g) (combine_data c (codes "fuse")) ≡ true) h.0
    (is_combiner_back false c (known_legs c.group c.legs h.1.group (subst (λ g. length g ≤ 4) (sym h.0) few) h.1.sound h.1.charges))
value_form fs (split c) ls few h =
    subst (λ g. is_combiner (length g) (combine_data c (codes "split")) ≡ true) h.0
    (is_combiner_back true c (known_legs c.group c.legs h.1.group (subst (λ g. length g ≤ 4) (sym h.0) few) h.1.sound h.1.charges))

value_sound : (fs : List Factor) (m : MemberValue) (ls : List ℤ) (k : ℕ) → length fs ≤ 4 → IsPrintableValue fs m → member_fault fs k (labelled_data m ls) ≡ None
unfolding member_fault
value_sound fs (own t) ls k few h = subst (λ g. tensor_fault g k (own_data t ls) ≡ None) h.0 (tensor_sound t (own_data t ls) h.1 (own_parts t ls) k)
value_sound fs (fuse c) ls k few h =
    subst (λ g. combiner_fault g k (combine_data c (codes "fuse")) ≡ None) h.0 (combiner_sound false c (subst (λ g. length g ≤ 4) (sym h.0) few) h.1 h.2 k)
value_sound fs (split c) ls k few h =
    subst (λ g. combiner_fault g k (combine_data c (codes "split")) ≡ None) h.0 (combiner_sound true c (subst (λ g. length g ≤ 4) (sym h.0) few) h.1 h.2 k)

value_means : (fs : List Factor) (m : MemberValue) (ls : List ℤ) → length fs ≤ 4 → IsPrintableValue fs m → member_value_of fs (labelled_data m ls) ≡ canonical_value m
value_means fs (own t) ls few h = subst (λ g. own (tensor_of g (own_data t ls)) ≡ own (canonical t)) h.0 (ap own (tensor_means t (own_data t ls) h.1 (own_parts t ls)))
value_means fs (fuse c) ls few h =
    subst (λ g. fuse (combiner_of g (combine_data c (codes "fuse"))) ≡ fuse c) h.0 (ap fuse (combiner_back false c (subst (λ g. length g ≤ 4) (sym h.0) few) h.1 h.2))
value_means fs (split c) ls few h =
    subst (λ g. split (combiner_of g (combine_data c (codes "split"))) ≡ split c) h.0 (ap split (combiner_back true c (subst (λ g. length g ≤ 4) (sym h.0) few) h.1 h.2))

-- the labels stand under their key
labels_at : (m : MemberValue) (ls : List ℤ) → get (codes "labels") (labelled_data m ls) ≡ Some (labels_data ls)
labels_at (own t) ls = refl
labels_at (fuse c) ls = refl
labels_at (split c) ls = refl

is_member_back : (fs : List Factor) (m : LabelledMember) → length fs ≤ 4 → IsPrintableMember fs m → is_member (length fs) (member_data m) ≡ true
unfolding is_member
is_member_back fs m few h =
    ap₂ (λ a b. a && b) (ap (has are_numbers) (labels_at m.member m.labels) ∙ are_labels_back m.labels h.labels) (value_form fs m.member m.labels few h.value)

abbrev labelled_made : MemberValue → List ℤ → LabelledMember
labelled_made m ls = record { member = m; labels = ls }

member_back : (fs : List Factor) (m : LabelledMember) → length fs ≤ 4 → IsPrintableMember fs m → labelled_of fs (member_data m) ≡ canonical_member m
unfolding labelled_of
member_back fs m few h =
    ap₂ labelled_made (value_means fs m.member m.labels few h.value)
    (ap (λ o. numbers_of (unwrap_or o null)) (labels_at m.member m.labels) ∙ labels_back m.labels h.labels)

members_back : (fs : List Factor) (ns : List LabelledMember) → length fs ≤ 4 → All (IsPrintableMember fs) ns → map (labelled_of fs) (map member_data ns) ≡ map canonical_member ns
members_back fs [] few all = refl
members_back fs (m ∷ ns) few all =
    ap₂ (λ x xs. x ∷ xs) (member_back fs m few (All-head (IsPrintableMember fs) m ns all)) (members_back fs ns few (All-tail (IsPrintableMember fs) m ns all))

-- ---- networks

-- the twisted labels

has_version_back : (fs : List Factor) (order : List ℤ) (ms : List LabelledMember) (twist : List ℤ) → has_version (network_data fs order ms twist) ≡ true
has_version_back fs order ms [] = refl
has_version_back fs order ms (l ∷ ls) = refl

has_twist_back : (fs : List Factor) (order : List ℤ) (ms : List LabelledMember) (twist : List ℤ) → All IsNumber twist → has_twist (network_data fs order ms twist) ≡ true
has_twist_back fs order ms [] h = refl
has_twist_back fs order ms (l ∷ ls) h = are_labels_back (l ∷ ls) h

twist_back : (fs : List Factor) (order : List ℤ) (ms : List LabelledMember) (twist : List ℤ) → All IsNumber twist → twist_of (network_data fs order ms twist) ≡ twist
twist_back fs order ms [] h = refl
twist_back fs order ms (l ∷ ls) h = labels_back (l ∷ ls) h

module _ (fs : List Factor) (order : List ℤ) (ms : List LabelledMember) (twist : List ℤ) (h : IsPrintableNetwork fs order ms twist) where
  abbrev net : Data
  net = network_data fs order ms twist

  group_is : group_data net ≡ map factor_data fs
  group_is = items_back (map factor_data fs)

  factors_is : factors_of net ≡ fs
  factors_is = ap (map factor_of) group_is ∙ group_back fs h.group

  members_is : members_data net ≡ map member_data ms
  members_is = items_back (map member_data ms)

  are_members : is_list (is_member (length (group_data net))) (list_data (map member_data ms)) ≡ true
  are_members =
      ap (λ n. is_list (is_member n) (list_data (map member_data ms))) (ap length group_is ∙ length-map fs factor_data)
      ∙ (ap (list_all (is_member (length fs))) (listed_items (map member_data ms))
      ∙ all_back (is_member (length fs)) member_data ms
      (All-weaker (IsPrintableMember fs) (λ m. is_member (length fs) (member_data m) ≡ true) (λ m k. is_member_back fs m h.factors k) ms h.members))

  document : is_network_document net ≡ true
  unfolding is_network_document
  document =
      ap₂ (λ a b. a && b) (has_version_back fs order ms twist)
      (ap₂ (λ a b. a && b) (is_group_back fs h.group)
      (ap₂ (λ a b. a && b) are_members (ap₂ (λ a b. a && b) (are_labels_back order h.ordered) (has_twist_back fs order ms twist h.twisted))))

  counted : count_fault net ≡ None
  counted = ap (λ b. fault_if b (fault 7 0 0 0)) (out (length (members_data net)) (omega (arith, ap length members_is, length-map ms member_data, h.some)) (omega (arith, ap length members_is, length-map ms member_data, h.few)))
    where
      out : (n : ℕ) → 0 < n → n ≤ 256 → (n == 0 || nat_lt 256 n) ≡ false
      out zero p q = absurd (omega (arith, p))
      out (suc n) p q = ap₂ (λ x y. x || y) (eqb-suc-zero n) (le-ltb 256 (suc n) q)

  head_sound : head_fault net ≡ None
  head_sound =
      none_then (fault_if (not (is_network_document net)) (fault 3 0 0 0)) _ (ap (λ b. fault_if (not b) (fault 3 0 0 0)) document)
      (none_then (group_fault (group_data net)) (count_fault net) (ap group_fault group_is ∙ group_sound fs h.group h.factors) counted)

  members_sound : members_fault net ≡ None
  members_sound =
      ap (λ g. first_of (member_fault g) (members_data net)) factors_is
      ∙ (ap (first_of (member_fault fs)) members_is
      ∙ first_from_none (member_fault fs) member_data 1 ms
      (All-weaker (IsPrintableMember fs) (λ m. (k : ℕ) → member_fault fs k (member_data m) ≡ None) (λ m p k. value_sound fs m.member m.labels k h.factors p.value) ms h.members))

  members_mean : members_of net ≡ map canonical_member ms
  members_mean =
      ap (λ g. map (labelled_of g) (members_data net)) factors_is
      ∙ (ap (map (labelled_of fs)) members_is ∙ members_back fs ms h.factors h.members)

  pub network_back : (parts_fault net ≡ None) × (factors_of net ≡ fs) × (members_of net ≡ map canonical_member ms) × (order_of net ≡ Some order) × (twist_of net ≡ twist)
  network_back = (none_then (head_fault net) (members_fault net) head_sound members_sound, factors_is, members_mean, ap Some (labels_back order h.ordered), twist_back fs order ms twist h.twisted)

pub networks_read_back : NetworkReadsBack
networks_read_back fs order ms twist h = network_back fs order ms twist h
