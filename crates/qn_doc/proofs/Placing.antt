-- Members of a document without a fault are members of a network.
use Rattle.std.proofs.Common.{◌≡◌, ℕ, ◌≤◌, ◌^◌, ℤ, List, [], ◌∷◌, length, map, Bool, true, false, cond, arith, sym, ap, subst, ◌∙◌}
use Rattle.std.proofs.lemmas.List.{length-reverse, length-map, length-append}
use Rattle.qn_charge.specs.declared.factor.Factor.{Factor}
use Rattle.qn_charge.specs.declared.factor.Factor.TheVariants.{U1, Zn}
use Rattle.qn_charge.specs.Charges.{IsWithin, zero_charge}
use Rattle.qn_charge.specs.Laws.{within_more, within_zero}
use Rattle.qn_index.specs.Legs.{LegValue, flipped}
use Rattle.serde_json.specs.Data.{Data}
use Rattle.qn_block.specs.Blocked.{BlockedValue, IsBlocked, conjugate_legs}
use Rattle.qn_block.specs.Combiners.{CombinerValue, fused_leg}
use Rattle.qn_net.specs.Members.{MemberValue, LabelledMember, IsMemberOf}
use Rattle.qn_net.specs.Members.MemberValue.{own, fuse, split}
use Rattle.qn_parts.specs.Tensors.{IsOfDocument}
use Rattle.qn_doc.specs.Combiners.{IsTable, table_legs, is_split, combiner_of}
use Rattle.qn_doc.specs.Members.{IsPlaced, table_of}
use Rattle.qn_block.proofs.Mirror.{conjugate_length}

-- ---- the zero charge

-- ---- the legs of a table

pub table_count : (b : Bool) (c : CombinerValue) → length c.legs ≤ 31 → length (table_legs b c) ≤ 32
table_count true c few = omega (arith, few, length-append c.legs (flipped (fused_leg c.group c.legs c.arrow) ∷ []))
table_count false c few = omega (arith, few, conjugate_length c.legs)

-- ---- members

pub own_placed : (fs : List Factor) (t : BlockedValue) → t.group ≡ fs → IsBlocked t → IsOfDocument t → IsPlaced fs (own t)
own_placed fs t is h d = record {
  labelled = λ labels. record {
    group = is;
    few = d.few;
    flux = subst (λ g. IsWithin (2 ^ 41) g t.flux) is (within_more 1000000000000 (2 ^ 41) t.group t.flux (omega arith) d.flux);
    narrow = tt;
  };
}

table_placed : (fs : List Factor) (b : Bool) (c : CombinerValue) (labels : List ℤ) → c.group ≡ fs → IsTable b c → IsMemberOf fs (record { member = cond b (split c) (fuse c); labels = labels })
table_placed fs true c labels is h = record {
  group = is;
  few = table_count true c h.few;
  flux = subst (λ g. IsWithin (2 ^ 41) g (zero_charge c.group)) is (within_zero (2 ^ 41) c.group);
  narrow = h.shape;
}
table_placed fs false c labels is h = record {
  group = is;
  few = table_count false c h.few;
  flux = subst (λ g. IsWithin (2 ^ 41) g (zero_charge c.group)) is (within_zero (2 ^ 41) c.group);
  narrow = h.shape;
}

-- the table of a combiner, by what the document says of its mode
pub table_is : (fs : List Factor) (d : Data) (b : Bool) (c : CombinerValue) → is_split d ≡ b → c ≡ combiner_of fs d → cond b (split c) (fuse c) ≡ table_of fs d
table_is fs d b c s is = ap (λ x. cond b (split x) (fuse x)) is ∙ ap (λ a. cond a (split (combiner_of fs d)) (fuse (combiner_of fs d))) (sym s)

pub table_is_placed : (fs : List Factor) (d : Data) (b : Bool) (c : CombinerValue) → is_split d ≡ b → c ≡ combiner_of fs d → IsTable (is_split d) c → IsPlaced fs (table_of fs d)
table_is_placed fs d b c s is h =
    subst (IsPlaced fs) (table_is fs d b c s is)
    (record { labelled = λ labels. table_placed fs b c labels (ap (λ x. x.group) is) (subst (λ a. IsTable a c) s h) })

abbrev pub labelled : MemberValue → List ℤ → LabelledMember
labelled m ls = record { member = m; labels = ls }

pub same_labelled : (m n : MemberValue) (ls ks : List ℤ) → m ≡ n → ls ≡ ks → labelled m ls ≡ labelled n ks
same_labelled m n ls ks e f = ap (λ x. labelled x ls) e ∙ ap (labelled n) f
