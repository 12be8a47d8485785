-- A network has one text.
use Rattle.std.proofs.Common.{◌≡◌, ℕ, suc, ℤ, None, List, [], ◌∷◌, map, filter, refl, sym, ◌∙◌, ap, subst}
use Rattle.std.specs.List.{All}
use Rattle.std.proofs.lemmas.List.Elements.{All-head, All-tail}
use Rattle.serde_json.specs.Data.{Data}
use Rattle.qn_index.specs.Tuples.{admitted}
use Rattle.qn_index.specs.Legs.{LegValue}
use Rattle.qn_value.specs.Tensors.{TensorValue, BlockValue, entry_of}
use Rattle.qn_value.specs.Magnitudes.{all_blocks}
use Rattle.qn_block.specs.Blocked.{BlockedValue, IsBlocked, tensor_of, is_filled}
use Rattle.qn_net.specs.Groups.Role.{tensor, fuse_table, split_table}
use Rattle.qn_net.specs.Refusals.{network_of}
use Rattle.qn_braket.specs.Chains.{with_labels}
use Rattle.qn_charge.specs.declared.factor.Factor.{Factor}
use Rattle.qn_json.specs.Texts.{list_data, line_of}
use Rattle.qn_parts.specs.TensorTexts.{factor_data, block_data, charge_data, leg_data}
use Rattle.serde_json.specs.Data.{object, member, no_members}
use Rattle.std.specs.Prelude.{codes}
use Rattle.qn_net.specs.Members.{MemberValue, LabelledMember, placed_member, role_of, member_tensor, IsHeld}
use Rattle.qn_net.specs.Members.MemberValue.{own, fuse, split}
use Rattle.qn_net.specs.NetworkValues.{PlacedMember}
use Rattle.qn_doc.specs.NetworkTexts.{own_data, labelled_data, labels_data, member_data, network_data, IsTextOf}
use Rattle.qn_cli.proofs.Automata.{told}

-- tensors with equal entries have equal blocks that are not all zeros
same_blocks : (a b : BlockedValue) → IsBlocked a → IsBlocked b → tensor_of a ≡ tensor_of b → filter is_filled a.blocks ≡ filter is_filled b.blocks
same_blocks a b h k same =
    let mine = told a (λ xs. entry_of (tensor_of b) xs) h (λ xs is. ap (λ (u : TensorValue). entry_of u xs) same) in
    let other = told b (λ xs. entry_of (tensor_of b) xs) k (λ xs is. refl) in
    mine ∙ (ap (λ (u : TensorValue). filter is_filled (all_blocks (λ xs. entry_of (tensor_of b) xs) u.legs (admitted u.group u.legs u.flux))) same ∙ sym other)

-- {"blocks":[block,..],"flux":flux,"labels":[whole,..],"legs":[leg,..]}
abbrev written : List BlockValue → List ℤ → List ℤ → List LegValue → Data
written bs flux ls legs =
    object
    (member (codes "blocks") (list_data (map block_data bs))
    (member (codes "flux") (charge_data flux)
    (member (codes "labels") (labels_data ls) (member (codes "legs") (list_data (map leg_data legs)) no_members))))

same_own : (a b : BlockedValue) (ls : List ℤ) → IsBlocked a → IsBlocked b → tensor_of a ≡ tensor_of b → own_data a ls ≡ own_data b ls
same_own a b ls h k same =
    ap (λ bs. written bs a.flux ls a.legs) (same_blocks a b h k same)
    ∙ (ap (λ (t : TensorValue). written (filter is_filled b.blocks) t.flux ls a.legs) same
    ∙ ap (λ (t : TensorValue). written (filter is_filled b.blocks) b.flux ls t.legs) same)

-- a member that stands for the same labelled tensor is written as it
same_member : (m : LabelledMember) (t : BlockedValue) (ls : List ℤ) → IsHeld m.member → IsBlocked t → placed_member m ≡ placed_member (record { member = own t; labels = ls }) → member_data m ≡ own_data t ls
same_member m t ls h k e = by m.member refl
  where
    labels : m.labels ≡ ls
    labels = ap (λ (p : PlacedMember). p.placed.labels) e

    by : (v : MemberValue) → m.member ≡ v → member_data m ≡ own_data t ls
    by (own a) is =
        let held : IsBlocked a = subst IsHeld is h in
        let tensors : tensor_of a ≡ tensor_of t = ap member_tensor (sym is) ∙ ap (λ (p : PlacedMember). p.placed.tensor) e in
        ap (λ v. labelled_data v m.labels) is ∙ (ap (λ ks. own_data a ks) labels ∙ same_own a t ls held k tensors)
    by (fuse c) is =
        let role : fuse_table ≡ tensor = ap role_of (sym is) ∙ ap (λ (p : PlacedMember). p.role) e in absurd (cc role)
    by (split c) is =
        let role : split_table ≡ tensor = ap role_of (sym is) ∙ ap (λ (p : PlacedMember). p.role) e in absurd (cc role)

abbrev first_of : (d : PlacedMember) → List PlacedMember → PlacedMember
first_of d [] = d
first_of d (p ∷ ps) = p

abbrev rest_of : List PlacedMember → List PlacedMember
rest_of [] = []
rest_of (p ∷ ps) = ps

pub same_members : (labels : ℕ → List ℤ) (j : ℕ) (ts : List BlockedValue) (ms : List LabelledMember) → All (λ (m : LabelledMember). IsHeld m.member) ms → All IsBlocked ts
    → map placed_member ms ≡ map placed_member (with_labels labels j ts) → map member_data ms ≡ map member_data (with_labels labels j ts)
same_members labels j [] [] h k e = refl
same_members labels j [] (m ∷ ms) h k e = absurd (cc e)
same_members labels j (t ∷ ts) [] h k e = absurd (cc e)
same_members labels j (t ∷ ts) (m ∷ ms) h k e =
    let head = same_member m t (labels j) (All-head (λ (n : LabelledMember). IsHeld n.member) m ms h) (All-head IsBlocked t ts k) (ap (first_of (placed_member m)) e) in
    let tail = same_members labels (suc j) ts ms (All-tail (λ (n : LabelledMember). IsHeld n.member) m ms h) (All-tail IsBlocked t ts k) (ap rest_of e) in
    ap (λ d. d ∷ map member_data ms) head ∙ ap (λ ds. own_data t (labels j) ∷ ds) tail

abbrev network_with : List Factor → List ℤ → List Data → Data
network_with fs order ds =
    object (member (codes "group") (list_data (map factor_data fs)) (member (codes "order") (labels_data order) (member (codes "tensors") (list_data ds) no_members)))

-- a network of tensors has one text
pub text_told : (fs : List Factor) (labels : ℕ → List ℤ) (ts : List BlockedValue) (text : List ℕ) → All IsBlocked ts
    → IsTextOf (network_of fs (with_labels labels 0 ts) None []) text → text ≡ line_of (network_data fs (network_of fs (with_labels labels 0 ts) None []).order (with_labels labels 0 ts) [])
text_told fs labels ts text k w =
    let same = same_members labels 0 ts w.members w.held k w.are in
    w.is ∙ ap (λ ds. line_of (network_with fs (network_of fs (with_labels labels 0 ts) None []).order ds)) same
