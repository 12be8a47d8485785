-- The text of a network nests to a fixed depth.
use Rattle.std.proofs.Common.{ℕ, ◌≤◌, ℤ, List, [], ◌∷◌, map, filter, arith}
use Rattle.std.specs.Prelude.{codes}
use Rattle.serde_json.specs.Data.{depth, items_depth}
use Rattle.serde_json.specs.View.{items_of}
use Rattle.serde_json.specs.Read.{max_depth}
use Rattle.qn_charge.specs.declared.factor.Factor.{Factor}
use Rattle.qn_block.specs.Blocked.{is_filled}
use Rattle.qn_block.specs.Combiners.{CombinerValue}
use Rattle.qn_net.specs.Members.{MemberValue, LabelledMember}
use Rattle.qn_net.specs.Members.MemberValue.{own, fuse, split}
use Rattle.qn_json.specs.Texts.{whole_data}
use Rattle.qn_parts.specs.TensorTexts.{factor_data, leg_data, block_data}
use Rattle.qn_parts.proofs.Depths as depths
use Rattle.qn_doc.specs.NetworkTexts.{table_data, labelled_data, member_data, network_data}

flat : (ls : List ℤ) → items_depth (items_of (map whole_data ls)) ≤ 0
flat ls = depths.deep whole_data 0 (λ z. omega arith) ls

table_deep : (c : CombinerValue) (mode : List ℕ) (ls : List ℤ) → depth (table_data c mode ls) ≤ 7
table_deep c mode ls = omega (arith, depths.deep leg_data 4 depths.leg c.legs, flat ls)

placed_deep : (m : MemberValue) (ls : List ℤ) → depth (labelled_data m ls) ≤ 7
placed_deep (own t) ls =
    omega (arith, depths.deep block_data 3 depths.block (filter is_filled t.blocks), flat t.flux, flat ls, depths.deep leg_data 4 depths.leg t.legs)
placed_deep (fuse c) ls = table_deep c (codes "fuse") ls
placed_deep (split c) ls = table_deep c (codes "split") ls

pub shallow : (fs : List Factor) (order : List ℤ) (ms : List LabelledMember) (twist : List ℤ) → depth (network_data fs order ms twist) ≤ max_depth
shallow fs order ms [] = omega (arith, depths.deep factor_data 1 depths.factor fs, flat order, depths.deep member_data 7 (λ m. placed_deep m.member m.labels) ms)
shallow fs order ms (l ∷ ls) =
    omega (arith, depths.deep factor_data 1 depths.factor fs, flat order, depths.deep member_data 7 (λ m. placed_deep m.member m.labels) ms, flat (l ∷ ls))
