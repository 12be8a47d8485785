-- The entries of members are within the limit.
use Rattle.std.proofs.Common.{◌≤◌, ℕ, ◌+◌, Bool, true, false, cond, List, [], ◌∷◌, sym, subst, map, arith}
use Rattle.std.specs.List.{All}
use Rattle.std.proofs.lemmas.List.Elements.{All-append}
use Rattle.qn_gauss.specs.Gaussian.{Gaussian, mag, limit, one_g, signed}
use Rattle.qn_index.specs.Legs.{LegValue}
use Rattle.qn_value.specs.Tensors.{Row, BlockValue, same_values, entry_at, rows_from, rows_of}
use Rattle.qn_value.specs.Labels.{node_of}
use Rattle.qn_value.proofs.BlockRows.{all-nil, all-cons}
use Rattle.qn_value.proofs.PlacedLemmas.{all_first, all_others}
use Rattle.qn_value.proofs.MagnitudeLemmas.{mag_zero, mag_signed}
use Rattle.qn_block.specs.Tables.{numbered, fuse_row, split_row}
use Rattle.qn_net.specs.Members.{MemberValue, LabelledMember, member_tensor, placed_member}
use Rattle.qn_net.specs.Members.MemberValue.{own, fuse, split}
use Rattle.qn_net.specs.FuseSteps.{IsBoundedBy}
use Rattle.qn_engine.specs.Parts.{IsSmallMember}

abbrev IsSmallRow : Row → Type 0
IsSmallRow r = mag r.entry ≤ limit

small_entry : (rows : List Row) (xs : List ℕ) → All IsSmallRow rows → mag (entry_at rows xs) ≤ limit
small_entry [] xs h = subst (λ m. m ≤ limit) (sym mag_zero) (omega arith)
small_entry (r ∷ rs) xs h = go (same_values r.values xs) (all_first IsSmallRow r rs h) (small_entry rs xs (all_others IsSmallRow r rs h))
  where
    go : (b : Bool) → mag r.entry ≤ limit → mag (entry_at rs xs) ≤ limit → mag (cond b r.entry (entry_at rs xs)) ≤ limit
    go true p q = p
    go false p q = q

small_from : (ls : List LegValue) (t : List ℕ) (o : ℕ) (es : List Gaussian) → All (λ z. mag z ≤ limit) es → All IsSmallRow (rows_from ls t o es)
small_from ls t o [] h = all-nil IsSmallRow
small_from ls t o (e ∷ es) h = all-cons IsSmallRow _ (rows_from ls t (o + 1) es) (all_first (λ z. mag z ≤ limit) e es h) (small_from ls t (o + 1) es (all_others (λ z. mag z ≤ limit) e es h))

small_blocks : (ls : List LegValue) (bs : List BlockValue) → All (λ b. All (λ z. mag z ≤ limit) b.entries) bs → All IsSmallRow (rows_of ls bs)
small_blocks ls [] h = all-nil IsSmallRow
small_blocks ls (b ∷ bs) h =
    All-append IsSmallRow (rows_from ls b.tuple 0 b.entries) (rows_of ls bs)
    (small_from ls b.tuple 0 b.entries (all_first (λ (c : BlockValue). All (λ z. mag z ≤ limit) c.entries) b bs h))
    (small_blocks ls bs (all_others (λ (c : BlockValue). All (λ z. mag z ≤ limit) c.entries) b bs h))

mag_one : mag one_g ≤ limit
unfolding one_g
mag_one = omega arith

small_numbered : (row : ℕ → List ℕ → Row) → ((w : ℕ) (vs : List ℕ) → IsSmallRow (row w vs)) → (w : ℕ) (vss : List (List ℕ)) → All IsSmallRow (numbered row w vss)
small_numbered row h w [] = all-nil IsSmallRow
small_numbered row h w (vs ∷ vss) = all-cons IsSmallRow (row w vs) (numbered row (w + 1) vss) (h w vs) (small_numbered row h (w + 1) vss)

small_signed : (b : Bool) → mag (signed b one_g) ≤ limit
small_signed b = subst (λ m. m ≤ limit) (sym (mag_signed b one_g)) mag_one

small_tensor : (m : MemberValue) → IsSmallMember m → All IsSmallRow (member_tensor m).rows
small_tensor (own t) h = small_blocks t.legs t.blocks h
small_tensor (fuse c) h = small_numbered (fuse_row c.group c.legs) (λ w vs. small_signed _) 0 _
small_tensor (split c) h = small_numbered (split_row c.group c.legs c.arrow) (λ w vs. small_signed _) 0 _

pub small_members : (ms : List LabelledMember) → All (λ m. IsSmallMember m.member) ms → All (λ m. IsBoundedBy limit (node_of m.placed)) (map placed_member ms)
small_members [] h = all-nil (λ m. IsBoundedBy limit (node_of m.placed))
small_members (m ∷ ms) h =
    all-cons (λ m. IsBoundedBy limit (node_of m.placed)) (placed_member m) (map placed_member ms)
    (λ a. small_entry (member_tensor m.member).rows _ (small_tensor m.member (all_first (λ (k : LabelledMember). IsSmallMember k.member) m ms h)))
    (small_members ms (all_others (λ (k : LabelledMember). IsSmallMember k.member) m ms h))
