-- The entries of stored blocks.
use Rattle.std.proofs.Common.{Contains, ◌≡◌, ◌≢◌, ℕ, zero, suc, ◌+◌, ◌≤◌, ◌<◌, List, [], ◌∷◌, length, get_or, map, cond, Bool, true, false, arith, refl, ap, ◌∙◌, sym, subst, ◌⊎◌, inl, inr}
use Rattle.std.specs.List.{All}
use Rattle.qn_charge.specs.declared.factor.Factor.{Factor}
use Rattle.qn_gauss.specs.Gaussian.{zero_g}
use Rattle.qn_index.specs.Legs.{LegValue}
use Rattle.qn_index.specs.Tuples.{IsTuple, upward}
use Rattle.qn_index.specs.Places.{sectors_at, offset_at, values_at, block_size}
use Rattle.qn_index.proofs.Places.{back, values_in}
use Rattle.qn_value.specs.Tensors.{BlockValue, same_values, entry_in, entry_of, IsBlock, AreAscending}
use Rattle.qn_value.proofs.Values.{same_values-equal}
use Rattle.qn_value.proofs.BlockRows.{others_differ, ascending_rest}
use Rattle.qn_block.specs.Blocked.{BlockedValue, IsBlocked, tensor_of}
use Rattle.qn_block.specs.Refusals.{block_at}
use Rattle.qn_block.proofs.Rows.{same_from, differ_from}
use Rattle.qn_block.proofs.Entries.{by_blocks}
use Rattle.qn_fuse.specs.Pieces.{entries_at, piece}
use Rattle.qn_fuse.proofs.Flat.{map-map, map_upward}

-- no block has the tuple
pub none_at : (bs : List BlockValue) (t : List ℕ) → ((i : ℕ) → i < length bs → (block_at bs i).tuple ≢ t) → entries_at bs t ≡ []
none_at [] t n = refl
none_at (b ∷ bs) t n =
    ap (λ s. cond s b.entries (entries_at bs t)) (differ_from b.tuple t (n 0 (omega arith))) ∙ none_at bs t (λ i lt. n (suc i) (omega arith))

-- a block with the tuple
pub found_at : (bs : List BlockValue) (b : BlockValue) (t : List ℕ) → AreAscending bs → Contains bs b → b.tuple ≡ t → entries_at bs t ≡ b.entries
found_at [] b t a c e = absurd (omega (arith, c.1))
found_at (d ∷ bs) b t a (zero, lt, is) e =
    ap (λ s. cond s d.entries (entries_at bs t)) (same_from d.tuple t (ap (λ (k : BlockValue). k.tuple) is ∙ e)) ∙ ap (λ (k : BlockValue). k.entries) is
found_at (d ∷ bs) b t a (suc i, lt, is) e =
    let apart : d.tuple ≢ b.tuple = subst (λ (k : BlockValue). d.tuple ≢ k.tuple) is (others_differ d bs a i b (omega arith)) in
    ap (λ s. cond s d.entries (entries_at bs t)) (differ_from d.tuple t (λ q. apart (q ∙ sym e)))
    ∙ found_at bs b t (ascending_rest d bs a) (i, omega arith, is) e

-- all entries of the block, or none
pub long_at : (fs : List Factor) (ls : List LegValue) (q : List _) (bs : List BlockValue) (t : List ℕ) → All (IsBlock fs ls q) bs → (entries_at bs t ≡ []) ⊎ (length (entries_at bs t) ≡ block_size ls t)
long_at fs ls q [] t h = inl refl
long_at fs ls q (b ∷ bs) t h = by (same_values b.tuple t) refl (long_at fs ls q bs t (λ k d lt. h (suc k) d (omega arith)))
  where
    by : (s : Bool) → same_values b.tuple t ≡ s → (entries_at bs t ≡ []) ⊎ (length (entries_at bs t) ≡ block_size ls t) →
        (cond s b.entries (entries_at bs t) ≡ []) ⊎ (length (cond s b.entries (entries_at bs t)) ≡ block_size ls t)
    by true e r = let own : IsBlock fs ls q b = h 0 b (omega arith) in inr (own.full ∙ ap (block_size ls) (same_values-equal b.tuple t e))
    by false e r = r

in_block : (ls : List LegValue) (bs : List BlockValue) (xs : List ℕ) → entry_in ls bs xs ≡ get_or (entries_at bs (sectors_at ls xs)) (offset_at ls xs) zero_g
in_block ls [] xs = refl
in_block ls (b ∷ bs) xs = by (same_values b.tuple (sectors_at ls xs)) (in_block ls bs xs)
  where
    by : (s : Bool) → entry_in ls bs xs ≡ get_or (entries_at bs (sectors_at ls xs)) (offset_at ls xs) zero_g →
        cond s (get_or b.entries (offset_at ls xs) zero_g) (entry_in ls bs xs) ≡ get_or (cond s b.entries (entries_at bs (sectors_at ls xs))) (offset_at ls xs) zero_g
    by true e = refl
    by false e = e

-- they are the entries of the tensor, 0 where there is no block
pub entry_at_place : (t : BlockedValue) (u : List ℕ) (o : ℕ) → IsBlocked t → IsTuple t.legs u → o < block_size t.legs u → get_or (entries_at t.blocks u) o zero_g ≡ entry_of (tensor_of t) (values_at t.legs u o)
entry_at_place t u o h v lt =
    let b = back t.legs u o v lt in
    let xs = values_at t.legs u o in
    sym (by_blocks t xs h (values_in t.legs u o v lt) ∙ in_block t.legs t.blocks xs
    ∙ ap (λ s. get_or (entries_at t.blocks s) (offset_at t.legs xs) zero_g) b.sectors
    ∙ ap (λ n. get_or (entries_at t.blocks u) n zero_g) b.offset)

-- a piece of a block
pub piece_is : (t : BlockedValue) (ls : List LegValue) (u : List ℕ) (start n : ℕ) → IsBlocked t → t.legs ≡ ls → IsTuple ls u → start + n ≤ block_size ls u →
    piece (entries_at t.blocks u) start n ≡ map (entry_of (tensor_of t)) (map (values_at ls u) (upward start n))
piece_is t ls u start n h legs v fits =
    map_upward (λ o. get_or (entries_at t.blocks u) o zero_g) (λ o. entry_of (tensor_of t) (values_at ls u o)) start n
    (λ k l r. entry_at_place t u k h (subst (λ ks. IsTuple ks u) (sym legs) v) (subst (λ ks. k < block_size ks u) (sym legs) (omega arith)) ∙ ap (λ ks. entry_of (tensor_of t) (values_at ks u k)) legs)
    ∙ sym (map-map (entry_of (tensor_of t)) (values_at ls u) (upward start n))
