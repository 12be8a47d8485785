-- A tensor with its legs in another order, block by block.
use Rattle.std.proofs.Common.{Contains, ◌≡◌, ◌≢◌, ◌==◌, ℕ, zero, suc, ◌+◌, ◌*◌, ◌<◌, ℤ, Bool, true, false, List, [], ◌∷◌, ◌++◌, length, map, get_or, arith, refl, ap, ap₂, ◌∙◌, sym, subst}
use Rattle.std.specs.List.{All}
use Rattle.std.specs.Prelude.{Result, Ok, Err, IfOk}
use Rattle.std.proofs.lemmas.List.{length-map, get_or-map, get_or_default, append-nil}
use Rattle.qn_gauss.specs.Gaussian.{Gaussian, zero_g, signed}
use Rattle.qn_gauss.proofs.Signs.{signed-zero}
use Rattle.qn_sign.specs.Sign.{Perm, exchange_sign, IsDistinct}
use Rattle.qn_sign.specs.Sign.Perm.{none}
use Rattle.qn_sign.proofs.ExchangeLaws.{common_first_part}
use Rattle.qn_sign.specs.Positions.{positions, IsOrder, is_odd_at}
use Rattle.qn_sign.proofs.Positions.{orders_are_permutations, nat_test}
use Rattle.qn_charge.specs.declared.factor.Factor.{Factor}
use Rattle.qn_charge.specs.Charges.{IsGroup, parity}
use Rattle.qn_index.specs.Legs.{LegValue, IsSound, no_sector, sector_at, sector_of, offset_in}
use Rattle.qn_index.specs.Tuples.{IsTuple, net}
use Rattle.qn_index.specs.Places.{block_size, IsInner, offset_of, IsValues, sectors_at, offset_at}
use Rattle.qn_index.proofs.Nets.{tuple_length, tuple_at}
use Rattle.qn_index.proofs.Places.{inner_at, inner_length, inner_of_offset}
use Rattle.qn_index.specs.Tuples.{IsFlux}
use Rattle.qn_index.specs.Extents.{IsWithinLimits}
use Rattle.qn_index.specs.Legs.{IsLegOf}
use Rattle.std.specs.List.Sorted.{IsPermutation, IsSortedBy}
use Rattle.std.proofs.lemmas.List.Sorted.{All-permutation, Contains-permutation, IsPermutation-sym}
use Rattle.std.proofs.lemmas.List.Elements.{All-map, Contains-get_or}
use Rattle.std.proofs.lemmas.Bool.{false≢true}
use Rattle.qn_value.specs.Tensors.{BlockValue, no_block, IsBlock, AreAscending, entry_in, entry_of, same_values}
use Rattle.qn_value.specs.Local.{picked, parities, moving_sign, no_leg, Moved}
use Rattle.qn_value.proofs.Values.{same_values-equal}
use Rattle.qn_block.specs.Blocked.{BlockedValue, IsBlocked, tensor_of, offsets_at}
use Rattle.qn_block.specs.Refusals.{block_at}
use Rattle.qn_block.proofs.Entries.{by_blocks}
use Rattle.qn_block.proofs.Rows.{same_from}
use Rattle.qn_block.proofs.Lookup.{one_block, entry_found, entry_nowhere, values_length, value_at, sectors_length, sector_is, offset_is, offset_same}
use Rattle.qn_permute.specs.declared.axis.Axis.{Axis}
use Rattle.qn_permute.specs.Axes.{no_axis, axes, places, reach, entry_at_place}
use Rattle.qn_permute.specs.Moved.{sector_parities, block_sign, moved_entries, moved_block, is_before}
use Rattle.qn_permute.proofs.Columns.{picked_all, picked_only, map_within, net_perm, size_perm, tuple_columns, inner_columns, values_columns, sectors_columns, offsets_columns}
use Rattle.qn_permute.proofs.Widths.{count_perm, entries_perm}
use Rattle.qn_permute.proofs.Sorted.{AreApart, apart_perm, sorted_ascend}
use Rattle.qn_permute.proofs.Lines.{along, along_perm, along_own, reach_perm, reach_own, length_places, place_there, axis_there, axes_length}
use Rattle.qn_value.proofs.Sums.{perm-map}
pub use Rattle.qn_index.proofs.Admitted.{block_some}

pub parities_length : (fs : List Factor) (ls : List LegValue) (t : List ℕ) → IsTuple ls t → length (sector_parities fs ls t) ≡ length ls
parities_length fs [] t h = refl
parities_length fs (l ∷ ls) [] h = absurd h
parities_length fs (l ∷ ls) (s ∷ ss) h = ap suc (parities_length fs ls ss h.1)

pub parity_there : (fs : List Factor) (ls : List LegValue) (t : List ℕ) (i : ℕ) (l : LegValue) → IsTuple ls t → i < length ls → get_or (sector_parities fs ls t) i false ≡ parity fs (sector_at (get_or ls i l).sectors (get_or t i 0)).charge
parity_there fs [] t i l h lt = absurd (omega arith)
parity_there fs (m ∷ ls) [] i l h lt = absurd h
parity_there fs (m ∷ ls) (s ∷ ss) zero l h lt = refl
parity_there fs (m ∷ ls) (s ∷ ss) (suc i) l h lt = parity_there fs ls ss i l h.1 (omega arith)

-- the last place is in the block
pub moved_reach : (ls : List LegValue) (t order : List ℕ) → IsOrder (length ls) order → All IsSound ls → IsTuple ls t → reach (picked no_axis (axes ls t) order) < block_size ls t
moved_reach ls t order o s h =
    let p : Perm (positions (length ls)) order = (orders_are_permutations (length ls) order).1 o in
    let whole : picked no_axis (axes ls t) (positions (length ls)) ≡ axes ls t = ap (λ n. picked no_axis (axes ls t) (positions n)) (sym (axes_length ls t h)) ∙ picked_all no_axis (axes ls t) in
    let same = reach_perm (λ k. get_or (axes ls t) k no_axis) p in
    let all = ap reach whole in
    omega (arith, same, all, reach_own ls t h (block_some ls t s h))

-- a block's sign is that of its values
pub sign_at_values : (fs : List Factor) (ls : List LegValue) (xs order : List ℕ) → block_sign fs ls (sectors_at ls xs) order ≡ moving_sign fs ls xs order
sign_at_values fs ls xs order = ap (λ ps. exchange_sign ◌==◌ (is_odd_at ps) (positions (length ls)) order) (same ls xs)
  where
    same : (ks : List LegValue) (ys : List ℕ) → sector_parities fs ks (sectors_at ks ys) ≡ parities fs ks ys
    same [] ys = refl
    same (l ∷ ks) [] = refl
    same (l ∷ ks) (y ∷ ys) = ap (λ bs. parity fs (sector_at l.sectors (sector_of l.sectors y)).charge ∷ bs) (same ks ys)

-- the place of a tuple's block, if it has one
data Found (bs : List BlockValue) (t : List ℕ) : Type 0 where
  there : (i : ℕ) → i < length bs → (block_at bs i).tuple ≡ t → Found bs t
  nowhere : ((j : ℕ) → j < length bs → (block_at bs j).tuple ≢ t) → Found bs t

found : (bs : List BlockValue) (t : List ℕ) → Found bs t
found [] t = nowhere (λ j lt e. absurd (omega arith))
found (b ∷ bs) t = by (same_values b.tuple t) refl (found bs t)
  where
    none_later : b.tuple ≢ t → ((j : ℕ) → j < length bs → (block_at bs j).tuple ≢ t) → (j : ℕ) → j < length (b ∷ bs) → (block_at (b ∷ bs) j).tuple ≢ t
    none_later n m zero lt = n
    none_later n m (suc j) lt = m j (omega arith)

    by : (y : Bool) → same_values b.tuple t ≡ y → Found bs t → Found (b ∷ bs) t
    by true e r = there 0 (omega arith) (same_values-equal b.tuple t e)
    by false e (there i lt s) = there (suc i) (omega arith) s
    by false e (nowhere n) = nowhere (none_later (λ s. false≢true (sym e ∙ same_from b.tuple t s)) n)

-- ---- one block

module _ (fs : List Factor) (ls : List LegValue) (order : List ℕ) (o : IsOrder (length ls) order) where
  perm : Perm (positions (length ls)) order
  perm = (orders_are_permutations (length ls) order).1 o

  all_of : {A : Type 0} (d : A) (xs : List A) → length xs ≡ length ls → picked d xs (positions (length ls)) ≡ xs
  all_of d xs e = ap (λ n. picked d xs (positions n)) (sym e) ∙ picked_all d xs

  pub moved_tuple : (t : List ℕ) → IsTuple ls t → IsTuple (picked no_leg ls order) (picked 0 t order)
  moved_tuple t h = tuple_columns (length ls) (λ k. get_or ls k no_leg) (λ k. get_or t k 0) order o.within (λ k lt. tuple_at ls t k no_leg h lt)

  moved_net : (t : List ℕ) → IsGroup fs → IsTuple ls t → net fs (picked no_leg ls order) (picked 0 t order) ≡ net fs ls t
  moved_net t g h =
      sym (net_perm fs (λ k. get_or ls k no_leg) (λ k. get_or t k 0) g perm)
      ∙ ap₂ (λ ks u. net fs ks u) (all_of no_leg ls refl) (all_of 0 t (tuple_length ls t h))

  moved_size : (t : List ℕ) → IsTuple ls t → block_size (picked no_leg ls order) (picked 0 t order) ≡ block_size ls t
  moved_size t h =
      sym (size_perm (λ k. get_or ls k no_leg) (λ k. get_or t k 0) perm)
      ∙ ap₂ (λ ks u. block_size ks u) (all_of no_leg ls refl) (all_of 0 t (tuple_length ls t h))

  moved_places : (t : List ℕ) → IsTuple ls t → length (places (picked no_axis (axes ls t) order) 0) ≡ block_size (picked no_leg ls order) (picked 0 t order)
  moved_places t h =
      length_places (length ls) (λ k. get_or ls k no_leg) (λ k. get_or t k 0) (λ k. get_or (axes ls t) k no_axis) order 0 o.within (λ k lt. axis_there ls t k no_leg h lt)

  moved_length : (t : List ℕ) (es : List Gaussian) → IsTuple ls t → length (moved_entries fs ls order t es) ≡ block_size (picked no_leg ls order) (picked 0 t order)
  moved_length t es h = length-map (places (picked no_axis (axes ls t) order) 0) (entry_at_place es (block_sign fs ls t order)) ∙ moved_places t h

  -- it is a block of the legs in the other order
  moved_is_block : (q : List ℤ) (b : BlockValue) → IsGroup fs → IsBlock fs ls q b → IsBlock fs (picked no_leg ls order) q (moved_block fs ls order b)
  moved_is_block q b g h = record {
    tuple = moved_tuple b.tuple h.tuple;
    flux = moved_net b.tuple g h.tuple ∙ h.flux;
    full = moved_length b.tuple b.entries h.tuple;
    small = let same = moved_size b.tuple h.tuple in omega (arith, same, h.small);
  }

  moved_along : (t os : List ℕ) → IsTuple ls t → IsInner ls t os → along (picked no_axis (axes ls t) order) (picked 0 os order) ≡ offset_of ls t os
  moved_along t os h i =
      sym (along_perm (λ k. get_or (axes ls t) k no_axis) (λ k. get_or os k 0) perm)
      ∙ (ap₂ (λ xs ys. along xs ys) (all_of no_axis (axes ls t) (axes_length ls t h)) (all_of 0 os (inner_length ls t os i)) ∙ along_own ls t os i)

  -- its entries at offsets in its sectors
  moved_at : (t os : List ℕ) (es : List Gaussian) → IsTuple ls t → IsInner ls t os →
      get_or (moved_entries fs ls order t es) (offset_of (picked no_leg ls order) (picked 0 t order) (picked 0 os order)) zero_g ≡ signed (block_sign fs ls t order) (get_or es (offset_of ls t os) zero_g)
  moved_at t os es h i =
      let n : ℕ = length ls in
      let l : ℕ → LegValue = λ k. get_or ls k no_leg in
      let s : ℕ → ℕ = λ k. get_or t k 0 in
      let u : ℕ → ℕ = λ k. get_or os k 0 in
      let x : ℕ → Axis = λ k. get_or (axes ls t) k no_axis in
      let inner : IsInner (map l order) (map s order) (map u order) = inner_columns n l s u order o.within (λ k lt. inner_at ls t os k no_leg i lt) in
      let place : ℕ = offset_of (map l order) (map s order) (map u order) in
      let below : place < block_size (map l order) (map s order) = (inner_of_offset (map l order) (map s order) (map u order) (moved_tuple t h) inner).0 in
      let inside : place < length (places (map x order) 0) = omega (arith, below, moved_places t h) in
      let there : get_or (places (map x order) 0) place 0 ≡ 0 + along (map x order) (map u order) = place_there n l s u x order 0 o.within (λ k lt. axis_there ls t k no_leg h lt) (moved_tuple t h) inner in
      get_or-map (entry_at_place es (block_sign fs ls t order)) (places (map x order) 0) place 0 zero_g inside
      ∙ ap (entry_at_place es (block_sign fs ls t order)) (there ∙ omega (arith, moved_along t os h i))

  pub moved_values : (xs : List ℕ) → IsValues ls xs → IsValues (picked no_leg ls order) (picked 0 xs order)
  moved_values xs v = values_columns (length ls) (λ k. get_or ls k no_leg) (λ k. get_or xs k 0) order o.within (λ k lt. value_at ls xs k (get_or ls k no_leg) v lt (get_or_default ls k no_leg (get_or ls k no_leg) lt))

  moved_sectors : (xs : List ℕ) → IsValues ls xs → sectors_at (picked no_leg ls order) (picked 0 xs order) ≡ picked 0 (sectors_at ls xs) order
  moved_sectors xs v =
      sectors_columns (λ k. get_or ls k no_leg) (λ k. get_or xs k 0) order
      ∙ map_within (length ls) (λ k. sector_of (get_or ls k no_leg).sectors (get_or xs k 0)) (λ k. get_or (sectors_at ls xs) k 0) order o.within
      (λ k lt. sym (sector_is ls xs k (get_or ls k no_leg) v lt (get_or_default ls k no_leg (get_or ls k no_leg) lt)))

  moved_offsets : (xs : List ℕ) → IsValues ls xs → offsets_at (picked no_leg ls order) (picked 0 xs order) ≡ picked 0 (offsets_at ls xs) order
  moved_offsets xs v =
      offsets_columns (λ k. get_or ls k no_leg) (λ k. get_or xs k 0) order
      ∙ map_within (length ls) (λ k. offset_in (get_or ls k no_leg).sectors (get_or xs k 0)) (λ k. get_or (offsets_at ls xs) k 0) order o.within
      (λ k lt. sym (offset_is ls xs k (get_or ls k no_leg) v lt (get_or_default ls k no_leg (get_or ls k no_leg) lt)))

  -- its entries at values
  moved_here : (b : BlockValue) (xs : List ℕ) → IsTuple ls b.tuple → IsValues ls xs → b.tuple ≡ sectors_at ls xs →
      get_or (moved_block fs ls order b).entries (offset_at (picked no_leg ls order) (picked 0 xs order)) zero_g ≡ signed (moving_sign fs ls xs order) (get_or b.entries (offset_at ls xs) zero_g)
  moved_here b xs h v e =
      let ks : List LegValue = picked no_leg ls order in
      let own : List ℕ = sectors_at ls xs in
      let a = offset_same ls xs v in
      let c = offset_same ks (picked 0 xs order) (moved_values xs v) in
      let inner : IsInner ls b.tuple (offsets_at ls xs) = subst (λ t. IsInner ls t (offsets_at ls xs)) (sym e) a.0 in
      let new : offset_at ks (picked 0 xs order) ≡ offset_of ks (picked 0 b.tuple order) (picked 0 (offsets_at ls xs) order) =
      sym c.1 ∙ ap₂ (λ t os. offset_of ks t os) (moved_sectors xs v ∙ ap (λ t. picked 0 t order) (sym e)) (moved_offsets xs v) in
      let old : offset_of ls b.tuple (offsets_at ls xs) ≡ offset_at ls xs = ap (λ t. offset_of ls t (offsets_at ls xs)) e ∙ a.1 in
      let sign : block_sign fs ls b.tuple order ≡ moving_sign fs ls xs order = ap (λ t. block_sign fs ls t order) e ∙ sign_at_values fs ls xs order in
      ap (λ k. get_or (moved_block fs ls order b).entries k zero_g) new
      ∙ (moved_at b.tuple (offsets_at ls xs) b.entries h inner
      ∙ ap₂ (λ m k. signed m (get_or b.entries k zero_g)) sign old)

  -- ---- all blocks

  only : (t u : List ℕ) → length t ≡ length ls → length u ≡ length ls → picked 0 t order ≡ picked 0 u order → t ≡ u
  only t u a b e = picked_only 0 t u order (b ∙ sym a) (subst (λ n. Perm (positions n) order) (sym a) perm) e

  legs_perm : Perm ls (picked no_leg ls order)
  legs_perm = subst (λ ks. Perm ks (picked no_leg ls order)) (all_of no_leg ls refl) (perm-map (λ k. get_or ls k no_leg) perm)

  moved_limits : (q : List ℤ) → IsGroup fs → IsFlux fs q → IsWithinLimits fs ls q → IsWithinLimits fs (picked no_leg ls order) q
  moved_limits q g f h = record {
    legs = omega (arith, length-map order (λ k. get_or ls k no_leg), o.count, h.legs);
    tuples = let same = count_perm legs_perm in omega (arith, same, h.tuples);
    entries = let same = entries_perm fs q g f.canonical legs_perm in omega (arith, same, h.entries);
  }

  module _ (q : List ℤ) (bs ds : List BlockValue) (h : All (IsBlock fs ls q) bs) (p : IsPermutation (map (moved_block fs ls order) bs) ds) where
    -- the i-th block stands among the new ones
    there_is : (i : ℕ) → i < length bs → Contains ds (moved_block fs ls order (block_at bs i))
    there_is i lt =
        let x : BlockValue = moved_block fs ls order (block_at bs i) in
        let long = length-map bs (moved_block fs ls order) in
        Contains-permutation (map (moved_block fs ls order) bs) ds x p (i, omega arith, get_or-map (moved_block fs ls order) bs i no_block x lt)

    record HasOld (j : ℕ) : Type 0 where
      place : ℕ
      below : place < length bs
      same : block_at ds j ≡ moved_block fs ls order (block_at bs place)

    -- each new block is an old one
    has_old : (j : ℕ) → j < length ds → HasOld j
    has_old j lt =
        let x : BlockValue = block_at ds j in
        let c : Contains (map (moved_block fs ls order) bs) x = Contains-permutation ds (map (moved_block fs ls order) bs) x (IsPermutation-sym (map (moved_block fs ls order) bs) ds p) (Contains-get_or ds j no_block lt) in
        let long = length-map bs (moved_block fs ls order) in
        let below : c.0 < length bs = omega (arith, c.1) in
        record { place = c.0; below = below; same = sym c.2 ∙ get_or-map (moved_block fs ls order) bs c.0 no_block x below }

    tuple_long : (i : ℕ) → i < length bs → length (block_at bs i).tuple ≡ length ls
    tuple_long i lt = tuple_length ls (block_at bs i).tuple (h i no_block lt).tuple

    moved_apart : AreAscending bs → AreApart (map (moved_block fs ls order) bs)
    moved_apart a = record {
      apart = λ i j hi hj e.
          let long = length-map bs (moved_block fs ls order) in
          let li : i < length bs = omega arith in
          let lj : j < length bs = omega arith in
          let x = ap (λ (b : BlockValue). b.tuple) (get_or-map (moved_block fs ls order) bs i no_block no_block li) in
          let y = ap (λ (b : BlockValue). b.tuple) (get_or-map (moved_block fs ls order) bs j no_block no_block lj) in
          one_block bs i j a li lj (only (block_at bs i).tuple (block_at bs j).tuple (tuple_long i li) (tuple_long j lj) (sym x ∙ (e ∙ y)));
    }

    pub moved_ascend : AreAscending bs → IsSortedBy is_before ds → AreAscending ds
    moved_ascend a s = sorted_ascend ds (apart_perm (map (moved_block fs ls order) bs) ds p (moved_apart a)) s

    pub moved_blocks_are : IsGroup fs → All (IsBlock fs (picked no_leg ls order) q) ds
    moved_blocks_are g =
        All-permutation (IsBlock fs (picked no_leg ls order) q) (map (moved_block fs ls order) bs) ds p
        (All-map (IsBlock fs (picked no_leg ls order) q) (moved_block fs ls order) bs (λ k d lt. moved_is_block q (get_or bs k d) g (h k d lt)))

    -- the entries at values
    pub moved_entry : (xs : List ℕ) → AreAscending bs → AreAscending ds → IsValues ls xs →
        entry_in (picked no_leg ls order) ds (picked 0 xs order) ≡ signed (moving_sign fs ls xs order) (entry_in ls bs xs)
    moved_entry xs a new_a v = by (found bs (sectors_at ls xs))
      where
        by : Found bs (sectors_at ls xs) → entry_in (picked no_leg ls order) ds (picked 0 xs order) ≡ signed (moving_sign fs ls xs order) (entry_in ls bs xs)
        by (there i lt e) =
            let x : BlockValue = moved_block fs ls order (block_at bs i) in
            let c = there_is i lt in
            let here : block_at ds c.0 ≡ x = get_or_default ds c.0 no_block x c.1 ∙ c.2 in
            let tuple : (block_at ds c.0).tuple ≡ sectors_at (picked no_leg ls order) (picked 0 xs order) =
            ap (λ (b : BlockValue). b.tuple) here ∙ (ap (λ t. picked 0 t order) e ∙ sym (moved_sectors xs v)) in
            entry_found (picked no_leg ls order) ds (picked 0 xs order) c.0 new_a c.1 tuple
            ∙ (ap (λ (b : BlockValue). get_or b.entries (offset_at (picked no_leg ls order) (picked 0 xs order)) zero_g) here
            ∙ (moved_here (block_at bs i) xs (h i no_block lt).tuple v e
            ∙ ap (signed (moving_sign fs ls xs order)) (sym (entry_found ls bs xs i a lt e))))
        by (nowhere n) =
            entry_nowhere (picked no_leg ls order) ds (picked 0 xs order)
            (λ j lt e.
            let m = has_old j lt in
            n m.place m.below
            (only (block_at bs m.place).tuple (sectors_at ls xs) (tuple_long m.place m.below) (sectors_length ls xs v)
            (sym (ap (λ (b : BlockValue). b.tuple) m.same) ∙ (e ∙ moved_sectors xs v))))
            ∙ (sym (signed-zero (moving_sign fs ls xs order)) ∙ ap (signed (moving_sign fs ls xs order)) (sym (entry_nowhere ls bs xs n)))

-- the tensor with its legs in another order
abbrev pub moved_tensor : BlockedValue → List ℕ → List BlockValue → BlockedValue
moved_tensor t order ds = record { group = t.group; legs = picked no_leg t.legs order; flux = t.flux; blocks = ds }

pub moved_is_blocked : (t : BlockedValue) (order : List ℕ) (ds : List BlockValue) → IsOrder (length t.legs) order → IsBlocked t → IsPermutation (map (moved_block t.group t.legs order) t.blocks) ds → IsSortedBy is_before ds → IsBlocked (moved_tensor t order ds)
moved_is_blocked t order ds o h p s = record {
  group = h.group;
  sound = All-map IsSound (λ k. get_or t.legs k no_leg) order (λ i d lt. h.sound (get_or order i d) no_leg (o.within i d lt));
  charges = All-map (IsLegOf t.group) (λ k. get_or t.legs k no_leg) order (λ i d lt. h.charges (get_or order i d) no_leg (o.within i d lt));
  flux = h.flux;
  shape = moved_limits t.group t.legs order o t.flux h.group h.flux h.shape;
  blocks = moved_blocks_are t.group t.legs order o t.flux t.blocks ds h.blocks p h.group;
  ascending = moved_ascend t.group t.legs order o t.flux t.blocks ds h.blocks p h.ascending s;
}

pub is_moved : (t : BlockedValue) (order : List ℕ) (ds : List BlockValue) → IsOrder (length t.legs) order → IsBlocked t → IsPermutation (map (moved_block t.group t.legs order) t.blocks) ds → IsSortedBy is_before ds → Moved (tensor_of t) order (tensor_of (moved_tensor t order ds))
is_moved t order ds o h p s = record {
  group = refl;
  legs = refl;
  flux = refl;
  entries = λ xs v.
      let b = moved_is_blocked t order ds o h p s in
      by_blocks (moved_tensor t order ds) (picked 0 xs order) b (moved_values t.group t.legs order o xs v)
      ∙ (moved_entry t.group t.legs order o t.flux t.blocks ds h.blocks p xs h.ascending b.ascending v
      ∙ ap (signed (moving_sign t.group t.legs xs order)) (sym (by_blocks t xs h v)));
}

-- a tensor whose legs stay
pub is_kept : (t : BlockedValue) (order : List ℕ) → IsOrder (length t.legs) order → order ≡ positions (length order) → Moved (tensor_of t) order (tensor_of t)
is_kept t order o e = subst (λ ks. Moved (tensor_of t) ks (tensor_of t)) (sym own) (record {
  group = refl;
  legs = sym (picked_all no_leg t.legs);
  flux = refl;
  entries = λ xs v.
      ap (entry_of (tensor_of t)) (ap (λ n. picked 0 xs (positions n)) (sym (values_length t.legs xs v)) ∙ picked_all 0 xs)
      ∙ ap (λ s. signed s (entry_of (tensor_of t) xs)) (sym (kept_sign (is_odd_at (parities t.group t.legs xs))));
})
  where
    own : order ≡ positions (length t.legs)
    own = e ∙ ap positions o.count

    kept_sign : (odd : ℕ → Bool) → exchange_sign ◌==◌ odd (positions (length t.legs)) (positions (length t.legs)) ≡ false
    kept_sign odd =
        let ps : List ℕ = positions (length t.legs) in
        let distinct : IsDistinct ◌==◌ (ps ++ []) = subst (IsDistinct ◌==◌) (own ∙ sym (append-nil ps)) o.distinct in
        ap (λ ks. exchange_sign ◌==◌ odd ks ks) (sym (append-nil ps)) ∙ common_first_part ◌==◌ nat_test odd ps [] [] distinct none

abbrev pub block_of : List ℕ → List Gaussian → BlockValue
block_of t es = record { tuple = t; entries = es }

pub block_made : {t u : List ℕ} {es gs : List Gaussian} → t ≡ u → es ≡ gs → block_of t es ≡ block_of u gs
block_made e f = ap₂ block_of e f

pub kept_copy : {E : Type 0} (t : BlockedValue) (order : List ℕ) (r : Result BlockedValue E) → IfOk r (λ u. u ≡ t) → Moved (tensor_of t) order (tensor_of t) → IfOk r (λ u. Moved (tensor_of t) order (tensor_of u))
kept_copy t order (Ok u) e m = subst (λ (v : BlockedValue). Moved (tensor_of t) order (tensor_of v)) (sym e) m
kept_copy t order (Err x) e m = tt
