-- The conjugate of a tensor held in blocks.
use Rattle.std.proofs.Common.{Contains, ◌≡◌, ◌≢◌, ℕ, ℤ, zero, suc, ◌+◌, ◌-◌, ◌^◌, ◌<◌, List, [], ◌∷◌, length, get_or, map, reverse, arith, refl, ap, ◌∙◌, sym, subst, ◌⊎◌, inl, inr, Bool, true, false, ◌&&◌, ap₂}
use Rattle.std.specs.List.{All, AllPairs}
use Rattle.std.specs.List.Sorted.{IsPermutation, IsSortedBy}
use Rattle.std.specs.Cmp.{IsStrictWeakOrder}
use Rattle.std.specs.Cmp.Lexicographic.{slice_cmp}
use Rattle.std.specs.Bool.{Decides}
use Rattle.std.specs.Ordering.{nat_cmp, is_lt, is_gt, ordering_reverse}
use Rattle.std.proofs.lemmas.Bool.Decides.{nat_tests}
use Rattle.std.specs.declared.cmp.Ordering.{Ordering}
use Rattle.std.specs.declared.cmp.Ordering.TheVariants.{Less, Equal, Greater}
use Rattle.std.proofs.lemmas.Cmp.{nat_list_cmp_total, upto}
use Rattle.std.proofs.lemmas.Bool.{false≢true}
use Rattle.std.proofs.lemmas.List.{get_or_default, reverse-reverse, length-map}
use Rattle.std.proofs.lemmas.List.Sorted.{IsPermutation-map, IsPermutation-sym, Contains-permutation, All-permutation}
use Rattle.std.proofs.lemmas.Map.Keys.{IsDistinct-IsPermutation}
use Rattle.std.proofs.lemmas.Map.Made.{AllPairs-from_IsDistinct, IsDistinct-from_AllPairs}
use Rattle.qn_charge.specs.declared.factor.Factor.{Factor}
use Rattle.qn_charge.specs.Charges.{neg_charge}
use Rattle.qn_charge.specs.Laws.{canonical_neg, within_neg}
use Rattle.qn_charge.specs.Firsts.{HasNone}
use Rattle.qn_gauss.specs.Gaussian.{zero_g, conj_g}
use Rattle.qn_index.specs.Legs.{LegValue, IsSound, IsLegOf}
use Rattle.qn_index.specs.Tuples.{IsTuple, net}
use Rattle.qn_index.specs.Places.{IsValues, IsInner, sectors_at, offset_at, offset_of, block_size}
use Rattle.qn_index.proofs.Nets.{tuple_length}
use Rattle.qn_value.specs.Tensors.{BlockValue, no_block, same_values, entry_in, entry_of, IsBlock, AreAscending}
use Rattle.qn_value.proofs.Values.{same_values-equal}
use Rattle.qn_block.specs.Blocked.{BlockedValue, IsBlocked, IsConjugate, IsConjugateBlock, AreDistinct, conjugate_legs, offsets_at, tensor_of}
use Rattle.qn_block.specs.Refusals.{block_at, NotAscendingAt}
use Rattle.qn_block.proofs.Rows.{same_from}
use Rattle.qn_block.proofs.Lookup.{not_below_itself, values_length, offset_same, entry_found, entry_nowhere}
use Rattle.qn_block.proofs.Entries.{by_blocks, entry_out_of_range}
use Rattle.qn_block.proofs.Ascending.{in_range_or_not, blocked_at}
use Rattle.qn_block.proofs.Sound.{sound_ascending}
use Rattle.qn_block.proofs.Mirror
use Rattle.qn_facts.proofs.Orderings.{is_less, same_list}

-- ---- sorted blocks

-- a block's tuple is below another's
abbrev pub below_test : BlockValue → BlockValue → Bool
below_test b c = is_lt (slice_cmp nat_cmp b.tuple c.tuple)

not_lt_reversed : (o : Ordering) → o ≡ Less → is_lt (ordering_reverse o) ≡ false
not_lt_reversed o e = subst (λ p. is_lt (ordering_reverse p) ≡ false) (sym e) refl

pub below_order : IsStrictWeakOrder below_test
below_order = record { one_way = one_way; chain = chain }
  where
    one_way : (b c : BlockValue) → below_test b c ≡ true → below_test c b ≡ false
    one_way b c e = ap is_lt (nat_list_cmp_total.antisymm c.tuple b.tuple) ∙ not_lt_reversed (slice_cmp nat_cmp b.tuple c.tuple) (is_less (slice_cmp nat_cmp b.tuple c.tuple) e)

    turn : (o : Ordering) → is_lt o ≡ false → is_gt (ordering_reverse o) ≡ false
    turn Less e = absurd (false≢true (sym e))
    turn Equal e = refl
    turn Greater e = refl

    back : (o : Ordering) → is_gt (ordering_reverse o) ≡ false → is_lt o ≡ false
    back Less e = absurd (false≢true (sym e))
    back Equal e = refl
    back Greater e = refl

    chain : (b c d : BlockValue) → below_test b c ≡ false → below_test c d ≡ false → below_test b d ≡ false
    chain b c d p q =
        let cb : is_gt (slice_cmp nat_cmp c.tuple b.tuple) ≡ false = ap is_gt (nat_list_cmp_total.antisymm c.tuple b.tuple) ∙ turn (slice_cmp nat_cmp b.tuple c.tuple) p in
        let dc : is_gt (slice_cmp nat_cmp d.tuple c.tuple) ≡ false = ap is_gt (nat_list_cmp_total.antisymm d.tuple c.tuple) ∙ turn (slice_cmp nat_cmp c.tuple d.tuple) q in
        let db : is_gt (slice_cmp nat_cmp d.tuple b.tuple) ≡ false = upto nat_list_cmp_total d.tuple c.tuple b.tuple dc cb in
        back (slice_cmp nat_cmp b.tuple d.tuple) (sym (ap is_gt (nat_list_cmp_total.antisymm d.tuple b.tuple)) ∙ db)

same_decides : (a b : List ℕ) → Decides (same_values a b) (a ≡ b)
same_decides a b = (same_values-equal a b, same_from a b)

pub same_flips : (a b : List ℕ) → same_values a b ≡ same_values b a
same_flips [] [] = refl
same_flips [] (y ∷ b) = refl
same_flips (x ∷ a) [] = refl
same_flips (x ∷ a) (y ∷ b) = ap₂ ◌&&◌ (grind (arith, nat_tests)) (same_flips a b)

tuple_there : (bs : List BlockValue) (i : ℕ) (d : List ℕ) → i < length bs → get_or (map (λ (b : BlockValue). b.tuple) bs) i d ≡ (block_at bs i).tuple
tuple_there [] i d lt = absurd (omega arith)
tuple_there (b ∷ bs) zero d lt = refl
tuple_there (b ∷ bs) (suc i) d lt = tuple_there bs i d (omega arith)

less_from : (a b : List ℕ) (o : Ordering) → slice_cmp nat_cmp a b ≡ o → a ≢ b → is_lt (slice_cmp nat_cmp b a) ≡ false → slice_cmp nat_cmp a b ≡ Less
less_from a b Less e n f = e
less_from a b Equal e n f = absurd (n (same_list a b e))
less_from a b Greater e n f = absurd (false≢true (sym f ∙ (ap is_lt (nat_list_cmp_total.antisymm b a) ∙ ap (λ o. is_lt (ordering_reverse o)) e)))

pub sorted_ascending : (bs cs : List BlockValue) → AreDistinct bs → IsPermutation bs cs → IsSortedBy below_test cs → AreAscending cs
sorted_ascending bs cs apart p sorted = sound_ascending cs none
  where
    ts : List (List ℕ)
    ts = map (λ (b : BlockValue). b.tuple) bs

    us : List (List ℕ)
    us = map (λ (b : BlockValue). b.tuple) cs

    pairs : AllPairs (λ (a b : List ℕ). a ≢ b) ts
    pairs i j d lt h = let le : j < length bs = omega (arith, h, length-map bs (λ (b : BlockValue). b.tuple)) in
        λ e. apart i j lt le (sym (tuple_there bs i d (omega arith)) ∙ (e ∙ tuple_there bs j d le))

    others : AllPairs (λ (a b : List ℕ). a ≢ b) us
    others = AllPairs-from_IsDistinct same_decides us (IsDistinct-IsPermutation same_values same_flips ts us (IsPermutation-map (λ (b : BlockValue). b.tuple) bs cs p) (IsDistinct-from_AllPairs same_decides ts pairs))

    none : HasNone (NotAscendingAt cs)
    none i h =
        let j = i - 1 in
        let next : i ≡ j + 1 = omega (arith, h.0) in
        let wide : i < length us = omega (arith, h.1, length-map cs (λ (b : BlockValue). b.tuple)) in
        let differ : (block_at cs j).tuple ≢ (block_at cs i).tuple = λ e. others j i [] (omega (arith, h.0)) wide (tuple_there cs j [] (omega (arith, h.1)) ∙ (e ∙ sym (tuple_there cs i [] h.1))) in
        let low : is_lt (slice_cmp nat_cmp (block_at cs (j + 1)).tuple (block_at cs j).tuple) ≡ false = sorted j no_block (omega arith) (omega (arith, h.1, h.0)) in
        let low_at : is_lt (slice_cmp nat_cmp (block_at cs i).tuple (block_at cs j).tuple) ≡ false = subst (λ k. is_lt (slice_cmp nat_cmp (block_at cs k).tuple (block_at cs j).tuple) ≡ false) (sym next) low in
        h.2 (less_from (block_at cs j).tuple (block_at cs i).tuple _ refl differ low_at)

-- ---- blocks of the conjugate

-- tuples that differ, from blocks that ascend
pub conjugates_distinct : (ls : List LegValue) (bs cs : List BlockValue) → AreAscending bs → length cs ≡ length bs → ((k : ℕ) → k < length bs → IsConjugateBlock ls (block_at bs k) (block_at cs k)) → AreDistinct cs
conjugates_distinct ls bs cs a n h i j lt le e =
    let wide : j < length bs = omega (arith, n) in
    let back : reverse (block_at bs i).tuple ≡ reverse (block_at bs j).tuple = sym (h i (omega arith)).tuple ∙ (e ∙ (h j wide).tuple) in
    let same : (block_at bs i).tuple ≡ (block_at bs j).tuple = sym (reverse-reverse (block_at bs i).tuple) ∙ (ap reverse back ∙ reverse-reverse (block_at bs j).tuple) in
    not_below_itself (block_at bs j).tuple (subst (λ t. slice_cmp nat_cmp t (block_at bs j).tuple ≡ Less) same (a i j lt wide))

conjugate_is_block : (t : BlockedValue) (b c : BlockValue) → IsBlocked t → IsBlock t.group t.legs t.flux b → IsConjugateBlock t.legs b c → IsBlock t.group (conjugate_legs t.legs) (neg_charge t.group t.flux) c
conjugate_is_block t b c h block k =
    let size : block_size (conjugate_legs t.legs) c.tuple ≡ block_size t.legs b.tuple = ap (block_size (conjugate_legs t.legs)) k.tuple ∙ Mirror.conjugate_size t.legs b.tuple (tuple_length t.legs b.tuple block.tuple) in
    record {
      tuple = subst (IsTuple (conjugate_legs t.legs)) (sym k.tuple) (Mirror.conjugate_tuple t.legs b.tuple block.tuple);
      flux = ap (net t.group (conjugate_legs t.legs)) k.tuple ∙ (Mirror.conjugate_net t.group t.legs b.tuple h.group h.charges block.tuple ∙ ap (neg_charge t.group) block.flux);
      full = k.full ∙ (block.full ∙ sym size);
      small = omega (arith, size, block.small);
    }

-- the conjugate is a tensor held in blocks
pub conjugate_is : (t : BlockedValue) (cs ds : List BlockValue) → IsBlocked t → length cs ≡ length t.blocks → ((k : ℕ) → k < length t.blocks → IsConjugateBlock t.legs (block_at t.blocks k) (block_at cs k)) → IsPermutation cs ds → AreAscending ds →
    IsBlocked (record { group = t.group; legs = conjugate_legs t.legs; flux = neg_charge t.group t.flux; blocks = ds })
conjugate_is t cs ds h n made p ascending = record {
  group = h.group;
  sound = sound;
  charges = charges;
  flux = record { canonical = canonical_neg t.group t.flux h.group; within = within_neg (2 ^ 50) t.group t.flux h.flux.within };
  shape = record {
    legs = omega (arith, h.shape.legs, Mirror.conjugate_length t.legs);
    tuples = omega (arith, h.shape.tuples, Mirror.conjugate_count t.legs);
    entries = omega (arith, h.shape.entries, Mirror.conjugate_entries t.group t.legs t.flux h.group h.charges h.flux.canonical);
  };
  blocks = All-permutation (IsBlock t.group (conjugate_legs t.legs) (neg_charge t.group t.flux)) cs ds p (λ k d lt.
      let le : k < length t.blocks = omega (arith, n) in
      subst (IsBlock t.group (conjugate_legs t.legs) (neg_charge t.group t.flux)) (get_or_default cs k no_block d lt)
      (conjugate_is_block t (block_at t.blocks k) (block_at cs k) h (h.blocks k no_block le) (made k le)));
  ascending = ascending;
}
  where
    sound : All IsSound (conjugate_legs t.legs)
    sound = Mirror.conjugate_all IsSound t.legs (λ l h. h) h.sound

    charges : All (IsLegOf t.group) (conjugate_legs t.legs)
    charges = Mirror.conjugate_all (IsLegOf t.group) t.legs (λ l h. h) h.charges

find_or_not : (bs : List BlockValue) (t : List ℕ) → ((i : ℕ) × (i < length bs) × ((block_at bs i).tuple ≡ t)) ⊎ ((j : ℕ) → j < length bs → (block_at bs j).tuple ≢ t)
find_or_not [] t = inr (λ j lt e. omega arith)
find_or_not (b ∷ bs) t = by (same_values b.tuple t) refl (find_or_not bs t)
  where
    by : (y : Bool) → same_values b.tuple t ≡ y → ((i : ℕ) × (i < length bs) × ((block_at bs i).tuple ≡ t)) ⊎ ((j : ℕ) → j < length bs → (block_at bs j).tuple ≢ t) →
        ((i : ℕ) × (i < suc (length bs)) × ((block_at (b ∷ bs) i).tuple ≡ t)) ⊎ ((j : ℕ) → j < suc (length bs) → (block_at (b ∷ bs) j).tuple ≢ t)
    by true e r = inl (0, omega arith, same_values-equal b.tuple t e)
    by false e (inl f) = inl (suc f.0, omega (arith, f.1), f.2)
    by false e (inr n) = inr (λ j lt q. at j lt q)
      where
        at : (j : ℕ) → j < suc (length bs) → (block_at (b ∷ bs) j).tuple ≡ t → ⊥
        at zero lt q = false≢true (sym e ∙ same_from b.tuple t q)
        at (suc j) lt q = n j (omega arith) q

conj_zero : conj_g zero_g ≡ zero_g
unfolding conj_g zero_g
conj_zero = refl

-- an entry of the conjugate, in its blocks
conjugate_entry_in : (t : BlockedValue) (cs ds : List BlockValue) (xs : List ℕ) → IsBlocked t → length cs ≡ length t.blocks → ((k : ℕ) → k < length t.blocks → IsConjugateBlock t.legs (block_at t.blocks k) (block_at cs k)) → IsPermutation cs ds → AreAscending ds →
    IsValues t.legs xs → entry_in (conjugate_legs t.legs) ds (reverse xs) ≡ conj_g (entry_in t.legs t.blocks xs)
conjugate_entry_in t cs ds xs h n made p ascending v = by (find_or_not t.blocks sectors)
  where
    ls : List LegValue
    ls = t.legs

    sectors : List ℕ
    sectors = sectors_at t.legs xs

    turned : sectors_at (conjugate_legs t.legs) (reverse xs) ≡ reverse (sectors_at t.legs xs)
    turned = Mirror.conjugate_sectors t.legs xs (values_length t.legs xs v)

    by : ((i : ℕ) × (i < length t.blocks) × ((block_at t.blocks i).tuple ≡ sectors)) ⊎ ((j : ℕ) → j < length t.blocks → (block_at t.blocks j).tuple ≢ sectors) → entry_in (conjugate_legs t.legs) ds (reverse xs) ≡ conj_g (entry_in t.legs t.blocks xs)
    by (inl (i, lt, e)) =
        let b = block_at t.blocks i in
        let c = block_at cs i in
        let k : IsConjugateBlock t.legs b c = made i lt in
        let wide : i < length cs = omega (arith, n) in
        let there : Contains ds c = Contains-permutation cs ds c p (i, wide, get_or_default cs i c no_block wide) in
        let j = there.0 in
        let is : block_at ds j ≡ c = get_or_default ds j no_block c there.1 ∙ there.2 in
        let tuple : (block_at ds j).tuple ≡ sectors_at (conjugate_legs t.legs) (reverse xs) = ap (λ (d : BlockValue). d.tuple) is ∙ (k.tuple ∙ (ap reverse e ∙ sym turned)) in
        let inner = offset_same t.legs xs v in
        let os = offsets_at t.legs xs in
        let inside : IsInner t.legs b.tuple os = subst (λ u. IsInner t.legs u os) (sym e) inner.0 in
        let place : offset_at (conjugate_legs t.legs) (reverse xs) ≡ offset_of (conjugate_legs t.legs) (reverse b.tuple) (reverse os) =
        sym (offset_same (conjugate_legs t.legs) (reverse xs) (Mirror.conjugate_values t.legs xs v)).1
        ∙ (ap (λ u. offset_of (conjugate_legs t.legs) u (offsets_at (conjugate_legs t.legs) (reverse xs))) (turned ∙ ap reverse (sym e))
        ∙ ap (offset_of (conjugate_legs t.legs) (reverse b.tuple)) (Mirror.conjugate_offsets t.legs xs (values_length t.legs xs v))) in
        let origin : offset_of t.legs b.tuple os ≡ offset_at t.legs xs = ap (λ u. offset_of t.legs u os) e ∙ inner.1 in
        entry_found (conjugate_legs t.legs) ds (reverse xs) j ascending there.1 tuple
        ∙ (ap (λ (d : BlockValue). get_or d.entries (offset_at (conjugate_legs t.legs) (reverse xs)) zero_g) is
        ∙ (ap (λ o. get_or c.entries o zero_g) place
        ∙ (k.entries os inside
        ∙ (ap (λ o. conj_g (get_or b.entries o zero_g)) origin
        ∙ ap conj_g (sym (entry_found t.legs t.blocks xs i h.ascending lt e))))))
    by (inr none) =
        let gone : (j : ℕ) → j < length ds → (block_at ds j).tuple ≢ sectors_at (conjugate_legs t.legs) (reverse xs) = λ j lt e.
        let d = block_at ds j in
        let there : Contains cs d = Contains-permutation ds cs d (IsPermutation-sym cs ds p) (j, lt, get_or_default ds j d no_block lt) in
        let i = there.0 in
        let le : i < length t.blocks = omega (arith, there.1, n) in
        let is : block_at cs i ≡ d = get_or_default cs i no_block d there.1 ∙ there.2 in
        let back : reverse (block_at t.blocks i).tuple ≡ reverse sectors = sym (made i le).tuple ∙ (ap (λ (k : BlockValue). k.tuple) is ∙ (e ∙ turned)) in
        none i le (sym (reverse-reverse (block_at t.blocks i).tuple) ∙ (ap reverse back ∙ reverse-reverse sectors)) in
        entry_nowhere (conjugate_legs t.legs) ds (reverse xs) gone ∙ (sym conj_zero ∙ ap conj_g (sym (entry_nowhere t.legs t.blocks xs none)))

pub conjugate_made : (t r : BlockedValue) (cs ds : List BlockValue) → IsBlocked t → length cs ≡ length t.blocks → ((k : ℕ) → k < length t.blocks → IsConjugateBlock t.legs (block_at t.blocks k) (block_at cs k)) → IsPermutation cs ds → AreAscending ds →
    r ≡ record { group = t.group; legs = conjugate_legs t.legs; flux = neg_charge t.group t.flux; blocks = ds } → IsConjugate (tensor_of t) (tensor_of r)
conjugate_made t r cs ds h n made p ascending e = subst (λ (u : BlockedValue). IsConjugate (tensor_of t) (tensor_of u)) (sym e) (record {
  group = refl;
  legs = refl;
  flux = refl;
  entries = λ xs. by xs (in_range_or_not t.legs xs);
})
  where
    new : BlockedValue
    new = record { group = t.group; legs = conjugate_legs t.legs; flux = neg_charge t.group t.flux; blocks = ds }

    sound : IsBlocked new
    sound = conjugate_is t cs ds h n made p ascending

    by : (xs : List ℕ) → IsValues t.legs xs ⊎ (IsValues t.legs xs → ⊥) → entry_of (tensor_of new) (reverse xs) ≡ conj_g (entry_of (tensor_of t) xs)
    by xs (inl v) = by_blocks new (reverse xs) sound (Mirror.conjugate_values t.legs xs v) ∙ (conjugate_entry_in t cs ds xs h n made p ascending v ∙ ap conj_g (sym (by_blocks t xs h v)))
    by xs (inr out) = entry_out_of_range new (reverse xs) sound (λ v. out (Mirror.values_back t.legs xs v)) ∙ (sym conj_zero ∙ ap conj_g (sym (entry_out_of_range t xs h out)))

-- the conjugated blocks of equal legs and blocks
pub record AreConjugates (ls : List LegValue) (bs cs : List BlockValue) : Type 0 where
  pub count : length cs ≡ length bs
  pub blocks : (k : ℕ) → k < length bs → IsConjugateBlock ls (block_at bs k) (block_at cs k)

pub conjugates_at : (ls ms : List LegValue) (bs ds cs : List BlockValue) → ls ≡ ms → bs ≡ ds → AreConjugates ls bs cs → AreConjugates ms ds cs
conjugates_at ls ms bs ds cs e f h = subst (λ (ks : List LegValue). AreConjugates ks ds cs) e (subst (λ (es : List BlockValue). AreConjugates ls es cs) f h)

-- the parts of the conjugate
pub conjugate_parts : (t : BlockedValue) (fs : List Factor) (ls : List LegValue) (q : List ℤ) (cs ds : List BlockValue) → IsBlocked t → AreConjugates t.legs t.blocks cs → IsPermutation cs ds → (AreDistinct cs → AreAscending ds) →
    fs ≡ t.group → ls ≡ conjugate_legs t.legs → q ≡ neg_charge t.group t.flux → IsBlocked (record { group = fs; legs = ls; flux = q; blocks = ds })
conjugate_parts t fs ls q cs ds h made p sorted a b c =
    blocked_at (record { group = t.group; legs = conjugate_legs t.legs; flux = neg_charge t.group t.flux; blocks = ds }) fs ls q ds a b c refl
    (conjugate_is t cs ds h made.count made.blocks p (sorted (conjugates_distinct t.legs t.blocks cs h.ascending made.count made.blocks)))

pub conjugate_result : (t r : BlockedValue) (fs : List Factor) (ls : List LegValue) (q : List ℤ) (cs ds : List BlockValue) → IsBlocked t → AreConjugates t.legs t.blocks cs → IsPermutation cs ds → (AreDistinct cs → AreAscending ds) →
    fs ≡ t.group → ls ≡ conjugate_legs t.legs → q ≡ neg_charge t.group t.flux → r ≡ record { group = fs; legs = ls; flux = q; blocks = ds } → IsConjugate (tensor_of t) (tensor_of r)
conjugate_result t r fs ls q cs ds h made p sorted a b c e =
    conjugate_made t r cs ds h made.count made.blocks p (sorted (conjugates_distinct t.legs t.blocks cs h.ascending made.count made.blocks)) (e ∙ same)
  where
    same : (let u : BlockedValue = record { group = fs; legs = ls; flux = q; blocks = ds } in u) ≡ record { group = t.group; legs = conjugate_legs t.legs; flux = neg_charge t.group t.flux; blocks = ds }
    same = cc
