-- The rows of blocks.
use Rattle.std.proofs.Common.{◌≡◌, ◌≢◌, ◌≤◌, ◌<◌, ℕ, zero, suc, ◌+◌, ◌-◌, ℤ, Bool, true, false, cond, List, [], ◌∷◌, ◌++◌, refl, sym, ◌∙◌, ap, subst, length, get_or, slice_index_or, nat_lt, ◌⊎◌, inl, inr, arith}
use Rattle.std.specs.List.{All}
use Rattle.std.specs.Ordering.{nat_cmp}
use Rattle.std.specs.Cmp.Lexicographic.{slice_cmp}
use Rattle.std.specs.declared.cmp.Ordering.TheVariants.{Less, Equal}
use Rattle.std.proofs.lemmas.List.{get_or_default}
use Rattle.std.proofs.lemmas.Bool.{cases_eq, false_from_ne_true, false≢true}
use Rattle.std.proofs.lemmas.Bool.Decides.{nat_tests}
use Rattle.qn_gauss.specs.Gaussian.{Gaussian, zero_g}
use Rattle.qn_charge.specs.declared.factor.Factor.{Factor}
use Rattle.qn_index.specs.Legs.{LegValue, SectorValue, total, sector_of}
use Rattle.qn_index.specs.Tuples.{IsTuple, net}
use Rattle.qn_index.specs.Places.{block_size, IsValues, sectors_at, offset_at, values_at}
use Rattle.qn_index.proofs.Places
use Rattle.qn_value.specs.Tensors.{Row, BlockValue, no_block, same_values, entry_at, entry_in, rows_from, rows_of, IsRow, IsBlock, IsNew, AreDistinct, AreAscending}
use Rattle.qn_value.proofs.Values.{same_values-equal}
use Rattle.qn_value.proofs.RowsLemmas.{same_values-itself}
use Rattle.qn_value.proofs.BoundsLemmas.{sector_outside}
use Rattle.qn_value.proofs.PlacedLemmas.{all_first, all_others}

-- values whose sectors are there are in range
value_in_range : (ps : List SectorValue) (v : ℕ) → sector_of ps v < length ps → v < total ps
value_in_range ps v h = go (nat_lt v (total ps)) refl
  where
    go : (b : Bool) → nat_lt v (total ps) ≡ b → v < total ps
    go true e = grind (arith, nat_tests)
    go false e = let out : sector_of ps v ≡ length ps = sector_outside ps v (grind (arith, nat_tests)) in absurd (omega (arith, h, out))

pub values_from_tuple : (ls : List LegValue) (xs : List ℕ) → length xs ≡ length ls → IsTuple ls (sectors_at ls xs) → IsValues ls xs
values_from_tuple [] [] n h = refl
values_from_tuple [] (x ∷ xs) n h = absurd (omega (arith, n))
values_from_tuple (l ∷ ls) [] n h = absurd h
values_from_tuple (l ∷ ls) (x ∷ xs) n h = (value_in_range l.sectors x h.0, values_from_tuple ls xs (omega (arith, n)) h.1)

-- no row of another block is at these values
miss : (ls : List LegValue) (t : List ℕ) (o : ℕ) (es : List Gaussian) (qs : List Row) (xs : List ℕ) → same_values t (sectors_at ls xs) ≡ false → IsTuple ls t → o + length es ≤ block_size ls t →
    entry_at (rows_from ls t o es ++ qs) xs ≡ entry_at qs xs
miss ls t o [] qs xs n h le = refl
miss ls t o (e ∷ es) qs xs n h le =
    let other : same_values (values_at ls t o) xs ≡ false =
    false_from_ne_true _ (λ s. false≢true (sym n ∙ ap (same_values t) (ap (sectors_at ls) (sym (same_values-equal (values_at ls t o) xs s)) ∙ (Places.back ls t o h (omega (arith, le))).sectors) ∙ same_values-itself t)) in
    ap (λ b. cond b e (entry_at (rows_from ls t (o + 1) es ++ qs) xs)) other ∙ miss ls t (o + 1) es qs xs n h (omega (arith, le))

-- the row of these values in their own block
hit : (ls : List LegValue) (t : List ℕ) (o p : ℕ) (es : List Gaussian) (qs : List Row) (xs : List ℕ) → values_at ls t p ≡ xs → offset_at ls xs ≡ p → IsTuple ls t → o ≤ p → p < o + length es → o + length es ≤ block_size ls t →
    entry_at (rows_from ls t o es ++ qs) xs ≡ get_or es (p - o) zero_g
hit ls t o p [] qs xs v q h a b le = absurd (omega (arith, a, b))
hit ls t o p (e ∷ es) qs xs v q h a b le = by (cases_eq p o) (λ u k. hit ls t (o + 1) p es qs xs v q h u k (omega (arith, le)))
  where
    by : (p ≡ o) ⊎ (p ≢ o) → (o + 1 ≤ p → p < o + 1 + length es → entry_at (rows_from ls t (o + 1) es ++ qs) xs ≡ get_or es (p - (o + 1)) zero_g) →
        entry_at (rows_from ls t o (e ∷ es) ++ qs) xs ≡ get_or (e ∷ es) (p - o) zero_g
    by (inl z) more =
        let here : same_values (values_at ls t o) xs ≡ true = subst (λ ys. same_values (values_at ls t o) ys ≡ true) (ap (values_at ls t) (sym z) ∙ v) (same_values-itself (values_at ls t o)) in
        let none : p - o ≡ 0 = omega (arith, z) in
        ap (λ b. cond b e (entry_at (rows_from ls t (o + 1) es ++ qs) xs)) here ∙ sym (ap (λ k. get_or (e ∷ es) k zero_g) none)
    by (inr z) more =
        let other : same_values (values_at ls t o) xs ≡ false =
        false_from_ne_true _ (λ s. z (sym q ∙ (ap (offset_at ls) (sym (same_values-equal (values_at ls t o) xs s)) ∙ (Places.back ls t o h (omega (arith, le))).offset))) in
        let next : o + 1 ≤ p = omega (arith, a, z) in
        let one : p - o ≡ suc (p - (o + 1)) = omega (arith, next) in
        ap (λ b. cond b e (entry_at (rows_from ls t (o + 1) es ++ qs) xs)) other ∙ (more next (omega (arith, b)) ∙ sym (ap (λ k. get_or (e ∷ es) k zero_g) one))

pub block_rows : (fs : List Factor) (ls : List LegValue) (q : List ℤ) (bs : List BlockValue) → All (IsBlock fs ls q) bs → (xs : List ℕ) → length xs ≡ length ls →
    entry_at (rows_of ls bs) xs ≡ entry_in ls bs xs
block_rows fs ls q [] h xs n = refl
block_rows fs ls q (b ∷ bs) h xs n = go (same_values b.tuple (sectors_at ls xs)) refl (block_rows fs ls q bs (all_others (IsBlock fs ls q) b bs h) xs n)
  where
    block : IsBlock fs ls q b
    block = all_first (IsBlock fs ls q) b bs h

    full : 0 + length b.entries ≤ block_size ls b.tuple
    full = omega (arith, block.full)

    go : (t : Bool) → same_values b.tuple (sectors_at ls xs) ≡ t → entry_at (rows_of ls bs) xs ≡ entry_in ls bs xs →
        entry_at (rows_from ls b.tuple 0 b.entries ++ rows_of ls bs) xs ≡ cond t (slice_index_or b.entries (offset_at ls xs) zero_g) (entry_in ls bs xs)
    go true e ih =
        let at : b.tuple ≡ sectors_at ls xs = same_values-equal b.tuple (sectors_at ls xs) e in
        let f : Places.Forth ls xs = Places.forth ls xs (values_from_tuple ls xs n (subst (IsTuple ls) at block.tuple)) in
        let below : offset_at ls xs < block_size ls b.tuple = subst (λ t. offset_at ls xs < block_size ls t) (sym at) f.below in
        hit ls b.tuple 0 (offset_at ls xs) b.entries (rows_of ls bs) xs (ap (λ t. values_at ls t (offset_at ls xs)) at ∙ f.values) refl block.tuple (omega arith) (omega (arith, below, block.full)) full
        ∙ ap (λ k. get_or b.entries k zero_g) (plain (offset_at ls xs))
      where
        plain : (k : ℕ) → k - 0 ≡ k
        plain k = omega arith
    go false e ih = miss ls b.tuple 0 b.entries (rows_of ls bs) xs e block.tuple full ∙ ih

-- the rows of a block conserve charge

pub all-nil : {A : Type 0} (P : A → Type 0) → All P []
all-nil P k d l = absurd (omega (arith, l))

pub all-cons : {A : Type 0} (P : A → Type 0) (x : A) (xs : List A) → P x → All P xs → All P (x ∷ xs)
all-cons P x xs p h zero d l = p
all-cons P x xs p h (suc k) d l = h k d (omega (arith, l))

all-append : {A : Type 0} (P : A → Type 0) (xs ys : List A) → All P xs → All P ys → All P (xs ++ ys)
all-append P [] ys h k = k
all-append P (x ∷ xs) ys h k = all-cons P x (xs ++ ys) (all_first P x xs h) (all-append P xs ys (all_others P x xs h) k)

rows_conserve : (fs : List Factor) (ls : List LegValue) (q : List ℤ) (t : List ℕ) (o : ℕ) (es : List Gaussian) → IsTuple ls t → net fs ls t ≡ q → o + length es ≤ block_size ls t →
    All (IsRow fs ls q) (rows_from ls t o es)
rows_conserve fs ls q t o [] h f le = all-nil (IsRow fs ls q)
rows_conserve fs ls q t o (e ∷ es) h f le =
    all-cons (IsRow fs ls q) (record { values = values_at ls t o; entry = e }) (rows_from ls t (o + 1) es)
    (record { range = Places.values_in ls t o h (omega (arith, le)); flux = ap (net fs ls) (Places.back ls t o h (omega (arith, le))).sectors ∙ f })
    (rows_conserve fs ls q t (o + 1) es h f (omega (arith, le)))

-- rows at later offsets, and rows of other blocks, have other values

new-append : (r : Row) (xs ys : List Row) → IsNew r xs → IsNew r ys → IsNew r (xs ++ ys)
new-append r [] ys h k = k
new-append r (x ∷ xs) ys h k = (h.0, new-append r xs ys h.1 k)

new_later : (ls : List LegValue) (t : List ℕ) (p o : ℕ) (e : Gaussian) (es : List Gaussian) → IsTuple ls t → p < o → o + length es ≤ block_size ls t →
    IsNew (record { values = values_at ls t p; entry = e }) (rows_from ls t o es)
new_later ls t p o e [] h l le = tt
new_later ls t p o e (x ∷ es) h l le = (
  false_from_ne_true _ (λ s. apart (sym (Places.back ls t o h (omega (arith, le))).offset ∙ ap (offset_at ls) (same_values-equal (values_at ls t o) (values_at ls t p) s) ∙ (Places.back ls t p h (omega (arith, l, le))).offset)),
  new_later ls t p (o + 1) e es h (omega (arith, l)) (omega (arith, le)),
)
  where
    apart : o ≡ p → ⊥
    apart q = omega (arith, q, l)

new_other : (ls : List LegValue) (t u : List ℕ) (p o : ℕ) (e : Gaussian) (es : List Gaussian) → IsTuple ls t → IsTuple ls u → t ≢ u → p < block_size ls t → o + length es ≤ block_size ls u →
    IsNew (record { values = values_at ls t p; entry = e }) (rows_from ls u o es)
new_other ls t u p o e [] h k n l le = tt
new_other ls t u p o e (x ∷ es) h k n l le = (
  false_from_ne_true _ (λ s. n (sym (Places.back ls t p h l).sectors ∙ ap (sectors_at ls) (sym (same_values-equal (values_at ls u o) (values_at ls t p) s)) ∙ (Places.back ls u o k (omega (arith, le))).sectors)),
  new_other ls t u p (o + 1) e es h k n l (omega (arith, le)),
)

new_blocks : (fs : List Factor) (ls : List LegValue) (q : List ℤ) (t : List ℕ) (p : ℕ) (e : Gaussian) (bs : List BlockValue) → IsTuple ls t → p < block_size ls t → All (IsBlock fs ls q) bs →
    All (λ c. t ≢ c.tuple) bs → IsNew (record { values = values_at ls t p; entry = e }) (rows_of ls bs)
new_blocks fs ls q t p e [] h l a n = tt
new_blocks fs ls q t p e (b ∷ bs) h l a n =
    let block : IsBlock fs ls q b = all_first (IsBlock fs ls q) b bs a in
    new-append (record { values = values_at ls t p; entry = e }) (rows_from ls b.tuple 0 b.entries) (rows_of ls bs)
    (new_other ls t b.tuple p 0 e b.entries h block.tuple (all_first (λ (c : BlockValue). t ≢ c.tuple) b bs n) l (omega (arith, block.full)))
    (new_blocks fs ls q t p e bs h l (all_others (IsBlock fs ls q) b bs a) (all_others (λ (c : BlockValue). t ≢ c.tuple) b bs n))

distinct_from : (fs : List Factor) (ls : List LegValue) (q : List ℤ) (t : List ℕ) (o : ℕ) (es : List Gaussian) (bs : List BlockValue) → IsTuple ls t → o + length es ≤ block_size ls t →
    All (IsBlock fs ls q) bs → All (λ c. t ≢ c.tuple) bs → AreDistinct (rows_of ls bs) → AreDistinct (rows_from ls t o es ++ rows_of ls bs)
distinct_from fs ls q t o [] bs h le a n d = d
distinct_from fs ls q t o (e ∷ es) bs h le a n d = (
  new-append (record { values = values_at ls t o; entry = e }) (rows_from ls t (o + 1) es) (rows_of ls bs)
      (new_later ls t o (o + 1) e es h (omega arith) (omega (arith, le))) (new_blocks fs ls q t o e bs h (omega (arith, le)) a n),
  distinct_from fs ls q t (o + 1) es bs h (omega (arith, le)) a n d,
)

-- ascending tuples differ

cmp_itself : (t : List ℕ) → slice_cmp nat_cmp t t ≡ Equal
cmp_itself [] = refl
cmp_itself (x ∷ t) = grind (arith, nat_tests, cmp_itself t)

pub others_differ : (b : BlockValue) (bs : List BlockValue) → AreAscending (b ∷ bs) → All (λ c. b.tuple ≢ c.tuple) bs
others_differ b bs h k d l e =
    let less : slice_cmp nat_cmp b.tuple (get_or bs k no_block).tuple ≡ Less = h 0 (suc k) (omega arith) (omega (arith, l)) in
    let same : get_or bs k d ≡ get_or bs k no_block = get_or_default bs k d no_block l in
    absurd (cc (sym (cmp_itself b.tuple) ∙ ap (slice_cmp nat_cmp b.tuple) (e ∙ ap (λ (c : BlockValue). c.tuple) same) ∙ less))

pub ascending_rest : (b : BlockValue) (bs : List BlockValue) → AreAscending (b ∷ bs) → AreAscending bs
ascending_rest b bs h i j l m = h (suc i) (suc j) (omega (arith, l)) (omega (arith, m))

pub block_tensor : (fs : List Factor) (ls : List LegValue) (q : List ℤ) (bs : List BlockValue) → All (IsBlock fs ls q) bs → AreAscending bs →
    All (IsRow fs ls q) (rows_of ls bs) × AreDistinct (rows_of ls bs)
block_tensor fs ls q [] h a = (all-nil (IsRow fs ls q), tt)
block_tensor fs ls q (b ∷ bs) h a =
    let block : IsBlock fs ls q b = all_first (IsBlock fs ls q) b bs h in
    let others : All (IsBlock fs ls q) bs = all_others (IsBlock fs ls q) b bs h in
    let r : All (IsRow fs ls q) (rows_of ls bs) × AreDistinct (rows_of ls bs) = block_tensor fs ls q bs others (ascending_rest b bs a) in (
      all-append (IsRow fs ls q) (rows_from ls b.tuple 0 b.entries) (rows_of ls bs) (rows_conserve fs ls q b.tuple 0 b.entries block.tuple block.flux (omega (arith, block.full))) r.0,
      distinct_from fs ls q b.tuple 0 b.entries bs block.tuple (omega (arith, block.full)) others (others_differ b bs a) r.1,
    )
