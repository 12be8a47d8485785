-- What keeps blocks from being a tensor: by its kind and place, and by the walk over the blocks.
use Rattle.std.proofs.Common.{◌≡◌, ◌≢◌, ℕ, suc, zero, ◌+◌, ◌-◌, ◌^◌, ◌<◌, ◌≤◌, ℤ, List, [], ◌∷◌, length, Bool, true, false, not, ◌==◌, cond, Some, None, refl, sym, ap, subst, ◌∙◌, arith, ◌⊎◌, inl, inr, true≢false}
use Rattle.std.specs.Prelude.{Option, nat_le, nat_lt, slice_index_or}
use Rattle.std.specs.Option.{option_or, option_map}
use Rattle.std.specs.List.{position_from}
use Rattle.std.specs.Cmp.Lexicographic.{slice_cmp}
use Rattle.std.specs.Cmp.Rules.{signed_items}
use Rattle.std.specs.Ordering.{nat_cmp, is_lt}
use Rattle.std.specs.declared.cmp.Ordering.{Ordering}
use Rattle.std.specs.declared.cmp.Ordering.TheVariants.{Less, Equal, Greater}
use Rattle.std.proofs.lemmas.Bool.{eqb-true, leb-true, le-leb, lt-leb, le-ltb, lt-ltb, eq-eqb}
use Rattle.qn_charge.specs.declared.factor.Factor.{Factor}
use Rattle.qn_charge.specs.Firsts.{IsFirst, HasNone}
use Rattle.qn_index.specs.Legs.{LegValue}
use Rattle.qn_index.specs.Tuples.{net, count, admits, IsTuple}
use Rattle.qn_index.specs.Places.{block_size}
use Rattle.qn_index.specs.Extents.{entries, IsWithinLimits}
use Rattle.qn_index.proofs.Nets.{tuple_length}
use Rattle.qn_value.specs.Tensors.{BlockValue, no_block, IsBlock}
use Rattle.qn_block.specs.Blocked.{IsBlocked}
use Rattle.qn_block.specs.Refusals.{block_at, BadTupleAt, OffFluxAt, NotAscendingAt, BadLengthAt, IsNoSector, IsBlockFault}
use Rattle.qn_block.specs.declared.fault.BlockFault.{BlockFault}
use Rattle.qn_block.specs.declared.fault.BlockFault.TheVariants.{TooManyLegs, TooManyTuples, TooManyEntries, Arity, BlockRange, OffFlux, NotAscending, DataLen, Memory}
use Rattle.qn_block.proofs.Firsts.{tuple_or_not, tuple_good}
use Rattle.qn_parts.specs.declared.fault.Fault.{Fault}
use Rattle.qn_parts.specs.declared.fault.DocFault.{DocFault}
use Rattle.qn_parts.specs.declared.fault.DocFault.TheVariants.{Bad, Memory as NoMemory}
use Rattle.qn_parts.specs.Faults.{fault, fault_if, first_from, first_of, first_bad, Fails}
use Rattle.qn_parts.specs.Tensors.{no_sector_from, tuple_fault, order_fault, width_fault, blocks_fault, made_fault, placed}

-- ---- tests and choices

cond_true : {A : Type 0} (b : Bool) (x y : A) → b ≡ true → cond b x y ≡ x
cond_true true x y e = refl
cond_true false x y e = cc

cond_false : {A : Type 0} (b : Bool) (x y : A) → b ≡ false → cond b x y ≡ y
cond_false true x y e = cc
cond_false false x y e = refl

pub or_first : (a b : Option Fault) (f : Fault) → a ≡ Some f → option_or a b ≡ Some f
or_first (Some g) b f e = e
or_first None b f e = cc

or_later : (a b r : Option Fault) → a ≡ None → b ≡ r → option_or a b ≡ r
or_later (Some g) b r e h = cc
or_later None b r e h = h

leb_no_at : (a b : ℕ) → (a ≤ b → ⊥) → (t : Bool) → nat_le a b ≡ t → nat_le a b ≡ false
leb_no_at a b h true e = absurd (h (leb-true a b e))
leb_no_at a b h false e = e

leb_no : (a b : ℕ) → (a ≤ b → ⊥) → nat_le a b ≡ false
leb_no a b h = leb_no_at a b h (nat_le a b) refl

eqb_no_at : (a b : ℕ) → (a ≢ b) → (t : Bool) → (a == b) ≡ t → (a == b) ≡ false
eqb_no_at a b h true e = absurd (h (eqb-true a b e))
eqb_no_at a b h false e = e

eqb_no : (a b : ℕ) → (a ≢ b) → (a == b) ≡ false
eqb_no a b h = eqb_no_at a b h (a == b) refl

-- ---- a search from the front

none_there : {A : Type 0} (test : A → Bool) (d : A) (n : ℕ) (xs : List A) → ((i : ℕ) → i < length xs → test (slice_index_or xs i d) ≡ false) → position_from test n xs ≡ None
none_there test d n [] h = refl
none_there test d n (x ∷ xs) h =
    cond_false (test x) (Some n) (position_from test (n + 1) xs) (h 0 (omega arith))
    ∙ none_there test d (n + 1) xs (λ i lt. h (suc i) (omega (arith, lt)))

first_there : {A : Type 0} (test : A → Bool) (d : A) (n : ℕ) (xs : List A) (i : ℕ) → i < length xs → test (slice_index_or xs i d) ≡ true
    → ((j : ℕ) → j < i → test (slice_index_or xs j d) ≡ false) → position_from test n xs ≡ Some (n + i)
first_there test d n [] i lt e h = absurd (omega (arith, lt))
first_there test d n (x ∷ xs) zero lt e h =
    cond_true (test x) (Some n) (position_from test (n + 1) xs) e ∙ ap Some (omega arith)
first_there test d n (x ∷ xs) (suc i) lt e h =
    cond_false (test x) (Some n) (position_from test (n + 1) xs) (h 0 (omega arith))
    ∙ (first_there test d (n + 1) xs i (omega (arith, lt)) e (λ j k. h (suc j) (omega (arith, k))) ∙ ap Some (omega arith))

bad_none : {A : Type 0} (test : A → Bool) (at : ℕ → Fault) (d : A) (xs : List A) → ((i : ℕ) → i < length xs → test (slice_index_or xs i d) ≡ false) → first_bad test at xs ≡ None
bad_none test at d xs h = ap (option_map (λ i. at (i + 1))) (none_there test d 0 xs h)

bad_some : {A : Type 0} (test : A → Bool) (at : ℕ → Fault) (d : A) (xs : List A) (i : ℕ) → i < length xs → test (slice_index_or xs i d) ≡ true
    → ((j : ℕ) → j < i → test (slice_index_or xs j d) ≡ false) → first_bad test at xs ≡ Some (at (i + 1))
bad_some test at d xs i lt e h =
    ap (option_map (λ k. at (k + 1))) (first_there test d 0 xs i lt e h ∙ ap Some (omega arith))

faults_none : (check : ℕ → BlockValue → Option Fault) (n : ℕ) (xs : List BlockValue) → ((i k : ℕ) → i < length xs → check k (block_at xs i) ≡ None) → first_from check n xs ≡ None
faults_none check n [] h = refl
faults_none check n (x ∷ xs) h =
    or_later (check n x) (first_from check (n + 1) xs) None (h 0 n (omega arith)) (faults_none check (n + 1) xs (λ i k lt. h (suc i) k (omega (arith, lt))))

faults_some : (check : ℕ → BlockValue → Option Fault) (n : ℕ) (xs : List BlockValue) (i : ℕ) (f : Fault) → i < length xs → check (n + i) (block_at xs i) ≡ Some f
    → ((j k : ℕ) → j < i → check k (block_at xs j) ≡ None) → first_from check n xs ≡ Some f
faults_some check n [] i f lt e h = absurd (omega (arith, lt))
faults_some check n (x ∷ xs) zero f lt e h =
    let place : n + 0 ≡ n = omega arith in
    or_first (check n x) (first_from check (n + 1) xs) f (subst (λ k. check k x ≡ Some f) place e)
faults_some check n (x ∷ xs) (suc i) f lt e h =
    let place : n + suc i ≡ n + 1 + i = omega arith in
    or_later (check n x) (first_from check (n + 1) xs) (Some f) (h 0 n (omega arith))
    (faults_some check (n + 1) xs i f (omega (arith, lt)) (subst (λ k. check k (block_at xs i) ≡ Some f) place e) (λ j k l. h (suc j) k (omega (arith, l))))

-- ---- tuples

no_sector_none : (m : ℕ) (ls : List LegValue) (t : List ℕ) → IsTuple ls t → no_sector_from m ls t ≡ None
no_sector_none m [] t h = refl
no_sector_none m (l ∷ ls) [] h = refl
no_sector_none m (l ∷ ls) (s ∷ ss) h =
    cond_false (nat_le (length l.sectors) s) (Some m) (no_sector_from (m + 1) ls ss) (lt-leb (length l.sectors) s h.0)
    ∙ no_sector_none (m + 1) ls ss h.1

no_sector_some : (m : ℕ) (ls : List LegValue) (t : List ℕ) (j : ℕ) → IsFirst (IsNoSector ls t) j → no_sector_from m ls t ≡ Some (m + j)
no_sector_some m [] t j h = absurd h.here
no_sector_some m (l ∷ ls) [] j h = absurd h.here
no_sector_some m (l ∷ ls) (s ∷ ss) zero h =
    cond_true (nat_le (length l.sectors) s) (Some m) (no_sector_from (m + 1) ls ss) (le-leb (length l.sectors) s h.here) ∙ ap Some (omega arith)
no_sector_some m (l ∷ ls) (s ∷ ss) (suc j) h =
    cond_false (nat_le (length l.sectors) s) (Some m) (no_sector_from (m + 1) ls ss) (leb_no (length l.sectors) s (h.before 0 (omega arith)))
    ∙ (no_sector_some (m + 1) ls ss j (record { here = h.here; before = λ k lt o. h.before (suc k) (omega (arith, lt)) o }) ∙ ap Some (omega arith))

tuple_fine : (ls : List LegValue) (tensor k : ℕ) (b : BlockValue) → IsTuple ls b.tuple → tuple_fault ls tensor k b ≡ None
tuple_fine ls tensor k b h =
    cond_true (length b.tuple == length ls) (option_map (λ j. fault 15 tensor k j) (no_sector_from 1 ls b.tuple)) (Some (fault 15 tensor k 0)) (eq-eqb (length b.tuple) (length ls) (tuple_length ls b.tuple h))
    ∙ ap (option_map (λ j. fault 15 tensor k j)) (no_sector_none 1 ls b.tuple h)

tuple_long : (ls : List LegValue) (tensor k : ℕ) (b : BlockValue) → (length b.tuple ≢ length ls) → tuple_fault ls tensor k b ≡ Some (fault 15 tensor k 0)
tuple_long ls tensor k b h =
    cond_false (length b.tuple == length ls) (option_map (λ j. fault 15 tensor k j) (no_sector_from 1 ls b.tuple)) (Some (fault 15 tensor k 0)) (eqb_no (length b.tuple) (length ls) h)

tuple_off : (ls : List LegValue) (tensor k : ℕ) (b : BlockValue) (j : ℕ) → length b.tuple ≡ length ls → IsFirst (IsNoSector ls b.tuple) j → tuple_fault ls tensor k b ≡ Some (fault 15 tensor k (j + 1))
tuple_off ls tensor k b j e h =
    cond_true (length b.tuple == length ls) (option_map (λ j. fault 15 tensor k j) (no_sector_from 1 ls b.tuple)) (Some (fault 15 tensor k 0)) (eq-eqb (length b.tuple) (length ls) e)
    ∙ ap (option_map (λ j. fault 15 tensor k j)) (no_sector_some 1 ls b.tuple j h ∙ ap Some (omega arith))

tuples_none : (ls : List LegValue) (tensor : ℕ) (bs : List BlockValue) → ((i : ℕ) → i < length bs → IsTuple ls (block_at bs i).tuple) → first_of (tuple_fault ls tensor) bs ≡ None
tuples_none ls tensor bs h = faults_none (tuple_fault ls tensor) 1 bs (λ i k lt. tuple_fine ls tensor k (block_at bs i) (h i lt))

tuples_some : (ls : List LegValue) (tensor : ℕ) (bs : List BlockValue) (i : ℕ) (f : Fault) → IsFirst (BadTupleAt ls bs) i → tuple_fault ls tensor (i + 1) (block_at bs i) ≡ Some f
    → first_of (tuple_fault ls tensor) bs ≡ Some f
tuples_some ls tensor bs i f h e =
    let place : i + 1 ≡ 1 + i = omega arith in
    faults_some (tuple_fault ls tensor) 1 bs i f h.here.0 (subst (λ k. tuple_fault ls tensor k (block_at bs i) ≡ Some f) place e)
    (λ j k lt. fine j k lt (tuple_or_not ls (block_at bs j).tuple))
  where
    fine : (j k : ℕ) → j < i → IsTuple ls (block_at bs j).tuple ⊎ (IsTuple ls (block_at bs j).tuple → ⊥) → tuple_fault ls tensor k (block_at bs j) ≡ None
    fine j k lt (inl t) = tuple_fine ls tensor k (block_at bs j) t
    fine j k lt (inr t) = absurd (h.before j lt (omega (arith, lt, h.here.0), t))

-- ---- the flux

off_no : (fs : List Factor) (ls : List LegValue) (q : List ℤ) (b : BlockValue) → ((net fs ls b.tuple ≢ q) → ⊥) → not (admits fs ls q b.tuple) ≡ false
off_no fs ls q b h = by (admits fs ls q b.tuple) refl
  where
    by : (t : Bool) → admits fs ls q b.tuple ≡ t → not t ≡ false
    by true e = refl
    by false e = absurd (h (λ s. true≢false (sym ((signed_items (net fs ls b.tuple) q).1 s) ∙ e)))

off_yes : (fs : List Factor) (ls : List LegValue) (q : List ℤ) (b : BlockValue) → (net fs ls b.tuple ≢ q) → not (admits fs ls q b.tuple) ≡ true
off_yes fs ls q b h = by (admits fs ls q b.tuple) refl
  where
    by : (t : Bool) → admits fs ls q b.tuple ≡ t → not t ≡ true
    by true e = absurd (h ((signed_items (net fs ls b.tuple) q).0 e))
    by false e = refl

-- ---- the order

not_less : (o : Ordering) → (o ≢ Less) → is_lt o ≡ false
not_less Less h = absurd (h refl)
not_less Equal h = refl
not_less Greater h = refl

is_less : (o : Ordering) → ((o ≢ Less) → ⊥) → is_lt o ≡ true
is_less Less h = refl
is_less Equal h = absurd (h (λ e. true≢false (sym (ap is_lt e))))
is_less Greater h = absurd (h (λ e. true≢false (sym (ap is_lt e))))

order_none : (tensor k : ℕ) (bs : List BlockValue) → ((i : ℕ) → suc i < length bs → is_lt (slice_cmp nat_cmp (block_at bs i).tuple (block_at bs (suc i)).tuple) ≡ true) → order_fault tensor k bs ≡ None
order_none tensor k [] h = refl
order_none tensor k (b ∷ []) h = refl
order_none tensor k (b ∷ c ∷ bs) h =
    cond_true (is_lt (slice_cmp nat_cmp b.tuple c.tuple)) (order_fault tensor (k + 1) (c ∷ bs)) (Some (fault 17 tensor (k + 1) 0)) (h 0 (omega arith))
    ∙ order_none tensor (k + 1) (c ∷ bs) (λ i lt. h (suc i) (omega (arith, lt)))

order_some : (tensor k : ℕ) (bs : List BlockValue) (i : ℕ) → suc i < length bs → is_lt (slice_cmp nat_cmp (block_at bs i).tuple (block_at bs (suc i)).tuple) ≡ false
    → ((j : ℕ) → j < i → is_lt (slice_cmp nat_cmp (block_at bs j).tuple (block_at bs (suc j)).tuple) ≡ true) → order_fault tensor k bs ≡ Some (fault 17 tensor (k + suc i) 0)
order_some tensor k [] i lt e h = absurd (omega (arith, lt))
order_some tensor k (b ∷ []) i lt e h = absurd (omega (arith, lt))
order_some tensor k (b ∷ c ∷ bs) zero lt e h =
    cond_false (is_lt (slice_cmp nat_cmp b.tuple c.tuple)) (order_fault tensor (k + 1) (c ∷ bs)) (Some (fault 17 tensor (k + 1) 0)) e
order_some tensor k (b ∷ c ∷ bs) (suc i) lt e h =
    let place : k + 1 + suc i ≡ k + suc (suc i) = omega arith in
    cond_true (is_lt (slice_cmp nat_cmp b.tuple c.tuple)) (order_fault tensor (k + 1) (c ∷ bs)) (Some (fault 17 tensor (k + 1) 0)) (h 0 (omega arith))
    ∙ (order_some tensor (k + 1) (c ∷ bs) i (omega (arith, lt)) e (λ j l. h (suc j) (omega (arith, l))) ∙ ap (λ n. Some (fault 17 tensor n 0)) place)

-- ---- the whole

width_none : (fs : List Factor) (tensor : ℕ) (ls : List LegValue) (q : List ℤ) → count ls ≤ 2 ^ 20 → entries fs ls q ≤ 2 ^ 22 → width_fault fs tensor ls q ≡ None
width_none fs tensor ls q t e =
    or_later (fault_if (nat_lt (2 ^ 20) (count ls)) (fault 13 tensor 0 0)) (fault_if (nat_lt (2 ^ 22) (entries fs ls q)) (fault 14 tensor 0 0)) None
    (cond_false (nat_lt (2 ^ 20) (count ls)) (Some (fault 13 tensor 0 0)) None (le-ltb (2 ^ 20) (count ls) t))
    (cond_false (nat_lt (2 ^ 22) (entries fs ls q)) (Some (fault 14 tensor 0 0)) None (le-ltb (2 ^ 22) (entries fs ls q) e))

flux_none : (fs : List Factor) (tensor : ℕ) (ls : List LegValue) (q : List ℤ) (bs : List BlockValue) → HasNone (OffFluxAt fs ls q bs)
    → first_bad (λ b. not (admits fs ls q b.tuple)) (λ k. fault 16 tensor k 0) bs ≡ None
flux_none fs tensor ls q bs h =
    bad_none (λ b. not (admits fs ls q b.tuple)) (λ k. fault 16 tensor k 0) no_block bs (λ i lt. off_no fs ls q (block_at bs i) (λ n. h i (lt, n)))

flux_some : (fs : List Factor) (tensor : ℕ) (ls : List LegValue) (q : List ℤ) (bs : List BlockValue) (i : ℕ) → IsFirst (OffFluxAt fs ls q bs) i
    → first_bad (λ b. not (admits fs ls q b.tuple)) (λ k. fault 16 tensor k 0) bs ≡ Some (fault 16 tensor (i + 1) 0)
flux_some fs tensor ls q bs i h =
    bad_some (λ b. not (admits fs ls q b.tuple)) (λ k. fault 16 tensor k 0) no_block bs i h.here.0 (off_yes fs ls q (block_at bs i) h.here.1)
    (λ j lt. off_no fs ls q (block_at bs j) (λ n. h.before j lt (omega (arith, lt, h.here.0), n)))

ascends : (bs : List BlockValue) (i : ℕ) → suc i < length bs → (NotAscendingAt bs (suc i) → ⊥) → is_lt (slice_cmp nat_cmp (block_at bs i).tuple (block_at bs (suc i)).tuple) ≡ true
ascends bs i lt h =
    let place : i ≡ suc i - 1 = omega arith in
    is_less (slice_cmp nat_cmp (block_at bs i).tuple (block_at bs (suc i)).tuple)
    (λ n. h (omega arith, lt, subst (λ k. slice_cmp nat_cmp (block_at bs k).tuple (block_at bs (suc i)).tuple ≢ Less) place n))

ascending_none : (tensor : ℕ) (bs : List BlockValue) → HasNone (NotAscendingAt bs) → order_fault tensor 1 bs ≡ None
ascending_none tensor bs h = order_none tensor 1 bs (λ i lt. ascends bs i lt (h (suc i)))

ascending_some : (tensor : ℕ) (bs : List BlockValue) (i : ℕ) → IsFirst (NotAscendingAt bs) i → order_fault tensor 1 bs ≡ Some (fault 17 tensor (i + 1) 0)
ascending_some tensor bs zero h = absurd (omega (arith, h.here.0))
ascending_some tensor bs (suc i) h =
    let place : suc i - 1 ≡ i = omega arith in
    let number : 1 + suc i ≡ suc i + 1 = omega arith in
    order_some tensor 1 bs i h.here.1
    (not_less (slice_cmp nat_cmp (block_at bs i).tuple (block_at bs (suc i)).tuple) (subst (λ k. slice_cmp nat_cmp (block_at bs k).tuple (block_at bs (suc i)).tuple ≢ Less) place h.here.2))
    (λ j lt. ascends bs j (omega (arith, lt, h.here.1)) (h.before (suc j) (omega (arith, lt))))
    ∙ ap (λ n. Some (fault 17 tensor n 0)) number

long_no : (ls : List LegValue) (b : BlockValue) → ((length b.entries ≢ block_size ls b.tuple) → ⊥) → not (length b.entries == block_size ls b.tuple) ≡ false
long_no ls b h = by (length b.entries == block_size ls b.tuple) refl
  where
    by : (t : Bool) → (length b.entries == block_size ls b.tuple) ≡ t → not t ≡ false
    by true e = refl
    by false e = absurd (h (λ s. true≢false (sym (eq-eqb (length b.entries) (block_size ls b.tuple) s) ∙ e)))

length_none : (tensor : ℕ) (ls : List LegValue) (bs : List BlockValue) → HasNone (BadLengthAt ls bs)
    → first_bad (λ b. not (length b.entries == block_size ls b.tuple)) (λ k. fault 18 tensor k 0) bs ≡ None
length_none tensor ls bs h =
    bad_none (λ b. not (length b.entries == block_size ls b.tuple)) (λ k. fault 18 tensor k 0) no_block bs (λ i lt. long_no ls (block_at bs i) (λ n. h i (lt, n)))

length_some : (tensor : ℕ) (ls : List LegValue) (bs : List BlockValue) (i : ℕ) → IsFirst (BadLengthAt ls bs) i
    → first_bad (λ b. not (length b.entries == block_size ls b.tuple)) (λ k. fault 18 tensor k 0) bs ≡ Some (fault 18 tensor (i + 1) 0)
length_some tensor ls bs i h =
    bad_some (λ b. not (length b.entries == block_size ls b.tuple)) (λ k. fault 18 tensor k 0) no_block bs i h.here.0
    (ap not (eqb_no (length (block_at bs i).entries) (block_size ls (block_at bs i).tuple) h.here.1))
    (λ j lt. long_no ls (block_at bs j) (λ n. h.before j lt (omega (arith, lt, h.here.0), n)))

-- legs, a flux and blocks that are a tensor have no fault
pub made_right : (fs : List Factor) (tensor : ℕ) (ls : List LegValue) (q : List ℤ) (bs : List BlockValue)
    → IsBlocked (record { group = fs; legs = ls; flux = q; blocks = bs }) → made_fault fs tensor ls q bs ≡ None
made_right fs tensor ls q bs h =
    or_later (width_fault fs tensor ls q) (blocks_fault fs tensor ls q bs) None (width_none fs tensor ls q h.shape.tuples h.shape.entries)
    (or_later places later None (tuples_none ls tensor bs (λ i lt. (block i lt).tuple))
    (or_later fluxes (option_or orders lengths) None (flux_none fs tensor ls q bs (λ i o. o.1 (block i o.0).flux))
    (or_later orders lengths None (ascending_none tensor bs above) (length_none tensor ls bs (λ i o. o.1 (block i o.0).full)))))
  where
    places : Option Fault
    places = first_of (tuple_fault ls tensor) bs

    fluxes : Option Fault
    fluxes = first_bad (λ b. not (admits fs ls q b.tuple)) (λ k. fault 16 tensor k 0) bs

    orders : Option Fault
    orders = order_fault tensor 1 bs

    lengths : Option Fault
    lengths = first_bad (λ b. not (length b.entries == block_size ls b.tuple)) (λ k. fault 18 tensor k 0) bs

    later : Option Fault
    later = option_or fluxes (option_or orders lengths)

    block : (i : ℕ) → i < length bs → IsBlock fs ls q (block_at bs i)
    block i lt = h.blocks i no_block lt

    above : HasNone (NotAscendingAt bs)
    above i o = o.2 (h.ascending (i - 1) i (omega (arith, o.0)) o.1)

-- what keeps them from being a tensor is what the walk finds
pub made_wrong : (fs : List Factor) (tensor : ℕ) (ls : List LegValue) (q : List ℤ) (bs : List BlockValue) (e : BlockFault) (r : DocFault)
    → length ls ≤ 32 → IsBlockFault fs ls q bs e → Fails r (placed tensor e) → Fails r (made_fault fs tensor ls q bs)
made_wrong fs tensor ls q bs e r few h = same r e h
  where
    places : Option Fault
    places = first_of (tuple_fault ls tensor) bs

    fluxes : Option Fault
    fluxes = first_bad (λ b. not (admits fs ls q b.tuple)) (λ k. fault 16 tensor k 0) bs

    orders : Option Fault
    orders = order_fault tensor 1 bs

    lengths : Option Fault
    lengths = first_bad (λ b. not (length b.entries == block_size ls b.tuple)) (λ k. fault 18 tensor k 0) bs

    later : Option Fault
    later = option_or fluxes (option_or orders lengths)

    all : Option Fault
    all = option_or places later

    no_tuple : HasNone (BadTupleAt ls bs) → places ≡ None
    no_tuple none = tuples_none ls tensor bs (λ i lt. tuple_good ls bs i none lt)

    wide : IsWithinLimits fs ls q → (f : Fault) → all ≡ Some f → made_fault fs tensor ls q bs ≡ Some f
    wide w f e = or_later (width_fault fs tensor ls q) all (Some f) (width_none fs tensor ls q w.tuples w.entries) e

    is : (e : BlockFault) (f : Fault) → IsBlockFault fs ls q bs e → placed tensor e ≡ Some f → made_fault fs tensor ls q bs ≡ Some f
    is TooManyLegs f h p = absurd (omega (arith, few, h))
    is TooManyTuples f h p =
        or_first (width_fault fs tensor ls q) all f (or_first (fault_if (nat_lt (2 ^ 20) (count ls)) (fault 13 tensor 0 0)) (fault_if (nat_lt (2 ^ 22) (entries fs ls q)) (fault 14 tensor 0 0)) f
        (cond_true (nat_lt (2 ^ 20) (count ls)) (Some (fault 13 tensor 0 0)) None (lt-ltb (2 ^ 20) (count ls) h.1) ∙ p))
    is TooManyEntries f h p =
        or_first (width_fault fs tensor ls q) all f (or_later (fault_if (nat_lt (2 ^ 20) (count ls)) (fault 13 tensor 0 0)) (fault_if (nat_lt (2 ^ 22) (entries fs ls q)) (fault 14 tensor 0 0)) (Some f)
        (cond_false (nat_lt (2 ^ 20) (count ls)) (Some (fault 13 tensor 0 0)) None (le-ltb (2 ^ 20) (count ls) h.1))
        (cond_true (nat_lt (2 ^ 22) (entries fs ls q)) (Some (fault 14 tensor 0 0)) None (lt-ltb (2 ^ 22) (entries fs ls q) h.2) ∙ p))
    is (Arity i) f h p = wide h.0 f (or_first places later f (tuples_some ls tensor bs i (fault 15 tensor (i + 1) 0) h.1.0 (tuple_long ls tensor (i + 1) (block_at bs i) h.1.1) ∙ p))
    is (BlockRange i j) f h p =
        wide h.0 f (or_first places later f (tuples_some ls tensor bs i (fault 15 tensor (i + 1) (j + 1)) h.1.0 (tuple_off ls tensor (i + 1) (block_at bs i) j h.1.1 h.1.2) ∙ p))
    is (OffFlux i) f h p = wide h.0 f (or_later places later (Some f) (no_tuple h.1) (or_first fluxes (option_or orders lengths) f (flux_some fs tensor ls q bs i h.2 ∙ p)))
    is (NotAscending i) f h p =
        wide h.0 f (or_later places later (Some f) (no_tuple h.1)
        (or_later fluxes (option_or orders lengths) (Some f) (flux_none fs tensor ls q bs h.2) (or_first orders lengths f (ascending_some tensor bs i h.3 ∙ p))))
    is (DataLen i) f h p =
        wide h.0 f (or_later places later (Some f) (no_tuple h.1)
        (or_later fluxes (option_or orders lengths) (Some f) (flux_none fs tensor ls q bs h.2)
        (or_later orders lengths (Some f) (ascending_none tensor bs h.3) (length_some tensor ls bs i h.4 ∙ p))))
    is Memory f h p = cc

    same : (r : DocFault) (e : BlockFault) → IsBlockFault fs ls q bs e → Fails r (placed tensor e) → Fails r (made_fault fs tensor ls q bs)
    same (Bad f) e h p = is e f h p
    same NoMemory e h p = tt
