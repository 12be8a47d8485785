-- A tensor without blocks of zeros is told by its entries.
use Rattle.std.proofs.Common.{Contains, ◌≡◌, ◌≢◌, ℕ, zero, suc, ◌<◌, List, [], ◌∷◌, length, get_or, map, filter, not, cond, arith, refl, ap, ap₂, ◌∙◌, sym, subst, ◌⊎◌, inl, inr, Bool, true, false}
use Rattle.std.specs.Cmp.Lexicographic.{nat_list_cmp_total}
use Rattle.std.specs.List.{All, AllPairs}
use Rattle.std.proofs.lemmas.List.{get_or_default, get_or-map, ext_get_or, length-map}
use Rattle.std.proofs.lemmas.List.FromFn.{get_or-map-range_with_len, length-map-range_with_len}
use Rattle.std.proofs.lemmas.List.Folds.{Any-from_list_any}
use Rattle.std.proofs.lemmas.List.Kept.{AllPairs-filter}
use Rattle.std.proofs.lemmas.Bool.{false≢true}
use Rattle.qn_gauss.specs.Gaussian.{Gaussian, zero_g}
use Rattle.qn_sign.specs.Positions.{positions}
use Rattle.qn_index.specs.Legs.{LegValue}
use Rattle.qn_index.specs.Tuples.{admitted}
use Rattle.qn_index.specs.Places.{IsValues, sectors_at, offset_at, values_at, block_size}
use Rattle.qn_index.proofs.Places.{back, values_in}
use Rattle.qn_index.proofs.Admitted.{admitted_ascend, listed, unlisted}
use Rattle.qn_value.specs.Tensors.{BlockValue, same_values, entry_of, entry_in, IsBlock}
use Rattle.qn_value.specs.Magnitudes.{all_blocks}
use Rattle.qn_value.specs.Magnitudes.{block_at as block_of}
use Rattle.qn_value.proofs.Values.{same_values-equal}
use Rattle.qn_block.specs.Blocked.{BlockedValue, IsBlocked, tensor_of, is_zero, is_filled}
use Rattle.qn_block.proofs.Ascending.{IsBelow, to_pairs, zero_back}
use Rattle.qn_block.proofs.Entries.{by_blocks, entry_of_block}
use Rattle.qn_block.proofs.Lookup.{not_below_itself}
use Rattle.qn_index.proofs.Admitted.{keeps}

-- ---- elements of lists

here : {X : Type 0} (x : X) (xs : List X) → Contains (x ∷ xs) x
here x xs = (zero, omega arith, refl)

later : {X : Type 0} (x : X) (xs : List X) (y : X) → Contains xs y → Contains (x ∷ xs) y
later x xs y c = (suc c.0, omega (arith, c.1), c.2)

either : {X : Type 0} (x : X) (xs : List X) (y : X) → Contains (x ∷ xs) y → (x ≡ y) ⊎ Contains xs y
either x xs y (zero, lt, q) = inl q
either x xs y (suc k, lt, q) = inr (k, omega (arith, lt), q)

contained_map : {X Y : Type 0} (f : X → Y) (xs : List X) (x : X) → Contains xs x → Contains (map f xs) (f x)
contained_map f [] x c = absurd (omega (arith, c.1))
contained_map f (y ∷ ys) x c = by (either y ys x c) (contained_map f ys x)
  where
    by : (y ≡ x) ⊎ Contains ys x → (Contains ys x → Contains (map f ys) (f x)) → Contains (map f (y ∷ ys)) (f x)
    by (inl e) more = subst (λ z. Contains (map f (y ∷ ys)) (f z)) e (here (f y) (map f ys))
    by (inr d) more = later (f y) (map f ys) (f x) (more d)

mapped_from : {X Y : Type 0} (f : X → Y) (xs : List X) (y : Y) → Contains (map f xs) y → (x : X) × Contains xs x × (f x ≡ y)
mapped_from f [] y c = absurd (omega (arith, c.1))
mapped_from {X} f (x ∷ xs) y c = by (either (f x) (map f xs) y c) (mapped_from f xs y)
  where
    by : (f x ≡ y) ⊎ Contains (map f xs) y → (Contains (map f xs) y → (z : X) × Contains xs z × (f z ≡ y)) → (z : X) × Contains (x ∷ xs) z × (f z ≡ y)
    by (inl e) more = (x, here x xs, e)
    by (inr d) more = let r = more d in (r.0, later x xs r.0 r.1, r.2)

kept_from : {X : Type 0} (p : X → Bool) (xs : List X) (x : X) → Contains (filter p xs) x → Contains xs x × (p x ≡ true)
kept_from p [] x c = absurd (omega (arith, c.1))
kept_from p (y ∷ ys) x c = by (p y) refl c (kept_from p ys x)
  where
    first : p y ≡ true → (y ≡ x) ⊎ Contains (filter p ys) x → (Contains (filter p ys) x → Contains ys x × (p x ≡ true)) → Contains (y ∷ ys) x × (p x ≡ true)
    first e (inl q) more = (subst (λ z. Contains (y ∷ ys) z) q (here y ys), ap p (sym q) ∙ e)
    first e (inr d) more = let r = more d in (later y ys x r.0, r.1)

    by : (b : Bool) → p y ≡ b → Contains (cond b (y ∷ filter p ys) (filter p ys)) x → (Contains (filter p ys) x → Contains ys x × (p x ≡ true)) → Contains (y ∷ ys) x × (p x ≡ true)
    by true e d more = first e (either y (filter p ys) x d) more
    by false e d more = let r = more d in (later y ys x r.0, r.1)

-- ---- lists in order

first_before : {X : Type 0} (R : X → X → Type 0) (x : X) (xs : List X) (y : X) → AllPairs R (x ∷ xs) → Contains xs y → R x y
first_before R x xs y p c = subst (R x) c.2 (p zero (suc c.0) y (omega arith) (omega (arith, c.1)))

pairs_behind : {X : Type 0} (R : X → X → Type 0) (x : X) (xs : List X) → AllPairs R (x ∷ xs) → AllPairs R xs
pairs_behind R x xs p i j d lt h = p (suc i) (suc j) d (omega (arith, lt)) (omega (arith, h))

-- two lists in one strict order with the same elements are equal
equal_in_order : {X : Type 0} (R : X → X → Type 0) → ((x y : X) → R x y → R y x → ⊥) → (xs ys : List X) → AllPairs R xs → AllPairs R ys →
    ((z : X) → Contains xs z → Contains ys z) → ((z : X) → Contains ys z → Contains xs z) → xs ≡ ys
equal_in_order R never [] [] p q f g = refl
equal_in_order R never [] (y ∷ ys) p q f g = absurd (omega (arith, (g y (here y ys)).1))
equal_in_order R never (x ∷ xs) [] p q f g = absurd (omega (arith, (f x (here x xs)).1))
equal_in_order R never (x ∷ xs) (y ∷ ys) p q f g =
    ap₂ (λ z zs. z ∷ zs) same (equal_in_order R never xs ys (pairs_behind R x xs p) (pairs_behind R y ys q) (λ z c. forward z c (either y ys z (f z (later x xs z c)))) (λ z c. backward z c (either x xs z (g z (later y ys z c)))))
  where
    by : (y ≡ x) ⊎ Contains ys x → (x ≡ y) ⊎ Contains xs y → x ≡ y
    by (inl e) d = sym e
    by (inr c) (inl e) = e
    by (inr c) (inr d) = absurd (never x y (first_before R x xs y p d) (first_before R y ys x q c))

    same : x ≡ y
    same = by (either y ys x (f x (here x xs))) (either x xs y (g y (here y ys)))

    forward : (z : _) → Contains xs z → (y ≡ z) ⊎ Contains ys z → Contains ys z
    forward z c (inr d) = d
    forward z c (inl e) =
        let r = first_before R x xs z p c in
        let s = subst (λ w. R w z) (same ∙ e) r in
        absurd (never z z s s)

    backward : (z : _) → Contains ys z → (x ≡ z) ⊎ Contains xs z → Contains xs z
    backward z c (inr d) = d
    backward z c (inl e) =
        let r = first_before R y ys z q c in
        let s = subst (λ w. R w z) (sym same ∙ e) r in
        absurd (never z z s s)

-- ---- blocks

never_both : (b c : BlockValue) → IsBelow b c → IsBelow c b → ⊥
never_both b c p q = not_below_itself b.tuple (nat_list_cmp_total.trans b.tuple c.tuple b.tuple p q)

-- where some entry is not 0, its values lie in a block that is there
block_there : (ls : List LegValue) (bs : List BlockValue) (xs : List ℕ) → entry_in ls bs xs ≢ zero_g → (b : BlockValue) × Contains bs b × (b.tuple ≡ sectors_at ls xs)
block_there ls [] xs n = absurd (n refl)
block_there ls (b ∷ bs) xs n = by (same_values b.tuple (sectors_at ls xs)) refl n (block_there ls bs xs)
  where
    by : (s : Bool) → same_values b.tuple (sectors_at ls xs) ≡ s → cond s (get_or b.entries (offset_at ls xs) zero_g) (entry_in ls bs xs) ≢ zero_g → (entry_in ls bs xs ≢ zero_g → (c : BlockValue) × Contains bs c × (c.tuple ≡ sectors_at ls xs)) →
        (c : BlockValue) × Contains (b ∷ bs) c × (c.tuple ≡ sectors_at ls xs)
    by true e m more = (b, here b bs, same_values-equal b.tuple (sectors_at ls xs) e)
    by false e m more = let r = more m in (r.0, later b bs r.0 r.1, r.2)

-- a block that is filled has an entry that is not 0
some_entry : (b : BlockValue) → is_filled b ≡ true → (o : ℕ) × (o < length b.entries) × (get_or b.entries o zero_g ≢ zero_g)
some_entry b e =
    let a = Any-from_list_any (λ z. not (is_zero z)) b.entries e in
    let k = a.0 in
    let z = a.1 in
    (k, a.2, λ q. absurd (false≢true (sym (ap not (zero_back z (sym a.3 ∙ (get_or_default b.entries k z zero_g a.2 ∙ q)))) ∙ a.4)))

-- its blocks are those of its entries that are not all zeros
pub blocks_by_entries : (t : BlockedValue) (entry : List ℕ → Gaussian) → IsBlocked t → All (λ b. is_filled b ≡ true) t.blocks →
    ((xs : List ℕ) → IsValues t.legs xs → entry_of (tensor_of t) xs ≡ entry xs) → t.blocks ≡ filter is_filled (all_blocks entry t.legs (admitted t.group t.legs t.flux))
blocks_by_entries t entry h filled same = equal_in_order IsBelow never_both t.blocks (filter is_filled (map make ts)) (to_pairs t.blocks h.ascending) (AllPairs-filter IsBelow is_filled (map make ts) made_ascend) forward backward
  where
    ts : List (List ℕ)
    ts = admitted t.group t.legs t.flux

    make : List ℕ → BlockValue
    make s = block_of entry t.legs s

    made_ascend : AllPairs IsBelow (map make ts)
    made_ascend i j d lt h2 =
        let count : length (map make ts) ≡ length ts = length-map ts make in
        subst (λ (b : BlockValue). IsBelow b (get_or (map make ts) j d)) (sym (get_or-map make ts i [] d (omega (arith, lt, h2, count))))
        (subst (λ (c : BlockValue). IsBelow (make (get_or ts i [])) c) (sym (get_or-map make ts j [] d (omega (arith, h2, count)))) (admitted_ascend t.group t.legs t.flux i j lt (omega (arith, h2, count))))

    -- a block that is there is the one of the entries
    is_made : (b : BlockValue) → Contains t.blocks b → b ≡ make b.tuple
    is_made b c =
        let k : IsBlock t.group t.legs t.flux b = subst (IsBlock t.group t.legs t.flux) c.2 (h.blocks c.0 b c.1) in
        let n = block_size t.legs b.tuple in
        let made : List Gaussian = map (λ o. entry (values_at t.legs b.tuple o)) (positions n) in
        let entries : b.entries ≡ made = ext_get_or zero_g b.entries made (k.full ∙ sym (length-map-range_with_len (λ o. entry (values_at t.legs b.tuple o)) 0 n))
        (λ o lt.
        let below : o < n = omega (arith, lt, k.full) in
        let v = values_in t.legs b.tuple o k.tuple below in
        let at = back t.legs b.tuple o k.tuple below in
        let e = entry_of_block t (values_at t.legs b.tuple o) b h v c (sym at.sectors) in
        ap (λ i. get_or b.entries i zero_g) (sym at.offset) ∙ (sym e.entry ∙ (same (values_at t.legs b.tuple o) v ∙ sym (entry_made o n below b.tuple)))) in
        ap (λ es. record { tuple = b.tuple; entries = es }) entries
      where
        entry_made : (o n : ℕ) → o < n → (s : List ℕ) → get_or (map (λ i. entry (values_at t.legs s i)) (positions n)) o zero_g ≡ entry (values_at t.legs s o)
        entry_made o n lt s = get_or-map-range_with_len (λ i. entry (values_at t.legs s i)) 0 n o o zero_g lt (omega arith)

    forward : (b : BlockValue) → Contains t.blocks b → Contains (filter is_filled (map make ts)) b
    forward b c =
        let k : IsBlock t.group t.legs t.flux b = subst (IsBlock t.group t.legs t.flux) c.2 (h.blocks c.0 b c.1) in
        let there = contained_map make ts b.tuple (listed t.group t.legs t.flux b.tuple (record { tuple = k.tuple; flux = k.flux })) in
        keeps is_filled (map make ts) b (subst (Contains (map make ts)) (sym (is_made b c)) there) (subst (λ (d : BlockValue). is_filled d ≡ true) c.2 (filled c.0 b c.1))

    backward : (b : BlockValue) → Contains (filter is_filled (map make ts)) b → Contains t.blocks b
    backward b c =
        let parts = kept_from is_filled (map make ts) b c in
        let from = mapped_from make ts b parts.0 in
        let s = from.0 in
        let admissible = unlisted t.group t.legs t.flux s from.1 in
        let filled_made : is_filled (make s) ≡ true = ap is_filled from.2 ∙ parts.1 in
        let some = some_entry (make s) filled_made in
        let o = some.0 in
        let below : o < block_size t.legs s = omega (arith, some.1, length-map-range_with_len (λ i. entry (values_at t.legs s i)) 0 (block_size t.legs s)) in
        let v = values_in t.legs s o admissible.tuple below in
        let at = back t.legs s o admissible.tuple below in
        let not_zero : entry_in t.legs t.blocks (values_at t.legs s o) ≢ zero_g = λ z. some.2 (entry_at s o below ∙ (sym (same (values_at t.legs s o) v) ∙ (by_blocks t (values_at t.legs s o) h v ∙ z))) in
        let found = block_there t.legs t.blocks (values_at t.legs s o) not_zero in
        let there : Contains t.blocks found.0 = found.1 in
        subst (Contains t.blocks) (is_made found.0 there ∙ (ap make (found.2 ∙ at.sectors) ∙ from.2)) there
      where
        entry_at : (s : List ℕ) (o : ℕ) → o < block_size t.legs s → get_or (make s).entries o zero_g ≡ entry (values_at t.legs s o)
        entry_at s o lt = get_or-map-range_with_len (λ i. entry (values_at t.legs s i)) 0 (block_size t.legs s) o o zero_g lt (omega arith)
