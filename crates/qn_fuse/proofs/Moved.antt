-- The entries of fused blocks and of split ones.
use Rattle.std.proofs.Common.{◌≡◌, ℕ, zero, suc, ◌+◌, ◌*◌, ◌≤◌, ◌<◌, List, [], ◌∷◌, ◌++◌, length, get_or, drop, map, flat_map, true, arith, refl, ap, ap₂, ◌∙◌, sym, subst}
use Rattle.std.specs.List.{All}
use Rattle.std.proofs.Math.Nat.{add-mul, mul-le-mul_right}
use Rattle.std.proofs.lemmas.List.{length-map}
use Rattle.std.proofs.lemmas.Bool.{false≢true}
use Rattle.std.proofs.lemmas.List.Elements.{All-nil, All-cons, All-append}
use Rattle.qn_gauss.specs.Gaussian.{Gaussian, zero_g}
use Rattle.qn_index.specs.Legs.{LegValue, sector_at, before}
use Rattle.qn_index.specs.Tuples.{IsTuple, upward}
use Rattle.qn_index.specs.Places.{IsValues, values_at, block_size}
use Rattle.qn_index.proofs.Places.{values_in as in_range}
use Rattle.qn_value.specs.Tensors.{entry_of}
use Rattle.qn_value.proofs.Values.{same_values-equal}
use Rattle.qn_value.proofs.RowsLemmas.{append_parts}
use Rattle.qn_block.specs.Blocked.{BlockedValue, IsBlocked, tensor_of}
use Rattle.qn_block.specs.Combiners.{CombinerValue, IsCombiner, fused_leg, fused_values, values_in, stands_at}
use Rattle.qn_block.proofs.Lookup.{values_length}
use Rattle.qn_block.proofs.Rows.{same_from}
use Rattle.qn_block.proofs.Partition.{values_long}
use Rattle.qn_block.proofs.Located.{values_total}
use Rattle.qn_block.proofs.TableRows.{is_matching}
use Rattle.qn_fuse.specs.Fused.{wide_legs, narrow_legs}
use Rattle.qn_fuse.specs.Pieces.{entries_at, piece, row, source, tuples_in, IsFusedEntry, IsSplitEntry}
use Rattle.qn_fuse.proofs.Flat.{map-map, map-flat, flat-map, flat_upward, at_upward, get_map}
use Rattle.qn_fuse.proofs.Joined.{size-append}
use Rattle.qn_fuse.proofs.Widened.{flat_all, widened, widened_at, fused_order, split_order}
use Rattle.qn_fuse.proofs.Stored.{piece_is}

-- what stands at a place
pub stands_is : (uss : List (List ℕ)) (w : ℕ) (vs : List ℕ) → stands_at uss w vs ≡ true → get_or uss w [] ≡ vs
stands_is [] w vs h = absurd (false≢true h)
stands_is (us ∷ uss) zero vs h = same_values-equal us vs h
stands_is (us ∷ uss) (suc w) vs h = stands_is uss w vs h

pub stands_there : (uss : List (List ℕ)) (w : ℕ) → w < length uss → stands_at uss w (get_or uss w []) ≡ true
stands_there [] w lt = absurd (omega arith)
stands_there (us ∷ uss) zero lt = same_from us us refl
stands_there (us ∷ uss) (suc w) lt = stands_there uss w (omega arith)

-- values of legs, taken apart
pub values_parts : (ks ls : List LegValue) (xs : List ℕ) → IsValues (ks ++ ls) xs → (ps : List ℕ) × (us : List ℕ) × (xs ≡ ps ++ us) × (length ps ≡ length ks) × IsValues ks ps × IsValues ls us
values_parts [] ls xs h = ([], xs, refl, refl, refl, h)
values_parts (k ∷ ks) ls [] h = absurd h
values_parts (k ∷ ks) ls (x ∷ xs) h =
    let r = values_parts ks ls xs h.1 in
    (x ∷ r.0, r.1, ap (λ ys. x ∷ ys) r.2, ap suc r.3, (h.0, r.4), r.5)

pub values_joined : (ks ls : List LegValue) (ps us : List ℕ) → IsValues ks ps → IsValues ls us → IsValues (ks ++ ls) (ps ++ us)
values_joined [] ls ps us h k = subst (λ ys. IsValues ls (ys ++ us)) (sym h) k
values_joined (l ∷ ks) ls [] us h k = absurd h
values_joined (l ∷ ks) ls (p ∷ ps) us h k = (h.0, values_joined ks ls ps us h.1 k)

all_flat : {A : Type 0} (P : A → Type 0) (f : ℕ → List A) (i n : ℕ) → ((k : ℕ) → i ≤ k → k < i + n → All P (f k)) → All P (flat_map f (upward i n))
all_flat P f i zero h = All-nil P
all_flat P f i (suc n) h = All-append P (f i) (flat_map f (upward (i + 1) n)) (h i (omega arith) (omega arith)) (all_flat P f (i + 1) n (λ k l u. h k (omega arith) (omega arith)))

all_mapped : {A : Type 0} (P : A → Type 0) (f : ℕ → A) (i n : ℕ) → ((k : ℕ) → i ≤ k → k < i + n → P (f k)) → All P (map f (upward i n))
all_mapped P f i zero h = All-nil P
all_mapped P f i (suc n) h = All-cons P (f i) (map f (upward (i + 1) n)) (h i (omega arith) (omega arith)) (all_mapped P f (i + 1) n (λ j l u. h j (omega arith) (omega arith)))

-- row by row, a place is in the block
pub in_rows : (i m n start len : ℕ) → i < m → start + len ≤ n → i * n + start + len ≤ m * n
in_rows i m n start len lt fits =
    let e : (i + 1) * n ≡ i * n + 1 * n = add-mul i 1 n in
    let l : (i + 1) * n ≤ m * n = mul-le-mul_right n (omega arith) in
    omega (arith, e, l)

module _ (c : CombinerValue) (hc : IsCombiner c) (A B : List LegValue) (a b : List ℕ) (la : length a ≡ length A) where
  abbrev f : LegValue
  f = fused_leg c.group c.legs c.arrow

  abbrev F : List (List ℕ)
  F = fused_values c.group c.legs c.arrow

  -- ---- fused

  module _ (t : BlockedValue) (h : IsBlocked t) (legs : t.legs ≡ wide_legs c A B) (w : ℕ) (there : w < length f.sectors)
      (tuples : All (λ s. IsTuple (wide_legs c A B) (a ++ (s ++ b))) (tuples_in c w)) (long : All (λ s. length s ≡ length c.legs) (tuples_in c w)) where
    abbrev E : List ℕ → Gaussian
    E = entry_of (tensor_of t)

    abbrev size : List ℕ → ℕ
    size s = block_size (c.legs ++ B) (s ++ b)

    -- the blocks are read row by row
    pub fused_read : (src : List ℕ → _) → ((s : List ℕ) → src s ≡ source t (length A) a b s) →
        flat_map (row (map src (tuples_in c w))) (upward 0 (block_size A a)) ≡ map E (map (widened c (length A)) (values_in (narrow_legs c A B) (a ++ (w ∷ b))))
    fused_read src same =
        flat_upward _ _ 0 (block_size A a) (λ i l u. at i u)
        ∙ sym (map-flat E (λ i. flat_map (λ s. map (values_at (wide_legs c A B) (a ++ (s ++ b))) (upward (i * size s) (size s))) (tuples_in c w)) (upward 0 (block_size A a)))
        ∙ ap (map E) (sym (fused_order c A B a b la w there long))
      where
        behind : drop (length A) t.legs ≡ c.legs ++ B
        behind = ap (drop (length A)) legs ∙ drop_front A (c.legs ++ B)
          where
            drop_front : (ks ls : List LegValue) → drop (length ks) (ks ++ ls) ≡ ls
            drop_front [] ls = refl
            drop_front (k ∷ ks) ls = drop_front ks ls

        len : (s : List ℕ) → (src s).len ≡ size s
        len s = ap (λ x. x.len) (same s) ∙ ap (λ ks. block_size ks (s ++ b)) behind

        entries : (s : List ℕ) → (src s).entries ≡ entries_at t.blocks (a ++ (s ++ b))
        entries s = ap (λ x. x.entries) (same s)

        at : (i : ℕ) → i < 0 + block_size A a → row (map src (tuples_in c w)) i ≡ map E (flat_map (λ s. map (values_at (wide_legs c A B) (a ++ (s ++ b))) (upward (i * size s) (size s))) (tuples_in c w))
        at i u =
            flat-map (λ x. piece x.entries (i * x.len) x.len) src (tuples_in c w)
            ∙ flat_all (λ s. IsTuple (wide_legs c A B) (a ++ (s ++ b))) _ _ (tuples_in c w) tuples (λ s v.
            ap₂ (λ es n. piece es (i * n) n) (entries s) (len s)
            ∙ piece_is t (wide_legs c A B) (a ++ (s ++ b)) (i * size s) (size s) h legs v
            (subst (λ n. i * size s + size s ≤ n) (sym (size-append A (c.legs ++ B) a (s ++ b) la)) (whole_row i (block_size A a) (size s) (omega arith))))
            ∙ sym (map-flat E (λ s. map (values_at (wide_legs c A B) (a ++ (s ++ b))) (upward (i * size s) (size s))) (tuples_in c w))
          where
            whole_row : (i m n : ℕ) → i < m → i * n + n ≤ m * n
            whole_row i m n lt = let l = in_rows i m n 0 n lt (omega arith) in omega (arith, l)

    -- each entry is that at the values which match
    pub fused_entry : (es : List Gaussian) (o : ℕ) → es ≡ map E (map (widened c (length A)) (values_in (narrow_legs c A B) (a ++ (w ∷ b)))) →
        o < block_size (narrow_legs c A B) (a ++ (w ∷ b)) → IsFusedEntry c (length A) (tensor_of t) (values_at (narrow_legs c A B) (a ++ (w ∷ b)) o) (get_or es o zero_g)
    fused_entry es o e lt ps us qs v lp st is =
        let xs = values_at (narrow_legs c A B) (a ++ (w ∷ b)) o in
        let n = block_size (narrow_legs c A B) (a ++ (w ∷ b)) in
        ap (λ zs. get_or zs o zero_g) (e ∙ map-map E (widened c (length A)) (values_in (narrow_legs c A B) (a ++ (w ∷ b))) ∙ map-map (λ ys. E (widened c (length A) ys)) (values_at (narrow_legs c A B) (a ++ (w ∷ b))) (upward 0 n))
        ∙ at_upward (λ k. E (widened c (length A) (values_at (narrow_legs c A B) (a ++ (w ∷ b)) k))) 0 n o zero_g lt
        ∙ ap (λ k. E (widened c (length A) (values_at (narrow_legs c A B) (a ++ (w ∷ b)) k))) (plain o)
        ∙ ap (λ ys. E (widened c (length A) ys)) is
        ∙ ap (λ k. E (widened c k (ps ++ (v ∷ qs)))) (sym lp)
        ∙ ap E (widened_at c ps qs v ∙ ap (λ ys. ps ++ (ys ++ qs)) (stands_is F v us st))
      where
        plain : (o : ℕ) → 0 + o ≡ o
        plain o = omega arith

  pub fused_long : (E : List ℕ → Gaussian) (w : ℕ) → length (map E (map (widened c (length A)) (values_in (narrow_legs c A B) (a ++ (w ∷ b))))) ≡ block_size (narrow_legs c A B) (a ++ (w ∷ b))
  fused_long E w =
      length-map (map (widened c (length A)) (values_in (narrow_legs c A B) (a ++ (w ∷ b)))) E ∙ length-map (values_in (narrow_legs c A B) (a ++ (w ∷ b))) (widened c (length A))
      ∙ values_long (narrow_legs c A B) (a ++ (w ∷ b))

  -- ---- split

  module _ (t : BlockedValue) (h : IsBlocked t) (legs : t.legs ≡ narrow_legs c A B) (s : List ℕ) (w off : ℕ) (tuple : IsTuple (narrow_legs c A B) (a ++ (w ∷ b)))
      (long : length s ≡ length c.legs) (fits : off + block_size c.legs s ≤ (sector_at f.sectors w).dim)
      (match : (o : ℕ) → o < block_size c.legs s → stands_at F (before f.sectors w + (off + o)) (values_at c.legs s o) ≡ true) where
    abbrev G : List ℕ → Gaussian
    G = entry_of (tensor_of t)

    abbrev width : ℕ
    width = block_size (f ∷ B) (w ∷ b)

    abbrev start : ℕ
    start = off * block_size B b

    abbrev len : ℕ
    len = block_size c.legs s * block_size B b

    -- the values at which the entries stood
    abbrev came : List (List ℕ)
    came = flat_map (λ i. map (values_at (narrow_legs c A B) (a ++ (w ∷ b))) (upward (i * width + start) len)) (upward 0 (block_size A a))

    pub inside : start + len ≤ width
    inside =
        let e : (off + block_size c.legs s) * block_size B b ≡ off * block_size B b + block_size c.legs s * block_size B b = add-mul off (block_size c.legs s) (block_size B b) in
        let l : (off + block_size c.legs s) * block_size B b ≤ (sector_at f.sectors w).dim * block_size B b = mul-le-mul_right (block_size B b) fits in
        omega (arith, e, l)

    within : (i : ℕ) → i < 0 + block_size A a → i * width + start + len ≤ block_size (narrow_legs c A B) (a ++ (w ∷ b))
    within i lt = subst (λ n. i * width + start + len ≤ n) (sym (size-append A (f ∷ B) a (w ∷ b) la)) (in_rows i (block_size A a) width start len (omega arith) inside)

    pub split_read : flat_map (λ i. piece (entries_at t.blocks (a ++ (w ∷ b))) (i * width + start) len) (upward 0 (block_size A a)) ≡ map G came
    split_read =
        flat_upward _ _ 0 (block_size A a) (λ i l u. piece_is t (narrow_legs c A B) (a ++ (w ∷ b)) (i * width + start) len h legs tuple (within i u))
        ∙ sym (map-flat G (λ i. map (values_at (narrow_legs c A B) (a ++ (w ∷ b))) (upward (i * width + start) len)) (upward 0 (block_size A a)))

    went : map (widened c (length A)) came ≡ values_in (wide_legs c A B) (a ++ (s ++ b))
    went = split_order c A B a b la s w off long fits (λ o lt. stands_is F _ _ (match o lt))

    came_long : length came ≡ block_size (wide_legs c A B) (a ++ (s ++ b))
    came_long = sym (length-map came (widened c (length A))) ∙ ap length went ∙ values_long (wide_legs c A B) (a ++ (s ++ b))

    pub split_long : length (map G came) ≡ block_size (wide_legs c A B) (a ++ (s ++ b))
    split_long = length-map came G ∙ came_long

    came_in : All (IsValues (narrow_legs c A B)) came
    came_in =
        all_flat (IsValues (narrow_legs c A B)) (λ i. map (values_at (narrow_legs c A B) (a ++ (w ∷ b))) (upward (i * width + start) len)) 0 (block_size A a) (λ i l u.
        all_mapped (IsValues (narrow_legs c A B)) (values_at (narrow_legs c A B) (a ++ (w ∷ b))) (i * width + start) len (λ k x y.
        in_range (narrow_legs c A B) (a ++ (w ∷ b)) k tuple (omega (arith, within i u))))

    pub split_entry : (es : List Gaussian) (o : ℕ) → es ≡ map G came → o < block_size (wide_legs c A B) (a ++ (s ++ b)) →
        IsSplitEntry c (length A) (tensor_of t) (values_at (wide_legs c A B) (a ++ (s ++ b)) o) (get_or es o zero_g)
    split_entry es o e lt ps us qs v lp st is =
        let m = is_matching c hc in
        let ys = get_or came o [] in
        let many : o < length came = subst (λ n. o < n) (sym came_long) lt in
        let r = values_parts A (f ∷ B) ys (came_in o [] many) in
        rest r.0 r.1 ys many refl r.2 r.3 r.5
      where
        n : ℕ
        n = block_size (wide_legs c A B) (a ++ (s ++ b))

        plain : (o : ℕ) → 0 + o ≡ o
        plain o = omega arith

        wide : (ys : List ℕ) → o < length came → ys ≡ get_or came o [] → widened c (length A) ys ≡ values_at (wide_legs c A B) (a ++ (s ++ b)) o
        wide ys many q =
            ap (widened c (length A)) q ∙ sym (get_map (widened c (length A)) came o [] [] many) ∙ ap (λ yss. get_or yss o []) went
            ∙ at_upward (values_at (wide_legs c A B) (a ++ (s ++ b))) 0 n o [] lt ∙ ap (values_at (wide_legs c A B) (a ++ (s ++ b))) (plain o)

        rest : (p k ys : List ℕ) → o < length came → ys ≡ get_or came o [] → ys ≡ p ++ k → length p ≡ length A → IsValues (f ∷ B) k → get_or es o zero_g ≡ G (ps ++ (v ∷ qs))
        rest p [] ys many q d lk hk = absurd hk
        rest p (x ∷ k) ys many q d lk hk =
            let mt = is_matching c hc in
            let below : x < length F = omega (arith, hk.0, values_total c.group c.legs c.arrow) in
            let sx : stands_at F x (get_or F x []) ≡ true = stands_there F x below in
            let joined : p ++ (get_or F x [] ++ k) ≡ ps ++ (us ++ qs) =
            sym (ap (λ j. widened c j (p ++ (x ∷ k))) (sym lk) ∙ widened_at c p k x) ∙ ap (widened c (length A)) (sym d) ∙ wide ys many q ∙ is in
            let one = append_parts p (get_or F x [] ++ k) ps (us ++ qs) (lk ∙ sym lp) joined in
            let two = append_parts (get_or F x []) k us qs (values_length c.legs (get_or F x []) (mt.values x (get_or F x []) sx) ∙ sym (values_length c.legs us (mt.values v us st))) one.1 in
            let same : x ≡ v = mt.one x v us (ap (λ zs. stands_at F x zs) (sym two.0) ∙ sx) st in
            ap (λ zs. get_or zs o zero_g) e ∙ get_map G came o [] zero_g many ∙ ap G (sym q ∙ d ∙ ap₂ ◌++◌ one.0 (ap₂ ◌∷◌ same two.1))
