-- The values of the fused leg and those of the combiner's legs, in the order in which they stand in blocks.
use Rattle.std.proofs.Common.{◌≡◌, ℕ, ℤ, zero, suc, ◌+◌, ◌*◌, ◌/◌, ◌≤◌, ◌<◌, List, [], ◌∷◌, ◌++◌, length, get_or, take, drop, map, flat_map, arith, refl, ap, ap₂, ◌∙◌, sym}
use Rattle.std.specs.List.{All}
use Rattle.std.proofs.Math.Nat.{add-mul, mul-le-mul_right}
use Rattle.std.proofs.lemmas.List.{length-append, length-map}
use Rattle.std.proofs.lemmas.List.Concat.{get_or-flat_map}
use Rattle.qn_charge.specs.declared.factor.Factor.{Factor}
use Rattle.qn_index.specs.declared.leg.Dir.{Dir}
use Rattle.qn_index.specs.Legs.{LegValue, SectorValue, sector_at, before}
use Rattle.qn_index.specs.Tuples.{upward}
use Rattle.qn_index.specs.Places.{block_size, values_at}
use Rattle.qn_block.specs.Combiners.{CombinerValue, fused_leg, fused_sectors, fused_values, fused_charges, sector_with, values_in, values_with}
use Rattle.qn_fuse.specs.Fused.{wide_legs, narrow_legs}
use Rattle.qn_fuse.specs.Pieces.{tuples_in}
use Rattle.qn_fuse.proofs.Flat.{map-map, map-flat, flat-map, flat-flat, map_same, map_upward, flat_upward, upward_shift, get_map, read_all}
use Rattle.qn_fuse.proofs.Joined.{piece_values, rows_values, joined_values}

pub flat_all : {A B : Type 0} (P : A → Type 0) (f g : A → List B) (xs : List A) → All P xs → ((x : A) → P x → f x ≡ g x) → flat_map f xs ≡ flat_map g xs
flat_all P f g [] p h = refl
flat_all P f g (x ∷ xs) p h = ap₂ ◌++◌ (h x (p 0 x (omega arith))) (flat_all P f g xs (λ k d lt. p (suc k) d (omega arith)) h)

pub values_count : (ls : List LegValue) (t : List ℕ) (o : ℕ) → length t ≡ length ls → length (values_at ls t o) ≡ length ls
values_count [] t o h = refl
values_count (l ∷ ls) [] o h = absurd (omega arith)
values_count (l ∷ ls) (s ∷ ss) o h = ap suc (values_count ls ss _ (omega arith))

-- the values of the combiner's legs in the place of the value that stands at this place
abbrev pub widened : CombinerValue → ℕ → List ℕ → List ℕ
widened c first xs = take first xs ++ (get_or (fused_values c.group c.legs c.arrow) (get_or xs first 0) [] ++ drop (first + 1) xs)

pub widened_at : (c : CombinerValue) (ps qs : List ℕ) (v : ℕ) → widened c (length ps) (ps ++ (v ∷ qs)) ≡ ps ++ (get_or (fused_values c.group c.legs c.arrow) v [] ++ qs)
widened_at c [] qs v = refl
widened_at c (p ∷ ps) qs v =
    ap (λ n. (p ∷ take (length ps) (ps ++ (v ∷ qs))) ++ (get_or (fused_values c.group c.legs c.arrow) (get_or (ps ++ (v ∷ qs)) (length ps) 0) [] ++ drop n (p ∷ (ps ++ (v ∷ qs))))) (one (length ps))
    ∙ ap (λ ys. p ∷ ys) (widened_at c ps qs v)
  where
    one : (n : ℕ) → suc n + 1 ≡ suc (n + 1)
    one n = omega arith

-- the values at the ends of lists stay
pub core : (c : CombinerValue) (pa : List ℕ) (vb : List (List ℕ)) (vs : List ℕ) →
    map (widened c (length pa)) (map (λ ys. pa ++ ys) (flat_map (λ us. map (λ ys. us ++ ys) vb) (map (λ v. v ∷ []) vs)))
    ≡ map (λ ys. pa ++ ys) (flat_map (λ us. map (λ ys. us ++ ys) vb) (map (λ v. get_or (fused_values c.group c.legs c.arrow) v []) vs))
core c pa vb [] = refl
core c pa vb (v ∷ vs) =
    ap (λ ys. map (widened c (length pa)) ys) (map-append (λ ys. pa ++ ys) (map (λ ys. v ∷ ys) vb) (flat_map (λ us. map (λ ys. us ++ ys) vb) (map (λ v. v ∷ []) vs)))
    ∙ map-append (widened c (length pa)) (map (λ ys. pa ++ ys) (map (λ ys. v ∷ ys) vb)) (map (λ ys. pa ++ ys) (flat_map (λ us. map (λ ys. us ++ ys) vb) (map (λ v. v ∷ []) vs)))
    ∙ ap₂ ◌++◌
    (ap (map (widened c (length pa))) (map-map (λ ys. pa ++ ys) (λ ys. v ∷ ys) vb) ∙ map-map (widened c (length pa)) (λ ys. pa ++ (v ∷ ys)) vb
    ∙ map_same (λ ys. widened c (length pa) (pa ++ (v ∷ ys))) (λ ys. pa ++ (get_or (fused_values c.group c.legs c.arrow) v [] ++ ys)) vb (λ ys. widened_at c pa ys v)
    ∙ sym (map-map (λ ys. pa ++ ys) (λ ys. get_or (fused_values c.group c.legs c.arrow) v [] ++ ys) vb))
    (core c pa vb vs)
    ∙ sym (map-append (λ ys. pa ++ ys) (map (λ ys. get_or (fused_values c.group c.legs c.arrow) v [] ++ ys) vb)
    (flat_map (λ us. map (λ ys. us ++ ys) vb) (map (λ v. get_or (fused_values c.group c.legs c.arrow) v []) vs)))
  where
    map-append : {A B : Type 0} (f : A → B) (xs ys : List A) → map f (xs ++ ys) ≡ map f xs ++ map f ys
    map-append f [] ys = refl
    map-append f (x ∷ xs) ys = ap (λ zs. f x ∷ zs) (map-append f xs ys)

-- ---- the sectors of the fused leg

module _ (fs : List Factor) (ls : List LegValue) (arrow : Dir) where
  sectors_before : (cs : List (List ℤ)) (w : ℕ) → before (map (sector_with fs ls arrow) cs) w ≡ length (flat_map (values_with fs ls arrow) (take w cs))
  sectors_before cs zero = refl
  sectors_before [] (suc w) = refl
  sectors_before (d ∷ cs) (suc w) =
      ap (λ n. length (values_with fs ls arrow d) + n) (sectors_before cs w) ∙ sym (length-append (values_with fs ls arrow d) (flat_map (values_with fs ls arrow) (take w cs)))

  sector_is : (cs : List (List ℤ)) (w : ℕ) → w < length cs → sector_at (map (sector_with fs ls arrow) cs) w ≡ sector_with fs ls arrow (get_or cs w [])
  sector_is cs w lt = get_map (sector_with fs ls arrow) cs w [] _ lt

  slice_from : (cs : List (List ℤ)) (w : ℕ) → w < length cs →
      map (λ j. get_or (flat_map (values_with fs ls arrow) cs) (before (map (sector_with fs ls arrow) cs) w + j) []) (upward 0 (sector_at (map (sector_with fs ls arrow) cs) w).dim)
      ≡ values_with fs ls arrow (sector_at (map (sector_with fs ls arrow) cs) w).charge
  slice_from cs w lt =
      let vs : List (List ℕ) = values_with fs ls arrow (get_or cs w []) in
      let is : sector_at (map (sector_with fs ls arrow) cs) w ≡ sector_with fs ls arrow (get_or cs w []) = sector_is cs w lt in
      ap (λ (p : SectorValue). map (λ j. get_or (flat_map (values_with fs ls arrow) cs) (before (map (sector_with fs ls arrow) cs) w + j) []) (upward 0 p.dim)) is
      ∙ map_upward (λ j. get_or (flat_map (values_with fs ls arrow) cs) (before (map (sector_with fs ls arrow) cs) w + j) []) (λ j. get_or vs j []) 0 (length vs)
      (λ j l u. ap (λ n. get_or (flat_map (values_with fs ls arrow) cs) (n + j) []) (sectors_before cs w) ∙ get_or-flat_map (values_with fs ls arrow) cs w j [] [] lt (omega arith))
      ∙ read_all vs []
      ∙ ap (λ (p : SectorValue). values_with fs ls arrow p.charge) (sym is)

-- the values of a sector of the fused leg
pub slice : (c : CombinerValue) (w : ℕ) → w < length (fused_sectors c.group c.legs c.arrow) →
    map (λ v. get_or (fused_values c.group c.legs c.arrow) v []) (map (λ j. before (fused_sectors c.group c.legs c.arrow) w + j) (upward 0 (sector_at (fused_sectors c.group c.legs c.arrow) w).dim))
    ≡ flat_map (values_in c.legs) (tuples_in c w)
slice c w lt =
    map-map (λ v. get_or (fused_values c.group c.legs c.arrow) v []) (λ j. before (fused_sectors c.group c.legs c.arrow) w + j) (upward 0 (sector_at (fused_sectors c.group c.legs c.arrow) w).dim)
    ∙ slice_from c.group c.legs c.arrow (fused_charges c.group c.legs c.arrow) w (omega (arith, lt, length-map (fused_charges c.group c.legs c.arrow) (sector_with c.group c.legs c.arrow)))

-- the values of one leg
single_values : (l : LegValue) (w i n : ℕ) → map (values_at (l ∷ []) (w ∷ [])) (upward i n) ≡ map (λ v. v ∷ []) (map (λ j. before l.sectors w + j) (upward i n))
single_values l w i n =
    map_same (values_at (l ∷ []) (w ∷ [])) (λ j. (before l.sectors w + j) ∷ []) (upward i n) (λ j. ap (λ k. (before l.sectors w + k) ∷ []) (over_one j))
    ∙ sym (map-map (λ v. v ∷ []) (λ j. before l.sectors w + j) (upward i n))
  where
    over_one : (j : ℕ) → j / 1 ≡ j
    over_one j = omega arith

module _ (c : CombinerValue) (A B : List LegValue) (a b : List ℕ) (la : length a ≡ length A) where
  abbrev f : LegValue
  f = fused_leg c.group c.legs c.arrow

  abbrev F : List (List ℕ)
  F = fused_values c.group c.legs c.arrow

  abbrev vb : List (List ℕ)
  vb = values_in B b

  -- the values of the legs behind
  abbrev with_rest : List (List ℕ) → List (List ℕ)
  with_rest uss = flat_map (λ us. map (λ ys. us ++ ys) vb) uss

  core_at : (i : ℕ) (vs : List ℕ) → map (widened c (length A)) (map (λ ys. values_at A a i ++ ys) (with_rest (map (λ v. v ∷ []) vs))) ≡ map (λ ys. values_at A a i ++ ys) (with_rest (map (λ v. get_or F v []) vs))
  core_at i vs =
      ap (λ n. map (widened c n) (map (λ ys. values_at A a i ++ ys) (with_rest (map (λ v. v ∷ []) vs)))) (sym (values_count A a i la))
      ∙ core c (values_at A a i) vb vs

  narrow_row : (w off n : ℕ) → off + n ≤ (sector_at f.sectors w).dim →
      map (values_at (f ∷ B) (w ∷ b)) (upward (off * block_size B b) (n * block_size B b)) ≡ with_rest (map (λ v. v ∷ []) (map (λ j. before f.sectors w + j) (upward off n)))
  narrow_row w off n fits =
      rows_values (f ∷ []) B (w ∷ []) b off n refl (omega arith)
      ∙ ap with_rest (single_values f w off n)

  -- the values at which the entries of a fused block stand
  pub fused_order : (w : ℕ) → w < length f.sectors → All (λ s. length s ≡ length c.legs) (tuples_in c w) →
      map (widened c (length A)) (values_in (narrow_legs c A B) (a ++ (w ∷ b)))
      ≡ flat_map (λ i. flat_map (λ s. map (values_at (wide_legs c A B) (a ++ (s ++ b))) (upward (i * block_size (c.legs ++ B) (s ++ b)) (block_size (c.legs ++ B) (s ++ b)))) (tuples_in c w)) (upward 0 (block_size A a))
  fused_order w lt long =
      ap (map (widened c (length A))) (joined_values A (f ∷ B) a (w ∷ b) la ∙ flat-map (λ us. map (λ ys. us ++ ys) (values_in (f ∷ B) (w ∷ b))) (values_at A a) (upward 0 (block_size A a)))
      ∙ map-flat (widened c (length A)) (λ i. map (λ ys. values_at A a i ++ ys) (values_in (f ∷ B) (w ∷ b))) (upward 0 (block_size A a))
      ∙ flat_upward _ _ 0 (block_size A a) (λ i l u. row i u)
    where
      whole : values_in (f ∷ B) (w ∷ b) ≡ with_rest (map (λ v. v ∷ []) (map (λ j. before f.sectors w + j) (upward 0 (sector_at f.sectors w).dim)))
      whole = ap (λ m. map (values_at (f ∷ B) (w ∷ b)) (upward m ((sector_at f.sectors w).dim * block_size B b))) (nothing (block_size B b)) ∙ narrow_row w 0 (sector_at f.sectors w).dim (omega arith)
        where
          nothing : (n : ℕ) → 0 ≡ 0 * n
          nothing n = omega arith

      row : (i : ℕ) → i < 0 + block_size A a → map (widened c (length A)) (map (λ ys. values_at A a i ++ ys) (values_in (f ∷ B) (w ∷ b)))
          ≡ flat_map (λ s. map (values_at (wide_legs c A B) (a ++ (s ++ b))) (upward (i * block_size (c.legs ++ B) (s ++ b)) (block_size (c.legs ++ B) (s ++ b)))) (tuples_in c w)
      row i u =
          ap (λ yss. map (widened c (length A)) (map (λ ys. values_at A a i ++ ys) yss)) whole
          ∙ core_at i (map (λ j. before f.sectors w + j) (upward 0 (sector_at f.sectors w).dim))
          ∙ ap (λ uss. map (λ ys. values_at A a i ++ ys) (with_rest uss)) (slice c w lt)
          ∙ ap (map (λ ys. values_at A a i ++ ys)) (flat-flat (λ us. map (λ ys. us ++ ys) vb) (values_in c.legs) (tuples_in c w))
          ∙ map-flat (λ ys. values_at A a i ++ ys) (λ s. with_rest (values_in c.legs s)) (tuples_in c w)
          ∙ sym (flat_all (λ s. length s ≡ length c.legs) _ _ (tuples_in c w) long (λ s e.
          ap (λ m. map (values_at (wide_legs c A B) (a ++ (s ++ b))) (upward m (block_size (c.legs ++ B) (s ++ b)))) (plain (i * block_size (c.legs ++ B) (s ++ b)))
          ∙ piece_values A (c.legs ++ B) a (s ++ b) i 0 (block_size (c.legs ++ B) (s ++ b)) la (omega arith) (omega arith)
          ∙ ap (map (λ ys. values_at A a i ++ ys)) (joined_values c.legs B s b e)))
        where
          plain : (m : ℕ) → m ≡ m + 0
          plain m = omega arith

  -- the values at which the entries of a split block stood before
  pub split_order : (s : List ℕ) (w off : ℕ) → length s ≡ length c.legs → off + block_size c.legs s ≤ (sector_at f.sectors w).dim →
      ((o : ℕ) → o < block_size c.legs s → get_or F (before f.sectors w + (off + o)) [] ≡ values_at c.legs s o) →
      map (widened c (length A)) (flat_map (λ i. map (values_at (narrow_legs c A B) (a ++ (w ∷ b))) (upward (i * block_size (f ∷ B) (w ∷ b) + off * block_size B b) (block_size c.legs s * block_size B b))) (upward 0 (block_size A a)))
      ≡ values_in (wide_legs c A B) (a ++ (s ++ b))
  split_order s w off e fits match =
      map-flat (widened c (length A)) (λ i. map (values_at (narrow_legs c A B) (a ++ (w ∷ b))) (upward (i * block_size (f ∷ B) (w ∷ b) + off * block_size B b) (block_size c.legs s * block_size B b))) (upward 0 (block_size A a))
      ∙ flat_upward _ _ 0 (block_size A a) (λ i l u. row i u)
      ∙ sym (joined_values A (c.legs ++ B) a (s ++ b) la ∙ flat-map (λ us. map (λ ys. us ++ ys) (values_in (c.legs ++ B) (s ++ b))) (values_at A a) (upward 0 (block_size A a)))
    where
      n : ℕ
      n = block_size c.legs s

      own : map (λ v. get_or F v []) (map (λ j. before f.sectors w + j) (upward off n)) ≡ values_in c.legs s
      own =
          map-map (λ v. get_or F v []) (λ j. before f.sectors w + j) (upward off n)
          ∙ ap (λ m. map (λ j. get_or F (before f.sectors w + j) []) (upward m n)) (plain off)
          ∙ ap (map (λ j. get_or F (before f.sectors w + j) [])) (sym (upward_shift off 0 n))
          ∙ map-map (λ j. get_or F (before f.sectors w + j) []) (λ k. off + k) (upward 0 n)
          ∙ map_upward (λ k. get_or F (before f.sectors w + (off + k)) []) (values_at c.legs s) 0 n (λ k l u. match k (omega arith))
        where
          plain : (m : ℕ) → m ≡ m + 0
          plain m = omega arith

      row : (i : ℕ) → i < 0 + block_size A a →
          map (widened c (length A)) (map (values_at (narrow_legs c A B) (a ++ (w ∷ b))) (upward (i * block_size (f ∷ B) (w ∷ b) + off * block_size B b) (n * block_size B b)))
          ≡ map (λ ys. values_at A a i ++ ys) (values_in (c.legs ++ B) (s ++ b))
      row i u =
          ap (map (widened c (length A))) (piece_values A (f ∷ B) a (w ∷ b) i (off * block_size B b) (n * block_size B b) la (omega arith) (within off n (sector_at f.sectors w).dim (block_size B b) fits))
          ∙ ap (λ yss. map (widened c (length A)) (map (λ ys. values_at A a i ++ ys) yss)) (narrow_row w off n fits)
          ∙ core_at i (map (λ j. before f.sectors w + j) (upward off n))
          ∙ ap (λ uss. map (λ ys. values_at A a i ++ ys) (with_rest uss)) own
          ∙ ap (map (λ ys. values_at A a i ++ ys)) (sym (joined_values c.legs B s b e))
        where
          within : (o m d k : ℕ) → o + m ≤ d → o * k + m * k ≤ d * k
          within o m d k h =
              let e : (o + m) * k ≡ o * k + m * k = add-mul o m k in
              let l : (o + m) * k ≤ d * k = mul-le-mul_right k h in
              omega (arith, e, l)
