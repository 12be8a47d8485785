-- The places that are read along axes.
use Rattle.std.proofs.Common.{◌≡◌, ℕ, zero, suc, ◌+◌, ◌*◌, ◌-◌, ◌/◌, ◌≤◌, ◌<◌, add-one, List, [], ◌∷◌, ◌++◌, length, map, get_or, drop, All, arith, refl, ap, ap₂, ◌∙◌, sym, subst, append_assoc, length-append}
use Rattle.std.specs.List.{flat_map}
use Rattle.std.proofs.lemmas.List.{get_or_append_left, map-append, append-nil, drop_all}
use Rattle.std.proofs.Math.Seq.{get_or-append_right}
use Rattle.std.proofs.Math.Nat.{mul-le-mul_right, mul-div_cancel_left}
use Rattle.qn_sign.specs.Sign.{Perm}
use Rattle.qn_sign.specs.Sign.Perm.{none, keep, swap, then_by}
use Rattle.qn_index.specs.Legs.{LegValue, sector_at}
use Rattle.qn_index.specs.Tuples.{upward, IsTuple}
use Rattle.qn_index.specs.Places.{block_size, IsInner, offset_of}
use Rattle.qn_index.proofs.Places.{inner_of_offset}
use Rattle.qn_index.proofs.Nets.{tuple_length}
use Rattle.qn_gauss.specs.Gaussian.{Gaussian}
use Rattle.qn_permute.specs.declared.axis.Axis.{Axis}
use Rattle.qn_permute.specs.Axes.{no_axis, axes, places, reach}
use Rattle.qn_index.proofs.Places.{size_suc}

-- how far the place at these offsets is from the first
abbrev pub along : List Axis → List ℕ → ℕ
along [] os = 0
along (x ∷ xs) [] = 0
along (x ∷ xs) (o ∷ os) = o * x.stride + along xs os

pub along_perm : (x : ℕ → Axis) (o : ℕ → ℕ) {ks ms : List ℕ} → Perm ks ms → along (map x ks) (map o ks) ≡ along (map x ms) (map o ms)
along_perm x o none = refl
along_perm x o (keep {x = k} p) = ap (λ n. o k * (x k).stride + n) (along_perm x o p)
along_perm x o swap = omega arith
along_perm x o (then_by p q) = along_perm x o p ∙ along_perm x o q

pub reach_perm : (x : ℕ → Axis) {ks ms : List ℕ} → Perm ks ms → reach (map x ks) ≡ reach (map x ms)
reach_perm x none = refl
reach_perm x (keep {x = k} p) = ap (λ n. ((x k).len - 1) * (x k).stride + n) (reach_perm x p)
reach_perm x (swap {x = a} {y = b} {xs = ks}) = reorder (((x a).len - 1) * (x a).stride) (((x b).len - 1) * (x b).stride) (reach (map x ks))
  where
    reorder : (p q r : ℕ) → p + (q + r) ≡ q + (p + r)
    reorder p q r = omega arith
reach_perm x (then_by p q) = reach_perm x p ∙ reach_perm x q

-- in a block's own order the places are the offsets
pub along_own : (ls : List LegValue) (t os : List ℕ) → IsInner ls t os → along (axes ls t) os ≡ offset_of ls t os
along_own [] t os h = refl
along_own (l ∷ ls) [] os h = absurd h
along_own (l ∷ ls) (s ∷ ss) [] h = absurd h
along_own (l ∷ ls) (s ∷ ss) (o ∷ os) h = ap (λ n. o * block_size ls ss + n) (along_own ls ss os h.1)

-- the last place is in the block
pub reach_own : (ls : List LegValue) (t : List ℕ) → IsTuple ls t → 0 < block_size ls t → reach (axes ls t) < block_size ls t
reach_own [] t h p = omega arith
reach_own (l ∷ ls) [] h p = absurd h
reach_own (l ∷ ls) (s ∷ ss) h p =
    last (sector_at l.sectors s).dim (block_size ls ss) (reach (axes ls ss)) p (λ q. reach_own ls ss h.1 q)
  where
    last : (d c r : ℕ) → 0 < d * c → (0 < c → r < c) → (d - 1) * c + r < d * c
    last zero c r p h = absurd (let z : 0 * c ≡ 0 = omega arith in omega arith)
    last (suc d) zero r p h = absurd (let z : suc d * 0 ≡ 0 = omega arith in omega arith)
    last (suc d) (suc c) r p h =
        let e : suc d * suc c ≡ d * suc c + suc c = omega arith in
        let f : suc d - 1 ≡ d = omega arith in
        let g : (suc d - 1) * suc c ≡ d * suc c = ap (λ k. k * suc c) f in
        omega (arith, h (omega arith))

-- pieces of one length, joined
length_pieces : (f : ℕ → List ℕ) (c a k : ℕ) → ((s : ℕ) → length (f s) ≡ c) → length (flat_map f (upward a k)) ≡ k * c
length_pieces f c a zero h = omega arith
length_pieces f c a (suc k) h = length-append (f a) (flat_map f (upward (a + 1) k)) ∙ omega (arith, h a, length_pieces f c (a + 1) k h)

at_pieces : (f : ℕ → List ℕ) (c a k i j : ℕ) → ((s : ℕ) → length (f s) ≡ c) → i < k → j < c → get_or (flat_map f (upward a k)) (i * c + j) 0 ≡ get_or (f (a + i)) j 0
at_pieces f c a zero i j h lt b = absurd (omega arith)
at_pieces f c a (suc k) zero j h lt b =
    let e : 0 * c + j ≡ j = omega arith in
    let z : a + 0 ≡ a = omega arith in
    ap (λ n. get_or (f a ++ flat_map f (upward (a + 1) k)) n 0) e
    ∙ (get_or_append_left (f a) (flat_map f (upward (a + 1) k)) 0 j (omega (arith, h a)) ∙ ap (λ n. get_or (f n) j 0) (sym z))
at_pieces f c a (suc k) (suc i) j h lt b =
    let s : suc i * c + j - length (f a) ≡ i * c + j = omega (arith, h a) in
    let z : a + 1 + i ≡ a + suc i = omega arith in
    get_or-append_right (f a) (flat_map f (upward (a + 1) k)) (suc i * c + j) 0 (omega (arith, h a))
    ∙ (ap (λ n. get_or (flat_map f (upward (a + 1) k)) n 0) s ∙ (at_pieces f c (a + 1) k i j h (omega arith) b ∙ ap (λ n. get_or (f n) j 0) z))

-- as many places as the block has entries
pub length_places : (n : ℕ) (l : ℕ → LegValue) (s : ℕ → ℕ) (x : ℕ → Axis) (ks : List ℕ) (start : ℕ) → All (λ k. k < n) ks → ((k : ℕ) → k < n → (x k).len ≡ (sector_at (l k).sectors (s k)).dim) →
    length (places (map x ks) start) ≡ block_size (map l ks) (map s ks)
length_places n l s x [] start h e = refl
length_places n l s x (k ∷ ks) start h e =
    length_pieces (λ i. places (map x ks) (start + i * (x k).stride)) (block_size (map l ks) (map s ks)) 0 (x k).len
    (λ i. length_places n l s x ks (start + i * (x k).stride) (λ i d lt. h (suc i) d (omega arith)) e)
    ∙ ap (λ d. d * block_size (map l ks) (map s ks)) (e k (h 0 0 (omega arith)))

-- the place of the entry at offsets in the sectors
pub place_there : (n : ℕ) (l : ℕ → LegValue) (s o : ℕ → ℕ) (x : ℕ → Axis) (ks : List ℕ) (start : ℕ) → All (λ k. k < n) ks → ((k : ℕ) → k < n → (x k).len ≡ (sector_at (l k).sectors (s k)).dim) →
    IsTuple (map l ks) (map s ks) → IsInner (map l ks) (map s ks) (map o ks) →
    get_or (places (map x ks) start) (offset_of (map l ks) (map s ks) (map o ks)) 0 ≡ start + along (map x ks) (map o ks)
place_there n l s o x [] start h e t i = omega arith
place_there n l s o x (k ∷ ks) start h e t i =
    let f : ℕ → List ℕ = λ m. places (map x ks) (start + m * (x k).stride) in
    let c : ℕ = block_size (map l ks) (map s ks) in
    let j : ℕ = offset_of (map l ks) (map s ks) (map o ks) in
    let h' : All (λ m. m < n) ks = λ m d lt. h (suc m) d (omega arith) in
    let below = (inner_of_offset (map l ks) (map s ks) (map o ks) t.1 i.1).0 in
    let own = e k (h 0 0 (omega arith)) in
    at_pieces f c 0 (x k).len (o k) j (λ m. length_places n l s x ks (start + m * (x k).stride) h' e) (omega (arith, own, i.0)) below
    ∙ (ap (λ m. get_or (f m) j 0) (omega arith)
    ∙ (place_there n l s o x ks (start + o k * (x k).stride) h' e t.1 i.1 ∙ omega arith))

-- the axes of a tuple are as long as its sectors are
pub axis_there : (ls : List LegValue) (t : List ℕ) (k : ℕ) (l : LegValue) → IsTuple ls t → k < length ls → (get_or (axes ls t) k no_axis).len ≡ (sector_at (get_or ls k l).sectors (get_or t k 0)).dim
axis_there [] t k l h lt = absurd (omega arith)
axis_there (m ∷ ls) [] k l h lt = absurd h
axis_there (m ∷ ls) (s ∷ ss) zero l h lt = refl
axis_there (m ∷ ls) (s ∷ ss) (suc k) l h lt = axis_there ls ss k l h.1 (omega arith)

pub axes_length : (ls : List LegValue) (t : List ℕ) → IsTuple ls t → length (axes ls t) ≡ length ls
axes_length [] t h = refl
axes_length (l ∷ ls) [] h = absurd h
axes_length (l ∷ ls) (s ∷ ss) h = ap suc (axes_length ls ss h.1)

-- one axis more
axes_suc : (ls : List LegValue) (t : List ℕ) (i : ℕ) (l : LegValue) → IsTuple ls t → i < length ls → axes (drop i ls) (drop i t) ≡ record { len = (sector_at (get_or ls i l).sectors (get_or t i 0)).dim; stride = block_size (drop (suc i) ls) (drop (suc i) t) } ∷ axes (drop (suc i) ls) (drop (suc i) t)
axes_suc [] t i l h lt = absurd (omega arith)
axes_suc (m ∷ ls) [] i l h lt = absurd h
axes_suc (m ∷ ls) (s ∷ ss) zero l h lt = refl
axes_suc (m ∷ ls) (s ∷ ss) (suc i) l h lt = axes_suc ls ss i l h.1 (omega arith)

-- the axes of the first i legs, and the size of the block of the others
pub record AreAxes (ls : List LegValue) (t : List ℕ) (i n : ℕ) (out : List Axis) : Type 0 where
  pub size : n ≡ block_size (drop i ls) (drop i t)
  pub made : out ++ axes (drop i ls) (drop i t) ≡ axes ls t

pub axes_more : (ls : List LegValue) (t : List ℕ) (i size d : ℕ) (out : List Axis) (l : LegValue) → IsTuple ls t → i < length ls → l ≡ get_or ls i l → d ≡ (sector_at l.sectors (get_or t i 0)).dim → 0 < d → AreAxes ls t i size out →
    AreAxes ls t (i + 1) (size / d) (out ++ record { len = d; stride = size / d } ∷ [])
axes_more ls t i size d out l h lt is e p a =
    let c : ℕ = block_size (drop (i + 1) ls) (drop (i + 1) t) in
    let dim : (sector_at (get_or ls i l).sectors (get_or t i 0)).dim ≡ d = ap (λ (k : LegValue). (sector_at k.sectors (get_or t i 0)).dim) (sym is) ∙ sym e in
    let step : axes (drop i ls) (drop i t) ≡ record { len = d; stride = c } ∷ axes (drop (i + 1) ls) (drop (i + 1) t) =
    axes_suc ls t i l h lt ∙ ap₂ (λ x j. record { len = x; stride = block_size (drop j ls) (drop j t) } ∷ axes (drop j ls) (drop j t)) dim (sym (add-one i)) in
    let whole : size ≡ d * c = a.size ∙ (size_suc ls t i l lt (tuple_length ls t h) ∙ ap₂ (λ x j. x * block_size (drop j ls) (drop j t)) dim (sym (add-one i))) in
    let q : size / d ≡ c = ap (λ k. k / d) whole ∙ mul-div_cancel_left c p in
    subst (λ k. AreAxes ls t (i + 1) k (out ++ record { len = d; stride = k } ∷ [])) (sym q) (record {
      size = refl;
      made = append_assoc out (record { len = d; stride = c } ∷ []) (axes (drop (i + 1) ls) (drop (i + 1) t)) ∙ (ap (λ xs. out ++ xs) (sym step) ∙ a.made);
    })

-- the places of the first i values have been read, out of n
pub record IsAppended (e : ℕ → Gaussian) (f : ℕ → List ℕ) (before out : List Gaussian) (n i : ℕ) : Type 0 where
  pub made : out ++ map e (flat_map f (upward i (n - i))) ≡ before ++ map e (flat_map f (upward 0 n))

pub appended_more : (e : ℕ → Gaussian) (f : ℕ → List ℕ) (before out new : List Gaussian) (n i : ℕ) → i < n → new ≡ out ++ map e (f i) → IsAppended e f before out n i → IsAppended e f before new n (i + 1)
appended_more e f before out new n i lt is h = record {
  made =
      let k : n - i ≡ suc (n - (i + 1)) = omega arith in
      let rest : List ℕ = flat_map f (upward (i + 1) (n - (i + 1))) in
      ap (λ xs. xs ++ map e rest) is
      ∙ (append_assoc out (map e (f i)) (map e rest)
      ∙ (ap (λ xs. out ++ xs) (sym (map-append e (f i) rest))
      ∙ (sym (ap (λ j. out ++ map e (flat_map f (upward i j))) k) ∙ h.made)));
}

-- a value of the first axis is not past the last place
pub within_reach : (i n stride : ℕ) → i < n → i * stride ≤ (n - 1) * stride
within_reach i n stride lt = let le : i ≤ n - 1 = omega arith in mul-le-mul_right stride le
