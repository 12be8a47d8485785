-- The parts of tuples of wide and of narrow legs, and the entries of the blocks that are made.
use Rattle.std.proofs.Common.{◌≡◌, ℕ, ℤ, zero, suc, ◌+◌, ◌*◌, ◌≤◌, ◌<◌, List, [], ◌∷◌, ◌++◌, length, get_or, take, drop, map, flat_map, arith, refl, ap, ap₂, ◌∙◌, sym, subst, ◌⊎◌, append_assoc}
use Rattle.std.specs.List.{All}
use Rattle.std.proofs.Math.Nat.{mul-le-mul_left, mul-le-mul_right, add-mul}
use Rattle.std.proofs.Math.Seq.{take-append_seam, drop-append_seam}
use Rattle.std.proofs.lemmas.List.{take-append-drop, length-append, get_or_default}
use Rattle.std.proofs.lemmas.List.Elements.{All-append, All-cons, All-take, All-drop}
use Rattle.qn_gauss.specs.Gaussian.{Gaussian, zero_g}
use Rattle.qn_index.specs.Legs.{LegValue, IsSound, IsLegOf, sector_at}
use Rattle.qn_index.specs.Tuples.{IsTuple, IsAdmissible, IsFlux, net, upward}
use Rattle.qn_index.specs.Places.{block_size, values_at}
use Rattle.qn_index.specs.Extents.{size_of, IsWithinLimits}
use Rattle.qn_index.proofs.Admitted.{block_some, block_within}
use Rattle.qn_index.proofs.Nets.{tuple_length}
use Rattle.qn_index.proofs.Places.{back}
use Rattle.qn_index.proofs.Sectors.{sector_from_place}
use Rattle.qn_charge.specs.declared.factor.Factor.{Factor}
use Rattle.qn_charge.specs.Charges.{IsCanonical}
use Rattle.qn_value.specs.Tensors.{BlockValue, IsBlock, AreAscending, entry_in, entry_of}
use Rattle.qn_block.specs.Blocked.{BlockedValue, IsBlocked, MeetFlux, tensor_of}
use Rattle.qn_block.specs.Combiners.{CombinerValue, IsCombiner, StartValue, fused_charge, fused_leg, fused_sectors, values_in}
use Rattle.qn_block.proofs.Located.{with_charge}
use Rattle.qn_block.proofs.Sound.{made_entries}
use Rattle.qn_block.proofs.Written.{IsFilled, IsListed}
use Rattle.qn_block.proofs.TableRows.{is_matching}
use Rattle.qn_fuse.specs.Fused.{wide_legs, narrow_legs, fused_at, split_at, AreFused, HasLegsAt, HasFusedAt}
use Rattle.qn_fuse.specs.Pieces.{SourceValue, IsSource, IsBlockAt, IsPlace, entries_at, piece, row, source, tuples_in, IsFusedEntry, IsSplitEntry, IsFusedOf, IsSplitOf}
use Rattle.qn_fuse.proofs.Alike.{fused_all, split_all}
use Rattle.qn_fuse.proofs.Flat.{map-map}
use Rattle.qn_fuse.proofs.Widened.{widened}
use Rattle.qn_fuse.proofs.Fluxes.{fused_net}
use Rattle.qn_fuse.proofs.Joined.{size-append}
use Rattle.qn_fuse.proofs.Moved.{fused_read, fused_entry, fused_long, split_read, split_entry, split_long}
use Rattle.qn_fuse.proofs.Starts.{parted}
use Rattle.qn_fuse.proofs.Stored.{long_at}
use Rattle.qn_fuse.proofs.Widths.{fused_within}

-- ---- tuples of legs that stand one after the other

pub tuple_parts : (ks ls : List LegValue) (a x : List ℕ) → length a ≡ length ks → IsTuple (ks ++ ls) (a ++ x) → IsTuple ks a × IsTuple ls x
tuple_parts [] ls [] x e h = (refl, h)
tuple_parts [] ls (s ∷ a) x e h = absurd (omega arith)
tuple_parts (k ∷ ks) ls [] x e h = absurd (omega arith)
tuple_parts (k ∷ ks) ls (s ∷ a) x e h = let r = tuple_parts ks ls a x (omega arith) h.1 in ((h.0, r.0), r.1)

pub tuple_joined : (ks ls : List LegValue) (a x : List ℕ) → IsTuple ks a → IsTuple ls x → IsTuple (ks ++ ls) (a ++ x)
tuple_joined [] ls a x h k = subst (λ ys. IsTuple ls (ys ++ x)) (sym h) k
tuple_joined (l ∷ ks) ls [] x h k = absurd h
tuple_joined (l ∷ ks) ls (s ∷ a) x h k = (h.0, tuple_joined ks ls a x h.1 k)

pub take_length : {A : Type 0} (n : ℕ) (xs : List A) → n ≤ length xs → length (take n xs) ≡ n
take_length zero xs le = refl
take_length (suc n) [] le = absurd (omega arith)
take_length (suc n) (x ∷ xs) le = ap suc (take_length n xs (omega arith))

pub drop_front : {A : Type 0} (xs ys : List A) (n : ℕ) → n ≡ length xs → drop n (xs ++ ys) ≡ ys
drop_front xs ys n e = ap (λ k. drop k (xs ++ ys)) e ∙ drop-append_seam xs ys

pub take_front : {A : Type 0} (xs ys : List A) (n : ℕ) → n ≡ length xs → take n (xs ++ ys) ≡ xs
take_front xs ys n e = ap (λ k. take k (xs ++ ys)) e ∙ take-append_seam xs ys

drop_none : {A : Type 0} (n : ℕ) (xs : List A) → xs ≡ [] → drop n xs ≡ []
drop_none zero xs e = e
drop_none (suc n) [] e = refl
drop_none (suc n) (x ∷ xs) e = absurd (omega (arith, ap length e))

drop_drop : {A : Type 0} (m n : ℕ) (xs : List A) → drop n (drop m xs) ≡ drop (m + n) xs
drop_drop zero n xs = ap (λ k. drop k xs) (plain n)
  where
    plain : (n : ℕ) → n ≡ 0 + n
    plain n = omega arith
drop_drop (suc m) n [] = drop_none n [] refl ∙ sym (drop_none (suc m + n) [] refl)
drop_drop (suc m) n (x ∷ xs) = drop_drop m n xs ∙ ap (λ k. drop k (x ∷ xs)) (one m n)
  where
    one : (m n : ℕ) → suc (m + n) ≡ suc m + n
    one m n = omega arith

-- a list around one place
pub around_place : (u : List ℕ) (n : ℕ) → n < length u → u ≡ take n u ++ (get_or u n 0 ∷ drop (n + 1) u)
around_place [] n lt = absurd (omega arith)
around_place (s ∷ u) zero lt = refl
around_place (s ∷ u) (suc n) lt = ap (λ ys. s ∷ ys) (around_place u n (omega arith)) ∙ ap (λ k. s ∷ (take n u ++ (get_or u n 0 ∷ drop k (s ∷ u)))) (one n)
  where
    one : (n : ℕ) → suc (n + 1) ≡ suc n + 1
    one n = omega arith

-- and around some places
pub around_places : (u : List ℕ) (n m : ℕ) → u ≡ take n u ++ (take m (drop n u) ++ drop (n + m) u)
around_places u n m =
    sym (take-append-drop n u) ∙ ap (λ ys. take n u ++ ys) (sym (take-append-drop m (drop n u)) ∙ ap (λ ys. take m (drop n u) ++ ys) (drop_drop n m u))

factor_first : (m n : ℕ) → 0 < n → m ≤ m * n
factor_first m n some = let l : m * 1 ≤ m * n = mul-le-mul_left m some in omega (arith, l)

factor_second : (m n : ℕ) → 0 < m → n ≤ m * n
factor_second m n some = let l : 1 * n ≤ m * n = mul-le-mul_right n some in omega (arith, l)

-- ---- one source

pub record IsSourceAt (ls : List LegValue) (first : ℕ) (a x : List ℕ) : Type 0 where
  pub legs : first ≤ length ls
  pub sectors : first ≤ length (a ++ x)
  pub behind : drop first (a ++ x) ≡ x
  pub tuple : IsTuple (drop first ls) x
  pub small : block_size (drop first ls) x ≤ 4194304
  pub whole : block_size ls (a ++ x) ≡ block_size (take first ls) a * block_size (drop first ls) x

pub source_at : (ls : List LegValue) (first : ℕ) (a x : List ℕ) → All IsSound ls → length a ≡ first → IsBlockAt ls (a ++ x) → IsSourceAt ls first a x
source_at ls first a x sound e h =
    let long = tuple_length ls (a ++ x) h.tuple in
    let le : first ≤ length ls = omega (arith, long, length-append a x) in
    let split : ls ≡ take first ls ++ drop first ls = sym (take-append-drop first ls) in
    let la : length a ≡ length (take first ls) = e ∙ sym (take_length first ls le) in
    let parts = tuple_parts (take first ls) (drop first ls) a x la (subst (λ ks. IsTuple ks (a ++ x)) split h.tuple) in
    let whole : block_size ls (a ++ x) ≡ block_size (take first ls) a * block_size (drop first ls) x = ap (λ ks. block_size ks (a ++ x)) split ∙ size-append (take first ls) (drop first ls) a x la in
    let some : 0 < block_size (take first ls) a = block_some (take first ls) a (All-take IsSound first ls sound) parts.0 in
    record {
      legs = le;
      sectors = omega (arith, length-append a x);
      behind = drop_front a x first (sym e);
      tuple = parts.1;
      small = omega (arith, h.small, whole, factor_second (block_size (take first ls) a) (block_size (drop first ls) x) some);
      whole = whole;
    }

pub is_source : (t : BlockedValue) (first : ℕ) (a s b : List ℕ) → IsBlocked t → length a ≡ first → IsBlockAt t.legs (a ++ (s ++ b)) → IsSource (block_size (take first t.legs) a) (source t first a b s)
is_source t first a s b h e k =
    let p = source_at t.legs first a (s ++ b) h.sound e k in
    record {
      small = omega (arith, k.small, p.whole);
      long = subst (λ n. (entries_at t.blocks (a ++ (s ++ b)) ≡ []) ⊎ (length (entries_at t.blocks (a ++ (s ++ b))) ≡ n)) p.whole (long_at t.group t.legs t.flux t.blocks (a ++ (s ++ b)) h.blocks);
    }

-- ---- a tuple of narrow legs

pub record IsNarrowAt (c : CombinerValue) (first : ℕ) (ls : List LegValue) (u : List ℕ) : Type 0 where
  pub there : first < length u
  pub legs : first ≤ length ls
  pub prefix : length (take first u) ≡ first
  pub sector : get_or u first 0 < length (fused_sectors c.group c.legs c.arrow)
  pub tuple : IsTuple (take first ls) (take first u)
  pub small : block_size (take first ls) (take first u) ≤ 4194304
  pub blocks : All (λ s. IsBlockAt ls (take first u ++ (s ++ drop (first + 1) u))) (tuples_in c (get_or u first 0))
  pub long : All (λ s. length s ≡ length c.legs) (tuples_in c (get_or u first 0))

size_within : (ls : List LegValue) (ts : List (List ℕ)) (i : ℕ) → i < length ts → block_size ls (get_or ts i []) ≤ size_of ls ts
size_within ls [] i lt = absurd (omega arith)
size_within ls (t ∷ ts) zero lt = omega arith
size_within ls (t ∷ ts) (suc i) lt = omega (arith, size_within ls ts i (omega arith))

-- the tuples of a sector
own_tuples : (c : CombinerValue) (w : ℕ) → IsCombiner c → w < length (fused_sectors c.group c.legs c.arrow) →
    All (λ s. IsTuple c.legs s × (block_size c.legs s ≤ (sector_at (fused_sectors c.group c.legs c.arrow) w).dim)) (tuples_in c w)
own_tuples c w hc lt i d less =
    let p = parted c.group c.legs c.arrow w lt in
    let s = get_or (tuples_in c w) i [] in
    let canonical = ((hc.fusable.charges) w (sector_at (fused_sectors c.group c.legs c.arrow) w) lt).canonical in
    let at : get_or (fused_sectors c.group c.legs c.arrow) w (sector_at (fused_sectors c.group c.legs c.arrow) w) ≡ sector_at (fused_sectors c.group c.legs c.arrow) w =
    sym (get_or_default (fused_sectors c.group c.legs c.arrow) w _ (sector_at (fused_sectors c.group c.legs c.arrow) w) lt) in
    let has = with_charge c.group c.legs c.arrow (sector_at (fused_sectors c.group c.legs c.arrow) w).charge (get_or (tuples_in c w) i d) hc.group (subst (λ q. IsCanonical c.group q.charge) at canonical) (i, less, get_or_default (tuples_in c w) i (get_or (tuples_in c w) i d) d less) in
    let own : get_or (tuples_in c w) i [] ≡ get_or (tuples_in c w) i d = get_or_default (tuples_in c w) i [] d less in
    let size : size_of c.legs (tuples_in c w) ≡ (sector_at (fused_sectors c.group c.legs c.arrow) w).dim = ap (size_of c.legs) (sym p.charge) ∙ sym p.size in
    (has.tuple, omega (arith, size_within c.legs (tuples_in c w) i less, ap (block_size c.legs) own, size))

pub narrow_at : (c : CombinerValue) (first : ℕ) (t : BlockedValue) (u : List ℕ) → IsCombiner c → IsBlocked t → HasLegsAt c first t.legs → IsBlockAt (fused_at c first t.legs) u → IsNarrowAt c first t.legs u
narrow_at c first t u hc ht at hu =
    let ls = t.legs in
    let A = take first ls in
    let B = drop (first + length c.legs) ls in
    let f = fused_leg c.group c.legs c.arrow in
    let lA : length A ≡ first = take_length first ls at.within in
    let long = tuple_length (narrow_legs c A B) u hu.tuple in
    let there : first < length u = omega (arith, long, length-append A (f ∷ B), lA) in
    let a = take first u in
    let w = get_or u first 0 in
    let b = drop (first + 1) u in
    let split : u ≡ a ++ (w ∷ b) = around_place u first there in
    let la : length a ≡ length A = take_length first u (omega arith) ∙ sym lA in
    let parts = tuple_parts A (f ∷ B) a (w ∷ b) la (subst (IsTuple (narrow_legs c A B)) split hu.tuple) in
    let sA = All-take IsSound first ls ht.sound in
    let sB = All-drop IsSound (first + length c.legs) ls ht.sound in
    let size : block_size (narrow_legs c A B) u ≡ block_size A a * ((sector_at f.sectors w).dim * block_size B b) = ap (block_size (narrow_legs c A B)) split ∙ size-append A (f ∷ B) a (w ∷ b) la in
    let some_B : 0 < block_size B b = block_some B b sB parts.1.1 in
    let some_w : 0 < (sector_at f.sectors w).dim = (hc.fusable.leg.dims w _ parts.1.0).0 in
    let some_rest : 0 < (sector_at f.sectors w).dim * block_size B b = omega (arith, some_w, factor_second (sector_at f.sectors w).dim (block_size B b) some_w, some_B) in
    let own = own_tuples c w hc parts.1.0 in
    record {
      there = there;
      legs = at.within;
      prefix = take_length first u (omega arith);
      sector = parts.1.0;
      tuple = parts.0;
      small = omega (arith, hu.small, size, factor_first (block_size A a) ((sector_at f.sectors w).dim * block_size B b) some_rest);
      blocks = λ i d lt.
          let o = own i d lt in
          let s = get_or (tuples_in c w) i d in
          let wide : IsTuple (wide_legs c A B) (a ++ (s ++ b)) = tuple_joined A (c.legs ++ B) a (s ++ b) parts.0 (tuple_joined c.legs B s b o.0 parts.1.1) in
          let ws : block_size (wide_legs c A B) (a ++ (s ++ b)) ≡ block_size A a * (block_size c.legs s * block_size B b) =
          size-append A (c.legs ++ B) a (s ++ b) la ∙ ap (λ n. block_size A a * n) (size-append c.legs B s b (tuple_length c.legs s o.0)) in
          let grows : block_size A a * (block_size c.legs s * block_size B b) ≤ block_size A a * ((sector_at f.sectors w).dim * block_size B b) = mul-le-mul_left (block_size A a) (mul-le-mul_right (block_size B b) o.1) in
          subst (λ ks. IsBlockAt ks (a ++ (s ++ b))) (sym at.legs) (record { tuple = wide; small = omega (arith, ws, grows, size, hu.small) });
      long = λ i d lt. tuple_length c.legs (get_or (tuples_in c w) i d) (own i d lt).0;
    }

pub record IsFusedBlock (c : CombinerValue) (first : ℕ) (t : BlockedValue) (u : List ℕ) (es : List Gaussian) : Type 0 where
  pub full : length es ≡ block_size (fused_at c first t.legs) u
  pub entries : (o : ℕ) → o < block_size (fused_at c first t.legs) u → IsFusedEntry c first (tensor_of t) (values_at (fused_at c first t.legs) u o) (get_or es o zero_g)

pub fused_block_is : (c : CombinerValue) (first : ℕ) (t : BlockedValue) (u : List ℕ) (starts : List StartValue) (xs : List SourceValue) (rows : ℕ) (es : List Gaussian) → IsCombiner c → IsBlocked t →
    HasLegsAt c first t.legs → IsBlockAt (fused_at c first t.legs) u → map (λ (s : StartValue). s.tuple) starts ≡ tuples_in c (get_or u first 0) →
    xs ≡ map (λ (s : StartValue). source t first (take first u) (drop (first + 1) u) s.tuple) starts → rows ≡ block_size (take first t.legs) (take first u) → es ≡ flat_map (row xs) (upward 0 rows) → IsFusedBlock c first t u es
fused_block_is c first t u starts xs rows es hc ht at hu ts is rs made =
    let ls = t.legs in
    let A = take first ls in
    let B = drop (first + length c.legs) ls in
    let n = narrow_at c first t u hc ht at hu in
    let a = take first u in
    let w = get_or u first 0 in
    let b = drop (first + 1) u in
    let split : u ≡ a ++ (w ∷ b) = around_place u first n.there in
    let lA : length A ≡ first = take_length first ls at.within in
    let la : length a ≡ length A = n.prefix ∙ sym lA in
    let wide : All (λ s. IsTuple (wide_legs c A B) (a ++ (s ++ b))) (tuples_in c w) = λ i d lt. subst (λ ks. IsTuple ks (a ++ (get_or (tuples_in c w) i d ++ b))) at.legs (n.blocks i d lt).tuple in
    let E = entry_of (tensor_of t) in
    let all : es ≡ map E (map (widened c (length A)) (values_in (narrow_legs c A B) (a ++ (w ∷ b)))) =
    made
    ∙ ap₂ (λ ys k. flat_map (row ys) (upward 0 k)) (is ∙ sym (map-map (source t first a b) (λ (s : StartValue). s.tuple) starts) ∙ ap (map (source t first a b)) ts) rs
    ∙ fused_read c hc A B a b la t ht at.legs w n.sector wide n.long (source t first a b) (λ s. ap (λ k. source t k a b s) (sym lA)) in
    record {
      full = ap length all ∙ fused_long c hc A B a b la E w ∙ ap (block_size (narrow_legs c A B)) (sym split);
      entries = λ o lt.
          subst (λ v. IsFusedEntry c first (tensor_of t) (values_at (narrow_legs c A B) v o) (get_or es o zero_g)) (sym split)
          (subst (λ k. IsFusedEntry c k (tensor_of t) (values_at (narrow_legs c A B) (a ++ (w ∷ b)) o) (get_or es o zero_g)) lA
          (fused_entry c hc A B a b la t ht at.legs w n.sector wide n.long es o all (subst (λ v. o < block_size (narrow_legs c A B) v) split lt)));
    }

-- ---- a tuple of wide legs

pub record IsWideAt (c : CombinerValue) (at : ℕ) (ls : List LegValue) (u : List ℕ) : Type 0 where
  pub legs : at ≤ length ls
  pub next : at + 1 ≤ length ls
  pub within : at ≤ length u
  pub end : at + length c.legs ≤ length u
  pub own : IsTuple c.legs (take (length c.legs) (drop at u))
  pub own_small : block_size c.legs (take (length c.legs) (drop at u)) ≤ 4194304
  pub before : IsTuple (take at ls) (take at u)
  pub before_small : block_size (take at ls) (take at u) ≤ 4194304
  pub behind : IsTuple (drop (at + 1) ls) (drop (at + length c.legs) u)
  pub behind_small : block_size (drop (at + 1) ls) (drop (at + length c.legs) u) ≤ 4194304
  pub prefix : length (take at u) ≡ length (take at ls)
  pub whole : u ≡ take at u ++ (take (length c.legs) (drop at u) ++ drop (at + length c.legs) u)

pub wide_at : (c : CombinerValue) (at : ℕ) (t : BlockedValue) (u : List ℕ) → IsCombiner c → IsBlocked t → HasFusedAt c at t.legs → IsTuple (split_at c at t.legs) u → block_size (split_at c at t.legs) u ≤ 4194304 → IsWideAt c at t.legs u
wide_at c at t u hc ht place hu small =
    let ls = t.legs in
    let A = take at ls in
    let B = drop (at + 1) ls in
    let f = fused_leg c.group c.legs c.arrow in
    let m = length c.legs in
    let lA : length A ≡ at = take_length at ls place.within in
    let long = tuple_length (wide_legs c A B) u hu in
    let count : length u ≡ at + (m + length B) = omega (arith, long, length-append A (c.legs ++ B), length-append c.legs B, lA) in
    let next : at + 1 ≤ length ls = omega (arith, ap length place.legs, length-append A (f ∷ B), lA) in
    let whole = around_places u at m in
    let a = take at u in
    let s = take m (drop at u) in
    let b = drop (at + m) u in
    let la : length a ≡ length A = take_length at u (omega (arith, count)) ∙ sym lA in
    let sum : length u ≡ length a + (length s + length b) = omega (arith, ap length whole, length-append a (s ++ b), length-append s b) in
    let rest : length (drop at u) ≡ m + length B = omega (arith, count, ap length (sym (take-append-drop at u)), length-append a (drop at u), la, lA) in
    let lS : length s ≡ m = take_length m (drop at u) (omega (arith, rest)) in
    let parts = tuple_parts A (c.legs ++ B) a (s ++ b) la (subst (IsTuple (wide_legs c A B)) whole hu) in
    let inner = tuple_parts c.legs B s b lS parts.1 in
    let sA = All-take IsSound at ls ht.sound in
    let sB = All-drop IsSound (at + 1) ls ht.sound in
    let some_A : 0 < block_size A a = block_some A a sA parts.0 in
    let some_s : 0 < block_size c.legs s = block_some c.legs s hc.sound inner.0 in
    let some_B : 0 < block_size B b = block_some B b sB inner.1 in
    let size : block_size (wide_legs c A B) u ≡ block_size A a * (block_size c.legs s * block_size B b) =
    ap (block_size (wide_legs c A B)) whole ∙ size-append A (c.legs ++ B) a (s ++ b) la ∙ ap (λ n. block_size A a * n) (size-append c.legs B s b lS) in
    let one = factor_second (block_size A a) (block_size c.legs s * block_size B b) some_A in
    let two = factor_first (block_size c.legs s) (block_size B b) some_B in
    let three = factor_second (block_size c.legs s) (block_size B b) some_s in
    let four = factor_first (block_size A a) (block_size c.legs s * block_size B b) (omega (arith, some_B, three)) in
    record {
      legs = place.within;
      next = next;
      within = omega (arith, count);
      end = omega (arith, count);
      own = inner.0;
      own_small = omega (arith, size, one, two, small);
      before = parts.0;
      before_small = omega (arith, size, four, small);
      behind = inner.1;
      behind_small = omega (arith, size, one, three, small);
      prefix = la;
      whole = whole;
    }

-- where the tuple's values stand in the fused leg
pub record IsCutAt (c : CombinerValue) (at : ℕ) (t : BlockedValue) (u : List ℕ) (sector offset : ℕ) : Type 0 where
  pub fits : offset * block_size (drop (at + 1) t.legs) (drop (at + length c.legs) u) + block_size c.legs (take (length c.legs) (drop at u)) * block_size (drop (at + 1) t.legs) (drop (at + length c.legs) u)
      ≤ (sector_at (fused_sectors c.group c.legs c.arrow) sector).dim * block_size (drop (at + 1) t.legs) (drop (at + length c.legs) u)
  pub small : block_size (take at t.legs) (take at u) * ((sector_at (fused_sectors c.group c.legs c.arrow) sector).dim * block_size (drop (at + 1) t.legs) (drop (at + length c.legs) u)) ≤ 4194304
  pub long : (entries_at t.blocks (take at u ++ (sector ∷ drop (at + length c.legs) u)) ≡ []) ⊎
      (length (entries_at t.blocks (take at u ++ (sector ∷ drop (at + length c.legs) u))) ≡
      block_size (take at t.legs) (take at u) * ((sector_at (fused_sectors c.group c.legs c.arrow) sector).dim * block_size (drop (at + 1) t.legs) (drop (at + length c.legs) u)))
  pub tuple : IsTuple (narrow_legs c (take at t.legs) (drop (at + 1) t.legs)) (take at u ++ (sector ∷ drop (at + length c.legs) u))

pub cut_at : (c : CombinerValue) (at : ℕ) (t : BlockedValue) (u : List ℕ) (sector offset : ℕ) → IsCombiner c → IsBlocked t → t.group ≡ c.group → HasFusedAt c at t.legs → IsTuple (split_at c at t.legs) u →
    net t.group (split_at c at t.legs) u ≡ t.flux → block_size (split_at c at t.legs) u ≤ 4194304 → IsPlace c (take (length c.legs) (drop at u)) sector offset → IsCutAt c at t u sector offset
cut_at c at t u sector offset hc ht group place hu flux small p =
    let ls = t.legs in
    let A = take at ls in
    let B = drop (at + 1) ls in
    let f = fused_leg c.group c.legs c.arrow in
    let a = take at u in
    let s = take (length c.legs) (drop at u) in
    let b = drop (at + length c.legs) u in
    let w = wide_at c at t u hc ht place hu small in
    let tuple : IsTuple (narrow_legs c A B) (a ++ (sector ∷ b)) = tuple_joined A (f ∷ B) a (sector ∷ b) w.before (p.there, w.behind) in
    let size : block_size (narrow_legs c A B) (a ++ (sector ∷ b)) ≡ block_size A a * ((sector_at f.sectors sector).dim * block_size B b) = size-append A (f ∷ B) a (sector ∷ b) w.prefix in
    let some : 0 < block_size c.legs s = block_some c.legs s hc.sound w.own in
    let inner : offset + 0 < (sector_at f.sectors sector).dim = let n = p.within in omega (arith, n, some) in
    let charge : (sector_at f.sectors sector).charge ≡ fused_charge c.group c.legs c.arrow s =
    ap (λ k. (sector_at f.sectors k).charge) (sym (sector_from_place f.sectors sector (offset + 0) p.there inner).0)
    ∙ (is_matching c hc).charge _ (values_at c.legs s 0) (p.values 0 some) ∙ ap (fused_charge c.group c.legs c.arrow) (back c.legs s 0 w.own some).sectors in
    let same : net c.group (narrow_legs c A B) (a ++ (sector ∷ b)) ≡ t.flux =
    fused_net c A B a s b sector hc.group w.prefix (tuple_length c.legs s w.own) charge ∙ ap (net c.group (wide_legs c A B)) (sym w.whole) ∙ ap (λ fs. net fs (wide_legs c A B) u) (sym group) ∙ flux in
    let admissible : IsAdmissible t.group t.legs t.flux (a ++ (sector ∷ b)) = record {
      tuple = subst (λ ks. IsTuple ks (a ++ (sector ∷ b))) (sym place.legs) tuple;
      flux = ap₂ (λ fs ks. net fs ks (a ++ (sector ∷ b))) group place.legs ∙ same;
    } in
    let own : block_size t.legs (a ++ (sector ∷ b)) ≡ block_size (narrow_legs c A B) (a ++ (sector ∷ b)) = ap (λ ks. block_size ks (a ++ (sector ∷ b))) place.legs in
    let few = ht.shape.entries in
    let sum : (offset + block_size c.legs s) * block_size B b ≡ offset * block_size B b + block_size c.legs s * block_size B b = add-mul offset (block_size c.legs s) (block_size B b) in
    let grows : (offset + block_size c.legs s) * block_size B b ≤ (sector_at f.sectors sector).dim * block_size B b = mul-le-mul_right (block_size B b) p.within in
    record {
      fits = omega (arith, sum, grows);
      small = omega (arith, block_within t.group t.legs t.flux (a ++ (sector ∷ b)) admissible, few, own, size);
      long = subst (λ n. (entries_at t.blocks (a ++ (sector ∷ b)) ≡ []) ⊎ (length (entries_at t.blocks (a ++ (sector ∷ b))) ≡ n)) (own ∙ size) (long_at t.group t.legs t.flux t.blocks (a ++ (sector ∷ b)) ht.blocks);
      tuple = tuple;
    }

pub record IsSplitBlock (c : CombinerValue) (at : ℕ) (t : BlockedValue) (u : List ℕ) (es : List Gaussian) : Type 0 where
  pub full : length es ≡ block_size (split_at c at t.legs) u
  pub entries : (o : ℕ) → o < block_size (split_at c at t.legs) u → IsSplitEntry c at (tensor_of t) (values_at (split_at c at t.legs) u o) (get_or es o zero_g)

pub split_block_is : (c : CombinerValue) (at : ℕ) (t : BlockedValue) (u : List ℕ) (sector offset rows width start len : ℕ) (es cs : List Gaussian) → IsCombiner c → IsBlocked t → t.group ≡ c.group → HasFusedAt c at t.legs →
    IsTuple (split_at c at t.legs) u → net t.group (split_at c at t.legs) u ≡ t.flux → block_size (split_at c at t.legs) u ≤ 4194304 → IsPlace c (take (length c.legs) (drop at u)) sector offset →
    cs ≡ entries_at t.blocks (take at u ++ (sector ∷ drop (at + length c.legs) u)) → rows ≡ block_size (take at t.legs) (take at u) →
    width ≡ (sector_at (fused_sectors c.group c.legs c.arrow) sector).dim * block_size (drop (at + 1) t.legs) (drop (at + length c.legs) u) →
    start ≡ offset * block_size (drop (at + 1) t.legs) (drop (at + length c.legs) u) →
    len ≡ block_size c.legs (take (length c.legs) (drop at u)) * block_size (drop (at + 1) t.legs) (drop (at + length c.legs) u) →
    es ≡ flat_map (λ i. piece cs (i * width + start) len) (upward 0 rows) → IsSplitBlock c at t u es
split_block_is c at t u sector offset rows width start len es cs hc ht group place hu flux small p is rs ws ss ns made =
    let ls = t.legs in
    let A = take at ls in
    let B = drop (at + 1) ls in
    let f = fused_leg c.group c.legs c.arrow in
    let a = take at u in
    let s = take (length c.legs) (drop at u) in
    let b = drop (at + length c.legs) u in
    let w = wide_at c at t u hc ht place hu small in
    let k = cut_at c at t u sector offset hc ht group place hu flux small p in
    let lA : length A ≡ at = take_length at ls place.within in
    let ls : length s ≡ length c.legs = tuple_length c.legs s w.own in
    let N = block_size B b in
    let whole : es ≡ flat_map (λ i. piece (entries_at t.blocks (a ++ (sector ∷ b))) (i * block_size (f ∷ B) (sector ∷ b) + offset * N) (block_size c.legs s * N)) (upward 0 (block_size A a)) =
    made ∙ ap₂ (λ xs n. flat_map (λ i. piece xs (i * width + start) len) (upward 0 n)) is rs
    ∙ ap₂ (λ m n. flat_map (λ i. piece (entries_at t.blocks (a ++ (sector ∷ b))) (i * m + n) len) (upward 0 (block_size A a))) ws ss
    ∙ ap (λ n. flat_map (λ i. piece (entries_at t.blocks (a ++ (sector ∷ b))) (i * block_size (f ∷ B) (sector ∷ b) + offset * N) n) (upward 0 (block_size A a))) ns in
    let all = whole ∙ split_read c hc A B a b w.prefix t ht place.legs s sector offset k.tuple ls p.within p.values in
    record {
      full = ap length all ∙ split_long c hc A B a b w.prefix t ht place.legs s sector offset k.tuple ls p.within p.values ∙ ap (block_size (wide_legs c A B)) (sym w.whole);
      entries = λ o lt.
          subst (λ v. IsSplitEntry c at (tensor_of t) (values_at (wide_legs c A B) v o) (get_or es o zero_g)) (sym w.whole)
          (subst (λ j. IsSplitEntry c j (tensor_of t) (values_at (wide_legs c A B) (a ++ (s ++ b)) o) (get_or es o zero_g)) lA
          (split_entry c hc A B a b w.prefix t ht place.legs s sector offset k.tuple ls p.within p.values es o all (subst (λ v. o < block_size (wide_legs c A B) v) w.whole lt)));
    }

-- ---- blocks one by one

pub block_filled : (R : List ℕ → Gaussian → Type 0) (fs : List Factor) (ls ms : List LegValue) (q : List ℤ) (t : List ℕ) (b : BlockValue) → ls ≡ ms → IsListed fs ls q t → b.tuple ≡ t → length b.entries ≡ block_size ms t →
    ((o : ℕ) → o < block_size ms t → R (values_at ms t o) (get_or b.entries o zero_g)) → IsFilled R fs ls q t b
block_filled R fs ls ms q t b e listed same full answers = record {
  tuple = same;
  block = record {
    tuple = subst (IsTuple ls) (sym same) listed.admissible.tuple;
    flux = ap (net fs ls) same ∙ listed.admissible.flux;
    full = full ∙ ap₂ block_size (sym e) (sym same);
    small = omega (arith, listed.small, ap (block_size ls) same);
  };
  answers = subst (λ ks. (o : ℕ) → o < block_size ks t → R (values_at ks t o) (get_or b.entries o zero_g)) (sym e) answers;
}

-- ---- the legs of what is made

pub fused_shape : (c : CombinerValue) (first : ℕ) (t : BlockedValue) (ls : List LegValue) → IsCombiner c → IsBlocked t → t.group ≡ c.group → HasLegsAt c first t.legs → ls ≡ fused_at c first t.legs →
    All (IsLegOf t.group) ls × IsWithinLimits t.group ls t.flux
fused_shape c first t ls hc ht group at e =
    let A = take first t.legs in
    let B = drop (first + length c.legs) t.legs in
    let own : IsLegOf t.group (fused_leg c.group c.legs c.arrow) = subst (λ fs. IsLegOf fs (fused_leg c.group c.legs c.arrow)) (sym group) hc.fusable.charges in
    let w : IsWithinLimits c.group (narrow_legs c A B) t.flux =
    fused_within c A B t.flux hc (subst (λ fs. IsCanonical fs t.flux) group ht.flux.canonical) (subst (λ fs. IsWithinLimits fs (wide_legs c A B) t.flux) group (subst (λ ks. IsWithinLimits t.group ks t.flux) at.legs ht.shape)) in (
      subst (All (IsLegOf t.group)) (sym e) (All-append (IsLegOf t.group) A (fused_leg c.group c.legs c.arrow ∷ B) (All-take (IsLegOf t.group) first t.legs ht.charges)
          (All-cons (IsLegOf t.group) (fused_leg c.group c.legs c.arrow) B own (All-drop (IsLegOf t.group) (first + length c.legs) t.legs ht.charges))),
      subst (λ ks. IsWithinLimits t.group ks t.flux) (sym e) (subst (λ fs. IsWithinLimits fs (narrow_legs c A B) t.flux) (sym group) w),
    )

-- a tensor made of such blocks
pub fused_of : (c : CombinerValue) (first : ℕ) (t r : BlockedValue) (fs : List Factor) (ls : List LegValue) (q : List ℤ) (bs : List BlockValue) → fs ≡ t.group → q ≡ t.flux → ls ≡ fused_at c first t.legs →
    r ≡ record { group = fs; legs = ls; flux = q; blocks = bs } → All (IsBlock t.group ls t.flux) bs → ((xs : List ℕ) → MeetFlux t.group ls t.flux xs → IsFusedEntry c first (tensor_of t) xs (entry_in ls bs xs)) → IsFusedOf c first t r
fused_of c first t r fs ls q bs g f l e blocks answers = record {
  group = ap (λ (u : BlockedValue). u.group) e ∙ g;
  legs = ap (λ (u : BlockedValue). u.legs) e ∙ l;
  flux = ap (λ (u : BlockedValue). u.flux) e ∙ f;
  entries = made_entries (IsFusedEntry c first (tensor_of t)) r t.group ls t.flux bs (e ∙ ap₂ (λ hs p. record { group = hs; legs = ls; flux = p; blocks = bs }) g f) blocks answers;
}

pub split_of : (c : CombinerValue) (at : ℕ) (t r : BlockedValue) (fs : List Factor) (ls : List LegValue) (q : List ℤ) (bs : List BlockValue) → fs ≡ t.group → q ≡ t.flux → ls ≡ split_at c at t.legs →
    r ≡ record { group = fs; legs = ls; flux = q; blocks = bs } → All (IsBlock t.group ls t.flux) bs → ((xs : List ℕ) → MeetFlux t.group ls t.flux xs → IsSplitEntry c at (tensor_of t) xs (entry_in ls bs xs)) → IsSplitOf c at t r
split_of c at t r fs ls q bs g f l e blocks answers = record {
  group = ap (λ (u : BlockedValue). u.group) e ∙ g;
  legs = ap (λ (u : BlockedValue). u.legs) e ∙ l;
  flux = ap (λ (u : BlockedValue). u.flux) e ∙ f;
  entries = made_entries (IsSplitEntry c at (tensor_of t)) r t.group ls t.flux bs (e ∙ ap₂ (λ hs p. record { group = hs; legs = ls; flux = p; blocks = bs }) g f) blocks answers;
}

-- ---- all entries

-- r has the parts of u and its entries
pub record IsLike (u r : BlockedValue) : Type 0 where
  pub group : r.group ≡ u.group
  pub legs : r.legs ≡ u.legs
  pub flux : r.flux ≡ u.flux
  pub entries : (xs : List ℕ) → entry_of (tensor_of r) xs ≡ entry_of (tensor_of u) xs

pub are_fused : (c : CombinerValue) (first : ℕ) (t u r : BlockedValue) → IsCombiner c → IsBlocked t → IsBlocked u → t.group ≡ c.group → HasLegsAt c first t.legs → IsFusedOf c first t u → IsLike u r →
    AreFused c (take first t.legs) (drop (first + length c.legs) t.legs) (tensor_of t) (tensor_of r)
are_fused c first t u r hc ht hu group at m like = record {
  group = like.group ∙ m.group;
  flux = like.flux ∙ m.flux;
  wide_legs = at.legs;
  narrow_legs = like.legs ∙ m.legs;
  entries = λ ps us qs w lp st.
      like.entries (ps ++ (w ∷ qs))
      ∙ fused_all c hc (take first t.legs) (drop (first + length c.legs) t.legs) t u ht hu group (m.group ∙ group) m.flux at.legs m.legs
      (λ xs k. subst (λ n. IsFusedEntry c n (tensor_of t) xs (entry_of (tensor_of u) xs)) (sym (take_length first t.legs at.within)) (m.entries xs k)) ps us qs w lp st;
}

pub are_split : (c : CombinerValue) (at : ℕ) (t u r : BlockedValue) → IsCombiner c → IsBlocked t → IsBlocked u → t.group ≡ c.group → HasFusedAt c at t.legs → IsSplitOf c at t u → IsLike u r →
    AreFused c (take at t.legs) (drop (at + 1) t.legs) (tensor_of r) (tensor_of t)
are_split c at t u r hc ht hu group place m like = record {
  group = sym (like.group ∙ m.group);
  flux = sym (like.flux ∙ m.flux);
  wide_legs = like.legs ∙ m.legs;
  narrow_legs = place.legs;
  entries = λ ps us qs w lp st.
      split_all c hc (take at t.legs) (drop (at + 1) t.legs) u t hu ht (m.group ∙ group) group (sym m.flux) m.legs place.legs
      (λ xs k. subst (λ n. IsSplitEntry c n (tensor_of t) xs (entry_of (tensor_of u) xs)) (sym (take_length at t.legs place.within)) (m.entries xs k)) ps us qs w lp st
      ∙ sym (like.entries (ps ++ (us ++ qs)));
}

-- ---- with what the calls told

pub source_len : (ls : List LegValue) (first : ℕ) (a x : List ℕ) (ks : List LegValue) (ss : List ℕ) → IsSourceAt ls first a x → ks ≡ drop first ls → ss ≡ x → IsTuple ks ss × (block_size ks ss ≤ 4194304)
source_len ls first a x ks ss p e f = (
  subst (λ js. IsTuple js ss) (sym e) (subst (IsTuple (drop first ls)) (sym f) p.tuple),
  subst (λ js. block_size js ss ≤ 4194304) (sym e) (subst (λ ys. block_size (drop first ls) ys ≤ 4194304) (sym f) p.small),
)

pub is_source_of : (t : BlockedValue) (first : ℕ) (a s b : List ℕ) (es : List Gaussian) (n : ℕ) → IsBlocked t → length a ≡ first → IsBlockAt t.legs (a ++ (s ++ b)) → es ≡ entries_at t.blocks (a ++ (s ++ b)) →
    n ≡ block_size (drop first t.legs) (s ++ b) → IsSource (block_size (take first t.legs) a) (record { entries = es; len = n })
is_source_of t first a s b es n h e k f g =
    subst (λ xs. IsSource (block_size (take first t.legs) a) (record { entries = xs; len = n })) (sym f)
    (subst (λ m. IsSource (block_size (take first t.legs) a) (record { entries = entries_at t.blocks (a ++ (s ++ b)); len = m })) (sym g) (is_source t first a s b h e k))

pub each_start : (P : List ℕ → Type 0) (starts : List StartValue) (ts : List (List ℕ)) → map (λ (s : StartValue). s.tuple) starts ≡ ts → All P ts → (k : ℕ) (d : StartValue) → k < length starts → P (get_or starts k d).tuple
each_start P [] ts e h k d lt = absurd (omega arith)
each_start P (s ∷ starts) ts e h zero d lt = subst P refl (h0 ts (sym e) h)
  where
    h0 : (us : List (List ℕ)) → us ≡ map (λ (r : StartValue). r.tuple) (s ∷ starts) → All P us → P s.tuple
    h0 us f q = subst (All P) f q 0 s.tuple (omega arith)
each_start P (s ∷ starts) ts e h (suc k) d lt = each_start P starts (map (λ (r : StartValue). r.tuple) starts) refl (λ j x m. subst (All P) (sym e) h (suc j) x (omega arith)) k d (omega arith)

pub fused_block_from : (c : CombinerValue) (first : ℕ) (t : BlockedValue) (u v behind : List ℕ) (starts : List StartValue) (xs ys : List SourceValue) (legs : List LegValue) (rows : ℕ) (es : List Gaussian) → IsCombiner c → IsBlocked t →
    HasLegsAt c first t.legs → IsBlockAt (fused_at c first t.legs) u → v ≡ u → behind ≡ drop (first + 1) v → map (λ (s : StartValue). s.tuple) starts ≡ tuples_in c (get_or v first 0) →
    xs ≡ map (λ (s : StartValue). source t first (take first v) behind s.tuple) starts → ys ≡ xs → legs ≡ t.legs → rows ≡ block_size (take first legs) (take first v) → es ≡ flat_map (row ys) (upward 0 rows) → IsFusedBlock c first t u es
fused_block_from c first t u v behind starts xs ys legs rows es hc ht at hu e f ts is ys_are ls rs made =
    subst (λ w. IsFusedBlock c first t w es) e
    (fused_block_is c first t v starts ys rows es hc ht at (subst (IsBlockAt (fused_at c first t.legs)) (sym e) hu) ts
    (ys_are ∙ is ∙ ap (λ b. map (λ (s : StartValue). source t first (take first v) b s.tuple) starts) f) (rs ∙ ap (λ ks. block_size (take first ks) (take first v)) ls) made)

pub taken_tuple : (first : ℕ) (ls ks : List LegValue) (a : List ℕ) → ks ≡ ls → IsTuple (take first ls) a → block_size (take first ls) a ≤ 4194304 → IsTuple (take first ks) a × (block_size (take first ks) a ≤ 4194304)
taken_tuple first ls ks a e h s = (subst (λ js. IsTuple (take first js) a) (sym e) h, subst (λ js. block_size (take first js) a ≤ 4194304) (sym e) s)

pub blocks_behind : (ls : List LegValue) (a b y : List ℕ) (ts : List (List ℕ)) → b ≡ y → All (λ s. IsBlockAt ls (a ++ (s ++ y))) ts → All (λ s. IsBlockAt ls (a ++ (s ++ b))) ts
blocks_behind ls a b y ts e h = subst (λ z. All (λ s. IsBlockAt ls (a ++ (s ++ z))) ts) (sym e) h

pub made_ready : (t : BlockedValue) (fs : List Factor) (ks ls : List LegValue) (q : List ℤ) (bs : List BlockValue) → fs ≡ t.group → q ≡ t.flux → ks ≡ ls → IsBlocked t → All (IsLegOf t.group) ks → IsWithinLimits t.group ks t.flux →
    All (IsBlock t.group ks t.flux) bs → AreAscending bs → All (IsLegOf fs) ls × (IsFlux fs q × (IsWithinLimits fs ls q × (All (IsBlock fs ls q) bs × AreAscending bs)))
made_ready t fs ks ls q bs g f l h charges shape blocks ascending =
    subst (λ hs. All (IsLegOf hs) ls × (IsFlux hs q × (IsWithinLimits hs ls q × (All (IsBlock hs ls q) bs × AreAscending bs)))) (sym g)
    (subst (λ p. All (IsLegOf t.group) ls × (IsFlux t.group p × (IsWithinLimits t.group ls p × (All (IsBlock t.group ls p) bs × AreAscending bs)))) (sym f)
    (subst (λ js. All (IsLegOf t.group) js × (IsFlux t.group t.flux × (IsWithinLimits t.group js t.flux × (All (IsBlock t.group js t.flux) bs × AreAscending bs)))) l
    (charges, (h.flux, (shape, (blocks, ascending))))))

-- ---- a split block, with what the calls told

pub wide_of : (c : CombinerValue) (at : ℕ) (t : BlockedValue) (u v : List ℕ) → v ≡ u → IsCombiner c → IsBlocked t → HasFusedAt c at t.legs → IsTuple (split_at c at t.legs) u → block_size (split_at c at t.legs) u ≤ 4194304 → IsWideAt c at t.legs v
wide_of c at t u v e hc ht place hu small = subst (IsWideAt c at t.legs) (sym e) (wide_at c at t u hc ht place hu small)

pub same_block : (ks ls : List LegValue) (ss x : List ℕ) → ks ≡ ls → ss ≡ x → IsTuple ls x → block_size ls x ≤ 4194304 → IsTuple ks ss × (block_size ks ss ≤ 4194304)
same_block ks ls ss x e f h s = (
  subst (λ js. IsTuple js ss) (sym e) (subst (IsTuple ls) (sym f) h),
  subst (λ js. block_size js ss ≤ 4194304) (sym e) (subst (λ ys. block_size ls ys ≤ 4194304) (sym f) s),
)

pub cut_of : (c : CombinerValue) (at : ℕ) (t : BlockedValue) (u v own : List ℕ) (sector offset : ℕ) → IsCombiner c → IsBlocked t → t.group ≡ c.group → HasFusedAt c at t.legs → IsTuple (split_at c at t.legs) u →
    net t.group (split_at c at t.legs) u ≡ t.flux → block_size (split_at c at t.legs) u ≤ 4194304 → v ≡ u → own ≡ take (length c.legs) (drop at v) → IsPlace c own sector offset → IsCutAt c at t v sector offset
cut_of c at t u v own sector offset hc ht group place hu flux small e f p =
    subst (λ w. IsCutAt c at t w sector offset) (sym e)
    (cut_at c at t u sector offset hc ht group place hu flux small (subst (λ x. IsPlace c x sector offset) (f ∙ ap (λ w. take (length c.legs) (drop at w)) e) p))

-- the sizes of a cut
pub record IsCutting (offset dim len own_len rows : ℕ) : Type 0 where
  pub width_small : dim * len ≤ 4194304
  pub start_small : offset * len ≤ 4194304
  pub own_small : own_len * len ≤ 4194304
  pub within : offset * len + own_len * len ≤ dim * len
  pub small : rows * (dim * len) ≤ 4194304

pub cutting : (c : CombinerValue) (at : ℕ) (t : BlockedValue) (v : List ℕ) (sector offset dim len own_len rows : ℕ) → IsBlocked t → IsWideAt c at t.legs v → IsCutAt c at t v sector offset →
    dim ≡ (sector_at (fused_sectors c.group c.legs c.arrow) sector).dim → len ≡ block_size (drop (at + 1) t.legs) (drop (at + length c.legs) v) →
    own_len ≡ block_size c.legs (take (length c.legs) (drop at v)) → rows ≡ block_size (take at t.legs) (take at v) → IsCutting offset dim len own_len rows
cutting c at t v sector offset dim len own_len rows ht w k d l o r =
    let some : 0 < block_size (take at t.legs) (take at v) = block_some (take at t.legs) (take at v) (All-take IsSound at t.legs ht.sound) w.before in
    let N = (sector_at (fused_sectors c.group c.legs c.arrow) sector).dim * block_size (drop (at + 1) t.legs) (drop (at + length c.legs) v) in
    let one = factor_second (block_size (take at t.legs) (take at v)) N some in
    let wide : dim * len ≡ N = ap₂ ◌*◌ d l in
    let start : offset * len ≡ offset * block_size (drop (at + 1) t.legs) (drop (at + length c.legs) v) = ap (λ n. offset * n) l in
    let own : own_len * len ≡ block_size c.legs (take (length c.legs) (drop at v)) * block_size (drop (at + 1) t.legs) (drop (at + length c.legs) v) = ap₂ ◌*◌ o l in
    let whole : rows * (dim * len) ≡ block_size (take at t.legs) (take at v) * N = ap₂ ◌*◌ r wide in
    let fits = k.fits in
    let small = k.small in
    record {
      width_small = omega (arith, wide, one, small);
      start_small = omega (arith, start, fits, one, small);
      own_small = omega (arith, own, fits, one, small);
      within = omega (arith, wide, start, own, fits);
      small = omega (arith, whole, small);
    }

pub cutting_long : (c : CombinerValue) (at : ℕ) (t : BlockedValue) (v : List ℕ) (sector offset dim len rows : ℕ) (cs : List Gaussian) → IsCutAt c at t v sector offset →
    dim ≡ (sector_at (fused_sectors c.group c.legs c.arrow) sector).dim → len ≡ block_size (drop (at + 1) t.legs) (drop (at + length c.legs) v) → rows ≡ block_size (take at t.legs) (take at v) →
    cs ≡ entries_at t.blocks (take at v ++ (sector ∷ drop (at + length c.legs) v)) → (cs ≡ []) ⊎ (length cs ≡ rows * (dim * len))
cutting_long c at t v sector offset dim len rows cs k d l r e =
    subst (λ xs. (xs ≡ []) ⊎ (length xs ≡ rows * (dim * len))) (sym e)
    (subst (λ n. (entries_at t.blocks (take at v ++ (sector ∷ drop (at + length c.legs) v)) ≡ []) ⊎ (length (entries_at t.blocks (take at v ++ (sector ∷ drop (at + length c.legs) v))) ≡ n))
    (sym (ap₂ ◌*◌ r (ap₂ ◌*◌ d l))) k.long)

pub split_block_from : (c : CombinerValue) (at : ℕ) (t : BlockedValue) (u v own : List ℕ) (sector offset dim len own_len rows : ℕ) (es cs : List Gaussian) → IsCombiner c → IsBlocked t → t.group ≡ c.group → HasFusedAt c at t.legs →
    IsTuple (split_at c at t.legs) u → net t.group (split_at c at t.legs) u ≡ t.flux → block_size (split_at c at t.legs) u ≤ 4194304 → v ≡ u → own ≡ take (length c.legs) (drop at v) → IsPlace c own sector offset →
    dim ≡ (sector_at (fused_sectors c.group c.legs c.arrow) sector).dim → len ≡ block_size (drop (at + 1) t.legs) (drop (at + length c.legs) v) →
    own_len ≡ block_size c.legs own → rows ≡ block_size (take at t.legs) (take at v) → cs ≡ entries_at t.blocks (take at v ++ (sector ∷ drop (at + length c.legs) v)) →
    es ≡ flat_map (λ i. piece cs (i * (dim * len) + offset * len) (own_len * len)) (upward 0 rows) → IsSplitBlock c at t u es
split_block_from c at t u v own sector offset dim len own_len rows es cs hc ht group place hu flux small e f p d l o r is made =
    subst (λ w. IsSplitBlock c at t w es) e
    (split_block_is c at t v sector offset rows (dim * len) (offset * len) (own_len * len) es cs hc ht group place (subst (IsTuple (split_at c at t.legs)) (sym e) hu)
    (subst (λ w. net t.group (split_at c at t.legs) w ≡ t.flux) (sym e) flux) (subst (λ w. block_size (split_at c at t.legs) w ≤ 4194304) (sym e) small) (subst (λ x. IsPlace c x sector offset) f p)
    is r (ap₂ ◌*◌ d l) (ap (λ n. offset * n) l) (ap₂ ◌*◌ (o ∙ ap (block_size c.legs) f) l) made)

-- ---- where the legs stand afterwards

pub fused_placed : (c : CombinerValue) (first : ℕ) (A B ls : List LegValue) → length A ≡ first → ls ≡ narrow_legs c A B → HasFusedAt c first ls
fused_placed c first A B ls e is =
    let f = fused_leg c.group c.legs c.arrow in
    let long : length ls ≡ length A + suc (length B) = ap length is ∙ length-append A (f ∷ B) in
    let joined : narrow_legs c A B ≡ (A ++ (f ∷ [])) ++ B = sym (append_assoc A (f ∷ []) B) in
    let front : take first ls ≡ A = ap (take first) is ∙ take_front A (f ∷ B) first (sym e) in
    let back : drop (first + 1) ls ≡ B = ap (drop (first + 1)) (is ∙ joined) ∙ drop_front (A ++ (f ∷ [])) B (first + 1) (omega (arith, e, length-append A (f ∷ []))) in
    record {
      within = omega (arith, long, e);
      legs = is ∙ sym (ap₂ (narrow_legs c) front back);
    }

pub wide_placed : (c : CombinerValue) (first : ℕ) (A B ls : List LegValue) → length A ≡ first → ls ≡ wide_legs c A B → HasLegsAt c first ls
wide_placed c first A B ls e is =
    let long : length ls ≡ length A + length (c.legs ++ B) = ap length is ∙ length-append A (c.legs ++ B) in
    let joined : wide_legs c A B ≡ (A ++ c.legs) ++ B = sym (append_assoc A c.legs B) in
    let front : take first ls ≡ A = ap (take first) is ∙ take_front A (c.legs ++ B) first (sym e) in
    let back : drop (first + length c.legs) ls ≡ B = ap (drop (first + length c.legs)) (is ∙ joined) ∙ drop_front (A ++ c.legs) B (first + length c.legs) (omega (arith, e, length-append A c.legs)) in
    record {
      within = omega (arith, long, e);
      legs = is ∙ sym (ap₂ (wide_legs c) front back);
    }
