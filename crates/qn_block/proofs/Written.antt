-- Values written leg by leg, and blocks made for listed tuples.
use Rattle.std.proofs.Common.{Contains, ◌≡◌, ℕ, ℤ, zero, suc, ◌+◌, ◌*◌, ◌/◌, ◌%◌, ◌-◌, ◌≤◌, ◌<◌, List, [], ◌∷◌, ◌++◌, length, get_or, take, drop, set, arith, refl, ap, ◌∙◌, sym, subst, add-one, append_assoc, ◌⊎◌, inl, inr}
use Rattle.std.specs.List.{AllPairs}
use Rattle.std.specs.Cmp.Lexicographic.{slice_cmp}
use Rattle.std.specs.Ordering.{nat_cmp}
use Rattle.std.specs.declared.cmp.Ordering.TheVariants.{Less}
use Rattle.std.proofs.Math.Nat.{mul-div_cancel_left}
use Rattle.std.proofs.lemmas.Bool.{cases_lt}
use Rattle.std.proofs.lemmas.List.{get_or_default, get_or_append_left, length-set, take_more_set}
use Rattle.std.proofs.Math.Seq.{get_or-append_right}
use Rattle.qn_charge.specs.declared.factor.Factor.{Factor}
use Rattle.qn_gauss.specs.Gaussian.{Gaussian, zero_g}
use Rattle.qn_index.specs.Legs.{LegValue, sector_at, before}
use Rattle.qn_index.specs.Tuples.{IsTuple, IsAdmissible, net, admitted}
use Rattle.qn_index.specs.Places.{IsValues, sectors_at, values_at, offset_at, block_size}
use Rattle.qn_index.specs.Extents.{entries, IsWithinLimits}
use Rattle.qn_index.proofs.Places.{back, forth, values_in}
use Rattle.qn_index.proofs.Nets.{tuple_length}
use Rattle.qn_index.proofs.Admitted.{unlisted, admitted_ascend, block_within}
use Rattle.qn_index.proofs.Shapes.{below_product}
use Rattle.qn_value.specs.Tensors.{BlockValue, no_block, entry_in, IsBlock, AreAscending}
use Rattle.qn_block.specs.Blocked.{MeetFlux}
use Rattle.qn_block.specs.Refusals.{block_at}
use Rattle.qn_block.proofs.Lookup.{entry_found}
use Rattle.qn_index.proofs.Places.{size_suc}

-- ---- values

values_suc : (ls : List LegValue) (t : List ℕ) (i o : ℕ) (l : LegValue) → i < length ls → length t ≡ length ls → values_at (drop i ls) (drop i t) o ≡ (before (get_or ls i l).sectors (get_or t i 0) + o / block_size (drop (suc i) ls) (drop (suc i) t)) ∷ values_at (drop (suc i) ls) (drop (suc i) t) (o % block_size (drop (suc i) ls) (drop (suc i) t))
values_suc [] t i o l lt e = absurd (omega arith)
values_suc (k ∷ ls) [] i o l lt e = absurd (omega arith)
values_suc (k ∷ ls) (s ∷ ss) zero o l lt e = refl
values_suc (k ∷ ls) (s ∷ ss) (suc i) o l lt e = values_suc ls ss i o l (omega arith) (omega arith)

-- the first i values are written, and s and r are what is left to the legs from i on
pub record IsWritten (ls : List LegValue) (t : List ℕ) (i o s r : ℕ) (v : List ℕ) : Type 0 where
  pub long : length v ≡ length ls
  pub size : s ≡ block_size (drop i ls) (drop i t)
  pub below : r < s
  pub values : take i v ++ values_at (drop i ls) (drop i t) r ≡ values_at ls t o

pub record IsNext (ls : List LegValue) (t : List ℕ) (i o s r d : ℕ) (v : List ℕ) (l : LegValue) : Type 0 where
  pub dim : 0 < d
  pub size : 0 < s / d
  pub inner : r / (s / d) < d
  pub next : (x : ℕ) → x ≡ before l.sectors (get_or t i 0) + r / (s / d) → IsWritten ls t (i + 1) o (s / d) (r % (s / d)) (set v i x)

pub written_more : (ls : List LegValue) (t : List ℕ) (i o s r d : ℕ) (v : List ℕ) (l : LegValue) → IsTuple ls t → i < length ls → l ≡ get_or ls i l → d ≡ (sector_at l.sectors (get_or t i 0)).dim → IsWritten ls t i o s r v → IsNext ls t i o s r d v l
written_more ls t i o s r d v l h lt is e m =
    let n = tuple_length ls t h in
    let c = block_size (drop (i + 1) ls) (drop (i + 1) t) in
    let one : block_size (drop (suc i) ls) (drop (suc i) t) ≡ c = ap (λ k. block_size (drop k ls) (drop k t)) (sym (add-one i)) in
    let dim : (sector_at (get_or ls i l).sectors (get_or t i 0)).dim ≡ d = ap (λ (k : LegValue). (sector_at k.sectors (get_or t i 0)).dim) (sym is) ∙ sym e in
    let whole : s ≡ d * c = m.size ∙ (size_suc ls t i l lt n ∙ (ap (λ k. k * block_size (drop (suc i) ls) (drop (suc i) t)) dim ∙ ap (λ k. d * k) one)) in
    let b = below_product r d c (subst (λ k. r < k) whole m.below) in
    let p : 0 < d = omega (arith, b.1) in
    let q : s / d ≡ c = ap (λ k. k / d) whole ∙ mul-div_cancel_left c p in
    let first = before l.sectors (get_or t i 0) in
    let step : values_at (drop i ls) (drop i t) r ≡ (first + r / c) ∷ values_at (drop (i + 1) ls) (drop (i + 1) t) (r % c) =
    values_suc ls t i r l lt n
    ∙ (ap (λ (k : LegValue). (before k.sectors (get_or t i 0) + r / block_size (drop (suc i) ls) (drop (suc i) t)) ∷ values_at (drop (suc i) ls) (drop (suc i) t) (r % block_size (drop (suc i) ls) (drop (suc i) t))) (sym is)
    ∙ ap (λ k. (first + r / block_size (drop k ls) (drop k t)) ∷ values_at (drop k ls) (drop k t) (r % block_size (drop k ls) (drop k t))) (sym (add-one i))) in
    let there : i < length v = omega (arith, m.long) in
    let made : (x : ℕ) → x ≡ first + r / c → IsWritten ls t (i + 1) o c (r % c) (set v i x) = λ x f. record {
      long = length-set v i x ∙ m.long;
      size = refl;
      below = b.2;
      values =
          ap (λ ys. ys ++ values_at (drop (i + 1) ls) (drop (i + 1) t) (r % c)) (take_more_set v i x there)
          ∙ (append_assoc (take i v) (x ∷ []) (values_at (drop (i + 1) ls) (drop (i + 1) t) (r % c))
          ∙ (ap (λ y. take i v ++ (y ∷ values_at (drop (i + 1) ls) (drop (i + 1) t) (r % c))) f
          ∙ (ap (λ ys. take i v ++ ys) (sym step) ∙ m.values)));
    } in
    record {
      dim = p;
      size = subst (λ k. 0 < k) (sym q) b.0;
      inner = subst (λ k. r / k < d) (sym q) b.1;
      next = λ x f. subst (λ k. IsWritten ls t (i + 1) o k (r % k) (set v i x)) (sym q) (made x (f ∙ ap (λ k. first + r / k) q));
    }

-- ---- tuples that meet the flux

pub meets_at : (fs : List Factor) (ls : List LegValue) (q : List ℤ) (t : List ℕ) (o : ℕ) → IsTuple ls t → net fs ls t ≡ q → o < block_size ls t → MeetFlux fs ls q (values_at ls t o)
meets_at fs ls q t o h e lt = record { range = values_in ls t o h lt; flux = ap (net fs ls) (back ls t o h lt).sectors ∙ e }

-- one tuple is below another
abbrev pub Under : List ℕ → List ℕ → Type 0
Under t u = slice_cmp nat_cmp t u ≡ Less

pub admitted_pairs : (fs : List Factor) (ls : List LegValue) (q : List ℤ) → AllPairs Under (admitted fs ls q)
admitted_pairs fs ls q i j d lt h =
    subst (λ t. Under t (get_or (admitted fs ls q) j d)) (get_or_default (admitted fs ls q) i [] d (omega arith))
    (subst (λ t. Under (get_or (admitted fs ls q) i []) t) (get_or_default (admitted fs ls q) j [] d h) (admitted_ascend fs ls q i j lt h))

-- a listed tuple, and its small block
pub record IsListed (fs : List Factor) (ls : List LegValue) (q : List ℤ) (t : List ℕ) : Type 0 where
  pub admissible : IsAdmissible fs ls q t
  pub small : block_size ls t ≤ 4194304

pub listed_at : (fs : List Factor) (ls : List LegValue) (q : List ℤ) (ts : List (List ℕ)) (i : ℕ) (t : List ℕ) → IsWithinLimits fs ls q → ts ≡ admitted fs ls q → i < length ts → t ≡ get_or ts i t → IsListed fs ls q t
listed_at fs ls q ts i t w e lt is =
    let here : Contains (admitted fs ls q) t = subst (λ (us : List (List ℕ)). Contains us t) e (i, lt, sym is) in
    let a : IsAdmissible fs ls q t = unlisted fs ls q t here in
    let all : entries fs ls q ≤ 4194304 = w.entries in
    record { admissible = a; small = omega (arith, block_within fs ls q t a, all) }

-- ---- blocks that answer

pub record IsFilled (R : List ℕ → Gaussian → Type 0) (fs : List Factor) (ls : List LegValue) (q : List ℤ) (t : List ℕ) (b : BlockValue) : Type 0 where
  pub tuple : b.tuple ≡ t
  pub block : IsBlock fs ls q b
  pub answers : (o : ℕ) → o < block_size ls t → R (values_at ls t o) (get_or b.entries o zero_g)

-- one block more
pub filled_more : (R : List ℕ → Gaussian → Type 0) (fs : List Factor) (ls : List LegValue) (q : List ℤ) (ts : List (List ℕ)) (bs : List BlockValue) (b : BlockValue) (i : ℕ) (t : List ℕ) → length bs ≡ i → i < length ts → t ≡ get_or ts i t →
    ((k : ℕ) → k < i → IsFilled R fs ls q (get_or ts k []) (block_at bs k)) → IsFilled R fs ls q t b → (k : ℕ) → k < i + 1 → IsFilled R fs ls q (get_or ts k []) (block_at (bs ++ b ∷ []) k)
filled_more R fs ls q ts bs b i t n lt is old new k h = by (cases_lt k i)
  where
    by : (k < i) ⊎ (i ≤ k) → IsFilled R fs ls q (get_or ts k []) (block_at (bs ++ b ∷ []) k)
    by (inl p) = subst (IsFilled R fs ls q (get_or ts k [])) (sym (get_or_append_left bs (b ∷ []) no_block k (omega arith))) (old k p)
    by (inr p) =
        let e : k ≡ i = omega arith in
        let z : k - length bs ≡ 0 = omega arith in
        let there : block_at (bs ++ b ∷ []) k ≡ b = get_or-append_right bs (b ∷ []) k no_block (omega arith) ∙ ap (λ j. get_or (b ∷ []) j no_block) z in
        let at : t ≡ get_or ts k [] = is ∙ (get_or_default ts i t [] lt ∙ ap (λ j. get_or ts j []) (sym e)) in
        subst (λ u. IsFilled R fs ls q u (block_at (bs ++ b ∷ []) k)) at (subst (IsFilled R fs ls q t) (sym there) new)

-- blocks of ascending tuples ascend
pub filled_ascend : (R : List ℕ → Gaussian → Type 0) (fs : List Factor) (ls : List LegValue) (q : List ℤ) (ts : List (List ℕ)) (bs : List BlockValue) → length ts ≡ length bs → AllPairs Under ts →
    ((k : ℕ) → k < length bs → IsFilled R fs ls q (get_or ts k []) (block_at bs k)) → AreAscending bs
filled_ascend R fs ls q ts bs n a h i j lt le =
    let here : get_or ts i [] ≡ (block_at bs i).tuple = sym (h i (omega arith)).tuple in
    let there : get_or ts j [] ≡ (block_at bs j).tuple = sym (h j le).tuple in
    subst (λ t. Under t (block_at bs j).tuple) here (subst (λ t. Under (get_or ts i []) t) there (a i j [] lt (omega arith)))

-- the entries of such blocks answer
pub filled_answer : (R : List ℕ → Gaussian → Type 0) (fs : List Factor) (ls : List LegValue) (q : List ℤ) (ts : List (List ℕ)) (bs : List BlockValue) (xs : List ℕ) → length ts ≡ length bs → AreAscending bs →
    ((k : ℕ) → k < length bs → IsFilled R fs ls q (get_or ts k []) (block_at bs k)) → IsValues ls xs → Contains ts (sectors_at ls xs) → R xs (entry_in ls bs xs)
filled_answer R fs ls q ts bs xs n a h v c =
    let k = c.0 in
    let lt : k < length bs = omega (arith, c.1) in
    let t = sectors_at ls xs in
    let at : get_or ts k [] ≡ t = get_or_default ts k [] t c.1 ∙ c.2 in
    let f : IsFilled R fs ls q t (block_at bs k) = subst (λ u. IsFilled R fs ls q u (block_at bs k)) at (h k lt) in
    let w = forth ls xs v in
    let e : entry_in ls bs xs ≡ get_or (block_at bs k).entries (offset_at ls xs) zero_g = entry_found ls bs xs k a lt f.tuple in
    subst (λ z. R xs z) (sym e) (subst (λ ys. R ys (get_or (block_at bs k).entries (offset_at ls xs) zero_g)) w.values (f.answers (offset_at ls xs) w.below))
