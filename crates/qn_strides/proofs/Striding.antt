-- Strides of a block, made leg by leg.
use Rattle.std.proofs.Common.{◌≡◌, ◌≤◌, ◌<◌, ◌/◌, ◌*◌, ℕ, zero, suc, ◌+◌, List, [], ◌∷◌, ◌++◌, refl, sym, ◌∙◌, ap, subst, length, get_or, take, drop, add-one, arith}
use Rattle.std.specs.List.{All}
use Rattle.std.proofs.lemmas.List.{take_all, take_more}
use Rattle.std.proofs.Math.Nat.{mul-div_cancel_left, mul-le-mul_right}
use Rattle.qn_index.specs.Legs.{LegValue, IsSound, IsLeg, HasDim, no_sector, sector_at}
use Rattle.qn_index.specs.Tuples.{IsTuple}
use Rattle.qn_index.specs.Places.{block_size}
use Rattle.qn_index.proofs.Nets.{tuple_at}
use Rattle.qn_value.specs.Local.{no_leg}
use Rattle.qn_strides.specs.Strides.{in_place, SummedValue, summed_axes, strides, stride_at, KeptValue, kept_axes, IsKept, IsSummed}
use Rattle.qn_index.proofs.Admitted.{block_some}

pub record IsStriding (ls : List LegValue) (t : List ℕ) (i size : ℕ) (out : List ℕ) : Type 0 where
  pub made : out ≡ take i (strides ls t)
  pub size_is : size ≡ block_size (drop i ls) (drop i t)

pub stride_is : (ls : List LegValue) (t : List ℕ) (i d : ℕ) → IsTuple ls t → i < length ls → get_or (strides ls t) i d ≡ block_size (drop (suc i) ls) (drop (suc i) t)
stride_is [] t i d h lt = absurd (omega arith)
stride_is (l ∷ ls) [] i d h lt = absurd h
stride_is (l ∷ ls) (s ∷ ss) zero d h lt = refl
stride_is (l ∷ ls) (s ∷ ss) (suc i) d h lt = stride_is ls ss i d h.1 (omega arith)

pub size_step : (ls : List LegValue) (t : List ℕ) (i : ℕ) (l : LegValue) → IsTuple ls t → i < length ls →
    block_size (drop i ls) (drop i t) ≡ (sector_at (get_or ls i l).sectors (get_or t i 0)).dim * block_size (drop (suc i) ls) (drop (suc i) t)
size_step [] t i l h lt = absurd (omega arith)
size_step (k ∷ ls) [] i l h lt = absurd h
size_step (k ∷ ls) (s ∷ ss) zero l h lt = refl
size_step (k ∷ ls) (s ∷ ss) (suc i) l h lt = size_step ls ss i l h.1 (omega arith)

pub strides_long : (ls : List LegValue) (t : List ℕ) → IsTuple ls t → length (strides ls t) ≡ length ls
strides_long [] t h = refl
strides_long (l ∷ ls) [] h = absurd h
strides_long (l ∷ ls) (s ∷ ss) h = ap suc (strides_long ls ss h.1)

pub striding_more : (ls : List LegValue) (t : List ℕ) (i size d next : ℕ) (l : LegValue) (out : List ℕ) → IsTuple ls t → i < length ls → l ≡ get_or ls i l → 0 < d → d ≡ (sector_at l.sectors (get_or t i 0)).dim →
    next ≡ size / d → IsStriding ls t i size out → IsStriding ls t (i + 1) next (out ++ next ∷ [])
striding_more ls t i size d next l out h lt e pos f g k =
    let whole : size ≡ d * block_size (drop (suc i) ls) (drop (suc i) t) =
    k.size_is ∙ size_step ls t i l h lt ∙ ap (λ x. x * block_size (drop (suc i) ls) (drop (suc i) t)) (sym (f ∙ ap (λ (m : LegValue). (sector_at m.sectors (get_or t i 0)).dim) e)) in
    let rest : next ≡ block_size (drop (suc i) ls) (drop (suc i) t) = g ∙ ap (λ x. x / d) whole ∙ mul-div_cancel_left (block_size (drop (suc i) ls) (drop (suc i) t)) pos in
    record {
      made =
          (λ j. k.made j ++ (rest ∙ sym (stride_is ls t i 0 h lt)) j ∷ [])
          ∙ sym (take_more (strides ls t) i 0 (omega (arith, lt, strides_long ls t h)));
      size_is = rest ∙ ap (λ n. block_size (drop n ls) (drop n t)) (sym (add-one i));
    }

pub striding_all : (ls : List LegValue) (t : List ℕ) (i size : ℕ) (out : List ℕ) → IsTuple ls t → i ≡ length ls → IsStriding ls t i size out → out ≡ strides ls t
striding_all ls t i size out h e k = k.made ∙ take_all i (strides ls t) (omega (arith, e, strides_long ls t h))

pub dim_good : (ls : List LegValue) (t : List ℕ) (i : ℕ) (l : LegValue) → All IsSound ls → IsTuple ls t → i < length ls → l ≡ get_or ls i l → HasDim (sector_at l.sectors (get_or t i 0))
dim_good ls t i l sound h lt e =
    let leg : IsLeg l.sectors = subst IsSound (sym e) (sound i l lt) in
    leg.dims (get_or t i 0) no_sector (subst (λ (m : LegValue). get_or t i 0 < length m.sectors) (sym e) (tuple_at ls t i l h lt))

pub product_grows : (a b : ℕ) → 0 < a → b ≤ a * b
product_grows a b h =
    let k : 1 * b ≤ a * b = mul-le-mul_right b (one a h) in
    omega (arith, k)
  where
    one : (n : ℕ) → 0 < n → 1 ≤ n
    one n l = omega (arith, l)

pub strides_small : (ls : List LegValue) (t : List ℕ) (m : ℕ) → All IsSound ls → IsTuple ls t → block_size ls t ≤ m → All (λ w. w ≤ m) (strides ls t)
strides_small [] t m sound h b k d lt = absurd (omega arith)
strides_small (l ∷ ls) [] m sound h b k d lt = absurd h
strides_small (l ∷ ls) (s ∷ ss) m sound h b k d lt = go (λ le. strides_small ls ss m (λ i x l. sound (suc i) x (omega arith)) h.1 le) k d lt
  where
    good : HasDim (sector_at l.sectors s)
    good = dim_good (l ∷ ls) (s ∷ ss) 0 l sound h (omega arith) refl

    below : block_size ls ss ≤ m
    below = omega (arith, b, product_grows (sector_at l.sectors s).dim (block_size ls ss) good.0)

    go : (block_size ls ss ≤ m → All (λ w. w ≤ m) (strides ls ss)) → (i e : ℕ) → i < suc (length (strides ls ss)) → get_or (block_size ls ss ∷ strides ls ss) i e ≤ m
    go ih zero e l = below
    go ih (suc i) e l = ih below i e (omega arith)

pub all_last : {A : Type 0} (P : A → Type 0) (xs : List A) (x : A) → All P xs → P x → All P (xs ++ x ∷ [])
all_last P [] x h p zero d lt = p
all_last P [] x h p (suc k) d lt = absurd (omega arith)
all_last P (y ∷ ys) x h p zero d lt = h 0 d (omega arith)
all_last P (y ∷ ys) x h p (suc k) d lt = all_last P ys x (λ i e l. h (suc i) e (omega arith)) p k d (omega arith)

-- the axes of one couple more
pub summed_axes_next : (ls : List LegValue) (t : List ℕ) (cs : List (ℕ × ℕ)) (i : ℕ) (d : ℕ × ℕ) (axes : List SummedValue) (x : SummedValue) → i < length cs → axes ≡ summed_axes ls t (take i cs) →
    x.len ≡ (sector_at (get_or ls (in_place ls (get_or cs i d)) no_leg).sectors (get_or t (in_place ls (get_or cs i d)) 0)).dim → x.stride ≡ stride_at ls t (get_or cs i d).0 + stride_at ls t (get_or cs i d).1 →
    axes ++ x ∷ [] ≡ summed_axes ls t (take (i + 1) cs)
summed_axes_next ls t cs i d axes x lt f g h =
    ap (λ ys. ys ++ x ∷ []) f
    ∙ (λ j. summed_axes ls t (take i cs) ++ record { len = g j; stride = h j } ∷ [])
    ∙ sym (last (take i cs) (get_or cs i d))
    ∙ ap (summed_axes ls t) (sym (take_more cs i d lt))
  where
    last : (ds : List (ℕ × ℕ)) (d : ℕ × ℕ) → summed_axes ls t (ds ++ d ∷ []) ≡ summed_axes ls t ds ++ summed_axes ls t (d ∷ [])
    last [] d = refl
    last (e ∷ ds) d = ap (λ ys. summed_axes ls t (e ∷ []) ++ ys) (last ds d)

-- the axes of the first couples
pub record AreSummed (ls : List LegValue) (t : List ℕ) (cs : List (ℕ × ℕ)) (i : ℕ) (axes : List SummedValue) : Type 0 where
  pub made : axes ≡ summed_axes ls t (take i cs)
  pub small : All IsSummed axes

pub axes_first : (ls : List LegValue) (t : List ℕ) (cs : List (ℕ × ℕ)) → AreSummed ls t cs 0 []
axes_first ls t cs = record { made = refl; small = λ k d lt. absurd (omega arith) }

pub axes_more : (ls : List LegValue) (t : List ℕ) (cs : List (ℕ × ℕ)) (i : ℕ) (d : ℕ × ℕ) (axes : List SummedValue) (x : SummedValue) → i < length cs → AreSummed ls t cs i axes →
    x.len ≡ (sector_at (get_or ls (in_place ls (get_or cs i d)) no_leg).sectors (get_or t (in_place ls (get_or cs i d)) 0)).dim → x.stride ≡ stride_at ls t (get_or cs i d).0 + stride_at ls t (get_or cs i d).1 → IsSummed x →
    AreSummed ls t cs (i + 1) (axes ++ x ∷ [])
axes_more ls t cs i d axes x lt h f g small = record {
  made = summed_axes_next ls t cs i d axes x lt h.made f g;
  small = all_last IsSummed axes x h.small small;
}

-- ---- the open legs

pub stride_some : (ls : List LegValue) (t : List ℕ) (i : ℕ) → All IsSound ls → IsTuple ls t → i < length ls → 0 < block_size (drop (suc i) ls) (drop (suc i) t)
stride_some [] t i sound h lt = absurd (omega arith)
stride_some (l ∷ ls) [] i sound h lt = absurd h
stride_some (l ∷ ls) (s ∷ ss) zero sound h lt = block_some ls ss (λ i x m. sound (suc i) x (omega arith)) h.1
stride_some (l ∷ ls) (s ∷ ss) (suc i) sound h lt = stride_some ls ss i (λ j x m. sound (suc j) x (omega arith)) h.1 (omega arith)

no_axis : KeptValue
no_axis = record { size = 0; stride = 0 }

kept_at : (ws : List ℕ) (rs : List LegValue) (ss ps : List ℕ) (i : ℕ) → IsTuple rs ss → length ps ≡ length rs → i < length rs →
    get_or (kept_axes ws rs ss ps) i no_axis ≡ record { size = block_size (drop (suc i) rs) (drop (suc i) ss); stride = get_or ws (get_or ps i 0) 0 }
kept_at ws [] ss ps i h n lt = absurd (omega arith)
kept_at ws (r ∷ rs) [] ps i h n lt = absurd h
kept_at ws (r ∷ rs) (s ∷ ss) [] i h n lt = absurd (omega arith)
kept_at ws (r ∷ rs) (s ∷ ss) (p ∷ ps) zero h n lt = refl
kept_at ws (r ∷ rs) (s ∷ ss) (p ∷ ps) (suc i) h n lt = kept_at ws rs ss ps i h.1 (omega arith) (omega arith)

pub kept_long : (ws : List ℕ) (rs : List LegValue) (ss ps : List ℕ) → IsTuple rs ss → length ps ≡ length rs → length (kept_axes ws rs ss ps) ≡ length rs
kept_long ws [] ss ps h n = refl
kept_long ws (r ∷ rs) [] ps h n = absurd h
kept_long ws (r ∷ rs) (s ∷ ss) [] h n = absurd (omega arith)
kept_long ws (r ∷ rs) (s ∷ ss) (p ∷ ps) h n = ap suc (kept_long ws rs ss ps h.1 (omega arith))

pub record IsKeeping (ws : List ℕ) (rs : List LegValue) (ss ps : List ℕ) (i size : ℕ) (out : List KeptValue) : Type 0 where
  pub made : out ≡ take i (kept_axes ws rs ss ps)
  pub size_is : size ≡ block_size (drop i rs) (drop i ss)
  pub kept : All IsKept out

pub keeping_first : (ws : List ℕ) (rs : List LegValue) (ss ps : List ℕ) (size : ℕ) → size ≡ block_size rs ss → IsKeeping ws rs ss ps 0 size []
keeping_first ws rs ss ps size e = record { made = refl; size_is = e; kept = λ k d lt. absurd (omega arith) }

pub keeping_more : (ws : List ℕ) (rs : List LegValue) (ss ps : List ℕ) (i size d next stride : ℕ) (l : LegValue) (out : List KeptValue) → All IsSound rs → IsTuple rs ss → length ps ≡ length rs → i < length rs → l ≡ get_or rs i l →
    0 < d → d ≡ (sector_at l.sectors (get_or ss i 0)).dim → next ≡ size / d → stride ≡ get_or ws (get_or ps i 0) 0 → stride ≤ 4194304 → IsKeeping ws rs ss ps i size out →
    IsKeeping ws rs ss ps (i + 1) next (out ++ record { size = next; stride = stride } ∷ [])
keeping_more ws rs ss ps i size d next stride l out sound h n lt e pos f g w small k =
    let whole : size ≡ d * block_size (drop (suc i) rs) (drop (suc i) ss) =
    k.size_is ∙ size_step rs ss i l h lt ∙ ap (λ x. x * block_size (drop (suc i) rs) (drop (suc i) ss)) (sym (f ∙ ap (λ (m : LegValue). (sector_at m.sectors (get_or ss i 0)).dim) e)) in
    let rest : next ≡ block_size (drop (suc i) rs) (drop (suc i) ss) = g ∙ ap (λ x. x / d) whole ∙ mul-div_cancel_left (block_size (drop (suc i) rs) (drop (suc i) ss)) pos in
    record {
      made =
          (λ j. k.made j ++ ((λ m. record { size = rest m; stride = w m }) ∙ sym (kept_at ws rs ss ps i h n lt)) j ∷ [])
          ∙ sym (take_more (kept_axes ws rs ss ps) i no_axis (omega (arith, lt, kept_long ws rs ss ps h n)));
      size_is = rest ∙ ap (λ m. block_size (drop m rs) (drop m ss)) (sym (add-one i));
      kept = all_last IsKept out (record { size = next; stride = stride }) k.kept (omega (arith, rest, stride_some rs ss i sound h lt), small);
    }

pub keeping_all : (ws : List ℕ) (rs : List LegValue) (ss ps : List ℕ) (i size : ℕ) (out : List KeptValue) → IsTuple rs ss → length ps ≡ length rs → i ≡ length rs → IsKeeping ws rs ss ps i size out → out ≡ kept_axes ws rs ss ps
keeping_all ws rs ss ps i size out h n e k = k.made ∙ take_all i (kept_axes ws rs ss ps) (omega (arith, e, kept_long ws rs ss ps h n))

pub summed_long : (ls : List LegValue) (t : List ℕ) (cs : List (ℕ × ℕ)) → length (summed_axes ls t cs) ≡ length cs
summed_long ls t [] = refl
summed_long ls t (c ∷ cs) = ap suc (summed_long ls t cs)
