-- Sums over values, as sums over offsets in one sector.
use Rattle.std.proofs.Common.{◌≡◌, ℕ, zero, suc, ◌+◌, ◌-◌, ◌<◌, ◌==◌, ℤ, Bool, true, false, ◌&&◌, cond, List, [], ◌∷◌, refl, sym, ◌∙◌, ap, ap₂, nat_lt, ne_eqb, arith, int_eq}
use mathlib.Core.Path.{fun_ext}
use Rattle.std.proofs.lemmas.Bool.{or_left, or_right}
use Rattle.std.proofs.lemmas.Bool.Decides.{nat_tests}
use Rattle.qn_sign.specs.Sign.{is_in, IsDistinct}
use Rattle.qn_gauss.specs.Gaussian.{Gaussian, zero_g, add_g}
use Rattle.qn_value.specs.Networks.{End, Bond, Assignment, assign, in_end, out_end, sum_below, sums, same_end, pairs_of, labels}
use Rattle.qn_value.specs.Rows.{when, meet_on}
use Rattle.qn_index.specs.Legs.{SectorValue, total, sector_at, sector_of, offset_in}
use Rattle.qn_value.specs.Blocks.{to_sectors, to_offsets, bonds_in, HaveSectors}
use Rattle.qn_gauss.proofs.Ring.{add_assoc, add_zero}
use Rattle.qn_value.proofs.Sums.{label_test, sum_below-zero}
use Rattle.qn_value.proofs.NetLaws.{end_test}
use Rattle.qn_value.proofs.RowsLemmas.{zero_add, agrees, agrees_more, same_two}

-- the sum over a first part and the rest
pub sum_below-split : (n m : ℕ) (f : ℕ → Gaussian) → sum_below (n + m) f ≡ add_g (sum_below n f) (sum_below m (λ v. f (n + v)))
sum_below-split n zero f = ap (λ k. sum_below k f) plain ∙ sym (add_zero (sum_below n f))
  where
    plain : n + 0 ≡ n
    plain = omega arith
sum_below-split n (suc m) f =
    ap (λ k. sum_below k f) next
    ∙ ap (λ x. add_g x (f (n + m))) (sum_below-split n m f)
    ∙ add_assoc (sum_below n f) (sum_below m (λ v. f (n + v))) (f (n + m))
  where
    next : n + suc m ≡ suc (n + m)
    next = omega arith

pub sum_below-congr : (n : ℕ) (f g : ℕ → Gaussian) → ((v : ℕ) → v < n → f v ≡ g v) → sum_below n f ≡ sum_below n g
sum_below-congr zero f g h = refl
sum_below-congr (suc n) f g h = ap₂ add_g (sum_below-congr n f g (λ v l. h v (omega arith))) (h n (omega arith))

pub lt_true : (v d : ℕ) → v < d → nat_lt v d ≡ true
lt_true v d h = grind (arith, nat_tests)

pub lt_false : (v d : ℕ) → nat_lt (d + v) d ≡ false
lt_false v d = grind (arith, nat_tests)

pub back : (d v : ℕ) → (d + v) - d ≡ v
back d v = omega arith

-- of the values, those in one sector count
pub sum_sector : (ps : List SectorValue) (s : ℕ) (h : ℕ → Gaussian) →
    sum_below (total ps) (λ v. when (sector_of ps v == s) (h (offset_in ps v))) ≡ sum_below (sector_at ps s).dim h
sum_sector [] s h = refl
sum_sector (p ∷ ps) zero h =
    let d : ℕ = p.dim in
    sum_below-split d (total ps) (λ v. when (sector_of (p ∷ ps) v == 0) (h (offset_in (p ∷ ps) v)))
    ∙ ap₂ add_g
    (sum_below-congr d _ h (λ v l. ap (λ b. when (cond b 0 (suc (sector_of ps (v - d))) == 0) (h (cond b v (offset_in ps (v - d))))) (lt_true v d l)))
    (ap (sum_below (total ps)) (fun_ext (λ v. ap (λ b. when (cond b 0 (suc (sector_of ps ((d + v) - d))) == 0) (h (cond b (d + v) (offset_in ps ((d + v) - d))))) (lt_false v d)
    ∙ ap (λ b. when b (h (offset_in ps ((d + v) - d)))) (ne_eqb (suc (sector_of ps ((d + v) - d))) 0 (λ e. omega (arith, e))))) ∙ sum_below-zero (total ps))
    ∙ add_zero (sum_below d h)
sum_sector (p ∷ ps) (suc s) h =
    let d : ℕ = p.dim in
    sum_below-split d (total ps) (λ v. when (sector_of (p ∷ ps) v == suc s) (h (offset_in (p ∷ ps) v)))
    ∙ ap₂ add_g
    (sum_below-congr d _ (λ v. zero_g) (λ v l. ap (λ b. when (cond b 0 (suc (sector_of ps (v - d))) == suc s) (h (cond b v (offset_in ps (v - d))))) (lt_true v d l)
    ∙ ap (λ b. when b (h v)) (ne_eqb 0 (suc s) (λ e. omega (arith, e)))) ∙ sum_below-zero d)
    (ap (sum_below (total ps)) (fun_ext (λ v. ap (λ b. when (cond b 0 (suc (sector_of ps ((d + v) - d))) == suc s) (h (cond b (d + v) (offset_in ps ((d + v) - d))))) (lt_false v d)
    ∙ ap (λ w. when (suc (sector_of ps w) == suc s) (h (offset_in ps w))) (back d v)
    ∙ ap (λ b. when b (h (offset_in ps v))) (same_suc (sector_of ps v) s))) ∙ sum_sector ps s h)
    ∙ zero_add (sum_below (sector_at ps s).dim h)
  where
    same_suc : (m n : ℕ) → (suc m == suc n) ≡ (m == n)
    same_suc m n = grind (arith, nat_tests)

-- the sector and the offset of a value that is given to a line

pub sectors-assign : (sectors : ℤ → List SectorValue) (a : Assignment) (l : ℤ) (v : ℕ) → to_sectors sectors (assign a l v) ≡ assign (to_sectors sectors a) l (sector_of (sectors l) v)
sectors-assign sectors a l v = fun_ext (λ e. go e.label (a e) (int_eq e.label l) refl)
  where
    go : (m : ℤ) (x : ℕ) (b : Bool) → int_eq m l ≡ b → sector_of (sectors m) (cond b v x) ≡ cond b (sector_of (sectors l) v) (sector_of (sectors m) x)
    go m x true e = ap (λ k. sector_of (sectors k) v) (label_test.equal m l e)
    go m x false e = refl

pub offsets-assign : (sectors : ℤ → List SectorValue) (a : Assignment) (l : ℤ) (v : ℕ) → to_offsets sectors (assign a l v) ≡ assign (to_offsets sectors a) l (offset_in (sectors l) v)
offsets-assign sectors a l v = fun_ext (λ e. go e.label (a e) (int_eq e.label l) refl)
  where
    go : (m : ℤ) (x : ℕ) (b : Bool) → int_eq m l ≡ b → offset_in (sectors m) (cond b v x) ≡ cond b (offset_in (sectors l) v) (offset_in (sectors m) x)
    go m x true e = ap (λ k. offset_in (sectors k) v) (label_test.equal m l e)
    go m x false e = refl

when-swap : (p q : Bool) (x : Gaussian) → when p (when q x) ≡ when q (when p x)
when-swap true true x = refl
when-swap true false x = refl
when-swap false true x = refl
when-swap false false x = refl

pub sum_below-when : (b : Bool) (n : ℕ) (f : ℕ → Gaussian) → sum_below n (λ v. when b (f v)) ≡ when b (sum_below n f)
sum_below-when true n f = refl
sum_below-when false n f = sum_below-zero n

-- a sum over bonds in which one sector of each counts, which is that of both its ends
pub sums_sector : (sectors : ℤ → List SectorValue) (bs : List Bond) (es : List End) (f : Assignment → Gaussian) (k : Assignment) → IsDistinct int_eq (labels bs) → HaveSectors sectors bs →
    ((e : End) → is_in same_end e (pairs_of bs) ≡ true → is_in same_end e es ≡ true) → (a : Assignment) →
    sums bs (λ c. when (agrees [] es (to_sectors sectors c) k) (f (to_offsets sectors c))) a ≡
    when (meet_on bs k && agrees bs es (to_sectors sectors a) k) (sums (bonds_in sectors k bs) f (to_offsets sectors a))
sums_sector sectors [] es f k u r inside a = refl
sums_sector sectors (b ∷ bs) es f k u r inside a =
    let at_in : is_in same_end (in_end b) es ≡ true = inside (in_end b) (or_left (same_end (in_end b) (in_end b)) (is_in same_end (in_end b) (out_end b ∷ pairs_of bs)) (end_test.itself (in_end b))) in
    let at_out : is_in same_end (out_end b) es ≡ true =
    inside (out_end b) (or_right (same_end (out_end b) (in_end b)) (is_in same_end (out_end b) (out_end b ∷ pairs_of bs)) (or_left (same_end (out_end b) (out_end b)) (is_in same_end (out_end b) (pairs_of bs)) (end_test.itself (out_end b)))) in
    let ds : List SectorValue = sectors b.label in
    let all : Bool = ((k (in_end b) == k (out_end b)) && meet_on bs k) && agrees (b ∷ bs) es (to_sectors sectors a) k in
    let inner : ℕ → Gaussian = λ o. sums (bonds_in sectors k bs) f (assign (to_offsets sectors a) b.label o) in
    ap (λ n. sum_below n (λ v. sums bs (λ c. when (agrees [] es (to_sectors sectors c) k) (f (to_offsets sectors c))) (assign a b.label v))) r.0
    ∙ ap (sum_below (total ds)) (fun_ext (λ v.
    sums_sector sectors bs es f k u.1 r.1 (λ e i. inside e (or_right (same_end e (in_end b)) (is_in same_end e (out_end b ∷ pairs_of bs)) (or_right (same_end e (out_end b)) (is_in same_end e (pairs_of bs)) i))) (assign a b.label v)
    ∙ ap₂ (λ (s : Assignment) (o : Assignment). when (meet_on bs k && agrees bs es s k) (sums (bonds_in sectors k bs) f o)) (sectors-assign sectors a b.label v) (offsets-assign sectors a b.label v)
    ∙ ap (λ p. when (meet_on bs k && p) (inner (offset_in ds v))) (agrees_more b bs es (to_sectors sectors a) k (sector_of ds v) u.0 at_in at_out)
    ∙ same_two (sector_of ds v) (k (in_end b)) (k (out_end b)) (meet_on bs k) (agrees (b ∷ bs) es (to_sectors sectors a) k) (inner (offset_in ds v))
    ∙ when-swap (sector_of ds v == k (in_end b)) all (inner (offset_in ds v))))
    ∙ sum_below-when all (total ds) (λ v. when (sector_of ds v == k (in_end b)) (inner (offset_in ds v)))
    ∙ ap (when all) (sum_sector ds (k (in_end b)) inner)
