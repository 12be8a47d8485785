-- The table of legs by their labels.
use Rattle.std.proofs.Common.{◌≡◌, ◌≢◌, ◌≤◌, ◌<◌, ℕ, zero, suc, ◌+◌, ◌*◌, ◌==◌, ℤ, pos, negsuc, unsigned_abs, Bool, true, false, not, ◌&&◌, cond, List, [], ◌∷◌, length, take, get_or, set, replicate, refl, sym, ◌∙◌, ap, ap₂, subst, int_eq, arith}
use Rattle.std.proofs.lemmas.Bool.{false≢true, ne_eqb}
use Rattle.std.proofs.lemmas.List.{get_or-set_same, get_or-set_other, length-set, length-replicate, get_or-replicate}
use Rattle.std.proofs.lemmas.List.Sums.{count_by_more_no, count_by_more_yes, sum_by-cons}
use Rattle.qn_value.specs.Networks.{End, same_bool, same_end}
use Rattle.qn_value.specs.Labels.{is_positive}
use Rattle.qn_value.proofs.NetLaws.{end_test}
use Rattle.qn_net.specs.Refusals.{IsLabel, tally, legs_with}
use Rattle.qn_net.specs.Tables.{digit, cell, end_at, IsFilled}

-- a cell tells the end

digits_apart : (a b : ℕ) (p i q j : Bool) → 4 * a + (2 * digit p + digit i) ≡ 4 * b + (2 * digit q + digit j) → (a ≡ b) × (p ≡ q) × (i ≡ j)
digits_apart a b true true true true e = (omega arith, refl, refl)
digits_apart a b true true true false e = absurd (omega arith)
digits_apart a b true true false true e = absurd (omega arith)
digits_apart a b true true false false e = absurd (omega arith)
digits_apart a b true false true true e = absurd (omega arith)
digits_apart a b true false true false e = (omega arith, refl, refl)
digits_apart a b true false false true e = absurd (omega arith)
digits_apart a b true false false false e = absurd (omega arith)
digits_apart a b false true true true e = absurd (omega arith)
digits_apart a b false true true false e = absurd (omega arith)
digits_apart a b false true false true e = (omega arith, refl, refl)
digits_apart a b false true false false e = absurd (omega arith)
digits_apart a b false false true true e = absurd (omega arith)
digits_apart a b false false true false e = absurd (omega arith)
digits_apart a b false false false true e = absurd (omega arith)
digits_apart a b false false false false e = (omega arith, refl, refl)

zero_from : (a : ℕ) → not (a == 0) ≡ false → a ≡ 0
zero_from zero p = refl
zero_from (suc a) p = absurd (false≢true (sym p ∙ ap not (ne_eqb (suc a) 0 (λ e. absurd (omega (arith, e))))))

labels_apart : (l m : ℤ) → unsigned_abs l ≡ unsigned_abs m → is_positive l ≡ is_positive m → l ≢ pos 0 → m ≢ pos 0 → l ≡ m
labels_apart (pos a) (pos b) e p n k = ap pos e
labels_apart (pos a) (negsuc b) e p n k = absurd (n (ap pos (zero_from a p)))
labels_apart (negsuc a) (pos b) e p n k = absurd (k (ap pos (zero_from b (sym p))))
labels_apart (negsuc a) (negsuc b) e p n k = ap negsuc (omega arith)

pub cell_apart : (e f : End) → IsLabel e.label → IsLabel f.label → cell e ≡ cell f → e ≡ f
cell_apart e f h k c =
    let d = digits_apart (unsigned_abs e.label) (unsigned_abs f.label) (is_positive e.label) e.inward (is_positive f.label) f.inward c in
    let l : e.label ≡ f.label = labels_apart e.label f.label d.0 d.1 h.0 k.0 in
    λ i. record { label = l i; inward = d.2 i }

digit_small : (b : Bool) → digit b ≤ 1
digit_small true = omega arith
digit_small false = omega arith

pub cell_below : (e : End) → unsigned_abs e.label ≤ 1024 → cell e < 4100
cell_below e h =
    let p : digit (is_positive e.label) ≤ 1 = digit_small (is_positive e.label) in
    let q : digit e.inward ≤ 1 = digit_small e.inward in
    omega arith

-- one leg more

pub fill_more : (all : List End) (i : ℕ) (e : End) (counts spots : List ℕ) → i < length all → get_or all i e ≡ e → IsLabel e.label → IsFilled all (take i all) counts spots →
    IsFilled all (take (i + 1) all) (set counts (cell e) (get_or counts (cell e) 0 + 1)) (set spots (cell e) i)
fill_more all i e counts spots l at h f = record {
  size = length-set counts (cell e) (get_or counts (cell e) 0 + 1) ∙ f.size;
  room = length-set spots (cell e) i ∙ f.room;
  counted = λ g k. count g k (same_end e g) refl;
  spotted = λ g k s. spot g k (same_end e g) refl s;
}
  where
    here : cell e < length counts
    here = let b : cell e < 4100 = cell_below e h.1 in omega (arith, f.size)

    there : cell e < length spots
    there = let b : cell e < 4100 = cell_below e h.1 in omega (arith, f.room)

    other : (g : End) → IsLabel g.label → same_end e g ≡ false → cell g ≢ cell e
    other g k s c = false≢true (sym s ∙ ap (same_end e) (cell_apart g e k h c) ∙ end_test.itself e)

    kept : (g : End) → same_end e g ≡ false → tally g (take (i + 1) all) ≡ tally g (take i all)
    kept g s = count_by_more_no (λ x. same_end x g) all i e l (ap (λ x. same_end x g) at ∙ s)

    count : (g : End) → IsLabel g.label → (b : Bool) → same_end e g ≡ b → get_or (set counts (cell e) (get_or counts (cell e) 0 + 1)) (cell g) 0 ≡ tally g (take (i + 1) all)
    count g k true s =
        let same : e ≡ g = end_test.equal e g s in
        ap (λ x. get_or (set counts (cell e) (get_or counts (cell e) 0 + 1)) (cell x) 0) (sym same)
        ∙ get_or-set_same counts (cell e) (get_or counts (cell e) 0 + 1) 0 here
        ∙ ap (λ n. n + 1) (f.counted e h ∙ ap (λ x. tally x (take i all)) same)
        ∙ sym (count_by_more_yes (λ x. same_end x g) all i e l (ap (λ x. same_end x g) at ∙ s))
    count g k false s =
        get_or-set_other counts (cell e) (cell g) (get_or counts (cell e) 0 + 1) 0 (other g k s) ∙ f.counted g k ∙ sym (kept g s)

    spot : (g : End) → IsLabel g.label → (b : Bool) → same_end e g ≡ b → 0 < tally g (take (i + 1) all) →
        (get_or (set spots (cell e) i) (cell g) 0 < length all) × (end_at all (get_or (set spots (cell e) i) (cell g) 0) ≡ g)
    spot g k true s t =
        let same : e ≡ g = end_test.equal e g s in
        let now : get_or (set spots (cell e) i) (cell g) 0 ≡ i =
        ap (λ x. get_or (set spots (cell e) i) (cell x) 0) (sym same) ∙ get_or-set_same spots (cell e) i 0 there in
        (subst (λ n. n < length all) (sym now) l, ap (end_at all) now ∙ found all i e l at ∙ same)
      where
        found : (xs : List End) (i : ℕ) (e : End) → i < length xs → get_or xs i e ≡ e → end_at xs i ≡ e
        found [] i e l at = absurd (omega arith)
        found (x ∷ xs) zero e l at = at
        found (x ∷ xs) (suc i) e l at = found xs i e (omega arith) at
    spot g k false s t =
        let now : get_or (set spots (cell e) i) (cell g) 0 ≡ get_or spots (cell g) 0 = get_or-set_other spots (cell e) (cell g) i 0 (other g k s) in
        let old = f.spotted g k (subst (λ n. 0 < n) (kept g s) t) in
        (subst (λ n. n < length all) (sym now) old.0, ap (end_at all) now ∙ old.1)

pub fill_none : (all : List End) → IsFilled all [] (replicate 4100 0) (replicate 4100 0)
fill_none all = record {
  size = length-replicate {A = ℕ} 4100 0;
  room = length-replicate {A = ℕ} 4100 0;
  counted = λ e h. get_or-replicate {A = ℕ} 4100 (cell e) 0 0 (cell_below e h.1);
  spotted = λ e h t. absurd (omega (arith, t));
}

-- the legs with a label are its two ends
pub legs_are_ends : (l : ℤ) (es : List End) → legs_with l es ≡ tally (record { label = l; inward = true }) es + tally (record { label = l; inward = false }) es
legs_are_ends l [] = refl
legs_are_ends l (e ∷ es) =
    sum_by-cons (λ x. cond (int_eq x.label l) 1 0) e es
    ∙ go (int_eq e.label l) e.inward (legs_are_ends l es)
    ∙ ap₂ ◌+◌ (sym (sum_by-cons (λ x. cond (same_end x (record { label = l; inward = true })) 1 0) e es)) (sym (sum_by-cons (λ x. cond (same_end x (record { label = l; inward = false })) 1 0) e es))
  where
    go : (b i : Bool) → legs_with l es ≡ tally (record { label = l; inward = true }) es + tally (record { label = l; inward = false }) es →
        cond b 1 0 + legs_with l es ≡
        (cond (b && same_bool i true) 1 0 + tally (record { label = l; inward = true }) es) + (cond (b && same_bool i false) 1 0 + tally (record { label = l; inward = false }) es)
    go true true ih = omega arith
    go true false ih = omega arith
    go false i ih = omega arith
