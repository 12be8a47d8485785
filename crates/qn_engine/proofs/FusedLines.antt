-- Values along the lines that a step sums: from the legs of the table to those of the tensor.
use Rattle.std.proofs.Common.{◌≡◌, ◌<◌, ℕ, zero, suc, ◌+◌, ℤ, Bool, true, false, not, ◌||◌, cond, List, [], ◌∷◌, ◌++◌, refl, sym, ◌∙◌, ap, ap₂, subst, map, length, get_or, drop, ◌⊎◌, inl, inr, int_eq, arith}
use Rattle.std.specs.List.{All}
use Rattle.std.proofs.lemmas.Bool.{or_cases, or_left, or_right, false≢true}
use Rattle.std.proofs.lemmas.List.Elements.{All-nil, All-cons}
use Rattle.qn_sign.specs.Sign.{is_in, IsDistinct}
use Rattle.qn_index.specs.Legs.{SectorValue, total}
use Rattle.qn_index.specs.Places.{IsValues}
use Rattle.qn_value.specs.Networks.{End, Assignment, same_end, values}
use Rattle.qn_value.specs.Blocks.{legs_on}
use Rattle.qn_value.proofs.NetLaws.{end_test}
use Rattle.qn_value.proofs.Sums.{label_test}
use Rattle.qn_engine.specs.declared.fusing.Source.TheVariants.{Table, Left}
use Rattle.qn_engine.specs.Labels.{place_in}
use Rattle.qn_engine.specs.Fusing.{ends_left, next_after, sources_from, source_value, IsSourceIn}

abbrev pub labels_on : List End → List ℤ
labels_on es = map (λ (e : End). e.label) es

-- the place of a label in a list that begins with another one
place_past : (m : ℤ) (ms : List ℤ) (l : ℤ) → int_eq l m ≡ false → place_in l (m ∷ ms) ≡ suc (place_in l ms)
place_past m ms l e = ap (λ b. cond b 0 (suc (place_in l ms))) e

place_here : (m : ℤ) (ms : List ℤ) → place_in m (m ∷ ms) ≡ 0
place_here m ms = ap (λ b. cond b 0 (suc (place_in m ms))) (label_test.itself m)

-- a label that is among others is not one that is not
apart : (m : ℤ) (ms : List ℤ) (l : ℤ) → is_in int_eq m ms ≡ false → is_in int_eq l ms ≡ true → int_eq l m ≡ false
apart m ms l n i = go (int_eq l m) refl
  where
    go : (b : Bool) → int_eq l m ≡ b → b ≡ false
    go false e = refl
    go true e = absurd (false≢true (sym n ∙ subst (λ k. is_in int_eq k ms ≡ true) (label_test.equal l m e) i))

-- the label of an end that is among some
pub label_there : (es : List End) (e : End) → is_in same_end e es ≡ true → is_in int_eq e.label (labels_on es) ≡ true
label_there [] e h = absurd (false≢true h)
label_there (x ∷ es) e h = go (or_cases (same_end e x) (is_in same_end e es) h) (label_there es e)
  where
    go : (same_end e x ≡ true) ⊎ (is_in same_end e es ≡ true) → (is_in same_end e es ≡ true → is_in int_eq e.label (labels_on es) ≡ true) → is_in int_eq e.label (labels_on (x ∷ es)) ≡ true
    go (inl q) ih =
        subst (λ (y : End). is_in int_eq y.label (labels_on (x ∷ es)) ≡ true) (sym (end_test.equal e x q)) (or_left (int_eq x.label x.label) (is_in int_eq x.label (labels_on es)) (label_test.itself x.label))
    go (inr q) ih = or_right (int_eq e.label x.label) (is_in int_eq e.label (labels_on es)) (ih q)

-- values that agree at each of some ends
pub values_same : (es : List End) (a c : Assignment) → ((e : End) → is_in same_end e es ≡ true → a e ≡ c e) → values es a ≡ values es c
values_same [] a c h = refl
values_same (e ∷ es) a c h =
    ap₂ ◌∷◌ (h e (or_left (same_end e e) (is_in same_end e es) (end_test.itself e))) (values_same es a c (λ f i. h f (or_right (same_end f e) (is_in same_end f es) i)))

-- where labels differ, the values that are read by their labels are all values in order
pub read_back : (es : List End) (us : List ℕ) → IsDistinct int_eq (labels_on es) → length us ≡ length es → values es (λ e. get_or us (place_in e.label (labels_on es)) 0) ≡ us
read_back [] [] d n = refl
read_back [] (u ∷ us) d n = absurd (omega (arith, n))
read_back (e ∷ es) [] d n = absurd (omega (arith, n))
read_back (e ∷ es) (u ∷ us) d n =
    ap₂ ◌∷◌ (ap (λ k. get_or (u ∷ us) k 0) (place_here e.label (labels_on es)))
    (values_same es (λ f. get_or (u ∷ us) (place_in f.label (labels_on (e ∷ es))) 0) (λ f. get_or us (place_in f.label (labels_on es)) 0)
    (λ f i. ap (λ k. get_or (u ∷ us) k 0) (place_past e.label (labels_on es) f.label (apart e.label (labels_on es) f.label d.0 (label_there es f i))))
    ∙ read_back es us d.1 (omega (arith, n)))

-- the same behind a first label that differs from these
pub read_behind : (w : End) (es : List End) (v : ℕ) (us : List ℕ) → is_in int_eq w.label (labels_on es) ≡ false → IsDistinct int_eq (labels_on es) → length us ≡ length es →
    values es (λ e. get_or (v ∷ us) (place_in e.label (labels_on (w ∷ es))) 0) ≡ us
read_behind w es v us a d n =
    values_same es (λ f. get_or (v ∷ us) (place_in f.label (labels_on (w ∷ es))) 0) (λ f. get_or us (place_in f.label (labels_on es)) 0)
    (λ f i. ap (λ k. get_or (v ∷ us) k 0) (place_past w.label (labels_on es) f.label (apart w.label (labels_on es) f.label a (label_there es f i))))
    ∙ read_back es us d n

-- the value at a last label that differs from those before it
pub read_last : (es : List End) (f : End) (us : List ℕ) (v : ℕ) → is_in int_eq f.label (labels_on es) ≡ false → length us ≡ length es → get_or (us ++ v ∷ []) (place_in f.label (labels_on (es ++ f ∷ []))) 0 ≡ v
read_last [] f [] v a n = ap (λ k. get_or (v ∷ []) k 0) (place_here f.label [])
read_last [] f (u ∷ us) v a n = absurd (omega (arith, n))
read_last (e ∷ es) f [] v a n = absurd (omega (arith, n))
read_last (e ∷ es) f (u ∷ us) v a n =
    ap (λ k. get_or (u ∷ (us ++ v ∷ [])) k 0) (place_past e.label (labels_on (es ++ f ∷ [])) f.label (first (int_eq f.label e.label) (is_in int_eq f.label (labels_on es)) a))
    ∙ read_last es f us v (second (int_eq f.label e.label) (is_in int_eq f.label (labels_on es)) a) (omega (arith, n))
  where
    first : (b c : Bool) → (b || c) ≡ false → b ≡ false
    first false c h = refl
    first true c h = h

    second : (b c : Bool) → (b || c) ≡ false → c ≡ false
    second false c h = h
    second true c h = absurd (false≢true (sym h))

-- a value that is read by its label is in the range of its line
pub read_range : (sectors : ℤ → List SectorValue) (es : List End) (us : List ℕ) → IsValues (legs_on sectors es) us → (l : ℤ) → is_in int_eq l (labels_on es) ≡ true →
    get_or us (place_in l (labels_on es)) 0 < total (sectors l)
read_range sectors [] us h l i = absurd (false≢true i)
read_range sectors (e ∷ es) [] h l i = absurd h
read_range sectors (e ∷ es) (u ∷ us) h l i = go (int_eq l e.label) refl i (read_range sectors es us h.1 l)
  where
    go : (b : Bool) → int_eq l e.label ≡ b → (b || is_in int_eq l (labels_on es)) ≡ true → (is_in int_eq l (labels_on es) ≡ true → get_or us (place_in l (labels_on es)) 0 < total (sectors l)) →
        get_or (u ∷ us) (cond b 0 (suc (place_in l (labels_on es)))) 0 < total (sectors l)
    go true q j ih = subst (λ k. u < total (sectors k)) (sym (label_test.equal l e.label q)) h.0
    go false q j ih = ih j

-- the place of a label that is there
pub place_below : (ls : List ℤ) (l : ℤ) → is_in int_eq l ls ≡ true → place_in l ls < length ls
place_below [] l i = absurd (false≢true i)
place_below (m ∷ ms) l i = go (int_eq l m) i (place_below ms l)
  where
    go : (b : Bool) → (b || is_in int_eq l ms) ≡ true → (is_in int_eq l ms ≡ true → place_in l ms < length ms) → cond b 0 (suc (place_in l ms)) < suc (length ms)
    go true j ih = omega arith
    go false j ih = omega (arith, ih j)

-- a list from a place on
from_place : (n : ℕ) (vs : List ℕ) (x : ℕ) (xs : List ℕ) → drop n vs ≡ x ∷ xs → (get_or vs n 0 ≡ x) × (drop (n + 1) vs ≡ xs) × (n < length vs)
from_place zero [] x xs e = absurd (cc e)
from_place (suc n) [] x xs e = absurd (cc e)
from_place zero (v ∷ vs) x xs e = (cc, cc, omega arith)
from_place (suc n) (v ∷ vs) x xs e = let r = from_place n vs x xs e in (r.0, ap (λ k. drop k (v ∷ vs)) next ∙ r.1, omega (arith, r.2))
  where
    next : suc n + 1 ≡ suc (n + 1)
    next = omega arith

-- the values that the tensor's legs get: each value of a line from the table, and the others in order
module _ (summed table : List ℤ) (us vs : List ℕ) (k : Assignment) (line : (e : End) → is_in int_eq e.label summed ≡ true → k e ≡ get_or us (place_in e.label table) 0) where
  pub gathered : (n : ℕ) (es : List End) → drop n vs ≡ values (ends_left summed es) k → map (source_value us vs) (sources_from table summed n (labels_on es)) ≡ values es k
  gathered n [] h = refl
  gathered n (e ∷ es) h = go (is_in int_eq e.label summed) refl h (λ m. gathered m es)
    where
      go : (b : Bool) → is_in int_eq e.label summed ≡ b → drop n vs ≡ values (cond (not b) (e ∷ ends_left summed es) (ends_left summed es)) k →
          ((m : ℕ) → drop m vs ≡ values (ends_left summed es) k → map (source_value us vs) (sources_from table summed m (labels_on es)) ≡ values es k) →
          map (source_value us vs) (cond b (Table (place_in e.label table)) (Left n) ∷ sources_from table summed (next_after (cond b (Table (place_in e.label table)) (Left n)) n) (labels_on es)) ≡ k e ∷ values es k
      go true q j ih = ap₂ ◌∷◌ (sym (line e q)) (ih n j)
      go false q j ih = let r = from_place n vs (k e) (values (ends_left summed es) k) j in ap₂ ◌∷◌ r.0 (ih (n + 1) r.1)

  pub sources_in : ((l : ℤ) → is_in int_eq l summed ≡ true → is_in int_eq l table ≡ true) → (n : ℕ) (es : List End) → drop n vs ≡ values (ends_left summed es) k →
      All (IsSourceIn (length table) (length vs)) (sources_from table summed n (labels_on es))
  sources_in there n [] h = All-nil (IsSourceIn (length table) (length vs))
  sources_in there n (e ∷ es) h = go (is_in int_eq e.label summed) refl h (λ m. sources_in there m es)
    where
      go : (b : Bool) → is_in int_eq e.label summed ≡ b → drop n vs ≡ values (cond (not b) (e ∷ ends_left summed es) (ends_left summed es)) k →
          ((m : ℕ) → drop m vs ≡ values (ends_left summed es) k → All (IsSourceIn (length table) (length vs)) (sources_from table summed m (labels_on es))) →
          All (IsSourceIn (length table) (length vs)) (cond b (Table (place_in e.label table)) (Left n) ∷ sources_from table summed (next_after (cond b (Table (place_in e.label table)) (Left n)) n) (labels_on es))
      go true q j ih =
          All-cons (IsSourceIn (length table) (length vs)) (Table (place_in e.label table)) (sources_from table summed n (labels_on es)) (place_below table e.label (there e.label q)) (ih n j)
      go false q j ih =
          let r = from_place n vs (k e) (values (ends_left summed es) k) j in
          All-cons (IsSourceIn (length table) (length vs)) (Left n) (sources_from table summed (n + 1) (labels_on es)) r.2 (ih (n + 1) r.1)
