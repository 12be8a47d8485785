-- Lists that grow piece by piece.
use Rattle.std.proofs.Common.{◌≡◌, ℕ, zero, suc, ◌+◌, ◌*◌, ◌≤◌, ◌<◌, List, [], ◌∷◌, ◌++◌, length, get_or, take, drop, map, flat_map, arith, refl, ap, ap₂, ◌∙◌, sym, append_assoc, append-nil, ◌⊎◌, inl, inr}
use Rattle.qn_gauss.specs.Gaussian.{Gaussian, zero_g}
use Rattle.qn_fuse.specs.Pieces.{piece, SourceValue, IsSource}
use Rattle.qn_fuse.proofs.Moved.{in_rows}
use Rattle.std.proofs.lemmas.Grind.{flat_map-append}
use Rattle.std.proofs.lemmas.List.{take_more, map-append}
use Rattle.qn_index.specs.Tuples.{upward}
use Rattle.qn_fuse.proofs.Flat.{upward-append}

next : {X : Type 0} (xs : List X) (i : ℕ) (x : X) → i < length xs → x ≡ get_or xs i x → take (i + 1) xs ≡ take i xs ++ x ∷ []
next xs i x lt is = take_more xs i x lt ∙ ap (λ z. take i xs ++ z ∷ []) (sym is)

pub rows_more : {A : Type 0} (f : ℕ → List A) (n : ℕ) (out new : List A) → out ≡ flat_map f (upward 0 n) → new ≡ out ++ f n → new ≡ flat_map f (upward 0 (n + 1))
rows_more f n out new e q =
    q ∙ ap (λ ys. ys ++ f n) e
    ∙ ap (λ ys. flat_map f (upward 0 n) ++ ys) (sym (append-nil (f n)) ∙ ap (λ k. flat_map f (k ∷ [])) (plain n)) ∙ sym (flat_map-append f (upward 0 n) ((0 + n) ∷ []))
    ∙ ap (flat_map f) (sym (upward-append 0 n 1))
  where
    plain : (n : ℕ) → n ≡ 0 + n
    plain n = omega arith

pub map_more : {X A : Type 0} (f : X → A) (xs : List X) (i : ℕ) (x : X) (y : A) (out new : List A) → i < length xs → x ≡ get_or xs i x →
    out ≡ map f (take i xs) → new ≡ out ++ y ∷ [] → y ≡ f x → new ≡ map f (take (i + 1) xs)
map_more f xs i x y out new lt is e q v =
    q ∙ ap (λ ys. ys ++ y ∷ []) e ∙ ap (λ z. map f (take i xs) ++ z ∷ []) v ∙ sym (map-append f (take i xs) (x ∷ [])) ∙ ap (map f) (sym (next xs i x lt is))

shifted : (es : List Gaussian) (start n : ℕ) (x : Gaussian) → piece es start n ≡ piece (x ∷ es) (start + 1) n
shifted es start zero x = refl
shifted es start (suc n) x = ap₂ ◌∷◌ (ap (λ k. get_or (x ∷ es) k zero_g) (one start)) (shifted es (start + 1) n x)
  where
    one : (k : ℕ) → suc k ≡ k + 1
    one k = omega arith

zeros_are : (start n : ℕ) → piece [] start n ≡ piece [] 0 n
zeros_are start zero = refl
zeros_are start (suc n) = ap (λ ys. zero_g ∷ ys) (zeros_are (start + 1) n ∙ sym (zeros_are 1 n))

pub zeros_more : (n : ℕ) (z : Gaussian) (start out new : List Gaussian) → out ≡ start ++ piece [] 0 n → new ≡ out ++ z ∷ [] → z ≡ zero_g → new ≡ start ++ piece [] 0 (n + 1)
zeros_more n z start out new e q v =
    q ∙ ap₂ (λ ys w. ys ++ w ∷ []) e v ∙ append_assoc start (piece [] 0 n) (zero_g ∷ [])
    ∙ ap (λ ys. start ++ ys) (sym (ap (map (λ o. get_or [] o zero_g)) (upward-append 0 n 1) ∙ map-append (λ o. get_or [] o zero_g) (upward 0 n) ((0 + n) ∷ [])))

pub no_piece : (es : List Gaussian) (start n : ℕ) → es ≡ [] → piece [] 0 n ≡ piece es start n
no_piece es start n e = sym (ap (λ ys. piece ys start n) e ∙ zeros_are start n)

pub whole_piece : (es : List Gaussian) (start n : ℕ) → start + n ≤ length es → take n (drop start es) ≡ piece es start n
whole_piece [] start n le =
    let s : start ≡ 0 = omega arith in
    let m : n ≡ 0 = omega arith in
    ap₂ (λ i k. take i (drop k [])) m s ∙ sym (ap₂ (λ k i. piece [] k i) s m)
whole_piece (x ∷ es) zero zero le = refl
whole_piece (x ∷ es) zero (suc n) le = ap (λ ys. x ∷ ys) (whole_piece es 0 n (omega arith) ∙ shifted es 0 n x)
whole_piece (x ∷ es) (suc start) n le = whole_piece es start n (omega arith) ∙ shifted es start n x ∙ ap (λ k. piece (x ∷ es) k n) (one start)
  where
    one : (k : ℕ) → k + 1 ≡ suc k
    one k = omega arith

pub piece_within : (es : List Gaussian) (rows i width start n : ℕ) → i < rows → start + n ≤ width → (es ≡ []) ⊎ (length es ≡ rows * width) → (es ≡ []) ⊎ (i * width + start + n ≤ length es)
piece_within es rows i width start n lt fits (inl e) = inl e
piece_within es rows i width start n lt fits (inr e) = inr (omega (arith, e, in_rows i rows width start n lt fits))

pub row_within : (rows i : ℕ) (x : SourceValue) → i < rows → IsSource rows x → (x.entries ≡ []) ⊎ (i * x.len + x.len ≤ length x.entries)
row_within rows i x lt s = by s.long
  where
    by : (x.entries ≡ []) ⊎ (length x.entries ≡ rows * x.len) → (x.entries ≡ []) ⊎ (i * x.len + x.len ≤ length x.entries)
    by (inl e) = inl e
    by (inr e) = inr (omega (arith, e, in_rows i rows x.len 0 x.len lt (omega arith)))

pub no_entries : (es : List Gaussian) → length es ≡ 0 → es ≡ []
no_entries [] e = refl
no_entries (x ∷ es) e = absurd (omega arith)
