-- Sums over the values of the shared legs of two blocks, as sums over lists of places.
use Rattle.std.proofs.Common.{◌≡◌, ◌≤◌, ◌<◌, ◌^◌, ℕ, zero, suc, ◌+◌, ◌*◌, Bool, true, false, List, [], ◌∷◌, ◌++◌, refl, sym, ◌∙◌, ap, ap₂, subst, map, length, get_or, zero-add, add-one, add_assoc, arith}
use Rattle.std.specs.List.{All, flat_map}
use Rattle.std.proofs.lemmas.List.{map-append, length-append, append-nil, append_assoc, get_or-map}
use Rattle.qn_sign.specs.Positions.{positions}
use Rattle.qn_gauss.specs.Gaussian.{Gaussian, zero_g, add_g}
use Rattle.qn_gauss.proofs.Ring.{add_zero}
use Rattle.qn_gauss.proofs.Ring.{add_assoc as add_g_assoc, zero_add as zero_g_add}
use Rattle.qn_value.specs.Networks.{sum_below}
use Rattle.qn_value.specs.Magnitudes.{total_below}
use Rattle.qn_facts.proofs.Lists.{range_last}
use Rattle.qn_kernel.specs.Sources.{PairedValue, IsPaired, stride_in, sum_both, total_both, all_values, shared_places}

-- ---- lists of places

flat_last : {X Y : Type 0} (f : X → List Y) (xs : List X) (x : X) → flat_map f (xs ++ x ∷ []) ≡ flat_map f xs ++ f x
flat_last f [] x = append-nil (f x)
flat_last f (y ∷ ys) x = ap (λ zs. f y ++ zs) (flat_last f ys x) ∙ sym (append_assoc (f y) (flat_map f ys) (f x))

positions_last : (n : ℕ) → positions (suc n) ≡ positions n ++ n ∷ []
positions_last n = range_last 0 n ∙ ap (λ k. positions n ++ k ∷ []) (zero-add n)

-- all places are moved by one number
pub places_moved : (w : PairedValue → ℕ) (xs : List PairedValue) (p q : ℕ) → shared_places w xs (p + q) ≡ map (λ i. p + i) (shared_places w xs q)
places_moved w [] p q = refl
places_moved w (x ∷ xs) p q = go (λ v. places_moved w xs p (q + v * w x)) (positions x.len)
  where
    go : ((v : ℕ) → shared_places w xs (p + (q + v * w x)) ≡ map (λ i. p + i) (shared_places w xs (q + v * w x))) → (vs : List ℕ) → flat_map (λ v. shared_places w xs (p + q + v * w x)) vs ≡ map (λ i. p + i) (flat_map (λ v. shared_places w xs (q + v * w x)) vs)
    go ih [] = refl
    go ih (v ∷ vs) =
        ap₂ ◌++◌ (ap (shared_places w xs) (add_assoc p q (v * w x)) ∙ ih v) (go ih vs)
        ∙ sym (map-append (λ i. p + i) (shared_places w xs (q + v * w x)) (flat_map (λ u. shared_places w xs (q + u * w x)) vs))

flat_more : {Y : Type 0} (f : ℕ → List Y) (n : ℕ) → flat_map f (positions (suc n)) ≡ flat_map f (positions n) ++ f n
flat_more f n = ap (flat_map f) (positions_last n) ∙ flat_last f (positions n) n

flat_long : {Y : Type 0} (f : ℕ → List Y) (k n : ℕ) → ((v : ℕ) → length (f v) ≡ k) → length (flat_map f (positions n)) ≡ n * k
flat_long f k zero h = omega arith
flat_long f k (suc n) h = ap length (flat_more f n) ∙ length-append (flat_map f (positions n)) (f n) ∙ ap₂ ◌+◌ (flat_long f k n h) (h n) ∙ more n k
  where
    more : (a b : ℕ) → a * b + b ≡ suc a * b
    more a b = omega arith

pub places_long : (w : PairedValue → ℕ) (xs : List PairedValue) (p : ℕ) → length (shared_places w xs p) ≡ all_values xs
places_long w [] p = refl
places_long w (x ∷ xs) p = flat_long (λ v. shared_places w xs (p + v * w x)) (all_values xs) x.len (λ v. places_long w xs (p + v * w x))

place_moved : (w : PairedValue → ℕ) (xs : List PairedValue) (p z : ℕ) → z < all_values xs → get_or (shared_places w xs p) z 0 ≡ p + get_or (shared_places w xs 0) z 0
place_moved w xs p z l =
    ap (λ k. get_or (shared_places w xs k) z 0) (same p)
    ∙ ap (λ (ps : List ℕ). get_or ps z 0) (places_moved w xs p 0)
    ∙ get_or-map (λ i. p + i) (shared_places w xs 0) z 0 0 (omega (arith, l, places_long w xs 0))
  where
    same : (n : ℕ) → n ≡ n + 0
    same n = omega arith

-- ---- sums over two lists at once, in any sum that is associative

module _ {A : Type 0} (add : A → A → A) (none : A) (assoc : (a b c : A) → add (add a b) c ≡ add a (add b c)) (left : (a : A) → add none a ≡ a) (right : (a : A) → add a none ≡ a)
    (below : ℕ → (ℕ → A) → A) (below_none : (f : ℕ → A) → below 0 f ≡ none) (below_more : (n : ℕ) (f : ℕ → A) → below (suc n) f ≡ add (below n f) (f n))
    (both : (ℕ → ℕ → A) → List PairedValue → ℕ → ℕ → A) (both_none : (g : ℕ → ℕ → A) (p q : ℕ) → both g [] p q ≡ g p q)
    (both_more : (g : ℕ → ℕ → A) (x : PairedValue) (xs : List PairedValue) (p q : ℕ) → both g (x ∷ xs) p q ≡ below x.len (λ v. both g xs (p + v * x.first) (q + v * x.second))) where
  along : (ℕ → ℕ → A) → List ℕ → List ℕ → A
  along g [] qs = none
  along g (p ∷ ps) [] = none
  along g (p ∷ ps) (q ∷ qs) = add (g p q) (along g ps qs)

  along-append : (g : ℕ → ℕ → A) (ps us qs vs : List ℕ) → length ps ≡ length qs → along g (ps ++ us) (qs ++ vs) ≡ add (along g ps qs) (along g us vs)
  unfolding along
  along-append g [] us [] vs e = sym (left (along g us vs))
  along-append g [] us (q ∷ qs) vs e = absurd (omega (arith, e))
  along-append g (p ∷ ps) us [] vs e = absurd (omega (arith, e))
  along-append g (p ∷ ps) us (q ∷ qs) vs e = ap (add (g p q)) (along-append g ps us qs vs (omega (arith, e))) ∙ sym (assoc (g p q) (along g ps qs) (along g us vs))

  below_first : (n : ℕ) (f : ℕ → A) → below (suc n) f ≡ add (f 0) (below n (λ z. f (suc z)))
  below_first zero f = below_more 0 f ∙ ap (λ a. add a (f 0)) (below_none f) ∙ left (f 0) ∙ sym (ap (add (f 0)) (below_none (λ z. f (suc z))) ∙ right (f 0))
  below_first (suc n) f =
      below_more (suc n) f ∙ ap (λ a. add a (f (suc n))) (below_first n f) ∙ assoc (f 0) (below n (λ z. f (suc z))) (f (suc n)) ∙ ap (add (f 0)) (sym (below_more n (λ z. f (suc z))))

  below_congr : (n : ℕ) (f h : ℕ → A) → ((z : ℕ) → z < n → f z ≡ h z) → below n f ≡ below n h
  below_congr zero f h e = below_none f ∙ sym (below_none h)
  below_congr (suc n) f h e = below_more n f ∙ ap₂ add (below_congr n f h (λ z l. e z (omega arith))) (e n (omega arith)) ∙ sym (below_more n h)

  along_below : (g : ℕ → ℕ → A) (ps qs : List ℕ) → length ps ≡ length qs → along g ps qs ≡ below (length ps) (λ z. g (get_or ps z 0) (get_or qs z 0))
  unfolding along
  along_below g [] [] e = sym (below_none (λ z. g (get_or [] z 0) (get_or [] z 0)))
  along_below g [] (q ∷ qs) e = absurd (omega (arith, e))
  along_below g (p ∷ ps) [] e = absurd (omega (arith, e))
  along_below g (p ∷ ps) (q ∷ qs) e =
      ap (add (g p q)) (along_below g ps qs (omega (arith, e))) ∙ sym (below_first (length ps) (λ z. g (get_or (p ∷ ps) z 0) (get_or (q ∷ qs) z 0)))

  both_along : (g : ℕ → ℕ → A) (xs : List PairedValue) (p q : ℕ) → both g xs p q ≡ along g (shared_places (λ x. x.first) xs p) (shared_places (λ x. x.second) xs q)
  unfolding along
  both_along g [] p q = both_none g p q ∙ sym (right (g p q))
  both_along g (x ∷ xs) p q = both_more g x xs p q ∙ go (λ v. both_along g xs (p + v * x.first) (q + v * x.second)) x.len
    where
      go : ((v : ℕ) → both g xs (p + v * x.first) (q + v * x.second) ≡ along g (shared_places (λ y. y.first) xs (p + v * x.first)) (shared_places (λ y. y.second) xs (q + v * x.second))) → (n : ℕ) → below n (λ v. both g xs (p + v * x.first) (q + v * x.second)) ≡ along g (flat_map (λ v. shared_places (λ y. y.first) xs (p + v * x.first)) (positions n)) (flat_map (λ v. shared_places (λ y. y.second) xs (q + v * x.second)) (positions n))
      go ih zero = below_none (λ v. both g xs (p + v * x.first) (q + v * x.second))
      go ih (suc n) =
          below_more n (λ v. both g xs (p + v * x.first) (q + v * x.second))
          ∙ ap₂ add (go ih n) (ih n)
          ∙ sym (along-append g (flat_map (λ v. shared_places (λ y. y.first) xs (p + v * x.first)) (positions n)) (shared_places (λ y. y.first) xs (p + n * x.first)) (flat_map (λ v. shared_places (λ y. y.second) xs (q + v * x.second)) (positions n)) (shared_places (λ y. y.second) xs (q + n * x.second))
          (flat_long (λ v. shared_places (λ y. y.first) xs (p + v * x.first)) (all_values xs) n (λ v. places_long (λ y. y.first) xs (p + v * x.first)) ∙ sym (flat_long (λ v. shared_places (λ y. y.second) xs (q + v * x.second)) (all_values xs) n (λ v. places_long (λ y. y.second) xs (q + v * x.second)))))
          ∙ ap₂ (along g) (sym (flat_more (λ v. shared_places (λ y. y.first) xs (p + v * x.first)) n)) (sym (flat_more (λ v. shared_places (λ y. y.second) xs (q + v * x.second)) n))

  pub both_below : (g : ℕ → ℕ → A) (xs : List PairedValue) (p q : ℕ) → both g xs p q ≡ below (all_values xs) (λ z. g (p + get_or (shared_places (λ x. x.first) xs 0) z 0) (q + get_or (shared_places (λ x. x.second) xs 0) z 0))
  both_below g xs p q =
      both_along g xs p q
      ∙ along_below g (shared_places (λ x. x.first) xs p) (shared_places (λ x. x.second) xs q) (places_long (λ x. x.first) xs p ∙ sym (places_long (λ x. x.second) xs q))
      ∙ ap (λ n. below n (λ z. g (get_or (shared_places (λ x. x.first) xs p) z 0) (get_or (shared_places (λ x. x.second) xs q) z 0))) (places_long (λ x. x.first) xs p)
      ∙ below_congr (all_values xs) (λ z. g (get_or (shared_places (λ x. x.first) xs p) z 0) (get_or (shared_places (λ x. x.second) xs q) z 0)) (λ z. g (p + get_or (shared_places (λ x. x.first) xs 0) z 0) (q + get_or (shared_places (λ x. x.second) xs 0) z 0))
      (λ z l. ap₂ g (place_moved (λ x. x.first) xs p z l) (place_moved (λ x. x.second) xs q z l))

pub sum_both_below : (g : ℕ → ℕ → Gaussian) (xs : List PairedValue) (p q : ℕ) → sum_both g xs p q ≡ sum_below (all_values xs) (λ z. g (p + get_or (shared_places (λ x. x.first) xs 0) z 0) (q + get_or (shared_places (λ x. x.second) xs 0) z 0))
sum_both_below = both_below add_g zero_g add_g_assoc zero_g_add add_zero sum_below (λ f. refl) (λ n f. refl) sum_both (λ g p q. refl) (λ g x xs p q. refl)

pub total_both_below : (g : ℕ → ℕ → ℕ) (xs : List PairedValue) (p q : ℕ) → total_both g xs p q ≡ total_below (all_values xs) (λ z. g (p + get_or (shared_places (λ x. x.first) xs 0) z 0) (q + get_or (shared_places (λ x. x.second) xs 0) z 0))
total_both_below = both_below ◌+◌ 0 (λ a b c. omega arith) (λ a. omega arith) (λ a. omega arith) total_below (λ f. refl) (λ n f. refl) total_both (λ g p q. refl) (λ g x xs p q. refl)

-- ---- the places themselves, one shared pair after the other

pub axes_rest : (axis : PairedValue) (rest all : List PairedValue) → all ≡ axis ∷ rest → All IsPaired all → All IsPaired rest
axes_rest axis rest all e h k d l = subst (λ xs. All IsPaired xs) e h (suc k) d (omega arith)

pub axes_first : (axis : PairedValue) (rest all : List PairedValue) → all ≡ axis ∷ rest → All IsPaired all → IsPaired axis
axes_first axis rest all e h = subst (λ xs. All IsPaired xs) e h 0 axis (omega arith)

pub room_rest : (axis : PairedValue) (rest all : List PairedValue) (start place : ℕ) → all ≡ axis ∷ rest → start + length all * 2 ^ 40 ≤ 2 ^ 60 → place ≤ start + 2 ^ 39 → place + length rest * 2 ^ 40 ≤ 2 ^ 60
room_rest axis rest all start place e h l = let n : length all ≡ length (axis ∷ rest) = ap (λ (xs : List PairedValue). length xs) e in omega (arith, h, l, n)

pub stride_small : (b : Bool) (x : PairedValue) → IsPaired x → stride_in b x ≤ 2 ^ 22
stride_small true x h = h.2
stride_small false x h = h.1

pub places_more : (w : PairedValue → ℕ) (rest : List PairedValue) (at stride v place : ℕ) (old out new : List ℕ) → out ≡ old ++ flat_map (λ u. shared_places w rest (at + u * stride)) (positions v) → place ≡ at + v * stride →
    new ≡ out ++ shared_places w rest place → new ≡ old ++ flat_map (λ u. shared_places w rest (at + u * stride)) (positions (v + 1))
places_more w rest at stride v place old out new h e f =
    f
    ∙ ap₂ (λ xs p. xs ++ shared_places w rest p) h e
    ∙ append_assoc old (flat_map (λ u. shared_places w rest (at + u * stride)) (positions v)) (shared_places w rest (at + v * stride))
    ∙ ap (λ xs. old ++ xs) (sym (flat_more (λ u. shared_places w rest (at + u * stride)) v))
    ∙ ap (λ n. old ++ flat_map (λ u. shared_places w rest (at + u * stride)) (positions n)) (sym (add-one v))
