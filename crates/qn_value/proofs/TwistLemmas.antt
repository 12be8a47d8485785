use Rattle.std.proofs.Common.{◌≡◌, ℕ, ℤ, Bool, true, false, ◌&&◌, ◌||◌, not, cond, List, [], ◌∷◌, ◌++◌, refl, sym, ◌∙◌, ap, ap₂, map, filter, append-nil, arith, int_eq, ◌⊎◌, inl, inr, count_by}
use mathlib.Core.Path.{fun_ext}
use Rattle.std.proofs.lemmas.Bool.{or_parts, or_left, or_right}
use Rattle.qn_sign.specs.Sign.{exchanges, is_in, is_odd, xor, IsDistinct, Perm}
use Rattle.qn_gauss.specs.Gaussian.{Gaussian, zero_g, signed, mul_g}
use Rattle.qn_value.specs.Networks.{End, Node, Bond, Assignment, assign, in_end, out_end, sum_below, sums, same_end, word, pairs_of, odd_end, order_sign, twist_sign, sign, values, product, at_values, odd_flux, contract, labels, kept, pairwise, traced, AreWithin, IsHomogeneous}
use Rattle.qn_value.specs.Twists.{odd_among, twisted_at, is_twisted, untwist, HasOneEnd}
use Rattle.qn_sign.proofs.Parity.{tally, tally-perm}
use Rattle.qn_sign.proofs.Members.{perm_from_members, is_in-filter, distinct-filter}
use Rattle.qn_value.proofs.LabelLemmas.{pairs_distinct}
use Rattle.qn_value.proofs.Sums.{Meets, sums-meet}
use Rattle.qn_value.proofs.NetLaws.{end_test, ends-labels, word-append, product-append, signed-xor, signed-mul, mul-signed, signed-zero, node_path}

tally-filter : {A : Type 0} (p f : A → Bool) (xs : List A) → tally f (filter p xs) ≡ tally (λ x. p x && f x) xs
tally-filter p f [] = refl
tally-filter p f (x ∷ xs) = go (p x) (tally-filter p f xs)
  where
    go : (b : Bool) → tally f (filter p xs) ≡ tally (λ x. p x && f x) xs → tally f (cond b (x ∷ filter p xs) (filter p xs)) ≡ xor (b && f x) (tally (λ x. p x && f x) xs)
    go true ih = ap (xor (f x)) ih
    go false ih = ih

odd_among-tally : (par : ℤ → ℕ → Bool) (test : End → Bool) (es : List End) (a : Assignment) →
    odd_among par test es (values es a) ≡ tally (λ e. test e && odd_end par a e) es
odd_among-tally par test [] a = refl
odd_among-tally par test (e ∷ es) a = ap (xor (test e && par e.label (a e))) (odd_among-tally par test es a)

-- bonds without their twists

pub pairs_of-untwist : (bs : List Bond) → pairs_of (map untwist bs) ≡ pairs_of bs
pairs_of-untwist [] = refl
pairs_of-untwist (b ∷ bs) = ap (λ es. record { label = b.label; inward = true } ∷ record { label = b.label; inward = false } ∷ es) (pairs_of-untwist bs)

pub labels-untwist : (bs : List Bond) → labels (map untwist bs) ≡ labels bs
labels-untwist [] = refl
labels-untwist (b ∷ bs) = ap (λ ls. b.label ∷ ls) (labels-untwist bs)

twist-untwist : (par : ℤ → ℕ → Bool) (bs : List Bond) (a : Assignment) → twist_sign par (map untwist bs) a ≡ false
twist-untwist par [] a = refl
twist-untwist par (b ∷ bs) a = twist-untwist par bs a

sums-untwist : (bs : List Bond) (f : Assignment → Gaussian) (a : Assignment) → sums (map untwist bs) f a ≡ sums bs f a
sums-untwist [] f a = refl
sums-untwist (b ∷ bs) f a = ap (sum_below b.dim) (fun_ext (λ v. sums-untwist bs f (assign a b.label v)))

-- some of the bonds

pub labels-fewer : (p : Bond → Bool) (l : ℤ) (bs : List Bond) → is_in int_eq l (labels bs) ≡ false → is_in int_eq l (labels (filter p bs)) ≡ false
labels-fewer p l [] h = refl
labels-fewer p l (b ∷ bs) h =
    let o = or_parts (int_eq l b.label) (is_in int_eq l (labels bs)) h in
    go (p b) o.0 (labels-fewer p l bs o.1)
  where
    go : (t : Bool) → int_eq l b.label ≡ false → is_in int_eq l (labels (filter p bs)) ≡ false →
        is_in int_eq l (labels (cond t (b ∷ filter p bs) (filter p bs))) ≡ false
    go true e f = ap₂ ◌||◌ e f
    go false e f = f

pub labels_distinct-filter : (p : Bond → Bool) (bs : List Bond) → IsDistinct int_eq (labels bs) → IsDistinct int_eq (labels (filter p bs))
labels_distinct-filter p [] d = tt
labels_distinct-filter p (b ∷ bs) d = go (p b) (labels-fewer p b.label bs d.0) (labels_distinct-filter p bs d.1)
  where
    go : (t : Bool) → is_in int_eq b.label (labels (filter p bs)) ≡ false → IsDistinct int_eq (labels (filter p bs)) →
        IsDistinct int_eq (labels (cond t (b ∷ filter p bs) (filter p bs)))
    go true e f = (e, f)
    go false e f = f

module _ (par : ℤ → ℕ → Bool) (pre : List Node) (x : Node) (post : List Node) (bonds : List Bond) (opens : List End) (test : End → Bool)
    (dx : IsDistinct same_end x.ends) (db : IsDistinct int_eq (labels bonds)) (one : HasOneEnd test x bonds) where
  abbrev at : End → Bool
  at e = test e && is_twisted bonds e

  abbrev has : End → Bool
  has e = test e && is_in same_end e x.ends

  abbrev twists : List Bond → List Bond
  twists bs = filter (λ b. b.twisted) bs

  -- the parity of the twisted bonds, by their ends on x
  bonds_tally : (bs : List Bond) → HasOneEnd test x bs → (a : Assignment) → Meets bs a → tally (λ e. has e && odd_end par a e) (pairs_of (twists bs)) ≡ twist_sign par bs a
  bonds_tally [] h a m = refl
  bonds_tally (b ∷ bs) h a m = go b.twisted (bonds_tally bs h.1 a m.1)
    where
      step : (p q o o' r s : Bool) → xor p q ≡ true → o ≡ o' → r ≡ s → xor (p && o) (xor (q && o') r) ≡ xor (true && o) s
      step p q o o' r s e g f = grind arith

      go : (t : Bool) → tally (λ e. has e && odd_end par a e) (pairs_of (twists bs)) ≡ twist_sign par bs a →
          tally (λ e. has e && odd_end par a e) (pairs_of (cond t (b ∷ twists bs) (twists bs))) ≡ xor (t && par b.label (a (in_end b))) (twist_sign par bs a)
      go true ih = step (has (in_end b)) (has (out_end b)) (par b.label (a (in_end b))) (par b.label (a (out_end b))) _ _ h.0 (ap (par b.label) m.0) ih
      go false ih = ih

  -- the legs of x at which it is twisted
  ends_perm : Perm (filter at x.ends) (filter has (pairs_of (twists bonds)))
  ends_perm =
      perm_from_members same_end end_test (filter at x.ends) (filter has (pairs_of (twists bonds)))
      (distinct-filter same_end end_test at x.ends dx)
      (distinct-filter same_end end_test has (pairs_of (twists bonds)) (pairs_distinct (twists bonds) (labels_distinct-filter (λ b. b.twisted) bonds db)))
      (λ e. is_in-filter same_end end_test at e x.ends
      ∙ turn (test e) (is_twisted bonds e) (is_in same_end e x.ends) (is_in same_end e (pairs_of (twists bonds))) (sym (ends-labels e (twists bonds)))
      ∙ sym (is_in-filter same_end end_test has e (pairs_of (twists bonds))))
    where
      turn : (t w i p : Bool) → w ≡ p → ((t && w) && i) ≡ ((t && i) && p)
      turn t w i p e = grind arith

  ends_tally : (a : Assignment) → Meets bonds a → tally (λ e. at e && odd_end par a e) x.ends ≡ twist_sign par bonds a
  ends_tally a m =
      sym (tally-filter at (odd_end par a) x.ends)
      ∙ tally-perm (odd_end par a) ends_perm
      ∙ tally-filter has (odd_end par a) (pairs_of (twists bonds))
      ∙ bonds_tally bonds one a m

  abbrev y : Node
  y = twisted_at par at x

  same_word : word (pre ++ (x ∷ post)) ≡ word (pre ++ (y ∷ post))
  same_word = word-append pre (x ∷ post) ∙ sym (word-append pre (y ∷ post))

  same_flux : (ns : List Node) → odd_flux (ns ++ (x ∷ post)) ≡ odd_flux (ns ++ (y ∷ post))
  same_flux [] = refl
  same_flux (n ∷ ns) = ap (xor n.odd) (same_flux ns)

  term_twist : (a : Assignment) → Meets bonds a →
      signed (sign par (pre ++ (x ∷ post)) bonds opens a) (product (pre ++ (x ∷ post)) a) ≡
      signed (sign par (pre ++ (y ∷ post)) (map untwist bonds) opens a) (product (pre ++ (y ∷ post)) a)
  term_twist a m =
      ap (λ b. signed b (product (pre ++ (x ∷ post)) a)) (turn (twist_sign par bonds a) (order_sign par (pre ++ (x ∷ post)) bonds opens a))
      ∙ signed-xor (order_sign par (pre ++ (x ∷ post)) bonds opens a) (twist_sign par bonds a) (product (pre ++ (x ∷ post)) a)
      ∙ ap₂ signed
      (ap₂ (λ w es. is_odd (exchanges same_end (odd_end par a) w (es ++ opens))) same_word (sym (pairs_of-untwist bonds))
      ∙ sym (ap (λ b. xor b (order_sign par (pre ++ (y ∷ post)) (map untwist bonds) opens a)) (twist-untwist par bonds a)))
      (ap₂ signed (sym (ends_tally a m) ∙ sym (odd_among-tally par at x.ends a)) (product-append pre (x ∷ post) a)
      ∙ sym (product-append pre (y ∷ post) a
      ∙ ap (mul_g (product pre a)) (signed-mul (odd_among par at x.ends (values x.ends a)) (x.entry (values x.ends a)) (product post a))
      ∙ mul-signed (odd_among par at x.ends (values x.ends a)) (product pre a) (mul_g (x.entry (values x.ends a)) (product post a))))
    where
      turn : (p q : Bool) → xor p q ≡ xor q p
      turn p q = grind arith

  pub twist_law : contract par (pre ++ (x ∷ post)) bonds opens ≡ contract par (pre ++ (y ∷ post)) (map untwist bonds) opens
  twist_law =
      node_path (contract par (pre ++ (x ∷ post)) bonds opens) (contract par (pre ++ (y ∷ post)) (map untwist bonds) opens) refl
      (λ xs. sums-meet bonds (λ c. signed (sign par (pre ++ (x ∷ post)) bonds opens c) (product (pre ++ (x ∷ post)) c)) (λ c. signed (sign par (pre ++ (y ∷ post)) (map untwist bonds) opens c) (product (pre ++ (y ∷ post)) c)) term_twist (at_values opens xs)
      ∙ sym (sums-untwist bonds (λ c. signed (sign par (pre ++ (y ∷ post)) (map untwist bonds) opens c) (product (pre ++ (y ∷ post)) c)) (at_values opens xs)))
      (same_flux pre)

kept-untwist : (ns : List Node) (bs : List Bond) → kept ns bs ≡ kept ns (map untwist bs)
kept-untwist ns bs = ap (λ (ls : List ℤ). filter (λ e. not (is_in int_eq e.label ls)) (word ns)) (sym (labels-untwist bs))

pub twist_pair_law : (par : ℤ → ℕ → Bool) (x y : Node) (shared : List Bond) →
    IsDistinct same_end x.ends → IsDistinct int_eq (labels shared) → HasOneEnd (λ e. true) x shared →
    pairwise par x y shared ≡ pairwise par (twisted_at par (is_twisted shared) x) y (map untwist shared)
twist_pair_law par x y shared dx ds one =
    twist_law par [] x (y ∷ []) shared (kept (x ∷ y ∷ []) shared) (λ e. true) dx ds one
    ∙ ap (contract par (twisted_at par (is_twisted shared) x ∷ y ∷ []) (map untwist shared)) (kept-untwist (x ∷ y ∷ []) shared)

pub twist_second_law : (par : ℤ → ℕ → Bool) (x y : Node) (shared : List Bond) →
    IsDistinct same_end y.ends → IsDistinct int_eq (labels shared) → HasOneEnd (λ e. true) y shared →
    pairwise par x y shared ≡ pairwise par x (twisted_at par (is_twisted shared) y) (map untwist shared)
twist_second_law par x y shared dy ds one =
    twist_law par (x ∷ []) y [] shared (kept (x ∷ y ∷ []) shared) (λ e. true) dy ds one
    ∙ ap (contract par (x ∷ twisted_at par (is_twisted shared) y ∷ []) (map untwist shared)) (kept-untwist (x ∷ y ∷ []) shared)

one_inward : (x : Node) (bs : List Bond) → AreWithin bs (x ∷ []) → HasOneEnd (λ e. e.inward) x bs
one_inward x [] h = tt
one_inward x (b ∷ bs) h =
    let i : End = record { label = b.label; inward = true } in
    let o : End = record { label = b.label; inward = false } in (
      ap (λ p. xor p false) (ap (is_in same_end i) (sym (append-nil x.ends)) ∙ h i (or_left (same_end i i) (is_in same_end i (o ∷ pairs_of bs)) (end_test.itself i))),
      one_inward x bs (λ e k. h e (or_right (same_end e i) (is_in same_end e (o ∷ pairs_of bs)) (or_right (same_end e o) (is_in same_end e (pairs_of bs)) k))),
    )

pub twist_trace_law : (par : ℤ → ℕ → Bool) (x : Node) (couples : List Bond) →
    IsDistinct same_end x.ends → IsDistinct int_eq (labels couples) → AreWithin couples (x ∷ []) →
    traced par x couples ≡ traced par (twisted_at par (λ e. e.inward && is_twisted couples e) x) (map untwist couples)
twist_trace_law par x couples dx dc within =
    twist_law par [] x [] couples (kept (x ∷ []) couples) (λ e. e.inward) dx dc (one_inward x couples within)
    ∙ ap (contract par (twisted_at par (λ e. e.inward && is_twisted couples e) x ∷ []) (map untwist couples)) (kept-untwist (x ∷ []) couples)

-- a twisted tensor has the same flux
pub twisted_homogeneous : (par : ℤ → ℕ → Bool) (test : End → Bool) (x : Node) → IsHomogeneous par x → IsHomogeneous par (twisted_at par test x)
twisted_homogeneous par test x h a = go (h a)
  where
    go : (is_odd (count_by (odd_end par a) x.ends) ≡ x.odd) ⊎ (x.entry (values x.ends a) ≡ zero_g) →
        (is_odd (count_by (odd_end par a) x.ends) ≡ x.odd) ⊎ (signed (odd_among par test x.ends (values x.ends a)) (x.entry (values x.ends a)) ≡ zero_g)
    go (inl e) = inl e
    go (inr e) = inr (ap (signed (odd_among par test x.ends (values x.ends a))) e ∙ signed-zero (odd_among par test x.ends (values x.ends a)))
