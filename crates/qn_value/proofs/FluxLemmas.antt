-- Charges of contractions.
use Rattle.std.proofs.Common.{◌≡◌, ℕ, ℤ, Bool, true, false, ◌&&◌, List, [], ◌∷◌, ◌++◌, refl, sym, ◌∙◌, ap, ap₂, ◌⊎◌, inl, inr, int_eq, count_by}
use Rattle.std.proofs.lemmas.Bool.{and_parts, or_left, or_right, false≢true}
use Rattle.qn_sign.specs.Sign.{is_in, is_odd, xor, Perm}
use Rattle.qn_sign.specs.Sign.Perm.{none, keep, swap, then_by}
use Rattle.qn_sign.proofs.Parity.{tally}
use Rattle.qn_gauss.specs.Gaussian.{zero_g, mul_g, signed}
use Rattle.qn_charge.specs.declared.factor.Factor.{Factor}
use Rattle.qn_charge.specs.Charges
use Rattle.qn_charge.specs.Charges.{IsGroup, zero_charge, sum_charge, neg_charge, parity}
use Rattle.qn_charge.specs.Laws.{associative_charge, commutative_charge, zero_is_neutral, neg_is_inverse, canonical_zero, canonical_sum, parity_adds, parity_of_zero, parity_of_neg}
use Rattle.qn_index.specs.declared.leg.Dir.{Dir}
use Rattle.qn_index.specs.declared.leg.Dir.TheVariants.{Out, In}
use Rattle.qn_index.specs.Tuples.{turned}
use Rattle.qn_value.specs.Networks.{End, Node, Bond, Assignment, odd_end, out_end, same_end, word, pairs_of, sign, values, product, flat, at_values, contract, labels, IsNetwork, IsHomogeneous}
use Rattle.qn_value.specs.Fluxes.{Charges, arrow_of, net_at, Conserves, AllConserve, sum_flux}
use Rattle.qn_sign.proofs.Order.{distinct-perm, distinct_parts_back}
use Rattle.qn_gauss.proofs.Ring.{mul_comm, mul_zero}
use Rattle.qn_value.proofs.Sums.{label_test, Meets, DependsOn, steady_from, sums-vanish}
use Rattle.qn_sign.proofs.Parity.{is_odd-count}
use Rattle.qn_value.proofs.NetLaws.{end_test, signed-zero, ends-labels, at_values-values}

pub xor_same : (a b : Bool) → Charges.xor a b ≡ xor a b
xor_same true b = refl
xor_same false b = refl

pub parity-add : (fs : List Factor) (a b : List ℤ) → IsGroup fs → parity fs (sum_charge fs a b) ≡ xor (parity fs a) (parity fs b)
parity-add fs a b h = parity_adds fs a b h ∙ xor_same (parity fs a) (parity fs b)

pub parity-turned : (fs : List Factor) (d : Dir) (c : List ℤ) → IsGroup fs → parity fs (turned fs d c) ≡ parity fs c
parity-turned fs In c h = parity_of_neg fs c h
parity-turned fs Out c h = refl

-- whether two charges are the same
abbrev same_charge : List ℤ → List ℤ → Bool
same_charge [] [] = true
same_charge [] (y ∷ ys) = false
same_charge (x ∷ xs) [] = false
same_charge (x ∷ xs) (y ∷ ys) = int_eq x y && same_charge xs ys

same_itself : (c : List ℤ) → same_charge c c ≡ true
same_itself [] = refl
same_itself (x ∷ c) = ap₂ ◌&&◌ (label_test.itself x) (same_itself c)

same_equal : (c d : List ℤ) → same_charge c d ≡ true → c ≡ d
same_equal [] [] e = refl
same_equal [] (y ∷ d) e = absurd (false≢true e)
same_equal (x ∷ c) [] e = absurd (false≢true e)
same_equal (x ∷ c) (y ∷ d) e = let p = and_parts (int_eq x y) (same_charge c d) e in ap₂ ◌∷◌ (label_test.equal x y p.0) (same_equal c d p.1)

module _ (fs : List Factor) (group : IsGroup fs) (charge : Charges) where
  abbrev net : List End → Assignment → List ℤ
  net es a = net_at fs charge es a

  abbrev weigh : End → Assignment → List ℤ
  weigh e a = turned fs (arrow_of e.inward) (charge e.label (a e))

  zero_sum : (a b : List ℤ) → sum_charge fs (zero_charge fs) (sum_charge fs a b) ≡ sum_charge fs a b
  zero_sum a b = zero_is_neutral fs (sum_charge fs a b) (canonical_sum fs a b group)

  zero_zero : sum_charge fs (zero_charge fs) (zero_charge fs) ≡ zero_charge fs
  zero_zero = zero_is_neutral fs (zero_charge fs) (canonical_zero fs group)

  pub net_reduced : (es : List End) (a : Assignment) → sum_charge fs (zero_charge fs) (net es a) ≡ net es a
  net_reduced [] a = zero_zero
  net_reduced (e ∷ es) a = zero_sum (weigh e a) (net es a)

  pub net-append : (es gs : List End) (a : Assignment) → net (es ++ gs) a ≡ sum_charge fs (net es a) (net gs a)
  net-append [] gs a = sym (net_reduced gs a)
  net-append (e ∷ es) gs a = ap (sum_charge fs (weigh e a)) (net-append es gs a) ∙ sym (associative_charge fs (weigh e a) (net es a) (net gs a) group)

  pub net-perm : (a : Assignment) {es gs : List End} → Perm es gs → net es a ≡ net gs a
  net-perm a none = refl
  net-perm a (keep {x = e} p) = ap (sum_charge fs (weigh e a)) (net-perm a p)
  net-perm a (swap {x = x} {y = y} {xs = es}) =
      sym (associative_charge fs (weigh x a) (weigh y a) (net es a) group)
      ∙ ap (λ c. sum_charge fs c (net es a)) (commutative_charge fs (weigh x a) (weigh y a))
      ∙ associative_charge fs (weigh y a) (weigh x a) (net es a) group
  net-perm a (then_by p q) = net-perm a p ∙ net-perm a q

  -- the two ends of a bond cancel
  pub net-pairs : (bs : List Bond) (a : Assignment) → Meets bs a → net (pairs_of bs) a ≡ zero_charge fs
  net-pairs [] a m = refl
  net-pairs (b ∷ bs) a m =
      ap₂ (λ v r. sum_charge fs (neg_charge fs (charge b.label v)) (sum_charge fs (charge b.label (a (out_end b))) r)) m.0 (net-pairs bs a m.1)
      ∙ sym (associative_charge fs (neg_charge fs (charge b.label (a (out_end b)))) (charge b.label (a (out_end b))) (zero_charge fs) group)
      ∙ ap (λ c. sum_charge fs c (zero_charge fs)) (neg_is_inverse fs (charge b.label (a (out_end b))) group)
      ∙ zero_zero

  pub net-depends : (es : List End) (a c : Assignment) → ((e : End) → is_in same_end e es ≡ true → a e ≡ c e) → net es a ≡ net es c
  net-depends [] a c h = refl
  net-depends (e ∷ es) a c h =
      ap₂ (λ v r. sum_charge fs (turned fs (arrow_of e.inward) (charge e.label v)) r) (h e (or_left (same_end e e) (is_in same_end e es) (end_test.itself e)))
      (net-depends es a c (λ x k. h x (or_right (same_end x e) (is_in same_end x es) k)))

  word_net : (ns : List Node) (qs : List (List ℤ)) → AllConserve fs charge ns qs → (a : Assignment) →
      (net (word ns) a ≡ sum_flux fs qs) ⊎ (product ns a ≡ zero_g)
  word_net [] [] h a = inl refl
  word_net [] (q ∷ qs) h a = absurd h
  word_net (n ∷ ns) [] h a = absurd h
  word_net (n ∷ ns) (q ∷ qs) h a = go (h.0 a) (word_net ns qs h.1 a)
    where
      go : (net n.ends a ≡ q) ⊎ (n.entry (values n.ends a) ≡ zero_g) → (net (word ns) a ≡ sum_flux fs qs) ⊎ (product ns a ≡ zero_g) →
          (net (n.ends ++ word ns) a ≡ sum_charge fs q (sum_flux fs qs)) ⊎ (mul_g (n.entry (values n.ends a)) (product ns a) ≡ zero_g)
      go (inr z) _ = inr (ap (λ x. mul_g x (product ns a)) z ∙ mul_comm zero_g (product ns a) ∙ mul_zero (product ns a))
      go (inl e) (inr z) = inr (ap (mul_g (n.entry (values n.ends a))) z ∙ mul_zero (n.entry (values n.ends a)))
      go (inl e) (inl f) = inl (net-append n.ends (word ns) a ∙ ap₂ (sum_charge fs) e f)

  -- where the legs of all tensors meet the sum of the fluxes, so do the open legs
  pub open_from_word : (ns : List Node) (qs : List (List ℤ)) (bs : List Bond) (opens : List End) → IsNetwork ns bs opens → (c : Assignment) → Meets bs c →
      net (word ns) c ≡ sum_flux fs qs → net opens c ≡ sum_flux fs qs
  open_from_word ns qs bs opens network c m e =
      sym (net_reduced opens c) ∙ ap (λ d. sum_charge fs d (net opens c)) (sym (net-pairs bs c m)) ∙ sym (net-append (pairs_of bs) opens c) ∙ sym (net-perm c network.complete) ∙ e

  -- where the entries are not 0, the open legs meet the flux
  pub open_net : (ns : List Node) (qs : List (List ℤ)) (bs : List Bond) (opens : List End) → IsNetwork ns bs opens → AllConserve fs charge ns qs → (c : Assignment) → Meets bs c →
      (net opens c ≡ sum_flux fs qs) ⊎ (product ns c ≡ zero_g)
  open_net ns qs bs opens network h c m = at (word_net ns qs h c)
    where
      at : (net (word ns) c ≡ sum_flux fs qs) ⊎ (product ns c ≡ zero_g) → (net opens c ≡ sum_flux fs qs) ⊎ (product ns c ≡ zero_g)
      at (inr z) = inr z
      at (inl e) = inl (open_from_word ns qs bs opens network c m e)

  pub open_label : (ns : List Node) (bs : List Bond) (opens : List End) → IsNetwork ns bs opens → (e : End) → is_in same_end e opens ≡ true → is_in int_eq e.label (labels bs) ≡ false
  open_label ns bs opens network e l = sym (ends-labels e bs) ∙ distinct_parts_back same_end end_test e (pairs_of bs) opens (distinct-perm same_end end_test network.complete network.distinct) l

  pub flux_law : (par : ℤ → ℕ → Bool) (ns : List Node) (qs : List (List ℤ)) (bs : List Bond) (opens : List End) →
      IsNetwork ns bs opens → AllConserve fs charge ns qs → Conserves fs charge (contract par ns bs opens) (sum_flux fs qs)
  flux_law par ns qs bs opens network h a = go (test a) refl
    where
      test : Assignment → Bool
      test c = same_charge (net opens c) (sum_flux fs qs)

      test_depends : DependsOn opens test
      test_depends a c k = ap (λ d. same_charge d (sum_flux fs qs)) (net-depends opens a c k)

      vanish : (c : Assignment) → Meets bs c → test c ≡ false → signed (sign par ns bs opens c) (product ns c) ≡ zero_g
      vanish c m t = at (open_net ns qs bs opens network h c m)
        where
          at : (net opens c ≡ sum_flux fs qs) ⊎ (product ns c ≡ zero_g) → signed (sign par ns bs opens c) (product ns c) ≡ zero_g
          at (inr z) = ap (signed (sign par ns bs opens c)) z ∙ signed-zero (sign par ns bs opens c)
          at (inl e) = absurd (false≢true (sym t ∙ ap (λ d. same_charge d (sum_flux fs qs)) e ∙ same_itself (sum_flux fs qs)))

      start : Assignment
      start = at_values opens (values opens a)

      start_test : test start ≡ test a
      start_test = test_depends start a (λ e l. at_values-values opens a e l)

      go : (b : Bool) → test a ≡ b → (net opens a ≡ sum_flux fs qs) ⊎ (flat par ns bs opens (at_values opens (values opens a)) ≡ zero_g)
      go true e = inl (same_equal (net opens a) (sum_flux fs qs) e)
      go false e =
          inr (sums-vanish bs test (λ c. signed (sign par ns bs opens c) (product ns c)) (steady_from bs opens test test_depends (open_label ns bs opens network)) false vanish start (start_test ∙ e))

  -- the parity of the legs is that of their net charge
  net_parity : (es : List End) (a : Assignment) → tally (odd_end (λ l v. parity fs (charge l v)) a) es ≡ parity fs (net es a)
  net_parity [] a = sym (parity_of_zero fs)
  net_parity (e ∷ es) a =
      ap₂ xor (sym (parity-turned fs (arrow_of e.inward) (charge e.label (a e)) group)) (net_parity es a)
      ∙ sym (parity-add fs (weigh e a) (net es a) group)

  pub conserved_homogeneous : (n : Node) (flux : List ℤ) → Conserves fs charge n flux → parity fs flux ≡ n.odd → IsHomogeneous (λ l v. parity fs (charge l v)) n
  conserved_homogeneous n flux k o a = go (k a)
    where
      go : (net n.ends a ≡ flux) ⊎ (n.entry (values n.ends a) ≡ zero_g) →
          (is_odd (count_by (odd_end (λ l v. parity fs (charge l v)) a) n.ends) ≡ n.odd) ⊎ (n.entry (values n.ends a) ≡ zero_g)
      go (inl e) = inl (is_odd-count (odd_end (λ l v. parity fs (charge l v)) a) n.ends ∙ net_parity n.ends a ∙ ap (parity fs) e ∙ o)
      go (inr e) = inr e
