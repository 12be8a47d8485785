-- Networks of expectations whose chains differ on one site.
use Rattle.std.proofs.Common.{◌≡◌, ◌≢◌, ℕ, suc, ◌+◌, ◌*◌, ℤ, Bool, true, false, None, List, [], ◌∷◌, ◌++◌, length, map, reverse, refl, sym, ◌∙◌, ap, ap₂, subst, arith}
use mathlib.Core.Path.{fun_ext}
use Rattle.std.proofs.lemmas.Bool.{false≢true}
use Rattle.std.proofs.lemmas.Bool.Decides.{nat_tests}
use Rattle.std.proofs.lemmas.List.{reverse-reverse}
use Rattle.qn_gauss.specs.Gaussian.{conj_g}
use Rattle.qn_charge.specs.declared.factor.Factor.{Factor}
use Rattle.qn_charge.specs.Charges.{parity, neg_charge}
use Rattle.qn_index.specs.Legs.{LegValue}
use Rattle.qn_value.specs.Tensors.{entry_of}
use Rattle.qn_value.specs.Labels.{Slot, slots_of, slots, ends}
use Rattle.qn_block.specs.Blocked.{BlockedValue, IsConjugate, conjugate_legs, tensor_of}
use Rattle.qn_block.proofs.Mirror.{reverse_cons}
use Rattle.qn_net.specs.Members.{LabelledMember, member_tensor, placed_member, role_of}
use Rattle.qn_net.specs.Members.MemberValue.{own}
use Rattle.qn_net.specs.NetworkValues.{member_of}
use Rattle.qn_net.specs.Refusals.{network_of, positives}
use Rattle.qn_braket.specs.ChainLabels.{state_labels, operator_labels, expect_upper, expect_lower, expect_bra, expect_op, expect_ket}
use Rattle.qn_braket.specs.Chains.{tensor_at, AreConjugates, with_labels, back_with_labels, expect_members, expect_network}
use Rattle.qn_braket.proofs.ChainLists.{conjugates_long, members_placed, placed_of}
use Rattle.qn_replace.specs.Replaced.{AreReplaced, IsReplaced}
use Rattle.qn_sweep.specs.LeftToRight.{bra_number, ket_number, of_site}
use Rattle.qn_sweep.specs.Putting.{IsPut, PutLaw}
use Rattle.qn_sweep.proofs.Labelled.{back_long}
use Rattle.qn_sweep.proofs.Networks.{with_long}

-- two members with the same legs, labels, flux and role; where they stay, they are the same
record IsLike (put : Bool) (x y : LabelledMember) : Type 0 where
  slots_same : slots_of (member_tensor x.member).legs x.labels ≡ slots_of (member_tensor y.member).legs y.labels
  odd : parity (member_tensor x.member).group (member_tensor x.member).flux ≡ parity (member_tensor y.member).group (member_tensor y.member).flux
  flux : (member_tensor x.member).flux ≡ (member_tensor y.member).flux
  role : role_of x.member ≡ role_of y.member
  same : put ≡ false → member_of (placed_member x) ≡ member_of (placed_member y)

abbrev AreLike : (ℕ → Bool) → ℕ → List LabelledMember → List LabelledMember → Type 0
AreLike test n [] [] = Unit {0}
AreLike test n [] (y ∷ ys) = ⊥
AreLike test n (x ∷ xs) [] = ⊥
AreLike test n (x ∷ xs) (y ∷ ys) = IsLike (test n) x y × AreLike test (suc n) xs ys

-- numbered from their number down to 1
abbrev AreLikeDown : (ℕ → Bool) → List LabelledMember → List LabelledMember → Type 0
AreLikeDown test [] [] = Unit {0}
AreLikeDown test [] (y ∷ ys) = ⊥
AreLikeDown test (x ∷ xs) [] = ⊥
AreLikeDown test (x ∷ xs) (y ∷ ys) = IsLike (test (suc (length xs))) x y × AreLikeDown test xs ys

module _ (test : ℕ → Bool) where
  like-append : (n : ℕ) (xs ys us vs : List LabelledMember) → AreLike test n xs ys → AreLike test (n + length xs) us vs → AreLike test n (xs ++ us) (ys ++ vs)
  like-append n [] [] us vs h k = subst (λ i. AreLike test i us vs) (omega arith) k
  like-append n [] (y ∷ ys) us vs h k = absurd h
  like-append n (x ∷ xs) [] us vs h k = absurd h
  like-append n (x ∷ xs) (y ∷ ys) us vs h k = (h.0, like-append (suc n) xs ys us vs h.1 (subst (λ i. AreLike test i us vs) (omega arith) k))

  like-back : (xs ys : List LabelledMember) → AreLikeDown test xs ys → AreLike test 1 (reverse xs) (reverse ys)
  like-back [] [] h = tt
  like-back [] (y ∷ ys) h = absurd h
  like-back (x ∷ xs) [] h = absurd h
  like-back (x ∷ xs) (y ∷ ys) h =
      subst (λ zs. AreLike test 1 zs (reverse (y ∷ ys))) (sym (reverse_cons x xs))
      (subst (AreLike test 1 (reverse xs ++ (x ∷ []))) (sym (reverse_cons y ys))
      (like-append 1 (reverse xs) (reverse ys) (x ∷ []) (y ∷ []) (like-back xs ys h.1)
      (subst (λ i. IsLike (test i) x y) (sym (ap (λ k. 1 + k) (back_long xs) ∙ omega arith)) h.0, tt)))

  -- what follows from it
  replaced : (n : ℕ) (xs ys : List LabelledMember) → AreLike test n xs ys → AreReplaced test n (map member_of (map placed_member xs)) (map member_of (map placed_member ys))
  replaced n [] [] h = tt
  replaced n [] (y ∷ ys) h = absurd h
  replaced n (x ∷ xs) [] h = absurd h
  replaced n (x ∷ xs) (y ∷ ys) h = (ap ends h.0.slots_same, h.0.odd, h.0.flux, h.0.role, h.0.same, replaced (suc n) xs ys h.1)

  slots_like : (n : ℕ) (xs ys : List LabelledMember) → AreLike test n xs ys → slots (map placed_of xs) ≡ slots (map placed_of ys)
  slots_like n [] [] h = refl
  slots_like n [] (y ∷ ys) h = absurd h
  slots_like n (x ∷ xs) [] h = absurd h
  slots_like n (x ∷ xs) (y ∷ ys) h = ap₂ (λ (us vs : List Slot). us ++ vs) h.0.slots_same (slots_like (suc n) xs ys h.1)

  network_like : (fs : List Factor) (xs ys : List LabelledMember) → AreLike test 1 xs ys → IsReplaced test (network_of fs xs None []) (network_of fs ys None [])
  network_like fs xs ys h =
      let e = slots_like 1 xs ys h in
      record {
        group = refl;
        order = ap (λ (ss : List Slot). positives (ends ss)) e;
        twists = refl;
        legs = ap slots (members_placed xs) ∙ e ∙ ap slots (sym (members_placed ys));
        members = replaced 1 xs ys h;
      }

-- members of one tensor, or of its conjugates

itself : (put : Bool) (x : LabelledMember) → IsLike put x x
itself put x = record { slots_same = refl; odd = refl; flux = refl; role = refl; same = λ _. refl }

likes : (test : ℕ → Bool) (n : ℕ) (xs : List LabelledMember) → AreLike test n xs xs
likes test n [] = tt
likes test n (x ∷ xs) = (itself (test n) x, likes test (suc n) xs)

owns : (put : Bool) (t u : BlockedValue) (ls : List ℤ) → t.group ≡ u.group → t.legs ≡ u.legs → t.flux ≡ u.flux → (put ≡ false → t ≡ u) →
    IsLike put (record { member = own t; labels = ls }) (record { member = own u; labels = ls })
owns put t u ls g l f s = record {
  slots_same = ap (λ (gs : List LegValue). slots_of gs ls) l;
  odd = ap₂ parity g f;
  flux = f;
  role = refl;
  same = λ n. ap (λ (x : BlockedValue). member_of (placed_member (record { member = own x; labels = ls }))) (s n);
}

conjugates : (put : Bool) (t u c d : BlockedValue) (ls : List ℤ) → t.group ≡ u.group → t.legs ≡ u.legs → t.flux ≡ u.flux → (put ≡ false → t ≡ u) →
    IsConjugate (tensor_of t) (tensor_of c) → IsConjugate (tensor_of u) (tensor_of d) → IsLike put (record { member = own c; labels = ls }) (record { member = own d; labels = ls })
conjugates put t u c d ls g l f s h k =
    let legs : c.legs ≡ d.legs = h.legs ∙ ap conjugate_legs l ∙ sym k.legs in
    let group : c.group ≡ d.group = h.group ∙ g ∙ sym k.group in
    let flux : c.flux ≡ d.flux = h.flux ∙ ap₂ neg_charge g f ∙ sym k.flux in
    record {
      slots_same = ap (λ (gs : List LegValue). slots_of gs ls) legs;
      odd = ap₂ parity group flux;
      flux = flux;
      role = refl;
      same = λ n.
          let same_entries : entry_of (tensor_of c) ≡ entry_of (tensor_of d) =
          fun_ext (λ xs. ap (entry_of (tensor_of c)) (sym (reverse-reverse xs)) ∙ h.entries (reverse xs) ∙ ap (λ (x : BlockedValue). conj_g (entry_of (tensor_of x) (reverse xs))) (s n) ∙ sym (k.entries (reverse xs)) ∙ ap (entry_of (tensor_of d)) (reverse-reverse xs)) in
          λ i. record {
            node = record { ends = ends (slots_of (legs i) ls); entry = same_entries i; odd = parity (group i) (flux i) };
            flux = flux i;
            role = (member_of (placed_member (record { member = own c; labels = ls }))).role;
          };
    }

-- the chains, site by site from j' on

abbrev AreSites : ℕ → ℕ → List BlockedValue → List BlockedValue → Type 0
AreSites j i [] [] = Unit {0}
AreSites j i [] (u ∷ us) = ⊥
AreSites j i (t ∷ ts) [] = ⊥
AreSites j i (t ∷ ts) (u ∷ us) = (t.group ≡ u.group) × (t.legs ≡ u.legs) × (t.flux ≡ u.flux) × (i ≢ j → t ≡ u) × AreSites j (suc i) ts us

by_sites : (j i : ℕ) (ts us : List BlockedValue) → length us ≡ length ts → ((k : ℕ) → (tensor_at ts k).group ≡ (tensor_at us k).group) → ((k : ℕ) → (tensor_at ts k).legs ≡ (tensor_at us k).legs) →
    ((k : ℕ) → (tensor_at ts k).flux ≡ (tensor_at us k).flux) → ((k : ℕ) → i + k ≢ j → tensor_at ts k ≡ tensor_at us k) → AreSites j i ts us
by_sites j i [] [] e g l f s = tt
by_sites j i [] (u ∷ us) e g l f s = absurd (omega (arith, e))
by_sites j i (t ∷ ts) [] e g l f s = absurd (omega (arith, e))
by_sites j i (t ∷ ts) (u ∷ us) e g l f s = (
  g 0,
  l 0,
  f 0,
  (λ n. s 0 (λ q. n (omega (arith, q)))),
  by_sites j (suc i) ts us (omega (arith, e)) (λ k. g (suc k)) (λ k. l (suc k)) (λ k. f (suc k)) (λ k n. s (suc k) (λ q. n (omega (arith, q)))),
)

sites_put : (j : ℕ) (ts us : List BlockedValue) → IsPut j ts us → AreSites j 0 ts us
sites_put j ts us h = by_sites j 0 ts us h.count h.group h.legs h.flux (λ k n. h.others k (λ q. n (zero_add k ∙ q)))
  where
    zero_add : (k : ℕ) → 0 + k ≡ k
    zero_add k = omega arith

-- a number that is none of site j is of another site

not_bra : (n j i : ℕ) → of_site n j (bra_number n i) ≡ false → i ≢ j
not_bra n j i h e = false≢true (sym h ∙ ap (λ k. of_site n j (bra_number n k)) e ∙ here n j)
  where
    here : (n j : ℕ) → of_site n j (bra_number n j) ≡ true
    here n j = grind (arith, nat_tests)

not_ket : (n j i : ℕ) → of_site n j (ket_number n i) ≡ false → i ≢ j
not_ket n j i h e = false≢true (sym h ∙ ap (λ k. of_site n j (ket_number n k)) e ∙ here n j)
  where
    here : (n j : ℕ) → of_site n j (ket_number n j) ≡ true
    here n j = grind (arith, nat_tests)

module _ (n j : ℕ) where
  kets_like : (labels : ℕ → List ℤ) (i a : ℕ) (ts us : List BlockedValue) → a ≡ ket_number n i → AreSites j i ts us → AreLike (of_site n j) a (with_labels labels i ts) (with_labels labels i us)
  kets_like labels i a [] [] e h = tt
  kets_like labels i a [] (u ∷ us) e h = absurd h
  kets_like labels i a (t ∷ ts) [] e h = absurd h
  kets_like labels i a (t ∷ ts) (u ∷ us) e h = (
    owns (of_site n j a) t u (labels i) h.0 h.1 h.2 (λ q. h.3 (not_ket n j i (ap (of_site n j) (sym e) ∙ q))),
    kets_like labels (suc i) (suc a) ts us (omega (arith, e)) h.4,
  )

  bras_like : (labels : ℕ → List ℤ) (i : ℕ) (ts us cs ds : List BlockedValue) → length ts + i ≡ n → AreSites j i ts us → AreConjugates ts cs → AreConjugates us ds →
      AreLikeDown (of_site n j) (with_labels labels i cs) (with_labels labels i ds)
  bras_like labels i [] [] [] [] e h p q = tt
  bras_like labels i [] [] [] (d ∷ ds) e h p q = absurd q
  bras_like labels i [] [] (c ∷ cs) ds e h p q = absurd p
  bras_like labels i [] (u ∷ us) cs ds e h p q = absurd h
  bras_like labels i (t ∷ ts) [] cs ds e h p q = absurd h
  bras_like labels i (t ∷ ts) (u ∷ us) [] ds e h p q = absurd p
  bras_like labels i (t ∷ ts) (u ∷ us) (c ∷ cs) [] e h p q = absurd q
  bras_like labels i (t ∷ ts) (u ∷ us) (c ∷ cs) (d ∷ ds) e h p q =
      let number : suc (length (with_labels labels (suc i) cs)) ≡ bra_number n i =
      ap suc (with_long labels (suc i) cs ∙ conjugates_long ts cs p.1) ∙ omega (arith, e) in (
        conjugates (of_site n j (suc (length (with_labels labels (suc i) cs)))) t u c d (labels i) h.0 h.1 h.2
            (λ z. h.3 (not_bra n j i (ap (of_site n j) (sym number) ∙ z))) p.0 q.0,
        bras_like labels (suc i) ts us cs ds (omega (arith, e)) h.4 p.1 q.1,
      )

pub put_law : PutLaw
put_law fs bra op ket bra' ket' j old new x y lo lk lt pb pk =
    subst (λ z. IsReplaced (of_site (length bra) j) z new) (sym x.2)
    (subst (IsReplaced (of_site (length bra) j) (expect_network fs x.0 op ket)) (sym (y.2 ∙ ap (λ ms. network_of fs ms None []) same_labels))
    (network_like (of_site (length bra) j) fs (expect_members x.0 op ket) new_members like))
  where
    n : ℕ
    n = length bra

    long : length x.0 ≡ length bra
    long = conjugates_long bra x.0 x.1

    long' : length y.0 ≡ length x.0
    long' = conjugates_long bra' y.0 y.1 ∙ pb.count ∙ sym long

    -- the new members, with labels by the old lengths
    new_members : List LabelledMember
    new_members =
        back_with_labels (state_labels expect_upper expect_bra (length x.0)) y.0
        ++ (with_labels (operator_labels expect_upper expect_lower expect_op (length op)) 0 op ++ with_labels (state_labels expect_lower expect_ket (length ket)) 0 ket')

    same_labels : expect_members y.0 op ket' ≡ new_members
    same_labels = λ i.
        back_with_labels (state_labels expect_upper expect_bra (long' i)) y.0
        ++ (with_labels (operator_labels expect_upper expect_lower expect_op (length op)) 0 op ++ with_labels (state_labels expect_lower expect_ket (pk.count i)) 0 ket')

    back_count : length (back_with_labels (state_labels expect_upper expect_bra (length x.0)) x.0) ≡ length bra
    back_count =
        back_long (with_labels (λ k. reverse (state_labels expect_upper expect_bra (length x.0) k)) 0 x.0)
        ∙ with_long (λ k. reverse (state_labels expect_upper expect_bra (length x.0) k)) 0 x.0 ∙ long

    ket_from : 1 + length (back_with_labels (state_labels expect_upper expect_bra (length x.0)) x.0) + length (with_labels (operator_labels expect_upper expect_lower expect_op (length op)) 0 op) ≡ ket_number (length bra) 0
    ket_from = number (length (back_with_labels (state_labels expect_upper expect_bra (length x.0)) x.0)) (length (with_labels (operator_labels expect_upper expect_lower expect_op (length op)) 0 op)) (length bra)
        back_count (with_long (operator_labels expect_upper expect_lower expect_op (length op)) 0 op ∙ lo)
      where
        number : (a b m : ℕ) → a ≡ m → b ≡ m → 1 + a + b ≡ 2 * m + 0 + 1
        number a b m e f = omega (arith, e, f)

    like : AreLike (of_site (length bra) j) 1 (expect_members x.0 op ket) new_members
    like =
        like-append (of_site (length bra) j) 1
        (back_with_labels (state_labels expect_upper expect_bra (length x.0)) x.0) (back_with_labels (state_labels expect_upper expect_bra (length x.0)) y.0)
        (with_labels (operator_labels expect_upper expect_lower expect_op (length op)) 0 op ++ with_labels (state_labels expect_lower expect_ket (length ket)) 0 ket)
        (with_labels (operator_labels expect_upper expect_lower expect_op (length op)) 0 op ++ with_labels (state_labels expect_lower expect_ket (length ket)) 0 ket')
        (like-back (of_site (length bra) j) (with_labels (λ k. reverse (state_labels expect_upper expect_bra (length x.0) k)) 0 x.0) (with_labels (λ k. reverse (state_labels expect_upper expect_bra (length x.0) k)) 0 y.0)
        (bras_like (length bra) j (λ k. reverse (state_labels expect_upper expect_bra (length x.0) k)) 0 bra bra' x.0 y.0 (none_more (length bra)) (sites_put j bra bra' pb) x.1 y.1))
        (like-append (of_site (length bra) j) (1 + length (back_with_labels (state_labels expect_upper expect_bra (length x.0)) x.0))
        (with_labels (operator_labels expect_upper expect_lower expect_op (length op)) 0 op) (with_labels (operator_labels expect_upper expect_lower expect_op (length op)) 0 op)
        (with_labels (state_labels expect_lower expect_ket (length ket)) 0 ket) (with_labels (state_labels expect_lower expect_ket (length ket)) 0 ket')
        (likes (of_site (length bra) j) (1 + length (back_with_labels (state_labels expect_upper expect_bra (length x.0)) x.0)) (with_labels (operator_labels expect_upper expect_lower expect_op (length op)) 0 op))
        (kets_like (length bra) j (state_labels expect_lower expect_ket (length ket)) 0
        (1 + length (back_with_labels (state_labels expect_upper expect_bra (length x.0)) x.0) + length (with_labels (operator_labels expect_upper expect_lower expect_op (length op)) 0 op))
        ket ket' ket_from (sites_put j ket ket' pk)))
      where
        none_more : (k : ℕ) → k + 0 ≡ k
        none_more k = omega arith
