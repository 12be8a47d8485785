use Rattle.std.proofs.Common.{◌≡◌, ℕ, ℤ, Bool, true, false, not, ◌&&◌, List, [], ◌∷◌, ◌++◌, refl, sym, ◌∙◌, ap, ap₂, subst, count_by, ◌⊎◌, inl, inr, append_assoc, append-nil, subst₂, arith, int_eq}
use mathlib.Core.Path.{fun_ext}
use Rattle.std.proofs.lemmas.Bool.{or_left, or_right, false≢true}
use Rattle.qn_sign.specs.Sign.{exchanges, stands_before, is_in, is_odd, xor, IsDistinct, Perm}
use Rattle.qn_sign.specs.Sign.Perm.{none, keep, swap, then_by}
use Rattle.qn_gauss.specs.Gaussian.{Gaussian, zero_g, mul_g, signed}
use Rattle.qn_value.specs.Networks.{End, Node, Bond, Assignment, sums, same_end, word, pairs_of, goal, odd_end, sign, values, product, flat, at_values, odd_flux, contract, IsNetwork, IsHomogeneous, labels, kept as kept_legs, pairwise, AreWithin, AreHomogeneous}
use Rattle.qn_sign.proofs.Order.{is_in-append, distinct-perm, distinct_first, distinct_second, distinct_parts_back, is_in-perm}
use Rattle.qn_sign.proofs.Parity.{tally, pairs, tally-append, tally-perm, perm-refl, perm-sym, perm_blocks, perm_under, perm_before}
use Rattle.qn_sign.proofs.Members.{perm_cancel}
use Rattle.qn_value.proofs.KeptLemmas.{kept_from}
use Rattle.qn_value.proofs.BlockLaw.{block_law}
use Rattle.qn_value.proofs.ExchangeLaw.{exchange_law}
use Rattle.qn_sign.proofs.SignLaws.{pairs-same, turned, couple_exchange, tally-congr}
use Rattle.qn_gauss.proofs.Ring.{mul_comm, mul_zero, mul_one}
use Rattle.qn_value.proofs.Sums.{Meets, meets-perm, sums-meet, sums-perm, sums-vanish, steady_from, IsSteady, DependsOn}
use Rattle.qn_sign.proofs.Parity.{is_odd-count}
use Rattle.qn_value.proofs.NetLaws.{end_test, word-append, signed-xor, signed-zero, sign-pairs, twist-perm, twist-same, ends-labels, labels_distinct, pairs_of-append, bonds_even, at_values-values, node_path}

-- a block of a network, its open legs in any order

module _ (pre mid post : List Node) (shared rest : List Bond) (order opens : List End)
    (net : IsNetwork (pre ++ (mid ++ post)) (shared ++ rest) opens) (whole : Perm (word mid) (pairs_of shared ++ order)) where
  word_parts : word (pre ++ (mid ++ post)) ≡ word pre ++ (word mid ++ word post)
  word_parts = word-append pre (mid ++ post) ∙ ap (λ w. word pre ++ w) (word-append mid post)

  goal_parts : goal (shared ++ rest) opens ≡ pairs_of shared ++ goal rest opens
  goal_parts = ap (λ es. es ++ opens) (pairs_of-append shared rest) ∙ append_assoc (pairs_of shared) (pairs_of rest) opens

  parts_distinct : IsDistinct same_end (word pre ++ (word mid ++ word post))
  parts_distinct = subst (IsDistinct same_end) word_parts net.distinct

  pub mid_distinct : IsDistinct same_end (word mid)
  mid_distinct = distinct_first same_end (word mid) (word post) (distinct_second same_end (word pre) (word mid ++ word post) parts_distinct)

  -- the word, with the shared ends first
  shared_first : Perm (word pre ++ (word mid ++ word post)) (pairs_of shared ++ (word pre ++ (order ++ word post)))
  shared_first =
      then_by (perm_under (word pre) (perm_before (word post) whole))
      (then_by (subst (λ w. Perm (word pre ++ ((pairs_of shared ++ order) ++ word post)) (word pre ++ w)) (append_assoc (pairs_of shared) order (word post)) (perm-refl (word pre ++ ((pairs_of shared ++ order) ++ word post))))
      (perm_blocks (word pre) (pairs_of shared) (order ++ word post)))

  pub block_left : Perm (word pre ++ (order ++ word post)) (goal rest opens)
  block_left =
      perm_cancel same_end end_test (pairs_of shared) (word pre ++ (order ++ word post)) (goal rest opens)
      (distinct-perm same_end end_test shared_first parts_distinct)
      (then_by (perm-sym shared_first) (subst₂ Perm word_parts goal_parts net.complete))

  -- what is left is a network
  pub any_block_network : (par : ℤ → ℕ → Bool) → IsNetwork (pre ++ (contract par mid shared order ∷ post)) rest opens
  any_block_network par = record {
    distinct = subst (IsDistinct same_end) (sym (word-append pre (contract par mid shared order ∷ post)))
        (distinct_second same_end (pairs_of shared) (word pre ++ (order ++ word post)) (distinct-perm same_end end_test shared_first parts_distinct));
    complete = subst (λ w. Perm w (goal rest opens)) (sym (word-append pre (contract par mid shared order ∷ post))) block_left;
  }

  -- and has the same value
  pub any_block_value : (par : ℤ → ℕ → Bool) (a : Assignment) →
      flat par (pre ++ (mid ++ post)) (shared ++ rest) opens a ≡ flat par (pre ++ (contract par mid shared order ∷ post)) rest opens a
  any_block_value par a = block_law par pre mid post shared rest order opens net whole block_left a

-- the flux of a contraction

pub word_odd : (par : ℤ → ℕ → Bool) (ns : List Node) → AreHomogeneous par ns → (a : Assignment) →
    (tally (odd_end par a) (word ns) ≡ odd_flux ns) ⊎ (product ns a ≡ zero_g)
word_odd par [] h a = inl refl
word_odd par (n ∷ ns) h a = go (h.0 a) (word_odd par ns h.1 a)
  where
    go : (is_odd (count_by (odd_end par a) n.ends) ≡ n.odd) ⊎ (n.entry (values n.ends a) ≡ zero_g) →
        (tally (odd_end par a) (word ns) ≡ odd_flux ns) ⊎ (product ns a ≡ zero_g) →
        (tally (odd_end par a) (n.ends ++ word ns) ≡ xor n.odd (odd_flux ns)) ⊎ (mul_g (n.entry (values n.ends a)) (product ns a) ≡ zero_g)
    go (inr z) _ = inr (ap (λ x. mul_g x (product ns a)) z ∙ mul_comm zero_g (product ns a) ∙ mul_zero (product ns a))
    go (inl e) (inr z) = inr (ap (mul_g (n.entry (values n.ends a))) z ∙ mul_zero (n.entry (values n.ends a)))
    go (inl e) (inl f) = inl (tally-append (odd_end par a) n.ends (word ns) ∙ ap₂ xor (sym (is_odd-count (odd_end par a) n.ends) ∙ e) f)

pub tally-agree : (par : ℤ → ℕ → Bool) (es : List End) → DependsOn es (λ a. tally (odd_end par a) es)
tally-agree par es a c h = tally-congr same_end end_test (odd_end par a) (odd_end par c) es (λ e k. ap (par e.label) (h e k))

pub contract_homogeneous : (par : ℤ → ℕ → Bool) (ns : List Node) (bs : List Bond) (opens : List End) →
    IsDistinct same_end (word ns) → Perm (word ns) (pairs_of bs ++ opens) → AreHomogeneous par ns → IsHomogeneous par (contract par ns bs opens)
contract_homogeneous par ns bs opens d k h a =
    go (tally (odd_end par a) opens) refl (odd_flux ns) refl
  where
    word_opens : (c : Assignment) → Meets bs c → tally (odd_end par c) (word ns) ≡ tally (odd_end par c) opens
    word_opens c m =
        tally-perm (odd_end par c) k ∙ tally-append (odd_end par c) (pairs_of bs) opens
        ∙ ap (λ b. xor b (tally (odd_end par c) opens)) (bonds_even par c bs m)

    open_label : (e : End) → is_in same_end e opens ≡ true → is_in int_eq e.label (labels bs) ≡ false
    open_label e l = sym (ends-labels e bs) ∙ distinct_parts_back same_end end_test e (pairs_of bs) opens (distinct-perm same_end end_test k d) l

    steady : IsSteady (λ c. tally (odd_end par c) opens) bs
    steady = steady_from bs opens (λ c. tally (odd_end par c) opens) (tally-agree par opens) open_label

    -- the entry is the sum with the outer values
    start : Assignment
    start = at_values opens (values opens a)

    start_tally : tally (odd_end par start) opens ≡ tally (odd_end par a) opens
    start_tally = tally-agree par opens start a (λ e l. at_values-values opens a e l)

    vanish : (b f : Bool) → odd_flux ns ≡ f → b ≡ not f → (c : Assignment) → Meets bs c → tally (odd_end par c) opens ≡ b → signed (sign par ns bs opens c) (product ns c) ≡ zero_g
    vanish b f e g c m t = at (word_odd par ns h c)
      where
        clash : (f : Bool) → f ≡ not f → ⊥
        clash true p = absurd (false≢true (sym p))
        clash false p = absurd (false≢true p)

        at : (tally (odd_end par c) (word ns) ≡ odd_flux ns) ⊎ (product ns c ≡ zero_g) → signed (sign par ns bs opens c) (product ns c) ≡ zero_g
        at (inr z) = ap (signed (sign par ns bs opens c)) z ∙ signed-zero (sign par ns bs opens c)
        at (inl q) = absurd (clash f (sym e ∙ sym q ∙ word_opens c m ∙ t ∙ g))

    go : (b : Bool) → tally (odd_end par a) opens ≡ b → (f : Bool) → odd_flux ns ≡ f →
        (is_odd (count_by (odd_end par a) opens) ≡ odd_flux ns) ⊎ (flat par ns bs opens (at_values opens (values opens a)) ≡ zero_g)
    go true u true w = inl (is_odd-count (odd_end par a) opens ∙ u ∙ sym w)
    go false u false w = inl (is_odd-count (odd_end par a) opens ∙ u ∙ sym w)
    go true u false w = inr (sums-vanish bs (λ c. tally (odd_end par c) opens) (λ c. signed (sign par ns bs opens c) (product ns c)) steady true (vanish true false w refl) start (start_tally ∙ u))
    go false u true w = inr (sums-vanish bs (λ c. tally (odd_end par c) opens) (λ c. signed (sign par ns bs opens c) (product ns c)) steady false (vanish false true w refl) start (start_tally ∙ u))

-- a block that keeps its open legs in the order of its word

pub block_whole : (pre mid post : List Node) (shared rest : List Bond) (opens : List End) →
    IsNetwork (pre ++ (mid ++ post)) (shared ++ rest) opens → AreWithin shared mid → Perm (word mid) (pairs_of shared ++ kept_legs mid shared)
block_whole pre mid post shared rest opens net within =
    (kept_from mid shared
    (distinct_first same_end (word mid) (word post) (distinct_second same_end (word pre) (word mid ++ word post)
    (subst (IsDistinct same_end) (word-append pre (mid ++ post) ∙ ap (λ w. word pre ++ w) (word-append mid post)) net.distinct)))
    (distinct_first same_end (pairs_of shared) (goal rest opens)
    (subst (IsDistinct same_end) (ap (λ es. es ++ opens) (pairs_of-append shared rest) ∙ append_assoc (pairs_of shared) (pairs_of rest) opens)
    (distinct-perm same_end end_test net.complete net.distinct)))
    within).perm

pub block_network : (pre mid post : List Node) (shared rest : List Bond) (opens : List End) →
    IsNetwork (pre ++ (mid ++ post)) (shared ++ rest) opens → AreWithin shared mid → (par : ℤ → ℕ → Bool) →
    IsNetwork (pre ++ (contract par mid shared (kept_legs mid shared) ∷ post)) rest opens
block_network pre mid post shared rest opens net within par =
    any_block_network pre mid post shared rest (kept_legs mid shared) opens net (block_whole pre mid post shared rest opens net within) par

pub block_value : (pre mid post : List Node) (shared rest : List Bond) (opens : List End) →
    IsNetwork (pre ++ (mid ++ post)) (shared ++ rest) opens → AreWithin shared mid → (par : ℤ → ℕ → Bool) (a : Assignment) →
    flat par (pre ++ (mid ++ post)) (shared ++ rest) opens a ≡ flat par (pre ++ (contract par mid shared (kept_legs mid shared) ∷ post)) rest opens a
block_value pre mid post shared rest opens net within par a =
    any_block_value pre mid post shared rest (kept_legs mid shared) opens net (block_whole pre mid post shared rest opens net within) par a

pub block_homogeneous : (pre mid post : List Node) (shared rest : List Bond) (opens : List End) →
    IsNetwork (pre ++ (mid ++ post)) (shared ++ rest) opens → AreWithin shared mid → (par : ℤ → ℕ → Bool) → AreHomogeneous par mid →
    IsHomogeneous par (contract par mid shared (kept_legs mid shared))
block_homogeneous pre mid post shared rest opens net within par h =
    let w = block_whole pre mid post shared rest opens net within in
    contract_homogeneous par mid shared (kept_legs mid shared) (mid_distinct pre mid post shared rest (kept_legs mid shared) opens net w) w h

-- the order of the bonds

pub perm_pairs_of : {bs cs : List Bond} → Perm bs cs → Perm (pairs_of bs) (pairs_of cs)
perm_pairs_of none = none
perm_pairs_of (keep p) = keep (keep (perm_pairs_of p))
perm_pairs_of (swap {x = b} {y = c} {xs = bs}) =
    perm_blocks (record { label = b.label; inward = true } ∷ record { label = b.label; inward = false } ∷ []) (record { label = c.label; inward = true } ∷ record { label = c.label; inward = false } ∷ []) (pairs_of bs)
perm_pairs_of (then_by p q) = then_by (perm_pairs_of p) (perm_pairs_of q)

sign_order : (par : ℤ → ℕ → Bool) (a : Assignment) (w opens : List End) {bs cs : List Bond} → Perm bs cs → Meets bs a → IsDistinct same_end (pairs_of bs ++ opens) →
    ((x : End) → is_in same_end x (pairs_of bs ++ opens) ≡ true → is_in same_end x w ≡ true) →
    pairs (turned same_end (odd_end par a) w) (pairs_of bs ++ opens) ≡ pairs (turned same_end (odd_end par a) w) (pairs_of cs ++ opens)
sign_order par a w opens none m d h = refl
sign_order par a w opens (keep {x = b} {xs = bs} {ys = cs} p) m d h =
    let q : Perm (pairs_of bs ++ opens) (pairs_of cs ++ opens) = perm_before opens (perm_pairs_of p) in
    ap₂ xor (tally-perm (turned same_end (odd_end par a) w (record { label = b.label; inward = true })) (keep q))
    (ap₂ xor (tally-perm (turned same_end (odd_end par a) w (record { label = b.label; inward = false })) q)
    (sign_order par a w opens p m.1 d.1.1 (λ x k. h x (or_right (same_end x (record { label = b.label; inward = true })) (is_in same_end x (record { label = b.label; inward = false } ∷ pairs_of bs ++ opens))
    (or_right (same_end x (record { label = b.label; inward = false })) (is_in same_end x (pairs_of bs ++ opens)) k)))))
sign_order par a w opens (swap {x = b} {y = c} {xs = bs}) m d h =
    couple_exchange same_end end_test (odd_end par a) w (record { label = b.label; inward = true }) (record { label = b.label; inward = false })
    (record { label = c.label; inward = true }) (record { label = c.label; inward = false }) (pairs_of bs ++ opens) d h (ap (par b.label) m.0)
sign_order par a w opens (then_by {xs = bs} {ys = cs} p q) e d h =
    let m : Perm (pairs_of bs ++ opens) (pairs_of cs ++ opens) = perm_before opens (perm_pairs_of p) in
    sign_order par a w opens p e d h
    ∙ sign_order par a w opens q (meets-perm p a e) (distinct-perm same_end end_test m d) (λ x k. h x (is_in-perm same_end x m ∙ k))

pub order_law : (par : ℤ → ℕ → Bool) (ns : List Node) (bs cs : List Bond) (opens : List End) → IsNetwork ns bs opens → Perm bs cs → (a : Assignment) →
    flat par ns bs opens a ≡ flat par ns cs opens a
order_law par ns bs cs opens net p a =
    let d : IsDistinct same_end (pairs_of bs ++ opens) = distinct-perm same_end end_test net.complete net.distinct in
    sums-meet bs (λ c. signed (sign par ns bs opens c) (product ns c)) (λ c. signed (sign par ns cs opens c) (product ns c)) (λ c m. ap (λ b. signed b (product ns c))
    (ap₂ xor (twist-perm par c p)
    (sign-pairs par ns bs opens c
    ∙ sign_order par c (word ns) opens p m d (λ x k. is_in-perm same_end x net.complete ∙ k)
    ∙ sym (sign-pairs par ns cs opens c)))) a
    ∙ sums-perm p (labels_distinct bs (distinct_first same_end (pairs_of bs) opens d)) (λ c. signed (sign par ns cs opens c) (product ns c)) a

-- a contraction is the same tensor in any order of its bonds
pub contract_order : (par : ℤ → ℕ → Bool) (ns : List Node) (bs cs : List Bond) (opens : List End) → IsNetwork ns bs opens → Perm bs cs →
    contract par ns bs opens ≡ contract par ns cs opens
contract_order par ns bs cs opens net p =
    node_path (contract par ns bs opens) (contract par ns cs opens) refl (λ xs. order_law par ns bs cs opens net p (at_values opens xs)) refl

pub order_network : (ns : List Node) (bs cs : List Bond) (opens : List End) → IsNetwork ns bs opens → Perm bs cs → IsNetwork ns cs opens
order_network ns bs cs opens net p = record { distinct = net.distinct; complete = then_by net.complete (perm_before opens (perm_pairs_of p)) }

-- the parities of the lines of the network

pub parity_law : (par other : ℤ → ℕ → Bool) (ns : List Node) (bs : List Bond) (opens : List End) → IsNetwork ns bs opens →
    ((e : End) → is_in same_end e (word ns) ≡ true → (v : ℕ) → par e.label v ≡ other e.label v) → (a : Assignment) →
    flat par ns bs opens a ≡ flat other ns bs opens a
parity_law par other ns bs opens net h a =
    ap (λ (f : Assignment → Gaussian). sums bs f a) (fun_ext (λ c. ap (λ b. signed b (product ns c))
    (ap₂ xor (twist-same par other bs c c (λ e k. h e (is_in-perm same_end e net.complete
    ∙ is_in-append same_end e (pairs_of bs) opens ∙ or_left (is_in same_end e (pairs_of bs)) (is_in same_end e opens) k) (c e)))
    (sign-pairs par ns bs opens c
    ∙ pairs-same same_end end_test (turned same_end (odd_end par c) (word ns)) (turned same_end (odd_end other c) (word ns)) (goal bs opens)
    (λ x y k l. ap₂ (λ p q. (p && q) && stands_before same_end (word ns) y x)
    (h x (is_in-perm same_end x net.complete ∙ k) (c x)) (h y (is_in-perm same_end y net.complete ∙ l) (c y)))
    ∙ sym (sign-pairs other ns bs opens c)))))

-- the order of the tensors

pub perm_word : {ns ms : List Node} → Perm ns ms → Perm (word ns) (word ms)
perm_word none = none
perm_word (keep {x = n} p) = perm_under n.ends (perm_word p)
perm_word (swap {x = n} {y = m} {xs = ns}) = perm_blocks n.ends m.ends (word ns)
perm_word (then_by p q) = then_by (perm_word p) (perm_word q)

pub moved_network : (ns ms : List Node) (bs : List Bond) (opens : List End) → IsNetwork ns bs opens → Perm ns ms → IsNetwork ms bs opens
moved_network ns ms bs opens net p = record {
  distinct = distinct-perm same_end end_test (perm_word p) net.distinct;
  complete = then_by (perm-sym (perm_word p)) net.complete;
}

-- a tensor goes to the front of the ones before it
pub move_law : (par : ℤ → ℕ → Bool) (pre mid : List Node) (x : Node) (post : List Node) (bs : List Bond) (opens : List End) →
    IsNetwork (pre ++ (mid ++ (x ∷ post))) bs opens → AreHomogeneous par mid → IsHomogeneous par x → (a : Assignment) →
    flat par (pre ++ (mid ++ (x ∷ post))) bs opens a ≡ signed (odd_flux mid && x.odd) (flat par (pre ++ (x ∷ (mid ++ post))) bs opens a)
move_law par pre [] x post bs opens net hm hx a = refl
move_law par pre (n ∷ mid) x post bs opens net hm hx a =
    let snoc : (ms : List Node) → pre ++ (n ∷ ms) ≡ (pre ++ (n ∷ [])) ++ ms = λ ms. sym (append_assoc pre (n ∷ []) ms) in
    let net' : IsNetwork (pre ++ (n ∷ x ∷ (mid ++ post))) bs opens =
    moved_network (pre ++ (n ∷ (mid ++ (x ∷ post)))) (pre ++ (n ∷ x ∷ (mid ++ post))) bs opens net
    (perm_under pre (keep (perm_blocks mid (x ∷ []) post))) in
    ap (λ ns. flat par ns bs opens a) (snoc (mid ++ (x ∷ post)))
    ∙ move_law par (pre ++ (n ∷ [])) mid x post bs opens (subst (λ ns. IsNetwork ns bs opens) (snoc (mid ++ (x ∷ post))) net) hm.1 hx a
    ∙ ap (signed (odd_flux mid && x.odd))
    (ap (λ ns. flat par ns bs opens a) (sym (snoc (x ∷ (mid ++ post))))
    ∙ exchange_law par pre n x (mid ++ post) bs opens net' hm.0 hx a)
    ∙ sym (signed-xor (odd_flux mid && x.odd) (n.odd && x.odd) (flat par (pre ++ (x ∷ n ∷ (mid ++ post))) bs opens a))
    ∙ ap (λ b. signed b (flat par (pre ++ (x ∷ n ∷ (mid ++ post))) bs opens a)) (join n.odd (odd_flux mid) x.odd)
  where
    join : (p q r : Bool) → xor (q && r) (p && r) ≡ (xor p q && r)
    join p q r = grind arith

-- two tensors anywhere: the second goes to the first, past those between, and the two are contracted

module _ (par : ℤ → ℕ → Bool) (pre : List Node) (x : Node) (between : List Node) (y : Node) (post : List Node) (bonds shared rest : List Bond) (opens : List End)
    (net : IsNetwork (pre ++ (x ∷ (between ++ (y ∷ post)))) bonds opens) (split : Perm bonds (shared ++ rest)) (within : AreWithin shared (x ∷ y ∷ [])) where
  pub net_split : IsNetwork (pre ++ (x ∷ (between ++ (y ∷ post)))) (shared ++ rest) opens
  net_split = order_network (pre ++ (x ∷ (between ++ (y ∷ post)))) bonds (shared ++ rest) opens net split

  pub net_moved : IsNetwork (pre ++ (x ∷ y ∷ (between ++ post))) (shared ++ rest) opens
  net_moved =
      moved_network (pre ++ (x ∷ (between ++ (y ∷ post)))) (pre ++ (x ∷ y ∷ (between ++ post))) (shared ++ rest) opens net_split
      (perm_under pre (keep (perm_blocks between (y ∷ []) post)))

  pub step_network : IsNetwork (pre ++ (pairwise par x y shared ∷ (between ++ post))) rest opens
  step_network = block_network pre (x ∷ y ∷ []) (between ++ post) shared rest opens net_moved within par

  pub step_homogeneous : IsHomogeneous par x → IsHomogeneous par y → IsHomogeneous par (pairwise par x y shared)
  step_homogeneous h k = block_homogeneous pre (x ∷ y ∷ []) (between ++ post) shared rest opens net_moved within par (h, (k, tt))

  snoc : (ms : List Node) → pre ++ (x ∷ ms) ≡ (pre ++ (x ∷ [])) ++ ms
  snoc ms = sym (append_assoc pre (x ∷ []) ms)

  pub step_value : AreHomogeneous par between → IsHomogeneous par y → (a : Assignment) →
      flat par (pre ++ (x ∷ (between ++ (y ∷ post)))) bonds opens a ≡
      signed (odd_flux between && y.odd) (flat par (pre ++ (pairwise par x y shared ∷ (between ++ post))) rest opens a)
  step_value hb hy a =
      order_law par (pre ++ (x ∷ (between ++ (y ∷ post)))) bonds (shared ++ rest) opens net split a
      ∙ ap (λ ns. flat par ns (shared ++ rest) opens a) (snoc (between ++ (y ∷ post)))
      ∙ move_law par (pre ++ (x ∷ [])) between y post (shared ++ rest) opens
      (subst (λ ns. IsNetwork ns (shared ++ rest) opens) (snoc (between ++ (y ∷ post))) net_split) hb hy a
      ∙ ap (signed (odd_flux between && y.odd))
      (ap (λ ns. flat par ns (shared ++ rest) opens a) (sym (snoc (y ∷ (between ++ post))))
      ∙ block_value pre (x ∷ y ∷ []) (between ++ post) shared rest opens net_moved within par a)

-- the last tensor
pub final_law : (par : ℤ → ℕ → Bool) (x : Node) (opens : List End) (a : Assignment) →
    flat par (x ∷ []) [] opens a ≡ signed (is_odd (exchanges same_end (odd_end par a) x.ends opens)) (x.entry (values x.ends a))
final_law par x opens a =
    ap₂ (λ w v. signed (is_odd (exchanges same_end (odd_end par a) w opens)) v) (append-nil x.ends) (mul_one (x.entry (values x.ends a)))
