-- The amplitude of a chain of placed tensors is that of its pieces.
use Rattle.std.proofs.Common.{◌≡◌, ℕ, zero, suc, ◌+◌, ◌<◌, ◌≤◌, ◌==◌, ℤ, pos, negsuc, Bool, true, false, not, ◌&&◌, ◌||◌, List, [], ◌∷◌, ◌++◌, map, refl, sym, ◌∙◌, ap, ap₂, subst, append-nil, arith, int_eq}
use Rattle.std.specs.List.{flat_map}
use Rattle.std.proofs.lemmas.Bool.{or_from, or_right, false≢true}
use Rattle.std.proofs.lemmas.Bool.Decides.{nat_tests}
use Rattle.qn_sign.specs.Sign.{is_in, IsDistinct, Perm}
use Rattle.qn_charge.specs.declared.factor.Factor.{Factor}
use Rattle.qn_index.specs.Legs.{SectorValue, LegValue, total, parity_at}
use Rattle.qn_value.specs.Tensors.{TensorValue}
use Rattle.qn_value.specs.Networks.{End, Bond, same_bool, same_end, word, labels, flat, at_values, IsNetwork}
use Rattle.qn_value.specs.Labels.{slots, node_of, is_positive, bonds_from, opens_of}
use Rattle.qn_value.proofs.Sums.{label_test}
use Rattle.qn_value.proofs.PlacedLemmas.{HaveSectorsOn}
use Rattle.qn_braket.specs.Brakets.{outs}
use Rattle.qn_braket.specs.ChainLabels.{own_link, own_upper}
use Rattle.qn_braket.specs.Pieces.{Piece, chain_links, site_lines, state_chain, piece_amplitude, state_names}
use Rattle.qn_braket.proofs.Chained.{numbers, labels_outs, pos_test, neg_test}
use Rattle.qn_braket.proofs.ChainNets.{state_network}
use Rattle.qn_braket.proofs.SlotLaws.{ArePositive, AreOpens, negative_in, plain_value}
use Rattle.qn_braket.proofs.PlacedChains.{site_leg, IsState, state_placed, amplitude_of, slot_at, chain_slots, all_chain, chain_bonds, piece_of, placed_slots, placed_nodes, links_same}

-- the own labels of a state

pub links_absent : (c : ℕ → Piece) (m j x : ℕ) → x ≤ j → is_in int_eq (pos x) (labels (chain_links own_link c j m)) ≡ false
links_absent c zero j x h = refl
links_absent c (suc m) j x h =
    or_from (int_eq (pos x) (own_link j)) (is_in int_eq (pos x) (labels (chain_links own_link c (suc j) m))) (pos_test x (suc j) ∙ differ x j h) (links_absent c m (suc j) x (more x j h))
  where
    differ : (x j : ℕ) → x ≤ j → (x == suc j) ≡ false
    differ x j h = grind (arith, nat_tests)

    more : (x j : ℕ) → x ≤ j → x ≤ suc j
    more x j h = omega (arith, h)

sites_absent : (dim : ℕ → ℕ) (m j x : ℕ) → x < j → is_in int_eq (negsuc x) (labels (site_lines own_upper dim j m)) ≡ false
sites_absent dim zero j x h = refl
sites_absent dim (suc m) j x h =
    or_from (int_eq (negsuc x) (own_upper j)) (is_in int_eq (negsuc x) (labels (site_lines own_upper dim (suc j) m))) (neg_test x j ∙ differ x j h) (sites_absent dim m (suc j) x (more x j h))
  where
    differ : (x j : ℕ) → x < j → (x == j) ≡ false
    differ x j h = grind (arith, nat_tests)

    more : (x j : ℕ) → x < j → x < suc j
    more x j h = omega (arith, h)

no_site : (dim : ℕ → ℕ) (m j x : ℕ) → is_in int_eq (pos x) (labels (site_lines own_upper dim j m)) ≡ false
no_site dim zero j x = refl
no_site dim (suc m) j x = no_site dim m (suc j) x

sites_distinct : (dim : ℕ → ℕ) (m j : ℕ) → IsDistinct int_eq (labels (site_lines own_upper dim j m))
sites_distinct dim zero j = tt
sites_distinct dim (suc m) j = (sites_absent dim m (suc j) j (here j), sites_distinct dim m (suc j))
  where
    here : (j : ℕ) → j < suc j
    here j = omega arith

in-both : (l : ℤ) (us vs : List ℤ) → is_in int_eq l us ≡ false → is_in int_eq l vs ≡ false → is_in int_eq l (us ++ vs) ≡ false
in-both l [] vs h k = k
in-both l (u ∷ us) vs h k = go (int_eq l u) h (in-both l us vs)
  where
    go : (b : Bool) → (b || is_in int_eq l us) ≡ false → (is_in int_eq l us ≡ false → is_in int_eq l vs ≡ false → is_in int_eq l (us ++ vs) ≡ false) →
        (b || is_in int_eq l (us ++ vs)) ≡ false
    go true e ih = absurd (false≢true (sym e))
    go false e ih = ih e k

-- the labels of the links, and others that are not positive
pub own_distinct : (c : ℕ → Piece) (us : List ℤ) → IsDistinct int_eq us → ((x : ℕ) → is_in int_eq (pos x) us ≡ false) → (m j : ℕ) → IsDistinct int_eq (labels (chain_links own_link c j m) ++ us)
own_distinct c us d h zero j = d
own_distinct c us d h (suc m) j = (
  in-both (own_link j) (labels (chain_links own_link c (suc j) m)) us (links_absent c m (suc j) (suc j) (itself j)) (h (suc j)),
  own_distinct c us d h m (suc j),
)
  where
    itself : (j : ℕ) → suc j ≤ suc j
    itself j = omega arith

pub links_positive : (c : ℕ → Piece) (m j : ℕ) → ArePositive (labels (chain_links own_link c j m))
links_positive c zero j = tt
links_positive c (suc m) j = (above j, links_positive c m (suc j))
  where
    above : (j : ℕ) → is_positive (pos (suc j)) ≡ true
    above j = grind (arith, nat_tests)

-- its open ends

pub not_in_outs : (bs : List Bond) (l : ℤ) → is_in same_end (record { label = l; inward = true }) (outs bs) ≡ false
not_in_outs [] l = refl
not_in_outs (b ∷ bs) l = or_from (same_end (record { label = l; inward = true }) (record { label = b.label; inward = false })) (is_in same_end (record { label = l; inward = true }) (outs bs)) (other (int_eq l b.label)) (not_in_outs bs l)
  where
    other : (a : Bool) → (a && false) ≡ false
    other a = grind arith

pub in_outs : (dim : ℕ → ℕ) (n k j i : ℕ) → j + k ≡ n → j ≤ i → i < n → is_in same_end (record { label = negsuc i; inward = false }) (outs (site_lines own_upper dim j k)) ≡ true
in_outs dim n zero j i e h b = absurd (none n j i e h b)
  where
    none : (n j i : ℕ) → j + 0 ≡ n → j ≤ i → i < n → ⊥
    none n j i e h b = omega (arith, e, h, b)
in_outs dim n (suc k) j i e h b = go (i == j) refl (in_outs dim n k (suc j) i (move j k n e))
  where
    move : (j k n : ℕ) → j + suc k ≡ n → suc j + k ≡ n
    move j k n e = omega (arith, e)

    next : (i j : ℕ) → j ≤ i → (i == j) ≡ false → suc j ≤ i
    next i j h f = grind (arith, nat_tests)

    go : (c : Bool) → (i == j) ≡ c → (suc j ≤ i → i < n → is_in same_end (record { label = negsuc i; inward = false }) (outs (site_lines own_upper dim (suc j) k)) ≡ true) →
        ((int_eq (negsuc i) (negsuc j) && true) || is_in same_end (record { label = negsuc i; inward = false }) (outs (site_lines own_upper dim (suc j) k))) ≡ true
    go true f ih = ap (λ d. (d && true) || is_in same_end (record { label = negsuc i; inward = false }) (outs (site_lines own_upper dim (suc j) k))) (neg_test i j ∙ f)
    go false f ih = or_right (int_eq (negsuc i) (negsuc j) && true) (is_in same_end (record { label = negsuc i; inward = false }) (outs (site_lines own_upper dim (suc j) k))) (ih (next i j h f) b)

pub from_outs : (dim : ℕ → ℕ) (n k j : ℕ) → j + k ≡ n → (e : End) → is_in same_end e (outs (site_lines own_upper dim j k)) ≡ true → (i : ℕ) × (i < n) × (e.label ≡ negsuc i)
from_outs dim n zero j q e h = absurd (false≢true h)
from_outs dim n (suc k) j q e h = go (int_eq e.label (own_upper j)) refl h (from_outs dim n k (suc j) (move j k n q) e)
  where
    move : (j k n : ℕ) → j + suc k ≡ n → suc j + k ≡ n
    move j k n e = omega (arith, e)

    inside : (j k n : ℕ) → j + suc k ≡ n → j < n
    inside j k n e = omega (arith, e)

    go : (b : Bool) → int_eq e.label (own_upper j) ≡ b → ((b && same_bool e.inward false) || is_in same_end e (outs (site_lines own_upper dim (suc j) k))) ≡ true →
        (is_in same_end e (outs (site_lines own_upper dim (suc j) k)) ≡ true → (i : ℕ) × (i < n) × (e.label ≡ negsuc i)) → (i : ℕ) × (i < n) × (e.label ≡ negsuc i)
    go true f l ih = (j, inside j k n q, label_test.equal e.label (own_upper j) f)
    go false f l ih = ih l

pub state_opens : (dim : ℕ → ℕ) (n : ℕ) → AreOpens (outs (site_lines own_upper dim 0 n)) n
state_opens dim n = record {
  once = λ i h. not_in_outs (site_lines own_upper dim 0 n) (negsuc i) ∙ sym (ap not (in_outs dim n n 0 i (from n) (least i) h));
  not_positive = λ e h. from_outs dim n n 0 (from n) e h;
}
  where
    from : (n : ℕ) → 0 + n ≡ n
    from n = omega arith

    least : (i : ℕ) → 0 ≤ i
    least i = omega arith

-- the open ends by number
sites_last : (dim : ℕ → ℕ) (k j i : ℕ) → j + k ≡ i → outs (site_lines own_upper dim j (suc k)) ≡ outs (site_lines own_upper dim j k) ++ record { label = negsuc i; inward = false } ∷ []
sites_last dim zero j i e = ap (λ l. record { label = negsuc l; inward = false } ∷ []) (same j i e)
  where
    same : (j i : ℕ) → j + 0 ≡ i → j ≡ i
    same j i e = omega (arith, e)
sites_last dim (suc k) j i e = ap (λ es. record { label = own_upper j; inward = false } ∷ es) (sites_last dim k (suc j) i (move j k i e))
  where
    move : (j k n : ℕ) → j + suc k ≡ n → suc j + k ≡ n
    move j k n e = omega (arith, e)

pub opens_same : (dim : ℕ → ℕ) (es : List End) (n : ℕ) → ((i : ℕ) → i < n → is_in same_end (record { label = negsuc i; inward = true }) es ≡ false) → opens_of es n ≡ outs (site_lines own_upper dim 0 n)
opens_same dim es zero h = refl
opens_same dim es (suc n) h =
    ap₂ (λ os b. os ++ record { label = negsuc n; inward = b } ∷ []) (opens_same dim es n (λ i b. h i (more i n b))) (h n (last n)) ∙ sym (sites_last dim n 0 n (from n))
  where
    more : (i n : ℕ) → i < n → i < suc n
    more i n b = omega arith

    last : (n : ℕ) → n < suc n
    last n = omega arith

    from : (n : ℕ) → 0 + n ≡ n
    from n = omega arith

-- a state chain in the labels of a larger network, whose lines have these sectors

module _ (fs : List Factor) (sites : ℕ → List SectorValue) (right : ℕ → LegValue) (t : ℕ → TensorValue) (m : ℕ) (is : IsState sites right t m) where
  abbrev pub dims : ℕ → ℕ
  dims j = total (sites j)

  abbrev pub own_legs : ℕ → List LegValue
  own_legs j = site_leg sites j ∷ []

  module _ (site link : ℕ → ℤ) where
    pub state_nodes : map node_of (state_placed site link t m) ≡ state_chain site link (piece_of right t) m
    state_nodes = placed_nodes own_legs (λ j. site j ∷ []) link right t (λ k. tt) m 0 [] [] tt is

    pub state_slots : slots (state_placed site link t m) ≡ chain_slots (λ j. slot_at (site_leg sites j) (site j) ∷ []) (λ k. slot_at (right k) (link k)) [] 0 m
    state_slots = placed_slots own_legs (λ j. site j ∷ []) link right t (λ k. tt) m 0 [] [] tt is

    none_own : (k j : ℕ) → flat_map (λ i. bonds_from [] (slot_at (site_leg sites i) (site i) ∷ [])) (numbers j k) ≡ []
    none_own zero j = refl
    none_own (suc k) j = none_own k (suc j)

    -- the In ends are those of the links
    pub state_bonds : ((k : ℕ) → is_positive (link k) ≡ true) → Perm (bonds_from [] (slots (state_placed site link t m))) (chain_links link (piece_of right t) 0 m)
    state_bonds positive =
        subst (λ ss. Perm (bonds_from [] ss) (chain_links link (piece_of right t) 0 m)) (sym state_slots)
        (subst (Perm (bonds_from [] (chain_slots (λ j. slot_at (site_leg sites j) (site j) ∷ []) (λ k. slot_at (right k) (link k)) [] 0 m)))
        (ap₂ (λ u v. u ++ v) (links_same link right t m 0) (none_own (suc m) 0) ∙ append-nil (chain_links link (piece_of right t) 0 m))
        (chain_bonds (λ j. slot_at (site_leg sites j) (site j) ∷ []) (λ k. slot_at (right k) (link k)) positive m 0 []))

    pub state_lines : (line : ℤ → List SectorValue) → ((k : ℕ) → line (site k) ≡ sites k) → ((k : ℕ) → line (link k) ≡ (right k).sectors) →
        HaveSectorsOn line (slots (state_placed site link t m))
    state_lines line h k =
        subst (HaveSectorsOn line) (sym state_slots)
        (all_chain line (λ j. slot_at (site_leg sites j) (site j) ∷ []) (λ i. slot_at (right i) (link i)) (λ i. (h i, tt)) k m 0 [] tt)

  pub own_net : IsNetwork (map node_of (state_placed own_upper own_link t m)) (chain_links own_link (piece_of right t) 0 m) (outs (site_lines own_upper dims 0 (suc m)))
  own_net =
      subst (λ ns. IsNetwork ns (chain_links own_link (piece_of right t) 0 m) (outs (site_lines own_upper dims 0 (suc m)))) (sym (state_nodes own_upper own_link))
      (state_network own_upper own_link (piece_of right t) dims m
      (subst (λ ls. IsDistinct int_eq (labels (chain_links own_link (piece_of right t) 0 m) ++ ls)) (sym (labels_outs (site_lines own_upper dims 0 (suc m))))
      (own_distinct (piece_of right t) (labels (site_lines own_upper dims 0 (suc m))) (sites_distinct dims (suc m) 0) (no_site dims (suc m) 0) m 0)))

  -- the amplitude by the sectors of the lines in the larger network
  pub amplitude_is : (site link : ℕ → ℤ) (line : ℤ → List SectorValue) → ((k : ℕ) → line (site k) ≡ sites k) → ((k : ℕ) → line (link k) ≡ (right k).sectors) → (s : List ℕ) →
      amplitude_of fs t m s ≡ piece_amplitude (λ l v. parity_at fs (line (state_names site link l)) v) dims (piece_of right t) m s
  amplitude_is site link line h k s =
      plain_value fs (state_placed own_upper own_link t m) (suc m) (chain_links own_link (piece_of right t) 0 m) (outs (site_lines own_upper dims 0 (suc m)))
      own_net positive (state_opens dims (suc m))
      (opens_same dims (word (map node_of (state_placed own_upper own_link t m))) (suc m)
      (λ i b. negative_in (map node_of (state_placed own_upper own_link t m)) (chain_links own_link (piece_of right t) 0 m) (outs (site_lines own_upper dims 0 (suc m))) (suc m)
      own_net positive (state_opens dims (suc m)) i true ∙ not_in_outs (site_lines own_upper dims 0 (suc m)) (negsuc i)))
      (state_bonds own_upper own_link (λ j. above j)) (λ l. line (state_names site link l)) (state_lines own_upper own_link (λ l. line (state_names site link l)) h k)
      (λ l v. parity_at fs (line (state_names site link l)) v) (λ e i v. refl) s
      ∙ ap (λ ns. flat (λ l v. parity_at fs (line (state_names site link l)) v) ns (chain_links own_link (piece_of right t) 0 m) (outs (site_lines own_upper dims 0 (suc m)))
      (at_values (outs (site_lines own_upper dims 0 (suc m))) s)) (state_nodes own_upper own_link)
    where
      positive : ArePositive (labels (chain_links own_link (piece_of right t) 0 m))
      positive = links_positive (piece_of right t) m 0

      above : (j : ℕ) → is_positive (pos (suc j)) ≡ true
      above j = grind (arith, nat_tests)
