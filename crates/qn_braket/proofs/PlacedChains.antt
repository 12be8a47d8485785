-- Chains of placed tensors are chains of pieces.
use Rattle.std.proofs.Common.{◌≡◌, ℕ, zero, suc, ◌+◌, ◌*◌, ◌<◌, ℤ, Bool, true, false, not, ◌&&◌, cond, List, [], ◌∷◌, ◌++◌, map, reverse, refl, sym, ◌∙◌, ap, ap₂, subst, subst₂, append_assoc, append-nil, arith}
use mathlib.Core.Path.{fun_ext}
use Rattle.std.specs.List.{flat_map}
use Rattle.std.proofs.lemmas.Bool.{false≢true}
use Rattle.std.proofs.lemmas.List.{map-append, reverse-append, reverse-reverse}
use Rattle.qn_sign.specs.Sign.{xor, exchange_sign, IsDistinct, Perm}
use Rattle.qn_sign.specs.Sign.Perm.{keep, then_by}
use Rattle.qn_gauss.specs.Gaussian.{Gaussian, conj_g, mul_g, signed}
use Rattle.qn_charge.specs.declared.factor.Factor.{Factor}
use Rattle.qn_charge.specs.Charges.{parity}
use Rattle.qn_index.specs.declared.leg.Dir.{Dir}
use Rattle.qn_index.specs.declared.leg.Dir.TheVariants.{Out, In}
use Rattle.qn_index.specs.Legs.{SectorValue, LegValue, total, flipped, other_way}
use Rattle.qn_value.specs.Tensors.{TensorValue, entry_of}
use Rattle.qn_value.specs.Networks.{End, Node, Bond, Assignment, sums, same_end, word, goal, odd_end, twist_sign, values, product, flat, IsNetwork}
use Rattle.qn_value.specs.Labels.{Placed, Slot, slots_of, slots, ends, node_of, is_inward, is_positive, bonds_from, value_of}
use Rattle.qn_sign.proofs.Parity.{perm-refl, perm_under, perm_blocks}
use Rattle.qn_value.proofs.PlacedLemmas.{HaveSectorsOn}
use Rattle.qn_block.proofs.Mirror.{reverse_cons}
use Rattle.qn_braket.specs.Conjugates.{flip, conj_ends, conj_node, conj_nodes}
use Rattle.qn_braket.specs.ChainLabels.{own_link, own_upper, own_lower}
use Rattle.qn_braket.specs.Pieces.{Piece, chain, chain_links}
use Rattle.qn_braket.proofs.Back.{reverse-map}
use Rattle.qn_braket.proofs.Conjugate.{conj_nodes_cons}
use Rattle.qn_braket.proofs.Chained.{numbers}
use Rattle.qn_braket.proofs.SlotLaws.{on_both, bonds-append}

-- two tensors with the same legs and entries; the parities of their fluxes do not matter to a value
pub record AreSame (n m : Node) : Type 0 where
  pub ends : n.ends ≡ m.ends
  pub entry : n.entry ≡ m.entry

abbrev pub AllSame : List Node → List Node → Type 0
AllSame [] [] = Unit {0}
AllSame [] (m ∷ ms) = ⊥
AllSame (n ∷ ns) [] = ⊥
AllSame (n ∷ ns) (m ∷ ms) = AreSame n m × AllSame ns ms

pub same_all : (ns : List Node) → AllSame ns ns
same_all [] = tt
same_all (n ∷ ns) = (record { ends = refl; entry = refl }, same_all ns)

pub same-both : (ns ms us vs : List Node) → AllSame ns ms → AllSame us vs → AllSame (ns ++ us) (ms ++ vs)
same-both [] [] us vs h k = k
same-both [] (m ∷ ms) us vs h k = absurd h
same-both (n ∷ ns) [] us vs h k = absurd h
same-both (n ∷ ns) (m ∷ ms) us vs h k = (h.0, same-both ns ms us vs h.1 k)

pub same_word : (ns ms : List Node) → AllSame ns ms → word ns ≡ word ms
same_word [] [] h = refl
same_word [] (m ∷ ms) h = absurd h
same_word (n ∷ ns) [] h = absurd h
same_word (n ∷ ns) (m ∷ ms) h = ap₂ (λ u v. u ++ v) h.0.ends (same_word ns ms h.1)

same_product : (ns ms : List Node) → AllSame ns ms → (c : Assignment) → product ns c ≡ product ms c
same_product [] [] h c = refl
same_product [] (m ∷ ms) h c = absurd h
same_product (n ∷ ns) [] h c = absurd h
same_product (n ∷ ns) (m ∷ ms) h c = λ i. mul_g (h.0.entry i (values (h.0.ends i) c)) (same_product ns ms h.1 c i)

pub same_flat : (par : ℤ → ℕ → Bool) (ns ms : List Node) (bs : List Bond) (opens : List End) → AllSame ns ms → (a : Assignment) → flat par ns bs opens a ≡ flat par ms bs opens a
same_flat par ns ms bs opens h a = λ i. sums bs (λ c.
    signed (xor (twist_sign par bs c) (exchange_sign same_end (odd_end par c) (same_word ns ms h i) (goal bs opens))) (same_product ns ms h c i)) a

pub same_network : (ns ms : List Node) (bs : List Bond) (opens : List End) → AllSame ns ms → IsNetwork ms bs opens → IsNetwork ns bs opens
same_network ns ms bs opens h net = record {
  distinct = subst (IsDistinct same_end) (sym (same_word ns ms h)) net.distinct;
  complete = subst (λ w. Perm w (goal bs opens)) (sym (same_word ns ms h)) net.complete;
}

-- the tensors of site j and the m sites after it, with the labels left, those of the site, right
abbrev pub placed_chain : (ℕ → List ℤ) → (ℕ → ℤ) → (ℕ → TensorValue) → List ℤ → ℕ → ℕ → List Placed
placed_chain own link t left j zero = record { tensor = t j; labels = left ++ own j } ∷ []
placed_chain own link t left j (suc m) =
    record { tensor = t j; labels = left ++ (own j ++ link j ∷ []) } ∷ placed_chain own link t (link j ∷ []) (suc j) m

-- each tensor has the legs of its place, and the legs right of j and left of j + 1 meet
abbrev pub AreChained : (ℕ → List LegValue) → (ℕ → LegValue) → (ℕ → TensorValue) → List LegValue → ℕ → ℕ → Type 0
AreChained own right t left j zero = (t j).legs ≡ left ++ own j
AreChained own right t left j (suc m) = ((t j).legs ≡ left ++ (own j ++ right j ∷ [])) × AreChained own right t (flipped (right j) ∷ []) (suc j) m

abbrev pub site_leg : (ℕ → List SectorValue) → ℕ → LegValue
site_leg sites j = record { arrow = Out; sectors = sites j }

-- a state chain of the sites 0 to m, whose legs these are
abbrev pub IsState : (ℕ → List SectorValue) → (ℕ → LegValue) → (ℕ → TensorValue) → ℕ → Type 0
IsState sites right t m = AreChained (λ j. site_leg sites j ∷ []) right t [] 0 m

-- an operator chain: the legs of a site are s' Out, s In
abbrev pub IsOperator : (ℕ → List SectorValue) → (ℕ → LegValue) → (ℕ → TensorValue) → ℕ → Type 0
IsOperator sites right t m = AreChained (λ j. site_leg sites j ∷ flipped (site_leg sites j) ∷ []) right t [] 0 m

abbrev pub state_placed : (ℕ → ℤ) → (ℕ → ℤ) → (ℕ → TensorValue) → ℕ → List Placed
state_placed site link t m = placed_chain (λ j. site j ∷ []) link t [] 0 m

abbrev pub operator_placed : (ℕ → ℤ) → (ℕ → ℤ) → (ℕ → ℤ) → (ℕ → TensorValue) → ℕ → List Placed
operator_placed upper lower link t m = placed_chain (λ j. upper j ∷ lower j ∷ []) link t [] 0 m

-- the value of a state's network
abbrev pub amplitude_of : List Factor → (ℕ → TensorValue) → ℕ → List ℕ → Gaussian
amplitude_of fs t m s = value_of fs (state_placed own_upper own_link t m) [] (suc m) s

-- the value of an operator's network at the values u of s' and s of s
abbrev pub element_of : List Factor → (ℕ → TensorValue) → ℕ → List ℕ → List ℕ → Gaussian
element_of fs t m u s = value_of fs (operator_placed own_upper (own_lower m) own_link t m) [] (2 * m + 2) (u ++ reverse s)

-- lists of one length

abbrev pub SameLength : {A B : Type 0} → List A → List B → Type 0
SameLength [] [] = Unit {0}
SameLength [] (y ∷ ys) = ⊥
SameLength (x ∷ xs) [] = ⊥
SameLength (x ∷ xs) (y ∷ ys) = SameLength xs ys

pub same-append : {A B : Type 0} (xs zs : List A) (ys ws : List B) → SameLength xs ys → SameLength zs ws → SameLength (xs ++ zs) (ys ++ ws)
same-append [] zs [] ws h k = k
same-append [] zs (y ∷ ys) ws h k = absurd h
same-append (x ∷ xs) zs [] ws h k = absurd h
same-append (x ∷ xs) zs (y ∷ ys) ws h k = same-append xs zs ys ws h k

same-reverse : {A B : Type 0} (xs : List A) (ys : List B) → SameLength xs ys → SameLength (reverse xs) (reverse ys)
same-reverse [] [] h = tt
same-reverse [] (y ∷ ys) h = absurd h
same-reverse (x ∷ xs) [] h = absurd h
same-reverse (x ∷ xs) (y ∷ ys) h =
    subst (λ us. SameLength us (reverse (y ∷ ys))) (sym (reverse_cons x xs))
    (subst (SameLength (reverse xs ++ x ∷ [])) (sym (reverse_cons y ys)) (same-append (reverse xs) (x ∷ []) (reverse ys) (y ∷ []) (same-reverse xs ys h) tt))

same-map : {A B C : Type 0} (f : A → C) (xs : List A) (ys : List B) → SameLength xs ys → SameLength (map f xs) ys
same-map f [] [] h = tt
same-map f [] (y ∷ ys) h = absurd h
same-map f (x ∷ xs) [] h = absurd h
same-map f (x ∷ xs) (y ∷ ys) h = same-map f xs ys h

-- slots

abbrev pub slot_at : LegValue → ℤ → Slot
slot_at g l = record { end = record { label = l; inward = is_inward g.arrow }; sectors = g.sectors }

abbrev pub flip_slot : Slot → Slot
flip_slot s = record { end = flip s.end; sectors = s.sectors }

pub flip_inward : (d : Dir) → is_inward (other_way d) ≡ not (is_inward d)
flip_inward Out = refl
flip_inward In = refl

pub slot_flip : (g : LegValue) (l : ℤ) → slot_at (flipped g) l ≡ flip_slot (slot_at g l)
slot_flip g l = ap (λ b. record { end = record { label = l; inward = b }; sectors = g.sectors }) (flip_inward g.arrow)

pub slots-append : (gs hs : List LegValue) (ls ks : List ℤ) → SameLength gs ls → slots_of (gs ++ hs) (ls ++ ks) ≡ slots_of gs ls ++ slots_of hs ks
slots-append [] hs [] ks h = refl
slots-append [] hs (l ∷ ls) ks h = absurd h
slots-append (g ∷ gs) hs [] ks h = absurd h
slots-append (g ∷ gs) hs (l ∷ ls) ks h = ap (λ ss. slot_at g l ∷ ss) (slots-append gs hs ls ks h)

slots_back : (gs : List LegValue) (ls : List ℤ) → SameLength gs ls → slots_of (reverse (map flipped gs)) (reverse ls) ≡ reverse (map flip_slot (slots_of gs ls))
slots_back [] [] h = refl
slots_back [] (l ∷ ls) h = absurd h
slots_back (g ∷ gs) [] h = absurd h
slots_back (g ∷ gs) (l ∷ ls) h =
    ap₂ slots_of (reverse_cons (flipped g) (map flipped gs)) (reverse_cons l ls)
    ∙ slots-append (reverse (map flipped gs)) (flipped g ∷ []) (reverse ls) (l ∷ []) (same-reverse (map flipped gs) ls (same-map flipped gs ls h))
    ∙ ap₂ (λ ss t. ss ++ t ∷ []) (slots_back gs ls h) (slot_flip g l)
    ∙ sym (reverse_cons (flip_slot (slot_at g l)) (map flip_slot (slots_of gs ls)))

ends_flip : (ss : List Slot) → ends (reverse (map flip_slot ss)) ≡ conj_ends (ends ss)
ends_flip ss = sym (reverse-map (λ (s : Slot). s.end) (map flip_slot ss)) ∙ ap reverse (turn ss)
  where
    turn : (ss : List Slot) → map (λ (s : Slot). s.end) (map flip_slot ss) ≡ map flip (ends ss)
    turn [] = refl
    turn (s ∷ ss) = ap (λ es. flip s.end ∷ es) (turn ss)

-- the conjugates in their network

abbrev pub AllLabelled : List Placed → Type 0
AllLabelled [] = Unit {0}
AllLabelled (p ∷ ps) = SameLength p.tensor.legs p.labels × AllLabelled ps

-- q is the conjugate of p, its labels in reversed order
pub record IsConjugatePlaced (p q : Placed) : Type 0 where
  pub legs : q.tensor.legs ≡ reverse (map flipped p.tensor.legs)
  pub labels : q.labels ≡ reverse p.labels
  pub entries : (xs : List ℕ) → entry_of q.tensor (reverse xs) ≡ conj_g (entry_of p.tensor xs)

abbrev pub AllConjugate : List Placed → List Placed → Type 0
AllConjugate [] [] = Unit {0}
AllConjugate [] (q ∷ qs) = ⊥
AllConjugate (p ∷ ps) [] = ⊥
AllConjugate (p ∷ ps) (q ∷ qs) = IsConjugatePlaced p q × AllConjugate ps qs

conj_slots_of : (p q : Placed) → SameLength p.tensor.legs p.labels → IsConjugatePlaced p q →
    slots_of q.tensor.legs q.labels ≡ reverse (map flip_slot (slots_of p.tensor.legs p.labels))
conj_slots_of p q h c = ap₂ slots_of c.legs c.labels ∙ slots_back p.tensor.legs p.labels h

conj_same : (p q : Placed) → SameLength p.tensor.legs p.labels → IsConjugatePlaced p q → AreSame (node_of q) (conj_node (node_of p))
conj_same p q h c = record {
  ends = ap ends (conj_slots_of p q h c) ∙ ends_flip (slots_of p.tensor.legs p.labels);
  entry = fun_ext (λ xs. ap (entry_of q.tensor) (sym (reverse-reverse xs)) ∙ c.entries (reverse xs));
}

pub conj_all_same : (ps qs : List Placed) → AllLabelled ps → AllConjugate ps qs → AllSame (map node_of (reverse qs)) (conj_nodes (map node_of ps))
conj_all_same [] [] h c = tt
conj_all_same [] (q ∷ qs) h c = absurd c
conj_all_same (p ∷ ps) [] h c = absurd c
conj_all_same (p ∷ ps) (q ∷ qs) h c =
    subst₂ AllSame
    (sym (ap (map node_of) (reverse_cons q qs) ∙ map-append node_of (reverse qs) (q ∷ [])))
    (sym (conj_nodes_cons (node_of p) (map node_of ps)))
    (same-both (map node_of (reverse qs)) (conj_nodes (map node_of ps)) (node_of q ∷ []) (conj_node (node_of p) ∷ []) (conj_all_same ps qs h.1 c.1) (conj_same p q h.0 c.0, tt))

pub slots-both : (ps qs : List Placed) → slots (ps ++ qs) ≡ slots ps ++ slots qs
slots-both [] qs = refl
slots-both (p ∷ ps) qs = ap (λ ss. slots_of p.tensor.legs p.labels ++ ss) (slots-both ps qs) ∙ sym (append_assoc (slots_of p.tensor.legs p.labels) (slots ps) (slots qs))

pub conj_slots : (ps qs : List Placed) → AllLabelled ps → AllConjugate ps qs → slots (reverse qs) ≡ reverse (map flip_slot (slots ps))
conj_slots [] [] h c = refl
conj_slots [] (q ∷ qs) h c = absurd c
conj_slots (p ∷ ps) [] h c = absurd c
conj_slots (p ∷ ps) (q ∷ qs) h c =
    ap slots (reverse_cons q qs)
    ∙ slots-both (reverse qs) (q ∷ [])
    ∙ ap₂ (λ u v. u ++ v) (conj_slots ps qs h.1 c.1) (append-nil (slots_of q.tensor.legs q.labels) ∙ conj_slots_of p q h.0 c.0)
    ∙ sym (reverse-append (map flip_slot (slots_of p.tensor.legs p.labels)) (map flip_slot (slots ps)))
    ∙ ap reverse (sym (map-append flip_slot (slots_of p.tensor.legs p.labels) (slots ps)))

-- the slots of a chain

abbrev pub chain_slots : (ℕ → List Slot) → (ℕ → Slot) → List Slot → ℕ → ℕ → List Slot
chain_slots own right left j zero = left ++ own j
chain_slots own right left j (suc m) = (left ++ (own j ++ right j ∷ [])) ++ chain_slots own right (flip_slot (right j) ∷ []) (suc j) m

pub flip_chain : (own : ℕ → List Slot) (right : ℕ → Slot) (m j : ℕ) (left : List Slot) →
    map flip_slot (chain_slots own right left j m) ≡ chain_slots (λ k. map flip_slot (own k)) (λ k. flip_slot (right k)) (map flip_slot left) j m
flip_chain own right zero j left = map-append flip_slot left (own j)
flip_chain own right (suc m) j left =
    map-append flip_slot (left ++ (own j ++ right j ∷ [])) (chain_slots own right (flip_slot (right j) ∷ []) (suc j) m)
    ∙ ap₂ (λ u v. u ++ v)
    (map-append flip_slot left (own j ++ right j ∷ []) ∙ ap (λ u. map flip_slot left ++ u) (map-append flip_slot (own j) (right j ∷ [])))
    (flip_chain own right m (suc j) (flip_slot (right j) ∷ []))

pub all_chain : (line : ℤ → List SectorValue) (own : ℕ → List Slot) (right : ℕ → Slot) → ((k : ℕ) → HaveSectorsOn line (own k)) → ((k : ℕ) → line (right k).end.label ≡ (right k).sectors) →
    (m j : ℕ) (left : List Slot) → HaveSectorsOn line left → HaveSectorsOn line (chain_slots own right left j m)
all_chain line own right h k zero j left a = on_both line left (own j) a (h j)
all_chain line own right h k (suc m) j left a =
    on_both line (left ++ (own j ++ right j ∷ [])) (chain_slots own right (flip_slot (right j) ∷ []) (suc j) m)
    (on_both line left (own j ++ right j ∷ []) a (on_both line (own j) (right j ∷ []) (h j) (k j, tt)))
    (all_chain line own right h k m (suc j) (flip_slot (right j) ∷ []) (k j, tt))

-- the same for sites below n
pub all_chain_below : (line : ℤ → List SectorValue) (own : ℕ → List Slot) (right : ℕ → Slot) (n : ℕ) → ((k : ℕ) → k < n → HaveSectorsOn line (own k)) → ((k : ℕ) → line (right k).end.label ≡ (right k).sectors) →
    (m j : ℕ) (left : List Slot) → j + m < n → HaveSectorsOn line left → HaveSectorsOn line (chain_slots own right left j m)
all_chain_below line own right n h k zero j left b a = on_both line left (own j) a (h j (small j n b))
  where
    small : (j n : ℕ) → j + 0 < n → j < n
    small j n b = omega (arith, b)
all_chain_below line own right n h k (suc m) j left b a =
    on_both line (left ++ (own j ++ right j ∷ [])) (chain_slots own right (flip_slot (right j) ∷ []) (suc j) m)
    (on_both line left (own j ++ right j ∷ []) a (on_both line (own j) (right j ∷ []) (h j (small j m n b)) (k j, tt)))
    (all_chain_below line own right n h k m (suc j) (flip_slot (right j) ∷ []) (move j m n b) (k j, tt))
  where
    small : (j m n : ℕ) → j + suc m < n → j < n
    small j m n b = omega (arith, b)

    move : (j m n : ℕ) → j + suc m < n → suc j + m < n
    move j m n b = omega (arith, b)

-- the bonds of a chain: its links, and those of the sites

abbrev pub link_bonds : (ℕ → Slot) → ℕ → ℕ → List Bond
link_bonds right j zero = []
link_bonds right j (suc m) = record { label = (right j).end.label; dim = total (right j).sectors; twisted = false } ∷ link_bonds right (suc j) m

module _ (own : ℕ → List Slot) (right : ℕ → Slot) (positive : (k : ℕ) → is_positive (right k).end.label ≡ true) where
  abbrev own_bonds : ℕ → ℕ → List Bond
  own_bonds j m = flat_map (λ k. bonds_from [] (own k)) (numbers j m)

  abbrev bond : ℕ → Bond
  bond j = record { label = (right j).end.label; dim = total (right j).sectors; twisted = false }

  -- of the two ends of a link one is In
  one_in : (j : ℕ) → bonds_from [] (right j ∷ []) ++ bonds_from [] (flip_slot (right j) ∷ []) ≡ bond j ∷ []
  one_in j = go (right j).end.inward (is_positive (right j).end.label) (positive j)
    where
      go : (b p : Bool) → p ≡ true → cond (b && p) (bond j ∷ []) [] ++ cond (not b && p) (bond j ∷ []) [] ≡ bond j ∷ []
      go true true e = refl
      go true false e = absurd (false≢true e)
      go false true e = refl
      go false false e = absurd (false≢true e)

  pub chain_bonds : (m j : ℕ) (left : List Slot) →
      Perm (bonds_from [] (chain_slots own right left j m)) (bonds_from [] left ++ (link_bonds right j m ++ own_bonds j (suc m)))
  chain_bonds zero j left =
      subst (Perm (bonds_from [] (left ++ own j))) (bonds-append left (own j) ∙ ap (λ bs. bonds_from [] left ++ bs) (sym (append-nil (bonds_from [] (own j)))))
      (perm-refl (bonds_from [] (left ++ own j)))
  chain_bonds (suc m) j left =
      let later : List Slot = chain_slots own right (flip_slot (right j) ∷ []) (suc j) m in
      let ls : List Bond = link_bonds right (suc j) m in
      let os : List Bond = own_bonds (suc j) (suc m) in
      let b : Bond = record { label = (right j).end.label; dim = total (right j).sectors; twisted = false } in
      let r : List Bond = bonds_from [] (right j ∷ []) in
      let f : List Bond = bonds_from [] (flip_slot (right j) ∷ []) in
      subst (λ bs. Perm bs (bonds_from [] left ++ ((b ∷ ls) ++ (bonds_from [] (own j) ++ os))))
      (sym (bonds-append (left ++ (own j ++ right j ∷ [])) later
      ∙ ap (λ bs. bs ++ bonds_from [] later) (bonds-append left (own j ++ right j ∷ []) ∙ ap (λ bs. bonds_from [] left ++ bs) (bonds-append (own j) (right j ∷ [])))
      ∙ append_assoc (bonds_from [] left) (bonds_from [] (own j) ++ r) (bonds_from [] later)
      ∙ ap (λ bs. bonds_from [] left ++ bs) (append_assoc (bonds_from [] (own j)) r (bonds_from [] later))))
      (perm_under (bonds_from [] left)
      (then_by (perm_under (bonds_from [] (own j)) (perm_under r (chain_bonds m (suc j) (flip_slot (right j) ∷ []))))
      (subst (λ bs. Perm (bonds_from [] (own j) ++ bs) ((b ∷ ls) ++ (bonds_from [] (own j) ++ os)))
      (ap (λ bs. bs ++ (ls ++ os)) (sym (one_in j)) ∙ append_assoc r f (ls ++ os))
      (then_by (perm_blocks (bonds_from [] (own j)) (b ∷ []) (ls ++ os)) (keep (perm_blocks (bonds_from [] (own j)) ls os))))))

-- the tensors of a chain

abbrev pub piece_of : (ℕ → LegValue) → (ℕ → TensorValue) → ℕ → Piece
piece_of right t j = record { entry = entry_of (t j); odd = parity (t j).group (t j).flux; right_in = is_inward (right j).arrow; right_dim = total (right j).sectors }

module _ (own_legs : ℕ → List LegValue) (own : ℕ → List ℤ) (link : ℕ → ℤ) (right : ℕ → LegValue) (t : ℕ → TensorValue) (same : (k : ℕ) → SameLength (own_legs k) (own k)) where
  abbrev pub own_slots : ℕ → List Slot
  own_slots k = slots_of (own_legs k) (own k)

  pub last_slots : (j : ℕ) (left : List LegValue) (ls : List ℤ) → SameLength left ls → (t j).legs ≡ left ++ own_legs j → slots_of (t j).legs (ls ++ own j) ≡ slots_of left ls ++ own_slots j
  last_slots j left ls h e = ap (λ gs. slots_of gs (ls ++ own j)) e ∙ slots-append left (own_legs j) ls (own j) h

  pub inner_slots : (j : ℕ) (left : List LegValue) (ls : List ℤ) → SameLength left ls → (t j).legs ≡ left ++ (own_legs j ++ right j ∷ []) →
      slots_of (t j).legs (ls ++ (own j ++ link j ∷ [])) ≡ slots_of left ls ++ (own_slots j ++ slot_at (right j) (link j) ∷ [])
  inner_slots j left ls h e =
      ap (λ gs. slots_of gs (ls ++ (own j ++ link j ∷ []))) e
      ∙ slots-append left (own_legs j ++ right j ∷ []) ls (own j ++ link j ∷ []) h
      ∙ ap (λ ss. slots_of left ls ++ ss) (slots-append (own_legs j) (right j ∷ []) (own j) (link j ∷ []) (same j))

  pub placed_slots : (m j : ℕ) (left : List LegValue) (ls : List ℤ) → SameLength left ls → AreChained own_legs right t left j m →
      slots (placed_chain own link t ls j m) ≡ chain_slots own_slots (λ k. slot_at (right k) (link k)) (slots_of left ls) j m
  placed_slots zero j left ls h c = append-nil (slots_of (t j).legs (ls ++ own j)) ∙ last_slots j left ls h c
  placed_slots (suc m) j left ls h c = ap₂ (λ u v. u ++ v) (inner_slots j left ls h c.0)
      (placed_slots m (suc j) (flipped (right j) ∷ []) (link j ∷ []) tt c.1
      ∙ ap (λ x. chain_slots own_slots (λ k. slot_at (right k) (link k)) (x ∷ []) (suc j) m) (slot_flip (right j) (link j)))

  pub placed_labelled : (m j : ℕ) (left : List LegValue) (ls : List ℤ) → SameLength left ls → AreChained own_legs right t left j m → AllLabelled (placed_chain own link t ls j m)
  placed_labelled zero j left ls h c =
      (subst (λ (gs : List LegValue). SameLength gs (ls ++ own j)) (sym c) (same-append left (own_legs j) ls (own j) h (same j)), tt)
  placed_labelled (suc m) j left ls h c = (
    subst (λ (gs : List LegValue). SameLength gs (ls ++ (own j ++ link j ∷ []))) (sym c.0)
        (same-append left (own_legs j ++ right j ∷ []) ls (own j ++ link j ∷ []) h (same-append (own_legs j) (right j ∷ []) (own j) (link j ∷ []) (same j) tt)),
    placed_labelled m (suc j) (flipped (right j) ∷ []) (link j ∷ []) tt c.1,
  )

  pub ends-append : (ss ts : List Slot) → ends (ss ++ ts) ≡ ends ss ++ ends ts
  ends-append ss ts = map-append (λ (s : Slot). s.end) ss ts

  pub placed_nodes : (m j : ℕ) (left : List LegValue) (ls : List ℤ) → SameLength left ls → AreChained own_legs right t left j m →
      map node_of (placed_chain own link t ls j m) ≡ chain (λ k. ends (own_slots k)) link (piece_of right t) (ends (slots_of left ls)) j m
  placed_nodes zero j left ls h c =
      ap (λ es. record { ends = es; entry = entry_of (t j); odd = parity (t j).group (t j).flux } ∷ [])
      (ap ends (last_slots j left ls h c) ∙ ends-append (slots_of left ls) (own_slots j))
  placed_nodes (suc m) j left ls h c =
      ap₂ (λ es ns. record { ends = es; entry = entry_of (t j); odd = parity (t j).group (t j).flux } ∷ ns)
      (ap ends (inner_slots j left ls h c.0) ∙ ends-append (slots_of left ls) (own_slots j ++ slot_at (right j) (link j) ∷ [])
      ∙ ap (λ es. ends (slots_of left ls) ++ es) (ends-append (own_slots j) (slot_at (right j) (link j) ∷ [])))
      (placed_nodes m (suc j) (flipped (right j) ∷ []) (link j ∷ []) tt c.1
      ∙ ap (λ b. chain (λ k. ends (own_slots k)) link (piece_of right t) (record { label = link j; inward = b } ∷ []) (suc j) m) (flip_inward (right j).arrow))

pub links_same : (link : ℕ → ℤ) (right : ℕ → LegValue) (t : ℕ → TensorValue) (m j : ℕ) → link_bonds (λ k. slot_at (right k) (link k)) j m ≡ chain_links link (piece_of right t) j m
links_same link right t zero j = refl
links_same link right t (suc m) j = ap (λ bs. record { label = link j; dim = total (right j).sectors; twisted = false } ∷ bs) (links_same link right t m (suc j))

pub flipped_links : (link : ℕ → ℤ) (right : ℕ → LegValue) (t : ℕ → TensorValue) (m j : ℕ) → link_bonds (λ k. flip_slot (slot_at (right k) (link k))) j m ≡ chain_links link (piece_of right t) j m
flipped_links link right t zero j = refl
flipped_links link right t (suc m) j = ap (λ bs. record { label = link j; dim = total (right j).sectors; twisted = false } ∷ bs) (flipped_links link right t m (suc j))
