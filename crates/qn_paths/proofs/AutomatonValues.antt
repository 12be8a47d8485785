-- The tensors of the automaton, placed in their network: their value is the operator sum.
use Rattle.std.proofs.Common.{◌≡◌, ℕ, zero, suc, ◌+◌, ◌<◌, ◌≤◌, ◌==◌, ℤ, Bool, true, false, not, cond, List, [], ◌∷◌, ◌++◌, map, length, reverse, refl, sym, ◌∙◌, ap, ap₂, subst, append-nil, arith, int_eq}
use Rattle.std.proofs.lemmas.Bool.{or_parts}
use Rattle.std.proofs.lemmas.Bool.Decides.{nat_tests}
use Rattle.qn_sign.specs.Sign.{xor, is_in, is_odd, exchanges, IsDistinct, Perm}
use Rattle.qn_gauss.specs.Gaussian.{Gaussian, mul_g, signed}
use Rattle.qn_charge.specs.declared.factor.Factor.{Factor}
use Rattle.qn_index.specs.Legs.{SectorValue, LegValue, flipped, total, parity_at}
use Rattle.qn_index.specs.Places.{IsValues}
use Rattle.qn_value.specs.Networks.{End, Node, Bond, Assignment, assign, in_end, out_end, sums, same_end, odd_end, twist_sign, word, goal, sign, values, product, labels, flat, contract, IsNetwork}
use Rattle.qn_value.specs.Tensors.{TensorValue, entry_of}
use Rattle.qn_value.specs.Labels.{Placed, Slot, slots_of, slots, ends, node_of, is_inward}
use Rattle.qn_value.proofs.Sums.{label_test}
use Rattle.qn_value.proofs.BlockSums.{sum_below-congr}
use Rattle.qn_opsum.specs.Strings.{Sites, HasParities}
use Rattle.qn_auto.specs.Automaton.{Term, Stage, stages, normal, site_entry, AllBelow, sum_of}
use Rattle.qn_braket.specs.Conjugates.{conj_ends}
use Rattle.qn_braket.specs.Brakets.{outs, ins_back}
use Rattle.qn_braket.specs.ChainLabels.{own_link, own_upper, own_lower, expect_upper, expect_lower, expect_op}
use Rattle.qn_braket.specs.Pieces.{Piece, chain, chain_links, site_lines, operator_chain, operator_names}
use Rattle.qn_braket.proofs.Part.{contract_entry}
use Rattle.qn_braket.proofs.ChainNets.{name_upper, name_lower}
use Rattle.qn_braket.proofs.PlacedChains.{SameLength, same-append, slot_at, flip_slot, flip_inward, chain_slots, piece_of, last_slots, inner_slots, ends-append, site_leg, placed_chain, AreChained, IsOperator, operator_placed, element_of}
use Rattle.qn_braket.proofs.OperatorValues.{own_net, operator_nodes, operator_slots, element_is}
use Rattle.qn_braket.proofs.StateValues.{own_distinct}
use Rattle.qn_braket.proofs.ExpectValues.{expect_line, upper_line, lower_line, op_line}
use Rattle.qn_paths.specs.Paths.{automaton, SuitSites, state_from, state_of}
use Rattle.qn_paths.proofs.AutomatonChain.{automaton_element, open_values, upper_at, lower_at, values_are}

-- these are values of the sites from j on
abbrev pub AreSiteValues : (ℕ → ℕ) → ℕ → List ℕ → Type 0
AreSiteValues dim j [] = Unit {0}
AreSiteValues dim j (x ∷ xs) = (x < dim j) × AreSiteValues dim (suc j) xs

-- an operator chain whose tensors are those of the automaton of these terms: the entries at values of the legs are its entries
pub record IsAutomaton (fs : List Factor) (earlier : Stage → Stage → Bool) (S : Sites) (ws : List Term) (sites : ℕ → List SectorValue) (right : ℕ → LegValue) (t : ℕ → TensorValue) (m : ℕ) : Type 0 where
  pub chain : IsOperator sites right t m
  pub values : (j v : ℕ) → j < suc m → parity_at fs (sites j) v ≡ S.odd_value j v
  pub links : (j : ℕ) → j < m → (is_inward (right j).arrow ≡ true) × (total (right j).sectors ≡ length (stages earlier ws j))
  pub entries : (j : ℕ) → j < suc m → (xs : List ℕ) → IsValues (t j).legs xs → entry_of (t j) xs ≡ site_entry earlier S ws j xs

-- sums whose summands agree at values of the bonds

abbrev pub AllWithin : List Bond → Assignment → Type 0
AllWithin [] c = Unit {0}
AllWithin (b ∷ bs) c = (c (in_end b) < b.dim) × (c (out_end b) < b.dim) × AllWithin bs c

-- the property does not change with the bonds' values
abbrev pub IsKeptBy : (Assignment → Type 0) → List Bond → Type 0
IsKeptBy q [] = Unit {0}
IsKeptBy q (b ∷ bs) = ((c : Assignment) (v : ℕ) → q c → q (assign c b.label v)) × IsKeptBy q bs

kept_with : (q : Assignment → Type 0) (b : Bond) (bs : List Bond) → is_in int_eq b.label (labels bs) ≡ false → IsKeptBy q bs → IsKeptBy (λ c. q c × (c (in_end b) < b.dim) × (c (out_end b) < b.dim)) bs
kept_with q b [] h k = tt
kept_with q b (d ∷ bs) h k =
    let p = or_parts (int_eq b.label d.label) (is_in int_eq b.label (labels bs)) h in (
      (λ c v w. (
        k.0 c v w.0,
        subst (λ (f : Bool). cond f v (c (in_end b)) < b.dim) (sym p.0) w.1,
        subst (λ (f : Bool). cond f v (c (out_end b)) < b.dim) (sym p.0) w.2,
      )),
      kept_with q b bs p.1 k.1,
    )

pub sums-within : (bs : List Bond) → IsDistinct int_eq (labels bs) → (f g : Assignment → Gaussian) (q : Assignment → Type 0) → IsKeptBy q bs →
    ((c : Assignment) → q c → AllWithin bs c → f c ≡ g c) → (a : Assignment) → q a → sums bs f a ≡ sums bs g a
sums-within [] d f g q k h a w = h a w tt
sums-within (b ∷ bs) d f g q k h a w =
    sum_below-congr b.dim (λ v. sums bs f (assign a b.label v)) (λ v. sums bs g (assign a b.label v)) (λ v l.
    sums-within bs d.1 f g (λ c. q c × (c (in_end b) < b.dim) × (c (out_end b) < b.dim)) (kept_with q b bs d.0 k.1) (λ c x y. h c x.0 (x.1, x.2, y)) (assign a b.label v)
    (k.0 a v w, subst (λ (f : Bool). cond f v (a (in_end b)) < b.dim) (sym (label_test.itself b.label)) l, subst (λ (f : Bool). cond f v (a (out_end b)) < b.dim) (sym (label_test.itself b.label)) l))

-- tensors that agree at values of their legs

abbrev pub NodesAlike : List Placed → List Node → Type 0
NodesAlike [] [] = Unit {0}
NodesAlike [] (n ∷ ns) = ⊥
NodesAlike (p ∷ ps) [] = ⊥
NodesAlike (p ∷ ps) (n ∷ ns) =
    ((node_of p).ends ≡ n.ends) × SameLength p.tensor.legs p.labels × ((xs : List ℕ) → IsValues p.tensor.legs xs → entry_of p.tensor xs ≡ n.entry xs) × NodesAlike ps ns

abbrev pub SlotsWithin : Assignment → List Slot → Type 0
SlotsWithin c [] = Unit {0}
SlotsWithin c (s ∷ ss) = (c s.end < total s.sectors) × SlotsWithin c ss

within_first : (c : Assignment) (ss ts : List Slot) → SlotsWithin c (ss ++ ts) → SlotsWithin c ss
within_first c [] ts h = tt
within_first c (s ∷ ss) ts h = (h.0, within_first c ss ts h.1)

within_second : (c : Assignment) (ss ts : List Slot) → SlotsWithin c (ss ++ ts) → SlotsWithin c ts
within_second c [] ts h = h
within_second c (s ∷ ss) ts h = within_second c ss ts h.1

within-append : (c : Assignment) (ss ts : List Slot) → SlotsWithin c ss → SlotsWithin c ts → SlotsWithin c (ss ++ ts)
within-append c [] ts h k = k
within-append c (s ∷ ss) ts h k = (h.0, within-append c ss ts h.1 k)

legs_values : (c : Assignment) (gs : List LegValue) (ls : List ℤ) → SameLength gs ls → SlotsWithin c (slots_of gs ls) → IsValues gs (values (ends (slots_of gs ls)) c)
legs_values c [] [] h k = refl
legs_values c [] (l ∷ ls) h k = absurd h
legs_values c (g ∷ gs) [] h k = absurd h
legs_values c (g ∷ gs) (l ∷ ls) h k = (k.0, legs_values c gs ls h k.1)

alike_product : (c : Assignment) (ps : List Placed) (ns : List Node) → NodesAlike ps ns → SlotsWithin c (slots ps) → product (map node_of ps) c ≡ product ns c
alike_product c [] [] h k = refl
alike_product c [] (n ∷ ns) h k = absurd h
alike_product c (p ∷ ps) [] h k = absurd h
alike_product c (p ∷ ps) (n ∷ ns) h k =
    let first : SlotsWithin c (slots_of p.tensor.legs p.labels) = within_first c (slots_of p.tensor.legs p.labels) (slots ps) k in
    ap₂ mul_g
    (h.2 (values (node_of p).ends c) (legs_values c p.tensor.legs p.labels h.1 first) ∙ ap (λ es. n.entry (values es c)) h.0)
    (alike_product c ps ns h.3 (within_second c (slots_of p.tensor.legs p.labels) (slots ps) k))

alike_word : (ps : List Placed) (ns : List Node) → NodesAlike ps ns → word (map node_of ps) ≡ word ns
alike_word [] [] h = refl
alike_word [] (n ∷ ns) h = absurd h
alike_word (p ∷ ps) [] h = absurd h
alike_word (p ∷ ps) (n ∷ ns) h = ap₂ (λ u v. u ++ v) h.0 (alike_word ps ns h.3)

-- the links do not depend on the last tensor's right leg
links_agree : (c c' : ℕ → Piece) (n : ℕ) → ((k : ℕ) → k < n → (c k).right_dim ≡ (c' k).right_dim) → (link : ℕ → ℤ) (m j : ℕ) → j + m ≡ n → chain_links link c j m ≡ chain_links link c' j m
links_agree c c' n widths link zero j e = refl
links_agree c c' n widths link (suc m) j e =
    ap₂ (λ d bs. record { label = link j; dim = d; twisted = false } ∷ bs) (widths j (here j m n e)) (links_agree c c' n widths link m (suc j) (move j m n e))
  where
    here : (j m n : ℕ) → j + suc m ≡ n → j < n
    here j m n e = omega (arith, e)

    move : (j m n : ℕ) → j + suc m ≡ n → suc j + m ≡ n
    move j m n e = omega (arith, e)

-- the open ends do not depend on the dimensions
outs_agree : (site : ℕ → ℤ) (dim dim' : ℕ → ℕ) (m j : ℕ) → outs (site_lines site dim j m) ≡ outs (site_lines site dim' j m)
outs_agree site dim dim' zero j = refl
outs_agree site dim dim' (suc m) j = ap (λ es. record { label = site j; inward = false } ∷ es) (outs_agree site dim dim' m (suc j))

-- a value of a list of site values
state_within : (dim : ℕ → ℕ) (xs : List ℕ) (i n : ℕ) → i + length xs ≡ n → AreSiteValues dim i xs → (j : ℕ) → i ≤ j → j < n → state_from i xs j < dim j
state_within dim [] i n e h j b d = absurd (none i j n e b d)
  where
    none : (i j n : ℕ) → i + 0 ≡ n → i ≤ j → j < n → ⊥
    none i j n e b d = omega (arith, e, b, d)
state_within dim (x ∷ xs) i n e h j b d = go (j == i) refl (state_within dim xs (suc i) n (move i (length xs) n e) h.1 j)
  where
    move : (i k n : ℕ) → i + suc k ≡ n → suc i + k ≡ n
    move i k n e = omega (arith, e)

    same : (i j : ℕ) → (j == i) ≡ true → i ≡ j
    same i j f = grind (arith, nat_tests)

    next : (i j : ℕ) → i ≤ j → (j == i) ≡ false → suc i ≤ j
    next i j b f = grind (arith, nat_tests)

    go : (c : Bool) → (j == i) ≡ c → (suc i ≤ j → j < n → state_from (suc i) xs j < dim j) → cond c x (state_from (suc i) xs j) < dim j
    go true f ih = subst (λ k. x < dim k) (same i j f) h.0
    go false f ih = ih (next i j b f) d

module _ (fs : List Factor) (earlier : Stage → Stage → Bool) (S : Sites) (ws : List Term) (sites : ℕ → List SectorValue) (right : ℕ → LegValue) (t : ℕ → TensorValue) (m : ℕ)
    (parities : HasParities S) (count : S.count ≡ suc m) (below : AllBelow S.count ws) (is : IsAutomaton fs earlier S (map (normal S) ws) sites right t m) where
  abbrev line : ℤ → List SectorValue
  line = expect_line sites right right right

  abbrev par : ℤ → ℕ → Bool
  par l v = parity_at fs (line (operator_names m expect_upper expect_lower expect_op l)) v

  abbrev given : ℕ → Piece
  given = piece_of right t

  abbrev made : ℕ → Piece
  made = automaton earlier S (map (normal S) ws) m

  abbrev dim : ℕ → ℕ
  dim j = total (sites j)

  abbrev legs : ℕ → List LegValue
  legs j = site_leg sites j ∷ flipped (site_leg sites j) ∷ []

  abbrev own : ℕ → List ℤ
  own j = own_upper j ∷ own_lower m j ∷ []

  abbrev own_ends : ℕ → List End
  own_ends j = record { label = own_upper j; inward = false } ∷ record { label = own_lower m j; inward = true } ∷ []

  from_zero : (n : ℕ) → 0 + n ≡ n
  from_zero n = omega arith

  -- the code's tensors and the automaton's
  alike : (k j : ℕ) (left : List LegValue) (ls : List ℤ) (es : List End) → SameLength left ls → ends (slots_of left ls) ≡ es → AreChained legs right t left j k → j + k ≡ m →
      NodesAlike (placed_chain own own_link t ls j k) (chain own_ends own_link made es j k)
  alike zero j left ls es h e c q = (
    ap ends (last_slots legs own own_link right t (λ i. tt) j left ls h c) ∙ ends-append legs own own_link right t (λ i. tt) (slots_of left ls) (slots_of (legs j) (own j)) ∙ ap (λ us. us ++ own_ends j) e,
    subst (λ (gs : List LegValue). SameLength gs (ls ++ own j)) (sym c) (same-append left (legs j) ls (own j) h tt),
    is.entries j (here j m q),
    tt,
  )
    where
      here : (j m : ℕ) → j + 0 ≡ m → j < suc m
      here j m q = omega (arith, q)
  alike (suc k) j left ls es h e c q = (
    ap ends (inner_slots legs own own_link right t (λ i. tt) j left ls h c.0)
        ∙ ends-append legs own own_link right t (λ i. tt) (slots_of left ls) (slots_of (legs j) (own j) ++ slot_at (right j) (own_link j) ∷ [])
        ∙ ap₂ (λ us b. us ++ (own_ends j ++ record { label = own_link j; inward = b } ∷ [])) e (is.links j (before j k m q)).0,
    subst (λ (gs : List LegValue). SameLength gs (ls ++ (own j ++ own_link j ∷ []))) (sym c.0)
        (same-append left (legs j ++ right j ∷ []) ls (own j ++ own_link j ∷ []) h (same-append (legs j) (right j ∷ []) (own j) (own_link j ∷ []) tt tt)),
    is.entries j (here j k m q),
    alike k (suc j) (flipped (right j) ∷ []) (own_link j ∷ []) (record { label = own_link j; inward = false } ∷ []) tt
        (ap (λ b. record { label = own_link j; inward = b } ∷ []) (flip_inward (right j).arrow ∙ ap not (is.links j (before j k m q)).0)) c.1 (move j k m q),
  )
    where
      here : (j k m : ℕ) → j + suc k ≡ m → j < suc m
      here j k m q = omega (arith, q)

      before : (j k m : ℕ) → j + suc k ≡ m → j < m
      before j k m q = omega (arith, q)

      move : (j k m : ℕ) → j + suc k ≡ m → suc j + k ≡ m
      move j k m q = omega (arith, q)

  abbrev placed : List Placed
  placed = operator_placed own_upper (own_lower m) own_link t m

  abbrev nodes : List Node
  nodes = operator_chain own_upper (own_lower m) own_link made m

  alike_all : NodesAlike placed nodes
  alike_all = alike m 0 [] [] [] tt refl is.chain (from_zero m)

  abbrev bonds : List Bond
  bonds = chain_links own_link given 0 m

  abbrev opens : List End
  opens = outs (site_lines own_upper dim 0 (suc m)) ++ ins_back (site_lines (own_lower m) dim 0 (suc m))

  given_net : IsNetwork (map node_of placed) bonds opens
  given_net = own_net fs sites right t m is.chain

  made_net : IsNetwork nodes bonds opens
  made_net = record {
    distinct = subst (IsDistinct same_end) (alike_word placed nodes alike_all) given_net.distinct;
    complete = subst (λ w. Perm w (goal bonds opens)) (alike_word placed nodes alike_all) given_net.complete;
  }

  -- the open lines have values of the sites
  abbrev InSites : Assignment → Type 0
  InSites c = ((j : ℕ) → j < suc m → c (record { label = own_upper j; inward = false }) < dim j) × ((j : ℕ) → j < suc m → c (record { label = own_lower m j; inward = true }) < dim j)

  kept : (k j : ℕ) → IsKeptBy InSites (chain_links own_link given j k)
  kept zero j = tt
  kept (suc k) j = ((λ c v h. h), kept k (suc j))

  slots_within : (c : Assignment) → InSites c → (k j : ℕ) (left : List Slot) → j + k ≡ m → SlotsWithin c left → AllWithin (chain_links own_link given j k) c →
      SlotsWithin c (chain_slots (λ i. slot_at (site_leg sites i) (own_upper i) ∷ slot_at (flipped (site_leg sites i)) (own_lower m i) ∷ []) (λ i. slot_at (right i) (own_link i)) left j k)
  slots_within c h zero j left q w b = within-append c left _ w (h.0 j (here j m q), (h.1 j (here j m q), tt))
    where
      here : (j m : ℕ) → j + 0 ≡ m → j < suc m
      here j m q = omega (arith, q)
  slots_within c h (suc k) j left q w b =
      within-append c (left ++ (slot_at (site_leg sites j) (own_upper j) ∷ slot_at (flipped (site_leg sites j)) (own_lower m j) ∷ slot_at (right j) (own_link j) ∷ [])) _
      (within-append c left _ w (h.0 j (here j k m q), (h.1 j (here j k m q), (on_leg (is_inward (right j).arrow) (b.0) (b.1), tt))))
      (slots_within c h k (suc j) (flip_slot (slot_at (right j) (own_link j)) ∷ []) (move j k m q) (on_leg (not (is_inward (right j).arrow)) (b.0) (b.1), tt) b.2)
    where
      on_leg : {d : ℕ} (w : Bool) → c (record { label = own_link j; inward = true }) < d → c (record { label = own_link j; inward = false }) < d →
          c (record { label = own_link j; inward = w }) < d
      on_leg true p r = p
      on_leg false p r = r

      here : (j k m : ℕ) → j + suc k ≡ m → j < suc m
      here j k m q = omega (arith, q)

      move : (j k m : ℕ) → j + suc k ≡ m → suc j + k ≡ m
      move j k m q = omega (arith, q)

  link_labels : IsDistinct int_eq (labels bonds)
  link_labels = subst (IsDistinct int_eq) (append-nil (labels bonds)) (own_distinct given [] tt (λ x. refl) m 0)

  -- at values of the sites the two networks have one value
  same_value : (a : Assignment) → InSites a → flat par (map node_of placed) bonds opens a ≡ flat par nodes bonds opens a
  same_value a h =
      sums-within bonds link_labels (λ c. signed (sign par (map node_of placed) bonds opens c) (product (map node_of placed) c))
      (λ c. signed (sign par nodes bonds opens c) (product nodes c)) InSites (kept m 0)
      (λ c k w. ap₂ signed
      (ap (λ v. xor (twist_sign par bonds c) (is_odd (exchanges same_end (odd_end par c) v (goal bonds opens)))) (alike_word placed nodes alike_all))
      (alike_product c placed nodes alike_all
      (subst (SlotsWithin c) (sym (operator_slots fs sites right t m is.chain own_upper (own_lower m) own_link)) (slots_within c k m 0 [] (from_zero m) tt w))))
      a h

  suits : SuitSites par S m
  suits = record {
    upper = λ j v b. ap (λ l. parity_at fs (line l) v) (name_upper m expect_upper expect_lower expect_op j (inside j b))
        ∙ ap (λ xs. parity_at fs xs v) (upper_line sites right right right j) ∙ is.values j v (inside j b);
    lower = λ j v b. ap (λ l. parity_at fs (line l) v) (name_lower m expect_upper expect_lower expect_op j (inside j b))
        ∙ ap (λ xs. parity_at fs xs v) (lower_line sites right right right j) ∙ is.values j v (inside j b);
  }
    where
      inside : (j : ℕ) → j < S.count → j < suc m
      inside j b = subst (λ n. j < n) count b

  links_are : bonds ≡ chain_links own_link made 0 m
  links_are = links_agree given made m (λ k b. (is.links k b).1) own_link m 0 (from_zero m)

  opens_are : opens ≡ outs (site_lines own_upper S.dim 0 (suc m)) ++ ins_back (site_lines (own_lower m) S.dim 0 (suc m))
  opens_are = ap₂ (λ us ls. us ++ conj_ends ls) (outs_agree own_upper dim S.dim (suc m) 0) (outs_agree (own_lower m) dim S.dim (suc m) 0)

  pub automaton_values : (u s : List ℕ) → length u ≡ suc m → length s ≡ suc m → AreSiteValues dim 0 u → AreSiteValues dim 0 s →
      element_of fs t m u s ≡ sum_of S ws (state_of u) (state_of s)
  automaton_values u s lu ls wu ws' =
      element_is fs sites right t m is.chain expect_upper expect_lower expect_op line (upper_line sites right right right) (lower_line sites right right right) (op_line sites right right right) u s
      ∙ ap (λ ns. (contract par ns bonds opens).entry (u ++ reverse s)) (sym (operator_nodes fs sites right t m is.chain own_upper (own_lower m) own_link))
      ∙ ap (contract par (map node_of placed) bonds opens).entry (sym (values_are m u s dim lu ls))
      ∙ contract_entry par (map node_of placed) bonds opens given_net (open_values m u s)
      ∙ same_value (open_values m u s) (
        (λ j b. subst (λ v. v < dim j) (sym (upper_at m u s j b)) (state_within dim u 0 (suc m) (ap (λ k. 0 + k) lu ∙ from_zero (suc m)) wu j (least j) b)),
        (λ j b. subst (λ v. v < dim j) (sym (lower_at m u s j b)) (state_within dim s 0 (suc m) (ap (λ k. 0 + k) ls ∙ from_zero (suc m)) ws' j (least j) b)),
      )
      ∙ sym (contract_entry par nodes bonds opens made_net (open_values m u s))
      ∙ ap (contract par nodes bonds opens).entry (values_are m u s dim lu ls)
      ∙ (λ i. (contract par nodes (links_are i) (opens_are i)).entry (u ++ reverse s))
      ∙ automaton_element earlier par S ws m parities count below suits u s lu ls
    where
      least : (i : ℕ) → 0 ≤ i
      least i = omega arith
