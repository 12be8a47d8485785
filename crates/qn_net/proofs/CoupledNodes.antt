-- Tensors of a network that are contracted by themselves, with labels of their own: the contraction is that of the network.
use Rattle.std.proofs.lemmas.Simd.{map-map}
use Rattle.std.proofs.Common.{◌≡◌, ◌<◌, ℕ, zero, suc, ◌+◌, ℤ, pos, Bool, true, false, not, ◌&&◌, ◌||◌, cond, List, [], ◌∷◌, ◌++◌, refl, sym, ◌∙◌, ap, ap₂, subst, map, filter, length, get_or, int_eq, int_lt, append-nil, subst₂, arith}
use Rattle.std.specs.List.{All, range_with_len}
use Rattle.std.proofs.lemmas.Bool.{or_left, or_right, false≢true}
use Rattle.std.proofs.lemmas.List.{map-append, get_or-map, length-map}
use Rattle.qn_sign.specs.Sign.{is_in, IsDistinct, Perm}
use Rattle.qn_sign.specs.Sign.Perm.{then_by}
use Rattle.qn_sign.specs.Positions.{positions}
use Rattle.qn_charge.specs.declared.factor.Factor.{Factor}
use Rattle.qn_index.specs.Legs.{SectorValue, LegValue, total, parity_at}
use Rattle.qn_value.specs.Networks.{End, Node, Bond, in_end, out_end, same_end, word, pairs_of, goal, labels, kept, contract, relabel, relabel_node, relabel_bond, KeepsApart, IsNetwork, AllAlike}
use Rattle.qn_value.specs.Tensors.{TensorValue}
use Rattle.qn_value.specs.Labels.{Placed, Slot, is_inward, is_positive, slots_of, slots, ends, node_of, sectors_on, parity_of, bond_at, bonds_from, place_bond, in_label_order, bonds_of, opens_of, AreRenamed}
use Rattle.qn_value.specs.Fluxes.{arrow_of}
use Rattle.qn_value.specs.Blocks.{legs_on, HaveSectors}
use Rattle.qn_value.specs.Names.{name_in}
use Rattle.qn_value.specs.Local.{no_leg, is_coupled, label_at, coupled, open_legs, IsCoupling}
use Rattle.qn_sign.proofs.Parity.{perm-sym, perm_blocks}
use Rattle.qn_sign.proofs.Order.{is_in-append, is_in-perm, distinct-perm, distinct_first}
use Rattle.qn_sign.proofs.Members.{perm_cancel, perm_from_members}
use Rattle.qn_value.proofs.Sums.{label_test, perm-map}
use Rattle.qn_value.proofs.NetLaws.{end_test, ends-labels, labels_distinct}
use Rattle.qn_value.proofs.BlockRows.{all-nil, all-cons}
use Rattle.qn_value.proofs.BlocksLemmas.{length-legs}
use Rattle.qn_value.proofs.Relabel.{word-map, pairs_of-map}
use Rattle.qn_value.proofs.AlikeLemmas.{word_all}
use Rattle.qn_value.proofs.Renamed.{renamed_nodes}
use Rattle.qn_value.proofs.PlacedLemmas.{HaveSectorsOn, sectors_fit}
use Rattle.qn_value.proofs.TensorBlocks.{bonds_sectors}
use Rattle.qn_value.proofs.CoupledLemmas.{word_of, leg_at, end_at, slots_with, coupled_law}
use Rattle.qn_value.proofs.OpenLegs.{open_places, opens_coupled, open_legs_at, coupled_network}
use Rattle.qn_value.proofs.OperationLaw.{operation_law}
use Rattle.qn_net.specs.Operations.{AreTwistedLines, AreLines, parities_on}
use Rattle.qn_net.proofs.Held.{AreNodesOf, all_alike, all_legs, all_labels, sectors_on_lines}
use Rattle.qn_net.proofs.Renaming.{map-positions, names_at, name_at, renamed_with}

-- sectors of lines by two functions, both of which the legs have
same_sectors : (f h : ℤ → List SectorValue) (ss : List Slot) → HaveSectorsOn f ss → HaveSectorsOn h ss → (e : End) → is_in same_end e (ends ss) ≡ true → f e.label ≡ h e.label
same_sectors f h [] p q e i = absurd (false≢true i)
same_sectors f h (s ∷ ss) p q e i = go (same_end e s.end) refl i (same_sectors f h ss p.1 q.1 e)
  where
    go : (b : Bool) → same_end e s.end ≡ b → (b || is_in same_end e (ends ss)) ≡ true → (is_in same_end e (ends ss) ≡ true → f e.label ≡ h e.label) → f e.label ≡ h e.label
    go true k j ih = subst (λ (x : End). f x.label ≡ h x.label) (sym (end_test.equal e s.end k)) (p.0 ∙ sym q.0)
    go false k j ih = ih j

renamed_sectors : (f : ℤ → List SectorValue) (names : ℤ → ℤ) (gs : List LegValue) (ls : List ℤ) → HaveSectorsOn f (slots_of gs (map names ls)) → HaveSectorsOn (λ l. f (names l)) (slots_of gs ls)
renamed_sectors f names [] ls h = tt
renamed_sectors f names (g ∷ gs) [] h = tt
renamed_sectors f names (g ∷ gs) (l ∷ ls) h = (h.0, renamed_sectors f names gs ls h.1)

-- lines that are twisted where their labels are among these
abbrev pub AreMarked : List ℤ → List Bond → Type 0
AreMarked tw [] = Unit {0}
AreMarked tw (b ∷ bs) = (b.twisted ≡ is_in int_eq b.label tw) × AreMarked tw bs

placed_marked : (tw : List ℤ) (b : Bond) (bs : List Bond) → b.twisted ≡ is_in int_eq b.label tw → AreMarked tw bs → AreMarked tw (place_bond b bs)
placed_marked tw b [] e h = (e, tt)
placed_marked tw b (c ∷ cs) e h = go (int_lt b.label c.label) (placed_marked tw b cs e h.1)
  where
    go : (t : Bool) → AreMarked tw (place_bond b cs) → AreMarked tw (cond t (b ∷ c ∷ cs) (c ∷ place_bond b cs))
    go true k = (e, h)
    go false k = (h.0, k)

ordered_marked : (tw : List ℤ) (bs : List Bond) → AreMarked tw bs → AreMarked tw (in_label_order bs)
ordered_marked tw [] h = tt
ordered_marked tw (b ∷ bs) h = placed_marked tw b (in_label_order bs) h.0 (ordered_marked tw bs h.1)

from_marked : (tw : List ℤ) (ss : List Slot) → AreMarked tw (bonds_from tw ss)
from_marked tw [] = tt
from_marked tw (s ∷ ss) = go (s.end.inward && is_positive s.end.label) (from_marked tw ss)
  where
    go : (b : Bool) → AreMarked tw (bonds_from tw ss) → AreMarked tw (cond b (bond_at tw s ∷ bonds_from tw ss) (bonds_from tw ss))
    go true k = (refl, k)
    go false k = k

pub bonds_marked : (tw : List ℤ) (ss : List Slot) → AreMarked tw (bonds_of tw ss)
bonds_marked tw ss = ordered_marked tw (bonds_from tw ss) (from_marked tw ss)

pub lines_from : (tw : List ℤ) (f : ℤ → List SectorValue) (bs : List Bond) → HaveSectors f bs → AreMarked tw bs → AreTwistedLines tw f bs
lines_from tw f [] h u = tt
lines_from tw f (b ∷ bs) h u = (h.0, u.0, lines_from tw f bs h.1 u.1)

renamed_lines : (f h : ℤ → List SectorValue) (names : ℤ → ℤ) (bs : List Bond) → AreLines f bs → ((e : End) → is_in same_end e (pairs_of bs) ≡ true → f e.label ≡ h (names e.label)) →
    AreLines h (map (relabel_bond names) bs)
renamed_lines f h names [] k e = tt
renamed_lines f h names (b ∷ bs) k e = (
  k.0 ∙ ap total (e (in_end b) (or_left (same_end (in_end b) (in_end b)) (is_in same_end (in_end b) (out_end b ∷ pairs_of bs)) (end_test.itself (in_end b)))),
  k.1,
  renamed_lines f h names bs k.2 (λ x i. e x (or_right (same_end x (in_end b)) (is_in same_end x (out_end b ∷ pairs_of bs)) (or_right (same_end x (out_end b)) (is_in same_end x (pairs_of bs)) i))),
)

-- a plain line, by its label
abbrev line_of : (ℤ → List SectorValue) → ℤ → Bond
line_of f l = record { label = l; dim = total (f l); twisted = false }

lines_by_label : (f : ℤ → List SectorValue) (bs : List Bond) → AreLines f bs → bs ≡ map (line_of f) (labels bs)
lines_by_label f [] h = refl
lines_by_label f (b ∷ bs) h = ap₂ ◌∷◌ (λ i. record { label = b.label; dim = h.0 i; twisted = h.1 i }) (lines_by_label f bs h.2)

-- two lists of plain lines with the same ends
same_lines : (f : ℤ → List SectorValue) (bs cs : List Bond) → AreLines f bs → AreLines f cs → IsDistinct same_end (pairs_of bs) → IsDistinct same_end (pairs_of cs) →
    Perm (pairs_of bs) (pairs_of cs) → Perm bs cs
same_lines f bs cs h k d e p =
    subst (λ x. Perm x cs) (sym (lines_by_label f bs h))
    (subst (λ y. Perm (map (line_of f) (labels bs)) y) (sym (lines_by_label f cs k))
    (perm-map (line_of f) (perm_from_members int_eq label_test (labels bs) (labels cs) (labels_distinct bs d) (labels_distinct cs e)
    (λ l. sym (ends-labels (record { label = l; inward = true }) bs) ∙ is_in-perm same_end (record { label = l; inward = true }) p ∙ ends-labels (record { label = l; inward = true }) cs))))

perm-swap : (us vs : List End) → Perm (us ++ vs) (vs ++ us)
perm-swap us vs = subst₂ Perm (ap (λ w. us ++ w) (append-nil vs)) (ap (λ w. vs ++ w) (append-nil us)) (perm_blocks us vs [])

-- the first parts of two lists with one last part
perm_first : (us vs ws : List End) → IsDistinct same_end (us ++ ws) → Perm (us ++ ws) (vs ++ ws) → Perm us vs
perm_first us vs ws d p =
    perm_cancel same_end end_test ws us vs (distinct-perm same_end end_test (perm-swap us ws) d) (then_by (perm-swap ws us) (then_by p (perm-swap vs ws)))

-- two functions that agree in a range, along some of its numbers
map_filter : {A : Type 0} (p : ℕ → Bool) (f h : ℕ → A) (a n : ℕ) → ((k : ℕ) → k < a + n → f k ≡ h k) → map f (filter p (range_with_len a n)) ≡ map h (filter p (range_with_len a n))
map_filter p f h a zero e = refl
map_filter p f h a (suc n) e = go (p a) (map_filter p f h (a + 1) n (λ k l. e k (omega (arith, l))))
  where
    go : (b : Bool) → map f (filter p (range_with_len (a + 1) n)) ≡ map h (filter p (range_with_len (a + 1) n)) →
        map f (cond b (a ∷ filter p (range_with_len (a + 1) n)) (filter p (range_with_len (a + 1) n))) ≡ map h (cond b (a ∷ filter p (range_with_len (a + 1) n)) (filter p (range_with_len (a + 1) n)))
    go true ih = ap₂ ◌∷◌ (e a (omega arith)) ih
    go false ih = ih

-- the elements of a mapped range that pass
filter_range : {A : Type 0} (q : A → Bool) (p : ℕ → Bool) (h : ℕ → A) (a n : ℕ) → ((k : ℕ) → k < a + n → q (h k) ≡ p k) → filter q (map h (range_with_len a n)) ≡ map h (filter p (range_with_len a n))
filter_range q p h a zero e = refl
filter_range q p h a (suc n) e = go (q (h a)) (p a) (e a (omega arith)) (filter_range q p h (a + 1) n (λ k l. e k (omega (arith, l))))
  where
    go : (b c : Bool) → b ≡ c → filter q (map h (range_with_len (a + 1) n)) ≡ map h (filter p (range_with_len (a + 1) n)) →
        cond b (h a ∷ filter q (map h (range_with_len (a + 1) n))) (filter q (map h (range_with_len (a + 1) n))) ≡ map h (cond c (a ∷ filter p (range_with_len (a + 1) n)) (filter p (range_with_len (a + 1) n)))
    go true true s ih = ap (λ xs. h a ∷ xs) ih
    go false false s ih = ih
    go true false s ih = absurd (false≢true (sym s))
    go false true s ih = absurd (false≢true s)

abbrev pub no_end : End
no_end = record { label = pos 0; inward = true }

pub longs : (fs : List Factor) (sectors : ℤ → List SectorValue) (ps : List Placed) (ns : List Node) → AreNodesOf fs sectors ps ns → All (λ (p : Placed). length p.labels ≡ length p.tensor.legs) ps
longs fs sectors [] [] h = all-nil (λ (p : Placed). length p.labels ≡ length p.tensor.legs)
longs fs sectors [] (n ∷ ns) h = absurd h
longs fs sectors (p ∷ ps) [] h = absurd h
longs fs sectors (p ∷ ps) (n ∷ ns) h =
    all-cons (λ (p : Placed). length p.labels ≡ length p.tensor.legs) p ps
    (ap (λ (ls : List ℤ). length ls) h.0.labels ∙ length-map n.ends (λ e. e.label) ∙ sym (length-legs sectors n.ends) ∙ ap (λ (gs : List LegValue). length gs) (sym h.0.legs))
    (longs fs sectors ps ns h.1)

-- the label of a place of the word
abbrev pub label_in : List Node → ℕ → ℤ
label_in ns i = (get_or (word ns) i no_end).label

-- the couples join the ends of the bonds
pub record IsCoupledBy (ns : List Node) (bonds : List Bond) (cs : List (ℕ × ℕ)) : Type 0 where
  pub same : All (λ c. label_in ns c.0 ≡ label_in ns c.1) cs
  pub coupled : (i : ℕ) → i < length (word ns) → is_coupled cs i ≡ is_in int_eq (label_in ns i) (labels bonds)

module _ (fs : List Factor) (sectors : ℤ → List SectorValue) (ps : List Placed) (ns : List Node) (held : AreNodesOf fs sectors ps ns) (cs : List (ℕ × ℕ)) (bonds : List Bond)
    (net : IsNetwork ns bonds (kept ns bonds)) (lines : AreLines sectors bonds) (good : IsCoupling (word_of (map (λ p. p.tensor) ps)) cs) (by : IsCoupledBy ns bonds cs) where
  abbrev pub ts : List TensorValue
  ts = map (λ p. p.tensor) ps

  abbrev count : ℕ
  count = length (word_of ts)

  abbrev locals : List ℤ
  locals = map (label_at cs) (positions count)

  abbrev pub names : ℤ → ℤ
  names = name_in (map (label_at cs) (positions count)) (map (label_in ns) (positions count))

  abbrev pub local : List Node
  local = map node_of (coupled ts cs)

  abbrev pub local_bonds : List Bond
  local_bonds = bonds_of [] (slots (coupled ts cs))

  abbrev pub local_opens : List End
  local_opens = opens_of (ends (slots (coupled ts cs))) (length (open_legs ts cs))

  pub count_is : count ≡ length (word ns)
  count_is = ap (λ (gs : List LegValue). length gs) (all_legs fs sectors ps ns held) ∙ length-legs sectors (word ns)

  word_is : word ns ≡ map (λ i. get_or (word ns) i no_end) (positions count)
  word_is = map-positions (word ns) no_end ∙ ap (λ m. map (λ i. get_or (word ns) i no_end) (positions m)) (sym count_is)

  labels_are : map (label_in ns) (positions count) ≡ map (λ (e : End). e.label) (word ns)
  labels_are = sym (map-map (λ (e : End). e.label) (λ i. get_or (word ns) i no_end) (positions count)) ∙ ap (map (λ (e : End). e.label)) (sym word_is)

  names_are : map names locals ≡ map (λ (e : End). e.label) (word ns)
  names_are = names_at cs (label_in ns) by.same count ∙ labels_are

  renamed : AreRenamed names (coupled ts cs) ps
  renamed = renamed_with names ps (longs fs sectors ps ns held) locals (names_are ∙ sym (all_labels fs sectors ps ns held))

  pub alike : AllAlike (map (relabel_node names) local) ns
  alike = subst (λ ms. AllAlike ms ns) (sym (renamed_nodes names (coupled ts cs) ps renamed)) (all_alike fs sectors ps ns held)

  words : map (relabel names) (word local) ≡ word ns
  words = sym (word-map names local) ∙ word_all (map (relabel_node names) local) ns alike

  pub apart : KeepsApart names (word local)
  apart = subst (IsDistinct same_end) (sym words) net.distinct

  pub local_net : IsNetwork local local_bonds local_opens
  local_net = coupled_network ts cs good

  own_sectors : HaveSectorsOn (sectors_on (slots (coupled ts cs))) (slots (coupled ts cs))
  own_sectors = sectors_fit (slots (coupled ts cs)) (coupled_law ts cs good).1

  net_sectors : HaveSectorsOn (λ l. sectors (names l)) (slots (coupled ts cs))
  net_sectors =
      subst (HaveSectorsOn (λ l. sectors (names l))) (sym (slots_with ts locals))
      (renamed_sectors sectors names (word_of ts) locals
      (subst (λ ls. HaveSectorsOn sectors (slots_of (word_of ts) ls)) (sym names_are)
      (subst (λ gs. HaveSectorsOn sectors (slots_of gs (map (λ (e : End). e.label) (word ns)))) (sym (all_legs fs sectors ps ns held)) (sectors_on_lines sectors (word ns)))))

  word_ends : (qs : List Placed) → word (map node_of qs) ≡ ends (slots qs)
  word_ends [] = refl
  word_ends (q ∷ qs) = ap (λ es. ends (slots_of q.tensor.legs q.labels) ++ es) (word_ends qs) ∙ sym (map-append (λ (s : Slot). s.end) (slots_of q.tensor.legs q.labels) (slots qs))

  sectors_same : (e : End) → is_in same_end e (word local) ≡ true → sectors_on (slots (coupled ts cs)) e.label ≡ sectors (names e.label)
  sectors_same e i =
      same_sectors (sectors_on (slots (coupled ts cs))) (λ l. sectors (names l)) (slots (coupled ts cs)) own_sectors net_sectors e
      (subst (λ es. is_in same_end e es ≡ true) (word_ends (coupled ts cs)) i)

  pub parities_same : (e : End) → is_in same_end e (word local) ≡ true → (v : ℕ) → parities_on fs sectors (names e.label) v ≡ parity_of fs (slots (coupled ts cs)) e.label v
  parities_same e i v = ap (λ ss. parity_at fs ss v) (sym (sectors_same e i))

  -- the legs and the ends at a place

  leg_is : (k : ℕ) → k < count → leg_at (word_of ts) k ≡ record { arrow = arrow_of (get_or (word ns) k no_end).inward; sectors = sectors (label_in ns k) }
  leg_is k l =
      ap (λ gs. get_or gs k no_leg) (all_legs fs sectors ps ns held)
      ∙ get_or-map (λ (e : End). record { arrow = arrow_of e.inward; sectors = sectors e.label }) (word ns) k no_end no_leg (subst (λ m. k < m) count_is l)

  end_is : (k : ℕ) → k < count → relabel names (end_at (word_of ts) cs good k) ≡ get_or (word ns) k no_end
  end_is k l = λ i. record { label = name_at cs (label_in ns) by.same count k l i; inward = turn i }
    where
      there : (b : Bool) → is_inward (arrow_of b) ≡ b
      there true = refl
      there false = refl

      turn : is_inward (leg_at (word_of ts) k).arrow ≡ (get_or (word ns) k no_end).inward
      turn = ap (λ (g : LegValue). is_inward g.arrow) (leg_is k l) ∙ there (get_or (word ns) k no_end).inward

  kept_is : kept ns bonds ≡ map (λ i. get_or (word ns) i no_end) (open_places cs count)
  kept_is =
      ap (filter (λ (e : End). not (is_in int_eq e.label (labels bonds)))) word_is
      ∙ filter_range (λ (e : End). not (is_in int_eq e.label (labels bonds))) (λ j. not (is_coupled cs j)) (λ i. get_or (word ns) i no_end) 0 count
      (λ k l. ap not (sym (by.coupled k (subst (λ m. k < m) count_is (omega (arith, l))))))

  pub opens_are : map (relabel names) local_opens ≡ kept ns bonds
  opens_are =
      ap (map (relabel names)) (opens_coupled ts cs good)
      ∙ map-map (relabel names) (end_at (word_of ts) cs good) (open_places cs count)
      ∙ map_filter (λ j. not (is_coupled cs j)) (λ k. relabel names (end_at (word_of ts) cs good k)) (λ i. get_or (word ns) i no_end) 0 count (λ k l. end_is k (omega (arith, l)))
      ∙ sym kept_is

  -- the open legs are those of the lines that are kept
  pub open_legs_are : open_legs ts cs ≡ legs_on sectors (kept ns bonds)
  open_legs_are =
      open_legs_at ts cs
      ∙ map_filter (λ j. not (is_coupled cs j)) (leg_at (word_of ts)) (λ k. record { arrow = arrow_of (get_or (word ns) k no_end).inward; sectors = sectors (label_in ns k) }) 0 count (λ k l. leg_is k (omega (arith, l)))
      ∙ sym (ap (legs_on sectors) kept_is ∙ map-map (λ (e : End). record { arrow = arrow_of e.inward; sectors = sectors e.label }) (λ i. get_or (word ns) i no_end) (open_places cs count))

  -- the bonds
  renamed_goal : Perm (word ns) (goal (map (relabel_bond names) local_bonds) (kept ns bonds))
  renamed_goal =
      subst₂ Perm words
      (map-append (relabel names) (pairs_of local_bonds) local_opens ∙ ap₂ ◌++◌ (sym (pairs_of-map names local_bonds)) opens_are)
      (perm-map (relabel names) local_net.complete)

  pub bonds_are : Perm (map (relabel_bond names) local_bonds) bonds
  bonds_are =
      let d : IsDistinct same_end (goal (map (relabel_bond names) local_bonds) (kept ns bonds)) = distinct-perm same_end end_test renamed_goal net.distinct in
      let e : IsDistinct same_end (goal bonds (kept ns bonds)) = distinct-perm same_end end_test net.complete net.distinct in
      same_lines sectors (map (relabel_bond names) local_bonds) bonds
      (renamed_lines (sectors_on (slots (coupled ts cs))) sectors names local_bonds
      (lines_from [] (sectors_on (slots (coupled ts cs))) local_bonds (bonds_sectors (sectors_on (slots (coupled ts cs))) [] (slots (coupled ts cs)) own_sectors) (bonds_marked [] (slots (coupled ts cs))))
      (λ x i. sectors_same x (is_in-perm same_end x local_net.complete ∙ is_in-append same_end x (pairs_of local_bonds) local_opens ∙ or_left (is_in same_end x (pairs_of local_bonds)) (is_in same_end x local_opens) i)))
      lines
      (distinct_first same_end (pairs_of (map (relabel_bond names) local_bonds)) (kept ns bonds) d)
      (distinct_first same_end (pairs_of bonds) (kept ns bonds) e)
      (perm_first (pairs_of (map (relabel_bond names) local_bonds)) (pairs_of bonds) (kept ns bonds) d (then_by (perm-sym renamed_goal) net.complete))

  pub same_entry : (xs : List ℕ) → (contract (parity_of fs (slots (coupled ts cs))) local local_bonds local_opens).entry xs ≡ (contract (parities_on fs sectors) ns bonds (kept ns bonds)).entry xs
  same_entry = operation_law names (parities_on fs sectors) (parity_of fs (slots (coupled ts cs))) local ns local_bonds bonds local_opens alike local_net apart parities_same bonds_are opens_are
