-- The value of a network of placed tensors, by the sectors of its lines.
use Rattle.std.proofs.Common.{◌≡◌, ℕ, ◌<◌, ℤ, negsuc, Bool, true, false, not, ◌&&◌, ◌||◌, ◌⊎◌, inl, inr, cond, List, [], ◌∷◌, ◌++◌, map, refl, sym, ◌∙◌, ap, subst, append_assoc, int_eq}
use Rattle.std.proofs.lemmas.Bool.{false≢true}
use Rattle.qn_sign.specs.Sign.{is_in, Perm}
use Rattle.qn_sign.specs.Sign.Perm.{none, keep, swap, then_by}
use Rattle.qn_charge.specs.declared.factor.Factor.{Factor}
use Rattle.qn_index.specs.Legs.{SectorValue, total, parity_at}
use Rattle.qn_value.specs.Networks.{End, Node, Bond, same_bool, same_end, word, pairs_of, labels, flat, at_values, IsNetwork}
use Rattle.qn_value.specs.Labels.{Placed, Slot, slots, ends, node_of, sectors_on, parity_of, is_positive, bonds_from, bonds_of, opens_of, IsWellLabelled, value_of}
use Rattle.qn_sign.proofs.Parity.{perm-sym, perm_under, perm_blocks}
use Rattle.qn_sign.proofs.Order.{is_in-append, is_in-perm}
use Rattle.qn_value.proofs.Sums.{label_test}
use Rattle.qn_value.proofs.NetLaws.{ends-labels}
use Rattle.qn_value.proofs.Steps.{order_law, parity_law}
use Rattle.qn_value.proofs.LabelLemmas.{plain_network, word_ends, perm_order}
use Rattle.qn_value.proofs.PlacedLemmas.{HaveSectorsOn}

-- each slot has the sectors of its line

pub on_both : (line : ℤ → List SectorValue) (ss ts : List Slot) → HaveSectorsOn line ss → HaveSectorsOn line ts → HaveSectorsOn line (ss ++ ts)
on_both line [] ts h k = k
on_both line (s ∷ ss) ts h k = (h.0, on_both line ss ts h.1 k)

pub on-perm : (line : ℤ → List SectorValue) {ss ts : List Slot} → Perm ss ts → HaveSectorsOn line ss → HaveSectorsOn line ts
on-perm line none h = h
on-perm line (keep p) h = (h.0, on-perm line p h.1)
on-perm line swap h = (h.1.0, (h.0, h.1.1))
on-perm line (then_by p q) h = on-perm line q (on-perm line p h)

-- the parity of a value on a line that is there
pub parity_line : (fs : List Factor) (line : ℤ → List SectorValue) (ss : List Slot) → HaveSectorsOn line ss → (e : End) → is_in same_end e (ends ss) ≡ true → (v : ℕ) →
    parity_of fs ss e.label v ≡ parity_at fs (line e.label) v
parity_line fs line [] h e k v = absurd (false≢true k)
parity_line fs line (s ∷ ss) h e k v =
    go (int_eq e.label s.end.label) refl k (parity_line fs line ss h.1 e)
  where
    go : (b : Bool) → int_eq e.label s.end.label ≡ b → ((b && same_bool e.inward s.end.inward) || is_in same_end e (ends ss)) ≡ true →
        (is_in same_end e (ends ss) ≡ true → (v : ℕ) → parity_of fs ss e.label v ≡ parity_at fs (line e.label) v) →
        parity_of fs (s ∷ ss) e.label v ≡ parity_at fs (line e.label) v
    go true f l ih =
        ap (λ b. parity_at fs (cond b s.sectors (sectors_on ss e.label)) v) f
        ∙ ap (λ xs. parity_at fs xs v) (sym h.0 ∙ ap line (sym (label_test.equal e.label s.end.label f)))
    go false f l ih = ap (λ b. parity_at fs (cond b s.sectors (sectors_on ss e.label)) v) f ∙ ih l v

-- the word of the tensors

-- the bonds in any order of the slots

one_bond : Slot → List Bond
one_bond s = cond (s.end.inward && is_positive s.end.label) (record { label = s.end.label; dim = total s.sectors; twisted = false } ∷ []) []

bonds_cons : (s : Slot) (ss : List Slot) → bonds_from [] (s ∷ ss) ≡ one_bond s ++ bonds_from [] ss
unfolding one_bond
bonds_cons s ss = go (s.end.inward && is_positive s.end.label)
  where
    go : (b : Bool) → cond b (record { label = s.end.label; dim = total s.sectors; twisted = false } ∷ bonds_from [] ss) (bonds_from [] ss) ≡
        cond b (record { label = s.end.label; dim = total s.sectors; twisted = false } ∷ []) [] ++ bonds_from [] ss
    go true = refl
    go false = refl

pub bonds-append : (ss ts : List Slot) → bonds_from [] (ss ++ ts) ≡ bonds_from [] ss ++ bonds_from [] ts
bonds-append [] ts = refl
bonds-append (s ∷ ss) ts =
    bonds_cons s (ss ++ ts) ∙ ap (λ bs. one_bond s ++ bs) (bonds-append ss ts)
    ∙ sym (append_assoc (one_bond s) (bonds_from [] ss) (bonds_from [] ts))
    ∙ ap (λ bs. bs ++ bonds_from [] ts) (sym (bonds_cons s ss))

pub bonds-perm : {ss ts : List Slot} → Perm ss ts → Perm (bonds_from [] ss) (bonds_from [] ts)
bonds-perm none = none
bonds-perm (keep {x = s} {xs = ss} {ys = ts} p) =
    subst (λ bs. Perm bs (bonds_from [] (s ∷ ts))) (sym (bonds_cons s ss))
    (subst (Perm (one_bond s ++ bonds_from [] ss)) (sym (bonds_cons s ts)) (perm_under (one_bond s) (bonds-perm p)))
bonds-perm (swap {x = s} {y = t} {xs = ss}) =
    subst (λ bs. Perm bs (bonds_from [] (t ∷ s ∷ ss))) (sym (bonds_cons s (t ∷ ss) ∙ ap (λ bs. one_bond s ++ bs) (bonds_cons t ss)))
    (subst (Perm (one_bond s ++ (one_bond t ++ bonds_from [] ss))) (sym (bonds_cons t (s ∷ ss) ∙ ap (λ bs. one_bond t ++ bs) (bonds_cons s ss)))
    (perm_blocks (one_bond s) (one_bond t) (bonds_from [] ss)))
bonds-perm (then_by p q) = then_by (bonds-perm p) (bonds-perm q)

-- labels of bonds and of open legs

abbrev pub ArePositive : List ℤ → Type 0
ArePositive [] = Unit {0}
ArePositive (l ∷ ls) = (is_positive l ≡ true) × ArePositive ls

positive_in : (l : ℤ) (ls : List ℤ) → ArePositive ls → is_in int_eq l ls ≡ true → is_positive l ≡ true
positive_in l [] h k = absurd (false≢true k)
positive_in l (m ∷ ls) h k = go (int_eq l m) refl k (positive_in l ls h.1)
  where
    go : (b : Bool) → int_eq l m ≡ b → (b || is_in int_eq l ls) ≡ true → (is_in int_eq l ls ≡ true → is_positive l ≡ true) → is_positive l ≡ true
    go true e j ih = ap is_positive (label_test.equal l m e) ∙ h.0
    go false e j ih = ih j

-- the open ends -1, -2, .. -n, each once
pub record AreOpens (opens : List End) (n : ℕ) : Type 0 where
  pub once : (i : ℕ) → i < n → is_in same_end (record { label = negsuc i; inward = true }) opens ≡ not (is_in same_end (record { label = negsuc i; inward = false }) opens)
  pub not_positive : (e : End) → is_in same_end e opens ≡ true → (i : ℕ) × (i < n) × (e.label ≡ negsuc i)

module _ (ns : List Node) (bs : List Bond) (opens : List End) (n : ℕ) (net : IsNetwork ns bs opens) (positive : ArePositive (labels bs)) (are : AreOpens opens n) where
  in_word : (e : End) → is_in same_end e (word ns) ≡ (is_in int_eq e.label (labels bs) || is_in same_end e opens)
  in_word e = is_in-perm same_end e net.complete ∙ is_in-append same_end e (pairs_of bs) opens ∙ ap (λ b. b || is_in same_end e opens) (ends-labels e bs)

  no_open : (l : ℤ) (b : Bool) → is_positive l ≡ true → is_in same_end (record { label = l; inward = b }) opens ≡ false
  no_open l b p = go (is_in same_end (record { label = l; inward = b }) opens) refl
    where
      go : (c : Bool) → is_in same_end (record { label = l; inward = b }) opens ≡ c → c ≡ false
      go false e = refl
      go true e = let t = are.not_positive (record { label = l; inward = b }) e in sym p ∙ ap is_positive t.2

  no_bond : (i : ℕ) → is_in int_eq (negsuc i) (labels bs) ≡ false
  no_bond i = go (is_in int_eq (negsuc i) (labels bs)) refl
    where
      go : (c : Bool) → is_in int_eq (negsuc i) (labels bs) ≡ c → c ≡ false
      go false e = refl
      go true e = sym (positive_in (negsuc i) (labels bs) positive e)

  pub negative_in : (i : ℕ) (b : Bool) → is_in same_end (record { label = negsuc i; inward = b }) (word ns) ≡ is_in same_end (record { label = negsuc i; inward = b }) opens
  negative_in i b = in_word (record { label = negsuc i; inward = b }) ∙ ap (λ c. c || is_in same_end (record { label = negsuc i; inward = b }) opens) (no_bond i)

  pub well_labelled : IsWellLabelled (word ns) n
  well_labelled = record {
    distinct = net.distinct;
    paired = λ l p. in_word (record { label = l; inward = true }) ∙ ap (λ c. is_in int_eq l (labels bs) || c) (no_open l true p ∙ sym (no_open l false p))
        ∙ sym (in_word (record { label = l; inward = false }));
    open_once = λ i h. negative_in i true ∙ are.once i h ∙ ap not (sym (negative_in i false));
    no_more = λ e h. more e (is_in int_eq e.label (labels bs)) refl (sym (in_word e) ∙ h);
  }
    where
      more : (e : End) (b : Bool) → is_in int_eq e.label (labels bs) ≡ b → (b || is_in same_end e opens) ≡ true →
          (is_positive e.label ≡ true) ⊎ ((i : ℕ) × (i < n) × (e.label ≡ negsuc i))
      more e true f h = inl (positive_in e.label (labels bs) positive f)
      more e false f h = inr (are.not_positive e h)

-- the value of a network of placed tensors, where its nodes, bonds and open ends are these

module _ (fs : List Factor) (ps : List Placed) (n : ℕ) (bs : List Bond) (opens : List End) (net : IsNetwork (map node_of ps) bs opens) (positive : ArePositive (labels bs))
    (are : AreOpens opens n) (opens_are : opens_of (word (map node_of ps)) n ≡ opens) (bonds_are : Perm (bonds_from [] (slots ps)) bs)
    (line : ℤ → List SectorValue) (all : HaveSectorsOn line (slots ps)) where
  pub labelled : IsWellLabelled (ends (slots ps)) n
  labelled = subst (λ es. IsWellLabelled es n) (word_ends ps) (well_labelled (map node_of ps) bs opens n net positive are)

  opens_same : opens_of (ends (slots ps)) n ≡ opens
  opens_same = ap (λ es. opens_of es n) (sym (word_ends ps)) ∙ opens_are

  to_bonds : Perm (bonds_of [] (slots ps)) bs
  to_bonds = then_by (perm-sym (perm_order (bonds_from [] (slots ps)))) bonds_are

  pub plain_value : (par : ℤ → ℕ → Bool) → ((e : End) → is_in same_end e (word (map node_of ps)) ≡ true → (v : ℕ) → par e.label v ≡ parity_at fs (line e.label) v) →
      (xs : List ℕ) → value_of fs ps [] n xs ≡ flat par (map node_of ps) bs opens (at_values opens xs)
  plain_value par h xs =
      ap (λ os. flat (parity_of fs (slots ps)) (map node_of ps) (bonds_of [] (slots ps)) os (at_values os xs)) opens_same
      ∙ order_law (parity_of fs (slots ps)) (map node_of ps) (bonds_of [] (slots ps)) bs opens
      (subst (IsNetwork (map node_of ps) (bonds_of [] (slots ps))) opens_same (plain_network ps [] n labelled)) to_bonds (at_values opens xs)
      ∙ parity_law (parity_of fs (slots ps)) par (map node_of ps) bs opens net
      (λ e k v. parity_line fs line (slots ps) all e (subst (λ es. is_in same_end e es ≡ true) (word_ends ps) k) v ∙ sym (h e k v)) (at_values opens xs)
