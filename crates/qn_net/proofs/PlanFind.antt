-- The step at a label.
use Rattle.std.proofs.Common.{◌≡◌, ℤ, Bool, true, false, not, ◌&&◌, ◌||◌, cond, List, [], ◌∷◌, ◌++◌, refl, sym, ◌∙◌, ap, ap₂, filter, arith, int_eq}
use Rattle.std.proofs.lemmas.Bool.{or_left, or_right, or_parts, and_parts}
use Rattle.qn_sign.specs.Sign.{is_in, xor, Perm}
use Rattle.qn_value.specs.Networks.{End, Bond, same_end, word, pairs_of, labels, AreWithin, IsNetwork}
use Rattle.qn_value.specs.Twists.{HasOneEnd}
use Rattle.qn_net.specs.Groups.{TensorGroup, nodes}
use Rattle.qn_net.specs.Plans.{has_end, has_label, Found, past, find, select, shared, coupled, NoneHave, meet_second, meet_first, taken}
use Rattle.qn_net.specs.Steps.Step.{pair, trace}
use Rattle.qn_net.specs.Plans.Found.{nowhere, found}
use Rattle.qn_sign.proofs.Order.{is_in-append, is_in-perm}
use Rattle.qn_sign.proofs.Members.{is_in-filter, perm_split}
use Rattle.qn_value.proofs.Sums.{label_test}
use Rattle.qn_value.proofs.NetLaws.{ends-labels, word-append}
use Rattle.std.proofs.lemmas.List.{map-append}

abbrev pub end_at : ℤ → Bool → End
end_at l i = record { label = l; inward = i }

pub none_word : (l : ℤ) (gs : List TensorGroup) → NoneHave l gs → (i : Bool) → is_in same_end (end_at l i) (word (nodes gs)) ≡ false
none_word l [] h i = refl
none_word l (g ∷ gs) h i =
    is_in-append same_end (end_at l i) g.node.ends (word (nodes gs))
    ∙ ap₂ ◌||◌ (one i) (none_word l gs h.1 i)
  where
    one : (i : Bool) → has_end l i g ≡ false
    one true = (or_parts (has_end l true g) (has_end l false g) h.0).0
    one false = (or_parts (has_end l true g) (has_end l false g) h.0).1

-- the label stands on no group, or the first one that has it is found
abbrev pub FindsFirst : ℤ → List TensorGroup → Found → Type 0
FindsFirst l gs nowhere = NoneHave l gs
FindsFirst l gs (found before g behind) = (gs ≡ before ++ (g ∷ behind)) × (has_label l g ≡ true) × NoneHave l before

pub finds : (l : ℤ) (gs : List TensorGroup) → FindsFirst l gs (find l gs)
finds l [] = tt
finds l (g ∷ gs) = go (has_label l g) refl (find l gs) (finds l gs)
  where
    further : has_label l g ≡ false → (f : Found) → FindsFirst l gs f → FindsFirst l (g ∷ gs) (past g f)
    further e nowhere h = (e, h)
    further e (found before h behind) k = (ap (λ hs. g ∷ hs) k.0, k.1, (e, k.2))

    go : (b : Bool) → has_label l g ≡ b → (f : Found) → FindsFirst l gs f → FindsFirst l (g ∷ gs) (cond b (found [] g gs) (past g f))
    go true e f h = (refl, e, tt)
    go false e f h = further e f h

-- bonds that are chosen by their labels

pub labels-select : (q : ℤ → Bool) (bs : List Bond) → labels (select q bs) ≡ filter q (labels bs)
labels-select q [] = refl
labels-select q (b ∷ bs) = go (q b.label) (labels-select q bs)
  where
    go : (t : Bool) → labels (select q bs) ≡ filter q (labels bs) → labels (cond t (b ∷ select q bs) (select q bs)) ≡ cond t (b.label ∷ filter q (labels bs)) (filter q (labels bs))
    go true e = ap (λ ls. b.label ∷ ls) e
    go false e = e

pub select_is : (q : ℤ → Bool) (bs : List Bond) (l : ℤ) → is_in int_eq l (labels (select q bs)) ≡ (q l && is_in int_eq l (labels bs))
select_is q bs l = ap (is_in int_eq l) (labels-select q bs) ∙ is_in-filter int_eq label_test q l (labels bs)

pub select_split : (q : ℤ → Bool) (bs : List Bond) → Perm bs (select q bs ++ select (λ l. not (q l)) bs)
select_split q bs = perm_split (λ b. q b.label) bs

-- the lines that two groups share have their ends on them, one on each
module _ (g h : TensorGroup) (apart : (e : End) → is_in same_end e g.node.ends ≡ true → is_in same_end e h.node.ends ≡ false) (left : List Bond) where
  never : (l : ℤ) (i : Bool) → (has_end l i g && has_end l i h) ≡ false
  never l i = go (has_end l i g) refl
    where
      go : (b : Bool) → has_end l i g ≡ b → (b && has_end l i h) ≡ false
      go true e = apart (end_at l i) e
      go false e = refl

  pub shared_within : AreWithin (select (shared g h) left) (g.node ∷ h.node ∷ [])
  shared_within e k =
      let s = and_parts (shared g h e.label) (is_in int_eq e.label (labels left)) (sym (select_is (shared g h) left e.label) ∙ sym (ends-labels e (select (shared g h) left)) ∙ k) in
      let f : (is_in same_end e g.node.ends || is_in same_end e h.node.ends) ≡ true = at e.label e.inward s.0 in
      is_in-append same_end e g.node.ends (h.node.ends ++ [])
      ∙ ap (λ b. is_in same_end e g.node.ends || b) (is_in-append same_end e h.node.ends [])
      ∙ last (is_in same_end e g.node.ends) (is_in same_end e h.node.ends) f
    where
      last : (p q : Bool) → (p || q) ≡ true → (p || (q || false)) ≡ true
      last p q e = grind arith

      in_one : (gt gf ht hf : Bool) → (gt && ht) ≡ false → (gf && hf) ≡ false → ((gt || gf) && (ht || hf)) ≡ true → (gt || ht) ≡ true
      in_one gt gf ht hf a b c = grind arith

      out_one : (gt gf ht hf : Bool) → (gt && ht) ≡ false → (gf && hf) ≡ false → ((gt || gf) && (ht || hf)) ≡ true → (gf || hf) ≡ true
      out_one gt gf ht hf a b c = grind arith

      at : (l : ℤ) (i : Bool) → shared g h l ≡ true → (has_end l i g || has_end l i h) ≡ true
      at l true c = in_one (has_end l true g) (has_end l false g) (has_end l true h) (has_end l false h) (never l true) (never l false) c
      at l false c = out_one (has_end l true g) (has_end l false g) (has_end l true h) (has_end l false h) (never l true) (never l false) c

  one_each : (bs : List Bond) → ((l : ℤ) → is_in int_eq l (labels bs) ≡ true → shared g h l ≡ true) →
      HasOneEnd (λ e. true) g.node bs × HasOneEnd (λ e. true) h.node bs
  one_each [] k = (tt, tt)
  one_each (b ∷ bs) k =
      let here : shared g h b.label ≡ true = k b.label (or_left (int_eq b.label b.label) (is_in int_eq b.label (labels bs)) (label_test.itself b.label)) in
      let rest = one_each bs (λ l m. k l (or_right (int_eq l b.label) (is_in int_eq l (labels bs)) m)) in (
        (step (has_end b.label true g) (has_end b.label false g) (has_end b.label true h) (has_end b.label false h) (never b.label true) (never b.label false) here, rest.0),
        (other (has_end b.label true g) (has_end b.label false g) (has_end b.label true h) (has_end b.label false h) (never b.label true) (never b.label false) here, rest.1),
      )
    where
      step : (gt gf ht hf : Bool) → (gt && ht) ≡ false → (gf && hf) ≡ false → ((gt || gf) && (ht || hf)) ≡ true → xor gt gf ≡ true
      step gt gf ht hf a b c = grind arith

      other : (gt gf ht hf : Bool) → (gt && ht) ≡ false → (gf && hf) ≡ false → ((gt || gf) && (ht || hf)) ≡ true → xor ht hf ≡ true
      other gt gf ht hf a b c = grind arith

  pub shared_once : HasOneEnd (λ e. true) g.node (select (shared g h) left) × HasOneEnd (λ e. true) h.node (select (shared g h) left)
  shared_once =
      one_each (select (shared g h) left)
      (λ l k. (and_parts (shared g h l) (is_in int_eq l (labels left)) (sym (select_is (shared g h) left l) ∙ k)).0)

-- the couples of a group are legs of it
pub coupled_within : (g : TensorGroup) (left : List Bond) → AreWithin (select (coupled g) left) (g.node ∷ [])
coupled_within g left e k =
    let s = and_parts (coupled g e.label) (is_in int_eq e.label (labels left)) (sym (select_is (coupled g) left e.label) ∙ sym (ends-labels e (select (coupled g) left)) ∙ k) in
    is_in-append same_end e g.node.ends [] ∙ ap (λ b. b || false) (at e.label e.inward s.0)
  where
    at : (l : ℤ) (i : Bool) → coupled g l ≡ true → has_end l i g ≡ true
    at l true c = (and_parts (has_end l true g) (has_end l false g) c).0
    at l false c = (and_parts (has_end l true g) (has_end l false g) c).1

-- a label of a bond stands on the groups, with both ends
pub bond_ends : (gs : List TensorGroup) (left : List Bond) (opens : List End) → IsNetwork (nodes gs) left opens → (l : ℤ) → is_in int_eq l (labels left) ≡ true → (i : Bool) →
    is_in same_end (end_at l i) (word (nodes gs)) ≡ true
bond_ends gs left opens net l k i =
    is_in-perm same_end (end_at l i) net.complete ∙ is_in-append same_end (end_at l i) (pairs_of left) opens
    ∙ or_left (is_in same_end (end_at l i) (pairs_of left)) (is_in same_end (end_at l i) opens) (ends-labels (end_at l i) left ∙ k)

-- where no other group has the label, both ends are on this one
pub both_on : (l : ℤ) (before : List TensorGroup) (g : TensorGroup) (behind : List TensorGroup) (left : List Bond) (opens : List End) → IsNetwork (nodes (before ++ (g ∷ behind))) left opens →
    is_in int_eq l (labels left) ≡ true → NoneHave l before → NoneHave l behind → coupled g l ≡ true
both_on l before g behind left opens net k nb na = ap₂ ◌&&◌ (on true) (on false)
  where
    middle : (p q r : Bool) → p ≡ false → r ≡ false → (p || (q || r)) ≡ true → q ≡ true
    middle p q r e f h = grind arith

    on : (i : Bool) → has_end l i g ≡ true
    on i =
        middle (is_in same_end (end_at l i) (word (nodes before))) (has_end l i g) (is_in same_end (end_at l i) (word (nodes behind)))
        (none_word l before nb i) (none_word l behind na i)
        (sym (is_in-append same_end (end_at l i) (word (nodes before)) (g.node.ends ++ word (nodes behind))
        ∙ ap (λ b. is_in same_end (end_at l i) (word (nodes before)) || b) (is_in-append same_end (end_at l i) g.node.ends (word (nodes behind))))
        ∙ ap (is_in same_end (end_at l i)) (sym (ap word (map-append (λ x. x.node) before (g ∷ behind)) ∙ word-append (nodes before) (g.node ∷ nodes behind)))
        ∙ bond_ends (before ++ (g ∷ behind)) left opens net l k i)

-- the other way round: what a program has found
find_nowhere : (l : ℤ) (gs : List TensorGroup) → NoneHave l gs → find l gs ≡ nowhere
find_nowhere l [] h = refl
find_nowhere l (g ∷ gs) h = ap (λ b. cond b (found [] g gs) (past g (find l gs))) h.0 ∙ ap (past g) (find_nowhere l gs h.1)

find_found : (l : ℤ) (before : List TensorGroup) (g : TensorGroup) (behind : List TensorGroup) → NoneHave l before → has_label l g ≡ true → find l (before ++ (g ∷ behind)) ≡ found before g behind
find_found l [] g behind h e = ap (λ b. cond b (found [] g behind) (past g (find l behind))) e
find_found l (f ∷ before) g behind h e =
    ap (λ b. cond b (found [] f (before ++ (g ∷ behind))) (past f (find l (before ++ (g ∷ behind))))) h.0
    ∙ ap (past f) (find_found l before g behind h.1 e)

pub taken_none : (l : ℤ) (left : List Bond) (gs : List TensorGroup) → is_in int_eq l (labels left) ≡ false → taken l (record { groups = gs; left = left }) ≡ []
taken_none l left gs e = ap (λ b. cond b (meet_first l left (find l gs)) []) e

pub taken_trace : (l : ℤ) (left : List Bond) (before : List TensorGroup) (g : TensorGroup) (behind : List TensorGroup) → is_in int_eq l (labels left) ≡ true → NoneHave l before → has_label l g ≡ true → NoneHave l behind →
    taken l (record { groups = before ++ (g ∷ behind); left = left }) ≡ trace before g behind (select (coupled g) left) (select (λ k. not (coupled g k)) left) ∷ []
taken_trace l left before g behind e nb hg na =
    ap (λ b. cond b (meet_first l left (find l (before ++ (g ∷ behind)))) []) e
    ∙ ap (meet_first l left) (find_found l before g behind nb hg)
    ∙ ap (λ f. meet_second left before g behind f ∷ []) (find_nowhere l behind na)

pub taken_pair : (l : ℤ) (left : List Bond) (before : List TensorGroup) (g : TensorGroup) (between : List TensorGroup) (h : TensorGroup) (behind : List TensorGroup) → is_in int_eq l (labels left) ≡ true →
    NoneHave l before → has_label l g ≡ true → NoneHave l between → has_label l h ≡ true →
    taken l (record { groups = before ++ (g ∷ (between ++ (h ∷ behind))); left = left }) ≡
    pair before g between h behind (select (shared g h) left) (select (λ k. not (shared g h k)) left) ∷ []
taken_pair l left before g between h behind e nb hg nn hh =
    ap (λ b. cond b (meet_first l left (find l (before ++ (g ∷ (between ++ (h ∷ behind)))))) []) e
    ∙ ap (meet_first l left) (find_found l before g (between ++ (h ∷ behind)) nb hg)
    ∙ ap (λ f. meet_second left before g (between ++ (h ∷ behind)) f ∷ []) (find_found l between h behind nn hh)
