-- Tensors with labels that are nodes of a network: their legs, labels and entries.
use Rattle.std.proofs.Common.{◌≡◌, ◌<◌, ◌≤◌, ℕ, suc, ℤ, Bool, true, false, not, ◌||◌, cond, List, [], ◌∷◌, ◌++◌, refl, sym, ◌∙◌, ap, ap₂, subst, map, filter, length, nat_lt, ◌⊎◌, inl, inr, int_eq, arith}
use Rattle.std.specs.List.{All, flat_map}
use Rattle.std.proofs.lemmas.Bool.{or_left, or_right, false≢true}
use Rattle.std.proofs.lemmas.Bool.Decides.{nat_tests}
use Rattle.qn_sign.specs.Sign.{is_in, IsDistinct}
use Rattle.qn_gauss.specs.Gaussian.{zero_g}
use Rattle.qn_charge.specs.declared.factor.Factor.{Factor}
use Rattle.qn_charge.specs.Charges.{parity}
use Rattle.qn_index.specs.Legs.{SectorValue, LegValue, total}
use Rattle.qn_index.specs.Places.{IsValues}
use Rattle.qn_value.specs.Networks.{End, Node, Bond, Assignment, same_end, word, values, at_values, labels, kept, AreAlike, AllAlike}
use Rattle.qn_value.specs.Tensors.{Row, TensorValue, same_values, entry_at, entry_of, IsRow, IsTensor}
use Rattle.qn_value.specs.Labels.{Placed, is_inward, slots_of, ends, node_of}
use Rattle.qn_value.specs.Fluxes.{arrow_of}
use Rattle.qn_value.specs.Blocks.{legs_on}
use Rattle.qn_value.specs.Bounds.{IsBounded, AllBounded}
use Rattle.qn_value.proofs.Values.{same_values-equal}
use Rattle.qn_value.proofs.PlacedLemmas.{all_first, all_others, HaveSectorsOn}
use Rattle.qn_value.proofs.NetLaws.{end_test}
use Rattle.qn_net.specs.Operations.{IsNodeOf}

pub arrow_there : (b : Bool) → is_inward (arrow_of b) ≡ b
arrow_there true = refl
arrow_there false = refl

-- legs on the lines of some ends, with the ends' labels, are these ends
pub ends_on : (sectors : ℤ → List SectorValue) (es : List End) → ends (slots_of (legs_on sectors es) (map (λ e. e.label) es)) ≡ es
ends_on sectors [] = refl
ends_on sectors (e ∷ es) = ap₂ ◌∷◌ (λ i. record { label = e.label; inward = arrow_there e.inward i }) (ends_on sectors es)

pub sectors_on_lines : (sectors : ℤ → List SectorValue) (es : List End) → HaveSectorsOn sectors (slots_of (legs_on sectors es) (map (λ e. e.label) es))
sectors_on_lines sectors [] = tt
sectors_on_lines sectors (e ∷ es) = (refl, sectors_on_lines sectors es)

pub legs-append : (sectors : ℤ → List SectorValue) (es fs : List End) → legs_on sectors (es ++ fs) ≡ legs_on sectors es ++ legs_on sectors fs
legs-append sectors [] fs = refl
legs-append sectors (e ∷ es) fs = ap (λ ls. record { arrow = arrow_of e.inward; sectors = sectors e.label } ∷ ls) (legs-append sectors es fs)

pub labels-append : (es fs : List End) → map (λ (e : End). e.label) (es ++ fs) ≡ map (λ e. e.label) es ++ map (λ e. e.label) fs
labels-append [] fs = refl
labels-append (e ∷ es) fs = ap (λ ls. e.label ∷ ls) (labels-append es fs)

-- values out of range

-- either the values are in range, or an end has one that is not
abbrev pub IsBeyond : (ℤ → List SectorValue) → List End → List ℕ → Type 0
IsBeyond sectors es xs = (e : End) × (is_in same_end e es ≡ true) × (total (sectors e.label) ≤ at_values es xs e)

in_range : (sectors : ℤ → List SectorValue) (es : List End) → IsDistinct same_end es → (xs : List ℕ) → length xs ≡ length es →
    IsValues (legs_on sectors es) xs ⊎ IsBeyond sectors es xs
in_range sectors [] d [] n = inl refl
in_range sectors [] d (x ∷ xs) n = absurd (omega (arith, n))
in_range sectors (e ∷ es) d [] n = absurd (omega (arith, n))
in_range sectors (e ∷ es) d (x ∷ xs) n = go (nat_lt x (total (sectors e.label))) refl (in_range sectors es d.1 xs (omega (arith, n)))
  where
    here : at_values (e ∷ es) (x ∷ xs) e ≡ x
    here = ap (λ b. cond b x (at_values es xs e)) (end_test.itself e)

    below : (a b : ℕ) → nat_lt a b ≡ true → a < b
    below a b h = grind (arith, nat_tests)

    above : (a b : ℕ) → nat_lt a b ≡ false → b ≤ a
    above a b h = grind (arith, nat_tests)

    past : (f : End) → is_in same_end f es ≡ true → same_end f e ≡ false
    past f i = at (same_end f e) refl
      where
        at : (b : Bool) → same_end f e ≡ b → b ≡ false
        at false q = refl
        at true q = absurd (false≢true (sym d.0 ∙ subst (λ g. is_in same_end g es ≡ true) (end_test.equal f e q) i))

    go : (b : Bool) → nat_lt x (total (sectors e.label)) ≡ b → IsValues (legs_on sectors es) xs ⊎ IsBeyond sectors es xs →
        ((x < total (sectors e.label)) × IsValues (legs_on sectors es) xs) ⊎ IsBeyond sectors (e ∷ es) (x ∷ xs)
    go true h (inl v) = inl (below x (total (sectors e.label)) h, v)
    go true h (inr w) = inr (w.0, or_right (same_end w.0 e) (is_in same_end w.0 es) w.1, subst (λ b. total (sectors w.0.label) ≤ cond b x (at_values es xs w.0)) (sym (past w.0 w.1)) w.2)
    go false h _ = inr (e, or_left (same_end e e) (is_in same_end e es) (end_test.itself e), subst (λ v. total (sectors e.label) ≤ v) (sym here) (above x (total (sectors e.label)) h))

-- an entry at values out of range is 0
rows_range : (fs : List Factor) (ls : List LegValue) (q : List ℤ) (rs : List Row) → All (IsRow fs ls q) rs → (xs : List ℕ) → IsValues ls xs ⊎ (entry_at rs xs ≡ zero_g)
rows_range fs ls q [] h xs = inr refl
rows_range fs ls q (r ∷ rs) h xs = go (same_values r.values xs) refl (rows_range fs ls q rs (all_others (IsRow fs ls q) r rs h) xs)
  where
    go : (b : Bool) → same_values r.values xs ≡ b → IsValues ls xs ⊎ (entry_at rs xs ≡ zero_g) → IsValues ls xs ⊎ (cond b r.entry (entry_at rs xs) ≡ zero_g)
    go true e _ = inl (subst (IsValues ls) (same_values-equal r.values xs e) (all_first (IsRow fs ls q) r rs h).range)
    go false e w = w

pub entry_range : (t : TensorValue) → IsTensor t → (xs : List ℕ) → IsValues t.legs xs ⊎ (entry_of t xs ≡ zero_g)
entry_range t h xs = rows_range t.group t.legs t.flux t.rows h.rows xs

-- an end in range
pub value_below : (sectors : ℤ → List SectorValue) (es : List End) (a : Assignment) → IsValues (legs_on sectors es) (values es a) → (e : End) → is_in same_end e es ≡ true → a e < total (sectors e.label)
value_below sectors [] a h e i = absurd (false≢true i)
value_below sectors (f ∷ es) a h e i = go (same_end e f) refl i (value_below sectors es a h.1 e)
  where
    go : (b : Bool) → same_end e f ≡ b → (b || is_in same_end e es) ≡ true → (is_in same_end e es ≡ true → a e < total (sectors e.label)) → a e < total (sectors e.label)
    go true q k ih = subst (λ (g : End). a g < total (sectors g.label)) (sym (end_test.equal e f q)) h.0
    go false q k ih = ih k

module _ (fs : List Factor) (sectors : ℤ → List SectorValue) where
  abbrev pub dims : ℤ → ℕ
  dims l = total (sectors l)

  pub node_ends : (p : Placed) (n : Node) → IsNodeOf fs sectors p n → ends (slots_of p.tensor.legs p.labels) ≡ n.ends
  node_ends p n h = ap₂ (λ gs ls. ends (slots_of gs ls)) h.legs h.labels ∙ ends_on sectors n.ends

  pub node_alike : (p : Placed) (n : Node) → IsNodeOf fs sectors p n → AreAlike (node_of p) n
  node_alike p n h = record {
    ends = node_ends p n h;
    odd = ap (λ gs. parity gs p.tensor.flux) h.group ∙ h.odd;
    entry = λ xs long. h.entry xs (long ∙ ap (λ (es : List End). length es) (node_ends p n h));
  }

  pub node_bounded : (p : Placed) (n : Node) → IsNodeOf fs sectors p n → IsBounded dims n
  node_bounded p n h a e i l = go (entry_range p.tensor h.tensor (values n.ends a))
    where
      long : (es : List End) → length (values es a) ≡ length es
      long [] = refl
      long (x ∷ es) = ap suc (long es)

      go : IsValues p.tensor.legs (values n.ends a) ⊎ (entry_of p.tensor (values n.ends a) ≡ zero_g) → n.entry (values n.ends a) ≡ zero_g
      go (inr z) = sym (h.entry (values n.ends a) (long n.ends)) ∙ z
      go (inl v) =
          let b : a e < total (sectors e.label) = value_below sectors n.ends a (subst (λ gs. IsValues gs (values n.ends a)) h.legs v) e i in
          absurd (omega (arith, b, l))

  -- some of them, one by one
  abbrev pub AreNodesOf : List Placed → List Node → Type 0
  AreNodesOf [] [] = Unit {0}
  AreNodesOf [] (n ∷ ns) = ⊥
  AreNodesOf (p ∷ ps) [] = ⊥
  AreNodesOf (p ∷ ps) (n ∷ ns) = IsNodeOf fs sectors p n × AreNodesOf ps ns

  pub all_alike : (ps : List Placed) (ns : List Node) → AreNodesOf ps ns → AllAlike (map node_of ps) ns
  all_alike [] [] h = tt
  all_alike [] (n ∷ ns) h = absurd h
  all_alike (p ∷ ps) [] h = absurd h
  all_alike (p ∷ ps) (n ∷ ns) h = (node_alike p n h.0, all_alike ps ns h.1)

  pub all_bounded : (ps : List Placed) (ns : List Node) → AreNodesOf ps ns → AllBounded dims ns
  all_bounded [] [] h = tt
  all_bounded [] (n ∷ ns) h = absurd h
  all_bounded (p ∷ ps) [] h = absurd h
  all_bounded (p ∷ ps) (n ∷ ns) h = (node_bounded p n h.0, all_bounded ps ns h.1)

  -- all legs and all labels, tensor by tensor, are those of the word
  pub all_legs : (ps : List Placed) (ns : List Node) → AreNodesOf ps ns → flat_map (λ (t : TensorValue). t.legs) (map (λ p. p.tensor) ps) ≡ legs_on sectors (word ns)
  all_legs [] [] h = refl
  all_legs [] (n ∷ ns) h = absurd h
  all_legs (p ∷ ps) [] h = absurd h
  all_legs (p ∷ ps) (n ∷ ns) h = ap₂ ◌++◌ h.0.legs (all_legs ps ns h.1) ∙ sym (legs-append sectors n.ends (word ns))

  pub all_labels : (ps : List Placed) (ns : List Node) → AreNodesOf ps ns → flat_map (λ (p : Placed). p.labels) ps ≡ map (λ e. e.label) (word ns)
  all_labels [] [] h = refl
  all_labels [] (n ∷ ns) h = absurd h
  all_labels (p ∷ ps) [] h = absurd h
  all_labels (p ∷ ps) (n ∷ ns) h = ap₂ ◌++◌ h.0.labels (all_labels ps ns h.1) ∙ sym (labels-append n.ends (word ns))

-- the labels that are left are those of the legs that are kept
pub labels_kept : (ns : List Node) (bonds : List Bond) → filter (λ l. not (is_in int_eq l (labels bonds))) (map (λ (e : End). e.label) (word ns)) ≡ map (λ e. e.label) (kept ns bonds)
labels_kept ns bonds = go (word ns)
  where
    go : (es : List End) → filter (λ l. not (is_in int_eq l (labels bonds))) (map (λ (e : End). e.label) es) ≡ map (λ e. e.label) (filter (λ (e : End). not (is_in int_eq e.label (labels bonds))) es)
    go [] = refl
    go (e ∷ es) = at (not (is_in int_eq e.label (labels bonds))) (go es)
      where
        at : (b : Bool) → filter (λ l. not (is_in int_eq l (labels bonds))) (map (λ (f : End). f.label) es) ≡ map (λ e. e.label) (filter (λ (f : End). not (is_in int_eq f.label (labels bonds))) es) →
            cond b (e.label ∷ filter (λ l. not (is_in int_eq l (labels bonds))) (map (λ (f : End). f.label) es)) (filter (λ l. not (is_in int_eq l (labels bonds))) (map (λ (f : End). f.label) es))
            ≡ map (λ f. f.label) (cond b (e ∷ filter (λ (f : End). not (is_in int_eq f.label (labels bonds))) es) (filter (λ (f : End). not (is_in int_eq f.label (labels bonds))) es))
        at true ih = ap (λ ls. e.label ∷ ls) ih
        at false ih = ih

pub range_of : (sectors : ℤ → List SectorValue) (es : List End) → IsDistinct same_end es → (xs : List ℕ) → length xs ≡ length es →
    IsValues (legs_on sectors es) xs ⊎ IsBeyond sectors es xs
range_of = in_range
