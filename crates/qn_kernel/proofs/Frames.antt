-- The blocks of a contraction, pair by pair.
use Rattle.std.proofs.Common.{◌≡◌, ◌<◌, ℕ, suc, ◌+◌, Bool, List, [], ◌∷◌, ◌++◌, refl, sym, ◌∙◌, ap, ap₂, subst, length, get_or, take, drop, arith}
use Rattle.std.specs.List.{All}
use Rattle.std.proofs.lemmas.List.{map-append, take_more, take_all, get_or_default}
use Rattle.qn_charge.specs.declared.factor.Factor.{Factor}
use Rattle.qn_index.specs.Legs.{LegValue}
use Rattle.qn_index.specs.Tuples.{IsTuple}
use Rattle.qn_value.specs.Tensors.{BlockValue, no_block}
use Rattle.qn_block.specs.Refusals.{block_at}
use Rattle.qn_strides.proofs.Counts.{goal_within}
use Rattle.qn_strides.proofs.Striding.{all_last}
use Rattle.qn_index.specs.Places.{block_size}
use Rattle.qn_strides.specs.Strides.{open_places}
use Rattle.qn_kernel.specs.Sources.{SourceValue, IsSource, AreSources, IsFrame, paired_axes, source_of, sources, couples_of}
use Rattle.qn_kernel.proofs.Starts.{size_parts}

pub tuple_joined : (ks ls : List LegValue) (t u : List ℕ) → IsTuple ks t → IsTuple ls u → IsTuple (ks ++ ls) (t ++ u)
tuple_joined [] ls t u h k = subst (λ s. IsTuple ls (s ++ u)) (sym h) k
tuple_joined (l ∷ ks) ls [] u h k = absurd h
tuple_joined (l ∷ ks) ls (s ∷ t) u h k = (h.0, tuple_joined ks ls t u h.1 k)

pub frame_tuple : (ks ls : List LegValue) (shared : List (ℕ × ℕ)) (word : List LegValue) (goal places : List ℕ) (left : List LegValue) (t u t2 u2 : List ℕ) → IsFrame ks ls shared word goal places left →
    IsTuple ks t → IsTuple ls u → t2 ≡ t → u2 ≡ u → IsTuple word (t2 ++ u2)
frame_tuple ks ls shared word goal places left t u t2 u2 f h k e g =
    subst (λ w. IsTuple w (t2 ++ u2)) (sym f.word_is) (subst (λ s. IsTuple (ks ++ ls) (s ++ u2)) (sym e) (subst (λ s. IsTuple (ks ++ ls) (t ++ s)) (sym g) (tuple_joined ks ls t u h k)))

pub frame_goal : (ks ls : List LegValue) (shared : List (ℕ × ℕ)) (word : List LegValue) (goal places : List ℕ) (left : List LegValue) → IsFrame ks ls shared word goal places left → All (λ k. k < length word) goal
frame_goal ks ls shared word goal places left f =
    subst (λ (w : List LegValue). All (λ k. k < length w) goal) (sym f.word_is)
    (subst (λ (gs : List ℕ). All (λ k. k < length (ks ++ ls)) gs) (sym f.goal_is) (goal_within (ks ++ ls) (couples_of (length ks) shared) f.coupling))

pub paired_long : (ks : List LegValue) (t ws us : List ℕ) (ps : List (ℕ × ℕ)) → length (paired_axes ks t ws us ps) ≡ length ps
paired_long ks t ws us [] = refl
paired_long ks t ws us (p ∷ ps) = ap suc (paired_long ks t ws us ps)

module _ (fs : List Factor) (ks ls : List LegValue) (shared : List (ℕ × ℕ)) (turned : Bool) (rs : List LegValue) (ss : List ℕ) (bs ds : List BlockValue) where
  -- how many legs are the first tensor's, and how many rows and columns these legs and the others make
  abbrev kept_first : ℕ
  kept_first = length (open_places (couples_of (length ks) shared) (length ks))

  abbrev row_count : ℕ
  row_count = block_size (take kept_first rs) (take kept_first ss)

  abbrev col_count : ℕ
  col_count = block_size (drop kept_first rs) (drop kept_first ss)

  pub record AreGathered (pairs : List (ℕ × ℕ)) (i : ℕ) (out : List SourceValue) : Type 0 where
    pub made : out ≡ sources fs ks ls shared turned rs ss bs ds (take i pairs)
    pub small : All (IsSource row_count col_count) out

  pub gathered_more : (pairs : List (ℕ × ℕ)) (i : ℕ) (x y : BlockValue) (s : SourceValue) (out : List SourceValue) → i < length pairs → (let p = get_or pairs i (0, 0) in
      x ≡ get_or bs p.0 x → p.0 < length bs → y ≡ get_or ds p.1 y → p.1 < length ds → s ≡ source_of fs ks ls shared turned rs ss x y → IsSource s.rows s.cols s → AreGathered pairs i out → AreGathered pairs (i + 1) (out ++ s ∷ []))
  gathered_more pairs i x y s out lt e l f m g small h =
      let p : ℕ × ℕ = get_or pairs i (0, 0) in
      let one : x ≡ block_at bs p.0 = e ∙ get_or_default bs p.0 x no_block l in
      let two : y ≡ block_at ds p.1 = f ∙ get_or_default ds p.1 y no_block m in
      let last : sources fs ks ls shared turned rs ss bs ds (take (i + 1) pairs) ≡ sources fs ks ls shared turned rs ss bs ds (take i pairs) ++ sources fs ks ls shared turned rs ss bs ds (p ∷ []) =
      ap (sources fs ks ls shared turned rs ss bs ds) (take_more pairs i (0, 0) lt) ∙ map-append (λ (q : ℕ × ℕ). source_of fs ks ls shared turned rs ss (block_at bs q.0) (block_at ds q.1)) (take i pairs) (p ∷ []) in
      let shaped : IsSource row_count col_count s =
      subst (λ n. IsSource n col_count s) (ap (λ (z : SourceValue). z.rows) g) (subst (λ n. IsSource s.rows n s) (ap (λ (z : SourceValue). z.cols) g) small) in
      record {
        made = ap₂ (λ ys z. ys ++ z ∷ []) h.made (g ∙ ap₂ (source_of fs ks ls shared turned rs ss) one two) ∙ sym last;
        small = all_last (IsSource row_count col_count) out s h.small shaped;
      }

  pub gathered_shape : (pairs : List (ℕ × ℕ)) (i : ℕ) (out : List SourceValue) → IsTuple rs ss → AreGathered pairs i out → AreSources (block_size rs ss) out
  gathered_shape pairs i out t h = record {
    rows = row_count;
    cols = col_count;
    len_is = sym (size_parts kept_first rs ss t);
    all = h.small;
  }
