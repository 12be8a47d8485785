-- The blocks that count for a tuple of the result, gathered one at a time.
use Rattle.std.proofs.Common.{◌≡◌, ◌<◌, ℕ, ◌+◌, Bool, true, false, cond, List, [], ◌∷◌, ◌++◌, refl, sym, ◌∙◌, ap, ap₂, length, take, get_or, append-nil}
use Rattle.std.specs.List.{All}
use Rattle.std.proofs.lemmas.List.{take_more}
use Rattle.qn_charge.specs.declared.factor.Factor.{Factor}
use Rattle.qn_value.specs.Tensors.{BlockValue}
use Rattle.qn_index.specs.Legs.{LegValue}
use Rattle.qn_strides.specs.Strides.{open_places}
use Rattle.qn_trace.specs.Sources.{SourceValue, fits, source_of, sources, IsSource}
use Rattle.qn_strides.proofs.Striding.{all_last}
use Rattle.qn_strides.proofs.Lines.{all_within, open_within}

-- the blocks that count among the first
pub record AreGathered (fs : List Factor) (ls : List LegValue) (cs : List (ℕ × ℕ)) (rs : List LegValue) (ss : List ℕ) (bs : List BlockValue) (i : ℕ) (out : List SourceValue) : Type 0 where
  pub made : out ≡ sources fs ls cs rs ss (take i bs)
  pub small : All IsSource out

sources_last : (fs : List Factor) (ls : List LegValue) (cs : List (ℕ × ℕ)) (rs : List LegValue) (ss : List ℕ) (bs : List BlockValue) (b : BlockValue) →
    sources fs ls cs rs ss (bs ++ b ∷ []) ≡ sources fs ls cs rs ss bs ++ sources fs ls cs rs ss (b ∷ [])
sources_last fs ls cs rs ss [] b = refl
sources_last fs ls cs rs ss (c ∷ bs) b = go (fits cs ss (open_places cs (length ls)) c) (sources_last fs ls cs rs ss bs b)
  where
    x : SourceValue
    x = source_of fs ls cs rs ss c

    go : (t : Bool) → sources fs ls cs rs ss (bs ++ b ∷ []) ≡ sources fs ls cs rs ss bs ++ sources fs ls cs rs ss (b ∷ []) →
        cond t (x ∷ sources fs ls cs rs ss (bs ++ b ∷ [])) (sources fs ls cs rs ss (bs ++ b ∷ [])) ≡ cond t (x ∷ sources fs ls cs rs ss bs) (sources fs ls cs rs ss bs) ++ sources fs ls cs rs ss (b ∷ [])
    go true e = ap (λ ys. x ∷ ys) e
    go false e = e

gathered_next : (fs : List Factor) (ls : List LegValue) (cs : List (ℕ × ℕ)) (rs : List LegValue) (ss : List ℕ) (bs : List BlockValue) (i : ℕ) (b : BlockValue) → i < length bs → b ≡ get_or bs i b →
    sources fs ls cs rs ss (take (i + 1) bs) ≡ sources fs ls cs rs ss (take i bs) ++ sources fs ls cs rs ss (b ∷ [])
gathered_next fs ls cs rs ss bs i b lt e =
    ap (sources fs ls cs rs ss) (take_more bs i b lt ∙ ap (λ c. take i bs ++ c ∷ []) (sym e)) ∙ sources_last fs ls cs rs ss (take i bs) b

pub gathered_more : (fs : List Factor) (ls : List LegValue) (cs : List (ℕ × ℕ)) (rs : List LegValue) (ss : List ℕ) (bs : List BlockValue) (i : ℕ) (b : BlockValue) (out : List SourceValue) (x : SourceValue) (ps : List ℕ) → i < length bs → b ≡ get_or bs i b →
    ps ≡ open_places cs (length ls) → fits cs ss ps b ≡ true → x ≡ source_of fs ls cs rs ss b → IsSource x → AreGathered fs ls cs rs ss bs i out → AreGathered fs ls cs rs ss bs (i + 1) (out ++ x ∷ [])
gathered_more fs ls cs rs ss bs i b out x ps lt e p f g s h = record {
  made =
      ap₂ (λ ys y. ys ++ y ∷ []) h.made g
      ∙ ap (λ t. sources fs ls cs rs ss (take i bs) ++ cond t (source_of fs ls cs rs ss b ∷ []) []) (sym (ap (λ qs. fits cs ss qs b) (sym p) ∙ f))
      ∙ sym (gathered_next fs ls cs rs ss bs i b lt e);
  small = all_last IsSource out x h.small s;
}

pub gathered_passed : (fs : List Factor) (ls : List LegValue) (cs : List (ℕ × ℕ)) (rs : List LegValue) (ss : List ℕ) (bs : List BlockValue) (i : ℕ) (b : BlockValue) (out : List SourceValue) (ps : List ℕ) → i < length bs → b ≡ get_or bs i b →
    ps ≡ open_places cs (length ls) → fits cs ss ps b ≡ false → AreGathered fs ls cs rs ss bs i out → AreGathered fs ls cs rs ss bs (i + 1) out
gathered_passed fs ls cs rs ss bs i b out ps lt e p f h = record {
  made =
      h.made ∙ sym (append-nil (sources fs ls cs rs ss (take i bs)))
      ∙ ap (λ t. sources fs ls cs rs ss (take i bs) ++ cond t (source_of fs ls cs rs ss b ∷ []) []) (sym (ap (λ qs. fits cs ss qs b) (sym p) ∙ f))
      ∙ sym (gathered_next fs ls cs rs ss bs i b lt e);
  small = h.small;
}

-- the open legs are legs
pub open_below : (ls : List LegValue) (cs : List (ℕ × ℕ)) → All (λ k. k < length ls) (open_places cs (length ls))
open_below ls cs = all_within (length ls) (open_places cs (length ls)) (open_within ls cs)
