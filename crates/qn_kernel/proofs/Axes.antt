-- The shared pairs of two blocks, made one at a time.
use Rattle.std.proofs.Common.{◌≡◌, ◌<◌, ℕ, ◌+◌, List, [], ◌∷◌, ◌++◌, refl, sym, ◌∙◌, ap, length, get_or, take, arith}
use Rattle.std.specs.List.{All}
use Rattle.std.proofs.lemmas.List.{take_all, take_more}
use Rattle.qn_index.specs.Legs.{LegValue, sector_at}
use Rattle.qn_value.specs.Local.{no_leg}
use Rattle.qn_strides.proofs.Striding.{all_last}
use Rattle.qn_kernel.specs.Sources.{PairedValue, IsPaired, paired_axes}

-- the axes of the first pairs
pub record ArePaired (ks : List LegValue) (t ws us : List ℕ) (ps : List (ℕ × ℕ)) (i : ℕ) (axes : List PairedValue) : Type 0 where
  pub made : axes ≡ paired_axes ks t ws us (take i ps)
  pub small : All IsPaired axes

last : (ks : List LegValue) (t ws us : List ℕ) (ps : List (ℕ × ℕ)) (p : ℕ × ℕ) → paired_axes ks t ws us (ps ++ p ∷ []) ≡ paired_axes ks t ws us ps ++ paired_axes ks t ws us (p ∷ [])
last ks t ws us [] p = refl
last ks t ws us (q ∷ ps) p = ap (λ ys. paired_axes ks t ws us (q ∷ []) ++ ys) (last ks t ws us ps p)

pub paired_more : (ks : List LegValue) (t ws us : List ℕ) (ps : List (ℕ × ℕ)) (i : ℕ) (p : ℕ × ℕ) (axes : List PairedValue) (x : PairedValue) → i < length ps → p ≡ get_or ps i p → ArePaired ks t ws us ps i axes →
    x.len ≡ (sector_at (get_or ks p.0 no_leg).sectors (get_or t p.0 0)).dim → x.first ≡ get_or ws p.0 0 → x.second ≡ get_or us p.1 0 → IsPaired x → ArePaired ks t ws us ps (i + 1) (axes ++ x ∷ [])
paired_more ks t ws us ps i p axes x lt e h f g k small = record {
  made =
      (λ j. h.made j ++ record { len = f j; first = g j; second = k j } ∷ [])
      ∙ sym (last ks t ws us (take i ps) p)
      ∙ ap (λ q. paired_axes ks t ws us (take i ps ++ q ∷ [])) e
      ∙ ap (paired_axes ks t ws us) (sym (take_more ps i p lt));
  small = all_last IsPaired axes x h.small small;
}
