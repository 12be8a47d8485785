-- Rules that weigh the values of one leg: diagonal tensors with this leg and the same leg turned.
-- Singh, Pfeifer and Vidal 2010; the sign by the exchange rule of super vector spaces.
use Rattle.std.specs.Prelude.{◌≡◌, ◌≢◌, ◌<◌, ℕ, ◌+◌, ◌-◌, ◌*◌, ◌==◌, false, ◌&&◌, cond, List, [], ◌∷◌, ◌++◌, length, slice_index_or}
use Rattle.std.specs.List.{range_with_len}
use Rattle.qn_gauss.specs.Gaussian.{Gaussian, zero_g, one_g, mul_g, mag, signed}
use Rattle.qn_charge.specs.declared.factor.Factor.{Factor}
use Rattle.qn_charge.specs.Charges.{IsGroup, zero_charge}
use Rattle.qn_index.specs.Legs.{LegValue, IsLegOf, total, flipped, parity_at}
use Rattle.qn_index.specs.Tuples.{net}
use Rattle.qn_index.specs.Places.{IsValues, sectors_at}
use Rattle.qn_value.specs.Tensors.{TensorValue, IsTensor, entry_of}
use Rattle.qn_value.specs.Labels.{is_inward}
use Rattle.qn_value.specs.Local.{no_leg, picked, Moved, Pairwise}
use Rattle.qn_value.specs.Magnitudes.{pair_magnitude}

-- the entry at a value of the leg and one of the turned leg: the weight of the value where both are equal, times -1 where the leg is In and the value odd, and else 0
abbrev pub diagonal_entry : List Factor → LegValue → (ℕ → Gaussian) → ℕ → ℕ → Gaussian
diagonal_entry fs l weight v w = cond (v == w) (signed (is_inward l.arrow && parity_at fs l.sectors v) (weight v)) zero_g

-- r is the diagonal rule for this leg, of flux zero
pub record IsDiagonal (fs : List Factor) (l : LegValue) (weight : ℕ → Gaussian) (r : TensorValue) : Type 0 where
  pub group : r.group ≡ fs
  pub legs : r.legs ≡ l ∷ flipped l ∷ []
  pub flux : r.flux ≡ zero_charge fs
  pub entries : (v w : ℕ) → v < total l.sectors → w < total l.sectors → entry_of r (v ∷ w ∷ []) ≡ diagonal_entry fs l weight v w

-- each value has the weight 1
abbrev pub identity : ℕ → Gaussian
identity v = one_g

-- the order that brings the first of n legs behind the next m ones
abbrev pub put_back : ℕ → ℕ → List ℕ
put_back m n = range_with_len 1 m ++ 0 ∷ range_with_len (m + 1) (n - m - 1)

-- the order that brings leg m of n legs to the front
abbrev pub bring_first : ℕ → ℕ → List ℕ
bring_first m n = m ∷ (range_with_len 0 m ++ range_with_len (m + 1) (n - m - 1))

-- q is t with each entry multiplied by the weight of its value at leg m
pub record Weighed (t : TensorValue) (m : ℕ) (weight : ℕ → Gaussian) (q : TensorValue) : Type 0 where
  pub group : q.group ≡ t.group
  pub legs : q.legs ≡ t.legs
  pub flux : q.flux ≡ t.flux
  pub entries : (xs : List ℕ) → IsValues t.legs xs → entry_of q xs ≡ mul_g (weight (slice_index_or xs m 0)) (entry_of t xs)

-- a diagonal rule, contracted by its second leg with leg m of a tensor, its first leg being put back in the place m, weighs the tensor
abbrev pub DiagonalLaw : Type 0
DiagonalLaw =
    (r t p q : TensorValue) (m : ℕ) (weight : ℕ → Gaussian) → IsTensor t → m < length t.legs →
    IsDiagonal t.group (slice_index_or t.legs m no_leg) weight r →
    Pairwise r t ((1, m) ∷ []) false p → Moved p (put_back m (length t.legs)) q → Weighed t m weight q

-- where each value has the weight 1, the tensor stays as it is
abbrev pub IdentityLaw : Type 0
IdentityLaw =
    (r t p q : TensorValue) (m : ℕ) → IsTensor t → m < length t.legs →
    IsDiagonal t.group (slice_index_or t.legs m no_leg) identity r →
    Pairwise r t ((1, m) ∷ []) false p → Moved p (put_back m (length t.legs)) q →
    (xs : List ℕ) → IsValues t.legs xs → entry_of q xs ≡ entry_of t xs

-- the sum of magnitudes of this contraction at values of its legs, leg m first, is the product of the magnitudes of the weight and of the entry
abbrev pub DiagonalSizeLaw : Type 0
DiagonalSizeLaw =
    (r t : TensorValue) (m : ℕ) (weight : ℕ → Gaussian) → m < length t.legs →
    IsDiagonal t.group (slice_index_or t.legs m no_leg) weight r →
    (xs : List ℕ) → IsValues t.legs xs →
    pair_magnitude r t ((1, m) ∷ []) (picked 0 xs (bring_first m (length t.legs))) ≡ mag (weight (slice_index_or xs m 0)) * mag (entry_of t xs)

-- the legs of this contraction are leg m and then the others
abbrev pub DiagonalLegsLaw : Type 0
DiagonalLegsLaw =
    (r t p : TensorValue) (m : ℕ) (weight : ℕ → Gaussian) → m < length t.legs →
    IsDiagonal t.group (slice_index_or t.legs m no_leg) weight r →
    Pairwise r t ((1, m) ∷ []) false p → p.legs ≡ picked no_leg t.legs (bring_first m (length t.legs))

-- a diagonal rule conserves charge: its entry is 0 wherever the net charge of its two values is not zero
abbrev pub DiagonalConservesLaw : Type 0
DiagonalConservesLaw =
    (fs : List Factor) (l : LegValue) (weight : ℕ → Gaussian) (v w : ℕ) → IsGroup fs → IsLegOf fs l → v < total l.sectors →
    net fs (l ∷ flipped l ∷ []) (sectors_at (l ∷ flipped l ∷ []) (v ∷ w ∷ [])) ≢ zero_charge fs → diagonal_entry fs l weight v w ≡ zero_g
