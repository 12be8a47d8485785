-- The laws of diagonal rules.
use Rattle.std.proofs.Common.{◌≡◌, ◌<◌, ℕ, suc, ◌+◌, ◌-◌, ◌*◌, false, List, [], ◌∷◌, ◌++◌, sym, ◌∙◌, ap, ap₂, subst, length, get_or, arith}
use Rattle.std.specs.List.{range_with_len}
use Rattle.std.proofs.lemmas.List.{map-append}
use Rattle.qn_gauss.specs.Gaussian.{Gaussian, mag, signed}
use Rattle.qn_gauss.proofs.Ring.{one_mul}
use Rattle.qn_charge.specs.Laws.{zero_is_neutral}
use Rattle.qn_index.specs.Places.{IsValues}
use Rattle.qn_value.specs.Tensors.{TensorValue, IsTensor, entry_of}
use Rattle.qn_value.specs.Local.{no_leg, picked, moving_sign, Moved, Pairwise}
use Rattle.qn_value.specs.Magnitudes.{pair_magnitude}
use Rattle.qn_block.proofs.Lookup.{values_length}
use Rattle.qn_value.proofs.CoupledLemmas.{leg_at}
use Rattle.qn_diagonal.specs.Diagonal.{IsDiagonal, put_back, bring_first, identity, Weighed, DiagonalLaw, IdentityLaw, DiagonalSizeLaw, DiagonalLegsLaw}
use Rattle.qn_diagonal.proofs.Weighing.{before, after, diagonal, legs_open, legs_back, ys, ys_range, values_put_back, entry_back, size_back}

module _ (r t : TensorValue) (m : ℕ) (weight : ℕ → Gaussian) (lt : m < length t.legs) (d : IsDiagonal t.group (leg_at t.legs m) weight r) where
  abbrev k : ℕ
  k = length t.legs - m - 1

  count : length t.legs ≡ m + suc (length t.legs - m - 1)
  count = omega (arith, lt)

  same : r ≡ diagonal r.rows t m k count
  same = λ i. record { group = d.group i; legs = d.legs i; flux = d.flux i; rows = r.rows }

  values_count : (xs : List ℕ) → IsValues t.legs xs → length xs ≡ m + suc (length t.legs - m - 1)
  values_count xs v = values_length t.legs xs v ∙ count

  module _ (p : TensorValue) (pair : Pairwise r t ((1, m) ∷ []) false p) where
    pair_is : Pairwise (diagonal r.rows t m k count) t ((1, m) ∷ []) false p
    pair_is = subst (λ s. Pairwise s t ((1, m) ∷ []) false p) same pair

    legs_are : p.legs ≡ leg_at t.legs m ∷ (before no_leg t.legs m k count ++ after no_leg t.legs m k count)
    legs_are = pair_is.legs ∙ legs_open r.rows t m k count

    pub legs_first : p.legs ≡ picked no_leg t.legs (bring_first m (length t.legs))
    legs_first = legs_are ∙ ap (λ zs. leg_at t.legs m ∷ zs) (sym (map-append (leg_at t.legs) (range_with_len 0 m) (range_with_len (m + 1) k)))

    pub weighed : IsTensor t → (q : TensorValue) → Moved p (put_back m (length t.legs)) q → Weighed t m weight q
    weighed tensor q moved = record {
      group = moved.group ∙ pair_is.group;
      legs = moved.legs ∙ ap (λ ls. picked no_leg ls (put_back m (length t.legs))) legs_are ∙ legs_back r.rows t m k count;
      flux = moved.flux ∙ pair_is.flux ∙ zero_is_neutral t.group t.flux tensor.flux;
      entries = λ xs v.
          let n : length xs ≡ m + suc (length t.legs - m - 1) = values_count xs v in
          let range : IsValues p.legs (ys r.rows t m k count xs n v) = subst (λ ls. IsValues ls (ys r.rows t m k count xs n v)) (sym legs_are) (ys_range r.rows t m k count xs n v) in
          ap (entry_of q) (sym (values_put_back r.rows t m k count xs n v))
          ∙ moved.entries (ys r.rows t m k count xs n v) range
          ∙ ap₂ signed (λ i. moving_sign (pair_is.group i) (legs_are i) (ys r.rows t m k count xs n v) (put_back m (length t.legs))) (pair_is.entries (ys r.rows t m k count xs n v) range)
          ∙ entry_back r.rows t m k count xs n v weight d.entries;
    }

  pub sized : (xs : List ℕ) → IsValues t.legs xs → pair_magnitude r t ((1, m) ∷ []) (picked 0 xs (bring_first m (length t.legs))) ≡ mag (weight (get_or xs m 0)) * mag (entry_of t xs)
  sized xs v =
      ap (λ s. pair_magnitude s t ((1, m) ∷ []) (picked 0 xs (bring_first m (length t.legs)))) same
      ∙ ap (λ zs. pair_magnitude (diagonal r.rows t m k count) t ((1, m) ∷ []) (get_or xs m 0 ∷ zs)) (map-append (λ i. get_or xs i 0) (range_with_len 0 m) (range_with_len (m + 1) k))
      ∙ size_back r.rows t m k count xs (values_count xs v) v weight d.entries

pub diagonal_law : DiagonalLaw
diagonal_law r t p q m weight tensor lt d pair moved = weighed r t m weight lt d p pair tensor q moved

pub identity_law : IdentityLaw
identity_law r t p q m tensor lt d pair moved xs v =
    let w : Weighed t m identity q = diagonal_law r t p q m identity tensor lt d pair moved in
    w.entries xs v ∙ one_mul (entry_of t xs)

pub diagonal_size_law : DiagonalSizeLaw
diagonal_size_law r t m weight lt d xs v = sized r t m weight lt d xs v

pub diagonal_legs_law : DiagonalLegsLaw
diagonal_legs_law r t p m weight lt d pair = legs_first r t m weight lt d p pair
