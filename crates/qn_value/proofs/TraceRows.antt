-- One tensor, row by row: it is contracted with the number 1.
use Rattle.std.proofs.Common.{◌≡◌, ℕ, ℤ, Bool, false, ◌&&◌, List, [], ◌∷◌, sym, ◌∙◌, ap, length, append-nil}
use mathlib.Core.Path.{fun_ext}
use Rattle.qn_gauss.specs.Gaussian.{Gaussian, one_g, zero_g, add_g, mul_g, signed}
use Rattle.qn_value.specs.Networks.{End, Node, Bond, Assignment, sums, sign, values, at_values, contract, IsNetwork}
use Rattle.qn_value.specs.Tensors.{Row, same_values, entry_at, AreDistinct}
use Rattle.qn_value.specs.Rows.{sum_over, when, meet_on, joined, meet, fits, AllBelow, HaveDims}
use Rattle.qn_gauss.proofs.Ring.{add_zero, mul_one}
use Rattle.qn_value.proofs.RowsLemmas.{rows_law, over-congr}

abbrev unit : Row
unit = record { values = []; entry = one_g }

pub trace_rows_law : (par : ℤ → ℕ → Bool) (dims : ℤ → ℕ) (es : List End) (rs : List Row) (p : Bool) (bonds : List Bond) (opens : List End) (xs : List ℕ) →
    IsNetwork (record { ends = es; entry = entry_at rs; odd = p } ∷ []) bonds opens → length xs ≡ length opens →
    HaveDims dims bonds → AreDistinct rs → AllBelow dims es rs →
    (contract par (record { ends = es; entry = entry_at rs; odd = p } ∷ []) bonds opens).entry xs ≡
    sum_over rs (λ r. when (fits es bonds opens xs r) (signed (sign par (record { ends = es; entry = entry_at rs; odd = p } ∷ []) bonds opens (at_values es r.values)) r.entry))
trace_rows_law par dims es rs p bonds opens xs net long fit dr hr =
    let n : Node = record { ends = es; entry = entry_at rs; odd = p } in
    let one : Node = record { ends = []; entry = entry_at (unit ∷ []); odd = false } in
    ap (λ (f : Assignment → Gaussian). sums bonds f (at_values opens xs)) (fun_ext (λ c.
    ap (λ v. signed (sign par (n ∷ []) bonds opens c) (mul_g (entry_at rs (values es c)) v)) (sym (mul_one one_g))))
    ∙ rows_law par dims es [] rs (unit ∷ []) p false bonds opens xs (record { distinct = net.distinct; complete = net.complete }) long fit dr (tt, tt) hr (tt, tt)
    ∙ over-congr rs _ _ (λ r. at_row r)
  where
    at_row : (r : Row) →
        add_g (when (meet es [] bonds opens xs r unit) (signed (sign par (record { ends = es; entry = entry_at rs; odd = p } ∷ []) bonds opens (joined es [] r unit)) (mul_g r.entry one_g))) zero_g
        ≡ when (fits es bonds opens xs r) (signed (sign par (record { ends = es; entry = entry_at rs; odd = p } ∷ []) bonds opens (at_values es r.values)) r.entry)
    at_row r =
        add_zero _
        ∙ (λ i. when (meet_on bonds (at_values (append-nil es i) (append-nil r.values i)) && same_values xs (values opens (at_values (append-nil es i) (append-nil r.values i))))
        (signed (sign par (record { ends = es; entry = entry_at rs; odd = p } ∷ []) bonds opens (at_values (append-nil es i) (append-nil r.values i))) (mul_one r.entry i)))
