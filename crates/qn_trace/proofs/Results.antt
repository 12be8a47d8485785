-- What the blocks of a result say of the trace.
use Rattle.std.proofs.Common.{◌≡◌, ℕ, ℤ, List, [], ◌∷◌, ◌++◌, refl, sym, ◌∙◌, ap, subst, length, append-nil, ◌⊎◌, inl, inr}
use Rattle.qn_charge.specs.declared.factor.Factor.{Factor}
use Rattle.qn_charge.specs.Charges.{IsCanonical, zero_charge}
use Rattle.qn_charge.specs.Laws.{zero_is_neutral, commutative_charge}
use Rattle.qn_index.specs.Legs.{LegValue}
use Rattle.qn_index.specs.Tuples.{net}
use Rattle.qn_index.specs.Places.{IsValues, sectors_at}
use Rattle.qn_value.specs.Tensors.{TensorValue, entry_of, entry_in}
use Rattle.qn_value.specs.Local.{IsCoupling, open_legs, trace_entry, Traced}
use Rattle.qn_value.specs.Fluxes.{sum_flux}
use Rattle.qn_value.proofs.OpenLegs.{off_flux}
use Rattle.qn_block.specs.Blocked.{BlockedValue, IsBlocked, tensor_of, MeetFlux}
use Rattle.qn_block.proofs.Entries.{by_blocks, entry_off_flux, is_tensor}
use Rattle.qn_block.proofs.Lookup.{values_length}
use Rattle.qn_strides.proofs.Lines.{open_at}
use Rattle.qn_strides.proofs.Charged.{charge_or_not}
use Rattle.qn_strides.proofs.Opens.{left_legs}

pub open_is : (t : TensorValue) (cs : List (ℕ × ℕ)) → open_legs (t ∷ []) cs ≡ left_legs t.legs cs
open_is t cs = subst (λ gs. open_legs (t ∷ []) cs ≡ left_legs gs cs) (append-nil t.legs) (open_at (t.legs ++ []) cs)

flux_alone : (fs : List Factor) (q : List ℤ) → IsCanonical fs q → sum_flux fs (q ∷ []) ≡ q
flux_alone fs q h = commutative_charge fs q (zero_charge fs) ∙ zero_is_neutral fs q h

-- blocks with the right entries at the values that meet the flux make the trace
pub traced_is : (t r : BlockedValue) (cs : List (ℕ × ℕ)) → IsBlocked t → IsBlocked r → IsCoupling t.legs cs → r.group ≡ t.group → r.legs ≡ left_legs t.legs cs → r.flux ≡ t.flux →
    ((xs : List ℕ) → MeetFlux t.group (left_legs t.legs cs) t.flux xs → trace_entry (tensor_of t) cs xs ≡ entry_in (left_legs t.legs cs) r.blocks xs) → Traced (tensor_of t) cs (tensor_of r)
traced_is t r cs h k good group legs flux entries = record {
  group = group;
  legs = legs ∙ sym (open_is (tensor_of t) cs);
  flux = flux;
  entries = λ xs v. at xs v (charge_or_not (net r.group r.legs (sectors_at r.legs xs)) r.flux);
}
  where
    at : (xs : List ℕ) → IsValues r.legs xs → (net r.group r.legs (sectors_at r.legs xs) ≡ r.flux) ⊎ (net r.group r.legs (sectors_at r.legs xs) ≡ r.flux → ⊥) → entry_of (tensor_of r) xs ≡ trace_entry (tensor_of t) cs xs
    at xs v (inl e) =
        by_blocks r xs k v
        ∙ ap (λ gs. entry_in gs r.blocks xs) legs
        ∙ sym (entries xs (record {
          range = subst (λ gs. IsValues gs xs) legs v;
          flux = (λ i. net (sym group i) (sym legs i) (sectors_at (sym legs i) xs)) ∙ e ∙ flux;
        }))
    at xs v (inr n) =
        entry_off_flux r xs k v n
        ∙ sym (off_flux t.group (tensor_of t ∷ []) cs h.group (refl, is_tensor t h, tt) (subst (λ gs. IsCoupling gs cs) (sym (append-nil t.legs)) good) xs
        (values_length r.legs xs v ∙ ap (λ (gs : List LegValue). length gs) (legs ∙ sym (open_is (tensor_of t) cs)))
        (λ e. n ((λ i. net (group i) ((legs ∙ sym (open_is (tensor_of t) cs)) i) (sectors_at ((legs ∙ sym (open_is (tensor_of t) cs)) i) xs)) ∙ e ∙ flux_alone t.group t.flux h.flux.canonical ∙ sym flux))).0
