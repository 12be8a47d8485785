-- The result of a trace.
use Rattle.std.proofs.Common.{◌≡◌, ℕ, ℤ, List, refl, sym, ◌∙◌, subst}
use Rattle.std.specs.List.{All}
use Rattle.qn_charge.specs.declared.factor.Factor.{Factor}
use Rattle.qn_index.specs.Legs.{LegValue, IsSound, IsLegOf}
use Rattle.qn_index.specs.Extents.{IsWithinLimits}
use Rattle.qn_value.specs.Tensors.{BlockValue, entry_in, IsBlock, AreAscending}
use Rattle.qn_value.specs.Local.{IsCoupling, trace_entry, Traced}
use Rattle.qn_block.specs.Blocked.{BlockedValue, IsBlocked, MeetFlux, tensor_of}
use Rattle.qn_strides.proofs.Opens.{left_legs}
use Rattle.qn_trace.proofs.Results.{traced_is}
use Rattle.qn_trace.proofs.Widths.{trace_within, left_all}

-- what the open legs are
pub record IsLeft (t : BlockedValue) (ls : List LegValue) : Type 0 where
  pub charges : All (IsLegOf t.group) ls
  pub shape : IsWithinLimits t.group ls t.flux

pub is_left : (t : BlockedValue) (cs : List (ℕ × ℕ)) (ls : List LegValue) → IsBlocked t → IsCoupling t.legs cs → ls ≡ left_legs t.legs cs → IsLeft t ls
is_left t cs ls h good e = subst (IsLeft t) (sym e) record {
  charges = left_all (IsLegOf t.group) t.legs cs h.charges;
  shape = trace_within t.group t.legs t.flux cs h.group h.sound good h.shape;
}

left_blocked : (t : BlockedValue) (cs : List (ℕ × ℕ)) (bs : List BlockValue) → IsBlocked t → IsCoupling t.legs cs → All (IsBlock t.group (left_legs t.legs cs) t.flux) bs → AreAscending bs →
    IsBlocked (record { group = t.group; legs = left_legs t.legs cs; flux = t.flux; blocks = bs })
left_blocked t cs bs h good blocks rises = record {
  group = h.group;
  sound = left_all IsSound t.legs cs h.sound;
  charges = left_all (IsLegOf t.group) t.legs cs h.charges;
  flux = h.flux;
  shape = trace_within t.group t.legs t.flux cs h.group h.sound good h.shape;
  blocks = blocks;
  ascending = rises;
}

result_at : (t : BlockedValue) (cs : List (ℕ × ℕ)) (bs : List BlockValue) → IsBlocked t → IsCoupling t.legs cs → All (IsBlock t.group (left_legs t.legs cs) t.flux) bs → AreAscending bs →
    ((xs : List ℕ) → MeetFlux t.group (left_legs t.legs cs) t.flux xs → trace_entry (tensor_of t) cs xs ≡ entry_in (left_legs t.legs cs) bs xs) →
    Traced (tensor_of t) cs (tensor_of (record { group = t.group; legs = left_legs t.legs cs; flux = t.flux; blocks = bs }))
result_at t cs bs h good blocks rises entries =
    traced_is t (record { group = t.group; legs = left_legs t.legs cs; flux = t.flux; blocks = bs }) cs h (left_blocked t cs bs h good blocks rises)
    good refl refl refl entries

-- a tensor of the right blocks is the trace
pub result_is : (t : BlockedValue) (cs : List (ℕ × ℕ)) (ls : List LegValue) (bs : List BlockValue) (r : BlockedValue) → IsBlocked t → IsCoupling t.legs cs → ls ≡ left_legs t.legs cs →
    All (IsBlock t.group ls t.flux) bs → AreAscending bs → ((xs : List ℕ) → MeetFlux t.group ls t.flux xs → trace_entry (tensor_of t) cs xs ≡ entry_in ls bs xs) →
    r ≡ record { group = t.group; legs = ls; flux = t.flux; blocks = bs } → Traced (tensor_of t) cs (tensor_of r)
result_is t cs ls bs r h good e blocks rises entries is =
    subst (λ (u : BlockedValue). Traced (tensor_of t) cs (tensor_of u)) (sym is)
    (subst (λ (ks : List LegValue). All (IsBlock t.group ks t.flux) bs → ((xs : List ℕ) → MeetFlux t.group ks t.flux xs → trace_entry (tensor_of t) cs xs ≡ entry_in ks bs xs) →
    Traced (tensor_of t) cs (tensor_of (record { group = t.group; legs = ks; flux = t.flux; blocks = bs }))) (sym e) (λ b f. result_at t cs bs h good b rises f) blocks entries)

-- what a tensor of these parts wants
pub made_at : (t : BlockedValue) (cs : List (ℕ × ℕ)) (fs : List Factor) (ls : List LegValue) (q : List ℤ) (ks : List LegValue) (bs : List BlockValue) → IsBlocked t → IsCoupling t.legs cs → fs ≡ t.group → ls ≡ left_legs t.legs cs → q ≡ t.flux → ks ≡ ls →
    All (IsBlock t.group ks t.flux) bs → AreAscending bs → IsBlocked (record { group = fs; legs = ls; flux = q; blocks = bs })
made_at t cs fs ls q ks bs h good a b d e blocks rises =
    let same : All (IsBlock t.group (left_legs t.legs cs) t.flux) bs = subst (λ (ms : List LegValue). All (IsBlock t.group ms t.flux) bs) (e ∙ b) blocks in
    subst (λ (r : BlockedValue). IsBlocked r) (λ i. record { group = sym a i; legs = sym b i; flux = sym d i; blocks = bs }) (left_blocked t cs bs h good same rises)
