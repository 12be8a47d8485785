-- A replacement in the terms of the program: what holds once a tensor is put, and once the earlier one is put again.
use Rattle.std.proofs.Common.{◌≡◌, ◌≤◌, ◌<◌, ◌-◌, ℕ, length, sym, ◌∙◌, ap, subst, arith}
use Rattle.qn_block.specs.Blocked.{BlockedValue}
use Rattle.qn_mps.specs.declared.chain.Who.{Who}
use Rattle.qn_mps.specs.Chains.{IsHeld}
use Rattle.qn_corr.specs.declared.fault.PutFault.{PutFault}
use Rattle.qn_corr.specs.declared.fault.PutFault.TheVariants as Put
use Rattle.qn_corr.specs.Correlators.{CorrValue, AreMatched, IsChanged, IsPutFault, IsPassingFault, tensor_on, with_site}
use Rattle.qn_corr.proofs.Changes.{count_with, here_with, back_with, group_with, group_here, changed_with}

pub put_fault : (c : CorrValue) (who : Who) (j : ℕ) (t : BlockedValue) (s : CorrValue) (e : PutFault) → s ≡ with_site c who j t →
    t.legs ≡ (tensor_on c who j).legs → t.flux ≡ (tensor_on c who j).flux → IsPassingFault s e → IsPutFault c who j t e
put_fault c who j t s Put.Legs p l f h = absurd h
put_fault c who j t s Put.Flux p l f h = absurd h
put_fault c who j t s (Put.Passed step at offset) p l f h = (l, f, subst (λ (d : CorrValue). IsPassingFault d (Put.Passed step at offset)) p h)
put_fault c who j t s Put.Memory p l f h = tt

module _ (c : CorrValue) (m : AreMatched c.bra c.op c.ket) (hb : IsHeld c.bra) (ho : IsHeld c.op) (hk : IsHeld c.ket) (who : Who) (site : ℕ) (low : 1 ≤ site) (high : site ≤ length c.bra.tensors) (t : BlockedValue) where
  lt : site - 1 < length c.bra.tensors
  lt = omega (arith, low, high)

  module _ (s : CorrValue) (put : s ≡ with_site c who (site - 1) t) where
    many : length s.bra.tensors ≡ length c.bra.tensors
    many = ap (λ (d : CorrValue). length d.bra.tensors) put ∙ count_with c m hb ho hk (site - 1) t lt who

    pub place_in : site - 1 < length s.bra.tensors
    place_in = omega (arith, many, low, high)

    pub high_in : site ≤ length s.bra.tensors
    high_in = omega (arith, many, high)

    pub changed_in : t.group ≡ c.bra.group → t.legs ≡ (tensor_on c who (site - 1)).legs → t.flux ≡ (tensor_on c who (site - 1)).flux → IsChanged (site - 1) c s
    changed_in g l f = subst (IsChanged (site - 1) c) (sym put) (changed_with c m hb ho hk (site - 1) t lt who g l f)

    here_in : tensor_on s who (site - 1) ≡ t
    here_in = ap (λ (d : CorrValue). tensor_on d who (site - 1)) put ∙ here_with c m hb ho hk (site - 1) t lt who

    module _ (e : BlockedValue) (was : e ≡ tensor_on c who (site - 1)) where
      pub group_in : e.group ≡ s.bra.group
      group_in =
          ap (λ (x : BlockedValue). x.group) was ∙ group_here c m hb ho hk (site - 1) t lt who
          ∙ sym (ap (λ (d : CorrValue). d.bra.group) put ∙ group_with c m hb ho hk (site - 1) t lt who)

      pub legs_in : t.legs ≡ (tensor_on c who (site - 1)).legs → e.legs ≡ (tensor_on s who (site - 1)).legs
      legs_in l = ap (λ (x : BlockedValue). x.legs) was ∙ sym l ∙ sym (ap (λ (x : BlockedValue). x.legs) here_in)

      pub flux_in : t.flux ≡ (tensor_on c who (site - 1)).flux → e.flux ≡ (tensor_on s who (site - 1)).flux
      flux_in f = ap (λ (x : BlockedValue). x.flux) was ∙ sym f ∙ sym (ap (λ (x : BlockedValue). x.flux) here_in)

      pub back_in : (z : CorrValue) → z ≡ with_site s who (site - 1) e → z ≡ c
      back_in z p =
          p ∙ ap (λ (d : CorrValue). with_site d who (site - 1) e) put ∙ ap (with_site (with_site c who (site - 1) t) who (site - 1)) was
          ∙ back_with c m hb ho hk (site - 1) t lt who
