-- Chains with another tensor on a site.
use Rattle.std.proofs.Common.{◌≡◌, ◌<◌, ℕ, List, length, refl, sym, ◌∙◌, ap, arith}
use Rattle.std.specs.Prelude.{slice_set}
use Rattle.std.proofs.lemmas.List.{length-set, set-set, set-get_or}
use Rattle.qn_block.specs.Blocked.{BlockedValue}
use Rattle.qn_braket.specs.Chains.{no_tensor, tensor_at}
use Rattle.qn_mps.specs.declared.chain.Who.{Who}
use Rattle.qn_mps.specs.declared.chain.Who.TheVariants.{Bra, Ket}
use Rattle.qn_mps.specs.Chains.{ChainValue, IsHeld, with_tensor}
use Rattle.qn_mps.proofs.Putting.{put_here, put_there, put_stay}
use Rattle.qn_sweep.specs.Putting.{IsPut}
use Rattle.qn_corr.specs.Correlators.{CorrValue, AreMatched, IsChanged, chain_of, tensor_on, with_site}
use Rattle.qn_corr.proofs.Starting.{kets_long}

none_put : (ts : List BlockedValue) (j : ℕ) → IsPut j ts ts
none_put ts j = record { count = refl; group = λ i. refl; legs = λ i. refl; flux = λ i. refl; others = λ i n. refl }

one_put : (ts : List BlockedValue) (j : ℕ) (t : BlockedValue) → j < length ts → t.group ≡ (tensor_at ts j).group → t.legs ≡ (tensor_at ts j).legs → t.flux ≡ (tensor_at ts j).flux → IsPut j ts (slice_set ts j t)
one_put ts j t lt g l f = record {
  count = length-set ts j t;
  group = λ i. sym (put_stay ts j t lt (λ (x : BlockedValue). x.group) g i);
  legs = λ i. sym (put_stay ts j t lt (λ (x : BlockedValue). x.legs) l i);
  flux = λ i. sym (put_stay ts j t lt (λ (x : BlockedValue). x.flux) f i);
  others = λ i n. sym (put_there ts j t lt i n);
}

group_at : (c : ChainValue) (j : ℕ) → IsHeld c → j < length c.tensors → (tensor_at c.tensors j).group ≡ c.group
group_at c j h lt = (h.tensors j no_tensor lt).group

-- with the earlier tensor again the chain is as before
restored : (c : ChainValue) (j : ℕ) (t : BlockedValue) → with_tensor (with_tensor c j t) j (tensor_at c.tensors j) ≡ c
restored c j t = ap (λ (ts : List BlockedValue). record { group = c.group; kind = c.kind; sites = c.sites; tensors = ts }) (set-set c.tensors j t (tensor_at c.tensors j) ∙ set-get_or c.tensors j no_tensor)

module _ (c : CorrValue) (m : AreMatched c.bra c.op c.ket) (hb : IsHeld c.bra) (ho : IsHeld c.op) (hk : IsHeld c.ket) (j : ℕ) (t : BlockedValue) (lt : j < length c.bra.tensors) where
  within_on : (who : Who) → j < length (chain_of c who).tensors
  within_on Bra = lt
  within_on Ket = let e = kets_long c m hb ho hk in omega (arith, e, lt)

  pub count_with : (who : Who) → length (with_site c who j t).bra.tensors ≡ length c.bra.tensors
  count_with Bra = length-set c.bra.tensors j t
  count_with Ket = refl

  pub here_with : (who : Who) → tensor_on (with_site c who j t) who j ≡ t
  here_with Bra = put_here c.bra.tensors j t lt
  here_with Ket = put_here c.ket.tensors j t (within_on Ket)

  pub back_with : (who : Who) → with_site (with_site c who j t) who j (tensor_on c who j) ≡ c
  back_with Bra = ap (λ (b : ChainValue). record { bra = b; op = c.op; ket = c.ket }) (restored c.bra j t)
  back_with Ket = ap (λ (k : ChainValue). record { bra = c.bra; op = c.op; ket = k }) (restored c.ket j t)

  pub group_with : (who : Who) → (with_site c who j t).bra.group ≡ c.bra.group
  group_with Bra = refl
  group_with Ket = refl

  pub group_here : (who : Who) → (tensor_on c who j).group ≡ c.bra.group
  group_here Bra = group_at c.bra j hb lt
  group_here Ket = group_at c.ket j hk (within_on Ket) ∙ m.groups.1

  pub changed_with : (who : Who) → t.group ≡ c.bra.group → t.legs ≡ (tensor_on c who j).legs → t.flux ≡ (tensor_on c who j).flux → IsChanged j c (with_site c who j t)
  changed_with Bra g l f = record {
    group = refl;
    op = refl;
    bra = one_put c.bra.tensors j t lt (g ∙ sym (group_here Bra)) l f;
    ket = none_put c.ket.tensors j;
  }
  changed_with Ket g l f = record {
    group = refl;
    op = refl;
    bra = none_put c.bra.tensors j;
    ket = one_put c.ket.tensors j t (within_on Ket) (g ∙ sym (group_here Ket)) l f;
  }
