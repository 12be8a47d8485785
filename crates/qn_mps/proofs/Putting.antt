-- A chain with another tensor on a site, which has the same legs and the same flux, is a chain.
use Rattle.std.proofs.Common.{◌≡◌, ◌≢◌, ◌≤◌, ◌<◌, ◌-◌, ◌^◌, ℕ, suc, ◌⊎◌, inl, inr, List, length, sym, ◌∙◌, ap, subst, arith}
use Rattle.std.specs.Prelude.{None, slice_set}
use Rattle.std.proofs.lemmas.Bool.{cases_eq}
use Rattle.std.proofs.lemmas.List.{get_or-set_same, get_or-set_other, length-set}
use Rattle.std.proofs.lemmas.List.Elements.{All-set}
use Rattle.qn_charge.specs.Charges.{IsWithin}
use Rattle.qn_index.specs.Legs.{LegValue, Meets}
use Rattle.qn_block.specs.Blocked.{BlockedValue, IsBlocked}
use Rattle.qn_braket.specs.Chains.{leg_at, no_tensor, tensor_at, AreLegsOf, IsChain}
use Rattle.qn_mps.specs.Chains.{ChainValue, IsTensorOf, IsHeld, with_tensor, legs_of}

module _ (ts : List BlockedValue) (j : ℕ) (t : BlockedValue) (lt : j < length ts) where
  pub put_here : tensor_at (slice_set ts j t) j ≡ t
  put_here = get_or-set_same ts j t no_tensor lt

  pub put_there : (i : ℕ) → i ≢ j → tensor_at (slice_set ts j t) i ≡ tensor_at ts i
  put_there i n = get_or-set_other ts j i t no_tensor n

  -- what is the same of the new tensor and the old one is the same on each site
  pub put_stay : {X : Type 0} (f : BlockedValue → X) → f t ≡ f (tensor_at ts j) → (i : ℕ) → f (tensor_at (slice_set ts j t) i) ≡ f (tensor_at ts i)
  put_stay f e i = go (cases_eq i j)
    where
      go : (i ≡ j) ⊎ (i ≢ j) → f (tensor_at (slice_set ts j t) i) ≡ f (tensor_at ts i)
      go (inl q) = ap (λ k. f (tensor_at (slice_set ts j t) k)) q ∙ ap f put_here ∙ e ∙ ap (λ k. f (tensor_at ts k)) (sym q)
      go (inr n) = ap f (put_there i n)

  put_chain : (legs : LegValue → List LegValue) (sites : List LegValue) → IsChain legs sites ts → t.legs ≡ (tensor_at ts j).legs → IsChain legs sites (slice_set ts j t)
  put_chain legs sites c e =
      let long : length (slice_set ts j t) ≡ length ts = length-set ts j t in
      let put_legs = put_stay (λ (x : BlockedValue). x.legs) e in
      record {
        some = c.some;
        outward = c.outward;
        count = long ∙ c.count;
        shapes = λ i h.
            subst (λ ls. AreLegsOf (legs (leg_at sites i)) (length (slice_set ts j t)) i ls) (sym (put_legs i))
            (subst (λ n. AreLegsOf (legs (leg_at sites i)) n i (tensor_at ts i).legs) (sym long) (c.shapes i (subst (λ n. i < n) long h)));
        links = λ i h.
            subst (λ ls. Meets (leg_at ls (length ls - 1)) (leg_at (tensor_at (slice_set ts j t) (suc i)).legs 0) None) (sym (put_legs i))
            (subst (λ ls. Meets (leg_at (tensor_at ts i).legs (length (tensor_at ts i).legs - 1)) (leg_at ls 0) None) (sym (put_legs (suc i)))
            (c.links i (subst (λ n. suc i < n) long h)));
      }

pub put_held : (c : ChainValue) (j : ℕ) (t : BlockedValue) → j < length c.tensors → IsHeld c → IsBlocked t → t.group ≡ c.group → t.legs ≡ (tensor_at c.tensors j).legs → t.flux ≡ (tensor_at c.tensors j).flux →
    IsHeld (with_tensor c j t)
put_held c j t lt h b g l f = record {
  group = h.group;
  few = h.few;
  tensors = All-set (IsTensorOf c.group) c.tensors j t (record { blocked = b; group = g; flux = subst (IsWithin (2 ^ 41) c.group) (sym f) (h.tensors j no_tensor lt).flux }) h.tensors;
  chain = put_chain c.tensors j t lt (legs_of c.kind) c.sites h.chain l;
}

-- in the terms of a program: what is known of the chain before
pub put_inside : (now c : ChainValue) → now ≡ c → (site : ℕ) → 1 ≤ site → site ≤ length now.tensors → (t : BlockedValue) → IsHeld c → IsBlocked t → t.group ≡ now.group →
    t.legs ≡ (tensor_at now.tensors (site - 1)).legs → t.flux ≡ (tensor_at now.tensors (site - 1)).flux → IsHeld (with_tensor c (site - 1) t)
put_inside now c e site some few t h b g l f =
    put_held c (site - 1) t (let k = ap (λ (x : ChainValue). length x.tensors) e in omega (arith, some, few, k)) h b (g ∙ ap (λ (x : ChainValue). x.group) e)
    (l ∙ ap (λ (x : ChainValue). (tensor_at x.tensors (site - 1)).legs) e) (f ∙ ap (λ (x : ChainValue). (tensor_at x.tensors (site - 1)).flux) e)
