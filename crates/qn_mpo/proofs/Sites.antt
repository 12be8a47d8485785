-- The tensors of a build, site by site.
use Rattle.std.proofs.Common.{◌≡◌, ℕ, ◌+◌, ◌<◌, ◌≤◌, List, [], ◌∷◌, ◌++◌, length, sym, ◌∙◌, ap, subst, arith}
use Rattle.std.proofs.lemmas.List.{length_push}
use Rattle.qn_block.specs.Blocked.{BlockedValue}
use Rattle.qn_charge.specs.Firsts.{HasNone}
use Rattle.qn_opsum.specs.Sums.{SumValue}
use Rattle.qn_auto.specs.SumAutomaton.{IsAutomatonOf, IsTensorAt, PassesAt, no_tensor, tensor_at}
use Rattle.qn_mpo.proofs.Frames.{push_at}
use Rattle.qn_facts.proofs.Numbers.{one_more}

-- the tensors of the first n sites, none of which passes
pub record AreBuilt (v : SumValue) (n : ℕ) (ts : List BlockedValue) : Type 0 where
  pub count : length ts ≡ n
  pub tensors : (j : ℕ) → j < n → IsTensorAt v j (tensor_at ts j)
  pub clear : (j : ℕ) → j < n → PassesAt v j → ⊥

pub built_more : (v : SumValue) (n : ℕ) (ts new : List BlockedValue) (t : BlockedValue) → AreBuilt v n ts → IsTensorAt v n t → (PassesAt v n → ⊥) → new ≡ ts ++ (t ∷ []) → AreBuilt v (n + 1) new
built_more v n ts new t h is clear p =
    subst (AreBuilt v (n + 1)) (sym p) (record {
      count = length_push ts t ∙ ap (λ k. k + 1) h.count;
      tensors = λ j lt. push_at (IsTensorAt v) ts t no_tensor n h.count h.tensors is j lt;
      clear = one_more (λ j. PassesAt v j → ⊥) n h.clear clear;
    })

pub built_all : (v : SumValue) (n : ℕ) (ts : List BlockedValue) → length v.sites ≤ n → n ≤ length v.sites → AreBuilt v n ts → IsAutomatonOf v ts
built_all v n ts le ge h = record { count = h.count ∙ same n (length v.sites) ge le; tensors = λ j lt. h.tensors j (less j (length v.sites) n lt le) }
  where
    same : (a b : ℕ) → a ≤ b → b ≤ a → a ≡ b
    same a b h k = omega arith

    less : (j a b : ℕ) → j < a → a ≤ b → j < b
    less j a b h k = omega arith

pub clear_all : (v : SumValue) (n : ℕ) (ts : List BlockedValue) → length v.sites ≤ n → AreBuilt v n ts → HasNone (PassesAt v)
clear_all v n ts le h j p = h.clear j (less j (length v.sites) n p.0 le) p
  where
    less : (j a b : ℕ) → j < a → a ≤ b → j < b
    less j a b h k = omega arith
