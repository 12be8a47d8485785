-- A tensor whose entries are known, without its blocks of zeros.
use Rattle.std.proofs.Common.{◌≡◌, ℕ, Bool, true, false, cond, List, [], ◌∷◌, refl, sym, ◌∙◌, ap, subst, filter}
use Rattle.std.specs.List.{All}
use Rattle.qn_gauss.specs.Gaussian.{Gaussian}
use Rattle.qn_index.specs.Tuples.{admitted}
use Rattle.qn_index.specs.Places.{IsValues}
use Rattle.qn_value.specs.Tensors.{BlockValue, entry_of}
use Rattle.qn_value.specs.Magnitudes.{all_blocks}
use Rattle.qn_value.proofs.BlockRows.{all-nil, all-cons}
use Rattle.qn_block.specs.Blocked.{BlockedValue, IsBlocked, is_filled, tensor_of}

-- the tensor of the shape of t with these entries, without blocks of zeros
abbrev pub with_entries : BlockedValue → (List ℕ → Gaussian) → BlockedValue
with_entries t entry = record {
  group = t.group;
  legs = t.legs;
  flux = t.flux;
  blocks = filter is_filled (all_blocks entry t.legs (admitted t.group t.legs t.flux));
}

kept_blocks : (bs : List BlockValue) → All (λ b. is_filled b ≡ true) (filter is_filled bs)
kept_blocks [] = all-nil (λ b. is_filled b ≡ true)
kept_blocks (b ∷ bs) = go (is_filled b) refl (kept_blocks bs)
  where
    go : (t : Bool) → is_filled b ≡ t → All (λ c. is_filled c ≡ true) (filter is_filled bs) → All (λ c. is_filled c ≡ true) (cond t (b ∷ filter is_filled bs) (filter is_filled bs))
    go true e h = all-cons (λ c. is_filled c ≡ true) b (filter is_filled bs) e h
    go false e h = h

-- a tensor without blocks of zeros is told by its entries
abbrev pub BlocksLaw : Type 0
BlocksLaw =
    (t : BlockedValue) (entry : List ℕ → Gaussian) → IsBlocked t → All (λ b. is_filled b ≡ true) t.blocks →
    ((xs : List ℕ) → IsValues t.legs xs → entry_of (tensor_of t) xs ≡ entry xs) → t.blocks ≡ filter is_filled (all_blocks entry t.legs (admitted t.group t.legs t.flux))

pub filled_blocks : (t s : BlockedValue) → BlocksLaw → IsBlocked s →
    s ≡ record { group = t.group; legs = t.legs; flux = t.flux; blocks = filter is_filled t.blocks } →
    ((xs : List ℕ) → entry_of (tensor_of s) xs ≡ entry_of (tensor_of t) xs) →
    (entry : List ℕ → Gaussian) → ((xs : List ℕ) → IsValues t.legs xs → entry_of (tensor_of t) xs ≡ entry xs) → s ≡ with_entries t entry
filled_blocks t s law h is same entry e =
    let group : s.group ≡ t.group = ap (λ (x : BlockedValue). x.group) is in
    let legs : s.legs ≡ t.legs = ap (λ (x : BlockedValue). x.legs) is in
    let flux : s.flux ≡ t.flux = ap (λ (x : BlockedValue). x.flux) is in
    let filled : All (λ b. is_filled b ≡ true) s.blocks =
    subst (All (λ (b : BlockValue). is_filled b ≡ true)) (sym (ap (λ (x : BlockedValue). x.blocks) is)) (kept_blocks t.blocks) in
    let blocks : s.blocks ≡ filter is_filled (all_blocks entry t.legs (admitted t.group t.legs t.flux)) =
    law s entry h filled (λ xs v. same xs ∙ e xs (subst (λ ls. IsValues ls xs) legs v))
    ∙ (λ i. filter is_filled (all_blocks entry (legs i) (admitted (group i) (legs i) (flux i)))) in
    λ i. record { group = group i; legs = legs i; flux = flux i; blocks = blocks i }
