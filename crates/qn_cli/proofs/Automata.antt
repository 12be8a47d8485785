-- The text of the automaton of an operator sum is that of the chain that was built.
use Rattle.std.proofs.Common.{◌≡◌, ◌<◌, ℕ, ℤ, List, length, filter, refl, sym, ◌∙◌, ap, subst}
use Rattle.std.specs.List.{All}
use Rattle.std.proofs.lemmas.List.Elements.{All-get_or, All-from_get_or, filter_passes}
use Rattle.std.proofs.lemmas.List.FromFn.{fill_by_all}
use Rattle.qn_gauss.specs.Gaussian.{Gaussian}
use Rattle.qn_charge.specs.declared.factor.Factor.{Factor}
use Rattle.qn_index.specs.Legs.{LegValue}
use Rattle.qn_index.specs.Places.{IsValues}
use Rattle.qn_index.specs.Tuples.{admitted}
use Rattle.qn_value.specs.Tensors.{BlockValue, entry_of}
use Rattle.qn_value.specs.Magnitudes.{all_blocks}
use Rattle.qn_block.specs.Blocked.{BlockedValue, IsBlocked, tensor_of, is_filled}
use Rattle.qn_block.proofs.Ascending.{filtered_is, filtered_entry}
use Rattle.qn_block.proofs.Canonical.{blocks_by_entries}
use Rattle.qn_opsum.specs.Sums.{SumValue}
use Rattle.qn_auto.specs.SumAutomaton.{IsTensorAt, legs_at, flux_at, entry_at_site}
use Rattle.qn_braket.specs.Chains.{tensor_at, no_tensor}
use Rattle.qn_mps.specs.Chains.{ChainValue, IsHeld, IsTensorOf}
use Rattle.qn_mpo.specs.Builds.{IsBuilt}
use Rattle.qn_cli.specs.Operators.{site_tensor, automaton}

abbrev filled : BlockedValue → BlockedValue
filled t = record { group = t.group; legs = t.legs; flux = t.flux; blocks = filter is_filled t.blocks }

-- the blocks that are not all zeros are told by the entries
pub told : (t : BlockedValue) (entry : List ℕ → Gaussian) → IsBlocked t → ((xs : List ℕ) → IsValues t.legs xs → entry_of (tensor_of t) xs ≡ entry xs)
    → filter is_filled t.blocks ≡ filter is_filled (all_blocks entry t.legs (admitted t.group t.legs t.flux))
told t entry h same =
    blocks_by_entries (filled t) entry (filtered_is t h) (filter_passes is_filled t.blocks) (λ xs is. filtered_entry t (filled t) xs h refl ∙ same xs is)

abbrev blocks_of : (List ℕ → Gaussian) → List Factor → List LegValue → List ℤ → List BlockValue
blocks_of entry fs ls q = filter is_filled (all_blocks entry ls (admitted fs ls q))

fields : (t : BlockedValue) (fs : List Factor) (ls : List LegValue) (q : List ℤ) (bs : List BlockValue) → t.group ≡ fs → t.legs ≡ ls → t.flux ≡ q → t.blocks ≡ bs
    → t ≡ record { group = fs; legs = ls; flux = q; blocks = bs }
fields t fs ls q bs a b c d =
    ap (λ g. record { group = g; legs = t.legs; flux = t.flux; blocks = t.blocks }) a
    ∙ (ap (λ l. record { group = fs; legs = l; flux = t.flux; blocks = t.blocks }) b
    ∙ (ap (λ f. record { group = fs; legs = ls; flux = f; blocks = t.blocks }) c
    ∙ ap (λ k. record { group = fs; legs = ls; flux = q; blocks = k }) d))

-- a tensor of the automaton is the one with its legs, its flux and its entries
site_is : (v : SumValue) (j : ℕ) (t : BlockedValue) → IsBlocked t → IsTensorAt v j t → t ≡ site_tensor v j
site_is v j t h a =
    let entries : (xs : List ℕ) → IsValues t.legs xs → entry_of (tensor_of t) xs ≡ entry_at_site v j xs = λ xs is. a.entries xs (subst (λ ls. IsValues ls xs) a.shape.legs is) in
    let blocks = sym a.canonical ∙ told t (entry_at_site v j) h entries in
    let group = ap (λ fs. blocks_of (entry_at_site v j) fs t.legs t.flux) a.shape.group in
    let legs = ap (λ ls. blocks_of (entry_at_site v j) v.group ls t.flux) a.shape.legs in
    let flux = ap (λ q. blocks_of (entry_at_site v j) v.group (legs_at v j) q) a.shape.flux in
    fields t v.group (legs_at v j) (flux_at v j) (site_tensor v j).blocks a.shape.group a.shape.legs a.shape.flux (blocks ∙ (group ∙ (legs ∙ flux)))

-- the chain that was built has the tensors of the automaton
pub tensors_are : (v : SumValue) (c : ChainValue) → IsHeld c → IsBuilt v c → c.tensors ≡ automaton v
tensors_are v c h b = fill_by_all (site_tensor v) c.tensors (length v.sites) no_tensor b.tensors.count each
  where
    each : (k : ℕ) → k < length v.sites → tensor_at c.tensors k ≡ site_tensor v k
    each k lt =
        let within : k < length c.tensors = subst (λ n. k < n) (sym b.tensors.count) lt in
        let held : IsTensorOf c.group (tensor_at c.tensors k) = All-get_or (IsTensorOf c.group) c.tensors k no_tensor within h.tensors in
        site_is v k (tensor_at c.tensors k) held.blocked (b.tensors.tensors k lt)

all_blocked : (fs : List Factor) (ts : List BlockedValue) → All (IsTensorOf fs) ts → All IsBlocked ts
all_blocked fs ts h = All-from_get_or IsBlocked ts no_tensor (λ i lt. (All-get_or (IsTensorOf fs) ts i no_tensor lt h).blocked)

pub chain_blocked : (c : ChainValue) → IsHeld c → All IsBlocked c.tensors
chain_blocked c h = all_blocked c.group c.tensors h.tensors
