-- The entries of a tensor held in blocks.
use Rattle.std.proofs.Common.{Contains, ◌≡◌, ◌≢◌, ℕ, ◌≤◌, ◌<◌, List, length, get_or, arith, ap, ◌∙◌, sym, subst}
use Rattle.std.proofs.lemmas.List.{get_or_default}
use Rattle.qn_gauss.specs.Gaussian.{zero_g}
use Rattle.qn_index.specs.Legs.{LegValue}
use Rattle.qn_index.specs.Tuples.{IsTuple, net}
use Rattle.qn_index.specs.Places.{IsValues, IsInner, sectors_at, offset_at, offset_of, block_size}
use Rattle.qn_index.proofs.Places.{forth}
use Rattle.qn_value.specs.Tensors.{BlockValue, no_block, entry_of, entry_in, rows_of, IsBlock, IsTensor}
use Rattle.qn_block.specs.Blocked.{BlockedValue, IsBlocked, tensor_of, offsets_at}
use Rattle.qn_block.specs.Refusals.{block_at}
use Rattle.qn_value.proofs.BlockRows.{block_rows, block_tensor}
use Rattle.qn_block.proofs.Rows.{entry_out}
use Rattle.qn_block.proofs.Lookup.{entry_found, entry_nowhere, offset_same, values_length}

-- the entry at values, by the blocks
pub by_blocks : (t : BlockedValue) (xs : List ℕ) → IsBlocked t → IsValues t.legs xs → entry_of (tensor_of t) xs ≡ entry_in t.legs t.blocks xs
by_blocks t xs h v = block_rows t.group t.legs t.flux t.blocks h.blocks xs (values_length t.legs xs v)

-- at values whose block is there
pub record IsEntryOf (t : BlockedValue) (xs : List ℕ) (b : BlockValue) : Type 0 where
  pub tuple : IsTuple t.legs (sectors_at t.legs xs)
  pub small : block_size t.legs (sectors_at t.legs xs) ≤ 4194304
  pub below : offset_at t.legs xs < length b.entries
  pub entry : entry_of (tensor_of t) xs ≡ get_or b.entries (offset_at t.legs xs) zero_g

pub entry_of_block : (t : BlockedValue) (xs : List ℕ) (b : BlockValue) → IsBlocked t → IsValues t.legs xs → Contains t.blocks b → b.tuple ≡ sectors_at t.legs xs → IsEntryOf t xs b
entry_of_block t xs b h v c e =
    let i = c.0 in
    let there : block_at t.blocks i ≡ b = get_or_default t.blocks i no_block b c.1 ∙ c.2 in
    let block : IsBlock t.group t.legs t.flux b = subst (IsBlock t.group t.legs t.flux) there (h.blocks i no_block c.1) in
    let w = forth t.legs xs v in
    let size : block_size t.legs b.tuple ≡ block_size t.legs (sectors_at t.legs xs) = ap (block_size t.legs) e in
    record {
      tuple = w.tuple;
      small = omega (arith, block.small, size);
      below = omega (arith, w.below, size, block.full);
      entry = by_blocks t xs h v ∙ (entry_found t.legs t.blocks xs i h.ascending c.1 (ap (λ (k : BlockValue). k.tuple) there ∙ e) ∙ ap (λ (k : BlockValue). get_or k.entries (offset_at t.legs xs) zero_g) there);
    }

-- at values whose block is not there
pub entry_of_none : (t : BlockedValue) (xs : List ℕ) → IsBlocked t → IsValues t.legs xs → ((j : ℕ) → j < length t.blocks → (block_at t.blocks j).tuple ≢ sectors_at t.legs xs) → entry_of (tensor_of t) xs ≡ zero_g
entry_of_none t xs h v n = by_blocks t xs h v ∙ entry_nowhere t.legs t.blocks xs n

pub entry_out_of_range : (t : BlockedValue) (xs : List ℕ) → IsBlocked t → (IsValues t.legs xs → ⊥) → entry_of (tensor_of t) xs ≡ zero_g
entry_out_of_range t xs h n = entry_out t.group t.legs t.flux (rows_of t.legs t.blocks) xs (block_tensor t.group t.legs t.flux t.blocks h.blocks h.ascending).0 n

pub entry_off_flux : (t : BlockedValue) (xs : List ℕ) → IsBlocked t → IsValues t.legs xs → net t.group t.legs (sectors_at t.legs xs) ≢ t.flux → entry_of (tensor_of t) xs ≡ zero_g
entry_off_flux t xs h v n = entry_of_none t xs h v (λ j lt e. n (ap (net t.group t.legs) (sym e) ∙ (h.blocks j no_block lt).flux))

-- how the entry is read: by the legs, the sectors and the offsets that were found
pub record IsReading (t : BlockedValue) (xs : List ℕ) (b : BlockValue) (ls : List LegValue) (sectors offsets : List ℕ) : Type 0 where
  pub tuple : IsTuple ls sectors
  pub inner : IsInner ls sectors offsets
  pub small : block_size ls sectors ≤ 4194304
  pub offset : offset_of ls sectors offsets ≡ offset_at t.legs xs
  pub entry : IsEntryOf t xs b

pub reading : (t : BlockedValue) (xs : List ℕ) (b : BlockValue) (ls : List LegValue) (sectors offsets : List ℕ) → IsBlocked t → IsValues t.legs xs → ls ≡ t.legs → sectors ≡ sectors_at ls xs → offsets ≡ offsets_at ls xs → Contains t.blocks b → b.tuple ≡ sectors → IsReading t xs b ls sectors offsets
reading t xs b ls sectors offsets h v l s o c e =
    let entry = entry_of_block t xs b h v c (e ∙ (s ∙ ap (λ ks. sectors_at ks xs) l)) in
    let inner = offset_same t.legs xs v in
    let at : IsReading t xs b t.legs (sectors_at t.legs xs) (offsets_at t.legs xs) =
    record { tuple = entry.tuple; inner = inner.0; small = entry.small; offset = inner.1; entry = entry } in
    let at_legs : IsReading t xs b ls (sectors_at ls xs) (offsets_at ls xs) = subst (λ ks. IsReading t xs b ks (sectors_at ks xs) (offsets_at ks xs)) (sym l) at in
    subst (λ us. IsReading t xs b ls us offsets) (sym s) (subst (λ us. IsReading t xs b ls (sectors_at ls xs) us) (sym o) at_legs)

pub is_tensor : (t : BlockedValue) → IsBlocked t → IsTensor (tensor_of t)
is_tensor t h =
    let rows = block_tensor t.group t.legs t.flux t.blocks h.blocks h.ascending in
    record { group = h.group; legs = h.sound; charges = h.charges; flux = h.flux.canonical; rows = rows.0; distinct = rows.1 }
