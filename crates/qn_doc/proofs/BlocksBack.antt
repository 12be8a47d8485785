-- Blocks that are written are read again, and have no fault.
use Rattle.std.proofs.Common.{◌≡◌, ℕ, ◌+◌, ◌≤◌, ◌<◌, ℤ, unsigned_abs, List, [], ◌∷◌, map, true, false, ◌&&◌, Some, None, refl, ap, ap₂, ◌∙◌, arith}
use Rattle.std.specs.Prelude.{is_none, unwrap_or}
use Rattle.std.specs.Fmt.{signed_decimal}
use Rattle.std.specs.List.{All, list_all}
use Rattle.std.proofs.lemmas.Bool.{le-ltb}
use Rattle.std.proofs.lemmas.List.Elements.{All-nil, All-cons, All-head, All-tail, All-weaker}
use Rattle.qn_gauss.specs.Gaussian.{Gaussian, mag, limit, zero_g}
use Rattle.qn_charge.specs.declared.factor.Factor.{Factor}
use Rattle.qn_index.specs.Legs.{LegValue, IsSound}
use Rattle.qn_index.specs.Tuples.{IsTuple}
use Rattle.qn_value.specs.Tensors.{BlockValue, IsBlock}
use Rattle.qn_parts.specs.Faults.{fault, first_of, first_bad}
use Rattle.qn_json.specs.Forms.{is_whole, are_numbers}
use Rattle.qn_parts.specs.Sectors.{number_of}
use Rattle.qn_json.specs.Entries.{is_entry, entry_of, gauss_of, are_entries}
use Rattle.qn_parts.specs.Tensors.{is_block, are_blocks, sector_number, tuple_of, entry_or_zero, block_of, entry_fault}
use Rattle.qn_json.specs.Texts.{entry_data, list_data, count_data}
use Rattle.qn_parts.specs.TensorTexts.{block_data}
use Rattle.qn_json.proofs.Decimals.{decimal_found}
use Rattle.qn_doc.specs.TensorsReadBack.{HasGaussians}
use Rattle.qn_doc.proofs.Written.{listed_items, items_back, all_back, map_back, first_bad_none, first_from_none}
use Rattle.qn_doc.proofs.NumbersBack.{count_number, is_count_back}

abbrev pub IsGaussian : Gaussian → Type 0
IsGaussian z = mag z ≤ limit

entry_back : (z : Gaussian) → IsGaussian z → entry_of (entry_data z) ≡ Some z
unfolding entry_of gauss_of
entry_back z h =
    rw (decimal_found z.re (signed_decimal z.re) (omega (arith, h)) refl, decimal_found z.im (signed_decimal z.im) (omega (arith, h)) refl, le-ltb limit (unsigned_abs z.re + unsigned_abs z.im) h) refl

entry_or_zero_back : (z : Gaussian) → IsGaussian z → entry_or_zero (entry_data z) ≡ z
entry_or_zero_back z h = ap (λ o. unwrap_or o zero_g) (entry_back z h)

entry_there : (z : Gaussian) → IsGaussian z → is_none (entry_of (entry_data z)) ≡ false
entry_there z h = ap is_none (entry_back z h)

-- what is known of a block: numbers of sectors below 64, and entries within the limit
pub record IsKnownBlock (b : BlockValue) : Type 0 where
  pub numbers : All (λ (n : ℕ). n < 64) b.tuple
  pub entries : HasGaussians b

below : (ls : List LegValue) (t : List ℕ) → All IsSound ls → IsTuple ls t → All (λ (n : ℕ). n < 64) t
below [] [] s h = All-nil (λ (n : ℕ). n < 64)
below [] (n ∷ ns) s h = cc
below (l ∷ ls) [] s h = absurd h
below (l ∷ ls) (n ∷ ns) s h =
    All-cons (λ (n : ℕ). n < 64) n ns (omega (arith, h.0, (All-head IsSound l ls s).few)) (below ls ns (All-tail IsSound l ls s) h.1)

pub known_blocks : (fs : List Factor) (ls : List LegValue) (q : List ℤ) (bs : List BlockValue) → All IsSound ls → All (IsBlock fs ls q) bs → All HasGaussians bs → All IsKnownBlock bs
known_blocks fs ls q [] s h e = All-nil IsKnownBlock
known_blocks fs ls q (b ∷ bs) s h e =
    All-cons IsKnownBlock b bs (record { numbers = below ls b.tuple s (All-head (IsBlock fs ls q) b bs h).tuple; entries = All-head HasGaussians b bs e })
    (known_blocks fs ls q bs s (All-tail (IsBlock fs ls q) b bs h) (All-tail HasGaussians b bs e))

number_back : (n : ℕ) → n < 64 → sector_number (number_of (count_data n)) ≡ n
number_back n h = ap sector_number (count_number n (omega (arith, h))) ∙ rw (le-ltb n 0 (omega arith), le-ltb 4294967295 n (omega (arith, h))) refl

are_numbers_back : (b : BlockValue) → IsKnownBlock b → are_numbers (list_data (map count_data b.tuple)) ≡ true
are_numbers_back b k =
    ap (list_all is_whole) (listed_items (map count_data b.tuple))
    ∙ all_back is_whole count_data b.tuple (All-weaker (λ (n : ℕ). n < 64) (λ n. is_whole (count_data n) ≡ true) (λ n h. is_count_back n (omega (arith, h))) b.tuple k.numbers)

are_entries_back : (b : BlockValue) → IsKnownBlock b → are_entries (list_data (map entry_data b.entries)) ≡ true
are_entries_back b k =
    ap (list_all is_entry) (listed_items (map entry_data b.entries))
    ∙ all_back is_entry entry_data b.entries (All-weaker IsGaussian (λ z. is_entry (entry_data z) ≡ true) (λ z h. refl) b.entries k.entries)

is_block_back : (b : BlockValue) → IsKnownBlock b → is_block (block_data b) ≡ true
unfolding is_block
is_block_back b k = ap₂ (λ x y. x && y) (are_numbers_back b k) (are_entries_back b k)

abbrev block_made : List ℕ → List Gaussian → BlockValue
block_made t es = record { tuple = t; entries = es }

block_back : (b : BlockValue) → IsKnownBlock b → block_of (block_data b) ≡ b
block_back b k =
    ap₂ block_made
    (ap tuple_of (items_back (map count_data b.tuple))
    ∙ map_back (λ d. sector_number (number_of d)) count_data b.tuple (All-weaker (λ (n : ℕ). n < 64) (λ n. sector_number (number_of (count_data n)) ≡ n) number_back b.tuple k.numbers))
    (ap (map entry_or_zero) (items_back (map entry_data b.entries))
    ∙ map_back entry_or_zero entry_data b.entries (All-weaker IsGaussian (λ z. entry_or_zero (entry_data z) ≡ z) entry_or_zero_back b.entries k.entries))

entries_sound : (tensor : ℕ) (b : BlockValue) → IsKnownBlock b → (k : ℕ) → entry_fault tensor k (block_data b) ≡ None
entries_sound tensor b h k =
    ap (first_bad (λ x. is_none (entry_of x)) (λ i. fault 19 tensor k i)) (items_back (map entry_data b.entries))
    ∙ first_bad_none (λ x. is_none (entry_of x)) (λ i. fault 19 tensor k i) entry_data b.entries
    (All-weaker IsGaussian (λ z. is_none (entry_of (entry_data z)) ≡ false) entry_there b.entries h.entries)

pub are_blocks_back : (bs : List BlockValue) → All IsKnownBlock bs → are_blocks (list_data (map block_data bs)) ≡ true
are_blocks_back bs all =
    ap (list_all is_block) (listed_items (map block_data bs))
    ∙ all_back is_block block_data bs (All-weaker IsKnownBlock (λ b. is_block (block_data b) ≡ true) is_block_back bs all)

pub blocks_back : (bs : List BlockValue) → All IsKnownBlock bs → map block_of (map block_data bs) ≡ bs
blocks_back bs all = map_back block_of block_data bs (All-weaker IsKnownBlock (λ b. block_of (block_data b) ≡ b) block_back bs all)

pub blocks_sound : (tensor : ℕ) (bs : List BlockValue) → All IsKnownBlock bs → first_of (entry_fault tensor) (map block_data bs) ≡ None
blocks_sound tensor bs all =
    first_from_none (entry_fault tensor) block_data 1 bs (All-weaker IsKnownBlock (λ b. (k : ℕ) → entry_fault tensor k (block_data b) ≡ None) (entries_sound tensor) bs all)
