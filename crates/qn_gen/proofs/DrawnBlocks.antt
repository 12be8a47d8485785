-- The blocks of all admissible tuples, with drawn entries, are the blocks of a tensor.
use Rattle.std.proofs.Common.{◌≡◌, ◌∙◌, sym, refl, ap, subst, ℕ, ℤ, zero, suc, ◌+◌, ◌<◌, List, [], ◌∷◌, arith, length, get_or}
use Rattle.std.proofs.lemmas.List.{get_or_default}
use Rattle.std.proofs.lemmas.List.FromFn.{length-map-range_with_len}
use Rattle.std.proofs.lemmas.List.Elements.{All-from_get_or}
use Rattle.std.specs.List.{All}
use Rattle.std.specs.Cmp.Lexicographic.{slice_cmp}
use Rattle.std.specs.Ordering.{nat_cmp}
use Rattle.qn_charge.specs.declared.factor.Factor.{Factor}
use Rattle.qn_index.specs.Legs.{LegValue}
use Rattle.qn_index.specs.Tuples.{IsTuple, admitted, net}
use Rattle.qn_index.specs.Places.{block_size}
use Rattle.qn_index.specs.Extents.{IsWithinLimits}
use Rattle.qn_index.proofs.Admitted.{admitted_ascend}
use Rattle.qn_value.specs.Tensors.{AreAscending, BlockValue, IsBlock, no_block}
use Rattle.qn_block.proofs.Written.{IsListed, listed_at}
use Rattle.qn_gen.specs.Workload.{drawn, drawn_blocks}

pub length_blocks : (x i : ℕ) (ls : List LegValue) (ts : List (List ℕ)) → length (drawn_blocks x i ls ts) ≡ length ts
length_blocks x i ls [] = refl
length_blocks x i ls (t ∷ ts) = ap suc (length_blocks x (i + block_size ls t) ls ts)

pub tuple_at : (x i : ℕ) (ls : List LegValue) (ts : List (List ℕ)) (k : ℕ) → (get_or (drawn_blocks x i ls ts) k no_block).tuple ≡ get_or ts k []
tuple_at x i ls [] k = refl
tuple_at x i ls (t ∷ ts) zero = refl
tuple_at x i ls (t ∷ ts) (suc k) = tuple_at x (i + block_size ls t) ls ts k

pub full_at : (x i : ℕ) (ls : List LegValue) (ts : List (List ℕ)) (k : ℕ) → k < length ts → length (get_or (drawn_blocks x i ls ts) k no_block).entries ≡ block_size ls (get_or ts k [])
full_at x i ls [] k lt = absurd (omega arith)
full_at x i ls (t ∷ ts) zero lt = length-map-range_with_len (drawn x) i (block_size ls t)
full_at x i ls (t ∷ ts) (suc k) lt = full_at x (i + block_size ls t) ls ts k (omega (arith, lt))

pub are_blocks : (x i : ℕ) (fs : List Factor) (ls : List LegValue) (q : List ℤ) → IsWithinLimits fs ls q → All (IsBlock fs ls q) (drawn_blocks x i ls (admitted fs ls q))
are_blocks x i fs ls q w =
    All-from_get_or (IsBlock fs ls q) (drawn_blocks x i ls (admitted fs ls q)) no_block (λ k lt.
    let within : k < length (admitted fs ls q) = omega (arith, lt, length_blocks x i ls (admitted fs ls q)) in
    let t = get_or (admitted fs ls q) k [] in
    let l : IsListed fs ls q t = listed_at fs ls q (admitted fs ls q) k t w refl within (get_or_default (admitted fs ls q) k [] t within) in
    let tuple = tuple_at x i ls (admitted fs ls q) k in
    record {
      tuple = subst (IsTuple ls) (sym tuple) l.admissible.tuple;
      flux = ap (net fs ls) tuple ∙ l.admissible.flux;
      full = full_at x i ls (admitted fs ls q) k within ∙ ap (block_size ls) (sym tuple);
      small = omega (arith, l.small, ap (block_size ls) tuple);
    })

pub blocks_ascend : (x n : ℕ) (fs : List Factor) (ls : List LegValue) (q : List ℤ) → AreAscending (drawn_blocks x n ls (admitted fs ls q))
blocks_ascend x n fs ls q i j lt h =
    let ts = admitted fs ls q in
    ap (λ t. slice_cmp nat_cmp t (get_or (drawn_blocks x n ls ts) j no_block).tuple) (tuple_at x n ls ts i)
    ∙ (ap (slice_cmp nat_cmp (get_or ts i [])) (tuple_at x n ls ts j)
    ∙ admitted_ascend fs ls q i j lt (omega (arith, h, length_blocks x n ls ts)))

-- the same of blocks that are known to be these
pub record AreSound (fs : List Factor) (ls : List LegValue) (q : List ℤ) (bs : List BlockValue) : Type 0 where
  pub blocks : All (IsBlock fs ls q) bs
  pub ascending : AreAscending bs

pub are_sound : (x : ℕ) (fs : List Factor) (ls ks : List LegValue) (q : List ℤ) (bs : List BlockValue) → ks ≡ ls → bs ≡ drawn_blocks x 0 ks (admitted fs ks q) → IsWithinLimits fs ls q → AreSound fs ls q bs
are_sound x fs ls ks q bs p e w =
    let all : bs ≡ drawn_blocks x 0 ls (admitted fs ls q) = e ∙ ap (λ (hs : List LegValue). drawn_blocks x 0 hs (admitted fs hs q)) p in
    subst (AreSound fs ls q) (sym all) (record { blocks = are_blocks x 0 fs ls q w; ascending = blocks_ascend x 0 fs ls q })
