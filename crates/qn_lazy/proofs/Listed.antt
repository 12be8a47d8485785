-- The blocks that a rule is asked for, and how often it is asked.
use Rattle.std.proofs.Common.{Contains, ◌≡◌, ◌≤◌, ◌<◌, ℕ, ℤ, List, [], length, get_or, filter, Bool, true, sym, subst, arith}
use Rattle.std.specs.List.{All, AllPairs}
use Rattle.std.proofs.lemmas.List.{get_or_default}
use Rattle.std.proofs.lemmas.List.Elements.{All-filter}
use Rattle.std.proofs.lemmas.List.Kept.{AllPairs-filter}
use Rattle.qn_gauss.specs.Gaussian.{Gaussian}
use Rattle.qn_charge.specs.declared.factor.Factor.{Factor}
use Rattle.qn_index.specs.Legs.{LegValue}
use Rattle.qn_index.specs.Tuples.{IsAdmissible, admitted}
use Rattle.qn_index.specs.Places.{sectors_at}
use Rattle.qn_index.specs.Extents.{IsWithinLimits, entries}
use Rattle.qn_index.proofs.Admitted.{keeps, listed, unlisted, block_within}
use Rattle.qn_index.proofs.Places.{forth}
use Rattle.qn_value.specs.Tensors.{BlockValue, AreAscending, entry_in}
use Rattle.qn_block.specs.Blocked.{MeetFlux}
use Rattle.qn_block.specs.Refusals.{block_at}
use Rattle.qn_block.proofs.Written.{Under, admitted_pairs, IsListed, IsFilled, filled_ascend, filled_answer}

-- a tuple that is listed, where only some are
pub met_at : (fs : List Factor) (ls : List LegValue) (q : List ℤ) (p : List ℕ → Bool) (ts : List (List ℕ)) (i : ℕ) (t : List ℕ) → IsWithinLimits fs ls q → ts ≡ filter p (admitted fs ls q) → i < length ts → t ≡ get_or ts i t → IsListed fs ls q t
met_at fs ls q p ts i t w e lt is =
    let each : All (IsAdmissible fs ls q) (admitted fs ls q) =
    λ j d l. unlisted fs ls q (get_or (admitted fs ls q) j d) (j, l, get_or_default (admitted fs ls q) j (get_or (admitted fs ls q) j d) d l) in
    let a : IsAdmissible fs ls q t =
    subst (IsAdmissible fs ls q) (sym is) (subst (All (IsAdmissible fs ls q)) (sym e) (All-filter p (IsAdmissible fs ls q) (admitted fs ls q) each) i t lt) in
    let all : entries fs ls q ≤ 4194304 = w.entries in
    record { admissible = a; small = omega (arith, block_within fs ls q t a, all) }

-- the blocks that were made
pub ascend : (R : List ℕ → Gaussian → Type 0) (fs : List Factor) (ls : List LegValue) (q : List ℤ) (p : List ℕ → Bool) (ts : List (List ℕ)) (bs : List BlockValue) → ts ≡ filter p (admitted fs ls q) → length ts ≡ length bs →
    ((k : ℕ) → k < length bs → IsFilled R fs ls q (get_or ts k []) (block_at bs k)) → AreAscending bs
ascend R fs ls q p ts bs e n h =
    filled_ascend R fs ls q ts bs n (subst (λ (us : List (List ℕ)). AllPairs Under us) (sym e) (AllPairs-filter Under p (admitted fs ls q) (admitted_pairs fs ls q))) h

pub answered : (R : List ℕ → Gaussian → Type 0) (fs : List Factor) (ls : List LegValue) (q : List ℤ) (p : List ℕ → Bool) (ts : List (List ℕ)) (bs : List BlockValue) (xs : List ℕ) → ts ≡ filter p (admitted fs ls q) → length ts ≡ length bs →
    ((k : ℕ) → k < length bs → IsFilled R fs ls q (get_or ts k []) (block_at bs k)) → MeetFlux fs ls q xs → p (sectors_at ls xs) ≡ true → R xs (entry_in ls bs xs)
answered R fs ls q p ts bs xs e n h m met =
    let w = forth ls xs m.range in
    filled_answer R fs ls q ts bs xs n (ascend R fs ls q p ts bs e n h) h m.range
    (subst (λ (us : List (List ℕ)). Contains us (sectors_at ls xs)) (sym e)
    (keeps p (admitted fs ls q) (sectors_at ls xs) (listed fs ls q (sectors_at ls xs) (record { tuple = w.tuple; flux = m.flux })) met))
