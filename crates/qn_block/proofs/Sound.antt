-- Blocks in which no fault was found are those of a tensor.
use Rattle.std.proofs.Common.{◌≡◌, ◌≢◌, ℕ, ℤ, zero, suc, ◌+◌, ◌-◌, ◌≤◌, ◌<◌, List, length, arith, refl, ◌∙◌, sym, subst, ◌⊎◌, inl, inr, Bool, true, false}
use Rattle.std.specs.List.{All}
use Rattle.std.specs.Cmp.Lexicographic.{slice_cmp, pointwise}
use Rattle.std.specs.Ordering.{nat_cmp, int_eq}
use Rattle.std.specs.Cmp.Rules.{signed_items}
use Rattle.std.specs.declared.cmp.Ordering.{Ordering}
use Rattle.std.specs.declared.cmp.Ordering.TheVariants.{Less, Equal, Greater}
use Rattle.std.proofs.lemmas.Cmp.{nat_list_cmp_total}
use Rattle.std.proofs.lemmas.Bool.{cases_eq, false≢true}
use Rattle.std.proofs.lemmas.List.{get_or_default}
use Rattle.qn_charge.specs.declared.factor.Factor.{Factor}
use Rattle.qn_charge.specs.Firsts.{HasNone}
use Rattle.qn_gauss.specs.Gaussian.{Gaussian}
use Rattle.qn_index.specs.Legs.{LegValue}
use Rattle.qn_index.specs.Tuples.{IsAdmissible, net}
use Rattle.qn_index.specs.Places.{block_size}
use Rattle.qn_index.specs.Extents.{entries, IsWithinLimits}
use Rattle.qn_index.proofs.Admitted.{block_within}
use Rattle.qn_value.specs.Tensors.{BlockValue, no_block, IsBlock, AreAscending, entry_in, entry_of}
use Rattle.qn_value.proofs.BlockRows.{block_rows}
use Rattle.qn_block.specs.Blocked.{BlockedValue, MeetFlux, tensor_of}
use Rattle.qn_block.specs.Refusals.{block_at, BadTupleAt, OffFluxAt, NotAscendingAt, BadLengthAt}
use Rattle.qn_block.proofs.Firsts.{tuple_good}
use Rattle.qn_block.proofs.Lookup.{values_length}

same_charge : (a b : List ℤ) → ((a ≡ b → ⊥) → ⊥) → a ≡ b
same_charge a b h = by (pointwise int_eq a b) refl
  where
    by : (t : Bool) → pointwise int_eq a b ≡ t → a ≡ b
    by true e = (signed_items a b).0 e
    by false e = absurd (h (λ k. false≢true (sym e ∙ (signed_items a b).1 k)))

same_number : (m n : ℕ) → ((m ≡ n → ⊥) → ⊥) → m ≡ n
same_number m n h = by (cases_eq m n)
  where
    by : (m ≡ n) ⊎ (m ≢ n) → m ≡ n
    by (inl e) = e
    by (inr d) = absurd (h d)

is_less : (o : Ordering) → ((o ≡ Less → ⊥) → ⊥) → o ≡ Less
is_less Less h = refl
is_less Equal h = absurd (h (λ e. cc))
is_less Greater h = absurd (h (λ e. cc))

pub admissible_at : (fs : List Factor) (ls : List LegValue) (q : List ℤ) (bs : List BlockValue) (i : ℕ) → HasNone (BadTupleAt ls bs) → HasNone (OffFluxAt fs ls q bs) → i < length bs → IsAdmissible fs ls q (block_at bs i).tuple
admissible_at fs ls q bs i tuples flux lt = record {
  tuple = tuple_good ls bs i tuples lt;
  flux = same_charge (net fs ls (block_at bs i).tuple) q (λ n. flux i (lt, n));
}

pub small_at : (fs : List Factor) (ls : List LegValue) (q : List ℤ) (bs : List BlockValue) (i : ℕ) → IsWithinLimits fs ls q → HasNone (BadTupleAt ls bs) → HasNone (OffFluxAt fs ls q bs) → i < length bs → block_size ls (block_at bs i).tuple ≤ 4194304
small_at fs ls q bs i w tuples flux lt =
    let all : entries fs ls q ≤ 4194304 = w.entries in
    omega (arith, block_within fs ls q (block_at bs i).tuple (admissible_at fs ls q bs i tuples flux lt), all)

pub sound_blocks : (fs : List Factor) (ls : List LegValue) (q : List ℤ) (bs : List BlockValue) → IsWithinLimits fs ls q → HasNone (BadTupleAt ls bs) → HasNone (OffFluxAt fs ls q bs) → HasNone (BadLengthAt ls bs) → All (IsBlock fs ls q) bs
sound_blocks fs ls q bs w tuples flux long i d lt =
    let a = admissible_at fs ls q bs i tuples flux lt in
    let block : IsBlock fs ls q (block_at bs i) = record {
      tuple = a.tuple;
      flux = a.flux;
      full = same_number (length (block_at bs i).entries) (block_size ls (block_at bs i).tuple) (λ n. long i (lt, n));
      small = small_at fs ls q bs i w tuples flux lt;
    } in
    subst (IsBlock fs ls q) (get_or_default bs i no_block d lt) block

-- each block is below all later ones, if it is below the next
below_later : (bs : List BlockValue) (i n : ℕ) → HasNone (NotAscendingAt bs) → i + suc n < length bs → slice_cmp nat_cmp (block_at bs i).tuple (block_at bs (i + suc n)).tuple ≡ Less
below_later bs i n none lt = by n lt
  where
    next : (j : ℕ) → suc j < length bs → slice_cmp nat_cmp (block_at bs j).tuple (block_at bs (suc j)).tuple ≡ Less
    next j l =
        let back : suc j - 1 ≡ j = omega arith in
        subst (λ k. slice_cmp nat_cmp (block_at bs k).tuple (block_at bs (suc j)).tuple ≡ Less) back
        (is_less (slice_cmp nat_cmp (block_at bs (suc j - 1)).tuple (block_at bs (suc j)).tuple) (λ n. none (suc j) (omega arith, l, n)))

    by : (n : ℕ) → i + suc n < length bs → slice_cmp nat_cmp (block_at bs i).tuple (block_at bs (i + suc n)).tuple ≡ Less
    by zero l = let one : suc i ≡ i + 1 = omega arith in subst (λ k. slice_cmp nat_cmp (block_at bs i).tuple (block_at bs k).tuple ≡ Less) one (next i (omega arith))
    by (suc m) l =
        let one : suc (i + suc m) ≡ i + suc (suc m) = omega arith in
        subst (λ k. slice_cmp nat_cmp (block_at bs i).tuple (block_at bs k).tuple ≡ Less) one
        (nat_list_cmp_total.trans (block_at bs i).tuple (block_at bs (i + suc m)).tuple (block_at bs (suc (i + suc m))).tuple (by m (omega arith)) (next (i + suc m) (omega arith)))

pub sound_ascending : (bs : List BlockValue) → HasNone (NotAscendingAt bs) → AreAscending bs
sound_ascending bs none i j lt le =
    let n : j ≡ i + suc (j - i - 1) = omega arith in
    subst (λ k. slice_cmp nat_cmp (block_at bs i).tuple (block_at bs k).tuple ≡ Less) (sym n) (below_later bs i (j - i - 1) none (omega arith))

-- the entries of a tensor of these blocks
pub made_entries : (R : List ℕ → Gaussian → Type 0) (t : BlockedValue) (fs : List Factor) (ls : List LegValue) (q : List ℤ) (bs : List BlockValue) → t ≡ record { group = fs; legs = ls; flux = q; blocks = bs } → All (IsBlock fs ls q) bs →
    ((xs : List ℕ) → MeetFlux fs ls q xs → R xs (entry_in ls bs xs)) → (xs : List ℕ) → MeetFlux t.group t.legs t.flux xs → R xs (entry_of (tensor_of t) xs)
made_entries R t fs ls q bs e h answers =
    subst (λ (u : BlockedValue). (xs : List ℕ) → MeetFlux u.group u.legs u.flux xs → R xs (entry_of (tensor_of u) xs)) (sym e)
    (λ xs m. subst (R xs) (sym (block_rows fs ls q bs h xs (values_length ls xs m.range))) (answers xs m))
