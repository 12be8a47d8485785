-- The entries of a table, row after row.
use Rattle.std.proofs.Common.{◌≡◌, ℕ, suc, zero, ◌+◌, ◌*◌, ◌-◌, ◌<◌, List, [], ◌∷◌, ◌++◌, length, get_or, map, take, drop, Bool, true, false, ◌||◌, ◌==◌, cond, Some, None, refl, sym, ap, ap₂, ◌∙◌, arith, append_assoc}
use Rattle.std.specs.Prelude.{Option, nat_lt, nat_le, not}
use Rattle.std.specs.Option.{option_or, option_map}
use Rattle.std.specs.Cmp.{unsigned_Decides}
use Rattle.std.proofs.Math.Nat.{suc-mul}
use Rattle.std.proofs.lemmas.Bool.{ltb-false, leb-false}
use Rattle.std.proofs.lemmas.List.{length-append, length-map, map-append}
use Rattle.std.proofs.Math.Seq.{take-length}
use Rattle.serde_json.specs.Data.{Data}
use Rattle.serde_json.specs.View.{view}
use Rattle.serde_json.specs.declared.value.Value.{Value}
use Rattle.qn_gauss.specs.Gaussian.{Gaussian}
use Rattle.qn_parts.specs.declared.fault.Fault.{Fault}
use Rattle.qn_parts.specs.declared.fault.DocFault.{DocFault}
use Rattle.qn_parts.specs.declared.fault.DocFault.TheVariants.{Bad, Memory}
use Rattle.qn_parts.specs.Faults.{Fails, first_from, fault}
use Rattle.qn_parts.specs.Tensors.{entry_or_zero}
use Rattle.qn_json.specs.Tree.{items}
use Rattle.qn_json.proofs.Lists.{or_false}
use Rattle.qn_sumdoc.specs.Operators.{first_other_row, rows_fault, entries_data}
use Rattle.qn_facts.proofs.Options.{none_head}
use Rattle.qn_parts.proofs.Accepted.{not_mapped}

-- a walk over two lists, one after the other
pub walk_both : (check : ℕ → Data → Option Fault) (n : ℕ) (xs ys : List Data) → first_from check n (xs ++ ys) ≡ option_or (first_from check n xs) (first_from check (n + length xs) ys)
walk_both check n [] ys = ap (λ k. first_from check k ys) (omega arith)
walk_both check n (x ∷ xs) ys =
    ap (λ o. option_or (check n x) o) (walk_both check (n + 1) xs ys)
    ∙ (joined (check n x) (first_from check (n + 1) xs) (first_from check (n + 1 + length xs) ys)
    ∙ ap (λ k. option_or (option_or (check n x) (first_from check (n + 1) xs)) (first_from check k ys)) (omega arith))
  where
    joined : (a b c : Option Fault) → option_or a (option_or b c) ≡ option_or (option_or a b) c
    joined None b c = refl
    joined (Some f) b c = refl

told : (b : Bool) → not b ≡ false → b ≡ true
told true e = refl
told false e = cc

-- rows without a fault have dim entries each, and as many as are left are there
count_from : (dim left k : ℕ) (rows : List Data) → k + left ≡ dim + 1 → first_other_row dim k rows ≡ None → length (entries_data rows) ≡ left * dim
count_from dim zero k [] at e = omega arith
count_from dim (suc left) k [] at e = let past = leb-false k dim (none_head (nat_le k dim) k None e).0 in absurd (omega (arith, at, past))
count_from dim zero k (r ∷ rs) at e =
    let here = none_head (nat_lt dim k || not (length (items r) == dim)) k (first_other_row dim (k + 1) rs) e in
    let inside = ltb-false dim k (or_false (nat_lt dim k) (not (length (items r) == dim)) here.0).0 in
    absurd (omega (arith, at, inside))
count_from dim (suc left) k (r ∷ rs) at e =
    let here = none_head (nat_lt dim k || not (length (items r) == dim)) k (first_other_row dim (k + 1) rs) e in
    let parts = or_false (nat_lt dim k) (not (length (items r) == dim)) here.0 in
    let width : length (items r) ≡ dim = (unsigned_Decides (length (items r)) dim).0 (told (length (items r) == dim) parts.1) in
    let rest : length (entries_data rs) ≡ left * dim = count_from dim left (k + 1) rs (omega (arith, at)) here.1 in
    length-append (items r) (entries_data rs) ∙ (ap₂ (λ a b. a + b) width rest ∙ omega (arith, suc-mul left dim))

-- a table without a fault of its rows has dim times dim entries
pub full_table : (dim site op : ℕ) (rows : List Data) → rows_fault dim site op rows ≡ None → length (entries_data rows) ≡ dim * dim
full_table dim site op rows e = count_from dim dim 1 rows (omega arith) (not_mapped (λ i. fault 18 site op i) (first_other_row dim 1 rows) e)

-- ---- the loop over the rows

-- the first row and the rest
pub rows_next : (rest : List Value) (v : Value) → 0 < length rest → v ≡ get_or rest 0 v
    → entries_data (map view rest) ≡ items (view v) ++ entries_data (map view (take (length rest - 1) (drop 1 rest)))
rows_next [] v h is = absurd (omega (arith, h))
rows_next (x ∷ later) v h is =
    let whole : take (length (x ∷ later) - 1) later ≡ later = ap (λ n. take n later) (omega arith) ∙ take-length later in
    ap (λ y. items (view y) ++ entries_data (map view later)) (sym is) ∙ ap (λ l. items (view v) ++ entries_data (map view l)) (sym whole)

-- a row without a fault is none_head
pub row_passed : (check : ℕ → Data → Option Fault) (made new : List Gaussian) (row rows whole : List Data) (w : Option Fault) → new ≡ made ++ map entry_or_zero row → whole ≡ row ++ rows
    → first_from check (length made + 1) row ≡ None → first_from check (length made + 1) whole ≡ w → first_from check (length new + 1) rows ≡ w
row_passed check made new row rows whole w more is none walk =
    let count : length new ≡ length made + length row = ap length more ∙ (length-append made (map entry_or_zero row) ∙ ap (λ n. length made + n) (length-map row entry_or_zero)) in
    ap (λ n. first_from check n rows) (omega (arith, count))
    ∙ (sym (ap (λ o. option_or o (first_from check (length made + 1 + length row) rows)) none)
    ∙ (sym (walk_both check (length made + 1) row rows) ∙ (ap (first_from check (length made + 1)) (sym is) ∙ walk)))

-- its entries were added
pub row_added : (made new t : List Gaussian) (row rows whole : List Data) → new ≡ made ++ map entry_or_zero row → whole ≡ row ++ rows → made ++ map entry_or_zero whole ≡ t
    → new ++ map entry_or_zero rows ≡ t
row_added made new t row rows whole more is all =
    ap (λ xs. xs ++ map entry_or_zero rows) more
    ∙ (append_assoc made (map entry_or_zero row) (map entry_or_zero rows)
    ∙ (ap (λ xs. made ++ xs) (sym (map-append entry_or_zero row rows)) ∙ (ap (λ ds. made ++ map entry_or_zero ds) (sym is) ∙ all)))

-- the fault of a row is that of the table
pub row_fails : (check : ℕ → Data → Option Fault) (n : ℕ) (row rows whole : List Data) (w : Option Fault) (e : DocFault) → whole ≡ row ++ rows → first_from check n whole ≡ w
    → Fails e (first_from check n row) → Fails e w
row_fails check n row rows whole w (Bad f) is walk h =
    sym walk ∙ (ap (first_from check n) is ∙ (walk_both check n row rows ∙ ap (λ o. option_or o (first_from check (n + length row) rows)) h))
row_fails check n row rows whole w Memory is walk h = tt
