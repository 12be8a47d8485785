-- Blocks in ascending order, and blocks that are left out.
use Rattle.std.proofs.Common.{◌≡◌, ℕ, ℤ, pos, suc, ◌+◌, ◌≤◌, ◌<◌, List, [], ◌∷◌, length, get_or, filter, take, not, ◌||◌, arith, refl, ap, ◌∙◌, sym, subst, ◌⊎◌, inl, inr, Bool, true, false, cond}
use Rattle.std.specs.Cmp.Lexicographic.{slice_cmp}
use Rattle.std.specs.Ordering.{nat_cmp, int_eq}
use Rattle.std.specs.Cmp.{signed_Decides}
use Rattle.std.specs.declared.cmp.Ordering.TheVariants.{Less}
use Rattle.std.specs.List.{AllPairs, list_any}
use Rattle.std.proofs.lemmas.List.{get_or_default, get_or_past}
use Rattle.std.proofs.lemmas.List.Kept.{AllPairs-filter}
use Rattle.std.proofs.lemmas.List.Elements.{All-filter}
use Rattle.std.proofs.lemmas.List.Folds.{list_any_at, list_any_more}
use Rattle.std.proofs.lemmas.Bool.{and_parts, cases_lt, false≢true}
use Rattle.qn_charge.specs.declared.factor.Factor.{Factor}
use Rattle.qn_gauss.specs.Gaussian.{Gaussian, zero_g}
use Rattle.qn_index.specs.Legs.{LegValue, total}
use Rattle.qn_index.specs.Places.{IsValues, sectors_at, offset_at}
use Rattle.qn_value.specs.Tensors.{BlockValue, no_block, same_values, entry_in, entry_of, IsBlock, AreAscending}
use Rattle.qn_value.proofs.Values.{same_values-equal}
use Rattle.qn_block.specs.Blocked.{BlockedValue, IsBlocked, tensor_of, is_zero, is_filled}
use Rattle.qn_block.specs.Refusals.{block_at}
use Rattle.qn_block.proofs.Lookup.{not_below_itself, entry_nowhere}
use Rattle.qn_block.proofs.Entries.{by_blocks, entry_out_of_range}
use Rattle.qn_value.proofs.BlockRows.{ascending_rest}

-- one block's tuple is below another's
abbrev pub IsBelow : BlockValue → BlockValue → Type 0
IsBelow b c = slice_cmp nat_cmp b.tuple c.tuple ≡ Less

pub to_pairs : (bs : List BlockValue) → AreAscending bs → AllPairs IsBelow bs
to_pairs bs a i j d lt h =
    subst (λ (b : BlockValue). IsBelow b (get_or bs j d)) (get_or_default bs i no_block d (omega arith))
    (subst (λ (b : BlockValue). IsBelow (block_at bs i) b) (get_or_default bs j no_block d h) (a i j lt h))

pub from_pairs : (bs : List BlockValue) → AllPairs IsBelow bs → AreAscending bs
from_pairs bs p i j lt h = p i j no_block lt h

pub filter_ascends : (p : BlockValue → Bool) (bs : List BlockValue) → AreAscending bs → AreAscending (filter p bs)
filter_ascends p bs a = from_pairs (filter p bs) (AllPairs-filter IsBelow p bs (to_pairs bs a))

-- ---- zeros

pub zero_true : (z : Gaussian) → is_zero z ≡ true → z ≡ zero_g
unfolding zero_g
zero_true z e =
    let p = and_parts (int_eq z.re (pos 0)) (int_eq z.im (pos 0)) e in
    let re : z.re ≡ pos 0 = (signed_Decides z.re (pos 0)).0 p.0 in
    let im : z.im ≡ pos 0 = (signed_Decides z.im (pos 0)).0 p.1 in
    let first : ℤ → Gaussian = λ x. record { re = x; im = z.im } in
    let second : ℤ → Gaussian = λ y. record { re = pos 0; im = y } in
    ap first re ∙ ap second im

pub zero_back : (z : Gaussian) → z ≡ zero_g → is_zero z ≡ true
unfolding zero_g
zero_back z e = subst (λ w. is_zero w ≡ true) (sym e) refl

pub not_zero_is : (z : Gaussian) (b : Bool) → (b ≡ true → z ≡ zero_g) → (z ≡ zero_g → b ≡ true) → not b ≡ not (is_zero z)
not_zero_is z b to from = ap not (by b refl (is_zero z) refl)
  where
    by : (x : Bool) → b ≡ x → (y : Bool) → is_zero z ≡ y → b ≡ is_zero z
    by true e true k = e ∙ sym k
    by true e false k = absurd (false≢true (sym k ∙ zero_back z (to e)))
    by false e true k = absurd (false≢true (sym e ∙ from (zero_true z k)))
    by false e false k = e ∙ sym k

pub any_more : (zs : List Gaussian) (i : ℕ) (z : Gaussian) (b : Bool) → i < length zs → z ≡ get_or zs i z → b ≡ not (is_zero z) → list_any (λ z. not (is_zero z)) (take i zs) ≡ false → list_any (λ z. not (is_zero z)) (take (i + 1) zs) ≡ b
any_more zs i z b lt is e none =
    list_any_more (λ z. not (is_zero z)) zs i z lt
    ∙ (ap (λ x. x || not (is_zero (get_or zs i z))) none ∙ (ap (λ w. not (is_zero w)) (sym is) ∙ sym e))

pub any_found : (zs : List Gaussian) (i : ℕ) (z : Gaussian) → i < length zs → z ≡ get_or zs i z → true ≡ not (is_zero z) → true ≡ list_any (λ z. not (is_zero z)) zs
any_found zs i z lt is e = sym (list_any_at (λ z. not (is_zero z)) zs i z lt (ap (λ w. not (is_zero w)) (sym is) ∙ sym e))

-- all entries of a block of zeros are 0
pub zeros : (b : BlockValue) (o : ℕ) → is_filled b ≡ false → get_or b.entries o zero_g ≡ zero_g
zeros b o e = by (cases_lt o (length b.entries))
  where
    by : (o < length b.entries) ⊎ (length b.entries ≤ o) → get_or b.entries o zero_g ≡ zero_g
    by (inr ge) = get_or_past b.entries o zero_g ge
    by (inl lt) = zero_true (get_or b.entries o zero_g) (test (is_zero (get_or b.entries o zero_g)) refl)
      where
        test : (y : Bool) → is_zero (get_or b.entries o zero_g) ≡ y → is_zero (get_or b.entries o zero_g) ≡ true
        test true k = k
        test false k = absurd (false≢true (sym e ∙ list_any_at (λ z. not (is_zero z)) b.entries o zero_g lt (ap not k)))

-- blocks of zeros count for nothing
pub entry_filtered : (ls : List LegValue) (bs : List BlockValue) (xs : List ℕ) → AreAscending bs → entry_in ls (filter is_filled bs) xs ≡ entry_in ls bs xs
entry_filtered ls [] xs a = refl
entry_filtered ls (b ∷ bs) xs a = by (is_filled b) refl (same_values b.tuple (sectors_at ls xs)) refl (entry_filtered ls bs xs (ascending_rest b bs a))
  where
    rest : List BlockValue
    rest = filter is_filled bs

    here : Gaussian
    here = get_or b.entries (offset_at ls xs) zero_g

    by : (f : Bool) → is_filled b ≡ f → (s : Bool) → same_values b.tuple (sectors_at ls xs) ≡ s → entry_in ls rest xs ≡ entry_in ls bs xs → entry_in ls (cond f (b ∷ rest) rest) xs ≡ cond s here (entry_in ls bs xs)
    by true f s e more = ap (λ y. cond y here (entry_in ls rest xs)) e ∙ ap (λ z. cond s here z) more
    by false f false e more = more
    by false f true e more =
        let same : b.tuple ≡ sectors_at ls xs = same_values-equal b.tuple (sectors_at ls xs) e in
        let none : entry_in ls bs xs ≡ zero_g = entry_nowhere ls bs xs (λ j lt q. not_below_itself b.tuple (subst (λ t. slice_cmp nat_cmp b.tuple t ≡ Less) (q ∙ sym same) (a 0 (suc j) (omega arith) (omega arith)))) in
        more ∙ (none ∙ sym (zeros b (offset_at ls xs) f))

-- ---- values in range or not

pub in_range_or_not : (ls : List LegValue) (xs : List ℕ) → IsValues ls xs ⊎ (IsValues ls xs → ⊥)
in_range_or_not [] [] = inl refl
in_range_or_not [] (x ∷ xs) = inr (λ e. cons_not_nil e)
  where
    cons_not_nil : x ∷ xs ≡ [] → ⊥
    cons_not_nil e = cc
in_range_or_not (l ∷ ls) [] = inr (λ h. h)
in_range_or_not (l ∷ ls) (x ∷ xs) = by (cases_lt x (total l.sectors)) (in_range_or_not ls xs)
  where
    by : (x < total l.sectors) ⊎ (total l.sectors ≤ x) → IsValues ls xs ⊎ (IsValues ls xs → ⊥) → IsValues (l ∷ ls) (x ∷ xs) ⊎ (IsValues (l ∷ ls) (x ∷ xs) → ⊥)
    by (inl lt) (inl h) = inl (lt, h)
    by (inl lt) (inr n) = inr (λ h. n h.1)
    by (inr ge) r = inr (λ h. let less : x < total l.sectors = h.0 in omega arith)

-- the tensor without its blocks of zeros
pub filtered_is : (t : BlockedValue) → IsBlocked t → IsBlocked (record { group = t.group; legs = t.legs; flux = t.flux; blocks = filter is_filled t.blocks })
filtered_is t h = record {
  group = h.group;
  sound = h.sound;
  charges = h.charges;
  flux = h.flux;
  shape = h.shape;
  blocks = All-filter is_filled (IsBlock t.group t.legs t.flux) t.blocks h.blocks;
  ascending = filter_ascends is_filled t.blocks h.ascending;
}

pub filtered_entry : (t u : BlockedValue) (xs : List ℕ) → IsBlocked t → u ≡ record { group = t.group; legs = t.legs; flux = t.flux; blocks = filter is_filled t.blocks } → entry_of (tensor_of u) xs ≡ entry_of (tensor_of t) xs
filtered_entry t u xs h e = ap (λ (k : BlockedValue). entry_of (tensor_of k) xs) e ∙ by (in_range_or_not t.legs xs)
  where
    new : BlockedValue
    new = record { group = t.group; legs = t.legs; flux = t.flux; blocks = filter is_filled t.blocks }

    by : IsValues t.legs xs ⊎ (IsValues t.legs xs → ⊥) → entry_of (tensor_of new) xs ≡ entry_of (tensor_of t) xs
    by (inl v) = by_blocks new xs (filtered_is t h) v ∙ (entry_filtered t.legs t.blocks xs h.ascending ∙ sym (by_blocks t xs h v))
    by (inr n) = entry_out_of_range new xs (filtered_is t h) n ∙ sym (entry_out_of_range t xs h n)

-- the same facts at equal parts
pub blocked_at : (t : BlockedValue) (fs : List Factor) (ls : List LegValue) (q : List ℤ) (bs : List BlockValue) → fs ≡ t.group → ls ≡ t.legs → q ≡ t.flux → bs ≡ t.blocks → IsBlocked t → IsBlocked (record { group = fs; legs = ls; flux = q; blocks = bs })
blocked_at t fs ls q bs a b c d h =
    subst (λ (gs : List Factor). IsBlocked (record { group = gs; legs = ls; flux = q; blocks = bs })) (sym a)
    (subst (λ (ks : List LegValue). IsBlocked (record { group = t.group; legs = ks; flux = q; blocks = bs })) (sym b)
    (subst (λ (p : List ℤ). IsBlocked (record { group = t.group; legs = t.legs; flux = p; blocks = bs })) (sym c)
    (subst (λ (cs : List BlockValue). IsBlocked (record { group = t.group; legs = t.legs; flux = t.flux; blocks = cs })) (sym d) h)))
