-- Entries of a twisted tensor.
use Rattle.std.proofs.Common.{◌≡◌, ◌<◌, ℕ, ℤ, zero, suc, Bool, true, false, cond, List, [], ◌∷◌, refl, sym, ◌∙◌, ap, ap₂, subst, map, get_or, slice_index_or}
use Rattle.std.specs.List.{All}
use Rattle.std.specs.Cmp.Lexicographic.{slice_cmp}
use Rattle.std.specs.Ordering.{nat_cmp}
use Rattle.std.proofs.lemmas.List.{length-map}
use Rattle.std.proofs.lemmas.List.Elements.{All-map}
use Rattle.qn_sign.specs.Sign.{xor}
use Rattle.qn_gauss.specs.Gaussian.{Gaussian, zero_g, signed}
use Rattle.qn_charge.specs.declared.factor.Factor.{Factor}
use Rattle.qn_charge.specs.Charges.{parity}
use Rattle.qn_index.specs.Legs.{LegValue, sector_at, parity_at}
use Rattle.qn_index.specs.Places.{IsValues, sectors_at, offset_at}
use Rattle.qn_value.specs.Tensors.{BlockValue, no_block, same_values, entry_in, entry_of, IsBlock, AreAscending}
use Rattle.qn_value.proofs.NetLaws.{signed-zero}
use Rattle.qn_value.proofs.Values.{same_values-equal}
use Rattle.qn_block.specs.Blocked.{BlockedValue, IsBlocked, tensor_of}
use Rattle.qn_twist.specs.Twisted.{leg_at, odd_sectors, odd_values, twisted_block, twisted, Twisted}

-- a changed list at a place, where 0 is not changed
index_changed : (f : Gaussian → Gaussian) → f zero_g ≡ zero_g → (xs : List Gaussian) (n : ℕ) → slice_index_or (map f xs) n zero_g ≡ f (slice_index_or xs n zero_g)
index_changed f z [] n = sym z
index_changed f z (x ∷ xs) zero = refl
index_changed f z (x ∷ xs) (suc n) = index_changed f z xs n

-- the parity of a leg's value is that of its sector
odd_here : (fs : List Factor) (ls : List LegValue) (xs : List ℕ) (k : ℕ) → IsValues ls xs →
    parity fs (sector_at (leg_at ls k).sectors (slice_index_or (sectors_at ls xs) k 0)).charge ≡ parity_at fs (leg_at ls k).sectors (slice_index_or xs k 0)
odd_here fs [] xs k h = refl
odd_here fs (l ∷ ls) [] k h = absurd h
odd_here fs (l ∷ ls) (x ∷ xs) zero h = refl
odd_here fs (l ∷ ls) (x ∷ xs) (suc k) h = odd_here fs ls xs k h.1

odd_same : (fs : List Factor) (ls : List LegValue) (places xs : List ℕ) → IsValues ls xs → odd_sectors fs ls places (sectors_at ls xs) ≡ odd_values fs ls places xs
odd_same fs ls [] xs h = refl
odd_same fs ls (k ∷ ks) xs h = ap₂ xor (odd_here fs ls xs k h) (odd_same fs ls ks xs h)

entry_twisted : (fs : List Factor) (ls : List LegValue) (places : List ℕ) (bs : List BlockValue) (xs : List ℕ) → IsValues ls xs →
    entry_in ls (map (twisted_block fs ls places) bs) xs ≡ signed (odd_values fs ls places xs) (entry_in ls bs xs)
entry_twisted fs ls places [] xs h = sym (signed-zero (odd_values fs ls places xs))
entry_twisted fs ls places (b ∷ bs) xs h = go (same_values b.tuple (sectors_at ls xs)) refl (entry_twisted fs ls places bs xs h)
  where
    s : Bool
    s = odd_values fs ls places xs

    go : (p : Bool) → same_values b.tuple (sectors_at ls xs) ≡ p → entry_in ls (map (twisted_block fs ls places) bs) xs ≡ signed s (entry_in ls bs xs) →
        cond p (slice_index_or (twisted_block fs ls places b).entries (offset_at ls xs) zero_g) (entry_in ls (map (twisted_block fs ls places) bs) xs)
        ≡ signed s (cond p (slice_index_or b.entries (offset_at ls xs) zero_g) (entry_in ls bs xs))
    go true e ih =
        index_changed (signed (odd_sectors fs ls places b.tuple)) (signed-zero (odd_sectors fs ls places b.tuple)) b.entries (offset_at ls xs)
        ∙ ap (λ t. signed t (slice_index_or b.entries (offset_at ls xs) zero_g))
        (ap (odd_sectors fs ls places) (same_values-equal b.tuple (sectors_at ls xs) e) ∙ odd_same fs ls places xs h)
    go false e ih = ih

pub is_twisted : ((t : BlockedValue) (xs : List ℕ) → IsBlocked t → IsValues t.legs xs → entry_of (tensor_of t) xs ≡ entry_in t.legs t.blocks xs) →
    (t : BlockedValue) (places : List ℕ) (r : BlockedValue) → IsBlocked t → IsBlocked r → r ≡ twisted t places → Twisted (tensor_of t) places (tensor_of r)
is_twisted by_blocks t places r ok made e = record {
  group = ap (λ (x : BlockedValue). x.group) e;
  legs = ap (λ (x : BlockedValue). x.legs) e;
  flux = ap (λ (x : BlockedValue). x.flux) e;
  entries = λ xs h. at xs (subst (λ (x : BlockedValue). IsValues x.legs xs) e h);
}
  where
    at : (xs : List ℕ) → IsValues t.legs xs → entry_of (tensor_of r) xs ≡ signed (odd_values t.group t.legs places xs) (entry_of (tensor_of t) xs)
    at xs h =
        by_blocks r xs made (subst (λ (x : BlockedValue). IsValues x.legs xs) (sym e) h)
        ∙ ap (λ (x : BlockedValue). entry_in x.legs x.blocks xs) e
        ∙ entry_twisted t.group t.legs places t.blocks xs h
        ∙ ap (signed (odd_values t.group t.legs places xs)) (sym (by_blocks t xs ok h))

-- a block that is not negated
same_entries : (xs : List Gaussian) → map (signed false) xs ≡ xs
same_entries [] = refl
same_entries (x ∷ xs) = ap (λ ys. x ∷ ys) (same_entries xs)

pub block_same : (fs : List Factor) (ls : List LegValue) (places : List ℕ) (b : BlockValue) → odd_sectors fs ls places b.tuple ≡ false → twisted_block fs ls places b ≡ b
block_same fs ls places b e = λ i. record { tuple = b.tuple; entries = (ap (λ s. map (signed s) b.entries) e ∙ same_entries b.entries) i }

-- what holds of a tensor's blocks holds of the twisted ones

tuple_same : (fs : List Factor) (ls : List LegValue) (places : List ℕ) (bs : List BlockValue) (i : ℕ) → (get_or (map (twisted_block fs ls places) bs) i no_block).tuple ≡ (get_or bs i no_block).tuple
tuple_same fs ls places [] i = refl
tuple_same fs ls places (b ∷ bs) zero = refl
tuple_same fs ls places (b ∷ bs) (suc i) = tuple_same fs ls places bs i

pub still_blocks : (fs : List Factor) (ls : List LegValue) (q : List ℤ) (places : List ℕ) (bs : List BlockValue) → All (IsBlock fs ls q) bs → All (IsBlock fs ls q) (map (twisted_block fs ls places) bs)
still_blocks fs ls q places bs h =
    All-map (IsBlock fs ls q) (twisted_block fs ls places) bs
    (λ k d lt. let b = get_or bs k d in let w = h k d lt in
    record { tuple = w.tuple; flux = w.flux; full = length-map b.entries (signed (odd_sectors fs ls places b.tuple)) ∙ w.full; small = w.small })

pub still_ascending : (fs : List Factor) (ls : List LegValue) (places : List ℕ) (bs : List BlockValue) → AreAscending bs → AreAscending (map (twisted_block fs ls places) bs)
still_ascending fs ls places bs h i j below lt =
    ap₂ (slice_cmp nat_cmp) (tuple_same fs ls places bs i) (tuple_same fs ls places bs j) ∙ h i j below (subst (λ n. j < n) (length-map bs (twisted_block fs ls places)) lt)

pub still_twisted : (t : BlockedValue) (places : List ℕ) (bs : List BlockValue) → IsBlocked t → bs ≡ map (twisted_block t.group t.legs places) t.blocks →
    IsBlocked (record { group = t.group; legs = t.legs; flux = t.flux; blocks = bs })
still_twisted t places bs h e = record {
  group = h.group;
  sound = h.sound;
  charges = h.charges;
  flux = h.flux;
  shape = h.shape;
  blocks = subst (All (IsBlock t.group t.legs t.flux)) (sym e) (still_blocks t.group t.legs t.flux places t.blocks h.blocks);
  ascending = subst AreAscending (sym e) (still_ascending t.group t.legs places t.blocks h.ascending);
}
