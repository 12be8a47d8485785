-- A turned tensor is as wide as the one that is turned.
use Rattle.std.proofs.Common.{◌≡◌, ◌≤◌, ◌<◌, ◌==◌, ℕ, zero, suc, ◌+◌, ◌*◌, ◌^◌, ℤ, Bool, true, false, cond, List, [], ◌∷◌, ◌++◌, map, length, refl, sym, ◌∙◌, ap, ap₂, subst}
use Rattle.std.specs.List.{All}
use Rattle.std.proofs.lemmas.List.{map-append, length-append, length-map}
use Rattle.qn_sign.specs.Sign.{Perm}
use Rattle.qn_sign.specs.Sign.Perm.{swap}
use Rattle.qn_sign.proofs.Parity.{perm_under}
use Rattle.qn_charge.specs.declared.factor.Factor.{Factor}
use Rattle.qn_charge.specs.Charges.{IsGroup, IsCanonical, neg_charge}
use Rattle.qn_charge.specs.Laws.{canonical_neg, neg_of_neg}
use Rattle.qn_index.specs.declared.leg.Dir.TheVariants.{Out}
use Rattle.qn_index.specs.Legs.{LegValue, IsLegOf, flipped, other_way, total, charge_at}
use Rattle.qn_index.specs.Tuples.{count, turned}
use Rattle.qn_index.specs.Extents.{IsWithinLimits}
use Rattle.qn_index.specs.Weights.{remaining}
use Rattle.qn_value.specs.Networks.{sum_below}
use Rattle.qn_value.proofs.BlockSums.{sum_below-congr}
use Rattle.qn_value.proofs.PlacedLemmas.{all_first}
use Rattle.qn_block.specs.Blocked.{BlockedValue}
use Rattle.qn_block.proofs.Mirror.{conjugate_entries}
use Rattle.qn_net.proofs.FuseLaws.{all_right}
use Rattle.qn_braket.specs.Chains.{leg_at, operator_legs}
use Rattle.qn_braket.proofs.Back.{perm_reverse}
use Rattle.qn_algebra.specs.Standard.{link_sectors}
use Rattle.qn_algebra.specs.Links.{left_legs, right_legs, legs_at}
use Rattle.qn_algebra.specs.Widths.{links_of}
use Rattle.qn_algebra.specs.Turned.{turned_link}
use Rattle.qn_algebra.proofs.Shapes.{flipped_twice}
use Rattle.qn_algebra.proofs.Sums.{total_turned}
use Rattle.qn_algebra.proofs.Widths.{number, number_same, amount, counted, amount_step, amount_perm, canonical_rest, count_perm}
use Rattle.qn_chain_steps.specs.TurnedWidths.{TurnedWidthLaw}
use Rattle.qn_chain_steps.proofs.MadeOperators.{charge_turned, canonical_value}
use Rattle.qn_chain_steps.proofs.JoinedBySteps.{next_site}

module _ (fs : List Factor) (g : IsGroup fs) where
  -- two legs whose values count alike, and that have as many sectors
  record CountAlike (k l : LegValue) : Type 0 where
    dims : total k.sectors ≡ total l.sectors
    sectors : length k.sectors ≡ length l.sectors
    charges : (x : ℕ) → x < total k.sectors → counted fs g k x ≡ counted fs g l x

  abbrev AllAlike : List LegValue → List LegValue → Type 0
  AllAlike [] [] = Unit {0}
  AllAlike [] (l ∷ ls) = ⊥
  AllAlike (k ∷ ks) [] = ⊥
  AllAlike (k ∷ ks) (l ∷ ls) = CountAlike k l × AllAlike ks ls

  itself : (l : LegValue) → CountAlike l l
  itself l = record { dims = refl; sectors = refl; charges = λ x h. refl }

  alike-both : (ks ls us vs : List LegValue) → AllAlike ks ls → AllAlike us vs → AllAlike (ks ++ us) (ls ++ vs)
  alike-both [] [] us vs a b = b
  alike-both [] (l ∷ ls) us vs a b = absurd a
  alike-both (k ∷ ks) [] us vs a b = absurd a
  alike-both (k ∷ ks) (l ∷ ls) us vs a b = (a.0, alike-both ks ls us vs a.1 b)

  alike_amount : (ks ls : List LegValue) (q : List ℤ) → IsCanonical fs q → AllAlike ks ls → amount fs g ks q ≡ amount fs g ls q
  alike_amount [] [] q h a = refl
  alike_amount [] (l ∷ ls) q h a = absurd a
  alike_amount (k ∷ ks) [] q h a = absurd a
  alike_amount (k ∷ ks) (l ∷ ls) q h a =
      amount_step fs g k ks q h
      ∙ sum_below-congr (total k.sectors) (λ x. amount fs g ks (remaining fs (counted fs g k x) q)) (λ x. amount fs g ls (remaining fs (counted fs g l x) q))
      (λ x b. ap (λ c. amount fs g ks (remaining fs c q)) (a.0.charges x b) ∙ alike_amount ks ls (remaining fs (counted fs g l x) q) (canonical_rest fs g (counted fs g l x) q) a.1)
      ∙ ap (λ n. sum_below n (λ x. amount fs g ls (remaining fs (counted fs g l x) q))) a.0.dims
      ∙ sym (amount_step fs g l ls q h)

  alike_count : (ks ls : List LegValue) → AllAlike ks ls → count ks ≡ count ls
  alike_count [] [] a = refl
  alike_count [] (l ∷ ls) a = absurd a
  alike_count (k ∷ ks) [] a = absurd a
  alike_count (k ∷ ks) (l ∷ ls) a = ap₂ (λ m n. m * n) a.0.sectors (alike_count ks ls a.1)

  alike_long : (ks ls : List LegValue) → AllAlike ks ls → length ks ≡ length ls
  alike_long [] [] a = refl
  alike_long [] (l ∷ ls) a = absurd a
  alike_long (k ∷ ks) [] a = absurd a
  alike_long (k ∷ ks) (l ∷ ls) a = ap suc (alike_long ks ls a.1)

  flipped_count : (ls : List LegValue) → count (map flipped ls) ≡ count ls
  flipped_count [] = refl
  flipped_count (l ∷ ls) = ap (λ n. length l.sectors * n) (flipped_count ls)

  -- all legs flipped
  flipped_amount : (ls : List LegValue) (q : List ℤ) → All (IsLegOf fs) ls → IsCanonical fs q → amount fs g (map flipped ls) (neg_charge fs q) ≡ amount fs g ls q
  flipped_amount ls q a h =
      amount_perm fs g (neg_charge fs q) (canonical_neg fs q g) (perm_reverse (map flipped ls)) ∙ ap number (conjugate_entries fs ls q g a h)

  module _ (sites : List LegValue) (ats : List BlockedValue) (n : ℕ) (out : (i : ℕ) → suc i < n → (links_of ats (suc i)).arrow ≡ Out) where
    left_alike : (j : ℕ) → j < n → AllAlike (left_legs (turned_link fs ats) j) (map flipped (left_legs (links_of ats) j))
    left_alike zero h = tt
    left_alike (suc j) h = (
      record {
        dims = total_turned fs (link_sectors ats (suc j));
        sectors = length-map (link_sectors ats (suc j)) _;
        charges = λ x b. charge_turned fs (link_sectors ats (suc j)) x (subst (λ k. x < k) (total_turned fs (link_sectors ats (suc j))) b)
            ∙ ap (λ d. turned fs (other_way d) (charge_at (link_sectors ats (suc j)) x)) (sym (out j h));
      },
      tt,
    )

    right_alike : (j : ℕ) → j < n → All (IsLegOf fs) (right_legs (links_of ats) n j) → AllAlike (right_legs (turned_link fs ats) n j) (map flipped (right_legs (links_of ats) n j))
    right_alike j h a = go (suc j == n) refl a
      where
        go : (b : Bool) → (suc j == n) ≡ b → All (IsLegOf fs) (cond b [] (flipped (links_of ats (suc j)) ∷ [])) →
            AllAlike (cond b [] (flipped (turned_link fs ats (suc j)) ∷ [])) (map flipped (cond b [] (flipped (links_of ats (suc j)) ∷ [])))
        go true e a = tt
        go false e a = (
          record {
            dims = total_turned fs (link_sectors ats (suc j));
            sectors = length-map (link_sectors ats (suc j)) _;
            charges = λ x b. let c : x < total (link_sectors ats (suc j)) = subst (λ k. x < k) (total_turned fs (link_sectors ats (suc j))) b in
                ap (neg_charge fs) (charge_turned fs (link_sectors ats (suc j)) x c)
                ∙ neg_of_neg fs (charge_at (link_sectors ats (suc j)) x) g (canonical_value fs (link_sectors ats (suc j)) (all_first (IsLegOf fs) (flipped (links_of ats (suc j))) [] a) x c)
                ∙ ap (λ d. turned fs (other_way (other_way d)) (charge_at (link_sectors ats (suc j)) x)) (sym (out j (next_site j n h e)));
          },
          tt,
        )

    module _ (j : ℕ) (h : j < n) (q : List ℤ) (canonical : IsCanonical fs q) (charges : All (IsLegOf fs) (legs_at (links_of ats) (operator_legs (leg_at sites j)) n j)) where
      abbrev l : LegValue
      l = leg_at sites j

      abbrev given : List LegValue
      given = legs_at (links_of ats) (operator_legs l) n j

      abbrev made : List LegValue
      made = legs_at (turned_link fs ats) (operator_legs l) n j

      abbrev la : List LegValue
      la = left_legs (links_of ats) j

      abbrev ra : List LegValue
      ra = right_legs (links_of ats) n j

      -- the flipped legs, but for the two of the site
      abbrev between : List LegValue
      between = map flipped la ++ (l ∷ flipped l ∷ map flipped ra)

      alike : AllAlike made between
      alike =
          alike-both (left_legs (turned_link fs ats) j) (map flipped la) (l ∷ flipped l ∷ right_legs (turned_link fs ats) n j) (l ∷ flipped l ∷ map flipped ra) (left_alike j h)
          (itself l, (itself (flipped l), right_alike j h (all_right (IsLegOf fs) (operator_legs l) ra (all_right (IsLegOf fs) la (operator_legs l ++ ra) charges))))

      turned_legs : Perm between (map flipped given)
      turned_legs =
          subst (Perm between) (sym (map-append flipped la (l ∷ flipped l ∷ ra) ∙ ap (λ k. map flipped la ++ (flipped l ∷ k ∷ map flipped ra)) (flipped_twice l)))
          (perm_under (map flipped la) swap)

      is_within : IsWithinLimits fs given q → IsWithinLimits fs made (neg_charge fs q)
      is_within w = record {
        legs = subst (λ k. k ≤ 64) (sym (alike_long made between alike ∙ long)) w.legs;
        tuples = subst (λ k. k ≤ 2 ^ 20) (sym (alike_count made between alike ∙ count_perm turned_legs ∙ flipped_count given)) w.tuples;
        entries = subst (λ k. k ≤ 2 ^ 22)
            (sym (number_same _ _ (alike_amount made between (neg_charge fs q) (canonical_neg fs q g) alike ∙ amount_perm fs g (neg_charge fs q) (canonical_neg fs q g) turned_legs ∙ flipped_amount given q charges canonical)))
            w.entries;
      }
        where
          long : length between ≡ length given
          long =
              length-append (map flipped la) (l ∷ flipped l ∷ map flipped ra) ∙ ap₂ (λ a b. a + suc (suc b)) (length-map la flipped) (length-map ra flipped)
              ∙ sym (length-append la (l ∷ flipped l ∷ ra))

pub turned_widths : TurnedWidthLaw
turned_widths fs sites ats n j q g canonical out h charges w = is_within fs g sites ats n out j h q canonical charges w
