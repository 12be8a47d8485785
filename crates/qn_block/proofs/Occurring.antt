-- Charges that occur, ascending, each once.
use Rattle.std.proofs.Common.{◌≡◌, ℕ, ℤ, zero, suc, ◌*◌, ◌^◌, ◌≤◌, ◌<◌, List, [], ◌∷◌, length, get_or, drop, map, arith, refl, ap, ◌∙◌, sym, subst}
use Rattle.std.specs.List.{All}
use Rattle.std.specs.Cmp.Lexicographic.{slice_cmp}
use Rattle.std.specs.Ordering.{int_cmp}
use Rattle.std.specs.declared.cmp.Ordering.{Ordering}
use Rattle.std.specs.declared.cmp.Ordering.TheVariants.{Less, Equal, Greater}
use Rattle.std.proofs.Math.ListN.{drop_of_length-le}
use Rattle.std.proofs.lemmas.List.Elements.{All-nil, All-cons}
use Rattle.qn_charge.specs.declared.factor.Factor.{Factor}
use Rattle.qn_charge.specs.Charges.{IsCanonical, IsWithin, neg_charge}
use Rattle.qn_charge.specs.Laws.{within_neg, within_more}
use Rattle.qn_index.specs.declared.leg.Dir.{Dir}
use Rattle.qn_index.specs.Legs.{LegValue}
use Rattle.qn_index.specs.Tuples.{IsFlux, tuples, count}
use Rattle.qn_index.proofs.Shapes.{nth_tuple, tuples_at, length_tuples}
use Rattle.qn_block.specs.Combiners.{fused_charge, put_by, put, ascending_once}

put_longer : (c : List ℤ) (ds : List (List ℤ)) → length ds ≤ length (put c ds)
put_longer c [] = omega arith
put_longer c (d ∷ ds) = by (slice_cmp int_cmp c d) (put_longer c ds)
  where
    by : (o : Ordering) → length ds ≤ length (put c ds) → length (d ∷ ds) ≤ length (put_by o c d ds (put c ds))
    by Less more = omega arith
    by Equal more = omega arith
    by Greater more = omega arith

pub put_all : (P : List ℤ → Type 0) (c : List ℤ) (ds : List (List ℤ)) → P c → All P ds → All P (put c ds)
put_all P c [] p h = All-cons P c [] p (All-nil P)
put_all P c (d ∷ ds) p h = by (slice_cmp int_cmp c d) (put_all P c ds p rest)
  where
    rest : All P ds
    rest k e lt = h (suc k) e (omega arith)

    by : (o : Ordering) → All P (put c ds) → All P (put_by o c d ds (put c ds))
    by Less more = All-cons P c (d ∷ ds) p h
    by Equal more = h
    by Greater more = All-cons P d (put c ds) (h 0 d (omega arith)) more

-- the charges of the later elements are no more than those of all
pub fewer_later : (f : List ℕ → List ℤ) (ts : List (List ℕ)) (i : ℕ) → length (ascending_once (map f (drop i ts))) ≤ length (ascending_once (map f ts))
fewer_later f ts zero = omega arith
fewer_later f [] (suc i) = omega arith
fewer_later f (t ∷ ts) (suc i) = omega (arith, fewer_later f ts i, put_longer (f t) (ascending_once (map f ts)))

drop_back : (ts : List (List ℕ)) (i : ℕ) → i < length ts → drop i ts ≡ get_or ts i [] ∷ drop (suc i) ts
drop_back [] i lt = absurd (omega arith)
drop_back (t ∷ ts) zero lt = refl
drop_back (t ∷ ts) (suc i) lt = drop_back ts i (omega arith)

-- nothing is left behind the last tuple
pub none_left : (ls : List LegValue) (n : ℕ) → n ≡ count ls → drop n (tuples ls) ≡ []
none_left ls n e = drop_of_length-le (tuples ls) (omega (arith, length_tuples ls))

-- one tuple more, from the last
pub charges_back : (fs : List Factor) (ls : List LegValue) (arrow : Dir) (n i : ℕ) (t : List ℕ) (c : List ℤ) (old new : List (List ℤ)) → n ≡ suc i → i < count ls → t ≡ nth_tuple ls i → c ≡ fused_charge fs ls arrow t →
    old ≡ ascending_once (map (fused_charge fs ls arrow) (drop n (tuples ls))) → new ≡ put c old → new ≡ ascending_once (map (fused_charge fs ls arrow) (drop i (tuples ls)))
charges_back fs ls arrow n i t c old new e lt at charge before after =
    let f : List ℕ → List ℤ = fused_charge fs ls arrow in
    let there : get_or (tuples ls) i [] ≡ t = tuples_at ls i lt ∙ sym at in
    let step : drop i (tuples ls) ≡ t ∷ drop (suc i) (tuples ls) = drop_back (tuples ls) i (omega (arith, length_tuples ls, lt)) ∙ ap (λ u. u ∷ drop (suc i) (tuples ls)) there in
    let rest : old ≡ ascending_once (map f (drop (suc i) (tuples ls))) = before ∙ ap (λ k. ascending_once (map f (drop k (tuples ls)))) e in
    after ∙ (ap (λ d. put d old) charge ∙ (ap (put (f t)) rest ∙ ap (λ us. ascending_once (map f us)) (sym step)))

-- the net charge of a tuple is a flux
pub net_is_flux : (fs : List Factor) (n : ℕ) (q : List ℤ) → n ≤ 63 → IsCanonical fs q → IsWithin (1000000000 * n) fs q → IsFlux fs q
net_is_flux fs n q few c w = record { canonical = c; within = within_more (1000000000 * n) (2 ^ 50) fs q (omega arith) w }

pub neg_is_flux : (fs : List Factor) (q r : List ℤ) → IsFlux fs q → r ≡ neg_charge fs q → IsCanonical fs r → IsFlux fs r
neg_is_flux fs q r h e c = record { canonical = c; within = subst (IsWithin (2 ^ 50) fs) (sym e) (within_neg (2 ^ 50) fs q h.within) }

pub neg_fits : (fs : List Factor) (q : List ℤ) → IsFlux fs q → IsWithin 4611686018427387904 fs (neg_charge fs q)
neg_fits fs q h = within_more (2 ^ 50) 4611686018427387904 fs (neg_charge fs q) (omega arith) (within_neg (2 ^ 50) fs q h.within)
