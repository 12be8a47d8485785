-- Legs that can be fused, and what keeps others from it.
use Rattle.std.proofs.Common.{Contains, ◌≡◌, ℕ, ℤ, suc, ◌+◌, ◌-◌, ◌≤◌, ◌<◌, List, [], ◌∷◌, ◌++◌, length, get_or, take, map, flat_map, arith, refl, ap, ◌∙◌, sym, subst, ⊎_elim, zero-add, append_assoc}
use Rattle.std.specs.List.{All}
use Rattle.std.proofs.Math.Nat.{mul-le-mul_left, mul-le-mul_right}
use Rattle.std.proofs.lemmas.List.{get_or_default, take_more, take_all, append-nil}
use Rattle.qn_charge.specs.declared.factor.Factor.{Factor}
use Rattle.qn_charge.specs.Charges.{IsGroup, IsCanonical}
use Rattle.qn_charge.specs.Laws.{none_out_of_range}
use Rattle.qn_index.specs.declared.leg.Dir.{Dir}
use Rattle.qn_index.specs.declared.leg.LegFault.{LegFault}
use Rattle.qn_index.specs.declared.leg.LegFault.TheVariants.{ChargeRange, DimRange, NoSector, TooManySectors}
use Rattle.qn_index.specs.Legs.{LegValue, SectorValue, no_sector, total, IsLeg, IsOf, IsSound}
use Rattle.qn_index.specs.Refusals.{IsFirstLegFault}
use Rattle.qn_index.specs.Tuples.{IsTuple, IsFlux, turned, count, admitted}
use Rattle.qn_index.specs.Extents.{size_of}
use Rattle.qn_index.proofs.Admitted.{unlisted}
use Rattle.qn_index.proofs.Sectors.{before_le}
use Rattle.qn_block.specs.Combiners.{StartValue, fused_charges, fused_sectors, sector_with, tuples_with, number_of_values, starts_from, fused_starts, IsFusable}
use Rattle.qn_block.proofs.Partition.{sum_over, sum_take, charges_sum, fused_total, tuples_admitted, values_size, starts_append}
use Rattle.qn_index.proofs.Admitted.{size_append}

-- ---- refusals

-- what is a leg has no fault
pub no_leg_fault : (fs : List Factor) (ps : List SectorValue) (f : LegFault) → IsLeg ps → All (IsOf fs) ps → IsFirstLegFault fs ps f → ⊥
no_leg_fault fs ps (ChargeRange i) h own e =
    let bad = e.here in
    let is : IsOf fs (get_or ps i no_sector) = own i no_sector bad.0 in
    none_out_of_range 1000000000 fs (get_or ps i no_sector).charge is.canonical is.within bad.1.0 bad.1.1
no_leg_fault fs ps (DimRange i) h own e =
    let bad = e.1.here in
    let dim = h.dims i no_sector bad.0 in
    let within = before_le ps (i + 1) in
    let bound = h.bound in
    ⊎_elim (λ z. omega (arith, dim.0, z)) (λ r. ⊎_elim (λ z. omega (arith, dim.1, z)) (λ z. omega (arith, within, bound, z)) r) bad.1
no_leg_fault fs ps NoSector h own e = let some = h.some in omega (arith, some, e.2)
no_leg_fault fs ps TooManySectors h own e = let few = h.few in omega (arith, few, e.2)

pub too_many_values : (fs : List Factor) (ls : List LegValue) (arrow : Dir) → 1048576 < number_of_values ls → IsFusable fs ls arrow → ⊥
too_many_values fs ls arrow lt h = let bound = h.leg.bound in omega (arith, lt, bound, fused_total fs ls arrow)

-- ---- counts

leg_counts : (ps : List SectorValue) → ((k : ℕ) (d : SectorValue) → k < length ps → 0 < (get_or ps k d).dim) → length ps ≤ total ps
leg_counts [] h = omega arith
leg_counts (p ∷ ps) h = let some = h 0 p (omega arith) in omega (arith, some, leg_counts ps (λ k d lt. h (suc k) d (omega arith)))

-- there are no more tuples than values
pub count_below : (ls : List LegValue) → All IsSound ls → count ls ≤ number_of_values ls
count_below [] h = omega arith
count_below (l ∷ ls) h =
    let sound : IsLeg l.sectors = h 0 l (omega arith) in
    let here : length l.sectors ≤ total l.sectors = leg_counts l.sectors (λ k d lt. (sound.dims k d lt).0) in
    let rest = count_below ls (λ k d lt. h (suc k) d (omega arith)) in
    let a = mul-le-mul_left (length l.sectors) rest in
    let b = mul-le-mul_right (number_of_values ls) here in
    omega (arith, a, b)

-- ---- the tuples of the first charges

size_flat : (ls : List LegValue) (f : List ℤ → List (List ℕ)) (cs : List (List ℤ)) → size_of ls (flat_map f cs) ≡ sum_over (λ c. size_of ls (f c)) cs
size_flat ls f [] = refl
size_flat ls f (c ∷ cs) = size_append ls (f c) (flat_map f cs) ∙ ap (λ n. size_of ls (f c) + n) (size_flat ls f cs)

flat_one : (f : List ℤ → List (List ℕ)) (cs : List (List ℤ)) (c : List ℤ) → flat_map f (cs ++ (c ∷ [])) ≡ flat_map f cs ++ f c
flat_one f [] c = append-nil (f c)
flat_one f (d ∷ cs) c = ap (λ ys. f d ++ ys) (flat_one f cs c) ∙ sym (append_assoc (f d) (flat_map f cs) (f c))

flat_next : (f : List ℤ → List (List ℕ)) (cs : List (List ℤ)) (i : ℕ) (c : List ℤ) → i < length cs → c ≡ get_or cs i c → flat_map f (take (i + 1) cs) ≡ flat_map f (take i cs) ++ f c
flat_next f cs i c lt e = ap (flat_map f) (take_more cs i c lt ∙ ap (λ d. take i cs ++ (d ∷ [])) (sym e)) ∙ flat_one f (take i cs) c

map_next : (f : List ℤ → SectorValue) (cs : List (List ℤ)) (i : ℕ) (c : List ℤ) → i < length cs → c ≡ get_or cs i c → map f (take (i + 1) cs) ≡ map f (take i cs) ++ (f c ∷ [])
map_next f cs i c lt e = ap (map f) (take_more cs i c lt ∙ ap (λ d. take i cs ++ (d ∷ [])) (sym e)) ∙ map-append-one (take i cs)
  where
    map-append-one : (ds : List (List ℤ)) → map f (ds ++ (c ∷ [])) ≡ map f ds ++ (f c ∷ [])
    map-append-one [] = refl
    map-append-one (d ∷ ds) = ap (λ ys. f d ∷ ys) (map-append-one ds)

-- the tuples of the i-th charge, and that their values fit
pub record IsTurn (fs : List Factor) (ls : List LegValue) (arrow : Dir) (cs : List (List ℤ)) (i : ℕ) (c : List ℤ) (ts : List (List ℕ)) (first : ℕ) : Type 0 where
  pub tuples : All (IsTuple ls) ts
  pub fits : first + size_of ls ts ≤ 1048576
  pub is : ts ≡ tuples_with fs ls arrow c

pub turn : (fs : List Factor) (ls : List LegValue) (arrow : Dir) (cs : List (List ℤ)) (i : ℕ) (c : List ℤ) (ts : List (List ℕ)) (first : ℕ) → IsGroup fs → cs ≡ fused_charges fs ls arrow → number_of_values ls ≤ 1048576 → All (IsFlux fs) cs →
    i < length cs → c ≡ get_or cs i c → ts ≡ admitted fs ls (turned fs arrow c) → first ≡ size_of ls (flat_map (tuples_with fs ls arrow) (take i cs)) → IsTurn fs ls arrow cs i c ts first
turn fs ls arrow cs i c ts first g all few fluxes lt at listed start =
    let canonical : IsCanonical fs c = subst (IsCanonical fs) (sym at) (fluxes i c lt).canonical in
    let is : ts ≡ tuples_with fs ls arrow c = listed ∙ tuples_admitted fs ls arrow c g canonical in
    let f : List ℤ → List (List ℕ) = tuples_with fs ls arrow in
    let next : size_of ls (flat_map f (take (i + 1) cs)) ≡ first + size_of ls ts =
    ap (size_of ls) (flat_next f cs i c lt at) ∙ (size_append ls (flat_map f (take i cs)) (f c) ∙ (ap (λ n. n + size_of ls (f c)) (sym start) ∙ ap (λ us. first + size_of ls us) (sym is))) in
    let part : size_of ls (flat_map f (take (i + 1) cs)) ≤ sum_over (λ d. size_of ls (f d)) cs = subst (λ n. n ≤ sum_over (λ d. size_of ls (f d)) cs) (sym (size_flat ls f (take (i + 1) cs))) (sum_take (λ d. size_of ls (f d)) cs (i + 1)) in
    let whole : sum_over (λ d. size_of ls (f d)) cs ≡ number_of_values ls = ap (sum_over (λ d. size_of ls (f d))) all ∙ charges_sum fs ls arrow in
    record {
      tuples = λ k d l. (unlisted fs ls (turned fs arrow c) (get_or ts k d) (subst (λ us. Contains us (get_or ts k d)) listed (k, l, default ts k d l))).tuple;
      fits = omega (arith, next, part, whole, few);
      is = is;
    }
  where
    default : (us : List (List ℕ)) (k : ℕ) (d : List ℕ) → k < length us → get_or us k (get_or us k d) ≡ get_or us k d
    default us k d l = get_or_default us k (get_or us k d) d l

-- what is made for the first charges
pub record IsTurned (fs : List Factor) (ls : List LegValue) (arrow : Dir) (cs : List (List ℤ)) (i n : ℕ) (ps : List SectorValue) (ss : List StartValue) : Type 0 where
  pub next : n ≡ size_of ls (flat_map (tuples_with fs ls arrow) (take i cs))
  pub sectors : ps ≡ map (sector_with fs ls arrow) (take i cs)
  pub starts : ss ≡ starts_from ls 0 (flat_map (tuples_with fs ls arrow) (take i cs))

-- one charge more
pub turned_more : (fs : List Factor) (ls : List LegValue) (arrow : Dir) (cs : List (List ℤ)) (i : ℕ) (c : List ℤ) (ts : List (List ℕ)) (first n dim : ℕ) (ps qs : List SectorValue) (ss us : List StartValue) →
    IsTurn fs ls arrow cs i c ts first → i < length cs → c ≡ get_or cs i c → IsTurned fs ls arrow cs i first ps ss → n ≡ first + size_of ls ts → dim ≡ n - first →
    qs ≡ ps ++ (record { charge = c; dim = dim } ∷ []) → us ≡ ss ++ starts_from ls first ts → IsTurned fs ls arrow cs (i + 1) n qs us
turned_more fs ls arrow cs i c ts first n dim ps qs ss us t lt at old next wide sectors starts =
    let f : List ℤ → List (List ℕ) = tuples_with fs ls arrow in
    let flat : flat_map f (take (i + 1) cs) ≡ flat_map f (take i cs) ++ ts = flat_next f cs i c lt at ∙ ap (λ vs. flat_map f (take i cs) ++ vs) (sym t.is) in
    let size : size_of ls (flat_map f (take (i + 1) cs)) ≡ size_of ls (flat_map f (take i cs)) + size_of ls ts = ap (size_of ls) flat ∙ size_append ls (flat_map f (take i cs)) ts in
    let own : dim ≡ (sector_with fs ls arrow c).dim = omega (arith, wide, next, values_size ls (f c), ap (size_of ls) t.is) in
    let made : ℕ → SectorValue = λ d. record { charge = c; dim = d } in
    record {
      next = omega (arith, next, size, old.next);
      sectors = sectors ∙ (ap (λ ks. ks ++ (made dim ∷ [])) old.sectors ∙ (ap (λ d. map (sector_with fs ls arrow) (take i cs) ++ (made d ∷ [])) own ∙ sym (map_next (sector_with fs ls arrow) cs i c lt at)));
      starts = starts ∙ (ap (λ ks. ks ++ starts_from ls first ts) old.starts
          ∙ (ap (λ k. starts_from ls 0 (flat_map f (take i cs)) ++ starts_from ls k ts) (old.next ∙ sym (zero-add (size_of ls (flat_map f (take i cs)))))
          ∙ (sym (starts_append ls 0 (flat_map f (take i cs)) ts) ∙ ap (starts_from ls 0) (sym flat))));
    }

-- what is made for all charges
pub turned_all : (fs : List Factor) (ls : List LegValue) (arrow : Dir) (cs : List (List ℤ)) (i n : ℕ) (ps : List SectorValue) (ss : List StartValue) → cs ≡ fused_charges fs ls arrow → length cs ≤ i → IsTurned fs ls arrow cs i n ps ss →
    (ps ≡ fused_sectors fs ls arrow) × (ss ≡ fused_starts fs ls arrow)
turned_all fs ls arrow cs i n ps ss e le h =
    let all : take i cs ≡ fused_charges fs ls arrow = take_all i cs le ∙ e in
    (h.sectors ∙ ap (map (sector_with fs ls arrow)) all, h.starts ∙ ap (λ ds. starts_from ls 0 (flat_map (tuples_with fs ls arrow) ds)) all)
