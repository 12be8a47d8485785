-- Partial tuples: the tuples that each can become, one leg more, and the end.
use Rattle.std.proofs.Common.{◌≡◌, ℕ, zero, suc, ◌+◌, ◌*◌, ◌≤◌, ◌<◌, ◌-◌, ◌^◌, ℤ, List, [], ◌∷◌, ◌++◌, length, map, drop, get_or, Bool, true, false, cond, arith, refl, ap, ◌∙◌, sym, subst, append_assoc}
use Rattle.std.specs.List.{All, flat_map}
use Rattle.std.specs.Cmp.Lexicographic.{pointwise}
use Rattle.std.specs.Ordering.{int_eq}
use Rattle.std.proofs.lemmas.List.{append-nil, at_drop_more, drop_all, map-append}
use Rattle.std.proofs.lemmas.List.Elements.{All-nil, All-cons, All-append, All-tail, All-drop}
use Rattle.qn_charge.specs.declared.factor.Factor.{Factor}
use Rattle.qn_charge.specs.Charges.{zero_charge, neg_charge, IsCanonical, IsWithin, IsGroup}
use Rattle.qn_charge.specs.Laws.{canonical_sum, within_sum, within_neg, within_more}
use Rattle.qn_index.specs.Legs.{LegValue, IsSound}
use Rattle.qn_index.specs.Tuples.{signed, upward, admitted}
use Rattle.qn_index.specs.Extents.{capped, entries}
use Rattle.qn_index.specs.Weights.{WeightValue, weight, has_charge, IsTable, IsChargeWithin, remaining, PartialValue, extended, extensions, finished}
use Rattle.qn_index.proofs.Admitted.{admitted_step, none_admitted, pieces_same}
use Rattle.qn_index.proofs.Counts.{no_weight}

-- the tuples that a partial tuple can become
abbrev pub completed : List Factor → List LegValue → PartialValue → List (List ℕ)
completed fs ls p = map (λ t. p.list ++ t) (admitted fs ls p.flux)

-- those that any of these can become, in order
abbrev pub completions : List Factor → List LegValue → List PartialValue → List (List ℕ)
completions fs ls ps = flat_map (completed fs ls) ps

pieces_append : {A B : Type 0} (f : A → List B) (xs ys : List A) → flat_map f (xs ++ ys) ≡ flat_map f xs ++ flat_map f ys
pieces_append f [] ys = refl
pieces_append f (x ∷ xs) ys = ap (λ zs. f x ++ zs) (pieces_append f xs ys) ∙ sym (append_assoc (f x) (flat_map f xs) (flat_map f ys))

map_pieces : {A B : Type 0} (f : A → B) (h : ℕ → List A) (ss : List ℕ) → map f (flat_map h ss) ≡ flat_map (λ s. map f (h s)) ss
map_pieces f h [] = refl
map_pieces f h (s ∷ ss) = map-append f (h s) (flat_map h ss) ∙ ap (λ zs. map f (h s) ++ zs) (map_pieces f h ss)

put_after : (xs : List ℕ) (s : ℕ) (ts : List (List ℕ)) → map (λ t. (xs ++ s ∷ []) ++ t) ts ≡ map (λ t. xs ++ t) (map (λ t. s ∷ t) ts)
put_after xs s [] = refl
put_after xs s (t ∷ ts) = ap (λ y. y ∷ map (λ u. (xs ++ s ∷ []) ++ u) ts) (append_assoc xs (s ∷ []) t) ∙ ap (λ ys. (xs ++ s ∷ t) ∷ ys) (put_after xs s ts)

-- no row, no tuple
pub none_without_row : (fs : List Factor) (ls : List LegValue) (ws : List WeightValue) (q : List ℤ) → All IsSound ls → IsTable fs ls ws → IsCanonical fs q → has_charge ws q ≡ false → admitted fs ls q ≡ []
none_without_row fs ls ws q sound t h e =
    let none : weight ws q ≡ 0 = no_weight ws q e in
    let same : capped (2 ^ 22) (weight ws q) ≡ capped (2 ^ 22) (entries fs ls q) = t.weights q h in
    none_admitted fs ls q sound (omega (arith, none, same))

-- the tuples after some sectors of the next leg
one_leg : (fs : List Factor) (l : LegValue) (ls : List LegValue) (ws : List WeightValue) (p : PartialValue) (ss : List ℕ) → IsGroup fs → All IsSound ls → IsTable fs ls ws → completions fs ls (extensions fs l ws p ss) ≡ flat_map (λ s. map (λ t. p.list ++ t) (map (λ t. s ∷ t) (admitted fs ls (remaining fs (signed fs l s) p.flux)))) ss
one_leg fs l ls ws p [] g sound t = refl
one_leg fs l ls ws p (s ∷ ss) g sound t =
    by (has_charge ws (remaining fs (signed fs l s) p.flux)) refl (one_leg fs l ls ws p ss g sound t)
  where
    rest : List (List ℕ)
    rest = flat_map (λ k. map (λ u. p.list ++ u) (map (λ u. k ∷ u) (admitted fs ls (remaining fs (signed fs l k) p.flux)))) ss

    here : List (List ℕ)
    here = admitted fs ls (remaining fs (signed fs l s) p.flux)

    by : (b : Bool) → has_charge ws (remaining fs (signed fs l s) p.flux) ≡ b → completions fs ls (extensions fs l ws p ss) ≡ flat_map (λ k. map (λ u. p.list ++ u) (map (λ u. k ∷ u) (admitted fs ls (remaining fs (signed fs l k) p.flux)))) ss → completions fs ls (cond b (extended fs l p s ∷ extensions fs l ws p ss) (extensions fs l ws p ss)) ≡ map (λ u. p.list ++ u) (map (λ u. s ∷ u) (admitted fs ls (remaining fs (signed fs l s) p.flux))) ++ flat_map (λ k. map (λ u. p.list ++ u) (map (λ u. k ∷ u) (admitted fs ls (remaining fs (signed fs l k) p.flux)))) ss
    by true e more =
        ap (λ zs. map (λ u. (p.list ++ s ∷ []) ++ u) (admitted fs ls (remaining fs (signed fs l s) p.flux)) ++ zs) more
        ∙ ap (λ zs. zs ++ flat_map (λ k. map (λ u. p.list ++ u) (map (λ u. k ∷ u) (admitted fs ls (remaining fs (signed fs l k) p.flux)))) ss) (put_after p.list s (admitted fs ls (remaining fs (signed fs l s) p.flux)))
    by false e more =
        let none = none_without_row fs ls ws (remaining fs (signed fs l s) p.flux) sound t (canonical_sum fs (neg_charge fs (signed fs l s)) p.flux g) e in
        more ∙ sym (ap (λ us. map (λ u. p.list ++ u) (map (λ u. s ∷ u) us) ++ flat_map (λ k. map (λ u. p.list ++ u) (map (λ u. k ∷ u) (admitted fs ls (remaining fs (signed fs l k) p.flux)))) ss) none)

-- one leg more loses no tuple and makes none
pub all_legs : (fs : List Factor) (l : LegValue) (ls : List LegValue) (ws : List WeightValue) (ps : List PartialValue) → IsGroup fs → All IsSound ls → IsTable fs ls ws → All (λ (p : PartialValue). IsCanonical fs p.flux) ps → completions fs ls (flat_map (λ p. extensions fs l ws p (upward 0 (length l.sectors))) ps) ≡ completions fs (l ∷ ls) ps
all_legs fs l ls ws [] g sound t a = refl
all_legs fs l ls ws (p ∷ ps) g sound t a =
    let ss = upward 0 (length l.sectors) in
    pieces_append (completed fs ls) (extensions fs l ws p ss) (flat_map (λ r. extensions fs l ws r ss) ps)
    ∙ (ap (λ zs. zs ++ completions fs ls (flat_map (λ r. extensions fs l ws r ss) ps))
    (one_leg fs l ls ws p ss g sound t
    ∙ sym (ap (map (λ u. p.list ++ u)) (admitted_step fs l ls p.flux g (a 0 p (omega arith))) ∙ map_pieces (λ u. p.list ++ u) (λ s. map (λ u. s ∷ u) (admitted fs ls (remaining fs (signed fs l s) p.flux))) ss))
    ∙ ap (λ zs. completed fs (l ∷ ls) p ++ zs) (all_legs fs l ls ws ps g sound t (All-tail (λ (r : PartialValue). IsCanonical fs r.flux) p ps a)))

-- with no leg left
pub all_ends : (fs : List Factor) (ps : List PartialValue) → completions fs [] ps ≡ flat_map (finished fs) ps
all_ends fs ps = pieces_same (completed fs []) (finished fs) ps one
  where
    ends : (p : PartialValue) (b : Bool) → map (λ t. p.list ++ t) (cond b ([] ∷ []) []) ≡ cond b (p.list ∷ []) []
    ends p true = ap (λ xs. xs ∷ []) (append-nil p.list)
    ends p false = refl

    one : (p : PartialValue) → completed fs [] p ≡ finished fs p
    one p = ends p (pointwise int_eq (zero_charge fs) p.flux)

map_same : (ts : List (List ℕ)) → map (λ t. [] ++ t) ts ≡ ts
map_same [] = refl
map_same (t ∷ ts) = ap (λ us. t ∷ us) (map_same ts)

-- with every leg left
pub all_starts : (fs : List Factor) (ls : List LegValue) (q : List ℤ) → completions fs ls (record { list = []; flux = q } ∷ []) ≡ admitted fs ls q
all_starts fs ls q = append-nil (map (λ t. [] ++ t) (admitted fs ls q)) ∙ map_same (admitted fs ls q)

-- ---- fluxes

-- how far the flux of a partial tuple goes
abbrev pub IsPartial : ℕ → List Factor → PartialValue → Type 0
IsPartial n fs p = IsChargeWithin n fs p.flux

pub flux_left : (m n : ℕ) (fs : List Factor) (own q : List ℤ) → IsGroup fs → IsWithin m fs own → IsWithin n fs q → IsChargeWithin (m + n) fs (remaining fs own q)
flux_left m n fs own q g h k = record { canonical = canonical_sum fs (neg_charge fs own) q g; within = within_sum m n fs (neg_charge fs own) q (within_neg m fs own h) k }

fluxes_one : (m n : ℕ) (fs : List Factor) (l : LegValue) (ws : List WeightValue) (p : PartialValue) (i k : ℕ) → IsGroup fs → ((s : ℕ) → s < i + k → IsWithin m fs (signed fs l s)) → IsPartial n fs p → All (IsPartial (m + n) fs) (extensions fs l ws p (upward i k))
fluxes_one m n fs l ws p i zero g h a = All-nil (IsPartial (m + n) fs)
fluxes_one m n fs l ws p i (suc k) g h a =
    by (has_charge ws (remaining fs (signed fs l i) p.flux)) (flux_left m n fs (signed fs l i) p.flux g (h i (omega arith)) a.within) (fluxes_one m n fs l ws p (i + 1) k g (λ s lt. h s (omega arith)) a)
  where
    by : (b : Bool) → IsPartial (m + n) fs (extended fs l p i) → All (IsPartial (m + n) fs) (extensions fs l ws p (upward (i + 1) k)) → All (IsPartial (m + n) fs) (cond b (extended fs l p i ∷ extensions fs l ws p (upward (i + 1) k)) (extensions fs l ws p (upward (i + 1) k)))
    by true e more = All-cons (IsPartial (m + n) fs) (extended fs l p i) (extensions fs l ws p (upward (i + 1) k)) e more
    by false e more = more

pub fluxes_all : (m n : ℕ) (fs : List Factor) (l : LegValue) (ws : List WeightValue) (ps : List PartialValue) (k : ℕ) → IsGroup fs → ((s : ℕ) → s < k → IsWithin m fs (signed fs l s)) → All (IsPartial n fs) ps → All (IsPartial (m + n) fs) (flat_map (λ p. extensions fs l ws p (upward 0 k)) ps)
fluxes_all m n fs l ws [] k g h a = All-nil (IsPartial (m + n) fs)
fluxes_all m n fs l ws (p ∷ ps) k g h a =
    All-append (IsPartial (m + n) fs) (extensions fs l ws p (upward 0 k)) (flat_map (λ r. extensions fs l ws r (upward 0 k)) ps)
    (fluxes_one m n fs l ws p 0 k g (λ s lt. h s (omega arith)) (a 0 p (omega arith)))
    (fluxes_all m n fs l ws ps k g h (All-tail (IsPartial n fs) p ps a))

-- the partial tuples over the first i legs
pub record IsOpen (fs : List Factor) (ls : List LegValue) (q : List ℤ) (i : ℕ) (ps : List PartialValue) : Type 0 where
  pub all : completions fs (drop i ls) ps ≡ admitted fs ls q
  pub fluxes : All (IsPartial (1000000000 * i + 2 ^ 50) fs) ps

pub open_first : (fs : List Factor) (ls : List LegValue) (q : List ℤ) → IsChargeWithin (2 ^ 50) fs q → IsOpen fs ls q 0 (record { list = []; flux = q } ∷ [])
open_first fs ls q h = record {
  all = all_starts fs ls q;
  fluxes = All-cons (IsPartial (1000000000 * 0 + 2 ^ 50) fs) (record { list = []; flux = q }) [] h (All-nil (IsPartial (1000000000 * 0 + 2 ^ 50) fs));
}

pub open_more : (fs : List Factor) (ls : List LegValue) (q : List ℤ) (i : ℕ) (l : LegValue) (ws : List WeightValue) (ps new : List PartialValue) → IsGroup fs → All IsSound ls → i < length ls → l ≡ get_or ls i l → ((s : ℕ) → s < length l.sectors → IsWithin 1000000000 fs (signed fs l s)) → IsTable fs (drop (i + 1) ls) ws → new ≡ flat_map (λ p. extensions fs l ws p (upward 0 (length l.sectors))) ps → IsOpen fs ls q i ps → IsOpen fs ls q (i + 1) new
open_more fs ls q i l ws ps new g sound lt is w t e h = record {
  all =
      ap (completions fs (drop (i + 1) ls)) e
      ∙ (all_legs fs l (drop (i + 1) ls) ws ps g (All-drop IsSound (i + 1) ls sound) t (λ k d k-lt. (h.fluxes k d k-lt).canonical)
      ∙ (sym (at_drop_more (λ ks. completions fs ks ps) ls i l lt ∙ ap (λ (k : LegValue). completions fs (k ∷ drop (i + 1) ls) ps) (sym is)) ∙ h.all));
  fluxes =
      let n : 1000000000 + (1000000000 * i + 2 ^ 50) ≡ 1000000000 * (i + 1) + 2 ^ 50 = omega arith in
      subst (λ ps'. All (IsPartial (1000000000 * (i + 1) + 2 ^ 50) fs) ps') (sym e) (subst (λ b. All (IsPartial b fs) (flat_map (λ p. extensions fs l ws p (upward 0 (length l.sectors))) ps)) n (fluxes_all 1000000000 (1000000000 * i + 2 ^ 50) fs l ws ps (length l.sectors) g w h.fluxes));
}

pub open_last : (fs : List Factor) (ls : List LegValue) (q : List ℤ) (i : ℕ) (ps : List PartialValue) → length ls ≤ i → IsOpen fs ls q i ps → flat_map (finished fs) ps ≡ admitted fs ls q
open_last fs ls q i ps le h = sym (all_ends fs ps) ∙ (ap (λ ks. completions fs ks ps) (sym (drop_all i ls le)) ∙ h.all)

-- ---- lists made piece by piece

pub pieces_more : {A B : Type 0} (f : A → List B) (xs : List A) (i : ℕ) (x : A) (out all : List B) → i < length xs → x ≡ get_or xs i x → out ++ flat_map f (drop i xs) ≡ all → (out ++ f x) ++ flat_map f (drop (i + 1) xs) ≡ all
pieces_more f xs i x out all lt is e =
    append_assoc out (f x) (flat_map f (drop (i + 1) xs))
    ∙ (sym (ap (λ zs. out ++ zs) (at_drop_more (flat_map f) xs i x lt ∙ ap (λ y. f y ++ flat_map f (drop (i + 1) xs)) (sym is))) ∙ e)

pub pieces_all : {A B : Type 0} (f : A → List B) (xs : List A) (i : ℕ) (out all : List B) → length xs ≤ i → out ++ flat_map f (drop i xs) ≡ all → out ≡ all
pieces_all f xs i out all le e = sym (ap (λ ys. out ++ flat_map f ys) (drop_all i xs le) ∙ append-nil out) ∙ e

-- one sector
pub extension_none : (fs : List Factor) (l : LegValue) (ws : List WeightValue) (p : PartialValue) (s : ℕ) (q : List ℤ) → q ≡ remaining fs (signed fs l s) p.flux → has_charge ws q ≡ false → extensions fs l ws p (s ∷ []) ≡ []
extension_none fs l ws p s q e h = ap (λ b. cond b (extended fs l p s ∷ []) []) (ap (has_charge ws) (sym e) ∙ h)

pub extension_some : (fs : List Factor) (l : LegValue) (ws : List WeightValue) (p : PartialValue) (s : ℕ) (q : List ℤ) → q ≡ remaining fs (signed fs l s) p.flux → has_charge ws q ≡ true → extensions fs l ws p (s ∷ []) ≡ extended fs l p s ∷ []
extension_some fs l ws p s q e h = ap (λ b. cond b (extended fs l p s ∷ []) []) (ap (has_charge ws) (sym e) ∙ h)

extension_first : (fs : List Factor) (l : LegValue) (ws : List WeightValue) (p : PartialValue) (s : ℕ) (ss : List ℕ) → extensions fs l ws p (s ∷ ss) ≡ extensions fs l ws p (s ∷ []) ++ extensions fs l ws p ss
extension_first fs l ws p s ss = by (has_charge ws (remaining fs (signed fs l s) p.flux))
  where
    by : (b : Bool) → cond b (extended fs l p s ∷ extensions fs l ws p ss) (extensions fs l ws p ss) ≡ cond b (extended fs l p s ∷ []) [] ++ extensions fs l ws p ss
    by true = refl
    by false = refl

pub extension_more : (fs : List Factor) (l : LegValue) (ws : List WeightValue) (p : PartialValue) (out all : List PartialValue) (s n : ℕ) → s < n → out ++ extensions fs l ws p (upward s (n - s)) ≡ all → (out ++ extensions fs l ws p (s ∷ [])) ++ extensions fs l ws p (upward (s + 1) (n - (s + 1))) ≡ all
extension_more fs l ws p out all s n lt e =
    let k : n - s ≡ suc (n - (s + 1)) = omega arith in
    let more = upward (s + 1) (n - (s + 1)) in
    append_assoc out (extensions fs l ws p (s ∷ [])) (extensions fs l ws p more)
    ∙ (ap (λ zs. out ++ zs) (sym (extension_first fs l ws p s more)) ∙ (sym (ap (λ j. out ++ extensions fs l ws p (upward s j)) k) ∙ e))

pub extension_end : (fs : List Factor) (l : LegValue) (ws : List WeightValue) (p : PartialValue) (out all : List PartialValue) (s n : ℕ) → n ≤ s → out ++ extensions fs l ws p (upward s (n - s)) ≡ all → out ≡ all
extension_end fs l ws p out all s n le e =
    let k : n - s ≡ 0 = omega arith in
    sym (ap (λ j. out ++ extensions fs l ws p (upward s j)) k ∙ append-nil out) ∙ e

-- a partial tuple of these sectors and this flux
abbrev pub partial_of : List ℕ → List ℤ → PartialValue
partial_of xs q = record { list = xs; flux = q }

pub fluxes_few : (fs : List Factor) (i : ℕ) (ps : List PartialValue) → i ≤ 64 → All (IsPartial (1000000000 * i + 2 ^ 50) fs) ps → All (IsPartial (2 ^ 51) fs) ps
fluxes_few fs i ps le a = λ k d lt.
    let r = a k d lt in
    let m : 1000000000 * i + 2 ^ 50 ≤ 2 ^ 51 = omega arith in
    record { canonical = r.canonical; within = within_more (1000000000 * i + 2 ^ 50) (2 ^ 51) fs (get_or ps k d).flux m r.within }
