-- Contractions of tensors that differ only where they meet nothing.
use Rattle.std.proofs.Common.{◌≡◌, ◌<◌, ℕ, suc, ◌*◌, ℤ, Bool, true, ◌&&◌, cond, List, [], ◌∷◌, ◌++◌, refl, sym, ◌∙◌, ap, ap₂, subst, map, length, get_or, append-nil, eq-eqb, zero-add, ◌⊎◌, inl, inr, arith, int_eq}
use mathlib.Core.Path.{fun_ext}
use Rattle.std.specs.List.{All}
use Rattle.std.proofs.lemmas.List.{map-append}
use Rattle.std.proofs.lemmas.List.FromFn.{get_or-map-range_with_len}
use Rattle.qn_sign.specs.Positions.{positions}
use Rattle.qn_gauss.specs.Gaussian.{zero_g, one_g, mul_g, mag, signed}
use Rattle.qn_gauss.proofs.Ring.{zero_mul, mul_zero}
use Rattle.qn_charge.specs.Charges.{parity, sum_charge}
use Rattle.qn_index.specs.Tuples.{admitted}
use Rattle.qn_index.specs.Legs.{LegValue}
use Rattle.qn_value.specs.Networks.{End, Bond, Assignment, assign, in_end, out_end, product, sign, values, at_values}
use Rattle.qn_value.specs.Tensors.{Row, TensorValue, entry_of, entry_at}
use Rattle.qn_value.specs.Labels.{Slot, slots_of, slots, ends, node_of, bonds_of, opens_of, parity_of}
use Rattle.qn_value.specs.Local.{open_from, open_legs, shared_couples, pair_network, pair_entry, IsCoupling}
use Rattle.qn_value.specs.Magnitudes.{first_passing, total_below, total, magnitudes, pair_magnitude}
use Rattle.qn_value.specs.Rows.{meet_on}
use Rattle.qn_value.proofs.Sums.{Meets, meets-perm, assign_both, sums-meet}
use Rattle.qn_value.proofs.MagnitudeLemmas.{mag_zero}
use Rattle.qn_value.proofs.CoupledLemmas.{all_long}
use Rattle.qn_match.specs.Pairs.{agree, IsShared}
use Rattle.qn_strides.specs.Strides.{couples_meet}
use Rattle.qn_strides.proofs.Goal.{bonds_at, bonds_perm, end_at, all_ends, numbered}
use Rattle.qn_strides.proofs.Along.{map-map}
use Rattle.qn_strides.proofs.Lines.{ends_all, GivesTuple, meets_are}
use Rattle.qn_kernel.specs.Sources.{couples_of}
use Rattle.qn_pair.proofs.Words.{coupling, couples_agree}
use Rattle.qn_pair.proofs.Contracted.{slots_two, first_labelled, second_labelled}
use Rattle.qn_unmet.specs.Unmet.{MeetsNothing, UnmetLaw, UnmetPairLaw, passing_place}

-- sums of natural numbers whose summands agree wherever the ends of each bond have one value

below_same : (n : ℕ) (f g : ℕ → ℕ) → ((v : ℕ) → f v ≡ g v) → total_below n f ≡ total_below n g
below_same n f g h = ap (total_below n) (fun_ext h)

total_kept : (P : Assignment → Type 0) → ((c : Assignment) (l : ℤ) (v : ℕ) → P c → P (assign c l v)) → (bs : List Bond) (f g : Assignment → ℕ) →
    ((c : Assignment) → P c → Meets bs c → f c ≡ g c) → (a : Assignment) → P a → total bs f a ≡ total bs g a
total_kept P stable [] f g h a p = h a p tt
total_kept P stable (b ∷ bs) f g h a p =
    below_same b.dim (λ v. total bs f (assign a b.label v)) (λ v. total bs g (assign a b.label v)) (λ v.
    total_kept (λ c. P c × (c (in_end b) ≡ c (out_end b))) (λ c l u q. (stable c l u q.0, ap (cond (int_eq b.label l) u) q.1)) bs f g
    (λ c q m. h c q.0 (q.1, m)) (assign a b.label v) (stable a b.label v p, assign_both b a v))

pub total_meet : (bs : List Bond) (f g : Assignment → ℕ) → ((c : Assignment) → Meets bs c → f c ≡ g c) → (a : Assignment) → total bs f a ≡ total bs g a
total_meet bs f g h a = total_kept (λ c. Unit {0}) (λ c l v p. tt) bs f g (λ c p m. h c m) a tt

-- the bonds meet
meet_from : (bs : List Bond) (k : Assignment) → Meets bs k → meet_on bs k ≡ true
meet_from [] k m = refl
meet_from (b ∷ bs) k m = ap₂ (λ p q. p && q) (eq-eqb (k (in_end b)) (k (out_end b)) m.0) (meet_from bs k m.1)

-- as many values as legs
values_long : (gs : List LegValue) (ls : List ℤ) (k : Assignment) → length ls ≡ length gs → length (values (ends (slots_of gs ls)) k) ≡ length gs
values_long [] ls k n = refl
values_long (g ∷ gs) [] k n = absurd (omega (arith, n))
values_long (g ∷ gs) (l ∷ ls) k n = ap suc (values_long gs ls k (omega (arith, n)))

pub ends_count : (gs : List LegValue) (ls : List ℤ) → length ls ≡ length gs → length (ends (slots_of gs ls)) ≡ length gs
ends_count [] ls n = refl
ends_count (g ∷ gs) [] n = absurd (omega (arith, n))
ends_count (g ∷ gs) (l ∷ ls) n = ap suc (ends_count gs ls (omega (arith, n)))

ends_append : (ss us : List Slot) → ends (ss ++ us) ≡ ends ss ++ ends us
ends_append ss us = map-append (λ (s : Slot). s.end) ss us

module _ (a b : TensorValue) (shared : List (ℕ × ℕ)) (sh : IsShared a.legs b.legs shared) where
  abbrev cs : List (ℕ × ℕ)
  cs = couples_of (length a.legs) shared

  abbrev word : List LegValue
  word = a.legs ++ b.legs

  good : IsCoupling (a.legs ++ b.legs) (couples_of (length a.legs) shared)
  good = coupling a.legs b.legs shared sh

  abbrev pub bonds : List Bond
  bonds = bonds_of [] (slots (pair_network a b shared))

  abbrev pub firsts : List End
  firsts = (node_of (first_labelled a b (couples_of (length a.legs) shared))).ends

  abbrev pub seconds : List End
  seconds = (node_of (second_labelled a b (couples_of (length a.legs) shared))).ends

  pub first_long : (k : Assignment) → length (values firsts k) ≡ length a.legs
  first_long k = values_long a.legs (first_labelled a b cs).labels k (all_long (a ∷ b ∷ []) cs).0

  pub second_long : (k : Assignment) → length (values seconds k) ≡ length b.legs
  second_long k = values_long b.legs (second_labelled a b cs).labels k (all_long (a ∷ b ∷ []) cs).1.0

  pub first_count : length firsts ≡ length a.legs
  first_count = ends_count a.legs (first_labelled a b cs).labels (all_long (a ∷ b ∷ []) cs).0

  -- both tensors' ends are those of the word
  pub ends_whole : firsts ++ seconds ≡ all_ends (a.legs ++ b.legs) (couples_of (length a.legs) shared)
  ends_whole =
      ap (λ es. firsts ++ es) (sym (append-nil seconds))
      ∙ sym (ends_append (slots_of a.legs (first_labelled a b cs).labels) (slots_of b.legs (second_labelled a b cs).labels ++ [])
      ∙ ap (λ es. firsts ++ es) (ends_append (slots_of b.legs (second_labelled a b cs).labels) []))
      ∙ ap ends (slots_two a b cs) ∙ ends_all word cs

  whole : (k : Assignment) → values firsts k ++ values seconds k ≡ map k (all_ends word cs)
  whole k = sym (map-append k firsts seconds) ∙ ap (map k) ends_whole

  gives : (k : Assignment) → GivesTuple (a.legs ++ b.legs) (couples_of (length a.legs) shared) (values firsts k ++ values seconds k) k
  gives k i l =
      sym (ap (λ vs. get_or vs i 0) (whole k ∙ map-map (end_at word cs) k (positions (length word)))
      ∙ get_or-map-range_with_len (λ j. k (end_at word cs j)) 0 (length word) i i 0 l (zero-add i))

  -- where the bonds meet, the two tensors' values agree
  pub agreed : (k : Assignment) → Meets bonds k → agree shared (values firsts k) (values seconds k) ≡ true
  agreed k m =
      sym (couples_agree (values firsts k) (values seconds k) shared (subst (λ n. All (λ (p : ℕ × ℕ). p.0 < n) shared) (sym (first_long k)) sh.first))
      ∙ ap (λ n. couples_meet (couples_of n shared) (values firsts k ++ values seconds k)) (first_long k)
      ∙ sym (meets_are 1 word cs cs (values firsts k ++ values seconds k) k (gives k) (numbered word cs good))
      ∙ meet_from (bonds_at 1 word cs) k (meets-perm (bonds_perm word cs good) k (subst (λ ss. Meets (bonds_of [] ss) k) (slots_two a b cs) m))

-- the tensor with other rows
abbrev with_rows : TensorValue → List Row → TensorValue
with_rows a rs = record { group = a.group; legs = a.legs; flux = a.flux; rows = rs }

abbrev HaveAlike : TensorValue → TensorValue → List (ℕ × ℕ) → List Row → Type 0
HaveAlike a b shared rs = (xs : List ℕ) → length xs ≡ length a.legs → (entry_at rs xs ≡ entry_at a.rows xs) ⊎ MeetsNothing shared b xs

module _ (a b : TensorValue) (shared : List (ℕ × ℕ)) (sh : IsShared a.legs b.legs shared) (rs : List Row) (h : HaveAlike a b shared rs) where
  same_product : (k : Assignment) → Meets (bonds a b shared sh) k →
      product (map node_of (pair_network (with_rows a rs) b shared)) k ≡ product (map node_of (pair_network a b shared)) k
  same_product k m = go (h (values (firsts a b shared sh) k) (first_long a b shared sh k))
    where
      go : (entry_at rs (values (firsts a b shared sh) k) ≡ entry_at a.rows (values (firsts a b shared sh) k)) ⊎ MeetsNothing shared b (values (firsts a b shared sh) k) →
          mul_g (entry_at rs (values (firsts a b shared sh) k)) (mul_g (entry_of b (values (seconds a b shared sh) k)) one_g)
          ≡ mul_g (entry_at a.rows (values (firsts a b shared sh) k)) (mul_g (entry_of b (values (seconds a b shared sh) k)) one_g)
      go (inl e) = ap (λ z. mul_g z (mul_g (entry_of b (values (seconds a b shared sh) k)) one_g)) e
      go (inr n) =
          let z : mul_g (entry_of b (values (seconds a b shared sh) k)) one_g ≡ zero_g =
          ap (λ w. mul_g w one_g) (n (values (seconds a b shared sh) k) (second_long a b shared sh k) (agreed a b shared sh k m)) ∙ zero_mul one_g in
          ap (mul_g (entry_at rs (values (firsts a b shared sh) k))) z ∙ mul_zero (entry_at rs (values (firsts a b shared sh) k))
          ∙ sym (ap (mul_g (entry_at a.rows (values (firsts a b shared sh) k))) z ∙ mul_zero (entry_at a.rows (values (firsts a b shared sh) k)))

  same_magnitudes : (k : Assignment) → Meets (bonds a b shared sh) k →
      magnitudes (map node_of (pair_network (with_rows a rs) b shared)) k ≡ magnitudes (map node_of (pair_network a b shared)) k
  same_magnitudes k m = go (h (values (firsts a b shared sh) k) (first_long a b shared sh k))
    where
      nothing : (p q r : ℕ) → r ≡ 0 → p * (r * 1) ≡ q * (r * 1)
      nothing p q r e = ap (λ n. p * (n * 1)) e ∙ zeros p ∙ sym (ap (λ n. q * (n * 1)) e ∙ zeros q)
        where
          zeros : (n : ℕ) → n * (0 * 1) ≡ 0
          zeros n = omega arith

      go : (entry_at rs (values (firsts a b shared sh) k) ≡ entry_at a.rows (values (firsts a b shared sh) k)) ⊎ MeetsNothing shared b (values (firsts a b shared sh) k) →
          mag (entry_at rs (values (firsts a b shared sh) k)) * (mag (entry_of b (values (seconds a b shared sh) k)) * 1)
          ≡ mag (entry_at a.rows (values (firsts a b shared sh) k)) * (mag (entry_of b (values (seconds a b shared sh) k)) * 1)
      go (inl e) = ap (λ z. mag z * (mag (entry_of b (values (seconds a b shared sh) k)) * 1)) e
      go (inr n) =
          nothing (mag (entry_at rs (values (firsts a b shared sh) k))) (mag (entry_at a.rows (values (firsts a b shared sh) k))) (mag (entry_of b (values (seconds a b shared sh) k)))
          (ap mag (n (values (seconds a b shared sh) k) (second_long a b shared sh k) (agreed a b shared sh k m)) ∙ mag_zero)

  same_entry : (between : Bool) (xs : List ℕ) → pair_entry (with_rows a rs) b shared between xs ≡ pair_entry a b shared between xs
  same_entry between xs =
      let ss : List Slot = slots (pair_network a b shared) in
      let os : List End = opens_of (ends ss) (length xs) in
      ap (signed (between && parity b.group b.flux))
      (sums-meet (bonds a b shared sh)
      (λ k. signed (sign (parity_of a.group ss) (map node_of (pair_network (with_rows a rs) b shared)) (bonds a b shared sh) os k) (product (map node_of (pair_network (with_rows a rs) b shared)) k))
      (λ k. signed (sign (parity_of a.group ss) (map node_of (pair_network a b shared)) (bonds a b shared sh) os k) (product (map node_of (pair_network a b shared)) k))
      (λ k m. ap (signed (sign (parity_of a.group ss) (map node_of (pair_network a b shared)) (bonds a b shared sh) os k)) (same_product k m)) (at_values os xs))

  same_magnitude : (xs : List ℕ) → pair_magnitude (with_rows a rs) b shared xs ≡ pair_magnitude a b shared xs
  same_magnitude xs =
      total_meet (bonds a b shared sh) (magnitudes (map node_of (pair_network (with_rows a rs) b shared))) (magnitudes (map node_of (pair_network a b shared))) same_magnitudes
      (at_values (opens_of (ends (slots (pair_network a b shared))) (length xs)) xs)

pub unmet : UnmetLaw
unmet a c b shared sh h =
    subst (λ t. ((between : Bool) (xs : List ℕ) → pair_entry t b shared between xs ≡ pair_entry a b shared between xs)
    × ((xs : List ℕ) → pair_magnitude t b shared xs ≡ pair_magnitude a b shared xs) × (passing_place t b shared ≡ passing_place a b shared)) (sym same) (
      same_entry a b shared sh c.rows h.entries,
      same_magnitude a b shared sh c.rows h.entries,
      ap (λ size. first_passing size ls (admitted a.group ls (sum_charge a.group a.flux b.flux))) (fun_ext (same_magnitude a b shared sh c.rows h.entries)),
    )
  where
    same : c ≡ with_rows a c.rows
    same = λ i. record { group = h.group i; legs = h.legs i; flux = h.flux i; rows = c.rows }

    ls : List LegValue
    ls = open_legs (a ∷ b ∷ []) (shared_couples a shared)

pub unmet_pair : UnmetPairLaw
unmet_pair a c b r shared between sh h m = record {
  group = m.group ∙ h.group;
  legs = m.legs ∙ ap (λ ls. open_from 0 (couples_of (length ls) shared) (ls ++ (b.legs ++ []))) h.legs;
  flux = m.flux ∙ (λ i. sum_charge (h.group i) (h.flux i) b.flux);
  entries = λ xs v. m.entries xs v ∙ (unmet a c b shared sh h).0 between xs;
}
