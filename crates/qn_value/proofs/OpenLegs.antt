-- The open legs of coupled tensors, in their order, and what a contraction is off its flux.
use Rattle.std.proofs.lemmas.Simd.{map-map}
use Rattle.std.proofs.lemmas.List.Elements.{filter-append}
use Rattle.std.proofs.Common.{◌≡◌, ◌≤◌, ◌<◌, ℕ, zero, suc, ◌+◌, ℤ, negsuc, Bool, true, false, not, cond, List, [], ◌∷◌, ◌++◌, refl, sym, ◌∙◌, ap, ap₂, subst, map, filter, length, drop, get_or, ◌==◌, ◌||◌, eqb-true, eq-eqb, append-nil, add-one, zero-add, ◌⊎◌, inl, inr, arith}
use Rattle.std.specs.List.{range_with_len}
use Rattle.std.proofs.lemmas.List.{map-append, length-map}
use Rattle.std.proofs.lemmas.Bool.{or_left, or_right, false≢true}
use Rattle.qn_sign.specs.Sign.{is_in}
use Rattle.qn_sign.specs.Positions.{positions}
use Rattle.qn_gauss.specs.Gaussian.{zero_g}
use Rattle.qn_charge.specs.declared.factor.Factor.{Factor}
use Rattle.qn_charge.specs.Charges.{IsGroup, sum_charge}
use Rattle.qn_index.specs.Legs.{LegValue, SectorValue, charge_at}
use Rattle.qn_index.specs.Tuples.{turned, net}
use Rattle.qn_index.specs.Places.{sectors_at}
use Rattle.qn_value.specs.Networks.{End, Node, Assignment, same_end, pairs_of, values, at_values, flat, IsNetwork}
use Rattle.qn_value.specs.Tensors.{TensorValue}
use Rattle.qn_value.specs.Labels.{Slot, is_inward, slots, ends, node_of, sectors_on, parity_of, bonds_of, open_end, opens_of, value_of}
use Rattle.qn_value.specs.Fluxes.{net_at, AllConserve, sum_flux, charge_on}
use Rattle.qn_value.specs.Blocks.{legs_on}
use Rattle.qn_value.specs.Magnitudes.{magnitude_of}
use Rattle.qn_value.specs.Local.{no_leg, is_coupled, label_at, with_labels, labels_of, coupled, open_from, open_legs, AllTensors, IsCoupling}
use Rattle.qn_sign.proofs.Order.{distinct_second, distinct-perm}
use Rattle.qn_value.proofs.NetLaws.{end_test}
use Rattle.qn_value.proofs.RowsLemmas.{values_back}
use Rattle.qn_value.proofs.LabelLemmas.{plain_network}
use Rattle.qn_value.proofs.FluxLemmas.{flux_law}
use Rattle.qn_value.proofs.MagnitudeLemmas.{silent}
use Rattle.qn_value.proofs.PlacedLemmas.{HaveSectorsOn, sectors_fit, all_conserve, arrow_back}
use Rattle.qn_value.proofs.CoupleLemmas.{open_before, open_step, open_grows}
use Rattle.qn_value.proofs.CoupledLemmas.{word_of, leg_at, slot_at, slots_coupled, open_label, end_at, all_ends, there, open_once, open_length, coupled_law}
use Rattle.qn_facts.proofs.Lists.{range_last}
pub use Rattle.qn_facts.proofs.Lists.{range_last as range-last}

-- the places of the open legs among the first n
abbrev pub open_places : List (ℕ × ℕ) → ℕ → List ℕ
open_places cs n = filter (λ j. not (is_coupled cs j)) (positions n)

places_step : (cs : List (ℕ × ℕ)) (n : ℕ) → open_places cs (suc n) ≡ open_places cs n ++ cond (is_coupled cs n) [] (n ∷ [])
places_step cs n =
    ap (filter (λ j. not (is_coupled cs j))) (range_last 0 n)
    ∙ filter-append (λ j. not (is_coupled cs j)) (positions n) ((0 + n) ∷ [])
    ∙ ap (λ k. open_places cs n ++ filter (λ j. not (is_coupled cs j)) (k ∷ [])) (zero-add n)
    ∙ ap (λ ks. open_places cs n ++ ks) (turn (is_coupled cs n))
  where
    turn : (b : Bool) → cond (not b) (n ∷ []) [] ≡ cond b [] (n ∷ [])
    turn true = refl
    turn false = refl

-- the open legs are those at the open places
legs_at_places : (cs : List (ℕ × ℕ)) (gs : List LegValue) (g : ℕ → LegValue) (a : ℕ) → ((k : ℕ) → k < length gs → g (a + k) ≡ get_or gs k no_leg) →
    open_from a cs gs ≡ map g (filter (λ j. not (is_coupled cs j)) (range_with_len a (length gs)))
legs_at_places cs [] g a h = refl
legs_at_places cs (x ∷ gs) g a h =
    go (is_coupled cs a) (ap (λ k. open_from k cs gs) (sym (add-one a)) ∙ legs_at_places cs gs g (a + 1) (λ k l. ap g (next k) ∙ h (suc k) (omega (arith, l))))
  where
    next : (k : ℕ) → a + 1 + k ≡ a + suc k
    next k = omega arith

    here : a ≡ a + 0
    here = omega arith

    rest : List ℕ
    rest = filter (λ j. not (is_coupled cs j)) (range_with_len (a + 1) (length gs))

    go : (b : Bool) → open_from (suc a) cs gs ≡ map g rest → cond b (open_from (suc a) cs gs) (x ∷ open_from (suc a) cs gs) ≡ map g (cond (not b) (a ∷ rest) rest)
    go true e = e
    go false e = ap₂ ◌∷◌ (sym (ap g here ∙ h 0 (omega arith))) e

module _ (ls : List LegValue) (cs : List (ℕ × ℕ)) (good : IsCoupling ls cs) where
  open_end_at : (m : ℕ) → m < length ls → is_coupled cs m ≡ false → open_end (all_ends ls cs good) (open_before cs m) ≡ end_at ls cs good m
  open_end_at m l u = λ i. record { label = sym (open_label cs m u) i; inward = arrow i }
    where
      k : ℕ
      k = open_before cs m

      arrow : is_in same_end (record { label = negsuc k; inward = true }) (all_ends ls cs good) ≡ is_inward (leg_at ls m).arrow
      arrow = go (is_inward (leg_at ls m).arrow) refl
        where
          go : (b : Bool) → is_inward (leg_at ls m).arrow ≡ b → is_in same_end (record { label = negsuc k; inward = true }) (all_ends ls cs good) ≡ b
          go true e = there ls cs good m l (negsuc k) true (open_label cs m u) e
          go false e =
              open_once ls cs good k (open_grows cs m (length ls) u l)
              ∙ ap not (there ls cs good m l (negsuc k) false (open_label cs m u) e)

  opens_at_places : (m : ℕ) → m ≤ length ls → opens_of (all_ends ls cs good) (open_before cs m) ≡ map (end_at ls cs good) (open_places cs m)
  opens_at_places zero l = refl
  opens_at_places (suc m) l =
      ap (opens_of (all_ends ls cs good)) (open_step cs m)
      ∙ go (is_coupled cs m) refl (opens_at_places m (omega (arith, l)))
      ∙ sym (ap (map (end_at ls cs good)) (places_step cs m))
    where
      plain : (k : ℕ) → k + 0 ≡ k
      plain k = omega arith

      go : (b : Bool) → is_coupled cs m ≡ b → opens_of (all_ends ls cs good) (open_before cs m) ≡ map (end_at ls cs good) (open_places cs m) →
          opens_of (all_ends ls cs good) (open_before cs m + cond b 0 1) ≡ map (end_at ls cs good) (open_places cs m ++ cond b [] (m ∷ []))
      go true e ih = ap (opens_of (all_ends ls cs good)) (plain (open_before cs m)) ∙ ih ∙ ap (map (end_at ls cs good)) (sym (append-nil (open_places cs m)))
      go false e ih =
          ap (opens_of (all_ends ls cs good)) (add-one (open_before cs m))
          ∙ ap₂ (λ (es : List End) (x : End). es ++ x ∷ []) ih (open_end_at m (omega (arith, l)) e)
          ∙ sym (map-append (end_at ls cs good) (open_places cs m) (m ∷ []))

-- the net charge of open legs, by their lines and by the legs
net_at_places : (fs : List Factor) (sectors : ℤ → List SectorValue) (f : ℕ → ℤ) (g : ℕ → LegValue) (ks : List ℕ) (a : Assignment) →
    ((k : ℕ) → is_in ◌==◌ k ks ≡ true → sectors (f k) ≡ (g k).sectors) →
    net_at fs (charge_on sectors) (map (λ k. record { label = f k; inward = is_inward (g k).arrow }) ks) a
    ≡ net fs (map g ks) (sectors_at (map g ks) (values (map (λ k. record { label = f k; inward = is_inward (g k).arrow }) ks) a))
net_at_places fs sectors f g [] a h = refl
net_at_places fs sectors f g (k ∷ ks) a h =
    let e : End = record { label = f k; inward = is_inward (g k).arrow } in
    ap₂ (sum_charge fs)
    (ap (λ d. turned fs d (charge_at (sectors (f k)) (a e))) (arrow_back (g k).arrow)
    ∙ ap (λ ss. turned fs (g k).arrow (charge_at ss (a e))) (h k (or_left (k == k) (is_in ◌==◌ k ks) (eq-eqb k k refl))))
    (net_at_places fs sectors f g ks a (λ j i. h j (or_right (j == k) (is_in ◌==◌ j ks) i)))

-- the sectors of the lines are those of the legs
on_range : (sectors : ℤ → List SectorValue) (f : ℕ → ℤ) (g : ℕ → LegValue) (a n : ℕ) → HaveSectorsOn sectors (map (slot_at f g) (range_with_len a n)) →
    (k : ℕ) → is_in ◌==◌ k (range_with_len a n) ≡ true → sectors (f k) ≡ (g k).sectors
on_range sectors f g a zero h k i = absurd (false≢true i)
on_range sectors f g a (suc n) h k i = go (k == a) refl i (on_range sectors f g (a + 1) n h.1 k)
  where
    go : (b : Bool) → (k == a) ≡ b → (b || is_in ◌==◌ k (range_with_len (a + 1) n)) ≡ true →
        (is_in ◌==◌ k (range_with_len (a + 1) n) ≡ true → sectors (f k) ≡ (g k).sectors) → sectors (f k) ≡ (g k).sectors
    go true e j ih = subst (λ m. sectors (f m) ≡ (g m).sectors) (sym (eqb-true k a e)) h.0
    go false e j ih = ih j

in_filter : (p : ℕ → Bool) (xs : List ℕ) (k : ℕ) → is_in ◌==◌ k (filter p xs) ≡ true → is_in ◌==◌ k xs ≡ true
in_filter p [] k h = h
in_filter p (x ∷ xs) k h = go (p x) h (in_filter p xs k)
  where
    first : (a b c : Bool) → (a || b) ≡ true → (b ≡ true → c ≡ true) → (a || c) ≡ true
    first true b c e f = refl
    first false b c e f = f e

    go : (b : Bool) → is_in ◌==◌ k (cond b (x ∷ filter p xs) (filter p xs)) ≡ true → (is_in ◌==◌ k (filter p xs) ≡ true → is_in ◌==◌ k xs ≡ true) → ((k == x) || is_in ◌==◌ k xs) ≡ true
    go true h ih = first (k == x) (is_in ◌==◌ k (filter p xs)) (is_in ◌==◌ k xs) h ih
    go false h ih = or_right (k == x) (is_in ◌==◌ k xs) (ih h)

fluxes_with : (ts : List TensorValue) (ls : List ℤ) → map (λ p. p.tensor.flux) (with_labels ts ls) ≡ map (λ t. t.flux) ts
fluxes_with [] ls = refl
fluxes_with (t ∷ ts) ls = ap (λ qs. t.flux ∷ qs) (fluxes_with ts (drop (length t.legs) ls))

-- the open legs of coupled tensors, as ends and as legs, stand at the open places
pub opens_coupled : (ts : List TensorValue) (cs : List (ℕ × ℕ)) (good : IsCoupling (word_of ts) cs) →
    opens_of (ends (slots (coupled ts cs))) (length (open_legs ts cs)) ≡ map (end_at (word_of ts) cs good) (open_places cs (length (word_of ts)))
opens_coupled ts cs good =
    ap₂ opens_of (ap ends (slots_coupled ts cs) ∙ map-map (λ (s : Slot). s.end) (slot_at (label_at cs) (leg_at (word_of ts))) (positions (length (word_of ts)))) (sym (open_length cs 0 (word_of ts)))
    ∙ opens_at_places (word_of ts) cs good (length (word_of ts)) (omega arith)

pub open_legs_at : (ts : List TensorValue) (cs : List (ℕ × ℕ)) → open_legs ts cs ≡ map (leg_at (word_of ts)) (open_places cs (length (word_of ts)))
open_legs_at ts cs = legs_at_places cs (word_of ts) (leg_at (word_of ts)) 0 (λ k l. ap (leg_at (word_of ts)) (zero-add k))

pub coupled_network : (ts : List TensorValue) (cs : List (ℕ × ℕ)) → IsCoupling (word_of ts) cs →
    IsNetwork (map node_of (coupled ts cs)) (bonds_of [] (slots (coupled ts cs))) (opens_of (ends (slots (coupled ts cs))) (length (open_legs ts cs)))
coupled_network ts cs good = plain_network (coupled ts cs) [] (length (open_legs ts cs)) (coupled_law ts cs good).0

-- the values of the open legs are those that are given
pub values_given : (ts : List TensorValue) (cs : List (ℕ × ℕ)) → IsCoupling (word_of ts) cs → (xs : List ℕ) → length xs ≡ length (open_legs ts cs) →
    let opens : List End = opens_of (ends (slots (coupled ts cs))) (length (open_legs ts cs)) in
    values opens (at_values opens xs) ≡ xs
values_given ts cs good xs long =
    let opens : List End = opens_of (ends (slots (coupled ts cs))) (length (open_legs ts cs)) in
    let net : IsNetwork (map node_of (coupled ts cs)) (bonds_of [] (slots (coupled ts cs))) opens = coupled_network ts cs good in
    values_back opens xs (distinct_second same_end (pairs_of (bonds_of [] (slots (coupled ts cs)))) opens (distinct-perm same_end end_test net.complete net.distinct))
    (long ∙ ap (λ (ls : List LegValue). length ls) (open_legs_at ts cs) ∙ length-map (open_places cs (length (word_of ts))) (leg_at (word_of ts))
    ∙ sym (length-map (open_places cs (length (word_of ts))) (end_at (word_of ts) cs good)) ∙ ap (λ (es : List End). length es) (sym (opens_coupled ts cs good)))

-- the net charge of the open legs
pub net_open : (fs : List Factor) (ts : List TensorValue) (cs : List (ℕ × ℕ)) → IsCoupling (word_of ts) cs → (xs : List ℕ) → length xs ≡ length (open_legs ts cs) →
    let opens : List End = opens_of (ends (slots (coupled ts cs))) (length (open_legs ts cs)) in
    net_at fs (charge_on (sectors_on (slots (coupled ts cs)))) opens (at_values opens xs) ≡ net fs (open_legs ts cs) (sectors_at (open_legs ts cs) xs)
net_open fs ts cs good xs long =
    let opens : List End = opens_of (ends (slots (coupled ts cs))) (length (open_legs ts cs)) in
    let ks : List ℕ = open_places cs (length (word_of ts)) in
    let sectors : ℤ → List SectorValue = sectors_on (slots (coupled ts cs)) in
    let fit : HaveSectorsOn sectors (map (slot_at (label_at cs) (leg_at (word_of ts))) (positions (length (word_of ts)))) =
    subst (HaveSectorsOn sectors) (slots_coupled ts cs) (sectors_fit (slots (coupled ts cs)) (coupled_law ts cs good).1) in
    ap (λ (es : List End). net_at fs (charge_on sectors) es (at_values opens xs)) (opens_coupled ts cs good)
    ∙ net_at_places fs sectors (label_at cs) (leg_at (word_of ts)) ks (at_values opens xs)
    (λ k i. on_range sectors (label_at cs) (leg_at (word_of ts)) 0 (length (word_of ts)) fit k (in_filter (λ j. not (is_coupled cs j)) (positions (length (word_of ts))) k i))
    ∙ ap₂ (λ (ls : List LegValue) (ys : List ℕ). net fs ls (sectors_at ls ys)) (sym (open_legs_at ts cs))
    (ap (λ (es : List End). values es (at_values opens xs)) (sym (opens_coupled ts cs good)) ∙ values_given ts cs good xs long)

pub off_flux : (fs : List Factor) (ts : List TensorValue) (cs : List (ℕ × ℕ)) → IsGroup fs → AllTensors fs ts → IsCoupling (word_of ts) cs →
    (xs : List ℕ) → length xs ≡ length (open_legs ts cs) →
    (net fs (open_legs ts cs) (sectors_at (open_legs ts cs) xs) ≡ sum_flux fs (map (λ t. t.flux) ts) → ⊥) →
    (value_of fs (coupled ts cs) [] (length xs) xs ≡ zero_g) × (magnitude_of (coupled ts cs) (length xs) xs ≡ 0)
off_flux fs ts cs group h good xs long off =
    let all : List Slot = slots (coupled ts cs) in
    let nodes : List Node = map node_of (coupled ts cs) in
    let opens : List End = opens_of (ends all) (length (open_legs ts cs)) in
    let conserve : AllConserve fs (charge_on (sectors_on all)) nodes (map (λ t. t.flux) ts) =
    subst (AllConserve fs (charge_on (sectors_on all)) nodes) (fluxes_with ts (labels_of cs (length (word_of ts))))
    (all_conserve fs (sectors_on all) (coupled ts cs) ((coupled_law ts cs good).2 fs h) (sectors_fit all (coupled_law ts cs good).1)) in
    let network : IsNetwork nodes (bonds_of [] all) opens = coupled_network ts cs good in
    let away : net_at fs (charge_on (sectors_on all)) opens (at_values opens xs) ≡ sum_flux fs (map (λ t. t.flux) ts) → ⊥ = λ e. off (sym (net_open fs ts cs good xs long) ∙ e) in
    subst (λ n. (value_of fs (coupled ts cs) [] n xs ≡ zero_g) × (magnitude_of (coupled ts cs) n xs ≡ 0)) (sym long) (
      at (net_at fs (charge_on (sectors_on all)) opens (at_values opens xs) ≡ sum_flux fs (map (λ t. t.flux) ts))
          (flat (parity_of fs all) nodes (bonds_of [] all) opens (at_values opens (values opens (at_values opens xs))) ≡ zero_g) away
          (flux_law fs group (charge_on (sectors_on all)) (parity_of fs all) nodes (map (λ t. t.flux) ts) (bonds_of [] all) opens network conserve (at_values opens xs))
          (λ z. ap (λ ys. flat (parity_of fs all) nodes (bonds_of [] all) opens (at_values opens ys)) (sym (values_given ts cs good xs long)) ∙ z),
      silent fs group (charge_on (sectors_on all)) nodes (map (λ t. t.flux) ts) (bonds_of [] all) opens (at_values opens xs) conserve network away,
    )
  where
    at : (A B : Type 0) {C : Type 0} → (A → ⊥) → A ⊎ B → (B → C) → C
    at A B n (inl x) f = absurd (n x)
    at A B n (inr y) f = f y

-- the open legs, by their ends
legs_at_ends : (sectors : ℤ → List SectorValue) (f : ℕ → ℤ) (g : ℕ → LegValue) (ks : List ℕ) → ((k : ℕ) → is_in ◌==◌ k ks ≡ true → sectors (f k) ≡ (g k).sectors) →
    legs_on sectors (map (λ k. record { label = f k; inward = is_inward (g k).arrow }) ks) ≡ map g ks
legs_at_ends sectors f g [] h = refl
legs_at_ends sectors f g (k ∷ ks) h =
    ap₂ ◌∷◌ (λ i. record { arrow = arrow_back (g k).arrow i; sectors = h k (or_left (k == k) (is_in ◌==◌ k ks) (eq-eqb k k refl)) i })
    (legs_at_ends sectors f g ks (λ j i. h j (or_right (j == k) (is_in ◌==◌ j ks) i)))

pub legs_of_opens : (ts : List TensorValue) (cs : List (ℕ × ℕ)) → IsCoupling (word_of ts) cs →
    legs_on (sectors_on (slots (coupled ts cs))) (opens_of (ends (slots (coupled ts cs))) (length (open_legs ts cs))) ≡ open_legs ts cs
legs_of_opens ts cs good =
    let sectors : ℤ → List SectorValue = sectors_on (slots (coupled ts cs)) in
    let fit : HaveSectorsOn sectors (map (slot_at (label_at cs) (leg_at (word_of ts))) (positions (length (word_of ts)))) =
    subst (HaveSectorsOn sectors) (slots_coupled ts cs) (sectors_fit (slots (coupled ts cs)) (coupled_law ts cs good).1) in
    ap (legs_on sectors) (opens_coupled ts cs good)
    ∙ legs_at_ends sectors (label_at cs) (leg_at (word_of ts)) (open_places cs (length (word_of ts)))
    (λ k i. on_range sectors (label_at cs) (leg_at (word_of ts)) 0 (length (word_of ts)) fit k (in_filter (λ j. not (is_coupled cs j)) (positions (length (word_of ts))) k i))
    ∙ sym (open_legs_at ts cs)
