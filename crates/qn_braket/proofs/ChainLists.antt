-- Chains as lists of tensors: their legs, the members of their networks, and sums over the values of their sites.
use Rattle.std.proofs.Common.{◌≡◌, ◌≢◌, ◌≤◌, ◌<◌, ◌==◌, ℕ, zero, suc, ◌+◌, ◌-◌, ℤ, Bool, true, false, not, ◌⊎◌, inl, inr, cond, None, List, [], ◌∷◌, ◌++◌, append-nil, append_assoc, length, take, drop, map, reverse, refl, sym, ◌∙◌, ap, ap₂, subst, subst₂, count_by, arith}
use mathlib.Core.Path.{fun_ext}
use Rattle.std.specs.List.{All}
use Rattle.std.proofs.lemmas.Bool.{cases_lt, or_left, or_right}
use Rattle.std.proofs.lemmas.Bool.Decides.{nat_tests}
use Rattle.std.proofs.lemmas.List.{take-append-drop, length-drop, length-append, get_or-append-add}
use Rattle.std.proofs.lemmas.List.Sums.{sum_by-cons}
use Rattle.qn_sign.specs.Sign.{is_in, Perm}
use Rattle.qn_sign.specs.Sign.Perm.{none, keep, swap, then_by}
use Rattle.qn_gauss.specs.Gaussian.{Gaussian}
use Rattle.qn_charge.specs.declared.factor.Factor.{Factor}
use Rattle.qn_index.specs.declared.leg.Dir.{Dir}
use Rattle.qn_index.specs.declared.leg.Dir.TheVariants.{Out, In}
use Rattle.qn_index.specs.Legs.{SectorValue, LegValue, Meets, flipped, other_way, total}
use Rattle.qn_value.specs.Tensors.{TensorValue}
use Rattle.qn_value.specs.Networks.{End, Bond, same_end, pairs_of, labels, sum_below, IsNetwork}
use Rattle.qn_value.specs.Labels.{Placed, slots, ends, node_of, is_positive, value_of}
use Rattle.qn_value.proofs.NetLaws.{end_test}
use Rattle.qn_block.specs.Blocked.{BlockedValue, tensor_of}
use Rattle.qn_net.specs.Members.{LabelledMember, placed_member, no_leg}
use Rattle.qn_net.specs.NetworkValues.{PlacedMember, open_count}
use Rattle.qn_net.proofs.MeetingLemmas.{weight}
use Rattle.qn_braket.specs.ChainLabels.{left_label, right_label, state_labels, operator_labels}
use Rattle.qn_braket.specs.Pieces.{sum_states}
use Rattle.qn_braket.specs.Chains.{leg_at, tensor_at, state_legs, operator_legs, legs_left, legs_right, first_leg, last_leg, IsChain, IsStateChain, IsOperatorChain, with_labels, sum_values, AreConjugates}
use Rattle.qn_braket.proofs.SlotLaws.{ArePositive, AreOpens}
use Rattle.qn_braket.proofs.PlacedChains.{placed_chain, AreChained, site_leg, IsState, IsOperator, state_placed, operator_placed, AllConjugate}
use Rattle.qn_value.proofs.LabelLemmas.{word_ends}

-- numbers

from_zero : (n : ℕ) → 0 + n ≡ n
from_zero n = omega arith

to_zero : (n : ℕ) → n ≡ 0 + n
to_zero n = omega arith

equal_test : (x y : ℕ) → x ≡ y → (x == y) ≡ true
equal_test x y e = grind (arith, nat_tests)

less_test : (x y : ℕ) → x < y → (x == y) ≡ false
less_test x y h = grind (arith, nat_tests)

pub left_one : (j : ℕ) → legs_left (suc j) ≡ 1
left_one j = ap (λ b. cond b 0 1) (positive j)
  where
    positive : (j : ℕ) → (suc j == 0) ≡ false
    positive j = grind (arith, nat_tests)

right_none : (n j : ℕ) → suc j ≡ n → legs_right n j ≡ 0
right_none n j e = ap (λ b. cond b 0 1) (equal_test (suc j) n e)

right_one : (n j : ℕ) → suc j < n → legs_right n j ≡ 1
right_one n j h = ap (λ b. cond b 0 1) (less_test (suc j) n h)

-- lists of legs by their parts

parts : (site ls : List LegValue) (a b : ℕ) → length ls ≡ a + (length site + b) → take (length site) (drop a ls) ≡ site →
    (rest : List LegValue) × (ls ≡ take a ls ++ (site ++ rest)) × (length rest ≡ b)
parts site ls a b n o =
    let rest : List LegValue = drop (length site) (drop a ls) in (
      rest,
      sym (take-append-drop a ls) ∙ ap (λ xs. take a ls ++ xs) (sym (take-append-drop (length site) (drop a ls)) ∙ ap (λ xs. xs ++ rest) o),
      count (length rest) (length (drop a ls)) (length ls) (length site) (length-drop (length site) (drop a ls)) (length-drop a ls) n,
    )
  where
    count : (r d l s : ℕ) → r ≡ d - s → d ≡ l - a → l ≡ a + (s + b) → r ≡ b
    count r d l s e f g = omega (arith, e, f, g)

none_left : (rest : List LegValue) → length rest ≡ 0 → rest ≡ []
none_left [] h = refl
none_left (x ∷ xs) h = absurd (omega (arith, h))

one_left : (rest : List LegValue) → length rest ≡ 1 → rest ≡ leg_at rest 0 ∷ []
one_left [] h = absurd (omega (arith, h))
one_left (x ∷ []) h = refl
one_left (x ∷ y ∷ ys) h = absurd (omega (arith, h))

last_is : (xs : List LegValue) (r : LegValue) → leg_at (xs ++ r ∷ []) (length (xs ++ r ∷ []) - 1) ≡ r
last_is xs r =
    ap (leg_at (xs ++ r ∷ [])) (count (length (xs ++ r ∷ [])) (length xs) (length-append xs (r ∷ [])))
    ∙ get_or-append-add xs (r ∷ []) 0 no_leg
  where
    count : (n k : ℕ) → n ≡ k + 1 → n - 1 ≡ k + 0
    count n k e = omega (arith, e)

take_none : (ls : List LegValue) → take 0 ls ≡ []
take_none [] = refl
take_none (x ∷ ls) = refl

take_one : (ls : List LegValue) → 0 < length ls → take 1 ls ≡ leg_at ls 0 ∷ []
take_one [] h = absurd (omega (arith, h))
take_one (x ∷ ls) h = ap (λ xs. x ∷ xs) (take_none ls)

meets_flip : (a b : LegValue) → Meets a b None → b ≡ flipped a
meets_flip a b h = λ i. record { arrow = other a.arrow b.arrow h.0 i; sectors = sym h.1 i }
  where
    other : (x y : Dir) → x ≢ y → y ≡ other_way x
    other Out Out n = absurd (n refl)
    other Out In n = refl
    other In Out n = refl
    other In In n = absurd (n refl)

out_of_range : (ls : List LegValue) (j : ℕ) → length ls ≤ j → leg_at ls j ≡ no_leg
out_of_range [] j h = refl
out_of_range (x ∷ ls) zero h = absurd (omega (arith, h))
out_of_range (x ∷ ls) (suc j) h = out_of_range ls j (omega (arith, h))

outward_at : (ls : List LegValue) → All (λ l. l.arrow ≡ Out) ls → (j : ℕ) → (leg_at ls j).arrow ≡ Out
outward_at ls all j = go (cases_lt j (length ls))
  where
    go : (j < length ls) ⊎ (length ls ≤ j) → (leg_at ls j).arrow ≡ Out
    go (inl h) = all j no_leg h
    go (inr h) = ap (λ (l : LegValue). l.arrow) (out_of_range ls j h)

-- the tensors by number, the sectors of the sites, and the legs right

abbrev pub tensors : List BlockedValue → ℕ → TensorValue
tensors ts j = tensor_of (tensor_at ts j)

abbrev pub site_sectors : List LegValue → ℕ → List SectorValue
site_sectors sites j = (leg_at sites j).sectors

abbrev pub rights : List BlockedValue → ℕ → LegValue
rights ts j = last_leg (tensor_at ts j)

pub site_is : (sites : List LegValue) → All (λ l. l.arrow ≡ Out) sites → (j : ℕ) → leg_at sites j ≡ site_leg (site_sectors sites) j
site_is sites all j = λ i. record { arrow = outward_at sites all j i; sectors = (leg_at sites j).sectors }

module _ (legs : LegValue → List LegValue) (sites : List LegValue) (ts : List BlockedValue) (chain : IsChain legs sites ts) where
  abbrev own : ℕ → List LegValue
  own j = legs (leg_at sites j)

  abbrev here : ℕ → List LegValue
  here j = (tensors ts j).legs

  shape : (j : ℕ) → j < length ts → (rest : List LegValue) × (here j ≡ take (legs_left j) (here j) ++ (own j ++ rest)) × (length rest ≡ legs_right (length ts) j)
  shape j h = parts (own j) (here j) (legs_left j) (legs_right (length ts) j) (chain.shapes j h).count (chain.shapes j h).own

  last_legs : (j : ℕ) → suc j ≡ length ts → here j ≡ take (legs_left j) (here j) ++ own j
  last_legs j e =
      let s = shape j (below j (length ts) e) in
      s.1 ∙ ap (λ xs. take (legs_left j) (here j) ++ xs) (ap (λ xs. own j ++ xs) (none_left s.0 (s.2 ∙ right_none (length ts) j e)) ∙ append-nil (own j))
    where
      below : (j n : ℕ) → suc j ≡ n → j < n
      below j n e = omega (arith, e)

  inner_legs : (j : ℕ) → suc j < length ts → here j ≡ take (legs_left j) (here j) ++ (own j ++ rights ts j ∷ [])
  inner_legs j h =
      let s = shape j (below j (length ts) h) in
      let left : List LegValue = take (legs_left j) (here j) in
      let r : LegValue = leg_at s.0 0 in
      let whole : here j ≡ left ++ (own j ++ r ∷ []) = s.1 ∙ ap (λ xs. left ++ (own j ++ xs)) (one_left s.0 (s.2 ∙ right_one (length ts) j h)) in
      let last : rights ts j ≡ r = ap (λ ls. leg_at ls (length ls - 1)) (whole ∙ sym (append_assoc left (own j) (r ∷ []))) ∙ last_is (left ++ own j) r in
      whole ∙ ap (λ x. left ++ (own j ++ x ∷ [])) (sym last)
    where
      below : (j n : ℕ) → suc j < n → j < n
      below j n h = omega (arith, h)

  next_left : (j : ℕ) → suc j < length ts → take (legs_left (suc j)) (here (suc j)) ≡ flipped (rights ts j) ∷ []
  next_left j h =
      ap (λ k. take k (here (suc j))) (left_one j)
      ∙ take_one (here (suc j)) (some (length (here (suc j))) (legs_left (suc j)) _ (chain.shapes (suc j) h).count (left_one j))
      ∙ ap (λ l. l ∷ []) (meets_flip (rights ts j) (first_leg (tensor_at ts (suc j))) (chain.links j h))
    where
      some : (n a b : ℕ) → n ≡ a + b → a ≡ 1 → 0 < n
      some n a b e f = omega (arith, e, f)

  chained : (k j : ℕ) → j + suc k ≡ length ts → (left : List LegValue) → take (legs_left j) (here j) ≡ left → AreChained own (rights ts) (tensors ts) left j k
  chained zero j e left l = last_legs j (end j (length ts) e) ∙ ap (λ xs. xs ++ own j) l
    where
      end : (j n : ℕ) → j + 1 ≡ n → suc j ≡ n
      end j n e = omega (arith, e)
  chained (suc k) j e left l = (
    inner_legs j (inside j k (length ts) e) ∙ ap (λ xs. xs ++ (own j ++ rights ts j ∷ [])) l,
    chained k (suc j) (move j k (length ts) e) (flipped (rights ts j) ∷ []) (next_left j (inside j k (length ts) e)),
  )
    where
      inside : (j k n : ℕ) → j + suc (suc k) ≡ n → suc j < n
      inside j k n e = omega (arith, e)

      move : (j k n : ℕ) → j + suc (suc k) ≡ n → suc j + suc k ≡ n
      move j k n e = omega (arith, e)

  pub all_chained : (m : ℕ) → length ts ≡ suc m → AreChained own (rights ts) (tensors ts) [] 0 m
  all_chained m long = chained m 0 (from_zero (suc m) ∙ sym long) [] (take_none (here 0))

pub state_is : (sites : List LegValue) (ts : List BlockedValue) (m : ℕ) → IsStateChain sites ts → length ts ≡ suc m → IsState (site_sectors sites) (rights ts) (tensors ts) m
state_is sites ts m c long =
    subst (λ own. AreChained own (rights ts) (tensors ts) [] 0 m) (fun_ext (λ j. ap state_legs (site_is sites c.outward j))) (all_chained state_legs sites ts c m long)

pub operator_is : (sites : List LegValue) (ts : List BlockedValue) (m : ℕ) → IsOperatorChain sites ts → length ts ≡ suc m → IsOperator (site_sectors sites) (rights ts) (tensors ts) m
operator_is sites ts m c long =
    subst (λ own. AreChained own (rights ts) (tensors ts) [] 0 m) (fun_ext (λ j. ap operator_legs (site_is sites c.outward j))) (all_chained operator_legs sites ts c m long)

-- the members of a network

abbrev pub placed_of : LabelledMember → Placed
placed_of m = (placed_member m).placed

pub members_placed : (ms : List LabelledMember) → map (λ (m : PlacedMember). m.placed) (map placed_member ms) ≡ map placed_of ms
members_placed [] = refl
members_placed (m ∷ ms) = ap (λ ps. placed_of m ∷ ps) (members_placed ms)

no_right : (link : ℕ → ℤ) (n j : ℕ) → suc j ≡ n → right_label link n j ≡ []
no_right link n j e = ap (λ b. cond b [] (link j ∷ [])) (equal_test (suc j) n e)

a_right : (link : ℕ → ℤ) (n j : ℕ) → suc j < n → right_label link n j ≡ link j ∷ []
a_right link n j h = ap (λ b. cond b [] (link j ∷ [])) (less_test (suc j) n h)

members_chain : (own : ℕ → List ℤ) (link : ℕ → ℤ) (t : ℕ → TensorValue) (n k j : ℕ) (ts : List BlockedValue) → length ts ≡ suc k → j + suc k ≡ n →
    ((i : ℕ) → i < length ts → tensor_of (tensor_at ts i) ≡ t (j + i)) →
    map placed_of (with_labels (λ i. left_label link i ++ (own i ++ right_label link n i)) j ts) ≡ placed_chain own link t (left_label link j) j k
members_chain own link t n k j [] l e h = absurd (omega (arith, l))
members_chain own link t n zero j (x ∷ []) l e h =
    λ i. record {
      tensor = (h 0 one ∙ ap t (same j)) i;
      labels = left_label link j ++ (ap (λ ls. own j ++ ls) (no_right link n j (end j n e)) ∙ append-nil (own j)) i;
    } ∷ []
  where
    one : 0 < 1
    one = omega arith

    same : (j : ℕ) → j + 0 ≡ j
    same j = omega arith

    end : (j n : ℕ) → j + 1 ≡ n → suc j ≡ n
    end j n e = omega (arith, e)
members_chain own link t n zero j (x ∷ y ∷ xs) l e h = absurd (omega (arith, l))
members_chain own link t n (suc k) j (x ∷ []) l e h = absurd (omega (arith, l))
members_chain own link t n (suc k) j (x ∷ y ∷ xs) l e h =
    ap₂ (λ p ps. p ∷ ps)
    (λ i. record {
      tensor = (h 0 (some (length xs)) ∙ ap t (same j)) i;
      labels = left_label link j ++ (own j ++ a_right link n j (inside j k n e) i);
    })
    (members_chain own link t n k (suc j) (y ∷ xs) (less (length xs) k l) (move j k n e) (λ i b. h (suc i) (more i (length xs) b) ∙ ap t (shift j i)))
  where
    some : (n : ℕ) → 0 < suc (suc n)
    some n = omega arith

    same : (j : ℕ) → j + 0 ≡ j
    same j = omega arith

    inside : (j k n : ℕ) → j + suc (suc k) ≡ n → suc j < n
    inside j k n e = omega (arith, e)

    less : (n k : ℕ) → suc (suc n) ≡ suc (suc k) → suc n ≡ suc k
    less n k l = omega (arith, l)

    move : (j k n : ℕ) → j + suc (suc k) ≡ n → suc j + suc k ≡ n
    move j k n e = omega (arith, e)

    more : (i n : ℕ) → i < suc n → suc i < suc (suc n)
    more i n b = omega (arith, b)

    shift : (j i : ℕ) → j + suc i ≡ suc j + i
    shift j i = omega arith

pub state_list : (site link : ℕ → ℤ) (ts : List BlockedValue) (m : ℕ) → length ts ≡ suc m →
    map placed_of (with_labels (state_labels site link (length ts)) 0 ts) ≡ state_placed site link (tensors ts) m
state_list site link ts m long =
    members_chain (λ j. site j ∷ []) link (tensors ts) (length ts) m 0 ts long (from_zero (suc m) ∙ sym long) (λ i b. ap (tensors ts) (to_zero i))

pub operator_list : (upper lower link : ℕ → ℤ) (ts : List BlockedValue) (m : ℕ) → length ts ≡ suc m →
    map placed_of (with_labels (operator_labels upper lower link (length ts)) 0 ts) ≡ operator_placed upper lower link (tensors ts) m
operator_list upper lower link ts m long =
    members_chain (λ j. upper j ∷ lower j ∷ []) link (tensors ts) (length ts) m 0 ts long (from_zero (suc m) ∙ sym long) (λ i b. ap (tensors ts) (to_zero i))

-- conjugates

pub conjugates_long : (ts cs : List BlockedValue) → AreConjugates ts cs → length cs ≡ length ts
conjugates_long [] [] h = refl
conjugates_long [] (c ∷ cs) h = absurd h
conjugates_long (t ∷ ts) [] h = absurd h
conjugates_long (t ∷ ts) (c ∷ cs) h = ap suc (conjugates_long ts cs h.1)

conjugate_members : (labels : ℕ → List ℤ) (j : ℕ) (ts cs : List BlockedValue) → AreConjugates ts cs →
    AllConjugate (map placed_of (with_labels labels j ts)) (map placed_of (with_labels (λ i. reverse (labels i)) j cs))
conjugate_members labels j [] [] h = tt
conjugate_members labels j [] (c ∷ cs) h = absurd h
conjugate_members labels j (t ∷ ts) [] h = absurd h
conjugate_members labels j (t ∷ ts) (c ∷ cs) h = (record { legs = h.0.legs; labels = refl; entries = h.0.entries }, conjugate_members labels (suc j) ts cs h.1)

-- the conjugates in the network, in site order
abbrev pub conjugates_placed : (ℕ → ℤ) → (ℕ → ℤ) → List BlockedValue → List Placed
conjugates_placed site link cs = map placed_of (with_labels (λ j. reverse (state_labels site link (length cs) j)) 0 cs)

pub conjugates_are : (site link : ℕ → ℤ) (ts cs : List BlockedValue) (m : ℕ) → AreConjugates ts cs → length ts ≡ suc m →
    AllConjugate (state_placed site link (tensors ts) m) (conjugates_placed site link cs)
conjugates_are site link ts cs m h long =
    subst₂ AllConjugate (state_list site link ts m long)
    (ap (λ n. map placed_of (with_labels (λ j. reverse (state_labels site link n j)) 0 cs)) (sym (conjugates_long ts cs h)))
    (conjugate_members (state_labels site link (length ts)) 0 ts cs h)

-- how many legs are open

count-cons : (p : End → Bool) (x : End) (xs : List End) → count_by p (x ∷ xs) ≡ weight (p x) + count_by p xs
count-cons p x xs = sum_by-cons (λ f. cond (p f) 1 0) x xs

count-perm : (p : End → Bool) {xs ys : List End} → Perm xs ys → count_by p xs ≡ count_by p ys
count-perm p none = refl
count-perm p (keep {x = x} {xs = xs} {ys = ys} q) = count-cons p x xs ∙ ap (λ k. weight (p x) + k) (count-perm p q) ∙ sym (count-cons p x ys)
count-perm p (swap {x = x} {y = y} {xs = xs}) =
    count-cons p x (y ∷ xs) ∙ ap (λ k. weight (p x) + k) (count-cons p y xs)
    ∙ turn (weight (p x)) (weight (p y)) (count_by p xs)
    ∙ ap (λ k. weight (p y) + k) (sym (count-cons p x xs)) ∙ sym (count-cons p y (x ∷ xs))
  where
    turn : (a b c : ℕ) → a + (b + c) ≡ b + (a + c)
    turn a b c = omega arith
count-perm p (then_by q r) = count-perm p q ∙ count-perm p r

bonds_closed : (bs : List Bond) (os : List End) → ArePositive (labels bs) → open_count (pairs_of bs ++ os) ≡ open_count os
bonds_closed [] os h = refl
bonds_closed (b ∷ bs) os h =
    count-cons (λ e. not (is_positive e.label)) (record { label = b.label; inward = true }) (record { label = b.label; inward = false } ∷ (pairs_of bs ++ os))
    ∙ ap₂ (λ p k. weight (not p) + k) h.0
    (count-cons (λ e. not (is_positive e.label)) (record { label = b.label; inward = false }) (pairs_of bs ++ os) ∙ ap₂ (λ p k. weight (not p) + k) h.0 (bonds_closed bs os h.1))
    ∙ none (open_count os)
  where
    none : (k : ℕ) → 0 + (0 + k) ≡ k
    none k = omega arith

all_open : (os : List End) → ((e : End) → is_in same_end e os ≡ true → is_positive e.label ≡ false) → open_count os ≡ length os
all_open [] h = refl
all_open (e ∷ os) h =
    count-cons (λ e. not (is_positive e.label)) e os
    ∙ ap₂ (λ p k. weight (not p) + k) (h e (or_left (same_end e e) (is_in same_end e os) (end_test.itself e)))
    (all_open os (λ f k. h f (or_right (same_end f e) (is_in same_end f os) k)))
    ∙ more (length os)
  where
    more : (k : ℕ) → 1 + k ≡ suc k
    more k = omega arith

pub counted : (ps : List Placed) (bs : List Bond) (opens : List End) (n : ℕ) → IsNetwork (map node_of ps) bs opens → ArePositive (labels bs) → AreOpens opens n →
    open_count (ends (slots ps)) ≡ length opens
counted ps bs opens n net positive are =
    ap open_count (sym (word_ends ps))
    ∙ count-perm (λ e. not (is_positive e.label)) net.complete
    ∙ bonds_closed bs opens positive
    ∙ all_open opens (λ e h. ap is_positive (are.not_positive e h).2)

-- the value of a network is that of its placed tensors
pub value_at : (fs : List Factor) (ps qs : List Placed) (n : ℕ) → ps ≡ qs → open_count (ends (slots qs)) ≡ n → (xs : List ℕ) →
    value_of fs ps [] (open_count (ends (slots ps))) xs ≡ value_of fs qs [] n xs
value_at fs ps qs n p e xs = ap (λ rs. value_of fs rs [] (open_count (ends (slots rs))) xs) p ∙ ap (λ k. value_of fs qs [] k xs) e

-- sums over the values of the sites

pub sum_sites : (ls : List LegValue) (dim : ℕ → ℕ) (j k : ℕ) → length ls ≡ k → ((i : ℕ) → i < length ls → total (leg_at ls i).sectors ≡ dim (j + i)) → (f : List ℕ → Gaussian) →
    sum_values ls f ≡ sum_states dim j k f
sum_sites [] dim j zero e h f = refl
sum_sites [] dim j (suc k) e h f = absurd (omega (arith, e))
sum_sites (l ∷ ls) dim j zero e h f = absurd (omega (arith, e))
sum_sites (l ∷ ls) dim j (suc k) e h f =
    ap₂ sum_below (h 0 (some (length ls)) ∙ ap dim (same j))
    (fun_ext (λ v. sum_sites ls dim (suc j) k (less (length ls) k e) (λ i b. h (suc i) (more i (length ls) b) ∙ ap dim (shift j i)) (λ s. f (v ∷ s))))
  where
    some : (n : ℕ) → 0 < suc n
    some n = omega arith

    same : (j : ℕ) → j + 0 ≡ j
    same j = omega arith

    less : (n k : ℕ) → suc n ≡ suc k → n ≡ k
    less n k e = omega (arith, e)

    more : (i n : ℕ) → i < n → suc i < suc n
    more i n b = omega (arith, b)

    shift : (j i : ℕ) → j + suc i ≡ suc j + i
    shift j i = omega arith
