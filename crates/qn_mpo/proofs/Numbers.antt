-- The numbers of the states right of a site.
use Rattle.std.proofs.Common.{◌≡◌, ◌≢◌, ℕ, zero, suc, ◌≤◌, ◌<◌, ◌⊎◌, inl, inr, ⊎_elim, Bool, true, false, ◌==◌, cond, List, [], ◌∷◌, length, get_or, map, refl, sym, ◌∙◌, ap, subst, arith}
use Rattle.std.specs.Ordering.{ordering_index}
use Rattle.std.specs.List.Sorted.{IsSearchInRange, IsBinarySearchResult, IsNonDecreasingBy}
use Rattle.std.specs.Prelude.{MatchOption, MatchResult, None, Option, Result, Some, Ok, Err}
use Rattle.std.specs.declared.cmp.Ordering.TheVariants.{Less, Equal, Greater}
use Rattle.std.proofs.lemmas.Bool.{cases_lt, or_parts, eqb-true}
use Rattle.std.proofs.lemmas.Bool.Decides.{nat_tests}
use Rattle.std.proofs.lemmas.List.{get_or_default, get_or-map, length-map}
use Rattle.qn_sign.specs.Sign.{is_in, IsDistinct}
use Rattle.qn_sign.proofs.Order.{same_symm}
use Rattle.qn_opsum.specs.Sums.{SumValue}
use Rattle.qn_auto.specs.Automaton.{Stage, same_stage, stage_at}
use Rattle.qn_auto.specs.Automaton.Stage.{not_begun}
use Rattle.qn_auto.specs.LinkOrder.{AllLater, IsAscending}
use Rattle.qn_auto.specs.SumAutomaton.{charge_lower, state_charge, state_lower, states, terms_in}
use Rattle.qn_auto.proofs.ChargeOrder.{charge_strict}
use Rattle.qn_auto.proofs.LinkOrderLaws.{stages_ascend}
use Rattle.qn_auto.proofs.Ordered.{in_to, is_in_from}
use Rattle.qn_auto.proofs.Stages.{stage_test, stages-distinct}
use Rattle.qn_mpo.specs.States.{StateValue, order_by, value_lower, with_charge}
use Rattle.qn_mpo.proofs.Links.{value_strict}

-- ---- a search in a list in order

later_at : (x : StateValue) (xs : List StateValue) (i : ℕ) (d : StateValue) → AllLater value_lower x xs → i < length xs → value_lower x (get_or xs i d) ≡ true
later_at x [] i d h lt = absurd (omega arith)
later_at x (y ∷ ys) zero d h lt = h.0
later_at x (y ∷ ys) (suc i) d h lt = later_at x ys i d h.1 (omega arith)

ascending_at : (xs : List StateValue) (i j : ℕ) (d : StateValue) → IsAscending value_lower xs → i < j → j < length xs → value_lower (get_or xs i d) (get_or xs j d) ≡ true
ascending_at [] i j d a lt le = absurd (omega arith)
ascending_at (x ∷ xs) i zero d a lt le = absurd (omega arith)
ascending_at (x ∷ xs) zero (suc j) d a lt le = later_at x xs j d a.0 (omega arith)
ascending_at (x ∷ xs) (suc i) (suc j) d a lt le = ascending_at xs i j d a.1 (omega arith) (omega arith)

less_not_equal : Less ≡ Equal → ⊥
less_not_equal e = cc

greater_not_equal : Greater ≡ Equal → ⊥
greater_not_equal e = cc

same_where_equal : (x y : StateValue) → order_by value_lower x y ≡ Equal → x ≡ y
same_where_equal x y e = go (value_lower x y) refl (value_lower y x) refl e
  where
    go : (b : Bool) → value_lower x y ≡ b → (c : Bool) → value_lower y x ≡ c → cond b Less (cond c Greater Equal) ≡ Equal → x ≡ y
    go true p c q h = absurd (less_not_equal h)
    go false p true q h = absurd (greater_not_equal h)
    go false p false q h = value_strict.total x y p q

equal_itself : (x : StateValue) → order_by value_lower x x ≡ Equal
equal_itself x = ap (λ b. cond b Less (cond b Greater Equal)) (value_strict.itself x)

is_less : (x y : StateValue) → value_lower x y ≡ true → order_by value_lower x y ≡ Less
is_less x y e = ap (λ b. cond b Less (cond (value_lower y x) Greater Equal)) e

-- what comes before another stands no higher to a third
rises : (x y t : StateValue) → value_lower x y ≡ true → ordering_index (order_by value_lower x t) ≤ ordering_index (order_by value_lower y t)
rises x y t e = go (value_lower y t) refl (value_lower t y) refl
  where
    low : ordering_index (order_by value_lower x t) ≡ 0 → (k : ℕ) → ordering_index (order_by value_lower x t) ≤ k
    low z k = subst (λ n. n ≤ k) (sym z) (omega arith)

    most : (o : ℕ) → o ≡ ordering_index (order_by value_lower x t) → o ≤ 2
    most o p = subst (λ n. n ≤ 2) (sym p) (at (value_lower x t) (value_lower t x))
      where
        at : (b c : Bool) → ordering_index (cond b Less (cond c Greater Equal)) ≤ 2
        at true c = omega arith
        at false true = omega arith
        at false false = omega arith

    go : (b : Bool) → value_lower y t ≡ b → (c : Bool) → value_lower t y ≡ c → ordering_index (order_by value_lower x t) ≤ ordering_index (cond b Less (cond c Greater Equal))
    go true p c q = low (ap ordering_index (is_less x t (value_strict.trans x y t e p))) 0
    go false p false q = low (ap ordering_index (is_less x t (subst (λ z. value_lower x z ≡ true) (value_strict.total y t p q) e))) 1
    go false p true q = most (ordering_index (order_by value_lower x t)) refl

states_rise : (xs : List StateValue) (t : StateValue) → IsAscending value_lower xs → IsNonDecreasingBy (λ (x : StateValue). ordering_index (order_by value_lower x t)) xs
states_rise xs t a i j d le lt = by (cases_lt i j)
  where
    at : ℕ → ℕ
    at k = ordering_index (order_by value_lower (get_or xs k d) t)

    by : (i < j) ⊎ (j ≤ i) → at i ≤ at j
    by (inl less) = rises (get_or xs i d) (get_or xs j d) t (ascending_at xs i j d a less lt)
    by (inr ge) = let e : i ≡ j = omega arith in subst (λ k. at i ≤ at k) e (omega arith)

pub looked_up : (xs : List StateValue) (t : StateValue) (r : Result ℕ ℕ) → IsAscending value_lower xs → IsSearchInRange r (length xs) → IsBinarySearchResult (λ x. order_by value_lower x t) xs r →
    MatchResult r (λ i. (i < length xs) × (get_or xs i t ≡ t)) (λ i. (j : ℕ) → j < length xs → get_or xs j t ≢ t)
looked_up xs t (Ok i) a range found = (range, same_where_equal (get_or xs i t) t (found t))
looked_up xs t (Err i) a range found = λ j lt e.
    let parted = found (states_rise xs t a) in
    let tied : order_by value_lower (get_or xs j t) t ≡ Equal = subst (λ u. order_by value_lower u t ≡ Equal) (sym e) (equal_itself t) in
    ⊎_elim
    (λ (l : j < i). less_not_equal (sym (parted.0 j t (omega arith) l) ∙ tied))
    (λ (g : i ≤ j). greater_not_equal (sym (parted.1 j t g lt) ∙ tied))
    (cases_lt j i)

-- ---- states by their numbers

pub stage_get : (qs : List Stage) (n : ℕ) (d : Stage) → n < length qs → get_or qs n d ≡ stage_at qs n
stage_get [] n d lt = absurd (omega arith)
stage_get (q ∷ qs) zero d lt = refl
stage_get (q ∷ qs) (suc n) d lt = stage_get qs n d (omega arith)

ascending_map : (f : Stage → StateValue) (qs : List Stage) → IsAscending (λ x y. value_lower (f x) (f y)) qs → IsAscending value_lower (map f qs)
ascending_map f [] a = tt
ascending_map f (q ∷ qs) a = (later qs a.0, ascending_map f qs a.1)
  where
    later : (rs : List Stage) → AllLater (λ x y. value_lower (f x) (f y)) q rs → AllLater value_lower (f q) (map f rs)
    later [] h = tt
    later (r ∷ rs) h = (h.0, later rs h.1)

-- the states of a link ascend
pub rights_ascend : (v : SumValue) (j : ℕ) (rs : List StateValue) → rs ≡ map (with_charge v) (states v j) → IsAscending value_lower rs
rights_ascend v j rs e = subst (IsAscending value_lower) (sym e) (ascending_map (with_charge v) (states v j) (stages_ascend charge_lower charge_strict (state_charge v) (terms_in v) j))

-- where a state's value is found, it is the state with this number
pub found_at : (v : SumValue) (qs : List Stage) (rs : List StateValue) (n : ℕ) (q : Stage) (t : StateValue) → rs ≡ map (with_charge v) qs → t ≡ with_charge v q → n < length rs → get_or rs n t ≡ t →
    (n < length qs) × (stage_at qs n ≡ q)
found_at v qs rs n q t er et lt e = (less, sym (stage_get qs n q less) ∙ ap (λ (s : StateValue). s.stage) (sym (get_or-map (with_charge v) qs n q t less) ∙ (ap (λ zs. get_or zs n t) (sym er) ∙ (e ∙ et))))
  where
    less : n < length qs
    less = subst (λ k. n < k) (ap length er ∙ length-map qs (with_charge v)) lt

-- where it is not found, the state is none of them
pub found_none : (v : SumValue) (qs : List Stage) (rs : List StateValue) (q : Stage) (t : StateValue) → rs ≡ map (with_charge v) qs → t ≡ with_charge v q → ((i : ℕ) → i < length rs → get_or rs i t ≢ t) → is_in same_stage q qs ≡ false
found_none v qs rs q t er et h = go (is_in same_stage q qs) refl
  where
    go : (b : Bool) → is_in same_stage q qs ≡ b → b ≡ false
    go false e = refl
    go true e =
        let c = in_to q qs (is_in_from q qs e) in
        absurd (h c.0 (subst (λ k. c.0 < k) (sym (ap length er ∙ length-map qs (with_charge v))) c.1)
        (ap (λ zs. get_or zs c.0 t) er ∙ (get_or-map (with_charge v) qs c.0 q t c.1 ∙ (ap (with_charge v) (get_or_default qs c.0 q _ c.1 ∙ c.2) ∙ sym et))))

-- a state that is not there is none of those with a number
pub differs : (q : Stage) (qs : List Stage) (m : ℕ) → is_in same_stage q qs ≡ false → m < length qs → same_stage q (stage_at qs m) ≡ false
differs q [] m h lt = absurd (omega arith)
differs q (r ∷ qs) zero h lt = (or_parts (same_stage q r) (is_in same_stage q qs) h).0
differs q (r ∷ qs) (suc m) h lt = differs q qs m (or_parts (same_stage q r) (is_in same_stage q qs) h).1 (omega arith)

distinct_at : (qs : List Stage) (n m : ℕ) → IsDistinct same_stage qs → n < length qs → m < length qs → n ≢ m → same_stage (stage_at qs n) (stage_at qs m) ≡ false
distinct_at [] n m d hn hm ne = absurd (omega arith)
distinct_at (q ∷ qs) zero zero d hn hm ne = absurd (ne refl)
distinct_at (q ∷ qs) zero (suc m) d hn hm ne = differs q qs m d.0 (omega arith)
distinct_at (q ∷ qs) (suc n) zero d hn hm ne = same_symm same_stage stage_test q (stage_at qs n) (differs q qs n d.0 (omega arith))
distinct_at (q ∷ qs) (suc n) (suc m) d hn hm ne = distinct_at qs n m d.1 (omega arith) (omega arith) (λ e. ne (ap suc e))

-- a state of a link is the one with its number, and no other
pub is_number : (v : SumValue) (j n m : ℕ) (q : Stage) → n < length (states v j) → m < length (states v j) → stage_at (states v j) n ≡ q → same_stage q (stage_at (states v j) m) ≡ (m == n)
is_number v j n m q hn hm e = go (m == n) refl
  where
    other : (m n : ℕ) → (m == n) ≡ false → n ≢ m
    other m n h = grind (arith, nat_tests)

    go : (b : Bool) → (m == n) ≡ b → same_stage q (stage_at (states v j) m) ≡ b
    go true h = subst (λ k. same_stage q (stage_at (states v j) k) ≡ true) (sym (eqb-true m n h)) (subst (λ z. same_stage q z ≡ true) (sym e) (stage_test.itself q))
    go false h = subst (λ z. same_stage z (stage_at (states v j) m) ≡ false) e (distinct_at (states v j) n m (stages-distinct (state_lower v) (terms_in v) j) hn hm (other m n h))

-- what a search for a state answers
pub number_is : (v : SumValue) (qs : List Stage) (rs : List StateValue) (q : Stage) (t : StateValue) (r : Option ℕ) → rs ≡ map (with_charge v) qs → t ≡ with_charge v q →
    MatchOption r ((i : ℕ) → i < length rs → get_or rs i t ≢ t) (λ i. (i < length rs) × (get_or rs i t ≡ t)) → MatchOption r (is_in same_stage q qs ≡ false) (λ n. (n < length qs) × (stage_at qs n ≡ q))
number_is v qs rs q t None er et h = found_none v qs rs q t er et h
number_is v qs rs q t (Some n) er et h = found_at v qs rs n q t er et h.0 h.1

-- the state not begun has its number, or is none of them
pub waits_at : (v : SumValue) (j n m : ℕ) (q : Stage) → n < length (states v j) → m < length (states v j) → stage_at (states v j) n ≡ q → q ≡ not_begun → same_stage not_begun (stage_at (states v j) m) ≡ (m == n)
waits_at v j n m q hn hm e z = is_number v j n m not_begun hn hm (e ∙ z)

pub waits_nowhere : (v : SumValue) (j n m : ℕ) (q : Stage) → n ≡ length (states v j) → m < length (states v j) → q ≡ not_begun → is_in same_stage q (states v j) ≡ false → same_stage not_begun (stage_at (states v j) m) ≡ (m == n)
waits_nowhere v j n m q en hm z none = differs not_begun (states v j) m (subst (λ r. is_in same_stage r (states v j) ≡ false) z none) hm ∙ sym (apart m n (subst (λ k. m < k) (sym en) hm))
  where
    apart : (m n : ℕ) → m < n → (m == n) ≡ false
    apart m n h = grind (arith, nat_tests)
