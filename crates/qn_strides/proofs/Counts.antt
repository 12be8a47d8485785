-- How many couples and open legs there are, and where they stand.
use Rattle.std.proofs.Common.{◌≤◌, ◌<◌, ℕ, Bool, true, false, List, [], ◌∷◌, ◌++◌, sym, length, ◌≡◌, ◌⊎◌, inl, inr, arith}
use Rattle.std.proofs.lemmas.Bool.{cases_lt, false≢true}
use Rattle.std.specs.List.{All}
use Rattle.qn_sign.specs.Positions.{IsOrder}
use Rattle.qn_sign.proofs.Positions.{orders_are_permutations}
use Rattle.qn_gauss.specs.Gaussian.{limit}
use Rattle.qn_index.specs.Legs.{LegValue}
use Rattle.qn_value.specs.Local.{IsCoupling}
use Rattle.qn_strides.specs.Strides.{goal_couples, open_places, goal_places}
use Rattle.qn_strides.proofs.Goal.{perm_goal}

couples_long : (ls : List LegValue) (cs : List (ℕ × ℕ)) → length cs ≤ length (goal_couples ls cs)
couples_long ls [] = omega arith
couples_long ls (c ∷ cs) = omega (arith, couples_long ls cs)

pub append_long : (xs ys : List ℕ) → length xs ≤ length (xs ++ ys)
append_long [] ys = omega arith
append_long (x ∷ xs) ys = omega (arith, append_long xs ys)

-- there are no more couples than legs
pub few_couples : (ls : List LegValue) (cs : List (ℕ × ℕ)) → IsCoupling ls cs → length cs ≤ length ls
few_couples ls cs good =
    let o : IsOrder (length ls) (goal_places ls cs) = (orders_are_permutations (length ls) (goal_places ls cs)).0 (perm_goal ls cs good) in
    omega (arith, couples_long ls cs, append_long (goal_couples ls cs) (open_places cs (length ls)), o.count)

pub goal_within : (ls : List LegValue) (cs : List (ℕ × ℕ)) → IsCoupling ls cs → All (λ k. k < length ls) (goal_places ls cs)
goal_within ls cs good =
    let o : IsOrder (length ls) (goal_places ls cs) = (orders_are_permutations (length ls) (goal_places ls cs)).0 (perm_goal ls cs good) in
    o.within

append_second : (xs ys : List ℕ) → length ys ≤ length (xs ++ ys)
append_second [] ys = omega arith
append_second (x ∷ xs) ys = omega (arith, append_second xs ys)

-- nor more open legs
pub few_open : (ls : List LegValue) (cs : List (ℕ × ℕ)) → IsCoupling ls cs → length (open_places cs (length ls)) ≤ length ls
few_open ls cs good =
    let o : IsOrder (length ls) (goal_places ls cs) = (orders_are_permutations (length ls) (goal_places ls cs)).0 (perm_goal ls cs good) in
    omega (arith, append_second (goal_couples ls cs) (open_places cs (length ls)), o.count)

pub within_limit : (n : ℕ) → (limit < n → true ≡ false) → n ≤ limit
within_limit n h = by (cases_lt limit n)
  where
    by : (limit < n) ⊎ (n ≤ limit) → n ≤ limit
    by (inl l) = absurd (false≢true (sym (h l)))
    by (inr l) = l
