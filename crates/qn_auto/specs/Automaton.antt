-- An operator sum as a finite automaton: the states of a link are what is still to come of the terms, and each site reads the operators on it.
-- Source: after Crosswhite and Bacon 2008; the states of the automaton are this project's own.
use Rattle.std.specs.Prelude.{ℕ, zero, suc, Bool, true, false, ◌&&◌, ◌==◌, nat_lt, cond, List, [], ◌∷◌}
use Rattle.qn_sign.specs.Sign.{is_odd, is_in}
use Rattle.qn_gauss.specs.Gaussian.{Gaussian, zero_g, add_g, mul_g, signed}
use Rattle.qn_value.specs.Rows.{sum_over}
use Rattle.qn_opsum.specs.Strings.{Sites, Factor, State, identity, string, matrix, inversions, in_site_order, AreBelow}

-- a term of an operator sum
pub record Term : Type 0 where
  pub amount : Gaussian
  pub factors : List Factor

-- the sum of the coefficients times the strings
abbrev pub sum_of : Sites → List Term → State → State → Gaussian
sum_of S ws t s = sum_over ws (λ w. mul_g w.amount (string S w.factors t s))

-- a term in site order: the coefficient is negated where the order of the odd operators is odd
abbrev pub normal : Sites → Term → Term
normal S w = record { amount = signed (is_odd (inversions S w.factors)) w.amount; factors = in_site_order w.factors }

-- a state of the automaton: before a term, within one (with the operators that are still to come), after it
pub data Stage : Type 0 where
  not_begun : Stage
  rest : List Factor → Stage
  done : Stage

abbrev pub same_factors : List Factor → List Factor → Bool
same_factors [] [] = true
same_factors [] (g ∷ gs) = false
same_factors (f ∷ fs) [] = false
same_factors (f ∷ fs) (g ∷ gs) = f.site == g.site && f.op == g.op && same_factors fs gs

abbrev pub same_stage : Stage → Stage → Bool
same_stage not_begun not_begun = true
same_stage not_begun (rest gs) = false
same_stage not_begun done = false
same_stage (rest fs) not_begun = false
same_stage (rest fs) (rest gs) = same_factors fs gs
same_stage (rest fs) done = false
same_stage done not_begun = false
same_stage done (rest gs) = false
same_stage done done = true

-- the operators after site j
abbrev pub after : ℕ → List Factor → List Factor
after j [] = []
after j (f ∷ fs) = cond (nat_lt j f.site) (f ∷ after j fs) (after j fs)

abbrev pub to_come : List Factor → Stage
to_come [] = done
to_come (f ∷ fs) = rest (f ∷ fs)

-- what is still to come after site j, or done
abbrev pub next : ℕ → List Factor → Stage
next j fs = to_come (after j fs)

-- the site where a term begins; one without operators begins at the first site
abbrev pub begin : List Factor → ℕ
begin [] = 0
begin (f ∷ fs) = f.site

-- the state that a term is in at the link right of site j
abbrev pub stage : ℕ → List Factor → Stage
stage j fs = cond (nat_lt j (begin fs)) not_begun (next j fs)

-- x goes before the first element that it is earlier than
abbrev pub enter : (Stage → Stage → Bool) → Stage → List Stage → List Stage
enter earlier x [] = x ∷ []
enter earlier x (y ∷ ys) = cond (earlier x y) (x ∷ y ∷ ys) (y ∷ enter earlier x ys)

-- the same, unless x is in the list
abbrev pub enter_new : (Stage → Stage → Bool) → Stage → List Stage → List Stage
enter_new earlier x ys = cond (is_in same_stage x ys) ys (enter earlier x ys)

-- the states at the link right of site j: those of all terms, equal ones once, in the given order
abbrev pub stages : (Stage → Stage → Bool) → List Term → ℕ → List Stage
stages earlier [] j = []
stages earlier (w ∷ ws) j = enter_new earlier (stage j w.factors) (stages earlier ws j)

-- the state with this number
abbrev pub stage_at : List Stage → ℕ → Stage
stage_at [] v = done
stage_at (q ∷ qs) zero = q
stage_at (q ∷ qs) (suc v) = stage_at qs v

-- what a term that begins at site j gives to the transition from not begun to a state: its coefficient times the product of its operators there
abbrev pub begun : Sites → ℕ → Stage → ℕ → ℕ → Term → Gaussian
begun S j r x y w = cond (begin w.factors == j && same_stage (next j w.factors) r) (mul_g w.amount (matrix S w.factors j x y)) zero_g

-- the sum of the transitions from one state to another at site j, at row x and column y
abbrev pub transition : Sites → List Term → ℕ → Stage → Stage → ℕ → ℕ → Gaussian
transition S ws j not_begun r x y = add_g (cond (same_stage not_begun r) (identity x y) zero_g) (sum_over ws (begun S j r x y))
transition S ws j (rest fs) r x y = cond (same_stage (next j fs) r) (matrix S fs j x y) zero_g
transition S ws j done r x y = cond (same_stage done r) (identity x y) zero_g

-- the entry of site j at the values of the legs s', s and right, where the left state is l; a site with no right leg counts as done there
abbrev pub entry_from : (Stage → Stage → Bool) → Sites → List Term → ℕ → Stage → List ℕ → Gaussian
entry_from earlier S ws j l [] = zero_g
entry_from earlier S ws j l (x ∷ []) = zero_g
entry_from earlier S ws j l (x ∷ y ∷ []) = transition S ws j l done x y
entry_from earlier S ws j l (x ∷ y ∷ r ∷ zs) = transition S ws j l (stage_at (stages earlier ws j) r) x y

-- the entry of site j + 1, whose first value is that of the link right of site j
abbrev pub entry_at : (Stage → Stage → Bool) → Sites → List Term → ℕ → List ℕ → Gaussian
entry_at earlier S ws j [] = zero_g
entry_at earlier S ws j (l ∷ vs) = entry_from earlier S ws (suc j) (stage_at (stages earlier ws j) l) vs

-- the entries of site j; site 0 has no left leg and counts as not begun there
abbrev pub site_entry : (Stage → Stage → Bool) → Sites → List Term → ℕ → List ℕ → Gaussian
site_entry earlier S ws zero = entry_from earlier S ws 0 not_begun
site_entry earlier S ws (suc j) = entry_at earlier S ws j

abbrev pub AllBelow : ℕ → List Term → Type 0
AllBelow n [] = Unit {0}
AllBelow n (w ∷ ws) = AreBelow n w.factors × AllBelow n ws
