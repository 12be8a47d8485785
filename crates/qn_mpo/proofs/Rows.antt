-- The transitions from a state within a term, as a row of tables.
use Rattle.std.proofs.Common.{◌≡◌, ◌≢◌, ℕ, ◌+◌, ◌-◌, ◌*◌, ◌^◌, ◌≤◌, ◌<◌, ◌⊎◌, inl, inr, Bool, true, false, ◌==◌, cond, List, [], ◌∷◌, length, get_or, refl, sym, ◌∙◌, ap, ap₂, subst, arith}
use Rattle.std.specs.Prelude.{nat_lt}
use Rattle.std.specs.List.{All}
use Rattle.std.proofs.lemmas.Bool.{cases_lt}
use Rattle.std.proofs.lemmas.Bool.Decides.{nat_tests}
use Rattle.std.proofs.lemmas.List.{get_or_past}
use Rattle.std.proofs.Math.Nat.{mul-le-mul_right, mul_assoc, pow-succ', pow-zero}
use Rattle.qn_sign.specs.Sign.{is_in}
use Rattle.qn_gauss.specs.Gaussian.{Gaussian, limit, mag, zero_g}
use Rattle.qn_opsum.specs.Strings.{Factor, Sites, matrix}
use Rattle.qn_opsum.specs.Sums.{SumValue, site_at}
use Rattle.qn_auto.specs.Automaton.{Stage, Term, begin, next, same_stage, stage_at, to_come, transition}
use Rattle.qn_auto.specs.Building.{OpsPass, ProductPasses, transition_size}
use Rattle.qn_auto.specs.Flux.{on_site, ops_at}
use Rattle.qn_auto.specs.SumAutomaton.{sites_in, states, terms_in}
use Rattle.qn_auto.specs.Terms.{AreTermOf, IsFactorOf, IsTermOf}
use Rattle.qn_auto.proofs.Conserves.{matrix_ops}
use Rattle.qn_auto.proofs.Ordered.{all_from, all_to}
use Rattle.qn_auto.proofs.Stages.{AllOf}
use Rattle.qn_auto.proofs.Terms.{terms_hold}
use Rattle.qn_mpo.specs.Rows.{IsRowFrom, IsScene, PassesFrom, RowValue, SceneValue, begun_steps, dim_at, row_cell, steps_from}
use Rattle.qn_mpo.specs.Tables.{IsTableOf, cell}
use Rattle.qn_mpo.proofs.Numbers.{differs, is_number}
use Rattle.qn_mpo.proofs.Tables.{place_below}
use Rattle.qn_value.proofs.BlockSums.{lt_true}

-- ---- the operators of a term on a site

-- the numbers of a term's operators on a site are those of its tables
pub ops_known : (s : SceneValue) → IsScene s → (fs : List Factor) → AreTermOf s.sum fs → (os : List ℕ) → os ≡ ops_at s.site fs → All (λ o. o < length s.tables) os
ops_known s h fs known os e =
    subst (All (λ o. o < length s.tables)) (sym e) (all_from (λ o. o < length s.tables) (ops_at s.site fs) (go fs (all_to (IsFactorOf s.sum) fs known.known)))
  where
    here : (f : Factor) → IsFactorOf s.sum f → (f.site == s.site) ≡ true → f.op < length s.tables
    here f k q = subst (λ n. f.op < n) (sym h.tables.count) (subst (λ j. f.op < length (site_at s.sum.sites j).ops) (same f.site s.site q) k.op)
      where
        same : (a b : ℕ) → (a == b) ≡ true → a ≡ b
        same a b q = grind (arith, nat_tests)

    go : (gs : List Factor) → AllOf (IsFactorOf s.sum) gs → AllOf (λ o. o < length s.tables) (ops_at s.site gs)
    go [] a = tt
    go (f ∷ gs) a = by (f.site == s.site) refl (go gs a.1)
      where
        by : (b : Bool) → (f.site == s.site) ≡ b → AllOf (λ o. o < length s.tables) (ops_at s.site gs) → AllOf (λ o. o < length s.tables) (cond b (f.op ∷ ops_at s.site gs) (ops_at s.site gs))
        by true q ih = (here f a.0 q, ih)
        by false q ih = ih

-- the table of the operators of a term on a site is that of its matrix
pub term_table : (S : Sites) (fs : List Factor) (j d : ℕ) (os : List ℕ) (t : List Gaussian) → os ≡ ops_at j fs → IsTableOf d (matrix S (on_site j os) j) t → IsTableOf d (matrix S fs j) t
term_table S fs j d os t e h = record {
  full = h.full;
  entries = λ x y hx hy. h.entries x y hx hy ∙ (ap (λ zs. matrix S (on_site j zs) j x y) e ∙ sym (matrix_ops S fs j x y));
}

-- ---- a state that has begun

begun_transition : (S : Sites) (ws : List Term) (j : ℕ) (fs : List Factor) (r : Stage) (x y : ℕ) → transition S ws j (to_come fs) r x y ≡ cond (same_stage (next j fs) r) (matrix S fs j x y) zero_g
begun_transition S ws j [] r x y = refl
begun_transition S ws j (f ∷ fs) r x y = refl

begun_transition_size : (S : Sites) (ws : List Term) (j : ℕ) (fs : List Factor) (r : Stage) (x y : ℕ) → transition_size S ws j (to_come fs) r x y ≡ cond (same_stage (next j fs) r) (mag (matrix S fs j x y)) 0
begun_transition_size S ws j [] r x y = refl
begun_transition_size S ws j (f ∷ fs) r x y = refl

ops_pass_to : (S : Sites) (ws : List Term) (j : ℕ) (fs : List Factor) → ProductPasses S j (ops_at j fs) → OpsPass S ws j (to_come fs)
ops_pass_to S ws j [] h = h
ops_pass_to S ws j (f ∷ fs) h = h

ops_pass_from : (S : Sites) (ws : List Term) (j : ℕ) (fs : List Factor) → OpsPass S ws j (to_come fs) → ProductPasses S j (ops_at j fs)
ops_pass_from S ws j [] h = h
ops_pass_from S ws j (f ∷ fs) h = h

-- where the product passes the build does
pub later_stops : (v : SumValue) (j : ℕ) (fs : List Factor) (os : List ℕ) → os ≡ ops_at j fs → ProductPasses (sites_in v) j os → PassesFrom v j (to_come fs)
later_stops v j fs os e h = inl (ops_pass_to (sites_in v) (terms_in v) j fs (subst (ProductPasses (sites_in v) j) e h))

-- no entry of a table that is kept is too large
pub cell_fits : (d : ℕ) (t : List Gaussian) (x y : ℕ) → length t ≡ d * d → x < d → y < d → All (λ z. mag z ≤ limit) t → mag (cell d t x y) ≤ limit
cell_fits d t x y full hx hy fits = fits (x * d + y) zero_g (subst (λ n. x * d + y < n) (sym full) (place_below d x y hx hy))

pub later_clear : (v : SumValue) (j : ℕ) (fs : List Factor) (os : List ℕ) (d : ℕ) (t : List Gaussian) → os ≡ ops_at j fs → d ≡ dim_at v j → IsTableOf d (matrix (sites_in v) (on_site j os) j) t → All (λ z. mag z ≤ limit) t →
    (ProductPasses (sites_in v) j os → ⊥) → PassesFrom v j (to_come fs) → ⊥
later_clear v j fs os d t e ed h fits none (inl p) = none (subst (ProductPasses (sites_in v) j) (sym e) (ops_pass_from (sites_in v) (terms_in v) j fs p))
later_clear v j fs os d t e ed h fits none (inr p) =
    go (same_stage (next j fs) p.right) (subst (λ n. limit < n) (begun_transition_size S (terms_in v) j fs p.right p.large.row p.large.column) p.large.above)
  where
    S : Sites
    S = sites_in v

    made : IsTableOf d (matrix S fs j) t
    made = term_table S fs j d os t e h

    rows : p.large.row < d
    rows = subst (λ n. p.large.row < n) (sym ed) p.large.in_rows

    columns : p.large.column < d
    columns = subst (λ n. p.large.column < n) (sym ed) p.large.in_columns

    small : mag (matrix S fs j p.large.row p.large.column) ≤ limit
    small = subst (λ z. mag z ≤ limit) (made.entries p.large.row p.large.column rows columns) (cell_fits d t p.large.row p.large.column made.full rows columns fits)

    clash : (n : ℕ) → n ≤ limit → limit < n → ⊥
    clash n h k = omega (arith, h, k)

    never : limit < 0 → ⊥
    never k = omega (arith, k)

    go : (b : Bool) → limit < cond b (mag (matrix S fs j p.large.row p.large.column)) 0 → ⊥
    go true k = clash (mag (matrix S fs j p.large.row p.large.column)) small k
    go false k = never k

-- ---- rows of one table, and of none

not_below : (m n : ℕ) → n ≤ m → nat_lt m n ≡ false
not_below m n h = grind (arith, nat_tests)

apart : (m n : ℕ) → m ≢ n → (m == n) ≡ false
apart m n h = grind (arith, nat_tests)

itself : (n : ℕ) → (n == n) ≡ true
itself n = grind (arith, nat_tests)

-- the entries of a row with one table
one_cell : (size first m place : ℕ) (t : List Gaussian) → length t ≡ size → row_cell size (record { first = first; entries = t }) m place ≡ cond (m == first) (get_or t place zero_g) zero_g
one_cell size first m place t full = by (cases_lt m first) (cases_lt first m)
  where
    Row : RowValue
    Row = record { first = first; entries = t }

    here : m ≡ first → row_cell size Row m place ≡ cond (m == first) (get_or t place zero_g) zero_g
    here e = subst (λ k. row_cell size Row k place ≡ cond (k == first) (get_or t place zero_g) zero_g) (sym e)
        (ap (λ b. cond b zero_g (get_or t ((first - first) * size + place) zero_g)) (not_below first first (least first))
        ∙ (ap (λ k. get_or t k zero_g) (start first size place) ∙ sym (ap (λ b. cond b (get_or t place zero_g) zero_g) (itself first))))
      where
        least : (n : ℕ) → n ≤ n
        least n = omega arith

        start : (n size place : ℕ) → (n - n) * size + place ≡ place
        start n size place = ap (λ k. k * size + place) (gone n) ∙ none size place
          where
            gone : (n : ℕ) → n - n ≡ 0
            gone n = omega arith

            none : (size place : ℕ) → 0 * size + place ≡ place
            none size place = omega arith

    past : first < m → row_cell size Row m place ≡ cond (m == first) (get_or t place zero_g) zero_g
    past lt =
        ap (λ b. cond b zero_g (get_or t ((m - first) * size + place) zero_g)) (not_below m first (weak first m lt))
        ∙ (get_or_past t ((m - first) * size + place) zero_g (subst (λ n. n ≤ (m - first) * size + place) (sym full) (far (m - first) size place (some first m lt)))
        ∙ sym (ap (λ b. cond b (get_or t place zero_g) zero_g) (apart m first (λ e. differ first m lt e))))
      where
        weak : (a b : ℕ) → a < b → a ≤ b
        weak a b h = omega arith

        some : (a b : ℕ) → a < b → 1 ≤ b - a
        some a b h = omega arith

        differ : (a b : ℕ) → a < b → b ≡ a → ⊥
        differ a b h e = omega arith

        far : (k size place : ℕ) → 1 ≤ k → size ≤ k * size + place
        far k size place h = more size (1 * size) (k * size) place (one size) (mul-le-mul_right size h)
          where
            one : (n : ℕ) → 1 * n ≡ n
            one n = omega arith

            more : (a b c p : ℕ) → b ≡ a → b ≤ c → a ≤ c + p
            more a b c p e h = omega arith

    before : m < first → row_cell size Row m place ≡ cond (m == first) (get_or t place zero_g) zero_g
    before lt =
        ap (λ b. cond b zero_g (get_or t ((m - first) * size + place) zero_g)) (lt_true m first lt)
        ∙ sym (ap (λ b. cond b (get_or t place zero_g) zero_g) (apart m first (λ e. differ m first lt e)))
      where
        differ : (a b : ℕ) → a < b → a ≡ b → ⊥
        differ a b h e = omega arith

    same : (a b : ℕ) → b ≤ a → a ≤ b → a ≡ b
    same a b h k = omega arith

    by : (m < first) ⊎ (first ≤ m) → (first < m) ⊎ (m ≤ first) → row_cell size Row m place ≡ cond (m == first) (get_or t place zero_g) zero_g
    by (inl lt) _ = before lt
    by (inr ge) (inl lt) = past lt
    by (inr ge) (inr le) = here (same m first ge le)

pub row_found : (v : SumValue) (j : ℕ) (fs : List Factor) (os : List ℕ) (d : ℕ) (t : List Gaussian) (n : ℕ) (q : Stage) → os ≡ ops_at j fs → d ≡ dim_at v j → IsTableOf d (matrix (sites_in v) (on_site j os) j) t →
    q ≡ next j fs → (n < length (states v j)) × (stage_at (states v j) n ≡ q) → IsRowFrom v j (to_come fs) (record { first = n; entries = t })
row_found v j fs os d t n q e ed h eq found m x y hm hx hy =
    one_cell (dim_at v j * dim_at v j) n m (x * dim_at v j + y) t made.full
    ∙ (ap₂ (λ b z. cond b z zero_g) (sym (is_number v j n m (next j fs) found.0 hm (found.1 ∙ eq))) (made.entries x y hx hy)
    ∙ sym (begun_transition (sites_in v) (terms_in v) j fs (stage_at (states v j) m) x y))
  where
    made : IsTableOf (dim_at v j) (matrix (sites_in v) fs j) t
    made = term_table (sites_in v) fs j (dim_at v j) os t e (subst (λ k. IsTableOf k (matrix (sites_in v) (on_site j os) j) t) ed h)

pub row_none : (v : SumValue) (j : ℕ) (fs : List Factor) (q : Stage) → q ≡ next j fs → is_in same_stage q (states v j) ≡ false → IsRowFrom v j (to_come fs) (record { first = 0; entries = [] })
row_none v j fs q eq none m x y hm hx hy =
    ap (λ b. cond b zero_g zero_g) (not_below m 0 (least m))
    ∙ (ap (λ b. cond b (matrix (sites_in v) fs j x y) zero_g) (sym (differs (next j fs) (states v j) m (subst (λ z. is_in same_stage z (states v j) ≡ false) eq none) hm))
    ∙ sym (begun_transition (sites_in v) (terms_in v) j fs (stage_at (states v j) m) x y))
  where
    least : (n : ℕ) → 0 ≤ n
    least n = omega arith

-- ---- how often they multiply

cube : (d : ℕ) → d * d * d ≡ d ^ 3
cube d = flat d ∙ sym (pow-succ' d 2 ∙ ap (λ k. d * k) (pow-succ' d 1 ∙ ap (λ k. d * k) (pow-succ' d 0 ∙ (ap (λ k. d * k) (pow-zero d) ∙ one d))))
  where
    flat : (d : ℕ) → d * d * d ≡ d * (d * d)
    flat d = mul_assoc d d d

    one : (d : ℕ) → d * 1 ≡ d
    one d = omega arith

pub later_steps : (v : SumValue) (j d : ℕ) (fs : List Factor) (old new : ℕ) → d ≡ dim_at v j → new ≤ old + length (ops_at j fs) * (d * d * d) → new ≤ old + steps_from (sites_in v) (terms_in v) j (to_come fs)
later_steps v j d [] old new e h = none (d * d * d) h
  where
    none : (k : ℕ) → new ≤ old + 0 * k → new ≤ old + 0
    none k h = omega (arith, h)
later_steps v j d (f ∷ fs) old new e h = subst (λ k. new ≤ old + length (ops_at j (f ∷ fs)) * k) (cube d ∙ ap (λ n. n ^ 3) e) h

square : (d : ℕ) → d * d ≡ d ^ 2
square d = sym (pow-succ' d 1 ∙ ap (λ k. d * k) (pow-succ' d 0 ∙ (ap (λ k. d * k) (pow-zero d) ∙ one d)))
  where
    one : (d : ℕ) → d * 1 ≡ d
    one d = omega arith

pub begun_within : (S : Sites) (j : ℕ) (w : Term) (d : ℕ) (os : List ℕ) (old mid new k : ℕ) → begin w.factors ≡ j → d ≡ S.dim j → os ≡ ops_at j w.factors → mid ≤ old + length os * (d * d * d) → new ≤ mid + k → k ≤ d * d →
    new ≤ old + begun_steps S j w
begun_within S j w d os old mid new k b ed eo h more small =
    subst (λ n. new ≤ old + n) (steps ∙ sym (ap (λ c. cond c (length (ops_at j w.factors) * S.dim j ^ 3 + S.dim j ^ 2) 0) (same (begin w.factors) j b))) (sum (length os * (d * d * d)) (d * d) h more small)
  where
    same : (m n : ℕ) → m ≡ n → (m == n) ≡ true
    same m n e = grind (arith, nat_tests)

    steps : length os * (d * d * d) + d * d ≡ length (ops_at j w.factors) * S.dim j ^ 3 + S.dim j ^ 2
    steps = ap₂ (λ (zs : List ℕ) n. length zs * n + d * d) eo (cube d ∙ ap (λ n. n ^ 3) ed) ∙ ap (λ n. length (ops_at j w.factors) * S.dim j ^ 3 + n) (square d ∙ ap (λ n. n ^ 2) ed)

    sum : (a e : ℕ) → mid ≤ old + a → new ≤ mid + k → k ≤ e → new ≤ old + (a + e)
    sum a e h m s = omega (arith, h, m, s)

-- ---- cells before the first table

pub cell_before : (size : ℕ) (r : RowValue) (n place : ℕ) → n < r.first → zero_g ≡ row_cell size r n place
cell_before size r n place lt = sym (ap (λ b. cond b zero_g (get_or r.entries ((n - r.first) * size + place) zero_g)) (lt_true n r.first lt))

-- ---- the terms of a scene

pub term_known : (s : SceneValue) → IsScene s → (i : ℕ) (w : Term) (ws : List Term) → ws ≡ s.terms → i < length ws → w ≡ get_or ws i w → AreTermOf s.sum w.factors
term_known s h i w ws e lt is =
    (subst (IsTermOf s.sum) (sym (is ∙ ap (λ xs. get_or xs i w) (e ∙ h.terms))) (terms_hold s.sum h.sum i w (subst (λ (xs : List Term). i < length xs) (e ∙ h.terms) lt))).known
