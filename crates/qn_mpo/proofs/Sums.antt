-- The sums of the transitions from not begun, term by term.
use Rattle.std.proofs.Common.{◌≡◌, ◌≢◌, ℕ, zero, suc, ◌+◌, ◌-◌, ◌*◌, ◌/◌, ◌%◌, ◌≤◌, ◌<◌, ◌⊎◌, inl, inr, Bool, true, false, ◌&&◌, ◌==◌, cond, List, [], ◌∷◌, ◌++◌, length, get_or, drop, take, set, map, refl, sym, ◌∙◌, ap, ap₂, subst, arith}
use Rattle.std.specs.Prelude.{nat_lt}
use Rattle.std.specs.List.{All}
use Rattle.std.proofs.lemmas.Bool.{cases_lt}
use Rattle.std.proofs.lemmas.Bool.Decides.{nat_tests}
use Rattle.std.proofs.lemmas.List.{get_or-set_other, get_or-set_same, get_or_default, length-set, take_all, append-nil}
use Rattle.std.proofs.lemmas.Nat.{div-add-mod', div-mul-add, mod-mul-add}
use Rattle.std.proofs.Math.ListN as lists
use Rattle.std.proofs.Math.Nat.{mul-le-mul_right}
use Rattle.qn_sign.specs.Sign.{is_in}
use Rattle.qn_gauss.specs.Gaussian.{Gaussian, add_g, limit, mag, mul_g, one_g, zero_g}
use Rattle.qn_gauss.proofs.Ring.{add_assoc, add_zero}
use Rattle.qn_value.specs.Rows.{sum_over}
use Rattle.qn_opsum.specs.Strings.{Sites, matrix}
use Rattle.qn_opsum.specs.Sums as sums
use Rattle.qn_auto.specs.Automaton.{Stage, Term, begin, begun, next, same_stage, stage_at, transition}
use Rattle.qn_auto.specs.Automaton.Stage.{not_begun}
use Rattle.qn_auto.specs.Building.{BeginPasses, ProductPasses, begun_size, total_over, transition_size}
use Rattle.qn_auto.specs.Flux.{ops_at}
use Rattle.qn_auto.specs.SumAutomaton.{sites_in, states, terms_in}
use Rattle.qn_auto.proofs.Ordered.{in_to, is_in_from}
use Rattle.qn_auto.proofs.Stages.{stage_at-in}
use Rattle.qn_mpo.specs.Rows.{IsRowFrom, PassesFrom, begun_steps, dim_at}
use Rattle.qn_mpo.specs.Sizes.{SumValue, size_with, with_product}
use Rattle.qn_mpo.specs.Sums.{AreFirst, HaveTable, HaveTerm, TablePasses, TermPasses, first_value, no_sum, place_in, sum_at}
use Rattle.qn_mpo.specs.Tables.{IsTableOf, cell}
use Rattle.qn_mpo.proofs.Links.{drop_at}
use Rattle.qn_mpo.proofs.Numbers.{differs, stage_get}
use Rattle.qn_mpo.proofs.Tables.{place_below}
use Rattle.qn_mpo.proofs.Tables as tables

-- ---- places

-- a place in the table of an earlier state stands before a later table begins
earlier : (e m n p : ℕ) → m < n → p < e → m * e + p < n * e
earlier e m n p lt hp = further (m * e) p (suc m * e) (n * e) (more m e) hp (mul-le-mul_right e (up m n lt))
  where
    more : (m e : ℕ) → suc m * e ≡ m * e + e
    more m e = omega arith

    up : (m n : ℕ) → m < n → suc m ≤ n
    up m n h = omega arith

    further : (a p b c : ℕ) → b ≡ a + e → p < e → b ≤ c → a + p < c
    further a p b c s h k = omega arith

-- a place in the table of a later state stands after an earlier table ends
later : (e m n p : ℕ) → n < m → m * e + p ≡ n * e + e + ((m - suc n) * e + p)
later e m n p lt = step (m * e) (n * e) ((m - suc n) * e) (ap (λ k. k * e) (parts m n lt) ∙ spread (m - suc n) n e)
  where
    parts : (m n : ℕ) → n < m → m ≡ (m - suc n) + suc n
    parts m n h = omega arith

    spread : (k n e : ℕ) → (k + suc n) * e ≡ k * e + (n * e + e)
    spread k n e = dist k (suc n) e ∙ ap (λ z. k * e + z) (more n e)
      where
        more : (n e : ℕ) → suc n * e ≡ n * e + e
        more n e = omega arith

        dist : (a b c : ℕ) → (a + b) * c ≡ a * c + b * c
        dist a b c = search arith

    step : (a b c : ℕ) → a ≡ c + (b + e) → a + p ≡ b + e + (c + p)
    step a b c h = omega arith

place_fits : (d count n x y : ℕ) → n < count → x < d → y < d → place_in d n x y < count * (d * d)
place_fits d count n x y hn hx hy = earlier (d * d) n count (x * d + y) hn (place_below d x y hx hy)

-- ---- a table that is added

-- the sums with a number times a table more, state by state
table_at : (d n m x y : ℕ) (a : Gaussian) (t : List Gaussian) (old new : List SumValue) → length t ≡ d * d → x < d → y < d → HaveTable a t (n * (d * d)) old new →
    sum_at new (place_in d m x y) ≡ cond (m == n) (with_product (sum_at old (place_in d m x y)) a (cell d t x y)) (sum_at old (place_in d m x y))
table_at d n m x y a t old new full hx hy h = by (cases_lt m n) (cases_lt n m)
  where
    Goal : Bool → Type 0
    Goal b = sum_at new (place_in d m x y) ≡ cond b (with_product (sum_at old (place_in d m x y)) a (cell d t x y)) (sum_at old (place_in d m x y))

    apart : (m n : ℕ) → m ≢ n → (m == n) ≡ false
    apart m n h = grind (arith, nat_tests)

    same : (m n : ℕ) → n ≤ m → m ≤ n → (m == n) ≡ true
    same m n h k = grind (arith, nat_tests)

    equal : (m n : ℕ) → n ≤ m → m ≤ n → m ≡ n
    equal m n h k = omega arith

    less : (a b : ℕ) → a < b → a ≢ b
    less a b h e = omega (arith, h, e)

    more : (a b : ℕ) → b < a → a ≢ b
    more a b h e = omega (arith, h, e)

    by : (m < n) ⊎ (n ≤ m) → (n < m) ⊎ (m ≤ n) → Goal (m == n)
    by (inl lt) _ = subst Goal (sym (apart m n (less m n lt))) (h.before (place_in d m x y) (earlier (d * d) m n (x * d + y) lt (place_below d x y hx hy)))
    by (inr ge) (inl lt) =
        let there : place_in d m x y ≡ n * (d * d) + length t + ((m - suc n) * (d * d) + (x * d + y)) = later (d * d) m n (x * d + y) lt ∙ ap (λ k. n * (d * d) + k + ((m - suc n) * (d * d) + (x * d + y))) (sym full) in
        subst Goal (sym (apart m n (more m n lt))) (ap (sum_at new) there ∙ (h.after ((m - suc n) * (d * d) + (x * d + y)) ∙ ap (sum_at old) (sym there)))
    by (inr ge) (inr le) =
        subst Goal (sym (same m n ge le))
        (subst (λ k. sum_at new (place_in d k x y) ≡ with_product (sum_at old (place_in d k x y)) a (cell d t x y)) (sym (equal m n ge le))
        (h.added (x * d + y) (subst (λ k. x * d + y < k) (sym full) (place_below d x y hx hy))))

-- a table of which the first entries are added
pub record HaveTableTo (a : Gaussian) (t : List Gaussian) (start place : ℕ) (old new : List SumValue) : Type 0 where
  pub count : length new ≡ length old
  pub added : (k : ℕ) → k < place → sum_at new (start + k) ≡ with_product (sum_at old (start + k)) a (get_or t k zero_g)
  pub before : (k : ℕ) → k < start → sum_at new k ≡ sum_at old k
  pub after : (k : ℕ) → sum_at new (start + place + k) ≡ sum_at old (start + place + k)

pub table_to_first : (a : Gaussian) (t : List Gaussian) (start : ℕ) (old : List SumValue) → HaveTableTo a t start 0 old old
table_to_first a t start old = record { count = refl; added = λ k lt. absurd (none k lt); before = λ k lt. refl; after = λ k. refl }
  where
    none : (k : ℕ) → k < 0 → ⊥
    none k h = omega arith

module _ (a : Gaussian) (t : List Gaussian) (start place : ℕ) (old now : List SumValue) (s : SumValue) (z : Gaussian) (room : start + length t ≤ length old) (lt : place < length t) (is : s ≡ get_or now (start + place) s) (at : z ≡ get_or t place z) (h : HaveTableTo a t start place old now) where
  here : start + place < length now
  here = subst (λ n. start + place < n) (sym h.count) (less start place (length t) (length old) lt room)
    where
      less : (start place n m : ℕ) → place < n → start + n ≤ m → start + place < m
      less start place n m h k = omega (arith, h, k)

  read : s ≡ sum_at old (start + place)
  read = is ∙ (get_or_default now (start + place) s no_sum here ∙ (ap (sum_at now) (plain start place) ∙ (h.after 0 ∙ ap (sum_at old) (sym (plain start place)))))
    where
      plain : (start place : ℕ) → start + place ≡ start + place + 0
      plain start place = omega arith

  entry : z ≡ get_or t place zero_g
  entry = at ∙ get_or_default t place z zero_g lt

  pub table_to_more : (m : SumValue) → m ≡ with_product s a z → HaveTableTo a t start (place + 1) old (set now (start + place) m)
  table_to_more m e = record {
    count = length-set now (start + place) m ∙ h.count;
    added = λ k less. by k less (cases_lt k place);
    before = λ k less. get_or-set_other now (start + place) k m no_sum (lower k start place less) ∙ h.before k less;
    after = λ k. get_or-set_other now (start + place) (start + (place + 1) + k) m no_sum (higher k start place) ∙ (ap (sum_at now) (moved k start place) ∙ (h.after (suc k) ∙ ap (sum_at old) (sym (moved k start place))));
  }
    where
      lower : (k start place : ℕ) → k < start → k ≢ start + place
      lower k start place h e = omega (arith, h, e)

      higher : (k start place : ℕ) → start + (place + 1) + k ≢ start + place
      higher k start place e = omega (arith, e)

      moved : (k start place : ℕ) → start + (place + 1) + k ≡ start + place + suc k
      moved k start place = omega arith

      other : (k place start : ℕ) → k < place → start + k ≢ start + place
      other k place start h e = omega (arith, h, e)

      last : (k place : ℕ) → k < place + 1 → place ≤ k → place ≡ k
      last k place h g = omega arith

      there : sum_at (set now (start + place) m) (start + place) ≡ with_product (sum_at old (start + place)) a (get_or t place zero_g)
      there = get_or-set_same now (start + place) m no_sum here ∙ (e ∙ ap₂ (λ r y. with_product r a y) read entry)

      by : (k : ℕ) → k < place + 1 → (k < place) ⊎ (place ≤ k) → sum_at (set now (start + place) m) (start + k) ≡ with_product (sum_at old (start + k)) a (get_or t k zero_g)
      by k less (inl l) = get_or-set_other now (start + place) (start + k) m no_sum (other k place start l) ∙ h.added k l
      by k less (inr g) = subst (λ n. sum_at (set now (start + place) m) (start + n) ≡ with_product (sum_at old (start + n)) a (get_or t n zero_g)) (last k place less g) there

  pub table_to_stops : limit < size_with s a z → TablePasses a t start old
  table_to_stops above = record { place = place; within = lt; above = subst (λ n. limit < n) (ap₂ (λ r y. size_with r a y) read entry) above }

pub table_to_done : (a : Gaussian) (t : List Gaussian) (start place : ℕ) (old new : List SumValue) → place ≡ length t → HaveTableTo a t start place old new → HaveTable a t start old new
table_to_done a t start place old new e h = record {
  count = h.count;
  added = λ k lt. h.added k (subst (λ n. k < n) (sym e) lt);
  before = h.before;
  after = λ k. subst (λ n. sum_at new (start + n + k) ≡ sum_at old (start + n + k)) e (h.after k);
}

-- ---- a term that is added

module _ (S : Sites) (j : ℕ) (qs : List Stage) (w : Term) where
  begun_is : (r : Stage) (x y : ℕ) (b : Bool) → begin w.factors ≡ j → same_stage (next j w.factors) r ≡ b → begun S j r x y w ≡ cond b (mul_g w.amount (matrix S w.factors j x y)) zero_g
  begun_is r x y b e s = ap₂ (λ c e. cond (c && e) (mul_g w.amount (matrix S w.factors j x y)) zero_g) (same (begin w.factors) j e) s
    where
      same : (m n : ℕ) → m ≡ n → (m == n) ≡ true
      same m n h = grind (arith, nat_tests)

  begun_size_is : (r : Stage) (x y : ℕ) (b : Bool) → begin w.factors ≡ j → same_stage (next j w.factors) r ≡ b → begun_size S j r x y w ≡ cond b (mag w.amount * mag (matrix S w.factors j x y)) 0
  begun_size_is r x y b e s = ap₂ (λ c e. cond (c && e) (mag w.amount * mag (matrix S w.factors j x y)) 0) (same (begin w.factors) j e) s
    where
      same : (m n : ℕ) → m ≡ n → (m == n) ≡ true
      same m n h = grind (arith, nat_tests)

  -- nothing is added
  unchanged : (old new : List SumValue) → new ≡ old → ((n x y : ℕ) → n < length qs → begun S j (stage_at qs n) x y w ≡ zero_g) → ((n x y : ℕ) → n < length qs → begun_size S j (stage_at qs n) x y w ≡ 0) → HaveTerm S j qs w old new
  unchanged old new e value size = record {
    count = ap length e;
    values = λ n x y hn hx hy. ap (λ zs. (sum_at zs (place_in (S.dim j) n x y)).value) e ∙ sym (ap (add_g (sum_at old (place_in (S.dim j) n x y)).value) (value n x y hn) ∙ add_zero (sum_at old (place_in (S.dim j) n x y)).value);
    sizes = λ n x y hn hx hy. ap (λ zs. (sum_at zs (place_in (S.dim j) n x y)).size) e ∙ sym (ap (λ k. (sum_at old (place_in (S.dim j) n x y)).size + k) (size n x y hn) ∙ none (sum_at old (place_in (S.dim j) n x y)).size);
  }
    where
      none : (n : ℕ) → n + 0 ≡ n
      none n = omega arith

  -- a term that begins at another site
  pub term_elsewhere : (old new : List SumValue) → new ≡ old → begin w.factors ≢ j → HaveTerm S j qs w old new
  term_elsewhere old new e ne =
      unchanged old new e (λ n x y hn. ap (λ c. cond (c && same_stage (next j w.factors) (stage_at qs n)) (mul_g w.amount (matrix S w.factors j x y)) zero_g) (apart (begin w.factors) j ne))
      (λ n x y hn. ap (λ c. cond (c && same_stage (next j w.factors) (stage_at qs n)) (mag w.amount * mag (matrix S w.factors j x y)) 0) (apart (begin w.factors) j ne))
    where
      apart : (m n : ℕ) → m ≢ n → (m == n) ≡ false
      apart m n h = grind (arith, nat_tests)

  -- a term whose state is none of the link's
  pub term_nowhere : (old new : List SumValue) (q : Stage) → new ≡ old → begin w.factors ≡ j → q ≡ next j w.factors → is_in same_stage q qs ≡ false → HaveTerm S j qs w old new
  term_nowhere old new q e b eq none =
      unchanged old new e (λ n x y hn. begun_is (stage_at qs n) x y false b (apart n hn)) (λ n x y hn. begun_size_is (stage_at qs n) x y false b (apart n hn))
    where
      apart : (n : ℕ) → n < length qs → same_stage (next j w.factors) (stage_at qs n) ≡ false
      apart n hn = differs (next j w.factors) qs n (subst (λ z. is_in same_stage z qs ≡ false) eq none) hn

  module _ (d n : ℕ) (t : List Gaussian) (old : List SumValue) (same : d ≡ S.dim j) (begins : begin w.factors ≡ j) (made : IsTableOf (S.dim j) (matrix S w.factors j) t) (number : (m : ℕ) → m < length qs → same_stage (next j w.factors) (stage_at qs m) ≡ (m == n)) where
    -- a term whose state has a number
    pub term_added : (new : List SumValue) → HaveTable w.amount t (n * (d * d)) old new → HaveTerm S j qs w old new
    term_added new h = record {
      count = h.count;
      values = λ m x y hm hx hy. ap (λ (s : SumValue). s.value) (at m x y hx hy) ∙ (value (m == n) (sum_at old (place_in (S.dim j) m x y)) (cell (S.dim j) t x y) (matrix S w.factors j x y) (made.entries x y hx hy)
          ∙ ap (add_g (sum_at old (place_in (S.dim j) m x y)).value) (sym (begun_is (stage_at qs m) x y (m == n) begins (number m hm))));
      sizes = λ m x y hm hx hy. ap (λ (s : SumValue). s.size) (at m x y hx hy) ∙ (size (m == n) (sum_at old (place_in (S.dim j) m x y)) (cell (S.dim j) t x y) (matrix S w.factors j x y) (made.entries x y hx hy)
          ∙ ap (λ k. (sum_at old (place_in (S.dim j) m x y)).size + k) (sym (begun_size_is (stage_at qs m) x y (m == n) begins (number m hm))));
    }
      where
        at : (m x y : ℕ) → x < S.dim j → y < S.dim j → sum_at new (place_in (S.dim j) m x y) ≡ cond (m == n) (with_product (sum_at old (place_in (S.dim j) m x y)) w.amount (cell (S.dim j) t x y)) (sum_at old (place_in (S.dim j) m x y))
        at m x y hx hy = table_at (S.dim j) n m x y w.amount t old new made.full hx hy (subst (λ k. HaveTable w.amount t (n * (k * k)) old new) same h)

        value : (b : Bool) (s : SumValue) (z u : Gaussian) → z ≡ u → (cond b (with_product s w.amount z) s).value ≡ add_g s.value (cond b (mul_g w.amount u) zero_g)
        value true s z u e = ap (λ k. add_g s.value (mul_g w.amount k)) e
        value false s z u e = sym (add_zero s.value)

        none : (n : ℕ) → n ≡ n + 0
        none n = omega arith

        size : (b : Bool) (s : SumValue) (z u : Gaussian) → z ≡ u → (cond b (with_product s w.amount z) s).size ≡ s.size + cond b (mag w.amount * mag u) 0
        size true s z u e = ap (λ k. s.size + mag w.amount * mag k) e
        size false s z u e = none s.size

    pub term_passes : n < length qs → TablePasses w.amount t (n * (d * d)) old → TermPasses S j qs w old
    term_passes hn p = record {
      right = n;
      row = k / D;
      column = k % D;
      stands = hn;
      in_rows = rows;
      in_columns = columns;
      above = subst (λ m. limit < m) (ap₂ ◌+◌ (ap (λ m. (sum_at old m).size) place) size) p.above;
    }
      where
        D : ℕ
        D = S.dim j

        k : ℕ
        k = p.place

        small : k < D * D
        small = subst (λ m. k < m) made.full p.within

        rows : k / D < D
        rows = tables.in_rows D k small

        columns : k % D < D
        columns = tables.in_columns D k small

        parts : k ≡ k / D * D + k % D
        parts = sym (div-add-mod' k D)

        place : n * (d * d) + k ≡ place_in D n (k / D) (k % D)
        place = ap₂ (λ a b. n * (a * a) + b) same parts

        entry : get_or t k zero_g ≡ matrix S w.factors j (k / D) (k % D)
        entry = ap (λ m. get_or t m zero_g) parts ∙ made.entries (k / D) (k % D) rows columns

        itself : (m : ℕ) → (m == m) ≡ true
        itself m = grind (arith, nat_tests)

        size : mag w.amount * mag (get_or t k zero_g) ≡ begun_size S j (stage_at qs n) (k / D) (k % D) w
        size = ap (λ z. mag w.amount * mag z) entry ∙ sym (begun_size_is (stage_at qs n) (k / D) (k % D) true begins (number n hn ∙ itself n))

-- ---- the sums after some terms

-- the sums so far, with those of the terms that are left, are the transitions
pub record AreSums (v : sums.SumValue) (j : ℕ) (left : List Term) (ss : List SumValue) : Type 0 where
  pub count : length ss ≡ length (states v j) * (dim_at v j * dim_at v j)
  pub values : (n x y : ℕ) → n < length (states v j) → x < dim_at v j → y < dim_at v j →
      add_g (sum_at ss (place_in (dim_at v j) n x y)).value (sum_over left (begun (sites_in v) j (stage_at (states v j) n) x y)) ≡ transition (sites_in v) (terms_in v) j not_begun (stage_at (states v j) n) x y
  pub sizes : (n x y : ℕ) → n < length (states v j) → x < dim_at v j → y < dim_at v j →
      (sum_at ss (place_in (dim_at v j) n x y)).size + total_over left (begun_size (sites_in v) j (stage_at (states v j) n) x y) ≡ transition_size (sites_in v) (terms_in v) j not_begun (stage_at (states v j) n) x y
  pub passed : BeginPasses (sites_in v) (terms_in v) j → BeginPasses (sites_in v) left j

pub sums_first : (v : sums.SumValue) (j : ℕ) (ss : List SumValue) → AreFirst (dim_at v j) (states v j) ss → AreSums v j (terms_in v) ss
sums_first v j ss h = record {
  count = h.count;
  values = λ n x y hn hx hy. ap (λ (s : SumValue). add_g s.value (sum_over (terms_in v) (begun (sites_in v) j (stage_at (states v j) n) x y))) (h.sums n x y hn hx hy);
  sizes = λ n x y hn hx hy. ap (λ (s : SumValue). s.size + total_over (terms_in v) (begun_size (sites_in v) j (stage_at (states v j) n) x y)) (h.sums n x y hn hx hy);
  passed = λ p. p;
}

pub sums_more : (v : sums.SumValue) (j : ℕ) (w : Term) (left : List Term) (old new : List SumValue) → AreSums v j (w ∷ left) old → HaveTerm (sites_in v) j (states v j) w old new →
    ((begin w.factors ≡ j) × ProductPasses (sites_in v) j (ops_at j w.factors) → ⊥) → AreSums v j left new
sums_more v j w left old new h t none = record {
  count = t.count ∙ h.count;
  values = λ n x y hn hx hy.
      let r = stage_at (states v j) n in
      let k = place_in (dim_at v j) n x y in
      ap (λ z. add_g z (sum_over left (begun (sites_in v) j r x y))) (t.values n x y hn hx hy)
      ∙ (add_assoc (sum_at old k).value (begun (sites_in v) j r x y w) (sum_over left (begun (sites_in v) j r x y)) ∙ h.values n x y hn hx hy);
  sizes = λ n x y hn hx hy.
      let r = stage_at (states v j) n in
      let k = place_in (dim_at v j) n x y in
      ap (λ z. z + total_over left (begun_size (sites_in v) j r x y)) (t.sizes n x y hn hx hy)
      ∙ (assoc (sum_at old k).size (begun_size (sites_in v) j r x y w) (total_over left (begun_size (sites_in v) j r x y)) ∙ h.sizes n x y hn hx hy);
  passed = λ p. go (h.passed p);
}
  where
    assoc : (a b c : ℕ) → a + b + c ≡ a + (b + c)
    assoc a b c = omega arith

    go : BeginPasses (sites_in v) (w ∷ left) j → BeginPasses (sites_in v) left j
    go (inl p) = absurd (none p)
    go (inr p) = p

pub sums_step : (v : sums.SumValue) (j i : ℕ) (w : Term) (ws : List Term) (old new : List SumValue) → ws ≡ terms_in v → i < length ws → w ≡ get_or ws i w → AreSums v j (drop i (terms_in v)) old →
    HaveTerm (sites_in v) j (states v j) w old new → ((begin w.factors ≡ j) × ProductPasses (sites_in v) j (ops_at j w.factors) → ⊥) → AreSums v j (drop (i + 1) (terms_in v)) new
sums_step v j i w ws old new e lt is h t none =
    subst (λ (vs : List Term). AreSums v j (drop (i + 1) vs) new) e
    (subst (λ k. AreSums v j (drop k ws) new) (next i)
    (sums_more v j w (drop (suc i) ws) old new (subst (λ vs. AreSums v j vs old) (drop_at ws i w lt is) (subst (λ (vs : List Term). AreSums v j (drop i vs) old) (sym e) h)) t none))
  where
    next : (i : ℕ) → suc i ≡ i + 1
    next i = omega arith

-- the transitions that come from the sums of all terms
pub sums_done : (v : sums.SumValue) (j i : ℕ) (ws : List Term) (ss : List SumValue) (es : List Gaussian) → ws ≡ terms_in v → length ws ≤ i → AreSums v j (drop i (terms_in v)) ss → es ≡ map (λ (s : SumValue). s.value) ss →
    IsRowFrom v j not_begun (record { first = 0; entries = es })
sums_done v j i ws ss es ew ge h e n x y hn hx hy =
    ap (λ b. cond b zero_g (get_or es ((n - 0) * (D * D) + (x * D + y)) zero_g)) (least n)
    ∙ (ap₂ (λ zs k. get_or zs (k * (D * D) + (x * D + y)) zero_g) e (whole n)
    ∙ (lists.get_or-map (λ (s : SumValue). s.value) ss (place_in D n x y) no_sum ∙ (sym (add_zero (sum_at ss (place_in D n x y)).value) ∙ done.values n x y hn hx hy)))
  where
    D : ℕ
    D = dim_at v j

    done : AreSums v j [] ss
    done = subst (λ vs. AreSums v j vs ss) (lists.drop_of_length-le (terms_in v) (subst (λ (vs : List Term). length vs ≤ i) ew ge)) h

    least : (n : ℕ) → nat_lt n 0 ≡ false
    least n = grind (arith, nat_tests)

    whole : (n : ℕ) → n - 0 ≡ n
    whole n = omega arith

-- where the sums of all terms are kept, the build does not pass
pub sums_clear : (v : sums.SumValue) (j i : ℕ) (ws : List Term) (ss : List SumValue) → ws ≡ terms_in v → length ws ≤ i → AreSums v j (drop i (terms_in v)) ss → All (λ (s : SumValue). s.size ≤ limit) ss → PassesFrom v j not_begun → ⊥
sums_clear v j i ws ss ew ge h fits = none
  where
    D : ℕ
    D = dim_at v j

    done : AreSums v j [] ss
    done = subst (λ vs. AreSums v j vs ss) (lists.drop_of_length-le (terms_in v) (subst (λ (vs : List Term). length vs ≤ i) ew ge)) h

    plain : (n : ℕ) → n + 0 ≡ n
    plain n = omega arith

    clash : (n : ℕ) → n ≤ limit → limit < n → ⊥
    clash n h k = omega (arith, h, k)

    none : PassesFrom v j not_begun → ⊥
    none (inl p) = done.passed p
    none (inr p) =
        let c = in_to p.right (states v j) (is_in_from p.right (states v j) p.stands) in
        let r : stage_at (states v j) c.0 ≡ p.right = sym (stage_get (states v j) c.0 _ c.1) ∙ c.2 in
        let k = place_in D c.0 p.large.row p.large.column in
        let size : (sum_at ss k).size ≡ transition_size (sites_in v) (terms_in v) j not_begun p.right p.large.row p.large.column =
        sym (plain (sum_at ss k).size) ∙ (done.sizes c.0 p.large.row p.large.column c.1 p.large.in_rows p.large.in_columns ∙ ap (λ q. transition_size (sites_in v) (terms_in v) j not_begun q p.large.row p.large.column) r) in
        clash (sum_at ss k).size (fits k no_sum (subst (λ m. k < m) (sym done.count) (place_fits D (length (states v j)) c.0 p.large.row p.large.column c.1 p.large.in_rows p.large.in_columns)))
        (subst (λ m. limit < m) (sym size) p.large.above)

begin_passes : (S : Sites) (j i : ℕ) (ws : List Term) → BeginPasses S (drop i ws) j → BeginPasses S ws j
begin_passes S j zero ws h = h
begin_passes S j (suc i) [] h = h
begin_passes S j (suc i) (w ∷ ws) h = inr (begin_passes S j i ws h)

-- where a term passes, the build does
pub sums_stop : (v : sums.SumValue) (j i : ℕ) (w : Term) (ws : List Term) (ss : List SumValue) → ws ≡ terms_in v → i < length ws → w ≡ get_or ws i w → AreSums v j (drop i (terms_in v)) ss →
    ((begin w.factors ≡ j) × ProductPasses (sites_in v) j (ops_at j w.factors)) ⊎ TermPasses (sites_in v) j (states v j) w ss → PassesFrom v j not_begun
sums_stop v j i w ws ss e lt is h (inl p) =
    inl (begin_passes (sites_in v) j i (terms_in v) (subst (λ vs. BeginPasses (sites_in v) vs j) (ap (drop i) e) (subst (λ vs. BeginPasses (sites_in v) vs j) (sym (drop_at ws i w lt is)) (inl p))))
sums_stop v j i w ws ss e lt is h (inr p) =
    inr (record {
      right = stage_at (states v j) p.right;
      stands = stage_at-in (states v j) p.right p.stands;
      large = record {
        row = p.row;
        column = p.column;
        in_rows = p.in_rows;
        in_columns = p.in_columns;
        above = further (sum_at ss (place_in (dim_at v j) p.right p.row p.column)).size (begun_size (sites_in v) j (stage_at (states v j) p.right) p.row p.column w) (total_over (drop (suc i) ws) size) (now.sizes p.right p.row p.column p.stands p.in_rows p.in_columns) p.above;
      };
    })
  where
    size : Term → ℕ
    size = begun_size (sites_in v) j (stage_at (states v j) p.right) p.row p.column

    now : AreSums v j (w ∷ drop (suc i) ws) ss
    now = subst (λ vs. AreSums v j vs ss) (sym (ap (drop i) e) ∙ drop_at ws i w lt is) h

    further : (a b c : ℕ) {m : ℕ} → a + (b + c) ≡ m → limit < a + b → limit < m
    further a b c h k = omega (arith, h, k)

-- ---- how often the terms make it multiply

pub steps_step : (S : Sites) (j i : ℕ) (w : Term) (ws vs : List Term) (start old new : ℕ) → ws ≡ vs → i < length ws → w ≡ get_or ws i w → old + total_over (drop i vs) (begun_steps S j) ≤ start + total_over vs (begun_steps S j) →
    new ≤ old + begun_steps S j w → new + total_over (drop (i + 1) vs) (begun_steps S j) ≤ start + total_over vs (begun_steps S j)
steps_step S j i w ws vs start old new e lt is h more =
    subst (λ (us : List Term). new + total_over (drop (i + 1) us) (begun_steps S j) ≤ start + total_over vs (begun_steps S j)) e
    (subst (λ k. new + total_over (drop k ws) (begun_steps S j) ≤ start + total_over vs (begun_steps S j)) (next i)
    (sum (begun_steps S j w) (total_over (drop (suc i) ws) (begun_steps S j)) (start + total_over vs (begun_steps S j))
    (subst (λ us. old + total_over us (begun_steps S j) ≤ start + total_over vs (begun_steps S j)) (sym (ap (drop i) e) ∙ drop_at ws i w lt is) h) more))
  where
    next : (i : ℕ) → suc i ≡ i + 1
    next i = omega arith

    sum : (b c m : ℕ) → old + (b + c) ≤ m → new ≤ old + b → new + c ≤ m
    sum b c m k n = omega (arith, k, n)

-- ---- the sums before any term

pub first_one : (waits : Bool) (x y : ℕ) → waits ≡ true → x ≡ y → record { value = one_g; size = 1 } ≡ first_value waits x y
unfolding one_g
first_one waits x y w e = sym (ap₂ (λ a b. first_value a x y) w w ∙ ap (λ b. record { value = cond b one_g zero_g; size = mag (cond b one_g zero_g) }) (same x y e))
  where
    same : (m n : ℕ) → m ≡ n → (m == n) ≡ true
    same m n h = grind (arith, nat_tests)

pub first_none : (waits : Bool) (x y : ℕ) → (waits ≡ true → x ≢ y) → record { value = zero_g; size = 0 } ≡ first_value waits x y
unfolding zero_g
first_none true x y h = sym (ap (λ b. record { value = cond b one_g zero_g; size = mag (cond b one_g zero_g) }) (apart x y (h refl)))
  where
    apart : (m n : ℕ) → m ≢ n → (m == n) ≡ false
    apart m n h = grind (arith, nat_tests)
first_none false x y h = refl

pub first_from : (d w : ℕ) (qs : List Stage) (ss : List SumValue) (place count dim : ℕ) → dim ≡ d → count ≡ length qs → length ss ≡ place → place ≡ count * (dim * dim) →
    ((n : ℕ) → n < length qs → same_stage not_begun (stage_at qs n) ≡ (n == w)) →
    ((k : ℕ) → k < place → sum_at ss k ≡ first_value (k / (dim * dim) == w) ((k % (dim * dim)) / dim) ((k % (dim * dim)) % dim)) → AreFirst d qs ss
first_from d w qs ss place count dim ed ec full end waits h = record {
  count = full ∙ (end ∙ ap₂ (λ m k. m * (k * k)) ec ed);
  sums = λ n x y hn hx hy.
      let k = place_in d n x y in
      let small : k < place = subst (λ m. k < m) (sym (end ∙ ap₂ (λ m e. m * (e * e)) ec ed)) (place_fits d (length qs) n x y hn hx hy) in
      h k small
      ∙ (ap (λ e. first_value (k / (e * e) == w) ((k % (e * e)) / e) ((k % (e * e)) % e)) ed
      ∙ (ap₂ (λ a b. first_value (a == w) (b / d) (b % d)) (div-mul-add n (d * d) (x * d + y) (place_below d x y hx hy)) (mod-mul-add n (d * d) (x * d + y) (place_below d x y hx hy))
      ∙ (ap₂ (λ a b. first_value (n == w) a b) (div-mul-add x d y hy) (mod-mul-add x d y hy) ∙ ap (λ b. first_value b x y) (sym (waits n hn)))));
}

-- ---- sums that are written back

pub written : {A : Type 0} (len : ℕ) (new old : List A) → length new ≡ length old → len ≡ length old → take len (new ++ drop (length new) old) ≡ new
written len new old n e =
    ap (take len) (ap (λ zs. new ++ zs) (lists.drop_of_length-le old (least (length new) (length old) n)) ∙ append-nil new) ∙ take_all len new (most len (length new) (length old) n e)
  where
    least : (a b : ℕ) → a ≡ b → b ≤ a
    least a b h = omega arith

    most : (l a b : ℕ) → a ≡ b → l ≡ b → a ≤ l
    most l a b h k = omega arith

pub steps_end : (S : Sites) (j i : ℕ) (vs : List Term) (start now : ℕ) → now + total_over (drop i vs) (begun_steps S j) ≤ start + total_over vs (begun_steps S j) → now ≤ start + total_over vs (begun_steps S j)
steps_end S j i vs start now h = less (total_over (drop i vs) (begun_steps S j)) (start + total_over vs (begun_steps S j)) h
  where
    less : (a m : ℕ) → now + a ≤ m → now ≤ m
    less a m h = omega (arith, h)

pub steps_mid : (S : Sites) (j i : ℕ) (w : Term) (ws vs : List Term) (start old new : ℕ) → ws ≡ vs → i < length ws → w ≡ get_or ws i w → old + total_over (drop i vs) (begun_steps S j) ≤ start + total_over vs (begun_steps S j) →
    new ≤ old + begun_steps S j w → new ≤ start + total_over vs (begun_steps S j)
steps_mid S j i w ws vs start old new e lt is h more = less (total_over (drop (i + 1) vs) (begun_steps S j)) (start + total_over vs (begun_steps S j)) (steps_step S j i w ws vs start old new e lt is h more)
  where
    less : (a m : ℕ) → new + a ≤ m → new ≤ m
    less a m h = omega (arith, h)

pub stops_here : (S : Sites) (j : ℕ) (qs : List Stage) (w : Term) (old : List SumValue) → begin w.factors ≡ j → ProductPasses S j (ops_at j w.factors) ⊎ TermPasses S j qs w old → ((begin w.factors ≡ j) × ProductPasses S j (ops_at j w.factors)) ⊎ TermPasses S j qs w old
stops_here S j qs w old e (inl p) = inl (e, p)
stops_here S j qs w old e (inr p) = inr p

-- the same number and the same table by other names
pub table_same : (a b : Gaussian) (t u : List Gaussian) (start : ℕ) (old new : List SumValue) → a ≡ b → t ≡ u → HaveTable a t start old new → HaveTable b u start old new
table_same a b t u start old new e f h = subst (λ z. HaveTable z u start old new) e (subst (λ zs. HaveTable a zs start old new) f h)

pub passes_same : (a b : Gaussian) (t u : List Gaussian) (start : ℕ) (old : List SumValue) → a ≡ b → t ≡ u → TablePasses a t start old → TablePasses b u start old
passes_same a b t u start old e f h = subst (λ z. TablePasses z u start old) e (subst (λ zs. TablePasses a zs start old) f h)
