-- The states left of a site, and the transitions from all of them.
use Rattle.std.proofs.Common.{◌≡◌, ◌≢◌, ℕ, zero, suc, ◌+◌, ◌*◌, ◌≤◌, ◌<◌, ◌⊎◌, inl, inr, Bool, true, false, ◌==◌, cond, List, [], ◌∷◌, ◌++◌, length, get_or, drop, filter, map, refl, sym, ◌∙◌, ap, ap₂, subst, arith}
use Rattle.std.specs.Cmp.Lexicographic.{pointwise}
use Rattle.std.specs.Ordering.{int_eq}
use Rattle.std.specs.Cmp.Rules.{signed_items}
use Rattle.std.proofs.lemmas.Bool.{cases_lt, false≢true}
use Rattle.std.proofs.lemmas.Bool.Decides.{nat_tests}
use Rattle.std.proofs.lemmas.List.{get_or-map, get_or_default, length-map}
use Rattle.qn_sign.specs.Sign.{is_in}
use Rattle.qn_gauss.specs.Gaussian.{zero_g}
use Rattle.qn_index.specs.Legs.{LegValue, flipped}
use Rattle.qn_index.specs.Places.{IsValues, sectors_at}
use Rattle.qn_index.specs.Tuples.{net}
use Rattle.qn_value.specs.Tensors.{BlockValue, entry_of}
use Rattle.qn_block.specs.Blocked.{BlockedValue, IsBlocked, MeetFlux, is_filled, tensor_of}
use Rattle.qn_block.proofs.Entries.{entry_off_flux}
use Rattle.qn_opsum.specs.Refusals.{IsSum}
use Rattle.qn_opsum.specs.Strings.{AreBelow, Factor}
use Rattle.qn_opsum.specs.Sums.{SumValue, no_site, site_at}
use Rattle.qn_auto.specs.Automaton.{Stage, Term, entry_from, same_stage, stage_at, transition}
use Rattle.qn_auto.specs.Automaton.Stage.{done}
use Rattle.qn_auto.specs.Building.{total_over}
use Rattle.qn_auto.specs.Flux.{StandsLeft}
use Rattle.qn_auto.specs.SumAutomaton.{HasShapeAt, IsTensorAt, entry_at_site, flux_at, is_last, legs_at, link_leg, sites_in, state_lower, states, terms_in}
use Rattle.qn_auto.specs.Terms.{IsFactorOf, IsStageOf, IsTermOf}
use Rattle.qn_auto.proofs.Ordered.{all_to, in_to, is_in_from}
use Rattle.qn_auto.proofs.Stages.{AllOf, all_done, stage_at-in}
use Rattle.qn_auto.proofs.Terms.{terms_hold}
use Rattle.qn_mpo.specs.Rows.{AreRows, IsRowFrom, PassesFrom, PassesHere, RowValue, dim_at, left_stages, no_row, own_legs, right_value, row_cell, steps_at, steps_from}
use Rattle.qn_mpo.specs.States.{StateValue, with_charge}
use Rattle.qn_mpo.proofs.Fluxes.{flux_or_zero}
use Rattle.qn_mpo.proofs.Links.{drop_at, few_states, some_values, states_known, link_total}
use Rattle.qn_mpo.proofs.Numbers.{stage_get}
use Rattle.qn_mpo.proofs.Tables.{list_more, more_long, place_below, small_product, square_small}

-- ---- the states left of a site by their numbers

-- a state left of a site is one of the sum
pub left_known : (v : SumValue) → IsSum v → (j n : ℕ) → n < length (left_stages v j) → IsStageOf v (stage_at (left_stages v j) n)
left_known v h zero zero lt = tt
left_known v h zero (suc n) lt = absurd (none n lt)
  where
    none : (n : ℕ) → suc n < 1 → ⊥
    none n h = omega arith
left_known v h (suc j) n lt = go (states v j) n (states_known v h j) lt
  where
    none : (n : ℕ) → n < 0 → ⊥
    none n h = omega arith

    less : (n m : ℕ) → suc n < suc m → n < m
    less n m h = omega arith

    go : (qs : List Stage) (n : ℕ) → AllOf (IsStageOf v) qs → n < length qs → IsStageOf v (stage_at qs n)
    go [] n a lt = absurd (none n lt)
    go (q ∷ qs) zero a lt = a.0
    go (q ∷ qs) (suc n) a lt = go qs n a.1 (less n (length qs) lt)

-- the state at a place of the list
pub left_stage : (v : SumValue) (j n : ℕ) (ls : List StateValue) (s : StateValue) → ls ≡ map (with_charge v) (left_stages v j) → n < length ls → s ≡ get_or ls n s →
    (n < length (left_stages v j)) × (s.stage ≡ stage_at (left_stages v j) n)
left_stage v j n ls s e lt is = (
  less,
  ap (λ (x : StateValue). x.stage) (is ∙ (ap (λ xs. get_or xs n s) e ∙ get_or-map (with_charge v) (left_stages v j) n done s less)) ∙ stage_get (left_stages v j) n done less,
)
  where
    less : n < length (left_stages v j)
    less = subst (λ k. n < k) (ap length e ∙ length-map (left_stages v j) (with_charge v)) lt

stands : (v : SumValue) (j n : ℕ) → n < length (left_stages v j) → StandsLeft (state_lower v) (terms_in v) j (stage_at (left_stages v j) n)
stands v zero zero lt = refl
stands v zero (suc n) lt = absurd (none n lt)
  where
    none : (n : ℕ) → suc n < 1 → ⊥
    none n h = omega arith
stands v (suc j) n lt = stage_at-in (states v j) n lt

-- where the transitions from one of them pass, the build does at this site
pub passes_here : (v : SumValue) (j n : ℕ) (l : Stage) → n < length (left_stages v j) → l ≡ stage_at (left_stages v j) n → PassesFrom v j l → PassesHere v j
passes_here v j n l lt e p = record { left = l; stands = subst (StandsLeft (state_lower v) (terms_in v) j) (sym e) (stands v j n lt); passes = p }

-- where those from none of them do, the build does not
pub clear_here : (v : SumValue) (j : ℕ) → ((n : ℕ) → n < length (left_stages v j) → PassesFrom v j (stage_at (left_stages v j) n) → ⊥) → PassesHere v j → ⊥
clear_here v j none p = go j none p.left p.stands p.passes
  where
    one : 0 < 1
    one = omega arith

    go : (j : ℕ) → ((n : ℕ) → n < length (left_stages v j) → PassesFrom v j (stage_at (left_stages v j) n) → ⊥) → (l : Stage) → StandsLeft (state_lower v) (terms_in v) j l → PassesFrom v j l → ⊥
    go zero none l s q = none 0 one (subst (PassesFrom v 0) s q)
    go (suc i) none l s q =
        let c = in_to l (states v i) (is_in_from l (states v i) s) in
        none c.0 c.1 (subst (PassesFrom v (suc i)) (sym (sym (stage_get (states v i) c.0 _ c.1) ∙ c.2)) q)

-- ---- rows, one for each of them

pub record AreRowsTo (v : SumValue) (j : ℕ) (i : ℕ) (rs : List RowValue) : Type 0 where
  pub count : length rs ≡ i
  pub rows : (n : ℕ) → n < i → IsRowFrom v j (stage_at (left_stages v j) n) (get_or rs n no_row)
  pub clear : (n : ℕ) → n < i → PassesFrom v j (stage_at (left_stages v j) n) → ⊥

pub rows_done : (v : SumValue) (j i : ℕ) (ls : List StateValue) (rs : List RowValue) → ls ≡ map (with_charge v) (left_stages v j) → i ≡ length ls → AreRowsTo v j i rs → AreRows v j rs × (PassesHere v j → ⊥)
rows_done v j i ls rs e full h = (
  record { count = h.count ∙ all; rows = λ n lt. h.rows n (subst (λ k. n < k) (sym all) lt) },
  clear_here v j (λ n lt. h.clear n (subst (λ k. n < k) (sym all) lt)),
)
  where
    all : i ≡ length (left_stages v j)
    all = full ∙ (ap length e ∙ length-map (left_stages v j) (with_charge v))

pub steps_next : (qs : List Stage) (f : Stage → ℕ) (i : ℕ) (l : Stage) (start old new : ℕ) → i < length qs → l ≡ stage_at qs i → old + total_over (drop i qs) f ≤ start + total_over qs f → new ≤ old + f l →
    new + total_over (drop (i + 1) qs) f ≤ start + total_over qs f
steps_next qs f i l start old new lt e h more =
    subst (λ k. new + total_over (drop k qs) f ≤ start + total_over qs f) (next i)
    (sum (f l) (total_over (drop (suc i) qs) f) (start + total_over qs f) (subst (λ us. old + total_over us f ≤ start + total_over qs f) (drop_at qs i l lt (e ∙ sym (stage_get qs i l lt))) h) more)
  where
    next : (i : ℕ) → suc i ≡ i + 1
    next i = omega arith

    sum : (b c m : ℕ) → old + (b + c) ≤ m → new ≤ old + b → new + c ≤ m
    sum b c m k n = omega (arith, k, n)

-- ---- entries by rows

below_all : (v : SumValue) → IsSum v → (ws : List Term) → AllOf (IsTermOf v) ws → AllOf (λ (w : Term). AreBelow (length v.sites) w.factors) ws
below_all v h [] a = tt
below_all v h (w ∷ ws) a = (go w.factors (all_to (IsFactorOf v) w.factors a.0.known.known), below_all v h ws a.1)
  where
    go : (fs : List Factor) → AllOf (IsFactorOf v) fs → AreBelow (length v.sites) fs
    go [] b = tt
    go (f ∷ fs) b = (b.0.site, go fs b.1)

-- the first state right of the last site is done
last_done : (v : SumValue) → IsSum v → (j : ℕ) → is_last v j ≡ true → (0 < length (states v j)) × (stage_at (states v j) 0 ≡ done)
last_done v h j e = (some, only (stage_at (states v j) 0) (all_done (state_lower v) (length v.sites) j (reach j (length v.sites) e) (above j (length v.sites) e) (terms_in v) (below_all v h (terms_in v) (all_to (IsTermOf v) (terms_in v) (terms_hold v h))) (stage_at (states v j) 0) (stage_at-in (states v j) 0 some)))
  where
    some : 0 < length (states v j)
    some = subst (λ n. 0 < n) (link_total v j) (some_values v h j)

    reach : (j n : ℕ) → (suc j == n) ≡ true → n ≤ suc j
    reach j n e = grind (arith, nat_tests)

    above : (j n : ℕ) → (suc j == n) ≡ true → 0 < n
    above j n e = grind (arith, nat_tests)

    only : (q : Stage) → is_in same_stage q (done ∷ []) ≡ true → q ≡ done
    only q i = go (is_in_from q (done ∷ []) i)
      where
        go : (q ≡ done) ⊎ ⊥ → q ≡ done
        go (inl e) = e
        go (inr n) = absurd n

-- the entry at values of the legs but the left one is that of the row from the state left of the site
pub row_entry : (v : SumValue) → IsSum v → (j : ℕ) (l : Stage) (r : RowValue) (xs : List ℕ) (x y : ℕ) → IsValues (own_legs v j) xs → IsRowFrom v j l r → x ≡ get_or xs 0 x → y ≡ get_or xs 1 y →
    row_cell (dim_at v j * dim_at v j) r (right_value xs) (x * dim_at v j + y) ≡ entry_from (state_lower v) (sites_in v) (terms_in v) j l xs
row_entry v h j l r xs x y vs row ex ey = go (is_last v j) refl xs vs ex ey
  where
    Goal : List ℕ → Type 0
    Goal zs = row_cell (dim_at v j * dim_at v j) r (right_value zs) (x * dim_at v j + y) ≡ entry_from (state_lower v) (sites_in v) (terms_in v) j l zs

    legs_of : Bool → List LegValue
    legs_of b = (site_at v.sites j).leg ∷ flipped (site_at v.sites j).leg ∷ cond b [] (link_leg v j ∷ [])

    none_more : (z : ℕ) (zs : List ℕ) → z ∷ zs ≡ [] → ⊥
    none_more z zs e = never (length zs) (ap length e)
      where
        never : (n : ℕ) → suc n ≡ 0 → ⊥
        never n h = omega arith

    at : (n a b : ℕ) → n < length (states v j) → a < dim_at v j → b < dim_at v j → x ≡ a → y ≡ b → row_cell (dim_at v j * dim_at v j) r n (x * dim_at v j + y) ≡ transition (sites_in v) (terms_in v) j l (stage_at (states v j) n) a b
    at n a b hn ha hb e f = ap₂ (λ p q. row_cell (dim_at v j * dim_at v j) r n (p * dim_at v j + q)) e f ∙ row n a b hn ha hb

    go : (b : Bool) → is_last v j ≡ b → (zs : List ℕ) → IsValues (legs_of b) zs → x ≡ get_or zs 0 x → y ≡ get_or zs 1 y → Goal zs
    go b e [] hs p q = absurd hs
    go b e (c ∷ []) hs p q = absurd hs.1
    go true e (c ∷ d ∷ []) hs p q =
        let last = last_done v h j e in
        at 0 c d last.0 hs.0 hs.1.0 p q ∙ ap (λ s. transition (sites_in v) (terms_in v) j l s c d) last.1
    go true e (c ∷ d ∷ z ∷ zs) hs p q = absurd (none_more z zs hs.1.1)
    go false e (c ∷ d ∷ []) hs p q = absurd hs.1.1
    go false e (c ∷ d ∷ z ∷ zs) hs p q = at z c d (subst (λ k. z < k) (link_total v j) hs.1.1.0) hs.0 hs.1.0 p q

-- the entry at values of all legs, at a site with a left one
pub left_entry : (v : SumValue) (j n : ℕ) (xs : List ℕ) → 0 < j → IsValues (legs_at v j) (n ∷ xs) → (n < length (left_stages v j)) × IsValues (own_legs v j) xs
    × (entry_at_site v j (n ∷ xs) ≡ entry_from (state_lower v) (sites_in v) (terms_in v) j (stage_at (left_stages v j) n) xs)
left_entry v zero n xs lt h = absurd (none lt)
  where
    none : 0 < 0 → ⊥
    none h = omega arith
left_entry v (suc i) n xs lt h = (subst (λ k. n < k) (link_total v i) h.0, h.1, refl)

pub no_left_entry : (v : SumValue) (j : ℕ) (xs : List ℕ) → j ≡ 0 → IsValues (legs_at v j) xs → (0 < length (left_stages v j)) × IsValues (own_legs v j) xs
    × (entry_at_site v j xs ≡ entry_from (state_lower v) (sites_in v) (terms_in v) j (stage_at (left_stages v j) 0) xs)
no_left_entry v zero xs e h = (one, h, refl)
  where
    one : 0 < 1
    one = omega arith
no_left_entry v (suc i) xs e h = absurd (never i e)
  where
    never : (n : ℕ) → suc n ≡ 0 → ⊥
    never n h = omega arith

pub some_left : (v : SumValue) (j : ℕ) (xs : List ℕ) → 0 < j → IsValues (legs_at v j) xs → 0 < length xs
some_left v zero xs lt h = absurd (none lt)
  where
    none : 0 < 0 → ⊥
    none h = omega arith
some_left v (suc i) [] lt h = absurd h
some_left v (suc i) (x ∷ xs) lt h = some (length xs)
  where
    some : (n : ℕ) → 0 < suc n
    some n = omega arith

-- ---- the tensor of a site

filled_twice : (bs : List BlockValue) → filter is_filled (filter is_filled bs) ≡ filter is_filled bs
filled_twice [] = refl
filled_twice (b ∷ bs) = go (is_filled b) refl (filled_twice bs)
  where
    go : (f : Bool) → is_filled b ≡ f → filter is_filled (filter is_filled bs) ≡ filter is_filled bs → filter is_filled (cond f (b ∷ filter is_filled bs) (filter is_filled bs)) ≡ cond f (b ∷ filter is_filled bs) (filter is_filled bs)
    go true e ih = ap (λ f. cond f (b ∷ filter is_filled (filter is_filled bs)) (filter is_filled (filter is_filled bs))) e ∙ ap (λ zs. b ∷ zs) ih
    go false e ih = ih

pub tensor_is : (v : SumValue) → IsSum v → (j : ℕ) → j < length v.sites → (empty made t : BlockedValue) → HasShapeAt v j empty → IsBlocked made → made.group ≡ empty.group → made.legs ≡ empty.legs → made.flux ≡ empty.flux →
    ((xs : List ℕ) → MeetFlux made.group made.legs made.flux xs → entry_of (tensor_of made) xs ≡ entry_at_site v j xs) →
    t ≡ record { group = made.group; legs = made.legs; flux = made.flux; blocks = filter is_filled made.blocks } → ((xs : List ℕ) → entry_of (tensor_of t) xs ≡ entry_of (tensor_of made) xs) → IsTensorAt v j t
tensor_is v is j within empty made t shape blocked eg el ef entries et same = record {
  shape = record { group = ap (λ (z : BlockedValue). z.group) et ∙ group; legs = ap (λ (z : BlockedValue). z.legs) et ∙ legs; flux = ap (λ (z : BlockedValue). z.flux) et ∙ flux };
  entries = λ xs h. same xs ∙ entry xs h (pointwise int_eq (net made.group made.legs (sectors_at made.legs xs)) made.flux) refl;
  canonical = ap (λ (z : BlockedValue). filter is_filled z.blocks) et ∙ (filled_twice made.blocks ∙ sym (ap (λ (z : BlockedValue). z.blocks) et));
}
  where
    group : made.group ≡ v.group
    group = eg ∙ shape.group

    legs : made.legs ≡ legs_at v j
    legs = el ∙ shape.legs

    flux : made.flux ≡ flux_at v j
    flux = ef ∙ shape.flux

    entry : (xs : List ℕ) → IsValues (legs_at v j) xs → (b : Bool) → pointwise int_eq (net made.group made.legs (sectors_at made.legs xs)) made.flux ≡ b → entry_of (tensor_of made) xs ≡ entry_at_site v j xs
    entry xs h true e = entries xs (record { range = subst (λ ls. IsValues ls xs) (sym legs) h; flux = (signed_items (net made.group made.legs (sectors_at made.legs xs)) made.flux).0 e })
    entry xs h false e = by (flux_or_zero v is j within xs h)
      where
        off : net made.group made.legs (sectors_at made.legs xs) ≢ made.flux
        off q = false≢true (sym e ∙ (signed_items (net made.group made.legs (sectors_at made.legs xs)) made.flux).1 q)

        by : (net v.group (legs_at v j) (sectors_at (legs_at v j) xs) ≡ flux_at v j) ⊎ (entry_at_site v j xs ≡ zero_g) → entry_of (tensor_of made) xs ≡ entry_at_site v j xs
        by (inl q) = absurd (off (ap₂ (λ gs ls. net gs ls (sectors_at ls xs)) group legs ∙ (q ∙ sym flux)))
        by (inr z) = entry_off_flux made xs blocked (subst (λ ls. IsValues ls xs) (sym legs) h) off ∙ sym z

-- ---- values of the legs but the left one

pub record AreOwn (v : SumValue) (j : ℕ) (xs : List ℕ) : Type 0 where
  pub long : 2 ≤ length xs
  pub row : get_or xs 0 0 < dim_at v j
  pub column : get_or xs 1 0 < dim_at v j
  pub right : right_value xs ≤ 2000

pub own_values : (v : SumValue) → IsSum v → (j : ℕ) (xs : List ℕ) → IsValues (own_legs v j) xs → AreOwn v j xs
own_values v h j xs vs = go (is_last v j) xs vs
  where
    legs_of : Bool → List LegValue
    legs_of b = (site_at v.sites j).leg ∷ flipped (site_at v.sites j).leg ∷ cond b [] (link_leg v j ∷ [])

    long : (n : ℕ) → 2 ≤ suc (suc n)
    long n = omega arith

    none : 0 ≤ 2000
    none = omega arith

    small : (r n : ℕ) → r < n → n ≤ 2000 → r ≤ 2000
    small r n a b = omega (arith, a, b)

    none_more : (z : ℕ) (zs : List ℕ) → z ∷ zs ≡ [] → ⊥
    none_more z zs e = never (length zs) (ap length e)
      where
        never : (n : ℕ) → suc n ≡ 0 → ⊥
        never n h = omega arith

    go : (b : Bool) (zs : List ℕ) → IsValues (legs_of b) zs → AreOwn v j zs
    go b [] hs = absurd hs
    go b (x ∷ []) hs = absurd hs.1
    go true (x ∷ y ∷ []) hs = record { long = long 0; row = hs.0; column = hs.1.0; right = none }
    go true (x ∷ y ∷ z ∷ zs) hs = absurd (none_more z zs hs.1.1)
    go false (x ∷ y ∷ []) hs = absurd hs.1.1
    go false (x ∷ y ∷ z ∷ zs) hs = record { long = long (suc (length zs)); row = hs.0; column = hs.1.0; right = small z (length (states v j)) (subst (λ k. z < k) (link_total v j) hs.1.1.0) (few_states v h j) }

pub entry_read : (v : SumValue) → IsSum v → (j d : ℕ) (l : Stage) (r : RowValue) (xs : List ℕ) (x y : ℕ) → d ≡ dim_at v j → IsValues (own_legs v j) xs → IsRowFrom v j l r → x ≡ get_or xs 0 x → y ≡ get_or xs 1 y →
    row_cell (d * d) r (right_value xs) (x * d + y) ≡ entry_from (state_lower v) (sites_in v) (terms_in v) j l xs
entry_read v h j d l r xs x y e vs row ex ey = ap (λ k. row_cell (k * k) r (right_value xs) (x * k + y)) e ∙ row_entry v h j l r xs x y vs row ex ey

-- the entry of a row by its place in the list
pub row_at : (v : SumValue) (j n : ℕ) (rs : List RowValue) (r : RowValue) → AreRows v j rs → n < length (left_stages v j) → r ≡ get_or rs n r → IsRowFrom v j (stage_at (left_stages v j) n) r
row_at v j n rs r h lt e = subst (IsRowFrom v j (stage_at (left_stages v j) n)) (get_or_default rs n no_row r (subst (λ k. n < k) (sym h.count) lt) ∙ sym e) (h.rows n lt)

-- ---- one row more

pub rows_first : (v : SumValue) (j : ℕ) (rs : List RowValue) → rs ≡ [] → AreRowsTo v j 0 rs
rows_first v j rs e = record { count = ap length e; rows = λ n lt. absurd (none n lt); clear = λ n lt. absurd (none n lt) }
  where
    none : (k : ℕ) → k < 0 → ⊥
    none k h = omega arith

pub rows_more : (v : SumValue) (j i : ℕ) (l : Stage) (old new : List RowValue) (r : RowValue) → l ≡ stage_at (left_stages v j) i → AreRowsTo v j i old → new ≡ old ++ (r ∷ []) → IsRowFrom v j l r → (PassesFrom v j l → ⊥) → AreRowsTo v j (i + 1) new
rows_more v j i l old new r e h n row none = record {
  count = more_long old new i r h.count n;
  rows = list_more (λ k s. IsRowFrom v j (stage_at (left_stages v j) k) s) no_row old new i r h.count n h.rows (subst (λ q. IsRowFrom v j q r) e row);
  clear = λ k lt. by k (cases_lt k i) lt;
}
  where
    last : (k i : ℕ) → k < i + 1 → i ≤ k → i ≡ k
    last k i h g = omega arith

    by : (k : ℕ) → (k < i) ⊎ (i ≤ k) → k < i + 1 → PassesFrom v j (stage_at (left_stages v j) k) → ⊥
    by k (inl less) lt p = h.clear k less p
    by k (inr ge) lt p = none (subst (PassesFrom v j) (sym e) (subst (λ m. PassesFrom v j (stage_at (left_stages v j) m)) (sym (last k i lt ge)) p))

pub steps_here : (v : SumValue) (j i : ℕ) (l : Stage) (start old new : ℕ) → i < length (left_stages v j) → l ≡ stage_at (left_stages v j) i →
    old + total_over (drop i (left_stages v j)) (steps_from (sites_in v) (terms_in v) j) ≤ start + steps_at v j → new ≤ old + steps_from (sites_in v) (terms_in v) j l → new ≤ start + steps_at v j
steps_here v j i l start old new lt e h more = less (total_over (drop (i + 1) (left_stages v j)) (steps_from (sites_in v) (terms_in v) j)) (start + steps_at v j) (steps_next (left_stages v j) (steps_from (sites_in v) (terms_in v) j) i l start old new lt e h more)
  where
    less : (a m : ℕ) → new + a ≤ m → new ≤ m
    less a m k = omega (arith, k)

pub steps_all : (v : SumValue) (j i start now : ℕ) → now + total_over (drop i (left_stages v j)) (steps_from (sites_in v) (terms_in v) j) ≤ start + steps_at v j → now ≤ start + steps_at v j
steps_all v j i start now h = less (total_over (drop i (left_stages v j)) (steps_from (sites_in v) (terms_in v) j)) (start + steps_at v j) h
  where
    less : (a m : ℕ) → now + a ≤ m → now ≤ m
    less a m k = omega (arith, k)

-- the row and the column are those of a small table
pub record IsSmall (d x y : ℕ) : Type 0 where
  pub start : x * d ≤ 4096
  pub place : x * d + y ≤ 4096
  pub size : d * d ≤ 4096

pub own_small : (v : SumValue) → IsSum v → (j d : ℕ) (xs : List ℕ) (x y : ℕ) → j < length v.sites → d ≡ dim_at v j → IsValues (own_legs v j) xs → x ≡ get_or xs 0 x → y ≡ get_or xs 1 y → IsSmall d x y
own_small v h j d xs x y within e vs ex ey = record {
  start = small_product x d rows few;
  place = weak (x * d + y) (d * d) (place_below d x y rows columns) (square_small d few);
  size = square_small d few;
}
  where
    own : AreOwn v j xs
    own = own_values v h j xs vs

    some : (n : ℕ) → 2 ≤ n → 0 < n
    some n h = omega arith

    two : (n : ℕ) → 2 ≤ n → 1 < n
    two n h = omega arith

    rows : x < d
    rows = subst (λ n. x < n) (sym e) (subst (λ n. n < dim_at v j) (sym (ex ∙ get_or_default xs 0 x 0 (some (length xs) own.long))) own.row)

    columns : y < d
    columns = subst (λ n. y < n) (sym e) (subst (λ n. n < dim_at v j) (sym (ey ∙ get_or_default xs 1 y 0 (two (length xs) own.long))) own.column)

    few : d ≤ 64
    few = subst (λ n. n ≤ 64) (sym e) (h.sites.sites j no_site within).leg.small

    weak : (a b : ℕ) → a < b → b ≤ 4096 → a ≤ 4096
    weak a b p q = omega (arith, p, q)
