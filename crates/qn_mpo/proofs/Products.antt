-- Products of the operators on a site, operator by operator.
use Rattle.std.proofs.Common.{◌≡◌, ℕ, suc, ◌+◌, ◌*◌, ◌≤◌, ◌<◌, ◌⊎◌, inl, inr, List, [], ◌∷◌, ◌++◌, length, get_or, take, drop, refl, sym, ◌∙◌, ap, ap₂, subst, arith}
use Rattle.std.specs.Prelude.{Err, IfErr, Ok, OnOk, Result}
use Rattle.std.specs.List.{All}
use Rattle.std.proofs.Math.Nat.{mul-le-mul_right}
use Rattle.std.proofs.lemmas.List.{length-map, take-append-drop, take_all}
use Rattle.qn_gauss.specs.Gaussian.{Gaussian, limit, mag, mul_g}
use Rattle.qn_index.specs.Legs.{total}
use Rattle.qn_value.specs.Networks.{sum_below}
use Rattle.qn_value.specs.Magnitudes.{total_below}
use Rattle.qn_sites.specs.Operators.{element}
use Rattle.qn_opsum.specs.Strings.{Sites, matrix}
use Rattle.qn_opsum.specs.Sums.{no_site, op_at, site_at}
use Rattle.qn_auto.specs.Building.{IsLarge, ProductPasses, TimesPasses, product_size}
use Rattle.qn_auto.specs.Flux.{left_product, on_site, times_op}
use Rattle.qn_auto.specs.SumAutomaton.{sites_in, states}
use Rattle.qn_auto.proofs.LeftProducts.{left_product_law}
use Rattle.qn_mpo.specs.Rows.{IsScene, SceneValue}
use Rattle.qn_mpo.specs.Tables.{IsStop, IsTableOf, cell, entry_size, entry_sum}
use Rattle.qn_mpo.specs.declared.fault.Stop.{Stop}
use Rattle.qn_mpo.specs.declared.fault.Stop.TheVariants.{Passes, Memory}
use Rattle.qn_mpo.proofs.Lists.{take_next}
use Rattle.qn_mpo.specs.States.{with_charge}
use Rattle.qn_mpo.proofs.Links.{drop_at, few_made}
use Rattle.qn_value.proofs.BlockSums.{sum_below-congr}
use Rattle.qn_value.proofs.NumberingLemmas.{total_below-congr}

-- ---- sums that agree in range

pub large_agree : (d : ℕ) (f g : ℕ → ℕ → ℕ) → ((x y : ℕ) → x < d → y < d → f x y ≡ g x y) → IsLarge d f → IsLarge d g
large_agree d f g h l =
    record { row = l.row; column = l.column; in_rows = l.in_rows; in_columns = l.in_columns; above = subst (λ n. limit < n) (h l.row l.column l.in_rows l.in_columns) l.above }

-- a stop for a reason that holds where another does
pub stop_as : {P Q : Type 0} → (P → Q) → (e : Stop) → IsStop P e → IsStop Q e
stop_as f Passes p = f p
stop_as f Memory p = tt

-- ---- one operator more on the right

pub left_append : (S : Sites) (k : ℕ) (p : ℕ → ℕ → Gaussian) (os : List ℕ) (o : ℕ) → left_product S k p (os ++ (o ∷ [])) ≡ times_op S k (left_product S k p os) o
left_append S k p [] o = refl
left_append S k p (q ∷ os) o = left_append S k (times_op S k p q) os o

passes_append : (S : Sites) (k : ℕ) (p : ℕ → ℕ → Gaussian) (os : List ℕ) (o : ℕ) → TimesPasses S k p (os ++ (o ∷ [])) → TimesPasses S k p os ⊎ IsLarge (S.dim k) (product_size S k (left_product S k p os) o)
passes_append S k p [] o (inl h) = inr h
passes_append S k p [] o (inr h) = absurd h
passes_append S k p (q ∷ os) o (inl h) = inl (inl h)
passes_append S k p (q ∷ os) o (inr h) = go (passes_append S k (times_op S k p q) os o h)
  where
    go : TimesPasses S k (times_op S k p q) os ⊎ IsLarge (S.dim k) (product_size S k (left_product S k (times_op S k p q) os) o) →
        TimesPasses S k p (q ∷ os) ⊎ IsLarge (S.dim k) (product_size S k (left_product S k p (q ∷ os)) o)
    go (inl t) = inl (inr t)
    go (inr l) = inr l

large_passes : (S : Sites) (k : ℕ) (p : ℕ → ℕ → Gaussian) (os : List ℕ) (o : ℕ) (later : List ℕ) → IsLarge (S.dim k) (product_size S k (left_product S k p os) o) → TimesPasses S k p (os ++ (o ∷ later))
large_passes S k p [] o later h = inl h
large_passes S k p (q ∷ os) o later h = inr (large_passes S k (times_op S k p q) os o later h)

-- ---- the product of a first operator and some more, as tables

-- the product of the first i of these operators with the first one, as a table; none of them passed
pub record IsProduct (S : Sites) (k : ℕ) (d : ℕ) (first : ℕ) (os : List ℕ) (i : ℕ) (t : List Gaussian) : Type 0 where
  pub table : IsTableOf d (left_product S k (S.table k first) (take i os)) t
  pub clear : TimesPasses S k (S.table k first) (take i os) → ⊥

pub product_first : (S : Sites) (k d first : ℕ) (os : List ℕ) (t : List Gaussian) → IsTableOf d (S.table k first) t → IsProduct S k d first os 0 t
product_first S k d first os t h = record { table = h; clear = λ p. p }

module _ (S : Sites) (k d : ℕ) (same : d ≡ S.dim k) (p : ℕ → ℕ → Gaussian) (o : ℕ) (left right : List Gaussian) (made : IsTableOf d p left) (op : IsTableOf d (S.table k o) right) where
  entry_is : (x y : ℕ) → x < d → y < d → entry_sum d left right x y ≡ times_op S k p o x y
  entry_is x y hx hy =
      sum_below-congr d (λ v. mul_g (cell d left x v) (cell d right v y)) (λ v. mul_g (p x v) (S.table k o v y)) (λ v lt. ap₂ mul_g (made.entries x v hx lt) (op.entries v y lt hy))
      ∙ ap (λ n. sum_below n (λ v. mul_g (p x v) (S.table k o v y))) same

  size_is : (x y : ℕ) → x < d → y < d → entry_size d left right x y ≡ product_size S k p o x y
  size_is x y hx hy =
      total_below-congr d (λ v. mag (cell d left x v) * mag (cell d right v y)) (λ v. mag (p x v) * mag (S.table k o v y)) (λ v lt. ap₂ (λ a b. mag a * mag b) (made.entries x v hx lt) (op.entries v y lt hy))
      ∙ ap (λ n. total_below n (λ v. mag (p x v) * mag (S.table k o v y))) same

  times_table : (t : List Gaussian) → IsTableOf d (entry_sum d left right) t → IsTableOf d (times_op S k p o) t
  times_table t h = record { full = h.full; entries = λ x y hx hy. h.entries x y hx hy ∙ entry_is x y hx hy }

  large_to : IsLarge d (entry_size d left right) → IsLarge (S.dim k) (product_size S k p o)
  large_to l = subst (λ n. IsLarge n (product_size S k p o)) same (large_agree d (entry_size d left right) (product_size S k p o) size_is l)

  large_from : IsLarge (S.dim k) (product_size S k p o) → IsLarge d (entry_size d left right)
  large_from l = large_agree d (product_size S k p o) (entry_size d left right) (λ x y hx hy. sym (size_is x y hx hy)) (subst (λ n. IsLarge n (product_size S k p o)) (sym same) l)

pub product_more : (S : Sites) (k d first : ℕ) (os : List ℕ) (i o : ℕ) (left right t : List Gaussian) → d ≡ S.dim k → i < length os → o ≡ get_or os i o → IsProduct S k d first os i left → IsTableOf d (S.table k o) right →
    IsTableOf d (entry_sum d left right) t → (IsLarge d (entry_size d left right) → ⊥) → IsProduct S k d first os (i + 1) t
product_more S k d first os i o left right t same lt is made op h clear = record {
  table = subst (λ f. IsTableOf d f t) (sym (ap (left_product S k q) next ∙ left_append S k q (take i os) o))
      (times_table S k d same (left_product S k q (take i os)) o left right made.table op t h);
  clear = λ p. go (passes_append S k q (take i os) o (subst (TimesPasses S k q) next p));
}
  where
    q : ℕ → ℕ → Gaussian
    q = S.table k first

    next : take (i + 1) os ≡ take i os ++ (o ∷ [])
    next = take_next os i o lt is

    go : TimesPasses S k q (take i os) ⊎ IsLarge (S.dim k) (product_size S k (left_product S k q (take i os)) o) → ⊥
    go (inl p) = made.clear p
    go (inr l) = clear (large_from S k d same (left_product S k q (take i os)) o left right made.table op l)

pub product_stops : (S : Sites) (k d first : ℕ) (os : List ℕ) (i o : ℕ) (left right : List Gaussian) → d ≡ S.dim k → i < length os → o ≡ get_or os i o → IsProduct S k d first os i left → IsTableOf d (S.table k o) right →
    IsLarge d (entry_size d left right) → ProductPasses S k (first ∷ os)
product_stops S k d first os i o left right same lt is made op l =
    subst (TimesPasses S k (S.table k first)) (ap (λ zs. take i os ++ zs) (sym (drop_at os i o lt is)) ∙ take-append-drop i os)
    (large_passes S k (S.table k first) (take i os) o (drop (suc i) os) (large_to S k d same (left_product S k (S.table k first) (take i os)) o left right made.table op l))

pub product_done : (S : Sites) (k d first : ℕ) (os : List ℕ) (i : ℕ) (t : List Gaussian) → d ≡ S.dim k → length os ≤ i → IsProduct S k d first os i t →
    IsTableOf d (matrix S (on_site k (first ∷ os)) k) t × (ProductPasses S k (first ∷ os) → ⊥)
product_done S k d first os i t same ge made = (
  record {
    full = made.table.full;
    entries = λ x y hx hy.
        made.table.entries x y hx hy ∙ (ap (λ zs. left_product S k (S.table k first) zs x y) all ∙ left_product_law S k first os x y (subst (λ n. y < n) same hy));
  },
  λ p. made.clear (subst (TimesPasses S k (S.table k first)) (sym all) p),
)
  where
    all : take i os ≡ os
    all = take_all i os ge

-- ---- the tables of a scene

pub scene_table : (s : SceneValue) → IsScene s → (d o : ℕ) (ts : List (List Gaussian)) (t : List Gaussian) → d ≡ s.dim → ts ≡ s.tables → o < length s.tables → t ≡ get_or ts o t → IsTableOf d ((sites_in s.sum).table s.site o) t
scene_table s h d o ts t ed et lt is =
    subst (λ n. IsTableOf n ((sites_in s.sum).table s.site o) t) (sym (ed ∙ h.dim))
    (subst (IsTableOf (total (site_at s.sum.sites s.site).leg.sectors) (element (op_at (site_at s.sum.sites s.site).ops o))) (sym (is ∙ ap (λ zs. get_or zs o t) et)) (h.tables.tables o t lt))

-- the dimension of a site is small, and so is the number of the states of a link
pub scene_small : (s : SceneValue) → IsScene s → s.dim ≤ 64
scene_small s h = subst (λ n. n ≤ 64) (sym h.dim) (h.sum.sites.sites s.site no_site h.within).leg.small

pub scene_few : (s : SceneValue) → IsScene s → length s.rights ≤ 2000
scene_few s h = few_made s.sum h.sum s.site s.rights h.rights

pub scene_count : (s : SceneValue) → IsScene s → length s.rights ≡ length (states s.sum s.site)
scene_count s h = ap length h.rights ∙ length-map (states s.sum s.site) (with_charge s.sum)

pub on_ok : {A E : Type 0} {P Q : Type 0} → (P → Q) → (r : Result A E) → OnOk r P → OnOk r Q
on_ok f (Ok x) p = f p
on_ok f (Err e) p = tt

pub if_err : {A : Type 0} {P Q : Type 0} → (P → Q) → (r : Result A Stop) → IfErr r (IsStop P) → IfErr r (IsStop Q)
if_err f (Ok x) p = tt
if_err f (Err e) p = stop_as f e p

pub more_steps : (old new k : ℕ) (os qs : List ℕ) → os ≡ qs → new ≤ old + length os * k → new ≤ old + length qs * k
more_steps old new k os qs e h = subst (λ (zs : List ℕ). new ≤ old + length zs * k) e h

pub within_steps : (start old m n k : ℕ) → old ≤ start + m * k → m ≤ n → old ≤ start + n * k
within_steps start old m n k h l = sum (m * k) (n * k) h (mul-le-mul_right k l)
  where
    sum : (a b : ℕ) → old ≤ start + a → a ≤ b → old ≤ start + b
    sum a b p q = omega (arith, p, q)

pub all_parts : {A : Type 0} (P : A → Type 0) (x : A) (xs : List A) → All P (x ∷ xs) → P x × All P xs
all_parts P x xs h = (h 0 x (some (length xs)), λ k d lt. h (suc k) d (more k (length xs) lt))
  where
    some : (n : ℕ) → 0 < suc n
    some n = omega arith

    more : (k n : ℕ) → k < n → suc k < suc n
    more k n h = omega arith

pub longer_steps : (start new k o : ℕ) (os qs : List ℕ) → qs ≡ o ∷ os → new ≤ start + length os * k → new ≤ start + length qs * k
longer_steps start new k o os qs e h = subst (λ (zs : List ℕ). new ≤ start + length zs * k) (sym e) (sum (length os * k) (suc (length os) * k) (mul-le-mul_right k (more (length os))) h)
  where
    more : (n : ℕ) → n ≤ suc n
    more n = omega arith

    sum : (a b : ℕ) → a ≤ b → new ≤ start + a → new ≤ start + b
    sum a b l h = omega (arith, l, h)

-- what the product of two tables is, where these are known by other names
pub times_made : (d e : ℕ) (left left' right right' t : List Gaussian) → e ≡ d → left' ≡ left → right' ≡ right → IsTableOf e (entry_sum e left' right') t → (IsLarge e (entry_size e left' right') → ⊥) →
    IsTableOf d (entry_sum d left right) t × (IsLarge d (entry_size d left right) → ⊥)
times_made d e left left' right right' t ed el er h none = (
  subst (λ zs. IsTableOf d (entry_sum d left zs) t) er (subst (λ zs. IsTableOf d (entry_sum d zs right') t) el (subst (λ k. IsTableOf k (entry_sum k left' right') t) ed h)),
  subst (λ zs. IsLarge d (entry_size d left zs) → ⊥) er (subst (λ zs. IsLarge d (entry_size d zs right') → ⊥) el (subst (λ k. IsLarge k (entry_size k left' right') → ⊥) ed none)),
)

pub times_stop : (d e : ℕ) (left left' right right' : List Gaussian) (stop : Stop) → e ≡ d → left' ≡ left → right' ≡ right → IsStop (IsLarge e (entry_size e left' right')) stop → IsStop (IsLarge d (entry_size d left right)) stop
times_stop d e left left' right right' stop ed el er h =
    subst (λ zs. IsStop (IsLarge d (entry_size d left zs)) stop) er (subst (λ zs. IsStop (IsLarge d (entry_size d zs right')) stop) el (subst (λ k. IsStop (IsLarge k (entry_size k left' right')) stop) ed h))

pub on_ok_all : {A E : Type 0} {Q : Type 0} → Q → (r : Result A E) → OnOk r Q
on_ok_all q (Ok x) = q
on_ok_all q (Err e) = tt
