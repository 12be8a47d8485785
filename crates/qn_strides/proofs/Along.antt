-- Sums over the couples of a block's legs, by strides.
use Rattle.std.proofs.Common.{◌≡◌, ◌<◌, ℕ, suc, ◌+◌, ◌*◌, ◌%◌, ◌==◌, ℤ, pos, negsuc, Bool, true, false, cond, List, [], ◌∷◌, ◌++◌, refl, sym, ◌∙◌, ap, ap₂, map, length, get_or, eq-eqb, zero-add, arith, int_eq}
use mathlib.Core.Path.{fun_ext}
use Rattle.std.specs.List.{range_with_len}
use Rattle.std.proofs.lemmas.Bool.{or_left, or_right}
use Rattle.qn_sign.specs.Sign.{is_in, Perm}
use Rattle.qn_sign.specs.Sign.Perm.{none, keep, swap, then_by}
use Rattle.qn_sign.specs.Positions.{positions}
use Rattle.qn_gauss.specs.Gaussian.{Gaussian}
use Rattle.qn_index.specs.Legs.{LegValue, SectorValue, sector_at}
use Rattle.qn_index.specs.Places.{block_size, offset_of, inner_of}
use Rattle.qn_value.specs.Networks.{End, Bond, Assignment, assign, values, sums, sum_below}
use Rattle.qn_value.specs.Labels.{is_inward}
use Rattle.qn_value.specs.Blocks.{bonds_in}
use Rattle.qn_value.specs.Local.{label_at, IsCoupling}
use Rattle.qn_value.proofs.Sums.{label_test, IsSteady, Meets, sums-meet}
use Rattle.qn_value.proofs.CoupleLemmas.{open_before}
use Rattle.qn_value.proofs.CoupledLemmas.{leg_at}
use Rattle.qn_strides.specs.Strides.{in_place, out_place, goal_couples, open_places, strides, stride_at, summed_axes, kept_axes, start_of, sum_along}
use Rattle.qn_strides.proofs.Goal.{perm_goal, bonds_at, end_with, end_at, all_ends, AreEnds, IsNumbered, numbered_rest, numbered_ends, numbered, open_label, is_open}

-- a sum over places

abbrev pub weigh : (ℕ → ℕ) → List ℕ → ℕ
weigh f [] = 0
weigh f (i ∷ is) = f i + weigh f is

pub weigh-perm : (f : ℕ → ℕ) {is js : List ℕ} → Perm is js → weigh f is ≡ weigh f js
weigh-perm f none = refl
weigh-perm f (keep {x = x} p) = ap (λ n. f x + n) (weigh-perm f p)
weigh-perm f (swap {x = x} {y = y} {xs = xs}) = turn (f x) (f y) (weigh f xs)
  where
    turn : (a b c : ℕ) → a + (b + c) ≡ b + (a + c)
    turn a b c = omega arith
weigh-perm f (then_by p q) = weigh-perm f p ∙ weigh-perm f q

pub weigh-append : (f : ℕ → ℕ) (is js : List ℕ) → weigh f (is ++ js) ≡ weigh f is + weigh f js
weigh-append f [] js = sym (zero-add (weigh f js))
weigh-append f (i ∷ is) js = ap (λ n. f i + n) (weigh-append f is js) ∙ group (f i) (weigh f is) (weigh f js)
  where
    group : (a b c : ℕ) → a + (b + c) ≡ (a + b) + c
    group a b c = omega arith

pub weigh_members : (f g : ℕ → ℕ) (xs : List ℕ) → ((x : ℕ) → is_in ◌==◌ x xs ≡ true → f x ≡ g x) → weigh f xs ≡ weigh g xs
weigh_members f g [] h = refl
weigh_members f g (x ∷ xs) h =
    ap₂ ◌+◌ (h x (or_left (x == x) (is_in ◌==◌ x xs) (eq-eqb x x refl))) (weigh_members f g xs (λ y k. h y (or_right (y == x) (is_in ◌==◌ y xs) k)))

pub map-map : {A B C : Type 0} (f : A → B) (g : B → C) (xs : List A) → map g (map f xs) ≡ map (λ x. g (f x)) xs
map-map f g [] = refl
map-map f g (x ∷ xs) = ap (λ zs. g (f x) ∷ zs) (map-map f g xs)

-- the offset in a block is a sum over the legs
pub offset_weigh : (ls : List LegValue) (t : List ℕ) (f w : ℕ → ℕ) (a : ℕ) → length t ≡ length ls → ((k : ℕ) → k < length ls → w (a + k) ≡ get_or (strides ls t) k 0) →
    offset_of ls t (map f (range_with_len a (length ls))) ≡ weigh (λ i. f i * w i) (range_with_len a (length ls))
offset_weigh [] t f w a n h = refl
offset_weigh (l ∷ ls) [] f w a n h = absurd (omega arith)
offset_weigh (l ∷ ls) (s ∷ ss) f w a n h =
    ap₂ ◌+◌
    (ap (λ k. f a * k) (sym (ap w here ∙ h 0 (omega arith))))
    (offset_weigh ls ss f w (a + 1) (omega arith) (λ k l. ap w (next k) ∙ h (suc k) (omega arith)))
  where
    here : a ≡ a + 0
    here = omega arith

    next : (k : ℕ) → a + 1 + k ≡ a + suc k
    next k = omega arith

pub offset_places : (ls : List LegValue) (t : List ℕ) (f : ℕ → ℕ) → length t ≡ length ls →
    offset_of ls t (map f (positions (length ls))) ≡ weigh (λ i. f i * stride_at ls t i) (positions (length ls))
offset_places ls t f n = offset_weigh ls t f (stride_at ls t) 0 n (λ k l. ap (stride_at ls t) (zero-add k))

-- ---- the couples

-- what the couples, numbered from n, add to the offset
abbrev pub coupled_sum : ℕ → (ℕ → ℕ) → List (ℕ × ℕ) → Assignment → ℕ
coupled_sum n w [] o = 0
coupled_sum n w (c ∷ cs) o = o (record { label = pos n; inward = true }) * (w c.0 + w c.1) + coupled_sum (suc n) w cs o

pub two_legs : (b : Bool) (v x y : ℕ) (w : ℕ → ℕ) (r : ℕ) → v * w (cond b x y) + (v * w (cond b y x) + r) ≡ v * (w x + w y) + r
two_legs true v x y w r = add (w x) (w y)
  where
    add : (p q : ℕ) → v * p + (v * q + r) ≡ v * (p + q) + r
    add p q = omega arith
two_legs false v x y w r = add (w y) (w x)
  where
    add : (p q : ℕ) → v * p + (v * q + r) ≡ v * (q + p) + r
    add p q = omega arith

module _ (sectors : ℤ → List SectorValue) (k : Assignment) (ls : List LegValue) (t : List ℕ) where
  abbrev pub bonds : ℕ → List (ℕ × ℕ) → List Bond
  bonds n cs = bonds_in sectors k (bonds_at n ls cs)

  pub couple_weigh : (n : ℕ) (cs : List (ℕ × ℕ)) (label : ℕ → ℤ) (w : ℕ → ℕ) (o : Assignment) → IsNumbered n ls cs label → Meets (bonds n cs) o →
      weigh (λ i. o (end_with ls label i) * w i) (goal_couples ls cs) ≡ coupled_sum n w cs o
  couple_weigh n [] label w o h m = refl
  couple_weigh n (c ∷ cs) label w o h m =
      let e : AreEnds n ls c label = numbered_ends n ls c cs label h in
      let v : ℕ = o (record { label = pos n; inward = true }) in
      let one : o (end_with ls label (in_place ls c)) ≡ v = ap o e.first in
      let two : o (end_with ls label (out_place ls c)) ≡ v = ap o e.second ∙ sym m.0 in
      ap₂ ◌+◌ (ap (λ x. x * w (in_place ls c)) one) (ap (λ x. x * w (out_place ls c) + weigh (λ i. o (end_with ls label i) * w i) (goal_couples ls cs)) two)
      ∙ ap (λ x. v * w (in_place ls c) + (v * w (out_place ls c) + x)) (couple_weigh (suc n) cs label w o (numbered_rest n ls c cs label h) m.1)
      ∙ two_legs (is_inward (leg_at ls c.0).arrow) v c.0 c.1 w (coupled_sum (suc n) w cs o)

  -- the bonds have the dimensions of the sectors that the tuple names
  abbrev pub AreDims : ℕ → List (ℕ × ℕ) → Type 0
  AreDims n [] = Unit {0}
  AreDims n (c ∷ cs) =
      ((sector_at (sectors (pos n)) (k (record { label = pos n; inward = true }))).dim ≡ (sector_at (leg_at ls (in_place ls c)).sectors (get_or t (in_place ls c) 0)).dim)
      × AreDims (suc n) cs

  pub int_apart : (x y : ℤ) → (x ≡ y → ⊥) → int_eq x y ≡ false
  int_apart x y h = go (int_eq x y) refl
    where
      go : (b : Bool) → int_eq x y ≡ b → b ≡ false
      go true e = absurd (h (label_test.equal x y e))
      go false e = refl

  pub pos_less : (m n : ℕ) → m < n → pos m ≡ pos n → ⊥
  pos_less m n l e = let f : m ≡ n = cc e in absurd (omega (arith, f, l))

  -- the value of an earlier bond stays
  pub earlier : (m n : ℕ) (cs : List (ℕ × ℕ)) → m < n → IsSteady (λ (o : Assignment). o (record { label = pos m; inward = true })) (bonds n cs)
  earlier m n [] l = tt
  earlier m n (c ∷ cs) l = (
    (λ a v. ap (λ b. cond b v (a (record { label = pos m; inward = true }))) (int_apart (pos m) (pos n) (pos_less m n l))),
    earlier m (suc n) cs (omega arith),
  )

  pub steady-add : (r q : Assignment → ℕ) (u : ℕ) (bs : List Bond) → IsSteady r bs → IsSteady q bs → IsSteady (λ o. r o + q o * u) bs
  steady-add r q u [] h j = tt
  steady-add r q u (b ∷ bs) h j = ((λ a v. ap₂ (λ x y. x + y * u) (h.0 a v) (j.0 a v)), steady-add r q u bs h.1 j.1)

  -- a sum over the values of the couples goes through the block by strides
  sums_along : (n : ℕ) (cs : List (ℕ × ℕ)) (g : ℕ → Gaussian) (r : Assignment → ℕ) → AreDims n cs → IsSteady r (bonds n cs) → (a : Assignment) →
      sums (bonds n cs) (λ o. g (coupled_sum n (stride_at ls t) cs o + r o)) a ≡ sum_along g (summed_axes ls t cs) (r a)
  sums_along n [] g r d s a = ap g (zero-add (r a))
  sums_along n (c ∷ cs) g r d s a =
      ap (λ m. sum_below m (λ v. sums (bonds (suc n) cs) (λ o. g ((o x * u + coupled_sum (suc n) w cs o) + r o)) (assign a (pos n) v))) d.0
      ∙ ap (sum_below (sector_at (leg_at ls (in_place ls c)).sectors (get_or t (in_place ls c) 0)).dim) (fun_ext (λ v.
      ap (λ (f : Assignment → Gaussian). sums (bonds (suc n) cs) f (assign a (pos n) v)) (fun_ext (λ o. ap g (regroup (o x * u) (coupled_sum (suc n) w cs o) (r o))))
      ∙ sums_along (suc n) cs g (λ o. r o + o x * u) d.1 (steady-add r (λ o. o x) u (bonds (suc n) cs) s.1 (earlier n (suc n) cs (omega arith))) (assign a (pos n) v)
      ∙ ap (sum_along g (summed_axes ls t cs)) (ap₂ (λ p q. p + q * u) (s.0 a v) (ap (λ b. cond b v (a x)) (label_test.itself (pos n))))))
    where
      x : End
      x = record { label = pos n; inward = true }

      w : ℕ → ℕ
      w = stride_at ls t

      u : ℕ
      u = stride_at ls t c.0 + stride_at ls t c.1

      regroup : (p q z : ℕ) → (p + q) + z ≡ q + (z + p)
      regroup p q z = omega arith

  -- the open legs' part of the offset does not change with the couples
  pub open_steady : (label : ℕ → ℤ) (w : ℕ → ℕ) (places : List ℕ) → ((i : ℕ) → is_in ◌==◌ i places ≡ true → (m : ℕ) → label i ≡ pos m → ⊥) → (n : ℕ) (cs : List (ℕ × ℕ)) →
      IsSteady (λ (o : Assignment). weigh (λ i. o (end_with ls label i) * w i) places) (bonds n cs)
  open_steady label w places h n [] = tt
  open_steady label w places h n (c ∷ cs) = (
    (λ a v. weigh_members (λ i. assign a (pos n) v (end_with ls label i) * w i) (λ i. a (end_with ls label i) * w i) places
        (λ i l. ap (λ b. cond b v (a (end_with ls label i)) * w i) (int_apart (label i) (pos n) (h i l n)))),
    open_steady label w places h (suc n) cs,
  )

-- the open legs' part of the offset, at the n-th entry of the result's block
pub start_weigh : (ws : List ℕ) (f : ℕ → ℕ) (rs : List LegValue) (ss ps : List ℕ) (n : ℕ) → map f ps ≡ inner_of rs ss n →
    weigh (λ i. f i * get_or ws i 0) ps ≡ start_of (kept_axes ws rs ss ps) n
start_weigh ws f [] ss [] n e = refl
start_weigh ws f [] ss (p ∷ ps) n e = absurd (cc e)
start_weigh ws f (r ∷ rs) [] [] n e = refl
start_weigh ws f (r ∷ rs) [] (p ∷ ps) n e = absurd (cc e)
start_weigh ws f (r ∷ rs) (s ∷ ss) [] n e = absurd (cc e)
start_weigh ws f (r ∷ rs) (s ∷ ss) (p ∷ ps) n e =
    ap₂ ◌+◌ (ap (λ k. k * get_or ws p 0) (first e)) (start_weigh ws f rs ss ps (n % block_size rs ss) (others e))
  where
    first : {x y : ℕ} {xs ys : List ℕ} → x ∷ xs ≡ y ∷ ys → x ≡ y
    first q = cc q

    others : {x y : ℕ} {xs ys : List ℕ} → x ∷ xs ≡ y ∷ ys → xs ≡ ys
    others q = cc q

-- the sum over the values of the couples, at the n-th entry of the result's block
pub block_along : (sectors : ℤ → List SectorValue) (k : Assignment) (ls : List LegValue) (t : List ℕ) (cs : List (ℕ × ℕ)) (g : ℕ → Gaussian) (rs : List LegValue) (ss : List ℕ) (n : ℕ) (a : Assignment) →
    IsCoupling ls cs → length t ≡ length ls → AreDims sectors k ls t 1 cs → map a (map (end_at ls cs) (open_places cs (length ls))) ≡ inner_of rs ss n →
    sums (bonds_in sectors k (bonds_at 1 ls cs)) (λ o. g (offset_of ls t (values (all_ends ls cs) o))) a
    ≡ sum_along g (summed_axes ls t cs) (start_of (kept_axes (strides ls t) rs ss (open_places cs (length ls))) n)
block_along sectors k ls t cs g rs ss n a good long dims at =
    sums-meet (bonds_in sectors k (bonds_at 1 ls cs)) (λ o. g (offset_of ls t (values (all_ends ls cs) o))) (λ o. g (coupled_sum 1 w cs o + rest o)) (λ o m. ap g (split o m)) a
    ∙ sums_along sectors k ls t 1 cs g rest dims steady a
    ∙ ap (sum_along g (summed_axes ls t cs)) (start_weigh (strides ls t) (λ i. a (end_at ls cs i)) rs ss (open_places cs (length ls)) n (sym (map-map (end_at ls cs) a (open_places cs (length ls))) ∙ at))
  where
    w : ℕ → ℕ
    w = stride_at ls t

    rest : Assignment → ℕ
    rest o = weigh (λ i. o (end_at ls cs i) * w i) (open_places cs (length ls))

    split : (o : Assignment) → Meets (bonds_in sectors k (bonds_at 1 ls cs)) o → offset_of ls t (values (all_ends ls cs) o) ≡ coupled_sum 1 w cs o + rest o
    split o m =
        ap (offset_of ls t) (map-map (end_at ls cs) o (positions (length ls)))
        ∙ offset_places ls t (λ i. o (end_at ls cs i)) long
        ∙ weigh-perm (λ i. o (end_at ls cs i) * w i) (perm_goal ls cs good)
        ∙ weigh-append (λ i. o (end_at ls cs i) * w i) (goal_couples ls cs) (open_places cs (length ls))
        ∙ ap (λ x. x + rest o) (couple_weigh sectors k ls t 1 cs (label_at cs) w o (numbered ls cs good) m)

    steady : IsSteady rest (bonds_in sectors k (bonds_at 1 ls cs))
    steady = open_steady sectors k ls t (label_at cs) w (open_places cs (length ls)) (λ i h m e. open_only i h m e) 1 cs
      where
        apart : (m j : ℕ) → negsuc j ≡ pos m → ⊥
        apart m j e = absurd (cc e)

        open_only : (i : ℕ) → is_in ◌==◌ i (open_places cs (length ls)) ≡ true → (m : ℕ) → label_at cs i ≡ pos m → ⊥
        open_only i h m e = apart m (open_before cs i) (sym (open_label cs i (is_open cs (positions (length ls)) i h)) ∙ e)
