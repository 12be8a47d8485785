-- Lists in a strict order, and lists in order whose equal elements are brought together.
use Rattle.std.proofs.Common.{Contains, ◌≡◌, ℕ, zero, suc, ◌<◌, ◌⊎◌, inl, inr, Bool, true, false, ◌||◌, cond, List, [], ◌∷◌, ◌++◌, length, get_or, map, refl, sym, ◌∙◌, ap, ap₂, subst, arith}
use Rattle.std.proofs.lemmas.Bool.{false≢true, or_left, or_right}
use Rattle.std.specs.List.Sorted.{IsPermutation}
use Rattle.std.proofs.lemmas.List.Sorted.{Contains-permutation, IsPermutation-sym}
use Rattle.std.specs.Cmp.{IsStrictWeakOrder}
use Rattle.std.specs.List.{All}
use Rattle.qn_sign.specs.Sign.{is_in, IsTest}
use Rattle.qn_auto.specs.Automaton.{Term, Stage, same_stage, stage, stages}
use Rattle.qn_auto.specs.LinkOrder.{IsStrict, AllLater, IsAscending, is_next, pushed, squeeze}
use Rattle.qn_auto.proofs.Stages.{AllOf, stage_test, in-stages}

-- an element of a list
abbrev pub In : {A : Type 0} → A → List A → Type 0
In x [] = ⊥
In x (y ∷ ys) = (x ≡ y) ⊎ In x ys

pub in_from : {A : Type 0} (x : A) (xs : List A) → Contains xs x → In x xs
in_from x [] c = absurd (none c.0 c.1)
  where
    none : (k : ℕ) → k < 0 → ⊥
    none k h = omega arith
in_from x (y ∷ ys) (zero, lt, e) = inl (sym e)
in_from x (y ∷ ys) (suc k, lt, e) = inr (in_from x ys (k, less k (length ys) lt, e))
  where
    less : (k n : ℕ) → suc k < suc n → k < n
    less k n h = omega arith

pub in_to : {A : Type 0} (x : A) (xs : List A) → In x xs → Contains xs x
in_to x [] h = absurd h
in_to x (y ∷ ys) (inl e) = (0, some (length ys), sym e)
  where
    some : (n : ℕ) → 0 < suc n
    some n = omega arith
in_to x (y ∷ ys) (inr h) =
    let c = in_to x ys h in
    (suc c.0, more c.0 (length ys) c.1, c.2)
  where
    more : (k n : ℕ) → k < n → suc k < suc n
    more k n h = omega arith

pub in_map : {A B : Type 0} (f : A → B) (x : A) (xs : List A) → In x xs → In (f x) (map f xs)
in_map f x [] h = absurd h
in_map f x (y ∷ ys) (inl e) = inl (ap f e)
in_map f x (y ∷ ys) (inr h) = inr (in_map f x ys h)

pub in_map_back : {A B : Type 0} (f : A → B) (z : B) (xs : List A) → In z (map f xs) → (x : A) × In x xs × (z ≡ f x)
in_map_back f z [] h = absurd h
in_map_back f z (y ∷ ys) (inl e) = (y, inl refl, e)
in_map_back f z (y ∷ ys) (inr h) =
    let r = in_map_back f z ys h in
    (r.0, inr r.1, r.2)

-- a property of all elements, by recursion and by place

pub all_from : {A : Type 0} (P : A → Type 0) (xs : List A) → AllOf P xs → All P xs
all_from P [] h k d lt = absurd (none k lt)
  where
    none : (k : ℕ) → k < 0 → ⊥
    none k h = omega arith
all_from P (x ∷ xs) h zero d lt = h.0
all_from P (x ∷ xs) h (suc k) d lt = all_from P xs h.1 k d (less k (length xs) lt)
  where
    less : (k n : ℕ) → suc k < suc n → k < n
    less k n h = omega arith

pub all_to : {A : Type 0} (P : A → Type 0) (xs : List A) → All P xs → AllOf P xs
all_to P [] h = tt
all_to P (x ∷ xs) h = (h 0 x (some (length xs)), all_to P xs (λ k d lt. h (suc k) d (more k (length xs) lt)))
  where
    some : (n : ℕ) → 0 < suc n
    some n = omega arith

    more : (k n : ℕ) → k < n → suc k < suc n
    more k n h = omega arith

-- no element is below y
abbrev pub NoneBelow : {A : Type 0} → (A → A → Bool) → A → List A → Type 0
NoneBelow lower y [] = Unit {0}
NoneBelow lower y (x ∷ xs) = (lower x y ≡ false) × NoneBelow lower y xs

-- no element is below an earlier one
abbrev pub IsRising : {A : Type 0} → (A → A → Bool) → List A → Type 0
IsRising lower [] = Unit {0}
IsRising lower (x ∷ xs) = NoneBelow lower x xs × IsRising lower xs

-- no element of the second list is below one of the first
abbrev AllAbove : {A : Type 0} → (A → A → Bool) → List A → List A → Type 0
AllAbove lower [] xs = Unit {0}
AllAbove lower (y ∷ ys) xs = NoneBelow lower y xs × AllAbove lower ys xs

-- each element is below x
abbrev AllTo : {A : Type 0} → (A → A → Bool) → List A → A → Type 0
AllTo lower [] x = Unit {0}
AllTo lower (y ∷ ys) x = (lower y x ≡ true) × AllTo lower ys x

pub rising_from : {A : Type 0} (lower : A → A → Bool) (xs : List A) →
    ((i j : ℕ) (d : A) → i < j → j < length xs → lower (get_or xs j d) (get_or xs i d) ≡ false) → IsRising lower xs
rising_from lower [] h = tt
rising_from {A = A} lower (x ∷ xs) h = (none xs (λ k d lt. h 0 (suc k) d (first k) (more k (length xs) lt)), rising_from lower xs (λ i j d lt le. h (suc i) (suc j) d (more i j lt) (more j (length xs) le)))
  where
    first : (k : ℕ) → 0 < suc k
    first k = omega arith

    more : (k n : ℕ) → k < n → suc k < suc n
    more k n h = omega arith

    none : (ys : List A) → ((k : ℕ) (d : A) → k < length ys → lower (get_or ys k d) x ≡ false) → NoneBelow lower x ys
    none [] g = tt
    none (y ∷ ys) g = (g 0 y (first (length ys)), none ys (λ k d lt. g (suc k) d (more k (length ys) lt)))

module _ {A : Type 0} (lower : A → A → Bool) (strict : IsStrict lower) where
  pub one_way : (x y : A) → lower x y ≡ true → lower y x ≡ false
  one_way x y e = go (lower y x) refl
    where
      go : (b : Bool) → lower y x ≡ b → b ≡ false
      go false f = refl
      go true f = absurd (false≢true (sym (strict.itself x) ∙ strict.trans x y x e f))

  chain : (x y z : A) → lower x y ≡ false → lower y z ≡ false → lower x z ≡ false
  chain x y z p q = go (lower x z) refl (lower z y) refl
    where
      go : (b : Bool) → lower x z ≡ b → (c : Bool) → lower z y ≡ c → b ≡ false
      go false e c f = refl
      go true e true f = absurd (false≢true (sym p ∙ strict.trans x z y e f))
      go true e false f = absurd (false≢true (sym p ∙ subst (λ w. lower x w ≡ true) (sym (strict.total y z q f)) e))

  pub strict_weak : IsStrictWeakOrder lower
  strict_weak = record { one_way = one_way; chain = chain }

  all_lower : (out : List A) (x : A) → IsAscending lower out → is_next lower out x ≡ true → AllTo lower out x
  all_lower [] x a h = tt
  all_lower (y ∷ []) x a h = (h, tt)
  all_lower (y ∷ z ∷ ys) x a h =
      let ih = all_lower (z ∷ ys) x a.1 h in
      (strict.trans y z x a.0.0 ih.0, ih)

  later_push : (y : A) (ys : List A) (x : A) → AllLater lower y ys → lower y x ≡ true → AllLater lower y (ys ++ (x ∷ []))
  later_push y [] x a h = (h, tt)
  later_push y (z ∷ ys) x a h = (a.0, later_push y ys x a.1 h)

  ascending_push : (out : List A) (x : A) → IsAscending lower out → AllTo lower out x → IsAscending lower (out ++ (x ∷ []))
  ascending_push [] x a h = (tt, tt)
  ascending_push (y ∷ ys) x a h = (later_push y ys x a.0 h.0, ascending_push ys x a.1 h.1)

  above_rest : (out : List A) (x : A) (xs : List A) → AllAbove lower out (x ∷ xs) → AllAbove lower out xs
  above_rest [] x xs h = tt
  above_rest (y ∷ ys) x xs h = (h.0.1, above_rest ys x xs h.1)

  above_push : (out : List A) (x : A) (xs : List A) → AllAbove lower out (x ∷ xs) → NoneBelow lower x xs → AllAbove lower (out ++ (x ∷ [])) xs
  above_push [] x xs h n = (n, tt)
  above_push (y ∷ ys) x xs h n = (h.0.1, above_push ys x xs h.1 n)

  last_same : (out : List A) (x : A) (xs : List A) → is_next lower out x ≡ false → AllAbove lower out (x ∷ xs) → In x out
  last_same [] x xs e h = absurd (false≢true (sym e))
  last_same (y ∷ []) x xs e h = inl (strict.total x y h.0.0 e)
  last_same (y ∷ z ∷ ys) x xs e h = inr (last_same (z ∷ ys) x xs e h.1)

  in_push : (z : A) (out : List A) (x : A) → In z (out ++ (x ∷ [])) → In z out ⊎ (z ≡ x)
  in_push z [] x (inl e) = inr e
  in_push z [] x (inr h) = absurd h
  in_push z (y ∷ ys) x (inl e) = inl (inl e)
  in_push z (y ∷ ys) x (inr h) = go (in_push z ys x h)
    where
      go : In z ys ⊎ (z ≡ x) → In z (y ∷ ys) ⊎ (z ≡ x)
      go (inl i) = inl (inr i)
      go (inr e) = inr e

  in_push_old : (z : A) (out : List A) (x : A) → In z out → In z (out ++ (x ∷ []))
  in_push_old z [] x h = absurd h
  in_push_old z (y ∷ ys) x (inl e) = inl e
  in_push_old z (y ∷ ys) x (inr h) = inr (in_push_old z ys x h)

  in_push_new : (out : List A) (x : A) → In x (out ++ (x ∷ []))
  in_push_new [] x = inl refl
  in_push_new (y ∷ ys) x = inr (in_push_new ys x)

  -- what squeezing gives: an ascending list with the same elements
  pub record IsSqueezed (out xs ys : List A) : Type 0 where
    pub ascends : IsAscending lower ys
    pub from : (z : A) → In z ys → In z out ⊎ In z xs
    pub old : (z : A) → In z out → In z ys
    pub new : (z : A) → In z xs → In z ys

  pub squeezed : (out xs : List A) → IsAscending lower out → AllAbove lower out xs → IsRising lower xs → IsSqueezed out xs (squeeze lower out xs)
  squeezed out [] a h r = record { ascends = a; from = λ z i. inl i; old = λ z i. i; new = λ z i. absurd i }
  squeezed out (x ∷ xs) a h r = go (is_next lower out x) refl (λ vs b c. squeezed vs xs b c r.1)
    where
      into : (ys : List A) → ((z : A) → In z xs → In z ys) → In x ys → (z : A) → In z (x ∷ xs) → In z ys
      into ys f i z (inl e) = subst (λ w. In w ys) (sym e) i
      into ys f i z (inr j) = f z j

      back : (ys : List A) → ((z : A) → In z ys → In z (out ++ (x ∷ [])) ⊎ In z xs) → (z : A) → In z ys → In z out ⊎ In z (x ∷ xs)
      back ys f z i = on (f z i)
        where
          pick : In z out ⊎ (z ≡ x) → In z out ⊎ In z (x ∷ xs)
          pick (inl j) = inl j
          pick (inr e) = inr (inl e)

          on : In z (out ++ (x ∷ [])) ⊎ In z xs → In z out ⊎ In z (x ∷ xs)
          on (inl j) = pick (in_push z out x j)
          on (inr j) = inr (inr j)

      keep : (ys : List A) → ((z : A) → In z ys → In z out ⊎ In z xs) → (z : A) → In z ys → In z out ⊎ In z (x ∷ xs)
      keep ys f z i = on (f z i)
        where
          on : In z out ⊎ In z xs → In z out ⊎ In z (x ∷ xs)
          on (inl j) = inl j
          on (inr j) = inr (inr j)

      go : (b : Bool) → is_next lower out x ≡ b → ((vs : List A) → IsAscending lower vs → AllAbove lower vs xs → IsSqueezed vs xs (squeeze lower vs xs)) →
          IsSqueezed out (x ∷ xs) (squeeze lower (cond b (out ++ (x ∷ [])) out) xs)
      go true e ih =
          let s = ih (out ++ (x ∷ [])) (ascending_push out x a (all_lower out x a e)) (above_push out x xs h r.0) in
          let ys = squeeze lower (out ++ (x ∷ [])) xs in
          record { ascends = s.ascends; from = back ys s.from; old = λ z i. s.old z (in_push_old z out x i); new = into ys s.new (s.old x (in_push_new out x)) }
      go false e ih =
          let s = ih out a (above_rest out x xs h) in
          let ys = squeeze lower out xs in
          record { ascends = s.ascends; from = keep ys s.from; old = s.old; new = into ys s.new (s.old x (last_same out x xs e h)) }

  later_in : (x z : A) (xs : List A) → AllLater lower x xs → In z xs → lower x z ≡ true
  later_in x z [] a h = absurd h
  later_in x z (y ∷ ys) a (inl e) = subst (λ w. lower x w ≡ true) (sym e) a.0
  later_in x z (y ∷ ys) a (inr h) = later_in x z ys a.1 h

  -- two ascending lists with the same elements are the same
  pub same_lists : (xs ys : List A) → IsAscending lower xs → IsAscending lower ys → ((z : A) → In z xs → In z ys) → ((z : A) → In z ys → In z xs) → xs ≡ ys
  same_lists [] [] a b f g = refl
  same_lists [] (y ∷ ys) a b f g = absurd (g y (inl refl))
  same_lists (x ∷ xs) [] a b f g = absurd (f x (inl refl))
  same_lists (x ∷ xs) (y ∷ ys) a b f g =
      ap₂ ◌∷◌ same (same_lists xs ys a.1 b.1 (λ z i. forward z i (f z (inr i))) (λ z i. backward z i (g z (inr i))))
    where
      by : (x ≡ y) ⊎ In x ys → (y ≡ x) ⊎ In y xs → x ≡ y
      by (inl e) d = e
      by (inr c) (inl e) = sym e
      by (inr c) (inr d) = absurd (false≢true (sym (one_way x y (later_in x y xs a.0 d)) ∙ later_in y x ys b.0 c))

      same : x ≡ y
      same = by (f x (inl refl)) (g y (inl refl))

      forward : (z : A) → In z xs → (z ≡ y) ⊎ In z ys → In z ys
      forward z i (inr j) = j
      forward z i (inl e) = absurd (false≢true (sym (strict.itself x) ∙ subst (λ w. lower x w ≡ true) (e ∙ sym same) (later_in x z xs a.0 i)))

      backward : (z : A) → In z ys → (z ≡ x) ⊎ In z xs → In z xs
      backward z i (inr j) = j
      backward z i (inl e) = absurd (false≢true (sym (strict.itself y) ∙ subst (λ w. lower y w ≡ true) (e ∙ same) (later_in y z ys b.0 i)))

-- the states of a link as elements

pub is_in_from : (q : Stage) (xs : List Stage) → is_in same_stage q xs ≡ true → In q xs
is_in_from q [] e = absurd (false≢true e)
is_in_from q (x ∷ xs) e = go (same_stage q x) refl e (is_in_from q xs)
  where
    go : (b : Bool) → same_stage q x ≡ b → (b || is_in same_stage q xs) ≡ true → (is_in same_stage q xs ≡ true → In q xs) → In q (x ∷ xs)
    go true p h ih = inl (stage_test.equal q x p)
    go false p h ih = inr (ih h)

pub is_in_to : (q : Stage) (xs : List Stage) → In q xs → is_in same_stage q xs ≡ true
is_in_to q [] h = absurd h
is_in_to q (x ∷ xs) (inl e) = or_left (same_stage q x) (is_in same_stage q xs) (subst (λ w. same_stage q w ≡ true) e (stage_test.itself q))
is_in_to q (x ∷ xs) (inr h) = or_right (same_stage q x) (is_in same_stage q xs) (is_in_to q xs h)

module _ (earlier : Stage → Stage → Bool) (j : ℕ) where
  abbrev term_stages : List Term → List Stage
  term_stages ws = map (λ w. stage j w.factors) ws

  pub stages_from : (q : Stage) (ws : List Term) → In q (stages earlier ws j) → In q (term_stages ws)
  stages_from q [] h = absurd h
  stages_from q (w ∷ ws) h = go (same_stage q (stage j w.factors)) refl (sym (in-stages earlier q w ws j) ∙ is_in_to q (stages earlier (w ∷ ws) j) h) (stages_from q ws)
    where
      go : (b : Bool) → same_stage q (stage j w.factors) ≡ b → (b || is_in same_stage q (stages earlier ws j)) ≡ true →
          (In q (stages earlier ws j) → In q (term_stages ws)) → In q (term_stages (w ∷ ws))
      go true p e ih = inl (stage_test.equal q (stage j w.factors) p)
      go false p e ih = inr (ih (is_in_from q (stages earlier ws j) e))

  pub stages_to : (q : Stage) (ws : List Term) → In q (term_stages ws) → In q (stages earlier ws j)
  stages_to q [] h = absurd h
  stages_to q (w ∷ ws) h = is_in_from q (stages earlier (w ∷ ws) j) (in-stages earlier q w ws j ∙ go h (stages_to q ws))
    where
      go : (q ≡ stage j w.factors) ⊎ In q (term_stages ws) → (In q (term_stages ws) → In q (stages earlier ws j)) → (same_stage q (stage j w.factors) || is_in same_stage q (stages earlier ws j)) ≡ true
      go (inl e) ih = or_left (same_stage q (stage j w.factors)) (is_in same_stage q (stages earlier ws j)) (subst (λ z. same_stage q z ≡ true) e (stage_test.itself q))
      go (inr i) ih = or_right (same_stage q (stage j w.factors)) (is_in same_stage q (stages earlier ws j)) (is_in_to q (stages earlier ws j) (ih i))

-- ---- a link's states as the program makes them: sorted, equal ones once

map_ascends : {A B : Type 0} (f : A → B) (lower : B → B → Bool) (xs : List A) → IsAscending (λ x y. lower (f x) (f y)) xs → IsAscending lower (map f xs)
map_ascends f lower [] a = tt
map_ascends {A = A} f lower (x ∷ xs) a = (later xs a.0, map_ascends f lower xs a.1)
  where
    later : (ys : List A) → AllLater (λ x y. lower (f x) (f y)) x ys → AllLater lower (f x) (map f ys)
    later [] h = tt
    later (y ∷ ys) h = (h.0, later ys h.1)

-- the states of the terms, sorted and squeezed, are those of the link
pub link_from_sorted : {A : Type 0} (lower : A → A → Bool) (strict : IsStrict lower) (f : Stage → A) (ws : List Term) (j : ℕ) (sorted : List A) →
    IsAscending (λ x y. lower (f x) (f y)) (stages (λ x y. lower (f x) (f y)) ws j) → IsPermutation (map (λ w. f (stage j w.factors)) ws) sorted → IsRising lower sorted →
    squeeze lower [] sorted ≡ map f (stages (λ x y. lower (f x) (f y)) ws j)
link_from_sorted {A = A} lower strict f ws j sorted ascends perm rising =
    same_lists lower strict (squeeze lower [] sorted) (map f there) made.ascends (map_ascends f lower there ascends) into back
  where
    order : Stage → Stage → Bool
    order x y = lower (f x) (f y)

    there : List Stage
    there = stages order ws j

    raw : List A
    raw = map (λ w. f (stage j w.factors)) ws

    made : IsSqueezed lower strict [] sorted (squeeze lower [] sorted)
    made = squeezed lower strict [] sorted tt tt rising

    through : (vs : List Term) → map (λ w. f (stage j w.factors)) vs ≡ map f (map (λ w. stage j w.factors) vs)
    through [] = refl
    through (v ∷ vs) = ap (λ zs. f (stage j v.factors) ∷ zs) (through vs)

    from_raw : (z : A) → In z raw → In z (map f there)
    from_raw z i =
        let r = in_map_back f z (map (λ w. stage j w.factors) ws) (subst (λ zs. In z zs) (through ws) i) in
        subst (λ w. In w (map f there)) (sym r.2) (in_map f r.0 there (stages_to order j r.0 ws r.1))

    to_raw : (z : A) → In z (map f there) → In z raw
    to_raw z i =
        let r = in_map_back f z there i in
        subst (λ zs. In z zs) (sym (through ws)) (subst (λ w. In w (map f (map (λ w. stage j w.factors) ws))) (sym r.2) (in_map f r.0 (map (λ w. stage j w.factors) ws) (stages_from order j r.0 ws r.1)))

    only : (z : A) → In z [] ⊎ In z sorted → In z sorted
    only z (inl h) = absurd h
    only z (inr h) = h

    into : (z : A) → In z (squeeze lower [] sorted) → In z (map f there)
    into z i = from_raw z (in_from z raw (Contains-permutation sorted raw z (IsPermutation-sym raw sorted perm) (in_to z sorted (only z (made.from z i)))))

    back : (z : A) → In z (map f there) → In z (squeeze lower [] sorted)
    back z i = made.new z (in_from z sorted (Contains-permutation raw sorted z perm (in_to z raw (to_raw z i))))
