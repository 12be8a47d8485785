-- The steps of a plan from one place to another.
use Rattle.std.proofs.Common.{◌≡◌, ◌≤◌, ◌<◌, ℕ, zero, suc, ◌+◌, ℤ, Some, None, Option, List, [], ◌∷◌, refl, ◌∙◌, ap, subst, map, length, take, drop, get_or, ◌-◌, sym, arith}
use Rattle.std.specs.List.{sum_by}
use Rattle.std.proofs.lemmas.List.{length-map, length-drop, get_or-drop, take_all}
use Rattle.std.proofs.lemmas.List.Sums.{sum_by-append, sum_by-cons}
use Rattle.qn_net.specs.NetworkValues.{NetworkValue, IsWellFormed, parities, sectors, steps, passing_place}
use Rattle.qn_net.specs.Passing.{first_admissible_step}
use Rattle.qn_plan.specs.Planned.{StepValue, planned_step, planned, first_wide}
use Rattle.qn_engine.specs.Parts.{PartValue}
use Rattle.qn_engine.specs.Carrying.{step_at, AreReady, IsCarried, IsNext, IsFinished, IsOnWay}
use Rattle.qn_engine.proofs.Walking.{take_one}

get_map : {A B : Type 0} (f : A → B) (xs : List A) (i : ℕ) (d : A) (e : B) → i < length xs → get_or (map f xs) i e ≡ f (get_or xs i d)
get_map f [] i d e h = absurd (omega arith)
get_map f (x ∷ xs) zero d e h = refl
get_map f (x ∷ xs) (suc i) d e h = get_map f xs i d e (omega arith)

module _ (net : NetworkValue) (items : List StepValue) (eq : items ≡ planned net) where
  many : length items ≡ length (steps net)
  many = ap (λ (ks : List StepValue). length ks) eq ∙ length-map (steps net) (planned_step net)

  -- the planned step at a place
  pub step_read : (i : ℕ) (s : StepValue) → i < length items → s ≡ get_or items i s → s ≡ planned_step net (step_at net i)
  step_read i s lt e = e ∙ ap (λ (ks : List StepValue). get_or ks i s) eq ∙ get_map (planned_step net) (steps net) i _ s (omega (arith, lt, many))

-- no step is too wide, or one is
pub never_wide : (o : Option ℕ) (n : ℕ) → o ≡ None → o ≡ Some n → ⊥
never_wide o n e k = cc (e, k)

-- on the way

pub on_next : (net : NetworkValue) (items : List StepValue) (tw : List ℤ) (i : ℕ) (s : StepValue) (ps : List PartValue) → IsOnWay net items tw i ps → i < length items → s ≡ get_or items i s → IsNext net i ps s tw
on_next net items tw i s ps w lt e = record {
  ready = w.ready;
  narrow = w.narrow;
  place = w.place;
  carried = w.carried;
  within = subst (λ n. i < n) (many net items w.is) lt;
  step_is = step_read net items w.is i s lt e;
  twists = w.twists;
}

pub on_more : (net : NetworkValue) (items : List StepValue) (tw : List ℤ) (i : ℕ) (ps qs : List PartValue) → IsOnWay net items tw i ps → IsCarried net (i + 1) qs → IsOnWay net items tw (i + 1) qs
on_more net items tw i ps qs w c = record { is = w.is; twists = w.twists; ready = w.ready; narrow = w.narrow; place = w.place; carried = c }

-- what some of the steps of a list cost
abbrev pub costs : List StepValue → ℕ → ℕ → ℕ
costs items from n = sum_by (λ t. t.cost) (take n (drop from items))

pub costs_more : (items : List StepValue) (from i before now later : ℕ) (s : StepValue) → from ≤ i → i < length items → s ≡ get_or items i s → now ≤ before + costs items from (i - from) → later ≤ now + s.cost →
    later ≤ before + costs items from (i + 1 - from)
costs_more items from i before now later s le lt e h k =
    let more = next items from i s le lt e in omega (arith, h, k, more)
  where
    one : (t : StepValue) → sum_by (λ (x : StepValue). x.cost) (t ∷ []) ≡ t.cost
    one t = let p = sum_by-cons (λ (x : StepValue). x.cost) t [] in omega (arith, p)

    first : (xs : List StepValue) (d : ℕ) (x : StepValue) → d < length xs → x ≡ get_or xs d x → sum_by (λ (t : StepValue). t.cost) (take (d + 1) xs) ≡ sum_by (λ (t : StepValue). t.cost) (take d xs) + x.cost
    first xs d x l q =
        ap (sum_by (λ (t : StepValue). t.cost)) (take_one xs d x l) ∙ sum_by-append (λ (t : StepValue). t.cost) (take d xs) (get_or xs d x ∷ [])
        ∙ ap (λ n. sum_by (λ (t : StepValue). t.cost) (take d xs) + n) (one (get_or xs d x) ∙ ap (λ (t : StepValue). t.cost) (sym q))

    next : (items : List StepValue) (from i : ℕ) (s : StepValue) → from ≤ i → i < length items → s ≡ get_or items i s → costs items from (i + 1 - from) ≡ costs items from (i - from) + s.cost
    next items from i s le lt e =
        ap (costs items from) (omega (arith, le))
        ∙ first (drop from items) (i - from) s (let l = length-drop from items in omega (arith, l, lt, le)) (e ∙ sym (get_or-drop from items (i - from) s ∙ ap (λ k. get_or items k s) (omega (arith, le))))

-- fewer steps cost no more
pub costs_less : (items : List StepValue) (from m n : ℕ) → m ≤ n → costs items from m ≤ costs items from n
costs_less items from m n h = go (drop from items) m n h
  where
    go : (xs : List StepValue) (m n : ℕ) → m ≤ n → sum_by (λ (t : StepValue). t.cost) (take m xs) ≤ sum_by (λ (t : StepValue). t.cost) (take n xs)
    go [] zero n h = let a = none n in omega (arith, a)
      where
        none : (n : ℕ) → sum_by (λ (t : StepValue). t.cost) (take 0 []) ≤ sum_by (λ (t : StepValue). t.cost) (take n [])
        none zero = omega arith
        none (suc n) = omega arith
    go [] (suc m) zero h = absurd (omega (arith, h))
    go [] (suc m) (suc n) h = omega arith
    go (x ∷ xs) zero n h = omega arith
    go (x ∷ xs) (suc m) zero h = absurd (omega (arith, h))
    go (x ∷ xs) (suc m) (suc n) h =
        let p = sum_by-cons (λ (t : StepValue). t.cost) x (take m xs) in
        let q = sum_by-cons (λ (t : StepValue). t.cost) x (take n xs) in
        let r = go xs m n (omega (arith, h)) in
        omega (arith, p, q, r)

-- a network on its way from the start, and at its end
pub on_start : (net : NetworkValue) (items : List StepValue) (tw : List ℤ) (ps : List PartValue) → items ≡ planned net → tw ≡ net.twists → (first_wide net ≡ None → AreReady net) → first_wide net ≡ None →
    passing_place net ≡ first_admissible_step (parities net) net.group (sectors net) 1 (steps net) → IsCarried net 0 ps → IsOnWay net items tw 0 ps
on_start net items tw ps e t ready narrow place c = record { is = e; twists = t; ready = ready narrow; narrow = narrow; place = place; carried = c }

pub on_end : (net : NetworkValue) (items : List StepValue) (tw : List ℤ) (ps : List PartValue) → IsWellFormed net → IsOnWay net items tw (length items) ps → IsFinished net ps
on_end net items tw ps w k = record { formed = w; carried = subst (λ n. IsCarried net n ps) (many net items k.is) k.carried }

pub clear_end : (net : NetworkValue) (items : List StepValue) (tw : List ℤ) (ps : List PartValue) → IsOnWay net items tw (length items) ps → passing_place net ≡ None
clear_end net items tw ps k =
    k.place ∙ subst (λ ts. first_admissible_step (parities net) net.group (sectors net) 1 ts ≡ None) (take_all (length items) (steps net) (let e = many net items k.is in omega (arith, e))) k.carried.clear

-- in the terms of a program

pub on_done : (net : NetworkValue) (items : List StepValue) (tw : List ℤ) (n : ℕ) (ps : List PartValue) → n ≡ length items → IsWellFormed net → IsOnWay net items tw n ps → IsFinished net ps
on_done net items tw n ps e w k = on_end net items tw ps w (subst (λ i. IsOnWay net items tw i ps) e k)

pub clear_done : (net : NetworkValue) (items : List StepValue) (tw : List ℤ) (n : ℕ) (ps : List PartValue) → n ≡ length items → IsOnWay net items tw n ps → passing_place net ≡ None
clear_done net items tw n ps e k = clear_end net items tw ps (subst (λ i. IsOnWay net items tw i ps) e k)
