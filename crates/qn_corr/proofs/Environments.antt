-- The parts of the sites before one.
use Rattle.std.proofs.Common.{◌≡◌, ◌≤◌, ◌<◌, ℕ, zero, suc, ◌+◌, ◌-◌, ◌*◌, ℤ, List, [], ◌∷◌, ◌++◌, map, length, take, drop, get_or, refl, sym, ◌∙◌, ap, subst, arith}
use Rattle.qn_charge.specs.declared.factor.Factor.{Factor}
use Rattle.qn_index.specs.Legs.{SectorValue}
use Rattle.qn_net.specs.Groups.{TensorGroup}
use Rattle.qn_net.specs.Groups.Role.{tensor}
use Rattle.qn_net.specs.Steps.{Step}
use Rattle.qn_net.specs.Members.{role_of}
use Rattle.qn_net.specs.NetworkValues.{NetworkValue, sectors, begin, steps}
use Rattle.qn_plan.specs.Planned.{StepValue, planned_step}
use Rattle.qn_engine.specs.Parts.{PartValue, IsPartOf, ArePartsOf}
use Rattle.qn_engine.specs.Carrying.{IsOnWay}
use Rattle.qn_engine.proofs.PartLists.{parts-append}
use Rattle.qn_sweep.specs.LeftToRight.{steps_before, HoldsSites}
use Rattle.qn_corr.specs.Sweeping.{IsSweepAt, IsEnvironment, AreEnvironments}

-- the numbers of steps before sites
pub before_less : (i n : ℕ) → i ≤ n → steps_before i ≤ steps_before n
before_less zero n h = omega arith
before_less (suc i) zero h = absurd (omega (arith, h))
before_less (suc i) (suc n) h = omega (arith, h)

pub before_within : (i n : ℕ) → i < n → steps_before i + 1 ≤ 3 * n
before_within zero n h = omega (arith, h)
before_within (suc i) n h = omega (arith, h)

module _ (fs : List Factor) (sec : ℤ → List SectorValue) where
  -- the part of a group between others
  pub record PartAt (ps : List PartValue) (k : ℕ) (d : PartValue) (g : TensorGroup) : Type 0 where
    pub within : k < length ps
    pub is : IsPartOf fs sec (get_or ps k d) g

  pub part_at : (ps : List PartValue) (xs : List TensorGroup) (g : TensorGroup) (ys : List TensorGroup) (k : ℕ) (d : PartValue) → k ≡ length xs → ArePartsOf fs sec ps (xs ++ (g ∷ ys)) → PartAt ps k d g
  part_at [] [] g ys k d e h = absurd h
  part_at [] (x ∷ xs) g ys k d e h = absurd h
  part_at (p ∷ ps) [] g ys k d e h = record { within = omega (arith, e); is = subst (λ i. IsPartOf fs sec (get_or (p ∷ ps) i d) g) (sym e) h.0 }
  part_at (p ∷ ps) (x ∷ xs) g ys zero d e h = absurd (omega (arith, e))
  part_at (p ∷ ps) (x ∷ xs) g ys (suc k) d e h =
      let r = part_at ps xs g ys k d (omega (arith, e)) h.1 in
      record { within = let w = r.within in omega (arith, w); is = r.is }

  parts_take : (k : ℕ) (ps : List PartValue) (gs : List TensorGroup) → ArePartsOf fs sec ps gs → ArePartsOf fs sec (take k ps) (take k gs)
  parts_take zero [] [] h = tt
  parts_take zero [] (g ∷ gs) h = absurd h
  parts_take zero (p ∷ ps) [] h = absurd h
  parts_take zero (p ∷ ps) (g ∷ gs) h = tt
  parts_take (suc k) [] [] h = tt
  parts_take (suc k) [] (g ∷ gs) h = absurd h
  parts_take (suc k) (p ∷ ps) [] h = absurd h
  parts_take (suc k) (p ∷ ps) (g ∷ gs) h = (h.0, parts_take k ps gs h.1)

  parts_drop : (k : ℕ) (ps : List PartValue) (gs : List TensorGroup) → ArePartsOf fs sec ps gs → ArePartsOf fs sec (drop k ps) (drop k gs)
  parts_drop zero [] [] h = tt
  parts_drop zero [] (g ∷ gs) h = absurd h
  parts_drop zero (p ∷ ps) [] h = absurd h
  parts_drop zero (p ∷ ps) (g ∷ gs) h = h
  parts_drop (suc k) [] [] h = tt
  parts_drop (suc k) [] (g ∷ gs) h = absurd h
  parts_drop (suc k) (p ∷ ps) [] h = absurd h
  parts_drop (suc k) (p ∷ ps) (g ∷ gs) h = parts_drop k ps gs h.1

  -- the members of later sites, with the tensor of the sites before
  pub parts_resumed : (a b c : ℕ) (ps : List PartValue) (gs : List TensorGroup) (p : PartValue) (g : TensorGroup) → ArePartsOf fs sec ps gs → IsPartOf fs sec p g →
      ArePartsOf fs sec (take a ps ++ (p ∷ (take a (drop b ps) ++ drop c ps))) (take a gs ++ (g ∷ (take a (drop b gs) ++ drop c gs)))
  parts_resumed a b c ps gs p g h k =
      parts-append fs sec (take a ps) (p ∷ (take a (drop b ps) ++ drop c ps)) (take a gs) (g ∷ (take a (drop b gs) ++ drop c gs)) (parts_take a ps gs h)
      (k, parts-append fs sec (take a (drop b ps)) (drop c ps) (take a (drop b gs)) (drop c gs) (parts_take a (drop b ps) (drop b gs) (parts_drop b ps gs h)) (parts_drop c ps gs h))

-- the same group holds the sites, however it was found
same_middle : (xs ys us : List TensorGroup) (g h : TensorGroup) → xs ++ (g ∷ ys) ≡ xs ++ (h ∷ us) → g ≡ h
same_middle [] ys us g h e = head e
  where
    head : g ∷ ys ≡ h ∷ us → g ≡ h
    head p = cc
same_middle (x ∷ xs) ys us g h e = same_middle xs ys us g h (tail e)
  where
    tail : x ∷ (xs ++ (g ∷ ys)) ≡ x ∷ (xs ++ (h ∷ us)) → xs ++ (g ∷ ys) ≡ xs ++ (h ∷ us)
    tail p = cc

pub same_holder : (n j : ℕ) (start groups : List TensorGroup) (g h : TensorGroup) → HoldsSites n j start groups g → HoldsSites n j start groups h → g ≡ h
same_holder n j start groups g h a b = same_middle (take (n - j) start) _ _ g h (sym a.1 ∙ b.1)

-- when the sites before j are taken, their part is in its place
pub record EnvironmentAt (net : NetworkValue) (n j : ℕ) (ps : List PartValue) (d : PartValue) : Type 0 where
  pub within : n - j < length ps
  pub plain : role_of (get_or ps (n - j) d).member ≡ tensor
  pub environment : IsEnvironment net n j (get_or ps (n - j) d)

pub environment_at : (net : NetworkValue) (plan : List StepValue) (n j : ℕ) (ps : List PartValue) (d : PartValue) → 0 < j → j ≤ n → IsSweepAt net plan n j ps → EnvironmentAt net n j ps d
environment_at net plan n j ps d some le w =
    let h = w.sweep.groups j some le in
    let long : length (take (n - j) (begin net).groups) ≡ n - j = whole (n - j) (begin net).groups (let m = w.sweep.many in omega (arith, m)) in
    let r = part_at net.group (sectors net) ps (take (n - j) (begin net).groups) h.0 _ (n - j) d (sym long) (subst (ArePartsOf net.group (sectors net) ps) h.1.1 w.way.carried.parts_of) in
    record { within = r.within; plain = r.is.role ∙ h.1.0; environment = (h.0, h.1, r.is) }
  where
    whole : (k : ℕ) (xs : List TensorGroup) → k ≤ length xs → length (take k xs) ≡ k
    whole zero [] h = refl
    whole zero (x ∷ xs) h = refl
    whole (suc k) [] h = absurd (omega (arith, h))
    whole (suc k) (x ∷ xs) h = ap suc (whole k xs (omega (arith, h)))

-- environments one after another

pub environments-append : (net : NetworkValue) (n j : ℕ) (ps : List PartValue) (p : PartValue) (k : ℕ) → AreEnvironments net n j ps → k ≡ j + length ps → IsEnvironment net n k p → AreEnvironments net n j (ps ++ p ∷ [])
environments-append net n j [] p k h e q = (subst (λ i. IsEnvironment net n i p) (e ∙ omega arith) q, tt)
environments-append net n j (x ∷ ps) p k h e q = (h.0, environments-append net n (suc j) ps p k h.1 (omega (arith, e)) q)

pub environments_at : (net : NetworkValue) (n j : ℕ) (ps : List PartValue) (i : ℕ) (d : PartValue) → AreEnvironments net n j ps → i < length ps → IsEnvironment net n (j + i) (get_or ps i d)
environments_at net n j [] i d h lt = absurd (omega (arith, lt))
environments_at net n j (p ∷ ps) zero d h lt = subst (λ k. IsEnvironment net n k p) (omega arith) h.0
environments_at net n j (p ∷ ps) (suc i) d h lt = subst (λ k. IsEnvironment net n k (get_or ps i d)) (omega arith) (environments_at net n (suc j) ps i d h.1 (omega (arith, lt)))

-- all sites are taken
pub at_end : (net : NetworkValue) (plan : List StepValue) (n j : ℕ) (ps : List PartValue) → IsSweepAt net plan n j ps → (m : ℕ) → m ≡ steps_before j → IsOnWay net plan [] m ps
at_end net plan n j ps w m e = subst (λ i. IsOnWay net plan [] i ps) (sym e) w.way

pub plan_long : (net : NetworkValue) (plan : List StepValue) (n j : ℕ) (ps : List PartValue) → IsSweepAt net plan n j ps → length plan + 1 ≡ 3 * n
plan_long net plan n j ps w = ap (λ (xs : List StepValue). length xs + 1) w.way.is ∙ ap (λ k. k + 1) (many (steps net)) ∙ w.sweep.count
  where
    many : (ts : List Step) → length (map (planned_step net) ts) ≡ length ts
    many [] = refl
    many (t ∷ ts) = ap suc (many ts)

pub sweep_next : (net : NetworkValue) (plan : List StepValue) (n j : ℕ) (ps : List PartValue) → IsSweepAt net plan n j ps → (k m : ℕ) → m ≡ steps_before k → (qs : List PartValue) → IsOnWay net plan [] m qs → IsSweepAt net plan n k qs
sweep_next net plan n j ps w k m e qs v = record { formed = w.formed; sweep = w.sweep; way = subst (λ i. IsOnWay net plan [] i qs) e v }
