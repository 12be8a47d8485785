-- The steps from a site on, over what was kept of chains that differ on this site alone.
use Rattle.std.proofs.Common.{◌≡◌, ◌≤◌, ◌<◌, ◌-◌, ◌+◌, ◌*◌, ℕ, zero, suc, ℤ, None, List, [], ◌∷◌, ◌++◌, map, length, take, drop, get_or, refl, sym, ◌∙◌, ap, subst, arith}
use Rattle.std.specs.List.{sum_by}
use Rattle.std.proofs.lemmas.List.{length-append, length-take-le}
use Rattle.std.proofs.lemmas.List.Sums.{sum_by-cons}
use Rattle.qn_gauss.specs.Gaussian.{Gaussian}
use Rattle.qn_charge.specs.declared.factor.Factor.{Factor}
use Rattle.qn_index.specs.Legs.{SectorValue}
use Rattle.qn_net.specs.Groups.{TensorGroup}
use Rattle.qn_net.specs.Steps.{Step, carry}
use Rattle.qn_net.specs.Passing.{first_admissible_step}
use Rattle.qn_net.specs.NetworkValues.{NetworkValue, IsWellFormed, parities, sectors, begin, steps, passing_place, value}
use Rattle.qn_plan.specs.Planned.{StepValue, planned_step, planned, cost_of_step, cost_of_plan, first_wide}
use Rattle.qn_plan.specs.Reached.{state_after}
use Rattle.qn_braket.specs.Chains.{IsExpectNetwork}
use Rattle.qn_mps.specs.Chains.{ChainValue, IsHeld}
use Rattle.qn_engine.specs.Parts.{PartValue, IsPartOf, ArePartsOf}
use Rattle.qn_engine.specs.Carrying.{AreReady, IsCarried}
use Rattle.qn_engine.proofs.Evaluating.{on_start}
use Rattle.qn_sweep.specs.LeftToRight.{steps_before, IsLeftToRight, LeftToRightLaw, rest_cost}
use Rattle.qn_sweep.specs.Putting.{StaysBefore, StaysBeforeLaw}
use Rattle.qn_corr.specs.Sweeping.{IsSweepAt, IsEnvironment, AreEnvironments, with_environment, IsResumed}
use Rattle.qn_corr.specs.Correlators.{CorrValue, AreMatched, IsNetworkOf, IsKept, IsChanged, IsRest}
use Rattle.qn_corr.proofs.Environments.{parts_resumed, same_holder, environments_at}
use Rattle.qn_corr.proofs.Starting.{ops_long, kets_long, few_sites, some_sites, no_twists}

-- environments one after another
envs_append : (net : NetworkValue) (n j : ℕ) (ps qs : List PartValue) (k : ℕ) → k ≡ j + length ps → AreEnvironments net n j ps → AreEnvironments net n k qs → AreEnvironments net n j (ps ++ qs)
envs_append net n j [] qs k e h q = subst (λ i. AreEnvironments net n i qs) (e ∙ omega arith) q
envs_append net n j (p ∷ ps) qs k e h q = (h.0, envs_append net n (suc j) ps qs k (e ∙ omega arith) h.1 q)

envs_take : (net : NetworkValue) (n j i : ℕ) (ps : List PartValue) → AreEnvironments net n j ps → AreEnvironments net n j (take i ps)
envs_take net n j zero [] h = tt
envs_take net n j zero (p ∷ ps) h = tt
envs_take net n j (suc i) [] h = tt
envs_take net n j (suc i) (p ∷ ps) h = (h.0, envs_take net n (suc j) i ps h.1)

-- what the planned steps from one on cost
planned_costs : (net : NetworkValue) (b : ℕ) (ts : List Step) → sum_by (λ (t : StepValue). t.cost) (drop b (map (planned_step net) ts)) ≡ sum_by (cost_of_step net) (drop b ts)
planned_costs net zero [] = refl
planned_costs net zero (t ∷ ts) =
    sum_by-cons (λ (x : StepValue). x.cost) (planned_step net t) (map (planned_step net) ts)
    ∙ ap (λ n. cost_of_step net t + n) (ap (sum_by (λ (x : StepValue). x.cost)) (none (map (planned_step net) ts)) ∙ planned_costs net zero ts ∙ ap (sum_by (cost_of_step net)) (sym (none_steps ts)))
    ∙ sym (sum_by-cons (cost_of_step net) t ts)
  where
    none : (xs : List StepValue) → xs ≡ drop 0 xs
    none [] = refl
    none (x ∷ xs) = refl

    none_steps : (xs : List Step) → xs ≡ drop 0 xs
    none_steps [] = refl
    none_steps (x ∷ xs) = refl
planned_costs net (suc b) [] = refl
planned_costs net (suc b) (t ∷ ts) = planned_costs net b ts

pub rest_is : (net : NetworkValue) (plan : List StepValue) (n j : ℕ) → j < n → IsLeftToRight net n → plan ≡ planned net → sum_by (λ (t : StepValue). t.cost) (drop (steps_before j) plan) ≡ rest_cost net n j
rest_is net plan n j lt l e =
    ap (λ (xs : List StepValue). sum_by (λ (t : StepValue). t.cost) (drop (steps_before j) xs)) e
    ∙ planned_costs net (steps_before j) (steps net) ∙ ap (sum_by (cost_of_step net)) (sym (l.touched j lt))

pub whole_is : (net : NetworkValue) (plan : List StepValue) → plan ≡ planned net → sum_by (λ (t : StepValue). t.cost) (drop (steps_before 0) plan) ≡ cost_of_plan net
whole_is net plan e =
    ap (λ (xs : List StepValue). sum_by (λ (t : StepValue). t.cost) (drop 0 xs)) e ∙ planned_costs net 0 (steps net) ∙ ap (sum_by (cost_of_step net)) (none (steps net))
  where
    none : (ts : List Step) → drop 0 ts ≡ ts
    none [] = refl
    none (t ∷ ts) = refl

-- before the first step the parts are those of the groups at the start
at_begin : (net : NetworkValue) (ps : List PartValue) → IsCarried net 0 ps → ArePartsOf net.group (sectors net) ps (begin net).groups
at_begin net ps k = go (steps net) k.parts_of
  where
    go : (ts : List Step) → ArePartsOf net.group (sectors net) ps (carry (parities net) (take 0 ts) (begin net)).groups → ArePartsOf net.group (sectors net) ps (begin net).groups
    go [] h = h
    go (t ∷ ts) h = h

parts_count : (fs : List Factor) (sec : ℤ → List SectorValue) (ps : List PartValue) (gs : List TensorGroup) → ArePartsOf fs sec ps gs → length ps ≡ length gs
parts_count fs sec [] [] h = refl
parts_count fs sec [] (g ∷ gs) h = absurd h
parts_count fs sec (p ∷ ps) [] h = absurd h
parts_count fs sec (p ∷ ps) (g ∷ gs) h = ap suc (parts_count fs sec ps gs h.1)

pub start_count : (net : NetworkValue) (n : ℕ) (ps : List PartValue) → IsLeftToRight net n → IsCarried net 0 ps → length ps ≡ 3 * n
start_count net n ps l k = parts_count net.group (sectors net) ps (begin net).groups (at_begin net ps k) ∙ l.many

module _ (before : StaysBeforeLaw) (swept : LeftToRightLaw) (c : CorrValue) (m : AreMatched c.bra c.op c.ket) (hb : IsHeld c.bra) (ho : IsHeld c.op) (hk : IsHeld c.ket) (net : NetworkValue) (x : IsNetworkOf c net) (w : IsWellFormed net) where
  pub sweep_new : IsLeftToRight net (length c.bra.tensors)
  sweep_new = swept c.bra.group c.bra.tensors c.op.tensors c.ket.tensors net w x (some_sites c m hb ho hk) (few_sites c m hb ho hk) (ops_long c m hb ho hk) (kets_long c m hb ho hk)

  module _ (j : ℕ) (lt : j < length c.bra.tensors) (o : CorrValue) (plan : List StepValue) (kept : List PartValue) (v : Gaussian) (k : IsKept o plan kept v) (h : IsChanged j o c) where
    count : length o.bra.tensors ≡ length c.bra.tensors
    count = sym h.bra.count

    network_old : IsExpectNetwork o.bra.group c.bra.tensors o.op.tensors c.ket.tensors net
    network_old = subst (λ (fs : List Factor). IsExpectNetwork fs c.bra.tensors o.op.tensors c.ket.tensors net) h.group (subst (λ (op : ChainValue). IsExpectNetwork c.bra.group c.bra.tensors op.tensors c.ket.tensors net) h.op x)

    stays : StaysBefore (length o.bra.tensors) j k.net net
    stays =
        before o.bra.group o.bra.tensors o.op.tensors o.ket.tensors c.bra.tensors c.ket.tensors j k.net net k.formed w k.network network_old
        (let e = few_sites c m hb ho hk in omega (arith, e, count))
        (ap (λ (op : ChainValue). length op.tensors) (sym h.op) ∙ ops_long c m hb ho hk ∙ sym count)
        (sym h.ket.count ∙ kets_long c m hb ho hk ∙ sym count)
        (omega (arith, lt, count)) h.bra h.ket

    pub plan_again : plan ≡ planned net
    plan_again = k.plan_is ∙ stays.plan

    pub narrow_again : first_wide net ≡ None
    narrow_again = sym stays.width ∙ k.narrow

    pub rest_again : (r : ℕ) → IsRest o j r → sum_by (λ (t : StepValue). t.cost) (drop (steps_before j) plan) ≡ r
    rest_again r q =
        rest_is net plan (length c.bra.tensors) j lt sweep_new plan_again
        ∙ ap (λ n. rest_cost net n j) (sym count) ∙ sym stays.rest ∙ q k.net k.network

    -- the environment that was kept is one of the new network
    environment_again : (i : ℕ) (p : PartValue) → 0 < i → i ≤ j → IsEnvironment k.net (length o.bra.tensors) i p → IsEnvironment net (length c.bra.tensors) i p
    environment_again i p some le e =
        let held = stays.held i some le in
        let g : e.0 ≡ held.0 = same_holder (length o.bra.tensors) i (begin k.net).groups (state_after k.net (take (steps_before i) (steps k.net))).groups e.0 held.0 e.1 held.1 in
        let is : IsPartOf net.group (sectors net) p held.0 =
        subst (λ (h : TensorGroup). IsPartOf net.group (sectors net) p h) g (subst (λ (sec : ℤ → List SectorValue). IsPartOf net.group sec p e.0) stays.lines (subst (λ (fs : List Factor). IsPartOf fs (sectors k.net) p e.0) stays.group e.2)) in
        subst (λ n. IsEnvironment net n i p) count (held.0, held.2, is)

    envs_again : (i : ℕ) (ps : List PartValue) → 0 < i → i + length ps ≤ j + 1 → AreEnvironments k.net (length o.bra.tensors) i ps → AreEnvironments net (length c.bra.tensors) i ps
    envs_again i [] some le e = tt
    envs_again i (p ∷ ps) some le e = (environment_again i p some (omega (arith, le)) e.0, envs_again (suc i) ps (omega arith) (omega (arith, le)) e.1)

    pub kept_again : (newer : List PartValue) (result : Gaussian) → length newer + (j + 1) ≡ length c.bra.tensors → AreEnvironments net (length c.bra.tensors) (j + 1) newer → passing_place net ≡ None → result ≡ value net [] →
        IsKept c plan (take j kept ++ newer) result
    kept_again newer result long envs clear is =
        let most : length (take j kept) ≡ j = length-take-le j kept (let a = k.count in omega (arith, a, count, lt)) in
        record {
          matched = m;
          net = net;
          network = x;
          formed = w;
          plan_is = plan_again;
          narrow = narrow_again;
          clear = clear;
          count = let a = length-append (take j kept) newer in omega (arith, a, most, long);
          environments =
              envs_append net (length c.bra.tensors) 1 (take j kept) newer (j + 1) (omega (arith, most))
              (envs_again 1 (take j kept) (omega arith) (omega (arith, most)) (envs_take k.net (length o.bra.tensors) 1 j kept k.environments)) envs;
          result_is = is;
        }

    module _ (ready : first_wide net ≡ None → AreReady net) (place : passing_place net ≡ first_admissible_step (parities net) net.group (sectors net) 1 (steps net)) where
      sweep_first : (vs : List PartValue) → IsCarried net 0 vs → IsSweepAt net plan (length c.bra.tensors) 0 vs
      sweep_first vs begins = record { formed = w; sweep = sweep_new; way = on_start net plan [] vs plan_again (no_twists c net x) ready narrow_again place begins }

      sweep_later : (ps : List PartValue) (p : PartValue) → 0 < j → IsCarried net 0 ps → p ≡ get_or kept (j - 1) p → IsSweepAt net plan (length c.bra.tensors) j (with_environment (length c.bra.tensors) j ps p)
      sweep_later ps p some begins e =
          let kept_one : IsEnvironment k.net (length o.bra.tensors) j p =
          subst (λ (q : PartValue). IsEnvironment k.net (length o.bra.tensors) j q) (sym e)
          (subst (λ i. IsEnvironment k.net (length o.bra.tensors) i (get_or kept (j - 1) p)) (omega (arith, some)) (environments_at k.net (length o.bra.tensors) 1 kept (j - 1) p k.environments (let a = k.count in omega (arith, a, count, lt, some)))) in
          let here = environment_again j p some (omega arith) kept_one in
          record {
            formed = w;
            sweep = sweep_new;
            way = record {
              is = plan_again;
              twists = no_twists c net x;
              ready = ready narrow_again;
              narrow = narrow_again;
              place = place;
              carried = record {
                parts_of =
                    subst (ArePartsOf net.group (sectors net) (with_environment (length c.bra.tensors) j ps p)) (sym here.1.1)
                    (parts_resumed net.group (sectors net) (length c.bra.tensors - j) (length c.bra.tensors + j) (2 * length c.bra.tensors + j) ps (begin net).groups p here.0 (at_begin net ps begins) here.2);
                clear = stays.passing k.clear;
              };
            };
          }

      -- the parts before the steps of the site, however they were made
      pub sweep_there : (n : ℕ) (vs : List PartValue) → n ≡ length c.bra.tensors → (j ≡ 0 → IsCarried net 0 vs) → (0 < j → IsResumed net kept n j vs) → IsSweepAt net plan n j vs
      sweep_there n vs e first later = go j refl
        where
          go : (i : ℕ) → i ≡ j → IsSweepAt net plan n j vs
          go zero q = subst (λ m. IsSweepAt net plan m j vs) (sym e) (subst (λ i. IsSweepAt net plan (length c.bra.tensors) i vs) q (sweep_first vs (first (sym q))))
          go (suc i) q =
              let some : 0 < j = omega (arith, q) in
              let r : IsResumed net kept n j vs = later some in
              subst (λ m. IsSweepAt net plan m j vs) (sym e)
              (subst (IsSweepAt net plan (length c.bra.tensors) j) (ap (λ m. with_environment m j r.begins r.part) (sym e) ∙ sym r.parts_are) (sweep_later r.begins r.part some r.carried r.was_kept))
