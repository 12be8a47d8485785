-- What the steps of a plan cost together.
use Rattle.std.proofs.Common.{◌≡◌, ◌≤◌, ◌<◌, ◌+◌, ◌*◌, ◌^◌, List, [], ◌∷◌, length, arith}
use Rattle.std.specs.List.{All, sum_by}
use Rattle.std.proofs.lemmas.List.Sums.{sum_by-cons}
use Rattle.qn_value.proofs.PlacedLemmas.{all_first, all_others}
use Rattle.qn_plan.specs.Planned.{StepValue}

costs_small : (ts : List StepValue) → All (λ t. t.cost ≤ 2 ^ 44) ts → sum_by (λ t. t.cost) ts ≤ length ts * 2 ^ 44
costs_small [] h = omega arith
costs_small (t ∷ ts) h =
    let first : t.cost ≤ 2 ^ 44 = all_first (λ (k : StepValue). k.cost ≤ 2 ^ 44) t ts h in
    let rest = costs_small ts (all_others (λ (k : StepValue). k.cost ≤ 2 ^ 44) t ts h) in
    omega (arith, sum_by-cons (λ (k : StepValue). k.cost) t ts, first, rest)

pub costs_bounded : (ts : List StepValue) → All (λ t. t.cost ≤ 2 ^ 44) ts → length ts ≤ 8448 → sum_by (λ t. t.cost) ts < 2 ^ 64
costs_bounded ts h few = omega (arith, costs_small ts h, few)
