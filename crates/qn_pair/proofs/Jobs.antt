-- What the tasks of a contraction take of its cost.
use Rattle.std.proofs.Common.{◌≡◌, ◌≤◌, ℕ, zero, suc, ◌+◌, List, [], ◌∷◌, ◌^◌, sym, ◌∙◌, ap, subst, map, length, get_or, arith}
use Rattle.std.specs.List.{sum_by}
use Rattle.std.proofs.lemmas.List.Sums.{sum_by-cons}
use Rattle.qn_index.specs.Tuples.{admitted}
use Rattle.qn_block.specs.Blocked.{IsBlocked}
use Rattle.qn_match.specs.Pairs.{TaskValue, task_for, tasks, IsPair}
use Rattle.qn_match.specs.Cost.{IsShape}
use Rattle.qn_match.specs.Shares.{share_of, TaskWithinShare, SharesWithinCost}
use Rattle.qn_match.proofs.Counted.{cost_small}
use Rattle.qn_pair.specs.Steps.{result_flux}
use Rattle.qn_pair.specs.Jobs.{JobValue, tuples_of, tuple_at, share_at, cost_of_job, ArePriced}
use Rattle.qn_pair.proofs.Listed.{left_same}
use Rattle.qn_pair.proofs.Loops.{below, sum_bound}
use Rattle.qn_match.proofs.Sharing.{sum_map}

below_first : (f : ℕ → ℕ) (n : ℕ) → below f (suc n) ≡ f 0 + below (λ k. f (suc k)) n
below_first f zero = omega arith
below_first f (suc n) = omega (arith, below_first f n)

below_list : {A : Type 0} (f : A → ℕ) (d : A) (xs : List A) → below (λ k. f (get_or xs k d)) (length xs) ≡ sum_by f xs
below_list f d [] = ap (λ n. n) (sym nothing)
  where
    nothing : sum_by f [] ≡ 0
    nothing = omega arith
below_list f d (x ∷ xs) =
    below_first (λ k. f (get_or (x ∷ xs) k d)) (length xs) ∙ ap (λ n. f x + n) (below_list f d xs) ∙ sym (sum_by-cons f x xs)

shares_all : (j : JobValue) → SharesWithinCost → IsPair j.first j.second j.shared → below (share_at j) (length (tuples_of j)) ≤ cost_of_job j
shares_all j law pair =
    let f : List ℕ → ℕ = share_of j.first.group j.first.legs j.first.flux j.second.legs j.second.flux j.shared in
    let one : below (share_at j) (length (tuples_of j)) ≡ sum_by f (tuples_of j) = below_list f [] (tuples_of j) in
    let two : sum_by (λ (t : TaskValue). f t.out) (map (task_for j.shared j.first.blocks j.second.blocks) (tuples_of j)) ≡ sum_by f (tuples_of j) = sum_map (λ (t : TaskValue). f t.out) (task_for j.shared j.first.blocks j.second.blocks) (tuples_of j) in
    let same : sum_by (λ (t : TaskValue). f t.out) (tasks j.first j.second j.shared) ≡ sum_by (λ (t : TaskValue). f t.out) (map (task_for j.shared j.first.blocks j.second.blocks) (tuples_of j)) =
    ap (λ ls. sum_by (λ (t : TaskValue). f t.out) (map (task_for j.shared j.first.blocks j.second.blocks) (admitted j.first.group ls (result_flux j.first j.second)))) (left_same j pair) in
    omega (arith, one, two, same, law j.first j.second j.shared)

pub priced : (j : JobValue) → TaskWithinShare → SharesWithinCost → IsBlocked j.first → IsBlocked j.second → IsPair j.first j.second j.shared → ArePriced j
priced j law all ha hb pair = record {
  each = λ t. law j.first j.second j.shared (tuple_at j t) ha hb pair;
  all = λ ts once. omega (arith, sum_bound (share_at j) (length (tuples_of j)) ts once, shares_all j all pair);
  small = small;
}
  where
    small : cost_of_job j ≤ 2 ^ 44
    small = cost_small j.first.group j.first.legs j.first.flux j.second.legs j.second.flux j.shared hb.sound (record { charges = ha.charges; flux = ha.flux; limits = ha.shape }) second
      where
        second : IsShape j.first.group j.second.legs j.second.flux
        second = subst (λ gs. IsShape gs j.second.legs j.second.flux) (sym pair.group) (record { charges = hb.charges; flux = hb.flux; limits = hb.shape })
