use Rattle.std.proofs.Common.{rules, ℕ, List, arith, ◌≤◌}
use Rattle.std.proofs.lemmas.Fn.{always_returns_same}
use Rattle.std.proofs.lemmas.List.Sorted.{IsNonDecreasingBy-from_sort_by_key}
use Rattle.std.specs.Prelude.{Err, Ok, OnOk, Result}
use Rattle.qn_opsum.proofs.SiteOrder.{stable_from}
use Rattle.qn_opsum.proofs.normal.sort_by_site.Goals as goal

on_ok : {T E : Type 0} (P Q : Type 0) (r : Result T E) → (P → Q) → OnOk r P → OnOk r Q
on_ok P Q (Ok x) f p = f p
on_ok P Q (Err e) f p = p

pub returns : goal.returns
returns c =
    on_ok _ _ c.sort_by_key.result
    (λ sorted. record {
      ascending = λ i j d lt le. IsNonDecreasingBy-from_sort_by_key (λ (f : ℕ × List ℕ). f.0) _ sorted (λ a r q k. search rules) i j d (omega arith) le;
      stable = stable_from _ _ (c.sort_by_key.ensures.stable (λ (f : ℕ × List ℕ). f.0) (always_returns_same _ _ _ (λ a r q k. search rules)));
    })
    c.sort_by_key.ensures.sorted
