use Rattle.std.proofs.Common.{rules, arith, ap, ◌≡◌, Some, pos}
use Rattle.std.proofs.lemmas.Int.{ints}
use Rattle.qn_words.proofs.Numbers.{same_value}
use Rattle.qn_words.proofs.words.natural.Goals as goal

pub returns-in-Some-clause-complete : goal.returns-in-Some-clause-complete
returns-in-Some-clause-complete c = λ n h e.
    let same : c.in-Some.n ≡ pos n = same_value c.in-Some.n (pos n) (c.in-Some.ensures.complete (pos n) (omega arith) (search (rules, e))) in
    ap Some (omega (arith, ints, same))

pub returns-in_default-clause-complete : goal.returns-in_default-clause-complete
returns-in_default-clause-complete c = λ n h e.
    let same : c.in-Some.n ≡ pos n = same_value c.in-Some.n (pos n) (c.in-Some.ensures.complete (pos n) (omega arith) (search (rules, e))) in
    absurd (omega (arith, ints, same))

pub returns-in_default-2-clause-complete : goal.returns-in_default-2-clause-complete
returns-in_default-2-clause-complete c = λ n h e.
    let same : c.in-Some.n ≡ pos n = same_value c.in-Some.n (pos n) (c.in-Some.ensures.complete (pos n) (omega arith) (search (rules, e))) in
    absurd (omega (arith, ints, same))

pub returns-in_default-3-clause-complete : goal.returns-in_default-3-clause-complete
returns-in_default-3-clause-complete c = λ n h e.
    let found : c.parse_decimal.result ≡ Some (pos n) = c.parse_decimal.ensures.complete (pos n) (omega arith) (search (rules, e)) in
    absurd (search (rules, found))
