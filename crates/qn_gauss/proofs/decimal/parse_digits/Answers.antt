use Rattle.std.proofs.Common.{arith, rules, ap, ◌≡◌, ◌≤◌, length, get_or, Some, refl}
use Rattle.std.proofs.lemmas.Bool.Decides.{nat_tests}
use Rattle.qn_gauss.proofs.Digits.{decimal-leads, zero-alone, read-more, read-past, read-all}
use Rattle.qn_gauss.proofs.decimal.parse_digits.Goals as goal

pub returns-then-is_empty-clause-complete : goal.returns-then-is_empty-clause-complete
returns-then-is_empty-clause-complete c = λ n h e. absurd (grind (arith, nat_tests, (decimal-leads n h).0, ap length e))

pub returns-then-has_leading_zero-clause-complete : goal.returns-then-has_leading_zero-clause-complete
returns-then-has_leading_zero-clause-complete c = λ n h e.
    let zero = c.has_leading_zero.ensures.0 c.if-has_leading_zero.true in
    absurd (omega (arith, zero-alone c.args.bytes.now n h e (search (rules, zero.0)), zero.1))

pub returns-in-None-clause-complete : goal.returns-in-None-clause-complete
returns-in-None-clause-complete c = λ k h e. absurd (read-past c.args.bytes.now c.loop-b.b-index c.loop-b.n k h e c.loop-b.invariant (omega arith) (λ p q. c.in-None.ensures.none refl p q))

pub loop-b-preserved : goal.loop-b-preserved
loop-b-preserved c =
    let zero_alone : get_or c.args.bytes.now 0 0 ≡ 48 → length c.args.bytes.now ≤ 1 = λ z. grind (arith, z, c.has_leading_zero.ensures.1, c.if-has_leading_zero.false) in
    let v = c.in-Some.ensures.value in
    read-more c.args.bytes.now c.loop-b.b-index c.loop-b.n c.in-Some.more (get_or c.args.bytes.now c.loop-b.b-index 0) zero_alone c.loop-b.invariant (omega arith) refl v.1 v.2 v.3 v.0

pub returns-clause-complete : goal.returns-clause-complete
returns-clause-complete c = λ k h e. ap Some (read-all c.args.bytes.now c.loop-b.b-index c.loop-b.n k h e c.loop-b.invariant (omega arith))
