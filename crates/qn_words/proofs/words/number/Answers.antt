use Rattle.std.proofs.Common.{rules, ap, sym, ◌∙◌, ◌≡◌, ◌&&◌, Some, None, true, nat_le, if◌then◌else◌}
use Rattle.qn_words.proofs.Numbers.{number_of_decimal}
use Rattle.qn_words.proofs.words.number.Goals as goal

pub returns-in-Some-clause-number : goal.returns-in-Some-clause-number
returns-in-Some-clause-number c =
    let between : (nat_le c.args.low c.in-Some.n && nat_le c.in-Some.n c.args.high) ≡ true = search rules in
    sym (number_of_decimal c.args.low c.args.high c.in-Some.n c.args.word.now c.in-Some.ensures.small c.in-Some.ensures.value ∙ ap (λ b. if b then Some c.in-Some.n else None) between)
