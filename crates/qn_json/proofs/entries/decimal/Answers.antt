use Rattle.std.proofs.Common.{◌≡◌, Some, sym, ap, ◌∙◌, arith, to_z, of_z}
use Rattle.std.specs.Int.{w128}
use Rattle.std.proofs.lemmas.Int.{to_z-of_z}
use Rattle.qn_json.proofs.Decimals.{decimal_found}
use Rattle.qn_json.proofs.entries.decimal.Goals as goal

pub returns-in-Some : goal.returns-in-Some
returns-in-Some c =
    let read : to_z w128 (of_z w128 c.in-Some.x) ≡ c.in-Some.x = grind (arith, to_z-of_z) in
    ap Some read ∙ sym (decimal_found c.in-Some.x c.args.bytes.now c.in-Some.ensures.size c.in-Some.ensures.value)
