use Rattle.std.proofs.Common.{rules, ◌∙◌, ap}
use Rattle.qn_value.specs.Local.{picked}
use Rattle.qn_trace.proofs.Numbering.{number_is}
use Rattle.qn_trace.proofs.numbers.number_of.Goals as goal

pub returns : goal.returns
returns c =
    number_is c.args.couples.now c.args.places.now c.args.tuples.now c.args.block.now c.deref.result.now c.find.result c.requires.ascending
    (search rules)
    (c.deref.ensures.value ∙ c.in_ok-sectors.ensures ∙ ap (λ t. picked 0 t c.args.places.now) c.tuple-tuple.ensures) c.find.ensures
