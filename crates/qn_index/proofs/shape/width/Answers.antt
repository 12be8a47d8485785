use Rattle.std.proofs.Common.{arith, ◌≡◌, ◌∙◌, ap, length, get_or, List, refl}
use Rattle.qn_index.specs.Weights.{WeightValue}
use Rattle.qn_index.proofs.Counts.{table_all}
use Rattle.qn_index.proofs.shape.width.Goals as goal

pub returns-then-tuples-gt-MAX_TUPLES : goal.returns-then-tuples-gt-MAX_TUPLES
returns-then-tuples-gt-MAX_TUPLES g c = record {
  tuples = c.count_of-tuples.ensures;
  entries = λ le. absurd (omega (arith, le, c.count_of-tuples.ensures, c.if-tuples-gt-MAX_TUPLES.true));
  too_many = λ _. refl;
}

pub bounds-made-legs : goal.bounds-made-legs
bounds-made-legs g c = omega (arith, ap length c.as_slice-made.ensures.value, c.in_ok-tables.ensures.many)

pub returns : goal.returns
returns g c =
    let made = c.as_slice-made.result.now in
    let t = c.index-made-legs.result in
    let ls = c.args.legs.now in
    let is : t ≡ get_or c.in_ok-tables.tables.items (length ls) t = c.index-made-legs.is ∙ ap (λ (ts : List (List WeightValue)). get_or ts (length ls) t) c.as_slice-made.ensures.value in
    let table = table_all c.args.group.now ls c.in_ok-tables.tables.items t c.in_ok-tables.ensures.many c.in_ok-tables.ensures.tables is in
    record {
      tuples = c.count_of-tuples.ensures;
      entries = λ _. c.count_at-entries.ensures ∙ table.weights c.args.flux.now c.requires.flux.canonical;
      too_many = λ lt. absurd (omega (arith, lt, c.count_of-tuples.ensures, c.if-tuples-gt-MAX_TUPLES.false));
    }
