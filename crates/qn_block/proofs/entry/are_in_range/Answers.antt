use Rattle.std.proofs.lemmas.Bool.{false≢true}
use Rattle.qn_block.proofs.Lookup.{values_length}
use Rattle.qn_block.proofs.entry.are_in_range.Goals as goal

pub returns-then-values-legs : goal.returns-then-values-legs
returns-then-values-legs g c = (λ t. absurd (false≢true t), λ h. absurd (c.if-values-legs.true (values_length c.args.legs.now c.args.values.now h)))
