use Rattle.qn_gen.proofs.Limits.{flux_given, legs_given, shape_given}
use Rattle.qn_gen.proofs.state.tensor_at.Goals as goal

pub drawn_tensor-requires-clause-group : goal.drawn_tensor-requires-clause-group
drawn_tensor-requires-clause-group c = legs_given c.args.group.now c.in_ok-legs.legs.items c.args.count c.args.site c.requires.group c.in_ok-legs.ensures c.requires.few

pub drawn_tensor-requires-clause-flux : goal.drawn_tensor-requires-clause-flux
drawn_tensor-requires-clause-flux c = flux_given c.args.group.now c.flux_at.result c.args.count c.args.site c.requires.group c.flux_at.ensures c.requires.few

pub drawn_tensor-requires-clause-shape : goal.drawn_tensor-requires-clause-shape
drawn_tensor-requires-clause-shape c = shape_given c.args.group.now c.in_ok-legs.legs.items c.flux_at.result c.args.count c.args.site c.requires.group c.in_ok-legs.ensures c.requires.few
