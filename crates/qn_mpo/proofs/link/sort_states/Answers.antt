use Rattle.std.proofs.Common.{rules}
use Rattle.std.proofs.lemmas.Fn.{always_returns_same}
use Rattle.qn_mpo.specs.States.{value_lower}
use Rattle.qn_mpo.proofs.Links.{value_weak}
use Rattle.qn_mpo.proofs.link.sort_states.Goals as goal

pub returns-clause-sorted : goal.returns-clause-sorted
returns-clause-sorted g c = c.sort_unstable_by.ensures.sorted value_lower value_weak (always_returns_same _ _ _ (λ a r q called. search rules))
