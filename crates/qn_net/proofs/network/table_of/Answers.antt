use Rattle.std.proofs.Common.{List, sym, subst}
use Rattle.std.specs.List.{All}
use Rattle.qn_value.specs.Networks.{End}
use Rattle.qn_net.specs.Tables.{HasLabel}
use Rattle.qn_net.proofs.LabelledLemmas.{have_labels}
use Rattle.qn_net.proofs.network.table_of.Goals as goal

pub new-requires : goal.new-requires
new-requires g c = subst (λ (es : List End). All HasLabel es) (sym c.in_ok-ends.ensures) (have_labels c.args.tensors.now c.requires)
