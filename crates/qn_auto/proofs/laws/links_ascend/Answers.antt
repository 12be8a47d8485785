use Rattle.qn_auto.specs.Automaton.{stages}
use Rattle.qn_auto.specs.LinkOrder.{link_order}
use Rattle.qn_auto.proofs.LinkOrderLaws.{stages_ascend, sector_facts}
use Rattle.qn_auto.proofs.laws.links_ascend.Goals as goal

pub returns : goal.returns
returns c lower strict charge ws j =
    let a = stages_ascend lower strict charge ws j in
    let f = sector_facts lower strict charge (stages (link_order lower charge) ws j) a in
    (a, f.0, f.1)
