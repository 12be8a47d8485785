use Rattle.qn_sites.proofs.kind.builtin.Goals as goal

pub returns-in-None-clause-err : goal.returns-in-None-clause-err
returns-in-None-clause-err g c = λ k h. c.in-None.ensures k h.listed h.name
