use Rattle.std.proofs.Common.{◌*◌, ◌-◌, ◌++◌, ◌∷◌, [], List, take, ◌∙◌, ap}
use Rattle.qn_engine.specs.Parts.{PartValue}
use Rattle.qn_corr.proofs.Resumed.{resumed_is}
use Rattle.qn_corr.proofs.sweep.resumed.Goals as goal

pub returns : goal.returns
returns g c =
    let n = c.args.sites in
    let j = c.args.site in
    ◌∙◌ {A = List PartValue} c.in_ok-append-2.ensures.items
    (resumed_is n j c.args.parts.items c.truncate.new.self.items c.truncate-2.new.self.items c.push.new.self.items c.append.new.self.items c.in_ok-ops.ops.items c.in_ok-kets.kets.items c.args.before.now c.requires.within
    c.in_ok-kets.ensures.tail
    (c.truncate.ensures.items ∙ ap (take (2 * n)) c.in_ok-kets.ensures.items)
    c.in_ok-ops.ensures.tail
    (c.truncate-2.ensures.items ∙ ap (take (n - j)) c.in_ok-ops.ensures.items)
    (c.in_ok-push.ensures.items ∙ ap (λ (p : PartValue). c.truncate-2.new.self.items ++ p ∷ []) c.in_ok-lend.ensures)
    c.in_ok-append.ensures.items)
