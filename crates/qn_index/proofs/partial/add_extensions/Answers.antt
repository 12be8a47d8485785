use Rattle.std.proofs.Common.{arith, ◌≡◌, ◌∙◌, ◌-◌, ◌+◌, ◌++◌, ◌∷◌, [], ap, length, List}
use Rattle.qn_index.specs.Weights.{PartialValue, extensions}
use Rattle.qn_index.specs.Tuples.{upward}
use Rattle.qn_index.proofs.Partials.{extension_more, extension_end}
use Rattle.qn_index.proofs.partial.add_extensions.Goals as goal

pub loop-s-preserved : goal.loop-s-preserved
loop-s-preserved g c =
    let fs = c.args.group.now in
    let l = c.args.leg.now in
    let ws = c.args.table.now in
    let p = c.args.partial.now in
    let n = length l.sectors in
    let added : c.add_extension.new.out.items ≡ c.loop-s.out.items ++ extensions fs l ws p (c.loop-s.s ∷ []) = c.in_ok-add_extension.ensures in
    ap (λ (vs : List PartialValue). vs ++ extensions fs l ws p (upward (c.loop-s.s + 1) (n - (c.loop-s.s + 1)))) added
    ∙ extension_more fs l ws p c.loop-s.out.items (c.args.out.now.items ++ extensions fs l ws p (upward 0 n)) c.loop-s.s n (omega (arith, ap length c.sectors.ensures)) c.loop-s.invariant

pub returns : goal.returns
returns g c =
    let fs = c.args.group.now in
    let l = c.args.leg.now in
    let ws = c.args.table.now in
    let p = c.args.partial.now in
    let n = length l.sectors in
    extension_end fs l ws p c.loop-s.out.items (c.args.out.now.items ++ extensions fs l ws p (upward 0 n)) c.loop-s.s n (omega (arith, ap length c.sectors.ensures)) c.loop-s.invariant
