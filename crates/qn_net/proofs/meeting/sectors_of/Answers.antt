use Rattle.std.proofs.Common.{◌≤◌, ◌<◌, ◌-◌, ℕ, ◌+◌, length, drop, sym, ◌∙◌, ap, subst, arith}
use Rattle.qn_net.specs.Members.{member_tensor, slots_of_members}
use Rattle.qn_net.specs.Refusals.{slot_at}
use Rattle.qn_net.proofs.MeetingLemmas.{sectors_here, sectors_past}
use Rattle.qn_net.proofs.meeting.sectors_of.Goals as goal

pub returns-then-rest-width : goal.returns-then-rest-width
returns-then-rest-width g c =
    let within : c.loop-t.rest < length (member_tensor c.t-item.result.member).legs = omega (arith, c.if-rest-width.true, c.width-width.ensures) in
    c.sectors.ensures
    ∙ sectors_here c.args.tensors.now c.requires.labels c.loop-t.t-index c.t-item.result c.loop-t.rest c.args.k c.loop-t-test.true (sym c.t-item.is) within c.loop-t.invariant.same

pub loop-t-preserved : goal.loop-t-preserved
loop-t-preserved g c =
    let behind : length (member_tensor c.t-item.result.member).legs ≤ c.loop-t.rest = omega (arith, c.if-rest-width.false, c.width-width.ensures) in
    let r = sectors_past c.args.tensors.now c.requires.labels c.loop-t.t-index c.t-item.result c.loop-t.rest c.loop-t-test.true (sym c.t-item.is) behind c.loop-t.invariant.within in
    let e = c.width-width.ensures in
    record {
      within = subst (λ (w : ℕ). c.loop-t.rest - w < length (slots_of_members (drop (c.loop-t.t-index + 1) c.args.tensors.now))) (sym c.width-width.ensures) r.0;
      same = ap (λ (w : ℕ). slot_at (slots_of_members (drop (c.loop-t.t-index + 1) c.args.tensors.now)) (c.loop-t.rest - w)) c.width-width.ensures ∙ r.1 ∙ c.loop-t.invariant.same;
    }
