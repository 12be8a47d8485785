use Rattle.std.proofs.Common.{pos, sym, ◌∙◌, ap, arith}
use Rattle.std.proofs.lemmas.Bool.{false≢true}
use Rattle.qn_net.specs.Members.{slots_of_members}
use Rattle.qn_net.specs.Refusals.{legs_with, HasUnequalSectors}
use Rattle.qn_net.proofs.LineLemmas.{none_zero, none_above, none_at_all, step_none, first_none}
use Rattle.qn_net.proofs.MeetingLemmas.{unequal_off}
use Rattle.qn_net.proofs.meeting.first_unequal_sectors.Goals as goal

pub loop-n-init : goal.loop-n-init
loop-n-init g c =
    first_none (HasUnequalSectors (slots_of_members c.args.tensors.now))
    (unequal_off (slots_of_members c.args.tensors.now) 0 (ap (legs_with (pos 0)) (sym c.requires.table) ∙ none_zero c.args.table.now c.known.ensures))

pub loop-n-preserved : goal.loop-n-preserved
loop-n-preserved g c =
    step_none (HasUnequalSectors (slots_of_members c.args.tensors.now)) c.loop-n.n c.loop-n.invariant
    (λ p. false≢true (sym c.if-has_unequal_sectors.false ∙ c.has_unequal_sectors.ensures.1 p))

pub returns : goal.returns
returns g c =
    none_at_all (HasUnequalSectors (slots_of_members c.args.tensors.now))
    (unequal_off (slots_of_members c.args.tensors.now) 0 (ap (legs_with (pos 0)) (sym c.requires.table) ∙ none_zero c.args.table.now c.known.ensures))
    (λ n l. unequal_off (slots_of_members c.args.tensors.now) n (ap (legs_with (pos n)) (sym c.requires.table) ∙ none_above c.args.table.now c.known.ensures n l))
    (λ n l. c.loop-n.invariant n (omega (arith, l)))
