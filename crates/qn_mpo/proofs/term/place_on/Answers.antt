use Rattle.std.proofs.Common.{◌∙◌, ap, length, sym}
use Rattle.qn_opsum.proofs.Lookups.{place_is}
use Rattle.qn_auto.proofs.Terms.{place_absent}
use Rattle.qn_mpo.proofs.term.place_on.Goals as goal

pub returns-in-Some : goal.returns-in-Some
returns-in-Some g c = sym (place_is c.args.site.now.ops c.in-Some.place c.args.name.now c.known.ensures.ascending c.in-Some.ensures.0 c.in-Some.ensures.1)

pub returns-in-None : goal.returns-in-None
returns-in-None g c = ap length c.ops.ensures ∙ sym (place_absent c.args.site.now.ops c.args.name.now c.in-None.ensures)
