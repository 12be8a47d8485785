use Rattle.std.proofs.Common.{◌∙◌, sym, lit<}
use Rattle.qn_match.proofs.Paired.{are_parts, pair_answer}
use Rattle.qn_match.proofs.pairing.is_pair.Goals as goal

pub are_paired-requires : goal.are_paired-requires
are_paired-requires g c =
    let h = are_parts c.args.a.now c.args.b.now c.group-3.result.now c.legs.result.now c.flux.result.now c.legs-2.result.now c.flux-2.result.now c.group-3.ensures c.legs.ensures c.flux.ensures c.legs-2.ensures c.flux-2.ensures
    (sym c.group.ensures ∙ (c.is_same_group.ensures.0 c.if-not-is_same_group.false ∙ c.group-2.ensures)) c.known.ensures c.known-2.ensures in
    (lit< tt, (lit< tt, (lit< tt, (h.a_legs, (h.a_flux, (h.b_legs, h.b_flux))))))

pub returns : goal.returns
returns g c =
    pair_answer c.args.a.now c.args.b.now c.args.shared.now c.group-3.result.now c.legs.result.now c.flux.result.now c.legs-2.result.now c.flux-2.result.now c.are_paired.result c.group-3.ensures c.legs.ensures c.flux.ensures c.legs-2.ensures c.flux-2.ensures
    (sym c.group.ensures ∙ (c.is_same_group.ensures.0 c.if-not-is_same_group.false ∙ c.group-2.ensures)) c.are_paired.ensures
