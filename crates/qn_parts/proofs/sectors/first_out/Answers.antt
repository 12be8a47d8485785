use Rattle.std.proofs.Common.{◌≡◌, sym, ◌∙◌, arith, to_z, of_z, w64}
use Rattle.std.proofs.lemmas.Int.{to_z-of_z}
use Rattle.qn_parts.proofs.Ranges.{first_out_is_at}
use Rattle.qn_parts.proofs.sectors.first_out.Goals as goal

pub returns : goal.returns
returns g c =
    let read : to_z w64 (of_z w64 c.args.bound) ≡ c.args.bound = grind (arith, to_z-of_z) in
    first_out_is_at c.out_of.result (to_z w64 (of_z w64 c.args.bound)) c.args.bound c.args.group.now c.args.charge.now
    read (c.known-2.ensures.count ∙ sym c.known.ensures.count) c.out_of.ensures
