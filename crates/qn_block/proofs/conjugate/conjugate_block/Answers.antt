use Rattle.std.proofs.Common.{arith, ◌∙◌, ap, refl, reverse}
use Rattle.qn_index.specs.Places.{offset_of, block_size}
use Rattle.qn_block.specs.Blocked.{conjugate_legs}
use Rattle.qn_block.proofs.Mirror.{place_below}
use Rattle.qn_block.proofs.conjugate.conjugate_block.Goals as goal

pub returns : goal.returns
returns g c =
    let ls = c.args.legs.now in
    let b = c.args.block.now in
    let size = c.block_len-size.ensures ∙ ap (block_size ls) c.tuple-tuple.ensures in
    record {
      tuple = c.in_ok-reversed.ensures ∙ ap reverse c.tuple-tuple.ensures;
      full = omega (arith, c.loop-place.invariant.count, size, c.requires.full);
      entries = λ os i. c.loop-place.invariant.entries (offset_of (conjugate_legs ls) (reverse b.tuple) (reverse os)) (omega (arith, size, place_below ls b.tuple os c.requires.tuple i)) os i refl;
    }
