use Rattle.std.proofs.Common.{◌≡◌, ◌∙◌, ◌&&◌, ◌-◌, Bool, true, false, length, take, drop, subst, arith}
use Rattle.qn_sign.proofs.Parity.{xor_beq, xor_false}
use Rattle.qn_sign.proofs.Positions.{signed_rest, IsSigned}
use Rattle.qn_sign.proofs.signs.exchange.Goals as goal

both : (a b : Bool) → a ≡ true → b ≡ (a && b)
both a b h = grind arith

neither : (a b : Bool) → a ≡ false → false ≡ (a && b)
neither a b h = grind arith

pub loop-rest-preserved-then-odd-position : goal.loop-rest-preserved-then-odd-position
loop-rest-preserved-then-odd-position c =
    subst (IsSigned c.args.odd.now c.args.goal.now (take (length c.loop-rest.rest.now - 1) (drop 1 c.loop-rest.rest.now)))
    (xor_beq c.loop-rest.minus c.passes_odd-minus.result)
    (signed_rest c.args.odd.now c.args.goal.now c.loop-rest.rest.now c.loop-rest.minus c.passes_odd-minus.result c.in-len1-up.len_at_least c.loop-rest.invariant
    (c.passes_odd-minus.ensures.count ∙ both _ _ c.if-odd-position.true))

pub loop-rest-preserved : goal.loop-rest-preserved
loop-rest-preserved c =
    subst (IsSigned c.args.odd.now c.args.goal.now (take (length c.loop-rest.rest.now - 1) (drop 1 c.loop-rest.rest.now)))
    (xor_false c.loop-rest.minus)
    (signed_rest c.args.odd.now c.args.goal.now c.loop-rest.rest.now c.loop-rest.minus false c.in-len1-up.len_at_least c.loop-rest.invariant
    (neither _ _ c.if-odd-position.false))
