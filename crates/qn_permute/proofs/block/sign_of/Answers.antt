use Rattle.std.proofs.Common.{arith, ◌==◌, ◌∙◌, ap, length, List, Bool}
use Rattle.qn_sign.specs.Positions.{positions, is_odd_at}
use Rattle.qn_sign.specs.Sign.{exchange_sign}
use Rattle.qn_permute.specs.Moved.{sector_parities}
use Rattle.qn_permute.proofs.Moves.{parities_length}
use Rattle.qn_permute.proofs.block.sign_of.Goals as goal

pub exchange-requires : goal.exchange-requires
exchange-requires g c =
    let long = ap (λ (xs : List Bool). length xs) (c.deref.ensures.value ∙ c.in_ok-odd.ensures) in
    record { positions = λ k d lt. let within = c.requires.order.within k d lt in omega (arith, within, long, parities_length c.args.group.now c.args.legs.now c.args.tuple.now c.requires.tuple) }

pub returns : goal.returns
returns g c =
    let odd = c.deref.ensures.value ∙ c.in_ok-odd.ensures in
    c.exchange.ensures.sign
    ∙ (ap (λ (xs : List Bool). exchange_sign ◌==◌ (is_odd_at xs) (positions (length xs)) c.args.order.now) odd
    ∙ ap (λ n. exchange_sign ◌==◌ (is_odd_at (sector_parities c.args.group.now c.args.legs.now c.args.tuple.now)) (positions n) c.args.order.now) (parities_length c.args.group.now c.args.legs.now c.args.tuple.now c.requires.tuple))
