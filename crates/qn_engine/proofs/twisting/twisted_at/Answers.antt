use Rattle.std.proofs.Common.{rules, ◌≡◌, [], length, sym, subst}
use Rattle.std.proofs.lemmas.List.{nil_from_length}
use Rattle.qn_block.specs.Blocked.{tensor_of}
use Rattle.qn_twist.specs.Twisted.{Twisted}
use Rattle.qn_engine.specs.Parts.{tensor_value}
use Rattle.qn_engine.proofs.TwistedParts.{twisted_nowhere}
use Rattle.qn_engine.proofs.twisting.twisted_at.Goals as goal

pub returns-then-is_empty : goal.returns-then-is_empty
returns-then-is_empty g c =
    let n : length c.args.places.now ≡ 0 = search rules in
    let e : c.args.places.now ≡ [] = nil_from_length c.args.places.now n in
    subst (λ ks. Twisted (tensor_of (tensor_value g.row.K c.args.tensor)) ks (tensor_of (tensor_value g.row.K c.args.tensor))) (sym e) (twisted_nowhere (tensor_of (tensor_value g.row.K c.args.tensor)))
