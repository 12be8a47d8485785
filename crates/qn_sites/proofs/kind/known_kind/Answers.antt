use Rattle.std.proofs.Common.{◌≡◌, ◌∙◌, ℤ, List, ap, length, map, sym}
use Rattle.std.proofs.lemmas.List.{length-map}
use Rattle.std.proofs.lemmas.Simd.{map-map}
use Rattle.qn_sites.specs.Kinds.{KindRow, OpRow, kind_op}
use Rattle.qn_sites.specs.KindRows.{kind_row, op_row}
use Rattle.qn_sites.proofs.KindFacts.{charge_lengths, kind_is, op_lengths}
use Rattle.qn_sites.proofs.kind.known_kind.Goals as goal
use Rattle.qn_facts.proofs.Lists.{unmapped}

pub returns : goal.returns
returns c =
    let k : KindRow = kind_row c.args.kind.now in
    let is = kind_is k c.requires in
    record {
      kind = is;
      charges = unmapped (λ (q : List ℤ). length q ≡ length k.factors) (λ q. q.now) c.args.kind.now.charges.now (charge_lengths k is);
      charges_of_ops = unmapped (λ (o : OpRow). length o.charge ≡ length k.factors) op_row c.args.kind.now.ops.now (op_lengths k is);
      sectors = sym (map-map _ (λ q. q.now) c.args.kind.now.charges.now);
      ops = ap (λ n. map (λ o. kind_op n (op_row o)) c.args.kind.now.ops.now) (sym (length-map c.args.kind.now.charges.now _)) ∙ sym (map-map (kind_op (length k.charges)) op_row c.args.kind.now.ops.now);
    }
