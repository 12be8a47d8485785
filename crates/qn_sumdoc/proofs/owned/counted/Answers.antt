use Rattle.std.proofs.Common.{◌≤◌, length, map, ap, ap₂, arith}
use Rattle.std.specs.Option.{option_or}
use Rattle.std.proofs.lemmas.Bool.{le-ltb}
use Rattle.std.proofs.lemmas.List.{length-map}
use Rattle.qn_parts.specs.Faults.{fault, fault_if}
use Rattle.qn_sumdoc.specs.Objects.{named}
use Rattle.qn_sumdoc.specs.Operators.{given_of}
use Rattle.qn_sumdoc.proofs.OwnSites.{ops_ascend}
use Rattle.qn_sumdoc.proofs.owned.counted.Goals as goal

pub returns : goal.returns
returns g c =
    let fs = c.args.group.now in
    let es = c.args.members.now.entries in
    let read = c.in_ok-made.ensures in
    let count : length (map named es) ≤ 64 = omega (arith, length-map es named, c.len.ensures.len, c.if-len-gt64.false) in
    let gs = map (λ o. record { name = o.0; charge = o.1; entries = o.2.items }) c.in_ok-made.made.items in (
      ap₂ option_or (ap (λ b. fault_if b (fault 32 c.args.site 0 0)) (le-ltb 64 (length (map named es)) count)) read.0,
      record {
        operators = read.1;
        few = omega (arith, ap length read.1.are, length-map (map named es) (given_of fs), count);
        ascending = ops_ascend fs es gs c.len.ensures.ordered read.1.are;
      },
    )
