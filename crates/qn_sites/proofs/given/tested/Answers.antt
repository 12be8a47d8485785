use Rattle.std.proofs.Common.{lit<, ◌≡◌, ◌∙◌, ◌*◌, ◌+◌, ◌++◌, ◌∷◌, [], drop, length, map, refl, ap, sym, subst, arith}
use Rattle.std.proofs.lemmas.List.{length_push, drop_all}
use Rattle.qn_index.specs.Legs.{LegValue, total}
use Rattle.qn_sites.specs.Operators.{OpValue}
use Rattle.qn_sites.specs.Sites.{GivenOp, op_on}
use Rattle.qn_sites.proofs.Made.{IsTested, clean_operator, drop_head, read_head, tested_first, tested_more, tested_all, tested_fault}
use Rattle.qn_sites.proofs.given.tested.Goals as goal

pub op_fault-requires : goal.op_fault-requires
op_fault-requires g c =
    let head = drop_head c.args.ops.items (length c.loop-name.tables.items) _ _ (sym c.in-Some.ensures.steps.0 ∙ c.loop-name.invariant.2) in (
      lit< tt,
      (
        lit< tt,
        (
          lit< tt,
          (
            c.requires.leg,
            rw c.deref.ensures.value (subst (λ o. length o.2.items ≡ total c.args.leg.now.sectors * total c.args.leg.now.sectors) (sym head.1) (c.requires.full (length c.loop-name.tables.items) _ head.0)),
          ),
        ),
      ),
    )

pub of_parts-requires : goal.of_parts-requires
of_parts-requires g c =
    let head = drop_head c.args.ops.items (length c.loop-name.tables.items) _ _ (sym c.in-Some.ensures.steps.0 ∙ c.loop-name.invariant.2) in
    let full = subst (λ o. length o.2.items ≡ total c.args.leg.now.sectors * total c.args.leg.now.sectors) (sym head.1) (c.requires.full (length c.loop-name.tables.items) _ head.0) in
    let given : GivenOp = record { name = c.in-Some.name; charge = c.in-Some.charge; entries = c.in-Some.entries.items } in (
      lit< tt,
      (
        lit< tt,
        (
          lit< tt,
          (
            lit< tt,
            rw c.in_ok-copy.ensures (clean_operator c.args.group.now c.args.leg.now given c.known.ensures.group c.requires.leg
                (c.known-in-loop-name.ensures.count ∙ sym c.known.ensures.count) full (rw c.deref.ensures.value at c.in-None-op_fault.ensures)),
          ),
        ),
      ),
    )

pub loop-name-preserved : goal.loop-name-preserved
loop-name-preserved g c =
    let n = length c.loop-name.tables.items in
    let cut = sym c.in-Some.ensures.steps.0 ∙ c.loop-name.invariant.2 in
    let head = drop_head c.args.ops.items (length c.loop-name.tables.items) _ _ cut in
    let full = subst (λ o. length o.2.items ≡ total c.args.leg.now.sectors * total c.args.leg.now.sectors) (sym head.1) (c.requires.full (length c.loop-name.tables.items) _ head.0) in
    let given : GivenOp = record { name = c.in-Some.name; charge = c.in-Some.charge; entries = c.in-Some.entries.items } in
    let clean = rw c.deref.ensures.value at c.in-None-op_fault.ensures in
    let op = clean_operator c.args.group.now c.args.leg.now given c.known.ensures.group c.requires.leg (c.known-in-loop-name.ensures.count ∙ sym c.known.ensures.count) full clean in
    let read = read_head c.args.ops.items (λ o. record { name = o.0; charge = o.1; entries = o.2.items }) n _ _ cut in
    let named : LegValue → OpValue = λ l. op_on c.args.group.now l given in
    let items : c.push.new.self.items ≡ c.loop-name.tables.items ++ op_on c.args.group.now c.args.leg.now given ∷ [] =
    c.in_ok-push.ensures.items ∙ ap (λ o. c.loop-name.tables.items ++ o ∷ []) (c.of_parts.ensures ∙ ap named c.in_ok-copy.ensures) in
    let count : length c.push.new.self.items ≡ n + 1 = ap length items ∙ length_push c.loop-name.tables.items (op_on c.args.group.now c.args.leg.now given) in
    (tt, tt, rw count head.2, rw count (tested_more _ _ _ n given c.loop-name.tables.items c.push.new.self.items c.loop-name.invariant.3 read.0 read.1 clean op items))

pub returns-in-Some-op_fault-clause-err : goal.returns-in-Some-op_fault-clause-err
returns-in-Some-op_fault-clause-err g c =
    let given : GivenOp = record { name = c.in-Some.name; charge = c.in-Some.charge; entries = c.in-Some.entries.items } in
    let n = length c.loop-name.tables.items in
    let cut = sym c.in-Some.ensures.steps.0 ∙ c.loop-name.invariant.2 in
    let read = read_head c.args.ops.items (λ o. record { name = o.0; charge = o.1; entries = o.2.items }) n _ _ cut in
    rw c.as_slice-op.ensures.value (tested_fault _ _ _ n given c.loop-name.tables.items c.in-Some-op_fault.entry c.loop-name.invariant.3 read.0 read.1 (rw c.deref.ensures.value at c.in-Some-op_fault.ensures))
