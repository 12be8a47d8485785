use Rattle.std.proofs.Common.{arith, ◌≤◌, ◌+◌, ◌^◌, ap, sym, subst, lit<, ℤ, List}
use Rattle.qn_index.specs.Weights.{WeightValue}
use Rattle.qn_charge.specs.Charges.{sum_charge, IsCanonical, IsWithin}
use Rattle.qn_charge.specs.Laws.{within_sum, within_more}
use Rattle.qn_index.proofs.table.Weight.moved.Goals as goal

pub add-requires : goal.add-requires
add-requires g c =
    let fs = c.args.group.now in
    let e = ap (λ (w : WeightValue). w.charge) c.self.view_is in
    let bound : 1000000000 + 63000000000 ≤ 2 ^ 62 = omega arith in
    (lit< tt, (lit< tt, (c.requires.own.canonical, (subst (λ (x : List ℤ). IsCanonical fs x) (sym e) c.requires.row.canonical, within_more (1000000000 + 63000000000) (2 ^ 62) fs (sum_charge fs c.args.own.now c.self.inside.charge) bound (within_sum 1000000000 63000000000 fs c.args.own.now c.self.inside.charge c.requires.own.within (subst (λ (x : List ℤ). IsWithin 63000000000 fs x) (sym e) c.requires.row.within))))))
