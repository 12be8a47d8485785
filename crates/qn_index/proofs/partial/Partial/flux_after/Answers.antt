use Rattle.std.proofs.Common.{arith, ◌∙◌, ◌≤◌, ◌+◌, ◌^◌, ap, sym, subst, lit<, ℤ, List}
use Rattle.qn_index.specs.Weights.{PartialValue}
use Rattle.qn_charge.specs.Charges.{sum_charge, neg_charge, IsCanonical, IsWithin}
use Rattle.qn_charge.specs.Laws.{within_sum, within_neg, within_more}
use Rattle.qn_index.specs.Tuples.{signed}
use Rattle.qn_index.proofs.partial.Partial.flux_after.Goals as goal

pub neg-requires : goal.neg-requires
neg-requires g c =
    let fs = c.args.group.now in
    let own = c.signed_charge-own.result in
    let bound : 1000000000 ≤ 2 ^ 62 = omega arith in
    (lit< tt, (lit< tt, (c.signed_charge-own.ensures.canonical, within_more 1000000000 (2 ^ 62) fs (neg_charge fs own) bound (within_neg 1000000000 fs own c.signed_charge-own.ensures.within))))

pub add-requires : goal.add-requires
add-requires g c =
    let fs = c.args.group.now in
    let own = c.signed_charge-own.result in
    let q = c.self.inside.flux in
    let e = ap (λ (p : PartialValue). p.flux) c.self.view_is in
    let bound : 1000000000 + 2 ^ 51 ≤ 2 ^ 62 = omega arith in
    let canonical : IsCanonical fs q = subst (λ (x : List ℤ). IsCanonical fs x) (sym e) c.requires.flux.canonical in
    let within : IsWithin (2 ^ 51) fs q = subst (λ (x : List ℤ). IsWithin (2 ^ 51) fs x) (sym e) c.requires.flux.within in
    let turned : IsWithin 1000000000 fs c.neg.result = subst (λ (x : List ℤ). IsWithin 1000000000 fs x) (sym c.neg.ensures.value) (within_neg 1000000000 fs own c.signed_charge-own.ensures.within) in
    (lit< tt, (lit< tt, (c.neg.ensures.canonical, (canonical, within_more (1000000000 + 2 ^ 51) (2 ^ 62) fs (sum_charge fs c.neg.result q) bound (within_sum 1000000000 (2 ^ 51) fs c.neg.result q turned within)))))

pub returns : goal.returns
returns g c =
    let fs = c.args.group.now in
    let own = signed fs c.args.leg.now c.args.sector in
    let e = ap (λ (p : PartialValue). p.flux) c.self.view_is in
    c.add.ensures.value
    ∙ (ap (λ (z : List ℤ). sum_charge fs z c.self.inside.flux) (c.neg.ensures.value ∙ ap (neg_charge fs) c.signed_charge-own.ensures.value)
    ∙ ap (λ (z : List ℤ). sum_charge fs (neg_charge fs own) z) e)
