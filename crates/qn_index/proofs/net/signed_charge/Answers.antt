use Rattle.std.proofs.Common.{arith, ◌^◌, sym, subst, lit<, List, ℤ}
use Rattle.qn_charge.specs.Charges.{IsCanonical, IsWithin}
use Rattle.qn_charge.specs.Laws.{within_neg, within_more}
use Rattle.qn_index.specs.Legs.{no_sector}
use Rattle.qn_index.proofs.net.signed_charge.Goals as goal

pub neg-requires : goal.neg-requires
neg-requires g c =
    let of = c.requires.group c.args.sector no_sector c.requires.sector in
    let fs = c.args.group.now in
    let e = sym c.charge-charge.ensures in
    (lit< tt, (lit< tt, (subst (λ (x : List ℤ). IsCanonical fs x) e of.canonical, within_more 1000000000 (2 ^ 62) fs _ (omega arith) (within_neg 1000000000 fs _ (subst (λ (x : List ℤ). IsWithin 1000000000 fs x) e of.within)))))

pub returns-in-Out-clause-canonical : goal.returns-in-Out-clause-canonical
returns-in-Out-clause-canonical g c =
    let of = c.requires.group c.args.sector no_sector c.requires.sector in
    subst (λ (x : List ℤ). IsCanonical c.args.group.now x) (sym c.charge-charge.ensures) of.canonical

pub returns-in-Out-clause-within : goal.returns-in-Out-clause-within
returns-in-Out-clause-within g c =
    let of = c.requires.group c.args.sector no_sector c.requires.sector in
    subst (λ (x : List ℤ). IsWithin 1000000000 c.args.group.now x) (sym c.charge-charge.ensures) of.within

pub returns-in-In-clause-within : goal.returns-in-In-clause-within
returns-in-In-clause-within g c =
    let of = c.requires.group c.args.sector no_sector c.requires.sector in
    subst (λ (x : List ℤ). IsWithin 1000000000 c.args.group.now x) (sym c.neg.ensures.value) (within_neg 1000000000 c.args.group.now _ (subst (λ (x : List ℤ). IsWithin 1000000000 c.args.group.now x) (sym c.charge-charge.ensures) of.within))
