use Rattle.std.proofs.Common.{lit<, refl, sym, subst}
use Rattle.std.specs.List.{All}
use Rattle.serde_json.specs.View.{view}
use Rattle.qn_sumdoc.specs.Chains.{IsStateTensor}
use Rattle.qn_sumdoc.proofs.StateChains.{chain_right, chain_wrong, fluxes_of, groups_of}
use Rattle.qn_sumdoc.proofs.chains.state.Goals as goal

pub state-requires : goal.state-requires
state-requires g c =
    let each = subst (λ fs. All (IsStateTensor fs) c.args.tensors.items) (sym c.requires.group) c.requires.tensors.each in
    (lit< tt, (lit< tt, (lit< tt, (lit< tt, (c.requires.legs.some, (c.requires.legs.few, (c.requires.legs.out, (groups_of c.args.group.now c.args.tensors.items each, fluxes_of c.args.group.now c.args.tensors.items each))))))))

pub returns-in-Ok : goal.returns-in-Ok
returns-in-Ok g c =
    let made = c.in-Ok.ensures in
    (refl, chain_right c.args.key.now (view c.args.v.now) c.args.group.now c.args.legs.now c.args.tensors.items c.in-Ok.chain c.requires.group c.requires.legs c.requires.tensors made.ok made.faultless)

pub returns-in-Err : goal.returns-in-Err
returns-in-Err g c =
    chain_wrong c.args.key.now c.args.base (view c.args.v.now) c.args.legs.now c.args.tensors.items c.in-Err.fault c.placed.result c.requires.legs c.requires.tensors c.in-Err.ensures.err c.placed.ensures
