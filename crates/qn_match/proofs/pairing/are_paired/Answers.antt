use Rattle.std.proofs.Common.{◌∙◌, lit<, sym, subst}
use Rattle.std.specs.List.{All}
use Rattle.qn_index.specs.Legs.{IsLegOf}
use Rattle.qn_match.proofs.Paired.{flux_within, joined_legs}
use Rattle.qn_match.proofs.pairing.are_paired.Goals as goal

pub add-flux-requires : goal.add-flux-requires
add-flux-requires g c =
    (lit< tt, (lit< tt, (c.requires.a_flux.canonical, (c.requires.b_flux.canonical, flux_within c.args.group.now c.args.a_flux.now c.args.b_flux.now c.requires.a_flux c.requires.b_flux))))

pub is_within_limits-requires : goal.is_within_limits-requires
is_within_limits-requires g c = (
  lit< tt,
  (
    lit< tt,
    (
      lit< tt,
      (
        subst (λ ls. All (IsLegOf c.args.group.now) ls) (sym (c.deref.ensures.value ∙ c.in_ok-legs.ensures)) (joined_legs c.args.group.now c.args.a_legs.now c.args.b_legs.now c.args.shared.now c.requires.a_legs c.requires.b_legs),
        c.is_flux.ensures.0 c.if-not-is_flux.false,
      ),
    ),
  ),
)
