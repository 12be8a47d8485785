use Rattle.std.proofs.Common.{lit<}
use Rattle.qn_mpo.proofs.Frames.{shape_fits}
use Rattle.qn_mpo.proofs.frame.empty_tensor.Goals as goal

pub new-requires-2 : goal.new-requires-2
new-requires-2 g c =
    let fits = shape_fits c.args.sum.now c.known.ensures c.args.j c.requires.within c.group.result.now c.args.legs.items c.site_flux-flux.result c.group.ensures c.requires.legs c.site_flux-flux.ensures.flux in
    (lit< tt, (lit< tt, (lit< tt, (lit< tt, (fits.0, fits.1)))))
