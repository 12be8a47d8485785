use Rattle.std.proofs.Common.{sym}
use Rattle.qn_mps.proofs.Putting.{put_inside}
use Rattle.qn_mps.proofs.chain.Chain.put.Goals as goal

pub invariant_of-self : goal.invariant_of-self
invariant_of-self g c = put_inside c.args.self.now _ (sym c.self.view_is) c.args.site c.requires.some c.requires.few c.args.tensor c.self.invariant (record { group = c.known.ensures.group; sound = c.known.ensures.sound; charges = c.known.ensures.charges; flux = c.known.ensures.flux; shape = c.known.ensures.shape; blocks = c.known.ensures.blocks; ascending = c.known.ensures.ascending }) c.requires.group c.requires.legs c.requires.flux
