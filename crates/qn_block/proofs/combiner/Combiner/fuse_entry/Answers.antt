use Rattle.std.proofs.Common.{arith, ◌≡◌, ◌∙◌, ap, sym, subst, length, take, reverse, List, lit<}
use Rattle.qn_index.specs.Places.{IsValues}
use Rattle.qn_index.specs.Legs.{LegValue}
use Rattle.qn_block.proofs.TableEntries.{fuse_given, tail_of, fuse_made}
use Rattle.qn_block.proofs.combiner.Combiner.fuse_entry.Goals as goal

pub backwards-turned-requires : goal.backwards-turned-requires
backwards-turned-requires g c =
    let r = fuse_given c.args.self.now.group c.args.self.now.legs c.args.self.now.arrow c.args.values.now c.requires in
    let few = c.known.ensures.few in
    omega (arith, r.long, few)

pub odd_inward-requires : goal.odd_inward-requires
odd_inward-requires g c =
    let r = fuse_given c.args.self.now.group c.args.self.now.legs c.args.self.now.arrow c.args.values.now c.requires in
    let same : take (length c.legs-legs.result.now) c.backwards-turned.result ≡ reverse (tail_of c.args.values.now) =
    ap (λ n. take n c.backwards-turned.result) (ap length c.legs-legs.ensures ∙ sym r.long) ∙ c.backwards-turned.ensures in
    (lit< tt, (lit< tt, subst (IsValues c.legs-legs.result.now) (sym same) (subst (λ (ls : List LegValue). IsValues ls (reverse (tail_of c.args.values.now))) (sym c.legs-legs.ensures) r.given)))

pub returns : goal.returns
returns g c =
    let r = fuse_given c.args.self.now.group c.args.self.now.legs c.args.self.now.arrow c.args.values.now c.requires in
    let given : take (length c.legs-legs.result.now) c.backwards-turned.result ≡ reverse (tail_of c.args.values.now) =
    ap (λ n. take n c.backwards-turned.result) (ap length c.legs-legs.ensures ∙ sym r.long) ∙ c.backwards-turned.ensures in
    c.matching.ensures
    ∙ fuse_made c.args.self.now.group c.group.result.now c.args.self.now.legs c.legs-legs.result.now c.args.self.now.arrow c.args.values.now (take (length c.legs-legs.result.now) c.backwards-turned.result) c.values_of-found.result c.same_values.result c.odd_inward.result
    c.requires c.group.ensures c.legs-legs.ensures given c.values_of-found.ensures c.same_values.ensures c.odd_inward.ensures
