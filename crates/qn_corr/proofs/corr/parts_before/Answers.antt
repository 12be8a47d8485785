use Rattle.std.proofs.Common.{lit<, arith}
use Rattle.qn_corr.proofs.Again.{start_count}
use Rattle.qn_corr.proofs.corr.parts_before.Goals as goal

pub resumed-requires : goal.resumed-requires
resumed-requires g c =
    let e = start_count c.args.net.now c.args.sites c.in_ok-parts.parts.items c.requires.sweep c.in_ok-parts.ensures in
    (lit< tt, (lit< tt, (omega (arith, c.requires.place), (c.requires.small, e))))

pub returns-clause-later : goal.returns-clause-later
returns-clause-later g c = λ some. record {
  begins = c.in_ok-parts.parts.items;
  part = c.index-kept-place.result;
  carried = c.in_ok-parts.ensures;
  was_kept = c.index-kept-place.is;
  parts_are = c.in_ok-parts-2.ensures;
}
