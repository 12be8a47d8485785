use Rattle.std.proofs.Common.{rules, arith, ◌≡◌, ◌∙◌, ◌<◌, ◌+◌, length, sym, subst, ap, get_or, true, false}
use Rattle.std.proofs.lemmas.List.{get_or_default}
use Rattle.qn_match.proofs.Lefts.{AreLeft, left_kept, left_out}
use Rattle.qn_match.proofs.marks.append_sectors.Goals as goal
use Rattle.qn_match.proofs.marks.append_sectors.Goals.{then-not-marks-i+in_ok-push, else-not-marks-i}

pub loop-i-preserved : goal.loop-i-preserved
loop-i-preserved c =
    let ms = c.args.marks.now in
    let xs = c.args.tuple.now in
    let i = c.loop-i.i in
    let lt : i < length xs = omega arith in
    elim c.if-not-marks-i.branch [
      | then-not-marks-i+in_ok-push w ↦
          let m : get_or ms i false ≡ false = search rules in
          left_kept ms xs c.args.out.now.items c.loop-i.out.items c.if-not-marks-i.out.items i (get_or xs i 0) lt c.requires.count m (get_or_default xs i 0 (get_or xs i 0) lt) (ap (λ v. v.items) w.out-is ∙ w.in_ok-push.ensures.items) c.loop-i.invariant
      | else-not-marks-i w ↦
          let m : get_or ms i false ≡ true = search rules in
          subst (λ v. AreLeft ms xs c.args.out.now.items v.items (i + 1)) (sym w.out-is) (left_out ms xs c.args.out.now.items c.loop-i.out.items i 0 lt c.requires.count m c.loop-i.invariant)
    ]
