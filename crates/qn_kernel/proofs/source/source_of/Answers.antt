use Rattle.std.proofs.Common.{rules, arith, ◌≡◌, ap, ◌∙◌, lit<, length, take, drop, List}
use Rattle.qn_strides.proofs.Striding.{strides_long}
use Rattle.qn_index.specs.Places.{block_size}
use Rattle.qn_index.proofs.Nets.{tuple_length}
use Rattle.qn_strides.specs.Strides.{strides, open_places}
use Rattle.qn_kernel.specs.Sources.{PairedValue, couples_of}
use Rattle.qn_kernel.proofs.Frames.{frame_tuple, frame_goal, paired_long}
use Rattle.qn_kernel.proofs.Splits.{split_of, source_small}
use Rattle.qn_kernel.proofs.source.source_of.Goals as goal

pub sign_of-requires : goal.sign_of-requires
sign_of-requires g c = (
  lit< tt,
  (
    lit< tt,
    (
      frame_tuple c.args.firsts.now c.args.seconds.now c.args.shared.now c.args.word.now c.args.goal.now c.args.places.now c.args.left.now c.args.x.now.tuple c.args.y.now.tuple _ _ c.requires.frame c.requires.first.0 c.requires.second.0 c.tuple-3.ensures c.tuple-4.ensures,
      frame_goal c.args.firsts.now c.args.seconds.now c.args.shared.now c.args.word.now c.args.goal.now c.args.places.now c.args.left.now c.requires.frame,
    ),
  ),
)

pub parts_of-rows-requires : goal.parts_of-rows-requires
parts_of-rows-requires g c = (
  lit< tt,
  (
    c.requires.sectors,
    (
      c.requires.size,
      (
        omega (arith, c.leading.ensures.within, c.requires.frame.count),
        omega (arith, c.leading.ensures.within, c.requires.frame.count, tuple_length c.args.left.now c.args.sectors.now c.requires.sectors),
      ),
    ),
  ),
)

pub returns-clause-value : goal.returns-clause-value
returns-clause-value g c =
    let e : c.leading.result ≡ length (open_places (couples_of (length c.args.firsts.now) c.args.shared.now) (length c.args.firsts.now)) =
    split_of c.args.firsts.now c.args.seconds.now c.args.shared.now c.args.word.now c.args.goal.now c.args.places.now c.args.left.now c.args.sectors.now c.requires.frame c.requires.sectors
    c.leading.result c.leading.ensures.within (λ k l. omega (arith, c.leading.ensures.below k l)) (λ l. omega (arith, c.leading.ensures.next l)) in
    let rows = c.parts_of-rows.ensures.rows ∙ ap (λ n. block_size (take n c.args.left.now) (take n c.args.sectors.now)) e in
    let cols = c.parts_of-rows.ensures.cols ∙ ap (λ n. block_size (drop n c.args.left.now) (drop n c.args.sectors.now)) e in
    search (rules, rows, cols)

pub returns-clause-small : goal.returns-clause-small
returns-clause-small g c =
    source_small c.args.firsts.now c.args.seconds.now c.args.shared.now c.args.word.now c.args.goal.now c.args.places.now c.args.left.now c.args.sectors.now c.requires.frame c.requires.sectors
    (strides c.args.firsts.now c.args.x.now.tuple) (strides c.args.seconds.now c.args.y.now.tuple) c.leading.result _
    (split_of c.args.firsts.now c.args.seconds.now c.args.shared.now c.args.word.now c.args.goal.now c.args.places.now c.args.left.now c.args.sectors.now c.requires.frame c.requires.sectors
    c.leading.result c.leading.ensures.within (λ k l. omega (arith, c.leading.ensures.below k l)) (λ l. omega (arith, c.leading.ensures.next l)))
    (omega (arith, strides_long c.args.firsts.now c.args.x.now.tuple c.requires.first.0)) (search rules) (search rules) c.in_ok-first_kept.ensures.kept c.in_ok-second_kept.ensures.kept
    (omega (arith, ap (λ (xs : List PairedValue). length xs) c.in_ok-paired.ensures.value, paired_long c.args.firsts.now c.tuple-5.result.now c.deref-4.result.now c.deref-5.result.now c.args.shared.now, c.requires.frame.few_shared))
    c.in_ok-paired.ensures.small c.parts_of-rows.ensures.cols c.parts_of-rows.ensures.whole c.parts_of-rows.ensures.few_rows c.parts_of-rows.ensures.few_cols
