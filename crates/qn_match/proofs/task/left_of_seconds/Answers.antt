use Rattle.std.proofs.Common.{◌∙◌, length, sym, ap, map, List, Bool}
use Rattle.qn_value.specs.Tensors.{BlockValue}
use Rattle.qn_match.specs.Pairs.{is_second, unmarked, left_of_second}
use Rattle.qn_match.proofs.Lefts.{marks_length, lefts_alike, lefts_from}
use Rattle.qn_match.proofs.task.left_of_seconds.Goals as goal

pub left_of_blocks-requires : goal.left_of_blocks-requires
left_of_blocks-requires c =
    let long = ap (λ (ms : List Bool). length ms) (c.deref.ensures.value ∙ c.in_ok-marks.ensures) in
    record { counts = λ k d lt. c.requires.counts k d lt ∙ sym (long ∙ marks_length (is_second c.args.shared.now) c.args.count) }

pub returns : goal.returns
returns c =
    let sh = c.args.shared.now in
    let bs = c.args.blocks.now in
    lefts_from (map (λ (b : BlockValue). unmarked c.deref.result.now b.tuple) bs) (map (left_of_second sh) bs) c.left_of_blocks.result
    (ap (λ (ms : List Bool). map (λ (b : BlockValue). unmarked ms b.tuple) bs) (c.deref.ensures.value ∙ c.in_ok-marks.ensures) ∙ lefts_alike is_second sh c.args.count bs c.requires.counts)
    c.left_of_blocks.ensures
