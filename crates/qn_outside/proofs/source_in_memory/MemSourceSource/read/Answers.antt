use Rattle.std.proofs.Common.{◌≤◌, ◌++◌, length, take, drop, ap, ◌∙◌, arith, length-drop, drop_of_length-le}
use Rattle.std.proofs.lemmas.List.{take_rest, drop-drop}
use Rattle.qn_outside.proofs.Known.{copied_front}
use Rattle.qn_outside.proofs.source_in_memory.MemSourceSource.read.Goals as goal

pub returns-clause-bytes : goal.returns-clause-bytes
returns-clause-bytes c =
    let n = c.copy_front-n.result in
    let all = c.self.inside.bytes.items in
    let at = c.self.inside.at in
    let count = rw (c.deref-2.ensures.value, take_rest all at) at c.copy_front-n.ensures.count in
    let copied = rw (c.deref-2.ensures.value, take_rest all at) at c.copy_front-n.ensures.copied in
    let within : n ≤ length (drop at all) = omega (arith, count) in (
      rw (← c.self.view_is) (copied_front (drop at all) c.args.buf.now c.copy_front-n.new.to n within copied ∙ ap (λ l. take n c.copy_front-n.new.to ++ l) (drop-drop n at all)),
      λ none room. drop_of_length-le all (omega (arith, count, length-drop at all, c.self.invariant.1)),
    )
