use Rattle.std.proofs.Common.{rules, arith, ◌≡◌, ◌∙◌, ◌<◌, ◌+◌, ◌++◌, ◌∷◌, [], ◌^◌, ap, sym, List, ℕ, lit<, append_assoc, take}
use Rattle.qn_block.specs.Combiners.{StartValue, starts_from}
use Rattle.qn_block.proofs.Partition.{fitting, starts_next}
use Rattle.qn_block.proofs.starts.add_starts.Goals as goal

pub block_len-requires : goal.block_len-requires
block_len-requires g c =
    let f = fitting c.args.legs.now c.args.tuples.now c.loop-i.i c.index-tuples-i.result c.as_slice.result.now c.requires.tuples (omega arith) c.index-tuples-i.is c.as_slice.ensures in
    (lit< tt, (f.tuple, omega (arith, f.below, c.requires.few)))

pub overflow_cast-next : goal.overflow_cast-next
overflow_cast-next g c =
    let f = fitting c.args.legs.now c.args.tuples.now c.loop-i.i c.index-tuples-i.result c.as_slice.result.now c.requires.tuples (omega arith) c.index-tuples-i.is c.as_slice.ensures in
    let small : c.block_len.result < 2 ^ 32 = omega (arith, f.below, c.requires.few, c.block_len.ensures) in
    search rules

pub overflow_add-next : goal.overflow_add-next
overflow_add-next g c =
    let f = fitting c.args.legs.now c.args.tuples.now c.loop-i.i c.index-tuples-i.result c.as_slice.result.now c.requires.tuples (omega arith) c.index-tuples-i.is c.as_slice.ensures in
    let small : c.loop-i.next + c.block_len.result < 2 ^ 32 = omega (arith, f.below, c.requires.few, c.block_len.ensures, c.loop-i.invariant.next) in
    search rules

pub loop-i-preserved : goal.loop-i-preserved
loop-i-preserved g c =
    let ls = c.args.legs.now in
    let ts = c.args.tuples.now in
    let t = c.index-tuples-i.result in
    let f = fitting ls ts c.loop-i.i t c.as_slice.result.now c.requires.tuples (omega arith) c.index-tuples-i.is c.as_slice.ensures in
    let made : List ℕ → StartValue = λ u. record { tuple = u; start = c.loop-i.next } in
    let pushed : c.push.new.self.items ≡ c.loop-i.starts.items ++ (made c.in_ok-copy.field-0 ∷ []) = c.in_ok-push.ensures.items in
    let next = starts_next ls c.args.first ts c.loop-i.i t c.loop-i.next (omega arith) c.index-tuples-i.is c.loop-i.invariant.next in
    record {
      next = omega (arith, f.more, c.loop-i.invariant.next, c.block_len.ensures);
      starts = pushed ∙ (ap (λ u. c.loop-i.starts.items ++ (made u ∷ [])) c.in_ok-copy.ensures
          ∙ (ap (λ ss. ss ++ (made t ∷ [])) c.loop-i.invariant.starts
          ∙ (append_assoc c.args.starts.now.items (starts_from ls c.args.first (take c.loop-i.i ts)) (made t ∷ [])
          ∙ ap (λ ss. c.args.starts.now.items ++ ss) (sym next))));
    }
