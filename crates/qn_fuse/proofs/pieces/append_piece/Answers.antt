use Rattle.std.proofs.Common.{rules, arith, ◌≡◌, ◌∙◌, ◌++◌, ◌+◌, ◌-◌, ◌≤◌, [], OnOk, ap, subst, length, take, drop}
use Rattle.qn_fuse.specs.Pieces.{piece}
use Rattle.qn_fuse.proofs.Loops.{no_entries, no_piece, whole_piece}
use Rattle.qn_fuse.proofs.pieces.append_piece.Goals as goal

pub returns-then-is_empty : goal.returns-then-is_empty
returns-then-is_empty c =
    let short : length c.args.entries.now ≡ 0 = search rules in
    let none : c.args.entries.now ≡ [] = no_entries c.args.entries.now short in
    subst (λ ys. OnOk c.append_zeros.result (c.append_zeros.new.out.items ≡ c.args.out.now.items ++ ys)) (no_piece c.args.entries.now c.args.start c.args.len none) c.append_zeros.ensures

pub returns-in_ok-extend_from_slice : goal.returns-in_ok-extend_from_slice
returns-in_ok-extend_from_slice c =
    let inside : c.args.start + c.args.len ≤ length c.args.entries.now = search rules in
    let taken : take (c.args.start + c.args.len - c.args.start) (drop c.args.start c.args.entries.now) ≡ piece c.args.entries.now c.args.start c.args.len =
    ap (λ n. take n (drop c.args.start c.args.entries.now)) {y = c.args.len} (omega arith) ∙ whole_piece c.args.entries.now c.args.start c.args.len inside in
    c.in_ok-extend_from_slice.ensures.items ∙ ap (λ ys. c.args.out.now.items ++ ys) taken
