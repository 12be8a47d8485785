use Rattle.std.proofs.Common.{arith, ◌≡◌, ◌∙◌, ◌<◌, ℕ, List, length, map, get_or, ap, ap₂, refl, sym, subst}
use Rattle.std.specs.Prelude.{nat_eq}
use Rattle.std.specs.Cmp.Lexicographic.{pointwise}
use Rattle.std.specs.List.{All}
use Rattle.std.proofs.lemmas.List.{get_or_default, get_or-map, length-map}
use Rattle.qn_value.specs.Tensors.{BlockValue, no_block}
use Rattle.qn_block.specs.Refusals.{block_at}
use Rattle.qn_match.specs.Index.{positions_with, AreInOrder, with_row}
use Rattle.qn_match.specs.Keys.{digits_of}
use Rattle.qn_match.specs.Pairs.{first_left, left_of_first, left_of_second}
use Rattle.qn_match.proofs.Added.{in_order, task_so_far, tasks_more}
use Rattle.qn_match.proofs.Counted.{first_places, second_places}
use Rattle.qn_match.proofs.Indexing.{positions_below}
use Rattle.qn_match.proofs.task.tasks_of.Goals as goal

pub index_of-requires : goal.index_of-requires
index_of-requires c = λ k d lt.
    let n = length (get_or c.args.seconds.now k d).tuple in
    subst (All (λ j. j < n)) (sym (c.deref.ensures.value ∙ c.in_ok-second_places.ensures)) (second_places c.args.shared.now n (c.requires.seconds k d lt))

pub key_of-requires : goal.key_of-requires
key_of-requires c =
    let bs = c.args.firsts.now in
    let i = c.loop-i.i in
    let lt : i < length bs = c.loop-i-test.true in
    let tuple : c.as_slice.result.now ≡ (block_at bs i).tuple = c.as_slice.ensures ∙ ap (λ (b : BlockValue). b.tuple) (c.block.view_is ∙ (c.index-firsts-i.is ∙ get_or_default bs i c.index-firsts-i.result no_block lt)) in
    let below = first_places c.args.shared.now (length (block_at bs i).tuple) (c.requires.firsts i no_block lt) in
    subst (λ t. All (λ k. k < length t) c.deref-in-loop-i.result.now) (sym tuple) (subst (All (λ k. k < length (block_at bs i).tuple)) (sym (c.deref-in-loop-i.ensures.value ∙ c.in_ok-places.ensures)) below)

pub bounds-first_lefts-i : goal.bounds-first_lefts-i
bounds-first_lefts-i c =
    let long = ap (λ (ls : List (List ℕ)). length ls) c.requires.first_lefts ∙ length-map c.args.firsts.now (left_of_first c.args.shared.now) in
    omega (arith, long, c.loop-i-test.true)

pub add_row-requires : goal.add_row-requires
add_row-requires c =
    let sh = c.args.shared.now in
    let bs = c.args.seconds.now in
    let key = c.in_ok-key.key.items in
    let found = c.positions_of-found.ensures ∙ c.in_ok-index.ensures key in
    let long = ap (λ (ls : List (List ℕ)). length ls) c.requires.second_lefts ∙ length-map bs (left_of_second sh) in
    record {
      order = subst AreInOrder (sym c.loop-i.invariant) (in_order (λ t. t) (task_so_far sh c.args.firsts.now bs c.loop-i.i) c.args.tuples.now (λ t. refl) c.requires.ascending);
      positions = λ k d lt.
          let below = positions_below (λ j. pointwise nat_eq key (digits_of c.deref.result.now (block_at bs j).tuple)) (length bs) c.positions_of-found.result.now found k d lt in
          omega (arith, below, long);
    }

pub loop-i-preserved : goal.loop-i-preserved
loop-i-preserved c =
    let sh = c.args.shared.now in
    let bs = c.args.firsts.now in
    let ds = c.args.seconds.now in
    let i = c.loop-i.i in
    let lt : i < length bs = c.loop-i-test.true in
    let tuple : c.as_slice.result.now ≡ (block_at bs i).tuple = c.as_slice.ensures ∙ ap (λ (b : BlockValue). b.tuple) (c.block.view_is ∙ (c.index-firsts-i.is ∙ get_or_default bs i c.index-firsts-i.result no_block lt)) in
    let left : c.as_slice-in-loop-i.result.now ≡ first_left sh c.as_slice.result.now =
    c.as_slice-in-loop-i.ensures
    ∙ (c.index-first_lefts-i.is
    ∙ (ap (λ ls. get_or ls i c.index-first_lefts-i.result) c.requires.first_lefts ∙ (get_or-map (left_of_first sh) bs i no_block c.index-first_lefts-i.result lt ∙ ap (first_left sh) (sym tuple)))) in
    let places = c.deref-in-loop-i.ensures.value ∙ c.in_ok-places.ensures in
    let seconds = c.deref.ensures.value ∙ c.in_ok-second_places.ensures in
    let key = c.in_ok-key.ensures ∙ ap (λ ps. digits_of ps c.as_slice.result.now) places in
    let found = c.positions_of-found.ensures ∙ (c.in_ok-index.ensures c.in_ok-key.key.items ∙ ap₂ (λ ps k. positions_with ps ds k) seconds key) in
    c.in_ok-add_row.ensures
    ∙ (ap (map (with_row i c.as_slice-in-loop-i.result.now c.args.second_lefts.now c.positions_of-found.result.now)) c.loop-i.invariant
    ∙ tasks_more sh bs ds i c.as_slice.result.now c.as_slice-in-loop-i.result.now c.args.second_lefts.now c.positions_of-found.result.now c.args.tuples.now tuple left c.requires.second_lefts found)

pub loop-i-init : goal.loop-i-init
loop-i-init c = c.in_ok-tasks.ensures

pub returns : goal.returns
returns c =
    let all : c.loop-i.i ≡ length c.args.firsts.now = omega arith in
    c.loop-i.invariant ∙ ap (λ i. map (task_so_far c.args.shared.now c.args.firsts.now c.args.seconds.now i) c.args.tuples.now) all
