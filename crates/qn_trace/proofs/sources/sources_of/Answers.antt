use Rattle.std.proofs.Common.{rules, ◌≡◌, ◌∙◌, ap, sym, subst, get_or, None, Some, ◌++◌, ◌∷◌, [], set, ◌+◌}
use Rattle.std.proofs.lemmas.List.{get_or_default}
use Rattle.qn_trace.specs.Sources.{IsReadable, source_of, IsNumberOf}
use Rattle.qn_trace.proofs.Numbering.{open_in, AreSorted, sorted_passed, sorted_more}
use Rattle.qn_trace.proofs.sources.sources_of.Goals as goal
use Rattle.qn_trace.proofs.sources.sources_of.Goals.{in-None, in-Some+in_ok-source-in-Some+in_ok-add_source-in-Some}

pub number_of-requires-clause-within : goal.number_of-requires-clause-within
number_of-requires-clause-within g c =
    let readable : IsReadable c.args.legs.now c.block-item.result = subst (IsReadable c.args.legs.now) (sym c.block-item.is) (c.requires.blocks c.loop-block.block-index c.block-item.result c.loop-block-test.true) in
    open_in c.args.legs.now c.args.couples.now c.args.places.now c.block-item.result.tuple c.requires.places readable.0

pub loop-block-preserved : goal.loop-block-preserved
loop-block-preserved g c =
    let fs = c.args.group.now in
    let ls = c.args.legs.now in
    let cs = c.args.couples.now in
    let rs = c.args.left.now in
    let ts = c.args.tuples.now in
    let bs = c.args.blocks.now in
    let i = c.loop-block.block-index in
    let b = c.block-item.result in
    elim c.match-branch-3.branch [
      | in-None w ↦
          let number : IsNumberOf cs c.args.places.now ts b None = subst (IsNumberOf cs c.args.places.now ts b) w.in-None.is c.in_ok-number_of.ensures in
          let same : c.match-branch-3.gathered.items ≡ c.loop-block.gathered.items = search (rules, w.gathered-is) in
          subst (AreSorted fs ls cs rs ts bs (i + 1)) (sym same) (sorted_passed fs ls cs rs ts bs i b c.loop-block.gathered.items c.args.places.now c.loop-block-test.true c.block-item.is c.requires.places number c.loop-block.invariant)
      | in-Some+in_ok-source-in-Some+in_ok-add_source-in-Some w ↦
          let n = w.in-Some.number in
          let x = w.in_ok-source-in-Some.source in
          let number : IsNumberOf cs c.args.places.now ts b (Some n) = subst (IsNumberOf cs c.args.places.now ts b) w.in-Some.is c.in_ok-number_of.ensures in
          let sectors : w.as_slice-sectors.result.now ≡ get_or ts n [] = w.as_slice-sectors.ensures ∙ w.index-tuples-number.is ∙ get_or_default ts n w.index-tuples-number.result [] number.0 in
          let made : x ≡ source_of fs ls cs rs (get_or ts n []) b = w.in_ok-source-in-Some.ensures.value ∙ ap (λ ss. source_of fs ls cs rs ss b) sectors in
          let added : w.add_source.new.gathered.items ≡ set c.loop-block.gathered.items n (get_or c.loop-block.gathered.items n [] ++ x ∷ []) = search (rules, w.in_ok-add_source-in-Some.ensures) in
          let same : c.match-branch-3.gathered.items ≡ w.add_source.new.gathered.items = search (rules, w.gathered-is) in
          subst (AreSorted fs ls cs rs ts bs (i + 1)) (sym same)
          (sorted_more fs ls cs rs ts bs i b c.loop-block.gathered.items w.add_source.new.gathered.items c.args.places.now n x c.loop-block-test.true c.block-item.is c.requires.places number made w.in_ok-source-in-Some.ensures.small added c.loop-block.invariant)
    ]
