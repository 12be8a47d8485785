use Rattle.std.proofs.Common.{rules, ◌≡◌, ◌∙◌, ◌++◌, ◌∷◌, [], ap, sym, subst, take}
use Rattle.std.specs.List.{All}
use Rattle.qn_index.specs.Places.{block_size}
use Rattle.qn_strides.proofs.Striding.{all_last}
use Rattle.qn_block.specs.Combiners.{StartValue}
use Rattle.qn_fuse.specs.Pieces.{IsSource, source}
use Rattle.qn_fuse.proofs.Loops.{map_more}
use Rattle.qn_fuse.proofs.fusing.sources_of.Goals as goal

pub loop-start-preserved : goal.loop-start-preserved
loop-start-preserved g c =
    let t = c.args.t.now in
    let x = c.in_ok-source_of.field-0 in
    let pushed : c.push.new.self.items ≡ c.loop-start.sources.items ++ x ∷ [] = search rules in
    record {
      value = map_more (λ (s : StartValue). source t c.args.first c.args.before.now c.args.behind.now s.tuple) c.args.starts.now c.loop-start.start-index c.start-item.result x c.loop-start.sources.items c.push.new.self.items
          c.loop-start-test.true c.start-item.is c.loop-start.invariant.value pushed (c.in_ok-source_of.ensures.value ∙ ap (source t c.args.first c.args.before.now c.args.behind.now) c.tuple.ensures);
      rows = subst (All (IsSource (block_size (take c.args.first t.legs) c.args.before.now))) (sym pushed)
          (all_last (IsSource (block_size (take c.args.first t.legs) c.args.before.now)) c.loop-start.sources.items x c.loop-start.invariant.rows c.in_ok-source_of.ensures.rows);
    }
