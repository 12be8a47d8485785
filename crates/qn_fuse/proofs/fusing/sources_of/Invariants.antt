use Rattle.std.proofs.Common.{◌≡◌, map, take}
use Rattle.std.specs.List.{All}
use Rattle.qn_index.specs.Places.{block_size}
use Rattle.qn_fuse.specs.Pieces.{source, IsSource}
use Rattle.qn_fuse.proofs.fusing.sources_of.Given as goal

abbrev pub invariant-loop-start : goal.invariant-loop-start
invariant-loop-start g l = record {
  value : l.sources.items ≡ map (λ s. source l.t l.first l.before l.behind s.tuple) (take l.start-index l.starts);
  rows : All (IsSource (block_size (take l.first l.t.legs) l.before)) l.sources.items;
}
