use Rattle.std.proofs.Common.{◌≤◌, ◌*◌, sym, ◌∙◌, ap₂, subst, lit<}
use Rattle.std.proofs.lemmas.List.{take_rest}
use Rattle.qn_index.specs.Places.{block_size}
use Rattle.qn_kernel.proofs.Starts.{size_parts, tuple_taken, rest_tuple, parts_small}
use Rattle.qn_kernel.proofs.source.parts_of.Goals as goal

pub block_len-requires : goal.block_len-requires
block_len-requires g c = (
  lit< tt,
  (tuple_taken c.args.split c.args.legs.now c.args.sectors.now c.requires.sectors, (parts_small c.args.split c.args.legs.now c.args.sectors.now 4194304 c.known_all.ensures c.requires.sectors c.requires.size).0),
)

pub block_len-requires-2 : goal.block_len-requires-2
block_len-requires-2 g c = (
  lit< tt,
  rest_tuple c.args.split c.args.legs.now c.args.sectors.now 4194304 _ _ (take_rest c.args.legs.now c.args.split) (take_rest c.args.sectors.now c.args.split) c.known_all.ensures c.requires.sectors c.requires.size,
)

pub returns-clause-whole : goal.returns-clause-whole
returns-clause-whole g c =
    ap₂ ◌*◌ c.block_len.ensures (c.block_len-2.ensures ∙ ap₂ block_size (take_rest c.args.legs.now c.args.split) (take_rest c.args.sectors.now c.args.split))
    ∙ sym (size_parts c.args.split c.args.legs.now c.args.sectors.now c.requires.sectors)

pub returns-clause-few_rows : goal.returns-clause-few_rows
returns-clause-few_rows g c =
    subst (λ n. n ≤ 4194304) (sym c.block_len.ensures) (parts_small c.args.split c.args.legs.now c.args.sectors.now 4194304 c.known_all.ensures c.requires.sectors c.requires.size).0

pub returns-clause-few_cols : goal.returns-clause-few_cols
returns-clause-few_cols g c =
    subst (λ n. n ≤ 4194304) (sym (c.block_len-2.ensures ∙ ap₂ block_size (take_rest c.args.legs.now c.args.split) (take_rest c.args.sectors.now c.args.split)))
    (parts_small c.args.split c.args.legs.now c.args.sectors.now 4194304 c.known_all.ensures c.requires.sectors c.requires.size).1
