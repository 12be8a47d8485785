use Rattle.std.proofs.Common.{arith, ◌≡◌, ◌∙◌, ◌≤◌, ◌^◌, ap, sym, subst, length, lit<, drop, List}
use Rattle.qn_index.specs.Weights.{WeightValue, weight, spread, IsRow}
use Rattle.std.proofs.lemmas.List.{length-drop}
use Rattle.std.specs.List.{All}
use Rattle.qn_index.specs.Tuples.{upward}
use Rattle.qn_index.specs.Extents.{capped}
use Rattle.qn_index.specs.Legs.{LegValue, IsLegOf}
use Rattle.qn_index.proofs.Counts.{rows_few, table_first}
use Rattle.qn_index.proofs.table.with_first.Goals as goal

pub spread-requires : goal.spread-requires
spread-requires g c =
    let fs = c.args.group.now in
    let ls = c.args.legs.now in
    let few : length (drop 1 ls) ≤ 63 = omega (arith, length-drop 1 ls, c.requires.few) in
    (lit< tt, (lit< tt, (lit< tt, (subst (λ (l : LegValue). IsLegOf fs l) (sym c.index-legs-0.is) (c.requires.group 0 c.index-legs-0.result c.requires.some), subst (λ (ws : List WeightValue). All (IsRow 63000000000 fs) ws) (sym c.rows-rows.ensures) (rows_few fs (drop 1 ls) c.args.table.now few c.requires.table.rows)))))

pub returns : goal.returns
returns g c =
    let fs = c.args.group.now in
    let ls = c.args.legs.now in
    let l = c.index-legs-0.result in
    let ws = c.args.table.now in
    let wide : c.in_ok-wide.wide.items ≡ spread fs l ws (upward 0 (length l.sectors)) = c.in_ok-wide.ensures ∙ ap (λ (vs : List WeightValue). spread fs l vs (upward 0 (length l.sectors))) c.rows-rows.ensures in
    let sorted = c.deref.ensures.value in
    table_first fs ls l ws c.in_ok-wide.wide.items c.sort_unstable.new.self.items c.in_ok-all.all c.known.ensures.group c.requires.some c.index-legs-0.is
    (subst (λ (k : LegValue). IsLegOf fs k) (sym c.index-legs-0.is) (c.requires.group 0 l c.requires.some)) c.requires.table wide c.sort_unstable.ensures.permutation
    (λ q. c.in_ok-all.ensures.weights q ∙ ap (λ (vs : List WeightValue). capped (2 ^ 22) (weight vs q)) sorted)
    (λ n fs' a. c.in_ok-all.ensures.rows n fs' (subst (λ (vs : List WeightValue). All (IsRow n fs') vs) (sym sorted) a))
