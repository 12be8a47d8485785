use Rattle.std.proofs.Common.{◌≡◌, ◌<◌, ℕ, List, sym, ap₂, subst, length, slice_index_or}
use Rattle.qn_value.specs.Networks.{End}
use Rattle.qn_net.specs.Refusals.{tally}
use Rattle.qn_net.specs.Tables.{cell, end_at, IsFilled}
use Rattle.qn_net.proofs.table.LabelTable.spot.Goals as goal

-- where the end stands among these legs
there : (es fs : List End) (counts spots ns : List ℕ) (e : End) (k : ℕ) → IsFilled es es counts spots → ns ≡ spots → k ≡ cell e → es ≡ fs →
    ((IsFilled es es counts spots) → (slice_index_or spots (cell e) 0 < length es) × (end_at es (slice_index_or spots (cell e) 0) ≡ e)) →
    (slice_index_or ns k 0 < length fs) × (end_at fs (slice_index_or ns k 0) ≡ e)
there es fs counts spots ns e k f p q r h =
    subst (λ (xs : List End). (slice_index_or ns k 0 < length xs) × (end_at xs (slice_index_or ns k 0) ≡ e)) r
    (subst (λ (n : ℕ). (n < length es) × (end_at es n ≡ e)) (sym (ap₂ (λ (ms : List ℕ) (j : ℕ). slice_index_or ms j 0) p q)) (h f))

pub returns-clause-within : goal.returns-clause-within
returns-clause-within c =
    (there c.self.inside.ends.items c.args.self.now c.self.inside.counts.items c.self.inside.spots.items c.as_slice-spots.result.now c.args.end c.cell_of.result c.self.invariant.1
    c.as_slice-spots.ensures.value c.cell_of.ensures.cell c.self.view_is
    (λ f. f.spotted c.args.end c.requires.label (subst (λ (es : List End). 0 < tally c.args.end es) (sym c.self.view_is) c.requires.stands))).0

pub returns-clause-here : goal.returns-clause-here
returns-clause-here c =
    (there c.self.inside.ends.items c.args.self.now c.self.inside.counts.items c.self.inside.spots.items c.as_slice-spots.result.now c.args.end c.cell_of.result c.self.invariant.1
    c.as_slice-spots.ensures.value c.cell_of.ensures.cell c.self.view_is
    (λ f. f.spotted c.args.end c.requires.label (subst (λ (es : List End). 0 < tally c.args.end es) (sym c.self.view_is) c.requires.stands))).1
