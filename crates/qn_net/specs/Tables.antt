-- A table of the legs of a network by their labels.
use Rattle.std.specs.Prelude.{◌≡◌, ◌<◌, ℕ, ◌+◌, ◌*◌, pos, unsigned_abs, Bool, true, false, List, length, slice_index_or}
use Rattle.qn_value.specs.Networks.{End}
use Rattle.qn_value.specs.Labels.{is_positive}
use Rattle.qn_net.specs.Refusals.{IsLabel, tally}

abbrev pub digit : Bool → ℕ
digit true = 1
digit false = 0

-- the cell of an end of a line
abbrev pub cell : End → ℕ
cell e = 4 * unsigned_abs e.label + (2 * digit (is_positive e.label) + digit e.inward)

abbrev pub no_end : End
no_end = record { label = pos 0; inward = true }

abbrev pub end_at : List End → ℕ → End
end_at es i = slice_index_or es i no_end

abbrev pub HasLabel : End → Type 0
HasLabel e = IsLabel e.label

-- for each end of a line, how many of the legs counted so far are this end, and where one of them stands among all
pub record IsFilled (all counted_so_far : List End) (counts spots : List ℕ) : Type 0 where
  pub size : length counts ≡ 4100
  pub room : length spots ≡ 4100
  pub counted : (e : End) → IsLabel e.label → slice_index_or counts (cell e) 0 ≡ tally e counted_so_far
  pub spotted : (e : End) → IsLabel e.label → 0 < tally e counted_so_far → (slice_index_or spots (cell e) 0 < length all) × (end_at all (slice_index_or spots (cell e) 0) ≡ e)
