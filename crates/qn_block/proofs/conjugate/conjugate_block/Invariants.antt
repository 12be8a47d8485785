use Rattle.std.proofs.Common.{◌≡◌, ◌<◌, ℕ, List, length, get_or, reverse}
use Rattle.qn_gauss.specs.Gaussian.{zero_g, conj_g}
use Rattle.qn_index.specs.Places.{IsInner, offset_of}
use Rattle.qn_block.specs.Blocked.{conjugate_legs}
use Rattle.qn_block.proofs.conjugate.conjugate_block.Given as goal

abbrev pub invariant-loop-place : goal.invariant-loop-place
invariant-loop-place g l = record {
  count : length l.entries.items ≡ l.place;
  entries : (p : ℕ) → p < l.place → (os : List ℕ) → IsInner l.legs l.block.tuple os → p ≡ offset_of (conjugate_legs l.legs) (reverse l.block.tuple) (reverse os) → get_or l.entries.items p zero_g ≡ conj_g (get_or l.block.entries (offset_of l.legs l.block.tuple os) zero_g);
}
