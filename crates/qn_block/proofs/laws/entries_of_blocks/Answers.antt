use Rattle.qn_block.proofs.Entries.{is_tensor, by_blocks, entry_out_of_range, entry_off_flux}
use Rattle.qn_block.proofs.laws.entries_of_blocks.Goals as goal

pub returns : goal.returns
returns c = record { tensor = is_tensor; by_blocks = by_blocks; out_of_range = entry_out_of_range; off_flux = entry_off_flux }
