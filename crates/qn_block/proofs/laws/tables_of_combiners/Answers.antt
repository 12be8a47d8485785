use Rattle.qn_block.proofs.TableRows.{fuse_is_tensor, split_is_tensor, fuse_entries, split_entries, is_matching}
use Rattle.qn_block.proofs.laws.tables_of_combiners.Goals as goal

pub returns : goal.returns
returns c = record { fuse = fuse_is_tensor; split = split_is_tensor; fuse_entries = fuse_entries; split_entries = split_entries; matching = is_matching }
