use Rattle.qn_board.proofs.Keeps.{sound_first, sound_acts, sound_runs}
use Rattle.qn_board.proofs.Settles.{next_bound, spent_all, only_one, draws_once, one_transition, decided}
use Rattle.qn_board.proofs.Tried.{worked}
use Rattle.qn_board.proofs.laws.machine_laws.Goals as goal

pub returns : goal.returns
returns c = record {
  starts = sound_first;
  stays = sound_acts;
  runs = sound_runs;
  deterministic = one_transition;
  draws_once = draws_once;
  next = next_bound;
  spent = spent_all;
  whole = only_one;
  finish = decided;
  worked = worked;
}
