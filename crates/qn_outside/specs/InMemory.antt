-- A source and a sink in memory, and what one read or write makes of them.
use Rattle.std.specs.Prelude.{ℕ, ◌+◌, ◌-◌, ◌^◌, min, List, ◌++◌, Bool, ◌&&◌, ◌||◌, ◌==◌, nat_lt, length, take, drop, if◌then◌else◌}
use Rattle.std.specs.List.{list_any}
use Rattle.qn_outside.specs.Faults.{count_after}

-- the bytes left, the most that a read gives, the numbers of the reads that fail, the reads so far, the failed ones among them
pub record SourceState : Type 0 where
  pub left : List ℕ
  pub piece : ℕ
  pub failing : List ℕ
  pub calls : ℕ
  pub faults : ℕ

-- the call after so many calls fails by its number; after 2^64 - 1 calls none does
abbrev pub is_listed : List ℕ → ℕ → Bool
is_listed failing calls = nat_lt calls (2 ^ 64 - 1) && list_any (λ n. n == calls + 1) failing

-- the next read fails
abbrev pub read_fails : SourceState → Bool
read_fails s = is_listed s.failing s.calls

-- how many bytes a read into a buffer of this length gives
abbrev pub given : SourceState → ℕ → ℕ
given s room = min (min room s.piece) (length s.left)

-- the source after a read into a buffer of this length
abbrev pub after_read : SourceState → ℕ → SourceState
after_read s room =
    if read_fails s then record s { calls = count_after s.calls; faults = count_after s.faults }
    else record s { calls = count_after s.calls; left = drop (given s room) s.left }

-- the bytes held, the free room, the most that a write takes, the numbers of the writes that fail, the writes so far, the failed ones among them
pub record SinkState : Type 0 where
  pub held : List ℕ
  pub room : ℕ
  pub piece : ℕ
  pub failing : List ℕ
  pub calls : ℕ
  pub faults : ℕ

-- a write fails where it is listed, and where a piece that isn't empty finds no free room
abbrev pub write_fails : SinkState → List ℕ → Bool
write_fails s bytes = is_listed s.failing s.calls || (s.room == 0 && nat_lt 0 (length bytes))

-- how many bytes of the piece a write takes
abbrev pub taken : SinkState → List ℕ → ℕ
taken s bytes = min (min s.room s.piece) (length bytes)

-- the sink after a write of this piece
abbrev pub after_write : SinkState → List ℕ → SinkState
after_write s bytes =
    if write_fails s bytes then record s { calls = count_after s.calls; faults = count_after s.faults }
    else record s { calls = count_after s.calls; held = s.held ++ take (taken s bytes) bytes; room = s.room - taken s bytes }
