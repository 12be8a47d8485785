-- What a command comes to: a text, or the document's first fault, or the first step that passes.
use Rattle.std.specs.Prelude.{ℕ, List}
use Rattle.qn_parts.specs.declared.fault.Fault.{Fault}

pub data Outcome : Type 0 where
  -- the document's first fault
  refused : Fault → Outcome
  -- a sum of magnitudes passes the limit, first at this step, tuple and offset
  passed : ℕ → List ℕ → ℕ → Outcome
  -- this text is the answer
  answered : List ℕ → Outcome

-- the most bytes of a document
abbrev pub most_bytes : ℕ
most_bytes = 67108864
