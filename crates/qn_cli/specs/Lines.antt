-- The lines that tell on the error sink how a call ended.
use Rattle.std.specs.Prelude.{◌⊎◌, ℕ, List, [], ◌∷◌, ◌++◌, take, Bool, true, false, Option, codes, decimal}
use Rattle.std.specs.Fmt.{signed_decimal}
use denote.Bor.{Bor}
use Rattle.serde_json.specs.Written.{comma_if}
use Rattle.std.specs.Io.KnownBytes.{Appends}
use Rattle.qn_outside.specs.Faults.{Rose}
use Rattle.qn_parts.specs.declared.fault.Fault.{Fault}
use Rattle.qn_cli.specs.declared.status.Status.{Status}
use Rattle.qn_cli.specs.declared.status.Status.TheVariants.{Done, Usage, Malformed, Passed, ReadFault, WriteFault, Memory}

-- pieces, one after another
abbrev pub joined : List (Bor (List ℕ)) → List ℕ
joined [] = []
joined (p ∷ ps) = p.now ++ joined ps

-- numbers with a comma before each but the first
abbrev pub numbers_after : Bool → List ℕ → List ℕ
numbers_after later [] = []
numbers_after later (n ∷ ns) = comma_if later ++ (decimal n ++ numbers_after true ns)

-- qntn: malformed F16 tensor 2 part 1 item 0
abbrev pub fault_line : Fault → List ℕ
fault_line f =
    codes "qntn: malformed F" ++ (decimal f.code ++ (codes " tensor " ++ (decimal f.tensor ++ (codes " part " ++ (decimal f.part
    ++ (codes " item " ++ (signed_decimal f.item ++ codes "\n")))))))

-- qntn: passed step 1 at [1,1] offset 0
abbrev pub passed_line : ℕ → List ℕ → ℕ → List ℕ
passed_line step at offset =
    (codes "qntn: passed step " ++ (decimal step ++ codes " at [")) ++ (numbers_after false at ++ (codes "] offset " ++ (decimal offset ++ codes "\n")))

-- qntn: usage word 2
abbrev pub usage_line : ℕ → List ℕ
usage_line word = codes "qntn: usage word " ++ (decimal word ++ codes "\n")

-- the line of a status
abbrev pub line_of : Status → List ℕ
line_of Done = []
line_of (Usage word) = usage_line word
line_of (Malformed f) = fault_line f
line_of (Passed step at offset) = passed_line step at offset
line_of ReadFault = codes "qntn: read fault\n"
line_of WriteFault = codes "qntn: write fault\n"
line_of Memory = codes "qntn: memory\n"

-- a part from the front was taken
abbrev pub AppendsFront : Option (List ℕ) → Option (List ℕ) → List ℕ → Type 0
AppendsFront old new line = (n : ℕ) × Appends old new (take n line)

-- the whole line was taken, or a part from its front and the sink's count of faults rose
abbrev pub TellsLine : Option (List ℕ) → Option (List ℕ) → ℕ → ℕ → List ℕ → Type 0
TellsLine old new before now line = Appends old new line ⊎ (Rose before now × AppendsFront old new line)
