-- Texts that are written: compact JSON, the keys of each object ascending, one line with a newline.
use Rattle.std.specs.Prelude.{ℕ, ℤ, List, [], ◌∷◌, ◌++◌, map}
use Rattle.std.specs.Fmt.{signed_decimal}
use Rattle.serde_json.specs.Data.{Data, number, unsigned, string, array, item, no_items}
use Rattle.serde_json.specs.Find.{of_integer}
use Rattle.serde_json.specs.View.{items_of}
use Rattle.serde_json.specs.Written.{compact_text}
use Rattle.qn_gauss.specs.Gaussian.{Gaussian}

-- the compact text and a newline
abbrev pub line_of : Data → List ℕ
line_of d = compact_text d ++ 10 ∷ []

-- an entry: ["re","im"], both parts as decimals
abbrev pub entry_data : Gaussian → Data
entry_data z = array (item (string (signed_decimal z.re)) (item (string (signed_decimal z.im)) no_items))

-- a list of entries
abbrev pub entries_data : List Gaussian → Data
entries_data zs = array (items_of (map entry_data zs))

-- a list
abbrev pub list_data : List Data → Data
list_data ds = array (items_of ds)

-- a whole number that is not negative
abbrev pub count_data : ℕ → Data
count_data n = number (unsigned n)

-- a whole number
abbrev pub whole_data : ℤ → Data
whole_data z = number (of_integer z)
