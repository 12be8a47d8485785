-- The tree of a JSON text (RFC 8259, as serde_json reads it): lists of items, and members by their keys.
use Rattle.std.specs.Prelude.{ℕ, ℤ, pos, List, [], ◌∷◌, Bool, false, Option, Some, None, option_map, option_and_then, unwrap_or, if◌then◌else◌}
use Rattle.std.specs.Str.{is_utf8}
use Rattle.serde_json.specs.Data.{Data, Items, no_items, item, null}
use Rattle.serde_json.specs.Read.{read}
use Rattle.serde_json.specs.Find.{get, as_bool, as_number, as_i64, as_array}

-- the tree that serde_json reads, and none where it refuses the bytes
abbrev pub tree_of : List ℕ → Option Data
tree_of bytes = if is_utf8 bytes then read bytes else None

-- the items of an array, as a list
abbrev pub listed : Items → List Data
listed no_items = []
listed (item d ds) = d ∷ listed ds

-- the list that an array is
abbrev pub list_at : Data → Option (List Data)
list_at d = option_map listed (as_array d)

-- the items of an array, and none where it is no array
abbrev pub items : Data → List Data
items d = unwrap_or (list_at d) []

-- the member under the key, and null where there is none
abbrev pub member_of : List ℕ → Data → Data
member_of key d = unwrap_or (get key d) null

-- a whole number: a JSON number that serde_json gives as a signed 64-bit number
abbrev pub whole_of : Data → Option ℤ
whole_of d = option_and_then as_i64 (as_number d)

-- the whole number, and 0 where there is none
abbrev pub whole : Option Data → ℤ
whole d = unwrap_or (option_and_then whole_of d) (pos 0)

-- true or false, and false where it is neither
abbrev pub flag : Option Data → Bool
flag d = unwrap_or (option_and_then as_bool d) false
