-- The members of a JSON object (RFC 8259, as serde_json reads it), as a list ascending by key.
use Rattle.std.specs.Prelude.{ℕ, List, [], ◌∷◌, Option, option_map, unwrap_or, is_some, Bool, String, string_bytes}
use Rattle.std.specs.declared.alloc.Global.{Global}
use Rattle.serde_json.specs.Data.{Data, Members, no_members, member}
use Rattle.serde_json.specs.Find.{as_object, as_str}
use Rattle.serde_json.specs.View.{view}
use Rattle.serde_json.specs.declared.value.Value.{Value}

-- a member: its key as bytes, and its value
abbrev pub Named : Type 0
Named = List ℕ × Data

abbrev pub listed_members : Members → List Named
listed_members no_members = []
listed_members (member k d ms) = (k, d) ∷ listed_members ms

-- the members that an object has
abbrev pub members_at : Data → Option (List Named)
members_at d = option_map listed_members (as_object d)

-- the members of an object, and none where it is no object
abbrev pub members : Data → List Named
members d = unwrap_or (members_at d) []

-- an entry of the map that an object is kept in
abbrev pub named : String Global × Value → Named
named e = (string_bytes e.0, view e.1)

abbrev pub is_text : Data → Bool
is_text d = is_some (as_str d)

-- the text, and the empty one where there is none
abbrev pub text_of : Data → List ℕ
text_of d = unwrap_or (as_str d) []
