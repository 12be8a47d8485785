-- The forms of the values in a document, as tests on its tree.
use Rattle.std.specs.Prelude.{ℕ, ℤ, int_le, List, [], ◌∷◌, length, Bool, false, ◌&&◌, ◌==◌, Option, is_some, is_none, option_map, unwrap_or, bytes_eq}
use Rattle.std.specs.List.{list_all}
use Rattle.std.specs.Option.{option_map_or}
use Rattle.serde_json.specs.Data.{Data}
use Rattle.serde_json.specs.Find.{get, as_bool, as_str}
use Rattle.qn_json.specs.Tree.{list_at, whole_of}

-- the value is there, and has the form
abbrev pub has : (Data → Bool) → Option Data → Bool
has form d = unwrap_or (option_map form d) false

-- there is no member under the key
abbrev pub lacks : List ℕ → Data → Bool
lacks key d = is_none (get key d)

abbrev pub is_whole : Data → Bool
is_whole d = is_some (whole_of d)

-- a whole number from low to high
abbrev pub is_between : ℤ → ℤ → Data → Bool
is_between low high d = option_map_or (λ z. int_le low z && int_le z high) (whole_of d) false

-- true or false
abbrev pub is_flag : Data → Bool
is_flag d = is_some (as_bool d)

-- the text that is this word
abbrev pub is_word : List ℕ → Data → Bool
is_word word d = unwrap_or (option_map (bytes_eq word) (as_str d)) false

-- a list whose members all have the form
abbrev pub is_list : (Data → Bool) → Data → Bool
is_list form d = unwrap_or (option_map (list_all form) (list_at d)) false

abbrev pub is_empty : Data → Bool
is_empty d = option_map_or (λ ds. length ds == 0) (list_at d) false

abbrev pub are_two : (Data → Bool) → (Data → Bool) → List Data → Bool
are_two first second [] = false
are_two first second (x ∷ []) = false
are_two first second (x ∷ y ∷ []) = first x && second y
are_two first second (x ∷ y ∷ z ∷ rest) = false

-- a list of two that have these forms
abbrev pub is_pair : (Data → Bool) → (Data → Bool) → Data → Bool
is_pair first second d = unwrap_or (option_map (are_two first second) (list_at d)) false

-- a list of whole numbers
abbrev pub are_numbers : Data → Bool
are_numbers d = is_list is_whole d
