-- An entry in a document: its form, and the Gaussian integer that it stands for.
use Rattle.std.specs.Prelude.{ℕ, ◌+◌, ℤ, pos, neg_ℤ, unsigned_abs, List, [], ◌∷◌, Bool, ◌&&◌, ◌||◌, ◌==◌, nat_lt, nat_le, is_some, if◌then◌else◌, Option, Some, None, option_and_then, bytes_eq}
use Rattle.std.specs.Fmt.{signed_decimal}
use Rattle.std.specs.Option.{option_or, option_map_or}
use Rattle.std.specs.Str.Parse.{digits_value}
use Rattle.serde_json.specs.Data.{Data}
use Rattle.serde_json.specs.Find.{as_str}
use Rattle.qn_gauss.specs.Gaussian.{Gaussian, limit}
use Rattle.qn_json.specs.Forms.{is_list, is_pair, is_whole}
use Rattle.qn_json.specs.Tree.{list_at, whole_of}

-- a part: a whole number, or a text that should be a decimal
abbrev pub is_part : Data → Bool
is_part d = is_whole d || is_some (as_str d)

-- an entry: a part, or a list of two
abbrev pub is_entry : Data → Bool
is_entry d = is_part d || is_pair is_part is_part d

-- the number that the digits say, negative behind a `-`
abbrev pub digits_number : List ℕ → ℤ
digits_number [] = pos 0
digits_number (b ∷ ds) = if b == 45 then neg_ℤ (pos (digits_value 10 ds)) else pos (digits_value 10 (b ∷ ds))

-- the number, where the bytes are its decimal
abbrev pub number_written : List ℕ → ℤ → Option ℤ
number_written bytes x = if nat_le (unsigned_abs x) limit && bytes_eq (signed_decimal x) bytes then Some x else None

-- the whole number of size at most 2^127 - 1 whose decimal the bytes are
unfoldable pub decimal_of : List ℕ → Option ℤ
decimal_of bytes = number_written bytes (digits_number bytes)

-- the Gaussian integer, where its magnitude is at most 2^127 - 1
unfoldable pub gauss_of : ℤ → ℤ → Option Gaussian
gauss_of re im = if nat_lt limit (unsigned_abs re + unsigned_abs im) then None else Some (record { re = re; im = im })

-- the number that a part stands for
abbrev pub part_of : Data → Option ℤ
part_of d = option_or (whole_of d) (option_and_then decimal_of (as_str d))

-- the real part, then the imaginary part
abbrev pub of_two : List Data → Option Gaussian
of_two [] = None
of_two (x ∷ []) = None
of_two (x ∷ y ∷ []) = option_and_then (λ re. option_and_then (gauss_of re) (part_of y)) (part_of x)
of_two (x ∷ y ∷ z ∷ rest) = None

-- the entry that is meant: a part alone is the real part. None exactly where a text is no decimal or the magnitude is too great
unfoldable pub entry_of : Data → Option Gaussian
entry_of d = option_map_or of_two (list_at d) (option_and_then (λ re. gauss_of re (pos 0)) (part_of d))

-- a list of entries
abbrev pub are_entries : Data → Bool
are_entries d = is_list is_entry d
