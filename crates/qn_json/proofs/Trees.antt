-- The bytes of a document beside its tree.
use Rattle.std.proofs.Common.{◌≡◌, List, ℕ, Bool, true, false, Some, None, cond, refl}
use Rattle.std.specs.Str.{is_utf8, IsUtf8}
use Rattle.std.proofs.lemmas.Str.{IsUtf8-from_is_utf8, is_utf8-from_IsUtf8}
use Rattle.serde_json.specs.Data.{Data}
use Rattle.serde_json.specs.Read.{read}
use Rattle.qn_json.specs.Tree.{tree_of}

pub tree_found : (bytes : List ℕ) (d : Data) → IsUtf8 bytes → read bytes ≡ Some d → tree_of bytes ≡ Some d
tree_found bytes d utf8 e = rw (is_utf8-from_IsUtf8 bytes utf8) e

none_where : (bytes : List ℕ) (b : Bool) → is_utf8 bytes ≡ b → (IsUtf8 bytes → read bytes ≡ None) → cond b (read bytes) None ≡ None
none_where bytes true e h = h (IsUtf8-from_is_utf8 bytes e)
none_where bytes false e h = refl

pub tree_none : (bytes : List ℕ) → (IsUtf8 bytes → read bytes ≡ None) → tree_of bytes ≡ None
tree_none bytes h = none_where bytes (is_utf8 bytes) refl h
