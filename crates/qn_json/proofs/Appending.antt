-- Lists and objects that are written a token at a time.
use Rattle.std.proofs.Common.{◌≡◌, ℕ, List, [], ◌∷◌, ◌++◌, map, Option, Some, refl, ap, ◌∙◌, append_assoc}
use Rattle.std.specs.Prelude.{option_map, option_and_then}
use Rattle.json.specs.Token.{Token, begin_array, end_array, begin_object, end_object, key}
use Rattle.json.specs.Tree.{items_tokens, members_tokens}
use Rattle.json.specs.Written.{Written}
use Rattle.serde_json.specs.Data.{Data, item, array, Members, no_members, member, object, put}
use Rattle.serde_json.specs.View.{items_of}
use Rattle.serde_json.specs.Read.{of_items, of_members}
use Rattle.serde_json.specs.Written.{items_outline, members_outline}
use Rattle.qn_json.specs.Texts.{list_data}
use Rattle.qn_json.specs.Appended.{tokens_of, IsRead, Appends}

-- the tokens of the items that are left, with the closing bracket
abbrev pub left_tokens : {A : Type 0} → (A → Data) → List A → List Token
left_tokens f xs = items_tokens (items_outline (items_of (map f xs)))

abbrev pub AreRead : {A : Type 0} → (A → Data) → List A → Type 0
AreRead f xs = of_items (items_outline (items_of (map f xs))) ≡ Some (items_of (map f xs))

-- of the list `all` the items up to `left` were written
pub record AppendsUpTo {A : Type 0} (f : A → Data) (all left : List A) (old new : Written) : Type 0 where
  pub tokens : new.tokens ++ left_tokens f left ≡ old.tokens ++ tokens_of (list_data (map f all))
  pub before : new.before ≡ old.before
  pub read : AreRead f left → AreRead f all

-- ---- objects

-- of the object `d` the members up to `left` were written
pub record AppendsMembers (d : Data) (left : Members) (old new : Written) : Type 0 where
  pub tokens : new.tokens ++ members_tokens (members_outline left) ≡ old.tokens ++ tokens_of d
  pub before : new.before ≡ old.before

pub opens : (ms : Members) (old new : Written) → new.tokens ≡ old.tokens ++ begin_object ∷ [] → new.before ≡ old.before → AppendsMembers (object ms) ms old new
opens ms old new tokens before = record {
  tokens = ap (λ ts. ts ++ members_tokens (members_outline ms)) tokens ∙ append_assoc old.tokens (begin_object ∷ []) (members_tokens (members_outline ms));
  before = before;
}

pub adds : (d : Data) (k : List ℕ) (e : Data) (left : Members) (old mid named new : Written) → AppendsMembers d (member k e left) old mid → named.tokens ≡ mid.tokens ++ key k ∷ [] → named.before ≡ mid.before
    → Appends e named new → AppendsMembers d left old new
adds d k e left old mid named new so_far tokens before one =
    let rest = members_tokens (members_outline left) in record {
      tokens = ap (λ ts. ts ++ rest) one.tokens ∙ append_assoc named.tokens (tokens_of e) rest ∙ ap (λ ts. ts ++ (tokens_of e ++ rest)) tokens ∙ append_assoc mid.tokens (key k ∷ []) (tokens_of e ++ rest) ∙ so_far.tokens;
      before = one.before ∙ before ∙ so_far.before;
    }

pub closes : (d : Data) (old mid new : Written) → AppendsMembers d no_members old mid → new.tokens ≡ mid.tokens ++ end_object ∷ [] → new.before ≡ mid.before → IsRead d → Appends d old new
closes d old mid new so_far tokens before read = record { tokens = tokens ∙ so_far.tokens; before = before ∙ so_far.before; read = read }

-- a member is read, and then those that follow
pub and_read : (k : List ℕ) (d : Data) (left found : Members) (all : Option Members) → IsRead d → of_members (members_outline left) (put k d found) ≡ all → of_members (members_outline (member k d left)) found ≡ all
and_read k d left found all read rest = ap (option_and_then (λ e. of_members (members_outline left) (put k e found))) read ∙ rest

-- an object of four members, whose keys ascend
pub four_read : (j k m n : List ℕ) (a b d e : Data) → IsRead a → IsRead b → IsRead d → IsRead e
    → put n e (put m d (put k b (put j a no_members))) ≡ member j a (member k b (member m d (member n e no_members)))
    → IsRead (object (member j a (member k b (member m d (member n e no_members)))))
four_read j k m n a b d e ra rb rd re ascend =
    let last = member n e no_members in
    let third = member m d last in
    let second = member k b third in
    let one = put j a no_members in
    let two = put k b one in
    let three = put m d two in
    let all = Some (member j a second) in
    ap (option_map object)
    (and_read j a second no_members all ra (and_read k b third one all rb (and_read m d last two all rd (and_read n e no_members three all re (ap Some ascend)))))
