-- The end of a network's text, with its twisted labels where there are any.
use Rattle.std.proofs.Common.{◌≡◌, ◌<◌, ℤ, List, [], ◌∷◌, ◌++◌, length, codes, Some, refl, sym, ◌∙◌, ap, subst, append_assoc, arith}
use Rattle.std.specs.Prelude.{Result, Ok, Err, OnOk, option_map}
use Rattle.std.proofs.lemmas.List.{nil_from_length}
use Rattle.json.specs.Token.{end_object, key}
use Rattle.json.specs.Written.{Written}
use Rattle.serde_json.specs.Data.{Data, Members, object, member, no_members, put}
use Rattle.qn_json.specs.Appended.{tokens_of, Appends, IsRead}
use Rattle.qn_json.proofs.Appending.{AppendsMembers, and_read, four_read}
use Rattle.qn_doc.specs.NetworkTexts.{labels_data, twist_members, Closes}

-- the tree of a network is read
pub network_read : (q o m : Data) (ls : List ℤ) → IsRead q → IsRead o → IsRead m → IsRead (labels_data ls) → IsRead (object (member (codes "group") q (member (codes "order") o (member (codes "tensors") m (twist_members ls)))))
network_read q o m [] rq ro rm rt =
    ap (option_map object)
    (and_read (codes "group") q (member (codes "order") o (member (codes "tensors") m no_members)) no_members (Some all) rq
    (and_read (codes "order") o (member (codes "tensors") m no_members) (put (codes "group") q no_members) (Some all) ro
    (and_read (codes "tensors") m no_members (put (codes "order") o (put (codes "group") q no_members)) (Some all) rm refl)))
  where
    all : Members
    all = member (codes "group") q (member (codes "order") o (member (codes "tensors") m no_members))
network_read q o m (l ∷ ls) rq ro rm rt = four_read (codes "group") (codes "order") (codes "tensors") (codes "twist") q o m (labels_data (l ∷ ls)) rq ro rm rt refl

-- what closes an object that is written so far
pub closed : {E : Type 0} (r : Result (Unit {0}) E) (d : Data) (left : Members) (start mid new : Written) (T : Type 0) → AppendsMembers d left start mid → (T → IsRead d) → OnOk r (Closes left mid new) → OnOk r T → OnOk r (Appends d start new)
closed (Ok u) d left start mid new T so_far read c t = record { tokens = c.tokens ∙ so_far.tokens; before = c.before ∙ so_far.before; read = read t }
closed (Err e) d left start mid new T so_far read c t = tt
