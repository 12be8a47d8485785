use Rattle.std.proofs.Common.{◌≡◌, not, List, ap, subst, filter, int_eq}
use Rattle.std.proofs.lemmas.List.Elements.{filter_agree}
use Rattle.qn_sign.specs.Sign.{is_in, IsDistinct}
use Rattle.qn_value.specs.Networks.{Node, Bond, same_end, word, pairs_of, labels, kept as kept_legs, AreWithin}
use Rattle.qn_sign.proofs.SignLaws.{IsKept}
use Rattle.qn_sign.proofs.Members.{perm_pick, before-filter}
use Rattle.qn_value.proofs.NetLaws.{end_test, ends-labels}

-- the legs that a contraction keeps

kept_is : (ns : List Node) (bs : List Bond) → filter (λ e. not (is_in same_end e (pairs_of bs))) (word ns) ≡ kept_legs ns bs
kept_is ns bs = filter_agree (λ e. not (is_in same_end e (pairs_of bs))) (λ e. not (is_in int_eq e.label (labels bs))) (λ e. ap not (ends-labels e bs)) (word ns)

pub kept_from : (ns : List Node) (bs : List Bond) → IsDistinct same_end (word ns) → IsDistinct same_end (pairs_of bs) → AreWithin bs ns →
    IsKept same_end end_test (word ns) (pairs_of bs) (kept_legs ns bs)
kept_from ns bs dw db h = subst (IsKept same_end end_test (word ns) (pairs_of bs)) (kept_is ns bs) (record {
  perm = perm_pick same_end end_test (word ns) (pairs_of bs) dw db h;
  order = λ x y k l. before-filter same_end end_test (λ e. not (is_in same_end e (pairs_of bs))) x y (word ns) (ap not k) (ap not l);
})
