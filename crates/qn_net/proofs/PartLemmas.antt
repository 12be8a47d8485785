-- What the steps make of a group is the contraction of its tensors.
use Rattle.std.proofs.Common.{◌≡◌, Bool, true, false, ◌&&◌, List, [], ◌∷◌, ◌++◌, refl, sym, ◌∙◌, ap, ap₂, subst, subst₂, map, cond, append-nil, append_assoc, nat_lt}
use mathlib.Core.Path.{fun_ext}
use Rattle.std.proofs.lemmas.Bool.{or_left}
use Rattle.qn_sign.specs.Sign.{exchanges, is_in, is_odd, xor, IsDistinct, Perm}
use Rattle.qn_sign.specs.Sign.Perm.{none, keep, swap, then_by}
use Rattle.qn_gauss.specs.Gaussian.{Gaussian, signed}
use Rattle.qn_gauss.specs.Gaussian.{mul_g}
use Rattle.qn_value.specs.Networks.{End, Node, Bond, Assignment, sums, same_end, word, pairs_of, goal, odd_end, twist_sign, sign, values, product, flat, contract, kept as kept_legs, IsNetwork, AreHomogeneous, Parities}
use Rattle.qn_net.specs.Groups.{Listed, TensorGroup, tensors, place_member, merged, joined, closed}
use Rattle.qn_net.specs.Parts.{part, IsMadeAsPart}
use Rattle.qn_sign.proofs.Parity.{perm-refl, perm-sym, perm_under, perm_before, perm_blocks}
use Rattle.qn_sign.proofs.Order.{is_in-append, is_in-perm, distinct-perm, distinct_first, distinct_second}
use Rattle.qn_sign.proofs.Members.{perm_cancel}
use Rattle.qn_value.proofs.Sums.{perm-map}
use Rattle.qn_value.proofs.KeptLemmas.{kept_from}
use Rattle.qn_value.proofs.NetLaws.{end_test, word-append, product-append, signed-xor, signed-mul, mul-signed, sums-signed, pairs_of-append}
use Rattle.qn_value.proofs.ExchangeLaw.{exchange_law}
use Rattle.qn_value.proofs.Steps.{any_block_value, perm_word, moved_network}
use Rattle.qn_net.proofs.Homogeneous.{homogeneous-append}
use Rattle.qn_value.proofs.OrderLaws.{contract_at, opens_law}
pub use Rattle.qn_gauss.proofs.Signs.{signed-comm}
pub use Rattle.qn_gauss.proofs.Signs.{signed-twice}
use Rattle.std.proofs.lemmas.List.{map-append}
pub use Rattle.std.proofs.lemmas.List.{map-append}

-- a tensor that has the values of a sub-network, up to one sign, gives way to it

module _ (par : Parities) (pre : List Node) (x : Node) (post ts : List Node) (inner rest : List Bond) (opens : List End) (s : Bool)
    (whole : Perm (word ts) (pairs_of inner ++ x.ends)) (value : (a : Assignment) → x.entry (values x.ends a) ≡ signed s (flat par ts inner x.ends a))
    (net : IsNetwork (pre ++ (x ∷ post)) rest opens) (d : IsDistinct same_end (word (pre ++ (ts ++ post)))) where
  word_parts : word (pre ++ (ts ++ post)) ≡ word pre ++ (word ts ++ word post)
  word_parts = word-append pre (ts ++ post) ∙ ap (λ w. word pre ++ w) (word-append ts post)

  inner_first : Perm (word pre ++ (word ts ++ word post)) (pairs_of inner ++ (word pre ++ (x.ends ++ word post)))
  inner_first =
      then_by (perm_under (word pre) (perm_before (word post) whole))
      (then_by (subst (λ w. Perm (word pre ++ ((pairs_of inner ++ x.ends) ++ word post)) (word pre ++ w)) (append_assoc (pairs_of inner) x.ends (word post)) (perm-refl (word pre ++ ((pairs_of inner ++ x.ends) ++ word post))))
      (perm_blocks (word pre) (pairs_of inner) (x.ends ++ word post)))

  pub expand_network : IsNetwork (pre ++ (ts ++ post)) (inner ++ rest) opens
  expand_network = record {
    distinct = d;
    complete =
        subst₂ Perm (sym word_parts) (sym (ap (λ es. es ++ opens) (pairs_of-append inner rest) ∙ append_assoc (pairs_of inner) (pairs_of rest) opens))
        (then_by inner_first (perm_under (pairs_of inner) (subst (λ w. Perm w (goal rest opens)) (word-append pre (x ∷ post)) net.complete)));
  }

  abbrev y : Node
  y = contract par ts inner x.ends

  term_expand : (c : Assignment) →
      signed (sign par (pre ++ (x ∷ post)) rest opens c) (product (pre ++ (x ∷ post)) c) ≡
      signed s (signed (sign par (pre ++ (y ∷ post)) rest opens c) (product (pre ++ (y ∷ post)) c))
  term_expand c =
      ap₂ (λ w v. signed (xor (twist_sign par rest c) (is_odd (exchanges same_end (odd_end par c) w (goal rest opens)))) v)
      (word-append pre (x ∷ post) ∙ sym (word-append pre (y ∷ post)))
      (product-append pre (x ∷ post) c
      ∙ ap (λ v. mul_g (product pre c) (mul_g v (product post c))) (value c ∙ ap (signed s) (contract_at par ts inner x.ends whole c))
      ∙ ap (mul_g (product pre c)) (signed-mul s (y.entry (values y.ends c)) (product post c))
      ∙ mul-signed s (product pre c) (mul_g (y.entry (values y.ends c)) (product post c))
      ∙ ap (signed s) (sym (product-append pre (y ∷ post) c)))
      ∙ signed-comm (sign par (pre ++ (y ∷ post)) rest opens c) s (product (pre ++ (y ∷ post)) c)

  pub expand_value : (a : Assignment) → flat par (pre ++ (x ∷ post)) rest opens a ≡ signed s (flat par (pre ++ (ts ++ post)) (inner ++ rest) opens a)
  expand_value a =
      ap (λ (f : Assignment → Gaussian). sums rest f a) (fun_ext term_expand)
      ∙ sums-signed s rest (λ c. signed (sign par (pre ++ (y ∷ post)) rest opens c) (product (pre ++ (y ∷ post)) c)) a
      ∙ ap (signed s) (sym (any_block_value pre ts post inner rest x.ends opens expand_network whole par a))

-- the order of the tensors matters by one sign

pub homogeneous-perm : (par : Parities) {ns ms : List Node} → Perm ns ms → AreHomogeneous par ns → AreHomogeneous par ms
homogeneous-perm par none h = tt
homogeneous-perm par (keep p) h = (h.0, homogeneous-perm par p h.1)
homogeneous-perm par swap h = (h.1.0, (h.0, h.1.1))
homogeneous-perm par (then_by p q) h = homogeneous-perm par q (homogeneous-perm par p h)

pub reorder : (par : Parities) (bs : List Bond) (opens : List End) {ns ms : List Node} → Perm ns ms → (pre : List Node) → IsNetwork (pre ++ ns) bs opens → AreHomogeneous par ns →
    (t : Bool) × ((a : Assignment) → flat par (pre ++ ns) bs opens a ≡ signed t (flat par (pre ++ ms) bs opens a))
reorder par bs opens none pre net h = (false, λ a. refl)
reorder par bs opens (keep {x = x} {xs = xs} {ys = ys} p) pre net h =
    let to : (zs : List Node) → pre ++ (x ∷ zs) ≡ (pre ++ (x ∷ [])) ++ zs = λ zs. sym (append_assoc pre (x ∷ []) zs) in
    let r = reorder par bs opens p (pre ++ (x ∷ [])) (subst (λ ns. IsNetwork ns bs opens) (to xs) net) h.1 in
    (r.0, λ a. ap (λ ns. flat par ns bs opens a) (to xs) ∙ r.1 a ∙ ap (λ ns. signed r.0 (flat par ns bs opens a)) (sym (to ys)))
reorder par bs opens (swap {x = x} {y = y} {xs = xs}) pre net h = (x.odd && y.odd, exchange_law par pre x y xs bs opens net h.0 h.1.0)
reorder par bs opens (then_by {xs = xs} {ys = ys} {zs = zs} p q) pre net h =
    let r = reorder par bs opens p pre net h in
    let t = reorder par bs opens q pre (moved_network (pre ++ xs) (pre ++ ys) bs opens net (perm_under pre p)) (homogeneous-perm par p h) in
    (xor r.0 t.0, λ a. r.1 a ∙ ap (signed r.0) (t.1 a) ∙ sym (signed-xor r.0 t.0 (flat par (pre ++ zs) bs opens a)))

-- the tensors of two groups

perm_place : (m : Listed) (ns : List Listed) → Perm (m ∷ ns) (place_member m ns)
perm_place m [] = keep none
perm_place m (n ∷ ns) = go (nat_lt m.number n.number) (perm_place m ns)
  where
    go : (b : Bool) → Perm (m ∷ ns) (place_member m ns) → Perm (m ∷ n ∷ ns) (cond b (m ∷ n ∷ ns) (n ∷ place_member m ns))
    go true p = perm-refl (m ∷ n ∷ ns)
    go false p = then_by swap (keep p)

pub perm_merged : (ms ns : List Listed) → Perm (ms ++ ns) (merged ms ns)
perm_merged [] ns = perm-refl ns
perm_merged (m ∷ ms) ns = then_by (keep (perm_merged ms ns)) (perm_place m (merged ms ns))

pub tensors_joined : (g h : TensorGroup) → Perm (tensors g ++ tensors h) (map (λ m. m.node) (merged g.members h.members))
tensors_joined g h =
    subst (λ ts. Perm ts (map (λ m. m.node) (merged g.members h.members))) (map-append (λ m. m.node) g.members h.members) (perm-map (λ m. m.node) (perm_merged g.members h.members))

-- what the plan keeps of each group
pub record IsMade (par : Parities) (g : TensorGroup) : Type 0 where
  pub whole : Perm (word (tensors g)) (pairs_of g.summed ++ g.node.ends)
  pub homogeneous : AreHomogeneous par (tensors g)
  pub value : (s : Bool) × ((a : Assignment) → g.node.entry (values g.node.ends a) ≡ signed s (flat par (tensors g) g.summed g.node.ends a))

pub joined_made : (par : Parities) (between : Bool) (g h : TensorGroup) (bonds : List Bond) → IsMade par g → IsMade par h →
    IsNetwork (g.node ∷ h.node ∷ []) bonds (kept_legs (g.node ∷ h.node ∷ []) bonds) → IsDistinct same_end (word (tensors g ++ tensors h)) →
    IsMade par (joined par between g h bonds)
joined_made par between g h bonds mg mh net d =
    let opens : List End = kept_legs (g.node ∷ h.node ∷ []) bonds in
    let d_parts : IsDistinct same_end (word (tensors g) ++ word (tensors h)) = subst (IsDistinct same_end) (word-append (tensors g) (tensors h)) d in
    let d_first : IsDistinct same_end (word (tensors g ++ (h.node ∷ []))) =
    subst (IsDistinct same_end) (ap (λ w. word (tensors g) ++ w) (sym (append-nil h.node.ends)) ∙ sym (word-append (tensors g) (h.node ∷ [])))
    (distinct_second same_end (pairs_of h.summed) (word (tensors g) ++ h.node.ends)
    (distinct-perm same_end end_test (then_by (perm_under (word (tensors g)) mh.whole) (perm_blocks (word (tensors g)) (pairs_of h.summed) h.node.ends)) d_parts)) in
    let net_first = expand_network par [] g.node (h.node ∷ []) (tensors g) g.summed bonds opens mg.value.0 mg.whole mg.value.1 net d_first in
    let d_second : IsDistinct same_end (word (tensors g ++ (tensors h ++ []))) = subst (λ ts. IsDistinct same_end (word (tensors g ++ ts))) (sym (append-nil (tensors h))) d in
    let net_second : IsNetwork (tensors g ++ (tensors h ++ [])) (h.summed ++ (g.summed ++ bonds)) opens =
    expand_network par (tensors g) h.node [] (tensors h) h.summed (g.summed ++ bonds) opens mh.value.0 mh.whole mh.value.1 net_first d_second in
    let net_third : IsNetwork (tensors g ++ tensors h) (h.summed ++ (g.summed ++ bonds)) opens =
    subst (λ ts. IsNetwork (tensors g ++ ts) (h.summed ++ (g.summed ++ bonds)) opens) (append-nil (tensors h)) net_second in
    let hom : AreHomogeneous par (tensors g ++ tensors h) = homogeneous-append par (tensors g) (tensors h) mg.homogeneous mh.homogeneous in
    let turn = reorder par (h.summed ++ (g.summed ++ bonds)) opens (tensors_joined g h) [] net_third hom in
    record {
      whole = then_by (perm-sym (perm_word (tensors_joined g h))) net_third.complete;
      homogeneous = homogeneous-perm par (tensors_joined g h) hom;
      value = (
        xor (between && h.node.odd) (xor mg.value.0 (xor mh.value.0 turn.0)),
        λ a. ap (signed (between && h.node.odd))
            (sym (contract_at par (g.node ∷ h.node ∷ []) bonds opens net.complete a)
            ∙ expand_value par [] g.node (h.node ∷ []) (tensors g) g.summed bonds opens mg.value.0 mg.whole mg.value.1 net d_first a
            ∙ ap (signed mg.value.0)
            (expand_value par (tensors g) h.node [] (tensors h) h.summed (g.summed ++ bonds) opens mh.value.0 mh.whole mh.value.1 net_first d_second a
            ∙ ap (signed mh.value.0)
            (ap (λ ts. flat par (tensors g ++ ts) (h.summed ++ (g.summed ++ bonds)) opens a) (append-nil (tensors h)) ∙ turn.1 a)))
            ∙ four (between && h.node.odd) mg.value.0 mh.value.0 turn.0 _,
      );
    }
  where
    four : (p q r t : Bool) (x : Gaussian) → signed p (signed q (signed r (signed t x))) ≡ signed (xor p (xor q (xor r t))) x
    four p q r t x =
        sym (signed-xor p (xor q (xor r t)) x ∙ ap (signed p) (signed-xor q (xor r t) x ∙ ap (signed q) (signed-xor r t x)))

pub closed_made : (par : Parities) (g : TensorGroup) (bonds : List Bond) → IsMade par g →
    IsNetwork (g.node ∷ []) bonds (kept_legs (g.node ∷ []) bonds) → IsDistinct same_end (word (tensors g)) → IsMade par (closed par g bonds)
closed_made par g bonds mg net d =
    let opens : List End = kept_legs (g.node ∷ []) bonds in
    let d_nil : IsDistinct same_end (word (tensors g ++ [])) = subst (λ ts. IsDistinct same_end (word ts)) (sym (append-nil (tensors g))) d in
    let net_first : IsNetwork (tensors g ++ []) (g.summed ++ bonds) opens =
    expand_network par [] g.node [] (tensors g) g.summed bonds opens mg.value.0 mg.whole mg.value.1 net d_nil in
    let net_second : IsNetwork (tensors g) (g.summed ++ bonds) opens = subst (λ ts. IsNetwork ts (g.summed ++ bonds) opens) (append-nil (tensors g)) net_first in
    record {
      whole = net_second.complete;
      homogeneous = mg.homogeneous;
      value = (
        mg.value.0,
        λ a. sym (contract_at par (g.node ∷ []) bonds opens net.complete a)
            ∙ expand_value par [] g.node [] (tensors g) g.summed bonds opens mg.value.0 mg.whole mg.value.1 net d_nil a
            ∙ ap (λ ts. signed mg.value.0 (flat par ts (g.summed ++ bonds) opens a)) (append-nil (tensors g)),
      );
    }

-- so it is the group's part, up to signs and the order of the legs
pub made_as_part : (par : Parities) (g : TensorGroup) → IsMade par g → IsDistinct same_end (word (tensors g)) → IsMadeAsPart par g
made_as_part par g m d =
    let opens : List End = kept_legs (tensors g) g.summed in
    let d_parts : IsDistinct same_end (pairs_of g.summed ++ g.node.ends) = distinct-perm same_end end_test m.whole d in
    let kept = kept_from (tensors g) g.summed d (distinct_first same_end (pairs_of g.summed) g.node.ends d_parts)
    (λ e h. is_in-perm same_end e m.whole ∙ is_in-append same_end e (pairs_of g.summed) g.node.ends ∙ or_left (is_in same_end e (pairs_of g.summed)) (is_in same_end e g.node.ends) h) in
    let net : IsNetwork (tensors g) g.summed g.node.ends = record { distinct = d; complete = m.whole } in
    let legs : Perm g.node.ends opens = perm_cancel same_end end_test (pairs_of g.summed) g.node.ends opens d_parts (then_by (perm-sym m.whole) kept.perm) in
    record {
      legs = legs;
      entry = λ a.
          let t : Bool = is_odd (exchanges same_end (odd_end par a) g.node.ends opens) in (
            xor m.value.0 t,
            m.value.1 a
                ∙ ap (signed m.value.0)
                (sym (signed-twice t (flat par (tensors g) g.summed g.node.ends a))
                ∙ ap (signed t) (sym (opens_law par (tensors g) g.summed g.node.ends opens net legs a) ∙ contract_at par (tensors g) g.summed opens kept.perm a))
                ∙ sym (signed-xor m.value.0 t ((part par g).entry (values opens a))),
          );
    }
