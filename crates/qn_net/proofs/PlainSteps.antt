-- Steps over lines that are not twisted, from tensors that were twisted.
use Rattle.std.proofs.Common.{◌≡◌, ◌<◌, ℕ, ℤ, Bool, true, false, ◌&&◌, not, List, [], ◌∷◌, ◌++◌, ◌*◌, refl, sym, ◌∙◌, ap, ap₂, subst, subst₂, map}
use Rattle.std.proofs.lemmas.List.{map-append}
use mathlib.Core.Path.{fun_ext}
use Rattle.qn_sign.specs.Sign.{is_in, xor, IsDistinct, Perm}
use Rattle.qn_gauss.specs.Gaussian.{signed}
use Rattle.qn_index.specs.Legs.{SectorValue}
use Rattle.qn_sign.proofs.Parity.{perm-refl}
use Rattle.qn_value.specs.Networks.{End, Node, Bond, Assignment, Parities, assign, same_end, word, pairs_of, values, at_values, AreWithin, IsNetwork, IsHomogeneous, AreHomogeneous}
use Rattle.qn_value.specs.Twists.{odd_among, is_twisted, untwist, HasOneEnd}
use Rattle.qn_value.specs.Magnitudes.{total, total_below, mag_at, magnitudes}
use Rattle.qn_value.proofs.NetLaws.{signed-xor}
use Rattle.qn_value.proofs.Steps.{order_network}
use Rattle.qn_value.proofs.MagnitudeLemmas.{mag_signed}
use Rattle.qn_value.proofs.TwistLemmas.{pairs_of-untwist, twisted_homogeneous}
use Rattle.qn_net.specs.Groups.{TensorGroup, nodes, AllAbove, AreInOrder}
use Rattle.qn_net.specs.Steps.{State, result}
use Rattle.qn_net.specs.Steps.Step.{pair, trace}
use Rattle.qn_net.specs.Parts.{part, IsMadeAsPart, AreMadeAsParts}
use Rattle.qn_net.specs.Carried.{IsSoundState}
use Rattle.qn_net.specs.Operations.{AreTwistedLines}
use Rattle.qn_net.specs.TwistedSteps.{IsTwistedBefore, twisted_group, twisted_where, twisted_inward, plain_step, PlainStepLaw}
use Rattle.qn_net.proofs.PlanTwist.{untwisted}

-- a group with the legs and the number of another, and with entries that differ at most by signs
record IsLike (par : Parities) (g h : TensorGroup) : Type 0 where
  number : h.number ≡ g.number
  ends : h.node.ends ≡ g.node.ends
  homogeneous : IsHomogeneous par g.node → IsHomogeneous par h.node
  part : IsMadeAsPart par g → IsMadeAsPart par h
  size : (a : Assignment) → mag_at h.node a ≡ mag_at g.node a

itself : (par : Parities) (g : TensorGroup) → IsLike par g g
itself par g = record { number = refl; ends = refl; homogeneous = λ h. h; part = λ h. h; size = λ a. refl }

twisted_like : (par : Parities) (test : End → Bool) (g : TensorGroup) → IsLike par g (twisted_group par test g)
twisted_like par test g = record {
  number = refl;
  ends = refl;
  homogeneous = twisted_homogeneous par test g.node;
  part = λ h. record {
    legs = h.legs;
    entry = λ a.
        let t : Bool = odd_among par test g.node.ends (values g.node.ends a) in
        let e = h.entry a in
        (xor t e.0, ap (signed t) e.1 ∙ sym (signed-xor t e.0 ((part par g).entry (values (part par g).ends a))));
  };
  size = λ a. mag_signed (odd_among par test g.node.ends (values g.node.ends a)) (g.node.entry (values g.node.ends a));
}

where_like : (par : Parities) (b : Bool) (bonds : List Bond) (g : TensorGroup) → IsLike par g (twisted_where b par bonds g)
where_like par true bonds g = twisted_like par (is_twisted bonds) g
where_like par false bonds g = itself par g

-- groups one by one
abbrev AreLike : Parities → List TensorGroup → List TensorGroup → Type 0
AreLike par [] [] = Unit {0}
AreLike par [] (h ∷ hs) = ⊥
AreLike par (g ∷ gs) [] = ⊥
AreLike par (g ∷ gs) (h ∷ hs) = IsLike par g h × AreLike par gs hs

all_themselves : (par : Parities) (gs : List TensorGroup) → AreLike par gs gs
all_themselves par [] = tt
all_themselves par (g ∷ gs) = (itself par g, all_themselves par gs)

like-append : (par : Parities) (before : List TensorGroup) (gs hs : List TensorGroup) → AreLike par gs hs → AreLike par (before ++ gs) (before ++ hs)
like-append par [] gs hs h = h
like-append par (b ∷ before) gs hs h = (itself par b, like-append par before gs hs h)

like_word : (par : Parities) (gs hs : List TensorGroup) → AreLike par gs hs → word (nodes hs) ≡ word (nodes gs)
like_word par [] [] h = refl
like_word par [] (x ∷ hs) h = absurd h
like_word par (g ∷ gs) [] h = absurd h
like_word par (g ∷ gs) (x ∷ hs) h = ap₂ ◌++◌ h.0.ends (like_word par gs hs h.1)

like_homogeneous : (par : Parities) (gs hs : List TensorGroup) → AreLike par gs hs → AreHomogeneous par (nodes gs) → AreHomogeneous par (nodes hs)
like_homogeneous par [] [] h k = tt
like_homogeneous par [] (x ∷ hs) h k = absurd h
like_homogeneous par (g ∷ gs) [] h k = absurd h
like_homogeneous par (g ∷ gs) (x ∷ hs) h k = (h.0.homogeneous k.0, like_homogeneous par gs hs h.1 k.1)

like_parts : (par : Parities) (gs hs : List TensorGroup) → AreLike par gs hs → AreMadeAsParts par gs → AreMadeAsParts par hs
like_parts par [] [] h k = tt
like_parts par [] (x ∷ hs) h k = absurd h
like_parts par (g ∷ gs) [] h k = absurd h
like_parts par (g ∷ gs) (x ∷ hs) h k = (h.0.part k.0, like_parts par gs hs h.1 k.1)

like_above : (par : Parities) (n m : ℕ) (gs hs : List TensorGroup) → m ≡ n → AreLike par gs hs → AllAbove n gs → AllAbove m hs
like_above par n m [] [] e h k = tt
like_above par n m [] (x ∷ hs) e h k = absurd h
like_above par n m (g ∷ gs) [] e h k = absurd h
like_above par n m (g ∷ gs) (x ∷ hs) e h k = (subst (λ i. i < x.number) (sym e) (subst (λ j. n < j) (sym h.0.number) k.0), like_above par n m gs hs e h.1 k.1)

like_order : (par : Parities) (gs hs : List TensorGroup) → AreLike par gs hs → AreInOrder gs → AreInOrder hs
like_order par [] [] h k = tt
like_order par [] (x ∷ hs) h k = absurd h
like_order par (g ∷ gs) [] h k = absurd h
like_order par (g ∷ gs) (x ∷ hs) h k = (like_above par g.number x.number gs hs h.0.number h.1 k.0, like_order par gs hs h.1 k.1)

-- lines without their twists

pairs_untwisted : (bs cs : List Bond) → pairs_of (map untwist bs ++ map untwist cs) ≡ pairs_of (bs ++ cs)
pairs_untwisted bs cs = ap pairs_of (sym (map-append untwist bs cs)) ∙ pairs_of-untwist (bs ++ cs)

total-untwist : (bs : List Bond) (f : Assignment → ℕ) (a : Assignment) → total (map untwist bs) f a ≡ total bs f a
total-untwist [] f a = refl
total-untwist (b ∷ bs) f a = ap (total_below b.dim) (fun_ext (λ v. total-untwist bs f (assign a b.label v)))

one_untwisted : (x y : Node) (bs : List Bond) → y.ends ≡ x.ends → HasOneEnd (λ e. true) x bs → HasOneEnd (λ e. true) y (map untwist bs)
one_untwisted x y [] e h = tt
one_untwisted x y (b ∷ bs) e h = (
  subst (λ (es : List End). xor (is_in same_end (record { label = b.label; inward = true }) es) (is_in same_end (record { label = b.label; inward = false }) es) ≡ true) (sym e) h.0,
  one_untwisted x y bs e h.1,
)

within_untwisted : (bs : List Bond) (ns ms : List Node) → word ms ≡ word ns → AreWithin bs ns → AreWithin (map untwist bs) ms
within_untwisted bs ns ms e h x i = subst (λ es. is_in same_end x es ≡ true) (sym e) (h x (subst (λ es. is_in same_end x es ≡ true) (pairs_of-untwist bs) i))

pub plain_lines : (tw : List ℤ) (sectors : ℤ → List SectorValue) (bs cs : List Bond) → AreTwistedLines tw sectors (bs ++ cs) → AreTwistedLines [] sectors (map untwist bs ++ map untwist cs)
plain_lines tw sectors [] [] h = tt
plain_lines tw sectors [] (c ∷ cs) h = (h.0, refl, plain_lines tw sectors [] cs h.2)
plain_lines tw sectors (b ∷ bs) cs h = (h.0, refl, plain_lines tw sectors bs cs h.2)

-- a sound state, whose groups are replaced by like ones and whose lines lose their twists
sound_like : (par : Parities) (opens : List End) (s : State) (gs hs : List TensorGroup) (bonds left : List Bond) → IsSoundState par opens s → s.groups ≡ gs → Perm s.left (bonds ++ left) → AreLike par gs hs →
    IsSoundState par opens (record { groups = hs; left = map untwist bonds ++ map untwist left })
sound_like par opens s gs hs bonds left k e p like = record {
  network =
      let net : IsNetwork (nodes gs) (bonds ++ left) opens = order_network (nodes gs) s.left (bonds ++ left) opens (subst (λ xs. IsNetwork (nodes xs) s.left opens) e k.network) p in
      record {
        distinct = subst (λ es. IsDistinct same_end es) (sym (like_word par gs hs like)) net.distinct;
        complete = subst₂ Perm (sym (like_word par gs hs like)) (ap (λ es. es ++ opens) (sym (pairs_untwisted bonds left))) net.complete;
      };
  homogeneous = like_homogeneous par gs hs like (subst (λ xs. AreHomogeneous par (nodes xs)) e k.homogeneous);
  parts = like_parts par gs hs like (subst (AreMadeAsParts par) e k.parts);
  ordered = like_order par gs hs like (subst AreInOrder e k.ordered);
}

pub plain_step_law : PlainStepLaw
plain_step_law par opens s (pair before g between h behind bonds left) earlier k at = record {
  sound = sound_like par opens s (before ++ (g ∷ (between ++ (h ∷ behind)))) (before ++ (x ∷ (between ++ (y ∷ behind)))) bonds left k at.0 at.1
      (like-append par before (g ∷ (between ++ (h ∷ behind))) (x ∷ (between ++ (y ∷ behind))) (gx, like-append par between (h ∷ behind) (y ∷ behind) (hy, all_themselves par behind)));
  step = (
    refl,
    perm-refl (map untwist bonds ++ map untwist left),
    within_untwisted bonds (g.node ∷ h.node ∷ []) (x.node ∷ y.node ∷ []) (like_word par (g ∷ h ∷ []) (x ∷ y ∷ []) (gx, (hy, tt))) at.2,
    one_untwisted g.node x.node bonds gx.ends at.3,
    one_untwisted h.node y.node bonds hy.ends at.4,
  );
  node = node earlier;
  members = members earlier;
  magnitude = λ xs.
      ap (λ (es : List End). total (map untwist bonds) (magnitudes (x.node ∷ y.node ∷ [])) (at_values es xs)) (ap (λ (n : Node). n.ends) (node earlier))
      ∙ total-untwist bonds (magnitudes (x.node ∷ y.node ∷ [])) (at_values (result par (pair before g between h behind bonds left)).node.ends xs)
      ∙ ap (λ f. total bonds f (at_values (result par (pair before g between h behind bonds left)).node.ends xs))
      (fun_ext (λ a. ap₂ (λ m n. m * (n * 1)) (gx.size a) (hy.size a)));
}
  where
    x : TensorGroup
    x = twisted_where earlier par bonds g

    y : TensorGroup
    y = twisted_where (not earlier) par bonds h

    gx : IsLike par g x
    gx = where_like par earlier bonds g

    hy : IsLike par h y
    hy = where_like par (not earlier) bonds h

    before_it : IsTwistedBefore par (pair before g between h behind bonds left)
    before_it = untwisted par opens s (pair before g between h behind bonds left) k at

    node : (b : Bool) → (result par (plain_step par b (pair before g between h behind bonds left))).node ≡ (result par (pair before g between h behind bonds left)).node
    node true = sym before_it.0
    node false = sym before_it.1

    members : (b : Bool) → (result par (plain_step par b (pair before g between h behind bonds left))).members ≡ (result par (pair before g between h behind bonds left)).members
    members true = refl
    members false = refl
plain_step_law par opens s (trace before g behind bonds left) earlier k at = record {
  sound = sound_like par opens s (before ++ (g ∷ behind)) (before ++ (x ∷ behind)) bonds left k at.0 at.1
      (like-append par before (g ∷ behind) (x ∷ behind) (gx, all_themselves par behind));
  step = (
    refl,
    perm-refl (map untwist bonds ++ map untwist left),
    within_untwisted bonds (g.node ∷ []) (x.node ∷ []) (like_word par (g ∷ []) (x ∷ []) (gx, tt)) at.2,
  );
  node = node;
  members = refl;
  magnitude = λ xs.
      ap (λ (es : List End). total (map untwist bonds) (magnitudes (x.node ∷ [])) (at_values es xs)) (ap (λ (n : Node). n.ends) node)
      ∙ total-untwist bonds (magnitudes (x.node ∷ [])) (at_values (result par (trace before g behind bonds left)).node.ends xs)
      ∙ ap (λ f. total bonds f (at_values (result par (trace before g behind bonds left)).node.ends xs)) (fun_ext (λ a. ap (λ m. m * 1) (gx.size a)));
}
  where
    x : TensorGroup
    x = twisted_inward par bonds g

    gx : IsLike par g x
    gx = twisted_like par (λ e. e.inward && is_twisted bonds e) g

    node : (result par (plain_step par earlier (trace before g behind bonds left))).node ≡ (result par (trace before g behind bonds left)).node
    node = sym (untwisted par opens s (trace before g behind bonds left) k at)
