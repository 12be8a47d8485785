-- Two groups of a step share lines: their legs meet, and the legs that are left are those of the result.
use Rattle.std.proofs.Common.{◌≡◌, ◌<◌, ◌==◌, ℕ, zero, suc, ◌+◌, ℤ, pos, Bool, true, false, ◌||◌, ◌&&◌, if◌then◌else◌, None, List, [], ◌∷◌, ◌++◌, refl, sym, ◌∙◌, ap, ap₂, subst, map, length, get_or, append-nil, int_eq, eqb-true, eq-eqb, arith}
use Rattle.std.specs.List.{All}
use Rattle.std.proofs.lemmas.List.{get_or_append_left, get_or-append-add, length-map}
use Rattle.std.proofs.lemmas.Bool.{or_parts, false≢true}
use Rattle.qn_sign.specs.Sign.{is_in, xor, IsDistinct, Perm}
use Rattle.qn_gauss.specs.Gaussian.{zero_g}
use Rattle.qn_charge.specs.declared.factor.Factor.{Factor}
use Rattle.qn_charge.specs.Charges.{IsGroup, IsCanonical, parity}
use Rattle.qn_index.specs.Legs.{SectorValue, LegValue, IsSound, IsLegOf, Meets, total}
use Rattle.qn_value.specs.Networks.{End, Node, Bond, same_bool, same_end, pairs_of, labels, kept, IsNetwork}
use Rattle.qn_value.specs.Tensors.{IsRow}
use Rattle.qn_value.specs.Labels.{Placed}
use Rattle.qn_value.specs.Twists.{HasOneEnd}
use Rattle.qn_value.specs.Blocks.{legs_on}
use Rattle.qn_value.specs.Local.{no_leg, places_of, shared_couples, IsCouple, IsCoupling}
use Rattle.qn_value.proofs.Sums.{label_test}
use Rattle.qn_value.proofs.BlockRows.{all-nil, all-cons}
use Rattle.qn_value.proofs.BlocksLemmas.{length-legs}
use Rattle.qn_value.proofs.PlacedLemmas.{all_first, all_others}
use Rattle.qn_match.specs.Pairs.{joined, IsShared}
use Rattle.qn_match.specs.Shares.{LegsLeftAreOpen}
use Rattle.qn_net.specs.Operations.{AreLines, ArePairsOf, IsNodeOf}
use Rattle.qn_net.proofs.CoupledNodes.{open_legs_are}
use Rattle.qn_net.proofs.StepTensors.{two_coupling, two_coupled}
use Rattle.qn_plan.specs.Shapes.{place_of, shared_places, ends_left}
use Rattle.qn_plan.proofs.Keeping.{kept_two}
use Rattle.qn_facts.proofs.Lists.{unmapped}

abbrev names : List End → List ℤ
names es = map (λ (e : End). e.label) es

-- a label of a leg has its place
place_found : (l : ℤ) (es : List End) → is_in int_eq l (names es) ≡ true → (place_of l es < length es) × (get_or (names es) (place_of l es) (pos 0) ≡ l)
place_found l [] h = absurd (false≢true h)
place_found l (e ∷ es) h = go (int_eq l e.label) refl h (place_found l es)
  where
    go : (b : Bool) → int_eq l e.label ≡ b → (b || is_in int_eq l (names es)) ≡ true →
        (is_in int_eq l (names es) ≡ true → (place_of l es < length es) × (get_or (names es) (place_of l es) (pos 0) ≡ l)) →
        ((if b then zero else suc (place_of l es)) < length (e ∷ es)) × (get_or (names (e ∷ es)) (if b then zero else suc (place_of l es)) (pos 0) ≡ l)
    go true q k ih = (omega arith, sym (label_test.equal l e.label q))
    go false q k ih = let r = ih k in (omega (arith, r.0), r.1)

-- one of the ends of a line among legs, and its label among theirs
named_on : (l : ℤ) (i : Bool) (es : List End) → is_in same_end (record { label = l; inward = i }) es ≡ true → is_in int_eq l (names es) ≡ true
named_on l i [] h = absurd (false≢true h)
named_on l i (e ∷ es) h = go (int_eq l e.label) i e.inward h (named_on l i es)
  where
    go : (b : Bool) (p q : Bool) → ((b && same_bool p q) || is_in same_end (record { label = l; inward = i }) es) ≡ true →
        (is_in same_end (record { label = l; inward = i }) es ≡ true → is_in int_eq l (names es) ≡ true) → (b || is_in int_eq l (names es)) ≡ true
    go true p q k ih = refl
    go false p q k ih = ih k

on_one : (l : ℤ) (x : Node) → xor (is_in same_end (record { label = l; inward = true }) x.ends) (is_in same_end (record { label = l; inward = false }) x.ends) ≡ true → is_in int_eq l (names x.ends) ≡ true
on_one l x h = go (is_in same_end (record { label = l; inward = true }) x.ends) refl h
  where
    go : (b : Bool) → is_in same_end (record { label = l; inward = true }) x.ends ≡ b → xor b (is_in same_end (record { label = l; inward = false }) x.ends) ≡ true → is_in int_eq l (names x.ends) ≡ true
    go true e k = named_on l true x.ends e
    go false e k = named_on l false x.ends k

-- the places of the labels of bonds that have an end on each of two tensors
pub pairs_named : (x y : Node) (bonds : List Bond) → HasOneEnd (λ e. true) x bonds → HasOneEnd (λ e. true) y bonds →
    ArePairsOf (names x.ends) (names y.ends) bonds (shared_places x.ends y.ends (labels bonds))
pairs_named x y [] hx hy = record { first = refl; second = refl; within = all-nil (λ (c : ℕ × ℕ). (c.0 < length (names x.ends)) × (c.1 < length (names y.ends))) }
pairs_named x y (b ∷ bs) hx hy =
    let r = pairs_named x y bs hx.1 hy.1 in
    let p = place_found b.label x.ends (on_one b.label x hx.0) in
    let q = place_found b.label y.ends (on_one b.label y hy.0) in
    let m : length (names x.ends) ≡ length x.ends = length-map x.ends (λ (e : End). e.label) in
    let n : length (names y.ends) ≡ length y.ends = length-map y.ends (λ (e : End). e.label) in
    record {
      first = ap₂ ◌∷◌ p.1 r.first;
      second = ap₂ ◌∷◌ q.1 r.second;
      within =
          all-cons (λ (c : ℕ × ℕ). (c.0 < length (names x.ends)) × (c.1 < length (names y.ends))) (place_of b.label x.ends, place_of b.label y.ends) (shared_places x.ends y.ends (labels bs))
          (omega (arith, p.0, m), omega (arith, q.0, n)) r.within;
    }

-- lines with the dimensions of their sectors and no twist

abbrev plain : (ℤ → List SectorValue) → Bond → Bond
plain sectors b = record { label = b.label; dim = total (sectors b.label); twisted = false }

labels_plain : (sectors : ℤ → List SectorValue) (bs : List Bond) → labels (map (plain sectors) bs) ≡ labels bs
labels_plain sectors [] = refl
labels_plain sectors (b ∷ bs) = ap (λ ls. b.label ∷ ls) (labels_plain sectors bs)

pairs_plain : (sectors : ℤ → List SectorValue) (bs : List Bond) → pairs_of (map (plain sectors) bs) ≡ pairs_of bs
pairs_plain sectors [] = refl
pairs_plain sectors (b ∷ bs) = ap (λ es. record { label = b.label; inward = true } ∷ record { label = b.label; inward = false } ∷ es) (pairs_plain sectors bs)

lines_plain : (sectors : ℤ → List SectorValue) (bs : List Bond) → AreLines sectors (map (plain sectors) bs)
lines_plain sectors [] = tt
lines_plain sectors (b ∷ bs) = (refl, refl, lines_plain sectors bs)

-- shared places

abbrev behind : ℕ → ℕ × ℕ → ℕ × ℕ
behind n p = (p.0, n + p.1)

first_absent : (n i : ℕ) (sh : List (ℕ × ℕ)) → is_in ◌==◌ i (places_of (map (behind n) sh)) ≡ false → is_in ◌==◌ i (map (λ p. p.0) sh) ≡ false
first_absent n i [] h = refl
first_absent n i (p ∷ sh) h =
    let one = or_parts (i == p.0) ((i == (n + p.1)) || is_in ◌==◌ i (places_of (map (behind n) sh))) h in
    let two = or_parts (i == (n + p.1)) (is_in ◌==◌ i (places_of (map (behind n) sh))) one.1 in
    ap₂ ◌||◌ one.0 (first_absent n i sh two.1)

apart : (n i j : ℕ) → ((n + i) == (n + j)) ≡ false → (i == j) ≡ false
apart n i j h = go (i == j) refl
  where
    go : (b : Bool) → (i == j) ≡ b → b ≡ false
    go false e = refl
    go true e = absurd (false≢true (sym h ∙ eq-eqb (n + i) (n + j) (ap (λ k. n + k) (eqb-true i j e))))

second_absent : (n i : ℕ) (sh : List (ℕ × ℕ)) → is_in ◌==◌ (n + i) (places_of (map (behind n) sh)) ≡ false → is_in ◌==◌ i (map (λ p. p.1) sh) ≡ false
second_absent n i [] h = refl
second_absent n i (p ∷ sh) h =
    let one = or_parts ((n + i) == p.0) (((n + i) == (n + p.1)) || is_in ◌==◌ (n + i) (places_of (map (behind n) sh))) h in
    let two = or_parts ((n + i) == (n + p.1)) (is_in ◌==◌ (n + i) (places_of (map (behind n) sh))) one.1 in
    ap₂ ◌||◌ (apart n i p.1 two.0) (second_absent n i sh two.1)

firsts_once : (n : ℕ) (sh : List (ℕ × ℕ)) → IsDistinct ◌==◌ (places_of (map (behind n) sh)) → IsDistinct ◌==◌ (map (λ p. p.0) sh)
firsts_once n [] d = tt
firsts_once n (p ∷ sh) d =
    let one = or_parts (p.0 == (n + p.1)) (is_in ◌==◌ p.0 (places_of (map (behind n) sh))) d.0 in
    (first_absent n p.0 sh one.1, firsts_once n sh d.1.1)

seconds_once : (n : ℕ) (sh : List (ℕ × ℕ)) → IsDistinct ◌==◌ (places_of (map (behind n) sh)) → IsDistinct ◌==◌ (map (λ p. p.1) sh)
seconds_once n [] d = tt
seconds_once n (p ∷ sh) d = (second_absent n p.1 sh d.1.0, seconds_once n sh d.1.1)

-- couples of the word of two lists of legs are shared pairs
pub shared_of : (ks ls : List LegValue) (sh : List (ℕ × ℕ)) → All (λ c. (c.0 < length ks) × (c.1 < length ls)) sh → IsCoupling (ks ++ (ls ++ [])) (map (behind (length ks)) sh) → IsShared ks ls sh
shared_of ks ls sh within good = record {
  first = λ k d lt. (within k d lt).0;
  second = λ k d lt. (within k d lt).1;
  meet = λ k d lt. meets (get_or sh k d) (within k d lt).0 (unmapped (IsCouple (ks ++ (ls ++ []))) (behind (length ks)) sh good.meet k d lt);
  first_once = firsts_once (length ks) sh good.distinct;
  second_once = seconds_once (length ks) sh good.distinct;
}
  where
    meets : (p : ℕ × ℕ) → p.0 < length ks → IsCouple (ks ++ (ls ++ [])) (behind (length ks) p) → Meets (get_or ks p.0 no_leg) (get_or ls p.1 no_leg) None
    meets p lt c =
        subst (λ l. Meets l (get_or ls p.1 no_leg) None) (get_or_append_left ks (ls ++ []) no_leg p.0 lt)
        (subst (λ l. Meets (get_or (ks ++ (ls ++ [])) p.0 no_leg) l None) (get_or-append-add ks (ls ++ []) p.1 no_leg ∙ ap (λ (gs : List LegValue). get_or gs p.1 no_leg) (append-nil ls)) c.meets)

-- the lines of two groups by their ends alone
module _ (fs : List Factor) (group : IsGroup fs) (sectors : ℤ → List SectorValue) where
  abbrev blank : List End → List ℤ → Placed
  blank es q = record { tensor = record { group = fs; legs = legs_on sectors es; flux = q; rows = [] }; labels = names es }

  abbrev blank_node : List End → List ℤ → Node
  blank_node es q = record { ends = es; entry = λ xs. zero_g; odd = parity fs q }

  blank_is : (es : List End) (q : List ℤ) → All IsSound (legs_on sectors es) → All (IsLegOf fs) (legs_on sectors es) → IsCanonical fs q → IsNodeOf fs sectors (blank es q) (blank_node es q)
  blank_is es q sound charges flux = record {
    group = refl;
    tensor = record { group = group; legs = sound; charges = charges; flux = flux; rows = all-nil (IsRow fs (legs_on sectors es) q); distinct = tt };
    labels = refl;
    legs = refl;
    odd = refl;
    entry = λ xs l. refl;
  }

  module _ (x y : Node) (p q : List ℤ) (bonds : List Bond) (sx : All IsSound (legs_on sectors x.ends)) (cx : All (IsLegOf fs) (legs_on sectors x.ends)) (fx : IsCanonical fs p)
      (sy : All IsSound (legs_on sectors y.ends)) (cy : All (IsLegOf fs) (legs_on sectors y.ends)) (fy : IsCanonical fs q)
      (ox : HasOneEnd (λ e. true) x bonds) (oy : HasOneEnd (λ e. true) y bonds) (net : IsNetwork (x ∷ y ∷ []) bonds (kept (x ∷ y ∷ []) bonds)) where
    abbrev shared : List (ℕ × ℕ)
    shared = shared_places x.ends y.ends (labels bonds)

    abbrev bonds' : List Bond
    bonds' = map (plain sectors) bonds

    abbrev ns : List Node
    ns = blank_node x.ends p ∷ blank_node y.ends q ∷ []

    named : ArePairsOf (names x.ends) (names y.ends) bonds' shared
    named = let r = pairs_named x y bonds ox oy in record { first = r.first ∙ sym (labels_plain sectors bonds); second = r.second ∙ sym (labels_plain sectors bonds); within = r.within }

    kept_same : kept (x ∷ y ∷ []) bonds ≡ kept ns bonds'
    kept_same = kept_two x y bonds ∙ ap (λ ls. ends_left ls x.ends ++ ends_left ls y.ends) (sym (labels_plain sectors bonds)) ∙ sym (kept_two (blank_node x.ends p) (blank_node y.ends q) bonds')

    network : IsNetwork ns bonds' (kept ns bonds')
    network = subst (λ es. IsNetwork ns bonds' es) kept_same (record {
      distinct = net.distinct;
      complete = subst (λ es. Perm (x.ends ++ (y.ends ++ [])) (es ++ kept (x ∷ y ∷ []) bonds)) (sym (pairs_plain sectors bonds)) net.complete;
    })

    hx : IsNodeOf fs sectors (blank x.ends p) (blank_node x.ends p)
    hx = blank_is x.ends p sx cx fx

    hy : IsNodeOf fs sectors (blank y.ends q) (blank_node y.ends q)
    hy = blank_is y.ends q sy cy fy

    good : IsCoupling (legs_on sectors x.ends ++ (legs_on sectors y.ends ++ [])) (shared_couples (blank x.ends p).tensor shared)
    good = two_coupling fs sectors (blank x.ends p) (blank y.ends q) (blank_node x.ends p) (blank_node y.ends q) hx hy bonds' shared named network

    pub are_shared : IsShared (legs_on sectors x.ends) (legs_on sectors y.ends) shared
    are_shared = shared_of (legs_on sectors x.ends) (legs_on sectors y.ends) shared within good
      where
        within : All (λ c. (c.0 < length (legs_on sectors x.ends)) × (c.1 < length (legs_on sectors y.ends))) shared
        within k d lt = let w = named.within k d lt in (omega (arith, w.0, long x.ends), omega (arith, w.1, long y.ends))
          where
            long : (es : List End) → length (legs_on sectors es) ≡ length (names es)
            long es = length-legs sectors es ∙ sym (length-map es (λ (e : End). e.label))

    pub legs_joined : LegsLeftAreOpen → joined shared (legs_on sectors x.ends) (legs_on sectors y.ends) ≡ legs_on sectors (kept (x ∷ y ∷ []) bonds)
    legs_joined legs_open =
        legs_open (blank x.ends p).tensor (blank y.ends q).tensor shared are_shared
        ∙ open_legs_are fs sectors (blank x.ends p ∷ blank y.ends q ∷ []) ns (hx, (hy, tt)) (shared_couples (blank x.ends p).tensor shared) bonds' network (lines_plain sectors bonds) good
        (two_coupled fs sectors (blank x.ends p) (blank y.ends q) (blank_node x.ends p) (blank_node y.ends q) hx hy bonds' shared named network)
        ∙ ap (legs_on sectors) (sym kept_same)
