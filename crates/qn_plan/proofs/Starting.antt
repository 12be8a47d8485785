-- What holds before the first step.
use Rattle.std.proofs.Common.{◌≡◌, ◌≤◌, ◌<◌, ◌^◌, ℕ, zero, suc, ◌+◌, ◌*◌, ℤ, Bool, true, false, ◌&&◌, cond, if◌then◌else◌, List, [], ◌∷◌, ◌++◌, refl, sym, ◌∙◌, ap, ap₂, subst, map, flat_map, filter, length, take, get_or, add-one, arith}
use Rattle.std.specs.Prelude.{int_lt}
use Rattle.std.specs.List.{All}
use Rattle.std.proofs.lemmas.List.{length-append}
use Rattle.std.proofs.lemmas.List.Elements.{filter-append}
use Rattle.qn_charge.specs.declared.factor.Factor.{Factor}
use Rattle.qn_charge.specs.Charges.{IsWithin}
use Rattle.qn_index.specs.Legs.{SectorValue, LegValue, IsSound, IsLegOf}
use Rattle.qn_index.specs.Extents.{IsWithinLimits}
use Rattle.qn_value.specs.Networks.{End, Bond, labels}
use Rattle.qn_value.specs.Labels.{Placed, Slot, slots_of, slots, ends, is_positive, bond_at, bonds_from, place_bond, in_label_order, AllPlaced}
use Rattle.qn_value.specs.Blocks.{legs_on}
use Rattle.qn_value.proofs.BlockRows.{all-nil, all-cons}
use Rattle.qn_value.proofs.PlacedLemmas.{all_first, all_others}
use Rattle.qn_net.specs.Groups.{TensorGroup, flux_of}
use Rattle.qn_net.specs.Plans.{start}
use Rattle.qn_net.specs.Members.{LabelledMember, member_tensor, role_of, placed_member, IsMemberOf, IsHeld, HasShape, MemberLaw}
use Rattle.qn_net.specs.NetworkValues.{NetworkValue, PlacedMember, legs_of, sectors, bonds, begin, member_of, IsWellFormed, NetworkValueLaw}
use Rattle.qn_net.specs.Operations.{IsTensorOf, AreTensorsOf, FirstTensorsLaw}
use Rattle.qn_net.proofs.PartLemmas.{map-append}
use Rattle.qn_plan.specs.Shapes.{ShapeValue, WalkValue, shape_of, member_shape, member_shapes, inner_labels, place_label, sorted_labels}
use Rattle.qn_plan.specs.Reached.{IsFitting, AreFitting, member_count, IsReached}
use Rattle.qn_plan.specs.Planned.{StepValue}

abbrev placed_of : List LabelledMember → List Placed
placed_of ms = map (λ m. m.placed) (map placed_member ms)

abbrev groups_of : ℕ → List LabelledMember → List TensorGroup
groups_of n ms = start n (map member_of (map placed_member ms))

-- each member has a label for each leg
pub labels_long : (fs : List Factor) (ms : List LabelledMember) → AllPlaced fs (placed_of ms) → All (λ m. length m.labels ≡ length (member_tensor m.member).legs) ms
labels_long fs [] h = all-nil (λ (m : LabelledMember). length m.labels ≡ length (member_tensor m.member).legs)
labels_long fs (m ∷ ms) h = all-cons (λ (k : LabelledMember). length k.labels ≡ length (member_tensor k.member).legs) m ms h.0.labels (labels_long fs ms h.1)

-- one member more
shapes_suc : (n i k : ℕ) (ms : List LabelledMember) (m : LabelledMember) → i < length ms → m ≡ get_or ms i m → k ≡ n + i →
    member_shapes n (take (suc i) ms) ≡ member_shapes n (take i ms) ++ member_shape k (member_tensor m.member) m.labels (role_of m.member) ∷ []
shapes_suc n i k [] m h e q = absurd (omega (arith, h))
shapes_suc n zero k (x ∷ ms) m h e q =
    ap₂ (λ (l : ℕ) (y : LabelledMember). let s : ShapeValue = member_shape l (member_tensor y.member) y.labels (role_of y.member) in s ∷ []) (sym (q ∙ omega arith)) (sym e)
shapes_suc n (suc i) k (x ∷ ms) m h e q =
    ap (λ ss. member_shape n (member_tensor x.member) x.labels (role_of x.member) ∷ ss) (shapes_suc (suc n) i k ms m (omega (arith, h)) e (omega (arith, q)))

pub shapes_more : (i k : ℕ) (ms : List LabelledMember) (m : LabelledMember) → i < length ms → m ≡ get_or ms i m → k ≡ i + 1 →
    member_shapes 1 (take (i + 1) ms) ≡ member_shapes 1 (take i ms) ++ member_shape k (member_tensor m.member) m.labels (role_of m.member) ∷ []
shapes_more i k ms m h e q =
    subst (λ j. member_shapes 1 (take j ms) ≡ member_shapes 1 (take i ms) ++ member_shape k (member_tensor m.member) m.labels (role_of m.member) ∷ []) (sym (add-one i))
    (shapes_suc 1 i k ms m h e (omega (arith, q)))

-- labels, ascending

labels_placed : (b : Bond) (cs : List Bond) → labels (place_bond b cs) ≡ place_label b.label (labels cs)
labels_placed b [] = refl
labels_placed b (c ∷ cs) = go (int_lt b.label c.label) (labels_placed b cs)
  where
    go : (t : Bool) → labels (place_bond b cs) ≡ place_label b.label (labels cs) →
        labels (if t then b ∷ c ∷ cs else c ∷ place_bond b cs) ≡ (if t then b.label ∷ c.label ∷ labels cs else c.label ∷ place_label b.label (labels cs))
    go true e = refl
    go false e = ap (λ ls. c.label ∷ ls) e

labels_ordered : (bs : List Bond) → labels (in_label_order bs) ≡ sorted_labels (labels bs)
labels_ordered [] = refl
labels_ordered (b ∷ bs) = labels_placed b (in_label_order bs) ∙ ap (place_label b.label) (labels_ordered bs)

labels_from : (tw : List ℤ) (ss : List Slot) → labels (bonds_from tw ss) ≡ inner_labels (ends ss)
labels_from tw [] = refl
labels_from tw (s ∷ ss) = go (s.end.inward && is_positive s.end.label) (labels_from tw ss)
  where
    go : (t : Bool) → labels (bonds_from tw ss) ≡ inner_labels (ends ss) →
        labels (if t then bond_at tw s ∷ bonds_from tw ss else bonds_from tw ss) ≡ map (λ (e : End). e.label) (cond t (s.end ∷ filter (λ e. e.inward && is_positive e.label) (ends ss)) (filter (λ e. e.inward && is_positive e.label) (ends ss)))
    go true e = ap (λ ls. s.end.label ∷ ls) e
    go false e = e

inner-append : (es ds : List End) → inner_labels (es ++ ds) ≡ inner_labels es ++ inner_labels ds
inner-append es ds =
    ap (map (λ (e : End). e.label)) (filter-append (λ (e : End). e.inward && is_positive e.label) es ds)
    ∙ map-append (λ (e : End). e.label) (filter (λ e. e.inward && is_positive e.label) es) (filter (λ e. e.inward && is_positive e.label) ds)

inner_flat : (n : ℕ) (ms : List LabelledMember) → inner_labels (ends (slots (placed_of ms))) ≡ flat_map (λ s. inner_labels s.ends) (member_shapes n ms)
inner_flat n [] = refl
inner_flat n (m ∷ ms) =
    ap inner_labels (map-append (λ (s : Slot). s.end) (slots_of (member_tensor m.member).legs m.labels) (slots (placed_of ms)))
    ∙ inner-append (ends (slots_of (member_tensor m.member).legs m.labels)) (ends (slots (placed_of ms)))
    ∙ ap (λ ls. inner_labels (ends (slots_of (member_tensor m.member).legs m.labels)) ++ ls) (inner_flat (suc n) ms)

-- how many there are

place_length : (l : ℤ) (ks : List ℤ) → length (place_label l ks) ≡ suc (length ks)
place_length l [] = refl
place_length l (k ∷ ks) = go (int_lt l k) (place_length l ks)
  where
    go : (t : Bool) → length (place_label l ks) ≡ suc (length ks) → length (if t then l ∷ k ∷ ks else k ∷ place_label l ks) ≡ suc (suc (length ks))
    go true e = refl
    go false e = ap suc e

sorted_length : (ls : List ℤ) → length (sorted_labels ls) ≡ length ls
sorted_length [] = refl
sorted_length (l ∷ ls) = place_length l (sorted_labels ls) ∙ ap suc (sorted_length ls)

inner_length : (es : List End) → length (inner_labels es) ≤ length es
inner_length [] = omega arith
inner_length (e ∷ es) = go (e.inward && is_positive e.label) (inner_length es)
  where
    go : (t : Bool) → length (inner_labels es) ≤ length es →
        length (map (λ (d : End). d.label) (cond t (e ∷ filter (λ d. d.inward && is_positive d.label) es) (filter (λ d. d.inward && is_positive d.label) es))) ≤ suc (length es)
    go true k = omega (arith, k)
    go false k = omega (arith, k)

ends_length : (ls : List LegValue) (ks : List ℤ) → length (ends (slots_of ls ks)) ≤ length ls
ends_length [] ks = omega arith
ends_length (l ∷ ls) [] = omega arith
ends_length (l ∷ ls) (k ∷ ks) = let e : length (ends (slots_of ls ks)) ≤ length ls = ends_length ls ks in omega (arith, e)

flat_length : (fs : List Factor) (n : ℕ) (ms : List LabelledMember) → All (IsMemberOf fs) ms → length (flat_map (λ s. inner_labels s.ends) (member_shapes n ms)) ≤ 32 * length ms
flat_length fs n [] h = omega arith
flat_length fs n (m ∷ ms) h =
    let ih = flat_length fs (suc n) ms (all_others (IsMemberOf fs) m ms h) in
    let one = inner_length (ends (slots_of (member_tensor m.member).legs m.labels)) in
    let two = ends_length (member_tensor m.member).legs m.labels in
    let three = (all_first (IsMemberOf fs) m ms h).few in
    let sum = length-append (inner_labels (ends (slots_of (member_tensor m.member).legs m.labels))) (flat_map (λ (s : ShapeValue). inner_labels s.ends) (member_shapes (suc n) ms)) in
    omega (arith, ih, one, two, three, sum)

shapes_length : (n : ℕ) (ms : List LabelledMember) → length (member_shapes n ms) ≡ length ms
shapes_length n [] = refl
shapes_length n (m ∷ ms) = ap suc (shapes_length (suc n) ms)

groups_count : (n : ℕ) (ms : List LabelledMember) → member_count (groups_of n ms) ≡ length ms
groups_count n [] = refl
groups_count n (m ∷ ms) = let e : member_count (groups_of (suc n) ms) ≡ length ms = groups_count (suc n) ms in omega (arith, e)

module _ (fs : List Factor) (sec : ℤ → List SectorValue) where
  shapes_are : (n : ℕ) (ms : List LabelledMember) → AreTensorsOf fs sec (placed_of ms) (groups_of n ms) → member_shapes n ms ≡ map (shape_of fs sec) (groups_of n ms)
  shapes_are n [] h = refl
  shapes_are n (m ∷ ms) h = λ i. mk (h.0.node.legs i) (h.0.flux i) ∷ shapes_are (suc n) ms h.1 i
    where
      mk : List LegValue → List ℤ → ShapeValue
      mk ls q = record { number = n; ends = ends (slots_of (member_tensor m.member).legs m.labels); legs = ls; flux = q; role = role_of m.member }

  fit_one : (m : LabelledMember) (g : TensorGroup) → IsTensorOf fs sec (placed_member m).placed g → IsMemberOf fs m → HasShape (member_tensor m.member) → length g.members ≡ 1 → IsFitting fs sec g
  fit_one m g h k s one = record {
    sound = subst (All IsSound) h.node.legs s.tensor.legs;
    charges = subst (All (IsLegOf fs)) h.node.legs (subst (λ gs. All (IsLegOf gs) (member_tensor m.member).legs) k.group s.tensor.charges);
    flux = subst (λ n. IsWithin (n * 2 ^ 41) fs (flux_of fs g)) (sym one) (subst (IsWithin (1 * 2 ^ 41) fs) h.flux k.flux);
    narrow =
        subst (λ q. IsWithinLimits fs (legs_on sec g.node.ends) q) h.flux
        (subst (λ ls. IsWithinLimits fs ls (member_tensor m.member).flux) h.node.legs (subst (λ gs. IsWithinLimits gs (member_tensor m.member).legs (member_tensor m.member).flux) k.group s.shape));
  }

  fit_all : MemberLaw → (n : ℕ) (ms : List LabelledMember) → AreTensorsOf fs sec (placed_of ms) (groups_of n ms) → All (IsMemberOf fs) ms → All (λ m. IsHeld m.member) ms → AreFitting fs sec (groups_of n ms)
  fit_all law n [] h k held = tt
  fit_all law n (m ∷ ms) h k held = (
    fit_one m _ h.0 (all_first (IsMemberOf fs) m ms k) (law fs m (all_first (λ x. IsHeld x.member) m ms held) (all_first (IsMemberOf fs) m ms k)) refl,
    fit_all law (suc n) ms h.1 (all_others (IsMemberOf fs) m ms k) (all_others (λ x. IsHeld x.member) m ms held),
  )

-- the members are within the limits
module _ (first : FirstTensorsLaw) (law : MemberLaw) (net : NetworkValue) (wf : IsWellFormed net) (ms : List LabelledMember) (e : map placed_member ms ≡ net.members) (each : All (IsMemberOf net.group) ms)
    (held : All (λ m. IsHeld m.member) ms) where
  pub begun_tensors : AreTensorsOf net.group (sectors net) (placed_of ms) (groups_of 1 ms)
  begun_tensors = subst (λ ps. AreTensorsOf net.group (sectors net) (map (λ (m : PlacedMember). m.placed) ps) (start 1 (map member_of ps))) (sym e) (first net wf).0

  pub begun_fitting : AreFitting net.group (sectors net) (begin net).groups
  begun_fitting = subst (λ ps. AreFitting net.group (sectors net) (start 1 (map member_of ps))) e (fit_all net.group (sectors net) law 1 ms begun_tensors each held)

pub begun_members : (net : NetworkValue) (ms : List LabelledMember) → map placed_member ms ≡ net.members → length ms ≤ 256 → member_count (begin net).groups ≤ 256
begun_members net ms e few = subst (λ ps. member_count (start 1 (map member_of ps)) ≤ 256) e (subst (λ n. n ≤ 256) (sym (groups_count 1 ms)) few)

-- before the first step
pub begun : FirstTensorsLaw → NetworkValueLaw → MemberLaw → (net : NetworkValue) → IsWellFormed net → (ms : List LabelledMember) → map placed_member ms ≡ net.members → All (IsMemberOf net.group) ms → length ms ≤ 256 →
    All (λ m. IsHeld m.member) ms → (ss : List ShapeValue) (ls : List ℤ) → ss ≡ member_shapes 1 ms → ls ≡ sorted_labels (flat_map (λ s. inner_labels s.ends) ss) →
    IsReached net net.order [] (record { shapes = ss; left = ls })
begun first value law net wf ms e each few held ss ls es el = record {
  done = [];
  planned = refl;
  narrow = refl;
  steps = refl;
  sound = (value net wf).0;
  walk = ap₂ (λ (xs : List ShapeValue) (ks : List ℤ). let w : WalkValue = record { shapes = xs; left = ks } in w) shapes left;
  fitting = begun_fitting first law net wf ms e each held;
  members = begun_members net ms e few;
  cheap = all-nil (λ (t : StepValue). t.cost ≤ 2 ^ 44);
  few = short;
}
  where
    shapes : ss ≡ map (shape_of net.group (sectors net)) (begin net).groups
    shapes = es ∙ shapes_are net.group (sectors net) 1 ms (begun_tensors first law net wf ms e each held) ∙ ap (λ ps. map (shape_of net.group (sectors net)) (start 1 (map member_of ps))) e

    left : ls ≡ labels (bonds net)
    left =
        el ∙ ap (λ (xs : List ShapeValue). sorted_labels (flat_map (λ s. inner_labels s.ends) xs)) es
        ∙ ap sorted_labels (sym (inner_flat 1 ms))
        ∙ ap (λ ps. sorted_labels (inner_labels (ends (slots (map (λ (m : PlacedMember). m.placed) ps))))) e
        ∙ ap sorted_labels (sym (labels_from net.twists (legs_of net)))
        ∙ sym (labels_ordered (bonds_from net.twists (legs_of net)))

    short : length {A = ℕ} [] + (length ls + length ss) ≤ 8448
    short =
        let a : length ss ≡ length ms = ap (λ (xs : List ShapeValue). length xs) es ∙ shapes_length 1 ms in
        let b : length ls ≡ length (flat_map (λ (s : ShapeValue). inner_labels s.ends) (member_shapes 1 ms)) =
        ap (λ (ks : List ℤ). length ks) (el ∙ ap (λ (xs : List ShapeValue). sorted_labels (flat_map (λ s. inner_labels s.ends) xs)) es) ∙ sorted_length (flat_map (λ s. inner_labels s.ends) (member_shapes 1 ms)) in
        let c = flat_length net.group 1 ms each in
        omega (arith, a, b, c, few)
