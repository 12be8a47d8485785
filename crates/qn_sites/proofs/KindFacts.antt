-- What holds of the kinds that are built in.
use Rattle.std.proofs.Common.{Contains, ◌≡◌, ◌≢◌, ℕ, ℤ, pos, negsuc, zero, suc, ◌+◌, ◌-◌, ◌*◌, ◌/◌, ◌%◌, ◌==◌, ◌&&◌, ◌≤◌, ◌<◌, ◌⊎◌, inl, inr, List, [], ◌∷◌, ◌++◌, length, get_or, map, take, arith, refl, ap, ap₂, ◌∙◌, sym, subst, Bool, true, false, cond}
use Rattle.std.specs.Prelude.{nat_lt}
use Rattle.std.specs.Cmp.{unsigned_Decides}
use Rattle.std.proofs.lemmas.Bool.Decides.{nat_tests}
use Rattle.std.specs.Cmp.Lexicographic.{nat_list_cmp_total}
use Rattle.std.specs.List.{All, AllPairs}
use Rattle.std.proofs.lemmas.List.Elements.{All-nil, All-cons, All-map}
use Rattle.std.proofs.lemmas.List.{get_or-map, length-map, map-append, map_more}
use Rattle.std.proofs.lemmas.List.FromFn.{get_or-map-range_with_len, length-map-range_with_len}
use Rattle.std.proofs.lemmas.Simd.{map-map}
use Rattle.std.proofs.lemmas.List.Kept.{AllPairs-cons}
use Rattle.std.proofs.lemmas.Bool.{false≢true}
use Rattle.qn_gauss.specs.Gaussian.{Gaussian, zero_g}
use Rattle.qn_charge.specs.declared.factor.Factor.{Factor}
use Rattle.qn_charge.specs.Charges.{IsCanonical, IsWithin, sum_charge, neg_charge}
use Rattle.qn_charge.specs.Laws.{length_canonical, none_out_of_range}
use Rattle.qn_index.specs.Legs.{SectorValue, charge_at, no_sector, sector_at, sector_of, total}
use Rattle.qn_index.proofs.Shapes.{below_product}
use Rattle.qn_sites.specs.declared.fault.SiteFault.{SiteFault}
use Rattle.qn_sites.specs.declared.fault.SiteFault.TheVariants.{SiteKind, OpCharge, Memory}
use Rattle.qn_sites.specs.Operators.{carried}
use Rattle.qn_sites.specs.Refusals.{BadHead, IsClean, IsOwnFault, no_op}
use Rattle.qn_sites.specs.Sites.{AreAscending, GivenOp, identity_name}
use Rattle.qn_sites.specs.Kinds.{AllCarry, EntryRow, IsKind, IsKindOp, KindRow, OpRow, electron, fermion, filled, kind_leg, kind_op, kinds, spin_half, value_at}
use Rattle.qn_sites.proofs.Ascents.{IsBelow, from_pairs}
use Rattle.qn_facts.proofs.Lists.{all_two, all_three, unmapped}

all4 : {X : Type 0} (P : X → Type 0) (a b c d : X) → P a → P b → P c → P d → All P (a ∷ b ∷ c ∷ d ∷ [])
all4 P a b c d p q r s = All-cons P a (b ∷ c ∷ d ∷ []) p (all_three P b c d q r s)

all6 : {X : Type 0} (P : X → Type 0) (a b c d e f : X) → P a → P b → P c → P d → P e → P f → All P (a ∷ b ∷ c ∷ d ∷ e ∷ f ∷ [])
all6 P a b c d e f p q r s t u = All-cons P a (b ∷ c ∷ d ∷ e ∷ f ∷ []) p (All-cons P b (c ∷ d ∷ e ∷ f ∷ []) q (all4 P c d e f r s t u))

-- neighbours ascend
abbrev Rises : List (List ℕ) → Type 0
Rises [] = Unit {0}
Rises (n ∷ []) = Unit {0}
Rises (n ∷ m ∷ ns) = IsBelow n m × Rises (m ∷ ns)

below_all : (n m : List ℕ) (ns : List (List ℕ)) → IsBelow n m → Rises (m ∷ ns) → All (IsBelow n) (m ∷ ns)
below_all n m [] h r = All-cons (IsBelow n) m [] h (All-nil (IsBelow n))
below_all n m (o ∷ os) h r = All-cons (IsBelow n) m (o ∷ os) h (below_all n o os (nat_list_cmp_total.trans n m o h r.0) r.1)

risen : (ns : List (List ℕ)) → Rises ns → AllPairs IsBelow ns
risen [] r = λ i j d lt h. absurd (omega arith)
risen (n ∷ []) r = AllPairs-cons IsBelow n [] (All-nil (IsBelow n)) (λ i j d lt h. absurd (omega arith))
risen (n ∷ m ∷ ns) r = AllPairs-cons IsBelow n (m ∷ ns) (below_all n m ns r.0 r.1) (risen (m ∷ ns) r.1)

abbrev IsCharge : List Factor → List ℤ → Type 0
IsCharge fs q = IsCanonical fs q × IsWithin 1000000000 fs q

not_identity : (c : ℕ) (cs : List ℕ) → (c == 73) ≡ false → (c ∷ cs) ≢ identity_name
not_identity c cs e h = let same : c ≡ 73 = ap (λ l. get_or l 0 0) h in absurd (false≢true (sym e ∙ (unsigned_Decides c 73).1 same))

op_is : (k : KindRow) (c : ℕ) (cs : List ℕ) (q : List ℤ) (es : List EntryRow) → (c == 73) ≡ false → IsCanonical k.factors q → IsWithin 10000000 k.factors q → AllCarry k.factors k.charges q es →
    IsKindOp k (record { name = c ∷ cs; charge = q; entries = es })
op_is k c cs q es named canonical within carry = record { named = not_identity c cs named; canonical = canonical; within = within; carry = carry }

spin_half_is : IsKind spin_half
spin_half_is =
    record {
      group = (tt, tt);
      some = omega arith;
      few = omega arith;
      charges = all_two (IsCharge spin_half.factors) (pos 1 ∷ []) (negsuc 0 ∷ []) ((tt, refl), (omega arith, tt)) ((tt, refl), (omega arith, tt));
      count = omega arith;
      ascending = from_pairs (map (λ (o : OpRow). o.name) spin_half.ops) (risen (map (λ (o : OpRow). o.name) spin_half.ops) (refl, (refl, tt)));
      ops = all_three (IsKindOp spin_half) _ _ _
          (op_is spin_half _ _ _ _ refl (tt, refl) (omega arith, tt) (refl, tt))
          (op_is spin_half _ _ _ _ refl (tt, refl) (omega arith, tt) (refl, tt))
          (op_is spin_half _ _ _ _ refl (tt, refl) (omega arith, tt) (refl, (refl, tt)));
    }

fermion_is : IsKind fermion
fermion_is =
    record {
      group = (tt, tt);
      some = omega arith;
      few = omega arith;
      charges = all_two (IsCharge fermion.factors) (pos 0 ∷ []) (pos 1 ∷ []) ((tt, refl), (omega arith, tt)) ((tt, refl), (omega arith, tt));
      count = omega arith;
      ascending = from_pairs (map (λ (o : OpRow). o.name) fermion.ops) (risen (map (λ (o : OpRow). o.name) fermion.ops) (refl, (refl, tt)));
      ops = all_three (IsKindOp fermion) _ _ _
          (op_is fermion _ _ _ _ refl (tt, refl) (omega arith, tt) (refl, tt))
          (op_is fermion _ _ _ _ refl (tt, refl) (omega arith, tt) (refl, tt))
          (op_is fermion _ _ _ _ refl (tt, refl) (omega arith, tt) (refl, tt));
    }

electron_is : IsKind electron
electron_is =
    record {
      group = (tt, (tt, tt));
      some = omega arith;
      few = omega arith;
      charges = all4 (IsCharge electron.factors) (pos 0 ∷ pos 0 ∷ []) (pos 1 ∷ pos 1 ∷ []) (pos 1 ∷ negsuc 0 ∷ []) (pos 2 ∷ pos 0 ∷ [])
          ((tt, (tt, refl)), (omega arith, (omega arith, tt))) ((tt, (tt, refl)), (omega arith, (omega arith, tt)))
          ((tt, (tt, refl)), (omega arith, (omega arith, tt))) ((tt, (tt, refl)), (omega arith, (omega arith, tt)));
      count = omega arith;
      ascending = from_pairs (map (λ (o : OpRow). o.name) electron.ops) (risen (map (λ (o : OpRow). o.name) electron.ops) (refl, (refl, (refl, (refl, (refl, tt))))));
      ops = all6 (IsKindOp electron) _ _ _ _ _ _
          (op_is electron _ _ _ _ refl (tt, (tt, refl)) (omega arith, (omega arith, tt)) (refl, (refl, tt)))
          (op_is electron _ _ _ _ refl (tt, (tt, refl)) (omega arith, (omega arith, tt)) (refl, (refl, tt)))
          (op_is electron _ _ _ _ refl (tt, (tt, refl)) (omega arith, (omega arith, tt)) (refl, (refl, tt)))
          (op_is electron _ _ _ _ refl (tt, (tt, refl)) (omega arith, (omega arith, tt)) (refl, (refl, tt)))
          (op_is electron _ _ _ _ refl (tt, (tt, refl)) (omega arith, (omega arith, tt)) (refl, (refl, tt)))
          (op_is electron _ _ _ _ refl (tt, (tt, refl)) (omega arith, (omega arith, tt)) (refl, (refl, tt)));
    }

-- a kind is one of the three
which : (k : KindRow) → Contains kinds k → (spin_half ≡ k) ⊎ (fermion ≡ k) ⊎ (electron ≡ k)
which k c = by c.0 c.1 c.2
  where
    by : (i : ℕ) → i < 3 → get_or kinds i k ≡ k → (spin_half ≡ k) ⊎ (fermion ≡ k) ⊎ (electron ≡ k)
    by zero lt e = inl e
    by (suc zero) lt e = inr (inl e)
    by (suc (suc zero)) lt e = inr (inr e)
    by (suc (suc (suc i))) lt e = absurd (omega arith)

pub kind_is : (k : KindRow) → Contains kinds k → IsKind k
kind_is k c = by (which k c)
  where
    by : (spin_half ≡ k) ⊎ (fermion ≡ k) ⊎ (electron ≡ k) → IsKind k
    by (inl e) = subst IsKind e spin_half_is
    by (inr (inl e)) = subst IsKind e fermion_is
    by (inr (inr e)) = subst IsKind e electron_is

-- kinds of one name are the same
pub one_kind : (k m : KindRow) → Contains kinds k → Contains kinds m → k.name ≡ m.name → k ≡ m
one_kind k m c d e = by (which k c) (which m d)
  where
    name_of : KindRow → List ℕ
    name_of r = r.name

    clash : (a b : KindRow) → a ≡ k → b ≡ m → (get_or a.name 0 0 == get_or b.name 0 0) ≡ false → k ≡ m
    clash a b p q f =
        let same : a.name ≡ b.name = ap (λ (r : KindRow). r.name) p ∙ (e ∙ sym (ap (λ (r : KindRow). r.name) q)) in
        absurd (false≢true (sym f ∙ (unsigned_Decides (get_or a.name 0 0) (get_or b.name 0 0)).1 (ap (λ l. get_or l 0 0) same)))

    by : (spin_half ≡ k) ⊎ (fermion ≡ k) ⊎ (electron ≡ k) → (spin_half ≡ m) ⊎ (fermion ≡ m) ⊎ (electron ≡ m) → k ≡ m
    by (inl p) (inl q) = sym p ∙ q
    by (inl p) (inr (inl q)) = clash spin_half fermion p q refl
    by (inl p) (inr (inr q)) = clash spin_half electron p q refl
    by (inr (inl p)) (inl q) = clash fermion spin_half p q refl
    by (inr (inl p)) (inr (inl q)) = sym p ∙ q
    by (inr (inl p)) (inr (inr q)) = clash fermion electron p q refl
    by (inr (inr p)) (inl q) = clash electron spin_half p q refl
    by (inr (inr p)) (inr (inl q)) = clash electron fermion p q refl
    by (inr (inr p)) (inr (inr q)) = sym p ∙ q

-- ---- the lists of a kind as the program holds them

pub charge_lengths : (k : KindRow) → IsKind k → All (λ q. length q ≡ length k.factors) k.charges
charge_lengths k h i d lt = length_canonical k.factors (get_or k.charges i d) (h.charges i d lt).0

pub op_lengths : (k : KindRow) → IsKind k → All (λ (o : OpRow). length o.charge ≡ length k.factors) k.ops
op_lengths k h i d lt = length_canonical k.factors (get_or k.ops i d).charge (h.ops i d lt).canonical

-- ---- legs whose sectors have one value each

abbrev single : List ℤ → SectorValue
single q = record { charge = q; dim = 1 }

pub total_single : (qs : List (List ℤ)) → total (map single qs) ≡ length qs
total_single [] = refl
total_single (q ∷ qs) = let ih = total_single qs in omega arith

single_at : (qs : List (List ℤ)) (i : ℕ) → i < length qs → sector_at (map single qs) i ≡ single (get_or qs i [])
single_at qs i lt = get_or-map single qs i [] no_sector lt

sector_single : (qs : List (List ℤ)) (v : ℕ) → v < length qs → sector_of (map single qs) v ≡ v
sector_single [] v lt = absurd (omega arith)
sector_single (q ∷ qs) zero lt = refl
sector_single (q ∷ qs) (suc v) lt =
    ap (λ b. cond b 0 (suc (sector_of (map single qs) (suc v - 1)))) (past v)
    ∙ (ap (λ x. suc (sector_of (map single qs) x)) (back v) ∙ ap suc (sector_single qs v (omega arith)))
  where
    past : (v : ℕ) → nat_lt (suc v) 1 ≡ false
    past v = grind (arith, nat_tests)

    back : (v : ℕ) → suc v - 1 ≡ v
    back v = omega arith

charge_single : (qs : List (List ℤ)) (v : ℕ) → v < length qs → charge_at (map single qs) v ≡ get_or qs v []
charge_single qs v lt =
    ap (λ i. (sector_at (map single qs) i).charge) (sector_single qs v lt) ∙ ap (λ (s : SectorValue). s.charge) (single_at qs v lt)

-- an entry other than 0 carries the charge
value_carries : (fs : List Factor) (qs : List (List ℤ)) (q : List ℤ) (es : List EntryRow) (r c : ℕ) → r < length qs → c < length qs → AllCarry fs qs q es → value_at es r c ≢ zero_g →
    carried fs (map single qs) r c ≡ q
value_carries fs qs q [] r c l m h some = absurd (some refl)
value_carries fs qs q (e ∷ es) r c l m h some =
    by (e.row == r) refl (e.column == c) refl
    (λ f. value_carries fs qs q es r c l m h.1
    (λ z. some (ap (λ t. cond t (record { re = e.value; im = pos 0 }) (value_at es r c)) f ∙ z)))
  where
    by : (a : Bool) → (e.row == r) ≡ a → (b : Bool) → (e.column == c) ≡ b → ((e.row == r && e.column == c) ≡ false → carried fs (map single qs) r c ≡ q) → carried fs (map single qs) r c ≡ q
    by true p true s rest =
        ap (λ x. sum_charge fs x (neg_charge fs (charge_at (map single qs) c))) (charge_single qs r l ∙ ap (λ x. get_or qs x []) (sym ((unsigned_Decides e.row r).0 p)))
        ∙ (ap (λ x. sum_charge fs (get_or qs e.row []) (neg_charge fs x)) (charge_single qs c m ∙ ap (λ x. get_or qs x []) (sym ((unsigned_Decides e.column c).0 s)))
        ∙ h.0)
    by true p false s rest = rest (ap (λ x. x && (e.column == c)) p ∙ s)
    by false p b s rest = rest (ap (λ x. x && (e.column == c)) p)

-- nothing is at fault in an operator of a kind
kind_clean : (k : KindRow) (o : OpRow) → IsKind k → IsKindOp k o → IsClean k.factors (kind_leg k) (kind_op (length k.charges) o)
kind_clean k o h op =
    record {
      head = head;
      entries = λ i bad. bad.1.other (carries i bad.0 bad.1.some);
    }
  where
    head : BadHead k.factors o.name o.charge → ⊥
    head (inl e) = op.named e
    head (inr p) = none_out_of_range 10000000 k.factors o.charge op.canonical op.within p.0 p.1

    carries : (i : ℕ) → i < length (filled (length k.charges) o.entries) → get_or (filled (length k.charges) o.entries) i zero_g ≢ zero_g →
        carried k.factors (kind_leg k).sectors (i / total (kind_leg k).sectors) (i % total (kind_leg k).sectors) ≡ o.charge
    carries i lt some =
        let n = length k.charges in
        let f : ℕ → Gaussian = λ j. value_at o.entries (j / n) (j % n) in
        let within : i < n * n = subst (λ m. i < m) (length-map-range_with_len f 0 (n * n)) lt in
        let at : get_or (filled n o.entries) i zero_g ≡ value_at o.entries (i / n) (i % n) = get_or-map-range_with_len f 0 (n * n) i i zero_g within (omega arith) in
        let place = below_product i n n within in
        ap (λ m. carried k.factors (kind_leg k).sectors (i / m) (i % m)) (total_single k.charges)
        ∙ value_carries k.factors k.charges o.charge o.entries (i / n) (i % n) place.1 place.2 op.carry (λ z. some (at ∙ z))

-- so `own` refuses none of them
pub no_own_fault : (k : KindRow) (e : SiteFault) → IsKind k → IsOwnFault k.factors (kind_leg k) (map (kind_op (length k.charges)) k.ops) e → e ≡ Memory
no_own_fault k SiteKind h f = absurd f
no_own_fault k Memory h f = refl
no_own_fault k (OpCharge i p) h f =
    let bad = f.0.here in
    let lt : i < length k.ops = subst (λ n. i < n) (length-map k.ops (kind_op (length k.charges))) bad.0 in
    let nothing : OpRow = record { name = []; charge = []; entries = [] } in
    absurd (bad.1 (subst (IsClean k.factors (kind_leg k)) (sym (get_or-map (kind_op (length k.charges)) k.ops i nothing no_op lt)) (kind_clean k (get_or k.ops i nothing) h (h.ops i nothing lt))))

-- a kind's operators have all their entries
pub kind_full : (k : KindRow) → All (λ (g : GivenOp). length g.entries ≡ total (kind_leg k).sectors * total (kind_leg k).sectors) (map (kind_op (length k.charges)) k.ops)
kind_full k =
    All-map (λ (g : GivenOp). length g.entries ≡ total (kind_leg k).sectors * total (kind_leg k).sectors) (kind_op (length k.charges)) k.ops
    (λ i d lt. length-map-range_with_len (λ j. value_at (get_or k.ops i d).entries (j / length k.charges) (j % length k.charges)) 0 (length k.charges * length k.charges)
    ∙ ap (λ n. n * n) (sym (total_single k.charges)))

-- what `own` asks, of operators that are those of the kind
pub kind_names : {X : Type 0} (k : KindRow) (xs : List X) (f : X → GivenOp) → IsKind k → map f xs ≡ map (kind_op (length k.charges)) k.ops → AreAscending (map (λ x. (f x).name) xs)
kind_names k xs f h e =
    subst AreAscending (sym (sym (map-map (λ (g : GivenOp). g.name) f xs) ∙ (ap (map (λ (g : GivenOp). g.name)) e ∙ map-map (λ (g : GivenOp). g.name) (kind_op (length k.charges)) k.ops))) h.ascending

pub kind_entries : {X : Type 0} (k : KindRow) (xs : List X) (f : X → GivenOp) → map f xs ≡ map (kind_op (length k.charges)) k.ops →
    All (λ x. length (f x).entries ≡ total (kind_leg k).sectors * total (kind_leg k).sectors) xs
kind_entries k xs f e =
    unmapped (λ (g : GivenOp). length g.entries ≡ total (kind_leg k).sectors * total (kind_leg k).sectors) f xs
    (subst (All (λ (g : GivenOp). length g.entries ≡ total (kind_leg k).sectors * total (kind_leg k).sectors)) (sym e) (kind_full k))

pub kind_count : {X : Type 0} (k : KindRow) (xs : List X) (f : X → GivenOp) → IsKind k → map f xs ≡ map (kind_op (length k.charges)) k.ops → length xs ≤ 64
kind_count k xs f h e = omega (arith, h.count, length-map xs f, ap length e, length-map k.ops (kind_op (length k.charges)))

-- one more of a list that is made from another
pub made_more : {X Y Z : Type 0} (f : X → Z) (h : Y → Z) (xs new : List X) (ys : List Y) (i : ℕ) (x : X) (y : Y) → map f xs ≡ map h (take i ys) → new ≡ xs ++ x ∷ [] → i < length ys → f x ≡ h (get_or ys i y) →
    map f new ≡ map h (take (i + 1) ys)
made_more f h xs new ys i x y old e lt same =
    ap (map f) e ∙ (map-append f xs (x ∷ []) ∙ (ap₂ (λ zs z. zs ++ z ∷ []) old same ∙ sym (map_more h ys i y lt)))
