-- Values of the legs among those of the fused leg: each stands there once, and has the charge of its sector.
use Rattle.std.proofs.Common.{Contains, ◌≡◌, ◌≢◌, ℕ, ℤ, zero, suc, ◌+◌, ◌-◌, ◌≤◌, ◌<◌, List, [], ◌∷◌, ◌++◌, length, get_or, set, take, map, flat_map, arith, refl, ap, ◌∙◌, sym, subst, ◌⊎◌, inl, inr, ⊎_elim, Bool, true, false, nat_lt, if◌then◌else◌}
use Rattle.std.specs.List.{All}
use Rattle.std.specs.Cmp.Lexicographic.{slice_cmp}
use Rattle.std.specs.Ordering.{int_cmp, nat_cmp}
use Rattle.std.specs.declared.cmp.Ordering.TheVariants.{Less, Equal}
use Rattle.std.proofs.lemmas.Cmp.{tied_itself}
use Rattle.std.proofs.lemmas.Bool.{cases_lt, false≢true, lt-ltb, le-ltb}
use Rattle.std.proofs.lemmas.List.{get_or_default, length-append, get_or-set_same, get_or-set_other}
use Rattle.std.proofs.lemmas.List.Elements.{All-nil, All-contains, Contains-append_cases, Contains-append_left, Contains-append_right, Contains-get_or}
use Rattle.qn_charge.specs.declared.factor.Factor.{Factor}
use Rattle.qn_charge.specs.Charges.{IsGroup, IsCanonical}
use Rattle.qn_charge.specs.Laws.{neg_of_neg, canonical_neg}
use Rattle.qn_index.specs.declared.leg.Dir.{Dir}
use Rattle.qn_index.specs.declared.leg.Dir.TheVariants.{Out, In}
use Rattle.qn_index.specs.Legs.{LegValue, total, charge_at, sector_at, sector_of}
use Rattle.qn_index.specs.Tuples.{IsTuple, IsAdmissible, net, turned, tuples, admitted, count}
use Rattle.qn_index.specs.Places.{IsValues, IsInner, block_size, values_at, sectors_at, offset_at, offset_of}
use Rattle.qn_index.specs.Extents.{size_of}
use Rattle.qn_index.proofs.Admitted.{listed, unlisted, net_canonical, admitted_ascend}
use Rattle.qn_index.proofs.Shapes.{contains_tuple, rank, rank_is, nth_tuple}
use Rattle.qn_index.proofs.Places.{back, forth, values_in as place_in_range}
use Rattle.qn_value.proofs.Values.{same_values-equal}
use Rattle.qn_value.specs.Tensors.{same_values}
use Rattle.qn_block.specs.Combiners.{CombinerValue, StartValue, IsCombiner, AreTuples, IsIndex, start_at, starts_from, fused_starts, fused_charge, fused_charges, fused_sectors, fused_values, stands_at, values_in, values_with, tuples_with, sector_with, ascending_once}
use Rattle.qn_block.proofs.Rows.{same_from}
use Rattle.qn_block.specs.Blocked.{offsets_at}
use Rattle.qn_block.proofs.Lookup.{not_below_itself, offset_same}
use Rattle.qn_block.proofs.Occurring.{put_all}
use Rattle.qn_block.proofs.Fusing.{count_below}
use Rattle.qn_block.proofs.Partition.{fused_total, Ascends, once_ascends, charges_total, charge_occurs, tuples_admitted, values_long, values_size, size_more, size_take}
use Rattle.qn_block.proofs.Matching.{stands_left, stands_right, stands_block, values_flat, among, starts_ascend, starts_length, start_is}

-- ---- lists of tuples in which each stands once

abbrev pub Once : List (List ℕ) → Type 0
Once [] = Unit {0}
Once (t ∷ ts) = (Contains ts t → ⊥) × Once ts

pub one_place : (ts : List (List ℕ)) (i j : ℕ) → Once ts → i < length ts → j < length ts → get_or ts i [] ≡ get_or ts j [] → i ≡ j
one_place [] i j o lt k e = absurd (omega arith)
one_place (t ∷ ts) zero zero o lt k e = refl
one_place (t ∷ ts) zero (suc j) o lt k e = absurd (o.0 (j, omega arith, get_or_default ts j t [] (omega arith) ∙ sym e))
one_place (t ∷ ts) (suc i) zero o lt k e = absurd (o.0 (i, omega arith, get_or_default ts i t [] (omega arith) ∙ e))
one_place (t ∷ ts) (suc i) (suc j) o lt k e = ap suc (one_place ts i j o.1 (omega arith) (omega arith) e)

once_append : (ts us : List (List ℕ)) → Once ts → Once us → ((x : List ℕ) → Contains ts x → Contains us x → ⊥) → Once (ts ++ us)
once_append [] us o p apart = p
once_append (t ∷ ts) us o p apart = (
  λ c. ⊎_elim o.0 (apart t (0, omega arith, refl)) (Contains-append_cases ts us t c),
  once_append ts us o.1 p (λ x l r. apart x (suc l.0, omega (arith, l.1), l.2) r),
)

once_ascending : (ts : List (List ℕ)) → ((i j : ℕ) → i < j → j < length ts → slice_cmp nat_cmp (get_or ts i []) (get_or ts j []) ≡ Less) → Once ts
once_ascending [] h = tt
once_ascending (t ∷ ts) h = (
  λ c. not_below_itself t (subst (λ u. slice_cmp nat_cmp t u ≡ Less) (get_or_default ts c.0 [] t c.1 ∙ c.2) (h 0 (suc c.0) (omega arith) (omega (arith, c.1)))),
  once_ascending ts (λ i j l m. h (suc i) (suc j) (omega arith) (omega arith)),
)

-- the part that an element is from
pub flat_source : (f : List ℤ → List (List ℕ)) (cs : List (List ℤ)) (x : List ℕ) → Contains (flat_map f cs) x → (c : List ℤ) × Contains cs c × Contains (f c) x
flat_source f [] x h = absurd (omega (arith, h.1))
flat_source f (c ∷ cs) x h = by (Contains-append_cases (f c) (flat_map f cs) x h) (λ k. flat_source f cs x k)
  where
    by : Contains (f c) x ⊎ Contains (flat_map f cs) x → (Contains (flat_map f cs) x → (d : List ℤ) × Contains cs d × Contains (f d) x) → (d : List ℤ) × Contains (c ∷ cs) d × Contains (f d) x
    by (inl l) more = (c, (0, omega arith, refl), l)
    by (inr r) more = let s = more r in (s.0, (suc s.1.0, omega (arith, s.1.1), s.1.2), s.2)

pub flat_has : (f : List ℤ → List (List ℕ)) (cs : List (List ℤ)) (c : List ℤ) (x : List ℕ) → Contains cs c → Contains (f c) x → Contains (flat_map f cs) x
flat_has f [] c x h k = absurd (omega (arith, h.1))
flat_has f (d ∷ cs) c x (zero, lt, e) k = Contains-append_left (f d) (flat_map f cs) x (subst (λ b. Contains (f b) x) (sym e) k)
flat_has f (d ∷ cs) c x (suc n, lt, e) k = Contains-append_right (f d) (flat_map f cs) x (flat_has f cs c x (n, omega arith, e) k)

once_flat : (f : List ℤ → List (List ℕ)) (key : List ℕ → List ℤ) (cs : List (List ℤ)) → Ascends cs → ((c : List ℤ) → Contains cs c → Once (f c)) → ((c : List ℤ) (x : List ℕ) → Contains cs c → Contains (f c) x → key x ≡ c) → Once (flat_map f cs)
once_flat f key [] a o k = tt
once_flat f key (c ∷ cs) a o k =
    let later : (d : List ℤ) → Contains cs d → Contains (c ∷ cs) d = λ d h. (suc h.0, omega (arith, h.1), h.2) in
    once_append (f c) (flat_map f cs) (o c (0, omega arith, refl)) (once_flat f key cs a.1 (λ d h. o d (later d h)) (λ d x h m. k d x (later d h) m))
    (λ x l r.
    let s = flat_source f cs x r in
    let same : s.0 ≡ c = sym (k s.0 x (later s.0 s.1) s.2) ∙ k c x (0, omega arith, refl) l in
    let less : slice_cmp int_cmp c s.0 ≡ Less = All-contains (λ d. slice_cmp int_cmp c d ≡ Less) cs s.0 a.0 s.1 in
    less_tied (sym less ∙ (ap (slice_cmp int_cmp c) same ∙ tied_itself charges_total c)))
  where
    less_tied : Less ≡ Equal → ⊥
    less_tied e = cc

-- ---- a value that matches, found

pub record IsLocated (ls : List LegValue) (ts : List (List ℕ)) (w : ℕ) (vs : List ℕ) : Type 0 where
  pub number : ℕ
  pub offset : ℕ
  pub within : number < length ts
  pub inner : offset < block_size ls (get_or ts number [])
  pub place : w ≡ size_of ls (take number ts) + offset
  pub values : vs ≡ values_at ls (get_or ts number []) offset

pub located : (ls : List LegValue) (ts : List (List ℕ)) (w : ℕ) (vs : List ℕ) → stands_at (flat_map (values_in ls) ts) w vs ≡ true → IsLocated ls ts w vs
located ls [] w vs h = absurd (false≢true h)
located ls (t ∷ ts) w vs h = by (cases_lt w (block_size ls t)) (λ k e. located ls ts k vs e)
  where
    by : (w < block_size ls t) ⊎ (block_size ls t ≤ w) → ((k : ℕ) → stands_at (flat_map (values_in ls) ts) k vs ≡ true → IsLocated ls ts k vs) → IsLocated ls (t ∷ ts) w vs
    by (inl lt) more =
        let plain : w ≡ 0 + w = omega arith in
        let here : stands_at (flat_map (values_in ls) (t ∷ ts)) (0 + w) vs ≡ same_values (values_at ls t w) vs = stands_block ls (t ∷ ts) 0 w vs (omega arith) lt in
        record {
          number = 0;
          offset = w;
          within = omega arith;
          inner = lt;
          place = omega arith;
          values = sym (same_values-equal (values_at ls t w) vs (sym here ∙ (ap (λ n. stands_at (flat_map (values_in ls) (t ∷ ts)) n vs) (sym plain) ∙ h)));
        }
    by (inr ge) more =
        let k = w - block_size ls t in
        let whole : w ≡ length (values_in ls t) + k = omega (arith, values_long ls t) in
        let r = more k (sym (stands_right (values_in ls t) (flat_map (values_in ls) ts) k vs) ∙ (ap (λ n. stands_at (values_in ls t ++ flat_map (values_in ls) ts) n vs) (sym whole) ∙ h)) in
        record {
          number = suc r.number;
          offset = r.offset;
          within = omega (arith, r.within);
          inner = r.inner;
          place = omega (arith, r.place);
          values = r.values;
        }

-- ---- tuples of one charge

pub turned_twice : (fs : List Factor) (arrow : Dir) (c : List ℤ) → IsGroup fs → IsCanonical fs c → turned fs arrow (turned fs arrow c) ≡ c
turned_twice fs Out c g h = refl
turned_twice fs In c g h = neg_of_neg fs c g h

pub turned_canonical : (fs : List Factor) (arrow : Dir) (c : List ℤ) → IsGroup fs → IsCanonical fs c → IsCanonical fs (turned fs arrow c)
turned_canonical fs Out c g h = h
turned_canonical fs In c g h = canonical_neg fs c g

pub charges_canonical : (fs : List Factor) (ls : List LegValue) (arrow : Dir) → IsGroup fs → All (IsCanonical fs) (fused_charges fs ls arrow)
charges_canonical fs ls arrow g = go (tuples ls)
  where
    go : (ts : List (List ℕ)) → All (IsCanonical fs) (ascending_once (map (fused_charge fs ls arrow) ts))
    go [] = All-nil (IsCanonical fs)
    go (t ∷ ts) = put_all (IsCanonical fs) (fused_charge fs ls arrow t) (ascending_once (map (fused_charge fs ls arrow) ts)) (turned_canonical fs arrow (net fs ls t) g (net_canonical fs ls t g)) (go ts)

-- a tuple among those with a charge
pub record HasCharge (fs : List Factor) (ls : List LegValue) (arrow : Dir) (c : List ℤ) (t : List ℕ) : Type 0 where
  pub tuple : IsTuple ls t
  pub charge : fused_charge fs ls arrow t ≡ c

pub with_charge : (fs : List Factor) (ls : List LegValue) (arrow : Dir) (c : List ℤ) (t : List ℕ) → IsGroup fs → IsCanonical fs c → Contains (tuples_with fs ls arrow c) t → HasCharge fs ls arrow c t
with_charge fs ls arrow c t g h k =
    let a : IsAdmissible fs ls (turned fs arrow c) t = unlisted fs ls (turned fs arrow c) t (subst (λ ts. Contains ts t) (sym (tuples_admitted fs ls arrow c g h)) k) in
    record { tuple = a.tuple; charge = ap (turned fs arrow) a.flux ∙ turned_twice fs arrow c g h }

with_own : (fs : List Factor) (ls : List LegValue) (arrow : Dir) (t : List ℕ) → IsGroup fs → IsTuple ls t → Contains (tuples_with fs ls arrow (fused_charge fs ls arrow t)) t
with_own fs ls arrow t g h =
    let n = net_canonical fs ls t g in
    let c = fused_charge fs ls arrow t in
    subst (λ ts. Contains ts t) (tuples_admitted fs ls arrow c g (turned_canonical fs arrow (net fs ls t) g n))
    (listed fs ls (turned fs arrow c) t (record { tuple = h; flux = sym (turned_twice fs arrow (net fs ls t) g n) }))

-- all tuples, charge by charge
abbrev pub turns : List Factor → List LegValue → Dir → List (List ℕ)
turns fs ls arrow = flat_map (tuples_with fs ls arrow) (fused_charges fs ls arrow)

turn_is : (fs : List Factor) (ls : List LegValue) (arrow : Dir) (t : List ℕ) → IsGroup fs → Contains (turns fs ls arrow) t → IsTuple ls t
turn_is fs ls arrow t g h =
    let s = flat_source (tuples_with fs ls arrow) (fused_charges fs ls arrow) t h in
    (with_charge fs ls arrow s.0 t g (All-contains (IsCanonical fs) (fused_charges fs ls arrow) s.0 (charges_canonical fs ls arrow g) s.1) s.2).tuple

pub turn_at : (fs : List Factor) (ls : List LegValue) (arrow : Dir) (i : ℕ) → IsGroup fs → i < length (turns fs ls arrow) → IsTuple ls (get_or (turns fs ls arrow) i [])
turn_at fs ls arrow i g lt = turn_is fs ls arrow (get_or (turns fs ls arrow) i []) g (Contains-get_or (turns fs ls arrow) i [] lt)

turn_there : (fs : List Factor) (ls : List LegValue) (arrow : Dir) (t : List ℕ) → IsGroup fs → IsTuple ls t → Contains (turns fs ls arrow) t
turn_there fs ls arrow t g h =
    flat_has (tuples_with fs ls arrow) (fused_charges fs ls arrow) (fused_charge fs ls arrow t) t
    (charge_occurs (fused_charge fs ls arrow) (tuples ls) t (contains_tuple ls t h)) (with_own fs ls arrow t g h)

turns_once : (fs : List Factor) (ls : List LegValue) (arrow : Dir) → IsGroup fs → Once (turns fs ls arrow)
turns_once fs ls arrow g =
    once_flat (tuples_with fs ls arrow) (fused_charge fs ls arrow) (fused_charges fs ls arrow) (once_ascends (map (fused_charge fs ls arrow) (tuples ls)))
    (λ c h. subst Once (tuples_admitted fs ls arrow c g (canonical c h)) (once_ascending (admitted fs ls (turned fs arrow c)) (admitted_ascend fs ls (turned fs arrow c))))
    (λ c x h k. (with_charge fs ls arrow c x g (canonical c h) k).charge)
  where
    canonical : (c : List ℤ) → Contains (fused_charges fs ls arrow) c → IsCanonical fs c
    canonical c h = All-contains (IsCanonical fs) (fused_charges fs ls arrow) c (charges_canonical fs ls arrow g) h

-- ---- values that match

pub record IsMatched (fs : List Factor) (ls : List LegValue) (arrow : Dir) (w : ℕ) (vs : List ℕ) : Type 0 where
  pub located : IsLocated ls (turns fs ls arrow) w vs
  pub values : IsValues ls vs
  pub sectors : sectors_at ls vs ≡ get_or (turns fs ls arrow) located.number []
  pub offset : offset_at ls vs ≡ located.offset

pub matched : (fs : List Factor) (ls : List LegValue) (arrow : Dir) (w : ℕ) (vs : List ℕ) → IsGroup fs → stands_at (fused_values fs ls arrow) w vs ≡ true → IsMatched fs ls arrow w vs
matched fs ls arrow w vs g h =
    let r = located ls (turns fs ls arrow) w vs (ap (λ uss. stands_at uss w vs) (sym (values_flat fs ls arrow)) ∙ h) in
    let t = turn_at fs ls arrow r.number g r.within in
    let b = back ls (get_or (turns fs ls arrow) r.number []) r.offset t r.inner in
    record {
      located = r;
      values = subst (IsValues ls) (sym r.values) (place_in_range ls (get_or (turns fs ls arrow) r.number []) r.offset t r.inner);
      sectors = ap (sectors_at ls) r.values ∙ b.sectors;
      offset = ap (offset_at ls) r.values ∙ b.offset;
    }

-- values match one value of the fused leg only
pub match_one : (fs : List Factor) (ls : List LegValue) (arrow : Dir) (w x : ℕ) (vs : List ℕ) → IsGroup fs → stands_at (fused_values fs ls arrow) w vs ≡ true → stands_at (fused_values fs ls arrow) x vs ≡ true → w ≡ x
match_one fs ls arrow w x vs g h k =
    let a = matched fs ls arrow w vs g h in
    let b = matched fs ls arrow x vs g k in
    let same : a.located.number ≡ b.located.number = one_place (turns fs ls arrow) a.located.number b.located.number (turns_once fs ls arrow g) a.located.within b.located.within (sym a.sectors ∙ b.sectors) in
    let inner : a.located.offset ≡ b.located.offset = sym a.offset ∙ b.offset in
    a.located.place ∙ (ap (λ n. size_of ls (take n (turns fs ls arrow)) + a.located.offset) same ∙ (ap (λ n. size_of ls (take b.located.number (turns fs ls arrow)) + n) inner ∙ sym b.located.place))

-- the values at an offset of a tuple's block
stands_from : (fs : List Factor) (ls : List LegValue) (arrow : Dir) (i : ℕ) (vs : List ℕ) → i < length (turns fs ls arrow) → get_or (turns fs ls arrow) i [] ≡ sectors_at ls vs → IsValues ls vs →
    stands_at (fused_values fs ls arrow) (size_of ls (take i (turns fs ls arrow)) + offset_at ls vs) vs ≡ true
stands_from fs ls arrow i vs lt is h =
    let ts = turns fs ls arrow in
    let f = forth ls vs h in
    let inner : offset_at ls vs < block_size ls (get_or ts i []) = subst (λ t. offset_at ls vs < block_size ls t) (sym is) f.below in
    ap (λ uss. stands_at uss (size_of ls (take i ts) + offset_at ls vs) vs) (values_flat fs ls arrow)
    ∙ (stands_block ls ts i (offset_at ls vs) vs lt inner ∙ same_from (values_at ls (get_or ts i []) (offset_at ls vs)) vs (ap (λ t. values_at ls t (offset_at ls vs)) is ∙ f.values))

-- and each matches one
pub match_some : (fs : List Factor) (ls : List LegValue) (arrow : Dir) (vs : List ℕ) → IsGroup fs → IsValues ls vs → (w : ℕ) × (stands_at (fused_values fs ls arrow) w vs ≡ true)
match_some fs ls arrow vs g h =
    let ts = turns fs ls arrow in
    let c = turn_there fs ls arrow (sectors_at ls vs) g (forth ls vs h).tuple in
    let is : get_or ts c.0 [] ≡ sectors_at ls vs = get_or_default ts c.0 [] (sectors_at ls vs) c.1 ∙ c.2 in
    (size_of ls (take c.0 ts) + offset_at ls vs, stands_from fs ls arrow c.0 vs c.1 is h)

-- ---- values and charges of the fused leg

pub stands_below : (uss : List (List ℕ)) (w : ℕ) (vs : List ℕ) → stands_at uss w vs ≡ true → w < length uss
stands_below [] w vs h = absurd (false≢true h)
stands_below (us ∷ uss) zero vs h = omega arith
stands_below (us ∷ uss) (suc w) vs h = omega (arith, stands_below uss w vs h)

pub values_total : (fs : List Factor) (ls : List LegValue) (arrow : Dir) → length (fused_values fs ls arrow) ≡ total (fused_sectors fs ls arrow)
values_total fs ls arrow = go (fused_charges fs ls arrow)
  where
    go : (cs : List (List ℤ)) → length (flat_map (values_with fs ls arrow) cs) ≡ total (map (sector_with fs ls arrow) cs)
    go [] = refl
    go (c ∷ cs) = length-append (values_with fs ls arrow c) (flat_map (values_with fs ls arrow) cs) ∙ ap (λ n. length (values_with fs ls arrow c) + n) (go cs)

charge_stands : (fs : List Factor) (ls : List LegValue) (arrow : Dir) (cs : List (List ℤ)) (w : ℕ) (vs : List ℕ) → IsGroup fs → All (IsCanonical fs) cs → stands_at (flat_map (values_with fs ls arrow) cs) w vs ≡ true →
    charge_at (map (sector_with fs ls arrow) cs) w ≡ fused_charge fs ls arrow (sectors_at ls vs)
charge_stands fs ls arrow [] w vs g h k = absurd (false≢true k)
charge_stands fs ls arrow (c ∷ cs) w vs g h k = by (cases_lt w n) (λ x e. charge_stands fs ls arrow cs x vs g (λ i d lt. h (suc i) d (omega arith)) e)
  where
    us : List (List ℕ)
    us = values_with fs ls arrow c

    more : List (List ℕ)
    more = flat_map (values_with fs ls arrow) cs

    n : ℕ
    n = length us

    at : Bool → List ℤ
    at b = (sector_at (map (sector_with fs ls arrow) (c ∷ cs)) (if b then 0 else suc (sector_of (map (sector_with fs ls arrow) cs) (w - n)))).charge

    by : (w < n) ⊎ (n ≤ w) → ((x : ℕ) → stands_at more x vs ≡ true → charge_at (map (sector_with fs ls arrow) cs) x ≡ fused_charge fs ls arrow (sectors_at ls vs)) →
        charge_at (map (sector_with fs ls arrow) (c ∷ cs)) w ≡ fused_charge fs ls arrow (sectors_at ls vs)
    by (inl lt) rest =
        let ts = tuples_with fs ls arrow c in
        let r = located ls ts w vs (sym (stands_left us more w vs lt) ∙ k) in
        let own = with_charge fs ls arrow c (get_or ts r.number []) g (h 0 c (omega arith)) (Contains-get_or ts r.number [] r.within) in
        let b = back ls (get_or ts r.number []) r.offset own.tuple r.inner in
        let first : nat_lt w n ≡ true = lt-ltb w n lt in
        ap at first ∙ sym (ap (fused_charge fs ls arrow) (ap (sectors_at ls) r.values ∙ b.sectors) ∙ own.charge)
    by (inr ge) rest =
        let x = w - n in
        let whole : w ≡ n + x = omega arith in
        let first : nat_lt w n ≡ false = le-ltb w n ge in
        ap at first ∙ rest x (sym (stands_right us more x vs) ∙ (ap (λ m. stands_at (us ++ more) m vs) (sym whole) ∙ k))

pub match_charge : (fs : List Factor) (ls : List LegValue) (arrow : Dir) (w : ℕ) (vs : List ℕ) → IsGroup fs → stands_at (fused_values fs ls arrow) w vs ≡ true → charge_at (fused_sectors fs ls arrow) w ≡ fused_charge fs ls arrow (sectors_at ls vs)
match_charge fs ls arrow w vs g h = charge_stands fs ls arrow (fused_charges fs ls arrow) w vs g (charges_canonical fs ls arrow g) h

-- ---- where values are found

-- all tuples together have as many values as the fused leg
pub turns_size : (fs : List Factor) (ls : List LegValue) (arrow : Dir) → size_of ls (turns fs ls arrow) ≡ total (fused_sectors fs ls arrow)
turns_size fs ls arrow = sym (values_size ls (turns fs ls arrow)) ∙ (ap length (sym (values_flat fs ls arrow)) ∙ values_total fs ls arrow)

pub record AreStarts (ss : List StartValue) : Type 0 where
  pub some : 0 < length ss
  pub first : (start_at ss 0).start ≡ 0
  pub ascending : (i j : ℕ) → i ≤ j → j < length ss → (start_at ss i).start ≤ (start_at ss j).start

pub are_starts : (c : CombinerValue) (ss : List StartValue) (w : ℕ) → ss ≡ fused_starts c.group c.legs c.arrow → w < total (fused_sectors c.group c.legs c.arrow) → AreStarts ss
are_starts c ss w e lt =
    let ts = turns c.group c.legs c.arrow in
    let many : 0 < size_of c.legs ts = omega (arith, lt, turns_size c.group c.legs c.arrow) in
    record {
      some = subst (λ us. 0 < length us) (sym e) (some ts many);
      first = ap (λ us. (start_at us 0).start) e ∙ first ts;
      ascending = starts_ascend c.legs ts ss e;
    }
  where
    some : (ts : List (List ℕ)) → 0 < size_of c.legs ts → 0 < length (starts_from c.legs 0 ts)
    some [] h = absurd (omega arith)
    some (t ∷ ts) h = omega arith

    first : (ts : List (List ℕ)) → (start_at (starts_from c.legs 0 ts) 0).start ≡ 0
    first [] = refl
    first (t ∷ ts) = refl

-- the tuple among whose values a value of the fused leg is
pub record IsFound (c : CombinerValue) (s : StartValue) (w : ℕ) : Type 0 where
  pub tuple : IsTuple c.legs s.tuple
  pub small : block_size c.legs s.tuple ≤ 1048576
  pub upto : s.start ≤ w
  pub inner : w - s.start < block_size c.legs s.tuple
  pub stands : (vs : List ℕ) → stands_at (fused_values c.group c.legs c.arrow) w vs ≡ same_values (values_at c.legs s.tuple (w - s.start)) vs

pub is_found : (c : CombinerValue) (ss : List StartValue) (i w : ℕ) (s : StartValue) → IsCombiner c → ss ≡ fused_starts c.group c.legs c.arrow → w < total (fused_sectors c.group c.legs c.arrow) →
    i < length ss → (start_at ss i).start ≤ w → (i + 1 < length ss → w < (start_at ss (i + 1)).start) → s ≡ get_or ss i s → IsFound c s w
is_found c ss i w s h e lt there low high read =
    let is : s ≡ start_at ss i = read ∙ get_or_default ss i s (record { tuple = []; start = 0 }) there in
    let fs = c.group in
    let ls = c.legs in
    let ts = turns fs ls c.arrow in
    let all = turns_size fs ls c.arrow in
    let r = among ls ts ss i w e (omega (arith, lt, all)) there low high in
    let at : i < length ts = omega (arith, there, ap length e, starts_length ls 0 ts) in
    let t : get_or ts i [] ≡ s.tuple = sym r.tuple ∙ ap (λ (u : StartValue). u.tuple) (sym is) in
    let begin : (start_at ss i).start ≡ s.start = ap (λ (u : StartValue). u.start) (sym is) in
    let tuple : IsTuple ls (get_or ts i []) = turn_at fs ls c.arrow i h.group at in
    let more = size_more ls ts i (get_or ts i []) at (get_or_default ts i [] (get_or ts i []) at) in
    let within = size_take ls ts (i + 1) in
    let bound = h.fusable.leg.bound in
    record {
      tuple = subst (IsTuple ls) t tuple;
      small = subst (λ u. block_size ls u ≤ 1048576) t (omega (arith, more, within, bound, all));
      upto = omega (arith, begin, low);
      inner = subst (λ u. w - s.start < block_size ls u) t (subst (λ n. w - n < block_size ls (get_or ts i [])) begin r.inner);
      stands = λ vs. ap (λ uss. stands_at uss w vs) (values_flat fs ls c.arrow)
          ∙ (r.stands vs ∙ (ap (λ u. same_values (values_at ls u (w - (start_at ss i).start)) vs) t ∙ ap (λ n. same_values (values_at ls s.tuple (w - n)) vs) begin));
    }

-- ---- where values begin, by the number of their tuple

pub are_tuples : (fs : List Factor) (ls : List LegValue) (arrow : Dir) → IsGroup fs → AreTuples ls (fused_starts fs ls arrow)
are_tuples fs ls arrow g =
    let ts = turns fs ls arrow in
    record {
      tuples = λ i lt. let at : i < length ts = omega (arith, lt, starts_length ls 0 ts) in subst (IsTuple ls) (sym (start_is ls 0 ts i at).0) (turn_at fs ls arrow i g at);
      once = λ i j lt h e.
          let at : i < length ts = omega (arith, lt, starts_length ls 0 ts) in
          let there : j < length ts = omega (arith, h, starts_length ls 0 ts) in
          one_place ts i j (turns_once fs ls arrow g) at there (sym (start_is ls 0 ts i at).0 ∙ (e ∙ (start_is ls 0 ts j there).0));
    }

-- one tuple more
pub index_more : (ls : List LegValue) (ss : List StartValue) (ns : List ℕ) (i n v : ℕ) (s : StartValue) → AreTuples ls ss → length ns ≡ count ls → i < length ss → s ≡ get_or ss i s → n ≡ rank ls s.tuple → v ≡ s.start →
    ((j : ℕ) → j < i → get_or ns (rank ls (start_at ss j).tuple) 0 ≡ (start_at ss j).start) → (j : ℕ) → j < i + 1 → get_or (set ns n v) (rank ls (start_at ss j).tuple) 0 ≡ (start_at ss j).start
index_more ls ss ns i n v s h long lt read number value old j below = by (cases_lt j i)
  where
    is : s ≡ start_at ss i
    is = read ∙ get_or_default ss i s (record { tuple = []; start = 0 }) lt

    at : n ≡ rank ls (start_at ss i).tuple
    at = number ∙ ap (λ (u : StartValue). rank ls u.tuple) is

    by : (j < i) ⊎ (i ≤ j) → get_or (set ns n v) (rank ls (start_at ss j).tuple) 0 ≡ (start_at ss j).start
    by (inl less) =
        let a = rank_is ls (start_at ss j).tuple (h.tuples j (omega arith)) in
        let b = rank_is ls (start_at ss i).tuple (h.tuples i lt) in
        let other : rank ls (start_at ss j).tuple ≢ n = λ e. let same : j ≡ i = h.once j i (omega arith) lt (sym a.1 ∙ (ap (nth_tuple ls) (e ∙ at) ∙ b.1)) in omega arith in
        get_or-set_other ns n (rank ls (start_at ss j).tuple) v 0 other ∙ old j less
    by (inr ge) =
        let same : j ≡ i = omega arith in
        let within : n < length ns = omega (arith, long, at, (rank_is ls (start_at ss i).tuple (h.tuples i lt)).0) in
        ap (λ k. get_or (set ns n v) (rank ls (start_at ss k).tuple) 0) same
        ∙ (ap (λ k. get_or (set ns n v) k 0) (sym at) ∙ (get_or-set_same ns n v 0 within ∙ (value ∙ (ap (λ (u : StartValue). u.start) is ∙ ap (λ k. (start_at ss k).start) (sym same)))))

-- a value of the fused leg, read for values of the legs
pub record IsRead (c : CombinerValue) (ns vs : List ℕ) (ms : List LegValue) (t os : List ℕ) : Type 0 where
  pub tuple : IsTuple ms t
  pub few : count ms ≤ 1048576
  pub small : block_size ms t ≤ 1048576
  pub inner : IsInner ms t os
  pub below : get_or ns (rank ms t) 0 + offset_of ms t os < 1048576
  pub stands : stands_at (fused_values c.group c.legs c.arrow) (get_or ns (rank ms t) 0 + offset_of ms t os) vs ≡ true

read_at : (c : CombinerValue) (ns vs : List ℕ) → IsCombiner c → IsIndex c.legs (fused_starts c.group c.legs c.arrow) ns → IsValues c.legs vs → IsRead c ns vs c.legs (sectors_at c.legs vs) (offsets_at c.legs vs)
read_at c ns vs h index v =
    let fs = c.group in
    let ls = c.legs in
    let ts = turns fs ls c.arrow in
    let f = forth ls vs v in
    let there = turn_there fs ls c.arrow (sectors_at ls vs) h.group f.tuple in
    let i = there.0 in
    let is : get_or ts i [] ≡ sectors_at ls vs = get_or_default ts i [] (sectors_at ls vs) there.1 ∙ there.2 in
    let s = start_is ls 0 ts i there.1 in
    let lt : i < length (fused_starts fs ls c.arrow) = omega (arith, there.1, starts_length ls 0 ts) in
    let begin : get_or ns (rank ls (sectors_at ls vs)) 0 ≡ size_of ls (take i ts) =
    ap (λ t. get_or ns (rank ls t) 0) (sym (s.0 ∙ is)) ∙ (index.starts i lt ∙ omega (arith, s.1)) in
    let offset = (offset_same ls vs v).1 in
    let place : get_or ns (rank ls (sectors_at ls vs)) 0 + offset_of ls (sectors_at ls vs) (offsets_at ls vs) ≡ size_of ls (take i ts) + offset_at ls vs = omega (arith, begin, offset) in
    let more = size_more ls ts i (get_or ts i []) there.1 (get_or_default ts i [] (get_or ts i []) there.1) in
    let within = size_take ls ts (i + 1) in
    let all = turns_size fs ls c.arrow in
    let bound = h.fusable.leg.bound in
    let size : block_size ls (get_or ts i []) ≡ block_size ls (sectors_at ls vs) = ap (block_size ls) is in
    let fits = f.below in
    let counted = count_below ls h.sound in
    let values = fused_total fs ls c.arrow in
    record {
      tuple = f.tuple;
      few = omega (arith, counted, values, bound);
      small = omega (arith, more, within, all, bound, size);
      inner = (offset_same ls vs v).0;
      below = omega (arith, place, more, within, all, bound, size, fits);
      stands = ap (λ w. stands_at (fused_values fs ls c.arrow) w vs) place ∙ stands_from fs ls c.arrow i vs there.1 is v;
    }

pub value_read : (c : CombinerValue) (ns vs : List ℕ) (ms : List LegValue) (t os : List ℕ) → IsCombiner c → IsIndex c.legs (fused_starts c.group c.legs c.arrow) ns → IsValues c.legs vs → ms ≡ c.legs → t ≡ sectors_at ms vs → os ≡ offsets_at ms vs → IsRead c ns vs ms t os
value_read c ns vs ms t os h index v legs sectors offsets =
    let at : IsRead c ns vs ms (sectors_at ms vs) (offsets_at ms vs) = subst (λ ks. IsRead c ns vs ks (sectors_at ks vs) (offsets_at ks vs)) (sym legs) (read_at c ns vs h index v) in
    subst (λ k. IsRead c ns vs ms k os) (sym sectors) (subst (IsRead c ns vs ms (sectors_at ms vs)) (sym offsets) at)

pub read_stands : (c : CombinerValue) (ns vs : List ℕ) (ms : List LegValue) (t os : List ℕ) (n o : ℕ) → IsRead c ns vs ms t os → n ≡ rank ms t → o ≡ offset_of ms t os → stands_at (fused_values c.group c.legs c.arrow) (get_or ns n 0 + o) vs ≡ true
read_stands c ns vs ms t os n o r number offset = ap (λ w. stands_at (fused_values c.group c.legs c.arrow) w vs) (ap (λ k. get_or ns k 0 + o) number ∙ ap (λ k. get_or ns (rank ms t) 0 + k) offset) ∙ r.stands
