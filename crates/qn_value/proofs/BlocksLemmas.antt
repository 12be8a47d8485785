-- Contractions block by block.
use Rattle.std.proofs.Common.{◌≡◌, ℕ, suc, ◌+◌, ◌*◌, slice_index_or, ℤ, Bool, true, false, ◌&&◌, ◌||◌, cond, List, [], ◌∷◌, ◌++◌, refl, sym, ◌∙◌, ap, ap₂, subst, map, length, append-nil, arith, int_eq}
use mathlib.Core.Path.{fun_ext}
use Rattle.std.proofs.lemmas.Bool.{and_parts, or_left, or_right, false≢true}
use Rattle.qn_sign.specs.Sign.{is_in, xor, IsDistinct}
use Rattle.qn_gauss.specs.Gaussian.{Gaussian, zero_g, add_g, mul_g, signed}
use Rattle.qn_value.specs.Networks.{End, Node, Bond, Assignment, sums, same_end, word, pairs_of, goal, order_sign, sign, values, product, flat, at_values, contract, labels, IsNetwork}
use Rattle.qn_value.specs.Tensors.{BlockValue, same_values, entry_in}
use Rattle.qn_index.specs.Legs.{SectorValue, LegValue, sector_of, offset_in}
use Rattle.qn_index.specs.Tuples.{IsTuple}
use Rattle.qn_index.specs.Places.{IsInner, block_size, sectors_at, offset_at, offset_of}
use Rattle.qn_index.proofs.Nets.{tuple_length}
use Rattle.qn_index.proofs.Sectors.{sector_from_place}
use Rattle.qn_value.specs.Rows.{sum_over, when, meet_on}
use Rattle.qn_value.specs.Blocks.{Blocked, legs_on, to_sectors, to_offsets, values_in, inside, blocked_node, by_sector, bonds_in, sum_choices, all_sectors, inner_product, IsNewBlock, AreDistinctBlocks, HaveTuples, AreBlocks, AllBlocks, HaveSectors}
use Rattle.qn_gauss.proofs.Ring.{add_zero, mul_one, mul_zero}
use Rattle.qn_sign.proofs.Order.{is_in-append, is_in-perm, distinct-perm, distinct_first, distinct_second, distinct_parts_back}
use Rattle.qn_value.proofs.Sums.{sums-agree, DependsOn}
use Rattle.qn_value.proofs.NetLaws.{end_test, signed-zero, sums-signed, twist-same, sign-agree, ends-labels, at_values-values, values-agree, labels_distinct}
use Rattle.qn_value.proofs.Values.{same_values-equal}
use Rattle.qn_value.proofs.RowsLemmas.{zero_add, zero_mul, over-congr, over-signed, over-mul, mul-over, sums-over, same_values-itself, agrees, agrees_to, agrees_from, values-append, values_back, append_parts, length-values, length-append}
use Rattle.qn_value.proofs.BlockSums.{sums_sector}
use Rattle.qn_facts.proofs.Booleans.{same_tests}

-- the blocks' tuples are the sectors that k gives
abbrev have_sectors : List Blocked → List BlockValue → Assignment → Bool
have_sectors [] [] k = true
have_sectors [] (b ∷ bs) k = false
have_sectors (n ∷ ns) [] k = false
have_sectors (n ∷ ns) (b ∷ bs) k = same_values b.tuple (values n.ends k) && have_sectors ns bs k

-- one block of each tensor, with a sector for each leg
abbrev FitAll : List Blocked → List BlockValue → Type 0
FitAll [] [] = Unit {0}
FitAll [] (b ∷ bs) = ⊥
FitAll (n ∷ ns) [] = ⊥
FitAll (n ∷ ns) (b ∷ bs) = (length b.tuple ≡ length n.ends) × FitAll ns bs

-- sums over choices of blocks

choices-signed : (s : Bool) (ns : List Blocked) (f : List BlockValue → Gaussian) → signed s (sum_choices ns f) ≡ sum_choices ns (λ bs. signed s (f bs))
choices-signed s [] f = refl
choices-signed s (n ∷ ns) f =
    over-signed s n.blocks (λ b. sum_choices ns (λ bs. f (b ∷ bs)))
    ∙ over-congr n.blocks _ _ (λ b. choices-signed s ns (λ bs. f (b ∷ bs)))

choices-mul : (x : Gaussian) (ns : List Blocked) (f : List BlockValue → Gaussian) → mul_g x (sum_choices ns f) ≡ sum_choices ns (λ bs. mul_g x (f bs))
choices-mul x [] f = refl
choices-mul x (n ∷ ns) f =
    mul-over n.blocks (λ b. sum_choices ns (λ bs. f (b ∷ bs))) x
    ∙ over-congr n.blocks _ _ (λ b. choices-mul x ns (λ bs. f (b ∷ bs)))

choices-sums : (bonds : List Bond) (a : Assignment) (ns : List Blocked) (f : List BlockValue → Assignment → Gaussian) →
    sums bonds (λ c. sum_choices ns (λ bs. f bs c)) a ≡ sum_choices ns (λ bs. sums bonds (f bs) a)
choices-sums bonds a [] f = refl
choices-sums bonds a (n ∷ ns) f =
    sums-over n.blocks bonds (λ b c. sum_choices ns (λ bs. f (b ∷ bs) c)) a
    ∙ over-congr n.blocks _ _ (λ b. choices-sums bonds a ns (λ bs. f (b ∷ bs)))

choices-congr : (ns : List Blocked) (f g : List BlockValue → Gaussian) → ((bs : List BlockValue) → f bs ≡ g bs) → sum_choices ns f ≡ sum_choices ns g
choices-congr ns f g h = ap (sum_choices ns) (fun_ext h)

pub length-legs : (sectors : ℤ → List SectorValue) (es : List End) → length (legs_on sectors es) ≡ length es
length-legs sectors [] = refl
length-legs sectors (e ∷ es) = ap suc (length-legs sectors es)

choices-fit : (sectors : ℤ → List SectorValue) (ns : List Blocked) → AllBlocks sectors ns → (f g : List BlockValue → Gaussian) → ((bs : List BlockValue) → FitAll ns bs → f bs ≡ g bs) → sum_choices ns f ≡ sum_choices ns g
choices-fit sectors [] h f g k = k [] tt
choices-fit sectors (n ∷ ns) h f g k =
    over n.blocks h.0.tuples (λ b l. choices-fit sectors ns h.1 (λ bs. f (b ∷ bs)) (λ bs. g (b ∷ bs)) (λ bs q. k (b ∷ bs) (l, q)))
  where
    over : (cs : List BlockValue) → HaveTuples (legs_on sectors n.ends) cs →
        ((b : BlockValue) → length b.tuple ≡ length n.ends → sum_choices ns (λ bs. f (b ∷ bs)) ≡ sum_choices ns (λ bs. g (b ∷ bs))) →
        sum_over cs (λ b. sum_choices ns (λ bs. f (b ∷ bs))) ≡ sum_over cs (λ b. sum_choices ns (λ bs. g (b ∷ bs)))
    over [] l ih = refl
    over (b ∷ cs) l ih = ap₂ add_g (ih b (tuple_length (legs_on sectors n.ends) b.tuple l.0 ∙ length-legs sectors n.ends)) (over cs l.1 ih)

-- an entry is a sum over the blocks

none_alike : (ls : List LegValue) (os : List ℕ) (b : BlockValue) (bs : List BlockValue) → IsNewBlock b bs →
    sum_over bs (λ c. when (same_values c.tuple b.tuple) (inside ls c os)) ≡ zero_g
none_alike ls os b [] h = refl
none_alike ls os b (c ∷ cs) h = ap₂ (λ p x. add_g (when p (inside ls c os)) x) h.0 (none_alike ls os b cs h.1) ∙ add_zero zero_g

-- the offsets of values in their sectors
abbrev pub offsets_at : List LegValue → List ℕ → List ℕ
offsets_at [] xs = []
offsets_at (l ∷ ls) [] = []
offsets_at (l ∷ ls) (x ∷ xs) = offset_in l.sectors x ∷ offsets_at ls xs

pub offset_by_legs : (ls : List LegValue) (xs : List ℕ) → offset_at ls xs ≡ offset_of ls (sectors_at ls xs) (offsets_at ls xs)
offset_by_legs [] xs = refl
offset_by_legs (l ∷ ls) [] = refl
offset_by_legs (l ∷ ls) (x ∷ xs) = ap (λ o. offset_in l.sectors x * block_size ls (sectors_at ls xs) + o) (offset_by_legs ls xs)

entry_over : (ls : List LegValue) (bs : List BlockValue) (xs : List ℕ) → AreDistinctBlocks bs →
    entry_in ls bs xs ≡ sum_over bs (λ b. when (same_values b.tuple (sectors_at ls xs)) (inside ls b (offsets_at ls xs)))
entry_over ls [] xs h = refl
entry_over ls (b ∷ bs) xs h = go (same_values b.tuple (sectors_at ls xs)) refl (entry_over ls bs xs h.1)
  where
    go : (p : Bool) → same_values b.tuple (sectors_at ls xs) ≡ p →
        entry_in ls bs xs ≡ sum_over bs (λ c. when (same_values c.tuple (sectors_at ls xs)) (inside ls c (offsets_at ls xs))) →
        cond p (slice_index_or b.entries (offset_at ls xs) zero_g) (entry_in ls bs xs)
        ≡ add_g (when p (inside ls b (offsets_at ls xs))) (sum_over bs (λ c. when (same_values c.tuple (sectors_at ls xs)) (inside ls c (offsets_at ls xs))))
    go true e ih =
        let f : b.tuple ≡ sectors_at ls xs = same_values-equal b.tuple (sectors_at ls xs) e in
        ap (λ o. slice_index_or b.entries o zero_g) (offset_by_legs ls xs ∙ ap (λ t. offset_of ls t (offsets_at ls xs)) (sym f))
        ∙ sym (ap (add_g (inside ls b (offsets_at ls xs)))
        (subst (λ (t : List ℕ). sum_over bs (λ c. when (same_values c.tuple t) (inside ls c (offsets_at ls xs))) ≡ zero_g) f (none_alike ls (offsets_at ls xs) b bs h.0))
        ∙ add_zero (inside ls b (offsets_at ls xs)))
    go false e ih = ih ∙ sym (zero_add _)

pub sectors_at-values : (sectors : ℤ → List SectorValue) (es : List End) (a : Assignment) → sectors_at (legs_on sectors es) (values es a) ≡ values es (to_sectors sectors a)
sectors_at-values sectors [] a = refl
sectors_at-values sectors (e ∷ es) a = ap (λ t. sector_of (sectors e.label) (a e) ∷ t) (sectors_at-values sectors es a)

pub offsets_at-values : (sectors : ℤ → List SectorValue) (es : List End) (a : Assignment) → offsets_at (legs_on sectors es) (values es a) ≡ values es (to_offsets sectors a)
offsets_at-values sectors [] a = refl
offsets_at-values sectors (e ∷ es) a = ap (λ t. offset_in (sectors e.label) (a e) ∷ t) (offsets_at-values sectors es a)

when-mul : (p q : Bool) (x y : Gaussian) → mul_g (when p x) (when q y) ≡ when (p && q) (mul_g x y)
when-mul true true x y = refl
when-mul true false x y = mul_zero x
when-mul false q x y = zero_mul (when q y)

when-signed : (p s : Bool) (x : Gaussian) → signed s (when p x) ≡ when p (signed s x)
when-signed true s x = refl
when-signed false s x = signed-zero s

product_over : (sectors : ℤ → List SectorValue) (ns : List Blocked) → AllBlocks sectors ns → (c : Assignment) →
    product (map (blocked_node sectors) ns) c ≡ sum_choices ns (λ bs. when (have_sectors ns bs (to_sectors sectors c)) (inner_product sectors ns bs (to_offsets sectors c)))
product_over sectors [] h c = refl
product_over sectors (n ∷ ns) h c =
    ap₂ mul_g
    (entry_over (legs_on sectors n.ends) n.blocks (values n.ends c) h.0.distinct
    ∙ ap₂ (λ (t : List ℕ) (u : List ℕ). sum_over n.blocks (λ b. when (same_values b.tuple t) (inside (legs_on sectors n.ends) b u))) (sectors_at-values sectors n.ends c) (offsets_at-values sectors n.ends c))
    (product_over sectors ns h.1 c)
    ∙ over-mul n.blocks (λ b. when (same_values b.tuple (values n.ends (to_sectors sectors c))) (inside (legs_on sectors n.ends) b (values n.ends (to_offsets sectors c)))) _
    ∙ over-congr n.blocks _ _ (λ b.
    choices-mul (when (same_values b.tuple (values n.ends (to_sectors sectors c))) (inside (legs_on sectors n.ends) b (values n.ends (to_offsets sectors c)))) ns
    (λ bs. when (have_sectors ns bs (to_sectors sectors c)) (inner_product sectors ns bs (to_offsets sectors c)))
    ∙ choices-congr ns _ _ (λ bs.
    when-mul (same_values b.tuple (values n.ends (to_sectors sectors c))) (have_sectors ns bs (to_sectors sectors c))
    (inside (legs_on sectors n.ends) b (values n.ends (to_offsets sectors c))) (inner_product sectors ns bs (to_offsets sectors c))))

module _ (par : ℤ → ℕ → Bool) (sectors : ℤ → List SectorValue) where
  abbrev nodes_of : List Blocked → List Node
  nodes_of ns = map (blocked_node sectors) ns

  -- the blocks' tuples are the sectors of the legs
  sectors_values : (ns : List Blocked) (bs : List BlockValue) (c : Assignment) → have_sectors ns bs c ≡ true → all_sectors bs ≡ values (word (nodes_of ns)) c
  sectors_values [] [] c h = refl
  sectors_values [] (b ∷ bs) c h = absurd (false≢true h)
  sectors_values (n ∷ ns) [] c h = absurd (false≢true h)
  sectors_values (n ∷ ns) (b ∷ bs) c h =
      let p = and_parts (same_values b.tuple (values n.ends c)) (have_sectors ns bs c) h in
      ap₂ ◌++◌ (same_values-equal b.tuple (values n.ends c) p.0) (sectors_values ns bs c p.1) ∙ sym (values-append n.ends (word (nodes_of ns)) c)

  fit_length : (ns : List Blocked) (bs : List BlockValue) → FitAll ns bs → length (all_sectors bs) ≡ length (word (nodes_of ns))
  fit_length [] [] f = refl
  fit_length [] (b ∷ bs) f = absurd f
  fit_length (n ∷ ns) [] f = absurd f
  fit_length (n ∷ ns) (b ∷ bs) f = length-append n.ends (word (nodes_of ns)) b.tuple (all_sectors bs) f.0 (fit_length ns bs f.1)

  have_from : (ns : List Blocked) (bs : List BlockValue) (k : Assignment) → FitAll ns bs → values (word (nodes_of ns)) k ≡ all_sectors bs → have_sectors ns bs k ≡ true
  have_from [] [] k f e = refl
  have_from [] (b ∷ bs) k f e = absurd f
  have_from (n ∷ ns) [] k f e = absurd f
  have_from (n ∷ ns) (b ∷ bs) k f e =
      let p = append_parts (values n.ends k) (values (word (nodes_of ns)) k) b.tuple (all_sectors bs) (length-values n.ends k ∙ sym f.0)
      (sym (values-append n.ends (word (nodes_of ns)) k) ∙ e) in
      ap₂ ◌&&◌ (ap (same_values b.tuple) p.0 ∙ same_values-itself b.tuple) (have_from ns bs k f.1 p.1)

  have-agree : (ns : List Blocked) (bs : List BlockValue) → DependsOn (word (nodes_of ns)) (have_sectors ns bs)
  have-agree [] [] a c h = refl
  have-agree [] (b ∷ bs) a c h = refl
  have-agree (n ∷ ns) [] a c h = refl
  have-agree (n ∷ ns) (b ∷ bs) a c h =
      ap₂ (λ (t : List ℕ) (p : Bool). same_values b.tuple t && p)
      (values-agree n.ends a c (λ e i. h e (is_in-append same_end e n.ends (word (nodes_of ns)) ∙ or_left (is_in same_end e n.ends) (is_in same_end e (word (nodes_of ns))) i)))
      (have-agree ns bs a c (λ e i. h e (is_in-append same_end e n.ends (word (nodes_of ns)) ∙ or_right (is_in same_end e n.ends) (is_in same_end e (word (nodes_of ns))) i)))

  module _ (ns : List Blocked) (bonds : List Bond) (opens : List End) (net : IsNetwork (nodes_of ns) bonds opens) (fit : HaveSectors sectors bonds) where
    abbrev w : List End
    w = word (nodes_of ns)

    abbrev joint : List BlockValue → Assignment
    joint bs = at_values w (all_sectors bs)

    goal_distinct : IsDistinct same_end (goal bonds opens)
    goal_distinct = distinct-perm same_end end_test net.complete net.distinct

    bond_inside : (e : End) → is_in same_end e (pairs_of bonds) ≡ true → is_in same_end e w ≡ true
    bond_inside e i = is_in-perm same_end e net.complete ∙ is_in-append same_end e (pairs_of bonds) opens ∙ or_left (is_in same_end e (pairs_of bonds)) (is_in same_end e opens) i

    open_inside : (e : End) → is_in same_end e opens ≡ true → is_in same_end e w ≡ true
    open_inside e i = is_in-perm same_end e net.complete ∙ is_in-append same_end e (pairs_of bonds) opens ∙ or_right (is_in same_end e (pairs_of bonds)) (is_in same_end e opens) i

    open_label : (e : End) → is_in same_end e opens ≡ true → is_in int_eq e.label (labels bonds) ≡ false
    open_label e i = sym (ends-labels e bonds) ∙ distinct_parts_back same_end end_test e (pairs_of bonds) opens goal_distinct i

    have_to : (bs : List BlockValue) (c : Assignment) → have_sectors ns bs c ≡ true → (e : End) → is_in same_end e w ≡ true → c e ≡ joint bs e
    have_to bs c h e i = sym (at_values-values w c e i) ∙ ap (λ vs. at_values w vs e) (sym (sectors_values ns bs c h))

    -- where the blocks have the sectors of an assignment, these are the ones that they join to
    have_is : (bs : List BlockValue) (c : Assignment) → have_sectors ns bs c ≡ (have_sectors ns bs (joint bs) && agrees [] w c (joint bs))
    have_is bs c =
        same_tests (have_sectors ns bs c) (have_sectors ns bs (joint bs) && agrees [] w c (joint bs))
        (λ h. ap₂ ◌&&◌ (sym (have-agree ns bs c (joint bs) (have_to bs c h)) ∙ h) (agrees_from [] w c (joint bs) (λ e i o. have_to bs c h e i)))
        (λ h. let t = and_parts (have_sectors ns bs (joint bs)) (agrees [] w c (joint bs)) h in
        have-agree ns bs c (joint bs) (λ e i. agrees_to [] w c (joint bs) t.1 e i refl) ∙ t.0)

    -- the open lines have the sectors of the blocks
    open_is : (c k : Assignment) → agrees bonds w c k ≡ same_values (values opens c) (values opens k)
    open_is c k = same_tests (agrees bonds w c k) (same_values (values opens c) (values opens k)) there back
      where
        there : agrees bonds w c k ≡ true → same_values (values opens c) (values opens k) ≡ true
        there h =
            ap (same_values (values opens c)) (sym (values-agree opens c k (λ e i. agrees_to bonds w c k h e (open_inside e i) (open_label e i))))
            ∙ same_values-itself (values opens c)

        second : (b c : Bool) → b ≡ false → (b || c) ≡ true → c ≡ true
        second b c f g = grind arith

        back : same_values (values opens c) (values opens k) ≡ true → agrees bonds w c k ≡ true
        back h =
            agrees_from bonds w c k (λ e i o.
            let j : is_in same_end e opens ≡ true =
            second (is_in same_end e (pairs_of bonds)) (is_in same_end e opens) (ends-labels e bonds ∙ o) (sym (is_in-append same_end e (pairs_of bonds) opens) ∙ sym (is_in-perm same_end e net.complete) ∙ i) in
            sym (at_values-values opens c e j) ∙ ap (λ vs. at_values opens vs e) (same_values-equal (values opens c) (values opens k) h) ∙ at_values-values opens k e j)

    -- the sign is that of the sectors
    sign_joint : (c k : Assignment) → agrees [] w c k ≡ true → sign par (nodes_of ns) bonds opens c ≡ sign par (nodes_of ns) bonds opens k
    sign_joint c k h = sign-agree par (nodes_of ns) bonds opens c k (λ e i. agrees_to [] w c k h e (is_in-perm same_end e net.complete ∙ i) refl)

    sign_sector : (c : Assignment) → sign (by_sector sectors par) (nodes_of ns) bonds opens c ≡ sign par (nodes_of ns) bonds opens (to_sectors sectors c)
    sign_sector c =
        ap (λ t. xor t (order_sign par (nodes_of ns) bonds opens (to_sectors sectors c))) (twist-same (by_sector sectors par) par bonds c (to_sectors sectors c) (λ e i. refl))

    term_joint : (bs : List BlockValue) → have_sectors ns bs (joint bs) ≡ true → (c : Assignment) (x : Gaussian) →
        signed (sign par (nodes_of ns) bonds opens c) (when (have_sectors ns bs c) x) ≡ signed (sign par (nodes_of ns) bonds opens (joint bs)) (when (agrees [] w c (joint bs)) x)
    term_joint bs h c x =
        ap (λ p. signed (sign par (nodes_of ns) bonds opens c) (when p x)) (have_is bs c ∙ ap (λ p. p && agrees [] w c (joint bs)) h)
        ∙ go (agrees [] w c (joint bs)) refl
      where
        go : (p : Bool) → agrees [] w c (joint bs) ≡ p → signed (sign par (nodes_of ns) bonds opens c) (when p x) ≡ signed (sign par (nodes_of ns) bonds opens (joint bs)) (when p x)
        go true e = ap (λ s. signed s x) (sign_joint c (joint bs) e)
        go false e = signed-zero (sign par (nodes_of ns) bonds opens c) ∙ sym (signed-zero (sign par (nodes_of ns) bonds opens (joint bs)))

    -- the blocks have the sectors that they give
    have_own : (bs : List BlockValue) → FitAll ns bs → have_sectors ns bs (joint bs) ≡ true
    have_own bs f = have_from ns bs (joint bs) f (values_back w (all_sectors bs) net.distinct (fit_length ns bs f))

    -- one choice of blocks adds one term, if they meet
    one_choice : (a : Assignment) (bs : List BlockValue) → FitAll ns bs →
        sums bonds (λ c. signed (sign par (nodes_of ns) bonds opens (to_sectors sectors c)) (when (have_sectors ns bs (to_sectors sectors c)) (inner_product sectors ns bs (to_offsets sectors c)))) a
        ≡ when (meet_on bonds (joint bs) && same_values (values opens (to_sectors sectors a)) (values opens (joint bs)))
        (signed (sign par (nodes_of ns) bonds opens (joint bs)) (sums (bonds_in sectors (joint bs) bonds) (inner_product sectors ns bs) (to_offsets sectors a)))
    one_choice a bs f =
        ap (λ (f : Assignment → Gaussian). sums bonds f a) (fun_ext (λ c. term_joint bs (have_own bs f) (to_sectors sectors c) (inner_product sectors ns bs (to_offsets sectors c))))
        ∙ sums-signed (sign par (nodes_of ns) bonds opens (joint bs)) bonds (λ c. when (agrees [] w (to_sectors sectors c) (joint bs)) (inner_product sectors ns bs (to_offsets sectors c))) a
        ∙ ap (signed (sign par (nodes_of ns) bonds opens (joint bs)))
        (sums_sector sectors bonds w (inner_product sectors ns bs) (joint bs) (labels_distinct bonds (distinct_first same_end (pairs_of bonds) opens goal_distinct)) fit bond_inside a
        ∙ ap (λ p. when (meet_on bonds (joint bs) && p) (sums (bonds_in sectors (joint bs) bonds) (inner_product sectors ns bs) (to_offsets sectors a))) (open_is (to_sectors sectors a) (joint bs)))
        ∙ when-signed (meet_on bonds (joint bs) && same_values (values opens (to_sectors sectors a)) (values opens (joint bs))) (sign par (nodes_of ns) bonds opens (joint bs)) _

    pub choices_law : AllBlocks sectors ns → (a : Assignment) →
        flat (by_sector sectors par) (nodes_of ns) bonds opens a ≡
        sum_choices ns (λ bs. when (meet_on bonds (joint bs) && same_values (values opens (to_sectors sectors a)) (values opens (joint bs)))
        (signed (sign par (nodes_of ns) bonds opens (joint bs)) (sums (bonds_in sectors (joint bs) bonds) (inner_product sectors ns bs) (to_offsets sectors a))))
    choices_law d a =
        ap (λ (f : Assignment → Gaussian). sums bonds f a) (fun_ext (λ c.
        ap₂ signed (sign_sector c) (product_over sectors ns d c)
        ∙ choices-signed (sign par (nodes_of ns) bonds opens (to_sectors sectors c)) ns (λ bs. when (have_sectors ns bs (to_sectors sectors c)) (inner_product sectors ns bs (to_offsets sectors c)))))
        ∙ choices-sums bonds a ns (λ bs c. signed (sign par (nodes_of ns) bonds opens (to_sectors sectors c)) (when (have_sectors ns bs (to_sectors sectors c)) (inner_product sectors ns bs (to_offsets sectors c))))
        ∙ choices-fit sectors ns d _ _ (one_choice a)

-- at a tuple and offsets of the result

pub place_sectors : (ls : List LegValue) (t os : List ℕ) → IsTuple ls t → IsInner ls t os → sectors_at ls (values_in ls t os) ≡ t
place_sectors [] t os h k = sym h
place_sectors (l ∷ ls) [] os h k = absurd h
place_sectors (l ∷ ls) (i ∷ t) [] h k = absurd k
place_sectors (l ∷ ls) (i ∷ t) (o ∷ os) h k = ap₂ ◌∷◌ (sector_from_place l.sectors i o h.0 k.0).0 (place_sectors ls t os h.1 k.1)

pub place_offsets : (ls : List LegValue) (t os : List ℕ) → IsTuple ls t → IsInner ls t os → offsets_at ls (values_in ls t os) ≡ os
place_offsets [] t os h k = sym k
place_offsets (l ∷ ls) [] os h k = absurd h
place_offsets (l ∷ ls) (i ∷ t) [] h k = absurd k
place_offsets (l ∷ ls) (i ∷ t) (o ∷ os) h k = ap₂ ◌∷◌ (sector_from_place l.sectors i o h.0 k.0).1 (place_offsets ls t os h.1 k.1)

pub place_long : (ls : List LegValue) (t os : List ℕ) → IsTuple ls t → IsInner ls t os → length (values_in ls t os) ≡ length ls
place_long [] t os h k = refl
place_long (l ∷ ls) [] os h k = absurd h
place_long (l ∷ ls) (i ∷ t) [] h k = absurd k
place_long (l ∷ ls) (i ∷ t) (o ∷ os) h k = ap suc (place_long ls t os h.1 k.1)

-- the offsets of the bonds are summed over, so only those of the open legs matter
inner_product-agree : (sectors : ℤ → List SectorValue) (ns : List Blocked) (bs : List BlockValue) → DependsOn (word (map (blocked_node sectors) ns)) (inner_product sectors ns bs)
inner_product-agree sectors [] bs a c h = refl
inner_product-agree sectors (n ∷ ns) [] a c h = refl
inner_product-agree sectors (n ∷ ns) (b ∷ bs) a c h =
    ap₂ mul_g
    (ap (inside (legs_on sectors n.ends) b) (values-agree n.ends a c (λ e i. h e (is_in-append same_end e n.ends (word (map (blocked_node sectors) ns)) ∙ or_left (is_in same_end e n.ends) (is_in same_end e (word (map (blocked_node sectors) ns))) i))))
    (inner_product-agree sectors ns bs a c (λ e i. h e (is_in-append same_end e n.ends (word (map (blocked_node sectors) ns)) ∙ or_right (is_in same_end e n.ends) (is_in same_end e (word (map (blocked_node sectors) ns))) i)))

labels-in : (sectors : ℤ → List SectorValue) (k : Assignment) (bs : List Bond) → labels (bonds_in sectors k bs) ≡ labels bs
labels-in sectors k [] = refl
labels-in sectors k (b ∷ bs) = ap (λ ls. b.label ∷ ls) (labels-in sectors k bs)

pub place_law : (par : ℤ → ℕ → Bool) (sectors : ℤ → List SectorValue) (ns : List Blocked) (bonds : List Bond) (opens : List End) (t os : List ℕ) →
    IsNetwork (map (blocked_node sectors) ns) bonds opens → HaveSectors sectors bonds → AllBlocks sectors ns → IsTuple (legs_on sectors opens) t → IsInner (legs_on sectors opens) t os →
    (contract (by_sector sectors par) (map (blocked_node sectors) ns) bonds opens).entry (values_in (legs_on sectors opens) t os) ≡
    sum_choices ns (λ bs. let k = at_values (word (map (blocked_node sectors) ns)) (all_sectors bs) in
    when (meet_on bonds k && same_values t (values opens k))
    (signed (sign par (map (blocked_node sectors) ns) bonds opens k) (sums (bonds_in sectors k bonds) (inner_product sectors ns bs) (at_values opens os))))
place_law par sectors ns bonds opens t os net fit d places inner =
    let xs : List ℕ = values_in (legs_on sectors opens) t os in
    let a : Assignment = at_values opens xs in
    let back : values opens a ≡ xs = values_back opens xs (distinct_second same_end (pairs_of bonds) opens (distinct-perm same_end end_test net.complete net.distinct)) (place_long (legs_on sectors opens) t os places inner ∙ length-legs sectors opens) in
    let tuple : values opens (to_sectors sectors a) ≡ t =
    sym (sectors_at-values sectors opens a) ∙ ap (sectors_at (legs_on sectors opens)) back ∙ place_sectors (legs_on sectors opens) t os places inner in
    let offsets : values opens (to_offsets sectors a) ≡ os =
    sym (offsets_at-values sectors opens a) ∙ ap (offsets_at (legs_on sectors opens)) back ∙ place_offsets (legs_on sectors opens) t os places inner in
    choices_law par sectors ns bonds opens net fit d a
    ∙ choices-congr ns _ _ (λ bs.
    ap₂ (λ (u : List ℕ) (x : Gaussian). let k = at_values (word (map (blocked_node sectors) ns)) (all_sectors bs) in
    when (meet_on bonds k && same_values u (values opens k)) (signed (sign par (map (blocked_node sectors) ns) bonds opens k) x))
    tuple
    (sums-agree (bonds_in sectors (at_values (word (map (blocked_node sectors) ns)) (all_sectors bs)) bonds) (word (map (blocked_node sectors) ns)) (inner_product sectors ns bs)
    (inner_product-agree sectors ns bs) (to_offsets sectors a) (at_values opens os)
    (λ e i o.
    let j : is_in same_end e opens ≡ true =
    second (is_in same_end e (pairs_of bonds)) (is_in same_end e opens)
    (ends-labels e bonds ∙ ap (is_in int_eq e.label) (sym (labels-in sectors (at_values (word (map (blocked_node sectors) ns)) (all_sectors bs)) bonds)) ∙ o)
    (sym (is_in-append same_end e (pairs_of bonds) opens) ∙ sym (is_in-perm same_end e net.complete) ∙ i) in
    sym (at_values-values opens (to_offsets sectors a) e j) ∙ ap (λ vs. at_values opens vs e) offsets)))
  where
    second : (b c : Bool) → b ≡ false → (b || c) ≡ true → c ≡ true
    second b c f g = grind arith

-- two tensors, and one

pub pairs_law : (par : ℤ → ℕ → Bool) (sectors : ℤ → List SectorValue) (x y : Blocked) (bonds : List Bond) (opens : List End) (t os : List ℕ) →
    let ns : List Node = blocked_node sectors x ∷ blocked_node sectors y ∷ [] in
    IsNetwork ns bonds opens → HaveSectors sectors bonds → AreBlocks sectors x → AreBlocks sectors y → IsTuple (legs_on sectors opens) t → IsInner (legs_on sectors opens) t os →
    (contract (by_sector sectors par) ns bonds opens).entry (values_in (legs_on sectors opens) t os) ≡
    sum_over x.blocks (λ b. sum_over y.blocks (λ c. let k = at_values (x.ends ++ y.ends) (b.tuple ++ c.tuple) in
    when (meet_on bonds k && same_values t (values opens k))
    (signed (sign par ns bonds opens k)
    (sums (bonds_in sectors k bonds) (λ o. mul_g (inside (legs_on sectors x.ends) b (values x.ends o)) (inside (legs_on sectors y.ends) c (values y.ends o))) (at_values opens os)))))
pairs_law par sectors x y bonds opens t os net fit dx dy places inner =
    place_law par sectors (x ∷ y ∷ []) bonds opens t os net fit (dx, (dy, tt)) places inner
    ∙ over-congr x.blocks _ _ (λ b. over-congr y.blocks _ _ (λ c. (λ i.
    let k : Assignment = at_values (x.ends ++ append-nil y.ends i) (b.tuple ++ append-nil c.tuple i) in
    when (meet_on bonds k && same_values t (values opens k))
    (signed (sign par (blocked_node sectors x ∷ blocked_node sectors y ∷ []) bonds opens k)
    (sums (bonds_in sectors k bonds) (λ o. mul_g (inside (legs_on sectors x.ends) b (values x.ends o)) (mul_one (inside (legs_on sectors y.ends) c (values y.ends o)) i)) (at_values opens os))))))

pub one_law : (par : ℤ → ℕ → Bool) (sectors : ℤ → List SectorValue) (x : Blocked) (bonds : List Bond) (opens : List End) (t os : List ℕ) →
    let ns : List Node = blocked_node sectors x ∷ [] in
    IsNetwork ns bonds opens → HaveSectors sectors bonds → AreBlocks sectors x → IsTuple (legs_on sectors opens) t → IsInner (legs_on sectors opens) t os →
    (contract (by_sector sectors par) ns bonds opens).entry (values_in (legs_on sectors opens) t os) ≡
    sum_over x.blocks (λ b. let k = at_values x.ends b.tuple in
    when (meet_on bonds k && same_values t (values opens k))
    (signed (sign par ns bonds opens k) (sums (bonds_in sectors k bonds) (λ o. inside (legs_on sectors x.ends) b (values x.ends o)) (at_values opens os))))
one_law par sectors x bonds opens t os net fit dx places inner =
    place_law par sectors (x ∷ []) bonds opens t os net fit (dx, tt) places inner
    ∙ over-congr x.blocks _ _ (λ b. (λ i.
    let k : Assignment = at_values (append-nil x.ends i) (append-nil b.tuple i) in
    when (meet_on bonds k && same_values t (values opens k))
    (signed (sign par (blocked_node sectors x ∷ []) bonds opens k) (sums (bonds_in sectors k bonds) (λ o. mul_one (inside (legs_on sectors x.ends) b (values x.ends o)) i) (at_values opens os)))))
