-- Contractions of tensors block by block.
use Rattle.std.proofs.Common.{◌≡◌, ◌≢◌, ℕ, suc, ◌+◌, ◌/◌, ◌%◌, ℤ, Bool, true, false, ◌&&◌, cond, List, [], ◌∷◌, ◌++◌, refl, sym, ◌∙◌, ap, ap₂, subst, map, length, take, drop, append-nil, arith, int_lt}
use Rattle.std.specs.List.{All}
use Rattle.std.proofs.lemmas.Bool.{false_from_ne_true}
use Rattle.qn_gauss.specs.Gaussian.{mul_g, signed}
use Rattle.qn_charge.specs.declared.factor.Factor.{Factor}
use Rattle.qn_charge.specs.Charges.{parity}
use Rattle.qn_index.specs.Legs.{LegValue, SectorValue, total, before}
use Rattle.qn_index.specs.Tuples.{IsTuple}
use Rattle.qn_index.specs.Places.{block_size, values_at, inner_of, IsInner}
use Rattle.qn_index.proofs.Places
use Rattle.qn_value.specs.Networks.{End, Node, Bond, Assignment, sums, sign, values, contract, at_values, AreAlike}
use Rattle.qn_value.specs.Tensors.{BlockValue, TensorValue, same_values, entry_at, entry_in, IsBlock, AreAscending}
use Rattle.qn_value.specs.Labels.{Placed, Slot, is_positive, slots_of, slots, ends, node_of, sectors_on, bond_at, bonds_from, place_bond, in_label_order, bonds_of, opens_of, parity_of, value_of}
use Rattle.qn_value.specs.Blocks.{Blocked, legs_on, values_in, blocked_node, HaveTuples, IsNewBlock, AreDistinctBlocks, AreBlocks, HaveSectors, inside, bonds_in}
use Rattle.qn_value.specs.Rows.{when, meet_on}
use Rattle.qn_value.proofs.RowsLemmas.{over-congr}
use Rattle.qn_value.specs.Local.{coupled, labels_of, open_legs, shared_couples}
use Rattle.qn_value.specs.TensorBlocks.{HasBlocks, sector_parity, PairBlocksLaw, TraceBlocksLaw}
use Rattle.qn_value.proofs.Values.{same_values-equal}
use Rattle.qn_value.proofs.AlikeLemmas.{contract_alike}
use Rattle.qn_value.proofs.BlocksLemmas.{length-legs, place_long, pairs_law, one_law}
use Rattle.qn_value.proofs.BlockRows.{block_rows, others_differ, ascending_rest}
use Rattle.qn_value.proofs.PlacedLemmas.{HaveSectorsOn, sectors_fit, on_first, on_second, arrow_back, all_first, all_others}
use Rattle.qn_value.proofs.CoupledLemmas.{word_of, AllLong, all_long, coupled_law}
use Rattle.qn_value.proofs.OpenLegs.{coupled_network, legs_of_opens}

-- the legs of a placed tensor, by its ends
pub legs_by_ends : (sectors : ℤ → List SectorValue) (gs : List LegValue) (ls : List ℤ) → length ls ≡ length gs → HaveSectorsOn sectors (slots_of gs ls) →
    legs_on sectors (ends (slots_of gs ls)) ≡ gs
legs_by_ends sectors [] ls n h = refl
legs_by_ends sectors (g ∷ gs) [] n h = absurd (omega (arith, n))
legs_by_ends sectors (g ∷ gs) (l ∷ ls) n h =
    ap₂ ◌∷◌ (λ i. record { arrow = arrow_back g.arrow i; sectors = h.0 i }) (legs_by_ends sectors gs ls (omega (arith, n)) h.1)

-- the values at an offset of a block
pub values_by_inner : (ls : List LegValue) (t : List ℕ) (n : ℕ) → values_at ls t n ≡ values_in ls t (inner_of ls t n)
values_by_inner [] t n = refl
values_by_inner (l ∷ ls) [] n = refl
values_by_inner (l ∷ ls) (s ∷ t) n = ap (λ vs. (before l.sectors s + n / block_size ls t) ∷ vs) (values_by_inner ls t (n % block_size ls t))

-- the blocks of a tensor

pub tuples_there : (fs : List Factor) (ls : List LegValue) (q : List ℤ) (bs : List BlockValue) → All (IsBlock fs ls q) bs → HaveTuples ls bs
tuples_there fs ls q [] h = tt
tuples_there fs ls q (b ∷ bs) h = ((all_first (IsBlock fs ls q) b bs h).tuple, tuples_there fs ls q bs (all_others (IsBlock fs ls q) b bs h))

new_tuple : (b : BlockValue) (bs : List BlockValue) → All (λ c. b.tuple ≢ c.tuple) bs → IsNewBlock b bs
new_tuple b [] h = tt
new_tuple b (c ∷ cs) h = (
  false_from_ne_true _ (λ s. all_first (λ (d : BlockValue). b.tuple ≢ d.tuple) c cs h (sym (same_values-equal c.tuple b.tuple s))),
  new_tuple b cs (all_others (λ (d : BlockValue). b.tuple ≢ d.tuple) c cs h),
)

pub blocks_distinct : (bs : List BlockValue) → AreAscending bs → AreDistinctBlocks bs
blocks_distinct [] h = tt
blocks_distinct (b ∷ bs) h = (new_tuple b bs (others_differ b bs h), blocks_distinct bs (ascending_rest b bs h))

abbrev pub blocked : Placed → List BlockValue → Blocked
blocked p bs = record { ends = (node_of p).ends; blocks = bs; odd = (node_of p).odd }

module _ (sectors : ℤ → List SectorValue) (p : Placed) (bs : List BlockValue) (has : HasBlocks p.tensor bs) (long : length p.labels ≡ length p.tensor.legs)
    (fit : HaveSectorsOn sectors (slots_of p.tensor.legs p.labels)) where
  legs_are : legs_on sectors (node_of p).ends ≡ p.tensor.legs
  legs_are = legs_by_ends sectors p.tensor.legs p.labels long fit

  pub alike : AreAlike (node_of p) (blocked_node sectors (blocked p bs))
  alike = record {
    ends = refl;
    odd = refl;
    entry = λ xs n.
        ap (λ rs. entry_at rs xs) has.rows
        ∙ block_rows p.tensor.group p.tensor.legs p.tensor.flux bs has.blocks xs (n ∙ sym (length-legs sectors (node_of p).ends) ∙ ap (λ (gs : List LegValue). length gs) legs_are)
        ∙ ap (λ gs. entry_in gs bs xs) (sym legs_are);
  }

  pub are_blocks : AreBlocks sectors (blocked p bs)
  are_blocks = record {
    distinct = blocks_distinct bs has.order;
    tuples = subst (λ gs. HaveTuples gs bs) (sym legs_are) (tuples_there p.tensor.group p.tensor.legs p.tensor.flux bs has.blocks);
  }

-- the bonds have the sectors of their lines

placed_sectors : (sectors : ℤ → List SectorValue) (b : Bond) (bs : List Bond) → b.dim ≡ total (sectors b.label) → HaveSectors sectors bs → HaveSectors sectors (place_bond b bs)
placed_sectors sectors b [] e h = (e, tt)
placed_sectors sectors b (c ∷ cs) e h = go (int_lt b.label c.label) (placed_sectors sectors b cs e h.1)
  where
    go : (t : Bool) → HaveSectors sectors (place_bond b cs) → HaveSectors sectors (cond t (b ∷ c ∷ cs) (c ∷ place_bond b cs))
    go true k = (e, h)
    go false k = (h.0, k)

ordered_sectors : (sectors : ℤ → List SectorValue) (bs : List Bond) → HaveSectors sectors bs → HaveSectors sectors (in_label_order bs)
ordered_sectors sectors [] h = tt
ordered_sectors sectors (b ∷ bs) h = placed_sectors sectors b (in_label_order bs) h.0 (ordered_sectors sectors bs h.1)

from_sectors : (sectors : ℤ → List SectorValue) (tw : List ℤ) (ss : List Slot) → HaveSectorsOn sectors ss → HaveSectors sectors (bonds_from tw ss)
from_sectors sectors tw [] h = tt
from_sectors sectors tw (s ∷ ss) h = go (s.end.inward && is_positive s.end.label) (from_sectors sectors tw ss h.1)
  where
    go : (b : Bool) → HaveSectors sectors (bonds_from tw ss) → HaveSectors sectors (cond b (bond_at tw s ∷ bonds_from tw ss) (bonds_from tw ss))
    go true k = (ap total (sym h.0), k)
    go false k = k

pub bonds_sectors : (sectors : ℤ → List SectorValue) (tw : List ℤ) (ss : List Slot) → HaveSectorsOn sectors ss → HaveSectors sectors (bonds_of tw ss)
bonds_sectors sectors tw ss h = ordered_sectors sectors (bonds_from tw ss) (from_sectors sectors tw ss h)

-- an entry of a contraction of two tensors, firsts a sum over pairs of blocks

pub pair_blocks : PairBlocksLaw
pair_blocks a b firsts seconds shared between t n ha hb good tuple below =
    let cs : List (ℕ × ℕ) = shared_couples a shared in
    let ts : List TensorValue = a ∷ b ∷ [] in
    let ls : List LegValue = open_legs ts cs in
    let ps : List Placed = coupled ts cs in
    let labels : List ℤ = labels_of cs (length (word_of ts)) in
    let pa : Placed = record { tensor = a; labels = take (length a.legs) labels } in
    let pb : Placed = record { tensor = b; labels = take (length b.legs) (drop (length a.legs) labels) } in
    let all : List Slot = slots ps in
    let sectors : ℤ → List SectorValue = sectors_on all in
    let bonds : List Bond = bonds_of [] all in
    let opens : List End = opens_of (ends all) (length ls) in
    let long : AllLong ps = all_long ts cs in
    let fit : HaveSectorsOn sectors all = sectors_fit all (coupled_law ts cs good).1 in
    let fa : HaveSectorsOn sectors (slots_of a.legs pa.labels) = on_first sectors (slots_of a.legs pa.labels) (slots_of b.legs pb.labels ++ []) fit in
    let fb : HaveSectorsOn sectors (slots_of b.legs pb.labels) =
    on_first sectors (slots_of b.legs pb.labels) [] (on_second sectors (slots_of a.legs pa.labels) (slots_of b.legs pb.labels ++ []) fit) in
    let xs : List ℕ = values_at ls t n in
    let os : List ℕ = inner_of ls t n in
    let inner : IsInner ls t os = Places.inner_in ls t n tuple below in
    let legs : legs_on sectors opens ≡ ls = legs_of_opens ts cs good in
    let many : length xs ≡ length ls = ap (λ (vs : List ℕ). length vs) (values_by_inner ls t n) ∙ place_long ls t os tuple inner in
    let ms : List Node = blocked_node sectors (blocked pa firsts) ∷ blocked_node sectors (blocked pb seconds) ∷ [] in
    ap (signed (between && parity b.group b.flux))
    (ap (λ m. value_of a.group ps [] m xs) many
    ∙ ap (λ (x : Node). x.entry xs)
    (contract_alike (parity_of a.group all) (map node_of ps) ms bonds (alike sectors pa firsts ha long.0 fa, (alike sectors pb seconds hb long.1.0 fb, tt)) opens)
    ∙ ap (contract (parity_of a.group all) ms bonds opens).entry (values_by_inner ls t n ∙ ap (λ gs. values_in gs t os) (sym legs))
    ∙ pairs_law (sector_parity a.group sectors) sectors (blocked pa firsts) (blocked pb seconds) bonds opens t os
    (record { distinct = (coupled_network ts cs good).distinct; complete = (coupled_network ts cs good).complete })
    (bonds_sectors sectors [] all fit) (are_blocks sectors pa firsts ha long.0 fa) (are_blocks sectors pb seconds hb long.1.0 fb)
    (subst (λ gs. IsTuple gs t) (sym legs) tuple) (subst (λ gs. IsInner gs t os) (sym legs) inner)
    ∙ over-congr firsts _ _ (λ x. over-congr seconds _ _ (λ y. (λ i.
    let k : Assignment = at_values ((node_of pa).ends ++ sym (append-nil (node_of pb).ends) i) (x.tuple ++ y.tuple) in
    when (meet_on bonds k && same_values t (values opens k))
    (signed (sign (sector_parity a.group sectors) (map node_of ps) bonds opens k)
    (sums (bonds_in sectors k bonds)
    (λ o. mul_g (inside (legs_are sectors pa firsts ha long.0 fa i) x (values (node_of pa).ends o)) (inside (legs_are sectors pb seconds hb long.1.0 fb i) y (values (node_of pb).ends o)))
    (at_values opens os)))))))

pub trace_blocks : TraceBlocksLaw
trace_blocks a firsts cs t n ha good tuple below =
    let ts : List TensorValue = a ∷ [] in
    let ls : List LegValue = open_legs ts cs in
    let ps : List Placed = coupled ts cs in
    let labels : List ℤ = labels_of cs (length (word_of ts)) in
    let pa : Placed = record { tensor = a; labels = take (length a.legs) labels } in
    let all : List Slot = slots ps in
    let sectors : ℤ → List SectorValue = sectors_on all in
    let bonds : List Bond = bonds_of [] all in
    let opens : List End = opens_of (ends all) (length ls) in
    let long : AllLong ps = all_long ts cs in
    let fit : HaveSectorsOn sectors all = sectors_fit all (coupled_law ts cs good).1 in
    let fa : HaveSectorsOn sectors (slots_of a.legs pa.labels) = on_first sectors (slots_of a.legs pa.labels) [] fit in
    let xs : List ℕ = values_at ls t n in
    let os : List ℕ = inner_of ls t n in
    let inner : IsInner ls t os = Places.inner_in ls t n tuple below in
    let legs : legs_on sectors opens ≡ ls = legs_of_opens ts cs good in
    let many : length xs ≡ length ls = ap (λ (vs : List ℕ). length vs) (values_by_inner ls t n) ∙ place_long ls t os tuple inner in
    let ms : List Node = blocked_node sectors (blocked pa firsts) ∷ [] in
    ap (λ m. value_of a.group ps [] m xs) many
    ∙ ap (λ (x : Node). x.entry xs) (contract_alike (parity_of a.group all) (map node_of ps) ms bonds (alike sectors pa firsts ha long.0 fa, tt) opens)
    ∙ ap (contract (parity_of a.group all) ms bonds opens).entry (values_by_inner ls t n ∙ ap (λ gs. values_in gs t os) (sym legs))
    ∙ one_law (sector_parity a.group sectors) sectors (blocked pa firsts) bonds opens t os
    (record { distinct = (coupled_network ts cs good).distinct; complete = (coupled_network ts cs good).complete })
    (bonds_sectors sectors [] all fit) (are_blocks sectors pa firsts ha long.0 fa)
    (subst (λ gs. IsTuple gs t) (sym legs) tuple) (subst (λ gs. IsInner gs t os) (sym legs) inner)
    ∙ over-congr firsts _ _ (λ x. (λ i.
    let k : Assignment = at_values (sym (append-nil (node_of pa).ends) i) x.tuple in
    when (meet_on bonds k && same_values t (values opens k))
    (signed (sign (sector_parity a.group sectors) (map node_of ps) bonds opens k)
    (sums (bonds_in sectors k bonds) (λ o. inside (legs_are sectors pa firsts ha long.0 fa i) x (values (node_of pa).ends o)) (at_values opens os)))))

-- one value for each leg
pub values_long : (ls : List LegValue) (t : List ℕ) (n : ℕ) → IsTuple ls t → length (values_at ls t n) ≡ length ls
values_long [] t n h = refl
values_long (l ∷ ls) [] n h = absurd h
values_long (l ∷ ls) (s ∷ ss) n h = ap suc (values_long ls ss (n % block_size ls ss) h.1)
