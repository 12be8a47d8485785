-- What is drawn from a state on is what its seed gives from a place on.
use Rattle.std.proofs.Common.{◌≡◌, ◌∙◌, sym, refl, ap, subst, ℕ, zero, suc, ◌+◌, ◌<◌, ◌%◌, ◌/◌, ◌-ℤ◌, pos, List, [], ◌∷◌, ◌++◌, map, arith, drop, length, get_or}
use Rattle.std.proofs.lemmas.List.{append_assoc, drop_more, get_or_read}
use Rattle.std.proofs.lemmas.List.FromFn.{map-range_with_len_more}
use Rattle.std.proofs.lemmas.List.Sums.{sum_by-cons}
use Rattle.std.specs.List.{range_with_len, sum_by}
use Rattle.qn_gauss.specs.Gaussian.{Gaussian}
use Rattle.qn_index.specs.Legs.{LegValue}
use Rattle.qn_index.specs.Places.{block_size}
use Rattle.qn_value.specs.Tensors.{BlockValue}
use Rattle.qn_gen.specs.Workload.{next, turned, drawn, drawn_blocks}

-- the state is in range
pub below : (seed i : ℕ) → turned seed i < 2147483648
below seed zero = omega arith
below seed (suc i) = omega arith

-- a number in range is its own state
pub own_state : (x : ℕ) → x < 2147483648 → turned x 0 ≡ x
own_state x lt = omega (arith, lt)

-- the states after a state
pub later : (seed i k : ℕ) → turned (turned seed i) k ≡ turned seed (i + k)
later seed i zero =
    let e : i ≡ i + 0 = omega arith in
    own_state (turned seed i) (below seed i) ∙ ap (turned seed) e
later seed i (suc k) =
    let e : suc (i + k) ≡ i + suc k = omega arith in
    ap next (later seed i k) ∙ ap (turned seed) e

-- one draw more
pub turned_more : (x y z i : ℕ) → y ≡ turned x i → z ≡ turned y 1 → z ≡ turned x (i + 1)
turned_more x y z i p q = q ∙ (ap (λ k. turned k 1) p ∙ later x i 1)

-- a draw by the state after it
abbrev from_state : ℕ → Gaussian
from_state x = record { re = pos (x / 65536 % 5) -ℤ pos 2; im = pos 0 }

-- the draws after a state
pub drawn_later : (seed i k : ℕ) → drawn (turned seed i) k ≡ drawn seed (i + k)
drawn_later seed i k =
    let e : i + suc k ≡ suc (i + k) = omega arith in
    ap from_state (later seed i (suc k)) ∙ ap (λ j. from_state (turned seed j)) e

-- the first draw of a state
pub drawn_here : (x y i : ℕ) → y ≡ turned x i → drawn y 0 ≡ drawn x i
drawn_here x y i p = ap (λ k. drawn k 0) p ∙ (drawn_later x i 0 ∙ ap (drawn x) (omega arith))

-- one draw more among the first ones
pub draws_more : (x y i : ℕ) (z : Gaussian) (zs ws : List Gaussian) → zs ≡ map (drawn x) (range_with_len 0 i) → y ≡ turned x i → z ≡ drawn y 0 → ws ≡ zs ++ z ∷ [] → ws ≡ map (drawn x) (range_with_len 0 (i + 1))
draws_more x y i z zs ws p q r s =
    let e : z ≡ drawn x i = r ∙ drawn_here x y i q in
    s ∙ (ap (λ l. l ++ z ∷ []) p ∙ (ap (λ k. map (drawn x) (range_with_len 0 i) ++ k ∷ []) e ∙ sym (map-range_with_len_more (drawn x) 0 i i (omega arith))))

-- some draws after a state
pub draws_later : (seed i k n : ℕ) → map (drawn (turned seed i)) (range_with_len k n) ≡ map (drawn seed) (range_with_len (i + k) n)
draws_later seed i k zero = refl
draws_later seed i k (suc n) =
    let here = drawn_later seed i k in
    let there = draws_later seed i (k + 1) n in
    let next : map (drawn seed) (range_with_len (i + (k + 1)) n) ≡ map (drawn seed) (range_with_len (i + k + 1) n) = ap (λ j. map (drawn seed) (range_with_len j n)) (omega arith) in
    cc

-- the blocks drawn after a state
pub blocks_later : (seed i k : ℕ) (ls : List LegValue) (ts : List (List ℕ)) → drawn_blocks (turned seed i) k ls ts ≡ drawn_blocks seed (i + k) ls ts
blocks_later seed i k ls [] = refl
blocks_later seed i k ls (t ∷ ts) =
    let here = draws_later seed i k (block_size ls t) in
    let there = blocks_later seed i (k + block_size ls t) ls ts in
    let next : drawn_blocks seed (i + (k + block_size ls t)) ls ts ≡ drawn_blocks seed (i + k + block_size ls t) ls ts = ap (λ j. drawn_blocks seed j ls ts) (omega arith) in
    cc

-- the block of a tuple, drawn from a state on
abbrev pub drawn_block : ℕ → List LegValue → List ℕ → BlockValue
drawn_block x ls t = record { tuple = t; entries = map (drawn x) (range_with_len 0 (block_size ls t)) }

-- the first block, and then the blocks after its draws
pub blocks_first : (x : ℕ) (ls : List LegValue) (t : List ℕ) (ts : List (List ℕ)) → drawn_blocks x 0 ls (t ∷ ts) ≡ drawn_block x ls t ∷ drawn_blocks (turned x (block_size ls t)) 0 ls ts
blocks_first x ls t ts = ap (λ bs. drawn_block x ls t ∷ bs) (ap (λ j. drawn_blocks x j ls ts) (omega arith) ∙ sym (blocks_later x (block_size ls t) 0 ls ts))

-- the blocks so far and those still to come are all blocks, and so are their draws
pub record AreDrawn (x : ℕ) (ls : List LegValue) (ts : List (List ℕ)) (i y : ℕ) (bs : List BlockValue) : Type 0 where
  pub blocks : bs ++ drawn_blocks y 0 ls (drop i ts) ≡ drawn_blocks x 0 ls ts
  pub state : turned y (sum_by (block_size ls) (drop i ts)) ≡ turned x (sum_by (block_size ls) ts)

pub drawn_more : (x : ℕ) (ls : List LegValue) (ts : List (List ℕ)) (i y z : ℕ) (bs cs : List BlockValue) (t : List ℕ) (b : BlockValue) → AreDrawn x ls ts i y bs → i < length ts → t ≡ get_or ts i t → b ≡ drawn_block y ls t → z ≡ turned y (block_size ls t) → cs ≡ bs ++ b ∷ [] → AreDrawn x ls ts (i + 1) z cs
drawn_more x ls ts i y z bs cs t b are lt is made state pushed =
    let rest = drop (i + 1) ts in
    let now : drop i ts ≡ t ∷ rest = drop_more ts i [] lt ∙ ap (λ u. u ∷ rest) (sym (get_or_read ts i t lt is [])) in
    let whole : bs ++ drawn_blocks y 0 ls (t ∷ rest) ≡ drawn_blocks x 0 ls ts = subst (λ us. bs ++ drawn_blocks y 0 ls us ≡ drawn_blocks x 0 ls ts) now are.blocks in
    let first = blocks_first y ls t rest in
    let regroup : (bs ++ drawn_block y ls t ∷ []) ++ drawn_blocks (turned y (block_size ls t)) 0 ls rest ≡ bs ++ drawn_block y ls t ∷ drawn_blocks (turned y (block_size ls t)) 0 ls rest = append_assoc bs (drawn_block y ls t ∷ []) (drawn_blocks (turned y (block_size ls t)) 0 ls rest) in
    let sizes : block_size ls t + sum_by (block_size ls) rest ≡ sum_by (block_size ls) (t ∷ rest) = sym (sum_by-cons (block_size ls) t rest) in
    let states : turned y (sum_by (block_size ls) (t ∷ rest)) ≡ turned x (sum_by (block_size ls) ts) = subst (λ us. turned y (sum_by (block_size ls) us) ≡ turned x (sum_by (block_size ls) ts)) now are.state in
    record {
      blocks = cc;
      state = ap (λ k. turned k (sum_by (block_size ls) rest)) state ∙ (later y (block_size ls t) (sum_by (block_size ls) rest) ∙ (ap (turned y) sizes ∙ states));
    }
