-- Two parts of the work put together.
use Rattle.std.proofs.Common.{◌≡◌, ℕ, ◌+◌, ◌≤◌, ◌^◌, List, ◌++◌, length, min, sym, ap, ◌∙◌, ⊎_elim, arith, subst}
use Rattle.std.specs.Prelude.{Result, Ok, Err, IfOk, IsOkAnd}
use Rattle.std.specs.List.{All, sum_by}
use Rattle.std.proofs.lemmas.List.Sums.{sum_by-append}
use Rattle.std.proofs.lemmas.List.Elements.{All-append}
use Rattle.qn_value.specs.Tensors.{BlockValue}
use Rattle.qn_board.specs.Lists.{occurrences, IsIn, once_below}
use Rattle.qn_board.specs.Seats.{SeatValue}
use Rattle.qn_board.specs.Machine.{seat_joined}
use Rattle.qn_board.proofs.Counting.{occurrences-append, in_either, in_left, in_right}
use Rattle.qn_pair.specs.Jobs.{JobValue, tuples_of, Passes, share_at, ArePriced}
use Rattle.qn_pair.specs.Work.{numbers, IsResult}
use Rattle.qn_pair.specs.Workers.{IsShared, IsAll}
use Rattle.qn_pair.proofs.Loops.{results_more, numbers-append}

pub both_shared : (j : JobValue) (w v : ℕ) (a b m s : SeatValue) (x y seen : ℕ) → IsShared j w a x → IsShared j v b y → m ≡ seat_joined a b → s ≡ record m { seen = seen } → IsShared j (w + v) s (x + y)
both_shared j w v a b m s x y seen h k joined is =
    let all : s ≡ record (seat_joined a b) { seen = seen } = is ∙ ap (λ (u : SeatValue). record u { seen = seen }) joined in
    let drawn : s.drawn ≡ a.drawn ++ b.drawn = ap (λ (u : SeatValue). u.drawn) all in
    let noted : s.noted ≡ a.noted ++ b.noted = ap (λ (u : SeatValue). u.noted) all in
    let weight : s.weight ≡ a.weight + b.weight = ap (λ (u : SeatValue). u.weight) all in
    record {
      weight_is = (let p = h.weight_is in let q = k.weight_is in omega arith);
      passing = λ t n.
          subst (λ (xs : List ℕ). IsIn t xs × Passes j t) (sym drawn)
          (⊎_elim (λ c. let p = h.passing t c in (in_left t a.drawn b.drawn p.0, p.1)) (λ c. let p = k.passing t c in (in_right t a.drawn b.drawn p.0, p.1)) (in_either t a.noted b.noted (subst (λ (xs : List ℕ). IsIn t xs) noted n)));
      price = subst (λ (xs : List ℕ). x + y ≤ sum_by (share_at j) xs) (sym drawn) (let p = h.price in let q = k.price in let r = sum_by-append (share_at j) a.drawn b.drawn in omega arith);
    }

pub both_all : (j : JobValue) (a b m s : SeatValue) (seen : ℕ) (ds es : List (ℕ × BlockValue)) → IsAll j a ds → IsAll j b es → m ≡ seat_joined a b → s ≡ record m { seen = seen } → seen ≤ m.seen → IsAll j s (ds ++ es)
both_all j a b m s seen ds es h k joined is le =
    let all : s ≡ record (seat_joined a b) { seen = seen } = is ∙ ap (λ (u : SeatValue). record u { seen = seen }) joined in
    let drawn : s.drawn ≡ a.drawn ++ b.drawn = ap (λ (u : SeatValue). u.drawn) all in
    let noted : s.noted ≡ a.noted ++ b.noted = ap (λ (u : SeatValue). u.noted) all in
    let weight : s.weight ≡ a.weight + b.weight = ap (λ (u : SeatValue). u.weight) all in
    let spent : s.spent ≡ a.spent + b.spent = ap (λ (u : SeatValue). u.spent) all in
    let bounds : m.seen ≡ min a.seen b.seen = ap (λ (u : SeatValue). u.seen) joined in
    let own : s.seen ≡ seen = ap (λ (u : SeatValue). u.seen) is in
    record {
      spent = (let p = h.spent in let q = k.spent in omega arith);
      results = subst (λ (xs : List ℕ). All (IsResult j xs) (ds ++ es)) (sym drawn) (All-append (IsResult j (a.drawn ++ b.drawn)) ds es (results_more j a.drawn (a.drawn ++ b.drawn) ds (λ x n. in_left x a.drawn b.drawn n) h.results) (results_more j b.drawn (a.drawn ++ b.drawn) es (λ x n. in_right x a.drawn b.drawn n) k.results));
      covered = λ t n none gone.
          let p : occurrences t a.noted + occurrences t b.noted ≡ 0 = sym (occurrences-append t a.noted b.noted) ∙ (ap (occurrences t) (sym noted) ∙ none) in
          let q : occurrences t (numbers ds) + occurrences t (numbers es) ≡ 0 = sym (occurrences-append t (numbers ds) (numbers es)) ∙ (ap (occurrences t) (sym (numbers-append ds es)) ∙ gone) in
          ⊎_elim (λ c. let r = h.covered t c (omega arith) (omega arith) in omega arith) (λ c. let r = k.covered t c (omega arith) (omega arith) in omega arith) (in_either t a.drawn b.drawn (subst (λ (xs : List ℕ). IsIn t xs) drawn n));
    }

-- the sum of the prices fits
pub both_fit : (j : JobValue) (w v : ℕ) (a b m : SeatValue) (x y : ℕ) → IsShared j w a x → IsShared j v b y → m ≡ seat_joined a b → ArePriced j → ((t : ℕ) → occurrences t m.drawn ≤ once_below t (length (tuples_of j))) → x + y ≤ 2 ^ 44
both_fit j w v a b m x y h k joined priced once =
    let drawn : m.drawn ≡ a.drawn ++ b.drawn = ap (λ (u : SeatValue). u.drawn) joined in
    omega (arith, h.price, k.price, sum_by-append (share_at j) a.drawn b.drawn, ap (sum_by (share_at j)) drawn, priced.all m.drawn once, priced.small)

pub ok_both : {X E : Type 0} (f : X → List (ℕ × BlockValue)) (a b r : Result X E) (A B C : List (ℕ × BlockValue) → Type 0) → IfOk a (λ v. A (f v)) → IfOk b (λ v. B (f v)) → IfOk r (λ v. IsOkAnd a (λ w. IsOkAnd b (λ u. f v ≡ f w ++ f u)))
    → ((ds es : List (ℕ × BlockValue)) → A ds → B es → C (ds ++ es)) → IfOk r (λ v. C (f v))
ok_both f a b (Err e) A B C h k is all = tt
ok_both f (Err x) b (Ok v) A B C h k is all = absurd is
ok_both f (Ok w) (Err x) (Ok v) A B C h k is all = absurd is
ok_both f (Ok w) (Ok u) (Ok v) A B C h k is all = subst C (sym is) (all (f w) (f u) h k)
