-- The sum and the states that are drawn one after another are those of the seed.
use Rattle.std.proofs.Common.{◌≡◌, ◌∙◌, refl, ap, ℕ, zero, suc, ◌+◌, ◌-◌, List, [], ◌∷◌, ◌++◌, map, arith, codes}
use Rattle.std.specs.List.{flat_map, range_with_len}
use Rattle.qn_gauss.specs.Gaussian.{Gaussian}
use Rattle.qn_opsum.specs.Sums.{SumValue, TermValue}
use Rattle.qn_mps.specs.Chains.{ChainValue}
use Rattle.qn_gen.specs.Workload.{density, drawn, drawn_chain, entries_in, generated_bra, generated_ket, generated_sum, hops, site_count, state_on, sum_on, turned}
use Rattle.qn_gen.proofs.Draws.{drawn_later, later}
use Rattle.qn_gen.proofs.DrawnChains.{chain_later}

densities_same : (seed a k : ℕ) → map (density (turned seed 0)) (range_with_len a k) ≡ map (density seed) (range_with_len a k)
densities_same seed a zero = refl
densities_same seed a (suc k) =
    let coef : drawn (turned seed 0) (a - 1) ≡ drawn seed (a - 1) = drawn_later seed 0 (a - 1) ∙ ap (drawn seed) {y = a - 1} (omega arith) in
    let term : density (turned seed 0) a ≡ density seed a = ap (λ (z : Gaussian). record { coef = z; factors = (a, codes "N") ∷ [] }) coef in
    let rest = densities_same seed (a + 1) k in
    cc

sum_same : (seed n : ℕ) → sum_on (turned seed 0) n ≡ sum_on seed n
sum_same seed n =
    ap (λ (ws : List TermValue). record { group = (sum_on seed n).group; sites = (sum_on seed n).sites; terms = flat_map hops (range_with_len 1 (n - 1)) ++ ws; flux = (sum_on seed n).flux }) (densities_same seed 1 n)

pub is_sum : (seed n x : ℕ) (v : SumValue) → n ≡ site_count seed → x ≡ turned seed 0 → v ≡ sum_on x n → v ≡ generated_sum seed
is_sum seed n x v count from p = p ∙ (ap (λ y. sum_on y n) from ∙ (sum_same seed n ∙ ap (sum_on seed) count))

-- a state that is drawn from the i-th draw on
state_from : (seed n i x : ℕ) (w : ChainValue) → x ≡ turned seed i → w ≡ state_on n (drawn_chain x n 0 (range_with_len 1 n)) → w ≡ state_on n (drawn_chain seed n i (range_with_len 1 n))
state_from seed n i x w from p =
    let chain : drawn_chain x n 0 (range_with_len 1 n) ≡ drawn_chain seed n i (range_with_len 1 n) = ap (λ y. drawn_chain y n 0 (range_with_len 1 n)) from ∙ (chain_later seed n i 0 (range_with_len 1 n) ∙ ap (λ k. drawn_chain seed n k (range_with_len 1 n)) {y = i} (omega arith)) in
    p ∙ ap (state_on n) chain

-- where the draws of the bra and of the ket begin
after_sum : (seed n x y : ℕ) → x ≡ turned seed 0 → y ≡ turned x n → y ≡ turned seed n
after_sum seed n x y p q = q ∙ (ap (λ k. turned k n) p ∙ (later seed 0 n ∙ ap (turned seed) {y = n} (omega arith)))

after_bra : (seed n x y z : ℕ) → x ≡ turned seed 0 → y ≡ turned x n → z ≡ turned y (entries_in n) → z ≡ turned seed (n + entries_in n)
after_bra seed n x y z p q r = r ∙ (ap (λ k. turned k (entries_in n)) (after_sum seed n x y p q) ∙ later seed n (entries_in n))

pub is_bra : (seed n x y : ℕ) (w : ChainValue) → n ≡ site_count seed → x ≡ turned seed 0 → y ≡ turned x n → w ≡ state_on n (drawn_chain y n 0 (range_with_len 1 n)) → w ≡ generated_bra seed
is_bra seed n x y w count p q made =
    state_from seed n n y w (after_sum seed n x y p q) made ∙ ap (λ k. state_on k (drawn_chain seed k k (range_with_len 1 k))) count

pub is_ket : (seed n x y z : ℕ) (w : ChainValue) → n ≡ site_count seed → x ≡ turned seed 0 → y ≡ turned x n → z ≡ turned y (entries_in n) → w ≡ state_on n (drawn_chain z n 0 (range_with_len 1 n)) → w ≡ generated_ket seed
is_ket seed n x y z w count p q r made =
    state_from seed n (n + entries_in n) z w (after_bra seed n x y z p q r) made ∙ ap (λ k. state_on k (drawn_chain seed k (k + entries_in k) (range_with_len 1 k))) count
