-- The matrix elements of the automaton's chain.
use Rattle.std.proofs.Common.{◌≡◌, ℕ, zero, suc, ◌+◌, ◌-◌, ◌*◌, ◌<◌, ◌≤◌, ◌==◌, ℤ, pos, negsuc, true, false, ◌&&◌, cond, List, [], ◌∷◌, ◌++◌, map, length, reverse, refl, sym, ◌∙◌, ap, ap₂, subst, arith}
use Rattle.std.specs.Prelude.{nat_lt}
use Rattle.std.proofs.lemmas.Bool.Decides.{nat_tests}
use Rattle.std.proofs.lemmas.List.{map-append}
use Rattle.qn_sign.specs.Sign.{xor, is_odd}
use Rattle.qn_gauss.specs.Gaussian.{add_g, mul_g, signed}
use Rattle.qn_value.specs.Networks.{End, Node, Bond, Assignment, values, contract}
use Rattle.qn_opsum.specs.Strings.{Sites, HasParities, Factor, State, odd_before, odd_at, crossing, inversions, string, matrix, AreBelow}
use Rattle.qn_opsum.proofs.Products.{same_number, product-agree}
use Rattle.qn_opsum.proofs.StringLaws.{string_law}
use Rattle.qn_auto.specs.Automaton.{Term, normal, sum_of, AllBelow}
use Rattle.qn_braket.specs.Brakets.{outs, ins_back}
use Rattle.qn_braket.specs.ChainLabels.{own_link, own_upper, own_lower}
use Rattle.qn_braket.specs.Pieces.{chain_links, site_lines, operator_chain}
use Rattle.qn_braket.specs.OperatorSigns.{up, down}
use Rattle.qn_braket.proofs.Conjugate.{conj_values}
use Rattle.qn_braket.proofs.Part.{contract_entry}
use Rattle.qn_paths.specs.Paths.{AutomatonLaw, automaton, state_from, state_of}
use Rattle.qn_paths.proofs.AutomatonProof.{open_ends, automaton_network, automaton_value}

-- the operator sum sees the sites alone

module _ (S : Sites) (t t' s s' : State) (same_t : (k : ℕ) → k < S.count → t k ≡ t' k) (same_s : (k : ℕ) → k < S.count → s k ≡ s' k) where
  before_agree : (j : ℕ) → j ≤ S.count → odd_before S j s ≡ odd_before S j s'
  before_agree zero b = refl
  before_agree (suc j) b = ap₂ xor (before_agree j (less j S.count b)) (ap (S.odd_value j) (same_s j b))
    where
      less : (j n : ℕ) → suc j ≤ n → j ≤ n
      less j n b = omega (arith, b)

  crossing_agree : (fs : List Factor) (j : ℕ) → j ≤ S.count → crossing S fs s j ≡ crossing S fs s' j
  crossing_agree fs zero b = refl
  crossing_agree fs (suc j) b = ap₂ (λ c o. xor c (odd_at S fs j && o)) (crossing_agree fs j (less j S.count b)) (before_agree j (less j S.count b))
    where
      less : (j n : ℕ) → suc j ≤ n → j ≤ n
      less j n b = omega (arith, b)

  string_agree : HasParities S → (fs : List Factor) → AreBelow S.count fs → string S fs t s ≡ string S fs t' s'
  string_agree parities fs b =
      string_law S parities fs b t s
      ∙ ap₂ (λ c x. signed (xor c (is_odd (inversions S fs))) x) (crossing_agree fs S.count (itself S.count))
      (product-agree S.count (λ k. matrix S fs k (t k) (s k)) (λ k. matrix S fs k (t' k) (s' k)) (λ k h. ap₂ (matrix S fs k) (same_t k h) (same_s k h)))
      ∙ sym (string_law S parities fs b t' s')
    where
      itself : (n : ℕ) → n ≤ n
      itself n = omega arith

  pub sum_agree : HasParities S → (ws : List Term) → AllBelow S.count ws → sum_of S ws t s ≡ sum_of S ws t' s'
  sum_agree parities [] b = refl
  sum_agree parities (w ∷ ws) b = ap₂ add_g (ap (mul_g w.amount) (string_agree parities w.factors b.0)) (sum_agree parities ws b.1)

-- values of lists

values_from : (site : ℕ → ℤ) (dim : ℕ → ℕ) (a : Assignment) (n : ℕ) (xs : List ℕ) (i : ℕ) → i + length xs ≡ n →
    ((j : ℕ) → i ≤ j → j < n → a (record { label = site j; inward = false }) ≡ state_from i xs j) → values (outs (site_lines site dim i (length xs))) a ≡ xs
values_from site dim a n [] i e h = refl
values_from site dim a n (x ∷ xs) i e h =
    ap₂ ◌∷◌ (h i (itself i) (inside i (length xs) n e) ∙ ap (λ b. cond b x (state_from (suc i) xs i)) (same_number i))
    (values_from site dim a n xs (suc i) (move i (length xs) n e)
    (λ j b c. h j (less i j b) c ∙ ap (λ q. cond q x (state_from (suc i) xs j)) (differ i j b)))
  where
    itself : (i : ℕ) → i ≤ i
    itself i = omega arith

    inside : (i k n : ℕ) → i + suc k ≡ n → i < n
    inside i k n e = omega (arith, e)

    move : (i k n : ℕ) → i + suc k ≡ n → suc i + k ≡ n
    move i k n e = omega (arith, e)

    less : (i j : ℕ) → suc i ≤ j → i ≤ j
    less i j b = omega (arith, b)

    differ : (i j : ℕ) → suc i ≤ j → (j == i) ≡ false
    differ i j b = grind (arith, nat_tests)

-- the values of the open lines

module _ (m : ℕ) (t s : List ℕ) where
  abbrev pub open_at : ℤ → ℕ
  open_at (pos i) = 0
  open_at (negsuc i) = cond (nat_lt i (suc m)) (state_of t i) (state_of s (2 * m + 1 - i))

  abbrev pub open_values : Assignment
  open_values e = open_at e.label

  pub upper_at : (k : ℕ) → k < suc m → open_at (own_upper k) ≡ state_of t k
  upper_at k b = ap (λ q. cond q (state_of t k) (state_of s (2 * m + 1 - k))) (first k (suc m) b)
    where
      first : (k n : ℕ) → k < n → nat_lt k n ≡ true
      first k n b = grind (arith, nat_tests)

  pub lower_at : (k : ℕ) → k < suc m → open_at (own_lower m k) ≡ state_of s k
  lower_at k b =
      ap (λ q. cond q (state_of t (2 * m + 1 - k)) (state_of s (2 * m + 1 - (2 * m + 1 - k)))) (second k m b) ∙ ap (state_of s) (back k m b)
    where
      second : (k m : ℕ) → k < suc m → nat_lt (2 * m + 1 - k) (suc m) ≡ false
      second k m b = grind (arith, nat_tests)

      back : (k m : ℕ) → k < suc m → 2 * m + 1 - (2 * m + 1 - k) ≡ k
      back k m b = omega (arith, b)

  list_values : (dim : ℕ → ℕ) (site : ℕ → ℤ) (xs : List ℕ) → length xs ≡ suc m → ((k : ℕ) → k < suc m → open_at (site k) ≡ state_of xs k) →
      values (outs (site_lines site dim 0 (suc m))) open_values ≡ xs
  list_values dim site xs l h =
      ap (λ n. values (outs (site_lines site dim 0 n)) open_values) (sym l)
      ∙ values_from site dim open_values (suc m) xs 0 (from_zero (length xs) (suc m) l) (λ j b d. h j d)
    where
      from_zero : (k n : ℕ) → k ≡ n → 0 + k ≡ n
      from_zero k n e = omega (arith, e)

  pub values_are : (dim : ℕ → ℕ) → length t ≡ suc m → length s ≡ suc m →
      values (outs (site_lines own_upper dim 0 (suc m)) ++ ins_back (site_lines (own_lower m) dim 0 (suc m))) open_values ≡ t ++ reverse s
  values_are dim lt ls =
      map-append open_values (outs (site_lines own_upper dim 0 (suc m))) (ins_back (site_lines (own_lower m) dim 0 (suc m)))
      ∙ ap₂ (λ xs ys. xs ++ ys) (list_values dim own_upper t lt upper_at)
      (conj_values (outs (site_lines (own_lower m) dim 0 (suc m))) open_values ∙ ap reverse (list_values dim (own_lower m) s ls lower_at))

pub automaton_element : AutomatonLaw
automaton_element earlier par S ws m parities count below suits t s lt ls =
    ap (contract par nodes links ends).entry (sym (values_are m t s S.dim lt ls))
    ∙ contract_entry par nodes links ends (automaton_network earlier par S m parities count suits ns) a
    ∙ automaton_value earlier par S m parities count suits ws below a
    ∙ sum_agree S (λ j. a (up own_upper j)) (state_of t) (λ j. a (down (own_lower m) j)) (state_of s)
    (λ k b. upper_at m t s k (subst (λ n. k < n) count b)) (λ k b. lower_at m t s k (subst (λ n. k < n) count b)) parities ws below
  where
    ns : List Term
    ns = map (normal S) ws

    nodes : List Node
    nodes = operator_chain own_upper (own_lower m) own_link (automaton earlier S ns m) m

    links : List Bond
    links = chain_links own_link (automaton earlier S ns m) 0 m

    ends : List End
    ends = open_ends earlier par S m parities count suits

    a : Assignment
    a = open_values m t s
