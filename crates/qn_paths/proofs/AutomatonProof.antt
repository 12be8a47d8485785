-- The network of the automaton is the operator sum.
use Rattle.std.proofs.Common.{◌≡◌, ℕ, zero, suc, ◌+◌, ◌<◌, ◌⊎◌, inl, inr, Bool, false, ◌&&◌, cond, List, [], ◌∷◌, ◌++◌, map, refl, sym, ◌∙◌, ap, ap₂, subst, arith}
use Rattle.std.specs.Prelude.{nat_lt}
use Rattle.std.proofs.lemmas.Bool.Decides.{nat_tests}
use mathlib.Core.Path.{fun_ext}
use Rattle.qn_sign.specs.Sign.{xor, is_odd}
use Rattle.qn_gauss.specs.Gaussian.{Gaussian, zero_g, one_g, add_g, mul_g, signed}
use Rattle.qn_gauss.proofs.Ring.{mul_zero, one_mul}
use Rattle.qn_value.specs.Networks.{Parities, End, Assignment, flat, IsNetwork}
use Rattle.qn_value.specs.Rows.{sum_over}
use Rattle.qn_value.proofs.NetLaws.{signed-mul, mul-signed, signed-zero}
use Rattle.qn_value.proofs.RowsLemmas.{zero_mul}
use Rattle.qn_opsum.specs.Strings.{Sites, HasParities, Factor, State, odd_before, string, matrix, odd_at, crossing, inversions, in_site_order, AreBelow, AreOrdered}
use Rattle.qn_opsum.proofs.StringLaws.{matrix_fits}
use Rattle.qn_opsum.proofs.NormalOrder.{ordered_law, normal_law, ordered-sort, below-sort}
use Rattle.qn_auto.specs.Automaton.{Term, sum_of, normal, Stage, begin, AllBelow}
use Rattle.qn_auto.proofs.Stages.{AllOf, sum_over-agree, sum_over-scale}
use Rattle.qn_braket.specs.Brakets.{outs, ins_back}
use Rattle.qn_braket.specs.ChainLabels.{own_link, own_upper, own_lower}
use Rattle.qn_braket.specs.Pieces.{chain_links, site_lines, operator_chain}
use Rattle.qn_braket.specs.OperatorSigns.{up, down, odd_from, crossings}
use Rattle.qn_braket.proofs.OperatorSign.{operator_sign, own_apart}
use Rattle.qn_paths.specs.Paths.{automaton, SuitSites}
use Rattle.qn_paths.proofs.Transitions.{product_from-below, path}
use Rattle.qn_paths.proofs.ChainSum.{network_sum}

move_on : (j m n : ℕ) → j + suc m ≡ n → suc j + m ≡ n
move_on j m n e = omega (arith, e)

from_zero : (m n : ℕ) → n ≡ suc m → 0 + suc m ≡ n
from_zero m n e = omega (arith, e)

below_end : (j m n : ℕ) → j + suc m ≡ n → j < n
below_end j m n e = omega (arith, e)

-- the crossings of a term

module _ (S : Sites) (fs : List Factor) (s : State) where
  -- the parity of the operators on m sites from j on
  abbrev odd_ops : ℕ → ℕ → Bool
  odd_ops j zero = false
  odd_ops j (suc m) = xor (odd_at S fs j) (odd_ops (suc j) m)

  -- each odd value passes the operators on later sites
  abbrev op_passes : ℕ → ℕ → Bool
  op_passes j zero = false
  op_passes j (suc m) = xor (odd_ops (suc j) m && S.odd_value j (s j)) (op_passes (suc j) m)

  crossing_from : (j m n : ℕ) → j + m ≡ n → crossing S fs s n ≡ xor (crossing S fs s j) (xor (odd_before S j s && odd_ops j m) (op_passes j m))
  crossing_from j zero n e = ap (crossing S fs s) (sym e ∙ none j) ∙ nothing (crossing S fs s j) (odd_before S j s)
    where
      none : (j : ℕ) → j + 0 ≡ j
      none j = omega arith

      nothing : (c b : Bool) → c ≡ xor c (xor (b && false) false)
      nothing c b = grind arith
  crossing_from j (suc m) n e =
      crossing_from (suc j) m n (move_on j m n e)
      ∙ step (crossing S fs s j) (odd_at S fs j) (odd_before S j s) (S.odd_value j (s j)) (odd_ops (suc j) m) (op_passes (suc j) m)
    where
      step : (c o b p q r : Bool) → xor (xor c (o && b)) (xor (xor b p && q) r) ≡ xor c (xor (b && xor o q) (xor (q && p) r))
      step c o b p q r = grind arith

  crossing_all : (n : ℕ) → crossing S fs s n ≡ op_passes 0 n
  crossing_all n = crossing_from 0 n n (same n)
    where
      same : (n : ℕ) → 0 + n ≡ n
      same n = omega arith

module _ (earlier : Stage → Stage → Bool) (par : Parities) (S : Sites) (m : ℕ) (parities : HasParities S) (count : S.count ≡ suc m) (suits : SuitSites par S m) where
  module _ (ws : List Term) (a : Assignment) where
    abbrev t : State
    t j = a (up own_upper j)

    abbrev s : State
    s j = a (down (own_lower m) j)

    abbrev odd_lines : ℕ → ℕ → Bool
    odd_lines = odd_from par own_upper (own_lower m) a

    abbrev line_crossings : ℕ → ℕ → Bool
    line_crossings = crossings par own_upper (own_lower m) a

    -- where the term is not 0, the lines of a site have the parity of its operators
    path_fits : (fs : List Factor) (j k : ℕ) → j + k ≡ S.count →
        ((odd_lines j k ≡ odd_ops S fs s j k) × (line_crossings j k ≡ op_passes S fs s j k)) ⊎ (path S ws t s fs j k ≡ zero_g)
    path_fits fs j zero e = inl (refl, refl)
    path_fits fs j (suc k) e = go (matrix_fits S parities fs j (t j) (s j)) (path_fits fs (suc j) k (move_on j k S.count e))
      where
        up_is : par (own_upper j) (t j) ≡ S.odd_value j (t j)
        up_is = suits.upper j (t j) (below_end j k S.count e)

        down_is : par (own_lower m j) (s j) ≡ S.odd_value j (s j)
        down_is = suits.lower j (s j) (below_end j k S.count e)

        go : (xor (S.odd_value j (t j)) (S.odd_value j (s j)) ≡ odd_at S fs j) ⊎ (matrix S fs j (t j) (s j) ≡ zero_g) →
            ((odd_lines (suc j) k ≡ odd_ops S fs s (suc j) k) × (line_crossings (suc j) k ≡ op_passes S fs s (suc j) k)) ⊎ (path S ws t s fs (suc j) k ≡ zero_g) →
            ((odd_lines j (suc k) ≡ odd_ops S fs s j (suc k)) × (line_crossings j (suc k) ≡ op_passes S fs s j (suc k))) ⊎ (path S ws t s fs j (suc k) ≡ zero_g)
        go (inr z) _ = inr (ap (λ x. mul_g x (path S ws t s fs (suc j) k)) z ∙ zero_mul (path S ws t s fs (suc j) k))
        go (inl h) (inr z) = inr (ap (mul_g (matrix S fs j (t j) (s j))) z ∙ mul_zero (matrix S fs j (t j) (s j)))
        go (inl h) (inl r) = inl (
          ap₂ xor (ap₂ xor up_is down_is ∙ h) r.0,
          ap₂ xor (ap₂ (λ x y. x && y) r.0 down_is) r.1,
        )

    term_value : (w : Term) → AreOrdered w.factors × AreBelow S.count w.factors →
        mul_g w.amount (signed (line_crossings 0 (suc m)) (path S ws t s w.factors 0 (suc m))) ≡ mul_g w.amount (string S w.factors t s)
    term_value w good =
        ap (mul_g w.amount)
        (go (path_fits w.factors 0 (suc m) (from_zero m S.count count))
        ∙ sym (ordered_law S parities w.factors good.1 good.0 t s
        ∙ ap₂ signed (crossing_all S w.factors s S.count ∙ ap (op_passes S w.factors s 0) count)
        (product_from-below 0 (suc m) S.count (λ k. matrix S w.factors k (t k) (s k)) (from_zero m S.count count)
        ∙ one_mul (path S ws t s w.factors 0 (suc m)))))
      where
        go : ((odd_lines 0 (suc m) ≡ odd_ops S w.factors s 0 (suc m)) × (line_crossings 0 (suc m) ≡ op_passes S w.factors s 0 (suc m))) ⊎ (path S ws t s w.factors 0 (suc m) ≡ zero_g) →
            signed (line_crossings 0 (suc m)) (path S ws t s w.factors 0 (suc m)) ≡ signed (op_passes S w.factors s 0 (suc m)) (path S ws t s w.factors 0 (suc m))
        go (inl k) = ap (λ b. signed b (path S ws t s w.factors 0 (suc m))) k.1
        go (inr z) =
            ap (signed (line_crossings 0 (suc m))) z ∙ signed-zero (line_crossings 0 (suc m))
            ∙ sym (ap (signed (op_passes S w.factors s 0 (suc m))) z ∙ signed-zero (op_passes S w.factors s 0 (suc m)))

    not_before : (i : ℕ) → nat_lt i 0 ≡ false
    not_before i = grind (arith, nat_tests)

    signed_sum : (b : Bool) (vs : List Term) →
        signed b (sum_over vs (λ w. cond (nat_lt (begin w.factors) 0) zero_g (mul_g w.amount (path S ws t s w.factors 0 (suc m))))) ≡
        sum_over vs (λ w. mul_g w.amount (signed b (path S ws t s w.factors 0 (suc m))))
    signed_sum b vs =
        sym (factor (sum_over vs (λ w. cond (nat_lt (begin w.factors) 0) zero_g (mul_g w.amount (way w)))))
        ∙ sym (sum_over-scale (signed b one_g) (λ w. cond (nat_lt (begin w.factors) 0) zero_g (mul_g w.amount (way w))) vs)
        ∙ ap (sum_over vs) (fun_ext (λ w.
        ap (mul_g (signed b one_g)) (ap (λ c. cond c zero_g (mul_g w.amount (way w))) (not_before (begin w.factors)))
        ∙ factor (mul_g w.amount (way w)) ∙ sym (mul-signed b w.amount (way w))))
      where
        factor : (x : Gaussian) → mul_g (signed b one_g) x ≡ signed b x
        factor x = signed-mul b one_g x ∙ ap (signed b) (one_mul x)

        way : Term → Gaussian
        way w = path S ws t s w.factors 0 (suc m)

  -- the network of terms in site order

  abbrev pub open_ends : List End
  open_ends = outs (site_lines own_upper S.dim 0 (suc m)) ++ ins_back (site_lines (own_lower m) S.dim 0 (suc m))

  pub automaton_network : (ws : List Term) → IsNetwork (operator_chain own_upper (own_lower m) own_link (automaton earlier S ws m) m) (chain_links own_link (automaton earlier S ws m) 0 m) open_ends
  automaton_network ws = (operator_sign par own_upper (own_lower m) own_link S.dim (automaton earlier S ws m) m (own_apart m) (λ j. refl)).0

  ordered_automaton : (ws : List Term) → AllOf (λ w. AreOrdered w.factors × AreBelow S.count w.factors) ws → (a : Assignment) →
      flat par (operator_chain own_upper (own_lower m) own_link (automaton earlier S ws m) m) (chain_links own_link (automaton earlier S ws m) 0 m) open_ends a ≡ sum_of S ws (t ws a) (s ws a)
  ordered_automaton ws good a =
      (operator_sign par own_upper (own_lower m) own_link S.dim (automaton earlier S ws m) m (own_apart m) (λ j. refl)).1 a
      ∙ ap (signed (line_crossings ws a 0 (suc m)))
      (network_sum earlier S ws m (subst (λ n. AllOf (λ w. AreOrdered w.factors × AreBelow n w.factors) ws) count good) a)
      ∙ signed_sum ws a (line_crossings ws a 0 (suc m)) ws
      ∙ sum_over-agree (λ w. AreOrdered w.factors × AreBelow S.count w.factors) _ (λ w. mul_g w.amount (string S w.factors (t ws a) (s ws a)))
      (λ w g. term_value ws a w g) ws good

  -- the network of terms as they are written

  all_normal : (ws : List Term) → AllBelow S.count ws → AllOf (λ w. AreOrdered w.factors × AreBelow S.count w.factors) (map (normal S) ws)
  all_normal [] b = tt
  all_normal (w ∷ ws) b = ((ordered-sort w.factors, below-sort S.count w.factors b.0), all_normal ws b.1)

  normal_sum : (ws : List Term) → AllBelow S.count ws → (t s : State) → sum_of S (map (normal S) ws) t s ≡ sum_of S ws t s
  normal_sum [] b t s = refl
  normal_sum (w ∷ ws) b t s =
      ap₂ add_g
      (signed-mul (is_odd (inversions S w.factors)) w.amount (string S (in_site_order w.factors) t s)
      ∙ sym (mul-signed (is_odd (inversions S w.factors)) w.amount (string S (in_site_order w.factors) t s))
      ∙ ap (mul_g w.amount) (sym (normal_law S parities w.factors b.0 t s)))
      (normal_sum ws b.1 t s)

  pub automaton_value : (ws : List Term) → AllBelow S.count ws → (a : Assignment) →
      flat par (operator_chain own_upper (own_lower m) own_link (automaton earlier S (map (normal S) ws) m) m) (chain_links own_link (automaton earlier S (map (normal S) ws) m) 0 m) open_ends a ≡
      sum_of S ws (λ j. a (up own_upper j)) (λ j. a (down (own_lower m) j))
  automaton_value ws b a =
      ordered_automaton (map (normal S) ws) (all_normal ws b) a ∙ normal_sum ws b (λ j. a (up own_upper j)) (λ j. a (down (own_lower m) j))
