-- Sums over a list that are added up one summand at a time, with their sums of magnitudes and the steps taken.
use Rattle.std.proofs.Common.{◌≡◌, ◌≤◌, ◌<◌, ◌-◌, ℕ, suc, ◌+◌, List, [], ◌∷◌, sym, ◌∙◌, ap, subst, length, get_or, take, drop, zero-add, arith}
use Rattle.std.specs.List.{All, sum_by}
use Rattle.std.proofs.lemmas.List.{take_all}
use Rattle.std.proofs.lemmas.List.Sums.{sum_by-cons}
use Rattle.qn_gauss.specs.Gaussian.{Gaussian, zero_g, add_g, mag, limit}
use Rattle.qn_gauss.proofs.Ring.{add_assoc, add_zero}
use Rattle.qn_value.specs.Rows.{sum_over}
use Rattle.qn_value.proofs.RowsLemmas.{zero_add}
use Rattle.qn_strides.proofs.Adding.{mag_zero}

module _ {X : Type 0} (P : X → Type 0) (term : X → Gaussian) (amount work : X → ℕ) (all : List X) (start : ℕ) where
  -- what is summed up, and what remains
  pub record IsSummedUp (rest : List X) (sum : Gaussian) (size steps : ℕ) : Type 0 where
    pub value : add_g sum (sum_over rest term) ≡ sum_over all term
    pub size_is : size + sum_by amount rest ≡ sum_by amount all
    pub small : size ≤ limit
    pub within : mag sum ≤ size
    pub good : All P rest
    pub steps_are : steps + sum_by work rest ≤ start + sum_by work all

  pub summed_first : (z : Gaussian) (steps : ℕ) → z ≡ zero_g → steps ≡ start → All P all → IsSummedUp all z 0 steps
  summed_first z steps e f h = record {
    value = ap (λ y. add_g y (sum_over all term)) e ∙ zero_add (sum_over all term);
    size_is = zero-add (sum_by amount all);
    small = omega arith;
    within = omega (arith, ap mag e, mag_zero);
    good = h;
    steps_are = omega (arith, f);
  }

  abbrev rest_of : List X → List X
  rest_of rest = take (length rest - 1) (drop 1 rest)

  pub summed_step : (rest : List X) (x : X) (sum : Gaussian) (size steps : ℕ) (more : Gaussian) (larger later : ℕ) → 1 ≤ length rest → x ≡ get_or rest 0 x → IsSummedUp rest sum size steps →
      more ≡ add_g sum (term x) → larger ≡ size + amount x → larger ≤ limit → mag more ≤ larger → later ≤ steps + work x → IsSummedUp (rest_of rest) more larger later
  summed_step [] x sum size steps more larger later h e k f g l m s = absurd (omega arith)
  summed_step (y ∷ ys) x sum size steps more larger later h e k f g l m s =
      subst (λ zs. IsSummedUp zs more larger later) (sym (take_all (length (y ∷ ys) - 1) ys (omega arith))) record {
        value = ap (λ z. add_g z (sum_over ys term)) (f ∙ ap (λ z. add_g sum (term z)) e) ∙ add_assoc sum (term y) (sum_over ys term) ∙ k.value;
        size_is = omega (arith, g, ap amount e, k.size_is, sum_by-cons amount y ys);
        small = l;
        within = m;
        good = λ i d n. k.good (suc i) d (omega arith);
        steps_are = omega (arith, s, ap work e, k.steps_are, sum_by-cons work y ys);
      }

  pub record IsWhole (sum : Gaussian) (steps : ℕ) : Type 0 where
    pub value : sum ≡ sum_over all term
    pub small : sum_by amount all ≤ limit
    pub steps_are : steps ≤ start + sum_by work all

  pub summed_end : (rest : List X) (sum : Gaussian) (size steps : ℕ) → length rest < 1 → IsSummedUp rest sum size steps → IsWhole sum steps
  summed_end [] sum size steps h k = record {
    value = sym (add_zero sum) ∙ k.value;
    small = omega (arith, k.size_is, k.small);
    steps_are = omega (arith, k.steps_are);
  }
  summed_end (y ∷ ys) sum size steps h k = absurd (omega arith)
