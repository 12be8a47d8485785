-- Facts on natural numbers.
use Rattle.std.proofs.Common.{◌≡◌, ◌<◌, ◌≤◌, ◌+◌, ◌*◌, ℕ, zero, suc, sym, subst, arith, ◌⊎◌, inl, inr}
use Rattle.std.proofs.lemmas.Bool.{cases_lt}

-- what holds at 0 and at 1
pub below_two : (P : ℕ → Type 0) → P 0 → P 1 → (j : ℕ) → j < 2 → P j
below_two P a b zero h = a
below_two P a b (suc zero) h = b
below_two P a b (suc (suc j)) h = absurd (omega (arith, h))

-- what holds below i and at i
pub one_more : (P : ℕ → Type 0) (i : ℕ) → ((j : ℕ) → j < i → P j) → P i → (j : ℕ) → j < i + 1 → P j
one_more P i below here j lt = by (cases_lt j i)
  where
    by : (j < i) ⊎ (i ≤ j) → P j
    by (inl low) = below j low
    by (inr high) = let same : i ≡ j = omega arith in subst P same here

-- n rounds of at most k steps each, and one round more
pub next_steps : (start old new n k : ℕ) → old ≤ start + n * k → new ≤ old + k → new ≤ start + (n + 1) * k
next_steps start old new n k h m = subst (λ e. new ≤ start + e) (sym (more n k)) (sum (n * k) h m)
  where
    more : (n k : ℕ) → (n + 1) * k ≡ n * k + k
    more n k = search arith

    sum : (e : ℕ) → old ≤ start + e → new ≤ old + k → new ≤ start + (e + k)
    sum e h m = omega (arith, h, m)
