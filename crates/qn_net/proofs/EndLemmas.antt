-- The ends that the legs of members are, member by member and leg by leg.
use Rattle.std.proofs.Common.{◌≡◌, ◌<◌, ℕ, zero, suc, ◌+◌, ℤ, List, [], ◌∷◌, ◌++◌, length, take, get_or, sym, ap, subst, add-one, arith}
use Rattle.qn_index.specs.Legs.{LegValue}
use Rattle.qn_value.specs.Labels.{is_inward, slots_of, ends}
use Rattle.qn_net.specs.Members.{no_leg}

-- one leg more
slots_suc : (gs : List LegValue) (ls : List ℤ) (j : ℕ) (l d : ℤ) → j < length gs → length ls ≡ length gs → get_or ls j d ≡ l →
    ends (slots_of (take (suc j) gs) (take (suc j) ls)) ≡
    ends (slots_of (take j gs) (take j ls)) ++ record { label = l; inward = is_inward (get_or gs j no_leg).arrow } ∷ []
slots_suc [] ls j l d h n e = absurd (omega arith)
slots_suc (g ∷ gs) [] j l d h n e = absurd (omega arith)
slots_suc (g ∷ gs) (m ∷ ls) zero l d h n e = ap (λ k. record { label = k; inward = is_inward g.arrow } ∷ []) e
slots_suc (g ∷ gs) (m ∷ ls) (suc j) l d h n e =
    ap (λ es. record { label = m; inward = is_inward g.arrow } ∷ es) (slots_suc gs ls j l d (omega arith) (omega arith) e)

pub slots_more : (gs : List LegValue) (ls : List ℤ) (j : ℕ) (l d : ℤ) → j < length gs → length ls ≡ length gs → get_or ls j d ≡ l →
    ends (slots_of (take (j + 1) gs) (take (j + 1) ls)) ≡
    ends (slots_of (take j gs) (take j ls)) ++ record { label = l; inward = is_inward (get_or gs j no_leg).arrow } ∷ []
slots_more gs ls j l d h n e =
    subst (λ k. ends (slots_of (take k gs) (take k ls)) ≡ ends (slots_of (take j gs) (take j ls)) ++ record { label = l; inward = is_inward (get_or gs j no_leg).arrow } ∷ [])
    (sym (add-one j)) (slots_suc gs ls j l d h n e)
