-- A shape is as wide whatever the order of its legs.
use Rattle.std.proofs.Common.{◌≡◌, ℕ, ◌+◌, ◌*◌, ℤ, List, [], ◌∷◌, length, arith, refl, ap, ap₂, ◌∙◌, sym}
use Rattle.qn_sign.specs.Sign.{Perm}
use Rattle.qn_sign.specs.Sign.Perm.{none, keep, swap, then_by}
use Rattle.qn_charge.specs.declared.factor.Factor.{Factor}
use Rattle.qn_charge.specs.Charges.{neg_charge, IsGroup, IsCanonical}
use Rattle.qn_charge.specs.Laws.{canonical_sum}
use Rattle.qn_index.specs.Legs.{LegValue, sector_at}
use Rattle.qn_index.specs.Tuples.{count, signed, upward}
use Rattle.qn_index.specs.Extents.{entries}
use Rattle.qn_index.specs.Weights.{remaining}
use Rattle.qn_index.proofs.Admitted.{total_over, entries_step, mul_add}
use Rattle.qn_permute.proofs.Columns.{swap_times, swap_charges}
use Rattle.qn_index.proofs.Admitted.{total_same}
use Rattle.qn_block.proofs.Mirror.{total_zero}
use Rattle.qn_block.proofs.Mirror.{total_add}
use Rattle.qn_block.proofs.Mirror.{total_swap}

pub count_perm : {ks ms : List LegValue} → Perm ks ms → count ks ≡ count ms
count_perm none = refl
count_perm (keep {x = l} p) = ap (λ n. length l.sectors * n) (count_perm p)
count_perm (swap {x = k} {y = l} {xs = ls}) = swap_times (length k.sectors) (length l.sectors) (count ls)
count_perm (then_by p q) = count_perm p ∙ count_perm q

-- ---- sums

total_times : (d : ℕ) (f : ℕ → ℕ) (ss : List ℕ) → d * total_over f ss ≡ total_over (λ s. d * f s) ss
total_times d f [] = omega arith
total_times d f (s ∷ ss) = mul_add d (f s) (total_over f ss) ∙ ap (λ n. d * f s + n) (total_times d f ss)

-- ---- entries

-- a sum over the sectors of a leg
abbrev over : LegValue → (ℕ → ℕ) → ℕ
over l f = total_over (λ s. (sector_at l.sectors s).dim * f s) (upward 0 (length l.sectors))

over_alike : (l : LegValue) (f g : ℕ → ℕ) → ((s : ℕ) → f s ≡ g s) → over l f ≡ over l g
over_alike l f g h = total_same (λ s. (sector_at l.sectors s).dim * f s) (λ s. (sector_at l.sectors s).dim * g s) (upward 0 (length l.sectors)) (λ s. ap (λ n. (sector_at l.sectors s).dim * n) (h s))

over_swap : (k l : LegValue) (f : ℕ → ℕ → ℕ) → over k (λ s. over l (f s)) ≡ over l (λ u. over k (λ s. f s u))
over_swap k l f =
    let ss : List ℕ = upward 0 (length k.sectors) in
    let us : List ℕ = upward 0 (length l.sectors) in
    let a : ℕ → ℕ = λ s. (sector_at k.sectors s).dim in
    let b : ℕ → ℕ = λ u. (sector_at l.sectors u).dim in
    total_same (λ s. a s * total_over (λ u. b u * f s u) us) (λ s. total_over (λ u. a s * (b u * f s u)) us) ss (λ s. total_times (a s) (λ u. b u * f s u) us)
    ∙ (total_swap (λ s u. a s * (b u * f s u)) ss us
    ∙ total_same (λ u. total_over (λ s. a s * (b u * f s u)) ss) (λ u. b u * total_over (λ s. a s * f s u) ss) us
    (λ u. total_same (λ s. a s * (b u * f s u)) (λ s. b u * (a s * f s u)) ss (λ s. swap_times (a s) (b u) (f s u)) ∙ sym (total_times (b u) (λ s. a s * f s u) ss)))

pub entries_perm : (fs : List Factor) (q : List ℤ) {ks ms : List LegValue} → IsGroup fs → IsCanonical fs q → Perm ks ms → entries fs ks q ≡ entries fs ms q
entries_perm fs q g h none = refl
entries_perm fs q g h (keep {x = l} {xs = ks} {ys = ms} p) =
    entries_step fs l ks q g h
    ∙ (over_alike l (λ s. entries fs ks (remaining fs (signed fs l s) q)) (λ s. entries fs ms (remaining fs (signed fs l s) q))
    (λ s. entries_perm fs (remaining fs (signed fs l s) q) g (canonical_sum fs (neg_charge fs (signed fs l s)) q g) p)
    ∙ sym (entries_step fs l ms q g h))
entries_perm fs q g h (swap {x = k} {y = l} {xs = ls}) =
    both k l
    ∙ (over_swap k l (λ s u. entries fs ls (remaining fs (signed fs l u) (remaining fs (signed fs k s) q)))
    ∙ (over_alike l (λ u. over k (λ s. entries fs ls (remaining fs (signed fs l u) (remaining fs (signed fs k s) q)))) (λ u. over k (λ s. entries fs ls (remaining fs (signed fs k s) (remaining fs (signed fs l u) q))))
    (λ u. over_alike k (λ s. entries fs ls (remaining fs (signed fs l u) (remaining fs (signed fs k s) q))) (λ s. entries fs ls (remaining fs (signed fs k s) (remaining fs (signed fs l u) q)))
    (λ s. ap (entries fs ls) (swap_charges fs (neg_charge fs (signed fs l u)) (neg_charge fs (signed fs k s)) q g)))
    ∙ sym (both l k)))
  where
    both : (a b : LegValue) → entries fs (a ∷ b ∷ ls) q ≡ over a (λ s. over b (λ u. entries fs ls (remaining fs (signed fs b u) (remaining fs (signed fs a s) q))))
    both a b =
        entries_step fs a (b ∷ ls) q g h
        ∙ over_alike a (λ s. entries fs (b ∷ ls) (remaining fs (signed fs a s) q)) (λ s. over b (λ u. entries fs ls (remaining fs (signed fs b u) (remaining fs (signed fs a s) q))))
        (λ s. entries_step fs b ls (remaining fs (signed fs a s) q) g (canonical_sum fs (neg_charge fs (signed fs a s)) q g))
entries_perm fs q g h (then_by p r) = entries_perm fs q g h p ∙ entries_perm fs q g h r
