-- Facts on orderings and on lists that are compared by them.
use Rattle.std.proofs.Common.{◌≡◌, ◌≤◌, ℕ, true, List, [], ◌∷◌, refl, sym, subst, arith}
use Rattle.std.specs.Cmp.Lexicographic.{slice_cmp}
use Rattle.std.specs.Ordering.{is_lt, nat_cmp, ordering_index, ordering_then}
use Rattle.std.specs.declared.cmp.Ordering.{Ordering}
use Rattle.std.specs.declared.cmp.Ordering.TheVariants.{Less, Equal, Greater}
use Rattle.std.proofs.lemmas.Cmp.{ranked}

pub is_less : (o : Ordering) → is_lt o ≡ true → o ≡ Less
is_less Less e = refl
is_less Equal e = absurd (cc e)
is_less Greater e = absurd (cc e)

pub both_equal : (o p : Ordering) → ordering_then o p ≡ Equal → (o ≡ Equal) × (p ≡ Equal)
both_equal Less p e = absurd (cc e)
both_equal Equal p e = (refl, e)
both_equal Greater p e = absurd (cc e)

pub index_rises : (o p : Ordering) → (p ≡ Less → o ≡ Less) → (p ≡ Equal → o ≡ Less) → ordering_index o ≤ ordering_index p
index_rises o Less l e = subst (λ k. ordering_index k ≤ 0) (sym (l refl)) (omega arith)
index_rises o Equal l e = subst (λ k. ordering_index k ≤ 1) (sym (e refl)) (omega arith)
index_rises Less Greater l e = omega arith
index_rises Equal Greater l e = omega arith
index_rises Greater Greater l e = omega arith

-- lists that tie are the same
pub same_list : (xs ys : List ℕ) → slice_cmp nat_cmp xs ys ≡ Equal → xs ≡ ys
same_list [] [] e = refl
same_list [] (y ∷ ys) e = absurd (cc e)
same_list (x ∷ xs) [] e = absurd (cc e)
same_list (x ∷ xs) (y ∷ ys) e =
    let b = both_equal (nat_cmp x y) (slice_cmp nat_cmp xs ys) e in
    let first : x ≡ y = ranked x y Equal (sym b.0) in
    let rest : xs ≡ ys = same_list xs ys b.1 in
    cc
