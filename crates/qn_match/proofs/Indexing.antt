-- Blocks found by their sectors on the shared legs.
use Rattle.std.proofs.Common.{◌≡◌, ℕ, ◌+◌, ◌<◌, ◌==◌, ◌&&◌, Bool, true, false, cond, List, [], ◌∷◌, ◌++◌, map, filter, get_or, arith, refl, sym, ap, ap₂, subst, ◌∙◌}
use Rattle.std.specs.Prelude.{nat_eq, Option, Some, None, vec_len}
use Rattle.std.specs.Cmp.Lexicographic.{pointwise, bytes_decides, nat_list_eq_equiv}
use Rattle.std.specs.Option.{option_map_or, UnwrapsOrElse}
use Rattle.std.specs.declared.vec.Vec.{Vec}
use Rattle.std.proofs.lemmas.List.{append-nil}
use Rattle.std.proofs.lemmas.List.FromFn.{get_or-range_with_len, length-range_with_len}
use Rattle.indexmap.specs.IndexMap.{IndexMap, get, Updates}
use Rattle.smallvec.specs.SmallVec.{SmallVec}
use Rattle.std.proofs.lemmas.List.Elements.{filter-append, All-filter}
use Rattle.std.specs.List.{All}
use Rattle.qn_sign.specs.Positions.{positions}
use Rattle.qn_match.specs.Index.{positions_of}
use Rattle.qn_match.specs.Keys.{digits_of}
use Rattle.qn_match.specs.Pairs.{agree}
use Rattle.qn_match.proofs.Lefts.{positions_more}

-- two tuples have one key exactly where they agree on the shared legs
pub keys_agree : (shared : List (ℕ × ℕ)) (t u : List ℕ) → pointwise nat_eq (digits_of (map (λ p. p.0) shared) t) (digits_of (map (λ p. p.1) shared) u) ≡ agree shared t u
keys_agree [] t u = refl
keys_agree (p ∷ ps) t u = ap (λ b. (get_or t p.0 0 == get_or u p.1 0) && b) (keys_agree ps t u)

-- one position more
pub kept_more : (p : ℕ → Bool) (n : ℕ) (old new : List ℕ) → old ≡ filter p (positions n) → new ≡ old ++ cond (p n) (n ∷ []) [] → new ≡ filter p (positions (n + 1))
kept_more p n old new h e =
    e ∙ (ap (λ xs. xs ++ cond (p n) (n ∷ []) []) h ∙ (sym (filter-append p (positions n) (n ∷ [])) ∙ ap (filter p) (sym (positions_more n))))

-- pairs of one first position, with a test of the second position before that of the pair
pub row_kept : (p r : ℕ × ℕ → Bool) (q : ℕ → Bool) (i : ℕ) (ks : List ℕ) → ((j : ℕ) → r (i, j) ≡ (q j && p (i, j))) → filter p (map (λ j. (i, j)) (filter q ks)) ≡ filter r (map (λ j. (i, j)) ks)
row_kept p r q i [] e = refl
row_kept p r q i (k ∷ ks) e = by (q k) (e k) (row_kept p r q i ks e)
  where
    rest : List (ℕ × ℕ)
    rest = filter r (map (λ j. (i, j)) ks)

    by : (b : Bool) → r (i, k) ≡ (b && p (i, k)) → filter p (map (λ j. (i, j)) (filter q ks)) ≡ rest → filter p (map (λ j. (i, j)) (cond b (k ∷ filter q ks) (filter q ks))) ≡ cond (r (i, k)) ((i, k) ∷ rest) rest
    by true h same = ap (λ xs. cond (p (i, k)) ((i, k) ∷ xs) xs) same ∙ ap (λ b. cond b ((i, k) ∷ rest) rest) (sym h)
    by false h same = same ∙ ap (λ b. cond b ((i, k) ∷ rest) rest) (sym h)

-- ---- one position more at a key

abbrev pub same_key : SmallVec ℕ → SmallVec ℕ → Bool
same_key v w = pointwise nat_eq v.items w.items

module _ {A S : Type 0} where
  pub position_added : (m n : IndexMap (SmallVec ℕ) (Vec ℕ A) S) (key : SmallVec ℕ) (v w : Vec ℕ A) (j : ℕ) (o : Option (Vec ℕ A)) → Updates same_key m n key (Some w) → o ≡ get same_key m key →
      UnwrapsOrElse o (λ x. (x.items ≡ []) × (vec_len x ≡ 0)) v → w.items ≡ v.items ++ j ∷ [] →
      (other : List ℕ) → positions_of n other ≡ positions_of m other ++ cond (pointwise nat_eq other key.items) (j ∷ []) []
  position_added m n key v w j o up e d more other = by (pointwise nat_eq key.items other) refl
    where
      q : SmallVec ℕ
      q = record { items = other; capacity = 0 }

      old : (p : Option (Vec ℕ A)) → UnwrapsOrElse p (λ x. (x.items ≡ []) × (vec_len x ≡ 0)) v → v.items ≡ option_map_or (λ x. x.items) p []
      old None h = h.0
      old (Some x) h = ap (λ y. y.items) h

      by : (b : Bool) → pointwise nat_eq key.items other ≡ b → positions_of n other ≡ positions_of m other ++ cond (pointwise nat_eq other key.items) (j ∷ []) []
      by true h =
          let same : key.items ≡ other = (bytes_decides key.items other).0 h in
          let turned : pointwise nat_eq other key.items ≡ true = (bytes_decides other key.items).1 (sym same) in
          let here : v.items ≡ positions_of m other = old o d ∙ (ap (λ p. option_map_or (λ x. x.items) p []) e ∙ ap (positions_of m) same) in
          ap (λ p. option_map_or (λ x. x.items) p []) (up.0 q ∙ ap (λ b. cond b (Some w) (get same_key m q)) h)
          ∙ (more ∙ ap₂ (λ xs b. xs ++ cond b (j ∷ []) []) here (sym turned))
      by false h =
          let turned : pointwise nat_eq other key.items ≡ false = nat_list_eq_equiv.symm other key.items ∙ h in
          ap (λ p. option_map_or (λ x. x.items) p []) (up.0 q ∙ ap (λ b. cond b (Some w) (get same_key m q)) h)
          ∙ (sym (append-nil (positions_of m other)) ∙ ap (λ b. positions_of m other ++ cond b (j ∷ []) []) (sym turned))

-- positions that an index has are below the number of blocks
pub positions_below : (p : ℕ → Bool) (n : ℕ) (ks : List ℕ) → ks ≡ filter p (positions n) → All (λ k. k < n) ks
positions_below p n ks e =
    let all : All (λ k. k < n) (positions n) =
    λ i j lt.
    let m : i < n = omega (arith, length-range_with_len 0 n) in
    omega (arith, get_or-range_with_len 0 n i j m) in
    subst (All (λ k. k < n)) (sym e) (All-filter p (λ k. k < n) (positions n) all)
