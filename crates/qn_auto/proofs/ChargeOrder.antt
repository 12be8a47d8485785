-- The order of charges, and the sectors of a link.
use Rattle.std.proofs.Common.{◌≡◌, ℕ, ℤ, suc, ◌+◌, ◌<◌, ◌≤◌, Bool, true, false, cond, List, [], ◌∷◌, length, refl, sym, ap, arith}
use Rattle.std.specs.Cmp.Lexicographic.{slice_cmp}
use Rattle.std.specs.Ordering.{int_cmp, is_lt, ordering_reverse}
use Rattle.std.specs.declared.cmp.Ordering.{Ordering}
use Rattle.std.specs.declared.cmp.Ordering.TheVariants.{Less, Equal, Greater}
use Rattle.std.proofs.lemmas.Bool.{false≢true}
use Rattle.std.proofs.lemmas.Cmp.{tied_itself}
use Rattle.qn_sign.specs.Sign.{is_in}
use Rattle.qn_index.specs.Legs.{SectorValue, total}
use Rattle.qn_block.proofs.Partition.{charges_total, same_charges}
use Rattle.qn_auto.specs.Automaton.{Stage, Term, stage, stages, enter, enter_new, same_stage}
use Rattle.qn_auto.specs.LinkOrder.{IsStrict, add_value, sectors_of}
use Rattle.qn_auto.specs.SumAutomaton.{charge_lower}
use Rattle.qn_auto.proofs.Stages.{AllOf}
use Rattle.qn_facts.proofs.Orderings.{is_less}

tie : (o p : Ordering) → o ≡ ordering_reverse p → is_lt o ≡ false → is_lt p ≡ false → o ≡ Equal
tie Less p r e f = absurd (false≢true (sym e))
tie Equal p r e f = refl
tie Greater Less r e f = absurd (false≢true (sym f))
tie Greater Equal r e f = cc
tie Greater Greater r e f = cc

pub charge_strict : IsStrict charge_lower
charge_strict = record {
  itself = λ x. ap is_lt (tied_itself charges_total x);
  trans = λ x y z e f. ap is_lt (charges_total.trans x y z (is_less (slice_cmp int_cmp x y) e) (is_less (slice_cmp int_cmp y z) f));
  total = λ x y e f. same_charges x y (tie (slice_cmp int_cmp x y) (slice_cmp int_cmp y x) (charges_total.antisymm x y) e f);
}

-- ---- sectors

module _ (lower : List ℤ → List ℤ → Bool) where
  -- the charges of the sectors are charges of the values
  pub sector_charges : (P : List ℤ → Type 0) (qs : List (List ℤ)) → AllOf P qs → AllOf (λ (s : SectorValue). P s.charge) (sectors_of lower qs)
  sector_charges P [] h = tt
  sector_charges P (q ∷ qs) h = go (sectors_of lower qs) (sector_charges P qs h.1)
    where
      go : (ss : List SectorValue) → AllOf (λ (s : SectorValue). P s.charge) ss → AllOf (λ (s : SectorValue). P s.charge) (add_value lower q ss)
      go [] a = (h.0, tt)
      go (s ∷ ss) a = at (lower q s.charge)
        where
          at : (b : Bool) → AllOf (λ (s : SectorValue). P s.charge) (cond b (record { charge = q; dim = 1 } ∷ s ∷ ss) (record { charge = s.charge; dim = suc s.dim } ∷ ss))
          at true = (h.0, a)
          at false = (a.0, a.1)

  -- there are as many values as charges
  pub sector_total : (qs : List (List ℤ)) → total (sectors_of lower qs) ≡ length qs
  sector_total [] = refl
  sector_total (q ∷ qs) = go (sectors_of lower qs) (sector_total qs)
    where
      one_more : (d t n : ℕ) → d + t ≡ n → suc d + t ≡ suc n
      one_more d t n h = omega arith

      first : (t n : ℕ) → t ≡ n → 1 + t ≡ suc n
      first t n h = omega arith

      go : (ss : List SectorValue) → total ss ≡ length qs → total (add_value lower q ss) ≡ suc (length qs)
      go [] e = first 0 (length qs) e
      go (s ∷ ss) e = at (lower q s.charge)
        where
          at : (b : Bool) → total (cond b (record { charge = q; dim = 1 } ∷ s ∷ ss) (record { charge = s.charge; dim = suc s.dim } ∷ ss)) ≡ suc (length qs)
          at true = first (s.dim + total ss) (length qs) e
          at false = one_more s.dim (total ss) (length qs) e

  -- no sector is empty
  pub sector_some : (qs : List (List ℤ)) → AllOf (λ (s : SectorValue). 0 < s.dim) (sectors_of lower qs)
  sector_some [] = tt
  sector_some (q ∷ qs) = go (sectors_of lower qs) (sector_some qs)
    where
      one : 0 < 1
      one = omega arith

      more : (n : ℕ) → 0 < suc n
      more n = omega arith

      go : (ss : List SectorValue) → AllOf (λ (s : SectorValue). 0 < s.dim) ss → AllOf (λ (s : SectorValue). 0 < s.dim) (add_value lower q ss)
      go [] a = (one, tt)
      go (s ∷ ss) a = at (lower q s.charge)
        where
          at : (b : Bool) → AllOf (λ (s : SectorValue). 0 < s.dim) (cond b (record { charge = q; dim = 1 } ∷ s ∷ ss) (record { charge = s.charge; dim = suc s.dim } ∷ ss))
          at true = (one, a)
          at false = (more s.dim, a.1)

-- a sector has at most as many values as all sectors
pub dims_below : (ss : List SectorValue) → AllOf (λ (s : SectorValue). s.dim ≤ total ss) ss
dims_below ss = go ss (total ss) (least (total ss))
  where
    least : (n : ℕ) → n ≤ n
    least n = omega arith

    first : (d t n : ℕ) → d + t ≤ n → d ≤ n
    first d t n h = omega arith

    later : (d t n : ℕ) → d + t ≤ n → t ≤ n
    later d t n h = omega arith

    go : (ps : List SectorValue) (n : ℕ) → total ps ≤ n → AllOf (λ (s : SectorValue). s.dim ≤ n) ps
    go [] n h = tt
    go (p ∷ ps) n h = (first p.dim (total ps) n h, go ps n (later p.dim (total ps) n h))

-- ---- how many states there are

module _ (earlier : Stage → Stage → Bool) where
  length_enter : (x : Stage) (ys : List Stage) → length (enter earlier x ys) ≡ suc (length ys)
  length_enter x [] = refl
  length_enter x (y ∷ ys) = go (earlier x y) (length_enter x ys)
    where
      go : (b : Bool) → length (enter earlier x ys) ≡ suc (length ys) → length (cond b (x ∷ y ∷ ys) (y ∷ enter earlier x ys)) ≡ suc (suc (length ys))
      go true e = refl
      go false e = ap suc e

  pub length_stages : (ws : List Term) (j : ℕ) → length (stages earlier ws j) ≤ length ws
  length_stages [] j = omega arith
  length_stages (w ∷ ws) j = go (is_in same_stage (stage j w.factors) (stages earlier ws j)) (length_stages ws j)
    where
      wide : (m n : ℕ) → m ≤ n → m ≤ suc n
      wide m n h = omega arith

      up : (k m n : ℕ) → k ≡ suc m → m ≤ n → k ≤ suc n
      up k m n e h = omega arith

      go : (b : Bool) → length (stages earlier ws j) ≤ length ws → length (cond b (stages earlier ws j) (enter earlier (stage j w.factors) (stages earlier ws j))) ≤ suc (length ws)
      go true h = wide (length (stages earlier ws j)) (length ws) h
      go false h = up (length (enter earlier (stage j w.factors) (stages earlier ws j))) (length (stages earlier ws j)) (length ws) (length_enter (stage j w.factors) (stages earlier ws j)) h

  pub some_stages : (w : Term) (ws : List Term) (j : ℕ) → 0 < length (stages earlier (w ∷ ws) j)
  some_stages w ws j = go (stages earlier ws j)
    where
      more : (n : ℕ) → 0 < suc n
      more n = omega arith

      some : (k m : ℕ) → k ≡ suc m → 0 < k
      some k m e = omega arith

      go : (ys : List Stage) → 0 < length (enter_new earlier (stage j w.factors) ys)
      go [] = more 0
      go (y ∷ ys) = at (is_in same_stage (stage j w.factors) (y ∷ ys))
        where
          at : (b : Bool) → 0 < length (cond b (y ∷ ys) (enter earlier (stage j w.factors) (y ∷ ys)))
          at true = more (length ys)
          at false = some (length (enter earlier (stage j w.factors) (y ∷ ys))) (length (y ∷ ys)) (length_enter (stage j w.factors) (y ∷ ys))
