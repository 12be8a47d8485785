-- A worked network meets what the laws ask for.
use Rattle.std.proofs.Common.{◌≡◌, ◌≢◌, ◌<◌, ℕ, ℤ, pos, Bool, true, false, ◌&&◌, ◌||◌, [], ◌∷◌, refl, sym, ap, inl, int_eq, arith}
use Rattle.std.proofs.lemmas.Bool.{false≢true}
use Rattle.qn_gauss.specs.Gaussian.{one_g, neg_g}
use Rattle.qn_value.specs.Networks.{End, same_bool}
use Rattle.qn_value.specs.Labels.{is_positive, IsWellLabelled}
use Rattle.qn_value.proofs.Sums.{label_test}
use Rattle.qn_value.proofs.BlockRows.{all-nil, all-cons}
use Rattle.qn_value.proofs.ExampleLemmas.{is_placed, is_uniform}
use Rattle.qn_block.specs.Tables.{fuse_tensor}
use Rattle.qn_net.specs.NetworkValues.{IsWellFormed, IsOrderOf, bonds, sectors}
use Rattle.qn_net.specs.Operations.{AreLines, AreCouplesOf, ArePairsOf}
use Rattle.qn_net.specs.Examples.{trace_alone, two, one_fused, one_combiner, turned_fused, turned_combiner}

abbrev inward : End
inward = record { label = pos 1; inward = true }

abbrev outward : End
outward = record { label = pos 1; inward = false }

labelled : IsWellLabelled (inward ∷ outward ∷ []) 0
labelled = record {
  distinct = (refl, (refl, tt));
  paired = λ l p. both (int_eq l (pos 1));
  open_once = λ i h. absurd (omega (arith, h));
  no_more = λ e h. inl (known e (int_eq e.label (pos 1)) refl h);
}
  where
    both : (b : Bool) → ((b && true) || ((b && false) || false)) ≡ ((b && false) || ((b && true) || false))
    both true = refl
    both false = refl

    known : (e : End) (b : Bool) → int_eq e.label (pos 1) ≡ b → ((b && same_bool e.inward true) || ((b && same_bool e.inward false) || false)) ≡ true → is_positive e.label ≡ true
    known e true q h = ap is_positive (label_test.equal e.label (pos 1) q)
    known e false q h = absurd (false≢true h)

ordered : IsOrderOf (inward ∷ outward ∷ []) (pos 1 ∷ [])
ordered = record { distinct = (refl, tt); positive = λ l. by l (int_eq l (pos 1)) refl }
  where
    none_of : (b : Bool) → false ≡ (b && false)
    none_of true = refl
    none_of false = refl

    by : (l : ℤ) (b : Bool) → int_eq l (pos 1) ≡ b → (b || false) ≡ (is_positive l && ((b && true) || ((b && false) || false)))
    by l true q = ap (λ m. is_positive m && true) (sym (label_test.equal l (pos 1) q))
    by l false q = none_of (is_positive l)

pub well_formed : IsWellFormed trace_alone
well_formed = record {
  group = (tt, tt);
  some = omega arith;
  placed = is_placed;
  labelled = labelled;
  uniform = is_uniform;
  order = ordered;
  twists = λ l h. absurd (false≢true h);
  ascending = λ i h. absurd (omega (arith, h));
}

pub lines : AreLines (sectors trace_alone) (bonds trace_alone)
lines = (refl, refl, tt)

differ : ◌≢◌ {A = ℕ} 0 1
differ e = absurd (omega (arith, e))

pub couples : AreCouplesOf (pos 1 ∷ pos 1 ∷ []) (bonds trace_alone) ((0, 1) ∷ [])
couples = record {
  first = refl;
  second = refl;
  within = all-cons (λ (c : ℕ × ℕ). (c.0 < 2) × (c.1 < 2) × (c.0 ≢ c.1)) (0, 1) [] (omega arith, omega arith, differ) (all-nil (λ (c : ℕ × ℕ). (c.0 < 2) × (c.1 < 2) × (c.0 ≢ c.1)));
}

pub pairs : ArePairsOf (pos 1 ∷ []) (pos 1 ∷ []) (bonds two) ((0, 0) ∷ [])
pairs = record {
  first = refl;
  second = refl;
  within = all-cons (λ (c : ℕ × ℕ). (c.0 < 1) × (c.1 < 1)) (0, 0) [] (omega arith, omega arith) (all-nil (λ (c : ℕ × ℕ). (c.0 < 1) × (c.1 < 1)));
}

pub table : one_fused ≡ fuse_tensor one_combiner
unfolding one_g neg_g
table = refl

pub turned_table : turned_fused ≡ fuse_tensor turned_combiner
unfolding one_g neg_g
turned_table = refl
