-- What a block adds, by the parts of the block.
use Rattle.std.proofs.Common.{◌≡◌, ℕ, Bool, List, ◌∙◌, ap, get_or}
use Rattle.qn_gauss.specs.Gaussian.{Gaussian, zero_g, mag, signed}
use Rattle.qn_strides.specs.Strides.{KeptValue, SummedValue, start_of, sum_along, total_along}
use Rattle.qn_trace.specs.Sources.{SourceValue, source_term, source_size}

pub term_path : (x : SourceValue) (n : ℕ) (es : List Gaussian) (ss : List SummedValue) (m : Bool) (ks : List KeptValue) (st : ℕ) → es ≡ x.entries → ss ≡ x.summed → m ≡ x.minus → ks ≡ x.kept → st ≡ start_of ks n →
    signed m (sum_along (λ p. get_or es p zero_g) ss st) ≡ source_term n x
term_path x n es ss m ks st e s b k h = λ i. signed (b i) (sum_along (λ p. get_or (e i) p zero_g) (s i) ((h ∙ ap (λ y. start_of y n) k) i))

pub size_path : (x : SourceValue) (n : ℕ) (es : List Gaussian) (ss : List SummedValue) (ks : List KeptValue) (st : ℕ) → es ≡ x.entries → ss ≡ x.summed → ks ≡ x.kept → st ≡ start_of ks n →
    total_along (λ p. mag (get_or es p zero_g)) ss st ≡ source_size n x
size_path x n es ss ks st e s k h = λ i. total_along (λ p. mag (get_or (e i) p zero_g)) (s i) ((h ∙ ap (λ y. start_of y n) k) i)
