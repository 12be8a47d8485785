-- The terms of a sum in site order, as the program makes them.
use Rattle.std.proofs.Common.{◌≡◌, ℕ, ◌<◌, ◌≤◌, inl, inr, Bool, true, false, cond, ◌==◌, List, [], ◌∷◌, length, get_or, map, filter, sym, ◌∙◌, ap, ap₂, subst, arith}
use Rattle.std.specs.List.{All}
use Rattle.std.proofs.lemmas.Bool.{false≢true}
use Rattle.std.proofs.lemmas.Bool.Decides.{nat_tests}
use Rattle.std.proofs.lemmas.List.{get_or_default}
use Rattle.qn_sign.specs.Sign.{is_odd}
use Rattle.qn_gauss.specs.Gaussian.{Gaussian, signed}
use Rattle.qn_sites.specs.Sites.{SiteValue}
use Rattle.qn_opsum.specs.Strings.{Factor, inversions}
use Rattle.qn_opsum.specs.Sums.{IsSiteOrder, NormalValue, SumValue, TermValue, factor_of, term_at}
use Rattle.qn_opsum.specs.Refusals.{IsGood, IsSum}
use Rattle.qn_opsum.proofs.Lookups.{good_at}
use Rattle.qn_opsum.proofs.SiteOrder.{good_positive, sorted_is}
use Rattle.qn_auto.specs.Automaton.{Term, normal}
use Rattle.qn_auto.specs.SumAutomaton.{sites_in, term_in}
use Rattle.qn_auto.proofs.Ordered.{In, all_to, in_from}
use Rattle.qn_auto.proofs.Stages.{AllOf}

-- an operator by the number of its site and its name
abbrev Named : Type 0
Named = ℕ × List ℕ

in_filter : (p : Named → Bool) (x : Named) (xs : List Named) → In x xs → p x ≡ true → In x (filter p xs)
in_filter p x [] h e = absurd h
in_filter p x (y ∷ ys) (inl q) e = go (p y) (sym (ap p q) ∙ e)
  where
    go : (b : Bool) → b ≡ true → In x (cond b (y ∷ filter p ys) (filter p ys))
    go true r = inl q
    go false r = absurd (false≢true r)
in_filter p x (y ∷ ys) (inr h) e = go (p y) (in_filter p x ys h e)
  where
    go : (b : Bool) → In x (filter p ys) → In x (cond b (y ∷ filter p ys) (filter p ys))
    go true i = inr i
    go false i = i

from_filter : (p : Named → Bool) (x : Named) (xs : List Named) → In x (filter p xs) → In x xs
from_filter p x [] h = absurd h
from_filter p x (y ∷ ys) h = go (p y) h (from_filter p x ys)
  where
    go : (b : Bool) → In x (cond b (y ∷ filter p ys) (filter p ys)) → (In x (filter p ys) → In x ys) → In x (y ∷ ys)
    go true (inl q) ih = inl q
    go true (inr i) ih = inr (ih i)
    go false i ih = inr (ih i)

of_in : (P : Named → Type 0) (x : Named) (xs : List Named) → AllOf P xs → In x xs → P x
of_in P x [] a h = absurd h
of_in P x (y ∷ ys) a (inl q) = subst P (sym q) a.0
of_in P x (y ∷ ys) a (inr h) = of_in P x ys a.1 h

same_number : (k : ℕ) → (k == k) ≡ true
same_number k = grind (arith, nat_tests)

-- what holds of the operators holds of them in site order
pub all_in_order : (P : Named → Type 0) (gs hs : List Named) → IsSiteOrder gs hs → All P gs → All P hs
all_in_order P gs hs o h k d lt =
    let x = get_or hs k d in
    let there : In x hs = in_from x hs (k, lt, get_or_default hs k x d lt) in
    let kept : In x (filter (λ f. f.0 == x.0) hs) = in_filter (λ f. f.0 == x.0) x hs there (same_number x.0) in
    of_in P x gs (all_to P gs h) (from_filter (λ f. f.0 == x.0) x gs (subst (λ zs. In x zs) (o.stable x.0) kept))

-- the operators of a good term are on the sites
pub good_sites : (ss : List SiteValue) (gs : List Named) → IsGood ss gs → All (λ (f : Named). 0 < f.0) gs × All (λ (f : Named). f.0 ≤ length ss) gs
good_sites ss gs good = (
  (λ k d lt. (good_at ss gs k (get_or gs k d) good lt (get_or_default gs k d (get_or gs k d) lt)).0),
  (λ k d lt. (good_at ss gs k (get_or gs k d) good lt (get_or_default gs k d (get_or gs k d) lt)).1),
)

-- what numbering the operators asks
pub sites_fit : (v : SumValue) → IsSum v → (t : ℕ) → t < length v.terms → (hs ks : List Named) → IsSiteOrder (term_at v.terms t).factors hs → ks ≡ hs → (ss : List SiteValue) → ss ≡ v.sites →
    All (λ (f : Named). 0 < f.0) ks × All (λ (f : Named). f.0 ≤ length ss) ks
sites_fit v h t lt hs ks o e ss es =
    let good = good_sites v.sites (term_at v.terms t).factors (h.good t lt) in
    subst (λ xs. All (λ (f : Named). 0 < f.0) xs × All (λ (f : Named). f.0 ≤ length ss) xs) (sym e) (
      all_in_order (λ (f : Named). 0 < f.0) (term_at v.terms t).factors hs o good.0,
      subst (λ (zs : List SiteValue). All (λ (f : Named). f.0 ≤ length zs) hs) (sym es) (all_in_order (λ (f : Named). f.0 ≤ length v.sites) (term_at v.terms t).factors hs o good.1),
    )

-- the term that is made
pub ordered_is : (v : SumValue) → IsSum v → (t : ℕ) → t < length v.terms → (n : NormalValue) → IsSiteOrder (term_at v.terms t).factors n.factors →
    n.negative ≡ is_odd (inversions (sites_in v) (map (factor_of v.sites) (term_at v.terms t).factors)) →
    (w : TermValue) → w ≡ term_at v.terms t → (a : Gaussian) → a ≡ signed n.negative w.coef → (fs : List Factor) → fs ≡ map (factor_of v.sites) n.factors →
    (p : Term) → p.amount ≡ a → p.factors ≡ fs → p ≡ normal (sites_in v) (term_in v.sites (term_at v.terms t))
ordered_is v h t lt n o sign w same a ea fs ef p pa pf =
    ap₂ (λ x (ys : List Factor). record { amount = x; factors = ys })
    (pa ∙ (ea ∙ ap₂ signed sign (ap (λ (z : TermValue). z.coef) same)))
    (pf ∙ (ef ∙ sorted_is v.sites (term_at v.terms t).factors n.factors (good_positive v.sites (term_at v.terms t).factors (h.good t lt)) o))
