-- The tables of a site's operators, asked of their rules.
use Rattle.std.proofs.Common.{◌≡◌, ℕ, ◌<◌, List, [], ◌∷◌, length, get_or, refl, sym, ◌∙◌, ap, subst}
use Rattle.std.proofs.lemmas.List.{get_or_default}
use Rattle.qn_gauss.specs.Gaussian.{Gaussian}
use Rattle.qn_index.specs.Legs.{total}
use Rattle.qn_index.specs.Places.{IsValues}
use Rattle.qn_rule.specs.Rules.{RuleValue}
use Rattle.qn_sites.specs.Operators.{OpValue, element, op_legs}
use Rattle.qn_sites.specs.Sites.{SiteValue, no_operator}
use Rattle.qn_opsum.specs.Sums.{op_at}
use Rattle.qn_mpo.specs.Builds.{AnswersSite}
use Rattle.qn_mpo.specs.Tables.{AreTables, IsTableOf}

-- what asking one rule for the table of its operator needs
pub asked_fits : {F : Type 0} (answers : F → List ℕ → Gaussian → Type 0) (s : SiteValue) (rs : List (RuleValue F)) → AnswersSite answers s rs →
    (i d : ℕ) (r : RuleValue F) (os : List OpValue) (o : OpValue) → i < length rs → r ≡ get_or rs i r → d ≡ total s.leg.sectors → os ≡ s.ops → o ≡ get_or os i o →
    ((x y : ℕ) → x < d → y < d → IsValues r.legs (x ∷ y ∷ [])) × ((x y : ℕ) (z : Gaussian) → x < d → y < d → answers r.function (x ∷ y ∷ []) z → z ≡ element o x y)
asked_fits {F = F} answers s rs h i d r os o lt is ed eo at = (
  (λ x y hx hy. subst (λ ls. IsValues ls (x ∷ y ∷ [])) (sym legs) (values x y hx hy)),
  (λ x y z hx hy a. h.entries i r lt (x ∷ y ∷ []) z (values x y hx hy) (subst (λ (q : RuleValue F). answers q.function (x ∷ y ∷ []) z) is a) ∙ ap (λ (p : OpValue). element p x y) (sym same)),
)
  where
    legs : r.legs ≡ op_legs s.leg
    legs = ap (λ (q : RuleValue F). q.legs) is ∙ h.legs i r lt

    values : (x y : ℕ) → x < d → y < d → IsValues (op_legs s.leg) (x ∷ y ∷ [])
    values x y hx hy = (subst (λ n. x < n) ed hx, (subst (λ n. y < n) ed hy, refl))

    same : o ≡ op_at s.ops i
    same = at ∙ (ap (λ xs. get_or xs i o) eo ∙ get_or_default s.ops i o no_operator (subst (λ n. i < n) h.count lt))

-- the table of an operator by its place
pub table_of_op : (s : SiteValue) (i d : ℕ) (os : List OpValue) (o : OpValue) (t : List Gaussian) → os ≡ s.ops → o ≡ get_or os i o → i < length s.ops → d ≡ total s.leg.sectors → IsTableOf d (element o) t →
    IsTableOf (total s.leg.sectors) (element (op_at s.ops i)) t
table_of_op s i d os o t eo at lt ed h =
    subst (λ n. IsTableOf n (element (op_at s.ops i)) t) ed
    (subst (λ (p : OpValue). IsTableOf d (element p) t) (at ∙ (ap (λ xs. get_or xs i o) eo ∙ get_or_default s.ops i o no_operator lt)) h)

pub tables_are : (s : SiteValue) (i : ℕ) (ts : List (List Gaussian)) → length ts ≡ i → i ≡ length s.ops → ((o : ℕ) → o < i → IsTableOf (total s.leg.sectors) (element (op_at s.ops o)) (get_or ts o [])) → AreTables s ts
tables_are s i ts n e h = record {
  count = n ∙ e;
  tables = λ o d lt. subst (IsTableOf (total s.leg.sectors) (element (op_at s.ops o))) (get_or_default ts o [] d lt) (h o (subst (λ k. o < k) n lt));
}
