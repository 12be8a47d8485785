-- What is said of the tree of a document: a sum is told by it, and so is the first fault of its terms.
use Rattle.std.proofs.Common.{◌≡◌, Option, Some, None, sym, ap, subst, ◌∙◌}
use Rattle.std.specs.Option.{IsSomeAnd}
use Rattle.serde_json.specs.Data.{Data}
use Rattle.qn_opsum.specs.Sums.{SumValue, charge_of, term_at}
use Rattle.qn_opsum.specs.Refusals.{IsSumFault as IsTermsFaulty}
use Rattle.qn_parts.specs.declared.fault.Fault.{Fault}
use Rattle.qn_parts.specs.Documents.{factors_of}
use Rattle.qn_sumdoc.specs.Sites.{sites_of}
use Rattle.qn_sumdoc.specs.Terms.{terms_of, IsTermsFault, placed as sum_placed}
use Rattle.qn_sumdoc.specs.Sums.{IsSumOf}
use Rattle.qn_cli.proofs.OneSumFault.{one_sum_fault, no_sum_fault}

abbrev value_or : {A : Type 0} → A → Option A → A
value_or d None = d
value_or d (Some x) = x

pub some_same : {A : Type 0} (x y : A) → Some x ≡ Some y → x ≡ y
some_same x y e = ap (value_or x) e

pub none_some : {A : Type 0} (o : Option A) (x : A) → o ≡ None → o ≡ Some x → ⊥
none_some None x n s = let e : None ≡ Some x = s in absurd (cc e)
none_some (Some y) x n s = absurd (cc n)

-- what is said of the tree of the bytes
pub both : {A : Type 0} {P Q : Data → Type 0} (o : Option Data) → IsSomeAnd o P → IsSomeAnd o Q → ((d : Data) → P d → Q d → A) → A
both None p q f = absurd p
both (Some d) p q f = f d p q

-- the sum that a tree means
pub sum_told : (d : Data) (u : SumValue) → IsSumOf d u → u ≡ record { group = factors_of d; sites = sites_of d; terms = terms_of d; flux = charge_of (factors_of d) (sites_of d) (term_at (terms_of d) 0).factors }
sum_told d u a =
    ap (λ g. record { group = g; sites = u.sites; terms = u.terms; flux = u.flux }) a.group
    ∙ (ap (λ ss. record { group = factors_of d; sites = ss; terms = u.terms; flux = u.flux }) a.sites
    ∙ (ap (λ ws. record { group = factors_of d; sites = sites_of d; terms = ws; flux = u.flux }) a.terms
    ∙ ap (λ q. record { group = factors_of d; sites = sites_of d; terms = terms_of d; flux = q }) a.flux))

pub same_terms_fault : (d : Data) (f g : Fault) → IsTermsFault d f → IsTermsFault d g → f ≡ g
same_terms_fault d f g a b =
    let same : a.0 ≡ b.0 = one_sum_fault (factors_of d) (sites_of d) (terms_of d) a.0 b.0 a.2 b.2 in
    some_same f g (sym a.1 ∙ (ap sum_placed same ∙ b.1))

pub no_terms_fault : (d : Data) (v : SumValue) (f : Fault) → IsSumOf d v → IsTermsFault d f → ⊥
no_terms_fault d v f s p =
    no_sum_fault v p.0 s.faultless
    (subst (λ fs. IsTermsFaulty fs v.sites v.terms p.0) (sym s.group) (subst (λ ss. IsTermsFaulty (factors_of d) ss v.terms p.0) (sym s.sites) (subst (λ ws. IsTermsFaulty (factors_of d) (sites_of d) ws p.0) (sym s.terms) p.2)))
