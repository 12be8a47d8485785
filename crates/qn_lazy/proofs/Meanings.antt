-- What a rule of one leg means.
use Rattle.std.proofs.Common.{[], ◌∷◌, refl, sym, ◌∙◌, get_or, subst}
use Rattle.qn_value.specs.Local.{no_leg}
use Rattle.qn_diagonal.specs.Diagonal.{IsDiagonal}
use Rattle.qn_diagonal.proofs.Diagonals.{diagonal_law}
use Rattle.qn_lazy.specs.LegRules.{weight_of}
use Rattle.qn_lazy.specs.Meaning.{OneAnswerLaw, TableLaw, LegRuleLaw}

pub one_answer_law : OneAnswerLaw
one_answer_law r xs z w v e f = e ∙ sym f

pub table_law : TableLaw
table_law r a h = record {
  group = h.group;
  legs = h.legs;
  flux = h.flux;
  entries = λ v w l m. h.entries (v ∷ w ∷ []) (l, (m, refl));
}

pub leg_rule_law : LegRuleLaw
leg_rule_law r a t p q m tensor lt group leg h pair moved =
    diagonal_law a t p q m (weight_of r.leg r.part) tensor lt
    (subst (λ fs. IsDiagonal fs (get_or t.legs m no_leg) (weight_of r.leg r.part) a) group (subst (λ l. IsDiagonal r.group l (weight_of r.leg r.part) a) leg (table_law r a h))) pair moved
