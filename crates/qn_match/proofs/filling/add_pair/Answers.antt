use Rattle.std.proofs.Common.{◌∙◌, ◌≡◌, ◌<◌, ◌++◌, ◌∷◌, [], false, arith, length, get_or, ap, sym, subst}
use Rattle.std.proofs.lemmas.Result.{on_ok_weaker}
use Rattle.std.specs.List.{All}
use Rattle.std.proofs.lemmas.List.{get_or_default}
use Rattle.qn_value.specs.Tensors.{same_values}
use Rattle.qn_match.specs.Index.{AreInOrder}
use Rattle.qn_match.specs.Pairs.{TaskValue, no_task}
use Rattle.qn_match.proofs.Added.{none_added, one_added}
use Rattle.qn_match.proofs.filling.add_pair.Goals as goal

pub find-requires : goal.find-requires
find-requires c = subst AreInOrder (sym c.deref.ensures.value) c.requires

pub index_mut-requires : goal.index_mut-requires
index_mut-requires c = omega (arith, c.in-Some.ensures.0, c.deref.ensures.len)

pub returns-in-Some : goal.returns-in-Some
returns-in-Some c =
    let ts = c.args.tasks.now.items in
    let k = c.in-Some.k in
    let lt : k < length ts = omega (arith, c.in-Some.ensures.0, c.deref.ensures.len) in
    let old = c.index_mut.ensures.value ∙ get_or_default ts k c.index_mut.result.now no_task lt in
    let tuple = ap (λ us. (get_or us k no_task).out) (sym c.deref.ensures.value) ∙ c.in-Some.ensures.1 in
    on_ok_weaker c.push_pair.result
    (λ pushed. one_added ts c.args.out.now c.args.pair k c.push_pair.new.task c.requires lt tuple (pushed ∙ ap (λ (t : TaskValue). record { out = t.out; pairs = t.pairs ++ c.args.pair ∷ [] }) old)) c.push_pair.ensures

pub returns-in-None : goal.returns-in-None
returns-in-None c =
    none_added c.args.tasks.now.items c.args.out.now c.args.pair (subst (All (λ (t : TaskValue). same_values c.args.out.now t.out ≡ false)) c.deref.ensures.value c.in-None.ensures)
