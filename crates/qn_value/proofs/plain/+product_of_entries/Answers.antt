use Rattle.std.proofs.Common.{rules}
use Rattle.qn_value.specs.Numbering.{assignment_of}
use Rattle.qn_value.proofs.PlainLemmas.{product_none, magnitude_none, magnitude_passes, one_within, zero_within}
use Rattle.qn_value.proofs.plain.+product_of_entries.Goals as goal

pub returns-then-is_zero-clause-value : goal.returns-then-is_zero-clause-value
returns-then-is_zero-clause-value t c =
    product_none c.in-Some.tensor.now c.in-Some.rest.now c.args.tensors.now (assignment_of c.args.summand.now) c.entry_in_summand-entry.result (search rules) (search rules) (search rules)

pub returns-then-is_zero-clause-magnitude : goal.returns-then-is_zero-clause-magnitude
returns-then-is_zero-clause-magnitude t c =
    magnitude_none c.in-Some.tensor.now c.in-Some.rest.now c.args.tensors.now (assignment_of c.args.summand.now) c.entry_in_summand-entry.result (search rules) (search rules) (search rules)

pub returns-in-None-product_of_entries-clause-none :
    goal.returns-in-None-product_of_entries-clause-none
returns-in-None-product_of_entries-clause-none t c e =
    magnitude_passes c.in-Some.tensor.now c.in-Some.rest.now c.args.tensors.now (assignment_of c.args.summand.now) c.entry_in_summand-entry.result (search rules) (search rules) (search rules) (search rules)

pub returns-then-is_zero-clause-within : goal.returns-then-is_zero-clause-within
returns-then-is_zero-clause-within t c = zero_within c.entry_in_summand-entry.result (search rules)

pub returns-in-None-clause-within : goal.returns-in-None-clause-within
returns-in-None-clause-within t c = one_within c.one.result c.one.ensures
