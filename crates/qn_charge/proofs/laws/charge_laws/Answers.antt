use Rattle.qn_charge.specs.Laws.{canonical_sum, canonical_neg, canon_of_canonical, sum_of_canon, sum_cancels, neg_of_neg, neg_of_zero, neg_of_sum, parity_of_neg, in_range, length_canonical, none_out_of_range}
use Rattle.qn_charge.proofs.laws.charge_laws.Goals as goal

pub returns : goal.returns
returns c = record {
  sum_is_canonical = canonical_sum;
  neg_is_canonical = canonical_neg;
  canonical_count = length_canonical;
  canon_keeps_canonical = canon_of_canonical;
  canon_before_sum = sum_of_canon;
  sum_cancels = sum_cancels;
  neg_of_neg = neg_of_neg;
  neg_of_zero = neg_of_zero;
  neg_of_sum = neg_of_sum;
  parity_of_neg = parity_of_neg;
  in_range = in_range;
  none_out_of_range = none_out_of_range;
}
