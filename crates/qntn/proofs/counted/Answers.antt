use Rattle.qntn.proofs.counted.Goals as goal

pub returns : goal.returns
returns g c = (
  c.run-status.result,
  _,
  _,
  c.exit_number.ensures,
  record {
    usage = λ place is. (c.run-status.ensures.usage place is).0;
    bytes = λ job is. c.run-status.ensures.bytes job is;
  },
  c.run-status.ensures.line,
)
