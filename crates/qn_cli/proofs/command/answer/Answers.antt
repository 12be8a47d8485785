use Rattle.qn_cli.proofs.command.answer.Goals as goal

pub returns-clause-tells : goal.returns-clause-tells
returns-clause-tells g c = (
  c.in-Ok.text.items,
  c.in-Ok.ensures.text,
  (
    c.in-Err-write_all.field-0.written,
    rw c.as_slice.ensures.value at c.in-Err-write_all.ensures.fewer,
    rw c.as_slice.ensures.value at c.in-Err-write_all.ensures.part,
  ),
)
