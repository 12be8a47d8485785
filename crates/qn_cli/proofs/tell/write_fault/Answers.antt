use Rattle.std.proofs.Common.{◌≡◌, w64, to_z, of_z, rules}
use Rattle.qn_cli.proofs.tell.write_fault.Goals as goal

pub returns-clause-whole : goal.returns-clause-whole
returns-clause-whole g c =
    let item : to_z w64 (of_z w64 c.args.fault.item) ≡ c.args.fault.item = search rules in
    rw (
      c.as_slice.ensures,
      c.as_bytes.ensures.value,
      c.format.ensures.text,
      c.as_slice-2.ensures,
      c.as_bytes-2.ensures.value,
      c.format-2.ensures.text,
      c.as_slice-3.ensures,
      c.as_bytes-3.ensures.value,
      c.format-3.ensures.text,
      c.as_slice-4.ensures,
      c.as_bytes-4.ensures.value,
      c.format-4.ensures.text,
      c.as_slice-5.ensures,
      item,
    ) at c.write_pieces.ensures.whole

pub returns-clause-part : goal.returns-clause-part
returns-clause-part g c =
    let item : to_z w64 (of_z w64 c.args.fault.item) ≡ c.args.fault.item = search rules in
    rw (
      c.as_slice.ensures,
      c.as_bytes.ensures.value,
      c.format.ensures.text,
      c.as_slice-2.ensures,
      c.as_bytes-2.ensures.value,
      c.format-2.ensures.text,
      c.as_slice-3.ensures,
      c.as_bytes-3.ensures.value,
      c.format-3.ensures.text,
      c.as_slice-4.ensures,
      c.as_bytes-4.ensures.value,
      c.format-4.ensures.text,
      c.as_slice-5.ensures,
      item,
    ) at c.write_pieces.ensures.part
