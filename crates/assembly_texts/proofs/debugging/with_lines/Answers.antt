use Rattle.assembly_texts.proofs.Sections.{sections}
use Rattle.assembly_texts.proofs.debugging.with_lines.Goals as goal

pub returns : goal.returns
returns c = sections _ _ _ (record {
  files = c.deref-2.result;
  rows = c.deref-3.result;
  labels = c.deref-4.result;
  size = c.in_ok-debugging.debugging.address;
}) c.deref-5.ensures.value c.in_ok-file.ensures
