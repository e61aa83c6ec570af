use Rattle.c_images.proofs.images.expand.Goals as goal

pub returns : goal.returns
returns c = record {
  answer = c.tell-became.result;
  numbers = c.expanded_number.ensures;
  file = c.put_text.ensures.file;
  report = c.put_text.ensures.report;
  counts = c.put_expanded.ensures;
  made = c.tell-became.ensures;
}
