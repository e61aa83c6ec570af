use Rattle.assembly_texts.proofs.Headers.{whole}
use Rattle.assembly_texts.proofs.making.make_with_lines.Goals as goal

pub with_lines-requires : goal.with_lines-requires
with_lines-requires c = whole _ _ c.in_ok-made.ensures

pub returns : goal.returns
returns c = record {
  plain = c.in_ok-made.made.file.items;
  assembled = c.in_ok-made.ensures;
  sections = c.in_ok-file.ensures;
}
