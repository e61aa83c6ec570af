use Rattle.addresses.proofs.names.Names.of.Goals as goal

pub returns : goal.returns
returns c = record {
  sections = c.in_ok-sections.sections;
  parts = c.in_ok-sections.ensures;
  symbols = c.in_ok-of.ensures;
}
