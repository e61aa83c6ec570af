use Rattle.std.proofs.Common.{◌∙◌, map, sym}
use Rattle.clap.specs.Matches.{found_of}
use Rattle.clap.proofs.WalkLemmas.{raw_values-rows}
use Rattle.commandline.proofs.command_line.files_found.Goals as goal

pub returns : goal.returns
returns c = record {
  all = map (λ word. word.now) c.in-Some.words.now;
  are = sym (c.in-Some.ensures ∙ raw_values-rows (found_of c.args.found.now) c.args.name.now);
  first = sym c.in_ok-word_in.ensures;
  second = c.word_in-2.ensures;
  third = c.word_in-3.ensures;
  fourth = c.word_in-4.ensures;
  fifth = c.word_in-5.ensures;
  sixth = c.word_in-6.ensures;
  seventh = c.word_in-7.ensures;
  eighth = c.word_in-8.ensures;
}
