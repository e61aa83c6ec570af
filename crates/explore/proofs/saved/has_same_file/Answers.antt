use Rattle.std.proofs.Common.{ap, not, refl, ◌∙◌}
use Rattle.explore.proofs.Comparing.{by-bytes, none-by, same-unnamed}
use Rattle.explore.specs.Both.{named_of}
use Rattle.unixmodel.specs.Files.{slot}
use Rattle.explore.proofs.saved.has_same_file.Goals as goal

pub returns-then-is_none : goal.returns-then-is_none
returns-then-is_none g c = record {
  stays = c.in_ok-stat.ensures.0.state;
  other_stays = c.in_ok-their_stat.ensures.0.state;
  says = λ _. same-unnamed (slot c.args.one.now.state.files c.args.number)
      (slot c.args.other.now.state.files c.args.number) c.named-file.result c.named-their_file.result
      (c.named-file.ensures ∙ ap named_of c.in_ok-stat.ensures.1)
      (c.named-their_file.ensures ∙ ap named_of c.in_ok-their_stat.ensures.1)
      (c.if-not-is_same.ensures refl) (none-by c.named-file.result (ap not c.if-is_none.ensures));
}

pub returns : goal.returns
returns g c = by-bytes c.args.one.now c.stat_inode.new.self c.has_same_bytes.new.one c.args.other.now
    c.stat_inode-2.new.self c.has_same_bytes.new.other c.args.number c.named-file.result c.named-their_file.result
    c.has_same_bytes.result c.in_ok-stat.ensures.0.state c.in_ok-their_stat.ensures.0.state
    (c.named-file.ensures ∙ ap named_of c.in_ok-stat.ensures.1)
    (c.named-their_file.ensures ∙ ap named_of c.in_ok-their_stat.ensures.1)
    (c.if-not-is_same.ensures refl) c.has_same_bytes.ensures
