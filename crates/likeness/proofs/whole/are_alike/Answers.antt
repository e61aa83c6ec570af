use Rattle.likeness.proofs.Reading.{files-last}
use Rattle.likeness.proofs.whole.are_alike.Goals as goal

pub returns : goal.returns
returns g c = files-last c.fitting_states_are_renumbered.ensures c.args.one.now c.has_same_files.new.one
    c.args.other.now c.has_same_files.new.other c.has_same_files.result c.if-not-is_same_but_files.ensures
    c.has_same_files.ensures
