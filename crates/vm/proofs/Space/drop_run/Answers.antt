use Rattle.vm.proofs.Tables.{below-there}
use Rattle.vm.proofs.Space.drop_run.Goals as goal

pub leaf_table-low-requires-clause-there : goal.leaf_table-low-requires-clause-there
leaf_table-low-requires-clause-there c = below-there c.requires.held.dense c.args.to c.requires.run.some
