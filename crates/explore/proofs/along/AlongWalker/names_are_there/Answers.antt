use Rattle.explore.proofs.along.AlongWalker.names_are_there.Goals as goal

pub returns : goal.returns
returns g c = c.args.self.now.is_tidy.names
